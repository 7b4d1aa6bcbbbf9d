-- `copy_out`: the piece's bytes, and behind them the output as it was.
use Rattle.std.proofs.Common.{◌≡◌, ◌+◌, length, take, ap, sym, ◌∙◌, arith}
use Rattle.std.proofs.lemmas.List.Edits.{sets-eq}
use Rattle.pieces.specs.Pieces.{Bytes}
use Rattle.pieces.specs.Filling.{same_length}
use Rattle.pieces.proofs.Growing.{put_long}
use Rattle.pieces.proofs.Piece.copy_out.Goals as goal

pub returns : goal.returns
returns c =
    let p = c.self.inside in
    let put_is : take p.length p.bytes ≡ c.args.self.now.put = ap (λ (s : Bytes). s.put) c.self.view_is in
    let short : length c.args.self.now.put ≡ p.length = put_long (sym c.self.view_is) ∙ same_length p c.self.invariant in
    let placed = sets-eq c.args.self.now.put c.args.out.now 0 (omega arith) in
    let front : 0 + length c.args.self.now.put ≡ p.length = omega arith in
    rw (placed, front, c.copy_from_slice.ensures.after, put_is)
