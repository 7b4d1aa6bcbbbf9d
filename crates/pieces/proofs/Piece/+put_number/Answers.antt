-- `put_number`: a tenth has one digit less, and the last one is put behind those.
use Rattle.std.proofs.Common.{ℕ, ◌+◌, ◌/◌, ◌%◌, List, [], ◌∷◌, ap, sym, ◌∙◌, arith, length-append}
use Rattle.lines.specs.Numbers.{decimal}
use Rattle.lines.proofs.Decimals.{decimal_tens, tens_length}
use Rattle.pieces.specs.Pieces.{Bytes, grown}
use Rattle.pieces.proofs.Growing.{grown_grown, put_long}
use Rattle.pieces.proofs.Piece.+put_number.Goals as goal

pub put_byte-requires-else-n-lt10 : goal.put_byte-requires-else-n-lt10
put_byte-requires-else-n-lt10 t c =
    omega (arith, tens_length c.args.n c.if-n-lt10.false, put_long c.put_number.ensures, length-append {A = ℕ})

pub returns-else-n-lt10 : goal.returns-else-n-lt10
returns-else-n-lt10 t c =
    let digit : List ℕ = (48 + c.args.n % 10) ∷ [] in
    c.put_byte-else-n-lt10.ensures
    ∙ ap (λ (p : Bytes). grown p digit) c.put_number.ensures
    ∙ grown_grown c.args.self.now (decimal (c.args.n / 10)) digit
    ∙ ap (grown c.args.self.now) (sym (decimal_tens c.args.n c.if-n-lt10.false))
