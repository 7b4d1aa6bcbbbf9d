-- A piece as it lies in memory: its bytes, of which so many are put.
use Rattle.std.specs.Prelude.{◌≡◌, ◌≤◌, ◌++◌, length, take, drop}
use Rattle.std.proofs.Common.{sym, subst, length-take-le, take-append-drop}
use Rattle.pieces.specs.declared.Piece.TheInside.{Inside}
use Rattle.pieces.specs.Pieces.{piece_room, Bytes}

-- what a clause sees of it
abbrev pub put_so_far : Inside → Bytes
put_so_far p = record { put = take p.length p.bytes; behind = drop p.length p.bytes }

-- of every piece: what is put fits. What lies behind it may be anything.
pub record Filled (p : Inside) : Type 0 where
  pub within : p.length ≤ piece_room
  pub long : length p.bytes ≡ piece_room

-- nothing of a piece is hidden from a clause: what is seen gives it back, so that it can be copied
abbrev pub laid_out : Bytes → Inside
laid_out b = record { length = length b.put; bytes = b.put ++ b.behind }

pub same_length : (p : Inside) → Filled p → length (put_so_far p).put ≡ p.length
same_length p filled = length-take-le p.length p.bytes (subst (λ n. p.length ≤ n) (sym filled.long) filled.within)

pub same_bytes : (p : Inside) → (put_so_far p).put ++ (put_so_far p).behind ≡ p.bytes
same_bytes p = take-append-drop p.length p.bytes
