-- `put_number`: a tenth is less.
use Rattle.pieces.proofs.Piece.+put_number.Given as goal

abbrev pub decreases-put_number : goal.decreases-put_number
decreases-put_number l = l.n
