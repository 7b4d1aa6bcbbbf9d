-- No second outcome satisfies a contract of this crate: each is an equation of what the piece has, or of the output at exit.
use Rattle.std.proofs.Common.{◌≡◌, ℕ, List, [], ◌∷◌, sym, ◌∙◌}
use Rattle.std.specs.Prelude.{length}
use Rattle.std.proofs.lemmas.List.Edits.{sets}
use Rattle.lines.specs.Numbers.{decimal}
use Rattle.pieces.specs.Pieces.{Bytes, empty_piece, grown}
use Rattle.pieces.specs.Lines.{key_line, list_line, pair_line}

pub empty_piece_unique : (r s : Bytes) → r ≡ empty_piece → s ≡ empty_piece → r ≡ s
empty_piece_unique r s p q = p ∙ sym q

pub len_unique : (piece : Bytes) (r s : ℕ) → r ≡ length piece.put → s ≡ length piece.put → r ≡ s
len_unique piece r s p q = p ∙ sym q

pub put_byte_unique : (piece : Bytes) (byte : ℕ) (r s : Bytes) → r ≡ grown piece (byte ∷ []) → s ≡ grown piece (byte ∷ []) → r ≡ s
put_byte_unique piece byte r s p q = p ∙ sym q

pub put_bytes_unique : (piece : Bytes) (text : List ℕ) (r s : Bytes) → r ≡ grown piece text → s ≡ grown piece text → r ≡ s
put_bytes_unique piece text r s p q = p ∙ sym q

pub put_number_unique : (piece : Bytes) (n : ℕ) (r s : Bytes) → r ≡ grown piece (decimal n) → s ≡ grown piece (decimal n) → r ≡ s
put_number_unique piece n r s p q = p ∙ sym q

pub copy_out_unique : (piece : Bytes) (out exit other : List ℕ) → exit ≡ sets out 0 piece.put → other ≡ sets out 0 piece.put → exit ≡ other
copy_out_unique piece out exit other p q = p ∙ sym q

pub put_line_unique : (piece : Bytes) (key : List ℕ) (n : ℕ) (r s : Bytes) → r ≡ grown piece (key_line key n) → s ≡ grown piece (key_line key n) → r ≡ s
put_line_unique piece key n r s p q = p ∙ sym q

pub put_list_unique : (piece : Bytes) (key values : List ℕ) (r s : Bytes) → r ≡ grown piece (list_line key values) → s ≡ grown piece (list_line key values) → r ≡ s
put_list_unique piece key values r s p q = p ∙ sym q

pub put_pair_unique : (piece : Bytes) (key : List ℕ) (a b : ℕ) (r s : Bytes) → r ≡ grown piece (pair_line key a b) → s ≡ grown piece (pair_line key a b) → r ≡ s
put_pair_unique piece key a b r s p q = p ∙ sym q
