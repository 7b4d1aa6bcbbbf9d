-- Bytes put behind bytes that were put.
use Rattle.std.proofs.Common.{◌≡◌, [], ◌++◌, List, ℕ, length, drop, ap, sym, ◌∙◌, append_assoc, append-nil, length-append}
use Rattle.std.proofs.lemmas.List.{drop-drop}
use Rattle.pieces.specs.Pieces.{Bytes, grown}

abbrev pub with_parts : List ℕ → List ℕ → Bytes
with_parts put behind = record { put = put; behind = behind }

pub grown_grown : (p : Bytes) (a b : List ℕ) → grown (grown p a) b ≡ grown p (a ++ b)
grown_grown p a b =
    ap (λ l. with_parts l (drop (length b) (drop (length a) p.behind))) (append_assoc p.put a b)
    ∙ ap (with_parts (p.put ++ (a ++ b))) (drop-drop (length b) (length a) p.behind ∙ ap (λ n. drop n p.behind) (sym (length-append a b)))

pub grown_none : (p : Bytes) → grown p [] ≡ p
grown_none p = ap (λ l. with_parts l p.behind) (append-nil p.put)

-- equal pieces have as much put
pub put_long : {p q : Bytes} → p ≡ q → length p.put ≡ length q.put
put_long same = ap (λ (p : Bytes). length p.put) same
