-- No second answer satisfies a contract.
use mathlib.Core.Path.{◌≡◌, refl, sym, ap, ◌∙◌}
use Rattle.std.specs.Prelude.{Option, None, Some, is_some}
use Rattle.std.specs.Option.{unwrap_or}
use Rattle.model.specs.declared.Cut.{Cut}
use mathlib.Core.List.{List, []}
use Prim.Native.Nat.{ℕ}
use Rattle.model.specs.declared.Question.{Question}
use Rattle.model.specs.Store.{Store, store_of, no_record}
use Rattle.questions.specs.Holdings.{ForHeld}
use Rattle.walks.specs.declared.showing.Listed.{Listed}
use Rattle.walks.specs.Counting.{CountedTo}
use Rattle.walks.specs.Finding.{AskedOf, cut_found}
use Rattle.walks.specs.Showing.{ShownOf}

-- two answers that say alike whether there is something, and alike what it is, are one
pub same_answer : {A B : Type 0} (value : Option A → B) → ((x y : A) → value (Some x) ≡ value (Some y) → x ≡ y) → (a b : Option A) → is_some a ≡ is_some b → value a ≡ value b → a ≡ b
same_answer value tells None None some same = refl
same_answer value tells None (Some y) some same = cc
same_answer value tells (Some x) None some same = cc
same_answer value tells (Some x) (Some y) some same = ap Some (tells x y same)

pub count_span_unique : (cuts : List (List ℕ)) (a b : Option ℕ) → CountedTo cuts (is_some a) (unwrap_or a 0) → CountedTo cuts (is_some b) (unwrap_or b 0) → a ≡ b
count_span_unique cuts a b p q = same_answer (λ (o : Option ℕ). unwrap_or o 0) (λ x y e. e) a b (p.fits_is ∙ sym q.fits_is) (p.count_is ∙ sym q.count_is)

pub first_meeting_unique : (held : List ℕ) (question : Question) (cuts : List (List ℕ)) (a b : Option Cut) → ForHeld held (λ s. AskedOf s question cuts (is_some a) (cut_found a)) → ForHeld held (λ s. AskedOf s question cuts (is_some b) (cut_found b)) → a ≡ b
first_meeting_unique held question cuts a b f g =
    let p = f some refl in
    let q = g some refl in
    same_answer cut_found (λ (x y : Cut) e. λ i. record { counts = e i }) a b (p.found_is ∙ sym q.found_is) (p.cut_is ∙ sym q.cut_is)
  where
    some : Store
    some = store_of no_record [] held []

pub show_unique : (cuts : List (List ℕ)) (out : List ℕ) (a b : Listed) (first second : List ℕ) → ShownOf cuts out a.written a.place a.more first → ShownOf cuts out b.written b.place b.more second → (a ≡ b) × (first ≡ second)
show_unique cuts out a b first second p q = (
  (λ i. record { written = (p.count_is ∙ sym q.count_is) i; place = (p.place_is a.place ∙ sym (q.place_is a.place)) i; more = (p.more_is ∙ sym q.more_is) i }),
  p.output_is ∙ sym q.output_is,
)
