-- Reading before the first event: the buffers' sizes, the `tablets` line, and the fresh record.
use mathlib.Core.Path.{◌≡◌, refl, sym, ap, ◌∙◌}
use mathlib.Core.Bool.{Bool, true, false, false≢true, cond, not}
use mathlib.Core.List.{List, [], ◌∷◌}
use Prim.Native.Nat.{ℕ, ◌≤◌}
use native.Mathlib.Omega.{arith}
use Rattle.model.specs.Lists.{eight}
use Rattle.model.specs.Follow.{tallies}
use Rattle.std.specs.Prelude.{Option, Some, None, Result, Ok, Err, is_err, eqb}
use Rattle.model.specs.declared.Record.{Record}
use Rattle.model.specs.declared.Refusal.{Refusal}
use Rattle.model.specs.Refusals.{number_of, verdict_number}
use Rattle.model.specs.Store.{Store, store_of, fresh_record, no_record, full_sizes, full_size, valid, record_refusal, store_refusal}
use Rattle.model.proofs.Refusals.{or_else_next, number_positive}
use Rattle.store.specs.Outcomes.{Opened, opened, opening, AppendReady}
use Rattle.store.proofs.Verdicts.{record_passes}
use borrow.Author.Tests.{eq-eqb, ne_eqb}
use Rattle.std.proofs.lemmas.Bool.{cond-true, cond-false, true_from_ne_false, false_from_ne_true}
use Rattle.lines.specs.Find.{rest_lines}
use Rattle.loglines.specs.Keys.{number_line, tablets_key}
use Rattle.loglines.specs.Events.{with_said}
use Rattle.text.specs.Steps.{heading}
use Rattle.text.specs.Reading.{ReadOutcome, refused, nothing_read, opened_text, read_on, beginning, going_on, reading}
use Rattle.loglines.proofs.Lines.{with_value, with_fault}

-- the store test of a trace without events is the test of the sizes

module _ (clocks held order : List ℕ) where
  fresh_test : (n : ℕ) → record_refusal (fresh_record n) ≡ 0 → store_refusal (store_of (fresh_record n) clocks held order) ≡ cond (not (full_sizes clocks held order)) 2 0
  unfolding store_refusal full_size valid
  fresh_test n fits = or_else_next (record_refusal (fresh_record n)) (cond (not (full_sizes clocks held order)) 2 0) fits

  one_fits : record_refusal (fresh_record 1) ≡ 0
  one_fits = record_passes (fresh_record 1) refl

  pub sizes_fit : store_refusal (store_of (fresh_record 1) clocks held order) ≡ 0 → full_sizes clocks held order ≡ true
  sizes_fit z = true_from_ne_false (full_sizes clocks held order) (λ e. omega (arith, z, fresh_test 1 one_fits ∙ ap (λ (b : Bool). cond (not b) 2 0) e))

  pub sizes_short : 1 ≤ store_refusal (store_of (fresh_record 1) clocks held order) → full_sizes clocks held order ≡ false
  sizes_short h = false_from_ne_true (full_sizes clocks held order) (λ e. omega (arith, h, fresh_test 1 one_fits ∙ ap (λ (b : Bool). cond (not b) 2 0) e))

  -- as its caller tells the two ways
  tested_zero : (v : Result (Unit {0}) Refusal) → is_err v ≡ false → verdict_number v ≡ 0
  tested_zero (Ok x) e = refl
  tested_zero (Err why) e = absurd (false≢true (sym e))

  tested_some : (v : Result (Unit {0}) Refusal) → is_err v ≡ true → 1 ≤ verdict_number v
  tested_some (Ok x) e = absurd (false≢true e)
  tested_some (Err why) e = number_positive why

  module _ (v : Result (Unit {0}) Refusal) (r : Record) (smallest : r ≡ fresh_record 1) (told : verdict_number v ≡ store_refusal (store_of r clocks held order)) where
    tested : verdict_number v ≡ store_refusal (store_of (fresh_record 1) clocks held order)
    tested = told ∙ ap (λ (q : Record). store_refusal (store_of q clocks held order)) smallest

    pub found_long : is_err v ≡ false → full_sizes clocks held order ≡ true
    found_long e = sizes_fit (sym tested ∙ tested_zero v e)

    pub found_short : is_err v ≡ true → full_sizes clocks held order ≡ false
    found_short e = sizes_short (omega (arith, tested, tested_some v e))

  none_yet : ◌≡◌ {A = List ℕ} (0 ∷ 0 ∷ 0 ∷ 0 ∷ 0 ∷ 0 ∷ 0 ∷ 0 ∷ []) (tallies order 0)
  unfolding tallies eight
  none_yet = refl

  -- so a fresh record is ready for its first event
  pub fresh_store : (n : ℕ) → record_refusal (fresh_record n) ≡ 0 → full_sizes clocks held order ≡ true → AppendReady (store_of (fresh_record n) clocks held order) (0 ∷ 0 ∷ 0 ∷ 0 ∷ 0 ∷ 0 ∷ 0 ∷ 0 ∷ [])
  fresh_store n fits full = record { refusal = fresh_test n fits ∙ ap (λ (b : Bool). cond (not b) 2 0) full; tally = none_yet }

-- reading up to the first event

module _ (text clocks held order : List ℕ) where
  abbrev nothing : Store
  nothing = nothing_read clocks held order

  abbrev opens : ℕ → ReadOutcome
  opens n = opened_text (opening n) clocks held order

  abbrev first_line_lem : ReadOutcome
  first_line_lem = with_said (number_line tablets_key 255 text) (refused 12 1 nothing) opens

  begin_short : full_sizes clocks held order ≡ false → beginning text clocks held order ≡ refused 2 0 nothing
  unfolding beginning
  begin_short e = ap (λ (b : Bool). cond b first_line_lem (refused 2 0 nothing)) e

  module _ (full : full_sizes clocks held order ≡ true) where
    past_sizes : beginning text clocks held order ≡ first_line_lem
    unfolding beginning
    past_sizes = ap (λ (b : Bool). cond b first_line_lem (refused 2 0 nothing)) full

    begin_faulty : number_line tablets_key 255 text ≡ None → beginning text clocks held order ≡ refused 12 1 nothing
    begin_faulty e = past_sizes ∙ with_fault _ opens (number_line tablets_key 255 text) e

    module _ (n : ℕ) (is : number_line tablets_key 255 text ≡ Some n) where
      by_number : beginning text clocks held order ≡ opens n
      by_number = past_sizes ∙ with_value _ opens (number_line tablets_key 255 text) n is

      begin_refused : 1 ≤ record_refusal (fresh_record n) → beginning text clocks held order ≡ refused (record_refusal (fresh_record n)) 1 nothing
      begin_refused some =
          by_number
          ∙ ap (λ (r : Record). opened_text (record { refusal = record_refusal (fresh_record n); returned = r }) clocks held order) (cond-false _ _ _ (ne_eqb (record_refusal (fresh_record n)) 0 (omega arith)))
          ∙ ap (λ (line : ℕ). refused (record_refusal (fresh_record n)) line nothing) (cond-false _ _ _ (ne_eqb (record_refusal (fresh_record n)) 0 (omega arith)))

      begin_fresh : record_refusal (fresh_record n) ≡ 0 → beginning text clocks held order ≡ record { refusal = 0; line = 0; store = store_of (fresh_record n) clocks held order }
      begin_fresh none =
          by_number
          ∙ ap (λ (r : Record). opened_text (record { refusal = record_refusal (fresh_record n); returned = r }) clocks held order) (cond-true _ _ _ (eq-eqb (record_refusal (fresh_record n)) 0 none))
          ∙ ap {B = ReadOutcome} (λ (k : ℕ). record { refusal = k; line = cond (eqb k 0) 0 1; store = store_of (fresh_record n) clocks held order }) none

      pub reading_refused : 1 ≤ record_refusal (fresh_record n) → reading text clocks held order ≡ refused (record_refusal (fresh_record n)) 1 nothing
      unfolding reading
      reading_refused some = ap (going_on text) (begin_refused some) ∙ cond-false _ _ _ (ne_eqb (record_refusal (fresh_record n)) 0 (omega arith))

      pub reading_goes : record_refusal (fresh_record n) ≡ 0 → reading text clocks held order ≡ read_on (store_of (fresh_record n) clocks held order) 2 (rest_lines text)
      unfolding reading
      reading_goes none = ap (going_on text) (begin_fresh none)

    pub reading_faulty : number_line tablets_key 255 text ≡ None → reading text clocks held order ≡ refused 12 1 nothing
    unfolding reading
    reading_faulty e = ap (going_on text) (begin_faulty e)

  pub reading_short : full_sizes clocks held order ≡ false → reading text clocks held order ≡ refused 2 0 nothing
  unfolding reading
  reading_short e = ap (going_on text) (begin_short e)

-- what the head's line opens, told by what is answered

pub record HeadOpens (text : List ℕ) (r : Record) : Type 0 where
  pub tablets : ℕ
  pub said : number_line tablets_key 255 text ≡ Some tablets
  pub fits : record_refusal (fresh_record tablets) ≡ 0
  pub fresh : r ≡ fresh_record tablets

module _ (text : List ℕ) where
  abbrev by_number_said : Option ℕ → Opened
  by_number_said x = with_said x (record { refusal = 12; returned = no_record }) opening

  opens_by : (r : Record) (x : Option ℕ) → number_line tablets_key 255 text ≡ x → opened (Ok r) ≡ by_number_said x → HeadOpens text r
  opens_by r None said is = let no : ⊥ = omega (arith, ap (λ (o : Opened). o.refusal) is) in absurd no
  opens_by r (Some n) said is =
      let fits : record_refusal (fresh_record n) ≡ 0 = sym (ap (λ (o : Opened). o.refusal) is) in
      record {
        tablets = n;
        said = said;
        fits = fits;
        fresh = ap (λ (o : Opened). o.returned) is ∙ cond-true _ _ _ (eq-eqb (record_refusal (fresh_record n)) 0 fits);
      }

  pub head_opens : (r : Record) → opened (Ok r) ≡ heading text → HeadOpens text r
  head_opens r is = opens_by r (number_line tablets_key 255 text) refl is

  module _ (why : Refusal) (clocks held order : List ℕ) (full : full_sizes clocks held order ≡ true) where
    refuses_by : (x : Option ℕ) → number_line tablets_key 255 text ≡ x → opened (Err why) ≡ by_number_said x → reading text clocks held order ≡ refused (number_of why) 1 (nothing_read clocks held order)
    refuses_by None said is =
        reading_faulty text clocks held order full said
        ∙ ap (λ (k : ℕ). refused k 1 (nothing_read clocks held order)) (sym (ap (λ (o : Opened). o.refusal) is))
    refuses_by (Some n) said is =
        let number : number_of why ≡ record_refusal (fresh_record n) = ap (λ (o : Opened). o.refusal) is in
        reading_refused text clocks held order full n said (omega (arith, number_positive why, number))
        ∙ ap (λ (k : ℕ). refused k 1 (nothing_read clocks held order)) (sym number)

    pub head_refuses : opened (Err why) ≡ heading text → reading text clocks held order ≡ refused (number_of why) 1 (nothing_read clocks held order)
    head_refuses is = refuses_by (number_line tablets_key 255 text) refl is
