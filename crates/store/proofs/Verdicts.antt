-- The chain 1, 2, 3: what each way out of the store test says of the store.
use mathlib.Core.Path.{◌≡◌, refl, sym, ap, ap₂, ◌∙◌, subst}
use mathlib.Core.Logic.{by_cases}
use mathlib.Core.Bool.{Bool, true, false, cond, not, ◌&&◌}
use mathlib.Core.List.{List}
use Prim.Native.Nat.{ℕ, ◌≤◌, ◌<◌}
use native.Mathlib.Omega.{arith}
use native.Mathlib.Decide.{dec_le}
use lib.Dec.{leb, leb→le}
use borrow.Author.Tests.{le-leb, lt-leb, not-false}
use Rattle.model.specs.declared.Record.{Record}
use Rattle.model.specs.declared.Refusal.{Refusal}
use Rattle.model.specs.declared.Refusal.TheVariants.{InvalidStore}
use Rattle.std.specs.Prelude.{Result, Ok, Err, Option, Some, None, ok_or, IsErrAnd}
use Rattle.std.specs.Result.{result_and}
use Rattle.std.proofs.lemmas.Result.{err_from_is_err_and}
use Rattle.model.specs.Numbers.{tablets_fit}
use Rattle.model.specs.Refusals.{number_of, verdict_number, or_else}
use Rattle.model.specs.Follow.{follow_to}
use Rattle.model.specs.Store.{Store, record_of, clocks_of, full_size, full_sizes, valid, record_refusal, store_refusal}
use Rattle.std.proofs.lemmas.Float.{T_from_true}
use Rattle.model.proofs.Tests.{and_right}
use Rattle.model.proofs.Refusals.{or_else_next, or_else_first, passed_zero, refused_some, and_chain}
use Rattle.model.proofs.Follow.{passes, or_else_none}
use Rattle.model.proofs.Sound.{Full, full_sizes_lem}
use Rattle.store.specs.Testing.{Followed, StoreTested}

-- between 1 and 8 tablets
pub some_tablets : (n : ℕ) → 1 ≤ n → n ≤ 8 → tablets_fit n ≡ true
some_tablets n low high = simp (le-leb 1 n low, le-leb n 8 high)

-- what is tested of a record alone
module _ (r : Record) where
  pub record_passes : tablets_fit r.tablets ≡ true → record_refusal r ≡ 0
  unfolding record_refusal
  record_passes e = ap (λ (b : Bool). cond (not b) 1 0) e

  pub record_fits : record_refusal r ≡ 0 → tablets_fit r.tablets ≡ true
  unfolding record_refusal
  record_fits z = not-false (tablets_fit r.tablets) (passes (not (tablets_fit r.tablets)) 1 0 (omega arith) z).0

-- a record that passes has at most 8 tablets
pub narrow_record : (r : Record) → record_refusal r ≡ 0 → r.tablets ≤ 8
narrow_record r z =
    leb→le r.tablets 8 (and_right (leb 1 r.tablets) (leb r.tablets 8) (T_from_true (tablets_fit r.tablets) (record_fits r z)))

-- a chain that was refused before its last link is refused so as a whole
cut_short : (a : ℕ) (b : Bool) (rest : ℕ) → 1 ≤ or_else a (cond b 2 0) → or_else a (cond b 2 rest) ≡ or_else a (cond b 2 0)
cut_short a b rest h =
    by_cases (dec_le 1 a) (λ some. or_else_first a (cond b 2 rest) some ∙ sym (or_else_first a (cond b 2 0) some))
    (λ none. let z : a ≡ 0 = omega arith in
    or_else_next a (cond b 2 rest) z ∙ by_second b (rw (← or_else_next a (cond b 2 0) z) h) ∙ sym (or_else_next a (cond b 2 0) z))
  where
    by_second : (c : Bool) → 1 ≤ cond c 2 0 → cond c 2 rest ≡ cond c 2 0
    by_second true some = refl
    by_second false some = let no : ⊥ = omega arith in absurd no

-- a store is valid when its events are few enough and follow
pub too_many : (s : Store) → 2032 < s.events → valid s ≡ false
unfolding valid
too_many s h = ap (λ (b : Bool). b && follow_to s.tablets (clocks_of s) s.order s.events) (lt-leb s.events 2032 h)

pub valid_follow : (s : Store) → s.events ≤ 2032 → valid s ≡ follow_to s.tablets (clocks_of s) s.order s.events
unfolding valid
valid_follow s h = ap (λ (b : Bool). b && follow_to s.tablets (clocks_of s) s.order s.events) (le-leb s.events 2032 h)

-- a refusal gives no tallies
tested_refused : (s : Store) (why : Refusal) → store_refusal s ≡ number_of why → StoreTested s (Err why)
tested_refused s why r = record { number = sym r; tally = tt }

module _ (s : Store) where
  -- what is tested before the events: the record, then the sizes of the buffers
  abbrev pub before_events : ℕ
  before_events = or_else (record_refusal (record_of s)) (cond (not (full_size s)) 2 0)

  pub refused_before : 1 ≤ before_events → store_refusal s ≡ before_events
  unfolding store_refusal
  refused_before h = cut_short (record_refusal (record_of s)) (not (full_size s)) (cond (not (valid s)) 3 0) h

  pub passed_before : before_events ≡ 0 → (record_refusal (record_of s) ≡ 0) × (full_size s ≡ true)
  passed_before z =
      let groups = or_else_none (record_refusal (record_of s)) (cond (not (full_size s)) 2 0) z in
      (groups.0, not-false (full_size s) (passes (not (full_size s)) 2 0 (omega arith) groups.1).0)

  pub by_valid : record_refusal (record_of s) ≡ 0 → full_size s ≡ true → store_refusal s ≡ cond (not (valid s)) 3 0
  unfolding store_refusal
  by_valid alone full =
      or_else_next (record_refusal (record_of s)) (cond (not (full_size s)) 2 (cond (not (valid s)) 3 0)) alone
      ∙ ap (λ (b : Bool). cond (not b) 2 (cond (not (valid s)) 3 0)) full

  -- the same by the code: two tests, of which the second counts where the first passed
  module _ (alone sizes both : Result (Unit {0}) Refusal) (is : both ≡ result_and alone sizes) (first : verdict_number alone ≡ record_refusal (record_of s)) (second : verdict_number sizes ≡ cond (not (full_sizes s.clocks s.held s.order)) 2 0) where
    told : verdict_number both ≡ before_events
    unfolding full_size
    told = ap verdict_number is ∙ and_chain alone sizes ∙ ap₂ or_else first second

    pub tested_stopped : (why : Refusal) (r : Result (List ℕ) Refusal) → both ≡ Err why → IsErrAnd r (λ y. y ≡ why) → StoreTested s r
    tested_stopped why r stopped left =
        let p = err_from_is_err_and r left in
        let refused = refused_before (refused_some both why before_events told stopped) in
        subst (StoreTested s) (sym p.1)
        (tested_refused s p.0 (refused ∙ sym told ∙ ap verdict_number stopped ∙ ap number_of (sym p.2)))

    -- where both passed, the buffers are of full size, and what is left is whether the events are valid
    module _ (given : Unit {0}) (went : both ≡ Ok given) where
      passed : (record_refusal (record_of s) ≡ 0) × (full_size s ≡ true)
      passed = passed_before (passed_zero both given before_events told went)

      pub tested_sizes : (s.tablets ≤ 8) × Full s
      tested_sizes = (narrow_record (record_of s) passed.0, full_sizes_lem s (T_from_true (full_size s) passed.1))

      rest : store_refusal s ≡ cond (not (valid s)) 3 0
      rest = by_valid passed.0 passed.1

      pub tested_long : 2032 < s.events → StoreTested s (Err InvalidStore)
      tested_long h = tested_refused s InvalidStore (rest ∙ ap (λ (v : Bool). cond (not v) 3 0) (too_many s h))

      tested_run : (run : Option (List ℕ)) → s.events ≤ 2032 → Followed s.tablets s.clocks s.order s.events run → StoreTested s (ok_or run InvalidStore)
      tested_run (Some counts) h f =
          record {
            number = sym (rest ∙ ap (λ (v : Bool). cond (not v) 3 0) (valid_follow s h ∙ sym f.answer));
            tally = f.tally;
          }
      tested_run None h f =
          tested_refused s InvalidStore (rest ∙ ap (λ (v : Bool). cond (not v) 3 0) (valid_follow s h ∙ sym f.answer))

      pub tested_events : (run : Option (List ℕ)) (r : Result (List ℕ) Refusal) → s.events ≤ 2032 → Followed s.tablets s.clocks s.order s.events run → r ≡ ok_or run InvalidStore → StoreTested s r
      tested_events run r h f is = subst (StoreTested s) (sym is) (tested_run run h f)
