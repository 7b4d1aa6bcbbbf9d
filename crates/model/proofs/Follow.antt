-- `follow_refusal` answers 0 exactly when each of document 01's conditions holds.
use mathlib.Core.Path.{◌≡◌, refl, ◌∙◌}
use mathlib.Core.Logic.{◌≢◌, by_cases}
use mathlib.Core.Bool.{Bool, true, false, cond, not}
use mathlib.Core.List.{List}
use Prim.Native.Nat.{ℕ, zero, suc, ◌+◌, ◌-◌, ◌≤◌, ◌<◌}
use native.Mathlib.Omega.{arith}
use native.Mathlib.Decide.{ℕ_discrete, dec_lt}
use borrow.Author.Tests.{eqb-true, eqb-false, ltb-false, leb-false, eq-eqb, ne_eqb, lt-ltb, le-ltb, lt-leb, not-false}
use lib.Dec.{eqb-suc-zero, T, leb, ltb, eqb, leb→le, le→leb, eqb→eq}
use Rattle.model.specs.Lists.{at}
use Rattle.model.specs.Clocks.{Clocks, covered, known}
use Rattle.model.specs.Refusals.{or_else}
use Rattle.model.specs.Follow.{tablet_refusal, entry_fits, others_within, last_known, covers, clock_refusal, follow_refusal}
use Rattle.model.proofs.Refusals.{or_else_next}
use Rattle.std.proofs.lemmas.Float.{T_from_true}
use Rattle.model.proofs.Tests.{holds, all_below_at, all_below_all}
use Rattle.model.proofs.Entries.{AtMost, covered_at_most, at_most_covered}

-- rules 13 to 16 as statements
pub record Follows (n : ℕ) (clk : Clocks) (tal : List ℕ) (i : ℕ) (clock : List ℕ) : Type 0 where
  pub positive : 1 ≤ i
  pub listed : i ≤ n
  pub room : at tal (i - 1) < 254
  pub own : at clock (i - 1) ≡ at tal (i - 1) + 1
  pub others : (j : ℕ) → j < 8 → j ≢ i - 1 → at clock j ≤ at tal j
  pub above : (j : ℕ) → j < 8 → j ≢ i - 1 → n ≤ j → at clock j ≡ 0
  pub covering : (j : ℕ) → j < 8 → AtMost (known clk j (last_known (i - 1) j (at tal j) (at clock j))) clock

-- one link of the chain of refusals
pub passes : (b : Bool) (x r : ℕ) → 1 ≤ x → cond b x r ≡ 0 → (b ≡ false) × (r ≡ 0)
passes true x r h e = let z : ⊥ = omega arith in absurd z
passes false x r h e = (refl, e)

module _ (n : ℕ) (tal : List ℕ) (own : ℕ) (clock : List ℕ) where
  abbrev entry_fits_lem : ℕ → Bool
  entry_fits_lem j = entry_fits n own j (at tal j) (at clock j)

  -- an entry of another tablet
  below : (j : ℕ) → j ≢ own → T (entry_fits_lem j) → at clock j ≤ at tal j
  below j other t =
      by_cases (dec_lt j n)
      (λ h. leb→le (at clock j) (at tal j) (simp (ne_eqb j own other, lt-ltb j n h) at t))
      (λ h. omega (arith, eqb→eq (at clock j) 0 (simp (ne_eqb j own other, le-ltb j n (omega arith)) at t)))

  zero_above : (j : ℕ) → j ≢ own → n ≤ j → T (entry_fits_lem j) → at clock j ≡ 0
  zero_above j other h t = eqb→eq (at clock j) 0 (simp (ne_eqb j own other, le-ltb j n h) at t)

  fits_entry : (j : ℕ) → (j ≢ own → at clock j ≤ at tal j) → (j ≢ own → n ≤ j → at clock j ≡ 0) → T (entry_fits_lem j)
  fits_entry j most zero-at =
      by_cases (ℕ_discrete j own)
      (λ same. simp (eq-eqb j own same) tt)
      (λ other. by_cases (dec_lt j n)
      (λ h. simp (ne_eqb j own other, lt-ltb j n h) (le→leb (at clock j) (at tal j) (most other)))
      (λ h. let e : at clock j ≡ 0 = zero-at other (omega arith) in
      simp (ne_eqb j own other, le-ltb j n (omega arith), e) tt))

  others_hold : T (others_within n tal own clock) → (j : ℕ) → j < 8 → T (entry_fits_lem j)
  unfolding others_within
  others_hold t j h = all_below_at 8 entry_fits_lem t j h

  hold_others : ((j : ℕ) → j < 8 → T (entry_fits_lem j)) → T (others_within n tal own clock)
  unfolding others_within
  hold_others f = all_below_all 8 entry_fits_lem f

-- the rule on known and previous events, by index
covers_holds : (clk : Clocks) (tal : List ℕ) (own : ℕ) (clock : List ℕ) → T (covers clk tal own clock) → (j : ℕ) → j < 8 → AtMost (known clk j (last_known own j (at tal j) (at clock j))) clock
unfolding covers
covers_holds clk tal own clock t j h =
    covered_at_most (known clk j (last_known own j (at tal j) (at clock j))) clock
    (all_below_at 8 (λ j. covered (known clk j (last_known own j (at tal j) (at clock j))) clock) t j h)

holds_covers : (clk : Clocks) (tal : List ℕ) (own : ℕ) (clock : List ℕ) → ((j : ℕ) → j < 8 → AtMost (known clk j (last_known own j (at tal j) (at clock j))) clock) → T (covers clk tal own clock)
unfolding covers
holds_covers clk tal own clock f =
    all_below_all 8 (λ j. covered (known clk j (last_known own j (at tal j) (at clock j))) clock)
    (λ j h. at_most_covered (known clk j (last_known own j (at tal j) (at clock j))) clock (f j h))

-- the groups of refusals, each passed exactly when its conditions hold
pub or_else_none : (a b : ℕ) → or_else a b ≡ 0 → (a ≡ 0) × (b ≡ 0)
or_else_none zero b e = (refl, e)
or_else_none (suc a) b e =
    let z : ⊥ = omega (arith, simp (eqb-suc-zero a) at e) in absurd z

pub tablet_passes : (n : ℕ) (tal : List ℕ) (i : ℕ) → 1 ≤ i → i ≤ n → at tal (i - 1) < 254 → tablet_refusal n tal i ≡ 0
unfolding tablet_refusal
tablet_passes n tal i positive low room =
    let nonzero : i ≢ 0 = omega arith in
    simp (ne_eqb i 0 nonzero, le-ltb n i low, lt-leb 254 (at tal (i - 1)) room)

pub tablet_holds : (n : ℕ) (tal : List ℕ) (i : ℕ) → tablet_refusal n tal i ≡ 0 → (1 ≤ i) × (i ≤ n) × (at tal (i - 1) < 254)
unfolding tablet_refusal
tablet_holds n tal i e =
    let p1 = passes (eqb i 0) 4 _ (omega arith) e in
    let p2 = passes (ltb n i) 4 _ (omega arith) p1.1 in
    let p3 = passes (leb 254 (at tal (i - 1))) 8 0 (omega arith) p2.1 in
    let nonzero : i ≢ 0 = eqb-false i 0 p1.0 in
    (omega arith, ltb-false n i p2.0, leb-false 254 (at tal (i - 1)) p3.0)

pub may_follow_lem : (n : ℕ) (clk : Clocks) (tal : List ℕ) (i : ℕ) (clock : List ℕ) → follow_refusal n clk tal i clock ≡ 0 → Follows n clk tal i clock
unfolding follow_refusal clock_refusal
may_follow_lem n clk tal i clock e =
    let own : ℕ = i - 1 in
    let groups = or_else_none (tablet_refusal n tal i) (clock_refusal n clk tal own clock) e in
    let tablet = tablet_holds n tal i groups.0 in
    let p4 = passes (not (eqb (at clock own) (at tal own + 1))) 5 _ (omega arith) groups.1 in
    let p5 = passes (not (others_within n tal own clock)) 6 _ (omega arith) p4.1 in
    let p6 = passes (not (covers clk tal own clock)) 7 0 (omega arith) p5.1 in
    let others = others_hold n tal own clock (T_from_true (others_within n tal own clock) (not-false (others_within n tal own clock) p5.0)) in
    record {
      positive = tablet.0;
      listed = tablet.1;
      room = tablet.2;
      own = eqb-true (at clock own) (at tal own + 1) (not-false (eqb (at clock own) (at tal own + 1)) p4.0);
      others = λ j h other. below n tal own clock j other (others j h);
      above = λ j h other high. zero_above n tal own clock j other high (others j h);
      covering = covers_holds clk tal own clock (T_from_true (covers clk tal own clock) (not-false (covers clk tal own clock) p6.0));
    }

pub follows_passes : (n : ℕ) (clk : Clocks) (tal : List ℕ) (i : ℕ) (clock : List ℕ) → Follows n clk tal i clock → follow_refusal n clk tal i clock ≡ 0
unfolding follow_refusal clock_refusal
follows_passes n clk tal i clock f =
    let own : ℕ = i - 1 in
    or_else_next (tablet_refusal n tal i) (clock_refusal n clk tal own clock) (tablet_passes n tal i f.positive f.listed f.room)
    ∙ simp (
      eq-eqb (at clock own) (at tal own + 1) f.own,
      holds (others_within n tal own clock) (hold_others n tal own clock (λ j h. fits_entry n tal own clock j (f.others j h) (f.above j h))),
      holds (covers clk tal own clock) (holds_covers clk tal own clock f.covering),
    )

-- where the other entries fit, each event that must be covered is one of the accepted
pub last_known_bounded : (n : ℕ) (tal : List ℕ) (own : ℕ) (clock : List ℕ) → T (others_within n tal own clock) → ((j : ℕ) → j < 8 → at tal j ≤ 254) → (j : ℕ) → j < 8 → last_known own j (at tal j) (at clock j) ≤ 254
last_known_bounded n tal own clock t bounded j h =
    by_cases (ℕ_discrete j own)
    (λ e. simp (eq-eqb j own e) (bounded j h))
    (λ other. simp (ne_eqb j own other) (omega (arith, bounded j h, below n tal own clock j other (others_hold n tal own clock t j h))))
