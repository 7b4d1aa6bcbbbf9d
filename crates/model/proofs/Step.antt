-- Theorem 9: the lexical step gives the next cut of a range, or the end.
use mathlib.Core.Path.{◌≡◌, sym, ap, ◌∙◌, subst}
use mathlib.Core.Logic.{◌⊎◌, inr, ⊎_elim, by_cases}
use mathlib.Core.Bool.{Bool, cond}
use mathlib.Core.List.Memᴰ
use mathlib.Core.List.{List, [], ◌∷◌, Memᴰ}
use mathlib.Core.Option.{some}
use Prim.Native.Nat.{ℕ, zero, suc, ◌+◌, ◌≤◌, ◌<◌}
use native.Mathlib.Omega.{arith}
use native.Mathlib.Decide.{ℕ_discrete, dec_le}
use lib.Dec.{T, leb, ltb, leb→le, le→leb, ltb→lt, lt→ltb}
use lib.ListN.{length}
use Rattle.model.specs.Lists.{at, keep}
use Rattle.model.specs.Clocks.{Clocks, EventName, clock_of, known}
use Rattle.model.specs.Cuts.{Contains, cuts_between}
use Rattle.model.specs.Lexical.{lex_before}
use Rattle.model.specs.Step.{following, can_raise, up_to, raised, raise_below, step}
use Rattle.model.proofs.Tests.{and_left, and_right, and_both, all_below_at, all_below_all, holds, fails, decided}
use Rattle.model.proofs.Entries.{AtMost, at_most_trans, at_zeros}
use Rattle.model.proofs.Lists.{keep_from, keep_into}
use Rattle.model.proofs.Lexical.{lex_trans, DiffersAt, lex_differs, differs_lex, at_most_lex, rising_equal, keep_rising}
use Rattle.model.proofs.Ranges.{known_event, known_at_most, InRange, range_rising, range_from, range_into}
use Rattle.model.proofs.Causal.{event, knows_all, closed_has}
use Rattle.model.proofs.Bounds.{Bounds}
use Rattle.model.proofs.Raised.{up_own, up_other, raised_upto, raised_behind, raised_before, raised_own, raised_long, least_low, least_known, least_least, least_is}

-- that a tablet can be raised, read both ways
pub record CanRaise (clk : Clocks) (high G : List ℕ) (k : ℕ) : Type 0 where
  pub room : at G k < at high k
  pub ready : (j : ℕ) → j < k → at (clk k (at G k + 1)) j ≤ at G j

pub can_raise_lem : (clk : Clocks) (high G : List ℕ) (k : ℕ) → T (can_raise clk high G k) → CanRaise clk high G k
unfolding can_raise
can_raise_lem clk high G k t =
    record {
      room = ltb→lt (at G k) (at high k) (and_left (ltb (at G k) (at high k)) _ t);
      ready = λ j h. leb→le (at (clk k (at G k + 1)) j) (at G j)
          (all_below_at k (λ j. leb (at (clk k (at G k + 1)) j) (at G j)) (and_right (ltb (at G k) (at high k)) _ t) j h);
    }

pub raise_can : (clk : Clocks) (high G : List ℕ) (k : ℕ) → CanRaise clk high G k → T (can_raise clk high G k)
unfolding can_raise
raise_can clk high G k c =
    and_both (ltb (at G k) (at high k)) _ (lt→ltb (at G k) (at high k) c.room)
    (all_below_all k (λ j. leb (at (clk k (at G k + 1)) j) (at G j))
    (λ j h. le→leb (at (clk k (at G k + 1)) j) (at G j) (c.ready j h)))

module _ (clk : Clocks) (low high : List ℕ) (bounds : Bounds clk low high) (G : List ℕ) (inside : InRange clk low high G) where
  -- a cut that stands behind G differs first at a tablet that can be raised
  raises_first : (H : List ℕ) → InRange clk low high H → (d : ℕ) → d < 8 → DiffersAt G H d → CanRaise clk high G d
  raises_first H r d hd D =
      let next : EventName = event d (at G d + 1) in
      let knows = closed_has clk high bounds.causal H r.cut next (record { column = hd; first = omega arith; last = omega (arith, D.less) }) in
      record {
        room = omega (arith, D.less, r.cut.most d hd);
        ready = λ j h. omega (arith, knows j (omega arith), D.same j h);
      }

  module _ (k : ℕ) (hk : k < 8) (can : CanRaise clk high G k) where
    abbrev next : List ℕ
    next = raised clk low G k

    -- the events up to k are within the bound
    up_high : (i : ℕ) → i ≤ k → up_to G k i ≤ at high i
    up_high i h =
        by_cases (ℕ_discrete i k) (λ e. rw e (omega (arith, up_own clk low G k, can.room)))
        (λ other. omega (arith, up_other clk low G k i other, inside.cut.most i (omega arith)))

    up_contained : (i : ℕ) → i ≤ k → 1 ≤ up_to G k i → Contains high (event i (up_to G k i))
    up_contained i h some-event = record { column = omega arith; first = some-event; last = up_high i h }

    next_high : AtMost next high
    next_high j hj =
        by_cases (dec_le j k) (λ near. omega (arith, raised_upto clk low G k j hj near, up_high j near))
        (λ far. omega (
          arith,
          raised_behind clk low G k j hj (omega arith),
          least_least clk low G k j (at high j) (bounds.bottom.most j hj)
              (λ i h. known_at_most clk i (up_to G k i) high (λ some-event. bounds.causal.within (event i (up_to G k i)) (up_contained i h some-event)) j hj),
        ))

    next_low : AtMost low next
    next_low j hj =
        by_cases (dec_le j k)
        (λ near. by_cases (ℕ_discrete j k)
        (λ e. rw e (omega (arith, raised_own clk low G k hk, inside.least k hk)))
        (λ other. omega (arith, raised_upto clk low G k j hj near, up_other clk low G k j other, inside.least j hj)))
        (λ far. omega (arith, raised_behind clk low G k j hj (omega arith), least_low clk low G k j))

    -- what the events up to k know is in the next cut: of the tablets before k, since G has it or since k can be raised ..
    before_known : (i j : ℕ) → i ≤ k → j < k → at (known clk i (up_to G k i)) j ≤ at G j
    before_known i j h hj =
        by_cases (ℕ_discrete i k)
        (λ e. rw e (rw (up_own clk low G k) (omega (arith, ap (λ (X : List ℕ). at X j) (known_event clk k (at G k + 1) (omega arith)), can.ready j hj))))
        (λ other. rw (up_other clk low G k i other) (inside.cut.known_in i (omega arith) j (omega arith)))

    -- .. of k, since its own entry is its number ..
    own_known : (i : ℕ) → i ≤ k → at (known clk i (up_to G k i)) k ≤ at G k + 1
    own_known i h =
        by_cases (ℕ_discrete i k)
        (λ e. rw e (rw (up_own clk low G k)
        (omega (
          arith,
          ap (λ (X : List ℕ). at X k) (known_event clk k (at G k + 1) (omega arith)),
          bounds.causal.own (event k (at G k + 1)) (record { column = hk; first = omega arith; last = omega (arith, can.room) }),
        ))))
        (λ other. rw (up_other clk low G k i other) (omega (arith, inside.cut.known_in i (omega arith) k hk)))

    -- .. and of the tablets behind k, since their entries are the largest of it
    known_in_next : (i : ℕ) → i ≤ k → AtMost (known clk i (up_to G k i)) next
    known_in_next i h j hj =
        by_cases (dec_le j k)
        (λ near. by_cases (ℕ_discrete j k)
        (λ e. rw e (omega (arith, own_known i h, raised_own clk low G k hk)))
        (λ other. omega (arith, before_known i j h (omega arith), raised_before clk low G k j (omega arith) hk)))
        (λ far. omega (arith, raised_behind clk low G k j hj (omega arith), least_known clk low G k i j h))

    -- an entry behind k that an event up to k gave: that event knows all that the event so named knows
    named_in_next : (i j : ℕ) → i ≤ k → j < 8 → at next j ≡ at (known clk i (up_to G k i)) j → 1 ≤ at next j → AtMost (clk j (at next j)) next
    named_in_next i j h hj named first =
        by_cases (dec_le 1 (up_to G k i))
        (λ some-event. let e : EventName = event i (up_to G k i) in
        let entry : at next j ≡ at (clock_of clk e) j = named ∙ ap (λ (X : List ℕ). at X j) (known_event clk i (up_to G k i) some-event) in
        at_most_trans (clk j (at next j)) (clock_of clk e) next
        (knows_all clk high bounds.causal (event j (at next j)) e (up_contained i h some-event) hj first (omega arith))
        (subst (λ (X : List ℕ). AtMost X next) (known_event clk i (up_to G k i) some-event) (known_in_next i h)))
        (λ no_event. let none-up : up_to G k i ≡ 0 = omega arith in
        let z : ⊥ = omega (arith, named, ap (λ (m : ℕ). at (known clk i m) j) none-up, at_zeros j hj) in absurd z)

    next_closed : (j : ℕ) → j < 8 → AtMost (known clk j (at next j)) next
    next_closed j hj =
        by_cases (dec_le j k)
        (λ near. rw (raised_upto clk low G k j hj near) (known_in_next j near))
        (λ far. let entry = raised_behind clk low G k j hj (omega arith) in
        ⊎_elim
        (λ bottom. let same : at next j ≡ at low j = entry ∙ bottom in
        subst (λ (m : ℕ). AtMost (known clk j m) next) (sym same)
        (at_most_trans (known clk j (at low j)) low next (bounds.bottom.known_in j hj) next_low))
        (λ r. known_at_most clk j (at next j) next (named_in_next r.0 j r.1 hj (entry ∙ r.2)))
        (least_is clk low G k j))

    pub next_inside : InRange clk low high next
    next_inside =
        record { long = raised_long clk low G k; least = next_low; cut = record { most = next_high; known_in = next_closed } }

    next_behind : T (lex_before G next)
    next_behind =
        differs_lex G next (inside.long ∙ sym (raised_long clk low G k)) k (omega (arith, inside.long))
        (record { same = λ j h. sym (raised_before clk low G k j h hk); less = omega (arith, raised_own clk low G k hk) })

    -- nothing stands between: a cut behind G that agrees with the next up to k is at least it ..
    at_least_next : (H : List ℕ) → InRange clk low high H → ((j : ℕ) → j ≤ k → up_to G k j ≡ at H j) → AtMost next H
    at_least_next H r same j hj =
        by_cases (dec_le j k) (λ near. omega (arith, raised_upto clk low G k j hj near, same j near))
        (λ far. omega (
          arith,
          raised_behind clk low G k j hj (omega arith),
          least_least clk low G k j (at H j) (r.least j hj)
              (λ i h. subst (λ (m : ℕ). at (known clk i m) j ≤ at H j) (sym (same i h)) (r.cut.known_in i (omega arith) j hj)),
        ))

    -- .. and one that differs from G before k, or has more at k, stands behind the next
    next_or_behind : (H : List ℕ) → InRange clk low high H → (d : ℕ) → d ≤ k → DiffersAt G H d → (next ≡ H) ⊎ T (lex_before next H)
    next_or_behind H r d near D =
        let same_length : length next ≡ length H = raised_long clk low G k ∙ sym r.long in
        by_cases (ℕ_discrete d k)
        (λ e. by_cases (ℕ_discrete (at H k) (at G k + 1))
        (λ exact. at_most_lex next H same_length
        (λ j h. at_least_next H r (agrees e exact) j (omega (arith, raised_long clk low G k))))
        (λ more. inr (differs_lex next H same_length k (omega (arith, raised_long clk low G k))
        (record {
          same = λ j h. raised_before clk low G k j h hk ∙ D.same j (omega arith);
          less = omega (arith, raised_own clk low G k hk, subst (λ (m : ℕ). at G m < at H m) e D.less);
        }))))
        (λ other. inr (differs_lex next H same_length d (omega (arith, raised_long clk low G k))
        (record {
          same = λ j h. raised_before clk low G k j (omega arith) hk ∙ D.same j h;
          less = omega (arith, raised_before clk low G k d (omega arith) hk, D.less);
        })))
      where
        agrees : d ≡ k → at H k ≡ at G k + 1 → (j : ℕ) → j ≤ k → up_to G k j ≡ at H j
        agrees e exact j h =
            by_cases (ℕ_discrete j k) (λ own. rw own (up_own clk low G k ∙ sym exact))
            (λ other. up_other clk low G k j other ∙ D.same j (omega arith))

  -- where k is the last tablet that can be raised, what stands behind G is the next cut and what stands behind that
  step_raises : (k : ℕ) → k < 8 → CanRaise clk high G k → ((j : ℕ) → k < j → j < 8 → CanRaise clk high G j → ⊥) → keep (lex_before G) (cuts_between clk low high) ≡ raised clk low G k ∷ keep (lex_before (raised clk low G k)) (cuts_between clk low high)
  step_raises k hk can last =
      let rising = range_rising clk low high in
      rising_equal (keep (lex_before G) (cuts_between clk low high)) (raised clk low G k ∷ keep (lex_before (raised clk low G k)) (cuts_between clk low high))
      (keep_rising (lex_before G) (cuts_between clk low high) rising) (
        λ H m. (keep_from (lex_before (raised clk low G k)) (cuts_between clk low high) m).1,
        keep_rising (lex_before (raised clk low G k)) (cuts_between clk low high) rising,
      )
      into
      back
    where
      into : (H : List ℕ) → Memᴰ H (keep (lex_before G) (cuts_between clk low high)) → Memᴰ H (raised clk low G k ∷ keep (lex_before (raised clk low G k)) (cuts_between clk low high))
      into H m =
          let f = keep_from (lex_before G) (cuts_between clk low high) m in
          let r = range_from clk low high bounds.long H f.0 in
          let D = lex_differs G H (inside.long ∙ sym r.long) f.1 in
          let hd : D.0 < 8 = omega (arith, D.1, inside.long) in
          by_cases (dec_le D.0 k)
          (λ near. ⊎_elim (λ e. Memᴰ.head (sym e)) (λ t. Memᴰ.tail (keep_into (lex_before (raised clk low G k)) (cuts_between clk low high) f.0 t))
          (next_or_behind k hk can H r D.0 near D.2))
          (λ far. absurd (last D.0 (omega arith) hd (raises_first H r D.0 hd D.2)))

      back : (H : List ℕ) → Memᴰ H (raised clk low G k ∷ keep (lex_before (raised clk low G k)) (cuts_between clk low high)) → Memᴰ H (keep (lex_before G) (cuts_between clk low high))
      back H m =
          ⊎_elim
          (λ e. Memᴰ.cast e (keep_into (lex_before G) (cuts_between clk low high) (range_into clk low high bounds.long (raised clk low G k) (next_inside k hk can)) (next_behind k hk can)))
          (λ n. let f = keep_from (lex_before (raised clk low G k)) (cuts_between clk low high) n in
          keep_into (lex_before G) (cuts_between clk low high) f.0 (lex_trans G (raised clk low G k) H (next_behind k hk can) f.1))
          (Memᴰ.cases_cons m)

  -- where none can be raised, nothing stands behind G
  step_ends : ((j : ℕ) → j < 8 → CanRaise clk high G j → ⊥) → keep (lex_before G) (cuts_between clk low high) ≡ []
  step_ends stuck =
      rising_equal (keep (lex_before G) (cuts_between clk low high)) [] (keep_rising (lex_before G) (cuts_between clk low high) (range_rising clk low high)) tt
      none_behind
      (λ H m. absurd (Memᴰ.not-nil m))
    where
      none_behind : (H : List ℕ) → Memᴰ H (keep (lex_before G) (cuts_between clk low high)) → Memᴰ H []
      none_behind H m =
          let f = keep_from (lex_before G) (cuts_between clk low high) m in
          let r = range_from clk low high bounds.long H f.0 in
          let D = lex_differs G H (inside.long ∙ sym r.long) f.1 in
          let hd : D.0 < 8 = omega (arith, D.1, inside.long) in
          absurd (stuck D.0 hd (raises_first H r D.0 hd D.2))

module _ (clk : Clocks) (low high : List ℕ) (bounds : Bounds clk low high) (G : List ℕ) (inside : InRange clk low high G) where
  from_below : (m : ℕ) → m ≤ 8 → ((j : ℕ) → m ≤ j → j < 8 → CanRaise clk high G j → ⊥) → keep (lex_before G) (cuts_between clk low high) ≡ following (cuts_between clk low high) (raise_below clk low high G m)
  from_below zero h stuck = step_ends clk low high bounds G inside (λ j hj. stuck j (omega arith) hj)
  from_below (suc k) h stuck =
      by_cases (decided (can_raise clk high G k))
      (λ t. step_raises clk low high bounds G inside k (omega arith) (can_raise_lem clk high G k t) (λ j hj. stuck j (omega arith))
      ∙ sym (ap (λ (b : Bool). following (cuts_between clk low high) (cond b (some (raised clk low G k)) (raise_below clk low high G k))) (holds (can_raise clk high G k) t)))
      (λ n. from_below k (omega arith)
      (λ j hj h8. by_cases (ℕ_discrete j k)
      (λ e. λ c. n (raise_can clk high G k (subst (CanRaise clk high G) e c)))
      (λ other. stuck j (omega arith) h8))
      ∙ sym (ap (λ (b : Bool). following (cuts_between clk low high) (cond b (some (raised clk low G k)) (raise_below clk low high G k))) (fails (can_raise clk high G k) n)))

  -- Theorem 9: the step from a cut of a range gives the next, or says that there is none
  pub step_next : keep (lex_before G) (cuts_between clk low high) ≡ following (cuts_between clk low high) (step clk low high G)
  unfolding step
  step_next = from_below 8 (omega arith) (λ j high-j h8. let z : ⊥ = omega arith in absurd z)

-- the first cut of a range is its lower bound
pub range_first : (clk : Clocks) (low high : List ℕ) → Bounds clk low high → length low ≡ 8 → cuts_between clk low high ≡ low ∷ keep (lex_before low) (cuts_between clk low high)
range_first clk low high bounds long =
    rising_equal (cuts_between clk low high) (low ∷ keep (lex_before low) (cuts_between clk low high)) (range_rising clk low high)
    (λ H m. (keep_from (lex_before low) (cuts_between clk low high) m).1, keep_rising (lex_before low) (cuts_between clk low high) (range_rising clk low high))
    into
    back
  where
    into : (H : List ℕ) → Memᴰ H (cuts_between clk low high) → Memᴰ H (low ∷ keep (lex_before low) (cuts_between clk low high))
    into H m =
        let r = range_from clk low high bounds.long H m in
        ⊎_elim (λ e. Memᴰ.head (sym e)) (λ t. Memᴰ.tail (keep_into (lex_before low) (cuts_between clk low high) m t))
        (at_most_lex low H (long ∙ sym r.long) (λ j h. r.least j (omega (arith, long))))

    back : (H : List ℕ) → Memᴰ H (low ∷ keep (lex_before low) (cuts_between clk low high)) → Memᴰ H (cuts_between clk low high)
    back H m =
        ⊎_elim
        (λ e. Memᴰ.cast e (range_into clk low high bounds.long low (record { long = long; least = λ j h. omega arith; cut = bounds.bottom })))
        (λ n. (keep_from (lex_before low) (cuts_between clk low high) n).0)
        (Memᴰ.cases_cons m)
