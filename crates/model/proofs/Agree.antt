-- Theorems 7 and 8: cuts do not depend on the order of acceptance, and an interval only on the events up to it.
use mathlib.Core.Path.{◌≡◌, refl, sym, ap, ap₂, ◌∙◌, subst}
use mathlib.Core.Logic.{by_cases}
use mathlib.Core.Bool.{Bool, true, cond, ◌&&◌}
use mathlib.Core.List.{List}
use Prim.Native.Nat.{ℕ, zero, suc, ◌+◌, ◌-◌, ◌≤◌, ◌<◌}
use native.Mathlib.Omega.{arith}
use native.Mathlib.Decide.{dec_le}
use lib.Dec.{leb, eqb}
use lib.ListN.{length, get_or}
use Rattle.model.specs.declared.Question.{Question}
use Rattle.model.specs.declared.Question.TheVariants.{AtLeast, Exactly, All}
use Rattle.model.specs.declared.Position.{Position}
use Rattle.model.specs.declared.Range.TheVariants.{Interval}
use Rattle.model.specs.Lists.{at, keep}
use Rattle.model.specs.Clocks.{Clocks, EventName, clock_of, covered, known}
use Rattle.model.specs.Follow.{column_at, tally, tallies, event_at}
use Rattle.model.specs.Store.{Store, clocks_of, tallies_of}
use Rattle.model.specs.Cuts.{Contains, consistent, box, cuts_between, gmin, gbnd, interval, all_cuts, total}
use Rattle.model.specs.Agree.{AgreeTo, SameEvents}
use Rattle.model.specs.Questions.{holding, sum_held, names, meets, first_of, answer}
use Rattle.std.proofs.lemmas.Bool.Decides.{same_from_decides}
use Rattle.std.proofs.lemmas.Float.{T_from_true}
use Rattle.model.proofs.Tests.{holds, all_below_same, sum_below_same}
use Rattle.model.proofs.Entries.{AtMost, same_entries}
use Rattle.model.proofs.Lists.{keep_same}
use Rattle.model.proofs.Ranges.{Consistent, consistent_holds, holds_consistent}
use Rattle.model.proofs.Causal.{event}
use Rattle.model.proofs.Valid.{at_tallies, length_tallies}
use Rattle.model.proofs.Sound.{Sound, event_contained}
use Rattle.model.proofs.Intervals.{interval_high}
use Rattle.model.proofs.Partition.{counts_add_up}

-- clocks that agree on the events up to a bound
abbrev pub ClocksAgree : Clocks → Clocks → List ℕ → Type 0
ClocksAgree clk other bound = (e : EventName) → Contains bound e → clock_of clk e ≡ clock_of other e

pub known_same : (clk other : Clocks) (bound : List ℕ) → ClocksAgree clk other bound → (j k : ℕ) → j < 8 → k ≤ at bound j → known clk j k ≡ known other j k
known_same clk other bound agree j zero hj h = refl
known_same clk other bound agree j (suc k) hj h = agree (event j (suc k)) (record { column = hj; first = omega arith; last = h })

-- they find the same cuts consistent
consistent_moves : (clk other : Clocks) (bound G : List ℕ) → ClocksAgree clk other bound → Consistent clk bound G → Consistent other bound G
consistent_moves clk other bound G agree c =
    record {
      most = c.most;
      known_in = λ j hj. subst (λ (X : List ℕ). AtMost X G) (known_same clk other bound agree j (at G j) hj (c.most j hj)) (c.known_in j hj);
    }

clocks_sym : (clk other : Clocks) (bound : List ℕ) → ClocksAgree clk other bound → ClocksAgree other clk bound
clocks_sym clk other bound agree e c = sym (agree e c)

pub consistent_same : (clk other : Clocks) (bound G : List ℕ) → ClocksAgree clk other bound → consistent clk bound G ≡ consistent other bound G
consistent_same clk other bound G agree =
    same_from_decides {P = Consistent clk bound G} (consistent clk bound G) (consistent other bound G)
    (λ e. consistent_holds clk bound G (T_from_true _ e), λ c. holds _ (holds_consistent clk bound G c))
    (λ e. consistent_moves other clk bound G (clocks_sym clk other bound agree) (consistent_holds other bound G (T_from_true _ e)), λ c. holds _ (holds_consistent other bound G (consistent_moves clk other bound G agree c)))

pub range_same : (clk other : Clocks) (low high : List ℕ) → ClocksAgree clk other high → cuts_between clk low high ≡ cuts_between other low high
unfolding cuts_between
range_same clk other low high agree =
    keep_same (λ G. covered low G && consistent clk high G) (λ G. covered low G && consistent other high G) (box high)
    (λ G m. ap (λ (b : Bool). covered low G && b) (consistent_same clk other high G agree))

-- Theorem 7 (rule 26)
pub same_cuts_lem : (s r : Store) → SameEvents s r → all_cuts s ≡ all_cuts r
unfolding all_cuts
same_cuts_lem s r same =
    keep_same (consistent (clocks_of s) (tallies_of s)) (consistent (clocks_of r) (tallies_of s)) (box (tallies_of s))
    (λ G m. consistent_same (clocks_of s) (clocks_of r) (tallies_of s) G same.clocks)
    ∙ ap (λ (tal : List ℕ). keep (consistent (clocks_of r) tal) (box tal)) same.tallies

pub same_total : (s r : Store) → Sound s → Sound r → SameEvents s r → total s ≡ total r
same_total s r snd rnd same =
    counts_add_up s snd ∙ ap length (same_cuts_lem s r same) ∙ sym (counts_add_up r rnd)

-- the tallies depend on the order bytes up to the position
pub tally_same : (order other : List ℕ) (p : ℕ) → ((q : ℕ) → q < p → get_or order q 0 ≡ get_or other q 0) → (j : ℕ) → tally order p j ≡ tally other p j
tally_same order other zero f j = refl
tally_same order other (suc p) f j =
    ap₂ (λ (b k : ℕ). cond (eqb b (suc j)) (suc k) k) (f p (omega arith))
    (tally_same order other p (λ q h. f q (omega arith)) j)

pub tallies_same : (order other : List ℕ) (p : ℕ) → ((q : ℕ) → q < p → get_or order q 0 ≡ get_or other q 0) → tallies order p ≡ tallies other p
tallies_same order other p f =
    same_entries (tallies order p) (tallies other p) (length_tallies order p) (length_tallies other p)
    (λ j h. at_tallies order p j h ∙ tally_same order other p f j ∙ sym (at_tallies other p j h))

pub event_same : (order other : List ℕ) (q : ℕ) → ((p : ℕ) → p < suc q → get_or order p 0 ≡ get_or other p 0) → event_at order q ≡ event_at other q
event_same order other q f =
    let own : column_at order q ≡ column_at other q = ap (λ (b : ℕ). b - 1) (f q (omega arith)) in
    let count : tally order q (column_at order q) + 1 ≡ tally other q (column_at other q) + 1 = ap (λ (k : ℕ). k + 1) (tally_same order other q (λ p h. f p (omega arith)) (column_at order q) ∙ ap (tally other q) own) in
    λ i. record { column = own i; number = count i }

-- agreeing on the first p events is an equivalence
pub agree_self : (p : ℕ) (s : Store) → AgreeTo p s s
agree_self p s = record { tablets = refl; order = λ q h. refl; clocks = λ e c. refl; held = λ e c. refl }

pub agree_tallies : (p : ℕ) (s r : Store) → AgreeTo p s r → tallies s.order p ≡ tallies r.order p
agree_tallies p s r agree = tallies_same s.order r.order p agree.order

pub agree_sym : (p : ℕ) (s r : Store) → AgreeTo p s r → AgreeTo p r s
agree_sym p s r agree =
    let there : (e : EventName) → Contains (tallies r.order p) e → Contains (tallies s.order p) e = λ e c. subst (λ (t : List ℕ). Contains t e) (sym (agree_tallies p s r agree)) c in
    record {
      tablets = sym agree.tablets;
      order = λ q h. sym (agree.order q h);
      clocks = λ e c. sym (agree.clocks e (there e c));
      held = λ e c. sym (agree.held e (there e c));
    }

pub agree_trans : (p : ℕ) (s r t : Store) → AgreeTo p s r → AgreeTo p r t → AgreeTo p s t
agree_trans p s r t first next =
    let there : (e : EventName) → Contains (tallies s.order p) e → Contains (tallies r.order p) e = λ e c. subst (λ (u : List ℕ). Contains u e) (agree_tallies p s r first) c in
    record {
      tablets = first.tablets ∙ next.tablets;
      order = λ q h. first.order q h ∙ next.order q h;
      clocks = λ e c. first.clocks e c ∙ next.clocks e (there e c);
      held = λ e c. first.held e c ∙ next.held e (there e c);
    }

module _ (s r : Store) (snd : Sound s) where
  pub gmin_same : (p : ℕ) → p ≤ s.events → AgreeTo p s r → gmin s p ≡ gmin r p
  gmin_same zero h agree = refl
  gmin_same (suc q) h agree =
      agree.clocks (event_at s.order q) (event_contained s snd q h)
      ∙ ap (clock_of (clocks_of r)) (event_same s.order r.order q agree.order)

  -- Theorem 8 (rule 27)
  pub interval_same : (p : ℕ) → p ≤ s.events → AgreeTo p s r → interval s p ≡ interval r p
  unfolding interval
  interval_same p h agree =
      range_same (clocks_of s) (clocks_of r) (gmin s p) (gbnd s p) agree.clocks
      ∙ ap₂ (cuts_between (clocks_of r)) (gmin_same p h agree) (tallies_same s.order r.order p agree.order)

  module _ (p : ℕ) (agree : AgreeTo p s r) (G : List ℕ) (most : AtMost G (tallies s.order p)) where
    holding_same : (j : ℕ) → j < 8 → holding s G j ≡ holding r G j
    unfolding holding
    holding_same j hj =
        by_cases (dec_le 1 (at G j))
        (λ some. ap (λ (k : ℕ). cond (eqb (at G j) 0) 0 k) (agree.held (event j (at G j)) (record { column = hj; first = some; last = most j hj })))
        (λ none. let e : at G j ≡ 0 = omega arith in simp e)

    sum_same : sum_held s G ≡ sum_held r G
    unfolding sum_held
    sum_same = sum_below_same 8 (holding s G) (holding r G) holding_same

    meets_same : (q : Question) → meets s q G ≡ meets r q G
    unfolding meets
    meets_same (AtLeast k) = ap (leb k) sum_same
    meets_same (Exactly k) = ap (λ (n : ℕ). eqb n k) sum_same
    meets_same (All mask) =
        all_below_same 8 (λ j. cond (names mask j) (leb 1 (holding s G j)) true) (λ j. cond (names mask j) (leb 1 (holding r G j)) true)
        (λ j h. ap (λ (k : ℕ). cond (names mask j) (leb 1 k) true) (holding_same j h))

  pub answer_same : (p : Position) (q : Question) → p.0 ≤ s.events → AgreeTo p.0 s r → answer s (record { question = q; range = Interval p }) ≡ answer r (record { question = q; range = Interval p })
  unfolding answer
  answer_same p q h agree =
      ap first_of
      (keep_same (meets s q) (meets r q) (interval s p.0) (λ G m. meets_same p.0 agree G (interval_high s snd p.0 G m) q)
      ∙ ap (keep (meets r q)) (interval_same p.0 h agree))
