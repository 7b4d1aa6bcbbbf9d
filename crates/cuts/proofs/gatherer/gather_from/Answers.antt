-- `gather_from`: in the loop an interval before the last is listed, and it stops at a full output or goes on; behind it the last.
use mathlib.Core.Path.{◌≡◌, refl, ap, ◌∙◌}
use mathlib.Core.Bool.{true}
use mathlib.Core.List.{List, []}
use Prim.Native.Nat.{ℕ, ◌+◌, ◌-◌, ◌*◌, ◌≤◌}
use native.Mathlib.Omega.{arith}
use borrow.Rule.Slice.PartMut.{put_mid}
use lib.ListN.{length}
use Rattle.std.specs.Prelude.{Ok}
use Rattle.model.specs.Lists.{zeros}
use Rattle.cuts.specs.Ranges.{with_held}
use Rattle.cuts.specs.Gathering.{gathered}
use Rattle.cuts.proofs.Traces.{trace}
use Rattle.cuts.proofs.Members.{interval_some}
use Rattle.cuts.proofs.Gathering.{UpTo, Here, up_to_same, same_long, put_is, put_long, listed_here, never_refused, fits_on, stops_last, stops_full, goes_on}
use Rattle.cuts.proofs.gatherer.gather_from.Goals.{In_ok-part, In_ok-part-2}
use Rattle.cuts.proofs.gatherer.gather_from.Goals as goal

-- in the loop
pub overflow_mul-written : goal.overflow_mul-written
overflow_mul-written c = omega (arith, (c.loop-p.invariant []).fits, c.well_formed)

pub slice_bounds-list_interval-count : goal.slice_bounds-list_interval-count
slice_bounds-list_interval-count c = omega (arith, (c.loop-p.invariant []).fits, same_long (c.loop-p.invariant []))

pub slice_bounds-list_interval-start : goal.slice_bounds-list_interval-start
slice_bounds-list_interval-start c = omega (arith, (c.loop-p.invariant []).fits, same_long (c.loop-p.invariant []))

pub returns-in_err-part : goal.returns-in_err-part
unfolding zeros
returns-in_err-part c = λ held. absurd (never_refused (c.loop-p.invariant held) _ _ (omega (arith, c.requires.within)) (c.in_err-part.ensures held))

here : (c : In_ok-part) (held : List ℕ) → Here (with_held c.args.trace held) c.loop-p.p c.loop-p.written c.args.last.0 c.args.out.now c.in_ok-part.part c.list_interval.new.out
unfolding zeros
here c held =
    record {
      some = λ q h. interval_some _ _ _ held (trace c.args.trace) q h;
      upto = omega arith;
      within = c.requires.within;
      told = listed_here (c.loop-p.invariant held) _ (omega (arith, c.requires.within)) (c.in_ok-part.ensures held);
    }

fits : (c : In_ok-part) → 8 * (c.loop-p.written + c.in_ok-part.part.written) ≤ length c.args.out.now
fits c = fits_on (c.loop-p.invariant []) (here c [])

pub overflow_add-written : goal.overflow_add-written
overflow_add-written c = omega (arith, fits (goal.at.overflow_add-written c).In_ok-part, c.well_formed)

pub overflow_mul-written-in-loop-p : goal.overflow_mul-written-in-loop-p
overflow_mul-written-in-loop-p c = omega (arith, fits (goal.at.overflow_mul-written-in-loop-p c).In_ok-part, c.well_formed)

after : (c : In_ok-part) → length (put_mid (8 * c.loop-p.written) (length c.loop-p.out - 8 * c.loop-p.written) c.loop-p.out c.list_interval.new.out) ≡ length c.args.out.now
after c = put_long (c.loop-p.invariant []) _ c.list_interval.auto.out

pub overflow_sub-out : goal.overflow_sub-out
overflow_sub-out c =
    let at = (goal.at.overflow_sub-out c).In_ok-part in
    omega (arith, fits at, after at)

pub returns-then-out-written-lt8 : goal.returns-then-out-written-lt8
returns-then-out-written-lt8 c = λ held.
    let at = (goal.at.returns-then-out-written-lt8 c).In_ok-part in
    let u = c.loop-p.invariant held in
    ap (gathered (Ok (record { written = c.loop-p.written + c.in_ok-part.part.written; more = true; position = record { 0 = c.loop-p.p }; place = c.in_ok-part.part.place }))) (put_is u _)
    ∙ stops_full u (here at held) c.loop-p-test.true (omega (arith, c.if-out-written-lt8.true, after at))

pub loop-p-preserved : goal.loop-p-preserved
loop-p-preserved c = λ held.
    let at = (goal.at.loop-p-preserved c).In_ok-part in
    let u = c.loop-p.invariant held in
    rw (put_is u _) (goes_on u (here at held) (omega (arith, c.if-out-written-lt8.false, after at)))

-- behind the loop: the position is the last
pub overflow_mul-written-2 : goal.overflow_mul-written-2
overflow_mul-written-2 c = omega (arith, (c.loop-p.invariant []).fits, c.well_formed)

pub slice_bounds-list_interval-count-2 : goal.slice_bounds-list_interval-count-2
slice_bounds-list_interval-count-2 c = omega (arith, (c.loop-p.invariant []).fits, same_long (c.loop-p.invariant []))

pub slice_bounds-list_interval-start-2 : goal.slice_bounds-list_interval-start-2
slice_bounds-list_interval-start-2 c = omega (arith, (c.loop-p.invariant []).fits, same_long (c.loop-p.invariant []))

pub returns-in_err-part-2 : goal.returns-in_err-part-2
unfolding zeros
returns-in_err-part-2 c = λ held.
    let last : c.loop-p.p ≡ c.args.last.0 = omega arith in
    absurd (never_refused (up_to_same (c.loop-p.invariant held) last) _ _ c.requires.within (c.in_err-part-2.ensures held))

up_to_last : (c : In_ok-part-2) (held : List ℕ) → UpTo (with_held c.args.trace held) c.args.first.0 c.args.last.0 c.loop-p.written c.args.out.now c.loop-p.out
up_to_last c held = let last : c.loop-p.p ≡ c.args.last.0 = omega arith in up_to_same (c.loop-p.invariant held) last

last_here : (c : In_ok-part-2) (held : List ℕ) → Here (with_held c.args.trace held) c.args.last.0 c.loop-p.written c.args.last.0 c.args.out.now c.in_ok-part-2.part c.list_interval-2.new.out
unfolding zeros
last_here c held =
    record {
      some = λ q h. interval_some _ _ _ held (trace c.args.trace) q h;
      upto = omega arith;
      within = c.requires.within;
      told = listed_here (up_to_last c held) _ c.requires.within (c.in_ok-part-2.ensures held);
    }

pub overflow_add-result : goal.overflow_add-result
overflow_add-result c =
    let at = (goal.at.overflow_add-result c).In_ok-part-2 in
    omega (arith, fits_on (up_to_last at []) (last_here at []), c.well_formed)

pub returns : goal.returns
returns c = λ held.
    let at = (goal.at.returns c).In_ok-part-2 in
    let u = up_to_last at held in
    ap (gathered (Ok (record { written = c.loop-p.written + c.in_ok-part-2.part.written; more = c.in_ok-part-2.part.more; position = c.args.last; place = c.in_ok-part-2.part.place }))) (put_is u _)
    ∙ stops_last u (last_here at held) refl
