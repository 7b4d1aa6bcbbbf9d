-- `list_walk`: from the first cut, or strictly after the place's, which must be in the range.
use mathlib.Core.Path.{◌≡◌, sym, ◌∙◌}
use mathlib.Core.Bool.{true}
use borrow.Author.Rules.{rules}
use borrow.Author.Tests.{not-true, not-false}
use lib.ListN.{length}
use Rattle.steps.specs.Walked.{Standing}
use Rattle.steps.proofs.Walks.{all_from_first, walk_ends, walk_goes_on, walk_stands}
use Rattle.cuts.proofs.Listings.{in_test, shown_listed, none_listed, stand_inside, list_begun, list_fresh}
use Rattle.cuts.proofs.lister.list_walk.Goals.{Else-not-in_span}
use Rattle.cuts.proofs.lister.list_walk.Goals as goal

pub returns-then-not-place : goal.returns-then-not-place
returns-then-not-place c =
    let w = c.args.walk.now in
    list_fresh _ _ c.args.place c.args.out.now _ (not-true c.args.place.begun c.if-not-place.true)
    (shown_listed _ _ c.args.place c.args.out.now _ _ _ _ c.show.ensures (sym (all_from_first w.span)))

-- the place's cut passed the test, so it is one of the range's
chosen : (c : Else-not-in_span) → in_test c.args.walk.now c.args.place.cut.counts ≡ true
chosen c = sym c.in_span.ensures ∙ c.if-not-in_span.false

standing : (c : Else-not-in_span) → Standing c.args.walk.now c.args.place.cut.counts
standing c =
    let long : length c.args.place.cut.counts ≡ 8 = search rules in
    stand_inside c.args.walk.now c.args.place.cut.counts long (chosen c)

pub next_cut-requires : goal.next_cut-requires
next_cut-requires c = standing (goal.at.next_cut-requires c).Else-not-in_span

pub returns-then-not-next_cut : goal.returns-then-not-next_cut
returns-then-not-next_cut c =
    let here = (goal.at.returns-then-not-next_cut c).Else-not-in_span in
    list_begun _ _ c.args.place c.args.out.now _ (not-false c.args.place.begun c.if-not-place.false) (chosen here)
    (none_listed _ c.args.place c.args.out.now (walk_ends c.args.walk.now.span (standing here) c.next_cut.ensures c.if-not-next_cut.true))

pub show-requires-2 : goal.show-requires-2
show-requires-2 c =
    (walk_stands c.args.walk.now.span (standing (goal.at.show-requires-2 c).Else-not-in_span) c.next_cut.ensures c.if-not-next_cut.false, c.requires)

pub returns : goal.returns
returns c =
    let here = (goal.at.returns c).Else-not-in_span in
    list_begun _ _ c.args.place c.args.out.now _ (not-false c.args.place.begun c.if-not-place.false) (chosen here)
    (shown_listed _ _ c.args.place c.args.out.now _ _ _ _ c.show-2.ensures
    (sym (walk_goes_on c.args.walk.now.span (standing here) c.next_cut.ensures c.if-not-next_cut.false)))
