-- `clock_verdict`: each return is one link of the chain 5, 6, 7.
use mathlib.Core.Path.{◌≡◌, sym, ◌∙◌}
use mathlib.Core.Bool.{true}
use Rattle.model.specs.Numbers.{column}
use Rattle.model.specs.Follow.{others_within}
use Rattle.std.proofs.lemmas.Float.{T_from_true}
use Rattle.model.proofs.Follow.{last_known_bounded}
use Rattle.rules.proofs.follow.Past.clock_verdict.Goals as goal

pub covers_known-requires : goal.covers_known-requires
covers_known-requires c =
    let a = c.args in
    let p = c.requires in
    let own = column a.tablet in
    let fits : others_within a.self.tablets a.self.tallies.now own a.clock.now ≡ true = sym c.others_within.ensures ∙ c.if-not-others_within.false in (
      p.1,
      record {
        long = p.0;
        stored = λ j h. last_known_bounded a.self.tablets a.self.tallies.now own a.clock.now (T_from_true (others_within a.self.tablets a.self.tallies.now own a.clock.now) fits) a.self.bounded j h;
      },
    )
