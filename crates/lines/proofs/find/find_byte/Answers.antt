-- `find_byte`: the library's search, with the text's length where it found nothing.
use Rattle.std.proofs.Common.{◌∙◌, eqb, rules, tests}
use Rattle.std.proofs.lemmas.Iterator.{YieldsList-from_slice}
use Rattle.std.proofs.lemmas.Iterator.Search.{position_from_yields_List}
use Rattle.lines.proofs.Parts.{find_from}
use Rattle.lines.proofs.find.find_byte.Goals as goal

pub returns : goal.returns
returns c =
    let text = c.args.text.now in
    let byte = c.args.byte in
    c.unwrap_or.ensures
    ∙ find_from byte text c.position.result
    (position_from_yields_List (λ b. eqb b byte) _ _ _ c.position.ensures.ran (YieldsList-from_slice text cc) (λ x b q k. search (rules, tests)))
