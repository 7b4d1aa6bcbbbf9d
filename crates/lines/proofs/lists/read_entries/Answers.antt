-- `read_entries`: one entry more is set, and the rest of the text still decides.
use Rattle.std.proofs.Common.{◌∙◌, ◌+◌, ◌-◌, ℕ, List, length, take, sym, ap, ap₂, arith, length-set}
use Rattle.std.proofs.lemmas.List.{length-drop, take_rest, take_more_set}
use Rattle.lines.proofs.Entries.{behind_them, entry_read, still_clear}
use Rattle.lines.specs.Lists.{entries}
use Rattle.lines.proofs.lists.read_entries.Goals as goal

pub loop-j-preserved : goal.loop-j-preserved
loop-j-preserved c =
    let l = c.loop-j in
    let v = c.in_ok-values.field-0 in
    let rest = l.rest.now in
    let end = c.find_byte-length.result in (
      omega (arith, ap length (take_rest rest (end + 1)), length-drop (end + 1) rest),
      length-set l.values l.j v ∙ l.invariant.1,
      still_clear l.values l.j v l.invariant.1 (omega arith) l.invariant.2,
      l.invariant.3
          ∙ entry_read (take l.j l.values) rest c.args.count l.j (omega arith) end c.find_byte-length.ensures v c.if-length-rest.false (sym c.read_number.ensures ∙ c.in_ok-values.was)
          ∙ ap₂ (λ (vs r : List ℕ). behind_them vs (entries (c.args.count - (l.j + 1)) r)) (sym (take_more_set l.values l.j v (omega (arith, l.invariant.1)))) (sym (take_rest rest (end + 1))),
    )
