use Rattle.std.proofs.Common.{rules, ◌≡◌, true, length, sym, ◌∙◌}
use Rattle.spv_dictionary.specs.updates.Shifts.{value_in}
use Rattle.spv_dictionary.specs.pivoting.Choosing.{limits_of, slot_may_enter}
use Rattle.spv_dictionary.proofs.pivoting.Choices.{enters_found}
use Rattle.spv_dictionary.proofs.pivoting.entering.next.Goals as goal

pub returns-in-Ok-true-clause-value : goal.returns-in-Ok-true-clause-value
returns-in-Ok-true-clause-value c =
    let may : true ≡ slot_may_enter (limits_of (length c.args.dictionary.now.outside) c.args.trail.now.bounds) c.args.dictionary.now (value_in c.args.values.now) c.args.row c.args.side c.args.slot = search rules in
    enters_found (limits_of (length c.args.dictionary.now.outside) c.args.trail.now.bounds) c.args.dictionary.now c.law_dictionary.ensures (value_in c.args.values.now) c.args.row c.args.side c.args.slot c.args.found
    c.outside-column.result c.requires.slot c.outside-column.ensures (sym may) (sym c.is_found.ensures ∙ c.if-is_found.false)
