use Rattle.std.proofs.Common.{sym, ◌∙◌}
use Rattle.spv_atoms.proofs.Values.{computed_plain, computed_inside}
use Rattle.spv_atoms.proofs.valued.computed_over.Goals as goal

pub returns-then-not-connects : goal.returns-then-not-connects
returns-then-not-connects c given valued =
    computed_plain c.args.terms.now c.args.head c.args.args.now given c.combined.result (sym c.if-not-connects.true ∙ c.connects.ensures) c.combined.ensures

pub returns : goal.returns
returns c given valued =
    computed_inside c.args.terms.now c.args.head c.args.args.now given c.combined-2.result c.args.order.now c.args.found.now c.first_value-x.result c.second_value-y.result valued
    (c.requires.inside (sym (sym c.if-not-connects.false ∙ c.connects.ensures))) c.first_value-x.ensures c.second_value-y.ensures c.combined-2.ensures
