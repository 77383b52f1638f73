use Rattle.spv_term.specs.Arena.{tree}
use Rattle.spv_proof.specs.sums.Readings.{number_in}
use Rattle.spv_tableau_rules.specs.constraints.Relations.{number_sides}
use Rattle.spv_arithmetic_side.proofs.slack_rows.Pushing.{add_other, add_row, none_of, some_of}
use Rattle.spv_arithmetic_side.proofs.slack_rows.rows.RelationRows.add.Goals as goal

pub returns-in_default-clause-rows : goal.returns-in_default-clause-rows
returns-in_default-clause-rows c ts h =
    add_other c.args.terms.now ts (tree c.args.terms.now c.args.t) c.args.self.now.forms.items c.add_other.new.self.forms.items c.args.self.now.places.items c.add_other.new.self.places.items h
    (none_of c.args.terms.now (number_sides (number_in c.args.terms.now) (tree c.args.terms.now c.args.t)) c.number_sides.result c.number_sides.ensures c.in_default.is)
    c.in_ok-add_other.ensures.forms c.in_ok-add_other.ensures.places

pub returns-clause-rows : goal.returns-clause-rows
returns-clause-rows c ts h =
    add_row c.args.terms.now ts (tree c.args.terms.now c.args.t) (tree c.args.terms.now c.in-Some.left, tree c.args.terms.now c.in-Some.right) c.in_ok-row.row
    c.args.self.now.forms.items c.add_row.new.self.forms.items c.args.self.now.places.items c.add_row.new.self.places.items h
    (some_of c.args.terms.now (number_sides (number_in c.args.terms.now) (tree c.args.terms.now c.args.t)) c.number_sides.result (c.in-Some.left, c.in-Some.right) c.number_sides.ensures c.in-Some.is)
    c.in_ok-row.ensures.row c.in_ok-add_row.ensures.forms c.in_ok-add_row.ensures.places
