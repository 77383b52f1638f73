use Rattle.spv_logic.specs.declared.operators.Head.TheVariants as head
use Rattle.spv_term.specs.Arena.{tree}
use Rattle.spv_program.specs.Terms.{binary}
use Rattle.std.proofs.Common.{[], ◌∷◌}
use Rattle.spv_assign.proofs.limited_steps.Limits.{same_stop}
use Rattle.spv_flow_parts.proofs.calls.Cells.{gives_makes, class_stops, cell_sorts, cell_stops, cell_walked, cell_target, cell_way}
use Rattle.spv_flow_parts.proofs.calls.places.to_cell.Goals as goal

pub returns-in_err-class-clause-walk : goal.returns-in_err-class-clause-walk
returns-in_err-class-clause-walk c =
    same_stop c.from_residual.result c.in_err-class.field-0.0 _ _ _ c.from_residual.ensures.1
    (class_stops c.args.terms.now c.args.way.now c.args.t c.made.new.terms c.in_err-class.field-0.0 c.in_err-class.ensures.walk)

pub cell-content-requires-clause-sorts : goal.cell-content-requires-clause-sorts
cell-content-requires-clause-sorts c =
    cell_sorts c.args.terms.now c.args.way.now c.args.t c.made.new.terms c.requires.way c.in_ok-class.ensures.grows c.in_ok-class.class c.in_ok-class.ensures.term c.requires.sorts

pub returns-in_err-content-clause-walk : goal.returns-in_err-content-clause-walk
returns-in_err-content-clause-walk c =
    same_stop c.from_residual-in_err-content.result c.in_err-content.field-0.0 _ _ _ c.from_residual-in_err-content.ensures.1
    (cell_stops c.args.terms.now c.args.way.now c.args.t c.made.new.terms c.requires.way c.in_ok-class.ensures.grows c.in_ok-class.class c.in_ok-class.ensures.term
    c.in_ok-class.ensures.walk c.cell-content.new.terms c.in_err-content.field-0.0
    (c.in_err-content.ensures.walk c.made.new.terms (binary head.Cell (tree c.made.new.terms c.in_ok-class.class) (tree c.made.new.terms c.args.way.now.term) ∷ [])
    (gives_makes c.cell-content.result _ c.made.new.terms c.cell-content.new.terms c.cell-content.ensures)))

pub returns-clause-walk : goal.returns-clause-walk
returns-clause-walk c =
    cell_walked c.args.terms.now c.args.way.now c.args.t c.made.new.terms c.requires.way c.in_ok-class.ensures.grows c.in_ok-class.class c.in_ok-class.ensures.term
    c.in_ok-class.ensures.walk c.cell-content.new.terms
    (c.in_ok-content.ensures.walk c.made.new.terms (binary head.Cell (tree c.made.new.terms c.in_ok-class.class) (tree c.made.new.terms c.args.way.now.term) ∷ [])
    (gives_makes c.cell-content.result _ c.made.new.terms c.cell-content.new.terms c.cell-content.ensures))

pub returns-clause-way : goal.returns-clause-way
returns-clause-way c =
    cell_way c.args.terms.now c.args.way.now c.args.t c.made.new.terms c.requires.way c.in_ok-class.ensures.grows c.in_ok-class.class c.in_ok-class.ensures.term
    c.cell-content.new.terms c.cell-content.ensures.grows c.new.result c.new.ensures c.in_ok-content.content c.cell-content.result c.in_ok-content.ensures.same c.cell-content.ensures.term

pub returns-clause-same : goal.returns-clause-same
returns-clause-same c =
    cell_target c.args.terms.now c.args.way.now c.args.t c.made.new.terms c.requires.way c.in_ok-class.ensures.grows c.in_ok-class.class c.in_ok-class.ensures.term
    c.cell-content.new.terms c.cell-content.ensures.grows c.new.result c.new.ensures
