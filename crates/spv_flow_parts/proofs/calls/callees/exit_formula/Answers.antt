use Rattle.spv_program.specs.typed.FormulaViews.{annotation_of}
use Rattle.spv_program.specs.typed.ProgramViews.{routine_of}
use Rattle.spv_flow_parts.proofs.Terms.{term_made}
use Rattle.spv_flow_parts.proofs.calls.Annotations.{exit_in, exit_sorts_fit}
use Rattle.spv_flow_parts.proofs.calls.callees.exit_formula.Goals as goal

pub exit_formula_term-f-requires : goal.exit_formula_term-f-requires
exit_formula_term-f-requires c =
    exit_sorts_fit c.args.program.now c.args.terms.now (routine_of c.args.routine.now) c.requires.over c.requires.right (annotation_of c.args.exit.now) c.in_ok-names.names c.in_ok-starts.starts c.in_ok-names.ensures
    c.in_ok-starts.ensures c.requires.exit

pub returns : goal.returns
returns c =
    let made = c.exit_formula_term-f.ensures in
    term_made c.args.terms.now c.exit_formula_term-f.new.terms _ _
    (exit_in c.args.program.now c.args.terms.now (routine_of c.args.routine.now) c.requires.over c.requires.right (annotation_of c.args.exit.now) c.in_ok-names.names c.in_ok-starts.starts c.in_ok-names.ensures
    c.in_ok-starts.ensures)
    c.exit_formula_term-f.result c.limited.result made.tree made.in_range made.grows made.only made.size c.limited.ensures.same c.limited.ensures.walk
