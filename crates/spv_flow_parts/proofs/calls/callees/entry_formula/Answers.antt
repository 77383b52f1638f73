use Rattle.spv_program.specs.typed.FormulaViews.{annotation_of}
use Rattle.spv_program.specs.typed.ProgramViews.{routine_of}
use Rattle.spv_flow_parts.proofs.Terms.{term_made}
use Rattle.spv_flow_parts.proofs.calls.Annotations.{entry_in, entry_sorts_fit}
use Rattle.spv_flow_parts.proofs.calls.callees.entry_formula.Goals as goal

pub formula_term-f-requires : goal.formula_term-f-requires
formula_term-f-requires c =
    entry_sorts_fit c.args.program.now c.args.terms.now (routine_of c.args.routine.now) c.requires.over c.requires.right (annotation_of c.args.entry.now) c.in_ok-names.names c.in_ok-names.ensures c.requires.entry

pub returns : goal.returns
returns c =
    let made = c.formula_term-f.ensures in
    term_made c.args.terms.now c.formula_term-f.new.terms _ _
    (entry_in c.args.program.now c.args.terms.now (routine_of c.args.routine.now) c.requires.over c.requires.right (annotation_of c.args.entry.now) c.in_ok-names.names c.in_ok-names.ensures)
    c.formula_term-f.result c.limited.result made.tree made.in_range made.grows made.only made.size c.limited.ensures.same c.limited.ensures.walk
