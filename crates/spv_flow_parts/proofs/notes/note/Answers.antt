use Rattle.spv_program.specs.typed.FormulaViews.{annotation_of}
use Rattle.spv_flow_parts.proofs.Terms.{term_made, note_in, note_sorts}
use Rattle.spv_flow_parts.proofs.notes.note.Goals as goal

pub formula_term-made-requires : goal.formula_term-made-requires
formula_term-made-requires c = note_sorts c.args.program.now c.args.body.now c.args.terms.now c.requires.stands (annotation_of c.args.a.now) c.requires.typed

pub returns : goal.returns
returns c =
    let made = c.formula_term-made.ensures in
    term_made c.args.terms.now c.formula_term-made.new.terms _ _ (note_in c.args.program.now c.args.body.now c.args.terms.now c.requires.stands (annotation_of c.args.a.now) c.requires.typed) c.formula_term-made.result c.limited.result
    made.tree made.in_range made.grows made.only made.size c.limited.ensures.same c.limited.ensures.walk
