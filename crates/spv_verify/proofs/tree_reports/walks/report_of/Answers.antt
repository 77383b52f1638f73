use Rattle.std.proofs.Common.{IsTrue, subst, sym}
use Rattle.spv_program.specs.Typing.{well_typed}
use Rattle.spv_verify.specs.tree_reports.Walks.{IsOfTree}
use Rattle.spv_verify.proofs.tree_reports.walks.report_of.Goals as goal

pub ruled_report-answer-requires-clause-typed : goal.ruled_report-answer-requires-clause-typed
ruled_report-answer-requires-clause-typed c = subst (λ p. IsTrue (well_typed p)) (sym c.program.ensures) c.law_well_typed.ensures

pub ruled_report-answer-requires-clause-of_tree : goal.ruled_report-answer-requires-clause-of_tree
ruled_report-answer-requires-clause-of_tree c =
    subst (λ p. IsOfTree p) (sym c.program.ensures)
    (record { names = c.args.names; tree = c.args.tree.now; formed = c.requires.formed; typed = c.in-Ok.ensures.sound.typed })
