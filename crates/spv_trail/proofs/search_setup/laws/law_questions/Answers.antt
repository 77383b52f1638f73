use Rattle.spv_models.specs.leaf_models.Tables.{formulas_of}
use Rattle.spv_trail.proofs.search_setup.Nodes.{questions_added}
use Rattle.spv_trail.proofs.search_setup.Standing.{question_stands}
use Rattle.spv_trail.proofs.search_setup.laws.law_questions.Goals as goal

pub returns-clause-stand : goal.returns-clause-stand
returns-clause-stand c = λ q are t m. question_stands q.shapes q.decls (formulas_of q.sequent) are t m

pub returns-clause-nodes : goal.returns-clause-nodes
returns-clause-nodes c = questions_added
