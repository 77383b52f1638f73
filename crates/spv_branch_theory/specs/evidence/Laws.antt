-- What the evidence of a check that was stopped says of a search.
use Rattle.std.specs.Prelude.{◌≡◌, Some}
use Rattle.spv_term.specs.declared.nodes.Condition.{Condition}
use Rattle.spv_term.specs.Arena.{Arena}
use Rattle.spv_proof_rules.specs.Stand.{question}
use Rattle.spv_simplex.specs.declared.checked.Checked.TheVariants.{Wide, Pivots}
use Rattle.spv_models.specs.split_trees.Paths.{atoms}
use Rattle.spv_share.specs.declared.both.Both.{Both}
use Rattle.spv_share.specs.Relations.{AreRelationsAmong}
use Rattle.spv_share.specs.Both.{IsBoth}
use Rattle.spv_share.specs.States.{IsLimit}
use Rattle.spv_verdicts.specs.Verdicts.{HasWidePivot, HasAllPivots}

-- both sides for the atoms of a condition, where a check of the tableau was stopped
pub record IsStoppedFor (a : Arena) (c : Condition) (b : Both) : Type 0 where
  pub both : IsBoth a b
  pub related : AreRelationsAmong a (atoms (question a c)) b.relations.items
  pub limit : IsLimit b

abbrev pub WideIsReached : Type 0
WideIsReached = (a : Arena) (c : Condition) (b : Both) → IsStoppedFor a c b → b.standing.tableau.answer ≡ Some Wide
    → HasWidePivot a (question a c) b.standing.tableau.evidence.start b.standing.tableau.evidence.steps b.standing.tableau.evidence.operation

abbrev pub PivotsAreReached : Type 0
PivotsAreReached = (a : Arena) (c : Condition) (b : Both) → IsStoppedFor a c b → b.standing.tableau.answer ≡ Some Pivots
    → HasAllPivots a (question a c) b.standing.tableau.pivots b.standing.tableau.evidence.start b.standing.tableau.evidence.steps
