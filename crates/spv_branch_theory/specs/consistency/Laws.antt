-- A state that is open shows that its path is live.
use Rattle.std.specs.Prelude.{◌≡◌, ℕ, ◌||◌, Bool, true, List, Option, Some, slice_get}
use Rattle.spv_logic.specs.Terms.{Term}
use Rattle.spv_term.specs.declared.nodes.Condition.{Condition}
use Rattle.spv_term.specs.Arena.{Arena, IsArena, tree}
use Rattle.spv_tableau_rules.specs.tableaux.Rows.{Point, IsSolution}
use Rattle.spv_tableau_rules.specs.tableaux.Bounds.{limits, Meets}
use Rattle.spv_tableau_rules.specs.constraints.Values.{part_value}
use Rattle.spv_proof.specs.sums.Readings.{number_in}
use Rattle.spv_proof_rules.specs.Stand.{question}
use Rattle.spv_congruence.specs.Graph.{AreTerms}
use Rattle.spv_congruence.specs.Told.{IsExact}
use Rattle.spv_simplex.specs.State.{IsTableau, rows_in}
use Rattle.spv_logic.specs.Formulas.{below}
use Rattle.spv_models.specs.leaf_models.Laws.{AreFormulas}
use Rattle.spv_models.specs.leaf_models.Leaves.{is_met}
use Rattle.spv_models.specs.leaf_models.Tables.{formulas_of}
use Rattle.spv_models.specs.split_trees.Paths.{atoms, facts, IsLive}
use Rattle.spv_models.specs.split_trees.Shown.{IsFinished, ShowsLive}
use Rattle.spv_share.specs.declared.both.Both.{Both}
use Rattle.spv_share.specs.declared.relations.Related.{Related}
use Rattle.spv_share.specs.Both.{IsBoth}
use Rattle.spv_share.specs.Relations.{AreRelationsAmong}
use Rattle.spv_share.specs.States.{IsOpen, is_open}
use Rattle.spv_share.specs.combination_laws.Pairs.{AreEnough}
use Rattle.spv_branch_theory.specs.consistency.States.{same_in, AreTold, AreRelated, HasAtoms}

-- both sides are open for the atoms of a condition and the facts of a path, to which evaluations add nothing
pub record IsOpenState (a : Arena) (c : Condition) (b : Both) (cases : List Term) (value : Term → Option Bool) : Type 0 where
  pub ok : IsArena a
  pub both : IsBoth a b
  pub agree : IsOpen b
  pub exact : IsExact b.trail.graph
  pub terms_are : AreTerms b.trail.graph.nodes b.trail.graph.added
  pub tableau : IsTableau b.standing.tableau
  pub enough : AreEnough a b
  pub formulas : AreFormulas a.shapes a.decls (formulas_of (question a c).sequent)
  pub of_atoms : AreRelationsAmong a (atoms (question a c)) b.relations.items
  pub parts : HasAtoms a b (question a c)
  pub finished : IsFinished (question a c) (facts (question a c) cases) value
  pub answered : AreTold a b (question a c) value
  pub known : AreRelated a b (question a c) (facts (question a c) cases)

abbrev pub OpenShowsLive : Type 0
OpenShowsLive = (a : Arena) (c : Condition) (b : Both) (cases : List Term) (value : Term → Option Bool) → IsOpenState a c b cases value → ShowsLive (question a c) (facts (question a c) cases) (same_in a b)

abbrev pub OpenIsLive : Type 0
OpenIsLive = (a : Arena) (c : Condition) (b : Both) (cases : List Term) (value : Term → Option Bool) → IsOpenState a c b cases value → IsLive (question a c) (facts (question a c) cases)
