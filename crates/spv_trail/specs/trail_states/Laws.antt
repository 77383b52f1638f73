-- A path on which all is told shows what a search asks of an open state.
use Rattle.std.specs.Prelude.{◌≡◌, ◌∷◌, Bool, List, Option, map, length}
use Rattle.spv_logic.specs.declared.conditions.TermId.{TermId}
use Rattle.spv_logic.specs.Terms.{Term}
use Rattle.spv_term.specs.declared.nodes.Condition.{Condition}
use Rattle.spv_term.specs.Arena.{Arena, IsArena, AllBelow, tree}
use Rattle.spv_congruence.specs.Graph.{AreTerms}
use Rattle.spv_congruence.specs.Told.{IsExact}
use Rattle.spv_simplex.specs.State.{IsTableau}
use Rattle.spv_proof_rules.specs.Stand.{question}
use Rattle.spv_derivations.specs.declared.derivation.entries.Entry.{Entry}
use Rattle.spv_models.specs.leaf_models.Laws.{AreFormulas}
use Rattle.spv_models.specs.leaf_models.Tables.{formulas_of}
use Rattle.spv_models.specs.split_trees.Paths.{atoms, questions, facts, IsLive}
use Rattle.spv_share.specs.declared.both.Both.{Both}
use Rattle.spv_share.specs.Both.{IsBoth, told}
use Rattle.spv_share.specs.Relations.{AreListed, AreNodes, AreParts, AreRelationsAmong}
use Rattle.spv_share.specs.States.{IsOpen}
use Rattle.spv_branch_theory.specs.consistency.Laws.{IsOpenState}
use Rattle.spv_assignments.specs.declared.partial_assignment.facts.Known.{Known}
use Rattle.spv_assignments.specs.partial_assignment.Facts.{facts_of}
use Rattle.spv_assignments.specs.partial_assignment.Following as following
use Rattle.spv_assignments.specs.partial_assignment.Following.{IsStill}
use Rattle.spv_decisions.specs.decision.Choosing.{HaveValues, HaveOrders}
use Rattle.spv_branch_theory.specs.saturation.States.{IsFullState}
use Rattle.spv_trail.specs.trail_states.Told.{IsSettled, values_of, said_on}

-- both sides were opened for these atoms, which are those of a condition
pub record IsOpenedFor (a : Arena) (c : Condition) (b : Both) (ids : List TermId) : Type 0 where
  pub atoms_are : map (tree a) ids ≡ atoms (question a c)
  pub within : AllBelow (length a.nodes) ids
  pub nodes : AreNodes b.trail.graph.nodes ids
  pub parts : AreParts a b.trail.graph.nodes (b.trail.truth ∷ b.trail.falsity ∷ ids)
  pub listed : AreListed a ids b.relations.items
  pub of_atoms : AreRelationsAmong a (map (tree a) ids) b.relations.items

-- both sides are open, all is told, and evaluations add nothing for the questions
pub record IsAtRest (a : Arena) (c : Condition) (b : Both) (ids asked : List TermId) (es : List Entry) (ks : List Known) (cases : List Term) : Type 0 where
  pub ok : IsArena a
  pub formulas : AreFormulas a.shapes a.decls (formulas_of (question a c).sequent)
  pub both : IsBoth a b
  pub agree : IsOpen b
  pub exact : IsExact b.trail.graph
  pub terms_are : AreTerms b.trail.graph.nodes b.trail.graph.added
  pub tableau : IsTableau b.standing.tableau
  pub opened : IsOpenedFor a c b ids
  pub questions_are : map (tree a) asked ≡ questions (question a c)
  pub settled : IsSettled a c es ks (told b) cases
  pub still : IsStill a (facts_of a ks) asked

-- then the state is open, and the values are those that known facts give
abbrev pub RestIsOpen : Type 0
RestIsOpen = (a : Arena) (c : Condition) (b : Both) (ids asked : List TermId) (es : List Entry) (ks : List Known) (cases : List Term) → IsAtRest a c b ids asked es ks cases
    → IsOpenState a c b (said_on a ks (told b)) (values_of a ks)

-- the path is live
abbrev pub RestIsLive : Type 0
RestIsLive = (a : Arena) (c : Condition) (b : Both) (ids asked : List TermId) (es : List Entry) (ks : List Known) (cases : List Term) → IsAtRest a c b ids asked es ks cases
    → IsLive (question a c) (facts (question a c) cases)

-- and where nothing is left to split on, it is full
abbrev pub FullRestIsFull : Type 0
FullRestIsFull = (a : Arena) (c : Condition) (b : Both) (ids asked : List TermId) (es : List Entry) (ks : List Known) (cases : List Term) → IsAtRest a c b ids asked es ks cases
    → (direct cores all : List (Option Bool)) → following.AreListed a (facts_of a ks) direct cores all → HaveValues all ids × HaveOrders a all ks ids
    → IsFullState a c b (said_on a ks (told b)) (values_of a ks)
