-- Where the questions of a search stand.
use Rattle.std.specs.Prelude.{◌≡◌, true, List, map, length}
use Rattle.spv_logic.specs.declared.conditions.TermId.{TermId}
use Rattle.spv_logic.specs.Terms.{Term}
use Rattle.spv_term.specs.declared.nodes.Condition.{Condition}
use Rattle.spv_term.specs.Arena.{Arena, IsArena, AllBelow, tree}
use Rattle.spv_congruence.specs.Graph.{AreTerms}
use Rattle.spv_congruence.specs.Told.{IsOf}
use Rattle.spv_proof_rules.specs.Effects.{Question}
use Rattle.spv_proof_rules.specs.Stand.{question}
use Rattle.spv_models.specs.leaf_models.Laws.{AreFormulas}
use Rattle.spv_models.specs.leaf_models.Subterms.{is_among, subterms}
use Rattle.spv_models.specs.leaf_models.Tables.{formulas_of}
use Rattle.spv_share.specs.declared.both.Both.{Both}
use Rattle.spv_share.specs.Relations.{AreNodes}
use Rattle.spv_models.specs.split_trees.Paths.{atoms, questions}

-- each question of a search over formulas of sort Bool is a subterm of an atom
abbrev pub QuestionsStandInAtoms : Type 0
QuestionsStandInAtoms = (q : Question) → AreFormulas q.shapes q.decls (formulas_of q.sequent) → (t : Term) → is_among (questions q) t ≡ true → is_among (subterms (atoms q)) t ≡ true

-- so where the atoms are nodes of a graph over an arena, the questions are
abbrev pub QuestionsAreNodes : Type 0
QuestionsAreNodes = (a : Arena) (c : Condition) (b : Both) (ids asked : List TermId) → IsArena a → AreFormulas a.shapes a.decls (formulas_of (question a c).sequent)
    → IsOf a b.trail.graph → AreTerms b.trail.graph.nodes b.trail.graph.added → AreNodes b.trail.graph.nodes ids → map (tree a) ids ≡ atoms (question a c)
    → AllBelow (length a.nodes) asked → map (tree a) asked ≡ questions (question a c) → AreNodes b.trail.graph.nodes asked
