-- Each question of a search is a node of a graph to which the atoms were added.
use Rattle.std.proofs.Common.{◌≡◌, ◌<◌, true, List, map, length, sym, ap, ◌∙◌, subst}
use Rattle.std.proofs.lemmas.Option.{slice_get_within}
use Rattle.spv_logic.specs.declared.conditions.TermId.{TermId}
use Rattle.spv_logic.specs.Terms.{Term}
use Rattle.spv_term.specs.declared.nodes.Condition.{Condition}
use Rattle.spv_term.specs.Arena.{Arena, IsArena, AllBelow, tree}
use Rattle.spv_term.proofs.ArenaLemmas.{HasOneId-arena}
use Rattle.spv_term.proofs.TreeLemmas.{AllBelow-at}
use Rattle.spv_congruence.specs.Graph.{AreTerms, Graph}
use Rattle.spv_congruence.specs.Keep.{IsNode}
use Rattle.spv_congruence.specs.Told.{IsOf}
use Rattle.spv_atoms.proofs.Members.{has}
use Rattle.spv_proof_rules.specs.Stand.{question}
use Rattle.spv_models.specs.leaf_models.Labels.{HasId}
use Rattle.spv_models.specs.leaf_models.Laws.{AreFormulas}
use Rattle.spv_models.specs.leaf_models.Tables.{formulas_of}
use Rattle.spv_models.specs.split_trees.Paths.{atoms, questions}
use Rattle.spv_share.specs.declared.both.Both.{Both}
use Rattle.spv_share.specs.Relations.{AreNodes}
use Rattle.spv_branch_theory.proofs.search_invariant.Adding.{subterms_added}
use Rattle.spv_trail.proofs.trail_states.RowConstraint.{found_from}
use Rattle.spv_trail.proofs.search_setup.Standing.{question_stands}

-- a term whose tree was added is a node
node_of_tree : (a : Arena) → IsArena a → (g : Graph) → IsOf a g → AreTerms g.nodes g.added → (t : TermId) → t.0 < length a.nodes → HasId a g.added (tree a t) → IsNode g.nodes t
node_of_tree a ok g of are t inside h =
    let n = are.noded h.listed.0 h.id h.listed.1 in
    let there : h.id.0 < length a.nodes = slice_get_within a.nodes h.id.0 n.0 (of.node h.id n.0 n.1) in
    subst (IsNode g.nodes) (HasOneId-arena a ok h.id t there inside h.is) n

pub questions_added : (a : Arena) (c : Condition) (b : Both) (ids asked : List TermId) → IsArena a → AreFormulas a.shapes a.decls (formulas_of (question a c).sequent) → IsOf a b.trail.graph → AreTerms b.trail.graph.nodes b.trail.graph.added
    → AreNodes b.trail.graph.nodes ids → map (tree a) ids ≡ atoms (question a c) → AllBelow (length a.nodes) asked → map (tree a) asked ≡ questions (question a c) → AreNodes b.trail.graph.nodes asked
questions_added a c b ids asked ok formulas of are nodes atoms_are inside questions_are =
    let parts = subterms_added a c b ids ok of are nodes (λ u m. ap (λ (ts : List Term). has ts u) atoms_are ∙ m) in
    record {
      each = λ i t at.
          let is_question : has (questions (question a c)) (tree a t) ≡ true = ap (λ (ts : List Term). has ts (tree a t)) (sym questions_are) ∙ found_from (tree a) asked i t at in
          let stands = question_stands a.shapes a.decls (formulas_of (question a c).sequent) formulas (tree a t) is_question in
          node_of_tree a ok b.trail.graph of are t (AllBelow-at (length a.nodes) asked i t inside at) (parts.each (tree a t) stands);
    }
