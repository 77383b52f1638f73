-- Which relations can be known on a path, which terms a search adds to its graph, and what fewer facts show.
use Rattle.std.specs.Prelude.{◌≡◌, Bool, true, List, map}
use Rattle.spv_logic.specs.declared.conditions.TermId.{TermId}
use Rattle.spv_logic.specs.Terms.{Term}
use Rattle.spv_term.specs.declared.nodes.Condition.{Condition}
use Rattle.spv_term.specs.Arena.{Arena, IsArena, tree}
use Rattle.spv_congruence.specs.Graph.{AreTerms}
use Rattle.spv_congruence.specs.Told.{IsOf}
use Rattle.spv_proof_rules.specs.Effects.{Question}
use Rattle.spv_proof_rules.specs.Stand.{question}
use Rattle.spv_models.specs.leaf_models.Laws.{AreFormulas}
use Rattle.spv_models.specs.leaf_models.Subterms.{is_among}
use Rattle.spv_models.specs.leaf_models.Tables.{formulas_of}
use Rattle.spv_models.specs.split_trees.Paths.{atoms, facts}
use Rattle.spv_models.specs.split_trees.Shown.{ShowsLive}
use Rattle.spv_share.specs.declared.both.Both.{Both}
use Rattle.spv_share.specs.Relations.{AreNodes}
use Rattle.spv_branch_theory.specs.consistency.States.{AreRelated, HasAtoms}
use Rattle.spv_branch_theory.specs.search_invariant.Facts.{AreFacts}

-- on a path to which only such facts came, each relation of whole numbers that is known, or whose negation is, is an atom or an order that was told
abbrev pub KnownRelationsAreTold : Type 0
KnownRelationsAreTold = (a : Arena) (c : Condition) (b : Both) (fs : List Term) → AreFormulas a.shapes a.decls (formulas_of (question a c).sequent)
    → AreFacts a b (question a c) fs → AreRelated a b (question a c) (facts (question a c) fs)

-- where each atom is the tree of a term that was added to the graph, each subterm of the atoms is
abbrev pub SubtermsOfAtomsAreAdded : Type 0
SubtermsOfAtomsAreAdded = (a : Arena) (c : Condition) (b : Both) (ids : List TermId) → IsArena a → IsOf a b.trail.graph → AreTerms b.trail.graph.nodes b.trail.graph.added
    → AreNodes b.trail.graph.nodes ids → ((t : Term) → is_among (atoms (question a c)) t ≡ true → is_among (map (tree a) ids) t ≡ true) → HasAtoms a b (question a c)

-- what shows a path live shows one live whose facts are among its facts
abbrev pub FewerAreLive : Type 0
FewerAreLive = (q : Question) (fs gs : List Term) (same : Term → Term → Bool) → ShowsLive q fs same → ((t : Term) → is_among gs t ≡ true → is_among fs t ≡ true) → ShowsLive q gs same
