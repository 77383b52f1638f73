-- Both sides as a search opens them, and an atom whose forms do not fit.
use Rattle.std.proofs.Common.{◌≡◌, ℕ, List, [], ◌∷◌, map, length, sym, ap, ◌∙◌, subst}
use Rattle.spv_logic.specs.declared.conditions.TermId.{TermId}
use Rattle.spv_logic.specs.Terms.{Term}
use Rattle.spv_term.specs.declared.nodes.Condition.{Condition}
use Rattle.spv_term.specs.Arena.{Arena, IsArena, tree}
use Rattle.spv_term.proofs.TreeLemmas.{AllBelow-at}
use Rattle.spv_atoms.proofs.Members.{has}
use Rattle.spv_congruence.specs.Graph.{AreTerms}
use Rattle.spv_proof_rules.specs.Stand.{question}
use Rattle.spv_models.specs.leaf_models.Laws.{AreFormulas}
use Rattle.spv_models.specs.leaf_models.Tables.{formulas_of}
use Rattle.spv_search_terms.specs.declared.condition_copy.filling.Base.{Base}
use Rattle.spv_search_terms.specs.condition_copy.Copies.{IsBase}
use Rattle.spv_search_terms.specs.declared.split_candidates.asking.Questions.{Questions}
use Rattle.spv_arithmetic_side.specs.slack_rows.Rows.{HasUnfit}
use Rattle.spv_share.specs.declared.both.Both.{Both}
use Rattle.spv_share.specs.Both.{AreEnds, IsBoth, told}
use Rattle.spv_share.specs.Relations.{AreListed, AreNodes, AreParts, AreRelationsAmong}
use Rattle.spv_trail.proofs.trail_states.RowConstraint.{found_from}
use Rattle.spv_trail.specs.search_setup.Openings.{AreAsked, AreAtoms, AreSides, HasWide, IsCopied}
use Rattle.spv_trail.proofs.search_setup.Nodes.{questions_added}

pub ends_are : (a : Arena) (b : Base) → IsBase a b → AreEnds a (record { truth = b.truth; falsity = b.falsity; one = b.one; zero = b.zero })
ends_are a b h = record {
  truth = record { within = h.truth.there; is = h.truth.is };
  falsity = record { within = h.falsity.there; is = h.falsity.is };
  numbers = record { one_in = h.one.there; zero_in = h.zero.there; one_is = h.one.is; zero_is = h.zero.is };
}

pub sides_are : (a : Arena) (c : Condition) (q : Questions) (most : ℕ) (b : Both) (ids : List TermId) → IsArena a → AreFormulas a.shapes a.decls (formulas_of (question a c).sequent) → AreAsked a c q → ids ≡ q.atoms.items
    → IsBoth a b → told b ≡ [] → AreNodes b.trail.graph.nodes ids → AreParts a b.trail.graph.nodes (b.trail.truth ∷ b.trail.falsity ∷ ids) → b.standing.tableau.pivots ≡ most
    → AreRelationsAmong a (map (tree a) ids) b.relations.items → AreListed a ids b.relations.items → AreTerms b.trail.graph.nodes b.trail.graph.added → AreSides a c q most b
sides_are a c q most b ids ok formulas asked same both untold nodes parts pivots of_atoms listed terms_are =
    let P : List TermId → Type 0 = λ ts. AreParts a b.trail.graph.nodes (b.trail.truth ∷ b.trail.falsity ∷ ts) in
    let R : List TermId → Type 0 = λ ts. AreRelationsAmong a (map (tree a) ts) b.relations.items in
    let L : List TermId → Type 0 = λ ts. AreListed a ts b.relations.items in
    let are_nodes : AreNodes b.trail.graph.nodes q.atoms.items = subst (AreNodes b.trail.graph.nodes) same nodes in
    record {
      opened = record {
        atoms_are = asked.atoms_are.atoms;
        within = asked.atoms_are.atoms_in;
        nodes = are_nodes;
        parts = subst P same parts;
        listed = subst L same listed;
        of_atoms = subst R same of_atoms;
      };
      nodes = questions_added a c b q.atoms.items q.questions ok formulas both.sound.trail.of terms_are are_nodes asked.atoms_are.atoms asked.questions_are.questions_in asked.questions_are.questions;
      both = both;
      untold = untold;
      pivots = pivots;
    }

pub wide_atom : (a : Arena) (c : Condition) (b : Arena) (d : Condition) (ids : List TermId) (t : TermId) → IsCopied a c b d → AreAtoms b d ids → HasUnfit b ids t → HasWide a c b d t
wide_atom a c b d ids t copy are h = record {
  copy = copy;
  within = AllBelow-at (length b.nodes) ids h.place t are.atoms_in h.there;
  wide = record {
    is_atom = ap (λ (ts : List Term). has ts (tree b t)) (sym are.atoms) ∙ found_from (tree b) ids h.place t h.there;
    sides = h.unfit.sides;
    are = h.unfit.are;
    unfit = h.unfit.unfit;
  };
}
