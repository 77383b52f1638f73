-- Labels of terms of an arena, as the congruence graph gives them, as classes of trees.
use Rattle.std.specs.Prelude.{◌≡◌, ℕ, Bool, List, [], ◌∷◌, length, Some, slice_get, nat_eq, if◌then◌else◌}
use Rattle.spv_logic.specs.declared.conditions.TermId.{TermId}
use Rattle.spv_logic.specs.Terms.{Term, term_eq}
use Rattle.spv_term.specs.declared.nodes.Node.{Node}
use Rattle.spv_term.specs.Arena.{Arena, AllBelow, tree}
use Rattle.spv_term.specs.closure.Joined.{JoinedIn}
use Rattle.spv_term.specs.closure.Laws.{Listed}

-- the label of the first of these ids that stands for a tree; of any other tree, 0
abbrev pub label_in : Arena → (TermId → ℕ) → List TermId → Term → ℕ
label_in a label [] t = 0
label_in a label (u ∷ us) t = if term_eq (tree a u) t then label u else label_in a label us t

abbrev pub same_labels : Arena → (TermId → ℕ) → List TermId → Term → Term → Bool
same_labels a label ids s t = nat_eq (label_in a label ids s) (label_in a label ids t)

-- one of these ids stands for a tree
pub record HasId (a : Arena) (ids : List TermId) (t : Term) : Type 0 where
  pub id : TermId
  pub listed : Listed ids id
  pub is : tree a id ≡ t

-- labels of ids that were added, with their arguments: equal exactly where there is a derivation from what was told
pub record AreExact (a : Arena) (ids : List TermId) (Told : TermId → TermId → Type 0) (label : TermId → ℕ) : Type 0 where
  pub in_range : AllBelow (length a.nodes) ids
  pub arguments : (t : TermId) (n : Node) → Listed ids t → slice_get a.nodes t.0 ≡ Some n → (i : ℕ) (u : TermId) → slice_get n.args i ≡ Some u → Listed ids u
  pub derived : (s t : TermId) → Listed ids s → Listed ids t → label s ≡ label t → JoinedIn a (Listed ids) Told s t
  pub found : (s t : TermId) → Listed ids s → Listed ids t → JoinedIn a (Listed ids) Told s t → label s ≡ label t
