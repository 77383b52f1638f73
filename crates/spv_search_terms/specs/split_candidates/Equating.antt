-- What an arena and a list of terms of it gain by equations.
use Rattle.std.specs.Prelude.{◌≡◌, ℕ, List, [], map, length, Option, Some, None, slice_get, slice_index_or}
use Rattle.spv_logic.specs.declared.conditions.TermId.{TermId}
use Rattle.spv_logic.specs.Terms.{Term}
use Rattle.spv_term.specs.declared.nodes.Node.{Node}
use Rattle.spv_term.specs.Arena.{Arena, AllBelow, tree}
use Rattle.spv_atoms.specs.Atoms.{with_terms}
use Rattle.spv_search_terms.specs.subterms.Gaining.{Gains, Remains}

abbrev pub args_of : Option Node → List TermId
args_of None = []
args_of (Some n) = n.args

-- the arguments of a term
abbrev pub args_at : Arena → TermId → List TermId
args_at a t = args_of (slice_get a.nodes t.0)

-- the id at a place
abbrev pub at : List TermId → ℕ → TermId
at ids place = slice_index_or ids place (record { 0 = 0 })

-- the arena has these terms more, and so has the list, each where it is new
pub record GainsAtoms (old : Arena) (out : List TermId) (new : Arena) (more : List TermId) (es : List Term) : Type 0 where
  pub gains : Gains old new es
  pub atoms : map (tree new) more ≡ with_terms (map (tree old) out) es
  pub in_range : AllBelow (length new.nodes) more

-- with some of these gained, those that are left come to what all of them do
pub record RemainsAtoms (old : Arena) (out : List TermId) (now : Arena) (found : List TermId) (all rest : List Term) : Type 0 where
  pub remains : Remains old now all rest
  pub atoms : with_terms (map (tree now) found) rest ≡ with_terms (map (tree old) out) all
  pub in_range : AllBelow (length now.nodes) found
