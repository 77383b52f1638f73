-- What an arena gains, as the trees of its nodes show it.
use Rattle.std.specs.Prelude.{◌≡◌, ◌<◌, List, length}
use Rattle.spv_logic.specs.Terms.{Term}
use Rattle.spv_term.specs.Arena.{Arena, trees_of, Extends}
use Rattle.spv_atoms.specs.Atoms.{with_terms}

-- the trees of an arena's nodes are those of another one, with these where they were not among them
pub record Gains (old new : Arena) (es : List Term) : Type 0 where
  pub grows : Extends old new
  pub terms : trees_of new.nodes ≡ with_terms (trees_of old.nodes) es

-- with these they would be more than the arena may have
pub record Stops (old : Arena) (es : List Term) : Type 0 where
  pub more : old.most < length (with_terms (trees_of old.nodes) es)

-- with some of these gained, those that are left come to what all of them do
pub record Remains (old now : Arena) (all rest : List Term) : Type 0 where
  pub grows : Extends old now
  pub terms : with_terms (trees_of now.nodes) rest ≡ with_terms (trees_of old.nodes) all
