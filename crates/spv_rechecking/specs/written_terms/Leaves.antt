-- Variables, classes and start values that are found by their words.
use Rattle.std.specs.Prelude.{ℕ, List, [], ◌∷◌, map, Option, if◌then◌else◌}
use Rattle.spv_logic.specs.declared.names.names.Symbol.{Symbol}
use Rattle.spv_logic.specs.declared.operators.Head.{Head}
use Rattle.spv_listing_values.specs.Interned.{ArePlaces}
use Rattle.spv_rechecking.specs.declared.written_terms.leaves.Leaves.{Leaves}
use Rattle.spv_rechecking.specs.written_terms.Printing.{leaf_text}
use Rattle.spv_rechecking.specs.written_terms.Standing.{is_leaf}

-- each is found by its word, at the first place where one has it
pub record HaveLeaves (names : List (List ℕ)) (titles : List (Option Symbol)) (l : Leaves) : Type 0 where
  pub places : ArePlaces (λ k. k.items) l.places (map (leaf_text names titles) l.heads.items)

-- a head alone, where it is a leaf
abbrev pub if_leaf : Head → List Head
if_leaf h = if is_leaf h then h ∷ [] else []
