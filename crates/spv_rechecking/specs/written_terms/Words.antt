-- What words may name, as the code keeps it.
use Rattle.std.specs.Prelude.{ℕ, List, Option}
use Rattle.spv_logic.specs.declared.names.names.Symbol.{Symbol}
use Rattle.spv_logic.specs.declared.types.Shape.{Shape}
use Rattle.spv_logic.specs.declared.types.Decl.{Decl}
use Rattle.spv_rechecking.specs.declared.written_terms.leaves.Leaves.{Leaves}
use Rattle.spv_rechecking.specs.written_terms.Standing.{Words, Vocabulary}

-- the words of names, titles and leaves
abbrev pub words : List (List ℕ) → List (Option Symbol) → Leaves → Words
words names titles l = record { names = names; titles = titles; leaves = l.heads.items }

-- and with the types and symbols of the program
abbrev pub vocabulary : List (List ℕ) → List (Option Symbol) → Leaves → List Shape → List Decl → Vocabulary
vocabulary names titles l shapes decls = record { words = words names titles l; shapes = shapes; decls = decls }
