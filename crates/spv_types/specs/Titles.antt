-- Titles of types, one name after the other.
use Rattle.std.specs.Prelude.{ℕ, List, Option, Some, None, replicate, slice_set}
use Rattle.spv_logic.specs.declared.names.names.Symbol.{Symbol}
use Rattle.spv_logic.specs.declared.types.TypeId.{TypeId}

abbrev pub no_titles : ℕ → List (Option Symbol)
no_titles many = replicate many None

-- a further name in front of the others; it is the first of its type then
abbrev pub entitled : List (Option Symbol) → Symbol → TypeId → List (Option Symbol)
entitled titles x t = slice_set titles t.0 (Some x)
