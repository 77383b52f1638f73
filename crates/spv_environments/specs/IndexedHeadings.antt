-- Headings that are found by the numbers of their routines.
use Rattle.std.specs.Prelude.{◌≡◌, ℕ, ◌≤◌, List, length, Option, Some, None, slice_index_or}
use Rattle.spv_logic.specs.declared.names.names.Symbol.{Symbol}
use Rattle.spv_program.specs.Lists.{item_at}
use Rattle.spv_environments.specs.declared.routines.Heading.{Heading}

-- under the number of each routine stands the place of its heading; so no two have one number
pub record AreNumbered (headings : List (Symbol × Heading)) (places : List (Option ℕ)) : Type 0 where
  pub each : (i : ℕ) (e : Symbol × Heading) → item_at headings i ≡ Some e → slice_index_or places e.1.number.0 None ≡ Some i

-- a list that has all that another has, and then nothing more
pub record IsLonger (old new : List (Option ℕ)) (many : ℕ) : Type 0 where
  pub same : (i : ℕ) → slice_index_or new i None ≡ slice_index_or old i None
  pub many_are : many ≤ length new
