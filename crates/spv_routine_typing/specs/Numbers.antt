-- The numbers of the routines with bodies.
use Rattle.std.specs.Prelude.{◌≡◌, ◌<◌, ℕ, suc, List, [], ◌∷◌, ◌++◌, length, Option, Some, None, is_some, option_map, if◌then◌else◌}
use Rattle.spv_logic.specs.declared.names.names.Symbol.{Symbol}
use Rattle.spv_program.specs.Lists.{same_name, found}

-- the first place of a name in a list
abbrev pub place_in : List Symbol → Symbol → Option ℕ
place_in [] x = None
place_in (name ∷ names) x = if same_name x name then Some 0 else option_map suc (place_in names x)

-- a table gives each name of a list its first place
pub record IsNumbered (names : List Symbol) (numbers : List (Symbol × ℕ)) : Type 0 where
  pub within : length names < 4294967296
  pub first : (x : Symbol) → found numbers x ≡ place_in names x

-- a table with a number under one name more, where nothing stands under it yet
abbrev pub with_number : List (Symbol × ℕ) → Symbol → ℕ → List (Symbol × ℕ)
with_number numbers name n = if is_some (found numbers name) then numbers else numbers ++ (name, n) ∷ []
