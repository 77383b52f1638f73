-- Entries of a map of numbers as entries under names.
use Rattle.std.specs.Prelude.{◌≡◌, ⊤, ℕ, zero, suc, List, [], ◌∷◌, None, if◌then◌else◌}
use Rattle.spv_logic.specs.declared.names.names.Symbol.{Symbol}
use Rattle.spv_program.specs.Lists.{same_name, found}

abbrev pub named : {X : Type 0} → ℕ × X → Symbol × X
named e = (record { 0 = e.0 }, e.1)

-- a name with another value under it
abbrev pub under : {X Y : Type 0} → X → Symbol × Y → Symbol × X
under x e = (e.0, x)

-- the entries with this value under the name at a place
abbrev pub with_value : {X : Type 0} → List (Symbol × X) → ℕ → X → List (Symbol × X)
with_value [] place x = []
with_value (e ∷ es) zero x = (e.0, x) ∷ es
with_value (e ∷ es) (suc place) x = e ∷ with_value es place x

-- the entries but for the one under a name
abbrev pub without_name : {X : Type 0} → List (Symbol × X) → Symbol → List (Symbol × X)
without_name [] name = []
without_name (e ∷ es) name = if same_name e.0 name then es else e ∷ without_name es name

-- no name stands twice
abbrev pub AreApart : {X : Type 0} → List (Symbol × X) → Type 0
AreApart [] = ⊤
AreApart (e ∷ es) = (found es e.0 ≡ None) × AreApart es
