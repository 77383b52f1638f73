-- The first types that are the same, for types behind others that are told apart already.
use Rattle.std.specs.Prelude.{ℕ, suc, ◌+◌, Bool, true, false, List, [], ◌∷◌, ◌++◌, Option, Some, None, nat_eq, nat_lt}
use Rattle.std.specs.Map.{lookup}
use Rattle.spv_program.specs.Lists.{item_at}
use Rattle.spv_typing.specs.Merging.{first_where}

-- a pointer to this type
abbrev pub leads_to : ℕ → Option ℕ → Bool
leads_to t None = false
leads_to t (Some u) = nat_eq t u

abbrev pub known_or : ℕ → Option (Option ℕ) → ℕ
known_or other None = other
known_or other (Some None) = other
known_or other (Some (Some p)) = p

-- a value for each item of a list, by its place
abbrev pub placed : (ℕ → Option ℕ → ℕ) → ℕ → List (Option ℕ) → List ℕ
placed f place [] = []
placed f place (x ∷ xs) = f place x ∷ placed f (suc place) xs

-- the pointer type that is there already, or the first one of those behind
abbrev pub first_behind : List (Option ℕ) → ℕ → List (Option ℕ) → ℕ → Option ℕ → ℕ
first_behind pointers base targets place None = place
first_behind pointers base targets place (Some t) = known_or (base + first_where (leads_to t) targets) (item_at pointers t)

abbrev pub firsts_behind : List (Option ℕ) → ℕ → List (Option ℕ) → List ℕ
firsts_behind pointers base targets = placed (first_behind pointers base targets) base targets

abbrev pub is_low : ℕ → Option ℕ → Bool
is_low base None = true
is_low base (Some t) = nat_lt t base

-- ---- the steps of the code: under each type the first pointer behind that leads there, of those so far

abbrev pub seen_or : ℕ → Option ℕ → ℕ
seen_or place None = place
seen_or place (Some n) = n

abbrev pub seen_with : List (ℕ × ℕ) → ℕ → ℕ → Option ℕ → List (ℕ × ℕ)
seen_with entries target place None = entries ++ (target, place) ∷ []
seen_with entries target place (Some n) = entries

abbrev pub seen_after : List (ℕ × ℕ) → ℕ → Option ℕ → List (ℕ × ℕ)
seen_after entries place None = entries
seen_after entries place (Some t) = seen_with entries t place (lookup (nat_eq t) entries)

abbrev pub first_told : List (Option ℕ) → List (ℕ × ℕ) → ℕ → Option ℕ → ℕ
first_told pointers entries place None = place
first_told pointers entries place (Some t) = known_or (seen_or place (lookup (nat_eq t) entries)) (item_at pointers t)
