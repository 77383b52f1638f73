-- Lists of what stands under names.
use Rattle.std.specs.Prelude.{ℕ, zero, suc, Bool, true, ◌&&◌, not, List, [], ◌∷◌, Option, Some, None, nat_eq, if◌then◌else◌}
use Rattle.std.specs.List.{list_any}
use Rattle.spv_logic.specs.declared.names.names.Symbol.{Symbol}

abbrev pub same_name : Symbol → Symbol → Bool
same_name x y = nat_eq x.0 y.0

-- what stands under a name; the first entry counts
abbrev pub found : {X : Type 0} → List (Symbol × X) → Symbol → Option X
found [] name = None
found (entry ∷ entries) name = if same_name entry.0 name then Some entry.1 else found entries name

-- the entries with this at a name that is there
abbrev pub changed : {X : Type 0} → List (Symbol × X) → Symbol → X → List (Symbol × X)
changed [] name x = []
changed (entry ∷ entries) name x =
    if same_name entry.0 name then (entry.0, x) ∷ entries else entry ∷ changed entries name x

abbrev pub first_of : {X : Type 0} → Option X → Option X → Option X
first_of (Some x) other = Some x
first_of None other = other

-- the item at a place of a list, counted from 0
abbrev pub item_at : {X : Type 0} → List X → ℕ → Option X
item_at [] n = None
item_at (x ∷ xs) zero = Some x
item_at (x ∷ xs) (suc n) = item_at xs n

-- whether no two items of a list are the same
abbrev pub all_differ : {X : Type 0} → (X → X → Bool) → List X → Bool
all_differ same [] = true
all_differ same (x ∷ xs) = not (list_any (same x) xs) && all_differ same xs

abbrev pub names_differ : List Symbol → Bool
names_differ names = all_differ same_name names
