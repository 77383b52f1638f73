-- Types that are told apart: each is built of types that are there, and no two pointer types have one target.
use Rattle.std.specs.Prelude.{◌≡◌, ℕ, ◌<◌, Bool, true, ◌&&◌, not, List, length, Option, Some, None, is_some, nat_lt, slice_set, slice_index_or}
use Rattle.std.specs.List.{list_all}
use Rattle.spv_logic.specs.declared.types.TypeId.{TypeId}
use Rattle.spv_program.specs.declared.types.TypeForm.{TypeForm}
use Rattle.spv_program.specs.declared.types.TypeForm.TheVariants.{Pointer, Array, Record}
use Rattle.spv_program.specs.Lists.{item_at}

-- whether a form is built of the first so many types
abbrev pub built_below : ℕ → TypeForm → Bool
built_below n (Pointer t) = nat_lt t.0 n
built_below n (Array index element) = nat_lt index.0 n && nat_lt element.0 n
built_below n (Record fields) = list_all (λ f. nat_lt f.of.0 n) fields
built_below n other = true

-- the first so many of the types are told apart; for each type the pointer type to it is listed
pub record IndexedTo (place : ℕ) (forms : List TypeForm) (pointers : List (Option ℕ)) : Type 0 where
  pub many : length pointers ≡ length forms
  pub listed : (i : ℕ) (t : TypeId) → i < place → item_at forms i ≡ Some (Pointer t) → item_at pointers t.0 ≡ Some (Some i)
  pub known : (t p : ℕ) → item_at pointers t ≡ Some (Some p) → item_at forms p ≡ Some (Pointer (record { 0 = t }))
  pub before : (t p : ℕ) → item_at pointers t ≡ Some (Some p) → p < place
  pub closed : (i : ℕ) (f : TypeForm) → i < place → item_at forms i ≡ Some f → built_below (length forms) f ≡ true

abbrev pub IsIndexed : List TypeForm → List (Option ℕ) → Type 0
IsIndexed forms pointers = IndexedTo (length forms) forms pointers

-- a further form, noted under its target where it is a pointer
abbrev pub noted : List (Option ℕ) → ℕ → TypeForm → List (Option ℕ)
noted pointers place (Pointer t) = slice_set pointers t.0 (Some place)
noted pointers place other = pointers

-- whether no pointer type to the same target is noted
abbrev pub is_alone : List (Option ℕ) → TypeForm → Bool
is_alone pointers (Pointer t) = not (is_some (slice_index_or pointers t.0 None))
is_alone pointers other = true
