-- Names that are declared together, each new.
use Rattle.std.specs.Prelude.{◌≡◌, ℕ, Bool, true, false, not, List, map, take, Some, None, slice_get}
use Rattle.std.specs.List.{list_any}
use Rattle.spv_logic.specs.declared.names.names.Symbol.{Symbol}
use Rattle.spv_logic.specs.declared.types.TypeId.{TypeId}
use Rattle.spv_program.specs.Lists.{found, same_name}
use Rattle.spv_declaration_typing.specs.type_typing.Reading.{fields_of}

abbrev pub is_no_field : List (Symbol × TypeId) → Symbol → Bool
is_no_field entries x = not (list_any (λ f. same_name f.name x) (fields_of entries))

-- names with one value under each
abbrev pub under : {X : Type 0} → X → List Symbol → List (Symbol × X)
under v names = map (λ x. (x, v)) names

-- each is free, and none stands twice
pub record AllNew (free : Symbol → Bool) (names : List Symbol) : Type 0 where
  pub is_free : (i : ℕ) (x : Symbol) → slice_get names i ≡ Some x → free x ≡ true
  pub differs : (i : ℕ) (x : Symbol) → slice_get names i ≡ Some x → list_any (same_name x) (take i names) ≡ false

-- nothing stands under any of them, and none stands twice
pub record NoneThere {X : Type 0} (entries : List (Symbol × X)) (names : List Symbol) : Type 0 where
  pub missing : (i : ℕ) (x : Symbol) → slice_get names i ≡ Some x → found entries x ≡ None
  pub differs : (i : ℕ) (x : Symbol) → slice_get names i ≡ Some x → list_any (same_name x) (take i names) ≡ false
