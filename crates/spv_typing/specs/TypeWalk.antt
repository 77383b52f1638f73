-- The walk over constants and types.
use Rattle.std.specs.Prelude.{ℕ, Bool, true, false, ◌&&◌, not, List, [], ◌∷◌, ◌++◌, map, length, Option, Some, None, Ok, Err, ℤ, pos, negsuc, ◌*ℤ◌, if◌then◌else◌}
use Rattle.std.specs.List.{list_any}
use Rattle.std.specs.Int.RustNames.{int_lt}
use Rattle.spv_logic.specs.declared.names.names.Symbol.{Symbol}
use Rattle.spv_logic.specs.declared.types.TypeId.{TypeId}
use Rattle.spv_tree.specs.declared.syntax.names.Name.{Name}
use Rattle.spv_tree.specs.declared.syntax.names.Scalar.{Scalar}
use Rattle.spv_tree.specs.declared.syntax.names.Scalar.TheVariants as scalar
use Rattle.spv_tree.specs.declared.syntax.names.Constant.{Constant}
use Rattle.spv_tree.specs.declared.syntax.operators.PlusOrMinus.{PlusOrMinus}
use Rattle.spv_tree.specs.declared.syntax.operators.PlusOrMinus.TheVariants as prefix
use Rattle.spv_tree.specs.declared.syntax.lists.Several.{Several}
use Rattle.spv_tree.specs.syntax.Types.{TypeDenoter, MoreTypes, Field, MoreFields, named, range, pointer, array, fields, no_more_types, more_types, no_field, field, no_more_fields, more_fields}
use Rattle.spv_program.specs.declared.types.TypeField.{TypeField}
use Rattle.spv_program.specs.declared.types.TypeForm.TheVariants as form
use Rattle.spv_program.specs.Lists.{same_name, item_at}
use Rattle.spv_typing.specs.Outcomes.{Outcome, after, where_so, each, undeclared, twice, wrong}
use Rattle.spv_typing.specs.Known.{Meaning, OfType, OfConstant, Scope, meaning}
use Rattle.spv_typing.specs.Merging.{Written, Built, PointerTo}

abbrev pub all_names : {X : Type 0} → Several X → List X
all_names xs = xs.first ∷ xs.more

-- ---- constants

abbrev pub negative : ℤ → ℤ
negative z = negsuc 0 *ℤ z

abbrev pub signed : Option PlusOrMinus → ℤ → ℤ
signed (Some prefix.Minus) z = negative z
signed _ z = z

abbrev pub constant_named : ℕ → Name → Option Meaning → Outcome ℤ
constant_named line x None = Err (undeclared x)
constant_named line x (Some (OfConstant z)) = Ok z
constant_named line x (Some other) = Err (wrong line)

abbrev pub scalar_value : Scope → ℕ → Scalar → Outcome ℤ
scalar_value s line (scalar.Number n) = Ok (pos n)
scalar_value s line (scalar.Name x) = constant_named line x (meaning s x.symbol)

-- the number of a constant
abbrev pub constant : Scope → Constant → Outcome ℤ
constant s c = after (scalar_value s c.line c.value) (λ z. Ok (signed c.sign z))

-- ---- types

-- the types so far, and the number of the one that was read
pub record Reading : Type 0 where
  pub written : List Written
  pub type : TypeId

-- a further type
abbrev pub adding : List Written → Written → Reading
adding types w = record { written = types ++ w ∷ []; type = record { 0 = length types } }

abbrev pub type_named : ℕ → Name → Option Meaning → Outcome TypeId
type_named line x None = Err (undeclared x)
type_named line x (Some (OfType t)) = Ok t
type_named line x (Some other) = Err (wrong line)

-- the target of `^` has a name of the TYPE part, which may stand later in the text
abbrev pub pointer_named : (Symbol → Bool) → List Written → ℕ → Name → Option Meaning → Outcome Reading
pointer_named is_target types line x other =
    if is_target x.symbol then Ok (adding types (PointerTo x.symbol)) else no_target other
  where
    no_target : Option Meaning → Outcome Reading
    no_target None = Err (undeclared x)
    no_target (Some other) = Err (wrong line)

abbrev pub type_line : TypeDenoter → ℕ
type_line (named line x) = line
type_line (range line low high) = line
type_line (pointer line x) = line
type_line (array line first more elements) = line
type_line (fields line first more) = line

abbrev pub is_range : Option Written → Bool
is_range (Some (Built (form.Range low high))) = true
is_range _ = false

-- an index type of an array, and the line on which it begins
pub record Index : Type 0 where
  pub type : TypeId
  pub line : ℕ

pub record Indices : Type 0 where
  pub written : List Written
  pub indices : List Index

-- each index is of a subrange
abbrev pub check_index : List Written → List Index → Index → Outcome (List Index)
check_index types done i = where_so (is_range (item_at types i.type.0)) (wrong i.line) (Ok (done ++ i ∷ []))

-- an array of arrays, the last index innermost
abbrev pub nested : List Written → List Index → TypeId → Reading
nested types [] element = record { written = types; type = element }
nested types (i ∷ indices) element =
    let inner = nested types indices element in adding inner.written (Built (form.Array i.type inner.type))

abbrev pub nested_if_ranges : List Written → List Index → TypeId → Outcome Reading
nested_if_ranges types indices element = after (each (check_index types) [] indices) (λ all. Ok (nested types all element))

-- the types so far, and the fields of a record so far
pub record Fields : Type 0 where
  pub written : List Written
  pub fields : List TypeField

-- the names of fields of one type, none twice
abbrev pub new_field : List TypeField → List Symbol → Name → Outcome (List Symbol)
new_field done names x =
    where_so (not (list_any (λ f. same_name f.name x.symbol) done) && not (list_any (same_name x.symbol) names)) (twice x)
    (Ok (names ++ x.symbol ∷ []))

abbrev pub with_fields : Fields → List Symbol → TypeId → List Written → Fields
with_fields fs names t types = record { written = types; fields = fs.fields ++ map (λ x. record { name = x; of = t }) names }

abbrev mutual
  -- the type that is written; `is_target` tells the names that pointers may lead to
  pub denoted : Scope → (Symbol → Bool) → List Written → TypeDenoter → Outcome Reading
  denoted s is_target types (named line x) =
      after (type_named line x (meaning s x.symbol)) (λ t. Ok (record { written = types; type = t }))
  denoted s is_target types (range line low high) =
      after (constant s low) (λ a. after (constant s high) (λ b.
      where_so (not (int_lt b a)) (wrong line) (Ok (adding types (Built (form.Range a b))))))
  denoted s is_target types (pointer line x) = pointer_named is_target types line x (meaning s x.symbol)
  denoted s is_target types (array line first more elements) =
      after (denoted s is_target types first) (λ one.
      after (all_denoted s is_target (record { written = one.written; indices = record { type = one.type; line = type_line first } ∷ [] }) more) (λ i.
      after (denoted s is_target i.written elements) (λ e. nested_if_ranges e.written i.indices e.type)))
  denoted s is_target types (fields line first more) =
      after (field_denoted s is_target (record { written = types; fields = [] }) first) (λ one.
      after (fields_denoted s is_target one more) (λ all. Ok (adding all.written (Built (form.Record all.fields)))))

  pub all_denoted : Scope → (Symbol → Bool) → Indices → MoreTypes → Outcome Indices
  all_denoted s is_target i no_more_types = Ok i
  all_denoted s is_target i (more_types t more) =
      after (denoted s is_target i.written t) (λ r.
      all_denoted s is_target (record { written = r.written; indices = i.indices ++ record { type = r.type; line = type_line t } ∷ [] }) more)

  pub field_denoted : Scope → (Symbol → Bool) → Fields → Field → Outcome Fields
  field_denoted s is_target fs (no_field line) = Ok fs
  field_denoted s is_target fs (field line names of) =
      after (each (new_field fs.fields) [] (all_names names)) (λ new.
      after (denoted s is_target fs.written of) (λ r. Ok (with_fields fs new r.type r.written)))

  pub fields_denoted : Scope → (Symbol → Bool) → Fields → MoreFields → Outcome Fields
  fields_denoted s is_target fs no_more_fields = Ok fs
  fields_denoted s is_target fs (more_fields f more) =
      after (field_denoted s is_target fs f) (λ next. fields_denoted s is_target next more)
