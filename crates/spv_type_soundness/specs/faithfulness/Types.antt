-- From which trees types may come.
use Rattle.std.specs.Prelude.{◌≡◌, ℕ, List, [], ◌∷◌, ◌++◌, map, Some, ℤ}
use Rattle.spv_logic.specs.declared.names.names.Symbol.{Symbol}
use Rattle.spv_logic.specs.declared.types.TypeId.{TypeId}
use Rattle.spv_tree.specs.declared.syntax.lists.Several.{Several}
use Rattle.spv_tree.specs.declared.syntax.names.Name.{Name}
use Rattle.spv_tree.specs.declared.syntax.names.Constant.{Constant}
use Rattle.spv_tree.specs.syntax.Types.{TypeDenoter, MoreTypes, Field, MoreFields, named, range, pointer, array, fields, no_more_types, more_types, no_field, field, no_more_fields, more_fields}
use Rattle.spv_program.specs.declared.types.TypeField.{TypeField}
use Rattle.spv_program.specs.declared.types.TypeForm.TheVariants.{Range, Pointer, Array, Record}
use Rattle.spv_program.specs.Lists.{found, item_at}
use Rattle.spv_type_soundness.specs.faithfulness.Names.{View, type_named}
use Rattle.spv_type_soundness.specs.faithfulness.Statements.{ConstantFrom}

-- fields of one type
abbrev pub fields_of : List Name → TypeId → List TypeField
fields_of names t = map (λ x. record { name = x.symbol; of = t }) names

-- by what the part of the text sees, and the names that the targets of pointers may have
module _ (v : View) (targets : List (Symbol × TypeId)) where
  mutual
    pub data TypeFrom : TypeId → TypeDenoter → Type 0 where
      by_name : {t : TypeId} {line : ℕ} {x : Name} → type_named v x.symbol ≡ Some t → TypeFrom t (named line x)
      subrange : {t : TypeId} {a b : ℤ} {line : ℕ} {low high : Constant}
          → item_at v.program.forms t.0 ≡ Some (Range a b) → ConstantFrom v a low → ConstantFrom v b high → TypeFrom t (range line low high)
      to_cells : {t u : TypeId} {line : ℕ} {x : Name} → item_at v.program.forms t.0 ≡ Some (Pointer u) → found targets x.symbol ≡ Some u
          → TypeFrom t (pointer line x)
      array_of : {t i e : TypeId} {line : ℕ} {index element : TypeDenoter}
          → item_at v.program.forms t.0 ≡ Some (Array i e) → TypeFrom i index → TypeFrom e element
          → TypeFrom t (array line index no_more_types element)
      -- with a second index the elements are arrays over the other indices
      arrays_of : {t i e : TypeId} {line : ℕ} {index second element : TypeDenoter} {more : MoreTypes}
          → item_at v.program.forms t.0 ≡ Some (Array i e) → TypeFrom i index → TypeFrom e (array line second more element)
          → TypeFrom t (array line index (more_types second more) element)
      record_of : {t : TypeId} {fs : List TypeField} {line : ℕ} {first : Field} {more : MoreFields}
          → item_at v.program.forms t.0 ≡ Some (Record fs) → FieldsFrom fs (more_fields first more) → TypeFrom t (fields line first more)

    pub data FieldsFrom : List TypeField → MoreFields → Type 0 where
      no_fields : FieldsFrom [] no_more_fields
      without_names : {fs : List TypeField} {line : ℕ} {more : MoreFields} → FieldsFrom fs more
          → FieldsFrom fs (more_fields (no_field line) more)
      with_names : {t : TypeId} {fs : List TypeField} {line : ℕ} {names : Several Name} {of : TypeDenoter} {more : MoreFields}
          → TypeFrom t of → FieldsFrom fs more → FieldsFrom (fields_of (names.first ∷ names.more) t ++ fs)
          (more_fields (field line names of) more)
