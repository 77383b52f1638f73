-- Types as trees of numbers, and back.
use Rattle.std.specs.Prelude.{zero, suc, ◌≡◌, refl}
use base.Stored.{Gv, gnil, gnum, gcons, num}
use Rattle.spv_logic.specs.list.Ways.{Way}
use Rattle.spv_tree.specs.syntax.Model.Codes.{way_name, way_constant, way_several}
use Rattle.spv_tree.specs.syntax.Types.{TypeDenoter, named, range, pointer, array, fields, MoreTypes, no_more_types, more_types, Field, no_field, field, MoreFields, no_more_fields, more_fields}

abbrev mutual
  type_to : TypeDenoter → Gv
  type_to (named a b) = gcons (gnum 0) (gcons (gnum a) (way_name.to b))
  type_to (range a b c) = gcons (gnum 1) (gcons (gnum a) (gcons (way_constant.to b) (way_constant.to c)))
  type_to (pointer a b) = gcons (gnum 2) (gcons (gnum a) (way_name.to b))
  type_to (array a b c d) = gcons (gnum 3) (gcons (gnum a) (gcons (type_to b) (gcons (more_types_to c) (type_to d))))
  type_to (fields a b c) = gcons (gnum 4) (gcons (gnum a) (gcons (field_to b) (more_fields_to c)))

  more_types_to : MoreTypes → Gv
  more_types_to no_more_types = gnil
  more_types_to (more_types a b) = gcons (type_to a) (more_types_to b)

  field_to : Field → Gv
  field_to (no_field a) = gcons (gnum 0) (gnum a)
  field_to (field a b c) = gcons (gnum 1) (gcons (gnum a) (gcons ((way_several way_name).to b) (type_to c)))

  more_fields_to : MoreFields → Gv
  more_fields_to no_more_fields = gnil
  more_fields_to (more_fields a b) = gcons (field_to a) (more_fields_to b)

abbrev mutual
  type_back : Gv → TypeDenoter
  type_back (gcons (gnum zero) (gcons a b)) = named (num a) (way_name.back b)
  type_back (gcons (gnum (suc zero)) (gcons a (gcons b c))) = range (num a) (way_constant.back b) (way_constant.back c)
  type_back (gcons (gnum (suc (suc zero))) (gcons a b)) = pointer (num a) (way_name.back b)
  type_back (gcons (gnum (suc (suc (suc zero)))) (gcons a (gcons b (gcons c d)))) = array (num a) (type_back b) (more_types_back c) (type_back d)
  type_back (gcons (gnum (suc (suc (suc (suc zero))))) (gcons a (gcons b c))) = fields (num a) (field_back b) (more_fields_back c)
  type_back _ = named 0 (way_name.back gnil)

  more_types_back : Gv → MoreTypes
  more_types_back (gcons a b) = more_types (type_back a) (more_types_back b)
  more_types_back _ = no_more_types

  field_back : Gv → Field
  field_back (gcons (gnum zero) a) = no_field (num a)
  field_back (gcons (gnum (suc zero)) (gcons a (gcons b c))) = field (num a) ((way_several way_name).back b) (type_back c)
  field_back _ = no_field 0

  more_fields_back : Gv → MoreFields
  more_fields_back (gcons a b) = more_fields (field_back a) (more_fields_back b)
  more_fields_back _ = no_more_fields

mutual
  pub type_same : (x : TypeDenoter) → type_back (type_to x) ≡ x
  type_same (named a b) = refl
  type_same (range a b c) = λ i. range a (way_constant.same b i) (way_constant.same c i)
  type_same (pointer a b) = refl
  type_same (array a b c d) = λ i. array a (type_same b i) (more_types_same c i) (type_same d i)
  type_same (fields a b c) = λ i. fields a (field_same b i) (more_fields_same c i)

  more_types_same : (x : MoreTypes) → more_types_back (more_types_to x) ≡ x
  more_types_same no_more_types = refl
  more_types_same (more_types a b) = λ i. more_types (type_same a i) (more_types_same b i)

  pub field_same : (x : Field) → field_back (field_to x) ≡ x
  field_same (no_field a) = refl
  field_same (field a b c) = λ i. field a ((way_several way_name).same b i) (type_same c i)

  more_fields_same : (x : MoreFields) → more_fields_back (more_fields_to x) ≡ x
  more_fields_same no_more_fields = refl
  more_fields_same (more_fields a b) = λ i. more_fields (field_same a i) (more_fields_same b i)

abbrev pub way_type : Way TypeDenoter
way_type = record { to = type_to; back = type_back; same = type_same }

abbrev pub way_field : Way Field
way_field = record { to = field_to; back = field_back; same = field_same }
