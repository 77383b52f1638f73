-- The default of a sort is one of its values, where the shapes are those of a program.
use Rattle.std.proofs.Common.{◌≡◌, ℕ, zero, suc, Bool, true, false, List, [], ◌∷◌, map, length, pos, refl}
use Rattle.std.proofs.lemmas.Bool.{false≢true}
use Rattle.std.specs.Cmp.Derive.{both_true}
use Rattle.std.specs.List.{list_all}
use Rattle.spv_logic.proofs.list.Tests.{left_true, right_true}
use Rattle.spv_logic.specs.declared.types.TypeId.{TypeId}
use Rattle.spv_logic.specs.declared.types.Sort.{Sort}
use Rattle.spv_logic.specs.declared.types.Sort.TheVariants as sort
use Rattle.spv_logic.specs.declared.types.Field.{Field}
use Rattle.spv_logic.specs.declared.types.Shape.{Shape}
use Rattle.spv_logic.specs.declared.types.Shape.TheVariants as shape
use Rattle.spv_logic.specs.Shapes.{shape_at, sort_of_shape, sort_of_type, part_sorts, no_sorts, ends_within, may_be_part, shape_ok, shapes_ok, fields_of_shape}
use Rattle.spv_logic.specs.Fits.{fits, fields_fit, default_fields, default_of_shape, default_within, default_of, on_fields, no_fields}
use Rattle.spv_logic.proofs.Equality.{int_eq-refl}

-- no class
abbrev plain : Sort → Bool
plain (sort.Class t) = false
plain _ = true

plain_part : (shapes : List Shape) (s : Sort) → may_be_part shapes s ≡ true → plain s ≡ true
plain_part shapes sort.Int h = refl
plain_part shapes sort.Bool h = refl
plain_part shapes sort.List h = refl
plain_part shapes (sort.Ptr t) h = refl
plain_part shapes (sort.Whole t) h = refl
plain_part shapes (sort.Class t) h = absurd (false≢true h)

-- at no depth, a structure without parts
bare : (s : Shape) → no_sorts (part_sorts s) ≡ true → on_fields (fields_of_shape s) (λ fields. no_fields fields) ≡ true
bare shape.Int h = refl
bare shape.Bool h = refl
bare (shape.Pointer t) h = refl
bare (shape.Array s) h = absurd (false≢true h)
bare (shape.Record []) h = refl
bare (shape.Record (f ∷ fields)) h = absurd (false≢true h)

-- what the parts have
record Settled (shapes : List Shape) : Type 0 where
  plain_parts : (t : ℕ) → list_all (may_be_part shapes) (part_sorts (shape_at shapes t)) ≡ true

record Deep (shapes : List Shape) (depth : ℕ) (s : Sort) : Type 0 where
  is_plain : plain s ≡ true
  ends : ends_within depth shapes s ≡ true

deep_fields : (shapes : List Shape) (depth : ℕ) (fields : List Field) → ((s : Sort) → Deep shapes depth s → fits shapes (default_within depth shapes s) s ≡ true) → list_all (may_be_part shapes) (map (λ f. f.sort) fields) ≡ true → list_all (ends_within depth shapes) (map (λ f. f.sort) fields) ≡ true → fields_fit shapes (default_fields (default_within depth shapes) fields) fields ≡ true
deep_fields shapes depth [] below p e = refl
deep_fields shapes depth (f ∷ fields) below p e =
    both_true (int_eq-refl (pos f.name.0))
    (both_true (below f.sort (record { is_plain = plain_part shapes f.sort (left_true _ _ p); ends = left_true _ _ e }))
    (deep_fields shapes depth fields below (right_true (may_be_part shapes f.sort) _ p) (right_true (ends_within depth shapes f.sort) _ e)))

deep_shape : (shapes : List Shape) (depth : ℕ) (t : TypeId) (sh : Shape) → shape_at shapes t.0 ≡ sh → ((s : Sort) → Deep shapes depth s → fits shapes (default_within depth shapes s) s ≡ true) → list_all (may_be_part shapes) (part_sorts sh) ≡ true → list_all (ends_within depth shapes) (part_sorts sh) ≡ true → fits shapes (default_of_shape (default_within depth shapes) sh) (sort.Whole t) ≡ true
deep_shape shapes depth t shape.Int at below p e = rw at refl
deep_shape shapes depth t shape.Bool at below p e = rw at refl
deep_shape shapes depth t (shape.Pointer u) at below p e = rw at refl
deep_shape shapes depth t (shape.Array s) at below p e =
    rw at (both_true (below s (record { is_plain = plain_part shapes s (left_true _ _ p); ends = left_true _ _ e })) refl)
deep_shape shapes depth t (shape.Record fields) at below p e = rw at (deep_fields shapes depth fields below p e)

deep : (shapes : List Shape) → Settled shapes → (depth : ℕ) (s : Sort) → Deep shapes depth s → fits shapes (default_within depth shapes s) s ≡ true
deep shapes ok zero sort.Int d = refl
deep shapes ok zero sort.Bool d = refl
deep shapes ok zero sort.List d = refl
deep shapes ok zero (sort.Ptr t) d = refl
deep shapes ok zero (sort.Whole t) d = bare (shape_at shapes t.0) d.ends
deep shapes ok zero (sort.Class t) d = absurd (false≢true d.is_plain)
deep shapes ok (suc depth) sort.Int d = refl
deep shapes ok (suc depth) sort.Bool d = refl
deep shapes ok (suc depth) sort.List d = refl
deep shapes ok (suc depth) (sort.Ptr t) d = refl
deep shapes ok (suc depth) (sort.Whole t) d =
    deep_shape shapes depth t (shape_at shapes t.0) refl (deep shapes ok depth) (ok.plain_parts t.0) d.ends
deep shapes ok (suc depth) (sort.Class t) d = absurd (false≢true d.is_plain)

-- ---- every type of the program

parts_of_ok : (shapes : List Shape) (sh : Shape) → shape_ok shapes sh ≡ true → list_all (may_be_part shapes) (part_sorts sh) ≡ true
parts_of_ok shapes shape.Int h = refl
parts_of_ok shapes shape.Bool h = refl
parts_of_ok shapes (shape.Pointer t) h = refl
parts_of_ok shapes (shape.Array s) h = both_true h refl
parts_of_ok shapes (shape.Record fields) h = mapped fields (left_true _ _ h)
  where
    mapped : (fields : List Field) → list_all (λ f. may_be_part shapes f.sort) fields ≡ true → list_all (may_be_part shapes) (map (λ f. f.sort) fields) ≡ true
    mapped [] h = refl
    mapped (f ∷ fields) h = both_true (left_true _ _ h) (mapped fields (right_true (may_be_part shapes f.sort) _ h))

-- a test that a type out of range passes, and each in the list
at_every : (test : Shape → Bool) (shapes : List Shape) → test (shape.Record []) ≡ true → list_all test shapes ≡ true → (t : ℕ) → test (shape_at shapes t) ≡ true
at_every test [] out h t = out
at_every test (s ∷ shapes) out h zero = left_true _ _ h
at_every test (s ∷ shapes) out h (suc t) = at_every test shapes out (right_true (test s) _ h) t

settled : (shapes : List Shape) → shapes_ok shapes ≡ true → Settled shapes
settled shapes h = record {
  plain_parts = λ t. parts_of_ok shapes (shape_at shapes t) (at_every (shape_ok shapes) shapes refl (left_true _ _ h) t);
}

type_ends : (shapes : List Shape) → shapes_ok shapes ≡ true → (t : TypeId) → ends_within (suc (length shapes)) shapes (sort.Whole t) ≡ true
type_ends shapes h t =
    at_every (λ s. list_all (ends_within (length shapes) shapes) (part_sorts s)) shapes refl (right_true (list_all (shape_ok shapes) shapes) _ h) t.0

plain_ends : (shapes : List Shape) → shapes_ok shapes ≡ true → (s : Sort) → plain s ≡ true → fits shapes (default_within (suc (length shapes)) shapes s) s ≡ true
plain_ends shapes h sort.Int p = refl
plain_ends shapes h sort.Bool p = refl
plain_ends shapes h sort.List p = refl
plain_ends shapes h (sort.Ptr t) p = refl
plain_ends shapes h (sort.Whole t) p =
    deep shapes (settled shapes h) (suc (length shapes)) (sort.Whole t) (record { is_plain = refl; ends = type_ends shapes h t })
plain_ends shapes h (sort.Class t) p = absurd (false≢true p)

plain_type : (sh : Shape) (t : TypeId) → plain (sort_of_shape sh t) ≡ true
plain_type shape.Int t = refl
plain_type shape.Bool t = refl
plain_type (shape.Pointer u) t = refl
plain_type (shape.Array s) t = refl
plain_type (shape.Record fields) t = refl

-- the default of each sort is a value of it
pub default_fits : (shapes : List Shape) → shapes_ok shapes ≡ true → (s : Sort) → fits shapes (default_of shapes s) s ≡ true
default_fits shapes h sort.Int = refl
default_fits shapes h sort.Bool = refl
default_fits shapes h sort.List = refl
default_fits shapes h (sort.Ptr t) = refl
default_fits shapes h (sort.Whole t) = plain_ends shapes h (sort.Whole t) refl
default_fits shapes h (sort.Class t) =
    both_true (plain_ends shapes h (sort_of_type shapes t) (plain_type (shape_at shapes t.0) t)) refl
