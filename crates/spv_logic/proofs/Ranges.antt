-- What right types say of their parts: the sorts of these name types that are there.
use Rattle.std.proofs.Common.{◌≡◌, ℕ, zero, suc, Bool, true, false, ◌&&◌, List, [], ◌∷◌, Option, Some, None, nat_eq, if◌then◌else◌, refl, subst}
use Rattle.std.proofs.lemmas.Bool.{false≢true}
use Rattle.std.specs.List.{list_all}
use Rattle.spv_logic.specs.declared.types.Sort.{Sort}
use Rattle.spv_logic.specs.declared.types.Sort.TheVariants as sort
use Rattle.spv_logic.specs.declared.types.Field.{Field}
use Rattle.spv_logic.specs.declared.types.Shape.{Shape}
use Rattle.spv_logic.specs.declared.types.Shape.TheVariants as shape
use Rattle.spv_logic.specs.Shapes.{shape_at, sort_of_shape, sort_of_type, element_of_shape, fields_of_shape, element_sort, fields_of, content_sort, field_sort, field_sort_of, may_be_part, shape_ok}
use Rattle.spv_logic.specs.Sorts.{sort_in_range}
use Rattle.spv_logic.proofs.list.Tests.{left_true, right_true}

pub part_in_range : (shapes : List Shape) (s : Sort) → may_be_part shapes s ≡ true → sort_in_range shapes s ≡ true
part_in_range shapes sort.Int h = refl
part_in_range shapes sort.Bool h = refl
part_in_range shapes sort.List h = refl
part_in_range shapes (sort.Ptr t) h = h
part_in_range shapes (sort.Whole t) h = left_true _ _ h
part_in_range shapes (sort.Class t) h = absurd (false≢true h)

-- each shape of the list passes, and so does what stands for one past the end
pub shape_ok-at : (shapes all : List Shape) (i : ℕ) → list_all (shape_ok all) shapes ≡ true → shape_ok all (shape_at shapes i) ≡ true
shape_ok-at [] all i h = refl
shape_ok-at (s ∷ shapes) all zero h = left_true _ _ h
shape_ok-at (s ∷ shapes) all (suc i) h = shape_ok-at shapes all i (right_true (shape_ok all s) _ h)

pub field_in_range : (shapes : List Shape) (fields : List Field) (name : ℕ) (s : Sort) → list_all (λ f. may_be_part shapes f.sort) fields ≡ true → field_sort fields name ≡ Some s → sort_in_range shapes s ≡ true
field_in_range shapes [] name s h e = absurd (cc)
field_in_range shapes (f ∷ fields) name s h e = by (nat_eq f.name.0 name) e (field_in_range shapes fields name s (right_true (may_be_part shapes f.sort) _ h))
  where
    by : (b : Bool) → (if b then Some f.sort else field_sort fields name) ≡ Some s → (field_sort fields name ≡ Some s → sort_in_range shapes s ≡ true) → sort_in_range shapes s ≡ true
    by true k rest =
        let same : f.sort ≡ s = cc in
        subst (λ r. sort_in_range shapes r ≡ true) same (part_in_range shapes f.sort (left_true _ _ h))
    by false k rest = rest k

module _ (shapes : List Shape) (right : list_all (shape_ok shapes) shapes ≡ true) where
  pub element_in_range : (a e : Sort) → element_sort shapes a ≡ Some e → sort_in_range shapes e ≡ true
  element_in_range (sort.Whole t) e h = by (shape_at shapes t.0) h (shape_ok-at shapes shapes t.0 right)
    where
      by : (s : Shape) → element_of_shape s ≡ Some e → shape_ok shapes s ≡ true → sort_in_range shapes e ≡ true
      by (shape.Array r) k p = let same : r ≡ e = cc in subst (λ q. sort_in_range shapes q ≡ true) same (part_in_range shapes r p)
      by shape.Int k p = absurd (cc)
      by shape.Bool k p = absurd (cc)
      by (shape.Pointer u) k p = absurd (cc)
      by (shape.Record fields) k p = absurd (cc)
  element_in_range sort.Int e h = absurd (cc)
  element_in_range sort.Bool e h = absurd (cc)
  element_in_range sort.List e h = absurd (cc)
  element_in_range (sort.Ptr t) e h = absurd (cc)
  element_in_range (sort.Class t) e h = absurd (cc)

  pub record_field_in_range : (r s : Sort) (name : ℕ) → field_sort_of (fields_of shapes r) name ≡ Some s → sort_in_range shapes s ≡ true
  record_field_in_range (sort.Whole t) s name h = by (shape_at shapes t.0) h (shape_ok-at shapes shapes t.0 right)
    where
      by : (q : Shape) → field_sort_of (fields_of_shape q) name ≡ Some s → shape_ok shapes q ≡ true → sort_in_range shapes s ≡ true
      by (shape.Record fields) k p = field_in_range shapes fields name s (left_true _ _ p) k
      by (shape.Array r) k p = absurd (cc)
      by shape.Int k p = absurd (cc)
      by shape.Bool k p = absurd (cc)
      by (shape.Pointer u) k p = absurd (cc)
  record_field_in_range sort.Int s name h = absurd (cc)
  record_field_in_range sort.Bool s name h = absurd (cc)
  record_field_in_range sort.List s name h = absurd (cc)
  record_field_in_range (sort.Ptr t) s name h = absurd (cc)
  record_field_in_range (sort.Class t) s name h = absurd (cc)

  pub content_in_range : (c s : Sort) → sort_in_range shapes c ≡ true → content_sort shapes c ≡ Some s → sort_in_range shapes s ≡ true
  content_in_range (sort.Class t) s there h =
      let same : sort_of_type shapes t ≡ s = cc in
      subst (λ q. sort_in_range shapes q ≡ true) same (by (shape_at shapes t.0) (shape_ok-at shapes shapes t.0 right))
    where
      by : (q : Shape) → shape_ok shapes q ≡ true → sort_in_range shapes (sort_of_shape q t) ≡ true
      by shape.Int p = refl
      by shape.Bool p = refl
      by (shape.Pointer u) p = p
      by (shape.Array r) p = there
      by (shape.Record fields) p = there
  content_in_range sort.Int s there h = absurd (cc)
  content_in_range sort.Bool s there h = absurd (cc)
  content_in_range sort.List s there h = absurd (cc)
  content_in_range (sort.Ptr t) s there h = absurd (cc)
  content_in_range (sort.Whole t) s there h = absurd (cc)
