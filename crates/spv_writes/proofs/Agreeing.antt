-- Two sorts that share a value have the same values.
use Rattle.std.proofs.Common.{◌≡◌, Bool, true, ◌&&◌, List, [], ◌∷◌, pos, refl, sym, ap, subst, ◌∙◌, Option, Some, None}
use Rattle.std.specs.Ordering.{int_eq}
use Rattle.std.specs.Cmp.Derive.{both_true}
use Rattle.std.proofs.lemmas.Bool.{false≢true}
use Rattle.spv_logic.proofs.list.Tests.{left_true, right_true}
use Rattle.spv_logic.specs.declared.types.Sort.{Sort}
use Rattle.spv_logic.specs.declared.types.Sort.TheVariants as sort
use Rattle.spv_logic.specs.declared.types.Shape.{Shape}
use Rattle.spv_logic.specs.declared.types.Shape.TheVariants as shape
use Rattle.spv_logic.specs.declared.types.Field.{Field}
use Rattle.spv_logic.specs.Values.{Value, Rows, Number, Truth, Pointer, ArrayOf, RecordOf, ClassOf, AtomOf, PairOf, no_rows, row}
use Rattle.spv_logic.specs.Shapes.{shape_at, element_of_shape, fields_of_shape, element_sort, fields_of, content_sort, is_list, is_pointer}
use Rattle.spv_logic.specs.Fits.{ascend, lacks, keys_are_pointers, cells_after, on_sort, on_fields, fits, rows_fit, fields_fit}
use Rattle.spv_logic.proofs.Equality.{int_eq-true, sort_eq-true}
use Rattle.spv_logic.proofs.Sorting.{array_parts, class_parts}
use Rattle.spv_program.proofs.SortFacts.{nothing_there}

-- ---- sorts of a kind

list_is : (s : Sort) → is_list s ≡ true → s ≡ sort.List
list_is sort.List h = refl
list_is _ h = absurd (false≢true h)

-- a value of a pointer sort is one of each
pointers_agree : (shapes : List Shape) (s t : Sort) → is_pointer s ≡ true → is_pointer t ≡ true → (v : Value) → fits shapes v s ≡ true → fits shapes v t ≡ true
pointers_agree shapes (sort.Ptr a) t one two (Pointer q) h = two
pointers_agree shapes (sort.Ptr a) t one two _ h = absurd (false≢true h)
pointers_agree shapes _ t one two v h = absurd (false≢true one)

-- ---- what fits a sort with parts

pub record There {X : Type 0} (o : Option X) (test : X → Bool) : Type 0 where
  pub item : X
  pub is : o ≡ Some item
  pub passes : test item ≡ true

pub sort_there : (o : Option Sort) (test : Sort → Bool) → on_sort o test ≡ true → There o test
sort_there None test h = absurd (false≢true h)
sort_there (Some s) test h = record { item = s; is = refl; passes = h }

fields_there : (o : Option (List Field)) (test : List Field → Bool) → on_fields o test ≡ true → There o test
fields_there None test h = absurd (false≢true h)
fields_there (Some fields) test h = record { item = fields; is = refl; passes = h }

record RecordIs (shapes : List Shape) (v : Value) (fields : List Field) : Type 0 where
  rows : Rows
  is : v ≡ RecordOf rows
  fit : fields_fit shapes rows fields ≡ true

-- what fits a sort with fields is a record
record_is : (shapes : List Shape) (v : Value) (s : Sort) (fields : List Field) → fields_of shapes s ≡ Some fields → fits shapes v s ≡ true → RecordIs shapes v fields
record_is shapes (RecordOf rows) s fields told h = record { rows = rows; is = refl; fit = sym (ap (λ o. on_fields o (λ fs. fields_fit shapes rows fs)) told) ∙ h }
record_is shapes (ArrayOf d rows) (sort.Whole t) fields told h = by_shape (shape_at shapes t.0) told h
  where
    by_shape : (s : Shape) → fields_of_shape s ≡ Some fields → on_sort (element_of_shape s) (λ e. fits shapes d e && (rows_fit shapes rows e && (ascend rows && lacks d rows))) ≡ true → RecordIs shapes (ArrayOf d rows) fields
    by_shape (shape.Array e) told h = absurd (nothing_there told)
    by_shape _ told h = absurd (false≢true h)
record_is shapes (Number z) (sort.Whole t) fields told h = absurd (false≢true h)
record_is shapes (Truth b) (sort.Whole t) fields told h = absurd (false≢true h)
record_is shapes (Pointer q) (sort.Whole t) fields told h = absurd (false≢true h)
record_is shapes (ClassOf cells d rows) (sort.Whole t) fields told h = absurd (false≢true h)
record_is shapes (AtomOf z) (sort.Whole t) fields told h = absurd (false≢true h)
record_is shapes (PairOf a b) (sort.Whole t) fields told h = absurd (false≢true h)
record_is shapes v _ fields told h = absurd (nothing_there told)

-- ---- rows

rows_agree : (shapes : List Shape) (e f : Sort) → ((v : Value) → fits shapes v e ≡ true → fits shapes v f ≡ true) → (rows : Rows) → rows_fit shapes rows e ≡ true → rows_fit shapes rows f ≡ true
rows_agree shapes e f agree no_rows h = refl
rows_agree shapes e f agree (row i v rows) h = both_true (agree v (left_true (fits shapes v e) _ h)) (rows_agree shapes e f agree rows (right_true (fits shapes v e) _ h))

-- ---- values

mutual
  -- where one value is of two sorts, each value of the one is of the other
  pub sorts_agree : (shapes : List Shape) (u : Value) (s t : Sort) → fits shapes u s ≡ true → fits shapes u t ≡ true → (v : Value) → fits shapes v s ≡ true → fits shapes v t ≡ true
  sorts_agree shapes (Number z) s t one two v h = subst (λ k. fits shapes v k ≡ true) (sort_eq-true s sort.Int one ∙ sym (sort_eq-true t sort.Int two)) h
  sorts_agree shapes (Truth b) s t one two v h = subst (λ k. fits shapes v k ≡ true) (sort_eq-true s sort.Bool one ∙ sym (sort_eq-true t sort.Bool two)) h
  sorts_agree shapes (Pointer q) s t one two v h = pointers_agree shapes s t one two v h
  sorts_agree shapes (ArrayOf d rows) s t one two v h =
      let a = sort_there (element_sort shapes s) _ one in
      let b = sort_there (element_sort shapes t) _ two in
      let q = array_parts shapes v s a.item a.is h in
      let agree = sorts_agree shapes d a.item b.item (left_true (fits shapes d a.item) _ a.passes) (left_true (fits shapes d b.item) _ b.passes) in
      subst (λ k. fits shapes k t ≡ true) (sym q.is)
      (ap (λ o. on_sort o (λ e. fits shapes q.other e && (rows_fit shapes q.rows e && (ascend q.rows && lacks q.other q.rows)))) b.is
      ∙ both_true (agree q.other q.other_fits) (both_true (rows_agree shapes a.item b.item agree q.rows q.tidy.all_fit) (both_true q.tidy.in_order q.tidy.no_default)))
  sorts_agree shapes (RecordOf rows) s t one two v h =
      let a = fields_there (fields_of shapes s) _ one in
      let b = fields_there (fields_of shapes t) _ two in
      let q = record_is shapes v s a.item a.is h in
      subst (λ k. fits shapes k t ≡ true) (sym q.is)
      (ap (λ o. on_fields o (λ fields. fields_fit shapes q.rows fields)) b.is ∙ fields_agree shapes rows a.item b.item a.passes b.passes q.rows q.fit)
  sorts_agree shapes (ClassOf cells d rows) s t one two v h =
      let a = sort_there (content_sort shapes s) _ one in
      let b = sort_there (content_sort shapes t) _ two in
      let q = class_parts shapes v s a.item a.is h in
      let agree = sorts_agree shapes d a.item b.item (left_true (fits shapes d a.item) _ a.passes) (left_true (fits shapes d b.item) _ b.passes) in
      subst (λ k. fits shapes k t ≡ true) (sym q.is)
      (ap (λ o. on_sort o (λ e. fits shapes q.other e && (rows_fit shapes q.rows e && (ascend q.rows && (lacks q.other q.rows && (keys_are_pointers q.rows && cells_after 0 q.cells)))))) b.is
      ∙ both_true (agree q.other q.other_fits) (both_true (rows_agree shapes a.item b.item agree q.rows q.tidy.all_fit) (both_true q.tidy.in_order (both_true q.tidy.no_default (both_true q.pointers q.members)))))
  sorts_agree shapes (AtomOf z) s t one two v h = subst (λ k. fits shapes v k ≡ true) (list_is s one ∙ sym (list_is t two)) h
  sorts_agree shapes (PairOf x y) s t one two v h = subst (λ k. fits shapes v k ≡ true) (list_is s (left_true (is_list s) _ one) ∙ sym (list_is t (left_true (is_list t) _ two))) h

  fields_agree : (shapes : List Shape) (rows : Rows) (fs gs : List Field) → fields_fit shapes rows fs ≡ true → fields_fit shapes rows gs ≡ true → (others : Rows) → fields_fit shapes others fs ≡ true → fields_fit shapes others gs ≡ true
  fields_agree shapes no_rows [] [] one two others h = h
  fields_agree shapes no_rows [] (g ∷ gs) one two others h = absurd (false≢true two)
  fields_agree shapes no_rows (f ∷ fs) gs one two others h = absurd (false≢true one)
  fields_agree shapes (row i v rows) [] gs one two others h = absurd (false≢true one)
  fields_agree shapes (row i v rows) (f ∷ fs) [] one two others h = absurd (false≢true two)
  fields_agree shapes (row i v rows) (f ∷ fs) (g ∷ gs) one two no_rows h = absurd (false≢true h)
  fields_agree shapes (row i v rows) (f ∷ fs) (g ∷ gs) one two (row j w others) h =
      let first = right_true (int_eq i (pos f.name.0)) (fits shapes v f.sort && fields_fit shapes rows fs) one in
      let second = right_true (int_eq i (pos g.name.0)) (fits shapes v g.sort && fields_fit shapes rows gs) two in
      let third = right_true (int_eq j (pos f.name.0)) (fits shapes w f.sort && fields_fit shapes others fs) h in
      let names : pos f.name.0 ≡ pos g.name.0 = sym (int_eq-true i (pos f.name.0) (left_true (int_eq i (pos f.name.0)) _ one)) ∙ int_eq-true i (pos g.name.0) (left_true (int_eq i (pos g.name.0)) _ two) in
      both_true (ap (int_eq j) (sym names) ∙ left_true (int_eq j (pos f.name.0)) _ h)
      (both_true (sorts_agree shapes v f.sort g.sort (left_true (fits shapes v f.sort) _ first) (left_true (fits shapes v g.sort) _ second) w (left_true (fits shapes w f.sort) _ third))
      (fields_agree shapes rows fs gs (right_true (fits shapes v f.sort) _ first) (right_true (fits shapes v g.sort) _ second) others (right_true (fits shapes w f.sort) _ third)))
