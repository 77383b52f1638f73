-- A term is worth a value of its sort.
use Rattle.std.proofs.Common.{◌≡◌, ℕ, zero, suc, Bool, true, false, cond, ◌&&◌, not, List, [], ◌∷◌, ℤ, pos, refl, sym, ap, ◌∙◌, subst, nat_eq, nat_lt, Option, Some, None, arith}
use Rattle.std.proofs.lemmas.Bool.{false≢true, eqb-true, eq-eqb}
use Rattle.std.proofs.lemmas.Bool.Decides.{nat_tests}
use Rattle.std.proofs.lemmas.Int.{ints}
use Rattle.std.specs.Int.RustNames.{int_lt}
use Rattle.std.specs.Ordering.{int_eq}
use Rattle.std.specs.Cmp.Derive.{both_true}
use Rattle.spv_logic.proofs.list.Tests.{left_true, right_true}
use Rattle.spv_logic.specs.declared.types.Sort.{Sort}
use Rattle.spv_logic.specs.declared.types.Sort.TheVariants as sort
use Rattle.spv_logic.specs.declared.types.Field.{Field}
use Rattle.spv_logic.specs.declared.types.Shape.{Shape}
use Rattle.spv_logic.specs.declared.types.Shape.TheVariants as shape
use Rattle.spv_logic.specs.declared.types.Decl.{Decl}
use Rattle.spv_logic.specs.declared.operators.Head.{Head}
use Rattle.spv_logic.specs.declared.operators.Head.TheVariants as head
use Rattle.spv_logic.specs.Values.{Value, Rows, Number, Truth, Pointer, ArrayOf, RecordOf, ClassOf, AtomOf, PairOf, no_rows, row, value_eq, row_at, without_row, with_row, put_row, set_row, with_cell, with_member, rows_in, default_in, members_of, first_of_pair, second_of_pair, pointer_of}
use Rattle.spv_logic.specs.Terms.{Term, Terms, term, no_terms, terms, sort_eq, eval, eval_all, worth, first, second, third}
use Rattle.spv_logic.specs.Shapes.{shape_at, element_of_shape, fields_of_shape, element_sort, fields_of, content_sort, pointer_sort, is_list, is_pointer, shapes_ok, field_sort, field_sort_of}
use Rattle.spv_logic.specs.Fits.{ascend_after, ascend, lacks, keys_are_pointers, cells_after, on_sort, on_fields, no_fields, fits, rows_fit, fields_fit, default_of}
use Rattle.spv_logic.specs.Sorts.{sorts_eq, takes, first_sort, with_sort, declared, takes_declared, class_change, membership, result_sort, with_sorts, sort_before, term_sort, term_sorts}
use Rattle.spv_logic.specs.Conditions.{Meaning, Valuation, IsValuation, declared_result, fitted, answers}
use Rattle.spv_logic.proofs.Equality.{sort_eq-true, int_eq-true, int_eq-refl}
use Rattle.spv_logic.proofs.Defaults.{default_fits}

-- ---- the order of keys

below_trans : (a b c : ℤ) → int_lt a b ≡ true → int_lt b c ≡ true → int_lt a c ≡ true
below_trans a b c h g = grind (arith, ints)

above_if_not : (a b : ℤ) → int_lt a b ≡ false → int_eq a b ≡ false → int_lt b a ≡ true
above_if_not a b h g = grind (arith, ints)

-- ---- rows

-- what is kept of the rows of an array or a class
pub record Tidy (shapes : List Shape) (e : Sort) (d : Value) (rows : Rows) : Type 0 where
  pub all_fit : rows_fit shapes rows e ≡ true
  pub in_order : ascend rows ≡ true
  pub no_default : lacks d rows ≡ true

row_at-fits : (shapes : List Shape) (e : Sort) (rows : Rows) (key : ℤ) (d : Value) → rows_fit shapes rows e ≡ true → fits shapes d e ≡ true → fits shapes (row_at rows key d) e ≡ true
row_at-fits shapes e no_rows key d h g = g
row_at-fits shapes e (row i v rows) key d h g =
    by_case (int_eq key i) (row_at-fits shapes e rows key d (right_true (fits shapes v e) _ h) g)
  where
    by_case : (b : Bool) → fits shapes (row_at rows key d) e ≡ true → fits shapes (cond b v (row_at rows key d)) e ≡ true
    by_case true later = left_true _ _ h
    by_case false later = later

pub after_weaker : (a b : ℤ) (rows : Rows) → int_lt a b ≡ true → ascend_after b rows ≡ true → ascend_after a rows ≡ true
after_weaker a b no_rows h g = refl
after_weaker a b (row i v rows) h g =
    both_true (below_trans a b i h (left_true _ _ g)) (right_true (int_lt b i) _ g)

pub ascend_from_after : (a : ℤ) (rows : Rows) → ascend_after a rows ≡ true → ascend rows ≡ true
ascend_from_after a no_rows h = refl
ascend_from_after a (row i v rows) h = right_true (int_lt a i) _ h

without_after : (last key : ℤ) (rows : Rows) → ascend_after last rows ≡ true → ascend_after last (without_row rows key) ≡ true
without_after last key no_rows h = refl
without_after last key (row i v rows) h = by_case (int_eq key i) (without_after i key rows (right_true (int_lt last i) _ h))
  where
    by_case : (b : Bool) → ascend_after i (without_row rows key) ≡ true → ascend_after last (cond b rows (row i v (without_row rows key))) ≡ true
    by_case true later = after_weaker last i rows (left_true _ _ h) (right_true (int_lt last i) _ h)
    by_case false later = both_true (left_true _ _ h) later

without_ascend : (key : ℤ) (rows : Rows) → ascend rows ≡ true → ascend (without_row rows key) ≡ true
without_ascend key no_rows h = refl
without_ascend key (row i v rows) h = by_case (int_eq key i)
  where
    by_case : (b : Bool) → ascend (cond b rows (row i v (without_row rows key))) ≡ true
    by_case true = ascend_from_after i rows h
    by_case false = without_after i key rows h

without_fit : (shapes : List Shape) (e : Sort) (key : ℤ) (rows : Rows) → rows_fit shapes rows e ≡ true → rows_fit shapes (without_row rows key) e ≡ true
without_fit shapes e key no_rows h = refl
without_fit shapes e key (row i v rows) h = by_case (int_eq key i) (without_fit shapes e key rows (right_true (fits shapes v e) _ h))
  where
    by_case : (b : Bool) → rows_fit shapes (without_row rows key) e ≡ true → rows_fit shapes (cond b rows (row i v (without_row rows key))) e ≡ true
    by_case true later = right_true (fits shapes v e) _ h
    by_case false later = both_true (left_true _ _ h) later

without_lacks : (d : Value) (key : ℤ) (rows : Rows) → lacks d rows ≡ true → lacks d (without_row rows key) ≡ true
without_lacks d key no_rows h = refl
without_lacks d key (row i v rows) h = by_case (int_eq key i) (without_lacks d key rows (right_true (not (value_eq v d)) _ h))
  where
    by_case : (b : Bool) → lacks d (without_row rows key) ≡ true → lacks d (cond b rows (row i v (without_row rows key))) ≡ true
    by_case true later = right_true (not (value_eq v d)) _ h
    by_case false later = both_true (left_true _ _ h) later

without_pointers : (key : ℤ) (rows : Rows) → keys_are_pointers rows ≡ true → keys_are_pointers (without_row rows key) ≡ true
without_pointers key no_rows h = refl
without_pointers key (row i v rows) h = by_case (int_eq key i) (without_pointers key rows (right_true (not (int_lt i (pos 0))) _ h))
  where
    by_case : (b : Bool) → keys_are_pointers (without_row rows key) ≡ true → keys_are_pointers (cond b rows (row i v (without_row rows key))) ≡ true
    by_case true later = right_true (not (int_lt i (pos 0))) _ h
    by_case false later = both_true (left_true _ _ h) later

with_after : (last key : ℤ) (w : Value) (rows : Rows) → int_lt last key ≡ true → ascend_after last rows ≡ true → ascend_after last (with_row rows key w) ≡ true
with_after last key w no_rows l h = both_true l refl
with_after last key w (row i v rows) l h = by_order (int_lt key i) refl (with_after i key w rows)
  where
    at_key : (b : Bool) → int_eq key i ≡ b → int_lt key i ≡ false → (int_lt i key ≡ true → ascend_after i rows ≡ true → ascend_after i (with_row rows key w) ≡ true) → ascend_after last (cond b (row key w rows) (row i v (with_row rows key w))) ≡ true
    at_key true e f later = both_true l (ap (λ k. ascend_after k rows) (int_eq-true key i e) ∙ right_true (int_lt last i) _ h)
    at_key false e f later = both_true (left_true _ _ h) (later (above_if_not key i f e) (right_true (int_lt last i) _ h))

    by_order : (b : Bool) → int_lt key i ≡ b → (int_lt i key ≡ true → ascend_after i rows ≡ true → ascend_after i (with_row rows key w) ≡ true) → ascend_after last (cond b (row key w (row i v rows)) (cond (int_eq key i) (row key w rows) (row i v (with_row rows key w)))) ≡ true
    by_order true e later = both_true l (both_true e (right_true (int_lt last i) _ h))
    by_order false e later = at_key (int_eq key i) refl e later

with_ascend : (key : ℤ) (w : Value) (rows : Rows) → ascend rows ≡ true → ascend (with_row rows key w) ≡ true
with_ascend key w no_rows h = refl
with_ascend key w (row i v rows) h = by_order (int_lt key i) refl
  where
    at_key : (b : Bool) → int_eq key i ≡ b → int_lt key i ≡ false → ascend (cond b (row key w rows) (row i v (with_row rows key w))) ≡ true
    at_key true e f = ap (λ k. ascend_after k rows) (int_eq-true key i e) ∙ h
    at_key false e f = with_after i key w rows (above_if_not key i f e) h

    by_order : (b : Bool) → int_lt key i ≡ b → ascend (cond b (row key w (row i v rows)) (cond (int_eq key i) (row key w rows) (row i v (with_row rows key w)))) ≡ true
    by_order true e = both_true e h
    by_order false e = at_key (int_eq key i) refl e

-- what is true of the row put in and of each row is true of the rows with it
with_all : (test : ℤ → Value → Bool) (all : Rows → Bool) → ((i : ℤ) (v : Value) (rows : Rows) → all (row i v rows) ≡ (test i v && all rows)) → all no_rows ≡ true → (key : ℤ) (w : Value) (rows : Rows) → test key w ≡ true → all rows ≡ true → all (with_row rows key w) ≡ true
with_all test all step none key w no_rows t h = step key w no_rows ∙ both_true t none
with_all test all step none key w (row i v rows) t h =
    by_order (int_lt key i) (with_all test all step none key w rows t (right_true (test i v) _ parts))
  where
    parts : (test i v && all rows) ≡ true
    parts = sym (step i v rows) ∙ h

    at_key : (b : Bool) → all (with_row rows key w) ≡ true → all (cond b (row key w rows) (row i v (with_row rows key w))) ≡ true
    at_key true later = step key w rows ∙ both_true t (right_true (test i v) _ parts)
    at_key false later = step i v (with_row rows key w) ∙ both_true (left_true _ _ parts) later

    by_order : (b : Bool) → all (with_row rows key w) ≡ true → all (cond b (row key w (row i v rows)) (cond (int_eq key i) (row key w rows) (row i v (with_row rows key w)))) ≡ true
    by_order true later = step key w (row i v rows) ∙ both_true t h
    by_order false later = at_key (int_eq key i) later

put_tidy : (shapes : List Shape) (e : Sort) (d : Value) (rows : Rows) (key : ℤ) (w : Value) → fits shapes w e ≡ true → Tidy shapes e d rows → Tidy shapes e d (put_row rows key w d)
put_tidy shapes e d rows key w fit tidy = by_case (value_eq w d) refl
  where
    by_case : (b : Bool) → value_eq w d ≡ b → Tidy shapes e d (cond b (without_row rows key) (with_row rows key w))
    by_case true is = record {
      all_fit = without_fit shapes e key rows tidy.all_fit;
      in_order = without_ascend key rows tidy.in_order;
      no_default = without_lacks d key rows tidy.no_default;
    }
    by_case false is = record {
      all_fit = with_all (λ i v. fits shapes v e) (λ r. rows_fit shapes r e) (λ i v r. refl) refl key w rows fit tidy.all_fit;
      in_order = with_ascend key w rows tidy.in_order;
      no_default = with_all (λ i v. not (value_eq v d)) (lacks d) (λ i v r. refl) refl key w rows (ap not is) tidy.no_default;
    }

from_zero : (p : ℕ) → not (int_lt (pos p) (pos 0)) ≡ true
from_zero p = grind (arith, nat_tests)

put_pointers : (d : Value) (rows : Rows) (p : ℕ) (w : Value) → keys_are_pointers rows ≡ true → keys_are_pointers (put_row rows (pos p) w d) ≡ true
put_pointers d rows p w h = by_case (value_eq w d)
  where
    by_case : (b : Bool) → keys_are_pointers (cond b (without_row rows (pos p)) (with_row rows (pos p) w)) ≡ true
    by_case true = without_pointers (pos p) rows h
    by_case false = with_all (λ i v. not (int_lt i (pos 0))) keys_are_pointers (λ i v r. refl) refl (pos p) w rows (from_zero p) h

-- ---- cells

cells_weaker : (a b : ℕ) (cells : List ℕ) → nat_lt a b ≡ true → cells_after b cells ≡ true → cells_after a cells ≡ true
cells_weaker a b [] h g = refl
cells_weaker a b (c ∷ cells) h g =
    let lower = left_true (nat_lt b c) (cells_after c cells) g in
    both_true (grind (arith, nat_tests)) (right_true (nat_lt b c) _ g)

apart_above : (c p : ℕ) → nat_lt p c ≡ false → nat_eq p c ≡ false → nat_lt c p ≡ true
apart_above c p h g = grind (arith, nat_tests)

pub with_cell-after : (last p : ℕ) (cells : List ℕ) → nat_lt last p ≡ true → cells_after last cells ≡ true → cells_after last (with_cell cells p) ≡ true
with_cell-after last p [] l h = both_true l refl
with_cell-after last p (c ∷ cells) l h = by_order (nat_lt p c) refl (with_cell-after c p cells)
  where
    at_cell : (b : Bool) → nat_eq p c ≡ b → nat_lt p c ≡ false → (nat_lt c p ≡ true → cells_after c cells ≡ true → cells_after c (with_cell cells p) ≡ true) → cells_after last (cond b (c ∷ cells) (c ∷ with_cell cells p)) ≡ true
    at_cell true e f later = h
    at_cell false e f later = both_true (left_true _ _ h) (later (apart_above c p f e) (right_true (nat_lt last c) _ h))

    by_order : (b : Bool) → nat_lt p c ≡ b → (nat_lt c p ≡ true → cells_after c cells ≡ true → cells_after c (with_cell cells p) ≡ true) → cells_after last (cond b (p ∷ c ∷ cells) (cond (nat_eq p c) (c ∷ cells) (c ∷ with_cell cells p))) ≡ true
    by_order true e later = both_true l (both_true e (right_true (nat_lt last c) _ h))
    by_order false e later = at_cell (nat_eq p c) refl e later

with_member-after : (p : ℕ) (cells : List ℕ) → cells_after 0 cells ≡ true → cells_after 0 (with_member cells p) ≡ true
with_member-after zero cells h = h
with_member-after (suc p) cells h = with_cell-after 0 (suc p) cells (grind (arith, nat_tests)) h

-- ---- the parts of a value of a structure's sort

pub record ArrayParts (shapes : List Shape) (v : Value) (e : Sort) : Type 0 where
  pub other : Value
  pub rows : Rows
  pub is : v ≡ ArrayOf other rows
  pub other_fits : fits shapes other e ≡ true
  pub tidy : Tidy shapes e other rows

record RecordParts (shapes : List Shape) (v : Value) (fields : List Field) : Type 0 where
  rows : Rows
  is : v ≡ RecordOf rows
  fit : fields_fit shapes rows fields ≡ true

pub record ClassParts (shapes : List Shape) (v : Value) (e : Sort) : Type 0 where
  pub cells : List ℕ
  pub other : Value
  pub rows : Rows
  pub is : v ≡ ClassOf cells other rows
  pub other_fits : fits shapes other e ≡ true
  pub tidy : Tidy shapes e other rows
  pub pointers : keys_are_pointers rows ≡ true
  pub members : cells_after 0 cells ≡ true

no_element : (shapes : List Shape) (a e : Sort) → sort_eq a sort.Int ≡ true → element_sort shapes a ≡ Some e → ⊥
no_element shapes a e h g = let i = sort_eq-true a sort.Int h in cc (ap (element_sort shapes) i)

no_element_bool : (shapes : List Shape) (a e : Sort) → sort_eq a sort.Bool ≡ true → element_sort shapes a ≡ Some e → ⊥
no_element_bool shapes a e h g = let i = sort_eq-true a sort.Bool h in cc (ap (element_sort shapes) i)

no_element_pointer : (shapes : List Shape) (a e : Sort) → is_pointer a ≡ true → element_sort shapes a ≡ Some e → ⊥
no_element_pointer shapes (sort.Ptr t) e h g = cc
no_element_pointer shapes _ e h g = absurd (false≢true h)

no_element_list : (shapes : List Shape) (a e : Sort) → is_list a ≡ true → element_sort shapes a ≡ Some e → ⊥
no_element_list shapes sort.List e h g = cc
no_element_list shapes _ e h g = absurd (false≢true h)

element_no_record : (sh : Shape) (e : Sort) (test : List Field → Bool) → element_of_shape sh ≡ Some e → on_fields (fields_of_shape sh) test ≡ true → ⊥
element_no_record (shape.Array s) e test g h = false≢true h
element_no_record _ e test g h = cc

array_no_record : (shapes : List Shape) (a e : Sort) (test : List Field → Bool) → element_sort shapes a ≡ Some e → on_fields (fields_of shapes a) test ≡ true → ⊥
array_no_record shapes (sort.Whole t) e test g h = element_no_record (shape_at shapes t.0) e test g h
array_no_record shapes _ e test g h = cc

array_no_class : (shapes : List Shape) (a e : Sort) (test : Sort → Bool) → element_sort shapes a ≡ Some e → on_sort (content_sort shapes a) test ≡ true → ⊥
array_no_class shapes (sort.Class t) e test g h = cc
array_no_class shapes _ e test g h = false≢true h

at_sort : (o : Option Sort) (e : Sort) (test : Sort → Bool) → o ≡ Some e → on_sort o test ≡ true → test e ≡ true
at_sort None e test g h = cc
at_sort (Some s) e test g h = let i : s ≡ e = cc in ap test (sym i) ∙ h

at_fields : (o : Option (List Field)) (fields : List Field) (test : List Field → Bool) → o ≡ Some fields → on_fields o test ≡ true → test fields ≡ true
at_fields None fields test g h = cc
at_fields (Some s) fields test g h = let i : s ≡ fields = cc in ap test (sym i) ∙ h

pub array_parts : (shapes : List Shape) (v : Value) (a e : Sort) → element_sort shapes a ≡ Some e → fits shapes v a ≡ true → ArrayParts shapes v e
array_parts shapes (Number z) a e g h = absurd (no_element shapes a e h g)
array_parts shapes (Truth b) a e g h = absurd (no_element_bool shapes a e h g)
array_parts shapes (Pointer p) a e g h = absurd (no_element_pointer shapes a e h g)
array_parts shapes (ArrayOf d rows) a e g h =
    let k = at_sort (element_sort shapes a) e (λ s. fits shapes d s && (rows_fit shapes rows s && (ascend rows && lacks d rows))) g h in
    let k1 = right_true (fits shapes d e) _ k in
    let k2 = right_true (rows_fit shapes rows e) _ k1 in
    record {
      other = d;
      rows = rows;
      is = refl;
      other_fits = left_true _ _ k;
      tidy = record { all_fit = left_true _ _ k1; in_order = left_true _ _ k2; no_default = right_true (ascend rows) _ k2 };
    }
array_parts shapes (RecordOf rows) a e g h = absurd (array_no_record shapes a e (λ fields. fields_fit shapes rows fields) g h)
array_parts shapes (ClassOf cells d rows) a e g h = absurd (array_no_class shapes a e _ g h)
array_parts shapes (AtomOf z) a e g h = absurd (no_element_list shapes a e h g)
array_parts shapes (PairOf x y) a e g h = absurd (no_element_list shapes a e (left_true _ _ h) g)

content_no_element : (shapes : List Shape) (c e : Sort) (test : Sort → Bool) → content_sort shapes c ≡ Some e → on_sort (element_sort shapes c) test ≡ true → ⊥
content_no_element shapes (sort.Class t) e test g h = false≢true h
content_no_element shapes _ e test g h = cc

content_no_record : (shapes : List Shape) (c e : Sort) (test : List Field → Bool) → content_sort shapes c ≡ Some e → on_fields (fields_of shapes c) test ≡ true → ⊥
content_no_record shapes (sort.Class t) e test g h = false≢true h
content_no_record shapes _ e test g h = cc

no_content : (shapes : List Shape) (c e s : Sort) → sort_eq c s ≡ true → content_sort shapes s ≡ None → content_sort shapes c ≡ Some e → ⊥
no_content shapes c e s h n g = let i = sort_eq-true c s h in cc (ap (content_sort shapes) i)

no_content_pointer : (shapes : List Shape) (c e : Sort) → is_pointer c ≡ true → content_sort shapes c ≡ Some e → ⊥
no_content_pointer shapes (sort.Ptr t) e h g = cc
no_content_pointer shapes _ e h g = absurd (false≢true h)

no_content_list : (shapes : List Shape) (c e : Sort) → is_list c ≡ true → content_sort shapes c ≡ Some e → ⊥
no_content_list shapes sort.List e h g = cc
no_content_list shapes _ e h g = absurd (false≢true h)

pub class_parts : (shapes : List Shape) (v : Value) (c e : Sort) → content_sort shapes c ≡ Some e → fits shapes v c ≡ true → ClassParts shapes v e
class_parts shapes (Number z) c e g h = absurd (no_content shapes c e sort.Int h refl g)
class_parts shapes (Truth b) c e g h = absurd (no_content shapes c e sort.Bool h refl g)
class_parts shapes (Pointer p) c e g h = absurd (no_content_pointer shapes c e h g)
class_parts shapes (ArrayOf d rows) c e g h = absurd (content_no_element shapes c e _ g h)
class_parts shapes (RecordOf rows) c e g h = absurd (content_no_record shapes c e (λ fields. fields_fit shapes rows fields) g h)
class_parts shapes (ClassOf cells d rows) c e g h =
    let k = at_sort (content_sort shapes c) e (λ s. fits shapes d s && (rows_fit shapes rows s && (ascend rows && (lacks d rows && (keys_are_pointers rows && cells_after 0 cells))))) g h in
    let k1 = right_true (fits shapes d e) _ k in
    let k2 = right_true (rows_fit shapes rows e) _ k1 in
    let k3 = right_true (ascend rows) _ k2 in
    let k4 = right_true (lacks d rows) _ k3 in
    record {
      cells = cells;
      other = d;
      rows = rows;
      is = refl;
      other_fits = left_true _ _ k;
      tidy = record { all_fit = left_true _ _ k1; in_order = left_true _ _ k2; no_default = left_true _ _ k3 };
      pointers = left_true _ _ k4;
      members = right_true (keys_are_pointers rows) _ k4;
    }
class_parts shapes (AtomOf z) c e g h = absurd (no_content_list shapes c e h g)
class_parts shapes (PairOf x y) c e g h = absurd (no_content_list shapes c e (left_true _ _ h) g)

-- a record sort with a field of some name
has_field : (fields : List Field) (name : ℕ) (s : Sort) → field_sort fields name ≡ Some s → no_fields fields ≡ false
has_field [] name s h = cc
has_field (f ∷ fields) name s h = refl

fields_no_number : (shapes : List Shape) (r s : Sort) (fields : List Field) → sort_eq r s ≡ true → fields_of shapes s ≡ None → fields_of shapes r ≡ Some fields → ⊥
fields_no_number shapes r s fields h n g = let i = sort_eq-true r s h in cc (ap (fields_of shapes) i)

fields_no_pointer : (shapes : List Shape) (r : Sort) (fields : List Field) → is_pointer r ≡ true → fields_of shapes r ≡ Some fields → ⊥
fields_no_pointer shapes (sort.Ptr t) fields h g = cc
fields_no_pointer shapes _ fields h g = absurd (false≢true h)

fields_no_list : (shapes : List Shape) (r : Sort) (fields : List Field) → is_list r ≡ true → fields_of shapes r ≡ Some fields → ⊥
fields_no_list shapes sort.List fields h g = cc
fields_no_list shapes _ fields h g = absurd (false≢true h)

fields_no_array : (sh : Shape) (fields : List Field) (test : Sort → Bool) → fields_of_shape sh ≡ Some fields → on_sort (element_of_shape sh) test ≡ true → ⊥
fields_no_array (shape.Array s) fields test g h = cc
fields_no_array _ fields test g h = false≢true h

record_no_array : (shapes : List Shape) (r : Sort) (fields : List Field) (test : Sort → Bool) → fields_of shapes r ≡ Some fields → on_sort (element_sort shapes r) test ≡ true → ⊥
record_no_array shapes (sort.Whole t) fields test g h = fields_no_array (shape_at shapes t.0) fields test g h
record_no_array shapes _ fields test g h = cc

record_no_class : (shapes : List Shape) (r : Sort) (fields : List Field) (test : Sort → Bool) → fields_of shapes r ≡ Some fields → on_sort (content_sort shapes r) test ≡ true → ⊥
record_no_class shapes (sort.Class t) fields test g h = cc
record_no_class shapes _ fields test g h = false≢true h

record_parts : (shapes : List Shape) (v : Value) (r : Sort) (fields : List Field) → fields_of shapes r ≡ Some fields → fits shapes v r ≡ true → RecordParts shapes v fields
record_parts shapes (Number z) r fields g h = absurd (fields_no_number shapes r sort.Int fields h refl g)
record_parts shapes (Truth b) r fields g h = absurd (fields_no_number shapes r sort.Bool fields h refl g)
record_parts shapes (Pointer p) r fields g h = absurd (fields_no_pointer shapes r fields h g)
record_parts shapes (ArrayOf d rows) r fields g h = absurd (record_no_array shapes r fields _ g h)
record_parts shapes (RecordOf rows) r fields g h = record {
  rows = rows;
  is = refl;
  fit = at_fields (fields_of shapes r) fields (λ fs. fields_fit shapes rows fs) g h;
}
record_parts shapes (ClassOf cells d rows) r fields g h = absurd (record_no_class shapes r fields _ g h)
record_parts shapes (AtomOf z) r fields g h = absurd (fields_no_list shapes r fields h g)
record_parts shapes (PairOf x y) r fields g h = absurd (fields_no_list shapes r fields (left_true _ _ h) g)

-- ---- fields

first_field_case : (shapes : List Shape) (name : ℕ) (f : Field) (fields : List Field) (v : Value) (s : Sort) (i : ℤ) → int_eq i (pos f.name.0) ≡ true → fits shapes v f.sort ≡ true → (field_sort fields name ≡ Some s → fits shapes v s ≡ true) → (b : Bool) → nat_eq f.name.0 name ≡ b → cond b (Some f.sort) (field_sort fields name) ≡ Some s → b ≡ true → fits shapes v s ≡ true
first_field_case shapes name f fields v s i at fit later true e g h = let is : f.sort ≡ s = cc in ap (fits shapes v) (sym is) ∙ fit
first_field_case shapes name f fields v s i at fit later false e g h = absurd (false≢true h)

key_is : (i : ℤ) (name other : ℕ) → int_eq i (pos other) ≡ true → int_eq (pos name) i ≡ true → nat_eq other name ≡ true
key_is i name other h g = let e = int_eq-true i (pos other) h in let f = int_eq-true (pos name) i g in eq-eqb other name (same (e, f))
  where
    same : (i ≡ pos other) × (pos name ≡ i) → other ≡ name
    same (e, f) = cc

key_is_not : (i : ℤ) (name other : ℕ) → int_eq i (pos other) ≡ true → int_eq (pos name) i ≡ false → nat_eq other name ≡ false
key_is_not i name other h g = by_case (nat_eq other name) refl
  where
    by_case : (b : Bool) → nat_eq other name ≡ b → b ≡ false
    by_case true e =
        let a = int_eq-true i (pos other) h in
        let c = eqb-true other name e in
        let same : pos name ≡ i = cc in
        sym (int_eq-refl i) ∙ (ap (λ k. int_eq k i) (sym same) ∙ g)
    by_case false e = refl

-- a field's value has the field's sort
field_at : (shapes : List Shape) (rows : Rows) (fields : List Field) (name : ℕ) (s : Sort) (d : Value) → fields_fit shapes rows fields ≡ true → field_sort fields name ≡ Some s → fits shapes (row_at rows (pos name) d) s ≡ true
field_at shapes no_rows [] name s d h g = cc
field_at shapes no_rows (f ∷ fields) name s d h g = absurd (false≢true h)
field_at shapes (row i v rows) [] name s d h g = absurd (false≢true h)
field_at shapes (row i v rows) (f ∷ fields) name s d h g =
    by_case (int_eq (pos name) i) refl (field_at shapes rows fields name s d (right_true (fits shapes v f.sort) _ (right_true (int_eq i (pos f.name.0)) _ h)))
  where
    by_case : (b : Bool) → int_eq (pos name) i ≡ b → (field_sort fields name ≡ Some s → fits shapes (row_at rows (pos name) d) s ≡ true) → fits shapes (cond b v (row_at rows (pos name) d)) s ≡ true
    by_case true e later =
        let at = key_is i name f.name.0 (left_true _ _ h) e in
        let is : Some f.sort ≡ Some s = sym (ap (λ b. cond b (Some f.sort) (field_sort fields name)) at) ∙ g in
        let same : f.sort ≡ s = cc in
        ap (fits shapes v) (sym same) ∙ left_true _ _ (right_true (int_eq i (pos f.name.0)) _ h)
    by_case false e later =
        let at = key_is_not i name f.name.0 (left_true _ _ h) e in
        later (sym (ap (λ b. cond b (Some f.sort) (field_sort fields name)) at) ∙ g)

-- a record with a field's value changed to one of its sort
field_set : (shapes : List Shape) (rows : Rows) (fields : List Field) (name : ℕ) (s : Sort) (w : Value) → fields_fit shapes rows fields ≡ true → field_sort fields name ≡ Some s → fits shapes w s ≡ true → fields_fit shapes (set_row rows (pos name) w) fields ≡ true
field_set shapes no_rows fields name s w h g fit = h
field_set shapes (row i v rows) [] name s w h g fit = absurd (false≢true h)
field_set shapes (row i v rows) (f ∷ fields) name s w h g fit =
    by_case (int_eq (pos name) i) refl (λ k. field_set shapes rows fields name s w (right_true (fits shapes v f.sort) _ (right_true (int_eq i (pos f.name.0)) _ h)) k fit)
  where
    by_case : (b : Bool) → int_eq (pos name) i ≡ b → (field_sort fields name ≡ Some s → fields_fit shapes (set_row rows (pos name) w) fields ≡ true) → fields_fit shapes (cond b (row i w rows) (row i v (set_row rows (pos name) w))) (f ∷ fields) ≡ true
    by_case true e later =
        let at = key_is i name f.name.0 (left_true _ _ h) e in
        let is : Some f.sort ≡ Some s = sym (ap (λ b. cond b (Some f.sort) (field_sort fields name)) at) ∙ g in
        let same : f.sort ≡ s = cc in
        both_true (left_true _ _ h) (both_true (ap (fits shapes w) same ∙ fit) (right_true (fits shapes v f.sort) _ (right_true (int_eq i (pos f.name.0)) _ h)))
    by_case false e later =
        let at = key_is_not i name f.name.0 (left_true _ _ h) e in
        both_true (left_true _ _ h) (both_true (left_true _ _ (right_true (int_eq i (pos f.name.0)) _ h)) (later (sym (ap (λ b. cond b (Some f.sort) (field_sort fields name)) at) ∙ g)))

-- ---- the sorts of arguments

sorts_eq-true : (ss ts : List Sort) → sorts_eq ss ts ≡ true → ss ≡ ts
sorts_eq-true [] [] h = refl
sorts_eq-true (s ∷ ss) (t ∷ ts) h =
    let e = sort_eq-true s t (left_true _ _ h) in
    let f = sorts_eq-true ss ts (right_true (sort_eq s t) _ h) in
    cc (e, f)
sorts_eq-true _ _ h = absurd (false≢true h)

-- what the sorts of fitting arguments tell
pub record Taken (wanted given : List Sort) (result s : Sort) : Type 0 where
  pub wanted_is : wanted ≡ given
  pub result_is : result ≡ s

pub taken : (wanted given : List Sort) (result s : Sort) → takes wanted given result ≡ Some s → Taken wanted given result s
taken wanted given result s h = by_case (sorts_eq wanted given) refl h
  where
    by_case : (b : Bool) → sorts_eq wanted given ≡ b → cond b (Some result) None ≡ Some s → Taken wanted given result s
    by_case true e g = record { wanted_is = sorts_eq-true wanted given e; result_is = cc }
    by_case false e g = cc

-- each value has the sort in its place
abbrev all_fit : List Shape → List Value → List Sort → Bool
all_fit shapes [] [] = true
all_fit shapes (v ∷ vs) (s ∷ ss) = fits shapes v s && all_fit shapes vs ss
all_fit shapes _ _ = false

first_fits : (shapes : List Shape) (vs : List Value) (s : Sort) (others : List Sort) → all_fit shapes vs (s ∷ others) ≡ true → fits shapes (first vs) s ≡ true
first_fits shapes [] s others h = absurd (false≢true h)
first_fits shapes (v ∷ vs) s others h = left_true _ _ h

second_fits : (shapes : List Shape) (vs : List Value) (r s : Sort) (others : List Sort) → all_fit shapes vs (r ∷ s ∷ others) ≡ true → fits shapes (second vs) s ≡ true
second_fits shapes [] r s others h = absurd (false≢true h)
second_fits shapes (v ∷ vs) r s others h = first_fits shapes vs s others (right_true (fits shapes v r) _ h)

third_fits : (shapes : List Shape) (vs : List Value) (q r s : Sort) (others : List Sort) → all_fit shapes vs (q ∷ r ∷ s ∷ others) ≡ true → fits shapes (third vs) s ≡ true
third_fits shapes [] q r s others h = absurd (false≢true h)
third_fits shapes (v ∷ vs) q r s others h = second_fits shapes vs r s others (right_true (fits shapes v q) _ h)

-- ---- heads

-- a value is of a sort
pub record Fit (shapes : List Shape) (v : Value) (s : Sort) : Type 0 where
  pub fit : fits shapes v s ≡ true

sorted_by : (shapes : List Shape) (v : Value) (result s : Sort) → result ≡ s → fits shapes v result ≡ true → Fit shapes v s
sorted_by shapes v result s e h = subst (Fit shapes v) e (record { fit = h })

some_sort : (o : Option Sort) (go : Sort → Option Sort) (s : Sort) → with_sort o go ≡ Some s → (e : Sort) × (o ≡ Some e) × (go e ≡ Some s)
some_sort None go s h = cc
some_sort (Some e) go s h = (e, refl, h)

list_part : (shapes : List Shape) (v : Value) → fits shapes v sort.List ≡ true → fits shapes (first_of_pair v) sort.List ≡ true
list_part shapes (PairOf a b) h = left_true _ _ h
list_part shapes _ h = refl

list_rest : (shapes : List Shape) (v : Value) → fits shapes v sort.List ≡ true → fits shapes (second_of_pair v) sort.List ≡ true
list_rest shapes (PairOf a b) h = right_true (fits shapes a sort.List) _ h
list_rest shapes _ h = refl

pub selected : (shapes : List Shape) (a : Value) (s e : Sort) (key : ℤ) → element_sort shapes s ≡ Some e → fits shapes a s ≡ true → fits shapes (row_at (rows_in a) key (default_in a)) e ≡ true
selected shapes a s e key g h =
    let p = array_parts shapes a s e g h in
    subst (λ x. fits shapes (row_at (rows_in x) key (default_in x)) e ≡ true) (sym p.is) (row_at-fits shapes e p.rows key p.other p.tidy.all_fit p.other_fits)

on_element : (shapes : List Shape) (s e : Sort) (test : Sort → Bool) → element_sort shapes s ≡ Some e → test e ≡ true → on_sort (element_sort shapes s) test ≡ true
on_element shapes s e test g h = ap (λ o. on_sort o test) g ∙ h

pub stored : (shapes : List Shape) (a : Value) (s e : Sort) (key : ℤ) (w : Value) → element_sort shapes s ≡ Some e → fits shapes a s ≡ true → fits shapes w e ≡ true → fits shapes (ArrayOf (default_in a) (put_row (rows_in a) key w (default_in a))) s ≡ true
stored shapes a s e key w g h fit =
    let p = array_parts shapes a s e g h in
    let t = put_tidy shapes e p.other p.rows key w fit p.tidy in
    subst (λ x. fits shapes (ArrayOf (default_in x) (put_row (rows_in x) key w (default_in x))) s ≡ true) (sym p.is)
    (on_element shapes s e _ g (both_true p.other_fits (both_true t.all_fit (both_true t.in_order t.no_default))))

contents : (shapes : List Shape) (c : Value) (s e : Sort) (p : ℕ) → content_sort shapes s ≡ Some e → fits shapes c s ≡ true → fits shapes (row_at (rows_in c) (pos p) (default_in c)) e ≡ true
contents shapes c s e p g h =
    let q = class_parts shapes c s e g h in
    subst (λ x. fits shapes (row_at (rows_in x) (pos p) (default_in x)) e ≡ true) (sym q.is) (row_at-fits shapes e q.rows (pos p) q.other q.tidy.all_fit q.other_fits)

on_content : (shapes : List Shape) (s e : Sort) (test : Sort → Bool) → content_sort shapes s ≡ Some e → test e ≡ true → on_sort (content_sort shapes s) test ≡ true
on_content shapes s e test g h = ap (λ o. on_sort o test) g ∙ h

pub class_put : (shapes : List Shape) (c : Value) (s e : Sort) (p : ℕ) (w : Value) (members : List ℕ → List ℕ) → ((cells : List ℕ) → cells_after 0 cells ≡ true → cells_after 0 (members cells) ≡ true) → content_sort shapes s ≡ Some e → fits shapes c s ≡ true → fits shapes w e ≡ true → fits shapes (ClassOf (members (members_of c)) (default_in c) (put_row (rows_in c) (pos p) w (default_in c))) s ≡ true
class_put shapes c s e p w members keeps g h fit =
    let q = class_parts shapes c s e g h in
    let t = put_tidy shapes e q.other q.rows (pos p) w fit q.tidy in
    subst (λ x. fits shapes (ClassOf (members (members_of x)) (default_in x) (put_row (rows_in x) (pos p) w (default_in x))) s ≡ true) (sym q.is)
    (on_content shapes s e _ g (both_true q.other_fits (both_true t.all_fit (both_true t.in_order (both_true t.no_default (both_true (put_pointers q.other q.rows p w q.pointers) (keeps q.cells q.members)))))))

field_of_sort : (o : Option (List Field)) (name : ℕ) (s : Sort) → field_sort_of o name ≡ Some s → (fields : List Field) × (o ≡ Some fields) × (field_sort fields name ≡ Some s)
field_of_sort None name s h = cc
field_of_sort (Some fields) name s h = (fields, refl, h)

pub field_value : (shapes : List Shape) (r : Value) (t s : Sort) (name : ℕ) (d : Value) → field_sort_of (fields_of shapes t) name ≡ Some s → fits shapes r t ≡ true → fits shapes (row_at (rows_in r) (pos name) d) s ≡ true
field_value shapes r t s name d g h =
    let f = field_of_sort (fields_of shapes t) name s g in
    let p = record_parts shapes r t f.0 f.1 h in
    subst (λ x. fits shapes (row_at (rows_in x) (pos name) d) s ≡ true) (sym p.is) (field_at shapes p.rows f.0 name s d p.fit f.2)

pub field_put : (shapes : List Shape) (r : Value) (t s : Sort) (name : ℕ) (w : Value) → field_sort_of (fields_of shapes t) name ≡ Some s → fits shapes r t ≡ true → fits shapes w s ≡ true → fits shapes (RecordOf (set_row (rows_in r) (pos name) w)) t ≡ true
field_put shapes r t s name w g h fit =
    let f = field_of_sort (fields_of shapes t) name s g in
    let p = record_parts shapes r t f.0 f.1 h in
    subst (λ x. fits shapes (RecordOf (set_row (rows_in x) (pos name) w)) t ≡ true) (sym p.is)
    (ap (λ o. on_fields o (λ fields. fields_fit shapes (set_row p.rows (pos name) w) fields)) f.1 ∙ field_set shapes p.rows f.0 name s w p.fit f.2 fit)

fitted-fits : (shapes : List Shape) → shapes_ok shapes ≡ true → (s : Sort) (v : Value) → fits shapes (fitted shapes s v) s ≡ true
fitted-fits shapes ok s v = by_case (fits shapes v s) refl
  where
    by_case : (b : Bool) → fits shapes v s ≡ b → fits shapes (cond b v (default_of shapes s)) s ≡ true
    by_case true e = e
    by_case false e = default_fits shapes ok s

declared_answer : (shapes : List Shape) → shapes_ok shapes ≡ true → (o : Option Decl) (given : List Sort) (s : Sort) (v : Value) → takes_declared o given ≡ Some s → Fit shapes (fitted shapes (declared_result o) v) s
declared_answer shapes ok None given s v h = cc
declared_answer shapes ok (Some d) given s v h =
    sorted_by shapes _ d.result s (taken d.args given d.result s h).result_is (fitted-fits shapes ok d.result v)

-- the arguments' values at the wanted sorts
taken_fit : (shapes : List Shape) (vs : List Value) (wanted given : List Sort) (result s : Sort) → Taken wanted given result s → all_fit shapes vs given ≡ true → all_fit shapes vs wanted ≡ true
taken_fit shapes vs wanted given result s t h = ap (all_fit shapes vs) t.wanted_is ∙ h

arithmetic_fits : (shapes : List Shape) (given : List Sort) (s : Sort) (z : ℤ) → takes (sort.Int ∷ sort.Int ∷ []) given sort.Int ≡ Some s → Fit shapes (Number z) s
arithmetic_fits shapes given s z h = sorted_by shapes (Number z) sort.Int s (taken (sort.Int ∷ sort.Int ∷ []) given sort.Int s h).result_is refl

truth_fits : (shapes : List Shape) (wanted given : List Sort) (s : Sort) (b : Bool) → takes wanted given sort.Bool ≡ Some s → Fit shapes (Truth b) s
truth_fits shapes wanted given s b h = sorted_by shapes (Truth b) sort.Bool s (taken wanted given sort.Bool s h).result_is refl

membership_fits : (shapes : List Shape) (p : Sort) (given : List Sort) (s : Sort) (b : Bool) → membership p given ≡ Some s → Fit shapes (Truth b) s
membership_fits shapes (sort.Ptr t) given s b h = truth_fits shapes (sort.Ptr t ∷ sort.Class t ∷ []) given s b h
membership_fits shapes _ given s b h = cc

change_fits : (shapes : List Shape) (vs : List Value) (c : Sort) (given : List Sort) (s : Sort) (members : List ℕ → List ℕ) → ((cells : List ℕ) → cells_after 0 cells ≡ true → cells_after 0 (members cells) ≡ true) → class_change shapes c given ≡ Some s → all_fit shapes vs given ≡ true → Fit shapes (ClassOf (members (members_of (first vs))) (default_in (first vs)) (put_row (rows_in (first vs)) (pos (pointer_of (second vs))) (third vs) (default_in (first vs)))) s
change_fits shapes vs c given s members keeps h fit =
    let e = some_sort (content_sort shapes c) (λ r. takes (c ∷ pointer_sort c ∷ r ∷ []) given c) s h in
    let t = taken (c ∷ pointer_sort c ∷ e.0 ∷ []) given c s e.2 in
    let f = taken_fit shapes vs (c ∷ pointer_sort c ∷ e.0 ∷ []) given c s t fit in
    sorted_by shapes _ c s t.result_is
    (class_put shapes (first vs) c e.0 (pointer_of (second vs)) (third vs) members keeps e.1 (first_fits shapes vs c (pointer_sort c ∷ e.0 ∷ []) f) (third_fits shapes vs c (pointer_sort c) e.0 [] f))

-- what a head is worth has the sort that it gives
worth-fits : (shapes : List Shape) → shapes_ok shapes ≡ true → (decls : List Decl) (world : Meaning) (v : Valuation) → IsValuation shapes v → (h : Head) (vs : List Value) (given : List Sort) (s : Sort) → all_fit shapes vs given ≡ true → result_sort shapes decls h given ≡ Some s → Fit shapes (worth (answers shapes decls world) v h vs) s
worth-fits shapes ok decls world v val (head.Var x r n) vs given s fit h = sorted_by shapes _ r s (taken [] given r s h).result_is (val.variables x r n)
worth-fits shapes ok decls world v val (head.ClassVar t n) vs given s fit h = sorted_by shapes _ (sort.Class t) s (taken [] given (sort.Class t) s h).result_is (val.classes t n)
worth-fits shapes ok decls world v val (head.Start x r) vs given s fit h = sorted_by shapes _ r s (taken [] given r s h).result_is (val.starts x r)
worth-fits shapes ok decls world v val (head.Num z) vs given s fit h = sorted_by shapes (Number z) sort.Int s (taken [] given sort.Int s h).result_is refl
worth-fits shapes ok decls world v val (head.App f) vs given s fit h = declared_answer shapes ok (declared decls f.0) given s (world f.0 vs) h
worth-fits shapes ok decls world v val head.Add vs given s fit h = arithmetic_fits shapes given s _ h
worth-fits shapes ok decls world v val head.Sub vs given s fit h = arithmetic_fits shapes given s _ h
worth-fits shapes ok decls world v val head.Mul vs given s fit h = arithmetic_fits shapes given s _ h
worth-fits shapes ok decls world v val head.Div vs given s fit h = arithmetic_fits shapes given s _ h
worth-fits shapes ok decls world v val head.Mod vs given s fit h = arithmetic_fits shapes given s _ h
worth-fits shapes ok decls world v val head.Eq vs given s fit h = truth_fits shapes (first_sort given ∷ first_sort given ∷ []) given s _ h
worth-fits shapes ok decls world v val head.Lt vs given s fit h = truth_fits shapes (sort.Int ∷ sort.Int ∷ []) given s _ h
worth-fits shapes ok decls world v val head.Le vs given s fit h = truth_fits shapes (sort.Int ∷ sort.Int ∷ []) given s _ h
worth-fits shapes ok decls world v val head.Not vs given s fit h = truth_fits shapes (sort.Bool ∷ []) given s _ h
worth-fits shapes ok decls world v val head.And vs given s fit h = truth_fits shapes (sort.Bool ∷ sort.Bool ∷ []) given s _ h
worth-fits shapes ok decls world v val head.Or vs given s fit h = truth_fits shapes (sort.Bool ∷ sort.Bool ∷ []) given s _ h
worth-fits shapes ok decls world v val head.Implies vs given s fit h = truth_fits shapes (sort.Bool ∷ sort.Bool ∷ []) given s _ h
worth-fits shapes ok decls world v val head.Select vs given s fit h =
    let a = first_sort given in
    let e = some_sort (element_sort shapes a) (λ r. takes (a ∷ sort.Int ∷ []) given r) s h in
    let t = taken (a ∷ sort.Int ∷ []) given e.0 s e.2 in
    sorted_by shapes _ e.0 s t.result_is (selected shapes (first vs) a e.0 _ e.1 (first_fits shapes vs a (sort.Int ∷ []) (taken_fit shapes vs (a ∷ sort.Int ∷ []) given e.0 s t fit)))
worth-fits shapes ok decls world v val head.Store vs given s fit h =
    let a = first_sort given in
    let e = some_sort (element_sort shapes a) (λ r. takes (a ∷ sort.Int ∷ r ∷ []) given a) s h in
    let t = taken (a ∷ sort.Int ∷ e.0 ∷ []) given a s e.2 in
    let f = taken_fit shapes vs (a ∷ sort.Int ∷ e.0 ∷ []) given a s t fit in
    sorted_by shapes _ a s t.result_is (stored shapes (first vs) a e.0 _ (third vs) e.1 (first_fits shapes vs a (sort.Int ∷ e.0 ∷ []) f) (third_fits shapes vs a sort.Int e.0 [] f))
worth-fits shapes ok decls world v val (head.Field f) vs given s fit h =
    let r = first_sort given in
    let e = some_sort (field_sort_of (fields_of shapes r) f.0) (λ q. takes (r ∷ []) given q) s h in
    let t = taken (r ∷ []) given e.0 s e.2 in
    sorted_by shapes _ e.0 s t.result_is (field_value shapes (first vs) r e.0 f.0 _ e.1 (first_fits shapes vs r [] (taken_fit shapes vs (r ∷ []) given e.0 s t fit)))
worth-fits shapes ok decls world v val (head.Put f) vs given s fit h =
    let r = first_sort given in
    let e = some_sort (field_sort_of (fields_of shapes r) f.0) (λ q. takes (r ∷ q ∷ []) given r) s h in
    let t = taken (r ∷ e.0 ∷ []) given r s e.2 in
    let g = taken_fit shapes vs (r ∷ e.0 ∷ []) given r s t fit in
    sorted_by shapes _ r s t.result_is (field_put shapes (first vs) r e.0 f.0 (second vs) e.1 (first_fits shapes vs r (e.0 ∷ []) g) (second_fits shapes vs r e.0 [] g))
worth-fits shapes ok decls world v val head.Cell vs given s fit h =
    let c = first_sort given in
    let e = some_sort (content_sort shapes c) (λ r. takes (c ∷ pointer_sort c ∷ []) given r) s h in
    let t = taken (c ∷ pointer_sort c ∷ []) given e.0 s e.2 in
    sorted_by shapes _ e.0 s t.result_is (contents shapes (first vs) c e.0 _ e.1 (first_fits shapes vs c (pointer_sort c ∷ []) (taken_fit shapes vs (c ∷ pointer_sort c ∷ []) given e.0 s t fit)))
worth-fits shapes ok decls world v val head.SetCell vs given s fit h = change_fits shapes vs (first_sort given) given s (λ cells. cells) (λ cells k. k) h fit
worth-fits shapes ok decls world v val head.Extend vs given s fit h =
    change_fits shapes vs (first_sort given) given s (λ cells. with_member cells (pointer_of (second vs))) (λ cells k. with_member-after (pointer_of (second vs)) cells k) h fit
worth-fits shapes ok decls world v val head.PointerTo vs given s fit h = membership_fits shapes (first_sort given) given s _ h
worth-fits shapes ok decls world v val head.Car vs given s fit h =
    let t = taken (sort.List ∷ []) given sort.List s h in
    sorted_by shapes _ sort.List s t.result_is (list_part shapes (first vs) (first_fits shapes vs sort.List [] (taken_fit shapes vs (sort.List ∷ []) given sort.List s t fit)))
worth-fits shapes ok decls world v val head.Cdr vs given s fit h =
    let t = taken (sort.List ∷ []) given sort.List s h in
    sorted_by shapes _ sort.List s t.result_is (list_rest shapes (first vs) (first_fits shapes vs sort.List [] (taken_fit shapes vs (sort.List ∷ []) given sort.List s t fit)))
worth-fits shapes ok decls world v val head.Cons vs given s fit h =
    let t = taken (sort.List ∷ sort.List ∷ []) given sort.List s h in
    let f = taken_fit shapes vs (sort.List ∷ sort.List ∷ []) given sort.List s t fit in
    sorted_by shapes _ sort.List s t.result_is (both_true (first_fits shapes vs sort.List (sort.List ∷ []) f) (second_fits shapes vs sort.List sort.List [] f))
worth-fits shapes ok decls world v val head.Atom vs given s fit h = truth_fits shapes (sort.List ∷ []) given s _ h
worth-fits shapes ok decls world v val (head.Nil t) vs given s fit h = sorted_by shapes _ (sort.Ptr t) s (taken [] given (sort.Ptr t) s h).result_is refl
worth-fits shapes ok decls world v val head.True vs given s fit h = truth_fits shapes [] given s _ h
worth-fits shapes ok decls world v val head.False vs given s fit h = truth_fits shapes [] given s _ h

-- ---- terms

with_sorts_some : (o : Option (List Sort)) (go : List Sort → Option Sort) (s : Sort) → with_sorts o go ≡ Some s → (given : List Sort) × (o ≡ Some given) × (go given ≡ Some s)
with_sorts_some None go s h = cc
with_sorts_some (Some given) go s h = (given, refl, h)

sort_before_some : (o : Option Sort) (os : Option (List Sort)) (given : List Sort) → sort_before o os ≡ Some given → (s : Sort) × (ss : List Sort) × (o ≡ Some s) × (os ≡ Some ss) × (given ≡ s ∷ ss)
sort_before_some None os given h = cc
sort_before_some (Some s) None given h = cc
sort_before_some (Some s) (Some ss) given h = (s, ss, refl, refl, cc)

mutual
  -- under a valuation a well sorted term is worth a value of its sort, in every world
  pub eval-fits : (shapes : List Shape) → shapes_ok shapes ≡ true → (decls : List Decl) (world : Meaning) (v : Valuation) → IsValuation shapes v → (t : Term) (s : Sort) → term_sort shapes decls t ≡ Some s → fits shapes (eval (answers shapes decls world) v t) s ≡ true
  eval-fits shapes ok decls world v val (term h ts) s e =
      let g = with_sorts_some (term_sorts shapes decls ts) (result_sort shapes decls h) s e in
      (worth-fits shapes ok decls world v val h (eval_all (answers shapes decls world) v ts) g.0 s (eval_all-fits shapes ok decls world v val ts g.0 g.1) g.2).fit

  eval_all-fits : (shapes : List Shape) → shapes_ok shapes ≡ true → (decls : List Decl) (world : Meaning) (v : Valuation) → IsValuation shapes v → (ts : Terms) (given : List Sort) → term_sorts shapes decls ts ≡ Some given → all_fit shapes (eval_all (answers shapes decls world) v ts) given ≡ true
  eval_all-fits shapes ok decls world v val no_terms [] e = refl
  eval_all-fits shapes ok decls world v val no_terms (s ∷ given) e = cc
  eval_all-fits shapes ok decls world v val (terms t ts) given e =
      let g = sort_before_some (term_sort shapes decls t) (term_sorts shapes decls ts) given e in
      subst (λ ss. all_fit shapes (eval_all (answers shapes decls world) v (terms t ts)) ss ≡ true) (sym g.4)
      (both_true (eval-fits shapes ok decls world v val t g.0 g.2) (eval_all-fits shapes ok decls world v val ts g.1 g.3))
