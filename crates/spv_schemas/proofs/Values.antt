-- What the facts of schemas say of values.
use Rattle.std.proofs.Common.{◌≡◌, ℕ, zero, suc, ◌<◌, ◌%◌, ◌-◌, Bool, true, false, cond, ◌&&◌, ◌||◌, not, List, [], ◌∷◌, ℤ, pos, negsuc, neg_ℤ, ◌+ℤ◌, ◌*ℤ◌, refl, sym, ap, ◌∙◌, subst, nat_eq, nat_lt, Option, Some, None, arith}
use Rattle.std.proofs.lemmas.Bool.{false≢true, eqb-true, eq-eqb}
use Rattle.std.proofs.lemmas.Bool.Decides.{nat_tests}
use Rattle.std.proofs.lemmas.Int.{ints, quot-rem, rem_below}
use Rattle.std.proofs.Math.IntN.{*ℤ_comm}
use Rattle.std.proofs.Math.Nat.{mod-lt, zero-mod}
use Rattle.std.specs.Int.RustNames.{int_lt, int_div, int_rem, unsigned_abs}
use Rattle.std.specs.Ordering.{int_eq}
use Rattle.std.specs.Cmp.Derive.{both_true}
use Rattle.std.specs.List.{list_any}
use Rattle.spv_logic.proofs.list.Tests.{left_true, right_true}
use Rattle.spv_logic.specs.declared.types.TypeId.{TypeId}
use Rattle.spv_logic.specs.declared.types.Sort.{Sort}
use Rattle.spv_logic.specs.declared.types.Sort.TheVariants as sort
use Rattle.spv_logic.specs.declared.types.Field.{Field}
use Rattle.spv_logic.specs.declared.types.Shape.{Shape}
use Rattle.spv_logic.specs.declared.types.Shape.TheVariants as shape
use Rattle.spv_logic.specs.Values.{Value, Rows, Number, Truth, Pointer, ArrayOf, RecordOf, PairOf, no_rows, row, value_eq, number_of, pointer_of, default_in, rows_in, members_of, first_of_pair, second_of_pair, is_pair, row_at, put_row, set_row, with_cell, with_member}
use Rattle.spv_logic.specs.Shapes.{shape_at, element_of_shape, fields_of_shape, element_sort, fields_of, field_sort, field_sort_of}
use Rattle.spv_logic.specs.Fits.{on_sort, on_fields, cells_after, fits, fields_fit}
use Rattle.spv_logic.proofs.Equality.{int_eq-true, int_eq-refl, value_eq-true, value_eq-refl}
use Rattle.spv_logic.proofs.Changes.{differs, pos_differs, put_other, array_same, class_same}
use Rattle.spv_logic.proofs.Sorting.{class_parts}
use Rattle.spv_schemas.specs.Facts.{greatest}

-- ---- truth

implied : (a b : Bool) → (a ≡ true → b ≡ true) → (not a || b) ≡ true
implied true b h = h refl
implied false b h = refl

was_false : (a : Bool) → not a ≡ true → a ≡ false
was_false true h = absurd (false≢true h)
was_false false h = refl

equal : (v w : Value) → v ≡ w → value_eq v w ≡ true
equal v w e = ap (value_eq v) (sym e) ∙ value_eq-refl v

-- ---- numbers and pointers that differ

number_is : (shapes : List Shape) (v : Value) → fits shapes v sort.Int ≡ true → v ≡ Number (number_of v)
number_is shapes (Number z) h = refl
number_is shapes _ h = absurd (false≢true h)

pointer_is : (shapes : List Shape) (v : Value) (t : TypeId) → fits shapes v (sort.Ptr t) ≡ true → v ≡ Pointer (pointer_of v)
pointer_is shapes (Pointer p) t h = refl
pointer_is shapes _ t h = absurd (false≢true h)

numbers_differ : (x y : ℤ) → int_eq x y ≡ false → int_eq y x ≡ false
numbers_differ x y h = differs y x (λ e. false≢true (sym h ∙ (ap (int_eq x) e ∙ int_eq-refl x)))

pointers_differ : (p q : ℕ) → nat_eq p q ≡ false → int_eq (pos q) (pos p) ≡ false
pointers_differ p q h = differs (pos q) (pos p) (pos_differs q p (λ e. false≢true (sym h ∙ (ap (nat_eq p) e ∙ eq-eqb p p refl))))

apart_numbers : (shapes : List Shape) (v w : Value) → fits shapes v sort.Int ≡ true → fits shapes w sort.Int ≡ true → value_eq v w ≡ false → int_eq (number_of w) (number_of v) ≡ false
apart_numbers shapes v w h g e =
    numbers_differ (number_of v) (number_of w) (sym (ap (λ x. value_eq x (Number (number_of w))) (number_is shapes v h)) ∙ (sym (ap (value_eq v) (number_is shapes w g)) ∙ e))

apart_pointers : (shapes : List Shape) (t u : TypeId) (v w : Value) → fits shapes v (sort.Ptr t) ≡ true → fits shapes w (sort.Ptr u) ≡ true → value_eq v w ≡ false → int_eq (pos (pointer_of w)) (pos (pointer_of v)) ≡ false
apart_pointers shapes t u v w h g e =
    pointers_differ (pointer_of v) (pointer_of w) (sym (ap (λ x. value_eq x (Pointer (pointer_of w))) (pointer_is shapes v t h)) ∙ (sym (ap (value_eq v) (pointer_is shapes w u g)) ∙ e))

-- ---- arrays

pub element_same : (shapes : List Shape) (s e : Sort) (a i w j : Value) → element_sort shapes s ≡ Some e → fits shapes a s ≡ true
    → (not (value_eq i j) || value_eq (row_at (put_row (rows_in a) (number_of i) w (default_in a)) (number_of j) (default_in a)) w) ≡ true
element_same shapes s e a i w j g h = implied (value_eq i j) _ (λ k. equal _ w
    (ap (λ x. row_at (put_row (rows_in a) (number_of i) w (default_in a)) (number_of x) (default_in a)) (sym (value_eq-true i j k)) ∙ array_same shapes s e a w (number_of i) g h))

pub element_other : (shapes : List Shape) (a i w j : Value) → fits shapes i sort.Int ≡ true → fits shapes j sort.Int ≡ true
    → (not (not (value_eq i j)) || value_eq (row_at (put_row (rows_in a) (number_of i) w (default_in a)) (number_of j) (default_in a)) (row_at (rows_in a) (number_of j) (default_in a))) ≡ true
element_other shapes a i w j h g = implied (not (value_eq i j)) _ (λ k. equal _ _
    (put_other (rows_in a) (number_of i) (number_of j) w (default_in a) (apart_numbers shapes i j h g (was_false _ k))))

-- ---- contents of classes

pub content_same : (shapes : List Shape) (t : TypeId) (c p w q : Value) → fits shapes c (sort.Class t) ≡ true
    → (not (value_eq p q) || value_eq (row_at (put_row (rows_in c) (pos (pointer_of p)) w (default_in c)) (pos (pointer_of q)) (default_in c)) w) ≡ true
content_same shapes t c p w q h = implied (value_eq p q) _ (λ k. equal _ w
    (ap (λ x. row_at (put_row (rows_in c) (pos (pointer_of p)) w (default_in c)) (pos (pointer_of x)) (default_in c)) (sym (value_eq-true p q k)) ∙ class_same shapes (sort.Class t) _ c w (pos (pointer_of p)) refl h))

pub content_other : (shapes : List Shape) (t u : TypeId) (c p w q : Value) → fits shapes p (sort.Ptr t) ≡ true → fits shapes q (sort.Ptr u) ≡ true
    → (not (not (value_eq p q)) || value_eq (row_at (put_row (rows_in c) (pos (pointer_of p)) w (default_in c)) (pos (pointer_of q)) (default_in c)) (row_at (rows_in c) (pos (pointer_of q)) (default_in c))) ≡ true
content_other shapes t u c p w q h g = implied (not (value_eq p q)) _ (λ k. equal _ _
    (put_other (rows_in c) (pos (pointer_of p)) (pos (pointer_of q)) w (default_in c) (apart_pointers shapes t u p q h g (was_false _ k))))

-- ---- members of classes

eq_sym : (p q : ℕ) → nat_eq p q ≡ nat_eq q p
eq_sym p q = grind (arith, nat_tests)

or_swap : (a b c : Bool) → (a || (b || c)) ≡ (b || (a || c))
or_swap true true c = refl
or_swap true false c = refl
or_swap false b c = refl

or_twice : (a b c : Bool) → b ≡ a → (a || c) ≡ (b || (a || c))
or_twice true b c e = ap (λ x. x || true) (sym e)
or_twice false b c e = ap (λ x. x || c) (sym e)

-- the members with one more are that one and those that there were
pub with_cell_any : (cells : List ℕ) (p q : ℕ) → list_any (nat_eq q) (with_cell cells p) ≡ (nat_eq p q || list_any (nat_eq q) cells)
with_cell_any [] p q = ap (λ b. b || false) (eq_sym q p)
with_cell_any (c ∷ cells) p q = by_order (nat_lt p c) (nat_eq p c) refl (with_cell_any cells p q)
  where
    by_order : (below is : Bool) → nat_eq p c ≡ is → list_any (nat_eq q) (with_cell cells p) ≡ (nat_eq p q || list_any (nat_eq q) cells)
        → list_any (nat_eq q) (cond below (p ∷ c ∷ cells) (cond is (c ∷ cells) (c ∷ with_cell cells p))) ≡ (nat_eq p q || (nat_eq q c || list_any (nat_eq q) cells))
    by_order true is e later = ap (λ b. b || (nat_eq q c || list_any (nat_eq q) cells)) (eq_sym q p)
    by_order false true e later = or_twice (nat_eq q c) (nat_eq p q) (list_any (nat_eq q) cells) (eq_sym p q ∙ ap (nat_eq q) (eqb-true p c e))
    by_order false false e later = ap (λ b. nat_eq q c || b) later ∙ or_swap (nat_eq q c) (nat_eq p q) (list_any (nat_eq q) cells)

member_added : (p q : ℕ) (cells : List ℕ) → nat_eq p 0 ≡ false → list_any (nat_eq q) (with_member cells p) ≡ (nat_eq p q || list_any (nat_eq q) cells)
member_added zero q cells h = absurd (false≢true (sym h))
member_added (suc p) q cells h = with_cell_any cells (suc p) q

pub members_extended : (shapes : List Shape) (t u : TypeId) (p q : Value) (cells : List ℕ) → fits shapes p (sort.Ptr t) ≡ true → fits shapes q (sort.Ptr u) ≡ true
    → (not (not (value_eq p (Pointer 0))) || value_eq (Truth (list_any (nat_eq (pointer_of q)) (with_member cells (pointer_of p)))) (Truth (value_eq p q || list_any (nat_eq (pointer_of q)) cells))) ≡ true
members_extended shapes t u (Pointer p) (Pointer q) cells h g = implied (not (nat_eq p 0)) _ (λ k. equal _ _ (ap Truth (member_added p q cells (was_false _ k))))
members_extended shapes t u (Pointer p) _ cells h g = absurd (false≢true g)
members_extended shapes t u _ q cells h g = absurd (false≢true h)

above_zero : (last c : ℕ) → nat_lt last c ≡ true → nat_eq 0 c ≡ false
above_zero last c h = grind (arith, nat_tests)

no_zero : (last : ℕ) (cells : List ℕ) → cells_after last cells ≡ true → list_any (nat_eq 0) cells ≡ false
no_zero last [] h = refl
no_zero last (c ∷ cells) h = ap (λ b. b || list_any (nat_eq 0) cells) (above_zero last c (left_true _ _ h)) ∙ no_zero c cells (right_true (nat_lt last c) _ h)

pub nil_is_no_member : (shapes : List Shape) (t : TypeId) (c : Value) → fits shapes c (sort.Class t) ≡ true → not (list_any (nat_eq 0) (members_of c)) ≡ true
nil_is_no_member shapes t c h =
    let p = class_parts shapes c (sort.Class t) _ refl h in
    ap not (ap (λ x. list_any (nat_eq 0) (members_of x)) p.is ∙ no_zero 0 p.cells p.members)

-- ---- records

-- a value of a record's sort has rows for the fields
record_rows : (shapes : List Shape) (s : Sort) (r : Value) (fields : List Field) → fields_of shapes s ≡ Some fields → fits shapes r s ≡ true → fields_fit shapes (rows_in r) fields ≡ true
record_rows shapes (sort.Whole t) (RecordOf rows) fields g h = of_record (fields_of_shape (shape_at shapes t.0)) g h
  where
    of_record : (o : Option (List Field)) → o ≡ Some fields → on_fields o (λ fs. fields_fit shapes rows fs) ≡ true → fields_fit shapes rows fields ≡ true
    of_record None e k = cc
    of_record (Some fs) e k = let same : fs ≡ fields = cc in ap (fields_fit shapes rows) (sym same) ∙ k
record_rows shapes (sort.Whole t) (ArrayOf d rows) fields g h = absurd (no_array (shape_at shapes t.0) _ g h)
  where
    no_array : (s : Shape) (test : Sort → Bool) → fields_of_shape s ≡ Some fields → on_sort (element_of_shape s) test ≡ true → ⊥
    no_array (shape.Array e) test k l = cc
    no_array _ test k l = false≢true l
record_rows shapes (sort.Whole t) _ fields g h = absurd (false≢true h)
record_rows shapes _ r fields g h = cc

-- a field with its name in front is another one where its key is another one
other_name : (i : ℤ) (name other : ℕ) → int_eq i (pos other) ≡ true → int_eq (pos name) i ≡ false → nat_eq other name ≡ false
other_name i name other h g = by_case (nat_eq other name) refl
  where
    by_case : (b : Bool) → nat_eq other name ≡ b → b ≡ false
    by_case true e = sym (int_eq-refl (pos name)) ∙ (ap (int_eq (pos name)) (sym (int_eq-true i (pos other) h ∙ ap pos (eqb-true other name e))) ∙ g)
    by_case false e = refl

set_same : (shapes : List Shape) (rows : Rows) (fields : List Field) (name : ℕ) (s : Sort) (w d : Value) → fields_fit shapes rows fields ≡ true → field_sort fields name ≡ Some s → row_at (set_row rows (pos name) w) (pos name) d ≡ w
set_same shapes no_rows [] name s w d h g = cc
set_same shapes no_rows (f ∷ fields) name s w d h g = absurd (false≢true h)
set_same shapes (row i v rows) [] name s w d h g = absurd (false≢true h)
set_same shapes (row i v rows) (f ∷ fields) name s w d h g =
    by_key (int_eq (pos name) i) refl (set_same shapes rows fields name s w d (right_true (fits shapes v f.sort) _ (right_true (int_eq i (pos f.name.0)) _ h)))
  where
    by_key : (b : Bool) → int_eq (pos name) i ≡ b → (field_sort fields name ≡ Some s → row_at (set_row rows (pos name) w) (pos name) d ≡ w) → row_at (cond b (row i w rows) (row i v (set_row rows (pos name) w))) (pos name) d ≡ w
    by_key true e later = ap (λ b. cond b w (row_at rows (pos name) d)) e
    by_key false e later =
        ap (λ b. cond b v (row_at (set_row rows (pos name) w) (pos name) d)) e
        ∙ later (sym (ap (λ b. cond b (Some f.sort) (field_sort fields name)) (other_name i name f.name.0 (left_true _ _ h) e)) ∙ g)

set_other : (rows : Rows) (key other : ℤ) (w d : Value) → int_eq other key ≡ false → row_at (set_row rows key w) other d ≡ row_at rows other d
set_other no_rows key other w d differ = refl
set_other (row i v rows) key other w d differ = by_key (int_eq key i) refl (set_other rows key other w d differ)
  where
    by_key : (b : Bool) → int_eq key i ≡ b → row_at (set_row rows key w) other d ≡ row_at rows other d → row_at (cond b (row i w rows) (row i v (set_row rows key w))) other d ≡ cond (int_eq other i) v (row_at rows other d)
    by_key true e later =
        let apart : int_eq other i ≡ false = ap (int_eq other) (sym (int_eq-true key i e)) ∙ differ in
        ap (λ b. cond b w (row_at rows other d)) apart ∙ sym (ap (λ b. cond b v (row_at rows other d)) apart)
    by_key false e later = ap (λ r. cond (int_eq other i) v r) later

sort_told : (o : Option (List Field)) (name : ℕ) (s : Sort) → field_sort_of o name ≡ Some s → (fields : List Field) × (o ≡ Some fields) × (field_sort fields name ≡ Some s)
sort_told None name s h = cc
sort_told (Some fields) name s h = (fields, refl, h)

pub field_same : (shapes : List Shape) (t s : Sort) (name : ℕ) (r w d : Value) → field_sort_of (fields_of shapes t) name ≡ Some s → fits shapes r t ≡ true → value_eq (row_at (set_row (rows_in r) (pos name) w) (pos name) d) w ≡ true
field_same shapes t s name r w d g h =
    let f = sort_told (fields_of shapes t) name s g in
    equal _ w (set_same shapes (rows_in r) f.0 name s w d (record_rows shapes t r f.0 f.1 h) f.2)

pub field_other : (name other : ℕ) (r w d : Value) → nat_eq other name ≡ false → value_eq (row_at (set_row (rows_in r) (pos name) w) (pos other) d) (row_at (rows_in r) (pos other) d) ≡ true
field_other name other r w d h = equal _ _ (set_other (rows_in r) (pos name) (pos other) w d (numbers_differ (pos name) (pos other) (pointers_differ other name h)))

-- ---- lists

pub pair_of_parts : (x : Value) → (not (not (not (is_pair x))) || value_eq (PairOf (first_of_pair x) (second_of_pair x)) x) ≡ true
pair_of_parts (PairOf a b) = value_eq-refl (PairOf a b)
pair_of_parts _ = refl

-- ---- quotients and remainders

pub dividend : (shapes : List Shape) (v : Value) (k : ℤ) → fits shapes v sort.Int ≡ true → value_eq v (Number (k *ℤ int_div (number_of v) k +ℤ int_rem (number_of v) k)) ≡ true
dividend shapes v k h = equal v _ (number_is shapes v h ∙ ap Number (sym (quot-rem (number_of v) k) ∙ ap (λ z. z +ℤ int_rem (number_of v) k) (*ℤ_comm (int_div (number_of v) k) k)))

-- between 0 and the greatest remainder, and between its negation and 0
low_enough : (r n : ℕ) → r < n → not (int_lt (pos (n - 1)) (pos r)) ≡ true
low_enough r n h = grind (arith, ints)

not_negative : (r : ℕ) → not (int_lt (pos r) (pos 0)) ≡ true
not_negative r = grind (arith, ints)

high_enough : (r n : ℕ) → r < n → not (int_lt (neg_ℤ (pos r)) (neg_ℤ (pos (n - 1)))) ≡ true
high_enough r n h = grind (arith, ints)

not_positive : (r : ℕ) → not (int_lt (pos 0) (neg_ℤ (pos r))) ≡ true
not_positive r = grind (arith, ints)

divides : (k : ℤ) → int_eq k (pos 0) ≡ false → 0 < unsigned_abs k
divides (pos zero) h = absurd (false≢true (sym h))
divides (pos (suc n)) h = omega arith
divides (negsuc n) h = omega arith

negative_below : (n : ℕ) → int_lt (negsuc n) (pos 0) ≡ true
negative_below n = grind (arith, ints)

pub remainder_above : (a k : ℤ) → int_eq k (pos 0) ≡ false
    → (not (not (int_lt a (pos 0))) || (not (int_lt (int_rem a k) (pos 0)) && not (int_lt (greatest k) (int_rem a k)))) ≡ true
remainder_above (pos n) k h = implied (not (int_lt (pos n) (pos 0))) _ (λ e. both_true (not_negative (n % unsigned_abs k)) (low_enough (n % unsigned_abs k) (unsigned_abs k) (rem_below (pos n) k (divides k h))))
remainder_above (negsuc n) k h = ap (λ b. not (not b) || (not (int_lt (int_rem (negsuc n) k) (pos 0)) && not (int_lt (greatest k) (int_rem (negsuc n) k)))) (negative_below n)

pub remainder_below : (a k : ℤ) → int_eq k (pos 0) ≡ false
    → (not (not (int_lt (pos 0) a)) || (not (int_lt (int_rem a k) (neg_ℤ (greatest k))) && not (int_lt (pos 0) (int_rem a k)))) ≡ true
remainder_below (pos zero) k h = implied (not (int_lt (pos 0) (pos 0))) _ (λ e.
    subst (λ r. (not (int_lt (pos r) (neg_ℤ (greatest k))) && not (int_lt (pos 0) (pos r))) ≡ true) (sym (zero-mod (unsigned_abs k)))
    (both_true (high_enough 0 (unsigned_abs k) (divides k h)) (not_positive 0)))
remainder_below (pos (suc n)) k h = implied (not (int_lt (pos 0) (pos (suc n)))) _ (λ e. absurd (false≢true (sym (ap not (above n)) ∙ e)))
  where
    above : (n : ℕ) → int_lt (pos 0) (pos (suc n)) ≡ true
    above n = grind (arith, ints)
remainder_below (negsuc n) k h = implied (not (int_lt (pos 0) (negsuc n))) _ (λ e.
    both_true (high_enough (suc n % unsigned_abs k) (unsigned_abs k) (below n k (divides k h))) (not_positive (suc n % unsigned_abs k)))
  where
    below : (n : ℕ) (k : ℤ) → 0 < unsigned_abs k → suc n % unsigned_abs k < unsigned_abs k
    below n k g = mod-lt (suc n) g
