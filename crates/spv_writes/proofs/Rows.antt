-- Rows that hold the same are the same: what is put twice, and put back.
use Rattle.std.proofs.Common.{◌≡◌, Bool, true, false, cond, ◌&&◌, not, ℤ, refl, sym, ap, subst, ◌∙◌, Some, arith}
use Rattle.std.proofs.lemmas.Int.{ints}
use Rattle.std.specs.Int.RustNames.{int_lt}
use Rattle.std.specs.Ordering.{int_eq}
use Rattle.std.proofs.lemmas.Bool.{false≢true}
use Rattle.spv_logic.proofs.list.Tests.{left_true, right_true}
use Rattle.spv_logic.specs.Values.{Value, Rows, no_rows, row, value_eq, row_at, put_row, set_row}
use Rattle.spv_logic.specs.Fits.{ascend, ascend_after, lacks}
use Rattle.spv_logic.proofs.Equality.{int_eq-true, int_eq-refl, value_eq-refl}
use Rattle.spv_logic.proofs.Sorting.{after_weaker, ascend_from_after}
use Rattle.spv_logic.proofs.Changes.{put_other}
use Rattle.spv_program.proofs.SortFacts.{some_is}
use Rattle.spv_meaning.specs.Places.{row_found}
use Rattle.spv_writes.proofs.Lists.{clash}

-- ---- rows that hold the same

below_differs : (a b : ℤ) → int_lt a b ≡ true → int_eq a b ≡ false
below_differs a b h = grind (arith, ints)

neither_below : (a b : ℤ) → int_lt a b ≡ false → int_lt b a ≡ false → int_eq a b ≡ true
neither_below a b h g = grind (arith, ints)

-- rows that ascend above a key have nothing under it
nothing_under : (key : ℤ) (rows : Rows) (d : Value) → ascend_after key rows ≡ true → row_at rows key d ≡ d
nothing_under key no_rows d h = refl
nothing_under key (row i v rows) d h =
    let below = left_true (int_lt key i) (ascend_after i rows) h in
    ap (λ b. cond b v (row_at rows key d)) (below_differs key i below) ∙ nothing_under key rows d (after_weaker key i rows below (right_true (int_lt key i) _ h))

first_row : (key : ℤ) (v d : Value) (rows : Rows) → row_at (row key v rows) key d ≡ v
first_row key v d rows = ap (λ b. cond b v (row_at rows key d)) (int_eq-refl key)

no_default : (v d : Value) → v ≡ d → not (value_eq v d) ≡ true → ⊥
no_default v d e h = clash (value_eq v d) (ap (λ k. value_eq k d) e ∙ value_eq-refl d) (not_so_then (value_eq v d) h)
  where
    not_so_then : (b : Bool) → not b ≡ true → b ≡ false
    not_so_then true h = absurd (false≢true h)
    not_so_then false h = refl

-- rows in order, none with the default
pub record InOrder (d : Value) (rows : Rows) : Type 0 where
  pub ascends : ascend rows ≡ true
  pub lacks_it : lacks d rows ≡ true

after_first : (d : Value) (i : ℤ) (v : Value) (rows : Rows) → InOrder d (row i v rows) → InOrder d rows
after_first d i v rows h = record { ascends = ascend_from_after i rows h.ascends; lacks_it = right_true (not (value_eq v d)) (lacks d rows) h.lacks_it }

pub rows_same : (d : Value) (rows others : Rows) → InOrder d rows → InOrder d others → ((key : ℤ) → row_at rows key d ≡ row_at others key d) → rows ≡ others
rows_same d no_rows no_rows a b same = refl
rows_same d no_rows (row j w others) a b same =
    absurd (no_default w d (sym (first_row j w d others) ∙ sym (same j)) (left_true (not (value_eq w d)) (lacks d others) b.lacks_it))
rows_same d (row i v rows) no_rows a b same =
    absurd (no_default v d (sym (first_row i v d rows) ∙ same i) (left_true (not (value_eq v d)) (lacks d rows) a.lacks_it))
rows_same d (row i v rows) (row j w others) a b same =
    by_order (int_lt i j) (int_lt j i) refl refl (rows_same d rows others (after_first d i v rows a) (after_first d j w others b))
  where
    both_at : (x y : Bool) → x ≡ true → y ≡ true → (x && y) ≡ true
    both_at true y h k = k
    both_at false y h k = absurd (false≢true h)

    rest : i ≡ j → (key : ℤ) (t : Bool) → int_eq key i ≡ t → row_at rows key d ≡ row_at others key d
    rest at key true e =
        let k = int_eq-true key i e in
        nothing_under key rows d (ap (λ n. ascend_after n rows) k ∙ a.ascends) ∙ sym (nothing_under key others d (ap (λ n. ascend_after n others) (k ∙ at) ∙ b.ascends))
    rest at key false e =
        sym (ap (λ t. cond t v (row_at rows key d)) e) ∙ (same key ∙ ap (λ t. cond t w (row_at others key d)) (ap (int_eq key) (sym at) ∙ e))

    by_order : (x y : Bool) → int_lt i j ≡ x → int_lt j i ≡ y → (((key : ℤ) → row_at rows key d ≡ row_at others key d) → rows ≡ others) → row i v rows ≡ row j w others
    by_order true y e f later =
        absurd (no_default v d (sym (first_row i v d rows) ∙ (same i ∙ nothing_under i (row j w others) d (both_at (int_lt i j) (ascend_after j others) e b.ascends))) (left_true (not (value_eq v d)) (lacks d rows) a.lacks_it))
    by_order false true e f later =
        absurd (no_default w d (sym (first_row j w d others) ∙ (sym (same j) ∙ nothing_under j (row i v rows) d (both_at (int_lt j i) (ascend_after i rows) f a.ascends))) (left_true (not (value_eq w d)) (lacks d others) b.lacks_it))
    by_order false false e f later =
        let at = int_eq-true i j (neither_below i j e f) in
        let values : v ≡ w = sym (first_row i v d rows) ∙ (same i ∙ ap (λ t. cond t w (row_at others i d)) (ap (int_eq i) (sym at) ∙ int_eq-refl i)) in
        let others_same = later (λ key. rest at key (int_eq key i) refl) in
        λ k. row (at k) (values k) (others_same k)

-- ---- put twice, and put back

-- under a key, and under the others
by_key : (key other : ℤ) (P : ℤ → Type 0) → P key → (int_eq other key ≡ false → P other) → P other
by_key key other P here beside = by_test (int_eq other key) refl
  where
    by_test : (b : Bool) → int_eq other key ≡ b → P other
    by_test true e = subst P (sym (int_eq-true other key e)) here
    by_test false e = beside e

-- the second value that is put under a key counts
pub put_twice : (d : Value) (rows : Rows) (key : ℤ) (v w : Value) → InOrder d (put_row (put_row rows key v d) key w d) → InOrder d (put_row rows key w d)
    → row_at (put_row (put_row rows key v d) key w d) key d ≡ w → row_at (put_row rows key w d) key d ≡ w → put_row (put_row rows key v d) key w d ≡ put_row rows key w d
put_twice d rows key v w a b one two =
    rows_same d (put_row (put_row rows key v d) key w d) (put_row rows key w d) a b
    (λ other. by_key key other (λ k. row_at (put_row (put_row rows key v d) key w d) k d ≡ row_at (put_row rows key w d) k d) (one ∙ sym two)
    (λ e. put_other (put_row rows key v d) key other w d e ∙ (put_other rows key other v d e ∙ sym (put_other rows key other w d e))))

-- what is there, put there again, changes nothing
pub put_back : (d : Value) (rows : Rows) (key : ℤ) → InOrder d (put_row rows key (row_at rows key d) d) → InOrder d rows
    → row_at (put_row rows key (row_at rows key d) d) key d ≡ row_at rows key d → put_row rows key (row_at rows key d) d ≡ rows
put_back d rows key a b one =
    rows_same d (put_row rows key (row_at rows key d) d) rows a b
    (λ other. by_key key other (λ k. row_at (put_row rows key (row_at rows key d) d) k d ≡ row_at rows k d) one (λ e. put_other rows key other (row_at rows key d) d e))

-- values under two keys may be put in either order
pub put_either : (d : Value) (rows : Rows) (i j : ℤ) (v w : Value) → int_eq i j ≡ false → int_eq j i ≡ false → InOrder d (put_row (put_row rows i v d) j w d) → InOrder d (put_row (put_row rows j w d) i v d)
    → row_at (put_row rows i v d) i d ≡ v → row_at (put_row rows j w d) j d ≡ w → row_at (put_row (put_row rows i v d) j w d) j d ≡ w → row_at (put_row (put_row rows j w d) i v d) i d ≡ v
    → put_row (put_row rows i v d) j w d ≡ put_row (put_row rows j w d) i v d
put_either d rows i j v w one two a b at_i at_j last_j last_i =
    rows_same d (put_row (put_row rows i v d) j w d) (put_row (put_row rows j w d) i v d) a b
    (λ other. by_key j other (λ k. row_at (put_row (put_row rows i v d) j w d) k d ≡ row_at (put_row (put_row rows j w d) i v d) k d)
    (last_j ∙ (sym at_j ∙ sym (put_other (put_row rows j w d) i j v d two)))
    (λ e. by_key i other (λ k. row_at (put_row (put_row rows i v d) j w d) k d ≡ row_at (put_row (put_row rows j w d) i v d) k d)
    (put_other (put_row rows i v d) j i w d one ∙ (at_i ∙ sym last_i))
    (λ f. put_other (put_row rows i v d) j other w d e ∙ (put_other rows i other v d f ∙ (sym (put_other rows j other w d e) ∙ sym (put_other (put_row rows j w d) i other v d f))))))

-- ---- rows of records

pub set_twice : (rows : Rows) (key : ℤ) (v w : Value) → set_row (set_row rows key v) key w ≡ set_row rows key w
set_twice no_rows key v w = refl
set_twice (row i u rows) key v w = by_test (int_eq key i) refl (set_twice rows key v w)
  where
    by_test : (b : Bool) → int_eq key i ≡ b → set_row (set_row rows key v) key w ≡ set_row rows key w → set_row (cond b (row i v rows) (row i u (set_row rows key v))) key w ≡ cond b (row i w rows) (row i u (set_row rows key w))
    by_test true e later = ap (λ b. cond b (row i w rows) (row i v (set_row rows key w))) e
    by_test false e later = ap (λ b. cond b (row i w (set_row rows key v)) (row i u (set_row (set_row rows key v) key w))) e ∙ ap (row i u) later

pub set_back : (rows : Rows) (key : ℤ) (v : Value) → row_found rows key ≡ Some v → set_row rows key v ≡ rows
set_back no_rows key v there = refl
set_back (row i u rows) key v there = by_test (int_eq key i) there (set_back rows key v)
  where
    by_test : (b : Bool) → cond b (Some u) (row_found rows key) ≡ Some v → (row_found rows key ≡ Some v → set_row rows key v ≡ rows) → cond b (row i v rows) (row i u (set_row rows key v)) ≡ row i u rows
    by_test true there later = ap (λ k. row i k rows) (sym (some_is there))
    by_test false there later = ap (row i u) (later there)
