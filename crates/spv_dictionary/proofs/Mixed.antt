-- The numbers of an exchange, as they are computed.
use Rattle.std.proofs.Common.{◌≡◌, ℕ, ◌+◌, ◌<◌, ◌≤◌, Bool, true, false, List, [], length, nat_eq, slice_index_or, slice_set, Result, Ok, Err, IfErr, refl, sym, ap, ◌∙◌, subst, arith, if◌then◌else◌}
use Rattle.std.proofs.lemmas.List.{get_or_default, get_or-set_same, get_or-set_other, length-set}
use mathlib.Core.Path.{ap₂}
use Rattle.spv_frac.specs.rational.Rational.{Rational, plus, times, opposite, is_zero}
use Rattle.spv_frac.proofs.rational.Field.{plus_zero, times_zero, zero_times}
use Rattle.spv_frac.proofs.rational.Signs.{zero_is}
use Rattle.spv_tableau_rules.specs.tableaux.Numbers.{nothing, one, divided}
use Rattle.spv_tableau_rules.specs.tableaux.Operations.{Operation}
use Rattle.spv_tableau_rules.proofs.pivots.Sums.{eq_is}
use Rattle.spv_dictionary.specs.Cells.{cell}
use Rattle.spv_dictionary.specs.Exchanges.{solved_at, mixed_at}
use Rattle.spv_dictionary.specs.Mixing.{mixed, can_mix, IsSolved, is_idle, IsRowMixing, IsRowsMixing, CanMixRow, CanMixTo, MixedTo, IsMixedAt, IsMixed, number_row, CanMixRowsTo, CanMixRows, IsMixedRow, AreMixedTo, AreWide}
use Rattle.spv_dictionary.proofs.Exchanging.{differ_of}

-- a refusal is that of this operation, of which something holds
pub if_refused : {T : Type 0} (r : Result T Operation) (p : Operation) (P : Operation → Type 0) → IfErr r (λ o. o ≡ p) → P p → IfErr r P
if_refused (Ok t) p P e h = tt
if_refused (Err o) p P e h = subst P (sym e) h

-- ---- the solved row

pub solved_here : (row : List Rational) (j x : ℕ) → nat_eq x j ≡ true → divided one (cell row j) ≡ solved_at row j x
solved_here row j x h = sym (rw h refl)

pub solved_other : (row : List Rational) (j x : ℕ) (q n : Rational) → nat_eq x j ≡ false → q ≡ divided (cell row x) (cell row j) → n ≡ opposite q → n ≡ solved_at row j x
solved_other row j x q n h e f = f ∙ ap opposite e ∙ sym (rw h refl)

-- a row solved up to a place
pub record SolvedTo (row solved : List Rational) (j place : ℕ) : Type 0 where
  pub count : length solved ≡ length row
  pub each : (x : ℕ) → x < place → cell solved x ≡ solved_at row j x

pub solved_none : (row solved : List Rational) (j : ℕ) → length solved ≡ length row → SolvedTo row solved j 0
solved_none row solved j e = record { count = e; each = λ x h. absurd (omega arith) }

pub solved_more : (row solved : List Rational) (j place : ℕ) (n : Rational) → SolvedTo row solved j place → place < length row → n ≡ solved_at row j place
    → SolvedTo row (slice_set solved place n) j (place + 1)
solved_more row solved j place n s below e = record {
  count = length-set solved place n ∙ s.count;
  each = each;
}
  where
    each : (x : ℕ) → x < place + 1 → cell (slice_set solved place n) x ≡ solved_at row j x
    each x h = by_case (nat_eq x place) refl
      where
        nearer : (x p : ℕ) → x < p + 1 → nat_eq x p ≡ false → x < p
        nearer x p h k = grind arith

        by_case : (b : Bool) → nat_eq x place ≡ b → cell (slice_set solved place n) x ≡ solved_at row j x
        by_case true k =
            ap (cell (slice_set solved place n)) (eq_is x place k) ∙ get_or-set_same solved place n nothing (subst (λ (m : ℕ). place < m) (sym s.count) below) ∙ e
            ∙ ap (solved_at row j) (sym (eq_is x place k))
        by_case false k = get_or-set_other solved place x n nothing (differ_of x place k) ∙ s.each x (nearer x place h k)

pub solved_all : (row solved : List Rational) (j : ℕ) → SolvedTo row solved j (length row) → IsSolved row solved j
solved_all row solved j s = record { count = s.count; each = s.each }

-- ---- whether a row can be mixed

pub can_none : (row solved : List Rational) (j : ℕ) → CanMixTo row solved j 0
can_none row solved j = record { each = λ x h. absurd (omega arith) }

pub can_more : (row solved : List Rational) (j place : ℕ) → CanMixTo row solved j place
    → (is_idle (nat_eq place j) (cell solved place) ≡ false → can_mix (nat_eq place j) (cell row place) (cell solved place) (cell row j) ≡ true)
    → CanMixTo row solved j (place + 1)
can_more row solved j place c here = record { each = λ x h. by_case x h (nat_eq x place) refl }
  where
    nearer : (x p : ℕ) → x < p + 1 → nat_eq x p ≡ false → x < p
    nearer x p h k = grind arith

    by_case : (x : ℕ) → x < place + 1 → (b : Bool) → nat_eq x place ≡ b → is_idle (nat_eq x j) (cell solved x) ≡ false
        → can_mix (nat_eq x j) (cell row x) (cell solved x) (cell row j) ≡ true
    by_case x h true k =
        subst (λ (y : ℕ). is_idle (nat_eq y j) (cell solved y) ≡ false → can_mix (nat_eq y j) (cell row y) (cell solved y) (cell row j) ≡ true) (sym (eq_is x place k)) here
    by_case x h false k = c.each x (nearer x place h k)

pub can_all : (row solved : List Rational) (j : ℕ) → CanMixTo row solved j (length row) → CanMixRow row solved j
can_all row solved j c = record { each = λ nonzero x below. c.each x below }

-- ---- a mixed row

mixed_slot : (row solved : List Rational) (j x : ℕ) → nat_eq x j ≡ true → mixed_at row solved j x ≡ times (cell solved j) (cell row j)
mixed_slot row solved j x h = rw h refl

mixed_other : (row solved : List Rational) (j x : ℕ) → nat_eq x j ≡ false → mixed_at row solved j x ≡ plus (cell row x) (times (cell solved x) (cell row j))
mixed_other row solved j x h = rw h refl

-- a row without the column of the slot stays as it is
pub unmixed : (row solved : List Rational) (j : ℕ) → is_zero (cell row j) ≡ true → IsMixed row solved j row
unmixed row solved j h = record { count = refl; each = λ x below. by_case x (nat_eq x j) refl }
  where
    zero_here : cell row j ≡ nothing
    zero_here = zero_is (cell row j) h

    by_case : (x : ℕ) → (b : Bool) → nat_eq x j ≡ b → cell row x ≡ mixed_at row solved j x
    by_case x true e = ap (cell row) (eq_is x j e) ∙ zero_here ∙ sym (mixed_slot row solved j x e ∙ ap (times (cell solved j)) zero_here ∙ times_zero (cell solved j))
    by_case x false e = sym (mixed_other row solved j x e ∙ ap (λ y. plus (cell row x) (times (cell solved x) y)) zero_here ∙ ap (plus (cell row x)) (times_zero (cell solved x)) ∙ plus_zero (cell row x))

-- what a place becomes is what it is to become
place_is : (row solved : List Rational) (j x : ℕ)
    → (if is_idle (nat_eq x j) (cell solved x) then cell row x else mixed (nat_eq x j) (cell row x) (cell solved x) (cell row j)) ≡ mixed_at row solved j x
place_is row solved j x = by_case (nat_eq x j) refl (is_zero (cell solved x)) refl
  where
    by_case : (b : Bool) → nat_eq x j ≡ b → (z : Bool) → is_zero (cell solved x) ≡ z
        → (if is_idle (nat_eq x j) (cell solved x) then cell row x else mixed (nat_eq x j) (cell row x) (cell solved x) (cell row j)) ≡ mixed_at row solved j x
    by_case true e z h = rw e (ap (λ y. times (cell solved y) (cell row j)) (eq_is x j e))
    by_case false e true h =
        rw (e, h) (sym (ap (λ y. plus (cell row x) (times y (cell row j))) (zero_is (cell solved x) h) ∙ ap (plus (cell row x)) (zero_times (cell row j)) ∙ plus_zero (cell row x)))
    by_case false e false h = rw (e, h) refl

pub mixed_none : (row solved : List Rational) (j : ℕ) → MixedTo row solved j 0 row
mixed_none row solved j = record { count = refl; each = λ x h. absurd (omega arith); rest = λ x h. refl }

pub mixed_more : (row solved : List Rational) (j place : ℕ) (factor : Rational) (now new : List Rational) → factor ≡ cell row j → MixedTo row solved j place now
    → IsMixedAt now solved j place factor new → MixedTo row solved j (place + 1) new
mixed_more row solved j place factor now new is m a = record {
  count = a.count ∙ m.count;
  each = λ x h. by_case x h (nat_eq x place) refl;
  rest = λ x h. a.others x (above x place h) ∙ m.rest x (later x place h);
}
  where
    above : (x p : ℕ) → p + 1 ≤ x → nat_eq x p ≡ false
    above x p h = grind arith

    later : (x p : ℕ) → p + 1 ≤ x → p ≤ x
    later x p h = omega arith

    nearer : (x p : ℕ) → x < p + 1 → nat_eq x p ≡ false → x < p
    nearer x p h k = grind arith

    itself : (p : ℕ) → p ≤ p
    itself p = omega arith

    here : cell new place ≡ mixed_at row solved j place
    here =
        a.here
        ∙ ap₂ (λ (n f : Rational). if is_idle (nat_eq place j) (cell solved place) then n else mixed (nat_eq place j) n (cell solved place) f) (m.rest place (itself place)) is
        ∙ place_is row solved j place

    by_case : (x : ℕ) → x < place + 1 → (b : Bool) → nat_eq x place ≡ b → cell new x ≡ mixed_at row solved j x
    by_case x h true k = ap (cell new) (eq_is x place k) ∙ here ∙ ap (mixed_at row solved j) (sym (eq_is x place k))
    by_case x h false k = a.others x k ∙ m.each x (nearer x place h k)

pub mixed_all : (row solved : List Rational) (j : ℕ) (now : List Rational) → MixedTo row solved j (length row) now → IsMixed row solved j now
mixed_all row solved j now m = record { count = m.count; each = m.each }

-- the next place can be mixed
pub mixed_next : (row solved : List Rational) (j place : ℕ) (factor : Rational) (now : List Rational) → factor ≡ cell row j → is_zero factor ≡ false → MixedTo row solved j place now
    → CanMixRow row solved j → place < length row → is_idle (nat_eq place j) (cell solved place) ≡ false
    → can_mix (nat_eq place j) (cell now place) (cell solved place) factor ≡ true
mixed_next row solved j place factor now is nonzero m c below idle =
    ap₂ (λ (n f : Rational). can_mix (nat_eq place j) n (cell solved place) f) (m.rest place (itself place)) is ∙ c.each (ap is_zero (sym is) ∙ nonzero) place below idle
  where
    itself : (p : ℕ) → p ≤ p
    itself p = omega arith

-- ---- all rows

pub can_rows_more : (rows : List (List Rational)) (solved : List Rational) (i j row : ℕ) → CanMixRowsTo rows solved i j row
    → (nat_eq row i ≡ false → CanMixRow (number_row rows row) solved j) → CanMixRowsTo rows solved i j (row + 1)
can_rows_more rows solved i j row c here = record { each = λ k h. by_case k h (nat_eq k row) refl }
  where
    nearer : (x p : ℕ) → x < p + 1 → nat_eq x p ≡ false → x < p
    nearer x p h k = grind arith

    by_case : (k : ℕ) → k < row + 1 → (b : Bool) → nat_eq k row ≡ b → nat_eq k i ≡ false → CanMixRow (number_row rows k) solved j
    by_case k h true e = subst (λ (y : ℕ). nat_eq y i ≡ false → CanMixRow (number_row rows y) solved j) (sym (eq_is k row e)) here
    by_case k h false e = c.each k (nearer k row h e)

pub rows_none : (rows : List (List Rational)) (solved : List Rational) (i j : ℕ) → AreMixedTo rows solved i j 0 rows
rows_none rows solved i j = record { count = refl; each = λ k h. absurd (omega arith); here = refl; rest = λ k h. refl }

pub rows_more : (rows : List (List Rational)) (solved : List Rational) (i j row : ℕ) (now new : List (List Rational)) → AreMixedTo rows solved i j row now
    → IsMixedRow now solved i j row new → AreMixedTo rows solved i j (row + 1) new
rows_more rows solved i j row now new m a = record {
  count = a.count ∙ m.count;
  each = λ k h. by_case k h (nat_eq k row) refl;
  here = a.here ∙ m.here;
  rest = λ k h. a.others k (above k row h) ∙ m.rest k (later k row h);
}
  where
    above : (x p : ℕ) → p + 1 ≤ x → nat_eq x p ≡ false
    above x p h = grind arith

    later : (x p : ℕ) → p + 1 ≤ x → p ≤ x
    later x p h = omega arith

    nearer : (x p : ℕ) → x < p + 1 → nat_eq x p ≡ false → x < p
    nearer x p h k = grind arith

    itself : (p : ℕ) → p ≤ p
    itself p = omega arith

    mixed_row : nat_eq row i ≡ false → IsMixed (number_row rows row) solved j (number_row new row)
    mixed_row other = subst (λ (r : List Rational). IsMixed r solved j (number_row new row)) (m.rest row (itself row)) (a.mixed other)

    by_case : (k : ℕ) → k < row + 1 → (b : Bool) → nat_eq k row ≡ b → nat_eq k i ≡ false → IsMixed (number_row rows k) solved j (number_row new k)
    by_case k h true e other = subst (λ (y : ℕ). nat_eq y i ≡ false → IsMixed (number_row rows y) solved j (number_row new y)) (sym (eq_is k row e)) mixed_row other
    by_case k h false e other = subst (λ (r : List Rational). IsMixed (number_row rows k) solved j r) (sym (a.others k e)) (m.each k (nearer k row h e) other)

-- the next row can be mixed
pub rows_next : (rows : List (List Rational)) (solved : List Rational) (i j row : ℕ) (now : List (List Rational)) → AreMixedTo rows solved i j row now
    → CanMixRows rows solved i j → row < length rows → nat_eq row i ≡ false → CanMixRow (number_row now row) solved j
rows_next rows solved i j row now m c below other = subst (λ (r : List Rational). CanMixRow r solved j) (sym (m.rest row (itself row))) (c.each row below other)
  where
    itself : (p : ℕ) → p ≤ p
    itself p = omega arith

pub next_width : (rows : List (List Rational)) (solved : List Rational) (i j row width : ℕ) (now : List (List Rational)) → AreMixedTo rows solved i j row now
    → AreWide rows width → row < length rows → length (number_row now row) ≡ width
next_width rows solved i j row width now m w below = ap length (m.rest row (itself row)) ∙ w.each row below
  where
    itself : (p : ℕ) → p ≤ p
    itself p = omega arith

pub if_err : {T : Type 0} (r : Result T Operation) (P Q : Operation → Type 0) → IfErr r P → ((o : Operation) → P o → Q o) → IfErr r Q
if_err (Ok t) P Q h more = tt
if_err (Err o) P Q h more = more o h

-- what is refused of a row that was read
pub in_row : (rows : List (List Rational)) (solved r : List Rational) (i j k : ℕ) (o : Operation) → k < length rows → nat_eq k i ≡ false → r ≡ slice_index_or rows k r
    → IsRowMixing r solved j o → IsRowsMixing rows solved i j o
in_row rows solved r i j k o below other is m = record {
  row = k;
  row_in = below;
  other = other;
  mixing = subst (λ (y : List Rational). IsRowMixing y solved j o) (is ∙ get_or_default rows k r [] below) m;
}
