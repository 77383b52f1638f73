-- Values that go on, row by row.
use Rattle.std.proofs.Common.{◌≡◌, ℕ, ◌+◌, ◌<◌, Bool, true, false, List, length, nat_eq, slice_index_or, slice_set, refl, sym, ap, ◌∙◌, subst, arith}
use Rattle.std.proofs.lemmas.List.{get_or_default, get_or-set_same, get_or-set_other, length-set}
use Rattle.spv_frac.specs.rational.Rational.{Rational, plus, is_zero}
use Rattle.spv_frac.proofs.rational.Field.{plus_zero, times_zero}
use Rattle.spv_frac.proofs.rational.Signs.{zero_is}
use Rattle.spv_tableau_rules.specs.tableaux.Numbers.{nothing}
use Rattle.spv_tableau_rules.specs.tableaux.Operations.{Operation}
use Rattle.spv_tableau_rules.proofs.pivots.Sums.{eq_is}
use Rattle.spv_tableau_rules.proofs.pivots.Algebra.{clash}
use Rattle.spv_dictionary.specs.declared.spot.Spot.{Spot}
use Rattle.spv_dictionary.specs.declared.spot.Spot.TheVariants as spot
use Rattle.spv_dictionary.specs.Dictionary.{Dictionary, IsDictionary, spot_of, basic_at}
use Rattle.spv_dictionary.proofs.Exchanging.{differ_of, false_of}
use Rattle.spv_dictionary.specs.updates.Shifts.{value_in, entry_in, gone, can_go, IsGoing, IsRowGoing, CanGoTo, IsOther, HasGoneTo, HasGone}

-- ---- one row

pub not_gone : (d : Dictionary) (values : List Rational) (slot : ℕ) (distance : Rational) (skip row : ℕ) → nat_eq row skip ≡ true → HasGone d values slot distance skip row values
not_gone d values slot distance skip row h = record {
  count = refl;
  here = λ other. absurd (clash (nat_eq row skip) h other);
  skipped = λ e. refl;
  others = λ c e. refl;
}

pub stands_still : (d : Dictionary) (values : List Rational) (slot : ℕ) (distance : Rational) (skip row : ℕ) → is_zero (entry_in d row slot) ≡ true → HasGone d values slot distance skip row values
stands_still d values slot distance skip row h = record {
  count = refl;
  here = λ other. sym (ap (gone (value_in values (basic_at d row)) distance) (zero_is (entry_in d row slot) h) ∙ ap (plus (value_in values (basic_at d row))) (times_zero distance) ∙ plus_zero (value_in values (basic_at d row)));
  skipped = λ e. refl;
  others = λ c e. refl;
}

pub has_gone : (d : Dictionary) (values : List Rational) (slot : ℕ) (distance : Rational) (skip row : ℕ) (n : Rational) → nat_eq row skip ≡ false → basic_at d row < length values
    → n ≡ gone (value_in values (basic_at d row)) distance (entry_in d row slot) → HasGone d values slot distance skip row (slice_set values (basic_at d row) n)
has_gone d values slot distance skip row n other inside is = record {
  count = length-set values (basic_at d row) n;
  here = λ e. get_or-set_same values (basic_at d row) n nothing inside ∙ is;
  skipped = λ e. absurd (clash (nat_eq row skip) e other);
  others = λ c e. get_or-set_other values (basic_at d row) c n nothing (differ_of c (basic_at d row) e);
}

pub row_refused : (d : Dictionary) (values : List Rational) (slot : ℕ) (distance : Rational) (skip row : ℕ) (value entry : Rational) (o : Operation) → row < length d.basic → nat_eq row skip ≡ false
    → value ≡ value_in values (basic_at d row) → entry ≡ entry_in d row slot → IsGoing value distance entry o → IsRowGoing d values slot distance skip o
row_refused d values slot distance skip row value entry o row_in other ev ee going = record {
  row = row;
  row_in = row_in;
  other = other;
  going = subst (λ (v : Rational). IsGoing v distance (entry_in d row slot) o) ev (subst (λ (e : Rational). IsGoing value distance e o) ee going);
}

pub value_read : (d : Dictionary) (values : List Rational) (row i : ℕ) (r : Rational) → IsDictionary d → length values ≡ length d.spots → row < length d.basic → i ≡ basic_at d row
    → r ≡ slice_index_or values i r → r ≡ value_in values (basic_at d row)
value_read d values row i r known count row_in at read =
    read ∙ ap (λ k. slice_index_or values k r) at ∙ get_or_default values (basic_at d row) r nothing (subst (λ (n : ℕ). basic_at d row < n) (sym count) (known.rows row row_in).0)

-- ---- all rows

pub can_more : (d : Dictionary) (values : List Rational) (slot : ℕ) (distance : Rational) (skip row : ℕ) → CanGoTo d values slot distance skip row
    → (nat_eq row skip ≡ false → is_zero (entry_in d row slot) ≡ false → can_go (value_in values (basic_at d row)) distance (entry_in d row slot) ≡ true)
    → CanGoTo d values slot distance skip (row + 1)
can_more d values slot distance skip row c here = record { each = λ k h. by_case k h (nat_eq k row) refl }
  where
    nearer : (x p : ℕ) → x < p + 1 → nat_eq x p ≡ false → x < p
    nearer x p h k = grind arith

    by_case : (k : ℕ) → k < row + 1 → (b : Bool) → nat_eq k row ≡ b → nat_eq k skip ≡ false → is_zero (entry_in d k slot) ≡ false
        → can_go (value_in values (basic_at d k)) distance (entry_in d k slot) ≡ true
    by_case k h true e =
        subst (λ (y : ℕ). nat_eq y skip ≡ false → is_zero (entry_in d y slot) ≡ false → can_go (value_in values (basic_at d y)) distance (entry_in d y slot) ≡ true) (sym (eq_is k row e)) here
    by_case k h false e = c.each k (nearer k row h e)

-- rows have different columns
pub columns_apart : (d : Dictionary) → IsDictionary d → (k m : ℕ) → k < length d.basic → m < length d.basic → nat_eq k m ≡ false → nat_eq (basic_at d k) (basic_at d m) ≡ false
columns_apart d known k m k_in m_in h =
    false_of (basic_at d k) (basic_at d m) (λ same. differ_of k m h (ap row_number (sym (known.rows k k_in).1 ∙ ap (spot_of d) same ∙ (known.rows m m_in).1)))
  where
    row_number : Spot → ℕ
    row_number (spot.Row n) = n
    row_number (spot.Slot n) = n

pub gone_none : (d : Dictionary) (values : List Rational) (slot : ℕ) (distance : Rational) (skip : ℕ) → HasGoneTo d values slot distance skip 0 values
gone_none d values slot distance skip = record { count = refl; each = λ k h. absurd (omega arith); others = λ c h. refl }

-- the next row's column has its value yet
next_value : (d : Dictionary) (values now : List Rational) (slot : ℕ) (distance : Rational) (skip row : ℕ) → IsDictionary d → row < length d.basic
    → HasGoneTo d values slot distance skip row now → value_in now (basic_at d row) ≡ value_in values (basic_at d row)
next_value d values now slot distance skip row known row_in g =
    g.others (basic_at d row) (λ k h e. columns_apart d known row k row_in (trans k row (length d.basic) h row_in) (apart k row h))
  where
    trans : (a b c : ℕ) → a < b → b < c → a < c
    trans a b c h k = omega arith

    apart : (k r : ℕ) → k < r → nat_eq r k ≡ false
    apart k r h = grind arith

pub next_can : (d : Dictionary) (values now : List Rational) (slot : ℕ) (distance : Rational) (skip row : ℕ) → IsDictionary d → row < length d.basic
    → HasGoneTo d values slot distance skip row now → CanGoTo d values slot distance skip (length d.basic) → nat_eq row skip ≡ false → is_zero (entry_in d row slot) ≡ false
    → can_go (value_in now (basic_at d row)) distance (entry_in d row slot) ≡ true
next_can d values now slot distance skip row known row_in g can other nonzero =
    ap (λ v. can_go v distance (entry_in d row slot)) (next_value d values now slot distance skip row known row_in g) ∙ can.each row row_in other nonzero

pub gone_more : (d : Dictionary) (values now new : List Rational) (slot : ℕ) (distance : Rational) (skip row : ℕ) → IsDictionary d → row < length d.basic
    → HasGoneTo d values slot distance skip row now → HasGone d now slot distance skip row new → HasGoneTo d values slot distance skip (row + 1) new
gone_more d values now new slot distance skip row known row_in g h = record {
  count = h.count ∙ g.count;
  each = λ k below. by_case k below (nat_eq k row) refl;
  others = others;
}
  where
    nearer : (x p : ℕ) → x < p + 1 → nat_eq x p ≡ false → x < p
    nearer x p h k = grind arith

    trans : (a b c : ℕ) → a < b → b < c → a < c
    trans a b c h k = omega arith

    longer : (k r : ℕ) → k < r → k < r + 1
    longer k r h = omega arith

    last : (r : ℕ) → r < r + 1
    last r = omega arith

    by_case : (k : ℕ) → k < row + 1 → (b : Bool) → nat_eq k row ≡ b → nat_eq k skip ≡ false → value_in new (basic_at d k) ≡ gone (value_in values (basic_at d k)) distance (entry_in d k slot)
    by_case k below true e other =
        subst (λ (y : ℕ). nat_eq y skip ≡ false → value_in new (basic_at d y) ≡ gone (value_in values (basic_at d y)) distance (entry_in d y slot)) (sym (eq_is k row e))
        (λ o. h.here o ∙ ap (λ v. gone v distance (entry_in d row slot)) (next_value d values now slot distance skip row known row_in g)) other
    by_case k below false e other =
        h.others (basic_at d k) (columns_apart d known k row (trans k row (length d.basic) (nearer k row below e) row_in) row_in e) ∙ g.each k (nearer k row below e) other

    others : (c : ℕ) → IsOther d skip (row + 1) c → value_in new c ≡ value_in values c
    others c o = by_skip (nat_eq row skip) refl
      where
        before : value_in now c ≡ value_in values c
        before = g.others c (λ k below other. o k (longer k row below) other)

        by_same : nat_eq row skip ≡ true → (b : Bool) → nat_eq c (basic_at d row) ≡ b → value_in new c ≡ value_in now c
        by_same s true e = ap (value_in new) (eq_is c (basic_at d row) e) ∙ h.skipped s ∙ ap (value_in now) (sym (eq_is c (basic_at d row) e))
        by_same s false e = h.others c e

        by_skip : (b : Bool) → nat_eq row skip ≡ b → value_in new c ≡ value_in values c
        by_skip true s = by_same s (nat_eq c (basic_at d row)) refl ∙ before
        by_skip false s = h.others c (o row (last row) s) ∙ before
