-- An exchange on the numbers is the pivot of the solved form.
use Rattle.std.proofs.Common.{◌≡◌, ◌≢◌, ℕ, ◌+◌, ◌<◌, Bool, true, false, length, nat_eq, slice_index_or, slice_set, refl, sym, ap, ◌∙◌, subst}
use Rattle.std.proofs.lemmas.Bool.{false≢true}
use Rattle.std.proofs.lemmas.List.{get_or-set_same, get_or-set_other, length-set}
use mathlib.Core.Path.{ap₂}
use Rattle.spv_frac.specs.rational.Rational.{Rational, plus, times, opposite, is_zero}
use Rattle.spv_frac.proofs.rational.Field.{plus_zero, zero_plus, plus_opposite, zero_times}
use Rattle.spv_tableau_rules.specs.declared.tableaux.side.Side.{Side}
use Rattle.spv_tableau_rules.specs.tableaux.Numbers.{nothing, one, minus_one, inverse, divided}
use Rattle.spv_tableau_rules.specs.tableaux.Solved.{is_basic, Entries, exchanged, solved_for, pivot}
use Rattle.spv_tableau_rules.proofs.pivots.Algebra.{minus_one_is, minus_one_times, opposite_times, opposite_opposite, opposite_nothing, nothing_divided, divided_itself}
use Rattle.spv_tableau_rules.proofs.pivots.Sums.{eq_is, eq_self, eq_flip}
use Rattle.spv_dictionary.specs.declared.spot.Spot.{Spot}
use Rattle.spv_dictionary.specs.declared.spot.Spot.TheVariants as spot
use Rattle.spv_dictionary.specs.Cells.{cell}
use Rattle.spv_dictionary.specs.Dictionary.{Dictionary, IsDictionary, IsSpot, IsColumn, spot_of, basic_at, outside_at, row_at, entry_between, entries, place_of, places}
use Rattle.spv_dictionary.specs.Exchanges.{IsExchanged}

pub differ_of : (a b : ℕ) → nat_eq a b ≡ false → a ≢ b
differ_of a b h e = false≢true (sym h ∙ ap (nat_eq a) (sym e) ∙ eq_self a)

pub false_of : (a b : ℕ) → (a ≡ b → ⊥) → nat_eq a b ≡ false
false_of a b h = by_case (nat_eq a b) refl
  where
    by_case : (x : Bool) → nat_eq a b ≡ x → x ≡ false
    by_case true e = absurd (h (eq_is a b e))
    by_case false e = refl

pub row≢slot : (i j : ℕ) → spot.Row i ≡ spot.Slot j → ⊥
row≢slot i j e = false≢true (ap (λ s. is_slot s) e)
  where
    is_slot : Spot → Bool
    is_slot (spot.Row i) = false
    is_slot (spot.Slot j) = true

module _ (old new : Dictionary) (i j : ℕ) (d : IsDictionary old) (x : IsExchanged old new i j) (row_in : i < length old.basic) (slot_in : j < length old.outside)
    (nonzero : is_zero (cell (row_at old i) j) ≡ false) where
  abbrev l : ℕ
  l = basic_at old i

  abbrev e : ℕ
  e = outside_at old j

  abbrev t : Entries
  t = entries old

  l_spot : spot_of old l ≡ spot.Row i
  l_spot = (d.rows i row_in).1

  e_spot : spot_of old e ≡ spot.Slot j
  e_spot = (d.slots j slot_in).1

  apart : nat_eq l e ≡ false
  apart = false_of l e (λ h. row≢slot i j (sym l_spot ∙ ap (spot_of old) h ∙ e_spot))

  -- ---- where the columns are now

  spot_entering : (c : ℕ) → nat_eq c e ≡ true → spot_of new c ≡ spot.Row i
  spot_entering c h =
      ap (λ s. slice_index_or s c (spot.Slot 0)) x.spots ∙ ap (λ k. slice_index_or (slice_set (slice_set old.spots l (spot.Slot j)) e (spot.Row i)) k (spot.Slot 0)) (eq_is c e h)
      ∙ get_or-set_same (slice_set old.spots l (spot.Slot j)) e (spot.Row i) (spot.Slot 0) (subst (λ (k : ℕ). e < k) (sym (length-set old.spots l (spot.Slot j))) (d.slots j slot_in).0)

  before_entering : (c : ℕ) → nat_eq c e ≡ false → spot_of new c ≡ slice_index_or (slice_set old.spots l (spot.Slot j)) c (spot.Slot 0)
  before_entering c h =
      ap (λ s. slice_index_or s c (spot.Slot 0)) x.spots ∙ get_or-set_other (slice_set old.spots l (spot.Slot j)) e c (spot.Row i) (spot.Slot 0) (differ_of c e h)

  spot_leaving : (c : ℕ) → nat_eq c e ≡ false → nat_eq c l ≡ true → spot_of new c ≡ spot.Slot j
  spot_leaving c h k =
      before_entering c h ∙ ap (λ y. slice_index_or (slice_set old.spots l (spot.Slot j)) y (spot.Slot 0)) (eq_is c l k)
      ∙ get_or-set_same old.spots l (spot.Slot j) (spot.Slot 0) (d.rows i row_in).0

  spot_other : (c : ℕ) → nat_eq c e ≡ false → nat_eq c l ≡ false → spot_of new c ≡ spot_of old c
  spot_other c h k = before_entering c h ∙ get_or-set_other old.spots l c (spot.Slot j) (spot.Slot 0) (differ_of c l k)

  pub same_basis : (side : Side) (c : ℕ) → is_basic (places new c) ≡ is_basic (exchanged (places old) l side e c)
  same_basis side c = by_cases (nat_eq c e) refl (nat_eq c l) refl
    where
      by_cases : (a : Bool) → nat_eq c e ≡ a → (b : Bool) → nat_eq c l ≡ b → is_basic (places new c) ≡ is_basic (exchanged (places old) l side e c)
      by_cases true h b k = ap (λ s. is_basic (place_of s)) (spot_entering c h) ∙ sym (rw h refl)
      by_cases false h true k = ap (λ s. is_basic (place_of s)) (spot_leaving c h k) ∙ sym (rw (h, k) refl)
      by_cases false h false k = ap (λ s. is_basic (place_of s)) (spot_other c h k) ∙ sym (rw (h, k) refl)

  -- ---- where they were

  slot_apart : (c y : ℕ) → c < length old.spots → spot_of old c ≡ spot.Slot y → nat_eq c e ≡ false → nat_eq y j ≡ false
  slot_apart c y below s h =
      false_of y j (λ same. differ_of c e h (sym (subst (IsSpot old c) s (d.columns c below)).1 ∙ ap (outside_at old) same))

  slot_below : (c y : ℕ) → c < length old.spots → spot_of old c ≡ spot.Slot y → y < length old.outside
  slot_below c y below s = (subst (IsSpot old c) s (d.columns c below)).0

  row_apart : (c k : ℕ) → c < length old.spots → spot_of old c ≡ spot.Row k → nat_eq c l ≡ false → nat_eq k i ≡ false
  row_apart c k below s h =
      false_of k i (λ same. differ_of c l h (sym (subst (IsSpot old c) s (d.columns c below)).1 ∙ ap (basic_at old) same))

  row_below : (c k : ℕ) → c < length old.spots → spot_of old c ≡ spot.Row k → k < length old.basic
  row_below c k below s = (subst (IsSpot old c) s (d.columns c below)).0

  entry_is : (dictionary : Dictionary) (b c : ℕ) (p q : Spot) → spot_of dictionary b ≡ p → spot_of dictionary c ≡ q → entries dictionary b c ≡ entry_between dictionary p q
  entry_is dictionary b c p q hp hq = ap₂ (entry_between dictionary) hp hq

  rows_apart : (dictionary : Dictionary) (k m : ℕ) → nat_eq k m ≡ false → entry_between dictionary (spot.Row k) (spot.Row m) ≡ nothing
  rows_apart dictionary k m h = rw h refl

  own_row : (dictionary : Dictionary) (k : ℕ) → entry_between dictionary (spot.Row k) (spot.Row k) ≡ minus_one
  own_row dictionary k = rw (eq_self k) refl

  pivot_entry : t l e ≡ cell (row_at old i) j
  pivot_entry = entry_is old l e (spot.Row i) (spot.Slot j) l_spot e_spot

  -- ---- the row of the entering column

  abbrev a : Rational
  a = cell (row_at old i) j

  solved_entry : (c : ℕ) (y : Rational) → t l c ≡ y → solved_for t l e c ≡ opposite (divided y a)
  solved_entry c y h = ap₂ (λ (p q : Rational). opposite (divided p q)) h pivot_entry

  solved_leaving : solved_for t l e l ≡ divided one a
  solved_leaving =
      solved_entry l minus_one (entry_is old l l (spot.Row i) (spot.Row i) l_spot l_spot ∙ own_row old i)
      ∙ ap opposite (ap (λ y. times y (inverse a)) minus_one_is ∙ opposite_times one (inverse a)) ∙ opposite_opposite (times one (inverse a))

  solved_entering : solved_for t l e e ≡ minus_one
  solved_entering = solved_entry e a pivot_entry ∙ ap opposite (divided_itself a nonzero) ∙ sym minus_one_is

  new_at : cell (row_at new i) j ≡ divided one a
  new_at = x.solved j slot_in ∙ rw (eq_self j) refl

  new_other : (y : ℕ) → y < length old.outside → nat_eq y j ≡ false → cell (row_at new i) y ≡ opposite (divided (cell (row_at old i) y) a)
  new_other y below h = x.solved y below ∙ rw h refl

  -- what the entering column's row has at each column
  solved_is : (c : ℕ) → c < length old.spots → entries new e c ≡ solved_for t l e c
  solved_is c below = by_cases (nat_eq c e) refl (nat_eq c l) refl
    where
      at_old : nat_eq c e ≡ false → nat_eq c l ≡ false → (s : Spot) → spot_of old c ≡ s → entries new e c ≡ solved_for t l e c
      at_old h k (spot.Row m) s =
          let m_apart : nat_eq i m ≡ false = eq_flip m i (row_apart c m below s k) in
          entry_is new e c (spot.Row i) (spot.Row m) (spot_entering e (eq_self e)) (spot_other c h k ∙ s) ∙ rows_apart new i m m_apart
          ∙ sym (solved_entry c nothing (entry_is old l c (spot.Row i) (spot.Row m) l_spot s ∙ rows_apart old i m m_apart) ∙ ap opposite (nothing_divided a) ∙ opposite_nothing)
      at_old h k (spot.Slot y) s =
          entry_is new e c (spot.Row i) (spot.Slot y) (spot_entering e (eq_self e)) (spot_other c h k ∙ s)
          ∙ new_other y (slot_below c y below s) (slot_apart c y below s h)
          ∙ sym (solved_entry c (cell (row_at old i) y) (entry_is old l c (spot.Row i) (spot.Slot y) l_spot s))

      by_cases : (p : Bool) → nat_eq c e ≡ p → (q : Bool) → nat_eq c l ≡ q → entries new e c ≡ solved_for t l e c
      by_cases true h q k =
          entry_is new e c (spot.Row i) (spot.Row i) (spot_entering e (eq_self e)) (spot_entering c h) ∙ own_row new i
          ∙ sym (ap (solved_for t l e) (eq_is c e h) ∙ solved_entering)
      by_cases false h true k =
          entry_is new e c (spot.Row i) (spot.Slot j) (spot_entering e (eq_self e)) (spot_leaving c h k) ∙ new_at
          ∙ sym (ap (solved_for t l e) (eq_is c l k) ∙ solved_leaving)
      by_cases false h false k = at_old h k (spot_of old c) refl

  -- ---- the rows of the others

  mixed_slot : (k : ℕ) → k < length old.basic → nat_eq k i ≡ false → cell (row_at new k) j ≡ times (cell (row_at new i) j) (cell (row_at old k) j)
  mixed_slot k below h = x.mixed k j below h slot_in ∙ rw (eq_self j) refl

  mixed_other : (k y : ℕ) → k < length old.basic → nat_eq k i ≡ false → y < length old.outside → nat_eq y j ≡ false
      → cell (row_at new k) y ≡ plus (cell (row_at old k) y) (times (cell (row_at new i) y) (cell (row_at old k) j))
  mixed_other k y below h y_below apart = x.mixed k y below h y_below ∙ rw apart refl

  other_is : (b k c : ℕ) → b < length old.spots → nat_eq b e ≡ false → nat_eq b l ≡ false → spot_of old b ≡ spot.Row k → c < length old.spots
      → entries new b c ≡ plus (t b c) (times (solved_for t l e c) (t b e))
  other_is b k c b_below b_e b_l s c_below = by_cases (nat_eq c e) refl (nat_eq c l) refl
    where
      k_below : k < length old.basic
      k_below = row_below b k b_below s

      k_apart : nat_eq k i ≡ false
      k_apart = row_apart b k b_below s b_l

      now : spot_of new b ≡ spot.Row k
      now = spot_other b b_e b_l ∙ s

      at_entering : t b e ≡ cell (row_at old k) j
      at_entering = entry_is old b e (spot.Row k) (spot.Slot j) s e_spot

      at_old : nat_eq c e ≡ false → nat_eq c l ≡ false → (p : Spot) → spot_of old c ≡ p → entries new b c ≡ plus (t b c) (times (solved_for t l e c) (t b e))
      at_old h q (spot.Row m) p =
          let m_apart : nat_eq i m ≡ false = eq_flip m i (row_apart c m c_below p q) in
          let solved_zero : solved_for t l e c ≡ nothing = solved_entry c nothing (entry_is old l c (spot.Row i) (spot.Row m) l_spot p ∙ rows_apart old i m m_apart) ∙ ap opposite (nothing_divided a) ∙ opposite_nothing in
          entry_is new b c (spot.Row k) (spot.Row m) now (spot_other c h q ∙ p) ∙ sym (entry_is old b c (spot.Row k) (spot.Row m) s p)
          ∙ sym (ap (plus (t b c)) (ap (λ y. times y (t b e)) solved_zero ∙ zero_times (t b e)) ∙ plus_zero (t b c))
      at_old h q (spot.Slot y) p =
          let y_below : y < length old.outside = slot_below c y c_below p in
          let y_apart : nat_eq y j ≡ false = slot_apart c y c_below p h in
          entry_is new b c (spot.Row k) (spot.Slot y) now (spot_other c h q ∙ p) ∙ mixed_other k y k_below k_apart y_below y_apart
          ∙ sym (ap₂ plus (entry_is old b c (spot.Row k) (spot.Slot y) s p)
          (ap₂ times (solved_entry c (cell (row_at old i) y) (entry_is old l c (spot.Row i) (spot.Slot y) l_spot p) ∙ sym (new_other y y_below y_apart)) at_entering))

      by_cases : (p : Bool) → nat_eq c e ≡ p → (q : Bool) → nat_eq c l ≡ q → entries new b c ≡ plus (t b c) (times (solved_for t l e c) (t b e))
      by_cases true h q w =
          entry_is new b c (spot.Row k) (spot.Row i) now (spot_entering c h) ∙ rows_apart new k i k_apart
          ∙ sym (ap₂ (λ (p q : Rational). plus p (times q (t b e))) (ap (t b) (eq_is c e h)) (ap (solved_for t l e) (eq_is c e h) ∙ solved_entering) ∙ ap (plus (t b e)) (minus_one_times (t b e)) ∙ plus_opposite (t b e))
      by_cases false h true w =
          entry_is new b c (spot.Row k) (spot.Slot j) now (spot_leaving c h w) ∙ mixed_slot k k_below k_apart
          ∙ sym (ap₂ plus (ap (t b) (eq_is c l w) ∙ entry_is old b l (spot.Row k) (spot.Row i) s l_spot ∙ rows_apart old k i k_apart)
          (ap₂ times (ap (solved_for t l e) (eq_is c l w) ∙ solved_leaving ∙ sym new_at) at_entering)
          ∙ zero_plus (times (cell (row_at new i) j) (cell (row_at old k) j)))
      by_cases false h false w = at_old h w (spot_of old c) refl

  pivot_other : (b c : ℕ) → nat_eq b e ≡ false → pivot t l e b c ≡ plus (t b c) (times (solved_for t l e c) (t b e))
  pivot_other b c h = rw h refl

  pivot_same : (b c : ℕ) → nat_eq b e ≡ true → pivot t l e b c ≡ solved_for t l e c
  pivot_same b c h = rw h refl

  -- the exchange is the pivot, at each column that is in the basis now
  pub is_pivot : (b c : ℕ) → b < length old.spots → is_basic (places new b) ≡ true → c < length old.spots → entries new b c ≡ pivot t l e b c
  is_pivot b c b_below basic c_below = by_cases (nat_eq b e) refl (nat_eq b l) refl
    where
      at_old : nat_eq b e ≡ false → nat_eq b l ≡ false → (s : Spot) → spot_of old b ≡ s → entries new b c ≡ pivot t l e b c
      at_old h k (spot.Row m) s = other_is b m c b_below h k s c_below ∙ sym (pivot_other b c h)
      at_old h k (spot.Slot y) s = absurd (false≢true (sym (ap (λ p. is_basic (place_of p)) (spot_other b h k ∙ s)) ∙ basic))

      by_cases : (p : Bool) → nat_eq b e ≡ p → (q : Bool) → nat_eq b l ≡ q → entries new b c ≡ pivot t l e b c
      by_cases true h q k = ap (λ y. entries new y c) (eq_is b e h) ∙ solved_is c c_below ∙ sym (pivot_same b c h)
      by_cases false h true k = absurd (false≢true (sym (ap (λ p. is_basic (place_of p)) (spot_leaving b h k)) ∙ basic))
      by_cases false h false k = at_old h k (spot_of old b) refl

  -- ---- what the exchange leaves is a dictionary

  basic_here : basic_at new i ≡ e
  basic_here = ap (λ s. slice_index_or s i 0) x.basic ∙ get_or-set_same old.basic i e 0 row_in

  basic_else : (k : ℕ) → nat_eq k i ≡ false → basic_at new k ≡ basic_at old k
  basic_else k h = ap (λ s. slice_index_or s k 0) x.basic ∙ get_or-set_other old.basic i k e 0 (differ_of k i h)

  outside_here : outside_at new j ≡ l
  outside_here = ap (λ s. slice_index_or s j 0) x.outside ∙ get_or-set_same old.outside j l 0 slot_in

  outside_else : (y : ℕ) → nat_eq y j ≡ false → outside_at new y ≡ outside_at old y
  outside_else y h = ap (λ s. slice_index_or s y 0) x.outside ∙ get_or-set_other old.outside j y l 0 (differ_of y j h)

  basic_count : length new.basic ≡ length old.basic
  basic_count = ap (λ s. length s) x.basic ∙ length-set old.basic i e

  outside_count : length new.outside ≡ length old.outside
  outside_count = ap (λ s. length s) x.outside ∙ length-set old.outside j l

  pub spot_count : length new.spots ≡ length old.spots
  spot_count = ap (λ s. length s) x.spots ∙ length-set (slice_set old.spots l (spot.Slot j)) e (spot.Row i) ∙ length-set old.spots l (spot.Slot j)

  rows_said : (k : ℕ) → k < length old.basic → IsColumn new (basic_at new k) (spot.Row k)
  rows_said k below = by_case (nat_eq k i) refl
    where
      row_number : Spot → ℕ
      row_number (spot.Row m) = m
      row_number (spot.Slot m) = m

      row_one : spot.Row k ≡ spot.Row i → k ≡ i
      row_one h = ap row_number h

      by_case : (p : Bool) → nat_eq k i ≡ p → IsColumn new (basic_at new k) (spot.Row k)
      by_case true h =
          let is : basic_at new k ≡ e = ap (basic_at new) (eq_is k i h) ∙ basic_here in (
            subst (λ (y : ℕ). basic_at new k < y) (sym spot_count) (subst (λ (y : ℕ). y < length old.spots) (sym is) (d.slots j slot_in).0),
            ap (spot_of new) is ∙ spot_entering e (eq_self e) ∙ ap spot.Row (sym (eq_is k i h)),
          )
      by_case false h =
          let is : basic_at new k ≡ basic_at old k = basic_else k h in
          let s : spot_of old (basic_at old k) ≡ spot.Row k = (d.rows k below).1 in (
            subst (λ (y : ℕ). basic_at new k < y) (sym spot_count) (subst (λ (y : ℕ). y < length old.spots) (sym is) (d.rows k below).0),
            ap (spot_of new) is ∙ spot_other (basic_at old k)
                (false_of (basic_at old k) e (λ same. row≢slot k j (sym s ∙ ap (spot_of old) same ∙ e_spot)))
                (false_of (basic_at old k) l (λ same. differ_of k i h (row_one (sym s ∙ ap (spot_of old) same ∙ l_spot)))) ∙ s,
          )

  slots_said : (y : ℕ) → y < length old.outside → IsColumn new (outside_at new y) (spot.Slot y)
  slots_said y below = by_case (nat_eq y j) refl
    where
      slot_number : Spot → ℕ
      slot_number (spot.Row m) = m
      slot_number (spot.Slot m) = m

      slot_one : spot.Slot y ≡ spot.Slot j → y ≡ j
      slot_one h = ap slot_number h

      by_case : (p : Bool) → nat_eq y j ≡ p → IsColumn new (outside_at new y) (spot.Slot y)
      by_case true h =
          let is : outside_at new y ≡ l = ap (outside_at new) (eq_is y j h) ∙ outside_here in (
            subst (λ (k : ℕ). outside_at new y < k) (sym spot_count) (subst (λ (k : ℕ). k < length old.spots) (sym is) (d.rows i row_in).0),
            ap (spot_of new) is ∙ spot_leaving l apart (eq_self l) ∙ ap spot.Slot (sym (eq_is y j h)),
          )
      by_case false h =
          let is : outside_at new y ≡ outside_at old y = outside_else y h in
          let s : spot_of old (outside_at old y) ≡ spot.Slot y = (d.slots y below).1 in (
            subst (λ (k : ℕ). outside_at new y < k) (sym spot_count) (subst (λ (k : ℕ). k < length old.spots) (sym is) (d.slots y below).0),
            ap (spot_of new) is ∙ spot_other (outside_at old y)
                (false_of (outside_at old y) e (λ same. differ_of y j h (slot_one (sym s ∙ ap (spot_of old) same ∙ e_spot))))
                (false_of (outside_at old y) l (λ same. row≢slot i y (sym l_spot ∙ ap (spot_of old) (sym same) ∙ s))) ∙ s,
          )

  columns_said : (c : ℕ) → c < length old.spots → IsSpot new c (spot_of new c)
  columns_said c below = by_cases (nat_eq c e) refl (nat_eq c l) refl
    where
      at_old : nat_eq c e ≡ false → nat_eq c l ≡ false → (s : Spot) → spot_of old c ≡ s → IsSpot new c s
      at_old h k (spot.Row m) s =
          (subst (λ (y : ℕ). m < y) (sym basic_count) (row_below c m below s), basic_else m (row_apart c m below s k) ∙ (subst (IsSpot old c) s (d.columns c below)).1)
      at_old h k (spot.Slot y) s =
          (subst (λ (m : ℕ). y < m) (sym outside_count) (slot_below c y below s), outside_else y (slot_apart c y below s h) ∙ (subst (IsSpot old c) s (d.columns c below)).1)

      by_cases : (p : Bool) → nat_eq c e ≡ p → (q : Bool) → nat_eq c l ≡ q → IsSpot new c (spot_of new c)
      by_cases true h q k =
          subst (IsSpot new c) (sym (spot_entering c h)) (subst (λ (y : ℕ). i < y) (sym basic_count) row_in, basic_here ∙ sym (eq_is c e h))
      by_cases false h true k =
          subst (IsSpot new c) (sym (spot_leaving c h k)) (subst (λ (y : ℕ). j < y) (sym outside_count) slot_in, outside_here ∙ sym (eq_is c l k))
      by_cases false h false k = subst (IsSpot new c) (sym (spot_other c h k)) (at_old h k (spot_of old c) refl)

  pub stays_dictionary : IsDictionary new
  stays_dictionary = record {
    count = spot_count ∙ d.count ∙ sym (ap₂ (λ (p q : ℕ). p + q) outside_count basic_count);
    row_count = x.row_count ∙ d.row_count ∙ sym basic_count;
    widths = λ k h. x.widths k (subst (λ (y : ℕ). k < y) basic_count h) ∙ d.widths k (subst (λ (y : ℕ). k < y) basic_count h) ∙ sym outside_count;
    rows = λ k h. rows_said k (subst (λ (y : ℕ). k < y) basic_count h);
    slots = λ y h. slots_said y (subst (λ (k : ℕ). y < k) outside_count h);
    columns = λ c h. columns_said c (subst (λ (y : ℕ). c < y) spot_count h);
    solved_width = x.solved_width ∙ d.solved_width ∙ sym outside_count;
  }
