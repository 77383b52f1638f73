-- What is refused is an operation of the pivot.
use Rattle.std.proofs.Common.{◌≡◌, ℕ, ◌<◌, Bool, true, false, List, length, nat_eq, refl, sym, ap, ◌∙◌, subst}
use mathlib.Core.Path.{ap₂}
use Rattle.spv_frac.specs.rational.Rational.{Rational, times, opposite}
use Rattle.spv_frac.specs.declared.frac.Op.TheVariants.{Add, Mul, Div}
use Rattle.spv_tableau_rules.specs.tableaux.Numbers.{one, minus_one, inverse, divided}
use Rattle.spv_tableau_rules.specs.tableaux.Rows.{Rows, columns}
use Rattle.spv_tableau_rules.specs.tableaux.Solved.{is_basic, Entries, solved_for}
use Rattle.spv_tableau_rules.specs.tableaux.Operations.{Operation, operation, Pivots}
use Rattle.spv_tableau_rules.specs.tableaux.Operations as pivots
use Rattle.spv_tableau_rules.proofs.pivots.Algebra.{minus_one_is, opposite_times, opposite_opposite}
use Rattle.spv_tableau_rules.proofs.pivots.Sums.{eq_is, eq_self}
use Rattle.spv_dictionary.specs.declared.spot.Spot.{Spot}
use Rattle.spv_dictionary.specs.declared.spot.Spot.TheVariants as spot
use Rattle.spv_dictionary.specs.Cells.{cell}
use Rattle.spv_dictionary.specs.Dictionary.{Dictionary, IsDictionary, spot_of, basic_at, outside_at, row_at, entry_between, entries, place_of, places}
use Rattle.spv_dictionary.specs.Exchanges.{solved_at}
use Rattle.spv_dictionary.specs.Mixing.{IsMixing, scaling, adding, IsSolving, inverting, dividing, IsSolved, IsRowMixing, IsExchanging, solving, mixing}
use Rattle.spv_dictionary.specs.Laws.{RefusesPivot}
use Rattle.spv_dictionary.proofs.Exchanging.{differ_of, false_of, row≢slot}

module _ (rows : Rows) (d : Dictionary) (i j : ℕ) (known : IsDictionary d) (count : columns rows ≡ length d.spots) (row_in : i < length d.basic) (slot_in : j < length d.outside) where
  abbrev l : ℕ
  l = basic_at d i

  abbrev e : ℕ
  e = outside_at d j

  abbrev t : Entries
  t = entries d

  l_spot : spot_of d l ≡ spot.Row i
  l_spot = (known.rows i row_in).1

  e_spot : spot_of d e ≡ spot.Slot j
  e_spot = (known.slots j slot_in).1

  entry_is : (b c k x : ℕ) → spot_of d b ≡ spot.Row k → spot_of d c ≡ spot.Slot x → t b c ≡ cell (row_at d k) x
  entry_is b c k x hb hc = ap₂ (entry_between d) hb hc

  pivot_entry : t l e ≡ cell (row_at d i) j
  pivot_entry = entry_is l e i j l_spot e_spot

  own : t l l ≡ minus_one
  own = ap₂ (entry_between d) l_spot l_spot ∙ rw (eq_self i) refl

  inside : (c : ℕ) → c < length d.spots → c < columns rows
  inside c h = subst (λ (n : ℕ). c < n) (sym count) h

  abbrev slot_number : Spot → ℕ
  slot_number (spot.Row m) = m
  slot_number (spot.Slot m) = m

  -- the column of another slot
  slot_in_range : (x : ℕ) → x < length d.outside → outside_at d x < columns rows
  slot_in_range x h = inside (outside_at d x) (known.slots x h).0

  slot_out : (x : ℕ) → x < length d.outside → is_basic (places d (outside_at d x)) ≡ false
  slot_out x h = ap (λ s. is_basic (place_of s)) (known.slots x h).1

  slot_apart : (x : ℕ) → x < length d.outside → nat_eq x j ≡ false → nat_eq (outside_at d x) e ≡ false
  slot_apart x h k = false_of (outside_at d x) e (λ same. differ_of x j k (ap slot_number (sym (known.slots x h).1 ∙ ap (spot_of d) same ∙ e_spot)))

  leaving_apart : nat_eq l e ≡ false
  leaving_apart = false_of l e (λ h. row≢slot i j (sym l_spot ∙ ap (spot_of d) h ∙ e_spot))

  -- the column of another row
  row_in_range : (k : ℕ) → k < length d.basic → basic_at d k < columns rows
  row_in_range k h = inside (basic_at d k) (known.rows k h).0

  row_basic : (k : ℕ) → k < length d.basic → is_basic (places d (basic_at d k)) ≡ true
  row_basic k h = ap (λ s. is_basic (place_of s)) (known.rows k h).1

  row_apart : (k : ℕ) → k < length d.basic → nat_eq k i ≡ false → nat_eq (basic_at d k) l ≡ false
  row_apart k h other = false_of (basic_at d k) l (λ same. differ_of k i other (ap slot_number (sym (known.rows k h).1 ∙ ap (spot_of d) same ∙ l_spot)))

  solved_other : (x : ℕ) → x < length d.outside → nat_eq x j ≡ false → solved_for t l e (outside_at d x) ≡ solved_at (row_at d i) j x
  solved_other x h k =
      ap₂ (λ (p q : Rational). opposite (divided p q)) (entry_is l (outside_at d x) i x l_spot (known.slots x h).1) pivot_entry ∙ sym (rw k refl)

  solved_leaving : solved_for t l e l ≡ solved_at (row_at d i) j j
  solved_leaving =
      ap₂ (λ (p q : Rational). opposite (divided p q)) own pivot_entry
      ∙ ap opposite (ap (λ y. times y (inverse (cell (row_at d i) j))) minus_one_is ∙ opposite_times one (inverse (cell (row_at d i) j)))
      ∙ opposite_opposite (times one (inverse (cell (row_at d i) j))) ∙ sym (rw (eq_self j) refl)

  of_solving : (o : Operation) → IsSolving (row_at d i) j o → Pivots rows (places d) t l e o
  of_solving o inverting = subst (λ (p : Rational). Pivots rows (places d) t l e (operation Div one p)) pivot_entry pivots.inverting
  of_solving o (dividing x below other) =
      let h : x < length d.outside = subst (λ (n : ℕ). x < n) (known.widths i row_in) below in
      subst (λ (p : Rational). Pivots rows (places d) t l e (operation Div (cell (row_at d i) x) p)) pivot_entry
      (subst (λ (p : Rational). Pivots rows (places d) t l e (operation Div p (t l e))) (entry_is l (outside_at d x) i x l_spot (known.slots x h).1)
      (pivots.dividing (outside_at d x) (slot_in_range x h) (slot_out x h) (slot_apart x h other)))

  module _ (k : ℕ) (k_in : k < length d.basic) (other : nat_eq k i ≡ false) (solved : List Rational) (s : IsSolved (row_at d i) solved j) where
    abbrev b : ℕ
    b = basic_at d k

    at_entering : t b e ≡ cell (row_at d k) j
    at_entering = entry_is b e k j (known.rows k k_in).1 e_spot

    in_row : (x : ℕ) → x < length d.outside → x < length (row_at d i)
    in_row x h = subst (λ (n : ℕ). x < n) (sym (known.widths i row_in)) h

    scales : (x : ℕ) → x < length d.outside → (c : Bool) → nat_eq x j ≡ c → Pivots rows (places d) t l e (operation Mul (cell solved x) (cell (row_at d k) j))
    scales x h true c =
        subst (λ (p : Rational). Pivots rows (places d) t l e (operation Mul p (cell (row_at d k) j))) (solved_leaving ∙ sym (ap (cell solved) (eq_is x j c) ∙ s.each j (in_row j slot_in)))
        (subst (λ (p : Rational). Pivots rows (places d) t l e (operation Mul (solved_for t l e l) p)) at_entering
        (pivots.scaling b l (row_in_range k k_in) (row_basic k k_in) (row_apart k k_in other) (row_in_range i row_in) leaving_apart))
    scales x h false c =
        subst (λ (p : Rational). Pivots rows (places d) t l e (operation Mul p (cell (row_at d k) j))) (solved_other x h c ∙ sym (s.each x (in_row x h)))
        (subst (λ (p : Rational). Pivots rows (places d) t l e (operation Mul (solved_for t l e (outside_at d x)) p)) at_entering
        (pivots.scaling b (outside_at d x) (row_in_range k k_in) (row_basic k k_in) (row_apart k k_in other) (slot_in_range x h) (slot_apart x h c)))

    adds : (x : ℕ) → x < length d.outside → nat_eq x j ≡ false
        → Pivots rows (places d) t l e (operation Add (cell (row_at d k) x) (times (cell solved x) (cell (row_at d k) j)))
    adds x h c =
        subst (λ (p : Rational). Pivots rows (places d) t l e (operation Add (cell (row_at d k) x) p)) (ap₂ times (solved_other x h c ∙ sym (s.each x (in_row x h))) at_entering)
        (subst (λ (p : Rational). Pivots rows (places d) t l e (operation Add p (times (solved_for t l e (outside_at d x)) (t b e)))) (entry_is b (outside_at d x) k x (known.rows k k_in).1 (known.slots x h).1)
        (pivots.adding b (outside_at d x) (row_in_range k k_in) (row_basic k k_in) (row_apart k k_in other) (slot_in_range x h) (slot_out x h) (slot_apart x h c)))

    of_place : (x : ℕ) → x < length d.outside → (o : Operation) → IsMixing (nat_eq x j) (cell (row_at d k) x) (cell solved x) (cell (row_at d k) j) o → Pivots rows (places d) t l e o
    of_place x h o scaling = scales x h (nat_eq x j) refl
    of_place x h o (adding c) = adds x h c

    of_row : (o : Operation) → IsRowMixing (row_at d k) solved j o → Pivots rows (places d) t l e o
    of_row o (mixing x _ below m) = of_place x (subst (λ (n : ℕ). x < n) (known.widths k k_in) below) o m

  of_exchanging : (solved : List Rational) (o : Operation) → IsExchanging d.cells solved i j o → Pivots rows (places d) t l e o
  of_exchanging solved o (solving s) = of_solving o s
  of_exchanging solved o (mixing s m) =
      of_row m.row (subst (λ (n : ℕ). m.row < n) known.row_count m.row_in) m.other solved s o m.mixing

pub refuses_pivot : RefusesPivot
refuses_pivot rows d i j o known count row_in slot_in r = of_exchanging rows d i j known count row_in slot_in r.solved o r.exchanging
