-- Room for one bound more.
use Rattle.std.proofs.Common.{◌≡◌, ℕ, suc, ◌+◌, ◌<◌, ◌≤◌, Bool, true, false, ◌&&◌, ◌||◌, List, [], ◌∷◌, map, length, nat_eq, nat_lt, Option, Some, None, refl, sym, ap, ◌∙◌, subst, arith, if◌then◌else◌}
use Rattle.std.specs.List.{AllByRecursion, IsDistinct, list_all, list_any}
use Rattle.std.proofs.Math.Dec.{eqb}
use Rattle.std.proofs.lemmas.Bool.{eqb-true, false≢true}
use Rattle.std.proofs.lemmas.Bool.Decides.{nat_tests}
use Rattle.std.proofs.lemmas.List.{length-map}
use Rattle.std.proofs.lemmas.Map.Keys.{IsDistinct-cons}
use Rattle.std.proofs.lemmas.Map.Steps.{length-le_from_distinct_below}
use Rattle.spv_frac.specs.rational.Rational.{Rational}
use Rattle.spv_tableau_rules.specs.declared.tableaux.side.Side.{Side}
use Rattle.spv_tableau_rules.specs.declared.tableaux.side.Side.TheVariants.{Lower, Upper}
use Rattle.spv_tableau_rules.specs.tableaux.Bounds.{Bound, are_apart, bound_on, is_none, other_side, same_side}
use Rattle.spv_tableau_rules.proofs.pivots.Sums.{eq_self}
use Rattle.spv_tableau_rules.proofs.pivots.Tests.{and_both, and_left, and_right}
use Rattle.spv_dictionary.specs.pivoting.Trail.{bound_of}
use Rattle.spv_tableau_rules.specs.tableaux.Operations.{fits}
use Rattle.spv_simplex.specs.State.{IsTableau, IsUncomparable, LeavesValue, MayAssert, State, clashes, compared}
use Rattle.spv_arithmetic_side.specs.constraint_rows.Said.{LeavesRoom}

-- ---- one number for each side of each row

abbrev side_code : Side → ℕ
side_code Lower = 0
side_code Upper = 1

abbrev code : Bound → ℕ
code b = (b.row + b.row) + side_code b.side

same_row : (r s : ℕ) → r ≡ s → nat_eq s r ≡ true
same_row r s e = subst (λ (n : ℕ). nat_eq n r ≡ true) e (eq_self r)

same_code : (r s : ℕ) (x y : Side) → (r + r) + side_code x ≡ (s + s) + side_code y → (nat_eq s r && same_side y x) ≡ true
same_code r s Lower Lower e = and_both (nat_eq s r) true (same_row r s (halves r s e)) refl
  where
    halves : (r s : ℕ) → (r + r) + 0 ≡ (s + s) + 0 → r ≡ s
    halves r s e = omega arith
same_code r s Upper Upper e = and_both (nat_eq s r) true (same_row r s (halves r s e)) refl
  where
    halves : (r s : ℕ) → (r + r) + 1 ≡ (s + s) + 1 → r ≡ s
    halves r s e = omega arith
same_code r s Lower Upper e = absurd (odd r s e)
  where
    odd : (r s : ℕ) → (r + r) + 0 ≡ (s + s) + 1 → ⊥
    odd r s e = omega arith
same_code r s Upper Lower e = absurd (odd r s e)
  where
    odd : (r s : ℕ) → (r + r) + 1 ≡ (s + s) + 0 → ⊥
    odd r s e = omega arith

apart_code : (b d : Bound) → (nat_eq d.row b.row && same_side d.side b.side) ≡ false → eqb (code b) (code d) ≡ false
apart_code b d h = by_case (eqb (code b) (code d)) refl
  where
    by_case : (t : Bool) → eqb (code b) (code d) ≡ t → eqb (code b) (code d) ≡ false
    by_case false e = e
    by_case true e = absurd (false≢true (sym h ∙ same_code b.row d.row b.side d.side (eqb-true (code b) (code d) e)))

all_apart : (b : Bound) (bounds : List Bound) → is_none (bound_on bounds b.row b.side) ≡ true → AllByRecursion (λ y. eqb (code b) y ≡ false) (map code bounds)
all_apart b [] h = tt
all_apart b (d ∷ bounds) h = by_case (nat_eq d.row b.row && same_side d.side b.side) refl h (λ k. all_apart b bounds k)
  where
    by_case : (t : Bool) → (nat_eq d.row b.row && same_side d.side b.side) ≡ t → is_none (if t then Some d.value else bound_on bounds b.row b.side) ≡ true → (is_none (bound_on bounds b.row b.side) ≡ true → AllByRecursion (λ y. eqb (code b) y ≡ false) (map code bounds))
        → AllByRecursion (λ y. eqb (code b) y ≡ false) (map code (d ∷ bounds))
    by_case true e k rest = absurd (false≢true k)
    by_case false e k rest = (apart_code b d e, rest k)

distinct : (bounds : List Bound) → are_apart bounds ≡ true → IsDistinct eqb (map code bounds)
unfolding IsDistinct
distinct [] h = tt
distinct (b ∷ bounds) h = IsDistinct-cons eqb (code b) (map code bounds) (all_apart b bounds (and_left (is_none (bound_on bounds b.row b.side)) (are_apart bounds) h)) (distinct bounds (and_right (is_none (bound_on bounds b.row b.side)) (are_apart bounds) h))

code_below : (n : ℕ) (b : Bound) → nat_lt b.row n ≡ true → code b < n + n
code_below n b h = by_side b.side (below b.row n h)
  where
    below : (r n : ℕ) → nat_lt r n ≡ true → r < n
    below r n h = grind (arith, nat_tests)

    by_side : (x : Side) → b.row < n → (b.row + b.row) + side_code x < n + n
    by_side Lower k = omega arith
    by_side Upper k = omega arith

codes_below : (n : ℕ) (bounds : List Bound) (q : ℕ) → list_all (λ (x : Bound). nat_lt x.row n) bounds ≡ true → list_any (eqb q) (map code bounds) ≡ true → q < n + n
codes_below n [] q h k = absurd (false≢true k)
codes_below n (b ∷ bounds) q h k = by_case (eqb q (code b)) refl k (λ j. codes_below n bounds q (and_right (nat_lt b.row n) (list_all (λ (x : Bound). nat_lt x.row n) bounds) h) j)
  where
    by_case : (t : Bool) → eqb q (code b) ≡ t → (t || list_any (eqb q) (map code bounds)) ≡ true → (list_any (eqb q) (map code bounds) ≡ true → q < n + n) → q < n + n
    by_case true e j rest = subst (λ (m : ℕ). m < n + n) (sym (eqb-true q (code b) e)) (code_below n b (and_left (nat_lt b.row n) (list_all (λ (x : Bound). nat_lt x.row n) bounds) h))
    by_case false e j rest = rest j

-- at most two bounds for each row
few : (n : ℕ) (bounds : List Bound) → list_all (λ (x : Bound). nat_lt x.row n) bounds ≡ true → are_apart bounds ≡ true → length bounds ≤ n + n
few n bounds inside apart =
    let h = length-le_from_distinct_below (map code bounds) (n + n) (distinct bounds apart) (λ q k. codes_below n bounds q inside k) in
    let l : length (map code bounds) ≡ length bounds = length-map bounds code in
    subst (λ (m : ℕ). m ≤ n + n) l h

-- ---- whether a bound may be asserted

module _ (s : State) (kept : IsTableau s) (room : s.trail ≡ length s.forms + length s.forms) (row : ℕ) (side : Side) (value : Rational) where
  more : row < length s.forms → bound_on s.bounds row side ≡ None → length s.bounds < s.trail
  more inside free =
      let h : suc (length s.bounds) ≤ length s.forms + length s.forms =
      few (length s.forms) (bound_of row side value ∷ s.bounds) (and_both (nat_lt row (length s.forms)) (list_all (λ (x : Bound). nat_lt x.row (length s.forms)) s.bounds) (within row (length s.forms) inside) kept.bounds.in_range)
      (and_both (is_none (bound_on s.bounds row side)) (are_apart s.bounds) (ap is_none free) kept.bounds.apart) in
      subst (λ (m : ℕ). length s.bounds < m) (sym room) (omega (arith, h))
    where
      within : (r n : ℕ) → r < n → nat_lt r n ≡ true
      within r n h = grind (arith, nat_tests)

  leaves_value : (o : Option Rational) → LeavesRoom side value o → LeavesValue side value o
  leaves_value None h other e = absurd (nothing other e)
    where
      nothing : (x : Rational) → None ≡ Some x → ⊥
      nothing x e = cc
  leaves_value (Some x) h other e = subst (λ (y : Rational). clashes side value y ≡ false) (some_is x other e) h.0
    where
      some_is : (x y : Rational) → Some x ≡ Some y → x ≡ y
      some_is x y e = cc

  pub may_now : row < length s.forms → bound_on s.bounds row side ≡ None → LeavesRoom side value (bound_on s.bounds row (other_side side)) → MayAssert s (bound_of row side value)
  may_now inside free leaves = record {
    row_in = inside;
    room = more inside free;
    free = free;
    ordered = leaves_value (bound_on s.bounds row (other_side side)) leaves;
  }

-- where it leaves a value, the two can be compared
pub comparable : (side : Side) (value : Rational) (o : Option Rational) → LeavesRoom side value o → IsUncomparable side value o → ⊥
comparable side value None h u = nothing u.other u.there
  where
    nothing : (x : Rational) → None ≡ Some x → ⊥
    nothing x e = cc
comparable side value (Some x) h u =
    let same : x ≡ u.other = some_is x u.other u.there in
    false≢true (sym u.unfit ∙ subst (λ (y : Rational). fits (compared side value y) ≡ true) same h.1)
  where
    some_is : (x y : Rational) → Some x ≡ Some y → x ≡ y
    some_is x y e = cc
