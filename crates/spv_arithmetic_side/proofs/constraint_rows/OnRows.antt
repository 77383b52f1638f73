-- What stands on a row.
use Rattle.std.proofs.Common.{◌≡◌, ℕ, ◌<◌, true, false, ℤ, pos, ◌<ℤ◌, unsigned_abs, ◌++◌, length, refl, sym, ap, ◌∙◌, subst, Option, Some, None}
use Rattle.std.proofs.lemmas.Option.{same_Some}
use Rattle.std.specs.Prelude.{slice_get}
use Rattle.std.specs.Option.{option_map}
use mir.Val.{to_z, of_z}
use mir.Syntax.{w128}
use Rattle.spv_whole.specs.Fraction.{Fraction, IsLowest}
use Rattle.spv_whole.proofs.Ring.{pos-unsigned_abs}
use Rattle.spv_frac.proofs.rational.Field.{number_is}
use Rattle.spv_frac.specs.rational.Rational.{Rational, number}
use Rattle.spv_atoms.specs.Linear.{IdForm}
use Rattle.spv_tableau_rules.specs.declared.tableaux.side.Side.{Side}
use Rattle.spv_tableau_rules.specs.declared.tableaux.side.Side.TheVariants.{Lower, Upper}
use Rattle.spv_tableau_rules.specs.tableaux.Rows.{column_of}
use Rattle.spv_tableau_rules.specs.tableaux.Bounds.{Bound, bound_on, breaks}
use Rattle.spv_simplex.specs.State.{kept_point, rows_in}
use Rattle.spv_tableau_rules.specs.declared.constraints.saying.RowConstraint.{RowConstraint}
use Rattle.spv_tableau_rules.specs.constraints.Sayings.{bounds_of}
use Rattle.spv_tableau_rules.proofs.constraints.Bounding.{bound_is_on}
use Rattle.spv_arithmetic_side.specs.declared.bounds.bounds.Bounds.{Bounds}
use Rattle.spv_arithmetic_side.specs.bounds.Bounds.{bound_at, bounds_in, has_room}
use Rattle.spv_arithmetic_side.specs.bounds.Laws.{LowerIsFound, UpperIsFound}
use Rattle.spv_arithmetic_side.specs.declared.constraint_rows.standing.Standing.{Standing}
use Rattle.spv_arithmetic_side.specs.constraint_rows.Standing.{IsMet, KeepsWithin, Stands, StandsOn}
use Rattle.spv_dictionary.specs.pivoting.Trail.{bound_of}
use Rattle.spv_arithmetic_side.proofs.constraint_rows.Forms.{form_at}
use Rattle.spv_arithmetic_side.proofs.constraint_rows.Adding.{constant_is}

-- a bound that is one has a property of its value, if each that is one has it
by_bound : (P : Rational → Type 0) (o : Option Fraction) → ((w : Fraction) → o ≡ Some w → P (number w)) → (v : Rational) → option_map number o ≡ Some v → P v
by_bound P None h v e = absurd (cc)
by_bound P (Some w) h v e = subst P (same_Some (number w) v e) (h w refl)

-- what is so on both sides of a row is so of each bound of a saying
by_sides : LowerIsFound → UpperIsFound → (P : Side → Rational → Type 0) (row : ℕ) (x : RowConstraint) (z : ℤ) (bs : Bounds) (f : IdForm) → z ≡ f.constant → has_room z ≡ true → ((row : ℕ) → bounds_in row bs ≡ bounds_of row (to_z w128 (of_z w128 z)) x)
    → ((w : Fraction) → bs.lower ≡ Some w → P Lower (number w)) → ((w : Fraction) → bs.upper ≡ Some w → P Upper (number w)) → (j : ℕ) (bound : Bound) → slice_get (bounds_of row f.constant x) j ≡ Some bound → P bound.side bound.value
by_sides lower upper P row x z bs f constant room are low high j bound there = by_side bound.side bound.value (bound_is_on row f.constant x j bound there)
  where
    found : (side : Side) (v : Rational) → bound_on (bounds_of row f.constant x) row side ≡ Some v → bound_on (bounds_in row bs) row side ≡ Some v
    found side v e = ap (λ xs. bound_on xs row side) (are row ∙ ap (λ y. bounds_of row y x) (constant_is z f.constant room constant)) ∙ e

    by_side : (side : Side) (v : Rational) → bound_on (bounds_of row f.constant x) row side ≡ Some v → P side v
    by_side Lower v e = by_bound (P Lower) bs.lower low v (sym (lower row bs) ∙ found Lower v e)
    by_side Upper v e = by_bound (P Upper) bs.upper high v (sym (upper row bs) ∙ found Upper v e)

stands_on : (b : Standing) (row : ℕ) (side : Side) (o : Option Fraction) → StandsOn b row side o → (w : Fraction) → o ≡ Some w → bound_on b.tableau.bounds row side ≡ Some (number w)
stands_on b row side None h w e = absurd (cc)
stands_on b row side (Some v) h w e = h ∙ ap (λ k. Some (number k)) (same_Some v w e)

pub all_stand : LowerIsFound → UpperIsFound → (b : Standing) (row : ℕ) (x : RowConstraint) (z : ℤ) (bs : Bounds) → ((f : IdForm) → slice_get b.tableau.forms row ≡ Some f → z ≡ f.constant) → has_room z ≡ true
    → ((row : ℕ) → bounds_in row bs ≡ bounds_of row (to_z w128 (of_z w128 z)) x) → StandsOn b row Lower bs.lower → StandsOn b row Upper bs.upper → Stands b row x
all_stand lower upper b row x z bs constant room are low high = record {
  each = λ f at. by_sides lower upper (λ side v. bound_on b.tableau.bounds row side ≡ Some v) row x z bs f (constant f at) room are (stands_on b row Lower bs.lower low) (stands_on b row Upper bs.upper high);
}

-- fractions of one number are one
pub same_fractions : (f g : Fraction) → IsLowest f → IsLowest g → number f ≡ number g → f ≡ g
same_fractions f g lf lg e = sym (number_is f lf) ∙ (ap (λ (r : Rational). r.fraction) e ∙ number_is g lg)

pub same_den : (z w : ℤ) → (pos 0 <ℤ z) → (pos 0 <ℤ w) → unsigned_abs z ≡ unsigned_abs w → z ≡ w
same_den z w h k e = sym (pos-unsigned_abs z h) ∙ (ap (λ (n : ℕ). pos n) e ∙ pos-unsigned_abs w k)

-- and each side of a saying that stands
module _ (lower : LowerIsFound) (upper : UpperIsFound) (b : Standing) (row : ℕ) (x : RowConstraint) (z : ℤ) (bs : Bounds) (constant : (f : IdForm) → slice_get b.tableau.forms row ≡ Some f → z ≡ f.constant) (room : has_room z ≡ true)
    (are : (row : ℕ) → bounds_in row bs ≡ bounds_of row (to_z w128 (of_z w128 z)) x) (inside : row < length b.tableau.forms) (stands : Stands b row x) where
  form : (f : IdForm) × (slice_get b.tableau.forms row ≡ Some f)
  form = form_at b.tableau.forms row inside

  here : bounds_in row bs ≡ bounds_of row (form.0).constant x
  here = are row ∙ ap (λ y. bounds_of row y x) (constant_is z (form.0).constant room (constant form.0 form.1))

  item : (j : ℕ) (bound : Bound) → slice_get (bounds_in row bs) j ≡ Some bound → bound_on b.tableau.bounds row bound.side ≡ Some bound.value
  item j bound there = stands.each form.0 form.1 j bound (ap (λ xs. slice_get xs j) (sym here) ∙ there)

  lower_item : (l u : Option Fraction) → ((j : ℕ) (bound : Bound) → slice_get (bound_at row Lower l ++ bound_at row Upper u) j ≡ Some bound → bound_on b.tableau.bounds row bound.side ≡ Some bound.value) → StandsOn b row Lower l
  lower_item None u each = tt
  lower_item (Some v) u each = each 0 (bound_of row Lower (number v)) refl

  upper_item : (l u : Option Fraction) → ((j : ℕ) (bound : Bound) → slice_get (bound_at row Lower l ++ bound_at row Upper u) j ≡ Some bound → bound_on b.tableau.bounds row bound.side ≡ Some bound.value) → StandsOn b row Upper u
  upper_item l None each = tt
  upper_item None (Some v) each = each 0 (bound_of row Upper (number v)) refl
  upper_item (Some w) (Some v) each = each 1 (bound_of row Upper (number v)) refl

  pub stand_lower : StandsOn b row Lower bs.lower
  stand_lower = lower_item bs.lower bs.upper item

  pub stand_upper : StandsOn b row Upper bs.upper
  stand_upper = upper_item bs.lower bs.upper item

keeps_within : (side : Side) (o : Option Fraction) (value : Rational) → KeepsWithin side o value → (w : Fraction) → o ≡ Some w → breaks side (number w) value ≡ false
keeps_within side None value h w e = absurd (cc)
keeps_within side (Some v) value h w e = ap (λ k. breaks side (number k) value) (sym (same_Some v w e)) ∙ h

pub all_met : LowerIsFound → UpperIsFound → (b : Standing) (row : ℕ) (x : RowConstraint) (z : ℤ) (bs : Bounds) (value : Rational) → ((f : IdForm) → slice_get b.tableau.forms row ≡ Some f → z ≡ f.constant) → has_room z ≡ true
    → ((row : ℕ) → bounds_in row bs ≡ bounds_of row (to_z w128 (of_z w128 z)) x) → value ≡ kept_point b.tableau (column_of (rows_in b.tableau) row)
    → KeepsWithin Lower bs.lower value → KeepsWithin Upper bs.upper value → IsMet b row x
all_met lower upper b row x z bs value constant room are is low high = record {
  each = λ f at.
      by_sides lower upper (λ side v. breaks side v (kept_point b.tableau (column_of (rows_in b.tableau) row)) ≡ false) row x z bs f (constant f at) room are
      (λ w e. ap (breaks Lower (number w)) (sym is) ∙ keeps_within Lower bs.lower value low w e)
      (λ w e. ap (breaks Upper (number w)) (sym is) ∙ keeps_within Upper bs.upper value high w e);
}
