-- What stands after something was said of a row.
use Rattle.std.proofs.Common.{◌≡◌, ℕ, suc, ◌<◌, Bool, true, false, cond, ◌&&◌, List, [], ◌∷◌, ◌++◌, length, nat_eq, nat_lt, ◌^◌, Option, Some, None, ℤ, pos, ◌*ℤ◌, neg_ℤ, refl, sym, ap, ◌∙◌, subst, arith, if◌then◌else◌}
use Rattle.std.specs.Prelude.{slice_get}
use Rattle.std.specs.Option.{option_map}
use Rattle.std.proofs.lemmas.Int.{ints}
use Rattle.spv_whole.specs.Gcd.{gcd}
use Rattle.std.proofs.lemmas.Bool.{false≢true}
use Rattle.std.proofs.lemmas.Option.{same_Some}
use mir.Val.{to_z, of_z}
use mir.Syntax.{w128}
use Rattle.spv_whole.specs.Fraction.{Fraction}
use Rattle.spv_whole.proofs.Units.{unsigned_abs-neg}
use Rattle.spv_frac.specs.rational.Rational.{Rational, is_positive, number, whole}
use Rattle.spv_frac.proofs.rational.Field.{plus_opposite}
use Rattle.spv_frac.specs.Range.{fits}
use Rattle.spv_atoms.specs.Linear.{IdForm}
use Rattle.spv_tableau_rules.specs.tableaux.Numbers.{is_less}
use Rattle.spv_tableau_rules.specs.declared.tableaux.side.Side.{Side}
use Rattle.spv_tableau_rules.specs.declared.tableaux.side.Side.TheVariants.{Lower, Upper}
use Rattle.spv_tableau_rules.specs.tableaux.Bounds.{Bound, bound_on, same_side}
use Rattle.spv_tableau_rules.specs.tableaux.Operations as operations
use Rattle.spv_tableau_rules.proofs.pivots.Algebra.{less_is}
use Rattle.spv_tableau_rules.proofs.pivots.Sums.{eq_is, eq_self}
use Rattle.spv_tableau_rules.proofs.pivots.Tests.{and_both, and_left}
use Rattle.spv_simplex.specs.State.{compared}
use Rattle.spv_tableau_rules.specs.declared.constraints.saying.RowConstraint.{RowConstraint}
use Rattle.spv_tableau_rules.specs.declared.constraints.saying.RowConstraint.TheVariants.{Equal, Below, AtMost, Above, AtLeast, Differs}
use Rattle.spv_tableau_rules.specs.constraints.Sayings.{bounds_of}
use Rattle.spv_tableau_rules.proofs.constraints.Bounding.{bound_is_on, bound_on_row}
use Rattle.spv_arithmetic_side.specs.declared.bounds.bounds.Bounds.{Bounds}
use Rattle.spv_arithmetic_side.specs.bounds.Bounds.{bound_at, bounds_in, has_room}
use Rattle.spv_arithmetic_side.specs.bounds.Laws.{LowerIsFound, UpperIsFound}
use Rattle.spv_arithmetic_side.proofs.bounds.Stating.{room_fits}
use Rattle.spv_arithmetic_side.specs.declared.constraint_rows.standing.Standing.{Standing}
use Rattle.spv_arithmetic_side.specs.constraint_rows.Standing.{Adds, AreBoundsOf, Stands}
use Rattle.spv_arithmetic_side.specs.constraint_rows.Said.{IsBare, IsFreeIf, IsGiven, LeavesRoom, Says, SaysStill, added, as_before, bound_in, just_said, stood}
use Rattle.spv_arithmetic_side.proofs.constraint_rows.Adding.{constant_is}
use Rattle.spv_arithmetic_side.proofs.constraint_rows.Forms.{form_at}
use Rattle.spv_arithmetic_side.proofs.constraint_rows.Opposing.{on_side}

-- ---- bounds behind others

nothing_is : (x : Rational) → Some x ≡ None → ⊥
nothing_is x e = cc

pub behind_none : (xs ys : List Bound) (i : ℕ) (side : Side) → bound_on xs i side ≡ None → bound_on (xs ++ ys) i side ≡ bound_on ys i side
behind_none [] ys i side h = refl
behind_none (x ∷ xs) ys i side h = by_case (nat_eq x.row i && same_side x.side side) h (λ k. behind_none xs ys i side k)
  where
    by_case : (t : Bool) → (if t then Some x.value else bound_on xs i side) ≡ None → (bound_on xs i side ≡ None → bound_on (xs ++ ys) i side ≡ bound_on ys i side)
        → (if t then Some x.value else bound_on (xs ++ ys) i side) ≡ bound_on ys i side
    by_case true k rest = absurd (nothing_is x.value k)
    by_case false k rest = rest k

before_none : (xs ys : List Bound) (i : ℕ) (side : Side) → bound_on ys i side ≡ None → bound_on (xs ++ ys) i side ≡ bound_on xs i side
before_none [] ys i side h = h
before_none (x ∷ xs) ys i side h = by_case (nat_eq x.row i && same_side x.side side) (before_none xs ys i side h)
  where
    by_case : (t : Bool) → bound_on (xs ++ ys) i side ≡ bound_on xs i side → (if t then Some x.value else bound_on (xs ++ ys) i side) ≡ (if t then Some x.value else bound_on xs i side)
    by_case true k = refl
    by_case false k = k

-- bounds of one row are none on another
none_there : (ys : List Bound) (row i : ℕ) (side : Side) → ((j : ℕ) (b : Bound) → slice_get ys j ≡ Some b → b.row ≡ row) → nat_eq row i ≡ false → bound_on ys i side ≡ None
none_there [] row i side each other = refl
none_there (y ∷ ys) row i side each other = by_case (nat_eq y.row i && same_side y.side side) refl (none_there ys row i side (λ j b at. each (suc j) b at) other)
  where
    by_case : (t : Bool) → (nat_eq y.row i && same_side y.side side) ≡ t → bound_on ys i side ≡ None → (if t then Some y.value else bound_on ys i side) ≡ None
    by_case false e rest = rest
    by_case true e rest = absurd (false≢true (sym other ∙ (ap (λ (n : ℕ). nat_eq n i) (sym (each 0 y refl)) ∙ and_left (nat_eq y.row i) (same_side y.side side) e)))

-- ---- after something was said

module _ (old new : Standing) (row : ℕ) (x : RowConstraint) (bare : IsBare old row) (all : (bounds : List Bound) → AreBoundsOf old row x bounds → Adds old new bounds) (f : IdForm) (at : slice_get old.tableau.forms row ≡ Some f) where
  now_are : new.tableau.bounds ≡ old.tableau.bounds ++ bounds_of row f.constant x
  now_are = (all (bounds_of row f.constant x) (record { form = f; there = at; are = refl })).bounds

  on_row : (side : Side) → bound_on new.tableau.bounds row side ≡ bound_in f.constant x side
  on_row side =
      ap (λ bs. bound_on bs row side) now_are
      ∙ (behind_none old.tableau.bounds (bounds_of row f.constant x) row side (bare.on side) ∙ on_side row f.constant x side)

  on_other : (i : ℕ) (side : Side) → nat_eq row i ≡ false → bound_on new.tableau.bounds i side ≡ bound_on old.tableau.bounds i side
  on_other i side other =
      ap (λ bs. bound_on bs i side) now_are
      ∙ before_none old.tableau.bounds (bounds_of row f.constant x) i side (none_there (bounds_of row f.constant x) row i side (λ j b there. bound_on_row row f.constant x j b there) other)

  on_row_at : (g : IdForm) → f ≡ g → (j : ℕ) (bound : Bound) → slice_get (bounds_of row g.constant x) j ≡ Some bound → bound_on new.tableau.bounds row bound.side ≡ Some bound.value
  on_row_at g e j bound there =
      on_row bound.side
      ∙ (ap (λ (q : IdForm). bound_in q.constant x bound.side) e ∙ (sym (on_side row g.constant x bound.side) ∙ bound_is_on row g.constant x j bound there))

-- it stands
pub given_stands : (old new : Standing) (row : ℕ) (x : RowConstraint) → row < length old.tableau.forms → new.tableau.forms ≡ old.tableau.forms → IsGiven old new row x → Stands new row x
given_stands old new row x inside forms (stood same stands) = subst (λ (b : Standing). Stands b row x) (sym same) stands
given_stands old new row x inside forms (added bare all) =
    let form = form_at old.tableau.forms row inside in
    record {
      each = λ g at j bound there.
          on_row_at old new row x bare all form.0 form.1 g (same_Some form.0 g (sym form.1 ∙ (ap (λ fs. slice_get fs row) (sym forms) ∙ at))) j bound there;
    }

-- each row says what it said, or this
pub given_says : (old new : Standing) (row : ℕ) (x : RowConstraint) → IsGiven old new row x → (i : ℕ) (f : IdForm) → slice_get old.tableau.forms i ≡ Some f → (inside : row < length old.tableau.forms) (y : RowConstraint) → Says old.tableau.bounds i f.constant y
    → SaysStill row x new.tableau.bounds i f.constant y
given_says old new row x (stood same stands) i f at inside y says = as_before (subst (λ (b : Standing). Says b.tableau.bounds i f.constant y) (sym same) says)
given_says old new row x (added bare all) i f at inside y says = by_row (nat_eq row i) refl
  where
    form : (g : IdForm) × (slice_get old.tableau.forms row ≡ Some g)
    form = form_at old.tableau.forms row inside

    by_row : (t : Bool) → nat_eq row i ≡ t → SaysStill row x new.tableau.bounds i f.constant y
    by_row false other = as_before (record { on = λ side. on_other old new row x bare all form.0 form.1 i side other ∙ says.on side })
    by_row true same =
        let here : i ≡ row = sym (eq_is row i same) in
        let there : slice_get old.tableau.forms row ≡ Some f = ap (slice_get old.tableau.forms) (sym here) ∙ at in
        just_said here (record { on = λ side. ap (λ (k : ℕ). bound_on new.tableau.bounds k side) here ∙ on_row old new row x bare all f there side })

-- ---- a row without bounds takes all of a saying

pub lower_free : (b : Standing) (row : ℕ) (o : Option Fraction) → row < length b.tableau.forms → IsBare b row → IsFreeIf b row Lower o
lower_free b row None inside bare = tt
lower_free b row (Some v) inside bare = record {
  row_in = inside;
  free = bare.on Lower;
  leaves = subst (LeavesRoom Lower (number v)) (sym (bare.on Upper)) tt;
}

-- the two bounds of an equality are one number
both_are : (n : ℤ) (x : RowConstraint) (low high : Rational) → bound_in n x Lower ≡ Some low → bound_in n x Upper ≡ Some high → (low ≡ whole (neg_ℤ n)) × (high ≡ whole (neg_ℤ n))
both_are n Equal low high l u = (sym (same_Some (whole (neg_ℤ n)) low l), sym (same_Some (whole (neg_ℤ n)) high u))
both_are n Below low high l u = absurd (nothing_is low (sym l))
both_are n AtMost low high l u = absurd (nothing_is low (sym l))
both_are n Above low high l u = absurd (nothing_is high (sym u))
both_are n AtLeast low high l u = absurd (nothing_is high (sym u))
both_are n Differs low high l u = absurd (nothing_is low (sym l))

not_less : (a : Rational) → is_less a a ≡ false
not_less a = less_is a a ∙ ap is_positive (plus_opposite a)

fits_times_one : (n : ℤ) → fits n ≡ true → fits (n *ℤ pos 1) ≡ true
fits_times_one n h = ap fits (once n) ∙ h
  where
    once : (n : ℤ) → n *ℤ pos 1 ≡ n
    once n = omega (arith, ints)

compares : (n : ℤ) → fits n ≡ true → operations.fits (compared Upper (whole n) (whole n)) ≡ true
unfolding gcd
compares n h = and_both (fits (n *ℤ pos 1)) (fits (n *ℤ pos 1)) (fits_times_one n h) (fits_times_one n h)

leaves_equal : (n : ℤ) → fits n ≡ true → (v w : Rational) → v ≡ whole n → w ≡ whole n → LeavesRoom Upper v (Some w)
leaves_equal n h v w e f =
    subst (λ (x : Rational). LeavesRoom Upper x (Some w)) (sym e)
    (subst (λ (y : Rational). LeavesRoom Upper (whole n) (Some y)) (sym f) (not_less (whole n), compares n h))

module _ (lower : LowerIsFound) (upper : UpperIsFound) (old mid : Standing) (row : ℕ) (x : RowConstraint) (z : ℤ) (bs : Bounds) (l : Bool) (constant : (f : IdForm) → slice_get old.tableau.forms row ≡ Some f → z ≡ f.constant) (room : has_room z ≡ true)
    (are : (row : ℕ) → bounds_in row bs ≡ bounds_of row (to_z w128 (of_z w128 z)) x) (inside : row < length old.tableau.forms) (bare : IsBare old row) (first : Adds old mid (cond l (bound_at row Lower bs.lower) [])) (took : l ≡ true) where
  mid_bounds : mid.tableau.bounds ≡ old.tableau.bounds ++ bound_at row Lower bs.lower
  mid_bounds = (subst (λ (q : Bool). Adds old mid (cond q (bound_at row Lower bs.lower) [])) took first).bounds

  mid_on : (side : Side) → bound_on mid.tableau.bounds row side ≡ bound_on (bound_at row Lower bs.lower) row side
  mid_on side = ap (λ xs. bound_on xs row side) mid_bounds ∙ behind_none old.tableau.bounds (bound_at row Lower bs.lower) row side (bare.on side)

  no_upper : (o : Option Fraction) → bound_on (bound_at row Lower o) row Upper ≡ None
  no_upper None = refl
  no_upper (Some v) = ap (λ c. cond (c && false) (Some (number v)) None) (eq_self row)

  lower_there : (o : Option Fraction) → bound_on (bound_at row Lower o) row Lower ≡ option_map number o
  lower_there None = refl
  lower_there (Some v) = ap (λ c. cond (c && true) (Some (number v)) None) (eq_self row)

  form : (f : IdForm) × (slice_get old.tableau.forms row ≡ Some f)
  form = form_at old.tableau.forms row inside

  constant_here : to_z w128 (of_z w128 z) ≡ (form.0).constant
  constant_here = constant_is z (form.0).constant room (constant form.0 form.1)

  bounds_here : bounds_in row bs ≡ bounds_of row (form.0).constant x
  bounds_here = are row ∙ ap (λ y. bounds_of row y x) constant_here

  low_is : option_map number bs.lower ≡ bound_in (form.0).constant x Lower
  low_is = sym (lower row bs) ∙ (ap (λ xs. bound_on xs row Lower) bounds_here ∙ on_side row (form.0).constant x Lower)

  high_is : option_map number bs.upper ≡ bound_in (form.0).constant x Upper
  high_is = sym (upper row bs) ∙ (ap (λ xs. bound_on xs row Upper) bounds_here ∙ on_side row (form.0).constant x Upper)

  opposite_fits : fits (neg_ℤ (form.0).constant) ≡ true
  opposite_fits =
      let h : fits (form.0).constant ≡ true = subst (λ (k : ℤ). fits k ≡ true) (constant form.0 form.1) (room_fits z room) in
      same_fits (form.0).constant h
    where
      same_fits : (k : ℤ) → fits k ≡ true → fits (neg_ℤ k) ≡ true
      same_fits k h = ap (λ (m : ℕ). nat_lt m (2 ^ 127)) (unsigned_abs-neg k) ∙ h

  pub upper_free : IsFreeIf mid row Upper bs.upper
  upper_free = by_upper bs.upper refl
    where
      leaves : (v : Fraction) → bs.upper ≡ Some v → (o : Option Fraction) → bs.lower ≡ o → LeavesRoom Upper (number v) (option_map number o)
      leaves v e None g = tt
      leaves v e (Some w) g =
          let both = both_are (form.0).constant x (number w) (number v) (sym low_is ∙ ap (option_map number) g) (sym high_is ∙ ap (option_map number) e) in
          leaves_equal (neg_ℤ (form.0).constant) opposite_fits (number v) (number w) both.1 both.0

      by_upper : (o : Option Fraction) → bs.upper ≡ o → IsFreeIf mid row Upper o
      by_upper None e = tt
      by_upper (Some v) e = record {
        row_in = subst (λ (fs : List IdForm). row < length fs) (sym first.forms) inside;
        free = mid_on Upper ∙ no_upper bs.lower;
        leaves = subst (LeavesRoom Upper (number v)) (sym (mid_on Lower ∙ lower_there bs.lower)) (leaves v e bs.lower refl);
      }

-- whether something was said or is excluded
pub says_still : (old new : Standing) (row : ℕ) (x : RowConstraint) (said : Bool) → row < length old.tableau.forms → (said ≡ true → IsGiven old new row x) → (said ≡ false → new ≡ old) → (i : ℕ) (f : IdForm) (y : RowConstraint) → slice_get old.tableau.forms i ≡ Some f
    → Says old.tableau.bounds i f.constant y → SaysStill row x new.tableau.bounds i f.constant y
says_still old new row x true inside given same i f y at says = given_says old new row x (given refl) i f at inside y says
says_still old new row x false inside given same i f y at says = as_before (subst (λ (b : Standing). Says b.tableau.bounds i f.constant y) (sym (same refl)) says)
