-- What rows say, and what excludes it.
use Rattle.std.proofs.Common.{◌≡◌, ℕ, zero, suc, ◌<◌, Bool, true, false, cond, not, ◌&&◌, List, [], ◌∷◌, map, length, Option, Some, None, ℤ, pos, ◌+ℤ◌, ◌*ℤ◌, ◌<ℤ◌, neg_ℤ, refl, sym, ap, ◌∙◌, subst, arith, get_or}
use Rattle.std.specs.Prelude.{slice_get}
use Rattle.std.specs.List.{list_all}
use Rattle.std.specs.Int.RustNames.{int_lt}
use Rattle.std.proofs.Math.Nat.{zero-lt-suc}
use Rattle.std.proofs.lemmas.Bool.{false≢true}
use Rattle.std.proofs.lemmas.Int.{ints}
use Rattle.std.proofs.lemmas.Option.{same_Some, slice_get-get_or}
use Rattle.spv_whole.proofs.Ring.{<ℤ-scaled}
use Rattle.spv_whole.specs.Fraction as fraction
use Rattle.spv_frac.specs.rational.Rational.{Rational, is_negative, number, opposite, plus, times, whole}
use Rattle.spv_frac.proofs.rational.Field.{number_whole, plus_comm, plus_zero}
use Rattle.spv_term.specs.Arena.{Arena}
use Rattle.spv_atoms.specs.Linear.{IdForm, PartsIn}
use Rattle.spv_proof_rules.specs.Sums.{Reading}
use Rattle.spv_tableau_rules.specs.tableaux.Numbers.{is_less, minus, nothing}
use Rattle.spv_tableau_rules.specs.declared.tableaux.side.Side.{Side}
use Rattle.spv_tableau_rules.specs.declared.tableaux.side.Side.TheVariants.{Lower, Upper}
use Rattle.spv_tableau_rules.specs.tableaux.Bounds.{Bound, bound_on, is_none}
use Rattle.spv_tableau_rules.specs.tableaux.Forms.{rows_of}
use Rattle.spv_tableau_rules.specs.tableaux.Contradictions.{IsContradiction, Multiple, is_multiple}
use Rattle.spv_tableau_rules.proofs.pivots.Algebra.{less_is, negative_opposite, one_times, opposite_minus, opposite_plus}
use Rattle.spv_tableau_rules.proofs.pivots.Sums.{eq_self}
use Rattle.spv_tableau_rules.proofs.pivots.Tests.{and_left, and_right, not_true}
use Rattle.spv_tableau_rules.specs.declared.constraints.saying.RowConstraint.{RowConstraint}
use Rattle.spv_tableau_rules.specs.declared.constraints.saying.RowConstraint.TheVariants.{Equal, Below, AtMost, Above, AtLeast, Differs}
use Rattle.spv_tableau_rules.specs.constraints.Relations.{AreIn}
use Rattle.spv_tableau_rules.specs.constraints.Sayings.{at_least, at_most, bounds_of, says_equal}
use Rattle.spv_tableau_rules.specs.constraints.Sources.{AreSourced, IsSourced}
use Rattle.spv_tableau_rules.proofs.constraints.Bounding.{bound_is_on}
use Rattle.spv_arithmetic_side.specs.bounds.Multiples.{multiple_in}
use Rattle.spv_arithmetic_side.specs.declared.bounds.sources.RowSources.{RowSources}
use Rattle.spv_arithmetic_side.specs.bounds.Sources.{source_of, sources_in}
use Rattle.spv_arithmetic_side.specs.declared.constraint_rows.standing.Standing.{Standing}
use Rattle.spv_arithmetic_side.specs.constraint_rows.Standing.{SaidBy, Sourced, Stands}
use Rattle.spv_arithmetic_side.specs.constraint_rows.Said.{AreOpposed, GoesWith, IsBare, IsContrary, IsOpposed, MaySay, RowSays, bound_in, contrary, excludes, has_lower, none_said, same_said, says_none, two_sides}
use Rattle.spv_arithmetic_side.proofs.constraint_rows.Forms.{form_at}

-- ---- the bounds of a saying

no_lower : (i : ℕ) (n : ℤ) → bound_on (at_most i n ∷ []) i Lower ≡ None
no_lower i n = ap (λ c. cond (c && false) (Some (whole n)) None) (eq_self i)

no_upper : (i : ℕ) (n : ℤ) → bound_on (at_least i n ∷ []) i Upper ≡ None
no_upper i n = ap (λ c. cond (c && false) (Some (whole n)) None) (eq_self i)

pub on_side : (row : ℕ) (constant : ℤ) (x : RowConstraint) (side : Side) → bound_on (bounds_of row constant x) row side ≡ bound_in constant x side
on_side row n Equal Lower = bound_is_on row n Equal 0 (at_least row (neg_ℤ n)) refl
on_side row n Equal Upper = bound_is_on row n Equal 1 (at_most row (neg_ℤ n)) refl
on_side row n Below Lower = no_lower row (neg_ℤ (n +ℤ pos 1))
on_side row n Below Upper = bound_is_on row n Below 0 (at_most row (neg_ℤ (n +ℤ pos 1))) refl
on_side row n AtMost Lower = no_lower row (neg_ℤ n)
on_side row n AtMost Upper = bound_is_on row n AtMost 0 (at_most row (neg_ℤ n)) refl
on_side row n Above Lower = bound_is_on row n Above 0 (at_least row (neg_ℤ n +ℤ pos 1)) refl
on_side row n Above Upper = no_upper row (neg_ℤ n +ℤ pos 1)
on_side row n AtLeast Lower = bound_is_on row n AtLeast 0 (at_least row (neg_ℤ n)) refl
on_side row n AtLeast Upper = no_upper row (neg_ℤ n)
on_side row n Differs Lower = refl
on_side row n Differs Upper = refl

-- ---- what stands where a row says something

pub says_stands : (b : Standing) (row : ℕ) (x : RowConstraint) → RowSays b row x → Stands b row x
says_stands b row x says = record { each = λ f at j bound there. (says f at).on bound.side ∙ (sym (on_side row f.constant x bound.side) ∙ bound_is_on row f.constant x j bound there) }

differs_stands : (b : Standing) (row : ℕ) (x : RowConstraint) → x ≡ Differs → Stands b row x
differs_stands b row x e = subst (Stands b row) (sym e) (record { each = λ f at j bound there. absurd (none_there row f.constant j bound there) })
  where
    none_there : (row : ℕ) (n : ℤ) (j : ℕ) (bound : Bound) → slice_get (bounds_of row n Differs) j ≡ Some bound → ⊥
    none_there row n j bound h = cc

differs_bare : (b : Standing) (row : ℕ) (x : RowConstraint) → row < length b.tableau.forms → RowSays b row x → x ≡ Differs → IsBare b row
differs_bare b row x inside says e =
    let form = form_at b.tableau.forms row inside in
    record { on = λ side. (says form.0 form.1).on side ∙ (ap (λ y. bound_in (form.0).constant y side) e ∙ nothing_in (form.0).constant side) }
  where
    nothing_in : (n : ℤ) (side : Side) → bound_in n Differs side ≡ None
    nothing_in n Lower = refl
    nothing_in n Upper = refl

-- what may be said, and does not stand where something does, is excluded
pub opposed_now : (b : Standing) (row : ℕ) (y : RowConstraint) → row < length b.tableau.forms → (Stands b row y → ⊥) → (IsBare b row → ⊥) → MaySay b row y → IsOpposed b row y
opposed_now b row y inside not_standing not_bare may = by_way may.fits
  where
    by_way : GoesWith may.other y → IsOpposed b row y
    by_way (none_said e) = absurd (not_bare (differs_bare b row may.other inside may.says e))
    by_way (says_none e) = absurd (not_standing (differs_stands b row y e))
    by_way (same_said e) = absurd (not_standing (subst (Stands b row) e (says_stands b row may.other may.says)))
    by_way (contrary e) = record { other = may.other; says = may.says; excluded = e }

-- ---- bounds that exclude each other

less_of : (m n : ℤ) → m <ℤ n → is_less (whole m) (whole n) ≡ true
less_of m n h = true_of (m *ℤ pos 1) (n *ℤ pos 1) (<ℤ-scaled m n 1 (zero-lt-suc 0) h)
  where
    true_of : (a b : ℤ) → a <ℤ b → int_lt a b ≡ true
    true_of a b h = grind (arith, ints)

next_less : (k : ℤ) → k <ℤ (k +ℤ pos 1)
next_less k = omega (arith, ints)

before_less : (k : ℤ) → neg_ℤ (k +ℤ pos 1) <ℤ neg_ℤ k
before_less k = omega (arith, ints)

before_next : (k : ℤ) → neg_ℤ (k +ℤ pos 1) <ℤ (neg_ℤ k +ℤ pos 1)
before_next k = omega (arith, ints)

-- the lower bound of the one is above the upper bound of the other
record IsOver (n : ℤ) (over under : RowConstraint) : Type 0 where
  low : Rational
  high : Rational
  low_is : bound_in n over Lower ≡ Some low
  high_is : bound_in n under Upper ≡ Some high
  less : is_less high low ≡ true

equal_above : (n : ℤ) → IsOver n Above Equal
equal_above n = record { low = whole (neg_ℤ n +ℤ pos 1); high = whole (neg_ℤ n); low_is = refl; high_is = refl; less = less_of (neg_ℤ n) (neg_ℤ n +ℤ pos 1) (next_less (neg_ℤ n)) }

equal_below : (n : ℤ) → IsOver n Equal Below
equal_below n = record { low = whole (neg_ℤ n); high = whole (neg_ℤ (n +ℤ pos 1)); low_is = refl; high_is = refl; less = less_of (neg_ℤ (n +ℤ pos 1)) (neg_ℤ n) (before_less n) }

above_below : (n : ℤ) → IsOver n Above Below
above_below n = record { low = whole (neg_ℤ n +ℤ pos 1); high = whole (neg_ℤ (n +ℤ pos 1)); low_is = refl; high_is = refl; less = less_of (neg_ℤ (n +ℤ pos 1)) (neg_ℤ n +ℤ pos 1) (before_next n) }

least_below : (n : ℤ) → IsOver n AtLeast Below
least_below n = record { low = whole (neg_ℤ n); high = whole (neg_ℤ (n +ℤ pos 1)); low_is = refl; high_is = refl; less = less_of (neg_ℤ (n +ℤ pos 1)) (neg_ℤ n) (before_less n) }

above_most : (n : ℤ) → IsOver n Above AtMost
above_most n = record { low = whole (neg_ℤ n +ℤ pos 1); high = whole (neg_ℤ n); low_is = refl; high_is = refl; less = less_of (neg_ℤ n) (neg_ℤ n +ℤ pos 1) (next_less (neg_ℤ n)) }

-- what is said is a lower bound, and an upper one stands: the one is above the other
module _ (n : ℤ) where
  said_over : (x y : RowConstraint) → excludes x y ≡ true → has_lower y ≡ true → is_none (bound_in n x Upper) ≡ false → IsOver n y x
  said_over Equal Above e l u = equal_above n
  said_over Equal Below e l u = absurd (false≢true l)
  said_over Equal Equal e l u = absurd (false≢true e)
  said_over Equal AtMost e l u = absurd (false≢true e)
  said_over Equal AtLeast e l u = absurd (false≢true e)
  said_over Equal Differs e l u = absurd (false≢true e)
  said_over Below Equal e l u = equal_below n
  said_over Below Above e l u = above_below n
  said_over Below AtLeast e l u = least_below n
  said_over Below Below e l u = absurd (false≢true e)
  said_over Below AtMost e l u = absurd (false≢true e)
  said_over Below Differs e l u = absurd (false≢true e)
  said_over AtMost Above e l u = above_most n
  said_over AtMost Equal e l u = absurd (false≢true e)
  said_over AtMost Below e l u = absurd (false≢true e)
  said_over AtMost AtMost e l u = absurd (false≢true e)
  said_over AtMost AtLeast e l u = absurd (false≢true e)
  said_over AtMost Differs e l u = absurd (false≢true e)
  said_over Above y e l u = absurd (false≢true (sym u))
  said_over AtLeast y e l u = absurd (false≢true (sym u))
  said_over Differs y e l u = absurd (false≢true (sym u))

  -- else what stands is a lower bound, and what is said an upper one
  said_under : (x y : RowConstraint) → excludes x y ≡ true → (has_lower y && not (is_none (bound_in n x Upper))) ≡ false → IsOver n x y
  said_under Equal Below e h = equal_below n
  said_under Equal Above e h = absurd (false≢true (sym h))
  said_under Equal Equal e h = absurd (false≢true e)
  said_under Equal AtMost e h = absurd (false≢true e)
  said_under Equal AtLeast e h = absurd (false≢true e)
  said_under Equal Differs e h = absurd (false≢true e)
  said_under Above Equal e h = equal_above n
  said_under Above Below e h = above_below n
  said_under Above AtMost e h = above_most n
  said_under Above Above e h = absurd (false≢true e)
  said_under Above AtLeast e h = absurd (false≢true e)
  said_under Above Differs e h = absurd (false≢true e)
  said_under AtLeast Below e h = least_below n
  said_under AtLeast Equal e h = absurd (false≢true e)
  said_under AtLeast Above e h = absurd (false≢true e)
  said_under AtLeast AtMost e h = absurd (false≢true e)
  said_under AtLeast AtLeast e h = absurd (false≢true e)
  said_under AtLeast Differs e h = absurd (false≢true e)
  said_under Below Equal e h = absurd (false≢true (sym h))
  said_under Below Above e h = absurd (false≢true (sym h))
  said_under Below AtLeast e h = absurd (false≢true (sym h))
  said_under Below Below e h = absurd (false≢true e)
  said_under Below AtMost e h = absurd (false≢true e)
  said_under Below Differs e h = absurd (false≢true e)
  said_under AtMost Above e h = absurd (false≢true (sym h))
  said_under AtMost Equal e h = absurd (false≢true e)
  said_under AtMost Below e h = absurd (false≢true e)
  said_under AtMost AtMost e h = absurd (false≢true e)
  said_under AtMost AtLeast e h = absurd (false≢true e)
  said_under AtMost Differs e h = absurd (false≢true e)
  said_under Differs y e h = absurd (false≢true e)

-- where the two come from
module _ (b : Standing) (row : ℕ) (y : RowConstraint) (k : ℕ) (kept : RowSources) (there : slice_get b.sources.items row ≡ Some kept) (opposed : IsOpposed b row y) where
  stands_from : (a : Arena) (read : ℕ → Option Reading) (f : IdForm) (side : Side) (value : Rational) → slice_get b.tableau.forms row ≡ Some f → Sourced a read b b.tableau.bounds → bound_in f.constant opposed.other side ≡ Some value
      → IsSourced a read row f side value (source_of (Some kept) side)
  stands_from a read f side value at from is =
      subst (λ (o : Option RowSources). IsSourced a read row f side value (source_of o side)) there
      (from.each row f side value at ((opposed.says f at).on side ∙ is))

  said_from : (a : Arena) (read : ℕ → Option Reading) (f : IdForm) (side : Side) (value : Rational) → slice_get b.tableau.forms row ≡ Some f → SaidBy a read b row y k → bound_in f.constant y side ≡ Some value
      → IsSourced a read row f side value (record { fact = k; is_equal = says_equal y })
  said_from a read f side value at by is = by f at side value (on_side row f.constant y side ∙ is)

  -- what is said is the lower bound
  pub opposed_over : (e : Bool) → e ≡ says_equal y → (has_lower y && not (is_none (bound_on b.tableau.bounds row Upper))) ≡ true → AreOpposed b row y k (record { lower = record { fact = k; is_equal = e }; upper = kept.upper })
  opposed_over e same both = record {
    shown = λ a read f at from by.
        let low : has_lower y ≡ true = and_left (has_lower y) (not (is_none (bound_on b.tableau.bounds row Upper))) both in
        let up : is_none (bound_on b.tableau.bounds row Upper) ≡ false = not_true (is_none (bound_on b.tableau.bounds row Upper)) (and_right (has_lower y) (not (is_none (bound_on b.tableau.bounds row Upper))) both) in
        let over = said_over f.constant opposed.other y opposed.excluded low (ap is_none (sym ((opposed.says f at).on Upper)) ∙ up) in
        record {
          low = over.low;
          high = over.high;
          less = over.less;
          lower = subst (λ (q : Bool). IsSourced a read row f Lower over.low (record { fact = k; is_equal = q })) (sym same) (said_from a read f Lower over.low at by over.low_is);
          upper = stands_from a read f Upper over.high at from over.high_is;
        };
  }

  -- what stands is
  pub opposed_under : (e : Bool) → e ≡ says_equal y → (has_lower y && not (is_none (bound_on b.tableau.bounds row Upper))) ≡ false → AreOpposed b row y k (record { lower = kept.lower; upper = record { fact = k; is_equal = e } })
  opposed_under e same none = record {
    shown = λ a read f at from by.
        let over = said_under f.constant opposed.other y opposed.excluded (ap (λ o. has_lower y && not (is_none o)) (sym ((opposed.says f at).on Upper)) ∙ none) in
        record {
          low = over.low;
          high = over.high;
          less = over.less;
          lower = stands_from a read f Lower over.low at from over.low_is;
          upper = subst (λ (q : Bool). IsSourced a read row f Upper over.high (record { fact = k; is_equal = q })) (sym same) (said_from a read f Upper over.high at by over.high_is);
        };
  }

-- ---- a contradiction of the two

module _ (f : IdForm) (low high : Rational) (less : is_less high low ≡ true) where
  abbrev pub two_bounds : List Bound
  two_bounds = record { row = 0; side = Lower; value = low } ∷ record { row = 0; side = Upper; value = high } ∷ []

  abbrev both_by : Rational → List Multiple
  both_by u = record { row = 0; side = Lower; factor = u } ∷ record { row = 0; side = Upper; factor = u } ∷ []

  abbrev unit : Rational
  unit = number (fraction.whole (pos 1))

  turned : is_negative (plus (opposite low) high) ≡ true
  turned =
      ap is_negative (plus_comm (opposite low) high)
      ∙ (ap is_negative (sym (opposite_minus low high)) ∙ (negative_opposite (minus low high) ∙ (sym (less_is high low) ∙ less)))

  once : (x : Rational) → times unit x ≡ x
  once x = ap (λ u. times u x) (number_whole (pos 1)) ∙ one_times x

  pub two_contradict : IsContradiction (rows_of (f ∷ [])) two_bounds (map multiple_in two_sides)
  two_contradict = record {
    each = ap (λ (u : Rational). list_all (is_multiple (rows_of (f ∷ [])) two_bounds) (both_by u)) (number_whole (pos 1)) ∙ refl;
    cancel = λ c below. cancels (times unit ((rows_of (f ∷ [])).coefficient 0 c));
    negative = ap (λ (x : Rational). is_negative (plus (opposite x) (plus (times unit high) nothing))) (once low) ∙ (ap (λ (x : Rational). is_negative (plus (opposite low) x)) (plus_zero (times unit high) ∙ once high) ∙ turned);
  }
    where
      cancels : (x : Rational) → plus (opposite x) (plus x nothing) ≡ nothing
      cancels x = ap (plus (opposite x)) (plus_zero x) ∙ opposite_plus x

module _ (a : Arena) (read : ℕ → Option Reading) (row : ℕ) (f : IdForm) (s : RowSources) (h : IsContrary a read row f s) where
  -- the same on the row of the number 0
  moved : (side : Side) (value : Rational) (from : RowSources) → IsSourced a read row f side value (source_of (Some from) side) → IsSourced a read 0 f side value (source_of (Some from) side)
  moved side value from k = record {
    left = k.left;
    right = k.right;
    saying = k.saying;
    row = k.row;
    bound = on_side 0 f.constant k.saying side ∙ (sym (on_side row f.constant k.saying side) ∙ k.bound);
    read = k.read;
    equal = k.equal;
  }

  pub two_sourced : AreSourced a read (f ∷ []) (two_bounds f h.low h.high h.less) (sources_in (s ∷ []))
  two_sourced = record { each = each }
    where
      at_zero : (g : IdForm) (side : Side) (value : Rational) → f ≡ g → bound_on (two_bounds f h.low h.high h.less) 0 side ≡ Some value → IsSourced a read 0 g side value (source_of (Some s) side)
      at_zero g Lower value e bound =
          subst (λ (q : IdForm). IsSourced a read 0 q Lower value s.lower) e (subst (λ (v : Rational). IsSourced a read 0 f Lower v s.lower) (same_Some h.low value bound) (moved Lower h.low s h.lower))
      at_zero g Upper value e bound =
          subst (λ (q : IdForm). IsSourced a read 0 q Upper value s.upper) e (subst (λ (v : Rational). IsSourced a read 0 f Upper v s.upper) (same_Some h.high value bound) (moved Upper h.high s h.upper))

      each : (i : ℕ) (g : IdForm) (side : Side) (value : Rational) → slice_get (f ∷ []) i ≡ Some g → bound_on (two_bounds f h.low h.high h.less) i side ≡ Some value → IsSourced a read i g side value (sources_in (s ∷ []) i side)
      each zero g side value at bound = at_zero g side value (same_Some f g at) bound
      each (suc i) g side value at bound = absurd (past i at)
        where
          past : (i : ℕ) → slice_get (f ∷ []) (suc i) ≡ Some g → ⊥
          past i e = cc

pub one_in : (a : Arena) (f : IdForm) → PartsIn a f.parts → AreIn a (f ∷ [])
one_in a f h = record { each = each }
  where
    each : (i : ℕ) (g : IdForm) → slice_get (f ∷ []) i ≡ Some g → PartsIn a g.parts
    each zero g at = subst (λ (q : IdForm). PartsIn a q.parts) (same_Some f g at) h
    each (suc i) g at = absurd (past i at)
      where
        past : (i : ℕ) → slice_get (f ∷ []) (suc i) ≡ Some g → ⊥
        past i e = cc

-- ---- rows without bounds

none_of : (o : Option Rational) → is_none o ≡ true → o ≡ None
none_of None h = refl
none_of (Some x) h = absurd (false≢true h)

pub bare_sides : (b : Standing) (row : ℕ) (l u : Bool) → l ≡ is_none (bound_on b.tableau.bounds row Lower) → l ≡ true → u ≡ is_none (bound_on b.tableau.bounds row Upper) → u ≡ true → IsBare b row
bare_sides b row l u l_is l_true u_is u_true = record { on = on }
  where
    on : (side : Side) → bound_on b.tableau.bounds row side ≡ None
    on Lower = none_of (bound_on b.tableau.bounds row Lower) (sym l_is ∙ l_true)
    on Upper = none_of (bound_on b.tableau.bounds row Upper) (sym u_is ∙ u_true)

pub bare_side : (b : Standing) (row : ℕ) (side : Side) (r : Bool) → r ≡ is_none (bound_on b.tableau.bounds row side) → IsBare b row → r ≡ true
bare_side b row side r is bare = is ∙ ap is_none (bare.on side)

-- the sources of a row
pub kept_at : (xs : List RowSources) (row : ℕ) (x : RowSources) → row < length xs → x ≡ get_or xs row x → slice_get xs row ≡ Some x
kept_at xs row x inside is = slice_get-get_or xs row x inside ∙ ap (λ y. Some y) (sym is)
