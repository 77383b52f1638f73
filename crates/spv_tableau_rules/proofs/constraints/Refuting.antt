-- A contradiction of bounds is a contradiction of the facts that they come from.
use Rattle.std.proofs.Common.{◌≡◌, ℕ, zero, suc, Bool, true, false, cond, ◌&&◌, ◌||◌, not, List, [], ◌∷◌, length, nat_lt, ℤ, pos, negsuc, ◌+ℤ◌, ◌*ℤ◌, neg_ℤ, refl, sym, ap, ◌∙◌, subst, Option, Some, None, arith}
use mathlib.Core.Path.{ap₂}
use Rattle.std.specs.Prelude.{slice_get}
use Rattle.std.specs.List.{list_all}
use Rattle.std.proofs.lemmas.Bool.{false≢true}
use Rattle.std.proofs.lemmas.Bool.Decides.{nat_tests}
use Rattle.std.proofs.lemmas.Int.{ints}
use Rattle.spv_frac.specs.rational.Rational.{Rational, whole, number, plus, times, opposite, is_zero, is_positive, is_negative}
use Rattle.spv_frac.proofs.rational.Field.{same, plus_assoc, plus_zero, zero_plus, number_is}
use Rattle.spv_logic.specs.Terms.{Term, term, terms, no_terms}
use Rattle.spv_logic.specs.declared.operators.Head.TheVariants.{Sub}
use Rattle.spv_term.specs.Arena.{Arena, IsArena}
use Rattle.spv_atoms.specs.Forms.{form}
use Rattle.spv_atoms.specs.Linear.{IdForm, coefficient, over_trees}
use Rattle.spv_atoms.proofs.Coefficients.{AreDifferent, minus-coefficient, form-different, both_true}
use Rattle.spv_proof_rules.specs.Sums.{Reading, difference, is_at_most_zero, Combination, add_form, may_multiply, add_reading, cited_reading, then_add, sum_of, shows_above_zero, refutes}
use Rattle.spv_proof_rules.specs.Sums as sums
use Rattle.spv_tableau_rules.specs.declared.tableaux.side.Side.{Side}
use Rattle.spv_tableau_rules.specs.declared.tableaux.side.Side.TheVariants.{Lower, Upper}
use Rattle.spv_tableau_rules.specs.tableaux.Numbers.{nothing}
use Rattle.spv_tableau_rules.specs.tableaux.Bounds.{Bound, bound_on, is_none, or_nothing}
use Rattle.spv_tableau_rules.specs.tableaux.Forms.{rows_of}
use Rattle.spv_tableau_rules.specs.tableaux.Contradictions.{Multiple, signed, bound_sum, is_multiple, IsContradiction}
use Rattle.spv_tableau_rules.proofs.pivots.Algebra.{opposite_opposite, opposite_sum, opposite_times, times_opposite, opposite_nothing, positive_opposite}
use Rattle.spv_tableau_rules.proofs.pivots.Sums.{eq_self}
use Rattle.spv_tableau_rules.proofs.pivots.Tests.{and_left, and_right, not_true}
use Rattle.spv_tableau_rules.specs.declared.constraints.saying.RowConstraint.{RowConstraint}
use Rattle.spv_tableau_rules.specs.declared.constraints.saying.RowConstraint.TheVariants.{Equal, Below, AtMost, Above, AtLeast, Differs}
use Rattle.spv_tableau_rules.specs.declared.constraints.source.Source.{Source}
use Rattle.spv_tableau_rules.specs.constraints.Sayings.{reading_of, says_equal, at_least, at_most, bounds_of}
use Rattle.spv_tableau_rules.specs.constraints.Relations.{IsRowOf, AreIn}
use Rattle.spv_tableau_rules.specs.constraints.Sources.{Sources, IsSourced, AreSourced, multiplier, fact_multiples}
use Rattle.spv_tableau_rules.proofs.constraints.Numbers.{number_at, AreSingle, add-number, add-single, all-zero}
use Rattle.spv_tableau_rules.proofs.constraints.Columns.{number_of_term, number_sum, all_cancel}

-- ---- whole numbers

turned : (k z : ℤ) → k ≡ neg_ℤ z → whole k ≡ opposite (whole z)
turned k z e = ap whole e ∙ same (whole (neg_ℤ z)) (opposite (whole z)) refl

back : (k z : ℤ) → k ≡ z → whole k ≡ opposite (opposite (whole z))
back k z e = ap whole e ∙ sym (opposite_opposite (whole z))

-- ---- a single bound

-- a bound is on this side, with this value
record IsOn (expected side : Side) (n : ℤ) (value : Rational) : Type 0 where
  side_is : expected ≡ side
  value_is : whole n ≡ value

on_lower : (i : ℕ) (n : ℤ) (side : Side) (value : Rational) → bound_on (at_least i n ∷ []) i side ≡ Some value → IsOn Lower side n value
on_lower i n Lower value e = record { side_is = refl; value_is = found (ap (λ c. cond (c && true) (Some (whole n)) None) (sym (eq_self i)) ∙ e) }
  where
    found : Some (whole n) ≡ Some value → whole n ≡ value
    found h = cc
on_lower i n Upper value e = absurd (missing (ap (λ c. cond (c && false) (Some (whole n)) None) (sym (eq_self i)) ∙ e))
  where
    missing : None ≡ Some value → ⊥
    missing h = cc

on_upper : (i : ℕ) (n : ℤ) (side : Side) (value : Rational) → bound_on (at_most i n ∷ []) i side ≡ Some value → IsOn Upper side n value
on_upper i n Upper value e = record { side_is = refl; value_is = found (ap (λ c. cond (c && true) (Some (whole n)) None) (sym (eq_self i)) ∙ e) }
  where
    found : Some (whole n) ≡ Some value → whole n ≡ value
    found h = cc
on_upper i n Lower value e = absurd (missing (ap (λ c. cond (c && false) (Some (whole n)) None) (sym (eq_self i)) ∙ e))
  where
    missing : None ≡ Some value → ⊥
    missing h = cc

-- both bounds of an equality have one value
on_both : (i : ℕ) (n : ℤ) (side : Side) (value : Rational) → bound_on (at_least i n ∷ at_most i n ∷ []) i side ≡ Some value → whole n ≡ value
on_both i n Lower value e = found (ap (λ c. cond (c && true) (Some (whole n)) (cond (c && false) (Some (whole n)) None)) (sym (eq_self i)) ∙ e)
  where
    found : Some (whole n) ≡ Some value → whole n ≡ value
    found h = cc
on_both i n Upper value e = found (ap (λ c. cond (c && false) (Some (whole n)) (cond (c && true) (Some (whole n)) None)) (sym (eq_self i)) ∙ e)
  where
    found : Some (whole n) ≡ Some value → whole n ≡ value
    found h = cc

-- ---- the form of what is read, and the row

-- what an equality has of its row, and an inequality with the other sign on the lower side
abbrev pub towards : Bool → Side → Rational → Rational
towards true side y = y
towards false side y = signed side y

-- a reading has the numbers of a row, and of a bound on it
pub record IsAlong (a : Arena) (f : IdForm) (side : Side) (value : Rational) (is_equal : Bool) (r : Reading) : Type 0 where
  pub equal : r.is_equal ≡ is_equal
  pub different : AreDifferent r.form.parts
  pub parts : (x : Term) → whole (coefficient r.form.parts x) ≡ towards is_equal side (whole (coefficient (over_trees a f.parts) x))
  pub constant : whole r.form.constant ≡ opposite (towards is_equal side value)

module _ (a : Arena) (f : IdForm) (s t : Term) (row : IsRowOf a (s, t) f) where
  different : (m : ℤ) → AreDifferent (difference s t m).parts
  different m = form-different (term Sub (terms s (terms t no_terms)))

  turned_different : (m : ℤ) → AreDifferent (difference t s m).parts
  turned_different m = form-different (term Sub (terms t (terms s no_terms)))

  parts_are : (m : ℤ) (x : Term) → whole (coefficient (difference s t m).parts x) ≡ whole (coefficient (over_trees a f.parts) x)
  parts_are m x = ap whole (sym (row.same.parts x))

  turned_parts : (m : ℤ) (x : Term) → whole (coefficient (difference t s m).parts x) ≡ opposite (whole (coefficient (over_trees a f.parts) x))
  turned_parts m x =
      turned (coefficient (difference t s m).parts x) (coefficient (over_trees a f.parts) x)
      (minus-coefficient (form t) (form s) x (form-different s)
      ∙ (exchanged (coefficient (form s).parts x) (coefficient (form t).parts x) ∙ ap neg_ℤ (sym (minus-coefficient (form s) (form t) x (form-different t)) ∙ sym (row.same.parts x))))
    where
      exchanged : (y z : ℤ) → z +ℤ negsuc 0 *ℤ y ≡ neg_ℤ (y +ℤ negsuc 0 *ℤ z)
      exchanged y z = omega (arith, ints)

  constant_is : (m : ℤ) → (difference s t m).constant ≡ f.constant +ℤ m
  constant_is m = with_none (form s).constant (form t).constant m ∙ ap (λ z. z +ℤ m) (sym row.same.constant)
    where
      with_none : (y z m : ℤ) → y +ℤ negsuc 0 *ℤ z +ℤ m ≡ y +ℤ negsuc 0 *ℤ z +ℤ pos 0 +ℤ m
      with_none y z m = omega (arith, ints)

  turned_constant : (m : ℤ) → (difference t s m).constant ≡ neg_ℤ f.constant +ℤ m
  turned_constant m = exchanged (form s).constant (form t).constant m ∙ ap (λ z. neg_ℤ z +ℤ m) (sym row.same.constant)
    where
      exchanged : (y z m : ℤ) → z +ℤ negsuc 0 *ℤ y +ℤ m ≡ neg_ℤ (y +ℤ negsuc 0 *ℤ z +ℤ pos 0) +ℤ m
      exchanged y z m = omega (arith, ints)

  -- an inequality of left - right
  along_upper : (m n : ℤ) (side : Side) (value : Rational) → f.constant +ℤ m ≡ neg_ℤ n → IsOn Upper side n value → IsAlong a f side value false (is_at_most_zero (difference s t m))
  along_upper m n side value e on = subst (λ (d : Side). IsAlong a f d value false (is_at_most_zero (difference s t m))) on.side_is (record {
    equal = refl;
    different = different m;
    parts = parts_are m;
    constant = turned (difference s t m).constant n (constant_is m ∙ e) ∙ ap opposite on.value_is;
  })

  -- an inequality of right - left
  along_lower : (m n : ℤ) (side : Side) (value : Rational) → neg_ℤ f.constant +ℤ m ≡ n → IsOn Lower side n value → IsAlong a f side value false (is_at_most_zero (difference t s m))
  along_lower m n side value e on = subst (λ (d : Side). IsAlong a f d value false (is_at_most_zero (difference t s m))) on.side_is (record {
    equal = refl;
    different = turned_different m;
    parts = turned_parts m;
    constant = back (difference t s m).constant n (turned_constant m ∙ e) ∙ ap (λ y. opposite (opposite y)) on.value_is;
  })

  along_equal : (side : Side) (value : Rational) → whole (neg_ℤ f.constant) ≡ value → IsAlong a f side value true (record { form = difference s t (pos 0); is_equal = true })
  along_equal side value e = record {
    equal = refl;
    different = different (pos 0);
    parts = parts_are (pos 0);
    constant = turned (difference s t (pos 0)).constant (neg_ℤ f.constant) (constant_is (pos 0) ∙ twice f.constant) ∙ ap opposite e;
  }
    where
      twice : (z : ℤ) → z +ℤ pos 0 ≡ neg_ℤ (neg_ℤ z)
      twice z = omega (arith, ints)

  -- what a literal is read as, along the bound that it is
  pub record IsReadAlong (side : Side) (value : Rational) (x : RowConstraint) : Type 0 where
    pub reading : Reading
    pub is : reading_of x s t ≡ Some reading
    pub along : IsAlong a f side value (says_equal x) reading

  pub read_along : (i : ℕ) (side : Side) (value : Rational) (x : RowConstraint) → bound_on (bounds_of i f.constant x) i side ≡ Some value → IsReadAlong side value x
  read_along i side value Equal bound =
      record { reading = record { form = difference s t (pos 0); is_equal = true }; is = refl; along = along_equal side value (on_both i (neg_ℤ f.constant) side value bound) }
  read_along i side value Below bound = record {
    reading = is_at_most_zero (difference s t (pos 1));
    is = refl;
    along = along_upper (pos 1) (neg_ℤ (f.constant +ℤ pos 1)) side value (twice (f.constant +ℤ pos 1)) (on_upper i (neg_ℤ (f.constant +ℤ pos 1)) side value bound);
  }
    where
      twice : (z : ℤ) → z ≡ neg_ℤ (neg_ℤ z)
      twice z = omega (arith, ints)
  read_along i side value AtMost bound = record {
    reading = is_at_most_zero (difference s t (pos 0));
    is = refl;
    along = along_upper (pos 0) (neg_ℤ f.constant) side value (twice f.constant) (on_upper i (neg_ℤ f.constant) side value bound);
  }
    where
      twice : (z : ℤ) → z +ℤ pos 0 ≡ neg_ℤ (neg_ℤ z)
      twice z = omega (arith, ints)
  read_along i side value Above bound = record {
    reading = is_at_most_zero (difference t s (pos 1));
    is = refl;
    along = along_lower (pos 1) (neg_ℤ f.constant +ℤ pos 1) side value refl (on_lower i (neg_ℤ f.constant +ℤ pos 1) side value bound);
  }
  read_along i side value AtLeast bound = record {
    reading = is_at_most_zero (difference t s (pos 0));
    is = refl;
    along = along_lower (pos 0) (neg_ℤ f.constant) side value (none_more (neg_ℤ f.constant)) (on_lower i (neg_ℤ f.constant) side value bound);
  }
    where
      none_more : (z : ℤ) → z +ℤ pos 0 ≡ z
      none_more z = omega (arith, ints)
  read_along i side value Differs bound = absurd (cc)

-- ---- one multiple

-- a multiple of what is read is the signed multiple of the row, and of the bound
times_towards : (is_equal : Bool) (side : Side) (factor y : Rational) → times (multiplier is_equal side factor) (towards is_equal side y) ≡ signed side (times factor y)
times_towards true Upper factor y = refl
times_towards true Lower factor y = opposite_times factor y
times_towards false Upper factor y = refl
times_towards false Lower factor y = times_opposite factor y

may_be_multiplied : (is_equal : Bool) (side : Side) (factor : Rational) (r : Reading) → r.is_equal ≡ is_equal → is_negative factor ≡ false → may_multiply (multiplier is_equal side factor) r ≡ true
may_be_multiplied true side factor r e h = ap (λ b. b || not (is_negative (signed side factor))) e
may_be_multiplied false side factor r e h = ap₂ (λ b c. b || not c) e h

-- a fact is read, and its multiple stands for that of a bound
record IsMultiple (a : Arena) (facts : ℕ → Option Reading) (f : IdForm) (m : Multiple) (value : Rational) (s : Source) : Type 0 where
  reading : Reading
  is : facts s.fact ≡ Some reading
  along : IsAlong a f m.side value s.is_equal reading

sourced_multiple : (a : Arena) (facts : ℕ → Option Reading) (f : IdForm) (m : Multiple) (value : Rational) (s : Source) → IsSourced a facts m.row f m.side value s → IsMultiple a facts f m value s
sourced_multiple a facts f m value s from =
    let read = read_along a f from.left from.right from.row m.row m.side value from.saying from.bound in
    record { reading = read.reading; is = from.read ∙ read.is; along = subst (λ (b : Bool). IsAlong a f m.side value b read.reading) (sym from.equal) read.along }

module _ (a : Arena) (facts : ℕ → Option Reading) (m : Multiple) (f : IdForm) (value : Rational) (s : Source) (k : IsMultiple a facts f m value s) (h : is_negative m.factor ≡ false) where
  abbrev factor : Rational
  factor = multiplier s.is_equal m.side m.factor

  factor_is : number factor.fraction ≡ factor
  factor_is = same (number factor.fraction) factor (number_is factor.fraction factor.is_lowest)

  added : (c : Combination) → add_reading (number factor.fraction) (facts s.fact) c ≡ Some (add_form factor k.reading.form c)
  added c =
      ap (λ o. add_reading (number factor.fraction) o c) k.is
      ∙ (ap (λ n. add_reading n (Some k.reading) c) factor_is
      ∙ ap (λ b. cond b (Some (add_form factor k.reading.form c)) None) (may_be_multiplied s.is_equal m.side m.factor k.reading k.along.equal h))

  number_added : (c : Combination) (x : Term) → number_at (add_form factor k.reading.form c).parts x ≡ plus (number_at c.parts x) (signed m.side (times m.factor (whole (coefficient (over_trees a f.parts) x))))
  number_added c x =
      add-number factor k.reading.form c x k.along.different
      ∙ ap (plus (number_at c.parts x)) (ap (times factor) (k.along.parts x) ∙ times_towards s.is_equal m.side m.factor (whole (coefficient (over_trees a f.parts) x)))

  constant_added : (c : Combination) → (add_form factor k.reading.form c).constant ≡ plus c.constant (opposite (signed m.side (times m.factor value)))
  constant_added c =
      ap (plus c.constant)
      (ap (times factor) k.along.constant
      ∙ (times_opposite factor (towards s.is_equal m.side value) ∙ ap opposite (times_towards s.is_equal m.side m.factor value)))

-- ---- all multiples

not_past : (forms : List IdForm) (i : ℕ) → nat_lt i (length forms) ≡ true → slice_get forms i ≡ None → ⊥
not_past [] i h e = none_below i h
  where
    none_below : (i : ℕ) → nat_lt i 0 ≡ true → ⊥
    none_below i h = grind (arith, nat_tests)
not_past (f ∷ forms) zero h e = absurd (cc)
not_past (f ∷ forms) (suc i) h e = not_past forms i (less i (length forms) h) e
  where
    less : (i n : ℕ) → nat_lt (suc i) (suc n) ≡ true → nat_lt i n ≡ true
    less i n h = grind (arith, nat_tests)

-- the sum of the facts' multiples: the rows' multiples, and the opposite of the bounds' multiples
record Sums (a : Arena) (forms : List IdForm) (bounds : List Bound) (o : Option Combination) (multiples : List Multiple) (c : Combination) : Type 0 where
  combination : Combination
  is : o ≡ Some combination
  single : AreSingle combination.parts
  numbers : (x : Term) → number_at combination.parts x ≡ plus (number_at c.parts x) (number_sum a forms multiples x)
  constant : combination.constant ≡ plus c.constant (opposite (bound_sum bounds multiples))

module _ (is_number : Term → Bool) (a : Arena) (facts : List Term) (denied : Reading) (forms : List IdForm) (bounds : List Bound) (sources : Sources)
    (are : AreSourced a (cited_reading is_number facts denied) forms bounds sources) where
  abbrev sum_from : List Multiple → Combination → Option Combination
  sum_from multiples c = sum_of is_number facts denied (fact_multiples sources multiples) c

  abbrev More : List Multiple → Type 0
  More multiples = (c : Combination) → AreSingle c.parts → Sums a forms bounds (sum_from multiples c) multiples c

  -- the row and the bound of the first multiple are there
  with_first : (m : Multiple) (multiples : List Multiple) → More multiples → (f : IdForm) → slice_get forms m.row ≡ Some f → (value : Rational) → bound_on bounds m.row m.side ≡ Some value
      → is_negative m.factor ≡ false → More (m ∷ multiples)
  with_first m multiples rest f form value bound h c single =
      let s = sources m.row m.side in
      let k = sourced_multiple a (cited_reading is_number facts denied) f m value s (are.each m.row f m.side value form bound) in
      let now = add_form (multiplier s.is_equal m.side m.factor) k.reading.form c in
      let r = rest now (add-single (multiplier s.is_equal m.side m.factor) k.reading.form c single) in
      record {
        combination = r.combination;
        is = ap (λ o. then_add o (sum_of is_number facts denied (fact_multiples sources multiples))) (added a (cited_reading is_number facts denied) m f value s k h c) ∙ r.is;
        single = r.single;
        numbers = λ x.
            r.numbers x
            ∙ (ap (λ y. plus y (number_sum a forms multiples x)) (number_added a (cited_reading is_number facts denied) m f value s k h c x)
            ∙ (plus_assoc (number_at c.parts x) (signed m.side (times m.factor (whole (coefficient (over_trees a f.parts) x)))) (number_sum a forms multiples x)
            ∙ ap (λ o. plus (number_at c.parts x) (plus (signed m.side (times m.factor (number_of_term a o x))) (number_sum a forms multiples x))) (sym form)));
        constant =
            r.constant
            ∙ (ap (λ y. plus y (opposite (bound_sum bounds multiples))) (constant_added a (cited_reading is_number facts denied) m f value s k h c)
            ∙ (plus_assoc c.constant (opposite (signed m.side (times m.factor value))) (opposite (bound_sum bounds multiples))
            ∙ (ap (plus c.constant) (sym (opposite_sum (signed m.side (times m.factor value)) (bound_sum bounds multiples)))
            ∙ ap (λ o. plus c.constant (opposite (plus (signed m.side (times m.factor (or_nothing o))) (bound_sum bounds multiples)))) (sym bound))));
      }

  first_there : (m : Multiple) (multiples : List Multiple) → is_multiple (rows_of forms) bounds m ≡ true → More multiples → (f : Option IdForm) → slice_get forms m.row ≡ f
      → (value : Option Rational) → bound_on bounds m.row m.side ≡ value → More (m ∷ multiples)
  first_there m multiples h rest None form value bound = absurd (not_past forms m.row (and_left (nat_lt m.row (length forms)) _ h) form)
  first_there m multiples h rest (Some f) form None bound =
      absurd (false≢true (sym (ap (λ o. not (is_none o)) bound) ∙ and_left (not (is_none (bound_on bounds m.row m.side))) _ (and_right (nat_lt m.row (length forms)) _ h)))
  first_there m multiples h rest (Some f) form (Some value) bound =
      with_first m multiples rest f form value bound (not_true (is_negative m.factor) (and_right (not (is_none (bound_on bounds m.row m.side))) _ (and_right (nat_lt m.row (length forms)) _ h)))

  all_sums : (multiples : List Multiple) → list_all (is_multiple (rows_of forms) bounds) multiples ≡ true → More multiples
  all_sums [] h = λ c single. record {
    combination = c;
    is = refl;
    single = single;
    numbers = λ x. sym (plus_zero (number_at c.parts x));
    constant = sym (ap (plus c.constant) opposite_nothing ∙ plus_zero c.constant);
  }
  all_sums (m ∷ multiples) h =
      first_there m multiples (and_left (is_multiple (rows_of forms) bounds m) _ h) (all_sums multiples (and_right (is_multiple (rows_of forms) bounds m) _ h)) (slice_get forms m.row) refl
      (bound_on bounds m.row m.side) refl

pub contradiction_refutes : (is_number : Term → Bool) (a : Arena) → IsArena a → (facts : List Term) (p q : Term) (forms : List IdForm) → AreIn a forms → (bounds : List Bound) (sources : Sources)
    → AreSourced a (cited_reading is_number facts (is_at_most_zero (difference q p (pos 1)))) forms bounds sources
    → (multiples : List Multiple) → IsContradiction (rows_of forms) bounds multiples → refutes is_number facts p q (fact_multiples sources multiples) ≡ true
contradiction_refutes is_number a ok facts p q forms inside bounds sources are multiples h =
    let r = all_sums is_number a facts (is_at_most_zero (difference q p (pos 1))) forms bounds sources are multiples h.each sums.nothing tt in
    ap shows_above_zero r.is
    ∙ both_true (list_all (λ (p : Term × Rational). is_zero p.1) r.combination.parts) (is_positive r.combination.constant)
    (all-zero r.combination.parts r.single (λ x. r.numbers x ∙ (ap (plus nothing) (all_cancel a ok forms inside multiples h.cancel x) ∙ plus_zero nothing)))
    (ap is_positive (r.constant ∙ zero_plus (opposite (bound_sum bounds multiples))) ∙ (positive_opposite (bound_sum bounds multiples) ∙ h.negative))
