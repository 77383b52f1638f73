-- Bounds that are asserted.
use Rattle.std.proofs.Common.{◌≡◌, ℕ, ◌+◌, ◌≤◌, Bool, true, false, cond, ◌&&◌, List, [], ◌∷◌, ◌++◌, take, drop, length, nat_eq, ℤ, refl, sym, ap, ◌∙◌, subst, Option, Some, None, append_assoc, arith}
use Rattle.std.specs.Prelude.{slice_get}
use Rattle.std.specs.Option.{option_map}
use mir.Val.{to_z, of_z}
use mir.Syntax.{w128}
use Rattle.spv_logic.proofs.list.Tests.{left_true}
use Rattle.spv_frac.specs.Range.{fits}
use Rattle.spv_atoms.proofs.Sums.{narrow}
use Rattle.std.proofs.lemmas.List.{append-nil, take-append-drop, take-append-le, length-append}
use Rattle.spv_whole.specs.Fraction.{Fraction}
use Rattle.spv_frac.specs.rational.Rational.{Rational, number}
use Rattle.spv_term.specs.Arena.{Arena}
use Rattle.spv_atoms.specs.Linear.{IdForm}
use Rattle.spv_proof_rules.specs.Sums.{Reading}
use Rattle.spv_tableau_rules.specs.declared.tableaux.side.Side.{Side}
use Rattle.spv_tableau_rules.specs.declared.tableaux.side.Side.TheVariants.{Lower, Upper}
use Rattle.spv_tableau_rules.specs.tableaux.Bounds.{Bound, bound_on, same_side}
use Rattle.spv_tableau_rules.proofs.pivots.Sums.{eq_is}
use Rattle.spv_tableau_rules.proofs.pivots.Tests.{and_left, and_right}
use Rattle.spv_dictionary.specs.pivoting.Trail.{bound_of}
use Rattle.spv_simplex.specs.State.{State, with_bound}
use Rattle.spv_tableau_rules.specs.declared.constraints.saying.RowConstraint.{RowConstraint}
use Rattle.spv_tableau_rules.specs.declared.constraints.source.Source.{Source}
use Rattle.spv_tableau_rules.specs.constraints.Sayings.{bounds_of, says_equal}
use Rattle.spv_tableau_rules.specs.constraints.Sources.{Sources, IsSourced, AreSourced, with_source}
use Rattle.spv_tableau_rules.proofs.constraints.Sourcing.{bound_stays, one_more_sourced}
use Rattle.spv_arithmetic_side.specs.declared.bounds.bounds.Bounds.{Bounds}
use Rattle.spv_arithmetic_side.specs.bounds.Bounds.{bound_at, bounds_in, has_room}
use Rattle.spv_arithmetic_side.specs.bounds.Sources.{sources_in}
use Rattle.spv_arithmetic_side.specs.bounds.Laws.{LowerIsFound, UpperIsFound}
use Rattle.spv_arithmetic_side.specs.slack_rows.Rows.{HaveRoom}
use Rattle.spv_arithmetic_side.specs.declared.constraint_rows.standing.Standing.{Standing}
use Rattle.spv_arithmetic_side.specs.constraint_rows.Standing.{Adds, AreBoundsOf, ComesFrom, IsStanding, SaidBy, Sourced}

same_side_is : (s t : Side) → same_side s t ≡ true → s ≡ t
same_side_is Lower Lower h = refl
same_side_is Upper Upper h = refl
same_side_is Lower Upper h = absurd (cc)
same_side_is Upper Lower h = absurd (cc)

-- a side that is free among bounds is free among the first of them
free_before : (bounds : List Bound) (n row : ℕ) (side : Side) → bound_on bounds row side ≡ None → bound_on (take n bounds) row side ≡ None
free_before bounds n row side free = by_option (bound_on (take n bounds) row side) refl
  where
    by_option : (o : Option Rational) → bound_on (take n bounds) row side ≡ o → bound_on (take n bounds) row side ≡ None
    by_option None e = e
    by_option (Some x) e =
        let there : bound_on bounds row side ≡ Some x = subst (λ (bs : List Bound). bound_on bs row side ≡ Some x) (take-append-drop n bounds) (bound_stays (take n bounds) (drop n bounds) row side x e) in
        absurd (clash (sym free ∙ there))
      where
        clash : None ≡ Some x → ⊥
        clash h = cc

-- another source for a free side
other_source : (a : Arena) (read : ℕ → Option Reading) (forms : List IdForm) (bounds : List Bound) (sources : Sources) (row : ℕ) (side : Side) (s : Source) → bound_on bounds row side ≡ None
    → AreSourced a read forms bounds sources → AreSourced a read forms bounds (with_source sources row side s)
other_source a read forms bounds sources row side s free are = record { each = λ i f d value at bound. by_case i f d value at bound (nat_eq row i && same_side side d) refl }
  where
    clash : (value : Rational) → None ≡ Some value → ⊥
    clash value h = cc

    by_case : (i : ℕ) (f : IdForm) (d : Side) (value : Rational) → slice_get forms i ≡ Some f → bound_on bounds i d ≡ Some value → (c : Bool) → (nat_eq row i && same_side side d) ≡ c
        → IsSourced a read i f d value (cond c s (sources i d))
    by_case i f d value at bound false e = are.each i f d value at bound
    by_case i f d value at bound true e =
        let row_is : row ≡ i = eq_is row i (and_left (nat_eq row i) (same_side side d) e) in
        let side_is : side ≡ d = same_side_is side d (and_right (nat_eq row i) (same_side side d) e) in
        absurd (clash value (sym free ∙ (ap (λ (j : ℕ). bound_on bounds j side) row_is ∙ (ap (bound_on bounds i) side_is ∙ bound))))

-- ---- one bound more

pub adds_none : (b : Standing) → Adds b b []
adds_none b = record { forms = refl; pivots = refl; bounds = sym (append-nil b.tableau.bounds); first = λ a read n h k. k }

-- the tableau with one bound more, and its source noted
pub record AssertsOne (old new : Standing) (row : ℕ) (side : Side) (v : Fraction) (s : Source) : Type 0 where
  pub tableau : new.tableau ≡ with_bound old.tableau (bound_of row side (number v))
  pub sources : sources_in new.sources.items ≡ with_source (sources_in old.sources.items) row side s
  pub many : length new.sources.items ≡ length old.sources.items
  pub forms : new.forms.items ≡ old.forms.items
  pub free : bound_on old.tableau.bounds row side ≡ None

module _ (old new : Standing) (row : ℕ) (side : Side) (v : Fraction) (s : Source) (one : AssertsOne old new row side v s) where
  forms_same : new.tableau.forms ≡ old.tableau.forms
  forms_same = ap (λ (t : State). t.forms) one.tableau

  bounds_are : new.tableau.bounds ≡ old.tableau.bounds ++ bound_of row side (number v) ∷ []
  bounds_are = ap (λ (t : State). t.bounds) one.tableau

  pub one_stands : IsStanding old → IsStanding new
  one_stands h = record {
    forms = one.forms ∙ (h.forms ∙ sym forms_same);
    sources = one.many ∙ (h.sources ∙ sym (ap length forms_same));
    room = subst HaveRoom (sym forms_same) h.room;
    trail = ap (λ (t : State). t.trail) one.tableau ∙ (h.trail ∙ ap (λ (fs : List IdForm). length fs + length fs) (sym forms_same));
  }

  moved : (a : Arena) (read : ℕ → Option Reading) (bounds : List Bound) → AreSourced a read old.tableau.forms bounds (with_source (sources_in old.sources.items) row side s) → Sourced a read new bounds
  moved a read bounds h = subst (λ (fs : List IdForm). AreSourced a read fs bounds (sources_in new.sources.items)) (sym forms_same) (subst (λ (ss : Sources). AreSourced a read old.tableau.forms bounds ss) (sym one.sources) h)

  pub one_adds : Adds old new (bound_at row side (Some v))
  one_adds = record {
    forms = forms_same;
    pivots = ap (λ (t : State). t.pivots) one.tableau;
    bounds = bounds_are;
    first = λ a read n within h.
        moved a read (take n old.tableau.bounds)
        (other_source a read old.tableau.forms (take n old.tableau.bounds) (sources_in old.sources.items) row side s (free_before old.tableau.bounds n row side one.free) h);
  }

  pub one_sourced : (a : Arena) (read : ℕ → Option Reading) → Sourced a read old old.tableau.bounds → ComesFrom a read old row side (Some v) s → Sourced a read new new.tableau.bounds
  one_sourced a read h from =
      subst (λ (bs : List Bound). Sourced a read new bs) (sym bounds_are)
      (moved a read (old.tableau.bounds ++ bound_of row side (number v) ∷ [])
      (one_more_sourced a read old.tableau.forms old.tableau.bounds (sources_in old.sources.items) h (bound_of row side (number v)) s one.free from))

-- ---- one after the other

take_more : (xs ys : List Bound) (n : ℕ) → n ≤ length xs → take n (xs ++ ys) ≡ take n xs
take_more xs ys n h = take-append-le n xs ys h

pub adds_then : (old mid new : Standing) (more last : List Bound) → Adds old mid more → Adds mid new last → Adds old new (more ++ last)
adds_then old mid new more last g h = record {
  forms = h.forms ∙ g.forms;
  pivots = h.pivots ∙ g.pivots;
  bounds = h.bounds ∙ (ap (λ bs. bs ++ last) g.bounds ∙ append_assoc old.tableau.bounds more last);
  first = λ a read n within k.
      let here : take n mid.tableau.bounds ≡ take n old.tableau.bounds = ap (take n) g.bounds ∙ take_more old.tableau.bounds more n within in
      subst (λ (bs : List Bound). Sourced a read new bs) here
      (h.first a read n (longer n within) (subst (λ (bs : List Bound). Sourced a read mid bs) (sym here) (g.first a read n within k)));
}
  where
    longer : (n : ℕ) → n ≤ length old.tableau.bounds → n ≤ length mid.tableau.bounds
    longer n w = let e : length mid.tableau.bounds ≡ length (old.tableau.bounds ++ more) = ap length g.bounds in omega (arith, length-append {A = Bound})

-- ---- a saying

module _ (lower : LowerIsFound) (upper : UpperIsFound) where
  found : (b : Bounds) (row : ℕ) (side : Side) (o : Option Fraction) → bound_on (bounds_in row b) row side ≡ option_map number o → (v : Fraction) → o ≡ Some v → bound_on (bounds_in row b) row side ≡ Some (number v)
  found b row side o e v is = e ∙ ap (option_map number) is

  comes : (a : Arena) (read : ℕ → Option Reading) (st : Standing) (row : ℕ) (side : Side) (s : Source) (o : Option Fraction)
      → ((v : Fraction) → o ≡ Some v → (f : IdForm) → slice_get st.tableau.forms row ≡ Some f → IsSourced a read row f side (number v) s) → ComesFrom a read st row side o s
  comes a read st row side s None h = tt
  comes a read st row side s (Some v) h = h v refl

  -- each of the two bounds comes from what is said
  pub lower_comes : (a : Arena) (read : ℕ → Option Reading) (st : Standing) (row : ℕ) (x : RowConstraint) (k : ℕ) (z : ℤ) (b : Bounds) (e : Bool) → ((f : IdForm) → slice_get st.tableau.forms row ≡ Some f → z ≡ f.constant)
      → ((row : ℕ) → bounds_in row b ≡ bounds_of row z x) → e ≡ says_equal x → SaidBy a read st row x k → ComesFrom a read st row Lower b.lower (record { fact = k; is_equal = e })
  lower_comes a read st row x k z b e constant are same said =
      comes a read st row Lower (record { fact = k; is_equal = e }) b.lower
      (λ v is f at.
      subst (λ (q : Bool). IsSourced a read row f Lower (number v) (record { fact = k; is_equal = q })) (sym same)
      (said f at Lower (number v) (subst (λ (bs : List Bound). bound_on bs row Lower ≡ Some (number v)) (are row ∙ ap (λ y. bounds_of row y x) (constant f at)) (found b row Lower b.lower (lower row b) v is))))

  pub upper_comes : (a : Arena) (read : ℕ → Option Reading) (st : Standing) (row : ℕ) (x : RowConstraint) (k : ℕ) (z : ℤ) (b : Bounds) (e : Bool) → ((f : IdForm) → slice_get st.tableau.forms row ≡ Some f → z ≡ f.constant)
      → ((row : ℕ) → bounds_in row b ≡ bounds_of row z x) → e ≡ says_equal x → SaidBy a read st row x k → ComesFrom a read st row Upper b.upper (record { fact = k; is_equal = e })
  upper_comes a read st row x k z b e constant are same said =
      comes a read st row Upper (record { fact = k; is_equal = e }) b.upper
      (λ v is f at.
      subst (λ (q : Bool). IsSourced a read row f Upper (number v) (record { fact = k; is_equal = q })) (sym same)
      (said f at Upper (number v) (subst (λ (bs : List Bound). bound_on bs row Upper ≡ Some (number v)) (are row ∙ ap (λ y. bounds_of row y x) (constant f at)) (found b row Upper b.upper (upper row b) v is))))

-- what comes from a fact comes from it where the rows are the same
pub comes_along : (a : Arena) (read : ℕ → Option Reading) (old new : Standing) (row : ℕ) (side : Side) (o : Option Fraction) (s : Source) → new.tableau.forms ≡ old.tableau.forms → ComesFrom a read old row side o s → ComesFrom a read new row side o s
comes_along a read old new row side None s e h = tt
comes_along a read old new row side (Some v) s e h = λ f at. h f (ap (λ fs. slice_get fs row) (sym e) ∙ at)

-- a constant that was read, where there is room
pub constant_is : (r k : ℤ) → has_room r ≡ true → r ≡ k → to_z w128 (of_z w128 r) ≡ k
constant_is r k room e = narrow r (left_true (fits r) _ room) ∙ e

-- all bounds of a saying were asserted
pub all_adds : (old mid new : Standing) (row : ℕ) (x : RowConstraint) (z : ℤ) (b : Bounds) (l u : Bool) → ((f : IdForm) → slice_get old.tableau.forms row ≡ Some f → z ≡ f.constant) → has_room z ≡ true
    → ((row : ℕ) → bounds_in row b ≡ bounds_of row (to_z w128 (of_z w128 z)) x) → l ≡ true → u ≡ true → Adds old mid (cond l (bound_at row Lower b.lower) []) → Adds mid new (cond u (bound_at row Upper b.upper) [])
    → (bounds : List Bound) → AreBoundsOf old row x bounds → Adds old new bounds
all_adds old mid new row x z b l u constant room are lower_all upper_all first second bounds of =
    let P : List Bound → Type 0 = λ bs. Adds old new bs in
    let both : Adds old new (bounds_in row b) =
    adds_then old mid new (bound_at row Lower b.lower) (bound_at row Upper b.upper)
    (subst (λ (q : Bool). Adds old mid (cond q (bound_at row Lower b.lower) [])) lower_all first)
    (subst (λ (q : Bool). Adds mid new (cond q (bound_at row Upper b.upper) [])) upper_all second) in
    subst P (are row ∙ (ap (λ y. bounds_of row y x) (constant_is z of.form.constant room (constant of.form of.there)) ∙ sym of.are)) both
