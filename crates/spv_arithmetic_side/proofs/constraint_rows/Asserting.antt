-- The bounds that were ever asserted, and the evidence over them.
use Rattle.std.proofs.Common.{◌≡◌, ℕ, ◌+◌, ◌<◌, true, false, ℤ, List, [], ◌∷◌, ◌++◌, length, refl, sym, ap, ◌∙◌, subst, Option, Some, None, Result, Ok, Err, IfOk, inl, inr, arith}
use Rattle.std.specs.Prelude.{slice_get, ◌⊎◌}
use Rattle.std.proofs.lemmas.Bool.{cases_lt}
use Rattle.std.proofs.lemmas.List.{length_push}
use Rattle.std.proofs.lemmas.Option.{slice_get_within, same_Some}
use mir.Val.{to_z, of_z}
use mir.Syntax.{w128}
use Rattle.spv_whole.specs.Fraction.{Fraction}
use Rattle.spv_frac.specs.rational.Rational.{Rational, number}
use Rattle.spv_term.proofs.ListLemmas.{slice_get-append_left, slice_get_push}
use Rattle.spv_atoms.specs.Linear.{IdForm}
use Rattle.spv_tableau_rules.specs.declared.tableaux.side.Side.TheVariants.{Lower, Upper}
use Rattle.spv_tableau_rules.specs.tableaux.Rows.{column_of}
use Rattle.spv_tableau_rules.specs.tableaux.Bounds.{AreBounds, Bound}
use Rattle.spv_tableau_rules.specs.tableaux.Solved.{basis_of, is_basic}
use Rattle.spv_tableau_rules.specs.tableaux.Forms.{rows_of}
use Rattle.spv_tableau_rules.specs.tableaux.Walks.{held_at, HoldsBounds, IsBoundOf, IsUnfinished, IsWide}
use Rattle.spv_dictionary.specs.Dictionary.{places}
use Rattle.spv_dictionary.specs.pivoting.Trail.{bound_of}
use Rattle.spv_simplex.specs.declared.checked.Checked.{Checked}
use Rattle.spv_simplex.specs.declared.checked.Checked.TheVariants.{Feasible, Infeasible, Wide, Pivots}
use Rattle.spv_simplex.specs.State.{State, IsOpened, IsTableau, kept_point, rows_in, with_bound, with_first}
use Rattle.spv_simplex.specs.Checks.{BeginsWith, HoldsAsserted, IsAmong, IsChecked}
use Rattle.spv_simplex.specs.Laws.{AssertsOne, OpensWithNone, UndoesNone}
use Rattle.spv_tableau_rules.specs.declared.constraints.saying.RowConstraint.{RowConstraint}
use Rattle.spv_tableau_rules.specs.constraints.Sayings.{bounds_of}
use Rattle.spv_arithmetic_side.specs.declared.bounds.bounds.Bounds.{Bounds}
use Rattle.spv_arithmetic_side.specs.bounds.Bounds.{bound_at, bounds_in, has_room}
use Rattle.spv_arithmetic_side.specs.declared.constraint_rows.standing.Standing.{Standing}
use Rattle.spv_arithmetic_side.specs.declared.constraint_rows.forcing.Tried.{Tried}
use Rattle.spv_arithmetic_side.specs.declared.constraint_rows.forcing.Tried.TheVariants.{Refuted, Met, Stopped}
use Rattle.spv_arithmetic_side.specs.constraint_rows.Standing.{HasSaid, IsAmongIf}
use Rattle.spv_arithmetic_side.specs.constraint_rows.Forcing.{all_pivots, Halts, HasEvidence, IsOutcome, too_wide}
use Rattle.spv_arithmetic_side.proofs.constraint_rows.Adding.{constant_is}

-- ---- a bound that is among those already

among_again : (known : List Bound) (b x : Bound) → IsAmong known b → IsAmong (known ++ b ∷ []) x → IsAmong known x
among_again known b x k h = elim (cases_lt h.place (length known)) [
  | inl below ↦ record { place = h.place; there = sym (slice_get-append_left known (b ∷ []) h.place below) ∙ h.there }
  | inr above ↦
      let within = slice_get_within (known ++ b ∷ []) h.place x h.there in
      let last : h.place ≡ length known = omega (arith, length_push known b) in
      let same : b ≡ x = same_Some b x (sym (slice_get_push known b) ∙ ap (slice_get (known ++ b ∷ [])) (sym last) ∙ h.there) in
      subst (IsAmong known) same k
]

bound_again : (known : List Bound) (b : Bound) (i : ℕ) (value : Rational) → IsAmong known b → IsBoundOf (known ++ b ∷ []) i value → IsBoundOf known i value
bound_again known b i value k h =
    let m = among_again known b h.bound k (record { place = h.place; there = h.there }) in
    record { place = m.place; bound = h.bound; there = m.there; row = h.row; same = h.same }

again : (known : List Bound) (s : State) (b : Bound) → IsAmong known b → HoldsAsserted (known ++ b ∷ []) s → HoldsAsserted known s
again known s b k h = record {
  standing = λ place x there. among_again known b x k (h.standing place x there);
  held = record {
    parts = h.held.parts;
    row_columns = λ i below out. bound_again known b i (kept_point s (column_of (rows_in s) i)) k (h.held.row_columns i below out);
  };
}

pub asserted_once : AssertsOne → (known : List Bound) (old new : State) (b : Bound) → new ≡ with_bound old b → IsAmong known b → HoldsAsserted known old → HoldsAsserted known new
asserted_once law known old new b e k h = subst (λ (s : State). HoldsAsserted known s) (sym e) (again known (with_bound old b) b k (law known old b h))

pub asserted_still : UndoesNone → (known : List Bound) (old new : State) (n : ℕ) → new ≡ with_first old n → HoldsAsserted known old → HoldsAsserted known new
asserted_still law known old new n e h = subst (λ (s : State). HoldsAsserted known s) (sym e) (law known old n h)

-- as it begins, none was asserted
abbrev bounds_none : List Bound
bounds_none = []

pub asserted_none : OpensWithNone → (known : List Bound) (forms : List IdForm) (trail pivots : ℕ) (s : State) → IsOpened forms trail pivots s → HoldsAsserted known s
asserted_none law known forms trail pivots s o =
    let h = law forms trail pivots s o in
    record {
      standing = λ place x there. let k = h.standing place x there in absurd (nothing k.place x k.there);
      held = record {
        parts = h.held.parts;
        row_columns = λ i below out. let k = h.held.row_columns i below out in absurd (nothing k.place k.bound k.there);
      };
    }
  where
    nothing : (place : ℕ) (x : Bound) → slice_get bounds_none place ≡ Some x → ⊥
    nothing place x e = cc

-- ---- the bounds of a saying

low : (known : List Bound) (row : ℕ) (l u : Option Fraction) → ((j : ℕ) (bound : Bound) → slice_get (bound_at row Lower l ++ bound_at row Upper u) j ≡ Some bound → IsAmong known bound) → IsAmongIf known row Lower l
low known row None u h = tt
low known row (Some v) u h = h 0 (bound_of row Lower (number v)) refl

high : (known : List Bound) (row : ℕ) (l u : Option Fraction) → ((j : ℕ) (bound : Bound) → slice_get (bound_at row Lower l ++ bound_at row Upper u) j ≡ Some bound → IsAmong known bound) → IsAmongIf known row Upper u
high known row l None h = tt
high known row None (Some v) h = h 0 (bound_of row Upper (number v)) refl
high known row (Some w) (Some v) h = h 1 (bound_of row Upper (number v)) refl

module _ (known : List Bound) (st : Standing) (row : ℕ) (x : RowConstraint) (bs : Bounds) (constant : ℤ) (form : (f : IdForm) → slice_get st.tableau.forms row ≡ Some f → constant ≡ f.constant) (room : has_room constant ≡ true)
    (are : (row : ℕ) → bounds_in row bs ≡ bounds_of row (to_z w128 (of_z w128 constant)) x) (said : HasSaid known st row x) (f : IdForm) (at : slice_get st.tableau.forms row ≡ Some f) where
  all_among : (j : ℕ) (bound : Bound) → slice_get (bounds_in row bs) j ≡ Some bound → IsAmong known bound
  all_among j bound there =
      said.each f at j bound (ap (λ xs. slice_get xs j) (sym (are row ∙ ap (λ y. bounds_of row y x) (constant_is constant f.constant room (form f at)))) ∙ there)

  pub lower_among : IsAmongIf known row Lower bs.lower
  lower_among = low known row bs.lower bs.upper all_among

  pub upper_among : IsAmongIf known row Upper bs.upper
  upper_among = high known row bs.lower bs.upper all_among

-- ---- the evidence of a check that was stopped

module _ (known : List Bound) (old new : State) (kept : IsTableau old) (asserted : HoldsAsserted known old) (forms : new.forms ≡ old.forms) (pivots : new.pivots ≡ old.pivots) (b : BeginsWith old new.evidence.start) where
  outside : (c : ℕ) → is_basic (basis_of new.evidence.start.basis c) ≡ false → is_basic (places old.form c) ≡ false
  outside c out = sym (b.in_basis c) ∙ out

  part_column : (parts count c : ℕ) → c < parts → c < parts + count
  part_column parts count c h = omega arith

  row_column : (parts count i : ℕ) → i < count → parts + i < parts + count
  row_column parts count i h = omega arith

  began : HoldsBounds (rows_of old.forms) known (basis_of new.evidence.start.basis) (held_at new.evidence.start.held)
  began = record {
    parts = λ c below out. b.held c (part_column (rows_in old).parts (rows_in old).count c below) (outside c out) ∙ asserted.held.parts c below (outside c out);
    row_columns = λ i below out.
        let c : ℕ = column_of (rows_in old) i in
        let k = asserted.held.row_columns i below (outside (column_of (rows_in old) i) out) in
        record {
          place = k.place;
          bound = k.bound;
          there = k.there;
          row = k.row;
          same = k.same ∙ sym (b.held (column_of (rows_in old) i) (row_column (rows_in old).parts (rows_in old).count i below) (outside (column_of (rows_in old) i) out));
        };
  }

  evidence_by : Halts new → HasEvidence known new
  evidence_by halts = record {
    bounds = λ place x there. asserted.standing place x (ap (λ xs. slice_get xs place) (sym b.bounds) ∙ there);
    are =
        let P : List IdForm → Type 0 = λ fs. AreBounds (rows_of fs) new.evidence.start.bounds in
        let Q : List Bound → Type 0 = λ xs. AreBounds (rows_of old.forms) xs in
        subst P (sym forms) (subst Q (sym b.bounds) kept.bounds);
    held = let P : List IdForm → Type 0 = λ fs. HoldsBounds (rows_of fs) known (basis_of new.evidence.start.basis) (held_at new.evidence.start.held) in subst P (sym forms) began;
    halts = halts;
  }

pub stopped_evidence : (known : List Bound) (old new : State) (answer : Checked) → IsTableau old → HoldsAsserted known old → IsChecked old new answer → (answer ≡ Wide) ⊎ (answer ≡ Pivots) → HasEvidence known new
stopped_evidence known old new Feasible kept asserted is stopped = absurd (elim stopped [ inl w ↦ cc | inr p ↦ cc ])
stopped_evidence known old new Infeasible kept asserted is stopped = absurd (elim stopped [ inl w ↦ cc | inr p ↦ cc ])
stopped_evidence known old new Wide kept asserted is stopped =
    evidence_by known old new kept asserted is.forms is.pivots is.means.begins
    (too_wide is.answered (let P : List IdForm → Type 0 = λ fs. IsWide (rows_of fs) new.evidence.start new.evidence.steps new.evidence.operation in subst P (sym is.forms) is.means.wide))
stopped_evidence known old new Pivots kept asserted is stopped =
    evidence_by known old new kept asserted is.forms is.pivots is.means.begins
    (all_pivots is.answered
    (let P : List IdForm → Type 0 = λ fs. IsUnfinished (rows_of fs) new.evidence.start new.evidence.steps new.pivots in
    let Q : ℕ → Type 0 = λ n. IsUnfinished (rows_of old.forms) new.evidence.start new.evidence.steps n in
    subst P (sym is.forms) (subst Q (sym is.pivots) is.means.unfinished)) is.means.operation)

-- it stays where bounds are taken back
first_halts : (s : State) (n : ℕ) → Halts s → Halts (with_first s n)
first_halts s n (too_wide e w) = too_wide e w
first_halts s n (all_pivots e u o) = all_pivots e u o

first_evidence : (known : List Bound) (s : State) (n : ℕ) → HasEvidence known s → HasEvidence known (with_first s n)
first_evidence known s n h = record { bounds = h.bounds; are = h.are; held = h.held; halts = first_halts s n h.halts }

-- a try that was stopped
pub tried_evidence : {E : Type 0} (known : List Bound) (r : Result Tried E) (b : Standing) (old new last : State) (checked : Checked) (n : ℕ) → IsTableau old → HoldsAsserted known old → IsChecked old new checked
    → last ≡ with_first new n → IfOk r (λ t. IsOutcome b checked t) → IfOk r (λ t. t ≡ Stopped → HasEvidence known last)
tried_evidence known (Err e) b old new last checked n kept asserted is same h = tt
tried_evidence known (Ok t) b old new last checked n kept asserted is same h = λ e. by_tried t h e
  where
    by_tried : (t : Tried) → IsOutcome b checked t → t ≡ Stopped → HasEvidence known last
    by_tried Stopped h e = subst (λ (s : State). HasEvidence known s) (sym same) (first_evidence known new n (stopped_evidence known old new checked kept asserted is h))
    by_tried (Refuted ms) h e = absurd (cc)
    by_tried Met h e = absurd (cc)
