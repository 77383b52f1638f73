-- What is tried of a row, and what a check comes to.
use Rattle.std.proofs.Common.{◌≡◌, ℕ, ◌+◌, ◌<◌, ◌≤◌, List, [], ◌∷◌, ◌++◌, take, length, pos, refl, sym, ap, ◌∙◌, subst, Option, Some, inl, inr, arith}
use Rattle.std.proofs.lemmas.List.{append-nil}
use Rattle.spv_whole.specs.Fraction.{Fraction}
use Rattle.spv_term.specs.Arena.{Arena}
use Rattle.spv_atoms.specs.Linear.{IdForm}
use Rattle.spv_proof_rules.specs.Sums.{Reading, difference, is_at_most_zero, cited_reading, refutes}
use Rattle.spv_tableau_rules.specs.tableaux.Bounds.{Bound, breaks, limits, Meets}
use Rattle.spv_tableau_rules.specs.tableaux.Forms.{rows_of}
use Rattle.spv_tableau_rules.specs.tableaux.Contradictions.{Multiple, IsContradiction}
use Rattle.spv_derivations.specs.declared.derivation.entries.Entry.{Entry}
use Rattle.spv_derivations.specs.derivation.Derivation.{facts}
use Rattle.spv_derivations.specs.derivation.Derived.{is_number}
use Rattle.spv_simplex.specs.declared.checked.Checked.{Checked}
use Rattle.spv_simplex.specs.declared.checked.Checked.TheVariants.{Feasible, Infeasible}
use Rattle.spv_simplex.specs.State.{State, IsTableau, kept_point}
use Rattle.spv_simplex.specs.Checks.{IsChecked, IsFeasible, IsInfeasible, Means}
use Rattle.spv_tableau_rules.specs.declared.constraints.saying.RowConstraint.{RowConstraint}
use Rattle.spv_tableau_rules.specs.constraints.Relations.{AreIn}
use Rattle.spv_tableau_rules.specs.constraints.Sources.{AreSourced, fact_multiples}
use Rattle.spv_tableau_rules.proofs.constraints.Sourcing.{kept_in_step}
use Rattle.spv_tableau_rules.specs.tableaux.Rows.{column_of, IsSolution}
use Rattle.spv_arithmetic_side.specs.declared.bounds.sources.RowSources.{RowSources}
use Rattle.spv_arithmetic_side.specs.bounds.Sources.{sources_in}
use Rattle.std.specs.Prelude.{slice_get}
use Rattle.spv_arithmetic_side.specs.farkas.Refuted.{IsRefuted}
use Rattle.spv_arithmetic_side.specs.farkas.Laws.{RefutedAbove}
use Rattle.spv_arithmetic_side.specs.slack_rows.Rows.{HaveRoom}
use Rattle.spv_arithmetic_side.specs.declared.constraint_rows.standing.Standing.{Standing}
use Rattle.spv_arithmetic_side.specs.declared.constraint_rows.forcing.Tried.{Tried}
use Rattle.spv_arithmetic_side.specs.declared.constraint_rows.forcing.Tried.TheVariants.{Refuted, Met, Stopped}
use Rattle.spv_arithmetic_side.specs.constraint_rows.Standing.{Adds, AddsSome, IsBack, IsMetAt, IsStanding, readings, SaidBy, Sourced}
use Rattle.spv_arithmetic_side.specs.constraint_rows.Said.{IsGiven}
use Rattle.spv_arithmetic_side.proofs.constraint_rows.Firsts.{met_first}
use Rattle.spv_arithmetic_side.proofs.constraint_rows.Given.{given_stands}
use Rattle.spv_arithmetic_side.proofs.constraint_rows.Meeting.{stands_met}
use Rattle.spv_arithmetic_side.specs.constraint_rows.Forcing.{HasPoint, IsOutcome, IsStopped, IsTried, Refutes}

-- the same rows, sources and forms, with another tableau
pub record IsBeside (old new : Standing) : Type 0 where
  pub forms : new.tableau.forms ≡ old.tableau.forms
  pub pivots : new.tableau.pivots ≡ old.tableau.pivots
  pub trail : new.tableau.trail ≡ old.tableau.trail
  pub kept : new.forms.items ≡ old.forms.items
  pub sources : new.sources.items ≡ old.sources.items

pub beside_stands : (old new : Standing) → IsBeside old new → IsStanding old → IsStanding new
beside_stands old new s h = record {
  forms = s.kept ∙ (h.forms ∙ sym s.forms);
  sources = ap length s.sources ∙ (h.sources ∙ sym (ap length s.forms));
  room = subst HaveRoom (sym s.forms) h.room;
  trail = s.trail ∙ (h.trail ∙ ap (λ (fs : List IdForm). length fs + length fs) (sym s.forms));
}

pub beside_sourced : (a : Arena) (read : ℕ → Option Reading) (old new : Standing) (bounds : List Bound) → IsBeside old new → Sourced a read old bounds → Sourced a read new bounds
beside_sourced a read old new bounds s h =
    subst (λ (fs : List IdForm). AreSourced a read fs bounds (sources_in new.sources.items)) (sym s.forms)
    (ap_sources (sym s.sources) h)
  where
    ap_sources : old.sources.items ≡ new.sources.items → AreSourced a read old.tableau.forms bounds (sources_in old.sources.items) → AreSourced a read old.tableau.forms bounds (sources_in new.sources.items)
    ap_sources e k = let P : List RowSources → Type 0 = λ xs. AreSourced a read old.tableau.forms bounds (sources_in xs) in subst P e k

take_all : (xs ys : List Bound) → take (length xs) (xs ++ ys) ≡ xs
take_all [] [] = refl
take_all [] (y ∷ ys) = refl
take_all (x ∷ xs) ys = ap (λ zs. x ∷ zs) (take_all xs ys)

module _ (old mid new : Standing) (row : ℕ) (x : RowConstraint) (adds : AddsSome old mid) (beside : IsBeside mid new) (n : ℕ) (count : n ≡ length old.tableau.bounds) (first : new.tableau.bounds ≡ take n mid.tableau.bounds) where
  taken : new.tableau.bounds ≡ old.tableau.bounds
  taken = first ∙ (ap (λ k. take k mid.tableau.bounds) count ∙ (ap (take (length old.tableau.bounds)) adds.adds.bounds ∙ take_all old.tableau.bounds adds.more))

  pub goes_back : IsBack old new
  goes_back = record {
    forms = beside.forms ∙ adds.adds.forms;
    pivots = beside.pivots ∙ adds.adds.pivots;
    bounds = taken;
    first = λ a read k within h. beside_sourced a read mid new (take k old.tableau.bounds) beside (adds.adds.first a read k within h);
  }

module _ (law : RefutedAbove) (old mid : Standing) (row : ℕ) (x : RowConstraint) (adds : AddsSome old mid)
    (sourced : (a : Arena) (read : ℕ → Option Reading) → Sourced a read old old.tableau.bounds → SaidBy a read old row x 0 → Sourced a read mid mid.tableau.bounds)
    (inside : row < length old.tableau.forms) (given : IsGiven old mid row x) (table : State) (checked : Checked) (is : IsChecked mid.tableau table checked) where
  pub refuted : (multiples : List (Fraction × ℕ)) → checked ≡ Infeasible → multiples ≡ fact_multiples (sources_in mid.sources.items) table.combination → Refutes old row x multiples
  refuted multiples e m = record {
    shown = λ a es p q ok inside stands by.
        let cited = cited_reading (is_number a) (facts a es) (is_at_most_zero (difference q p (pos 1))) in
        let step : Sourced a cited old old.tableau.bounds =
        kept_in_step (is_number a) a (facts a es) (is_at_most_zero (difference q p (pos 1))) old.tableau.forms old.tableau.bounds (sources_in old.sources.items) stands in
        let now : Sourced a cited mid mid.tableau.bounds = sourced a cited step by in
        ap (refutes (is_number a) (facts a es) p q) m
        ∙ law a ok es p q (sources_in mid.sources.items) table.combination (record {
          forms = mid.tableau.forms;
          bounds = mid.tableau.bounds;
          inside = subst (AreIn a) (sym adds.adds.forms) inside;
          sourced = now;
          contradiction = contradicts (infeasible checked e is.means);
        });
  }
    where
      infeasible : (c : Checked) → c ≡ Infeasible → Means c mid.tableau table → IsInfeasible table
      infeasible c e h = let P : Checked → Type 0 = λ k. Means k mid.tableau table in subst P e h

      contradicts : IsInfeasible table → IsContradiction (rows_of mid.tableau.forms) mid.tableau.bounds table.combination
      contradicts h =
          let P : List IdForm → Type 0 = λ fs. IsContradiction (rows_of fs) table.bounds table.combination in
          let Q : List Bound → Type 0 = λ bs. IsContradiction (rows_of mid.tableau.forms) bs table.combination in
          subst Q is.bounds (subst P is.forms h)

  pub point_met : checked ≡ Feasible → IsTableau table → HasPoint old row x
  point_met e kept = record { point = kept_point table; solution = solution; stand = stand; meets = meets }
    where
      feasible : (c : Checked) → c ≡ Feasible → Means c mid.tableau table → IsFeasible table
      feasible c e h = let P : Checked → Type 0 = λ k. Means k mid.tableau table in subst P e h

      solution : IsSolution (rows_of old.tableau.forms) (kept_point table)
      solution = let P : List IdForm → Type 0 = λ fs. IsSolution (rows_of fs) (kept_point table) in subst P (is.forms ∙ adds.adds.forms) kept.solution

      met : Meets (limits (rows_of mid.tableau.forms) mid.tableau.bounds) (kept_point table)
      met =
          let P : List IdForm → Type 0 = λ fs. Meets (limits (rows_of fs) table.bounds) (kept_point table) in
          let Q : List Bound → Type 0 = λ bs. Meets (limits (rows_of mid.tableau.forms) bs) (kept_point table) in
          subst Q is.bounds (subst P is.forms (feasible checked e is.means))

      first : take (length old.tableau.bounds) mid.tableau.bounds ≡ old.tableau.bounds
      first = ap (take (length old.tableau.bounds)) adds.adds.bounds ∙ take_all old.tableau.bounds adds.more

      stand : Meets (limits (rows_of old.tableau.forms) old.tableau.bounds) (kept_point table)
      stand =
          let P : List IdForm → Type 0 = λ fs. Meets (limits (rows_of fs) old.tableau.bounds) (kept_point table) in
          let Q : List Bound → Type 0 = λ bs. Meets (limits (rows_of mid.tableau.forms) bs) (kept_point table) in
          subst P adds.adds.forms (subst Q first (met_first (rows_of mid.tableau.forms) mid.tableau.bounds (length old.tableau.bounds) (kept_point table) met))

      meets : IsMetAt old row x (kept_point table)
      meets =
          let there = stands_met mid row x (kept_point table) met (given_stands old mid row x inside adds.adds.forms given) in
          record {
            each = λ f at j bound is_bound.
                ap (λ (fs : List IdForm). breaks bound.side bound.value (kept_point table (column_of (rows_of fs) row))) (sym adds.adds.forms)
                ∙ there.each f (ap (λ fs. slice_get fs row) adds.adds.forms ∙ at) j bound is_bound;
          }

  -- what came of it
  pub tried_is : IsTableau table → (b : Standing) → b.tableau ≡ table → b.sources.items ≡ mid.sources.items → (t : Tried) → IsOutcome b checked t → IsTried old row x t
  tried_is kept b tab sources (Refuted multiples) h =
      refuted multiples h.0 (h.1 ∙ (ap (λ xs. fact_multiples (sources_in xs) b.tableau.combination) sources ∙ ap (λ (s : State). fact_multiples (sources_in mid.sources.items) s.combination) tab))
  tried_is kept b tab sources Met h = point_met h kept
  tried_is kept b tab sources Stopped h = tt

-- after a check of the bounds that stand
pub checked_back : (old new : Standing) (checked : Checked) → IsChecked old.tableau new.tableau checked → IsBeside old new → IsBack old new
checked_back old new checked is beside = record {
  forms = beside.forms;
  pivots = beside.pivots;
  bounds = is.bounds;
  first = λ a read n within h. beside_sourced a read old new (take n old.tableau.bounds) beside h;
}

-- after what was tried was let go, the answer is there still
pub stopped_still : (b new : Standing) (checked : Checked) (t : Tried) → IsOutcome b checked t → new.tableau.answer ≡ Some checked → t ≡ Stopped → IsStopped new
stopped_still b new checked (Refuted ms) h answer e = absurd (cc)
stopped_still b new checked Met h answer e = absurd (cc)
stopped_still b new checked Stopped h answer e = elim h [ inl w ↦ inl (answer ∙ ap Some w) | inr p ↦ inr (answer ∙ ap Some p) ]

-- ---- as it was

pub back_adds : (old new : Standing) → IsBack old new → Adds old new []
back_adds old new h = record { forms = h.forms; pivots = h.pivots; bounds = h.bounds ∙ sym (append-nil old.tableau.bounds); first = h.first }

pub back_sourced : (a : Arena) (read : ℕ → Option Reading) (old new : Standing) → IsBack old new → Sourced a read old old.tableau.bounds → Sourced a read new new.tableau.bounds
back_sourced a read old new h k =
    subst (λ (bs : List Bound). Sourced a read new bs) (sym h.bounds)
    (subst (λ (bs : List Bound). Sourced a read new bs) (all old.tableau.bounds)
    (h.first a read (length old.tableau.bounds) (itself (length old.tableau.bounds)) (subst (λ (bs : List Bound). Sourced a read old bs) (sym (all old.tableau.bounds)) k)))
  where
    all : (bs : List Bound) → take (length bs) bs ≡ bs
    all [] = refl
    all (b ∷ bs) = ap (λ xs. b ∷ xs) (all bs)

    itself : (n : ℕ) → n ≤ n
    itself n = omega arith

-- ---- a contradiction of the bounds that stand

pub end_refuted : (a : Arena) (es : List Entry) (b : Standing) (sources : List RowSources) (multiples : List Multiple) → sources ≡ b.sources.items → multiples ≡ b.tableau.combination → AreIn a b.tableau.forms
    → Sourced a (readings a es) b b.tableau.bounds → IsInfeasible b.tableau → IsRefuted a es (sources_in sources) multiples
end_refuted a es b sources multiples e m inside sourced infeasible = record {
  forms = b.tableau.forms;
  bounds = b.tableau.bounds;
  inside = inside;
  sourced = let P : List RowSources → Type 0 = λ xs. AreSourced a (readings a es) b.tableau.forms b.tableau.bounds (sources_in xs) in subst P (sym e) sourced;
  contradiction = let P : List Multiple → Type 0 = λ ms. IsContradiction (rows_of b.tableau.forms) b.tableau.bounds ms in subst P (sym m) infeasible;
}
