-- How points go on: in a step, and where a column outside the basis is put at its bound.
use Rattle.std.proofs.Common.{◌≡◌, ℕ, ◌<◌, Bool, true, false, not, Some, nat_eq, refl, sym, ap, ◌∙◌, if◌then◌else◌}
use Rattle.std.proofs.lemmas.Bool.{false≢true}
use Rattle.spv_frac.specs.rational.Rational.{Rational, plus, times, is_zero}
use Rattle.spv_tableau_rules.specs.declared.tableaux.side.Side.{Side}
use Rattle.spv_tableau_rules.specs.tableaux.Numbers.{minus}
use Rattle.spv_tableau_rules.specs.tableaux.Rows.{Rows, columns, Point}
use Rattle.spv_tableau_rules.specs.tableaux.Bounds.{Limits, or_nothing, is_out}
use Rattle.spv_tableau_rules.specs.tableaux.Solved.{Place, Basic, Held, At, Places, is_basic, Entries, point, at_rest, resting, exchanged, pivot, equation_sum}
use Rattle.spv_tableau_rules.specs.tableaux.Steps.{may_leave, may_enter, none_to, IsStep}
use Rattle.spv_tableau_rules.specs.tableaux.Operations.{shift}
use Rattle.spv_tableau_rules.specs.pivots.Moved.{moved, placed, as_held}
use Rattle.spv_tableau_rules.specs.pivots.Laws.{BasisAlone, EntriesAlone, StepSolves, StepMoves, InsideMoves, HeldPoint}
use Rattle.spv_tableau_rules.proofs.pivots.Algebra.{plus_minus, divided_times}
use Rattle.spv_tableau_rules.proofs.pivots.Sums.{sum_same, count_same, eq_is, eq_flip}
use Rattle.spv_tableau_rules.proofs.pivots.Tests.{and_left, and_right, not_true}
use Rattle.spv_tableau_rules.proofs.pivots.Points.{point_solves, only_point, point_outside}
use Rattle.spv_tableau_rules.proofs.pivots.Directions.{differ, moved_solves}
use Rattle.spv_tableau_rules.proofs.pivots.Pivoting.{pivot_solves, entered, stayed}

pub basis_alone : BasisAlone
basis_alone rows places others t same s = record {
  basis = count_same (columns rows) (λ c. is_basic (others c)) (λ c. is_basic (places c)) same ∙ s.basis;
  own = λ b inside basic. s.own b inside (sym (same b inside) ∙ basic);
  others = λ b c inside basic c_in c_basic different. s.others b c inside (sym (same b inside) ∙ basic) c_in (sym (same c c_in) ∙ c_basic) different;
  meets = λ v solution b inside basic. s.meets v solution b inside (sym (same b inside) ∙ basic);
  solves = λ v m. s.solves v (λ b inside basic. m b inside (same b inside ∙ basic));
}

pub entries_alone : EntriesAlone
entries_alone rows places t u same s = record {
  basis = s.basis;
  own = λ b inside basic. same b b inside basic inside ∙ s.own b inside basic;
  others = λ b c inside basic c_in c_basic different. same b c inside basic c_in ∙ s.others b c inside basic c_in c_basic different;
  meets = λ v solution b inside basic. sums b inside basic v ∙ s.meets v solution b inside basic;
  solves = λ v m. s.solves v (λ b inside basic. sym (sums b inside basic v) ∙ m b inside basic);
}
  where
    sums : (b : ℕ) → b < columns rows → is_basic (places b) ≡ true → (v : Point) → equation_sum rows u b v ≡ equation_sum rows t b v
    sums b inside basic v = sum_same (columns rows) _ _ (λ c below. ap (λ x. times x (v c)) (same b c inside basic below))

-- what a step needs for its pivot
pub record IsExchange (places : Places) (t : Entries) (leaving entering : ℕ) : Type 0 where
  pub leaves : is_basic (places leaving) ≡ true
  pub enters : is_basic (places entering) ≡ false
  pub nonzero : is_zero (t leaving entering) ≡ false

pub exchange : (rows : Rows) (limits : Limits) (places : Places) (v : Point) (t : Entries) (leaving : ℕ) (side : Side) (entering : ℕ)
    → IsStep rows limits places v t leaving side entering → IsExchange places t leaving entering
exchange rows limits places v t leaving side entering step = record {
  leaves = and_left (is_basic (places leaving)) (is_out limits v leaving) (and_left (may_leave limits places v leaving) (none_to leaving (may_leave limits places v)) step.leaves);
  enters = not_true (is_basic (places entering)) (and_left (not (is_basic (places entering))) _ may);
  nonzero = not_true (is_zero (t leaving entering)) (and_left (not (is_zero (t leaving entering))) _ (and_right (not (is_basic (places entering))) _ may));
}
  where
    may : may_enter limits places v t leaving side entering ≡ true
    may = and_left (may_enter limits places v t leaving side entering) (none_to entering (may_enter limits places v t leaving side)) step.enters

pub step_solves : StepSolves
step_solves rows limits places v t leaving side entering s step =
    let x = exchange rows limits places v t leaving side entering step in
    pivot_solves rows places t leaving side entering s step.leaving_in x.leaves step.entering_in x.enters x.nonzero

-- ---- where a moved point is

pub moved_entering : (v : Point) (places : Places) (t : Entries) (entering : ℕ) (k : Rational) (c : ℕ) → nat_eq c entering ≡ true → moved v places t entering k c ≡ plus (v c) k
moved_entering v places t entering k c e = rw e refl

pub moved_basic : (v : Point) (places : Places) (t : Entries) (entering : ℕ) (k : Rational) (c : ℕ) → nat_eq c entering ≡ false → is_basic (places c) ≡ true
    → moved v places t entering k c ≡ plus (v c) (times k (t c entering))
moved_basic v places t entering k c e h = rw (e, h) refl

pub moved_other : (v : Point) (places : Places) (t : Entries) (entering : ℕ) (k : Rational) (c : ℕ) → nat_eq c entering ≡ false → is_basic (places c) ≡ false
    → moved v places t entering k c ≡ v c
moved_other v places t entering k c e h = rw (e, h) refl

rest_of : (limits : Limits) (held : Point) (places others : Places) (c : ℕ) → others c ≡ places c → at_rest limits held others c ≡ at_rest limits held places c
rest_of limits held places others c e = ap (resting limits held c) e

at_bound : (limits : Limits) (held : Point) (places : Places) (c : ℕ) (side : Side) (bound : Rational) → places c ≡ At side → limits c side ≡ Some bound
    → at_rest limits held places c ≡ bound
at_bound limits held places c side bound e h = ap (resting limits held c) e ∙ ap or_nothing h

gone_to : (places : Places) (leaving : ℕ) (side : Side) (entering c : ℕ) → nat_eq c entering ≡ false → nat_eq c leaving ≡ true → exchanged places leaving side entering c ≡ At side
gone_to places leaving side entering c e h = rw (e, h) refl

as_before : (places : Places) (leaving : ℕ) (side : Side) (entering c : ℕ) → nat_eq c entering ≡ false → nat_eq c leaving ≡ false → exchanged places leaving side entering c ≡ places c
as_before places leaving side entering c e h = rw (e, h) refl

-- ---- a step

pub step_moves : StepMoves
step_moves rows limits held places t leaving side entering bound s step is_bound =
    only_point rows limits held (exchanged places leaving side entering) (pivot t leaving entering) (step_solves rows limits places v t leaving side entering s step) w
    (moved_solves rows places t s v (point_solves rows limits held places t s) entering distance step.entering_in x.enters) rests
  where
    v : Point
    v = point rows limits held places t

    x : IsExchange places t leaving entering
    x = exchange rows limits places v t leaving side entering step

    distance : Rational
    distance = shift v t leaving entering bound

    w : Point
    w = moved v places t entering distance

    at_leaving : w leaving ≡ bound
    at_leaving =
        moved_basic v places t entering distance leaving (eq_flip entering leaving (differ places leaving entering x.leaves x.enters)) x.leaves
        ∙ ap (plus (v leaving)) (divided_times (minus bound (v leaving)) (t leaving entering) x.nonzero) ∙ plus_minus (v leaving) bound

    rests : (c : ℕ) → c < columns rows → is_basic (exchanged places leaving side entering c) ≡ false → w c ≡ at_rest limits held (exchanged places leaving side entering) c
    rests c below out = by_cases (nat_eq c entering) refl (nat_eq c leaving) refl
      where
        by_cases : (e : Bool) → nat_eq c entering ≡ e → (l : Bool) → nat_eq c leaving ≡ l → w c ≡ at_rest limits held (exchanged places leaving side entering) c
        by_cases true e l h = absurd (false≢true (sym out ∙ entered places leaving side entering c e))
        by_cases false e true h =
            ap w (eq_is c leaving h) ∙ at_leaving
            ∙ sym (at_bound limits held (exchanged places leaving side entering) c side bound (gone_to places leaving side entering c e h) (ap (λ y. limits y side) (eq_is c leaving h) ∙ is_bound))
        by_cases false e false h =
            let was : is_basic (places c) ≡ false = sym (stayed places leaving side entering c e h) ∙ out in
            moved_other v places t entering distance c e was ∙ point_outside rows limits held places t c was
            ∙ sym (rest_of limits held places (exchanged places leaving side entering) c (as_before places leaving side entering c e h))

-- ---- a column at its bound

put : (places : Places) (column : ℕ) (place : Place) (c : ℕ) → nat_eq c column ≡ true → placed places column place c ≡ place
put places column place c e = rw e refl

not_put : (places : Places) (column : ℕ) (place : Place) (c : ℕ) → nat_eq c column ≡ false → placed places column place c ≡ places c
not_put places column place c e = rw e refl

pub same_basis : (places : Places) (column : ℕ) (side : Side) → is_basic (places column) ≡ false → (c : ℕ) → is_basic (placed places column (At side) c) ≡ is_basic (places c)
same_basis places column side out c = by_case (nat_eq c column) refl
  where
    by_case : (e : Bool) → nat_eq c column ≡ e → is_basic (placed places column (At side) c) ≡ is_basic (places c)
    by_case true e = ap is_basic (put places column (At side) c e) ∙ sym (ap (λ y. is_basic (places y)) (eq_is c column e) ∙ out)
    by_case false e = ap is_basic (not_put places column (At side) c e)

pub inside_moves : InsideMoves
inside_moves rows limits held places t column side bound s column_in out is_bound =
    only_point rows limits held (placed places column (At side)) t (basis_alone rows places (placed places column (At side)) t (λ c below. same_basis places column side out c) s) w
    (moved_solves rows places t s v (point_solves rows limits held places t s) column distance column_in out) rests
  where
    v : Point
    v = point rows limits held places t

    distance : Rational
    distance = minus bound (v column)

    w : Point
    w = moved v places t column distance

    rests : (c : ℕ) → c < columns rows → is_basic (placed places column (At side) c) ≡ false → w c ≡ at_rest limits held (placed places column (At side)) c
    rests c below outside = by_case (nat_eq c column) refl
      where
        by_case : (e : Bool) → nat_eq c column ≡ e → w c ≡ at_rest limits held (placed places column (At side)) c
        by_case true e =
            moved_entering v places t column distance c e ∙ ap (λ y. plus (v y) distance) (eq_is c column e) ∙ plus_minus (v column) bound
            ∙ sym (at_bound limits held (placed places column (At side)) c side bound (put places column (At side) c e) (ap (λ y. limits y side) (eq_is c column e) ∙ is_bound))
        by_case false e =
            let was : is_basic (places c) ≡ false = sym (same_basis places column side out c) ∙ outside in
            moved_other v places t column distance c e was ∙ point_outside rows limits held places t c was
            ∙ sym (rest_of limits held places (placed places column (At side)) c (not_put places column (At side) c e))

-- ---- the point of its own values

held_basic : (places : Places) (c : ℕ) → is_basic (as_held places c) ≡ is_basic (places c)
held_basic places c = by_case (is_basic (places c))
  where
    by_case : (b : Bool) → is_basic (if b then Basic else Held) ≡ b
    by_case true = refl
    by_case false = refl

held_outside : (places : Places) (c : ℕ) → is_basic (places c) ≡ false → as_held places c ≡ Held
held_outside places c e = rw e refl

pub held_point : HeldPoint
held_point rows limits places t v s solution =
    only_point rows limits v (as_held places) t (basis_alone rows places (as_held places) t (λ c below. held_basic places c) s) v solution
    (λ c below out. sym (ap (resting limits v c) (held_outside places c (sym (held_basic places c) ∙ out))))
