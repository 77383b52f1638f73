use Rattle.std.proofs.Common.{◌≡◌, ◌∙◌, ap, subst, sym, ℤ, unsigned_abs, nat_eq}
use Rattle.std.specs.Bool.{IsTrue}
use mir.Val.{of_z}
use mir.Syntax.{w128}
use Rattle.spv_tableau_rules.proofs.pivots.Sums.{eq_self}
use Rattle.spv_whole.specs.Fraction.{Fraction}
use Rattle.spv_arithmetic_side.proofs.constraint_rows.OnRows.{same_den, same_fractions}
use Rattle.spv_arithmetic_side.proofs.constraint_rows.reading.is_same.Goals as goal

pub returns-then-left-right-clause-all : goal.returns-then-left-right-clause-all
returns-then-left-right-clause-all c = λ e.
    let same : c.args.left ≡ c.args.right = same_fractions c.args.left c.args.right c.law_frac.ensures.is_lowest c.law_frac-2.ensures.is_lowest e in
    let dens : unsigned_abs c.left.inside.den ≡ unsigned_abs c.right.inside.den = ap (λ (f : Fraction). f.den) (c.left.view_is ∙ (same ∙ sym c.right.view_is)) in
    subst (λ (z : ℤ). IsTrue (nat_eq (of_z w128 c.left.inside.den) (of_z w128 z))) (same_den c.left.inside.den c.right.inside.den c.left.invariant.0 c.right.invariant.0 dens) (eq_self (of_z w128 c.left.inside.den))

pub returns-else-left-right-clause-all : goal.returns-else-left-right-clause-all
returns-else-left-right-clause-all c = λ e.
    let same : c.args.left ≡ c.args.right = same_fractions c.args.left c.args.right c.law_frac.ensures.is_lowest c.law_frac-2.ensures.is_lowest e in
    let nums : c.left.inside.num ≡ c.right.inside.num = ap (λ (f : Fraction). f.num) (c.left.view_is ∙ (same ∙ sym c.right.view_is)) in
    subst (λ (z : ℤ). IsTrue (nat_eq (of_z w128 c.left.inside.num) (of_z w128 z))) nums (eq_self (of_z w128 c.left.inside.num))
