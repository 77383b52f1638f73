use Rattle.std.proofs.Common.{◌∙◌, sym, refl, ap, subst, ◌<◌, ◌^◌, ℤ, pos, ◌+ℤ◌, ◌*◌, ◌<ℤ◌, ◌&&◌}
use Rattle.std.proofs.lemmas.Bool.{false≢true}
use Rattle.std.specs.Prelude.{unsigned_abs}
use mathlib.Core.Path.{ap₂}
use Rattle.spv_whole.specs.Fraction.{lowest}
use Rattle.spv_frac.specs.Range.{fits, factor, left_num, right_num, order_fits}
use Rattle.spv_frac.proofs.Answered.{refused, answered, second_of, both_of, same_test}
use Rattle.spv_frac.proofs.Opened.{opened, kept_as, below_from_fits}
use Rattle.spv_frac.proofs.Added.{added, sum_of, den-positive}
use Rattle.spv_frac.proofs.frac.Frac.add.Goals as goal

pub returns-in_err-den-clause-fits : goal.returns-in_err-den-clause-fits
returns-in_err-den-clause-fits c =
    let a = c.args.self in
    let b = c.args.other in
    let k = c.in_ok-scaled.ensures in
    let s = added a b _ _ _ _ _ (opened _ _ a c.self.view_is c.self.invariant) k.is_frac (k.fits.0 refl) k.left k.right k.factor in
    refused c.from_residual-in_err-den.result _ c.from_residual-in_err-den.ensures.0
    (λ all. false≢true (c.in_err-den.ensures.fits.1 (same_test fits _ _ (sym s.den_is) (second_of (order_fits a b && fits (left_num a b +ℤ right_num a b)) (fits (pos (a.den * factor a b))) all))))

pub lowest-requires-clause-num_fits : goal.lowest-requires-clause-num_fits
lowest-requires-clause-num_fits c =
    let h = c.in_ok-num.ensures in
    let below = below_from_fits c.in_ok-num.num (same_test fits _ _ (sym h.value) (h.fits.0 refl)) in
    subst (λ (z : ℤ). unsigned_abs z < 2 ^ 127) (sym (kept_as c.in_ok-num.num _ refl below)) below

pub lowest-requires-clause-den_positive : goal.lowest-requires-clause-den_positive
lowest-requires-clause-den_positive c =
    let a = c.args.self in
    let b = c.args.other in
    let k = c.in_ok-scaled.ensures in
    let h = c.in_ok-den.ensures in
    let o = opened _ _ a c.self.view_is c.self.invariant in
    let s = added a b _ _ _ _ _ o k.is_frac (k.fits.0 refl) k.left k.right k.factor in
    let den_is = h.value ∙ s.den_is in
    subst (λ (z : ℤ). pos 0 <ℤ z) (sym (kept_as c.in_ok-den.den _ den_is (below_from_fits (pos (a.den * factor a b)) (same_test fits _ _ s.den_is (h.fits.0 refl))))) (den-positive a b o.is_frac k.is_frac)

pub returns-clause-fits : goal.returns-clause-fits
returns-clause-fits c =
    let a = c.args.self in
    let b = c.args.other in
    let k = c.in_ok-scaled.ensures in
    let s = added a b _ _ _ _ _ (opened _ _ a c.self.view_is c.self.invariant) k.is_frac (k.fits.0 refl) k.left k.right k.factor in
    answered (both_of (order_fits a b && fits (left_num a b +ℤ right_num a b)) (fits (pos (a.den * factor a b)))
    (both_of (order_fits a b) (fits (left_num a b +ℤ right_num a b)) (k.fits.0 refl) (same_test fits _ _ s.num_is (c.in_ok-num.ensures.fits.0 refl)))
    (same_test fits _ _ s.den_is (c.in_ok-den.ensures.fits.0 refl)))

pub returns-clause-value : goal.returns-clause-value
returns-clause-value c =
    let a = c.args.self in
    let b = c.args.other in
    let k = c.in_ok-scaled.ensures in
    let n = c.in_ok-num.ensures in
    let d = c.in_ok-den.ensures in
    let s = added a b _ _ _ _ _ (opened _ _ a c.self.view_is c.self.invariant) k.is_frac (k.fits.0 refl) k.left k.right k.factor in
    c.lowest.ensures
    ∙ ap₂ lowest
    (kept_as c.in_ok-num.num _ (n.value ∙ s.num_is) (below_from_fits (left_num a b +ℤ right_num a b) (same_test fits _ _ s.num_is (n.fits.0 refl))))
    (ap unsigned_abs (kept_as c.in_ok-den.den _ (d.value ∙ s.den_is) (below_from_fits (pos (a.den * factor a b)) (same_test fits _ _ s.den_is (d.fits.0 refl)))))
    ∙ sum_of a b k.is_frac
