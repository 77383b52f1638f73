use Rattle.std.proofs.Common.{◌∙◌, sym, refl}
use Rattle.std.proofs.lemmas.Bool.{false≢true}
use Rattle.spv_frac.specs.Range.{fits, left_num, right_num}
use Rattle.spv_frac.proofs.Answered.{refused, answered, first_of, second_of, both_of, same_test}
use Rattle.spv_frac.proofs.Opened.{opened, kept, below_from_fits}
use Rattle.spv_frac.proofs.Scales.{scales}
use Rattle.spv_frac.proofs.frac.Frac.scaled.Goals as goal

pub returns-in_err-times-clause-fits : goal.returns-in_err-times-clause-fits
returns-in_err-times-clause-fits c =
    let a = c.args.self in
    let b = c.args.other in
    let s = scales a b c.lowest-dens.result _ _ _ _ _ _ (opened _ _ a c.self.view_is c.self.invariant) (opened _ _ b c.other.view_is c.other.invariant) (opened _ _ c.lowest-dens.result c.dens.view_is c.dens.invariant) c.lowest-dens.ensures in
    refused c.from_residual.result _ c.from_residual.ensures.0
    (λ all. false≢true (c.in_err-times.ensures.fits.1 (same_test fits _ _ (sym s.left) (first_of (fits (left_num a b)) (fits (right_num a b)) all))))

pub returns-in_err-times-2-clause-fits : goal.returns-in_err-times-2-clause-fits
returns-in_err-times-2-clause-fits c =
    let a = c.args.self in
    let b = c.args.other in
    let s = scales a b c.lowest-dens.result _ _ _ _ _ _ (opened _ _ a c.self.view_is c.self.invariant) (opened _ _ b c.other.view_is c.other.invariant) (opened _ _ c.lowest-dens.result c.dens.view_is c.dens.invariant) c.lowest-dens.ensures in
    refused c.from_residual-in_err-times-2.result _ c.from_residual-in_err-times-2.ensures.0
    (λ all. false≢true (c.in_err-times-2.ensures.fits.1 (same_test fits _ _ (sym s.right) (second_of (fits (left_num a b)) (fits (right_num a b)) all))))

pub returns-clause-fits : goal.returns-clause-fits
returns-clause-fits c =
    let a = c.args.self in
    let b = c.args.other in
    let s = scales a b c.lowest-dens.result _ _ _ _ _ _ (opened _ _ a c.self.view_is c.self.invariant) (opened _ _ b c.other.view_is c.other.invariant) (opened _ _ c.lowest-dens.result c.dens.view_is c.dens.invariant) c.lowest-dens.ensures in
    answered (both_of (fits (left_num a b)) (fits (right_num a b))
    (same_test fits _ _ s.left (c.in_ok-times.ensures.fits.0 refl))
    (same_test fits _ _ s.right (c.in_ok-times-2.ensures.fits.0 refl)))

pub returns-clause-left : goal.returns-clause-left
returns-clause-left c =
    let a = c.args.self in
    let b = c.args.other in
    let s = scales a b c.lowest-dens.result _ _ _ _ _ _ (opened _ _ a c.self.view_is c.self.invariant) (opened _ _ b c.other.view_is c.other.invariant) (opened _ _ c.lowest-dens.result c.dens.view_is c.dens.invariant) c.lowest-dens.ensures in
    let e = c.in_ok-times.ensures.value in
    kept c.in_ok-times.field-0 (below_from_fits c.in_ok-times.field-0 (same_test fits _ _ (sym e) (c.in_ok-times.ensures.fits.0 refl))) ∙ e ∙ s.left

pub returns-clause-right : goal.returns-clause-right
returns-clause-right c =
    let a = c.args.self in
    let b = c.args.other in
    let s = scales a b c.lowest-dens.result _ _ _ _ _ _ (opened _ _ a c.self.view_is c.self.invariant) (opened _ _ b c.other.view_is c.other.invariant) (opened _ _ c.lowest-dens.result c.dens.view_is c.dens.invariant) c.lowest-dens.ensures in
    let e = c.in_ok-times-2.ensures.value in
    kept c.in_ok-times-2.field-0 (below_from_fits c.in_ok-times-2.field-0 (same_test fits _ _ (sym e) (c.in_ok-times-2.ensures.fits.0 refl))) ∙ e ∙ s.right

pub returns-clause-factor : goal.returns-clause-factor
returns-clause-factor c =
    let a = c.args.self in
    let b = c.args.other in
    let s = scales a b c.lowest-dens.result _ _ _ _ _ _ (opened _ _ a c.self.view_is c.self.invariant) (opened _ _ b c.other.view_is c.other.invariant) (opened _ _ c.lowest-dens.result c.dens.view_is c.dens.invariant) c.lowest-dens.ensures in
    s.factor_is
