use Rattle.std.proofs.Common.{◌∙◌, sym, refl, pos}
use Rattle.std.proofs.lemmas.Bool.{false≢true}
use Rattle.spv_whole.specs.Fraction.{product}
use Rattle.spv_frac.specs.Range.{fits}
use Rattle.spv_frac.proofs.Answered.{refused, answered, first_of, second_of, both_of, same_test}
use Rattle.spv_frac.proofs.Opened.{opened, kept_as, below_from_fits}
use Rattle.spv_frac.proofs.Multiplied.{Multiplied, multiplied, same_fraction, inside_of}
use Rattle.spv_frac.proofs.frac.Frac.mul.Goals as goal

pub returns-in_err-num-clause-fits : goal.returns-in_err-num-clause-fits
returns-in_err-num-clause-fits c =
    let a = c.args.self in
    let b = c.args.other in
    let m = multiplied a b c.lowest-left.result c.lowest-right.result _ _ _ _ _ _ _ _ (opened _ _ a c.self.view_is c.self.invariant) (opened _ _ b c.other.view_is c.other.invariant) (opened _ _ c.lowest-left.result c.left.view_is c.left.invariant) (opened _ _ c.lowest-right.result c.right.view_is c.right.invariant) c.lowest-left.ensures c.lowest-right.ensures in
    refused c.from_residual.result _ c.from_residual.ensures.0
    (λ all. false≢true (c.in_err-num.ensures.fits.1 (same_test fits _ _ (sym m.num_is) (first_of (fits (product a b).num) (fits (pos (product a b).den)) all))))

pub returns-in_err-den-clause-fits : goal.returns-in_err-den-clause-fits
returns-in_err-den-clause-fits c =
    let a = c.args.self in
    let b = c.args.other in
    let m = multiplied a b c.lowest-left.result c.lowest-right.result _ _ _ _ _ _ _ _ (opened _ _ a c.self.view_is c.self.invariant) (opened _ _ b c.other.view_is c.other.invariant) (opened _ _ c.lowest-left.result c.left.view_is c.left.invariant) (opened _ _ c.lowest-right.result c.right.view_is c.right.invariant) c.lowest-left.ensures c.lowest-right.ensures in
    refused c.from_residual-in_err-den.result _ c.from_residual-in_err-den.ensures.0
    (λ all. false≢true (c.in_err-den.ensures.fits.1 (same_test fits _ _ (sym m.den_is) (second_of (fits (product a b).num) (fits (pos (product a b).den)) all))))

found : (c : goal.In_ok-den) → Multiplied c.args.self c.args.other c.left.inside.num c.left.inside.den c.right.inside.num c.right.inside.den
found c = multiplied c.args.self c.args.other c.lowest-left.result c.lowest-right.result _ _ _ _ _ _ _ _ (opened _ _ c.args.self c.self.view_is c.self.invariant) (opened _ _ c.args.other c.other.view_is c.other.invariant) (opened _ _ c.lowest-left.result c.left.view_is c.left.invariant) (opened _ _ c.lowest-right.result c.right.view_is c.right.invariant) c.lowest-left.ensures c.lowest-right.ensures

pub invariant_of-result : goal.invariant_of-result
invariant_of-result c =
    let p = product c.args.self c.args.other in
    let m = found c in
    let n = c.in_ok-num.ensures in
    let d = c.in_ok-den.ensures in
    let num_below = below_from_fits p.num (same_test fits _ _ m.num_is (n.fits.0 refl)) in
    let den_below = below_from_fits (pos p.den) (same_test fits _ _ m.den_is (d.fits.0 refl)) in
    inside_of p _ _ (record { is_lowest = m.is_lowest; num_fits = num_below; den_fits = den_below })
    (kept_as c.in_ok-num.num p.num (n.value ∙ m.num_is) num_below)
    (kept_as c.in_ok-den.den (pos p.den) (d.value ∙ m.den_is) den_below)

pub returns-clause-fits : goal.returns-clause-fits
returns-clause-fits c =
    let p = product c.args.self c.args.other in
    let m = found c in
    answered (both_of (fits p.num) (fits (pos p.den)) (same_test fits _ _ m.num_is (c.in_ok-num.ensures.fits.0 refl)) (same_test fits _ _ m.den_is (c.in_ok-den.ensures.fits.0 refl)))

pub returns-clause-value : goal.returns-clause-value
returns-clause-value c =
    let p = product c.args.self c.args.other in
    let m = found c in
    let n = c.in_ok-num.ensures in
    let d = c.in_ok-den.ensures in
    same_fraction p _ _
    (kept_as c.in_ok-num.num p.num (n.value ∙ m.num_is) (below_from_fits p.num (same_test fits _ _ m.num_is (n.fits.0 refl))))
    (kept_as c.in_ok-den.den (pos p.den) (d.value ∙ m.den_is) (below_from_fits (pos p.den) (same_test fits _ _ m.den_is (d.fits.0 refl))))
