use Rattle.std.proofs.Common.{◌∙◌, sym, refl}
use Rattle.spv_trail.proofs.propagation.Ends.{refuted_ends}
use Rattle.spv_trail.proofs.propagation.ending.contradiction.Goals as goal

pub returns-then-is_refuted : goal.returns-then-is_refuted
returns-then-is_refuted c =
    λ cases may cite. refuted_ends c.args.terms.now c.args.condition.now c.args.falsity cases c.args.derivation.now c.args.known.now c.args.added may cite (sym c.is_refuted.ensures ∙ c.if-is_refuted.true)

pub returns-in_ok-end-in-Some : goal.returns-in_ok-end-in-Some
returns-in_ok-end-in-Some c = λ cases may cite. c.in_ok-end-in-Some.ensures cases c.args.known.now may cite c.in-Some.ensures.found

pub returns-in-None : goal.returns-in-None
returns-in-None c = ((c.in-None.ensures.none, sym c.is_refuted.ensures ∙ c.if-is_refuted.false), refl)
