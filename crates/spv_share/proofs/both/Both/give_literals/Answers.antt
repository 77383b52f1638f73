use Rattle.std.proofs.Common.{refl, ◌∙◌, ap, arith, length}
use Rattle.std.proofs.lemmas.Option.{slice_get_within}
use Rattle.spv_share.proofs.Goings.{goes_both, goes_same, goes_then}
use Rattle.spv_share.proofs.Settling.{claims_first, claims_more, no_outcome}
use Rattle.spv_share.proofs.both.Both.give_literals.Goals as goal

pub loop-place-init : goal.loop-place-init
loop-place-init c = record { goes = goes_same c.args.terms.now c.args.self.now c.requires.both.sound; graph = refl; stand = claims_first c.args.self.now }

pub give_noted-requires-clause-both : goal.give_noted-requires-clause-both
give_noted-requires-clause-both c = goes_both c.args.terms.now c.args.self.now c.loop-place.self c.requires.both c.loop-place.invariant.goes

pub returns-in_err-outcome-clause-goes : goal.returns-in_err-outcome-clause-goes
returns-in_err-outcome-clause-goes c = goes_then c.args.terms.now c.args.self.now c.loop-place.self c.give_noted.new.self c.loop-place.invariant.goes c.give_noted.ensures.goes

pub returns-in-Some-clause-goes : goal.returns-in-Some-clause-goes
returns-in-Some-clause-goes c = goes_then c.args.terms.now c.args.self.now c.loop-place.self c.give_noted.new.self c.loop-place.invariant.goes c.give_noted.ensures.goes

pub loop-place-preserved : goal.loop-place-preserved
loop-place-preserved c = record {
  goes = goes_then c.args.terms.now c.args.self.now c.loop-place.self c.give_noted.new.self c.loop-place.invariant.goes c.give_noted.ensures.goes;
  graph = c.give_noted.ensures.graph ∙ c.loop-place.invariant.graph;
  stand =
      claims_more c.loop-place.self c.give_noted.new.self c.loop-place.place c.give_noted.ensures.goes.standing c.give_noted.ensures.goes.claims c.loop-place.invariant.stand
      (no_outcome _ c.in_ok-outcome.field-0 c.in_ok-outcome.ensures.stands c.in_default.is);
}

pub returns-clause-stands : goal.returns-clause-stands
returns-clause-stands c = record {
  each = λ place n d at e.
      c.loop-place.invariant.stand place n d
      (let w = slice_get_within c.loop-place.self.claims.items place n at in
      let t = c.loop-place-test.false in
      let l = ap (λ xs. length xs) c.as_slice-place-end.ensures.value in
      let g = ap (λ xs. length xs) c.loop-place.invariant.goes.claims in
      omega (arith, w, t, l, g)) at e;
}
