use Rattle.std.proofs.Common.{refl, ◌∙◌, ap, arith, length}
use Rattle.std.proofs.lemmas.Option.{slice_get_within}
use Rattle.spv_share.proofs.Goings.{goes_same, goes_then}
use Rattle.spv_share.proofs.Settling.{joined_first, joined_more, no_outcome}
use Rattle.spv_share.proofs.both.Both.give_all.Goals as goal

pub loop-place-init : goal.loop-place-init
loop-place-init c = record { goes = goes_same c.args.terms.now c.args.self.now c.requires.sound; graph = refl; stand = joined_first c.args.self.now }

pub returns-in_err-outcome-clause-goes : goal.returns-in_err-outcome-clause-goes
returns-in_err-outcome-clause-goes c = goes_then c.args.terms.now c.args.self.now c.loop-place.self c.give_at.new.self c.loop-place.invariant.goes c.give_at.ensures.goes

pub returns-in-Some-clause-goes : goal.returns-in-Some-clause-goes
returns-in-Some-clause-goes c = goes_then c.args.terms.now c.args.self.now c.loop-place.self c.give_at.new.self c.loop-place.invariant.goes c.give_at.ensures.goes

pub loop-place-preserved : goal.loop-place-preserved
loop-place-preserved c = record {
  goes = goes_then c.args.terms.now c.args.self.now c.loop-place.self c.give_at.new.self c.loop-place.invariant.goes c.give_at.ensures.goes;
  graph = c.give_at.ensures.graph ∙ c.loop-place.invariant.graph;
  stand =
      joined_more c.loop-place.self c.give_at.new.self c.loop-place.place c.give_at.ensures.goes.standing c.give_at.ensures.goes.relations c.give_at.ensures.graph c.loop-place.invariant.stand
      (no_outcome _ c.in_ok-outcome.field-0 c.in_ok-outcome.ensures.stands c.in_default.is);
}

pub returns-clause-stands : goal.returns-clause-stands
returns-clause-stands c = record {
  each = λ row r at e.
      c.loop-place.invariant.stand row r
      (let w = slice_get_within c.loop-place.self.relations.items row r at in
      let t = c.loop-place-test.false in
      let l = ap (λ xs. length xs) c.as_slice-place-end.ensures.value in
      let g = ap (λ xs. length xs) c.loop-place.invariant.goes.relations in
      omega (arith, w, t, l, g)) at e;
}
