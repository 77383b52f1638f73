use Rattle.std.proofs.Common.{map, refl}
use Rattle.spv_term.specs.Arena.{AllBelow}
use Rattle.spv_proof_rules.specs.Effects as spec
use Rattle.spv_proof_steps.proofs.Shown.{some_in}
use Rattle.spv_proof_steps.proofs.StepLemmas.{cited-more, AllBelow-pushed}
use Rattle.spv_proof_steps.proofs.steps.cited.Goals as goal

pub loop-number-preserved : goal.loop-number-preserved
loop-number-preserved c = record {
  value = λ at. cited-more at c.args.facts.now c.loop-number.list.items c.push.new.self.items c.args.numbers.now c.loop-number.number-index _ c.in-Some.t (spec.cited (map at c.args.facts.now) c.args.numbers.now)
      c.loop-number-test.true (c.in-Some.ensures.value at) c.in_ok-push-in-Some.ensures.items (c.loop-number.invariant.value at);
  in_range = λ count below. AllBelow-pushed count c.loop-number.list.items c.push.new.self.items c.in-Some.t (c.loop-number.invariant.in_range count below) (c.in-Some.ensures.in_range count below c.in-Some.t refl) c.in_ok-push-in-Some.ensures.items;
}

pub returns-clause-in_range : goal.returns-clause-in_range
returns-clause-in_range c count below = some_in (λ v. AllBelow count v.items) c.loop-number.list (c.loop-number.invariant.in_range count below)
