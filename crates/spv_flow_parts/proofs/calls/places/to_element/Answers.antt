use Rattle.spv_assign.specs.declared.structures.elements.Step.TheVariants as step
use Rattle.spv_flow_parts.proofs.calls.Ways.{target_further, way_further}
use Rattle.spv_flow_parts.proofs.calls.places.to_element.Goals as goal

pub returns-clause-way : goal.returns-clause-way
returns-clause-way c =
    way_further c.select-element.ensures.grows c.args.way.now (step.Index c.args.index) c.requires.way c.requires.index c.push.new.self c.in_ok-push.ensures.ok c.in_ok-element.element c.select-element.result c.in_ok-element.ensures.same c.select-element.ensures.term

pub returns-clause-same : goal.returns-clause-same
returns-clause-same c = target_further c.select-element.ensures.grows c.args.way.now.target (step.Index c.args.index) c.requires.way.target c.requires.index c.push.new.self c.in_ok-push.ensures.ok
