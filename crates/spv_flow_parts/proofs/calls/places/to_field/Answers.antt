use Rattle.spv_assign.specs.declared.structures.elements.Step.TheVariants as step
use Rattle.spv_flow_parts.proofs.calls.Ways.{target_further, way_further}
use Rattle.spv_flow_parts.proofs.calls.places.to_field.Goals as goal

pub returns-clause-way : goal.returns-clause-way
returns-clause-way c =
    way_further c.field-value.ensures.grows c.args.way.now (step.Field c.args.f) c.requires.way tt c.push.new.self c.in_ok-push.ensures.ok c.in_ok-value.value c.field-value.result c.in_ok-value.ensures.same c.field-value.ensures.term

pub returns-clause-same : goal.returns-clause-same
returns-clause-same c = target_further c.field-value.ensures.grows c.args.way.now.target (step.Field c.args.f) c.requires.way.target tt c.push.new.self c.in_ok-push.ensures.ok
