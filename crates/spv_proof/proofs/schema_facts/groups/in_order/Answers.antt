use Rattle.std.proofs.Common.{◌++◌, ap, ◌∙◌}
use Rattle.spv_proof.specs.schema_facts.Groups.{linked}
use Rattle.spv_proof.proofs.schema_facts.Grouping.{joined}
use Rattle.spv_proof.proofs.schema_facts.groups.in_order.Goals as goal

pub loop-t-preserved : goal.loop-t-preserved
loop-t-preserved c =
    joined (λ t. linked c.args.groups.now t.0) c.args.ts.now c.loop-t.t-index (record { 0 = 0 }) c.loop-t-test.true c.loop-t.links.items _ c.loop-t.invariant
    (c.in_ok-extend_from_slice.ensures.items ∙ ap (λ ys. c.loop-t.links.items ++ ys) c.get.ensures)
