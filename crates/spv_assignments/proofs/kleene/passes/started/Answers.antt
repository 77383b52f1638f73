use Rattle.std.proofs.Common.{refl, ◌<◌, length, arith, ◌∙◌}
use mathlib.Core.Path.{ap₂}
use Rattle.spv_atoms.specs.Tables.{or_else}
use Rattle.spv_assignments.specs.kleene.Passes.{start_value}
use Rattle.spv_assignments.proofs.kleene.Listing.{valued_next}
use Rattle.spv_assignments.proofs.kleene.passes.started.Goals as goal

pub loop-i-preserved : goal.loop-i-preserved
loop-i-preserved c =
    let inside : c.loop-i.i < length c.args.terms.now.nodes = omega (arith, c.loop-i-test.true, c.len-i-end.ensures.len, c.loop-i.auto.i-end) in
    valued_next c.loop-i.i (start_value c.args.terms.now c.args.own.now) c.loop-i.start.items _ (record { 0 = c.loop-i.i }) c.or_else.result c.loop-i.invariant refl
    (c.or_else.ensures ∙ ap₂ or_else c.value_at.ensures (c.value_at-in-loop-i.ensures ∙ c.requires.plain.each (record { 0 = c.loop-i.i }) inside)) c.in_ok-push.ensures.items
