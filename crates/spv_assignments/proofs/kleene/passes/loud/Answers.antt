use Rattle.std.proofs.Common.{refl, sym, ◌<◌, length, arith, ◌∙◌}
use mathlib.Core.Path.{ap₂}
use Rattle.spv_proof_rules.specs.Evaluation.{opposite}
use Rattle.spv_assignments.proofs.kleene.Filling.{quiet_next}
use Rattle.spv_assignments.proofs.kleene.passes.loud.Goals as goal

pub returns-then-opposite-clause-loud : goal.returns-then-opposite-clause-loud
returns-then-opposite-clause-loud c =
    let inside : c.loop-i.i < length c.args.terms.now.nodes = omega (arith, c.loop-i-test.true, c.len-i-end.ensures.len, c.loop-i.auto.i-end) in
    record {
      in_range = inside;
      is = sym (c.opposite.ensures ∙ ap₂ opposite (c.value_at.ensures ∙ c.requires.plain.each (record { 0 = c.loop-i.i }) inside) c.value_at-in-loop-i.ensures) ∙ c.if-opposite.true;
    }

pub loop-i-preserved : goal.loop-i-preserved
loop-i-preserved c =
    let inside : c.loop-i.i < length c.args.terms.now.nodes = omega (arith, c.loop-i-test.true, c.len-i-end.ensures.len, c.loop-i.auto.i-end) in
    quiet_next c.args.terms.now c.args.own.now c.loop-i.i (record { 0 = c.loop-i.i }) refl c.loop-i.invariant
    (sym (c.opposite.ensures ∙ ap₂ opposite (c.value_at.ensures ∙ c.requires.plain.each (record { 0 = c.loop-i.i }) inside) c.value_at-in-loop-i.ensures) ∙ c.if-opposite.false)
