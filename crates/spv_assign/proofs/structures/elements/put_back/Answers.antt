use Rattle.std.proofs.Common.{◌≡◌, ◌-◌, suc, arith, refl}
use Rattle.spv_assign.specs.declared.structures.elements.Step.TheVariants as step
use Rattle.spv_assign.proofs.structures.Putting.{put_within, put_structure, put_step, put_sorts, put_stopped, put_next, puts_done}
use Rattle.spv_assign.proofs.structures.elements.put_back.Goals as goal

pub bounds-structures-left : goal.bounds-structures-left
bounds-structures-left g c =
    let is : c.loop-left.left ≡ suc (c.loop-left.left - 1) = omega (arith, c.loop-left-test.true) in
    put_within c.args.terms.now c.loop-left.terms _ g.whole c.args.path.now c.loop-left.made (c.loop-left.left - 1) c.loop-left.left is c.args.structures.now
    c.requires.0 c.requires.1.0 c.requires.1.1.1.0 c.loop-left.invariant _ (record { 0 = 0 }) refl _ (step.Index (record { 0 = 0 })) refl

pub changed-requires-clause-s : goal.changed-requires-clause-s
changed-requires-clause-s g c =
    let is : c.loop-left.left ≡ suc (c.loop-left.left - 1) = omega (arith, c.loop-left-test.true) in
    put_structure c.args.terms.now c.loop-left.terms _ g.whole c.args.path.now c.loop-left.made (c.loop-left.left - 1) c.loop-left.left is c.args.structures.now
    c.requires.0 c.requires.1.0 c.requires.1.1.1.0 c.loop-left.invariant _ (record { 0 = 0 }) refl _ (step.Index (record { 0 = 0 })) refl

pub changed-requires-clause-step : goal.changed-requires-clause-step
changed-requires-clause-step g c =
    let is : c.loop-left.left ≡ suc (c.loop-left.left - 1) = omega (arith, c.loop-left-test.true) in
    put_step c.args.terms.now c.loop-left.terms _ g.whole c.args.path.now c.loop-left.made (c.loop-left.left - 1) c.loop-left.left is c.args.structures.now
    c.requires.0 c.requires.1.0 c.requires.1.1.1.0 c.loop-left.invariant _ (record { 0 = 0 }) refl _ (step.Index (record { 0 = 0 })) refl

pub changed-requires-clause-sorts : goal.changed-requires-clause-sorts
changed-requires-clause-sorts g c =
    let is : c.loop-left.left ≡ suc (c.loop-left.left - 1) = omega (arith, c.loop-left-test.true) in
    put_sorts c.args.terms.now c.loop-left.terms _ g.whole c.args.path.now c.loop-left.made (c.loop-left.left - 1) c.loop-left.left is c.args.structures.now
    c.requires.0 c.requires.1.0 c.requires.1.1.1.0 c.loop-left.invariant _ (record { 0 = 0 }) refl _ (step.Index (record { 0 = 0 })) refl c.requires.1.1.1.1

pub returns-in_err-made : goal.returns-in_err-made
returns-in_err-made g c =
    let is : c.loop-left.left ≡ suc (c.loop-left.left - 1) = omega (arith, c.loop-left-test.true) in
    put_stopped c.args.terms.now c.loop-left.terms _ g.whole c.args.path.now c.loop-left.made (c.loop-left.left - 1) c.loop-left.left is c.args.structures.now
    c.requires.0 c.requires.1.0 c.requires.1.1.1.0 c.loop-left.invariant _ (record { 0 = 0 }) refl _ (step.Index (record { 0 = 0 })) refl
    c.changed.new.terms c.from_residual.result c.in_err-made.field-0.0 c.from_residual.ensures.1 c.in_err-made.ensures

pub loop-left-preserved : goal.loop-left-preserved
loop-left-preserved g c =
    let is : c.loop-left.left ≡ suc (c.loop-left.left - 1) = omega (arith, c.loop-left-test.true) in
    put_next c.args.terms.now c.loop-left.terms _ g.whole c.args.path.now c.loop-left.made (c.loop-left.left - 1) c.loop-left.left is c.args.structures.now
    c.requires.0 c.requires.1.0 c.requires.1.1.1.0 c.loop-left.invariant _ (record { 0 = 0 }) refl _ (step.Index (record { 0 = 0 })) refl
    c.changed.new.terms c.in_ok-made.made (c.loop-left.left - 1) refl c.in_ok-made.ensures

pub returns : goal.returns
returns g c = puts_done c.args.terms.now c.loop-left.terms _ g.whole c.args.path.now c.loop-left.made c.loop-left.left (omega (arith, c.loop-left-test.false)) c.loop-left.invariant c.law_arena.ensures
