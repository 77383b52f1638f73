use Rattle.std.proofs.Common.{arith, ◌≡◌, ◌-◌, suc}
use Rattle.spv_rules.proofs.making.InstanceLemmas.{numbered_there}
use Rattle.spv_rules.proofs.making.fitting.numbered.Goals as goal

pub returns-clause-there : goal.returns-clause-there
returns-clause-there c =
    let some = c.if-number-eq0.false in
    let e : c.args.number ≡ suc (c.args.number - 1) = omega (arith, some) in
    numbered_there c.args.rules.now c.args.number (c.args.number - 1) c.get.result.now e c.get.ensures

pub returns-clause-rule : goal.returns-clause-rule
returns-clause-rule c = c.law_rules.ensures.rules.each _ _ c.get.ensures
