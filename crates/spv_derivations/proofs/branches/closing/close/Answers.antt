use Rattle.spv_derivations.proofs.derivation.Bridges.{if_ok}
use Rattle.spv_derivations.proofs.branches.Turning.{closing_is}
use Rattle.spv_derivations.proofs.branches.closing.close.Goals as goal

pub returns-clause-closing : goal.returns-clause-closing
returns-clause-closing c =
    if_ok c.closing_steps.result c.closing_steps.ensures.exact
    (λ v e.
    closing_is c.args.path.now c.derive_all.new.path c.args.steps.items c.take_end-end.new.steps.items c.in_ok-other.other.items c.take_end-end.result.first c.take_end-end.result.second c.args.cases v.items c.take_end-end.ensures
    c.in_ok-other.ensures c.in_ok-derive_all.ensures.all e)
