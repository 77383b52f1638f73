use Rattle.std.proofs.Common.{length, arith}
use Rattle.spv_decisions.proofs.heuristic.Places.{item_in, pushed_in}
use Rattle.spv_decisions.proofs.heuristic.ranking.push_at.Goals as goal

pub returns : goal.returns
returns c =
    λ h. pushed_in (length c.args.terms.now.nodes) c.args.list.now.items _ _ h (item_in (length c.args.terms.now.nodes) c.args.formulas.now c.args.place (record { 0 = 0 }) c.requires (omega (arith, c.if-place-formulas.false))) c.in_ok-push.ensures.items
