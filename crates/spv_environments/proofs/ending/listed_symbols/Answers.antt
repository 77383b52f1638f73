use Rattle.std.proofs.Common.{◌≡◌, Some, subst, slice_get}
use Rattle.std.specs.Prelude.{IfSome}
use Rattle.spv_environments.proofs.Tables.{symbol_listed}
use Rattle.spv_environments.proofs.ending.listed_symbols.Goals as goal

pub loop-place-preserved : goal.loop-place-preserved
loop-place-preserved c =
    symbol_listed c.args.table.now c.loop-place.all c.push.new.self c.loop-place.place (c.unwrap.result.0, c.unwrap.result.1.now) c.in_ok-symbol.symbol
    (subst (λ o. IfSome o (λ e. slice_get c.args.table.now c.loop-place.place ≡ Some (e.0, e.1.now))) c.unwrap.ensures c.entry.ensures.entry) c.loop-place.invariant c.in_ok-symbol.ensures c.in_ok-push.ensures.ok
