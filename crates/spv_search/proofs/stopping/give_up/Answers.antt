use Rattle.spv_search.proofs.Stops.{found_wide, found_pivots}
use Rattle.spv_search.proofs.stopping.give_up.Goals as goal

pub returns-then-is_wide : goal.returns-then-is_wide
returns-then-is_wide c = λ a condition limits stopped same. found_wide a condition limits c.args.both.now _ _ c.in_ok-is_wide.ensures stopped c.if-is_wide.true _ c.new.ensures

pub returns-else-is_wide : goal.returns-else-is_wide
returns-else-is_wide c = λ a condition limits stopped same. found_pivots a condition limits c.args.both.now _ _ c.in_ok-is_wide.ensures stopped c.if-is_wide.false same _ c.new-else-is_wide.ensures
