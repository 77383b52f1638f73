use Rattle.std.proofs.Common.{◌≡◌, ◌++◌, drop, map}
use Rattle.spv_routine_typing.specs.Again.{own_of_start}
use Rattle.spv_routine_typing.proofs.again.with_starts.Given as goal

abbrev pub invariant-loop-start : goal.invariant-loop-start
invariant-loop-start l =
    l.own ++ map (own_of_start l.known l.parameters) (drop l.start-index l.start-items) ≡ l.initial.own ++ map (own_of_start l.known l.parameters) l.starts
