use Rattle.std.proofs.Common.{◌≡◌, ◌++◌, take}
use Rattle.spv_rounds.proofs.judging.counting.add_all.Given as goal

abbrev pub invariant-loop-member : goal.invariant-loop-member
invariant-loop-member l = l.list.items ≡ l.fn.list.items ++ take l.member-index l.members
