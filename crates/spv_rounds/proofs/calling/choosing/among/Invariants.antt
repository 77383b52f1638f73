use Rattle.std.proofs.Common.{◌≡◌, drop}
use Rattle.std.specs.List.{list_any}
use Rattle.spv_rounds.specs.calling.Calling.{is_same}
use Rattle.spv_rounds.proofs.calling.choosing.among.Given as goal

abbrev pub invariant-loop-member : goal.invariant-loop-member
invariant-loop-member l = list_any (is_same l.found) (drop l.member-index l.members) ≡ list_any (is_same l.found) l.members
