use Rattle.std.proofs.Common.{◌≡◌, drop}
use Rattle.spv_share.specs.Relations.{find}
use Rattle.spv_share.proofs.relations.find.Given as goal

abbrev pub invariant-loop-related : goal.invariant-loop-related
invariant-loop-related l = find (drop l.related-index l.relations) l.t ≡ find l.relations l.t
