use Rattle.std.proofs.Common.{length}
use Rattle.spv_declaration_typing.proofs.canonical_types.Seeing.{ToldSoFar}
use Rattle.spv_declaration_typing.proofs.canonical_types.behind.firsts_behind.Given as goal

abbrev pub invariant-loop-place : goal.invariant-loop-place
invariant-loop-place l = ToldSoFar l.pointers (length l.pointers) l.targets l.place l.seen.entries l.firsts.items
