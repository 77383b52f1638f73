use Rattle.std.proofs.Common.{◌≡◌, take}
use Rattle.spv_verify.proofs.tree_reports.arenas.decls_copy.Given as goal

abbrev pub invariant-loop-decl : goal.invariant-loop-decl
invariant-loop-decl l = l.list.items ≡ take l.decl-index l.decls
