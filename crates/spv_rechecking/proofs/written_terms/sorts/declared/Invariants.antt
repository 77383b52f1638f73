use Rattle.std.proofs.Common.{◌≡◌, drop}
use Rattle.spv_logic.specs.Sorts.{declared}
use Rattle.spv_rechecking.proofs.written_terms.sorts.declared.Given as goal

abbrev pub invariant-loop-decl : goal.invariant-loop-decl
invariant-loop-decl l = declared l.decls l.symbol.0 ≡ declared (drop l.decl-index l.decls) l.symbol.0
