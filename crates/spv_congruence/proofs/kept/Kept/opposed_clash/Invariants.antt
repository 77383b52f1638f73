use Rattle.std.proofs.Common.{◌≡◌, ℕ, ◌<◌, Some, slice_get}
use Rattle.spv_logic.specs.declared.conditions.TermId.{TermId}
use Rattle.spv_congruence.specs.Rings.{AgreesBehind}
use Rattle.spv_congruence.proofs.kept.Kept.opposed_clash.Given as goal

abbrev pub invariant-loop-s : goal.invariant-loop-s
invariant-loop-s l = record {
  none : (i : ℕ) (s : TermId) → i < l.s-index → slice_get l.self.added i ≡ Some s → AgreesBehind l.self s;
}
