use Rattle.std.proofs.Common.{◌≡◌, ℕ, ◌<◌, Some, slice_get, length}
use Rattle.spv_logic.specs.declared.conditions.TermId.{TermId}
use Rattle.spv_congruence.specs.Graph.{Waits}
use Rattle.spv_congruence.specs.Keep.{KeepsUses, uses_at}
use Rattle.spv_congruence.proofs.kept.Kept.use_args.Given as goal

abbrev pub invariant-loop-u : goal.invariant-loop-u
invariant-loop-u l = record {
  is : l.self ≡ record l.fn.self { uses = l.self.uses };
  keeps : KeepsUses l.fn.self.uses l.self.uses;
  many : length l.self.uses ≡ length l.fn.self.uses;
  used : (i : ℕ) (u : TermId) → i < l.u-index → slice_get l.args i ≡ Some u → Waits (uses_at l.self.uses u.0) l.t;
}
