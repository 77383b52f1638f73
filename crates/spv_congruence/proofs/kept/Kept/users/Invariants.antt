use Rattle.std.proofs.Common.{◌≡◌, ℕ, ◌<◌, Some, slice_get}
use Rattle.spv_logic.specs.declared.conditions.TermId.{TermId}
use Rattle.spv_congruence.specs.Graph.{Waits}
use Rattle.spv_congruence.specs.Keep.{uses_at}
use Rattle.spv_congruence.proofs.kept.Kept.users.Given as goal

abbrev pub invariant-loop-x : goal.invariant-loop-x
invariant-loop-x l = record {
  all : (k x : ℕ) → k < l.x-index → slice_get l.members k ≡ Some x → (t : TermId) → Waits (uses_at l.self.uses x) t → Waits l.users.items t;
}
