use Rattle.std.proofs.Common.{◌≡◌, ◌≢◌, ℕ, ◌<◌, Some, slice_get}
use Rattle.spv_logic.specs.declared.conditions.TermId.{TermId}
use Rattle.spv_congruence.proofs.clashing.term_of.Given as goal

abbrev pub invariant-loop-t : goal.invariant-loop-t
invariant-loop-t l = record {
  none : (i : ℕ) (t : TermId) → i < l.t-index → slice_get l.terms i ≡ Some t → t.0 ≢ l.x;
}
