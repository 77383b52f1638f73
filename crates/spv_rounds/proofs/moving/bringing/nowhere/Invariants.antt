use Rattle.std.proofs.Common.{◌≡◌, Some}
use Rattle.spv_logic.specs.declared.conditions.TermId.{TermId}
use Rattle.spv_rounds.specs.moving.Moves.{moved_id}
use Rattle.spv_rounds.proofs.moving.bringing.nowhere.Given as goal

abbrev pub invariant-loop : goal.invariant-loop
invariant-loop l = record { none : (t u : TermId) → moved_id l.places.items t ≡ Some u → ⊥ }
