-- Which limit the walk over a main block meets.
use Rattle.std.proofs.Common.{◌≡◌, refl, sym, ap, ◌∙◌}
use Rattle.spv_program.specs.Programs.{Program}
use Rattle.spv_assign.specs.declared.creation_trace.faults.GenFault.{GenFault}
use Rattle.spv_assign.specs.declared.creation_trace.faults.GenFault.TheVariants as fault
use Rattle.spv_assign.specs.limits.Laws.{MadeMeetsNone, OneIsMet}
use Rattle.spv_conditions.specs.Making.{MeetsLimit, IsWithinLimits, program_events, empty_arena}

pub meets_no_other : MadeMeetsNone → (p : Program) (e : GenFault) → MeetsLimit e p → IsWithinLimits p → e ≡ fault.Memory
meets_no_other none p (fault.Conditions n) h within = absurd ((none (program_events p) (empty_arena p) refl within).list (record { arena = h.arena; sound = h.sound; meets = h.stops.1 }))
meets_no_other none p (fault.Terms n) h within = absurd ((none (program_events p) (empty_arena p) refl within).room (record { arena = h.arena; sound = h.sound; meets = h.stops.1 }))
meets_no_other none p fault.Memory h within = refl

pub meets_one : OneIsMet → (p : Program) (e f : GenFault) → MeetsLimit e p → MeetsLimit f p → (e ≡ fault.Memory → ⊥) → (f ≡ fault.Memory → ⊥) → e ≡ f
meets_one one p (fault.Conditions n) (fault.Conditions m) h k x y = ap fault.Conditions (h.stops.0 ∙ sym k.stops.0)
meets_one one p (fault.Terms n) (fault.Terms m) h k x y = ap fault.Terms (h.stops.0 ∙ sym k.stops.0)
meets_one one p (fault.Conditions n) (fault.Terms m) h k x y =
    absurd (one (program_events p) (empty_arena p) refl (record { arena = h.arena; sound = h.sound; meets = h.stops.1 }) (record { arena = k.arena; sound = k.sound; meets = k.stops.1 }))
meets_one one p (fault.Terms n) (fault.Conditions m) h k x y =
    absurd (one (program_events p) (empty_arena p) refl (record { arena = k.arena; sound = k.sound; meets = k.stops.1 }) (record { arena = h.arena; sound = h.sound; meets = h.stops.1 }))
meets_one one p fault.Memory f h k x y = absurd (x refl)
meets_one one p e fault.Memory h k x y = absurd (y refl)
