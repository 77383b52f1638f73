-- What code answers for a step of the walk: its value, its fault, or that the memory was not enough.
use Rattle.std.specs.Prelude.{◌≡◌, ⊤, Err}
use Rattle.spv_typing.specs.declared.faults.TypeFault.{TypeFault}
use Rattle.spv_typing.specs.declared.faults.TypeFault.TheVariants.{Memory}
use Rattle.spv_typing.specs.Outcomes.{Outcome}

-- a fault that code answers is that of the walk; want of memory says nothing
abbrev pub Stops : {A : Type 0} → TypeFault → Outcome A → Type 0
Stops Memory o = ⊤
Stops fault o = o ≡ Err fault
