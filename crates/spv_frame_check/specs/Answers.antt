-- What code answers for the walk: its fault, or that the memory was not enough.
use Rattle.std.specs.Prelude.{◌≡◌, ⊤, Option, Some}
use Rattle.spv_effects.specs.declared.frame_walk.faults.FrameFault.{FrameFault}
use Rattle.spv_effects.specs.declared.frame_walk.faults.FrameFault.TheVariants.{Memory}

-- a fault that code answers is that of the walk; want of memory says nothing
abbrev pub Stops : FrameFault → Option FrameFault → Type 0
Stops Memory o = ⊤
Stops fault o = o ≡ Some fault
