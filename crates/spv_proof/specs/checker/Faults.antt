-- Why a fact could not be made.
use Rattle.spv_term.specs.declared.nodes.TermFault.{TermFault}
use Rattle.spv_term.specs.declared.nodes.TermFault.TheVariants as fault
use Rattle.spv_proof.specs.declared.checker.stops.CheckStop.{CheckStop}
use Rattle.spv_proof.specs.declared.checker.stops.CheckStop.TheVariants.{Size, Memory}

abbrev pub stop_of : TermFault → CheckStop
stop_of fault.Size = Size
stop_of fault.Memory = Memory
