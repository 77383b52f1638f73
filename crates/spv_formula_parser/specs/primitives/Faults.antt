-- What faults are.
use Rattle.std.specs.Prelude.{◌≡◌, Option, Some, None}
use Rattle.spv_grammar.specs.reading.Readers.{Stop, wrong, deep}
use Rattle.spv_formula_parser.specs.declared.primitives.fault.Fault.{Fault}
use Rattle.spv_formula_parser.specs.declared.primitives.fault.Fault.TheVariants.{Syntax, Deep, Memory}

-- the stop of reading that a fault is; want of memory is none
abbrev pub stop_of : Fault → Option Stop
stop_of (Syntax left) = Some (wrong left)
stop_of (Deep left) = Some (deep left)
stop_of Memory = None

-- the fault is this stop
abbrev pub IsStop : Stop → Fault → Type 0
IsStop s fault = stop_of fault ≡ Some s
