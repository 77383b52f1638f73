-- Why a term has no value in a table.
use Rattle.std.specs.Prelude.{◌≡◌, Bool, Result, Err}
use Rattle.spv_table.specs.declared.operations.WideValue.{WideValue}
use Rattle.spv_table.specs.declared.table.ValueFault.{ValueFault}
use Rattle.spv_table.specs.declared.table.ValueFault.TheVariants.{Wide, Memory}
use Rattle.spv_table.specs.Values.{Outcome}

-- but for want of memory, the definition has this operation too
abbrev pub IsValueFault : Outcome → ValueFault → Type 0
IsValueFault outcome (Wide w) = outcome ≡ Err w
IsValueFault outcome Memory = Unit {0}

abbrev pub IsHoldsFault : Result Bool WideValue → ValueFault → Type 0
IsHoldsFault outcome (Wide w) = outcome ≡ Err w
IsHoldsFault outcome Memory = Unit {0}
