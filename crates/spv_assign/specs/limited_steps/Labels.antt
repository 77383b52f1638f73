-- Tests of labels.
use Rattle.std.specs.Prelude.{ℤ}
use Rattle.spv_logic.specs.declared.operators.Head.TheVariants as head
use Rattle.spv_logic.specs.Terms.{Term}
use Rattle.spv_program.specs.Terms.{binary, numeral}

-- a test, or whether a value is this number
abbrev pub or_number : Term → Term → ℤ → Term
or_number t test z = binary head.Or test (binary head.Eq t (numeral z))
