-- Faults in the tokens before the last one.
use Rattle.std.specs.Prelude.{◌≡◌}
use Rattle.spv_grammar.specs.reading.Readers.{Stop}
use Rattle.spv_formula_parser.specs.primitives.Faults.{IsStop}
use Rattle.spv_formula_parser.specs.declared.primitives.fault.Fault.{Fault}
use Rattle.spv_grammar.specs.expected_tokens.FormulaTexts.{before_last}

-- the stop is that of the fault, with one more token left
pub record IsOneMore (s : Stop) (fault : Fault) : Type 0 where
  pub before : Stop
  pub told : IsStop before fault
  pub more : s ≡ before_last before
