use Rattle.std.proofs.Common.{◌≡◌, ◌++◌, drop}
use Rattle.spv_conditions.proofs.opening.symbols_of.Given as goal

abbrev pub invariant-loop-symbol : goal.invariant-loop-symbol
invariant-loop-symbol l = l.made.items ++ drop l.symbol-index l.symbols ≡ l.symbols
