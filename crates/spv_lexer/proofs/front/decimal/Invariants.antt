use Rattle.std.proofs.Common.{◌≡◌, take}
use Rattle.spv_lexer.specs.Front.{decimal}
use Rattle.spv_lexer.proofs.front.decimal.Given as goal

abbrev pub invariant-loop-digit : goal.invariant-loop-digit
invariant-loop-digit l = l.value ≡ decimal (take l.digit-index l.digits)
