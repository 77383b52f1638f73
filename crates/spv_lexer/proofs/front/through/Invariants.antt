use Rattle.std.proofs.Common.{◌≡◌, ◌+◌, drop}
use Rattle.std.specs.Option.{option_map}
use Rattle.spv_lexer.specs.Front.{through}
use Rattle.spv_lexer.proofs.front.through.Given as goal

abbrev pub invariant-loop-at : goal.invariant-loop-at
invariant-loop-at l = through l.closing l.text ≡ option_map (λ k. l.at + k) (through l.closing (drop l.at l.text))
