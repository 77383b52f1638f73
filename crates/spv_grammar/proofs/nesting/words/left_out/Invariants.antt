use Rattle.std.proofs.Common.{◌≡◌, drop}
use Rattle.spv_grammar.specs.nesting.LeftOut as spec
use Rattle.spv_grammar.proofs.nesting.words.left_out.Given as goal

abbrev pub invariant-loop-token : goal.invariant-loop-token
invariant-loop-token l = spec.left_out (drop l.token-index l.tokens) ≡ spec.left_out l.tokens
