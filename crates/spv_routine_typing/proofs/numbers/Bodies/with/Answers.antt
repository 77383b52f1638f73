use Rattle.std.proofs.Common.{arith}
use Rattle.std.proofs.lemmas.Bool.Decides.{nat_tests}
use Rattle.spv_routine_typing.proofs.Numbering.{one_numbered}
use Rattle.spv_routine_typing.proofs.numbers.Bodies.with.Goals as goal

pub invariant_of-result : goal.invariant_of-result
invariant_of-result c =
    one_numbered c.self.inside.names c.push.new.self c.self.inside.numbers c.in_ok-numbers.numbers c.args.name c.len-number.result c.self.invariant c.len-number.ensures
    (grind (arith, nat_tests, c.len-number.ensures, c.self.invariant.within, c.if-number.false)) c.in_ok-numbers.ensures c.in_ok-push.ensures.ok
