use Rattle.std.proofs.Common.{refl, sym}
use Rattle.spv_lexer.specs.Front.{longest_sign}
use Rattle.spv_lexer.proofs.front.longest_sign.Goals as goal

pub returns-in-Some-clause-front : goal.returns-in-Some-clause-front
unfolding longest_sign
returns-in-Some-clause-front c = rw (sym c.in-Some.ensures) refl

pub returns-in-None-clause-front : goal.returns-in-None-clause-front
unfolding longest_sign
returns-in-None-clause-front c = rw (sym c.in-None.ensures, c.requires) refl
