use Rattle.spv_lexer.proofs.LongestSign.{sign-longest, sign-stands}
use Rattle.spv_lexer.proofs.laws.law_longest_sign.Goals as goal

pub returns-clause-stands : goal.returns-clause-stands
returns-clause-stands c = sign-stands

pub returns-clause-longest : goal.returns-clause-longest
returns-clause-longest c = sign-longest
