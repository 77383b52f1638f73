use Rattle.spv_lexer.specs.Spelling.{name, number, word}
use Rattle.spv_lexer.proofs.token_laws.Following.{lettered-ends, number-ends}
use Rattle.std.proofs.Common.{refl}
use Rattle.spv_lexer.proofs.token_laws.laws.law_followed.Goals as goal

pub returns-clause-names : goal.returns-clause-names
returns-clause-names c = λ text n k h. lettered-ends text (name n) k h refl

pub returns-clause-words : goal.returns-clause-words
returns-clause-words c = λ text w k h. lettered-ends text (word w) k h refl

pub returns-clause-numbers : goal.returns-clause-numbers
returns-clause-numbers c = λ text n k h. number-ends text (number n) k h refl
