use Rattle.std.proofs.Common.{refl}
use Rattle.spv_lexer.specs.Front.{comment, letters, numeral, longest_sign, front}
use Rattle.spv_lexer.specs.Reading.{by_front, pieces, reading_from}
use Rattle.spv_lexer.specs.Tokens.{numbered}
use Rattle.spv_worked.proofs.rule_texts.law_read.Goals as goal

pub returns : goal.returns
unfolding comment letters numeral longest_sign front by_front pieces reading_from numbered
returns c = (refl, (refl, (refl, (refl, (refl, (refl, (refl, tt)))))))
