use Rattle.std.proofs.Common.{arith}
use Rattle.spv_grammar.specs.nesting.Level.{at_first}
use Rattle.spv_grammar.proofs.nesting.Texts.{low_from, none_from}
use Rattle.spv_grammar.proofs.nesting.laws.law_level.Goals as goal

pub returns-clause-low : goal.returns-clause-low
returns-clause-low c tokens h = low_from at_first tokens (omega arith) h

pub returns-clause-none : goal.returns-clause-none
returns-clause-none c tokens h = none_from at_first tokens h
