use Rattle.spv_lexer.specs.Reading.{reading}
use Rattle.spv_lexer.proofs.Counts.{result_few}
use Rattle.spv_lexer.proofs.Tables.{grown-kept, result-in_table}
use Rattle.spv_lexer.proofs.lexer.tokens.Goals as goal

pub returns-clause-in_table : goal.returns-clause-in_table
returns-clause-in_table c = result-in_table c.read.result c.args.names.now c.read.new.names (reading c.args.text.now).tokens c.read.ensures.tokens c.read.ensures.names

pub returns-clause-kept : goal.returns-clause-kept
returns-clause-kept c = grown-kept c.read.result c.args.names.now c.read.new.names (reading c.args.text.now).tokens c.read.ensures.names c.read.ensures.grown

pub returns-clause-few : goal.returns-clause-few
returns-clause-few c = result_few c.read.result (λ ts. ts.items) c.args.names.now c.args.text.now c.read.ensures.tokens
