use Rattle.spv_parser.proofs.language.Grown.{grown}
use Rattle.spv_parser.proofs.language.reading.program.Goals as goal

pub returns-in_err-tree-clause-grown : goal.returns-in_err-tree-clause-grown
returns-in_err-tree-clause-grown c = grown _ c.args.names.now c.args.text.now c.tokens.new.names c.in_ok-tokens.ensures.names
