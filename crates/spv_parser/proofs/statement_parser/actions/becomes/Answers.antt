use Rattle.std.proofs.Common.{length, subst, ◌≤◌, ◌∙◌}
use Rattle.spv_grammar.specs.reading.FormulaReaders.{read_inner, read_formula}
use Rattle.spv_formula_parser.proofs.primitives.Exits.{halted}
use Rattle.spv_parser.proofs.statement_parser.Calls.{no_call}
use Rattle.spv_parser.proofs.statement_parser.actions.becomes.Goals as goal

pub returns-clause-absent : goal.returns-clause-absent
returns-clause-absent c s h = no_call (read_formula c.args.levels) (read_inner c.args.levels) c.args.name c.args.behind.items c.args.tokens.now (subst (λ xs. 1 ≤ length xs) c.as_slice.ensures.value c.in_default.len_at_least) c.if-is_sign.ensures ∙ halted s c.unexpected.result c.unexpected.ensures h
