use Rattle.std.proofs.Common.{sym, ◌∙◌}
use Rattle.spv_rechecking.proofs.written_terms.Named.{find_is, not_folded}
use Rattle.spv_rechecking.proofs.written_terms.heads.symbol_for.Goals as goal

pub returns-then-is_folded : goal.returns-then-is_folded
returns-then-is_folded c = find_is c.args.names.now c.args.word.now c.find.result c.find.ensures.absent c.find.ensures.number c.find.ensures.stands

pub returns : goal.returns
returns c = not_folded c.args.names.now c.args.word.now c.law_different.ensures.folded (sym c.is_folded.ensures ∙ c.if-is_folded.false)
