use Rattle.std.proofs.Common.{sym, ◌∙◌}
use Rattle.spv_statement_typing.specs.Settings.{setting_of}
use Rattle.spv_statement_typing.proofs.Counters.{counts_already, counts_not_yet}
use Rattle.spv_statement_typing.proofs.heads.uncounted.Goals as goal

pub returns-then-is_counted-clause-err : goal.returns-then-is_counted-clause-err
returns-then-is_counted-clause-err c =
    counts_already (setting_of c.args.setting.now) c.args.line c.args.x (sym c.is_counted.ensures ∙ c.if-is_counted.true)

pub returns-else-is_counted-clause-ok : goal.returns-else-is_counted-clause-ok
returns-else-is_counted-clause-ok c =
    counts_not_yet (setting_of c.args.setting.now) c.args.line c.args.x (sym c.is_counted.ensures ∙ c.if-is_counted.false)
