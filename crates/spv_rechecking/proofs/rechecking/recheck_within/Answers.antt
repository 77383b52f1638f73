use Rattle.std.proofs.Common.{◌∙◌, ap}
use Rattle.std.specs.Prelude.{Err}
use Rattle.spv_rechecking.proofs.CopyLemmas.{asked_with_room, asked_without_room}
use Rattle.spv_rechecking.proofs.rechecking.recheck_within.Goals as goal

pub decided-requires-clause-asked : goal.decided-requires-clause-asked
decided-requires-clause-asked c = asked_with_room c.args.terms.now c.args.condition.now c.args.most c.in-Ok.copied c.in-Ok.ensures.copy c.law_arena.ensures c.requires.formulas

pub decided-requires-in-Ok-copy_condition-clause-asked : goal.decided-requires-in-Ok-copy_condition-clause-asked
decided-requires-in-Ok-copy_condition-clause-asked c =
    asked_without_room c.args.terms.now c.args.condition.now 4294967295 c.in-Ok-copy_condition.copied c.in-Ok-copy_condition.ensures.copy c.law_arena-in-Ok-copy_condition.ensures c.requires.formulas c.args.most
    (c.copy_condition.ensures.size (c.in-Err-Size.is ∙ ap Err c.in-Err-Size.field-0-is))
