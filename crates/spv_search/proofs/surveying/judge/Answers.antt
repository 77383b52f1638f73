use Rattle.spv_search.proofs.Tables.{table_in, not_shown, found_unproved, found_wide}
use Rattle.spv_search.proofs.surveying.judge.Goals as goal

pub surviving-requires-clause-values : goal.surviving-requires-clause-values
surviving-requires-clause-values c = table_in c.args.terms.now c.args.condition.now c.args.both.now c.args.subterms.now c.args.listed.now c.args.table.values c.requires.listed c.requires.table

pub returns-in-Ok-Some : goal.returns-in-Ok-Some
returns-in-Ok-Some c =
    found_unproved c.args.terms.now c.args.condition.now c.args.both.now c.args.subterms.now c.args.listed.now c.args.table c.requires.listed c.requires.state c.requires.table c.law_full_state.ensures.unproved _
    (rw c.in-Ok-Some.field-0-is at c.in-Ok-Some.ensures.shown) _ c.new.ensures

pub unreachable-requires : goal.unreachable-requires
unreachable-requires c =
    not_shown c.args.terms.now c.args.condition.now c.args.both.now c.args.subterms.now c.args.listed.now c.args.table c.requires.listed c.requires.state c.requires.table c.law_full_state.ensures.never
    (rw c.in-Ok-None.field-0-is at c.in-Ok-None.ensures.not_shown)

pub returns-in-Err-Wide : goal.returns-in-Err-Wide
returns-in-Err-Wide c =
    found_wide c.args.terms.now c.args.condition.now c.args.both.now c.args.subterms.now c.args.listed.now c.args.table c.requires.listed c.requires.state c.requires.table c.law_wide_value.ensures _ _
    (rw c.in-Err-Wide.field-0-is at c.in-Err-Wide.ensures.fault) _ c.new-in-Err-Wide.ensures
