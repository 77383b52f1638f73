use Rattle.spv_search.proofs.Consulted.{found_by_trial, tried_as}
use Rattle.spv_fact_search.proofs.trying.shown_by.Goals as goal

pub try_table-requires-clause-values : goal.try_table-requires-clause-values
try_table-requires-clause-values c = c.requires.table.within

pub try_table-requires-clause-lists : goal.try_table-requires-clause-lists
try_table-requires-clause-lists c = c.requires.table.lists

pub returns-in-Shown : goal.returns-in-Shown
returns-in-Shown c = found_by_trial c.args.terms.now c.args.condition.now c.args.table c.in-Shown.branch (tried_as c.args.terms.now c.args.condition.now c.args.table _ _ c.in-Shown.is c.in_ok-tried.ensures) _ c.new.ensures
