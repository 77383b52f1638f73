use Rattle.spv_search.proofs.Consulted.{found_by_trial, tried_as}
use Rattle.spv_search.proofs.consulting.probe.Goals as goal

pub try_table-requires-clause-values : goal.try_table-requires-clause-values
try_table-requires-clause-values c = c.in_ok-table.ensures.within

pub try_table-requires-clause-lists : goal.try_table-requires-clause-lists
try_table-requires-clause-lists c = c.in_ok-table.ensures.lists

pub returns-in-Shown : goal.returns-in-Shown
returns-in-Shown c = found_by_trial c.args.terms.now c.args.condition.now c.in_ok-table.table c.in-Shown.branch (tried_as c.args.terms.now c.args.condition.now c.in_ok-table.table _ _ c.in-Shown.is c.in_ok-tried.ensures) _ c.new.ensures

pub mend_apart-requires-clause-t : goal.mend_apart-requires-clause-t
mend_apart-requires-clause-t c = (tried_as c.args.terms.now c.args.condition.now c.in_ok-table.table _ _ c.in-Apart.is c.in_ok-tried.ensures).0

pub mend_apart-requires-clause-u : goal.mend_apart-requires-clause-u
mend_apart-requires-clause-u c = (tried_as c.args.terms.now c.args.condition.now c.in_ok-table.table _ _ c.in-Apart.is c.in_ok-tried.ensures).1

pub mend-requires-clause-table : goal.mend-requires-clause-table
mend-requires-clause-table c = c.in_ok-table.ensures.within

pub returns-in-Apart : goal.returns-in-Apart
returns-in-Apart c = c.mend_apart.ensures c.args.condition.now
