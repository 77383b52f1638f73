use Rattle.spv_tableau_rules.proofs.pivots.Pivoting.{pivot_solves}
use Rattle.spv_tableau_rules.proofs.pivots.Stepping.{step_solves, basis_alone, entries_alone}
use Rattle.spv_tableau_rules.proofs.pivots.laws.law_pivot.Goals as goal

pub returns-clause-solved : goal.returns-clause-solved
returns-clause-solved c = pivot_solves

pub returns-clause-step : goal.returns-clause-step
returns-clause-step c = step_solves

pub returns-clause-basis : goal.returns-clause-basis
returns-clause-basis c = basis_alone

pub returns-clause-entries : goal.returns-clause-entries
returns-clause-entries c = entries_alone
