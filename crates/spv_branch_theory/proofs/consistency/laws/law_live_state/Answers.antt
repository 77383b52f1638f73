use Rattle.spv_branch_theory.proofs.consistency.Showing.{open_shows, open_live}
use Rattle.spv_branch_theory.proofs.consistency.laws.law_live_state.Goals as goal

pub returns-clause-shown : goal.returns-clause-shown
returns-clause-shown c = open_shows

pub returns-clause-live : goal.returns-clause-live
returns-clause-live c = open_live
