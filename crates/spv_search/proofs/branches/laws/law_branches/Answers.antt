use Rattle.spv_search.proofs.branches.Coming.{goes-on}
use Rattle.spv_search.proofs.branches.Room.{less-room}
use Rattle.spv_search.proofs.branches.laws.law_branches.Goals as goal

pub returns-clause-goes_on : goal.returns-clause-goes_on
returns-clause-goes_on c = goes-on

pub returns-clause-less : goal.returns-clause-less
returns-clause-less c = less-room
