use Rattle.spv_search.proofs.branches.Coming.{whole, stands}
use Rattle.spv_search.proofs.branches.Ending.{kept, closed, proof}
use Rattle.spv_search.proofs.branches.laws.law_tree.Goals as goal

pub returns-clause-whole : goal.returns-clause-whole
returns-clause-whole c = whole

pub returns-clause-stands : goal.returns-clause-stands
returns-clause-stands c = stands

pub returns-clause-kept : goal.returns-clause-kept
returns-clause-kept c = kept

pub returns-clause-closed : goal.returns-clause-closed
returns-clause-closed c = closed

pub returns-clause-proof : goal.returns-clause-proof
returns-clause-proof c = proof
