use Rattle.spv_writes.proofs.Kept.{chain, unwritten, untouched_stays, existing}
use Rattle.spv_writes.proofs.Parts.{part_written}
use Rattle.spv_writes.proofs.laws.law_writing.Goals as goal

pub returns-clause-chains : goal.returns-clause-chains
returns-clause-chains c = chain

pub returns-clause-nothing : goal.returns-clause-nothing
returns-clause-nothing c = unwritten

pub returns-clause-untouched : goal.returns-clause-untouched
returns-clause-untouched c = untouched_stays

pub returns-clause-existing : goal.returns-clause-existing
returns-clause-existing c = existing

pub returns-clause-parts : goal.returns-clause-parts
returns-clause-parts c = part_written
