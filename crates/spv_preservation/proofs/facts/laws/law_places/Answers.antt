use Rattle.spv_preservation.proofs.facts.Places.{put_found, put_parts, put_sorted, put_exists}
use Rattle.spv_preservation.proofs.facts.laws.law_places.Goals as goal

pub returns-clause-same : goal.returns-clause-same
returns-clause-same c shapes state a e place v = put_found shapes state a e place v

pub returns-clause-parting : goal.returns-clause-parting
returns-clause-parting c shapes state a e place v path apart = put_parts shapes state a e place v path apart

pub returns-clause-sorts : goal.returns-clause-sorts
returns-clause-sorts c shapes state a e place v ok = put_sorted shapes state a e place v ok

pub returns-clause-existing : goal.returns-clause-existing
returns-clause-existing c shapes state a e place v ok b = put_exists shapes state a e place v ok b
