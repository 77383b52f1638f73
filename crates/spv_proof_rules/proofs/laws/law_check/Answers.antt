use Rattle.spv_proof_rules.specs.Stand.{question, question_under}
use Rattle.spv_proof_rules.proofs.Soundness.{accepted_true}
use Rattle.spv_proof_rules.proofs.laws.law_check.Goals as goal

pub returns-clause-every_world : goal.returns-clause-every_world
returns-clause-every_world t c world q ok hold nodes e = accepted_true world q ok hold nodes e

pub returns-clause-this_world : goal.returns-clause-this_world
returns-clause-this_world t c q ok hold nodes e = accepted_true _ q ok hold nodes e

pub returns-clause-conditions : goal.returns-clause-conditions
returns-clause-conditions t c world a arena condition nodes p = accepted_true world (question a condition) arena.shapes tt nodes p.accepted

pub returns-clause-under_rules : goal.returns-clause-under_rules
returns-clause-under_rules t c world rules a arena hold condition nodes e = accepted_true world (question_under rules a condition) arena.shapes hold nodes e
