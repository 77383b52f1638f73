use Rattle.spv_logic.specs.Conditions.{answers}
use Rattle.spv_program.specs.Programs.{shapes}
use Rattle.spv_meaning.specs.Evaluation.{fix}
use Rattle.spv_rule_soundness.proofs.evaluation.Steps.{quiet_as}
use Rattle.spv_rule_soundness.proofs.evaluation.Settings.{setting}
use Rattle.spv_rule_soundness.proofs.evaluation.Values.{evaluated, fixed_at}
use Rattle.spv_rule_soundness.proofs.evaluation.laws.law_value.Goals as goal

pub returns-clause-expressions : goal.returns-clause-expressions
returns-clause-expressions c p ok world v here state shown e s sort calls uses below n choices =
    evaluated p (answers (shapes p) p.symbols world) v here state (setting p ok world v here state shown) e s sort calls uses below n choices

pub returns-clause-places : goal.returns-clause-places
returns-clause-places c p ok world v here state shown d t type calls writes uses below n choices =
    quiet_as _ _ choices (fix p below here d state choices) (λ fixed st. record { state_is = st.state_is; type_is = st.type_is; there = st.there })
    (fixed_at p (answers (shapes p) p.symbols world) v here state (setting p ok world v here state shown) d t type calls writes uses below n choices)
