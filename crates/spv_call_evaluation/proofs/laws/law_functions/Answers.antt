use Rattle.std.proofs.Common.{refl}
use Rattle.spv_program.specs.Programs.{routine_in}
use Rattle.spv_program.specs.ExpressionTerms.{valued}
use Rattle.spv_meaning.specs.Evaluation.{evaluate}
use Rattle.spv_rule_soundness.specs.statements.Runs.{all_allowed}
use Rattle.spv_rule_soundness.specs.statements.Laws.{below}
use Rattle.spv_rule_soundness.proofs.statements.Reaching.{reach_as}
use Rattle.spv_call_evaluation.proofs.Windows.{knows_shown}
use Rattle.spv_call_evaluation.proofs.Evaluating.{evaluated}
use Rattle.spv_call_evaluation.proofs.Functions.{functions_give}
use Rattle.spv_call_evaluation.proofs.laws.law_functions.Goals as goal

pub returns-clause-functions : goal.returns-clause-functions
returns-clause-functions c = functions_give

pub returns-clause-tests : goal.returns-clause-tests
returns-clause-tests c world p framed here entry e s sort calls uses turns correct n window is wanted state start from choices =
    reach_as p world all_allowed _ _ (evaluate p (below p turns) here e state choices)
    (λ got given.
    let made = given.widens in
    record {
      state_is = given.passes.state_is;
      wider = given.wider;
      is_window = made.is_window;
      keeps = made.keeps;
      adds = made.adds;
      worth = λ v val shows. given.passes.worth v (knows_shown p framed.typed world here entry (valued p (routine_in p here.routine) n e).supply given.wider made.is_window state start v val shows);
      true_there = made.true_there;
    })
    (evaluated p world here (below p turns) state (record { typed = framed.typed; entry = entry; start = start; functions = functions_give p framed world here entry turns correct state start }) e s sort calls uses n window wanted (record { is_window = is; true_there = from }) state refl choices)
