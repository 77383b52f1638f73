use Rattle.spv_typing.specs.RoutineWalk.{group_walk}
use Rattle.spv_environments.specs.Answers.{Stops}
use Rattle.spv_heading_typing.specs.Parameters.{parameters_of}
use Rattle.spv_heading_typing.proofs.Bridges.{if_err}
use Rattle.spv_heading_typing.proofs.Params.{variables_stop}
use Rattle.spv_heading_typing.proofs.parameters.group.Goals as goal

pub returns-in-Variables-clause-err : goal.returns-in-Variables-clause-err
returns-in-Variables-clause-err c =
    if_err c.variables.result _ (λ e. Stops e (group_walk c.args.known.now c.args.routine (parameters_of c.args.parameters) c.args.tree.now)) c.variables.ensures.err
    (λ e h. variables_stop c.args.known.now c.args.routine (parameters_of c.args.parameters) c.args.tree.now c.in-Variables.by_place c.in-Variables.names c.in-Variables.of e c.in-Variables.is h)
