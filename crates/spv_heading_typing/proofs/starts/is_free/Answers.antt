use Rattle.std.proofs.Common.{◌∙◌, sym}
use Rattle.spv_heading_typing.proofs.Params.{free_at, free_is_new, free_is_apart}
use Rattle.spv_heading_typing.proofs.starts.is_free.Goals as goal

pub returns-clause-free : goal.returns-clause-free
returns-clause-free c =
    c.is_free.ensures
    ∙ free_at c.args.known.now.start c.args.routine c.variables.result.now c.args.parameters.now.own c.args.starts.now.own c.args.shared.now c.variables.ensures.listed c.args.x

pub returns-clause-new : goal.returns-clause-new
returns-clause-new c = λ free.
    free_is_new c.args.known.now.start c.args.routine c.variables.result.now c.args.parameters.now.own c.args.starts.now.own c.args.x (sym c.is_free.ensures ∙ free)

pub returns-clause-apart : goal.returns-clause-apart
returns-clause-apart c = λ free.
    free_is_apart c.args.known.now.start c.args.routine c.variables.result.now c.args.parameters.now.own c.args.starts.now.own c.args.x (sym c.is_free.ensures ∙ free)
