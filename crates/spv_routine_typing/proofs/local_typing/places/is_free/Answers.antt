use Rattle.std.proofs.Common.{◌∙◌, sym}
use Rattle.spv_heading_typing.proofs.Params.{free_is_new}
use Rattle.spv_routine_typing.proofs.local_typing.Frees.{free_here}
use Rattle.spv_routine_typing.proofs.local_typing.places.is_free.Goals as goal

pub returns-clause-free : goal.returns-clause-free
returns-clause-free c =
    c.is_free.ensures ∙ free_here c.args.known.now.start c.args.routine c.args.listed.now c.new-none.result c.args.own.now c.new-none.ensures c.args.x

pub returns-clause-new : goal.returns-clause-new
returns-clause-new c = λ free.
    free_is_new c.args.known.now.start c.args.routine c.args.listed.now c.new-none.result c.args.own.now c.args.x (sym c.is_free.ensures ∙ free)
