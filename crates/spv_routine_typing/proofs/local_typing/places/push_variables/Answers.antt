use Rattle.std.proofs.Common.{◌++◌, ◌∷◌, [], ap, ◌∙◌}
use Rattle.spv_program.proofs.ordered_map.Putting.{one_more}
use Rattle.spv_routine_typing.proofs.local_typing.places.push_variables.Goals as goal

pub loop-place-preserved : goal.loop-place-preserved
loop-place-preserved c =
    c.in_ok-push.ensures.ok
    ∙ (ap (λ l. l ++ (c.in-Some.name, c.args.t) ∷ []) c.loop-place.invariant
    ∙ one_more (λ e. (e.0, c.args.t)) c.args.variables.now c.args.names.now c.loop-place.place (c.in-Some.name, c.in-Some.field-0-1.now) c.in-Some.ensures.entry)
