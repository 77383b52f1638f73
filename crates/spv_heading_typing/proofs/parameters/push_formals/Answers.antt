use Rattle.std.proofs.Common.{◌++◌, ◌∷◌, [], ap, ◌∙◌}
use Rattle.spv_program.proofs.ordered_map.Putting.{one_more}
use Rattle.spv_heading_typing.proofs.parameters.push_formals.Goals as goal

pub loop-place-preserved : goal.loop-place-preserved
loop-place-preserved c =
    c.in_ok-push.ensures.ok
    ∙ (ap (λ l. l ++ record { name = c.in-Some.name; of = c.args.of; by_place = c.args.by_place; line = c.args.line } ∷ []) c.loop-place.invariant
    ∙ one_more (λ e. record { name = e.0; of = c.args.of; by_place = c.args.by_place; line = c.args.line }) c.args.formals.now c.args.names.now c.loop-place.place
    (c.in-Some.name, c.in-Some.field-0-1.now) c.in-Some.ensures.entry)
