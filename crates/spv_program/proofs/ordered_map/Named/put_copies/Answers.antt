use Rattle.std.proofs.Common.{◌++◌, ◌∷◌, [], take, ap, ◌∙◌}
use Rattle.spv_program.proofs.ordered_map.Putting.{next_is_new, one_copied}
use Rattle.spv_program.proofs.ordered_map.Named.put_copies.Goals as goal

pub insert-requires : goal.insert-requires
insert-requires g c = record { new = rw (c.loop-place.invariant) (next_is_new _ (take c.loop-place.place c.args.names.now) c.args.names.now c.loop-place.place (c.in-Some.name, c.in-Some.value.now) c.requires.new c.in-Some.ensures.entry c.in-Some.ensures.earlier) }

pub loop-place-preserved : goal.loop-place-preserved
loop-place-preserved g c = c.in_ok-insert.ensures.ok ∙ (ap (λ l. l ++ (c.in-Some.name, c.in-Some.value.now) ∷ []) c.loop-place.invariant ∙ one_copied _ c.args.names.now c.loop-place.place (c.in-Some.name, c.in-Some.value.now) c.in-Some.ensures.entry)
