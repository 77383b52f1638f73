use Rattle.std.proofs.Common.{◌++◌, ◌∷◌, [], map, take, ap, ◌∙◌}
use Rattle.spv_program.specs.ordered_map.Entries.{under}
use Rattle.spv_program.proofs.ordered_map.Putting.{next_is_new, none_under, one_more}
use Rattle.spv_program.proofs.ordered_map.Named.put_names.Goals as goal

pub insert-requires : goal.insert-requires
insert-requires g c = record { new = rw (c.loop-place.invariant) (next_is_new _ (map (under c.args.value) (take c.loop-place.place c.args.names.now)) c.args.names.now c.loop-place.place (c.in-Some.name, c.in-Some.field-0-1.now) c.requires.new c.in-Some.ensures.entry (none_under c.args.value (take c.loop-place.place c.args.names.now) c.in-Some.name c.in-Some.ensures.earlier)) }

pub loop-place-preserved : goal.loop-place-preserved
loop-place-preserved g c = c.in_ok-insert.ensures.ok ∙ (ap (λ l. l ++ (c.in-Some.name, c.args.value) ∷ []) c.loop-place.invariant ∙ one_more (under c.args.value) c.args.self.now c.args.names.now c.loop-place.place (c.in-Some.name, c.in-Some.field-0-1.now) c.in-Some.ensures.entry)
