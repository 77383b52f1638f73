use Rattle.std.proofs.Common.{length, map, ap, ◌∙◌}
use Rattle.std.proofs.lemmas.List.{length-map}
use Rattle.spv_typing.specs.Merging.{target_number}
use Rattle.spv_declaration_typing.specs.pointer_types.Views.{written_of, all_written}
use Rattle.spv_declaration_typing.proofs.pointer_types.Alike.{many_firsts}
use Rattle.spv_declaration_typing.proofs.pointer_types.merging.merge.Goals as goal

pub merge_behind-requires : goal.merge_behind-requires
merge_behind-requires c =
    ap length c.in_ok-firsts.ensures
    ∙ (many_firsts (map (target_number c.args.names.now) (all_written c.args.written.now))
    ∙ (length-map (all_written c.args.written.now) (target_number c.args.names.now) ∙ length-map c.args.written.now written_of))
