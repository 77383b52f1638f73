use Rattle.std.proofs.Common.{◌∙◌, ap, length, map, refl, subst, sym}
use Rattle.std.proofs.lemmas.List.{length-map}
use Rattle.spv_cli.specs.Runs.{HasSource}
use Rattle.spv_cli.specs.Words.{command_view}
use Rattle.spv_cli.proofs.Told.{found_result, texts_as_many}
use Rattle.spv_cli.proofs.found.find.Goals as goal

pub look_at-requires : goal.look_at-requires
look_at-requires g c = subst (HasSource c.args.command.mode) (sym (ap length c.as_slice-in-Texts.ensures.value
    ∙ (texts_as_many _ (map (λ file. file.now) c.as_slice.result.now) c.in_ok-file.field-0 c.in-Texts.read c.in_ok-file.ensures.gathered c.in-Texts.is
    ∙ (length-map c.as_slice.result.now (λ file. file.now) ∙ ap length c.as_slice.ensures.value)))) c.requires

pub returns-clause-found : goal.returns-clause-found
returns-clause-found g c =
    found_result _ (command_view c.args.command) c.as_slice.result.now c.args.command.files.items c.in_ok-file.field-0 c.in-Texts.read c.as_slice-in-Texts.result.now c.look_at.result
    refl c.in_ok-file.ensures.gathered c.as_slice.ensures.value c.in-Texts.is c.as_slice-in-Texts.ensures.value c.look_at.ensures
