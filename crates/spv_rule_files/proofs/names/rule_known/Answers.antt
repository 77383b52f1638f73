use Rattle.std.proofs.Common.{ap, ◌∙◌}
use Rattle.spv_program.specs.Programs.{Program}
use Rattle.spv_typing.specs.Known.{known_in}
use Rattle.spv_rule_files.proofs.Knowing.{rule_known_is}
use Rattle.spv_rule_files.proofs.names.rule_known.Goals as goal

pub returns : goal.returns
returns c =
    rule_known_is (known_in c.args.names.now) c.args.program.now _ _ _ _ _ _ _ c.in_ok-known.ensures c.in_ok-constants.ensures c.in_ok-types.ensures c.in_ok-symbols.ensures
    (c.as_slice.ensures ∙ ap (λ (p : Program). p.constants) c.program.view_is) (c.as_slice-2.ensures ∙ ap (λ (p : Program). p.types) c.program.view_is)
    (c.as_slice-3.ensures ∙ ap (λ (p : Program). p.symbols) c.program.view_is)
