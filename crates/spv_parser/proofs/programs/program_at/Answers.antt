use Rattle.std.proofs.Common.{◌∙◌}
use Rattle.spv_formula_parser.proofs.primitives.Exits.{same_fault}
use Rattle.spv_parser.proofs.ProgramParts.{none_behind, up_to_entry, up_to_exit}
use Rattle.spv_parser.proofs.programs.program_at.Goals as goal

pub returns-in_err-exit-clause-absent : goal.returns-in_err-exit-clause-absent
returns-in_err-exit-clause-absent c s h =
    up_to_entry c.args.levels c.args.tokens.now c.in_ok-rest.ensures.there c.in_ok-rest.ensures.behind c.in_ok-name.ensures.read c.in_ok-files.ensures.read c.in_ok-rest-2.ensures.there c.in_ok-rest-2.ensures.behind c.in_ok-declarations.ensures.read c.in_ok-routines.ensures.read c.in_ok-entry.ensures.read
    ∙ none_behind _ (c.in_err-exit.ensures.absent s (same_fault s _ c.from_residual-in_err-exit.result c.from_residual-in_err-exit.ensures.1 h))

pub returns-in_err-block-clause-absent : goal.returns-in_err-block-clause-absent
returns-in_err-block-clause-absent c s h =
    up_to_exit c.args.levels c.args.tokens.now c.in_ok-rest.ensures.there c.in_ok-rest.ensures.behind c.in_ok-name.ensures.read c.in_ok-files.ensures.read c.in_ok-rest-2.ensures.there c.in_ok-rest-2.ensures.behind c.in_ok-declarations.ensures.read c.in_ok-routines.ensures.read c.in_ok-entry.ensures.read c.in_ok-exit.ensures.read
    ∙ none_behind _ (c.in_err-block.ensures.absent s (same_fault s _ c.from_residual-in_err-block.result c.from_residual-in_err-block.ensures.1 h))
