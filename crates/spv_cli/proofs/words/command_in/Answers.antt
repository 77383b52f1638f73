use Rattle.std.proofs.Common.{◌∙◌}
use Rattle.clap.specs.Words.{found_of}
use Rattle.spv_cli.proofs.ByRows.{command_found, no_mode}
use Rattle.spv_cli.proofs.words.command_in.Goals as goal

pub returns-in-Some-clause-command : goal.returns-in-Some-clause-command
returns-in-Some-clause-command c = c.command_named.ensures.command ∙ command_found (found_of c.args.matches.now) c.in-Some.word.now _ _ _ c.in-Some.ensures c.limits_in.ensures c.proofs_in.ensures c.in_ok-files.ensures

pub returns-clause-command : goal.returns-clause-command
returns-clause-command c = no_mode (found_of c.args.matches.now) c.in-None.ensures
