use Rattle.spv_cli.proofs.Options.{are_options}
use Rattle.spv_cli.proofs.words.read_words.Goals as goal

pub command_in-requires : goal.command_in-requires
command_in-requires c = are_options c.in_ok-command.command c.in-Ok.matches c.in_ok-command.ensures c.in-Ok.ensures.parsed
