use Rattle.std.proofs.Common.{map}
use Rattle.spv_cli.proofs.ByRows.{named_command}
use Rattle.spv_cli.proofs.words.command_named.Goals as goal

pub returns-in-Some-clause-command : goal.returns-in-Some-clause-command
returns-in-Some-clause-command c =
    named_command c.args.word.now c.args.limits c.args.proofs (map (λ file. file.now) c.args.files.items) c.in-Some.row _ c.in-Some.ensures.row c.command_with.ensures.command
