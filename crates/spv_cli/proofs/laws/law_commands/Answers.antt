use Rattle.std.proofs.Common.{refl}
use Rattle.clap.proofs.OnLiterals.{clap_on_literals}
use Rattle.spv_cli.proofs.laws.law_commands.Goals as goal

pub returns-clause-one_file : goal.returns-clause-one_file
unfolding clap_on_literals
returns-clause-one_file c = refl

pub returns-clause-conditions : goal.returns-clause-conditions
unfolding clap_on_literals
returns-clause-conditions c = refl

pub returns-clause-proofs : goal.returns-clause-proofs
unfolding clap_on_literals
returns-clause-proofs c = refl

pub returns-clause-limits : goal.returns-clause-limits
unfolding clap_on_literals
returns-clause-limits c = refl

pub returns-clause-dashes : goal.returns-clause-dashes
unfolding clap_on_literals
returns-clause-dashes c = refl

pub returns-clause-unused : goal.returns-clause-unused
unfolding clap_on_literals
returns-clause-unused c = refl

pub returns-clause-rules : goal.returns-clause-rules
unfolding clap_on_literals
returns-clause-rules c = (refl, refl)

pub returns-clause-listing : goal.returns-clause-listing
unfolding clap_on_literals
returns-clause-listing c = (refl, refl, refl)
