use Rattle.std.proofs.Common.{refl}
use Rattle.clap.proofs.OnLiterals.{clap_on_literals}
use Rattle.spv_cli.proofs.laws.law_no_commands.Goals as goal

pub returns-clause-no_words : goal.returns-clause-no_words
unfolding clap_on_literals
returns-clause-no_words c = (refl, refl, refl)

pub returns-clause-mode : goal.returns-clause-mode
unfolding clap_on_literals
returns-clause-mode c = (refl, refl)

pub returns-clause-many_files : goal.returns-clause-many_files
unfolding clap_on_literals
returns-clause-many_files c = (refl, refl, refl)

pub returns-clause-option : goal.returns-clause-option
unfolding clap_on_literals
returns-clause-option c = (refl, refl, refl)

pub returns-clause-limit : goal.returns-clause-limit
unfolding clap_on_literals
returns-clause-limit c = (refl, refl, refl, refl, refl)

pub returns-clause-twice : goal.returns-clause-twice
unfolding clap_on_literals
returns-clause-twice c = (refl, refl)

pub returns-clause-no_listing : goal.returns-clause-no_listing
unfolding clap_on_literals
returns-clause-no_listing c = (refl, refl)
