use Rattle.std.proofs.Common.{◌∙◌, ap, codes}
use Rattle.clap.specs.Words.{found_of, one_text}
use Rattle.clap.proofs.WalkLemmas.{one_text-rows}
use Rattle.spv_cli.specs.Commands.{is_true}
use Rattle.spv_cli.proofs.ByRows.{flag_is}
use Rattle.spv_cli.proofs.words.proofs_in.Goals as goal

pub returns : goal.returns
returns c =
    let f = found_of c.args.matches.now in
    flag_is (one_text f (codes "proofs")) c.get_flag.result c.requires.proofs c.get_flag.ensures.none c.get_flag.ensures.value c.get_flag.ensures.other
    ∙ ap is_true (one_text-rows f (codes "proofs"))
