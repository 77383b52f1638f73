use Rattle.std.proofs.Common.{◌∙◌, ap, map}
use Rattle.std.proofs.lemmas.Result.{IfOk-weaker}
use Rattle.clap.specs.Words.{found_of}
use Rattle.spv_cli.proofs.ByRows.{files_found, no_files}
use Rattle.spv_cli.proofs.words.files_in.Goals as goal

pub returns-in-Some : goal.returns-in-Some
returns-in-Some c =
    IfOk-weaker c.from_slice.result _ _ (λ v h. ap (map (λ file. file.now)) h ∙ files_found (found_of c.args.matches.now) _ c.in-Some.ensures) c.from_slice.ensures.items

pub returns-in-None : goal.returns-in-None
returns-in-None c = ap (map (λ file. file.now)) c.new.ensures.items ∙ no_files (found_of c.args.matches.now) c.in-None.ensures
