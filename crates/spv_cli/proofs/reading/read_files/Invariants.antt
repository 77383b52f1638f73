use Rattle.std.proofs.Common.{◌≡◌, map, take}
use Rattle.spv_cli.specs.Gathering.{AreTextsOf}
use Rattle.spv_cli.specs.Runs.{named_all}
use Rattle.spv_cli.proofs.reading.read_files.Given as goal

abbrev pub invariant-loop-file : goal.invariant-loop-file
invariant-loop-file g l = record {
  told : g.T.Texts.told l.texts ≡ g.T.Texts.told l.initial.texts;
  asked : g.T.Texts.asked l.texts ≡ named_all (g.T.Texts.asked l.initial.texts) (map (λ file. file.now) (take l.file-index l.files));
  faults : g.T.Texts.faults l.texts ≡ g.T.Texts.faults l.initial.texts;
  texts : AreTextsOf (g.T.Texts.told l.initial.texts) (map (λ file. file.now) (take l.file-index l.files)) (map (λ text. text.items) l.read.items);
}
