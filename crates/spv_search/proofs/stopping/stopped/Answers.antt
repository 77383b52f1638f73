use Rattle.std.proofs.Common.{ap, ◌∙◌}
use Rattle.spv_search.specs.Finding.{is_too_wide}
use Rattle.spv_search.proofs.Stops.{stop_is}
use Rattle.spv_search.proofs.stopping.stopped.Goals as goal

pub returns : goal.returns
returns c = record {
  answer_is = stop_is c.args.both.now.standing.tableau.answer c.is_wide-wide.result c.requires.stopped (c.is_wide-wide.ensures ∙ ap is_too_wide c.answer.ensures);
  evidence_is = c.in_ok-evidence.ensures ∙ c.evidence.ensures;
}
