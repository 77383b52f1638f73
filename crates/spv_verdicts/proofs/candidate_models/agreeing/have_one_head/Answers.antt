use Rattle.std.proofs.Common.{sym, ◌∙◌}
use mathlib.Core.Path.{ap₂}
use Rattle.spv_logic.specs.Terms.{head_eq}
use Rattle.spv_verdicts.proofs.candidate_models.Worths.{head-node}
use Rattle.spv_verdicts.proofs.candidate_models.agreeing.have_one_head.Goals as goal

pub returns : goal.returns
returns c =
    c.same_head.ensures
    ∙ ap₂ head_eq (sym (head-node c.args.terms.now c.law_arena.ensures c.args.t c.node-left.result.now c.node-left.ensures)) (sym (head-node c.args.terms.now c.law_arena.ensures c.args.u c.node-right.result.now c.node-right.ensures))
