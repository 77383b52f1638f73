use Rattle.spv_table.specs.Kept.{listed_over}
use Rattle.spv_verdicts.proofs.candidate_models.Worths.{if_key}
use Rattle.spv_verdicts.proofs.candidate_models.keys.key_of.Goals as goal

pub returns : goal.returns
returns c = if_key (listed_over c.args.terms.now c.args.table.now.values) c.args.terms.now c.law_arena.ensures c.args.t c.node-node.result.now c.node-node.ensures c.as_slice.result.now c.as_slice.ensures c.worths.result c.worths.ensures
