use Rattle.spv_search.proofs.Tables.{flags_many}
use Rattle.spv_search.proofs.surveying.survey.Goals as goal

pub full_table-requires-clause-open : goal.full_table-requires-clause-open
full_table-requires-clause-open c = c.requires.state.state.opened.agree

pub full_table-requires-clause-in_range : goal.full_table-requires-clause-in_range
full_table-requires-clause-in_range c = c.requires.listed.in_range

pub full_table-requires-clause-flags : goal.full_table-requires-clause-flags
full_table-requires-clause-flags c = flags_many c.args.terms.now c.args.condition.now c.args.subterms.now c.args.listed.now c.requires.listed

pub full_table-requires-clause-nodes : goal.full_table-requires-clause-nodes
full_table-requires-clause-nodes c =
    c.law_full_state.ensures.nodes c.args.terms.now c.args.condition.now c.args.both.now c.requires.state.facts c.requires.state.value c.requires.state.state.opened c.args.subterms.now c.args.listed.now c.requires.listed

pub full_table-requires-clause-truth : goal.full_table-requires-clause-truth
full_table-requires-clause-truth c = c.requires.state.state.opened.both.sound.trail.truth_node
