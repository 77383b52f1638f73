use Rattle.spv_derivations.proofs.derivation.Bridges.{if_ok}
use Rattle.spv_search.proofs.branches.Outcomes.{whole-seen, finished-seen, finished-in-seen}
use Rattle.spv_search.proofs.branches.branches.Branches.finish.Goals as goal

pub outcome_of-requires : goal.outcome_of-requires
outcome_of-requires c = whole-seen _ c.args.self c.self.view_is c.requires.none c.requires.grows

pub returns-clause-finished : goal.returns-clause-finished
returns-clause-finished c = if_ok c.outcome_of.result c.outcome_of.ensures (λ f h. finished-seen _ c.args.self f c.self.view_is c.requires.none h)

pub returns-clause-within : goal.returns-clause-within
returns-clause-within c = if_ok c.outcome_of.result c.outcome_of.ensures (λ f h. finished-in-seen _ c.args.self f c.self.view_is h)
