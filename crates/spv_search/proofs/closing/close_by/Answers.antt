use Rattle.spv_search.specs.Searching.{formulas_in}
use Rattle.spv_search.proofs.Ended.{end_closes, end_within}
use Rattle.spv_search.proofs.closing.close_by.Goals as goal

pub close-requires-clause-closes : goal.close-requires-clause-closes
close-requires-clause-closes c =
    end_closes c.args.terms.now c.args.condition.now (formulas_in c.args.terms.now c.args.branches.now.cases) c.args.derivation.now c.args.end c.in_ok-steps.steps.items c.requires.ends c.in_ok-steps.ensures

pub close-requires-clause-path : goal.close-requires-clause-path
close-requires-clause-path c = c.requires.ends.path

pub close-requires-clause-within : goal.close-requires-clause-within
close-requires-clause-within c = end_within c.args.terms.now c.args.end c.in_ok-steps.steps.items c.in_ok-steps.ensures
