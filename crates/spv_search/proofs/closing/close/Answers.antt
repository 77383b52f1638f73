use Rattle.spv_search.specs.Searching.{formulas_in}
use Rattle.spv_search.proofs.Ended.{on_both, close_taken}
use Rattle.spv_search.proofs.closing.close.Goals as goal

pub returns-clause-taken : goal.returns-clause-taken
returns-clause-taken c =
    on_both c.close.result c.close.ensures.takes c.close.ensures.within
    (λ takes within.
    close_taken c.args.terms.now c.args.condition.now c.args.branches.now c.close.new.self c.args.derivation.now c.in_ok-closing.closing.items c.args.count c.requires.comes c.requires.count c.requires.path c.in_ok-closing.ensures.closes
    (c.in_ok-closing.ensures.within (formulas_in c.args.terms.now c.args.branches.now.cases) c.requires.path c.requires.within) takes within)
