use Rattle.std.proofs.Common.{◌∙◌}
use Rattle.spv_term.proofs.substitution.FreshLemmas.{few_kept, next_head}
use Rattle.spv_term.proofs.substitution.numbers.fresh.Goals as goal

pub returns-clause-few : goal.returns-clause-few
returns-clause-few c =
    few_kept c.args.terms.now c.make.new.self c.args.name c.args.sort c.numbered.result c.make.result
    (c.numbered.ensures ∙ next_head c.args.name c.args.sort c.greatest-number.result c.args.terms.now.nodes c.greatest-number.ensures)
    c.make.ensures.arena c.make.ensures.unchanged
