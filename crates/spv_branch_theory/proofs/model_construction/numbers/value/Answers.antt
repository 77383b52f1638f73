use Rattle.std.proofs.Common.{sym, ◌∙◌}
use Rattle.spv_simplex.specs.State.{value_of}
use Rattle.spv_branch_theory.proofs.model_construction.NumberLemmas.{fraction_is, no_column}
use Rattle.spv_branch_theory.proofs.model_construction.numbers.value.Goals as goal

pub returns-then-has : goal.returns-then-has
returns-then-has c = fraction_is c.point-value.result (value_of c.args.both.now.standing.tableau c.args.t) c.law_frac.ensures.is_lowest c.point-value.ensures

pub returns-else-has : goal.returns-else-has
returns-else-has c =
    c.whole.ensures ∙ sym (no_column c.args.both.now.standing.tableau c.args.t (sym (c.requires.columns c.args.t) ∙ (sym c.has.ensures ∙ c.if-has.false)))
