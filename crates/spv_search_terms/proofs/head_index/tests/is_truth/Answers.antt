use Rattle.std.proofs.Common.{◌∙◌, sym, ap}
use Rattle.spv_logic.specs.declared.types.Sort.TheVariants as sort
use Rattle.spv_logic.specs.Terms.{sort_eq}
use Rattle.spv_atoms.proofs.Walks.{truth-at, sort_eq-other}
use Rattle.spv_search_terms.proofs.head_index.tests.is_truth.Goals as goal

pub returns-in-Bool : goal.returns-in-Bool
returns-in-Bool c = ap (λ s. sort_eq s sort.Bool) c.in-Bool.ensures ∙ sym (truth-at c.args.terms.now c.law_arena.ensures c.args.t c.requires)

pub returns-in_default : goal.returns-in_default
returns-in_default c =
    sort_eq-other c.sort.result c.in_default.not-Bool
    ∙ (ap (λ s. sort_eq s sort.Bool) c.sort.ensures ∙ sym (truth-at c.args.terms.now c.law_arena.ensures c.args.t c.requires))
