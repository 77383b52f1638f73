use Rattle.std.proofs.Common.{◌∙◌, sym, ap}
use Rattle.spv_logic.specs.declared.types.Sort.TheVariants as sort
use Rattle.spv_logic.specs.Terms.{sort_eq}
use Rattle.spv_search_terms.proofs.head_index.TestLemmas.{number-at, int-other}
use Rattle.spv_search_terms.proofs.head_index.tests.is_number.Goals as goal

pub returns-in-Int : goal.returns-in-Int
returns-in-Int c = ap (λ s. sort_eq s sort.Int) c.in-Int.ensures ∙ sym (number-at c.args.terms.now c.law_arena.ensures c.args.t c.requires)

pub returns-in_default : goal.returns-in_default
returns-in_default c =
    int-other c.sort.result c.in_default.not-Int
    ∙ (ap (λ s. sort_eq s sort.Int) c.sort.ensures ∙ sym (number-at c.args.terms.now c.law_arena.ensures c.args.t c.requires))
