-- The sort that the code gives is the one that the definition gives, wherever that gives one.
use Rattle.std.proofs.Common.{ap, ◌∙◌}
use Rattle.spv_logic.specs.Sorts.{result_sort}
use Rattle.spv_term.specs.Arena.{sorts_at}
use Rattle.spv_term.proofs.SortLemmas.{some_from_all}
use Rattle.spv_term.proofs.terms.Terms.sort_over.Goals as goal

pub returns : goal.returns
returns c =
    let shapes = c.as_slice.ensures ∙ ap (λ a. a.shapes) c.self.view_is in
    let decls = c.as_slice-2.ensures ∙ ap (λ a. a.decls) c.self.view_is in
    some_from_all _ c.result_sort.result c.requires.sorts (λ s h.
    c.result_sort.ensures (sorts_at c.args.self.now c.args.args.now) s c.first_sort-first.ensures
    ((λ i. result_sort (shapes i) (decls i) c.args.head (sorts_at c.args.self.now c.args.args.now)) ∙ h))
