use Rattle.std.proofs.Common.{◌∙◌}
use Rattle.spv_atoms.proofs.Walks.{args_at}
use Rattle.spv_search_terms.proofs.head_index.TestLemmas.{comparable_is}
use Rattle.spv_search_terms.proofs.head_index.tests.comparable.Goals as goal

pub same_sorts-one_sort-requires-clause-left : goal.same_sorts-one_sort-requires-clause-left
same_sorts-one_sort-requires-clause-left c =
    args_at c.args.terms.now c.law_arena.ensures c.args.s c.node-left.result.now c.node-left.ensures c.as_slice.result.now c.as_slice.ensures

pub same_sorts-one_sort-requires-clause-right : goal.same_sorts-one_sort-requires-clause-right
same_sorts-one_sort-requires-clause-right c =
    args_at c.args.terms.now c.law_arena.ensures c.args.t c.node-right.result.now c.node-right.ensures c.as_slice-2.result.now c.as_slice-2.ensures

pub returns : goal.returns
returns c =
    c.all_three.ensures
    ∙ comparable_is c.args.terms.now c.law_arena.ensures c.args.s c.args.t c.node-left.result.now c.node-right.result.now c.node-left.ensures c.node-right.ensures c.as_slice.result.now c.as_slice-2.result.now c.as_slice.ensures c.as_slice-2.ensures
    c.same_head-one_head.result c.same_sorts-one_sort.result c.some.result c.args.s_is_listed c.args.t_is_listed c.same_head-one_head.ensures c.same_sorts-one_sort.ensures c.requires.s_listed c.requires.t_listed c.some.ensures
