use Rattle.std.proofs.Common.{◌∙◌}
use Rattle.spv_search_terms.proofs.condition_copy.Exits.{on_ok, if_ok}
use Rattle.spv_search_terms.proofs.condition_copy.CopyLemmas.{gains_as, stops_as}
use Rattle.spv_rechecking.proofs.MakeLemmas.{args_placed, head_there, made_args, made_sorts, made_types, made_numeral, made_tree}
use Rattle.spv_rechecking.proofs.making.make_one.Goals as goal

pub ids_at-requires : goal.ids_at-requires
ids_at-requires c =
    args_placed c.args.names.now c.args.titles.now c.args.leaves.now c.args.terms.now c.law_arena.ensures c.args.texts.now c.law_texts.ensures c.args.heads.now c.requires.heads c.args.t c.requires.t c.args.images.now c.requires.count c.requires.images c.requires.in_range c.args-own.result.now c.args-own.ensures

pub head_at-head-requires : goal.head_at-head-requires
head_at-head-requires c =
    head_there c.args.names.now c.args.titles.now c.args.leaves.now c.args.terms.now c.law_arena.ensures c.args.texts.now c.law_texts.ensures c.args.heads.now c.requires.heads c.args.t c.requires.t c.args.images.now c.requires.count c.requires.images c.requires.in_range

pub made-requires-clause-args : goal.made-requires-clause-args
made-requires-clause-args c =
    made_args c.args.names.now c.args.titles.now c.args.leaves.now c.args.terms.now c.law_arena.ensures c.args.texts.now c.law_texts.ensures c.args.heads.now c.requires.heads c.args.t c.requires.t c.args.images.now c.requires.count c.requires.images c.requires.in_range c.head_at-head.result c.head_at-head.ensures c.args-own.result.now c.args-own.ensures c.as_slice.result.now (c.as_slice.ensures.value ∙ c.in_ok-args.ensures)

pub made-requires-clause-sorts : goal.made-requires-clause-sorts
made-requires-clause-sorts c =
    made_sorts c.args.names.now c.args.titles.now c.args.leaves.now c.args.terms.now c.law_arena.ensures c.args.texts.now c.law_texts.ensures c.args.heads.now c.requires.heads c.args.t c.requires.t c.args.images.now c.requires.count c.requires.images c.requires.in_range c.head_at-head.result c.head_at-head.ensures c.args-own.result.now c.args-own.ensures c.as_slice.result.now (c.as_slice.ensures.value ∙ c.in_ok-args.ensures)

pub made-requires-clause-types : goal.made-requires-clause-types
made-requires-clause-types c =
    made_types c.args.names.now c.args.titles.now c.args.leaves.now c.args.terms.now c.law_arena.ensures c.args.texts.now c.law_texts.ensures c.args.heads.now c.requires.heads c.args.t c.requires.t c.args.images.now c.requires.count c.requires.images c.requires.in_range c.head_at-head.result c.head_at-head.ensures c.args-own.result.now c.args-own.ensures c.as_slice.result.now (c.as_slice.ensures.value ∙ c.in_ok-args.ensures)

pub made-requires-clause-numeral : goal.made-requires-clause-numeral
made-requires-clause-numeral c =
    made_numeral c.args.names.now c.args.titles.now c.args.leaves.now c.args.terms.now c.law_arena.ensures c.args.texts.now c.law_texts.ensures c.args.heads.now c.requires.heads c.args.t c.requires.t c.args.images.now c.requires.count c.requires.images c.requires.in_range c.head_at-head.result c.head_at-head.ensures c.args-own.result.now c.args-own.ensures c.as_slice.result.now (c.as_slice.ensures.value ∙ c.in_ok-args.ensures)

pub returns-clause-gains : goal.returns-clause-gains
returns-clause-gains c =
    on_ok c.made.result _ _ c.made.ensures.gains
    (gains_as c.args.terms.now c.made.new.terms _ _
    (made_tree c.args.names.now c.args.titles.now c.args.leaves.now c.args.terms.now c.law_arena.ensures c.args.texts.now c.law_texts.ensures c.args.heads.now c.requires.heads c.args.t c.requires.t c.args.images.now c.requires.count c.requires.images c.requires.in_range c.head_at-head.result c.head_at-head.ensures c.args-own.result.now c.args-own.ensures c.as_slice.result.now (c.as_slice.ensures.value ∙ c.in_ok-args.ensures)))

pub returns-clause-tree : goal.returns-clause-tree
returns-clause-tree c =
    if_ok c.made.result _ _ c.made.ensures.tree
    (λ u e. e
    ∙ made_tree c.args.names.now c.args.titles.now c.args.leaves.now c.args.terms.now c.law_arena.ensures c.args.texts.now c.law_texts.ensures c.args.heads.now c.requires.heads c.args.t c.requires.t c.args.images.now c.requires.count c.requires.images c.requires.in_range c.head_at-head.result c.head_at-head.ensures c.args-own.result.now c.args-own.ensures c.as_slice.result.now (c.as_slice.ensures.value ∙ c.in_ok-args.ensures))

pub returns-clause-size : goal.returns-clause-size
returns-clause-size c =
    λ is.
    stops_as c.args.terms.now _ _
    (made_tree c.args.names.now c.args.titles.now c.args.leaves.now c.args.terms.now c.law_arena.ensures c.args.texts.now c.law_texts.ensures c.args.heads.now c.requires.heads c.args.t c.requires.t c.args.images.now c.requires.count c.requires.images c.requires.in_range c.head_at-head.result c.head_at-head.ensures c.args-own.result.now c.args-own.ensures c.as_slice.result.now (c.as_slice.ensures.value ∙ c.in_ok-args.ensures))
    (c.made.ensures.size is)
