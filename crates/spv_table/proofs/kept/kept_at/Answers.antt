use Rattle.std.proofs.Common.{length, refl, sym, ◌∙◌, arith}
use Rattle.spv_table.specs.Kept.{listed_over}
use Rattle.spv_table.proofs.Keeping.{at_alone, at_single, at_pair, at_other, first_ready, second_ready}
use Rattle.spv_table.proofs.kept.kept_at.Goals as goal

pub kept_alone-requires : goal.kept_alone-requires
kept_alone-requires c = (c.law_arena.ensures.nodes c.args.t.0 c.node-node.result.now c.node-node.ensures).numeral

pub returns-then-not-has_meaning_head : goal.returns-then-not-has_meaning_head
returns-then-not-has_meaning_head c =
    at_alone c.args.terms.now c.law_arena.ensures (listed_over c.args.terms.now c.args.values.now) c.args.t c.node-node.result.now c.node-node.ensures c.listed-own.result c.listed-own.ensures c.kept_alone.result
    (sym c.has_meaning_head.ensures ∙ c.if-not-has_meaning_head.true) c.kept_alone.ensures.constant c.kept_alone.ensures.value

pub kept_of-requires : goal.kept_of-requires
kept_of-requires c =
    first_ready c.args.terms.now c.law_arena.ensures c.args.t c.node-node.result.now c.node-node.ensures (sym c.has_meaning_head.ensures ∙ c.if-not-has_meaning_head.false) c.as_slice-args.result.now c.as_slice-args.ensures c.args.order.now (length c.args.kept.now) c.requires.arguments (record { 0 = 0 })
    (omega (arith, c.if-args-eq1.true))

pub returns-then-args-eq1 : goal.returns-then-args-eq1
returns-then-args-eq1 c =
    at_single c.args.terms.now c.law_arena.ensures (listed_over c.args.terms.now c.args.values.now) c.args.t c.node-node.result.now c.node-node.ensures c.listed-own.result c.listed-own.ensures _
    (sym c.has_meaning_head.ensures ∙ c.if-not-has_meaning_head.false) c.as_slice-args.result.now c.as_slice-args.ensures c.args.order.now c.args.kept.now c.requires.kept (record { 0 = 0 })
    (omega (arith, c.if-args-eq1.true)) c.kept_of.result.now c.kept_of.ensures refl c.single_value.ensures

pub kept_of-left-requires : goal.kept_of-left-requires
kept_of-left-requires c =
    first_ready c.args.terms.now c.law_arena.ensures c.args.t c.node-node.result.now c.node-node.ensures (sym c.has_meaning_head.ensures ∙ c.if-not-has_meaning_head.false) c.as_slice-args.result.now c.as_slice-args.ensures c.args.order.now (length c.args.kept.now) c.requires.arguments (record { 0 = 0 })
    (omega (arith, c.if-args-eq2.true))

pub kept_of-right-requires : goal.kept_of-right-requires
kept_of-right-requires c =
    second_ready c.args.terms.now c.law_arena.ensures c.args.t c.node-node.result.now c.node-node.ensures (sym c.has_meaning_head.ensures ∙ c.if-not-has_meaning_head.false) c.as_slice-args.result.now c.as_slice-args.ensures c.args.order.now (length c.args.kept.now) c.requires.arguments (record { 0 = 0 })
    (omega (arith, c.if-args-eq2.true))

pub returns-then-args-eq2 : goal.returns-then-args-eq2
returns-then-args-eq2 c =
    at_pair c.args.terms.now c.law_arena.ensures (listed_over c.args.terms.now c.args.values.now) c.args.t c.node-node.result.now c.node-node.ensures c.listed-own.result c.listed-own.ensures _
    (sym c.has_meaning_head.ensures ∙ c.if-not-has_meaning_head.false) c.as_slice-args.result.now c.as_slice-args.ensures c.args.order.now c.args.kept.now c.requires.kept (record { 0 = 0 })
    (omega (arith, c.if-args-eq2.true)) c.kept_of-left.result.now c.kept_of-right.result.now c.kept_of-left.ensures c.kept_of-right.ensures c.pair_is_constant.ensures c.pair_value.ensures

pub returns : goal.returns
returns c =
    at_other c.args.terms.now c.law_arena.ensures (listed_over c.args.terms.now c.args.values.now) c.args.t c.node-node.result.now c.node-node.ensures c.listed-own.result c.listed-own.ensures _
    (sym c.has_meaning_head.ensures ∙ c.if-not-has_meaning_head.false) c.as_slice-args.result.now c.as_slice-args.ensures c.args.order.now c.args.kept.now c.requires.kept (record { 0 = 0 })
    (λ e. omega (arith, e, c.if-args-eq1.false)) (λ e. omega (arith, e, c.if-args-eq2.false)) refl refl
