use Rattle.std.proofs.Common.{◌∙◌, ap, sym, List}
use Rattle.spv_logic.specs.declared.types.Shape.{Shape}
use Rattle.spv_logic.specs.Sorts.{head_in_range}
use Rattle.spv_rounds.proofs.moving.Brought.{one-sorts, one-moved, args-moved}
use Rattle.spv_rounds.proofs.moving.bringing.bring_one.Goals as goal

pub make-requires-clause-sorts : goal.make-requires-clause-sorts
make-requires-clause-sorts c =
    one-sorts c.args.from.now c.args.own.now c.law_arena.ensures c.law_arena-2.ensures c.args.t c.requires.t c.node-node.result.now c.node-node.ensures c.as_slice-2.result.now
    (args-moved c.args.from.now c.args.own.now c.node-node.result.now.args c.as_slice.result.now c.in_ok-args.args c.as_slice-2.result.now c.as_slice.ensures c.as_slice-2.ensures (c.in_ok-args.ensures c.args.from.now c.args.own.now c.requires.places)) c.requires.shapes c.requires.decls

pub make-requires-clause-types : goal.make-requires-clause-types
make-requires-clause-types c =
    ap (λ (ss : List Shape). head_in_range ss c.node-node.result.now.head) (sym c.requires.shapes) ∙ (c.law_arena.ensures.nodes c.args.t.0 c.node-node.result.now c.node-node.ensures).types

pub make-requires-clause-numeral : goal.make-requires-clause-numeral
make-requires-clause-numeral c = (c.law_arena.ensures.nodes c.args.t.0 c.node-node.result.now c.node-node.ensures).numeral

pub returns-clause-moved : goal.returns-clause-moved
returns-clause-moved c =
    one-moved c.args.from.now c.args.own.now c.law_arena.ensures c.law_arena-2.ensures c.args.t c.requires.t c.node-node.result.now c.node-node.ensures c.as_slice-2.result.now
    (args-moved c.args.from.now c.args.own.now c.node-node.result.now.args c.as_slice.result.now c.in_ok-args.args c.as_slice-2.result.now c.as_slice.ensures c.as_slice-2.ensures (c.in_ok-args.ensures c.args.from.now c.args.own.now c.requires.places))
    c.make.new.self c.make.result c.make.ensures.in_range c.make.ensures.tree
