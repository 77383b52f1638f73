use Rattle.std.proofs.lemmas.List.{drop_more, drop_all}
use Rattle.spv_expression_terms.proofs.postfix.Turns.{begins, next_adds, next, first_is, end_one, end_tree, end_sort}
use Rattle.spv_expression_terms.proofs.postfix.building.built.Goals as goal

pub loop-piece-init : goal.loop-piece-init
loop-piece-init c = begins c.args.terms.now c.args.pieces.now c.new-stack.result.items c.requires c.new-stack.ensures.items

pub returns-in_err-apply-clause-only : goal.returns-in_err-apply-clause-only
returns-in_err-apply-clause-only c =
    next_adds c.args.terms.now c.loop-piece.terms c.args.pieces.now c.loop-piece.stack.items c.requires _ _ _
    (drop_more c.args.pieces.now c.loop-piece.piece-index _ c.loop-piece-test.true) c.loop-piece.invariant c.apply.new.terms c.in_err-apply.ensures.grows c.in_err-apply.ensures.only

pub loop-piece-preserved : goal.loop-piece-preserved
loop-piece-preserved c =
    next c.args.terms.now c.loop-piece.terms c.args.pieces.now c.loop-piece.stack.items c.requires _ _ _
    (drop_more c.args.pieces.now c.loop-piece.piece-index _ c.loop-piece-test.true) c.loop-piece.invariant c.apply.new.terms c.apply.new.stack.items c.in_ok-apply.ensures.grows c.in_ok-apply.ensures.only
    c.in_ok-apply.ensures.applied

pub returns-clause-tree : goal.returns-clause-tree
returns-clause-tree c =
    let none = drop_all c.loop-piece.piece-index c.args.pieces.now c.loop-piece-test.false in
    end_tree c.args.terms.now c.loop-piece.terms c.args.pieces.now c.loop-piece.stack.items c.requires c.law_arena.ensures _ none c.loop-piece.invariant c.index.result.now _
    (first_is c.loop-piece.stack.items c.index.result.now c.index.result.now
    (end_one c.args.terms.now c.loop-piece.terms c.args.pieces.now c.loop-piece.stack.items c.requires c.law_arena.ensures _ none c.loop-piece.invariant) c.index.ensures)

pub returns-clause-sort : goal.returns-clause-sort
returns-clause-sort c =
    let none = drop_all c.loop-piece.piece-index c.args.pieces.now c.loop-piece-test.false in
    end_sort c.args.terms.now c.loop-piece.terms c.args.pieces.now c.loop-piece.stack.items c.requires c.law_arena.ensures _ none c.loop-piece.invariant c.index.result.now _
    (first_is c.loop-piece.stack.items c.index.result.now c.index.result.now
    (end_one c.args.terms.now c.loop-piece.terms c.args.pieces.now c.loop-piece.stack.items c.requires c.law_arena.ensures _ none c.loop-piece.invariant) c.index.ensures)
