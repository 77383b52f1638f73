use Rattle.std.proofs.Common.{length, ap, arith}
use Rattle.std.specs.Prelude.{Err}
use Rattle.spv_term.specs.declared.nodes.TermFault.TheVariants.{Size}
use Rattle.spv_search_terms.proofs.split_candidates.EquationLemmas.{same_fault, args-are, remains_next, remains_stop, right_within, left_in, right_in, argument_sorts, arguments_next}
use Rattle.spv_search_terms.proofs.split_candidates.equations.equate_arguments.Goals as goal

pub get-right-requires : goal.get-right-requires
get-right-requires c =
    right_within c.args.terms.now c.law_arena.ensures c.args.s c.args.t c.requires.s c.requires.t c.requires.pair c.loop-i.terms c.loop-i.invariant.remains.grows c.loop-i.i c.node-in-loop-i.result.now c.node-in-loop-i-2.result.now c.node-in-loop-i.ensures c.node-in-loop-i-2.ensures
    (omega (arith, c.loop-i-test.true, c.len-count.ensures, ap length (args-are c.args.terms.now c.law_arena.ensures c.args.s c.node.result.now c.node.ensures)))

pub equate_argument-requires-clause-s : goal.equate_argument-requires-clause-s
equate_argument-requires-clause-s c =
    left_in c.args.terms.now c.law_arena.ensures c.args.s c.args.t c.requires.s c.requires.t c.requires.pair c.loop-i.terms c.loop-i.invariant.remains.grows c.loop-i.i c.node-in-loop-i.result.now c.node-in-loop-i-2.result.now c.node-in-loop-i.ensures c.node-in-loop-i-2.ensures
    c.get-left.result c.get-right.result c.get-left.ensures c.get-right.ensures

pub equate_argument-requires-clause-t : goal.equate_argument-requires-clause-t
equate_argument-requires-clause-t c =
    right_in c.args.terms.now c.law_arena.ensures c.args.s c.args.t c.requires.s c.requires.t c.requires.pair c.loop-i.terms c.loop-i.invariant.remains.grows c.loop-i.i c.node-in-loop-i.result.now c.node-in-loop-i-2.result.now c.node-in-loop-i.ensures c.node-in-loop-i-2.ensures
    c.get-left.result c.get-right.result c.get-left.ensures c.get-right.ensures

pub equate_argument-requires-clause-sorts : goal.equate_argument-requires-clause-sorts
equate_argument-requires-clause-sorts c =
    argument_sorts c.args.terms.now c.law_arena.ensures c.args.s c.args.t c.requires.s c.requires.t c.requires.pair c.loop-i.terms c.loop-i.invariant.remains.grows c.loop-i.i c.node-in-loop-i.result.now c.node-in-loop-i-2.result.now c.node-in-loop-i.ensures c.node-in-loop-i-2.ensures
    c.get-left.result c.get-right.result c.get-left.ensures c.get-right.ensures

pub returns-in_err-equate_argument-clause-size : goal.returns-in_err-equate_argument-clause-size
returns-in_err-equate_argument-clause-size c =
    λ is.
    remains_stop c.args.terms.now c.args.out.now c.loop-i.terms c.loop-i.out _ _ c.loop-i.invariant _ _
    (arguments_next c.args.terms.now c.law_arena.ensures c.args.s c.args.t c.requires.s c.requires.t c.requires.pair c.loop-i.terms c.loop-i.invariant.remains.grows c.loop-i.i c.node-in-loop-i.result.now c.node-in-loop-i-2.result.now c.node-in-loop-i.ensures c.node-in-loop-i-2.ensures
    c.get-left.result c.get-right.result c.get-left.ensures c.get-right.ensures)
    (c.in_err-equate_argument.ensures.size (ap Err (same_fault c.in_err-equate_argument.field-0.0 c.from_residual.result c.from_residual.ensures.1 Size is)))

pub loop-i-preserved : goal.loop-i-preserved
loop-i-preserved c =
    remains_next c.args.terms.now c.args.out.now c.loop-i.terms c.loop-i.out _ _ c.loop-i.invariant _ _
    (arguments_next c.args.terms.now c.law_arena.ensures c.args.s c.args.t c.requires.s c.requires.t c.requires.pair c.loop-i.terms c.loop-i.invariant.remains.grows c.loop-i.i c.node-in-loop-i.result.now c.node-in-loop-i-2.result.now c.node-in-loop-i.ensures c.node-in-loop-i-2.ensures
    c.get-left.result c.get-right.result c.get-left.ensures c.get-right.ensures)
    c.equate_argument.new.terms c.equate_argument.new.out c.in_ok-equate_argument.ensures.gains
