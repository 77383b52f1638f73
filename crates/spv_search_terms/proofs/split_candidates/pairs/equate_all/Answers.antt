use Rattle.std.proofs.Common.{List, sym, ap, ◌∙◌, subst, arith}
use Rattle.std.specs.Prelude.{Err}
use Rattle.spv_logic.specs.declared.operators.Head.{Head}
use Rattle.spv_term.specs.declared.nodes.TermFault.TheVariants.{Size}
use Rattle.spv_term.proofs.ArenaLemmas.{AllBelow-Extends}
use Rattle.spv_search_terms.specs.head_index.Chains.{AreChained}
use Rattle.spv_search_terms.proofs.split_candidates.EquationLemmas.{same_fault, gains_as, stops_as, remains_next, remains_stop}
use Rattle.spv_search_terms.proofs.split_candidates.PairLemmas.{heads_now, listed_now, later_now, pairs_next}
use Rattle.spv_search_terms.proofs.split_candidates.pairs.equate_all.Goals as goal

pub equate_with_later-requires-clause-found : goal.equate_with_later-requires-clause-found
equate_with_later-requires-clause-found c = AllBelow-Extends c.loop-i.invariant.remains.grows c.args.found.now c.requires.found

pub equate_with_later-requires-clause-next : goal.equate_with_later-requires-clause-next
equate_with_later-requires-clause-next c = subst (λ (hs : List Head). AreChained hs c.args.next.now) (sym (heads_now c.args.terms.now c.args.found.now c.requires.found c.loop-i.terms c.loop-i.invariant.remains.grows)) c.requires.next

pub equate_with_later-requires-clause-listed : goal.equate_with_later-requires-clause-listed
equate_with_later-requires-clause-listed c = c.requires.listed ∙ sym (listed_now c.args.terms.now c.args.found.now c.requires.found c.loop-i.terms c.loop-i.invariant.remains.grows)

pub returns-in_err-equate_with_later-clause-size : goal.returns-in_err-equate_with_later-clause-size
returns-in_err-equate_with_later-clause-size c =
    λ is.
    remains_stop c.args.terms.now c.args.out.now c.loop-i.terms c.loop-i.out _ _ c.loop-i.invariant _ _ (pairs_next c.args.terms.now c.args.found.now c.requires.found c.loop-i.i (omega (arith, c.loop-i-test.true)))
    (stops_as c.loop-i.terms _ _ (later_now c.args.terms.now c.args.found.now c.requires.found c.loop-i.terms c.loop-i.invariant.remains.grows c.loop-i.i (omega (arith, c.loop-i-test.true)))
    (c.in_err-equate_with_later.ensures.size (ap Err (same_fault c.in_err-equate_with_later.field-0.0 c.from_residual.result c.from_residual.ensures.1 Size is))))

pub loop-i-preserved : goal.loop-i-preserved
loop-i-preserved c =
    remains_next c.args.terms.now c.args.out.now c.loop-i.terms c.loop-i.out _ _ c.loop-i.invariant _ _ (pairs_next c.args.terms.now c.args.found.now c.requires.found c.loop-i.i (omega (arith, c.loop-i-test.true))) c.equate_with_later.new.terms c.equate_with_later.new.out
    (gains_as c.loop-i.terms c.equate_with_later.new.terms c.loop-i.out c.equate_with_later.new.out _ _ (later_now c.args.terms.now c.args.found.now c.requires.found c.loop-i.terms c.loop-i.invariant.remains.grows c.loop-i.i (omega (arith, c.loop-i-test.true))) c.in_ok-equate_with_later.ensures.gains)
