use Rattle.std.proofs.Common.{subst, IfNone, IfSome}
use Rattle.spv_explanations.specs.declared.equalities.works.Work.TheVariants.{Between, Congruent}
use Rattle.spv_explanations.specs.equalities.Known.{AreBeside, NumbersOf}
use Rattle.spv_derivations.proofs.derivation.Bridges.{on_ok}
use Rattle.spv_explanations.proofs.equalities.Owed.{arguments-same, is-congruence, stands-insert, stands-push}
use Rattle.spv_explanations.proofs.equalities.Shown.{beside-is, numbers-is}
use Rattle.spv_explanations.proofs.equalities.works.show_congruent.Goals as goal

pub returns-in-Some-clause-stands : goal.returns-in-Some-clause-stands
returns-in-Some-clause-stands c =
    on_ok c.push_two.result c.push_two.ensures
    (λ is g h congruent.
    stands-push c.args.terms.now g c.args.derivation.now c.args.known.now c.args.works.now.items c.push_two.new.works.items (Congruent c.args.p c.args.q) (Between c.in-Some.x c.in-Some.y) h congruent
    (arguments-same g c.args.terms.now h.reasons.of h.reasons.terms c.args.p c.args.q c.in-Some.x c.in-Some.y c.node.result.now c.node-2.result.now congruent c.node.ensures c.node-2.ensures
    (beside-is c.as_slice-left.result.now c.as_slice-right.result.now c.node.result.now.args c.node-2.result.now.args c.in-Some.x c.in-Some.y c.as_slice-left.ensures c.as_slice-right.ensures
    (subst (λ o. IfSome o (λ p. AreBeside c.as_slice-left.result.now c.as_slice-right.result.now p.0 p.1)) c.in-Some.is c.in_ok-x.ensures.some))) is)

pub returns-in_ok-number-in-None-clause-stands : goal.returns-in_ok-number-in-None-clause-stands
returns-in_ok-number-in-None-clause-stands c =
    on_ok c.insert.result c.insert.ensures
    (λ is g h congruent.
    stands-insert c.args.terms.now g c.args.derivation.now c.congruent.new.self c.args.known.now c.insert.new.self c.args.works.now.items c.args.p c.args.q c.in_ok-number-in-None.number h
    (c.in_ok-number-in-None.ensures.gains c.args.terms.now h.reasons.derivation
    (is-congruence c.args.terms.now c.law_arena.ensures c.args.derivation.now c.args.known.now c.args.p c.args.q c.node.result.now c.node-2.result.now c.argument_numbers.new.numbers c.requires c.node.ensures c.node-2.ensures h.shown
    (numbers-is c.args.known.now c.as_slice-left.result.now c.as_slice-right.result.now c.node.result.now.args c.node-2.result.now.args c.argument_numbers.new.numbers c.as_slice-left.ensures c.as_slice-right.ensures
    (subst (λ o. IfNone o (NumbersOf c.args.known.now c.as_slice-left.result.now c.as_slice-right.result.now c.argument_numbers.new.numbers)) c.in-None.is c.in_ok-x.ensures.none)))) is)
