use Rattle.std.proofs.Common.{refl}
use Rattle.spv_derivations.proofs.derivation.Bridges.{if_ok}
use Rattle.spv_explanations.proofs.equalities.Ends.{clash-closes, false-clash, false-term, numerals-close, true-clash, true-other}
use Rattle.spv_explanations.proofs.equalities.Ways.{goes_on-same}
use Rattle.spv_explanations.proofs.equalities.reasons.opposed_end.Goals as goal

pub returns-in-False-clause-closes : goal.returns-in-False-clause-closes
returns-in-False-clause-closes c =
    if_ok c.falsity.result c.falsity.ensures.gains
    (λ n g f q h.
    clash-closes c.args.terms.now c.law_arena.ensures c.args.derivation.now c.args.number c.args.s c.args.t c.falsity.new.self n
    (g c.args.terms.now f (false-term c.args.terms.now c.law_arena.ensures c.args.s c.node.result.now c.node.ensures c.in-False.is)
    (false-clash c.args.terms.now c.law_arena.ensures c.args.derivation.now c.args.number c.args.s c.args.t c.node.result.now c.node.ensures c.in-False.is h q)))

pub returns-in-True-clause-closes : goal.returns-in-True-clause-closes
returns-in-True-clause-closes c =
    if_ok c.falsity-in-True.result c.falsity-in-True.ensures.gains
    (λ n g f q h.
    clash-closes c.args.terms.now c.law_arena.ensures c.args.derivation.now c.args.number c.args.s c.args.t c.falsity-in-True.new.self n
    (g c.args.terms.now f (true-other c.args.terms.now c.law_arena.ensures c.args.derivation.now c.args.number c.args.s c.args.t c.node.result.now c.node.ensures c.in-True.is h)
    (true-clash c.args.terms.now c.law_arena.ensures c.args.derivation.now c.args.number c.args.s c.args.t c.node.result.now c.node.ensures c.in-True.is h q)))

pub returns-in_default : goal.returns-in_default
returns-in_default c = record {
  goes_on = goes_on-same c.args.derivation.now;
  literals = refl;
  closes = λ f q h.
      numerals-close c.args.terms.now c.law_arena.ensures c.args.derivation.now c.args.number c.args.s c.args.t c.node.result.now c.node.ensures c.in_default.not-False c.in_default.not-True f h q;
}
