use Rattle.std.proofs.Common.{false, sym, ◌∙◌, arith}
use Rattle.spv_atoms.proofs.Values.{given_here, given_later, known_more}
use Rattle.spv_atoms.proofs.valued.given.Goals as goal

pub returns-then-eq : goal.returns-then-eq
returns-then-eq c =
    given_here c.args.terms.now c.law_arena.ensures c.args.t c.args.known.now c.loop-pair.pair-index (record { 0 = 0 }, false) _ c.requires.t (omega (arith, c.loop-pair-test.true)) c.loop-pair.invariant.in_range (sym c.eq.ensures ∙ c.if-eq.true)
    c.loop-pair.invariant.same

pub loop-pair-preserved : goal.loop-pair-preserved
loop-pair-preserved c = record {
  in_range = known_more c.args.terms.now c.law_arena.ensures c.args.known.now c.loop-pair.pair-index (record { 0 = 0 }, false) (omega (arith, c.loop-pair-test.true)) c.loop-pair.invariant.in_range;
  same = given_later c.args.terms.now c.law_arena.ensures c.args.t c.args.known.now c.loop-pair.pair-index (record { 0 = 0 }, false) _ c.requires.t (omega (arith, c.loop-pair-test.true)) c.loop-pair.invariant.in_range (sym c.eq.ensures ∙ c.if-eq.false) c.loop-pair.invariant.same;
}
