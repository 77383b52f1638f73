use Rattle.std.proofs.Common.{ap, sym, ◌∙◌, arith}
use Rattle.spv_atoms.specs.Order.{same_id}
use Rattle.spv_table.proofs.Keeping.{listed_here, listed_later, pairs_later}
use Rattle.spv_table.proofs.kept.listed.Goals as goal

pub returns-then-eq : goal.returns-then-eq
returns-then-eq c =
    ap (λ p. p.1) c.pair-item.is
    ∙ listed_here c.args.terms.now c.law_arena.ensures c.args.t c.args.values.now c.loop-pair.pair-index c.pair-item.result c.requires.t (omega (arith, c.loop-pair-test.true)) c.loop-pair.invariant.in_range _
    (ap (λ p. same_id p.0 c.args.t) (sym c.pair-item.is) ∙ (sym c.eq.ensures ∙ c.if-eq.true)) c.loop-pair.invariant.same

pub loop-pair-preserved : goal.loop-pair-preserved
loop-pair-preserved c = record {
  in_range = pairs_later c.args.terms.now c.law_arena.ensures c.args.t c.args.values.now c.loop-pair.pair-index c.pair-item.result c.requires.t (omega (arith, c.loop-pair-test.true)) c.loop-pair.invariant.in_range;
  same = listed_later c.args.terms.now c.law_arena.ensures c.args.t c.args.values.now c.loop-pair.pair-index c.pair-item.result c.requires.t (omega (arith, c.loop-pair-test.true)) c.loop-pair.invariant.in_range _
      (ap (λ p. same_id p.0 c.args.t) (sym c.pair-item.is) ∙ (sym c.eq.ensures ∙ c.if-eq.false)) c.loop-pair.invariant.same;
}
