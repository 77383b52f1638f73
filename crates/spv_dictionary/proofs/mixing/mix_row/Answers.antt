use Rattle.std.proofs.Common.{rules, ◌<◌, length, sym, ap, ◌∙◌}
use Rattle.spv_frac.specs.rational.Rational.{is_zero}
use Rattle.spv_dictionary.proofs.Mixed.{unmixed, mixed_next, mixed_more}
use Rattle.spv_dictionary.proofs.mixing.mix_row.Goals as goal

pub returns-then-is_zero : goal.returns-then-is_zero
returns-then-is_zero c = unmixed c.args.row.now c.args.solved.now c.args.slot (ap is_zero (sym c.get-factor.ensures) ∙ sym c.is_zero.ensures ∙ c.if-is_zero.true)

pub mix_place-requires-clause-can : goal.mix_place-requires-clause-can
mix_place-requires-clause-can c =
    let below : c.loop-place.place < length c.args.row.now = search rules in
    mixed_next c.args.row.now c.args.solved.now c.args.slot c.loop-place.place c.get-factor.result c.loop-place.row c.get-factor.ensures (sym c.is_zero.ensures ∙ c.if-is_zero.false) c.loop-place.invariant c.requires.can below

pub loop-place-preserved : goal.loop-place-preserved
loop-place-preserved c =
    mixed_more c.args.row.now c.args.solved.now c.args.slot c.loop-place.place c.get-factor.result c.loop-place.row c.mix_place.new.row c.get-factor.ensures c.loop-place.invariant c.mix_place.ensures
