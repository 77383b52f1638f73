use Rattle.std.proofs.Common.{sym, ap, ◌∙◌, arith}
use Rattle.std.specs.Option.{option_map}
use Rattle.spv_rechecking.specs.written_terms.Standing.{is_title}
use Rattle.spv_rechecking.proofs.written_terms.Named.{hit, missed, nowhere}
use Rattle.spv_rechecking.proofs.written_terms.heads.type_of.Goals as goal

pub returns-then-is_title : goal.returns-then-is_title
returns-then-is_title c =
    ap (option_map (λ k. record { 0 = k }))
    (hit (is_title c.args.name) c.args.titles.now c.loop-place.place _ c.loop-place-test.true c.loop-place.invariant (sym c.is_title.ensures ∙ c.if-is_title.true))

pub loop-place-preserved : goal.loop-place-preserved
loop-place-preserved c = missed (is_title c.args.name) c.args.titles.now c.loop-place.place _ c.loop-place-test.true c.loop-place.invariant (sym c.is_title.ensures ∙ c.if-is_title.false)

pub returns : goal.returns
returns c = ap (option_map (λ k. record { 0 = k })) (nowhere (is_title c.args.name) c.args.titles.now c.loop-place.place (omega (arith, c.loop-place-test.false)) c.loop-place.invariant)
