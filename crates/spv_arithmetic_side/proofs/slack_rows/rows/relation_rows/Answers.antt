use Rattle.std.proofs.Common.{arith, length, get_or}
use Rattle.std.proofs.lemmas.Option.{slice_get-get_or}
use Rattle.spv_term.proofs.TreeLemmas.{AllBelow-at}
use Rattle.spv_arithmetic_side.specs.slack_rows.Rows.{IsWideAmong}
use Rattle.spv_arithmetic_side.proofs.slack_rows.Pushing.{unfit_among, if_fault}
use Rattle.spv_arithmetic_side.proofs.slack_rows.rows.relation_rows.Goals as goal

pub add-requires : goal.add-requires
add-requires c =
    AllBelow-at (length c.args.terms.now.nodes) c.args.atoms.now c.loop-t.t-index (get_or c.args.atoms.now c.loop-t.t-index (record { 0 = 0 })) c.requires
    (slice_get-get_or c.args.atoms.now c.loop-t.t-index (record { 0 = 0 }) (omega (arith, c.loop-t-test.true)))

pub returns-in_err-add-clause-wide : goal.returns-in_err-add-clause-wide
returns-in_err-add-clause-wide c =
    if_fault c.from_residual.result c.in_err-add.field-0.0 (IsWideAmong c.args.terms.now c.args.atoms.now) c.from_residual.ensures.1
    (unfit_among c.args.terms.now c.args.atoms.now c.loop-t.t-index (get_or c.args.atoms.now c.loop-t.t-index (record { 0 = 0 })) c.in_err-add.field-0.0
    (slice_get-get_or c.args.atoms.now c.loop-t.t-index (record { 0 = 0 }) (omega (arith, c.loop-t-test.true))) c.in_err-add.ensures.wide)
