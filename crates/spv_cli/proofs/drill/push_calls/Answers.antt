use Rattle.std.specs.Prelude.{slice_index_or}
use Rattle.std.proofs.lemmas.Option.{slice_get-get_or}
use Rattle.spv_cli.specs.Drill.{call}
use Rattle.spv_cli.specs.declared.drill.Procedure.{Procedure as Made}
use Rattle.spv_cli.specs.Words.{procedure_view}
use Rattle.spv_cli.proofs.Pieces.{flat_more}
use Rattle.spv_cli.proofs.drill.push_calls.Goals as goal

pub loop-p-preserved : goal.loop-p-preserved
loop-p-preserved c =
    let none : Made = record { number = 0; factor = 0; summand = 0 } in
    flat_more call procedure_view c.args.all.now c.loop-p.p-index (slice_index_or c.args.all.now c.loop-p.p-index none) c.args.out.now.items
    (slice_get-get_or c.args.all.now c.loop-p.p-index none c.loop-p-test.true) c.loop-p.invariant c.in_ok-push_call.ensures
