use Rattle.std.proofs.Common.{refl, inr, ap}
use Rattle.spv_cli.specs.Words.{command_view}
use Rattle.spv_cli.proofs.Told.{reading_of}
use Rattle.spv_cli.proofs.running.perform.Goals as goal

pub returns-in_default-output : goal.returns-in_default-output
returns-in_default-output g c =
    inr (record {
      status = ap (λ r. r.status) c.out_of_memory-in_default-output.ensures;
      report = ap (λ r. r.report) c.out_of_memory-in_default-output.ensures;
      reading = reading_of _ (command_view c.args.command) c.in-Ok.found c.in-Ok.ensures.found;
      writing = record { written = refl; faults = refl };
    })
