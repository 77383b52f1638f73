use Rattle.std.proofs.Common.{◌∙◌, rules}
use Rattle.spv_io.proofs.Pieces.{on_err}
use Rattle.spv_cli.proofs.Lines.{more_written, cut_written}
use Rattle.spv_cli.proofs.running.write_lines.Goals as goal

pub returns-in_err-write-clause-prefix : goal.returns-in_err-write-clause-prefix
returns-in_err-write-clause-prefix g c =
    on_err c.from_residual.result (cut_written c.args.text.now c.loop-at.at c.line_length.result c.loop-at.invariant.written c.in_err-write.ensures.prefix)

pub loop-at-preserved : goal.loop-at-preserved
loop-at-preserved g c = record {
  written = more_written c.args.text.now c.loop-at.at c.line_length.result (g.K.Sink.written c.args.sink.now) c.loop-at.invariant.written c.in_ok-write.ensures.all;
  faults = c.in_ok-write.ensures.faults_ok ∙ c.loop-at.invariant.faults;
  within = search rules;
}
