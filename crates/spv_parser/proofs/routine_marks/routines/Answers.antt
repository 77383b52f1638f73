use Rattle.std.proofs.Common.{◌+◌, length, arith, sym}
use Rattle.spv_grammar.specs.reading.RoutineReaders.{read_routines}
use Rattle.spv_parser.specs.Marks.{MarksSoFar}
use Rattle.spv_formula_parser.proofs.primitives.Exits.{same_fault}
use Rattle.spv_parser.proofs.MarkTurns.{begins, begins_none, ends, ends_none, stops}
use Rattle.spv_parser.proofs.routine_marks.routines.Goals.{then-begins_heading+in_ok-first+in_ok-push, else-begins_heading+then-begun-gt0+in_ok-last+in_ok-push-2}
use Rattle.spv_parser.proofs.routine_marks.routines.Goals as goal

pub returns-in_err-first-clause-absent : goal.returns-in_err-first-clause-absent
returns-in_err-first-clause-absent c s h = begins_none c.loop.invariant c.loop-test.true (sym c.if-begins_heading.ensures) (c.in_err-first.ensures.absent s (same_fault s _ c.from_residual.result c.from_residual.ensures.1 h))

pub returns-in_err-last-clause-absent : goal.returns-in_err-last-clause-absent
returns-in_err-last-clause-absent c s h = ends_none c.loop.invariant c.loop-test.true (sym c.if-begins_heading.ensures) (omega (arith, c.if-begun-gt0.true)) (c.in_err-last.ensures.absent s (same_fault s _ c.from_residual-in_err-last.result c.from_residual-in_err-last.ensures.1 h))

pub returns-else-begun-gt0-clause-read : goal.returns-else-begun-gt0-clause-read
returns-else-begun-gt0-clause-read c = stops c.loop.invariant (sym c.if-begins_heading.ensures) (omega (arith, c.if-begun-gt0.false))

pub loop-preserved : goal.loop-preserved
loop-preserved c = elim c.if-begins_heading.branch [
  | then-begins_heading+in_ok-first+in_ok-push w ↦
      let more : MarksSoFar c.args.levels (read_routines c.args.levels c.args.tokens.now) (length c.args.tokens.now) (c.loop.counter + 1) w.begun_behind-begun.result w.push.new.self.items w.in_ok-first.next.now =
      begins c.loop.invariant c.loop-test.true (sym w.if-begins_heading.ensures) w.in_ok-first.ensures.read w.begun_behind-begun.ensures w.in_ok-push.ensures.items in
      rw (w.marks-is, w.rest-is, w.begun-is) more
  | else-begins_heading+then-begun-gt0+in_ok-last+in_ok-push-2 w ↦
      let more : MarksSoFar c.args.levels (read_routines c.args.levels c.args.tokens.now) (length c.args.tokens.now) (c.loop.counter + 1) c.if-begins_heading.begun w.push-then-begun-gt0.new.self.items w.in_ok-last.next.now =
      ends c.loop.invariant c.loop-test.true (sym w.if-begins_heading.ensures) (omega (arith, w.if-begun-gt0.true)) w.in_ok-last.ensures.read w.begun-is w.in_ok-push-2.ensures.items in
      rw (w.marks-is, w.rest-is) more
]
