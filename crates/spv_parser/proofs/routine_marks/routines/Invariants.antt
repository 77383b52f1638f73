use Rattle.spv_grammar.specs.reading.RoutineReaders.{read_routines}
use Rattle.spv_parser.specs.Marks.{MarksSoFar}
use Rattle.spv_parser.proofs.routine_marks.routines.Given as goal

abbrev pub invariant-loop : goal.invariant-loop
invariant-loop l = MarksSoFar l.levels (read_routines l.levels l.tokens) l.end l.counter l.begun l.marks.items l.rest
