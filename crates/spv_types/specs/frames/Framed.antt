-- Typed programs whose routines and calls fit together, with what each routine reads and writes.
use Rattle.std.specs.Prelude.{◌≡◌, List, map, IsTrue}
use Rattle.spv_program.specs.Programs.{Program}
use Rattle.spv_program.specs.Typing.{well_typed}
use Rattle.spv_program.specs.Frames.{Effects, effects_of, framed}

pub record Framed : Type 0 where
  pub program : Program
  pub effects : List Effects

pub record IsFramed (f : Framed) : Type 0 where
  pub typed : IsTrue (well_typed f.program)
  pub framed : IsTrue (framed f.program)
  pub effects : f.effects ≡ map effects_of f.program.routines
