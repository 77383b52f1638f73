-- What is proved of the walk over what routines use and call.
use Rattle.std.specs.Prelude.{◌≡◌, ◌++◌, Bool, true, not, Some, is_some}
use Rattle.spv_logic.specs.declared.names.names.Symbol.{Symbol}
use Rattle.spv_program.specs.Statements.{Statement}
use Rattle.spv_program.specs.Programs.{Routine, Program}
use Rattle.spv_program.specs.Uses.{statement_uses, statement_calls}
use Rattle.spv_program.specs.Frames.{framed, routine_uses}
use Rattle.spv_effects.specs.declared.frame_walk.faults.FrameFault.{FrameFault}
use Rattle.spv_effects.specs.frame_walk.Events.{statement_events, clause_events, body_events, uses_in, calls_in}
use Rattle.spv_effects.specs.frame_walk.FrameWalk.{frame_fault}
use Rattle.spv_effects.specs.frame_laws.Causes.{has_cause}

-- what the walk goes over is what the rules speak of
pub record EventsAreUsesAndCalls : Type 0 where
  pub routine_uses : (r : Routine) → uses_in (clause_events r ++ body_events r) ≡ routine_uses r
  pub routine_calls : (r : Routine) → calls_in (clause_events r ++ body_events r) ≡ statement_calls r.body
  pub statement_uses : (own : Symbol → Bool) (s : Statement) → uses_in (statement_events own s) ≡ statement_uses own s
  pub statement_calls : (own : Symbol → Bool) (s : Statement) → calls_in (statement_events own s) ≡ statement_calls s

-- the walk meets no fault exactly where the rules hold
abbrev pub FramedWithoutFault : Type 0
FramedWithoutFault = (p : Program) → not (is_some (frame_fault p)) ≡ framed p

-- the first fault names what breaks its rule
abbrev pub FaultsHaveCauses : Type 0
FaultsHaveCauses = (p : Program) (f : FrameFault) → frame_fault p ≡ Some f → has_cause p f ≡ true
