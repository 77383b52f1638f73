use Rattle.std.proofs.Common.{IfOk, IsTrue, sym, subst}
use Rattle.spv_term.specs.Arena.{Extends}
use Rattle.spv_program.specs.Programs.{Program}
use Rattle.spv_program.specs.Typing.{well_typed}
use Rattle.spv_assign.specs.creation_trace.Events.{Walked}
use Rattle.spv_conditions.specs.Making.{empty_arena, program_events}
use Rattle.spv_conditions.proofs.making.conditions.Goals as goal

pub conditions_in-requires-clause-typed : goal.conditions_in-requires-clause-typed
conditions_in-requires-clause-typed c = subst (λ (p : Program). IsTrue (well_typed p)) (sym c.in_ok-indexed.ensures) c.requires.typed

pub returns-clause-arena : goal.returns-clause-arena
returns-clause-arena c = subst (λ (p : Program). IfOk c.conditions_in.result (λ k. Extends (empty_arena p) k.terms)) c.in_ok-indexed.ensures c.conditions_in.ensures.arena

pub returns-clause-within : goal.returns-clause-within
returns-clause-within c = subst (λ (p : Program). IfOk c.conditions_in.result (λ k. Walked (program_events p) (empty_arena p) k.terms)) c.in_ok-indexed.ensures c.conditions_in.ensures.within
