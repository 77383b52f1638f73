-- A call of the routine that is there.
use Rattle.std.specs.Bool.{⊤}
use Rattle.std.proofs.Common.{◌≡◌, List, [], ◌∷◌, Result, Option, Some, None, sym, ap, subst}
use Rattle.spv_logic.specs.declared.operators.Head.{Head}
use Rattle.spv_term.specs.Arena.{Arena}
use Rattle.spv_program.specs.Expressions.{Call, call}
use Rattle.spv_program.specs.Programs.{Routine, Program, routine_at}
use Rattle.spv_program.specs.Statements.{Empty}
use Rattle.spv_program.specs.Supplies.{Supply, full_supply}
use Rattle.spv_program.specs.Calls as spec_argument
use Rattle.spv_program.specs.ExpressionTerms.{called_in}
use Rattle.spv_expression_terms.specs.term_walk.OuterCalls.{head_of}
use Rattle.spv_assign.specs.declared.creation_trace.faults.GenFault.{GenFault}
use Rattle.spv_flow_parts.specs.declared.leaves.valued.Called as code_called
use Rattle.spv_flow_parts.specs.declared.calls.passed.Argument as code_argument
use Rattle.spv_flow_parts.specs.calls.Arguments.{AddsCalls, Calling, IsAtCall, IsFunctionAt, argued_at, arguments_at, call_line, call_made, called_routine, one_call}
use Rattle.spv_flow_parts.specs.calls.Events.{made_at_call}

-- the routine that is there; one that does nothing where there is none
abbrev routine_or_none : Option Routine → Routine
routine_or_none None = record {
  name = record { 0 = 0 };
  line = 0;
  formals = [];
  result = None;
  globals = [];
  initial = [];
  entry = None;
  exit = None;
  locals = [];
  body = Empty;
}
routine_or_none (Some r) = r

abbrev pub calling : Program → Arena → Call → List code_argument.Argument → Calling
calling p a c given = record {
  program = p;
  number = called_routine c;
  routine = routine_or_none (routine_at p (called_routine c));
  arguments = arguments_at a given;
  given = argued_at [] full_supply;
  after = [];
}

module _ (p : Program) (a : Arena) (c : Call) (given : List code_argument.Argument) (h : IsFunctionAt p a c given) where
  found : routine_or_none (routine_at p (called_routine c)) ≡ h.routine
  found = ap routine_or_none h.at.routine

  pub at_routine : IsAtCall p a (called_routine c) (routine_or_none (routine_at p (called_routine c))) (arguments_at a given)
  at_routine = subst (λ (r : Routine). IsAtCall p a (called_routine c) r (arguments_at a given)) (sym found) h.at

  there : routine_at p (called_routine c) ≡ Some (routine_or_none (routine_at p (called_routine c)))
  there = subst (λ (r : Routine). routine_at p (called_routine c) ≡ Some r) (sym found) h.at.routine

  module _ (r : Result ⊤ GenFault) (n : Supply) (b : Arena) (us vs : List Head) (cs ds : List code_called.Called) (m : Supply) where
    by_routine : (c : Call) (q : Routine) (xs : List spec_argument.Argument) → routine_at p (called_routine c) ≡ Some q → AddsCalls r (one_call p q (call_line c) xs n) (made_at_call p (Some q) (argued_at xs n)) a b us vs cs ds m
        → AddsCalls r (call_made p c (argued_at xs n)) (made_at_call p (routine_at p (called_routine c)) (argued_at xs n)) a b us vs cs ds m
    by_routine (call id line others) q xs is h =
        subst (λ (o : Option Routine). AddsCalls r (record { variables = head_of (called_in p o line (argued_at xs n)).term ∷ []; calls = (called_in p o line (argued_at xs n)).calls; supply = (called_in p o line (argued_at xs n)).supply })
        (made_at_call p o (argued_at xs n)) a b us vs cs ds m) (sym is) h

    pub call_as_made : AddsCalls r (one_call p (routine_or_none (routine_at p (called_routine c))) (call_line c) (arguments_at a given) n)
        (made_at_call p (Some (routine_or_none (routine_at p (called_routine c)))) (argued_at (arguments_at a given) n)) a b us vs cs ds m
        → AddsCalls r (call_made p c (argued_at (arguments_at a given) n)) (made_at_call p (routine_at p (called_routine c)) (argued_at (arguments_at a given) n)) a b us vs cs ds m
    call_as_made h = by_routine c (routine_or_none (routine_at p (called_routine c))) (arguments_at a given) there h
