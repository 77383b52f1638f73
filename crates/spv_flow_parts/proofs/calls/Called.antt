-- A call with its ENTRY and EXIT.
use Rattle.std.proofs.Common.{◌≡◌, ℕ, zero, suc, ◌<◌, List, [], ◌∷◌, ◌++◌, map, length, slice_get, Result, Ok, Err, IfOk, IsErrAnd, Option, Some, refl, sym, ap, ◌∙◌, arith}
use Rattle.spv_logic.specs.declared.conditions.TermId.{TermId}
use Rattle.spv_logic.specs.declared.operators.Head.{Head}
use Rattle.spv_logic.specs.Terms.{Term}
use Rattle.spv_term.specs.Arena.{AllBelow, Arena, Extends}
use Rattle.spv_term.proofs.ArenaLemmas.{Extends-trans}
use Rattle.spv_program.specs.declared.typed.programs.Routine.{Routine as RoutineText}
use Rattle.spv_program.specs.typed.ProgramViews.{routine_of}
use Rattle.spv_program.specs.Lists.{item_at}
use Rattle.spv_program.specs.Programs.{Routine, Program}
use Rattle.spv_program.specs.Calls.{Argument, entry_at_call, exit_at_call, present_argument}
use Rattle.spv_program.proofs.SortFacts.{nothing_there, some_is}
use Rattle.spv_assign.specs.declared.creation_trace.faults.GenFault.{GenFault}
use Rattle.spv_assign.specs.creation_trace.Events.{Event, Stops, Walked}
use Rattle.spv_assign.specs.creation_trace.StatementEvents.{in_order, several}
use Rattle.spv_assign.proofs.creation_trace.Walks.{nothing_walked}
use Rattle.spv_assign.proofs.limited_steps.Limits.{same_stop}
use Rattle.spv_flow_parts.specs.declared.leaves.valued.Called as code
use Rattle.spv_flow_parts.specs.leaves.Values.{IsCall, IsTermIfThere}
use Rattle.spv_flow_parts.specs.calls.Arguments.{ArePresent, MakesCall, called_with}
use Rattle.spv_flow_parts.specs.calls.Events.{at_call_events, entry_events, exit_events}
use Rattle.spv_flow_parts.proofs.Steps.{stopped_at, went}
use Rattle.spv_flow_parts.proofs.leaves.InFront.{IsTermIfThere-Extends}
use Rattle.spv_flow_parts.proofs.calls.Passing.{ArePresent-Extends}

-- ---- the routine of a number

pub routine_there : (rs : List RoutineText) (wanted : List Routine) (n : ℕ) (r : Routine) → map routine_of rs ≡ wanted → item_at wanted n ≡ Some r → n < length rs
routine_there rs wanted n r are e = by rs n (ap (λ (l : List Routine). item_at l n) are ∙ e)
  where
    by : (rs : List RoutineText) (n : ℕ) → item_at (map routine_of rs) n ≡ Some r → n < length rs
    by [] n e = absurd (nothing_there e)
    by (q ∷ rs) zero e = omega arith
    by (q ∷ rs) (suc n) e = let low = by rs n e in omega (arith, low)

pub routine_same : (rs : List RoutineText) (wanted : List Routine) (n : ℕ) (r : Routine) (q : RoutineText) → map routine_of rs ≡ wanted → item_at wanted n ≡ Some r → slice_get rs n ≡ Some q → routine_of q ≡ r
routine_same rs wanted n r q are e = by rs n (ap (λ (l : List Routine). item_at l n) are ∙ e)
  where
    by : (rs : List RoutineText) (n : ℕ) → item_at (map routine_of rs) n ≡ Some r → slice_get rs n ≡ Some q → routine_of q ≡ r
    by [] n e f = absurd (nothing_there e)
    by (s ∷ rs) zero e f = ap routine_of (sym (some_is f)) ∙ some_is e
    by (s ∷ rs) (suc n) e f = by rs n e f

present_below : (a : Arena) (ts : List TermId) (xs : List Argument) → ArePresent a ts xs → AllBelow (length a.nodes) ts
present_below a [] [] h = tt
present_below a (t ∷ ts) (x ∷ xs) h = (h.0.there, present_below a ts xs h.1)
present_below a [] (x ∷ xs) h = absurd h
present_below a (t ∷ ts) [] h = absurd h

-- ---- the call

module _ (p : Program) (r : Routine) (line : ℕ) (arguments : List Argument) (after : List (Head × Term)) where
  call_stops : (o : Result code.Called GenFault) (e : GenFault) (done : List (List Event)) (now : List Event) (rest : List (List Event)) {a b c : Arena} → IsErrAnd o (λ f. f ≡ e) → Walked (in_order done) a b → Extends b c → Stops e now b c
      → MakesCall o (called_with p r line arguments after) (in_order (done ++ now ∷ rest)) a c
  call_stops o e done now rest {a} {b} {c} is first grows stops = record {
    grows = Extends-trans first.grows grows;
    walk = same_stop o e (in_order (done ++ now ∷ rest)) a c is (stopped_at done now rest e a b c first stops);
    call = none o is;
  }
    where
      none : (o : Result code.Called GenFault) → IsErrAnd o (λ f. f ≡ e) → IfOk o (λ d. IsCall c d (called_with p r line arguments after))
      none (Ok d) h = absurd h
      none (Err f) h = tt

  abbrev given : List Event
  given = several (map present_argument arguments)

  abbrev asked : List Event
  asked = entry_events p r arguments r.entry

  abbrev told : List Event
  told = exit_events p r arguments after r.exit

  pub arguments_stop : (o : Result code.Called GenFault) (e : GenFault) (a b : Arena) → IsErrAnd o (λ f. f ≡ e) → Extends a b → Stops e (several (map present_argument arguments)) a b
      → MakesCall o (called_with p r line arguments after) (at_call_events p r arguments after) a b
  arguments_stop o e a b is grows stops = call_stops o e [] given (asked ∷ told ∷ []) is (nothing_walked a) grows stops

  module _ (a b : Arena) (first : Walked (several (map present_argument arguments)) a b) where
    one_done : Walked (in_order (given ∷ [])) a b
    one_done = went [] given (nothing_walked a) first

    pub entry_stops : (o : Result code.Called GenFault) (e : GenFault) (c : Arena) → IsErrAnd o (λ f. f ≡ e) → Extends b c → Stops e (entry_events p r arguments r.entry) b c
        → MakesCall o (called_with p r line arguments after) (at_call_events p r arguments after) a c
    entry_stops o e c is grows stops = call_stops o e (given ∷ []) asked (told ∷ []) is one_done grows stops

    module _ (c : Arena) (second : Walked (entry_events p r arguments r.entry) b c) where
      two_done : Walked (in_order (given ∷ asked ∷ [])) a c
      two_done = went (given ∷ []) asked one_done second

      pub exit_stops : (o : Result code.Called GenFault) (e : GenFault) (d : Arena) → IsErrAnd o (λ f. f ≡ e) → Extends c d → Stops e (exit_events p r arguments after r.exit) c d
          → MakesCall o (called_with p r line arguments after) (at_call_events p r arguments after) a d
      exit_stops o e d is grows stops = call_stops o e (given ∷ asked ∷ []) told [] is two_done grows stops

      pub call_made : (d : Arena) (ts : List TermId) (n g : Option TermId) → Walked (exit_events p r arguments after r.exit) c d → ArePresent b ts arguments → IsTermIfThere c n (entry_at_call p r arguments)
          → IsTermIfThere d g (exit_at_call p r arguments after) → MakesCall (Ok (record { args = ts; needs = n; gives = g; line = line })) (called_with p r line arguments after) (at_call_events p r arguments after) a d
      call_made d ts n g third present needs gives = record {
        grows = Extends-trans first.grows (Extends-trans second.grows third.grows);
        walk = went (given ∷ asked ∷ []) told two_done third;
        call = record {
          args = present_below d ts arguments (ArePresent-Extends (Extends-trans second.grows third.grows) ts arguments present);
          needs = IsTermIfThere-Extends n (entry_at_call p r arguments) third.grows needs;
          gives = gives;
          line = refl;
        };
      }
