-- The conditions before an ASSERT.
use Rattle.std.proofs.Common.{◌≡◌, ◌+◌, ℕ, List, [], ◌∷◌, ◌++◌, length, Ok, Err, IfOk, IsErrAnd, Option, refl, ap, subst, sym, ◌∙◌}
use Rattle.std.proofs.lemmas.List.{length-map}
use Rattle.spv_logic.specs.declared.conditions.Kind.TheVariants as kind
use Rattle.spv_logic.specs.declared.conditions.TermId.{TermId}
use Rattle.spv_logic.specs.declared.conditions.RoutineId.{RoutineId}
use Rattle.spv_logic.specs.Terms.{Term}
use Rattle.spv_logic.specs.Conditions as logic
use Rattle.spv_term.specs.declared.nodes.Condition.{Condition}
use Rattle.spv_term.specs.Arena.{Arena}
use Rattle.spv_program.specs.Formulas.{Annotation}
use Rattle.spv_program.specs.Statements.{Assert}
use Rattle.spv_program.specs.Programs.{Program, routine_in}
use Rattle.spv_program.specs.Supplies.{Supply}
use Rattle.spv_program.specs.Terms.{body_term}
use Rattle.spv_assign.specs.supply.Numbers.{AreThere}
use Rattle.spv_assign.proofs.supply.FreshLemmas.{AreThere-Extends}
use Rattle.spv_assign.specs.Conditions.{conditions_of, AreIn, Assumes}
use Rattle.spv_meaning.specs.Before.{Made, before, all_assuming, assuming, wanted}
use Rattle.spv_assign.specs.declared.creation_trace.faults.GenFault.{GenFault}
use Rattle.spv_assign.specs.declared.creation_trace.faults.GenFault.TheVariants as fault
use Rattle.spv_assign.specs.creation_trace.Events.{Event, Answers}
use Rattle.spv_assign.specs.creation_trace.StatementEvents.{one, counted, events}
use Rattle.spv_assign.proofs.creation_trace.Walks.{nothing_walked}
use Rattle.spv_flow_parts.specs.Walks.{AreThese, wanted_item, Listed, Comes, MakesTerm, made_of}
use Rattle.spv_flow_parts.proofs.Steps.{went, exit, comes_never, comes_last, AreThese-Extends}
use Rattle.spv_flow_parts.proofs.Conditions.{joined_comes, long_conditions, under_term, wanted_these}

module _ (p : Program) (here : Option RoutineId) (f : Annotation) (rest : List Condition) (n : Supply) (a0 : Arena) (within : AreIn a0 rest) (numbers : AreThere a0 n) where
  abbrev x : Term
  x = body_term p (routine_in p here) f

  abbrev start : Made
  start = made_of a0 rest n

  abbrev made : Made
  made = before p here (Assert f) start

  abbrev all : List Event
  all = events p here (Assert f) start

  pub assert_stops : (r : Listed) (g : GenFault) (a1 : Arena) → IsErrAnd r (λ y. y ≡ g) → MakesTerm (Err g) (body_term p (routine_in p here) f) a0 a1 → Comes r (before p here (Assert f) (made_of a0 rest n)) (events p here (Assert f) (made_of a0 rest n)) a0 a1 n
  assert_stops r g a1 is term = exit r g made n [] (one x) (counted (1 + length start.conditions) ∷ []) is (nothing_walked a0) term.grows term.walk

  module _ (a1 : Arena) (t : TermId) (term : MakesTerm (Ok t) (body_term p (routine_in p here) f) a0 a1) where
    -- memory is wanting for the lists
    pub assert_never : (r : Listed) (g : GenFault) → IsErrAnd r (λ y. y ≡ g) → g ≡ fault.Memory → Comes r (before p here (Assert f) (made_of a0 rest n)) (events p here (Assert f) (made_of a0 rest n)) a0 a1 n
    assert_never r g is memory = comes_never made n r g all is memory term.grows

    pub assert_comes : (r : Listed) (under first : List Condition) (line : ℕ) → Assumes t rest under
        → first ≡ wanted_item here kind.Assert t line ∷ [] → line ≡ f.line → IfOk r (λ l. l.items ≡ first ++ under) → Answers r (counted (length first + length under)) a1 a1
        → Comes r (before p here (Assert f) (made_of a0 rest n)) (events p here (Assert f) (made_of a0 rest n)) a0 a1 n
    assert_comes r under first line assumes first_is line_is joined answers =
        let behind : AreThese a1 rest (conditions_of a0 rest) = AreThese-Extends rest (conditions_of a0 rest) term.grows (record { same = refl; in_range = within }) in
        let under_these : AreThese a1 under (all_assuming x (conditions_of a0 rest)) = under_term t rest under a1 x (conditions_of a0 rest) assumes term.term behind in
        let first_these : AreThese a1 first (wanted here kind.Assert f.line x ∷ []) = wanted_these a1 p here kind.Assert t line f first first_is line_is term.term in
        let long : length under ≡ length (conditions_of a0 rest) =
        sym (long_conditions a1 under) ∙ ap (λ (l : List logic.Condition). length l) under_these.same ∙ length-map (conditions_of a0 rest) (assuming x) in
        let first_long : length first ≡ 1 = ap (λ (l : List Condition). length l) first_is in
        let h = joined_comes r first under (wanted here kind.Assert f.line x ∷ []) (all_assuming x (conditions_of a0 rest)) a1 joined answers first_these under_these n (AreThere-Extends a0 a1 n term.grows numbers) in
        comes_last r made n (one x ∷ []) (counted (1 + length start.conditions)) (went [] (one x) (nothing_walked a0) term.walk)
        (subst (λ count. Comes r made (counted count) a1 a1 n) (λ i. first_long i + long i) h)
