-- The conditions before an IF.
use Rattle.std.proofs.Common.{◌≡◌, ◌<◌, ℕ, List, [], ◌∷◌, length, Ok, Err, IsErrAnd, Option, Some, refl, sym, ap, subst, ◌∙◌}
use Rattle.spv_logic.specs.declared.conditions.RoutineId.{RoutineId}
use Rattle.spv_logic.specs.declared.types.Sort.TheVariants as sort
use Rattle.spv_logic.specs.Conditions as logic
use Rattle.spv_term.specs.declared.nodes.Condition.{Condition}
use Rattle.spv_term.specs.Arena.{Arena, Extends, sort_at}
use Rattle.spv_term.proofs.ArenaLemmas.{Extends-trans}
use Rattle.spv_program.specs.Expressions.{Expression}
use Rattle.spv_program.specs.Statements.{Statement, If}
use Rattle.spv_program.specs.Programs.{Program, routine_in}
use Rattle.spv_program.specs.Supplies.{Supply}
use Rattle.spv_program.specs.ExpressionTypes.{expression_sort}
use Rattle.spv_program.specs.ExpressionTerms.{Valued, valued}
use Rattle.spv_assign.specs.declared.pending.pending.Pending.{Pending}
use Rattle.spv_assign.specs.Conditions.{conditions_of, AreIn}
use Rattle.spv_meaning.specs.Before.{Made, before}
use Rattle.spv_assign.specs.declared.creation_trace.faults.GenFault.{GenFault}
use Rattle.spv_assign.specs.declared.creation_trace.faults.GenFault.TheVariants as fault
use Rattle.spv_assign.specs.creation_trace.Events.{Event, Walked}
use Rattle.spv_assign.specs.creation_trace.StatementEvents.{in_order}
use Rattle.spv_assign.proofs.creation_trace.Walks.{nothing_walked}
use Rattle.spv_flow_parts.specs.declared.bodies.Body.{Body}
use Rattle.spv_flow_parts.specs.Walks.{AreThese, Listed, ComesTo, made_of}
use Rattle.spv_flow_parts.proofs.Steps.{went, exit, comes_never, comes_on, comes_as, AreThese-Extends}
use Rattle.spv_flow_parts.specs.declared.leaves.valued.Valued as code
use Rattle.spv_flow_parts.specs.leaves.Parts.{Making, Taking}
use Rattle.spv_flow_parts.specs.leaves.Values.{MakesValue}
use Rattle.spv_flow_parts.proofs.leaves.Chains.{made_with}
use Rattle.spv_flow.specs.statement_rules.Events.{events_by}
use Rattle.spv_flow.specs.statement_rules.Rules.{IsTestOf, IsValueOf, tested_made, tested_events}
use Rattle.spv_flow.proofs.statement_rules.WayLemmas.{IsValueOf-Extends}
use Rattle.spv_flow.proofs.statement_rules.LoopBegins.{sort_of_test, value_made}
use Rattle.spv_flow.specs.Walking.{MayWalk, WalksBy}
use Rattle.spv_flow.proofs.Right.{if_test, if_first, if_second}
use Rattle.spv_flow.proofs.Growing.{may_walk_on, within_then, walks_behind, behind_given}

module _ (by : Making) (taking : Taking) (p : Program) (body : Body) (a0 : Arena) (n : Supply) (line : ℕ) (e : Expression) (s t : Statement) (rest : List Condition) (h : MayWalk taking p body a0 n (If line e s t) rest) where
  abbrev here : Option RoutineId
  here = body.here

  abbrev cs : List logic.Condition
  cs = conditions_of a0 rest

  abbrev w : Valued
  w = valued p (routine_in p here) n e

  abbrev te : List Event
  te = by.test e n

  abbrev q0 : Made
  q0 = made_with cs w.supply

  abbrev first : Made
  first = before p here s q0

  abbrev q1 : Made
  q1 = made_with cs first.supply

  abbrev second : Made
  second = before p here t q1

  abbrev goal : Made
  goal = made_with (tested_made here w first.conditions second.conditions) second.supply

  abbrev last : List (List Event)
  last = tested_events here w first.conditions second.conditions

  abbrev all : List (List Event)
  all = te ∷ events_by by p here s q0 ∷ events_by by p here t q1 ∷ last

  pub if_tested : IsTestOf taking p body.here e sort.Bool
  if_tested = if_test taking p here line e s t h.right

  pub if_test_stops : (r : Listed) (g : GenFault) (k : Supply) (a1 : Arena) → IsErrAnd r (λ y. y ≡ g) → MakesValue (Err g) (valued p (routine_in p body.here) n e) (by.test e n) a0 a1 k
      → WalksBy r by p body.here (If line e s t) (made_of a0 rest n) a0 a1 k
  if_test_stops r g k a1 is made = exit r g goal k [] te (events_by by p here s q0 ∷ events_by by p here t q1 ∷ last) is (nothing_walked a0) made.grows made.walk

  module _ (a1 : Arena) (n1 : Supply) (test : code.Valued) (made : MakesValue (Ok test) (valued p (routine_in p body.here) n e) (by.test e n) a0 a1 n1) where
    w1 : Walked (in_order (te ∷ [])) a0 a1
    w1 = went [] te (nothing_walked a0) made.walk

    pub if_never : (r : Listed) (g : GenFault) (k : Supply) → IsErrAnd r (λ y. y ≡ g) → g ≡ fault.Memory → WalksBy r by p body.here (If line e s t) (made_of a0 rest n) a0 a1 k
    if_never r g k is memory = comes_never goal k r g (in_order all) is memory made.grows

    pub if_first_fits : (given : List Condition) → given ≡ rest → MayWalk taking p body a1 n1 s given
    if_first_fits given same =
        may_walk_on taking p body h n1 s given made.grows (if_first taking p here line e s t h.right) made.value.there (subst (AreIn a1) (sym same) (within_then taking p body h made.grows))

    first_at : (r : Listed) (given : List Condition) (a2 : Arena) (m : Supply) → given ≡ rest → WalksBy r by p here s (made_of a1 given n1) a1 a2 m → WalksBy r by p here s q0 a1 a2 m
    first_at r given a2 m same k = walks_behind r by p here s (made_of a1 given n1) q0 a1 a2 m (behind_given rest given n1 w.supply same made.grows h.within made.value.supply) k

    pub if_first_stops : (r : Listed) (g : GenFault) (k m : Supply) (given : List Condition) (a2 : Arena) → given ≡ rest → IsErrAnd r (λ y. y ≡ g) → WalksBy (Err g) by p body.here s (made_of a1 given n1) a1 a2 m
        → WalksBy r by p body.here (If line e s t) (made_of a0 rest n) a0 a2 k
    if_first_stops r g k m given a2 same is c =
        let c1 = first_at (Err g) given a2 m same c in
        exit r g goal k (te ∷ []) (events_by by p here s q0) (events_by by p here t q1 ∷ last) is w1 c1.grows c1.walk

    module _ (given : List Condition) (same : given ≡ rest) (a2 : Arena) (m : Supply) (one_way : Pending) (c : WalksBy (Ok one_way) by p body.here s (made_of a1 given n1) a1 a2 m) where
      c1 : WalksBy (Ok one_way) by p here s q0 a1 a2 m
      c1 = first_at (Ok one_way) given a2 m same c

      more : Extends a0 a2
      more = Extends-trans made.grows c1.grows

      w2 : Walked (in_order (te ∷ events_by by p here s q0 ∷ [])) a0 a2
      w2 = went (te ∷ []) (events_by by p here s q0) w1 c1.walk

      pub if_second_fits : MayWalk taking p body a2 m t rest
      if_second_fits = may_walk_on taking p body h m t rest more (if_second taking p here line e s t h.right) c1.made.there (within_then taking p body h more)

      second_at : (r : Listed) (a3 : Arena) (m2 : Supply) → WalksBy r by p here t (made_of a2 rest m) a2 a3 m2 → WalksBy r by p here t q1 a2 a3 m2
      second_at r a3 m2 k = walks_behind r by p here t (made_of a2 rest m) q1 a2 a3 m2 (behind_given rest rest m first.supply refl more h.within c1.made.supply) k

      pub if_second_stops : (r : Listed) (g : GenFault) (k m2 : Supply) (a3 : Arena) → IsErrAnd r (λ y. y ≡ g) → WalksBy (Err g) by p body.here t (made_of a2 rest m) a2 a3 m2
          → WalksBy r by p body.here (If line e s t) (made_of a0 rest n) a0 a3 k
      if_second_stops r g k m2 a3 is d =
          let d1 = second_at (Err g) a3 m2 d in
          exit r g goal k (te ∷ events_by by p here s q0 ∷ []) (events_by by p here t q1) last is w2 d1.grows d1.walk

      module _ (sorted : expression_sort p (routine_in p body.here) e ≡ Some (sort_at a1 test.term)) (a3 : Arena) (m2 : Supply) (other_way : Pending) (d : WalksBy (Ok other_way) by p body.here t (made_of a2 rest m) a2 a3 m2) where
        d1 : WalksBy (Ok other_way) by p here t q1 a2 a3 m2
        d1 = second_at (Ok other_way) a3 m2 d

        w3 : Walked (in_order (te ∷ events_by by p here s q0 ∷ events_by by p here t q1 ∷ [])) a0 a3
        w3 = went (te ∷ events_by by p here s q0 ∷ []) (events_by by p here t q1) w2 d1.walk

        test_then : IsValueOf a3 test w sort.Bool
        test_then = IsValueOf-Extends test w sort.Bool (Extends-trans c1.grows d1.grows) (value_made test w sort.Bool te a0 a1 n1 made (sort_of_test taking p here e sort.Bool a1 test.term if_tested sorted))

        pub test_there : test.term.0 < length a3.nodes
        test_there = test_then.term.there

        pub test_sort : sort_at a3 test.term ≡ sort.Bool
        test_sort = test_then.sorted

        first_then : AreThese a3 one_way.items first.conditions
        first_then = AreThese-Extends one_way.items first.conditions d1.grows c1.made.conditions

        pub first_in : (firsts : List Condition) → firsts ≡ one_way.items → AreIn a3 firsts
        first_in firsts e = subst (AreIn a3) (sym e) first_then.in_range

        pub second_in : (seconds : List Condition) → seconds ≡ other_way.items → AreIn a3 seconds
        second_in seconds e = subst (AreIn a3) (sym e) d1.made.conditions.in_range

        pub if_comes : (r : Listed) (a4 : Arena) (firsts seconds : List Condition) → firsts ≡ one_way.items → seconds ≡ other_way.items
            → ((v : Valued) → IsValueOf a3 test v sort.Bool → ComesTo r (tested_made body.here v (conditions_of a3 firsts) (conditions_of a3 seconds)) (in_order (tested_events body.here v (conditions_of a3 firsts) (conditions_of a3 seconds))) a3 a4)
            → WalksBy r by p body.here (If line e s t) (made_of a0 rest n) a0 a4 m2
        if_comes r a4 firsts seconds firsts_are seconds_are comes =
            let fs : conditions_of a3 firsts ≡ first.conditions = ap (conditions_of a3) firsts_are ∙ first_then.same in
            let ss : conditions_of a3 seconds ≡ second.conditions = ap (conditions_of a3) seconds_are ∙ d1.made.conditions.same in
            let left = d1.made.supply in
            comes_on r goal m2 (te ∷ events_by by p here s q0 ∷ events_by by p here t q1 ∷ []) last w3
            (comes_as goal m2 r
            (made_with (tested_made here w (conditions_of a3 firsts) (conditions_of a3 seconds)) m2)
            (in_order (tested_events here w (conditions_of a3 firsts) (conditions_of a3 seconds)))
            (in_order last)
            (λ i. made_with (tested_made here w (fs i) (ss i)) (left i))
            (λ i. in_order (tested_events here w (fs i) (ss i)))
            (comes w test_then m2 d1.made.there))
