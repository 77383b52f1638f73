-- What is made of a loop before its body is walked.
use Rattle.std.proofs.Common.{◌≡◌, List, [], ◌∷◌, length, Result, Ok, Err, IfOk, IsErrAnd, Option, Some, sym, ap, subst, ◌∙◌}
use Rattle.spv_logic.specs.declared.conditions.Kind.TheVariants as kind
use Rattle.spv_logic.specs.declared.conditions.TermId.{TermId}
use Rattle.spv_logic.specs.declared.conditions.RoutineId.{RoutineId}
use Rattle.spv_logic.specs.declared.types.Sort.{Sort}
use Rattle.spv_logic.specs.declared.types.Sort.TheVariants as sort
use Rattle.spv_logic.specs.Terms.{Term}
use Rattle.spv_logic.specs.Conditions as logic
use Rattle.spv_term.specs.declared.nodes.Condition.{Condition}
use Rattle.spv_term.specs.Arena.{Arena, Extends, tree, sort_at}
use Rattle.spv_term.proofs.ArenaLemmas.{Extends-trans}
use Rattle.spv_program.specs.Expressions.{Expression}
use Rattle.spv_program.specs.Formulas.{Annotation}
use Rattle.spv_program.specs.Programs.{Program, routine_in}
use Rattle.spv_program.specs.Supplies.{Supply}
use Rattle.spv_program.specs.ExpressionTypes.{expression_sort}
use Rattle.spv_program.specs.ExpressionTerms.{Valued}
use Rattle.spv_program.proofs.SortFacts.{some_is}
use Rattle.spv_assign.specs.declared.pending.pending.Pending.{Pending}
use Rattle.spv_assign.proofs.supply.FreshLemmas.{AreThere-Extends}
use Rattle.spv_assign.specs.Conditions.{conditions_of, AreIn}
use Rattle.spv_meaning.specs.Before.{before_calls, negated, annotation_term, wanted_if_there}
use Rattle.spv_assign.specs.declared.creation_trace.faults.GenFault.{GenFault}
use Rattle.spv_assign.specs.declared.creation_trace.faults.GenFault.TheVariants as fault
use Rattle.spv_assign.specs.creation_trace.Events.{Event, Walked, Stops}
use Rattle.spv_assign.specs.creation_trace.StatementEvents.{one, one_if_there, counted, in_order}
use Rattle.spv_assign.proofs.creation_trace.Walks.{nothing_walked}
use Rattle.spv_assign.proofs.limited_steps.Limits.{same_stop}
use Rattle.spv_flow_parts.specs.Walks.{AreThese, IsNoted, Listed, Comes, ComesTo}
use Rattle.spv_flow_parts.proofs.Steps.{went, went_on, stopped_at, stopped_among, stops_memory}
use Rattle.spv_flow_parts.proofs.LoopLemmas.{IsNoted-Extends}
use Rattle.spv_flow_parts.specs.declared.leaves.valued.Valued as code
use Rattle.spv_flow_parts.specs.leaves.Parts.{Taking}
use Rattle.spv_flow_parts.specs.leaves.Values.{MakesValue, call_events}
use Rattle.spv_flow.specs.declared.statement_rules.loops.LoopTerms.{LoopTerms}
use Rattle.spv_flow.specs.declared.statement_rules.loops.Begun.{Begun}
use Rattle.spv_flow.specs.statement_rules.Rules.{ways_made, ways_events, IsTestOf, IsValueOf, AreLoopTerms, IsBegun, Begins, while_begin, repeat_uses, repeat_begin}
use Rattle.spv_flow.proofs.statement_rules.WayLemmas.{made_with, long_ways, conditions_then, IsValueOf-Extends, PutsInFront}

-- ---- values of a sort

pub sort_of_test : (taking : Taking) (p : Program) (here : Option RoutineId) (e : Expression) (s : Sort) (a : Arena) (t : TermId) → IsTestOf taking p here e s → expression_sort p (routine_in p here) e ≡ Some (sort_at a t) → sort_at a t ≡ s
sort_of_test taking p here e s a t h is = some_is (sym is ∙ h.sorted)

-- an expression whose term was made, of its sort
pub value_made : (v : code.Valued) (w : Valued) (s : Sort) (te : List Event) (a b : Arena) (n : Supply) → MakesValue (Ok v) w te a b n → sort_at b v.term ≡ s → IsValueOf b v w s
value_made v w s te a b n made sorted = record { term = made.value.term; calls = made.value.calls; sorted = sorted }

-- ---- arenas that grow

pub AreLoopTerms-Extends : {a b : Arena} (p : Program) (here : Option RoutineId) (t : LoopTerms) (w : Valued) (f : Option Annotation) → Extends a b → AreLoopTerms a p here t w f → AreLoopTerms b p here t w f
AreLoopTerms-Extends p here t w f more h = record {
  test = IsValueOf-Extends t.test w sort.Bool more h.test;
  note = IsNoted-Extends p here t.note f more h.note;
}

-- ---- what stops the beginning

module _ (p : Program) (here : Option RoutineId) (f : Option Annotation) (w : Valued) (cs : List logic.Condition) (events : List (List Event)) {a b : Arena} (n : Supply) where
  pub begins_not : (r : Result Begun GenFault) (g : GenFault) → IsErrAnd r (λ e. e ≡ g) → Extends a b → Stops g (in_order events) a b → Begins r p here f w cs events a b n
  begins_not r g is grows stops = record { grows = grows; walk = same_stop r g (in_order events) a b is stops; begun = none r is }
    where
      none : (r : Result Begun GenFault) → IsErrAnd r (λ e. e ≡ g) → IfOk r (λ o. IsBegun b p here n o w f cs)
      none (Ok o) h = absurd h
      none (Err e) h = tt

  pub begins_never : (r : Result Begun GenFault) (g : GenFault) → IsErrAnd r (λ e. e ≡ g) → g ≡ fault.Memory → Extends a b → Begins r p here f w cs events a b n
  begins_never r g is memory grows = begins_not r g is grows (stops_memory g (in_order events) a b memory)

-- ---- WHILE

module _ (p : Program) (here : Option RoutineId) (f : Option Annotation) (te : List Event) (w : Valued) (a0 : Arena) where
  abbrev preserved : List logic.Condition
  preserved = wanted_if_there p here kind.Preserved f

  abbrev note_event : List Event
  note_event = one_if_there (annotation_term p here f)

  pub test_stops : (r : Result Begun GenFault) (g : GenFault) (a1 : Arena) (n : Supply) → IsErrAnd r (λ y. y ≡ g) → MakesValue (Err g) w te a0 a1 n
      → Begins r p here f w (wanted_if_there p here kind.Preserved f) (while_begin p here f te) a0 a1 n
  test_stops r g a1 n is made = begins_not p here f w preserved (while_begin p here f te) n r g is made.grows (stopped_at [] te (note_event ∷ []) g a0 a0 a1 (nothing_walked a0) made.walk)

  module _ (a1 : Arena) (n : Supply) (test : code.Valued) (made : MakesValue (Ok test) w te a0 a1 n) where
    w1 : Walked (in_order (te ∷ [])) a0 a1
    w1 = went [] te (nothing_walked a0) made.walk

    pub note_stops : (r : Result Begun GenFault) (g : GenFault) (a2 : Arena) → IsErrAnd r (λ y. y ≡ g) → Extends a1 a2 → Stops g (one_if_there (annotation_term p here f)) a1 a2
        → Begins r p here f w (wanted_if_there p here kind.Preserved f) (while_begin p here f te) a0 a2 n
    note_stops r g a2 is grows stops =
        begins_not p here f w preserved (while_begin p here f te) n r g is (Extends-trans made.grows grows) (stopped_at (te ∷ []) note_event [] g a0 a1 a2 w1 stops)

    module _ (a2 : Arena) (note : Option TermId) (grows : Extends a1 a2) (noted : IsNoted a2 p here note f) (walked : Walked (one_if_there (annotation_term p here f)) a1 a2) where
      pub begun_never : (r : Result Begun GenFault) (g : GenFault) → IsErrAnd r (λ y. y ≡ g) → g ≡ fault.Memory
          → Begins r p here f w (wanted_if_there p here kind.Preserved f) (while_begin p here f te) a0 a2 n
      begun_never r g is memory = begins_never p here f w preserved (while_begin p here f te) n r g is memory (Extends-trans made.grows grows)

      pub while_begins : (o : Begun) (items : List Condition) → o.terms.test ≡ test → o.terms.note ≡ note → o.behind.items ≡ items → sort_at a1 test.term ≡ sort.Bool → AreThese a2 items (wanted_if_there p here kind.Preserved f)
          → Begins (Ok o) p here f w (wanted_if_there p here kind.Preserved f) (while_begin p here f te) a0 a2 n
      while_begins o items test_is note_is items_are is_bool these = record {
        grows = Extends-trans made.grows grows;
        walk = went (te ∷ []) note_event w1 walked;
        begun = record {
          known = record {
            test = subst (λ (t : code.Valued). IsValueOf a2 t w sort.Bool) (sym test_is) (IsValueOf-Extends test w sort.Bool grows (value_made test w sort.Bool te a0 a1 n made is_bool));
            note = subst (λ (k : Option TermId). IsNoted a2 p here k f) (sym note_is) noted;
          };
          behind = subst (λ (l : List Condition). AreThese a2 l preserved) (sym items_are) these;
          supply = made.value.supply;
          there = AreThere-Extends a1 a2 n grows made.value.there;
        };
      }

-- ---- REPEAT

module _ (p : Program) (here : Option RoutineId) (f : Option Annotation) (te : List Event) (w : Valued) (rest : List Condition) (a0 : Arena) (within : AreIn a0 rest) where
  abbrev x : Term
  x = w.term

  abbrev cs : List logic.Condition
  cs = conditions_of a0 rest

  abbrev wanted_behind : List logic.Condition
  wanted_behind = wanted_if_there p here kind.Preserved f

  abbrev uses : List logic.Condition
  uses = repeat_uses p here f x cs

  abbrev last : List (List Event)
  last = one (negated x) ∷ counted (length uses) ∷ []

  abbrev calling : List Event
  calling = call_events here w.calls uses

  abbrev all : List (List Event)
  all = repeat_begin p here f te w cs

  abbrev goal : List logic.Condition
  goal = before_calls here w.calls uses

  pub first_stops : (r : Result Begun GenFault) (g : GenFault) (a1 : Arena) (n : Supply) → IsErrAnd r (λ y. y ≡ g)
      → Begins (Err g) p here f w (wanted_if_there p here kind.Preserved f) (while_begin p here f te) a0 a1 n
      → Begins r p here f w (before_calls here w.calls (repeat_uses p here f w.term (conditions_of a0 rest))) (repeat_begin p here f te w (conditions_of a0 rest)) a0 a1 n
  first_stops r g a1 n is h = begins_not p here f w goal all n r g is h.grows (stopped_among [] (while_begin p here f te) (one (negated x) ∷ counted (length uses) ∷ calling ∷ []) g a0 a0 a1 (nothing_walked a0) h.walk)

  module _ (a1 : Arena) (n : Supply) (o : Begun) (h : Begins (Ok o) p here f w (wanted_if_there p here kind.Preserved f) (while_begin p here f te) a0 a1 n) where
    abbrev test_tree : Term
    test_tree = tree a1 o.terms.test.term

    test_is : test_tree ≡ x
    test_is = h.begun.known.test.term.is_tree

    rest_is : conditions_of a1 rest ≡ cs
    rest_is = (conditions_then rest h.grows within).same

    module _ (given : List Condition) (given_is : given ≡ o.behind.items) where
      given_are : conditions_of a1 given ≡ wanted_behind
      given_are = ap (conditions_of a1) given_is ∙ h.begun.behind.same

      same_uses : ways_made (negated test_tree) test_tree (conditions_of a1 given) (conditions_of a1 rest) ≡ uses
      same_uses = let t = test_is in let g = given_are in let r = rest_is in λ i. ways_made (negated (t i)) (t i) (g i) (r i)

      same_events : ways_events test_tree (conditions_of a1 given) (conditions_of a1 rest) ≡ last
      same_events =
          let t = test_is in let g = given_are in let r = rest_is in
          (λ i. ways_events (t i) (g i) (r i)) ∙ ap (λ count. one (negated x) ∷ counted count ∷ []) (sym (long_ways (negated x) x wanted_behind cs))

      module _ (r : Listed) (a2 : Arena)
          (comes : ComesTo r (ways_made (negated test_tree) test_tree (conditions_of a1 given) (conditions_of a1 rest)) (in_order (ways_events test_tree (conditions_of a1 given) (conditions_of a1 rest))) a1 a2) where
        pub turned : Comes r (made_with uses n) (in_order last) a1 a2 n
        turned =
            subst (λ (l : List (List Event)). Comes r (made_with uses n) (in_order l) a1 a2 n) same_events
            (subst (λ (l : List logic.Condition). Comes r (made_with l n) (in_order (ways_events test_tree (conditions_of a1 given) (conditions_of a1 rest))) a1 a2 n) same_uses (comes n h.begun.there))

      pub turning_stops : (r : Result Begun GenFault) (g : GenFault) (a2 : Arena) → IsErrAnd r (λ y. y ≡ g)
          → ComesTo (Err g) (ways_made (negated (tree a1 o.terms.test.term)) (tree a1 o.terms.test.term) (conditions_of a1 given) (conditions_of a1 rest)) (in_order (ways_events (tree a1 o.terms.test.term) (conditions_of a1 given) (conditions_of a1 rest))) a1 a2
          → Begins r p here f w (before_calls here w.calls (repeat_uses p here f w.term (conditions_of a0 rest))) (repeat_begin p here f te w (conditions_of a0 rest)) a0 a2 n
      turning_stops r g a2 is comes =
          let k = turned (Err g) a2 comes in
          begins_not p here f w goal all n r g is (Extends-trans h.grows k.grows) (stopped_among (while_begin p here f te) last (calling ∷ []) g a0 a1 a2 h.walk k.walk)

      module _ (a2 : Arena) (v : Pending)
          (comes : ComesTo (Ok v) (ways_made (negated (tree a1 o.terms.test.term)) (tree a1 o.terms.test.term) (conditions_of a1 given) (conditions_of a1 rest)) (in_order (ways_events (tree a1 o.terms.test.term) (conditions_of a1 given) (conditions_of a1 rest))) a1 a2) where
        k : Comes (Ok v) (made_with uses n) (in_order last) a1 a2 n
        k = turned (Ok v) a2 comes

        known_then : AreLoopTerms a2 p here o.terms w f
        known_then = AreLoopTerms-Extends p here o.terms w f k.grows h.begun.known

        walked : Walked (in_order (te ∷ one_if_there (annotation_term p here f) ∷ one (negated x) ∷ counted (length uses) ∷ [])) a0 a2
        walked = went_on (while_begin p here f te) last h.walk k.walk

        called : (r : Listed) → PutsInFront r here o.terms.test v.items → Comes r (made_with goal n) calling a2 a2 n
        called r puts = puts a2 w.calls uses known_then.test.calls k.made.conditions n k.made.there

        pub calling_stops : (r : Result Begun GenFault) (g : GenFault) → IsErrAnd r (λ y. y ≡ g) → PutsInFront (Err g) here o.terms.test v.items
            → Begins r p here f w (before_calls here w.calls (repeat_uses p here f w.term (conditions_of a0 rest))) (repeat_begin p here f te w (conditions_of a0 rest)) a0 a2 n
        calling_stops r g is puts =
            let j = called (Err g) puts in
            begins_not p here f w goal all n r g is (Extends-trans h.grows k.grows)
            (stopped_at (te ∷ one_if_there (annotation_term p here f) ∷ one (negated x) ∷ counted (length uses) ∷ []) calling [] g a0 a2 a2 walked j.walk)

        pub repeat_begins : (made : Begun) (u : Pending) → made.terms ≡ o.terms → made.behind.items ≡ u.items → PutsInFront (Ok u) here o.terms.test v.items
            → Begins (Ok made) p here f w (before_calls here w.calls (repeat_uses p here f w.term (conditions_of a0 rest))) (repeat_begin p here f te w (conditions_of a0 rest)) a0 a2 n
        repeat_begins made u terms_are items_are puts =
            let j = called (Ok u) puts in
            record {
              grows = Extends-trans h.grows k.grows;
              walk = went (te ∷ one_if_there (annotation_term p here f) ∷ one (negated x) ∷ counted (length uses) ∷ []) calling walked j.walk;
              begun = record {
                known = subst (λ (t : LoopTerms). AreLoopTerms a2 p here t w f) (sym terms_are) known_then;
                behind = subst (λ (l : List Condition). AreThese a2 l goal) (sym items_are) j.made.conditions;
                supply = h.begun.supply;
                there = k.made.there;
              };
            }
