-- The conditions before an assignment, behind what was made for it.
use Rattle.std.proofs.Common.{◌≡◌, true, ◌&&◌, List, [], ◌∷◌, Option, Some, None, Ok, Err, IfOk, IsErrAnd, refl, sym, ap, subst, ◌∙◌}
use Rattle.std.proofs.lemmas.Bool.{false≢true}
use Rattle.spv_logic.proofs.list.Tests.{right_true}
use Rattle.spv_logic.proofs.Equality.{sort_eq-true}
use Rattle.spv_logic.specs.declared.conditions.TermId.{TermId}
use Rattle.spv_logic.specs.declared.conditions.RoutineId.{RoutineId}
use Rattle.spv_logic.specs.declared.operators.Head.{Head}
use Rattle.spv_logic.specs.declared.types.Sort.{Sort}
use Rattle.spv_logic.specs.declared.types.TypeId.{TypeId}
use Rattle.spv_logic.specs.Sorts.{term_sort}
use Rattle.spv_logic.specs.Terms.{Term}
use Rattle.spv_logic.specs.Conditions as logic
use Rattle.spv_term.specs.declared.nodes.Condition.{Condition}
use Rattle.spv_term.specs.Arena.{Arena, Extends, tree}
use Rattle.spv_term.proofs.ArenaLemmas.{Extends-trans}
use Rattle.spv_term.specs.substitution.Images.{head_at}
use Rattle.spv_program.specs.Types.{sort_of}
use Rattle.spv_program.specs.Programs.{Program, routine_in, shapes}
use Rattle.spv_program.specs.Expressions.{Designator, Expression}
use Rattle.spv_program.specs.ExpressionTypes.{designator_type, expression_sort, may_write, sort_of_type}
use Rattle.spv_program.specs.ExpressionTerms.{Placed, Valued, placed, valued}
use Rattle.spv_program.specs.FormulaTypes.{same_sort}
use Rattle.spv_program.specs.Places as place
use Rattle.spv_program.specs.Places.{present, whole_with}
use Rattle.spv_program.specs.Statements.{Assign}
use Rattle.spv_program.specs.Supplies.{Supply}
use Rattle.spv_program.proofs.ExpressionSorting.{place_sorted}
use Rattle.spv_assign.specs.declared.pending.pending.Pending.{Pending}
use Rattle.spv_assign.specs.supply.Numbers.{AreThere}
use Rattle.spv_assign.specs.Conditions.{AreIn, conditions_of}
use Rattle.spv_assign.proofs.Growing.{conditions_of-Extends}
use Rattle.spv_meaning.specs.Before.{Made, before, before_calls, replaced}
use Rattle.spv_assign.specs.declared.creation_trace.faults.GenFault.{GenFault}
use Rattle.spv_assign.specs.creation_trace.Events.{Answers, Event, Walked, Stops}
use Rattle.spv_assign.specs.creation_trace.StatementEvents.{in_order, replacing_events}
use Rattle.spv_assign.proofs.creation_trace.Walks.{nothing_walked}
use Rattle.spv_assign.specs.declared.structures.places.Target.{Target}
use Rattle.spv_assign.specs.structures.Targets.{target_in}
use Rattle.spv_flow_parts.specs.Walks.{AreThese, Comes, ComesTo, IsMade, Listed, made_of}
use Rattle.spv_flow_parts.specs.leaves.Values.{call_events}
use Rattle.spv_flow_parts.specs.calls.Events.{place_events, value_events}
use Rattle.spv_flow_parts.specs.assigning.Events.{assign_events}
use Rattle.spv_flow_parts.proofs.Steps.{comes_as, comes_last, exit, went}
use Rattle.spv_flow_parts.proofs.leaves.InFront.{calls_both}

-- ---- a well typed assignment

pub record IsAssignment (p : Program) (here : Option RoutineId) (d : Designator) (e : Expression) : Type 0 where
  pub of : TypeId
  pub typed : designator_type p (routine_in p here) d ≡ Some of
  pub sorted : expression_sort p (routine_in p here) e ≡ Some (sort_of p.forms of)

pub is_assignment : (p : Program) (here : Option RoutineId) (d : Designator) (e : Expression) → (may_write (routine_in p here) d && same_sort (sort_of_type p (designator_type p (routine_in p here) d)) (expression_sort p (routine_in p here) e)) ≡ true → IsAssignment p here d e
is_assignment p here d e h = by (designator_type p (routine_in p here) d) (expression_sort p (routine_in p here) e) refl refl (right_true (may_write (routine_in p here) d) _ h)
  where
    by : (o : Option TypeId) (s : Option Sort) → designator_type p (routine_in p here) d ≡ o → expression_sort p (routine_in p here) e ≡ s → same_sort (sort_of_type p o) s ≡ true → IsAssignment p here d e
    by None s is so h = absurd (false≢true h)
    by (Some t) None is so h = absurd (false≢true h)
    by (Some t) (Some s) is so h = record { of = t; typed = is; sorted = so ∙ ap Some (sort_eq-true s (sort_of p.forms t) h) }

-- ---- the conditions

module _ (p : Program) (here : Option RoutineId) (d : Designator) (e : Expression) (n : Supply) (a : Arena) (rest : List Condition) (within : AreIn a rest) where
  abbrev cs : List logic.Condition
  cs = conditions_of a rest

  abbrev to : Placed
  to = placed p (routine_in p here) n d

  abbrev v : Valued
  v = valued p (routine_in p here) to.supply e

  abbrev pairs : List (Head × Term)
  pairs = (to.target.root, whole_with to.target v.term) ∷ []

  abbrev changed : List logic.Condition
  changed = replaced pairs cs

  abbrev so : Made
  so = before p here (Assign d e) (made_of a rest n)

  abbrev all : List Event
  all = assign_events p here d e (made_of a rest n)

  abbrev e1 : List Event
  e1 = place_events p (routine_in p here) n d

  abbrev e2 : List Event
  e2 = value_events p (routine_in p here) to.supply e

  abbrev e3 : List Event
  e3 = replacing_events pairs cs

  abbrev e4 : List Event
  e4 = call_events here v.calls changed

  abbrev e5 : List Event
  e5 = call_events here to.calls (before_calls here v.calls changed)

  pub place_stops : (o : Listed) (f : GenFault) (b : Arena) (m : Supply) → IsErrAnd o (λ g. g ≡ f) → Extends a b → Stops f e1 a b → Comes o so all a b m
  place_stops o f b m is grows stops = exit o f so m [] e1 (e2 ∷ e3 ∷ e4 ∷ e5 ∷ []) is (nothing_walked a) grows stops

  module _ (b : Arena) (walked1 : Walked e1 a b) where
    pub value_stops : (o : Listed) (f : GenFault) (c : Arena) (m : Supply) → IsErrAnd o (λ g. g ≡ f) → Extends b c → Stops f (value_events p (routine_in p here) to.supply e) b c → Comes o so all a c m
    value_stops o f c m is grows stops = exit o f so m (e1 ∷ []) e2 (e3 ∷ e4 ∷ e5 ∷ []) is (went [] e1 (nothing_walked a) walked1) grows stops

    module _ (c : Arena) (m : Supply) (walked2 : Walked e2 b c) (supply : m ≡ v.supply) (there : AreThere c m) (d' : Target) (t : TermId) (target_is : target_in c d' ≡ to.target) (term_is : tree c t ≡ v.term) where
      w2 : Walked (in_order (e1 ∷ e2 ∷ [])) a c
      w2 = went (e1 ∷ []) e2 (went [] e1 (nothing_walked a) walked1) walked2

      more : Extends a c
      more = Extends-trans walked1.grows walked2.grows

      put_is : (P : List (Head × Term) → List logic.Condition → Type 0) → P ((head_at c d'.root, whole_with (target_in c d') (tree c t)) ∷ []) (conditions_of c rest) → P pairs cs
      put_is P h =
          subst (λ (l : List logic.Condition). P pairs l) (conditions_of-Extends more rest within)
          (subst (λ (x : Term). P ((to.target.root, whole_with to.target x) ∷ []) (conditions_of c rest)) term_is
          (subst (λ (g : place.Target). P ((g.root, whole_with g (tree c t)) ∷ []) (conditions_of c rest)) target_is h))

      module _ (x : Listed) (k : Arena) (comes : ComesTo x (replaced ((head_at c d'.root, whole_with (target_in c d') (tree c t)) ∷ []) (conditions_of c rest)) (replacing_events ((head_at c d'.root, whole_with (target_in c d') (tree c t)) ∷ []) (conditions_of c rest)) c k) where
        put : Comes x (record { conditions = changed; supply = m }) e3 c k m
        put = put_is (λ ps l. Comes x (record { conditions = replaced ps l; supply = m }) (replacing_events ps l) c k m) (comes m there)

        pub put_stops : (o : Listed) (f : GenFault) → IsErrAnd o (λ g. g ≡ f) → x ≡ Err f → Comes o so all a k m
        put_stops o f is failed = exit o f so m (e1 ∷ e2 ∷ []) e3 (e4 ∷ e5 ∷ []) is w2 put.grows (subst (λ (y : Listed). Answers y e3 c k) failed put.walk)

        module _ (cv : Pending) (is_ok : x ≡ Ok cv) where
          put_made : IsMade k m cv.items (record { conditions = changed; supply = m })
          put_made = subst (λ (y : Listed). IfOk y (λ l. IsMade k m l.items (record { conditions = changed; supply = m }))) is_ok put.made

          w3 : Walked (in_order (e1 ∷ e2 ∷ e3 ∷ [])) a k
          w3 = went (e1 ∷ e2 ∷ []) e3 w2 (subst (λ (y : Listed). Answers y e3 c k) is_ok put.walk)

          module _ (z : Listed) (front : Extends c k → AreThese k cv.items changed → ComesTo z (before_calls here v.calls changed) e4 k k) where
            fronted : Comes z (record { conditions = before_calls here v.calls changed; supply = m }) e4 k k m
            fronted = front put.grows put_made.conditions m put_made.there

            pub front_stops : (o : Listed) (f : GenFault) → IsErrAnd o (λ g. g ≡ f) → z ≡ Err f → Comes o so all a k m
            front_stops o f is failed = exit o f so m (e1 ∷ e2 ∷ e3 ∷ []) e4 (e5 ∷ []) is w3 fronted.grows (subst (λ (y : Listed). Answers y e4 k k) failed fronted.walk)

            pub assigned : (cw : Pending) → z ≡ Ok cw → (o : Listed)
                → (Extends b k → AreThese k cw.items (before_calls here v.calls changed) → ComesTo o (before_calls here to.calls (before_calls here v.calls changed)) e5 k k)
                → Comes o so all a k m
            assigned cw is o last =
                let made = subst (λ (y : Listed). IfOk y (λ l. IsMade k m l.items (record { conditions = before_calls here v.calls changed; supply = m }))) is fronted.made in
                let w4 = went (e1 ∷ e2 ∷ e3 ∷ []) e4 w3 (subst (λ (y : Listed). Answers y e4 k k) is fronted.walk) in
                comes_last o so m (e1 ∷ e2 ∷ e3 ∷ e4 ∷ []) e5 w4
                (comes_as so m o (record { conditions = before_calls here to.calls (before_calls here v.calls changed); supply = m }) e5 e5
                (let s = supply in let both = sym (calls_both here to.calls v.calls changed) in λ i. record { conditions = both i; supply = s i }) refl
                (last (Extends-trans walked2.grows put.grows) made.conditions m made.there))

-- what stands at a well typed place has the sort of its type
pub place_has : (p : Program) (here : Option RoutineId) (d : Designator) (n : Supply) (t : TypeId) (a : Arena) → a.shapes ≡ shapes p → a.decls ≡ p.symbols → (x : Target) → target_in a x ≡ (placed p (routine_in p here) n d).target → designator_type p (routine_in p here) d ≡ Some t
    → term_sort a.shapes a.decls (present (target_in a x)) ≡ Some (sort_of p.forms t)
place_has p here d n t a shapes_are decls_are x is typed = (λ i. term_sort (shapes_are i) (decls_are i) (present (is i))) ∙ place_sorted p (routine_in p here) n d t typed
