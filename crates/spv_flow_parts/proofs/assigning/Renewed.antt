-- The conditions before NEW, behind what was made for it.
use Rattle.std.proofs.Common.{◌≡◌, ℕ, ◌<◌, true, ◌&&◌, nat_lt, length, List, [], ◌∷◌, Option, Some, None, Ok, Err, IfOk, IsErrAnd, refl, sym, ap, subst, ◌∙◌, arith}
use Rattle.std.proofs.lemmas.Bool.{false≢true}
use Rattle.std.proofs.lemmas.Bool.Decides.{nat_tests}
use Rattle.spv_logic.proofs.list.Tests.{left_true, right_true}
use Rattle.spv_logic.specs.declared.conditions.TermId.{TermId}
use Rattle.spv_logic.specs.declared.conditions.RoutineId.{RoutineId}
use Rattle.spv_logic.specs.declared.types.Sort.TheVariants as sort
use Rattle.spv_logic.specs.declared.types.Shape.{Shape}
use Rattle.spv_logic.specs.declared.types.TypeId.{TypeId}
use Rattle.spv_logic.specs.Sorts.{sort_in_range}
use Rattle.spv_logic.specs.Terms.{Term}
use Rattle.spv_logic.specs.Conditions as logic
use Rattle.spv_term.specs.declared.nodes.Condition.{Condition}
use Rattle.spv_term.specs.Arena.{Arena, Extends, tree}
use Rattle.spv_term.proofs.ArenaLemmas.{Extends-trans}
use Rattle.spv_program.specs.Types.{form_at, forms_ok, sort_of, target_of, type_exists}
use Rattle.spv_program.specs.Programs.{Program, routine_in, shapes}
use Rattle.spv_program.specs.Expressions.{Designator}
use Rattle.spv_program.specs.ExpressionTypes.{designator_type, may_write}
use Rattle.spv_program.specs.ExpressionTerms.{Placed, placed}
use Rattle.spv_program.specs.Places as place
use Rattle.spv_program.specs.Statements.{New}
use Rattle.spv_program.specs.Supplies.{Fresh, Supply, fresh_variable}
use Rattle.spv_program.specs.Terms.{alone}
use Rattle.spv_program.specs.Typing.{declarations_ok, is_type, leads_to}
use Rattle.spv_program.proofs.ExpressionSorting.{same_types, target_there}
use Rattle.spv_expression_terms.proofs.makeable_terms.Ranges.{form_is_right, shape_there, sort_there, target_exists}
use Rattle.spv_assign.specs.declared.pending.pending.Pending.{Pending}
use Rattle.spv_assign.specs.supply.Numbers.{AreThere}
use Rattle.spv_assign.specs.Conditions.{AreIn, conditions_of}
use Rattle.spv_assign.proofs.Growing.{conditions_of-Extends}
use Rattle.spv_meaning.specs.Before.{Made, before, before_calls, before_creation, first_name, title_of}
use Rattle.spv_assign.specs.declared.creation_trace.faults.GenFault.{GenFault}
use Rattle.spv_assign.specs.creation_trace.Events.{Answers, Event, Walked, Stops}
use Rattle.spv_assign.specs.creation_trace.StatementEvents.{in_order, one, several}
use Rattle.spv_assign.proofs.creation_trace.Walks.{nothing_walked}
use Rattle.spv_assign.proofs.limited_steps.Renamings.{stops_at_one, stops_at_two, walked_two}
use Rattle.spv_assign.specs.declared.structures.places.Target.{Target}
use Rattle.spv_assign.specs.structures.Targets.{target_in}
use Rattle.spv_flow_parts.specs.Walks.{AreThese, Comes, ComesTo, IsMade, Listed, made_of}
use Rattle.spv_flow_parts.specs.leaves.Values.{call_events}
use Rattle.spv_flow_parts.specs.calls.Events.{place_events}
use Rattle.spv_flow_parts.specs.assigning.Events.{creation_events, new_events}
use Rattle.spv_flow_parts.proofs.Steps.{comes_as, comes_last, exit, went}

-- ---- a well typed NEW

pub record IsCreation (p : Program) (here : Option RoutineId) (d : Designator) (t : TypeId) : Type 0 where
  pub of : TypeId
  pub typed : designator_type p (routine_in p here) d ≡ Some of
  pub pointer : sort_of p.forms of ≡ sort.Ptr t
  pub exists : type_exists p.forms t ≡ true

pub is_creation : (p : Program) (here : Option RoutineId) (d : Designator) (t : TypeId) → declarations_ok p ≡ true → (may_write (routine_in p here) d && leads_to p t (designator_type p (routine_in p here) d)) ≡ true → IsCreation p here d t
is_creation p here d t declared h = by (designator_type p (routine_in p here) d) refl (right_true (may_write (routine_in p here) d) _ h)
  where
    by : (o : Option TypeId) → designator_type p (routine_in p here) d ≡ o → leads_to p t o ≡ true → IsCreation p here d t
    by None is h = absurd (false≢true h)
    by (Some q) is h = by_target (target_of (form_at p.forms q.0)) refl h
      where
        by_target : (o : Option TypeId) → target_of (form_at p.forms q.0) ≡ o → is_type t o ≡ true → IsCreation p here d t
        by_target None leads h = absurd (false≢true h)
        by_target (Some u) leads h =
            let same : t ≡ u = same_types t u h in
            record {
              of = q;
              typed = is;
              pointer = target_there (form_at p.forms q.0) q u leads ∙ ap sort.Ptr (sym same);
              exists = ap (type_exists p.forms) same ∙ target_exists p.forms (form_at p.forms q.0) u (form_is_right p.forms q.0 (left_true (forms_ok p.forms) _ declared)) leads;
            }

-- ---- the conditions

module _ (p : Program) (here : Option RoutineId) (line : ℕ) (d : Designator) (t : TypeId) (n : Supply) (a : Arena) (rest : List Condition) (within : AreIn a rest) where
  abbrev cs : List logic.Condition
  cs = conditions_of a rest

  abbrev to : Placed
  to = placed p (routine_in p here) n d

  abbrev pointer : Fresh
  pointer = fresh_variable (first_name d) (sort.Ptr t) to.supply

  abbrev content : Fresh
  content = fresh_variable (title_of p t) (sort_of p.forms t) pointer.supply

  abbrev created : List logic.Condition
  created = before_creation t to.target (alone pointer.head) (alone content.head) cs

  abbrev so : Made
  so = before p here (New line d t) (made_of a rest n)

  abbrev all : List Event
  all = new_events p here d t (made_of a rest n)

  abbrev e1 : List Event
  e1 = place_events p (routine_in p here) n d

  abbrev e2 : List Event
  e2 = several (alone pointer.head ∷ alone content.head ∷ [])

  abbrev e3 : List Event
  e3 = creation_events t to.target (alone pointer.head) (alone content.head) cs

  abbrev e4 : List Event
  e4 = call_events here to.calls created

  pub new_place_stops : (o : Listed) (f : GenFault) (b : Arena) (m : Supply) → IsErrAnd o (λ g. g ≡ f) → Extends a b → Stops f e1 a b → Comes o so all a b m
  new_place_stops o f b m is grows stops = exit o f so m [] e1 (e2 ∷ e3 ∷ e4 ∷ []) is (nothing_walked a) grows stops

  module _ (b : Arena) (walked1 : Walked e1 a b) where
    w1 : Walked (in_order (e1 ∷ [])) a b
    w1 = went [] e1 (nothing_walked a) walked1

    pub pointer_stops : (q : Fresh) → q ≡ pointer → (o : Listed) (f : GenFault) (c : Arena) (m : Supply) → IsErrAnd o (λ g. g ≡ f) → Extends b c → Stops f (one (alone q.head)) b c → Comes o so all a c m
    pointer_stops q same o f c m is grows stops =
        exit o f so m (e1 ∷ []) e2 (e3 ∷ e4 ∷ []) is w1 grows (stops_at_one (alone pointer.head) (alone content.head) f b c (subst (λ (x : Fresh). Stops f (one (alone x.head)) b c) same stops))

    module _ (q : Fresh) (same : q ≡ pointer) (c : Arena) (q_walked : Walked (one (alone q.head)) b c) where
      pub content_stops : (r : Fresh) → r ≡ content → (o : Listed) (f : GenFault) (k : Arena) (m : Supply) → IsErrAnd o (λ g. g ≡ f) → Extends c k → Stops f (one (alone r.head)) c k → Comes o so all a k m
      content_stops r equal o f k m is grows stops =
          exit o f so m (e1 ∷ []) e2 (e3 ∷ e4 ∷ []) is w1 (Extends-trans q_walked.grows grows)
          (stops_at_two (alone pointer.head) (alone content.head) f b c k (subst (λ (x : Fresh). Walked (one (alone x.head)) b c) same q_walked) (subst (λ (x : Fresh). Stops f (one (alone x.head)) c k) equal stops))

      module _ (r : Fresh) (equal : r ≡ content) (k : Arena) (r_walked : Walked (one (alone r.head)) c k) (m : Supply) (supply : m ≡ r.supply) (there : AreThere k m) (x : Target) (target_is : target_in k x ≡ to.target) (s u : TermId) (s_is : tree k s ≡ alone q.head) (u_is : tree k u ≡ alone r.head) where
        w2 : Walked (in_order (e1 ∷ e2 ∷ [])) a k
        w2 = went (e1 ∷ []) e2 w1 (walked_two (alone pointer.head) (alone content.head) b c k (subst (λ (y : Fresh). Walked (one (alone y.head)) b c) same q_walked) (subst (λ (y : Fresh). Walked (one (alone y.head)) c k) equal r_walked))

        more : Extends a k
        more = Extends-trans walked1.grows (Extends-trans q_walked.grows r_walked.grows)

        created_is : (P : List logic.Condition → List Event → Type 0) → P (before_creation t (target_in k x) (tree k s) (tree k u) (conditions_of k rest)) (creation_events t (target_in k x) (tree k s) (tree k u) (conditions_of k rest)) → P created e3
        created_is P h =
            subst (λ (l : List logic.Condition). P (before_creation t to.target (alone pointer.head) (alone content.head) l) (creation_events t to.target (alone pointer.head) (alone content.head) l)) (conditions_of-Extends more rest within)
            (subst (λ (y : Term). P (before_creation t to.target (alone pointer.head) y (conditions_of k rest)) (creation_events t to.target (alone pointer.head) y (conditions_of k rest))) (u_is ∙ ap (λ (z : Fresh). alone z.head) equal)
            (subst (λ (y : Term). P (before_creation t to.target y (tree k u) (conditions_of k rest)) (creation_events t to.target y (tree k u) (conditions_of k rest))) (s_is ∙ ap (λ (z : Fresh). alone z.head) same)
            (subst (λ (g : place.Target). P (before_creation t g (tree k s) (tree k u) (conditions_of k rest)) (creation_events t g (tree k s) (tree k u) (conditions_of k rest))) target_is h)))

        module _ (z : Listed) (j : Arena) (comes : ComesTo z (before_creation t (target_in k x) (tree k s) (tree k u) (conditions_of k rest)) (creation_events t (target_in k x) (tree k s) (tree k u) (conditions_of k rest)) k j) where
          come : Comes z (record { conditions = created; supply = m }) e3 k j m
          come = created_is (λ l es. Comes z (record { conditions = l; supply = m }) es k j m) (comes m there)

          pub creation_stops : (o : Listed) (f : GenFault) → IsErrAnd o (λ g. g ≡ f) → z ≡ Err f → Comes o so all a j m
          creation_stops o f is failed = exit o f so m (e1 ∷ e2 ∷ []) e3 (e4 ∷ []) is w2 come.grows (subst (λ (y : Listed). Answers y e3 k j) failed come.walk)

          pub renewed : (v : Pending) → z ≡ Ok v → (o : Listed) → (Extends b j → AreThese j v.items created → ComesTo o (before_calls here to.calls created) e4 j j) → Comes o so all a j m
          renewed v is o front =
              let made = subst (λ (y : Listed). IfOk y (λ l. IsMade j m l.items (record { conditions = created; supply = m }))) is come.made in
              comes_last o so m (e1 ∷ e2 ∷ e3 ∷ []) e4 (went (e1 ∷ e2 ∷ []) e3 w2 (subst (λ (y : Listed). Answers y e3 k j) is come.walk))
              (comes_as so m o (record { conditions = before_calls here to.calls created; supply = m }) e4 e4
              (let e = supply ∙ ap (λ (y : Fresh). y.supply) equal in λ i. record { conditions = before_calls here to.calls created; supply = e i }) refl
              (front (Extends-trans (Extends-trans q_walked.grows r_walked.grows) come.grows) made.conditions m made.there))

-- ---- types

pub type_there : (p : Program) (t : TypeId) (ss : List Shape) → ss ≡ shapes p → type_exists p.forms t ≡ true → t.0 < length ss
type_there p t ss same e =
    let below : nat_lt t.0 (length ss) ≡ true = ap (λ (s : List Shape). nat_lt t.0 (length s)) same ∙ shape_there p.forms t e in
    grind (arith, nat_tests)

pub pointer_there : (p : Program) (t : TypeId) (ss : List Shape) → ss ≡ shapes p → type_exists p.forms t ≡ true → sort_in_range ss (sort.Ptr t) ≡ true
pointer_there p t ss same e = ap (λ (s : List Shape). nat_lt t.0 (length s)) same ∙ shape_there p.forms t e

pub content_there : (p : Program) (t : TypeId) (ss : List Shape) → ss ≡ shapes p → declarations_ok p ≡ true → type_exists p.forms t ≡ true → sort_in_range ss (sort_of p.forms t) ≡ true
content_there p t ss same declared e = ap (λ (s : List Shape). sort_in_range s (sort_of p.forms t)) same ∙ sort_there p.forms t (left_true (forms_ok p.forms) _ declared) e
