-- The steps to a place, one after the other.
use Rattle.std.proofs.Common.{◌≡◌, ◌<◌, ℕ, true, List, [], ◌∷◌, ◌++◌, Result, Ok, Err, IsErrAnd, Option, Some, None, option_map, refl, sym, ap, subst, ◌∙◌, arith}
use Rattle.std.proofs.lemmas.List.{append_assoc, append-nil}
use Rattle.spv_logic.specs.declared.names.names.Symbol.{Symbol}
use Rattle.spv_logic.specs.declared.operators.Head.{Head}
use Rattle.spv_logic.specs.declared.operators.Head.TheVariants as head
use Rattle.spv_logic.specs.Terms.{Term}
use Rattle.spv_logic.specs.declared.types.Sort.{Sort}
use Rattle.spv_logic.specs.Sorts.{head_in_range, sort_in_range, term_sort}
use Rattle.spv_term.specs.Arena.{Arena, Extends}
use Rattle.spv_term.proofs.ArenaLemmas.{Extends-trans}
use Rattle.spv_program.specs.Lists.{found}
use Rattle.spv_program.specs.Types.{sort_of}
use Rattle.spv_program.specs.declared.types.Item.TheVariants.{Variable}
use Rattle.spv_program.specs.declared.typed.expressions.Selector.{Selector}
use Rattle.spv_program.specs.declared.typed.expressions.Selector.TheVariants as selector
use Rattle.spv_program.specs.Expressions.{Designator, Selectors, designator, no_selectors, at_index, at_field, at_cell}
use Rattle.spv_program.specs.Programs.{Routine, Program, shapes, routine_in}
use Rattle.spv_program.specs.Scopes.{name_type, sort_or_int}
use Rattle.spv_program.specs.Places.{Target, ToElement, ToField, further, cell_behind, part, present}
use Rattle.spv_program.specs.Supplies.{Supply}
use Rattle.spv_program.specs.Terms.{alone, binary, item_head, name_in}
use Rattle.spv_program.specs.ExpressionTypes.{selected_type}
use Rattle.spv_program.specs.ExpressionTerms.{Called, Placed, to_element, to_field, to_cell, read_at, valued, placed, selected}
use Rattle.spv_program.specs.typed.ExpressionViews.{selector_before, selectors_of}
use Rattle.spv_program.specs.typed.Model.ExpressionSizes.{designator_size, selectors_size}
use Rattle.spv_program.proofs.SortFacts.{behind}
use Rattle.spv_program.proofs.ExpressionSorting.{selected_sorted}
use Rattle.spv_expression_terms.proofs.makeable_terms.Scopes.{variable_there}
use Rattle.spv_assign.specs.declared.creation_trace.faults.GenFault.{GenFault}
use Rattle.spv_assign.specs.declared.structures.places.Target as code_target
use Rattle.spv_assign.specs.creation_trace.Events.{Event, HasTerms, Walked, Stops, terms_of}
use Rattle.spv_assign.specs.creation_trace.StatementEvents.{one}
use Rattle.spv_assign.specs.structures.Targets.{target_in}
use Rattle.spv_assign.proofs.creation_trace.Covering.{AreCovered, covered_one}
use Rattle.spv_assign.proofs.creation_trace.Walks.{terms_of_both, has_both, walked_behind, stopped_behind}
use Rattle.spv_assign.proofs.limited_steps.Limits.{second_covered, same_stop}
use Rattle.spv_assign.proofs.structures.Paths.{structure_in}
use Rattle.spv_assign.proofs.supply.FreshLemmas.{AreThere-Extends}
use Rattle.spv_flow_parts.specs.declared.bodies.Body.{Body}
use Rattle.spv_flow_parts.specs.declared.leaves.valued.Called as code_called
use Rattle.spv_flow_parts.specs.declared.calls.places.Way.{Way}
use Rattle.spv_flow_parts.specs.leaves.Values.{AreCalls}
use Rattle.spv_flow_parts.specs.calls.Arguments.{AddsPlace, AddsStep, AreSteps, IsPlace, IsWay, MayMake, placed_at}
use Rattle.spv_flow_parts.specs.calls.Events.{calls_in_value, calls_in_selectors, place_events, step_events}
use Rattle.spv_flow_parts.proofs.leaves.InFront.{AreCalls-Extends}
use Rattle.spv_flow_parts.proofs.calls.Filling.{head_is}
use Rattle.spv_flow_parts.proofs.calls.MadeEvents.{selectors_told, selectors_alone}
use Rattle.spv_flow_parts.proofs.calls.Retold.{HaveNoLists, no_lists_both, covered_self, covered_in_turn, covered_first, covered_behind, covered_both, retold_stops, retold_walk, has_first, has_behind}
use Rattle.spv_flow_parts.proofs.calls.SoFar.{StepsSoFar, reached}
use Rattle.spv_flow_parts.proofs.calls.Typed.{FirstOf, first_of_selectors}
use Rattle.spv_flow_parts.proofs.calls.Ways.{present_further}

-- ---- terms of events

abbrev pub Covers : List Event → List Event → Type 0
Covers xs ys = AreCovered (terms_of xs) (terms_of ys)

pub covers_both : (xs ys zs : List Event) → Covers xs zs → Covers ys zs → Covers (xs ++ ys) zs
covers_both xs ys zs h k = subst (λ (l : List Term). AreCovered l (terms_of zs)) (sym (terms_of_both xs ys)) (covered_both (terms_of xs) (terms_of ys) (terms_of zs) h k)

pub covers_first : (xs ys : List Event) → Covers xs (xs ++ ys)
covers_first xs ys = subst (λ (l : List Term). AreCovered (terms_of xs) l) (sym (terms_of_both xs ys)) (covered_first (terms_of xs) (terms_of ys))

pub covers_behind : (xs ys : List Event) → Covers ys (xs ++ ys)
covers_behind xs ys = subst (λ (l : List Term). AreCovered (terms_of ys) l) (sym (terms_of_both xs ys)) (covered_behind (terms_of xs) (terms_of ys))

pub covers_in_turn : (xs ys zs : List Event) → Covers xs ys → Covers ys zs → Covers xs zs
covers_in_turn xs ys zs h k = covered_in_turn (terms_of xs) (terms_of ys) (terms_of zs) h k

has_events_both : (a : Arena) (xs ys : List Event) → HasTerms a (terms_of xs) → HasTerms a (terms_of ys) → HasTerms a (terms_of (xs ++ ys))
has_events_both a xs ys h k = subst (HasTerms a) (sym (terms_of_both xs ys)) (has_both a (terms_of xs) (terms_of ys) h k)

has_events_first : (a : Arena) (xs ys : List Event) → HasTerms a (terms_of (xs ++ ys)) → HasTerms a (terms_of xs)
has_events_first a xs ys h = has_first a (terms_of xs) (terms_of ys) (subst (HasTerms a) (terms_of_both xs ys) h)

has_events_behind : (a : Arena) (xs ys : List Event) → HasTerms a (terms_of (xs ++ ys)) → HasTerms a (terms_of ys)
has_events_behind a xs ys h = has_behind a (terms_of xs) (terms_of ys) (subst (HasTerms a) (terms_of_both xs ys) h)

-- what was made on the way to a whole is made on the way to it behind other parts
module _ (before calls : List Event) (x y : Term) (inside : AreCovered (x ∷ []) (y ∷ [])) where
  -- a term between is a part of the last one
  abbrev between : List Event
  between = (before ++ one x) ++ (calls ++ one y)

  abbrev at_end : List Event
  at_end = (before ++ calls) ++ one y

  last_there : Covers (one y) at_end
  last_there = covers_behind (before ++ calls) (one y)

  between_covered : Covers between at_end
  between_covered =
      covers_both (before ++ one x) (calls ++ one y) at_end
      (covers_both before (one x) at_end (covers_in_turn before (before ++ calls) at_end (covers_first before calls) (covers_first (before ++ calls) (one y)))
      (covers_in_turn (one x) (one y) at_end inside last_there))
      (covers_both calls (one y) at_end (covers_in_turn calls (before ++ calls) at_end (covers_behind before calls) (covers_first (before ++ calls) (one y))) last_there)

  between_has : (a : Arena) → HasTerms a (terms_of between) → HasTerms a (terms_of at_end)
  between_has a h =
      let first = has_events_first a (before ++ one x) (calls ++ one y) h in
      let rest = has_events_behind a (before ++ one x) (calls ++ one y) h in
      has_events_both a (before ++ calls) (one y) (has_events_both a before calls (has_events_first a before (one x) first) (has_events_first a calls (one y) rest)) (has_events_behind a calls (one y) rest)

  module _ (none : HaveNoLists before) (none_too : HaveNoLists calls) where
    between_alone : HaveNoLists between
    between_alone = no_lists_both (before ++ one x) (calls ++ one y) (no_lists_both before (one x) none tt) (no_lists_both calls (one y) none_too tt)

    end_alone : HaveNoLists at_end
    end_alone = no_lists_both (before ++ calls) (one y) (no_lists_both before calls none none_too) tt

    pub at_end_walked : {a b c : Arena} → Walked (before ++ one x) a b → Walked (calls ++ one y) b c → Walked at_end a c
    at_end_walked {a} {b} {c} first rest =
        let all = walked_behind (before ++ one x) (calls ++ one y) first rest in
        retold_walk between at_end between_alone end_alone between_covered a c (between_has c all.there) all

    -- where the whole has more calls and a larger term
    pub at_end_stops : (more : List Event) (z : Term) (e : GenFault) (a b c : Arena) → HaveNoLists more → AreCovered (y ∷ []) (z ∷ []) → Walked (before ++ one x) a b → Stops e (calls ++ one y) b c
        → Stops e ((before ++ (calls ++ more)) ++ one z) a c
    at_end_stops more z e a b c none_there larger first stops =
        retold_stops between whole between_alone whole_alone covered e a c (stopped_behind e (before ++ one x) (calls ++ one y) a b c first stops)
      where
        whole : List Event
        whole = (before ++ (calls ++ more)) ++ one z

        whole_alone : HaveNoLists ((before ++ (calls ++ more)) ++ one z)
        whole_alone = no_lists_both (before ++ (calls ++ more)) (one z) (no_lists_both before (calls ++ more) none (no_lists_both calls more none_too none_there)) tt

        inner : Covers (before ++ (calls ++ more)) ((before ++ (calls ++ more)) ++ one z)
        inner = covers_first (before ++ (calls ++ more)) (one z)

        end : Covers (one z) ((before ++ (calls ++ more)) ++ one z)
        end = covers_behind (before ++ (calls ++ more)) (one z)

        covered : Covers between ((before ++ (calls ++ more)) ++ one z)
        covered =
            covers_both (before ++ one x) (calls ++ one y) ((before ++ (calls ++ more)) ++ one z)
            (covers_both before (one x) ((before ++ (calls ++ more)) ++ one z) (covers_in_turn before (before ++ (calls ++ more)) ((before ++ (calls ++ more)) ++ one z) (covers_first before (calls ++ more)) inner)
            (covers_in_turn (one x) (one z) ((before ++ (calls ++ more)) ++ one z) (covered_in_turn (x ∷ []) (y ∷ []) (z ∷ []) inside larger) end))
            (covers_both calls (one y) ((before ++ (calls ++ more)) ++ one z)
            (covers_in_turn calls (calls ++ more) ((before ++ (calls ++ more)) ++ one z) (covers_first calls more) (covers_in_turn (calls ++ more) (before ++ (calls ++ more)) ((before ++ (calls ++ more)) ++ one z) (covers_behind before (calls ++ more)) inner))
            (covers_in_turn (one y) (one z) ((before ++ (calls ++ more)) ++ one z) larger end))

-- ---- what stands behind steps

pub part_inside : (d : Target) (i : Term) → AreCovered (i ∷ []) (present (further (ToElement i) d) ∷ [])
part_inside d i = subst (λ (x : Term). AreCovered (i ∷ []) (x ∷ [])) (sym (present_further d (ToElement i))) (second_covered head.Select (present d) i)

module _ (p : Program) (here : Option Routine) where
  -- what stood on the way is a part of what stands at the end
  present_inside : (d : Placed) (others : Selectors) → AreCovered (present d.target ∷ []) (present (selected p here d others).target ∷ [])
  present_inside d no_selectors = covered_self (present d.target ∷ [])
  present_inside d (at_index t e others) =
      let s = ToElement (valued p here d.supply e).term in
      covered_in_turn (present d.target ∷ []) (present (further s d.target) ∷ []) (present (selected p here (to_element d (λ m. valued p here m e)) others).target ∷ [])
      (subst (λ (x : Term). AreCovered (present d.target ∷ []) (x ∷ [])) (sym (present_further d.target s)) (covered_one (present d.target) (part (present d.target) s) (structure_in (present d.target) (s ∷ []))))
      (present_inside (to_element d (λ m. valued p here m e)) others)
  present_inside d (at_field t f others) =
      covered_in_turn (present d.target ∷ []) (present (further (ToField f) d.target) ∷ []) (present (selected p here (to_field f d) others).target ∷ [])
      (subst (λ (x : Term). AreCovered (present d.target ∷ []) (x ∷ [])) (sym (present_further d.target (ToField f)))
      (covered_one (present d.target) (part (present d.target) (ToField f)) (structure_in (present d.target) (ToField f ∷ []))))
      (present_inside (to_field f d) others)
  present_inside d (at_cell line t others) =
      covered_in_turn (present d.target ∷ []) (binary head.Cell (alone (head.ClassVar t 0)) (present d.target) ∷ []) (present (selected p here (to_cell t (read_at d)) others).target ∷ [])
      (second_covered head.Cell (alone (head.ClassVar t 0)) (present d.target)) (present_inside (to_cell t (read_at d)) others)

  -- which calls there were before does not matter
  calls_as : (d : Placed) (others : Selectors) → calls_in_selectors p here d others ≡ calls_in_selectors p here (placed_at d.target d.supply) others
  calls_as d others = selectors_told p here d others ∙ sym (selectors_told p here (placed_at d.target d.supply) others)

  module _ (t : Target) (m : Supply) where
    abbrev after_one : Selector → Placed
    after_one s = selected p here (placed_at t m) (selector_before s no_selectors)

    abbrev calls_of : Selector → List Event
    calls_of s = calls_in_selectors p here (placed_at t m) (selector_before s no_selectors)

    calls_first : (s : Selector) (rest : Selectors) → calls_in_selectors p here (placed_at t m) (selector_before s rest) ≡ calls_of s ++ calls_in_selectors p here (placed_at (after_one s).target (after_one s).supply) rest
    calls_first (selector.Index u e) rest =
        let next = to_element (placed_at t m) (λ k. valued p here k e.value) in
        ap (λ (l : List Event). calls_in_value p here m e.value ++ l) (calls_as next rest)
        ∙ ap (λ (l : List Event). l ++ calls_in_selectors p here (placed_at next.target next.supply) rest) (sym (append-nil (calls_in_value p here m e.value)))
    calls_first (selector.Field u f) rest = calls_as (to_field f (placed_at t m)) rest
    calls_first (selector.Cell line u) rest = calls_as (to_cell u (read_at (placed_at t m))) rest

    selected_first : (made : List Called) (s : Selector) (rest : Selectors) → selected p here (reached t made m) (selector_before s rest) ≡ selected p here (reached (after_one s).target (made ++ (after_one s).calls) (after_one s).supply) rest
    selected_first made (selector.Index u e) rest = refl
    selected_first made (selector.Field u f) rest = ap (λ (l : List Called). selected p here (reached (further (ToField f) t) l m) rest) (sym (append-nil made))
    selected_first made (selector.Cell line u) rest = ap (λ (l : List Called). selected p here (reached (cell_behind u (present t)) l m) rest) (sym (append-nil made))

-- ---- the loop

abbrev pub begin_of : List (Symbol × Sort) → Designator → Target
begin_of names (designator line x others) = record { root = name_in names x; pointer = None; path = [] }

module _ (p : Program) (body : Body) (a : Arena) (n : Supply) (may : MayMake p body a n) (line : _) (x : Symbol) (others : Selectors) (h : IsPlace p body.here (designator line x others)) where
  abbrev caller : Option Routine
  caller = routine_in p body.here

  abbrev begin : Target
  begin = record { root = name_in body.variables x; pointer = None; path = [] }

  root_is : name_in body.variables x ≡ item_head p caller (Variable x)
  root_is = head_is p caller body.variables may.stands.body.variables x

  -- the sort of its name is there
  start_sort : sort_in_range a.shapes (sort_or_int (found body.variables x)) ≡ true
  start_sort =
      ap (λ s. sort_in_range s (sort_or_int (found body.variables x))) may.stands.shapes
      ∙ (ap (λ (k : Head). head_in_range (shapes p) k) root_is ∙ variable_there p caller x may.stands.declarations may.stands.heading)

  begin_steps : AreSteps p body.here begin others
  begin_steps =
      let r = behind (λ t. selected_type p caller t others) (name_type p caller x) h.of h.typed in
      record {
        from = r.item;
        sorted = ap (λ (k : Head). term_sort (shapes p) p.symbols (alone k)) root_is ∙ ap (λ o. Some (sort_or_int (option_map (sort_of p.forms) o))) r.is;
        to = h.of;
        typed = r.gives;
      }

  placed_is : selected p caller (placed_at begin n) others ≡ placed p caller n (designator line x others)
  placed_is = ap (λ (k : Head). selected p caller (placed_at (record { root = k; pointer = None; path = [] }) n) others) root_is

  calls_are : calls_in_selectors p caller (placed_at begin n) others ≡ calls_in_selectors p caller (placed_at (record { root = item_head p caller (Variable x); pointer = None; path = [] }) n) others
  calls_are = ap (λ (k : Head). calls_in_selectors p caller (placed_at (record { root = k; pointer = None; path = [] }) n) others) root_is

  steps_begin : (b : Arena) (w : Way) (cs : List code_called.Called) → Walked (one (alone (name_in body.variables x))) a b → IsWay b w → target_in b w.target ≡ begin → StepsSoFar p body.here begin others others n a b w cs cs n
  steps_begin b w cs walked is_way same = record {
    events = [];
    made = [];
    walked = subst (λ (d : Target). Walked (one (present d)) a b) (sym same) walked;
    alone = tt;
    is_way = is_way;
    calls = λ before k. subst (AreCalls b cs) (sym (append-nil before)) (AreCalls-Extends cs before walked.grows k);
    there = AreThere-Extends a b n walked.grows may.there;
    whole = ap (λ (d : Target). selected p caller (placed_at d n) others) (sym same);
    told = ap (λ (d : Target). calls_in_selectors p caller (placed_at d n) others) (sym same);
    typed = subst (λ (d : Target). AreSteps p body.here d others) (sym same) begin_steps;
  }

  -- the end
  steps_end : (left : Selectors) (b : Arena) (w : Way) (cs ds : List code_called.Called) (m : Supply) → left ≡ no_selectors → StepsSoFar p body.here begin others left n a b w cs ds m
      → AddsPlace (Ok w.target) (placed p caller n (designator line x others)) (place_events p caller n (designator line x others)) a b cs ds m
  steps_end left b w cs ds m none s =
      let end : selected p caller (placed_at begin n) others ≡ reached (target_in b w.target) s.made m = s.whole ∙ ap (λ l. selected p caller (reached (target_in b w.target) s.made m) l) none in
      let all = sym placed_is ∙ end in
      let events : calls_in_selectors p caller (placed_at begin n) others ≡ s.events = s.told ∙ (ap (λ l. s.events ++ calls_in_selectors p caller (placed_at (target_in b w.target) m) l) none ∙ append-nil s.events) in
      record {
        grows = s.walked.grows;
        walk = subst (λ (l : List Event). Walked l a b) (λ i. (sym events ∙ calls_are) i ++ one (present (sym all i).target)) s.walked;
        target = s.is_way.target;
        same = ap (λ (d : Placed). d.target) (sym all);
        calls = λ before k. subst (λ (l : List Called). AreCalls b ds (before ++ l)) (ap (λ (d : Placed). d.calls) (sym all)) (s.calls before k);
        supply = ap (λ (d : Placed). d.supply) (sym all);
        there = s.there;
      }

  -- a fault at the name
  place_stops : (r : Result code_target.Target GenFault) (e : GenFault) (b : Arena) (cs ds : List code_called.Called) (m : Supply) → IsErrAnd r (λ f. f ≡ e) → Extends a b
      → Stops e (place_events p caller n (designator line x others)) a b → AddsPlace r (placed p caller n (designator line x others)) (place_events p caller n (designator line x others)) a b cs ds m
  place_stops (Ok t) e b cs ds m is grows stops = absurd is
  place_stops (Err f) e b cs ds m is grows stops = record {
    grows = grows;
    walk = same_stop {X = code_target.Target} (Err f) e (place_events p caller n (designator line x others)) a b is stops;
    target = tt;
    same = tt;
    calls = λ before k. tt;
    supply = tt;
    there = tt;
  }

  start_stops : (r : Result code_target.Target GenFault) (e : GenFault) (b : Arena) (cs ds : List code_called.Called) (m : Supply) → IsErrAnd r (λ f. f ≡ e) → Extends a b
      → Stops e (one (alone (name_in body.variables x))) a b → AddsPlace r (placed p caller n (designator line x others)) (place_events p caller n (designator line x others)) a b cs ds m
  start_stops r e b cs ds m is grows stops =
      place_stops r e b cs ds m is grows
      (retold_stops (one (alone (name_in body.variables x))) (place_events p caller n (designator line x others)) tt
      (no_lists_both (calls_in_selectors p caller root others) (one (present (selected p caller root others).target)) (selectors_alone p caller root others) tt)
      (covers_in_turn (one (alone (name_in body.variables x))) (one (present (selected p caller root others).target)) (place_events p caller n (designator line x others))
      (subst (λ (k : Head). AreCovered (alone k ∷ []) (present (selected p caller root others).target ∷ [])) (sym root_is) (present_inside p caller root others))
      (covers_behind (calls_in_selectors p caller root others) (one (present (selected p caller root others).target))))
      e a b stops)
    where
      root : Placed
      root = placed_at (record { root = item_head p caller (Variable x); pointer = None; path = [] }) n

  -- a turn
  module _ (left rest : Selectors) (s : Selector) (next : left ≡ selector_before s rest) (b : Arena) (w : Way) (cs ds : List code_called.Called) (m : Supply) (so_far : StepsSoFar p body.here begin others left n a b w cs ds m) where
    abbrev now : Target
    now = target_in b w.target

    abbrev step : Placed
    step = after_one p caller now m s

    now_typed : AreSteps p body.here now (selector_before s rest)
    now_typed = subst (AreSteps p body.here now) next so_far.typed

    first_of : FirstOf p body.here now_typed.from s rest now_typed.to
    first_of = first_of_selectors p body.here now_typed.from s rest now_typed.to now_typed.typed

    step_typed : AreSteps p body.here now (selector_before s no_selectors)
    step_typed = record { from = now_typed.from; sorted = now_typed.sorted; to = first_of.next; typed = first_of.first }

    inside_step : AreCovered (present now ∷ []) (present step.target ∷ [])
    inside_step = present_inside p caller (placed_at now m) (selector_before s no_selectors)

    told_on : calls_in_selectors p caller (placed_at begin n) others ≡ so_far.events ++ (calls_of p caller now m s ++ calls_in_selectors p caller (placed_at step.target step.supply) rest)
    told_on = so_far.told ∙ (ap (λ l. so_far.events ++ calls_in_selectors p caller (placed_at now m) l) next ∙ ap (λ (l : List Event). so_far.events ++ l) (calls_first p caller now m s rest))

    whole_on : selected p caller (placed_at begin n) others ≡ selected p caller (reached step.target (so_far.made ++ step.calls) step.supply) rest
    whole_on = so_far.whole ∙ (ap (λ l. selected p caller (reached now so_far.made m) l) next ∙ selected_first p caller now m so_far.made s rest)

    module _ (c : Arena) (v : Way) (es : List code_called.Called) (k : Supply) where
      steps_next : AddsStep (Ok tt) step (step_events p caller (placed_at now m) (selector_before s no_selectors)) b c v ds es k → StepsSoFar p body.here begin others rest n a c v cs es k
      steps_next added = record {
        events = so_far.events ++ calls_of p caller now m s;
        made = so_far.made ++ step.calls;
        walked = subst (λ (d : Target). Walked ((so_far.events ++ calls_of p caller now m s) ++ one (present d)) a c) (sym added.same)
            (at_end_walked so_far.events (calls_of p caller now m s) (present now) (present step.target) inside_step so_far.alone (selectors_alone p caller (placed_at now m) (selector_before s no_selectors)) so_far.walked added.walk);
        alone = no_lists_both so_far.events (calls_of p caller now m s) so_far.alone (selectors_alone p caller (placed_at now m) (selector_before s no_selectors));
        is_way = added.way;
        calls = λ before there. subst (AreCalls c es) (append_assoc before so_far.made step.calls) (added.calls (before ++ so_far.made) (so_far.calls before there));
        there = added.there;
        whole = whole_on ∙ (λ i. selected p caller (reached (sym added.same i) (so_far.made ++ step.calls) (sym added.supply i)) rest);
        told = told_on
            ∙ (sym (append_assoc so_far.events (calls_of p caller now m s) (calls_in_selectors p caller (placed_at step.target step.supply) rest))
            ∙ (λ i. (so_far.events ++ calls_of p caller now m s) ++ calls_in_selectors p caller (placed_at (sym added.same i) (sym added.supply i)) rest));
        typed = record {
          from = first_of.next;
          sorted = ap (λ (d : Target). term_sort (shapes p) p.symbols (present d)) added.same
              ∙ selected_sorted p caller (placed_at now m) now_typed.from first_of.next (selector_before s no_selectors) now_typed.sorted first_of.first;
          to = now_typed.to;
          typed = first_of.rest;
        };
      }

      steps_stop : (r : Result code_target.Target GenFault) (e : GenFault) → IsErrAnd r (λ f. f ≡ e) → AddsStep (Err e) step (step_events p caller (placed_at now m) (selector_before s no_selectors)) b c v ds es k
          → AddsPlace r (placed p caller n (designator line x others)) (place_events p caller n (designator line x others)) a c cs es k
      steps_stop r e is added =
          place_stops r e c cs es k is (Extends-trans so_far.walked.grows added.grows)
          (subst (λ (l : List Event). Stops e l a c) goal_is
          (at_end_stops so_far.events (calls_of p caller now m s) (present now) (present step.target) inside_step so_far.alone (selectors_alone p caller (placed_at now m) (selector_before s no_selectors))
          (calls_in_selectors p caller (placed_at step.target step.supply) rest) (present end.target) e a b c (selectors_alone p caller (placed_at step.target step.supply) rest)
          (present_inside p caller (reached step.target (so_far.made ++ step.calls) step.supply) rest) so_far.walked added.walk))
        where
          end : Placed
          end = selected p caller (reached step.target (so_far.made ++ step.calls) step.supply) rest

          goal_is : (so_far.events ++ (calls_of p caller now m s ++ calls_in_selectors p caller (placed_at step.target step.supply) rest))
              ++ one (present (selected p caller (reached step.target (so_far.made ++ step.calls) step.supply) rest).target) ≡ place_events p caller n (designator line x others)
          goal_is = λ i. (sym told_on ∙ calls_are) i ++ one (present ((sym whole_on ∙ placed_is) i).target)

-- ---- of a designator

module _ (p : Program) (body : Body) (a : Arena) (n : Supply) (may : MayMake p body a n) (d : Designator) (line : ℕ) (x : Symbol) (others : Selectors) (is : d ≡ designator line x others) (h : IsPlace p body.here d) where
  typed_place : IsPlace p body.here (designator line x others)
  typed_place = subst (IsPlace p body.here) is h

  begin_is : begin_of body.variables d ≡ record { root = name_in body.variables x; pointer = None; path = [] }
  begin_is = ap (begin_of body.variables) is

  abbrev of_routine : Option Routine
  of_routine = routine_in p body.here

  pub designator_sort : sort_in_range a.shapes (sort_or_int (found body.variables x)) ≡ true
  designator_sort = start_sort p body a n may line x others typed_place

  pub designator_begins : (b : Arena) (w : Way) (cs : List code_called.Called) → Walked (one (alone (name_in body.variables x))) a b → IsWay b w → target_in b w.target ≡ record { root = name_in body.variables x; pointer = None; path = [] }
      → StepsSoFar p body.here (begin_of body.variables d) others others n a b w cs cs n
  designator_begins b w cs walked is_way same =
      subst (λ (t : Target). StepsSoFar p body.here t others others n a b w cs cs n) (sym begin_is) (steps_begin p body a n may line x others typed_place b w cs walked is_way same)

  pub designator_start_stops : (r : Result code_target.Target GenFault) (e : GenFault) (b : Arena) (cs ds : List code_called.Called) (m : Supply) → IsErrAnd r (λ f. f ≡ e) → Extends a b
      → Stops e (one (alone (name_in body.variables x))) a b → AddsPlace r (placed p of_routine n d) (place_events p of_routine n d) a b cs ds m
  designator_start_stops r e b cs ds m told grows stops =
      subst (λ (t : Designator). AddsPlace r (placed p of_routine n t) (place_events p of_routine n t) a b cs ds m) (sym is) (start_stops p body a n may line x others typed_place r e b cs ds m told grows stops)

  module _ (left : Selectors) (b : Arena) (w : Way) (cs ds : List code_called.Called) (m : Supply) (so_far : StepsSoFar p body.here (begin_of body.variables d) others left n a b w cs ds m) where
    from_name : StepsSoFar p body.here (record { root = name_in body.variables x; pointer = None; path = [] }) others left n a b w cs ds m
    from_name = subst (λ (t : Target). StepsSoFar p body.here t others left n a b w cs ds m) begin_is so_far

    pub designator_ends : left ≡ no_selectors → AddsPlace (Ok w.target) (placed p of_routine n d) (place_events p of_routine n d) a b cs ds m
    designator_ends none =
        subst (λ (t : Designator). AddsPlace (Ok w.target) (placed p of_routine n t) (place_events p of_routine n t) a b cs ds m) (sym is)
        (steps_end p body a n may line x others typed_place left b w cs ds m none from_name)

    module _ (rest : Selectors) (s : Selector) (next : left ≡ selector_before s rest) where
      pub designator_step : AreSteps p body.here (target_in b w.target) (selector_before s no_selectors)
      designator_step = step_typed p body a n may line x others typed_place left rest s next b w cs ds m from_name

      abbrev one_step : Placed
      one_step = selected p of_routine (placed_at (target_in b w.target) m) (selector_before s no_selectors)

      abbrev one_events : List Event
      one_events = step_events p of_routine (placed_at (target_in b w.target) m) (selector_before s no_selectors)

      module _ (c : Arena) (v : Way) (es : List code_called.Called) (k : Supply) where
        pub designator_next : AddsStep (Ok tt) one_step one_events b c v ds es k → StepsSoFar p body.here (begin_of body.variables d) others rest n a c v cs es k
        designator_next added =
            subst (λ (t : Target). StepsSoFar p body.here t others rest n a c v cs es k) (sym begin_is)
            (steps_next p body a n may line x others typed_place left rest s next b w cs ds m from_name c v es k added)

        pub designator_stops : (r : Result code_target.Target GenFault) (e : GenFault) → IsErrAnd r (λ f. f ≡ e) → AddsStep (Err e) one_step one_events b c v ds es k
            → AddsPlace r (placed p of_routine n d) (place_events p of_routine n d) a c cs es k
        designator_stops r e told added =
            subst (λ (t : Designator). AddsPlace r (placed p of_routine n t) (place_events p of_routine n t) a c cs es k) (sym is)
            (steps_stop p body a n may line x others typed_place left rest s next b w cs ds m from_name c v es k r e told added)

pub designator_is : (d : Designator) (line : ℕ) (x : Symbol) (items slice : List Selector) → designator line x (selectors_of items) ≡ d → slice ≡ items → d ≡ designator line x (selectors_of slice)
designator_is d line x items slice view value = sym view ∙ ap (λ (l : List Selector). designator line x (selectors_of l)) (sym value)

pub path_smaller : (d : Designator) (line : ℕ) (x : Symbol) (others : Selectors) → d ≡ designator line x others → selectors_size others < designator_size d
path_smaller d line x others is = subst (λ (y : Designator). selectors_size others < designator_size y) (sym is) smaller
  where
    smaller : selectors_size others < designator_size (designator line x others)
    smaller = omega arith
