-- One step on the way to a place.
use Rattle.std.specs.Bool.{⊤}
use Rattle.std.proofs.Common.{◌≡◌, ◌<◌, ℕ, true, cond, List, [], ◌∷◌, ◌++◌, length, Result, Ok, Err, OnOk, IsErrAnd, IsSome, Option, Some, None, is_some, nat_lt, refl, sym, ap, subst, ◌∙◌, arith}
use Rattle.std.proofs.lemmas.List.{append-nil}
use Rattle.std.proofs.lemmas.Bool.Decides.{nat_tests}
use Rattle.spv_logic.specs.declared.conditions.TermId.{TermId}
use Rattle.spv_logic.specs.declared.names.names.Symbol.{Symbol}
use Rattle.spv_logic.specs.declared.types.TypeId.{TypeId}
use Rattle.spv_logic.specs.declared.types.Shape.{Shape}
use Rattle.spv_logic.specs.declared.types.Decl.{Decl}
use Rattle.spv_logic.specs.Sorts.{term_sort}
use Rattle.spv_term.specs.Arena.{Arena, Extends, tree}
use Rattle.spv_term.proofs.ArenaLemmas.{Extends-refl, Extends-trans}
use Rattle.spv_program.specs.Types.{form_at, same_type, target_of, type_exists}
use Rattle.spv_program.specs.declared.typed.expressions.Selector.{Selector}
use Rattle.spv_program.specs.declared.typed.expressions.Selector.TheVariants as selector
use Rattle.spv_program.specs.Expressions.{Expression, no_selectors, at_index, at_cell}
use Rattle.spv_program.specs.Programs.{Routine, Program, shapes, routine_in}
use Rattle.spv_program.specs.Places.{Target, ToElement, ToField, further, cell_behind, present}
use Rattle.spv_program.specs.Supplies.{Supply}
use Rattle.spv_program.specs.ExpressionTypes.{selected_type}
use Rattle.spv_program.specs.ExpressionTerms.{Called, Placed, Valued, valued, selected}
use Rattle.spv_program.specs.typed.ExpressionViews.{selector_before}
use Rattle.spv_program.proofs.SortFacts.{passed, behind}
use Rattle.spv_program.proofs.ExpressionSorting.{selected_sorted, same_types}
use Rattle.spv_expression_terms.proofs.makeable_terms.Ranges.{form_is_right, shape_there, target_exists}
use Rattle.spv_expression_terms.proofs.makeable_terms.Scopes.{forms_right}
use Rattle.spv_assign.specs.declared.creation_trace.faults.GenFault.{GenFault}
use Rattle.spv_assign.specs.creation_trace.Events.{Event, Walked, Stops, Answers}
use Rattle.spv_assign.specs.creation_trace.StatementEvents.{one}
use Rattle.spv_assign.specs.structures.Targets.{target_in}
use Rattle.spv_assign.proofs.limited_steps.Limits.{same_stop}
use Rattle.spv_assign.proofs.supply.FreshLemmas.{AreThere-Extends}
use Rattle.spv_flow_parts.specs.declared.bodies.Body.{Body}
use Rattle.spv_flow_parts.specs.declared.leaves.valued.Called as code_called
use Rattle.spv_flow_parts.specs.declared.calls.places.Way.{Way}
use Rattle.spv_flow_parts.specs.leaves.Values.{AreCalls}
use Rattle.spv_flow_parts.specs.calls.Arguments.{AddsStep, AddsValue, AreSteps, IsWay, MayMake, placed_at}
use Rattle.spv_flow_parts.specs.calls.Events.{calls_in_value, step_events, value_events}
use Rattle.spv_flow_parts.proofs.leaves.InFront.{AreCalls-Extends}
use Rattle.spv_flow_parts.proofs.calls.MadeEvents.{value_alone}
use Rattle.spv_flow_parts.proofs.calls.PlaceSteps.{part_inside, at_end_walked, at_end_stops, covers_both, covers_first, covers_behind, covers_in_turn}
use Rattle.spv_flow_parts.proofs.calls.Retold.{no_lists_both, covered_self, retold_stops}
use Rattle.spv_flow_parts.proofs.calls.Passing.{target_in-Extends}

module _ (p : Program) (body : Body) (a : Arena) (n : Supply) (may : MayMake p body a n) (w : Way) (is_way : IsWay a w) (s : Selector) (typed : AreSteps p body.here (target_in a w.target) (selector_before s no_selectors)) where
  abbrev caller : Option Routine
  caller = routine_in p body.here

  abbrev now : Placed
  now = placed_at (target_in a w.target) n

  abbrev next : Placed
  next = selected p caller now (selector_before s no_selectors)

  abbrev events : List Event
  events = step_events p caller now (selector_before s no_selectors)

  -- what stands there then has a sort, in any arena for the terms of the program
  step_sorts : (b : Arena) → Extends a b → (d : Target) → d ≡ next.target → IsSome (term_sort b.shapes b.decls (present d))
  step_sorts b more d is =
      subst (λ (x : Target). IsSome (term_sort b.shapes b.decls (present x))) (sym is)
      (subst (λ (l : List Shape). IsSome (term_sort l b.decls (present next.target))) (sym (more.shapes ∙ may.stands.shapes))
      (subst (λ (l : List Decl). IsSome (term_sort (shapes p) l (present next.target))) (sym (more.decls ∙ may.stands.decls))
      (ap is_some (selected_sorted p caller now typed.from typed.to (selector_before s no_selectors) typed.sorted typed.typed))))

  pub field_sorts : (t : TypeId) (f : Symbol) → s ≡ selector.Field t f → IsSome (term_sort a.shapes a.decls (present (further (ToField f) (target_in a w.target))))
  field_sorts t f is = step_sorts a (Extends-refl a) (further (ToField f) (target_in a w.target)) (sym (ap (λ (x : Selector). (selected p caller now (selector_before x no_selectors)).target) is))

  step_stops : (r : Result ⊤ GenFault) (e : GenFault) (b : Arena) (v : Way) (cs ds : List code_called.Called) (m : Supply) → IsErrAnd r (λ f. f ≡ e) → Extends a b → Stops e events a b → AddsStep r next events a b v cs ds m
  step_stops (Ok t) e b v cs ds m is grows stops = absurd is
  step_stops (Err f) e b v cs ds m is grows stops = record {
    grows = grows;
    walk = same_stop {X = ⊤} (Err f) e events a b is stops;
    way = tt;
    same = tt;
    calls = λ before k. tt;
    supply = tt;
    there = tt;
  }

  -- a step without calls
  plain_added : (r : Result ⊤ GenFault) (d : Target) (b : Arena) (v : Way) (cs : List code_called.Called) → next ≡ placed_at d n → events ≡ one (present d) → Extends a b → Answers r (one (present d)) a b
      → OnOk r (IsWay b v) → OnOk r (target_in b v.target ≡ d) → AddsStep r next events a b v cs cs n
  plain_added (Ok t) d b v cs e f grows walk way same = record {
    grows = grows;
    walk = subst (λ (l : List Event). Walked l a b) (sym f) walk;
    way = way;
    same = same ∙ ap (λ (x : Placed). x.target) (sym e);
    calls = λ before k. subst (λ (l : List Called). AreCalls b cs (before ++ l)) (ap (λ (x : Placed). x.calls) (sym e)) (subst (AreCalls b cs) (sym (append-nil before)) (AreCalls-Extends cs before grows k));
    supply = ap (λ (x : Placed). x.supply) (sym e);
    there = AreThere-Extends a b n grows may.there;
  }
  plain_added (Err g) d b v cs e f grows walk way same =
      step_stops (Err g) g b v cs cs n refl grows (subst (λ (l : List Event). Stops g l a b) (sym f) walk)

  pub field_added : (t : TypeId) (f : Symbol) → s ≡ selector.Field t f → (r : Result ⊤ GenFault) (b : Arena) (v : Way) (cs : List code_called.Called) → Extends a b → Answers r (one (present (further (ToField f) (target_in a w.target)))) a b
      → OnOk r (IsWay b v) → OnOk r (target_in b v.target ≡ further (ToField f) (target_in a w.target)) → AddsStep r next events a b v cs cs n
  field_added t f is r b v cs grows walk way same =
      plain_added r (further (ToField f) (target_in a w.target)) b v cs (ap (λ (x : Selector). selected p caller now (selector_before x no_selectors)) is)
      (ap (λ (x : Selector). step_events p caller now (selector_before x no_selectors)) is) grows walk way same

  pub cell_added : (line : ℕ) (t : TypeId) → s ≡ selector.Cell line t → (r : Result ⊤ GenFault) (b : Arena) (v : Way) (cs : List code_called.Called) → Extends a b → Answers r (one (present (cell_behind t (present (target_in a w.target))))) a b
      → OnOk r (IsWay b v) → OnOk r (target_in b v.target ≡ cell_behind t (present (target_in a w.target))) → AddsStep r next events a b v cs cs n
  cell_added line t is r b v cs grows walk way same =
      plain_added r (cell_behind t (present (target_in a w.target))) b v cs (ap (λ (x : Selector). selected p caller now (selector_before x no_selectors)) is)
      (ap (λ (x : Selector). step_events p caller now (selector_before x no_selectors)) is) grows walk way same

  -- the class of the cell is there
  pub cell_there : (line : ℕ) (t : TypeId) → s ≡ selector.Cell line t → t.0 < length a.shapes
  cell_there line t is =
      let h : selected_type p caller typed.from (at_cell line t no_selectors) ≡ Some typed.to = ap (λ (x : Selector). selected_type p caller typed.from (selector_before x no_selectors)) (sym is) ∙ typed.typed in
      let r = behind (λ u. cond (same_type t u) (Some u) None) (target_of (form_at p.forms typed.from.0)) typed.to h in
      let same : t ≡ r.item = same_types t r.item (passed (same_type t r.item) _ typed.to r.gives) in
      let right = forms_right p may.stands.declarations in
      let there : type_exists p.forms t ≡ true = ap (type_exists p.forms) same ∙ target_exists p.forms (form_at p.forms typed.from.0) r.item (form_is_right p.forms typed.from.0 right) r.is in
      subst (λ (l : List Shape). t.0 < length l) (sym may.stands.shapes) (below t (shape_there p.forms t there))
    where
      below : (t : TypeId) → nat_lt t.0 (length (shapes p)) ≡ true → t.0 < length (shapes p)
      below t h = grind (arith, nat_tests, h)

  -- a step to an element, behind what its index makes
  module _ (t : TypeId) (f : _) (e : Expression) (is : s ≡ selector.Index t f) (same_index : e ≡ f.value) where
    index_is : selector_before s no_selectors ≡ at_index t e no_selectors
    index_is = ap (λ (x : Selector). selector_before x no_selectors) is ∙ ap (λ (x : Expression). at_index t x no_selectors) (sym same_index)

    abbrev v : Valued
    v = valued p caller n e

    abbrev calls : List Event
    calls = calls_in_value p caller n e

    abbrev element : Target
    element = further (ToElement v.term) (target_in a w.target)

    next_is : next ≡ record { target = element; calls = v.calls; supply = v.supply }
    next_is = ap (selected p caller now) index_is

    events_are : events ≡ (calls_in_value p caller n e ++ []) ++ one (present element)
    events_are = ap (step_events p caller now) index_is

    pub index_stops : (r : Result ⊤ GenFault) (g : GenFault) (b : Arena) (x : Way) (cs ds : List code_called.Called) (m : Supply) → IsErrAnd r (λ k. k ≡ g) → AddsValue (Err g) v (value_events p caller n e) a b cs ds m → AddsStep r next events a b x cs ds m
    index_stops r g b x cs ds m told added =
        step_stops r g b x cs ds m told added.grows
        (subst (λ (l : List Event). Stops g l a b) (sym events_are)
        (retold_stops (calls ++ one v.term) ((calls ++ []) ++ one (present element)) (no_lists_both calls (one v.term) (value_alone p caller n e) tt)
        (no_lists_both (calls ++ []) (one (present element)) (no_lists_both calls [] (value_alone p caller n e) tt) tt)
        (covers_both calls (one v.term) ((calls ++ []) ++ one (present element))
        (covers_in_turn calls (calls ++ []) ((calls ++ []) ++ one (present element)) (covers_first calls []) (covers_first (calls ++ []) (one (present element))))
        (covers_in_turn (one v.term) (one (present element)) ((calls ++ []) ++ one (present element)) (part_inside (target_in a w.target) v.term) (covers_behind (calls ++ []) (one (present element)))))
        g a b added.walk))

    module _ (b : Arena) (index : TermId) (cs ds : List code_called.Called) (m : Supply) (added : AddsValue (Ok index) v (value_events p caller n e) a b cs ds m) where
      element_is : further (ToElement (tree b index)) (target_in b w.target) ≡ element
      element_is = let first = added.term.is_tree in let there = target_in-Extends added.grows w.target is_way.target in λ i. further (ToElement (first i)) (there i)

      pub element_sorts : IsSome (term_sort b.shapes b.decls (present (further (ToElement (tree b index)) (target_in b w.target))))
      element_sorts = step_sorts b added.grows (further (ToElement (tree b index)) (target_in b w.target)) (element_is ∙ ap (λ (x : Placed). x.target) (sym next_is))

      pub element_added : (r : Result ⊤ GenFault) (c : Arena) (x : Way) → Extends b c → Answers r (one (present (further (ToElement (tree b index)) (target_in b w.target)))) b c
          → OnOk r (IsWay c x) → OnOk r (target_in c x.target ≡ further (ToElement (tree b index)) (target_in b w.target)) → AddsStep r next events a c x cs ds m
      element_added r c x grows walk way same = by r (subst (λ (d : Target). Answers r (one (present d)) b c) element_is walk) way (subst (λ (d : Target). OnOk r (target_in c x.target ≡ d)) element_is same)
        where
          by : (r : Result ⊤ GenFault) → Answers r (one (present element)) b c → OnOk r (IsWay c x) → OnOk r (target_in c x.target ≡ element) → AddsStep r next events a c x cs ds m
          by (Ok t) walk way same = record {
            grows = Extends-trans added.grows grows;
            walk = subst (λ (l : List Event). Walked l a c) (sym events_are)
                (at_end_walked (calls_in_value p caller n e) [] v.term (present element) (part_inside (target_in a w.target) v.term) (value_alone p caller n e) tt added.walk walk);
            way = way;
            same = same ∙ ap (λ (y : Placed). y.target) (sym next_is);
            calls = λ before k. subst (λ (l : List Called). AreCalls c ds (before ++ l)) (ap (λ (y : Placed). y.calls) (sym next_is)) (AreCalls-Extends ds (before ++ v.calls) grows (added.calls before k));
            supply = added.supply ∙ ap (λ (y : Placed). y.supply) (sym next_is);
            there = AreThere-Extends b c m grows added.there;
          }
          by (Err g) walk way same =
              step_stops (Err g) g c x cs ds m refl (Extends-trans added.grows grows)
              (subst (λ (l : List Event). Stops g l a c) (sym events_are)
              (at_end_stops (calls_in_value p caller n e) [] v.term (present element) (part_inside (target_in a w.target) v.term) (value_alone p caller n e) tt [] (present element) g a b c tt (covered_self (present element ∷ [])) added.walk walk))
