-- A call of a function behind those in its arguments.
use Rattle.std.proofs.Common.{◌≡◌, ℕ, true, List, [], ◌∷◌, ◌++◌, Result, Ok, Err, IfOk, OnOk, IsErrAnd, Option, Some, None, slice_get, refl, sym, ap, subst, ◌∙◌}
use Rattle.std.specs.Prelude.{⊤}
use Rattle.spv_logic.proofs.list.Tests.{left_true, right_true}
use Rattle.std.specs.List.{list_all}
use Rattle.spv_logic.specs.declared.names.names.Symbol.{Symbol}
use Rattle.spv_logic.specs.declared.conditions.TermId.{TermId}
use Rattle.spv_logic.specs.declared.conditions.RoutineId.{RoutineId}
use Rattle.spv_logic.specs.declared.types.Shape.{Shape}
use Rattle.spv_logic.specs.declared.types.Sort.{Sort}
use Rattle.spv_logic.specs.declared.types.TypeId.{TypeId}
use Rattle.spv_logic.specs.declared.operators.Head.{Head}
use Rattle.spv_logic.specs.declared.operators.Head.TheVariants as head
use Rattle.spv_logic.specs.Terms.{Term, Terms, term, no_terms}
use Rattle.spv_logic.specs.Sorts.{sort_in_range, term_sort}
use Rattle.spv_term.specs.declared.nodes.Node.{Node}
use Rattle.spv_term.specs.declared.nodes.TermFault.{TermFault}
use Rattle.spv_term.specs.declared.nodes.TermFault.TheVariants.{Size}
use Rattle.spv_term.specs.substitution.Parts.{AddsOnly, Lacks}
use Rattle.spv_term.specs.Arena.{Arena, Extends, IsArena, tree, trees}
use Rattle.spv_term.proofs.ArenaLemmas.{Extends-trans, tree-node}
use Rattle.spv_program.specs.Types.{sort_of, type_exists}
use Rattle.spv_program.specs.Programs.{Routine, Program, shapes}
use Rattle.spv_program.specs.Scopes.{sort_or_int}
use Rattle.spv_program.specs.ExpressionTypes.{sort_of_type}
use Rattle.spv_program.specs.Typing.{result_ok}
use Rattle.spv_program.specs.Calls.{Argument}
use Rattle.spv_program.specs.Terms.{alone}
use Rattle.spv_program.specs.Supplies.{Fresh, Supply, fresh_variable}
use Rattle.spv_program.specs.ExpressionTerms.{Called, result_head, sort_of_result}
use Rattle.spv_expression_terms.proofs.makeable_terms.Ranges.{sort_there}
use Rattle.spv_expression_terms.proofs.makeable_terms.Scopes.{forms_right}
use Rattle.spv_assign.specs.supply.Numbers.{AreThere, IsFresh, Taken}
use Rattle.spv_assign.proofs.supply.FreshLemmas.{AreThere-Extends}
use Rattle.spv_assign.specs.declared.creation_trace.faults.GenFault.{GenFault}
use Rattle.spv_assign.specs.creation_trace.Events.{Answers, Event, Stops, Walked}
use Rattle.spv_assign.specs.creation_trace.StatementEvents.{one, several}
use Rattle.spv_assign.proofs.creation_trace.Walks.{stopped_behind, stopped_first, walked_behind}
use Rattle.spv_assign.specs.limited_steps.Makes.{IsTerm, Makes}
use Rattle.spv_assign.proofs.limited_steps.Limits.{if_ok, lacks_one, only_part, same_stop}
use Rattle.spv_flow_parts.specs.declared.leaves.valued.Called as code
use Rattle.spv_flow_parts.specs.leaves.Values.{AreCalls, IsCall}
use Rattle.spv_flow_parts.specs.Walks.{MakesTerm}
use Rattle.spv_flow_parts.specs.calls.Arguments.{AddsCalls, AreAfter, FitHeads, IsAtCall, MakesCall, called_with, one_call}
use Rattle.spv_flow_parts.specs.calls.Events.{at_call_events, made_at_call}
use Rattle.spv_flow_parts.proofs.Terms.{term_made}
use Rattle.spv_flow_parts.proofs.leaves.InFront.{AreCalls-Extends}
use Rattle.spv_flow_parts.proofs.calls.Zipping.{range_in, right_declarations, right_heading}

-- ---- the sort of a result is there

pub result_range : (p : Program) (a : Arena) (number : RoutineId) (r : Routine) (arguments : List Argument) → IsAtCall p a number r arguments → sort_in_range a.shapes (sort_of_result p r) ≡ true
result_range p a number r arguments at = by r.result (left_true (result_ok p r.result) _ (right_true (list_all (λ f. type_exists p.forms f.of) r.formals) _ (right_heading p a number r arguments at)))
  where
    by : (o : Option TypeId) → result_ok p o ≡ true → sort_in_range a.shapes (sort_or_int (sort_of_type p o)) ≡ true
    by None h = refl
    by (Some t) h = range_in p a number r arguments at (sort_of p.forms t) (sort_there p.forms t (forms_right p (right_declarations p a number r arguments at)) (left_true (type_exists p.forms t) _ h))

pub result_range_of : (p : Program) (a : Arena) (number : RoutineId) (r : Routine) (arguments : List Argument) (s : Sort) → IsAtCall p a number r arguments → s ≡ sort_of_result p r → sort_in_range a.shapes s ≡ true
result_range_of p a number r arguments s at is = ap (sort_in_range a.shapes) is ∙ result_range p a number r arguments at

pub result_range_in : (p : Program) (a : Arena) (number : RoutineId) (r : Routine) (arguments : List Argument) (s : Sort) → IsAtCall p a number r arguments → s ≡ sort_of_result p r → sort_in_range (shapes p) s ≡ true
result_range_in p a number r arguments s at is = ap (λ (l : List Shape). sort_in_range l s) (sym at.shapes_are) ∙ result_range_of p a number r arguments s at is

-- ---- a fresh variable

pub fresh_made : (a b : Arena) (taken : Taken) (f : Fresh) (r : Result TermId TermFault) (s : Result TermId GenFault) → IfOk r (λ t. IsFresh b t taken f) → Extends a b → AddsOnly a b (alone f.head) → (r ≡ Err Size → Lacks b (alone f.head))
    → IfOk s (λ t. r ≡ Ok t) → ((old : Arena) (ts : List Term) → Makes r old b ts → Answers s (several ts) old b) → MakesTerm s (alone f.head) a b
fresh_made a b taken f r s fresh grows only size told walk =
    term_made a b (alone f.head) (alone f.head) refl r s (if_ok r fresh (λ t is. is.is_tree)) (if_ok r fresh (λ t is. is.there)) grows (only_part a b (alone f.head) only) (λ e. lacks_one b (alone f.head) (size e)) told walk

-- ---- the head of a variable that was made

pub head_made : (a : Arena) (t : TermId) (n : Node) (h : Head) → IsArena a → slice_get a.nodes t.0 ≡ Some n → IsTerm a t (alone h) → n.head ≡ h
head_made a t n h ok at is = same n.head h (trees a n.args) (sym (tree-node a ok t n at) ∙ is.is_tree)
  where
    same : (k h : Head) (ts : Terms) → term k ts ≡ term h no_terms → k ≡ h
    same k h ts e = cc

calls_push : (a : Arena) (cs : List code.Called) (ds : List Called) (c : code.Called) (d : Called) → AreCalls a cs ds → IsCall a c d → AreCalls a (cs ++ c ∷ []) (ds ++ d ∷ [])
calls_push a [] [] c d h is = (is, tt)
calls_push a (b ∷ cs) (e ∷ ds) c d h is = (h.0, calls_push a cs ds c d h.1 is)
calls_push a [] (e ∷ ds) c d h is = absurd h
calls_push a (b ∷ cs) [] c d h is = absurd h

module _ (p : Program) (r : Routine) (line : ℕ) (arguments : List Argument) (n : Supply) where
  abbrev value : Head
  value = (fresh_variable r.name (sort_of_result p r) n).head

  abbrev after : List (Head × Term)
  after = (result_head p r, alone value) ∷ []

  abbrev events : List Event
  events = one (alone value) ++ at_call_events p r arguments after

  pub adds_not : (o : Result ⊤ GenFault) (e : GenFault) (a b : Arena) (variables others : List Head) (old new : List code.Called) (m : Supply) → IsErrAnd o (λ f. f ≡ e) → Extends a b
      → Stops e (made_at_call p (Some r) (record { arguments = arguments; calls = []; supply = n })) a b
      → AddsCalls o (one_call p r line arguments n) (made_at_call p (Some r) (record { arguments = arguments; calls = []; supply = n })) a b variables others old new m
  adds_not o e a b variables others old new m is grows stops = record {
    grows = grows;
    walk = same_stop o e events a b is stops;
    heads = none _ o is;
    calls = λ before are. none _ o is;
    supply = none _ o is;
    there = none _ o is;
  }
    where
      none : (P : Type 0) (o : Result ⊤ GenFault) → IsErrAnd o (λ f. f ≡ e) → OnOk o P
      none P (Ok u) h = absurd h
      none P (Err f) h = tt

  module _ (name : Symbol) (s : Sort) (name_is : name ≡ r.name) (s_is : s ≡ sort_of_result p r) where
    same_value : (fresh_variable name s n).head ≡ value
    same_value = λ i. (fresh_variable (name_is i) (s_is i) n).head

    pub value_stops : (o : Result ⊤ GenFault) (e : GenFault) (a b : Arena) (variables others : List Head) (old new : List code.Called) (m : Supply) → IsErrAnd o (λ f. f ≡ e) → MakesTerm (Err e) (alone (fresh_variable name s n).head) a b
        → AddsCalls o (one_call p r line arguments n) (made_at_call p (Some r) (record { arguments = arguments; calls = []; supply = n })) a b variables others old new m
    value_stops o e a b variables others old new m is made =
        adds_not o e a b variables others old new m is made.grows
        (stopped_first e (one (alone value)) (at_call_events p r arguments after) a b (subst (λ (h : Head). Stops e (one (alone h)) a b) same_value made.walk))

    module _ (a b : Arena) (t : TermId) (made : MakesTerm (Ok t) (alone (fresh_variable name s n).head) a b) where
      pub value_term : IsTerm b t (alone (fresh_variable r.name (sort_of_result p r) n).head)
      value_term = subst (λ (h : Head). IsTerm b t (alone h)) same_value made.term

      value_walked : Walked (one (alone value)) a b
      value_walked = subst (λ (h : Head). Walked (one (alone h)) a b) same_value made.walk

      -- what stands for the result in EXIT
      abbrev made_after : List (Head × Term)
      made_after = (head.Var name s 0, tree b t) ∷ []

      same_after : made_after ≡ after
      same_after = let term = value_term.is_tree in λ i. (head.Var (name_is i) (s_is i) 0, term i) ∷ []

      pub after_is : AreAfter b ((head.Var name s 0, t) ∷ []) ((head.Var name s 0, tree b t) ∷ [])
      after_is = (refl, (record { there = made.term.there; is_tree = refl }, tt))

      pub after_fits : sort_in_range (shapes p) s ≡ true → FitHeads p ((head.Var name s 0, tree b t) ∷ [])
      after_fits range = ((refl, (range, ap (term_sort (shapes p) p.symbols) made.term.is_tree)), tt)

      module _ (c : Arena) (qs : List (Head × Term)) (are : qs ≡ (head.Var name s 0, tree b t) ∷ []) where
        same_qs : qs ≡ after
        same_qs = are ∙ same_after

        pub call_stops : (o : Result ⊤ GenFault) (e : GenFault) (variables others : List Head) (old new : List code.Called) (m : Supply) → IsErrAnd o (λ f. f ≡ e)
            → MakesCall (Err e) (called_with p r line arguments qs) (at_call_events p r arguments qs) b c
            → AddsCalls o (one_call p r line arguments n) (made_at_call p (Some r) (record { arguments = arguments; calls = []; supply = n })) a c variables others old new m
        call_stops o e variables others old new m is k =
            adds_not o e a c variables others old new m is (Extends-trans made.grows k.grows)
            (stopped_behind e (one (alone value)) (at_call_events p r arguments after) a b c value_walked (subst (λ (l : List (Head × Term)). Stops e (at_call_events p r arguments l) b c) same_qs k.walk))

        pub call_added : (u : ⊤) (d : code.Called) (h : Head) (variables others : List Head) (old new : List code.Called) (m : Supply) → MakesCall (Ok d) (called_with p r line arguments qs) (at_call_events p r arguments qs) b c
            → h ≡ (fresh_variable r.name (sort_of_result p r) n).head → others ≡ variables ++ h ∷ [] → new ≡ old ++ d ∷ [] → m ≡ (fresh_variable name s n).supply → AreThere b m
            → AddsCalls (Ok u) (one_call p r line arguments n) (made_at_call p (Some r) (record { arguments = arguments; calls = []; supply = n })) a c variables others old new m
        call_added u d h variables others old new m k head_is heads calls supply there = record {
          grows = Extends-trans made.grows k.grows;
          walk = walked_behind (one (alone value)) (at_call_events p r arguments after) value_walked (subst (λ (l : List (Head × Term)). Walked (at_call_events p r arguments l) b c) same_qs k.walk);
          heads = heads ∙ ap (λ (g : Head). variables ++ g ∷ []) head_is;
          calls = λ before are. all before are;
          supply = supply ∙ (λ i. (fresh_variable (name_is i) (s_is i) n).supply);
          there = AreThere-Extends b c m k.grows there;
        }
          where
            all : (before : List Called) → AreCalls a old before → AreCalls c new (before ++ (one_call p r line arguments n).calls)
            all before are =
                subst (λ (l : List code.Called). AreCalls c l (before ++ called_with p r line arguments after ∷ [])) (sym calls)
                (calls_push c old before d (called_with p r line arguments after) (AreCalls-Extends old before (Extends-trans made.grows k.grows) are)
                (subst (λ (l : List (Head × Term)). IsCall c d (called_with p r line arguments l)) same_qs k.call))
