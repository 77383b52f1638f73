-- Terms with calls, and calls behind their arguments.
use Rattle.std.specs.Bool.{⊤}
use Rattle.std.proofs.Common.{◌≡◌, ◌<◌, ℕ, true, List, [], ◌∷◌, ◌++◌, length, Result, Ok, Err, IfOk, Option, Some, None, refl, sym, ap, subst, ◌∙◌}
use Rattle.std.specs.List.{list_all}
use Rattle.std.proofs.lemmas.List.{append_assoc, append-nil}
use Rattle.spv_logic.specs.declared.conditions.TermId.{TermId}
use Rattle.spv_logic.specs.declared.conditions.RoutineId.{RoutineId}
use Rattle.spv_logic.specs.declared.operators.Head.{Head}
use Rattle.spv_logic.specs.Terms.{Term}
use Rattle.spv_logic.specs.Sorts.{numeral_fits, term_sort}
use Rattle.spv_term.specs.declared.nodes.TermFault.{TermFault}
use Rattle.spv_term.specs.declared.nodes.TermFault.TheVariants.{Size}
use Rattle.spv_term.specs.Arena.{Arena, Extends, tree, sort_at}
use Rattle.spv_term.specs.substitution.Parts.{AddsParts, LacksPart}
use Rattle.spv_term.proofs.ArenaLemmas.{Extends-trans}
use Rattle.spv_logic.specs.declared.names.names.Symbol.{Symbol}
use Rattle.spv_logic.specs.declared.types.TypeId.{TypeId}
use Rattle.spv_program.specs.Expressions.{Expression, Selectors, Call, Arguments, Read, Through, designator, call}
use Rattle.spv_program.specs.Programs.{Routine, Program, shapes, routine_at, routine_in}
use Rattle.spv_program.specs.Terms.{name_in}
use Rattle.spv_program.specs.Supplies.{Supply}
use Rattle.spv_program.specs.Calls as spec_argument
use Rattle.spv_program.specs.ExpressionTypes.{expression_sort}
use Rattle.spv_program.specs.ExpressionTerms.{Called, Valued, Argued, called_in, to_cell, valued, called, argued}
use Rattle.spv_program.proofs.SortFacts.{nothing_there}
use Rattle.spv_expression_terms.specs.term_walk.OuterCalls.{MadeCalls, filled, head_of, made_calls, outer_calls, selectors_outer_calls}
use Rattle.spv_expression_terms.specs.term_walk.Makeable.{IsWellSorted}
use Rattle.spv_expression_terms.proofs.term_walk.Gathered.{value_gathered}
use Rattle.spv_assign.specs.declared.creation_trace.faults.GenFault.{GenFault}
use Rattle.spv_assign.specs.creation_trace.Events.{Event, Answers}
use Rattle.spv_assign.specs.creation_trace.StatementEvents.{one, several}
use Rattle.spv_assign.specs.limited_steps.Makes.{Makes}
use Rattle.spv_assign.specs.supply.Numbers.{AreThere}
use Rattle.spv_assign.proofs.creation_trace.Walks.{answered_behind, walked_behind}
use Rattle.spv_assign.proofs.supply.FreshLemmas.{AreThere-Extends}
use Rattle.spv_flow_parts.specs.declared.bodies.Body.{Body}
use Rattle.spv_flow_parts.specs.declared.leaves.valued.Called as code_called
use Rattle.spv_flow_parts.specs.declared.calls.passed.Argument as code_argument
use Rattle.spv_flow_parts.specs.Walks.{MakesTerm}
use Rattle.spv_flow_parts.specs.leaves.Values.{AreCalls}
use Rattle.spv_flow_parts.specs.calls.Arguments.{AddsArguments, AddsCalls, AddsValue, AreArguments, FitFormals, IsExpression, IsFunctionAt, IsFunctionCall, MayMake, argued_at, arguments_at, call_made, called_routine}
use Rattle.spv_flow_parts.specs.calls.Events.{argument_events, call_events, calls_in_value, made_at_call, made_events, value_events}
use Rattle.spv_flow_parts.proofs.leaves.InFront.{AreCalls-Extends}
use Rattle.spv_flow_parts.proofs.Steps.{Stands-Extends}
use Rattle.spv_flow_parts.proofs.Terms.{term_made, sort_made}
use Rattle.spv_flow_parts.proofs.calls.Adding.{both, adds_as, adds_both}
use Rattle.spv_flow_parts.proofs.calls.MadeEvents.{made_calls_both, supply_behind, value_told, selectors_told}
use Rattle.spv_flow_parts.proofs.calls.Filling.{filled_is, filled_sorts, filled_fit, filled_sort}
use Rattle.spv_flow_parts.proofs.calls.ArgumentSorts.{arguments_sorted}
use Rattle.spv_flow_parts.proofs.calls.Passing.{argument_is}
use Rattle.spv_flow_parts.proofs.calls.Typed.{callee_is}

-- ---- what may be made later

pub may_later : (p : Program) (body : Body) (a b : Arena) (n m : Supply) → MayMake p body a n → Extends a b → AreThere b m → MayMake p body b m
may_later p body a b n m may more there = record { stands = Stands-Extends p body more may.stands; typed = may.typed; there = there }

all_ok : {X E : Type 0} {P : Type 0} (r : Result X E) → P → IfOk r (λ x. P)
all_ok (Ok x) h = h
all_ok (Err e) h = tt

-- ---- a term behind the calls in it

module _ (p : Program) (body : Body) (a : Arena) (n : Supply) (may : MayMake p body a n) (e : Expression) (h : IsExpression p body.here e)
    (b : Arena) (m : Supply) (old new : List code_called.Called) (begin vs slice : List Head) (none : begin ≡ []) (as_slice : slice ≡ vs)
    (adds : AddsCalls (Ok tt) (made_calls p (routine_in p body.here) n (outer_calls e)) (calls_in_value p (routine_in p body.here) n e) a b begin vs old new m) where
  abbrev here : Option Routine
  here = routine_in p body.here

  abbrev made : MadeCalls
  made = made_calls p here n (outer_calls e)

  variables_are : slice ≡ made.variables
  variables_are = as_slice ∙ (adds.heads ∙ ap (λ (l : List Head). l ++ made.variables) none)

  shapes_are : b.shapes ≡ shapes p
  shapes_are = adds.grows.shapes ∙ may.stands.shapes

  decls_are : b.decls ≡ p.symbols
  decls_are = adds.grows.decls ∙ may.stands.decls

  abbrev term : Term
  term = filled (name_in body.variables) slice e

  pub value_fits : list_all numeral_fits slice ≡ true
  value_fits = filled_fit p body a n may e h b shapes_are decls_are slice variables_are

  pub value_sorts : IsWellSorted b.shapes b.decls term
  value_sorts = filled_sorts p body a n may e h b shapes_are decls_are slice variables_are

  is_value : term ≡ (valued p here n e).term
  is_value = filled_is p body a n may e h b shapes_are decls_are slice variables_are

  calls_are : made.calls ≡ (valued p here n e).calls
  calls_are = sym (ap (λ (v : Valued). v.calls) (value_gathered p here n e))

  supply_is : m ≡ (valued p here n e).supply
  supply_is = adds.supply ∙ sym (ap (λ (v : Valued). v.supply) (value_gathered p here n e))

  module _ (c : Arena) (r : Result TermId TermFault) (s : Result TermId GenFault) (told : IfOk s (λ t. r ≡ Ok t)) where
    pub value_added : IfOk r (λ t. tree c t ≡ term) → IfOk r (λ t. t.0 < length c.nodes) → Extends b c → AddsParts b c (term ∷ []) → (r ≡ Err Size → LacksPart c (term ∷ []))
        → ((old : Arena) (ts : List Term) → Makes r old c ts → Answers s (several ts) old c) → AddsValue s (valued p here n e) (value_events p here n e) a c old new m
    value_added is there grows only size walk =
        let t : MakesTerm s (valued p here n e).term b c = term_made b c term (valued p here n e).term is_value r s is there grows only size told walk in
        record {
          grows = Extends-trans adds.grows t.grows;
          walk = answered_behind s (calls_in_value p here n e) (one (valued p here n e).term) a b c adds.walk t.walk;
          term = t.term;
          calls = λ before k. all_ok s (subst (λ (l : List Called). AreCalls c new (before ++ l)) calls_are (AreCalls-Extends new (before ++ made.calls) t.grows (adds.calls before k)));
          supply = all_ok s supply_is;
          there = all_ok s (AreThere-Extends b c m t.grows adds.there);
        }

    pub value_has_sort : IfOk r (λ t. term_sort b.shapes b.decls term ≡ Some (sort_at c t)) → IfOk s (λ t. expression_sort p here e ≡ Some (sort_at c t))
    value_has_sort sorts =
        sort_made b c term (valued p here n e).term is_value r s (expression_sort p here e) (term_sort b.shapes b.decls term)
        (filled_sort p body a n may e h b shapes_are decls_are slice variables_are) sorts told

-- ---- a call behind its arguments

arguments_are : (a : Arena) (ts : List code_argument.Argument) (xs : List spec_argument.Argument) → AreArguments a ts xs → arguments_at a ts ≡ xs
arguments_are a [] [] h = refl
arguments_are a [] (x ∷ xs) h = absurd h
arguments_are a (t ∷ ts) [] h = absurd h
arguments_are a (t ∷ ts) (x ∷ xs) h = let first = argument_is a t x h.0 in let rest = arguments_are a ts xs h.1 in λ i. first i ∷ rest i

module _ (p : Program) (body : Body) (a : Arena) (n : Supply) (may : MayMake p body a n) (id : RoutineId) (line : ℕ) (given : Arguments)
    (b : Arena) (m : Supply) (old mid : List code_called.Called) (made ts : List code_argument.Argument) (as_slice : ts ≡ made)
    (adds : AddsArguments (Ok made) (argued p (routine_in p body.here) n given) (argument_events p (routine_in p body.here) n given) a b old mid m) where
  abbrev caller : Option Routine
  caller = routine_in p body.here

  abbrev passed : Argued
  passed = argued p caller n given

  are_passed : arguments_at b ts ≡ passed.arguments
  are_passed = ap (arguments_at b) as_slice ∙ arguments_are b made passed.arguments adds.arguments

  function_there : IsFunctionCall p body.here (call id line given) → IsFunctionAt p b (call id line given) ts
  function_there h =
      let callee = callee_is p body.here id line given h.routine h.called in
      record {
        routine = h.routine;
        at = record {
          typed = may.typed;
          shapes_are = adds.grows.shapes ∙ may.stands.shapes;
          decls_are = adds.grows.decls ∙ may.stands.decls;
          routine = callee.there;
          fit = subst (FitFormals p h.routine.formals) (sym are_passed) (arguments_sorted p caller n h.routine.formals given callee.fit);
        };
        there = subst (λ (l : List code_argument.Argument). AreArguments b l (arguments_at b ts)) (sym as_slice) (subst (AreArguments b made) (sym are_passed) adds.arguments);
      }

  pub function_at : (c : Call) → c ≡ call id line given → IsFunctionCall p body.here c → IsFunctionAt p b c ts
  function_at c is h = subst (λ (k : Call). IsFunctionAt p b k ts) (sym is) (function_there (subst (IsFunctionCall p body.here) is h))

  module _ (r : Result ⊤ GenFault) (e : Arena) (variables others : List Head) (new : List code_called.Called) (k : Supply) where
    -- what a call makes behind its arguments
    with_arguments : (o : Option Routine) (q : Routine) → o ≡ Some q → AddsCalls r (record {
      variables = head_of (called_in p o line (argued_at passed.arguments passed.supply)).term ∷ [];
      calls = (called_in p o line (argued_at passed.arguments passed.supply)).calls;
      supply = (called_in p o line (argued_at passed.arguments passed.supply)).supply;
    })
        (made_at_call p o (argued_at passed.arguments passed.supply)) b e variables others mid new k
        → AddsCalls r (record { variables = head_of (called_in p o line passed).term ∷ []; calls = (called_in p o line passed).calls ++ []; supply = (called_in p o line passed).supply })
        (argument_events p caller n given ++ made_at_call p o passed) a e variables others old new k
    with_arguments None q is h = absurd (nothing_there is)
    with_arguments (Some s) q is h = by r h
      where
        by : (r : Result ⊤ GenFault) → AddsCalls r (record {
          variables = head_of (called_in p (Some s) line (argued_at passed.arguments passed.supply)).term ∷ [];
          calls = (called_in p (Some s) line (argued_at passed.arguments passed.supply)).calls;
          supply = (called_in p (Some s) line (argued_at passed.arguments passed.supply)).supply;
        })
            (made_at_call p (Some s) (argued_at passed.arguments passed.supply)) b e variables others mid new k
            → AddsCalls r (record { variables = head_of (called_in p (Some s) line passed).term ∷ []; calls = (called_in p (Some s) line passed).calls ++ []; supply = (called_in p (Some s) line passed).supply })
            (argument_events p caller n given ++ made_at_call p (Some s) passed) a e variables others old new k
        by (Ok t) h = record {
          grows = Extends-trans adds.grows h.grows;
          walk = walked_behind (argument_events p caller n given) (made_at_call p (Some s) passed) adds.walk h.walk;
          heads = h.heads;
          calls = λ before there. subst (AreCalls e new) (regrouped before) (h.calls (before ++ passed.calls) (adds.calls before there));
          supply = h.supply;
          there = h.there;
        }
          where
            regrouped : (before : List Called) → (before ++ passed.calls) ++ (called_in p (Some s) line (argued_at passed.arguments passed.supply)).calls ≡ before ++ ((called_in p (Some s) line passed).calls ++ [])
            regrouped before =
                append_assoc before passed.calls (called_in p (Some s) line (argued_at passed.arguments passed.supply)).calls
                ∙ ap (λ (l : List Called). before ++ l) (sym (append-nil (called_in p (Some s) line passed).calls))
        by (Err f) h = record {
          grows = Extends-trans adds.grows h.grows;
          walk = answered_behind {X = ⊤} (Err f) (argument_events p caller n given) (made_at_call p (Some s) passed) a b e adds.walk h.walk;
          heads = tt;
          calls = λ before there. tt;
          supply = tt;
          there = tt;
        }

    call_there : IsFunctionCall p body.here (call id line given) → AddsCalls r (call_made p (call id line given) (argued_at (arguments_at b ts) m)) (made_at_call p (routine_at p id) (argued_at (arguments_at b ts) m)) b e variables others mid new k
        → AddsCalls r (made_calls p caller n (call id line given ∷ [])) (call_events p caller n (call id line given)) a e variables others old new k
    call_there h added =
        with_arguments (routine_at p id) h.routine (callee_is p body.here id line given h.routine h.called).there
        (subst (λ (s : Supply). AddsCalls r (call_made p (call id line given) (argued_at passed.arguments s)) (made_at_call p (routine_at p id) (argued_at passed.arguments s)) b e variables others mid new k) adds.supply
        (subst (λ (l : List spec_argument.Argument). AddsCalls r (call_made p (call id line given) (argued_at l m)) (made_at_call p (routine_at p id) (argued_at l m)) b e variables others mid new k) are_passed added))

    pub call_added : (c : Call) → c ≡ call id line given → IsFunctionCall p body.here c
        → AddsCalls r (call_made p c (argued_at (arguments_at b ts) m)) (made_at_call p (routine_at p (called_routine c)) (argued_at (arguments_at b ts) m)) b e variables others mid new k
        → AddsCalls r (made_calls p caller n (c ∷ [])) (call_events p caller n c) a e variables others old new k
    call_added c is h added =
        subst (λ (q : Call). AddsCalls r (made_calls p caller n (q ∷ [])) (call_events p caller n q) a e variables others old new k) (sym is)
        (call_there (subst (IsFunctionCall p body.here) is h)
        (subst (λ (q : Call). AddsCalls r (call_made p q (argued_at (arguments_at b ts) m)) (made_at_call p (routine_at p (called_routine q)) (argued_at (arguments_at b ts) m)) b e variables others mid new k) is added))

-- ---- calls in operands

module _ (p : Program) (here : Option Routine) (n : Supply) (a : Arena) (us : List Head) (cs : List code_called.Called) where
  -- calls behind others, where the first were made
  pub more_added : (xs ys : List Call) (first rest : List Event) (r : Result ⊤ GenFault) (b c : Arena) (vs ws : List Head) (ds es : List code_called.Called) (m k : Supply)
      → AddsCalls (Ok tt) (made_calls p here n xs) first a b us vs cs ds m → AddsCalls r (made_calls p here m ys) rest b c vs ws ds es k
      → AddsCalls r (made_calls p here n (xs ++ ys)) (first ++ rest) a c us ws cs es k
  more_added xs ys first rest r b c vs ws ds es m k before behind =
      adds_as r (both (made_calls p here n xs) (made_calls p here m ys)) (made_calls p here n (xs ++ ys)) (first ++ rest) (first ++ rest) a c us ws cs es k
      (ap (λ (s : Supply). both (made_calls p here n xs) (made_calls p here s ys)) before.supply ∙ sym (made_calls_both p here n xs ys)) refl
      (adds_both r (made_calls p here n xs) (made_calls p here m ys) first rest a b c us vs ws cs ds es m k before behind)

  -- the same of two operands
  pub operands_added : (x y : Expression) (r : Result ⊤ GenFault) (b c : Arena) (vs ws : List Head) (ds es : List code_called.Called) (m k : Supply)
      → AddsCalls (Ok tt) (made_calls p here n (outer_calls x)) (calls_in_value p here n x) a b us vs cs ds m
      → AddsCalls r (made_calls p here m (outer_calls y)) (calls_in_value p here m y) b c vs ws ds es k
      → AddsCalls r (made_calls p here n (outer_calls x ++ outer_calls y)) (calls_in_value p here n x ++ calls_in_value p here (valued p here n x).supply y) a c us ws cs es k
  operands_added x y r b c vs ws ds es m k before behind =
      subst (λ (s : Supply). AddsCalls r (made_calls p here n (outer_calls x ++ outer_calls y)) (calls_in_value p here n x ++ calls_in_value p here s y) a c us ws cs es k)
      (before.supply ∙ sym (supply_behind p here n x))
      (more_added (outer_calls x) (outer_calls y) (calls_in_value p here n x) (calls_in_value p here m y) r b c vs ws ds es m k before behind)

  -- the calls behind the pointer that a call comes to
  pub through_added : (x : Call) (line : ℕ) (t : TypeId) (others : Selectors) (r : Result ⊤ GenFault) (b c : Arena) (vs ws : List Head) (ds es : List code_called.Called) (m k : Supply)
      → AddsCalls (Ok tt) (made_calls p here n (x ∷ [])) (call_events p here n x) a b us vs cs ds m
      → AddsCalls r (made_calls p here m (selectors_outer_calls others)) (made_events p here m (selectors_outer_calls others)) b c vs ws ds es k
      → AddsCalls r (made_calls p here n (outer_calls (Through x line t others))) (calls_in_value p here n (Through x line t others)) a c us ws cs es k
  through_added x line t others r b c vs ws ds es m k before behind =
      adds_as r (made_calls p here n (x ∷ selectors_outer_calls others)) (made_calls p here n (x ∷ selectors_outer_calls others))
      (call_events p here n x ++ made_events p here m (selectors_outer_calls others)) (calls_in_value p here n (Through x line t others)) a c us ws cs es k refl
      (ap (λ (s : Supply). call_events p here n x ++ made_events p here s (selectors_outer_calls others)) before.supply
      ∙ ap (λ (l : List Event). call_events p here n x ++ l) (sym (selectors_told p here (to_cell t (called p here n x)) others)))
      (more_added (x ∷ []) (selectors_outer_calls others) (call_events p here n x) (made_events p here m (selectors_outer_calls others)) r b c vs ws ds es m k before behind)

  -- those in the selectors of a place
  pub read_added : (line : ℕ) (x : Symbol) (others : Selectors) (r : Result ⊤ GenFault) (b : Arena) (vs : List Head) (ds : List code_called.Called) (m : Supply)
      → AddsCalls r (made_calls p here n (selectors_outer_calls others)) (made_events p here n (selectors_outer_calls others)) a b us vs cs ds m
      → AddsCalls r (made_calls p here n (outer_calls (Read (designator line x others)))) (calls_in_value p here n (Read (designator line x others))) a b us vs cs ds m
  read_added line x others r b vs ds m h =
      adds_as r (made_calls p here n (selectors_outer_calls others)) (made_calls p here n (selectors_outer_calls others)) (made_events p here n (selectors_outer_calls others))
      (calls_in_value p here n (Read (designator line x others))) a b us vs cs ds m refl (sym (value_told p here n (Read (designator line x others)))) h

  -- those in an index
  pub index_added : (e : Expression) (r : Result ⊤ GenFault) (b : Arena) (vs : List Head) (ds : List code_called.Called) (m : Supply)
      → AddsCalls r (made_calls p here n (outer_calls e)) (calls_in_value p here n e) a b us vs cs ds m
      → AddsCalls r (made_calls p here n (outer_calls e ++ [])) (made_events p here n (outer_calls e ++ [])) a b us vs cs ds m
  index_added e r b vs ds m h =
      let all = sym (append-nil (outer_calls e)) in
      adds_as r (made_calls p here n (outer_calls e)) (made_calls p here n (outer_calls e ++ [])) (calls_in_value p here n e) (made_events p here n (outer_calls e ++ [])) a b us vs cs ds m
      (ap (made_calls p here n) all) (value_told p here n e ∙ ap (made_events p here n) all) h
