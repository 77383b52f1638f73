-- Expressions, places and arguments with calls.
use Rattle.std.proofs.Common.{◌≡◌, Bool, true, false, cond, not, ◌&&◌, List, [], ◌∷◌, ◌++◌, map, pos, ◌-ℤ◌, refl, sym, ap, subst, ◌∙◌, Option, Some, None, option_map}
use Rattle.std.specs.Option.{option_and_then, unwrap_or}
use Rattle.std.specs.Ordering.{int_eq}
use Rattle.std.proofs.lemmas.Bool.{false≢true}
use Rattle.std.proofs.lemmas.List.{append_assoc, append-nil, map-append}
use Rattle.spv_logic.specs.declared.names.names.Symbol.{Symbol}
use Rattle.spv_logic.specs.declared.types.TypeId.{TypeId}
use Rattle.spv_logic.specs.declared.types.Sort.{Sort}
use Rattle.spv_logic.specs.declared.types.Sort.TheVariants as sort
use Rattle.spv_logic.specs.declared.operators.Head.{Head}
use Rattle.spv_logic.specs.declared.operators.Head.TheVariants as head
use Rattle.spv_logic.specs.Values.{Value, Number, Truth, Pointer, number_of, truth_of, pointer_of}
use Rattle.spv_logic.specs.Terms.{Term, sort_eq, eval}
use Rattle.spv_logic.specs.Conditions.{Meaning, Valuation, View, Condition}
use Rattle.spv_logic.proofs.list.Tests.{left_true, right_true}
use Rattle.spv_logic.proofs.Equality.{sort_eq-true}
use Rattle.spv_program.specs.declared.types.Item.TheVariants.{Variable, Class}
use Rattle.spv_program.specs.Types.{same_type, form_at, sort_of, element_of, field_of, target_of, takes_index, takes_value}
use Rattle.spv_program.specs.Expressions.{Expression, Designator, Selectors, Call, Arguments, Numeral, Boolean, NilOf, Read, Result, Through, Negative, Calculated, Compared, Negated, Joined, designator, no_selectors, at_index, at_field, at_cell, call, no_arguments, by_value, by_place}
use Rattle.spv_program.specs.Programs.{Formal, Routine, Program, routine_in}
use Rattle.spv_program.specs.Scopes.{name_type, is_own, sort_or_int}
use Rattle.spv_program.specs.Frames.{arguments_apart}
use Rattle.spv_program.specs.Uses.{Use, name_root, expression_uses, designator_uses, selector_uses, call_uses, argument_uses, expression_calls, designator_calls, selector_calls, calls_with, argument_calls}
use Rattle.spv_program.specs.FormulaTypes.{is_sort}
use Rattle.spv_program.specs.ExpressionTypes.{is_nil, may_read, may_write, sort_of_type, result_type, stands_for, expression_sort, designator_type, selected_type, callee, arguments_fit}
use Rattle.spv_program.specs.Supplies.{Supply, fresh_variable}
use Rattle.spv_program.specs.Places.{Step, ToElement, ToField, Target, present, further, cell_behind}
use Rattle.spv_program.specs.Terms.{alone, binary, numeral, truth, head_of_arithmetic, comparing, head_of_connective, item_head}
use Rattle.spv_program.specs.Calls.{Given, AtPlace, present_argument, entry_at_call, exit_at_call}
use Rattle.spv_program.specs.ExpressionTerms.{Called, Valued, Placed, Argued, without_calls, sort_of_result, result_head, called_in, valued, placed, selected, called, argued, read_at, at_start, to_element, to_field, to_cell}
use Rattle.spv_program.specs.Laws.{HasSort}
use Rattle.spv_program.proofs.SortFacts.{some_is, is_sort-true, test_passes, behind, passed, chosen, failed}
use Rattle.spv_program.proofs.FormulaSorting.{content_told, two_truths, two_numbers}
use Rattle.spv_program.proofs.ExpressionSorting.{mapped, value_sorted}
use Rattle.spv_meaning.specs.declared.faults.Fault.TheVariants as fault
use Rattle.spv_meaning.specs.Places.{PathStep, Place, State, CellOf, IndexStep, whole, row_of, look, value_or_zero}
use Rattle.spv_meaning.specs.Views.{place_of, sees}
use Rattle.spv_meaning.specs.Outcomes.{Outcome, Ended, and_then}
use Rattle.spv_meaning.specs.Levels.{Here, Level, Bound, with_turn, enter, pop, result_in}
use Rattle.spv_meaning.specs.Evaluation as run
use Rattle.spv_meaning.specs.Evaluation.{Got, Fixed, gives, calculate, calculated, divides, compare, join, is_cell_of, holds_now, bind, formals_of, evaluate, fix, select, result, arguments}
use Rattle.spv_meaning.specs.Before.{wanted_entry, assuming_if_there, before_calls}
use Rattle.spv_rule_soundness.specs.evaluation.Laws.{root_seen, uses_seen}
use Rattle.spv_rule_soundness.specs.statements.Truth.{meaning_in, shown}
use Rattle.spv_rule_soundness.specs.statements.Runs.{all_allowed, Reaches}
use Rattle.spv_rule_soundness.proofs.evaluation.Values.{Stands, seen_left, seen_right, same_types, target_is, sides, truth_worth, arithmetic_worth, comparison_worth, connective_worth, element_sorted, field_sorted, element_at, field_stands, cell_there, got_is}
use Rattle.spv_rule_soundness.proofs.statements.Reaching.{reach_going, reach_as, true_first, true_second}
use Rattle.spv_preservation.proofs.Expressions.{is_callee}
use Rattle.spv_writes.proofs.Lists.{all_left, all_right}
use Rattle.spv_frame_law.specs.Frames.{call_shown}
use Rattle.spv_call_evaluation.specs.Known.{Knows, Widely, IsWorth}
use Rattle.spv_call_evaluation.specs.Lying.{step_at, BeginsAt, AtName, AtCell, IsFixedAt, NoneBound, ValueBound, PlaceBound, IsBoundTo}
use Rattle.spv_call_evaluation.specs.Functions.{calls_shown, value_head}
use Rattle.spv_call_evaluation.specs.Laws.{IsReady, IsTrueBefore}
use Rattle.spv_call_evaluation.proofs.Windows.{narrower, checked, checked_then, as_it_was, behind_them, first_calls, gives_now, gives_then, gives_map}
use Rattle.spv_call_evaluation.proofs.Results.{with_result}

-- ---- calls of selectors

-- a place with calls in front
abbrev with_front : List Called → Placed → Placed
with_front calls d = record { target = d.target; calls = calls ++ d.calls; supply = d.supply }

-- a place without its calls
abbrev bare : Target → Supply → Placed
bare target n = record { target = target; calls = []; supply = n }

selected_front : (p : Program) (r : Option Routine) (others : Selectors) (calls : List Called) (d : Placed) → selected p r (with_front calls d) others ≡ with_front calls (selected p r d others)
selected_front p r no_selectors calls d = refl
selected_front p r (at_index t e others) calls d =
    ap (λ c. selected p r (record { target = further (ToElement (valued p r d.supply e).term) d.target; calls = c; supply = (valued p r d.supply e).supply }) others) (append_assoc calls d.calls (valued p r d.supply e).calls)
    ∙ selected_front p r others calls (to_element d (λ m. valued p r m e))
selected_front p r (at_field t f others) calls d = selected_front p r others calls (to_field f d)
selected_front p r (at_cell line t others) calls d = selected_front p r others calls (to_cell t (read_at d))

-- the calls of selectors stand behind those of the place
selected_behind : (p : Program) (r : Option Routine) (others : Selectors) (target : Target) (calls : List Called) (n : Supply) → selected p r (record { target = target; calls = calls; supply = n }) others ≡ with_front calls (selected p r (bare target n) others)
selected_behind p r others target calls n =
    ap (λ c. selected p r (record { target = target; calls = c; supply = n }) others) (sym (append-nil calls)) ∙ selected_front p r others calls (bare target n)

-- ---- functions that are called

record Function (p : Program) (r : Option Routine) (c : Call) (t : TypeId) : Type 0 where
  routine : Routine
  is : callee p r c ≡ Some routine
  gives : routine.result ≡ Some t

function : (p : Program) (r : Option Routine) (c : Call) (t : TypeId) → option_and_then result_type (callee p r c) ≡ Some t → Function p r c t
function p r c t e = let b = behind result_type (callee p r c) t e in record { routine = b.item; is = b.is; gives = b.gives }

-- a place that may stand for a VAR parameter has a type of its sort
record StandsFor (p : Program) (t : TypeId) (o : Option TypeId) : Type 0 where
  type : TypeId
  is : o ≡ Some type
  sort_is : sort_of p.forms t ≡ sort_of p.forms type

stood_for : (p : Program) (t : TypeId) (o : Option TypeId) → stands_for p t o ≡ true → StandsFor p t o
stood_for p t None h = absurd (false≢true h)
stood_for p t (Some u) h =
    record { type = u; is = refl; sort_is = sort_eq-true (sort_of p.forms t) (sort_of p.forms u) (left_true (sort_eq (sort_of p.forms t) (sort_of p.forms u)) _ h) }

-- ---- all together

module _ (p : Program) (world : Meaning) (here : Here) (below : Option Level) (state : State) (ready : IsReady p world here below state) where
  abbrev r : Option Routine
  r = routine_in p here.routine

  abbrev symbols : Meaning
  symbols = meaning_in p world

  abbrev Before : Supply → View → List Called → List Condition → Type 0
  Before n window calls wanted = IsTrueBefore p world here state n window calls wanted

  abbrev Gives : Supply → Valued → View → List Condition → Outcome Got → Type 0
  Gives n v window wanted o = Reaches p world all_allowed Got (Widely p world here state n v.supply window wanted Got (IsWorth p symbols here state v.term)) o

  abbrev Fixes : Supply → Placed → TypeId → View → List Condition → Outcome Fixed → Type 0
  Fixes n d t window wanted o = Reaches p world all_allowed Fixed (Widely p world here state n d.supply window wanted Fixed (IsFixedAt p symbols here state d.target t)) o

  abbrev Binds : Supply → List Formal → Argued → View → List Condition → Outcome Bound → Type 0
  Binds n formals a window wanted o = Reaches p world all_allowed Bound (Widely p world here state n a.supply window wanted Bound (IsBoundTo p symbols here state formals a.arguments)) o

  abbrev Worth : Term → View → Value → Type 0
  Worth t window w = (v : Valuation) → Knows p symbols here state window v → eval symbols v t ≡ w

  abbrev Shown : List Call → Type 0
  Shown calls = calls_shown p r calls ≡ true

  abbrev Seen : List Use → Type 0
  Seen uses = uses_seen r uses ≡ true

  shown_left : (xs ys : List Call) → Shown (xs ++ ys) → Shown xs
  shown_left xs ys h = all_left (λ c. arguments_apart p r c && call_shown p r c) xs ys h

  shown_right : (xs ys : List Call) → Shown (xs ++ ys) → Shown ys
  shown_right xs ys h = all_right (λ c. arguments_apart p r c && call_shown p r c) xs ys h

  -- a term without calls
  now_given : (t : Term) (w : Value) (n : Supply) (window : View) (wanted : List Condition) → Before n window [] wanted → Worth t window w → (now : State) → now ≡ state → (choices : List Value) → Gives n (without_calls n t) window wanted (gives w now choices)
  now_given t w n window wanted from worth now same choices =
      gives_now p world here state (IsWorth p symbols here state t) n window wanted (record { value = w; state = now }) choices from (record { state_is = same; worth = worth })

  -- two operands
  two_given : (a b : Expression) (n : Supply) (window : View) (wanted : List Condition) (Q : View → Got → Type 0) (next : Got → Got → List Value → Outcome Got) (now : State) (choices : List Value)
      → Gives n (valued p r n a) window (before_calls here.routine (valued p r (valued p r n a).supply b).calls wanted) (evaluate p below here a now choices)
      → ((wider : View) → Before (valued p r n a).supply wider (valued p r (valued p r n a).supply b).calls wanted → (after : State) → after ≡ state → (rest : List Value) → Gives (valued p r n a).supply (valued p r (valued p r n a).supply b) wider wanted (evaluate p below here b after rest))
      → ((left right : Got) (wider : View) → right.state ≡ state → Worth (valued p r n a).term wider left.value → Worth (valued p r (valued p r n a).supply b).term wider right.value → Before (valued p r (valued p r n a).supply b).supply wider [] wanted → (rest : List Value) → Reaches p world all_allowed Got (Widely p world here state (valued p r (valued p r n a).supply b).supply (valued p r (valued p r n a).supply b).supply wider wanted Got Q) (next left right rest))
      → Reaches p world all_allowed Got (Widely p world here state n (valued p r (valued p r n a).supply b).supply window wanted Got Q) (and_then (evaluate p below here a now choices) (λ left rest. and_then (evaluate p below here b left.state rest) (λ right last. next left right last)))
  two_given a b n window wanted Q next now choices first second made =
      let v = valued p r n a in
      let w = valued p r v.supply b in
      gives_then p world here state (IsWorth p symbols here state v.term) Q n v.supply w.supply window (before_calls here.routine w.calls wanted) wanted (evaluate p below here a now choices) _ first
      (λ left is wider widens at rest. gives_then p world here state (IsWorth p symbols here state w.term) Q v.supply w.supply w.supply wider wanted wanted (evaluate p below here b left.state rest) _ (second wider (behind_them p world here state n v.supply window wider w.calls wanted widens) left.state at.state_is rest)
      (λ right was widest more got last. made left right widest got.state_is (λ u knows. at.worth u (narrower p symbols here state wider widest more.keeps u knows)) got.worth (behind_them p world here state v.supply w.supply wider widest [] wanted more) last))

  -- what a place holds
  held_worth : (d : Target) (t : TypeId) (window : View) (fixed : Fixed) → IsFixedAt p symbols here state d t window fixed → Worth (present d) window (holds_now fixed)
  held_worth d t window fixed at v knows =
      sym (ap (λ x. value_or_zero (look x fixed.place)) at.state_is ∙ ap value_or_zero (at.lies v knows).holds)

  -- what holds with a window holds with a wider one
  fixed_wider : (d : Target) (t : TypeId) (window wider : View) (fixed : Fixed) → ((h : Head) (w : Value) → window h ≡ Some w → wider h ≡ Some w) → IsFixedAt p symbols here state d t window fixed → IsFixedAt p symbols here state d t wider fixed
  fixed_wider d t window wider fixed keeps at =
      record { state_is = at.state_is; type_is = at.type_is; sorted = at.sorted; lies = λ v knows. at.lies v (narrower p symbols here state window wider keeps v knows) }

  as_given : {A : Type 0} (P : View → A → Type 0) (n : Supply) (window : View) (wanted : List Condition) (x : A) → Before n window [] wanted → P window x → Widely p world here state n n window wanted A P x
  as_given P n window wanted x from passes = record { wider = window; widens = as_it_was p world here state n window wanted from; passes = passes }

  -- ---- steps

  -- one step more, of the place and of its term
  longer : (v : Valuation) (place beginning : Place) (d : Target) (s : Step) → place.path ≡ beginning.path ++ map (step_at symbols v) d.path → place.path ++ step_at symbols v s ∷ [] ≡ beginning.path ++ map (step_at symbols v) (d.path ++ s ∷ [])
  longer v place beginning d s e =
      ap (λ (path : List PathStep). path ++ step_at symbols v s ∷ []) e
      ∙ (append_assoc beginning.path (map (step_at symbols v) d.path) (step_at symbols v s ∷ [])
      ∙ ap (λ path. beginning.path ++ path) (sym (map-append (step_at symbols v) d.path (s ∷ []))))

  -- as the steps of evaluations without calls have it
  as_stands : (v : Valuation) (d : Target) (n : Supply) (t : TypeId) (window : View) (fixed : Fixed) → Knows p symbols here state window v → IsFixedAt p symbols here state d t window fixed → Stands p symbols v state (bare d n) t fixed
  as_stands v d n t window fixed knows at =
      record { state_is = at.state_is; type_is = at.type_is; there = (at.lies v knows).holds; sorted = at.sorted }

  element_fixed : (d : Target) (n : Supply) (t a u : TypeId) (window : View) (fixed : Fixed) (e : Expression) (got : Got) → IsFixedAt p symbols here state d t window fixed → a ≡ t → element_of (form_at p.forms t.0) ≡ Some u → HasSort p (valued p r n e).term sort.Int → IsWorth p symbols here state (valued p r n e).term window got
      → IsFixedAt p symbols here state (further (ToElement (valued p r n e).term) d) u window (run.further (IndexStep (number_of got.value)) (unwrap_or (element_of (form_at p.forms a.0)) a) fixed.place got.state)
  element_fixed d n t a u window fixed e got at same element int worth =
      let i = (valued p r n e).term in
      record {
        state_is = worth.state_is;
        type_is = ap (λ t. unwrap_or (element_of (form_at p.forms t.0)) a) same ∙ ap (λ o. unwrap_or o a) element;
        sorted = element_sorted p (bare d n) i t u at.sorted element int;
        lies = λ v knows.
            let lies = at.lies v knows in
            let value = worth.worth v knows in
            let stands = element_at p symbols v here state knows.setting (bare d n) t a u fixed e got (as_stands v d n t window fixed knows at) same element int (got_is got.value (eval symbols v i) got.state state (sym value) worth.state_is) in
            record {
              beginning = lies.beginning;
              begins = lies.begins;
              root = lies.root;
              path = ap (λ w. fixed.place.path ++ IndexStep (number_of w) ∷ []) (sym value) ∙ longer v fixed.place lies.beginning d (ToElement i) lies.path;
              holds = stands.there;
            };
      }

  field_fixed : (d : Target) (n : Supply) (t a u : TypeId) (f : Symbol) (window : View) (fixed : Fixed) → IsFixedAt p symbols here state d t window fixed → a ≡ t → field_of (form_at p.forms t.0) f ≡ Some u
      → IsFixedAt p symbols here state (further (ToField f) d) u window (run.to_field p a f fixed)
  field_fixed d n t a u f window fixed at same field = record {
    state_is = at.state_is;
    type_is = ap (λ t. unwrap_or (field_of (form_at p.forms t.0) f) a) same ∙ ap (λ o. unwrap_or o a) field;
    sorted = field_sorted p (bare d n) f t u at.sorted field;
    lies = λ v knows.
        let lies = at.lies v knows in
        let stands = field_stands p symbols v here state knows.setting (bare d n) t a u f fixed (as_stands v d n t window fixed knows at) same field in
        record {
          beginning = lies.beginning;
          begins = lies.begins;
          root = lies.root;
          path = longer v fixed.place lies.beginning d (ToField f) lies.path;
          holds = stands.there;
        };
  }

  -- the cell that a pointer leads to
  cell_fixed : (t : Term) (c : TypeId) (window : View) (w : Value) (now : State) → now ≡ state → HasSort p t (sort.Ptr c) → sees r (Class c) ≡ true → Worth t window w → is_cell_of c (row_of now.heap (pointer_of w)) ≡ true
      → IsFixedAt p symbols here state (cell_behind c t) c window (record { place = whole (CellOf (pointer_of w)); type = c; state = now })
  cell_fixed t c window w now same pointer seen worth found = record {
    state_is = same;
    type_is = refl;
    sorted = content_told p c t pointer;
    lies = λ v knows.
        let value = worth v knows in
        let there = ap (λ (x : State). is_cell_of c (row_of x.heap (pointer_of (eval symbols v t)))) (sym same) ∙ (ap (λ x. is_cell_of c (row_of now.heap (pointer_of x))) value ∙ found) in
        record {
          beginning = whole (CellOf (pointer_of (eval symbols v t)));
          begins = AtCell c t seen there;
          root = ap (λ x. CellOf (pointer_of x)) (sym value);
          path = refl;
          holds = ap (λ x. look state (whole (CellOf (pointer_of x)))) (sym value) ∙ cell_there p symbols v here state knows.setting c (pointer_of (eval symbols v t)) seen (row_of state.heap (pointer_of (eval symbols v t))) refl there;
        };
  }

  -- where a name lies
  name_fixed : (x : Symbol) (t : TypeId) (n : Supply) (window : View) → name_type p r x ≡ Some t → root_seen r (name_root (is_own r) x) ≡ true → (now : State) → now ≡ state
      → IsFixedAt p symbols here state (at_start n (item_head p r (Variable x))).target t window (record { place = place_of here.routine now x; type = unwrap_or (name_type p r x) (record { 0 = 0 }); state = now })
  name_fixed x t n window is seen now same = record {
    state_is = same;
    type_is = ap (λ o. unwrap_or o (record { 0 = 0 })) is;
    sorted = ap (λ o. Some (sort_or_int (option_map (sort_of p.forms) o))) is;
    lies = λ v knows. record {
      beginning = place_of here.routine state x;
      begins = subst (λ o. BeginsAt p symbols v here state (head.Var x (sort_or_int (option_map (sort_of p.forms) o)) 0) None (place_of here.routine state x)) (sym is) (AtName x t is seen);
      root = ap (λ s. (place_of here.routine s x).root) same;
      path = ap (λ s. (place_of here.routine s x).path) same ∙ sym (append-nil (place_of here.routine state x).path);
      holds = ap (λ s. look state (place_of here.routine s x)) same
          ∙ (knows.setting.named x t is seen ∙ ap (λ o. Some (v (head.Var x (sort_or_int (option_map (sort_of p.forms) o)) 0))) (sym is));
    };
  }

  mutual
    pub evaluated : (e : Expression) (s : Sort) → expression_sort p r e ≡ Some s → Shown (expression_calls e) → Seen (expression_uses (is_own r) e) → (n : Supply) (window : View) (wanted : List Condition) → Before n window (valued p r n e).calls wanted → (now : State) → now ≡ state → (choices : List Value) → Gives n (valued p r n e) window wanted (evaluate p below here e now choices)
    evaluated (Numeral z) s h calls uses n window wanted from now same choices = now_given (numeral z) (Number z) n window wanted from (λ v knows. refl) now same choices
    evaluated (Boolean b) s h calls uses n window wanted from now same choices = now_given (truth b) (Truth b) n window wanted from (λ v knows. sym (truth_worth symbols v b)) now same choices
    evaluated (NilOf t) s h calls uses n window wanted from now same choices = now_given (alone (head.Nil t)) (Pointer 0) n window wanted from (λ v knows. refl) now same choices
    evaluated (Read d) s h calls uses n window wanted from now same choices =
        let t = mapped (sort_of p.forms) (designator_type p r d) s (chosen (may_read r d) _ s h) in
        gives_map p world here state (IsFixedAt p symbols here state (placed p r n d).target t.item) (IsWorth p symbols here state (valued p r n (Read d)).term) n (placed p r n d).supply window wanted _ (fix p below here d now choices) (fixed_at d t.item t.is calls false uses n window wanted from now same choices)
        (λ fixed wider widens at. record { state_is = at.state_is; worth = held_worth (placed p r n d).target t.item wider fixed at })
    evaluated (Result c) s h calls uses n window wanted from now same choices =
        let t = mapped (sort_of p.forms) (option_and_then result_type (callee p r c)) s h in
        called_at c t.item (function p r c t.item t.is) calls uses n window wanted from now same choices
    evaluated (Through c line t others) s h calls uses n window wanted from now same choices =
        let pointer = sort_of_type p (option_and_then result_type (callee p r c)) in
        let is_pointer = is_sort-true (sort.Ptr t) pointer (passed (is_sort (sort.Ptr t) pointer) _ s h) in
        let q = mapped (sort_of p.forms) (option_and_then result_type (callee p r c)) (sort.Ptr t) is_pointer in
        let u = mapped (sort_of p.forms) (selected_type p r t others) s (chosen (is_sort (sort.Ptr t) pointer) _ s h) in
        let v = called p r n c in
        let e = selected_behind p r others (cell_behind t v.term) v.calls v.supply in
        let behind_it = seen_right r (call_uses (is_own r) c) _ uses in
        subst (λ (d : Placed). Before n window d.calls wanted → Gives n (read_at d) window wanted (evaluate p below here (Through c line t others) now choices)) (sym e)
        (λ from.
        let S = selected p r (bare (cell_behind t v.term) v.supply) others in
        gives_then p world here state (IsWorth p symbols here state v.term) (IsWorth p symbols here state (present S.target)) n v.supply S.supply window (before_calls here.routine S.calls wanted) wanted (result p below here c now choices) _
        (called_at c q.item (function p r c q.item q.is) (shown_left (calls_with c) (selector_calls others) calls) (seen_left r (call_uses (is_own r) c) _ uses) n window (before_calls here.routine S.calls wanted) (first_calls p world here state n window v.calls S.calls wanted from) now same choices)
        (λ got ended wider widens at rest. checked_then p world _ (is_cell_of t (row_of got.state.heap (pointer_of got.value))) fault.Nil _ rest _
        (λ found. gives_map p world here state (IsFixedAt p symbols here state S.target u.item) (IsWorth p symbols here state (present S.target)) v.supply S.supply wider wanted _ (select p below here others (record { place = whole (CellOf (pointer_of got.value)); type = t; state = got.state }) rest)
        (selected_at others (cell_behind t v.term) t u.item v.supply wider wanted _
        (cell_fixed v.term t wider got.value got.state at.state_is (value_sorted p r n (Result c) (sort.Ptr t) is_pointer) (left_true (sees r (Class t)) _ behind_it) at.worth found)
        u.is (shown_right (calls_with c) (selector_calls others) calls) false (right_true (sees r (Class t)) _ behind_it) (behind_them p world here state n v.supply window wider S.calls wanted widens) rest)
        (λ fixed widest more lying. record { state_is = lying.state_is; worth = held_worth S.target u.item widest fixed lying }))))
        from
    evaluated (Negative e) s h calls uses n window wanted from now same choices =
        gives_map p world here state (IsWorth p symbols here state (valued p r n e).term) (IsWorth p symbols here state (valued p r n (Negative e)).term) n (valued p r n e).supply window wanted _ (evaluate p below here e now choices) (evaluated e sort.Int (is_sort-true sort.Int _ (test_passes _ _ s h)) calls uses n window wanted from now same choices)
        (λ got wider widens at. record { state_is = at.state_is; worth = λ v knows. ap (λ x. Number (pos 0 -ℤ number_of x)) (at.worth v knows) })
    evaluated (Calculated o a b) s h calls uses n window wanted from now same choices =
        let v = valued p r n a in
        let w = valued p r v.supply b in
        two_numbers _ _ s _
        (λ x y told. two_given a b n window wanted (IsWorth p symbols here state (binary (head_of_arithmetic o) v.term w.term)) (λ left right rest. calculated o left.value right rest) now choices
        (evaluated a sort.Int x (shown_left (expression_calls a) (expression_calls b) calls) (seen_left r (expression_uses (is_own r) a) _ uses) n window (before_calls here.routine w.calls wanted) (first_calls p world here state n window v.calls w.calls wanted from) now same choices)
        (λ wider from after same rest. evaluated b sort.Int y (shown_right (expression_calls a) (expression_calls b) calls) (seen_right r (expression_uses (is_own r) a) _ uses) v.supply wider wanted from after same rest)
        (λ left right wider same one two from rest. checked p world _ (not (divides o && int_eq (number_of right.value) (pos 0))) fault.Zero _ rest
        (λ passes. as_given (IsWorth p symbols here state (binary (head_of_arithmetic o) v.term w.term)) w.supply wider wanted _ from
        (record { state_is = same; worth = λ u knows. sym (arithmetic_worth symbols u o v.term w.term) ∙ (ap (λ x. Number (calculate o (number_of x) (number_of (eval symbols u w.term)))) (one u knows) ∙ ap (λ y. Number (calculate o (number_of left.value) (number_of y))) (two u knows)) })))) h
    evaluated (Compared o a b) s h calls uses n window wanted from now same choices =
        let v = valued p r n a in
        let w = valued p r v.supply b in
        let both = sides o _ _ s (failed (is_nil a && is_nil b) _ s h) in
        two_given a b n window wanted (IsWorth p symbols here state (comparing o v.term w.term)) (λ left right rest. gives (Truth (compare o left.value right.value)) right.state rest) now choices
        (evaluated a both.left both.left_is (shown_left (expression_calls a) (expression_calls b) calls) (seen_left r (expression_uses (is_own r) a) _ uses) n window (before_calls here.routine w.calls wanted) (first_calls p world here state n window v.calls w.calls wanted from) now same choices)
        (λ wider from after same rest. evaluated b both.right both.right_is (shown_right (expression_calls a) (expression_calls b) calls) (seen_right r (expression_uses (is_own r) a) _ uses) v.supply wider wanted from after same rest)
        (λ left right wider same one two from rest. gives_now p world here state _ w.supply wider wanted _ rest from
        (record { state_is = same; worth = λ u knows. sym (comparison_worth symbols u o v.term w.term) ∙ (ap (λ x. Truth (compare o x (eval symbols u w.term))) (one u knows) ∙ ap (λ y. Truth (compare o left.value y)) (two u knows)) }))
    evaluated (Negated e) s h calls uses n window wanted from now same choices =
        gives_map p world here state (IsWorth p symbols here state (valued p r n e).term) (IsWorth p symbols here state (valued p r n (Negated e)).term) n (valued p r n e).supply window wanted _ (evaluate p below here e now choices) (evaluated e sort.Bool (is_sort-true sort.Bool _ (test_passes _ _ s h)) calls uses n window wanted from now same choices)
        (λ got wider widens at. record { state_is = at.state_is; worth = λ v knows. ap (λ x. Truth (not (truth_of x))) (at.worth v knows) })
    evaluated (Joined o a b) s h calls uses n window wanted from now same choices =
        let v = valued p r n a in
        let w = valued p r v.supply b in
        two_truths _ _ s _
        (λ x y told. two_given a b n window wanted (IsWorth p symbols here state (binary (head_of_connective o) v.term w.term)) (λ left right rest. gives (Truth (join o (truth_of left.value) (truth_of right.value))) right.state rest) now choices
        (evaluated a sort.Bool x (shown_left (expression_calls a) (expression_calls b) calls) (seen_left r (expression_uses (is_own r) a) _ uses) n window (before_calls here.routine w.calls wanted) (first_calls p world here state n window v.calls w.calls wanted from) now same choices)
        (λ wider from after same rest. evaluated b sort.Bool y (shown_right (expression_calls a) (expression_calls b) calls) (seen_right r (expression_uses (is_own r) a) _ uses) v.supply wider wanted from after same rest)
        (λ left right wider same one two from rest. gives_now p world here state _ w.supply wider wanted _ rest from
        (record { state_is = same; worth = λ u knows. sym (connective_worth symbols u o v.term w.term) ∙ (ap (λ x. Truth (join o (truth_of x) (truth_of (eval symbols u w.term)))) (one u knows) ∙ ap (λ y. Truth (join o (truth_of left.value) (truth_of y))) (two u knows)) }))) h

    pub fixed_at : (d : Designator) (t : TypeId) → designator_type p r d ≡ Some t → Shown (designator_calls d) → (writes : Bool) → Seen (designator_uses (is_own r) writes d) → (n : Supply) (window : View) (wanted : List Condition) → Before n window (placed p r n d).calls wanted → (now : State) → now ≡ state → (choices : List Value) → Fixes n (placed p r n d) t window wanted (fix p below here d now choices)
    fixed_at (designator line x others) t h calls writes uses n window wanted from now same choices =
        let b = behind (λ t. selected_type p r t others) (name_type p r x) t h in
        selected_at others (at_start n (item_head p r (Variable x))).target b.item t n window wanted _
        (name_fixed x b.item n window b.is (left_true (root_seen r (name_root (is_own r) x)) _ uses) now same)
        b.gives calls writes (right_true (root_seen r (name_root (is_own r) x)) _ uses) from choices

    selected_at : (others : Selectors) (d : Target) (t u : TypeId) (n : Supply) (window : View) (wanted : List Condition) (fixed : Fixed) → IsFixedAt p symbols here state d t window fixed → selected_type p r t others ≡ Some u → Shown (selector_calls others) → (writes : Bool) → Seen (selector_uses (is_own r) writes others) → Before n window (selected p r (bare d n) others).calls wanted → (choices : List Value) → Fixes n (selected p r (bare d n) others) u window wanted (select p below here others fixed choices)
    selected_at no_selectors d t u n window wanted fixed at h calls writes uses from choices =
        gives_now p world here state (IsFixedAt p symbols here state d u) n window wanted fixed choices from (subst (λ (x : TypeId). IsFixedAt p symbols here state d x window fixed) (some_is h) at)
    selected_at (at_index a e others) d t u n window wanted fixed at h calls writes uses from choices =
        let test = same_type a t && is_sort sort.Int (expression_sort p r e) in
        let holds = passed test _ u h in
        let same = same_types a t (left_true (same_type a t) _ holds) in
        let int = is_sort-true sort.Int (expression_sort p r e) (right_true (same_type a t) _ holds) in
        let b = behind (λ u. selected_type p r u others) (element_of (form_at p.forms t.0)) u (chosen test _ u h) in
        let v = valued p r n e in
        let next = further (ToElement v.term) d in
        subst (λ (k : Placed). Before n window k.calls wanted → Fixes n k u window wanted (select p below here (at_index a e others) fixed choices)) (sym (selected_behind p r others next v.calls v.supply))
        (λ from.
        let S = selected p r (bare next v.supply) others in
        gives_then p world here state (IsWorth p symbols here state v.term) (IsFixedAt p symbols here state S.target u) n v.supply S.supply window (before_calls here.routine S.calls wanted) wanted (evaluate p below here e fixed.state choices) _
        (evaluated e sort.Int int (shown_left (expression_calls e) (selector_calls others) calls) (seen_left r (expression_uses (is_own r) e) _ uses) n window (before_calls here.routine S.calls wanted) (first_calls p world here state n window v.calls S.calls wanted from) fixed.state at.state_is choices)
        (λ got ended wider widens worth rest. checked_then p world _ (takes_index p.forms a got.value) fault.Index _ rest _
        (λ passes. selected_at others next b.item u v.supply wider wanted _
        (element_fixed d n t a b.item wider fixed e got (fixed_wider d t window wider fixed widens.keeps at) same b.is (value_sorted p r n e sort.Int int) worth)
        b.gives (shown_right (expression_calls e) (selector_calls others) calls) writes (seen_right r (expression_uses (is_own r) e) _ uses) (behind_them p world here state n v.supply window wider S.calls wanted widens) rest)))
        from
    selected_at (at_field a f others) d t u n window wanted fixed at h calls writes uses from choices =
        let same = same_types a t (passed (same_type a t) _ u h) in
        let b = behind (λ u. selected_type p r u others) (field_of (form_at p.forms t.0) f) u (chosen (same_type a t) _ u h) in
        selected_at others (further (ToField f) d) b.item u n window wanted (run.to_field p a f fixed) (field_fixed d n t a b.item f window fixed at same b.is) b.gives calls writes uses from choices
    selected_at (at_cell line c others) d t u n window wanted fixed at h calls writes uses from choices =
        let b = behind (λ w. cond (same_type c w) (selected_type p r w others) None) (target_of (form_at p.forms t.0)) u h in
        let same = same_types c b.item (passed (same_type c b.item) _ u b.gives) in
        let pointer = target_is p t b.item b.is ∙ ap sort.Ptr (sym same) in
        checked_then p world _ (is_cell_of c (row_of fixed.state.heap (pointer_of (holds_now fixed)))) fault.Nil _ choices _
        (λ found. selected_at others (cell_behind c (present d)) c u n window wanted _
        (cell_fixed (present d) c window (holds_now fixed) fixed.state at.state_is (at.sorted ∙ ap Some pointer) (left_true (sees r (Class c)) _ uses) (held_worth d t window fixed at) found)
        (ap (λ w. selected_type p r w others) same ∙ chosen (same_type c b.item) _ u b.gives) calls writes (right_true (sees r (Class c)) _ uses) from choices)

    called_at : (c : Call) (t : TypeId) → Function p r c t → Shown (calls_with c) → Seen (call_uses (is_own r) c) → (n : Supply) (window : View) (wanted : List Condition) → Before n window (called p r n c).calls wanted → (now : State) → now ≡ state → (choices : List Value) → Gives n (called p r n c) window wanted (result p below here c now choices)
    called_at (call id line given) t q calls uses n window wanted from now same choices =
        let takes = is_callee p r id line given q.routine q.is in
        subst (λ (o : Option Routine). Before n window (called_in p o line (argued p r n given)).calls wanted → Gives n (called_in p o line (argued p r n given)) window wanted
        (with_turn below choices (λ level.
        and_then (arguments p below here (formals_of o) given now choices) (λ bound rest.
        and_then (enter p level id o bound rest) (λ after last. gives (result_in o after.frames) (pop after) last)))))
        (sym takes.there)
        (λ from. by_level below refl (λ level is.
        let a = argued p r n given in
        let here_calls = shown_right (argument_calls given) (call id line given ∷ []) calls in
        let v = value_head p q.routine a.supply in
        let after = (fresh_variable q.routine.name (sort_of_result p q.routine) a.supply).supply in
        let made : Called = record {
          args = map present_argument a.arguments;
          needs = entry_at_call p q.routine a.arguments;
          gives = exit_at_call p q.routine a.arguments ((result_head p q.routine, alone v) ∷ []);
          line = line;
        } in
        gives_then p world here state (IsBoundTo p symbols here state q.routine.formals a.arguments) (IsWorth p symbols here state (alone v)) n a.supply after window (before_calls here.routine (made ∷ []) wanted) wanted (arguments p below here q.routine.formals given now choices) _
        (argued_at q.routine.formals given takes.fit (shown_left (argument_calls given) (call id line given ∷ []) calls) uses n window (before_calls here.routine (made ∷ []) wanted) (first_calls p world here state n window a.calls (made ∷ []) wanted from) now same choices)
        (λ bound ended wider widens binds rest.
        let view = shown p here wider state in
        let entry = true_first p world view (wanted_entry here.routine line made.needs) (assuming_if_there made.gives wanted) widens.true_there in
        let exit = true_second p world view (wanted_entry here.routine line made.needs) (assuming_if_there made.gives wanted) widens.true_there in
        reach_as p world all_allowed _ _ (and_then (enter p level id (Some q.routine) bound rest) (λ after last. gives (result_in (Some q.routine) after.frames) (pop after) last))
        (λ got result. with_result p world here ready.entry state q.routine a.supply wider widens.is_window a.arguments wanted exit got result)
        (ready.functions.each level is id line given q.routine t q.is q.gives here_calls choices bound
        (subst (λ (s : State). (arguments p below here q.routine.formals given s choices).end ≡ Ended bound) same ended) a.supply wider widens.is_window a.arguments binds entry rest))))
        from
      where
        by_level : {P : Got → Type 0} {go : Level → Outcome Got} (o : Option Level) → below ≡ o → ((level : Level) → below ≡ Some level → Reaches p world all_allowed Got P (go level)) → Reaches p world all_allowed Got P (with_turn o choices go)
        by_level None is later = reach_going p world all_allowed _ choices
        by_level (Some level) is later = later level is

    pub argued_at : (formals : List Formal) (given : Arguments) → arguments_fit p r formals given ≡ true → Shown (argument_calls given) → Seen (argument_uses (is_own r) given) → (n : Supply) (window : View) (wanted : List Condition) → Before n window (argued p r n given).calls wanted → (now : State) → now ≡ state → (choices : List Value) → Binds n formals (argued p r n given) window wanted (arguments p below here formals given now choices)
    argued_at [] no_arguments fit calls uses n window wanted from now same choices =
        gives_now p world here state (IsBoundTo p symbols here state [] []) n window wanted _ choices from (record { state_is = same; names = NoneBound })
    argued_at (f ∷ formals) no_arguments fit calls uses n window wanted from now same choices = absurd (false≢true fit)
    argued_at [] (by_value e others) fit calls uses n window wanted from now same choices = absurd (false≢true fit)
    argued_at [] (by_place d others) fit calls uses n window wanted from now same choices = absurd (false≢true fit)
    argued_at (f ∷ formals) (by_value e others) fit calls uses n window wanted from now same choices =
        let rest_fits = right_true (not f.by_place) _ fit in
        let s = sort_of p.forms f.of in
        let sorted = is_sort-true s (expression_sort p r e) (left_true (is_sort s (expression_sort p r e)) _ rest_fits) in
        let v = valued p r n e in
        let a = argued p r v.supply others in
        gives_then p world here state (IsWorth p symbols here state v.term) (IsBoundTo p symbols here state (f ∷ formals) (Given v.term ∷ a.arguments)) n v.supply a.supply window (before_calls here.routine a.calls wanted) wanted (evaluate p below here e now choices) _
        (evaluated e s sorted (shown_left (expression_calls e) (argument_calls others) calls) (seen_left r (expression_uses (is_own r) e) _ uses) n window (before_calls here.routine a.calls wanted) (first_calls p world here state n window v.calls a.calls wanted from) now same choices)
        (λ got ended wider widens worth rest. checked_then p world _ (takes_value p.forms f.of got.value) fault.Range got rest _
        (λ passes. gives_map p world here state (IsBoundTo p symbols here state formals a.arguments) (IsBoundTo p symbols here state (f ∷ formals) (Given v.term ∷ a.arguments)) v.supply a.supply wider wanted _ (arguments p below here formals others got.state rest)
        (argued_at formals others (right_true (is_sort s (expression_sort p r e)) _ rest_fits) (shown_right (expression_calls e) (argument_calls others) calls) (seen_right r (expression_uses (is_own r) e) _ uses) v.supply wider wanted (behind_them p world here state n v.supply window wider a.calls wanted widens) got.state worth.state_is rest)
        (λ bound widest more binds. record {
          state_is = binds.state_is;
          names = ValueBound f v.term got.value (left_true (not f.by_place) _ fit) (value_sorted p r n e s sorted) (λ u knows. worth.worth u (narrower p symbols here state wider widest more.keeps u knows)) formals a.arguments bound.names binds.names;
        })))
    argued_at (f ∷ formals) (by_place d others) fit calls uses n window wanted from now same choices =
        let rest_fits = right_true (may_write r d) _ (right_true f.by_place _ fit) in
        let k = stood_for p f.of (designator_type p r d) (left_true (stands_for p f.of (designator_type p r d)) _ rest_fits) in
        let v = placed p r n d in
        let a = argued p r v.supply others in
        gives_then p world here state (IsFixedAt p symbols here state v.target k.type) (IsBoundTo p symbols here state (f ∷ formals) (AtPlace v.target ∷ a.arguments)) n v.supply a.supply window (before_calls here.routine a.calls wanted) wanted (fix p below here d now choices) _
        (fixed_at d k.type k.is (shown_left (designator_calls d) (argument_calls others) calls) true (seen_left r (designator_uses (is_own r) true d) _ uses) n window (before_calls here.routine a.calls wanted) (first_calls p world here state n window v.calls a.calls wanted from) now same choices)
        (λ fixed ended wider widens at rest. gives_map p world here state (IsBoundTo p symbols here state formals a.arguments) (IsBoundTo p symbols here state (f ∷ formals) (AtPlace v.target ∷ a.arguments)) v.supply a.supply wider wanted _ (arguments p below here formals others fixed.state rest)
        (argued_at formals others (right_true (stands_for p f.of (designator_type p r d)) _ rest_fits) (shown_right (designator_calls d) (argument_calls others) calls) (seen_right r (designator_uses (is_own r) true d) _ uses) v.supply wider wanted (behind_them p world here state n v.supply window wider a.calls wanted widens) fixed.state at.state_is rest)
        (λ bound widest more binds. record {
          state_is = binds.state_is;
          names = PlaceBound f v.target fixed.place (left_true f.by_place _ fit) (at.sorted ∙ ap Some (sym k.sort_is)) (λ u knows. at.lies u (narrower p symbols here state wider widest more.keeps u knows)) formals a.arguments bound.names binds.names;
        }))
