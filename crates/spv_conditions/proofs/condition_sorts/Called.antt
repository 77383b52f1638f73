-- ENTRY and EXIT of a call are truth values, where its arguments fit.
use Rattle.std.proofs.Common.{◌≡◌, Bool, true, not, ◌&&◌, List, [], ◌∷◌, ◌++◌, map, Option, Some, None, option_map, refl, sym, ap, subst, ◌∙◌, cond}
use Rattle.std.specs.List.{list_all}
use Rattle.std.specs.Option.{option_and_then}
use Rattle.std.proofs.lemmas.Bool.{false≢true}
use Rattle.spv_logic.proofs.Equality.{sort_eq-true}
use Rattle.spv_logic.proofs.list.Tests.{left_true, right_true}
use Rattle.spv_logic.specs.declared.names.names.Symbol.{Symbol}
use Rattle.spv_logic.specs.declared.types.TypeId.{TypeId}
use Rattle.spv_logic.specs.declared.types.Sort.{Sort}
use Rattle.spv_logic.specs.declared.types.Sort.TheVariants as sort
use Rattle.spv_logic.specs.declared.operators.Head.{Head}
use Rattle.spv_logic.specs.declared.operators.Head.TheVariants as head
use Rattle.spv_logic.specs.declared.conditions.RoutineId.{RoutineId}
use Rattle.spv_logic.specs.Terms.{Term, sort_eq}
use Rattle.spv_logic.specs.Substitution.{substitute}
use Rattle.spv_logic.specs.Conditions.{Condition}
use Rattle.spv_program.specs.declared.types.Item.{Item}
use Rattle.spv_program.specs.declared.types.Item.TheVariants.{Variable, Class}
use Rattle.spv_program.specs.Types.{same_type, form_at, sort_of, element_of, field_of, target_of}
use Rattle.spv_program.specs.declared.operators.Comparison.{Comparison}
use Rattle.spv_program.specs.declared.operators.Comparison.TheVariants.{Equal, NotEqual, Less, AtMost, Greater, AtLeast}
use Rattle.spv_program.specs.Formulas.{Annotation}
use Rattle.spv_program.specs.Expressions.{Expression, Designator, Selectors, Call, Arguments, Numeral, Boolean, NilOf, Read, Result, Through, Negative, Calculated, Compared, Negated, Joined, designator, no_selectors, at_index, at_field, at_cell, call, no_arguments, by_value, by_place}
use Rattle.spv_program.specs.Programs.{Formal, Routine, Program, routine_at}
use Rattle.spv_program.specs.Scopes.{name_type, entry_scope, exit_scope, item_sort}
use Rattle.spv_program.specs.FormulaTypes.{is_sort, annotation_ok, numbers, compared_sort}
use Rattle.spv_program.specs.ExpressionTypes.{comparable, is_nil, may_read, may_write, stands_for, result_type, sort_of_type, expression_sort, designator_type, selected_type, callee, arguments_fit}
use Rattle.spv_program.specs.Typing.{declarations_ok, heading_ok, body_ok, routine_ok, well_typed}
use Rattle.spv_program.specs.Laws.{HasSort}
use Rattle.spv_program.specs.Supplies.{Supply, fresh_variable}
use Rattle.spv_program.specs.Terms.{alone, item_head, entry_term, exit_term}
use Rattle.spv_program.specs.Calls.{Argument, Given, AtPlace, replacing, present_argument, at_call, starts_at_call, initial_at_call, entry_at_call, exit_at_call}
use Rattle.spv_program.specs.ExpressionTerms.{Called, Argued, Placed, valued, placed, selected, called, argued, called_in, with_call, at_start, to_element, to_field, to_cell, read_at, result_head, sort_of_result}
use Rattle.spv_program.proofs.SortFacts.{is_sort-true, test_passes, two_there, some_is, behind, passed, chosen, failed}
use Rattle.spv_program.proofs.FormulaSorting.{scope_sorted, exit_sorted, one_of, two_numbers, two_truths}
use Rattle.spv_program.proofs.ExpressionSorting.{mapped, same_types, value_sorted, place_sorted}
use Rattle.spv_meaning.specs.Before.{before_calls, wanted_entry, assuming_if_there}
use Rattle.spv_meaning.proofs.RoutineStarts.{item_passes}
use Rattle.spv_rule_soundness.specs.condition_sorts.Sorted.{IsTruth, AreSorted}
use Rattle.spv_conditions.proofs.condition_sorts.Substituted.{AllKeep, substituted, pairs_keep}
use Rattle.spv_conditions.proofs.condition_sorts.Lists.{IfTruth, appended, assumed_there}

-- ---- routines

pub record RoutineRight (p : Program) (r : Routine) : Type 0 where
  pub entry : annotation_ok p (entry_scope p r) r.entry ≡ true
  pub exit : annotation_ok p (exit_scope p r) r.exit ≡ true
  pub body : body_ok p (Some r) r.body ≡ true

pub right_routine : (p : Program) (r : Routine) → routine_ok p r ≡ true → RoutineRight p r
right_routine p r h =
    let annotations = right_true (heading_ok p r) _ h in
    let behind_entry = right_true (annotation_ok p (entry_scope p r) r.entry) _ annotations in
    record {
      entry = left_true (annotation_ok p (entry_scope p r) r.entry) _ annotations;
      exit = left_true (annotation_ok p (exit_scope p r) r.exit) _ behind_entry;
      body = right_true (annotation_ok p (exit_scope p r) r.exit) _ behind_entry;
    }

pub right_at : (p : Program) → well_typed p ≡ true → (id : RoutineId) (r : Routine) → routine_at p id ≡ Some r → RoutineRight p r
right_at p typed id r e =
    right_routine p r (item_passes (routine_ok p) p.routines id.0 r (left_true (list_all (routine_ok p) p.routines) _ (right_true (declarations_ok p) _ typed)) e)

-- ---- lists of calls

-- what a call needs and what it gives are truth values
pub record IsTruthCall (p : Program) (c : Called) : Type 0 where
  pub needs : IfTruth p c.needs
  pub gives : IfTruth p c.gives

abbrev pub AreTruthCalls : Program → List Called → Type 0
AreTruthCalls p [] = Unit {0}
AreTruthCalls p (c ∷ calls) = IsTruthCall p c × AreTruthCalls p calls

-- each argument has the sort of its parameter
abbrev pub AreFitting : Program → List Formal → List Argument → Type 0
AreFitting p [] [] = Unit {0}
AreFitting p (f ∷ formals) (a ∷ arguments) = HasSort p (present_argument a) (sort_of p.forms f.of) × AreFitting p formals arguments
AreFitting p _ _ = ⊥

module _ (p : Program) where
  pub calls_both : (xs ys : List Called) → AreTruthCalls p xs → AreTruthCalls p ys → AreTruthCalls p (xs ++ ys)
  calls_both [] ys first second = second
  calls_both (c ∷ xs) ys first second = (first.0, calls_both xs ys first.1 second)

  pub entry_wanted : (here : Option RoutineId) (line : _) (o : Option Term) → IfTruth p o → AreSorted p (wanted_entry here line o)
  entry_wanted here line None h = tt
  entry_wanted here line (Some t) h = (record { given = tt; goal = h }, tt)

  -- calls in front of conditions
  pub calls_in_front : (here : Option RoutineId) (calls : List Called) (cs : List Condition) → AreTruthCalls p calls → AreSorted p cs → AreSorted p (before_calls here calls cs)
  calls_in_front here [] cs truths all = all
  calls_in_front here (c ∷ calls) cs truths all =
      appended p (wanted_entry here c.line c.needs) (assuming_if_there c.gives (before_calls here calls cs)) (entry_wanted here c.line c.needs truths.0.needs)
      (assumed_there p c.gives (before_calls here calls cs) truths.0.gives (calls_in_front here calls cs truths.1 all))

  pub both_keep : (xs ys : List (Head × Term)) → AllKeep p xs → AllKeep p ys → AllKeep p (xs ++ ys)
  both_keep [] ys first second = second
  both_keep (x ∷ xs) ys first second = (first.0, both_keep xs ys first.1 second)

  -- ---- what stands in the places of names at a call

  parameters_keep : (formals : List Formal) (arguments : List Argument) → AreFitting p formals arguments → AllKeep p (at_call p formals arguments)
  parameters_keep [] [] h = tt
  parameters_keep [] (a ∷ arguments) h = absurd h
  parameters_keep (f ∷ formals) [] h = absurd h
  parameters_keep (f ∷ formals) (a ∷ arguments) h = (h.0, parameters_keep formals arguments h.1)

  starts_keep : (formals : List Formal) (arguments : List Argument) → AreFitting p formals arguments → AllKeep p (starts_at_call p formals arguments)
  starts_keep [] [] h = tt
  starts_keep [] (a ∷ arguments) h = absurd h
  starts_keep (f ∷ formals) [] h = absurd h
  starts_keep (f ∷ formals) (Given t ∷ arguments) h = (h.0, starts_keep formals arguments h.1)
  starts_keep (f ∷ formals) (AtPlace d ∷ arguments) h = starts_keep formals arguments h.1

  -- an item has its sort
  pub item_sorted : (r : Routine) (item : Item) → HasSort p (alone (item_head p (Some r) item)) (item_sort p (Some r) item)
  item_sorted r (Variable x) = refl
  item_sorted r (Class t) = refl

  initial_keep : (r : Routine) (arguments : List Argument) → AreFitting p r.formals arguments → (items : List (Symbol × Item))
      → AllKeep p (map (λ (i : Symbol × Item). (head.Var i.0 (item_sort p (Some r) i.1) 0, substitute (replacing (at_call p r.formals arguments)) (alone (item_head p (Some r) i.1)))) items)
  initial_keep r arguments h [] = tt
  initial_keep r arguments h (i ∷ items) = (
    substituted p (replacing (at_call p r.formals arguments)) (pairs_keep p (at_call p r.formals arguments) (parameters_keep r.formals arguments h)) (alone (item_head p (Some r) i.1)) (item_sort p (Some r) i.1) (item_sorted r i.1),
    initial_keep r arguments h items,
  )

  -- ---- ENTRY and EXIT at a call

  pub entry_truth : (r : Routine) (a : Annotation) → annotation_ok p (entry_scope p r) (Some a) ≡ true → IsTruth p (entry_term p r a)
  entry_truth r a h = scope_sorted p (entry_scope p r) a.formula sort.Bool (is_sort-true sort.Bool _ h)

  pub exit_truth : (r : Routine) (a : Annotation) → annotation_ok p (exit_scope p r) (Some a) ≡ true → IsTruth p (exit_term p r a)
  exit_truth r a h = exit_sorted p r a.formula sort.Bool (is_sort-true sort.Bool _ h)

  module _ (r : Routine) (right : RoutineRight p r) (arguments : List Argument) (fit : AreFitting p r.formals arguments) where
    pub needs_truth : IfTruth p (entry_at_call p r arguments)
    needs_truth = by r.entry right.entry
      where
        by : (o : Option Annotation) → annotation_ok p (entry_scope p r) o ≡ true → IfTruth p (option_map (λ a. substitute (replacing (at_call p r.formals arguments)) (entry_term p r a)) o)
        by None ok = tt
        by (Some a) ok = substituted p (replacing (at_call p r.formals arguments)) (pairs_keep p (at_call p r.formals arguments) (parameters_keep r.formals arguments fit)) (entry_term p r a) sort.Bool (entry_truth r a ok)

    pub gives_truth : (after : List (Head × Term)) → AllKeep p after → IfTruth p (exit_at_call p r arguments after)
    gives_truth after keep = by r.exit right.exit
      where
        pairs : List (Head × Term)
        pairs = starts_at_call p r.formals arguments ++ (initial_at_call p r arguments ++ after)

        pairs_right : AllKeep p pairs
        pairs_right =
            both_keep (starts_at_call p r.formals arguments) (initial_at_call p r arguments ++ after) (starts_keep r.formals arguments fit)
            (both_keep (initial_at_call p r arguments) after (initial_keep r arguments fit r.initial) keep)

        by : (o : Option Annotation) → annotation_ok p (exit_scope p r) o ≡ true → IfTruth p (option_map (λ a. substitute (replacing pairs) (exit_term p r a)) o)
        by None ok = tt
        by (Some a) ok = substituted p (replacing pairs) (pairs_keep p pairs pairs_right) (exit_term p r a) sort.Bool (exit_truth r a ok)

-- ---- calls in expressions

-- a place that stands for a VAR parameter has its sort
record Standing (p : Program) (t : TypeId) (o : Option TypeId) : Type 0 where
  type : TypeId
  is : o ≡ Some type
  same : sort_of p.forms type ≡ sort_of p.forms t

stood_for : (p : Program) (t : TypeId) (o : Option TypeId) → stands_for p t o ≡ true → Standing p t o
stood_for p t None h = absurd (false≢true h)
stood_for p t (Some u) h =
    record { type = u; is = refl; same = sym (sort_eq-true (sort_of p.forms t) (sort_of p.forms u) (left_true (sort_eq (sort_of p.forms t) (sort_of p.forms u)) _ h)) }

-- a call whose arguments fit
pub record Fitting (p : Program) (here : Option Routine) (c : RoutineId) (given : Arguments) (r : Routine) : Type 0 where
  pub there : routine_at p c ≡ Some r
  pub fit : arguments_fit p here r.formals given ≡ true

pub fitting : (p : Program) (here : Option Routine) (id : RoutineId) (line : _) (given : Arguments) (r : Routine) → callee p here (call id line given) ≡ Some r → Fitting p here id given r
fitting p here id line given r e =
    let b = behind (λ q. cond (arguments_fit p here q.formals given) (Some q) None) (routine_at p id) r e in
    let fits = passed (arguments_fit p here b.item.formals given) (Some b.item) r b.gives in
    let same = some_is (chosen (arguments_fit p here b.item.formals given) (Some b.item) r b.gives) in
    record {
      there = b.is ∙ ap Some same;
      fit = subst (λ (q : Routine). arguments_fit p here q.formals given ≡ true) same fits;
    }

two_sorted_numbers : (a b : Option Sort) (r : Sort) (P : Type 0) → ((s t : Sort) → a ≡ Some s → b ≡ Some t → P) → numbers a b sort.Bool ≡ Some r → P
two_sorted_numbers a b r P go h =
    let both = test_passes (is_sort sort.Int a && is_sort sort.Int b) sort.Bool r h in
    go sort.Int sort.Int (is_sort-true sort.Int a (left_true _ _ both)) (is_sort-true sort.Int b (right_true (is_sort sort.Int a) _ both))

module _ (p : Program) (typed : well_typed p ≡ true) (here : Option Routine) where
  pub arguments_sorted : (n : Supply) (formals : List Formal) (given : Arguments) → arguments_fit p here formals given ≡ true → AreFitting p formals (argued p here n given).arguments
  arguments_sorted n [] no_arguments h = tt
  arguments_sorted n [] (by_value e others) h = absurd (false≢true h)
  arguments_sorted n [] (by_place d others) h = absurd (false≢true h)
  arguments_sorted n (f ∷ formals) no_arguments h = absurd (false≢true h)
  arguments_sorted n (f ∷ formals) (by_value e others) h =
      let more = right_true (not f.by_place) _ h in (
        value_sorted p here n e (sort_of p.forms f.of) (is_sort-true (sort_of p.forms f.of) (expression_sort p here e) (left_true (is_sort (sort_of p.forms f.of) (expression_sort p here e)) _ more)),
        arguments_sorted (valued p here n e).supply formals others (right_true (is_sort (sort_of p.forms f.of) (expression_sort p here e)) _ more),
      )
  arguments_sorted n (f ∷ formals) (by_place d others) h =
      let more = right_true (may_write here d) _ (right_true f.by_place _ h) in
      let k = stood_for p f.of (designator_type p here d) (left_true (stands_for p f.of (designator_type p here d)) _ more) in (
        place_sorted p here n d k.type k.is ∙ ap Some k.same,
        arguments_sorted (placed p here n d).supply formals others (right_true (stands_for p f.of (designator_type p here d)) _ more),
      )

  -- a call behind those of its arguments
  one_truth : (line : _) (r : Routine) → RoutineRight p r → (given : Argued) → AreFitting p r.formals given.arguments → AreTruthCalls p given.calls → AreTruthCalls p (with_call p r line given).calls
  one_truth line r right given fit truths =
      let value = fresh_variable r.name (sort_of_result p r) given.supply in
      calls_both p given.calls _ truths (
        record {
          needs = needs_truth p r right given.arguments fit;
          gives = gives_truth p r right given.arguments fit ((result_head p r, alone value.head) ∷ []) (refl, tt);
        },
        tt,
      )

  -- the sorts of two things that are compared are there
  both_there : (comparable : Sort → Bool) (o : Comparison) (a b : Option Sort) (r : Sort) (P : Type 0) → ((s t : Sort) → a ≡ Some s → b ≡ Some t → P) → compared_sort comparable o a b ≡ Some r → P
  both_there comparable Equal a b r P go h = let k = two_there a b _ r h in go k.left k.right k.left_is k.right_is
  both_there comparable NotEqual a b r P go h = let k = two_there a b _ r h in go k.left k.right k.left_is k.right_is
  both_there comparable Less a b r P go h = two_sorted_numbers a b r P go h
  both_there comparable AtMost a b r P go h = two_sorted_numbers a b r P go h
  both_there comparable Greater a b r P go h = two_sorted_numbers a b r P go h
  both_there comparable AtLeast a b r P go h = two_sorted_numbers a b r P go h

  mutual
    pub value_calls : (n : Supply) (e : Expression) (s : Sort) → expression_sort p here e ≡ Some s → AreTruthCalls p (valued p here n e).calls
    value_calls n (Numeral z) s h = tt
    value_calls n (Boolean b) s h = tt
    value_calls n (NilOf t) s h = tt
    value_calls n (Read d) s h =
        let t = mapped (sort_of p.forms) (designator_type p here d) s (chosen (may_read here d) _ s h) in
        place_calls n d t.item t.is
    value_calls n (Result c) s h =
        let t = mapped (sort_of p.forms) (option_and_then result_type (callee p here c)) s h in
        call_calls n c t.item t.is
    value_calls n (Through c line t others) s h =
        let given = sort_of_type p (option_and_then result_type (callee p here c)) in
        let pointer = is_sort-true (sort.Ptr t) given (passed (is_sort (sort.Ptr t) given) _ s h) in
        let r = mapped (sort_of p.forms) (option_and_then result_type (callee p here c)) (sort.Ptr t) pointer in
        let u = mapped (sort_of p.forms) (selected_type p here t others) s (chosen (is_sort (sort.Ptr t) given) _ s h) in
        selected_calls (to_cell t (called p here n c)) t u.item others u.is (call_calls n c r.item r.is)
    value_calls n (Negative e) s h = one_of sort.Int sort.Int (expression_sort p here e) s (AreTruthCalls p (valued p here n e).calls) (λ is told. value_calls n e sort.Int is) h
    value_calls n (Calculated o a b) s h =
        two_numbers (expression_sort p here a) (expression_sort p here b) s (AreTruthCalls p (valued p here n (Calculated o a b)).calls)
        (λ x y told. calls_both p (valued p here n a).calls (valued p here (valued p here n a).supply b).calls (value_calls n a sort.Int x) (value_calls (valued p here n a).supply b sort.Int y)) h
    value_calls n (Compared o a b) s h =
        both_there comparable o (expression_sort p here a) (expression_sort p here b) s (AreTruthCalls p (valued p here n (Compared o a b)).calls)
        (λ x y x_is y_is. calls_both p (valued p here n a).calls (valued p here (valued p here n a).supply b).calls (value_calls n a x x_is) (value_calls (valued p here n a).supply b y y_is)) (failed (is_nil a && is_nil b) _ s h)
    value_calls n (Negated e) s h = one_of sort.Bool sort.Bool (expression_sort p here e) s (AreTruthCalls p (valued p here n e).calls) (λ is told. value_calls n e sort.Bool is) h
    value_calls n (Joined o a b) s h =
        two_truths (expression_sort p here a) (expression_sort p here b) s (AreTruthCalls p (valued p here n (Joined o a b)).calls)
        (λ x y told. calls_both p (valued p here n a).calls (valued p here (valued p here n a).supply b).calls (value_calls n a sort.Bool x) (value_calls (valued p here n a).supply b sort.Bool y)) h

    pub place_calls : (n : Supply) (d : Designator) (t : TypeId) → designator_type p here d ≡ Some t → AreTruthCalls p (placed p here n d).calls
    place_calls n (designator line x others) t h =
        let r = behind (λ t. selected_type p here t others) (name_type p here x) t h in
        selected_calls (at_start n (item_head p here (Variable x))) r.item t others r.gives tt

    selected_calls : (d : Placed) (t u : TypeId) (others : Selectors) → selected_type p here t others ≡ Some u → AreTruthCalls p d.calls → AreTruthCalls p (selected p here d others).calls
    selected_calls d t u no_selectors h truths = truths
    selected_calls d t u (at_index a e others) h truths =
        let test = same_type a t && is_sort sort.Int (expression_sort p here e) in
        let int = is_sort-true sort.Int (expression_sort p here e) (right_true (same_type a t) _ (passed test _ u h)) in
        let r = behind (λ u. selected_type p here u others) (element_of (form_at p.forms t.0)) u (chosen test _ u h) in
        selected_calls (to_element d (λ m. valued p here m e)) r.item u others r.gives (calls_both p d.calls (valued p here d.supply e).calls truths (value_calls d.supply e sort.Int int))
    selected_calls d t u (at_field a f others) h truths =
        let r = behind (λ u. selected_type p here u others) (field_of (form_at p.forms t.0) f) u (chosen (same_type a t) _ u h) in
        selected_calls (to_field f d) r.item u others r.gives truths
    selected_calls d t u (at_cell line c others) h truths =
        let r = behind (λ v. cond (same_type c v) (selected_type p here v others) None) (target_of (form_at p.forms t.0)) u h in
        let same = same_types c r.item (passed (same_type c r.item) _ u r.gives) in
        selected_calls (to_cell c (read_at d)) c u others (ap (λ v. selected_type p here v others) same ∙ chosen (same_type c r.item) _ u r.gives) truths

    call_calls : (n : Supply) (c : Call) (t : TypeId) → option_and_then result_type (callee p here c) ≡ Some t → AreTruthCalls p (called p here n c).calls
    call_calls n (call id line given) t e =
        let f = behind result_type (callee p here (call id line given)) t e in
        let k = fitting p here id line given f.item f.is in
        subst (λ (o : Option Routine). AreTruthCalls p (called_in p o line (argued p here n given)).calls) (sym k.there)
        (one_truth line f.item (right_at p typed id f.item k.there) (argued p here n given) (arguments_sorted n f.item.formals given k.fit) (argument_calls n f.item.formals given k.fit))

    pub argument_calls : (n : Supply) (formals : List Formal) (given : Arguments) → arguments_fit p here formals given ≡ true → AreTruthCalls p (argued p here n given).calls
    argument_calls n [] no_arguments h = tt
    argument_calls n [] (by_value e others) h = absurd (false≢true h)
    argument_calls n [] (by_place d others) h = absurd (false≢true h)
    argument_calls n (f ∷ formals) no_arguments h = absurd (false≢true h)
    argument_calls n (f ∷ formals) (by_value e others) h =
        let more = right_true (not f.by_place) _ h in
        calls_both p (valued p here n e).calls (argued p here (valued p here n e).supply others).calls
        (value_calls n e (sort_of p.forms f.of) (is_sort-true (sort_of p.forms f.of) (expression_sort p here e) (left_true (is_sort (sort_of p.forms f.of) (expression_sort p here e)) _ more)))
        (argument_calls (valued p here n e).supply formals others (right_true (is_sort (sort_of p.forms f.of) (expression_sort p here e)) _ more))
    argument_calls n (f ∷ formals) (by_place d others) h =
        let more = right_true (may_write here d) _ (right_true f.by_place _ h) in
        let k = stood_for p f.of (designator_type p here d) (left_true (stands_for p f.of (designator_type p here d)) _ more) in
        calls_both p (placed p here n d).calls (argued p here (placed p here n d).supply others).calls
        (place_calls n d k.type k.is)
        (argument_calls (placed p here n d).supply formals others (right_true (stands_for p f.of (designator_type p here d)) _ more))
