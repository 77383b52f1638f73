-- The terms of well typed expressions and places are well sorted.
use Rattle.std.proofs.Common.{◌≡◌, Bool, true, false, cond, ◌&&◌, List, [], ◌∷◌, ◌++◌, map, pos, refl, sym, ap, ◌∙◌, nat_eq, Option, Some, None, option_map}
use Rattle.std.specs.Option.{option_and_then}
use Rattle.std.proofs.lemmas.Bool.{eqb-true}
use Rattle.spv_logic.specs.declared.names.names.Symbol.{Symbol}
use Rattle.spv_logic.specs.declared.types.TypeId.{TypeId}
use Rattle.spv_logic.specs.declared.types.Sort.{Sort}
use Rattle.spv_logic.specs.declared.types.Sort.TheVariants as sort
use Rattle.spv_logic.specs.declared.operators.Head.TheVariants as head
use Rattle.spv_logic.specs.Terms.{Term}
use Rattle.spv_logic.specs.Shapes.{element_of_shape, element_sort, fields_of_shape, fields_of, field_sort, field_sort_of}
use Rattle.spv_logic.specs.Sorts.{term_sort}
use Rattle.spv_logic.proofs.list.Tests.{right_true}
use Rattle.spv_program.specs.declared.types.TypeField.{TypeField}
use Rattle.spv_program.specs.declared.types.TypeForm.{TypeForm}
use Rattle.spv_program.specs.declared.types.TypeForm.TheVariants.{Integer, Boolean, Range, Pointer, Array, Record}
use Rattle.spv_program.specs.declared.types.Item.TheVariants.{Variable}
use Rattle.spv_program.specs.Types.{same_type, form_at, sort_of, sort_of_form, shape_of_form, element_of, field_type, field_of, target_of, type_exists}
use Rattle.spv_program.specs.Expressions.{Expression, Designator, Selectors, Call, Numeral, Boolean, NilOf, Read, Result, Through, Negative, Calculated, Compared, Negated, Joined, designator, no_selectors, at_index, at_field, at_cell, call}
use Rattle.spv_program.specs.Programs.{Routine, Program, shapes, routine_at}
use Rattle.spv_program.specs.Scopes.{name_type, sort_or_int}
use Rattle.spv_program.specs.FormulaTypes.{is_sort}
use Rattle.spv_program.specs.ExpressionTypes.{comparable, is_nil, may_read, sort_of_type, result_type, expression_sort, designator_type, selected_type, callee, arguments_fit}
use Rattle.spv_program.specs.Supplies.{Supply}
use Rattle.spv_program.specs.Places.{Step, ToElement, ToField, part, part_behind, base, present, further}
use Rattle.spv_program.specs.Terms.{alone, item_head}
use Rattle.spv_program.specs.ExpressionTerms.{Placed, sort_of_result, called_in, valued, placed, selected, called, argued, read_at, at_start, to_element, to_field, to_cell}
use Rattle.spv_program.specs.Laws.{HasSort}
use Rattle.spv_program.proofs.SortFacts.{sort_one, sort_two, arithmetic_sort, connective_sort, nothing_there, some_is, is_sort-true, sort_told, Behind, behind, passed, chosen, failed, comparison_sort, shape_is}
use Rattle.spv_program.proofs.FormulaSorting.{selected_sort, field_sort_told, content_told, two_truths, two_numbers, one_of, truth_sort}

-- ---- steps

-- a further step is a part of what stood there
pub present-further : (d : Placed) (s : Step) → present (further s d.target) ≡ part (present d.target) s
present-further d s = fold_on (base d.target.root d.target.pointer) d.target.path
  where
    fold_on : (t : Term) (path : List Step) → part_behind t (path ++ s ∷ []) ≡ part (part_behind t path) s
    fold_on t [] = refl
    fold_on t (u ∷ path) = fold_on (part t u) path

pub same_types : (t u : TypeId) → same_type t u ≡ true → t ≡ u
same_types t u h = let e = eqb-true t.0 u.0 h in λ i. record { 0 = e i }

element_there : (p : Program) (t u : TypeId) (f : TypeForm) → form_at p.forms t.0 ≡ f → element_of f ≡ Some u → element_sort (shapes p) (sort_of_form f t) ≡ Some (sort_of p.forms u)
element_there p t u Integer is e = absurd (nothing_there e)
element_there p t u Boolean is e = absurd (nothing_there e)
element_there p t u (Range low high) is e = absurd (nothing_there e)
element_there p t u (Pointer v) is e = absurd (nothing_there e)
element_there p t u (Array index v) is e =
    ap element_of_shape (shape_is p.forms t.0 ∙ ap (shape_of_form p.forms) is) ∙ ap (λ v. Some (sort_of p.forms v)) (some_is e)
element_there p t u (Record fields) is e = absurd (nothing_there e)

-- the element type's sort is the sort of the elements
pub element_told : (p : Program) (t u : TypeId) → element_of (form_at p.forms t.0) ≡ Some u → element_sort (shapes p) (sort_of p.forms t) ≡ Some (sort_of p.forms u)
element_told p t u e = element_there p t u (form_at p.forms t.0) refl e

field_mapped : (p : Program) (fields : List TypeField) (f : Symbol) (u : TypeId) → field_type fields f ≡ Some u → field_sort (map (λ g. record { name = g.name; sort = sort_of p.forms g.of }) fields) f.0 ≡ Some (sort_of p.forms u)
field_mapped p [] f u e = absurd (nothing_there e)
field_mapped p (g ∷ fields) f u e = by_case (nat_eq g.name.0 f.0) e (field_mapped p fields f u)
  where
    by_case : (b : Bool) → cond b (Some g.of) (field_type fields f) ≡ Some u → (field_type fields f ≡ Some u → field_sort (map (λ g. record { name = g.name; sort = sort_of p.forms g.of }) fields) f.0 ≡ Some (sort_of p.forms u))
        → cond b (Some (sort_of p.forms g.of)) (field_sort (map (λ g. record { name = g.name; sort = sort_of p.forms g.of }) fields) f.0) ≡ Some (sort_of p.forms u)
    by_case true e later = ap (λ v. Some (sort_of p.forms v)) (some_is e)
    by_case false e later = later e

field_there : (p : Program) (t u : TypeId) (name : Symbol) (f : TypeForm) → form_at p.forms t.0 ≡ f → field_of f name ≡ Some u → field_sort_of (fields_of (shapes p) (sort_of_form f t)) name.0 ≡ Some (sort_of p.forms u)
field_there p t u name Integer is e = absurd (nothing_there e)
field_there p t u name Boolean is e = absurd (nothing_there e)
field_there p t u name (Range low high) is e = absurd (nothing_there e)
field_there p t u name (Pointer v) is e = absurd (nothing_there e)
field_there p t u name (Array index v) is e = absurd (nothing_there e)
field_there p t u name (Record fields) is e =
    ap (λ s. field_sort_of (fields_of_shape s) name.0) (shape_is p.forms t.0 ∙ ap (shape_of_form p.forms) is) ∙ field_mapped p fields name u e

pub field_told : (p : Program) (t u : TypeId) (name : Symbol) → field_of (form_at p.forms t.0) name ≡ Some u → field_sort_of (fields_of (shapes p) (sort_of p.forms t)) name.0 ≡ Some (sort_of p.forms u)
field_told p t u name e = field_there p t u name (form_at p.forms t.0) refl e

pub target_there : (f : TypeForm) (t u : TypeId) → target_of f ≡ Some u → sort_of_form f t ≡ sort.Ptr u
target_there Integer t u e = absurd (nothing_there e)
target_there Boolean t u e = absurd (nothing_there e)
target_there (Range low high) t u e = absurd (nothing_there e)
target_there (Pointer v) t u e = ap sort.Ptr (some_is e)
target_there (Array index v) t u e = absurd (nothing_there e)
target_there (Record fields) t u e = absurd (nothing_there e)

-- ---- calls

-- a call's term is a variable of the sort of the function's result
call_sort : (p : Program) (here : Option Routine) (n : Supply) (c : Call) (t : TypeId) → option_and_then result_type (callee p here c) ≡ Some t → HasSort p (called p here n c).term (sort_of p.forms t)
call_sort p here n (call r line given) t e = by_routine (routine_at p r) e
  where
    by_routine : (o : Option Routine) → option_and_then result_type (option_and_then (λ called. cond (arguments_fit p here called.formals given) (Some called) None) o) ≡ Some t → HasSort p (called_in p o line (argued p here n given)).term (sort_of p.forms t)
    by_routine None e = absurd (nothing_there e)
    by_routine (Some r) e = by_fit (arguments_fit p here r.formals given) e
      where
        by_fit : (b : Bool) → option_and_then result_type (cond b (Some r) None) ≡ Some t → Some (sort_of_result p r) ≡ Some (sort_of p.forms t)
        by_fit true e = ap (λ o. Some (sort_or_int (sort_of_type p o))) e
        by_fit false e = absurd (nothing_there e)

-- ---- expressions

pub mapped : {X Y : Type 0} (f : X → Y) (o : Option X) (y : Y) → option_map f o ≡ Some y → Behind (λ x. Some (f x)) o y
mapped f None y e = absurd (nothing_there e)
mapped f (Some x) y e = record { item = x; is = refl; gives = e }

mutual
  pub value_sorted : (p : Program) (here : Option Routine) (n : Supply) (e : Expression) (s : Sort) → expression_sort p here e ≡ Some s → HasSort p (valued p here n e).term s
  value_sorted p here n (Numeral z) s h = h
  value_sorted p here n (Boolean b) s h = truth_sort p b ∙ h
  value_sorted p here n (NilOf t) s h = ap Some (sort_told (type_exists p.forms t) (sort.Ptr t) s h)
  value_sorted p here n (Read d) s h =
      let t = mapped (sort_of p.forms) (designator_type p here d) s (chosen (may_read here d) _ s h) in
      place_sorted p here n d t.item t.is ∙ t.gives
  value_sorted p here n (Result c) s h =
      let t = mapped (sort_of p.forms) (option_and_then result_type (callee p here c)) s h in
      call_sort p here n c t.item t.is ∙ t.gives
  value_sorted p here n (Through c line t others) s h =
      let given = sort_of_type p (option_and_then result_type (callee p here c)) in
      let pointer = is_sort-true (sort.Ptr t) given (passed (is_sort (sort.Ptr t) given) _ s h) in
      let r = mapped (sort_of p.forms) (option_and_then result_type (callee p here c)) (sort.Ptr t) pointer in
      let u = mapped (sort_of p.forms) (selected_type p here t others) s (chosen (is_sort (sort.Ptr t) given) _ s h) in
      selected_sorted p here (to_cell t (called p here n c)) t u.item others (content_told p t (called p here n c).term (call_sort p here n c r.item r.is ∙ r.gives)) u.is ∙ u.gives
  value_sorted p here n (Negative e) s h =
      one_of sort.Int sort.Int (expression_sort p here e) s (HasSort p (valued p here n (Negative e)).term s)
      (λ is told. sort_two (shapes p) p.symbols head.Sub (alone (head.Num (pos 0))) (valued p here n e).term sort.Int sort.Int s refl (value_sorted p here n e sort.Int is) (ap Some told)) h
  value_sorted p here n (Calculated o a b) s h =
      two_numbers (expression_sort p here a) (expression_sort p here b) s (HasSort p (valued p here n (Calculated o a b)).term s)
      (λ x y told. arithmetic_sort (shapes p) p.symbols o (valued p here n a).term (valued p here (valued p here n a).supply b).term (value_sorted p here n a sort.Int x) (value_sorted p here (valued p here n a).supply b sort.Int y) ∙ ap Some told) h
  value_sorted p here n (Compared o a b) s h =
      comparison_sort (shapes p) p.symbols comparable o (valued p here n a).term (valued p here (valued p here n a).supply b).term (expression_sort p here a) (expression_sort p here b) s (value_sorted p here n a) (value_sorted p here (valued p here n a).supply b)
      (failed (is_nil a && is_nil b) _ s h)
  value_sorted p here n (Negated e) s h =
      one_of sort.Bool sort.Bool (expression_sort p here e) s (HasSort p (valued p here n (Negated e)).term s)
      (λ is told. sort_one (shapes p) p.symbols head.Not (valued p here n e).term sort.Bool s (value_sorted p here n e sort.Bool is) (ap Some told)) h
  value_sorted p here n (Joined o a b) s h =
      two_truths (expression_sort p here a) (expression_sort p here b) s (HasSort p (valued p here n (Joined o a b)).term s)
      (λ x y told. connective_sort (shapes p) p.symbols o (valued p here n a).term (valued p here (valued p here n a).supply b).term (value_sorted p here n a sort.Bool x) (value_sorted p here (valued p here n a).supply b sort.Bool y) ∙ ap Some told) h

  pub place_sorted : (p : Program) (here : Option Routine) (n : Supply) (d : Designator) (t : TypeId) → designator_type p here d ≡ Some t → HasSort p (present (placed p here n d).target) (sort_of p.forms t)
  place_sorted p here n (designator line x others) t h =
      let r = behind (λ t. selected_type p here t others) (name_type p here x) t h in
      selected_sorted p here (at_start n (item_head p here (Variable x))) r.item t others (ap (λ o. Some (sort_or_int (option_map (sort_of p.forms) o))) r.is) r.gives

  pub selected_sorted : (p : Program) (here : Option Routine) (d : Placed) (t u : TypeId) (others : Selectors) → HasSort p (present d.target) (sort_of p.forms t) → selected_type p here t others ≡ Some u → HasSort p (present (selected p here d others).target) (sort_of p.forms u)
  selected_sorted p here d t u no_selectors here_sort h = here_sort ∙ ap (λ t. Some (sort_of p.forms t)) (some_is h)
  selected_sorted p here d t u (at_index a e others) here_sort h =
      let test = same_type a t && is_sort sort.Int (expression_sort p here e) in
      let int = is_sort-true sort.Int (expression_sort p here e) (right_true (same_type a t) _ (passed test _ u h)) in
      let r = behind (λ u. selected_type p here u others) (element_of (form_at p.forms t.0)) u (chosen test _ u h) in
      let next = to_element d (λ m. valued p here m e) in
      selected_sorted p here next r.item u others
      (ap (term_sort (shapes p) p.symbols) (present-further d (ToElement (valued p here d.supply e).term))
      ∙ sort_two (shapes p) p.symbols head.Select (present d.target) (valued p here d.supply e).term (sort_of p.forms t) sort.Int (sort_of p.forms r.item) here_sort (value_sorted p here d.supply e sort.Int int) (selected_sort (shapes p) (sort_of p.forms t) (sort_of p.forms r.item) (element_told p t r.item r.is)))
      r.gives
  selected_sorted p here d t u (at_field a f others) here_sort h =
      let r = behind (λ u. selected_type p here u others) (field_of (form_at p.forms t.0) f) u (chosen (same_type a t) _ u h) in
      selected_sorted p here (to_field f d) r.item u others
      (ap (term_sort (shapes p) p.symbols) (present-further d (ToField f))
      ∙ sort_one (shapes p) p.symbols (head.Field f) (present d.target) (sort_of p.forms t) (sort_of p.forms r.item) here_sort (field_sort_told (shapes p) (sort_of p.forms t) (sort_of p.forms r.item) _ (field_told p t r.item f r.is)))
      r.gives
  selected_sorted p here d t u (at_cell line c others) here_sort h =
      let r = behind (λ v. cond (same_type c v) (selected_type p here v others) None) (target_of (form_at p.forms t.0)) u h in
      let same = same_types c r.item (passed (same_type c r.item) _ u r.gives) in
      let pointer = target_there (form_at p.forms t.0) t r.item r.is in
      selected_sorted p here (to_cell c (read_at d)) c u others
      (content_told p c (present d.target) (here_sort ∙ ap Some (pointer ∙ ap sort.Ptr (sym same))))
      (ap (λ v. selected_type p here v others) same ∙ chosen (same_type c r.item) _ u r.gives)
