-- What framed programs say of the roots that bodies change.
use Rattle.std.proofs.Common.{◌≡◌, arith, nat_eq, ℕ, Bool, true, false, cond, not, ◌&&◌, ◌||◌, List, [], ◌∷◌, ◌++◌, map, filter, refl, sym, ap, subst, ◌∙◌, Option, Some, None, is_some}
use Rattle.std.specs.Option.{option_and_then, unwrap_or}
use Rattle.std.specs.List.{list_all, list_any, flat_map}
use Rattle.std.specs.Ordering.{int_eq}
use Rattle.std.specs.Cmp.Derive.{both_true}
use Rattle.std.proofs.lemmas.Bool.{false≢true, eq-eqb}
use Rattle.std.proofs.lemmas.Bool.Decides.{nat_tests}
use Rattle.spv_logic.proofs.list.Tests.{left_true, right_true}
use Rattle.spv_logic.specs.declared.names.names.Symbol.{Symbol}
use Rattle.spv_logic.specs.declared.types.TypeId.{TypeId}
use Rattle.spv_logic.specs.declared.types.Sort.{Sort}
use Rattle.spv_logic.specs.declared.types.Sort.TheVariants as sort
use Rattle.spv_logic.specs.declared.conditions.RoutineId.{RoutineId}
use Rattle.spv_program.specs.declared.types.Item.{Item}
use Rattle.spv_program.specs.declared.types.Item.TheVariants.{Variable, Class}
use Rattle.spv_program.specs.Lists.{found, all_differ, same_name}
use Rattle.spv_program.specs.Types.{same_type, form_at, sort_of, element_of, field_of, target_of, same_item}
use Rattle.spv_program.specs.Expressions.{Expression, Designator, Selectors, Call, Arguments, Numeral, Boolean, NilOf, Read, Result, Through, Negative, Calculated, Compared, Negated, Joined, designator, no_selectors, at_index, at_field, at_cell, call, no_arguments, by_value, by_place}
use Rattle.spv_program.specs.Formulas as formula
use Rattle.spv_program.specs.Formulas.{Formula, Formulas, Annotation, no_formulas, formulas}
use Rattle.spv_program.specs.Statements.{Statement, Arms, Empty, Assign, Perform, New, Sequence, If, Case, While, Repeat, For, Assert, no_arms, arm}
use Rattle.spv_program.specs.Programs.{Formal, GlobalItem, Routine, Program, routine_at, lists}
use Rattle.spv_program.specs.Scopes.{is_own, is_initial as initial_here, name_type, result_name, body_scope, is_value_parameter}
use Rattle.spv_program.specs.Uses.{Root, Own, Shared, Use, has_cell, name_root, annotation_uses, formula_uses, formulas_uses, expression_uses, designator_uses, selector_uses, call_uses, argument_uses, statement_uses, arms_uses, statement_calls}
use Rattle.spv_program.specs.Frames.{is_formal, is_initial, routine_uses, use_allowed, lists_cover, globals_of, arguments_apart, callee_covered, changes_nothing, routine_framed, framed}
use Rattle.spv_program.specs.Changes.{var_items, items_of_callee, changed_by_call, changed_roots}
use Rattle.spv_program.specs.FormulaTypes.{is_sort, same_sort, annotation_ok}
use Rattle.spv_program.specs.ExpressionTypes.{is_nil, may_read, may_write, sort_of_type, result_type, stands_for, expression_sort, designator_type, selected_type, callee, arguments_fit}
use Rattle.spv_program.specs.Typing.{well_typed, leads_to, labels_in, is_procedure, may_count, counting_ok, statement_ok, arms_ok}
use Rattle.spv_program.proofs.SortFacts.{is_sort-true, Behind, behind, passed, chosen, failed}
use Rattle.spv_program.proofs.FormulaSorting.{two_truths, two_numbers, one_of}
use Rattle.spv_program.proofs.ExpressionSorting.{mapped}
use Rattle.spv_meaning.proofs.RoutineStarts.{item_passes}
use Rattle.spv_preservation.proofs.Calls.{routine_right}
use Rattle.spv_preservation.proofs.Expressions.{compares}
use Rattle.spv_writes.proofs.Lists.{all_both, all_left, all_right, or_left, or_right, swapped}
use Rattle.spv_frame_law.proofs.Covering.{items_same, is_own_or}
use Rattle.spv_frame_law.proofs.Records.{use_kept, KeepsTo, AllKeepTo}

-- ---- names that stand for the same

abbrev pub first_of_place : Designator → Symbol
first_of_place (designator line x others) = x

-- the names that statements may read, write and count with are own or not own alike
pub record Alike (p : Program) (r : Option Routine) (wide own : Symbol → Bool) : Type 0 where
  pub reads : (d : Designator) (t : TypeId) → designator_type p r d ≡ Some t → may_read r d ≡ true → wide (first_of_place d) ≡ own (first_of_place d)
  pub writes : (d : Designator) (t : TypeId) → designator_type p r d ≡ Some t → may_write r d ≡ true → wide (first_of_place d) ≡ own (first_of_place d)
  pub counts : (x : Symbol) → may_count r x ≡ true → wide x ≡ own x

-- expressions whose names are own or not own alike have the same uses
module _ (p : Program) (r : Option Routine) (wide own : Symbol → Bool) (alike : Alike p r wide own) where
  both_alike : (a b : Expression) → expression_uses wide a ≡ expression_uses own a → expression_uses wide b ≡ expression_uses own b → expression_uses wide a ++ expression_uses wide b ≡ expression_uses own a ++ expression_uses own b
  both_alike a b one two = λ i. one i ++ two i

  mutual
    pub expression_alike : (e : Expression) (s : Sort) → expression_sort p r e ≡ Some s → expression_uses wide e ≡ expression_uses own e
    expression_alike (Numeral z) s h = refl
    expression_alike (Boolean b) s h = refl
    expression_alike (NilOf t) s h = refl
    expression_alike (Read d) s h =
        let t = mapped (sort_of p.forms) (designator_type p r d) s (chosen (may_read r d) _ s h) in
        designator_alike d t.item t.is false (alike.reads d t.item t.is (passed (may_read r d) _ s h))
    expression_alike (Result c) s h =
        let t = mapped (sort_of p.forms) (option_and_then result_type (callee p r c)) s h in
        let q = behind result_type (callee p r c) t.item t.is in
        call_alike c q.item q.is
    expression_alike (Through c line t others) s h =
        let given = sort_of_type p (option_and_then result_type (callee p r c)) in
        let pointer = is_sort-true (sort.Ptr t) given (passed (is_sort (sort.Ptr t) given) _ s h) in
        let k = mapped (sort_of p.forms) (option_and_then result_type (callee p r c)) (sort.Ptr t) pointer in
        let q = behind result_type (callee p r c) k.item k.is in
        let u = mapped (sort_of p.forms) (selected_type p r t others) s (chosen (is_sort (sort.Ptr t) given) _ s h) in
        let one = call_alike c q.item q.is in
        let two = selector_alike others t u.item u.is false in
        λ i. one i ++ record { root = Shared (Class t); changes = false; line = line } ∷ two i
    expression_alike (Negative e) s h =
        one_of sort.Int sort.Int (expression_sort p r e) s (expression_uses wide e ≡ expression_uses own e) (λ is told. expression_alike e sort.Int is) h
    expression_alike (Calculated o a b) s h =
        two_numbers (expression_sort p r a) (expression_sort p r b) s (expression_uses wide (Calculated o a b) ≡ expression_uses own (Calculated o a b))
        (λ x y told. both_alike a b (expression_alike a sort.Int x) (expression_alike b sort.Int y)) h
    expression_alike (Compared o a b) s h =
        let c = compares o (expression_sort p r a) (expression_sort p r b) s (failed (is_nil a && is_nil b) _ s h) in
        both_alike a b (expression_alike a c.left c.left_is) (expression_alike b c.right c.right_is)
    expression_alike (Negated e) s h =
        one_of sort.Bool sort.Bool (expression_sort p r e) s (expression_uses wide e ≡ expression_uses own e) (λ is told. expression_alike e sort.Bool is) h
    expression_alike (Joined o a b) s h =
        two_truths (expression_sort p r a) (expression_sort p r b) s (expression_uses wide (Joined o a b) ≡ expression_uses own (Joined o a b))
        (λ x y told. both_alike a b (expression_alike a sort.Bool x) (expression_alike b sort.Bool y)) h

    pub designator_alike : (d : Designator) (t : TypeId) → designator_type p r d ≡ Some t → (writes : Bool) → wide (first_of_place d) ≡ own (first_of_place d) → designator_uses wide writes d ≡ designator_uses own writes d
    designator_alike (designator line x others) t h writes name =
        let q = behind (λ t. selected_type p r t others) (name_type p r x) t h in
        let rest = selector_alike others q.item t q.gives writes in
        λ i. record { root = cond (name i) (Own x) (Shared (Variable x)); changes = writes && not (has_cell others); line = line } ∷ rest i

    selector_alike : (others : Selectors) (t u : TypeId) → selected_type p r t others ≡ Some u → (writes : Bool) → selector_uses wide writes others ≡ selector_uses own writes others
    selector_alike no_selectors t u h writes = refl
    selector_alike (at_index a e others) t u h writes =
        let test = same_type a t && is_sort sort.Int (expression_sort p r e) in
        let int = is_sort-true sort.Int (expression_sort p r e) (right_true (same_type a t) _ (passed test _ u h)) in
        let k = behind (λ u. selected_type p r u others) (element_of (form_at p.forms t.0)) u (chosen test _ u h) in
        let one = expression_alike e sort.Int int in
        let two = selector_alike others k.item u k.gives writes in
        λ i. one i ++ two i
    selector_alike (at_field a f others) t u h writes =
        let k = behind (λ u. selected_type p r u others) (field_of (form_at p.forms t.0) f) u (chosen (same_type a t) _ u h) in
        selector_alike others k.item u k.gives writes
    selector_alike (at_cell line c others) t u h writes =
        let k = behind (λ v. cond (same_type c v) (selected_type p r v others) None) (target_of (form_at p.forms t.0)) u h in
        let rest = selector_alike others k.item u (chosen (same_type c k.item) _ u k.gives) writes in
        λ i. record { root = Shared (Class c); changes = writes && not (has_cell others); line = line } ∷ rest i

    pub call_alike : (c : Call) (q : Routine) → callee p r c ≡ Some q → call_uses wide c ≡ call_uses own c
    call_alike (call id line given) q h =
        let k = behind (λ called. cond (arguments_fit p r called.formals given) (Some called) None) (routine_at p id) q h in
        arguments_alike k.item.formals given (passed (arguments_fit p r k.item.formals given) (Some k.item) q k.gives)

    arguments_alike : (formals : List Formal) (given : Arguments) → arguments_fit p r formals given ≡ true → argument_uses wide given ≡ argument_uses own given
    arguments_alike formals no_arguments fit = refl
    arguments_alike [] (by_value e others) fit = absurd (false≢true fit)
    arguments_alike [] (by_place d others) fit = absurd (false≢true fit)
    arguments_alike (f ∷ formals) (by_value e others) fit =
        let rest_fit = right_true (not f.by_place) _ fit in
        let s = is_sort-true (sort_of p.forms f.of) (expression_sort p r e) (left_true (is_sort (sort_of p.forms f.of) (expression_sort p r e)) _ rest_fit) in
        let one = expression_alike e (sort_of p.forms f.of) s in
        let two = arguments_alike formals others (right_true (is_sort (sort_of p.forms f.of) (expression_sort p r e)) _ rest_fit) in
        λ i. one i ++ two i
    arguments_alike (f ∷ formals) (by_place d others) fit =
        let rest_fit = right_true (may_write r d) _ (right_true f.by_place _ fit) in
        let u = stands (designator_type p r d) (left_true (stands_for p f.of (designator_type p r d)) _ rest_fit) in
        let one = designator_alike d u.item u.is true (alike.writes d u.item u.is (left_true (may_write r d) _ (right_true f.by_place _ fit))) in
        let two = arguments_alike formals others (right_true (stands_for p f.of (designator_type p r d)) _ rest_fit) in
        λ i. one i ++ two i
      where
        stands : (o : Option TypeId) → stands_for p f.of o ≡ true → Behind (λ u. Some u) o (unwrap_or o f.of)
        stands None h = absurd (false≢true h)
        stands (Some u) h = record { item = u; is = refl; gives = refl }

-- ---- uses that are allowed

pub item_itself : (i : Item) → same_item i i ≡ true
item_itself (Variable x) = eq-eqb x.0 x.0 refl
item_itself (Class t) = eq-eqb t.0 t.0 refl

-- what a list has in a VAR group is among the items that it may change
pub listed : (globals : List GlobalItem) (i : Item) → lists globals i true ≡ true → list_any (same_item i) (var_items globals) ≡ true
listed [] i h = h
listed (g ∷ globals) i h = by_group g.is_var h (listed globals i)
  where
    by_group : (b : Bool) → ((same_item g.item i && (b || false)) || lists globals i true) ≡ true → (lists globals i true ≡ true → list_any (same_item i) (var_items globals) ≡ true)
        → list_any (same_item i) (map (λ g. g.item) (cond b (g ∷ filter (λ g. g.is_var) globals) (filter (λ g. g.is_var) globals))) ≡ true
    by_group true h later = by_item (same_item g.item i) refl h
      where
        by_item : (b : Bool) → same_item g.item i ≡ b → ((b && true) || lists globals i true) ≡ true → (same_item i g.item || list_any (same_item i) (var_items globals)) ≡ true
        by_item true e h = or_left (same_item i g.item) _ (swapped same_item items_same item_itself i g.item ∙ e)
        by_item false e h = or_right (same_item i g.item) _ (later h)
    by_group false h later = later (by_item (same_item g.item i) h)
      where
        by_item : (b : Bool) → ((b && false) || lists globals i true) ≡ true → lists globals i true ≡ true
        by_item true h = h
        by_item false h = h

allowed_kept : (globals : List GlobalItem) (root : Root) (changes : Bool) → use_allowed globals root changes ≡ true → (not changes || is_own_or (var_items globals) root) ≡ true
allowed_kept globals root false h = refl
allowed_kept globals (Own x) true h = refl
allowed_kept globals (Shared i) true h = listed globals i h

abbrev Allowed : List GlobalItem → List Use → Type 0
Allowed globals us = list_all (λ u. use_allowed globals u.root u.changes) us ≡ true

abbrev Kept : List GlobalItem → List Use → Type 0
Kept globals us = list_all (use_kept (is_own_or (var_items globals))) us ≡ true

all_kept : (globals : List GlobalItem) (us : List Use) → Allowed globals us → Kept globals us
all_kept globals [] h = refl
all_kept globals (u ∷ us) h =
    both_true (allowed_kept globals u.root u.changes (left_true (use_allowed globals u.root u.changes) _ h)) (all_kept globals us (right_true (use_allowed globals u.root u.changes) _ h))

-- uses that are the same
same_kept : (globals : List GlobalItem) (us vs : List Use) → us ≡ vs → Allowed globals us → Kept globals vs
same_kept globals us vs same h = all_kept globals vs (subst (Allowed globals) same h)

-- annotations write nothing
mutual
  formula_kept : (keep : Root → Bool) (own : Symbol → Bool) (f : Formula) → list_all (use_kept keep) (formula_uses own f) ≡ true
  formula_kept keep own (formula.Numeral z) = refl
  formula_kept keep own (formula.Boolean b) = refl
  formula_kept keep own (formula.NilOf t) = refl
  formula_kept keep own (formula.Named line x) = refl
  formula_kept keep own (formula.ClassOf line t) = refl
  formula_kept keep own (formula.Element a i) = all_both (use_kept keep) (formula_uses own a) (formula_uses own i) (formula_kept keep own a) (formula_kept keep own i)
  formula_kept keep own (formula.FieldOf r f) = formula_kept keep own r
  formula_kept keep own (formula.Content line t q) = all_both (use_kept keep) (formula_uses own q) (record { root = Shared (Class t); changes = false; line = line } ∷ []) (formula_kept keep own q) refl
  formula_kept keep own (formula.Applied f fs) = formulas_kept keep own fs
  formula_kept keep own (formula.Known b fs) = formulas_kept keep own fs
  formula_kept keep own (formula.Negative f) = formula_kept keep own f
  formula_kept keep own (formula.Calculated o f g) = all_both (use_kept keep) (formula_uses own f) (formula_uses own g) (formula_kept keep own f) (formula_kept keep own g)
  formula_kept keep own (formula.Compared o f g) = all_both (use_kept keep) (formula_uses own f) (formula_uses own g) (formula_kept keep own f) (formula_kept keep own g)
  formula_kept keep own (formula.Negated f) = formula_kept keep own f
  formula_kept keep own (formula.Joined o f g) = all_both (use_kept keep) (formula_uses own f) (formula_uses own g) (formula_kept keep own f) (formula_kept keep own g)
  formula_kept keep own (formula.Implied f g) = all_both (use_kept keep) (formula_uses own f) (formula_uses own g) (formula_kept keep own f) (formula_kept keep own g)

  formulas_kept : (keep : Root → Bool) (own : Symbol → Bool) (fs : Formulas) → list_all (use_kept keep) (formulas_uses own fs) ≡ true
  formulas_kept keep own no_formulas = refl
  formulas_kept keep own (formulas f fs) = all_both (use_kept keep) (formula_uses own f) (formulas_uses own fs) (formula_kept keep own f) (formulas_kept keep own fs)

annotation_kept : (keep : Root → Bool) (own : Symbol → Bool) (f : Option Annotation) → list_all (use_kept keep) (annotation_uses own f) ≡ true
annotation_kept keep own None = refl
annotation_kept keep own (Some a) = formula_kept keep own a.formula

-- ---- statements

-- statements whose uses are allowed with some names taken for own ones write only own names and items of VAR groups
module _ (p : Program) (r : Option Routine) (wide own : Symbol → Bool) (alike : Alike p r wide own) (globals : List GlobalItem) where
  abbrev allowed : Use → Bool
  allowed u = use_allowed globals u.root u.changes

  abbrev keeps : Use → Bool
  keeps = use_kept (is_own_or (var_items globals))

  test_kept : (e : Expression) (s : Sort) → is_sort s (expression_sort p r e) ≡ true → Allowed globals (expression_uses wide e) → Kept globals (expression_uses own e)
  test_kept e s h all = same_kept globals (expression_uses wide e) (expression_uses own e) (expression_alike p r wide own alike e s (is_sort-true s (expression_sort p r e) h)) all

  -- two parts, one behind the other
  parts_kept : (us vs us' vs' : List Use) → Allowed globals (us ++ vs) → (Allowed globals us → Kept globals us') → (Allowed globals vs → Kept globals vs') → Kept globals (us' ++ vs')
  parts_kept us vs us' vs' all one two = all_both keeps us' vs' (one (all_left allowed us vs all)) (two (all_right allowed us vs all))

  place_kept : (d : Designator) (t : TypeId) → designator_type p r d ≡ Some t → may_write r d ≡ true → Allowed globals (designator_uses wide true d) → Kept globals (designator_uses own true d)
  place_kept d t is ok all = same_kept globals (designator_uses wide true d) (designator_uses own true d) (designator_alike p r wide own alike d t is true (alike.writes d t is ok)) all

  mutual
    statement_kept : (s : Statement) → statement_ok p r s ≡ true → Allowed globals (statement_uses wide s) → Kept globals (statement_uses own s)
    statement_kept Empty ok all = refl
    statement_kept (Assign d e) ok all = by_type (designator_type p r d) refl (right_true (may_write r d) _ ok)
      where
        by_type : (o : Option TypeId) → designator_type p r d ≡ o → same_sort (sort_of_type p o) (expression_sort p r e) ≡ true → Kept globals (statement_uses own (Assign d e))
        by_type None is h = absurd (false≢true h)
        by_type (Some t) is h =
            parts_kept (designator_uses wide true d) (expression_uses wide e) (designator_uses own true d) (expression_uses own e) all
            (place_kept d t is (left_true (may_write r d) _ ok)) (test_kept e (sort_of p.forms t) h)
    statement_kept (Perform c) ok all = by_callee (callee p r c) refl ok
      where
        by_callee : (o : Option Routine) → callee p r c ≡ o → is_procedure o ≡ true → Kept globals (statement_uses own (Perform c))
        by_callee None is h = absurd (false≢true h)
        by_callee (Some q) is h = same_kept globals (call_uses wide c) (call_uses own c) (call_alike p r wide own alike c q is) all
    statement_kept (New line d t) ok all = by_type (designator_type p r d) refl (right_true (may_write r d) _ ok)
      where
        by_type : (o : Option TypeId) → designator_type p r d ≡ o → leads_to p t o ≡ true → Kept globals (statement_uses own (New line d t))
        by_type None is h = absurd (false≢true h)
        by_type (Some q) is h =
            let new : List Use = record { root = Shared (Class t); changes = true; line = line } ∷ [] in
            parts_kept (designator_uses wide true d) new (designator_uses own true d) new all (place_kept d q is (left_true (may_write r d) _ ok)) (all_kept globals new)
    statement_kept (Sequence a b) ok all =
        parts_kept (statement_uses wide a) (statement_uses wide b) (statement_uses own a) (statement_uses own b) all
        (statement_kept a (left_true (statement_ok p r a) _ ok)) (statement_kept b (right_true (statement_ok p r a) _ ok))
    statement_kept (If line e a b) ok all =
        let parts = right_true (is_sort sort.Bool (expression_sort p r e)) (statement_ok p r a && statement_ok p r b) ok in
        parts_kept (expression_uses wide e) (statement_uses wide a ++ statement_uses wide b) (expression_uses own e) (statement_uses own a ++ statement_uses own b) all
        (test_kept e sort.Bool (left_true (is_sort sort.Bool (expression_sort p r e)) _ ok)) (λ all.
        parts_kept (statement_uses wide a) (statement_uses wide b) (statement_uses own a) (statement_uses own b) all
        (statement_kept a (left_true (statement_ok p r a) _ parts)) (statement_kept b (right_true (statement_ok p r a) _ parts)))
    statement_kept (Case line e arms) ok all =
        let parts = right_true (is_sort sort.Int (expression_sort p r e)) (all_differ int_eq (labels_in arms) && arms_ok p r arms) ok in
        parts_kept (expression_uses wide e) (arms_uses wide arms) (expression_uses own e) (arms_uses own arms) all
        (test_kept e sort.Int (left_true (is_sort sort.Int (expression_sort p r e)) _ ok)) (arms_kept arms (right_true (all_differ int_eq (labels_in arms)) _ parts))
    statement_kept (While line f e s) ok all =
        let parts = right_true (annotation_ok p (body_scope p r) f) (is_sort sort.Bool (expression_sort p r e) && statement_ok p r s) ok in
        parts_kept (annotation_uses wide f) (expression_uses wide e ++ statement_uses wide s) (annotation_uses own f) (expression_uses own e ++ statement_uses own s) all
        (λ all. annotation_kept (is_own_or (var_items globals)) own f) (λ all.
        parts_kept (expression_uses wide e) (statement_uses wide s) (expression_uses own e) (statement_uses own s) all
        (test_kept e sort.Bool (left_true (is_sort sort.Bool (expression_sort p r e)) _ parts)) (statement_kept s (right_true (is_sort sort.Bool (expression_sort p r e)) _ parts)))
    statement_kept (Repeat line f s e) ok all =
        let parts = right_true (annotation_ok p (body_scope p r) f) (is_sort sort.Bool (expression_sort p r e) && statement_ok p r s) ok in
        parts_kept (annotation_uses wide f) (statement_uses wide s ++ expression_uses wide e) (annotation_uses own f) (statement_uses own s ++ expression_uses own e) all
        (λ all. annotation_kept (is_own_or (var_items globals)) own f) (λ all.
        parts_kept (statement_uses wide s) (expression_uses wide e) (statement_uses own s) (expression_uses own e) all
        (statement_kept s (right_true (is_sort sort.Bool (expression_sort p r e)) _ parts)) (test_kept e sort.Bool (left_true (is_sort sort.Bool (expression_sort p r e)) _ parts)))
    statement_kept (For line f count s) ok all =
        let parts = right_true (annotation_ok p (body_scope p r) f) (counting_ok p r count s && statement_ok p r s) ok in
        let head = right_true (may_count r count.variable) _ (left_true (counting_ok p r count s) _ parts) in
        let number = mapped (sort_of p.forms) (name_type p r count.variable) sort.Int (is_sort-true sort.Int _ (left_true (is_sort sort.Int (sort_of_type p (name_type p r count.variable))) _ head)) in
        let ends_are = right_true (is_sort sort.Int (sort_of_type p (name_type p r count.variable))) _ head in
        let name = alike.counts count.variable (left_true (may_count r count.variable) _ (left_true (counting_ok p r count s) _ parts)) in
        parts_kept (annotation_uses wide f) (counter wide ∷ (expression_uses wide count.first ++ (expression_uses wide count.last ++ statement_uses wide s))) (annotation_uses own f) (counter own ∷ (expression_uses own count.first ++ (expression_uses own count.last ++ statement_uses own s))) all
        (λ all. annotation_kept (is_own_or (var_items globals)) own f) (λ all.
        parts_kept (counter wide ∷ []) (expression_uses wide count.first ++ (expression_uses wide count.last ++ statement_uses wide s)) (counter own ∷ []) (expression_uses own count.first ++ (expression_uses own count.last ++ statement_uses own s)) all
        (same_kept globals (counter wide ∷ []) (counter own ∷ []) (λ i. record { root = cond (name i) (Own count.variable) (Shared (Variable count.variable)); changes = true; line = line } ∷ [])) (λ all.
        parts_kept (expression_uses wide count.first) (expression_uses wide count.last ++ statement_uses wide s) (expression_uses own count.first) (expression_uses own count.last ++ statement_uses own s) all
        (test_kept count.first sort.Int (left_true (is_sort sort.Int (expression_sort p r count.first)) _ ends_are)) (λ all.
        parts_kept (expression_uses wide count.last) (statement_uses wide s) (expression_uses own count.last) (statement_uses own s) all
        (test_kept count.last sort.Int (left_true (is_sort sort.Int (expression_sort p r count.last)) _ (right_true (is_sort sort.Int (expression_sort p r count.first)) _ ends_are)))
        (statement_kept s (right_true (counting_ok p r count s) _ parts)))))
      where
        counter : (Symbol → Bool) → Use
        counter own = record { root = name_root own count.variable; changes = true; line = line }
    statement_kept (Assert a) ok all = formula_kept (is_own_or (var_items globals)) own a.formula

    arms_kept : (arms : Arms) → arms_ok p r arms ≡ true → Allowed globals (arms_uses wide arms) → Kept globals (arms_uses own arms)
    arms_kept no_arms ok all = refl
    arms_kept (arm labels s others) ok all =
        parts_kept (statement_uses wide s) (arms_uses wide others) (statement_uses own s) (arms_uses own others) all
        (statement_kept s (left_true (statement_ok p r s) _ ok)) (arms_kept others (right_true (statement_ok p r s) _ ok))

-- ---- routines

pub kept_roots : (keep : Root → Bool) (us : List Use) → list_all (use_kept keep) us ≡ true → list_all keep (map (λ u. u.root) (filter (λ u. u.changes) us)) ≡ true
kept_roots keep [] h = refl
kept_roots keep (u ∷ us) h = by_change u.changes (left_true (use_kept keep u) _ h) (kept_roots keep us (right_true (use_kept keep u) _ h))
  where
    by_change : (b : Bool) → (not b || keep u.root) ≡ true → list_all keep (map (λ u. u.root) (filter (λ u. u.changes) us)) ≡ true
        → list_all keep (map (λ u. u.root) (cond b (u ∷ filter (λ u. u.changes) us) (filter (λ u. u.changes) us))) ≡ true
    by_change true ok later = both_true ok later
    by_change false ok later = later

-- a caller's list has what the callee's list may change
covered_items : (outer inner : List GlobalItem) → lists_cover outer inner ≡ true → list_all (is_own_or (var_items outer)) (map Shared (var_items inner)) ≡ true
covered_items outer [] h = refl
covered_items outer (g ∷ inner) h = by_group g.is_var (left_true (lists outer g.item g.is_var) _ h) (covered_items outer inner (right_true (lists outer g.item g.is_var) _ h))
  where
    by_group : (b : Bool) → lists outer g.item b ≡ true → list_all (is_own_or (var_items outer)) (map Shared (var_items inner)) ≡ true
        → list_all (is_own_or (var_items outer)) (map Shared (map (λ g. g.item) (cond b (g ∷ filter (λ g. g.is_var) inner) (filter (λ g. g.is_var) inner)))) ≡ true
    by_group true h later = both_true (listed outer g.item h) later
    by_group false h later = later

called_items : (p : Program) (globals : List GlobalItem) (cs : List Call) → list_all (callee_covered p globals) cs ≡ true → list_all (is_own_or (var_items globals)) (flat_map (changed_by_call p) cs) ≡ true
called_items p globals [] h = refl
called_items p globals (call id line given ∷ cs) h =
    all_both (is_own_or (var_items globals)) (map Shared (items_of_callee (routine_at p id))) (flat_map (changed_by_call p) cs)
    (of_callee (routine_at p id) (left_true (lists_cover globals (globals_of (routine_at p id))) _ h)) (called_items p globals cs (right_true (lists_cover globals (globals_of (routine_at p id))) _ h))
  where
    of_callee : (o : Option Routine) → lists_cover globals (globals_of o) ≡ true → list_all (is_own_or (var_items globals)) (map Shared (items_of_callee o)) ≡ true
    of_callee None h = refl
    of_callee (Some q) h = covered_items globals q.globals h

covered_calls : (p : Program) (r : Option Routine) (globals : List GlobalItem) (cs : List Call) → list_all (λ c. callee_covered p globals c && arguments_apart p r c) cs ≡ true → list_all (callee_covered p globals) cs ≡ true
covered_calls p r globals [] h = refl
covered_calls p r globals (c ∷ cs) h =
    both_true (left_true (callee_covered p globals c) _ (left_true (callee_covered p globals c && arguments_apart p r c) _ h)) (covered_calls p r globals cs (right_true (callee_covered p globals c && arguments_apart p r c) _ h))

found_behind : {X : Type 0} (xs ys : List (Symbol × X)) (x : Symbol) → is_some (found ys x) ≡ true → is_some (found (xs ++ ys) x) ≡ true
found_behind [] ys x h = h
found_behind {X} (n ∷ xs) ys x h = by_name (same_name n.0 x) (found_behind xs ys x h)
  where
    by_name : (b : Bool) → is_some (found (xs ++ ys) x) ≡ true → is_some (cond b (Some n.1) (found (xs ++ ys) x)) ≡ true
    by_name true later = refl
    by_name false later = later

parameter_own : (formals : List Formal) (others : List (Symbol × TypeId)) (x : Symbol) → list_any (λ f. same_name f.name x && not f.by_place) formals ≡ true → is_some (found (map (λ f. (f.name, f.of)) formals ++ others) x) ≡ true
parameter_own [] others x h = absurd (false≢true h)
parameter_own (f ∷ formals) others x h = by_name (same_name f.name x) h (parameter_own formals others x)
  where
    by_name : (b : Bool) → ((b && not f.by_place) || list_any (λ f. same_name f.name x && not f.by_place) formals) ≡ true → (list_any (λ f. same_name f.name x && not f.by_place) formals ≡ true → is_some (found (map (λ f. (f.name, f.of)) formals ++ others) x) ≡ true)
        → is_some (cond b (Some f.of) (found (map (λ f. (f.name, f.of)) formals ++ others) x)) ≡ true
    by_name true h later = refl
    by_name false h later = later h

-- a routine counts with own names
pub count_own : (q : Routine) (x : Symbol) → may_count (Some q) x ≡ true → is_own (Some q) x ≡ true
count_own q x ok = by_local (is_some (found q.locals x)) refl ok
  where
    by_local : (b : Bool) → is_some (found q.locals x) ≡ b → (b || is_value_parameter q x) ≡ true → is_own (Some q) x ≡ true
    by_local true e h = found_behind (map (λ f. (f.name, f.of)) q.formals) (result_name q.name q.result ++ q.locals) x (found_behind (result_name q.name q.result) q.locals x e)
    by_local false e h = parameter_own q.formals (result_name q.name q.result ++ q.locals) x h

not_true : (b : Bool) → not b ≡ true → b ≡ false
not_true true e = absurd (false≢true e)
not_true false e = refl

same_turned : (x y : Symbol) → same_name x y ≡ same_name y x
same_turned x y = let same : (m n : ℕ) → nat_eq m n ≡ nat_eq n m = λ m n. grind (arith, nat_tests) in same x.0 y.0

-- what stands under a name is there where the name is
found_there : {X : Type 0} (entries : List (Symbol × X)) (x : Symbol) → is_some (found entries x) ≡ list_any (same_name x) (map (λ n. n.0) entries)
found_there [] x = refl
found_there {X} (n ∷ entries) x = by_name (same_name n.0 x) (found_there entries x) ∙ ap (λ b. b || list_any (same_name x) (map (λ n. n.0) entries)) (same_turned n.0 x)
  where
    by_name : (b : Bool) → is_some (found entries x) ≡ list_any (same_name x) (map (λ n. n.0) entries)
        → is_some (cond b (Some n.1) (found entries x)) ≡ b || list_any (same_name x) (map (λ n. n.0) entries)
    by_name true later = refl
    by_name false later = later

or_false : (b : Bool) → (b || false) ≡ b
or_false true = refl
or_false false = refl

-- what is no INITIAL name is an own name with these or without them
used_alike : (q : Routine) (x : Symbol) → initial_here (Some q) x ≡ false → (is_own (Some q) x || is_initial q x) ≡ is_own (Some q) x
used_alike q x other = ap (λ b. is_own (Some q) x || b) (found_there q.initial x ∙ other) ∙ or_false (is_own (Some q) x)

-- the names that a routine may use are its own with its INITIAL names or without them
pub names_alike : (p : Program) (q : Routine) → Alike p (Some q) (λ x. is_own (Some q) x || is_initial q x) (is_own (Some q))
names_alike p q = record { reads = reads; writes = writes; counts = λ x ok. ap (λ c. c || is_initial q x) (count_own q x ok) ∙ sym (count_own q x ok) }
  where
    reads : (d : Designator) (t : TypeId) → designator_type p (Some q) d ≡ Some t → may_read (Some q) d ≡ true → (is_own (Some q) (first_of_place d) || is_initial q (first_of_place d)) ≡ is_own (Some q) (first_of_place d)
    reads (designator line x others) t h ok =
        used_alike q x (not_true (initial_here (Some q) x) (left_true (not (initial_here (Some q) x)) _ ok))

    writes : (d : Designator) (t : TypeId) → designator_type p (Some q) d ≡ Some t → may_write (Some q) d ≡ true → (is_own (Some q) (first_of_place d) || is_initial q (first_of_place d)) ≡ is_own (Some q) (first_of_place d)
    writes (designator line x others) t h ok =
        used_alike q x (not_true (initial_here (Some q) x) (left_true (not (initial_here (Some q) x)) _ ok))

-- the routines of a framed program keep to their lists
pub keeps_to : (p : Program) → well_typed p ≡ true → framed p ≡ true → AllKeepTo p
keeps_to p typed frames = record { each = λ id q there. one id q there }
  where
    one : (id : RoutineId) (q : Routine) → routine_at p id ≡ Some q → KeepsTo p q
    one id q there =
        let ok = item_passes (routine_framed p) p.routines id.0 q (left_true (list_all (routine_framed p) p.routines) _ frames) there in
        let rest = right_true (changes_nothing q || not (is_some q.result)) _ ok in
        let uses = left_true (list_all (λ u. use_allowed q.globals u.root u.changes) (routine_uses q)) _ rest in
        let calls = right_true (list_all (λ u. use_allowed q.globals u.root u.changes) (routine_uses q)) _ rest in
        let wide : Symbol → Bool = λ x. is_own (Some q) x || is_initial q x in
        let entry : List Use = annotation_uses (is_formal q) q.entry in
        let exit : List Use = annotation_uses (λ x. is_formal q x || (is_some (found (result_name q.name q.result) x) || is_initial q x)) q.exit in
        let body : List Use = statement_uses wide q.body in
        let allowed : Use → Bool = λ u. use_allowed q.globals u.root u.changes in
        let written = statement_kept p (Some q) wide (is_own (Some q)) (names_alike p q) q.globals q.body (routine_right p typed id q there).body
        (all_right allowed exit body (all_right allowed entry (exit ++ body) uses)) in
        record {
          uses = written;
          calls = calls;
          body = all_both (is_own_or (var_items q.globals)) (map (λ u. u.root) (filter (λ u. u.changes) (statement_uses (is_own (Some q)) q.body))) (flat_map (changed_by_call p) (statement_calls q.body))
              (kept_roots (is_own_or (var_items q.globals)) (statement_uses (is_own (Some q)) q.body) written) (called_items p q.globals (statement_calls q.body) (covered_calls p (Some q) q.globals (statement_calls q.body) calls));
          function = λ has. quiet (changes_nothing q) (is_some q.result) has (left_true (changes_nothing q || not (is_some q.result)) _ ok);
        }
      where
        quiet : (b c : Bool) → c ≡ true → (b || not c) ≡ true → b ≡ true
        quiet true c has h = refl
        quiet false true has h = h
        quiet false false has h = has

-- ---- names that are own

-- the root of what is written is that of a name, or a class
module _ (keep : Root → Bool) (own : Symbol → Bool) (names : (x : Symbol) → keep (name_root own x) ≡ true) (classes : (t : TypeId) → keep (Shared (Class t)) ≡ true) where
  abbrev Named : List Use → Type 0
  Named us = list_all (use_kept keep) us ≡ true

  kept_if : (b c : Bool) → c ≡ true → (not b || c) ≡ true
  kept_if true c h = h
  kept_if false c h = refl

  both_named : (us vs : List Use) → Named us → Named vs → Named (us ++ vs)
  both_named us vs one two = all_both (use_kept keep) us vs one two

  mutual
    expression_named : (e : Expression) → Named (expression_uses own e)
    expression_named (Numeral z) = refl
    expression_named (Boolean b) = refl
    expression_named (NilOf t) = refl
    expression_named (Read d) = designator_named d false
    expression_named (Result c) = call_named c
    expression_named (Through c line t others) = both_named (call_uses own c) (record { root = Shared (Class t); changes = false; line = line } ∷ selector_uses own false others) (call_named c) (selector_named others false)
    expression_named (Negative e) = expression_named e
    expression_named (Calculated o a b) = both_named (expression_uses own a) (expression_uses own b) (expression_named a) (expression_named b)
    expression_named (Compared o a b) = both_named (expression_uses own a) (expression_uses own b) (expression_named a) (expression_named b)
    expression_named (Negated e) = expression_named e
    expression_named (Joined o a b) = both_named (expression_uses own a) (expression_uses own b) (expression_named a) (expression_named b)

    designator_named : (d : Designator) (writes : Bool) → Named (designator_uses own writes d)
    designator_named (designator line x others) writes = both_true (kept_if (writes && not (has_cell others)) (keep (name_root own x)) (names x)) (selector_named others writes)

    selector_named : (others : Selectors) (writes : Bool) → Named (selector_uses own writes others)
    selector_named no_selectors writes = refl
    selector_named (at_index t e others) writes = both_named (expression_uses own e) (selector_uses own writes others) (expression_named e) (selector_named others writes)
    selector_named (at_field t f others) writes = selector_named others writes
    selector_named (at_cell line t others) writes = both_true (kept_if (writes && not (has_cell others)) (keep (Shared (Class t))) (classes t)) (selector_named others writes)

    call_named : (c : Call) → Named (call_uses own c)
    call_named (call id line given) = arguments_named given

    arguments_named : (given : Arguments) → Named (argument_uses own given)
    arguments_named no_arguments = refl
    arguments_named (by_value e others) = both_named (expression_uses own e) (argument_uses own others) (expression_named e) (arguments_named others)
    arguments_named (by_place d others) = both_named (designator_uses own true d) (argument_uses own others) (designator_named d true) (arguments_named others)

  mutual
    pub statement_named : (s : Statement) → Named (statement_uses own s)
    statement_named Empty = refl
    statement_named (Assign d e) = both_named (designator_uses own true d) (expression_uses own e) (designator_named d true) (expression_named e)
    statement_named (Perform c) = call_named c
    statement_named (New line d t) = both_named (designator_uses own true d) (record { root = Shared (Class t); changes = true; line = line } ∷ []) (designator_named d true) (both_true (classes t) refl)
    statement_named (Sequence a b) = both_named (statement_uses own a) (statement_uses own b) (statement_named a) (statement_named b)
    statement_named (If line e a b) = both_named (expression_uses own e) (statement_uses own a ++ statement_uses own b) (expression_named e) (both_named (statement_uses own a) (statement_uses own b) (statement_named a) (statement_named b))
    statement_named (Case line e arms) = both_named (expression_uses own e) (arms_uses own arms) (expression_named e) (arms_named arms)
    statement_named (While line f e s) =
        both_named (annotation_uses own f) (expression_uses own e ++ statement_uses own s) (annotation_kept keep own f) (both_named (expression_uses own e) (statement_uses own s) (expression_named e) (statement_named s))
    statement_named (Repeat line f s e) =
        both_named (annotation_uses own f) (statement_uses own s ++ expression_uses own e) (annotation_kept keep own f) (both_named (statement_uses own s) (expression_uses own e) (statement_named s) (expression_named e))
    statement_named (For line f count s) =
        both_named (annotation_uses own f) (record { root = name_root own count.variable; changes = true; line = line } ∷ (expression_uses own count.first ++ (expression_uses own count.last ++ statement_uses own s))) (annotation_kept keep own f)
        (both_true (names count.variable) (both_named (expression_uses own count.first) (expression_uses own count.last ++ statement_uses own s) (expression_named count.first)
        (both_named (expression_uses own count.last) (statement_uses own s) (expression_named count.last) (statement_named s))))
    statement_named (Assert a) = formula_kept keep own a.formula

    arms_named : (arms : Arms) → Named (arms_uses own arms)
    arms_named no_arms = refl
    arms_named (arm labels s others) = both_named (statement_uses own s) (arms_uses own others) (statement_named s) (arms_named others)

called_named : (keep : Root → Bool) → ((i : Item) → keep (Shared i) ≡ true) → (p : Program) (cs : List Call) → list_all keep (flat_map (changed_by_call p) cs) ≡ true
called_named keep items p [] = refl
called_named keep items p (call id line given ∷ cs) = all_both keep (map Shared (items_of_callee (routine_at p id))) (flat_map (changed_by_call p) cs) (each (items_of_callee (routine_at p id))) (called_named keep items p cs)
  where
    each : (xs : List Item) → list_all keep (map Shared xs) ≡ true
    each [] = refl
    each (i ∷ xs) = both_true (items i) (each xs)

-- what a statement changes are own names, and items of the program
pub roots_named : (p : Program) (here : Option Routine) (keep : Root → Bool) → ((x : Symbol) → keep (name_root (is_own here) x) ≡ true) → ((i : Item) → keep (Shared i) ≡ true) → (s : Statement) → list_all keep (changed_roots p here s) ≡ true
roots_named p here keep names items s =
    all_both keep (map (λ u. u.root) (filter (λ u. u.changes) (statement_uses (is_own here) s))) (flat_map (changed_by_call p) (statement_calls s))
    (kept_roots keep (statement_uses (is_own here) s) (statement_named keep (is_own here) names (λ t. items (Class t)) s)) (called_named keep items p (statement_calls s))
