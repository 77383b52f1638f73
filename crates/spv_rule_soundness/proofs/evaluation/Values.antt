-- What expressions without calls give.
use Rattle.std.proofs.Common.{◌≡◌, Bool, true, false, cond, not, ◌&&◌, List, [], ◌∷◌, ◌++◌, ℕ, pos, ◌-ℤ◌, refl, sym, ap, subst, ◌∙◌, Option, Some, None, option_map}
use Rattle.std.specs.Option.{option_and_then, unwrap_or}
use Rattle.std.specs.Cmp.Derive.{both_true}
use Rattle.std.proofs.lemmas.Bool.{false≢true, eqb-true}
use Rattle.spv_logic.specs.declared.names.names.Symbol.{Symbol}
use Rattle.spv_logic.specs.declared.types.TypeId.{TypeId}
use Rattle.spv_logic.specs.declared.types.Sort.{Sort}
use Rattle.spv_logic.specs.declared.types.Sort.TheVariants as sort
use Rattle.spv_logic.specs.declared.operators.Head.TheVariants as head
use Rattle.spv_logic.specs.Values.{Value, Number, Truth, rows_in, default_in, number_of, truth_of, pointer_of, row_at}
use Rattle.spv_logic.specs.Terms.{Term, eval}
use Rattle.spv_logic.specs.Sorts.{term_sort}
use Rattle.spv_logic.specs.Conditions.{Meaning, Valuation}
use Rattle.spv_logic.proofs.list.Tests.{left_true, right_true}
use Rattle.spv_program.specs.declared.operators.Arithmetic.{Arithmetic}
use Rattle.spv_program.specs.declared.operators.Arithmetic.TheVariants as arithmetic
use Rattle.spv_program.specs.declared.operators.Comparison.{Comparison}
use Rattle.spv_program.specs.declared.operators.Comparison.TheVariants as comparison
use Rattle.spv_program.specs.declared.operators.Connective.{Connective}
use Rattle.spv_program.specs.declared.operators.Connective.TheVariants as connective
use Rattle.spv_program.specs.declared.types.Item.TheVariants.{Variable, Class}
use Rattle.spv_program.specs.declared.types.TypeForm.{TypeForm}
use Rattle.spv_program.specs.declared.types.TypeForm.TheVariants.{Pointer as PointerTo}
use Rattle.spv_program.specs.Types.{same_type, form_at, sort_of, sort_of_form, element_of, field_of, target_of, takes_index}
use Rattle.spv_program.specs.Expressions.{Expression, Designator, Selectors, Call, Numeral, Boolean, NilOf, Read, Result, Through, Negative, Calculated, Compared, Negated, Joined, designator, no_selectors, at_index, at_field, at_cell, call}
use Rattle.spv_program.specs.Programs.{Routine, Program, shapes, routine_in}
use Rattle.spv_program.specs.Scopes.{name_type, is_own, sort_or_int}
use Rattle.spv_program.specs.Uses.{Use, name_root, expression_uses, designator_uses, selector_uses, expression_calls, designator_calls, selector_calls, calls_with, argument_calls}
use Rattle.spv_program.specs.FormulaTypes.{is_sort, two_sorts, numbers, compared_sort}
use Rattle.spv_program.specs.ExpressionTypes.{comparable, is_nil, may_read, expression_sort, designator_type, selected_type}
use Rattle.spv_program.specs.Supplies.{Supply}
use Rattle.spv_program.specs.Places.{ToElement, ToField, present, further}
use Rattle.spv_program.specs.Terms.{binary, truth, head_of_arithmetic, comparing, head_of_connective, item_head}
use Rattle.spv_program.specs.ExpressionTerms.{Placed, valued, placed, selected, read_at, at_start, to_element, to_field, to_cell}
use Rattle.spv_program.specs.Laws.{HasSort}
use Rattle.spv_program.proofs.SortFacts.{nothing_there, some_is, is_sort-true, test_passes, Behind, behind, passed, chosen, failed, sort_one, sort_two, two_there}
use Rattle.spv_program.proofs.FormulaSorting.{selected_sort, field_sort_told, content_told, two_truths, two_numbers}
use Rattle.spv_program.proofs.ExpressionSorting.{value_sorted, present-further, element_told, field_told}
use Rattle.spv_meaning.specs.declared.faults.Fault.TheVariants as fault
use Rattle.spv_meaning.specs.Places.{HeapRow, State, CellOf, IndexStep, FieldStep, step_part, part_at, content_of, whole, row_of, look, value_or_zero}
use Rattle.spv_meaning.specs.Views.{sees}
use Rattle.spv_meaning.specs.Outcomes.{Outcome, and_then}
use Rattle.spv_meaning.specs.Levels.{Here, Level}
use Rattle.spv_meaning.specs.Evaluation as run
use Rattle.spv_meaning.specs.Evaluation.{Got, Fixed, evaluate, fix, select, calculate, calculated, divides, compare, join, is_cell_of, holds_now}
use Rattle.spv_rule_soundness.specs.evaluation.Quiet.{Quiet, Gives}
use Rattle.spv_rule_soundness.specs.evaluation.Laws.{root_seen, uses_seen, Setting}
use Rattle.spv_rule_soundness.proofs.evaluation.Steps.{quiet_then, quiet_unless, look-further, array_step, field_step}

-- ---- lists that are empty, and uses that are seen

pub left_empty : {X : Type 0} (xs ys : List X) → xs ++ ys ≡ [] → xs ≡ []
left_empty [] ys e = refl
left_empty (x ∷ xs) ys e = cc

pub right_empty : {X : Type 0} (xs ys : List X) → xs ++ ys ≡ [] → ys ≡ []
right_empty [] ys e = e
right_empty (x ∷ xs) ys e = cc

pub no_call : (c : Call) → calls_with c ≡ [] → ⊥
no_call (call r line given) e = last (argument_calls given) e
  where
    last : (calls : List Call) → calls ++ call r line given ∷ [] ≡ [] → ⊥
    last [] e = cc
    last (c ∷ calls) e = cc

pub seen_left : (r : Option Routine) (us vs : List Use) → uses_seen r (us ++ vs) ≡ true → uses_seen r us ≡ true
seen_left r [] vs h = refl
seen_left r (u ∷ us) vs h = both_true (left_true (root_seen r u.root) _ h) (seen_left r us vs (right_true (root_seen r u.root) _ h))

pub seen_right : (r : Option Routine) (us vs : List Use) → uses_seen r (us ++ vs) ≡ true → uses_seen r vs ≡ true
seen_right r [] vs h = h
seen_right r (u ∷ us) vs h = seen_right r us vs (right_true (root_seen r u.root) _ h)

-- ---- parts

mapped : {X Y : Type 0} (f : X → Y) (o : Option X) (y : Y) → option_map f o ≡ Some y → Behind (λ x. Some (f x)) o y
mapped f None y e = absurd (nothing_there e)
mapped f (Some x) y e = record { item = x; is = refl; gives = e }

pub same_types : (t u : TypeId) → same_type t u ≡ true → t ≡ u
same_types t u h = let e = eqb-true t.0 u.0 h in λ i. record { 0 = e i }

abbrev as_got : Value → State → Got
as_got a x = record { value = a; state = x }

pub got_is : (a b : Value) (x y : State) → a ≡ b → x ≡ y → as_got a x ≡ as_got b y
got_is a b x y e f = λ i. record { value = e i; state = f i }

pub target_is : (p : Program) (t u : TypeId) → target_of (form_at p.forms t.0) ≡ Some u → sort_of p.forms t ≡ sort.Ptr u
target_is p t u e = by_form (form_at p.forms t.0) e
  where
    by_form : (f : TypeForm) → target_of f ≡ Some u → sort_of_form f t ≡ sort.Ptr u
    by_form (PointerTo w) e = ap sort.Ptr (some_is e)
    by_form _ e = absurd (nothing_there e)

-- the sides of a comparison have sorts
pub record Sides (a b : Option Sort) : Type 0 where
  pub left : Sort
  pub right : Sort
  pub left_is : a ≡ Some left
  pub right_is : b ≡ Some right

of_two : (a b : Option Sort) (go : Sort → Sort → Option Sort) (s : Sort) → two_sorts a b go ≡ Some s → Sides a b
of_two a b go s e = let t = two_there a b go s e in record { left = t.left; right = t.right; left_is = t.left_is; right_is = t.right_is }

of_numbers : (a b : Option Sort) (s : Sort) → numbers a b sort.Bool ≡ Some s → Sides a b
of_numbers a b s e =
    let both = test_passes (is_sort sort.Int a && is_sort sort.Int b) sort.Bool s e in
    record {
      left = sort.Int;
      right = sort.Int;
      left_is = is_sort-true sort.Int a (left_true (is_sort sort.Int a) _ both);
      right_is = is_sort-true sort.Int b (right_true (is_sort sort.Int a) _ both);
    }

pub sides : (o : Comparison) (a b : Option Sort) (s : Sort) → compared_sort comparable o a b ≡ Some s → Sides a b
sides comparison.Equal a b s e = of_two a b _ s e
sides comparison.NotEqual a b s e = of_two a b _ s e
sides comparison.Less a b s e = of_numbers a b s e
sides comparison.AtMost a b s e = of_numbers a b s e
sides comparison.Greater a b s e = of_numbers a b s e
sides comparison.AtLeast a b s e = of_numbers a b s e

module _ (symbols : Meaning) (v : Valuation) where
  pub truth_worth : (b : Bool) → Truth b ≡ eval symbols v (truth b)
  truth_worth true = refl
  truth_worth false = refl

  pub arithmetic_worth : (o : Arithmetic) (x y : Term) → Number (calculate o (number_of (eval symbols v x)) (number_of (eval symbols v y))) ≡ eval symbols v (binary (head_of_arithmetic o) x y)
  arithmetic_worth arithmetic.Plus x y = refl
  arithmetic_worth arithmetic.Minus x y = refl
  arithmetic_worth arithmetic.Times x y = refl
  arithmetic_worth arithmetic.Div x y = refl
  arithmetic_worth arithmetic.Mod x y = refl

  pub comparison_worth : (o : Comparison) (x y : Term) → Truth (compare o (eval symbols v x) (eval symbols v y)) ≡ eval symbols v (comparing o x y)
  comparison_worth comparison.Equal x y = refl
  comparison_worth comparison.NotEqual x y = refl
  comparison_worth comparison.Less x y = refl
  comparison_worth comparison.AtMost x y = refl
  comparison_worth comparison.Greater x y = refl
  comparison_worth comparison.AtLeast x y = refl

  pub connective_worth : (o : Connective) (x y : Term) → Truth (join o (truth_of (eval symbols v x)) (truth_of (eval symbols v y))) ≡ eval symbols v (binary (head_of_connective o) x y)
  connective_worth connective.And x y = refl
  connective_worth connective.Or x y = refl

-- ---- places

-- a place that was fixed holds what its term is worth
pub record Stands (p : Program) (symbols : Meaning) (v : Valuation) (state : State) (d : Placed) (t : TypeId) (fixed : Fixed) : Type 0 where
  pub state_is : fixed.state ≡ state
  pub type_is : fixed.type ≡ t
  pub there : look state fixed.place ≡ Some (eval symbols v (present d.target))
  pub sorted : HasSort p (present d.target) (sort_of p.forms t)

-- the sorts of elements and fields
pub element_sorted : (p : Program) (d : Placed) (i : Term) (t u : TypeId) → HasSort p (present d.target) (sort_of p.forms t) → element_of (form_at p.forms t.0) ≡ Some u → HasSort p i sort.Int → HasSort p (present (further (ToElement i) d.target)) (sort_of p.forms u)
element_sorted p d i t u sorted element int =
    ap (term_sort (shapes p) p.symbols) (present-further d (ToElement i))
    ∙ sort_two (shapes p) p.symbols head.Select (present d.target) i (sort_of p.forms t) sort.Int (sort_of p.forms u) sorted int (selected_sort (shapes p) (sort_of p.forms t) (sort_of p.forms u) (element_told p t u element))

pub field_sorted : (p : Program) (d : Placed) (f : Symbol) (t u : TypeId) → HasSort p (present d.target) (sort_of p.forms t) → field_of (form_at p.forms t.0) f ≡ Some u → HasSort p (present (further (ToField f) d.target)) (sort_of p.forms u)
field_sorted p d f t u sorted field =
    ap (term_sort (shapes p) p.symbols) (present-further d (ToField f))
    ∙ sort_one (shapes p) p.symbols (head.Field f) (present d.target) (sort_of p.forms t) (sort_of p.forms u) sorted (field_sort_told (shapes p) (sort_of p.forms t) (sort_of p.forms u) _ (field_told p t u f field))

module _ (p : Program) (symbols : Meaning) (v : Valuation) (here : Here) (state : State) (k : Setting p symbols v here state) where
  pub value_now : (d : Placed) (t : TypeId) (fixed : Fixed) → Stands p symbols v state d t fixed → holds_now fixed ≡ eval symbols v (present d.target)
  value_now d t fixed st = ap (λ x. value_or_zero (look x fixed.place)) st.state_is ∙ ap value_or_zero st.there

  -- a step to an element
  pub element_at : (d : Placed) (t a u : TypeId) (fixed : Fixed) (e : Expression) (got : Got) → Stands p symbols v state d t fixed → a ≡ t → element_of (form_at p.forms t.0) ≡ Some u → HasSort p (valued p (routine_in p here.routine) d.supply e).term sort.Int → got ≡ record { value = eval symbols v (valued p (routine_in p here.routine) d.supply e).term; state = state }
      → Stands p symbols v state (to_element d (λ m. valued p (routine_in p here.routine) m e)) u (run.further (IndexStep (number_of got.value)) (unwrap_or (element_of (form_at p.forms a.0)) a) fixed.place got.state)
  element_at d t a u fixed e got st same element int is =
      let i = (valued p (routine_in p here.routine) d.supply e).term in
      let told = element_told p t u element in
      let whole = eval symbols v (present d.target) in
      record {
        state_is = ap (λ g. g.state) is;
        type_is = ap (λ t. unwrap_or (element_of (form_at p.forms t.0)) a) same ∙ ap (λ o. unwrap_or o a) element;
        there = look-further state fixed.place (IndexStep (number_of got.value)) whole (row_at (rows_in whole) (number_of (eval symbols v i)) (default_in whole)) st.there
            (ap (λ g. step_part whole (IndexStep (number_of g.value))) is ∙ array_step (shapes p) whole (eval symbols v i) (sort_of p.forms t) (sort_of p.forms u) told (k.sorted (present d.target) (sort_of p.forms t) st.sorted))
            ∙ ap (λ t. Some (eval symbols v t)) (sym (present-further d (ToElement i)));
        sorted = element_sorted p d i t u st.sorted element int;
      }

  -- a step to a field
  pub field_stands : (d : Placed) (t a u : TypeId) (f : Symbol) (fixed : Fixed) → Stands p symbols v state d t fixed → a ≡ t → field_of (form_at p.forms t.0) f ≡ Some u → Stands p symbols v state (to_field f d) u (run.to_field p a f fixed)
  field_stands d t a u f fixed st same field =
      let told = field_told p t u f field in
      let whole = eval symbols v (present d.target) in
      record {
        state_is = st.state_is;
        type_is = ap (λ t. unwrap_or (field_of (form_at p.forms t.0) f) a) same ∙ ap (λ o. unwrap_or o a) field;
        there = look-further state fixed.place (FieldStep f) whole (row_at (rows_in whole) (pos f.0) (Number (pos 0))) st.there (field_step (shapes p) whole (sort_of p.forms t) (sort_of p.forms u) f told (k.sorted (present d.target) (sort_of p.forms t) st.sorted))
            ∙ ap (λ t. Some (eval symbols v t)) (sym (present-further d (ToField f)));
        sorted = field_sorted p d f t u st.sorted field;
      }

  pub cell_there : (c : TypeId) (q : ℕ) → sees (routine_in p here.routine) (Class c) ≡ true → (o : Option HeapRow) → row_of state.heap q ≡ o → is_cell_of c o ≡ true → look state (whole (CellOf q)) ≡ Some (row_at (rows_in (v (head.ClassVar c 0))) (pos q) (default_in (v (head.ClassVar c 0))))
  cell_there c q seen None e h = absurd (false≢true h)
  cell_there c q seen (Some r) e h =
      ap (λ o. option_and_then (λ w. part_at w []) (option_and_then content_of o)) e ∙ ap Some (sym (k.cells c r q seen e h))

  -- a step through a pointer to a cell of its type
  pub cell_at : (d : Placed) (t c : TypeId) (fixed : Fixed) → Stands p symbols v state d t fixed → sort_of p.forms t ≡ sort.Ptr c → sees (routine_in p here.routine) (Class c) ≡ true → is_cell_of c (row_of fixed.state.heap (pointer_of (holds_now fixed))) ≡ true
      → Stands p symbols v state (to_cell c (read_at d)) c (record { place = whole (CellOf (pointer_of (holds_now fixed))); type = c; state = fixed.state })
  cell_at d t c fixed st pointer seen found =
      let now = value_now d t fixed st in
      let q = pointer_of (eval symbols v (present d.target)) in
      let moved = ap (λ x. is_cell_of c (row_of x.heap (pointer_of (holds_now fixed)))) st.state_is ∙ ap (λ x. is_cell_of c (row_of state.heap (pointer_of x))) now in
      record {
        state_is = st.state_is;
        type_is = refl;
        there = ap (λ x. look state (whole (CellOf (pointer_of x)))) now ∙ cell_there c q seen (row_of state.heap q) refl (sym moved ∙ found);
        sorted = content_told p c (present d.target) (st.sorted ∙ ap Some pointer);
      }

  -- two operands, from left to right
  both_given : (a b : Expression) (below : Option Level) (n : Supply) (choices : List Value) (Q : Got → Type 0) (next : Got → Got → List Value → Outcome Got)
      → Quiet Got (λ got. got ≡ record { value = eval symbols v (valued p (routine_in p here.routine) n a).term; state = state }) choices (evaluate p below here a state choices)
      → Quiet Got (λ got. got ≡ record { value = eval symbols v (valued p (routine_in p here.routine) (valued p (routine_in p here.routine) n a).supply b).term; state = state }) choices (evaluate p below here b state choices)
      → ((left right : Got) → left ≡ record { value = eval symbols v (valued p (routine_in p here.routine) n a).term; state = state } → right ≡ record { value = eval symbols v (valued p (routine_in p here.routine) (valued p (routine_in p here.routine) n a).supply b).term; state = state } → Quiet Got Q choices (next left right choices))
      → Quiet Got Q choices (and_then (evaluate p below here a state choices) (λ left rest. and_then (evaluate p below here b left.state rest) (λ right last. next left right last)))
  both_given a b below n choices Q next first second later =
      quiet_then _ Q choices (evaluate p below here a state choices) _ first
      (λ left is. quiet_then _ Q choices (evaluate p below here b left.state choices) _
      (subst (λ (z : State). Quiet Got (λ got. got ≡ record { value = eval symbols v (valued p (routine_in p here.routine) (valued p (routine_in p here.routine) n a).supply b).term; state = state }) choices (evaluate p below here b z choices)) (sym (ap (λ g. g.state) is)) second)
      (λ right was. later left right is was))

  mutual
    pub evaluated : (e : Expression) (s : Sort) → expression_sort p (routine_in p here.routine) e ≡ Some s → expression_calls e ≡ [] → uses_seen (routine_in p here.routine) (expression_uses (is_own (routine_in p here.routine)) e) ≡ true → (below : Option Level) (n : Supply) (choices : List Value)
        → Quiet Got (λ got. got ≡ record { value = eval symbols v (valued p (routine_in p here.routine) n e).term; state = state }) choices (evaluate p below here e state choices)
    evaluated (Numeral z) s h calls uses below n choices = Gives _ refl refl
    evaluated (Boolean b) s h calls uses below n choices = Gives _ refl (got_is _ _ _ _ (truth_worth symbols v b) refl)
    evaluated (NilOf t) s h calls uses below n choices = Gives _ refl refl
    evaluated (Read d) s h calls uses below n choices =
        let t = mapped (sort_of p.forms) (designator_type p (routine_in p here.routine) d) s (chosen (may_read (routine_in p here.routine) d) _ s h) in
        quiet_then _ _ choices (fix p below here d state choices) _ (fixed_at d t.item t.is calls false uses below n choices)
        (λ fixed st. Gives _ refl (got_is _ _ _ _ (value_now _ _ fixed st) st.state_is))
    evaluated (Result c) s h calls uses below n choices = absurd (no_call c calls)
    evaluated (Through c line t others) s h calls uses below n choices = absurd (no_call c (left_empty (calls_with c) _ calls))
    evaluated (Negative e) s h calls uses below n choices =
        quiet_then _ _ choices (evaluate p below here e state choices) _
        (evaluated e sort.Int (is_sort-true sort.Int _ (test_passes _ _ s h)) calls uses below n choices)
        (λ got is. Gives _ refl (got_is _ _ _ _ (ap (λ g. Number (pos 0 -ℤ number_of g.value)) is) (ap (λ g. g.state) is)))
    evaluated (Calculated o a b) s h calls uses below n choices =
        two_numbers _ _ s _
        (λ x y told. both_given a b below n choices _ _
        (evaluated a sort.Int x (left_empty (expression_calls a) _ calls) (seen_left (routine_in p here.routine) (expression_uses (is_own (routine_in p here.routine)) a) _ uses) below n choices)
        (evaluated b sort.Int y (right_empty (expression_calls a) _ calls) (seen_right (routine_in p here.routine) (expression_uses (is_own (routine_in p here.routine)) a) _ uses) below (valued p (routine_in p here.routine) n a).supply choices)
        (λ left right is was. quiet_unless _ _ fault.Zero _ choices (λ passes. got_is _ _ _ _ (ap (λ g. Number (calculate o (number_of g.value) (number_of right.value))) is ∙ (ap (λ g. Number (calculate o (number_of (eval symbols v (valued p (routine_in p here.routine) n a).term)) (number_of g.value))) was ∙ arithmetic_worth symbols v o (valued p (routine_in p here.routine) n a).term (valued p (routine_in p here.routine) (valued p (routine_in p here.routine) n a).supply b).term)) (ap (λ g. g.state) was)))) h
    evaluated (Compared o a b) s h calls uses below n choices =
        let two = sides o _ _ s (failed (is_nil a && is_nil b) _ s h) in
        both_given a b below n choices _ _
        (evaluated a two.left two.left_is (left_empty (expression_calls a) _ calls) (seen_left (routine_in p here.routine) (expression_uses (is_own (routine_in p here.routine)) a) _ uses) below n choices)
        (evaluated b two.right two.right_is (right_empty (expression_calls a) _ calls) (seen_right (routine_in p here.routine) (expression_uses (is_own (routine_in p here.routine)) a) _ uses) below (valued p (routine_in p here.routine) n a).supply choices)
        (λ left right is was. Gives _ refl (got_is _ _ _ _ (ap (λ g. Truth (compare o g.value right.value)) is ∙ (ap (λ g. Truth (compare o (eval symbols v (valued p (routine_in p here.routine) n a).term) g.value)) was ∙ comparison_worth symbols v o (valued p (routine_in p here.routine) n a).term (valued p (routine_in p here.routine) (valued p (routine_in p here.routine) n a).supply b).term)) (ap (λ g. g.state) was)))
    evaluated (Negated e) s h calls uses below n choices =
        quiet_then _ _ choices (evaluate p below here e state choices) _
        (evaluated e sort.Bool (is_sort-true sort.Bool _ (test_passes _ _ s h)) calls uses below n choices)
        (λ got is. Gives _ refl (got_is _ _ _ _ (ap (λ g. Truth (not (truth_of g.value))) is) (ap (λ g. g.state) is)))
    evaluated (Joined o a b) s h calls uses below n choices =
        two_truths _ _ s _
        (λ x y told. both_given a b below n choices _ _
        (evaluated a sort.Bool x (left_empty (expression_calls a) _ calls) (seen_left (routine_in p here.routine) (expression_uses (is_own (routine_in p here.routine)) a) _ uses) below n choices)
        (evaluated b sort.Bool y (right_empty (expression_calls a) _ calls) (seen_right (routine_in p here.routine) (expression_uses (is_own (routine_in p here.routine)) a) _ uses) below (valued p (routine_in p here.routine) n a).supply choices)
        (λ left right is was. Gives _ refl (got_is _ _ _ _ (ap (λ g. Truth (join o (truth_of g.value) (truth_of right.value))) is ∙ (ap (λ g. Truth (join o (truth_of (eval symbols v (valued p (routine_in p here.routine) n a).term)) (truth_of g.value))) was ∙ connective_worth symbols v o (valued p (routine_in p here.routine) n a).term (valued p (routine_in p here.routine) (valued p (routine_in p here.routine) n a).supply b).term)) (ap (λ g. g.state) was)))) h

    pub fixed_at : (d : Designator) (t : TypeId) → designator_type p (routine_in p here.routine) d ≡ Some t → designator_calls d ≡ [] → (writes : Bool) → uses_seen (routine_in p here.routine) (designator_uses (is_own (routine_in p here.routine)) writes d) ≡ true → (below : Option Level) (n : Supply) (choices : List Value)
        → Quiet Fixed (Stands p symbols v state (placed p (routine_in p here.routine) n d) t) choices (fix p below here d state choices)
    fixed_at (designator line x others) t h calls writes uses below n choices =
        let r = routine_in p here.routine in
        let b = behind (λ t. selected_type p r t others) (name_type p r x) t h in
        let seen = left_true (root_seen r (name_root (is_own r) x)) _ uses in
        selected_at others (at_start n (item_head p r (Variable x))) b.item t _
        (record {
          state_is = refl;
          type_is = ap (λ o. unwrap_or o (record { 0 = 0 })) b.is;
          there = k.named x b.item b.is seen ∙ ap (λ o. Some (v (head.Var x (sort_or_int (option_map (sort_of p.forms) o)) 0))) (sym b.is);
          sorted = ap (λ o. Some (sort_or_int (option_map (sort_of p.forms) o))) b.is;
        })
        b.gives calls writes (right_true (root_seen r (name_root (is_own r) x)) _ uses) below choices

    pub selected_at : (others : Selectors) (d : Placed) (t u : TypeId) (fixed : Fixed) → Stands p symbols v state d t fixed → selected_type p (routine_in p here.routine) t others ≡ Some u → selector_calls others ≡ [] → (writes : Bool) → uses_seen (routine_in p here.routine) (selector_uses (is_own (routine_in p here.routine)) writes others) ≡ true → (below : Option Level) (choices : List Value)
        → Quiet Fixed (Stands p symbols v state (selected p (routine_in p here.routine) d others) u) choices (select p below here others fixed choices)
    selected_at no_selectors d t u fixed st h calls writes uses below choices = Gives fixed refl (record {
      state_is = st.state_is;
      type_is = st.type_is ∙ some_is h;
      there = st.there;
      sorted = st.sorted ∙ ap (λ t. Some (sort_of p.forms t)) (some_is h);
    })
    selected_at (at_index a e others) d t u fixed st h calls writes uses below choices =
        let r = routine_in p here.routine in
        let test = same_type a t && is_sort sort.Int (expression_sort p r e) in
        let holds = passed test _ u h in
        let same = same_types a t (left_true (same_type a t) _ holds) in
        let int = is_sort-true sort.Int (expression_sort p r e) (right_true (same_type a t) _ holds) in
        let b = behind (λ u. selected_type p r u others) (element_of (form_at p.forms t.0)) u (chosen test _ u h) in
        quiet_then _ _ choices (evaluate p below here e fixed.state choices) _
        (subst (λ (z : State). Quiet Got (λ got. got ≡ record { value = eval symbols v (valued p r d.supply e).term; state = state }) choices (evaluate p below here e z choices)) (sym st.state_is) (evaluated e sort.Int int (left_empty (expression_calls e) _ calls) (seen_left r (expression_uses (is_own r) e) _ uses) below d.supply choices))
        (λ got is. quiet_then _ _ choices (run.to_element p a fixed.place got choices) _
        (quiet_unless _ (takes_index p.forms a got.value) fault.Index _ choices (λ passed. element_at d t a b.item fixed e got st same b.is (value_sorted p r d.supply e sort.Int int) is))
        (λ next stands. selected_at others (to_element d (λ m. valued p r m e)) b.item u next stands b.gives (right_empty (expression_calls e) _ calls) writes (seen_right r (expression_uses (is_own r) e) _ uses) below choices))
    selected_at (at_field a f others) d t u fixed st h calls writes uses below choices =
        let r = routine_in p here.routine in
        let same = same_types a t (passed (same_type a t) _ u h) in
        let b = behind (λ u. selected_type p r u others) (field_of (form_at p.forms t.0) f) u (chosen (same_type a t) _ u h) in
        selected_at others (to_field f d) b.item u (run.to_field p a f fixed) (field_stands d t a b.item f fixed st same b.is) b.gives calls writes uses below choices
    selected_at (at_cell line c others) d t u fixed st h calls writes uses below choices =
        let r = routine_in p here.routine in
        let b = behind (λ w. cond (same_type c w) (selected_type p r w others) None) (target_of (form_at p.forms t.0)) u h in
        let same = same_types c b.item (passed (same_type c b.item) _ u b.gives) in
        let pointer = target_is p t b.item b.is ∙ ap sort.Ptr (sym same) in
        quiet_then _ _ choices (run.to_cell c (holds_now fixed) fixed.state choices) _
        (quiet_unless _ (is_cell_of c (row_of fixed.state.heap (pointer_of (holds_now fixed)))) fault.Nil _ choices (cell_at d t c fixed st pointer (left_true (sees r (Class c)) _ uses)))
        (λ next stands. selected_at others (to_cell c (read_at d)) c u next stands (ap (λ w. selected_type p r w others) same ∙ chosen (same_type c b.item) _ u b.gives) calls writes (right_true (sees r (Class c)) _ uses) below choices)
