-- What has a sort in a program has it in one with more types and routines.
use Rattle.std.proofs.Common.{arith, ◌≡◌, ℕ, ◌<◌, ◌+◌, Bool, true, false, cond, ◌&&◌, not, List, [], ◌∷◌, ◌++◌, map, length, Option, Some, None, nat_lt, refl, sym, ap, ◌∙◌, subst}
use Rattle.std.specs.List.{list_all, flat_map}
use Rattle.std.specs.Option.{option_and_then}
use Rattle.std.specs.Cmp.Derive.{both_true}
use Rattle.std.proofs.lemmas.Bool.{false≢true}
use Rattle.std.proofs.lemmas.List.{length-append}
use Rattle.spv_logic.specs.declared.names.names.Symbol.{Symbol}
use Rattle.spv_logic.proofs.list.Tests.{left_true, right_true}
use Rattle.spv_logic.specs.declared.types.TypeId.{TypeId}
use Rattle.spv_logic.specs.declared.types.Sort.{Sort}
use Rattle.spv_logic.specs.declared.types.Sort.TheVariants as sort
use Rattle.spv_logic.specs.Sorts.{sort_in_range}
use Rattle.spv_logic.specs.declared.conditions.RoutineId.{RoutineId}
use Rattle.spv_logic.specs.Terms.{sort_eq}
use Rattle.spv_logic.proofs.Equality.{sort_eq-refl}
use Rattle.spv_program.specs.Types.{same_type, form_at, sort_of, sort_of_form, element_of, field_of, target_of, bounds_of, same_bounds, same_places, type_exists}
use Rattle.spv_program.specs.declared.operators.Comparison.{Comparison}
use Rattle.spv_program.specs.declared.operators.Comparison.TheVariants as comparison
use Rattle.spv_program.specs.Expressions.{Expression, Designator, Selectors, Call, Arguments, Numeral, Boolean, NilOf, Read, Result, Through, Negative, Calculated, Compared, Negated, Joined, designator, no_selectors, at_index, at_field, at_cell, call, no_arguments, by_value, by_place}
use Rattle.spv_program.specs.FormulaTypes.{is_sort, sort_if, two_sorts, numbers, truth_values, compared_sort}
use Rattle.spv_program.specs.ExpressionTypes.{comparable, is_nil, may_read, may_write, sort_of_type, result_type, stands_for, expression_sort, designator_type, selected_type, callee, arguments_fit}
use Rattle.spv_program.specs.Programs.{Formal, Routine, Program, routine_at, shapes}
use Rattle.spv_program.specs.Scopes.{name_type, own_names_in}
use Rattle.spv_program.specs.Lists.{found, first_of}
use Rattle.spv_program.specs.Uses.{Shared, expression_calls, designator_calls, selector_calls, calls_with, argument_calls}
use Rattle.spv_program.specs.Changes.{changed_by_call, items_of_callee}
use Rattle.spv_program.proofs.SortFacts.{nothing_there, some_is, is_sort-true, test_passes, sort_told, two_there, behind, passed, chosen, failed}
use Rattle.spv_type_soundness.proofs.well_typed.ExpressionParts.{pointed_there}
use Rattle.spv_type_soundness.proofs.well_typed.Reached.{type_range, element_exists, field_is_there, target_exists}
use Rattle.spv_type_soundness.specs.well_typed_programs.Grown.{GrowsTypes, Grows}
use Rattle.spv_type_soundness.proofs.well_typed_programs.Lists.{below, is_below, form_at-prefix}

-- ---- types

module _ (q p : Program) (g : GrowsTypes q p) where
  pub form_more : (t : TypeId) → type_exists q.forms t ≡ true → form_at p.forms t.0 ≡ form_at q.forms t.0
  form_more t h = ap (λ f. form_at f t.0) g.forms ∙ form_at-prefix q.forms g.more t.0 (below t.0 (length q.forms) h)

  pub exists_more : (t : TypeId) → type_exists q.forms t ≡ true → type_exists p.forms t ≡ true
  exists_more t h =
      ap (λ f. nat_lt t.0 (length f)) g.forms
      ∙ (ap (nat_lt t.0) (length-append q.forms g.more)
      ∙ is_below t.0 _ (longer t.0 (length q.forms) (length g.more) (below t.0 (length q.forms) h)))
    where
      longer : (n a b : ℕ) → n < a → n < a + b
      longer n a b h = omega arith

  pub sort_more : (t : TypeId) → type_exists q.forms t ≡ true → sort_of p.forms t ≡ sort_of q.forms t
  sort_more t h = ap (λ f. sort_of_form f t) (form_more t h)

  pub places_more : (t u : TypeId) → type_exists q.forms t ≡ true → type_exists q.forms u ≡ true
      → same_places p.forms t u ≡ same_places q.forms t u
  places_more t u h k =
      ap (λ f. sort_eq (sort_of_form f t) (sort_of p.forms u) && same_bounds (bounds_of f) (bounds_of (form_at p.forms u.0)))
      (form_more t h)
      ∙ ap (λ f. sort_eq (sort_of q.forms t) (sort_of_form f u) && same_bounds (bounds_of (form_at q.forms t.0)) (bounds_of f))
      (form_more u k)

  -- a sort that was this one still is
  pub is_sort-more : (t : TypeId) → type_exists q.forms t ≡ true → is_sort (sort_of p.forms t) (Some (sort_of q.forms t)) ≡ true
  is_sort-more t h = ap (sort_eq (sort_of q.forms t)) (sort_more t h) ∙ sort_eq-refl (sort_of q.forms t)

-- ---- sorts that are there

-- what the one tells, the other tells too
pub record Below (a b : Option Sort) : Type 0 where
  pub keeps : (s : Sort) → a ≡ Some s → b ≡ Some s

pub numbers_below : (a b x y : Option Sort) (result s : Sort) → Below a x → Below b y → numbers a b result ≡ Some s
    → numbers x y result ≡ Some s
numbers_below a b x y result s h k e =
    let both = test_passes (is_sort sort.Int a && is_sort sort.Int b) result s e in
    let one = h.keeps sort.Int (is_sort-true sort.Int a (left_true _ _ both)) in
    let two = k.keeps sort.Int (is_sort-true sort.Int b (right_true (is_sort sort.Int a) _ both)) in
    ap (λ o. numbers o y result) one
    ∙ (ap (λ o. numbers (Some sort.Int) o result) two ∙ ap Some (sort_told (is_sort sort.Int a && is_sort sort.Int b) result s e))

pub truths_below : (a b x y : Option Sort) (s : Sort) → Below a x → Below b y → truth_values a b ≡ Some s → truth_values x y ≡ Some s
truths_below a b x y s h k e =
    let both = test_passes (is_sort sort.Bool a && is_sort sort.Bool b) sort.Bool s e in
    let one = h.keeps sort.Bool (is_sort-true sort.Bool a (left_true _ _ both)) in
    let two = k.keeps sort.Bool (is_sort-true sort.Bool b (right_true (is_sort sort.Bool a) _ both)) in
    ap (λ o. truth_values o y) one
    ∙ (ap (λ o. truth_values (Some sort.Bool) o) two ∙ ap Some (sort_told (is_sort sort.Bool a && is_sort sort.Bool b) sort.Bool s e))

pub one_below : (wanted result : Sort) (a x : Option Sort) (s : Sort) → Below a x → sort_if (is_sort wanted a) result ≡ Some s
    → sort_if (is_sort wanted x) result ≡ Some s
one_below wanted result a x s h e =
    ap (λ o. sort_if (is_sort wanted o) result) (h.keeps wanted (is_sort-true wanted a (test_passes (is_sort wanted a) result s e)))
    ∙ (ap (λ b. sort_if b result) (sort_eq-refl wanted) ∙ ap Some (sort_told (is_sort wanted a) result s e))

pub two_below : (go : Sort → Sort → Option Sort) (a b x y : Option Sort) (s : Sort) → Below a x → Below b y → two_sorts a b go ≡ Some s
    → two_sorts x y go ≡ Some s
two_below go a b x y s h k e =
    let t = two_there a b go s e in
    ap (λ o. two_sorts o y go) (h.keeps t.left t.left_is) ∙ (ap (λ o. two_sorts (Some t.left) o go) (k.keeps t.right t.right_is) ∙ t.gives)

pub compared_below : (may : Sort → Bool) (o : Comparison) (a b x y : Option Sort) (s : Sort) → Below a x → Below b y
    → compared_sort may o a b ≡ Some s → compared_sort may o x y ≡ Some s
compared_below may comparison.Equal a b x y s h k e = two_below (λ r t. sort_if (sort_eq t r && may r) sort.Bool) a b x y s h k e
compared_below may comparison.NotEqual a b x y s h k e = two_below (λ r t. sort_if (sort_eq t r && may r) sort.Bool) a b x y s h k e
compared_below may comparison.Less a b x y s h k e = numbers_below a b x y sort.Bool s h k e
compared_below may comparison.AtMost a b x y s h k e = numbers_below a b x y sort.Bool s h k e
compared_below may comparison.Greater a b x y s h k e = numbers_below a b x y sort.Bool s h k e
compared_below may comparison.AtLeast a b x y s h k e = numbers_below a b x y sort.Bool s h k e

pub not_nil : (b : Bool) (x y : Option Sort) (s : Sort) → cond b None x ≡ Some s → y ≡ Some s → cond b None y ≡ Some s
not_nil true x y s e f = absurd (nothing_there e)
not_nil false x y s e f = f

-- both sides of a comparison have sorts
pub record BothThere (a b : Option Sort) : Type 0 where
  pub left : Sort
  pub right : Sort
  pub left_is : a ≡ Some left
  pub right_is : b ≡ Some right

two_are_there : (go : Sort → Sort → Option Sort) (a b : Option Sort) (s : Sort) → two_sorts a b go ≡ Some s → BothThere a b
two_are_there go a b s e =
    let t = two_there a b go s e in record { left = t.left; right = t.right; left_is = t.left_is; right_is = t.right_is }

numbers_there : (a b : Option Sort) (result s : Sort) → numbers a b result ≡ Some s → BothThere a b
numbers_there a b result s e =
    let both = test_passes (is_sort sort.Int a && is_sort sort.Int b) result s e in
    record {
      left = sort.Int;
      right = sort.Int;
      left_is = is_sort-true sort.Int a (left_true _ _ both);
      right_is = is_sort-true sort.Int b (right_true (is_sort sort.Int a) _ both);
    }

pub compared_there : (may : Sort → Bool) (o : Comparison) (a b : Option Sort) (s : Sort) → compared_sort may o a b ≡ Some s → BothThere a b
compared_there may comparison.Equal a b s e = two_are_there (λ r t. sort_if (sort_eq t r && may r) sort.Bool) a b s e
compared_there may comparison.NotEqual a b s e = two_are_there (λ r t. sort_if (sort_eq t r && may r) sort.Bool) a b s e
compared_there may comparison.Less a b s e = numbers_there a b sort.Bool s e
compared_there may comparison.AtMost a b s e = numbers_there a b sort.Bool s e
compared_there may comparison.Greater a b s e = numbers_there a b sort.Bool s e
compared_there may comparison.AtLeast a b s e = numbers_there a b sort.Bool s e

-- ---- calls that change the same

module _ (q p : Program) where
  pub data SameCalls : List Call → Type 0 where
    no_calls : SameCalls []
    one_call : (c : Call) (cs : List Call) → changed_by_call q c ≡ changed_by_call p c → SameCalls cs → SameCalls (c ∷ cs)

  pub same_append : (xs ys : List Call) → SameCalls xs → SameCalls ys → SameCalls (xs ++ ys)
  same_append [] ys no_calls h = h
  same_append (x ∷ xs) ys (one_call c cs e g) h = one_call x (xs ++ ys) e (same_append xs ys g h)

  pub same_changes : (xs : List Call) → SameCalls xs → flat_map (changed_by_call q) xs ≡ flat_map (changed_by_call p) xs
  same_changes [] no_calls = refl
  same_changes (x ∷ xs) (one_call c cs e g) =
      ap (λ r. r ++ flat_map (changed_by_call q) xs) e ∙ ap (λ r. changed_by_call p x ++ r) (same_changes xs g)

-- ---- expressions

module _ (q p : Program) (here : Option Routine) (g : Grows q p here) where
  pub record Kept (e : Expression) (s : Sort) : Type 0 where
    pub is : expression_sort p here e ≡ Some s
    pub calls : SameCalls q p (expression_calls e)

  pub record KeptPlace (d : Designator) (t : TypeId) : Type 0 where
    pub is : designator_type p here d ≡ Some t
    pub there : type_exists q.forms t ≡ true
    pub calls : SameCalls q p (designator_calls d)

  pub record KeptSelected (t : TypeId) (others : Selectors) (u : TypeId) : Type 0 where
    pub is : selected_type p here t others ≡ Some u
    pub there : type_exists q.forms u ≡ true
    pub calls : SameCalls q p (selector_calls others)

  pub record KeptCall (c : Call) (called : Routine) : Type 0 where
    pub is : callee p here c ≡ Some called
    pub calls : SameCalls q p (calls_with c)

  pub record KeptArguments (formals : List Formal) (given : Arguments) : Type 0 where
    pub fit : arguments_fit p here formals given ≡ true
    pub calls : SameCalls q p (argument_calls given)

  below_kept : (e : Expression) (a : Option Sort) → ((s : Sort) → a ≡ Some s → Kept e s) → Below a (expression_sort p here e)
  below_kept e a h = record { keeps = λ s k. (h s k).is }

  pub name_same : (x : Symbol) → name_type p here x ≡ name_type q here x
  name_same x = ap (λ v. first_of (found (own_names_in here) x) (found v x)) g.variables

  stands_told : (t : TypeId) (o : Option TypeId) (P : Type 0) → ((u : TypeId) → o ≡ Some u → same_places q.forms t u ≡ true → P)
      → stands_for q t o ≡ true → P
  stands_told t None P go h = absurd (false≢true h)
  stands_told t (Some u) P go h = go u refl h

  record Typed (o : Option TypeId) (s : Sort) : Type 0 where
    type : TypeId
    is : o ≡ Some type
    sort_is : sort_of q.forms type ≡ s

  typed : (o : Option TypeId) (s : Sort) → sort_of_type q o ≡ Some s → Typed o s
  typed None s e = absurd (nothing_there e)
  typed (Some t) s e = record { type = t; is = refl; sort_is = some_is e }

  -- the sort of a type that is there, in the larger program
  sort_kept : (o : Option TypeId) (t : TypeId) (s : Sort) → o ≡ Some t → type_exists q.forms t ≡ true → sort_of q.forms t ≡ s
      → sort_of_type p o ≡ Some s
  sort_kept o t s e there k = ap (sort_of_type p) e ∙ ap Some (sort_more q p g.types t there ∙ k)

  record CalledAt (r : RoutineId) (given : Arguments) (called : Routine) : Type 0 where
    pub at : routine_at q r ≡ Some called
    pub fit : arguments_fit q here called.formals given ≡ true

  called_at : (r : RoutineId) (given : Arguments) (called : Routine)
      → option_and_then (λ c. cond (arguments_fit q here c.formals given) (Some c) None) (routine_at q r) ≡ Some called
      → CalledAt r given called
  called_at r given called e =
      let one = behind (λ c. cond (arguments_fit q here c.formals given) (Some c) None) (routine_at q r) called e in
      let same : one.item ≡ called = some_is (chosen (arguments_fit q here one.item.formals given) (Some one.item) called one.gives) in
      record {
        at = one.is ∙ ap Some same;
        fit = subst (λ (c : Routine). arguments_fit q here c.formals given ≡ true) same
            (passed (arguments_fit q here one.item.formals given) (Some one.item) called one.gives);
      }

  kept_with : (r : RoutineId) (line : ℕ) (given : Arguments) (called : Routine) → routine_at q r ≡ Some called
      → routine_at p r ≡ Some called → KeptArguments called.formals given → KeptCall (call r line given) called
  kept_with r line given called at moved arguments = record {
    is = ap (option_and_then (λ c. cond (arguments_fit p here c.formals given) (Some c) None)) moved
        ∙ ap (λ b. cond b (Some called) None) arguments.fit;
    calls = same_append q p (argument_calls given) (call r line given ∷ []) arguments.calls
        (one_call (call r line given) [] (ap (λ o. map Shared (items_of_callee o)) (at ∙ sym moved)) no_calls);
  }

  result_there : (c : Call) (r : Routine) (t : TypeId) → callee q here c ≡ Some r → r.result ≡ Some t → type_exists q.forms t ≡ true
  result_there (call n line given) r t e k = g.results n r t (called_at n given r e).at k

  mutual
    pub kept : (e : Expression) (s : Sort) → expression_sort q here e ≡ Some s → Kept e s
    kept (Numeral z) s e = record { is = e; calls = no_calls }
    kept (Boolean b) s e = record { is = e; calls = no_calls }
    kept (NilOf t) s e =
        let there = test_passes (type_exists q.forms t) (sort.Ptr t) s e in
        record {
          is = ap (λ b. sort_if b (sort.Ptr t)) (exists_more q p g.types t there)
              ∙ ap Some (sort_told (type_exists q.forms t) (sort.Ptr t) s e);
          calls = no_calls;
        }
    kept (Read d) s e =
        let may = passed (may_read here d) (sort_of_type q (designator_type q here d)) s e in
        let t = typed (designator_type q here d) s (chosen (may_read here d) (sort_of_type q (designator_type q here d)) s e) in
        let place = kept_place d t.type t.is in
        record {
          is = ap (λ b. cond b (sort_of_type p (designator_type p here d)) None) may
              ∙ sort_kept (designator_type p here d) t.type s place.is place.there t.sort_is;
          calls = place.calls;
        }
    kept (Result c) s e =
        let t = typed (option_and_then result_type (callee q here c)) s e in
        let r = behind result_type (callee q here c) t.type t.is in
        let k = kept_call c r.item t.type r.is r.gives in
        record {
          is = sort_kept (option_and_then result_type (callee p here c)) t.type s (ap (option_and_then result_type) k.is ∙ r.gives)
              (result_there c r.item t.type r.is r.gives) t.sort_is;
          calls = k.calls;
        }
    kept (Through c line t others) s e =
        let test = is_sort (sort.Ptr t) (sort_of_type q (option_and_then result_type (callee q here c))) in
        let pointer = is_sort-true (sort.Ptr t) (sort_of_type q (option_and_then result_type (callee q here c)))
        (passed test (sort_of_type q (selected_type q here t others)) s e) in
        let u = typed (option_and_then result_type (callee q here c)) (sort.Ptr t) pointer in
        let r = behind result_type (callee q here c) u.type u.is in
        let k = kept_call c r.item u.type r.is r.gives in
        let exists = result_there c r.item u.type r.is r.gives in
        let cell = pointed_there q here t
        (subst (λ w. sort_in_range (shapes q) w ≡ true) u.sort_is
        (type_range q here g.types.forms_right g.types.first u.type exists)) in
        let v = typed (selected_type q here t others) s (chosen test (sort_of_type q (selected_type q here t others)) s e) in
        let way = kept_selected t others v.type cell v.is in
        let pointer_there = sort_kept (option_and_then result_type (callee p here c)) u.type (sort.Ptr t)
        (ap (option_and_then result_type) k.is ∙ r.gives) exists u.sort_is in
        record {
          is = ap (λ o. cond (is_sort (sort.Ptr t) o) (sort_of_type p (selected_type p here t others)) None) pointer_there
              ∙ (ap (λ b. cond b (sort_of_type p (selected_type p here t others)) None) (sort_eq-refl (sort.Ptr t))
              ∙ sort_kept (selected_type p here t others) v.type s way.is way.there v.sort_is);
          calls = same_append q p (calls_with c) (selector_calls others) k.calls way.calls;
        }
    kept (Negative x) s e =
        let k = is_sort-true sort.Int (expression_sort q here x) (test_passes (is_sort sort.Int (expression_sort q here x)) sort.Int s e) in
        record {
          is = one_below sort.Int sort.Int (expression_sort q here x) (expression_sort p here x) s
              (below_kept x (expression_sort q here x) (λ t h. kept x t h)) e;
          calls = (kept x sort.Int k).calls;
        }
    kept (Calculated o x y) s e =
        let both = test_passes (is_sort sort.Int (expression_sort q here x) && is_sort sort.Int (expression_sort q here y)) sort.Int s e in
        let one = kept x sort.Int (is_sort-true sort.Int (expression_sort q here x) (left_true _ _ both)) in
        let two = kept y sort.Int (is_sort-true sort.Int (expression_sort q here y)
        (right_true (is_sort sort.Int (expression_sort q here x)) _ both)) in
        record {
          is = numbers_below (expression_sort q here x) (expression_sort q here y) (expression_sort p here x) (expression_sort p here y)
              sort.Int s
              (below_kept x (expression_sort q here x) (λ t h. kept x t h)) (below_kept y (expression_sort q here y) (λ t h. kept y t h)) e;
          calls = same_append q p (expression_calls x) (expression_calls y) one.calls two.calls;
        }
    kept (Compared o x y) s e =
        let rest = failed (is_nil x && is_nil y) (compared_sort comparable o (expression_sort q here x) (expression_sort q here y)) s e in
        let there = compared_there comparable o (expression_sort q here x) (expression_sort q here y) s rest in
        record {
          is = not_nil (is_nil x && is_nil y) (compared_sort comparable o (expression_sort q here x) (expression_sort q here y))
              (compared_sort comparable o (expression_sort p here x) (expression_sort p here y)) s e
              (compared_below comparable o (expression_sort q here x) (expression_sort q here y) (expression_sort p here x)
              (expression_sort p here y) s
              (below_kept x (expression_sort q here x) (λ t h. kept x t h)) (below_kept y (expression_sort q here y) (λ t h. kept y t h))
              rest);
          calls = same_append q p (expression_calls x) (expression_calls y) (kept x there.left there.left_is).calls
              (kept y there.right there.right_is).calls;
        }
    kept (Negated x) s e =
        let k = is_sort-true sort.Bool (expression_sort q here x)
        (test_passes (is_sort sort.Bool (expression_sort q here x)) sort.Bool s e) in
        record {
          is = one_below sort.Bool sort.Bool (expression_sort q here x) (expression_sort p here x) s
              (below_kept x (expression_sort q here x) (λ t h. kept x t h)) e;
          calls = (kept x sort.Bool k).calls;
        }
    kept (Joined o x y) s e =
        let both = test_passes (is_sort sort.Bool (expression_sort q here x) && is_sort sort.Bool (expression_sort q here y)) sort.Bool s
        e in
        let one = kept x sort.Bool (is_sort-true sort.Bool (expression_sort q here x) (left_true _ _ both)) in
        let two = kept y sort.Bool (is_sort-true sort.Bool (expression_sort q here y)
        (right_true (is_sort sort.Bool (expression_sort q here x)) _ both)) in
        record {
          is = truths_below (expression_sort q here x) (expression_sort q here y) (expression_sort p here x) (expression_sort p here y) s
              (below_kept x (expression_sort q here x) (λ t h. kept x t h)) (below_kept y (expression_sort q here y) (λ t h. kept y t h)) e;
          calls = same_append q p (expression_calls x) (expression_calls y) one.calls two.calls;
        }

    pub kept_place : (d : Designator) (t : TypeId) → designator_type q here d ≡ Some t → KeptPlace d t
    kept_place (designator line x others) t e =
        let one = behind (λ u. selected_type q here u others) (name_type q here x) t e in
        let way = kept_selected one.item others t (g.names x one.item one.is) one.gives in
        record {
          is = ap (option_and_then (λ u. selected_type p here u others)) (name_same x ∙ one.is) ∙ way.is;
          there = way.there;
          calls = way.calls;
        }

    pub kept_selected : (t : TypeId) (others : Selectors) (u : TypeId) → type_exists q.forms t ≡ true
        → selected_type q here t others ≡ Some u → KeptSelected t others u
    kept_selected t no_selectors u there e =
        record { is = e; there = subst (λ v. type_exists q.forms v ≡ true) (some_is e) there; calls = no_calls }
    kept_selected t (at_index a x others) u there e =
        let go = λ (v : TypeId). selected_type q here v others in
        let test = same_type a t && is_sort sort.Int (expression_sort q here x) in
        let both = passed test (option_and_then go (element_of (form_at q.forms t.0))) u e in
        let one = behind go (element_of (form_at q.forms t.0)) u
        (chosen test (option_and_then go (element_of (form_at q.forms t.0))) u e) in
        let k = kept x sort.Int (is_sort-true sort.Int (expression_sort q here x) (right_true (same_type a t) _ both)) in
        let way = kept_selected one.item others u (element_exists q here g.types.forms_right g.types.first t one.item one.is) one.gives in
        record {
          is = ap (λ b. cond b (option_and_then (λ v. selected_type p here v others) (element_of (form_at p.forms t.0))) None)
              (both_true (left_true _ _ both) (ap (is_sort sort.Int) k.is))
              ∙ (ap (λ f. option_and_then (λ v. selected_type p here v others) (element_of f)) (form_more q p g.types t there)
              ∙ (ap (option_and_then (λ v. selected_type p here v others)) one.is ∙ way.is));
          there = way.there;
          calls = same_append q p (expression_calls x) (selector_calls others) k.calls way.calls;
        }
    kept_selected t (at_field r f others) u there e =
        let go = λ (v : TypeId). selected_type q here v others in
        let same = passed (same_type r t) (option_and_then go (field_of (form_at q.forms t.0) f)) u e in
        let one = behind go (field_of (form_at q.forms t.0) f) u
        (chosen (same_type r t) (option_and_then go (field_of (form_at q.forms t.0) f)) u e) in
        let way = kept_selected one.item others u (field_is_there q here g.types.forms_right g.types.first t one.item f one.is) one.gives in
        record {
          is = ap (λ b. cond b (option_and_then (λ v. selected_type p here v others) (field_of (form_at p.forms t.0) f)) None) same
              ∙ (ap (λ w. option_and_then (λ v. selected_type p here v others) (field_of w f)) (form_more q p g.types t there)
              ∙ (ap (option_and_then (λ v. selected_type p here v others)) one.is ∙ way.is));
          there = way.there;
          calls = way.calls;
        }
    kept_selected t (at_cell line c others) u there e =
        let go = λ (v : TypeId). cond (same_type c v) (selected_type q here v others) None in
        let one = behind go (target_of (form_at q.forms t.0)) u e in
        let same = passed (same_type c one.item) (selected_type q here one.item others) u one.gives in
        let way = kept_selected one.item others u (target_exists q here g.types.forms_right g.types.first t one.item one.is)
        (chosen (same_type c one.item) (selected_type q here one.item others) u one.gives) in
        record {
          is = ap (λ w. option_and_then (λ v. cond (same_type c v) (selected_type p here v others) None) (target_of w))
              (form_more q p g.types t there)
              ∙ (ap (option_and_then (λ v. cond (same_type c v) (selected_type p here v others) None)) one.is
              ∙ (ap (λ b. cond b (selected_type p here one.item others) None) same ∙ way.is));
          there = way.there;
          calls = way.calls;
        }

    pub kept_call : (c : Call) (called : Routine) (t : TypeId) → callee q here c ≡ Some called → called.result ≡ Some t → KeptCall c called
    kept_call (call r line given) called t e k =
        let one = called_at r given called e in
        kept_with r line given called one.at (g.routines r called t one.at k)
        (kept_arguments called.formals given (g.parameters r called t one.at k) one.fit)

    pub kept_arguments : (formals : List Formal) (given : Arguments) → list_all (λ f. type_exists q.forms f.of) formals ≡ true
        → arguments_fit q here formals given ≡ true → KeptArguments formals given
    kept_arguments [] no_arguments there h = record { fit = refl; calls = no_calls }
    kept_arguments [] (by_value e others) there h = absurd (false≢true h)
    kept_arguments [] (by_place d others) there h = absurd (false≢true h)
    kept_arguments (f ∷ formals) no_arguments there h = absurd (false≢true h)
    kept_arguments (f ∷ formals) (by_value e others) there h =
        let behind_kind = right_true (not f.by_place) _ h in
        let k = kept e (sort_of q.forms f.of)
        (is_sort-true (sort_of q.forms f.of) (expression_sort q here e) (left_true _ _ behind_kind)) in
        let rest = kept_arguments formals others (right_true (type_exists q.forms f.of) _ there)
        (right_true (is_sort (sort_of q.forms f.of) (expression_sort q here e)) _ behind_kind) in
        record {
          fit = both_true (left_true _ _ h)
              (both_true (ap (is_sort (sort_of p.forms f.of)) k.is ∙ is_sort-more q p g.types f.of (left_true _ _ there)) rest.fit);
          calls = same_append q p (expression_calls e) (argument_calls others) k.calls rest.calls;
        }
    kept_arguments (f ∷ formals) (by_place d others) there h =
        let behind_kind = right_true f.by_place _ h in
        let behind_may = right_true (may_write here d) _ behind_kind in
        let rest = kept_arguments formals others (right_true (type_exists q.forms f.of) _ there)
        (right_true (stands_for q f.of (designator_type q here d)) _ behind_may) in
        stands_told f.of (designator_type q here d) (KeptArguments (f ∷ formals) (by_place d others))
        (λ u e same.
        let place = kept_place d u e in
        record {
          fit = both_true (left_true _ _ h) (both_true (left_true _ _ behind_kind)
              (both_true (ap (stands_for p f.of) place.is ∙ (places_more q p g.types f.of u (left_true _ _ there) place.there ∙ same))
              rest.fit));
          calls = same_append q p (designator_calls d) (argument_calls others) place.calls rest.calls;
        })
        (left_true _ _ behind_may)

  -- a call of a routine that both programs have
  pub kept_call_at : (r : RoutineId) (line : ℕ) (given : Arguments) (called : Routine) → routine_at p r ≡ routine_at q r
      → list_all (λ f. type_exists q.forms f.of) called.formals ≡ true
      → callee q here (call r line given) ≡ Some called → KeptCall (call r line given) called
  kept_call_at r line given called same there e =
      let one = called_at r given called e in
      kept_with r line given called one.at (same ∙ one.at) (kept_arguments called.formals given there one.fit)
