-- Parts of values, by their sorts.
use Rattle.spv_meaning.specs.FrameTypes.{path_sort, step_sort}
use Rattle.std.proofs.Common.{◌≡◌, ℕ, Bool, true, false, cond, ◌&&◌, List, [], ◌∷◌, ℤ, pos, refl, sym, ap, subst, ◌∙◌, Option, Some, None, is_some, nat_eq}
use Rattle.std.specs.Option.{option_and_then, unwrap_or}
use Rattle.std.specs.Ordering.{int_eq}
use Rattle.std.proofs.lemmas.Bool.{false≢true, eqb-true, eq-eqb}
use Rattle.spv_logic.proofs.list.Tests.{left_true, right_true}
use Rattle.spv_logic.specs.declared.names.names.Symbol.{Symbol}
use Rattle.spv_logic.specs.declared.types.Sort.{Sort}
use Rattle.spv_logic.specs.declared.types.Shape.{Shape}
use Rattle.spv_logic.specs.declared.types.Field.{Field}
use Rattle.spv_logic.specs.Values.{Value, Rows, Number, Truth, Pointer, ArrayOf, RecordOf, ClassOf, AtomOf, PairOf, no_rows, row, row_at, rows_in, default_in}
use Rattle.spv_logic.specs.Shapes.{element_sort, fields_of, field_sort, field_sort_of}
use Rattle.spv_logic.specs.Fits.{fits, fields_fit, on_sort, on_fields}
use Rattle.spv_logic.proofs.Equality.{int_eq-true, int_eq-refl}
use Rattle.spv_logic.proofs.Changes.{put_other, array_same}
use Rattle.spv_logic.proofs.Sorting.{array_parts, selected, stored, field_value, field_put}
use Rattle.spv_program.specs.Lists.{same_name}
use Rattle.spv_program.proofs.SortFacts.{nothing_there, some_is, Behind, behind}
use Rattle.spv_meaning.specs.Places.{PathStep, IndexStep, FieldStep, row_found, step_part, part_at, with_step, with_part}
use Rattle.spv_meaning.specs.Starts.{same_step, paths_meet}
use Rattle.spv_rule_soundness.proofs.evaluation.Steps.{array_step, field_step}
use Rattle.spv_preservation.proofs.facts.Values.{found_same, found_other, record_is, field_there}

-- ---- steps

pub record StepThere (shapes : List Shape) (u : Value) (x : PathStep) (e : Sort) : Type 0 where
  pub part : Value
  pub is : step_part u x ≡ Some part
  pub fit : fits shapes part e ≡ true

pub step_there : (shapes : List Shape) (u : Value) (s e : Sort) (x : PathStep) → step_sort shapes s x ≡ Some e → fits shapes u s ≡ true → StepThere shapes u x e
step_there shapes u s e (IndexStep i) told fit = record {
  part = row_at (rows_in u) i (default_in u);
  is = array_step shapes u (Number i) s e told fit;
  fit = selected shapes u s e i told fit;
}
step_there shapes u s e (FieldStep f) told fit = record {
  part = row_at (rows_in u) (pos f.0) (Number (pos 0));
  is = field_step shapes u s e f told fit;
  fit = field_value shapes u s e f.0 (Number (pos 0)) told fit;
}

step_same : (shapes : List Shape) (u : Value) (s e : Sort) (x : PathStep) → step_sort shapes s x ≡ Some e → fits shapes u s ≡ true → (w : Value) → step_part (with_step u x w) x ≡ Some w
step_same shapes u s e (IndexStep i) told fit w = ap Some (array_same shapes s e u w i told fit)
step_same shapes u s e (FieldStep f) told fit w = found_same (rows_in u) (pos f.0) w (row_at (rows_in u) (pos f.0) (Number (pos 0))) (field_there shapes u s e f told fit)

step_fits : (shapes : List Shape) (u : Value) (s e : Sort) (x : PathStep) → step_sort shapes s x ≡ Some e → fits shapes u s ≡ true → (w : Value) → fits shapes w e ≡ true → fits shapes (with_step u x w) s ≡ true
step_fits shapes u s e (IndexStep i) told fit w ok = stored shapes u s e i w told fit ok
step_fits shapes u s e (FieldStep f) told fit w ok = field_put shapes u s e f.0 w told fit ok

indices_apart : (i j : ℤ) → int_eq i j ≡ false → int_eq j i ≡ false
indices_apart i j apart = by_case (int_eq j i) refl
  where
    by_case : (b : Bool) → int_eq j i ≡ b → b ≡ false
    by_case true e = absurd (false≢true (sym apart ∙ (ap (int_eq i) (int_eq-true j i e) ∙ int_eq-refl i)))
    by_case false e = refl

names_apart : (f g : Symbol) → same_name f g ≡ false → int_eq (pos g.0) (pos f.0) ≡ false
names_apart f g apart = by_case (int_eq (pos g.0) (pos f.0)) refl
  where
    number : pos g.0 ≡ pos f.0 → g.0 ≡ f.0
    number e = cc

    by_case : (b : Bool) → int_eq (pos g.0) (pos f.0) ≡ b → b ≡ false
    by_case true e = absurd (false≢true (sym apart ∙ eq-eqb f.0 g.0 (sym (number (int_eq-true (pos g.0) (pos f.0) e)))))
    by_case false e = refl

step_other : (shapes : List Shape) (u : Value) (s e : Sort) (x y : PathStep) → step_sort shapes s x ≡ Some e → fits shapes u s ≡ true → (w : Value) → same_step x y ≡ false → step_part (with_step u x w) y ≡ step_part u y
step_other shapes u s e (IndexStep i) (IndexStep j) told fit w apart =
    ap Some (put_other (rows_in u) i j w (default_in u) (indices_apart i j apart)) ∙ sym (array_step shapes u (Number j) s e told fit)
step_other shapes u s e (IndexStep i) (FieldStep g) told fit w apart =
    sym (ap (λ k. step_part k (FieldStep g)) (array_parts shapes u s e told fit).is)
step_other shapes u s e (FieldStep f) (IndexStep j) told fit w apart =
    sym (ap (λ k. step_part k (IndexStep j)) (record_is shapes u s e f told fit))
step_other shapes u s e (FieldStep f) (FieldStep g) told fit w apart =
    found_other (rows_in u) (pos f.0) (pos g.0) w (names_apart f g apart) ∙ sym (ap (λ k. step_part k (FieldStep g)) (record_is shapes u s e f told fit))

-- ---- a step that leads nowhere

on_none : (o : Option Sort) (test : Sort → Bool) → o ≡ None → on_sort o test ≡ true → ⊥
on_none None test none h = false≢true h
on_none (Some s) test none h = nothing_there (sym none)

no_row : (shapes : List Shape) (rows : Rows) (fields : List Field) (name : ℕ) → fields_fit shapes rows fields ≡ true → field_sort fields name ≡ None → row_found rows (pos name) ≡ None
no_row shapes no_rows fields name fit none = refl
no_row shapes (row i v rows) [] name fit none = absurd (false≢true fit)
no_row shapes (row i v rows) (g ∷ fields) name fit none =
    let key = int_eq-true i (pos g.name.0) (left_true (int_eq i (pos g.name.0)) _ fit) in
    let others = right_true (fits shapes v g.sort) (fields_fit shapes rows fields) (right_true (int_eq i (pos g.name.0)) _ fit) in
    by_name key (no_row shapes rows fields name others) (nat_eq g.name.0 name) refl none
  where
    apart : (b : Bool) → nat_eq g.name.0 name ≡ false → i ≡ pos g.name.0 → int_eq (pos name) i ≡ b → b ≡ false
    apart true differ key e = absurd (false≢true (sym differ ∙ eq-eqb g.name.0 name (number (int_eq-true (pos name) i e ∙ key))))
      where
        number : pos name ≡ pos g.name.0 → g.name.0 ≡ name
        number e = cc
    apart false differ key e = refl

    by_name : i ≡ pos g.name.0 → (field_sort fields name ≡ None → row_found rows (pos name) ≡ None) → (b : Bool) → nat_eq g.name.0 name ≡ b → cond b (Some g.sort) (field_sort fields name) ≡ None → cond (int_eq (pos name) i) (Some v) (row_found rows (pos name)) ≡ None
    by_name key later true same none = absurd (nothing_there (sym none))
    by_name key later false differ none = ap (λ b. cond b (Some v) (row_found rows (pos name))) (apart (int_eq (pos name) i) differ key refl) ∙ later none

no_step : (shapes : List Shape) (u : Value) (s : Sort) (x : PathStep) → step_sort shapes s x ≡ None → fits shapes u s ≡ true → step_part u x ≡ None
no_step shapes (ArrayOf d rows) s (IndexStep i) none fit = absurd (on_none (element_sort shapes s) _ none fit)
no_step shapes (ArrayOf d rows) s (FieldStep f) none fit = refl
no_step shapes (RecordOf rows) s (IndexStep i) none fit = refl
no_step shapes (RecordOf rows) s (FieldStep f) none fit = by_fields (fields_of shapes s) none fit
  where
    by_fields : (o : Option (List Field)) → field_sort_of o f.0 ≡ None → on_fields o (λ fields. fields_fit shapes rows fields) ≡ true → row_found rows (pos f.0) ≡ None
    by_fields None none fit = absurd (false≢true fit)
    by_fields (Some fields) none fit = no_row shapes rows fields f.0 fit none
no_step shapes (Number z) s x none fit = refl
no_step shapes (Truth b) s x none fit = refl
no_step shapes (Pointer q) s x none fit = refl
no_step shapes (ClassOf cells d rows) s x none fit = refl
no_step shapes (AtomOf z) s x none fit = refl
no_step shapes (PairOf a b) s x none fit = refl

-- ---- paths

before_path : (shapes : List Shape) (s e : Sort) (x : PathStep) (path : List PathStep) → path_sort shapes s (x ∷ path) ≡ Some e → Behind (λ k. path_sort shapes k path) (step_sort shapes s x) e
before_path shapes s e x path leads = behind (λ k. path_sort shapes k path) (step_sort shapes s x) e leads

pub with_fits : (shapes : List Shape) (path : List PathStep) (u : Value) (s e : Sort) → path_sort shapes s path ≡ Some e → fits shapes u s ≡ true → (v : Value) → fits shapes v e ≡ true → fits shapes (with_part u path v) s ≡ true
with_fits shapes [] u s e leads fit v ok = ap (fits shapes v) (some_is leads) ∙ ok
with_fits shapes (x ∷ path) u s e leads fit v ok =
    let r = before_path shapes s e x path leads in
    let k = step_there shapes u s r.item x r.is fit in
    let next = with_fits shapes path k.part r.item e r.gives k.fit v ok in
    step_fits shapes u s r.item x r.is fit (with_part (unwrap_or (step_part u x) u) path v)
    (ap (λ o. fits shapes (with_part (unwrap_or o u) path v) r.item) k.is ∙ next)

pub part_same : (shapes : List Shape) (path : List PathStep) (u : Value) (s e : Sort) → path_sort shapes s path ≡ Some e → fits shapes u s ≡ true → (v : Value) → part_at (with_part u path v) path ≡ Some v
part_same shapes [] u s e leads fit v = refl
part_same shapes (x ∷ path) u s e leads fit v =
    let r = before_path shapes s e x path leads in
    let k = step_there shapes u s r.item x r.is fit in
    ap (option_and_then (λ w. part_at w path)) (step_same shapes u s r.item x r.is fit (with_part (unwrap_or (step_part u x) u) path v))
    ∙ (ap (λ o. part_at (with_part (unwrap_or o u) path v) path) k.is ∙ part_same shapes path k.part r.item e r.gives k.fit v)

same_step-true : (x y : PathStep) → same_step x y ≡ true → x ≡ y
same_step-true (IndexStep i) (IndexStep j) h = ap IndexStep (int_eq-true i j h)
same_step-true (FieldStep f) (FieldStep g) h = let e = eqb-true f.0 g.0 h in λ k. FieldStep (record { 0 = e k })
same_step-true (IndexStep i) (FieldStep g) h = absurd (false≢true h)
same_step-true (FieldStep f) (IndexStep j) h = absurd (false≢true h)

pub part_other : (shapes : List Shape) (path other : List PathStep) (u : Value) (s e : Sort) → path_sort shapes s path ≡ Some e → fits shapes u s ≡ true → (v : Value) → paths_meet path other ≡ false → part_at (with_part u path v) other ≡ part_at u other
part_other shapes [] other u s e leads fit v apart = absurd (false≢true (sym apart))
part_other shapes (x ∷ path) [] u s e leads fit v apart = absurd (false≢true (sym apart))
part_other shapes (x ∷ path) (y ∷ other) u s e leads fit v apart =
    let r = before_path shapes s e x path leads in
    let k = step_there shapes u s r.item x r.is fit in
    let new = with_part (unwrap_or (step_part u x) u) path v in
    by_step (same_step x y) refl apart
    (λ differ. ap (option_and_then (λ w. part_at w other)) (step_other shapes u s r.item x y r.is fit new differ))
    (λ inner. ap (option_and_then (λ w. part_at w other)) (step_same shapes u s r.item x r.is fit new)
    ∙ (ap (λ o. part_at (with_part (unwrap_or o u) path v) other) k.is
    ∙ (part_other shapes path other k.part r.item e r.gives k.fit v inner ∙ sym (ap (option_and_then (λ w. part_at w other)) k.is))))
  where
    by_step : (b : Bool) → same_step x y ≡ b → (b && paths_meet path other) ≡ false
        → (same_step x y ≡ false → part_at (with_part u (x ∷ path) v) (y ∷ other) ≡ part_at u (y ∷ other))
        → (paths_meet path other ≡ false → part_at (with_part u (x ∷ path) v) (x ∷ other) ≡ part_at u (x ∷ other))
        → part_at (with_part u (x ∷ path) v) (y ∷ other) ≡ part_at u (y ∷ other)
    by_step true same apart differ inner = subst (λ z. part_at (with_part u (x ∷ path) v) (z ∷ other) ≡ part_at u (z ∷ other)) (same_step-true x y same) (inner apart)
    by_step false same apart differ inner = differ same

-- two values of one sort have the same parts
pub alike : (shapes : List Shape) (path : List PathStep) (u w : Value) (s : Sort) → fits shapes u s ≡ true → fits shapes w s ≡ true → is_some (part_at u path) ≡ is_some (part_at w path)
alike shapes [] u w s a b = refl
alike shapes (x ∷ path) u w s a b =
    by_sort (step_sort shapes s x) refl (λ e told.
    let j = step_there shapes u s e x told a in
    let k = step_there shapes w s e x told b in
    ap (λ o. is_some (option_and_then (λ q. part_at q path) o)) j.is
    ∙ (alike shapes path j.part k.part e j.fit k.fit ∙ sym (ap (λ o. is_some (option_and_then (λ q. part_at q path) o)) k.is)))
  where
    by_sort : (o : Option Sort) → step_sort shapes s x ≡ o → ((e : Sort) → step_sort shapes s x ≡ Some e → is_some (part_at u (x ∷ path)) ≡ is_some (part_at w (x ∷ path))) → is_some (part_at u (x ∷ path)) ≡ is_some (part_at w (x ∷ path))
    by_sort None none there =
        ap (λ o. is_some (option_and_then (λ q. part_at q path) o)) (no_step shapes u s x none a)
        ∙ sym (ap (λ o. is_some (option_and_then (λ q. part_at q path) o)) (no_step shapes w s x none b))
    by_sort (Some e) told there = there e told
