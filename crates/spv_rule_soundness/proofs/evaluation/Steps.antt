-- Steps into values, and evaluations one after the other.
use Rattle.std.proofs.Common.{◌≡◌, Bool, true, false, cond, List, [], ◌∷◌, ◌++◌, pos, refl, sym, ap, subst, ◌∙◌, nat_eq, Option, Some, None}
use Rattle.std.specs.Option.{option_and_then}
use Rattle.std.specs.Ordering.{int_eq}
use Rattle.std.proofs.lemmas.Bool.{false≢true, eqb-true}
use Rattle.spv_logic.proofs.list.Tests.{left_true, right_true}
use Rattle.spv_logic.specs.declared.names.names.Symbol.{Symbol}
use Rattle.spv_logic.specs.declared.types.Sort.{Sort}
use Rattle.spv_logic.specs.declared.types.Sort.TheVariants as sort
use Rattle.spv_logic.specs.declared.types.Shape.{Shape}
use Rattle.spv_logic.specs.declared.types.Shape.TheVariants as shape
use Rattle.spv_logic.specs.declared.types.Field.{Field}
use Rattle.spv_logic.specs.Values.{Value, Rows, Number, Truth, Pointer, ArrayOf, RecordOf, ClassOf, AtomOf, PairOf, no_rows, row, rows_in, default_in, number_of, row_at}
use Rattle.spv_logic.specs.Shapes.{shape_at, element_sort, element_of_shape, fields_of, fields_of_shape, field_sort, field_sort_of, is_pointer, is_list}
use Rattle.spv_logic.specs.Fits.{on_sort, on_fields, fits, fields_fit}
use Rattle.spv_logic.proofs.Equality.{int_eq-true, int_eq-refl, sort_eq-true}
use Rattle.spv_logic.proofs.Sorting.{array_parts}
use Rattle.spv_program.proofs.SortFacts.{nothing_there}
use Rattle.spv_meaning.specs.declared.faults.Fault.{Fault}
use Rattle.spv_meaning.specs.Outcomes.{Outcome, Ended, and_then, go_on, stops_unless}
use Rattle.spv_meaning.specs.Places.{PathStep, Place, State, IndexStep, FieldStep, row_found, step_part, part_at, root_value, look}
use Rattle.spv_rule_soundness.specs.evaluation.Quiet.{Quiet, Stops, Gives}

-- ---- one after the other

pub quiet_then : {A B : Type 0} (P : A → Type 0) (Q : B → Type 0) (choices : List Value) (o : Outcome A) (next : A → List Value → Outcome B) → Quiet A P choices o → ((x : A) → P x → Quiet B Q choices (next x choices)) → Quiet B Q choices (and_then o next)
quiet_then P Q choices o next (Stops f is) later = Stops f (ap (λ o. and_then o next) is)
quiet_then P Q choices o next (Gives x is passes) later = after (later x passes)
  where
    after : Quiet _ Q choices (next x choices) → Quiet _ Q choices (and_then o next)
    after (Stops f e) = Stops f (ap (λ o. and_then o next) is ∙ ap (λ o. go_on (Ended x) [] choices (λ y rest. o)) e)
    after (Gives y e passed) = Gives y (ap (λ o. and_then o next) is ∙ ap (λ o. go_on (Ended x) [] choices (λ y rest. o)) e) passed

pub quiet_unless : {A : Type 0} (P : A → Type 0) (test : Bool) (f : Fault) (x : A) (choices : List Value) → (test ≡ true → P x) → Quiet A P choices (stops_unless test f x choices)
quiet_unless P true f x choices passes = Gives x refl (passes refl)
quiet_unless P false f x choices passes = Stops f refl

pub quiet_as : {A : Type 0} (P Q : A → Type 0) (choices : List Value) (o : Outcome A) → ((x : A) → P x → Q x) → Quiet A P choices o → Quiet A Q choices o
quiet_as P Q choices o change (Stops f is) = Stops f is
quiet_as P Q choices o change (Gives x is passes) = Gives x is (change x passes)

-- ---- a further step

pub part_at-further : (path : List PathStep) (v : Value) (s : PathStep) → part_at v (path ++ s ∷ []) ≡ option_and_then (λ w. step_part w s) (part_at v path)
part_at-further [] v s = last (step_part v s)
  where
    last : (o : Option Value) → option_and_then (λ w. part_at w []) o ≡ o
    last None = refl
    last (Some w) = refl
part_at-further (t ∷ path) v s = first (step_part v t) (λ w. part_at-further path w s)
  where
    first : (o : Option Value) → ((w : Value) → part_at w (path ++ s ∷ []) ≡ option_and_then (λ w. step_part w s) (part_at w path)) → option_and_then (λ w. part_at w (path ++ s ∷ [])) o ≡ option_and_then (λ w. step_part w s) (option_and_then (λ w. part_at w path) o)
    first None later = refl
    first (Some w) later = later w

pub look-further : (state : State) (place : Place) (s : PathStep) (v w : Value) → look state place ≡ Some v → step_part v s ≡ Some w → look state (record { root = place.root; path = place.path ++ s ∷ [] }) ≡ Some w
look-further state place s v w there part = by_root (root_value state place.root) there
  where
    by_root : (o : Option Value) → option_and_then (λ u. part_at u place.path) o ≡ Some v → option_and_then (λ u. part_at u (place.path ++ s ∷ [])) o ≡ Some w
    by_root None e = absurd (nothing_there e)
    by_root (Some u) e = part_at-further place.path u s ∙ (ap (λ o. option_and_then (λ w. step_part w s) o) e ∙ part)

-- ---- arrays and records

pub array_step : (shapes : List Shape) (v i : Value) (a e : Sort) → element_sort shapes a ≡ Some e → fits shapes v a ≡ true → step_part v (IndexStep (number_of i)) ≡ Some (row_at (rows_in v) (number_of i) (default_in v))
array_step shapes v i a e told fit =
    let parts = array_parts shapes v a e told fit in
    subst (λ (w : Value). step_part w (IndexStep (number_of i)) ≡ Some (row_at (rows_in w) (number_of i) (default_in w))) (sym parts.is) refl

row_there : (shapes : List Shape) (rows : Rows) (fields : List Field) (f : Symbol) (s : Sort) (d : Value) → fields_fit shapes rows fields ≡ true → field_sort fields f.0 ≡ Some s → row_found rows (pos f.0) ≡ Some (row_at rows (pos f.0) d)
row_there shapes no_rows [] f s d fit told = absurd (nothing_there told)
row_there shapes no_rows (g ∷ fields) f s d fit told = absurd (false≢true fit)
row_there shapes (row i v rows) [] f s d fit told = absurd (nothing_there told)
row_there shapes (row i v rows) (g ∷ fields) f s d fit told =
    let key = int_eq-true i (pos g.name.0) (left_true (int_eq i (pos g.name.0)) _ fit) in
    let others = right_true (fits shapes v g.sort) (fields_fit shapes rows fields) (right_true (int_eq i (pos g.name.0)) _ fit) in
    by_key key (row_there shapes rows fields f s d others) (int_eq (pos f.0) i) refl
  where
    Later : Type 0
    Later = field_sort fields f.0 ≡ Some s → row_found rows (pos f.0) ≡ Some (row_at rows (pos f.0) d)

    by_name : int_eq (pos f.0) (pos g.name.0) ≡ false → (b : Bool) → nat_eq g.name.0 f.0 ≡ b → cond b (Some g.sort) (field_sort fields f.0) ≡ Some s → field_sort fields f.0 ≡ Some s
    by_name other true same told =
        absurd (false≢true (sym other ∙ (ap (λ k. int_eq (pos f.0) (pos k)) (eqb-true g.name.0 f.0 same) ∙ int_eq-refl (pos f.0))))
    by_name other false same told = told

    by_key : i ≡ pos g.name.0 → Later → (b : Bool) → int_eq (pos f.0) i ≡ b → cond b (Some v) (row_found rows (pos f.0)) ≡ Some (cond b v (row_at rows (pos f.0) d))
    by_key key later true e = refl
    by_key key later false e = later (by_name (ap (λ k. int_eq (pos f.0) k) (sym key) ∙ e) (nat_eq g.name.0 f.0) refl told)

pub field_step : (shapes : List Shape) (v : Value) (r s : Sort) (f : Symbol) → field_sort_of (fields_of shapes r) f.0 ≡ Some s → fits shapes v r ≡ true → step_part v (FieldStep f) ≡ Some (row_at (rows_in v) (pos f.0) (Number (pos 0)))
field_step shapes (RecordOf rows) r s f told fit = by_fields (fields_of shapes r) told fit
  where
    by_fields : (o : Option (List Field)) → field_sort_of o f.0 ≡ Some s → on_fields o (λ fields. fields_fit shapes rows fields) ≡ true → row_found rows (pos f.0) ≡ Some (row_at rows (pos f.0) (Number (pos 0)))
    by_fields None told fit = absurd (nothing_there told)
    by_fields (Some fields) told fit = row_there shapes rows fields f s (Number (pos 0)) fit told
field_step shapes (Number z) r s f told fit =
    absurd (nothing_there (ap (λ r. field_sort_of (fields_of shapes r) f.0) (sym (sort_eq-true r sort.Int fit)) ∙ told))
field_step shapes (Truth b) r s f told fit =
    absurd (nothing_there (ap (λ r. field_sort_of (fields_of shapes r) f.0) (sym (sort_eq-true r sort.Bool fit)) ∙ told))
field_step shapes (Pointer p) r s f told fit = by_sort r told fit
  where
    by_sort : (r : Sort) → field_sort_of (fields_of shapes r) f.0 ≡ Some s → is_pointer r ≡ true → step_part (Pointer p) (FieldStep f) ≡ Some (row_at (rows_in (Pointer p)) (pos f.0) (Number (pos 0)))
    by_sort (sort.Ptr t) told fit = absurd (nothing_there told)
    by_sort _ told fit = absurd (false≢true fit)
field_step shapes (ArrayOf d rows) r s f told fit = by_sort r told fit
  where
    Goal : Type 0
    Goal = step_part (ArrayOf d rows) (FieldStep f) ≡ Some (row_at (rows_in (ArrayOf d rows)) (pos f.0) (Number (pos 0)))

    by_shape : (sh : Shape) (test : Sort → Bool) → field_sort_of (fields_of_shape sh) f.0 ≡ Some s → on_sort (element_of_shape sh) test ≡ true → Goal
    by_shape (shape.Array e) test told fit = absurd (nothing_there told)
    by_shape _ test told fit = absurd (false≢true fit)

    by_sort : (r : Sort) → field_sort_of (fields_of shapes r) f.0 ≡ Some s → fits shapes (ArrayOf d rows) r ≡ true → Goal
    by_sort (sort.Whole t) told fit = by_shape (shape_at shapes t.0) _ told fit
    by_sort _ told fit = absurd (nothing_there told)
field_step shapes (ClassOf cells d rows) r s f told fit = by_sort r told fit
  where
    by_sort : (r : Sort) → field_sort_of (fields_of shapes r) f.0 ≡ Some s → fits shapes (ClassOf cells d rows) r ≡ true → step_part (ClassOf cells d rows) (FieldStep f) ≡ Some (row_at (rows_in (ClassOf cells d rows)) (pos f.0) (Number (pos 0)))
    by_sort (sort.Class t) told fit = absurd (nothing_there told)
    by_sort _ told fit = absurd (false≢true fit)
field_step shapes (AtomOf z) r s f told fit = by_sort r told fit
  where
    by_sort : (r : Sort) → field_sort_of (fields_of shapes r) f.0 ≡ Some s → is_list r ≡ true → step_part (AtomOf z) (FieldStep f) ≡ Some (row_at (rows_in (AtomOf z)) (pos f.0) (Number (pos 0)))
    by_sort sort.List told fit = absurd (nothing_there told)
    by_sort _ told fit = absurd (false≢true fit)
field_step shapes (PairOf a b) r s f told fit = by_sort r told (left_true (is_list r) _ fit)
  where
    by_sort : (r : Sort) → field_sort_of (fields_of shapes r) f.0 ≡ Some s → is_list r ≡ true → step_part (PairOf a b) (FieldStep f) ≡ Some (row_at (rows_in (PairOf a b)) (pos f.0) (Number (pos 0)))
    by_sort sort.List told fit = absurd (nothing_there told)
    by_sort _ told fit = absurd (false≢true fit)
