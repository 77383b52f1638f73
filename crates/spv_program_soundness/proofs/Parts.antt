-- A whole with a part replaced is worth the old whole with that part.
use Rattle.std.proofs.Common.{◌≡◌, Bool, true, false, cond, List, [], ◌∷◌, ◌++◌, map, ℤ, pos, refl, sym, ap, ◌∙◌, Option, Some, None}
use Rattle.std.specs.Option.{option_and_then, unwrap_or}
use Rattle.std.specs.Ordering.{int_eq}
use Rattle.spv_logic.specs.declared.names.names.Symbol.{Symbol}
use Rattle.spv_logic.specs.Values.{Value, default_in, Rows, Number, Truth, Pointer, ArrayOf, RecordOf, ClassOf, AtomOf, PairOf, no_rows, row, rows_in, set_row, row_at, number_of}
use Rattle.spv_logic.specs.Terms.{Term, store_in, eval}
use Rattle.spv_logic.specs.Conditions.{Meaning, Valuation}
use Rattle.spv_program.specs.Places.{Step, ToElement, ToField, part, changed_part}
use Rattle.spv_program.proofs.SortFacts.{nothing_there, some_is, behind}
use Rattle.spv_writes.specs.Writes.{part_of}
use Rattle.spv_meaning.specs.Places.{Place, State, root_value, look, PathStep, IndexStep, FieldStep, row_found, step_part, part_at, with_part}
use Rattle.spv_call_evaluation.specs.Lying.{step_at}

row_told : (rows : Rows) (key : ℤ) (d w : Value) → row_found rows key ≡ Some w → row_at rows key d ≡ w
row_told no_rows key d w e = absurd (nothing_there e)
row_told (row i v rows) key d w e = by_key (int_eq key i) e (row_told rows key d w)
  where
    by_key : (b : Bool) → cond b (Some v) (row_found rows key) ≡ Some w → (row_found rows key ≡ Some w → row_at rows key d ≡ w) → cond b v (row_at rows key d) ≡ w
    by_key true e later = some_is e
    by_key false e later = later e

module _ (symbols : Meaning) (v : Valuation) where
  element_told : (V I w : Value) → step_part V (IndexStep (number_of I)) ≡ Some w → row_at (rows_in V) (number_of I) (default_in V) ≡ w
  element_told (ArrayOf d rows) I w e = some_is e
  element_told (Number z) I w e = absurd (nothing_there e)
  element_told (Truth b) I w e = absurd (nothing_there e)
  element_told (Pointer q) I w e = absurd (nothing_there e)
  element_told (RecordOf rows) I w e = absurd (nothing_there e)
  element_told (ClassOf cells d rows) I w e = absurd (nothing_there e)
  element_told (AtomOf z) I w e = absurd (nothing_there e)
  element_told (PairOf a b) I w e = absurd (nothing_there e)

  field_told : (V : Value) (f : Symbol) (w : Value) → step_part V (FieldStep f) ≡ Some w → row_at (rows_in V) (pos f.0) (Number (pos 0)) ≡ w
  field_told (RecordOf rows) f w e = row_told rows (pos f.0) (Number (pos 0)) w e
  field_told (ArrayOf d rows) f w e = absurd (nothing_there e)
  field_told (Number z) f w e = absurd (nothing_there e)
  field_told (Truth b) f w e = absurd (nothing_there e)
  field_told (Pointer q) f w e = absurd (nothing_there e)
  field_told (ClassOf cells d rows) f w e = absurd (nothing_there e)
  field_told (AtomOf z) f w e = absurd (nothing_there e)
  field_told (PairOf a b) f w e = absurd (nothing_there e)

  -- a step's part is worth what is there
  part_worth : (s : Term) (x : Step) (w : Value) → step_part (eval symbols v s) (step_at symbols v x) ≡ Some w → eval symbols v (part s x) ≡ w
  part_worth s (ToElement i) w e = element_told (eval symbols v s) (eval symbols v i) w e
  part_worth s (ToField f) w e = field_told (eval symbols v s) f w e

  -- and the whole with something else there
  pub changed_worth : (path : List Step) (s t : Term) (u : Value) → part_at (eval symbols v s) (map (step_at symbols v) path) ≡ Some u → eval symbols v (changed_part s path t) ≡ with_part (eval symbols v s) (map (step_at symbols v) path) (eval symbols v t)
  changed_worth [] s t u e = refl
  changed_worth (ToElement i ∷ path) s t u e =
      let S = eval symbols v s in
      let I = eval symbols v i in
      let rest = map (step_at symbols v) path in
      let b = behind (λ w. part_at w rest) (step_part S (IndexStep (number_of I))) u e in
      let here = part_worth s (ToElement i) b.item b.is in
      let later = changed_worth path (part s (ToElement i)) t u (ap (λ w. part_at w rest) here ∙ b.gives) in
      ap (λ w. store_in S I w) (later ∙ ap (λ w. with_part w rest (eval symbols v t)) (here ∙ ap (λ o. unwrap_or o S) (sym b.is)))
  changed_worth (ToField f ∷ path) s t u e =
      let S = eval symbols v s in
      let rest = map (step_at symbols v) path in
      let b = behind (λ w. part_at w rest) (step_part S (FieldStep f)) u e in
      let here = part_worth s (ToField f) b.item b.is in
      let later = changed_worth path (part s (ToField f)) t u (ap (λ w. part_at w rest) here ∙ b.gives) in
      ap (λ w. RecordOf (set_row (rows_in S) (pos f.0) w)) (later ∙ ap (λ w. with_part w rest (eval symbols v t)) (here ∙ ap (λ o. unwrap_or o S) (sym b.is)))

-- the part of a part
pub part_joined : (front rel : List PathStep) (u : Value) → part_at u (front ++ rel) ≡ option_and_then (λ w. part_at w rel) (part_at u front)
part_joined [] rel u = refl
part_joined (s ∷ front) rel u = by_step (step_part u s) (part_joined front rel)
  where
    by_step : (o : Option Value) → ((w : Value) → part_at w (front ++ rel) ≡ option_and_then (λ w. part_at w rel) (part_at w front)) → option_and_then (λ w. part_at w (front ++ rel)) o ≡ option_and_then (λ w. part_at w rel) (option_and_then (λ w. part_at w front) o)
    by_step None later = refl
    by_step (Some w) later = later w

-- what a part of a place holds
pub look_joined : (state : State) (a : Place) (rel : List PathStep) → look state (part_of a rel) ≡ option_and_then (λ w. part_at w rel) (look state a)
look_joined state a rel = by_root (root_value state a.root)
  where
    by_root : (o : Option Value) → option_and_then (λ w. part_at w (a.path ++ rel)) o ≡ option_and_then (λ w. part_at w rel) (option_and_then (λ w. part_at w a.path) o)
    by_root None = refl
    by_root (Some w) = part_joined a.path rel w
