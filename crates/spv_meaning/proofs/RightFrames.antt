-- Defaults make right states.
use Rattle.std.proofs.Common.{◌≡◌, Bool, true, false, cond, ◌&&◌, List, [], ◌∷◌, ◌++◌, map, refl, ap, ◌∙◌, Option, Some}
use Rattle.std.specs.Option.{option_and_then}
use Rattle.std.specs.List.{list_all, list_any}
use Rattle.std.specs.Cmp.Derive.{both_true}
use Rattle.std.proofs.lemmas.Bool.{false≢true, eq-eqb}
use Rattle.spv_logic.proofs.list.Tests.{left_true, right_true, left_false, right_false}
use Rattle.spv_logic.specs.declared.names.names.Symbol.{Symbol}
use Rattle.spv_logic.specs.declared.types.TypeId.{TypeId}
use Rattle.spv_logic.specs.declared.types.Sort.{Sort}
use Rattle.spv_logic.specs.declared.conditions.RoutineId.{RoutineId}
use Rattle.spv_logic.specs.Fits.{fits, default_of}
use Rattle.spv_logic.proofs.Defaults.{default_fits}
use Rattle.spv_logic.proofs.Equality.{sort_eq-refl}
use Rattle.spv_program.specs.Lists.{same_name, all_differ}
use Rattle.spv_program.specs.Types.{sort_of}
use Rattle.spv_program.specs.FormulaTypes.{is_sort}
use Rattle.spv_program.specs.Programs.{Formal, Routine, Program, shapes}
use Rattle.spv_program.specs.Scopes.{result_name}
use Rattle.spv_program.specs.Typing.{well_typed}
use Rattle.spv_meaning.specs.Places.{Binding, HeapRow, OwnValue, Holding, Referring, whole}
use Rattle.spv_meaning.specs.FrameTypes.{Slot, FrameType, formal_slot, own_slot, frame_of, slot_in, kept_type, place_sort, binding_right, names_right}
use Rattle.spv_meaning.specs.Starts.{IsRight}
use Rattle.spv_meaning.specs.Laws.{holding_defaults, started_formal, with_own_defaults}
use Rattle.spv_meaning.proofs.Differing.{first_differs, others_differ}
use Rattle.spv_meaning.proofs.MainStart.{types_ok, variables_right}

pub is_sort-of : (s : Sort) (o : Option Sort) → o ≡ Some s → is_sort s o ≡ true
is_sort-of s o e = ap (is_sort s) e ∙ sort_eq-refl s

pub names_append : (p : Program) (older : List FrameType) (heap : List HeapRow) (slots more : List Slot) (names others : List (Symbol × Binding)) → names_right p older heap slots names ≡ true → names_right p older heap more others ≡ true → names_right p older heap (slots ++ more) (names ++ others) ≡ true
names_append p older heap [] more [] others h k = k
names_append p older heap [] more (n ∷ names) others h k = absurd (false≢true h)
names_append p older heap (s ∷ slots) more [] others h k = absurd (false≢true h)
names_append p older heap (s ∷ slots) more (n ∷ names) others h k =
    let rest = right_true (same_name s.name n.0) (binding_right p older heap s n.1 && names_right p older heap slots names) h in
    both_true (left_true (same_name s.name n.0) _ h)
    (both_true (left_true (binding_right p older heap s n.1) _ rest) (names_append p older heap slots more names others (right_true (binding_right p older heap s n.1) _ rest) k))

-- the frame below that of a routine at its start: a value for each parameter
abbrev pub parameters_of : RoutineId → Routine → FrameType
parameters_of id r = record { routine = id; slots = map (λ f. record { name = f.name; of = f.of; by_place = false }) r.formals }

module _ (p : Program) (typed : well_typed p ≡ true) (id : RoutineId) where
  held : (t : TypeId) → fits (shapes p) (default_of (shapes p) (sort_of p.forms t)) (sort_of p.forms t) ≡ true
  held t = default_fits (shapes p) (types_ok p typed) (sort_of p.forms t)

  own_right : (older : List FrameType) (own : List (Symbol × TypeId)) → names_right p older [] (map own_slot own) (holding_defaults p own) ≡ true
  own_right older [] = refl
  own_right older (n ∷ own) = both_true (eq-eqb n.0.0 n.0.0 refl) (both_true (held n.1) (own_right older own))

  abbrev value_slot : Formal → Slot
  value_slot f = record { name = f.name; of = f.of; by_place = false }

  below_right : (formals : List Formal) → names_right p [] [] (map value_slot formals) (holding_defaults p (map (λ f. (f.name, f.of)) formals)) ≡ true
  below_right [] = refl
  below_right (f ∷ formals) = both_true (eq-eqb f.name.0 f.name.0 refl) (both_true (held f.of) (below_right formals))

  -- whether the slots below keep a value of a parameter's sort under its name
  abbrev has_value : List Slot → Formal → Bool
  has_value slots f = is_sort (sort_of p.forms f.of) (place_sort p (record { routine = id; slots = slots } ∷ []) [] (whole (OwnValue 0 f.name)))

  -- a further parameter of another name leaves the others
  values_stay : (g : Formal) (formals : List Formal) (slots : List Slot) → list_any (same_name g.name) (map (λ f. f.name) formals) ≡ false → list_all (has_value slots) formals ≡ true → list_all (has_value (value_slot g ∷ slots)) formals ≡ true
  values_stay g [] slots none all = refl
  values_stay g (f ∷ formals) slots none all =
      both_true (stays (left_false (same_name g.name f.name) _ none) (left_true (has_value slots f) _ all))
      (values_stay g formals slots (right_false (same_name g.name f.name) _ none) (right_true (has_value slots f) _ all))
    where
      stays : same_name g.name f.name ≡ false → has_value slots f ≡ true → has_value (value_slot g ∷ slots) f ≡ true
      stays other h =
          ap (λ b. is_sort (sort_of p.forms f.of) (option_and_then (λ t. Some (sort_of p.forms t)) (option_and_then kept_type (cond b (Some (value_slot g)) (slot_in slots f.name))))) other ∙ h

  have_values : (formals : List Formal) → all_differ same_name (map (λ f. f.name) formals) ≡ true → list_all (has_value (map value_slot formals)) formals ≡ true
  have_values [] differ = refl
  have_values (f ∷ formals) differ =
      both_true (is_sort-of (sort_of p.forms f.of) _ (ap (λ b. option_and_then (λ t. Some (sort_of p.forms t)) (option_and_then kept_type (cond b (Some (value_slot f)) (slot_in (map value_slot formals) f.name)))) (eq-eqb f.name.0 f.name.0 refl)))
      (values_stay f formals (map value_slot formals) (first_differs same_name f.name (map (λ f. f.name) formals) differ) (have_values formals (others_differ same_name f.name (map (λ f. f.name) formals) differ)))

  formals_right : (slots : List Slot) (formals : List Formal) → list_all (has_value slots) formals ≡ true → names_right p (record { routine = id; slots = slots } ∷ []) [] (map formal_slot formals) (map (λ f. (f.name, started_formal p f)) formals) ≡ true
  formals_right slots [] all = refl
  formals_right slots (f ∷ formals) all =
      both_true (eq-eqb f.name.0 f.name.0 refl) (both_true (by_kind f.by_place (left_true (has_value slots f) _ all)) (formals_right slots formals (right_true (has_value slots f) _ all)))
    where
      by_kind : (b : Bool) → has_value slots f ≡ true
          → binding_right p (record { routine = id; slots = slots } ∷ []) [] (record { name = f.name; of = f.of; by_place = b }) (cond b (Referring (whole (OwnValue 0 f.name))) (Holding (default_of (shapes p) (sort_of p.forms f.of)))) ≡ true
      by_kind true h = h
      by_kind false h = held f.of

  pub start_right : (r : Routine) → all_differ same_name (map (λ f. f.name) r.formals) ≡ true → IsRight p (frame_of id r ∷ parameters_of id r ∷ []) (with_own_defaults p id r)
  start_right r differ = record {
    variables = variables_right p typed;
    frames = both_true (eq-eqb id.0 id.0 refl)
        (both_true (names_append p (parameters_of id r ∷ []) [] (map formal_slot r.formals) (map own_slot (result_name r.name r.result ++ r.locals)) (map (λ f. (f.name, started_formal p f)) r.formals) (holding_defaults p (result_name r.name r.result ++ r.locals))
        (formals_right (map value_slot r.formals) r.formals (have_values r.formals (differ)))
        (own_right (parameters_of id r ∷ []) (result_name r.name r.result ++ r.locals)))
        (both_true (eq-eqb id.0 id.0 refl) (both_true (below_right r.formals) refl)));
    heap = refl;
  }
