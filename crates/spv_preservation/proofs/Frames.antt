-- Frames that are pushed and popped.
use Rattle.spv_meaning.specs.FrameTypes.{FrameType, formal_slot, frame_of, frames_right, kept_type, names_right, own_slot, slot_in, slots_of}
use Rattle.std.proofs.Common.{◌≡◌, true, false, cond, List, [], ◌∷◌, ◌++◌, map, drop, refl, ap, ◌∙◌, Option, Some, None}
use Rattle.std.specs.Option.{option_and_then}
use Rattle.std.specs.List.{list_any}
use Rattle.std.specs.Cmp.Derive.{both_true}
use Rattle.std.proofs.lemmas.Bool.{false≢true, eq-eqb}
use Rattle.spv_logic.proofs.list.Tests.{left_false, right_false}
use Rattle.spv_logic.specs.declared.names.names.Symbol.{Symbol}
use Rattle.spv_logic.specs.declared.types.TypeId.{TypeId}
use Rattle.spv_logic.specs.declared.conditions.RoutineId.{RoutineId}
use Rattle.spv_logic.specs.Values.{Value}
use Rattle.spv_logic.specs.Fits.{fits}
use Rattle.spv_program.specs.Lists.{same_name, found}
use Rattle.spv_program.specs.Types.{sort_of}
use Rattle.spv_program.specs.Programs.{Formal, Routine, Program, shapes}
use Rattle.spv_program.specs.Scopes.{result_name}
use Rattle.spv_meaning.specs.Places.{Binding, Frame, HeapRow, State, Holding, held, value_or_zero}
use Rattle.spv_meaning.specs.Outcomes.{take_choice}
use Rattle.spv_meaning.specs.Levels.{choose_all, push, pop, result_in}
use Rattle.spv_meaning.specs.Starts.{is_of_type, IsRight}
use Rattle.spv_meaning.proofs.Maps.{other_way}
use Rattle.spv_preservation.specs.Right.{Leaves}
use Rattle.spv_preservation.proofs.Outcomes.{IfEnded, if_ends, if_then, if_taken}
use Rattle.spv_preservation.proofs.Roots.{name_there, first_frame, frames_from}
use Rattle.spv_preservation.proofs.Growing.{grows_on, grows_not}

-- ---- what is left

pub leaves_now : (p : Program) (types : List FrameType) (state : State) → IsRight p types state → Leaves p types state.heap state
leaves_now p types state right = record { right = right; grows = grows_not state.heap }

pub leaves_on : (p : Program) (types types' : List FrameType) (before : List HeapRow) (mid after : State) → Leaves p types before mid → Leaves p types' mid.heap after → Leaves p types' before after
leaves_on p types types' before mid after first second = record { right = second.right; grows = grows_on before mid.heap after.heap first.grows second.grows }

-- ---- names that are bound

-- variables that begin with choices of their sorts
pub all_chosen : (p : Program) (older : List FrameType) (heap : List HeapRow) (own : List (Symbol × TypeId)) (choices : List Value) → IfEnded (λ names. names_right p older heap (map own_slot own) names ≡ true) (choose_all p own choices)
all_chosen p older heap [] choices = if_ends (λ names. names_right p older heap [] names ≡ true) [] choices refl
all_chosen p older heap (n ∷ own) choices =
    if_then (λ v. fits (shapes p) v (sort_of p.forms n.1) ≡ true) (λ names. names_right p older heap (map own_slot (n ∷ own)) names ≡ true) (take_choice (shapes p) (sort_of p.forms n.1) choices) _ (if_taken (shapes p) (sort_of p.forms n.1) choices) (λ v rest fit.
    if_then (λ names. names_right p older heap (map own_slot own) names ≡ true) (λ names. names_right p older heap (map own_slot (n ∷ own)) names ≡ true) (choose_all p own rest) _ (all_chosen p older heap own rest) (λ others last right.
    if_ends (λ names. names_right p older heap (map own_slot (n ∷ own)) names ≡ true) ((n.0, Holding v) ∷ others) last (both_true (eq-eqb n.0.0 n.0.0 refl) (both_true fit right))))

-- ---- frames

pub pushed : (p : Program) (id : RoutineId) (r : Routine) (types : List FrameType) (before : List HeapRow) (state : State) (names : List (Symbol × Binding)) → Leaves p types before state → names_right p types state.heap (slots_of r) names ≡ true → Leaves p (frame_of id r ∷ types) before (push id names state)
pushed p id r types before state names leaves right = record {
  right = record {
    variables = leaves.right.variables;
    frames = frames_from p (frame_of id r) types state.heap (record { routine = id; names = names }) state.frames (eq-eqb id.0 id.0 refl) right leaves.right.frames;
    heap = leaves.right.heap;
  };
  grows = leaves.grows;
}

pub popped : (p : Program) (t : FrameType) (types : List FrameType) (before : List HeapRow) (state : State) → Leaves p (t ∷ types) before state → Leaves p types before (pop state)
popped p t types before state leaves = record {
  right = record { variables = leaves.right.variables; frames = by_frames state.frames leaves.right.frames; heap = leaves.right.heap };
  grows = leaves.grows;
}
  where
    by_frames : (frames : List Frame) → frames_right p (t ∷ types) state.heap frames ≡ true → frames_right p types state.heap (drop 1 frames) ≡ true
    by_frames [] h = absurd (false≢true h)
    by_frames (f ∷ frames) h = (first_frame p t types state.heap f frames h).others

-- ---- results

pub result_slot : (formals : List Formal) (x : Symbol) (t : TypeId) (locals : List (Symbol × TypeId)) → list_any (same_name x) (map (λ f. f.name) formals) ≡ false → option_and_then kept_type (slot_in (map formal_slot formals ++ map own_slot ((x, t) ∷ locals)) x) ≡ Some t
result_slot [] x t locals none = ap (λ b. option_and_then kept_type (cond b (Some (own_slot (x, t))) (slot_in (map own_slot locals) x))) (eq-eqb x.0 x.0 refl)
result_slot (f ∷ formals) x t locals none =
    ap (λ b. option_and_then kept_type (cond b (Some (formal_slot f)) (slot_in (map formal_slot formals ++ map own_slot ((x, t) ∷ locals)) x))) (other_way x f.name (left_false (same_name x f.name) _ none))
    ∙ result_slot formals x t locals (right_false (same_name x f.name) _ none)

-- the newest frame of a function has a value of the result's type under its name
pub result_right : (p : Program) (id : RoutineId) (r : Routine) (t : TypeId) (types : List FrameType) (state : State) → r.result ≡ Some t → list_any (same_name r.name) (map (λ f. f.name) r.formals) ≡ false → IsRight p (frame_of id r ∷ types) state → fits (shapes p) (result_in (Some r) state.frames) (sort_of p.forms t) ≡ true
result_right p id r t types state is none right = by_frames state.frames right.frames
  where
    slot : option_and_then kept_type (slot_in (slots_of r) r.name) ≡ Some t
    slot =
        ap (λ o. option_and_then kept_type (slot_in (map formal_slot r.formals ++ map own_slot (result_name r.name o ++ r.locals)) r.name)) is
        ∙ result_slot r.formals r.name t r.locals none

    of_type : (o : Option Value) → is_of_type p t o ≡ true → fits (shapes p) (value_or_zero o) (sort_of p.forms t) ≡ true
    of_type None h = absurd (false≢true h)
    of_type (Some v) h = h

    by_frames : (frames : List Frame) → frames_right p (frame_of id r ∷ types) state.heap frames ≡ true → fits (shapes p) (result_in (Some r) frames) (sort_of p.forms t) ≡ true
    by_frames [] h = absurd (false≢true h)
    by_frames (f ∷ frames) h =
        of_type (option_and_then held (found f.names r.name))
        (name_there p types state.heap (slots_of r) f.names r.name t (first_frame p (frame_of id r) types state.heap f frames h).names slot)
