-- Names that a called routine shares with its caller, and where they lie.
use Rattle.std.proofs.Common.{◌≡◌, Bool, true, false, cond, length, ◌&&◌, ◌||◌, List, [], ◌∷◌, ◌++◌, map, refl, sym, ap, subst, ◌∙◌, Option, Some, None}
use Rattle.std.specs.List.{list_all, list_any}
use Rattle.std.specs.Prelude.{is_some}
use Rattle.std.proofs.lemmas.Bool.{false≢true}
use Rattle.spv_logic.proofs.list.Tests.{left_true, right_true, left_false, right_false, both_false}
use Rattle.spv_logic.specs.declared.names.names.Symbol.{Symbol}
use Rattle.spv_logic.specs.declared.types.TypeId.{TypeId}
use Rattle.spv_logic.specs.declared.conditions.RoutineId.{RoutineId}
use Rattle.spv_program.specs.declared.types.Item.{Item}
use Rattle.spv_program.specs.declared.types.Item.TheVariants.{Variable, Class}
use Rattle.spv_program.specs.Lists.{same_name, found, all_differ}
use Rattle.spv_program.specs.Types.{same_item}
use Rattle.spv_program.specs.Programs.{Formal, GlobalItem, Routine, Program, lists, routine_at, routine_in}
use Rattle.spv_program.specs.Scopes.{result_name, own_names, is_own}
use Rattle.spv_program.specs.Typing.{variables_among, scope_names, well_typed}
use Rattle.spv_meaning.specs.Places.{Frame, State, ProgramVariable, whole}
use Rattle.spv_meaning.specs.Views.{bound_place, place_in, place_of, sees}
use Rattle.spv_meaning.specs.FrameTypes.{FrameType, IsIn, in_main, in_routine, frame_of, frames_right}
use Rattle.spv_meaning.specs.Starts.{IsRight}
use Rattle.spv_meaning.proofs.Differing.{none_right, none_both, first_differs, others_differ, differ_right}
use Rattle.spv_meaning.proofs.Maps.{same_names, other_way}
use Rattle.spv_preservation.proofs.Calls.{names_differ}
use Rattle.spv_preservation.proofs.Roots.{first_frame}
use Rattle.spv_writes.proofs.Lists.{any_right}
use Rattle.spv_frame_law.proofs.Covering.{items_same}
use Rattle.spv_frame_law.proofs.Names.{own_bound}

-- ---- names that differ

-- of names that all differ, one that stands behind stands not in front
not_in_front : (xs ys : List Symbol) (x : Symbol) → all_differ same_name (xs ++ ys) ≡ true → list_any (same_name x) ys ≡ true → list_any (same_name x) xs ≡ false
not_in_front [] ys x differ there = refl
not_in_front (z ∷ xs) ys x differ there = by_name (same_name x z) refl (not_in_front xs ys x (others_differ same_name z (xs ++ ys) differ) there)
  where
    by_name : (b : Bool) → same_name x z ≡ b → list_any (same_name x) xs ≡ false → (b || list_any (same_name x) xs) ≡ false
    by_name true e later =
        absurd (false≢true (sym (none_right (same_name z) xs ys (first_differs same_name z (xs ++ ys) differ)) ∙ (ap (λ k. list_any (same_name k) ys) (sym (same_names x z e)) ∙ there)))
    by_name false e later = later

not_found : (names : List (Symbol × TypeId)) (x : Symbol) → list_any (same_name x) (map (λ n. n.0) names) ≡ false → found names x ≡ None
not_found [] x none = refl
not_found (n ∷ names) x none =
    ap (λ b. cond b (Some n.1) (found names x)) (other_way x n.0 (left_false (same_name x n.0) _ none)) ∙ not_found names x (right_false (same_name x n.0) _ none)

pub among_variables : (globals : List GlobalItem) (x : Symbol) → lists globals (Variable x) false ≡ true → list_any (same_name x) (variables_among (map (λ g. g.item) globals)) ≡ true
among_variables [] x h = h
among_variables (g ∷ globals) x h = by_item g.item h (among_variables globals x)
  where
    turned : (y : Symbol) (rest : Bool) → (b : Bool) → same_name y x ≡ b → same_name x y ≡ false → ((b && (g.is_var || true)) || rest) ≡ true → rest ≡ true
    turned y rest true e other k = absurd (false≢true (sym (other_way x y other) ∙ e))
    turned y rest false e other k = k

    by_item : (i : Item) → ((same_item i (Variable x) && (g.is_var || true)) || lists globals (Variable x) false) ≡ true → (lists globals (Variable x) false ≡ true → list_any (same_name x) (variables_among (map (λ g. g.item) globals)) ≡ true)
        → list_any (same_name x) (variables_among (i ∷ map (λ g. g.item) globals)) ≡ true
    by_item (Class t) h later = later h
    by_item (Variable y) h later = by_name (same_name x y) refl
      where
        by_name : (b : Bool) → same_name x y ≡ b → (b || list_any (same_name x) (variables_among (map (λ g. g.item) globals))) ≡ true
        by_name true e = refl
        by_name false e = later (turned y (lists globals (Variable x) false) (same_name y x) refl e h)

-- a variable of a routine's GLOBAL list is none of its own names
pub listed_not_own : (q : Routine) → all_differ same_name (scope_names q) ≡ true → (x : Symbol) → lists q.globals (Variable x) false ≡ true → found (own_names q) x ≡ None
listed_not_own q differ x listed =
    not_found (own_names q) x (subst (λ (k : List Symbol). list_any (same_name x) k ≡ false) (sym (names_of q.formals)) (none_both (same_name x) formals (map (λ n. n.0) (result_name q.name q.result ++ q.locals)) (right_false (same_name x q.name) _ front) (by_result q.result)))
  where
    formals : List Symbol
    formals = map (λ f. f.name) q.formals

    locals : List Symbol
    locals = map (λ n. n.0) q.locals

    initial : List Symbol
    initial = map (λ i. i.0) q.initial

    items : List Symbol
    items = variables_among (map (λ g. g.item) q.globals)

    behind : list_any (same_name x) (initial ++ (locals ++ items)) ≡ true
    behind = any_right (same_name x) initial (locals ++ items) (any_right (same_name x) locals items (among_variables q.globals x listed))

    front : list_any (same_name x) (q.name ∷ formals) ≡ false
    front = not_in_front (q.name ∷ formals) (initial ++ (locals ++ items)) x differ behind

    local : list_any (same_name x) locals ≡ false
    local =
        not_in_front locals items x (differ_right same_name initial (locals ++ items) (differ_right same_name (q.name ∷ formals) (initial ++ (locals ++ items)) differ)) (among_variables q.globals x listed)

    by_result : (o : Option TypeId) → list_any (same_name x) (map (λ n. n.0) (result_name q.name o ++ q.locals)) ≡ false
    by_result None = local
    by_result (Some t) = both_false (same_name x q.name) (list_any (same_name x) locals) (left_false (same_name x q.name) _ front) local

    names_of : (fs : List Formal) → map (λ n. n.0) (map (λ f. (f.name, f.of)) fs ++ (result_name q.name q.result ++ q.locals)) ≡ map (λ f. f.name) fs ++ map (λ n. n.0) (result_name q.name q.result ++ q.locals)
    names_of [] = refl
    names_of (f ∷ fs) = ap (λ (k : List Symbol). f.name ∷ k) (names_of fs)

-- ---- items

-- an item of a list passes what all items of it pass
pub listed_passes : (test : Item → Bool) (globals : List GlobalItem) (i : Item) → list_all (λ g. test g.item) globals ≡ true → lists globals i false ≡ true → test i ≡ true
listed_passes test [] i all h = absurd (false≢true h)
listed_passes test (g ∷ globals) i all h =
    by_item (same_item g.item i) refl h (listed_passes test globals i (right_true (test g.item) _ all))
  where
    by_item : (b : Bool) → same_item g.item i ≡ b → ((b && (g.is_var || true)) || lists globals i false) ≡ true → (lists globals i false ≡ true → test i ≡ true) → test i ≡ true
    by_item true e h later = ap test (sym (items_same g.item i e)) ∙ left_true (test g.item) _ all
    by_item false e h later = later h

-- ---- where they lie

-- a name that is not own is the program's
pub shared_place : (p : Program) (here : Option RoutineId) (types : List FrameType) → IsIn p here types → (state : State) → IsRight p types state → (x : Symbol) → is_own (routine_in p here) x ≡ false → place_of here state x ≡ whole (ProgramVariable x)
shared_place p None _ (in_main types) state right x none = refl
shared_place p (Some _) _ (in_routine id r older there) state right x none = by_frames state.frames right.frames
  where
    by_frames : (frames : List Frame) → frames_right p (frame_of id r ∷ older) state.heap frames ≡ true → place_in frames x ≡ whole (ProgramVariable x)
    by_frames [] h = refl
    by_frames (f ∷ frames) h =
        ap (bound_place (length frames) x) (missing (found f.names x) (sym (own_bound p older state.heap r f.names x (first_frame p (frame_of id r) older state.heap f frames h).names) ∙ (ap (λ o. is_own o x) (sym there) ∙ none)))
      where
        missing : {X : Type 0} (o : Option X) → is_some o ≡ false → o ≡ None
        missing None e = refl
        missing (Some b) e = absurd (false≢true (sym e))

-- what a routine sees of the program is none of its own names
pub seen_not_own : (p : Program) → well_typed p ≡ true → (here : Option RoutineId) (x : Symbol) → sees (routine_in p here) (Variable x) ≡ true → is_own (routine_in p here) x ≡ false
seen_not_own p typed None x seen = refl
seen_not_own p typed (Some id) x seen = by_routine (routine_at p id) refl seen
  where
    by_routine : (o : Option Routine) → routine_at p id ≡ o → sees o (Variable x) ≡ true → is_own o x ≡ false
    by_routine None there seen = refl
    by_routine (Some r) there seen = ap is_some (listed_not_own r (names_differ p typed id r there) x seen)
