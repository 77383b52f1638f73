-- What is apart stays apart, and statements leave starts.
use Rattle.std.proofs.Common.{◌≡◌, ℕ, Bool, true, not, ◌&&◌, ◌||◌, List, [], ◌∷◌, ◌++◌, map, length, refl, sym, ap, ◌∙◌, Option, Some, None, is_some}
use Rattle.std.specs.List.{list_all, list_any}
use Rattle.std.specs.Cmp.Derive.{both_true}
use Rattle.std.proofs.lemmas.Bool.{false≢true}
use Rattle.spv_logic.proofs.list.Tests.{left_true, right_true}
use Rattle.spv_logic.specs.declared.names.names.Symbol.{Symbol}
use Rattle.spv_logic.specs.declared.types.TypeId.{TypeId}
use Rattle.spv_logic.specs.declared.conditions.RoutineId.{RoutineId}
use Rattle.spv_logic.specs.Values.{Value}
use Rattle.spv_program.specs.declared.types.Item.{Item}
use Rattle.spv_program.specs.declared.types.Item.TheVariants.{Variable, Class}
use Rattle.spv_program.specs.Lists.{same_name, all_differ}
use Rattle.spv_program.specs.Types.{sort_of}
use Rattle.spv_program.specs.Statements.{Statement}
use Rattle.spv_program.specs.Programs.{GlobalItem, Routine, Program, shapes, routine_in}
use Rattle.spv_program.specs.Changes.{changed_roots}
use Rattle.spv_program.specs.Typing.{statement_ok}
use Rattle.spv_program.proofs.SortFacts.{is_sort-true, behind}
use Rattle.spv_meaning.specs.Places.{Root, Binding, Frame, HeapRow, State, ProgramVariable, OwnValue, CellOf, Holding, Referring}
use Rattle.spv_meaning.specs.Outcomes.{Ended}
use Rattle.spv_meaning.specs.Levels.{Here}
use Rattle.spv_meaning.specs.Walks.{run}
use Rattle.spv_meaning.specs.FrameTypes.{FrameType, IsIn, Slot, binding_right, cell_type, frame_of, frames_right, in_main, in_routine, names_right, path_sort, place_sort, root_type, slots_of}
use Rattle.spv_meaning.specs.Starts.{Area, At, CellsOf, IsRight, IsRightFor, IsStart, lies_in, overlap, bound_area, frame_areas, item_area, apart}
use Rattle.spv_preservation.specs.Right.{Grows}
use Rattle.spv_preservation.proofs.Roots.{first_frame}
use Rattle.spv_preservation.proofs.Starts.{right_is_start}
use Rattle.spv_writes.specs.Writes.{Writes}
use Rattle.spv_writes.proofs.Lists.{all_both}
use Rattle.spv_writes.proofs.Places.{lies_by}
use Rattle.spv_writes.proofs.Kept.{grows}
use Rattle.spv_writes.proofs.Right.{right_stays}
use Rattle.spv_writes.proofs.Outlines.{outlines_stay, areas_stay}
use Rattle.spv_frame_law.specs.Frames.{area_of_item, areas_of}
use Rattle.spv_frame_law.specs.Laws.{IsFramed}
use Rattle.spv_frame_law.proofs.Apart.{area_is}
use Rattle.spv_frame_law.proofs.Levels.{statement_writes}

-- ---- areas that are there

-- whether a cell is there
abbrev pub root_there : List HeapRow → Root → Bool
root_there heap (ProgramVariable x) = true
root_there heap (OwnValue n x) = true
root_there heap (CellOf cell) = is_some (cell_type heap cell)

-- whether the cell of an area, if it is in one, is there
abbrev pub area_there : List HeapRow → Area → Bool
area_there heap (At a) = root_there heap a.root
area_there heap (CellsOf t) = true

lies_kept : (heap later : List HeapRow) → Grows heap later → (r : Root) (t : TypeId) → root_there heap r ≡ true → lies_in later r t ≡ lies_in heap r t
lies_kept heap later g (ProgramVariable x) t there = refl
lies_kept heap later g (OwnValue n x) t there = refl
lies_kept heap later g (CellOf cell) t there = by_type (cell_type heap cell) refl there
  where
    by_type : (o : Option TypeId) → cell_type heap cell ≡ o → is_some o ≡ true → lies_in later (CellOf cell) t ≡ lies_in heap (CellOf cell) t
    by_type None is h = absurd (false≢true h)
    by_type (Some u) is h = lies_by later cell t u (g.keeps cell u is) ∙ sym (lies_by heap cell t u is)

overlap_kept : (heap later : List HeapRow) → Grows heap later → (a b : Area) → area_there heap a ≡ true → area_there heap b ≡ true → overlap later a b ≡ overlap heap a b
overlap_kept heap later g (At a) (At b) one two = refl
overlap_kept heap later g (At a) (CellsOf t) one two = lies_kept heap later g a.root t one
overlap_kept heap later g (CellsOf t) (At b) one two = lies_kept heap later g b.root t two
overlap_kept heap later g (CellsOf t) (CellsOf u) one two = refl

any_kept : (heap later : List HeapRow) → Grows heap later → (a : Area) (areas : List Area) → area_there heap a ≡ true → list_all (area_there heap) areas ≡ true → list_any (overlap later a) areas ≡ list_any (overlap heap a) areas
any_kept heap later g a [] one all = refl
any_kept heap later g a (b ∷ areas) one all =
    λ i. overlap_kept heap later g a b one (left_true (area_there heap b) (list_all (area_there heap) areas) all) i || any_kept heap later g a areas one (right_true (area_there heap b) (list_all (area_there heap) areas) all) i

differ_kept : (heap later : List HeapRow) → Grows heap later → (areas : List Area) → list_all (area_there heap) areas ≡ true → all_differ (overlap later) areas ≡ all_differ (overlap heap) areas
differ_kept heap later g [] all = refl
differ_kept heap later g (a ∷ areas) all =
    λ i. not (any_kept heap later g a areas (left_true (area_there heap a) (list_all (area_there heap) areas) all) (right_true (area_there heap a) (list_all (area_there heap) areas) all) i)
    && differ_kept heap later g areas (right_true (area_there heap a) (list_all (area_there heap) areas) all) i

-- ---- the areas of a right frame

sorted_there : (p : Program) (types : List FrameType) (heap : List HeapRow) (r : Root) (t : TypeId) → root_type p types heap r ≡ Some t → root_there heap r ≡ true
sorted_there p types heap (ProgramVariable x) t told = refl
sorted_there p types heap (OwnValue n x) t told = refl
sorted_there p types heap (CellOf cell) t told = ap is_some told

names_there : (p : Program) (older : List FrameType) (heap : List HeapRow) (number : ℕ) (slots : List Slot) (names : List (Symbol × Binding)) → names_right p older heap slots names ≡ true → list_all (area_there heap) (map (bound_area number) names) ≡ true
names_there p older heap number [] [] right = refl
names_there p older heap number [] (n ∷ names) right = absurd (false≢true right)
names_there p older heap number (s ∷ slots) [] right = absurd (false≢true right)
names_there p older heap number (s ∷ slots) ((x, b) ∷ names) right =
    both_true (by_binding b (left_true (binding_right p older heap s b) _ rest)) (names_there p older heap number slots names (right_true (binding_right p older heap s b) _ rest))
  where
    rest : (binding_right p older heap s b && names_right p older heap slots names) ≡ true
    rest = right_true (same_name s.name x) _ right

    by_binding : (b : Binding) → binding_right p older heap s b ≡ true → area_there heap (bound_area number (x, b)) ≡ true
    by_binding (Holding v) h = refl
    by_binding (Referring a) h =
        let told = is_sort-true (sort_of p.forms s.of) (place_sort p older heap a) (right_true s.by_place _ h) in
        let r = behind (λ t. path_sort (shapes p) (sort_of p.forms t) a.path) (root_type p older heap a.root) (sort_of p.forms s.of) told in
        sorted_there p older heap a.root r.item r.is

items_there : (heap : List HeapRow) (globals : List GlobalItem) → list_all (area_there heap) (map item_area globals) ≡ true
items_there heap [] = refl
items_there heap (g ∷ globals) = both_true (ap (area_there heap) (area_is g) ∙ of_item g.item) (items_there heap globals)
  where
    of_item : (i : Item) → area_there heap (area_of_item i) ≡ true
    of_item (Variable x) = refl
    of_item (Class t) = refl

-- ---- apart

-- where nothing overlaps, nothing overlaps after writing
pub apart_stays : (p : Program) (here : Option RoutineId) (state : State) → IsRightFor p here state → apart (routine_in p here) state ≡ true → (areas : List Area) (after : State) → Writes p areas state after → apart (routine_in p here) after ≡ true
apart_stays p here state right parts areas after w = by_types here right.types right.inside right.right parts
  where
    in_frames : (r : Routine) (older : List FrameType) (id : RoutineId) (frames : List Frame) → state.frames ≡ frames → frames_right p (frame_of id r ∷ older) state.heap frames ≡ true → list_all (area_there state.heap) (frame_areas state.frames ++ map item_area r.globals) ≡ true
    in_frames r older id [] same h = absurd (false≢true h)
    in_frames r older id (f ∷ frames) same h =
        ap (λ k. list_all (area_there state.heap) (frame_areas k ++ map item_area r.globals)) same
        ∙ all_both (area_there state.heap) (map (bound_area (length frames)) f.names) (map item_area r.globals)
        (names_there p older state.heap (length frames) (slots_of r) f.names (first_frame p (frame_of id r) older state.heap f frames h).names) (items_there state.heap r.globals)

    by_types : (here : Option RoutineId) (types : List FrameType) → IsIn p here types → IsRight p types state → apart (routine_in p here) state ≡ true → apart (routine_in p here) after ≡ true
    by_types None _ (in_main types) h parts = refl
    by_types (Some _) _ (in_routine id r older there) h parts =
        ap (λ o. apart o after) there
        ∙ (ap (λ k. all_differ (overlap after.heap) (k ++ map item_area r.globals)) (areas_stay state after (outlines_stay p areas state after w))
        ∙ (differ_kept state.heap after.heap (grows p areas state after w) (frame_areas state.frames ++ map item_area r.globals) (in_frames r older id state.frames refl h.frames)
        ∙ (ap (λ o. apart o state) (sym there) ∙ parts)))

pub start_stays : (p : Program) (here : Option RoutineId) (state : State) → IsStart p here state → (areas : List Area) (after : State) → Writes p areas state after → IsStart p here after
start_stays p here state start areas after w =
    let q = start.right in
    right_is_start p here after (record { types = q.types; inside = q.inside; right = right_stays p q.types areas state after w q.right }) (apart_stays p here state q start.areas areas after w)

-- a statement that ended, from a start, ended in a start
pub leaves_start : (p : Program) → IsFramed p → (here : Here) (s : Statement) → statement_ok p (routine_in p here.routine) s ≡ true → (state : State) → IsStart p here.routine state
    → (turns : ℕ) (choices : List Value) (after : State) → (run p turns here s state choices).end ≡ Ended after → IsStart p here.routine after
leaves_start p f here s ok state start turns choices after ended =
    start_stays p here.routine state start (areas_of state.frames (changed_roots p (routine_in p here.routine) s)) after
    (statement_writes p f here start.right.types start.right.inside s ok state start.right.right turns choices after ended)
