-- What is proved of writing.
use Rattle.std.specs.Prelude.{◌≡◌, ℕ, false, List, [], ◌∷◌, drop, length, Some, IsTrue}
use Rattle.std.specs.List.{list_all}
use Rattle.spv_logic.specs.declared.types.TypeId.{TypeId}
use Rattle.spv_logic.specs.declared.types.Sort.{Sort}
use Rattle.spv_logic.specs.declared.operators.Head.TheVariants as head
use Rattle.spv_logic.specs.Values.{Value, Pointer}
use Rattle.spv_logic.specs.Terms.{worth}
use Rattle.spv_logic.specs.Shapes.{shapes_ok}
use Rattle.spv_logic.specs.Fits.{fits}
use Rattle.spv_logic.specs.Conditions.{Meaning, Valuation}
use Rattle.spv_program.specs.Types.{same_type}
use Rattle.spv_program.specs.Programs.{Program, shapes}
use Rattle.spv_meaning.specs.Places.{PathStep, Place, State, CellOf, whole, with_part, look, exists, value_or_zero, put}
use Rattle.spv_meaning.specs.Views.{class_of}
use Rattle.spv_meaning.specs.Levels.{pop}
use Rattle.spv_meaning.specs.Walks.{is_new, with_new_cell}
use Rattle.spv_meaning.specs.FrameTypes.{FrameType, cell_type}
use Rattle.spv_meaning.specs.Starts.{Area, At, CellsOf, IsRight, places_overlap}
use Rattle.spv_preservation.specs.facts.Places.{IsPlace}
use Rattle.spv_writes.specs.Writes.{Writes, part_of, is_touched, is_touched_below, is_touched_in, outlines, is_area_of, without_frame}

-- ---- writing, one after the other

abbrev pub WritingChains : Type 0
WritingChains = (p : Program) (areas : List Area) (s t u : State) → Writes p areas s t → Writes p areas t u → Writes p areas s u

-- without areas nothing is written
abbrev pub WithoutAreasNothingIsWritten : Type 0
WithoutAreasNothingIsWritten = (p : Program) (s t : State) → Writes p [] s t → t ≡ s

-- ---- places

-- a put leaves what is at a place that does not overlap, of one root or of two
abbrev pub PutLeavesPlacesApart : Type 0
PutLeavesPlacesApart =
    (p : Program) (s : State) (a : Place) (e : Sort) → IsPlace (shapes p) s a e → (v : Value) (b : Place) → places_overlap a b ≡ false
    → look (put s a v) b ≡ look s b

-- a place that is there and that no area overlaps holds what it held
abbrev pub UntouchedPlacesStay : Type 0
UntouchedPlacesStay =
    (p : Program) (areas : List Area) (s t : State) → Writes p areas s t
    → (a : Place) (v : Value) → look s a ≡ Some v → is_touched s.heap areas (At a) ≡ false → look t a ≡ Some v

-- each place that is there stays there
abbrev pub PlacesStayThere : Type 0
PlacesStayThere = (p : Program) (areas : List Area) (s t : State) → Writes p areas s t → (a : Place) → IsTrue (exists s a) → IsTrue (exists t a)

-- where each area that overlaps a place lies at or below a part of it, the whole afterwards is the old whole with that part
abbrev pub OnePartIsWritten : Type 0
OnePartIsWritten =
    (p : Program) (areas : List Area) (s t : State) → Writes p areas s t
    → (a : Place) (rel : List PathStep) (e : Sort) → IsPlace (shapes p) s (part_of a rel) e → IsTrue (is_touched_below s.heap areas a rel)
    → (u : Value) → look s a ≡ Some u → look t a ≡ Some (with_part u rel (value_or_zero (look t (part_of a rel))))

-- ---- cells and classes

-- the cells that were there are there, with the types that they had
abbrev pub CellsKeepTypes : Type 0
CellsKeepTypes =
    (p : Program) (areas : List Area) (s t : State) → Writes p areas s t
    → (cell : ℕ) (u : TypeId) → cell_type s.heap cell ≡ Some u → cell_type t.heap cell ≡ Some u

-- the class of a type whose cells no area overlaps stays as it was
abbrev pub UntouchedClassesStay : Type 0
UntouchedClassesStay =
    (p : Program) (areas : List Area) (s t : State) → Writes p areas s t
    → (u : TypeId) → is_touched s.heap areas (CellsOf u) ≡ false → class_of (shapes p) t.heap u ≡ class_of (shapes p) s.heap u

-- where each area that overlaps the cells of a type lies in one of them, the class afterwards is SETCELL of the old class
-- with what that cell holds
abbrev pub OneCellIsWritten : Type 0
OneCellIsWritten =
    (p : Program) → IsTrue (shapes_ok (shapes p)) → (types : List FrameType) (areas : List Area) (s t : State) → Writes p areas s t → IsRight p types s
    → (u : TypeId) (cell : ℕ) → cell_type s.heap cell ≡ Some u → IsTrue (is_touched_in s.heap areas u cell)
    → (symbols : Meaning) (v : Valuation)
    → class_of (shapes p) t.heap u
    ≡ worth symbols v head.SetCell (class_of (shapes p) s.heap u ∷ Pointer cell ∷ value_or_zero (look t (whole (CellOf cell))) ∷ [])

-- a put at or below a cell is SETCELL of the class with what the cell holds then
abbrev pub PutInACellIsSetCell : Type 0
PutInACellIsSetCell =
    (p : Program) → IsTrue (shapes_ok (shapes p)) → (types : List FrameType) (s : State) → IsRight p types s
    → (u : TypeId) (cell : ℕ) → cell_type s.heap cell ≡ Some u → (path : List PathStep) (e : Sort) (w : Value)
    → IsPlace (shapes p) s (record { root = CellOf cell; path = path }) e → IsTrue (fits (shapes p) w e)
    → (symbols : Meaning) (v : Valuation)
    → class_of (shapes p) (put s (record { root = CellOf cell; path = path }) w).heap u
    ≡ worth symbols v head.SetCell (class_of (shapes p) s.heap u ∷ Pointer cell ∷ value_or_zero (look (put s (record { root = CellOf cell; path = path }) w) (whole (CellOf cell))) ∷ [])

-- a new cell is EXTEND of its type's class, and leaves the others
abbrev pub NewCellIsExtend : Type 0
NewCellIsExtend =
    (p : Program) (s : State) (cell : ℕ) (u : TypeId) (w : Value) → IsTrue (is_new s.heap cell) → (symbols : Meaning) (v : Valuation)
    → class_of (shapes p) (with_new_cell cell u w s).heap u ≡ worth symbols v head.Extend (class_of (shapes p) s.heap u ∷ Pointer cell ∷ w ∷ [])

abbrev pub NewCellLeavesOtherClasses : Type 0
NewCellLeavesOtherClasses =
    (p : Program) (s : State) (cell : ℕ) (u t : TypeId) (w : Value) → same_type u t ≡ false
    → class_of (shapes p) (with_new_cell cell u w s).heap t ≡ class_of (shapes p) s.heap t

-- ---- frames

-- the routines of all frames, and what their names refer to, stay
abbrev pub ReferencesStay : Type 0
ReferencesStay = (p : Program) (areas : List Area) (s t : State) → Writes p areas s t → outlines t ≡ outlines s

-- a right state stays right
abbrev pub RightStatesStayRight : Type 0
RightStatesStayRight = (p : Program) (types : List FrameType) (areas : List Area) (s t : State) → Writes p areas s t → IsRight p types s → IsRight p types t

-- over a frame that is popped, it is writing below, in the areas that do not lie in that frame
abbrev pub PoppedWritingIsBelow : Type 0
PoppedWritingIsBelow =
    (p : Program) (areas : List Area) (s t : State) → Writes p areas s t
    → Writes p (without_frame (length (drop 1 s.frames)) areas) (pop s) (pop t)

-- where all areas lie in the newest frame, the popped state is as it was
abbrev pub PoppedStateIsAsItWas : Type 0
PoppedStateIsAsItWas =
    (p : Program) (areas : List Area) (s t : State) → Writes p areas s t
    → IsTrue (list_all (is_area_of (length (drop 1 s.frames))) areas) → pop t ≡ pop s
