-- What routines see after a put: the name that it is in, and where VAR places meet, not that alone.
use Rattle.std.specs.Prelude.{◌≡◌, ℕ, Bool, true, false, List, [], ◌∷◌, map, Option, Some, None, pos}
use Rattle.spv_logic.specs.declared.names.names.Symbol.{Symbol}
use Rattle.spv_logic.specs.declared.conditions.RoutineId.{RoutineId}
use Rattle.spv_logic.specs.declared.operators.Head.{Head}
use Rattle.spv_logic.specs.declared.operators.Head.TheVariants as head
use Rattle.spv_logic.specs.Values.{Value, ClassOf, ArrayOf, no_rows, row}
use Rattle.spv_program.specs.Programs.{Routine, Program}
use Rattle.spv_program.specs.Uses.{Root, Own, Shared}
use Rattle.spv_program.specs.declared.types.Item.TheVariants.{Variable, Class}
use Rattle.spv_meaning.specs.Places.{Place, Binding, State, ProgramVariable, CellOf, IndexStep, FieldStep, Holding, Referring, put}
use Rattle.spv_meaning.specs.Views.{place_of, now_view}
use Rattle.spv_meaning.specs.Starts.{apart}
use Rattle.spv_frame_law.specs.Frames.{is_of_one}
use Rattle.spv_worked.specs.Small.{x, y, i, a, p, q, n, t, val, node, other, routine, z, int, state}
use Rattle.spv_worked.specs.CallRuns.{swap, fill, filling, swapping}
use Rattle.spv_worked.specs.CellRuns.{node_with, start, with_body}
use Rattle.spv_worked.specs.Small.{block}

-- what shows of some heads
abbrev pub shown : Program → Option RoutineId → State → List Head → List (Option Value)
shown prog here s heads = map (now_view prog here s) heads

-- which of them are those of a root
abbrev pub of_root : Option Routine → Root → List Head → List Bool
of_root here root heads = map (is_of_one here (root ∷ [])) heads

abbrev in_routine : Option RoutineId
in_routine = Some (routine 0)

abbrev numbers : List ℕ → List (Option Value)
numbers ks = map (λ k. Some (z k)) ks

-- ---- a VAR place inside the caller's array

abbrev one_of_a : ℕ → Place
one_of_a k = record { root = ProgramVariable a; path = IndexStep (pos k) ∷ [] }

-- in fill(a[1], 5): i is 1, and x is 3
abbrev pub in_fill : State
in_fill = record {
  variables = (i, z 1) ∷ (a, ArrayOf (z 0) no_rows) ∷ (x, z 3) ∷ (y, z 4) ∷ [];
  frames = record { routine = routine 0; names = (p, Referring (one_of_a 1)) ∷ (n, Holding (z 5)) ∷ [] } ∷ [];
  heap = [];
}

abbrev names_of_fill : List Head
names_of_fill = int p ∷ int n ∷ int i ∷ []

-- fill sees p, n and i, and x not
abbrev pub FillSees : Type 0
FillSees =
    (shown filling in_routine in_fill names_of_fill ≡ numbers (0 ∷ 5 ∷ 1 ∷ []))
    × (shown filling in_routine in_fill (int x ∷ []) ≡ None ∷ []) × (apart (Some fill) in_fill ≡ true)

-- p := 7 changes p alone, i := 7 i alone
abbrev pub PutsChangeOneName : Type 0
PutsChangeOneName =
    (shown filling in_routine (put in_fill (place_of in_routine in_fill p) (z 7)) names_of_fill ≡ numbers (7 ∷ 5 ∷ 1 ∷ []))
    × (of_root (Some fill) (Own p) names_of_fill ≡ true ∷ false ∷ false ∷ [])
    × (shown filling in_routine (put in_fill (place_of in_routine in_fill i) (z 7)) names_of_fill ≡ numbers (0 ∷ 5 ∷ 7 ∷ []))
    × (of_root (Some fill) (Shared (Variable i)) names_of_fill ≡ false ∷ false ∷ true ∷ [])

-- ---- VAR places of one variable

-- in swap, with these places; t is 0
abbrev pub in_swap : Place → Place → State
in_swap at_p at_q = record {
  variables = (a, ArrayOf (z 0) (row (pos 2) (z 2) no_rows)) ∷ [];
  frames = record { routine = routine 0; names = (p, Referring at_p) ∷ (q, Referring at_q) ∷ (t, Holding (z 0)) ∷ [] } ∷ [];
  heap = [];
}

abbrev put_in_p : Place → Place → State
put_in_p at_p at_q = put (in_swap at_p at_q) (place_of in_routine (in_swap at_p at_q) p) (z 7)

abbrev names_of_swap : List Head
names_of_swap = int p ∷ int q ∷ int t ∷ []

-- a[1] and a[2] are apart, though they have one root: p := 7 leaves q
abbrev pub ElementsAreApart : Type 0
ElementsAreApart =
    (apart (Some swap) (in_swap (one_of_a 1) (one_of_a 2)) ≡ true)
    × (shown swapping in_routine (put_in_p (one_of_a 1) (one_of_a 2)) names_of_swap ≡ numbers (7 ∷ 2 ∷ 0 ∷ []))

-- one element twice is not, and p := 7 changes q, too
abbrev pub OneElementIsNot : Type 0
OneElementIsNot =
    (apart (Some swap) (in_swap (one_of_a 2) (one_of_a 2)) ≡ false)
    × (shown swapping in_routine (put_in_p (one_of_a 2) (one_of_a 2)) names_of_swap ≡ numbers (7 ∷ 7 ∷ 0 ∷ []))

-- ---- cells

-- p^.val := 7 in the main block, where p leads to cell 1 of Node: the class of Node shows it, that of Other and the pointers stay
abbrev changed_cell : State
changed_cell = put (start 1 1) (record { root = CellOf 1; path = FieldStep val ∷ [] }) (z 7)

abbrev pub CellsChangeOneClass : Type 0
CellsChangeOneClass =
    (shown (with_body (block [])) None changed_cell (head.ClassVar node 0 ∷ []) ≡ Some (ClassOf (1 ∷ []) (node_with 0) (row (pos 1) (node_with 7) no_rows)) ∷ [])
    × (shown (with_body (block [])) None (start 1 1) (head.ClassVar node 0 ∷ []) ≡ Some (ClassOf (1 ∷ []) (node_with 0) (row (pos 1) (node_with 10) no_rows)) ∷ [])
    × (shown (with_body (block [])) None changed_cell (head.ClassVar other 0 ∷ int x ∷ []) ≡ shown (with_body (block [])) None (start 1 1) (head.ClassVar other 0 ∷ int x ∷ []))
    × (of_root None (Shared (Class node)) (head.ClassVar node 0 ∷ head.ClassVar other 0 ∷ int x ∷ []) ≡ true ∷ false ∷ false ∷ [])
