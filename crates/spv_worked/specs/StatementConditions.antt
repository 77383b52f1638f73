-- The conditions of small main blocks.
use Rattle.std.specs.Prelude.{◌≡◌, ℕ, true, false, List, [], ◌∷◌, Some, None, pos}
use Rattle.spv_logic.specs.declared.names.names.Symbol.{Symbol}
use Rattle.spv_logic.specs.declared.conditions.Kind.TheVariants as kind
use Rattle.spv_logic.specs.declared.types.Sort.TheVariants as sort
use Rattle.spv_logic.specs.declared.operators.Head.TheVariants as head
use Rattle.spv_logic.specs.Terms.{Term}
use Rattle.spv_logic.specs.Conditions.{Condition}
use Rattle.spv_program.specs.declared.operators.Arithmetic.TheVariants as arithmetic
use Rattle.spv_program.specs.declared.operators.Comparison.TheVariants as comparison
use Rattle.spv_program.specs.declared.operators.Connective.TheVariants as connective
use Rattle.spv_program.specs.declared.operators.Direction.TheVariants.{Up, Down}
use Rattle.spv_program.specs.Expressions.{Boolean, Compared, Calculated}
use Rattle.spv_program.specs.Formulas as formula
use Rattle.spv_program.specs.Statements.{Statement, Empty, Assign, New, If, Case, While, Repeat, For, Assert, no_arms, arm}
use Rattle.spv_program.specs.Programs.{Program}
use Rattle.spv_program.specs.Terms.{alone, unary, binary, ternary}
use Rattle.spv_meaning.specs.ProgramConditions.{conditions_of}
use Rattle.spv_worked.specs.Small.{x, y, i, b, a, p, q, val, Node, integer, boolean, row_of_nine, ref, node, program, num, read, at, set, content, element, block, named, number, equal, note}
use Rattle.spv_worked.specs.Terms.{X, N, fresh, of, eq, less, at_most, plus, no, both_of, either, TRUE, FALSE, cells, NIL, condition}

abbrev pub Are : Program → List Condition → Type 0
Are prog conditions = conditions_of prog ≡ conditions

-- ---- IF

-- ENTRY NOT a AND (x = 0); EXIT x = 0; IF a THEN IF b THEN x := 1 ELSE x := 2
abbrev pub nested : Program
nested =
    program ((a, boolean) ∷ (b, boolean) ∷ (x, integer) ∷ []) []
    (Some (note 3 (formula.Joined connective.And (formula.Negated (named a)) (equal (named x) (number 0)))))
    (Some (note 4 (equal (named x) (number 0))))
    (If 5 (read a) (If 5 (read b) (set x (num 1)) (set x (num 2))) Empty)

abbrev pub entry : Term
entry = both_of (no (of sort.Bool a 0)) (eq (X x) (N 0))

abbrev pub NestedIf : Type 0
NestedIf = Are nested
    (condition None kind.Exit 4 (entry ∷ of sort.Bool a 0 ∷ of sort.Bool b 0 ∷ []) (eq (N 1) (N 0))
    ∷ condition None kind.Exit 4 (entry ∷ of sort.Bool a 0 ∷ no (of sort.Bool b 0) ∷ []) (eq (N 2) (N 0))
    ∷ condition None kind.Exit 4 (entry ∷ no (of sort.Bool a 0) ∷ []) (eq (X x) (N 0)) ∷ [])

-- ---- CASE

-- EXIT y = x; CASE x OF 1: y := 1; 2, 3: END
abbrev pub cases : Program
cases =
    program ((x, integer) ∷ (y, integer) ∷ []) [] None (Some (note 3 (equal (named y) (named x))))
    (Case 4 (read x) (arm (pos 1 ∷ []) (set y (num 1)) (arm (pos 2 ∷ pos 3 ∷ []) Empty no_arms)))

abbrev pub CaseArms : Type 0
CaseArms = Are cases
    (condition None kind.Exit 3 (eq (X x) (N 1) ∷ []) (eq (N 1) (X x))
    ∷ condition None kind.Exit 3 (either (eq (X x) (N 2)) (eq (X x) (N 3)) ∷ []) (eq (X y) (X x)) ∷ [])

-- ---- WHILE

-- ENTRY x = 0; EXIT FALSE; INVARIANT x = 0 WHILE TRUE DO s
abbrev pub forever : Statement → Program
forever s =
    program ((x, integer) ∷ []) [] (Some (note 3 (equal (named x) (number 0)))) (Some (note 4 (formula.Boolean false)))
    (While 5 (Some (note 5 (equal (named x) (number 0)))) (Boolean true) s)

abbrev pub x_is_0 : Term
x_is_0 = eq (X x) (N 0)

-- the body ASSERT x = 0 changes nothing, so nothing is renamed
abbrev pub WhileWithAssert : Type 0
WhileWithAssert = Are (forever (Assert (note 5 (equal (named x) (number 0)))))
    (condition None kind.Invariant 5 (x_is_0 ∷ []) x_is_0
    ∷ condition None kind.Assert 5 (x_is_0 ∷ x_is_0 ∷ TRUE ∷ []) x_is_0
    ∷ condition None kind.Preserved 5 (x_is_0 ∷ x_is_0 ∷ TRUE ∷ x_is_0 ∷ []) x_is_0
    ∷ condition None kind.Exit 4 (x_is_0 ∷ x_is_0 ∷ no TRUE ∷ []) FALSE ∷ [])

-- with the body x := x + 1 the variable of a turn is another one than that of the beginning
abbrev pub WhileRenames : Type 0
WhileRenames = Are (forever (set x (Calculated arithmetic.Plus (read x) (num 1))))
    (condition None kind.Invariant 5 (x_is_0 ∷ []) x_is_0
    ∷ condition None kind.Preserved 5 (x_is_0 ∷ eq (fresh x 1) (N 0) ∷ TRUE ∷ []) (eq (plus (fresh x 1) (N 1)) (N 0))
    ∷ condition None kind.Exit 4 (x_is_0 ∷ eq (fresh x 1) (N 0) ∷ no TRUE ∷ []) FALSE ∷ [])

-- ---- REPEAT

-- EXIT x = 3; INVARIANT x < 3 REPEAT x := x + 1 UNTIL x = 3
abbrev pub repeating : Program
repeating =
    program ((x, integer) ∷ []) [] None (Some (note 3 (equal (named x) (number 3))))
    (Repeat 4 (Some (note 4 (formula.Compared comparison.Less (named x) (number 3))))
    (set x (Calculated arithmetic.Plus (read x) (num 1))) (Compared comparison.Equal (read x) (num 3)))

abbrev pub one_more : Term
one_more = plus (fresh x 1) (N 1)

abbrev pub RepeatTests : Type 0
RepeatTests = Are repeating
    (condition None kind.Invariant 4 [] (less (X x) (N 3))
    ∷ condition None kind.Preserved 4 (less (fresh x 1) (N 3) ∷ no (eq one_more (N 3)) ∷ []) (less one_more (N 3))
    ∷ condition None kind.Exit 3 (less (fresh x 1) (N 3) ∷ eq one_more (N 3) ∷ []) (eq one_more (N 3)) ∷ [])

-- ---- FOR

-- EXIT x = 6; BEGIN x := 0; INVARIANT x = i FOR i := 1 TO y DO x := x + 2 END, where the EXIT may name i
abbrev pub counting : Program
counting =
    program ((i, integer) ∷ (x, integer) ∷ (y, integer) ∷ []) [] None (Some (note 3 (equal (named x) (named i))))
    (block (set x (num 0) ∷ For 5 (Some (note 5 (equal (named x) (named i))))
    (record { variable = i; direction = Up; first = num 1; last = read y }) (set x (Calculated arithmetic.Plus (read x) (num 2))) ∷ []))

-- I@1 and X@1 are those of a turn, and I@2 is what i is at the end
abbrev pub ForCounts : Type 0
ForCounts = Are counting
    (condition None kind.Invariant 5 [] (eq (N 0) (N 1))
    ∷ condition None kind.Preserved 5 (eq (fresh x 1) (fresh i 1) ∷ at_most (fresh i 1) (X y)
    ∷ []) (eq (plus (fresh x 1) (N 2)) (plus (fresh i 1) (N 1)))
    ∷ condition None kind.Exit 3 (eq (fresh x 1) (fresh i 1) ∷ less (X y) (fresh i 1) ∷ []) (eq (fresh x 1) (fresh i 2)) ∷ [])

-- without INVARIANT, and DOWNTO: FOR i := 3 DOWNTO y DO ASSERT i = x
abbrev pub counting_down : Program
counting_down =
    program ((i, integer) ∷ (x, integer) ∷ (y, integer) ∷ []) [] None (Some (note 3 (equal (named x) (number 1))))
    (For 5 None (record { variable = i; direction = Down; first = num 3; last = read y }) (Assert (note 6 (equal (named i) (named x)))))

abbrev pub ForCountsDown : Type 0
ForCountsDown = Are counting_down
    (condition None kind.Assert 6 (at_most (X y) (fresh i 1) ∷ []) (eq (fresh i 1) (X x))
    ∷ condition None kind.Exit 3 (less (fresh i 1) (X y) ∷ []) (eq (X x) (N 1)) ∷ [])

-- ---- structures

-- EXIT a[i] = 1; a[i] := 1; a[x] := 2
abbrev pub elements : Program
elements =
    program ((a, row_of_nine) ∷ (i, integer) ∷ (x, integer) ∷ []) [] None (Some (note 3 (equal (formula.Element (named a) (named i)) (number 1))))
    (block (Assign (element a (read i)) (num 1) ∷ Assign (element a (read x)) (num 2) ∷ []))

abbrev pub A : Term
A = of (sort.Whole row_of_nine) a 0

abbrev pub ElementsAreStored : Type 0
ElementsAreStored = Are elements
    (condition None kind.Exit 3 [] (eq (binary head.Select (ternary head.Store (ternary head.Store A (X i) (N 1)) (X x) (N 2)) (X i)) (N 1)) ∷ [])

-- ---- cells

abbrev pub P : Term
P = of (sort.Ptr node) p 0

abbrev pub Q : Term
Q = of (sort.Ptr node) q 0

-- the cells with this val in one of them
abbrev pub with_val : Term → Term → Term → Term
with_val class pointer v = ternary head.SetCell class pointer (binary (head.Put val) (binary head.Cell class pointer) v)

-- EXIT p^.val = 1; p^.val := 1; q^.val := 2
abbrev pub shared : Program
shared =
    program ((p, ref) ∷ (q, ref) ∷ []) [] None (Some (note 4 (equal (formula.FieldOf (formula.Content 4 node (named p)) val) (number 1))))
    (block (Assign (content p) (num 1) ∷ Assign (content q) (num 2) ∷ []))

abbrev pub CellsAreOneClass : Type 0
CellsAreOneClass = Are shared
    (condition None kind.Exit 4 [] (eq (unary (head.Field val) (binary head.Cell (with_val (with_val cells P (N 1)) Q (N 2)) P)) (N 1)) ∷ [])

-- without a TYPE part; EXIT p^.val = 0; WHILE b DO p^.val := 1
abbrev pub nameless : Program
nameless =
    record (program ((b, boolean) ∷ (p, ref) ∷ []) [] None
    (Some (note 4 (equal (formula.FieldOf (formula.Content 4 node (named p)) val) (number 0))))
    (While 5 None (read b) (Assign (content p) (num 1)))) { types = [] }

-- the loop renames the cells of a type that has no name
abbrev pub CellsWithoutANameAreRenamed : Type 0
CellsWithoutANameAreRenamed = Are nameless
    (condition None kind.Exit 4 (no (of sort.Bool b 0) ∷ []) (eq (unary (head.Field val) (binary head.Cell (alone (head.ClassVar node 1)) P)) (N 0)) ∷ [])

-- EXIT p <> q; NEW(p); NEW(q)
abbrev pub creating : Program
creating =
    program ((p, ref) ∷ (q, ref) ∷ []) [] None (Some (note 4 (formula.Compared comparison.NotEqual (named p) (named q))))
    (block (New 5 (at p) node ∷ New 5 (at q) node ∷ []))

abbrev pub new : Symbol → ℕ → Term
new v k = of (sort.Ptr node) v k

-- the second cell is none of the class that the first has extended
abbrev pub NewCellsDiffer : Type 0
NewCellsDiffer = Are creating
    (condition None kind.Exit 4
    (no (eq (new p 1) NIL) ∷ no (binary head.PointerTo (new p 1) cells) ∷ no (eq (new q 1) NIL)
    ∷ no (binary head.PointerTo (new q 1) (ternary head.Extend cells (new p 1) (of (sort.Whole node) Node 2))) ∷ [])
    (no (eq (new p 1) (new q 1))) ∷ [])
