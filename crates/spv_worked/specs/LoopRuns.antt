-- What loops do, and CASE.
use Rattle.std.specs.Prelude.{◌≡◌, ℕ, true, [], ◌∷◌, None, pos}
use Rattle.spv_logic.specs.declared.conditions.Kind.TheVariants as kind
use Rattle.spv_program.specs.declared.operators.Comparison.TheVariants as comparison
use Rattle.spv_program.specs.declared.operators.Direction.TheVariants.{Up, Down}
use Rattle.spv_program.specs.declared.operators.Arithmetic.TheVariants as arithmetic
use Rattle.spv_program.specs.Expressions.{Boolean, Calculated, Compared}
use Rattle.spv_program.specs.Statements.{Case, While, Repeat, For, no_arms, arm}
use Rattle.spv_program.specs.Programs.{Program}
use Rattle.spv_meaning.specs.declared.faults.Fault.TheVariants as fault
use Rattle.spv_worked.specs.Small.{x, i, integer, three, program, num, read, set, one_by_zero, anything, z, Reached, told, int, state, main_run, ended, stopped, going, reached}

-- VAR x: INTEGER; i: INTEGER;  INVARIANT TRUE FOR i := 3 TO 1 DO x := 7
abbrev pub no_turn : Program
no_turn =
    program ((x, integer) ∷ (i, integer) ∷ []) [] None None
    (For 1 (anything 5) (record { variable = i; direction = Up; first = num 3; last = num 1 }) (set x (num 7)))

-- the INVARIANT is met once, with i read as 3; the body does not run, and i takes the choice
abbrev pub ForWithoutATurn : Type 0
ForWithoutATurn =
    told (x ∷ i ∷ []) (int i ∷ int x ∷ []) (main_run no_turn 5 (state ((x, z 0) ∷ (i, z 0) ∷ [])) (z 42 ∷ []))
    ≡ ended (0 ∷ 42 ∷ []) (reached kind.Invariant 5 (3 ∷ 0 ∷ []) ∷ [])

-- VAR x: INTEGER; i: 1..3;  INVARIANT TRUE FOR i := first TO last DO x := i
abbrev pub counting_up : ℕ → ℕ → Program
counting_up first last =
    program ((x, integer) ∷ (i, three) ∷ []) [] None None
    (For 1 (anything 5) (record { variable = i; direction = Up; first = num first; last = num last }) (set x (read i)))

-- with i and x as they are
abbrev pub invariant : ℕ → ℕ → Reached
invariant j k = reached kind.Invariant 5 (j ∷ k ∷ [])

-- the last comparison meets the INVARIANT with i read as 4, though i is of 1..3
abbrev pub ForWithThreeTurns : Type 0
ForWithThreeTurns =
    told (x ∷ i ∷ []) (int i ∷ int x ∷ []) (main_run (counting_up 1 3) 4 (state ((x, z 0) ∷ (i, z 1) ∷ [])) (z 42 ∷ []))
    ≡ ended (3 ∷ 42 ∷ []) (invariant 1 0 ∷ invariant 2 1 ∷ invariant 3 2 ∷ invariant 4 3 ∷ [])

-- that takes four turns: with three the run is still going
abbrev pub ForNeedsFour : Type 0
ForNeedsFour =
    told (x ∷ i ∷ []) (int i ∷ int x ∷ []) (main_run (counting_up 1 3) 3 (state ((x, z 0) ∷ (i, z 1) ∷ [])) (z 42 ∷ []))
    ≡ going (invariant 1 0 ∷ invariant 2 1 ∷ invariant 3 2 ∷ [])

-- a candidate that leaves the subrange of i stops the run before the body, behind the INVARIANT
abbrev pub ForLeavesItsRange : Type 0
ForLeavesItsRange =
    told (x ∷ i ∷ []) (int i ∷ int x ∷ []) (main_run (counting_up 3 5) 9 (state ((x, z 0) ∷ (i, z 1) ∷ [])) (z 42 ∷ []))
    ≡ stopped fault.Range (invariant 3 0 ∷ invariant 4 3 ∷ [])

-- without a choice for i the run stops at the end
abbrev pub ForWithoutAChoice : Type 0
ForWithoutAChoice =
    told (x ∷ i ∷ []) [] (main_run no_turn 5 (state ((x, z 0) ∷ (i, z 0) ∷ [])) [])
    ≡ stopped fault.Choice (reached kind.Invariant 5 [] ∷ [])

-- VAR x: INTEGER; i: INTEGER;  INVARIANT TRUE FOR i := 2 DOWNTO 1 DO x := x * 10 + i
abbrev pub counting_down : Program
counting_down =
    program ((x, integer) ∷ (i, integer) ∷ []) [] None None
    (For 1 (anything 5) (record { variable = i; direction = Down; first = num 2; last = num 1 })
    (set x (Calculated arithmetic.Plus (Calculated arithmetic.Times (read x) (num 10)) (read i))))

abbrev pub DownTo : Type 0
DownTo =
    told (x ∷ i ∷ []) (int i ∷ int x ∷ []) (main_run counting_down 3 (state ((x, z 0) ∷ (i, z 0) ∷ [])) (z 42 ∷ []))
    ≡ ended (21 ∷ 42 ∷ []) (invariant 2 0 ∷ invariant 1 2 ∷ invariant 0 21 ∷ [])

-- both ends are evaluated once: FOR i := 1 TO x DO x := 0
abbrev pub ends_once : Program
ends_once =
    program ((x, integer) ∷ (i, integer) ∷ []) [] None None
    (For 1 (anything 5) (record { variable = i; direction = Up; first = num 1; last = read x }) (set x (num 0)))

abbrev pub ForEvaluatesItsEndsOnce : Type 0
ForEvaluatesItsEndsOnce =
    told (x ∷ i ∷ []) (int i ∷ int x ∷ []) (main_run ends_once 3 (state ((x, z 2) ∷ (i, z 0) ∷ [])) (z 42 ∷ []))
    ≡ ended (0 ∷ 42 ∷ []) (invariant 1 2 ∷ invariant 2 0 ∷ invariant 3 0 ∷ [])

-- both ends are evaluated before i takes the first: FOR i := 1 TO i + 1 DO x := i
abbrev pub ends_first : Program
ends_first =
    program ((x, integer) ∷ (i, integer) ∷ []) [] None None
    (For 1 (anything 5) (record { variable = i; direction = Up; first = num 1; last = Calculated arithmetic.Plus (read i) (num 1) })
    (set x (read i)))

-- i is 2 before, so the last turn is with 3
abbrev pub ForEvaluatesItsEndsFirst : Type 0
ForEvaluatesItsEndsFirst =
    told (x ∷ i ∷ []) (int i ∷ int x ∷ []) (main_run ends_first 4 (state ((x, z 0) ∷ (i, z 2) ∷ [])) (z 42 ∷ []))
    ≡ ended (3 ∷ 42 ∷ []) (invariant 1 0 ∷ invariant 2 1 ∷ invariant 3 2 ∷ invariant 4 3 ∷ [])

-- VAR x: INTEGER;  INVARIANT TRUE REPEAT x := x + 1 UNTIL TRUE
abbrev pub once : Program
once = program ((x, integer) ∷ []) [] None None (Repeat 1 (anything 5) (set x (Calculated arithmetic.Plus (read x) (num 1))) (Boolean true))

-- the body runs once though the test is true, and the INVARIANT is met before it
abbrev pub RepeatRunsItsBody : Type 0
RepeatRunsItsBody =
    told (x ∷ []) (int x ∷ []) (main_run once 1 (state ((x, z 0) ∷ [])) [])
    ≡ ended (1 ∷ []) (reached kind.Invariant 5 (0 ∷ []) ∷ [])

-- VAR x: INTEGER;  INVARIANT TRUE WHILE x < 2 DO x := x + 1
abbrev pub upward : Program
upward =
    program ((x, integer) ∷ []) [] None None
    (While 1 (anything 5) (Compared comparison.Less (read x) (num 2)) (set x (Calculated arithmetic.Plus (read x) (num 1))))

-- the INVARIANT is met before each test, the last one too
abbrev pub WhileMeetsItsInvariant : Type 0
WhileMeetsItsInvariant =
    told (x ∷ []) (int x ∷ []) (main_run upward 3 (state ((x, z 0) ∷ [])) [])
    ≡ ended (2 ∷ []) (reached kind.Invariant 5 (0 ∷ []) ∷ reached kind.Invariant 5 (1 ∷ []) ∷ reached kind.Invariant 5 (2 ∷ []) ∷ [])

-- with two turns it is still going, and with none nothing is met
abbrev pub WhileIsGoing : Type 0
WhileIsGoing =
    told (x ∷ []) (int x ∷ []) (main_run upward 2 (state ((x, z 0) ∷ [])) [])
    ≡ going (reached kind.Invariant 5 (0 ∷ []) ∷ reached kind.Invariant 5 (1 ∷ []) ∷ [])

abbrev pub WhileWithoutATurn : Type 0
WhileWithoutATurn = told (x ∷ []) (int x ∷ []) (main_run upward 0 (state ((x, z 0) ∷ [])) []) ≡ going []

-- VAR x: INTEGER;  INVARIANT TRUE WHILE 1 DIV 0 = 1 DO x := 7
abbrev pub test_by_zero : Program
test_by_zero =
    program ((x, integer) ∷ []) [] None None (While 1 (anything 5) (Compared comparison.Equal one_by_zero (num 1)) (set x (num 7)))

-- the INVARIANT is met before the test that stops
abbrev pub WhileMeetsBeforeItsTest : Type 0
WhileMeetsBeforeItsTest =
    told (x ∷ []) (int x ∷ []) (main_run test_by_zero 1 (state ((x, z 0) ∷ [])) [])
    ≡ stopped fault.Zero (reached kind.Invariant 5 (0 ∷ []) ∷ [])

-- CASE x OF 1, 2: x := 10; 3: x := 20 END
abbrev pub choosing : Program
choosing =
    program ((x, integer) ∷ []) [] None None
    (Case 1 (read x) (arm (pos 1 ∷ pos 2 ∷ []) (set x (num 10)) (arm (pos 3 ∷ []) (set x (num 20)) no_arms)))

abbrev pub CaseTakesItsLabel : ℕ → ℕ → Type 0
CaseTakesItsLabel value after = told (x ∷ []) [] (main_run choosing 0 (state ((x, z value) ∷ [])) []) ≡ ended (after ∷ []) []

abbrev pub CaseWithoutALabel : Type 0
CaseWithoutALabel = told (x ∷ []) [] (main_run choosing 0 (state ((x, z 4) ∷ [])) []) ≡ stopped fault.Case []
