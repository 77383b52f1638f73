-- Programs with routines that are correct in every world.
use Rattle.std.specs.Prelude.{true, [], ◌∷◌, Some, None}
use Rattle.spv_logic.specs.declared.conditions.Kind.TheVariants as kind
use Rattle.spv_logic.specs.Conditions.{Meaning}
use Rattle.spv_program.specs.declared.operators.Arithmetic.TheVariants as arithmetic
use Rattle.spv_program.specs.declared.operators.Comparison.TheVariants as comparison
use Rattle.spv_program.specs.declared.types.Item.TheVariants.{Variable}
use Rattle.spv_program.specs.Expressions.{Calculated, Compared, call, no_arguments, by_value}
use Rattle.spv_program.specs.Statements.{Perform, If}
use Rattle.spv_program.specs.Programs.{Routine, Program}
use Rattle.spv_meaning.specs.Correct.{Correct}
use Rattle.spv_worked.specs.Small.{x, f, n, integer, program, num, read, set, named, number, equal, note, value_formal, routine}
use Rattle.spv_worked.specs.Terms.{X, N, fresh, eq, less, no, condition}
use Rattle.spv_worked.specs.StatementConditions.{Are}
use Rattle.spv_worked.specs.CallConditions.{first, swapping}

-- swap with two VAR parameters keeps its promise, and so does the block that calls it
abbrev pub SwappingIsCorrect : Type 0
SwappingIsCorrect = (world : Meaning) → Correct swapping world

-- PROCEDURE f(n: INTEGER); GLOBAL (VAR x); EXIT x = 0; BEGIN IF 0 < n THEN f(n - 1) ELSE x := 0 END: it calls itself, and what its call
-- promises is what it is asked for itself
abbrev pub clear : Routine
clear = record {
  name = f;
  line = 1;
  formals = value_formal n integer ∷ [];
  result = None;
  globals = record { item = Variable x; is_var = true; line = 2 } ∷ [];
  initial = [];
  entry = None;
  exit = Some (note 3 (equal (named x) (number 0)));
  locals = [];
  body =
      If 4 (Compared comparison.Less (num 0) (read n))
      (Perform (call (routine 0) 5 (by_value (Calculated arithmetic.Minus (read n) (num 1)) no_arguments)))
      (set x (num 0));
}

-- VAR x: INTEGER; EXIT x = 0; BEGIN f(3) END
abbrev pub clearing : Program
clearing =
    program ((x, integer) ∷ []) (clear ∷ []) None (Some (note 8 (equal (named x) (number 0))))
    (Perform (call (routine 0) 9 (by_value (num 3) no_arguments)))

-- its conditions: where the routine calls itself X@1 stands for x afterwards, and in the main block, behind it, X@2
abbrev pub Clear : Type 0
Clear = Are clearing
    (condition first kind.Exit 3 (less (N 0) (X n) ∷ eq (fresh x 1) (N 0) ∷ []) (eq (fresh x 1) (N 0))
    ∷ condition first kind.Exit 3 (no (less (N 0) (X n)) ∷ []) (eq (N 0) (N 0))
    ∷ condition None kind.Exit 8 (eq (fresh x 2) (N 0) ∷ []) (eq (fresh x 2) (N 0)) ∷ [])

-- it ends with x = 0 wherever it ends, though no routine is shown before another
abbrev pub ClearingIsCorrect : Type 0
ClearingIsCorrect = (world : Meaning) → Correct clearing world
