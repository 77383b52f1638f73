-- Programs that are not correct, so that "correct" says something.
use Rattle.std.specs.Prelude.{◌≡◌, true, [], ◌∷◌, Some, None, pos}
use Rattle.spv_logic.specs.Values.{Number, Truth, ArrayOf, no_rows, row}
use Rattle.spv_meaning.specs.Places.{State, OwnValue, IndexStep, Holding, Referring}
use Rattle.spv_meaning.specs.Starts.{IsStart}
use Rattle.spv_logic.specs.Conditions.{Meaning, answers}
use Rattle.spv_program.specs.Formulas as formula
use Rattle.spv_logic.specs.declared.conditions.Kind.TheVariants as kind
use Rattle.spv_program.specs.Expressions.{call, no_arguments, by_place}
use Rattle.spv_program.specs.Statements.{Empty, Perform}
use Rattle.spv_program.specs.Programs.{Routine, Program, shapes}
use Rattle.spv_meaning.specs.Correct.{Correct}
use Rattle.spv_worked.specs.Terms.{N, fresh, eq, condition}
use Rattle.spv_worked.specs.StatementConditions.{Are}
use Rattle.spv_worked.specs.Small.{x, y, n, f, Fact, integer, program, num, at, set, named, number, equal, note, place_formal, routine, z}

-- VAR x: INTEGER; EXIT x = 1; BEGIN x := 2 END
abbrev pub wrong : Program
wrong = program ((x, integer) ∷ []) [] None (Some (note 3 (equal (named x) (number 1)))) (set x (num 2))

-- it is correct in no world
abbrev pub WrongIsNotCorrect : Type 0
WrongIsNotCorrect = (world : Meaning) → Correct wrong world → ⊥

-- EXIT Fact(0) = 1; BEGIN END
abbrev pub about_fact : Program
about_fact = program [] [] None (Some (note 3 (equal (formula.Applied Fact (formula.formulas (number 0) formula.no_formulas)) (number 1)))) Empty

-- it is correct in no world but those in which Fact(0) is 1
abbrev pub CorrectWhereFactIsOne : Type 0
CorrectWhereFactIsOne = (world : Meaning) → Correct about_fact world
    → answers (shapes about_fact) about_fact.symbols world Fact.0 (Number (pos 0) ∷ []) ≡ Number (pos 1)

-- PROCEDURE f(VAR n: INTEGER); EXIT n = 1; BEGIN n := 0 END
abbrev pub careless : Routine
careless = record {
  name = f;
  line = 1;
  formals = place_formal n integer ∷ [];
  result = None;
  globals = [];
  initial = [];
  entry = None;
  exit = Some (note 2 (equal (named n) (number 1)));
  locals = [];
  body = set n (num 0);
}

-- VAR x: INTEGER; EXIT x = 1; BEGIN f(x) END: the main block is right where f keeps its promise
abbrev pub promising : Program
promising =
    program ((x, integer) ∷ []) (careless ∷ []) None (Some (note 5 (equal (named x) (number 1))))
    (Perform (call (routine 0) 6 (by_place (at x) no_arguments)))

-- it is correct in no world, for the routine's sake
abbrev pub PromisingIsNotCorrect : Type 0
PromisingIsNotCorrect = (world : Meaning) → Correct promising world → ⊥

-- and the condition that says so is the routine's
abbrev pub PromisingIsAsked : Type 0
PromisingIsAsked = Are promising
    (condition (Some (routine 0)) kind.Exit 2 [] (eq (N 0) (N 1)) ∷ condition None kind.Exit 5 (eq (fresh n 1) (N 1) ∷ []) (eq (fresh n 1) (N 1)) ∷ [])

-- PROCEDURE f(VAR n: INTEGER); BEGIN n := 0 END
abbrev pub zeroing : Program
zeroing =
    program [] (record {
      name = f;
      line = 1;
      formals = place_formal n integer ∷ [];
      result = None;
      globals = [];
      initial = [];
      entry = None;
      exit = None;
      locals = [];
      body = set n (num 0);
    } ∷ []) None None Empty

-- n is the element of an array that has two rows for one index, a number and a truth value
abbrev pub with_two_rows : State
with_two_rows = record {
  variables = [];
  frames =
      record { routine = routine 0; names = (n, Referring (record { root = OwnValue 0 y; path = IndexStep (pos 3) ∷ [] })) ∷ [] }
      ∷ record {
        routine = routine 0;
        names = (y, Holding (ArrayOf (z 0) (row (pos 3) (z 1) (row (pos 3) (Truth true) no_rows)))) ∷ [];
      } ∷ [];
  heap = [];
}

-- such a state is no start, though n is a number in it
abbrev pub TwoRowsAreNoStart : Type 0
TwoRowsAreNoStart = IsStart zeroing (Some (routine 0)) with_two_rows → ⊥
