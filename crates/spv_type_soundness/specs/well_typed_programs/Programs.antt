-- What is proved of declarations, routines and whole programs that the walk answers.
use Rattle.std.specs.Prelude.{◌≡◌, true, List, [], Ok, IsTrue}
use Rattle.std.specs.List.{list_all}
use Rattle.spv_tree.specs.declared.syntax.declarations.Declarations.{Declarations}
use Rattle.spv_tree.specs.declared.syntax.routines.RoutineMark.{RoutineMark}
use Rattle.spv_tree.specs.declared.syntax.programs.Program.{Program as ProgramText}
use Rattle.spv_tree.specs.declared.syntax.formula_texts.FormulaText.{FormulaText}
use Rattle.spv_tree.specs.syntax.Reads.{routines_ok}
use Rattle.spv_program.specs.Programs.{Main, Program}
use Rattle.spv_program.specs.Typing.{declarations_ok, routine_ok, well_typed}
use Rattle.spv_typing.specs.Known.{KnownNames, Known}
use Rattle.spv_typing.specs.DeclarationWalk.{declarations_walk}
use Rattle.spv_typing.specs.ProgramWalk.{known_at_first, routines_walk, with_main, program_walk, formula_text_walk}

-- the declarations of a text are right in the program that they make, whatever its main block is
abbrev pub DeclarationsAreRight : Type 0
DeclarationsAreRight =
    (start : KnownNames) (d : Declarations) (k : Known) (m : Main) → declarations_walk (known_at_first start) d ≡ Ok k
    → IsTrue (declarations_ok (with_main start k.program m))

-- where each routine that begins ends, and each announced one has a body, each routine is well typed in the whole program,
-- whatever its main block is
abbrev pub RoutinesAreWellTyped : Type 0
RoutinesAreWellTyped =
    (start : KnownNames) (d : Declarations) (marks : List RoutineMark) (k all : Known) (m : Main)
    → declarations_walk (known_at_first start) d ≡ Ok k → routines_ok 0 marks ≡ true → routines_walk k marks ≡ Ok all → all.awaited ≡ []
    → IsTrue (list_all (routine_ok (with_main start all.program m)) all.program.routines)

-- a program that the walk answers is well typed, whatever names are known from the start; of the tree it is asked that each
-- routine that begins ends, as in the tree of each text
abbrev pub ProgramsAreWellTyped : Type 0
ProgramsAreWellTyped =
    (start : KnownNames) (tree : ProgramText) (p : Program) → routines_ok 0 tree.routines ≡ true → program_walk start tree ≡ Ok p
    → IsTrue (well_typed p)

-- the program of a formula text that the walk answers is well typed
abbrev pub FormulaTextsAreWellTyped : Type 0
FormulaTextsAreWellTyped = (start : KnownNames) (tree : FormulaText) (p : Program) → formula_text_walk start tree ≡ Ok p
    → IsTrue (well_typed p)
