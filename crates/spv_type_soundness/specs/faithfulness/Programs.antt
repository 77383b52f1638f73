-- From which trees programs may come.
use Rattle.std.specs.Prelude.{◌≡◌, [], None}
use Rattle.spv_tree.specs.declared.syntax.programs.Program.{Program as ProgramText}
use Rattle.spv_tree.specs.declared.syntax.formula_texts.FormulaText.{FormulaText}
use Rattle.spv_program.specs.Formulas.{Annotation}
use Rattle.spv_program.specs.Statements.{Assert}
use Rattle.spv_program.specs.Programs.{Program}
use Rattle.spv_typing.specs.Known.{KnownNames}
use Rattle.spv_typing.specs.ProgramWalk.{titles_of}
use Rattle.spv_type_soundness.specs.faithfulness.Names.{at_top}
use Rattle.spv_type_soundness.specs.faithfulness.Formulas.{IfThere, AnnotationFrom}
use Rattle.spv_type_soundness.specs.faithfulness.Statements.{BlockFrom}
use Rattle.spv_type_soundness.specs.faithfulness.Declarations.{DeclarationsFrom}
use Rattle.spv_type_soundness.specs.faithfulness.Routines.{RoutinesFrom}

-- a program comes from a tree, where these names are known from the start
pub record ProgramFrom (start : KnownNames) (p : Program) (t : ProgramText) : Type 0 where
  pub titles : p.titles ≡ titles_of start p
  pub declarations : DeclarationsFrom start p t.declarations
  pub routines : RoutinesFrom start p [] t.routines p.routines
  pub entry : IfThere (at_top start p) p.main.entry t.entry
  pub exit : IfThere (at_top start p) p.main.exit t.exit
  pub body : BlockFrom (at_top start p) (at_top start p) p.main.body t.block

-- the program of a formula text has one ASSERT and nothing else behind its declarations
pub record FormulaTextFrom (start : KnownNames) (p : Program) (t : FormulaText) : Type 0 where
  pub annotation : Annotation
  pub titles : p.titles ≡ titles_of start p
  pub declarations : DeclarationsFrom start p t.declarations
  pub no_routines : p.routines ≡ []
  pub no_entry : p.main.entry ≡ None
  pub no_exit : p.main.exit ≡ None
  pub is : p.main.body ≡ Assert annotation
  pub formula : AnnotationFrom (at_top start p) annotation t.formula
