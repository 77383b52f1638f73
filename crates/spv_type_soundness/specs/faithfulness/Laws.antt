-- What is proved of the walk over names and types: what it answers comes from its tree.
use Rattle.std.specs.Prelude.{◌≡◌, ℕ, true, ℤ, Option, Some, Ok, IsTrue}
use Rattle.spv_logic.specs.declared.names.names.Symbol.{Symbol}
use Rattle.spv_logic.specs.declared.types.TypeId.{TypeId}
use Rattle.spv_logic.specs.declared.types.Sort.{Sort}
use Rattle.spv_logic.specs.declared.types.Decl.{Decl}
use Rattle.spv_tree.specs.declared.syntax.names.Constant.{Constant}
use Rattle.spv_tree.specs.syntax.Formulas as tree
use Rattle.spv_tree.specs.declared.syntax.programs.Program.{Program as ProgramText}
use Rattle.spv_tree.specs.declared.syntax.formula_texts.FormulaText.{FormulaText}
use Rattle.spv_tree.specs.syntax.Reads.{well_formed}
use Rattle.spv_tree.specs.syntax.Statements as statements
use Rattle.spv_tree.specs.declared.syntax.names.Name.{Name}
use Rattle.spv_tree.specs.declared.syntax.lists.Several.{Several}
use Rattle.spv_program.specs.declared.types.TypeForm.TheVariants.{Integer}
use Rattle.spv_program.specs.Types.{form_at, may_be_result}
use Rattle.spv_program.specs.Expressions.{Expression, Designator, Call}
use Rattle.spv_program.specs.Formulas.{Annotation}
use Rattle.spv_program.specs.Statements.{Statement}
use Rattle.spv_program.specs.Programs.{Program}
use Rattle.spv_typing.specs.Known.{KnownNames, OfConstant, OfType, OfPlace, OfStart, OfSymbol, OfRoutine, Heading, Scope, meaning, function}
use Rattle.spv_typing.specs.FormulaWalk.{annotation}
use Rattle.spv_typing.specs.ExpressionWalk.{Reached, is_this, designator_at, expression_of, written, call_of}
use Rattle.spv_typing.specs.TypeWalk.{constant}
use Rattle.spv_typing.specs.StatementWalk.{Setting, arguments_of, statement_walk, block_walk}
use Rattle.spv_typing.specs.ProgramWalk.{program_walk, formula_text_walk}
use Rattle.spv_type_soundness.specs.faithfulness.Names.{View, constant_named, names_place, names_start, type_named, names_symbol, function_named, routine_named, names_result}
use Rattle.spv_type_soundness.specs.faithfulness.Formulas.{AnnotationFrom}
use Rattle.spv_type_soundness.specs.faithfulness.Expressions.{CallFrom, ExpressionFrom, PlaceFrom}
use Rattle.spv_type_soundness.specs.faithfulness.Programs.{ProgramFrom, FormulaTextFrom}
use Rattle.spv_type_soundness.specs.faithfulness.Statements.{all_of, ConstantFrom, StatementFrom, BlockFrom}

-- the names that annotations see in a scope are those of a program
pub record Sees (s : Scope) (v : View) : Type 0 where
  pub constants : (x : Symbol) (z : ℤ) → meaning s x ≡ Some (OfConstant z) → constant_named v x ≡ Some z
  pub places : (x : Symbol) (t : TypeId) → meaning s x ≡ Some (OfPlace t) → names_place v x ≡ true
  pub starts : (x : Symbol) (r : Sort) → meaning s x ≡ Some (OfStart r) → names_start v x ≡ true
  pub types : (x : Symbol) (t : TypeId) → meaning s x ≡ Some (OfType t) → type_named v x ≡ Some t
  pub symbols : (x : Symbol) (d : Decl) → meaning s x ≡ Some (OfSymbol d) → (d.name ≡ x) × (names_symbol v x ≡ true)
  pub functions : (x : Symbol) → function s x ≡ function_named v x

-- the names that expressions see in a scope are those of a program; INTEGER is the first type, and no function's result is an array
-- or a record
pub record SeesPlaces (s : Scope) (v : View) : Type 0 where
  pub constants : (x : Symbol) (z : ℤ) → meaning s x ≡ Some (OfConstant z) → constant_named v x ≡ Some z
  pub places : (x : Symbol) (t : TypeId) → meaning s x ≡ Some (OfPlace t) → names_place v x ≡ true
  pub routines : (x : Symbol) (h : Heading) → meaning s x ≡ Some (OfRoutine h) → routine_named v x ≡ Some h.number
  pub own_result : (x : Symbol) (h : Heading) (t : TypeId) → meaning s x ≡ Some (OfRoutine h) → is_this s.routine h ≡ true
      → h.result ≡ Some t → names_result v x ≡ true
  pub functions : (x : Symbol) → function s x ≡ function_named v x
  pub first : form_at s.known.program.forms 0 ≡ Integer
  pub plain_results : (x : Symbol) (h : Heading) (t : TypeId) → meaning s x ≡ Some (OfRoutine h) → h.result ≡ Some t
      → may_be_result (form_at s.known.program.forms t.0) ≡ true

-- an annotation that the walk answers comes from its tree
abbrev pub AnnotationsComeFromTheirTrees : Type 0
AnnotationsComeFromTheirTrees =
    (s : Scope) (v : View) → Sees s v → (f : tree.Formula) (a : Annotation) → annotation s f ≡ Ok a → AnnotationFrom v a f

-- an expression that the walk answers comes from its tree
abbrev pub ExpressionsComeFromTheirTrees : Type 0
ExpressionsComeFromTheirTrees =
    (s : Scope) (v : View) → SeesPlaces s v → (wanted : Sort) (f : tree.Formula) (e : Expression) → expression_of s wanted f ≡ Ok e
    → ExpressionFrom v e f

-- so does a place that is written
abbrev pub PlacesComeFromTheirTrees : Type 0
PlacesComeFromTheirTrees =
    (s : Scope) (v : View) → SeesPlaces s v → (d : tree.Designator) (r : Reached) → written s d ≡ Ok r → (place : Designator)
    → designator_at r ≡ Some place → PlaceFrom v place d

-- and a call
abbrev pub CallsComeFromTheirTrees : Type 0
CallsComeFromTheirTrees =
    (s : Scope) (v : View) → SeesPlaces s v → (line : ℕ) (x : Name) (h : Heading) → meaning s x.symbol ≡ Some (OfRoutine h)
    → (given : Option (Several tree.Formula)) (c : Call)
    → call_of s line x.line h (arguments_of s given) ≡ Ok c → CallFrom v c x (all_of given)

-- a constant has the number that the walk answers
abbrev pub ConstantsHaveTheirNumbers : Type 0
ConstantsHaveTheirNumbers =
    (s : Scope) (v : View) → ((x : Symbol) (z : ℤ) → meaning s x ≡ Some (OfConstant z) → constant_named v x ≡ Some z)
    → (c : Constant) (z : ℤ) → constant s c ≡ Ok z → ConstantFrom v z c

-- a statement that the walk answers comes from its tree
abbrev pub StatementsComeFromTheirTrees : Type 0
StatementsComeFromTheirTrees =
    (at : Setting) (v w : View) → SeesPlaces at.inside v → Sees at.noted w → (t : statements.Statement) (s : Statement)
    → statement_walk at t ≡ Ok s → StatementFrom v w s t

-- and a block
abbrev pub BlocksComeFromTheirTrees : Type 0
BlocksComeFromTheirTrees =
    (at : Setting) (v w : View) → SeesPlaces at.inside v → Sees at.noted w → (b : statements.Block) (s : Statement)
    → block_walk at b ≡ Ok s → BlockFrom v w s b

-- a program that the walk answers comes from its tree, in which each routine that begins ends
abbrev pub ProgramsComeFromTheirTrees : Type 0
ProgramsComeFromTheirTrees = (start : KnownNames) (t : ProgramText) (p : Program) → IsTrue (well_formed t) → program_walk start t ≡ Ok p
    → ProgramFrom start p t

-- so does that of a formula text
abbrev pub FormulaTextsComeFromTheirTrees : Type 0
FormulaTextsComeFromTheirTrees = (start : KnownNames) (t : FormulaText) (p : Program) → formula_text_walk start t ≡ Ok p
    → FormulaTextFrom start p t
