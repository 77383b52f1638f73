-- The trees of texts, and the programs that they are.
use Rattle.std.specs.Prelude.{⊤, List, IsTrue}
use Rattle.spv_tree.specs.declared.tokens.token.Token.{Token}
use Rattle.spv_tree.specs.syntax.Reads.{Reads, ReadsFormulaText, well_formed}
use Rattle.spv_program.specs.Programs.{Program}
use Rattle.spv_typing.specs.Outcomes.{Outcome}
use Rattle.spv_typing.specs.Known.{KnownNames}
use Rattle.spv_typing.specs.ProgramWalk.{program_walk, formula_text_walk}
use Rattle.spv_reports.specs.declared.mode.Mode.{Mode}
use Rattle.spv_reports.specs.declared.mode.Mode.TheVariants.{Simplify}
use Rattle.spv_verify.specs.declared.texts.TextKind.{TextKind}
use Rattle.spv_verify.specs.declared.texts.TextKind.TheVariants as kind
use Rattle.spv_verify.specs.declared.texts.TextTree.{TextTree}
use Rattle.spv_verify.specs.declared.texts.TextTree.TheVariants.{OfProgram, OfFormula}

-- what the text is read as that a report of this mode is of
abbrev pub kind_of : Mode → TextKind
kind_of (Simplify limits) = kind.Formula
kind_of _ = kind.Program

-- tokens are read as this tree, in a text of this kind
abbrev pub ReadsText : TextKind → List Token → TextTree → Type 0
ReadsText kind.Program tokens (OfProgram tree) = Reads tokens tree
ReadsText kind.Formula tokens (OfFormula tree) = ReadsFormulaText tokens tree
ReadsText _ tokens _ = ⊥

-- the tree of a program is well formed, as each is that a reading answers; the form of a formula text says all
abbrev pub IsFormed : TextTree → Type 0
IsFormed (OfProgram tree) = IsTrue (well_formed tree)
IsFormed (OfFormula tree) = ⊤

-- the program that a tree is, or its first fault of names and types: that of a formula text has its one ASSERT as main block
abbrev pub tree_walk : KnownNames → TextTree → Outcome Program
tree_walk known (OfProgram tree) = program_walk known tree
tree_walk known (OfFormula tree) = formula_text_walk known tree
