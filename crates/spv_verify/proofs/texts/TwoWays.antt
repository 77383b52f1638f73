-- What is read of a text of one kind, said of all kinds.
use Rattle.std.proofs.Common.{ℕ, List, [], ◌∷◌, ◌++◌, Result, Ok, Err, IfOk, ap}
use Rattle.spv_tree.specs.declared.tokens.token.Token.{Token}
use Rattle.spv_tree.specs.declared.syntax.programs.Program.{Program}
use Rattle.spv_tree.specs.declared.syntax.formula_texts.FormulaText.{FormulaText}
use Rattle.spv_tree.specs.syntax.Reads.{Reads, ReadsFormulaText}
use Rattle.spv_grammar.specs.first_sets.Begins.{Begins, GoesWrongWith, GoesWrongAt, with_token, at_end}
use Rattle.spv_parser.specs.Causes.{HasTreeCause}
use Rattle.spv_parser.specs.declared.refused.SyntaxFault.{SyntaxFault}
use Rattle.spv_parser.specs.declared.refused.SyntaxFault.TheVariants as syntax
use Rattle.spv_parser.specs.declared.language.fault.LanguageFault.{LanguageFault}
use Rattle.spv_parser.specs.declared.language.fault.LanguageFault.TheVariants.{Tokens, Tree}
use Rattle.spv_parser.specs.language.Texts.{tokens_of, IsTreeOf, IsFaultOf, TextsHaveOneTree}
use Rattle.spv_verify.specs.declared.texts.TextKind.{TextKind}
use Rattle.spv_verify.specs.declared.texts.TextKind.TheVariants as kind
use Rattle.spv_verify.specs.declared.texts.TextTree.{TextTree}
use Rattle.spv_verify.specs.declared.texts.TextTree.TheVariants.{OfProgram, OfFormula}
use Rattle.spv_verify.specs.declared.refused.fault.TextFault.{TextFault}
use Rattle.spv_verify.specs.texts.Trees.{IsFormed, ReadsText}
use Rattle.spv_verify.specs.refused.Told.{Tells, text_refusal}
use Rattle.spv_verify.specs.Refusals.{IsTextTree}
use Rattle.spv_verify.specs.Causes.{IsReadingCause}
use Rattle.spv_verify.proofs.Found.{reading_cause}

-- ---- two ways to read the same tokens

module _ {A B : Type 0} (reads : List Token → A → Type 0) (others : List Token → B → Type 0)
    (there : (tokens : List Token) (x : A) → reads tokens x → (y : B) × others tokens y)
    (back : (tokens : List Token) (y : B) → others tokens y → (x : A) × reads tokens x) where
  begins : (tokens : List Token) → Begins reads tokens → Begins others tokens
  begins tokens b = let k = there (tokens ++ b.more) b.tree b.read in record { more = b.more; tree = k.0; read = k.1 }

  begins_back : (tokens : List Token) → Begins others tokens → Begins reads tokens
  begins_back tokens b = let k = back (tokens ++ b.more) b.tree b.read in record { more = b.more; tree = k.0; read = k.1 }

  wrong_with : (before : List Token) (t : Token) → GoesWrongWith reads before t → GoesWrongWith others before t
  wrong_with before t w = record { right = begins before w.right; wrong = λ b. w.wrong (begins_back (before ++ t ∷ []) b) }

  wrong_at : (tokens : List Token) (line : ℕ) → GoesWrongAt reads tokens line → GoesWrongAt others tokens line
  wrong_at _ _ (with_token before t behind w) = with_token before t behind (wrong_with before t w)
  wrong_at _ _ (at_end tokens b) = at_end tokens (begins tokens b)

  none_reads : (tokens : List Token) → ((x : A) → reads tokens x → ⊥) → (y : B) → others tokens y → ⊥
  none_reads tokens none y h = let k = back tokens y h in none k.0 k.1

  tree_cause : (tokens : List Token) (fault : SyntaxFault) → HasTreeCause reads tokens fault → HasTreeCause others tokens fault
  tree_cause tokens (syntax.Profile line word) h = h
  tree_cause tokens (syntax.TooDeep line) h = h
  tree_cause tokens (syntax.Syntax line) (allowed, none, at) = (allowed, none_reads tokens none, wrong_at tokens line at)
  tree_cause tokens syntax.Memory h = tt

  pub other_fault : (names : List (List ℕ)) (text : List ℕ) (fault : LanguageFault) → IsFaultOf reads names text fault → IsFaultOf others names text fault
  other_fault names text (Tokens fault) h = h
  other_fault names text (Tree fault) (cut, cause) = (cut, tree_cause (tokens_of names text) fault cause)

-- ---- programs

program_there : (tokens : List Token) (x : Program) → Reads tokens x → (y : TextTree) × ReadsText kind.Program tokens y
program_there tokens x h = (OfProgram x, h)

program_back : (tokens : List Token) (y : TextTree) → ReadsText kind.Program tokens y → (x : Program) × Reads tokens x
program_back tokens (OfProgram x) h = (x, h)
program_back tokens (OfFormula x) h = absurd h

pub program_tree : (text : List ℕ) (tree : Program) → IsTreeOf Reads [] text tree → IsTextTree kind.Program text (OfProgram tree)
program_tree text tree is = record { cut = is.cut; allowed = is.allowed; is_tree = is.is_tree }

pub program_cause : (text : List ℕ) (fault : LanguageFault) (v : TextFault) → IsFaultOf Reads [] text fault → Tells (text_refusal fault) v → IsReadingCause kind.Program text v
program_cause text fault v stops tells = reading_cause kind.Program text fault v (other_fault Reads (ReadsText kind.Program) program_there program_back [] text fault stops) tells

one_program_tree : TextsHaveOneTree Reads → TextsHaveOneTree (ReadsText kind.Program)
one_program_tree one names text (OfProgram x) (OfProgram y) h k =
    ap OfProgram (one names text x y (record { cut = h.cut; allowed = h.allowed; is_tree = h.is_tree }) (record { cut = k.cut; allowed = k.allowed; is_tree = k.is_tree }))
one_program_tree one names text (OfProgram x) (OfFormula y) h k = absurd k.is_tree
one_program_tree one names text (OfFormula x) y h k = absurd h.is_tree

-- ---- formula texts

formula_there : (tokens : List Token) (x : FormulaText) → ReadsFormulaText tokens x → (y : TextTree) × ReadsText kind.Formula tokens y
formula_there tokens x h = (OfFormula x, h)

formula_back : (tokens : List Token) (y : TextTree) → ReadsText kind.Formula tokens y → (x : FormulaText) × ReadsFormulaText tokens x
formula_back tokens (OfFormula x) h = (x, h)
formula_back tokens (OfProgram x) h = absurd h

pub formula_tree : (text : List ℕ) (tree : FormulaText) → IsTreeOf ReadsFormulaText [] text tree → IsTextTree kind.Formula text (OfFormula tree)
formula_tree text tree is = record { cut = is.cut; allowed = is.allowed; is_tree = is.is_tree }

pub formula_cause : (text : List ℕ) (fault : LanguageFault) (v : TextFault) → IsFaultOf ReadsFormulaText [] text fault → Tells (text_refusal fault) v → IsReadingCause kind.Formula text v
formula_cause text fault v stops tells = reading_cause kind.Formula text fault v (other_fault ReadsFormulaText (ReadsText kind.Formula) formula_there formula_back [] text fault stops) tells

one_formula_tree : TextsHaveOneTree ReadsFormulaText → TextsHaveOneTree (ReadsText kind.Formula)
one_formula_tree one names text (OfFormula x) (OfFormula y) h k =
    ap OfFormula (one names text x y (record { cut = h.cut; allowed = h.allowed; is_tree = h.is_tree }) (record { cut = k.cut; allowed = k.allowed; is_tree = k.is_tree }))
one_formula_tree one names text (OfFormula x) (OfProgram y) h k = absurd k.is_tree
one_formula_tree one names text (OfProgram x) y h k = absurd h.is_tree

-- ---- both

pub one_tree : TextsHaveOneTree Reads → TextsHaveOneTree ReadsFormulaText → (k : TextKind) → TextsHaveOneTree (ReadsText k)
one_tree programs formulas kind.Program = one_program_tree programs
one_tree programs formulas kind.Formula = one_formula_tree formulas

-- a tree that was read is formed
formed : (k : TextKind) (text : List ℕ) (tree : TextTree) → IsTextTree k text tree → IsFormed tree
formed kind.Program text (OfProgram tree) is = is.is_tree.formed
formed kind.Program text (OfFormula tree) is = tt
formed kind.Formula text (OfProgram tree) is = absurd is.is_tree
formed kind.Formula text (OfFormula tree) is = tt

pub tree_formed : (k : TextKind) (text : List ℕ) (r : Result TextTree TextFault) → IfOk r (IsTextTree k text) → IfOk r IsFormed
tree_formed k text (Ok tree) is = formed k text tree is
tree_formed k text (Err v) is = tt
