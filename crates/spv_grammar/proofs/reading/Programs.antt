-- A program is read exactly where a well formed tree reads the tokens.
use Rattle.std.proofs.Common.{◌≡◌, ℕ, ◌+◌, ◌≤◌, true, List, [], ◌∷◌, Some, length, refl, sym, ap, ◌∙◌, arith}
use Rattle.spv_tree.specs.declared.tokens.token.Token.{Token}
use Rattle.spv_tree.specs.declared.tokens.token.TokenKind.{TokenKind}
use Rattle.spv_tree.specs.syntax.Members.{in_kinds}
use Rattle.spv_tree.specs.syntax.ProgramSpelling.{program_spelling}
use Rattle.spv_tree.specs.syntax.Steps.{lines_agree}
use Rattle.spv_tree.specs.syntax.Reads.{kinds, Reads}
use Rattle.spv_grammar.specs.reading.Readers.{Outcome, Read, Halted, Reader}
use Rattle.spv_grammar.specs.reading.RoutineReaders.{read_whole, read_program}
use Rattle.spv_grammar.specs.reading.Depths.{program_depth}
use Rattle.spv_grammar.specs.reading.Laws.{ReadIsTree, TreeIsRead, EnoughLevelsForTrees, OneTree}
use Rattle.spv_grammar.proofs.reading.Fronts.{some_is}
use Rattle.spv_grammar.proofs.reading.Whole.{Answers}
use Rattle.spv_grammar.proofs.reading.WholeHeads.{kinds_length}
use Rattle.spv_grammar.proofs.reading.RoutineLengths.{program_length}
use Rattle.spv_grammar.proofs.reading.RoutineSound.{program_sound}
use Rattle.spv_grammar.proofs.reading.RoutineWhole.{program_complete}

-- ---- whole texts of any kind

-- nothing is behind a whole reading
pub whole_is : {A : Type 0} (read : Outcome A) (x : A) → read_whole read ≡ Some x → read ≡ Read (x, [])
whole_is (Halted s) x e = absurd (cc (e))
whole_is (Read (y, [])) x e = ap (λ z. Read (z, [])) (some_is y x e)
whole_is (Read (y, t ∷ tokens)) x e = absurd (cc (e))

pub no_steps : (tokens : List Token) → lines_agree [] tokens ≡ true
unfolding lines_agree
no_steps tokens = refl

no_tokens : (tokens : List Token) → kinds tokens ≡ [] → tokens ≡ []
no_tokens [] e = refl
no_tokens (t ∷ tokens) e = absurd (cc (e))

pub whole_answer : {A : Type 0} {read : Outcome A} {x : A} {tokens : List Token} → Answers read x tokens [] [] → read_whole read ≡ Some x
whole_answer {x} a = ap read_whole (a.is ∙ ap (λ rest. Read (x, rest)) (no_tokens a.rest a.stands.spelled))

module _ {A : Type 0} (read : ℕ → Reader A) (depth : A → ℕ) (spelled : A → List TokenKind → List TokenKind) (reads : List Token → A → Type 0) (is_read : TreeIsRead read depth reads) (is_spelled : (tokens : List Token) (x : A) → reads tokens x → kinds tokens ≡ spelled x []) (shallow : (x : A) (rest : List TokenKind) → depth x + length rest ≤ length (spelled x rest)) where
  pub enough_by : EnoughLevelsForTrees read reads
  enough_by n tokens x l r = is_read n tokens x (omega (arith, shallow x [], kinds_length tokens, ap length (is_spelled tokens x r))) r

  pub one_by : OneTree reads
  one_by tokens x y r s = some_is x y (sym (enough_by (length tokens) tokens x (omega arith) r) ∙ enough_by (length tokens) tokens y (omega arith) s)

-- ---- programs

pub reading_is_tree : ReadIsTree read_program Reads
reading_is_tree n tokens p e =
    let a = (program_sound n tokens).at p [] (whole_is _ p e) in
    record { spelled = a.here.spelled; formed = a.ok; lined = a.here.lined [] ∙ no_steps [] }

pub tree_is_read : TreeIsRead read_program program_depth Reads
tree_is_read n tokens p d r = whole_answer (program_complete p n r.formed d tokens [] [] (record { spelled = r.spelled; lined = r.lined }) refl)

pub enough_levels : EnoughLevelsForTrees read_program Reads
enough_levels = enough_by read_program program_depth (program_spelling in_kinds) Reads tree_is_read (λ tokens p r. r.spelled) program_length

pub one_tree : OneTree Reads
one_tree = one_by read_program program_depth (program_spelling in_kinds) Reads tree_is_read (λ tokens p r. r.spelled) program_length
