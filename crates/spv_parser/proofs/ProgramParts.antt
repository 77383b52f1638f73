-- A program up to its main block.
use Rattle.std.proofs.Common.{true, ◌≡◌, ℕ, List, ap, ◌∙◌, rules}
use Rattle.std.specs.Prelude.{Option}
use Rattle.spv_tree.specs.declared.tokens.token.Token.{Token}
use Rattle.spv_tree.specs.declared.tokens.token.TokenKind.TheVariants as kind
use Rattle.spv_tree.specs.declared.tokens.token.Word.TheVariants as word
use Rattle.spv_tree.specs.declared.tokens.token.Sign.TheVariants as sign
use Rattle.spv_tree.specs.declared.syntax.lists.Several.{Several}
use Rattle.spv_tree.specs.declared.syntax.names.Name.{Name}
use Rattle.spv_tree.specs.declared.syntax.declarations.Declarations.{Declarations}
use Rattle.spv_tree.specs.declared.syntax.routines.RoutineMark.{RoutineMark}
use Rattle.spv_tree.specs.declared.syntax.programs.Program.{Program}
use Rattle.spv_tree.specs.syntax.Formulas.{Formula}
use Rattle.spv_tree.specs.syntax.Steps.{first_line}
use Rattle.spv_grammar.specs.reading.Readers.{Stop, Outcome, Read, Halted, front, after, is, and_then, name, ended}
use Rattle.spv_grammar.specs.reading.StatementReaders.{read_block}
use Rattle.spv_grammar.specs.reading.DeclarationReaders.{read_declarations}
use Rattle.spv_grammar.specs.reading.RoutineReaders.{read_files, read_routines, read_condition, read_program}

-- where a part is not read, nothing is that begins with it
pub none_behind : {A B : Type 0} {s : Stop} {o : Outcome A} (next : A → List Token → Outcome B) → o ≡ Halted s → and_then o next ≡ Halted s
none_behind next e = ap (λ o. and_then o next) e

-- what is read behind ENTRY, in a program with these parts
abbrev pub behind_entry : ℕ → List Token → Name → Option (Several Name) → Declarations → List RoutineMark → Option Formula → Outcome (Option Formula) → Outcome Program
behind_entry n tokens x files d rs entry o =
    and_then o (λ exit eight. and_then (ended (kind.Sign sign.Period) (read_block n) eight) (λ b rest. Read (record { line = first_line tokens; name = x; files = files; declarations = d; routines = rs; entry = entry; exit = exit; block = b }, rest)))

module _ (n : ℕ) (tokens : List Token) {one two three four five six seven : List Token} {x : Name} {files : Option (Several Name)} {d : Declarations} {rs : List RoutineMark} {entry : Option Formula} (begins : is (kind.Word word.Program) (front tokens) ≡ true) (behind : one ≡ after tokens) (named : name one ≡ Read (x, two)) (listed : read_files two ≡ Read (files, three)) (ends : is (kind.Sign sign.Semicolon) (front three) ≡ true) (next : four ≡ after three) (declared : read_declarations n four ≡ Read (d, five)) (marked : read_routines n five ≡ Read (rs, six)) (entered : read_condition n (kind.Word word.Entry) six ≡ Read (entry, seven)) where
  -- what is read is what EXIT and the main block make of it
  pub up_to_entry : read_program n tokens ≡ behind_entry n tokens x files d rs entry (read_condition n (kind.Word word.Exit) seven)
  up_to_entry = search rules

  -- what is read is what the main block makes of it
  pub up_to_exit : {exit : Option Formula} {eight : List Token} → read_condition n (kind.Word word.Exit) seven ≡ Read (exit, eight) → read_program n tokens ≡ behind_entry n tokens x files d rs entry (Read (exit, eight))
  up_to_exit e = up_to_entry ∙ ap (behind_entry n tokens x files d rs entry) e
