-- A small program, tokens that begin it, and tokens that begin none.
use Rattle.std.proofs.Common.{◌≡◌, List, [], ◌∷◌, None, refl}
use Rattle.spv_logic.specs.declared.names.names.Symbol.{Symbol}
use Rattle.spv_tree.specs.declared.tokens.token.TokenKind.{TokenKind}
use Rattle.spv_tree.specs.declared.tokens.token.TokenKind.TheVariants as kind
use Rattle.spv_tree.specs.declared.tokens.token.Word.TheVariants as word
use Rattle.spv_tree.specs.declared.tokens.token.Sign.TheVariants as sign
use Rattle.spv_tree.specs.declared.syntax.programs.Program.{Program}
use Rattle.spv_tree.specs.syntax.Statements.{empty, block, no_more_statements}
use Rattle.spv_tree.specs.syntax.Steps.{lines_agree}
use Rattle.spv_tree.specs.syntax.Reads.{Reads}
use Rattle.spv_grammar.specs.first_sets.Begins.{Begins, GoesWrongAt, with_token, at_end}
use Rattle.spv_grammar.specs.first_sets.Examples.{on_line, small_block, small_program, cut_off, without_name}

abbrev small_tree : Symbol → Program
small_tree x = record {
  line = 1;
  name = record { line = 1; symbol = x };
  files = None;
  declarations = record { line = 2; constants = []; types = []; variables = []; symbols = [] };
  routines = [];
  entry = None;
  exit = None;
  block = block 2 (empty 3) no_more_statements;
}

small_read : (x : Symbol) → Reads (small_program x) (small_tree x)
unfolding lines_agree
small_read x = record { spelled = refl; formed = refl; lined = refl }

pub whole_begins : (x : Symbol) → Begins Reads (small_program x)
whole_begins x = record { more = []; tree = small_tree x; read = small_read x }

pub nothing_begins : (x : Symbol) → Begins Reads []
nothing_begins x = record { more = small_program x; tree = small_tree x; read = small_read x }

-- where the tokens end too early
pub cut_off_wrong : (x : Symbol) → GoesWrongAt Reads (cut_off x) 2
cut_off_wrong x = at_end (cut_off x) (record { more = on_line 3 (kind.Word word.End) ∷ on_line 3 (kind.Sign sign.Period) ∷ []; tree = small_tree x; read = small_read x })

second_is : (k l m n : TokenKind) (ks ls : List TokenKind) → k ∷ l ∷ ks ≡ m ∷ n ∷ ls → l ≡ n
second_is k l m n ks ls e = cc

no_name : (x : Symbol) → kind.Word word.Begin ≡ kind.Name x → ⊥
no_name x e = absurd (cc (e))

-- where a token fits nothing
pub without_name_wrong : (x : Symbol) → GoesWrongAt Reads without_name 2
without_name_wrong x = with_token (on_line 1 (kind.Word word.Program) ∷ []) (on_line 2 (kind.Word word.Begin)) _ (record {
  right = record { more = on_line 1 (kind.Name x) ∷ on_line 1 (kind.Sign sign.Semicolon) ∷ small_block; tree = small_tree x; read = small_read x };
  wrong = λ b. no_name b.tree.name.symbol (second_is _ _ _ _ _ _ b.read.spelled);
})
