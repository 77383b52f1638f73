-- When a text has a tree, and which fault it has where it has none. `reads` says when tokens have a tree of one kind.
use Rattle.std.specs.Prelude.{◌≡◌, ℕ, ◌<◌, ◌≤◌, List, None, length, take}
use Rattle.spv_tree.specs.declared.tokens.token.Token.{Token}
use Rattle.spv_lexer.specs.Reading.{reading, HasTokens}
use Rattle.spv_lexer.specs.Tokens.{numbered, names_after}
use Rattle.spv_lexer.specs.Tokens as lexer
use Rattle.spv_lexer.specs.declared.LexFault.{LexFault}
use Rattle.spv_lexer.specs.declared.LexFault.TheVariants.{TextTooLong, Memory}
use Rattle.spv_parser.specs.Causes.{IsAllowed, HasTreeCause}
use Rattle.spv_parser.specs.declared.language.fault.LanguageFault.{LanguageFault}
use Rattle.spv_parser.specs.declared.language.fault.LanguageFault.TheVariants.{Tokens, Tree}

-- as many bytes as a text may have
abbrev pub longest_text : ℕ
longest_text = 4194304

-- the text is not longer
abbrev pub IsShort : List ℕ → Type 0
IsShort text = length text ≤ longest_text

-- the text is short enough, and there is no fault in its tokens and gaps
pub record IsCut (text : List ℕ) : Type 0 where
  pub short : IsShort text
  pub read : HasTokens text

-- the tokens of a text, with its names by their numbers behind the names that were there
abbrev pub tokens_of : List (List ℕ) → List ℕ → List Token
tokens_of names text = numbered names (reading text).tokens

-- the names that were there, and behind them those of the text in the order in which they first stand in it
abbrev pub names_with : List (List ℕ) → List ℕ → List (List ℕ)
names_with names text = names_after names (reading text).tokens

-- the same of some first tokens of the text
abbrev pub AreNamesOfSome : List (List ℕ) → List ℕ → List (List ℕ) → Type 0
AreNamesOfSome names text new = (k : ℕ) × (new ≡ names_after names (take k (reading text).tokens))

-- the text has this tree
pub record IsTreeOf {A : Type 0} (reads : List Token → A → Type 0) (names : List (List ℕ)) (text : List ℕ) (tree : A) : Type 0 where
  pub cut : IsCut text
  pub allowed : IsAllowed (tokens_of names text)
  pub is_tree : reads (tokens_of names text) tree

-- the text is too long, or short enough for another fault of its tokens
abbrev pub HasLengthFor : LexFault → List ℕ → Type 0
HasLengthFor TextTooLong text = longest_text < length text
HasLengthFor Memory text = Unit {0}
HasLengthFor _ text = IsShort text

-- the text has no tree, for this fault; a text that no tree reads goes wrong at the line that is told, and want of memory has no cause
abbrev pub IsFaultOf : {A : Type 0} → (List Token → A → Type 0) → List (List ℕ) → List ℕ → LanguageFault → Type 0
IsFaultOf reads names text (Tokens fault) = HasLengthFor fault text × lexer.HasTextCause text fault
IsFaultOf reads names text (Tree fault) = IsCut text × HasTreeCause reads (tokens_of names text) fault

-- two trees of one text are equal
abbrev pub TextsHaveOneTree : {A : Type 0} → (List Token → A → Type 0) → Type 0
TextsHaveOneTree {A} reads = (names : List (List ℕ)) (text : List ℕ) (x y : A) → IsTreeOf reads names text x → IsTreeOf reads names text y → x ≡ y
