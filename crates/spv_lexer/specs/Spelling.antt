-- The words and signs of the language as they are spelled.
use Rattle.std.specs.Prelude.{ℕ, List, [], ◌∷◌, codes, option_map, unwrap_or}
use Rattle.std.specs.Map.{lookup}
use Rattle.std.specs.Str.{bytes_eq}
use Rattle.spv_tree.specs.declared.tokens.token.Word.{Word}
use Rattle.spv_tree.specs.declared.tokens.token.Word.TheVariants.{And, Array, Assert, Begin, By, Case, Const, Declare, Div, Do, Downto, Else, End, Entry, Exit, False, For, Forward, From, Function, Global, If, Infer, Initial, Invariant, Mod, New, Nil, Not, Of, Or, Procedure, Program, Record, Repeat, Replace, Then, To, True, «Type», Until, Var, Where, While, Packed, Set, File, With, In, Goto, Label}
use Rattle.spv_tree.specs.declared.tokens.token.Sign.{Sign}
use Rattle.spv_tree.specs.declared.tokens.token.Sign.TheVariants.{Plus, Minus, Star, Equal, NotEqual, Less, AtMost, Greater, AtLeast, OpenParenthesis, CloseParenthesis, OpenBracket, CloseBracket, Comma, Semicolon, Colon, Becomes, Period, Range, Caret, Hash, Arrow}

-- what a token is, with the text of a name in place of its number
pub data Spelling : Type 0 where
  word : Word → Spelling
  name : List ℕ → Spelling
  number : ℕ → Spelling
  sign : Sign → Spelling

-- the words, in upper case
abbrev pub words : List (List ℕ × Word)
words =
    (codes "AND", And) ∷ (codes "ARRAY", Array) ∷ (codes "ASSERT", Assert) ∷ (codes "BEGIN", Begin) ∷ (codes "BY", By)
    ∷ (codes "CASE", Case) ∷ (codes "CONST", Const) ∷ (codes "DECLARE", Declare) ∷ (codes "DIV", Div) ∷ (codes "DO", Do)
    ∷ (codes "DOWNTO", Downto) ∷ (codes "ELSE", Else) ∷ (codes "END", End) ∷ (codes "ENTRY", Entry) ∷ (codes "EXIT", Exit)
    ∷ (codes "FALSE", False) ∷ (codes "FOR", For) ∷ (codes "FORWARD", Forward) ∷ (codes "FROM", From) ∷ (codes "FUNCTION", Function)
    ∷ (codes "GLOBAL", Global) ∷ (codes "IF", If) ∷ (codes "INFER", Infer) ∷ (codes "INITIAL", Initial) ∷ (codes "INVARIANT", Invariant)
    ∷ (codes "MOD", Mod) ∷ (codes "NEW", New) ∷ (codes "NIL", Nil) ∷ (codes "NOT", Not) ∷ (codes "OF", Of)
    ∷ (codes "OR", Or) ∷ (codes "PROCEDURE", Procedure) ∷ (codes "PROGRAM", Program) ∷ (codes "RECORD", Record) ∷ (codes "REPEAT", Repeat)
    ∷ (codes "REPLACE", Replace) ∷ (codes "THEN", Then) ∷ (codes "TO", To) ∷ (codes "TRUE", True) ∷ (codes "TYPE", «Type»)
    ∷ (codes "UNTIL", Until) ∷ (codes "VAR", Var) ∷ (codes "WHERE", Where) ∷ (codes "WHILE", While)
    ∷ (codes "PACKED", Packed) ∷ (codes "SET", Set) ∷ (codes "FILE", File) ∷ (codes "WITH", With) ∷ (codes "IN", In)
    ∷ (codes "GOTO", Goto) ∷ (codes "LABEL", Label) ∷ []

-- the signs of two bytes
abbrev pub long_signs : List (List ℕ × Sign)
long_signs =
    (codes "<>", NotEqual) ∷ (codes "<=", AtMost) ∷ (codes ">=", AtLeast) ∷ (codes ":=", Becomes) ∷ (codes "..", Range) ∷ (codes "->", Arrow) ∷ []

-- the signs of one byte
abbrev pub short_signs : List (List ℕ × Sign)
short_signs =
    (codes "+", Plus) ∷ (codes "-", Minus) ∷ (codes "*", Star) ∷ (codes "=", Equal) ∷ (codes "<", Less) ∷ (codes ">", Greater)
    ∷ (codes "(", OpenParenthesis) ∷ (codes ")", CloseParenthesis) ∷ (codes "[", OpenBracket) ∷ (codes "]", CloseBracket)
    ∷ (codes ",", Comma) ∷ (codes ";", Semicolon) ∷ (codes ":", Colon) ∷ (codes ".", Period) ∷ (codes "^", Caret) ∷ (codes "#", Hash) ∷ []

-- a text in upper case of letters and digits is a word if it is one of the words, and else a name
abbrev pub word_or_name : List ℕ → Spelling
word_or_name text = unwrap_or (option_map word (lookup (bytes_eq text) words)) (name text)
