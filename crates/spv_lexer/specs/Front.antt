-- What stands at the front of a text: by cases on its first bytes, and with no state.
use Rattle.std.specs.Prelude.{ℕ, Bool, suc, ◌+◌, ◌-◌, ◌*◌, ◌==◌, ◌||◌, List, [], ◌∷◌, Option, Some, None, codes, if◌then◌else◌, length, take, drop, fold, take_while, nat_eq, nat_le}
use Rattle.std.specs.Char.{is_ascii_alphabetic, is_ascii_alphanumeric, is_ascii_digit}
use Rattle.std.specs.List.{starts_with}
use Rattle.std.specs.Map.{lookup}
use Rattle.std.specs.Option.{option_map, option_map_or}
use Rattle.std.specs.Str.{bytes_eq}
use Rattle.spv_logic.specs.names.Names.{folded}
use Rattle.spv_lexer.specs.Spelling.{Spelling, number, sign, word_or_name, long_signs, short_signs}

-- why a text is refused at its front
pub data Fault : Type 0 where
  bad_byte : Fault
  open_comment : Fault
  numeral_too_large : Fault

-- the end of the text; a blank or a whole comment, with its length; a token, with its length; or a fault
pub data Front : Type 0 where
  nothing : Front
  gap : ℕ → Front
  token : Spelling → ℕ → Front
  fault : Fault → Front

-- space, tab, line feed and carriage return
abbrev pub is_blank : ℕ → Bool
is_blank b = b == 32 || b == 9 || b == 10 || b == 13

-- how many bytes there are to the end of the first place where the sign stands
abbrev pub through : List ℕ → List ℕ → Option ℕ
through closing [] = None
through closing (b ∷ text) =
    if starts_with nat_eq (b ∷ text) closing then Some (length closing) else option_map suc (through closing text)

-- a comment goes on to the first closing sign of its own kind behind the opening one
unfoldable pub comment : List ℕ → List ℕ → List ℕ → Front
comment opening closing text =
    option_map_or (λ k. gap (length opening + k)) (through closing (drop (length opening) text)) (fault open_comment)

-- a row of letters and digits, in upper case, is a word or a name
unfoldable pub letters : List ℕ → Front
letters run = token (word_or_name (folded run)) (length run)

-- the number that a row of digits spells
abbrev pub decimal : List ℕ → ℕ
decimal digits = fold (λ n d. 10 * n + (d - 48)) 0 digits

-- a row of digits
unfoldable pub numeral : List ℕ → Front
numeral digits =
    if nat_le (decimal digits) 9223372036854775807 then token (number (decimal digits)) (length digits) else fault numeral_too_large

-- the longest sign that stands there: one of two bytes, and else one of one byte
unfoldable pub longest_sign : List ℕ → Front
longest_sign text =
    option_map_or (λ s. token (sign s) 2) (lookup (bytes_eq (take 2 text)) long_signs)
    (option_map_or (λ s. token (sign s) 1) (lookup (bytes_eq (take 1 text)) short_signs) (fault bad_byte))

-- what stands at the front
unfoldable pub front : List ℕ → Front
front [] = nothing
front (b ∷ rest) =
    if is_blank b then gap 1
    else if is_ascii_alphabetic b then letters (take_while is_ascii_alphanumeric (b ∷ rest))
    else if is_ascii_digit b then numeral (take_while is_ascii_digit (b ∷ rest))
    else if starts_with nat_eq (b ∷ rest) (codes "{") then comment (codes "{") (codes "}") (b ∷ rest)
    else if starts_with nat_eq (b ∷ rest) (codes "(*") then comment (codes "(*") (codes "*)") (b ∷ rest)
    else longest_sign (b ∷ rest)
