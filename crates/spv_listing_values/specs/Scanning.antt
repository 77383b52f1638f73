-- Lines of words and terms, read byte by byte. Whatever the bytes are, there is an answer: who wants to know whether they are a listing prints what
-- was read and compares.
use Rattle.std.specs.Prelude.{ℕ, Bool, List, [], ◌∷◌, ◌++◌, Some, None, nat_eq, if◌then◌else◌, codes}
use Rattle.std.specs.List.{list_any}
use Rattle.std.specs.Str.{bytes_eq}
use Rattle.spv_listing_values.specs.Written.{Head, Applied, Written, Writtens, written, no_written, writtens, word}

-- what a byte is
pub data Class : Type 0 where
  Plain : Class
  Blank : Class
  Opening : Class
  Closing : Class
  Ending : Class

abbrev pub class_of : ℕ → Class
class_of b = if nat_eq b 32 then Blank else (if nat_eq b 40 then Opening else (if nat_eq b 41 then Closing else (if nat_eq b 10 then Ending else Plain)))

-- whether a name belongs to this word where it is applied
abbrev pub takes_name : List ℕ → Bool
takes_name text = list_any (bytes_eq text) (codes "FIELD" ∷ codes "PUT" ∷ codes "NIL" ∷ [])

-- what the next word is: an item, the word behind a bracket, or the name that belongs to that word
pub data Wanted : Type 0 where
  AnItem : Wanted
  AHead : Wanted
  ANameOf : List ℕ → Wanted

-- a term whose last bracket is still to come, with the arguments so far
pub record Group : Type 0 where
  pub head : Head
  pub args : List Written

-- what was read so far
pub record Scan : Type 0 where
  -- the word that is being read
  pub text : List ℕ
  pub wanted : Wanted
  -- the open terms, the innermost first
  pub groups : List Group
  -- the items of this line, and the lines before it
  pub items : List Written
  pub lines : List (List Written)

-- between two words
abbrev pub between : List Group → List Written → List (List Written) → Scan
between groups items lines = record { text = []; wanted = AnItem; groups = groups; items = items; lines = lines }

-- ---- what is there becomes part of what is around it

-- a term becomes an argument of the innermost open one, or else an item of the line
abbrev pub with_item : List Group → List Written → List (List Written) → Written → Scan
with_item [] items lines t = between [] (items ++ t ∷ []) lines
with_item (g ∷ groups) items lines t = between (record g { args = g.args ++ t ∷ [] } ∷ groups) items lines

-- a term begins
abbrev pub with_group : List Group → List Written → List (List Written) → Head → Scan
with_group groups items lines h = between (record { head = h; args = [] } ∷ groups) items lines

-- a word ends
abbrev pub with_word : Wanted → List Group → List Written → List (List Written) → List ℕ → Scan
with_word AnItem groups items lines text = with_item groups items lines (word text)
with_word AHead groups items lines text =
    if takes_name text then record { text = []; wanted = ANameOf text; groups = groups; items = items; lines = lines } else with_group groups items lines (Applied text None)
with_word (ANameOf head) groups items lines text = with_group groups items lines (Applied head (Some text))

-- the word that is being read ends, where there is one
abbrev pub settled : List ℕ → Scan → Scan
settled [] s = s
settled (b ∷ text) s = with_word s.wanted s.groups s.items s.lines (b ∷ text)

abbrev pub settle : Scan → Scan
settle s = settled s.text s

-- arguments in front of others
abbrev pub joined : List Written → Writtens → Writtens
joined [] ts = ts
joined (a ∷ args) ts = writtens a (joined args ts)

-- the innermost open term ends
abbrev pub closed : List Group → Scan → Scan
closed [] s = s
closed (g ∷ groups) s = with_item groups s.items s.lines (written g.head (joined g.args no_written))

abbrev pub close : Scan → Scan
close s = closed s.groups s

-- ---- bytes

abbrev pub act : Class → ℕ → Scan → Scan
act Plain b s = record s { text = s.text ++ b ∷ [] }
act Blank b s = settle s
act Opening b s = record (settle s) { wanted = AHead }
act Closing b s = close (settle s)
act Ending b s = between [] [] ((settle s).lines ++ (settle s).items ∷ [])

abbrev pub step : Scan → ℕ → Scan
step s b = act (class_of b) b s

abbrev pub run : Scan → List ℕ → Scan
run s [] = s
run s (b ∷ bytes) = run (step s b) bytes

-- the lines that end in these bytes
abbrev pub lines_in : List ℕ → List (List Written)
lines_in bytes = (run (between [] [] []) bytes).lines
