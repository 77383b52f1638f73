-- Terms as they are written: words, alone or applied to terms.
use Rattle.std.specs.Prelude.{ℕ, List, [], ◌∷◌, ◌++◌, Option, Some, None}

-- a word that stands alone, or one that is applied, with the name that belongs to it where it has one
pub data Head : Type 0 where
  Alone : List ℕ → Head
  Applied : List ℕ → Option (List ℕ) → Head

mutual
  -- a head over its arguments
  pub data Written : Type 0 where
    written : Head → Writtens → Written

  pub data Writtens : Type 0 where
    no_written : Writtens
    writtens : Written → Writtens → Writtens

-- a word that stands alone
abbrev pub word : List ℕ → Written
word text = written (Alone text) no_written

-- ---- their bytes

-- the name behind a blank, where there is one
abbrev pub name_bytes : Option (List ℕ) → List ℕ
name_bytes None = []
name_bytes (Some name) = 32 ∷ name

abbrev mutual
  -- a word, or in brackets a word, its name and its arguments
  pub written_bytes : Written → List ℕ
  written_bytes (written (Alone text) ts) = text
  written_bytes (written (Applied text name) ts) = 40 ∷ (text ++ (name_bytes name ++ argument_bytes ts))

  -- arguments, each behind a blank, and the bracket
  pub argument_bytes : Writtens → List ℕ
  argument_bytes no_written = 41 ∷ []
  argument_bytes (writtens t ts) = 32 ∷ (written_bytes t ++ argument_bytes ts)

-- ---- lines

-- what is left of a line: each item behind a blank, and the line's end
abbrev pub rest_bytes : List Written → List ℕ
rest_bytes [] = 10 ∷ []
rest_bytes (t ∷ ts) = 32 ∷ (written_bytes t ++ rest_bytes ts)

-- a line: its items with a blank between two, and its end
abbrev pub line_bytes : List Written → List ℕ
line_bytes [] = 10 ∷ []
line_bytes (t ∷ ts) = written_bytes t ++ rest_bytes ts
