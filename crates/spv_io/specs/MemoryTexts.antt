-- Texts in memory, and the reads that fail.
use Rattle.std.specs.Prelude.{ℕ, ◌+◌, ◌==◌, List, [], ◌∷◌, length, Option, Some, None, is_none, Bool, ◌||◌, if◌then◌else◌, map, string_bytes, String, Vec}
use Rattle.std.specs.List.{list_any}
use Rattle.std.specs.Str.{bytes_eq}
use Rattle.std.specs.declared.alloc.Global.{Global}

-- each file's name and text, the numbers of the reads that fail, the names read so far and the count of faults
pub record TextsValue : Type 0 where
  pub files : List (List ℕ × List ℕ)
  pub fails : List ℕ
  pub asked : List (List ℕ)
  pub faults : ℕ

-- the names and texts as lists of bytes
abbrev pub files_of : List (String Global × Vec ℕ Global) → List (List ℕ × List ℕ)
files_of = map (λ file. (string_bytes file.0, file.1.items))

-- the text of the first file of that name
abbrev pub text_of : List (List ℕ × List ℕ) → List ℕ → Option (List ℕ)
text_of [] name = None
text_of (file ∷ files) name = if bytes_eq file.0 name then Some file.1 else text_of files name

-- the next read fails: its number is listed, or no file has the name
abbrev pub read_fails : TextsValue → List ℕ → Bool
read_fails texts name = list_any (λ number. number == length texts.asked + 1) texts.fails || is_none (text_of texts.files name)
