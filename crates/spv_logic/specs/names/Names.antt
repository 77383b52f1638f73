-- A table of names: different texts in upper case. The number of a name is its place in the list.
use Rattle.std.specs.Prelude.{◌≡◌, ◌≢◌, ℕ, ◌+◌, ◌*◌, ◌<◌, Bool, not, IsTrue, List, [], ◌∷◌, ◌++◌, ◌≤◌, if◌then◌else◌, length, nat_le, position, slice_index, Option, Some, All, AllPairs}
use Rattle.std.specs.BTreeMap.{BTreeMap, get_by}
use Rattle.std.specs.Char.{is_ascii_lowercase}
use Rattle.std.specs.Cmp.Lexicographic.{slice_cmp}
use Rattle.std.specs.List.{list_all, list_any, position_or_len}
use Rattle.std.specs.Ordering.{nat_cmp}
use Rattle.std.specs.Str.{bytes_eq, str_to_ascii_uppercase}

-- no byte of the text is one of the letters a to z
abbrev pub IsFolded : List ℕ → Type 0
IsFolded text = IsTrue (list_all (λ b. not (is_ascii_lowercase b)) text)

-- a text in upper case
abbrev pub folded : List ℕ → List ℕ
folded text = str_to_ascii_uppercase text

-- no text stands twice, each is in upper case, and each place is a number below 2147483648
pub record IsNameTable (texts : List (List ℕ)) : Type 0 where
  pub different : AllPairs (λ a b. a ≢ b) texts
  pub folded : All IsFolded texts
  pub few : length texts ≤ 2147483648

-- the place at which the text stands, or the length of the list where it stands nowhere
abbrev pub place_of : List (List ℕ) → List ℕ → ℕ
place_of texts text = position_or_len (bytes_eq text) texts

-- the list after the text is entered: a new one goes last
abbrev pub with_text : List (List ℕ) → List ℕ → List (List ℕ)
with_text texts text = if list_any (bytes_eq text) texts then texts else texts ++ text ∷ []

-- each item is a byte
pub record AreBytes (text : List ℕ) : Type 0 where
  pub each : (k : ℕ) → slice_index text k < 256

-- a text as one number: its bytes as digits, from the last one down to the first, behind a 1
abbrev pub packed : List ℕ → ℕ
packed [] = 1
packed (b ∷ text) = b + 256 * packed text

-- whether a text is found by that number
abbrev pub is_short : List ℕ → Bool
is_short text = nat_le (length text) 15

-- the number that two maps have for a text, one of them for short texts and one for the others
abbrev pub number_of : {K : Type 0} → (K → List ℕ) → BTreeMap ℕ ℕ → BTreeMap K ℕ → List ℕ → Option ℕ
number_of text_of short long text =
    if is_short text then get_by (nat_cmp (packed text)) short else get_by (λ k. slice_cmp nat_cmp text (text_of k)) long

-- for each text of a list the maps have its place, and for no other text any
pub record ArePlaces {K : Type 0} (text_of : K → List ℕ) (short : BTreeMap ℕ ℕ) (long : BTreeMap K ℕ) (texts : List (List ℕ)) : Type 0 where
  pub each : (text : List ℕ) → AreBytes text → number_of text_of short long text ≡ position (bytes_eq text) texts

-- the maps have this number for a text, and for each other text what they had
pub record PutsPlace {K : Type 0} (text_of : K → List ℕ) (short : BTreeMap ℕ ℕ) (long : BTreeMap K ℕ) (text : List ℕ) (place : ℕ) (short' : BTreeMap ℕ ℕ) (long' : BTreeMap K ℕ) : Type 0 where
  pub each : (other : List ℕ) → AreBytes other → number_of text_of short' long' other ≡ (if bytes_eq text other then Some place else number_of text_of short long other)
