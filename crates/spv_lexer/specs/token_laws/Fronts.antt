-- What stands at the front of a text, said of the text itself.
use Rattle.std.specs.Prelude.{◌≡◌, ◌⊎◌, ℕ, Bool, false, List, [], ◌∷◌, ◌++◌, codes, IsTrue}
use Rattle.spv_lexer.specs.Front.{is_blank}

-- whether a text goes on with a byte that passes
abbrev pub goes_on : (ℕ → Bool) → List ℕ → Bool
goes_on p [] = false
goes_on p (b ∷ text) = p b

pub record IsBlank (text : List ℕ) : Type 0 where
  pub byte : ℕ
  pub alone : text ≡ byte ∷ []
  pub blank : IsTrue (is_blank byte)

-- an opening sign, a body, and the closing sign, which stands behind the opening one nowhere but at the end
pub record IsComment (opening closing text : List ℕ) : Type 0 where
  pub body : List ℕ
  pub parts : text ≡ opening ++ (body ++ closing)
  pub only_at_end : (before after : List ℕ) → body ++ closing ≡ before ++ (closing ++ after) → after ≡ []

-- one blank, or a whole comment of one of the two kinds
abbrev pub IsBetween : List ℕ → Type 0
IsBetween text = IsBlank text ⊎ IsComment (codes "{") (codes "}") text ⊎ IsComment (codes "(*") (codes "*)") text
