-- The reading of a text is that of its front, and then of what stands behind it.
use Rattle.std.proofs.Common.{◌≡◌, ◌<◌, ◌≤◌, ℕ, zero, suc, List, [], ◌∷◌, Some, length, drop, refl, sym, ap, ◌∙◌, arith}
use Rattle.std.proofs.lemmas.List.{length-drop}
use Rattle.spv_lexer.specs.Spelling.{Spelling}
use Rattle.spv_lexer.specs.Front.{Fault, Front, nothing, gap, token, fault, front}
use Rattle.spv_lexer.specs.Reading.{Reading, empty_reading, with_token, line_after, by_front, pieces, reading_from}
use Rattle.spv_lexer.proofs.Sizes.{FitsIn, front_fits}

-- two ways to read what stands behind the front
by_front-same : (f g : ℕ → List ℕ → Reading) (line : ℕ) (text : List ℕ) (F : Front) → FitsIn (length text) F
    → ((l k : ℕ) → 0 < k → k ≤ length text → f l (drop k text) ≡ g l (drop k text)) → by_front f line text F ≡ by_front g line text F
unfolding by_front
by_front-same f g line text nothing size same = refl
by_front-same f g line text (gap k) size same = same (line_after line k text) k size.0 size.1
by_front-same f g line text (token kind k) size same = ap (with_token (record { kind = kind; line = line })) (same (line_after line k text) k size.0 size.1)
by_front-same f g line text (fault x) size same = refl

-- an empty text is read as nothing
by_front-nothing : (f : ℕ → List ℕ → Reading) (line : ℕ) → by_front f line [] (front []) ≡ empty_reading
unfolding by_front front
by_front-nothing f line = refl

-- as many pieces as bytes are enough
pieces-enough : (n m line : ℕ) (text : List ℕ) → length text ≤ n → length text ≤ m → pieces n line text ≡ pieces m line text
unfolding pieces
pieces-enough zero zero line text p q = refl
pieces-enough zero (suc m) line [] p q = sym (by_front-nothing (pieces m) line)
pieces-enough zero (suc m) line (b ∷ text) p q = absurd (omega arith)
pieces-enough (suc n) zero line [] p q = by_front-nothing (pieces n) line
pieces-enough (suc n) zero line (b ∷ text) p q = absurd (omega arith)
pieces-enough (suc n) (suc m) line text p q =
    by_front-same (pieces n) (pieces m) line text (front text) (front_fits text)
    (λ l k some within. pieces-enough n m l (drop k text) (omega (arith, length-drop k text)) (omega (arith, length-drop k text)))

-- the reading by the front
pub reading-front : (line : ℕ) (text : List ℕ) → reading_from line text ≡ by_front reading_from line text (front text)
unfolding reading_from pieces
reading-front line [] = sym (by_front-nothing reading_from line)
reading-front line (b ∷ text) =
    by_front-same (pieces (length text)) reading_from line (b ∷ text) (front (b ∷ text)) (front_fits (b ∷ text))
    (λ l k some within. pieces-enough (length text) (length (drop k (b ∷ text))) l (drop k (b ∷ text)) (omega (arith, length-drop k (b ∷ text))) (omega arith))

-- an empty text
pub reading-empty : (line : ℕ) → reading_from line [] ≡ empty_reading
unfolding reading_from pieces
reading-empty line = refl

module _ (line : ℕ) (text : List ℕ) (k : ℕ) where
  -- a gap is passed over
  pub reading-gap : front text ≡ gap k → reading_from line text ≡ reading_from (line_after line k text) (drop k text)
  unfolding by_front
  reading-gap is = reading-front line text ∙ ap (by_front reading_from line text) is

  -- a token comes first
  pub reading-token : (kind : Spelling) → front text ≡ token kind k
      → reading_from line text ≡ with_token (record { kind = kind; line = line }) (reading_from (line_after line k text) (drop k text))
  unfolding by_front
  reading-token kind is = reading-front line text ∙ ap (by_front reading_from line text) is

-- a fault ends it
pub reading-fault : (line : ℕ) (text : List ℕ) (f : Fault) → front text ≡ fault f → reading_from line text ≡ record { tokens = []; stop = Some (f, line) }
unfolding by_front
reading-fault line text f is = reading-front line text ∙ ap (by_front reading_from line text) is

-- where nothing is left, it is over
pub reading-nothing : (line : ℕ) (text : List ℕ) → front text ≡ nothing → reading_from line text ≡ empty_reading
unfolding by_front
reading-nothing line text is = reading-front line text ∙ ap (by_front reading_from line text) is
