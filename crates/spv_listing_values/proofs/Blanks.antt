-- Lines as what is put behind one another.
use Rattle.std.proofs.Common.{◌≡◌, ℕ, List, [], ◌∷◌, ◌++◌, refl, sym, ap, ◌∙◌, append_assoc, append-nil}
use Rattle.std.proofs.lemmas.Grind.{flat_map-append}
use Rattle.spv_listing_values.specs.Written.{Written, written_bytes, rest_bytes, line_bytes, word}
use Rattle.spv_listing_values.specs.Blanks.{blank_item, blanks, lines_bytes}

rest_is : (ts : List Written) → blanks ts ++ 10 ∷ [] ≡ rest_bytes ts
rest_is [] = refl
rest_is (t ∷ ts) = ap (λ (x : List ℕ). 32 ∷ x) (append_assoc (written_bytes t) (blanks ts) (10 ∷ []) ∙ ap (λ (x : List ℕ). written_bytes t ++ x) (rest_is ts))

-- a line that begins with a word
pub line_is : (out first : List ℕ) (ts : List Written) → ((out ++ first) ++ blanks ts) ++ 10 ∷ [] ≡ out ++ line_bytes (word first ∷ ts)
line_is out first ts =
    append_assoc (out ++ first) (blanks ts) (10 ∷ []) ∙ (append_assoc out first (blanks ts ++ 10 ∷ []) ∙ ap (λ (x : List ℕ). out ++ (first ++ x)) (rest_is ts))

-- a line that begins with a word and an item, in front of others
pub line_with : (out first a b c new : List ℕ) (t : Written) (ts : List Written) → a ≡ out ++ first → b ≡ a ++ blanks (t ∷ []) → c ≡ b ++ blanks ts → new ≡ c ++ 10 ∷ []
    → new ≡ out ++ line_bytes (word first ∷ t ∷ ts)
line_with out first a b c new t ts e f g h =
    h
    ∙ (ap (λ (l : List ℕ). l ++ 10 ∷ []) (g ∙ (ap (λ (l : List ℕ). l ++ blanks ts) (f ∙ ap (λ (l : List ℕ). l ++ blanks (t ∷ [])) e) ∙ (append_assoc (out ++ first) (blanks (t ∷ [])) (blanks ts) ∙ ap (λ (l : List ℕ). (out ++ first) ++ l) joined)))
    ∙ line_is out first (t ∷ ts))
  where
    joined : blanks (t ∷ []) ++ blanks ts ≡ blanks (t ∷ ts)
    joined = append_assoc (blank_item t) [] (blanks ts)

-- an item behind words, at the end of what is there
pub item_behind : (out words item mid new : List ℕ) → mid ≡ out ++ words → new ≡ mid ++ item → new ≡ out ++ (words ++ (item ++ []))
item_behind out words item mid new e f =
    f ∙ (ap (λ (l : List ℕ). l ++ item) e ∙ (append_assoc out words item ∙ ap (λ (l : List ℕ). out ++ (words ++ l)) (sym (append-nil item))))

-- lines of three kinds behind a first one
pub three_more : (out first d a b new : List ℕ) (ls ms ns : List (List Written)) → d ≡ out ++ first → a ≡ d ++ lines_bytes ls → b ≡ a ++ lines_bytes ms → new ≡ b ++ lines_bytes ns
    → new ≡ out ++ (first ++ lines_bytes (ls ++ (ms ++ ns)))
three_more out first d a b new ls ms ns e f g h =
    h
    ∙ (ap (λ (l : List ℕ). l ++ lines_bytes ns) (g ∙ ap (λ (l : List ℕ). l ++ lines_bytes ms) (f ∙ ap (λ (l : List ℕ). l ++ lines_bytes ls) e))
    ∙ (nested out first (lines_bytes ls) (lines_bytes ms) (lines_bytes ns) ∙ ap (λ (l : List ℕ). out ++ (first ++ l)) (sym all)))
  where
    nested : (o x l m n : List ℕ) → (((o ++ x) ++ l) ++ m) ++ n ≡ o ++ (x ++ (l ++ (m ++ n)))
    nested o x l m n = simp (append_assoc) refl

    all : lines_bytes (ls ++ (ms ++ ns)) ≡ lines_bytes ls ++ (lines_bytes ms ++ lines_bytes ns)
    all = flat_map-append line_bytes ls (ms ++ ns) ∙ ap (λ (l : List ℕ). lines_bytes ls ++ l) (flat_map-append line_bytes ms ns)
