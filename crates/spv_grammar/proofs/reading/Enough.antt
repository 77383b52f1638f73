-- As many items as tokens are enough.
use Rattle.std.proofs.Common.{◌≡◌, ℕ, zero, suc, ◌<◌, ◌≤◌, List, [], ◌∷◌, Option, Some, None, length, refl, sym, ap, ◌∙◌, arith}
use Rattle.spv_tree.specs.declared.tokens.token.Token.{Token}
use Rattle.spv_grammar.specs.reading.Readers.{Outcome, Read, Halted, Reader, and_then, Next, items_by, items, all_items}
use Rattle.spv_grammar.proofs.reading.Sound.{OnItem}

-- each item has a token
pub record HasTokens {A : Type 0} (next : Next A) : Type 0 where
  pub none : next [] ≡ None
  pub item : (tokens : List Token) → OnItem (next tokens) (λ x rest. length rest < length tokens)

module _ {A L : Type 0} (none : L) (add : A → L → L) (next : Next A) (has_tokens : HasTokens next) where
  -- the same others behind an item
  by_same : (tokens : List Token) (one two : Reader L) (read : Option (Outcome A)) → ((x : A) (rest : List Token) → read ≡ Some (Read (x, rest)) → one rest ≡ two rest) → items_by none add one read tokens ≡ items_by none add two read tokens
  by_same tokens one two None h = refl
  by_same tokens one two (Some (Halted s)) h = refl
  by_same tokens one two (Some (Read r)) h = ap (λ o. and_then o (λ xs rest. Read (add r.0 xs, rest))) (h r.0 r.1 refl)

  none_left : (n : ℕ) → items none add next n [] ≡ Read (none, [])
  none_left zero = refl
  none_left (suc n) = ap (λ read. items_by none add (items none add next n) read []) has_tokens.none

  -- any two numbers of items that are enough give the same
  pub items_same : (n m : ℕ) (tokens : List Token) → length tokens ≤ n → length tokens ≤ m → items none add next n tokens ≡ items none add next m tokens
  items_same n m [] l k = none_left n ∙ sym (none_left m)
  items_same zero m (t ∷ tokens) l k = absurd (omega arith)
  items_same (suc n) zero (t ∷ tokens) l k = absurd (omega arith)
  items_same (suc n) (suc m) (t ∷ tokens) l k =
      by_same (t ∷ tokens) (items none add next n) (items none add next m) (next (t ∷ tokens)) (λ x rest e. items_same n m rest (omega (arith, (has_tokens.item (t ∷ tokens)).at x rest e)) (omega (arith, (has_tokens.item (t ∷ tokens)).at x rest e)))

  -- so what follows an item is read as it is by itself
  pub all_items_step : (tokens : List Token) → all_items none add next tokens ≡ items_by none add (all_items none add next) (next tokens) tokens
  all_items_step [] = sym (ap (λ read. items_by none add (all_items none add next) read []) has_tokens.none)
  all_items_step (t ∷ tokens) =
      by_same (t ∷ tokens) (items none add next (length tokens)) (all_items none add next) (next (t ∷ tokens)) (λ x rest e. items_same (length tokens) (length rest) rest (omega (arith, (has_tokens.item (t ∷ tokens)).at x rest e)) (omega arith))
