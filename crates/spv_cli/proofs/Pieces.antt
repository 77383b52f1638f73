-- A text that is made piece by piece.
use Rattle.std.proofs.Common.{◌≡◌, ◌∙◌, ℕ, zero, suc, ◌+◌, List, [], ◌∷◌, ◌++◌, map, take, Some, sym, ap, arith}
use Rattle.std.specs.Prelude.{slice_get}
use Rattle.std.specs.List.{flat_map}
use Rattle.std.proofs.lemmas.List.{append-nil, append_assoc}

behind : (old x y : List ℕ) {m n : List ℕ} → m ≡ old ++ x → n ≡ m ++ y → n ≡ old ++ (x ++ y)
behind old x y so_far more = more ∙ ap (λ l. l ++ y) so_far ∙ append_assoc old x y

pub three : (old a b c : List ℕ) {l m n : List ℕ} → l ≡ old ++ a → m ≡ l ++ b → n ≡ m ++ c → n ≡ old ++ ((a ++ b) ++ c)
three old a b c first second third = behind old (a ++ b) c (behind old a b first second) third

pub five : (old a b c d e : List ℕ) {l m n o p : List ℕ} → l ≡ old ++ a → m ≡ l ++ b → n ≡ m ++ c → o ≡ n ++ d → p ≡ o ++ e → p ≡ old ++ ((((a ++ b) ++ c) ++ d) ++ e)
five old a b c d e first second third fourth fifth =
    behind old (((a ++ b) ++ c) ++ d) e (behind old ((a ++ b) ++ c) d (three old a b c first second third) fourth) fifth

pub seven : (old a b c d e f g : List ℕ) {l m n o p q r : List ℕ} → l ≡ old ++ a → m ≡ l ++ b → n ≡ m ++ c → o ≡ n ++ d → p ≡ o ++ e → q ≡ p ++ f → r ≡ q ++ g
    → r ≡ old ++ ((((((a ++ b) ++ c) ++ d) ++ e) ++ f) ++ g)
seven old a b c d e f g first second third fourth fifth sixth seventh =
    behind old (((((a ++ b) ++ c) ++ d) ++ e) ++ f) g (behind old ((((a ++ b) ++ c) ++ d) ++ e) f (five old a b c d e first second third fourth fifth) sixth) seventh

-- ---- the text of each item

flat_next : {X Y : Type 0} (f : Y → List ℕ) (g : X → Y) (all : List X) (i : ℕ) (x : X) → slice_get all i ≡ Some x → flat_map f (map g (take (suc i) all)) ≡ flat_map f (map g (take i all)) ++ f (g x)
flat_next f g [] i x at = cc
flat_next f g (y ∷ all) zero x at = let same : y ≡ x = cc in append-nil (f (g y)) ∙ ap (λ z. f (g z)) same
flat_next f g (y ∷ all) (suc i) x at = ap (λ l. f (g y) ++ l) (flat_next f g all i x at) ∙ sym (append_assoc (f (g y)) (flat_map f (map g (take i all))) (f (g x)))

pub flat_more : {X Y : Type 0} (f : Y → List ℕ) (g : X → Y) (all : List X) (i : ℕ) (x : X) (old : List ℕ) {mid new : List ℕ} → slice_get all i ≡ Some x → mid ≡ old ++ flat_map f (map g (take i all))
    → new ≡ mid ++ f (g x) → new ≡ old ++ flat_map f (map g (take (i + 1) all))
flat_more f g all i x old {mid} {new} at so_far more =
    more
    ∙ ap (λ l. l ++ f (g x)) so_far
    ∙ append_assoc old (flat_map f (map g (take i all))) (f (g x))
    ∙ ap (λ l. old ++ l) (sym (flat_next f g all i x at))
    ∙ ap (λ k. old ++ flat_map f (map g (take k all))) (next i)
  where
    next : (i : ℕ) → suc i ≡ i + 1
    next i = grind (arith)
