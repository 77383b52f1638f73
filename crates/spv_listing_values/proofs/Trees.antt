-- The term at a place is what stands there over the terms at its arguments' places.
use Rattle.std.proofs.Common.{◌≡◌, ℕ, zero, suc, ◌+◌, ◌<◌, ◌≤◌, List, [], ◌∷◌, ◌++◌, length, get_or, refl, sym, ap, subst, ◌∙◌, add-zero, zero-add, arith, length-append}
use Rattle.std.proofs.Math.ListN.{get_or-append}
use Rattle.std.proofs.Math.Seq.{get_or-append_seam}
use Rattle.spv_listing_values.specs.declared.texts.Text.{Text}
use Rattle.spv_listing_values.specs.Written.{Written, Writtens, written, writtens, word}
use Rattle.spv_listing_values.specs.Places.{Flat, no_flat, flat_in, AreBefore, AreOrdered, IsTable, at, args_at, tree_of, trees_behind, trees, tree}
use Rattle.spv_listing_values.specs.Waiting.{AreIn}

length_more : (terms : List Written) (t : Written) → length (terms ++ t ∷ []) ≡ suc (length terms)
length_more terms t = omega (arith, length-append terms (t ∷ []))

-- terms in front stay
pub stays : (fs : List Flat) (terms : List Written) (k : ℕ) (d : Written) → k < length terms → get_or (trees_behind terms fs) k d ≡ get_or terms k d
stays [] terms k d h = refl
stays (f ∷ fs) terms k d h =
    let more = length_more terms (tree_of terms f) in
    stays fs (terms ++ tree_of terms f ∷ []) k d (omega (arith, more)) ∙ get_or-append terms (tree_of terms f ∷ []) d k h

args_stay : (fs : List Flat) (terms : List Written) (args : List Text) → AreBefore (length terms) args → args_at (trees_behind terms fs) args ≡ args_at terms args
args_stay fs terms [] h = refl
args_stay fs terms (a ∷ args) h =
    ap (λ (t : Written). writtens t (args_at (trees_behind terms fs) args)) (stays fs terms a.0 (word []) h.0)
    ∙ ap (λ (ts : Writtens). writtens (at terms a) ts) (args_stay fs terms args h.1)

last_term : (fs : List Flat) (terms : List Written) (t : Written) → get_or (trees_behind (terms ++ t ∷ []) fs) (length terms) (word []) ≡ t
last_term fs terms t =
    let more = length_more terms t in
    stays fs (terms ++ t ∷ []) (length terms) (word []) (omega (arith, more)) ∙ get_or-append_seam terms t [] (word [])

tree_at : (fs : List Flat) (terms : List Written) (k : ℕ) → AreOrdered (length terms) fs → k < length fs
    → get_or (trees_behind terms fs) (length terms + k) (word []) ≡ tree_of (trees_behind terms fs) (get_or fs k no_flat)
tree_at [] terms k ordered h = absurd (omega (arith, h))
tree_at (f ∷ fs) terms zero ordered h =
    ap (λ (n : ℕ). get_or (trees_behind (terms ++ tree_of terms f ∷ []) fs) n (word [])) (add-zero (length terms))
    ∙ (last_term fs terms (tree_of terms f) ∙ ap (λ (ts : Writtens). written f.head ts) (sym (args_stay (f ∷ fs) terms f.args ordered.0)))
tree_at (f ∷ fs) terms (suc k) ordered h =
    let more = length_more terms (tree_of terms f) in
    let place : length terms + suc k ≡ length (terms ++ tree_of terms f ∷ []) + k = omega (arith, more) in
    ap (λ (n : ℕ). get_or (trees_behind (terms ++ tree_of terms f ∷ []) fs) n (word [])) place
    ∙ tree_at fs (terms ++ tree_of terms f ∷ []) k (subst (λ (n : ℕ). AreOrdered n fs) (sym more) ordered.1) (omega (arith, h))

pub tree-node : (fs : List Flat) → IsTable fs → (t : Text) → t.0 < length fs → tree fs t ≡ written (flat_in fs t).head (args_at (trees fs) (flat_in fs t).args)
tree-node fs ok t h = ap (λ (n : ℕ). get_or (trees fs) n (word [])) (sym (zero-add t.0)) ∙ tree_at fs [] t.0 ok.ordered h

-- ---- arguments are terms of the list

pub before_more : (n m : ℕ) (args : List Text) → n ≤ m → AreBefore n args → AreBefore m args
before_more n m [] le h = tt
before_more n m (a ∷ args) le h = (omega (arith, h.0), before_more n m args le h.1)

args_before : (fs : List Flat) (n k : ℕ) → AreOrdered n fs → k < length fs → AreBefore (n + k) (get_or fs k no_flat).args
args_before [] n k ordered h = absurd (omega (arith, h))
args_before (f ∷ fs) n zero ordered h = before_more n (n + 0) f.args (omega arith) ordered.0
args_before (f ∷ fs) n (suc k) ordered h =
    before_more (suc n + k) (n + suc k) (get_or fs k no_flat).args (omega arith) (args_before fs (suc n) k ordered.1 (omega (arith, h)))

pub args_in : (fs : List Flat) → IsTable fs → (t : Text) → t.0 < length fs → AreIn fs (flat_in fs t).args
args_in fs ok t h = before_more (0 + t.0) (length fs) (flat_in fs t).args (omega arith) (args_before fs 0 t.0 ok.ordered h)
