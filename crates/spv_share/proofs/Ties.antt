-- The ties of literals that were told are among those of the graph's facts.
use Rattle.std.proofs.Common.{◌≡◌, ℕ, zero, suc, ◌<◌, List, [], ◌∷◌, ◌++◌, length, refl, sym, ap, ◌∙◌, subst, Option, Some, None, inl, inr, ◌⊎◌}
use Rattle.std.specs.Prelude.{slice_get}
use Rattle.std.proofs.lemmas.Option.{slice_get_within, same_Some}
use Rattle.spv_logic.specs.declared.conditions.TermId.{TermId}
use Rattle.spv_term.specs.Arena.{Arena}
use Rattle.spv_term.proofs.ListLemmas.{slice_get-append_left}
use Rattle.spv_congruence.specs.declared.facts.Fact.{Fact}
use Rattle.spv_derivations.specs.declared.derivation.entries.Entry.{Entry}
use Rattle.spv_derivations.specs.derivation.Literals.{Literal, literals}
use Rattle.spv_explanations.specs.congruence_side.Telling.{literal_ties, Tie, tie_of, ties}
use Rattle.spv_share.specs.declared.relations.Noted.{Noted}
use Rattle.spv_share.specs.declared.relations.Related.{Related}
use Rattle.spv_share.specs.Both.{AreNoted, AreTied, IsTie}

-- ---- lists

nothing : {A : Type 0} (place : ℕ) (x : A) → slice_get [] place ≡ Some x → ⊥
nothing place x at = cc

-- an item of a list with one more is one of the list, or this one
or_last : {A : Type 0} (xs : List A) (x : A) (place : ℕ) (y : A) → slice_get (xs ++ x ∷ []) place ≡ Some y → (slice_get xs place ≡ Some y) ⊎ (x ≡ y)
or_last [] x zero y at = inr (same_Some x y at)
or_last [] x (suc place) y at = absurd (nothing place y at)
or_last (z ∷ xs) x zero y at = inl at
or_last (z ∷ xs) x (suc place) y at = or_last xs x place y at

-- a tie behind others
behind : (xs ys : List Tie) (i : ℕ) (x : Tie) → slice_get ys i ≡ Some x → IsTie (xs ++ ys) x
behind [] ys i x at = record { place = i; there = at }
behind (z ∷ xs) ys i x at = let k = behind xs ys i x at in record { place = suc k.place; there = k.there }

ties_append : (xs ys : List Fact) → ties (xs ++ ys) ≡ ties xs ++ ties ys
ties_append [] ys = refl
ties_append (x ∷ xs) ys = ap (λ ts. tie_of x ∷ ts) (ties_append xs ys)

-- an item of a list as long as another one has a fellow there
fellow : {A B : Type 0} (xs : List A) (ys : List B) → length ys ≡ length xs → (place : ℕ) (x : A) → slice_get xs place ≡ Some x → (y : B) × (slice_get ys place ≡ Some y)
fellow [] ys e place x at = absurd (nothing place x at)
fellow (x ∷ xs) [] e place y at = absurd (cc)
fellow (x ∷ xs) (y ∷ ys) e zero z at = (y, refl)
fellow (x ∷ xs) (y ∷ ys) e (suc place) z at = fellow xs ys (fewer (length ys) (length xs) e) place z at
  where
    fewer : (n m : ℕ) → suc n ≡ suc m → n ≡ m
    fewer n m f = cc

-- ---- ties

module _ (a : Arena) (truth falsity : TermId) where
  pub tied_none : (told : List Literal) (ts : List Tie) → told ≡ [] → AreTied a truth falsity told ts
  tied_none told ts e = record { each = λ place l i x at there. absurd (nothing place l (ap (λ ls. slice_get ls place) (sym e) ∙ at)) }

  -- with more ties
  tied_behind : (told : List Literal) (xs more : List Tie) → AreTied a truth falsity told xs → AreTied a truth falsity told (xs ++ more)
  tied_behind told xs more h = record { each = λ place l i x at there. on (h.each place l i x at there) }
    where
      on : {x : Tie} → IsTie xs x → IsTie (xs ++ more) x
      on {x} k = record { place = k.place; there = slice_get-append_left xs more k.place (slice_get_within xs k.place x k.there) ∙ k.there }

  -- with one more literal, and its ties
  pub tied_told : (told : List Literal) (xs : List Tie) (l : Literal) → AreTied a truth falsity told xs → AreTied a truth falsity (told ++ l ∷ []) (xs ++ literal_ties a truth falsity l.atom l.part)
  tied_told told xs l h = record { each = λ place m i x at there. by_place place m i x there (or_last told l place m at) }
    where
      by_place : (place : ℕ) (m : Literal) (i : ℕ) (x : Tie) → slice_get (literal_ties a truth falsity m.atom m.part) i ≡ Some x → (slice_get told place ≡ Some m) ⊎ (l ≡ m) → IsTie (xs ++ literal_ties a truth falsity l.atom l.part) x
      by_place place m i x there (inl at) = (tied_behind told xs (literal_ties a truth falsity l.atom l.part) h).each place m i x at there
      by_place place m i x there (inr same) =
          behind xs (literal_ties a truth falsity l.atom l.part) i x (ap (λ (k : Literal). slice_get (literal_ties a truth falsity k.atom k.part) i) same ∙ there)

-- where all is the same
pub tied_same : (a : Arena) (truth falsity new_truth new_falsity : TermId) (told now : List Literal) (xs ys : List Fact) → new_truth ≡ truth → new_falsity ≡ falsity → now ≡ told → ys ≡ xs
    → AreTied a truth falsity told (ties xs) → AreTied a new_truth new_falsity now (ties ys)
tied_same a truth falsity new_truth new_falsity told now xs ys same_truth same_falsity same_told same h =
    subst (λ (t : TermId). AreTied a t new_falsity now (ties ys)) (sym same_truth)
    (subst (λ (t : TermId). AreTied a truth t now (ties ys)) (sym same_falsity)
    (subst (λ (ls : List Literal). AreTied a truth falsity ls (ties ys)) (sym same_told)
    (subst (λ (zs : List Fact). AreTied a truth falsity told (ties zs)) (sym same) h)))

-- where facts come behind the others
pub tied_grows : (a : Arena) (truth falsity new_truth new_falsity : TermId) (told now : List Literal) (xs ys more : List Fact) → new_truth ≡ truth → new_falsity ≡ falsity → now ≡ told → ys ≡ xs ++ more
    → AreTied a truth falsity told (ties xs) → AreTied a new_truth new_falsity now (ties ys)
tied_grows a truth falsity new_truth new_falsity told now xs ys more same_truth same_falsity same_told grown h =
    tied_same a truth falsity new_truth new_falsity told now (xs ++ more) ys same_truth same_falsity same_told grown
    (subst (λ (ts : List Tie). AreTied a truth falsity told ts) (sym (ties_append xs more)) (tied_behind a truth falsity told (ties xs) (ties more) h))

-- ---- terms of literals

-- a literal that was told is of a term of the arena
pub told_inside : (a : Arena) (rels : List Related) (es : List Entry) (ns : List Noted) → AreNoted a rels es ns → (place : ℕ) (l : Literal) → slice_get (literals es) place ≡ Some l → l.atom.0 < length a.nodes
told_inside a rels es ns h place l at = let n = fellow (literals es) ns h.many place l at in (h.each place l n.0 at n.1).within
