-- Parts of terms.
use Rattle.std.proofs.Common.{◌≡◌, Bool, true, false, ◌||◌, List, [], ◌∷◌, refl, subst}
use Rattle.std.proofs.lemmas.Bool.{false≢true, or_left, or_right}
use Rattle.spv_logic.specs.declared.operators.Head.{Head}
use Rattle.spv_logic.specs.Terms.{Term, Terms, term, no_terms, terms, term_eq}
use Rattle.spv_logic.proofs.Equality.{term_eq-true, term_eq-refl}
use Rattle.spv_term.specs.substitution.Parts.{is_part, is_part_of_some, is_part_of}

pub or_split : {A : Type 0} (a b : Bool) → (a || b) ≡ true → (a ≡ true → A) → (b ≡ true → A) → A
or_split true b h f g = f refl
or_split false b h f g = g h

-- a term is a part of itself
pub is_part-refl : (t : Term) → is_part t t ≡ true
is_part-refl (term h ts) = or_left (term_eq (term h ts) (term h ts)) (is_part_of_some (term h ts) ts) (term_eq-refl (term h ts))

-- a part of an argument is a part of the term
pub part_of_args : (x : Term) (h : Head) (ts : Terms) → is_part_of_some x ts ≡ true → is_part x (term h ts) ≡ true
part_of_args x h ts e = or_right (term_eq x (term h ts)) (is_part_of_some x ts) e

module _ (x : Term) (h : Head) (us : Terms) (inside : is_part_of_some x us ≡ true) where
  mutual
    -- an argument of a part is a part
    pub part_down : (g : Term) → is_part (term h us) g ≡ true → is_part x g ≡ true
    part_down (term k vs) e =
        or_split (term_eq (term h us) (term k vs)) (is_part_of_some (term h us) vs) e
        (λ f. subst (λ g. is_part x g ≡ true) (term_eq-true (term h us) (term k vs) f) (part_of_args x h us inside))
        (λ f. part_of_args x k vs (part_down_some vs f))

    pub part_down_some : (gs : Terms) → is_part_of_some (term h us) gs ≡ true → is_part_of_some x gs ≡ true
    part_down_some no_terms e = absurd (false≢true e)
    part_down_some (terms g gs) e =
        or_split (is_part (term h us) g) (is_part_of_some (term h us) gs) e
        (λ f. or_left (is_part x g) (is_part_of_some x gs) (part_down g f))
        (λ f. or_right (is_part x g) (is_part_of_some x gs) (part_down_some gs f))

  pub part_down_of : (goals : List Term) → is_part_of goals (term h us) ≡ true → is_part_of goals x ≡ true
  part_down_of [] e = absurd (false≢true e)
  part_down_of (g ∷ goals) e =
      or_split (is_part (term h us) g) (is_part_of goals (term h us)) e
      (λ f. or_left (is_part x g) (is_part_of goals x) (part_down g f))
      (λ f. or_right (is_part x g) (is_part_of goals x) (part_down_of goals f))
