-- The atoms of formulas are subterms of them.
use Rattle.std.proofs.Common.{◌≡◌, Bool, true, false, cond, List, [], ◌∷◌, ◌++◌, refl, ap, ◌∙◌}
use Rattle.std.proofs.lemmas.Bool.{false≢true}
use Rattle.spv_logic.specs.declared.operators.Head.{Head}
use Rattle.spv_logic.specs.Terms.{Term, Terms, term, no_terms, terms, term_eq}
use Rattle.spv_logic.proofs.Equality.{term_eq-refl}
use Rattle.spv_atoms.specs.Atoms.{is_atom, connects, only_if, atoms_in, atoms_in_all, with_term, with_terms, with_atoms}
use Rattle.spv_atoms.specs.Tables.{all_truths}
use Rattle.spv_atoms.proofs.Members.{has, or_left, or_right, has-parts, has_one}
use Rattle.spv_models.proofs.leaf_models.Closed.{ArgumentsIn, with_term-parts}
use Rattle.spv_verdicts.specs.Verdicts.{with_all_atoms}

added-parts : {A : Type 0} (xs ts : List Term) (u : Term) → has (with_terms xs ts) u ≡ true → (has xs u ≡ true → A) → (has ts u ≡ true → A) → A
added-parts xs [] u h f g = f h
added-parts xs (t ∷ ts) u h f g =
    added-parts (with_term xs t) ts u h
    (λ k. with_term-parts xs t u k f (λ e. g (or_left (term_eq u t) (has ts u) (ap (λ x. term_eq x t) e ∙ term_eq-refl t))))
    (λ k. g (or_right (term_eq u t) (has ts u) k))

module _ (truth : Term → Bool) (xs : List Term) (inside : (h : Head) (ts : Terms) → has xs (term h ts) ≡ true → ArgumentsIn xs ts) where
  mutual
    part : (t : Term) → has xs t ≡ true → (u : Term) → has (atoms_in truth t) u ≡ true → has xs u ≡ true
    part (term h ts) k u m = by_case (connects (all_truths truth ts) h) m (parts ts (inside h ts k) u)
      where
        alone : (c : Bool) → has (only_if c (term h ts)) u ≡ true → has xs u ≡ true
        alone true l = ap (has xs) (has_one u (term h ts) l) ∙ k
        alone false l = absurd (false≢true l)

        by_case : (b : Bool) → has (cond b (atoms_in_all truth ts) (only_if (is_atom truth (term h ts)) (term h ts))) u ≡ true → (has (atoms_in_all truth ts) u ≡ true → has xs u ≡ true) → has xs u ≡ true
        by_case true l f = f l
        by_case false l f = alone (is_atom truth (term h ts)) l

    parts : (ts : Terms) → ArgumentsIn xs ts → (u : Term) → has (atoms_in_all truth ts) u ≡ true → has xs u ≡ true
    parts no_terms a u m = absurd (false≢true m)
    parts (terms t ts) a u m = has-parts (atoms_in truth t) (atoms_in_all truth ts) u m (λ l. part t a.0 u l) (λ l. parts ts a.1 u l)

  pub atoms_inside : (known fs : List Term) → ((u : Term) → has known u ≡ true → has xs u ≡ true) → ((f : Term) → has fs f ≡ true → has xs f ≡ true) → (u : Term) → has (with_all_atoms truth known fs) u ≡ true → has xs u ≡ true
  atoms_inside known [] k h u m = k u m
  atoms_inside known (f ∷ fs) k h u m =
      atoms_inside (with_atoms truth known f) fs
      (λ v l. added-parts known (atoms_in truth f) v l (k v) (λ n. part f (h f (or_left (term_eq f f) (has fs f) (term_eq-refl f))) v n))
      (λ g l. h g (or_right (term_eq g f) (has fs g) l)) u m

-- the atoms of formulas and of one more
pub atoms-more : (truth : Term → Bool) (known fs : List Term) (g : Term) → with_all_atoms truth known (fs ++ g ∷ []) ≡ with_atoms truth (with_all_atoms truth known fs) g
atoms-more truth known [] g = refl
atoms-more truth known (f ∷ fs) g = atoms-more truth (with_atoms truth known f) fs g
