-- What is among facts with further ones.
use Rattle.std.proofs.Common.{◌≡◌, Bool, true, false, ◌||◌, List, [], ◌∷◌, ◌++◌, refl, sym, ap, ◌∙◌, inl, inr, ◌⊎◌}
use Rattle.std.proofs.lemmas.Bool.{false≢true}
use Rattle.spv_logic.specs.Terms.{Term, term_eq}
use Rattle.spv_logic.proofs.Equality.{term_eq-true, term_eq-refl}
use Rattle.spv_proof_rules.specs.Evaluation.{cites}

or_false : (b : Bool) → (b || false) ≡ b
or_false true = refl
or_false false = refl

pub or_true : (b : Bool) → (b || true) ≡ true
or_true true = refl
or_true false = refl

-- a term among facts with a further one is among them, or it is this one
pub cited_last : (facts : List Term) (f t : Term) → cites (facts ++ f ∷ []) t ≡ true → (cites facts t ≡ true) ⊎ (t ≡ f)
cited_last [] f t e = inr (term_eq-true t f (sym (or_false (term_eq t f)) ∙ e))
cited_last (g ∷ facts) f t e = by_case (term_eq t g) refl (cited_last facts f t)
  where
    among : (cites facts t ≡ true) ⊎ (t ≡ f) → (cites (g ∷ facts) t ≡ true) ⊎ (t ≡ f)
    among (inl h) = inl (ap (λ b. term_eq t g || b) h ∙ or_true (term_eq t g))
    among (inr h) = inr h

    by_case : (b : Bool) → term_eq t g ≡ b → (cites (facts ++ f ∷ []) t ≡ true → (cites facts t ≡ true) ⊎ (t ≡ f)) → (cites (g ∷ facts) t ≡ true) ⊎ (t ≡ f)
    by_case true h later = inl (ap (λ b. b || cites facts t) h)
    by_case false h later = among (later (sym (ap (λ b. b || cites (facts ++ f ∷ []) t) h) ∙ e))

-- what is among facts stays so, and the further one is among them
pub still_cited : (facts others : List Term) (t : Term) → cites facts t ≡ true → cites (facts ++ others) t ≡ true
still_cited [] others t e = absurd (false≢true e)
still_cited (g ∷ facts) others t e = by_case (term_eq t g) refl (still_cited facts others t)
  where
    by_case : (b : Bool) → term_eq t g ≡ b → (cites facts t ≡ true → cites (facts ++ others) t ≡ true) → cites ((g ∷ facts) ++ others) t ≡ true
    by_case true h later = ap (λ b. b || cites (facts ++ others) t) h
    by_case false h later = ap (λ b. b || cites (facts ++ others) t) h ∙ later (sym (ap (λ b. b || cites facts t) h) ∙ e)

pub last_cited : (facts : List Term) (f : Term) → cites (facts ++ f ∷ []) f ≡ true
last_cited [] f = ap (λ b. b || false) (term_eq-refl f)
last_cited (g ∷ facts) f = ap (λ b. term_eq f g || b) (last_cited facts f) ∙ or_true (term_eq f g)
