-- The atoms of a condition are the first ones of what is refuted with what instances say, so a branch of the latter begins with one of the former.
use Rattle.std.proofs.Common.{◌≡◌, ℕ, zero, suc, Bool, true, false, cond, List, [], ◌∷◌, ◌++◌, map, take, length, refl, sym, ap, ◌∙◌, Some}
use Rattle.std.specs.Prelude.{slice_get}
use Rattle.std.proofs.lemmas.List.{append-nil, append_assoc, take-map, take_at}
use Rattle.spv_logic.specs.declared.operators.Head.TheVariants.{False}
use Rattle.spv_logic.specs.Terms.{Term, term, no_terms}
use Rattle.spv_logic.specs.Formulas.{negation}
use Rattle.spv_atoms.specs.Atoms.{atoms_in, with_term, with_terms, with_atoms}
use Rattle.spv_atoms.proofs.Members.{has}
use Rattle.spv_proof_rules.specs.Effects.{Question, is_truth}
use Rattle.spv_verdicts.specs.Verdicts.{with_all_atoms, condition_atoms}
use Rattle.spv_rounds.specs.Claims.{claim}

-- ---- what terms begin with

-- behind these terms stand others
record BeginsWith (xs ys : List Term) : Type 0 where
  others : List Term
  whole : ys ≡ xs ++ others

begins-itself : (xs : List Term) → BeginsWith xs xs
begins-itself xs = record { others = []; whole = sym (append-nil xs) }

begins-through : (xs ys zs : List Term) → BeginsWith xs ys → BeginsWith ys zs → BeginsWith xs zs
begins-through xs ys zs h k = record { others = h.others ++ k.others; whole = k.whole ∙ (ap (λ us. us ++ k.others) h.whole ∙ append_assoc xs h.others k.others) }

begins-with_term : (xs : List Term) (t : Term) → BeginsWith xs (with_term xs t)
begins-with_term xs t = by_case (has xs t)
  where
    by_case : (b : Bool) → BeginsWith xs (cond b xs (xs ++ t ∷ []))
    by_case true = begins-itself xs
    by_case false = record { others = t ∷ []; whole = refl }

begins-with_terms : (xs ts : List Term) → BeginsWith xs (with_terms xs ts)
begins-with_terms xs [] = begins-itself xs
begins-with_terms xs (t ∷ ts) = begins-through xs (with_term xs t) (with_terms xs (t ∷ ts)) (begins-with_term xs t) (begins-with_terms (with_term xs t) ts)

begins-with_all_atoms : (truth : Term → Bool) (xs fs : List Term) → BeginsWith xs (with_all_atoms truth xs fs)
begins-with_all_atoms truth xs [] = begins-itself xs
begins-with_all_atoms truth xs (f ∷ fs) =
    begins-through xs (with_atoms truth xs f) (with_all_atoms truth xs (f ∷ fs)) (begins-with_terms xs (atoms_in truth f)) (begins-with_all_atoms truth (with_atoms truth xs f) fs)

-- ---- atoms

all-atoms-append : (truth : Term → Bool) (known fs gs : List Term) → with_all_atoms truth known (fs ++ gs) ≡ with_all_atoms truth (with_all_atoms truth known fs) gs
all-atoms-append truth known [] gs = refl
all-atoms-append truth known (f ∷ fs) gs = all-atoms-append truth (with_atoms truth known f) fs gs

-- a negation has the atoms of what it negates
negation-atoms : (truth : Term → Bool) (t : Term) → atoms_in truth (negation t) ≡ atoms_in truth t
negation-atoms truth t = append-nil (atoms_in truth t)

module _ (q : Question) (fs : List Term) where
  abbrev of_given : List Term
  of_given = with_all_atoms (is_truth q) [] q.sequent.given

  abbrev behind : List Term
  behind = fs ++ term False no_terms ∷ []

  all-atoms : condition_atoms (claim q fs) ≡ with_all_atoms (is_truth q) (condition_atoms q) behind
  all-atoms =
      ap (with_all_atoms (is_truth q) []) (append_assoc q.sequent.given (negation q.sequent.goal ∷ fs) (term False no_terms ∷ []))
      ∙ (all-atoms-append (is_truth q) [] q.sequent.given (negation q.sequent.goal ∷ behind)
      ∙ ap (λ known. with_all_atoms (is_truth q) known behind) (ap (with_terms of_given) (negation-atoms (is_truth q) q.sequent.goal) ∙ sym (all-atoms-append (is_truth q) [] q.sequent.given (q.sequent.goal ∷ []))))

  pub own-first : take (length (condition_atoms q)) (condition_atoms (claim q fs)) ≡ condition_atoms q
  own-first =
      let b : BeginsWith (condition_atoms q) (with_all_atoms (is_truth q) (condition_atoms q) behind) = begins-with_all_atoms (is_truth q) (condition_atoms q) behind in
      ap (take (length (condition_atoms q))) (all-atoms ∙ b.whole) ∙ take_at (condition_atoms q) b.others (length (condition_atoms q)) refl

-- ---- branches

pub taken-there : {X : Type 0} (n : ℕ) (xs : List X) (i : ℕ) (x : X) → slice_get (take n xs) i ≡ Some x → slice_get xs i ≡ Some x
taken-there zero xs i x e = absurd (cc)
taken-there (suc n) [] i x e = e
taken-there (suc n) (y ∷ ys) zero x e = e
taken-there (suc n) (y ∷ ys) (suc i) x e = taken-there n ys i x e

pub own-atoms : (q : Question) (fs : List Term) (branch : List (Term × Bool)) → map (λ p. p.0) branch ≡ condition_atoms (claim q fs) → map (λ p. p.0) (take (length (condition_atoms q)) branch) ≡ condition_atoms q
own-atoms q fs branch e = sym (take-map (λ p. p.0) (length (condition_atoms q)) branch) ∙ (ap (take (length (condition_atoms q))) e ∙ own-first q fs)
