-- The atoms of a condition are the first ones of what is refuted with facts of schemas, so a branch of the latter begins with one of the former.
use Rattle.std.proofs.Common.{◌≡◌, ℕ, zero, suc, Bool, true, false, cond, List, [], ◌∷◌, ◌++◌, take, length, refl, sym, ap, ◌∙◌, subst, Some}
use Rattle.std.specs.Prelude.{slice_get}
use Rattle.std.proofs.lemmas.List.{append-nil, append_assoc, take-map, take_at}
use Rattle.spv_whole.specs.Fraction.{Fraction}
use Rattle.spv_logic.specs.declared.operators.Head.TheVariants.{False}
use Rattle.spv_logic.specs.Terms.{Term, term, no_terms}
use Rattle.spv_logic.specs.declared.conditions.TermId.{TermId}
use Rattle.spv_term.specs.declared.nodes.Condition.{Condition}
use Rattle.spv_term.specs.Arena.{Arena}
use Rattle.spv_proof_rules.specs.Stand.{question}
use Rattle.spv_verdicts.specs.answers.Views.{case_in, branch_in}
use Rattle.spv_logic.specs.Formulas.{negation}
use Rattle.spv_atoms.specs.Atoms.{atoms_in, with_term, with_terms, with_atoms}
use Rattle.spv_atoms.proofs.Members.{has}
use Rattle.spv_proof_rules.specs.Effects.{Question, is_truth}
use Rattle.spv_verdicts.specs.Verdicts.{with_all_atoms, condition_atoms, Survives}
use Rattle.spv_verdicts.specs.Schemas.{enlarged, further_facts, SurvivesFacts}
use Rattle.spv_verdicts.proofs.model_check.AtomLemmas.{atoms-more}

-- ---- what terms begin with

-- behind these terms stand others
record BeginsWith (xs ys : List Term) : Type 0 where
  others : List Term
  whole : ys ≡ xs ++ others

begins-itself : (xs : List Term) → BeginsWith xs xs
begins-itself xs = record { others = []; whole = sym (append-nil xs) }

begins-through : (xs ys zs : List Term) → BeginsWith xs ys → BeginsWith ys zs → BeginsWith xs zs
begins-through xs ys zs h k = record { others = h.others ++ k.others; whole = k.whole ∙ (ap (λ us. us ++ k.others) h.whole ∙ append_assoc xs h.others k.others) }

begins-with_term : (xs : List Term) (t : Term) → BeginsWith xs (with_term xs t)
begins-with_term xs t = by_case (has xs t)
  where
    by_case : (b : Bool) → BeginsWith xs (cond b xs (xs ++ t ∷ []))
    by_case true = begins-itself xs
    by_case false = record { others = t ∷ []; whole = refl }

begins-with_terms : (xs ts : List Term) → BeginsWith xs (with_terms xs ts)
begins-with_terms xs [] = begins-itself xs
begins-with_terms xs (t ∷ ts) = begins-through xs (with_term xs t) (with_terms xs (t ∷ ts)) (begins-with_term xs t) (begins-with_terms (with_term xs t) ts)

begins-with_all_atoms : (truth : Term → Bool) (xs fs : List Term) → BeginsWith xs (with_all_atoms truth xs fs)
begins-with_all_atoms truth xs [] = begins-itself xs
begins-with_all_atoms truth xs (f ∷ fs) =
    begins-through xs (with_atoms truth xs f) (with_all_atoms truth xs (f ∷ fs)) (begins-with_terms xs (atoms_in truth f)) (begins-with_all_atoms truth (with_atoms truth xs f) fs)

-- ---- atoms

all-atoms-append : (truth : Term → Bool) (known fs gs : List Term) → with_all_atoms truth known (fs ++ gs) ≡ with_all_atoms truth (with_all_atoms truth known fs) gs
all-atoms-append truth known [] gs = refl
all-atoms-append truth known (f ∷ fs) gs = all-atoms-append truth (with_atoms truth known f) fs gs

-- a negation has the atoms of what it negates
negation-atoms : (truth : Term → Bool) (t : Term) → atoms_in truth (negation t) ≡ atoms_in truth t
negation-atoms truth t = append-nil (atoms_in truth t)

module _ (q : Question) where
  abbrev of_given : List Term
  of_given = with_all_atoms (is_truth q) [] q.sequent.given

  abbrev behind : List Term
  behind = further_facts q ++ term False no_terms ∷ []

  all-atoms : condition_atoms (enlarged q) ≡ with_all_atoms (is_truth q) (condition_atoms q) behind
  all-atoms =
      ap (with_all_atoms (is_truth q) []) (append_assoc q.sequent.given (negation q.sequent.goal ∷ further_facts q) (term False no_terms ∷ []))
      ∙ (all-atoms-append (is_truth q) [] q.sequent.given (negation q.sequent.goal ∷ behind)
      ∙ ap (λ known. with_all_atoms (is_truth q) known behind) (ap (with_terms of_given) (negation-atoms (is_truth q) q.sequent.goal) ∙ sym (atoms-more (is_truth q) [] q.sequent.given q.sequent.goal)))

  own-first : take (length (condition_atoms q)) (condition_atoms (enlarged q)) ≡ condition_atoms q
  own-first =
      let b : BeginsWith (condition_atoms q) (with_all_atoms (is_truth q) (condition_atoms q) behind) = begins-with_all_atoms (is_truth q) (condition_atoms q) behind in
      ap (take (length (condition_atoms q))) (all-atoms ∙ b.whole) ∙ take_at (condition_atoms q) b.others (length (condition_atoms q)) refl

-- ---- branches

taken-there : {X : Type 0} (n : ℕ) (xs : List X) (i : ℕ) (x : X) → slice_get (take n xs) i ≡ Some x → slice_get xs i ≡ Some x
taken-there zero xs i x e = absurd (cc)
taken-there (suc n) [] i x e = e
taken-there (suc n) (y ∷ ys) zero x e = e
taken-there (suc n) (y ∷ ys) (suc i) x e = taken-there n ys i x e

pub own-survives : (q : Question) (branch : List (Term × Bool)) (table : List (Term × Fraction)) → Survives (enlarged q) branch table → SurvivesFacts q (take (length (condition_atoms q)) branch) table
own-survives q branch table s = record {
  falsifies = s.falsifies;
  atoms = sym (take-map (λ p. p.0) (length (condition_atoms q)) branch) ∙ (ap (take (length (condition_atoms q))) s.atoms ∙ own-first q);
  truths = λ i p at. s.truths i p (taken-there (length (condition_atoms q)) branch i p at);
}

-- the same over ids
pub own-cases : (a : Arena) (c : Condition) (branch own : List (TermId × Bool)) → own ≡ take (length (condition_atoms (question a c))) branch → (table : List (Term × Fraction)) → Survives (enlarged (question a c)) (branch_in a branch) table
    → SurvivesFacts (question a c) (branch_in a own) table
own-cases a c branch own first table s =
    let same : take (length (condition_atoms (question a c))) (branch_in a branch) ≡ branch_in a own = take-map (case_in a) (length (condition_atoms (question a c))) branch ∙ ap (branch_in a) (sym first) in
    subst (λ cases. SurvivesFacts (question a c) cases table) same (own-survives (question a c) (branch_in a branch) table s)
