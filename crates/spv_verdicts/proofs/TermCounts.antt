-- The terms that count for the limit of terms.
use Rattle.std.proofs.Common.{◌≡◌, ◌<◌, ℕ, true, List, [], ◌∷◌, length, refl, ap, ◌∙◌, arith}
use Rattle.spv_logic.specs.Terms.{Term, term_eq}
use Rattle.spv_logic.proofs.Equality.{term_eq-refl}
use Rattle.spv_term.specs.Arena.{Arena, trees_of}
use Rattle.spv_atoms.specs.Atoms.{is_atom, with_term, with_terms}
use Rattle.spv_atoms.specs.Order.{passing}
use Rattle.spv_atoms.proofs.Members.{has, or_left, or_right, has-with_terms, with_terms-has}
use Rattle.spv_proof_rules.specs.Effects.{Question, is_truth}
use Rattle.spv_models.specs.leaf_models.Atoms.{all_equations}
use Rattle.spv_models.specs.leaf_models.Subterms.{subterms}
use Rattle.spv_models.specs.leaf_models.Tables.{formulas_of}
use Rattle.spv_models.proofs.leaf_models.Closed.{with_term-parts}
use Rattle.spv_models.proofs.leaf_models.Lookups.{passing-parts}
use Rattle.spv_search_terms.specs.subterms.Gaining.{Stops}
use Rattle.spv_search_terms.proofs.subterms.GainLemmas.{longer}
use Rattle.spv_models.specs.split_trees.Paths.{atoms}
use Rattle.spv_search_terms.specs.condition_copy.Copies.{base_terms, all_terms}
use Rattle.spv_verdicts.specs.Verdicts.{search_terms, HasTooManyTerms}

pub terms-parts : {A : Type 0} (xs ts : List Term) (u : Term) → has (with_terms xs ts) u ≡ true → (has xs u ≡ true → A) → (has ts u ≡ true → A) → A
terms-parts xs [] u h f g = f h
terms-parts xs (t ∷ ts) u h f g =
    terms-parts (with_term xs t) ts u h
    (λ k. with_term-parts xs t u k f (λ e. g (or_left (term_eq u t) (has ts u) (ap (λ x. term_eq x t) e ∙ term_eq-refl t))))
    (λ k. g (or_right (term_eq u t) (has ts u) k))

module _ (q : Question) where
  abbrev parts : List Term
  parts = subterms (formulas_of q.sequent)

  abbrev equations : List Term
  equations = all_equations q.shapes q.decls parts

  pub parts-there : (t : Term) → has parts t ≡ true → has (search_terms q) t ≡ true
  parts-there t h = has-with_terms (all_terms q.sequent) equations t (with_terms-has base_terms parts t h)

  pub atoms-there : (t : Term) → has (atoms q) t ≡ true → has (search_terms q) t ≡ true
  atoms-there t h =
      terms-parts (passing (is_atom (is_truth q)) parts) equations t h (λ k. parts-there t (passing-parts (is_atom (is_truth q)) parts t k).among) (λ k. with_terms-has (all_terms q.sequent) equations t k)

  pub copies-stop : (most : ℕ) → most < length (all_terms q.sequent) → HasTooManyTerms q most most
  copies-stop most h = let more = longer (all_terms q.sequent) equations in record { limit = refl; more = omega (arith, h, more) }

  pub asks-stop : (most : ℕ) (a : Arena) → trees_of a.nodes ≡ all_terms q.sequent → a.most ≡ most → Stops a equations → HasTooManyTerms q most most
  asks-stop most a e f s =
      let more = s.more in
      let same : length (with_terms (trees_of a.nodes) equations) ≡ length (search_terms q) = ap (λ xs. length (with_terms xs equations)) e in
      record { limit = refl; more = omega (arith, more, same, f) }
