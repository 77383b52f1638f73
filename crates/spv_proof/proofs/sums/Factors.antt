-- Sums over ids, and what they are over the terms of an arena.
use Rattle.std.proofs.Common.{◌≡◌, ◌<◌, Bool, true, false, cond, List, [], ◌∷◌, length, pos, refl, sym, ap, ◌∙◌, unwrap_or, Some}
use Rattle.std.specs.Map.{lookup}
use Rattle.indexmap.specs.IndexMap.{insert_entry}
use Rattle.spv_whole.specs.Fraction.{Fraction, whole}
use Rattle.spv_logic.specs.declared.conditions.TermId.{TermId}
use Rattle.spv_logic.specs.Terms.{term_eq}
use Rattle.spv_term.specs.Arena.{Arena, IsArena, tree}
use Rattle.spv_atoms.specs.Order.{same_id}
use Rattle.spv_atoms.specs.Forms.{with_part}
use Rattle.spv_atoms.proofs.Walks.{term_eq-ids}
use Rattle.spv_proof_steps.proofs.Same.{term_eq-sym}
use Rattle.spv_proof_rules.specs.Stops.{factor_of, with_factor}
use Rattle.spv_proof.specs.sums.Partials.{IdSum, factor_at, with_factor_at, factors_over, sum_over, FactorsIn}

module _ (a : Arena) (ok : IsArena a) where
  same-turned : (t u : TermId) → t.0 < length a.nodes → u.0 < length a.nodes → same_id t u ≡ term_eq (tree a u) (tree a t)
  same-turned t u h k = term_eq-ids a ok t u h k ∙ term_eq-sym (tree a t) (tree a u)

  pub factor-over : (parts : List (TermId × Fraction)) (t : TermId) → FactorsIn a parts → t.0 < length a.nodes → factor_of (whole (pos 0)) (factors_over a parts) (tree a t) ≡ factor_at parts t
  factor-over [] t h k = refl
  factor-over (p ∷ parts) t h k =
      ap (λ b. cond b p.1 (factor_of (whole (pos 0)) (factors_over a parts) (tree a t))) (sym (same-turned t p.0 k h.0))
      ∙ by_case (same_id t p.0) (factor-over parts t h.1 k)
    where
      by_case : (b : Bool) → factor_of (whole (pos 0)) (factors_over a parts) (tree a t) ≡ factor_at parts t
          → cond b p.1 (factor_of (whole (pos 0)) (factors_over a parts) (tree a t)) ≡ unwrap_or (cond b (Some p.1) (lookup (same_id t) parts)) (whole (pos 0))
      by_case true later = refl
      by_case false later = later

  factors-with : (parts : List (TermId × Fraction)) (t : TermId) (f : Fraction) → FactorsIn a parts → t.0 < length a.nodes
      → with_part (λ old new. new) (tree a t) f (factors_over a parts) ≡ factors_over a (insert_entry same_id parts t f)
  factors-with [] t f h k = refl
  factors-with (p ∷ parts) t f h k =
      ap (λ b. cond b ((tree a p.0, f) ∷ factors_over a parts) ((tree a p.0, p.1) ∷ with_part (λ old new. new) (tree a t) f (factors_over a parts))) (sym (same-turned t p.0 k h.0))
      ∙ by_case (same_id t p.0) (factors-with parts t f h.1 k)
    where
      by_case : (b : Bool) → with_part (λ old new. new) (tree a t) f (factors_over a parts) ≡ factors_over a (insert_entry same_id parts t f)
          → cond b ((tree a p.0, f) ∷ factors_over a parts) ((tree a p.0, p.1) ∷ with_part (λ old new. new) (tree a t) f (factors_over a parts))
          ≡ factors_over a (cond b ((p.0, f) ∷ parts) (p ∷ insert_entry same_id parts t f))
      by_case true later = refl
      by_case false later = ap (λ ps. (tree a p.0, p.1) ∷ ps) later

  pub sum-with : (s : IdSum) (t : TermId) (f : Fraction) → FactorsIn a s.parts → t.0 < length a.nodes → with_factor (sum_over a s) (tree a t) f ≡ sum_over a (with_factor_at s t f)
  sum-with s t f h k = ap (λ ps. record { parts = ps; constant = s.constant }) (factors-with s.parts t f h k)

with-in : (a : Arena) (parts : List (TermId × Fraction)) (t : TermId) (f : Fraction) → FactorsIn a parts → t.0 < length a.nodes → FactorsIn a (insert_entry same_id parts t f)
with-in a [] t f h k = (k, tt)
with-in a (p ∷ parts) t f h k = by_case (same_id t p.0) (with-in a parts t f h.1 k)
  where
    by_case : (b : Bool) → FactorsIn a (insert_entry same_id parts t f) → FactorsIn a (cond b ((p.0, f) ∷ parts) (p ∷ insert_entry same_id parts t f))
    by_case true later = h
    by_case false later = (h.0, later)

pub with-factor-in : (a : Arena) (s : IdSum) (t : TermId) (f : Fraction) → FactorsIn a s.parts → t.0 < length a.nodes → FactorsIn a (with_factor_at s t f).parts
with-factor-in a s t f h k = with-in a s.parts t f h k
