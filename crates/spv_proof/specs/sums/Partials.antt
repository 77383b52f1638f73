-- Sums so far, over the ids of an arena.
use Rattle.std.specs.Prelude.{◌≡◌, ◌<◌, Bool, false, ◌&&◌, ◌||◌, List, [], ◌∷◌, map, length, pos, unwrap_or}
use Rattle.std.specs.List.{list_all}
use Rattle.std.specs.Map.{lookup, values_of}
use Rattle.std.specs.Ordering.{int_eq}
use Rattle.std.specs.Int.RustNames.{int_lt}
use Rattle.indexmap.specs.IndexMap.{insert_entry}
use Rattle.spv_whole.specs.Fraction.{Fraction, whole}
use Rattle.spv_frac.specs.rational.Rational as rational
use Rattle.spv_logic.specs.declared.conditions.TermId.{TermId}
use Rattle.spv_logic.specs.Terms.{Term, term_eq}
use Rattle.spv_term.specs.Arena.{Arena, tree}
use Rattle.spv_atoms.specs.Order.{same_id}
use Rattle.spv_proof_rules.specs.Sums.{Combination}
use Rattle.spv_proof_rules.specs.Stops.{Partial, factor_of}

-- a sum whose terms are named by their ids
pub record IdSum : Type 0 where
  pub parts : List (TermId × Fraction)
  pub constant : Fraction

-- what an id is multiplied by: 0 where it is not listed
abbrev pub factor_at : List (TermId × Fraction) → TermId → Fraction
factor_at parts t = unwrap_or (lookup (same_id t) parts) (whole (pos 0))

-- a sum with another factor for an id
abbrev pub with_factor_at : IdSum → TermId → Fraction → IdSum
with_factor_at s t f = record { parts = insert_entry same_id s.parts t f; constant = s.constant }

-- whether each term is multiplied by 0
abbrev pub all_zero : List (TermId × Fraction) → Bool
all_zero parts = list_all (λ f. int_eq f.num (pos 0)) (values_of parts)

-- whether each term is multiplied by 0, and the constant is above 0
abbrev pub is_above_zero : IdSum → Bool
is_above_zero s = all_zero s.parts && int_lt (pos 0) s.constant.num

-- ---- over an arena

abbrev pub factors_over : Arena → List (TermId × Fraction) → List (Term × Fraction)
factors_over a parts = map (λ p. (tree a p.0, p.1)) parts

abbrev pub sum_over : Arena → IdSum → Partial
sum_over a s = record { parts = factors_over a s.parts; constant = s.constant }

-- each part's id is in the arena
abbrev pub FactorsIn : Arena → List (TermId × Fraction) → Type 0
FactorsIn a [] = Unit {0}
FactorsIn a (p ∷ parts) = (p.0.0 < length a.nodes) × FactorsIn a parts

-- ---- the exact sum

abbrev pub has_term : {N : Type 0} → List (Term × N) → Term → Bool
has_term [] x = false
has_term (p ∷ parts) x = term_eq p.0 x || has_term parts x

-- no term stands twice
abbrev pub AreOnce : {N : Type 0} → List (Term × N) → Type 0
AreOnce [] = Unit {0}
AreOnce (p ∷ parts) = (has_term parts p.0 ≡ false) × AreOnce parts

-- a sum in fractions is this exact one
pub record IsExact (s : Partial) (c : Combination) : Type 0 where
  pub factors : (x : Term) → factor_of (whole (pos 0)) s.parts x ≡ (factor_of (rational.whole (pos 0)) c.parts x).fraction
  pub constant : s.constant ≡ c.constant.fraction
  pub once : AreOnce s.parts
  pub exact_once : AreOnce c.parts
