-- Two ways to give values that agree come to the same values.
use Rattle.std.proofs.Common.{◌≡◌, Bool, ◌∷◌, refl, sym, ap, ◌∙◌, Option}
use mathlib.Core.Path.{ap₂}
use Rattle.spv_logic.specs.Terms.{Term, Terms, term, no_terms, terms}
use Rattle.spv_atoms.specs.Tables.{or_else, all_truths, first_of, second_of, combined, computed, values}
use Rattle.spv_proof_rules.specs.Evaluation.{opposite}
use Rattle.spv_assignments.specs.kleene.Given.{valued, AgreeAt, same, computed_by_both, Agree}
use Rattle.spv_assignments.specs.kleene.Laws.{ComputeTheSame, ComeToTheSame, ClashTogether}

-- at a term for which both compute the same
value_at : (is_truth : Term → Bool) (first second : Term → Option Bool) (t : Term) → AgreeAt is_truth first second t → computed is_truth first t ≡ computed is_truth second t → valued is_truth first t ≡ valued is_truth second t
value_at is_truth first second t (same e) h = ap₂ or_else e h
value_at is_truth first second t (computed_by_both p q) h = p ∙ (h ∙ sym q)

module _ (is_truth : Term → Bool) (first second : Term → Option Bool) (agree : Agree is_truth first second) where
  mutual
    computed_of : (t : Term) → computed is_truth first t ≡ computed is_truth second t
    computed_of (term h ts) = ap (λ xs. combined (all_truths is_truth ts) h (first_of xs) (second_of xs) ts) (values_of ts)

    values_of : (ts : Terms) → values is_truth first ts ≡ values is_truth second ts
    values_of no_terms = refl
    values_of (terms t ts) = ap₂ ◌∷◌ (value_at is_truth first second t (agree t) (computed_of t)) (values_of ts)

pub computed_same : ComputeTheSame
computed_same is_truth first second agree t = computed_of is_truth first second agree t

pub valued_same : ComeToTheSame
valued_same is_truth first second agree t = value_at is_truth first second t (agree t) (computed_of is_truth first second agree t)

pub clash_same : ClashTogether
clash_same is_truth first second agree t e = ap₂ opposite (computed_of is_truth first second agree t) e
