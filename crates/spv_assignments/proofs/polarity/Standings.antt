-- What a formula says of its core, by the number of negations that it has around it.
use Rattle.std.proofs.Common.{◌≡◌, ℕ, zero, suc, ◌<◌, Bool, true, false, not, [], ◌∷◌, length, refl, sym, ap, ◌∙◌, subst, None}
use Rattle.std.specs.Prelude.{is_some}
use Rattle.std.proofs.lemmas.Bool.{false≢true}
use Rattle.spv_logic.specs.declared.conditions.TermId.{TermId}
use Rattle.spv_logic.specs.Terms.{Term}
use Rattle.spv_logic.specs.Formulas.{negation}
use Rattle.spv_term.specs.Arena.{Arena, tree}
use Rattle.spv_proof_rules.specs.Sums.{negated}
use Rattle.spv_proof_rules.specs.Evaluation.{evaluates}
use Rattle.spv_tableau_rules.specs.constraints.Sayings.{literal}
use Rattle.spv_assignments.specs.declared.polarity.saying.Standing.{Standing}
use Rattle.spv_assignments.specs.polarity.Cores.{denials, is_even, IsCore}
use Rattle.spv_assignments.specs.polarity.Standings.{IsStanding, is_negation, is_double_negation, are_negations}
use Rattle.spv_assignments.proofs.polarity.Parities.{twice_not}
use Rattle.spv_assignments.proofs.polarity.Denials.{literal_follows, term_follows}

-- each of two formulas evaluates from the other
record FollowEach (is_truth : Term → Bool) (s t : Term) : Type 0 where
  there : evaluates is_truth (s ∷ []) t ≡ true
  back : evaluates is_truth (t ∷ []) s ≡ true

-- fewer than two
abbrev is_few : ℕ → Bool
is_few zero = true
is_few (suc zero) = true
is_few (suc (suc k)) = false

-- ---- a term that is no negation, under negations

module _ (u : Term) (core : negated u ≡ None) where
  one_formula : (k : ℕ) → is_few k ≡ true → denials k u ≡ literal (is_even k) u
  one_formula zero e = refl
  one_formula (suc zero) e = refl
  one_formula (suc (suc k)) e = absurd (false≢true e)

  each_follows : (k : ℕ) → is_few k ≡ false → (is_truth : Term → Bool) → FollowEach is_truth (denials k u) (literal (is_even k) u)
  each_follows zero e is_truth = absurd (false≢true (sym e))
  each_follows (suc zero) e is_truth = absurd (false≢true (sym e))
  each_follows (suc (suc j)) e is_truth =
      subst (λ (b : Bool). FollowEach is_truth (denials (suc (suc j)) u) (literal b u)) (sym (twice_not (is_even j)))
      (record { there = literal_follows u core is_truth j; back = term_follows u core is_truth j })

  -- the code's tests
  single : (k : ℕ) → not (is_double_negation (denials k u)) ≡ is_few k
  single zero = ap (λ o. not (are_negations o)) core
  single (suc zero) = ap (λ o. not (is_some o)) core
  single (suc (suc k)) = refl

  plain : (k : ℕ) → not (is_negation (denials k u)) ≡ is_few (suc k)
  plain zero = ap (λ o. not (is_some o)) core
  plain (suc k) = refl

-- ---- formulas of an arena

stands : (a : Arena) (t : TermId) (truth : Bool) (s : Standing) → s.core.0 < length a.nodes → negated (tree a s.core) ≡ None → (k : ℕ) → literal truth (tree a t) ≡ denials k (tree a s.core) → s.truth ≡ is_even k → s.is_same ≡ is_few k
    → IsStanding a t truth s
stands a t truth s inside bare k under parity few = record {
  inside = inside;
  bare = bare;
  count = k;
  under = under;
  parity = parity;
  same = λ e. under ∙ (one_formula (tree a s.core) bare k (sym few ∙ e) ∙ ap (λ b. literal b (tree a s.core)) (sym parity));
  follows = λ e is_truth. (each e is_truth).there;
  back = λ e is_truth. (each e is_truth).back;
}
  where
    each : s.is_same ≡ false → (is_truth : Term → Bool) → FollowEach is_truth (literal truth (tree a t)) (literal s.truth (tree a s.core))
    each e is_truth =
        subst (λ (x : Term). FollowEach is_truth x (literal s.truth (tree a s.core))) (sym under)
        (subst (λ (b : Bool). FollowEach is_truth (denials k (tree a s.core)) (literal b (tree a s.core))) (sym parity) (each_follows (tree a s.core) bare k (sym few ∙ e) is_truth))

-- that a term is true, and that it is false
pub stands_true : (a : Arena) (t u : TermId) (even : Bool) → IsCore a t u even → (truth is_same : Bool) → truth ≡ true → is_same ≡ not (is_double_negation (tree a t)) → IsStanding a t truth (record { core = u; truth = even; is_same = is_same })
stands_true a t u even core true is_same h e =
    stands a t true (record { core = u; truth = even; is_same = is_same }) core.inside core.bare core.count core.under core.parity
    (e ∙ (ap (λ x. not (is_double_negation x)) core.under ∙ single (tree a u) core.bare core.count))
stands_true a t u even core false is_same h e = absurd (false≢true h)

pub stands_false : (a : Arena) (t u : TermId) (even : Bool) → IsCore a t u even → (truth is_same : Bool) → truth ≡ false → is_same ≡ not (is_negation (tree a t)) → IsStanding a t truth (record { core = u; truth = not even; is_same = is_same })
stands_false a t u even core true is_same h e = absurd (false≢true (sym h))
stands_false a t u even core false is_same h e =
    stands a t false (record { core = u; truth = not even; is_same = is_same }) core.inside core.bare (suc core.count) (ap negation core.under) (ap not core.parity)
    (e ∙ (ap (λ x. not (is_negation x)) core.under ∙ plain (tree a u) core.bare core.count))
