-- A step looks only at the facts that it cites.
use Rattle.std.proofs.Common.{◌≡◌, ℕ, zero, suc, Bool, ◌&&◌, List, [], ◌∷◌, map, Option, Some, None, pos, refl, ap, arith}
use Rattle.std.specs.List.{filter}
use Rattle.spv_whole.specs.Fraction.{Fraction}
use Rattle.spv_frac.specs.rational.Rational.{number}
use Rattle.spv_logic.specs.Terms.{Term, Terms, term, no_terms, terms, head_eq}
use Rattle.spv_logic.specs.Formulas.{equation}
use Rattle.spv_atoms.specs.declared.proofs.Relation.{Relation}
use Rattle.spv_atoms.specs.declared.proofs.Relation.TheVariants.{AtMost, Equal}
use Rattle.spv_atoms.specs.declared.proofs.Step.{Step}
use Rattle.spv_atoms.specs.declared.proofs.Step.TheVariants as step
use Rattle.spv_proof_rules.specs.Sums.{Combination, Reading, add_reading, cited_reading, difference, is_at_most_zero, nothing, read_cited, refutes, shows_above_zero, sum_of, then_add}
use Rattle.spv_proof_rules.specs.Effects.{Question, adds_if, all_equal, at_most, cited, congruent, effect, end_of_one, end_of_two, evaluated, exchanged, fact_before, is_empty, is_fact, is_number, is_truth, joined, linear, numbered, sides_of, stated}
use Rattle.spv_atoms.specs.Steps.{Part, Number, Fact, OtherFact, Facts, One, Several, Sums, States, Field, cites_facts, multiple_by, renumbered, shape}
use Rattle.spv_atoms.proofs.Steps.{of_each-all}
use Rattle.spv_derivations.specs.derivation.Renumbered.{Moves, OfAll, OfCited, OfMultiples, OfOptional, OfPart}

-- ---- what holds of all numbers holds of those that a step cites

module _ (P : ℕ → Type 0) (h : (k : ℕ) → P k) where
  of_list : (ks : List ℕ) → OfAll P ks
  of_list [] = tt
  of_list (k ∷ ks) = (h k, of_list ks)

  of_multiples : (ms : List (Fraction × ℕ)) → OfMultiples P ms
  of_multiples [] = tt
  of_multiples (m ∷ ms) = (h m.1, of_multiples ms)

  of_optional : (j : Option ℕ) → OfOptional P j
  of_optional None = tt
  of_optional (Some k) = h k

  of_part : (p : Part) → OfPart P p
  of_part (Number k) = tt
  of_part (Fact k) = h k
  of_part (OtherFact k) = of_optional k
  of_part (Facts ks) = of_list ks
  of_part (One t) = tt
  of_part (Several ts) = tt
  of_part (Sums r first second) = (of_multiples first, of_multiples second)
  of_part (States s) = tt
  of_part (Field x) = tt

  pub of_cited : (s : Step) → OfCited P s
  of_cited s = of_each-all (OfPart P) of_part (filter cites_facts (shape s).parts)

-- ---- the parts of an effect

module _ (old new : List Term) (f : ℕ → ℕ) where
  cited-moved : (ks : List ℕ) → OfAll (Moves old new f) ks → cited new (map f ks) ≡ cited old ks
  cited-moved [] h = refl
  cited-moved (k ∷ ks) h =
      let first = h.0.same in
      let rest = cited-moved ks h.1 in
      λ i. fact_before (first i) (rest i)

  all_equal-moved : (ts us : Terms) (ks : List ℕ) → OfAll (Moves old new f) ks → all_equal new ts us (map f ks) ≡ all_equal old ts us ks
  all_equal-moved no_terms no_terms [] h = refl
  all_equal-moved no_terms no_terms (k ∷ ks) h = refl
  all_equal-moved no_terms (terms u us) [] h = refl
  all_equal-moved no_terms (terms u us) (k ∷ ks) h = refl
  all_equal-moved (terms t ts) no_terms [] h = refl
  all_equal-moved (terms t ts) no_terms (k ∷ ks) h = refl
  all_equal-moved (terms t ts) (terms u us) [] h = refl
  all_equal-moved (terms t ts) (terms u us) (k ∷ ks) h =
      let first = h.0.same in
      let rest = all_equal-moved ts us ks h.1 in
      λ i. is_fact (first i) (equation t u) && rest i

  congruent-moved : (t u : Term) (ks : List ℕ) → OfAll (Moves old new f) ks → congruent new t u (map f ks) ≡ congruent old t u ks
  congruent-moved (term h ts) (term k us) ks all = ap (λ b. head_eq h k && b) (all_equal-moved ts us ks all)

  reading-moved : (n : Term → Bool) (d : Reading) (m k : ℕ) → numbered new m ≡ numbered old k → (k ≡ 0 → m ≡ 0) → (m ≡ 0 → k ≡ 0) → cited_reading n new d m ≡ cited_reading n old d k
  reading-moved n d zero zero e to back = refl
  reading-moved n d zero (suc k) e to back = absurd (let no : suc k ≡ 0 = back refl in omega arith)
  reading-moved n d (suc m) zero e to back = absurd (let no : suc m ≡ 0 = to refl in omega arith)
  reading-moved n d (suc m) (suc k) e to back = ap (read_cited n) e

  sum_of-moved : (n : Term → Bool) (d : Reading) (ms : List (Fraction × ℕ)) (c : Combination) → OfMultiples (Moves old new f) ms
      → sum_of n new d (map (multiple_by f) ms) c ≡ sum_of n old d ms c
  sum_of-moved n d [] c h = refl
  sum_of-moved n d (m ∷ ms) c h =
      let here = reading-moved n d (f m.1) m.1 h.0.same h.0.zero_stays h.0.only_zero in
      λ i. then_add (add_reading (number m.0) (here i) c) (λ x. sum_of-moved n d ms x h.1 i)

  refutes-moved : (n : Term → Bool) (a b : Term) (ms : List (Fraction × ℕ)) → OfMultiples (Moves old new f) ms
      → refutes n new a b (map (multiple_by f) ms) ≡ refutes n old a b ms
  refutes-moved n a b ms h = ap shows_above_zero (sum_of-moved n (is_at_most_zero (difference b a (pos 1))) ms nothing h)

  is_empty-moved : (ms : List (Fraction × ℕ)) → is_empty (map (multiple_by f) ms) ≡ is_empty ms
  is_empty-moved [] = refl
  is_empty-moved (m ∷ ms) = refl

  linear-moved : (q : Question) (r : Relation) (first second : List (Fraction × ℕ)) → OfMultiples (Moves old new f) first → OfMultiples (Moves old new f) second
      → linear q new r (map (multiple_by f) first) (map (multiple_by f) second) ≡ linear q old r first second
  linear-moved q (AtMost s t) first second g h =
      let one = refutes-moved (is_number q) (q.at s) (q.at t) first g in
      let two = is_empty-moved second in
      λ i. adds_if (is_number q (q.at s) && (is_number q (q.at t) && (two i && one i))) (at_most (q.at s) (q.at t))
  linear-moved q (Equal s t) first second g h =
      let one = refutes-moved (is_number q) (q.at s) (q.at t) first g in
      let two = refutes-moved (is_number q) (q.at t) (q.at s) second h in
      λ i. adds_if (is_number q (q.at s) && (is_number q (q.at t) && (one i && two i))) (equation (q.at s) (q.at t))

  -- a step does the same, where each fact that it cites has the other number among the other facts
  pub effect-renumbered : (q : Question) (s : Step) → OfCited (Moves old new f) s → effect q new (renumbered f s) ≡ effect q old s
  effect-renumbered q (step.Given k) h = refl
  effect-renumbered q (step.Refl t) h = refl
  effect-renumbered q (step.Symm i) h = ap (λ o. exchanged (sides_of o)) h.same
  effect-renumbered q (step.Trans i j) h =
      let one = h.0.same in
      let two = h.1.same in
      λ i. joined (sides_of (one i)) (sides_of (two i))
  effect-renumbered q (step.Cong t u ks) h = ap (λ b. adds_if b (equation (q.at t) (q.at u))) (congruent-moved (q.at t) (q.at u) ks h)
  effect-renumbered q (step.Linear r first second) h = linear-moved q r first second h.0 h.1
  effect-renumbered q (step.Schema kind ts field) h = refl
  effect-renumbered q (step.Rule r ts) h = refl
  effect-renumbered q (step.Eval s ks) h = ap (λ o. evaluated (is_truth q) (stated q s) o) (cited-moved ks h)
  effect-renumbered q (step.Contra i None) h = ap end_of_one h.0.same
  effect-renumbered q (step.Contra i (Some j)) h =
      let one = h.0.same in
      let two = h.1.same in
      λ i. end_of_two (one i) (two i)
