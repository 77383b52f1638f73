-- A term under negations, and what evaluates from it.
use Rattle.std.proofs.Common.{◌≡◌, ℕ, zero, suc, ◌<◌, Bool, true, false, cond, ◌||◌, not, List, [], ◌∷◌, ◌++◌, refl, sym, ap, ◌∙◌, subst, Option, Some, None, inl, inr, arith}
use mathlib.Core.Path.{ap₂}
use Rattle.std.specs.Prelude.{◌⊎◌}
use Rattle.spv_logic.specs.declared.names.names.Symbol.{Symbol}
use Rattle.spv_logic.specs.declared.conditions.TermId.{TermId}
use Rattle.spv_logic.specs.declared.types.Sort.{Sort}
use Rattle.spv_logic.specs.declared.types.Sort.TheVariants as sort
use Rattle.spv_logic.specs.declared.types.Shape.{Shape}
use Rattle.spv_logic.specs.declared.types.Decl.{Decl}
use Rattle.spv_logic.specs.declared.operators.Head.TheVariants.{Not, Var}
use Rattle.spv_logic.specs.Terms.{Term, term, no_terms, term_eq}
use Rattle.spv_logic.specs.Formulas.{negation}
use Rattle.spv_logic.specs.Sorts.{term_sort, with_sorts, sort_before, result_sort}
use Rattle.spv_logic.proofs.Equality.{term_eq-true, term_eq-refl}
use Rattle.spv_term.specs.Arena.{Arena, tree}
use Rattle.spv_atoms.specs.Atoms.{has_sort}
use Rattle.spv_atoms.specs.Atoms as atoms
use Rattle.spv_atoms.specs.Tables.{assigned, or_else, not_of, computed}
use Rattle.spv_atoms.proofs.Members.{or_left, or_right}
use Rattle.spv_proof_rules.specs.Sums.{negated}
use Rattle.spv_proof_rules.specs.Evaluation.{sides, given_negated, given_by, assignment, apart, given_to, opposite, bare, clashes, evaluates}
use Rattle.spv_tableau_rules.proofs.pivots.Algebra.{false_of}
use Rattle.spv_tableau_rules.specs.constraints.Sayings.{literal}
use Rattle.spv_assignments.specs.polarity.Cores.{denials, is_even, IsCore, SayTheSame, are_one, follow}
use Rattle.spv_assignments.proofs.polarity.Parities.{twice_not, turned, turned_even, turned_odd}

-- ---- options

or_nothing : (o : Option Bool) → or_else o None ≡ o
or_nothing None = refl
or_nothing (Some b) = refl

-- there is no value, or it is this one
abbrev IsAtMostOne : Option Bool → Bool → Type 0
IsAtMostOne o b = (o ≡ None) ⊎ (o ≡ Some b)

-- ---- a term that is no negation, under negations

module _ (u : Term) (core : negated u ≡ None) where
  no_negation : (t : Term) → u ≡ negation t → ⊥
  no_negation t e = clash t (sym core ∙ ap negated e)
    where
      clash : (t : Term) → None ≡ Some t → ⊥
      clash t f = cc

  inside_same : (s t : Term) → negation s ≡ negation t → s ≡ t
  inside_same s t e = cc

  count_same : (k i : ℕ) → denials k u ≡ denials i u → k ≡ i
  count_same zero zero e = refl
  count_same zero (suc i) e = absurd (no_negation (denials i u) e)
  count_same (suc k) zero e = absurd (no_negation (denials k u) (sym e))
  count_same (suc k) (suc i) e = ap suc (count_same k i (inside_same (denials k u) (denials i u) e))

  -- the value that a list gives, where its first term has another number of negations, and where it has this one
  skipped : (k i : ℕ) (b : Bool) (rest : List (Term × Bool)) → (k ≡ i → ⊥) → assigned ((denials k u, b) ∷ rest) (denials i u) ≡ assigned rest (denials i u)
  skipped k i b rest differ =
      ap (λ c. cond c (Some b) (assigned rest (denials i u))) (false_of (term_eq (denials k u) (denials i u)) (λ e. differ (count_same k i (term_eq-true (denials k u) (denials i u) e))))

  found : (k : ℕ) (b : Bool) (rest : List (Term × Bool)) → assigned ((denials k u, b) ∷ rest) (denials k u) ≡ Some b
  found k b rest = ap (λ c. cond c (Some b) (assigned rest (denials k u))) (term_eq-refl (denials k u))

  -- ---- what a literal gives

  -- the truth of the term, where its literal has this truth
  abbrev value_of : Bool → Bool → Bool
  value_of d true = d
  value_of d false = not d

  term_gives : (d : Bool) → given_by d u ≡ (u, d) ∷ []
  term_gives d = ap (λ o. (u, d) ∷ given_negated d o) core

  gives_value : (d c : Bool) → assigned (given_by d (literal c u)) u ≡ Some (value_of d c)
  gives_value d true = found 0 d (given_negated d (negated u))
  gives_value d false = skipped 1 0 d ((u, not d) ∷ []) (λ e. cc) ∙ found 0 (not d) []

  gives_fitting : (d c : Bool) (i : ℕ) → IsAtMostOne (assigned (given_by d (literal c u)) (denials (suc i) u)) (turned (suc i) (value_of d c))
  gives_fitting d true i = inl (ap (λ ps. assigned ps (denials (suc i) u)) (term_gives d) ∙ skipped 0 (suc i) d [] (λ e. cc))
  gives_fitting d false zero = inr (found 1 d ((u, not d) ∷ []) ∙ ap Some (sym (twice_not d)))
  gives_fitting d false (suc i) =
      inl (skipped 1 (suc (suc i)) d ((u, not d) ∷ []) (λ e. omega (arith, e)) ∙ skipped 0 (suc (suc i)) (not d) [] (λ e. cc))

  -- nothing of a term that stands above it
  gives_nothing : (d : Bool) (j : ℕ) → assigned (given_by d (literal (is_even j) u)) (denials (suc j) u) ≡ None
  gives_nothing d zero = ap (λ ps. assigned ps (denials 1 u)) (term_gives d) ∙ skipped 0 1 d [] (λ e. cc)
  gives_nothing d (suc i) = by_case (is_even (suc i))
    where
      by_case : (c : Bool) → assigned (given_by d (literal c u)) (denials (suc (suc i)) u) ≡ None
      by_case true = ap (λ ps. assigned ps (denials (suc (suc i)) u)) (term_gives d) ∙ skipped 0 (suc (suc i)) d [] (λ e. cc)
      by_case false = skipped 1 (suc (suc i)) d ((u, not d) ∷ []) (λ e. omega (arith, e)) ∙ skipped 0 (suc (suc i)) (not d) [] (λ e. cc)

  -- ---- values from the inside outward

  module _ (is_truth : Term → Bool) (given : Term → Option Bool) (c : Bool) (here : given u ≡ Some c) where
    abbrev valued : ℕ → Option Bool
    valued m = or_else (given (denials m u)) (computed is_truth given (denials m u))

    -- values that fit, where they are given, are those of all that stands so far inside
    outward : (m : ℕ) → ((i : ℕ) → i < m → IsAtMostOne (given (denials (suc i) u)) (turned (suc i) c)) → valued m ≡ Some (turned m c)
    outward zero fit = ap (λ o. or_else o (computed is_truth given u)) here
    outward (suc m) fit = by_fit (given (denials (suc m) u)) refl (fit m (omega arith)) (outward m (λ i k. fit i (omega (arith, k))))
      where
        by_fit : (o : Option Bool) → given (denials (suc m) u) ≡ o → IsAtMostOne (given (denials (suc m) u)) (turned (suc m) c) → valued m ≡ Some (turned m c) → or_else o (not_of (valued m)) ≡ Some (not (turned m c))
        by_fit None e f before = ap not_of before
        by_fit (Some b) e f before = elim f [ inl k ↦ absurd (clash b (sym k ∙ e)) | inr k ↦ sym e ∙ k ]
          where
            clash : (b : Bool) → None ≡ Some b → ⊥
            clash b k = cc

    -- so what stands outside of it is computed, and clashes where it is given the other truth
    clash_at : (m : ℕ) (b : Bool) → ((i : ℕ) → i < m → IsAtMostOne (given (denials (suc i) u)) (turned (suc i) c)) → given (denials (suc m) u) ≡ Some b → turned m c ≡ b → clashes is_truth given (denials (suc m) u) ≡ true
    clash_at m b fit e f = ap₂ (λ o p. opposite (not_of o) p) (outward m fit ∙ ap Some f) e ∙ other b
      where
        other : (b : Bool) → opposite (not_of (Some b)) (Some b) ≡ true
        other true = refl
        other false = refl

  -- ---- evaluation

  module _ (is_truth : Term → Bool) (j : ℕ) where
    abbrev whole : Term
    whole = denials (suc (suc j)) u

    abbrev core_literal : Term
    core_literal = literal (is_even j) u

    -- the literal from the term
    module _ where
      abbrev from_term : Term → Option Bool
      from_term = given_to (denials (suc (suc j)) u ∷ []) (literal (is_even j) u)

      from_term_inside : (i : ℕ) → i < suc j → assigned (assignment (denials (suc (suc j)) u ∷ []) (literal (is_even j) u)) (denials i u) ≡ assigned (given_by false (literal (is_even j) u)) (denials i u)
      from_term_inside i k =
          skipped (suc (suc j)) i true ((denials (suc j) u, false) ∷ given_by false (literal (is_even j) u)) (λ e. omega (arith, e, k))
          ∙ skipped (suc j) i false (given_by false (literal (is_even j) u)) (λ e. omega (arith, e, k))

      from_term_core : from_term u ≡ Some (value_of false (is_even j))
      from_term_core = ap (λ o. or_else o (apart (denials (suc (suc j)) u ∷ []) (sides u))) (from_term_inside 0 (omega arith) ∙ gives_value false (is_even j))

      from_term_fits : (i : ℕ) → i < j → IsAtMostOne (from_term (denials (suc i) u)) (turned (suc i) (value_of false (is_even j)))
      from_term_fits i k =
          subst (λ o. IsAtMostOne o (turned (suc i) (value_of false (is_even j))))
          (sym (or_nothing (assigned (assignment (denials (suc (suc j)) u ∷ []) (literal (is_even j) u)) (denials (suc i) u)) ∙ from_term_inside (suc i) (omega (arith, k)))) (gives_fitting false (is_even j) i)

      from_term_bare : from_term (denials (suc j) u) ≡ Some false
      from_term_bare =
          or_nothing (assigned (assignment (denials (suc (suc j)) u ∷ []) (literal (is_even j) u)) (denials (suc j) u))
          ∙ (skipped (suc (suc j)) (suc j) true ((denials (suc j) u, false) ∷ given_by false (literal (is_even j) u)) (λ e. omega (arith, e)) ∙ found (suc j) false (given_by false (literal (is_even j) u)))

      denied : (b : Bool) → value_of false b ≡ not b
      denied true = refl
      denied false = refl

      pub literal_follows : evaluates is_truth (denials (suc (suc j)) u ∷ []) (literal (is_even j) u) ≡ true
      literal_follows =
          or_right (clashes is_truth from_term (bare (literal (is_even j) u))) (clashes is_truth from_term (denials (suc j) u) || false)
          (or_left (clashes is_truth from_term (denials (suc j) u)) false
          (clash_at is_truth from_term (value_of false (is_even j)) from_term_core j false from_term_fits from_term_bare (ap (turned j) (denied (is_even j)) ∙ turned_odd j)))

    -- the term from the literal
    module _ where
      abbrev from_literal : Term → Option Bool
      from_literal = given_to (literal (is_even j) u ∷ []) (denials (suc (suc j)) u)

      abbrev of_term : List (Term × Bool)
      of_term = (denials (suc (suc j)) u, false) ∷ (denials (suc j) u, true) ∷ []

      appended : (ps rs : List (Term × Bool)) (t : Term) → assigned (ps ++ rs) t ≡ or_else (assigned ps t) (assigned rs t)
      appended [] rs t = refl
      appended (p ∷ ps) rs t = by_case (term_eq p.0 t) (appended ps rs t)
        where
          by_case : (c : Bool) → assigned (ps ++ rs) t ≡ or_else (assigned ps t) (assigned rs t) → cond c (Some p.1) (assigned (ps ++ rs) t) ≡ or_else (cond c (Some p.1) (assigned ps t)) (assigned rs t)
          by_case true later = refl
          by_case false later = later

      both_given : (t : Term) → assigned (assignment (literal (is_even j) u ∷ []) (denials (suc (suc j)) u)) t ≡ or_else (assigned (given_by true (literal (is_even j) u)) t) (assigned of_term t)
      both_given t =
          appended (given_by true (literal (is_even j) u) ++ []) of_term t
          ∙ ap (λ o. or_else o (assigned of_term t)) (appended (given_by true (literal (is_even j) u)) [] t ∙ or_nothing (assigned (given_by true (literal (is_even j) u)) t))

      term_inside : (i : ℕ) → i < suc j → assigned of_term (denials i u) ≡ None
      term_inside i k = skipped (suc (suc j)) i false ((denials (suc j) u, true) ∷ []) (λ e. omega (arith, e, k)) ∙ skipped (suc j) i true [] (λ e. omega (arith, e, k))

      from_literal_inside : (i : ℕ) → i < suc j → assigned (assignment (literal (is_even j) u ∷ []) (denials (suc (suc j)) u)) (denials i u) ≡ assigned (given_by true (literal (is_even j) u)) (denials i u)
      from_literal_inside i k =
          both_given (denials i u) ∙ (ap (or_else (assigned (given_by true (literal (is_even j) u)) (denials i u))) (term_inside i k) ∙ or_nothing (assigned (given_by true (literal (is_even j) u)) (denials i u)))

      from_literal_core : from_literal u ≡ Some (value_of true (is_even j))
      from_literal_core = ap (λ o. or_else o (apart (literal (is_even j) u ∷ []) (sides u))) (from_literal_inside 0 (omega arith) ∙ gives_value true (is_even j))

      from_literal_fits : (i : ℕ) → i < j → IsAtMostOne (from_literal (denials (suc i) u)) (turned (suc i) (value_of true (is_even j)))
      from_literal_fits i k =
          subst (λ o. IsAtMostOne o (turned (suc i) (value_of true (is_even j))))
          (sym (or_nothing (assigned (assignment (literal (is_even j) u ∷ []) (denials (suc (suc j)) u)) (denials (suc i) u)) ∙ from_literal_inside (suc i) (omega (arith, k)))) (gives_fitting true (is_even j) i)

      from_literal_bare : from_literal (denials (suc j) u) ≡ Some true
      from_literal_bare =
          or_nothing (assigned (assignment (literal (is_even j) u ∷ []) (denials (suc (suc j)) u)) (denials (suc j) u))
          ∙ (both_given (denials (suc j) u)
          ∙ (ap (λ o. or_else o (assigned of_term (denials (suc j) u))) (gives_nothing true j)
          ∙ (skipped (suc (suc j)) (suc j) false ((denials (suc j) u, true) ∷ []) (λ e. omega (arith, e)) ∙ found (suc j) true [])))

      affirmed : (b : Bool) → value_of true b ≡ b
      affirmed true = refl
      affirmed false = refl

      pub term_follows : evaluates is_truth (literal (is_even j) u ∷ []) (denials (suc (suc j)) u) ≡ true
      term_follows =
          or_left (clashes is_truth from_literal (denials (suc j) u)) (clashes is_truth from_literal (bare (literal (is_even j) u)) || false)
          (clash_at is_truth from_literal (value_of true (is_even j)) from_literal_core j true from_literal_fits from_literal_bare (ap (turned j) (affirmed (is_even j)) ∙ turned_even j))

  -- so under each number of negations
  say_the_same : (is_truth : Term → Bool) (k : ℕ) → SayTheSame is_truth (denials k u) (literal (is_even k) u)
  say_the_same is_truth zero = are_one refl
  say_the_same is_truth (suc zero) = are_one refl
  say_the_same is_truth (suc (suc j)) = subst (λ b. SayTheSame is_truth (denials (suc (suc j)) u) (literal b u)) (sym (twice_not (is_even j))) (follow (literal_follows is_truth j) (term_follows is_truth j))

-- ---- a term of an arena, and its core

pub core_says : (a : Arena) (t u : TermId) (even : Bool) → IsCore a t u even → (is_truth : Term → Bool) → SayTheSame is_truth (tree a t) (literal even (tree a u))
core_says a t u even k is_truth =
    subst (λ s. SayTheSame is_truth s (literal even (tree a u))) (sym k.under)
    (subst (λ b. SayTheSame is_truth (denials k.count (tree a u)) (literal b (tree a u))) (sym k.parity) (say_the_same (tree a u) k.bare is_truth k.count))

-- what a formula negates is a formula
under_negation : (shapes : List Shape) (decls : List Decl) (o : Option Sort) → has_sort sort.Bool (with_sorts (sort_before o (Some [])) (result_sort shapes decls Not)) ≡ true → has_sort sort.Bool o ≡ true
under_negation shapes decls None e = e
under_negation shapes decls (Some sort.Bool) e = refl
under_negation shapes decls (Some sort.Int) e = e
under_negation shapes decls (Some sort.List) e = e
under_negation shapes decls (Some (sort.Ptr t)) e = e
under_negation shapes decls (Some (sort.Whole t)) e = e
under_negation shapes decls (Some (sort.Class t)) e = e

under_denials : (shapes : List Shape) (decls : List Decl) (k : ℕ) (u : Term) → atoms.is_truth shapes decls (denials k u) ≡ true → atoms.is_truth shapes decls u ≡ true
under_denials shapes decls zero u e = e
under_denials shapes decls (suc k) u e = under_denials shapes decls k u (under_negation shapes decls (term_sort shapes decls (denials k u)) e)

pub core_truth : (a : Arena) (t u : TermId) (even : Bool) → IsCore a t u even → atoms.is_truth a.shapes a.decls (tree a t) ≡ true → atoms.is_truth a.shapes a.decls (tree a u) ≡ true
core_truth a t u even k e = under_denials a.shapes a.decls k.count (tree a u) (ap (atoms.is_truth a.shapes a.decls) (sym k.under) ∙ e)

pub stands_alone : (k : ℕ) (u : Term) → k < 2 → denials k u ≡ literal (is_even k) u
stands_alone zero u below = refl
stands_alone (suc zero) u below = refl
stands_alone (suc (suc k)) u below = absurd (omega arith)

pub not_itself : (is_truth : Term → Bool) (x : Symbol) (s : Sort) (n : ℕ) → evaluates is_truth (term (Var x s n) no_terms ∷ []) (term (Var x s n) no_terms) ≡ false
not_itself is_truth x s n = refl
