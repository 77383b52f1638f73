-- Where the values clash that facts give: among the terms of an arena, or nowhere.
use Rattle.std.proofs.Common.{◌≡◌, ◌<◌, Bool, true, false, cond, ◌&&◌, ◌||◌, not, List, [], ◌∷◌, length, refl, sym, ap, ◌∙◌, Option, Some, None, ℤ, inl, inr, ◌⊎◌, arith}
use mathlib.Core.Path.{ap₂}
use Rattle.std.specs.List.{list_any}
use Rattle.std.specs.Int.RustNames.{int_lt}
use Rattle.std.specs.Ordering.{int_eq}
use Rattle.std.proofs.lemmas.Bool.{false≢true}
use Rattle.std.proofs.lemmas.Option.{same_Some}
use Rattle.spv_logic.specs.declared.conditions.TermId.{TermId}
use Rattle.spv_logic.specs.declared.types.Sort.{Sort}
use Rattle.spv_logic.specs.declared.types.Sort.TheVariants as sort
use Rattle.spv_logic.specs.declared.operators.Head.TheVariants.{Eq}
use Rattle.spv_logic.specs.Terms.{Term, term, no_terms, terms, term_eq}
use Rattle.spv_logic.specs.Formulas.{negation, equation, below}
use Rattle.spv_logic.specs.Sorts.{term_sort}
use Rattle.spv_logic.proofs.Equality.{term_eq-true, term_eq-refl, int_eq-true, bool_eq-refl, sort_eq-true}
use Rattle.spv_term.specs.Arena.{Arena, tree}
use Rattle.spv_atoms.specs.Tables.{or_else, computed, numeral, compare_known, numeral_relation, all_truths, equation_value, first_of, second_of, values}
use Rattle.spv_atoms.specs.Atoms as atoms
use Rattle.spv_proof_rules.specs.Sums.{negated}
use Rattle.spv_proof_rules.specs.Evaluation.{sides, cites, apart, given_to, bare, bare_or, opposite, clashes, evaluates}
use Rattle.spv_tableau_rules.specs.constraints.Sayings.{literal}
use Rattle.spv_assignments.specs.kleene.Given as given
use Rattle.spv_assignments.specs.kleene.Given.{IsComputed, Agree, AgreeAt}
use Rattle.spv_assignments.proofs.kleene.Same.{clash_same}
use Rattle.spv_assignments.specs.partial_assignment.Values.{told, told_or_apart, supposed, supposed_value, AreLiterals, AreOver, IsIn, IsCase}
use Rattle.spv_assignments.specs.partial_assignment.Following.{is_truth}
use Rattle.spv_assignments.proofs.partial_assignment.Told.{core_value_of}
use Rattle.spv_assignments.proofs.partial_assignment.Supposing.{MaySuppose, agrees_given, given_bare, given_core, listed_here, listed_there}

-- ---- truths

opposite_none : (o : Option Bool) → opposite o None ≡ false
opposite_none None = refl
opposite_none (Some b) = refl

opposite_same : (b : Bool) → opposite (Some b) (Some b) ≡ false
opposite_same b = ap not (bool_eq-refl b)

-- where what is given is what is computed, or nothing, nothing clashes
pub computed_quiet : (isT : Term → Bool) (given : Term → Option Bool) (t : Term) → IsComputed isT given t → clashes isT given t ≡ false
computed_quiet isT given t h = by_case (given t) refl
  where
    by_case : (o : Option Bool) → given t ≡ o → opposite (computed isT given t) (given t) ≡ false
    by_case None e = ap (opposite (computed isT given t)) e ∙ opposite_none (computed isT given t)
    by_case (Some b) e =
        ap₂ opposite (sym h ∙ ap (λ o. or_else o (computed isT given t)) e) e ∙ opposite_same b

-- what clashes has a value
pub clash_has : (o p : Option Bool) → opposite o p ≡ true → (b : Bool) × (p ≡ Some b)
clash_has o (Some b) e = (b, refl)
clash_has o None e = absurd (false≢true (sym (opposite_none o) ∙ e))

-- ---- facts

pub told_cites : (facts : List Term) (t : Term) (b : Bool) → told facts t ≡ Some b → cites facts (literal b t) ≡ true
told_cites facts t b e = by_case (cites facts t) refl (cites facts (negation t)) refl b e
  where
    by_case : (c : Bool) → cites facts t ≡ c → (d : Bool) → cites facts (negation t) ≡ d → (b : Bool) → cond (cites facts t) (Some true) (cond (cites facts (negation t)) (Some false) None) ≡ Some b → cites facts (literal b t) ≡ true
    by_case true h d k true g = h
    by_case true h d k false g = absurd (true_false (sym (ap (λ x. cond x (Some true) (cond (cites facts (negation t)) (Some false) None)) h) ∙ g))
      where
        true_false : Some true ≡ Some false → ⊥
        true_false x = cc
    by_case false h true k false g = k
    by_case false h true k true g = absurd (false_true (sym (ap₂ (λ x y. cond x (Some true) (cond y (Some false) None)) h k) ∙ g))
      where
        false_true : Some false ≡ Some true → ⊥
        false_true x = cc
    by_case false h false k b g = absurd (none_some (sym (ap₂ (λ x y. cond x (Some true) (cond y (Some false) None)) h k) ∙ g))
      where
        none_some : None ≡ Some b → ⊥
        none_some x = cc

any_cited : (test : Term → Bool) (facts : List Term) (t : Term) → cites facts t ≡ true → test t ≡ true → list_any test facts ≡ true
any_cited test [] t e h = absurd (false≢true e)
any_cited test (f ∷ facts) t e h = by_case (term_eq t f) refl (λ k. any_cited test facts t k h)
  where
    by_case : (b : Bool) → term_eq t f ≡ b → (cites facts t ≡ true → list_any test facts ≡ true) → (test f || list_any test facts) ≡ true
    by_case true k later = ap (λ x. x || list_any test facts) (sym (ap test (term_eq-true t f k)) ∙ h)
    by_case false k later = ap (λ x. test f || x) (later (sym (ap (λ x. x || cites facts t) k) ∙ e)) ∙ or_true (test f)
      where
        or_true : (x : Bool) → (x || true) ≡ true
        or_true true = refl
        or_true false = refl

pub bare_literal : (b : Bool) (t : Term) → negated t ≡ None → bare (literal b t) ≡ t
bare_literal true t n = ap (λ o. bare_or o t) n
bare_literal false t n = refl

-- ---- a clash is one of a step that evaluates

module _ (isT : Term → Bool) (facts : List Term) (are : AreLiterals facts) (f : Term) (may : MaySuppose facts f) where
  abbrev listed : Term → Option Bool
  listed = supposed facts (bare f) (supposed_value f)

  -- what clashes: the term that is supposed, or one that has its truth by a fact
  pub data Source (t : Term) : Type 0 where
    itself : t ≡ bare f → Source t
    by_fact : (b : Bool) → negated t ≡ None → told facts t ≡ Some b → Source t

  same_given : (t : Term) → negated t ≡ None ⊎ (t ≡ bare f) → listed t ≡ given_to facts f t
  same_given t which = by_case (term_eq t (bare f)) refl which
    where
      here : t ≡ bare f → listed t ≡ given_to facts f t
      here e = by_agreeing (agrees_given facts are f isT may t)
        where
          by_agreeing : AgreeAt isT listed (given_to facts f) t → listed t ≡ given_to facts f t
          by_agreeing (given.same h) = h
          by_agreeing (given.computed_by_both p q) = listed_here facts are f t (ap (λ x. term_eq x (bare f)) e ∙ term_eq-refl (bare f)) ∙ sym (ap (given_to facts f) e ∙ given_bare facts are f may)

      by_case : (b : Bool) → term_eq t (bare f) ≡ b → negated t ≡ None ⊎ (t ≡ bare f) → listed t ≡ given_to facts f t
      by_case true e w = here (term_eq-true t (bare f) e)
      by_case false e (inl n) = listed_there facts are f t e ∙ (core_value_of facts t n ∙ sym (given_core facts are f t e n))
      by_case false e (inr h) = here h

  pub evaluated : (t : Term) → Source t → clashes isT listed t ≡ true → evaluates isT facts f ≡ true
  evaluated t (itself e) h =
      let k : clashes isT (given_to facts f) (bare f) ≡ true = sym (ap (clashes isT (given_to facts f)) e) ∙ (sym (clash_same isT listed (given_to facts f) (agrees_given facts are f isT may) t (same_given t (inr e))) ∙ h) in
      ap (λ x. x || list_any (λ u. clashes isT (given_to facts f) (bare u)) facts) k
  evaluated t (by_fact b n g) h =
      let k : clashes isT (given_to facts f) t ≡ true = sym (clash_same isT listed (given_to facts f) (agrees_given facts are f isT may) t (same_given t (inl n))) ∙ h in
      let any : list_any (λ u. clashes isT (given_to facts f) (bare u)) facts ≡ true
      = any_cited (λ u. clashes isT (given_to facts f) (bare u)) facts (literal b t) (told_cites facts t b g) (ap (clashes isT (given_to facts f)) (bare_literal b t n) ∙ k) in
      ap (λ x. clashes isT (given_to facts f) (bare f) || x) any ∙ or_true (clashes isT (given_to facts f) (bare f))
    where
      or_true : (x : Bool) → (x || true) ≡ true
      or_true true = refl
      or_true false = refl

-- ---- orders

-- no order that facts give is one of numerals that is false
pub record OrdersAreQuiet (facts : List Term) : Type 0 where
  pub each : (s t : Term) → cites facts (below s t) ≡ true → numeral_relation (below s t) ≡ Some false → ⊥

abbrev two : Term → Term → Term × Term
two s t = (s, t)

sides_are : (t : Term) (st : Term × Term) → sides t ≡ Some st → t ≡ equation st.0 st.1
sides_are (term Eq (terms s (terms u no_terms))) st e = ap (λ (p : Term × Term). equation p.0 p.1) (same_Some (two s u) st e)
sides_are _ st e = absurd cc

not_truth : (a : Arena) (t : Term) → atoms.is_number a.shapes a.decls t ≡ true → is_truth a t ≡ false
not_truth a t h = by_sort (term_sort a.shapes a.decls t) h
  where
    by_sort : (o : Option Sort) → atoms.has_sort sort.Int o ≡ true → atoms.has_sort sort.Bool o ≡ false
    by_sort None e = absurd (false≢true e)
    by_sort (Some s) e = ap (λ r. atoms.has_sort sort.Bool (Some r)) (sort_eq-true s sort.Int e)

-- the computed value of an equation of numbers is that of a relation of numerals
equation_computed : (a : Arena) (given : Term → Option Bool) (x y : Term) → atoms.is_number a.shapes a.decls x ≡ true → computed (is_truth a) given (equation x y) ≡ numeral_relation (equation x y)
equation_computed a given x y h =
    ap (λ b. equation_value (b && all_truths (is_truth a) (terms y no_terms)) (first_of (values (is_truth a) given (terms x (terms y no_terms)))) (second_of (values (is_truth a) given (terms x (terms y no_terms)))) (terms x (terms y no_terms)))
    (not_truth a x h)

less_itself : (z : ℤ) → int_lt z z ≡ false
less_itself z = grind (arith)

-- where sides are in an order that is quiet, no equal numerals are
unequal : (m n : Option ℤ) → (compare_known int_lt m n ≡ Some false → ⊥) → opposite (compare_known int_eq m n) (Some false) ≡ false
unequal None n h = refl
unequal (Some x) None h = refl
unequal (Some x) (Some y) h = by_case (int_eq x y) refl
  where
    by_case : (b : Bool) → int_eq x y ≡ b → opposite (Some (int_eq x y)) (Some false) ≡ false
    by_case false e = ap (λ b. opposite (Some b) (Some false)) e
    by_case true e = absurd (h (ap (λ z. Some (int_lt x z)) (sym (int_eq-true x y e)) ∙ ap Some (less_itself x)))

unequal_back : (m n : Option ℤ) → (compare_known int_lt n m ≡ Some false → ⊥) → opposite (compare_known int_eq m n) (Some false) ≡ false
unequal_back None n h = refl
unequal_back (Some x) None h = refl
unequal_back (Some x) (Some y) h = by_case (int_eq x y) refl
  where
    by_case : (b : Bool) → int_eq x y ≡ b → opposite (Some (int_eq x y)) (Some false) ≡ false
    by_case false e = ap (λ b. opposite (Some b) (Some false)) e
    by_case true e = absurd (h (ap (λ z. Some (int_lt z x)) (sym (int_eq-true x y e)) ∙ ap Some (less_itself x)))

-- an equation of whose sides facts give an order does not clash
pub apart_quiet : (a : Arena) (facts : List Term) → AreOver a facts → OrdersAreQuiet facts → (given : Term → Option Bool) (t : Term) (b : Bool) → apart facts (sides t) ≡ Some b → opposite (computed (is_truth a) given t) (Some b) ≡ false
apart_quiet a facts over quiet given t b e = by_sides (sides t) refl e
  where
    false_is : Some false ≡ Some b → false ≡ b
    false_is h = cc

    at_equation : (x y : Term) → t ≡ equation x y → (c : Bool) → cites facts (below x y) ≡ c → (d : Bool) → cites facts (below y x) ≡ d → cond (c || d) (Some false) None ≡ Some b → opposite (computed (is_truth a) given t) (Some b) ≡ false
    at_equation x y is true h d k g =
        let n = over.numbers x y h in
        ap₂ opposite (ap (computed (is_truth a) given) is ∙ equation_computed a given x y n.0) (sym g) ∙ unequal (numeral x) (numeral y) (quiet.each x y h)
    at_equation x y is false h true k g =
        let n = over.numbers y x k in
        ap₂ opposite (ap (computed (is_truth a) given) is ∙ equation_computed a given x y n.1) (sym g) ∙ unequal_back (numeral x) (numeral y) (quiet.each y x k)
    at_equation x y is false h false k g = absurd (none_some g)
      where
        none_some : None ≡ Some b → ⊥
        none_some z = cc

    by_sides : (o : Option (Term × Term)) → sides t ≡ o → apart facts o ≡ Some b → opposite (computed (is_truth a) given t) (Some b) ≡ false
    by_sides None s g = absurd (none_some g)
      where
        none_some : None ≡ Some b → ⊥
        none_some z = cc
    by_sides (Some st) s g =
        at_equation st.0 st.1 (sides_are t st s) (cites facts (below st.0 st.1)) refl (cites facts (below st.1 st.0)) refl g

-- ---- all terms

-- the ways to give values that are looked at: the code's among the terms of an arena, and another one, which agrees
module _ (a : Arena) (facts : List Term) (are : AreLiterals facts) (over : AreOver a facts) (quiet : OrdersAreQuiet facts) (listed other : Term → Option Bool) (agree : Agree (is_truth a) listed other)
    (inside : (t : TermId) → t.0 < length a.nodes → clashes (is_truth a) listed (tree a t) ≡ false) where
  -- a term of the arena to which both give the same does not clash
  pub in_arena : (t : Term) → IsIn a t → listed t ≡ other t → clashes (is_truth a) other t ≡ false
  in_arena t h e =
      sym (clash_same (is_truth a) listed other agree t e) ∙ (sym (ap (clashes (is_truth a) listed) h.is) ∙ inside h.id h.in_range)

  -- nor does any term that is no negation, where both give what the facts do
  pub core_quiet : (t : Term) → negated t ≡ None → listed t ≡ told_or_apart facts t → other t ≡ told_or_apart facts t → clashes (is_truth a) other t ≡ false
  core_quiet t n e f = by_told (told facts t) refl
    where
      by_apart : told facts t ≡ None → (o : Option Bool) → apart facts (sides t) ≡ o → clashes (is_truth a) other t ≡ false
      by_apart h None k = ap (opposite (computed (is_truth a) other t)) (f ∙ ap₂ or_else h k) ∙ opposite_none (computed (is_truth a) other t)
      by_apart h (Some b) k = ap (opposite (computed (is_truth a) other t)) (f ∙ ap₂ or_else h k) ∙ apart_quiet a facts over quiet other t b k

      -- a fact says that it is true, or that it is false
      by_there : (b : Bool) → told facts t ≡ Some b → IsIn a (bare (literal b t)) ⊎ IsCase (literal b t) → clashes (is_truth a) other t ≡ false
      by_there b h (inl k) = in_arena t (record { id = k.id; in_range = k.in_range; is = k.is ∙ bare_literal b t n }) (e ∙ sym f)
      by_there true h (inr k) = by_numerals (numeral_relation t) refl
        where
          computed_is : computed (is_truth a) other t ≡ numeral_relation t
          computed_is = ap (computed (is_truth a) other) k.is ∙ sym (ap numeral_relation k.is)

          by_numerals : (o : Option Bool) → numeral_relation t ≡ o → clashes (is_truth a) other t ≡ false
          by_numerals None g = ap (λ o. opposite o (other t)) (computed_is ∙ g)
          by_numerals (Some true) g = ap₂ opposite (computed_is ∙ g) (f ∙ ap (λ o. or_else o (apart facts (sides t))) h)
          by_numerals (Some false) g = absurd (k.holds g)
      by_there false h (inr k) = absurd (not_order (sym (ap negated k.is)))
        where
          not_order : negated (below k.left k.right) ≡ Some t → ⊥
          not_order z = cc

      by_told : (o : Option Bool) → told facts t ≡ o → clashes (is_truth a) other t ≡ false
      by_told None h = by_apart h (apart facts (sides t)) refl
      by_told (Some b) h = by_there b h (over.there (literal b t) (told_cites facts t b h))
