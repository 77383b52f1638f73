-- Each relation of whole numbers that is known on a path is an atom, or an order that was told.
use Rattle.std.proofs.Common.{◌≡◌, Bool, true, false, cond, ◌&&◌, not, List, [], ◌∷◌, refl, sym, ap, ◌∙◌, subst, Option, Some, None, inl, inr}
use mathlib.Core.Path.{ap₂}
use Rattle.std.specs.Prelude.{◌⊎◌}
use Rattle.std.specs.List.{flat_map}
use Rattle.std.specs.Cmp.Derive.{both_true}
use Rattle.std.proofs.lemmas.Bool.{false≢true}
use Rattle.spv_logic.proofs.list.Tests.{right_true}
use Rattle.spv_logic.specs.declared.types.Sort.{Sort}
use Rattle.spv_logic.specs.declared.types.Sort.TheVariants as sort
use Rattle.spv_logic.specs.declared.types.Shape.{Shape}
use Rattle.spv_logic.specs.declared.types.Decl.{Decl}
use Rattle.spv_logic.specs.declared.operators.Head.{Head}
use Rattle.spv_logic.specs.declared.operators.Head.TheVariants as head
use Rattle.spv_logic.specs.Terms.{Term, term, no_terms, terms, term_eq}
use Rattle.spv_logic.specs.Formulas.{negation, equation, below}
use Rattle.spv_logic.specs.Sorts.{term_sort, with_sorts, sort_before, result_sort}
use Rattle.spv_logic.proofs.Equality.{term_eq-true, term_eq-refl}
use Rattle.spv_term.specs.declared.nodes.Condition.{Condition}
use Rattle.spv_term.specs.Arena.{Arena}
use Rattle.spv_atoms.specs.Atoms.{has_sort, is_truth, is_number, is_atom, connects, is_fixed, only_if, with_term, with_terms, atoms_in, atoms_in_all}
use Rattle.spv_atoms.specs.Order.{passing}
use Rattle.spv_atoms.specs.Tables.{all_truths}
use Rattle.spv_atoms.proofs.Members.{has, has-left, has-last, has-parts, or_cases, or_left, or_right}
use Rattle.spv_proof_rules.specs.Effects.{Question}
use Rattle.spv_proof_rules.specs.Stand.{question}
use Rattle.spv_tableau_rules.specs.constraints.Sayings.{literal}
use Rattle.spv_models.specs.leaf_models.Subterms.{is_among, subterms, arguments, is_plain, truth_arguments}
use Rattle.spv_models.specs.leaf_models.Atoms.{is_open}
use Rattle.spv_models.specs.leaf_models.Atoms as search
use Rattle.spv_models.specs.leaf_models.Laws.{AreFormulas}
use Rattle.spv_models.specs.leaf_models.Tables.{formulas_of}
use Rattle.spv_models.proofs.leaf_models.Closed.{with_term-parts, subterms-has}
use Rattle.spv_models.proofs.leaf_models.Covering.{atoms-there, atoms-are, part-arguments}
use Rattle.spv_models.proofs.leaf_models.Lookups.{passing-parts}
use Rattle.spv_models.proofs.leaf_models.Values.{sort_known}
use Rattle.spv_models.specs.split_trees.Paths.{atoms, questions, facts, Known, given, affirmed, denied, lower, upper}
use Rattle.spv_share.specs.declared.both.Both.{Both}
use Rattle.spv_branch_theory.specs.consistency.States.{AreRelated, IsOrderTold, below_it, above_it}
use Rattle.spv_branch_theory.specs.search_invariant.Facts.{IsFormula, of_atoms, of_parts, IsFact, said, ordered, AreFacts}

-- two terms under a head
abbrev relation : Head → Term → Term → Term
relation h x y = term h (terms x (terms y no_terms))

-- ---- members

with_terms-parts : {A : Type 0} (xs ts : List Term) (u : Term) → has (with_terms xs ts) u ≡ true → (has xs u ≡ true → A) → (has ts u ≡ true → A) → A
with_terms-parts xs [] u h f g = f h
with_terms-parts xs (t ∷ ts) u h f g =
    with_terms-parts (with_term xs t) ts u h
    (λ k. with_term-parts xs t u k f (λ e. g (or_left (term_eq u t) (has ts u) (ap (term_eq u) (sym e) ∙ term_eq-refl u))))
    (λ k. g (or_right (term_eq u t) (has ts u) k))

-- a term that has a member among these
record IsArgumentOf (ts : List Term) (u : Term) : Type 0 where
  origin : Term
  among : has ts origin ≡ true
  there : has (arguments origin) u ≡ true

argument_of : (ts : List Term) (u : Term) → has (flat_map arguments ts) u ≡ true → IsArgumentOf ts u
argument_of [] u h = absurd (false≢true h)
argument_of (t ∷ ts) u h =
    has-parts (arguments t) (flat_map arguments ts) u h (λ k. record { origin = t; among = or_left (term_eq t t) (has ts t) (term_eq-refl t); there = k })
    (λ k. let o = argument_of ts u k in record { origin = o.origin; among = or_right (term_eq o.origin t) (has ts o.origin) o.among; there = o.there })

-- ---- shapes of terms

negation_no_relation : (u : Term) (h : Head) (x y : Term) → negation u ≡ relation h x y → ⊥
negation_no_relation u h x y e = cc

negated_same : (u v : Term) → negation u ≡ negation v → u ≡ v
negated_same u v e = cc

-- a negation that is a literal of a relation negates it
negates : (c : Bool) (u : Term) (h : Head) (x y : Term) → negation u ≡ literal c (relation h x y) → u ≡ relation h x y
negates true u h x y e = absurd (negation_no_relation u h x y e)
negates false u h x y e = negated_same u (relation h x y) e

below_no_negation : (s t u : Term) → below s t ≡ negation u → ⊥
below_no_negation s t u e = cc

-- ---- relations of whole numbers

module _ (shapes : List Shape) (decls : List Decl) where
  abbrev truth : Term → Bool
  truth = is_truth shapes decls

  -- over two whole numbers, a head that gives a truth value is no connective, and not TRUE or FALSE
  no_connective : (h : Head) (b : Bool) → b ≡ false → has_sort sort.Bool (result_sort shapes decls h (sort.Int ∷ sort.Int ∷ [])) ≡ true → (not (connects b h) && not (is_fixed h)) ≡ true
  no_connective head.Not b f e = absurd (false≢true e)
  no_connective head.And b f e = absurd (false≢true e)
  no_connective head.Or b f e = absurd (false≢true e)
  no_connective head.Implies b f e = absurd (false≢true e)
  no_connective head.True b f e = absurd (false≢true e)
  no_connective head.False b f e = absurd (false≢true e)
  no_connective head.Eq b f e = ap (λ c. not c && true) f
  no_connective _ b f e = refl

  module _ (h : Head) (x y : Term) (nx : is_number shapes decls x ≡ true) (ny : is_number shapes decls y ≡ true) where
    relation_sort : term_sort shapes decls (relation h x y) ≡ result_sort shapes decls h (sort.Int ∷ sort.Int ∷ [])
    relation_sort =
        ap₂ (λ o p. with_sorts (sort_before o (sort_before p (Some []))) (result_sort shapes decls h)) (sort_known sort.Int (term_sort shapes decls x) nx) (sort_known sort.Int (term_sort shapes decls y) ny)

    not_truths : all_truths truth (terms x (terms y no_terms)) ≡ false
    not_truths = ap (λ o. has_sort sort.Bool o && (truth y && true)) (sort_known sort.Int (term_sort shapes decls x) nx)

    relation_is : truth (relation h x y) ≡ true → (not (connects (all_truths truth (terms x (terms y no_terms))) h) && not (is_fixed h)) ≡ true
    relation_is e = no_connective h (all_truths truth (terms x (terms y no_terms))) not_truths (ap (has_sort sort.Bool) (sym relation_sort) ∙ e)

    -- such a relation is its own atom
    own_atom : truth (relation h x y) ≡ true → has (atoms_in truth (relation h x y)) (relation h x y) ≡ true
    own_atom e = by_case (connects (all_truths truth (terms x (terms y no_terms))) h) refl
      where
        by_case : (b : Bool) → connects (all_truths truth (terms x (terms y no_terms))) h ≡ b
            → has (cond b (atoms_in_all truth (terms x (terms y no_terms))) (only_if (is_atom truth (relation h x y)) (relation h x y))) (relation h x y) ≡ true
        by_case true f = absurd (false≢true (ap (λ b. not b && not (is_fixed h)) (sym f) ∙ relation_is e))
        by_case false f =
            ap (λ b. has (only_if b (relation h x y)) (relation h x y)) (both_true e (relation_is e)) ∙ or_left (term_eq (relation h x y) (relation h x y)) false (term_eq-refl (relation h x y))

  -- what a formula negates is a formula
  under_negation : (o : Option Sort) → has_sort sort.Bool (with_sorts (sort_before o (Some [])) (result_sort shapes decls head.Not)) ≡ true → has_sort sort.Bool o ≡ true
  under_negation None e = e
  under_negation (Some sort.Bool) e = refl
  under_negation (Some sort.Int) e = e
  under_negation (Some sort.List) e = e
  under_negation (Some (sort.Ptr t)) e = e
  under_negation (Some (sort.Whole t)) e = e
  under_negation (Some (sort.Class t)) e = e

  module _ (fs : List Term) (are : AreFormulas shapes decls fs) (h : Head) (x y : Term) (nx : is_number shapes decls x ≡ true) (ny : is_number shapes decls y ≡ true) where
    -- a relation that is a subterm of sort Bool is an atom, and so is one whose negation is
    literal_atom : (c : Bool) (t : Term) → t ≡ literal c (relation h x y) → has (subterms fs) t ≡ true → truth t ≡ true → has (search.atoms shapes decls fs) (relation h x y) ≡ true
    literal_atom true t e m k =
        atoms-there shapes decls fs are (relation h x y) (relation h x y) (ap (has (subterms fs)) (sym e) ∙ m) (own_atom h x y nx ny (ap truth (sym e) ∙ k))
    literal_atom false t e m k =
        atoms-there shapes decls fs are (negation (relation h x y)) (relation h x y) (ap (has (subterms fs)) (sym e) ∙ m)
        (has-left (atoms_in truth (relation h x y)) [] (relation h x y) (own_atom h x y nx ny (under_negation (term_sort shapes decls (relation h x y)) (ap truth (sym e) ∙ k))))

    -- an atom that is a literal of a relation is the relation
    atom_literal : (c : Bool) (t : Term) → t ≡ literal c (relation h x y) → has (search.atoms shapes decls fs) t ≡ true → has (search.atoms shapes decls fs) (relation h x y) ≡ true
    atom_literal true t e m = ap (has (search.atoms shapes decls fs)) (sym e) ∙ m
    atom_literal false t e m =
        absurd (false≢true (right_true (truth (negation (relation h x y))) false (ap (is_atom truth) (sym e) ∙ atoms-are shapes decls fs are t m)))

-- ---- formulas of a search

-- a question is an atom, or an argument of sort Bool
pub question_formula : (q : Question) → AreFormulas q.shapes q.decls (formulas_of q.sequent) → (t : Term) → is_among (questions q) t ≡ true → IsFormula q t
question_formula q are t m =
    with_terms-parts (atoms q) (passing is_open (truth_arguments (truth q.shapes q.decls) (subterms (formulas_of q.sequent)))) t m of_atoms
    (λ k. let p = passing-parts is_open (truth_arguments (truth q.shapes q.decls) (subterms (formulas_of q.sequent))) t k in
    let r = passing-parts (truth q.shapes q.decls) (flat_map arguments (passing (is_plain (truth q.shapes q.decls)) (subterms (formulas_of q.sequent)))) t p.among in
    let o = argument_of (passing (is_plain (truth q.shapes q.decls)) (subterms (formulas_of q.sequent))) t r.among in
    of_parts (part-arguments q.shapes q.decls (formulas_of q.sequent) are o.origin t (passing-parts (is_plain (truth q.shapes q.decls)) (subterms (formulas_of q.sequent)) o.origin o.among).among o.there) r.passes)

-- one that is a literal of a relation of whole numbers: the relation is an atom
pub formula_atom : (q : Question) → AreFormulas q.shapes q.decls (formulas_of q.sequent) → (h : Head) (x y : Term) → is_number q.shapes q.decls x ≡ true → is_number q.shapes q.decls y ≡ true
    → (c : Bool) (t : Term) → IsFormula q t → t ≡ literal c (relation h x y) → is_among (atoms q) (relation h x y) ≡ true
formula_atom q are h x y nx ny c t (of_atoms m) e = atom_literal q.shapes q.decls (formulas_of q.sequent) are h x y nx ny c t e m
formula_atom q are h x y nx ny c t (of_parts m k) e = literal_atom q.shapes q.decls (formulas_of q.sequent) are h x y nx ny c t e m k

-- ---- what is known

module _ (a : Arena) (b : Both) (q : Question) (more : List Term) (are : AreFormulas q.shapes q.decls (formulas_of q.sequent)) (facts_are : AreFacts a b q more)
    (h : Head) (x y : Term) (nx : is_number q.shapes q.decls x ≡ true) (ny : is_number q.shapes q.decls y ≡ true) where
  abbrev fs : List Term
  fs = formulas_of q.sequent

  -- what is to be shown of the relation
  abbrev IsThere : Bool → Type 0
  IsThere c = (is_among (atoms q) (relation h x y) ≡ true) ⊎ ((c ≡ true) × IsOrderTold a b q (relation h x y))

  formula_there : (c d : Bool) (t : Term) → IsFormula q t → t ≡ literal d (relation h x y) → IsThere c
  formula_there c d t k e = inl (formula_atom q are h x y nx ny d t k e)

  part_there : (c d : Bool) (t : Term) → t ≡ literal d (relation h x y) → has (subterms fs) t ≡ true → truth q.shapes q.decls t ≡ true → IsThere c
  part_there c d t e m k = formula_there c d t (of_parts m k) e

  question_there : (d c : Bool) (t : Term) → t ≡ literal d (relation h x y) → has (questions q) t ≡ true → IsThere c
  question_there d c t e m = formula_there c d t (question_formula q are t m) e

  said_there : (c d : Bool) (t : Term) → IsFormula q t → literal d t ≡ literal c (relation h x y) → IsThere c
  said_there c true t k e = formula_there c c t k e
  said_there c false t k e = formula_there c true t k (negates c t h x y e)

  order_there : (c : Bool) (t : Term) → IsOrderTold a b q t → t ≡ literal c (relation h x y) → IsThere c
  order_there true t o e = inr (refl, subst (IsOrderTold a b q) e o)
  order_there false _ (below_it s t m k) e = absurd (below_no_negation s t (relation h x y) e)
  order_there false _ (above_it s t m k) e = absurd (below_no_negation t s (relation h x y) e)

  more_there : (c : Bool) (t : Term) → IsFact a b q t → t ≡ literal c (relation h x y) → IsThere c
  more_there c _ (said d t k) e = said_there c d t k e
  more_there c _ (ordered t o) e = order_there c t o e

  given_there : (c : Bool) (t : Term) → t ≡ literal c (relation h x y) → has fs t ≡ true → IsThere c
  given_there c t e m = part_there c c t e (subterms-has fs t m) (are t m)

  goal_there : (c : Bool) (t : Term) → t ≡ negation q.sequent.goal → t ≡ literal c (relation h x y) → IsThere c
  goal_there c t n e =
      let is : q.sequent.goal ≡ relation h x y = negates c q.sequent.goal h x y (sym n ∙ e) in
      let m : has fs q.sequent.goal ≡ true = has-last q.sequent.given q.sequent.goal in
      part_there c true q.sequent.goal is (subterms-has fs q.sequent.goal m) (are q.sequent.goal m)

  fact_there : (c : Bool) (t : Term) → t ≡ literal c (relation h x y) → has (facts q more) t ≡ true → IsThere c
  fact_there c t e m =
      has-parts q.sequent.given (negation q.sequent.goal ∷ more) t m (λ k. given_there c t e (has-left q.sequent.given (q.sequent.goal ∷ []) t k))
      (λ k. or_cases (term_eq t (negation q.sequent.goal)) (has more t) k (λ f. goal_there c t (term_eq-true t (negation q.sequent.goal) f) e) (λ f. more_there c t (facts_are.each t f) e))

  known_there : (c : Bool) (t : Term) → Known q (facts q more) t → t ≡ literal c (relation h x y) → IsThere c
  known_there c _ (given t m) e = fact_there c t e m
  known_there c _ (affirmed t cited m all k) e = question_there c c t e m
  known_there c _ (denied t cited m all k) e = question_there true c t (negates c t h x y e) m
  known_there c _ (lower s t m k) e = question_there true c (equation s t) (negates c (equation s t) h x y e) m
  known_there c _ (upper s t m k) e = question_there true c (equation s t) (negates c (equation s t) h x y e) m

pub relations_are_told : (a : Arena) (c : Condition) (b : Both) (fs : List Term) → AreFormulas a.shapes a.decls (formulas_of (question a c).sequent) → AreFacts a b (question a c) fs → AreRelated a b (question a c) (facts (question a c) fs)
relations_are_told a c b fs are facts_are = record { each = λ h x y d nx ny k. known_there a b (question a c) fs are facts_are h x y nx ny d (literal d (relation h x y)) k refl }
