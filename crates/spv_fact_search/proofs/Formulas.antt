-- All that is refuted with a condition are formulas.
use Rattle.std.proofs.Common.{◌≡◌, Bool, true, false, ◌||◌, List, [], ◌∷◌, ◌++◌, Option, Some, None, IfSome, refl, sym, ap, subst}
use Rattle.std.specs.List.{cons_option, filter_map}
use Rattle.std.proofs.lemmas.Bool.{false≢true}
use Rattle.spv_logic.specs.declared.types.Sort.TheVariants as sort
use Rattle.spv_logic.specs.declared.types.Sort.{Sort}
use Rattle.spv_logic.specs.declared.types.Shape.{Shape}
use Rattle.spv_logic.specs.declared.types.Decl.{Decl}
use Rattle.spv_logic.specs.declared.operators.Head.TheVariants.{False, Not}
use Rattle.spv_logic.specs.Terms.{Term, term, no_terms, term_eq}
use Rattle.spv_logic.specs.Formulas.{negation}
use Rattle.spv_logic.specs.Conditions.{Sequent}
use Rattle.spv_logic.specs.Sorts.{result_sort, sort_before, term_sort, with_sorts}
use Rattle.spv_logic.proofs.Equality.{sort_eq-true, term_eq-true, term_eq-refl}
use Rattle.spv_schemas.specs.Instances.{SchemaInstance, instance_fact, schemas}
use Rattle.spv_schemas.specs.Laws.{FactsAreFormulas}
use Rattle.spv_term.specs.declared.nodes.Condition.{Condition}
use Rattle.spv_term.specs.Arena.{Arena}
use Rattle.spv_atoms.specs.Atoms.{has_sort, is_truth}
use Rattle.spv_atoms.proofs.Members.{or_right}
use Rattle.spv_proof_rules.specs.Stand.{question}
use Rattle.spv_models.specs.leaf_models.Laws.{AreFormulas}
use Rattle.spv_models.specs.leaf_models.Subterms.{is_among}
use Rattle.spv_models.specs.leaf_models.Tables.{formulas_of}
use Rattle.spv_verdicts.specs.Schemas.{enlarged, further_facts, used}
use Rattle.spv_fact_search.specs.declared.enlarging.Enlarged.{Enlarged}
use Rattle.spv_fact_search.specs.Enlarging.{IsEnlarged}

-- ---- lists of formulas

module _ (shapes : List Shape) (decls : List Decl) where
  abbrev pub AllTruths : List Term → Type 0
  AllTruths [] = Unit {0}
  AllTruths (f ∷ fs) = (is_truth shapes decls f ≡ true) × AllTruths fs

  pub each-truth : (fs : List Term) → AllTruths fs → AreFormulas shapes decls fs
  each-truth [] all f h = absurd (false≢true h)
  each-truth (g ∷ fs) all f h = by (term_eq f g) refl h (λ k. each-truth fs all.1 f k)
    where
      by : (b : Bool) → term_eq f g ≡ b → (b || is_among fs f) ≡ true → (is_among fs f ≡ true → is_truth shapes decls f ≡ true) → is_truth shapes decls f ≡ true
      by true same k others = subst (λ (t : Term). is_truth shapes decls t ≡ true) (sym (term_eq-true f g same)) all.0
      by false differ k others = others k

  truths-each : (fs : List Term) → AreFormulas shapes decls fs → AllTruths fs
  truths-each [] are = tt
  truths-each (g ∷ fs) are = (are g (ap (λ b. b || is_among fs g) (term_eq-refl g)), truths-each fs (λ f h. are f (or_right (term_eq f g) (is_among fs f) h)))

  pub both : (fs gs : List Term) → AllTruths fs → AllTruths gs → AllTruths (fs ++ gs)
  both [] gs all more = more
  both (f ∷ fs) gs all more = (all.0, both fs gs all.1 more)

  first : (fs gs : List Term) → AllTruths (fs ++ gs) → AllTruths fs
  first [] gs all = tt
  first (f ∷ fs) gs all = (all.0, first fs gs all.1)

  last : (fs : List Term) (g : Term) → AllTruths (fs ++ g ∷ []) → is_truth shapes decls g ≡ true
  last [] g all = all.0
  last (f ∷ fs) g all = last fs g all.1

  -- ---- negations and facts of schemas

  sort_is : (o : Option Sort) → has_sort sort.Bool o ≡ true → o ≡ Some sort.Bool
  sort_is None h = absurd (false≢true h)
  sort_is (Some s) h = ap Some (sort_eq-true s sort.Bool h)

  negated : (g : Term) → is_truth shapes decls g ≡ true → is_truth shapes decls (negation g) ≡ true
  negated g h = ap (λ (o : Option Sort). has_sort sort.Bool (with_sorts (sort_before o (Some [])) (result_sort shapes decls Not))) (sort_is (term_sort shapes decls g) h)

  facts_true : FactsAreFormulas → (found : List SchemaInstance) → AllTruths (filter_map (instance_fact shapes decls) found)
  facts_true law [] = tt
  facts_true law (i ∷ found) = by (instance_fact shapes decls i) refl (facts_true law found)
    where
      by : (o : Option Term) → instance_fact shapes decls i ≡ o → AllTruths (filter_map (instance_fact shapes decls) found) → AllTruths (cons_option o (filter_map (instance_fact shapes decls) found))
      by None none others = others
      by (Some fact) some others = (ap (has_sort sort.Bool) (law shapes decls i.kind i.about i.field fact some), others)

-- ---- a condition with what is refuted with it

pub enlarged-formulas : FactsAreFormulas → (a : Arena) (c : Condition) → AreFormulas a.shapes a.decls (formulas_of (question a c).sequent) → (b : Arena) (d : Condition) → IsEnlarged a c b d
    → AreFormulas b.shapes b.decls (formulas_of (question b d).sequent)
enlarged-formulas law a c are b d e =
    let s = a.shapes in
    let x = a.decls in
    let q = question a c in
    let own = truths-each s x (formulas_of q.sequent) are in
    let more = facts_true s x law (schemas s x (used q)) in
    let refuted = both s x q.sequent.given (negation q.sequent.goal ∷ further_facts q) (first s x q.sequent.given (q.sequent.goal ∷ []) own) (negated s x q.sequent.goal (last s x q.sequent.given q.sequent.goal own), more) in
    let all = both s x (enlarged q).sequent.given (term False no_terms ∷ []) refuted (refl, tt) in
    let there = each-truth s x (formulas_of (enlarged q).sequent) all in
    subst (λ (r : Sequent). AreFormulas b.shapes b.decls (formulas_of r)) (sym e.claim)
    (subst (λ (ds : List Decl). AreFormulas b.shapes ds (formulas_of (enlarged q).sequent)) (sym e.decls)
    (subst (λ (ss : List Shape). AreFormulas ss x (formulas_of (enlarged q).sequent)) (sym e.shapes) there))

pub enlarged-formulas-if : FactsAreFormulas → (a : Arena) (c : Condition) → AreFormulas a.shapes a.decls (formulas_of (question a c).sequent) → (o : Option Enlarged) → IfSome o (λ e. IsEnlarged a c e.terms e.condition)
    → IfSome o (λ e. AreFormulas e.terms.shapes e.terms.decls (formulas_of (question e.terms e.condition).sequent))
enlarged-formulas-if law a c are None h = tt
enlarged-formulas-if law a c are (Some e) h = enlarged-formulas law a c are e.terms e.condition h
