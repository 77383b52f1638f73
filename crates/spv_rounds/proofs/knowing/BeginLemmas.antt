-- A condition in an arena of its own, with what claims that it is refuted.
use Rattle.std.proofs.Common.{◌≡◌, ◌<◌, ◌≤◌, Bool, true, false, ◌||◌, Option, Some, None, List, [], ◌∷◌, ◌++◌, map, length, is_some, IsSome, refl, sym, ap, ◌∙◌, subst, arith}
use Rattle.std.proofs.lemmas.List.{map-append}
use Rattle.spv_logic.specs.declared.conditions.TermId.{TermId}
use Rattle.spv_logic.specs.declared.types.Sort.TheVariants as sort
use Rattle.spv_logic.specs.declared.types.Sort.{Sort}
use Rattle.spv_logic.specs.declared.operators.Head.TheVariants.{False, Not}
use Rattle.spv_logic.specs.Terms.{Term, term, no_terms, term_eq}
use Rattle.spv_logic.specs.Formulas.{negation}
use Rattle.spv_logic.specs.Conditions.{Sequent}
use Rattle.spv_logic.specs.Sorts.{result_sort}
use Rattle.spv_logic.proofs.Equality.{sort_eq-true, term_eq-refl}
use Rattle.spv_term.specs.declared.nodes.Condition.{Condition}
use Rattle.spv_term.specs.Arena.{Arena, IsArena, AllBelow, Extends, tree, trees, sort_at, sorts_at}
use Rattle.spv_term.proofs.ArenaLemmas.{IsWellSorted-arena, Extends-trans, AllBelow-Extends, map_tree-Extends, tree-Extends, length-Extends}
use Rattle.spv_term.proofs.TreeLemmas.{AllBelow-append}
use Rattle.spv_atoms.specs.Atoms.{has_sort, is_truth}
use Rattle.spv_atoms.proofs.Members.{or_right}
use Rattle.spv_proof_rules.specs.Stand.{question}
use Rattle.spv_models.specs.leaf_models.Laws.{AreFormulas}
use Rattle.spv_models.specs.leaf_models.Subterms.{is_among}
use Rattle.spv_models.specs.leaf_models.Tables.{formulas_of}
use Rattle.spv_search_terms.specs.condition_copy.Copies.{IsSameClaim, StandsFor}
use Rattle.std.proofs.lemmas.Bool.{false≢true}
use Rattle.spv_logic.specs.declared.types.Shape.{Shape}
use Rattle.spv_logic.specs.declared.types.Decl.{Decl}
use Rattle.spv_logic.specs.Sorts.{sort_before, term_sort, with_sorts}
use Rattle.spv_logic.proofs.Equality.{term_eq-true}
use Rattle.spv_proof_rules.specs.Rules.{Rule}
use Rattle.spv_proof_rules.specs.Stand.{question_under}
use Rattle.spv_verdicts.specs.Verdicts.{Limits}
use Rattle.spv_verdicts.specs.declared.answers.verdicts.Round.{Round}
use Rattle.spv_rounds.specs.Claims.{formulas, claim}
use Rattle.spv_rounds.specs.declared.knowing.known.Known.{Known}
use Rattle.spv_rounds.specs.knowing.Known.{IsClaim, IsKnown, RoundsStand, members_in}

-- ---- that the goal is false

among-last : (ts : List Term) (t : Term) → is_among (ts ++ t ∷ []) t ≡ true
among-last [] t = ap (λ b. b || is_among [] t) (term_eq-refl t)
among-last (s ∷ ts) t = or_right (term_eq t s) (is_among (ts ++ t ∷ []) t) (among-last ts t)

-- the negation of a formula is well sorted
may-deny : (a : Arena) → IsArena a → (t : TermId) → t.0 < length a.nodes → is_truth a.shapes a.decls (tree a t) ≡ true → IsSome (result_sort a.shapes a.decls Not (sorts_at a (t ∷ [])))
may-deny a ok t h truth =
    let s : sort_at a t ≡ sort.Bool = sort_eq-true (sort_at a t) sort.Bool (sym (ap (has_sort sort.Bool) (IsWellSorted-arena a ok t h)) ∙ truth) in
    ap (λ (x : Sort). is_some (result_sort a.shapes a.decls Not (x ∷ []))) s

module _ (a : Arena) (c : Condition) (k : Arena) (d : Condition) (same : IsSameClaim a c k d) (same_shapes : k.shapes ≡ a.shapes) (same_decls : k.decls ≡ a.decls) (b : Arena) (grows : Extends k b) where
  goal_there : tree b d.goal ≡ tree a c.goal
  goal_there = tree-Extends grows d.goal same.goal_in ∙ ap (λ (s : Sequent). s.goal) same.claim

  pub goal-denied : IsArena b → AreFormulas a.shapes a.decls (formulas_of (question a c).sequent) → IsSome (result_sort b.shapes b.decls Not (sorts_at b (d.goal ∷ [])))
  goal-denied ok formulas =
      may-deny b ok d.goal (omega (arith, same.goal_in, length-Extends grows))
      ((λ i. is_truth ((grows.shapes ∙ same_shapes) i) ((grows.decls ∙ same_decls) i) (goal_there i)) ∙ formulas (tree a c.goal) (among-last (map (tree a) c.given) (tree a c.goal)))

  -- ---- before any round

  module _ (n : Arena) (more : Extends b n) (x : TermId) (x_in : x.0 < length n.nodes) (x_is : tree n x ≡ term Not (trees b (d.goal ∷ [])))
      (f : TermId) (falsity : StandsFor k f (term False no_terms)) (given : List TermId) (given_is : given ≡ d.given ++ x ∷ []) where
    grown : Extends k n
    grown = Extends-trans grows more

    hypotheses : map (tree n) d.given ≡ map (tree a) c.given
    hypotheses = map_tree-Extends grown d.given same.given_in ∙ ap (λ (s : Sequent). s.given) same.claim

    denied : tree n x ≡ negation (tree a c.goal)
    denied = x_is ∙ ap (λ (t : Term). negation t) goal_there

    pub claims : IsClaim a c [] n (record { given = given; goal = f; origin = d.origin })
    claims = record {
      given_in = subst (AllBelow (length n.nodes)) (sym given_is) (AllBelow-append (length n.nodes) d.given (x ∷ []) (AllBelow-Extends grown d.given same.given_in) (x_in, tt));
      goal_in = omega (arith, falsity.there, length-Extends grown);
      claim =
          let its : map (tree n) given ≡ map (tree a) c.given ++ negation (tree a c.goal) ∷ [] =
          ap (map (tree n)) given_is ∙ map-append (tree n) d.given (x ∷ []) ∙ (λ i. hypotheses i ++ denied i ∷ []) in
          λ i. record { given = its i; goal = (tree-Extends grown f falsity.there ∙ falsity.is) i };
      origin = same.origin;
      shapes = grown.shapes ∙ same_shapes;
      decls = grown.decls ∙ same_decls;
    }

-- ---- formulas

module _ (shapes : List Shape) (decls : List Decl) where
  abbrev pub AllTruths : List Term → Type 0
  AllTruths [] = Unit {0}
  AllTruths (f ∷ fs) = (is_truth shapes decls f ≡ true) × AllTruths fs

  pub each-truth : (fs : List Term) → AllTruths fs → AreFormulas shapes decls fs
  each-truth [] all f h = absurd (false≢true h)
  each-truth (g ∷ fs) all f h = by (term_eq f g) refl h (λ k. each-truth fs all.1 f k)
    where
      by : (b : Bool) → term_eq f g ≡ b → (b || is_among fs f) ≡ true → (is_among fs f ≡ true → is_truth shapes decls f ≡ true) → is_truth shapes decls f ≡ true
      by true same k others = subst (λ (t : Term). is_truth shapes decls t ≡ true) (sym (term_eq-true f g same)) all.0
      by false differ k others = others k

  pub truths-each : (fs : List Term) → AreFormulas shapes decls fs → AllTruths fs
  truths-each [] are = tt
  truths-each (g ∷ fs) are = (are g (ap (λ b. b || is_among fs g) (term_eq-refl g)), truths-each fs (λ f h. are f (or_right (term_eq f g) (is_among fs f) h)))

  pub both : (fs gs : List Term) → AllTruths fs → AllTruths gs → AllTruths (fs ++ gs)
  both [] gs all more = more
  both (f ∷ fs) gs all more = (all.0, both fs gs all.1 more)

  pub first : (fs gs : List Term) → AllTruths (fs ++ gs) → AllTruths fs
  first [] gs all = tt
  first (f ∷ fs) gs all = (all.0, first fs gs all.1)

  pub last : (fs : List Term) (g : Term) → AllTruths (fs ++ g ∷ []) → is_truth shapes decls g ≡ true
  last [] g all = all.0
  last (f ∷ fs) g all = last fs g all.1

  sort_is : (o : Option Sort) → has_sort sort.Bool o ≡ true → o ≡ Some sort.Bool
  sort_is None h = absurd (false≢true h)
  sort_is (Some s) h = ap Some (sort_eq-true s sort.Bool h)

  pub negated : (g : Term) → is_truth shapes decls g ≡ true → is_truth shapes decls (negation g) ≡ true
  negated g h = ap (λ (o : Option Sort). has_sort sort.Bool (with_sorts (sort_before o (Some [])) (result_sort shapes decls Not))) (sort_is (term_sort shapes decls g) h)

-- all that is refuted are formulas
pub claim-formulas : (a : Arena) (c : Condition) (fs : List Term) → AreFormulas a.shapes a.decls (formulas_of (question a c).sequent) → AllTruths a.shapes a.decls fs
    → AreFormulas a.shapes a.decls (formulas_of (claim (question a c) fs).sequent)
claim-formulas a c fs are more =
    let s = a.shapes in
    let x = a.decls in
    let q = question a c in
    let own = truths-each s x (formulas_of q.sequent) are in
    let refuted = both s x q.sequent.given (negation q.sequent.goal ∷ fs) (first s x q.sequent.given (q.sequent.goal ∷ []) own) (negated s x q.sequent.goal (last s x q.sequent.given q.sequent.goal own), more) in
    each-truth s x (formulas_of (claim q fs).sequent) (both s x (claim q fs).sequent.given (term False no_terms ∷ []) refuted (refl, tt))

pub known-begins : (a : Arena) (c : Condition) → AreFormulas a.shapes a.decls (formulas_of (question a c).sequent) → (k : Known) → k.rounds.items ≡ [] → IsClaim a c [] k.terms k.claim → (rules : List Rule) (limits : Limits) → IsKnown rules a c limits k
known-begins a c are k none is rules limits =
    let q = question_under rules a c in
    record {
      is_claim = subst (λ (rs : List Round). IsClaim a c (formulas q (members_in k.terms rs)) k.terms k.claim) (sym none) is;
      rounds = subst (RoundsStand q k.terms) (sym none) (record { there = tt; grown = tt; say = refl });
      few = subst (λ (rs : List Round). length (members_in k.terms rs) ≤ limits.instances) (sym none) (omega arith);
      are_formulas = subst (λ (rs : List Round). AreFormulas a.shapes a.decls (formulas_of (claim (question a c) (formulas q (members_in k.terms rs))).sequent)) (sym none) (claim-formulas a c [] are tt);
    }
