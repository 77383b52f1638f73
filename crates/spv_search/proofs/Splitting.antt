-- An atom that is chosen may be split on.
use Rattle.std.proofs.Common.{◌≡◌, ◌⊎◌, ℕ, zero, suc, ◌<◌, Bool, true, false, cond, ◌&&◌, ◌||◌, not, List, [], ◌∷◌, length, refl, sym, ap, ◌∙◌, Option, Some, None, inl, inr}
use mathlib.Core.Path.{ap₂}
use Rattle.std.specs.Prelude.{is_some, slice_get}
use Rattle.std.specs.List.{list_any}
use Rattle.std.proofs.lemmas.Bool.{false≢true}
use Rattle.spv_logic.proofs.list.Tests.{left_true, right_true}
use Rattle.spv_logic.specs.declared.conditions.TermId.{TermId}
use Rattle.spv_logic.specs.Terms.{Term, term_eq}
use Rattle.spv_logic.specs.Formulas.{negation, equation, below}
use Rattle.spv_logic.proofs.Equality.{term_eq-true, term_eq-refl}
use Rattle.spv_term.specs.declared.nodes.Condition.{Condition}
use Rattle.spv_term.specs.Arena.{Arena, IsArena, tree}
use Rattle.spv_congruence.specs.Graph.{AreTerms}
use Rattle.spv_congruence.specs.Told.{IsExact}
use Rattle.spv_simplex.specs.State.{IsTableau}
use Rattle.spv_term.proofs.TreeLemmas.{AllBelow-at}
use Rattle.spv_atoms.specs.Atoms.{is_number}
use Rattle.spv_atoms.specs.Tables.{not_of}
use Rattle.spv_atoms.proofs.Members.{or_cases}
use Rattle.spv_proof_rules.specs.Evaluation.{sides, cites}
use Rattle.spv_proof_rules.specs.Accepted.{cases_of, cases_by_sides, two_cases, three_cases}
use Rattle.spv_proof_rules.specs.Stand.{question}
use Rattle.spv_verdicts.specs.Verdicts.{Limits}
use Rattle.spv_derivations.specs.derivation.Derivation.{are_numbers}
use Rattle.spv_models.specs.leaf_models.Subterms.{is_among}
use Rattle.spv_models.specs.split_trees.Paths.{atoms, facts, IsLive}
use Rattle.spv_models.specs.split_trees.Shown.{IsFinished}
use Rattle.spv_share.specs.Both.{told}
use Rattle.spv_search.specs.branches.Branches.{HasCases}
use Rattle.spv_search.specs.branches.Growth.{Growth, next}
use Rattle.spv_assignments.specs.kleene.Passes.{at, StandsAt}
use Rattle.spv_assignments.specs.declared.partial_assignment.facts.Known.{Known}
use Rattle.spv_assignments.specs.partial_assignment.Facts.{fact_of, facts_of}
use Rattle.spv_assignments.specs.partial_assignment.Values.{AreLiterals}
use Rattle.spv_assignments.proofs.partial_assignment.Told.{facts_are_true}
use Rattle.spv_decisions.specs.literal_lookup.Facts.{AreThere}
use Rattle.spv_decisions.specs.literal_lookup.Orders.{crosses, orders, has_order}
use Rattle.spv_decisions.specs.decision.Choosing as choosing
use Rattle.spv_decisions.specs.decision.Choosing.{is_comparison, lacks_order, HaveValues, HaveOrders}
use Rattle.spv_decisions.specs.heuristic.Guiding.{MayBeSplit}
use Rattle.spv_trail.specs.trail_states.Told.{values_of, said_on}
use Rattle.spv_trail.specs.trail_states.Laws.{IsAtRest}
use Rattle.spv_trail.proofs.trail_states.RowConstraint.{from_found, found_from, compared, IsCompared}
use Rattle.spv_trail.proofs.trail_states.Resting.{rest_is_open, rest_is_live, full_rest}
use Rattle.spv_trail.specs.declared.backtracking.path.Ground.{Ground}
use Rattle.spv_trail.specs.declared.backtracking.path.BranchTrail.{BranchTrail}
use Rattle.spv_trail.specs.declared.backtracking.marks.TrailMark.{TrailMark}
use Rattle.spv_search.specs.Searching.{formulas_in}
use Rattle.spv_search.specs.Finding.{HasOpenState, HasFullState, IsResting}
use Rattle.spv_search.proofs.Branching.{HasCase, WasSplit, next_was_split, split_case}

-- ---- the cases of an atom

data IsCaseOf (a : Arena) (t f : Term) : Type 0 where
  itself : f ≡ t → IsCaseOf a t f
  denied : f ≡ negation t → are_numbers (is_number a.shapes a.decls) (sides t) ≡ false → IsCaseOf a t f
  below_it : (x y : Term) → t ≡ equation x y → f ≡ below x y → IsCaseOf a t f
  above_it : (x y : Term) → t ≡ equation x y → f ≡ below y x → IsCaseOf a t f

two_when : (number : Term → Bool) (o : Option (Term × Term)) (t : Term) → are_numbers number o ≡ false → cases_by_sides number o t ≡ two_cases t
two_when number None t e = refl
two_when number (Some st) t e = ap (λ (b : Bool). cond b (three_cases st) (two_cases t)) e

case_kind : (a : Arena) (c : Condition) (t f : Term) → is_among (cases_of (question a c) t) f ≡ true → IsCaseOf a t f
case_kind a c t f m = by_case (are_numbers (is_number a.shapes a.decls) (sides t)) refl
  where
    two : are_numbers (is_number a.shapes a.decls) (sides t) ≡ false → is_among (t ∷ negation t ∷ []) f ≡ true → IsCaseOf a t f
    two e k =
        or_cases (term_eq f t) (is_among (negation t ∷ []) f) k (λ h. itself (term_eq-true f t h))
        (λ h. or_cases (term_eq f (negation t)) (is_among [] f) h (λ i. denied (term_eq-true f (negation t) i) e) (λ i. absurd (false≢true i)))

    three : (k : IsCompared a t) → is_among (equation k.left k.right ∷ below k.left k.right ∷ below k.right k.left ∷ []) f ≡ true → IsCaseOf a t f
    three k h =
        or_cases (term_eq f (equation k.left k.right)) (is_among (below k.left k.right ∷ below k.right k.left ∷ []) f) h (λ i. itself (term_eq-true f (equation k.left k.right) i ∙ sym k.is))
        (λ i. or_cases (term_eq f (below k.left k.right)) (is_among (below k.right k.left ∷ []) f) i (λ j. below_it k.left k.right k.is (term_eq-true f (below k.left k.right) j))
        (λ j. or_cases (term_eq f (below k.right k.left)) (is_among [] f) j (λ l. above_it k.left k.right k.is (term_eq-true f (below k.right k.left) l)) (λ l. absurd (false≢true l))))

    three_when : (k : IsCompared a t) → cases_of (question a c) t ≡ equation k.left k.right ∷ below k.left k.right ∷ below k.right k.left ∷ []
    three_when k =
        ap (λ (o : Option (Term × Term)). cases_by_sides (is_number a.shapes a.decls) o t) (ap sides k.is)
        ∙ ap₂ (λ (x y : Bool). cond (x && y) (three_cases (k.left, k.right)) (two_cases t)) k.left_number k.right_number

    by_case : (b : Bool) → are_numbers (is_number a.shapes a.decls) (sides t) ≡ b → IsCaseOf a t f
    by_case true e = let k = compared a t e in three k (ap (λ (fs : List Term). is_among fs f) (sym (three_when k)) ∙ m)
    by_case false e = two e (ap (λ (fs : List Term). is_among fs f) (sym (two_when (is_number a.shapes a.decls) (sides t) t e)) ∙ m)

-- ---- orders that are found

any_at : {A : Type 0} (test : A → Bool) (xs : List A) (i : ℕ) (x : A) → slice_get xs i ≡ Some x → test x ≡ true → list_any test xs ≡ true
any_at test [] i x e h = absurd (cc)
any_at test (y ∷ xs) zero x e h =
    let same : y ≡ x = cc in
    first (test y) (list_any test xs) (ap test same ∙ h)
  where
    first : (b d : Bool) → b ≡ true → (b || d) ≡ true
    first b d k = ap (λ (z : Bool). z || d) k
any_at test (y ∷ xs) (suc i) x e h = second (test y) (list_any test xs) (any_at test xs i x e h)
  where
    second : (b d : Bool) → d ≡ true → (b || d) ≡ true
    second true d k = refl
    second false d k = k

crosses_below : (x y : Term) → crosses (equation x y) (below x y) ≡ true
crosses_below x y = ap (λ (b : Bool). is_some (cond ((b || false) || cites (below x y ∷ []) (below y x)) (Some false) None)) (term_eq-refl (below x y))

crosses_above : (x y : Term) → crosses (equation x y) (below y x) ≡ true
crosses_above x y =
    ap (λ (b : Bool). is_some (cond (cites (below y x ∷ []) (below x y) || (b || false)) (Some false) None)) (term_eq-refl (below y x))
    ∙ ap (λ (b : Bool). is_some (cond b (Some false) None)) (or_true (cites (below y x ∷ []) (below x y)))
  where
    or_true : (b : Bool) → (b || true) ≡ true
    or_true true = refl
    or_true false = refl

order_found : (a : Arena) (ks : List Known) (t : TermId) (f : Term) → is_among (facts_of a ks) f ≡ true → crosses (tree a t) f ≡ true → has_order a ks t ≡ true
order_found a ks t f m h =
    let k = from_found (fact_of a) ks f m in
    any_at (orders a t) ks k.place k.item k.there (ap (crosses (tree a t)) k.is ∙ h)

-- ---- an atom that was split on has a value, and an order where it is a false equation of numbers

not_twice : (b : Bool) → b ≡ true → b ≡ false → ⊥
not_twice b e f = false≢true (sym f ∙ e)

unnegated : (o : Option Bool) → not_of o ≡ Some true → o ≡ Some false
unnegated None e = absurd (cc)
unnegated (Some true) e = absurd (cc)
unnegated (Some false) e = refl

module _ (a : Arena) (c : Condition) (ks : List Known) (fs : List Term) (fin : IsFinished (question a c) fs (values_of a ks)) (literals : AreLiterals (facts_of a ks)) (t : TermId) (values : List (Option Bool))
    (listed : at values t.0 ≡ values_of a ks (tree a t)) where
  record HasValue : Type 0 where
    truth : Bool
    is : values_of a ks (tree a t) ≡ Some truth

  case_value : (f : Term) → IsCaseOf a (tree a t) f → values_of a ks f ≡ Some true → HasValue
  case_value f (itself e) v = record { truth = true; is = ap (values_of a ks) (sym e) ∙ v }
  case_value f (denied e n) v = record { truth = false; is = unnegated (values_of a ks (tree a t)) (sym (fin.negations (tree a t)) ∙ (ap (values_of a ks) (sym e) ∙ v)) }
  case_value f (below_it x y e g) v = record { truth = false; is = ap (values_of a ks) e ∙ fin.lower x y (ap (values_of a ks) (sym g) ∙ v) }
  case_value f (above_it x y e g) v = record { truth = false; is = ap (values_of a ks) e ∙ fin.upper x y (ap (values_of a ks) (sym g) ∙ v) }

  valued_once : HasValue → at values t.0 ≡ None → ⊥
  valued_once v e = some_none v.truth (sym v.is ∙ (sym listed ∙ e))
    where
      some_none : (b : Bool) → Some b ≡ None → ⊥
      some_none b k = absurd (cc)

  ordered_once : (f : Term) → is_among (facts_of a ks) f ≡ true → IsCaseOf a (tree a t) f → lacks_order a values ks t ≡ true → ⊥
  ordered_once f m (itself e) k =
      let v : values_of a ks (tree a t) ≡ Some true = ap (values_of a ks) (sym e) ∙ facts_are_true (facts_of a ks) literals f m in
      let wrong = left_true (choosing.is_false (at values t.0)) (is_comparison a t && not (has_order a ks t)) k in
      false≢true (sym (ap choosing.is_false (listed ∙ v)) ∙ wrong)
  ordered_once f m (denied e n) k =
      let rest = right_true (choosing.is_false (at values t.0)) (is_comparison a t && not (has_order a ks t)) k in
      not_twice (is_comparison a t) (left_true (is_comparison a t) (not (has_order a ks t)) rest) n
  ordered_once f m (below_it x y e g) k =
      let rest = right_true (choosing.is_false (at values t.0)) (is_comparison a t && not (has_order a ks t)) k in
      let found = order_found a ks t f m (ap₂ crosses e g ∙ crosses_below x y) in
      false≢true (sym (ap not found) ∙ right_true (is_comparison a t) (not (has_order a ks t)) rest)
  ordered_once f m (above_it x y e g) k =
      let rest = right_true (choosing.is_false (at values t.0)) (is_comparison a t && not (has_order a ks t)) k in
      let found = order_found a ks t f m (ap₂ crosses e g ∙ crosses_above x y) in
      false≢true (sym (ap not found) ∙ right_true (is_comparison a t) (not (has_order a ks t)) rest)

  new_above : (ids : List TermId) (cases above : List Term) → WasSplit (question a c) cases above → ((f : Term) → is_among cases f ≡ true → is_among (facts_of a ks) f ≡ true) → MayBeSplit a ids values ks t
      → is_among above (tree a t) ≡ false
  new_above ids cases above split known choice = by_case (is_among above (tree a t)) refl
    where
      clash : HasCase (question a c) cases (tree a t) → (at values t.0 ≡ None) ⊎ (lacks_order a values ks t ≡ true) → ⊥
      clash k (inl e) = valued_once (case_value k.formula (case_kind a c (tree a t) k.formula k.of_it) (facts_are_true (facts_of a ks) literals k.formula (known k.formula k.among))) e
      clash k (inr e) = ordered_once k.formula (known k.formula k.among) (case_kind a c (tree a t) k.formula k.of_it) e

      by_case : (b : Bool) → is_among above (tree a t) ≡ b → is_among above (tree a t) ≡ false
      by_case false e = e
      by_case true e = absurd (clash (split_case (question a c) cases above split (tree a t) e) choice.1)

-- ---- a path at rest

pub at_rest : (a : Arena) (c : Condition) (ids : List TermId) (g : Ground) (limits : Limits) (p : BranchTrail) (s : Growth) (ms : List TrailMark) → IsArena a → IsExact p.both.trail.graph
    → AreTerms p.both.trail.graph.nodes p.both.trail.graph.added → IsTableau p.both.standing.tableau → IsResting a c ids g limits p s ms
    → IsAtRest a c p.both ids g.questions.items p.derivation p.known.items (formulas_in a s.cases)
at_rest a c ids g limits p s ms ok exact terms_are tableau h = record {
  ok = ok;
  formulas = h.quiet.arrived.set_up.asked.ground.formulas;
  both = h.quiet.arrived.path.both;
  agree = h.agree;
  exact = exact;
  terms_are = terms_are;
  tableau = tableau;
  opened = h.quiet.arrived.set_up.opened;
  questions_are = h.quiet.arrived.set_up.asked.ground.questions_are;
  settled = h.quiet.arrived.path.settled;
  still = h.quiet.still;
}

module _ (a : Arena) (c : Condition) (ids : List TermId) (g : Ground) (limits : Limits) (p : BranchTrail) (s : Growth) (ms : List TrailMark) (h : IsResting a c ids g limits p s ms)
    (r : IsAtRest a c p.both ids g.questions.items p.derivation p.known.items (formulas_in a s.cases)) where
  pub rest_live : IsLive (question a c) (facts (question a c) (formulas_in a s.cases))
  rest_live = rest_is_live a c p.both ids g.questions.items p.derivation p.known.items (formulas_in a s.cases) r

  finished : IsFinished (question a c) (facts (question a c) (said_on a p.known.items (told p.both))) (values_of a p.known.items)
  finished = (rest_is_open a c p.both ids g.questions.items p.derivation p.known.items (formulas_in a s.cases) r).finished

  atom_among : (t : TermId) → StandsAt ids t → is_among (atoms (question a c)) (tree a t) ≡ true
  atom_among t k = ap (λ (ts : List Term). is_among ts (tree a t)) (sym r.opened.atoms_are) ∙ found_from (tree a) ids k.place t k.is

  pub atom_there : (t : TermId) → StandsAt ids t → t.0 < length a.nodes
  atom_there t k = AllBelow-at (length a.nodes) ids k.place t r.opened.within k.is

  pub rest_splits : (t : TermId) → MayBeSplit a ids p.lists.all.items p.known.items t → HasCases (question a c) (next (tree a) s) (tree a t) (length (cases_of (question a c) (tree a t)))
  rest_splits t choice = record {
    may = record {
      is_atom = atom_among t choice.0;
      is_new =
          new_above a c p.known.items (facts (question a c) (said_on a p.known.items (told p.both))) finished r.settled.stored.knowledge.literals t p.lists.all.items (h.quiet.arrived.path.lists.all_ones t (atom_there t choice.0)) ids
          (formulas_in a s.cases) (next (tree a) s).above (next_was_split (question a c) s h.quiet.arrived.within.grows h.quiet.arrived.comes) r.settled.cases_known choice;
      live = rest_live;
    };
    many = refl;
  }

  -- both sides are those of an open state
  pub rest_opened : HasOpenState a c p.both
  rest_opened = record {
    facts = said_on a p.known.items (told p.both);
    value = values_of a p.known.items;
    state = rest_is_open a c p.both ids g.questions.items p.derivation p.known.items (formulas_in a s.cases) r;
  }

  pub rest_there : AreThere a p.known.items
  rest_there = record { each = λ i k at. (r.settled.stored.founded i k at).within }

  pub rest_full : HaveValues p.lists.all.items ids × HaveOrders a p.lists.all.items p.known.items ids → HasFullState a c p.both
  rest_full full = record {
    facts = said_on a p.known.items (told p.both);
    value = values_of a p.known.items;
    state =
        full_rest a c p.both ids g.questions.items p.derivation p.known.items (formulas_in a s.cases) r p.lists.direct.items p.lists.cores.items p.lists.all.items h.quiet.arrived.path.lists full;
  }
