-- How many terms count where facts are made one after the other.
use Rattle.std.proofs.Common.{◌≡◌, ℕ, ◌<◌, ◌≤◌, Bool, true, false, List, [], ◌∷◌, ◌++◌, length, get_or, nat_eq, Option, Some, None, Result, Ok, Err, is_some, if◌then◌else◌, refl, sym, ap, ◌∙◌, subst, arith}
use Rattle.std.specs.List.{IsDistinct, list_any}
use Rattle.std.proofs.lemmas.Bool.{false≢true}
use Rattle.std.proofs.lemmas.Map.Keys.{IsDistinct-from_apart}
use Rattle.std.proofs.lemmas.Map.Made.{length-le_from_is_member}
use Rattle.std.proofs.lemmas.Option.{slice_get-get_or, same_Some}
use Rattle.spv_logic.specs.declared.conditions.TermId.{TermId}
use Rattle.spv_logic.specs.declared.operators.Head.TheVariants.{Not}
use Rattle.spv_logic.specs.Terms.{Term, Terms, term, no_terms, terms, term_eq}
use Rattle.spv_logic.specs.Formulas.{negation}
use Rattle.spv_logic.proofs.Equality.{term_eq-true, term_eq-refl}
use Rattle.spv_term.specs.declared.nodes.Condition.{Condition}
use Rattle.spv_term.specs.Arena.{Arena, IsArena, Extends, sequent, tree, trees, trees_of}
use Rattle.spv_term.proofs.ArenaLemmas.{same_id, tree-Extends}
use Rattle.spv_term.proofs.TreeLemmas.{length-trees_of}
use Rattle.spv_atoms.proofs.Members.{has-left, has-parts, has-right, has_one, has-with_terms, with_terms-has, or_cases, or_left, or_right}
use Rattle.spv_proof_rules.specs.Effects.{Question}
use Rattle.spv_proof_rules.specs.Stand.{question}
use Rattle.spv_proof_rules.specs.Stops.{kept, on_room, all_kept, layers, layers_each}
use Rattle.spv_models.specs.leaf_models.Atoms.{all_equations}
use Rattle.spv_models.specs.leaf_models.Subterms.{is_among, subterms, list_of}
use Rattle.spv_models.specs.leaf_models.Tables.{formulas_of}
use Rattle.spv_models.proofs.leaf_models.Closed.{ArgumentsIn, subterms-has}
use Rattle.spv_tableau_rules.proofs.pivots.Algebra.{false_of}
use Rattle.spv_search_terms.specs.condition_copy.Copies.{all_terms, base_terms, IsSameClaim}
use Rattle.spv_search_terms.proofs.subterms.GainLemmas.{tree-among}
use Rattle.spv_verdicts.specs.Schemas.{enlarged, further_facts, counted_terms, HasTooManyCounted}
use Rattle.spv_verdicts.specs.translation.Laws.{AtMostOneMore, NoneMore}
use Rattle.spv_verdicts.proofs.TermCounts.{terms-parts}
use Rattle.spv_verdicts.proofs.translation.CountLemmas.{parts, parts-inside, term_laws, with_subterms-within}
use Rattle.spv_fact_search.specs.Enlarging.{AreAmong, GainsParts, HaveArguments, IsEnough}

-- ---- terms that are kept

kept-among : (most : ℕ) (all known : List Term) (t : Term) (more : List Term) → AreAmong all known → is_among all t ≡ true → kept most known t ≡ Some more → AreAmong all more
kept-among most all known t more there one = by (list_any (term_eq t) known) (nat_eq (length known) most)
  where
    by : (b d : Bool) → (if b then Some known else (if d then None else Some (known ++ t ∷ []))) ≡ Some more → AreAmong all more
    by true d e = subst (AreAmong all) (same_Some known more e) there
    by false true e = absurd (false≢true (ap is_some e))
    by false false e = subst (AreAmong all) (same_Some (known ++ t ∷ []) more e) (λ u h. has-parts known (t ∷ []) u h (there u) (λ k. ap (is_among all) (has_one u t k) ∙ one))

abbrev Kept : Type 0
Kept = Result (List Term) (List Term)

conflict : (known more : List Term) (r : Kept) → r ≡ Err known → r ≡ Ok more → ⊥
conflict known more r e f = cc

same_ok : (known more : List Term) (r : Kept) → r ≡ Ok known → r ≡ Ok more → known ≡ more
same_ok known more r e f = cc

pub all_kept-among : (most : ℕ) (all known ts more : List Term) → AreAmong all known → AreAmong all ts → all_kept most known ts ≡ Ok more → AreAmong all more
all_kept-among most all known [] more there each e = subst (AreAmong all) (same_ok known more (Ok known) refl e) there
all_kept-among most all known (t ∷ ts) more there each e =
    by (kept most known t) refl e (λ m first f. all_kept-among most all m ts more first (λ u h. each u (or_right (term_eq u t) (is_among ts u) h)) f)
  where
    one : is_among all t ≡ true
    one = each t (or_left (term_eq t t) (is_among ts t) (term_eq-refl t))

    by : (o : Option (List Term)) → kept most known t ≡ o → on_room known o (λ m. all_kept most m ts) ≡ Ok more
        → ((m : List Term) → AreAmong all m → all_kept most m ts ≡ Ok more → AreAmong all more) → AreAmong all more
    by None k f later = absurd (conflict known more (Err known) refl f)
    by (Some m) k f later = later m (kept-among most all known t m there one k) f

-- a term's layers are its parts
mutual
  pub layers-among : (all : List Term) → HaveArguments all → (t : Term) → is_among all t ≡ true → AreAmong all (layers t)
  layers-among all inside (term h ts) there u k =
      has-parts (layers_each ts) (term h ts ∷ []) u k (each-among all inside ts (λ v m. inside (term h ts) v there m) u) (λ m. ap (is_among all) (has_one u (term h ts) m) ∙ there)

  each-among : (all : List Term) → HaveArguments all → (ts : Terms) → AreAmong all (list_of ts) → AreAmong all (layers_each ts)
  each-among all inside no_terms there u k = absurd (false≢true k)
  each-among all inside (terms t ts) there u k =
      has-parts (layers t) (layers_each ts) u k (layers-among all inside t (there t (or_left (term_eq t t) (is_among (list_of ts) t) (term_eq-refl t))) u)
      (each-among all inside ts (λ v m. there v (or_right (term_eq v t) (is_among (list_of ts) v) m)) u)

-- ---- the terms of an arena

-- none is there twice
apart : (a : Arena) → IsArena a → (i j : ℕ) (d : Term) → i < j → j < length (trees_of a.nodes) → term_eq (get_or (trees_of a.nodes) i d) (get_or (trees_of a.nodes) j d) ≡ false
apart a ok i j d low within =
    false_of (term_eq (get_or (trees_of a.nodes) i d) (get_or (trees_of a.nodes) j d)) twice
  where
    count : length (trees_of a.nodes) ≡ length a.nodes
    count = length-trees_of a.nodes

    at : (k : ℕ) → k < length (trees_of a.nodes) → tree a (record { 0 = k }) ≡ get_or (trees_of a.nodes) k d
    at k h = same_Some (tree a (record { 0 = k })) (get_or (trees_of a.nodes) k d) (sym (slice_get-get_or (trees_of a.nodes) k _ h) ∙ slice_get-get_or (trees_of a.nodes) k d h)

    twice : term_eq (get_or (trees_of a.nodes) i d) (get_or (trees_of a.nodes) j d) ≡ true → ⊥
    twice e =
        let same = term_eq-true (get_or (trees_of a.nodes) i d) (get_or (trees_of a.nodes) j d) e in
        let first : i < length (trees_of a.nodes) = omega (arith, low, within) in
        let one = same_id a ok (get_or (trees_of a.nodes) j d) (record { 0 = i }) (record { 0 = j }) (omega (arith, first, count)) (omega (arith, within, count)) (at i first ∙ same) (at j within) in
        let place : i ≡ j = ap (λ (t : TermId). t.0) one in
        omega (arith, low, place)

distinct : (a : Arena) → IsArena a → IsDistinct term_eq (trees_of a.nodes)
distinct a ok = IsDistinct-from_apart term_eq (trees_of a.nodes) (apart a ok)

-- ---- the terms that count

arguments-of : (all : List Term) (ts : Terms) → ArgumentsIn all ts → (u : Term) → is_among (list_of ts) u ≡ true → is_among all u ≡ true
arguments-of all no_terms own u k = absurd (false≢true k)
arguments-of all (terms t ts) own u k = or_cases (term_eq u t) (is_among (list_of ts) u) k (λ e. ap (is_among all) (term_eq-true u t e) ∙ own.0) (arguments-of all ts own.1 u)

module _ (q : Question) where
  have-arguments : HaveArguments (parts q)
  have-arguments (term h ts) u there k = arguments-of (parts q) ts (parts-inside q h ts there) u k

  parts-count : AreAmong (counted_terms q) (parts q)
  parts-count u h = has-with_terms (parts q) (all_equations q.shapes q.decls (subterms (formulas_of (enlarged q).sequent))) u h

  formula-there : (f : Term) → is_among (formulas_of q.sequent ++ further_facts q) f ≡ true → is_among (parts q) f ≡ true
  formula-there f m = with_terms-there f (subterms-has (formulas_of q.sequent ++ further_facts q) f m)
    where
      with_terms-there : (u : Term) → is_among (subterms (formulas_of q.sequent ++ further_facts q)) u ≡ true → is_among (parts q) u ≡ true
      with_terms-there u k = with_terms-has base_terms (subterms (formulas_of q.sequent ++ further_facts q)) u k

  -- those of a copy do
  copied-there : AreAmong (parts q) (all_terms q.sequent)
  copied-there u h =
      terms-parts base_terms (subterms (formulas_of q.sequent)) u h (λ k. has-with_terms base_terms (subterms (formulas_of q.sequent ++ further_facts q)) u k)
      (λ k. with_subterms-within (parts q) (parts-inside q) (formulas_of q.sequent) [] (λ f m. formula-there f (has-left (formulas_of q.sequent) (further_facts q) f m)) (λ v m. absurd (false≢true m)) u k)

  -- and those of an arena that gained facts
  gained-there : (k b : Arena) → trees_of k.nodes ≡ all_terms q.sequent → GainsParts k (further_facts q) b → AreAmong (parts q) (trees_of b.nodes)
  gained-there k b copy gains =
      gains (parts q) have-arguments (subst (AreAmong (parts q)) (sym copy) copied-there) (λ f m. formula-there f (has-right (formulas_of q.sequent) (further_facts q) f m))

  pub all-count : (k b : Arena) → IsArena b → trees_of k.nodes ≡ all_terms q.sequent → GainsParts k (further_facts q) b → length b.nodes ≤ length (counted_terms q)
  all-count k b ok copy gains =
      let few = length-le_from_is_member term_laws (trees_of b.nodes) (counted_terms q) (distinct b ok) (λ u h. parts-count u (gained-there k b copy gains u h)) in
      omega (arith, few, length-trees_of b.nodes)

  -- where the negation of the goal is no new term, it counts
  pub denied-counts : (k b n : Arena) → trees_of k.nodes ≡ all_terms q.sequent → GainsParts k (further_facts q) b → Extends b n → length n.nodes ≡ length b.nodes
      → (x : TermId) → x.0 < length n.nodes → tree n x ≡ negation q.sequent.goal → is_among (counted_terms q) (negation q.sequent.goal) ≡ true
  denied-counts k b n copy gains grows same x within is =
      let there : x.0 < length b.nodes = omega (arith, within, same) in
      let tree_is : tree b x ≡ negation q.sequent.goal = sym (tree-Extends grows x there) ∙ is in
      parts-count (negation q.sequent.goal) (gained-there k b copy gains (negation q.sequent.goal) (subst (λ t. is_among (trees_of b.nodes) t ≡ true) tree_is (tree-among b x there)))

  -- ---- enough

  pub enough-one-more : AtMostOneMore → IsEnough q 1000001
  enough-one-more law more = let most = law q in omega (arith, more, most)

  pub enough-without : NoneMore → is_among (counted_terms q) (negation q.sequent.goal) ≡ true → IsEnough q 1000000
  enough-without law there more = let most = law q there in omega (arith, more, most)

-- ---- a copy of a condition, and what it gained

module _ (a : Arena) (c : Condition) (k : Arena) (d : Condition) (same : IsSameClaim a c k d) (same_shapes : k.shapes ≡ a.shapes) (same_decls : k.decls ≡ a.decls) where
  counts-as : counted_terms (question k d) ≡ counted_terms (question a c)
  counts-as = λ i. counted_terms (record { shapes = same_shapes i; decls = same_decls i; at = tree a; sequent = same.claim i; rules = [] })

  pub too-many-there : HasTooManyCounted (question a c) 1000000 → HasTooManyCounted (question k d) 1000000
  too-many-there m = record { limit = m.limit; more = subst (λ (ts : List Term). 1000000 < length ts) (sym counts-as) m.more }

  module _ (copy : trees_of k.nodes ≡ all_terms (sequent a c)) (b : Arena) (grows : Extends k b) (gains : GainsParts k (further_facts (question k d)) b) where
    copied : trees_of k.nodes ≡ all_terms (question k d).sequent
    copied = copy ∙ ap all_terms (sym same.claim)

    pub too-many-here : IsArena b → 1000000 < length b.nodes → HasTooManyCounted (question a c) 1000000
    too-many-here ok h =
        let count = all-count (question k d) k b ok copied gains in
        record { limit = refl; more = subst (λ (ts : List Term). 1000000 < length ts) counts-as (omega (arith, h, count)) }

    pub enough-here : NoneMore → (n : Arena) → Extends b n → length n.nodes ≡ length b.nodes → (x : TermId) → x.0 < length n.nodes → tree n x ≡ term Not (trees b (d.goal ∷ [])) → IsEnough (question a c) 1000000
    enough-here law n more len x within is =
        let denied : tree n x ≡ negation (question k d).sequent.goal = is ∙ ap negation (tree-Extends grows d.goal same.goal_in) in
        let there = denied-counts (question k d) k b n copied gains more len x within denied in
        enough-without (question a c) law (sym (λ i. is_among (counts-as i) (negation (same.claim i).goal)) ∙ there)
