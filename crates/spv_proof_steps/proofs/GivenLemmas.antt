-- What cited facts give, fact by fact.
use Rattle.std.proofs.Common.{◌≡◌, ◌<◌, ℕ, ◌+◌, Bool, true, false, cond, ◌&&◌, ◌||◌, List, [], ◌∷◌, ◌++◌, length, drop, get_or, refl, sym, ap, ◌∙◌, Option, Some, None}
use Rattle.std.specs.List.{list_any}
use Rattle.std.specs.Map.{lookup}
use Rattle.std.proofs.lemmas.Bool.{false≢true, eqb-true}
use Rattle.std.proofs.lemmas.List.{at_drop_more}
use Rattle.indexmap.specs.IndexMap.{insert_entry}
use Rattle.indexmap.specs.IndexSet.{insert_key}
use Rattle.spv_logic.specs.declared.conditions.TermId.{TermId}
use Rattle.spv_logic.specs.Terms.{term_eq}
use Rattle.spv_logic.specs.Formulas.{below as put_below}
use Rattle.spv_term.specs.Arena.{Arena, IsArena, tree}
use Rattle.spv_atoms.specs.Order.{same_id}
use Rattle.spv_atoms.specs.Tables.{assigned, or_else}
use Rattle.spv_atoms.proofs.Walks.{term_eq-ids}
use Rattle.spv_proof_rules.specs.Sums.{negated}
use Rattle.spv_proof_rules.specs.Evaluation.{given_by, given_negated}
use Rattle.spv_proof_steps.specs.declared.candidates.Candidate.TheVariants.{Known}
use Rattle.spv_proof_steps.specs.declared.known.Order.{Order}
use Rattle.spv_proof_steps.specs.Candidates.{lower}
use Rattle.spv_proof_steps.specs.Given.{same_pair, value_unless, with_value, AddsValues, AddsOrder, GivesValues, GivesOrders}
use Rattle.spv_proof_steps.proofs.Same.{term_eq-sym, below_some}
use Rattle.spv_proof_steps.proofs.ValuedLemmas.{facts_give, facts_give-cons, orders}

-- ---- values with one more

or_else-none : (x : Option Bool) → x ≡ or_else x None
or_else-none None = refl
or_else-none (Some v) = refl

or_else-more : (x y z : Option Bool) → or_else (or_else x y) z ≡ or_else x (or_else y z)
or_else-more None y z = refl
or_else-more (Some v) y z = refl

same_ids : (t u : TermId) → same_id t u ≡ true → t ≡ u
same_ids t u e = ap (λ (k : ℕ). record { 0 = k }) (eqb-true t.0 u.0 e)

-- the value that a term alone has
abbrev alone : TermId → TermId → Bool → Option Bool
alone u t value = cond (same_id u t) (Some value) None

inserted : (values : List (TermId × Bool)) (t u : TermId) (value : Bool) → lookup (same_id t) values ≡ None → lookup (same_id u) (insert_entry same_id values t value) ≡ or_else (lookup (same_id u) values) (alone u t value)
inserted [] t u value none = refl
inserted (e ∷ values) t u value none = by_case (same_id t e.0) none (inserted values t u value)
  where
    later : (b : Bool) → lookup (same_id u) (insert_entry same_id values t value) ≡ or_else (lookup (same_id u) values) (alone u t value)
        → cond b (Some e.1) (lookup (same_id u) (insert_entry same_id values t value)) ≡ or_else (cond b (Some e.1) (lookup (same_id u) values)) (alone u t value)
    later true h = refl
    later false h = h

    by_case : (b : Bool) → cond b (Some e.1) (lookup (same_id t) values) ≡ None
        → (lookup (same_id t) values ≡ None → lookup (same_id u) (insert_entry same_id values t value) ≡ or_else (lookup (same_id u) values) (alone u t value))
        → lookup (same_id u) (cond b ((e.0, value) ∷ values) (e ∷ insert_entry same_id values t value)) ≡ or_else (cond (same_id u e.0) (Some e.1) (lookup (same_id u) values)) (alone u t value)
    by_case true h rest = absurd (cc)
    by_case false h rest = later (same_id u e.0) (rest h)

pub given_more : (values : List (TermId × Bool)) (t u : TermId) (value : Bool) → lookup (same_id u) (with_value values t value) ≡ or_else (lookup (same_id u) values) (alone u t value)
given_more values t u value = by_case (lookup (same_id t) values) refl
  where
    there : (v b : Bool) → lookup (same_id t) values ≡ Some v → same_id u t ≡ b → lookup (same_id u) values ≡ or_else (lookup (same_id u) values) (cond b (Some value) None)
    there v true e f =
        let found : lookup (same_id u) values ≡ Some v = ap (λ w. lookup (same_id w) values) (same_ids u t f) ∙ e in
        found ∙ sym (ap (λ o. or_else o (Some value)) found)
    there v false e f = or_else-none (lookup (same_id u) values)

    by_case : (o : Option Bool) → lookup (same_id t) values ≡ o → lookup (same_id u) (value_unless o values t value) ≡ or_else (lookup (same_id u) values) (alone u t value)
    by_case None e = inserted values t u value e
    by_case (Some v) e = there v (same_id u t) e refl

-- ---- orders with one more

same_pairs : (p q : Order) → same_pair p q ≡ true → p ≡ q
same_pairs p q h = both (same_id p.low q.low) (same_id p.high q.high) refl refl h
  where
    both : (b d : Bool) → same_id p.low q.low ≡ b → same_id p.high q.high ≡ d → (b && d) ≡ true → p ≡ q
    both true true e f g = λ i. record { low = same_ids p.low q.low e i; high = same_ids p.high q.high f i }
    both true false e f g = absurd (false≢true g)
    both false d e f g = absurd (false≢true g)

any-last : (test : Order → Bool) (ps : List Order) (q : Order) → list_any test (ps ++ q ∷ []) ≡ (list_any test ps || test q)
any-last test [] q = by_case (test q)
  where
    by_case : (b : Bool) → (b || false) ≡ b
    by_case true = refl
    by_case false = refl
any-last test (p ∷ ps) q = by_case (test p) (any-last test ps q)
  where
    by_case : (b : Bool) → list_any test (ps ++ q ∷ []) ≡ (list_any test ps || test q) → (b || list_any test (ps ++ q ∷ [])) ≡ ((b || list_any test ps) || test q)
    by_case true h = refl
    by_case false h = h

or-false : (b : Bool) → b ≡ (b || false)
or-false true = refl
or-false false = refl

pub order_more : (ps : List Order) (p q : Order) → list_any (same_pair p) (insert_key same_pair ps q) ≡ (list_any (same_pair p) ps || same_pair p q)
order_more ps p q = by_case (list_any (same_pair q) ps) refl (same_pair p q) refl
  where
    by_case : (b : Bool) → list_any (same_pair q) ps ≡ b → (d : Bool) → same_pair p q ≡ d → list_any (same_pair p) (cond b ps (ps ++ q ∷ [])) ≡ (list_any (same_pair p) ps || same_pair p q)
    by_case false e d f = any-last (same_pair p) ps q
    by_case true e true f =
        let found : list_any (same_pair p) ps ≡ true = ap (λ r. list_any (same_pair r) ps) (same_pairs p q f) ∙ e in
        found ∙ sym (ap (λ b. b || same_pair p q) found)
    by_case true e false f = or-false (list_any (same_pair p) ps) ∙ ap (λ b. list_any (same_pair p) ps || b) (sym f)

-- ---- one fact

module _ (a : Arena) (ok : IsArena a) where
  turned : (t u : TermId) → t.0 < length a.nodes → u.0 < length a.nodes → same_id t u ≡ term_eq (tree a u) (tree a t)
  turned t u h k = term_eq-ids a ok t u h k ∙ term_eq-sym (tree a t) (tree a u)

  pub adds_one : (fact : TermId) (old new : List (TermId × Bool)) → fact.0 < length a.nodes → None ≡ negated (tree a fact) → new ≡ with_value old fact true → AddsValues a fact old new
  adds_one fact old new fact_in none e = record {
    same = λ t t_in.
        ap (lookup (same_id t)) e
        ∙ (given_more old fact t true
        ∙ ap (or_else (lookup (same_id t) old)) (
        ap (λ b. cond b (Some true) None) (turned t fact t_in fact_in)
        ∙ ap (λ o. cond (term_eq (tree a fact) (tree a t)) (Some true) (assigned (given_negated true o) (tree a t))) none));
  }

  pub adds_two : (fact u : TermId) (old middle new : List (TermId × Bool)) → fact.0 < length a.nodes → u.0 < length a.nodes → Some (tree a u) ≡ negated (tree a fact)
      → middle ≡ with_value old fact true → new ≡ with_value middle u false → AddsValues a fact old new
  adds_two fact u old middle new fact_in u_in some e f = record {
    same = λ t t_in.
        ap (lookup (same_id t)) f
        ∙ (given_more middle u t false
        ∙ (ap (λ o. or_else o (alone t u false)) (ap (lookup (same_id t)) e ∙ given_more old fact t true)
        ∙ (or_else-more (lookup (same_id t) old) (alone t fact true) (alone t u false)
        ∙ ap (or_else (lookup (same_id t) old)) (
        (λ i. or_else (cond (turned t fact t_in fact_in i) (Some true) None) (cond (turned t u t_in u_in i) (Some false) None))
        ∙ (joined (term_eq (tree a fact) (tree a t)) (cond (term_eq (tree a u) (tree a t)) (Some false) None)
        ∙ ap (λ o. cond (term_eq (tree a fact) (tree a t)) (Some true) (assigned (given_negated true o) (tree a t))) some)))));
  }
    where
      joined : (b : Bool) (o : Option Bool) → or_else (cond b (Some true) None) o ≡ cond b (Some true) o
      joined true o = refl
      joined false o = refl

  pub adds_order : (fact p q : TermId) (old new : List Order) → p.0 < length a.nodes → q.0 < length a.nodes → Some (tree a p, tree a q) ≡ lower (tree a fact)
      → new ≡ insert_key same_pair old (record { low = p; high = q }) → AddsOrder a fact old new
  adds_order fact p q old new p_in q_in some e = record {
    same = λ s t s_in t_in.
        ap (list_any (same_pair (record { low = s; high = t }))) e
        ∙ (order_more old (record { low = s; high = t }) (record { low = p; high = q })
        ∙ ap (λ b. list_any (same_pair (record { low = s; high = t })) old || b) (
        (λ i. term_eq-ids a ok s p s_in p_in i && term_eq-ids a ok t q t_in q_in i) ∙ below_some (tree a s) (tree a t) (tree a p) (tree a q) (tree a fact) some));
  }

-- ---- all facts

-- the values so far, and those that the rest gives
pub record GivesSoFar (a : Arena) (cited rest : List TermId) (values : List (TermId × Bool)) : Type 0 where
  pub same : (t : TermId) → t.0 < length a.nodes → or_else (lookup (same_id t) values) (facts_give a (Known t) rest) ≡ facts_give a (Known t) cited

pub record OrdersSoFar (a : Arena) (cited rest : List TermId) (pairs : List Order) : Type 0 where
  pub same : (s t : TermId) → s.0 < length a.nodes → t.0 < length a.nodes
      → (list_any (same_pair (record { low = s; high = t })) pairs || orders a s t rest) ≡ orders a s t cited

module _ (a : Arena) (cited : List TermId) where
  pub gives_starts : (values : List (TermId × Bool)) → values ≡ [] → GivesSoFar a cited cited values
  gives_starts values e = record { same = λ t h. ap (λ vs. or_else (lookup (same_id t) vs) (facts_give a (Known t) cited)) e }

  pub gives_step : (old new : List (TermId × Bool)) (i : ℕ) (d : TermId) → i < length cited → GivesSoFar a cited (drop i cited) old → AddsValues a (get_or cited i d) old new → GivesSoFar a cited (drop (i + 1) cited) new
  gives_step old new i d below so added = record {
    same = λ t h.
        ap (λ o. or_else o (facts_give a (Known t) (drop (i + 1) cited))) (added.same t h)
        ∙ (or_else-more (lookup (same_id t) old) (assigned (given_by true (tree a (get_or cited i d))) (tree a t)) (facts_give a (Known t) (drop (i + 1) cited))
        ∙ (ap (or_else (lookup (same_id t) old)) (sym (at_drop_more (facts_give a (Known t)) cited i d below ∙ facts_give-cons a (Known t) (get_or cited i d) (drop (i + 1) cited))) ∙ so.same t h));
  }

  pub gives_ends : (values : List (TermId × Bool)) (rest : List TermId) → rest ≡ [] → GivesSoFar a cited rest values → GivesValues a cited values
  gives_ends values rest e so = record {
    same = λ t h. or_else-none (lookup (same_id t) values) ∙ (ap (λ us. or_else (lookup (same_id t) values) (facts_give a (Known t) us)) (sym e) ∙ so.same t h);
  }

  pub orders_start : (pairs : List Order) → pairs ≡ [] → OrdersSoFar a cited cited pairs
  orders_start pairs e = record { same = λ s t h k. ap (λ ps. list_any (same_pair (record { low = s; high = t })) ps || orders a s t cited) e }

  or-more : (x y z : Bool) → ((x || y) || z) ≡ (x || (y || z))
  or-more true y z = refl
  or-more false y z = refl

  pub orders_step : (old new : List Order) (i : ℕ) (d : TermId) → i < length cited → OrdersSoFar a cited (drop i cited) old → AddsOrder a (get_or cited i d) old new → OrdersSoFar a cited (drop (i + 1) cited) new
  orders_step old new i d below so added = record {
    same = λ s t h k.
        ap (λ b. b || orders a s t (drop (i + 1) cited)) (added.same s t h k)
        ∙ (or-more (list_any (same_pair (record { low = s; high = t })) old) (term_eq (put_below (tree a s) (tree a t)) (tree a (get_or cited i d))) (orders a s t (drop (i + 1) cited))
        ∙ (ap (λ b. list_any (same_pair (record { low = s; high = t })) old || b) (sym (at_drop_more (orders a s t) cited i d below)) ∙ so.same s t h k));
  }

  pub orders_end : (pairs : List Order) (rest : List TermId) → rest ≡ [] → OrdersSoFar a cited rest pairs → GivesOrders a cited pairs
  orders_end pairs rest e so = record {
    same = λ s t h k. or-false (list_any (same_pair (record { low = s; high = t })) pairs) ∙ (ap (λ us. list_any (same_pair (record { low = s; high = t })) pairs || orders a s t us) (sym e) ∙ so.same s t h k);
  }
