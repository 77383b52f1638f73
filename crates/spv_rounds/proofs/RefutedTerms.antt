-- The subterms of what is refuted are the terms at hand, but for negations and FALSE.
use Rattle.std.proofs.Common.{◌≡◌, Bool, true, false, cond, List, [], ◌∷◌, ◌++◌, refl, sym, ap, ◌∙◌, subst}
use Rattle.std.proofs.lemmas.Bool.{false≢true}
use Rattle.std.proofs.lemmas.List.{append-nil}
use Rattle.spv_logic.specs.declared.operators.Head.{Head}
use Rattle.spv_logic.specs.declared.operators.Head.TheVariants.{Not, False}
use Rattle.spv_logic.specs.Terms.{Term, Terms, term, no_terms, terms}
use Rattle.spv_logic.specs.Formulas.{negation}
use Rattle.spv_schemas.specs.Instances.{schema_facts}
use Rattle.spv_schemas.specs.Laws.{FactsAreWhereSortsFit}
use Rattle.spv_atoms.specs.Atoms.{only_if, with_term, with_terms}
use Rattle.spv_atoms.specs.Order.{order, order_all}
use Rattle.spv_atoms.proofs.Members.{has, has-with_term, with_term-has}
use Rattle.spv_proof_rules.specs.Effects.{Question}
use Rattle.spv_models.specs.leaf_models.Subterms.{enters_each, with_subterms, subterms}
use Rattle.spv_models.specs.leaf_models.Tables.{formulas_of}
use Rattle.spv_models.proofs.leaf_models.Closed.{ArgumentsIn, with_term-parts}
use Rattle.spv_models.proofs.leaf_models.Lookups.{has-passing, passing-parts}
use Rattle.spv_verdicts.specs.Schemas.{used, further_facts, enlarged}
use Rattle.spv_verdicts.proofs.translation.CountLemmas.{IsInside}
use Rattle.spv_rounds.specs.Claims.{claim, used_with}
use Rattle.spv_rounds.specs.Atoms.{facts_with, terms_with}
use Rattle.spv_rounds.proofs.RemainingTerms.{remains, remaining, one_truth, passing-with_term}
use Rattle.spv_rounds.proofs.RemainingFacts.{same-facts}

-- ---- terms with their arguments

ArgumentsIn-more : (xs ys : List Term) (ts : Terms) → ((u : Term) → has xs u ≡ true → has ys u ≡ true) → ArgumentsIn xs ts → ArgumentsIn ys ts
ArgumentsIn-more xs ys no_terms more h = tt
ArgumentsIn-more xs ys (terms t ts) more h = (more t h.0, ArgumentsIn-more xs ys ts more h.1)

rest_is : (h k : Head) (ss ts : Terms) → term h ss ≡ term k ts → ss ≡ ts
rest_is h k ss ts e = cc

one_inside : (xs : List Term) (h : Head) (ts : Terms) → IsInside xs → ArgumentsIn xs ts → IsInside (with_term xs (term h ts))
one_inside xs h ts inside own k us m =
    ArgumentsIn-more xs (with_term xs (term h ts)) us (has-with_term xs (term h ts))
    (with_term-parts xs (term h ts) (term k us) m (inside k us) (λ e. subst (ArgumentsIn xs) (sym (rest_is k h us ts e)) own))

-- more terms: they have what was there, and the arguments of each
record Grown (old new : List Term) : Type 0 where
  keeps : (u : Term) → has old u ≡ true → has new u ≡ true
  inside : IsInside new

mutual
  order-grown : (t : Term) (done : List Term) → IsInside done → Grown done (order enters_each t done) × (has (order enters_each t done) t ≡ true)
  order-grown (term h ts) done inside = by_known (has done (term h ts)) refl (all-grown ts done inside)
    where
      by_known : (b : Bool) → has done (term h ts) ≡ b → Grown done (order_all enters_each ts done) × ArgumentsIn (order_all enters_each ts done) ts
          → Grown done (cond b done (with_term (order_all enters_each ts done) (term h ts))) × (has (cond b done (with_term (order_all enters_each ts done) (term h ts))) (term h ts) ≡ true)
      by_known true m later = (record { keeps = λ u k. k; inside = inside }, m)
      by_known false m later = (
        record {
          keeps = λ u k. has-with_term (order_all enters_each ts done) (term h ts) u (later.0.keeps u k);
          inside = one_inside (order_all enters_each ts done) h ts later.0.inside later.1;
        },
        with_term-has (order_all enters_each ts done) (term h ts),
      )

  all-grown : (ts : Terms) (done : List Term) → IsInside done → Grown done (order_all enters_each ts done) × ArgumentsIn (order_all enters_each ts done) ts
  all-grown no_terms done inside = (record { keeps = λ u k. k; inside = inside }, tt)
  all-grown (terms t ts) done inside =
      let first = order-grown t done inside in
      let later = all-grown ts (order enters_each t done) first.0.inside in
      (record { keeps = λ u k. later.0.keeps u (first.0.keeps u k); inside = later.0.inside }, (later.0.keeps t first.1, later.1))

order-inside : (t : Term) (done : List Term) → IsInside done → IsInside (order enters_each t done)
order-inside t done inside = (order-grown t done inside).0.inside

with_subterms-inside : (fs done : List Term) → IsInside done → IsInside (with_subterms done fs)
with_subterms-inside [] done inside = inside
with_subterms-inside (f ∷ fs) done inside = with_subterms-inside fs (order enters_each f done) (order-inside f done inside)

nothing-inside : IsInside []
nothing-inside h ts m = absurd (false≢true m)

pub subterms-inside : (fs : List Term) → IsInside (subterms fs)
subterms-inside fs = with_subterms-inside fs [] nothing-inside

-- ---- terms that come to others

order-known : (t : Term) (xs : List Term) → has xs t ≡ true → order enters_each t xs ≡ xs
order-known (term h ts) xs m = ap (λ b. cond b xs (with_term (order_all enters_each ts xs) (term h ts))) m

order-new : (h : Head) (ts : Terms) (xs : List Term) → has xs (term h ts) ≡ false → order enters_each (term h ts) xs ≡ with_term (order_all enters_each ts xs) (term h ts)
order-new h ts xs m = ap (λ b. cond b xs (with_term (order_all enters_each ts xs) (term h ts))) m

-- a term of which only others with it lack nothing that remains
lacks_no_more : (t : Term) (xs ys : List Term) → remaining xs ≡ remaining ys → has xs t ≡ true → has ys t ≡ false → remains t ≡ false
lacks_no_more t xs ys e m n =
    one_truth (remains t) false (λ r. absurd (false≢true (sym n ∙ (passing-parts remains ys t (ap (λ zs. has zs t) (sym e) ∙ has-passing remains xs t m r)).among))) (λ r. absurd (false≢true r))

mutual
  -- to the same terms, but for what is left out, a term that one list has brings nothing that remains
  known-same : (t : Term) (xs ys : List Term) → IsInside xs → has xs t ≡ true → remaining xs ≡ remaining ys → remaining (order enters_each t ys) ≡ remaining ys
  known-same (term h ts) xs ys inside m e = by (has ys (term h ts)) refl (all-known-same ts xs ys inside (inside h ts m) e)
    where
      by : (b : Bool) → has ys (term h ts) ≡ b → remaining (order_all enters_each ts ys) ≡ remaining ys → remaining (cond b ys (with_term (order_all enters_each ts ys) (term h ts))) ≡ remaining ys
      by true n later = refl
      by false n later =
          passing-with_term remains (order_all enters_each ts ys) (term h ts)
          ∙ (ap (λ b. with_terms (remaining (order_all enters_each ts ys)) (only_if b (term h ts))) (lacks_no_more (term h ts) xs ys e m n) ∙ later)

  all-known-same : (ts : Terms) (xs ys : List Term) → IsInside xs → ArgumentsIn xs ts → remaining xs ≡ remaining ys → remaining (order_all enters_each ts ys) ≡ remaining ys
  all-known-same no_terms xs ys inside m e = refl
  all-known-same (terms t ts) xs ys inside m e =
      let first = known-same t xs ys inside m.0 e in
      all-known-same ts xs (order enters_each t ys) inside m.1 (e ∙ sym first) ∙ first

with_term-same : (t : Term) (xs ys : List Term) → remaining xs ≡ remaining ys → remaining (with_term xs t) ≡ remaining (with_term ys t)
with_term-same t xs ys e = passing-with_term remains xs t ∙ (ap (λ zs. with_terms zs (only_if (remains t) t)) e ∙ sym (passing-with_term remains ys t))

mutual
  order-same : (t : Term) (xs ys : List Term) → IsInside xs → IsInside ys → remaining xs ≡ remaining ys → remaining (order enters_each t xs) ≡ remaining (order enters_each t ys)
  order-same (term h ts) xs ys in_xs in_ys e = by (has xs (term h ts)) (has ys (term h ts)) refl refl (all-same ts xs ys in_xs in_ys e)
    where
      by : (b c : Bool) → has xs (term h ts) ≡ b → has ys (term h ts) ≡ c → remaining (order_all enters_each ts xs) ≡ remaining (order_all enters_each ts ys)
          → remaining (order enters_each (term h ts) xs) ≡ remaining (order enters_each (term h ts) ys)
      by true c m n later = ap remaining (order-known (term h ts) xs m) ∙ (e ∙ sym (known-same (term h ts) xs ys in_xs m e))
      by false true m n later = known-same (term h ts) ys xs in_ys n (sym e) ∙ (e ∙ sym (ap remaining (order-known (term h ts) ys n)))
      by false false m n later =
          ap remaining (order-new h ts xs m) ∙ (with_term-same (term h ts) (order_all enters_each ts xs) (order_all enters_each ts ys) later ∙ sym (ap remaining (order-new h ts ys n)))

  all-same : (ts : Terms) (xs ys : List Term) → IsInside xs → IsInside ys → remaining xs ≡ remaining ys → remaining (order_all enters_each ts xs) ≡ remaining (order_all enters_each ts ys)
  all-same no_terms xs ys in_xs in_ys e = e
  all-same (terms t ts) xs ys in_xs in_ys e =
      all-same ts (order enters_each t xs) (order enters_each t ys) (order-inside t xs in_xs) (order-inside t ys in_ys) (order-same t xs ys in_xs in_ys e)

with_subterms-same : (fs xs ys : List Term) → IsInside xs → IsInside ys → remaining xs ≡ remaining ys → remaining (with_subterms xs fs) ≡ remaining (with_subterms ys fs)
with_subterms-same [] xs ys in_xs in_ys e = e
with_subterms-same (f ∷ fs) xs ys in_xs in_ys e =
    with_subterms-same fs (order enters_each f xs) (order enters_each f ys) (order-inside f xs in_xs) (order-inside f ys in_ys) (order-same f xs ys in_xs in_ys e)

pub with_subterms-append : (fs gs done : List Term) → with_subterms done (fs ++ gs) ≡ with_subterms (with_subterms done fs) gs
with_subterms-append [] gs done = refl
with_subterms-append (f ∷ fs) gs done = with_subterms-append fs gs (order enters_each f done)

-- ---- negations and FALSE

-- a negation brings what it negates
negation-same : (g : Term) (xs : List Term) → IsInside xs → remaining (order enters_each (negation g) xs) ≡ remaining (order enters_each g xs)
negation-same g xs inside = by (has xs (negation g)) refl
  where
    by : (b : Bool) → has xs (negation g) ≡ b → remaining (order enters_each (negation g) xs) ≡ remaining (order enters_each g xs)
    by true m = ap remaining (order-known (negation g) xs m) ∙ sym (ap remaining (order-known g xs (inside Not (terms g no_terms) m).0))
    by false m = ap remaining (order-new Not (terms g no_terms) xs m) ∙ passing-with_term remains (order enters_each g xs) (negation g)

falsity-same : (xs : List Term) → remaining (order enters_each (term False no_terms) xs) ≡ remaining xs
falsity-same xs = by (has xs (term False no_terms)) refl
  where
    by : (b : Bool) → has xs (term False no_terms) ≡ b → remaining (order enters_each (term False no_terms) xs) ≡ remaining xs
    by true m = ap remaining (order-known (term False no_terms) xs m)
    by false m = ap remaining (order-new False no_terms xs m) ∙ passing-with_term remains xs (term False no_terms)

ends-with-falsity : (fs : List Term) → remaining (subterms (fs ++ term False no_terms ∷ [])) ≡ remaining (subterms fs)
ends-with-falsity fs = ap remaining (with_subterms-append fs (term False no_terms ∷ []) []) ∙ falsity-same (subterms fs)

-- that a goal is false stands for the goal
negated-goal : (given fs : List Term) (goal : Term) → remaining (subterms (given ++ negation goal ∷ fs)) ≡ remaining (with_subterms (subterms (given ++ goal ∷ [])) fs)
negated-goal given fs goal =
    let before = subterms-inside given in
    ap remaining (with_subterms-append given (negation goal ∷ fs) [])
    ∙ (with_subterms-same fs (order enters_each (negation goal) (subterms given)) (order enters_each goal (subterms given)) (order-inside (negation goal) (subterms given) before)
    (order-inside goal (subterms given) before) (negation-same goal (subterms given) before)
    ∙ ap (λ us. remaining (with_subterms us fs)) (sym (with_subterms-append given (goal ∷ []) [])))

-- ---- what is refuted

-- a condition alone
refuted-terms : (q : Question) → remaining (subterms (formulas_of (enlarged q).sequent)) ≡ remaining (with_subterms (used q) (further_facts q))
refuted-terms q =
    ends-with-falsity (q.sequent.given ++ negation q.sequent.goal ∷ further_facts q) ∙ negated-goal q.sequent.given (further_facts q) q.sequent.goal

alone : (q : Question) → used q ≡ used_with q []
alone q = ap subterms (sym (append-nil (formulas_of q.sequent)))

pub facts-alone : (q : Question) → further_facts q ≡ facts_with q []
facts-alone q = ap (schema_facts q.shapes q.decls) (alone q)

pub terms-alone : (q : Question) → remaining (subterms (formulas_of (enlarged q).sequent)) ≡ remaining (terms_with q [])
terms-alone q =
    refuted-terms q ∙ (ap (λ us. remaining (with_subterms us (further_facts q))) (alone q) ∙ ap (λ fs. remaining (with_subterms (used_with q []) fs)) (facts-alone q))

-- with what instances say
module _ (fits : FactsAreWhereSortsFit) where
  used-same : (q : Question) (fs : List Term) → remaining (used (claim q fs)) ≡ remaining (used_with q fs)
  used-same q fs =
      ends-with-falsity (q.sequent.given ++ negation q.sequent.goal ∷ fs)
      ∙ (negated-goal q.sequent.given fs q.sequent.goal ∙ ap remaining (sym (with_subterms-append (formulas_of q.sequent) fs [])))

  pub facts-same : (q : Question) (fs : List Term) → further_facts (claim q fs) ≡ facts_with q fs
  facts-same q fs = same-facts q.shapes q.decls fits (used (claim q fs)) (used_with q fs) (used-same q fs)

  pub terms-same : (q : Question) (fs : List Term) → remaining (subterms (formulas_of (enlarged (claim q fs)).sequent)) ≡ remaining (terms_with q fs)
  terms-same q fs =
      refuted-terms (claim q fs)
      ∙ (with_subterms-same (further_facts (claim q fs)) (used (claim q fs)) (used_with q fs) (subterms-inside (formulas_of (claim q fs).sequent)) (subterms-inside (formulas_of q.sequent ++ fs)) (used-same q fs)
      ∙ ap (λ us. remaining (with_subterms (used_with q fs) us)) (facts-same q fs))
