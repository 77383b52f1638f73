-- A search that refutes all together has at most one term more than those that count.
use Rattle.std.proofs.Common.{◌≡◌, ◌+◌, ◌≤◌, Bool, true, false, cond, List, [], ◌∷◌, ◌++◌, length, refl, sym, ap, ◌∙◌, subst, pos, arith}
use Rattle.std.specs.Cmp.{IsEquivalence}
use Rattle.std.specs.List.{IsDistinct}
use Rattle.std.proofs.lemmas.Bool.{false≢true}
use Rattle.std.proofs.lemmas.List.{length_push}
use Rattle.std.proofs.lemmas.Map.Keys.{IsDistinct-push}
use Rattle.std.proofs.lemmas.Map.Made.{length-le_from_is_member}
use Rattle.spv_logic.specs.declared.operators.Head.{Head}
use Rattle.spv_logic.specs.declared.operators.Head.TheVariants.{Num, Not, True, False}
use Rattle.spv_logic.specs.Terms.{Term, Terms, term, no_terms, terms, term_eq}
use Rattle.spv_logic.specs.Formulas.{negation}
use Rattle.spv_logic.proofs.Equality.{term_eq-true, term_eq-refl}
use Rattle.spv_atoms.specs.Atoms.{with_term, with_terms}
use Rattle.spv_atoms.specs.Order.{order, order_all}
use Rattle.spv_atoms.proofs.Members.{has, or_cases, or_left, or_right, has-left, has-right, has-parts, has-with_term, with_term-known, with_term-has, has-with_terms, with_terms-has, has_one}
use Rattle.spv_proof_rules.specs.Effects.{Question}
use Rattle.spv_models.specs.leaf_models.Atoms.{all_equations}
use Rattle.spv_models.specs.leaf_models.Subterms.{enters_each, with_subterms, subterms}
use Rattle.spv_models.specs.leaf_models.Tables.{formulas_of}
use Rattle.spv_models.proofs.leaf_models.Closed.{ArgumentsIn, with_term-parts, subterms-has}
use Rattle.spv_search_terms.specs.condition_copy.Copies.{base_terms, all_terms}
use Rattle.spv_verdicts.specs.Verdicts.{search_terms}
use Rattle.spv_verdicts.specs.Schemas.{refuted, further_facts, enlarged, counted_terms}
use Rattle.spv_verdicts.proofs.TermCounts.{terms-parts}

-- ---- terms of which none is there twice

term_eq-symm : (t u : Term) → term_eq t u ≡ term_eq u t
term_eq-symm t u = by_case (term_eq t u) (term_eq u t) refl refl
  where
    by_case : (b c : Bool) → term_eq t u ≡ b → term_eq u t ≡ c → b ≡ c
    by_case true true e f = refl
    by_case false false e f = refl
    by_case true false e f = absurd (false≢true (sym f ∙ (ap (term_eq u) (term_eq-true t u e) ∙ term_eq-refl u)))
    by_case false true e f = absurd (false≢true (sym e ∙ (ap (term_eq t) (term_eq-true u t f) ∙ term_eq-refl t)))

-- a term is equal to no more than itself
pub term_laws : IsEquivalence term_eq
term_laws = record { refl = term_eq-refl; symm = term_eq-symm; congr = λ t u v e. ap (λ x. term_eq x v) (term_eq-true t u e) }

distinct-with_term : (xs : List Term) (t : Term) → IsDistinct term_eq xs → IsDistinct term_eq (with_term xs t)
distinct-with_term xs t d = by_case (has xs t) refl
  where
    by_case : (b : Bool) → has xs t ≡ b → IsDistinct term_eq (cond b xs (xs ++ t ∷ []))
    by_case true e = d
    by_case false e = IsDistinct-push term_laws xs t d e

distinct-with_terms : (xs ts : List Term) → IsDistinct term_eq xs → IsDistinct term_eq (with_terms xs ts)
distinct-with_terms xs [] d = d
distinct-with_terms xs (t ∷ ts) d = distinct-with_terms (with_term xs t) ts (distinct-with_term xs t d)

distinct-nothing : IsDistinct term_eq []
unfolding IsDistinct
distinct-nothing = tt

distinct-base : IsDistinct term_eq base_terms
distinct-base = distinct-with_terms [] base_terms distinct-nothing

-- ---- terms with their arguments

-- the arguments of each term are among the terms
abbrev pub IsInside : List Term → Type 0
IsInside xs = (h : Head) (ts : Terms) → has xs (term h ts) ≡ true → ArgumentsIn xs ts

arguments-more : (xs ys : List Term) (ts : Terms) → ((u : Term) → has xs u ≡ true → has ys u ≡ true) → ArgumentsIn xs ts → ArgumentsIn ys ts
arguments-more xs ys no_terms more h = tt
arguments-more xs ys (terms t ts) more h = (more t h.0, arguments-more xs ys ts more h.1)

rest_is : (h k : Head) (ss ts : Terms) → term h ss ≡ term k ts → ss ≡ ts
rest_is h k ss ts e = cc

one_inside : (xs : List Term) (h : Head) (ts : Terms) → IsInside xs → ArgumentsIn xs ts → IsInside (with_term xs (term h ts))
one_inside xs h ts inside own k us m =
    arguments-more xs (with_term xs (term h ts)) us (has-with_term xs (term h ts))
    (with_term-parts xs (term h ts) (term k us) m (inside k us) (λ e. subst (ArgumentsIn xs) (sym (rest_is k h us ts e)) own))

-- more terms, which have what was there and the arguments of each
record Grows (old new : List Term) : Type 0 where
  keeps : (u : Term) → has old u ≡ true → has new u ≡ true
  inside : IsInside new

mutual
  order-grows : (t : Term) (done : List Term) → IsInside done → Grows done (order enters_each t done)
  order-grows (term h ts) done inside = by_known (has done (term h ts)) (order_all-grows ts done inside) (order_all-there ts done inside)
    where
      by_known : (b : Bool) → Grows done (order_all enters_each ts done) → ArgumentsIn (order_all enters_each ts done) ts → Grows done (cond b done (with_term (order_all enters_each ts done) (term h ts)))
      by_known true later own = record { keeps = λ u k. k; inside = inside }
      by_known false later own = record {
        keeps = λ u k. has-with_term (order_all enters_each ts done) (term h ts) u (later.keeps u k);
        inside = one_inside (order_all enters_each ts done) h ts later.inside own;
      }

  order_all-grows : (ts : Terms) (done : List Term) → IsInside done → Grows done (order_all enters_each ts done)
  order_all-grows no_terms done inside = record { keeps = λ u k. k; inside = inside }
  order_all-grows (terms t ts) done inside =
      let first = order-grows t done inside in
      let later = order_all-grows ts (order enters_each t done) first.inside in
      record { keeps = λ u k. later.keeps u (first.keeps u k); inside = later.inside }

  order_all-there : (ts : Terms) (done : List Term) → IsInside done → ArgumentsIn (order_all enters_each ts done) ts
  order_all-there no_terms done inside = tt
  order_all-there (terms t ts) done inside =
      let first = order-grows t done inside in
      let later = order_all-grows ts (order enters_each t done) first.inside in
      (later.keeps t (order-there t done), order_all-there ts (order enters_each t done) first.inside)

  order-there : (t : Term) (done : List Term) → has (order enters_each t done) t ≡ true
  order-there (term h ts) done = by_known (has done (term h ts)) refl
    where
      by_known : (b : Bool) → has done (term h ts) ≡ b → has (cond b done (with_term (order_all enters_each ts done) (term h ts))) (term h ts) ≡ true
      by_known true e = e
      by_known false e = with_term-has (order_all enters_each ts done) (term h ts)

with_subterms-inside : (fs done : List Term) → IsInside done → IsInside (with_subterms done fs)
with_subterms-inside [] done inside = inside
with_subterms-inside (f ∷ fs) done inside = let first = order-grows f done inside in with_subterms-inside fs (order enters_each f done) first.inside

-- the arguments of each subterm are subterms
subterms-inside : (fs : List Term) → IsInside (subterms fs)
subterms-inside fs = with_subterms-inside fs [] (λ h ts k. absurd (false≢true k))

-- ---- subterms are among terms that have the formulas and their arguments

module _ (all : List Term) (inside : IsInside all) where
  mutual
    order-within : (t : Term) (done : List Term) → has all t ≡ true → ((u : Term) → has done u ≡ true → has all u ≡ true) → (u : Term) → has (order enters_each t done) u ≡ true → has all u ≡ true
    order-within (term h ts) done there within u = by_known (has done (term h ts)) (order_all-within ts done (inside h ts there) within)
      where
        by_known : (b : Bool) → ((v : Term) → has (order_all enters_each ts done) v ≡ true → has all v ≡ true) → has (cond b done (with_term (order_all enters_each ts done) (term h ts))) u ≡ true → has all u ≡ true
        by_known true later k = within u k
        by_known false later k = with_term-parts (order_all enters_each ts done) (term h ts) u k (later u) (λ e. ap (has all) e ∙ there)

    order_all-within : (ts : Terms) (done : List Term) → ArgumentsIn all ts → ((u : Term) → has done u ≡ true → has all u ≡ true) → (u : Term) → has (order_all enters_each ts done) u ≡ true → has all u ≡ true
    order_all-within no_terms done there within = within
    order_all-within (terms t ts) done there within = order_all-within ts (order enters_each t done) there.1 (order-within t done there.0 within)

  pub with_subterms-within : (fs done : List Term) → ((f : Term) → has fs f ≡ true → has all f ≡ true) → ((u : Term) → has done u ≡ true → has all u ≡ true) → (u : Term) → has (with_subterms done fs) u ≡ true → has all u ≡ true
  with_subterms-within [] done there within = within
  with_subterms-within (f ∷ fs) done there within =
      with_subterms-within fs (order enters_each f done) (λ g k. there g (or_right (term_eq g f) (has fs g) k)) (order-within f done (there f (or_left (term_eq f f) (has fs f) (term_eq-refl f))) within)

-- ---- the terms that count

alone_or : (k h : Head) (ts : Terms) (others : List Term) → has (term k no_terms ∷ others) (term h ts) ≡ true → (has others (term h ts) ≡ true → ts ≡ no_terms) → ts ≡ no_terms
alone_or k h ts others m next = or_cases (term_eq (term h ts) (term k no_terms)) (has others (term h ts)) m (λ e. rest_is h k ts no_terms (term_eq-true (term h ts) (term k no_terms) e)) next

abbrev from_one : List Term
from_one = term (Num (pos 1)) no_terms ∷ term True no_terms ∷ term False no_terms ∷ []

abbrev from_truth : List Term
from_truth = term True no_terms ∷ term False no_terms ∷ []

-- 0, 1, TRUE and FALSE have no arguments
base-alone : (h : Head) (ts : Terms) → has base_terms (term h ts) ≡ true → ts ≡ no_terms
base-alone h ts m =
    alone_or (Num (pos 0)) h ts from_one m (λ k. alone_or (Num (pos 1)) h ts from_truth k (λ l. alone_or True h ts (term False no_terms ∷ []) l (λ n. alone_or False h ts [] n (λ o. absurd (false≢true o)))))

module _ (q : Question) where
  abbrev goal_false : Term
  goal_false = negation q.sequent.goal

  abbrev pub counted_parts : List Term
  counted_parts = subterms (formulas_of q.sequent ++ further_facts q)

  abbrev equations : List Term
  equations = all_equations q.shapes q.decls (subterms (formulas_of (enlarged q).sequent))

  abbrev pub parts : List Term
  parts = with_terms base_terms counted_parts

  abbrev all : List Term
  all = with_term parts goal_false

  goal-there : has parts q.sequent.goal ≡ true
  goal-there = with_terms-has base_terms counted_parts q.sequent.goal (subterms-has (formulas_of q.sequent ++ further_facts q) q.sequent.goal
      (has-left (formulas_of q.sequent) (further_facts q) q.sequent.goal (has-right q.sequent.given (q.sequent.goal ∷ []) q.sequent.goal (or_left (term_eq q.sequent.goal q.sequent.goal) false (term_eq-refl q.sequent.goal)))))

  pub parts-inside : IsInside parts
  parts-inside h ts m =
      terms-parts base_terms counted_parts (term h ts) m (λ k. subst (ArgumentsIn parts) (sym (base-alone h ts k)) tt)
      (λ k. arguments-more counted_parts parts ts (with_terms-has base_terms counted_parts) (subterms-inside (formulas_of q.sequent ++ further_facts q) h ts k))

  all-inside : IsInside all
  all-inside = one_inside parts Not (terms q.sequent.goal no_terms) parts-inside (goal-there, tt)

  formula-there : (f : Term) → has (formulas_of q.sequent ++ further_facts q) f ≡ true → has all f ≡ true
  formula-there f m = has-with_term parts goal_false f (with_terms-has base_terms counted_parts f (subterms-has (formulas_of q.sequent ++ further_facts q) f m))

  refuted-there : (f : Term) → has (formulas_of (enlarged q).sequent) f ≡ true → has all f ≡ true
  refuted-there f m =
      has-parts (refuted q) (term False no_terms ∷ []) f m
      (λ k. has-parts q.sequent.given (goal_false ∷ further_facts q) f k
      (λ l. formula-there f (has-left (formulas_of q.sequent) (further_facts q) f (has-left q.sequent.given (q.sequent.goal ∷ []) f l)))
      (λ l. or_cases (term_eq f goal_false) (has (further_facts q) f) l (λ e. ap (has all) (term_eq-true f goal_false e) ∙ with_term-has parts goal_false)
      (λ n. formula-there f (has-right (formulas_of q.sequent) (further_facts q) f n))))
      (λ k. has-with_term parts goal_false f (has-with_terms base_terms counted_parts f (ap (has base_terms) (has_one f (term False no_terms) k) ∙ refl)))

  term-there : (u : Term) → has (search_terms (enlarged q)) u ≡ true → has (with_term (counted_terms q) goal_false) u ≡ true
  term-there u m =
      terms-parts (all_terms (enlarged q).sequent) equations u m
      (λ k. terms-parts base_terms (subterms (formulas_of (enlarged q).sequent)) u k
      (λ l. has-with_term (counted_terms q) goal_false u (has-with_terms parts equations u (has-with_terms base_terms counted_parts u l)))
      (λ l. from_all (with_subterms-within all all-inside (formulas_of (enlarged q).sequent) [] refuted-there (λ v n. absurd (false≢true n)) u l)))
      (λ k. has-with_term (counted_terms q) goal_false u (with_terms-has parts equations u k))
    where
      from_all : has all u ≡ true → has (with_term (counted_terms q) goal_false) u ≡ true
      from_all k = with_term-parts parts goal_false u k (λ l. has-with_term (counted_terms q) goal_false u (has-with_terms parts equations u l)) (λ e. ap (has (with_term (counted_terms q) goal_false)) e ∙ with_term-has (counted_terms q) goal_false)

  pub few-terms : length (search_terms (enlarged q)) ≤ length (with_term (counted_terms q) goal_false)
  few-terms =
      length-le_from_is_member term_laws (search_terms (enlarged q)) (with_term (counted_terms q) goal_false)
      (distinct-with_terms (all_terms (enlarged q).sequent) equations (distinct-with_terms base_terms (subterms (formulas_of (enlarged q).sequent)) distinct-base)) term-there

  pub one-more : length (search_terms (enlarged q)) ≤ length (counted_terms q) + 1
  one-more = by_case (has (counted_terms q) goal_false) few-terms
    where
      by_case : (b : Bool) → length (search_terms (enlarged q)) ≤ length (cond b (counted_terms q) (counted_terms q ++ goal_false ∷ [])) → length (search_terms (enlarged q)) ≤ length (counted_terms q) + 1
      by_case true h = omega (arith, h)
      by_case false h = let e = length_push (counted_terms q) goal_false in omega (arith, h, e)

  pub none-more : has (counted_terms q) goal_false ≡ true → length (search_terms (enlarged q)) ≤ length (counted_terms q)
  none-more h = subst (λ xs. length (search_terms (enlarged q)) ≤ length xs) (with_term-known (counted_terms q) goal_false h) few-terms
