-- Where evaluations add nothing more and each atom has a value, each question has one.
use Rattle.std.proofs.Common.{◌≡◌, Bool, true, false, cond, ◌&&◌, ◌||◌, not, List, [], ◌∷◌, refl, sym, ap, ◌∙◌, Option, Some, None}
use Rattle.std.specs.Prelude.{is_some}
use Rattle.std.specs.List.{flat_map}
use Rattle.std.specs.Cmp.Derive.{both_true}
use Rattle.std.proofs.lemmas.Bool.{false≢true}
use Rattle.spv_logic.specs.declared.types.Sort.{Sort}
use Rattle.spv_logic.specs.declared.types.Sort.TheVariants as sort
use Rattle.spv_logic.specs.declared.operators.Head.{Head}
use Rattle.spv_logic.specs.declared.operators.Head.TheVariants as head
use Rattle.spv_logic.specs.Values.{bool_eq}
use Rattle.spv_logic.specs.Terms.{Term, Terms, term, no_terms, terms, term_eq}
use Rattle.spv_logic.specs.Formulas.{negation, equation}
use Rattle.spv_logic.specs.Sorts.{term_sort}
use Rattle.spv_logic.proofs.Equality.{term_eq-refl}
use Rattle.spv_atoms.specs.Atoms.{has_sort, is_atom, connects, is_fixed, with_term, with_terms}
use Rattle.spv_atoms.specs.Forms.{constant_values}
use Rattle.spv_atoms.specs.Order.{passing}
use Rattle.spv_atoms.specs.Tables.{all_truths, assigned, or_else, computed, not_of, equation_value}
use Rattle.spv_atoms.proofs.Members.{has, or_left, or_right, has-parts, has-with_terms}
use Rattle.spv_proof_rules.specs.Sums.{negated}
use Rattle.spv_proof_rules.specs.Evaluation.{given_by, given_negated, opposite}
use Rattle.spv_proof_rules.specs.Effects.{Question, is_truth}
use Rattle.spv_tableau_rules.specs.constraints.Sayings.{literal}
use Rattle.spv_models.specs.leaf_models.Subterms.{subterms, arguments, is_plain, truth_arguments}
use Rattle.spv_models.specs.leaf_models.Atoms.{all_equations, is_open}
use Rattle.spv_models.specs.leaf_models.Leaves.{truth_at}
use Rattle.spv_models.specs.leaf_models.Laws.{AreFormulas}
use Rattle.spv_models.specs.leaf_models.Tables.{formulas_of}
use Rattle.spv_models.proofs.leaf_models.Closed.{ArgumentsIn, IsClosed, with_term-parts}
use Rattle.spv_models.proofs.leaf_models.TermKinds.{Kind, HasSort, Own, Numeral, Total, Remains, Multiple, IsLess, IsAtMost, IsEqual, Negated, Both, Either, Implied, Truthful, Untruthful, kind}
use Rattle.spv_models.proofs.leaf_models.Owns.{own-plain, own-open}
use Rattle.spv_models.proofs.leaf_models.Lookups.{has-passing, passing-parts}
use Rattle.spv_models.proofs.leaf_models.Truths.{and-known, or-known, implied-known, same-known}
use Rattle.spv_models.proofs.leaf_models.Values.{IsSome, some-is, sort_known}
use Rattle.spv_models.proofs.leaf_models.Covering.{parts-closed, part-arguments}
use Rattle.spv_models.specs.split_trees.Paths.{atoms, questions}
use Rattle.spv_models.specs.split_trees.Shown.{supposing_false, IsFinished}
use Rattle.spv_models.proofs.split_trees.Agreeing.{computed-stays, agreed}
use Rattle.spv_assignments.proofs.partial_assignment.Told.{not_itself}

-- ---- members of lists that are put together

with_terms-parts : {A : Type 0} (xs ts : List Term) (u : Term) → has (with_terms xs ts) u ≡ true → (has xs u ≡ true → A) → (has ts u ≡ true → A) → A
with_terms-parts xs [] u h f g = f h
with_terms-parts xs (t ∷ ts) u h f g =
    with_terms-parts (with_term xs t) ts u h
    (λ k. with_term-parts xs t u k f (λ e. g (or_left (term_eq u t) (has ts u) (ap (term_eq u) (sym e) ∙ term_eq-refl u))))
    (λ k. g (or_right (term_eq u t) (has ts u) k))

-- a term of one of these lists
record IsOfOne (f : Term → List Term) (ts : List Term) (e : Term) : Type 0 where
  origin : Term
  among : has ts origin ≡ true
  there : has (f origin) e ≡ true

flat_map-parts : (f : Term → List Term) (ts : List Term) (e : Term) → has (flat_map f ts) e ≡ true → IsOfOne f ts e
flat_map-parts f [] e h = absurd (false≢true h)
flat_map-parts f (t ∷ ts) e h =
    has-parts (f t) (flat_map f ts) e h (λ k. record { origin = t; among = or_left (term_eq t t) (has ts t) (term_eq-refl t); there = k })
    (λ k. let o = flat_map-parts f ts e k in record { origin = o.origin; among = or_right (term_eq o.origin t) (has ts o.origin) o.among; there = o.there })

module _ (q : Question) (are : AreFormulas q.shapes q.decls (formulas_of q.sequent)) (fs : List Term) (value : Term → Option Bool) (ok : IsFinished q fs value) (all : (t : Term) → has (atoms q) t ≡ true → is_some (value t) ≡ true) where
  abbrev parts : List Term
  parts = subterms (formulas_of q.sequent)

  abbrev truth : Term → Bool
  truth = is_truth q

  abbrev Sorted : Term → Sort → Type 0
  Sorted t s = HasSort q.shapes q.decls t s

  -- a term has a value, or one is computed
  abbrev IsThere : Term → Type 0
  IsThere t = IsSome (truth_at truth value t)

  truth-of : (t : Term) → Sorted t sort.Bool → truth t ≡ true
  truth-of t e = ap (has_sort sort.Bool) e

  no_truth : (t : Term) → Sorted t sort.Int → truth t ≡ true → ⊥
  no_truth t e h = false≢true (sym (ap (has_sort sort.Bool) e) ∙ h)

  -- ---- atoms and connectives

  connected : (t : Term) (c : Bool) → computed truth value t ≡ Some c → IsThere t
  connected t c e = of_value (value t)
    where
      of_value : (o : Option Bool) → IsSome (or_else o (computed truth value t))
      of_value (Some b) = record { item = b; is = refl }
      of_value None = record { item = c; is = e }

  atomic : (t : Term) → has parts t ≡ true → is_atom truth t ≡ true → IsThere t
  atomic t m k =
      let there : has (atoms q) t ≡ true = has-with_terms (passing (is_atom truth) parts) (all_equations q.shapes q.decls parts) t (has-passing (is_atom truth) parts t m k) in
      let v = some-is (value t) (all t there) in
      record { item = v.item; is = ap (λ o. or_else o (computed truth value t)) v.is }

  plain-atom : (h : Head) (ts : Terms) → truth (term h ts) ≡ true → connects (all_truths truth ts) h ≡ false → is_fixed h ≡ false → is_atom truth (term h ts) ≡ true
  plain-atom h ts k m n = both_true k (both_true (ap not m) (ap not n))

  plain : (h : Head) (ts : Terms) → has parts (term h ts) ≡ true → truth (term h ts) ≡ true → connects (all_truths truth ts) h ≡ false → is_fixed h ≡ false → IsThere (term h ts)
  plain h ts m k c f = atomic (term h ts) m (plain-atom h ts k c f)

  -- ---- equations

  equal : (a b : Term) (s : Sort) → Sorted a s → Sorted b s → (truth a ≡ true → IsThere a) → (truth b ≡ true → IsThere b) → has parts (equation a b) ≡ true → truth (equation a b) ≡ true → IsThere (equation a b)
  equal a b s ha hb ta tb m n = by_truth (truth a) refl
    where
      as_b : truth a ≡ true → truth b ≡ true
      as_b e = ap (has_sort sort.Bool) (hb ∙ sym ha) ∙ e

      by_truth : (c : Bool) → truth a ≡ c → IsThere (equation a b)
      by_truth true e =
          let x = ta e in
          let y = tb (as_b e) in
          connected (equation a b) (bool_eq x.item y.item)
          (ap (λ c. equation_value c (truth_at truth value a) (truth_at truth value b) (terms a (terms b no_terms))) (both_true e (both_true (as_b e) refl))
          ∙ same-known x.item y.item (truth_at truth value a) (truth_at truth value b) x.is y.is)
      by_truth false e = plain head.Eq (terms a (terms b no_terms)) m n (ap (λ c. c && (truth b && true)) e) refl

  -- ---- all of them

  abbrev AllThere : Terms → Type 0
  AllThere no_terms = Unit {0}
  AllThere (terms t ts) = (truth t ≡ true → IsThere t) × AllThere ts

  abbrev ArgumentsThere : Term → Type 0
  ArgumentsThere (term h ts) = AllThere ts

  step : (t : Term) (s : Sort) → Kind q.shapes q.decls t s → has parts t ≡ true → Sorted t s → truth t ≡ true → ArgumentsThere t → IsThere t
  step t s (Own h ts r e) m is k args = plain h ts m k (own-plain h (constant_values ts) (all_truths truth ts) e) (own-open h (constant_values ts) e)
  step t s (Numeral z) m is k args = absurd (no_truth (term (head.Num z) no_terms) is k)
  step t s (Total a b ha hb) m is k args = absurd (no_truth (term head.Add (terms a (terms b no_terms))) is k)
  step t s (Remains a b ha hb) m is k args = absurd (no_truth (term head.Sub (terms a (terms b no_terms))) is k)
  step t s (Multiple a b ha hb e) m is k args = absurd (no_truth (term head.Mul (terms a (terms b no_terms))) is k)
  step t s (IsLess a b ha hb) m is k args = plain head.Lt (terms a (terms b no_terms)) m k refl refl
  step t s (IsAtMost a b ha hb) m is k args = plain head.Le (terms a (terms b no_terms)) m k refl refl
  step t s (IsEqual a b r ha hb) m is k args = equal a b r ha hb args.0 args.1.0 m k
  step t s (Negated a ha) m is k args = let x = args.0 (truth-of a ha) in connected (term head.Not (terms a no_terms)) (not x.item) (ap not_of x.is)
  step t s (Both a b ha hb) m is k args =
      let x = args.0 (truth-of a ha) in
      let y = args.1.0 (truth-of b hb) in
      connected (term head.And (terms a (terms b no_terms))) (x.item && y.item) (and-known x.item y.item (truth_at truth value a) (truth_at truth value b) x.is y.is)
  step t s (Either a b ha hb) m is k args =
      let x = args.0 (truth-of a ha) in
      let y = args.1.0 (truth-of b hb) in
      connected (term head.Or (terms a (terms b no_terms))) (x.item || y.item) (or-known x.item y.item (truth_at truth value a) (truth_at truth value b) x.is y.is)
  step t s (Implied a b ha hb) m is k args =
      let x = args.0 (truth-of a ha) in
      let y = args.1.0 (truth-of b hb) in
      connected (term head.Implies (terms a (terms b no_terms))) (not x.item || y.item) (implied-known x.item y.item (truth_at truth value a) (truth_at truth value b) x.is y.is)
  step t s Truthful m is k args = connected (term head.True no_terms) true refl
  step t s Untruthful m is k args = connected (term head.False no_terms) false refl

  closed : IsClosed q.shapes q.decls parts
  closed = parts-closed q.shapes q.decls (formulas_of q.sequent) are

  mutual
    -- each subterm of sort Bool has a value, or one is computed
    there : (t : Term) → has parts t ≡ true → truth t ≡ true → IsThere t
    there (term h ts) m k =
        let s : Sorted (term h ts) sort.Bool = sort_known sort.Bool (term_sort q.shapes q.decls (term h ts)) k in
        step (term h ts) sort.Bool (kind q.shapes q.decls (term h ts) sort.Bool s) m s k (all_there ts (closed.inside h ts m))

    all_there : (ts : Terms) → ArgumentsIn parts ts → AllThere ts
    all_there no_terms m = tt
    all_there (terms t ts) m = (λ k. there t m.0 k, all_there ts m.1)

  -- ---- questions

  -- what is computed for a question without a value is what it has where it is supposed to be something
  forced : (t : Term) (b c d : Bool) → has (questions q) t ≡ true → value t ≡ None → computed truth value t ≡ Some c → supposing_false value (literal b t) t ≡ Some d → Some d ≡ Some c
  forced t b c d m e h own =
      let supposed : Term → Option Bool = supposing_false value (literal b t) in
      let more : computed truth supposed t ≡ Some c =
      (computed-stays truth value supposed (λ u x g. ap (λ o. or_else o (assigned (given_by false (literal b t)) u)) g) (ok.nothing_follows t b m e) t).keeps c h in
      agreed (computed truth supposed t) c d more (ap (opposite (computed truth supposed t)) (sym own) ∙ ok.nothing_follows t b m e t)

  supposed_false : (t : Term) → value t ≡ None → supposing_false value (literal true t) t ≡ Some false
  supposed_false t e =
      ap (λ o. or_else o (assigned (given_by false t) t)) e ∙ ap (λ d. cond d (Some false) (assigned (given_negated false (negated t)) t)) (term_eq-refl t)

  supposed_true : (t : Term) → value t ≡ None → supposing_false value (literal false t) t ≡ Some true
  supposed_true t e =
      ap (λ o. or_else o (assigned (given_by false (negation t)) t)) e
      ∙ (ap (λ d. cond d (Some false) (cond (term_eq t t) (Some true) None)) (not_itself t) ∙ ap (λ d. cond d (Some true) None) (term_eq-refl t))

  -- so nothing is computed for it
  refuted : (t : Term) (c : Bool) → has (questions q) t ≡ true → value t ≡ None → computed truth value t ≡ Some c → ⊥
  refuted t true m e h = let f : Some false ≡ Some true = forced t true true false m e h (supposed_false t e) in cc
  refuted t false m e h = let f : Some true ≡ Some false = forced t false false true m e h (supposed_true t e) in cc

  has_value : (t : Term) → has (questions q) t ≡ true → IsThere t → is_some (value t) ≡ true
  has_value t m h = by_value (value t) refl
    where
      by_value : (o : Option Bool) → value t ≡ o → is_some (value t) ≡ true
      by_value (Some b) e = ap is_some e
      by_value None e = absurd (refuted t h.item m e (ap (λ o. or_else o (computed truth value t)) (sym e) ∙ h.is))

  argument : (t : Term) → has (truth_arguments truth parts) t ≡ true → IsThere t
  argument t h =
      let p = passing-parts truth (flat_map arguments (passing (is_plain truth) parts)) t h in
      let o = flat_map-parts arguments (passing (is_plain truth) parts) t p.among in
      let within = passing-parts (is_plain truth) parts o.origin o.among in
      there t (part-arguments q.shapes q.decls (formulas_of q.sequent) are o.origin t within.among o.there) p.passes

  pub questions-filled : (t : Term) → has (questions q) t ≡ true → is_some (value t) ≡ true
  questions-filled t m =
      with_terms-parts (atoms q) (passing is_open (truth_arguments truth parts)) t m (all t)
      (λ k. has_value t m (argument t (passing-parts is_open (truth_arguments truth parts) t k).among))
