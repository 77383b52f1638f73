-- The parts of a form in the order of the terms of an arena.
use Rattle.std.proofs.Common.{◌≡◌, ◌≢◌, ℕ, zero, suc, ◌+◌, ◌<◌, ◌≤◌, Bool, true, false, cond, List, [], ◌∷◌, ◌++◌, length, drop, get_or, ℤ, pos, nat_eq, refl, sym, ap, ◌∙◌, subst, arith}
use Rattle.std.specs.Ordering.{int_eq}
use Rattle.std.proofs.lemmas.Bool.{eqb-true}
use Rattle.std.proofs.lemmas.Bool.Decides.{nat_tests}
use Rattle.std.proofs.lemmas.List.{drop_more, drop_all}
use Rattle.spv_logic.specs.declared.conditions.TermId.{TermId}
use Rattle.spv_logic.specs.declared.operators.Head.TheVariants.{Num}
use Rattle.spv_logic.specs.Terms.{Term, term, no_terms, term_eq}
use Rattle.spv_logic.proofs.Equality.{int_eq-true}
use Rattle.spv_term.specs.Arena.{Arena, IsArena, tree, trees_of}
use Rattle.spv_term.proofs.TreeLemmas.{length-trees_of}
use Rattle.spv_atoms.specs.Linear.{coefficient, coefficient_at, ArePartsFrom, PartsIn, over_trees}
use Rattle.spv_atoms.proofs.Sums.{not-from}
use Rattle.spv_atoms.proofs.Forming.{over-at}
use Rattle.spv_proof_rules.specs.Stops.{factor_of, in_order}

factor-coefficient : (parts : List (Term × ℤ)) (x : Term) → factor_of (pos 0) parts x ≡ coefficient parts x
factor-coefficient [] x = refl
factor-coefficient (p ∷ parts) x = ap (cond (term_eq p.0 x) p.1) (factor-coefficient parts x)

not-int_eq : (n m : ℤ) → n ≢ m → int_eq n m ≡ false
not-int_eq n m h = by_case (int_eq n m) refl
  where
    by_case : (b : Bool) → int_eq n m ≡ b → b ≡ false
    by_case true e = absurd (h (int_eq-true n m e))
    by_case false e = refl

nat-same : (n m : ℕ) → nat_eq n m ≡ true → n ≡ m
nat-same n m e = eqb-true n m e

above : (n m : ℕ) → m ≤ n → nat_eq n m ≡ false → suc m ≤ n
above n m k e = grind (arith, nat_tests)

differ : (n m : ℕ) → n < m → nat_eq n m ≡ false
differ n m h = grind (arith, nat_tests)

module _ (a : Arena) (form_parts : List (Term × ℤ)) where
  abbrev known : List Term
  known = trees_of a.nodes

  abbrev nothing : Term
  nothing = term (Num (pos 0)) no_terms

  abbrev id : ℕ → TermId
  id n = record { 0 = n }

  -- parts from a number up give each term from there on its number
  abbrev Gives : ℕ → List (TermId × ℤ) → Type 0
  Gives k parts = (n : ℕ) → k ≤ n → n < length a.nodes → coefficient form_parts (tree a (id n)) ≡ coefficient_at parts (id n)

  one : (t : Term) (z : ℤ) (ts : List Term) (n : ℤ) → factor_of (pos 0) form_parts t ≡ n → in_order form_parts (t ∷ ts) ≡ cond (int_eq n (pos 0)) [] ((t, n) ∷ []) ++ in_order form_parts ts
  one t z ts n e = ap (λ m. cond (int_eq m (pos 0)) [] ((t, m) ∷ []) ++ in_order form_parts ts) e

  -- the parts of the terms behind the first one
  abbrev Later : ℕ → List Term → Type 0
  Later k rest = (parts : List (TermId × ℤ)) → ArePartsFrom (k + 1) parts → PartsIn a parts → Gives (k + 1) parts → in_order form_parts rest ≡ over_trees a parts

  by_parts : (k : ℕ) (rest : List Term) (here : Term) → here ≡ tree a (id k) → k < length a.nodes → Later k rest
      → (parts : List (TermId × ℤ)) → ArePartsFrom k parts → PartsIn a parts → Gives k parts → in_order form_parts (here ∷ rest) ≡ over_trees a parts
  by_parts k rest here is within later [] h i g =
      one here (pos 0) rest (pos 0) (factor-coefficient form_parts here ∙ (ap (coefficient form_parts) is ∙ g k (omega arith) within))
      ∙ later [] tt tt (λ n m. g n (omega (arith, m)))
  by_parts k rest here is within later (p ∷ parts) h i g = by_case (nat_eq p.0.0 k) refl
    where
      by_case : (b : Bool) → nat_eq p.0.0 k ≡ b → in_order form_parts (here ∷ rest) ≡ over_trees a (p ∷ parts)
      by_case true f =
          let at : p.0.0 ≡ k = nat-same p.0.0 k f in
          let number : factor_of (pos 0) form_parts here ≡ p.1 =
          factor-coefficient form_parts here ∙ (ap (coefficient form_parts) is ∙ (g k (omega arith) within ∙ ap (λ b. cond b p.1 (coefficient_at parts (id k))) f)) in
          one here (pos 0) rest p.1 number
          ∙ (ap (λ b. cond b [] ((here, p.1) ∷ []) ++ in_order form_parts rest) (not-int_eq p.1 (pos 0) h.0.nonzero)
          ∙ (ap (λ ps. (here, p.1) ∷ ps)
          (later parts (subst (λ n. ArePartsFrom n parts) (suc-is at) h.1) i.1
          (λ n m w. g n (omega (arith, m)) w ∙ ap (λ b. cond b p.1 (coefficient_at parts (id n))) (differ p.0.0 n (omega (arith, m, at)))))
          ∙ ap (λ t. (t, p.1) ∷ over_trees a parts) (is ∙ ap (λ n. tree a (id n)) (sym at))))
        where
          suc-is : p.0.0 ≡ k → suc p.0.0 ≡ k + 1
          suc-is q = omega (arith, q)
      by_case false f =
          let beyond : suc k ≤ p.0.0 = above p.0.0 k h.0.order f in
          let moved : ArePartsFrom (k + 1) (p ∷ parts) = (record { order = omega (arith, beyond); nonzero = h.0.nonzero; fits = h.0.fits }, h.1) in
          one here (pos 0) rest (pos 0)
          (factor-coefficient form_parts here ∙ (ap (coefficient form_parts) is ∙ (g k (omega arith) within ∙ not-from (k + 1) (p ∷ parts) (id k) moved (omega arith))))
          ∙ later (p ∷ parts) moved i (λ n m. g n (omega (arith, m)))

  ordered-from : (d k : ℕ) (parts : List (TermId × ℤ)) → k + d ≡ length known → length known ≡ length a.nodes → ArePartsFrom k parts → PartsIn a parts → Gives k parts
      → in_order form_parts (drop k known) ≡ over_trees a parts
  ordered-from zero k [] e l h i g = ap (in_order form_parts) (drop_all k known (omega (arith, e)))
  ordered-from zero k (p ∷ parts) e l h i g = let o = h.0.order in let j = i.0 in absurd (omega (arith, e, l, o, j))
  ordered-from (suc d) k parts e l h i g =
      ap (in_order form_parts) (drop_more known k nothing (omega (arith, e)))
      ∙ by_parts k (drop (k + 1) known) (get_or known k nothing) refl (omega (arith, e, l)) (λ ps. ordered-from d (k + 1) ps (omega (arith, e)) l) parts h i g

-- a form over ids has the parts of its form in the order of the arena's terms
pub ordered-over : (a : Arena) → IsArena a → (parts : List (TermId × ℤ)) (form_parts : List (Term × ℤ)) → ArePartsFrom 0 parts → PartsIn a parts
    → ((x : Term) → coefficient (over_trees a parts) x ≡ coefficient form_parts x) → in_order form_parts (trees_of a.nodes) ≡ over_trees a parts
ordered-over a ok parts form_parts h i same =
    let l : length (trees_of a.nodes) ≡ length a.nodes = known-length in
    ordered-from a form_parts (length (trees_of a.nodes)) 0 parts (omega arith) l h i (λ n m w. sym (same (tree a (record { 0 = n }))) ∙ over-at a ok parts (record { 0 = n }) i w)
  where
    known-length : length (trees_of a.nodes) ≡ length a.nodes
    known-length = length-trees_of a.nodes
