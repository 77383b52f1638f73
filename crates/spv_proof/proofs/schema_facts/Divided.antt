-- Numbers that numerals divide.
use Rattle.std.proofs.Common.{◌≡◌, suc, ◌<◌, ◌≤◌, ◌^◌, ◌/◌, Bool, true, false, List, [], ◌∷◌, length, refl, sym, ap, ◌∙◌, subst, Option, Some, None, IfSome, IfNone, IsTrue, ℤ, pos, negsuc, neg_ℤ, unsigned_abs, int_div, int_rem, if◌then◌else◌, arith, to_z, of_z, FitsSigned}
use Rattle.std.proofs.lemmas.Bool.Decides.{nat_tests}
use Rattle.std.proofs.Math.Nat.{div-le_self}
use Rattle.std.specs.Int.{w128}
use Rattle.std.proofs.lemmas.Int.{rem_below, fits_signed_from_abs, quot_is, rem_is}
use Rattle.std.specs.Ordering.{int_eq}
use Rattle.spv_whole.proofs.Ring.{nonzero_abs}
use Rattle.spv_whole.proofs.Units.{unsigned_abs-neg}
use Rattle.spv_logic.specs.declared.conditions.TermId.{TermId}
use Rattle.spv_logic.specs.declared.types.Sort.{Sort}
use Rattle.spv_logic.specs.declared.types.Sort.TheVariants as sort
use Rattle.spv_logic.specs.declared.types.Shape.{Shape}
use Rattle.spv_logic.specs.declared.types.Decl.{Decl}
use Rattle.spv_logic.specs.declared.operators.Head.TheVariants as head
use Rattle.spv_logic.specs.Terms.{Term, Terms, term, no_terms, terms}
use Rattle.spv_logic.specs.Sorts.{numeral_fits, takes, with_sorts, sort_before, term_sort, term_sorts}
use Rattle.spv_logic.proofs.Equality.{int_eq-true}
use Rattle.spv_atoms.specs.Tables as tables
use Rattle.spv_schemas.specs.Facts.{numeral, greatest, about_quotient, about_numerals}
use Rattle.spv_term.specs.Arena.{Arena, IsArena, sort_at, tree, trees}
use Rattle.spv_term.proofs.ArenaLemmas.{node_of, tree-node, term_sort-tree}
use Rattle.spv_proof.specs.declared.schema_facts.facts.NumeralDivision.{NumeralDivision}
use Rattle.spv_proof.specs.schema_facts.Shapes.{number_of, IsNumeral, AreDivided}

-- a numeral has no arguments
no_arguments : (shapes : List Shape) (decls : List Decl) (z : ℤ) (ts : Terms) (s : Sort) → term_sort shapes decls (term (head.Num z) ts) ≡ Some s → ts ≡ no_terms
no_arguments shapes decls z no_terms s h = refl
no_arguments shapes decls z (terms t ts) s h = absurd (by (term_sort shapes decls t) (term_sorts shapes decls ts) h)
  where
    by : (o : Option Sort) (p : Option (List Sort)) → with_sorts (sort_before o p) (λ given. takes [] given sort.Int) ≡ Some s → ⊥
    by None p e = cc
    by (Some x) None e = cc
    by (Some x) (Some xs) e = cc

abbrev IsIt : Term → ℤ → Type 0
IsIt t z = (ts : Terms) × (t ≡ term (head.Num z) ts)

numeral_told : (t : Term) (z : ℤ) → tables.numeral t ≡ Some z → IsIt t z
numeral_told (term (head.Num y) ts) z e = let same : y ≡ z = cc in (ts, ap (λ n. term (head.Num n) ts) same)
numeral_told _ z e = absurd (cc)

module _ (a : Arena) (ok : IsArena a) (t : TermId) (within : t.0 < length a.nodes) where
  -- the numeral of a number that is told
  numeral_is : (z : ℤ) → tables.numeral (tree a t) ≡ Some z → tree a t ≡ numeral z
  numeral_is z e =
      let k = numeral_told (tree a t) z e in
      k.1 ∙ ap (term (head.Num z)) (no_arguments a.shapes a.decls z k.0 (sort_at a t) (term_sort-tree a ok (term (head.Num z) k.0) t within k.1))

  numeral_fits-arena : (z : ℤ) → tree a t ≡ numeral z → IsTrue (numeral_fits (head.Num z))
  numeral_fits-arena z e =
      let n = node_of a ok t within in
      let same : term n.0.head (trees a n.0.args) ≡ numeral z = sym (tree-node a ok t n.0 n.1) ∙ e in
      let heads : n.0.head ≡ head.Num z = cc in
      subst (λ h. IsTrue (numeral_fits h)) heads (ok.nodes t.0 n.0 n.1).numeral

  pub numeral_there : (r : Option ℤ) → r ≡ tables.numeral (tree a t) → IfSome r (IsNumeral a t)
  numeral_there None e = tt
  numeral_there (Some z) e = let is = numeral_is z (sym e) in record { is = is; fits = numeral_fits-arena z is }

  pub numeral_missing : (r : Option ℤ) → r ≡ tables.numeral (tree a t) → IfNone r ((z : ℤ) → tree a t ≡ numeral z → ⊥)
  numeral_missing None e = λ z is. let clash : None ≡ Some z = e ∙ ap tables.numeral is in cc
  numeral_missing (Some z) e = tt

-- ---- what fits

pub below_it : (z : ℤ) → IsTrue (numeral_fits (head.Num z)) → unsigned_abs z < 2 ^ 127
below_it z h = grind (arith, nat_tests)

pub fits_below : (z : ℤ) → unsigned_abs z < 2 ^ 127 → IsTrue (numeral_fits (head.Num z))
fits_below z h = grind (arith, nat_tests)

pub greatest_fits : (k : ℤ) → IsTrue (numeral_fits (head.Num k)) → IsTrue (numeral_fits (head.Num (greatest k)))
greatest_fits k h = fits_below (greatest k) (let b = below_it k h in omega arith)

pub least_fits : (k : ℤ) → IsTrue (numeral_fits (head.Num k)) → IsTrue (numeral_fits (head.Num (neg_ℤ (greatest k))))
least_fits k h = fits_below (neg_ℤ (greatest k)) (let b = below_it k h in let e = unsigned_abs-neg (greatest k) in omega arith)

pub remainder_fits : (x k : ℤ) → (k ≡ pos 0 → ⊥) → IsTrue (numeral_fits (head.Num k)) → IsTrue (numeral_fits (head.Num (int_rem x k)))
remainder_fits x k n h = fits_below (int_rem x k) (let b = below_it k h in let r = rem_below x k (nonzero_abs k n) in omega arith)

-- ---- no divisor is 0

pub unequal : (z : ℤ) → (z ≡ pos 0 → ⊥) → int_eq z (pos 0) ≡ false
unequal z n = by (int_eq z (pos 0)) refl
  where
    by : (b : Bool) → int_eq z (pos 0) ≡ b → b ≡ false
    by true e = absurd (n (int_eq-true z (pos 0) e))
    by false e = refl

pub quotient_there : (make : Term → ℤ → Term) (x : Term) (z : ℤ) → (z ≡ pos 0 → ⊥) → about_quotient make (x ∷ numeral z ∷ []) ≡ Some (make x z)
quotient_there make x z n = ap (λ b. if b then None else Some (make x z)) (unequal z n)

-- of others there is nothing
pub quotient_missing : (make : Term → ℤ → Term) (us : List Term) → ((x : Term) (z : ℤ) → us ≡ x ∷ numeral z ∷ [] → z ≡ pos 0) → about_quotient make us ≡ None
quotient_missing make (x ∷ term (head.Num z) no_terms ∷ []) n = ap (λ k. if int_eq k (pos 0) then None else Some (make x z)) (n x z refl)
quotient_missing make us n = refl

pub numerals_there : (make : ℤ → ℤ → Term) (y z : ℤ) → (z ≡ pos 0 → ⊥) → about_numerals make (numeral y ∷ numeral z ∷ []) ≡ Some (make y z)
numerals_there make y z n = ap (λ b. if b then None else Some (make y z)) (unequal z n)

pub numerals_missing : (make : ℤ → ℤ → Term) (us : List Term) → ((y z : ℤ) → us ≡ numeral y ∷ numeral z ∷ [] → z ≡ pos 0) → about_numerals make us ≡ None
numerals_missing make (term (head.Num y) no_terms ∷ term (head.Num z) no_terms ∷ []) n = ap (λ k. if int_eq k (pos 0) then None else Some (make y z)) (n y z refl)
numerals_missing make us n = refl

-- ---- quotients of numerals

quotient_below : (y z : ℤ) → unsigned_abs (int_div y z) ≤ unsigned_abs y
quotient_below (pos y) (pos z) = div-le_self y z
quotient_below (pos y) (negsuc z) = omega (arith, unsigned_abs-neg (pos (y / suc z)), div-le_self y (suc z))
quotient_below (negsuc y) (pos z) = omega (arith, unsigned_abs-neg (pos (suc y / z)), div-le_self (suc y) z)
quotient_below (negsuc y) (negsuc z) = div-le_self (suc y) (suc z)

quotient_fits : (y z : ℤ) → IsTrue (numeral_fits (head.Num y)) → unsigned_abs (int_div y z) < 2 ^ 127
quotient_fits y z h = let b = below_it y h in let q = quotient_below y z in omega arith

machine : (z : ℤ) → IsTrue (numeral_fits (head.Num z)) → FitsSigned w128 z
machine z h = fits_signed_from_abs w128 z (below_it z h)

module _ (a : Arena) (us : List Term) (x k : TermId) (y z : ℤ) (are : us ≡ tree a x ∷ tree a k ∷ []) (x_in : x.0 < length a.nodes) (k_in : k.0 < length a.nodes)
    (is : IsNumeral a x y) (by : IsNumeral a k z) (nonzero : z ≡ pos 0 → ⊥) where
  abbrev division : ℤ → ℤ → NumeralDivision
  division q r = record { dividend = x; divisor = k; quotient = q; remainder = r }

  exactly : (q r : ℤ) → q ≡ int_div y z → r ≡ int_rem y z → AreDivided a us (Some (division q r))
  exactly q r e f =
      let number : number_of (tree a x) ≡ y = ap number_of is.is in
      let divisor : number_of (tree a k) ≡ z = ap number_of by.is in
      record {
        fact = λ make.
            ap (about_numerals make) (are ∙ (λ i. is.is i ∷ by.is i ∷ []))
            ∙ (numerals_there make y z nonzero ∙ (λ i. Some (make (sym number i) (sym divisor i))));
        is = record {
          dividend_is = is.is ∙ ap numeral (sym number);
          divisor_is = by.is ∙ ap numeral (sym divisor);
          quotient = e ∙ (λ i. int_div (sym number i) (sym divisor i));
          remainder = f ∙ (λ i. int_rem (sym number i) (sym divisor i));
          quotient_fits = subst (λ n. IsTrue (numeral_fits (head.Num n))) (sym e) (fits_below (int_div y z) (quotient_fits y z is.fits));
          remainder_fits = subst (λ n. IsTrue (numeral_fits (head.Num n))) (sym f) (remainder_fits y z nonzero by.fits);
          dividend = x_in;
          divisor = k_in;
        };
      }

  -- what the machine computes
  pub as_computed : AreDivided a us (Some (division (to_z w128 (of_z w128 (int_div (to_z w128 (of_z w128 y)) (to_z w128 (of_z w128 z))))) (to_z w128 (of_z w128 (int_rem (to_z w128 (of_z w128 y)) (to_z w128 (of_z w128 z)))))))
  as_computed =
      exactly _ _ (quot_is w128 y z (machine y is.fits) (machine z by.fits) (fits_signed_from_abs w128 (int_div y z) (quotient_fits y z is.fits)))
      (rem_is w128 y z (machine y is.fits) (machine z by.fits))
