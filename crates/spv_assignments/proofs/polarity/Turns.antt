-- Each turn of the loop takes off a negation.
use Rattle.std.proofs.Common.{◌≡◌, ℕ, zero, suc, ◌<◌, ◌+◌, Bool, true, not, length, refl, sym, ap, ◌∙◌, Option, Some, None, arith}
use Rattle.std.specs.Option.{option_map, ForSome}
use Rattle.spv_logic.specs.declared.conditions.TermId.{TermId}
use Rattle.spv_logic.specs.declared.operators.Head.TheVariants.{Not}
use Rattle.spv_logic.specs.Terms.{Term, term, terms, no_terms}
use Rattle.spv_logic.specs.Formulas.{negation}
use Rattle.spv_term.specs.Arena.{Arena, tree}
use Rattle.spv_atoms.specs.Order.{size}
use Rattle.spv_proof_rules.specs.Sums.{negated}
use Rattle.spv_assignments.specs.polarity.Cores.{denials, is_even, IsCore}

-- so many negations were taken off a term
pub record IsReached (a : Arena) (t u : TermId) (even : Bool) : Type 0 where
  pub inside : u.0 < length a.nodes
  pub count : ℕ
  pub under : tree a t ≡ denials count (tree a u)
  pub parity : even ≡ is_even count

denials_inside : (k : ℕ) (u : Term) → denials k (negation u) ≡ denials (suc k) u
denials_inside zero u = refl
denials_inside (suc k) u = ap negation (denials_inside k u)

negation_is : (t s : Term) → negated t ≡ Some s → t ≡ negation s
negation_is (term Not (terms u no_terms)) s e = let same : u ≡ s = cc in ap negation same
negation_is _ s e = cc

pub start : (a : Arena) (t : TermId) → t.0 < length a.nodes → IsReached a t t true
start a t inside = record { inside = inside; count = 0; under = refl; parity = refl }

module _ (a : Arena) (t at : TermId) (even : Bool) (o : Option TermId) (value : option_map (tree a) o ≡ negated (tree a at)) where
  inner_is : (inner : TermId) → o ≡ Some inner → tree a at ≡ negation (tree a inner)
  inner_is inner is = negation_is (tree a at) (tree a inner) (sym value ∙ ap (option_map (tree a)) is)

  pub onward : (inner : TermId) → o ≡ Some inner → ForSome o (λ u. u.0 < length a.nodes) → IsReached a t at even → IsReached a t inner (not even)
  onward inner is within r = record {
    inside = within inner is;
    count = suc r.count;
    under = r.under ∙ (ap (denials r.count) (inner_is inner is) ∙ denials_inside r.count (tree a inner));
    parity = ap not r.parity;
  }

  pub lower : (inner : TermId) → o ≡ Some inner → size (tree a inner) < size (tree a at)
  lower inner is =
      let e : size (tree a at) ≡ suc (size (tree a inner) + 0) = ap size (inner_is inner is) in
      omega (arith, e)

  pub arrived : o ≡ None → IsReached a t at even → IsCore a t at even
  arrived is r = record { inside = r.inside; count = r.count; under = r.under; parity = r.parity; bare = sym value ∙ ap (option_map (tree a)) is }
