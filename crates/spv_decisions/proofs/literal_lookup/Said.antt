-- Whether a fact says that a term is true, or false.
use Rattle.std.proofs.Common.{◌≡◌, ℕ, ◌+◌, ◌<◌, Bool, true, false, List, length, get_or, slice_get, refl, sym, ap, ◌∙◌, Option, Some, None}
use Rattle.std.proofs.lemmas.Option.{slice_get-get_or, same_Some}
use Rattle.spv_logic.proofs.names.NameTable.{list_any-map}
use Rattle.spv_logic.specs.declared.operators.Head.TheVariants.{Lt}
use Rattle.spv_logic.specs.Terms.{Term, term, no_terms, terms, term_eq}
use Rattle.spv_logic.specs.Formulas.{negation, below}
use Rattle.spv_logic.proofs.Equality.{term_eq-true}
use Rattle.spv_term.specs.Arena.{Arena}
use Rattle.spv_proof_rules.specs.Sums.{negated}
use Rattle.spv_proof_rules.specs.Evaluation.{sides, cites}
use Rattle.spv_proof_steps.specs.Candidates.{lower}
use Rattle.spv_proof_steps.proofs.Same.{and-true}
use Rattle.spv_derivations.specs.declared.derivation.entries.Part.{Part}
use Rattle.spv_derivations.specs.declared.derivation.entries.Part.TheVariants.{True, False, Below, Above}
use Rattle.spv_derivations.specs.derivation.Derivation.{by_sides, literal}
use Rattle.spv_assignments.specs.declared.partial_assignment.facts.Known.{Known}
use Rattle.spv_assignments.specs.partial_assignment.Facts.{fact_of, facts_of}
use Rattle.spv_decisions.specs.literal_lookup.Facts.{HasFact}
use Rattle.spv_decisions.proofs.literal_lookup.Turns.{AreBefore, one_more}
use Rattle.spv_decisions.proofs.literal_lookup.Among.{none_passes}
use Rattle.spv_decisions.proofs.literal_lookup.Differing.{none_some, only_first, only_second, bare_part}

-- ---- that a term is true

abbrev two : Term → Term → Term × Term
two s t = (s, t)

lower_is : (t : Term) (st : Term × Term) → lower t ≡ Some st → t ≡ below st.0 st.1
lower_is (term Lt (terms s (terms u no_terms))) st e = ap (λ (p : Term × Term). below p.0 p.1) (same_Some (two s u) st e)
lower_is _ st e = absurd cc

pub affirms_order : (t l r f : Term) (b : Bool) → Some (l, r) ≡ lower t → b ≡ term_eq (below l r) f → b ≡ term_eq t f
affirms_order t l r f b e g = g ∙ ap (λ x. term_eq x f) (sym (lower_is t (two l r) (sym e)))

-- an order says of no other term that it is true
pub order_names_none : (t f : Term) (st : Term × Term) → lower t ≡ None → Some st ≡ lower f → false ≡ term_eq t f
order_names_none t f st e g = sym (only_second lower t f st e (sym g))

-- where it puts no sides in order, it says that its own term is true
unordered : (make : Term → Term → Term) → ((x y : Term) → lower (make x y) ≡ None → ⊥) → (t : Term) (o : Option (Term × Term)) → lower (by_sides make o t) ≡ None → by_sides make o t ≡ t
unordered make order t None e = refl
unordered make order t (Some st) e = absurd (order st.0 st.1 e)

below_ordered : (x y : Term) → lower (below x y) ≡ None → ⊥
below_ordered x y e = none_some (lower (below x y)) (two x y) e refl

its_own : (t : Term) (p : Part) → (p ≡ False → ⊥) → lower (literal t p) ≡ None → literal t p ≡ t
its_own t True h e = refl
its_own t False h e = absurd (h refl)
its_own t Below h e = unordered below below_ordered t (sides t) e
its_own t Above h e = unordered (λ x y. below y x) (λ x y g. below_ordered y x g) t (sides t) e

pub itself_other : (t u : Term) (p : Part) (b : Bool) → (p ≡ False → ⊥) → lower (literal u p) ≡ None → b ≡ term_eq t u → b ≡ term_eq t (literal u p)
itself_other t u p b h e g = g ∙ ap (term_eq t) (sym (its_own u p h e))

pub itself_false : (t u : Term) (p : Part) → p ≡ False → negated t ≡ None → false ≡ term_eq t (literal u p)
itself_false t u p e n =
    sym (only_second negated t (negation u) u n refl) ∙ ap (λ q. term_eq t (literal u q)) (sym e)

-- ---- that a term is false

pub denies_false : (t u : Term) (p : Part) (b : Bool) → p ≡ False → b ≡ term_eq t u → b ≡ term_eq (negation t) (literal u p)
denies_false t u p b e g = g ∙ (sym (and-true (term_eq t u)) ∙ ap (λ q. term_eq (negation t) (literal u q)) (sym e))

pub denies_other : (t u : Term) (p : Part) → negated u ≡ None → (p ≡ False → ⊥) → false ≡ term_eq (negation t) (literal u p)
denies_other t u p n h = sym (only_first negated (negation t) (literal u p) t refl (bare_part u p n h))

-- ---- the facts one by one

-- a fact is another one than this formula
abbrev pub IsOther : Arena → Term → Known → Type 0
IsOther a f k = term_eq f (fact_of a k) ≡ false

pub other_more : (a : Arena) (f : Term) (known : List Known) (i : ℕ) (d : Known) (b : Bool) → AreBefore (IsOther a f) known i → i < length known → b ≡ term_eq f (fact_of a (get_or known i d)) → b ≡ false → AreBefore (IsOther a f) known (i + 1)
other_more a f known i d b so_far inside e g = one_more (IsOther a f) known i d so_far inside (sym e ∙ g)

pub fact_found : (a : Arena) (f : Term) (known : List Known) (i : ℕ) (d : Known) (b : Bool) → i < length known → b ≡ term_eq f (fact_of a (get_or known i d)) → b ≡ true → HasFact a known (get_or known i d).fact f
fact_found a f known i d b inside e g = record {
  place = i;
  found = get_or known i d;
  here = slice_get-get_or known i d inside;
  number = refl;
  is = sym (term_eq-true f (fact_of a (get_or known i d)) (sym e ∙ g));
}

pub none_cited : (a : Arena) (f : Term) (known : List Known) → ((i : ℕ) (k : Known) → slice_get known i ≡ Some k → IsOther a f k) → cites (facts_of a known) f ≡ false
none_cited a f known h = list_any-map (term_eq f) (fact_of a) known ∙ none_passes (λ (k : Known). term_eq f (fact_of a k)) known h
