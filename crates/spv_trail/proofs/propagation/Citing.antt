-- Facts that are cited by their numbers.
use Rattle.std.proofs.Common.{◌≡◌, ℕ, zero, suc, List, [], ◌∷◌, ◌++◌, sym, ap, ◌∙◌, subst, Some}
use Rattle.std.specs.Prelude.{slice_get}
use Rattle.std.proofs.lemmas.List.{append-nil}
use Rattle.std.proofs.lemmas.Option.{same_Some}
use Rattle.spv_logic.specs.Terms.{Term}
use Rattle.spv_term.specs.declared.nodes.Condition.{Condition}
use Rattle.spv_term.specs.Arena.{Arena, tree}
use Rattle.spv_proof_rules.specs.Effects.{Question, numbered}
use Rattle.spv_proof_rules.specs.Stand.{question}
use Rattle.spv_derivations.specs.declared.derivation.entries.Entry.{Entry}
use Rattle.spv_derivations.specs.derivation.Literals.{Literal}
use Rattle.spv_derivations.proofs.derivation.Growth.{numbered-more}
use Rattle.spv_models.specs.leaf_models.Laws.{AreFormulas}
use Rattle.spv_models.specs.leaf_models.Tables.{formulas_of}
use Rattle.spv_derivations.specs.branches.Paths.{facts_in, IsGrown, IsPath}
use Rattle.spv_assignments.specs.declared.partial_assignment.facts.Known.{Known}
use Rattle.spv_assignments.specs.partial_assignment.Facts.{fact_of, AreNumbered}
use Rattle.spv_decisions.specs.literal_lookup.Facts.{AreCores, HasFact}
use Rattle.spv_trail.specs.trail_states.Told.{IsStored}
use Rattle.spv_trail.proofs.trail_states.Growing.{formula_truth}
use Rattle.spv_trail.specs.asserted_steps.Steps.{HasNumber}
use Rattle.spv_trail.specs.propagation.Learning.{IsCitable, AreCitable}

-- ---- known facts

numbered_at : (a : Arena) (facts : List Term) (ks : List Known) (i : ℕ) (k : Known) → AreNumbered a facts ks → slice_get ks i ≡ Some k → numbered facts k.fact ≡ Some (fact_of a k)
numbered_at a facts [] i k h e = absurd (cc)
numbered_at a facts (x ∷ ks) zero k h e = subst (λ (y : Known). numbered facts y.fact ≡ Some (fact_of a y)) (same_Some x k e) h.0
numbered_at a facts (x ∷ ks) (suc i) k h e = numbered_at a facts ks i k h.1 e

-- each known fact of a path may be cited
pub stored_citable : (a : Arena) (c : Condition) (es : List Entry) (ks : List Known) (ls : List Literal) → AreFormulas a.shapes a.decls (formulas_of (question a c).sequent) → IsStored a c es ks ls → AreCitable a c es ks
stored_citable a c es ks ls are s = record {
  each = λ i k at. record { number = numbered_at a (facts_in (question a c) es) ks i k s.numbered at; truth = formula_truth (question a c) are (tree a k.term) (s.founded i k at).formula };
}

pub stored_cores : (a : Arena) (c : Condition) (es : List Entry) (ks : List Known) (ls : List Literal) → IsStored a c es ks ls → AreCores a ks
stored_cores a c es ks ls s = record { each = λ i k at. record { in_range = (s.founded i k at).within; bare = (s.founded i k at).bare } }

-- ---- behind further facts

pub cites_more : (a : Arena) (c : Condition) (es es2 : List Entry) (more : List Term) (k : Known) → facts_in (question a c) es2 ≡ facts_in (question a c) es ++ more → IsCitable a c es k → IsCitable a c es2 k
cites_more a c es es2 more k e h = record {
  number = ap (λ fs. numbered fs k.fact) e ∙ numbered-more (facts_in (question a c) es) more k.fact (fact_of a k) h.number;
  truth = h.truth;
}

pub all_cite_more : (a : Arena) (c : Condition) (es es2 : List Entry) (more : List Term) (ks : List Known) → facts_in (question a c) es2 ≡ facts_in (question a c) es ++ more → AreCitable a c es ks → AreCitable a c es2 ks
all_cite_more a c es es2 more ks e h = record { each = λ i k at. cites_more a c es es2 more k e (h.each i k at) }

-- nothing came behind the others
pub not_grown : (es : List Entry) → IsGrown es es
not_grown es = record { more = []; is = sym (append-nil es) }

pub same_number : (q : Question) (cases : List Term) (es : List Entry) (n : ℕ) (f : Term) → IsPath q cases es → numbered (facts_in q es) n ≡ Some f → HasNumber q cases es es n f
same_number q cases es n f path number = record { path = path; grown = not_grown es; more = []; facts_are = sym (append-nil (facts_in q es)); number = number }

-- ---- a fact that was found

pub found_number : (a : Arena) (c : Condition) (cases : List Term) (es : List Entry) (ks : List Known) (n : ℕ) (f : Term) → IsPath (question a c) cases es → AreCitable a c es ks → HasFact a ks n f → HasNumber (question a c) cases es es n f
found_number a c cases es ks n f path citable h =
    same_number (question a c) cases es n f path (ap (numbered (facts_in (question a c) es)) (sym h.number) ∙ ((citable.each h.place h.found h.here).number ∙ ap (λ (t : Term). Some t) h.is))
