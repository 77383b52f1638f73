-- What was found of what claims that all is refuted with a condition, and what is decided of that one.
use Rattle.std.proofs.Common.{◌≡◌, ℕ, ◌<◌, List, [], length, IfOk, Result, Ok, Err, refl, sym, ap, ◌∙◌, subst}
use Rattle.std.specs.declared.alloc.AllocError.{AllocError}
use Rattle.spv_logic.specs.Conditions.{Sequent}
use Rattle.spv_logic.specs.declared.operators.Head.TheVariants.{False}
use Rattle.spv_logic.specs.Terms.{term, no_terms}
use Rattle.spv_term.specs.declared.nodes.Condition.{Condition}
use Rattle.spv_term.specs.Arena.{AllBelow, Arena, sequent, tree}
use Rattle.spv_proof_rules.specs.Effects.{Question}
use Rattle.spv_proof_rules.specs.Stand.{question}
use Rattle.spv_search_terms.specs.condition_copy.Copies.{IsSameClaim, StandsFor}
use Rattle.spv_verdicts.specs.Schemas.{enlarged, HasTooManyCounted, IsReachedWith, IsRightWith}
use Rattle.spv_verdicts.specs.Verdicts as verdicts
use Rattle.spv_verdicts.specs.Verdicts.{Limits, Limit, Splits, TooManyInstances, WideForm, WidePivot, WideSum, WideEvaluation, Pivots, TooManyTerms, Proved, Unproved, GaveUp, NotAccepted, IsRight}
use Rattle.spv_verdicts.specs.declared.answers.verdicts.Decided.{Decided}
use Rattle.spv_verdicts.specs.declared.answers.verdicts.Unproved.{Unproved as Falsified}
use Rattle.spv_verdicts.specs.declared.answers.verdicts.Verdict.{Verdict}
use Rattle.spv_verdicts.specs.declared.answers.verdicts.Round.{Round}
use Rattle.spv_verdicts.specs.declared.answers.verdicts.Limit.TheVariants as limit
use Rattle.spv_verdicts.specs.declared.answers.verdicts.Verdict.TheVariants as verdict
use Rattle.spv_verdicts.specs.answers.Views.{IsDecided, IsDecidedWith, RoundsIn, rounds_in, verdict_in}
use Rattle.spv_search.specs.Finding.{IsFound}
use Rattle.spv_fact_search.specs.Enlarging.{IsEnlarged, IsEnough}
use Rattle.spv_fact_search.specs.Guessing.{IsUnprovedBy}
use Rattle.spv_fact_search.specs.Telling.{IsFoundOf, IsToldWith}
use Rattle.spv_fact_search.proofs.Counting.{too-many-there}

-- no verdict on a condition speaks of the limit of terms
other-limit : (a : Arena) (q : Question) (limits : Limits) (n : ℕ) (l : Limit) → IsReachedWith a q (record { splits = limits.splits; instances = limits.instances; pivots = limits.pivots; terms = n }) l → IsReachedWith a q limits l
other-limit a q limits n (Splits tree) r = r
other-limit a q limits n TooManyInstances r = r
other-limit a q limits n (WideForm t) r = r
other-limit a q limits n (WidePivot s steps o) r = r
other-limit a q limits n (WideSum nodes w) r = r
other-limit a q limits n (WideEvaluation table t w) r = r
other-limit a q limits n (Pivots s steps) r = r
other-limit a q limits n (TooManyTerms m) r = r

other-terms : (a : Arena) (q : Question) (limits : Limits) (n : ℕ) (v : verdicts.Verdict) → IsRightWith a q (record { splits = limits.splits; instances = limits.instances; pivots = limits.pivots; terms = n }) v → IsRightWith a q limits v
other-terms a q limits n (Proved nodes) r = r
other-terms a q limits n (Unproved branch table instances) r = r
other-terms a q limits n (GaveUp rounds l) r = record { reached = other-limit a q limits n l r.reached; no_rounds = r.no_rounds }
other-terms a q limits n NotAccepted r = r

module _ (a : Arena) (c : Condition) (e : Arena) (d : Condition) (is : IsEnlarged a c e d) (most : Limits) (x : Decided) (found : IsDecided e d most x) where
  -- the search's own copy claims the same
  pub claim-there : sequent x.terms x.condition ≡ (enlarged (question a c)).sequent
  claim-there = found.claim.claim ∙ is.claim

  pub origin-there : x.condition.origin ≡ c.origin
  origin-there = found.claim.origin ∙ is.origin

  pub falsity-there : StandsFor x.terms x.condition.goal (term False no_terms)
  falsity-there = record { there = found.claim.goal_in; is = ap (λ (s : Sequent). s.goal) claim-there }

  module _ (own : Condition) (told : IsSameClaim a c x.terms own) where
    shapes-there : x.terms.shapes ≡ a.shapes
    shapes-there = found.shapes ∙ is.shapes

    decls-there : x.terms.decls ≡ a.decls
    decls-there = found.decls ∙ is.decls

    -- it is what claims that all is refuted with the condition there
    sequents : sequent x.terms x.condition ≡ (enlarged (question x.terms own)).sequent
    sequents =
        claim-there
        ∙ (λ i. (enlarged (record { shapes = sym shapes-there i; decls = sym decls-there i; at = (question a c).at; sequent = sym told.claim i; rules = [] })).sequent)

    questions : question x.terms x.condition ≡ enlarged (question x.terms own)
    questions = λ i. record { shapes = x.terms.shapes; decls = x.terms.decls; at = (question x.terms own).at; sequent = sequents i; rules = [] }

    pub found-there : IsFoundOf x.terms own most x.verdict
    found-there = record { terms_in = found.terms_in; right = subst (λ (q : Question). IsRight x.terms q most (verdict_in x.terms x.verdict)) questions found.right }

    pub enough-there : (limits : Limits) (n : ℕ) → most ≡ record { splits = limits.splits; instances = limits.instances; pivots = limits.pivots; terms = n } → IsEnough (question a c) n → IsEnough (question x.terms own) most.terms
    enough-there limits n is enough =
        let as-question : record (question a c) { at = tree x.terms } ≡ question x.terms own =
        λ i. record { shapes = sym shapes-there i; decls = sym decls-there i; at = tree x.terms; sequent = sym told.claim i; rules = [] } in
        subst (IsEnough (question x.terms own)) (sym (ap (λ (m : Limits). m.terms) is)) (subst (λ (q : Question). IsEnough q n) as-question enough)

    -- the limit of terms of a search is none of the condition's
    pub decided-there : (limits : Limits) (n : ℕ) → most ≡ record { splits = limits.splits; instances = limits.instances; pivots = limits.pivots; terms = n } → (v : Verdict) → IsToldWith x.terms own most v
        → IsDecidedWith a c limits (record { terms = x.terms; condition = own; verdict = v })
    decided-there limits n is v right = record {
      claim = told;
      shapes = shapes-there;
      decls = decls-there;
      terms_in = right.terms_in;
      right = other-terms x.terms (question x.terms own) limits n (verdict_in x.terms v) (subst (λ (m : Limits). IsRightWith x.terms (question x.terms own) m (verdict_in x.terms v)) is right.right);
    }

-- that more terms count than may, told of a copy of the condition
pub gave-up-terms : (a : Arena) (c : Condition) (k : Arena) (d : Condition) → IsSameClaim a c k d → k.shapes ≡ a.shapes → k.decls ≡ a.decls → HasTooManyCounted (question a c) 1000000 → (rounds : List Round) → rounds ≡ [] → (limits : Limits)
    → IsDecidedWith a c limits (record { terms = k; condition = d; verdict = verdict.GaveUp rounds (limit.Terms 1000000) })
gave-up-terms a c k d same same_shapes same_decls many rounds none limits = record {
  claim = same;
  shapes = same_shapes;
  decls = same_decls;
  terms_in = (subst (RoundsIn k) (sym none) tt, tt);
  right = record { reached = too-many-there a c k d same same_shapes same_decls many; no_rounds = ap (rounds_in k) none };
}

pub decided-any : (a : Arena) (c : Condition) (limits : Limits) (r : Result Decided AllocError) → IfOk r (λ d. (m : Limits) → IsDecidedWith a c m d) → IfOk r (IsDecidedWith a c limits)
decided-any a c limits (Ok d) h = h limits
decided-any a c limits (Err e) h = tt

-- a table that falsifies all that is refuted: the search's own copy is that of the condition with what is refuted
module _ (e : Arena) (d : Condition) (given_in : AllBelow (length e.nodes) d.given) (goal_in : d.goal.0 < length e.nodes) (u : Falsified) (found : IsUnprovedBy e d u) where
  abbrev pub at_once : Decided
  at_once = record { terms = e; condition = d; verdict = verdict.Unproved u }

  pub decided-at-once : (most : Limits) → IsDecided e d most at_once
  decided-at-once most =
      let is : IsFound e d most (verdict.Unproved u) = found most in
      record {
        claim = record { given_in = given_in; goal_in = goal_in; claim = refl; origin = refl };
        shapes = refl;
        decls = refl;
        terms_in = is.terms_in;
        right = is.right;
      }
