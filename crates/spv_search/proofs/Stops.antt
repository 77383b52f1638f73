-- The verdict of a search that stops at a limit of a check.
use Rattle.std.proofs.Common.{◌≡◌, ◌⊎◌, Bool, true, false, List, [], sym, ap, ◌∙◌, subst, Option, Some, inl, inr}
use Rattle.spv_logic.specs.Terms.{Term}
use Rattle.spv_term.specs.declared.nodes.Condition.{Condition}
use Rattle.spv_term.specs.Arena.{Arena}
use Rattle.spv_proof_rules.specs.Stand.{question}
use Rattle.spv_simplex.specs.Evidence.{EvidenceValue}
use Rattle.spv_verdicts.specs.Verdicts.{Limits, HasWidePivot, HasAllPivots}
use Rattle.spv_verdicts.specs.declared.answers.verdicts.Round.{Round}
use Rattle.spv_verdicts.specs.declared.answers.verdicts.Verdict.TheVariants as verdict
use Rattle.spv_verdicts.specs.declared.answers.verdicts.Limit.TheVariants as limit
use Rattle.spv_verdicts.specs.declared.answers.verdicts.Wide.TheVariants as wide
use Rattle.spv_share.specs.declared.both.Both.{Both}
use Rattle.spv_share.specs.Relations.{AreRelationsAmong}
use Rattle.spv_share.specs.Both.{IsBoth}
use Rattle.spv_share.specs.States.{IsLimit}
use Rattle.spv_branch_theory.specs.evidence.Laws.{IsStoppedFor}
use Rattle.spv_branch_theory.proofs.evidence.Evidence.{wide_reached, pivots_reached}
use Rattle.spv_logic.specs.declared.conditions.TermId.{TermId}
use Rattle.spv_trail.specs.declared.backtracking.path.Ground.{Ground}
use Rattle.spv_search.specs.Searching.{IsSetUp}
use Rattle.spv_simplex.specs.declared.checked.Checked.{Checked}
use Rattle.spv_simplex.specs.declared.checked.Checked.TheVariants.{Wide, Pivots}
use Rattle.spv_search.specs.Finding.{IsFound, IsStoppedBy, is_too_wide, stop_of}
use Rattle.spv_search.proofs.NoRules.{given_up}

module _ (a : Arena) (c : Condition) (limits : Limits) (b : Both) (is_wide : Bool) (e : EvidenceValue) (why : IsStoppedBy b is_wide e) (stopped : IsStoppedFor a c b) where
  pub found_wide : is_wide ≡ true → (rounds : List Round) → rounds ≡ [] → IsFound a c limits (verdict.GaveUp rounds (limit.Number (wide.Pivot e)))
  found_wide k rounds none =
      given_up a c limits (limit.Number (wide.Pivot e)) tt
      (subst (λ (x : EvidenceValue). HasWidePivot a (question a c) x.start x.steps x.operation) (sym why.evidence_is) (wide_reached a c b stopped (why.answer_is ∙ ap (λ (x : Bool). Some (stop_of x)) k)))
      rounds none

  pub found_pivots : is_wide ≡ false → b.standing.tableau.pivots ≡ limits.pivots → (rounds : List Round) → rounds ≡ [] → IsFound a c limits (verdict.GaveUp rounds (limit.Pivots e))
  found_pivots k same rounds none =
      given_up a c limits (limit.Pivots e) tt
      (subst (λ (x : EvidenceValue). HasAllPivots a (question a c) limits.pivots x.start x.steps) (sym why.evidence_is)
      (subst (λ n. HasAllPivots a (question a c) n b.standing.tableau.evidence.start b.standing.tableau.evidence.steps) same (pivots_reached a c b stopped (why.answer_is ∙ ap (λ (x : Bool). Some (stop_of x)) k))))
      rounds none

-- a check that stopped met such a number, or made all steps
pub stop_is : (o : Option Checked) (b : Bool) → (o ≡ Some Wide) ⊎ (o ≡ Some Pivots) → b ≡ is_too_wide o → o ≡ Some (stop_of b)
stop_is o b (inl e) f = e ∙ ap (λ (x : Bool). Some (stop_of x)) (sym (f ∙ ap is_too_wide e))
stop_is o b (inr e) f = e ∙ ap (λ (x : Bool). Some (stop_of x)) (sym (f ∙ ap is_too_wide e))

-- both sides of a search are those of its atoms
pub stopped_for : (a : Arena) (c : Condition) (ids : List TermId) (g : Ground) (limits : Limits) (b : Both) → IsSetUp a c ids g limits b → IsBoth a b → IsLimit b → IsStoppedFor a c b
stopped_for a c ids g limits b set both halt = record {
  both = both;
  related = subst (λ (ts : List Term). AreRelationsAmong a ts b.relations.items) set.opened.atoms_are set.opened.of_atoms;
  limit = halt;
}
