-- Conditions that are decided one after the other.
use Rattle.std.proofs.Common.{◌≡◌, ◌<◌, ℕ, zero, suc, List, [], ◌∷◌, ◌++◌, length, get_or, take, drop, slice_get, Option, refl, subst, arith}
use Rattle.spv_term.specs.declared.nodes.Condition.{Condition}
use Rattle.spv_term.specs.Arena.{Arena}
use Rattle.spv_assign.specs.Conditions.{AreIn, IsIn}
use Rattle.spv_proof_rules.specs.Stand.{question}
use Rattle.spv_models.specs.leaf_models.Laws.{AreFormulas}
use Rattle.spv_models.specs.leaf_models.Tables.{formulas_of}
use Rattle.spv_verdicts.specs.Verdicts.{Limits}
use Rattle.spv_verdicts.specs.declared.answers.verdicts.Decided.{Decided}
use Rattle.spv_proof_rules.specs.Rules.{Rule}
use Rattle.spv_rounds.specs.Right.{IsDecidedUnder}
use Rattle.spv_verify.specs.reporting.Parts.{AreFormulasIn}
use Rattle.spv_listing_values.specs.declared.data.Claim.{Claim}
use Rattle.spv_listing_values.specs.Written.{Written}
use Rattle.spv_rechecking.specs.Rechecked.{IsRechecked}
use Rattle.spv_reports.specs.declared.report.ProgramNames.{ProgramNames}
use Rattle.spv_reports.specs.Headings.{header_of}
use Rattle.spv_reports.specs.Reports.{AreRechecked, AreVerdicts, recheck_of}

nowhere : (k : ℕ) → k < 0 → ⊥
nowhere k h = omega (arith, h)

pub in_item : (a : Arena) (cs : List Condition) (k : ℕ) (d : Condition) → AreIn a cs → k < length cs → IsIn a (get_or cs k d)
in_item a [] k d all h = absurd (nowhere k h)
in_item a (c ∷ cs) zero d all h = all.0
in_item a (c ∷ cs) (suc k) d all h = in_item a cs k d all.1 (omega (arith, h))

pub formulas_item : (a : Arena) (cs : List Condition) (k : ℕ) (d : Condition) → AreFormulasIn a cs → k < length cs → AreFormulas a.shapes a.decls (formulas_of (question a (get_or cs k d)).sequent)
formulas_item a [] k d all h = absurd (nowhere k h)
formulas_item a (c ∷ cs) zero d all h = all.0
formulas_item a (c ∷ cs) (suc k) d all h = formulas_item a cs k d all.1 (omega (arith, h))

-- one condition more was decided
pub verdicts_more : (rules : List Rule) (a : Arena) (limits : Limits) (cs : List Condition) (k : ℕ) (ds : List Decided) (c : Condition) (d : Decided) → k < length cs → c ≡ get_or cs k c
    → AreVerdicts rules a limits (take k cs) ds → IsDecidedUnder rules a c limits d → AreVerdicts rules a limits (take (suc k) cs) (ds ++ d ∷ [])
verdicts_more rules a limits [] k ds c d h is right decided = absurd (nowhere k h)
verdicts_more rules a limits (b ∷ cs) zero [] c d h is right decided = (subst (λ (x : Condition). IsDecidedUnder rules a x limits d) is decided, tt)
verdicts_more rules a limits (b ∷ cs) zero (e ∷ ds) c d h is right decided = absurd right
verdicts_more rules a limits (b ∷ cs) (suc k) [] c d h is right decided = absurd right
verdicts_more rules a limits (b ∷ cs) (suc k) (e ∷ ds) c d h is right decided = (right.0, verdicts_more rules a limits cs k ds c d (omega (arith, h)) is right.1 decided)

-- the proof of one condition more was checked
pub rechecked_more : (rules : List Rule) (named : ProgramNames) (a : Arena) (entries : List (Claim Written)) (cs : List Condition) (k : ℕ) (ds : List Decided) (c : Condition) (d : Decided)
    → k < length cs → c ≡ get_or cs k c → AreRechecked rules named a entries (take k cs) ds → IsRechecked (recheck_of rules named) (header_of named c.origin) a c (slice_get entries k) d
    → AreRechecked rules named a entries (take (suc k) cs) (ds ++ d ∷ [])
rechecked_more rules named a entries [] k ds c d h is right checked = absurd (nowhere k h)
rechecked_more rules named a entries (b ∷ cs) zero [] c d h is right checked =
    (subst (λ (x : Condition). IsRechecked (recheck_of rules named) (header_of named x.origin) a x (slice_get entries 0) d) is checked, tt)
rechecked_more rules named a entries (b ∷ cs) zero (e ∷ ds) c d h is right checked = absurd right
rechecked_more rules named a entries (b ∷ cs) (suc k) [] c d h is right checked = absurd right
rechecked_more rules named a entries (b ∷ cs) (suc k) (e ∷ ds) c d h is right checked = (
  right.0,
  rechecked_more rules named a (drop 1 entries) cs k ds c d (omega (arith, h)) is right.1
      (subst (λ (o : Option (Claim Written)). IsRechecked (recheck_of rules named) (header_of named c.origin) a c o d) (behind entries k) checked),
)
  where
    behind : (es : List (Claim Written)) (n : ℕ) → slice_get es (suc n) ≡ slice_get (drop 1 es) n
    behind [] n = refl
    behind (x ∷ es) n = refl
