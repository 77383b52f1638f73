-- What a report says of its verdicts is what a page asks of them.
use Rattle.std.proofs.Common.{◌≡◌, true, List, [], ◌∷◌, drop, sym, subst}
use Rattle.std.proofs.lemmas.Bool.{false≢true}
use Rattle.spv_term.specs.declared.nodes.Condition.{Condition}
use Rattle.spv_term.specs.Arena.{Arena}
use Rattle.spv_verdicts.specs.Verdicts.{Limits}
use Rattle.spv_proof_rules.specs.Rules.{Rule}
use Rattle.spv_rules.specs.RuleSets.{rules_in}
use Rattle.spv_verdicts.specs.declared.answers.verdicts.Decided.{Decided}
use Rattle.spv_verdicts.specs.answers.Views.{VerdictIn}
use Rattle.spv_rounds.specs.Right.{IsDecidedUnder}
use Rattle.spv_listing_values.specs.declared.data.Claim.{Claim}
use Rattle.spv_listing_values.specs.Written.{Written}
use Rattle.spv_reports.specs.declared.report.ProgramNames.{ProgramNames}
use Rattle.spv_reports.specs.declared.mode.Mode.{Mode}
use Rattle.spv_reports.specs.declared.mode.Mode.TheVariants.{Verify, Simplify, Check, Conditions, Drill}
use Rattle.spv_reports.specs.Reports.{Findings, AreVerdicts, AreRechecked, AreVerdictsIn, IsReport, entries_of, has_verdicts}
use Rattle.spv_listing.specs.Page.{AreDecided}

terms_in : (rules : List Rule) (a : Arena) (c : Condition) (limits : Limits) (d : Decided) → IsDecidedUnder rules a c limits d → VerdictIn d.terms d.verdict
terms_in [] a c limits d is = is.terms_in
terms_in (r ∷ rules) a c limits d is = is.terms_in

there : (rules : List Rule) (a : Arena) (limits : Limits) (cs : List Condition) (ds : List Decided) → AreVerdicts rules a limits cs ds → AreDecided cs ds
there rules a limits [] [] right = tt
there rules a limits [] (d ∷ ds) right = absurd right
there rules a limits (c ∷ cs) [] right = absurd right
there rules a limits (c ∷ cs) (d ∷ ds) right = (terms_in rules a c limits d right.0, there rules a limits cs ds right.1)

rechecked : (rules : List Rule) (named : ProgramNames) (a : Arena) (entries : List (Claim Written)) (cs : List Condition) (ds : List Decided) → AreRechecked rules named a entries cs ds → AreDecided cs ds
rechecked rules named a entries [] [] right = tt
rechecked rules named a entries [] (d ∷ ds) right = absurd right
rechecked rules named a entries (c ∷ cs) [] right = absurd right
rechecked rules named a entries (c ∷ cs) (d ∷ ds) right = (right.0.terms_in, rechecked rules named a (drop 1 entries) cs ds right.1)

-- in a report that has verdicts, as its mode tells, each condition was decided
pub decided_in : (r : Findings) (cs : List Condition) (ds : List Decided) → IsReport r → has_verdicts r.mode ≡ true → cs ≡ r.conditions → ds ≡ r.verdicts → AreDecided cs ds
decided_in r cs ds h has conditions verdicts =
    subst (λ (l : List Decided). AreDecided cs l) (sym verdicts) (subst (λ (l : List Condition). AreDecided l r.verdicts) (sym conditions) (by_mode r.mode has h.is_on.verdicts))
  where
    by_mode : (m : Mode) → has_verdicts m ≡ true → AreVerdictsIn m r.listing (rules_in r.rules) r.named r.arena r.conditions r.verdicts → AreDecided r.conditions r.verdicts
    by_mode (Verify limits) has right = there (rules_in r.rules) r.arena limits r.conditions r.verdicts right
    by_mode (Simplify limits) has right = there (rules_in r.rules) r.arena limits r.conditions r.verdicts right
    by_mode Check has right = rechecked (rules_in r.rules) r.named r.arena (entries_of r.listing) r.conditions r.verdicts right
    by_mode Conditions has right = absurd (false≢true has)
    by_mode (Drill load limits) has right = there (rules_in r.rules) r.arena limits r.conditions r.verdicts right
