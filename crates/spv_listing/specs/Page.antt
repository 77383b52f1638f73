-- The page of a report.
use Rattle.std.specs.Prelude.{ℕ, suc, Bool, false, Option, List, [], ◌∷◌, ◌++◌, length, codes, decimal}
use Rattle.std.specs.List.{flat_map}
use Rattle.spv_logic.specs.declared.names.names.Symbol.{Symbol}
use Rattle.spv_logic.specs.declared.conditions.Kind.{Kind}
use Rattle.spv_logic.specs.declared.conditions.Kind.TheVariants as kind
use Rattle.spv_logic.specs.declared.conditions.Origin.{Origin}
use Rattle.spv_logic.specs.Terms.{Term}
use Rattle.spv_logic.specs.Conditions.{Condition}
use Rattle.spv_term.specs.declared.nodes.Condition.{Condition as IdCondition}
use Rattle.spv_term.specs.Arena.{Arena}
use Rattle.spv_assign.specs.Conditions.{conditions_of}
use Rattle.spv_verdicts.specs.declared.answers.verdicts.Decided.{Decided}
use Rattle.spv_verdicts.specs.answers.Views.{VerdictIn}
use Rattle.spv_reports.specs.declared.mode.Mode.{Mode}
use Rattle.spv_reports.specs.declared.mode.Mode.TheVariants.{Verify, Simplify, Check, Conditions, Drill}
use Rattle.spv_reports.specs.declared.mode.Load.{Load}
use Rattle.spv_reports.specs.declared.report.ProgramNames.{ProgramNames}
use Rattle.spv_reports.specs.Headings.{routine_text}
use Rattle.spv_reports.specs.Reports.{Findings}
use Rattle.spv_listing.specs.printed.Printed.{line, term_text}
use Rattle.spv_listing.specs.verdict_pages.VerdictLines.{decided_lines}
use Rattle.spv_listing.specs.verdict_pages.Totals.{total_lines, checked_total_lines}

abbrev pub kind_word : Kind → List ℕ
kind_word kind.Exit = codes "EXIT"
kind_word kind.Assert = codes "ASSERT"
kind_word kind.Invariant = codes "INVARIANT"
kind_word kind.Preserved = codes "PRESERVED"
kind_word kind.Entry = codes "ENTRY"

-- the heading of the condition with this number
abbrev pub heading : ProgramNames → ℕ → Origin → List ℕ
heading named number origin =
    codes "CONDITION " ++ decimal number ++ codes " " ++ routine_text named origin.routine ++ codes " " ++ kind_word origin.kind ++ codes " LINE " ++ decimal origin.line

abbrev pub given_line : List (List ℕ) → List (Option Symbol) → Term → List ℕ
given_line names titles t = line (codes "GIVEN " ++ term_text names titles t)

abbrev pub goal_line : List (List ℕ) → List (Option Symbol) → Term → List ℕ
goal_line names titles t = line (codes "GOAL " ++ term_text names titles t)

-- a condition: its heading, its hypotheses and its goal
abbrev pub claim_lines : ProgramNames → ℕ → Condition → List ℕ
claim_lines named number c =
    line (heading named number c.origin) ++ flat_map (given_line named.names named.titles) c.claim.given ++ goal_line named.names named.titles c.claim.goal

-- a condition, and what was decided of it, in an arena of its own, with proofs where they are wanted
abbrev pub condition_lines : Bool → ProgramNames → ℕ → Condition → Decided → List ℕ
condition_lines proofs named number c d = claim_lines named number c ++ decided_lines proofs named.names named.titles d

-- conditions with what was decided of them, numbered from this number on
abbrev pub blocks : Bool → ProgramNames → ℕ → List Condition → List Decided → List ℕ
blocks proofs named number (c ∷ cs) (d ∷ ds) = condition_lines proofs named number c d ++ blocks proofs named (suc number) cs ds
blocks proofs named number _ _ = []

-- for each condition something was decided, over terms of its own arena
abbrev pub AreDecided : List IdCondition → List Decided → Type 0
AreDecided [] [] = Unit {0}
AreDecided (c ∷ cs) (d ∷ ds) = VerdictIn d.terms d.verdict × AreDecided cs ds
AreDecided _ _ = ⊥

-- ---- conditions whose proofs were checked

-- the heading of a condition, and behind it on the same line what was decided, without a proof
abbrev pub checked_line : ProgramNames → ℕ → Origin → Decided → List ℕ
checked_line named number origin d = heading named number origin ++ codes " " ++ decided_lines false named.names named.titles d

-- conditions, numbered from this number on
abbrev pub checked_lines : ProgramNames → ℕ → List IdCondition → List Decided → List ℕ
checked_lines named number (c ∷ cs) (d ∷ ds) = checked_line named number c.origin d ++ checked_lines named (suc number) cs ds
checked_lines named number _ _ = []

-- ---- conditions alone

-- conditions, numbered from this number on
abbrev pub claims : ProgramNames → ℕ → List Condition → List ℕ
claims named number [] = []
claims named number (c ∷ cs) = claim_lines named number c ++ claims named (suc number) cs

-- the line that tells how many there are
abbrev pub count : ℕ → List ℕ
count number = codes "TOTAL " ++ decimal number ++ codes "\n"

-- ---- the whole page

-- of conditions with their verdicts
abbrev pub verdicts_page : Bool → ProgramNames → Arena → List IdCondition → List Decided → List ℕ
verdicts_page proofs named a conditions verdicts =
    line (codes "SPV LISTING 1") ++ blocks proofs named 1 (conditions_of a conditions) verdicts ++ total_lines verdicts

abbrev pub listing_of : Findings → List ℕ
listing_of r = verdicts_page r.proofs r.named r.arena r.conditions r.verdicts

-- of conditions whose proofs were checked
abbrev pub checked_page : ProgramNames → List IdCondition → List Decided → List ℕ
checked_page named conditions verdicts = line (codes "SPV CHECK 1") ++ checked_lines named 1 conditions verdicts ++ checked_total_lines verdicts

-- of conditions alone
abbrev pub conditions_page : ProgramNames → Arena → List IdCondition → List ℕ
conditions_page named a conditions = line (codes "SPV CONDITIONS 1") ++ claims named 1 (conditions_of a conditions) ++ count (length conditions)

-- of a generated program, of which the verdicts are counted alone
abbrev pub load_line : Load → List ℕ
load_line load = line (codes "NUMBER " ++ decimal load.number ++ codes " SIZE " ++ decimal load.size)

abbrev pub drill_page : Load → ℕ → List Decided → List ℕ
drill_page load conditions verdicts =
    line (codes "SPV DRILL 1") ++ load_line load ++ line (codes "CONDITIONS " ++ decimal conditions) ++ total_lines verdicts

abbrev pub page_in : Mode → Findings → List ℕ
page_in (Verify limits) r = listing_of r
page_in (Simplify limits) r = listing_of r
page_in Check r = checked_page r.named r.conditions r.verdicts
page_in Conditions r = conditions_page r.named r.arena r.conditions
page_in (Drill load limits) r = drill_page load (length r.conditions) r.verdicts

-- the page of a report, by what it is for
abbrev pub page : Findings → List ℕ
page r = page_in r.mode r
