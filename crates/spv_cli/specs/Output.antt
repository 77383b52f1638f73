-- What is written.
use Rattle.std.specs.Prelude.{ℕ, List, [], ◌∷◌, ◌++◌, codes, decimal, if◌then◌else◌}
use Rattle.spv_verdicts.specs.declared.answers.verdicts.Decided.{Decided}
use Rattle.spv_reports.specs.declared.mode.Mode.{Mode}
use Rattle.spv_reports.specs.declared.mode.Mode.TheVariants.{Verify, Simplify, Check, Conditions, Drill}
use Rattle.spv_reports.specs.Reports.{Findings, all_proved, none_fails}
use Rattle.spv_verify.specs.declared.refused.refusal.Refusal.{Refusal}
use Rattle.spv_verify.specs.refused.Refusals.{reason, line_of, detail_of}

-- what a refusal tells behind its line, behind a space
abbrev pub behind_line : List ℕ → List ℕ
behind_line [] = []
behind_line (byte ∷ detail) = codes " " ++ byte ∷ detail

abbrev pub refusal_line : List ℕ → Refusal → List ℕ
refusal_line file r =
    codes "REFUSED " ++ reason r ++ codes " " ++ file ++ codes " LINE " ++ decimal (line_of r) ++ behind_line (detail_of r) ++ codes "\n"

abbrev pub read_fault_line : List ℕ → List ℕ
read_fault_line file = codes "READ FAULT " ++ file ++ codes "\n"

abbrev pub words_line : List ℕ
words_line = codes "WORDS\n"

-- all conditions are proved; or a verdict fails; or neither, since some condition was given up
abbrev pub verdict_status : Mode → List Decided → ℕ
verdict_status mode verdicts = if all_proved verdicts then 0 else (if none_fails mode verdicts then 2 else 1)

abbrev pub status_in : Mode → List Decided → ℕ
status_in (Verify limits) verdicts = verdict_status (Verify limits) verdicts
status_in (Simplify limits) verdicts = verdict_status (Simplify limits) verdicts
status_in Check verdicts = verdict_status Check verdicts
status_in Conditions verdicts = 8
status_in (Drill load limits) verdicts = verdict_status (Drill load limits) verdicts

-- the status of a page
abbrev pub page_status : Findings → ℕ
page_status r = status_in r.mode r.verdicts
