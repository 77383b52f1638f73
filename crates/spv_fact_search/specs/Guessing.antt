-- A table that was guessed, and what it shows.
use Rattle.std.specs.Prelude.{⊤}
use Rattle.spv_term.specs.declared.nodes.Condition.{Condition}
use Rattle.spv_term.specs.Arena.{Arena}
use Rattle.spv_verdicts.specs.declared.answers.verdicts.Unproved.{Unproved}
use Rattle.spv_verdicts.specs.declared.answers.verdicts.Verdict.TheVariants as verdict
use Rattle.spv_search.specs.Finding.{IsFoundAlways}
use Rattle.spv_fact_search.specs.declared.trying.Trial.{Trial}
use Rattle.spv_fact_search.specs.declared.trying.Trial.TheVariants as trial

-- what a table shows of a condition is a right verdict on it, whatever the limits are
abbrev pub IsUnprovedBy : Arena → Condition → Unproved → Type 0
IsUnprovedBy a c u = IsFoundAlways a c (verdict.Unproved u)

-- so is one that a trial gives
abbrev pub IsTrialOf : Arena → Condition → Trial → Type 0
IsTrialOf a c (trial.Shown u) = IsUnprovedBy a c u
IsTrialOf a c (trial.Apart ts) = ⊤
IsTrialOf a c trial.NotShown = ⊤
