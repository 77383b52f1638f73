-- How many verdicts of each kind there are, and what a page says in the end.
use Rattle.std.specs.Prelude.{ℕ, zero, suc, Bool, true, false, List, ◌++◌, codes, decimal}
use Rattle.std.specs.List.{count_by}
use Rattle.spv_verdicts.specs.declared.answers.verdicts.Verdict.{Verdict}
use Rattle.spv_verdicts.specs.declared.answers.verdicts.Verdict.TheVariants.{Proved, Unproved, GaveUp, NotAccepted}
use Rattle.spv_verdicts.specs.declared.answers.verdicts.Decided.{Decided}
use Rattle.spv_listing.specs.printed.Printed.{line}

abbrev pub proves : Verdict → Bool
proves (Proved p) = true
proves _ = false

abbrev pub falsifies : Verdict → Bool
falsifies (Unproved u) = true
falsifies _ = false

abbrev pub refuses : Verdict → Bool
refuses NotAccepted = true
refuses _ = false

abbrev pub gives_up : Verdict → Bool
gives_up (GaveUp rounds l) = true
gives_up _ = false

abbrev pub is_proved : Decided → Bool
is_proved d = proves d.verdict

abbrev pub is_unproved : Decided → Bool
is_unproved d = falsifies d.verdict

abbrev pub is_not_accepted : Decided → Bool
is_not_accepted d = refuses d.verdict

abbrev pub is_given_up : Decided → Bool
is_given_up d = gives_up d.verdict

-- a number, and behind it what it counts
abbrev pub counted : ℕ → List ℕ → List ℕ
counted number word = codes " " ++ decimal number ++ codes " " ++ word

-- the line of these counts, where this is the word for a verdict that fails
abbrev pub counts_line : List ℕ → ℕ → ℕ → ℕ → List ℕ
counts_line word proved failed given_up = line (codes "TOTAL" ++ counted proved (codes "PROVED") ++ counted failed word ++ counted given_up (codes "GAVE UP"))

-- this word where some verdict fails, else given up where some verdict is, else proved
abbrev pub result_text : List ℕ → ℕ → ℕ → List ℕ
result_text word zero zero = codes "RESULT PROVED"
result_text word zero (suc given_up) = codes "RESULT GAVE UP"
result_text word (suc failed) given_up = codes "RESULT " ++ word

-- the last lines of a page with so many verdicts of each kind
abbrev pub last_lines : List ℕ → ℕ → ℕ → ℕ → List ℕ
last_lines word proved failed given_up = counts_line word proved failed given_up ++ line (result_text word failed given_up)

-- of a page of verdicts that a search came to
abbrev pub total_lines : List Decided → List ℕ
total_lines ds = last_lines (codes "UNPROVED") (count_by is_proved ds) (count_by is_unproved ds) (count_by is_given_up ds)

-- of a page of verdicts on proofs that were checked
abbrev pub checked_total_lines : List Decided → List ℕ
checked_total_lines ds = last_lines (codes "NOT ACCEPTED") (count_by is_proved ds) (count_by is_not_accepted ds) (count_by is_given_up ds)
