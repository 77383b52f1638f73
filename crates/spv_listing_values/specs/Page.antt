-- The page of a listing.
use Rattle.std.specs.Prelude.{ℕ, zero, suc, Bool, true, false, List, [], ◌∷◌, ◌++◌, map, Option, Some, None, codes}
use Rattle.std.specs.List.{flat_map, count_by}
use Rattle.spv_listing_values.specs.declared.data.Split.{Split}
use Rattle.spv_listing_values.specs.declared.data.ProofNode.{ProofNode}
use Rattle.spv_listing_values.specs.declared.data.Verdict.{Verdict}
use Rattle.spv_listing_values.specs.declared.data.Verdict.TheVariants.{Proved, Unproved, GaveUp}
use Rattle.spv_listing_values.specs.declared.data.Claim.{Claim}
use Rattle.spv_listing_values.specs.Written.{Written, word, line_bytes}
use Rattle.spv_listing_values.specs.Lines.{number, heading, given_line, goal_line, branch_line, instance_line, value_line, limit_line, step_line, split_line, case_line}

-- ---- proofs

-- the line of a split, where there is one
abbrev pub split_lines : Option (Split Written) → List (List Written)
split_lines None = []
split_lines (Some s) = split_line s.cases s.atom ∷ []

abbrev pub node_lines : ProofNode Written → List (List Written)
node_lines n = map step_line n.steps ++ split_lines n.split

-- the line in front of a case; the root is no case, and has the number 0
abbrev pub case_lines : ℕ → List (List Written)
case_lines zero = []
case_lines (suc i) = case_line (suc i) ∷ []

-- the numbers from 1 to this one
abbrev pub numbers_to : ℕ → List ℕ
numbers_to zero = []
numbers_to (suc n) = numbers_to n ++ suc n ∷ []

-- the numbers of the cases of a split
abbrev pub case_numbers : Option (Split Written) → List ℕ
case_numbers None = []
case_numbers (Some s) = numbers_to s.cases

-- the lines of nodes, where the cases of these numbers are still to come, the next one first: a node's cases come before what is left
abbrev pub cases_lines : List ℕ → List (ProofNode Written) → List (List Written)
cases_lines waiting [] = []
cases_lines [] (n ∷ nodes) = []
cases_lines (i ∷ waiting) (n ∷ nodes) = case_lines i ++ (node_lines n ++ cases_lines (case_numbers n.split ++ waiting) nodes)

-- the lines of a proof, from its root on
abbrev pub proof_lines : List (ProofNode Written) → List (List Written)
proof_lines nodes = cases_lines (0 ∷ []) nodes

-- ---- conditions and verdicts

abbrev pub verdict_lines : Verdict Written → List (List Written)
verdict_lines (Proved nodes) = (word (codes "PROVED") ∷ []) ∷ proof_lines nodes
verdict_lines (Unproved branch instances table) =
    (word (codes "UNPROVED") ∷ []) ∷ (map branch_line branch ++ (map instance_line instances ++ map value_line table))
verdict_lines (GaveUp l) = limit_line l ∷ []

-- the condition of this number: its heading, its hypotheses, its goal and its verdict
abbrev pub claim_lines : ℕ → Claim Written → List (List Written)
claim_lines k c = heading k c.header ∷ (map given_line c.given ++ goal_line c.goal ∷ verdict_lines c.verdict)

-- conditions, numbered from this number on
abbrev pub claims_lines : ℕ → List (Claim Written) → List (List Written)
claims_lines k [] = []
claims_lines k (c ∷ cs) = claim_lines k c ++ claims_lines (suc k) cs

-- ---- the end

abbrev pub is_proved : Claim Written → Bool
is_proved c = elim c.verdict as (λ _. Bool) [ Proved nodes ↦ true | Unproved branch instances table ↦ false | GaveUp l ↦ false ]

abbrev pub is_unproved : Claim Written → Bool
is_unproved c = elim c.verdict as (λ _. Bool) [ Proved nodes ↦ false | Unproved branch instances table ↦ true | GaveUp l ↦ false ]

abbrev pub is_given_up : Claim Written → Bool
is_given_up c = elim c.verdict as (λ _. Bool) [ Proved nodes ↦ false | Unproved branch instances table ↦ false | GaveUp l ↦ true ]

-- how many conditions have each verdict
abbrev pub total_line : ℕ → ℕ → ℕ → List Written
total_line proved unproved given_up =
    word (codes "TOTAL") ∷ number proved ∷ word (codes "PROVED") ∷ number unproved ∷ word (codes "UNPROVED")
    ∷ number given_up ∷ word (codes "GAVE") ∷ word (codes "UP") ∷ []

-- unproved where some condition is, else given up where some condition is, else proved
abbrev pub result_words : ℕ → ℕ → List Written
result_words zero zero = word (codes "PROVED") ∷ []
result_words zero (suc given_up) = word (codes "GAVE") ∷ word (codes "UP") ∷ []
result_words (suc unproved) given_up = word (codes "UNPROVED") ∷ []

abbrev pub result_line : ℕ → ℕ → List Written
result_line unproved given_up = word (codes "RESULT") ∷ result_words unproved given_up

abbrev pub end_lines : List (Claim Written) → List (List Written)
end_lines cs =
    total_line (count_by is_proved cs) (count_by is_unproved cs) (count_by is_given_up cs)
    ∷ result_line (count_by is_unproved cs) (count_by is_given_up cs) ∷ []

-- ---- the page

abbrev pub title : List Written
title = word (codes "SPV") ∷ word (codes "LISTING") ∷ number 1 ∷ []

abbrev pub page_lines : List (Claim Written) → List (List Written)
page_lines cs = title ∷ (claims_lines 1 cs ++ end_lines cs)

-- the bytes of a listing of these conditions
abbrev pub page : List (Claim Written) → List ℕ
page cs = flat_map line_bytes (page_lines cs)
