-- What the page of a report says, as a listing.
use Rattle.std.specs.Prelude.{◌≡◌, ℕ, ◌-◌, Bool, true, false, List, [], ◌∷◌, map, length, IsTrue}
use Rattle.std.specs.Option.{option_map}
use Rattle.spv_whole.specs.Fraction.{Fraction}
use Rattle.spv_logic.specs.declared.conditions.TermId.{TermId}
use Rattle.spv_logic.specs.Terms.{Term}
use Rattle.spv_logic.specs.Conditions.{Condition}
use Rattle.spv_term.specs.Arena.{tree}
use Rattle.spv_atoms.specs.declared.proofs.Relation.{Relation}
use Rattle.spv_atoms.specs.declared.proofs.Relation.TheVariants.{AtMost, Equal}
use Rattle.spv_atoms.specs.declared.proofs.Step.{Step}
use Rattle.spv_atoms.specs.declared.proofs.Step.TheVariants as step
use Rattle.spv_atoms.specs.declared.proofs.Split.{Split}
use Rattle.spv_atoms.specs.declared.proofs.ProofNode.{ProofNode}
use Rattle.spv_assign.specs.Conditions.{conditions_of}
use Rattle.spv_models.specs.split_trees.Trees.{splits}
use Rattle.spv_verdicts.specs.Verdicts.{Instance, Round, Limit, Splits, TooManyInstances, WideForm, WidePivot, WideSum, WideEvaluation, Pivots, TooManyTerms}
use Rattle.spv_verdicts.specs.Verdicts as verdicts
use Rattle.spv_verdicts.specs.declared.answers.verdicts.Decided.{Decided}
use Rattle.spv_verdicts.specs.answers.Views.{verdict_in}
use Rattle.spv_reports.specs.declared.report.ProgramNames.{ProgramNames}
use Rattle.spv_reports.specs.Headings.{header_of}
use Rattle.spv_rechecking.specs.written_terms.Printing.{written_of}
use Rattle.spv_reports.specs.Reports.{Findings, IsReport}
use Rattle.spv_reports.specs.declared.mode.Mode.{Mode}
use Rattle.spv_reports.specs.declared.mode.Mode.TheVariants.{Verify, Simplify, Check, Conditions, Drill}
use Rattle.spv_listing_values.specs.Written.{Written}
use Rattle.spv_listing_values.specs.Page as listings
use Rattle.spv_listing_values.specs.declared.data.Step.TheVariants as listed_step
use Rattle.spv_listing_values.specs.declared.data.Step as listed_steps
use Rattle.spv_listing_values.specs.declared.data.Split as listed_splits
use Rattle.spv_listing_values.specs.declared.data.ProofNode as listed_nodes
use Rattle.spv_listing_values.specs.declared.data.Instance as listed_instances
use Rattle.spv_listing_values.specs.declared.data.Limit.TheVariants as listed_limit
use Rattle.spv_listing_values.specs.declared.data.Limit as listed_limits
use Rattle.spv_listing_values.specs.declared.data.Verdict.TheVariants as listed_verdict
use Rattle.spv_listing_values.specs.declared.data.Verdict as listed_verdicts
use Rattle.spv_listing_values.specs.declared.data.Claim.{Claim}
use Rattle.spv_listing.specs.printed.Printed.{name_in}
use Rattle.spv_listing.specs.verdict_pages.ProofLines.{relation_at, stated_at}
use Rattle.spv_listing.specs.verdict_pages.VerdictLines.{with_truth, member_count}
use Rattle.spv_listing.specs.Page.{page}

-- the terms of a program's names, as they are written
abbrev pub Writing : Type 0
Writing = Term → Written

-- ---- proofs

-- the multiples for the other direction, which an equation has alone
abbrev pub second_multiples : Relation → List (Fraction × ℕ) → List (Fraction × ℕ)
second_multiples (AtMost s t) ms = []
second_multiples (Equal s t) ms = ms

abbrev pub step_of : List (List ℕ) → Writing → (TermId → Term) → Step → listed_steps.Step Written
step_of names w at (step.Given k) = listed_step.Given k
step_of names w at (step.Refl t) = listed_step.Refl (w (at t))
step_of names w at (step.Symm i) = listed_step.Symm i
step_of names w at (step.Trans i j) = listed_step.Trans i j
step_of names w at (step.Cong t u facts) = listed_step.Cong (w (at t)) (w (at u)) facts
step_of names w at (step.Linear r first second) = listed_step.Linear (w (relation_at at r)) first (second_multiples r second)
step_of names w at (step.Schema kind ts field) = listed_step.Schema kind (map w (map at ts)) (option_map (name_in names) field)
step_of names w at (step.Rule r ts) = listed_step.Rule r (map w (map at ts))
step_of names w at (step.Eval s facts) = listed_step.Eval (w (stated_at at s)) facts
step_of names w at (step.Contra i j) = listed_step.Contra i j

abbrev pub split_of : Writing → (TermId → Term) → Split → listed_splits.Split Written
split_of w at s = record { cases = length s.parts; atom = w (at s.atom) }

abbrev pub node_of : List (List ℕ) → Writing → (TermId → Term) → ProofNode → listed_nodes.ProofNode Written
node_of names w at n = record { steps = map (step_of names w at) n.steps; split = option_map (split_of w at) n.split }

-- the nodes of a proof, where proofs are wanted
abbrev pub nodes_of : Bool → List (List ℕ) → Writing → (TermId → Term) → List ProofNode → List (listed_nodes.ProofNode Written)
nodes_of false names w at nodes = []
nodes_of true names w at nodes = map (node_of names w at) nodes

-- ---- verdicts

abbrev pub branch_of : Writing → Term × Bool → Written
branch_of w row = w (with_truth row.0 row.1)

abbrev pub value_of : Writing → Term × Fraction → Written × Fraction
value_of w row = (w row.0, row.1)

abbrev pub instance_of : Writing → Instance → listed_instances.Instance Written
instance_of w i = record { rule = i.rule; values = map w i.values }

abbrev pub limit_of : Writing → List Round → Limit → listed_limits.Limit Written
limit_of w rounds (Splits t) = listed_limit.Splits (splits t)
limit_of w rounds TooManyInstances = listed_limit.Instances (member_count rounds - 1)
limit_of w rounds (WideForm t) = listed_limit.Form (w t)
limit_of w rounds (WidePivot start steps o) = listed_limit.Wide o.op o.left.fraction o.right.fraction
limit_of w rounds (WideSum nodes x) = listed_limit.Wide x.op x.left x.right
limit_of w rounds (WideEvaluation table t x) = listed_limit.Wide x.op x.left x.right
limit_of w rounds (Pivots start steps) = listed_limit.Pivots (length steps)
limit_of w rounds (TooManyTerms n) = listed_limit.Terms

-- a proof that was handed in and is not accepted has no place in a listing: it is told as a table without a row
abbrev pub verdict_of : Bool → List (List ℕ) → Writing → (TermId → Term) → verdicts.Verdict → listed_verdicts.Verdict Written
verdict_of proofs names w at (verdicts.Proved nodes) = listed_verdict.Proved (nodes_of proofs names w at nodes)
verdict_of proofs names w at (verdicts.Unproved branch table instances) =
    listed_verdict.Unproved (map (branch_of w) branch) (map (instance_of w) instances) (map (value_of w) table)
verdict_of proofs names w at (verdicts.GaveUp rounds l) = listed_verdict.GaveUp (limit_of w rounds l)
verdict_of proofs names w at verdicts.NotAccepted = listed_verdict.Unproved [] [] []

-- ---- conditions

abbrev pub writing : ProgramNames → Writing
writing named = written_of named.names named.titles

abbrev pub claim_of : Bool → ProgramNames → Condition → Decided → Claim Written
claim_of proofs named c d = record {
  header = header_of named c.origin;
  given = map (writing named) c.claim.given;
  goal = writing named c.claim.goal;
  verdict = verdict_of proofs named.names (writing named) (tree d.terms) (verdict_in d.terms d.verdict);
}

abbrev pub claims_of : Bool → ProgramNames → List Condition → List Decided → List (Claim Written)
claims_of proofs named (c ∷ cs) (d ∷ ds) = claim_of proofs named c d ∷ claims_of proofs named cs ds
claims_of proofs named _ _ = []

-- what the page of a report with verdicts says
abbrev pub listing_in : Findings → List (Claim Written)
listing_in r = claims_of r.proofs r.named (conditions_of r.arena r.conditions) r.verdicts

-- ---- which pages are listings

-- a limit of terms is the one that listings name
abbrev pub IsListedLimit : Limit → Type 0
IsListedLimit (TooManyTerms n) = n ≡ 1000000
IsListedLimit _ = Unit {0}

-- a verdict of a search, and none on a proof that was handed in
abbrev pub IsListedVerdict : verdicts.Verdict → Type 0
IsListedVerdict (verdicts.Proved nodes) = Unit {0}
IsListedVerdict (verdicts.Unproved branch table instances) = Unit {0}
IsListedVerdict (verdicts.GaveUp rounds l) = IsListedLimit l
IsListedVerdict verdicts.NotAccepted = ⊥

-- each condition has such a verdict
abbrev pub AreListed : List Condition → List Decided → Type 0
AreListed [] [] = Unit {0}
AreListed (c ∷ cs) (d ∷ ds) = IsListedVerdict (verdict_in d.terms d.verdict) × AreListed cs ds
AreListed _ _ = ⊥

-- ---- the theorem

-- whether the page of a report for this is a listing: its conditions are searched, and each is told with its verdict
abbrev pub tells_verdicts : Mode → Bool
tells_verdicts (Verify limits) = true
tells_verdicts (Simplify limits) = true
tells_verdicts Check = false
tells_verdicts Conditions = false
tells_verdicts (Drill load limits) = false

-- the page of such a report is the page of what it says as a listing
abbrev pub PagesAreListings : Type 0
PagesAreListings = (r : Findings) → IsReport r → IsTrue (tells_verdicts r.mode) → page r ≡ listings.page (listing_in r)
