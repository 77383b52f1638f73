-- The lines of a verdict.
use Rattle.std.specs.Prelude.{ℕ, ◌+◌, ◌-◌, Bool, true, false, Option, List, [], ◌∷◌, ◌++◌, length, codes, decimal}
use Rattle.std.specs.List.{flat_map}
use Rattle.spv_whole.specs.Fraction.{Fraction}
use Rattle.spv_logic.specs.declared.names.names.Symbol.{Symbol}
use Rattle.spv_logic.specs.declared.conditions.TermId.{TermId}
use Rattle.spv_logic.specs.Terms.{Term}
use Rattle.spv_logic.specs.Formulas.{negation}
use Rattle.spv_term.specs.Arena.{tree}
use Rattle.spv_frac.specs.declared.frac.Op.{Op}
use Rattle.spv_frac.specs.declared.frac.Op.TheVariants.{Add, Sub, Mul, Div, Cmp}
use Rattle.spv_atoms.specs.declared.proofs.ProofNode.{ProofNode}
use Rattle.spv_models.specs.split_trees.Trees.{splits}
use Rattle.spv_verdicts.specs.Verdicts.{Instance, Round, Verdict, Proved, Unproved, GaveUp, NotAccepted, Limit, Splits, TooManyInstances, WideForm, WidePivot, WideSum, WideEvaluation, Pivots, TooManyTerms}
use Rattle.spv_verdicts.specs.declared.answers.verdicts.Decided.{Decided}
use Rattle.spv_verdicts.specs.answers.Views.{verdict_in}
use Rattle.spv_listing.specs.printed.Printed.{line, fraction_text, term_text}
use Rattle.spv_listing.specs.verdict_pages.ProofLines.{blank_term, proof_lines}

-- ---- unproved

-- a formula that is true, or the negation of one that is false
abbrev pub with_truth : Term → Bool → Term
with_truth t true = t
with_truth t false = negation t

-- an atom as the table has it
abbrev pub branch_line : List (List ℕ) → List (Option Symbol) → Term × Bool → List ℕ
branch_line names titles row = line (codes "BRANCH " ++ term_text names titles (with_truth row.0 row.1))

-- a term and its number in the table
abbrev pub value_line : List (List ℕ) → List (Option Symbol) → Term × Fraction → List ℕ
value_line names titles row = line (codes "VALUE " ++ term_text names titles row.0 ++ codes " " ++ fraction_text row.1)

-- a rule's instance: the rule's number, and its terms
abbrev pub instance_line : List (List ℕ) → List (Option Symbol) → Instance → List ℕ
instance_line names titles i = line (codes "INSTANCE " ++ decimal i.rule ++ flat_map (blank_term names titles) i.values)

-- ---- limits

-- how many instances rounds have together
abbrev pub member_count : List Round → ℕ
member_count [] = 0
member_count (r ∷ rounds) = length r.members + member_count rounds

abbrev pub operation_word : Op → List ℕ
operation_word Add = codes "ADD"
operation_word Sub = codes "SUB"
operation_word Mul = codes "MUL"
operation_word Div = codes "DIV"
operation_word Cmp = codes "CMP"

-- an operation on two fractions that does not fit
abbrev pub operation_text : Op → Fraction → Fraction → List ℕ
operation_text op left right = codes "NUMBER " ++ operation_word op ++ codes " " ++ fraction_text left ++ codes " " ++ fraction_text right

-- a number that does not fit; of other limits nothing
abbrev pub wide_text : List (List ℕ) → List (Option Symbol) → Limit → List ℕ
wide_text names titles (WideForm t) = codes "NUMBER FORM " ++ term_text names titles t
wide_text names titles (WidePivot start steps o) = operation_text o.op o.left.fraction o.right.fraction
wide_text names titles (WideSum nodes w) = operation_text w.op w.left w.right
wide_text names titles (WideEvaluation table t w) = operation_text w.op w.left w.right
wide_text names titles _ = []

-- a limit, and how much was done: the splits of the tree, the instances that these rounds may have, which is one less than they have, the
-- steps of the check, the terms that may be, or the number that does not fit
abbrev pub limit_text : List (List ℕ) → List (Option Symbol) → List Round → Limit → List ℕ
limit_text names titles rounds (Splits t) = codes "SPLITS " ++ decimal (splits t)
limit_text names titles rounds TooManyInstances = codes "INSTANCES " ++ decimal (member_count rounds - 1)
limit_text names titles rounds (Pivots start steps) = codes "PIVOTS " ++ decimal (length steps)
limit_text names titles rounds (TooManyTerms n) = codes "TERMS " ++ decimal n
limit_text names titles rounds w = wide_text names titles w

-- ---- verdicts

-- the lines of a proof, where they are wanted
abbrev pub wanted_proof : Bool → List (List ℕ) → List (Option Symbol) → (TermId → Term) → List ProofNode → List ℕ
wanted_proof false names titles at nodes = []
wanted_proof true names titles at nodes = proof_lines names titles at nodes

-- a verdict, where terms have these ids: its word and what shows it, a proof where proofs are wanted
abbrev pub verdict_lines : Bool → List (List ℕ) → List (Option Symbol) → (TermId → Term) → Verdict → List ℕ
verdict_lines proofs names titles at (Proved nodes) = line (codes "PROVED") ++ wanted_proof proofs names titles at nodes
verdict_lines proofs names titles at (Unproved branch table instances) =
    line (codes "UNPROVED") ++ flat_map (branch_line names titles) branch ++ flat_map (instance_line names titles) instances ++ flat_map (value_line names titles) table
verdict_lines proofs names titles at (GaveUp rounds limit) = line (codes "GAVE UP " ++ limit_text names titles rounds limit)
verdict_lines proofs names titles at NotAccepted = line (codes "NOT ACCEPTED")

-- what was decided, over the terms of its own arena
abbrev pub decided_lines : Bool → List (List ℕ) → List (Option Symbol) → Decided → List ℕ
decided_lines proofs names titles d = verdict_lines proofs names titles (tree d.terms) (verdict_in d.terms d.verdict)
