-- Lines of verdicts, worked by hand.
use Rattle.std.specs.Prelude.{◌≡◌, ℕ, true, false, List, [], ◌∷◌, None, Some, pos, codes, slice_index_or}
use Rattle.spv_whole.specs.Fraction.{Fraction}
use Rattle.spv_logic.specs.declared.conditions.TermId.{TermId}
use Rattle.spv_logic.specs.declared.types.Sort.TheVariants as sort
use Rattle.spv_logic.specs.declared.operators.Head.TheVariants.{Var, Num, Add, Mul, False}
use Rattle.spv_logic.specs.Terms.{Term, term, no_terms, terms}
use Rattle.spv_logic.specs.Formulas.{equation, below}
use Rattle.spv_frac.specs.declared.frac.Op.TheVariants.{Div}
use Rattle.spv_frac.specs.declared.frac.Op.TheVariants as op
use Rattle.spv_atoms.specs.declared.proofs.Relation.TheVariants.{AtMost, Equal}
use Rattle.spv_atoms.specs.declared.proofs.Stated.TheVariants.{Is, Same}
use Rattle.spv_atoms.specs.declared.proofs.Step.{Step}
use Rattle.spv_atoms.specs.declared.proofs.Step.TheVariants as step
use Rattle.spv_atoms.specs.declared.proofs.ProofNode.{ProofNode}
use Rattle.spv_tableau_rules.specs.tableaux.Walks.{Start}
use Rattle.spv_models.specs.split_trees.Trees.{Open, Split, no_trees, trees}
use Rattle.spv_verdicts.specs.Verdicts.{Instance, Proved, Unproved, GaveUp, NotAccepted, Splits, TooManyInstances, WideForm, WideSum, WideEvaluation, Pivots, TooManyTerms}
use Rattle.spv_listing.specs.verdict_pages.VerdictLines.{verdict_lines}
use Rattle.spv_listing.specs.verdict_pages.Totals.{total_lines, checked_total_lines, counts_line, result_text}

-- two names, and terms of whole numbers
abbrev pub names : List (List ℕ)
names = codes "X" ∷ codes "Y" ∷ []

abbrev pub variable : ℕ → ℕ → Term
variable name fresh = term (Var (record { 0 = name }) sort.Int fresh) no_terms

abbrev pub x : Term
x = variable 0 0

abbrev pub y : Term
y = variable 1 0

abbrev pub numeral : ℕ → Term
numeral n = term (Num (pos n)) no_terms

abbrev pub plus : Term → Term → Term
plus s t = term Add (terms s (terms t no_terms))

abbrev pub times : Term → Term → Term
times s t = term Mul (terms s (terms t no_terms))

abbrev pub falsehood : Term
falsehood = term False no_terms

-- ids as places in this list, with FALSE past its end
abbrev pub at : TermId → Term
at t = slice_index_or (x ∷ y ∷ below x y ∷ below y (plus x (numeral 1)) ∷ numeral 1 ∷ numeral 0 ∷ equation x y ∷ []) t.0 falsehood

abbrev pub id : ℕ → TermId
id n = record { 0 = n }

abbrev pub fraction : ℕ → ℕ → Fraction
fraction num den = record { num = pos num; den = den }

-- ---- verdicts with a table

-- 2 * x = 1 does not entail FALSE: at x = 1/2 it is true
abbrev pub HalfIsUnproved : Type 0
HalfIsUnproved =
    verdict_lines false names [] at (Unproved ((equation (times (numeral 2) x) (numeral 1), true) ∷ []) ((x, fraction 1 2) ∷ []) [])
    ≡ codes "UNPROVED\nBRANCH (= (* 2 X) 1)\nVALUE X 1/2\n"

-- x = 0 and x@1 = 0 do not entail x@1 + 1 = 0
abbrev pub LoopIsUnproved : Type 0
LoopIsUnproved =
    verdict_lines false names [] at
    (Unproved
    ((equation x (numeral 0), true) ∷ (equation (variable 0 1) (numeral 0), true) ∷ (equation (plus (variable 0 1) (numeral 1)) (numeral 0), false) ∷ [])
    ((x, fraction 0 1) ∷ (variable 0 1, fraction 0 1) ∷ []) [])
    ≡ codes "UNPROVED\nBRANCH (= X 0)\nBRANCH (= X@1 0)\nBRANCH (NOT (= (+ X@1 1) 0))\nVALUE X 0\nVALUE X@1 0\n"

-- an instance of the second rule, for two terms, stands between the atoms and the numbers
abbrev pub InstanceIsBetween : Type 0
InstanceIsBetween =
    verdict_lines false names [] at (Unproved ((equation x y, false) ∷ []) ((x, fraction 1 1) ∷ []) (record { rule = 2; values = y ∷ plus x (numeral 1) ∷ [] } ∷ []))
    ≡ codes "UNPROVED\nBRANCH (NOT (= X Y))\nINSTANCE 2 Y (+ X 1)\nVALUE X 1\n"

-- ---- limits

-- two rounds with three instances together, of which two are allowed
abbrev pub ThreeInstances : Type 0
ThreeInstances =
    (i : Instance) → verdict_lines false names [] at (GaveUp (record { table = []; members = i ∷ i ∷ [] } ∷ record { table = []; members = i ∷ [] } ∷ []) TooManyInstances)
    ≡ codes "GAVE UP INSTANCES 2\n"

-- a sum in the check of a proof that does not fit
abbrev pub WideProduct : Type 0
WideProduct =
    (nodes : List ProofNode) → verdict_lines false names [] at (GaveUp [] (WideSum nodes (record { op = op.Mul; left = fraction 7 2; right = fraction 3 1 })))
    ≡ codes "GAVE UP NUMBER MUL 7/2 3\n"

-- a proof that was handed in
abbrev pub OtherProof : Type 0
OtherProof = verdict_lines true names [] at NotAccepted ≡ codes "NOT ACCEPTED\n"

-- no split may be made, and the root is open
abbrev pub NoSplits : Type 0
NoSplits = verdict_lines false names [] at (GaveUp [] (Splits Open)) ≡ codes "GAVE UP SPLITS 0\n"

-- a split in a split
abbrev pub TwoSplits : Type 0
TwoSplits =
    verdict_lines false names [] at (GaveUp [] (Splits (Split (below x y) (trees Open (trees (Split (below y x) (trees Open (trees Open no_trees))) no_trees)))))
    ≡ codes "GAVE UP SPLITS 2\n"

-- no step of a check may be made
abbrev pub NoPivots : Type 0
NoPivots = (start : Start) → verdict_lines false names [] at (GaveUp [] (Pivots start [])) ≡ codes "GAVE UP PIVOTS 0\n"

abbrev pub ManyTerms : Type 0
ManyTerms = verdict_lines false names [] at (GaveUp [] (TooManyTerms 1000000)) ≡ codes "GAVE UP TERMS 1000000\n"

-- a coefficient that is the product of three large numerals
abbrev pub most : Term
most = numeral 9223372036854775807

abbrev pub WideRelation : Type 0
WideRelation =
    verdict_lines false names [] at (GaveUp [] (WideForm (equation (times most (times most (times most x))) (numeral 1))))
    ≡ codes "GAVE UP NUMBER FORM (= (* 9223372036854775807 (* 9223372036854775807 (* 9223372036854775807 X))) 1)\n"

-- a quotient that does not fit
abbrev pub WideQuotient : Type 0
WideQuotient =
    verdict_lines false names [] at (GaveUp [] (WideEvaluation [] x (record { op = Div; left = fraction 1 2; right = fraction 3 1 })))
    ≡ codes "GAVE UP NUMBER DIV 1/2 3\n"

-- ---- proofs

abbrev pub node : List Step → ProofNode
node steps = record { steps = steps; split = None }

-- x < y and y < x + 1 hold of no whole numbers
abbrev pub gap : List ProofNode
gap =
    node
    (step.Given 1 ∷ step.Eval (Is (id 2) true) (1 ∷ []) ∷ step.Eval (Is (id 3) true) (1 ∷ [])
    ∷ step.Linear (AtMost (id 4) (id 5)) ((fraction 1 1, 2) ∷ (fraction 1 1, 3) ∷ []) [] ∷ step.Contra 4 None ∷ [])
    ∷ []

abbrev pub GapIsProved : Type 0
GapIsProved =
    verdict_lines true names [] at (Proved gap)
    ≡ codes "PROVED\nSTEP GIVEN 1\nSTEP EVAL (< X Y) 1\nSTEP EVAL (< Y (+ X 1)) 1\nSTEP LINEAR (<= 1 0) 1 2 1 3\nSTEP CONTRA 4\n"

-- without its proof
abbrev pub GapIsBare : Type 0
GapIsBare = verdict_lines false names [] at (Proved gap) ≡ codes "PROVED\n"

-- a split in the first case of a split: its cases come before the second one
abbrev pub cases : List ProofNode
cases =
    record { steps = step.Refl (id 0) ∷ []; split = Some (record { atom = id 2; parts = 1 ∷ 4 ∷ [] }) }
    ∷ record { steps = []; split = Some (record { atom = id 6; parts = 2 ∷ 3 ∷ [] }) }
    ∷ node (step.Linear (Equal (id 0) (id 1)) ((fraction 1 2, 1) ∷ []) ((fraction 3 1, 2) ∷ []) ∷ step.Contra 1 (Some 3) ∷ [])
    ∷ node (step.Trans 1 2 ∷ step.Symm 3 ∷ step.Cong (id 0) (id 1) (1 ∷ 4 ∷ []) ∷ [])
    ∷ node (step.Eval (Same (id 2) (id 3)) [] ∷ step.Eval (Is (id 2) false) (1 ∷ []) ∷ step.Rule 2 (id 0 ∷ []) ∷ step.Schema 4 (id 0 ∷ id 1 ∷ []) (Some (record { 0 = 1 })) ∷ [])
    ∷ []

abbrev pub CasesAreInOrder : Type 0
CasesAreInOrder =
    verdict_lines true names [] at (Proved cases)
    ≡ codes "PROVED\nSTEP REFL X\nSPLIT 2 (< X Y)\nCASE 1\nSPLIT 2 (= X Y)\nCASE 1\nSTEP LINEAR (= X Y) 1/2 1 / 3 2\nSTEP CONTRA 1 3\nCASE 2\nSTEP TRANS 1 2\nSTEP SYMM 3\nSTEP CONG X Y 1 4\nCASE 2\nSTEP EVAL (= (< X Y) (< Y (+ X 1)))\nSTEP EVAL (NOT (< X Y)) 1\nSTEP RULE 2 X\nSTEP SCHEMA 4 X Y Y\n"

-- ---- the end of a page

-- of no condition
abbrev pub NoConditions : Type 0
NoConditions = total_lines [] ≡ codes "TOTAL 0 PROVED 0 UNPROVED 0 GAVE UP\nRESULT PROVED\n"

-- how many there are
abbrev pub Counts : Type 0
Counts = counts_line (codes "UNPROVED") 12 1 30 ≡ codes "TOTAL 12 PROVED 1 UNPROVED 30 GAVE UP\n"

-- what is unproved comes before what was given up
abbrev pub UnprovedComesFirst : Type 0
UnprovedComesFirst = result_text (codes "UNPROVED") 1 30 ≡ codes "RESULT UNPROVED"

abbrev pub GivenUpComesSecond : Type 0
GivenUpComesSecond = result_text (codes "UNPROVED") 0 30 ≡ codes "RESULT GAVE UP"

-- of proofs that were checked: of none, and of some
abbrev pub NothingToCheck : Type 0
NothingToCheck = checked_total_lines [] ≡ codes "TOTAL 0 PROVED 0 NOT ACCEPTED 0 GAVE UP\nRESULT PROVED\n"

abbrev pub OneIsNotAccepted : Type 0
OneIsNotAccepted =
    (counts_line (codes "NOT ACCEPTED") 12 1 30 ≡ codes "TOTAL 12 PROVED 1 NOT ACCEPTED 30 GAVE UP\n")
    × (result_text (codes "NOT ACCEPTED") 1 30 ≡ codes "RESULT NOT ACCEPTED")
