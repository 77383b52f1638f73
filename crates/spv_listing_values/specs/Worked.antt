-- Small pages, worked by hand.
use Rattle.std.specs.Prelude.{◌≡◌, ℕ, List, [], ◌∷◌, None, Some, pos, codes}
use Rattle.spv_whole.specs.Fraction.{Fraction}
use Rattle.spv_frac.specs.declared.frac.Op.TheVariants as op
use Rattle.spv_logic.specs.declared.conditions.Kind.TheVariants as kind
use Rattle.spv_listing_values.specs.declared.data.Step.TheVariants as step
use Rattle.spv_listing_values.specs.declared.data.ProofNode.{ProofNode}
use Rattle.spv_listing_values.specs.declared.data.Limit.TheVariants as limit
use Rattle.spv_listing_values.specs.declared.data.Verdict.{Verdict}
use Rattle.spv_listing_values.specs.declared.data.Verdict.TheVariants.{Proved, Unproved, GaveUp}
use Rattle.spv_listing_values.specs.declared.data.Claim.{Claim}
use Rattle.spv_listing_values.specs.Written.{Applied, Written, written, no_written, writtens, word}
use Rattle.spv_listing_values.specs.Page.{page}

abbrev pub x : Written
x = word (codes "X")

abbrev pub y : Written
y = word (codes "Y@1")

abbrev pub two : List ℕ → Written → Written → Written
two text s t = written (Applied text None) (writtens s (writtens t no_written))

abbrev pub less : Written
less = two (codes "<") x y

abbrev pub field_of_x : Written
field_of_x = written (Applied (codes "FIELD") (Some (codes "VAL"))) (writtens x no_written)

abbrev pub fraction : ℕ → ℕ → Fraction
fraction num den = record { num = pos num; den = den }

abbrev pub claim : Verdict Written → Claim Written
claim v =
    record { header = record { routine = codes "MAIN"; kind = kind.Exit; line = 3 }; given = less ∷ field_of_x ∷ []; goal = two (codes "=") x y; verdict = v }

-- ---- no condition

abbrev pub NothingIsPrinted : Type 0
NothingIsPrinted = page [] ≡ codes "SPV LISTING 1\nTOTAL 0 PROVED 0 UNPROVED 0 GAVE UP\nRESULT PROVED\n"

-- ---- a proof with a split

abbrev pub nodes : List (ProofNode Written)
nodes =
    record { steps = step.Given 1 ∷ step.Schema 4 (field_of_x ∷ []) (Some (codes "G")) ∷ []; split = Some (record { cases = 2; atom = less }) }
    ∷ record { steps = step.Linear (two (codes "=") x y) ((fraction 1 2, 3) ∷ []) ((fraction 3 1, 0) ∷ []) ∷ step.Contra 3 (Some 1) ∷ []; split = None }
    ∷ record { steps = step.Cong x y (1 ∷ 2 ∷ []) ∷ step.Contra 4 None ∷ []; split = None }
    ∷ []

abbrev pub ProofIsPrinted : Type 0
ProofIsPrinted =
    page (claim (Proved nodes) ∷ [])
    ≡ codes "SPV LISTING 1\nCONDITION 1 MAIN EXIT LINE 3\nGIVEN (< X Y@1)\nGIVEN (FIELD VAL X)\nGOAL (= X Y@1)\nPROVED\nSTEP GIVEN 1\nSTEP SCHEMA 4 (FIELD VAL X) G\nSPLIT 2 (< X Y@1)\nCASE 1\nSTEP LINEAR (= X Y@1) 1/2 3 / 3 0\nSTEP CONTRA 3 1\nCASE 2\nSTEP CONG X Y@1 1 2\nSTEP CONTRA 4\nTOTAL 1 PROVED 0 UNPROVED 0 GAVE UP\nRESULT PROVED\n"

-- ---- a table, and a limit behind it

abbrev pub TableIsPrinted : Type 0
TableIsPrinted =
    page (claim (Unproved (less ∷ []) (record { rule = 2; values = y ∷ x ∷ [] } ∷ []) ((x, fraction 1 2) ∷ [])) ∷ claim (GaveUp limit.Terms) ∷ [])
    ≡ codes "SPV LISTING 1\nCONDITION 1 MAIN EXIT LINE 3\nGIVEN (< X Y@1)\nGIVEN (FIELD VAL X)\nGOAL (= X Y@1)\nUNPROVED\nBRANCH (< X Y@1)\nINSTANCE 2 Y@1 X\nVALUE X 1/2\nCONDITION 2 MAIN EXIT LINE 3\nGIVEN (< X Y@1)\nGIVEN (FIELD VAL X)\nGOAL (= X Y@1)\nGAVE UP TERMS 1000000\nTOTAL 0 PROVED 1 UNPROVED 1 GAVE UP\nRESULT UNPROVED\n"

abbrev pub LimitIsPrinted : Type 0
LimitIsPrinted =
    page (claim (GaveUp (limit.Wide op.Mul (fraction 7 2) (fraction 3 1))) ∷ [])
    ≡ codes "SPV LISTING 1\nCONDITION 1 MAIN EXIT LINE 3\nGIVEN (< X Y@1)\nGIVEN (FIELD VAL X)\nGOAL (= X Y@1)\nGAVE UP NUMBER MUL 7/2 3\nTOTAL 0 PROVED 0 UNPROVED 1 GAVE UP\nRESULT GAVE UP\n"
