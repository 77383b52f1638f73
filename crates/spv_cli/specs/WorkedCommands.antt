-- Lists of words, and the commands that they are, worked by hand.
use Rattle.std.specs.Prelude.{◌≡◌, ℕ, Bool, true, false, List, [], ◌∷◌, Option, Some, None, codes}
use Rattle.spv_verdicts.specs.Verdicts.{Limits}
use Rattle.spv_reports.specs.declared.mode.Mode.{Mode}
use Rattle.spv_reports.specs.declared.mode.Mode.TheVariants.{Verify, Simplify, Check, Conditions}
use Rattle.spv_reports.specs.Reports.{default_limits}
use Rattle.spv_cli.specs.Commands.{Command, command_of}

-- the program's name, and words behind it
abbrev called : List (List ℕ) → Option Command
called words = command_of (codes "spv" ∷ words)

-- one file is asked for
abbrev asks : Mode → Bool → List ℕ → Option Command
asks mode proofs file = Some (record { mode = mode; proofs = proofs; files = file ∷ [] })

-- and a rule file behind it
abbrev asks_both : Mode → List ℕ → List ℕ → Option Command
asks_both mode file rules = Some (record { mode = mode; proofs = false; files = file ∷ rules ∷ [] })

-- the usual limits, but for these
abbrev within : ℕ → ℕ → ℕ → Limits
within splits instances pivots = record default_limits { splits = splits; instances = instances; pivots = pivots }

-- ---- commands

abbrev pub OneFile : Type 0
OneFile = called (codes "verify" ∷ codes "a.pas" ∷ []) ≡ asks (Verify default_limits) false (codes "a.pas")

-- a rule file stands behind the program or the formula
abbrev pub RulesBehind : Type 0
RulesBehind =
    (called (codes "verify" ∷ codes "a.pas" ∷ codes "b.rules" ∷ []) ≡ asks_both (Verify default_limits) (codes "a.pas") (codes "b.rules"))
    × (called (codes "simplify" ∷ codes "a.fml" ∷ codes "b.rules" ∷ []) ≡ asks_both (Simplify default_limits) (codes "a.fml") (codes "b.rules"))

-- a listing stands behind the program, and behind both a rule file; limits and proofs may be asked for, and change nothing
abbrev pub ListingBehind : Type 0
ListingBehind =
    (called (codes "check" ∷ codes "a.pas" ∷ codes "a.lst" ∷ []) ≡ asks_both Check (codes "a.pas") (codes "a.lst"))
    × (called (codes "check" ∷ codes "a.pas" ∷ codes "a.lst" ∷ codes "b.rules" ∷ [])
    ≡ Some (record { mode = Check; proofs = false; files = codes "a.pas" ∷ codes "a.lst" ∷ codes "b.rules" ∷ [] }))
    × (called (codes "check" ∷ codes "a.pas" ∷ codes "a.lst" ∷ codes "--splits" ∷ codes "3" ∷ []) ≡ asks_both Check (codes "a.pas") (codes "a.lst"))

abbrev pub ConditionsAlone : Type 0
ConditionsAlone = called (codes "conditions" ∷ codes "a.pas" ∷ []) ≡ asks Conditions false (codes "a.pas")

abbrev pub WithProofs : Type 0
WithProofs = called (codes "verify" ∷ codes "a.pas" ∷ codes "--proofs" ∷ []) ≡ asks (Verify default_limits) true (codes "a.pas")

-- options may stand anywhere, and their number behind `=` or a blank
abbrev pub EachLimit : Type 0
EachLimit =
    called (codes "--pivots=0" ∷ codes "verify" ∷ codes "--splits" ∷ codes "1000000" ∷ codes "a.pas" ∷ codes "--instances" ∷ codes "007" ∷ [])
    ≡ asks (Verify (within 1000000 7 0)) false (codes "a.pas")

-- behind `--` a word is no option
abbrev pub BehindDashes : Type 0
BehindDashes = called (codes "verify" ∷ codes "--" ∷ codes "--proofs" ∷ []) ≡ asks (Verify default_limits) false (codes "--proofs")

-- a mode that has no use for an option takes it all the same
abbrev pub UnusedOption : Type 0
UnusedOption = called (codes "conditions" ∷ codes "a.pas" ∷ codes "--splits" ∷ codes "3" ∷ []) ≡ asks Conditions false (codes "a.pas")

-- ---- no commands

abbrev pub NoWords : Type 0
NoWords = (command_of [] ≡ None) × (called [] ≡ None) × (called (codes "verify" ∷ []) ≡ None)

abbrev pub OtherMode : Type 0
OtherMode = (called (codes "prove" ∷ codes "a.pas" ∷ []) ≡ None) × (called (codes "Verify" ∷ codes "a.pas" ∷ []) ≡ None)

-- a program has one rule file at most, and one for its conditions alone is none
abbrev pub ManyFiles : Type 0
ManyFiles =
    (called (codes "verify" ∷ codes "a.pas" ∷ codes "b.rules" ∷ codes "c.rules" ∷ []) ≡ None)
    × (called (codes "simplify" ∷ codes "a.fml" ∷ codes "b.rules" ∷ codes "c.rules" ∷ []) ≡ None)
    × (called (codes "conditions" ∷ codes "a.pas" ∷ codes "b.rules" ∷ []) ≡ None)

-- a program alone has no proofs to check
abbrev pub NoListing : Type 0
NoListing =
    (called (codes "check" ∷ codes "a.pas" ∷ []) ≡ None)
    × (called (codes "check" ∷ codes "a.pas" ∷ codes "a.lst" ∷ codes "b.rules" ∷ codes "c.rules" ∷ []) ≡ None)

-- a word that begins with `-` is an option, and has to be one of the four
abbrev pub OtherOption : Type 0
OtherOption =
    (called (codes "verify" ∷ codes "-a.pas" ∷ []) ≡ None)
    × (called (codes "verify" ∷ codes "a.pas" ∷ codes "--proof" ∷ []) ≡ None)
    × (called (codes "--help" ∷ []) ≡ None)

-- a limit is a number in its range
abbrev pub BadLimit : Type 0
BadLimit =
    (called (codes "verify" ∷ codes "a.pas" ∷ codes "--splits" ∷ codes "x" ∷ []) ≡ None)
    × (called (codes "verify" ∷ codes "a.pas" ∷ codes "--splits=1000001" ∷ []) ≡ None)
    × (called (codes "verify" ∷ codes "a.pas" ∷ codes "--instances=20001" ∷ []) ≡ None)
    × (called (codes "verify" ∷ codes "a.pas" ∷ codes "--pivots=1000001" ∷ []) ≡ None)
    × (called (codes "verify" ∷ codes "a.pas" ∷ codes "--pivots" ∷ []) ≡ None)

-- no option stands twice
abbrev pub TwiceGiven : Type 0
TwiceGiven =
    (called (codes "verify" ∷ codes "a.pas" ∷ codes "--proofs" ∷ codes "--proofs" ∷ []) ≡ None)
    × (called (codes "verify" ∷ codes "a.pas" ∷ codes "--splits=1" ∷ codes "--splits=1" ∷ []) ≡ None)
