-- Reports, and what each keeps.
use Rattle.std.specs.Prelude.{◌≡◌, ⊤, Bool, true, false, not, List, [], ◌∷◌, map, Option, Some, None, IsTrue, drop, slice_get, unwrap_or}
use Rattle.std.specs.List.{list_all}
use Rattle.spv_logic.specs.Conditions.{Meaning}
use Rattle.spv_term.specs.declared.nodes.Condition.{Condition}
use Rattle.spv_term.specs.Arena.{Arena, IsArena}
use Rattle.spv_program.specs.Typing.{well_typed}
use Rattle.spv_effects.specs.frame_walk.FrameWalk.{frame_fault}
use Rattle.spv_program.specs.Programs.{Program, shapes}
use Rattle.spv_meaning.specs.ProgramConditions as program
use Rattle.spv_meaning.specs.Correct.{Correct}
use Rattle.spv_assign.specs.Conditions.{conditions_of, AreIn}
use Rattle.spv_assign.specs.creation_trace.Events.{Walked}
use Rattle.spv_conditions.specs.Making.{program_events, empty_arena}
use Rattle.spv_proof_rules.specs.Rules.{Rule, RulesHold}
use Rattle.spv_verdicts.specs.Verdicts.{Limits, most_terms}
use Rattle.spv_verdicts.specs.declared.answers.verdicts.Decided.{Decided}
use Rattle.spv_verdicts.specs.declared.answers.verdicts.Verdict.{Verdict}
use Rattle.spv_verdicts.specs.declared.answers.verdicts.Verdict.TheVariants.{Proved, Unproved, GaveUp, NotAccepted}
use Rattle.spv_rules.specs.RuleSets.{RuleSet, rules_in}
use Rattle.spv_rounds.specs.Right.{IsDecidedUnder}
use Rattle.spv_listing_values.specs.declared.data.Claim.{Claim}
use Rattle.spv_listing_values.specs.Written.{Written}
use Rattle.spv_rechecking.specs.Rechecked.{Recheck, IsRechecked}
use Rattle.spv_reports.specs.declared.report.ProgramNames.{ProgramNames}
use Rattle.spv_reports.specs.declared.mode.Mode.{Mode}
use Rattle.spv_reports.specs.declared.mode.Mode.TheVariants.{Verify, Simplify, Check, Conditions, Drill}
use Rattle.spv_reports.specs.Headings.{header_of}

-- what contracts see of a report: the names of its program, its conditions over an arena, the rules under which they were decided over an
-- arena of their own, what it is for, what the listing says whose proofs were checked, what was decided of each condition, and whether a page
-- of it has proofs
pub record Findings : Type 0 where
  pub named : ProgramNames
  pub arena : Arena
  pub conditions : List Condition
  pub rules : RuleSet
  pub mode : Mode
  pub listing : Option (List (Claim Written))
  pub verdicts : List Decided
  pub proofs : Bool

abbrev pub findings : ProgramNames → Arena → List Condition → RuleSet → Mode → Option (List (Claim Written)) → List Decided → Findings
findings named arena conditions rules mode listing verdicts =
    record { named = named; arena = arena; conditions = conditions; rules = rules; mode = mode; listing = listing; verdicts = verdicts; proofs = false }

-- ---- what a report is for

-- the limits of a search where none are given
abbrev pub default_limits : Limits
default_limits = record { splits = 20000; instances = 400; pivots = 5000; terms = most_terms }

-- whether verdicts are wanted
abbrev pub has_verdicts : Mode → Bool
has_verdicts (Verify limits) = true
has_verdicts (Simplify limits) = true
has_verdicts Check = true
has_verdicts Conditions = false
has_verdicts (Drill load limits) = true

-- ---- verdicts

-- under these rules and within these limits one decision on each condition, and in that order
abbrev pub AreVerdicts : List Rule → Arena → Limits → List Condition → List Decided → Type 0
AreVerdicts rules a limits [] [] = Unit {0}
AreVerdicts rules a limits (c ∷ cs) (d ∷ ds) = IsDecidedUnder rules a c limits d × AreVerdicts rules a limits cs ds
AreVerdicts rules a limits _ _ = ⊥

-- by which names, under which rules and over how many terms a proof that a listing has is checked
abbrev pub recheck_of : List Rule → ProgramNames → Recheck
recheck_of rules named = record { names = named.names; titles = named.titles; rules = rules; most = most_terms }

-- under these rules what the checker says of each condition and of what the entry of its number says of it, where there is such an entry, and in
-- that order
abbrev pub AreRechecked : List Rule → ProgramNames → Arena → List (Claim Written) → List Condition → List Decided → Type 0
AreRechecked rules named a entries [] [] = Unit {0}
AreRechecked rules named a entries (c ∷ cs) (d ∷ ds) =
    IsRechecked (recheck_of rules named) (header_of named c.origin) a c (slice_get entries 0) d × AreRechecked rules named a (drop 1 entries) cs ds
AreRechecked rules named a entries _ _ = ⊥

-- what a listing says of each condition; nothing where there is no listing
abbrev pub entries_of : Option (List (Claim Written)) → List (Claim Written)
entries_of listing = unwrap_or listing []

-- a report of conditions alone has no verdict; every other one has a right one on each condition, in their order: within the limits of its
-- searches, or by the entries of its listing
abbrev pub AreVerdictsIn : Mode → Option (List (Claim Written)) → List Rule → ProgramNames → Arena → List Condition → List Decided → Type 0
AreVerdictsIn (Verify limits) listing rules named a conditions verdicts = AreVerdicts rules a limits conditions verdicts
AreVerdictsIn (Simplify limits) listing rules named a conditions verdicts = AreVerdicts rules a limits conditions verdicts
AreVerdictsIn Check listing rules named a conditions verdicts = AreRechecked rules named a (entries_of listing) conditions verdicts
AreVerdictsIn Conditions listing rules named a conditions verdicts = verdicts ≡ []
AreVerdictsIn (Drill load limits) listing rules named a conditions verdicts = AreVerdicts rules a limits conditions verdicts

abbrev pub is_proved : Verdict → Bool
is_proved (Proved nodes) = true
is_proved (Unproved u) = false
is_proved (GaveUp rounds l) = false
is_proved NotAccepted = false

abbrev pub is_unproved : Verdict → Bool
is_unproved (Proved nodes) = false
is_unproved (Unproved u) = true
is_unproved (GaveUp rounds l) = false
is_unproved NotAccepted = false

abbrev pub is_not_accepted : Verdict → Bool
is_not_accepted (Proved nodes) = false
is_not_accepted (Unproved u) = false
is_not_accepted (GaveUp rounds l) = false
is_not_accepted NotAccepted = true

-- the verdict for which a report fails: a search finds that a condition is unproved, the checker that a proof is not accepted
abbrev pub fails : Mode → Verdict → Bool
fails (Verify limits) v = is_unproved v
fails (Simplify limits) v = is_unproved v
fails Check v = is_not_accepted v
fails Conditions v = is_unproved v
fails (Drill load limits) v = is_unproved v

-- the outcome of a report is one of three: all its conditions are proved, or a verdict fails, or none does and some condition was given up
abbrev pub all_proved : List Decided → Bool
all_proved verdicts = list_all (λ d. is_proved d.verdict) verdicts

abbrev pub none_fails : Mode → List Decided → Bool
none_fails mode verdicts = list_all (λ d. not (fails mode d.verdict)) verdicts

-- ---- reports

-- a report is on a program: its conditions are those of the program, none is left out, and its verdicts are right
pub record IsReportOn (p : Program) (r : Findings) : Type 0 where
  pub typed : IsTrue (well_typed p)
  pub framed : frame_fault p ≡ None
  pub sound : IsArena r.arena
  pub shapes : r.arena.shapes ≡ shapes p
  pub decls : r.arena.decls ≡ p.symbols
  pub titles : r.named.titles ≡ p.titles
  pub routines : r.named.routines ≡ map (λ q. q.name) p.routines
  pub in_range : AreIn r.arena r.conditions
  pub conditions : conditions_of r.arena r.conditions ≡ program.conditions_of p
  pub verdicts : AreVerdictsIn r.mode r.listing (rules_in r.rules) r.named r.arena r.conditions r.verdicts

-- what is true of every report
pub record IsReport (r : Findings) : Type 0 where
  pub program : Program
  pub is_on : IsReportOn program r

-- where the report has verdicts and all of them are Proved, the program that it is on is correct in a world in which its rules hold
abbrev pub ProvedIsCorrectIn : Findings → Meaning → Type 0
ProvedIsCorrectIn r world =
    IsTrue (has_verdicts r.mode) → IsTrue (all_proved r.verdicts) → (p : Program) → IsReportOn p r → RulesHold (shapes p) p.symbols world (rules_in r.rules)
    → Correct p world

-- ---- what a program with a report is not refused for

-- its conditions meet no limit
pub record IsNotRefused (p : Program) (r : Findings) : Type 0 where
  pub within : Walked (program_events p) (empty_arena p) r.arena
