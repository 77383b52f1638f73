-- When a text is refused, with a rule file and a listing or without them, and when a report is its report. A text is a program or a formula text, as it is read.
use Rattle.std.specs.Prelude.{◌≡◌, ℕ, ◌⊎◌, List, [], Option, Some}
use Rattle.spv_parser.specs.declared.language.fault.LanguageFault.{LanguageFault}
use Rattle.spv_parser.specs.language.Texts.{names_with, IsTreeOf, IsFaultOf}
use Rattle.spv_program.specs.Programs.{Program}
use Rattle.spv_proof_rules.specs.Rules.{Rule}
use Rattle.spv_rules.specs.RuleSets.{rules_in}
use Rattle.spv_reports.specs.Reports.{Findings, IsNotRefused, IsReportOn}
use Rattle.spv_verify.specs.declared.texts.TextKind.{TextKind}
use Rattle.spv_verify.specs.declared.texts.TextTree.{TextTree}
use Rattle.spv_verify.specs.declared.refused.refusal.Refusal.{Refusal}
use Rattle.spv_verify.specs.declared.refused.fault.Which.{Which}
use Rattle.spv_verify.specs.declared.refused.fault.Which.TheVariants as which
use Rattle.spv_verify.specs.texts.Trees.{ReadsText}
use Rattle.spv_verify.specs.refused.Told.{text_refusal}
use Rattle.spv_verify.specs.tree_reports.Walks.{IsSound}
use Rattle.spv_verify.specs.tree_reports.RuleFiles.{names_under, AreRulesOf}
use Rattle.spv_verify.specs.tree_reports.Listings.{IsListed}
use Rattle.spv_verify.specs.tree_reports.Programs.{IsTreeRefusal}
use Rattle.spv_listing_values.specs.declared.data.Claim.{Claim}
use Rattle.spv_listing_values.specs.Written.{Written}

-- the names of a text, in the order in which they first stand there
abbrev pub names_of : List ℕ → List (List ℕ)
names_of text = names_with [] text

-- the text has this tree
abbrev pub IsTextTree : TextKind → List ℕ → TextTree → Type 0
IsTextTree kind text tree = IsTreeOf (ReadsText kind) [] text tree

-- the text is this program, which has no fault of names, types and frames
pub record IsProgramOf (kind : TextKind) (text : List ℕ) (p : Program) : Type 0 where
  pub tree : TextTree
  pub is_tree : IsTextTree kind text tree
  pub sound : IsSound (names_of text) tree p

-- ---- refusals

-- the text is refused so for a fault of reading
pub record IsReadingRefusal (kind : TextKind) (text : List ℕ) (r : Refusal) : Type 0 where
  pub fault : LanguageFault
  pub stops : IsFaultOf (ReadsText kind) [] text fault
  pub told : text_refusal fault ≡ Some r

-- with this rule file and this listing, or without them, one of the texts is refused so: the first for a fault of reading, or one of them by its
-- tree
abbrev pub IsRefused : TextKind → List ℕ → Option (List ℕ) → Option (List ℕ) → Which → Refusal → Type 0
IsRefused kind text rules listing w r =
    ((w ≡ which.Program) × IsReadingRefusal kind text r) ⊎ ((tree : TextTree) × IsTextTree kind text tree × IsTreeRefusal (names_of text) tree rules listing w r)

-- ---- reports

-- the report is on the program of the text under the rules of the rule file and for the listing of these bytes; none of them is refused; and it
-- has the names of text and rule file
pub record IsReportOf (kind : TextKind) (text : List ℕ) (rules listing : Option (List ℕ)) (r : Findings) : Type 0 where
  pub program : Program
  pub of_text : IsProgramOf kind text program
  pub is_on : IsReportOn program r
  pub not_refused : IsNotRefused program r
  pub names : r.named.names ≡ names_under (names_of text) rules
  pub under : AreRulesOf (names_of text) program rules (rules_in r.rules)
  pub listed : IsListed listing r.listing

-- ---- laws

-- no text is refused and has a report
abbrev pub HaveNotBoth : Type 0
HaveNotBoth =
    (kind : TextKind) (text : List ℕ) (rules listing : Option (List ℕ)) (f : Findings) (w : Which) (r : Refusal) → IsReportOf kind text rules listing f
    → IsRefused kind text rules listing w r → ⊥

-- a text is one program
abbrev pub IsOneProgram : Type 0
IsOneProgram = (kind : TextKind) (text : List ℕ) (p q : Program) → IsProgramOf kind text p → IsProgramOf kind text q → p ≡ q

-- for a program a rule file is one list of rules
abbrev pub IsOneList : Type 0
IsOneList =
    (names : List (List ℕ)) (p : Program) (rules : Option (List ℕ)) (first second : List Rule) → AreRulesOf names p rules first
    → AreRulesOf names p rules second → first ≡ second

-- bytes are one listing
abbrev pub IsOneListing : Type 0
IsOneListing = (bytes : Option (List ℕ)) (first second : Option (List (Claim Written))) → IsListed bytes first → IsListed bytes second → first ≡ second
