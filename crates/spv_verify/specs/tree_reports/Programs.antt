-- What a program without faults is refused for, and reports of trees.
use Rattle.std.specs.Prelude.{◌≡◌, ⊤, ℕ, ◌⊎◌, List, Option, Some}
use Rattle.spv_program.specs.Programs.{Program}
use Rattle.spv_assign.specs.declared.creation_trace.faults.GenFault.{GenFault}
use Rattle.spv_conditions.specs.Making.{MeetsLimit}
use Rattle.spv_proof_rules.specs.Rules.{Rule}
use Rattle.spv_rules.specs.RuleSets.{RuleSet, rules_in}
use Rattle.spv_reports.specs.declared.mode.Mode.{Mode}
use Rattle.spv_reports.specs.Reports.{Findings, IsNotRefused, IsReportOn}
use Rattle.spv_verify.specs.declared.refused.refusal.Refusal.{Refusal}
use Rattle.spv_verify.specs.declared.refused.fault.TextFault.{TextFault}
use Rattle.spv_verify.specs.declared.refused.fault.TextFault.TheVariants as text
use Rattle.spv_verify.specs.declared.refused.fault.Which.{Which}
use Rattle.spv_verify.specs.declared.refused.fault.Which.TheVariants as which
use Rattle.spv_verify.specs.declared.refused.fault.VerifyFault.{VerifyFault}
use Rattle.spv_verify.specs.declared.refused.fault.VerifyFault.TheVariants.{Refused, Memory}
use Rattle.spv_verify.specs.declared.texts.TextTree.{TextTree}
use Rattle.spv_verify.specs.refused.Told.{limit_refusal}
use Rattle.spv_verify.specs.tree_reports.Walks.{IsSound, IsWalkRefusal}
use Rattle.spv_verify.specs.tree_reports.RuleFiles.{names_under, AreRulesOf, IsRulesRefusal}
use Rattle.spv_verify.specs.tree_reports.Listings.{IsListed, IsListingRefusal}
use Rattle.spv_listing_values.specs.declared.data.Claim.{Claim}
use Rattle.spv_listing_values.specs.Written.{Written}

-- ---- refusals

-- the conditions of the program meet a limit
pub record IsProgramRefusal (p : Program) (r : Refusal) : Type 0 where
  pub limit : GenFault
  pub meets : MeetsLimit limit p
  pub told : limit_refusal limit ≡ Some r

-- the bytes that are handed in are a listing, or there are none
abbrev pub HasListing : Option (List ℕ) → Type 0
HasListing listing = (entries : Option (List (Claim Written))) × IsListed listing entries

-- a program without faults is refused so under rules: its listing; or where that is not refused, the program for a limit that its conditions meet
abbrev pub IsListedRefusal : Program → Option (List ℕ) → Which → Refusal → Type 0
IsListedRefusal p listing which.Program r = HasListing listing × IsProgramRefusal p r
IsListedRefusal p listing which.Rules r = ⊥
IsListedRefusal p listing which.Listing r = IsListingRefusal listing r

-- a program without faults is refused so: its rule file for a fault; or where that has none, as it is under its rules
abbrev pub IsRuledRefusal : List (List ℕ) → Program → Option (List ℕ) → Option (List ℕ) → Which → Refusal → Type 0
IsRuledRefusal names p rules listing which.Rules r = IsRulesRefusal names p rules r
IsRuledRefusal names p rules listing w r = ((list : List Rule) × AreRulesOf names p rules list) × IsListedRefusal p listing w r

-- a tree is refused so: for a fault of names, types or frames; or where there is none, as its program is
abbrev pub IsTreeRefusal : List (List ℕ) → TextTree → Option (List ℕ) → Option (List ℕ) → Which → Refusal → Type 0
IsTreeRefusal names tree rules listing w r =
    ((w ≡ which.Program) × IsWalkRefusal names tree r) ⊎ ((p : Program) × IsSound names tree p × IsRuledRefusal names p rules listing w r)

-- ---- reports

-- a report for this, with these names, under these rules and for this listing, on a program
pub record IsLimitedReport (names : List (List ℕ)) (p : Program) (rules : RuleSet) (listing : Option (List (Claim Written))) (mode : Mode) (r : Findings) : Type 0 where
  pub is_on : IsReportOn p r
  pub not_refused : IsNotRefused p r
  pub names_same : r.named.names ≡ names
  pub rules_same : r.rules ≡ rules
  pub listing_same : r.listing ≡ listing
  pub mode_same : r.mode ≡ mode

-- the same for the listing of these bytes
pub record IsListedReport (names : List (List ℕ)) (p : Program) (rules : RuleSet) (listing : Option (List ℕ)) (mode : Mode) (r : Findings) : Type 0 where
  pub is_on : IsReportOn p r
  pub not_refused : IsNotRefused p r
  pub names_same : r.named.names ≡ names
  pub rules_same : r.rules ≡ rules
  pub listed : IsListed listing r.listing
  pub mode_same : r.mode ≡ mode

-- a report for this on a program, under the rules of a rule file and for the listing of these bytes, where these are the names of the program
pub record IsRuledReport (names : List (List ℕ)) (p : Program) (rules listing : Option (List ℕ)) (mode : Mode) (r : Findings) : Type 0 where
  pub is_on : IsReportOn p r
  pub not_refused : IsNotRefused p r
  pub names_same : r.named.names ≡ names_under names rules
  pub under : AreRulesOf names p rules (rules_in r.rules)
  pub listed : IsListed listing r.listing
  pub mode_same : r.mode ≡ mode

-- the same on the program that a tree is
pub record IsTreeReport (names : List (List ℕ)) (tree : TextTree) (rules listing : Option (List ℕ)) (mode : Mode) (r : Findings) : Type 0 where
  pub program : Program
  pub sound : IsSound names tree program
  pub ruled : IsRuledReport names program rules listing mode r

-- ---- what code answers: the refusal, or want of memory, which has no cause

abbrev pub IsProgramCause : Program → TextFault → Type 0
IsProgramCause p (text.Refused r) = IsProgramRefusal p r
IsProgramCause p text.Memory = ⊤

abbrev pub IsListedCause : Program → Option (List ℕ) → VerifyFault → Type 0
IsListedCause p listing (Refused w r) = IsListedRefusal p listing w r
IsListedCause p listing Memory = ⊤

abbrev pub IsRuledCause : List (List ℕ) → Program → Option (List ℕ) → Option (List ℕ) → VerifyFault → Type 0
IsRuledCause names p rules listing (Refused w r) = IsRuledRefusal names p rules listing w r
IsRuledCause names p rules listing Memory = ⊤

abbrev pub IsTreeCause : List (List ℕ) → TextTree → Option (List ℕ) → Option (List ℕ) → VerifyFault → Type 0
IsTreeCause names tree rules listing (Refused w r) = IsTreeRefusal names tree rules listing w r
IsTreeCause names tree rules listing Memory = ⊤
