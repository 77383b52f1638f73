-- A fault of a walk, and what is told of it, are a cause.
use Rattle.std.proofs.Common.{◌≡◌, inl, inr, ℕ, List, Option, Result, Ok, Err, IfErr, IfOk, refl, subst, sym, ◌∙◌}
use Rattle.std.proofs.lemmas.Option.{none-some}
use Rattle.spv_program.specs.Programs.{Program}
use Rattle.spv_typing.specs.declared.faults.TypeFault.{TypeFault}
use Rattle.spv_typing.specs.declared.faults.TypeFault.TheVariants as types
use Rattle.spv_typing.specs.Known.{known_in}
use Rattle.spv_environments.specs.Answers.{Stops as TypeStops}
use Rattle.spv_effects.specs.declared.frame_walk.faults.FrameFault.{FrameFault}
use Rattle.spv_effects.specs.declared.frame_walk.faults.FrameFault.TheVariants as frames
use Rattle.spv_effects.specs.frame_walk.FrameWalk.{frame_fault}
use Rattle.spv_frame_check.specs.Answers.{Stops as FrameStops}
use Rattle.spv_verify.specs.declared.texts.TextTree.{TextTree}
use Rattle.spv_verify.specs.texts.Trees.{tree_walk}
use Rattle.spv_verify.specs.declared.refused.fault.TextFault.{TextFault}
use Rattle.spv_verify.specs.declared.refused.fault.TextFault.TheVariants.{Refused, Memory}
use Rattle.spv_verify.specs.declared.refused.fault.Which.TheVariants as which
use Rattle.spv_verify.specs.declared.refused.fault.VerifyFault.{VerifyFault}
use Rattle.spv_verify.specs.declared.refused.fault.VerifyFault.TheVariants as verify
use Rattle.spv_verify.specs.refused.Told.{Tells, fault_of, type_refusal, frame_refusal, limit_refusal}
use Rattle.spv_assign.specs.declared.creation_trace.faults.GenFault.{GenFault}
use Rattle.spv_assign.specs.declared.creation_trace.faults.GenFault.TheVariants as limit
use Rattle.spv_rules.specs.RuleSets.{RuleSet, rules_in}
use Rattle.spv_reports.specs.declared.mode.Mode.{Mode}
use Rattle.spv_reports.specs.Reports.{Findings}
use Rattle.spv_conditions.specs.Making.{IsLimit}
use Rattle.spv_verify.specs.tree_reports.Walks.{IsTypeCause, IsFrameCause, IsSound, IsWalkCause, is_typed_as}
use Rattle.spv_listing_values.specs.declared.data.Claim.{Claim}
use Rattle.spv_listing_values.specs.Written.{Written}
use Rattle.spv_verify.specs.tree_reports.RuleFiles.{AreRulesOf, IsRulesCause, names_under}
use Rattle.spv_verify.specs.tree_reports.Listings.{IsListed, IsListingCause}
use Rattle.spv_verify.specs.tree_reports.Programs.{IsLimitedReport, IsListedCause, IsListedReport, IsProgramCause, IsRuledCause, IsTreeCause, IsRuledReport, IsTreeReport}

pub type_cause : (names : List (List ℕ)) (tree : TextTree) (fault : TypeFault) (v : TextFault)
    → TypeStops fault (tree_walk (known_in names) tree) → Tells (type_refusal names fault) v → IsTypeCause names tree v
type_cause names tree fault Memory stops tells = tt
type_cause names tree (types.Undeclared line x) (Refused r) stops tells = record { fault = types.Undeclared line x; stops = stops; told = tells }
type_cause names tree (types.DeclaredTwice line x) (Refused r) stops tells = record { fault = types.DeclaredTwice line x; stops = stops; told = tells }
type_cause names tree (types.LabelTwice line n) (Refused r) stops tells = record { fault = types.LabelTwice line n; stops = stops; told = tells }
type_cause names tree (types.WrongType line) (Refused r) stops tells = record { fault = types.WrongType line; stops = stops; told = tells }
type_cause names tree (types.Count line) (Refused r) stops tells = record { fault = types.Count line; stops = stops; told = tells }
type_cause names tree (types.Nested line x) (Refused r) stops tells = record { fault = types.Nested line x; stops = stops; told = tells }
type_cause names tree (types.ProcParameter line x) (Refused r) stops tells = record { fault = types.ProcParameter line x; stops = stops; told = tells }
type_cause names tree (types.ControlChanged line x) (Refused r) stops tells = record { fault = types.ControlChanged line x; stops = stops; told = tells }
type_cause names tree types.Memory (Refused r) stops tells = absurd (none-some _ tells)

pub frame_cause : (names : List (List ℕ)) (p : Program) (fault : FrameFault) (v : TextFault)
    → FrameStops fault (frame_fault p) → Tells (frame_refusal names p.titles fault) v → IsFrameCause names p v
frame_cause names p fault Memory stops tells = tt
frame_cause names p (frames.Alias line a b) (Refused r) stops tells = record { fault = frames.Alias line a b; stops = stops; told = tells }
frame_cause names p (frames.GlobalMissing line i) (Refused r) stops tells = record { fault = frames.GlobalMissing line i; stops = stops; told = tells }
frame_cause names p (frames.FunctionWrites line x) (Refused r) stops tells = record { fault = frames.FunctionWrites line x; stops = stops; told = tells }
frame_cause names p frames.Memory (Refused r) stops tells = absurd (none-some _ tells)

pub type_walk_cause : (names : List (List ℕ)) (tree : TextTree) (v : TextFault) → IsTypeCause names tree v → IsWalkCause names tree v
type_walk_cause names tree (Refused r) is = inl is
type_walk_cause names tree Memory is = tt

pub frame_walk_cause : (names : List (List ℕ)) (tree : TextTree) (p : Program) (v : TextFault) → is_typed_as names tree p → IsFrameCause names p v → IsWalkCause names tree v
frame_walk_cause names tree p (Refused r) typed is = inr (p, typed, is)
frame_walk_cause names tree p Memory typed is = tt

-- ---- of a program

pub limit_told : (p : Program) (e : GenFault) (v : TextFault) → Tells (limit_refusal e) v → IsLimit e p → IsProgramCause p v
limit_told p (limit.Conditions n) (Refused r) tells meets = record { limit = limit.Conditions n; meets = meets; told = tells }
limit_told p (limit.Terms n) (Refused r) tells meets = record { limit = limit.Terms n; meets = meets; told = tells }
limit_told p limit.Memory (Refused r) tells is = absurd (none-some _ tells)
limit_told p e Memory tells is = tt

-- ---- of a program and a listing

module _ (p : Program) (listing : Option (List ℕ)) where
  listing_cause : (v : TextFault) → IsListingCause listing v → IsListedCause p listing (fault_of which.Listing v)
  listing_cause (Refused r) is = is
  listing_cause Memory is = tt

  pub listing_told : (v : TextFault) (w : VerifyFault) → w ≡ fault_of which.Listing v → IsListingCause listing v → IsListedCause p listing w
  listing_told v w same is = subst (IsListedCause p listing) (sym same) (listing_cause v is)

  limits_cause : (entries : Option (List (Claim Written))) (v : TextFault) → IsListed listing entries → IsProgramCause p v → IsListedCause p listing (fault_of which.Program v)
  limits_cause entries (Refused r) listed is = ((entries, listed), is)
  limits_cause entries Memory listed is = tt

  pub limits_told : (entries : Option (List (Claim Written))) (v : TextFault) (w : VerifyFault) → w ≡ fault_of which.Program v → IsListed listing entries → IsProgramCause p v → IsListedCause p listing w
  limits_told entries v w same listed is = subst (IsListedCause p listing) (sym same) (limits_cause entries v listed is)

pub listed_report : (names : List (List ℕ)) (p : Program) (set : RuleSet) (listing : Option (List ℕ)) (entries : Option (List (Claim Written))) (mode : Mode) (r : Findings) → IsListed listing entries
    → IsLimitedReport names p set entries mode r → IsListedReport names p set listing mode r
listed_report names p set listing entries mode r listed is = record {
  is_on = is.is_on;
  not_refused = is.not_refused;
  names_same = is.names_same;
  rules_same = is.rules_same;
  listed = subst (IsListed listing) (sym is.listing_same) listed;
  mode_same = is.mode_same;
}

-- ---- of a program, a rule file and a listing

module _ (names : List (List ℕ)) (p : Program) (rules listing : Option (List ℕ)) where
  rules_cause : (v : TextFault) → IsRulesCause names p rules v → IsRuledCause names p rules listing (fault_of which.Rules v)
  rules_cause (Refused r) is = is
  rules_cause Memory is = tt

  pub rules_told : (v : TextFault) (w : VerifyFault) → w ≡ fault_of which.Rules v → IsRulesCause names p rules v → IsRuledCause names p rules listing w
  rules_told v w same is = subst (IsRuledCause names p rules listing) (sym same) (rules_cause v is)

  listed_cause : (set : RuleSet) (v : VerifyFault) → AreRulesOf names p rules (rules_in set) → IsListedCause p listing v → IsRuledCause names p rules listing v
  listed_cause set (verify.Refused which.Program r) are is = ((rules_in set, are), is)
  listed_cause set (verify.Refused which.Rules r) are is = absurd is
  listed_cause set (verify.Refused which.Listing r) are is = ((rules_in set, are), is)
  listed_cause set verify.Memory are is = tt

  pub listed_causes : {T : Type 0} (set : RuleSet) (r : Result T VerifyFault) → AreRulesOf names p rules (rules_in set) → IfErr r (IsListedCause p listing) → IfErr r (IsRuledCause names p rules listing)
  listed_causes set (Ok x) are h = tt
  listed_causes set (Err v) are h = listed_cause set v are h

  ruled_report : (more : List (List ℕ)) (set : RuleSet) (mode : Mode) (r : Findings) → more ≡ names_under names rules
      → AreRulesOf names p rules (rules_in set) → IsListedReport more p set listing mode r → IsRuledReport names p rules listing mode r
  ruled_report more set mode r same are is = record {
    is_on = is.is_on;
    not_refused = is.not_refused;
    names_same = is.names_same ∙ same;
    under = subst (λ (s : RuleSet). AreRulesOf names p rules (rules_in s)) (sym is.rules_same) are;
    listed = is.listed;
    mode_same = is.mode_same;
  }

  pub ruled_reports : {T : Type 0} (of : T → Findings) (more : List (List ℕ)) (set : RuleSet) (mode : Mode) (r : Result T VerifyFault) → more ≡ names_under names rules
      → AreRulesOf names p rules (rules_in set) → IfOk r (λ x. IsListedReport more p set listing mode (of x)) → IfOk r (λ x. IsRuledReport names p rules listing mode (of x))
  ruled_reports of more set mode (Ok x) same are h = ruled_report more set mode (of x) same are h
  ruled_reports of more set mode (Err v) same are h = tt

-- ---- of a tree

module _ (names : List (List ℕ)) (tree : TextTree) (rules listing : Option (List ℕ)) where
  walk_cause : (v : TextFault) → IsWalkCause names tree v → IsTreeCause names tree rules listing (fault_of which.Program v)
  walk_cause (Refused r) is = inl (refl, is)
  walk_cause Memory is = tt

  pub walk_told : (v : TextFault) (w : VerifyFault) → w ≡ fault_of which.Program v → IsWalkCause names tree v → IsTreeCause names tree rules listing w
  walk_told v w same is = subst (IsTreeCause names tree rules listing) (sym same) (walk_cause v is)

  module _ (mode : Mode) (p : Program) (sound : IsSound names tree p) where
    ruled_tree_cause : (v : VerifyFault) → IsRuledCause names p rules listing v → IsTreeCause names tree rules listing v
    ruled_tree_cause (verify.Refused w r) is = inr (p, sound, is)
    ruled_tree_cause verify.Memory is = tt

    pub ruled_tree_causes : {T : Type 0} (r : Result T VerifyFault) → IfErr r (IsRuledCause names p rules listing) → IfErr r (IsTreeCause names tree rules listing)
    ruled_tree_causes (Ok x) h = tt
    ruled_tree_causes (Err v) h = ruled_tree_cause v h

    pub tree_reports : {T : Type 0} (of : T → Findings) (r : Result T VerifyFault) → IfOk r (λ x. IsRuledReport names p rules listing mode (of x)) → IfOk r (λ x. IsTreeReport names tree rules listing mode (of x))
    tree_reports of (Ok x) h = record { program = p; sound = sound; ruled = h }
    tree_reports of (Err v) h = tt
