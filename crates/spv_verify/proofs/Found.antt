-- What is found of a tree, said of its text.
use Rattle.std.proofs.Common.{◌≡◌, inl, inr, ℕ, List, [], Option, Result, Ok, Err, IfErr, IfOk, refl, subst, ◌∙◌, ap}
use Rattle.spv_parser.specs.declared.language.fault.LanguageFault.{LanguageFault}
use Rattle.spv_parser.specs.language.Texts.{names_with, IsFaultOf}
use Rattle.spv_reports.specs.declared.mode.Mode.{Mode}
use Rattle.spv_reports.specs.Reports.{Findings, IsReport}
use Rattle.spv_rules.specs.RuleSets.{rules_in}
use Rattle.spv_verify.specs.declared.texts.TextKind.{TextKind}
use Rattle.spv_verify.specs.declared.texts.TextTree.{TextTree}
use Rattle.spv_verify.specs.texts.Trees.{ReadsText}
use Rattle.spv_verify.specs.declared.refused.fault.TextFault.{TextFault}
use Rattle.spv_verify.specs.declared.refused.fault.TextFault.TheVariants.{Refused, Memory}
use Rattle.spv_verify.specs.declared.refused.fault.Which.TheVariants as which
use Rattle.spv_verify.specs.declared.refused.fault.VerifyFault.{VerifyFault}
use Rattle.spv_verify.specs.declared.refused.fault.VerifyFault.TheVariants as verify
use Rattle.spv_verify.specs.refused.Told.{Tells, fault_of, text_refusal}
use Rattle.spv_verify.specs.tree_reports.Walks.{IsSound}
use Rattle.spv_verify.specs.tree_reports.RuleFiles.{names_under, AreRulesOf}
use Rattle.spv_verify.specs.tree_reports.Programs.{IsTreeCause, IsTreeReport}
use Rattle.spv_verify.specs.Refusals.{IsTextTree, IsReportOf}
use Rattle.spv_verify.specs.Causes.{IsReadingCause, IsCause}

pub reading_cause : (kind : TextKind) (text : List ℕ) (fault : LanguageFault) (v : TextFault) → IsFaultOf (ReadsText kind) [] text fault → Tells (text_refusal fault) v → IsReadingCause kind text v
reading_cause kind text fault (Refused r) stops tells = record { fault = fault; stops = stops; told = tells }
reading_cause kind text fault Memory stops tells = tt

pub cause_of_reading : (kind : TextKind) (text : List ℕ) (rules listing : Option (List ℕ)) (v : TextFault) → IsReadingCause kind text v → IsCause kind text rules listing (fault_of which.Program v)
cause_of_reading kind text rules listing (Refused r) is = inl (refl, is)
cause_of_reading kind text rules listing Memory is = tt

-- what is found of the tree of a text, with the names of the text, said of the text
module _ (mode : Mode) (kind : TextKind) (text : List ℕ) (rules listing : Option (List ℕ)) (tree : TextTree) (tree_is : IsTextTree kind text tree) (names : List (List ℕ)) (same : names ≡ names_with [] text) where
  tree_cause : (v : VerifyFault) → IsTreeCause names tree rules listing v → IsCause kind text rules listing v
  tree_cause (verify.Refused w r) is = inr (tree, tree_is, subst (λ n. IsTreeCause n tree rules listing (verify.Refused w r)) same is)
  tree_cause verify.Memory is = tt

  pub tree_causes : {T : Type 0} (r : Result T VerifyFault) → IfErr r (IsTreeCause names tree rules listing) → IfErr r (IsCause kind text rules listing)
  tree_causes (Ok x) h = tt
  tree_causes (Err v) h = tree_cause v h

  pub report_is : (r : Findings) → IsTreeReport names tree rules listing mode r → IsReportOf kind text rules listing r
  report_is r h = record {
    program = h.program;
    of_text = record { tree = tree; is_tree = tree_is; sound = subst (λ n. IsSound n tree h.program) same h.sound };
    is_on = h.ruled.is_on;
    not_refused = h.ruled.not_refused;
    names = h.ruled.names_same ∙ ap (λ n. names_under n rules) same;
    under = subst (λ n. AreRulesOf n h.program rules (rules_in r.rules)) same h.ruled.under;
    listed = h.ruled.listed;
  }

  pub reports_are : {T : Type 0} (of : T → Findings) (r : Result T VerifyFault) → IfOk r (λ x. IsTreeReport names tree rules listing mode (of x)) → IfOk r (λ x. IsReportOf kind text rules listing (of x))
  reports_are of (Ok x) h = report_is (of x) h
  reports_are of (Err v) h = tt

  pub modes_are : {T : Type 0} (of : T → Findings) (r : Result T VerifyFault) → IfOk r (λ x. IsTreeReport names tree rules listing mode (of x)) → IfOk r (λ x. (of x).mode ≡ mode)
  modes_are of (Ok x) h = h.ruled.mode_same
  modes_are of (Err v) h = tt

  pub findings_are : {T : Type 0} (of : T → Findings) (r : Result T VerifyFault) → IfOk r (λ x. IsTreeReport names tree rules listing mode (of x)) → IfOk r (λ x. IsReport (of x))
  findings_are of (Ok x) h = record { program = h.program; is_on = h.ruled.is_on }
  findings_are of (Err v) h = tt
