-- What is found on the way.
use Rattle.std.specs.Prelude.{◌≡◌, ◌<◌, ℕ, Bool, true, false, ◌&&◌, List, [], length, Option, Some, None, Result, Ok, Err}
use Rattle.std.specs.List.{list_all}
use Rattle.spv_logic.specs.Terms.{Term}
use Rattle.spv_logic.specs.Conditions.{Sequent}
use Rattle.spv_term.specs.declared.nodes.Condition.{Condition}
use Rattle.spv_term.specs.Arena.{Arena, sequent, trees_of}
use Rattle.spv_atoms.specs.declared.proofs.ProofNode as own
use Rattle.spv_search_terms.specs.condition_copy.Copies.{all_terms}
use Rattle.spv_verdicts.specs.Verdicts as verdicts
use Rattle.spv_verdicts.specs.declared.answers.verdicts.Wide.TheVariants as wide
use Rattle.spv_verdicts.specs.declared.answers.verdicts.Limit.TheVariants as limit
use Rattle.spv_verdicts.specs.declared.answers.verdicts.Verdict.{Verdict}
use Rattle.spv_verdicts.specs.declared.answers.verdicts.Verdict.TheVariants as verdict
use Rattle.spv_verdicts.specs.answers.Views.{VerdictIn, verdict_in}
use Rattle.spv_proof.specs.declared.checker.stops.CheckStop.{CheckStop}
use Rattle.spv_proof.specs.declared.checker.stops.CheckStop.TheVariants as stop
use Rattle.spv_proof.specs.checker.Ends.{ConditionIn}
use Rattle.spv_listing_values.specs.declared.data.Header.{Header}
use Rattle.spv_listing_values.specs.declared.data.ProofNode.{ProofNode}
use Rattle.spv_listing_values.specs.declared.data.Claim.{Claim}
use Rattle.spv_listing_values.specs.Written.{Written}
use Rattle.spv_rechecking.specs.written_terms.Standing.{Vocabulary}
use Rattle.spv_rechecking.specs.Rechecked.{Recheck, IsChecked, IsVerdictOf, is_same, is_node, nodes_of, reading, vocabulary}

-- an arena has the terms of a condition and no others, and there is room for them, or there is none
pub record IsAsked (most : ℕ) (room : Bool) (a : Arena) (c : Condition) : Type 0 where
  pub condition : ConditionIn a c
  pub terms : trees_of a.nodes ≡ all_terms (sequent a c)
  pub limit : room ≡ true → a.most ≡ most
  pub over : room ≡ false → most < length (all_terms (sequent a c))

-- a verdict over an arena that has grown is what the recheck comes to
pub record IsFound (r : Recheck) (header : Header) (first : Arena) (c : Condition) (entry : Option (Claim Written)) (last : Arena) (v : Verdict) : Type 0 where
  pub terms_in : VerdictIn last v
  pub right : IsVerdictOf r (sequent first c) (reading (vocabulary r first.shapes first.decls (sequent first c)) r.most header (sequent first c) entry) last (verdict_in last v)

-- ---- the check

-- the verdict over ids that an answer of the checker is; none for want of memory
abbrev pub verdict_after : ℕ → List own.ProofNode → Result Bool CheckStop → Option Verdict
verdict_after most nodes (Ok true) = Some (verdict.Proved nodes)
verdict_after most nodes (Ok false) = Some verdict.NotAccepted
verdict_after most nodes (Err (stop.Wide op x y)) = Some (verdict.GaveUp [] (limit.Number (wide.Sum nodes op x y)))
verdict_after most nodes (Err (stop.Form t)) = Some (verdict.GaveUp [] (limit.Number (wide.Form t)))
verdict_after most nodes (Err stop.Size) = Some (verdict.GaveUp [] (limit.Terms most))
verdict_after most nodes (Err stop.Memory) = None

-- a verdict where the texts of a listing have ids: not accepted where the claim is another one or a step is none over terms; else that of the check
abbrev pub IsChosen : Bool → Recheck → Sequent → List (ProofNode Term) → Arena → Arena → verdicts.Verdict → Type 0
IsChosen false r c said first last v = v ≡ verdicts.NotAccepted
IsChosen true r c said first last v = IsChecked r c (trees_of first.nodes) said last v

pub record IsJudged (r : Recheck) (v : Vocabulary) (first : Arena) (c : Condition) (e : Claim Written) (last : Arena) (found : Verdict) : Type 0 where
  pub terms_in : VerdictIn last found
  pub chosen : IsChosen (is_same v (sequent first c) e && list_all (is_node v.words.names) (nodes_of v e)) r (sequent first c) (nodes_of v e) first last (verdict_in last found)
