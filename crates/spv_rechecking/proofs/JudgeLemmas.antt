-- The answer of the checker as a verdict, over plain variables.
use Rattle.std.proofs.Common.{◌≡◌, Bool, true, false, Some, Result, Ok, Err, List, IfOk, IfErr, sym, ap, ◌∙◌}
use Rattle.spv_term.specs.declared.nodes.Condition.{Condition}
use Rattle.spv_term.specs.Arena.{Arena, trees_of}
use Rattle.spv_atoms.specs.declared.proofs.ProofNode.{ProofNode}
use Rattle.spv_proof_rules.specs.Rules.{Rule}
use Rattle.spv_proof_rules.specs.Stand.{question_under}
use Rattle.spv_proof_rules.specs.Outcomes.{outcome}
use Rattle.spv_proof.specs.declared.checker.stops.CheckStop.{CheckStop}
use Rattle.spv_proof.specs.declared.checker.stops.CheckStop.TheVariants as stop
use Rattle.spv_proof.specs.checker.Ends.{EndsAs, comes_in}
use Rattle.spv_verdicts.specs.declared.answers.verdicts.Verdict.{Verdict}
use Rattle.spv_verdicts.specs.declared.answers.verdicts.Verdict.TheVariants as verdict
use Rattle.spv_verdicts.specs.answers.Views.{verdict_in}
use Rattle.spv_rechecking.specs.Rechecked.{verdict_by}
use Rattle.spv_rechecking.specs.Asked.{verdict_after}

module _ (rules : List Rule) (first last : Arena) (c : Condition) (nodes : List ProofNode) where
  -- the verdict, as trees have it, is that of the outcome
  pub by_answer : (answer : Result Bool CheckStop) (v : Verdict) → Some v ≡ verdict_after first.most nodes answer
      → IfOk answer (λ b. outcome first.most (question_under rules first c) (trees_of first.nodes) nodes ≡ comes_in last b)
      → IfErr answer (λ e. EndsAs last e (outcome first.most (question_under rules first c) (trees_of first.nodes) nodes))
      → verdict_in last v ≡ verdict_by first.most nodes (outcome first.most (question_under rules first c) (trees_of first.nodes) nodes).ending
  by_answer (Ok true) v is came stops = let same : v ≡ verdict.Proved nodes = cc in ap (verdict_in last) same ∙ ap (λ o. verdict_by first.most nodes o.ending) (sym came)
  by_answer (Ok false) v is came stops = let same : v ≡ verdict.NotAccepted = cc in ap (verdict_in last) same ∙ ap (λ o. verdict_by first.most nodes o.ending) (sym came)
  by_answer (Err (stop.Wide op x y)) v is came stops = ap (verdict_in last) (some_same v _ is) ∙ ap (λ o. verdict_by first.most nodes o.ending) (sym stops.told)
    where
      some_same : (a b : Verdict) → Some a ≡ Some b → a ≡ b
      some_same a b e = cc
  by_answer (Err (stop.Form t)) v is came stops = ap (verdict_in last) (some_same v _ is) ∙ ap (λ o. verdict_by first.most nodes o.ending) (sym stops.told)
    where
      some_same : (a b : Verdict) → Some a ≡ Some b → a ≡ b
      some_same a b e = cc
  by_answer (Err stop.Size) v is came stops = ap (verdict_in last) (some_same v _ is) ∙ ap (λ o. verdict_by first.most nodes o.ending) (sym stops.told)
    where
      some_same : (a b : Verdict) → Some a ≡ Some b → a ≡ b
      some_same a b e = cc
  by_answer (Err stop.Memory) v is came stops = absurd cc
