-- What steps other than schemas and rules come to does not depend on rules.
use Rattle.std.proofs.Common.{◌≡◌, ℕ, true, false, List, Option, Some, None, refl, sym, ap, ◌∙◌, subst, Result, Ok, Err, IfOk, IfErr}
use Rattle.spv_whole.specs.Fraction.{Fraction}
use Rattle.spv_logic.specs.Terms.{Term}
use Rattle.spv_logic.specs.Conditions.{Sequent}
use Rattle.spv_term.specs.declared.nodes.Condition.{Condition}
use Rattle.spv_term.specs.Arena.{Arena, sequent}
use Rattle.spv_atoms.specs.declared.proofs.Relation.{Relation}
use Rattle.spv_atoms.specs.declared.proofs.Relation.TheVariants.{AtMost, Equal}
use Rattle.spv_atoms.specs.declared.proofs.Stated.{Stated}
use Rattle.spv_atoms.specs.declared.proofs.Stated.TheVariants.{Is, Same}
use Rattle.spv_atoms.specs.declared.proofs.Step.{Step}
use Rattle.spv_atoms.specs.declared.proofs.Step.TheVariants.{Linear}
use Rattle.spv_atoms.specs.declared.proofs.Split.{Split}
use Rattle.spv_proof_rules.specs.Rules.{Rule}
use Rattle.spv_proof_rules.specs.Effects.{linear, stated}
use Rattle.spv_proof_rules.specs.Accepted as accepted
use Rattle.spv_proof_rules.specs.Outcomes.{Trial, Does, branches_after, does_unless, halt_of_sums, trial}
use Rattle.spv_proof_rules.specs.Stand.{question_under}
use Rattle.spv_proof_steps.specs.declared.facts.Effect as steps
use Rattle.spv_proof_steps.specs.Steps.{asked, effect_of}
use Rattle.spv_proof.specs.declared.checker.stops.CheckStop.{CheckStop}
use Rattle.spv_proof.specs.checker.Ends.{IsTrialStop}

module _ (rules : List Rule) (a : Arena) (c : Condition) where
  -- a sum
  pub sums_under : (most : ℕ) (known facts : List Term) (r : Relation) (first second : List (Fraction × ℕ))
      → does_unless (halt_of_sums most (question_under rules a c) known facts r first second) (linear (question_under rules a c) facts r first second)
      ≡ does_unless (halt_of_sums most (asked a (sequent a c)) known facts r first second) (linear (asked a (sequent a c)) facts r first second)
  sums_under most known facts (AtMost s t) first second = refl
  sums_under most known facts (Equal s t) first second = refl

  module _ (most : ℕ) (known facts : List Term) (s : Step) (r : Relation) (first second xs ys : List (Fraction × ℕ)) (is : s ≡ Linear r first second) (one : xs ≡ first) (two : ys ≡ second) where
    abbrev sums_come : Trial
    sums_come = does_unless (halt_of_sums most (asked a (sequent a c)) known facts r xs ys) (linear (asked a (sequent a c)) facts r xs ys)

    linear_under : trial most (question_under rules a c) known facts s ≡ sums_come
    linear_under =
        ap (trial most (question_under rules a c) known facts) is
        ∙ (sums_under most known facts r first second
        ∙ (λ i. does_unless (halt_of_sums most (asked a (sequent a c)) known facts r (sym one i) (sym two i)) (linear (asked a (sequent a c)) facts r (sym one i) (sym two i))))

    pub linear_does : (result : Result steps.Effect CheckStop) → IfOk result (λ e. (d : Sequent) → does_unless (halt_of_sums most (asked a d) known facts r xs ys) (linear (asked a d) facts r xs ys) ≡ Does (effect_of a e))
        → IfOk result (λ e. trial most (question_under rules a c) known facts s ≡ Does (effect_of a e))
    linear_does (Ok e) told = linear_under ∙ told (sequent a c)
    linear_does (Err e) told = tt

    pub linear_stops : (new : Arena) (result : Result steps.Effect CheckStop)
        → IfErr result (λ e. (d : Sequent) → IsTrialStop a new e (does_unless (halt_of_sums most (asked a d) known facts r xs ys) (linear (asked a d) facts r xs ys)))
        → IfErr result (λ e. IsTrialStop a new e (trial most (question_under rules a c) known facts s))
    linear_stops new (Ok e) told = tt
    linear_stops new (Err e) told = subst (IsTrialStop a new e) (sym linear_under) (told (sequent a c))

  -- an evaluation
  pub stated_under : (s : Stated) → stated (question_under rules a c) s ≡ stated (asked a (sequent a c)) s
  stated_under (Is t true) = refl
  stated_under (Is t false) = refl
  stated_under (Same s t) = refl

  -- the end of a node
  pub after_under : (p : accepted.Path) (o : Option Split) → branches_after (question_under rules a c) p o ≡ branches_after (asked a (sequent a c)) p o
  after_under accepted.Closed None = refl
  after_under accepted.Closed (Some s) = refl
  after_under (accepted.Open facts) None = refl
  after_under (accepted.Open facts) (Some s) = refl
  after_under accepted.Broken o = refl
