-- What stays where the arena grows.
use Rattle.std.proofs.Common.{◌≡◌, ℕ, ◌<◌, List, [], ◌∷◌, length, refl, sym, ap, ◌∙◌, Option, Some, None, IfSome}
use Rattle.std.specs.Borrow.{Bor}
use Rattle.spv_logic.specs.declared.conditions.TermId.{TermId}
use Rattle.spv_logic.specs.Terms.{Term}
use Rattle.spv_whole.specs.Fraction.{Fraction}
use Rattle.spv_term.specs.declared.nodes.Condition.{Condition}
use Rattle.spv_term.specs.Arena.{Arena, Extends, sequent}
use Rattle.spv_term.proofs.ArenaLemmas.{tree-Extends, sort_at-Extends, map_tree-Extends}
use Rattle.spv_atoms.specs.declared.proofs.Relation.{Relation}
use Rattle.spv_atoms.specs.declared.proofs.Relation.TheVariants.{AtMost, Equal}
use Rattle.spv_atoms.specs.declared.proofs.Step.{Step}
use Rattle.spv_atoms.specs.declared.proofs.Step.TheVariants as step
use Rattle.spv_proof_rules.specs.Stand.{RelationIn, StepIn}
use Rattle.spv_proof_rules.specs.Stops.{layers_if}
use Rattle.spv_proof_rules.specs.Outcomes.{does_unless, halt_at_most, halt_by, halt_equal, halt_of_sums, made_by, trial}
use Rattle.spv_proof_rules.proofs.Staying.{below-Extends, number-Extends, schema-Extends, rule-Extends, effect-Extends}
use Rattle.spv_proof_steps.specs.Candidates.{IsBool, AllFormulas}
use Rattle.spv_proof_steps.proofs.StepLemmas.{AllBelow-formulas}
use Rattle.spv_rules.specs.RuleSets.{RuleSet}
use Rattle.spv_proof.specs.declared.checker.tasks.Task.{Task}
use Rattle.spv_proof.specs.checker.Ends.{ConditionIn}
use Rattle.spv_proof.specs.checker.Tasks.{rules_of, asks, AreOver, TaskIn}

module _ {old new : Arena} (more : Extends old new) where
  IsBool-Extends : (t : TermId) → t.0 < length old.nodes → IsBool old t → IsBool new t
  IsBool-Extends t h s = sort_at-Extends more t h ∙ s

  AllFormulas-Extends : (ts : List TermId) → AllFormulas old ts → AllFormulas new ts
  AllFormulas-Extends [] h = tt
  AllFormulas-Extends (t ∷ ts) h = (below-Extends more t.0 h.0, IsBool-Extends t h.0 h.1, AllFormulas-Extends ts h.2)

  pub condition-Extends : (c : Condition) → ConditionIn old c → ConditionIn new c
  condition-Extends c h = record {
    given = AllFormulas-Extends c.given h.given;
    goal = below-Extends more c.goal.0 h.goal;
    sort = IsBool-Extends c.goal h.goal h.sort;
  }

  -- ---- the question

  pub task-Extends : (c : Task) → TaskIn old c → TaskIn new c
  task-Extends c h = record { condition = condition-Extends c.condition.now h.condition; rules = over-Extends c.rules h.rules }
    where
      over-Extends : (o : Option (Bor RuleSet)) → IfSome o (λ r. AreOver old r.now) → IfSome o (λ r. AreOver new r.now)
      over-Extends None k = tt
      over-Extends (Some r) k = record { shapes = k.shapes ∙ sym more.shapes; decls = k.decls ∙ sym more.decls }

  module _ (c : Task) (ci : TaskIn old c) where
    pub sequent-Extends : sequent new c.condition.now ≡ sequent old c.condition.now
    sequent-Extends = (λ i. record {
      given = map_tree-Extends more c.condition.now.given (AllBelow-formulas old c.condition.now.given ci.condition.given) i;
      goal = tree-Extends more c.condition.now.goal ci.condition.goal i;
    })

    halts-Extends : (known facts : List Term) (r : Relation) (first second : List (Fraction × ℕ)) → RelationIn old r
        → halt_of_sums new.most (asks new c) known facts r first second ≡ halt_of_sums old.most (asks old c) known facts r first second
    halts-Extends known facts (AtMost s t) first second h =
        let n = number-Extends more (sequent new c.condition.now) (sequent old c.condition.now) sequent-Extends (rules_of c.rules) in
        let a = tree-Extends more s h.0 in
        let b = tree-Extends more t h.1 in
        (λ i. halt_at_most (n i) (more.most i) known facts (a i) (b i) first second)
    halts-Extends known facts (Equal s t) first second h =
        let n = number-Extends more (sequent new c.condition.now) (sequent old c.condition.now) sequent-Extends (rules_of c.rules) in
        let a = tree-Extends more s h.0 in
        let b = tree-Extends more t h.1 in
        (λ i. halt_equal (n i) (more.most i) known facts (a i) (b i) first second)

    halt-Extends : (known facts : List Term) (s : Step) → StepIn old s → halt_by new.most (asks new c) known facts s ≡ halt_by old.most (asks old c) known facts s
    halt-Extends known facts (step.Linear r first second) h = halts-Extends known facts r first second h
    halt-Extends known facts _ h = refl

    pub made-Extends : (s : Step) → StepIn old s → made_by (asks new c) s ≡ made_by (asks old c) s
    made-Extends (step.Schema kind ts field) h = ap layers_if (schema-Extends more (sequent new c.condition.now) (sequent old c.condition.now) sequent-Extends (rules_of c.rules) kind ts field h)
    made-Extends (step.Rule number ts) h = ap layers_if (rule-Extends more (sequent new c.condition.now) (sequent old c.condition.now) sequent-Extends (rules_of c.rules) number ts h)
    made-Extends _ h = refl

    -- a step comes to the same
    pub trial-Extends : (known facts : List Term) (s : Step) → StepIn old s → trial new.most (asks new c) known facts s ≡ trial old.most (asks old c) known facts s
    trial-Extends known facts s h =
        (λ i. does_unless (halt-Extends known facts s h i) (effect-Extends more (sequent new c.condition.now) (sequent old c.condition.now) sequent-Extends (rules_of c.rules) facts s h i))
