-- What a proof is checked against, over an arena.
use Rattle.std.specs.Prelude.{◌≡◌, List, [], Option, Some, None, IfSome}
use Rattle.std.specs.Borrow.{Bor}
use Rattle.spv_term.specs.Arena.{Arena}
use Rattle.spv_proof_rules.specs.Effects.{Question}
use Rattle.spv_proof_rules.specs.Rules.{Rule}
use Rattle.spv_proof_rules.specs.Stand.{question_under}
use Rattle.spv_rules.specs.RuleSets.{RuleSet, rules_in}
use Rattle.spv_proof.specs.declared.checker.tasks.Task.{Task}
use Rattle.spv_proof.specs.checker.Ends.{ConditionIn}

-- the rules, none where none are handed in
abbrev pub rules_of : Option (Bor RuleSet) → List Rule
rules_of None = []
rules_of (Some rules) = rules_in rules.now

-- what is to be shown
abbrev pub asks : Arena → Task → Question
asks a t = question_under (rules_of t.rules) a t.condition.now

-- rules are over the types and symbols of an arena
pub record AreOver (a : Arena) (rules : RuleSet) : Type 0 where
  pub shapes : rules.arena.shapes ≡ a.shapes
  pub decls : rules.arena.decls ≡ a.decls

-- the condition is in the arena, and the rules are over its types and symbols
pub record TaskIn (a : Arena) (t : Task) : Type 0 where
  pub condition : ConditionIn a t.condition.now
  pub rules : IfSome t.rules (λ r. AreOver a r.now)
