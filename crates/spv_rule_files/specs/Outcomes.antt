-- What a step of the walk over a rule file answers: a value, or the first fault.
use Rattle.std.specs.Prelude.{◌≡◌, ⊤, List, [], ◌∷◌, Result, Ok, Err}
use Rattle.spv_typing.specs.declared.faults.TypeFault.{TypeFault}
use Rattle.spv_typing.specs.declared.faults.TypeFault.TheVariants as type_fault
use Rattle.spv_typing.specs.Outcomes.{Outcome}
use Rattle.spv_rule_files.specs.declared.faults.RuleFault.{RuleFault}
use Rattle.spv_rule_files.specs.declared.faults.RuleFault.TheVariants.{Typing, Memory}

abbrev pub RuleOutcome : Type 0 → Type 0
RuleOutcome A = Result A RuleFault

-- a fault of names and types in a rule file
abbrev pub rule_fault : TypeFault → RuleFault
rule_fault type_fault.Memory = Memory
rule_fault fault = Typing fault

-- what comes next, where nothing was wrong with names and types
abbrev pub behind : {A B : Type 0} → Outcome A → (A → RuleOutcome B) → RuleOutcome B
behind (Ok x) next = next x
behind (Err fault) next = Err (rule_fault fault)

-- what comes next, where nothing was wrong
abbrev pub and_then : {A B : Type 0} → RuleOutcome A → (A → RuleOutcome B) → RuleOutcome B
and_then (Ok x) next = next x
and_then (Err fault) next = Err fault

-- each item of a list, in order; what was found so far goes along
abbrev pub each_rule : {S X : Type 0} → (S → X → RuleOutcome S) → S → List X → RuleOutcome S
each_rule step state [] = Ok state
each_rule step state (x ∷ xs) = and_then (step state x) (λ next. each_rule step next xs)

-- one item after the other
abbrev pub fold : {S X : Type 0} → (S → X → S) → S → List X → S
fold step state [] = state
fold step state (x ∷ xs) = fold step (step state x) xs

-- a fault that code answers is that of the walk; want of memory says nothing
abbrev pub RuleStops : {A : Type 0} → RuleFault → RuleOutcome A → Type 0
RuleStops Memory o = ⊤
RuleStops fault o = o ≡ Err fault
