-- Rules over an arena.
use Rattle.std.specs.Prelude.{◌≡◌, ℕ, zero, ◌<◌, Bool, true, false, ◌&&◌, ◌||◌, not, List, [], ◌∷◌, map, length, Some, slice_get}
use Rattle.std.specs.List.{list_all, list_any}
use Rattle.spv_logic.specs.declared.types.Sort.TheVariants as sort
use Rattle.spv_logic.specs.declared.types.Shape.{Shape}
use Rattle.spv_logic.specs.declared.types.Decl.{Decl}
use Rattle.spv_logic.specs.declared.operators.Head.{Head}
use Rattle.spv_logic.specs.declared.operators.Head.TheVariants.{Var, App}
use Rattle.spv_logic.specs.Terms.{Term, head_eq, heads_pass}
use Rattle.spv_logic.specs.Sorts.{term_sort}
use Rattle.spv_logic.specs.Substitution.{is_variable}
use Rattle.spv_term.specs.Arena.{Arena, IsArena, AllBelow, tree}
use Rattle.spv_term.specs.substitution.Images.{head_of, head_at}
use Rattle.spv_proof_rules.specs.Rules as plain
use Rattle.spv_rules.specs.declared.rules.Rule.{Rule}

-- ---- rules over trees

-- whether a head is a variable as rules have them
abbrev pub is_rule_variable : Head → Bool
is_rule_variable (Var x s zero) = true
is_rule_variable _ = false

-- whether no head stands twice in a list
abbrev pub heads_differ : List Head → Bool
heads_differ [] = true
heads_differ (h ∷ hs) = not (list_any (head_eq h) hs) && heads_differ hs

-- whether a head is the application of a declared symbol
abbrev pub is_application : Head → Bool
is_application (App f) = true
is_application _ = false

-- whether a head stands somewhere in a term
abbrev pub has_head : Head → Term → Bool
has_head h t = not (heads_pass (λ k. not (head_eq h k)) t)

-- whether a head may stand in a rule of these variables: each variable in it is one of them
abbrev pub is_known : List Head → Head → Bool
is_known hs h = not (is_variable h) || list_any (head_eq h) hs

-- a rule as rule files have them: its variables differ, and each stands in the trigger, an application of a declared symbol; no other
-- variable stands in the trigger or in the formula; and what the rule says is true or false
pub record IsProper (shapes : List Shape) (decls : List Decl) (r : plain.Rule) : Type 0 where
  pub variables : list_all is_rule_variable r.replaced ≡ true
  pub differ : heads_differ r.replaced ≡ true
  pub applied : is_application (head_of r.trigger) ≡ true
  pub bound : list_all (λ h. has_head h r.trigger) r.replaced ≡ true
  pub of_trigger : heads_pass (is_known r.replaced) r.trigger ≡ true
  pub of_formula : heads_pass (is_known r.replaced) r.formula ≡ true
  pub truth : term_sort shapes decls r.formula ≡ Some sort.Bool

-- ---- rules over ids

-- the rule that stands for one over ids
abbrev pub rule_in : Arena → Rule → plain.Rule
rule_in a r = record { replaced = map (head_at a) r.variables; trigger = tree a r.trigger; formula = tree a r.formula }

-- a rule over terms of an arena
pub record IsRule (a : Arena) (r : Rule) : Type 0 where
  pub variables : AllBelow (length a.nodes) r.variables
  pub trigger : r.trigger.0 < length a.nodes
  pub formula : r.formula.0 < length a.nodes
  pub proper : IsProper a.shapes a.decls (rule_in a r)

-- each of these is
pub record AreRules (a : Arena) (rules : List Rule) : Type 0 where
  pub each : (k : ℕ) (r : Rule) → slice_get rules k ≡ Some r → IsRule a r

-- ---- rules with their arena

-- what contracts see of rules: the arena of their terms, and the rules in order
pub record RuleSet : Type 0 where
  pub arena : Arena
  pub list : List Rule

-- what is true of every such one
pub record IsRuleSet (s : RuleSet) : Type 0 where
  pub arena : IsArena s.arena
  pub rules : AreRules s.arena s.list

-- the rules
abbrev pub rules_in : RuleSet → List plain.Rule
rules_in s = map (rule_in s.arena) s.list

-- ---- laws

-- a rule stays one, and the same, where terms are added
pub record RuleStays (old new : Arena) : Type 0 where
  pub same : (r : Rule) → IsRule old r → rule_in new r ≡ rule_in old r
  pub stays : (r : Rule) → IsRule old r → IsRule new r
