-- What a step adds that need not stand in the arena: the fact of a schema, or an instance of a rule.
use Rattle.std.proofs.Common.{◌≡◌, ℕ, zero, suc, ◌<◌, List, [], map, length, Option, Some, None, IfSome, refl, sym, ap, ◌∙◌, subst}
use Rattle.std.specs.Option.{option_map}
use Rattle.std.specs.Borrow.{Bor}
use Rattle.spv_logic.specs.declared.names.names.Symbol.{Symbol}
use Rattle.spv_logic.specs.declared.conditions.TermId.{TermId}
use Rattle.spv_schemas.specs.declared.kinds.SchemaKind.{SchemaKind}
use Rattle.spv_schemas.specs.Kinds.{kind_of_number}
use Rattle.spv_schemas.specs.Facts.{schema_fact}
use Rattle.spv_term.specs.Arena.{Arena, Extends, sequent, tree}
use Rattle.spv_atoms.specs.declared.proofs.Step.{Step}
use Rattle.spv_atoms.specs.declared.proofs.Step.TheVariants.{Schema, Rule}
use Rattle.spv_proof_rules.specs.Rules.{numbered_rule, instance_of}
use Rattle.spv_proof_rules.specs.Effects.{fact_of_kind}
use Rattle.spv_proof_rules.specs.Outcomes.{made_by}
use Rattle.spv_proof_rules.specs.Stops.{layers_if}
use Rattle.spv_proof_rules.specs.Stand.{StepIn}
use Rattle.spv_proof_rules.proofs.Staying.{schema-Extends, rule-Extends}
use Rattle.spv_rules.specs.RuleSets.{RuleSet, rules_in}
use Rattle.spv_proof.specs.declared.checker.tasks.Task.{Task}
use Rattle.spv_proof.specs.checker.Ends.{IsMade}
use Rattle.spv_proof.specs.checker.Tasks.{rules_of, asks}

-- the fact of a schema is made
pub fact_is_made : {old new : Arena} → Extends old new → (k : Task) (step : Step) (number : ℕ) (ts : List TermId) (field : Option Symbol) → step ≡ Schema number ts field → StepIn old step
    → (kind : SchemaKind) (o : Option SchemaKind) → o ≡ kind_of_number number → o ≡ Some kind → (us : List TermId) → us ≡ ts
    → (made : Option TermId) → IfSome made (λ t. t.0 < length new.nodes) → option_map (tree new) made ≡ schema_fact old.shapes old.decls kind (map (tree old) us) field
    → IsMade new (asks new k) step made
fact_is_made {old} {new} more k step number ts field e within kind o f g us same made there is =
    let told = is ∙ ap (λ xs. schema_fact old.shapes old.decls kind (map (tree old) xs) field) same in
    let q = sequent new k.condition.now in
    subst (λ s. IsMade new (asks new k) s made) (sym e) (record {
      there = there;
      stated = told ∙ (ap (λ x. fact_of_kind (asks old k) x (map (tree old) ts) field) (sym g ∙ f)
          ∙ sym (schema-Extends more q q refl (rules_of k.rules) number ts field (subst (StepIn old) e within)));
    })

-- an instance of a rule is made
pub instance_is_made : {old new : Arena} → Extends old new → (k : Task) (step : Step) (number : ℕ) (ts : List TermId) → step ≡ Rule number ts → StepIn old step
    → (rules : Bor RuleSet) → k.rules ≡ Some rules → (us : List TermId) → us ≡ ts
    → (made : Option TermId) → IfSome made (λ t. t.0 < length new.nodes)
    → option_map (tree new) made ≡ instance_of old.shapes old.decls (numbered_rule (rules_in rules.now) number) (map (tree old) us)
    → IsMade new (asks new k) step made
instance_is_made {old} {new} more k step number ts e within rules handed us same made there is =
    let q = sequent new k.condition.now in
    subst (λ s. IsMade new (asks new k) s made) (sym e) (record {
      there = there;
      stated = is ∙ ((λ i. instance_of old.shapes old.decls (numbered_rule (rules_of (sym handed i)) number) (map (tree old) (same i)))
          ∙ sym (rule-Extends more q q refl (rules_of k.rules) number ts (subst (StepIn old) e within)));
    })

-- ---- where there are no rules

none_there : (number : ℕ) → numbered_rule [] number ≡ None
none_there zero = refl
none_there (suc number) = refl

module _ (a : Arena) (k : Task) (number : ℕ) (ts : List TermId) (none : k.rules ≡ None) where
  none_stated : instance_of a.shapes a.decls (numbered_rule (rules_of k.rules) number) (map (tree a) ts) ≡ None
  none_stated = ap (λ o. instance_of a.shapes a.decls (numbered_rule (rules_of o) number) (map (tree a) ts)) none ∙ ap (λ o. instance_of a.shapes a.decls o (map (tree a) ts)) (none_there number)

  pub none_made : made_by (asks a k) (Rule number ts) ≡ []
  none_made = ap layers_if none_stated

  pub none_is_made : (step : Step) → step ≡ Rule number ts → IsMade a (asks a k) step None
  none_is_made step e = subst (λ s. IsMade a (asks a k) s None) (sym e) (record { there = tt; stated = sym none_stated })
