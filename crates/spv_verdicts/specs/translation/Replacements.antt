-- What takes the place of each hypothesis of what claims that a condition is refuted together with facts of schemas.
use Rattle.std.specs.Prelude.{◌≡◌, ℕ, zero, suc, false, List, [], ◌∷◌, ◌++◌, map, Option, Some, None}
use Rattle.spv_logic.specs.declared.names.names.Symbol.{Symbol}
use Rattle.spv_logic.specs.declared.conditions.TermId.{TermId}
use Rattle.spv_logic.specs.Terms.{Term}
use Rattle.spv_schemas.specs.declared.kinds.SchemaKind.{SchemaKind}
use Rattle.spv_schemas.specs.Kinds.{kind_of_number}
use Rattle.spv_schemas.specs.Instances.{SchemaInstance, schemas}
use Rattle.spv_atoms.specs.declared.proofs.Stated.TheVariants.{Is}
use Rattle.spv_atoms.specs.declared.proofs.Step.{Step}
use Rattle.spv_atoms.specs.declared.proofs.Step.TheVariants as step
use Rattle.spv_proof_rules.specs.Effects.{Question}
use Rattle.spv_verdicts.specs.Schemas.{used}

-- ---- steps for facts of schemas

abbrev pub instance_by : Option SchemaKind → List Term → Option Symbol → Option SchemaInstance
instance_by None ts field = None
instance_by (Some kind) ts field = Some (record { kind = kind; about = ts; field = field })

-- the instance of a schema whose fact a step adds
abbrev pub stated_instance : (TermId → Term) → Step → Option SchemaInstance
stated_instance at (step.Schema number ts field) = instance_by (kind_of_number number) (map at ts) field
stated_instance at _ = None

-- these steps add the facts of schemas of a condition, one for each instance, in order
pub record StateFacts (q : Question) (steps : List Step) : Type 0 where
  pub instances : map (stated_instance q.at) steps ≡ map Some (schemas q.shapes q.decls (used q))

-- ---- the table

-- so many hypotheses, from the one behind this number on
abbrev pub given_behind : ℕ → ℕ → List Step
given_behind place zero = []
given_behind place (suc n) = step.Given (suc place) ∷ given_behind (suc place) n

-- that FALSE is false is evaluated; the condition's hypotheses are themselves; that its goal is false is its number 0; and the others are
-- these steps
abbrev pub replacements : ℕ → TermId → List Step → List Step
replacements hypotheses falsity steps = (step.Eval (Is falsity false) [] ∷ given_behind 0 hypotheses) ++ step.Given 0 ∷ steps
