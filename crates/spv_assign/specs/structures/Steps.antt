-- Steps into structures, over an arena.
use Rattle.std.specs.Prelude.{◌<◌, List, [], ◌∷◌, map, length}
use Rattle.spv_logic.specs.declared.operators.Head.TheVariants as head
use Rattle.spv_logic.specs.Terms.{Term}
use Rattle.spv_term.specs.Arena.{Arena, tree}
use Rattle.spv_program.specs.Terms.{binary, ternary}
use Rattle.spv_program.specs.Places as place
use Rattle.spv_program.specs.Places.{ToElement, ToField, part}
use Rattle.spv_assign.specs.declared.structures.elements.Step.{Step}
use Rattle.spv_assign.specs.declared.structures.elements.Step.TheVariants as step

-- the step in terms
abbrev pub step_in : Arena → Step → place.Step
step_in a (step.Index i) = ToElement (tree a i)
step_in a (step.Field f) = ToField f

abbrev pub steps_in : Arena → List Step → List place.Step
steps_in a path = map (step_in a) path

-- the index of a step is there
abbrev pub IsStep : Arena → Step → Type 0
IsStep a (step.Index i) = i.0 < length a.nodes
IsStep a (step.Field f) = Unit {0}

abbrev pub AreSteps : Arena → List Step → Type 0
AreSteps a [] = Unit {0}
AreSteps a (s ∷ path) = IsStep a s × AreSteps a path

-- a structure with something else behind one step
abbrev pub changed_by : Term → place.Step → Term → Term
changed_by s (ToElement i) v = ternary head.Store s i v
changed_by s (ToField f) v = binary (head.Put f) s v

-- the structures on a path: the whole, and what stands behind the first steps, one more each time
abbrev pub structures_to : Term → List place.Step → List Term
structures_to s [] = s ∷ []
structures_to s (x ∷ path) = s ∷ structures_to (part s x) path

-- the same without what stands behind all steps: each is the one that the next step goes into
abbrev pub structures_before : Term → List place.Step → List Term
structures_before s [] = []
structures_before s (x ∷ path) = s ∷ structures_before (part s x) path
