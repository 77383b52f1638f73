-- A proof of a listing as one over an arena.
use Rattle.std.specs.Prelude.{◌≡◌, ℕ, true, false, List, map, Option, Some, None}
use Rattle.std.specs.List.{list_all, AllByRecursion}
use Rattle.spv_logic.specs.declared.conditions.TermId.{TermId}
use Rattle.spv_logic.specs.declared.operators.Head.{Head}
use Rattle.spv_logic.specs.declared.operators.Head.TheVariants.{Eq, Le}
use Rattle.spv_logic.specs.Terms.{Term}
use Rattle.spv_term.specs.Arena.{Arena, tree}
use Rattle.spv_atoms.specs.declared.proofs.Relation.{Relation}
use Rattle.spv_atoms.specs.declared.proofs.Relation.TheVariants.{AtMost, Equal}
use Rattle.spv_atoms.specs.declared.proofs.Step as own
use Rattle.spv_atoms.specs.declared.proofs.Split as own_split
use Rattle.spv_atoms.specs.declared.proofs.ProofNode as own_node
use Rattle.spv_proof_rules.specs.Stand.{RelationIn, StepIn, StepsIn, NodesIn}
use Rattle.spv_listing_values.specs.declared.texts.Text.{Text}
use Rattle.spv_listing_values.specs.declared.data.Step.{Step}
use Rattle.spv_listing_values.specs.declared.data.Split.{Split}
use Rattle.spv_listing_values.specs.declared.data.ProofNode.{ProofNode}
use Rattle.spv_listing_values.specs.Mapped.{step_at, node_at, step_terms, split_terms}
use Rattle.spv_listing_values.specs.Places.{AreBefore}
use Rattle.spv_rechecking.specs.Rechecked.{is_relation, is_step, is_node}
use Rattle.spv_rechecking.specs.Listed.{relation_at, listed_step, listed_nodes}
use Rattle.spv_rechecking.specs.Made.{image_at}

-- what stands at the place of a text
abbrev pub term_at : Arena → List TermId → Text → Term
term_at a images t = tree a (image_at images t)

-- the relation that a head makes of two terms
abbrev pub relation_over : Head → TermId → TermId → Option Relation
relation_over Eq s t = Some (Equal s t)
relation_over Le s t = Some (AtMost s t)
relation_over _ s t = None

-- a relation of two terms of the arena is this term; there is none where the term is no relation
abbrev pub IsRelationOf : Arena → Term → Option Relation → Type 0
IsRelationOf a t None = is_relation t ≡ false
IsRelationOf a t (Some r) = (relation_at (tree a) r ≡ t) × RelationIn a r × (is_relation t ≡ true)

-- a step over the arena is listed as this one; there is none where this is none over terms
abbrev pub IsStepOf : List (List ℕ) → Arena → Step Term → Option own.Step → Type 0
IsStepOf names a s None = is_step names s ≡ false
IsStepOf names a s (Some o) = (listed_step names (tree a) o ≡ s) × StepIn a o × (is_step names s ≡ true)

-- the same of steps in a row
abbrev pub AreStepsOf : List (List ℕ) → Arena → List (Step Term) → Option (List own.Step) → Type 0
AreStepsOf names a ss None = list_all (is_step names) ss ≡ false
AreStepsOf names a ss (Some os) = (map (listed_step names (tree a)) os ≡ ss) × StepsIn a os × (list_all (is_step names) ss ≡ true)

abbrev pub AreNodesOf : List (List ℕ) → Arena → List (ProofNode Term) → Option (List own_node.ProofNode) → Type 0
AreNodesOf names a ns None = list_all (is_node names) ns ≡ false
AreNodesOf names a ns (Some os) = (listed_nodes names (tree a) os ≡ ns) × NodesIn a os × (list_all (is_node names) ns ≡ true)

-- the terms of a step, and of a node, have their places
abbrev pub StepPlaced : ℕ → Step Text → Type 0
StepPlaced count s = AreBefore count (step_terms s)

abbrev pub StepsPlaced : ℕ → List (Step Text) → Type 0
StepsPlaced count steps = AllByRecursion (StepPlaced count) steps

abbrev pub NodesPlaced : ℕ → List (ProofNode Text) → Type 0
NodesPlaced count nodes = AllByRecursion (λ n. StepsPlaced count n.steps × AreBefore count (split_terms n.split)) nodes

-- a split over the terms of an arena, with these places of its cases
abbrev pub IsSplitOf : List TermId → Option (Split Text) → List ℕ → Option own_split.Split → Type 0
IsSplitOf images None parts o = o ≡ None
IsSplitOf images (Some s) parts o = o ≡ Some (record { atom = image_at images s.atom; parts = parts })

-- a node over the terms of an arena, with these places of its cases; there is none where a step is none over terms
abbrev pub IsNodeOf : List (List ℕ) → Arena → List TermId → ProofNode Text → List ℕ → Option own_node.ProofNode → Type 0
IsNodeOf names a images n parts None = is_node names (node_at (term_at a images) n) ≡ false
IsNodeOf names a images n parts (Some o) =
    (map (listed_step names (tree a)) o.steps ≡ map (step_at (term_at a images)) n.steps) × IsSplitOf images n.split parts o.split
    × StepsIn a o.steps × (is_node names (node_at (term_at a images) n) ≡ true)
