-- Proofs over an arena.
use Rattle.std.specs.Prelude.{◌<◌, List, [], ◌∷◌, length, IsTrue, Option, Some, None}
use Rattle.spv_logic.specs.declared.conditions.TermId.{TermId}
use Rattle.spv_term.specs.declared.nodes.Condition.{Condition}
use Rattle.spv_term.specs.Arena.{Arena, AllBelow, tree, sequent}
use Rattle.spv_atoms.specs.declared.proofs.Relation.{Relation}
use Rattle.spv_atoms.specs.declared.proofs.Relation.TheVariants.{AtMost, Equal}
use Rattle.spv_atoms.specs.declared.proofs.Stated.{Stated}
use Rattle.spv_atoms.specs.declared.proofs.Stated.TheVariants.{Is, Same}
use Rattle.spv_atoms.specs.declared.proofs.Step.{Step}
use Rattle.spv_atoms.specs.declared.proofs.Split.{Split}
use Rattle.spv_atoms.specs.declared.proofs.ProofNode.{ProofNode}
use Rattle.spv_atoms.specs.Steps.{Part, One, Several, Sums, States, OfNaming}
use Rattle.spv_proof_rules.specs.Rules.{Rule}
use Rattle.spv_proof_rules.specs.Effects.{Question}
use Rattle.spv_proof_rules.specs.Accepted.{accepts}

-- what is to be shown of a condition
abbrev pub question : Arena → Condition → Question
question a c = record { shapes = a.shapes; decls = a.decls; at = tree a; sequent = sequent a c; rules = [] }

-- and under rules
abbrev pub question_under : List Rule → Arena → Condition → Question
question_under rules a c = record { shapes = a.shapes; decls = a.decls; at = tree a; sequent = sequent a c; rules = rules }

-- a term is in the arena
abbrev pub In : Arena → TermId → Type 0
In a t = t.0 < length a.nodes

abbrev pub RelationIn : Arena → Relation → Type 0
RelationIn a (AtMost s t) = In a s × In a t
RelationIn a (Equal s t) = In a s × In a t

abbrev pub StatedIn : Arena → Stated → Type 0
StatedIn a (Is t b) = In a t
StatedIn a (Same s t) = In a s × In a t

abbrev pub PartIn : Arena → Part → Type 0
PartIn a (One t) = In a t
PartIn a (Several ts) = AllBelow (length a.nodes) ts
PartIn a (Sums r first second) = RelationIn a r
PartIn a (States s) = StatedIn a s
PartIn a _ = Unit {0}

-- the terms that a step names are in the arena
abbrev pub StepIn : Arena → Step → Type 0
StepIn a s = OfNaming (PartIn a) s

abbrev pub StepsIn : Arena → List Step → Type 0
StepsIn a [] = Unit {0}
StepsIn a (s ∷ steps) = StepIn a s × StepsIn a steps

abbrev pub SplitIn : Arena → Option Split → Type 0
SplitIn a None = Unit {0}
SplitIn a (Some s) = In a s.atom

abbrev pub NodesIn : Arena → List ProofNode → Type 0
NodesIn a [] = Unit {0}
NodesIn a (n ∷ nodes) = StepsIn a n.steps × SplitIn a n.split × NodesIn a nodes

-- a proof of a condition: its terms are in the condition's arena, and it is accepted
pub record IsProof (a : Arena) (c : Condition) (nodes : List ProofNode) : Type 0 where
  pub terms : NodesIn a nodes
  pub accepted : IsTrue (accepts (question a c) nodes)
