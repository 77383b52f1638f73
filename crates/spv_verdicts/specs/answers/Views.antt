-- What was decided of a condition, as the definitions of verdicts speak of it.
use Rattle.std.specs.Prelude.{◌≡◌, Bool, List, [], ◌∷◌, length, map}
use Rattle.spv_whole.specs.Fraction.{Fraction}
use Rattle.spv_logic.specs.declared.conditions.TermId.{TermId}
use Rattle.spv_logic.specs.Terms.{Term}
use Rattle.spv_term.specs.declared.nodes.Condition.{Condition}
use Rattle.spv_term.specs.Arena.{AllBelow, Arena, tree}
use Rattle.spv_table.specs.Kept.{PairsIn}
use Rattle.spv_proof_rules.specs.Stand.{question, In, StepsIn, NodesIn}
use Rattle.spv_search_terms.specs.condition_copy.Copies.{IsSameClaim}
use Rattle.spv_verdicts.specs.Verdicts as verdicts
use Rattle.spv_verdicts.specs.Verdicts.{Limits, IsRight}
use Rattle.spv_verdicts.specs.Schemas.{IsRightWith}
use Rattle.spv_verdicts.specs.declared.answers.trees.SplitNode.{SplitNode}
use Rattle.spv_verdicts.specs.declared.answers.trees.SplitNode.TheVariants as node
use Rattle.spv_verdicts.specs.declared.answers.verdicts.Instance.{Instance}
use Rattle.spv_verdicts.specs.declared.answers.verdicts.Round.{Round}
use Rattle.spv_verdicts.specs.declared.answers.verdicts.Wide.{Wide}
use Rattle.spv_verdicts.specs.declared.answers.verdicts.Wide.TheVariants as wide
use Rattle.spv_verdicts.specs.declared.answers.verdicts.Limit.{Limit}
use Rattle.spv_verdicts.specs.declared.answers.verdicts.Limit.TheVariants as limit
use Rattle.spv_verdicts.specs.declared.answers.verdicts.Verdict.{Verdict}
use Rattle.spv_verdicts.specs.declared.answers.verdicts.Verdict.TheVariants as verdict
use Rattle.spv_verdicts.specs.declared.answers.verdicts.Decided.{Decided}
use Rattle.spv_verdicts.specs.answers.Nodes.{tree_at}

-- ---- over trees

abbrev pub pair_in : Arena → TermId × Fraction → Term × Fraction
pair_in a p = (tree a p.0, p.1)

-- a table's terms with their fractions
abbrev pub pairs_in : Arena → List (TermId × Fraction) → List (Term × Fraction)
pairs_in a values = map (pair_in a) values

abbrev pub case_in : Arena → TermId × Bool → Term × Bool
case_in a p = (tree a p.0, p.1)

-- a branch's atoms with their truths
abbrev pub branch_in : Arena → List (TermId × Bool) → List (Term × Bool)
branch_in a branch = map (case_in a) branch

-- instances over trees
abbrev pub instance_in : Arena → Instance → verdicts.Instance
instance_in a i = record { rule = i.rule; values = map (tree a) i.values }

abbrev pub instances_in : Arena → List Instance → List verdicts.Instance
instances_in a instances = map (instance_in a) instances

abbrev pub round_in : Arena → Round → verdicts.Round
round_in a r = record { table = pairs_in a r.table.values; members = instances_in a r.members }

abbrev pub rounds_in : Arena → List Round → List verdicts.Round
rounds_in a rounds = map (round_in a) rounds

abbrev pub wide_in : Arena → Wide → verdicts.Limit
wide_in a (wide.Form t) = verdicts.WideForm (tree a t)
wide_in a (wide.Pivot e) = verdicts.WidePivot e.start e.steps e.operation
wide_in a (wide.Sum nodes op x y) = verdicts.WideSum nodes (record { op = op; left = x; right = y })
wide_in a (wide.Value table t op x y) = verdicts.WideEvaluation (pairs_in a table.values) (tree a t) (record { op = op; left = x; right = y })

abbrev pub limit_in : Arena → Limit → verdicts.Limit
limit_in a (limit.Splits nodes) = verdicts.Splits (tree_at (tree a) nodes)
limit_in a limit.Instances = verdicts.TooManyInstances
limit_in a (limit.Number w) = wide_in a w
limit_in a (limit.Pivots e) = verdicts.Pivots e.start e.steps
limit_in a (limit.Terms n) = verdicts.TooManyTerms n

-- the verdict that one over ids is
abbrev pub verdict_in : Arena → Verdict → verdicts.Verdict
verdict_in a (verdict.Proved nodes) = verdicts.Proved nodes
verdict_in a (verdict.Unproved u) = verdicts.Unproved (branch_in a u.branch) (pairs_in a u.table.values) (instances_in a u.instances)
verdict_in a (verdict.GaveUp rounds l) = verdicts.GaveUp (rounds_in a rounds) (limit_in a l)
verdict_in a verdict.NotAccepted = verdicts.NotAccepted

-- ---- terms that are there

abbrev pub SplitNodeIn : Arena → SplitNode → Type 0
SplitNodeIn a node.Open = Unit {0}
SplitNodeIn a (node.Closed steps) = StepsIn a steps
SplitNodeIn a (node.Split t parts) = In a t

abbrev pub SplitNodesIn : Arena → List SplitNode → Type 0
SplitNodesIn a [] = Unit {0}
SplitNodesIn a (n ∷ nodes) = SplitNodeIn a n × SplitNodesIn a nodes

abbrev pub CasesIn : Arena → List (TermId × Bool) → Type 0
CasesIn a [] = Unit {0}
CasesIn a (p ∷ branch) = In a p.0 × CasesIn a branch

abbrev pub InstancesIn : Arena → List Instance → Type 0
InstancesIn a [] = Unit {0}
InstancesIn a (i ∷ instances) = AllBelow (length a.nodes) i.values × InstancesIn a instances

abbrev pub RoundsIn : Arena → List Round → Type 0
RoundsIn a [] = Unit {0}
RoundsIn a (r ∷ rounds) = PairsIn a r.table.values × InstancesIn a r.members × RoundsIn a rounds

abbrev pub WideIn : Arena → Wide → Type 0
WideIn a (wide.Form t) = In a t
WideIn a (wide.Pivot e) = Unit {0}
WideIn a (wide.Sum nodes op x y) = NodesIn a nodes
WideIn a (wide.Value table t op x y) = PairsIn a table.values × In a t

abbrev pub LimitIn : Arena → Limit → Type 0
LimitIn a (limit.Splits nodes) = SplitNodesIn a nodes
LimitIn a limit.Instances = Unit {0}
LimitIn a (limit.Number w) = WideIn a w
LimitIn a (limit.Pivots e) = Unit {0}
LimitIn a (limit.Terms n) = Unit {0}

-- each term that a verdict names is in the arena
abbrev pub VerdictIn : Arena → Verdict → Type 0
VerdictIn a (verdict.Proved nodes) = NodesIn a nodes
VerdictIn a (verdict.Unproved u) = CasesIn a u.branch × PairsIn a u.table.values × InstancesIn a u.instances
VerdictIn a (verdict.GaveUp rounds l) = RoundsIn a rounds × LimitIn a l
VerdictIn a verdict.NotAccepted = Unit {0}

-- ---- what was decided

-- what was decided of a condition of an arena: it claims the same in an arena of its own, and the verdict is right of it there
pub record IsDecided (a : Arena) (c : Condition) (limits : Limits) (d : Decided) : Type 0 where
  pub claim : IsSameClaim a c d.terms d.condition
  pub shapes : d.terms.shapes ≡ a.shapes
  pub decls : d.terms.decls ≡ a.decls
  pub terms_in : VerdictIn d.terms d.verdict
  pub right : IsRight d.terms (question d.terms d.condition) limits (verdict_in d.terms d.verdict)

-- the same where facts of schemas are at hand: the verdict is right of the condition and what is refuted with it
pub record IsDecidedWith (a : Arena) (c : Condition) (limits : Limits) (d : Decided) : Type 0 where
  pub claim : IsSameClaim a c d.terms d.condition
  pub shapes : d.terms.shapes ≡ a.shapes
  pub decls : d.terms.decls ≡ a.decls
  pub terms_in : VerdictIn d.terms d.verdict
  pub right : IsRightWith d.terms (question d.terms d.condition) limits (verdict_in d.terms d.verdict)
