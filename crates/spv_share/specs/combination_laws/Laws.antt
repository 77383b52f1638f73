-- What is true of a graph and a tableau that agree.
use Rattle.std.specs.Prelude.{◌≡◌, true, ℕ, List}
use Rattle.spv_logic.specs.declared.conditions.TermId.{TermId}
use Rattle.spv_logic.specs.Terms.{Term}
use Rattle.spv_term.specs.Arena.{Arena, IsArena, Extends, tree}
use Rattle.spv_tableau_rules.specs.tableaux.Rows.{Point, IsSolution}
use Rattle.spv_tableau_rules.specs.tableaux.Bounds.{limits, Meets}
use Rattle.spv_tableau_rules.specs.declared.constraints.saying.RowConstraint.{RowConstraint}
use Rattle.spv_tableau_rules.specs.constraints.Values.{part_value}
use Rattle.spv_arithmetic_side.specs.constraint_rows.Forcing.{HasPoint}
use Rattle.spv_congruence.specs.Graph.{are_same, label_of}
use Rattle.spv_congruence.specs.Keep.{IsNode}
use Rattle.spv_derivations.specs.derivation.Derived.{is_number}
use Rattle.spv_simplex.specs.State.{kept_point, rows_in}
use Rattle.spv_models.specs.leaf_models.Leaves.{worth_at}
use Rattle.spv_models.specs.leaf_models.Labels.{AreExact, HasId, same_labels}
use Rattle.spv_models.specs.leaf_models.Subterms.{is_among}
use Rattle.spv_share.specs.declared.both.Both.{Both}
use Rattle.spv_share.specs.declared.both.Level.{Level}
use Rattle.spv_share.specs.Both.{IsBoth, IsLevel}
use Rattle.spv_share.specs.combination_laws.Pairs.{told_by}

-- terms of sort Int that the graph joins have one value at each point that meets the bounds that stand
abbrev pub HaveOneValue : Arena → Both → Type 0
HaveOneValue a b = (v : Point) → IsSolution (rows_in b.standing.tableau) v → Meets (limits (rows_in b.standing.tableau) b.standing.tableau.bounds) v
    → (s t : TermId) → IsNode b.trail.graph.nodes s → IsNode b.trail.graph.nodes t → is_number a (tree a s) ≡ true → are_same b.trail.graph s t ≡ true
    → worth_at (part_value a b.standing.tableau.forms v) (tree a s) ≡ worth_at (part_value a b.standing.tableau.forms v) (tree a t)

-- so have they at the points that keep the sides of an equality apart
abbrev pub HaveOneValueApart : Arena → Both → Type 0
HaveOneValueApart a b = (row : ℕ) (x : RowConstraint) (p : HasPoint b.standing row x) (s t : TermId) → IsNode b.trail.graph.nodes s → IsNode b.trail.graph.nodes t → is_number a (tree a s) ≡ true → are_same b.trail.graph s t ≡ true
    → worth_at (part_value a b.standing.tableau.forms p.point) (tree a s) ≡ worth_at (part_value a b.standing.tableau.forms p.point) (tree a t)

-- so have trees of equal labels at the kept point
abbrev pub SameHaveOneValue : Arena → Both → Type 0
SameHaveOneValue a b = (subterms : List Term) → ((t : Term) → is_among subterms t ≡ true → HasId a b.trail.graph.added t)
    → (s t : Term) → is_among subterms s ≡ true → is_among subterms t ≡ true → is_number a s ≡ true → is_number a t ≡ true → same_labels a (label_of b.trail.graph.joins) b.trail.graph.added s t ≡ true
    → worth_at (part_value a b.standing.tableau.forms (kept_point b.standing.tableau)) s ≡ worth_at (part_value a b.standing.tableau.forms (kept_point b.standing.tableau)) t

-- the labels of added terms are equal exactly where there is a derivation from what was told
abbrev pub LabelsAreExact : Arena → Both → Type 0
LabelsAreExact a b = AreExact a b.trail.graph.added (λ s t. told_by b.trail.graph.told s t ≡ true) (label_of b.trail.graph.joins)

-- both sides, and levels of them, stay what they are as the arena grows
abbrev pub BothStay : Type 0
BothStay = (old new : Arena) → IsArena old → Extends old new → (b : Both) → IsBoth old b → IsBoth new b

abbrev pub LevelsStay : Type 0
LevelsStay = (old new : Arena) → IsArena old → Extends old new → (b : Both) → IsBoth old b → (l : Level) → IsLevel old b l → IsLevel new b l
