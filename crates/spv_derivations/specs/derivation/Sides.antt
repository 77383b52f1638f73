-- Entries that state an equation by their own form, and its sides.
use Rattle.std.specs.Prelude.{ℕ, zero, suc, List, [], ◌∷◌, Option, Some, None, slice_get}
use Rattle.spv_logic.specs.declared.conditions.TermId.{TermId}
use Rattle.spv_logic.specs.declared.operators.Head.{Head}
use Rattle.spv_logic.specs.declared.operators.Head.TheVariants.{Eq}
use Rattle.spv_term.specs.declared.nodes.Node.{Node}
use Rattle.spv_term.specs.Arena.{Arena}
use Rattle.spv_atoms.specs.declared.proofs.Relation.TheVariants.{Equal}
use Rattle.spv_atoms.specs.declared.proofs.Stated.TheVariants.{Same}
use Rattle.spv_atoms.specs.declared.proofs.Step.{Step}
use Rattle.spv_atoms.specs.declared.proofs.Step.TheVariants as step
use Rattle.spv_derivations.specs.declared.derivation.entries.Part.TheVariants.{True}
use Rattle.spv_derivations.specs.declared.derivation.entries.Entry.{Entry}
use Rattle.spv_derivations.specs.declared.derivation.entries.Entry.TheVariants.{Told, Derived}

abbrev pub Pair : Type 0
Pair = TermId × TermId

abbrev pub two_of : List TermId → Option Pair
two_of (s ∷ t ∷ []) = Some (s, t)
two_of _ = None

abbrev pub sides_under : Head → List TermId → Option Pair
sides_under Eq ts = two_of ts
sides_under _ ts = None

-- the sides of a node that is an equation
abbrev pub node_sides : Option Node → Option Pair
node_sides None = None
node_sides (Some n) = sides_under n.head n.args

-- the sides of the equation that a step states: that a term equals itself, a congruence, an equality by sums, or one of truth values
abbrev pub step_sides : Step → Option Pair
step_sides (step.Refl t) = Some (t, t)
step_sides (step.Cong t u ks) = Some (t, u)
step_sides (step.Linear (Equal s t) first second) = Some (s, t)
step_sides (step.Eval (Same s t) ks) = Some (s, t)
step_sides _ = None

abbrev pub entry_sides : Arena → Entry → Option Pair
entry_sides a (Told t True why) = node_sides (slice_get a.nodes t.0)
entry_sides a (Derived s) = step_sides s
entry_sides a _ = None

abbrev pub entry_at : List Entry → ℕ → Option Entry
entry_at es zero = None
entry_at es (suc k) = slice_get es k

abbrev pub sides_of_entry : Arena → Option Entry → Option Pair
sides_of_entry a None = None
sides_of_entry a (Some e) = entry_sides a e

-- the sides of the equation that the entry of a number states
abbrev pub sides_at : Arena → List Entry → ℕ → Option Pair
sides_at a es n = sides_of_entry a (entry_at es n)
