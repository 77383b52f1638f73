-- A full path: each question has a truth, and each equation of whole numbers that is false has an order.
use Rattle.std.specs.Prelude.{◌≡◌, ◌⊎◌, Bool, true, false, List, Option, Some, is_some}
use Rattle.spv_logic.specs.Terms.{Term}
use Rattle.spv_logic.specs.Formulas.{equation, below}
use Rattle.spv_proof_rules.specs.Effects.{Question, is_number}
use Rattle.spv_tableau_rules.specs.constraints.Sayings.{literal}
use Rattle.spv_models.specs.leaf_models.Subterms.{is_among}
use Rattle.spv_models.specs.leaf_models.Leaves.{Leaf}
use Rattle.spv_models.specs.split_trees.Paths.{atoms, questions, Known, Linked, IsLive}

-- truths that are known on a path, where each question has one and nothing else, and which terms are joined
pub record IsFull (q : Question) (fs : List Term) (given : Term → Option Bool) (same : Term → Term → Bool) : Type 0 where
  pub known : (t : Term) (b : Bool) → given t ≡ Some b → Known q fs (literal b t)
  pub asked : (t : Term) (b : Bool) → given t ≡ Some b → is_among (questions q) t ≡ true
  pub full : (t : Term) → is_among (questions q) t ≡ true → is_some (given t) ≡ true
  pub ordered : (s t : Term) → is_among (atoms q) (equation s t) ≡ true → given (equation s t) ≡ Some false → is_number q s ≡ true → Known q fs (below s t) ⊎ Known q fs (below t s)
  pub derived : (s t : Term) → same s t ≡ true → Linked q fs s t
  pub found : (s t : Term) → Linked q fs s t → same s t ≡ true

-- what is known at the end of such a path that is live: with the point that it has
abbrev pub leaf_of : (q : Question) (fs : List Term) → IsLive q fs → (Term → Option Bool) → (Term → Term → Bool) → Leaf
leaf_of q fs live given same = record { given = given; same = same; point = live.point }
