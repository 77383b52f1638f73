-- A filled path: each question has a truth, and each equation of whole numbers that is false has an order.
use Rattle.std.specs.Prelude.{◌≡◌, ◌⊎◌, Bool, true, false, List, Option, Some, None, is_some, if◌then◌else◌}
use Rattle.spv_logic.specs.Terms.{Term}
use Rattle.spv_logic.specs.Formulas.{equation, below}
use Rattle.spv_proof_rules.specs.Effects.{Question, is_number}
use Rattle.spv_tableau_rules.specs.constraints.Sayings.{literal}
use Rattle.spv_models.specs.leaf_models.Subterms.{is_among}
use Rattle.spv_models.specs.leaf_models.Leaves.{Leaf}
use Rattle.spv_models.specs.split_trees.Paths.{atoms, questions, Known}
use Rattle.spv_models.specs.split_trees.Shown.{ShowsLive}

-- truths that are known on a path, where each question has one and nothing else
pub record IsFilled (q : Question) (fs : List Term) (given : Term → Option Bool) : Type 0 where
  pub known : (t : Term) (b : Bool) → given t ≡ Some b → Known q fs (literal b t)
  pub asked : (t : Term) (b : Bool) → given t ≡ Some b → is_among (questions q) t ≡ true
  pub full : (t : Term) → is_among (questions q) t ≡ true → is_some (given t) ≡ true
  pub ordered : (s t : Term) → is_among (atoms q) (equation s t) ≡ true → given (equation s t) ≡ Some false → is_number q s ≡ true → Known q fs (below s t) ⊎ Known q fs (below t s)

-- the values of questions, and none of any other term
abbrev pub on_questions : Question → (Term → Option Bool) → Term → Option Bool
on_questions q value t = if is_among (questions q) t then value t else None

-- what is known at the end of a path that is shown live: with the point that is shown
abbrev pub shown_leaf : (q : Question) (fs : List Term) (same : Term → Term → Bool) → ShowsLive q fs same → (Term → Option Bool) → Leaf
shown_leaf q fs same shows given = record { given = given; same = same; point = shows.point }
