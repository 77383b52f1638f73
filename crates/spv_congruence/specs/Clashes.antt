-- Terms that are the same and cannot be.
use Rattle.std.specs.Prelude.{◌≡◌, ℕ, Bool, true, false, not, slice_get, Some, ◌⊎◌, IsTrue}
use Rattle.std.specs.Ordering.{int_eq}
use Rattle.spv_logic.specs.declared.conditions.TermId.{TermId}
use Rattle.spv_logic.specs.declared.operators.Head.{Head}
use Rattle.spv_logic.specs.declared.operators.Head.TheVariants.{Num, True, False}
use Rattle.spv_term.specs.declared.nodes.Node.{Node}
use Rattle.spv_congruence.specs.declared.facts.Fact.{Fact}
use Rattle.spv_congruence.specs.Graph.{Graph, HasNode, are_same}

-- whether two heads are two numerals, or TRUE and FALSE
abbrev pub opposed : Head → Head → Bool
opposed (Num x) (Num y) = not (int_eq x y)
opposed True False = true
opposed False True = true
opposed _ _ = false

-- two terms were told to be separate
pub record AreSeparate (g : Graph) (s t : TermId) : Type 0 where
  pub place : ℕ
  pub fact : Fact
  pub there : slice_get g.told place ≡ Some fact
  pub separate : fact.equal ≡ false
  pub left : fact.left ≡ s
  pub right : fact.right ≡ t

pub record AreOpposed (g : Graph) (s t : TermId) : Type 0 where
  pub left : Node
  pub right : Node
  pub left_is : HasNode g.nodes s left
  pub right_is : HasNode g.nodes t right
  pub opposed_are : opposed left.head right.head ≡ true

pub record Clashes (g : Graph) (s t : TermId) : Type 0 where
  pub same : IsTrue (are_same g s t)
  pub why : AreSeparate g s t ⊎ AreOpposed g s t
