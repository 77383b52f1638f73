-- What a reason for an equality of a graph stands on.
use Rattle.std.specs.Prelude.{◌≡◌, ℕ, true, List, ◌++◌, Option, Some, None, slice_get}
use Rattle.spv_logic.specs.declared.conditions.TermId.{TermId}
use Rattle.spv_logic.specs.Formulas.{negation, equation}
use Rattle.spv_term.specs.declared.nodes.Node.{Node}
use Rattle.spv_term.specs.Arena.{Arena, tree}
use Rattle.spv_congruence.specs.declared.facts.Fact.{Fact}
use Rattle.spv_congruence.specs.Graph.{Graph, AreTerms, label_of}
use Rattle.spv_congruence.specs.Keep.{IsNode}
use Rattle.spv_congruence.specs.Told.{IsOf}
use Rattle.spv_congruence.specs.Clashes.{AreOpposed, opposed}
use Rattle.spv_derivations.specs.declared.derivation.entries.Entry.{Entry}
use Rattle.spv_derivations.specs.derivation.Derivation.{IsDerivation, fact_at}
use Rattle.spv_derivations.specs.derivation.Sides.{sides_at}
use Rattle.spv_derivations.specs.derivation.Steps.{IsEnd}

-- each equality that was told to the graph is, by the form of its entry, the fact of its number
pub record IsBacked (a : Arena) (g : Graph) (es : List Entry) : Type 0 where
  pub each : (place : ℕ) (x : Fact) → slice_get g.told place ≡ Some x → x.equal ≡ true → sides_at a es x.why ≡ Some (x.left, x.right)

-- a graph of the terms of an arena, and a derivation that backs what it was told
pub record MayReason (a : Arena) (g : Graph) (es : List Entry) : Type 0 where
  pub of : IsOf a g
  pub terms : AreTerms g.nodes g.added
  pub derivation : IsDerivation a es
  pub backed : IsBacked a g es

-- two terms of the graph that are the same
pub record AreSame (g : Graph) (s t : TermId) : Type 0 where
  pub left : IsNode g.nodes s
  pub right : IsNode g.nodes t
  pub same : label_of g.joins s ≡ label_of g.joins t

-- the fact of a number is that two terms are equal
abbrev pub Equates : Arena → List Entry → ℕ → TermId → TermId → Type 0
Equates a es n s t = fact_at a es n ≡ Some (equation (tree a s) (tree a t))

-- why two terms may not be the same: the fact of a number denies it, or they are two numerals, or TRUE and FALSE
abbrev pub MayNotBeSame : Arena → Graph → List Entry → TermId → TermId → Option ℕ → Type 0
MayNotBeSame a g es s t (Some k) = fact_at a es k ≡ Some (negation (equation (tree a s) (tree a t)))
MayNotBeSame a g es s t None = AreOpposed g s t

-- the nodes of two terms are two numerals, or TRUE and FALSE
pub record AreOpposites (a : Arena) (s t : TermId) : Type 0 where
  pub left : Node
  pub right : Node
  pub left_is : slice_get a.nodes s.0 ≡ Some left
  pub right_is : slice_get a.nodes t.0 ≡ Some right
  pub opposed_are : opposed left.head right.head ≡ true

-- entries come behind others
pub record GoesOn (old new : List Entry) : Type 0 where
  pub more : List Entry
  pub is : new ≡ old ++ more

-- a derivation goes on, and one or two of its facts end the path
pub record Closes (a : Arena) (old new : List Entry) (first : ℕ) (second : Option ℕ) : Type 0 where
  pub goes_on : GoesOn old new
  pub derivation : IsDerivation a new
  pub ends : IsEnd a new first second
