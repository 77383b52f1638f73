-- Equations along the links of an explanation, and what is still to be shown.
use Rattle.std.specs.Prelude.{◌≡◌, ℕ, List, [], ◌∷◌, length, Option, Some, None, slice_get, ◌⊎◌}
use Rattle.spv_logic.specs.declared.conditions.TermId.{TermId}
use Rattle.spv_term.specs.declared.nodes.Node.{Node}
use Rattle.spv_term.specs.Arena.{Arena}
use Rattle.spv_congruence.specs.declared.facts.Link.{Link}
use Rattle.spv_congruence.specs.declared.facts.Link.TheVariants.{Told, Congruent}
use Rattle.spv_congruence.specs.Graph.{Graph, AreCongruent}
use Rattle.spv_derivations.specs.declared.derivation.entries.Entry.{Entry}
use Rattle.spv_derivations.specs.derivation.Derivation.{IsDerivation}
use Rattle.spv_derivations.specs.derivation.Sides.{sides_at}
use Rattle.spv_explanations.specs.declared.equalities.known.Pair.{Pair}
use Rattle.spv_explanations.specs.declared.equalities.links.Way.{Way}
use Rattle.spv_explanations.specs.declared.equalities.works.Work.{Work}
use Rattle.spv_explanations.specs.declared.equalities.works.Work.TheVariants as work
use Rattle.spv_explanations.specs.equalities.Reasons.{AreSame, Equates, GoesOn, MayReason}
use Rattle.spv_explanations.specs.equalities.Known.{AreShown, HasNumber}

-- ---- ways

-- the sides of an equation are these two terms, the one way round or the other
abbrev pub AreEnds : Option (TermId × TermId) → TermId → TermId → Type 0
AreEnds None s t = ⊥
AreEnds (Some p) s t = ((p.0 ≡ s) × (p.1 ≡ t)) ⊎ ((p.0 ≡ t) × (p.1 ≡ s))

-- a link leads from one term to another one: by an equation that its entry states, or by one that is known
abbrev pub LeadsBy : Arena → List Entry → List (Pair × ℕ) → Link → TermId → TermId → Type 0
LeadsBy a es known (Told why) s t = AreEnds (sides_at a es why) s t
LeadsBy a es known (Congruent p q) s t = (p ≡ s) × (q ≡ t) × HasNumber known p q

-- links lead from one term to another one
abbrev pub IsWay : Arena → List Entry → List (Pair × ℕ) → TermId → List Link → TermId → Type 0
IsWay a es known s [] t = s ≡ t
IsWay a es known s (l ∷ ls) t = (u : TermId) × LeadsBy a es known l s u × IsWay a es known u ls t

-- where the number is that of a fact, it equates two terms; without a number they are one term
abbrev pub IsSoFar : Arena → List Entry → TermId → TermId → Option ℕ → Type 0
IsSoFar a es s t None = s ≡ t
IsSoFar a es s t (Some n) = Equates a es n s t

-- a way leads to this term, and by a fact from the first term
pub record Reaches (a : Arena) (old new : List Entry) (s t : TermId) (w : Way) : Type 0 where
  pub goes_on : GoesOn old new
  pub derivation : IsDerivation a new
  pub at : w.at ≡ t
  pub so_far : IsSoFar a new s t w.number

-- ---- what is known of links

-- the pair of a link of congruent terms has a number
abbrev pub LinkKnown : List (Pair × ℕ) → Link → Type 0
LinkKnown known (Told why) = Unit {0}
LinkKnown known (Congruent p q) = HasNumber known p q

abbrev pub AllKnown : List (Pair × ℕ) → List Link → Type 0
AllKnown known [] = Unit {0}
AllKnown known (l ∷ ls) = LinkKnown known l × AllKnown known ls

-- a link of these two congruent terms is among these
abbrev pub HasLink : List Link → TermId → TermId → Type 0
HasLink ls p q = (i : ℕ) × (slice_get ls i ≡ Some (Congruent p q))

-- two terms of the arena of one head, with as many arguments
pub record AreAlike (a : Arena) (p q : TermId) : Type 0 where
  pub left : Node
  pub right : Node
  pub left_is : slice_get a.nodes p.0 ≡ Some left
  pub right_is : slice_get a.nodes q.0 ≡ Some right
  pub heads : left.head ≡ right.head
  pub many : length left.args ≡ length right.args

-- ---- works

-- what is still to be shown: that two terms are equal, which are the same, or of which the arguments are
abbrev pub IsOwed : Graph → Work → Type 0
IsOwed g (work.Between s t) = AreSame g s t
IsOwed g (work.Congruent p q) = AreCongruent g.nodes g.joins p q

abbrev pub AreOwed : Graph → List Work → Type 0
AreOwed g [] = Unit {0}
AreOwed g (w ∷ ws) = IsOwed g w × AreOwed g ws

-- what stands while a reason is looked for
pub record Stands (a : Arena) (g : Graph) (es : List Entry) (known : List (Pair × ℕ)) (works : List Work) : Type 0 where
  pub reasons : MayReason a g es
  pub shown : AreShown a es known
  pub owed : AreOwed g works
