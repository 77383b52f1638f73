-- Explanations: links one behind the other from one term to another one.
use Rattle.std.specs.Prelude.{◌≡◌, ◌≢◌, ℕ, suc, ◌+◌, ◌<◌, ◌≤◌, true, List, [], ◌∷◌, ◌++◌, take, length, slice_get, Some, ◌⊎◌, nat_eq, not, zero}
use Rattle.spv_logic.specs.declared.conditions.TermId.{TermId}
use Rattle.spv_union_find.specs.declared.classes.joins.Cause.{Cause}
use Rattle.spv_union_find.specs.declared.classes.joins.Cause.TheVariants as cause
use Rattle.spv_union_find.specs.classes.Classes.{count_of}
use Rattle.spv_congruence.specs.declared.facts.Fact.{Fact}
use Rattle.spv_congruence.specs.declared.facts.Link.{Link}
use Rattle.spv_congruence.specs.declared.facts.Link.TheVariants.{Told, Congruent}
use Rattle.spv_congruence.specs.declared.explaining.Split.{Split}
use Rattle.spv_congruence.specs.declared.explaining.Work.{Work}
use Rattle.spv_congruence.specs.declared.explaining.Work.TheVariants.{Between, Write}
use Rattle.spv_congruence.specs.Graph.{Graph, AreCongruent, label_of}
use Rattle.spv_congruence.specs.Keep.{IsNode}

-- two terms are in one class when there are so many joins
abbrev pub SameAt : Graph → ℕ → TermId → TermId → Type 0
SameAt g k s t = label_of (take k g.joins) s ≡ label_of (take k g.joins) t

-- an equality of two terms was told with this number, the one way round or the other
pub record IsTelling (g : Graph) (why : ℕ) (s t : TermId) : Type 0 where
  pub place : ℕ
  pub fact : Fact
  pub there : slice_get g.told place ≡ Some fact
  pub equal : fact.equal ≡ true
  pub why_is : fact.why ≡ why
  pub sides : ((fact.left ≡ s) × (fact.right ≡ t)) ⊎ ((fact.left ≡ t) × (fact.right ≡ s))

-- two terms are of one head, and their arguments were in one class each before there were so many joins
pub record WereCongruent (g : Graph) (k : ℕ) (s t : TermId) : Type 0 where
  pub before : ℕ
  pub less : before < k
  pub are : AreCongruent g.nodes (take before g.joins) s t

-- a link from one term to another one, by the first so many joins
abbrev pub IsLinkOf : Graph → ℕ → Link → TermId → TermId → Type 0
IsLinkOf g k (Told why) s t = IsTelling g why s t
IsLinkOf g k (Congruent p q) s t = (p ≡ s) × (q ≡ t) × WereCongruent g k s t

-- links lead from one term to another one
abbrev pub Leads : Graph → ℕ → TermId → List Link → TermId → Type 0
Leads g k s [] t = s ≡ t
Leads g k s (l ∷ ls) t = (u : TermId) × IsLinkOf g k l s u × Leads g k u ls t

-- links explain why two terms are the same: within any number of joins after which they are
abbrev pub Explains : Graph → TermId → TermId → List Link → Type 0
Explains g s t ls = (k : ℕ) → k ≤ length g.joins → SameAt g k s t → Leads g k s ls t

-- ---- what is still to be explained

abbrev pub GoesBy : Graph → ℕ → Work → TermId → TermId → Type 0
GoesBy g k (Between x y) s t = (x ≡ s) × (y ≡ t) × SameAt g k x y
GoesBy g k (Write l) s t = IsLinkOf g k l s t

-- works lead from one term to another one, the last of them first
abbrev pub Owes : Graph → ℕ → TermId → List Work → TermId → Type 0
Owes g k s [] t = s ≡ t
Owes g k s (w ∷ ws) t = (u : TermId) × Owes g k s ws u × GoesBy g k w u t

-- for how many numbers of joins two terms are not the same
abbrev pub apart_for : Graph → TermId → TermId → ℕ
apart_for g s t = count_of (λ k. not (nat_eq (label_of (take k g.joins) s) (label_of (take k g.joins) t))) (length g.joins)

abbrev pub cost : ℕ → ℕ
cost zero = 1
cost (suc n) = cost n + cost n + 2

abbrev pub cost_of : Graph → Work → ℕ
cost_of g (Between x y) = cost (apart_for g x y)
cost_of g (Write l) = 1

abbrev pub costs : Graph → List Work → ℕ
costs g [] = 0
costs g (w ∷ ws) = cost_of g w + costs g ws

-- ---- steps

abbrev pub PlaceWithin : Cause → ℕ → Type 0
PlaceWithin (cause.Told place) n = place < n
PlaceWithin cause.Congruent n = Unit {0}

-- the link of a cause, from the one side to the other
abbrev pub IsCauseLink : List Fact → Cause → TermId → TermId → Link → Type 0
IsCauseLink told (cause.Told place) s t l = (x : Fact) × (slice_get told place ≡ Some x) × (l ≡ Told x.why)
IsCauseLink told cause.Congruent s t l = l ≡ Congruent s t

-- the join that brought two terms together
pub record IsSplit (g : Graph) (s t : TermId) (p : Split) : Type 0 where
  pub place : ℕ
  pub within : place < length g.joins
  pub apart : label_of (take place g.joins) s ≢ label_of (take place g.joins) t
  pub same : SameAt g (suc place) s t
  pub first : SameAt g place s p.from
  pub second : SameAt g place p.to t
  pub link : (k : ℕ) → place < k → IsLinkOf g k p.link p.from p.to
  pub from_node : IsNode g.nodes p.from
  pub to_node : IsNode g.nodes p.to

-- a work is done
abbrev pub Done : Graph → Work → List Work → List Link → List Work → List Link → Type 0
Done g (Write l) works links works' links' = (works' ≡ works) × (links' ≡ links ++ l ∷ [])
Done g (Between x y) works links works' links' =
    (links' ≡ links) × (((x ≡ y) × (works' ≡ works)) ⊎ ((p : Split) × IsSplit g x y p × (works' ≡ ((works ++ Between p.to y ∷ []) ++ Write p.link ∷ []) ++ Between x p.from ∷ [])))

-- the terms of works were added, and are the same
abbrev pub IsWork : Graph → Work → Type 0
IsWork g (Between x y) = IsNode g.nodes x × IsNode g.nodes y × (label_of g.joins x ≡ label_of g.joins y)
IsWork g (Write l) = Unit {0}

abbrev pub AreWorks : Graph → List Work → Type 0
AreWorks g [] = Unit {0}
AreWorks g (w ∷ ws) = IsWork g w × AreWorks g ws
