-- What was told on a path, as facts in order and in a graph.
use Rattle.std.specs.Prelude.{◌≡◌, ◌⊎◌, ℕ, ◌≤◌, Bool, true, false, ◌&&◌, not, List, [], ◌∷◌, ◌++◌, take, length, nat_eq, Option, Some, None, slice_get, if◌then◌else◌}
use Rattle.spv_logic.specs.declared.conditions.TermId.{TermId}
use Rattle.spv_logic.specs.declared.operators.Head.TheVariants as head
use Rattle.spv_logic.specs.Terms.{term, no_terms}
use Rattle.spv_logic.specs.Formulas.{negation, equation}
use Rattle.spv_term.specs.declared.nodes.Node.{Node}
use Rattle.spv_term.specs.Arena.{Arena, tree}
use Rattle.spv_congruence.specs.declared.facts.Fact.{Fact}
use Rattle.spv_congruence.specs.Clashes.{Clashes}
use Rattle.spv_congruence.specs.Graph.{Graph}
use Rattle.spv_congruence.specs.Keep.{IsNode}
use Rattle.spv_congruence.specs.Told.{IsOf, IsPart}
use Rattle.spv_derivations.specs.declared.derivation.entries.Entry.{Entry}
use Rattle.spv_derivations.specs.derivation.Derivation.{IsDerivation, PartFits, fact_at}
use Rattle.spv_derivations.specs.declared.derivation.entries.Part.{Part}
use Rattle.spv_derivations.specs.declared.derivation.entries.Part.TheVariants.{Below, Above}
use Rattle.spv_derivations.specs.derivation.Derived.{IsFormula, IsTrueTerm, IsFalseTerm}
use Rattle.spv_derivations.specs.derivation.Sides.{sides_at}
use Rattle.spv_explanations.specs.declared.congruence_side.trail.Trail.{Trail}

-- a derivation goes on
pub record Moves (a : Arena) (old new : List Entry) : Type 0 where
  pub more : List Entry
  pub is : new ≡ old ++ more
  pub derivation : IsDerivation a new

-- a formula that by the fact of a number equals FALSE
pub record Denies (a : Arena) (es : List Entry) (t : TermId) (k : ℕ) : Type 0 where
  pub formula : IsFormula a t
  pub fact : fact_at a es k ≡ Some (equation (tree a t) (term head.False no_terms))

-- a fact of the graph is one of the derivation: an equality by the form of its entry; or a fact denies that two terms are equal
pub record IsBackedFact (a : Arena) (es : List Entry) (x : Fact) : Type 0 where
  pub equal : x.equal ≡ true → sides_at a es x.why ≡ Some (x.left, x.right)
  pub apart : x.equal ≡ false → fact_at a es x.why ≡ Some (negation (equation (tree a x.left) (tree a x.right)))

pub record Backs (a : Arena) (es : List Entry) (told : List Fact) : Type 0 where
  pub each : (place : ℕ) (x : Fact) → slice_get told place ≡ Some x → IsBackedFact a es x

-- the terms of facts were added
pub record HasFacts (nodes : List (Option Node)) (told : List Fact) : Type 0 where
  pub each : (place : ℕ) (x : Fact) → slice_get told place ≡ Some x → IsNode nodes x.left × IsNode nodes x.right

-- what is true of a trail over an arena
pub record Holds (a : Arena) (tr : Trail) : Type 0 where
  pub of : IsOf a tr.graph
  pub derivation : IsDerivation a tr.derivation
  -- the facts of the graph are kept beside it
  pub kept : tr.facts.items ≡ tr.graph.told
  pub backs : Backs a tr.derivation tr.graph.told
  pub ends : HasFacts tr.graph.nodes tr.graph.told
  pub truth : IsTrueTerm a tr.truth
  pub falsity : IsFalseTerm a tr.falsity
  pub truth_node : IsNode tr.graph.nodes tr.truth
  pub falsity_node : IsNode tr.graph.nodes tr.falsity

-- a trail goes on: entries and facts come behind the others, and the terms are the same
pub record Grows (old new : Trail) : Type 0 where
  pub entries : List Entry
  pub derivation : new.derivation ≡ old.derivation ++ entries
  pub facts : List Fact
  pub told : new.graph.told ≡ old.graph.told ++ facts
  pub nodes : (t : TermId) → IsNode old.graph.nodes t → IsNode new.graph.nodes t
  pub same_nodes : new.graph.nodes ≡ old.graph.nodes
  pub same_terms : new.graph.added ≡ old.graph.added
  pub truth : new.truth ≡ old.truth
  pub falsity : new.falsity ≡ old.falsity

-- parts of a term were added, and nothing else
pub record AddsTerm (a : Arena) (t : TermId) (old new : Trail) : Type 0 where
  pub nodes : (u : TermId) → IsNode old.graph.nodes u → IsNode new.graph.nodes u
  pub parts : (u : TermId) → IsNode new.graph.nodes u → IsNode old.graph.nodes u ⊎ IsPart a t u
  pub derivation : new.derivation ≡ old.derivation
  pub told : new.graph.told ≡ old.graph.told
  pub truth : new.truth ≡ old.truth
  pub falsity : new.falsity ≡ old.falsity

-- ---- literals

-- a literal of a formula may be told
pub record MayTell (a : Arena) (tr : Trail) (t : TermId) (part : Part) : Type 0 where
  pub formula : IsFormula a t
  pub part_fits : PartFits a t part
  pub node : IsNode tr.graph.nodes t

-- one side is put below the other
abbrev pub IsOrder : Part → Type 0
IsOrder Below = Unit {0}
IsOrder Above = Unit {0}
IsOrder _ = ⊥

-- ---- going back

-- how far a trail was: so many entries and facts, of which the facts are backed by the entries
pub record WasSoFar (a : Arena) (tr : Trail) (entries facts : ℕ) : Type 0 where
  pub entries_in : entries ≤ length tr.derivation
  pub facts_in : facts ≤ length tr.graph.told
  pub backs : Backs a (take entries tr.derivation) (take facts tr.graph.told)

-- ---- clashes

-- no two terms are the same that may not be
abbrev pub HasNoClash : Graph → Type 0
HasNoClash g = (s t : TermId) → Clashes g s t → ⊥

-- whether a fact separates two terms
abbrev pub denies : TermId → TermId → Fact → Bool
denies s t x = not x.equal && (nat_eq x.left.0 s.0 && nat_eq x.right.0 t.0)

-- the reason of the first fact that separates two terms
abbrev pub denial : List Fact → TermId → TermId → Option ℕ
denial [] s t = None
denial (x ∷ xs) s t = if denies s t x then Some x.why else denial xs s t
