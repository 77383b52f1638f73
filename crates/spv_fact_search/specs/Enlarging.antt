-- A condition with all that is refuted with it, over an arena.
use Rattle.std.specs.Prelude.{◌≡◌, ℕ, true, ◌<◌, List, length}
use Rattle.spv_logic.specs.Terms.{Term}
use Rattle.spv_term.specs.declared.nodes.Condition.{Condition}
use Rattle.spv_term.specs.Arena.{Arena, AllBelow, sequent, trees_of}
use Rattle.spv_proof_rules.specs.Effects.{Question}
use Rattle.spv_proof_rules.specs.Stand.{question}
use Rattle.spv_models.specs.leaf_models.Subterms.{arguments, is_among}
use Rattle.spv_verdicts.specs.Verdicts.{most_terms, search_terms}
use Rattle.spv_verdicts.specs.Schemas.{counted_terms, enlarged}

-- a condition of another arena claims that all that is refuted with a condition is never true together
pub record IsEnlarged (a : Arena) (c : Condition) (b : Arena) (d : Condition) : Type 0 where
  pub given_in : AllBelow (length b.nodes) d.given
  pub goal_in : d.goal.0 < length b.nodes
  pub claim : sequent b d ≡ (enlarged (question a c)).sequent
  pub origin : d.origin ≡ c.origin
  pub shapes : b.shapes ≡ a.shapes
  pub decls : b.decls ≡ a.decls

-- ---- how many terms there are

-- each of these terms is among the others
abbrev pub AreAmong : List Term → List Term → Type 0
AreAmong all ts = (t : Term) → is_among ts t ≡ true → is_among all t ≡ true

-- so are the arguments of each of them
abbrev pub HaveArguments : List Term → Type 0
HaveArguments all = (t u : Term) → is_among all t ≡ true → is_among (arguments t) u ≡ true → is_among all u ≡ true

-- what an arena gained are parts of these formulas: it is among all terms that have what it had, the formulas and the arguments of each
abbrev pub GainsParts : Arena → List Term → Arena → Type 0
GainsParts old fs new = (all : List Term) → HaveArguments all → AreAmong all (trees_of old.nodes) → AreAmong all fs → AreAmong all (trees_of new.nodes)

-- where a search that refutes all together has more terms than so many, more of them count than may
abbrev pub IsEnough : Question → ℕ → Type 0
IsEnough q n = n < length (search_terms (enlarged q)) → most_terms < length (counted_terms q)
