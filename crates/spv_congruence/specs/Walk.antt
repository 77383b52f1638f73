-- Going down to terms that were not added.
use Rattle.std.specs.Prelude.{◌≡◌, ℕ, ◌+◌, ◌<◌, Bool, true, false, not, List, [], ◌∷◌, ◌++◌, slice_get, Option, Some, None, ◌⊎◌}
use Rattle.spv_logic.specs.declared.conditions.TermId.{TermId}
use Rattle.spv_term.specs.declared.nodes.Node.{Node}
use Rattle.spv_term.specs.Arena.{Arena}
use Rattle.spv_union_find.specs.classes.Classes.{count_of}
use Rattle.spv_congruence.specs.Keep.{Kept, graph, Adds, IsMissing}
use Rattle.spv_congruence.specs.Told.{IsPart}

abbrev pub known : Option (Option Node) → Bool
known None = false
known (Some None) = false
known (Some (Some n)) = true

-- terms that were not added, each a part of the first one and below the one before it
abbrev pub IsPath : Arena → TermId → List (Option Node) → ℕ → List TermId → Type 0
IsPath a t nodes bound [] = Unit {0}
IsPath a t nodes bound (x ∷ xs) = (x.0 < bound) × IsMissing nodes x × IsPart a t x × IsPath a t nodes x.0 xs

-- a term of a list that was not added, by its place
pub record IsMissingAt (nodes : List (Option Node)) (args : List TermId) (place : ℕ) : Type 0 where
  pub term : TermId
  pub there : slice_get args place ≡ Some term
  pub missing : IsMissing nodes term

-- a path goes on to an argument of its last term
pub record GoesDown (a : Arena) (nodes : List (Option Node)) (old : List TermId) (x : TermId) (new : List TermId) : Type 0 where
  pub to : TermId
  pub node : Node
  pub is : slice_get a.nodes x.0 ≡ Some node
  pub place : ℕ
  pub there : slice_get node.args place ≡ Some to
  pub missing : IsMissing nodes to
  pub path : new ≡ old ++ x ∷ to ∷ []

-- or its last term is added
pub record IsDone (a : Arena) (old new : Kept) (path : List TermId) (x : TermId) (rest : List TermId) : Type 0 where
  pub node : Node
  pub is : slice_get a.nodes x.0 ≡ Some node
  pub adds : Adds (graph old) (graph new) x node
  pub path_is : rest ≡ path

abbrev pub Steps : Arena → Kept → Kept → List TermId → TermId → List TermId → Type 0
Steps a old new path x rest = ((new ≡ old) × GoesDown a old.nodes path x rest) ⊎ IsDone a old new path x rest

-- how many terms were not added
abbrev pub missing_in : List (Option Node) → ℕ → ℕ
missing_in nodes count = count_of (λ x. not (known (slice_get nodes x))) count

-- the id of the last term of a path, and one
abbrev pub last_of : List TermId → ℕ
last_of [] = 0
last_of (x ∷ []) = x.0 + 1
last_of (x ∷ y ∷ xs) = last_of (y ∷ xs)
