-- Truth values of terms of an arena, where those of some are known.
use Rattle.std.specs.Prelude.{◌≡◌, ◌<◌, Bool, true, List, [], ◌∷◌, map, length, take, Option, Some, None, slice_get, if◌then◌else◌}
use Rattle.std.specs.List.{list_any}
use Rattle.spv_logic.specs.declared.conditions.TermId.{TermId}
use Rattle.spv_logic.specs.declared.operators.Head.{Head}
use Rattle.spv_logic.specs.Terms.{Term}
use Rattle.spv_term.specs.declared.nodes.Node.{Node}
use Rattle.spv_term.specs.Arena.{Arena, tree, trees}
use Rattle.spv_atoms.specs.Tables.{all_truths, computed, or_else, truth}
use Rattle.spv_atoms.specs.Atoms.{is_truth, connects, is_connective}
use Rattle.spv_atoms.specs.Order.{same_id}

-- terms with their known values
abbrev pub pairs : Arena → List (TermId × Bool) → List (Term × Bool)
pairs a known = map (λ k. (tree a k.0, k.1)) known

-- each is in the arena
abbrev pub KnownIn : Arena → List (TermId × Bool) → Type 0
KnownIn a [] = Unit {0}
KnownIn a (k ∷ known) = (k.0.0 < length a.nodes) × KnownIn a known

-- the value of a term: the given one, else the computed one
abbrev pub valued_in : Arena → (Term → Option Bool) → TermId → Option Bool
valued_in a given t = or_else (given (tree a t)) (computed (is_truth a.shapes a.decls) given (tree a t))

-- the truth of a term, where these values are known
abbrev pub truth_in : Arena → List (TermId × Bool) → TermId → Option Bool
truth_in a known t = truth (is_truth a.shapes a.decls) (pairs a known) (tree a t)

-- what is given to each of these terms, one after the other
abbrev pub AreGiven : Arena → (Term → Option Bool) → List TermId → List (Option Bool) → Type 0
AreGiven a given ids own = own ≡ map (λ t. given (tree a t)) ids

-- the value beside a term, of ids with a value each
abbrev pub value_at : List TermId → List (Option Bool) → TermId → Option Bool
value_at [] found t = None
value_at (u ∷ ids) [] t = None
value_at (u ∷ ids) (v ∷ found) t = if same_id t u then v else value_at ids found t

-- the first ids have their values beside them
abbrev pub AreValued : Arena → (Term → Option Bool) → List TermId → List (Option Bool) → Type 0
AreValued a given ids found = (t : TermId) → list_any (same_id t) (take (length found) ids) ≡ true → value_at ids found t ≡ valued_in a given t

-- each is among these ids
abbrev pub AllAmong : List TermId → List TermId → Type 0
AllAmong ids [] = Unit {0}
AllAmong ids (t ∷ ts) = (list_any (same_id t) ids ≡ true) × AllAmong ids ts

-- each is among the ids with values
abbrev pub AllValued : List TermId → List (Option Bool) → List TermId → Type 0
AllValued ids found [] = Unit {0}
AllValued ids found (t ∷ ts) = (list_any (same_id t) (take (length found) ids) ≡ true) × AllValued ids found ts

-- the value of the first of these terms, and that of the second
abbrev pub first_at : List TermId → List (Option Bool) → List TermId → Option Bool
first_at ids found [] = None
first_at ids found (t ∷ ts) = value_at ids found t

abbrev pub second_at : List TermId → List (Option Bool) → List TermId → Option Bool
second_at ids found [] = None
second_at ids found (t ∷ ts) = first_at ids found ts

-- the arguments of a head, where it is a connective, are valued
abbrev pub AreInside : Arena → List TermId → List (Option Bool) → Head → List TermId → Type 0
AreInside a ids found h args = connects (all_truths (is_truth a.shapes a.decls) (trees a args)) h ≡ true → AllValued ids found args

-- the arguments of a term, where it is a connective, are valued
abbrev pub IsInside : Arena → List TermId → List (Option Bool) → TermId → Type 0
IsInside a ids found t =
    (n : Node) → slice_get a.nodes t.0 ≡ Some n → is_connective (is_truth a.shapes a.decls) (tree a t) ≡ true → AllValued ids found n.args

-- before each of these ids the arguments of its term stand, where it is a connective
abbrev pub IsLayered : Arena → List TermId → Type 0
IsLayered a ids = (found : List (Option Bool)) (t : TermId) → slice_get ids (length found) ≡ Some t → IsInside a ids found t
