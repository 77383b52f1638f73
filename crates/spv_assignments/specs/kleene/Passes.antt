-- The values of the terms of an arena, in the order of their ids: those of connectives are computed, each from those of its arguments.
use Rattle.std.specs.Prelude.{◌≡◌, ℕ, ◌<◌, Bool, true, false, List, [], ◌∷◌, length, Option, Some, None, slice_get, slice_index_or, if◌then◌else◌}
use Rattle.spv_logic.specs.declared.conditions.TermId.{TermId}
use Rattle.spv_logic.specs.declared.operators.Head.{Head}
use Rattle.spv_logic.specs.declared.operators.Head.TheVariants.{Not, And, Or, Implies, Eq, True, False}
use Rattle.spv_logic.specs.Terms.{Term, term}
use Rattle.spv_term.specs.declared.nodes.Node.{Node}
use Rattle.spv_term.specs.Arena.{Arena, tree}
use Rattle.spv_atoms.specs.Tables.{not_of, and_of, or_of, implied, same_of, or_else, numeral_relation}
use Rattle.spv_atoms.specs.Atoms as atoms
use Rattle.spv_atoms.specs.Order.{same_id}
use Rattle.spv_atoms.specs.Valued.{valued_in}
use Rattle.spv_proof_rules.specs.Evaluation.{opposite, clashes}

-- ---- connectives and other terms

-- whether a term of the arena is a connective
abbrev pub connects : Arena → TermId → Bool
connects a t = atoms.is_connective (atoms.is_truth a.shapes a.decls) (tree a t)

-- the value of a connective of this head, whose first two arguments have the values x and y
abbrev pub connected : Head → Option Bool → Option Bool → Option Bool
connected Not x y = not_of x
connected And x y = and_of x y
connected Or x y = or_of x y
connected Implies x y = implied x y
connected Eq x y = same_of x y
connected _ x y = None

-- the value of a term that is no connective: TRUE and FALSE have theirs, and relations of numerals
abbrev pub plain : Term → Option Bool
plain (term True ts) = Some true
plain (term False ts) = Some false
plain t = numeral_relation t

-- the value that is computed for a term without looking at others
abbrev pub plain_at : Arena → TermId → Option Bool
plain_at a t = if connects a t then None else plain (tree a t)

-- ---- lists of values by ids

-- the value at a place
abbrev pub at : List (Option Bool) → ℕ → Option Bool
at values i = slice_index_or values i None

-- the value that is listed for a term; one of them has another one
abbrev pub given_at : List (Option Bool) → TermId → Bool → TermId → Option Bool
given_at own s v t = if same_id t s then Some v else at own t.0

-- a way to give values gives to each term of an arena what is listed, and to one of them this value
pub record Gives (a : Arena) (own : List (Option Bool)) (s : TermId) (v : Bool) (given : Term → Option Bool) : Type 0 where
  pub each : (t : TermId) → t.0 < length a.nodes → given (tree a t) ≡ given_at own s v t

-- the values that are computed for terms without looking at others
pub record ArePlain (a : Arena) (values : List (Option Bool)) : Type 0 where
  pub count : length values ≡ length a.nodes
  pub each : (t : TermId) → t.0 < length a.nodes → at values t.0 ≡ plain_at a t

-- what is listed for a term, else its plain value
abbrev pub start_value : Arena → List (Option Bool) → TermId → Option Bool
start_value a own t = or_else (at own t.0) (plain_at a t)

pub record AreStarted (a : Arena) (own start : List (Option Bool)) : Type 0 where
  pub count : length start ≡ length a.nodes
  pub each : (t : TermId) → t.0 < length a.nodes → at start t.0 ≡ start_value a own t

-- no listed value is opposite to the plain one
pub record AreQuiet (a : Arena) (own : List (Option Bool)) : Type 0 where
  pub each : (t : TermId) → t.0 < length a.nodes → opposite (plain_at a t) (at own t.0) ≡ false

-- one is
pub record IsLoud (a : Arena) (own : List (Option Bool)) (t : TermId) : Type 0 where
  pub in_range : t.0 < length a.nodes
  pub is : opposite (plain_at a t) (at own t.0) ≡ true

-- ---- the list of connectives

pub record StandsAt (ids : List TermId) (t : TermId) : Type 0 where
  pub place : ℕ
  pub is : slice_get ids place ≡ Some t

-- the ids of all connectives of an arena, in order
pub record AreConnectives (a : Arena) (ids : List TermId) : Type 0 where
  pub in_range : (i : ℕ) (t : TermId) → slice_get ids i ≡ Some t → t.0 < length a.nodes
  pub connect : (i : ℕ) (t : TermId) → slice_get ids i ≡ Some t → connects a t ≡ true
  pub rising : (i j : ℕ) (s t : TermId) → slice_get ids i ≡ Some s → slice_get ids j ≡ Some t → s.0 < t.0 → i < j
  pub all : (t : TermId) → t.0 < length a.nodes → connects a t ≡ true → StandsAt ids t

-- ---- arguments of connectives

-- whether a term is marked; past the end it is
abbrev pub is_marked : List Bool → TermId → Bool
is_marked marks t = slice_index_or marks t.0 true

-- what was marked still is
pub record Keeps (old new : List Bool) : Type 0 where
  pub each : (t : TermId) → is_marked old t ≡ true → is_marked new t ≡ true

-- a term is marked, and what was so before
pub record Marks (old new : List Bool) (t : TermId) : Type 0 where
  pub here : is_marked new t ≡ true
  pub kept : Keeps old new

-- all of these terms are marked
pub record MarksAll (marks : List Bool) (ids : List TermId) : Type 0 where
  pub each : (i : ℕ) (t : TermId) → slice_get ids i ≡ Some t → is_marked marks t ≡ true

-- each argument of a connective is marked
pub record MarksArguments (a : Arena) (marks : List Bool) : Type 0 where
  pub each : (t : TermId) (n : Node) → slice_get a.nodes t.0 ≡ Some n → connects a t ≡ true → MarksAll marks n.args

-- ---- what a pass finds

-- whether the value computed for a term of the arena is opposite to the given one
abbrev pub clashes_at : Arena → (Term → Option Bool) → TermId → Bool
clashes_at a given t = clashes (atoms.is_truth a.shapes a.decls) given (tree a t)

-- a term clashes: its computed value is opposite to the given one
pub record Clashes (a : Arena) (own : List (Option Bool)) (s : TermId) (v : Bool) (t : TermId) : Type 0 where
  pub in_range : t.0 < length a.nodes
  pub clash : (given : Term → Option Bool) → Gives a own s v given → clashes_at a given t ≡ true

-- none does
pub record NoneClashes (a : Arena) (own : List (Option Bool)) (s : TermId) (v : Bool) : Type 0 where
  pub quiet : (given : Term → Option Bool) → Gives a own s v given → (t : TermId) → t.0 < length a.nodes → clashes_at a given t ≡ false

-- ---- the same where each term has what is listed

-- a way to give values gives to each term of an arena what is listed
pub record GivesListed (a : Arena) (own : List (Option Bool)) (given : Term → Option Bool) : Type 0 where
  pub each : (t : TermId) → t.0 < length a.nodes → given (tree a t) ≡ at own t.0

pub record ClashesListed (a : Arena) (own : List (Option Bool)) (t : TermId) : Type 0 where
  pub in_range : t.0 < length a.nodes
  pub clash : (given : Term → Option Bool) → GivesListed a own given → clashes_at a given t ≡ true

pub record NoneClashesListed (a : Arena) (own : List (Option Bool)) : Type 0 where
  pub quiet : (given : Term → Option Bool) → GivesListed a own given → (t : TermId) → t.0 < length a.nodes → clashes_at a given t ≡ false

-- ---- on the way

-- the value of the first of these terms, and that of the second
abbrev pub first_found : List (Option Bool) → List TermId → Option Bool
first_found found [] = None
first_found found (t ∷ ts) = at found t.0

abbrev pub second_found : List (Option Bool) → List TermId → Option Bool
second_found found [] = None
second_found found (t ∷ ts) = first_found found ts

-- the value of a connective, computed from those that are found
abbrev pub of_node : List (Option Bool) → Option Node → Option Bool
of_node found None = None
of_node found (Some n) = connected n.head (first_found found n.args) (second_found found n.args)

-- the terms that are no connectives have their values, and so have the connectives before the place k
pub record IsFilled (a : Arena) (given : Term → Option Bool) (ids : List TermId) (k : ℕ) (found : List (Option Bool)) : Type 0 where
  pub count : length found ≡ length a.nodes
  pub others : (t : TermId) → t.0 < length a.nodes → connects a t ≡ false → at found t.0 ≡ valued_in a given t
  pub earlier : (i : ℕ) (t : TermId) → i < k → slice_get ids i ≡ Some t → at found t.0 ≡ valued_in a given t

-- the connectives before the place k do not clash
pub record QuietBefore (a : Arena) (given : Term → Option Bool) (ids : List TermId) (k : ℕ) : Type 0 where
  pub each : (i : ℕ) (t : TermId) → i < k → slice_get ids i ≡ Some t → clashes_at a given t ≡ false

-- a pass over these connectives has come to the place k: whatever way to give values is listed, these are found, and none of them clashes
pub record HasPassed (a : Arena) (own : List (Option Bool)) (s : TermId) (v : Bool) (ids : List TermId) (k : ℕ) (found : List (Option Bool)) : Type 0 where
  pub count : length found ≡ length a.nodes
  pub filled : (given : Term → Option Bool) → Gives a own s v given → IsFilled a given ids k found
  pub quiet : (given : Term → Option Bool) → Gives a own s v given → QuietBefore a given ids k

-- it has come to the end: no connective clashes
pub record NoConnectiveClashes (a : Arena) (own : List (Option Bool)) (s : TermId) (v : Bool) : Type 0 where
  pub quiet : (given : Term → Option Bool) → Gives a own s v given → (t : TermId) → t.0 < length a.nodes → connects a t ≡ true → clashes_at a given t ≡ false

-- a pass has come to the end, and found no connective that clashes
pub record PassesAll (a : Arena) (own : List (Option Bool)) (s : TermId) (v : Bool) (ids : List TermId) : Type 0 where
  pub found : List (Option Bool)
  pub passed : HasPassed a own s v ids (length ids) found

-- a pass where nothing is supposed has
pub record PassesListed (a : Arena) (own : List (Option Bool)) (ids : List TermId) : Type 0 where
  pub past : TermId
  pub is_past : past.0 ≡ length a.nodes
  pub all : PassesAll a own past true ids
