-- Questions that have a value by another term.
use Rattle.std.specs.Prelude.{◌≡◌, ℕ, ◌<◌, Bool, ◌&&◌, List, [], ◌∷◌, ◌++◌, length, Option, Some, None, slice_get, slice_index_or, if◌then◌else◌, ◌⊎◌}
use Rattle.std.specs.Map.{lookup}
use Rattle.spv_logic.specs.declared.conditions.TermId.{TermId}
use Rattle.spv_logic.specs.Terms.{Term}
use Rattle.spv_logic.specs.Formulas.{equation, below}
use Rattle.spv_term.specs.Arena.{Arena, tree}
use Rattle.spv_atoms.specs.Order.{same_id}
use Rattle.spv_derivations.specs.declared.derivation.entries.Part.{Part}
use Rattle.spv_derivations.specs.declared.derivation.entries.Part.TheVariants.{Below, Above}
use Rattle.spv_assignments.specs.polarity.Cores.{IsCore}
use Rattle.spv_trail.specs.declared.followers.orders.Pair.{Pair}

-- what contracts see: beside each term the questions that have a value by it
pub record Followers : Type 0 where
  pub negations : List (List (TermId × Bool))
  pub equations : List (List (TermId × Part))

-- ---- lists beside terms

-- a question with what is said of it
abbrev pub entry : {P : Type 0} → TermId → P → TermId × P
entry q p = (q, p)

-- the list beside a term
abbrev pub beside : {P : Type 0} → List (List (TermId × P)) → TermId → List (TermId × P)
beside lists t = slice_index_or lists t.0 []

-- a question stands in a list, and this is said of it
pub record Stands {P : Type 0} (list : List (TermId × P)) (q : TermId) (p : P) : Type 0 where
  pub place : ℕ
  pub there : slice_get list place ≡ Some (entry q p)

-- a term is one of the questions
pub record IsQuestion (questions : List TermId) (q : TermId) : Type 0 where
  pub place : ℕ
  pub there : slice_get questions place ≡ Some q

-- beside each term of the arena stand exactly those questions of which something is said by it
pub record AreBeside {P : Type 0} (a : Arena) (IsOne : TermId → Type 0) (Says : TermId → TermId → P → Type 0) (lists : List (List (TermId × P))) : Type 0 where
  pub count : length lists ≡ length a.nodes
  pub sound : (t q : TermId) (p : P) → Stands (beside lists t) q p → IsOne q × Says t q p
  pub complete : (t q : TermId) (p : P) → t.0 < length a.nodes → IsOne q → Says t q p → Stands (beside lists t) q p

-- ---- who follows

-- the core of a question is another term, and whether it is true where that is
pub record IsNegation (a : Arena) (t q : TermId) (same : Bool) : Type 0 where
  pub core : IsCore a q t same
  pub other : q ≡ t → ⊥

-- an order of two terms, and the equation of them: the left side of the equation is the lower one, or the upper one
abbrev pub OrdersSides : Term → Term → Part → Type 0
OrdersSides order equal Below = (x : Term) × (y : Term) × (order ≡ below x y) × (equal ≡ equation x y)
OrdersSides order equal Above = (x : Term) × (y : Term) × (order ≡ below x y) × (equal ≡ equation y x)
OrdersSides order equal _ = ⊥

abbrev pub IsEquation : Arena → TermId → TermId → Part → Type 0
IsEquation a t q part = OrdersSides (tree a t) (tree a q) part

-- exactly the questions that have a value by another term stand beside it
pub record AreFollowers (a : Arena) (questions : List TermId) (f : Followers) : Type 0 where
  pub negations : AreBeside a (IsQuestion questions) (IsNegation a) f.negations
  pub equations : AreBeside a (IsQuestion questions) (IsEquation a) f.equations

-- ---- on the way: lists

-- lists for so many terms, without a question
pub record AreEmpty {P : Type 0} (count : ℕ) (lists : List (List (TermId × P))) : Type 0 where
  pub many : length lists ≡ count
  pub none : (t : TermId) → beside lists t ≡ []

-- a question is put behind those beside a term
pub record Puts {P : Type 0} (t q : TermId) (p : P) (old new : List (List (TermId × P))) : Type 0 where
  pub many : length new ≡ length old
  pub lists : (u : TermId) → beside new u ≡ (if same_id t u then beside old u ++ entry q p ∷ [] else beside old u)

-- a question is put beside a term, if there is one
abbrev pub PutsAt : {P : Type 0} → Option TermId → TermId → P → List (List (TermId × P)) → List (List (TermId × P)) → Type 0
PutsAt None q p old new = new ≡ old
PutsAt (Some t) q p old new = Puts t q p old new

-- a question is put beside each term by which something is said of it
pub record Adds {P : Type 0} (a : Arena) (Says : TermId → TermId → P → Type 0) (q : TermId) (old new : List (List (TermId × P))) : Type 0 where
  pub many : length new ≡ length old
  pub keeps : (t r : TermId) (p : P) → Stands (beside old t) r p → Stands (beside new t) r p
  pub comes : (t r : TermId) (p : P) → Stands (beside new t) r p → Stands (beside old t) r p ⊎ ((r ≡ q) × Says t q p)
  pub has : (t : TermId) (p : P) → t.0 < length a.nodes → Says t q p → Stands (beside new t) q p

-- a term is one of the first questions
pub record IsEarly (questions : List TermId) (count : ℕ) (q : TermId) : Type 0 where
  pub place : ℕ
  pub early : place < count
  pub there : slice_get questions place ≡ Some q

-- ---- on the way: the strict orders by their sides

abbrev pub pair : TermId → TermId → Pair
pair s t = record { left = s; right = t }

abbrev pub same_pair : Pair → Pair → Bool
same_pair p q = same_id p.left q.left && same_id p.right q.right

-- the order of two terms, if there is one
abbrev pub order_of : List (Pair × TermId) → Pair → Option TermId
order_of orders p = lookup (same_pair p) orders

-- one more order, instead of an older one of the same sides
pub record PutsOrder (p : Pair) (t : TermId) (old new : List (Pair × TermId)) : Type 0 where
  pub get : (q : Pair) → order_of new q ≡ (if same_pair p q then Some t else order_of old q)

-- a term is the order of two terms
pub record IsOrder (a : Arena) (p : Pair) (t : TermId) : Type 0 where
  pub inside : t.0 < length a.nodes
  pub is : tree a t ≡ below (tree a p.left) (tree a p.right)

-- the orders among the first terms stand beside their sides
pub record AreOrders (a : Arena) (count : ℕ) (orders : List (Pair × TermId)) : Type 0 where
  pub known : (p : Pair) (t : TermId) → order_of orders p ≡ Some t → IsOrder a p t
  pub all : (p : Pair) (t : TermId) → p.left.0 < length a.nodes → p.right.0 < length a.nodes → t.0 < count → IsOrder a p t → order_of orders p ≡ Some t

-- each order has a list
abbrev pub HaveLists : List (Pair × TermId) → ℕ → Type 0
HaveLists orders count = (p : Pair) (t : TermId) → order_of orders p ≡ Some t → t.0 < count
