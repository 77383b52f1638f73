-- The relations of whole numbers among atoms, and what is told of them.
use Rattle.std.specs.Prelude.{◌≡◌, ℕ, suc, ◌<◌, Bool, true, false, List, [], ◌∷◌, ◌++◌, map, length, ℤ, Option, Some, None, is_some, pos, nat_eq, slice_get, if◌then◌else◌}
use Rattle.spv_logic.specs.declared.conditions.TermId.{TermId}
use Rattle.spv_logic.specs.declared.operators.Head.{Head}
use Rattle.spv_logic.specs.declared.operators.Head.TheVariants.{Eq, Le, Lt, Num}
use Rattle.spv_logic.specs.Terms.{Term, term, no_terms, terms}
use Rattle.spv_term.specs.declared.nodes.Node.{Node}
use Rattle.spv_term.specs.Arena.{Arena, tree}
use Rattle.spv_congruence.specs.Keep.{IsNode}
use Rattle.spv_congruence.specs.Told.{IsPart}
use Rattle.spv_tableau_rules.specs.tableaux.Bounds.{Bound}
use Rattle.spv_atoms.specs.Linear.{IdForm}
use Rattle.spv_atoms.specs.Order.{passing}
use Rattle.spv_derivations.specs.declared.derivation.entries.Part.{Part}
use Rattle.spv_derivations.specs.declared.derivation.entries.Part.TheVariants as part
use Rattle.spv_derivations.specs.derivation.Literals.{Literal}
use Rattle.spv_proof.specs.sums.Readings.{number_in}
use Rattle.spv_tableau_rules.specs.declared.constraints.saying.RowConstraint.{RowConstraint}
use Rattle.spv_tableau_rules.specs.declared.constraints.saying.RowConstraint.TheVariants.{Equal, Below, AtMost, Above, AtLeast, Differs}
use Rattle.spv_tableau_rules.specs.constraints.Sayings.{bounds_of}
use Rattle.spv_tableau_rules.specs.constraints.Relations as relations
use Rattle.spv_tableau_rules.specs.constraints.Relations.{number_sides, AreRowsOf}
use Rattle.spv_arithmetic_side.specs.farkas.Told.{told}
use Rattle.spv_arithmetic_side.specs.constraint_rows.Said.{Says}
use Rattle.spv_explanations.specs.declared.congruence_side.trail.Trail.{Trail}
use Rattle.spv_explanations.specs.congruence_side.Holding.{Holds}
use Rattle.spv_share.specs.declared.relations.Related.{Related}
use Rattle.spv_share.specs.declared.relations.Claim.{Claim}

abbrev pub sides_in : Arena → Related → Term × Term
sides_in a r = (tree a r.left, tree a r.right)

-- a relation of whole numbers, both sides of which were added
pub record IsRelation (a : Arena) (nodes : List (Option Node)) (r : Related) : Type 0 where
  pub within : r.atom.0 < length a.nodes
  pub left_in : r.left.0 < length a.nodes
  pub right_in : r.right.0 < length a.nodes
  pub left : IsNode nodes r.left
  pub right : IsNode nodes r.right
  pub is : tree a r.atom ≡ term r.head (terms (tree a r.left) (terms (tree a r.right) no_terms))
  pub sides : number_sides (number_in a) (tree a r.atom) ≡ Some (sides_in a r)

-- relations, each at the place that is its row
pub record AreRelations (a : Arena) (nodes : List (Option Node)) (rels : List Related) : Type 0 where
  pub each : (row : ℕ) (r : Related) → slice_get rels row ≡ Some r → IsRelation a nodes r
  pub placed : (row : ℕ) (r : Related) → slice_get rels row ≡ Some r → r.row ≡ row

-- relations and their rows
pub record AreRelated (a : Arena) (nodes : List (Option Node)) (rels : List Related) (forms : List IdForm) : Type 0 where
  pub are : AreRelations a nodes rels
  pub rows : AreRowsOf a (map (sides_in a) rels) forms

-- they are those among these terms, in order
abbrev pub AreAmong : Arena → List Term → List Related → Type 0
AreAmong a ts rels = map (sides_in a) rels ≡ relations.relations (number_in a) ts

-- a relation of this atom
pub record IsListed (rels : List Related) (t : TermId) : Type 0 where
  pub row : ℕ
  pub relation : Related
  pub there : slice_get rels row ≡ Some relation
  pub is : relation.atom ≡ t

-- each of these terms that is a relation of whole numbers has one
pub record AreListed (a : Arena) (ts : List TermId) (rels : List Related) : Type 0 where
  pub each : (i : ℕ) (t : TermId) (st : Term × Term) → slice_get ts i ≡ Some t → number_sides (number_in a) (tree a t) ≡ Some st → IsListed rels t

-- whether a term is a relation of whole numbers
abbrev pub is_relation : Arena → Term → Bool
is_relation a t = is_some (number_sides (number_in a) t)

-- their atoms are the relations among these terms, in order
abbrev pub AreRelationsAmong : Arena → List Term → List Related → Type 0
AreRelationsAmong a ts rels = map (λ r. tree a r.atom) rels ≡ passing (is_relation a) ts

-- each of these terms was added
pub record AreNodes (nodes : List (Option Node)) (ts : List TermId) : Type 0 where
  pub each : (i : ℕ) (t : TermId) → slice_get ts i ≡ Some t → IsNode nodes t

-- an added term is a part of one of these
pub record IsPartOf (a : Arena) (ts : List TermId) (u : TermId) : Type 0 where
  pub place : ℕ
  pub whole : TermId
  pub there : slice_get ts place ≡ Some whole
  pub part : IsPart a whole u

-- each added term is
pub record AreParts (a : Arena) (nodes : List (Option Node)) (ts : List TermId) : Type 0 where
  pub each : (u : TermId) → IsNode nodes u → IsPartOf a ts u

-- ---- claims

-- the relation that an atom is
abbrev pub find : List Related → TermId → Option Related
find [] t = None
find (r ∷ rels) t = if nat_eq r.atom.0 t.0 then Some r else find rels t

abbrev pub said : ℕ → Option RowConstraint → Option Claim
said row None = None
said row (Some x) = Some (record { row = row; saying = x })

abbrev pub claim : Option Related → Part → Option Claim
claim None p = None
claim (Some r) p = said r.row (told r.head p)

-- what a literal says of a row, if it is one of a relation
abbrev pub claim_of : List Related → Literal → Option Claim
claim_of rels l = claim (find rels l.atom) l.part

-- ---- what may be said of rows

abbrev pub bounds_if : ℕ → ℤ → Option RowConstraint → List Bound
bounds_if row constant None = []
bounds_if row constant (Some x) = bounds_of row constant x

-- the bounds that a relation is on its row: where it is true, where it is false, and where one side of an equation is below the other
abbrev pub row_bounds : ℕ → Head → ℤ → List Bound
row_bounds row h constant =
    bounds_if row constant (told h part.True) ++ (bounds_if row constant (told h part.False) ++ (bounds_if row constant (told h part.Below) ++ bounds_if row constant (told h part.Above)))

-- those of relations whose rows begin at a place
abbrev pub bounds_from : ℕ → List Related → List IdForm → List Bound
bounds_from row [] forms = []
bounds_from row (r ∷ rels) [] = []
bounds_from row (r ∷ rels) (f ∷ forms) = row_bounds row r.head f.constant ++ bounds_from (suc row) rels forms

-- all bounds that literals of relations are on their rows
abbrev pub sayable : List Related → List IdForm → List Bound
sayable rels forms = bounds_from 0 rels forms

-- ---- what rows say

-- what may be said of the row of a relation with this head: nothing; and what its literals say of it
abbrev pub may_say : RowConstraint → Head → Bool
may_say Differs h = true
may_say Equal Eq = true
may_say Below Eq = true
may_say Below Lt = true
may_say Above Eq = true
may_say Above Le = true
may_say AtMost Le = true
may_say AtLeast Lt = true
may_say _ _ = false

-- a row says one such thing: exactly its bounds stand there
pub record IsSaid (bounds : List Bound) (row : ℕ) (h : Head) (constant : ℤ) : Type 0 where
  pub saying : RowConstraint
  pub may : may_say saying h ≡ true
  pub says : Says bounds row constant saying

-- so does the row of each relation
pub record AreSaid (rels : List Related) (forms : List IdForm) (bounds : List Bound) : Type 0 where
  pub each : (row : ℕ) (r : Related) (f : IdForm) → slice_get rels row ≡ Some r → slice_get forms row ≡ Some f → IsSaid bounds row r.head f.constant

-- ---- gathering

abbrev pub head_under : Option Node → Head
head_under None = Num (pos 0)
head_under (Some n) = n.head

abbrev pub related : Arena → TermId → TermId → TermId → ℕ → Related
related a t l r row = record { atom = t; head = head_under (slice_get a.nodes t.0); left = l; right = r; row = row }

-- the relations among the atoms so far, which were added to a trail that was told nothing
pub record IsGathered (a : Arena) (tr : Trail) (ts : List TermId) (rels : List Related) : Type 0 where
  pub holds : Holds a tr
  pub derivation : tr.derivation ≡ []
  pub untold : tr.graph.told ≡ []
  pub parts : AreParts a tr.graph.nodes (tr.truth ∷ tr.falsity ∷ ts)
  pub nodes : AreNodes tr.graph.nodes ts
  pub are : AreRelations a tr.graph.nodes rels
  pub among : AreAmong a (map (tree a) ts) rels
  pub listed : AreListed a ts rels
  pub atoms : AreRelationsAmong a (map (tree a) ts) rels
