-- The arena of terms: its nodes, and the tree and the sort that each stands for.
use Rattle.std.specs.Prelude.{◌≡◌, ℕ, ◌<◌, ◌≤◌, ◌^◌, Bool, true, false, ◌&&◌, not, List, [], ◌∷◌, ◌++◌, map, length, take, pos, position, nat_eq, fold, Option, Some, IsSome, unwrap_or, IsTrue, slice_get, slice_index_or, if◌then◌else◌}
use Rattle.std.specs.BTreeMap.{BTreeMap}
use Rattle.std.specs.List.{list_all, list_any, position_or_len}
use Rattle.std.specs.Map.{lookup}
use Rattle.spv_logic.specs.declared.conditions.TermId.{TermId}
use Rattle.spv_logic.specs.declared.types.Sort.{Sort}
use Rattle.spv_logic.specs.declared.types.Sort.TheVariants as sort
use Rattle.spv_logic.specs.declared.types.Shape.{Shape}
use Rattle.spv_logic.specs.declared.types.Decl.{Decl}
use Rattle.spv_logic.specs.declared.operators.Head.{Head}
use Rattle.spv_logic.specs.declared.operators.Head.TheVariants.{Num}
use Rattle.spv_logic.specs.Terms.{Term, Terms, term, no_terms, terms, head_eq}
use Rattle.spv_logic.specs.Shapes.{shapes_ok}
use Rattle.spv_logic.specs.Sorts.{result_sort, head_in_range, sort_in_range, numeral_fits}
use Rattle.spv_logic.specs.Conditions.{Sequent}
use Rattle.spv_term.specs.declared.nodes.Node.{Node}
use Rattle.spv_term.specs.declared.nodes.Condition.{Condition}

-- what contracts see of an arena: its nodes by their ids, how many there may be, and the types and symbols of the program
pub record Arena : Type 0 where
  pub nodes : List Node
  pub most : ℕ
  pub shapes : List Shape
  pub decls : List Decl

-- ---- nodes

abbrev pub node : Head → List TermId → Node
node h ts = record { head = h; args = ts }

-- whether two lists of ids are the same
abbrev pub ids_eq : List TermId → List TermId → Bool
ids_eq [] [] = true
ids_eq (t ∷ ts) (u ∷ us) = nat_eq t.0 u.0 && ids_eq ts us
ids_eq _ _ = false

-- whether two nodes are the same
abbrev pub node_eq : Node → Node → Bool
node_eq m n = head_eq m.head n.head && ids_eq m.args n.args

abbrev pub has_node : List Node → Node → Bool
has_node nodes n = list_any (node_eq n) nodes

-- the nodes with this one: as they are where it is there, else with it at the end
abbrev pub with_node : List Node → Node → List Node
with_node nodes n = if has_node nodes n then nodes else nodes ++ n ∷ []

-- where a node stands; the number of nodes where it is not there
abbrev pub place_of : List Node → Node → ℕ
place_of nodes n = position_or_len (node_eq n) nodes

-- the number that a map from nodes to numbers has for a node
abbrev pub number_of : BTreeMap Node ℕ → Node → Option ℕ
number_of places n = lookup (node_eq n) places.entries

-- for each node of a list a map has its place, and for no other node any
pub record ArePlaces (places : BTreeMap Node ℕ) (nodes : List Node) : Type 0 where
  pub each : (n : Node) → number_of places n ≡ position (node_eq n) nodes

-- each id is that of one of so many nodes
abbrev pub AllBelow : ℕ → List TermId → Type 0
AllBelow count [] = Unit {0}
AllBelow count (t ∷ ts) = (t.0 < count) × AllBelow count ts

-- whether a node is new and there may be no more
abbrev pub lacks_room : Arena → Node → Bool
lacks_room a n = not (has_node a.nodes n) && nat_eq (length a.nodes) a.most

-- ---- trees

-- the tree of an id among these; of an id past the end, the number 0
abbrev pub tree_in : List Term → TermId → Term
tree_in trees t = slice_index_or trees t.0 (term (Num (pos 0)) no_terms)

abbrev pub trees_in : List Term → List TermId → Terms
trees_in trees [] = no_terms
trees_in trees (t ∷ ts) = terms (tree_in trees t) (trees_in trees ts)

-- the trees so far, and that of one node more: its head over its arguments' trees
abbrev pub with_tree : List Term → Node → List Term
with_tree trees n = trees ++ term n.head (trees_in trees n.args) ∷ []

-- the trees of nodes, in order
abbrev pub trees_of : List Node → List Term
trees_of nodes = fold with_tree [] nodes

-- the term that an id stands for
abbrev pub tree : Arena → TermId → Term
tree a t = tree_in (trees_of a.nodes) t

abbrev pub trees : Arena → List TermId → Terms
trees a ts = trees_in (trees_of a.nodes) ts

-- what a condition claims
abbrev pub sequent : Arena → Condition → Sequent
sequent a c = record { given = map (tree a) c.given; goal = tree a c.goal }

-- ---- sorts

-- the sort of an id among these; of an id past the end, that of a number
abbrev pub sort_in : List Sort → TermId → Sort
sort_in sorts t = slice_index_or sorts t.0 sort.Int

abbrev pub sorts_in : List Sort → List TermId → List Sort
sorts_in sorts ts = map (sort_in sorts) ts

-- the sorts so far, and that of one node more: what its head gives over its arguments' sorts
abbrev pub with_sort_of : List Shape → List Decl → List Sort → Node → List Sort
with_sort_of shapes decls sorts n = sorts ++ unwrap_or (result_sort shapes decls n.head (sorts_in sorts n.args)) sort.Int ∷ []

-- the sorts of nodes, in order
abbrev pub sorts_of : List Shape → List Decl → List Node → List Sort
sorts_of shapes decls nodes = fold (with_sort_of shapes decls) [] nodes

-- the sort of the term that an id stands for
abbrev pub sort_at : Arena → TermId → Sort
sort_at a t = sort_in (sorts_of a.shapes a.decls a.nodes) t

abbrev pub sorts_at : Arena → List TermId → List Sort
sorts_at a ts = sorts_in (sorts_of a.shapes a.decls a.nodes) ts

-- ---- what an arena keeps

-- whether no two symbols have one name
abbrev pub symbols_differ : List Decl → Bool
symbols_differ [] = true
symbols_differ (d ∷ decls) = not (list_any (λ e. nat_eq d.name.0 e.name.0) decls) && symbols_differ decls

-- whether the types that the symbols' sorts name are there
abbrev pub decls_in_range : List Shape → List Decl → Bool
decls_in_range shapes decls = list_all (λ d. list_all (sort_in_range shapes) d.args && sort_in_range shapes d.result) decls

-- a node that may come after these: its arguments are among them, their sorts fit its head, and it is not there
pub record MayFollow (shapes : List Shape) (decls : List Decl) (nodes : List Node) (n : Node) : Type 0 where
  pub args : AllBelow (length nodes) n.args
  pub sorts : IsSome (result_sort shapes decls n.head (sorts_in (sorts_of shapes decls nodes) n.args))
  pub types : IsTrue (head_in_range shapes n.head)
  pub numeral : IsTrue (numeral_fits n.head)
  pub new : has_node nodes n ≡ false

-- what is true of every arena: each node may come after those before it, and there are not too many
pub record IsArena (a : Arena) : Type 0 where
  pub shapes : IsTrue (shapes_ok a.shapes)
  pub names : IsTrue (symbols_differ a.decls)
  pub types : IsTrue (decls_in_range a.shapes a.decls)
  pub nodes : (i : ℕ) (n : Node) → slice_get a.nodes i ≡ Some n → MayFollow a.shapes a.decls (take i a.nodes) n
  pub room : length a.nodes ≤ a.most
  pub most : a.most < 2 ^ 32

-- one arena is another with nodes added at the end
pub record Extends (old new : Arena) : Type 0 where
  pub added : List Node
  pub nodes : new.nodes ≡ old.nodes ++ added
  pub most : new.most ≡ old.most
  pub shapes : new.shapes ≡ old.shapes
  pub decls : new.decls ≡ old.decls
