-- The trees and the sorts of nodes, and of more nodes.
use Rattle.std.proofs.Common.{◌≡◌, ℕ, zero, suc, ◌<◌, ◌≤◌, List, [], ◌∷◌, ◌++◌, take, drop, length, slice_get, unwrap_or, Some, pos, refl, sym, ap, ◌∙◌, subst, arith}
use Rattle.std.proofs.lemmas.List.{length-take-le, take-append-drop}
use Rattle.std.proofs.lemmas.List.Sums.{fold-append}
use Rattle.std.proofs.lemmas.Option.{slice_get_within}
use Rattle.spv_logic.specs.declared.conditions.TermId.{TermId}
use Rattle.spv_logic.specs.declared.types.Sort.{Sort}
use Rattle.spv_logic.specs.declared.types.Sort.TheVariants as sort
use Rattle.spv_logic.specs.declared.types.Shape.{Shape}
use Rattle.spv_logic.specs.declared.types.Decl.{Decl}
use Rattle.spv_logic.specs.declared.operators.Head.TheVariants.{Num}
use Rattle.spv_logic.specs.Terms.{Term, term, no_terms, terms}
use Rattle.spv_logic.specs.Sorts.{result_sort}
use Rattle.spv_term.specs.declared.nodes.Node.{Node}
use Rattle.spv_term.specs.Arena.{AllBelow, tree_in, trees_in, with_tree, trees_of, sort_in, sorts_in, with_sort_of, sorts_of}
use Rattle.spv_term.proofs.ListLemmas.{length-grown, get_or-grown, get_or-made}

-- ---- lists of ids

pub AllBelow-le : (m n : ℕ) (ts : List TermId) → m ≤ n → AllBelow m ts → AllBelow n ts
AllBelow-le m n [] le h = tt
AllBelow-le m n (t ∷ ts) le h = (omega (arith, h.0), AllBelow-le m n ts le h.1)

pub AllBelow-append : (n : ℕ) (ts us : List TermId) → AllBelow n ts → AllBelow n us → AllBelow n (ts ++ us)
AllBelow-append n [] us h k = k
AllBelow-append n (t ∷ ts) us h k = (h.0, AllBelow-append n ts us h.1 k)

pub AllBelow-at : (n : ℕ) (ts : List TermId) (i : ℕ) (t : TermId) → AllBelow n ts → slice_get ts i ≡ Some t → t.0 < n
AllBelow-at n [] i t h at = absurd (cc)
AllBelow-at n (u ∷ ts) zero t h at =
    let e : u ≡ t = cc in
    let P : TermId → Type 0 = λ v. v.0 < n in
    subst P e h.0
AllBelow-at n (u ∷ ts) (suc i) t h at = AllBelow-at n ts i t h.1 at

-- ---- trees

-- the tree of a node over the trees so far
abbrev tree_made : List Term → Node → Term
tree_made trees n = term n.head (trees_in trees n.args)

abbrev no_tree : Term
no_tree = term (Num (pos 0)) no_terms

pub length-trees_of : (nodes : List Node) → length (trees_of nodes) ≡ length nodes
length-trees_of nodes = omega (arith, length-grown tree_made [] nodes)

pub tree_in-append : (ms ns : List Node) (t : TermId) → t.0 < length ms → tree_in (trees_of (ms ++ ns)) t ≡ tree_in (trees_of ms) t
tree_in-append ms ns t h =
    ap (λ xs. tree_in xs t) (fold-append with_tree [] ms ns)
    ∙ get_or-grown tree_made (trees_of ms) ns t.0 no_tree (omega (arith, length-trees_of ms))

pub trees_in-append : (ms ns : List Node) (ts : List TermId) → AllBelow (length ms) ts → trees_in (trees_of (ms ++ ns)) ts ≡ trees_in (trees_of ms) ts
trees_in-append ms ns [] h = refl
trees_in-append ms ns (t ∷ ts) h =
    let e = tree_in-append ms ns t h.0 in
    let f = trees_in-append ms ns ts h.1 in
    λ i. terms (e i) (f i)

-- the tree of a node whose arguments stand before it: its head over its arguments' trees
pub tree_in-at : (nodes : List Node) (t : TermId) (n : Node) → slice_get nodes t.0 ≡ Some n → AllBelow t.0 n.args
    → tree_in (trees_of nodes) t ≡ term n.head (trees_in (trees_of nodes) n.args)
tree_in-at nodes t n at h =
    let before = take t.0 nodes in
    let len : length before ≡ t.0 = length-take-le t.0 nodes (omega (arith, slice_get_within nodes t.0 n at)) in
    let below : AllBelow (length before) n.args = AllBelow-le t.0 (length before) n.args (omega arith) h in
    let stays = ap (λ ms. trees_in (trees_of ms) n.args) (sym (take-append-drop t.0 nodes)) ∙ trees_in-append before (drop t.0 nodes) n.args below in
    get_or-made tree_made nodes t.0 n no_tree at ∙ ap (term n.head) (sym stays)

-- ---- sorts

module _ (shapes : List Shape) (decls : List Decl) where
  -- the sort of a node over the sorts so far
  abbrev sort_made : List Sort → Node → Sort
  sort_made sorts n = unwrap_or (result_sort shapes decls n.head (sorts_in sorts n.args)) sort.Int

  pub length-sorts_of : (nodes : List Node) → length (sorts_of shapes decls nodes) ≡ length nodes
  length-sorts_of nodes = omega (arith, length-grown sort_made [] nodes)

  pub sorts_of-push : (nodes : List Node) (n : Node) → sorts_of shapes decls (nodes ++ n ∷ []) ≡ with_sort_of shapes decls (sorts_of shapes decls nodes) n
  sorts_of-push nodes n = fold-append (with_sort_of shapes decls) [] nodes (n ∷ [])

  pub sort_in-append : (ms ns : List Node) (t : TermId) → t.0 < length ms → sort_in (sorts_of shapes decls (ms ++ ns)) t ≡ sort_in (sorts_of shapes decls ms) t
  sort_in-append ms ns t h =
      ap (λ xs. sort_in xs t) (fold-append (with_sort_of shapes decls) [] ms ns)
      ∙ get_or-grown sort_made (sorts_of shapes decls ms) ns t.0 sort.Int (omega (arith, length-sorts_of ms))

  pub sorts_in-append : (ms ns : List Node) (ts : List TermId) → AllBelow (length ms) ts → sorts_in (sorts_of shapes decls (ms ++ ns)) ts ≡ sorts_in (sorts_of shapes decls ms) ts
  sorts_in-append ms ns [] h = refl
  sorts_in-append ms ns (t ∷ ts) h =
      let e = sort_in-append ms ns t h.0 in
      let f = sorts_in-append ms ns ts h.1 in
      λ i. e i ∷ f i

  -- the sort of a node whose arguments stand before it: what its head gives over its arguments' sorts
  pub sort_in-at : (nodes : List Node) (t : TermId) (n : Node) → slice_get nodes t.0 ≡ Some n → AllBelow t.0 n.args
      → sort_in (sorts_of shapes decls nodes) t ≡ sort_made (sorts_of shapes decls nodes) n
  sort_in-at nodes t n at h =
      let before = take t.0 nodes in
      let len : length before ≡ t.0 = length-take-le t.0 nodes (omega (arith, slice_get_within nodes t.0 n at)) in
      let below : AllBelow (length before) n.args = AllBelow-le t.0 (length before) n.args (omega arith) h in
      let stays = ap (λ ms. sorts_in (sorts_of shapes decls ms) n.args) (sym (take-append-drop t.0 nodes)) ∙ sorts_in-append before (drop t.0 nodes) n.args below in
      get_or-made sort_made nodes t.0 n sort.Int at ∙ ap (λ ss. unwrap_or (result_sort shapes decls n.head ss) sort.Int) (sym stays)
