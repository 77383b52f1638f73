-- What is true of every arena, and of one that grows.
use Rattle.std.proofs.Common.{◌≡◌, ℕ, zero, suc, ◌<◌, ◌≤◌, Bool, true, false, List, [], ◌∷◌, ◌++◌, map, take, drop, length, slice_get, unwrap_or, Option, Some, None, IsSome, is_some, refl, sym, ap, ◌∙◌, subst, inl, inr, arith, Result, Ok, Err, IfOk, OnOk}
use Rattle.std.proofs.lemmas.Bool.{false≢true, cases_lt}
use Rattle.std.proofs.lemmas.List.{append-nil, append_assoc, length-append, length_push, take-append-le, length-take-le, take-append-drop, take_at}
use Rattle.std.proofs.lemmas.Option.{slice_get_within, same_Some}
use Rattle.spv_logic.specs.declared.conditions.TermId.{TermId}
use Rattle.spv_logic.specs.declared.types.Sort.{Sort}
use Rattle.spv_logic.specs.declared.types.Sort.TheVariants as sort
use Rattle.spv_logic.specs.declared.types.Shape.{Shape}
use Rattle.spv_logic.specs.declared.types.Decl.{Decl}
use Rattle.spv_logic.specs.declared.operators.Head.{Head}
use Rattle.spv_logic.specs.Terms.{Term, Terms, term, no_terms, terms, eval, eval_all, worth}
use Rattle.spv_logic.specs.Sorts.{result_sort, term_sort, term_sorts, with_sorts, sort_before}
use Rattle.spv_logic.specs.Conditions.{Meaning, Valuation}
use Rattle.spv_term.specs.declared.nodes.Node.{Node}
use Rattle.spv_term.specs.declared.nodes.TermFault.{TermFault}
use Rattle.spv_term.specs.Arena.{Arena, node, AllBelow, has_node, with_node, place_of, tree_in, trees_in, trees_of, tree, trees, sort_in, sorts_in, sorts_of, sort_at, sorts_at, MayFollow, IsArena, Extends}
use Rattle.spv_term.specs.Laws.{IsWorthOfHeads, HasOneId, IsWellSorted, KeepsOld}
use Rattle.spv_term.proofs.ListLemmas.{slice_get-take, slice_get-append_left, slice_get_push}
use Rattle.spv_term.proofs.NodeLemmas.{id_from, has_node-at, with_node-there, with_node-absent, place_of-there, place_of-absent, place_of-with_node}
use Rattle.spv_term.proofs.TreeLemmas.{AllBelow-le, tree_in-append, trees_in-append, tree_in-at, sorts_of-push, sort_in-append, sorts_in-append, sort_in-at}

-- a sort that is there is the one that stands for it
unwrapped : (o : Option Sort) → IsSome o → o ≡ Some (unwrap_or o sort.Int)
unwrapped (Some s) h = refl
unwrapped None h = absurd (false≢true h)

module _ (a : Arena) (ok : IsArena a) where
  -- an id below the length has a node
  pub node_of : (t : TermId) → t.0 < length a.nodes → (n : Node) × (slice_get a.nodes t.0 ≡ Some n)
  node_of t h = found (slice_get a.nodes t.0) refl
    where
      found : (o : Option Node) → slice_get a.nodes t.0 ≡ o → (n : Node) × (slice_get a.nodes t.0 ≡ Some n)
      found (Some n) e = (n, e)
      found None e = absurd (missing a.nodes t.0 h e)
        where
          missing : (nodes : List Node) (i : ℕ) → i < length nodes → slice_get nodes i ≡ None → ⊥
          missing [] i k e = omega arith
          missing (m ∷ nodes) zero k e = cc
          missing (m ∷ nodes) (suc i) k e = missing nodes i (omega arith) e

  -- the arguments of a node stand before it
  pub args_before : (t : TermId) (n : Node) → slice_get a.nodes t.0 ≡ Some n → AllBelow t.0 n.args
  args_before t n at =
      let len : length (take t.0 a.nodes) ≡ t.0 = length-take-le t.0 a.nodes (omega (arith, slice_get_within a.nodes t.0 n at)) in
      AllBelow-le (length (take t.0 a.nodes)) t.0 n.args (omega arith) (ok.nodes t.0 n at).args

  pub args_in_range : (t : TermId) (n : Node) → slice_get a.nodes t.0 ≡ Some n → AllBelow (length a.nodes) n.args
  args_in_range t n at = AllBelow-le t.0 (length a.nodes) n.args (omega (arith, slice_get_within a.nodes t.0 n at)) (args_before t n at)

  -- a term is its node's head over its arguments
  pub tree-node : (t : TermId) (n : Node) → slice_get a.nodes t.0 ≡ Some n → tree a t ≡ term n.head (trees a n.args)
  tree-node t n at = tree_in-at a.nodes t n at (args_before t n at)

  -- the sort of a term is what its head gives over its arguments' sorts
  pub sort-node : (t : TermId) (n : Node) → slice_get a.nodes t.0 ≡ Some n → result_sort a.shapes a.decls n.head (sorts_at a n.args) ≡ Some (sort_at a t)
  sort-node t n at =
      let before = take t.0 a.nodes in
      let len : length before ≡ t.0 = length-take-le t.0 a.nodes (omega (arith, slice_get_within a.nodes t.0 n at)) in
      let follows = ok.nodes t.0 n at in
      let stays : sorts_at a n.args ≡ sorts_in (sorts_of a.shapes a.decls before) n.args =
      ap (λ ms. sorts_in (sorts_of a.shapes a.decls ms) n.args) (sym (take-append-drop t.0 a.nodes))
      ∙ sorts_in-append a.shapes a.decls before (drop t.0 a.nodes) n.args follows.args in
      let fits : IsSome (result_sort a.shapes a.decls n.head (sorts_at a n.args)) = ap (λ ss. is_some (result_sort a.shapes a.decls n.head ss)) stays ∙ follows.sorts in
      unwrapped _ fits ∙ ap Some (sym (sort_in-at a.shapes a.decls a.nodes t n at (args_before t n at)))

  -- no node stands at two places
  pub one_place : (i j : ℕ) (n : Node) → slice_get a.nodes i ≡ Some n → slice_get a.nodes j ≡ Some n → i ≡ j
  one_place i j n at_i at_j =
      elim (cases_lt i j) [
        | inl below ↦ absurd (twice i j below at_i at_j)
        | inr above ↦ elim (cases_lt j i) [
          | inl below ↦ absurd (twice j i below at_j at_i)
          | inr over ↦ omega arith
        ]
      ]
    where
      twice : (i j : ℕ) → i < j → slice_get a.nodes i ≡ Some n → slice_get a.nodes j ≡ Some n → ⊥
      twice i j below at_i at_j =
          false≢true (sym (ok.nodes j n at_j).new ∙ has_node-at (take j a.nodes) i n (slice_get-take a.nodes i j below ∙ at_i))

  mutual
    -- terms that are one tree have one id
    pub same_id : (x : Term) (t u : TermId) → t.0 < length a.nodes → u.0 < length a.nodes → tree a t ≡ x → tree a u ≡ x → t ≡ u
    same_id (term h xs) t u ht hu et eu =
        let n = node_of t ht in
        let m = node_of u hu in
        let e : term n.0.head (trees a n.0.args) ≡ term h xs = sym (tree-node t n.0 n.1) ∙ et in
        let f : term m.0.head (trees a m.0.args) ≡ term h xs = sym (tree-node u m.0 m.1) ∙ eu in
        let heads : n.0.head ≡ m.0.head = cc in
        let left : trees a n.0.args ≡ xs = cc in
        let right : trees a m.0.args ≡ xs = cc in
        let args = same_ids xs n.0.args m.0.args (args_in_range t n.0 n.1) (args_in_range u m.0 m.1) left right in
        let one : n.0 ≡ m.0 = λ i. record { head = heads i; args = args i } in
        id_from t u (one_place t.0 u.0 m.0 (n.1 ∙ ap Some one) m.1)

    pub same_ids : (xs : Terms) (ts us : List TermId) → AllBelow (length a.nodes) ts → AllBelow (length a.nodes) us → trees a ts ≡ xs → trees a us ≡ xs → ts ≡ us
    same_ids no_terms [] [] ht hu et eu = refl
    same_ids no_terms (t ∷ ts) us ht hu et eu = absurd (cc)
    same_ids no_terms [] (u ∷ us) ht hu et eu = absurd (cc)
    same_ids (terms x xs) [] us ht hu et eu = absurd (cc)
    same_ids (terms x xs) (t ∷ ts) [] ht hu et eu = absurd (cc)
    same_ids (terms x xs) (t ∷ ts) (u ∷ us) ht hu et eu =
        let et_first : tree a t ≡ x = cc in
        let eu_first : tree a u ≡ x = cc in
        let et_rest : trees a ts ≡ xs = cc in
        let eu_rest : trees a us ≡ xs = cc in
        let first = same_id x t u ht.0 hu.0 et_first eu_first in
        let rest = same_ids xs ts us ht.1 hu.1 et_rest eu_rest in
        λ i. first i ∷ rest i

  mutual
    -- a term is well sorted
    pub term_sort-tree : (x : Term) (t : TermId) → t.0 < length a.nodes → tree a t ≡ x → term_sort a.shapes a.decls x ≡ Some (sort_at a t)
    term_sort-tree (term h xs) t ht et =
        let n = node_of t ht in
        let e : term n.0.head (trees a n.0.args) ≡ term h xs = sym (tree-node t n.0 n.1) ∙ et in
        let head : h ≡ n.0.head = cc in
        let args : trees a n.0.args ≡ xs = cc in
        let below = term_sorts-trees xs n.0.args (args_in_range t n.0 n.1) args in
        ap (λ o. with_sorts o (result_sort a.shapes a.decls h)) below
        ∙ ap (λ k. result_sort a.shapes a.decls k (sorts_at a n.0.args)) head ∙ sort-node t n.0 n.1

    pub term_sorts-trees : (xs : Terms) (ts : List TermId) → AllBelow (length a.nodes) ts → trees a ts ≡ xs → term_sorts a.shapes a.decls xs ≡ Some (sorts_at a ts)
    term_sorts-trees no_terms [] ht et = refl
    term_sorts-trees no_terms (t ∷ ts) ht et = absurd (cc)
    term_sorts-trees (terms x xs) [] ht et = absurd (cc)
    term_sorts-trees (terms x xs) (t ∷ ts) ht et =
        let et_first : tree a t ≡ x = cc in
        let et_rest : trees a ts ≡ xs = cc in
        let first = term_sort-tree x t ht.0 et_first in
        let rest = term_sorts-trees xs ts ht.1 et_rest in
        λ i. sort_before (first i) (rest i)

-- what terms are worth, one by one
pub eval_all-trees : (symbols : Meaning) (v : Valuation) (a : Arena) (ts : List TermId) → eval_all symbols v (trees a ts) ≡ map (λ u. eval symbols v (tree a u)) ts
eval_all-trees symbols v a [] = refl
eval_all-trees symbols v a (t ∷ ts) = ap (λ vs. eval symbols v (tree a t) ∷ vs) (eval_all-trees symbols v a ts)

pub IsWorthOfHeads-arena : (a : Arena) → IsArena a → (symbols : Meaning) → IsWorthOfHeads a symbols
IsWorthOfHeads-arena a ok symbols v t n at =
    ap (eval symbols v) (tree-node a ok t n at) ∙ ap (worth symbols v n.head) (eval_all-trees symbols v a n.args)

pub HasOneId-arena : (a : Arena) → IsArena a → HasOneId a
HasOneId-arena a ok t u ht hu e = same_id a ok (tree a u) t u ht hu e refl

pub IsWellSorted-arena : (a : Arena) → IsArena a → IsWellSorted a
IsWellSorted-arena a ok t h = term_sort-tree a ok (tree a t) t h refl

-- ---- arenas that grow

-- a node that may follow makes an arena of an arena
pub IsArena-push : (a : Arena) (n : Node) → IsArena a → MayFollow a.shapes a.decls a.nodes n → length a.nodes < a.most → IsArena (record a { nodes = a.nodes ++ n ∷ [] })
IsArena-push a n ok follows room = record {
  shapes = ok.shapes;
  names = ok.names;
  types = ok.types;
  nodes = each;
  room = omega (arith, length_push a.nodes n);
  most = ok.most;
}
  where
    last : (i : ℕ) (m : Node) → length a.nodes ≡ i → slice_get (a.nodes ++ n ∷ []) i ≡ Some m → MayFollow a.shapes a.decls (take i (a.nodes ++ n ∷ [])) m
    last i m e at =
        let same : n ≡ m = same_Some n m (sym (slice_get_push a.nodes n) ∙ ap (slice_get (a.nodes ++ n ∷ [])) e ∙ at) in
        let before : a.nodes ≡ take i (a.nodes ++ n ∷ []) = sym (take_at a.nodes (n ∷ []) i e) in
        subst (λ ms. MayFollow a.shapes a.decls ms m) before (subst (λ k. MayFollow a.shapes a.decls a.nodes k) same follows)

    each : (i : ℕ) (m : Node) → slice_get (a.nodes ++ n ∷ []) i ≡ Some m → MayFollow a.shapes a.decls (take i (a.nodes ++ n ∷ [])) m
    each i m at = elim (cases_lt i (length a.nodes)) [
      | inl below ↦
          let old = ok.nodes i m (sym (slice_get-append_left a.nodes (n ∷ []) i below) ∙ at) in
          subst (λ ms. MayFollow a.shapes a.decls ms m) (sym (take-append-le i a.nodes (n ∷ []) (omega arith))) old
      | inr above ↦ last i m (omega (arith, slice_get_within (a.nodes ++ n ∷ []) i m at, length_push a.nodes n)) at
    ]

-- the same, of lists that are known by what they equal
pub IsArena-pushed : (a : Arena) (n : Node) (ms : List Node) → ms ≡ a.nodes ++ n ∷ [] → IsArena a → MayFollow a.shapes a.decls a.nodes n → length a.nodes < a.most → IsArena (record a { nodes = ms })
IsArena-pushed a n ms e ok follows room = subst (λ ns. IsArena (record a { nodes = ns })) (sym e) (IsArena-push a n ok follows room)

pub sorts_of-pushed : (shapes : List Shape) (decls : List Decl) (nodes ms : List Node) (n : Node) (s : Sort) (ss more : List Sort)
    → ms ≡ nodes ++ n ∷ [] → more ≡ ss ++ s ∷ [] → ss ≡ sorts_of shapes decls nodes → result_sort shapes decls n.head (sorts_in (sorts_of shapes decls nodes) n.args) ≡ Some s
    → more ≡ sorts_of shapes decls ms
sorts_of-pushed shapes decls nodes ms n s ss more e f known fits =
    f ∙ (λ i. known i ++ unwrap_or (sym fits i) sort.Int ∷ []) ∙ sym (ap (sorts_of shapes decls) e ∙ sorts_of-push shapes decls nodes n)

pub Extends-refl : (a : Arena) → Extends a a
Extends-refl a = record { added = []; nodes = sym (append-nil a.nodes); most = refl; shapes = refl; decls = refl }

pub Extends-trans : {a b c : Arena} → Extends a b → Extends b c → Extends a c
Extends-trans {a} {b} {c} f g = record {
  added = f.added ++ g.added;
  nodes = g.nodes ∙ ap (λ ns. ns ++ g.added) f.nodes ∙ append_assoc a.nodes f.added g.added;
  most = g.most ∙ f.most;
  shapes = g.shapes ∙ f.shapes;
  decls = g.decls ∙ f.decls;
}

-- an arena with a node added extends it, and so does one that has the node
pub Extends-with_node : (a : Arena) (n : Node) → Extends a (record a { nodes = with_node a.nodes n })
Extends-with_node a n = by (has_node a.nodes n) refl
  where
    by : (b : Bool) → has_node a.nodes n ≡ b → Extends a (record a { nodes = with_node a.nodes n })
    by true e = record { added = []; nodes = with_node-there a.nodes n e ∙ sym (append-nil a.nodes); most = refl; shapes = refl; decls = refl }
    by false e = record { added = n ∷ []; nodes = with_node-absent a.nodes n e; most = refl; shapes = refl; decls = refl }

module _ {old new : Arena} (more : Extends old new) where
  pub length-Extends : length old.nodes ≤ length new.nodes
  length-Extends = omega (arith, ap length more.nodes, length-append old.nodes more.added)

  pub slice_get-Extends : (t : TermId) → t.0 < length old.nodes → slice_get new.nodes t.0 ≡ slice_get old.nodes t.0
  slice_get-Extends t h = ap (λ ns. slice_get ns t.0) more.nodes ∙ slice_get-append_left old.nodes more.added t.0 h

  pub tree-Extends : (t : TermId) → t.0 < length old.nodes → tree new t ≡ tree old t
  tree-Extends t h = ap (λ ns. tree_in (trees_of ns) t) more.nodes ∙ tree_in-append old.nodes more.added t h

  pub trees-Extends : (ts : List TermId) → AllBelow (length old.nodes) ts → trees new ts ≡ trees old ts
  trees-Extends ts h = ap (λ ns. trees_in (trees_of ns) ts) more.nodes ∙ trees_in-append old.nodes more.added ts h

  pub sort_at-Extends : (t : TermId) → t.0 < length old.nodes → sort_at new t ≡ sort_at old t
  sort_at-Extends t h = (λ i. sort_in (sorts_of (more.shapes i) (more.decls i) (more.nodes i)) t) ∙ sort_in-append old.shapes old.decls old.nodes more.added t h

  pub sorts_at-Extends : (ts : List TermId) → AllBelow (length old.nodes) ts → sorts_at new ts ≡ sorts_at old ts
  sorts_at-Extends ts h = (λ i. sorts_in (sorts_of (more.shapes i) (more.decls i) (more.nodes i)) ts) ∙ sorts_in-append old.shapes old.decls old.nodes more.added ts h

  pub AllBelow-Extends : (ts : List TermId) → AllBelow (length old.nodes) ts → AllBelow (length new.nodes) ts
  AllBelow-Extends ts h = AllBelow-le (length old.nodes) (length new.nodes) ts length-Extends h

  pub map_tree-Extends : (ts : List TermId) → AllBelow (length old.nodes) ts → map (tree new) ts ≡ map (tree old) ts
  map_tree-Extends [] h = refl
  map_tree-Extends (t ∷ ts) h =
      let first = tree-Extends t h.0 in
      let rest = map_tree-Extends ts h.1 in
      λ i. first i ∷ rest i

  pub KeepsOld-Extends : KeepsOld old new
  KeepsOld-Extends = record {
    nodes = slice_get-Extends;
    trees = tree-Extends;
    sorts = sort_at-Extends;
    ids = AllBelow-Extends;
    conditions = λ c given goal. (λ i. record { given = map_tree-Extends c.given given i; goal = tree-Extends c.goal goal i });
  }

-- ---- the node of a head over terms of an arena, put into it

-- what `make` says of the arena after it and of the id that it gives
pub record IsMade (old new : Arena) (h : Head) (ts : List TermId) (t : TermId) : Type 0 where
  pub id : t.0 ≡ place_of old.nodes (node h ts)
  pub node : slice_get new.nodes t.0 ≡ Some (node h ts)
  pub in_range : t.0 < length new.nodes
  pub tree : tree new t ≡ term h (trees old ts)
  pub sort : result_sort old.shapes old.decls h (sorts_at old ts) ≡ Some (sort_at new t)

module _ (a : Arena) (ok : IsArena a) (h : Head) (ts : List TermId) (below : AllBelow (length a.nodes) ts) (fits : IsSome (result_sort a.shapes a.decls h (sorts_at a ts))) where
  abbrev nodes_after : List Node
  nodes_after = with_node a.nodes (node h ts)

  -- its arguments stand before it
  args_first : (t : TermId) → t.0 ≡ place_of a.nodes (node h ts) → AllBelow t.0 ts
  args_first t at = by (has_node a.nodes (node h ts)) refl
    where
      by : (b : Bool) → has_node a.nodes (node h ts) ≡ b → AllBelow t.0 ts
      by true e = args_before a ok t (node h ts) (ap (slice_get a.nodes) at ∙ place_of-there a.nodes (node h ts) e)
      by false e =
          let last : t.0 ≡ length a.nodes = at ∙ place_of-absent a.nodes (node h ts) e in
          AllBelow-le (length a.nodes) t.0 ts (omega arith) below

  IsMade-with_node : (t : TermId) → t.0 ≡ place_of a.nodes (node h ts) → IsMade a (record a { nodes = nodes_after }) h ts t
  IsMade-with_node t at =
      let stands : slice_get nodes_after t.0 ≡ Some (node h ts) = ap (slice_get nodes_after) at ∙ place_of-with_node a.nodes (node h ts) in
      let more = Extends-with_node a (node h ts) in
      record {
        id = at;
        node = stands;
        in_range = slice_get_within nodes_after t.0 (node h ts) stands;
        tree = tree_in-at nodes_after t (node h ts) stands (args_first t at) ∙ ap (term h) (trees-Extends more ts below);
        sort = unwrapped _ fits
            ∙ ap Some (sym (sort_in-at a.shapes a.decls nodes_after t (node h ts) stands (args_first t at)
            ∙ ap (λ ss. unwrap_or (result_sort a.shapes a.decls h ss) sort.Int) (sorts_at-Extends more ts below)));
      }

  -- a node that is there has its id already
  pub IsMade-there : (n : Node) → n ≡ node h ts → has_node a.nodes n ≡ true → (t : TermId) → t.0 ≡ place_of a.nodes n → IsMade a a h ts t
  IsMade-there n e there t at =
      let has = ap (has_node a.nodes) (sym e) ∙ there in
      subst (λ ms. IsMade a (record a { nodes = ms }) h ts t) (with_node-there a.nodes (node h ts) has) (IsMade-with_node t (at ∙ ap (place_of a.nodes) e))

  -- a new node goes last
  pub IsMade-pushed : (new : Arena) (n : Node) → n ≡ node h ts → has_node a.nodes n ≡ false → new ≡ record a { nodes = a.nodes ++ n ∷ [] } → (t : TermId) → t.0 ≡ length a.nodes → IsMade a new h ts t
  IsMade-pushed new n e absent after t at =
      let lacks = ap (has_node a.nodes) (sym e) ∙ absent in
      let same : record a { nodes = nodes_after } ≡ new =
      ap (λ ms. record a { nodes = ms }) (with_node-absent a.nodes (node h ts) lacks ∙ ap (λ m. a.nodes ++ m ∷ []) (sym e)) ∙ sym after in
      subst (λ b. IsMade a b h ts t) same (IsMade-with_node t (at ∙ sym (place_of-absent a.nodes (node h ts) lacks)))

-- what follows for the answer that is `Ok`
pub if_made : {P R : TermId → Type 0} {Q : Type 0} (r : Result TermId TermFault) → IfOk r P → OnOk r Q → ((t : TermId) → P t → Q → R t) → IfOk r R
if_made (Ok t) p q then = then t p q
if_made (Err e) p q then = tt

-- what a caller of several calls in a row needs: each keeps what the ones before it gave
pub ruleset growth = (Extends-trans, length-Extends, slice_get-Extends, tree-Extends, trees-Extends, sort_at-Extends, sorts_at-Extends, AllBelow-Extends)
