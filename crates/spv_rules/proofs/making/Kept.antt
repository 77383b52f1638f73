-- Terms that are put into an arena, over plain variables.
use Rattle.std.proofs.Common.{◌≡◌, ℕ, suc, ◌<◌, Bool, true, false, ◌&&◌, ◌||◌, List, [], ◌∷◌, ◌++◌, length, get_or, refl, sym, ap, ◌∙◌, Some, None, nat_eq, not, arith, IsTrue, IsErr, if◌then◌else◌, Result, Ok, Err, OnOk, IfErr}
use Rattle.std.proofs.lemmas.Bool.{false≢true}
use Rattle.std.proofs.lemmas.Option.{slice_get_within}
use Rattle.std.proofs.lemmas.List.Sums.{fold-append}
use Rattle.std.proofs.lemmas.List.Folds.{list_any_at}
use Rattle.std.specs.List.{list_any}
use Rattle.spv_logic.specs.declared.conditions.TermId.{TermId}
use Rattle.spv_logic.specs.declared.operators.Head.{Head}
use Rattle.spv_logic.specs.Terms.{Term, term, term_eq}
use Rattle.spv_logic.proofs.Equality.{term_eq-true, term_eq-refl}
use Rattle.spv_term.specs.declared.nodes.TermFault.{TermFault}
use Rattle.spv_term.specs.declared.nodes.TermFault.TheVariants as fault
use Rattle.spv_term.specs.Arena.{Arena, IsArena, AllBelow, node, has_node, with_node, place_of, lacks_room, tree, trees, trees_of, with_tree}
use Rattle.spv_term.proofs.NodeLemmas.{has_node-at, place_of-there, with_node-there, with_node-absent}
use Rattle.spv_term.proofs.TreeLemmas.{length-trees_of}
use Rattle.spv_term.proofs.ArenaLemmas.{node_of, tree-node, args_in_range, same_ids}
use Rattle.spv_proof_rules.specs.Stops.{kept}
use Rattle.spv_rules.specs.making.KeptFaults.{IsKeptFault}

-- ---- finding a term in a list

find-term : (x : Term) (xs : List Term) (d : Term) → list_any (term_eq x) xs ≡ true → (i : ℕ) × (i < length xs) × (get_or xs i d ≡ x)
find-term x [] d h = absurd (false≢true h)
find-term x (y ∷ ys) d h = by (term_eq x y) refl h (find-term x ys d)
  where
    by : (b : Bool) → term_eq x y ≡ b → (b || list_any (term_eq x) ys) ≡ true
        → (list_any (term_eq x) ys ≡ true → (i : ℕ) × (i < length ys) × (get_or ys i d ≡ x)) → (i : ℕ) × (i < length (y ∷ ys)) × (get_or (y ∷ ys) i d ≡ x)
    by true e g later = (0, omega arith, sym (term_eq-true x y e))
    by false e g later = let found = later g in (suc found.0, omega (arith, found.1), found.2)

-- a success is no error
no_error : (t : TermId) → IsErr {T = TermId} {E = TermFault} (Ok t) → ⊥
no_error t h = false≢true (h)

-- ---- a node of the arena, and its tree

module _ (a : Arena) (ok : IsArena a) where
  tree-listed : (t : TermId) → t.0 < length a.nodes → list_any (term_eq (tree a t)) (trees_of a.nodes) ≡ true
  tree-listed t h = list_any_at (term_eq (tree a t)) (trees_of a.nodes) t.0 _ (omega (arith, length-trees_of a.nodes)) (term_eq-refl (tree a t))

  pub kept_known : (t : TermId) → t.0 < length a.nodes → kept a.most (trees_of a.nodes) (tree a t) ≡ Some (trees_of a.nodes)
  kept_known t h = ap (λ b. if b then Some (trees_of a.nodes) else if nat_eq (length (trees_of a.nodes)) a.most then None else Some (trees_of a.nodes ++ tree a t ∷ [])) (tree-listed t h)

  module _ (h : Head) (ts : List TermId) (below : AllBelow (length a.nodes) ts) where
    abbrev made : Term
    made = term h (trees a ts)

    -- a node is there where its tree is listed
    there-listed : list_any (term_eq made) (trees_of a.nodes) ≡ true → has_node a.nodes (node h ts) ≡ true
    there-listed e =
        let found = find-term made (trees_of a.nodes) _ e in
        let t : TermId = record { 0 = found.0 } in
        let m = node_of a ok t (omega (arith, found.1, length-trees_of a.nodes)) in
        let same : term m.0.head (trees a m.0.args) ≡ made = sym (tree-node a ok t m.0 m.1) ∙ found.2 in
        let heads : m.0.head ≡ h = cc in
        let lists : trees a m.0.args ≡ trees a ts = cc in
        let args = same_ids a ok (trees a ts) m.0.args ts (args_in_range a ok t m.0 m.1) below lists refl in
        let one : m.0 ≡ node h ts = (λ i. record { head = heads i; args = args i }) in
        has_node-at a.nodes found.0 (node h ts) (m.1 ∙ ap Some one)

    listed-there : has_node a.nodes (node h ts) ≡ true → list_any (term_eq made) (trees_of a.nodes) ≡ true
    listed-there e =
        let t : TermId = record { 0 = place_of a.nodes (node h ts) } in
        let at = place_of-there a.nodes (node h ts) e in
        ap (λ x. list_any (term_eq x) (trees_of a.nodes)) (sym (tree-node a ok t (node h ts) at)) ∙ tree-listed t (slice_get_within a.nodes t.0 (node h ts) at)

    listed : (b : Bool) → has_node a.nodes (node h ts) ≡ b → list_any (term_eq made) (trees_of a.nodes) ≡ b
    listed true e = listed-there e
    listed false e = by (list_any (term_eq made) (trees_of a.nodes)) refl
      where
        by : (b : Bool) → list_any (term_eq made) (trees_of a.nodes) ≡ b → b ≡ false
        by true f = absurd (false≢true (sym e ∙ there-listed f))
        by false f = refl

    kept_is : (b c : Bool) → has_node a.nodes (node h ts) ≡ b → nat_eq (length a.nodes) a.most ≡ c
        → kept a.most (trees_of a.nodes) made ≡ (if b then Some (trees_of a.nodes) else if c then None else Some (trees_of a.nodes ++ made ∷ []))
    kept_is b c e f =
        let there = listed b e in
        let full : nat_eq (length (trees_of a.nodes)) a.most ≡ c = ap (λ n. nat_eq n a.most) (length-trees_of a.nodes) ∙ f in
        λ i. if there i then Some (trees_of a.nodes) else if full i then None else Some (trees_of a.nodes ++ made ∷ [])

    -- a node that there is room for is kept
    pub kept_made : (lacks_room a (node h ts) ≡ true → ⊥) → kept a.most (trees_of a.nodes) made ≡ Some (trees_of (with_node a.nodes (node h ts)))
    kept_made room = by (has_node a.nodes (node h ts)) refl (nat_eq (length a.nodes) a.most) refl room
      where
        by : (b : Bool) → has_node a.nodes (node h ts) ≡ b → (c : Bool) → nat_eq (length a.nodes) a.most ≡ c → ((not b && c) ≡ true → ⊥) → kept a.most (trees_of a.nodes) made ≡ Some (trees_of (with_node a.nodes (node h ts)))
        by true e c f r = kept_is true c e f ∙ ap (λ ns. Some (trees_of ns)) (sym (with_node-there a.nodes (node h ts) e))
        by false e true f r = absurd (r refl)
        by false e false f r =
            kept_is false false e f
            ∙ ap Some (sym (ap trees_of (with_node-absent a.nodes (node h ts) e) ∙ fold-append with_tree [] a.nodes (node h ts ∷ [])))

    pub kept_full : IsTrue (lacks_room a (node h ts)) → kept a.most (trees_of a.nodes) made ≡ None
    kept_full full = by (has_node a.nodes (node h ts)) refl (nat_eq (length a.nodes) a.most) refl full
      where
        by : (b : Bool) → has_node a.nodes (node h ts) ≡ b → (c : Bool) → nat_eq (length a.nodes) a.most ≡ c → (not b && c) ≡ true → kept a.most (trees_of a.nodes) made ≡ None
        by true e c f r = absurd (false≢true r)
        by false e true f r = kept_is false true e f
        by false e false f r = absurd (false≢true r)

    -- what `make` says of a node, in terms of trees
    pub kept_ok : (new : Arena) (r : Result TermId TermFault) (x : Term) → x ≡ made → (IsTrue (lacks_room a (node h ts)) → IsErr r) → OnOk r (new ≡ record a { nodes = with_node a.nodes (node h ts) })
        → OnOk r (kept a.most (trees_of a.nodes) x ≡ Some (trees_of new.nodes))
    kept_ok new (Ok t) x is full e = ap (kept a.most (trees_of a.nodes)) is ∙ (kept_made (λ f. no_error t (full f)) ∙ ap (λ b. Some (trees_of b.nodes)) (sym e))
    kept_ok new (Err f) x is full e = tt

    pub kept_err : (r : Result TermId TermFault) (x : Term) → x ≡ made → (r ≡ Err fault.Size → IsTrue (lacks_room a (node h ts))) → IfErr r (λ f. IsKeptFault f (kept a.most (trees_of a.nodes) x))
    kept_err (Ok t) x is size = tt
    kept_err (Err fault.Size) x is size = ap (kept a.most (trees_of a.nodes)) is ∙ kept_full (size refl)
    kept_err (Err fault.Memory) x is size = tt
