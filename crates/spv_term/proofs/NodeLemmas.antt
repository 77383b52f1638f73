-- Sameness of nodes, and where a node stands.
use Rattle.std.proofs.Common.{◌≡◌, ℕ, ◌+◌, ◌<◌, ◌≤◌, Bool, true, false, ◌||◌, not, cond, List, [], ◌∷◌, ◌++◌, length, slice_get, position, Some, None, if◌then◌else◌, refl, sym, ap, ◌∙◌, arith, nat_eq, lt-ltb, le-ltb}
use Rattle.std.proofs.lemmas.Bool.{false≢true, eqb-true, eq-eqb}
use Rattle.std.specs.Cmp.Derive.{both_true}
use Rattle.std.specs.List.{find}
use Rattle.std.proofs.lemmas.List.Folds.{find_at}
use Rattle.std.proofs.lemmas.Option.{slice_get_within, same_Some, none-some}
use Rattle.std.proofs.lemmas.Map.Keys.{any_passes_from_place}
use Rattle.spv_logic.proofs.list.Tests.{left_true, right_true}
use Rattle.spv_logic.specs.declared.conditions.TermId.{TermId}
use Rattle.spv_logic.specs.Terms.{head_eq}
use Rattle.spv_logic.proofs.Equality.{head_eq-true, head_eq-refl}
use Rattle.spv_term.specs.declared.nodes.Node.{Node}
use Rattle.spv_term.specs.Arena.{ids_eq, node_eq, has_node, with_node, place_of}
use Rattle.spv_term.proofs.ListLemmas.{slice_get_push}

pub id_from : (t u : TermId) → t.0 ≡ u.0 → t ≡ u
id_from t u h = ap (λ n. record { 0 = n }) h

pub ids_eq-true : (ts us : List TermId) → ids_eq ts us ≡ true → ts ≡ us
ids_eq-true [] [] h = refl
ids_eq-true (t ∷ ts) (u ∷ us) h =
    let e = id_from t u (eqb-true t.0 u.0 (left_true _ _ h)) in
    let f = ids_eq-true ts us (right_true (nat_eq t.0 u.0) _ h) in
    cc (e, f)
ids_eq-true _ _ h = absurd (false≢true h)

pub ids_eq-refl : (ts : List TermId) → ids_eq ts ts ≡ true
ids_eq-refl [] = refl
ids_eq-refl (t ∷ ts) = both_true (eq-eqb t.0 t.0 refl) (ids_eq-refl ts)

pub node_eq-true : (m n : Node) → node_eq m n ≡ true → m ≡ n
node_eq-true m n h =
    let e = head_eq-true m.head n.head (left_true _ _ h) in
    let f = ids_eq-true m.args n.args (right_true (head_eq m.head n.head) _ h) in
    λ i. record { head = e i; args = f i }

pub node_eq-refl : (n : Node) → node_eq n n ≡ true
node_eq-refl n = both_true (head_eq-refl n.head) (ids_eq-refl n.args)

-- a test of nodes that decides whether they are the same is this one
pub node_eq-unique : (e : Node → Node → Bool) → ((m n : Node) → e m n ≡ true → m ≡ n) → ((n : Node) → e n n ≡ true) → (m n : Node) → e m n ≡ node_eq m n
node_eq-unique e sound refl_e m n = by (e m n) (node_eq m n) refl refl
  where
    by : (a b : Bool) → e m n ≡ a → node_eq m n ≡ b → a ≡ b
    by true true p q = refl
    by false false p q = refl
    by true false p q =
        let same = sound m n p in
        absurd (false≢true (sym q ∙ ap (node_eq m) (sym same) ∙ node_eq-refl m))
    by false true p q =
        let same = node_eq-true m n q in
        absurd (false≢true (sym p ∙ ap (e m) (sym same) ∙ refl_e m))

-- ---- where a node stands

pub has_node-at : (nodes : List Node) (i : ℕ) (n : Node) → slice_get nodes i ≡ Some n → has_node nodes n ≡ true
has_node-at nodes i n h = any_passes_from_place (node_eq n) nodes i n h (node_eq-refl n)

-- the first node that is the same as one that is there is that one
find-same : (nodes : List Node) (n : Node) → has_node nodes n ≡ true → find (node_eq n) nodes ≡ Some n
find-same [] n h = absurd (false≢true h)
find-same (m ∷ nodes) n h = by (node_eq n m) refl (λ e. find-same nodes n (sym (ap (λ b. b || has_node nodes n) e) ∙ h))
  where
    by : (b : Bool) → node_eq n m ≡ b → (node_eq n m ≡ false → find (node_eq n) nodes ≡ Some n) → find (node_eq n) (m ∷ nodes) ≡ Some n
    by true e rest = ap (λ b. cond b (Some m) (find (node_eq n) nodes)) e ∙ ap Some (sym (node_eq-true n m e))
    by false e rest = ap (λ b. cond b (Some m) (find (node_eq n) nodes)) e ∙ rest e

pub place_of-there : (nodes : List Node) (n : Node) → has_node nodes n ≡ true → slice_get nodes (place_of nodes n) ≡ Some n
place_of-there nodes n h = sym (find_at (node_eq n) nodes) ∙ find-same nodes n h

pub place_of-absent : (nodes : List Node) (n : Node) → has_node nodes n ≡ false → place_of nodes n ≡ length nodes
place_of-absent [] n h = refl
place_of-absent (m ∷ nodes) n h = by (node_eq n m) refl (λ e. place_of-absent nodes n (sym (ap (λ b. b || has_node nodes n) e) ∙ h))
  where
    by : (b : Bool) → node_eq n m ≡ b → (node_eq n m ≡ false → place_of nodes n ≡ length nodes) → place_of (m ∷ nodes) n ≡ length (m ∷ nodes)
    by true e rest = absurd (false≢true (sym h ∙ ap (λ b. b || has_node nodes n) e))
    by false e rest =
        let others = rest e in
        ap (λ b. cond (not b) (1 + place_of nodes n) 0) e ∙ omega (arith, others)

pub with_node-there : (nodes : List Node) (n : Node) → has_node nodes n ≡ true → with_node nodes n ≡ nodes
with_node-there nodes n h = ap (λ b. if b then nodes else nodes ++ n ∷ []) h

pub with_node-absent : (nodes : List Node) (n : Node) → has_node nodes n ≡ false → with_node nodes n ≡ nodes ++ n ∷ []
with_node-absent nodes n h = ap (λ b. if b then nodes else nodes ++ n ∷ []) h

-- with a node added, it stands at its place
pub place_of-with_node : (nodes : List Node) (n : Node) → slice_get (with_node nodes n) (place_of nodes n) ≡ Some n
place_of-with_node nodes n = by (has_node nodes n) refl
  where
    by : (b : Bool) → has_node nodes n ≡ b → slice_get (with_node nodes n) (place_of nodes n) ≡ Some n
    by true e = ap (λ ms. slice_get ms (place_of nodes n)) (with_node-there nodes n e) ∙ place_of-there nodes n e
    by false e =
        ap (λ ms. slice_get ms (place_of nodes n)) (with_node-absent nodes n e)
        ∙ ap (slice_get (nodes ++ n ∷ [])) (place_of-absent nodes n e) ∙ slice_get_push nodes n

-- a search for a node finds its place exactly where it is there
position-there : (nodes : List Node) (n : Node) → has_node nodes n ≡ true → position (node_eq n) nodes ≡ Some (place_of nodes n)
position-there nodes n h =
    let within : place_of nodes n < length nodes = slice_get_within nodes (place_of nodes n) n (place_of-there nodes n h) in
    ap (λ b. cond b (Some (place_of nodes n)) None) (lt-ltb (place_of nodes n) (length nodes) within)

position-absent : (nodes : List Node) (n : Node) → has_node nodes n ≡ false → position (node_eq n) nodes ≡ None
position-absent nodes n h =
    let end : length nodes ≤ place_of nodes n = omega (arith, place_of-absent nodes n h) in
    ap (λ b. cond b (Some (place_of nodes n)) None) (le-ltb (place_of nodes n) (length nodes) end)

pub found_there : (nodes : List Node) (n : Node) (i : ℕ) → Some i ≡ position (node_eq n) nodes → (i ≡ place_of nodes n) × (true ≡ has_node nodes n)
found_there nodes n i h = by (has_node nodes n) refl
  where
    by : (b : Bool) → has_node nodes n ≡ b → (i ≡ place_of nodes n) × (true ≡ has_node nodes n)
    by true e = (same_Some i (place_of nodes n) (h ∙ position-there nodes n e), sym e)
    by false e = absurd (none-some i (sym (h ∙ position-absent nodes n e)))

pub found_absent : (nodes : List Node) (n : Node) → None ≡ position (node_eq n) nodes → false ≡ has_node nodes n
found_absent nodes n h = by (has_node nodes n) refl
  where
    by : (b : Bool) → has_node nodes n ≡ b → false ≡ has_node nodes n
    by true e = absurd (none-some (place_of nodes n) (h ∙ position-there nodes n e))
    by false e = sym e
