-- One more term is put behind the others.
use Rattle.std.proofs.Common.{◌≡◌, ◌≢◌, ℕ, zero, suc, ◌+◌, ◌<◌, ◌≤◌, List, [], ◌∷◌, ◌++◌, take, length, get_or, slice_get, Option, Some, refl, sym, ap, ◌∙◌, subst, inl, inr, ◌⊎◌, arith}
use Rattle.std.proofs.lemmas.List.{length-take-le, length_push, take-append-le}
use Rattle.spv_logic.specs.declared.conditions.TermId.{TermId}
use Rattle.spv_term.specs.declared.nodes.Node.{Node}
use Rattle.spv_term.specs.Arena.{AllBelow}
use Rattle.spv_term.proofs.NodeLemmas.{id_from}
use Rattle.spv_term.proofs.TreeLemmas.{AllBelow-le}
use Rattle.spv_union_find.proofs.classes.Lists.{get_left, get_push, get_within, get_take, same_or_apart}
use Rattle.spv_union_find.specs.signatures.Signatures.{cells_of}
use Rattle.spv_congruence.specs.declared.facts.Level.{Level}
use Rattle.spv_congruence.specs.Graph.{Graph, HasNode, IsEarly, AreTerms, IsUpTo, IsGraph, nowhere, level_at, joins_at, rows_at, label_of, weight, weight_of, Waits}
use Rattle.spv_congruence.specs.Keep.{Kept, graph, Fits, HasPut, KeepsUses, MakesRoom, IsPrepared, IsMissing, AreNodes, Puts, Adds, EntersNext, uses_at}
use Rattle.spv_congruence.proofs.Args.{below_at}
use Rattle.spv_congruence.proofs.AddLemmas.{of_last}
use Rattle.spv_congruence.proofs.Keeping.{Same, level_same}

pub room_refl : (k : Kept) → MakesRoom k k
room_refl k = record { is = refl; count = omega arith; rows = refl; table = omega arith; uses = λ x t w. w; room = omega arith }

pub room_trans : (a b c : Kept) → MakesRoom a b → MakesRoom b c → MakesRoom a c
room_trans a b c f g = record {
  is = g.is ∙ ap (λ (k : Kept). record k { classes = record k.classes { count = c.classes.count }; table = c.table; uses = c.uses; room = c.room }) f.is;
  count = (let h = f.count in let k = g.count in omega (arith, h, k));
  rows = g.rows ∙ f.rows;
  table = (let h = f.table in let k = g.table in omega (arith, h, k));
  uses = λ x t w. g.uses x t (f.uses x t w);
  room = (let h = f.room in let k = g.room in omega (arith, h, k));
}

pub room_uses : (a b : Kept) → b ≡ record a { uses = b.uses } → KeepsUses a.uses b.uses → MakesRoom a b
room_uses a b e k = record {
  is = e ∙ six (sym (ap (λ (i : Kept). i.classes) e)) (sym (ap (λ (i : Kept). i.table) e)) (sym (ap (λ (i : Kept). i.room) e));
  count = (let c = ap (λ (i : Kept). i.classes.count) e in omega (arith, c));
  rows = ap (λ (i : Kept). i.table.rows) e;
  table = (let c = ap (λ (i : Kept). i.table.room) e in omega (arith, c));
  uses = k;
  room = (let c = ap (λ (i : Kept). i.room) e in omega (arith, c));
}
  where
    six : a.classes ≡ b.classes → a.table ≡ b.table → a.room ≡ b.room → record a { uses = b.uses } ≡ record a { classes = record a.classes { count = b.classes.count }; table = b.table; uses = b.uses; room = b.room }
    six c t r =
        ap (λ x. record a { classes = record a.classes { count = x }; uses = b.uses }) (ap (λ x. x.count) c)
        ∙ (ap (λ x. record a { classes = record a.classes { count = b.classes.count }; table = x; uses = b.uses }) t
        ∙ ap (λ x. record a { classes = record a.classes { count = b.classes.count }; table = b.table; uses = b.uses; room = x }) r)

pub room_fits : (a b : Kept) → MakesRoom a b → Fits a → Fits b
room_fits a b m fits = subst Fits (sym m.is) (record {
  count = λ t n is. (let h = fits.count t n is in let c = m.count in omega (arith, h, c));
  args = λ t n is. AllBelow-le a.classes.count b.classes.count n.args m.count (fits.args t n is);
  room = λ t n is. (let h = fits.room t n is in let c = m.room in omega (arith, h, c));
  uses = λ t n is i u at. m.uses u.0 t (fits.uses t n is i u at);
  terms = fits.terms;
  facts = fits.facts;
})

pub room_graph : (a b : Kept) → MakesRoom a b → graph b ≡ graph a
room_graph a b m = ap graph m.is ∙ ap (λ rs. record (graph a) { rows = rs }) m.rows

-- ---- one more term

module _ (nodes nodes' : List (Option Node)) (added : List TermId) (t : TermId) (n : Node) (put : HasPut nodes t.0 n nodes') (terms : AreTerms nodes added) (missing : IsMissing nodes t) where
  other : (u : TermId) (m : Node) → HasNode nodes u m → u.0 ≢ t.0
  other u m is e = missing m (subst (λ x. HasNode nodes x m) (id_from u t e) is)

  node_kept : (u : TermId) (m : Node) → HasNode nodes u m → HasNode nodes' u m
  node_kept u m is = put.kept u m (other u m is) is

  early_kept : (c : ℕ) (u : TermId) → IsEarly added c u → IsEarly (added ++ t ∷ []) c u
  early_kept c u e = record { place = e.place; early = e.early; there = get_left added (t ∷ []) e.place (get_within added e.place u e.there) ∙ e.there }

  early_back : (c : ℕ) → c ≤ length added → (u : TermId) → IsEarly (added ++ t ∷ []) c u → IsEarly added c u
  early_back c le u e =
      let l = e.early in
      record { place = e.place; early = e.early; there = sym (get_left added (t ∷ []) e.place (omega (arith, l, le))) ∙ e.there }

  node_back : (c : ℕ) (u : TermId) (m : Node) → IsEarly added c u → HasNode nodes' u m → HasNode nodes u m
  node_back c u m e is =
      let k = terms.noded e.place u e.there in
      put.back u m (other u k.0 k.1) is

  pub put_terms : AreNodes nodes n.args → AreTerms nodes' (added ++ t ∷ [])
  put_terms args = record {
    noded = λ i u at. noded i u (of_last added t u i at);
    listed = λ u m is. listed u m is (same_or_apart u.0 t.0);
    apart = λ i k u a b. apart i k u (of_last added t u i a) (of_last added t u k b);
    args = λ i u m at is. args_at i u m is (of_last added t u i at);
  }
    where
      noded : (i : ℕ) (u : TermId) → (slice_get added i ≡ Some u) ⊎ ((i ≡ length added) × (t ≡ u)) → (m : Node) × HasNode nodes' u m
      noded i u (inl h) = let k = terms.noded i u h in (k.0, node_kept u k.0 k.1)
      noded i u (inr h) = (n, subst (λ x. HasNode nodes' x n) h.1 put.there)

      wider : (u : TermId) → IsEarly added (length added) u → IsEarly (added ++ t ∷ []) (length (added ++ t ∷ [])) u
      wider u e = record { place = e.place; early = (let l = e.early in let p = length_push added t in omega (arith, l, p)); there = get_left added (t ∷ []) e.place (get_within added e.place u e.there) ∙ e.there }

      listed : (u : TermId) (m : Node) → HasNode nodes' u m → (u.0 ≡ t.0) ⊎ (u.0 ≢ t.0) → IsEarly (added ++ t ∷ []) (length (added ++ t ∷ [])) u
      listed u m is (inl e) = record { place = length added; early = (let p = length_push added t in omega (arith, p)); there = get_push added t ∙ ap Some (sym (id_from u t e)) }
      listed u m is (inr a) = wider u (terms.listed u m (put.back u m a is))

      apart : (i k : ℕ) (u : TermId) → (slice_get added i ≡ Some u) ⊎ ((i ≡ length added) × (t ≡ u)) → (slice_get added k ≡ Some u) ⊎ ((k ≡ length added) × (t ≡ u)) → i ≡ k
      apart i k u (inl a) (inl b) = terms.apart i k u a b
      apart i k u (inl a) (inr b) = let m = terms.noded i u a in absurd (missing m.0 (subst (λ x. HasNode nodes x m.0) (sym b.1) m.1))
      apart i k u (inr a) (inl b) = let m = terms.noded k u b in absurd (missing m.0 (subst (λ x. HasNode nodes x m.0) (sym a.1) m.1))
      apart i k u (inr a) (inr b) = a.0 ∙ sym b.0

      one : (m k : Node) → Some (Some m) ≡ Some (Some k) → m ≡ k
      one m k e = cc

      args_at : (i : ℕ) (u : TermId) (m : Node) → HasNode nodes' u m → (slice_get added i ≡ Some u) ⊎ ((i ≡ length added) × (t ≡ u)) → (k : ℕ) (v : TermId) → slice_get m.args k ≡ Some v → IsEarly (added ++ t ∷ []) i v
      args_at i u m is (inl h) k v at =
          let j = terms.noded i u h in
          early_kept i v (terms.args i u m h (put.back u m (other u j.0 j.1) is) k v at)
      args_at i u m is (inr h) k v at =
          let e : n ≡ m = one n m (sym put.there ∙ (ap (λ x. slice_get nodes' x.0) h.1 ∙ is)) in
          let j = args k v (ap (λ (x : Node). slice_get x.args k) e ∙ at) in
          subst (λ c. IsEarly (added ++ t ∷ []) c v) (sym h.0) (early_kept (length added) v (terms.listed v j.0 j.1))

  same : (c : ℕ) → c ≤ length added → (told : _) (k : ℕ) → Same nodes nodes' added (added ++ t ∷ []) c told told k
  same c le told k = record {
    keeps = record { node = node_kept; early = early_kept c; fact = λ i x less at. at; more = omega arith };
    node_back = λ u m e is. node_back c u m (early_back c le u e) is;
    early_back = early_back c le;
    fact_back = λ i x less at. at;
  }

  same_weight : (c : ℕ) (ts : List TermId) → ((i : ℕ) (u : TermId) → slice_get ts i ≡ Some u → IsEarly added c u) → weight_of nodes' ts ≡ weight_of nodes ts
  same_weight c [] all = refl
  same_weight c (u ∷ ts) all =
      let e = all 0 u refl in
      let k = terms.noded e.place u e.there in
      let w : weight (slice_get nodes' u.0) ≡ weight (slice_get nodes u.0) = ap weight (node_kept u k.0 k.1 ∙ sym k.1) in
      let rest = same_weight c ts (λ i v at. all (suc i) v at) in
      omega (arith, w, rest)

  taken_weight : (c : ℕ) → c ≤ length added → weight_of nodes' (take c (added ++ t ∷ [])) ≡ weight_of nodes (take c added)
  taken_weight c le = ap (weight_of nodes') (take-append-le c added (t ∷ []) le) ∙ same_weight (length added) (take c added) (λ i u at. early i u at)
    where
      early : (i : ℕ) (u : TermId) → slice_get (take c added) i ≡ Some u → IsEarly added (length added) u
      early i u at =
          let w = get_within (take c added) i u at in
          let l = length-take-le c added le in
          let h : slice_get added i ≡ Some u = sym (get_take added i c (omega (arith, w, l))) ∙ at in
          record { place = i; early = get_within added i u h; there = h }

module _ (g : Graph) (nodes' : List (Option Node)) (t : TermId) (n : Node) (put : HasPut g.nodes t.0 n nodes') (is : IsGraph g) (missing : IsMissing g.nodes t) (args : AreNodes g.nodes n.args) where
  same_here : (c : ℕ) → c ≤ length g.added → (k : ℕ) → Same g.nodes nodes' g.added (g.added ++ t ∷ []) c g.told g.told k
  same_here c le k = same g.nodes nodes' g.added t n put is.terms missing c le g.told k

  weights : (c : ℕ) → c ≤ length g.added → weight_of nodes' (take c (g.added ++ t ∷ [])) ≡ weight_of g.nodes (take c g.added)
  weights c le = taken_weight g.nodes nodes' g.added t n put is.terms missing c le

  -- the graph with the term, which is not entered yet
  pub graph_put : IsUpTo (record g { nodes = nodes'; added = g.added ++ t ∷ [] }) (length g.added)
  graph_put = record {
    terms = put_terms g.nodes nodes' g.added t n put is.terms missing args;
    many = is.many;
    few = (let p = length_push g.added t in omega (arith, p));
    past = λ k less. let u = (is.up k less).added in
        level_same g.nodes nodes' g.added (g.added ++ t ∷ []) (level_at g k).added g.told g.told k (same_here (level_at g k).added u k) (joins_at g k) (rows_at g k) [] [] (is.past k less);
    now = level_same g.nodes nodes' g.added (g.added ++ t ∷ []) (length g.added) g.told g.told (length g.told) (same_here (length g.added) (omega arith) (length g.told)) g.joins g.rows [] [] is.now;
    rises = λ k m le less. let a = (is.up k (omega (arith, le, less))).added in let b = (is.up m less).added in let r = is.rises k m le less in let c = r.cells in
        let v = weights (level_at g k).added a in let w = weights (level_at g m).added b in
        record { added = r.added; joins = r.joins; rows = r.rows; cells = omega (arith, c, v, w) };
    up = λ k less. let u = is.up k less in let a = u.added in let c = u.cells in
        let v = weights (level_at g k).added a in let w = weights (length g.added) (omega arith) in
        record { added = u.added; joins = u.joins; rows = u.rows; cells = omega (arith, c, v, w) };
  }

module _ (a b : Kept) (t : TermId) (n : Node) (p : Puts a t n b) (is : IsGraph (graph a)) (missing : IsMissing a.nodes t) (args : AreNodes a.nodes n.args) where
  pub put_graph : (place : ℕ) → place ≡ length a.added → IsUpTo (graph b) place
  put_graph place e = subst (IsUpTo (graph b)) (sym e) (subst (λ i. IsUpTo (graph i) (length a.added)) (sym p.is) (graph_put (graph a) b.nodes t n p.node is missing args))

  one_node : (m : Node) → HasNode b.nodes t m → n ≡ m
  one_node m h = one n m (sym p.node.there ∙ h)
    where
      one : (m k : Node) → Some (Some m) ≡ Some (Some k) → m ≡ k
      one m k e = cc

  module _ (fits : Fits a) (ready : IsPrepared a t n.args) (below : AllBelow t.0 n.args) where
    pub put_fits : Fits b
    put_fits = subst Fits (sym p.is) (record {
      count = λ u m h. count u m h (same_or_apart u.0 t.0);
      args = λ u m h. arg u m h (same_or_apart u.0 t.0);
      room = λ u m h. room u m h (same_or_apart u.0 t.0);
      uses = λ u m h. uses u m h (same_or_apart u.0 t.0);
      terms = put_terms a.nodes b.nodes a.added t n p.node is.terms missing args;
      facts = λ i x at. let h = fits.facts i x at in ((h.0.0, kept x.left h.0.0 h.0.1), (h.1.0, kept x.right h.1.0 h.1.1));
    })
      where
        kept : (u : TermId) (m : Node) → HasNode a.nodes u m → HasNode b.nodes u m
        kept u m h = p.node.kept u m (λ e. missing m (subst (λ x. HasNode a.nodes x m) (id_from u t e) h)) h

        is_new : (u : TermId) (m : Node) → HasNode b.nodes u m → u.0 ≡ t.0 → n ≡ m
        is_new u m h e = one_node m (subst (λ x. HasNode b.nodes x m) (id_from u t e) h)

        count : (u : TermId) (m : Node) → HasNode b.nodes u m → (u.0 ≡ t.0) ⊎ (u.0 ≢ t.0) → u.0 < a.classes.count
        count u m h (inl e) = let c = ready.count in omega (arith, e, c)
        count u m h (inr x) = fits.count u m (p.node.back u m x h)

        arg : (u : TermId) (m : Node) → HasNode b.nodes u m → (u.0 ≡ t.0) ⊎ (u.0 ≢ t.0) → AllBelow a.classes.count m.args
        arg u m h (inl e) = subst (λ (x : Node). AllBelow a.classes.count x.args) (is_new u m h e) (AllBelow-le t.0 a.classes.count n.args (let c = ready.count in omega (arith, c)) below)
        arg u m h (inr x) = fits.args u m (p.node.back u m x h)

        room : (u : TermId) (m : Node) → HasNode b.nodes u m → (u.0 ≡ t.0) ⊎ (u.0 ≢ t.0) → length m.args ≤ a.room
        room u m h (inl e) = subst (λ (x : Node). length x.args ≤ a.room) (is_new u m h e) ready.room
        room u m h (inr x) = fits.room u m (p.node.back u m x h)

        uses : (u : TermId) (m : Node) → HasNode b.nodes u m → (u.0 ≡ t.0) ⊎ (u.0 ≢ t.0) → (i : ℕ) (v : TermId) → slice_get m.args i ≡ Some v → Waits (uses_at a.uses v.0) u
        uses u m h (inl e) i v at = subst (λ x. Waits (uses_at a.uses v.0) x) (sym (id_from u t e)) (ready.uses i v (ap (λ (x : Node). slice_get x.args i) (is_new u m h e) ∙ at))
        uses u m h (inr x) i v at = fits.uses u m (p.node.back u m x h) i v at

    pub put_room : (place : ℕ) → place ≡ length a.added → (u : TermId) (m : Node) → slice_get b.added place ≡ Some u → HasNode b.nodes u m → cells_of b.table.rows + suc (length m.args) ≤ b.table.room
    put_room place e u m at h =
        let f : t ≡ u = one t u (sym (get_push a.added t) ∙ (ap (slice_get (a.added ++ t ∷ [])) (sym e) ∙ (sym (ap (λ (i : Kept). slice_get i.added place) p.is) ∙ at))) in
        let g = ap (λ (x : Node). length x.args) (one_node m (subst (λ x. HasNode b.nodes x m) (sym f) h)) in
        let c = ready.cells in
        let r = ap (λ (i : Kept). cells_of i.table.rows) p.is in
        let s = ap (λ (i : Kept). i.table.room) p.is in
        omega (arith, g, c, r, s)
      where
        one : (x y : TermId) → Some x ≡ Some y → x ≡ y
        one x y e = cc

    -- the term is entered
    module _ (c : Kept) (place : ℕ) (e : place ≡ length a.added) (next : EntersNext b c place) where
      b_added : b.added ≡ a.added ++ t ∷ []
      b_added = ap (λ (i : Kept). i.added) p.is

      c_added : c.added ≡ a.added ++ t ∷ []
      c_added = ap (λ (i : Kept). i.added) next.goes.is ∙ b_added

      pub added_graph : IsGraph (graph c)
      added_graph = subst (IsUpTo (graph c)) (let l = ap length c_added in let q = length_push a.added t in omega (arith, l, q, e)) next.upto

      pub adds : Adds (graph a) (graph c) t n
      adds = record {
        added = c_added;
        node = subst (HasPut a.nodes t.0 n) (sym (ap (λ (i : Kept). i.nodes) next.goes.is)) p.node;
        told = ap (λ (i : Kept). i.told) next.goes.is ∙ ap (λ (i : Kept). i.told) p.is;
        levels = ap (λ (i : Kept). i.levels) next.goes.is ∙ ap (λ (i : Kept). i.levels) p.is;
        labels_stay = λ u early.
            next.labels_stay u (record { place = early.place; early = (let l = early.early in omega (arith, l, e)); there = ap (λ ts. slice_get ts early.place) b_added ∙ (get_left a.added (t ∷ []) early.place (get_within a.added early.place u early.there) ∙ early.there) })
            ∙ ap (λ (i : Kept). label_of i.classes.joins u) p.is;
        past = λ m less.
            let levels = ap (λ (i : Kept). get_or i.levels m nowhere) next.goes.is ∙ ap (λ (i : Kept). get_or i.levels m nowhere) p.is in
            let j = (is.up m less).joins in
            let js = next.goes.joins_are ∙ ap (λ ks. ks ++ next.goes.joins) (ap (λ (i : Kept). i.classes.joins) p.is) in
            ap (λ (l : Level). take l.joins c.classes.joins) levels ∙ (ap (take (level_at (graph a) m).joins) js ∙ take-append-le (level_at (graph a) m).joins a.classes.joins next.goes.joins j);
        joins = next.goes.joins;
        joins_are = next.goes.joins_are ∙ ap (λ ks. ks ++ next.goes.joins) (ap (λ (i : Kept). i.classes.joins) p.is);
        rows = next.goes.rows;
        rows_are = next.goes.rows_are ∙ ap (λ ks. ks ++ next.goes.rows) (ap (λ (i : Kept). i.table.rows) p.is);
      }

-- ---- uses of arguments

pub below_here : (n : ℕ) (ts : List TermId) (i : ℕ) (d : TermId) → AllBelow n ts → i < length ts → (get_or ts i d).0 < n
below_here n ts i d all h = below_at n ts i d all h

pub used_more : (args : List TermId) (old new : List (List TermId)) (t : TermId) (i : ℕ) (d : TermId) → i < length args → KeepsUses old new → Waits (uses_at new (get_or args i d).0) t
    → ((k : ℕ) (u : TermId) → k < i → slice_get args k ≡ Some u → Waits (uses_at old u.0) t) → (k : ℕ) (u : TermId) → k < i + 1 → slice_get args k ≡ Some u → Waits (uses_at new u.0) t
used_more args old new t i d within keeps here before k u less at = by (same_or_apart k i)
  where
    by : (k ≡ i) ⊎ (k ≢ i) → Waits (uses_at new u.0) t
    by (inl e) = subst (λ v. Waits (uses_at new v.0) t) (one (get_or args i d) u (sym (got args i d within) ∙ (ap (slice_get args) (sym e) ∙ at))) here
      where
        one : (x y : TermId) → Some x ≡ Some y → x ≡ y
        one x y e = cc

        got : (ts : List TermId) (i : ℕ) (d : TermId) → i < length ts → slice_get ts i ≡ Some (get_or ts i d)
        got [] i d h = absurd (omega arith)
        got (x ∷ ts) zero d h = refl
        got (x ∷ ts) (suc i) d h = got ts i d (omega arith)
    by (inr a) = keeps u.0 t (before k u (omega (arith, less, a)) at)

-- ---- a term is added

module _ (k a b : Kept) (t : TermId) (n : Node) (fits : Fits k) (is : IsGraph (graph k)) (missing : IsMissing k.nodes t) (below : AllBelow t.0 n.args) (args : AreNodes k.nodes n.args) (m : MakesRoom k a) (ready : IsPrepared a t n.args) (p : Puts a t n b) where
  a_nodes : a.nodes ≡ k.nodes
  a_nodes = ap (λ (i : Kept). i.nodes) m.is

  a_graph : IsGraph (graph a)
  a_graph = subst IsGraph (sym (room_graph k a m)) is

  a_missing : IsMissing a.nodes t
  a_missing = subst (λ ns. IsMissing ns t) (sym a_nodes) missing

  a_args : AreNodes a.nodes n.args
  a_args = subst (λ ns. AreNodes ns n.args) (sym a_nodes) args

  pub ready_fits : Fits b
  ready_fits = put_fits a b t n p a_graph a_missing a_args (room_fits k a m fits) ready below

  module _ (place : ℕ) (e : place ≡ length a.added) where
    pub ready_graph : IsUpTo (graph b) place
    ready_graph = put_graph a b t n p a_graph a_missing a_args place e

    pub ready_room : (u : TermId) (o : Node) → slice_get b.added place ≡ Some u → HasNode b.nodes u o → cells_of b.table.rows + suc (length o.args) ≤ b.table.room
    ready_room = put_room a b t n p a_graph a_missing a_args (room_fits k a m fits) ready below place e

    module _ (c : Kept) (next : EntersNext b c place) where
      pub done_graph : IsGraph (graph c)
      done_graph = added_graph a b t n p a_graph a_missing a_args (room_fits k a m fits) ready below c place e next

      pub done_adds : Adds (graph k) (graph c) t n
      done_adds = subst (λ g. Adds g (graph c) t n) (room_graph k a m) (adds a b t n p a_graph a_missing a_args (room_fits k a m fits) ready below c place e next)
