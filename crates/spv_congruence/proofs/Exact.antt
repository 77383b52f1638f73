-- Terms have one class exactly where they are joined.
use Rattle.std.proofs.Common.{◌≡◌, ◌≢◌, ℕ, ◌<◌, ◌↔◌, true, nat_eq, IsTrue, List, [], ◌∷◌, ◌++◌, map, take, length, slice_get, Some, refl, sym, ap, ◌∙◌, subst, inl, inr, ◌⊎◌, arith}
use Rattle.std.proofs.lemmas.Bool.Decides.{nat_tests}
use Rattle.spv_logic.specs.declared.conditions.TermId.{TermId}
use Rattle.spv_logic.specs.Terms.{term}
use Rattle.spv_term.specs.declared.nodes.Node.{Node}
use Rattle.spv_term.specs.Arena.{Arena, IsArena, tree, trees}
use Rattle.spv_term.proofs.ArenaLemmas.{tree-node}
use Rattle.spv_union_find.specs.declared.classes.joins.Cause.{Cause}
use Rattle.spv_union_find.specs.declared.classes.joins.Cause.TheVariants as cause
use Rattle.spv_union_find.specs.declared.classes.joins.Join.{Join}
use Rattle.spv_union_find.specs.classes.Classes.{label, IsJoin, AreJoins}
use Rattle.spv_union_find.proofs.classes.Lists.{by_last, same_or_apart, get_left, get_push, get_within, nat_same, take_push, take_whole}
use Rattle.spv_union_find.proofs.classes.Labels.{label_was_lower, label_stays, all_but_last, last_join}
use Rattle.spv_term.specs.closure.Joined.{Joined, AllJoined, told, itself, turned, through, congruent, none, more, IsAmong}
use Rattle.spv_term.specs.closure.Joined as joined
use Rattle.spv_term.specs.closure.Laws.{Respects}
use Rattle.spv_term.proofs.closure.Kept.{kept}
use Rattle.spv_union_find.specs.signatures.Signatures.{held}
use Rattle.spv_congruence.specs.Graph.{Graph, id, label_of, labels, HasNode, IsEarly, IsCause, IsLink, IsEntered, IsGraph, Waits, are_same}
use Rattle.spv_congruence.specs.Keep.{Kept, graph, Fits}
use Rattle.spv_congruence.specs.Told.{IsOf, IsAdded, IsTold, IsExact}
use Rattle.spv_congruence.specs.Told as spec
use Rattle.spv_congruence.proofs.Dues.{due_none}

module _ (a : Arena) (ok : IsArena a) (g : Graph) (of : IsOf a g) where
  abbrev Same : TermId → TermId → Type 0
  Same s t = spec.Joined a g s t

  -- terms of one head whose arguments are joined one by one
  args_joined : (js : List Join) → ((s t : TermId) → label_of js s ≡ label_of js t → Same s t) → (us vs : List TermId) → map (label_of js) us ≡ map (label_of js) vs
      → AllJoined (IsAmong a (IsAdded g)) (joined.IsTold a (IsTold g)) (trees a us) (trees a vs)
  args_joined js one [] [] e = none
  args_joined js one [] (v ∷ vs) e = absurd (no _ _ e)
    where
      no : (x : ℕ) (xs : List ℕ) → [] ≡ x ∷ xs → ⊥
      no x xs e = cc
  args_joined js one (u ∷ us) [] e = absurd (no _ _ e)
    where
      no : (x : ℕ) (xs : List ℕ) → x ∷ xs ≡ [] → ⊥
      no x xs e = cc
  args_joined js one (u ∷ us) (v ∷ vs) e = more (tree a u) (tree a v) (trees a us) (trees a vs) (one u v (first _ _ _ _ e)) (args_joined js one us vs (rest _ _ _ _ e))
    where
      first : (x y : ℕ) (xs ys : List ℕ) → x ∷ xs ≡ y ∷ ys → x ≡ y
      first x y xs ys e = cc

      rest : (x y : ℕ) (xs ys : List ℕ) → x ∷ xs ≡ y ∷ ys → xs ≡ ys
      rest x y xs ys e = cc

  module _ (c : ℕ) (n : ℕ) where
    added_early : (t : TermId) → IsEarly g.added c t → IsAdded g t
    added_early t e = (e.place, e.there)

    caused : (js : List Join) → ((s t : TermId) → label_of js s ≡ label_of js t → Same s t) → (s t : TermId) → IsEarly g.added c s → IsEarly g.added c t → (why : Cause) → IsCause g.nodes g.told n js s t why → Same s t
    caused js one s t es et (cause.Told place) h =
        let f = h.1 in
        told (tree a s) (tree a t) (record { left = s; right = t; told = (place, f); left_is = refl; right_is = refl })
    caused js one s t es et cause.Congruent h =
        let s_is : tree a s ≡ term h.left.head (trees a h.left.args) = tree-node a ok s h.left (of.node s h.left h.left_is) in
        let t_is : tree a t ≡ term h.left.head (trees a h.right.args) = tree-node a ok t h.right (of.node t h.right h.right_is) ∙ ap (λ k. term k (trees a h.right.args)) (sym h.heads) in
        subst (λ u. Joined (IsAmong a (IsAdded g)) (joined.IsTold a (IsTold g)) u (tree a t)) (sym s_is)
        (subst (λ u. Joined (IsAmong a (IsAdded g)) (joined.IsTold a (IsTold g)) (term h.left.head (trees a h.left.args)) u) (sym t_is)
        (congruent h.left.head (trees a h.left.args) (trees a h.right.args)
        (record { id = s; added = added_early s es; is = s_is }) (record { id = t; added = added_early t et; is = t_is })
        (args_joined js one h.left.args h.right.args h.args)))

    -- terms of one class are joined
    sound : (count : ℕ) (js : List Join) → AreJoins count js → ((i : ℕ) (j : Join) → slice_get js i ≡ Some j → IsLink g.nodes g.added c g.told n (take i js) j) → (s t : TermId) → label_of js s ≡ label_of js t → Same s t
    sound count = by_last (λ js. AreJoins count js → ((i : ℕ) (j : Join) → slice_get js i ≡ Some j → IsLink g.nodes g.added c g.told n (take i js) j) → (s t : TermId) → label_of js s ≡ label_of js t → Same s t) step
        (λ are links s t e. subst (λ u. Same s u) (same_id s t e) (itself (tree a s)))
      where
        same_id : (s t : TermId) → s.0 ≡ t.0 → s ≡ t
        same_id s t e = ap id e

        step : (js : List Join) (j : Join) → (AreJoins count js → ((i : ℕ) (k : Join) → slice_get js i ≡ Some k → IsLink g.nodes g.added c g.told n (take i js) k) → (s t : TermId) → label_of js s ≡ label_of js t → Same s t)
            → AreJoins count (js ++ j ∷ []) → ((i : ℕ) (k : Join) → slice_get (js ++ j ∷ []) i ≡ Some k → IsLink g.nodes g.added c g.told n (take i (js ++ j ∷ [])) k) → (s t : TermId) → label_of (js ++ j ∷ []) s ≡ label_of (js ++ j ∷ []) t → Same s t
        step js j old are links s t e = by (same_or_apart (label_of js s) j.lower) (same_or_apart (label_of js t) j.lower)
          where
            before : (i : ℕ) (k : Join) → slice_get js i ≡ Some k → IsLink g.nodes g.added c g.told n (take i js) k
            before i k at = subst (λ ks. IsLink g.nodes g.added c g.told n ks k) (take_push i js j (let w = get_within js i k at in omega (arith, w))) (links i k (get_left js (j ∷ []) i (get_within js i k at) ∙ at))

            link : IsLink g.nodes g.added c g.told n js j
            link = subst (λ ks. IsLink g.nodes g.added c g.told n ks j) (take_whole js (j ∷ [])) (links (length js) j (get_push js j))

            is : IsJoin count js j
            is = last_join count js j are

            one : (s t : TermId) → label_of js s ≡ label_of js t → Same s t
            one = old (all_but_last count js j are) before

            sides : Same (id j.left) (id j.right)
            sides = caused js one (id j.left) (id j.right) link.left link.right j.cause link.cause

            across : (s t : TermId) → label_of js s ≡ j.lower → label_of js t ≡ j.upper → Same s t
            across s t low high = cross is.sides
              where
                cross : ((label js j.left ≡ j.lower) × (label js j.right ≡ j.upper)) ⊎ ((label js j.left ≡ j.upper) × (label js j.right ≡ j.lower)) → Same s t
                cross (inl h) = through (tree a s) (tree a (id j.left)) (tree a t) (one s (id j.left) (low ∙ sym h.0))
                    (through (tree a (id j.left)) (tree a (id j.right)) (tree a t) sides (one (id j.right) t (h.1 ∙ sym high)))
                cross (inr h) = through (tree a s) (tree a (id j.right)) (tree a t) (one s (id j.right) (low ∙ sym h.1))
                    (through (tree a (id j.right)) (tree a (id j.left)) (tree a t) (turned (tree a (id j.left)) (tree a (id j.right)) sides) (one (id j.left) t (h.0 ∙ sym high)))

            by : (label_of js s ≡ j.lower) ⊎ (label_of js s ≢ j.lower) → (label_of js t ≡ j.lower) ⊎ (label_of js t ≢ j.lower) → Same s t
            by (inl x) (inl y) = one s t (x ∙ sym y)
            by (inr x) (inr y) = one s t (sym (label_stays js j s.0 x) ∙ (e ∙ label_stays js j t.0 y))
            by (inl x) (inr y) = across s t x (sym (label_stays js j t.0 y) ∙ (sym e ∙ label_was_lower js j s.0 x))
            by (inr x) (inl y) = turned (tree a t) (tree a s) (across t s y (sym (label_stays js j s.0 x) ∙ (e ∙ label_was_lower js j t.0 y)))

module _ (k : Kept) (fits : Fits k) (is : IsGraph (graph k)) (a : Arena) (ok : IsArena a) (of : IsOf a (graph k)) where
  respects : Respects a (IsAdded (graph k)) (IsTold (graph k)) (label_of k.classes.joins)
  respects = record {
    within = λ t h. let n = fits.terms.noded h.0 t h.1 in in_arena t n.0 n.1;
    sides = λ s t h. let f = h.1 in let ns = fits.facts h.0 f.fact f.there in
        (subst (λ u. u.0 < length a.nodes) f.left (in_arena f.fact.left ns.0.0 ns.0.1), subst (λ u. u.0 < length a.nodes) f.right (in_arena f.fact.right ns.1.0 ns.1.1));
    told = λ s t h. let f = h.1 in
        ap (label_of k.classes.joins) (sym f.left) ∙ (due_none k.classes.joins f.fact.left f.fact.right (is.now.told_due h.0 f.fact (get_within k.told h.0 f.fact f.there) f.there f.equal) ∙ ap (label_of k.classes.joins) f.right);
    congruent = λ s t m n hs ht ms nt heads args.
        let p = fits.terms.noded hs.0 s hs.1 in
        let q = fits.terms.noded ht.0 t ht.1 in
        let e : p.0 ≡ m = one p.0 m (sym (of.node s p.0 p.1) ∙ ms) in
        let f : q.0 ≡ n = one q.0 n (sym (of.node t q.0 q.1) ∙ nt) in
        by s t p.0 q.0 (is.now.entered s p.0 (record { place = hs.0; early = get_within k.added hs.0 s hs.1; there = hs.1 }) p.1) (is.now.entered t q.0 (record { place = ht.0; early = get_within k.added ht.0 t ht.1; there = ht.1 }) q.1)
        (ap (λ (x : Node). x.head) e ∙ (heads ∙ ap (λ (x : Node). x.head) (sym f)))
        (ap (λ (x : Node). labels k.classes.joins x) e ∙ (args ∙ ap (λ (x : Node). labels k.classes.joins x) (sym f)));
  }
    where
      in_arena : (t : TermId) (n : Node) → HasNode k.nodes t n → t.0 < length a.nodes
      in_arena t n h = get_within a.nodes t.0 n (of.node t n h)

      one : (m n : Node) → Some m ≡ Some n → m ≡ n
      one m n e = cc

      one_id : (m n : TermId) → Some m ≡ Some n → m ≡ n
      one_id m n e = cc

      no : (t : TermId) → Waits [] t → ⊥
      no t w = cc

      by : (s t : TermId) (m n : Node) → Waits [] s ⊎ IsEntered k.classes.joins k.table.rows [] s m → Waits [] t ⊎ IsEntered k.classes.joins k.table.rows [] t n → m.head ≡ n.head → labels k.classes.joins m ≡ labels k.classes.joins n
          → label_of k.classes.joins s ≡ label_of k.classes.joins t
      by s t m n (inl w) b heads args = absurd (no s w)
      by s t m n (inr x) (inl w) heads args = absurd (no t w)
      by s t m n (inr x) (inr y) heads args =
          let e : x.first ≡ y.first = one_id x.first y.first (sym x.found ∙ (ap (λ h. held k.table.rows h (labels k.classes.joins m)) heads ∙ (ap (held k.table.rows n.head) args ∙ y.found))) in
          sym (due_none k.classes.joins x.first s x.due) ∙ (ap (label_of k.classes.joins) e ∙ due_none k.classes.joins y.first t y.due)

  pub exact_at : AreJoins k.classes.count k.classes.joins → (s t : TermId) (m n : Node) → HasNode k.nodes s m → HasNode k.nodes t n → IsTrue (are_same (graph k) s t) ↔ spec.Joined a (graph k) s t
  exact_at are s t m n hs ht = (
    (λ h. sound a ok (graph k) of (length k.added) (length k.told) k.classes.count k.classes.joins are is.now.joins_are s t (equal _ _ h)),
    (λ d. tested _ _ (kept a ok (IsAdded (graph k)) (IsTold (graph k)) (label_of k.classes.joins) respects s t (get_within a.nodes s.0 m (of.node s m hs)) (get_within a.nodes t.0 n (of.node t n ht)) d)),
  )
    where
      equal : (x y : ℕ) → nat_eq x y ≡ true → x ≡ y
      equal x y h = grind (arith, nat_tests)

      tested : (x y : ℕ) → x ≡ y → nat_eq x y ≡ true
      tested x y e = ap (λ z. nat_eq x z) (sym e) ∙ nat_same x

pub exact : (k : Kept) → Fits k → IsGraph (graph k) → AreJoins k.classes.count k.classes.joins → IsExact (graph k)
exact k fits is are a ok of s t m n hs ht = exact_at k fits is a ok of are s t m n hs ht
