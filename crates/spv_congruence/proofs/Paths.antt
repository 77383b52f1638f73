-- Paths of terms that were not added.
use Rattle.std.proofs.Common.{◌≡◌, ◌≢◌, ℕ, suc, ◌+◌, ◌*◌, ◌<◌, ◌≤◌, true, not, List, [], ◌∷◌, ◌++◌, length, slice_get, Option, Some, None, refl, sym, ap, ◌∙◌, subst, inl, inr, ◌⊎◌, arith}
use Rattle.std.proofs.lemmas.List.{append-nil, append_assoc}
use Rattle.std.proofs.Math.Nat.{suc-mul}
use Rattle.spv_logic.specs.declared.conditions.TermId.{TermId}
use Rattle.spv_term.specs.declared.nodes.Node.{Node}
use Rattle.spv_term.specs.Arena.{Arena, IsArena}
use Rattle.spv_term.proofs.NodeLemmas.{id_from}
use Rattle.spv_term.proofs.ArenaLemmas.{args_before}
use Rattle.spv_term.proofs.TreeLemmas.{AllBelow-at}
use Rattle.spv_union_find.proofs.classes.Lists.{get_left, get_within, same_or_apart}
use Rattle.spv_union_find.proofs.classes.Counts.{count_less}
use Rattle.spv_congruence.specs.Graph.{Graph, HasNode, IsEarly}
use Rattle.spv_congruence.specs.Keep.{Kept, graph, HasPut, IsMissing, IsNode}
use Rattle.spv_congruence.specs.Told.{IsPart, argument, AddsParts, IsOf}
use Rattle.spv_congruence.specs.Walk.{known, IsPath, GoesDown, IsDone, Steps, missing_in, last_of}

module _ (a : Arena) (t : TermId) (nodes : List (Option Node)) where
  pub last_below : (b : ℕ) (xs : List TermId) (x : TermId) → IsPath a t nodes b (xs ++ x ∷ []) → x.0 < b
  last_below b [] x p = p.0
  last_below b (y ∷ ys) x p = let h = last_below y.0 ys x p.3 in let g = p.0 in omega (arith, h, g)

  pub last_missing : (b : ℕ) (xs : List TermId) (x : TermId) → IsPath a t nodes b (xs ++ x ∷ []) → IsMissing nodes x
  last_missing b [] x p = p.1
  last_missing b (y ∷ ys) x p = last_missing y.0 ys x p.3

  pub last_part : (b : ℕ) (xs : List TermId) (x : TermId) → IsPath a t nodes b (xs ++ x ∷ []) → IsPart a t x
  last_part b [] x p = p.2
  last_part b (y ∷ ys) x p = last_part y.0 ys x p.3

  pub path_down : (b : ℕ) (xs : List TermId) (x u : TermId) → IsPath a t nodes b (xs ++ x ∷ []) → u.0 < x.0 → IsMissing nodes u → IsPart a t u → IsPath a t nodes b (xs ++ x ∷ u ∷ [])
  path_down b [] x u p less missing part = (p.0, p.1, p.2, (less, missing, part, tt))
  path_down b (y ∷ ys) x u p less missing part = (p.0, p.1, p.2, path_down y.0 ys x u p.3 less missing part)

  pub path_done : (nodes' : List (Option Node)) (n : Node) (b : ℕ) (xs : List TermId) (x : TermId) → HasPut nodes x.0 n nodes' → IsPath a t nodes b (xs ++ x ∷ []) → IsPath a t nodes' b xs
  path_done nodes' n b [] x put p = tt
  path_done nodes' n b (y ∷ ys) x put p =
      let h = last_below y.0 ys x p.3 in
      (p.0, (λ m is. p.1 m (put.back y m (no y x h) is)), p.2, path_done nodes' n y.0 ys x put p.3)
    where
      no : (y x : TermId) → x.0 < y.0 → y.0 ≢ x.0
      no y x h e = omega (arith, h, e)

  pub last_small : (b : ℕ) (xs : List TermId) → IsPath a t nodes b xs → last_of xs ≤ b
  last_small b [] p = omega arith
  last_small b (x ∷ []) p = let h = p.0 in omega (arith, h)
  last_small b (x ∷ y ∷ xs) p = let h = last_small x.0 (y ∷ xs) p.3 in let g = p.0 in omega (arith, h, g)

pub last_push : (xs : List TermId) (x : TermId) → last_of (xs ++ x ∷ []) ≡ x.0 + 1
last_push [] x = refl
last_push (y ∷ []) x = refl
last_push (y ∷ z ∷ xs) x = last_push (z ∷ xs) x

pub last_two : (xs : List TermId) (x u : TermId) → last_of (xs ++ x ∷ u ∷ []) ≡ u.0 + 1
last_two [] x u = refl
last_two (y ∷ []) x u = refl
last_two (y ∷ z ∷ xs) x u = last_two (z ∷ xs) x u

pub first_stays : (xs : List TermId) (x t : TermId) (ys : List TermId) → slice_get (xs ++ x ∷ []) 0 ≡ Some t → slice_get (xs ++ x ∷ ys) 0 ≡ Some t
first_stays [] x t ys e = e
first_stays (y ∷ xs) x t ys e = e

pub first_left : (xs : List TermId) (x t : TermId) → slice_get (xs ++ x ∷ []) 0 ≡ Some t → (slice_get xs 0 ≡ Some t) ⊎ (x ≡ t)
first_left [] x t e = inr (one x t e)
  where
    one : (x t : TermId) → Some x ≡ Some t → x ≡ t
    one x t e = cc
first_left (y ∷ xs) x t e = inl e

-- ---- how many are missing

not_known : (nodes : List (Option Node)) (x : TermId) → IsMissing nodes x → not (known (slice_get nodes x.0)) ≡ true
not_known nodes x none = by (slice_get nodes x.0) refl
  where
    by : (o : Option (Option Node)) → slice_get nodes x.0 ≡ o → not (known o) ≡ true
    by None e = refl
    by (Some None) e = refl
    by (Some (Some n)) e = absurd (none n e)

one_less : (nodes nodes' : List (Option Node)) (x : TermId) (n : Node) (count : ℕ) → x.0 < count → IsMissing nodes x → HasPut nodes x.0 n nodes' → missing_in nodes count ≡ suc (missing_in nodes' count)
one_less nodes nodes' x n count within none put = count_less (λ y. not (known (slice_get nodes y))) (λ y. not (known (slice_get nodes' y))) count x.0 within (not_known nodes x none) (ap (λ o. not (known o)) put.there)
    (λ y a. by y a (slice_get nodes y) refl (slice_get nodes' y) refl)
  where
    by : (y : ℕ) → y ≢ x.0 → (o : Option (Option Node)) → slice_get nodes y ≡ o → (p : Option (Option Node)) → slice_get nodes' y ≡ p → not (known o) ≡ not (known p)
    by y a (Some (Some m)) e (Some (Some k)) f = refl
    by y a (Some (Some m)) e (Some None) f = absurd (no m (sym (put.kept (record { 0 = y }) m a e) ∙ f))
      where
        no : (m : Node) → Some (Some m) ≡ Some None → ⊥
        no m e = cc
    by y a (Some (Some m)) e None f = absurd (no m (sym (put.kept (record { 0 = y }) m a e) ∙ f))
      where
        no : (m : Node) → Some (Some m) ≡ None → ⊥
        no m e = cc
    by y a (Some None) e (Some (Some k)) f = absurd (no k (sym (put.back (record { 0 = y }) k a f) ∙ e))
      where
        no : (m : Node) → Some (Some m) ≡ Some None → ⊥
        no m e = cc
    by y a None e (Some (Some k)) f = absurd (no k (sym (put.back (record { 0 = y }) k a f) ∙ e))
      where
        no : (m : Node) → Some (Some m) ≡ None → ⊥
        no m e = cc
    by y a (Some None) e (Some None) f = refl
    by y a (Some None) e None f = refl
    by y a None e (Some None) f = refl
    by y a None e None f = refl

pub parts_refl : (a : Arena) (t : TermId) (g : Graph) → AddsParts a t g g
parts_refl a t g = record { kept = λ u n is. is; parts = λ u n is. inl is; more = []; added = sym (append-nil g.added); told = refl; levels = refl; labels_stay = λ u e. refl; past = λ m l. refl }

module _ (a : Arena) (ok : IsArena a) (t : TermId) (start old new : Kept) (xs rest : List TermId) (x : TermId) (path : IsPath a t old.nodes (length a.nodes) (xs ++ x ∷ [])) where
  part : IsPart a t x
  part = last_part a t old.nodes (length a.nodes) xs x path

  none : IsMissing old.nodes x
  none = last_missing a t old.nodes (length a.nodes) xs x path

  within : x.0 < length a.nodes
  within = last_below a t old.nodes (length a.nodes) xs x path

  module _ (d : IsDone a old new xs x rest) where
    done_of : IsOf a (graph old) → IsOf a (graph new)
    done_of of = record { node = λ u n is. by u n is (same_or_apart u.0 x.0) }
      where
        one : (m k : Node) → Some (Some m) ≡ Some (Some k) → m ≡ k
        one m k e = cc

        by : (u : TermId) (n : Node) → HasNode new.nodes u n → (u.0 ≡ x.0) ⊎ (u.0 ≢ x.0) → slice_get a.nodes u.0 ≡ Some n
        by u n is (inl e) = ap (slice_get a.nodes) e ∙ (d.is ∙ ap Some (one d.node n (sym d.adds.node.there ∙ (ap (slice_get new.nodes) (sym e) ∙ is))))
        by u n is (inr b) = of.node u n (d.adds.node.back u n b is)

    done_parts : AddsParts a t (graph start) (graph old) → AddsParts a t (graph start) (graph new)
    done_parts p = record {
      kept = λ u n is. let h = p.kept u n is in d.adds.node.kept u n (λ e. none n (subst (λ y. HasNode old.nodes y n) (id_from u x e) h)) h;
      parts = λ u n is. by u n is (same_or_apart u.0 x.0);
      more = p.more ++ x ∷ [];
      added = d.adds.added ∙ (ap (λ ts. ts ++ x ∷ []) p.added ∙ append_assoc start.added p.more (x ∷ []));
      told = d.adds.told ∙ p.told;
      levels = d.adds.levels ∙ p.levels;
      labels_stay = λ u e. d.adds.labels_stay u (early u e) ∙ p.labels_stay u e;
      past = λ m l. d.adds.past m (let w = ap length p.told in omega (arith, w, l)) ∙ p.past m l;
    }
      where
        by : (u : TermId) (n : Node) → HasNode new.nodes u n → (u.0 ≡ x.0) ⊎ (u.0 ≢ x.0) → (HasNode start.nodes u n) ⊎ IsPart a t u
        by u n is (inl e) = inr (subst (IsPart a t) (sym (id_from u x e)) part)
        by u n is (inr b) = p.parts u n (d.adds.node.back u n b is)

        early : (u : TermId) → IsEarly start.added (length start.added) u → IsEarly old.added (length old.added) u
        early u e =
            let there = ap (λ ts. slice_get ts e.place) p.added ∙ (get_left start.added p.more e.place (get_within start.added e.place u e.there) ∙ e.there) in
            record { place = e.place; early = get_within old.added e.place u there; there = there }

  -- what a turn of the loop keeps
  pub step_of : Steps a old new xs x rest → IsOf a (graph old) → IsOf a (graph new)
  step_of (inl h) of = subst (λ k. IsOf a (graph k)) (sym h.0) of
  step_of (inr d) of = done_of d of

  pub step_parts : Steps a old new xs x rest → AddsParts a t (graph start) (graph old) → AddsParts a t (graph start) (graph new)
  step_parts (inl h) p = subst (λ k. AddsParts a t (graph start) (graph k)) (sym h.0) p
  step_parts (inr d) p = done_parts d p

  down_less : (h : GoesDown a old.nodes xs x rest) → h.to.0 < x.0
  down_less h = AllBelow-at x.0 h.node.args h.place h.to (args_before a ok x h.node h.is) h.there

  pub step_path : Steps a old new xs x rest → IsPath a t new.nodes (length a.nodes) rest
  step_path (inl h) =
      let g = h.1 in
      subst (λ (k : Kept). IsPath a t k.nodes (length a.nodes) rest) (sym h.0) (subst (IsPath a t old.nodes (length a.nodes)) (sym g.path)
      (path_down a t old.nodes (length a.nodes) xs x g.to path (down_less g) g.missing (argument x g.node g.place g.to part g.is g.there)))
  step_path (inr d) = subst (IsPath a t new.nodes (length a.nodes)) (sym d.path_is) (path_done a t old.nodes new.nodes d.node (length a.nodes) xs x d.adds.node path)

  pub step_first : Steps a old new xs x rest → (slice_get (xs ++ x ∷ []) 0 ≡ Some t) ⊎ IsNode old.nodes t → (slice_get rest 0 ≡ Some t) ⊎ IsNode new.nodes t
  step_first (inl h) (inl f) = inl (ap (λ ys. slice_get ys 0) h.1.path ∙ first_stays xs x t (h.1.to ∷ []) f)
  step_first (inl h) (inr n) = inr (subst (λ (k : Kept). IsNode k.nodes t) (sym h.0) n)
  step_first (inr d) (inl f) = by (first_left xs x t f)
    where
      by : (slice_get xs 0 ≡ Some t) ⊎ (x ≡ t) → (slice_get rest 0 ≡ Some t) ⊎ IsNode new.nodes t
      by (inl e) = inl (ap (λ ys. slice_get ys 0) d.path_is ∙ e)
      by (inr e) = inr (d.node, subst (λ y. HasNode new.nodes y d.node) e d.adds.node.there)
  step_first (inr d) (inr n) = inr (n.0, d.adds.node.kept t n.0 (λ e. none n.0 (subst (λ y. HasNode old.nodes y n.0) (id_from t x e) n.1)) n.1)

  pub step_smaller : Steps a old new xs x rest → missing_in new.nodes (length a.nodes) * (length a.nodes + 2) + last_of rest < missing_in old.nodes (length a.nodes) * (length a.nodes + 2) + last_of (xs ++ x ∷ [])
  step_smaller (inl h) =
      let e = ap (λ (k : Kept). missing_in k.nodes (length a.nodes) * (length a.nodes + 2)) h.0 in
      let l = ap last_of h.1.path ∙ last_two xs x h.1.to in
      let k = last_push xs x in
      let d = down_less h.1 in
      omega (arith, e, l, k, d)
  step_smaller (inr d) =
      let e = one_less old.nodes new.nodes x d.node (length a.nodes) within none d.adds.node in
      let m = ap (λ y. y * (length a.nodes + 2)) e ∙ suc-mul (missing_in new.nodes (length a.nodes)) (length a.nodes + 2) in
      let s = ap last_of d.path_is in
      let w = last_small a t new.nodes (length a.nodes) xs (path_done a t old.nodes new.nodes d.node (length a.nodes) xs x d.adds.node path) in
      omega (arith, m, s, w)
