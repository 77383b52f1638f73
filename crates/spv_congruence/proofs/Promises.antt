-- What the calls of a graph promise.
use Rattle.std.proofs.Common.{◌≡◌, ◌≢◌, ℕ, ◌*◌, ◌<◌, ◌≤◌, List, [], ◌∷◌, ◌++◌, take, length, get_or, Result, Ok, Err, OnOk, refl, sym, ap, ◌∙◌, subst, inl, inr, ◌⊎◌, arith}
use Rattle.std.proofs.lemmas.List.{append_assoc, append-nil, take_all, take-append-le, get_or_append_left, get_or_push}
use Rattle.spv_union_find.specs.declared.classes.joins.Join.{Join}
use Rattle.spv_union_find.specs.classes.Classes.{label, size, IsJoin, AreJoins}
use Rattle.spv_union_find.proofs.classes.Lists.{by_last, same_or_apart, take_whole}
use Rattle.spv_union_find.proofs.classes.Labels.{label_was_lower, label_stays, all_but_last, last_join}
use Rattle.spv_union_find.proofs.classes.Circles.{size_upper, size_other}
use Rattle.spv_congruence.specs.declared.facts.Fact.{Fact}
use Rattle.spv_congruence.specs.declared.facts.Level.{Level}
use Rattle.spv_congruence.specs.Graph.{IsGraph, now_at, nowhere, level_at, joins_at}
use Rattle.spv_congruence.specs.Keep.{Kept, graph, Tells, Undoes}
use Rattle.spv_congruence.specs.Told.{Joins, Undone}

pub on_ok : {T E : Type 0} {P Q : Type 0} (r : Result T E) → OnOk r P → (P → Q) → OnOk r Q
on_ok (Ok x) h f = f h
on_ok (Err e) h f = h

-- ---- a class that gets another label has twice as many members

record IsBigger (js ks : List Join) (x : ℕ) : Type 0 where
  pub changed : (label ks x ≡ label js x) ⊎ (2 * size js (label js x) ≤ size ks (label ks x))
  pub more : size js (label js x) ≤ size ks (label ks x)

bigger : (count : ℕ) (js ms : List Join) → AreJoins count (js ++ ms) → (x : ℕ) → IsBigger js (js ++ ms) x
bigger count js = by_last (λ ms. AreJoins count (js ++ ms) → (x : ℕ) → IsBigger js (js ++ ms) x) step
    (λ are x. subst (λ ks. IsBigger js ks x) (sym (append-nil js)) (record { changed = inl refl; more = omega arith }))
  where
    step : (ms : List Join) (j : Join) → (AreJoins count (js ++ ms) → (x : ℕ) → IsBigger js (js ++ ms) x) → AreJoins count (js ++ (ms ++ j ∷ [])) → (x : ℕ) → IsBigger js (js ++ (ms ++ j ∷ [])) x
    step ms j old all x = subst (λ ks. IsBigger js ks x) (append_assoc js ms (j ∷ [])) (by (same_or_apart (label (js ++ ms) x) j.lower) (same_or_apart (label (js ++ ms) x) j.upper) was.changed)
      where
        here : AreJoins count ((js ++ ms) ++ j ∷ [])
        here = subst (AreJoins count) (sym (append_assoc js ms (j ∷ []))) all

        are : AreJoins count (js ++ ms)
        are = all_but_last count (js ++ ms) j here

        is : IsJoin count (js ++ ms) j
        is = last_join count (js ++ ms) j here

        was : IsBigger js (js ++ ms) x
        was = old are x

        kept : label ((js ++ ms) ++ j ∷ []) x ≡ label (js ++ ms) x → size (js ++ ms) (label (js ++ ms) x) ≤ size ((js ++ ms) ++ j ∷ []) (label ((js ++ ms) ++ j ∷ []) x)
            → (label (js ++ ms) x ≡ label js x) ⊎ (2 * size js (label js x) ≤ size (js ++ ms) (label (js ++ ms) x)) → IsBigger js ((js ++ ms) ++ j ∷ []) x
        kept e h (inl f) = record { changed = inl (e ∙ f); more = (let m = was.more in omega (arith, m, h)) }
        kept e h (inr d) = record { changed = inr (omega (arith, d, h)); more = (let m = was.more in omega (arith, m, h)) }

        by : (label (js ++ ms) x ≡ j.lower) ⊎ (label (js ++ ms) x ≢ j.lower) → (label (js ++ ms) x ≡ j.upper) ⊎ (label (js ++ ms) x ≢ j.upper)
            → (label (js ++ ms) x ≡ label js x) ⊎ (2 * size js (label js x) ≤ size (js ++ ms) (label (js ++ ms) x)) → IsBigger js ((js ++ ms) ++ j ∷ []) x
        by (inl e) d c =
            let f = ap (size ((js ++ ms) ++ j ∷ [])) (label_was_lower (js ++ ms) j x e) ∙ size_upper count (js ++ ms) j are is in
            let g = ap (size (js ++ ms)) e in
            let m = was.more in
            let s = is.smaller in
            record { changed = inr (omega (arith, f, g, m, s)); more = omega (arith, f, g, m, s) }
        by (inr a) (inl e) c =
            let l = label_stays (js ++ ms) j x a in
            let f = ap (size ((js ++ ms) ++ j ∷ [])) (l ∙ e) ∙ size_upper count (js ++ ms) j are is in
            let g = ap (size (js ++ ms)) e in
            kept l (omega (arith, f, g)) c
        by (inr a) (inr b) c =
            let l = label_stays (js ++ ms) j x a in
            let f = ap (size ((js ++ ms) ++ j ∷ [])) l ∙ size_other count (js ++ ms) j are is (label (js ++ ms) x) b in
            kept l (omega (arith, f)) c

-- ---- telling

pub joins_is : (k k' : Kept) (x : Fact) → Tells k k' x → IsGraph (graph k) → AreJoins k'.classes.count k'.classes.joins → Joins (graph k) x (graph k')
joins_is k k' x tells is are =
    let g = tells.goes in
    record {
      nodes = ap (λ (i : Kept). i.nodes) g.is;
      added = ap (λ (i : Kept). i.added) g.is;
      told = ap (λ (i : Kept). i.told) g.is;
      here = ap (λ (l : Level). take l.joins k'.classes.joins) level_here ∙ (ap (take (length k.classes.joins)) g.joins_are ∙ take_whole k.classes.joins g.joins);
      past = λ m less. let j = (is.up m less).joins in
          ap (λ (l : Level). take l.joins k'.classes.joins) (level_past m less) ∙ (ap (take (level_at (graph k) m).joins) g.joins_are ∙ take-append-le (level_at (graph k) m).joins k.classes.joins g.joins j);
      terms_here = ap (λ (l : Level). l.added) level_here;
      terms_past = λ m less. ap (λ (l : Level). l.added) (level_past m less);
      doubled = λ t. subst (λ ks. (label ks t.0 ≡ label k.classes.joins t.0) ⊎ (2 * size k.classes.joins (label k.classes.joins t.0) ≤ size ks (label ks t.0))) (sym g.joins_are)
          (bigger k'.classes.count k.classes.joins g.joins (subst (AreJoins k'.classes.count) g.joins_are are) t.0).changed;
    }
  where
    levels_are : k'.levels ≡ k.levels ++ now_at (graph k) ∷ []
    levels_are = ap (λ (i : Kept). i.levels) tells.goes.is

    level_here : level_at (graph k') (length k.told) ≡ now_at (graph k)
    level_here = ap (λ ls. get_or ls (length k.told) nowhere) levels_are ∙ get_or_push k.levels (now_at (graph k)) nowhere (length k.told) is.many

    level_past : (m : ℕ) → m < length k.told → level_at (graph k') m ≡ level_at (graph k) m
    level_past m less = ap (λ ls. get_or ls m nowhere) levels_are ∙ get_or_append_left k.levels (now_at (graph k) ∷ []) nowhere m (let e = is.many in omega (arith, e, less))

-- ---- taking back

less_or_same : (n m : ℕ) → n ≤ m → (n < m) ⊎ (n ≡ m)
less_or_same n m h = by (same_or_apart n m)
  where
    by : (n ≡ m) ⊎ (n ≢ m) → (n < m) ⊎ (n ≡ m)
    by (inl e) = inr e
    by (inr a) = inl (omega (arith, h, a))

pub undone_graph : (k k' : Kept) (n : ℕ) → n ≤ length k.told → IsGraph (graph k) → (n ≡ length k.told → k' ≡ k) → (n < length k.told → Undoes k n k') → IsGraph (graph k')
undone_graph k k' n le is same back = by (less_or_same n (length k.told) le)
  where
    by : (n < length k.told) ⊎ (n ≡ length k.told) → IsGraph (graph k')
    by (inl h) = (back h).graph_is
    by (inr e) = subst (λ i. IsGraph (graph i)) (sym (same e)) is

pub undone_is : (k k' : Kept) (n : ℕ) → n ≤ length k.told → IsGraph (graph k) → (n ≡ length k.told → k' ≡ k) → (n < length k.told → Undoes k n k') → Undone (graph k) n (graph k')
undone_is k k' n le is same back = by (less_or_same n (length k.told) le)
  where
    no : n < length k.told → n ≡ length k.told → ⊥
    no h e = omega (arith, h, e)

    by : (n < length k.told) ⊎ (n ≡ length k.told) → Undone (graph k) n (graph k')
    by (inl h) = let b = back h in record {
      nodes = b.nodes;
      added = b.added;
      told = b.told;
      same = λ e. absurd (no h e);
      classes = λ t l early. b.labels_are t early;
      past = λ m l j. (b.past m l).1;
      terms_past = λ m l j. ap (λ (v : Level). v.added) (b.past m l).0;
    }
    by (inr e) = let f = same e in record {
      nodes = ap (λ (i : Kept). i.nodes) f;
      added = ap (λ (i : Kept). i.added) f;
      told = ap (λ (i : Kept). i.told) f ∙ sym (take_all n k.told (omega (arith, e)));
      same = λ g. ap graph f;
      classes = λ t l early. absurd (no l e);
      past = λ m l j. ap (λ (i : Kept). joins_at (graph i) m) f;
      terms_past = λ m l j. ap (λ (i : Kept). (level_at (graph i) m).added) f;
    }
