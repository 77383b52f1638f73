-- A graph that has grown by terms, and how they are taken away again.
use Rattle.std.proofs.Common.{◌≡◌, ◌≢◌, ℕ, zero, suc, ◌+◌, ◌<◌, ◌≤◌, List, [], ◌∷◌, ◌++◌, take, length, set, slice_get, Option, Some, None, refl, sym, ap, ◌∙◌, subst, inl, inr, ◌⊎◌, arith}
use Rattle.std.proofs.lemmas.List.{append-nil, append_assoc, length-append, length-set}
use Rattle.spv_logic.specs.declared.conditions.TermId.{TermId}
use Rattle.spv_term.specs.declared.nodes.Node.{Node}
use Rattle.spv_term.specs.Arena.{Arena}
use Rattle.spv_union_find.specs.declared.classes.joins.Join.{Join}
use Rattle.spv_union_find.proofs.classes.Lists.{get_left, get_within, got, same_or_apart, take_whole}
use Rattle.spv_union_find.specs.signatures.Signatures.{Signature}
use Rattle.spv_congruence.specs.declared.facts.Fact.{Fact}
use Rattle.spv_congruence.specs.declared.facts.Level.{Level}
use Rattle.spv_congruence.specs.Graph.{Graph, HasNode, AreTerms, now_at}
use Rattle.spv_congruence.specs.Keep.{Kept, graph, Fits, IsNode, IsMissing, Adds, HasGrown, AreEmptied, IsTakenBack}
use Rattle.spv_congruence.specs.Walk.{Steps}
use Rattle.spv_congruence.proofs.AddLemmas.{set_same, set_other, of_last}

-- ---- growing

pub grown_refl : (g : Graph) → HasGrown g g
grown_refl g = record {
  told = refl;
  levels = refl;
  terms = [];
  added = sym (append-nil g.added);
  joins = [];
  joins_are = sym (append-nil g.joins);
  rows = [];
  rows_are = sym (append-nil g.rows);
  places = omega arith;
  kept = λ t n is. is;
  fresh = λ i t past at within. absurd (let h = get_within g.added i t at in let c : ⊥ = omega (arith, h, past) in c);
  stays = λ x within none. refl;
}

-- where there is no node, the place is empty
empty_at : (nodes : List (Option Node)) (t : TermId) → t.0 < length nodes → ((n : Node) → HasNode nodes t n → ⊥) → slice_get nodes t.0 ≡ Some None
empty_at nodes t within none = by (got nodes t.0 within)
  where
    by : (o : Option Node) × (slice_get nodes t.0 ≡ Some o) → slice_get nodes t.0 ≡ Some None
    by (None, e) = e
    by (Some n, e) = absurd (none n e)

module _ (start old new : Graph) (x : TermId) (n : Node) (missing : IsMissing old.nodes x) (adds : Adds old new x n) (g : HasGrown start old) where
  pub grown_more : HasGrown start new
  grown_more = record {
    told = adds.told ∙ g.told;
    levels = adds.levels ∙ g.levels;
    terms = g.terms ++ x ∷ [];
    added = adds.added ∙ (ap (λ ts. ts ++ x ∷ []) g.added ∙ append_assoc start.added g.terms (x ∷ []));
    joins = g.joins ++ adds.joins;
    joins_are = adds.joins_are ∙ (ap (λ js. js ++ adds.joins) g.joins_are ∙ append_assoc start.joins g.joins adds.joins);
    rows = g.rows ++ adds.rows;
    rows_are = adds.rows_are ∙ (ap (λ rs. rs ++ adds.rows) g.rows_are ∙ append_assoc start.rows g.rows adds.rows);
    places = (let p = g.places in let q = adds.node.places in omega (arith, p, q));
    kept = λ t m is. kept t m is (same_or_apart t.0 x.0);
    fresh = λ i t past at within. fresh i t past within (of_last old.added x t i (ap (λ ts. slice_get ts i) (sym adds.added) ∙ at));
    stays = λ y within none. adds.node.stays y (let p = g.places in omega (arith, p, within)) (apart y none) ∙ g.stays y within (before y none);
  }
    where
      kept : (t : TermId) (m : Node) → HasNode start.nodes t m → (t.0 ≡ x.0) ⊎ (t.0 ≢ x.0) → HasNode new.nodes t m
      kept t m is (inl e) = absurd (missing m (ap (slice_get old.nodes) (sym e) ∙ g.kept t m is))
      kept t m is (inr a) = adds.node.kept t m a (g.kept t m is)

      fresh : (i : ℕ) (t : TermId) → length start.added ≤ i → t.0 < length start.nodes → (slice_get old.added i ≡ Some t) ⊎ ((i ≡ length old.added) × (x ≡ t)) → slice_get start.nodes t.0 ≡ Some None
      fresh i t past within (inl at) = g.fresh i t past at within
      fresh i t past within (inr e) = empty_at start.nodes t within (λ m is. missing m (subst (λ u. HasNode old.nodes u m) (sym e.1) (g.kept t m is)))

      more : length start.added ≤ length old.added
      more = let e = ap length g.added ∙ length-append start.added g.terms in omega (arith, e)

      last : slice_get new.added (length old.added) ≡ Some x
      last = ap (λ ts. slice_get ts (length old.added)) adds.added ∙ at old.added
        where
          at : (ts : List TermId) → slice_get (ts ++ x ∷ []) (length ts) ≡ Some x
          at [] = refl
          at (t ∷ ts) = at ts

      apart : (y : ℕ) → ((i : ℕ) (t : TermId) → length start.added ≤ i → slice_get new.added i ≡ Some t → t.0 ≢ y) → y ≢ x.0
      apart y none e = none (length old.added) x more last (sym e)

      before : (y : ℕ) → ((i : ℕ) (t : TermId) → length start.added ≤ i → slice_get new.added i ≡ Some t → t.0 ≢ y) → (i : ℕ) (t : TermId) → length start.added ≤ i → slice_get old.added i ≡ Some t → t.0 ≢ y
      before y none i t past at = none i t past (ap (λ ts. slice_get ts i) adds.added ∙ (get_left old.added (x ∷ []) i (get_within old.added i t at) ∙ at))

pub step_grown : (a : Arena) (start old new : Kept) (xs rest : List TermId) (x : TermId) → IsMissing old.nodes x → Steps a old new xs x rest → HasGrown (graph start) (graph old) → HasGrown (graph start) (graph new)
step_grown a start old new xs rest x missing (inl h) g = subst (λ k. HasGrown (graph start) (graph k)) (sym h.0) g
step_grown a start old new xs rest x missing (inr d) g = grown_more (graph start) (graph old) (graph new) x d.node missing d.adds g

-- ---- emptying places

pub none_emptied : (nodes : List (Option Node)) (added : List TermId) (from : ℕ) → AreEmptied nodes added from from nodes
none_emptied nodes added from = record {
  many = refl;
  gone = λ i t past less at within. absurd (let c : ⊥ = omega (arith, past, less) in c);
  stays = λ x none. refl;
}

pub one_emptied : (nodes ms ks : List (Option Node)) (added : List TermId) (from place : ℕ) (t : TermId) → AreEmptied nodes added from place ms → slice_get added place ≡ Some t → ks ≡ set ms t.0 None → from ≤ place
    → AreEmptied nodes added from (place + 1) ks
one_emptied nodes ms ks added from place t a at e past = subst (AreEmptied nodes added from (place + 1)) (sym e) (record {
  many = length-set ms t.0 None ∙ a.many;
  gone = λ i u p less there within. gone i u p less there within (same_or_apart u.0 t.0);
  stays = λ x none. set_other ms t.0 x None (λ f. none place t past (omega arith) at (sym f)) ∙ a.stays x (λ i u p less there. none i u p (let l : i < place + 1 = omega (arith, less) in l) there);
})
  where
    one : (u v : TermId) → Some u ≡ Some v → u ≡ v
    one u v e = cc

    older : (i : ℕ) (u : TermId) → i < place + 1 → slice_get added i ≡ Some u → u.0 ≢ t.0 → (i ≡ place) ⊎ (i ≢ place) → i < place
    older i u less there b (inl f) = absurd (b (ap (λ (v : TermId). v.0) (one u t (sym there ∙ (ap (slice_get added) f ∙ at)))))
    older i u less there b (inr f) = omega (arith, less, f)

    gone : (i : ℕ) (u : TermId) → from ≤ i → i < place + 1 → slice_get added i ≡ Some u → u.0 < length nodes → (u.0 ≡ t.0) ⊎ (u.0 ≢ t.0) → slice_get (set ms t.0 None) u.0 ≡ Some None
    gone i u p less there within (inl f) = ap (slice_get (set ms t.0 None)) f ∙ set_same ms t.0 None (let m = a.many in omega (arith, m, within, f))
    gone i u p less there within (inr b) = set_other ms t.0 u.0 None b ∙ a.gone i u p (older i u less there b (same_or_apart i place)) there within

-- where a list starts beyond its end, nothing is emptied
pub emptied_all : (nodes ms : List (Option Node)) (added : List TermId) (from place : ℕ) → AreEmptied nodes added from place ms → length added ≤ place → AreEmptied nodes added from (length added) ms
emptied_all nodes ms added from place a past = record {
  many = a.many;
  gone = λ i t p less at within. a.gone i t p (let l : i < place = omega (arith, less, past) in l) at within;
  stays = λ x none. a.stays x (λ i t p less at. none i t p (get_within added i t at) at);
}

-- ---- taking terms away

same_take : {X : Type 0} → (xs ys : List X) → length ys ≤ length xs → ((i : ℕ) → i < length ys → slice_get xs i ≡ slice_get ys i) → take (length ys) xs ≡ ys
same_take xs [] le same = refl
same_take [] (y ∷ ys) le same = absurd (let c : ⊥ = omega (arith, le) in c)
same_take {X} (x ∷ xs) (y ∷ ys) le same = two x y (take (length ys) xs) ys (one x y (same 0 (omega arith))) (same_take xs ys (let l : length ys ≤ length xs = omega (arith, le) in l) (λ i h. same (suc i) (let l : suc i < suc (length ys) = omega (arith, h) in l)))
  where
    one : (x y : X) → Some x ≡ Some y → x ≡ y
    one x y e = cc

    two : (x y : X) (xs ys : List X) → x ≡ y → xs ≡ ys → x ∷ xs ≡ y ∷ ys
    two x y xs ys e f = cc

-- a term of the list with this id, from a place on
pub record IsAt (ts : List TermId) (from x : ℕ) : Type 0 where
  pub place : ℕ
  pub term : TermId
  pub past : from ≤ place
  pub there : slice_get ts place ≡ Some term
  pub is : term.0 ≡ x

seek : (ts : List TermId) (from x : ℕ) → IsAt ts from x ⊎ ((i : ℕ) (t : TermId) → from ≤ i → slice_get ts i ≡ Some t → t.0 ≢ x)
seek [] from x = inr (λ i t past at. absurd (no t at))
  where
    no : (t : TermId) → None ≡ Some t → ⊥
    no t e = cc
seek (u ∷ ts) (suc from) x = by (seek ts from x)
  where
    by : IsAt ts from x ⊎ ((i : ℕ) (t : TermId) → from ≤ i → slice_get ts i ≡ Some t → t.0 ≢ x) → IsAt (u ∷ ts) (suc from) x ⊎ ((i : ℕ) (t : TermId) → suc from ≤ i → slice_get (u ∷ ts) i ≡ Some t → t.0 ≢ x)
    by (inl h) = inl (record { place = suc h.place; term = h.term; past = (let p = h.past in omega (arith, p)); there = h.there; is = h.is })
    by (inr none) = inr none_here
      where
        none_here : (i : ℕ) (t : TermId) → suc from ≤ i → slice_get (u ∷ ts) i ≡ Some t → t.0 ≢ x
        none_here zero t past at = absurd (let c : ⊥ = omega (arith, past) in c)
        none_here (suc i) t past at = none i t (omega (arith, past)) at
seek (u ∷ ts) zero x = by (same_or_apart u.0 x) (seek ts zero x)
  where
    one : (u v : TermId) → Some u ≡ Some v → u ≡ v
    one u v e = cc

    by : (u.0 ≡ x) ⊎ (u.0 ≢ x) → IsAt ts zero x ⊎ ((i : ℕ) (t : TermId) → zero ≤ i → slice_get ts i ≡ Some t → t.0 ≢ x) → IsAt (u ∷ ts) zero x ⊎ ((i : ℕ) (t : TermId) → zero ≤ i → slice_get (u ∷ ts) i ≡ Some t → t.0 ≢ x)
    by (inl e) rest = inl (record { place = 0; term = u; past = omega arith; there = refl; is = e })
    by (inr a) (inl h) = inl (record { place = suc h.place; term = h.term; past = omega arith; there = h.there; is = h.is })
    by (inr a) (inr none) = inr none_here
      where
        none_here : (i : ℕ) (t : TermId) → zero ≤ i → slice_get (u ∷ ts) i ≡ Some t → t.0 ≢ x
        none_here zero t past at e = a (ap (λ (v : TermId). v.0) (one u t at) ∙ e)
        none_here (suc i) t past at e = none i t (omega arith) at e

abbrev the_graph : List (Option Node) → List TermId → List Fact → List Level → List Join → List Signature → Graph
the_graph nodes added told levels joins rows = record { nodes = nodes; added = added; told = told; levels = levels; joins = joins; rows = rows }

same_graph : (nodes nodes' : List (Option Node)) (added added' : List TermId) (told told' : List Fact) (levels levels' : List Level) (joins joins' : List Join) (rows rows' : List Signature)
    → nodes ≡ nodes' → added ≡ added' → told ≡ told' → levels ≡ levels' → joins ≡ joins' → rows ≡ rows' → the_graph nodes added told levels joins rows ≡ the_graph nodes' added' told' levels' joins' rows'
same_graph nodes nodes' added added' told told' levels levels' joins joins' rows rows' a b c d e f = cc

module _ (k mid new : Kept) (g : HasGrown (graph k) (graph mid)) (level : Level) (level_is : level ≡ now_at (graph k)) (places : ℕ) (places_are : places ≡ length k.nodes) (r : IsTakenBack mid level places new) where
  back : IsTakenBack mid (now_at (graph k)) (length k.nodes) new
  back = subst (λ l. IsTakenBack mid l (length k.nodes) new) level_is (subst (λ n. IsTakenBack mid level n new) places_are r)

  places_back : take (length k.nodes) back.emptied ≡ k.nodes
  places_back = same_take back.emptied k.nodes (let m = back.emptied_are.many in let p = g.places in omega (arith, m, p)) (λ x h. at x h (seek mid.added (length k.added) x))
    where
      at : (x : ℕ) → x < length k.nodes → IsAt mid.added (length k.added) x ⊎ ((i : ℕ) (t : TermId) → length k.added ≤ i → slice_get mid.added i ≡ Some t → t.0 ≢ x) → slice_get back.emptied x ≡ slice_get k.nodes x
      at x h (inl s) =
          let e = s.is in
          let p = g.places in
          let gone = back.emptied_are.gone s.place s.term s.past (get_within mid.added s.place s.term s.there) s.there (omega (arith, e, h, p)) in
          let fresh = g.fresh s.place s.term s.past s.there (omega (arith, e, h)) in
          ap (slice_get back.emptied) (sym e) ∙ (gone ∙ (sym fresh ∙ ap (slice_get k.nodes) e))
      at x h (inr none) = back.emptied_are.stays x (λ i t past less there. none i t past there) ∙ g.stays x h none

  pub taken_same : graph new ≡ graph k
  taken_same =
      ap graph back.is
      ∙ same_graph _ _ _ _ _ _ _ _ _ _ _ _ places_back (ap (take (length k.added)) g.added ∙ take_whole k.added g.terms) g.told g.levels
      (ap (take (length k.classes.joins)) g.joins_are ∙ take_whole k.classes.joins g.joins)
      (back.rows ∙ (ap (take (length k.table.rows)) g.rows_are ∙ take_whole k.table.rows g.rows))

  pub taken_fits : Fits k → Fits mid → Fits new
  taken_fits old fits = subst Fits (sym back.is) (record {
    count = λ t n is. fits.count t n (was t n is);
    args = λ t n is. fits.args t n (was t n is);
    room = λ t n is. fits.room t n (was t n is);
    uses = λ t n is. fits.uses t n (was t n is);
    terms = subst (λ ns. AreTerms ns (take (length k.added) mid.added)) (sym places_back) (subst (AreTerms k.nodes) (sym (ap (take (length k.added)) g.added ∙ take_whole k.added g.terms)) old.terms);
    facts = λ i x at. facts i x (ap (λ fs. slice_get fs i) (sym g.told) ∙ at);
  })
    where
      was : (t : TermId) (n : Node) → HasNode (take (length k.nodes) back.emptied) t n → HasNode mid.nodes t n
      was t n is = g.kept t n (ap (λ ns. slice_get ns t.0) (sym places_back) ∙ is)

      facts : (i : ℕ) (x : Fact) → slice_get k.told i ≡ Some x → IsNode (take (length k.nodes) back.emptied) x.left × IsNode (take (length k.nodes) back.emptied) x.right
      facts i x at = let h = old.facts i x at in subst (λ ns. IsNode ns x.left × IsNode ns x.right) (sym places_back) h
