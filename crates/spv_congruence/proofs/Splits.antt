-- The join that brought two terms together, and the works that it leaves.
use Rattle.std.proofs.Common.{◌≡◌, ◌≢◌, ℕ, zero, suc, ◌+◌, ◌<◌, ◌≤◌, Bool, true, false, not, nat_eq, List, [], ◌∷◌, ◌++◌, take, length, slice_get, Some, refl, sym, ap, ◌∙◌, subst, inl, inr, ◌⊎◌, arith, if◌then◌else◌}
use Rattle.std.proofs.lemmas.List.{take_all}
use Rattle.std.proofs.lemmas.Bool.{false≢true}
use Rattle.std.proofs.lemmas.Bool.Decides.{nat_tests}
use Rattle.spv_logic.specs.declared.conditions.TermId.{TermId}
use Rattle.spv_union_find.specs.declared.classes.joins.Cause.{Cause}
use Rattle.spv_union_find.specs.declared.classes.joins.Cause.TheVariants as cause
use Rattle.spv_union_find.specs.declared.classes.joins.Join.{Join}
use Rattle.spv_union_find.specs.classes.Classes.{label, one_label, count_of, IsJoin, AreJoins, IsLatest}
use Rattle.spv_union_find.proofs.classes.Lists.{same_or_apart, nat_same, nat_apart}
use Rattle.spv_union_find.proofs.classes.Labels.{one_label-lower, one_label-other}
use Rattle.spv_union_find.proofs.classes.Moments.{label_next, same_later}
use Rattle.spv_congruence.specs.declared.facts.Fact.{Fact}
use Rattle.spv_congruence.specs.declared.facts.Link.{Link}
use Rattle.spv_congruence.specs.declared.explaining.Work.{Work}
use Rattle.spv_congruence.specs.declared.explaining.Work.TheVariants.{Between, Write}
use Rattle.spv_congruence.specs.declared.explaining.Split.{Split}
use Rattle.spv_congruence.specs.Graph.{Graph, id, label_of, IsEarly, IsCause, IsLink, IsGraph}
use Rattle.spv_congruence.specs.Keep.{IsNode}
use Rattle.spv_congruence.specs.Explained.{SameAt, IsLinkOf, Leads, GoesBy, Owes, apart_for, cost, cost_of, costs, IsCauseLink, IsSplit, Done, IsWork, AreWorks}

-- a cause gives a link, the one way round and the other
link_forth : (g : Graph) (m k : ℕ) → m < k → (s t : TermId) (why : Cause) (l : Link) → IsCause g.nodes g.told (length g.told) (take m g.joins) s t why → IsCauseLink g.told why s t l → IsLinkOf g k l s t
link_forth g m k less s t (cause.Told place) l h c =
    let f = h.1 in
    let e : c.0 ≡ f.fact = one c.0 f.fact (sym c.1 ∙ f.there) in
    subst (λ x. IsLinkOf g k x s t) (sym c.2) (record { place = place; fact = f.fact; there = f.there; equal = f.equal; why_is = ap (λ x. x.why) (sym e); sides = inl (f.left, f.right) })
  where
    one : (x y : Fact) → Some x ≡ Some y → x ≡ y
    one x y e = cc
link_forth g m k less s t cause.Congruent l h c = subst (λ x. IsLinkOf g k x s t) (sym c) (refl, refl, record { before = m; less = less; are = h })

link_back : (g : Graph) (m k : ℕ) → m < k → (s t : TermId) (why : Cause) (l : Link) → IsCause g.nodes g.told (length g.told) (take m g.joins) s t why → IsCauseLink g.told why t s l → IsLinkOf g k l t s
link_back g m k less s t (cause.Told place) l h c =
    let f = h.1 in
    let e : c.0 ≡ f.fact = one c.0 f.fact (sym c.1 ∙ f.there) in
    subst (λ x. IsLinkOf g k x t s) (sym c.2) (record { place = place; fact = f.fact; there = f.there; equal = f.equal; why_is = ap (λ x. x.why) (sym e); sides = inr (f.left, f.right) })
  where
    one : (x y : Fact) → Some x ≡ Some y → x ≡ y
    one x y e = cc
link_back g m k less s t cause.Congruent l h c = subst (λ x. IsLinkOf g k x t s) (sym c)
    (refl, refl, record { before = m; less = less; are = record { left = h.right; right = h.left; left_is = h.right_is; right_is = h.left_is; heads = sym h.heads; args = sym h.args } })

module _ (g : Graph) (count : ℕ) (are : AreJoins count g.joins) (is : IsGraph g) (s t : TermId) (m : ℕ) (late : IsLatest g.joins s.0 t.0 m) (j : Join) (at : slice_get g.joins m ≡ Some j) where
  join_is : IsJoin count (take m g.joins) j
  join_is = are.each m j at

  link : IsLink g.nodes g.added (length g.added) g.told (length g.told) (take m g.joins) j
  link = is.now.joins_are m j at

  -- the two terms are in the two classes
  two_classes : ((label_of (take m g.joins) s ≡ j.lower) × (label_of (take m g.joins) t ≡ j.upper)) ⊎ ((label_of (take m g.joins) s ≡ j.upper) × (label_of (take m g.joins) t ≡ j.lower))
  two_classes = by (same_or_apart (label_of (take m g.joins) s) j.lower) (same_or_apart (label_of (take m g.joins) t) j.lower)
    where
      after : one_label (label_of (take m g.joins) s) j ≡ one_label (label_of (take m g.joins) t) j
      after = sym (label_next g.joins m j s.0 at) ∙ (late.same ∙ label_next g.joins m j t.0 at)

      low : (x : ℕ) → x ≡ j.lower → one_label x j ≡ j.upper
      low x e = ap (λ l. one_label l j) e ∙ one_label-lower j

      by : (label_of (take m g.joins) s ≡ j.lower) ⊎ (label_of (take m g.joins) s ≢ j.lower) → (label_of (take m g.joins) t ≡ j.lower) ⊎ (label_of (take m g.joins) t ≢ j.lower)
          → ((label_of (take m g.joins) s ≡ j.lower) × (label_of (take m g.joins) t ≡ j.upper)) ⊎ ((label_of (take m g.joins) s ≡ j.upper) × (label_of (take m g.joins) t ≡ j.lower))
      by (inl a) (inl b) = absurd (late.apart (a ∙ sym b))
      by (inl a) (inr b) = inl (a, sym (one_label-other (label_of (take m g.joins) t) j b) ∙ (sym after ∙ low (label_of (take m g.joins) s) a))
      by (inr a) (inl b) = inr (sym (one_label-other (label_of (take m g.joins) s) j a) ∙ (after ∙ low (label_of (take m g.joins) t) b), b)
      by (inr a) (inr b) = absurd (late.apart (sym (one_label-other (label_of (take m g.joins) s) j a) ∙ (after ∙ one_label-other (label_of (take m g.joins) t) j b)))

  node_of : (x : TermId) → IsEarly g.added (length g.added) x → IsNode g.nodes x
  node_of x e = is.terms.noded e.place x e.there

  test : (x y : ℕ) → nat_eq x y ≡ true → x ≡ y
  test x y h = grind (arith, nat_tests)

  no_test : (x y : ℕ) → nat_eq x y ≡ false → x ≡ y → ⊥
  no_test x y h e = false≢true (sym h ∙ (ap (λ z. nat_eq x z) (sym e) ∙ nat_same x))

  pub split_forth : (l : Link) → nat_eq (label_of (take m g.joins) s) (label (take m g.joins) j.left) ≡ true → IsCauseLink g.told j.cause (id j.left) (id j.right) l → IsSplit g s t (record { from = id j.left; to = id j.right; link = l })
  split_forth l h c = record {
    place = m;
    within = late.within;
    apart = late.apart;
    same = late.same;
    first = test _ _ h;
    second = second two_classes join_is.sides;
    link = λ k less. link_forth g m k less (id j.left) (id j.right) j.cause l link.cause c;
    from_node = node_of (id j.left) link.left;
    to_node = node_of (id j.right) link.right;
  }
    where
      here : label_of (take m g.joins) s ≡ label (take m g.joins) j.left
      here = test _ _ h

      second : ((label_of (take m g.joins) s ≡ j.lower) × (label_of (take m g.joins) t ≡ j.upper)) ⊎ ((label_of (take m g.joins) s ≡ j.upper) × (label_of (take m g.joins) t ≡ j.lower))
          → ((label (take m g.joins) j.left ≡ j.lower) × (label (take m g.joins) j.right ≡ j.upper)) ⊎ ((label (take m g.joins) j.left ≡ j.upper) × (label (take m g.joins) j.right ≡ j.lower)) → SameAt g m (id j.right) t
      second (inl a) (inl b) = b.1 ∙ sym a.1
      second (inr a) (inr b) = b.1 ∙ sym a.1
      second (inl a) (inr b) = absurd (join_is.apart (sym a.0 ∙ (here ∙ b.0)))
      second (inr a) (inl b) = absurd (join_is.apart (sym (sym a.0 ∙ (here ∙ b.0))))

  pub split_back : (l : Link) → nat_eq (label_of (take m g.joins) s) (label (take m g.joins) j.left) ≡ false → IsCauseLink g.told j.cause (id j.right) (id j.left) l → IsSplit g s t (record { from = id j.right; to = id j.left; link = l })
  split_back l h c =
      let b = both two_classes join_is.sides in
      record {
        place = m;
        within = late.within;
        apart = late.apart;
        same = late.same;
        first = b.0;
        second = b.1;
        link = λ k less. link_back g m k less (id j.left) (id j.right) j.cause l link.cause c;
        from_node = node_of (id j.right) link.right;
        to_node = node_of (id j.left) link.left;
      }
    where
      both : ((label_of (take m g.joins) s ≡ j.lower) × (label_of (take m g.joins) t ≡ j.upper)) ⊎ ((label_of (take m g.joins) s ≡ j.upper) × (label_of (take m g.joins) t ≡ j.lower))
          → ((label (take m g.joins) j.left ≡ j.lower) × (label (take m g.joins) j.right ≡ j.upper)) ⊎ ((label (take m g.joins) j.left ≡ j.upper) × (label (take m g.joins) j.right ≡ j.lower)) → SameAt g m s (id j.right) × SameAt g m (id j.left) t
      both (inl a) (inl b) = absurd (no_test _ _ h (a.0 ∙ sym b.0))
      both (inr a) (inr b) = absurd (no_test _ _ h (a.0 ∙ sym b.0))
      both (inl a) (inr b) = (a.0 ∙ sym b.1, b.0 ∙ sym a.1)
      both (inr a) (inl b) = (a.0 ∙ sym b.1, b.0 ∙ sym a.1)

-- ---- works and links

owes_pop : (g : Graph) (k : ℕ) (s : TermId) (ws : List Work) (w : Work) (t : TermId) → Owes g k s (ws ++ w ∷ []) t → (u : TermId) × GoesBy g k w s u × Owes g k u ws t
owes_pop g k s [] w t o = (t, subst (λ x. GoesBy g k w x t) (sym o.1) o.2, refl)
owes_pop g k s (v ∷ ws) w t o = let r = owes_pop g k s ws w o.0 o.1 in (r.0, r.1, (o.0, r.2, o.2))

owes_push : (g : Graph) (k : ℕ) (s u : TermId) (ws : List Work) (w : Work) (t : TermId) → GoesBy g k w s u → Owes g k u ws t → Owes g k s (ws ++ w ∷ []) t
owes_push g k s u [] w t b o = (s, refl, subst (λ x. GoesBy g k w s x) o b)
owes_push g k s u (v ∷ ws) w t b o = (o.0, owes_push g k s u ws w o.0 b o.1, o.2)

leads_more : (g : Graph) (k : ℕ) (s u v : TermId) (ls : List Link) (l : Link) → Leads g k s ls u → IsLinkOf g k l u v → Leads g k s (ls ++ l ∷ []) v
leads_more g k s u v [] l e h = (v, subst (λ x. IsLinkOf g k l x v) (sym e) h, refl)
leads_more g k s u v (x ∷ ls) l r h = (r.0, r.1, leads_more g k r.0 u v ls l r.2 h)

works_left : (g : Graph) (ws : List Work) (w : Work) → AreWorks g (ws ++ w ∷ []) → AreWorks g ws
works_left g [] w a = tt
works_left g (v ∷ ws) w a = (a.0, works_left g ws w a.1)

pub works_last : (g : Graph) (ws : List Work) (w : Work) → AreWorks g (ws ++ w ∷ []) → IsWork g w
works_last g [] w a = a.0
works_last g (v ∷ ws) w a = works_last g ws w a.1

works_more : (g : Graph) (ws : List Work) (w : Work) → AreWorks g ws → IsWork g w → AreWorks g (ws ++ w ∷ [])
works_more g [] w a b = (b, tt)
works_more g (v ∷ ws) w a b = (a.0, works_more g ws w a.1 b)

costs_push : (g : Graph) (ws : List Work) (w : Work) → costs g (ws ++ w ∷ []) ≡ costs g ws + cost_of g w
costs_push g [] w = omega arith
costs_push g (v ∷ ws) w = let h = costs_push g ws w in omega (arith, h)

-- ---- for how long two terms are apart

count_all : (p : ℕ → Bool) (n c : ℕ) → c ≤ n → ((i : ℕ) → i < c → p i ≡ true) → c ≤ count_of p n
count_all p zero c le all = le
count_all p (suc n) c le all = by (same_or_apart c (suc n)) (λ h. count_all p n c h all) (λ h. count_all p n n (omega arith) (λ i less. all i (omega (arith, less, h))))
  where
    grows : (b : Bool) (k : ℕ) → c ≤ k → c ≤ (if b then suc k else k)
    grows true k h = omega (arith, h)
    grows false k h = h

    whole : (b : Bool) (k : ℕ) → b ≡ true → n ≤ k → c ≡ suc n → c ≤ (if b then suc k else k)
    whole true k e h f = omega (arith, h, f)
    whole false k e h f = absurd (false≢true e)

    by : (c ≡ suc n) ⊎ (c ≢ suc n) → (c ≤ n → c ≤ count_of p n) → (n < c → n ≤ count_of p n) → c ≤ count_of p (suc n)
    by (inl e) rest last = whole (p n) (count_of p n) (all n (omega (arith, e))) (last (omega (arith, e))) e
    by (inr a) rest last = grows (p n) (count_of p n) (rest (omega (arith, le, a)))

count_none : (p : ℕ → Bool) (n c : ℕ) → ((i : ℕ) → c ≤ i → i < n → p i ≡ false) → count_of p n ≤ c
count_none p zero c none = omega arith
count_none p (suc n) c none = by (p n) refl (count_none p n c (λ i le less. none i le (omega (arith, less)))) (below p n)
  where
    below : (q : ℕ → Bool) (k : ℕ) → count_of q k ≤ k
    below q zero = omega arith
    below q (suc k) = step (q k) (below q k)
      where
        step : (b : Bool) → count_of q k ≤ k → (if b then suc (count_of q k) else count_of q k) ≤ suc k
        step true h = omega (arith, h)
        step false h = omega (arith, h)

    less : (i j : ℕ) → (i < j) ⊎ (j ≤ i)
    less i zero = inr (omega arith)
    less zero (suc j) = inl (omega arith)
    less (suc i) (suc j) = step (less i j)
      where
        step : (i < j) ⊎ (j ≤ i) → (suc i < suc j) ⊎ (suc j ≤ suc i)
        step (inl h) = inl (omega (arith, h))
        step (inr h) = inr (omega (arith, h))

    case : (n < c) ⊎ (c ≤ n) → p n ≡ true → count_of p n ≤ n → suc (count_of p n) ≤ c
    case (inl h) e w = omega (arith, h, w)
    case (inr h) e w = absurd (false≢true (sym (none n h (omega arith)) ∙ e))

    by : (b : Bool) → p n ≡ b → count_of p n ≤ c → count_of p n ≤ n → (if b then suc (count_of p n) else count_of p n) ≤ c
    by true e h w = case (less n c) e w
    by false e h w = h

cost_up : (n m : ℕ) → n ≤ m → cost n ≤ cost m
cost_up n zero le = subst (λ k. cost k ≤ cost 0) zero_is (omega arith)
  where
    zero_is : 0 ≡ n
    zero_is = omega (arith, le)
cost_up n (suc m) le = by (same_or_apart n (suc m)) (λ h. cost_up n m h)
  where
    by : (n ≡ suc m) ⊎ (n ≢ suc m) → (n ≤ m → cost n ≤ cost m) → cost n ≤ cost (suc m)
    by (inl e) rest = subst (λ k. cost k ≤ cost (suc m)) (sym e) (omega arith)
    by (inr a) rest = let h = rest (omega (arith, le, a)) in omega (arith, h)

module _ (g : Graph) where
  tested : (x y : ℕ) → x ≡ y → not (nat_eq x y) ≡ false
  tested x y e = ap (λ z. not (nat_eq x z)) (sym e) ∙ ap not (nat_same x)

  untested : (x y : ℕ) → x ≢ y → not (nat_eq x y) ≡ true
  untested x y h = ap not (nat_apart x y h)

  -- two terms that are the same at a time are not apart for longer
  apart_below : (s t : TermId) (m : ℕ) → SameAt g m s t → apart_for g s t ≤ m
  apart_below s t m e = count_none (λ k. not (nat_eq (label_of (take k g.joins) s) (label_of (take k g.joins) t))) (length g.joins) m
      (λ i le less. tested _ _ (same_later g.joins s.0 t.0 m i le (omega (arith, less)) e))

  apart_above : (s t : TermId) (m : ℕ) → m < length g.joins → label_of (take m g.joins) s ≢ label_of (take m g.joins) t → suc m ≤ apart_for g s t
  apart_above s t m w a = count_all (λ k. not (nat_eq (label_of (take k g.joins) s) (label_of (take k g.joins) t))) (length g.joins) (suc m) (omega (arith, w))
      (λ i less. untested _ _ (λ e. a (same_later g.joins s.0 t.0 i m (omega (arith, less)) (omega (arith, w)) e)))

  split_cheaper : (s t : TermId) (p : Split) → IsSplit g s t p → cost (apart_for g s p.from) + 1 + cost (apart_for g p.to t) < cost (apart_for g s t)
  split_cheaper s t p i =
      let a = cost_up (apart_for g s p.from) i.place (apart_below s p.from i.place i.first) in
      let b = cost_up (apart_for g p.to t) i.place (apart_below p.to t i.place i.second) in
      let c = cost_up (suc i.place) (apart_for g s t) (apart_above s t i.place i.within i.apart) in
      omega (arith, a, b, c)

  -- a turn of the loop
  pub done_cheaper : (w : Work) (ws vs : List Work) (ls ks : List Link) → Done g w ws ls vs ks → costs g vs < costs g (ws ++ w ∷ [])
  done_cheaper (Write l) ws vs ls ks d = let e = costs_push g ws (Write l) in let f = ap (costs g) d.0 in omega (arith, e, f)
  done_cheaper (Between x y) ws vs ls ks d = by d.1
    where
      positive : (n : ℕ) → 0 < cost n
      positive zero = omega arith
      positive (suc n) = omega arith

      by : ((x ≡ y) × (vs ≡ ws)) ⊎ ((p : Split) × IsSplit g x y p × (vs ≡ ((ws ++ Between p.to y ∷ []) ++ Write p.link ∷ []) ++ Between x p.from ∷ [])) → costs g vs < costs g (ws ++ Between x y ∷ [])
      by (inl h) = let e = costs_push g ws (Between x y) in let f = ap (costs g) h.1 in let p = positive (apart_for g x y) in omega (arith, e, f, p)
      by (inr h) =
          let p = h.0 in
          let e = costs_push g ws (Between x y) in
          let f = ap (costs g) h.2 in
          let a = costs_push g ((ws ++ Between p.to y ∷ []) ++ Write p.link ∷ []) (Between x p.from) in
          let b = costs_push g (ws ++ Between p.to y ∷ []) (Write p.link) in
          let c = costs_push g ws (Between p.to y) in
          let s = split_cheaper x y p h.1 in
          omega (arith, e, f, a, b, c, s)

  pub done_works : (w : Work) (ws vs : List Work) (ls ks : List Link) → Done g w ws ls vs ks → AreWorks g (ws ++ w ∷ []) → AreWorks g vs
  done_works (Write l) ws vs ls ks d a = subst (AreWorks g) (sym d.0) (works_left g ws (Write l) a)
  done_works (Between x y) ws vs ls ks d a = by d.1
    where
      rest : AreWorks g ws
      rest = works_left g ws (Between x y) a

      here : IsNode g.nodes x × IsNode g.nodes y × (label_of g.joins x ≡ label_of g.joins y)
      here = works_last g ws (Between x y) a

      at_end : (u v : TermId) (m : ℕ) → m < length g.joins → SameAt g m u v → label_of g.joins u ≡ label_of g.joins v
      at_end u v m w e = subst (λ js. label_of js u ≡ label_of js v) (take_all (length g.joins) g.joins (omega arith)) (same_later g.joins u.0 v.0 m (length g.joins) (omega (arith, w)) (omega arith) e)

      by : ((x ≡ y) × (vs ≡ ws)) ⊎ ((p : Split) × IsSplit g x y p × (vs ≡ ((ws ++ Between p.to y ∷ []) ++ Write p.link ∷ []) ++ Between x p.from ∷ [])) → AreWorks g vs
      by (inl h) = subst (AreWorks g) (sym h.1) rest
      by (inr h) =
          let p = h.0 in
          let i = h.1 in
          subst (AreWorks g) (sym h.2)
          (works_more g ((ws ++ Between p.to y ∷ []) ++ Write p.link ∷ []) (Between x p.from)
          (works_more g (ws ++ Between p.to y ∷ []) (Write p.link) (works_more g ws (Between p.to y) rest (i.to_node, here.1, at_end p.to y i.place i.within i.second)) tt)
          (here.0, i.from_node, at_end x p.from i.place i.within i.first))

  pub done_leads : (w : Work) (ws vs : List Work) (ls ks : List Link) → Done g w ws ls vs ks → (s t : TermId) (k : ℕ) → k ≤ length g.joins → (u : TermId) × Leads g k s ls u × Owes g k u (ws ++ w ∷ []) t → (u : TermId) × Leads g k s ks u × Owes g k u vs t
  done_leads (Write l) ws vs ls ks d s t k lim h =
      let r = owes_pop g k h.0 ws (Write l) t h.2 in
      (r.0, subst (λ xs. Leads g k s xs r.0) (sym d.1) (leads_more g k s h.0 r.0 ls l h.1 r.1), subst (λ xs. Owes g k r.0 xs t) (sym d.0) r.2)
  done_leads (Between x y) ws vs ls ks d s t k lim h = by d.1
    where
      r : (u : TermId) × GoesBy g k (Between x y) h.0 u × Owes g k u ws t
      r = owes_pop g k h.0 ws (Between x y) t h.2

      less : (m n : ℕ) → (m < n) ⊎ (n ≤ m)
      less m zero = inr (omega arith)
      less zero (suc n) = inl (omega arith)
      less (suc m) (suc n) = step (less m n)
        where
          step : (m < n) ⊎ (n ≤ m) → (suc m < suc n) ⊎ (suc n ≤ suc m)
          step (inl h) = inl (omega (arith, h))
          step (inr h) = inr (omega (arith, h))

      by : ((x ≡ y) × (vs ≡ ws)) ⊎ ((p : Split) × IsSplit g x y p × (vs ≡ ((ws ++ Between p.to y ∷ []) ++ Write p.link ∷ []) ++ Between x p.from ∷ [])) → (u : TermId) × Leads g k s ks u × Owes g k u vs t
      by (inl e) =
          let u_is : r.0 ≡ h.0 = sym r.1.1 ∙ (sym e.0 ∙ r.1.0) in
          (h.0, subst (λ xs. Leads g k s xs h.0) (sym d.0) h.1, subst (λ xs. Owes g k h.0 xs t) (sym e.1) (subst (λ v. Owes g k v ws t) u_is r.2))
      by (inr e) =
          let p = e.0 in
          let i = e.1 in
          let later = split_time (less i.place k) in
          let o = subst (λ v. Owes g k v ws t) (sym r.1.1) r.2 in
          let to_y = owes_push g k p.to y ws (Between p.to y) t (refl, refl, same_later g.joins p.to.0 y.0 i.place k (omega (arith, later)) lim i.second) o in
          let over = owes_push g k p.from p.to (ws ++ Between p.to y ∷ []) (Write p.link) t (i.link k later) to_y in
          let all = owes_push g k x p.from ((ws ++ Between p.to y ∷ []) ++ Write p.link ∷ []) (Between x p.from) t (refl, refl, same_later g.joins x.0 p.from.0 i.place k (omega (arith, later)) lim i.first) over in
          (h.0, subst (λ xs. Leads g k s xs h.0) (sym d.0) h.1, subst (λ xs. Owes g k h.0 xs t) (sym e.2) (subst (λ v. Owes g k v (((ws ++ Between p.to y ∷ []) ++ Write p.link ∷ []) ++ Between x p.from ∷ []) t) r.1.0 all))
        where
          split_time : (e.1.place < k) ⊎ (k ≤ e.1.place) → e.1.place < k
          split_time (inl a) = a
          split_time (inr b) = absurd (e.1.apart (same_later g.joins x.0 y.0 k e.1.place b (let w = e.1.within in omega (arith, w)) r.1.2))
