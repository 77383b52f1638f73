-- Terms that are the same and cannot be.
use Rattle.std.proofs.Common.{◌≡◌, ◌≢◌, ℕ, zero, suc, ◌+◌, ◌-◌, ◌<◌, ◌≤◌, Bool, true, false, not, nat_eq, List, [], ◌∷◌, ◌++◌, length, get_or, IsTrue, slice_get, Option, Some, None, refl, sym, ap, ◌∙◌, subst, inl, inr, ◌⊎◌, arith, if◌then◌else◌}
use Rattle.std.specs.Ordering.{int_eq}
use Rattle.std.proofs.lemmas.Bool.{false≢true, eqb-true}
use Rattle.spv_logic.specs.declared.conditions.TermId.{TermId}
use Rattle.spv_logic.specs.declared.operators.Head.{Head}
use Rattle.spv_logic.specs.declared.operators.Head.TheVariants.{Num, True, False}
use Rattle.spv_logic.proofs.Equality.{int_eq-true, int_eq-refl}
use Rattle.spv_term.specs.declared.nodes.Node.{Node}
use Rattle.spv_union_find.specs.declared.classes.joins.Join.{Join}
use Rattle.spv_union_find.specs.classes.Classes.{label, size, next, one_label, with_next, IsJoin, AreJoins}
use Rattle.spv_union_find.proofs.classes.Lists.{same_or_apart, nat_same, nat_apart}
use Rattle.spv_union_find.proofs.classes.Labels.{label_push, next_push, one_label-lower, one_label-other, by_joins, label_of_label}
use Rattle.spv_union_find.proofs.classes.Circles.{Walk, In, others, IsRing, ring}
use Rattle.spv_congruence.specs.Clashes.{opposed, AreOpposed, Clashes}
use Rattle.spv_congruence.specs.Graph.{HasNode, id, label_of, are_same}
use Rattle.spv_congruence.specs.Keep.{Kept, graph, Fits, IsNode}
use Rattle.spv_congruence.specs.Rings.{comparable, comparable_with, opposed_to, around, first_behind, next_comparable, AgreesBehind}

-- ---- heads

not_false : (b : Bool) → not b ≡ false → b ≡ true
not_false true e = refl
not_false false e = absurd (false≢true (sym e))

pub agreed : (h k : Head) → comparable h k ≡ true → opposed h k ≡ false → h ≡ k
agreed (Num x) (Num y) e f = ap Num (int_eq-true x y (not_false (int_eq x y) f))
agreed True True e f = refl
agreed True False e f = absurd (false≢true (sym f))
agreed False True e f = absurd (false≢true (sym f))
agreed False False e f = refl
agreed _ _ e f = absurd (false≢true e)

pub opposed_comparable : (h k : Head) → opposed h k ≡ true → comparable h k ≡ true
opposed_comparable (Num x) (Num y) e = refl
opposed_comparable True False e = refl
opposed_comparable False True e = refl
opposed_comparable _ _ e = absurd (false≢true e)

pub not_itself : (h : Head) → opposed h h ≡ true → ⊥
not_itself (Num x) e = false≢true (ap not (sym (int_eq-refl x)) ∙ e)
not_itself True e = false≢true e
not_itself False e = false≢true e
not_itself _ e = false≢true e

pub comparable_left : (h k : Head) → comparable h k ≡ true → comparable h h ≡ true
comparable_left (Num x) (Num y) e = refl
comparable_left True True e = refl
comparable_left True False e = refl
comparable_left False True e = refl
comparable_left False False e = refl
comparable_left _ _ e = absurd (false≢true e)

pub comparable_back : (h k : Head) → comparable h k ≡ true → comparable k h ≡ true
comparable_back (Num x) (Num y) e = refl
comparable_back True True e = refl
comparable_back True False e = refl
comparable_back False True e = refl
comparable_back False False e = refl
comparable_back _ _ e = absurd (false≢true e)

-- ---- rings

pub next_label : (count : ℕ) (js : List Join) → AreJoins count js → (x : ℕ) → label js (next js x) ≡ label js x
next_label count = by_joins count (λ js. (x : ℕ) → label js (next js x) ≡ label js x) (λ x. refl) step
  where
    step : (js : List Join) (j : Join) → AreJoins count js → IsJoin count js j → ((x : ℕ) → label js (next js x) ≡ label js x) → (x : ℕ) → label (js ++ j ∷ []) (next (js ++ j ∷ []) x) ≡ label (js ++ j ∷ []) x
    step js j are is old x =
        label_push js j (next (js ++ j ∷ []) x) ∙ (ap (λ y. one_label (label js y) j) (next_push js j x) ∙ (by (same_or_apart x j.lower) (same_or_apart x j.upper) ∙ sym (label_push js j x)))
      where
        upper_there : one_label j.upper j ≡ j.upper
        upper_there = one_label-other j.upper j (λ e. is.apart (sym e))

        by : (x ≡ j.lower) ⊎ (x ≢ j.lower) → (x ≡ j.upper) ⊎ (x ≢ j.upper) → one_label (label js (with_next (next js) j x)) j ≡ one_label (label js x) j
        by (inl e) d =
            ap (λ b. one_label (label js (if b then next js j.upper else (if nat_eq x j.upper then next js j.lower else next js x))) j) (ap (λ y. nat_eq y j.lower) e ∙ nat_same j.lower)
            ∙ (ap (λ l. one_label l j) (old j.upper ∙ is.upper_is)
            ∙ (upper_there ∙ (sym (one_label-lower j) ∙ ap (λ l. one_label l j) (sym (ap (label js) e ∙ is.lower_is)))))
        by (inr a) (inl e) =
            ap (λ b. one_label (label js (if b then next js j.upper else (if nat_eq x j.upper then next js j.lower else next js x))) j) (nat_apart x j.lower a)
            ∙ (ap (λ b. one_label (label js (if b then next js j.lower else next js x)) j) (ap (λ y. nat_eq y j.upper) e ∙ nat_same j.upper)
            ∙ (ap (λ l. one_label l j) (old j.lower ∙ is.lower_is)
            ∙ (one_label-lower j ∙ (sym upper_there ∙ ap (λ l. one_label l j) (sym (ap (label js) e ∙ is.upper_is))))))
        by (inr a) (inr b) =
            ap (λ c. one_label (label js (if c then next js j.upper else (if nat_eq x j.upper then next js j.lower else next js x))) j) (nat_apart x j.lower a)
            ∙ (ap (λ c. one_label (label js (if c then next js j.lower else next js x)) j) (nat_apart x j.upper b)
            ∙ ap (λ l. one_label l j) (old x))

pub around_label : (count : ℕ) (js : List Join) → AreJoins count js → (n x : ℕ) → label js (around js x n) ≡ label js x
around_label count js are zero x = refl
around_label count js are (suc n) x = around_label count js are n (next js x) ∙ next_label count js are x

pub around_more : (js : List Join) (x m n : ℕ) → around js x (m + n) ≡ around js (around js x m) n
around_more js x zero n = ap (around js x) (none n)
  where
    none : (n : ℕ) → 0 + n ≡ n
    none n = omega arith
around_more js x (suc m) n = ap (around js x) (more m n) ∙ around_more js (next js x) m n
  where
    more : (m n : ℕ) → suc m + n ≡ suc (m + n)
    more m n = omega arith

-- a member of a class, by the steps to it from the label
pub record IsReached (js : List Join) (l x : ℕ) : Type 0 where
  pub steps : ℕ
  pub few : steps < size js l
  pub is : around js l steps ≡ x

walked : (js : List Join) (x y z : ℕ) (zs : List ℕ) → Walk (next js) x zs y → In z zs → (i : ℕ) × ((i < length zs) × (around js x i ≡ z))
walked js x y z [] w h = absurd h
walked js x y z (u ∷ zs) w (inl e) = (0, (omega arith, w.0 ∙ sym e))
walked js x y z (u ∷ zs) w (inr h) =
    let r = walked js (next js u) y z zs w.1 h in
    let l = r.1.0 in
    (suc r.0, ((let m : suc r.0 < suc (length zs) = omega (arith, l) in m), ap (λ v. around js (next js v) r.0) w.0 ∙ r.1.1))

pub reached : (count : ℕ) (js : List Join) → AreJoins count js → (l : ℕ) → label js l ≡ l → (x : ℕ) → label js x ≡ l → IsReached js l x
reached count js are l is x e = by (IsRing.all r x e)
  where
    r : IsRing count js l
    r = ring count js are l is

    by : (x ≡ l) ⊎ In x (others js l) → IsReached js l x
    by (inl f) = record { steps = 0; few = (let m = r.many in omega (arith, m)); is = sym f }
    by (inr h) =
        let w = walked js (next js l) l x (others js l) r.walk h in
        record { steps = suc w.0; few = (let m = r.many in let k = w.1.0 in omega (arith, m, k)); is = w.1.1 }

-- ---- the first one behind

pub record IsFirst (p : ℕ → Bool) (js : List Join) (x n d : ℕ) : Type 0 where
  pub steps : ℕ
  pub few : steps ≤ d
  pub is : first_behind p js x n ≡ Some (around js x (suc steps))
  pub meets : p (around js x (suc steps)) ≡ true

pub is_first : (p : ℕ → Bool) (js : List Join) (n x d : ℕ) → suc d ≤ n → p (around js x (suc d)) ≡ true → IsFirst p js x n d
is_first p js zero x d le e = absurd (let c : ⊥ = omega (arith, le) in c)
is_first p js (suc n) x d le e = by (λ c k f. is_first p js n (next js x) c k f) (p (next js x)) refl
  where
    later : ((c : ℕ) → suc c ≤ n → p (around js (next js x) (suc c)) ≡ true → IsFirst p js (next js x) n c) → p (next js x) ≡ false → (c : ℕ) → d ≡ c → IsFirst p js x (suc n) d
    later rest f zero g = absurd (false≢true (sym f ∙ (ap (λ c. p (around js x (suc c))) (sym g) ∙ e)))
    later rest f (suc c) g =
        let r = rest c (omega (arith, le, g)) (ap (λ b. p (around js x (suc b))) (sym g) ∙ e) in
        record {
          steps = suc r.steps;
          few = (let k = r.few in omega (arith, k, g));
          is = ap (λ b. if b then Some (next js x) else first_behind p js (next js x) n) f ∙ r.is;
          meets = r.meets;
        }

    by : ((c : ℕ) → suc c ≤ n → p (around js (next js x) (suc c)) ≡ true → IsFirst p js (next js x) n c) → (b : Bool) → p (next js x) ≡ b → IsFirst p js x (suc n) d
    by rest true f = record { steps = 0; few = omega arith; is = ap (λ b. if b then Some (next js x) else first_behind p js (next js x) n) f; meets = f }
    by rest false f = later rest f d refl

pub first_around : (p : ℕ → Bool) (js : List Join) (n x y : ℕ) → first_behind p js x n ≡ Some y → (i : ℕ) × (around js x i ≡ y)
first_around p js zero x y e = absurd (cc)
first_around p js (suc n) x y e = by (λ f. first_around p js n (next js x) y f) (p (next js x)) refl
  where
    one : (a b : ℕ) → Some a ≡ Some b → a ≡ b
    one a b e = cc

    by : (first_behind p js (next js x) n ≡ Some y → (i : ℕ) × (around js (next js x) i ≡ y)) → (b : Bool) → p (next js x) ≡ b → (i : ℕ) × (around js x i ≡ y)
    by rest true f = (1, one _ _ (sym (ap (λ b. if b then Some (next js x) else first_behind p js (next js x) n) f) ∙ e))
    by rest false f = let r = rest (sym (ap (λ b. if b then Some (next js x) else first_behind p js (next js x) n) f) ∙ e) in (suc r.0, r.1)

-- ---- where each term agrees with the next comparable one of its class, all of a class agree

node_there : (h : Head) (o : Option (Option Node)) → comparable_with h o ≡ true → (n : Node) × ((o ≡ Some (Some n)) × (comparable h n.head ≡ true))
node_there h None e = absurd (false≢true e)
node_there h (Some None) e = absurd (false≢true e)
node_there h (Some (Some n)) e = (n, (refl, e))

module _ (k : Kept) (count : ℕ) (are : AreJoins count k.classes.joins) (all : (s : TermId) (m : Node) → HasNode k.nodes s m → AgreesBehind k s) where
  abbrev test : Head → ℕ → Bool
  test h x = comparable_with h (slice_get k.nodes x)

  -- a term at so many steps from another one
  behind : (fuel d : ℕ) → d ≤ fuel → (x : ℕ) (m n : Node) → HasNode k.nodes (id x) m → HasNode k.nodes (id (around k.classes.joins x d)) n → comparable m.head n.head ≡ true
      → d ≤ size k.classes.joins (label k.classes.joins x) → m.head ≡ n.head
  behind fuel zero le x m n is there c few = ap (λ (o : Node). o.head) (one m n (sym is ∙ there))
    where
      one : (m n : Node) → Some (Some m) ≡ Some (Some n) → m ≡ n
      one m n e = cc
  behind zero (suc d) le x m n is there c few = absurd (let f : ⊥ = omega (arith, le) in f)
  behind (suc fuel) (suc d) le x m n is there c few =
      by (is_first (test m.head) k.classes.joins (size k.classes.joins (label k.classes.joins x)) x d few (ap (comparable_with m.head) there ∙ c))
      (λ c l y o a b e f. behind fuel c l y o n a b e f)
    where
      by : IsFirst (test m.head) k.classes.joins x (size k.classes.joins (label k.classes.joins x)) d
          → ((c : ℕ) → c ≤ fuel → (y : ℕ) (o : Node) → HasNode k.nodes (id y) o → HasNode k.nodes (id (around k.classes.joins y c)) n → comparable o.head n.head ≡ true → c ≤ size k.classes.joins (label k.classes.joins y) → o.head ≡ n.head)
          → m.head ≡ n.head
      by f rest =
          let y = around k.classes.joins x (suc f.steps) in
          let o = node_there m.head (slice_get k.nodes y) f.meets in
          let agrees = (all (id x) m is).agrees m is (comparable_left m.head n.head c) y f.is in
          let same : m.head ≡ o.0.head = agreed m.head o.0.head o.1.1 (ap (opposed_to m.head) (sym o.1.0) ∙ agrees) in
          let g = f.few in
          let steps : suc f.steps + (d - f.steps) ≡ suc d = omega (arith, g) in
          let onward : around k.classes.joins x (suc d) ≡ around k.classes.joins y (d - f.steps) = ap (around k.classes.joins x) (sym steps) ∙ around_more k.classes.joins x (suc f.steps) (d - f.steps) in
          let l = ap (size k.classes.joins) (around_label count k.classes.joins are (suc f.steps) x) in
          same
          ∙ rest (d - f.steps) (omega (arith, le)) y o.0 o.1.0 (ap (slice_get k.nodes) (sym onward) ∙ there) (ap (λ z. comparable z n.head) (sym same) ∙ c) (omega (arith, l, few))

  pub agree : (s t : TermId) (m n : Node) → HasNode k.nodes s m → HasNode k.nodes t n → label_of k.classes.joins s ≡ label_of k.classes.joins t → comparable m.head n.head ≡ true → m.head ≡ n.head
  agree s t m n is there e c =
      let js = k.classes.joins in
      let l = label js s.0 in
      let own = label_of_label count js are s.0 in
      let a = reached count js are l own s.0 refl in
      let b = reached count js are l own t.0 (sym e) in
      by a b (le_or a.steps b.steps)
    where
      le_or : (i j : ℕ) → (i ≤ j) ⊎ (j ≤ i)
      le_or zero j = inl (omega arith)
      le_or (suc i) zero = inr (omega arith)
      le_or (suc i) (suc j) = up (le_or i j)
        where
          up : (i ≤ j) ⊎ (j ≤ i) → (suc i ≤ suc j) ⊎ (suc j ≤ suc i)
          up (inl h) = inl (omega (arith, h))
          up (inr h) = inr (omega (arith, h))

      onto : (l x y i j : ℕ) → around k.classes.joins l i ≡ x → around k.classes.joins l j ≡ y → i ≤ j → around k.classes.joins x (j - i) ≡ y
      onto l x y i j f g h =
          let sum : i + (j - i) ≡ j = omega (arith, h) in
          ap (λ z. around k.classes.joins z (j - i)) (sym f) ∙ (sym (around_more k.classes.joins l i (j - i)) ∙ (ap (around k.classes.joins l) sum ∙ g))

      by : (a : IsReached k.classes.joins (label k.classes.joins s.0) s.0) (b : IsReached k.classes.joins (label k.classes.joins s.0) t.0) → (a.steps ≤ b.steps) ⊎ (b.steps ≤ a.steps) → m.head ≡ n.head
      by a b (inl h) =
          let o = onto (label k.classes.joins s.0) s.0 t.0 a.steps b.steps a.is b.is h in
          let f = b.few in
          behind (b.steps - a.steps) (b.steps - a.steps) (omega arith) s.0 m n is (ap (slice_get k.nodes) o ∙ there) c (omega (arith, f))
      by a b (inr h) =
          let o = onto (label k.classes.joins s.0) t.0 s.0 b.steps a.steps b.is a.is h in
          let f = a.few in
          let g = ap (size k.classes.joins) e in
          sym (behind (a.steps - b.steps) (a.steps - b.steps) (omega arith) t.0 n m there (ap (slice_get k.nodes) o ∙ is) (comparable_back m.head n.head c) (omega (arith, f, g)))

  pub no_opposed : (s t : TermId) → IsTrue (are_same (graph k) s t) → AreOpposed (graph k) s t → ⊥
  no_opposed s t same o =
      let e = agree s t o.left o.right o.left_is o.right_is (eqb-true _ _ same) (opposed_comparable o.left.head o.right.head o.opposed_are) in
      not_itself o.left.head (ap (opposed o.left.head) e ∙ o.opposed_are)

-- ---- the next comparable term is opposed

opposed_there : (h : Head) (o : Option (Option Node)) → opposed_to h o ≡ true → (n : Node) × ((o ≡ Some (Some n)) × (opposed h n.head ≡ true))
opposed_there h None e = absurd (false≢true e)
opposed_there h (Some None) e = absurd (false≢true e)
opposed_there h (Some (Some n)) e = (n, (refl, e))

pub opposed_node : (k : Kept) (x : ℕ) (h : Head) → opposed_to h (slice_get k.nodes x) ≡ true → IsNode k.nodes (id x)
opposed_node k x h opp = let o = opposed_there h (slice_get k.nodes x) opp in (o.0, o.1.0)

module _ (k : Kept) (count : ℕ) (are : AreJoins count k.classes.joins) (s : TermId) (m : Node) (is : HasNode k.nodes s m) (p : ℕ → Bool) (n x : ℕ) (found : first_behind p k.classes.joins s.0 n ≡ Some x) (opp : opposed_to m.head (slice_get k.nodes x) ≡ true) where
  pub opposed_clashes : (t : TermId) → t.0 ≡ x → Clashes (graph k) s t
  opposed_clashes t e =
      let o = opposed_there m.head (slice_get k.nodes x) opp in
      let a = first_around p k.classes.joins n s.0 x found in
      let l : label k.classes.joins t.0 ≡ label k.classes.joins s.0 = ap (label k.classes.joins) (e ∙ sym a.1) ∙ around_label count k.classes.joins are a.0 s.0 in
      record {
        same = ap (λ z. nat_eq (label k.classes.joins s.0) z) l ∙ nat_same (label k.classes.joins s.0);
        why = inr (record { left = m; right = o.0; left_is = is; right_is = ap (slice_get k.nodes) e ∙ o.1.0; opposed_are = o.1.1 });
      }

pub agrees_behind : (k : Kept) (s : TermId) (n : Node) → HasNode k.nodes s n → (x : ℕ) → next_comparable k s n.head ≡ Some x → opposed_to n.head (slice_get k.nodes x) ≡ false → AgreesBehind k s
agrees_behind k s n is x found opp = record {
  agrees = λ m there c y behind.
      let e : m.head ≡ n.head = ap (λ (o : Node). o.head) (one m n (sym there ∙ is)) in
      let f : x ≡ y = number x y (sym found ∙ (ap (next_comparable k s) (sym e) ∙ behind)) in
      ap (λ h. opposed_to h (slice_get k.nodes y)) e ∙ (ap (λ z. opposed_to n.head (slice_get k.nodes z)) (sym f) ∙ opp);
}
  where
    one : (m n : Node) → Some (Some m) ≡ Some (Some n) → m ≡ n
    one m n e = cc

    number : (x y : ℕ) → Some x ≡ Some y → x ≡ y
    number x y e = cc

-- a step round the ring to a term that does not meet the test
pub ring_on : (p : ℕ → Bool) (js : List Join) (at steps counter there : ℕ) (b : Bool) → counter < steps → there ≡ next js at → b ≡ p there → b ≡ false
    → first_behind p js there (steps - (counter + 1)) ≡ first_behind p js at (steps - counter)
ring_on p js at steps counter there b less e f g =
    let n : steps - counter ≡ suc (steps - (counter + 1)) = omega (arith, less) in
    let t : p (next js at) ≡ false = ap p (sym e) ∙ (sym f ∙ g) in
    sym
    (ap (first_behind p js at) n
    ∙ (ap (λ c. if c then Some (next js at) else first_behind p js (next js at) (steps - (counter + 1))) t
    ∙ ap (λ z. first_behind p js z (steps - (counter + 1))) (sym e)))

-- ---- all terms are looked at

pub behind_more : (k : Kept) (ts : List TermId) (i : ℕ) (d : TermId) → ts ≡ k.added → i < length ts → AgreesBehind k (get_or ts i d) → ((j : ℕ) (s : TermId) → j < i → slice_get k.added j ≡ Some s → AgreesBehind k s)
    → (j : ℕ) (s : TermId) → j < i + 1 → slice_get k.added j ≡ Some s → AgreesBehind k s
behind_more k ts i d e within here before j s less at = by (same_or_apart j i)
  where
    got : (us : List TermId) (i : ℕ) (d : TermId) → i < length us → slice_get us i ≡ Some (get_or us i d)
    got [] i d h = absurd (let c : ⊥ = omega (arith, h) in c)
    got (u ∷ us) zero d h = refl
    got (u ∷ us) (suc i) d h = got us i d (let l : i < length us = omega (arith, h) in l)

    one : (u v : TermId) → Some u ≡ Some v → u ≡ v
    one u v e = cc

    by : (j ≡ i) ⊎ (j ≢ i) → AgreesBehind k s
    by (inl f) = subst (AgreesBehind k) (one (get_or ts i d) s (sym (got ts i d within) ∙ (ap (λ us. slice_get us i) e ∙ (ap (slice_get k.added) (sym f) ∙ at)))) here
    by (inr a) = before j s (let l : j < i = omega (arith, less, a) in l) at

pub none_opposed : (k : Kept) (count : ℕ) → AreJoins count k.classes.joins → Fits k → (i : ℕ) → length k.added ≤ i → ((j : ℕ) (s : TermId) → j < i → slice_get k.added j ≡ Some s → AgreesBehind k s)
    → (s t : TermId) → IsTrue (are_same (graph k) s t) → AreOpposed (graph k) s t → ⊥
none_opposed k count are fits i past all = no_opposed k count are (λ s m is. let e = fits.terms.listed s m is in let l = e.early in all e.place s (omega (arith, l, past)) e.there)
