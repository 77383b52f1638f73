-- One more term is entered.
use Rattle.std.proofs.Common.{◌≡◌, ◌≢◌, ℕ, suc, ◌<◌, Bool, true, false, ◌&&◌, nat_eq, List, [], ◌∷◌, ◌++◌, map, take, length, slice_get, Option, Some, None, refl, sym, ap, ◌∙◌, subst, inl, inr, ◌⊎◌, arith, if◌then◌else◌}
use Rattle.std.specs.Cmp.Lexicographic.{pointwise}
use Rattle.std.proofs.lemmas.Bool.{false≢true, eqb-true}
use Rattle.spv_logic.proofs.list.Tests.{left_true, right_true}
use Rattle.spv_logic.specs.declared.conditions.TermId.{TermId}
use Rattle.spv_logic.specs.declared.operators.Head.{Head}
use Rattle.spv_logic.specs.Terms.{head_eq}
use Rattle.spv_logic.proofs.Equality.{head_eq-true, head_eq-refl}
use Rattle.spv_term.specs.declared.nodes.Node.{Node}
use Rattle.spv_union_find.specs.declared.classes.joins.Cause.TheVariants.{Congruent}
use Rattle.spv_union_find.specs.declared.classes.joins.Join.{Join}
use Rattle.spv_union_find.specs.classes.Classes.{label, AreJoins}
use Rattle.spv_union_find.proofs.classes.Lists.{by_last, of_push, get_left, get_push, get_within, nat_same, same_or_apart}
use Rattle.spv_union_find.proofs.classes.Labels.{label_of_label}
use Rattle.spv_union_find.specs.signatures.Signatures.{Signature, is_for, held}
use Rattle.spv_union_find.proofs.signatures.RowLemmas.{held_push}
use Rattle.spv_congruence.specs.declared.facts.Fact.{Fact}
use Rattle.spv_congruence.specs.declared.facts.Equal.{Equal}
use Rattle.spv_congruence.specs.Graph.{label_of, labels, HasNode, IsEarly, IsCause, AreCongruent, IsRow, IsDue, IsEntered, IsLevel, Due, Waits}
use Rattle.spv_congruence.specs.Keep.{signed, first_for}
use Rattle.spv_congruence.proofs.Dues.{due_more, due_last, due_label, waits_pop}
use Rattle.spv_congruence.proofs.Keeping.{Keeps, row_kept, link_kept}

-- ---- signatures that are the same

same_numbers : (xs ys : List ℕ) → pointwise nat_eq xs ys ≡ true → xs ≡ ys
same_numbers [] [] h = refl
same_numbers [] (y ∷ ys) h = absurd (false≢true h)
same_numbers (x ∷ xs) [] h = absurd (false≢true h)
same_numbers (x ∷ xs) (y ∷ ys) h =
    ap (λ n. n ∷ xs) (eqb-true x y (left_true (nat_eq x y) (pointwise nat_eq xs ys) h))
    ∙ ap (λ (l : List ℕ). y ∷ l) (same_numbers xs ys (right_true (nat_eq x y) (pointwise nat_eq xs ys) h))

numbers_same : (xs : List ℕ) → pointwise nat_eq xs xs ≡ true
numbers_same [] = refl
numbers_same (x ∷ xs) = ap (λ b. b && pointwise nat_eq xs xs) (nat_same x) ∙ numbers_same xs

for_itself : (h : Head) (ls : List ℕ) (t : TermId) → is_for h ls (signed h ls t) ≡ true
for_itself h ls t = ap (λ b. b && pointwise nat_eq ls ls) (head_eq-refl h) ∙ numbers_same ls

pub record Holds (rs : List Signature) (h : Head) (ls : List ℕ) (q : TermId) : Type 0 where
  pub place : ℕ
  pub row : Signature
  pub there : slice_get rs place ≡ Some row
  pub term : row.term ≡ q
  pub head : row.head ≡ h
  pub labels_are : row.labels ≡ ls

-- what is held stands in a row
pub held_row : (h : Head) (ls : List ℕ) (rs : List Signature) (q : TermId) → held rs h ls ≡ Some q → Holds rs h ls q
held_row h ls = by_last (λ rs. (q : TermId) → held rs h ls ≡ Some q → Holds rs h ls q) step (λ q e. absurd (no q e))
  where
    no : (q : TermId) → None ≡ Some q → ⊥
    no q e = cc

    step : (rs : List Signature) (r : Signature) → ((q : TermId) → held rs h ls ≡ Some q → Holds rs h ls q) → (q : TermId) → held (rs ++ r ∷ []) h ls ≡ Some q → Holds (rs ++ r ∷ []) h ls q
    step rs r old q e = by (is_for h ls r) refl
      where
        one : (t q : TermId) → Some t ≡ Some q → t ≡ q
        one t q e = cc

        by : (b : Bool) → is_for h ls r ≡ b → Holds (rs ++ r ∷ []) h ls q
        by true f =
            let g : Some r.term ≡ Some q = sym (ap (λ b. if b then Some r.term else held rs h ls) f) ∙ (sym (held_push rs r h ls) ∙ e) in
            record {
              place = length rs;
              row = r;
              there = get_push rs r;
              term = one r.term q g;
              head = head_eq-true r.head h (left_true (head_eq r.head h) (pointwise nat_eq r.labels ls) f);
              labels_are = same_numbers r.labels ls (right_true (head_eq r.head h) (pointwise nat_eq r.labels ls) f);
            }
        by false f =
            let g : held rs h ls ≡ Some q = sym (ap (λ b. if b then Some r.term else held rs h ls) f) ∙ (sym (held_push rs r h ls) ∙ e) in
            let k = old q g in
            record { place = k.place; row = k.row; there = get_left rs (r ∷ []) k.place (get_within rs k.place k.row k.there) ∙ k.there; term = k.term; head = k.head; labels_are = k.labels_are }

-- a signature that was entered again with what it had stays
pub held_stays : (rs : List Signature) (k h : Head) (ms ls : List ℕ) (p q : TermId) → (held rs k ms ≡ Some q ⊎ (held rs k ms ≡ None)) → held rs h ls ≡ Some p → held (rs ++ signed k ms q ∷ []) h ls ≡ Some p
held_stays rs k h ms ls p q was e = by (is_for h ls (signed k ms q)) refl
  where
    one : (t q : TermId) → Some t ≡ Some q → t ≡ q
    one t q e = cc

    no : (q : TermId) → None ≡ Some q → ⊥
    no q e = cc

    moved : k ≡ h → ms ≡ ls → held rs k ms ≡ Some p
    moved f g = ap (λ l. held rs l ms) f ∙ (ap (held rs h) g ∙ e)

    same : held rs k ms ≡ Some p → (held rs k ms ≡ Some q ⊎ (held rs k ms ≡ None)) → Some q ≡ Some p
    same f (inl g) = sym g ∙ f
    same f (inr g) = absurd (no p (sym g ∙ f))

    by : (b : Bool) → is_for h ls (signed k ms q) ≡ b → held (rs ++ signed k ms q ∷ []) h ls ≡ Some p
    by true f =
        held_push rs (signed k ms q) h ls
        ∙ (ap (λ b. if b then Some q else held rs h ls) f
        ∙ same (moved (head_eq-true k h (left_true (head_eq k h) (pointwise nat_eq ms ls) f)) (same_numbers ms ls (right_true (head_eq k h) (pointwise nat_eq ms ls) f))) was)
    by false f = held_push rs (signed k ms q) h ls ∙ (ap (λ b. if b then Some q else held rs h ls) f ∙ e)

pub held_new : (rs : List Signature) (h : Head) (ls : List ℕ) (q : TermId) → held (rs ++ signed h ls q ∷ []) h ls ≡ Some q
held_new rs h ls q = held_push rs (signed h ls q) h ls ∙ ap (λ b. if b then Some q else held rs h ls) (for_itself h ls q)

-- labels are their own labels
labels_again : (limit : ℕ) (js : List Join) → AreJoins limit js → (us : List TermId) → map (label js) (map (label_of js) us) ≡ map (label_of js) us
labels_again limit js are [] = refl
labels_again limit js are (u ∷ us) = two (label_of_label limit js are u.0) (labels_again limit js are us)
  where
    two : {a b : ℕ} {xs ys : List ℕ} → a ≡ b → xs ≡ ys → a ∷ xs ≡ b ∷ ys
    two {a} {b} {xs} {ys} e f = ap (λ z. z ∷ xs) e ∙ ap (λ zs. b ∷ zs) f

module _ (nodes : List (Option Node)) (added : List TermId) (count : ℕ) (told : List Fact) (n limit : ℕ) (js : List Join) (are : AreJoins limit js) (rs : List Signature) (es : List Equal) (rest : List TermId) (t : TermId) (m : Node) (q : TermId)
    (h : IsLevel nodes added count told n js rs es (rest ++ t ∷ [])) (early : IsEarly added count t) (is : HasNode nodes t m) (q_is : q ≡ first_for (held rs m.head (labels js m)) t) where
  -- the term that is found is of the same head and labels
  found_row : IsRow nodes added count js (signed m.head (labels js m) q)
  found_row = by (held rs m.head (labels js m)) refl
    where
      by : (o : Option TermId) → held rs m.head (labels js m) ≡ o → IsRow nodes added count js (signed m.head (labels js m) q)
      by None e =
          let f : q ≡ t = q_is ∙ ap (λ p. first_for p t) e in
          record { node = m; is = subst (λ x. HasNode nodes x m) (sym f) is; early = subst (IsEarly added count) (sym f) early; head = refl; labels_are = labels_again limit js are m.args }
      by (Some p) e =
          let f : q ≡ p = q_is ∙ ap (λ o. first_for o t) e in
          let k = held_row m.head (labels js m) rs p e in
          let r = h.rows_are k.place k.row k.there in
          let g : k.row.term ≡ q = k.term ∙ sym f in
          record {
            node = r.node;
            is = subst (λ x. HasNode nodes x r.node) g r.is;
            early = subst (IsEarly added count) g r.early;
            head = sym k.head ∙ r.head;
            labels_are = ap (map (label js)) (sym k.labels_are) ∙ r.labels_are;
          }

  was_held : held rs m.head (labels js m) ≡ Some q ⊎ (held rs m.head (labels js m) ≡ None)
  was_held = by (held rs m.head (labels js m)) refl
    where
      by : (o : Option TermId) → held rs m.head (labels js m) ≡ o → held rs m.head (labels js m) ≡ Some q ⊎ (held rs m.head (labels js m) ≡ None)
      by None e = inr e
      by (Some p) e = inl (e ∙ ap Some (sym (q_is ∙ ap (λ o. first_for o t) e)))

  -- the term and the one that is found are congruent
  pub are_congruent : AreCongruent nodes js t q
  are_congruent = record { left = m; right = found_row.node; left_is = is; right_is = found_row.is; heads = found_row.head; args = sym (labels_again limit js are m.args) ∙ found_row.labels_are }

  module _ (fs : List Equal) (more : (s u : TermId) → Due js es s u → Due js fs s u) (due : Due js fs q t) (fs_are : (i : ℕ) (e : Equal) → slice_get fs i ≡ Some e → IsDue nodes added count told n js e) where
    entered_with : IsLevel nodes added count told n js (rs ++ signed m.head (labels js m) q ∷ []) fs rest
    entered_with = record {
      told_due = λ i x less at eq. more x.left x.right (h.told_due i x less at eq);
      entered = λ u k early at. by u k early at (h.entered u k early at);
      rows_are = of_push (λ i r. IsRow nodes added count js r) rs (signed m.head (labels js m) q) h.rows_are found_row;
      joins_are = h.joins_are;
      equals_are = fs_are;
    }
      where
        itself : (u : TermId) (k : Node) → HasNode nodes u k → t ≡ u → IsEntered js (rs ++ signed m.head (labels js m) q ∷ []) fs u k
        itself u k at e =
            let g : m ≡ k = one m k (sym is ∙ (ap (λ x. slice_get nodes x.0) e ∙ at)) in
            record {
              first = q;
              found = subst (λ p. held (rs ++ signed m.head (labels js m) q ∷ []) p.head (labels js p) ≡ Some q) g (held_new rs m.head (labels js m) q);
              due = subst (λ x. Due js fs q x) e due;
            }
          where
            one : (m k : Node) → Some (Some m) ≡ Some (Some k) → m ≡ k
            one m k e = cc

        waits : (u : TermId) (k : Node) → HasNode nodes u k → Waits rest u ⊎ (t ≡ u) → Waits rest u ⊎ IsEntered js (rs ++ signed m.head (labels js m) q ∷ []) fs u k
        waits u k at (inl w) = inl w
        waits u k at (inr e) = inr (itself u k at e)

        by : (u : TermId) (k : Node) → IsEarly added count u → HasNode nodes u k → Waits (rest ++ t ∷ []) u ⊎ IsEntered js rs es u k → Waits rest u ⊎ IsEntered js (rs ++ signed m.head (labels js m) q ∷ []) fs u k
        by u k early at (inl w) = waits u k at (waits_pop rest t u w)
        by u k early at (inr g) = inr (record { first = g.first; found = held_stays rs m.head k.head (labels js m) (labels js k) g.first q was_held g.found; due = more g.first u g.due })

  -- it is in the class of the one that is found
  pub entered_same : label_of js q ≡ label_of js t → IsLevel nodes added count told n js (rs ++ signed m.head (labels js m) q ∷ []) es rest
  entered_same e = entered_with es (λ s u d. d) (due_label js es q t e) h.equals_are

  -- else the two are to be joined
  pub entered_apart : (e : Equal) → e.left ≡ t → e.right ≡ q → e.cause ≡ Congruent → IsLevel nodes added count told n js (rs ++ signed m.head (labels js m) q ∷ []) (es ++ e ∷ []) rest
  entered_apart e left right cause = entered_with (es ++ e ∷ []) (λ s u d. due_more js es e s u d) due
      (of_push (λ i d. IsDue nodes added count told n js d) es e h.equals_are new)
    where
      due : Due js (es ++ e ∷ []) q t
      due f a = sym (ap (λ x. f (label_of js x)) (sym left) ∙ (due_last js es e f a ∙ ap (λ x. f (label_of js x)) right))

      new : IsDue nodes added count told n js e
      new = record {
        left = subst (IsEarly added count) (sym left) early;
        right = subst (IsEarly added count) (sym right) found_row.early;
        cause = subst (λ c. IsCause nodes told n js e.left e.right c) (sym cause) (subst (λ x. AreCongruent nodes js x e.right) (sym left) (subst (λ x. AreCongruent nodes js t x) (sym right) are_congruent));
      }

-- a term that waits and was never added
pub not_a_term : (nodes : List (Option Node)) (added : List TermId) (count : ℕ) (told : List Fact) (n : ℕ) (js : List Join) (rs : List Signature) (es : List Equal) (rest : List TermId) (t : TermId)
    → ((m : Node) → HasNode nodes t m → ⊥) → IsLevel nodes added count told n js rs es (rest ++ t ∷ []) → IsLevel nodes added count told n js rs es rest
not_a_term nodes added count told n js rs es rest t none h = record {
  told_due = h.told_due;
  entered = λ u k early at. by u k at (h.entered u k early at);
  rows_are = h.rows_are;
  joins_are = h.joins_are;
  equals_are = h.equals_are;
}
  where
    other : (u : TermId) (k : Node) → HasNode nodes u k → Waits rest u ⊎ (t ≡ u) → Waits rest u ⊎ IsEntered js rs es u k
    other u k at (inl w) = inl w
    other u k at (inr e) = absurd (none k (subst (λ x. HasNode nodes x k) (sym e) at))

    by : (u : TermId) (k : Node) → HasNode nodes u k → Waits (rest ++ t ∷ []) u ⊎ IsEntered js rs es u k → Waits rest u ⊎ IsEntered js rs es u k
    by u k at (inl w) = other u k at (waits_pop rest t u w)
    by u k at (inr g) = inr g

-- the next term of the list waits
pub next_waits : (nodes : List (Option Node)) (added : List TermId) (count : ℕ) (told : List Fact) (n : ℕ) (js : List Join) (rs : List Signature) (t : TermId)
    → slice_get added count ≡ Some t → IsLevel nodes added count told n js rs [] [] → IsLevel nodes added (suc count) told n js rs [] (t ∷ [])
next_waits nodes added count told n js rs t at h = record {
  told_due = h.told_due;
  entered = λ u k early is. by u k early is;
  rows_are = λ i r there. row_kept nodes nodes added added count (suc count) told told n n keeps js r (h.rows_are i r there);
  joins_are = λ i j there. link_kept nodes nodes added added count (suc count) told told n n keeps (take i js) j (h.joins_are i j there);
  equals_are = λ i e there. absurd (no e there);
}
  where
    no : (e : Equal) → None ≡ Some e → ⊥
    no e h = cc

    keeps : Keeps nodes nodes added added count (suc count) told told n n
    keeps = record { node = λ u m is. is; early = λ u e. record { place = e.place; early = (let g = e.early in omega (arith, g)); there = e.there }; fact = λ i x less there. there; more = omega arith }

    one : (t u : TermId) → Some t ≡ Some u → t ≡ u
    one t u e = cc

    old : (u : TermId) (k : Node) → Waits [] u ⊎ IsEntered js rs [] u k → Waits (t ∷ []) u ⊎ IsEntered js rs [] u k
    old u k (inl w) = absurd (none w)
      where
        none : Waits [] u → ⊥
        none w = cc
    old u k (inr g) = inr g

    cases : (u : TermId) (k : Node) (i : ℕ) → i < suc count → slice_get added i ≡ Some u → HasNode nodes u k → (i < count) ⊎ (i ≡ count) → Waits (t ∷ []) u ⊎ IsEntered js rs [] u k
    cases u k i less there is (inl g) = old u k (h.entered u k (record { place = i; early = g; there = there }) is)
    cases u k i less there is (inr e) = inl (0, ap Some (one t u (sym at ∙ (ap (slice_get added) (sym e) ∙ there))))

    below : (i c : ℕ) → i < suc c → (i < c) ⊎ (i ≡ c)
    below i c h = step (same_or_apart i c)
      where
        step : (i ≡ c) ⊎ (i ≢ c) → (i < c) ⊎ (i ≡ c)
        step (inl e) = inr e
        step (inr a) = inl (omega (arith, h, a))

    by : (u : TermId) (k : Node) → IsEarly added (suc count) u → HasNode nodes u k → Waits (t ∷ []) u ⊎ IsEntered js rs [] u k
    by u k early is = cases u k early.place early.early early.there is (below early.place count early.early)
