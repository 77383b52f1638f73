-- Equalities that are still to be joined.
use Rattle.std.proofs.Common.{◌≡◌, ◌≢◌, ℕ, zero, suc, List, [], ◌∷◌, ◌++◌, map, length, slice_get, Some, refl, sym, ap, ◌∙◌, inl, inr, ◌⊎◌}
use Rattle.spv_logic.specs.declared.conditions.TermId.{TermId}
use Rattle.spv_union_find.specs.declared.classes.joins.Join.{Join}
use Rattle.spv_union_find.specs.classes.Classes.{label, one_label}
use Rattle.spv_union_find.proofs.classes.Lists.{same_or_apart, by_last, get_left, get_push, get_within}
use Rattle.spv_union_find.proofs.classes.Labels.{label_push, label_stays, label_was_lower}
use Rattle.spv_congruence.specs.declared.facts.Equal.{Equal}
use Rattle.spv_congruence.specs.Graph.{label_of, Agrees, Due, Waits, HasLabel}

module _ (f : ℕ → ℕ) (js : List Join) where
  pub agrees_front : (es : List Equal) (e : Equal) → Agrees f js (es ++ e ∷ []) → Agrees f js es
  agrees_front [] e a = tt
  agrees_front (d ∷ es) e a = (a.0, agrees_front es e a.1)

  pub agrees_last : (es : List Equal) (e : Equal) → Agrees f js (es ++ e ∷ []) → f (label_of js e.left) ≡ f (label_of js e.right)
  agrees_last [] e a = a.0
  agrees_last (d ∷ es) e a = agrees_last es e a.1

  pub agrees_both : (es : List Equal) (e : Equal) → Agrees f js es → f (label_of js e.left) ≡ f (label_of js e.right) → Agrees f js (es ++ e ∷ [])
  agrees_both [] e a h = (h, tt)
  agrees_both (d ∷ es) e a h = (a.0, agrees_both es e a.1 h)

agrees_back : (f : ℕ → ℕ) (js : List Join) (j : Join) (es : List Equal) → Agrees f (js ++ j ∷ []) es → Agrees (λ l. f (one_label l j)) js es
agrees_back f js j [] a = tt
agrees_back f js j (e ∷ es) a =
    (sym (ap f (label_push js j e.left.0)) ∙ (a.0 ∙ ap f (label_push js j e.right.0)), agrees_back f js j es a.1)

pub due_more : (js : List Join) (es : List Equal) (e : Equal) (s t : TermId) → Due js es s t → Due js (es ++ e ∷ []) s t
due_more js es e s t h f a = h f (agrees_front f js es e a)

-- the last equality is joined
pub due_joined : (js : List Join) (j : Join) (rest : List Equal) (e : Equal) (s t : TermId) → label_of (js ++ j ∷ []) e.left ≡ label_of (js ++ j ∷ []) e.right
    → Due js (rest ++ e ∷ []) s t → Due (js ++ j ∷ []) rest s t
due_joined js j rest e s t same h f a =
    let g : ℕ → ℕ = λ l. f (one_label l j) in
    let last : g (label_of js e.left) ≡ g (label_of js e.right) = sym (ap f (label_push js j e.left.0)) ∙ (ap f same ∙ ap f (label_push js j e.right.0)) in
    ap f (label_push js j s.0)
    ∙ (h g (agrees_both g js rest e (agrees_back f js j rest a) last) ∙ sym (ap f (label_push js j t.0)))

-- the last equality is joined already
pub due_same : (js : List Join) (rest : List Equal) (e : Equal) (s t : TermId) → label_of js e.left ≡ label_of js e.right → Due js (rest ++ e ∷ []) s t → Due js rest s t
due_same js rest e s t same h f a = h f (agrees_both f js rest e a (ap f same))

pub due_none : (js : List Join) (s t : TermId) → Due js [] s t → label_of js s ≡ label_of js t
due_none js s t h = h (λ l. l) tt

pub due_label : (js : List Join) (es : List Equal) (s t : TermId) → label_of js s ≡ label_of js t → Due js es s t
due_label js es s t e f a = ap f e

pub due_last : (js : List Join) (es : List Equal) (e : Equal) → Due js (es ++ e ∷ []) e.left e.right
due_last js es e f a = agrees_last f js es e a

-- ---- lists of labels after one more join

joined_numbers : (js : List Join) (j : Join) (xs : List ℕ) → map (label (js ++ j ∷ [])) xs ≡ map (λ l. one_label l j) (map (label js) xs)
joined_numbers js j [] = refl
joined_numbers js j (x ∷ xs) = two (label_push js j x) (joined_numbers js j xs)
  where
    two : {a b : ℕ} {xs ys : List ℕ} → a ≡ b → xs ≡ ys → a ∷ xs ≡ b ∷ ys
    two {a} {b} {xs} {ys} e f = ap (λ z. z ∷ xs) e ∙ ap (λ zs. b ∷ zs) f

joined_terms : (js : List Join) (j : Join) (us : List TermId) → map (label_of (js ++ j ∷ [])) us ≡ map (λ l. one_label l j) (map (label_of js) us)
joined_terms js j [] = refl
joined_terms js j (u ∷ us) = two (label_push js j u.0) (joined_terms js j us)
  where
    two : {a b : ℕ} {xs ys : List ℕ} → a ≡ b → xs ≡ ys → a ∷ xs ≡ b ∷ ys
    two {a} {b} {xs} {ys} e f = ap (λ z. z ∷ xs) e ∙ ap (λ zs. b ∷ zs) f

pub row_joined : (js : List Join) (j : Join) (xs : List ℕ) (us : List TermId) → map (label js) xs ≡ map (label_of js) us → map (label (js ++ j ∷ [])) xs ≡ map (label_of (js ++ j ∷ [])) us
row_joined js j xs us e = joined_numbers js j xs ∙ (ap (map (λ l. one_label l j)) e ∙ sym (joined_terms js j us))

pub args_joined : (js : List Join) (j : Join) (us vs : List TermId) → map (label_of js) us ≡ map (label_of js) vs → map (label_of (js ++ j ∷ [])) us ≡ map (label_of (js ++ j ∷ [])) vs
args_joined js j us vs e = joined_terms js j us ∙ (ap (map (λ l. one_label l j)) e ∙ sym (joined_terms js j vs))

-- a list of terms has one with this label, or it is none of their labels
pub has_or_stays : (js : List Join) (j : Join) (us : List TermId) → HasLabel js j.lower us ⊎ (map (label_of (js ++ j ∷ [])) us ≡ map (label_of js) us)
has_or_stays js j [] = inr refl
has_or_stays js j (u ∷ us) = by (same_or_apart (label_of js u) j.lower) (has_or_stays js j us)
  where
    two : {a b : ℕ} {xs ys : List ℕ} → a ≡ b → xs ≡ ys → a ∷ xs ≡ b ∷ ys
    two {a} {b} {xs} {ys} e f = ap (λ z. z ∷ xs) e ∙ ap (λ zs. b ∷ zs) f

    by : (label_of js u ≡ j.lower) ⊎ (label_of js u ≢ j.lower) → HasLabel js j.lower us ⊎ (map (label_of (js ++ j ∷ [])) us ≡ map (label_of js) us)
        → HasLabel js j.lower (u ∷ us) ⊎ (map (label_of (js ++ j ∷ [])) (u ∷ us) ≡ map (label_of js) (u ∷ us))
    by (inl e) rest = inl (record { place = 0; term = u; there = refl; is = e })
    by (inr h) (inl r) = inl (record { place = suc r.place; term = r.term; there = r.there; is = r.is })
    by (inr h) (inr e) = inr (two (label_stays js j u.0 h) e)

-- a label is the number itself, or a label that a join kept
pub record IsUpper (js : List Join) (l : ℕ) : Type 0 where
  pub place : ℕ
  pub join : Join
  pub there : slice_get js place ≡ Some join
  pub is : l ≡ join.upper

pub label_cases : (js : List Join) (x : ℕ) → (label js x ≡ x) ⊎ IsUpper js (label js x)
label_cases js x = by_last (λ ks. (label ks x ≡ x) ⊎ IsUpper ks (label ks x)) step (inl refl) js
  where
    step : (ks : List Join) (j : Join) → (label ks x ≡ x) ⊎ IsUpper ks (label ks x) → (label (ks ++ j ∷ []) x ≡ x) ⊎ IsUpper (ks ++ j ∷ []) (label (ks ++ j ∷ []) x)
    step ks j old = by old (same_or_apart (label ks x) j.lower)
      where
        by : (label ks x ≡ x) ⊎ IsUpper ks (label ks x) → (label ks x ≡ j.lower) ⊎ (label ks x ≢ j.lower) → (label (ks ++ j ∷ []) x ≡ x) ⊎ IsUpper (ks ++ j ∷ []) (label (ks ++ j ∷ []) x)
        by o (inl e) = inr (record { place = length ks; join = j; there = get_push ks j; is = label_was_lower ks j x e })
        by (inl e) (inr h) = inl (label_stays ks j x h ∙ e)
        by (inr u) (inr h) = inr (record { place = u.place; join = u.join; there = get_left ks (j ∷ []) u.place (get_within ks u.place u.join u.there) ∙ u.there; is = label_stays ks j x h ∙ u.is })

-- ---- terms that wait

pub waits_pop : (ws : List TermId) (w t : TermId) → Waits (ws ++ w ∷ []) t → Waits ws t ⊎ (w ≡ t)
waits_pop [] w t (zero, e) = inr (one w t e)
  where
    one : (w t : TermId) → Some w ≡ Some t → w ≡ t
    one w t e = cc
waits_pop [] w t (suc i, e) = absurd (cc)
waits_pop (v ∷ ws) w t (zero, e) = inl (0, e)
waits_pop (v ∷ ws) w t (suc i, e) = by (waits_pop ws w t (i, e))
  where
    by : Waits ws t ⊎ (w ≡ t) → Waits (v ∷ ws) t ⊎ (w ≡ t)
    by (inl h) = inl (suc h.0, h.1)
    by (inr h) = inr h
