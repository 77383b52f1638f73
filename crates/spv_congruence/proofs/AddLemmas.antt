-- Nodes and uses that are put into lists.
use Rattle.std.proofs.Common.{◌≡◌, ◌≢◌, ℕ, zero, suc, ◌<◌, ◌≤◌, List, [], ◌∷◌, ◌++◌, length, get_or, set, slice_get, slice_set, Option, Some, None, refl, sym, ap, ◌∙◌, subst, inl, inr, ◌⊎◌, arith}
use Rattle.std.proofs.lemmas.List.{length-set, length_push, get_or-set_same, get_or-set_other, get_or_append_left, get_or_past}
use Rattle.spv_logic.specs.declared.conditions.TermId.{TermId}
use Rattle.spv_term.specs.declared.nodes.Node.{Node}
use Rattle.spv_union_find.proofs.classes.Lists.{same_or_apart, get_left, get_push, get_within}
use Rattle.spv_congruence.specs.Graph.{HasNode, Waits}
use Rattle.spv_congruence.specs.Keep.{HasPut, KeepsUses, uses_at}
use Rattle.spv_congruence.proofs.Goings.{waits_left, waits_right}

pub set_same : {X : Type 0} (xs : List X) (i : ℕ) (y : X) → i < length xs → slice_get (slice_set xs i y) i ≡ Some y
set_same [] i y h = absurd (omega arith)
set_same (x ∷ xs) zero y h = refl
set_same (x ∷ xs) (suc i) y h = set_same xs i y (omega arith)

pub set_other : {X : Type 0} (xs : List X) (i k : ℕ) (y : X) → k ≢ i → slice_get (slice_set xs i y) k ≡ slice_get xs k
set_other [] i k y h = refl
set_other (x ∷ xs) zero zero y h = absurd (h refl)
set_other (x ∷ xs) zero (suc k) y h = refl
set_other (x ∷ xs) (suc i) zero y h = refl
set_other (x ∷ xs) (suc i) (suc k) y h = set_other xs i k y (λ e. h (ap suc e))

-- a node is put where a place is
pub put_within : (nodes : List (Option Node)) (x : ℕ) (n : Node) → x < length nodes → HasPut nodes x n (slice_set nodes x (Some n))
put_within nodes x n h = record {
  there = set_same nodes x (Some n) h;
  kept = λ t m a is. set_other nodes x t.0 (Some n) a ∙ is;
  back = λ t m a is. sym (set_other nodes x t.0 (Some n) a) ∙ is;
  places = (let e = length-set nodes x (Some n) in omega (arith, e));
  stays = λ y k a. set_other nodes x y (Some n) a;
}

-- the same nodes are there
pub record SameNodes (old new : List (Option Node)) : Type 0 where
  pub kept : (t : TermId) (m : Node) → HasNode old t m → HasNode new t m
  pub back : (t : TermId) (m : Node) → HasNode new t m → HasNode old t m
  pub places : length old ≤ length new
  pub stays : (y : ℕ) → y < length old → slice_get new y ≡ slice_get old y

pub same_nodes : (nodes : List (Option Node)) → SameNodes nodes nodes
same_nodes nodes = record { kept = λ t m is. is; back = λ t m is. is; places = omega arith; stays = λ y h. refl }

pub of_last : {X : Type 0} (xs : List X) (y z : X) (i : ℕ) → slice_get (xs ++ y ∷ []) i ≡ Some z → (slice_get xs i ≡ Some z) ⊎ ((i ≡ length xs) × (y ≡ z))
of_last [] y z zero e = inr (refl, one _ _ e)
  where
    one : {X : Type 0} (a b : X) → Some a ≡ Some b → a ≡ b
    one a b h = cc
of_last [] y z (suc i) e = absurd (cc)
of_last (x ∷ xs) y z zero e = inl e
of_last (x ∷ xs) y z (suc i) e = by (of_last xs y z i e)
  where
    by : (slice_get xs i ≡ Some z) ⊎ ((i ≡ length xs) × (y ≡ z)) → (slice_get xs i ≡ Some z) ⊎ ((suc i ≡ suc (length xs)) × (y ≡ z))
    by (inl h) = inl h
    by (inr h) = inr (ap suc h.0, h.1)

pub none_more : (old ns ms : List (Option Node)) → ms ≡ ns ++ None ∷ [] → SameNodes old ns → SameNodes old ms
none_more old ns ms e same = subst (SameNodes old) (sym e) (record {
  kept = λ t m is. let h = same.kept t m is in get_left ns (None ∷ []) t.0 (get_within ns t.0 (Some m) h) ∙ h;
  back = λ t m is. same.back t m (by t m (of_last ns None (Some m) t.0 is));
  places = (let p = same.places in let e = length_push ns None in omega (arith, p, e));
  stays = λ y h. get_left ns (None ∷ []) y (let p = same.places in omega (arith, p, h)) ∙ same.stays y h;
})
  where
    by : (t : TermId) (m : Node) → (slice_get ns t.0 ≡ Some (Some m)) ⊎ ((t.0 ≡ length ns) × (None ≡ Some m)) → slice_get ns t.0 ≡ Some (Some m)
    by t m (inl h) = h
    by t m (inr h) = absurd (no m h.1)
      where
        no : (m : Node) → None ≡ Some m → ⊥
        no m e = cc

pub put_past : (old ns ms : List (Option Node)) (x : ℕ) (n : Node) → ms ≡ ns ++ Some n ∷ [] → x ≡ length ns → SameNodes old ns → HasPut old x n ms
put_past old ns ms x n e f same = subst (HasPut old x n) (sym e) (record {
  there = ap (slice_get (ns ++ Some n ∷ [])) f ∙ get_push ns (Some n);
  kept = λ t m a is. let h = same.kept t m is in get_left ns (Some n ∷ []) t.0 (get_within ns t.0 (Some m) h) ∙ h;
  back = λ t m a is. same.back t m (by t m a (of_last ns (Some n) (Some m) t.0 is));
  places = (let p = same.places in let e = length_push ns (Some n) in omega (arith, p, e));
  stays = λ y h a. get_left ns (Some n ∷ []) y (let p = same.places in omega (arith, p, h)) ∙ same.stays y h;
})
  where
    by : (t : TermId) (m : Node) → t.0 ≢ x → (slice_get ns t.0 ≡ Some (Some m)) ⊎ ((t.0 ≡ length ns) × (Some n ≡ Some m)) → slice_get ns t.0 ≡ Some (Some m)
    by t m a (inl h) = h
    by t m a (inr h) = absurd (a (h.0 ∙ sym f))

-- ---- uses

uses_set : (uses : List (List TermId)) (x y : ℕ) (ws : List TermId) → x < length uses → (y ≡ x) ⊎ (y ≢ x) → (t : TermId) → ((y ≡ x) → Waits (uses_at uses x) t → Waits ws t) → Waits (uses_at uses y) t → Waits (uses_at (set uses x ws) y) t
uses_set uses x y ws h (inl e) t more w =
    subst (λ vs. Waits vs t) (sym (ap (λ k. get_or (set uses x ws) k []) e ∙ get_or-set_same uses x ws [] h)) (more e (subst (λ k. Waits (uses_at uses k) t) e w))
uses_set uses x y ws h (inr a) t more w = subst (λ vs. Waits vs t) (sym (get_or-set_other uses x y ws [] a)) w

pub use_kept : (uses new : List (List TermId)) (x : ℕ) (ws more : List TermId) → x < length uses → new ≡ set uses x ws → ws ≡ uses_at uses x ++ more → KeepsUses uses new
use_kept uses new x ws more h e f y t w = subst (λ us. Waits (uses_at us y) t) (sym e)
    (uses_set uses x y ws h (same_or_apart y x) t (λ g v. subst (λ vs. Waits vs t) (sym f) (waits_left (uses_at uses x) more t v)) w)

pub use_added : (uses new : List (List TermId)) (x : ℕ) (ws old : List TermId) (t : TermId) → x < length uses → new ≡ set uses x ws → ws ≡ old ++ t ∷ [] → Waits (uses_at new x) t
use_added uses new x ws old t h e f = subst (λ us. Waits (uses_at us x) t) (sym e)
    (subst (λ vs. Waits vs t) (sym (get_or-set_same uses x ws [] h)) (subst (λ vs. Waits vs t) (sym f) (waits_right old (t ∷ []) t (0, refl))))

-- one empty list more makes no difference
pub uses_grown : (old uses new : List (List TermId)) → new ≡ uses ++ [] ∷ [] → ((x : ℕ) → uses_at uses x ≡ uses_at old x) → (x : ℕ) → uses_at new x ≡ uses_at old x
uses_grown old uses new e same x = ap (λ us. uses_at us x) e ∙ (by (less x (length uses)) ∙ same x)
  where
    less : (i n : ℕ) → (i < n) ⊎ (n ≤ i)
    less i zero = inr (omega arith)
    less zero (suc n) = inl (omega arith)
    less (suc i) (suc n) = step (less i n)
      where
        step : (i < n) ⊎ (n ≤ i) → (suc i < suc n) ⊎ (suc n ≤ suc i)
        step (inl h) = inl (omega arith)
        step (inr h) = inr (omega arith)

    past : (us : List (List TermId)) (i : ℕ) → length us ≤ i → get_or (us ++ [] ∷ []) i [] ≡ []
    past [] zero h = refl
    past [] (suc i) h = refl
    past (u ∷ us) zero h = absurd (omega arith)
    past (u ∷ us) (suc i) h = past us i (omega arith)

    by : (x < length uses) ⊎ (length uses ≤ x) → uses_at (uses ++ [] ∷ []) x ≡ uses_at uses x
    by (inl h) = get_or_append_left uses ([] ∷ []) [] x h
    by (inr h) = past uses x h ∙ sym (get_or_past uses x [] h)
