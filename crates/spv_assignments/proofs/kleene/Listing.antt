-- The list of connectives, and lists of values, one term more.
use Rattle.std.proofs.Common.{◌≡◌, ◌≢◌, ℕ, zero, suc, ◌<◌, ◌+◌, Bool, true, false, cond, List, [], ◌∷◌, ◌++◌, length, nat_eq, slice_get, slice_index_or, refl, sym, ap, subst, ◌∙◌, Option, Some, None, arith, inl, inr}
use mathlib.Core.Logic.{◌⊎◌}
use Rattle.std.proofs.lemmas.Bool.{false≢true}
use Rattle.std.proofs.lemmas.Bool.Decides.{eqb_tells}
use Rattle.std.proofs.lemmas.List.{length_push, get_or_push}
use Rattle.std.proofs.lemmas.Option.{slice_get_within, same_Some}
use Rattle.spv_logic.specs.declared.conditions.TermId.{TermId}
use Rattle.spv_term.specs.Arena.{Arena}
use Rattle.spv_term.proofs.NodeLemmas.{id_from}
use Rattle.spv_term.proofs.ListLemmas.{slice_get-append_left, slice_get_push}
use Rattle.spv_assignments.specs.kleene.Passes.{connects, StandsAt, AreConnectives}

-- ---- the list of connectives

-- the connectives among the first terms
pub record ListedTo (a : Arena) (n : ℕ) (ids : List TermId) : Type 0 where
  pub in_range : (i : ℕ) (t : TermId) → slice_get ids i ≡ Some t → t.0 < n
  pub connect : (i : ℕ) (t : TermId) → slice_get ids i ≡ Some t → connects a t ≡ true
  pub rising : (i j : ℕ) (s t : TermId) → slice_get ids i ≡ Some s → slice_get ids j ≡ Some t → s.0 < t.0 → i < j
  pub all : (t : TermId) → t.0 < n → connects a t ≡ true → StandsAt ids t

of_last : {X : Type 0} (xs : List X) (y z : X) (i : ℕ) → slice_get (xs ++ y ∷ []) i ≡ Some z → (slice_get xs i ≡ Some z) ⊎ ((i ≡ length xs) × (y ≡ z))
of_last [] y z zero e = inr (refl, same_Some y z e)
of_last [] y z (suc i) e = absurd cc
of_last (x ∷ xs) y z zero e = inl e
of_last (x ∷ xs) y z (suc i) e = further (of_last xs y z i e)
  where
    further : (slice_get xs i ≡ Some z) ⊎ ((i ≡ length xs) × (y ≡ z)) → (slice_get (x ∷ xs) (suc i) ≡ Some z) ⊎ ((suc i ≡ length (x ∷ xs)) × (y ≡ z))
    further (inl h) = inl h
    further (inr h) = inr (ap suc h.0, h.1)

pub listed_none : (a : Arena) → ListedTo a 0 []
listed_none a = record {
  in_range = λ i t e. cc;
  connect = λ i t e. cc;
  rising = λ i j s t e. cc;
  all = λ t h. absurd (omega (arith, h));
}

module _ (a : Arena) (n : ℕ) (ids new : List TermId) (listed : ListedTo a n ids) (t : TermId) (here : t.0 ≡ n) where
  here_or_below : (u : TermId) → u.0 < n + 1 → (u.0 < n) ⊎ (u ≡ t)
  here_or_below u h = by_case (eqb_tells u.0 t.0)
    where
      by_case : ((nat_eq u.0 t.0 ≡ true) × (u.0 ≡ t.0)) ⊎ ((nat_eq u.0 t.0 ≡ false) × (u.0 ≢ t.0)) → (u.0 < n) ⊎ (u ≡ t)
      by_case (inl e) = inr (id_from u t e.1)
      by_case (inr e) = inl (let other : u.0 ≢ t.0 = e.1 in omega (arith, h, other, here))

  with_one : connects a t ≡ true → ListedTo a (n + 1) (ids ++ t ∷ [])
  with_one c = record {
    in_range = λ i u e. in_range_at i u (of_last ids t u i e);
    connect = λ i u e. connect_at i u (of_last ids t u i e);
    rising = λ i j u w e f h. rising_at i j u w (of_last ids t u i e) (of_last ids t w j f) h;
    all = λ u h d. all_at u d (here_or_below u h);
  }
    where
      in_range_at : (i : ℕ) (u : TermId) → (slice_get ids i ≡ Some u) ⊎ ((i ≡ length ids) × (t ≡ u)) → u.0 < n + 1
      in_range_at i u (inl e) = let h : u.0 < n = listed.in_range i u e in omega (arith, h)
      in_range_at i u (inr e) = let h : t.0 ≡ u.0 = ap (λ (x : TermId). x.0) e.1 in omega (arith, h, here)

      connect_at : (i : ℕ) (u : TermId) → (slice_get ids i ≡ Some u) ⊎ ((i ≡ length ids) × (t ≡ u)) → connects a u ≡ true
      connect_at i u (inl e) = listed.connect i u e
      connect_at i u (inr e) = sym (ap (connects a) e.1) ∙ c

      rising_at : (i j : ℕ) (u w : TermId) → (slice_get ids i ≡ Some u) ⊎ ((i ≡ length ids) × (t ≡ u)) → (slice_get ids j ≡ Some w) ⊎ ((j ≡ length ids) × (t ≡ w)) → u.0 < w.0 → i < j
      rising_at i j u w (inl e) (inl f) h = listed.rising i j u w e f h
      rising_at i j u w (inl e) (inr f) h = let k : i < length ids = slice_get_within ids i u e in let g : j ≡ length ids = f.0 in omega (arith, k, g)
      rising_at i j u w (inr e) (inl f) h = let k : w.0 < n = listed.in_range j w f in let g : t.0 ≡ u.0 = ap (λ (x : TermId). x.0) e.1 in absurd (omega (arith, k, g, h, here))
      rising_at i j u w (inr e) (inr f) h =
          let k : t.0 ≡ w.0 = ap (λ (x : TermId). x.0) f.1 in
          let g : t.0 ≡ u.0 = ap (λ (x : TermId). x.0) e.1 in
          absurd (omega (arith, k, g, h))

      all_at : (u : TermId) → connects a u ≡ true → (u.0 < n) ⊎ (u ≡ t) → StandsAt (ids ++ t ∷ []) u
      all_at u d (inl h) =
          let stands = listed.all u h d in
          record { place = stands.place; is = slice_get-append_left ids (t ∷ []) stands.place (slice_get_within ids stands.place u stands.is) ∙ stands.is }
      all_at u d (inr e) = record { place = length ids; is = slice_get_push ids t ∙ ap Some (sym e) }

  without : connects a t ≡ false → ListedTo a (n + 1) ids
  without c = record {
    in_range = λ i u e. further u (listed.in_range i u e);
    connect = listed.connect;
    rising = listed.rising;
    all = λ u h d. all_at u d (here_or_below u h);
  }
    where
      further : (u : TermId) → u.0 < n → u.0 < n + 1
      further u h = omega (arith, h)

      all_at : (u : TermId) → connects a u ≡ true → (u.0 < n) ⊎ (u ≡ t) → StandsAt ids u
      all_at u d (inl h) = listed.all u h d
      all_at u d (inr e) = absurd (false≢true (sym c ∙ (sym (ap (connects a) e) ∙ d)))

  pub listed_next : (wanted : Bool) → wanted ≡ connects a t → new ≡ cond wanted (ids ++ t ∷ []) ids → ListedTo a (n + 1) new
  listed_next true w e = subst (λ (xs : List TermId). ListedTo a (n + 1) xs) (sym e) (with_one (sym w))
  listed_next false w e = subst (λ (xs : List TermId). ListedTo a (n + 1) xs) (sym e) (without (sym w))

pub listed_all : (a : Arena) (n : ℕ) (ids : List TermId) → ListedTo a n ids → n ≡ length a.nodes → AreConnectives a ids
listed_all a n ids listed e = record {
  in_range = λ i t is. subst (λ (m : ℕ). t.0 < m) e (listed.in_range i t is);
  connect = listed.connect;
  rising = listed.rising;
  all = λ t h c. listed.all t (subst (λ (m : ℕ). t.0 < m) (sym e) h) c;
}

-- ---- lists of values

-- each of the first terms has its value
pub record ValuedTo (n : ℕ) (value : TermId → Option Bool) (values : List (Option Bool)) : Type 0 where
  pub count : length values ≡ n
  pub each : (t : TermId) → t.0 < n → slice_index_or values t.0 None ≡ value t

pub valued_none : (value : TermId → Option Bool) → ValuedTo 0 value []
valued_none value = record { count = refl; each = λ t h. absurd (omega (arith, h)) }

pub valued_next : (n : ℕ) (value : TermId → Option Bool) (values new : List (Option Bool)) (t : TermId) (o : Option Bool) → ValuedTo n value values → t.0 ≡ n → o ≡ value t → new ≡ values ++ o ∷ [] → ValuedTo (n + 1) value new
valued_next n value values new t o valued here is e = record {
  count = ap length e ∙ (length_push values o ∙ (let h : length values ≡ n = valued.count in omega (arith, h)));
  each = λ u h. by_case u h (eqb_tells u.0 t.0);
}
  where
    by_case : (u : TermId) → u.0 < n + 1 → ((nat_eq u.0 t.0 ≡ true) × (u.0 ≡ t.0)) ⊎ ((nat_eq u.0 t.0 ≡ false) × (u.0 ≢ t.0)) → slice_index_or new u.0 None ≡ value u
    by_case u h (inl same) =
        ap (λ xs. slice_index_or xs u.0 None) e
        ∙ (get_or_push values o None u.0 (valued.count ∙ (sym here ∙ sym same.1)) ∙ (is ∙ sym (ap value (id_from u t same.1))))
    by_case u h (inr other) =
        let apart : u.0 ≢ t.0 = other.1 in
        let below : u.0 < n = omega (arith, h, apart, here) in
        ap (λ xs. slice_index_or xs u.0 None) e ∙ (index_left values (o ∷ []) u.0 (omega (arith, below, valued.count)) ∙ valued.each u below)
      where
        index_left : (xs ys : List (Option Bool)) (i : ℕ) → i < length xs → slice_index_or (xs ++ ys) i None ≡ slice_index_or xs i None
        index_left [] ys i k = absurd (omega (arith, k))
        index_left (x ∷ xs) ys zero k = refl
        index_left (x ∷ xs) ys (suc i) k = index_left xs ys i (omega (arith, k))
