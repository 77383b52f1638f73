-- The first pointers behind that lead to each type, from the first place on.
use Rattle.std.proofs.Common.{◌≡◌, ℕ, zero, suc, ◌+◌, ◌<◌, ◌≤◌, Bool, true, false, cond, nat_eq, List, [], ◌∷◌, ◌++◌, drop, length, get_or, Option, Some, None, refl, sym, ap, ◌∙◌, subst, arith}
use Rattle.std.proofs.Math.Seq.{drop-cons}
use Rattle.std.proofs.lemmas.Bool.{eqb-true, eq-eqb}
use Rattle.std.proofs.lemmas.List.{append_assoc, append-nil, drop_all}
use Rattle.std.specs.Map.{lookup}
use Rattle.indexmap.specs.IndexMap.{IndexMap, insert_entry}
use Rattle.indexmap.proofs.CallerLemmas.{insert_entry-new}
use Rattle.spv_program.specs.Lists.{item_at, first_of}
use Rattle.spv_typing.specs.Merging.{first_where}
use Rattle.spv_declaration_typing.specs.canonical_types.Behind.{leads_to, known_or, placed, first_behind, firsts_behind, seen_or, seen_with, seen_after, first_told}

pub item_there : (xs : List (Option ℕ)) (n : ℕ) → n < length xs → item_at xs n ≡ Some (get_or xs n None)
item_there [] n h = absurd (omega (arith, h))
item_there (x ∷ xs) zero h = refl
item_there (x ∷ xs) (suc n) h = item_there xs n (omega (arith, h))

pub item_past : (xs : List (Option ℕ)) (n : ℕ) → length xs ≤ n → item_at xs n ≡ None
item_past [] n h = refl
item_past (x ∷ xs) zero h = absurd (omega (arith, h))
item_past (x ∷ xs) (suc n) h = item_past xs n (omega (arith, h))

pub put_last : {S : Type 0} (m : IndexMap ℕ ℕ S) (t place : ℕ) → lookup (nat_eq t) m.entries ≡ None → insert_entry nat_eq m.entries t place ≡ seen_with m.entries t place (lookup (nat_eq t) m.entries)
put_last m t place none = insert_entry-new nat_eq m t place none ∙ ap (seen_with m.entries t place) (sym none)

-- ---- the first that passes a test is not before a place

where_next : (test : Option ℕ → Bool) (xs : List (Option ℕ)) (j : ℕ) (x : Option ℕ) → item_at xs j ≡ Some x → test x ≡ false → j ≤ first_where test xs → suc j ≤ first_where test xs
where_next test [] j x e f h = absurd cc
where_next test (y ∷ xs) zero x e f h =
    let same : y ≡ x = cc in
    subst (λ n. 1 ≤ n) (sym (ap (λ b. cond b 0 (suc (first_where test xs))) (ap test same ∙ f))) (positive (first_where test xs))
  where
    positive : (n : ℕ) → 1 ≤ suc n
    positive n = omega arith
where_next test (y ∷ xs) (suc j) x e f h = by_test (test y) h (λ g. where_next test xs j x e f g)
  where
    further : (n m : ℕ) → suc n ≤ suc m → n ≤ m
    further n m h = omega (arith, h)

    by_test : (b : Bool) → suc j ≤ cond b 0 (suc (first_where test xs)) → (j ≤ first_where test xs → suc j ≤ first_where test xs) → suc (suc j) ≤ cond b 0 (suc (first_where test xs))
    by_test true g later = absurd (omega (arith, g))
    by_test false g later = let h : suc j ≤ first_where test xs = later (further j (first_where test xs) g) in omega (arith, h)

where_here : (test : Option ℕ → Bool) (xs : List (Option ℕ)) (j : ℕ) (x : Option ℕ) → item_at xs j ≡ Some x → test x ≡ true → j ≤ first_where test xs → first_where test xs ≡ j
where_here test [] j x e f h = absurd cc
where_here test (y ∷ xs) zero x e f h = let same : y ≡ x = cc in ap (λ b. cond b 0 (suc (first_where test xs))) (ap test same ∙ f)
where_here test (y ∷ xs) (suc j) x e f h = by_test (test y) h (λ g. where_here test xs j x e f g)
  where
    further : (n m : ℕ) → suc n ≤ suc m → n ≤ m
    further n m h = omega (arith, h)

    by_test : (b : Bool) → suc j ≤ cond b 0 (suc (first_where test xs)) → (j ≤ first_where test xs → first_where test xs ≡ j) → cond b 0 (suc (first_where test xs)) ≡ suc j
    by_test true g later = absurd (omega (arith, g))
    by_test false g later = ap suc (later (further j (first_where test xs) g))

lookup_append : (test : ℕ → Bool) (xs ys : List (ℕ × ℕ)) → lookup test (xs ++ ys) ≡ first_of (lookup test xs) (lookup test ys)
lookup_append test [] ys = refl
lookup_append test (e ∷ xs) ys = by_test (test e.0) (lookup_append test xs ys)
  where
    by_test : (b : Bool) → lookup test (xs ++ ys) ≡ first_of (lookup test xs) (lookup test ys) → cond b (Some e.1) (lookup test (xs ++ ys)) ≡ first_of (cond b (Some e.1) (lookup test xs)) (lookup test ys)
    by_test true h = refl
    by_test false h = h

-- ---- what was seen so far

pub record SeenSoFar (base : ℕ) (targets : List (Option ℕ)) (place : ℕ) (entries : List (ℕ × ℕ)) : Type 0 where
  pub known : (t q : ℕ) → lookup (nat_eq t) entries ≡ Some q → q ≡ base + first_where (leads_to t) targets
  pub missing : (t : ℕ) → lookup (nat_eq t) entries ≡ None → place ≤ first_where (leads_to t) targets

pub none_seen : (base : ℕ) (targets : List (Option ℕ)) (entries : List (ℕ × ℕ)) → entries ≡ [] → SeenSoFar base targets 0 entries
none_seen base targets entries none = record {
  known = λ t q e. absurd (nothing t q (ap (λ (l : List (ℕ × ℕ)). lookup (nat_eq t) l) (sym none) ∙ e));
  missing = λ t e. least (first_where (leads_to t) targets);
}
  where
    nothing : (t q : ℕ) → (let o : Option ℕ = None in o) ≡ Some q → ⊥
    nothing t q e = cc

    least : (n : ℕ) → 0 ≤ n
    least n = omega arith

module _ (base : ℕ) (targets : List (Option ℕ)) (place : ℕ) (entries : List (ℕ × ℕ)) (so_far : SeenSoFar base targets place entries) where
  other_target : (t u : ℕ) → nat_eq u t ≡ false → item_at targets place ≡ Some (Some t) → lookup (nat_eq u) entries ≡ None → suc place ≤ first_where (leads_to u) targets
  other_target t u h at e = where_next (leads_to u) targets place (Some t) at h (so_far.missing u e)

  no_target_seen : item_at targets place ≡ Some None → SeenSoFar base targets (suc place) entries
  no_target_seen at = record { known = so_far.known; missing = λ u e. where_next (leads_to u) targets place None at refl (so_far.missing u e) }

  seen_before : (t q : ℕ) → item_at targets place ≡ Some (Some t) → lookup (nat_eq t) entries ≡ Some q → SeenSoFar base targets (suc place) entries
  seen_before t q at e = record { known = so_far.known; missing = λ u f. by_target u f (nat_eq u t) refl }
    where
      not_both : (o : Option ℕ) → o ≡ Some q → o ≡ None → ⊥
      not_both o d f = cc

      by_target : (u : ℕ) → lookup (nat_eq u) entries ≡ None → (b : Bool) → nat_eq u t ≡ b → suc place ≤ first_where (leads_to u) targets
      by_target u f false g = other_target t u g at f
      by_target u f true g = absurd (not_both (lookup (nat_eq t) entries) e (ap (λ n. lookup (nat_eq n) entries) (sym (eqb-true u t g)) ∙ f))

  first_is_here : (t : ℕ) → item_at targets place ≡ Some (Some t) → lookup (nat_eq t) entries ≡ None → first_where (leads_to t) targets ≡ place
  first_is_here t at e = where_here (leads_to t) targets place (Some t) at (eq-eqb t t refl) (so_far.missing t e)

  seen_now : (t : ℕ) → item_at targets place ≡ Some (Some t) → lookup (nat_eq t) entries ≡ None → SeenSoFar base targets (suc place) (entries ++ (t, base + place) ∷ [])
  seen_now t at none = record {
    known = λ u q e. known_at u q (nat_eq u t) refl (lookup (nat_eq u) entries) refl (sym (lookup_append (nat_eq u) entries ((t, base + place) ∷ [])) ∙ e);
    missing = λ u e. missing_at u (nat_eq u t) refl (lookup (nat_eq u) entries) refl (sym (lookup_append (nat_eq u) entries ((t, base + place) ∷ [])) ∙ e);
  }
    where
      known_at : (u q : ℕ) (b : Bool) → nat_eq u t ≡ b → (o : Option ℕ) → lookup (nat_eq u) entries ≡ o → first_of o (cond (nat_eq u t) (Some (base + place)) None) ≡ Some q
          → q ≡ base + first_where (leads_to u) targets
      known_at u q b g (Some r) f e = so_far.known u q (f ∙ e)
      known_at u q true g None f e =
          let same : u ≡ t = eqb-true u t g in
          some_is (base + place) q (ap (λ b. cond b (Some (base + place)) None) (sym g) ∙ e)
          ∙ (ap (λ n. base + n) (sym (first_is_here t at none)) ∙ ap (λ n. base + first_where (leads_to n) targets) (sym same))
        where
          some_is : (m n : ℕ) → (let o : Option ℕ = Some m in o) ≡ Some n → n ≡ m
          some_is m n e = cc
      known_at u q false g None f e = absurd (nothing q (ap (λ b. cond b (Some (base + place)) None) (sym g) ∙ e))
        where
          nothing : (q : ℕ) → (let o : Option ℕ = None in o) ≡ Some q → ⊥
          nothing q e = cc

      missing_at : (u : ℕ) (b : Bool) → nat_eq u t ≡ b → (o : Option ℕ) → lookup (nat_eq u) entries ≡ o → first_of o (cond (nat_eq u t) (Some (base + place)) None) ≡ None
          → suc place ≤ first_where (leads_to u) targets
      missing_at u b g (Some r) f e = absurd cc
      missing_at u true g None f e = absurd (something (base + place) (ap (λ b. cond b (Some (base + place)) None) (sym g) ∙ e))
        where
          something : (n : ℕ) → (let o : Option ℕ = Some n in o) ≡ None → ⊥
          something n e = cc
      missing_at u false g None f e = other_target t u g at f

  seen_step : (x : Option ℕ) → item_at targets place ≡ Some x → SeenSoFar base targets (suc place) (seen_after entries (base + place) x)
  seen_step None at = no_target_seen at
  seen_step (Some t) at = by_lookup (lookup (nat_eq t) entries) refl
    where
      by_lookup : (o : Option ℕ) → lookup (nat_eq t) entries ≡ o → SeenSoFar base targets (suc place) (seen_with entries t (base + place) o)
      by_lookup (Some q) e = seen_before t q at e
      by_lookup None e = seen_now t at e

  told_is : (pointers : List (Option ℕ)) (x : Option ℕ) → item_at targets place ≡ Some x → first_told pointers entries (base + place) x ≡ first_behind pointers base targets (base + place) x
  told_is pointers None at = refl
  told_is pointers (Some t) at = ap (λ n. known_or n (item_at pointers t)) (by_lookup (lookup (nat_eq t) entries) refl)
    where
      by_lookup : (o : Option ℕ) → lookup (nat_eq t) entries ≡ o → seen_or (base + place) o ≡ base + first_where (leads_to t) targets
      by_lookup (Some q) e = so_far.known t q e
      by_lookup None e = ap (λ n. base + n) (sym (first_is_here t at e))

-- ---- the loop

pub record ToldSoFar (pointers : List (Option ℕ)) (base : ℕ) (targets : List (Option ℕ)) (place : ℕ) (entries : List (ℕ × ℕ)) (done : List ℕ) : Type 0 where
  pub seen : SeenSoFar base targets place entries
  pub rest : done ++ placed (first_behind pointers base targets) (base + place) (drop place targets) ≡ firsts_behind pointers base targets

module _ (pointers : List (Option ℕ)) (base : ℕ) (targets : List (Option ℕ)) where
  pub told_none : (entries : List (ℕ × ℕ)) (done : List ℕ) → entries ≡ [] → done ≡ [] → ToldSoFar pointers base targets 0 entries done
  told_none entries done none_yet nothing = record {
    seen = none_seen base targets entries none_yet;
    rest = ap (λ (l : List ℕ). l ++ placed (first_behind pointers base targets) (base + 0) targets) nothing ∙ ap (λ n. placed (first_behind pointers base targets) n targets) (none base);
  }
    where
      none : (n : ℕ) → n + 0 ≡ n
      none n = omega arith

  pub told_more : (place : ℕ) (entries later : List (ℕ × ℕ)) (done grown : List ℕ) (n : ℕ) → place < length targets → n ≡ first_told pointers entries (base + place) (get_or targets place None)
      → later ≡ seen_after entries (base + place) (get_or targets place None) → grown ≡ done ++ n ∷ [] → ToldSoFar pointers base targets place entries done
      → ToldSoFar pointers base targets (place + 1) later grown
  told_more place entries later done grown n within is after pushed so_far =
      let x = get_or targets place None in
      let at : item_at targets place ≡ Some x = item_there targets place within in
      record {
        seen = subst (λ m. SeenSoFar base targets m later) (next_is place) (subst (SeenSoFar base targets (suc place)) (sym after) (seen_step base targets place entries so_far.seen x at));
        rest =
            ap (λ (l : List ℕ). l ++ placed (first_behind pointers base targets) (base + (place + 1)) (drop (place + 1) targets)) pushed
            ∙ (append_assoc done (n ∷ []) (placed (first_behind pointers base targets) (base + (place + 1)) (drop (place + 1) targets))
            ∙ (ap (λ m. done ++ m ∷ placed (first_behind pointers base targets) (base + (place + 1)) (drop (place + 1) targets)) (is ∙ told_is base targets place entries so_far.seen pointers x at)
            ∙ (ap (λ m. done ++ first_behind pointers base targets (base + place) x ∷ placed (first_behind pointers base targets) m (drop (place + 1) targets)) (further base place)
            ∙ (ap (λ m. done ++ first_behind pointers base targets (base + place) x ∷ placed (first_behind pointers base targets) (suc (base + place)) (drop m targets)) (sym (next_is place))
            ∙ (ap (λ (l : List (Option ℕ)). done ++ placed (first_behind pointers base targets) (base + place) l) (sym (drop-cons targets place None within)) ∙ so_far.rest)))));
      }
    where
      next_is : (n : ℕ) → suc n ≡ n + 1
      next_is n = omega arith

      further : (n m : ℕ) → n + (m + 1) ≡ suc (n + m)
      further n m = omega arith

  pub told_all : (place : ℕ) (entries : List (ℕ × ℕ)) (done : List ℕ) → length targets ≤ place → ToldSoFar pointers base targets place entries done → done ≡ firsts_behind pointers base targets
  told_all place entries done past so_far =
      sym (append-nil done) ∙ (ap (λ (l : List (Option ℕ)). done ++ placed (first_behind pointers base targets) (base + place) l) (sym (drop_all place targets past)) ∙ so_far.rest)
