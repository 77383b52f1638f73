-- One round in the steps of the code is that of the definition, and a round that changes nothing is the last.
use Rattle.std.proofs.Common.{◌≡◌, ℕ, zero, suc, ◌<◌, ◌≤◌, ◌+◌, ◌-◌, Bool, true, false, cond, List, [], ◌∷◌, ◌++◌, map, drop, length, get_or, Option, Some, None, refl, sym, ap, ◌∙◌, subst, arith}
use Rattle.std.proofs.lemmas.List.{length-map, append_assoc, append-nil, drop_all}
use Rattle.std.proofs.Math.Seq.{drop-cons}
use Rattle.spv_program.specs.Lists.{item_at}
use Rattle.spv_typing.specs.Merging.{first_where, same_number, points_alike, first_alike, alike_from, numbers_from, firsts_after, firsts}
use Rattle.spv_declaration_typing.specs.pointer_types.Rounds.{target_first, leader_of, next_of, Below, IsLed, IsWithin}

module _ (targets : List (Option ℕ)) (firsts : List ℕ) where
  -- ---- pointers to the same, by the first type of each target

  none_same : (o : Option ℕ) → same_number o None ≡ false
  none_same None = refl
  none_same (Some n) = refl

  alike_seen : (t : ℕ) (x : Option ℕ) → points_alike firsts t x ≡ same_number (item_at firsts t) (target_first firsts x)
  alike_seen t None = sym (none_same (item_at firsts t))
  alike_seen t (Some u) = refl

  seen_where : (t : ℕ) (xs : List (Option ℕ)) → first_where (points_alike firsts t) xs ≡ first_where (same_number (item_at firsts t)) (map (target_first firsts) xs)
  seen_where t [] = refl
  seen_where t (x ∷ xs) =
      ap (λ b. cond b 0 (suc (first_where (points_alike firsts t) xs))) (alike_seen t x)
      ∙ ap (λ n. cond (same_number (item_at firsts t) (target_first firsts x)) 0 (suc n)) (seen_where t xs)

  never : (xs : List (Option ℕ)) → first_where (same_number None) xs ≡ length xs
  never [] = refl
  never (x ∷ xs) = ap suc (never xs)

  abbrev pub seen : List (Option ℕ)
  seen = map (target_first firsts) targets

  many_seen : length seen ≡ length targets
  many_seen = length-map targets (target_first firsts)

  module _ (leaders : List ℕ) (led : IsLed seen leaders) (within : IsWithin (length targets) firsts) where
    leader_is : (t : ℕ) (o : Option ℕ) → item_at firsts t ≡ o → leader_of leaders o ≡ first_where (same_number o) seen
    leader_is t None e = one_less (length leaders) (length seen) led.many ∙ sym (never seen)
      where
        one_less : (n m : ℕ) → n ≡ suc m → n - 1 ≡ m
        one_less n m h = omega (arith, h)
    leader_is t (Some f) e = led.led f (subst (λ n. f ≤ n) (sym many_seen) (within.within t f e))

    pub next_is : (place : ℕ) (o : Option ℕ) → next_of leaders place o (target_first firsts o) ≡ first_alike targets firsts place o
    next_is place None = refl
    next_is place (Some t) =
        leader_is t (item_at firsts t) refl ∙ sym (seen_where t targets)

    pub next_below : (o : Option ℕ) → Below (length leaders) (target_first firsts o)
    next_below None = some_more (length leaders) (length seen) led.many
      where
        some_more : (n m : ℕ) → n ≡ suc m → 0 < n
        some_more n m h = omega (arith, h)
    next_below (Some t) = by_case (item_at firsts t) refl
      where
        some_more : (n m : ℕ) → n ≡ suc m → 0 < n
        some_more n m h = omega (arith, h)

        lower : (f k n m : ℕ) → f ≤ k → n ≡ suc m → m ≡ k → f < n
        lower f k n m h e g = omega (arith, h, e, g)

        by_case : (o : Option ℕ) → item_at firsts t ≡ o → Below (length leaders) o
        by_case None e = some_more (length leaders) (length seen) led.many
        by_case (Some f) e = lower f (length targets) (length leaders) (length seen) (within.within t f e) led.many many_seen

  -- ---- the loop over the types

  pub alike_more : (n : ℕ) (old new : List ℕ) (r : ℕ) (whole : List ℕ) → n < length targets → r ≡ first_alike targets firsts n (get_or targets n None)
      → new ≡ old ++ r ∷ [] → old ++ alike_from targets firsts n (drop n targets) ≡ whole → new ++ alike_from targets firsts (n + 1) (drop (n + 1) targets) ≡ whole
  alike_more n old new r whole within is pushed so_far =
      ap (λ (l : List ℕ). l ++ alike_from targets firsts (n + 1) (drop (n + 1) targets)) pushed
      ∙ (append_assoc old (r ∷ []) (alike_from targets firsts (n + 1) (drop (n + 1) targets))
      ∙ (ap (λ (m : ℕ). old ++ r ∷ alike_from targets firsts m (drop m targets)) (next n)
      ∙ (ap (λ (m : ℕ). old ++ m ∷ alike_from targets firsts (suc n) (drop (suc n) targets)) is
      ∙ (ap (λ (xs : List (Option ℕ)). old ++ alike_from targets firsts n xs) (sym (drop-cons targets n None within)) ∙ so_far))))
    where
      next : (n : ℕ) → n + 1 ≡ suc n
      next n = omega arith

  pub alike_all : (n : ℕ) (done whole : List ℕ) → length targets ≤ n → done ++ alike_from targets firsts n (drop n targets) ≡ whole → done ≡ whole
  alike_all n done whole past so_far =
      sym (append-nil done) ∙ (ap (λ (xs : List (Option ℕ)). done ++ alike_from targets firsts n xs) (sym (drop_all n targets past)) ∙ so_far)

pub numbers_more : (targets : List (Option ℕ)) (n : ℕ) (old new whole : List ℕ) → n < length targets
    → new ≡ old ++ n ∷ [] → old ++ numbers_from n (drop n targets) ≡ whole → new ++ numbers_from (n + 1) (drop (n + 1) targets) ≡ whole
numbers_more targets n old new whole within pushed so_far =
    ap (λ (l : List ℕ). l ++ numbers_from (n + 1) (drop (n + 1) targets)) pushed
    ∙ (append_assoc old (n ∷ []) (numbers_from (n + 1) (drop (n + 1) targets))
    ∙ (ap (λ (m : ℕ). old ++ n ∷ numbers_from m (drop m targets)) (next n)
    ∙ (ap (λ (xs : List (Option ℕ)). old ++ numbers_from n xs) (sym (drop-cons targets n None within)) ∙ so_far)))
  where
    next : (n : ℕ) → n + 1 ≡ suc n
    next n = omega arith

-- ---- rounds

module _ (targets : List (Option ℕ)) where
  where_within : (test : Option ℕ → Bool) (xs : List (Option ℕ)) → first_where test xs ≤ length xs
  where_within test [] = omega arith
  where_within test (x ∷ xs) = by_case (test x) (where_within test xs)
    where
      by_case : (b : Bool) → first_where test xs ≤ length xs → cond b 0 (suc (first_where test xs)) ≤ suc (length xs)
      by_case true h = omega arith
      by_case false h = omega (arith, h)

  numbers_within : (place : ℕ) (ts : List (Option ℕ)) (i f : ℕ) → item_at (numbers_from place ts) i ≡ Some f → f ≤ place + length ts
  numbers_within place [] i f e = absurd cc
  numbers_within place (t ∷ ts) zero f e = let same : place ≡ f = cc in omega (arith, same)
  numbers_within place (t ∷ ts) (suc i) f e = omega (arith, numbers_within (suc place) ts i f e)

  alike_within : (known : List ℕ) (place : ℕ) (ts : List (Option ℕ)) (i f : ℕ) → place + length ts ≤ length targets → item_at (alike_from targets known place ts) i ≡ Some f → f ≤ length targets
  alike_within known place [] i f h e = absurd cc
  alike_within known place (t ∷ ts) zero f h e = let same : first_alike targets known place t ≡ f = cc in subst (λ n. n ≤ length targets) same (by_target t)
    where
      by_target : (t : Option ℕ) → first_alike targets known place t ≤ length targets
      by_target None = omega (arith, h)
      by_target (Some u) = where_within (points_alike known u) targets
  alike_within known place (t ∷ ts) (suc i) f h e = alike_within known (suc place) ts i f (omega (arith, h)) e

  pub after_within : (rounds : ℕ) → IsWithin (length targets) (firsts_after rounds targets)
  after_within zero = record { within = λ i f e. none (length targets) f (numbers_within 0 targets i f e) }
    where
      none : (n m : ℕ) → m ≤ 0 + n → m ≤ n
      none n m h = omega (arith, h)
  after_within (suc rounds) = record { within = λ i f e. alike_within (firsts_after rounds targets) 0 targets i f (none (length targets)) e }
    where
      none : (n : ℕ) → 0 + n ≤ n
      none n = omega arith

  -- a round that changes nothing: nor does any later one
  pub stays : (k more : ℕ) → firsts_after (suc k) targets ≡ firsts_after k targets → firsts_after (more + k) targets ≡ firsts_after k targets
  stays k zero h = ap (λ n. firsts_after n targets) (none k)
    where
      none : (n : ℕ) → 0 + n ≡ n
      none n = omega arith
  stays k (suc more) h =
      ap (λ n. firsts_after n targets) (moved more k) ∙ (ap (λ (known : List ℕ). alike_from targets known 0 targets) (stays k more h) ∙ h)
    where
      moved : (n m : ℕ) → suc n + m ≡ suc (n + m)
      moved n m = omega arith

  pub stays_at_end : (k : ℕ) (now next : List ℕ) → k < length targets → now ≡ firsts_after k targets → next ≡ alike_from targets now 0 targets → next ≡ now → now ≡ firsts targets
  stays_at_end k now next within is round same =
      let still : firsts_after (suc k) targets ≡ firsts_after k targets =
      ap (λ (known : List ℕ). alike_from targets known 0 targets) (sym is) ∙ (sym round ∙ (same ∙ is)) in
      is ∙ (sym (stays k (length targets - k) still) ∙ ap (λ n. firsts_after n targets) (back (length targets) k within))
    where
      back : (n m : ℕ) → m < n → (n - m) + m ≡ n
      back n m h = omega (arith, h)

  pub one_round_more : (k : ℕ) (now next : List ℕ) → now ≡ firsts_after k targets → next ≡ alike_from targets now 0 targets → next ≡ firsts_after (suc k) targets
  one_round_more k now next is round = round ∙ ap (λ (known : List ℕ). alike_from targets known 0 targets) is

  -- as many as there are types
  numbers_many : (place : ℕ) (ts : List (Option ℕ)) → length (numbers_from place ts) ≡ length ts
  numbers_many place [] = refl
  numbers_many place (t ∷ ts) = ap suc (numbers_many (suc place) ts)

  alike_many : (known : List ℕ) (place : ℕ) (ts : List (Option ℕ)) → length (alike_from targets known place ts) ≡ length ts
  alike_many known place [] = refl
  alike_many known place (t ∷ ts) = ap suc (alike_many known (suc place) ts)

  after_many : (rounds : ℕ) → length (firsts_after rounds targets) ≡ length targets
  after_many zero = numbers_many 0 targets
  after_many (suc rounds) = alike_many (firsts_after rounds targets) 0 targets

  pub many_firsts : length (firsts targets) ≡ length targets
  many_firsts = after_many (length targets)
