-- Types behind others that are told apart already: one round is enough, and those keep their numbers.
use Rattle.std.proofs.Common.{◌≡◌, ℕ, zero, suc, ◌+◌, ◌<◌, Bool, true, false, cond, List, [], ◌∷◌, ◌++◌, length, Option, Some, None, nat_eq, refl, sym, ap, ◌∙◌, subst, arith}
use Rattle.std.proofs.lemmas.Bool.{eqb-true, eq-eqb}
use Rattle.spv_program.specs.Lists.{item_at}
use Rattle.spv_typing.specs.Merging.{first_where, same_number, points_alike, first_alike, alike_from, numbers_from, firsts_after, firsts}
use Rattle.spv_declaration_typing.specs.canonical_types.Behind.{leads_to, known_or, placed, first_behind, firsts_behind}

-- ---- items and their places

item_within : {X : Type 0} (xs : List X) (i : ℕ) (x : X) → item_at xs i ≡ Some x → i < length xs
item_within [] i x e = absurd cc
item_within (y ∷ xs) zero x e = omega arith
item_within (y ∷ xs) (suc i) x e = let h : i < length xs = item_within xs i x e in omega (arith, h)

one_item : {X : Type 0} (o : Option X) (x y : X) → o ≡ Some x → o ≡ Some y → x ≡ y
one_item o x y e f = cc

item_front : {X : Type 0} (xs ys : List X) (i : ℕ) (x : X) → item_at xs i ≡ Some x → item_at (xs ++ ys) i ≡ Some x
item_front [] ys i x e = absurd cc
item_front (y ∷ xs) ys zero x e = e
item_front (y ∷ xs) ys (suc i) x e = item_front xs ys i x e

-- an item of two lists is one of the first or of the second
of_two : {X : Type 0} (xs ys : List X) (i : ℕ) (x : X) (P : Type 0) → item_at (xs ++ ys) i ≡ Some x → (item_at xs i ≡ Some x → P) → ((j : ℕ) → item_at ys j ≡ Some x → P) → P
of_two [] ys i x P e front back = back i e
of_two (y ∷ xs) ys zero x P e front back = front e
of_two (y ∷ xs) ys (suc i) x P e front back = of_two xs ys i x P e front back

-- ---- the first that passes a test

where_same : {X : Type 0} (f g : X → Bool) (xs : List X) → ((j : ℕ) (x : X) → item_at xs j ≡ Some x → f x ≡ g x) → first_where f xs ≡ first_where g xs
where_same f g [] h = refl
where_same f g (x ∷ xs) h =
    ap (λ b. cond b 0 (suc (first_where f xs))) (h 0 x refl) ∙ ap (λ n. cond (g x) 0 (suc n)) (where_same f g xs (λ j y e. h (suc j) y e))

where_is : {X : Type 0} (test : X → Bool) (xs ys : List X) (i : ℕ) (x : X) → item_at xs i ≡ Some x → test x ≡ true
    → ((j : ℕ) (y : X) → j < i → item_at xs j ≡ Some y → test y ≡ false) → first_where test (xs ++ ys) ≡ i
where_is test [] ys i x e h before = absurd cc
where_is test (y ∷ xs) ys zero x e h before =
    let same : y ≡ x = cc in
    ap (λ b. cond b 0 (suc (first_where test (xs ++ ys)))) (ap test same ∙ h)
where_is test (y ∷ xs) ys (suc i) x e h before =
    ap (λ b. cond b 0 (suc (first_where test (xs ++ ys)))) (before 0 y (positive i) refl)
    ∙ ap suc (where_is test xs ys i x e h (λ j z g f. before (suc j) z (further j i g) f))
  where
    positive : (n : ℕ) → 0 < suc n
    positive n = omega arith

    further : (n m : ℕ) → n < m → suc n < suc m
    further n m h = omega (arith, h)

where_past : {X : Type 0} (test : X → Bool) (xs ys : List X) → ((j : ℕ) (y : X) → item_at xs j ≡ Some y → test y ≡ false)
    → first_where test (xs ++ ys) ≡ length xs + first_where test ys
where_past test [] ys none = zero_more (first_where test ys)
  where
    zero_more : (n : ℕ) → n ≡ 0 + n
    zero_more n = omega arith
where_past test (x ∷ xs) ys none =
    ap (λ b. cond b 0 (suc (first_where test (xs ++ ys)))) (none 0 x refl)
    ∙ (ap suc (where_past test xs ys (λ j y e. none (suc j) y e)) ∙ moved (length xs) (first_where test ys))
  where
    moved : (n m : ℕ) → suc (n + m) ≡ suc n + m
    moved n m = omega arith

-- ---- values by places

placed_same : (f g : ℕ → Option ℕ → ℕ) (place : ℕ) (xs : List (Option ℕ)) → ((j : ℕ) (x : Option ℕ) → item_at xs j ≡ Some x → f (place + j) x ≡ g (place + j) x)
    → placed f place xs ≡ placed g place xs
placed_same f g place [] h = refl
placed_same f g place (x ∷ xs) h =
    ap (λ n. n ∷ placed f (suc place) xs) (ap (λ n. f n x) (none_more place) ∙ (h 0 x refl ∙ ap (λ n. g n x) (sym (none_more place))))
    ∙ ap (λ (l : List ℕ). g place x ∷ l) (placed_same f g (suc place) xs (λ j y e. ap (λ n. f n y) (moved place j) ∙ (h (suc j) y e ∙ ap (λ n. g n y) (sym (moved place j)))))
  where
    none_more : (n : ℕ) → n ≡ n + 0
    none_more n = omega arith

    moved : (n m : ℕ) → suc n + m ≡ n + suc m
    moved n m = omega arith

alike_placed : (targets : List (Option ℕ)) (known : List ℕ) (place : ℕ) (xs : List (Option ℕ)) → alike_from targets known place xs ≡ placed (first_alike targets known) place xs
alike_placed targets known place [] = refl
alike_placed targets known place (x ∷ xs) = ap (λ (l : List ℕ). first_alike targets known place x ∷ l) (alike_placed targets known (suc place) xs)

numbers_placed : (place : ℕ) (xs : List (Option ℕ)) → numbers_from place xs ≡ placed (λ n x. n) place xs
numbers_placed place [] = refl
numbers_placed place (x ∷ xs) = ap (λ (l : List ℕ). place ∷ l) (numbers_placed (suc place) xs)

placed_append : (f : ℕ → Option ℕ → ℕ) (place : ℕ) (xs ys : List (Option ℕ)) → placed f place (xs ++ ys) ≡ placed f place xs ++ placed f (length xs + place) ys
placed_append f place [] ys = ap (λ n. placed f n ys) (zero_more place)
  where
    zero_more : (n : ℕ) → n ≡ 0 + n
    zero_more n = omega arith
placed_append f place (x ∷ xs) ys =
    ap (λ (l : List ℕ). f place x ∷ l) (placed_append f (suc place) xs ys ∙ ap (λ n. placed f (suc place) xs ++ placed f n ys) (moved (length xs) place))
  where
    moved : (n m : ℕ) → n + suc m ≡ suc n + m
    moved n m = omega arith

-- ---- the types so far are told apart, and the targets of those behind are among them

pub record IsApart (so_far behind pointers : List (Option ℕ)) : Type 0 where
  pub many : length pointers ≡ length so_far
  pub listed : (i t : ℕ) → item_at so_far i ≡ Some (Some t) → item_at pointers t ≡ Some (Some i)
  pub known : (t p : ℕ) → item_at pointers t ≡ Some (Some p) → item_at so_far p ≡ Some (Some t)
  pub low : (j t : ℕ) → item_at behind j ≡ Some (Some t) → t < length so_far

module _ (so_far behind pointers : List (Option ℕ)) (apart : IsApart so_far behind pointers) where
  abbrev all : List (Option ℕ)
  all = so_far ++ behind

  target_low : (i t : ℕ) → item_at all i ≡ Some (Some t) → t < length so_far
  target_low i t e =
      of_two so_far behind i (Some t) (t < length so_far) e (λ f. subst (λ n. t < n) apart.many (item_within pointers t (Some i) (apart.listed i t f))) (λ j f. apart.low j t f)

  -- whether each type below is the first of its kind
  record Agrees (firsts : List ℕ) : Type 0 where
    agree : (t : ℕ) → t < length so_far → item_at firsts t ≡ Some t

  module _ (firsts : List ℕ) (so : Agrees firsts) where
    same_test : (t : ℕ) → t < length so_far → (i : ℕ) (x : Option ℕ) → item_at all i ≡ Some x → points_alike firsts t x ≡ leads_to t x
    same_test t h i None e = refl
    same_test t h i (Some u) e = ap (λ o. same_number o (item_at firsts u)) (so.agree t h) ∙ ap (same_number (Some t)) (so.agree u (target_low i u e))

    same_first : (t : ℕ) → t < length so_far → first_where (points_alike firsts t) all ≡ first_where (leads_to t) all
    same_first t h = where_same (points_alike firsts t) (leads_to t) all (same_test t h)

  -- a pointer type is the only one to its target
  only_one : (i t : ℕ) → item_at so_far i ≡ Some (Some t) → first_where (leads_to t) all ≡ i
  only_one i t e = where_is (leads_to t) so_far behind i (Some t) e (eq-eqb t t refl) before
    where
      some_same : (m n : ℕ) → Some (Some m) ≡ Some (Some n) → m ≡ n
      some_same m n e = cc

      before : (j : ℕ) (y : Option ℕ) → j < i → item_at so_far j ≡ Some y → leads_to t y ≡ false
      before j None h f = refl
      before j (Some u) h f = by_case (nat_eq t u) refl
        where
          by_case : (b : Bool) → nat_eq t u ≡ b → b ≡ false
          by_case false g = refl
          by_case true g =
              let same : t ≡ u = eqb-true t u g in
              let here : item_at pointers t ≡ Some (Some j) = ap (item_at pointers) same ∙ apart.listed j u f in
              let place : j ≡ i = some_same j i (sym here ∙ apart.listed i t e) in
              absurd (omega (arith, h, place))

  none_leads : (t : ℕ) → ((p : ℕ) → item_at pointers t ≡ Some (Some p) → ⊥) → (j : ℕ) (y : Option ℕ) → item_at so_far j ≡ Some y → leads_to t y ≡ false
  none_leads t none j None e = refl
  none_leads t none j (Some u) e = by_case (nat_eq t u) refl
    where
      by_case : (b : Bool) → nat_eq t u ≡ b → b ≡ false
      by_case false g = refl
      by_case true g = absurd (none j (ap (item_at pointers) (eqb-true t u g) ∙ apart.listed j u e))

  first_known : (t : ℕ) (o : Option (Option ℕ)) → item_at pointers t ≡ o → first_where (leads_to t) all ≡ known_or (length so_far + first_where (leads_to t) behind) o
  first_known t (Some (Some p)) e = only_one p t (apart.known t p e)
  first_known t (Some None) e = where_past (leads_to t) so_far behind (none_leads t (λ p f. not_both (item_at pointers t) p e f))
    where
      not_both : (o : Option (Option ℕ)) (p : ℕ) → o ≡ Some None → o ≡ Some (Some p) → ⊥
      not_both o p e f = cc
  first_known t None e = where_past (leads_to t) so_far behind (none_leads t (λ p f. not_both (item_at pointers t) p e f))
    where
      not_both : (o : Option (Option ℕ)) (p : ℕ) → o ≡ None → o ≡ Some (Some p) → ⊥
      not_both o p e f = cc

  abbrev pub result : List ℕ
  result = numbers_from 0 so_far ++ firsts_behind pointers (length so_far) behind

  one_round : (firsts : List ℕ) → Agrees firsts → alike_from all firsts 0 all ≡ result
  one_round firsts so =
      alike_placed all firsts 0 all
      ∙ (placed_append (first_alike all firsts) 0 so_far behind
      ∙ (ap (λ (l : List ℕ). l ++ placed (first_alike all firsts) (length so_far + 0) behind)
      (placed_same (first_alike all firsts) (λ n x. n) 0 so_far (λ j x e. old_first j x e) ∙ sym (numbers_placed 0 so_far))
      ∙ (ap (λ n. numbers_from 0 so_far ++ placed (first_alike all firsts) n behind) (none_more (length so_far))
      ∙ ap (λ (l : List ℕ). numbers_from 0 so_far ++ l)
      (placed_same (first_alike all firsts) (first_behind pointers (length so_far) behind) (length so_far) behind (λ j x e. new_first j x e)))))
    where
      none_more : (n : ℕ) → n + 0 ≡ n
      none_more n = omega arith

      zero_more : (n : ℕ) → n ≡ 0 + n
      zero_more n = omega arith

      old_first : (j : ℕ) (x : Option ℕ) → item_at so_far j ≡ Some x → first_alike all firsts (0 + j) x ≡ 0 + j
      old_first j None e = refl
      old_first j (Some t) e =
          same_first firsts so t (target_low j t (item_front so_far behind j (Some t) e)) ∙ (only_one j t e ∙ zero_more j)

      new_first : (j : ℕ) (x : Option ℕ) → item_at behind j ≡ Some x → first_alike all firsts (length so_far + j) x ≡ first_behind pointers (length so_far) behind (length so_far + j) x
      new_first j None e = refl
      new_first j (Some t) e = same_first firsts so t (apart.low j t e) ∙ first_known t (item_at pointers t) refl

  numbers_at : (place : ℕ) (ts : List (Option ℕ)) (i : ℕ) → i < length ts → item_at (numbers_from place ts) i ≡ Some (place + i)
  numbers_at place [] i h = absurd (omega (arith, h))
  numbers_at place (t ∷ ts) zero h = ap Some (zero_more place)
    where
      zero_more : (n : ℕ) → n ≡ n + 0
      zero_more n = omega arith
  numbers_at place (t ∷ ts) (suc i) h = numbers_at (suc place) ts i (omega (arith, h)) ∙ ap Some (moved place i)
    where
      moved : (n m : ℕ) → suc n + m ≡ n + suc m
      moved n m = omega arith

  front_agrees : (others : List ℕ) → Agrees (numbers_from 0 so_far ++ others)
  front_agrees others = record { agree = λ t h. item_front (numbers_from 0 so_far) others t t (numbers_at 0 so_far t h ∙ ap Some (none t)) }
    where
      none : (n : ℕ) → 0 + n ≡ n
      none n = omega arith

  start_agrees : Agrees (numbers_from 0 all)
  start_agrees = subst Agrees (sym (numbers_placed 0 all ∙ (placed_append (λ n x. n) 0 so_far behind ∙ ap (λ (l : List ℕ). l ++ placed (λ n x. n) (length so_far + 0) behind) (sym (numbers_placed 0 so_far)))))
      (front_agrees (placed (λ n x. n) (length so_far + 0) behind))

  after_one : firsts_after 1 all ≡ result
  after_one = one_round (numbers_from 0 all) start_agrees

  later : (k : ℕ) → firsts_after (suc k) all ≡ result
  later zero = after_one
  later (suc k) = ap (λ (known : List ℕ). alike_from all known 0 all) (later k) ∙ one_round result (front_agrees (firsts_behind pointers (length so_far) behind))

  pub firsts_are : firsts all ≡ result
  firsts_are = by_length so_far behind (length all) refl
    where
      none_there : (xs ys : List (Option ℕ)) → length (xs ++ ys) ≡ 0 → firsts_after 0 (xs ++ ys) ≡ numbers_from 0 xs ++ firsts_behind pointers (length xs) ys
      none_there [] [] e = refl
      none_there [] (y ∷ ys) e = absurd (omega (arith, e))
      none_there (x ∷ xs) ys e = absurd (omega (arith, e))

      by_length : (xs ys : List (Option ℕ)) (n : ℕ) → length all ≡ n → firsts all ≡ result
      by_length xs ys zero e = ap (λ n. firsts_after n all) e ∙ none_there so_far behind e
      by_length xs ys (suc n) e = ap (λ n. firsts_after n all) e ∙ later n
