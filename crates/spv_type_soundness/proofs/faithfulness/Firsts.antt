-- Which types the merging of pointer types puts together: each type stands for the first of its kind, the kinds are those of the
-- targets, and as many rounds as there are types are enough.
use Rattle.std.proofs.Common.{◌≡◌, ◌≢◌, ℕ, zero, suc, ◌+◌, ◌≤◌, Bool, true, false, cond, nat_eq, List, [], ◌∷◌, length, Option, Some, None, refl, sym, ap, ◌∙◌, subst, arith}
use Rattle.std.proofs.lemmas.Bool.{false≢true, eqb-true, eq-eqb, eqb-false}
use Rattle.spv_program.specs.Lists.{item_at}
use Rattle.spv_program.proofs.SortFacts.{nothing_there, some_is}
use Rattle.spv_typing.specs.Merging.{first_where, same_number, points_alike, first_alike, alike_from, numbers_from, firsts_after, number_or}

-- what stands at a place of a list
pub record There {X : Type 0} (xs : List X) (i : ℕ) : Type 0 where
  pub item : X
  pub is : item_at xs i ≡ Some item

-- ---- the first place that passes a test

pub record FoundAt {X : Type 0} (p : X → Bool) (xs : List X) (at i : ℕ) : Type 0 where
  pub item : X
  pub is : item_at xs at ≡ Some item
  pub holds : p item ≡ true
  pub below : at ≤ i

first_found : {X : Type 0} (p : X → Bool) (xs : List X) (i : ℕ) (x : X) → item_at xs i ≡ Some x → p x ≡ true
    → FoundAt p xs (first_where p xs) i
first_found p [] i x e h = absurd (nothing_there e)
first_found {X} p (y ∷ ys) i x e h = by_case (p y) refl i e (λ j f. first_found p ys j x f h)
  where
    by_case : (b : Bool) → p y ≡ b → (i : ℕ) → item_at (y ∷ ys) i ≡ Some x
        → ((j : ℕ) → item_at ys j ≡ Some x → FoundAt p ys (first_where p ys) j) → FoundAt p (y ∷ ys) (cond b 0 (suc (first_where p ys))) i
    by_case true k i e go = record { item = y; is = refl; holds = k; below = omega arith }
    by_case false k zero e go = absurd (false≢true (sym k ∙ (ap p (some_is e) ∙ h)))
    by_case false k (suc j) e go =
        let rest = go j e in
        let b : first_where p ys ≤ j = rest.below in
        record { item = rest.item; is = rest.is; holds = rest.holds; below = omega arith }

pub first_same : {X : Type 0} (p q : X → Bool) (xs : List X) → ((x : X) → p x ≡ q x) → first_where p xs ≡ first_where q xs
first_same p q [] h = refl
first_same p q (x ∷ xs) h = ap (λ b. cond b 0 (suc (first_where p xs))) (h x) ∙ ap (λ n. cond (q x) 0 (suc n)) (first_same p q xs h)

same_number-true : (a b : Option ℕ) → same_number a b ≡ true → a ≡ b
same_number-true None b h = absurd (false≢true h)
same_number-true (Some n) None h = absurd (false≢true h)
same_number-true (Some n) (Some m) h = ap Some (eqb-true n m h)

pub points_same : (firsts : List ℕ) (t u : ℕ) → item_at firsts t ≡ item_at firsts u → (o : Option ℕ)
    → points_alike firsts t o ≡ points_alike firsts u o
points_same firsts t u e None = refl
points_same firsts t u e (Some w) = ap (λ a. same_number a (item_at firsts w)) e

-- ---- items of the lists of firsts

numbers_item : (place : ℕ) (xs : List (Option ℕ)) (j : ℕ) (o : Option ℕ) → item_at xs j ≡ Some o
    → item_at (numbers_from place xs) j ≡ Some (place + j)
numbers_item place [] j o e = absurd (nothing_there e)
numbers_item place (x ∷ xs) zero o e = let k : place ≡ place + 0 = omega arith in ap Some k
numbers_item place (x ∷ xs) (suc j) o e = let k : suc place + j ≡ place + suc j = omega arith in numbers_item (suc place) xs j o e ∙ ap
    Some k

alike_item : (targets : List (Option ℕ)) (firsts : List ℕ) (place : ℕ) (xs : List (Option ℕ)) (j : ℕ) (o : Option ℕ)
    → item_at xs j ≡ Some o → item_at (alike_from targets firsts place xs) j ≡ Some (first_alike targets firsts (place + j) o)
alike_item targets firsts place [] j o e = absurd (nothing_there e)
alike_item targets firsts place (x ∷ xs) zero o e =
    let k : place ≡ place + 0 = omega arith in
    ap (λ y. Some (first_alike targets firsts place y)) (some_is e) ∙ ap (λ p. Some (first_alike targets firsts p o)) k
alike_item targets firsts place (x ∷ xs) (suc j) o e =
    let k : suc place + j ≡ place + suc j = omega arith in
    alike_item targets firsts (suc place) xs j o e ∙ ap (λ p. Some (first_alike targets firsts p o)) k

numbers_length : (place : ℕ) (xs : List (Option ℕ)) → length (numbers_from place xs) ≡ length xs
numbers_length place [] = refl
numbers_length place (x ∷ xs) = ap suc (numbers_length (suc place) xs)

alike_length : (targets : List (Option ℕ)) (firsts : List ℕ) (place : ℕ) (xs : List (Option ℕ))
    → length (alike_from targets firsts place xs) ≡ length xs
alike_length targets firsts place [] = refl
alike_length targets firsts place (x ∷ xs) = ap suc (alike_length targets firsts (suc place) xs)

-- ---- lists of numbers by their items

lists_same : (xs ys : List ℕ) → length xs ≡ length ys → ((i a b : ℕ) → item_at xs i ≡ Some a → item_at ys i ≡ Some b → a ≡ b) → xs ≡ ys
lists_same [] [] h e = refl
lists_same [] (b ∷ ys) h e = absurd (cc (h))
lists_same (a ∷ xs) [] h e = absurd (cc (h))
lists_same (a ∷ xs) (b ∷ ys) h e =
    let fewer : length xs ≡ length ys = cc (h) in
    ap (λ x. x ∷ xs) (e 0 a b refl refl) ∙ ap (λ xs. b ∷ xs) (lists_same xs ys fewer (λ i x y k l. e (suc i) x y k l))

-- how many items are their own places
abbrev reps : ℕ → List ℕ → ℕ
reps p [] = 0
reps p (f ∷ fs) = cond (nat_eq f p) (suc (reps (suc p) fs)) (reps (suc p) fs)

data Sub : ℕ → List ℕ → List ℕ → Type 0 where
  no_items : (p : ℕ) → Sub p [] []
  one_item : (p a b : ℕ) (xs ys : List ℕ) → (nat_eq a p ≡ true → nat_eq b p ≡ true) → Sub (suc p) xs ys → Sub p (a ∷ xs) (b ∷ ys)

reps_length : (p : ℕ) (fs : List ℕ) → reps p fs ≤ length fs
reps_length p [] = omega arith
reps_length p (f ∷ fs) = by_case (nat_eq f p) (reps_length (suc p) fs)
  where
    by_case : (b : Bool) → reps (suc p) fs ≤ length fs → cond b (suc (reps (suc p) fs)) (reps (suc p) fs) ≤ suc (length fs)
    by_case true h = omega arith
    by_case false h = omega arith

reps_fewer : (p : ℕ) (xs ys : List ℕ) → Sub p xs ys → reps p xs ≤ reps p ys
reps_fewer p [] [] (no_items q) = omega arith
reps_fewer p [] (b ∷ ys) h = elim h [ ]
reps_fewer p (a ∷ xs) [] h = elim h [ ]
reps_fewer p (a ∷ xs) (b ∷ ys) (one_item q x y us vs h rest) = by_case (nat_eq a p) (nat_eq b p) h (reps_fewer (suc p) xs ys rest)
  where
    by_case : (c d : Bool) → (c ≡ true → d ≡ true) → reps (suc p) xs ≤ reps (suc p) ys
        → cond c (suc (reps (suc p) xs)) (reps (suc p) xs) ≤ cond d (suc (reps (suc p) ys)) (reps (suc p) ys)
    by_case true true h k = omega arith
    by_case true false h k = absurd (false≢true (h refl))
    by_case false true h k = omega arith
    by_case false false h k = k

-- where they are as many they are the same
reps_same : (p : ℕ) (xs ys : List ℕ) → Sub p xs ys → reps p xs ≡ reps p ys → Sub p ys xs
reps_same p [] [] (no_items q) e = no_items p
reps_same p [] (b ∷ ys) h e = elim h [ ]
reps_same p (a ∷ xs) [] h e = elim h [ ]
reps_same p (a ∷ xs) (b ∷ ys) (one_item q x y us vs h rest) e =
    by_case (nat_eq a p) (nat_eq b p) refl refl e (reps_fewer (suc p) xs ys rest) (λ k. reps_same (suc p) xs ys rest k)
  where
    by_case : (c d : Bool) → nat_eq a p ≡ c → nat_eq b p ≡ d
        → cond c (suc (reps (suc p) xs)) (reps (suc p) xs) ≡ cond d (suc (reps (suc p) ys)) (reps (suc p) ys)
        → reps (suc p) xs ≤ reps (suc p) ys
        → (reps (suc p) xs ≡ reps (suc p) ys → Sub (suc p) ys xs) → Sub p (b ∷ ys) (a ∷ xs)
    by_case true true k l g f go = let m : reps (suc p) xs ≡ reps (suc p) ys = omega arith in one_item p b a ys xs (λ n. k) (go m)
    by_case true false k l g f go = absurd (false≢true (sym l ∙ h k))
    by_case false true k l g f go = let m : reps (suc p) xs ≡ suc (reps (suc p) ys) = g in absurd (omega arith)
    by_case false false k l g f go = one_item p b a ys xs (λ n. absurd (false≢true (sym l ∙ n))) (go g)

sub_of : (p : ℕ) (xs ys : List ℕ) → length xs ≡ length ys → ((i : ℕ) → item_at xs i ≡ Some (p + i) → item_at ys i ≡ Some (p + i))
    → Sub p xs ys
sub_of p [] [] h f = no_items p
sub_of p [] (b ∷ ys) h f = absurd (cc (h))
sub_of p (a ∷ xs) [] h f = absurd (cc (h))
sub_of p (a ∷ xs) (b ∷ ys) h f =
    let fewer : length xs ≡ length ys = cc (h) in
    let zero_more : p ≡ p + 0 = omega arith in
    one_item p a b xs ys
    (λ e. eq-eqb b p (some_is (f 0 (ap Some (eqb-true a p e ∙ zero_more))) ∙ sym zero_more))
    (sub_of (suc p) xs ys fewer (λ i e. let k : suc p + i ≡ p + suc i = omega arith in f (suc i) (e ∙ ap Some k) ∙ ap Some (sym k)))

sub_at : (p : ℕ) (xs ys : List ℕ) → Sub p xs ys → (i : ℕ) → item_at xs i ≡ Some (p + i) → item_at ys i ≡ Some (p + i)
sub_at p [] [] (no_items q) i e = absurd (nothing_there e)
sub_at p [] (b ∷ ys) h i e = elim h [ ]
sub_at p (a ∷ xs) [] h i e = elim h [ ]
sub_at p (a ∷ xs) (b ∷ ys) (one_item q x y us vs h rest) zero e =
    let k : p ≡ p + 0 = omega arith in
    ap Some (eqb-true b p (h (eq-eqb a p (some_is e ∙ sym k))) ∙ k)
sub_at p (a ∷ xs) (b ∷ ys) (one_item q x y us vs h rest) (suc i) e =
    let k : suc p + i ≡ p + suc i = omega arith in
    sub_at (suc p) xs ys rest i (e ∙ ap Some (sym k)) ∙ ap Some k

-- so many rounds further
abbrev shift : ℕ → ℕ → ℕ
shift zero k = k
shift (suc m) k = shift m (suc k)

shift-plus : (m k : ℕ) → shift m k ≡ m + k
shift-plus zero k = omega arith
shift-plus (suc m) k = let e : m + suc k ≡ suc m + k = omega arith in shift-plus m (suc k) ∙ e

smaller : (a b m : ℕ) → a ≤ b → b ≤ suc m → (a ≡ b → ⊥) → a ≤ m
smaller a b m l h differ = by_case (nat_eq a (suc m)) refl
  where
    by_case : (c : Bool) → nat_eq a (suc m) ≡ c → a ≤ m
    by_case true e = let k : a ≡ suc m = eqb-true a (suc m) e in let f : a ≡ b = omega arith in absurd (differ f)
    by_case false e = let k : a ≢ suc m = eqb-false a (suc m) e in omega arith

module _ (T : List (Option ℕ)) (inside : (i t : ℕ) → item_at T i ≡ Some (Some t) → There T t) where
  abbrev F : ℕ → List ℕ
  F k = firsts_after k T

  -- the type that a type stands for after some rounds
  abbrev pub stands_for : ℕ → ℕ → ℕ
  stands_for k i = number_or i (item_at (F k) i)

  pub stands_is : (k i r : ℕ) → item_at (F k) i ≡ Some r → stands_for k i ≡ r
  stands_is k i r e = ap (number_or i) e

  pub stands_there : (k i : ℕ) → There T i → item_at (F k) i ≡ Some (stands_for k i)
  stands_there zero i h =
      let e = numbers_item 0 T i h.item h.is in e ∙ ap Some (sym (stands_is 0 i (0 + i) e))
  stands_there (suc k) i h =
      let e = alike_item T (F k) 0 T i h.item h.is in e ∙ ap Some (sym (stands_is (suc k) i (first_alike T (F k) (0 + i) h.item) e))

  pub stands_first : (i : ℕ) → There T i → stands_for 0 i ≡ i
  stands_first i h = let k : 0 + i ≡ i = omega arith in stands_is 0 i (0 + i) (numbers_item 0 T i h.item h.is) ∙ k

  pub stands_plain : (k i : ℕ) → item_at T i ≡ Some None → stands_for (suc k) i ≡ i
  stands_plain k i e = let l : 0 + i ≡ i = omega arith in stands_is (suc k) i (0 + i) (alike_item T (F k) 0 T i None e) ∙ l

  pub stands_pointer : (k i t : ℕ) → item_at T i ≡ Some (Some t) → stands_for (suc k) i ≡ first_where (points_alike (F k) t) T
  stands_pointer k i t e = stands_is (suc k) i (first_where (points_alike (F k) t) T) (alike_item T (F k) 0 T i (Some t) e)

  pub same_items : (k t u : ℕ) → There T t → There T u → stands_for k t ≡ stands_for k u → item_at (F k) t ≡ item_at (F k) u
  same_items k t u g h e = stands_there k t g ∙ (ap Some e ∙ sym (stands_there k u h))

  pub items_same : (k t u : ℕ) → There T t → There T u → item_at (F k) t ≡ item_at (F k) u → stands_for k t ≡ stands_for k u
  items_same k t u g h e = some_is (sym (stands_there k t g) ∙ (e ∙ stands_there k u h))

  -- what a pointer type stands for is a pointer type with a target of the same kind
  pub record PointerStands (k i t : ℕ) : Type 0 where
    pub target : ℕ
    pub is : item_at T (stands_for (suc k) i) ≡ Some (Some target)
    pub same : item_at (F k) t ≡ item_at (F k) target
    pub below : stands_for (suc k) i ≤ i
    pub again : stands_for (suc k) (stands_for (suc k) i) ≡ stands_for (suc k) i

  found_pointer : (k i t r : ℕ) → stands_for (suc k) i ≡ r → r ≡ first_where (points_alike (F k) t) T
      → FoundAt (points_alike (F k) t) T r i → PointerStands k i t
  found_pointer k i t r e w f = by_item f.item f.is f.holds
    where
      by_item : (o : Option ℕ) → item_at T r ≡ Some o → points_alike (F k) t o ≡ true → PointerStands k i t
      by_item None is h = absurd (false≢true h)
      by_item (Some u) is h =
          let same = same_number-true (item_at (F k) t) (item_at (F k) u) h in
          let b : r ≤ i = f.below in
          record {
            target = u;
            is = ap (item_at T) e ∙ is;
            same = same;
            below = subst (λ q. q ≤ i) (sym e) b;
            again = ap (stands_for (suc k)) e ∙ (stands_pointer k r u is ∙ (first_same (points_alike (F k) u) (points_alike (F k) t) T
                (points_same (F k) u t (sym same)) ∙ (sym w ∙ sym e)));
          }

  pub pointer_stands : (k i t : ℕ) → item_at T i ≡ Some (Some t) → PointerStands k i t
  pointer_stands k i t e =
      let g = inside i t e in
      let own : points_alike (F k) t (Some t) ≡ true = subst (λ a. same_number a a ≡ true) (sym (stands_there k t g))
      (eq-eqb (stands_for k t) (stands_for k t) refl) in
      let w = stands_pointer k i t e in
      found_pointer k i t (first_where (points_alike (F k) t) T) w refl (first_found (points_alike (F k) t) T i (Some t) e own)

  pub record Stands (k i : ℕ) : Type 0 where
    pub there : There T (stands_for k i)
    pub below : stands_for k i ≤ i
    pub again : stands_for k (stands_for k i) ≡ stands_for k i

  itself : (k i : ℕ) → There T i → stands_for k i ≡ i → Stands k i
  itself k i h e = record {
    there = subst (There T) (sym e) h;
    below = let l : i ≤ i = omega arith in subst (λ q. q ≤ i) (sym e) l;
    again = ap (stands_for k) e;
  }

  pub stands : (k i : ℕ) → There T i → Stands k i
  stands zero i h = itself 0 i h (stands_first i h)
  stands (suc k) i h = by_item h.item h.is
    where
      by_item : (o : Option ℕ) → item_at T i ≡ Some o → Stands (suc k) i
      by_item None e = itself (suc k) i h (stands_plain k i e)
      by_item (Some t) e = let p = pointer_stands k i t e in record
          { there = record { item = Some p.target; is = p.is }; below = p.below; again = p.again }

  no_pointer : (i t : ℕ) → item_at T i ≡ Some None → item_at T i ≡ Some (Some t) → ⊥
  no_pointer i t e f = nothing_there (some_is (sym e ∙ f))

  -- what stands for one type does so in later rounds
  pub later_same : (k i j : ℕ) → There T i → There T j → stands_for k i ≡ stands_for k j → stands_for (suc k) i ≡ stands_for (suc k) j
  later_same zero i j g h e = ap (stands_for 1) (sym (stands_first i g) ∙ (e ∙ stands_first j h))
  later_same (suc k) i j g h e = by_items g.item h.item g.is h.is (λ t u a b c. later_same k t u a b c)
    where
      by_items : (o p : Option ℕ) → item_at T i ≡ Some o → item_at T j ≡ Some p
          → ((t u : ℕ) → There T t → There T u → stands_for k t ≡ stands_for k u → stands_for (suc k) t ≡ stands_for (suc k) u)
          → stands_for (suc (suc k)) i ≡ stands_for (suc (suc k)) j
      by_items None None x y go = ap (stands_for (suc (suc k))) (sym (stands_plain k i x) ∙ (e ∙ stands_plain k j y))
      by_items None (Some u) x y go =
          let q = pointer_stands k j u y in
          absurd (no_pointer i q.target x (ap (item_at T) (sym (stands_plain k i x) ∙ e) ∙ q.is))
      by_items (Some t) None x y go =
          let q = pointer_stands k i t x in
          absurd (no_pointer j q.target y (ap (item_at T) (sym (stands_plain k j y) ∙ sym e) ∙ q.is))
      by_items (Some t) (Some u) x y go =
          let p = pointer_stands k i t x in
          let q = pointer_stands k j u y in
          let one : p.target ≡ q.target = some_is (some_is (sym p.is ∙ (ap (item_at T) e ∙ q.is))) in
          let same : item_at (F k) t ≡ item_at (F k) u = p.same ∙ (ap (item_at (F k)) one ∙ sym q.same) in
          let a = inside i t x in
          let b = inside j u y in
          let next = same_items (suc k) t u a b (go t u a b (items_same k t u a b same)) in
          stands_pointer (suc k) i t x ∙ (first_same (points_alike (F (suc k)) t) (points_alike (F (suc k)) u) T
          (points_same (F (suc k)) t u next) ∙ sym (stands_pointer (suc k) j u y))

  -- ---- enough rounds

  firsts_length : (k : ℕ) → length (F k) ≡ length T
  firsts_length zero = numbers_length 0 T
  firsts_length (suc k) = alike_length T (F k) 0 T

  there_by_length : {A B : Type 0} (xs : List A) (ys : List B) (i : ℕ) (x : A) → length xs ≡ length ys → item_at xs i ≡ Some x → There ys i
  there_by_length [] ys i x h e = absurd (nothing_there e)
  there_by_length (a ∷ xs) [] i x h e = absurd (cc (h))
  there_by_length (a ∷ xs) (b ∷ ys) zero x h e = record { item = b; is = refl }
  there_by_length (a ∷ xs) (b ∷ ys) (suc i) x h e =
      let fewer : length xs ≡ length ys = cc (h) in
      let rest = there_by_length xs ys i x fewer e in record { item = rest.item; is = rest.is }

  -- what stands for itself did so before
  before_itself : (k i : ℕ) → item_at (F (suc k)) i ≡ Some (0 + i) → item_at (F k) i ≡ Some (0 + i)
  before_itself k i e =
      let z : 0 + i ≡ i = omega arith in
      let h : There T i = there_by_length (F (suc k)) T i (0 + i) (firsts_length (suc k)) e in
      let s = stands k i h in
      let own : stands_for (suc k) i ≡ i = stands_is (suc k) i (0 + i) e ∙ z in
      let same : stands_for (suc k) (stands_for k i) ≡ stands_for (suc k) i = later_same k (stands_for k i) i s.there h s.again in
      let low : stands_for (suc k) (stands_for k i) ≤ stands_for k i = (stands (suc k) (stands_for k i) s.there).below in
      let down : stands_for k i ≤ i = s.below in
      let lower : i ≤ stands_for k i = subst (λ q. q ≤ stands_for k i) (same ∙ own) low in
      let is : stands_for k i ≡ i = omega arith in
      stands_there k i h ∙ ap Some (is ∙ sym z)

  fewer_later : (k : ℕ) → Sub 0 (F (suc k)) (F k)
  fewer_later k = sub_of 0 (F (suc k)) (F k) (firsts_length (suc k) ∙ sym (firsts_length k)) (before_itself k)

  stable_if : (k : ℕ) → Sub 0 (F k) (F (suc k)) → F (suc k) ≡ F k
  stable_if k h = lists_same (F (suc k)) (F k) (firsts_length (suc k) ∙ sym (firsts_length k)) same
    where
      same : (i a b : ℕ) → item_at (F (suc k)) i ≡ Some a → item_at (F k) i ≡ Some b → a ≡ b
      same i a b e f =
          let g : There T i = there_by_length (F k) T i b (firsts_length k) f in
          let s = stands k i g in
          let j = stands_for k i in
          let z : 0 + j ≡ j = omega arith in
          let kept = sub_at 0 (F k) (F (suc k)) h j (stands_there k j s.there ∙ ap Some (s.again ∙ sym z)) in
          let own : stands_for (suc k) j ≡ j = stands_is (suc k) j (0 + j) kept ∙ z in
          let later : stands_for (suc k) j ≡ stands_for (suc k) i = later_same k j i s.there g s.again in
          sym (stands_is (suc k) i a e) ∙ (sym later ∙ (own ∙ stands_is k i b f))

  persists : (m k : ℕ) → F (suc k) ≡ F k → F (suc (shift m k)) ≡ F (shift m k)
  persists zero k e = e
  persists (suc m) k e = persists m (suc k) (ap (λ f. alike_from T f 0 T) e)

  fewer_now : (k : ℕ) → reps 0 (F (suc k)) ≤ reps 0 (F k)
  fewer_now k = reps_fewer 0 (F (suc k)) (F k) (fewer_later k)

  stable_same : (k : ℕ) → reps 0 (F (suc k)) ≡ reps 0 (F k) → F (suc k) ≡ F k
  stable_same k e = stable_if k (reps_same 0 (F (suc k)) (F k) (fewer_later k) e)

  settles : (m k : ℕ) → reps 0 (F k) ≤ m → F (suc (shift m k)) ≡ F (shift m k)
  settles zero k h =
      let l : reps 0 (F (suc k)) ≤ reps 0 (F k) = fewer_now k in
      let e : reps 0 (F (suc k)) ≡ reps 0 (F k) = omega arith in
      stable_same k e
  settles (suc m) k h = by_case (nat_eq (reps 0 (F (suc k))) (reps 0 (F k))) refl (λ l. settles m (suc k) l)
    where
      by_case : (b : Bool) → nat_eq (reps 0 (F (suc k))) (reps 0 (F k)) ≡ b
          → (reps 0 (F (suc k)) ≤ m → F (suc (shift m (suc k))) ≡ F (shift m (suc k))) → F (suc (shift (suc m) k)) ≡ F (shift (suc m) k)
      by_case true e go = persists (suc m) k (stable_same k (eqb-true (reps 0 (F (suc k))) (reps 0 (F k)) e))
      by_case false e go =
          let l : reps 0 (F (suc k)) ≤ reps 0 (F k) = fewer_now k in
          let differ = eqb-false (reps 0 (F (suc k))) (reps 0 (F k)) e in
          let below : reps 0 (F (suc k)) ≤ m = smaller (reps 0 (F (suc k))) (reps 0 (F k)) m l h differ in
          go below

  pub firsts_settle : F (suc (length T)) ≡ F (length T)
  firsts_settle =
      let n = length T in
      let at : shift n 0 ≡ n = let z : n + 0 ≡ n = omega arith in shift-plus n 0 ∙ z in
      let few : reps 0 (F 0) ≤ n = subst (λ q. reps 0 (F 0) ≤ q) (firsts_length 0) (reps_length 0 (F 0)) in
      subst (λ q. F (suc q) ≡ F q) at (settles n 0 few)
