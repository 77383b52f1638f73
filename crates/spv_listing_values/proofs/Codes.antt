-- Terms and the numbers by which they are found.
use Rattle.std.proofs.Common.{◌≡◌, ◌≢◌, ℕ, suc, ◌+◌, ◌-◌, ◌<◌, ◌≤◌, Bool, true, false, ◌||◌, cond, not, if◌then◌else◌, Some, None, List, [], ◌∷◌, ◌++◌, All, AllPairs, map, length, take, drop, slice_range, slice_index_or, nat_lt, refl, sym, ap, subst, ◌∙◌, arith}
use Rattle.std.specs.BTreeMap.{BTreeMap, UpdatesBy}
use Rattle.std.specs.Cmp.{eq_by_cmp_equiv}
use Rattle.std.specs.Cmp.Lexicographic.{slice_cmp, nat_list_cmp_total, nat_list_eq_equiv}
use Rattle.std.specs.List.{list_any, position_or_len}
use Rattle.std.specs.Map.{lookup, IsKeyTest, AreApart, KeepsOthers}
use Rattle.std.specs.Ordering.{is_eq, nat_cmp}
use Rattle.std.specs.Str.{bytes_eq}
use Rattle.std.proofs.lemmas.Bool.{false≢true, ltb-true, ltb-false}
use Rattle.std.proofs.lemmas.List.{length-append, drop-append-le, take-append-le, length-drop}
use Rattle.std.proofs.lemmas.List.Elements.{All-head, All-tail}
use Rattle.std.proofs.lemmas.Map.Text.{is_eq-slice_cmp}
use Rattle.std.proofs.lemmas.Slice.Eq.{bytes_eq-Decides}
use Rattle.std.proofs.Math.ListN.{get_or-append}
use Rattle.spv_logic.proofs.names.Places.{position-push}
use Rattle.spv_logic.specs.declared.names.names.Symbol.{Symbol}
use Rattle.spv_listing_values.specs.declared.texts.Text.{Text}
use Rattle.spv_listing_values.specs.declared.texts.TextHead.{TextHead}
use Rattle.spv_listing_values.specs.declared.texts.TextHead.TheVariants as head
use Rattle.spv_listing_values.specs.declared.texts.Node.{Node}
use Rattle.spv_listing_values.specs.Written.{Head, Alone, Applied}
use Rattle.spv_listing_values.specs.Places.{Flat, name_at, head_at, flat_at, flat_eq, HeadIn, IsNode}
use Rattle.spv_listing_values.specs.Interned.{numbers_of, code, code_at, found_by, ArePlaces}
use Rattle.spv_listing_values.proofs.Grown.{flat_eq-true, flat_eq-same}

-- ---- lists of numbers

same_numbers : (a b : List Text) → numbers_of a ≡ numbers_of b → a ≡ b
same_numbers [] [] e = refl
same_numbers [] (u ∷ us) e = absurd cc
same_numbers (t ∷ ts) [] e = absurd cc
same_numbers (t ∷ ts) (u ∷ us) e =
    let first : t.0 ≡ u.0 = cc in
    let rest : numbers_of ts ≡ numbers_of us = cc in
    let others = same_numbers ts us rest in
    λ i. record { 0 = first i } ∷ others i

first_number : List ℕ → ℕ
first_number [] = 0
first_number (n ∷ ns) = n

first_is : (m n : ℕ) (ms ns : List ℕ) → m ∷ ms ≡ n ∷ ns → (m ≡ n) × (ms ≡ ns)
first_is m n ms ns e = (cc, cc)

apart : (m n : ℕ) (ms ns : List ℕ) → m ∷ ms ≡ n ∷ ns → (m ≡ n → ⊥) → ⊥
apart m n ms ns e differ = differ (first_is m n ms ns e).0

-- names that differ stand at one place each
module _ (names : List (List ℕ)) (differ : AllPairs (λ a b. a ≢ b) names) where
  same_place : (m n : ℕ) → m < length names → n < length names → slice_index_or names m [] ≡ slice_index_or names n [] → m ≡ n
  same_place m n h k e = by (nat_lt m n) refl (nat_lt n m) refl
    where
      equal : n ≤ m → m ≤ n → m ≡ n
      equal a b = omega (arith, a, b)

      by : (b : Bool) → nat_lt m n ≡ b → (c : Bool) → nat_lt n m ≡ c → m ≡ n
      by true f c g = absurd (differ m n [] (ltb-true m n f) k e)
      by false f true g = absurd (differ n m [] (ltb-true n m g) h (sym e))
      by false f false g = equal (ltb-false m n f) (ltb-false n m g)

  same_symbol : (x y : Symbol) → x.0 < length names → y.0 < length names → name_at names x ≡ name_at names y → x.0 ≡ y.0
  same_symbol x y h k e = same_place x.0 y.0 h k e

  named : (x y : Symbol) → x.0 ≡ y.0 → name_at names x ≡ name_at names y
  named x y e = ap (λ (n : ℕ). slice_index_or names n []) e

  abbrev over : TextHead → List Text → Flat
  over h args = record { head = head_at names h; args = args }

  zero-one : ◌≡◌ {A = ℕ} 0 1 → ⊥
  zero-one e = omega (arith, e)

  zero-two : ◌≡◌ {A = ℕ} 0 2 → ⊥
  zero-two e = omega (arith, e)

  one-two : ◌≡◌ {A = ℕ} 1 2 → ⊥
  one-two e = omega (arith, e)

  joined : (h g : Head) (a b : List Text) → h ≡ g → a ≡ b → ◌≡◌ {A = Flat} (record { head = h; args = a }) (record { head = g; args = b })
  joined h g a b e f = λ i. record { head = e i; args = f i }

  -- one code is one term
  same_flat : (h g : TextHead) (a b : List Text) → code h a ≡ code g b → over h a ≡ over g b
  same_flat (head.Alone x) (head.Alone y) a b e =
      let rest = (first_is 0 0 (x.0 ∷ numbers_of a) (y.0 ∷ numbers_of b) e).1 in
      let both = first_is x.0 y.0 (numbers_of a) (numbers_of b) rest in
      joined (Alone (name_at names x)) (Alone (name_at names y)) a b (ap (λ (l : List ℕ). Alone l) (named x y both.0)) (same_numbers a b both.1)
  same_flat (head.Alone x) (head.Applied y None) a b e = absurd (apart 0 1 (x.0 ∷ numbers_of a) (y.0 ∷ numbers_of b) e zero-one)
  same_flat (head.Alone x) (head.Applied y (Some z)) a b e = absurd (apart 0 2 (x.0 ∷ numbers_of a) (y.0 ∷ z.0 ∷ numbers_of b) e zero-two)
  same_flat (head.Applied x None) (head.Alone y) a b e = absurd (apart 0 1 (y.0 ∷ numbers_of b) (x.0 ∷ numbers_of a) (sym e) zero-one)
  same_flat (head.Applied x None) (head.Applied y None) a b e =
      let rest = (first_is 1 1 (x.0 ∷ numbers_of a) (y.0 ∷ numbers_of b) e).1 in
      let both = first_is x.0 y.0 (numbers_of a) (numbers_of b) rest in
      joined (Applied (name_at names x) None) (Applied (name_at names y) None) a b (ap (λ (l : List ℕ). Applied l None) (named x y both.0)) (same_numbers a b both.1)
  same_flat (head.Applied x None) (head.Applied y (Some z)) a b e = absurd (apart 1 2 (x.0 ∷ numbers_of a) (y.0 ∷ z.0 ∷ numbers_of b) e one-two)
  same_flat (head.Applied x (Some w)) (head.Alone y) a b e = absurd (apart 0 2 (y.0 ∷ numbers_of b) (x.0 ∷ w.0 ∷ numbers_of a) (sym e) zero-two)
  same_flat (head.Applied x (Some w)) (head.Applied y None) a b e = absurd (apart 1 2 (y.0 ∷ numbers_of b) (x.0 ∷ w.0 ∷ numbers_of a) (sym e) one-two)
  same_flat (head.Applied x (Some w)) (head.Applied y (Some z)) a b e =
      let rest = (first_is 2 2 (x.0 ∷ w.0 ∷ numbers_of a) (y.0 ∷ z.0 ∷ numbers_of b) e).1 in
      let word = first_is x.0 y.0 (w.0 ∷ numbers_of a) (z.0 ∷ numbers_of b) rest in
      let name = first_is w.0 z.0 (numbers_of a) (numbers_of b) word.1 in
      joined (Applied (name_at names x) (Some (name_at names w))) (Applied (name_at names y) (Some (name_at names z))) a b
      (λ i. Applied (named x y word.0 i) (Some (named w z name.0 i))) (same_numbers a b name.1)

  -- and one term has one code
  same_code : (h g : TextHead) (a b : List Text) → HeadIn names h → HeadIn names g → over h a ≡ over g b → code h a ≡ code g b
  same_code (head.Alone x) (head.Alone y) a b h k e =
      let heads : Alone (name_at names x) ≡ Alone (name_at names y) = ap (λ (f : Flat). f.head) e in
      let words : name_at names x ≡ name_at names y = cc in
      let args : a ≡ b = ap (λ (f : Flat). f.args) e in
      let place = same_symbol x y h k words in
      λ i. 0 ∷ place i ∷ numbers_of (args i)
  same_code (head.Alone x) (head.Applied y None) a b h k e = let heads : Alone (name_at names x) ≡ Applied (name_at names y) None = ap (λ (f : Flat). f.head) e in absurd cc
  same_code (head.Alone x) (head.Applied y (Some z)) a b h k e =
      let heads : Alone (name_at names x) ≡ Applied (name_at names y) (Some (name_at names z)) = ap (λ (f : Flat). f.head) e in absurd cc
  same_code (head.Applied x None) (head.Alone y) a b h k e = let heads : Applied (name_at names x) None ≡ Alone (name_at names y) = ap (λ (f : Flat). f.head) e in absurd cc
  same_code (head.Applied x None) (head.Applied y None) a b h k e =
      let heads : Applied (name_at names x) None ≡ Applied (name_at names y) None = ap (λ (f : Flat). f.head) e in
      let words : name_at names x ≡ name_at names y = cc in
      let args : a ≡ b = ap (λ (f : Flat). f.args) e in
      let place = same_symbol x y h k words in
      λ i. 1 ∷ place i ∷ numbers_of (args i)
  same_code (head.Applied x None) (head.Applied y (Some z)) a b h k e =
      let heads : Applied (name_at names x) None ≡ Applied (name_at names y) (Some (name_at names z)) = ap (λ (f : Flat). f.head) e in absurd cc
  same_code (head.Applied x (Some w)) (head.Alone y) a b h k e =
      let heads : Applied (name_at names x) (Some (name_at names w)) ≡ Alone (name_at names y) = ap (λ (f : Flat). f.head) e in absurd cc
  same_code (head.Applied x (Some w)) (head.Applied y None) a b h k e =
      let heads : Applied (name_at names x) (Some (name_at names w)) ≡ Applied (name_at names y) None = ap (λ (f : Flat). f.head) e in absurd cc
  same_code (head.Applied x (Some w)) (head.Applied y (Some z)) a b h k e =
      let heads : Applied (name_at names x) (Some (name_at names w)) ≡ Applied (name_at names y) (Some (name_at names z)) = ap (λ (f : Flat). f.head) e in
      let words : name_at names x ≡ name_at names y = cc in
      let others : name_at names w ≡ name_at names z = cc in
      let args : a ≡ b = ap (λ (f : Flat). f.args) e in
      let place = same_symbol x y h.0 k.0 words in
      let name = same_symbol w z h.1 k.1 others in
      λ i. 2 ∷ place i ∷ name i ∷ numbers_of (args i)

  -- so the two tests are one
  test_is : (h g : TextHead) (a b : List Text) → HeadIn names h → HeadIn names g → flat_eq (over h a) (over g b) ≡ bytes_eq (code h a) (code g b)
  test_is h g a b k l = by (flat_eq (over h a) (over g b)) refl (bytes_eq (code h a) (code g b)) refl
    where
      by : (c : Bool) → flat_eq (over h a) (over g b) ≡ c → (d : Bool) → bytes_eq (code h a) (code g b) ≡ d → flat_eq (over h a) (over g b) ≡ bytes_eq (code h a) (code g b)
      by true e true f = e ∙ sym f
      by false e false f = e ∙ sym f
      by true e false f =
          absurd (false≢true (sym f ∙ (bytes_eq-Decides (code h a) (code g b)).1 (same_code h g a b k l (flat_eq-true (over h a) (over g b) e))))
      by false e true f =
          let same = same_flat h g a b ((bytes_eq-Decides (code h a) (code g b)).0 f) in
          absurd (false≢true (sym e ∙ (ap (flat_eq (over h a)) (sym same) ∙ flat_eq-same (over h a))))

  module _ (all : List Text) (h : TextHead) (a : List Text) (known : HeadIn names h) where
    abbrev flats : List Node → List Flat
    flats ns = map (flat_at names all) ns

    abbrev codes : List Node → List (List ℕ)
    codes ns = map (code_at all) ns

    pub any_is : (ns : List Node) → All (λ n. IsNode names all n) ns → list_any (flat_eq (over h a)) (flats ns) ≡ list_any (bytes_eq (code h a)) (codes ns)
    any_is [] each = refl
    any_is (n ∷ ns) each =
        let one = test_is h n.head a (slice_range all n.first n.end) known (All-head (λ n. IsNode names all n) n ns each).head in
        let others = any_is ns (All-tail (λ n. IsNode names all n) n ns each) in
        λ i. one i || others i

    pub place_is : (ns : List Node) → All (λ n. IsNode names all n) ns → position_or_len (flat_eq (over h a)) (flats ns) ≡ position_or_len (bytes_eq (code h a)) (codes ns)
    place_is [] each = refl
    place_is (n ∷ ns) each =
        let one = test_is h n.head a (slice_range all n.first n.end) known (All-head (λ n. IsNode names all n) n ns each).head in
        let others = place_is ns (All-tail (λ n. IsNode names all n) n ns each) in
        λ i. cond (not (one i)) (1 + others i) 0

-- ---- what a map has

any_there : {X : Type 0} (p : X → Bool) (xs : List X) → position_or_len p xs < length xs → list_any p xs ≡ true
any_there p [] h = absurd (nothing_below (position_or_len p []) h)
  where
    nothing_below : (n : ℕ) → n < 0 → ⊥
    nothing_below n h = omega (arith, h)
any_there p (x ∷ xs) h = by (p x) refl (any_there p xs)
  where
    fewer : (n m : ℕ) → 1 + n < suc m → n < m
    fewer n m h = omega (arith, h)

    by : (b : Bool) → p x ≡ b → (position_or_len p xs < length xs → list_any p xs ≡ true) → list_any p (x ∷ xs) ≡ true
    by true e rest = ap (λ (b : Bool). b || list_any p xs) e
    by false e rest =
        ap (λ (b : Bool). b || list_any p xs) e
        ∙ rest (fewer (position_or_len p xs) (length xs) (subst (λ (b : Bool). cond (not b) (1 + position_or_len p xs) 0 < suc (length xs)) e h))

none_there : {X : Type 0} (p : X → Bool) (xs : List X) → length xs ≤ position_or_len p xs → list_any p xs ≡ false
none_there p [] h = refl
none_there p (x ∷ xs) h = by (p x) refl (none_there p xs)
  where
    never : (n : ℕ) → suc n ≤ 0 → ⊥
    never n h = omega (arith, h)

    fewer : (n m : ℕ) → suc m ≤ 1 + n → m ≤ n
    fewer n m h = omega (arith, h)

    by : (b : Bool) → p x ≡ b → (length xs ≤ position_or_len p xs → list_any p xs ≡ false) → list_any p (x ∷ xs) ≡ false
    by true e rest = absurd (never (length xs) (subst (λ (b : Bool). suc (length xs) ≤ cond (not b) (1 + position_or_len p xs) 0) e h))
    by false e rest =
        ap (λ (b : Bool). b || list_any p xs) e
        ∙ rest (fewer (position_or_len p xs) (length xs) (subst (λ (b : Bool). suc (length xs) ≤ cond (not b) (1 + position_or_len p xs) 0) e h))

some_at : (b : Bool) (p k : ℕ) → Some k ≡ cond b (Some p) None → (b ≡ true) × (k ≡ p)
some_at true p k e = (refl, cc)
some_at false p k e = absurd cc

none_at : (b : Bool) (p : ℕ) → None ≡ cond b (Some p) None → b ≡ false
none_at true p e = absurd cc
none_at false p e = refl

module _ {K : Type 0} (key_of : K → List ℕ) (places : BTreeMap K ℕ) (codes : List (List ℕ)) (are : ArePlaces key_of places codes) (key : List ℕ) where
  pub found_there : (k : ℕ) → Some k ≡ found_by key_of places key → (list_any (bytes_eq key) codes ≡ true) × (k ≡ position_or_len (bytes_eq key) codes)
  found_there k e =
      let p = position_or_len (bytes_eq key) codes in
      let both = some_at (nat_lt p (length codes)) p k (e ∙ are.each key) in
      (any_there (bytes_eq key) codes (ltb-true p (length codes) both.0), both.1)

  pub found_nowhere : None ≡ found_by key_of places key → list_any (bytes_eq key) codes ≡ false
  found_nowhere e =
      let p = position_or_len (bytes_eq key) codes in
      none_there (bytes_eq key) codes (ltb-false p (length codes) (none_at (nat_lt p (length codes)) p (e ∙ are.each key)))

-- ---- a map gets one place more

kept : {K X : Type 0} (eq : K → K → Bool) (test : K → Bool) (old new : List (K × X)) → KeepsOthers eq test old new
    → (other : K → Bool) → IsKeyTest eq other → AreApart test other → lookup other new ≡ lookup other old
unfolding KeepsOthers
kept eq test old new h = h

keys_apart : (text q k : List ℕ) → bytes_eq text q ≡ false → is_eq (slice_cmp nat_cmp text k) ≡ true → is_eq (slice_cmp nat_cmp q k) ≡ false
keys_apart text q k differs same =
    let one : text ≡ k = (bytes_eq-Decides text k).0 (sym (is_eq-slice_cmp text k) ∙ same) in
    is_eq-slice_cmp q k ∙ (ap (bytes_eq q) (sym one) ∙ (nat_list_eq_equiv.symm q text ∙ differs))

module _ {K : Type 0} (key_of : K → List ℕ) where
  pub put_there : (old new : BTreeMap K ℕ) (text : List ℕ) (n : ℕ)
      → UpdatesBy (λ x y. slice_cmp nat_cmp (key_of x) (key_of y)) (λ k. slice_cmp nat_cmp text (key_of k)) old new (Some n)
      → (q : List ℕ) → found_by key_of new q ≡ (if bytes_eq text q then Some n else found_by key_of old q)
  put_there old new text n h q = by (bytes_eq text q) refl
    where
      by : (b : Bool) → bytes_eq text q ≡ b → found_by key_of new q ≡ (if bytes_eq text q then Some n else found_by key_of old q)
      by true e =
          subst (λ (l : List ℕ). found_by key_of new l ≡ Some n) ((bytes_eq-Decides text q).0 e) h.1
          ∙ ap (λ (b : Bool). if b then Some n else found_by key_of old q) (sym e)
      by false e =
          kept _ _ old.entries new.entries h.3 (λ k. is_eq (slice_cmp nat_cmp q (key_of k)))
          (λ x y. (eq_by_cmp_equiv nat_list_cmp_total).congr q (key_of x) (key_of y)) (λ k. keys_apart text q (key_of k) e)
          ∙ ap (λ (b : Bool). if b then Some n else found_by key_of old q) (sym e)

  pub put_there_by : (old new : BTreeMap K ℕ) (text key : List ℕ) (n : ℕ) → key ≡ text
      → UpdatesBy (λ x y. slice_cmp nat_cmp (key_of x) (key_of y)) (λ k. slice_cmp nat_cmp key (key_of k)) old new (Some n)
      → (q : List ℕ) → found_by key_of new q ≡ (if bytes_eq text q then Some n else found_by key_of old q)
  put_there_by old new text key n same h =
      put_there old new text n (subst (λ (l : List ℕ). UpdatesBy (λ x y. slice_cmp nat_cmp (key_of x) (key_of y)) (λ k. slice_cmp nat_cmp l (key_of k)) old new (Some n)) same h)

  pub places_more : (old new : BTreeMap K ℕ) (codes : List (List ℕ)) (key : List ℕ) (n : ℕ) → ArePlaces key_of old codes → list_any (bytes_eq key) codes ≡ false
      → ((q : List ℕ) → found_by key_of new q ≡ (if bytes_eq key q then Some n else found_by key_of old q)) → n ≡ length codes → ArePlaces key_of new (codes ++ key ∷ [])
  places_more old new codes key n are absent puts last = record {
    each = λ q. puts q
        ∙ ((λ i. cond (nat_list_eq_equiv.symm key q i) (Some (last i)) (are.each q i))
        ∙ sym (position-push (bytes_eq q) codes key (λ same. ap (λ (l : List ℕ). list_any (bytes_eq l) codes) ((bytes_eq-Decides q key).0 same) ∙ absent)));
  }

-- ---- tables of words and arguments that go on

name_stays : (names more : List (List ℕ)) (x : Symbol) → x.0 < length names → name_at (names ++ more) x ≡ name_at names x
name_stays names more x h = get_or-append names more [] x.0 h

pub head_stays : (names more : List (List ℕ)) (h : TextHead) → HeadIn names h → head_at (names ++ more) h ≡ head_at names h
head_stays names more (head.Alone x) k = ap (λ (l : List ℕ). Alone l) (name_stays names more x k)
head_stays names more (head.Applied x None) k = ap (λ (l : List ℕ). Applied l None) (name_stays names more x k)
head_stays names more (head.Applied x (Some y)) k =
    let word = name_stays names more x k.0 in
    let name = name_stays names more y k.1 in
    λ i. Applied (word i) (Some (name i))

longer : {X : Type 0} (a b : List X) (n : ℕ) → n < length a → n < length (a ++ b)
longer a b n h = let size = length-append a b in omega (arith, h, size)

pub head_in_more : (names more : List (List ℕ)) (h : TextHead) → HeadIn names h → HeadIn (names ++ more) h
head_in_more names more (head.Alone x) k = longer names more x.0 k
head_in_more names more (head.Applied x None) k = longer names more x.0 k
head_in_more names more (head.Applied x (Some y)) k = (longer names more x.0 k.0, longer names more y.0 k.1)

range_stays : (args more : List Text) (a b : ℕ) → a ≤ b → b ≤ length args → slice_range (args ++ more) a b ≡ slice_range args a b
range_stays args more a b h k =
    let size = length-drop a args in
    ap (λ (l : List Text). take (b - a) l) (drop-append-le a args more (omega (arith, h, k))) ∙ take-append-le (b - a) (drop a args) more (omega (arith, h, k, size))

pub flats_stay : (names words : List (List ℕ)) (args more : List Text) (ns : List Node) → All (λ n. IsNode names args n) ns
    → map (flat_at (names ++ words) (args ++ more)) ns ≡ map (flat_at names args) ns
flats_stay names words args more [] each = refl
flats_stay names words args more (n ∷ ns) each =
    let node = All-head (λ n. IsNode names args n) n ns each in
    let head = head_stays names words n.head node.head in
    let range = range_stays args more n.first n.end node.in_order node.in_range in
    let others = flats_stay names words args more ns (All-tail (λ n. IsNode names args n) n ns each) in
    λ i. record { head = head i; args = range i } ∷ others i

pub codes_stay : (names : List (List ℕ)) (args more : List Text) (ns : List Node) → All (λ n. IsNode names args n) ns → map (code_at (args ++ more)) ns ≡ map (code_at args) ns
codes_stay names args more [] each = refl
codes_stay names args more (n ∷ ns) each =
    let node = All-head (λ n. IsNode names args n) n ns each in
    let range = range_stays args more n.first n.end node.in_order node.in_range in
    let others = codes_stay names args more ns (All-tail (λ n. IsNode names args n) n ns each) in
    λ i. code n.head (range i) ∷ others i

pub node_stays : (names words : List (List ℕ)) (args more : List Text) (n : Node) → IsNode names args n → IsNode (names ++ words) (args ++ more) n
node_stays names words args more n node =
    let size = length-append args more in
    record { head = head_in_more names words n.head node.head; in_order = node.in_order; in_range = omega (arith, node.in_range, size) }
