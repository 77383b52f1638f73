-- What the map of a table keeps: the place of each text.
use Rattle.std.proofs.Common.{◌≡◌, ◌+◌, ℕ, suc, Bool, true, false, ◌||◌, cond, Option, Some, None, List, [], ◌∷◌, ◌++◌, length, position, slice_get, slice_index_or, Contains, refl, sym, ap, subst, ◌∙◌, arith}
use Rattle.std.specs.BTreeMap.{BTreeMap, UpdatesBy, get_by}
use Rattle.std.specs.Cmp.{eq_by_cmp_equiv}
use Rattle.std.specs.Cmp.Lexicographic.{slice_cmp, nat_list_cmp_total, nat_list_eq_equiv}
use Rattle.std.specs.List.{list_any, position_from}
use Rattle.std.specs.Map.{lookup, IsKeyTest, AreApart, KeepsOthers}
use Rattle.std.specs.Ordering.{is_eq, nat_cmp}
use Rattle.std.specs.Str.{bytes_eq}
use Rattle.std.proofs.lemmas.Bool.{false≢true}
use Rattle.std.proofs.lemmas.Iterator.Adapters.{position_from-zero}
use Rattle.std.proofs.lemmas.List.Quantifiers.{position-Some}
use Rattle.std.proofs.lemmas.Map.Text.{is_eq-slice_cmp}
use Rattle.std.proofs.lemmas.Option.{slice_get-get_or}
use Rattle.std.proofs.lemmas.Slice.Eq.{bytes_eq-Decides}
use Rattle.spv_logic.specs.names.Names.{AreBytes, packed, is_short, number_of, place_of, ArePlaces, PutsPlace}
use Rattle.spv_logic.proofs.names.NameTable.{absent, place_from_position}
use Rattle.spv_logic.proofs.names.Packed.{by_number}

-- ---- where a text stands in a list that grows

position_from-push : {A : Type 0} (p : A → Bool) (i : ℕ) (xs : List A) (y : A) → (p y ≡ true → list_any p xs ≡ false)
    → position_from p i (xs ++ y ∷ []) ≡ cond (p y) (Some (i + length xs)) (position_from p i xs)
position_from-push p i [] y new =
    let here : i ≡ i + 0 = omega arith in
    ap (λ n. cond (p y) (Some n) None) here
position_from-push p i (x ∷ xs) y new = by (p x) (p y) refl refl (position_from-push p (i + 1) xs y)
  where
    by : (b c : Bool) → p x ≡ b → p y ≡ c
        → ((p y ≡ true → list_any p xs ≡ false) → position_from p (i + 1) (xs ++ y ∷ []) ≡ cond (p y) (Some (i + 1 + length xs)) (position_from p (i + 1) xs))
        → position_from p i (x ∷ (xs ++ y ∷ [])) ≡ cond (p y) (Some (i + length (x ∷ xs))) (position_from p i (x ∷ xs))
    by true true e f rest = absurd (false≢true (sym (new f) ∙ ap (λ b. b || list_any p xs) e))
    by true false e f rest = rw (e, f) refl
    by false c e f rest =
        let fewer : p y ≡ true → list_any p xs ≡ false = λ h. sym (ap (λ b. b || list_any p xs) e) ∙ new h in
        let size : i + 1 + length xs ≡ i + suc (length xs) = omega arith in
        ap (λ b. cond b (Some i) (position_from p (i + 1) (xs ++ y ∷ []))) e
        ∙ rest fewer ∙ ap (λ n. cond (p y) (Some n) (position_from p (i + 1) xs)) size
        ∙ ap (λ b. cond (p y) (Some (i + suc (length xs))) (cond b (Some i) (position_from p (i + 1) xs))) (sym e)

-- an item that is new stands last, and each other item where it stood
pub position-push : {A : Type 0} (p : A → Bool) (xs : List A) (y : A) → (p y ≡ true → list_any p xs ≡ false) → position p (xs ++ y ∷ []) ≡ cond (p y) (Some (length xs)) (position p xs)
position-push p xs y new =
    position_from-zero p (xs ++ y ∷ []) ∙ position_from-push p 0 xs y new
    ∙ (λ i. cond (p y) (Some (none_before i)) (sym (position_from-zero p xs) i))
  where
    none_before : 0 + length xs ≡ length xs
    none_before = omega arith

-- where nothing is found, no item passes
none_there : {A : Type 0} (p : A → Bool) (i : ℕ) (xs : List A) → position_from p i xs ≡ None → list_any p xs ≡ false
none_there p i [] h = refl
none_there p i (x ∷ xs) h = by (p x) refl h (none_there p (i + 1) xs)
  where
    by : (b : Bool) → p x ≡ b → cond (p x) (Some i) (position_from p (i + 1) xs) ≡ None
        → (position_from p (i + 1) xs ≡ None → list_any p xs ≡ false) → list_any p (x ∷ xs) ≡ false
    by true e k rest = let no_place : Some i ≡ None = ap (λ b. cond b (Some i) (position_from p (i + 1) xs)) (sym e) ∙ k in cc
    by false e k rest = ap (λ b. b || list_any p xs) e ∙ rest (ap (λ b. cond b (Some i) (position_from p (i + 1) xs)) (sym e) ∙ k)

-- ---- the map after a text was put into it

kept : {K X : Type 0} (eq : K → K → Bool) (test : K → Bool) (old new : List (K × X)) → KeepsOthers eq test old new
    → (other : K → Bool) → IsKeyTest eq other → AreApart test other → lookup other new ≡ lookup other old
unfolding KeepsOthers
kept eq test old new h = h

apart : (text q k : List ℕ) → bytes_eq text q ≡ false → is_eq (slice_cmp nat_cmp text k) ≡ true → is_eq (slice_cmp nat_cmp q k) ≡ false
apart text q k differs same =
    let one : text ≡ k = (bytes_eq-Decides text k).0 (sym (is_eq-slice_cmp text k) ∙ same) in
    is_eq-slice_cmp q k ∙ ap (bytes_eq q) (sym one) ∙ nat_list_eq_equiv.symm q text ∙ differs

-- ---- texts of different lengths

longer_apart : (s t : List ℕ) → is_short s ≡ true → is_short t ≡ false → bytes_eq s t ≡ false
longer_apart s t e f = by (bytes_eq s t) refl
  where
    by : (b : Bool) → bytes_eq s t ≡ b → bytes_eq s t ≡ false
    by false g = g
    by true g = absurd (false≢true (sym f ∙ ap is_short (sym ((bytes_eq-Decides s t).0 g)) ∙ e))

module _ {K : Type 0} (text_of : K → List ℕ) where
  -- the number of a short text, and of another
  short_is : (short : BTreeMap ℕ ℕ) (long : BTreeMap K ℕ) (text : List ℕ) → is_short text ≡ true → number_of text_of short long text ≡ get_by (nat_cmp (packed text)) short
  short_is short long text e = ap (λ b. cond b (get_by (nat_cmp (packed text)) short) (get_by (λ k. slice_cmp nat_cmp text (text_of k)) long)) e

  long_is : (short : BTreeMap ℕ ℕ) (long : BTreeMap K ℕ) (text : List ℕ) → is_short text ≡ false → number_of text_of short long text ≡ get_by (λ k. slice_cmp nat_cmp text (text_of k)) long
  long_is short long text e = ap (λ b. cond b (get_by (nat_cmp (packed text)) short) (get_by (λ k. slice_cmp nat_cmp text (text_of k)) long)) e

  -- a short text has the new number, and each other text the number that it had
  pub short-put : (old new : BTreeMap ℕ ℕ) (long : BTreeMap K ℕ) (text : List ℕ) (n : ℕ) → is_short text ≡ true → AreBytes text
      → UpdatesBy nat_cmp (nat_cmp (packed text)) old new (Some n) → PutsPlace text_of old long text n new long
  short-put old new long text n e bytes h = record { each = λ q small. by q small (is_short q) refl }
    where
      by : (q : List ℕ) → AreBytes q → (b : Bool) → is_short q ≡ b → number_of text_of new long q ≡ cond (bytes_eq text q) (Some n) (number_of text_of old long q)
      by q small true f =
          short_is new long q f ∙ h.0 (packed q) ∙ (λ i. cond (by_number text q bytes small i) (Some n) (sym (short_is old long q f) i))
      by q small false f =
          long_is new long q f ∙ sym (long_is old long q f) ∙ ap (λ b. cond b (Some n) (number_of text_of old long q)) (sym (longer_apart text q e f))

  -- the same of a long one
  long-put : (old new : BTreeMap K ℕ) (text : List ℕ) (n : ℕ)
      → UpdatesBy (λ x y. slice_cmp nat_cmp (text_of x) (text_of y)) (λ k. slice_cmp nat_cmp text (text_of k)) old new (Some n)
      → (q : List ℕ) → get_by (λ k. slice_cmp nat_cmp q (text_of k)) new ≡ cond (bytes_eq text q) (Some n) (get_by (λ k. slice_cmp nat_cmp q (text_of k)) old)
  long-put old new text n h q = by (bytes_eq text q) refl
    where
      by : (b : Bool) → bytes_eq text q ≡ b → get_by (λ k. slice_cmp nat_cmp q (text_of k)) new ≡ cond (bytes_eq text q) (Some n) (get_by (λ k. slice_cmp nat_cmp q (text_of k)) old)
      by true e = subst (λ l. get_by (λ k. slice_cmp nat_cmp l (text_of k)) new ≡ Some n) ((bytes_eq-Decides text q).0 e) h.1
          ∙ ap (λ b. cond b (Some n) (get_by (λ k. slice_cmp nat_cmp q (text_of k)) old)) (sym e)
      by false e =
          kept _ _ old.entries new.entries h.3 (λ k. is_eq (slice_cmp nat_cmp q (text_of k)))
          (λ x y. (eq_by_cmp_equiv nat_list_cmp_total).congr q (text_of x) (text_of y)) (λ k. apart text q (text_of k) e)
          ∙ ap (λ b. cond b (Some n) (get_by (λ k. slice_cmp nat_cmp q (text_of k)) old)) (sym e)

  pub long-puts : (short : BTreeMap ℕ ℕ) (old new : BTreeMap K ℕ) (text key : List ℕ) (n : ℕ) → is_short text ≡ false → key ≡ text
      → UpdatesBy (λ x y. slice_cmp nat_cmp (text_of x) (text_of y)) (λ k. slice_cmp nat_cmp key (text_of k)) old new (Some n) → PutsPlace text_of short old text n short new
  long-puts short old new text key n e same h = record { each = λ q small. by q (is_short q) refl }
    where
      update : UpdatesBy (λ x y. slice_cmp nat_cmp (text_of x) (text_of y)) (λ k. slice_cmp nat_cmp text (text_of k)) old new (Some n)
      update = subst (λ l. UpdatesBy (λ x y. slice_cmp nat_cmp (text_of x) (text_of y)) (λ k. slice_cmp nat_cmp l (text_of k)) old new (Some n)) same h

      by : (q : List ℕ) → (b : Bool) → is_short q ≡ b → number_of text_of short new q ≡ cond (bytes_eq text q) (Some n) (number_of text_of short old q)
      by q true f =
          short_is short new q f ∙ sym (short_is short old q f)
          ∙ ap (λ b. cond b (Some n) (number_of text_of short old q)) (sym (nat_list_eq_equiv.symm text q ∙ longer_apart q text f e))
      by q false f =
          long_is short new q f ∙ long-put old new text n update q ∙ ap (cond (bytes_eq text q) (Some n)) (sym (long_is short old q f))

  -- a new text is put at the end, and its place into the maps
  pub ArePlaces-put : (short new_short : BTreeMap ℕ ℕ) (long new_long : BTreeMap K ℕ) (texts more : List (List ℕ)) (text : List ℕ) (n : ℕ) → ArePlaces text_of short long texts
      → list_any (bytes_eq text) texts ≡ false → PutsPlace text_of short long text n new_short new_long → n ≡ length texts → more ≡ texts ++ text ∷ [] → ArePlaces text_of new_short new_long more
  ArePlaces-put short new_short long new_long texts more text n places absent puts last is = record {
    each = λ q small. puts.each q small
        ∙ (λ i. cond (nat_list_eq_equiv.symm text q i) (Some (last i)) (places.each q small i))
        ∙ sym (position-push (bytes_eq q) texts text (λ same. ap (λ l. list_any (bytes_eq l) texts) ((bytes_eq-Decides q text).0 same) ∙ absent))
        ∙ ap (position (bytes_eq q)) (sym is);
  }

  module _ (short : BTreeMap ℕ ℕ) (long : BTreeMap K ℕ) (texts : List (List ℕ)) (are : ArePlaces text_of short long texts) (text : List ℕ) (small : AreBytes text) where
    -- a text that has no number stands nowhere
    pub number-absent : None ≡ number_of text_of short long text → Contains texts text → ⊥
    number-absent h = absent texts text (none_there (bytes_eq text) 0 texts (sym (position_from-zero (bytes_eq text) texts) ∙ sym (are.each text small) ∙ sym h))

    -- one that has a number stands there
    pub number-place : (i : ℕ) → Some i ≡ number_of text_of short long text → i ≡ place_of texts text
    number-place i h = place_from_position (bytes_eq text) texts i (sym (h ∙ are.each text small))

    pub number-stands : (i : ℕ) → Some i ≡ number_of text_of short long text → slice_get texts i ≡ Some text
    number-stands i h =
        let there = position-Some (bytes_eq text) texts i text (sym (h ∙ are.each text small)) in
        slice_get-get_or texts i text there.0 ∙ ap Some (sym ((bytes_eq-Decides text (slice_index_or texts i text)).0 there.1))
