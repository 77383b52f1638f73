-- Chains of hashes.
use Rattle.std.proofs.Common.{◌≡◌, ◌≢◌, ℕ, zero, suc, ◌+◌, ◌%◌, ◌<◌, ◌≤◌, Bool, true, false, nat_eq, List, [], ◌∷◌, ◌++◌, map, length, get_or, set, Option, Some, None, refl, sym, ap, subst, ◌∙◌, arith, inl, inr, ◌⊎◌, if◌then◌else◌}
use Rattle.std.proofs.lemmas.List.{get_or-map, get_or-set_same, get_or-set_other, length-set, map-set, set-get_or, get_or_append_left, get_or_push, length_push, length-map}
use Rattle.std.proofs.lemmas.Bool.{false≢true}
use Rattle.std.proofs.lemmas.Bool.Decides.{nat_tests}
use Rattle.spv_union_find.specs.declared.signatures.chains.Link.{Link}
use Rattle.spv_union_find.specs.signatures.Chains.{last_where, last_below, nothing, link_at, has_hash, in_bucket, AreLinked}

-- ---- the last place that meets a test

pub last_is : (p : ℕ → Bool) (n : ℕ) → p n ≡ true → last_where p (suc n) ≡ Some n
last_is p n h = ap (λ b. if b then Some n else last_where p n) h

pub last_not : (p : ℕ → Bool) (n : ℕ) → p n ≡ false → last_where p (suc n) ≡ last_where p n
last_not p n h = ap (λ b. if b then Some n else last_where p n) h

-- tests that agree below a bound have one last place
pub last_same : (p q : ℕ → Bool) (n : ℕ) → ((i : ℕ) → i < n → p i ≡ q i) → last_where p n ≡ last_where q n
last_same p q zero h = refl
last_same p q (suc n) h =
    ap (λ b. if b then Some n else last_where p n) (h n (omega arith))
    ∙ ap (λ o. if q n then Some n else o) (last_same p q n (λ i k. h i (omega (arith, k))))

same_or_apart : (x y : ℕ) → (x ≡ y) ⊎ (x ≢ y)
same_or_apart x y = by (nat_eq x y) refl
  where
    by : (b : Bool) → nat_eq x y ≡ b → (x ≡ y) ⊎ (x ≢ y)
    by true e = inl (grind (arith, nat_tests))
    by false e = inr (λ f. false≢true (sym e ∙ (ap (λ z. nat_eq z y) f ∙ same y)))
      where
        same : (z : ℕ) → nat_eq z z ≡ true
        same z = grind (arith, nat_tests)

-- what is known of the last place
pub record IsLast (p : ℕ → Bool) (n m : ℕ) : Type 0 where
  pub below : m < n
  pub meets : p m ≡ true
  pub after : (i : ℕ) → m < i → i < n → p i ≡ false

one : (n m : ℕ) → Some n ≡ Some m → n ≡ m
one n m e = cc

none : (n : ℕ) → Some n ≡ None → ⊥
none n e = cc

is_here : (p : ℕ → Bool) (n m : ℕ) → p n ≡ true → n ≡ m → IsLast p (suc n) m
is_here p n m h f = record {
  below = omega (arith, f);
  meets = ap p (sym f) ∙ h;
  after = λ i k l. absurd (omega (arith, f, k, l));
}

is_before : (p : ℕ → Bool) (n m : ℕ) → p n ≡ false → IsLast p n m → IsLast p (suc n) m
is_before p n m h r = record {
  below = (let b = r.below in omega (arith, b));
  meets = r.meets;
  after = λ i k l. at i k l (same_or_apart i n);
}
  where
    at : (i : ℕ) → m < i → i < suc n → (i ≡ n) ⊎ (i ≢ n) → p i ≡ false
    at i k l (inl f) = ap p f ∙ h
    at i k l (inr f) = r.after i k (let g : i < n = omega (arith, l, f) in g)

pub is_last : (p : ℕ → Bool) (n m : ℕ) → last_where p n ≡ Some m → IsLast p n m
is_last p zero m e = absurd (cc)
is_last p (suc n) m e = by (λ k. is_last p n m k) (p n) refl
  where
    by : (last_where p n ≡ Some m → IsLast p n m) → (b : Bool) → p n ≡ b → IsLast p (suc n) m
    by rest true h = is_here p n m h (one n m (sym (last_is p n h) ∙ e))
    by rest false h = is_before p n m h (rest (sym (last_not p n h) ∙ e))

pub no_last : (p : ℕ → Bool) (n : ℕ) → last_where p n ≡ None → (i : ℕ) → i < n → p i ≡ false
no_last p zero e i h = absurd (omega (arith, h))
no_last p (suc n) e i h = by (λ k l. no_last p n k i l) (p n) refl
  where
    at : (last_where p n ≡ None → i < n → p i ≡ false) → p n ≡ false → (i ≡ n) ⊎ (i ≢ n) → p i ≡ false
    at rest g (inl f) = ap p f ∙ g
    at rest g (inr f) = rest (sym (last_not p n g) ∙ e) (let l : i < n = omega (arith, h, f) in l)

    by : (last_where p n ≡ None → i < n → p i ≡ false) → (b : Bool) → p n ≡ b → p i ≡ false
    by rest true g = absurd (none n (sym (last_is p n g) ∙ e))
    by rest false g = at rest g (same_or_apart i n)

-- what does not meet a test can be left out from the end
pub last_down : (p : ℕ → Bool) (m d : ℕ) → ((i : ℕ) → m ≤ i → i < m + d → p i ≡ false) → last_where p (m + d) ≡ last_where p m
last_down p m zero h = ap (last_where p) (zero_right m)
  where
    zero_right : (m : ℕ) → m + 0 ≡ m
    zero_right m = omega arith
last_down p m (suc d) h =
    ap (last_where p) (more m d)
    ∙ (last_not p (m + d) (h (m + d) (omega arith) (omega arith)) ∙ last_down p m d (λ i k l. h i k (let f : i < m + suc d = omega (arith, l) in f)))
  where
    more : (m d : ℕ) → m + suc d ≡ suc (m + d)
    more m d = omega arith

-- nothing meets the one test that does not meet the other, wider one
pub no_narrow : (p q : ℕ → Bool) (n : ℕ) → ((i : ℕ) → p i ≡ true → q i ≡ true) → last_where q n ≡ None → last_where p n ≡ None
no_narrow p q zero w e = refl
no_narrow p q (suc n) w e = by (λ k. no_narrow p q n w k) (q n) refl
  where
    not_p : q n ≡ false → (b : Bool) → p n ≡ b → p n ≡ false
    not_p g true f = absurd (false≢true (sym g ∙ w n f))
    not_p g false f = f

    by : (last_where q n ≡ None → last_where p n ≡ None) → (b : Bool) → q n ≡ b → last_where p (suc n) ≡ None
    by rest true g = absurd (none n (sym (last_is q n g) ∙ e))
    by rest false g = last_not p n (not_p g (p n) refl) ∙ rest (sym (last_not q n g) ∙ e)

-- the last place that meets the narrower test is at the last one that meets the wider one or before it
pub narrow : (p q : ℕ → Bool) (n m : ℕ) → ((i : ℕ) → p i ≡ true → q i ≡ true) → last_where q n ≡ Some m → last_where p n ≡ last_where p (suc m)
narrow p q zero m w e = absurd (cc)
narrow p q (suc n) m w e = by (λ k. narrow p q n m w k) (q n) refl
  where
    not_p : q n ≡ false → (b : Bool) → p n ≡ b → p n ≡ false
    not_p g true f = absurd (false≢true (sym g ∙ w n f))
    not_p g false f = f

    by : (last_where q n ≡ Some m → last_where p n ≡ last_where p (suc m)) → (b : Bool) → q n ≡ b → last_where p (suc n) ≡ last_where p (suc m)
    by rest true g = ap (λ k. last_where p (suc k)) (one n m (sym (last_is q n g) ∙ e))
    by rest false g = last_not p n (not_p g (p n) refl) ∙ rest (sym (last_not q n g) ∙ e)

-- ---- chains

-- links that agree below a bound, but for the one before each
pub record AgreeBelow (ls ks : List Link) (n : ℕ) : Type 0 where
  pub hash : (i : ℕ) → i < n → (link_at ks i).hash ≡ (link_at ls i).hash
  pub previous : (i : ℕ) → i < n → (link_at ks i).previous ≡ (link_at ls i).previous

same_bucket : (ls ks : List Link) (n c b : ℕ) → AgreeBelow ls ks n → (i : ℕ) → i < n → in_bucket ks c b i ≡ in_bucket ls c b i
same_bucket ls ks n c b a i h = ap (λ k. nat_eq (k % c) b) (a.hash i h)

pub linked_same : (ls ks : List Link) (bs : List (Option ℕ)) (n : ℕ) → AgreeBelow ls ks n → AreLinked ls bs n → AreLinked ks bs n
linked_same ls ks bs n a l = record {
  each = λ i h.
      a.previous i h
      ∙ (l.each i h
      ∙ (ap (λ k. last_where (in_bucket ls (length bs) (k % length bs)) i) (sym (a.hash i h))
      ∙ sym (last_same _ _ i (λ k g. same_bucket ls ks n (length bs) ((link_at ks i).hash % length bs) a k (let f : k < n = omega (arith, g, h) in f)))));
  ends = λ b h. l.ends b h ∙ sym (last_same _ _ n (λ k g. same_bucket ls ks n (length bs) b a k g));
}

-- a link more, before which stands what was the last one of its bucket
pub linked_more : (ls : List Link) (bs cs : List (Option ℕ)) (n b : ℕ) → AreLinked ls bs n → b ≡ (link_at ls n).hash % length bs → b < length bs → (link_at ls n).previous ≡ get_or bs b None → cs ≡ set bs b (Some n)
    → AreLinked ls cs (suc n)
linked_more ls bs cs n b l is within here e = subst (λ ds. AreLinked ls ds (suc n)) (sym e) (record { each = each; ends = ends })
  where
    many : length (set bs b (Some n)) ≡ length bs
    many = length-set bs b (Some n)

    old : (i : ℕ) → (i ≡ n) ⊎ (i ≢ n) → i < suc n → (link_at ls i).previous ≡ last_where (in_bucket ls (length bs) ((link_at ls i).hash % length bs)) i
    old i (inl f) h =
        ap (λ k. (link_at ls k).previous) f
        ∙ (here ∙ (l.ends b within ∙ (ap (λ k. last_where (in_bucket ls (length bs) k) n) is ∙ ap (λ k. last_where (in_bucket ls (length bs) ((link_at ls k).hash % length bs)) k) (sym f))))
    old i (inr f) h = l.each i (let g : i < n = omega (arith, f, h) in g)

    each : (i : ℕ) → i < suc n → (link_at ls i).previous ≡ last_where (in_bucket ls (length (set bs b (Some n))) ((link_at ls i).hash % length (set bs b (Some n)))) i
    each i h = old i (same_or_apart i n) h ∙ ap (λ c. last_where (in_bucket ls c ((link_at ls i).hash % c)) i) (sym many)

    eq_same : (z : ℕ) → nat_eq z z ≡ true
    eq_same z = grind (arith, nat_tests)

    eq_apart : (x y : ℕ) → x ≢ y → (c : Bool) → nat_eq x y ≡ c → nat_eq x y ≡ false
    eq_apart x y h true e = absurd (h (grind (arith, nat_tests)))
    eq_apart x y h false e = e

    last : (d : ℕ) → (d ≡ b) ⊎ (d ≢ b) → d < length bs → get_or (set bs b (Some n)) d None ≡ last_where (in_bucket ls (length bs) d) (suc n)
    last d (inl f) h =
        ap (λ k. get_or (set bs b (Some n)) k None) f
        ∙ (get_or-set_same bs b (Some n) None within
        ∙ sym (last_is (in_bucket ls (length bs) d) n (ap (λ k. nat_eq k d) (sym is) ∙ (ap (λ k. nat_eq b k) f ∙ eq_same b))))
    last d (inr f) h =
        get_or-set_other bs b d (Some n) None f
        ∙ (l.ends d h
        ∙ sym (last_not (in_bucket ls (length bs) d) n (ap (λ k. nat_eq k d) (sym is) ∙ eq_apart b d (λ g. f (sym g)) (nat_eq b d) refl)))

    ends : (d : ℕ) → d < length (set bs b (Some n)) → get_or (set bs b (Some n)) d None ≡ last_where (in_bucket ls (length (set bs b (Some n))) d) (suc n)
    ends d h = last d (same_or_apart d b) (subst (λ m. d < m) many h) ∙ ap (λ c. last_where (in_bucket ls c d) (suc n)) (sym many)

-- a link less, before which stands what is the last one of its bucket then
pub linked_less : (ls : List Link) (bs cs : List (Option ℕ)) (n b : ℕ) → AreLinked ls bs (suc n) → b ≡ (link_at ls n).hash % length bs → b < length bs → cs ≡ set bs b (link_at ls n).previous
    → AreLinked ls cs n
linked_less ls bs cs n b l is within e = subst (λ ds. AreLinked ls ds n) (sym e) (record { each = each; ends = ends })
  where
    o : Option ℕ
    o = (link_at ls n).previous

    many : length (set bs b o) ≡ length bs
    many = length-set bs b o

    each : (i : ℕ) → i < n → (link_at ls i).previous ≡ last_where (in_bucket ls (length (set bs b o)) ((link_at ls i).hash % length (set bs b o))) i
    each i h = l.each i (let g : i < suc n = omega (arith, h) in g) ∙ ap (λ c. last_where (in_bucket ls c ((link_at ls i).hash % c)) i) (sym many)

    eq_apart : (x y : ℕ) → x ≢ y → (c : Bool) → nat_eq x y ≡ c → nat_eq x y ≡ false
    eq_apart x y h true e = absurd (h (grind (arith, nat_tests)))
    eq_apart x y h false e = e

    last : (d : ℕ) → (d ≡ b) ⊎ (d ≢ b) → d < length bs → get_or (set bs b o) d None ≡ last_where (in_bucket ls (length bs) d) n
    last d (inl f) h =
        ap (λ k. get_or (set bs b o) k None) f
        ∙ (get_or-set_same bs b o None within
        ∙ (l.each n (omega arith) ∙ ap (λ k. last_where (in_bucket ls (length bs) k) n) (sym is ∙ sym f)))
    last d (inr f) h =
        get_or-set_other bs b d o None f
        ∙ (l.ends d h
        ∙ last_not (in_bucket ls (length bs) d) n (ap (λ k. nat_eq k d) (sym is) ∙ eq_apart b d (λ g. f (sym g)) (nat_eq b d) refl))

    ends : (d : ℕ) → d < length (set bs b o) → get_or (set bs b o) d None ≡ last_where (in_bucket ls (length (set bs b o)) d) n
    ends d h = last d (same_or_apart d b) (subst (λ m. d < m) many h) ∙ ap (λ c. last_where (in_bucket ls c d) n) (sym many)

-- a link is written, with its bucket
pub chained : (ls : List Link) (bs : List (Option ℕ)) (n b : ℕ) (x : Link) → AreLinked ls bs n → n < length ls → x.hash ≡ (link_at ls n).hash → b ≡ x.hash % length bs → b < length bs → x.previous ≡ get_or bs b None
    → AreLinked (set ls n x) (set bs b (Some n)) (suc n)
chained ls bs n b x l within hash is b_in previous =
    let here : link_at (set ls n x) n ≡ x = get_or-set_same ls n x nothing within in
    linked_more (set ls n x) bs (set bs b (Some n)) n b (linked_same ls (set ls n x) bs n agree l) (is ∙ ap (λ k. k.hash % length bs) (sym here)) b_in (ap (λ k. k.previous) here ∙ previous) refl
  where
    other : (i : ℕ) → i < n → link_at (set ls n x) i ≡ link_at ls i
    other i h = get_or-set_other ls n i x nothing (λ e. absurd (let f : ⊥ = omega (arith, e, h) in f))

    agree : AgreeBelow ls (set ls n x) n
    agree = record { hash = λ i h. ap (λ k. k.hash) (other i h); previous = λ i h. ap (λ k. k.previous) (other i h) }

pub hashes_same : (ls : List Link) (n : ℕ) (x : Link) → n < length ls → x.hash ≡ (link_at ls n).hash → map (λ l. l.hash) (set ls n x) ≡ map (λ l. l.hash) ls
hashes_same ls n x within e =
    map-set (λ l. l.hash) ls n x
    ∙ (ap (λ h. set (map (λ l. l.hash) ls) n h) (e ∙ sym (get_or-map (λ l. l.hash) ls n nothing 0 within)) ∙ set-get_or (map (λ l. l.hash) ls) n 0)

-- a link is put behind the others
pub pushed : (ls ks : List Link) (bs : List (Option ℕ)) (n : ℕ) (x : Link) → AreLinked ls bs (length ls) → ks ≡ ls ++ x ∷ [] → n ≡ length ls → AreLinked ks bs n
pushed ls ks bs n x l e f = subst (λ m. AreLinked ks bs m) (sym f) (subst (λ js. AreLinked js bs (length ls)) (sym e) (linked_same ls (ls ++ x ∷ []) bs (length ls) agree l))
  where
    other : (i : ℕ) → i < length ls → link_at (ls ++ x ∷ []) i ≡ link_at ls i
    other i h = get_or_append_left ls (x ∷ []) nothing i h

    agree : AgreeBelow ls (ls ++ x ∷ []) (length ls)
    agree = record { hash = λ i h. ap (λ k. k.hash) (other i h); previous = λ i h. ap (λ k. k.previous) (other i h) }

-- the last link is taken away
pub popped : (ls ks : List Link) (bs cs : List (Option ℕ)) (b : ℕ) (x : Link) → ls ≡ ks ++ x ∷ [] → AreLinked ls bs (length ls) → b ≡ x.hash % length bs → b < length bs → cs ≡ set bs b x.previous → AreLinked ks cs (length ks)
popped ls ks bs cs b x e l is b_in f =
    let n : length (ks ++ x ∷ []) ≡ suc (length ks) = omega (arith, length_push ks x) in
    let m : AreLinked (ks ++ x ∷ []) bs (suc (length ks)) = subst (λ n. AreLinked (ks ++ x ∷ []) bs n) n (subst (λ js. AreLinked js bs (length js)) e l) in
    let here : link_at (ks ++ x ∷ []) (length ks) ≡ x = get_or_push ks x nothing (length ks) refl in
    linked_same (ks ++ x ∷ []) ks cs (length ks) agree
    (linked_less (ks ++ x ∷ []) bs cs (length ks) b m (is ∙ ap (λ k. k.hash % length bs) (sym here)) b_in (f ∙ ap (λ k. set bs b k.previous) (sym here)))
  where
    other : (i : ℕ) → i < length ks → link_at ks i ≡ link_at (ks ++ x ∷ []) i
    other i h = sym (get_or_append_left ks (x ∷ []) nothing i h)

    agree : AgreeBelow (ks ++ x ∷ []) ks (length ks)
    agree = record { hash = λ i h. ap (λ k. k.hash) (other i h); previous = λ i h. ap (λ k. k.previous) (other i h) }

-- no link is chained yet
pub none_linked : (ls : List Link) (bs : List (Option ℕ)) → ((b : ℕ) → get_or bs b None ≡ None) → AreLinked ls bs 0
none_linked ls bs h = record { each = λ i k. absurd (let f : ⊥ = omega (arith, k) in f); ends = λ b k. h b }

-- ---- going back along a chain

same_numbers : (x y : ℕ) → nat_eq x y ≡ true → x ≡ y
same_numbers x y e = grind (arith, nat_tests)

pub record Walks (ls : List Link) (count below hash : ℕ) (at : Option ℕ) : Type 0 where
  pub bound : ℕ
  pub within : bound ≤ length ls
  pub at_is : at ≡ last_where (in_bucket ls count (hash % count)) bound
  pub same : last_where (has_hash ls hash) bound ≡ last_where (has_hash ls hash) below

abbrev pub height : Option ℕ → ℕ
height None = 0
height (Some n) = suc n

wider : (ls : List Link) (c h i : ℕ) → has_hash ls h i ≡ true → in_bucket ls c (h % c) i ≡ true
wider ls c h i e = ap (λ k. nat_eq (k % c) (h % c)) (eq _ _ e) ∙ eq_same (h % c)
  where
    eq : (x y : ℕ) → nat_eq x y ≡ true → x ≡ y
    eq x y e = grind (arith, nat_tests)

    eq_same : (z : ℕ) → nat_eq z z ≡ true
    eq_same z = grind (arith, nat_tests)

module _ (ls : List Link) (bs : List (Option ℕ)) (below hash place : ℕ) (linked : AreLinked ls bs (length ls)) (w : Walks ls (length bs) below hash (Some place)) where
  last : IsLast (in_bucket ls (length bs) (hash % length bs)) w.bound place
  last = is_last _ w.bound place (sym w.at_is)

  pub walk_in : place < length ls
  walk_in = let b = last.below in let h = w.within in omega (arith, b, h)

  down : last_where (has_hash ls hash) below ≡ last_where (has_hash ls hash) (suc place)
  down = sym w.same ∙ narrow (has_hash ls hash) (in_bucket ls (length bs) (hash % length bs)) w.bound place (λ i e. wider ls (length bs) hash i e) (sym w.at_is)

  module _ (link : Link) (is : link ≡ link_at ls place) where
    pub walk_here : link.hash ≡ hash → Some place ≡ last_where (has_hash ls hash) below
    walk_here e = sym (down ∙ last_is (has_hash ls hash) place (ap (λ k. nat_eq k.hash hash) (sym is) ∙ (ap (λ k. nat_eq k hash) e ∙ eq_same hash)))
      where
        eq_same : (z : ℕ) → nat_eq z z ≡ true
        eq_same z = grind (arith, nat_tests)

    pub walk_on : link.hash ≢ hash → Walks ls (length bs) below hash link.previous
    walk_on apart = record {
      bound = place;
      within = (let h = walk_in in omega (arith, h));
      at_is = ap (λ k. k.previous) is ∙ (linked.each place walk_in ∙ ap (λ k. last_where (in_bucket ls (length bs) k) place) bucket);
      same = sym (last_not (has_hash ls hash) place (ap (λ k. nat_eq k.hash hash) (sym is) ∙ not_here (nat_eq link.hash hash) refl)) ∙ sym down;
    }
      where
        not_here : (b : Bool) → nat_eq link.hash hash ≡ b → nat_eq link.hash hash ≡ false
        not_here true e = absurd (apart (same_numbers _ _ e))
        not_here false e = e

        bucket : (link_at ls place).hash % length bs ≡ hash % length bs
        bucket = same_numbers _ _ last.meets

    pub walk_less : height link.previous < suc place
    walk_less = by link.previous (ap (λ k. k.previous) is ∙ linked.each place walk_in)
      where
        by : (o : Option ℕ) → o ≡ last_where (in_bucket ls (length bs) ((link_at ls place).hash % length bs)) place → height o < suc place
        by None e = omega arith
        by (Some m) e = let h = (is_last _ place m (sym e)).below in omega (arith, h)

pub walk_end : (ls : List Link) (bs : List (Option ℕ)) (below hash : ℕ) → Walks ls (length bs) below hash None → None ≡ last_where (has_hash ls hash) below
walk_end ls bs below hash w = sym (sym w.same ∙ no_narrow (has_hash ls hash) (in_bucket ls (length bs) (hash % length bs)) w.bound (λ i e. wider ls (length bs) hash i e) (sym w.at_is))

pub walk_start : (ls : List Link) (bs : List (Option ℕ)) (below hash : ℕ) (at : Option ℕ) → below ≤ length ls → at ≡ last_where (in_bucket ls (length bs) (hash % length bs)) below → Walks ls (length bs) below hash at
walk_start ls bs below hash at h e = record { bound = below; within = h; at_is = e; same = refl }

-- the last link with a hash is the last place of the hash
pub last_seen : (ls : List Link) (hs : List ℕ) (h n : ℕ) → map (λ l. l.hash) ls ≡ hs → n ≤ length hs → last_where (has_hash ls h) n ≡ last_below hs h n
last_seen ls hs h n e within = last_same _ _ n (λ i k. ap (λ m. nat_eq m h) (at i k))
  where
    many : length ls ≡ length hs
    many = sym (length-map ls (λ l. l.hash)) ∙ ap length e

    at : (i : ℕ) → i < n → (link_at ls i).hash ≡ get_or hs i 0
    at i k = sym (get_or-map (λ l. l.hash) ls i nothing 0 (omega (arith, k, within, many))) ∙ ap (λ zs. get_or zs i 0) e
