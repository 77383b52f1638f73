-- Which pointer types are one: as many rounds as there are types are enough.
use Rattle.std.proofs.Common.{arith, ◌≡◌, ℕ, zero, suc, ◌+◌, ◌<◌, ◌≤◌, ◌⊎◌, inl, inr, Bool, true, false, cond, List, [], ◌∷◌, length, Option, Some, None, nat_eq, refl, sym, ap, ◌∙◌, subst}
use Rattle.std.proofs.lemmas.Bool.{false≢true, eqb-true, eq-eqb}
use Rattle.spv_program.specs.Lists.{item_at}
use Rattle.spv_program.proofs.SortFacts.{nothing_there, some_is}
use Rattle.spv_typing.specs.Merging.{first_where, same_number, points_alike, first_alike, alike_from, numbers_from, firsts_after}
use Rattle.spv_type_soundness.proofs.well_typed_programs.Items.{none_below, less_or, last_or, item_there, item_past, first_where-same, FirstOf, first_where-found}

module _ (types : List (Option ℕ)) where
  -- whether a type is a pointer whose target is the same as this one, where the first of each kind so far is told
  abbrev pub leads_alike : (ℕ → ℕ) → ℕ → Option ℕ → Bool
  leads_alike first t None = false
  leads_alike first t (Some u) = nat_eq (first t) (first u)

  abbrev pub first_for : (ℕ → ℕ) → ℕ → Option (Option ℕ) → ℕ
  first_for first i None = i
  first_for first i (Some None) = i
  first_for first i (Some (Some t)) = first_where (leads_alike first t) types

  -- the first of a type's kind after some rounds
  abbrev pub first_at : ℕ → ℕ → ℕ
  first_at zero = λ i. i
  first_at (suc k) = λ i. first_for (first_at k) i (item_at types i)

  -- ---- the list tells the same

  numbers_at : (place : ℕ) (ts : List (Option ℕ)) (i : ℕ) → i < length ts → item_at (numbers_from place ts) i ≡ Some (place + i)
  numbers_at place [] i h = none_below i h
  numbers_at place (t ∷ ts) zero h = ap Some (zero_more place)
    where
      zero_more : (n : ℕ) → n ≡ n + 0
      zero_more n = omega arith
  numbers_at place (t ∷ ts) (suc i) h = numbers_at (suc place) ts i (one_less i (length ts) h) ∙ ap Some (moved place i)
    where
      one_less : (n m : ℕ) → suc n < suc m → n < m
      one_less n m h = omega arith

      moved : (n m : ℕ) → suc n + m ≡ n + suc m
      moved n m = omega arith

  alike_at : (known : List ℕ) (place : ℕ) (ts : List (Option ℕ)) (i : ℕ) (x : Option ℕ) → item_at ts i ≡ Some x
      → item_at (alike_from types known place ts) i ≡ Some (first_alike types known (place + i) x)
  alike_at known place [] i x e = absurd (nothing_there e)
  alike_at known place (t ∷ ts) zero x e =
      ap (λ y. Some (first_alike types known place y)) (some_is e) ∙ ap (λ n. Some (first_alike types known n x)) (zero_more place)
    where
      zero_more : (n : ℕ) → n ≡ n + 0
      zero_more n = omega arith
  alike_at known place (t ∷ ts) (suc i) x e =
      alike_at known (suc place) ts i x e ∙ ap (λ n. Some (first_alike types known n x)) (moved place i)
    where
      moved : (n m : ℕ) → suc n + m ≡ n + suc m
      moved n m = omega arith

  module _ (there : (i t : ℕ) → item_at types i ≡ Some (Some t) → t < length types) where
    same_tests : (k t : ℕ) → t < length types → ((i : ℕ) → i < length types → item_at (firsts_after k types) i ≡ Some (first_at k i))
        → (i : ℕ) (x : Option ℕ) → item_at types i ≡ Some x → points_alike (firsts_after k types) t x ≡ leads_alike (first_at k) t x
    same_tests k t h known i None e = refl
    same_tests k t h known i (Some u) e =
        ap (λ o. same_number o (item_at (firsts_after k types) u)) (known t h)
        ∙ ap (same_number (Some (first_at k t))) (known u (there i u e))

    alike_is : (k i : ℕ) (x : Option ℕ) → item_at types i ≡ Some x
        → ((i : ℕ) → i < length types → item_at (firsts_after k types) i ≡ Some (first_at k i))
        → first_alike types (firsts_after k types) i x ≡ first_for (first_at k) i (Some x)
    alike_is k i None e known = refl
    alike_is k i (Some t) e known =
        first_where-same (points_alike (firsts_after k types) t) (leads_alike (first_at k) t) types (same_tests k t (there i t e) known)

    pub first_told : (k i : ℕ) → i < length types → item_at (firsts_after k types) i ≡ Some (first_at k i)
    first_told zero i h = numbers_at 0 types i h ∙ ap Some (none_more i)
      where
        none_more : (n : ℕ) → 0 + n ≡ n
        none_more n = omega arith
    first_told (suc k) i h =
        let r = item_there types i h in
        alike_at (firsts_after k types) 0 types i r.item r.is
        ∙ (ap (λ n. Some (first_alike types (firsts_after k types) n r.item)) (none_more i)
        ∙ (ap Some (alike_is k i r.item r.is (first_told k)) ∙ ap (λ o. Some (first_for (first_at k) i o)) (sym r.is)))
      where
        none_more : (n : ℕ) → 0 + n ≡ n
        none_more n = omega arith

  -- ---- what a round keeps

  leads_itself : (k i t : ℕ) → item_at types i ≡ Some (Some t) → FirstOf (leads_alike (first_at k) t) types i
  leads_itself k i t e = first_where-found (leads_alike (first_at k) t) types i (Some t) e (eq-eqb (first_at k t) (first_at k t) refl)

  -- the first of a pointer's kind is a pointer whose target was the same
  pub record IsPointerAs (k i t : ℕ) : Type 0 where
    pub target : ℕ
    pub is : item_at types (first_at (suc k) i) ≡ Some (Some target)
    pub alike : first_at k t ≡ first_at k target

  first_is : (k i t : ℕ) → item_at types i ≡ Some (Some t) → first_at (suc k) i ≡ first_where (leads_alike (first_at k) t) types
  first_is k i t e = ap (first_for (first_at k) i) e

  pub pointer_first : (k i t : ℕ) → item_at types i ≡ Some (Some t) → IsPointerAs k i t
  pointer_first k i t e = let r = leads_itself k i t e in by_item r.item r.is r.passes
    where
      by_item : (x : Option ℕ) → item_at types (first_where (leads_alike (first_at k) t) types) ≡ Some x
          → leads_alike (first_at k) t x ≡ true → IsPointerAs k i t
      by_item None h p = absurd (false≢true p)
      by_item (Some u) h p = record {
        target = u;
        is = ap (item_at types) (first_is k i t e) ∙ h;
        alike =
            eqb-true (first_at k t) (first_at k u) p;
      }

  -- what is no pointer is the first of its kind
  pub plain_first : (k i : ℕ) (o : Option (Option ℕ)) → item_at types i ≡ o → ((t : ℕ) → o ≡ Some (Some t) → ⊥) → first_at k i ≡ i
  plain_first zero i o e h = refl
  plain_first (suc k) i None e h = ap (first_for (first_at k) i) e
  plain_first (suc k) i (Some None) e h = ap (first_for (first_at k) i) e
  plain_first (suc k) i (Some (Some t)) e h = absurd (h t refl)

  -- a type is a pointer or not
  by_kind : (i : ℕ) (o : Option (Option ℕ)) (P : Type 0) → item_at types i ≡ o → ((t : ℕ) → item_at types i ≡ Some (Some t) → P)
      → (((t : ℕ) → item_at types i ≡ Some (Some t) → ⊥) → P) → P
  by_kind i None P e pointer plain = plain (λ t h. nothing_there (sym e ∙ h))
  by_kind i (Some None) P e pointer plain = plain (λ t h. nothing_there (some_is (sym e ∙ h)))
  by_kind i (Some (Some t)) P e pointer plain = pointer t e

  pub first_early : (k i : ℕ) → first_at k i ≤ i
  first_early zero i = same i
    where
      same : (n : ℕ) → n ≤ n
      same n = omega arith
  first_early (suc k) i =
      by_kind i (item_at types i) (first_at (suc k) i ≤ i) refl
      (λ t e. subst (λ n. n ≤ i) (sym (first_is k i t e)) (leads_itself k i t e).early)
      (λ plain. subst (λ n. n ≤ i) (sym (plain_first (suc k) i (item_at types i) refl plain)) (same i))
    where
      same : (n : ℕ) → n ≤ n
      same n = omega arith

  -- two targets that were alike lead to one first
  pub alike_first : (k i j t u : ℕ) → item_at types i ≡ Some (Some t) → item_at types j ≡ Some (Some u) → first_at k t ≡ first_at k u
      → first_at (suc k) i ≡ first_at (suc k) j
  alike_first k i j t u e f h =
      first_is k i t e
      ∙ (first_where-same (leads_alike (first_at k) t) (leads_alike (first_at k) u) types (λ n x is. same_leads x) ∙ sym (first_is k j u f))
    where
      same_leads : (x : Option ℕ) → leads_alike (first_at k) t x ≡ leads_alike (first_at k) u x
      same_leads None = refl
      same_leads (Some w) = ap (λ n. nat_eq n (first_at k w)) h

  pub first_twice : (k i : ℕ) → first_at k (first_at k i) ≡ first_at k i
  first_twice zero i = refl
  first_twice (suc k) i =
      by_kind i (item_at types i) (first_at (suc k) (first_at (suc k) i) ≡ first_at (suc k) i) refl
      (λ t e. let r = pointer_first k i t e in alike_first k (first_at (suc k) i) i r.target t r.is e (sym r.alike))
      (λ plain. ap (first_at (suc k)) (plain_first (suc k) i (item_at types i) refl plain))

  -- two types of one kind stay so: both are one type, or pointers whose targets were alike
  pub same_kind : (k i j : ℕ) (P : Type 0) → first_at (suc k) i ≡ first_at (suc k) j → (i ≡ j → P)
      → ((t u : ℕ) → item_at types i ≡ Some (Some t) → item_at types j ≡ Some (Some u) → first_at k t ≡ first_at k u → P) → P
  same_kind k i j P h one two =
      by_kind i (item_at types i) P refl
      (λ t e. by_kind j (item_at types j) P refl
      (λ u f.
      let r = pointer_first k i t e in
      let s = pointer_first k j u f in
      let same : r.target ≡ s.target = some_is (some_is (sym r.is ∙ (ap (item_at types) h ∙ s.is))) in
      two t u e f (r.alike ∙ (ap (first_at k) same ∙ sym s.alike)))
      (λ plain. let r = pointer_first k i t e in
      absurd (plain r.target (ap (item_at types) (sym (h ∙ plain_first (suc k) j (item_at types j) refl plain)) ∙ r.is))))
      (λ plain. by_kind j (item_at types j) P refl
      (λ u f. let s = pointer_first k j u f in
      absurd (plain s.target (ap (item_at types) (sym (sym h ∙ plain_first (suc k) i (item_at types i) refl plain)) ∙ s.is)))
      (λ other. one (sym (plain_first (suc k) i (item_at types i) refl plain) ∙ (h ∙ plain_first (suc k) j (item_at types j) refl other))))

  pub coarser : (k i j : ℕ) → first_at k i ≡ first_at k j → first_at (suc k) i ≡ first_at (suc k) j
  coarser zero i j h = ap (first_at 1) h
  coarser (suc k) i j h =
      same_kind k i j (first_at (suc (suc k)) i ≡ first_at (suc (suc k)) j) h (λ e. ap (first_at (suc (suc k))) e)
      (λ t u e f same. alike_first (suc k) i j t u e f (coarser k t u same))

  -- ---- enough rounds

  pub record IsStable (k : ℕ) : Type 0 where
    pub stable : (i : ℕ) → first_at (suc k) i ≡ first_at k i

  stays : (k : ℕ) → IsStable k → IsStable (suc k)
  stays k s = record {
    stable = λ i.
        by_kind i (item_at types i) (first_at (suc (suc k)) i ≡ first_at (suc k) i) refl (pointer i) (plain i);
  }
    where
      pointer : (i t : ℕ) → item_at types i ≡ Some (Some t) → first_at (suc (suc k)) i ≡ first_at (suc k) i
      pointer i t e = first_is (suc k) i t e
          ∙ (first_where-same (leads_alike (first_at (suc k)) t) (leads_alike (first_at k) t) types (λ n x is. same_leads t x)
          ∙ sym (first_is k i t e))
        where
          same_leads : (t : ℕ) (x : Option ℕ) → leads_alike (first_at (suc k)) t x ≡ leads_alike (first_at k) t x
          same_leads t None = refl
          same_leads t (Some w) = ap (λ n. nat_eq n (first_at (suc k) w)) (s.stable t) ∙ ap (nat_eq (first_at k t)) (s.stable w)

      plain : (i : ℕ) → ((t : ℕ) → item_at types i ≡ Some (Some t) → ⊥) → first_at (suc (suc k)) i ≡ first_at (suc k) i
      plain i h = plain_first (suc (suc k)) i (item_at types i) refl h ∙ sym (plain_first (suc k) i (item_at types i) refl h)

  abbrev leads_kind : ℕ → ℕ → Bool
  leads_kind k i = nat_eq (first_at k i) i

  -- how many of the first types lead their kinds
  abbrev kinds : ℕ → ℕ → ℕ
  kinds k zero = 0
  kinds k (suc b) = cond (leads_kind k b) (suc (kinds k b)) (kinds k b)

  led_before : (k i : ℕ) → leads_kind (suc k) i ≡ true → leads_kind k i ≡ true
  led_before k i h =
      let later : first_at (suc k) i ≡ i = eqb-true (first_at (suc k) i) i h in
      let back : first_at (suc k) (first_at k i) ≡ first_at (suc k) i = coarser k (first_at k i) i (first_twice k i) in
      let one = first_early (suc k) (first_at k i) in
      let two = first_early k i in
      eq-eqb (first_at k i) i (between (first_at k i) i (first_at (suc k) (first_at k i)) one two (back ∙ later))
    where
      between : (a b c : ℕ) → c ≤ a → a ≤ b → c ≡ b → a ≡ b
      between a b c h g e = omega arith

  kinds_next : (k b : ℕ) (x : Bool) → leads_kind k b ≡ x → kinds k (suc b) ≡ cond x (suc (kinds k b)) (kinds k b)
  kinds_next k b x e = ap (λ y. cond y (suc (kinds k b)) (kinds k b)) e

  not_both : (k b : ℕ) → leads_kind k b ≡ false → leads_kind (suc k) b ≡ true → ⊥
  not_both k b e f = false≢true (sym e ∙ led_before k b f)

  fewer : (k b : ℕ) → kinds (suc k) b ≤ kinds k b
  fewer k zero = none 0
    where
      none : (n : ℕ) → n ≤ n
      none n = omega arith
  fewer k (suc b) = by_last (leads_kind k b) (leads_kind (suc k) b) refl refl (fewer k b)
    where
      less : (a b c d : ℕ) → a ≡ c → b ≡ d → c ≤ d → a ≤ b
      less a b c d e f h = omega arith

      one_more : (a b : ℕ) → a ≤ b → suc a ≤ suc b
      one_more a b h = omega arith

      one_ahead : (a b : ℕ) → a ≤ b → a ≤ suc b
      one_ahead a b h = omega arith

      by_last : (x y : Bool) → leads_kind k b ≡ x → leads_kind (suc k) b ≡ y → kinds (suc k) b ≤ kinds k b
          → kinds (suc k) (suc b) ≤ kinds k (suc b)
      by_last true true e f h = less _ _ _ _ (kinds_next (suc k) b true f) (kinds_next k b true e) (one_more _ _ h)
      by_last true false e f h = less _ _ _ _ (kinds_next (suc k) b false f) (kinds_next k b true e) (one_ahead _ _ h)
      by_last false true e f h = absurd (not_both k b e f)
      by_last false false e f h = less _ _ _ _ (kinds_next (suc k) b false f) (kinds_next k b false e) h

  -- the first types that led their kinds still do
  record StillLead (k b : ℕ) : Type 0 where
    lead : (i : ℕ) → i < b → leads_kind k i ≡ true → leads_kind (suc k) i ≡ true

  -- a round loses a kind, or the first types lead theirs as before
  counted : (k b : ℕ) → StillLead k b ⊎ (kinds (suc k) b < kinds k b)
  counted k zero = inl (record { lead = λ i h. none_below i h })
  counted k (suc b) = by_last (leads_kind k b) (leads_kind (suc k) b) refl refl (counted k b)
    where
      less : (a b c d : ℕ) → a ≡ c → b ≡ d → c < d → a < b
      less a b c d e f h = omega arith

      one_more : (a b : ℕ) → a < b → suc a < suc b
      one_more a b h = omega arith

      one_ahead : (a b : ℕ) → a ≤ b → a < suc b
      one_ahead a b h = omega arith

      on_last : (y : Bool) → leads_kind (suc k) b ≡ true → StillLead k b → StillLead k (suc b)
      on_last y f g = record { lead = λ i h e. by_place i e (last_or i b h) }
        where
          by_place : (i : ℕ) → leads_kind k i ≡ true → (i < b) ⊎ (i ≡ b) → leads_kind (suc k) i ≡ true
          by_place i e (inl h) = g.lead i h e
          by_place i e (inr h) = subst (λ n. leads_kind (suc k) n ≡ true) (sym h) f

      off_last : leads_kind k b ≡ false → StillLead k b → StillLead k (suc b)
      off_last f g = record { lead = λ i h e. by_place i e (last_or i b h) }
        where
          by_place : (i : ℕ) → leads_kind k i ≡ true → (i < b) ⊎ (i ≡ b) → leads_kind (suc k) i ≡ true
          by_place i e (inl h) = g.lead i h e
          by_place i e (inr h) = absurd (false≢true (sym f ∙ subst (λ n. leads_kind k n ≡ true) h e))

      by_last : (x y : Bool) → leads_kind k b ≡ x → leads_kind (suc k) b ≡ y → StillLead k b ⊎ (kinds (suc k) b < kinds k b)
          → StillLead k (suc b) ⊎ (kinds (suc k) (suc b) < kinds k (suc b))
      by_last true true e f (inl g) = inl (on_last true f g)
      by_last true true e f (inr h) = inr (less _ _ _ _ (kinds_next (suc k) b true f) (kinds_next k b true e) (one_more _ _ h))
      by_last true false e f r = inr (less _ _ _ _ (kinds_next (suc k) b false f) (kinds_next k b true e) (one_ahead _ _ (fewer k b)))
      by_last false true e f r = absurd (not_both k b e f)
      by_last false false e f (inl g) = inl (off_last e g)
      by_last false false e f (inr h) = inr (less _ _ _ _ (kinds_next (suc k) b false f) (kinds_next k b false e) h)

  -- what lies past the types is alone
  past : (k i : ℕ) → length types ≤ i → first_at k i ≡ i
  past k i h = plain_first k i None (item_past types i h) (λ t e. nothing_there e)

  stable_now : (k : ℕ) → StillLead k (length types) → IsStable k
  stable_now k g = record { stable = λ i. by_place i (less_or i (length types)) }
    where
      lower : (a i n : ℕ) → a ≤ i → i < n → a < n
      lower a i n h g = omega arith

      by_place : (i : ℕ) → (i < length types) ⊎ (length types ≤ i) → first_at (suc k) i ≡ first_at k i
      by_place i (inl h) =
          let f = first_at k i in
          let leads = eqb-true (first_at (suc k) f) f
          (g.lead f (lower f i (length types) (first_early k i) h) (eq-eqb (first_at k f) f (first_twice k i))) in
          coarser k i f (sym (first_twice k i)) ∙ leads
      by_place i (inr h) = past (suc k) i h ∙ sym (past k i h)

  all_lead : (b : ℕ) → kinds 0 b ≡ b
  all_lead zero = refl
  all_lead (suc b) = kinds_next 0 b true (eq-eqb b b refl) ∙ ap suc (all_lead b)

  one_leads : (k b : ℕ) → 1 ≤ kinds k (suc b)
  one_leads k zero = one_is (kinds k 1) (kinds_next k 0 true (eq-eqb (first_at k 0) 0 (none_less (first_at k 0) (first_early k 0))))
    where
      none_less : (n : ℕ) → n ≤ 0 → n ≡ 0
      none_less n h = omega arith

      one_is : (n : ℕ) → n ≡ 1 → 1 ≤ n
      one_is n e = omega arith
  one_leads k (suc b) = by_last (leads_kind k (suc b)) refl (one_leads k b)
    where
      more : (n m : ℕ) → n ≡ suc m → 1 ≤ m → 1 ≤ n
      more n m e h = omega arith

      same : (n m : ℕ) → n ≡ m → 1 ≤ m → 1 ≤ n
      same n m e h = omega arith

      by_last : (x : Bool) → leads_kind k (suc b) ≡ x → 1 ≤ kinds k (suc b) → 1 ≤ kinds k (suc (suc b))
      by_last true e h = more _ _ (kinds_next k (suc b) true e) h
      by_last false e h = same _ _ (kinds_next k (suc b) false e) h

  progress : (k : ℕ) → IsStable k ⊎ (kinds k (length types) + k ≤ length types)
  progress zero = inr (at_start (kinds 0 (length types)) (length types) (all_lead (length types)))
    where
      at_start : (a n : ℕ) → a ≡ n → a + 0 ≤ n
      at_start a n e = omega arith
  progress (suc k) = by_before (progress k) (counted k (length types))
    where
      one_less : (a b k n : ℕ) → a < b → b + k ≤ n → a + suc k ≤ n
      one_less a b k n h g = omega arith

      by_before : IsStable k ⊎ (kinds k (length types) + k ≤ length types) → StillLead k (length types)
          ⊎ (kinds (suc k) (length types) < kinds k (length types)) → IsStable (suc k)
          ⊎ (kinds (suc k) (length types) + suc k ≤ length types)
      by_before (inl s) r = inl (stays k s)
      by_before (inr h) (inl g) = inl (stays k (stable_now k g))
      by_before (inr h) (inr less) = inr (one_less _ _ k _ less h)

  pub enough : IsStable (length types)
  enough = by_progress (length types) refl (progress (length types))
    where
      too_many : (a m : ℕ) → 1 ≤ a → a + suc m ≤ suc m → ⊥
      too_many a m h g = omega arith

      none_less : (n i : ℕ) → n ≡ 0 → n ≤ i
      none_less n i e = omega arith

      by_progress : (n : ℕ) → length types ≡ n → IsStable n ⊎ (kinds n n + n ≤ n) → IsStable n
      by_progress n e (inl s) = s
      by_progress zero e (inr h) = record
          { stable = λ i. past 1 i (none_less (length types) i e) ∙ sym (past 0 i (none_less (length types) i e)) }
      by_progress (suc m) e (inr h) = absurd (too_many (kinds (suc m) (suc m)) m (one_leads (suc m) m) h)

  -- ---- the kinds of types, when all rounds are done

  abbrev pub first : ℕ → ℕ
  first i = first_at (length types) i

  pub record IsFirstPointer (i t : ℕ) : Type 0 where
    pub target : ℕ
    pub is : item_at types (first i) ≡ Some (Some target)
    pub alike : first t ≡ first target

  -- pointers whose targets are of one kind are of one kind
  pub targets_decide : (i j t u : ℕ) → item_at types i ≡ Some (Some t) → item_at types j ≡ Some (Some u) → first t ≡ first u
      → first i ≡ first j
  targets_decide i j t u e f h =
      sym (enough.stable i) ∙ (alike_first (length types) i j t u e f h ∙ enough.stable j)

  -- the first of a pointer's kind is a pointer to something of one kind with its target
  pub first_pointer : (i t : ℕ) → item_at types i ≡ Some (Some t) → IsFirstPointer i t
  first_pointer i t e =
      let r = pointer_first (length types) i t e in
      record { target = r.target; is = ap (item_at types) (sym (enough.stable i)) ∙ r.is; alike = r.alike }
