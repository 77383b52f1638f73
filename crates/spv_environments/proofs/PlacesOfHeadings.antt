-- Places of headings under the numbers of their routines.
use Rattle.std.proofs.Common.{◌≡◌, ℕ, zero, suc, ◌+◌, ◌<◌, ◌≤◌, Bool, true, false, List, [], ◌∷◌, ◌++◌, length, drop, get_or, set, Option, Some, None, ◌⊎◌, inl, inr, ◌-◌, refl, sym, ap, ◌∙◌, subst, nat_eq, slice_get, arith}
use Rattle.std.proofs.lemmas.Bool.{false≢true, eqb-true, cases_lt}
use Rattle.std.proofs.lemmas.List.{length_push}
use Rattle.spv_logic.specs.declared.names.names.Symbol.{Symbol}
use Rattle.spv_logic.specs.declared.conditions.RoutineId.{RoutineId}
use Rattle.spv_program.specs.Lists.{item_at}
use Rattle.spv_typing.specs.Known as spec
use Rattle.spv_environments.specs.declared.routines.Heading.{Heading}
use Rattle.spv_environments.specs.IndexedHeadings.{AreNumbered, IsLonger}
use Rattle.spv_environments.specs.Numbered.{numbered}
use Rattle.spv_environments.specs.Views.{heading_of, headings_of}
use Rattle.spv_environments.proofs.NumberedHeadings.{number_first, number_other, number_past}

-- ---- what stands under a number

got_set_same : (xs : List (Option ℕ)) (n : ℕ) (y : Option ℕ) → n < length xs → get_or (set xs n y) n None ≡ y
got_set_same [] n y h = absurd (omega (arith, h))
got_set_same (x ∷ xs) zero y h = refl
got_set_same (x ∷ xs) (suc n) y h = got_set_same xs n y (omega (arith, h))

got_set_other : (xs : List (Option ℕ)) (n m : ℕ) (y : Option ℕ) → (n ≡ m → ⊥) → get_or (set xs n y) m None ≡ get_or xs m None
got_set_other [] n m y h = refl
got_set_other (x ∷ xs) zero zero y h = absurd (h refl)
got_set_other (x ∷ xs) zero (suc m) y h = refl
got_set_other (x ∷ xs) (suc n) zero y h = refl
got_set_other (x ∷ xs) (suc n) (suc m) y h = got_set_other xs n m y (λ e. h (ap suc e))

pub set_past : (xs : List (Option ℕ)) (n : ℕ) (y : Option ℕ) → length xs ≤ n → set xs n y ≡ xs
set_past [] n y h = refl
set_past (x ∷ xs) zero y h = absurd (omega (arith, h))
set_past (x ∷ xs) (suc n) y h = ap (λ (l : List (Option ℕ)). x ∷ l) (set_past xs n y (omega (arith, h)))

got_push : (xs : List (Option ℕ)) (i : ℕ) → get_or (xs ++ None ∷ []) i None ≡ get_or xs i None
got_push [] zero = refl
got_push [] (suc i) = refl
got_push (x ∷ xs) zero = refl
got_push (x ∷ xs) (suc i) = got_push xs i

not_both : (o : Option ℕ) (i : ℕ) → o ≡ None → o ≡ Some i → ⊥
not_both o i d e = cc

-- ---- more places

pub longer_begins : (old : List (Option ℕ)) → IsLonger old old (length old)
longer_begins old = record { same = λ i. refl; many_are = omega arith }

pub longer_one : (old now new : List (Option ℕ)) (n : ℕ) → IsLonger old now n → new ≡ now ++ None ∷ [] → IsLonger old new (suc n)
longer_one old now new n so_far put =
    subst (λ (l : List (Option ℕ)). IsLonger old l (suc n)) (sym put) (record {
      same = λ i. got_push now i ∙ so_far.same i;
      many_are = (let longer : length (now ++ None ∷ []) ≡ length now + 1 = length_push now None in
          let enough : n ≤ length now = so_far.many_are in omega (arith, longer, enough));
    })

pub longer_ends : (old new : List (Option ℕ)) (n many : ℕ) → many ≤ n → IsLonger old new n → IsLonger old new many
longer_ends old new n many past so_far = record { same = so_far.same; many_are = (let enough : n ≤ length new = so_far.many_are in omega (arith, past, enough)) }

-- ---- a heading more, and one less

item_front : {X : Type 0} (xs : List X) (y : X) (i : ℕ) (x : X) → item_at xs i ≡ Some x → item_at (xs ++ y ∷ []) i ≡ Some x
item_front [] y i x e = absurd cc
item_front (z ∷ xs) y zero x e = e
item_front (z ∷ xs) y (suc i) x e = item_front xs y i x e

item_last : {X : Type 0} (xs : List X) (y : X) → item_at (xs ++ y ∷ []) (length xs) ≡ Some y
item_last [] y = refl
item_last (x ∷ xs) y = item_last xs y

item_within : {X : Type 0} (xs : List X) (i : ℕ) (x : X) → item_at xs i ≡ Some x → i < length xs
item_within [] i x e = absurd cc
item_within (y ∷ xs) zero x e = omega arith
item_within (y ∷ xs) (suc i) x e = let later : i < length xs = item_within xs i x e in omega (arith, later)

of_grown : {X : Type 0} (xs : List X) (y : X) (i : ℕ) (x : X) (P : Type 0) → item_at (xs ++ y ∷ []) i ≡ Some x
    → (item_at xs i ≡ Some x → P) → (y ≡ x → i ≡ length xs → P) → P
of_grown [] y zero x P e front last = let same : y ≡ x = cc in last same refl
of_grown [] y (suc i) x P e front last = absurd cc
of_grown (z ∷ xs) y zero x P e front last = front e
of_grown (z ∷ xs) y (suc i) x P e front last = of_grown xs y i x P e front (λ same at. last same (ap suc at))

pub heading_put : (headings : List (Symbol × Heading)) (old longer new : List (Option ℕ)) (name : Symbol) (h : Heading) (many : ℕ) → AreNumbered headings old
    → IsLonger old longer many → h.number.0 < many → get_or longer h.number.0 None ≡ None → new ≡ set longer h.number.0 (Some (length headings))
    → AreNumbered (headings ++ (name, h) ∷ []) new
heading_put headings old longer new name h many so_far is_longer below free put =
    subst (AreNumbered (headings ++ (name, h) ∷ [])) (sym put) (record { each = λ i e at. of_grown headings (name, h) i e _ at (λ front. before i e front) (λ same here. behind i e same here) })
  where
    n : ℕ
    n = h.number.0

    within : n < length longer
    within = let enough : many ≤ length longer = is_longer.many_are in omega (arith, below, enough)

    before : (i : ℕ) (e : Symbol × Heading) → item_at headings i ≡ Some e → get_or (set longer n (Some (length headings))) e.1.number.0 None ≡ Some i
    before i e at =
        let stands : get_or longer e.1.number.0 None ≡ Some i = is_longer.same e.1.number.0 ∙ so_far.each i e at in
        got_set_other longer n e.1.number.0 (Some (length headings))
        (λ same. not_both (get_or longer n None) i free (ap (λ (m : ℕ). get_or longer m None) same ∙ stands))
        ∙ stands

    behind : (i : ℕ) (e : Symbol × Heading) → (name, h) ≡ e → i ≡ length headings → get_or (set longer n (Some (length headings))) e.1.number.0 None ≡ Some i
    behind i e same here =
        subst (λ (x : Symbol × Heading). get_or (set longer n (Some (length headings))) x.1.number.0 None ≡ Some i) same
        (got_set_same longer n (Some (length headings)) within ∙ ap Some (sym here))

pub heading_gone : (headings : List (Symbol × Heading)) (e : Symbol × Heading) (old new : List (Option ℕ)) → AreNumbered (headings ++ e ∷ []) old
    → new ≡ set old e.1.number.0 None → AreNumbered headings new
heading_gone headings e old new so_far put =
    subst (AreNumbered headings) (sym put) (record {
      each = λ i g at.
          got_set_other old e.1.number.0 g.1.number.0 None (λ same. differ i g at same) ∙ so_far.each i g (item_front headings e i g at);
    })
  where
    some_same : (o : Option ℕ) (i j : ℕ) → o ≡ Some i → o ≡ Some j → i ≡ j
    some_same o i j d e = cc

    differ : (i : ℕ) (g : Symbol × Heading) → item_at headings i ≡ Some g → e.1.number.0 ≡ g.1.number.0 → ⊥
    differ i g at same =
        let last : get_or old e.1.number.0 None ≡ Some (length headings) = so_far.each (length headings) e (item_last headings e) in
        let here : get_or old e.1.number.0 None ≡ Some i = ap (λ (m : ℕ). get_or old m None) same ∙ so_far.each i g (item_front headings e i g at) in
        let place : length headings ≡ i = some_same (get_or old e.1.number.0 None) (length headings) i last here in
        let inside : i < length headings = item_within headings i g at in
        omega (arith, place, inside)

-- ---- the headings of one number

got_item : (table : List (Symbol × Heading)) (i : ℕ) (e : Symbol × Heading) → slice_get table i ≡ Some e → item_at table i ≡ Some e
got_item [] i e h = absurd cc
got_item (f ∷ table) zero e h = h
got_item (f ∷ table) (suc i) e h = got_item table i e h

-- an entry of a table by its place
record EntryAt (table : List (Symbol × Heading)) (i : ℕ) : Type 0 where
  entry : Symbol × Heading
  is : slice_get table i ≡ Some entry

entry_at : (table : List (Symbol × Heading)) (i : ℕ) → i < length table → EntryAt table i
entry_at [] i h = absurd (omega (arith, h))
entry_at (e ∷ table) zero h = record { entry = e; is = refl }
entry_at (e ∷ table) (suc i) h = let later = entry_at table i (omega (arith, h)) in record { entry = later.entry; is = later.is }

module _ (number : RoutineId) (table : List (Symbol × Heading)) where
  abbrev pub all : List spec.Heading
  all = headings_of table

  -- the headings from a place on, up to another, have other numbers
  abbrev pub Others : ℕ → ℕ → Type 0
  Others from to = (i : ℕ) (e : Symbol × Heading) → slice_get table i ≡ Some e → from ≤ i → i < to → nat_eq e.1.number.0 number.0 ≡ false

  skip : (d from to : ℕ) → to ≡ from + d → to ≤ length table → Others from to → numbered number (drop from all) ≡ numbered number (drop to all)
  skip zero from to at within others = ap (λ (n : ℕ). numbered number (drop n all)) (sym (at ∙ none_more from))
    where
      none_more : (n : ℕ) → n + 0 ≡ n
      none_more n = omega arith
  skip (suc d) from to at within others =
      let e = entry_at table from (omega (arith, at, within)) in
      let differs : nat_eq e.entry.1.number.0 number.0 ≡ false = others from e.entry e.is (omega arith) (omega (arith, at)) in
      number_other number all table refl from e.entry.0 e.entry.1 e.is differs
      ∙ skip d (from + 1) to (omega (arith, at)) within (λ i g is past below. others i g is (omega (arith, past)) below)

  pub none_of_number : (from : ℕ) → Others from (length table) → numbered number (drop from all) ≡ []
  none_of_number from others = by_case (cases_lt from (length table))
    where
      count : (table : List (Symbol × Heading)) → length (headings_of table) ≡ length table
      count [] = refl
      count (e ∷ table) = ap suc (count table)

      past : (n : ℕ) → length table ≤ n → numbered number (drop n all) ≡ []
      past n h = number_past number all n (subst (λ m. m ≤ n) (sym (count table)) h)

      apart : (from to : ℕ) → from < to → to ≡ from + (to - from)
      apart from to h = omega (arith, h)

      by_case : (from < length table) ⊎ (length table ≤ from) → numbered number (drop from all) ≡ []
      by_case (inl h) = skip (length table - from) from (length table) (apart from (length table) h) (omega arith) others ∙ past (length table) (omega arith)
      by_case (inr h) = past from h

  module _ (places : List (Option ℕ)) (index : AreNumbered table places) where
    -- the place that is listed for an entry with this number
    listed : (i : ℕ) (e : Symbol × Heading) → slice_get table i ≡ Some e → nat_eq e.1.number.0 number.0 ≡ true → get_or places number.0 None ≡ Some i
    listed i e is same = ap (λ (n : ℕ). get_or places n None) (sym (eqb-true e.1.number.0 number.0 same)) ∙ index.each i e (got_item table i e is)

    differs_where : (i : ℕ) (e : Symbol × Heading) → slice_get table i ≡ Some e → (get_or places number.0 None ≡ Some i → ⊥) → nat_eq e.1.number.0 number.0 ≡ false
    differs_where i e is not_listed = by_case (nat_eq e.1.number.0 number.0) refl
      where
        by_case : (b : Bool) → nat_eq e.1.number.0 number.0 ≡ b → b ≡ false
        by_case false h = refl
        by_case true h = absurd (not_listed (listed i e is h))

    pub none_listed : (from : ℕ) → get_or places number.0 None ≡ None → numbered number (drop from all) ≡ []
    none_listed from none = none_of_number from (λ i e is past below. differs_where i e is (λ h. not_both (get_or places number.0 None) i none h))

    some_same : (o : Option ℕ) (i j : ℕ) → o ≡ Some i → o ≡ Some j → i ≡ j
    some_same o i j d e = cc

    pub listed_before : (from p : ℕ) → get_or places number.0 None ≡ Some p → p < from → numbered number (drop from all) ≡ []
    listed_before from p at before = none_of_number from (λ i e is past below. differs_where i e is (λ h. too_low i past (some_same (get_or places number.0 None) p i at h)))
      where
        too_low : (i : ℕ) → from ≤ i → p ≡ i → ⊥
        too_low i past same = omega (arith, past, same, before)

    pub listed_past : (from p : ℕ) → get_or places number.0 None ≡ Some p → length table ≤ p → numbered number (drop from all) ≡ []
    listed_past from p at over = none_of_number from (λ i e is past below. differs_where i e is (λ h. too_high i below (some_same (get_or places number.0 None) p i at h)))
      where
        too_high : (i : ℕ) → i < length table → p ≡ i → ⊥
        too_high i below same = omega (arith, below, same, over)

    pub listed_other : (from p : ℕ) (name : Symbol) (h : Heading) → get_or places number.0 None ≡ Some p → slice_get table p ≡ Some (name, h)
        → nat_eq h.number.0 number.0 ≡ false → numbered number (drop from all) ≡ []
    listed_other from p name h at stands other = none_of_number from (λ i e is past below. by_number i e is (nat_eq e.1.number.0 number.0) refl)
      where
        same_entry : (o : Option (Symbol × Heading)) (e : Symbol × Heading) → o ≡ Some (name, h) → o ≡ Some e → (name, h) ≡ e
        same_entry o e d f = cc

        by_number : (i : ℕ) (e : Symbol × Heading) → slice_get table i ≡ Some e → (b : Bool) → nat_eq e.1.number.0 number.0 ≡ b → b ≡ false
        by_number i e is false g = refl
        by_number i e is true g =
            let here : p ≡ i = some_same (get_or places number.0 None) p i at (listed i e is g) in
            let entry : (name, h) ≡ e = same_entry (slice_get table p) e stands (ap (slice_get table) here ∙ is) in
            absurd (false≢true (sym other ∙ (ap (λ (x : Symbol × Heading). nat_eq x.1.number.0 number.0) entry ∙ g)))

    pub listed_there : (from p : ℕ) (name : Symbol) (h : Heading) → get_or places number.0 None ≡ Some p → from ≤ p → slice_get table p ≡ Some (name, h)
        → p < length table → nat_eq h.number.0 number.0 ≡ true → numbered number (drop from all) ≡ heading_of name h ∷ numbered number (drop (p + 1) all)
    listed_there from p name h at behind stands within same =
        skip (p - from) from p (apart from p behind) (omega (arith, within)) (λ i e is past below. differs_where i e is (λ g. too_low i below (some_same (get_or places number.0 None) p i at g)))
        ∙ number_first number all table refl p name h stands same
      where
        apart : (from p : ℕ) → from ≤ p → p ≡ from + (p - from)
        apart from p h = omega (arith, h)

        too_low : (i : ℕ) → i < p → p ≡ i → ⊥
        too_low i below same = omega (arith, below, same)

pub got_past : (xs : List (Option ℕ)) (n : ℕ) → length xs ≤ n → get_or xs n None ≡ None
got_past [] n h = refl
got_past (x ∷ xs) zero h = absurd (omega (arith, h))
got_past (x ∷ xs) (suc n) h = got_past xs n (omega (arith, h))
