-- When equal pointer types are put together, the types are built of types with smaller numbers again, and types that were so
-- already keep their numbers.
use Rattle.std.proofs.Common.{arith, ◌≡◌, ℕ, zero, suc, ◌+◌, ◌<◌, ◌≤◌, ◌⊎◌, inl, inr, Bool, true, false, List, [], ◌∷◌, map, length, Option, Some, None, option_map, ℤ, refl, sym, ap, ◌∙◌, subst}
use Rattle.std.proofs.lemmas.Bool.{false≢true}
use Rattle.std.proofs.lemmas.List.{length-map}
use Rattle.spv_logic.specs.declared.names.names.Symbol.{Symbol}
use Rattle.spv_logic.specs.declared.types.TypeId.{TypeId}
use Rattle.spv_program.specs.declared.types.TypeField.{TypeField}
use Rattle.spv_program.specs.declared.types.TypeForm.{TypeForm}
use Rattle.spv_program.specs.declared.types.TypeForm.TheVariants.{Integer, Boolean, Range, Pointer, Array, Record}
use Rattle.spv_program.specs.Lists.{item_at, found, names_differ}
use Rattle.spv_program.specs.Types.{form_at}
use Rattle.spv_program.specs.Types as program
use Rattle.spv_program.proofs.SortFacts.{nothing_there, some_is}
use Rattle.spv_typing.specs.Merging.{Written, Built, PointerTo, target_number, firsts, kinds_before, number_or, renumbered, form_with, target_or_first, form_of, forms_from}
use Rattle.spv_typing.specs.TypeWalk.{is_range}
use Rattle.spv_type_soundness.proofs.well_typed_programs.Items.{less_or, item_there, item_within, item_map, item_mapped, form_of_item, Begins, begins}
use Rattle.spv_type_soundness.proofs.well_typed_programs.Firsts.{first_at, first_told, pointer_first, plain_first, first_early, first_twice, first, targets_decide}
use Rattle.spv_type_soundness.proofs.well_typed_programs.Numbers.{kinds_less, kinds_same, form_at_new, source_of}
use Rattle.spv_type_soundness.proofs.well_typed_programs.RightForms.{FieldsBelow, Fits, integer_fits, boolean_fits, range_fits, pointer_fits, array_fits, record_fits, ranges_of, GoodForms}

pub same_id : (t u : TypeId) → t.0 ≡ u.0 → t ≡ u
same_id t u e = λ i. record { 0 = e i }

-- a type as it is written, with this number among n of them
pub data FitsWritten (names : List (Symbol × TypeId)) (n : ℕ) (ranges : ℕ → Bool) (i : ℕ) : Written → Type 0 where
  built_fits : (f : TypeForm) → Fits n ranges i f → FitsWritten names n ranges i (Built f)
  named_fits : (x : Symbol) (t : TypeId) → found names x ≡ Some t → t.0 < n → FitsWritten names n ranges i (PointerTo x)

abbrev pub ranges_in : List Written → ℕ → Bool
ranges_in written i = is_range (item_at written i)

pub record GoodWritten (names : List (Symbol × TypeId)) (written : List Written) : Type 0 where
  pub fits : (i : ℕ) (w : Written) → item_at written i ≡ Some w → FitsWritten names (length written) (ranges_in written) i w

abbrev is_pointer : TypeForm → Bool
is_pointer (Pointer t) = true
is_pointer _ = false

abbrev target_in : TypeId → TypeForm → TypeId
target_in other (Pointer t) = t
target_in other _ = other

abbrev record_field : Symbol → TypeId → TypeField
record_field x t = record { name = x; of = t }

abbrev moved_field : (TypeId → TypeId) → TypeField → TypeField
moved_field new f = record { name = f.name; of = new f.of }

record IsRange (o : Option Written) : Type 0 where
  low : ℤ
  high : ℤ
  is : o ≡ Some (Built (Range low high))

module _ (names : List (Symbol × TypeId)) (written : List Written) (good : GoodWritten names written) where
  abbrev targets : List (Option ℕ)
  targets = map (target_number names) written

  abbrev same : List ℕ
  same = firsts targets

  abbrev new : TypeId → TypeId
  new = renumbered same

  abbrev result : List TypeForm
  result = forms_from names new 0 same written

  many : length targets ≡ length written
  many = length-map written (target_number names)

  as_targets : (i : ℕ) → i < length written → i < length targets
  as_targets i h = subst (λ n. i < n) (sym many) h

  -- ---- targets

  target_below : (i t : ℕ) (w : Written) → FitsWritten names (length written) (ranges_in written) i w → target_number names w ≡ Some t
      → t < length written
  target_below i t w (built_fits f integer_fits) e = absurd (nothing_there e)
  target_below i t w (built_fits f boolean_fits) e = absurd (nothing_there e)
  target_below i t w (built_fits f (range_fits low high k)) e = absurd (nothing_there e)
  target_below i t w (built_fits f (pointer_fits u k)) e = subst (λ n. n < length written) (some_is e) k
  target_below i t w (built_fits f (array_fits index element j k r)) e = absurd (nothing_there e)
  target_below i t w (built_fits f (record_fits fields b d)) e = absurd (nothing_there e)
  target_below i t w (named_fits x u k h) e =
      subst (λ n. n < length written) (some_is (sym (ap (option_map (λ (v : TypeId). v.0)) k) ∙ e)) h

  there : (i t : ℕ) → item_at targets i ≡ Some (Some t) → t < length targets
  there i t e =
      let r = item_mapped (target_number names) written i (Some t) e in
      as_targets t (target_below i t r.item (good.fits i r.item r.at) r.is)

  -- ---- the first of a kind

  abbrev lead : ℕ → ℕ
  lead i = first targets i

  lead_told : (i : ℕ) → i < length written → item_at same i ≡ Some (lead i)
  lead_told i h = first_told targets there (length targets) i (as_targets i h)

  lead_early : (i : ℕ) → lead i ≤ i
  lead_early i = first_early targets (length targets) i

  lower : (a b c : ℕ) → a ≤ b → b < c → a < c
  lower a b c h g = omega arith

  lead_below : (i : ℕ) → i < length written → lead i < length written
  lead_below i h = lower (lead i) i (length written) (lead_early i) h

  zero_more : (n : ℕ) → n ≡ 0 + n
  zero_more n = omega arith

  -- one that leads its kind
  leads : (i : ℕ) → i < length written → lead i ≡ i → item_at same i ≡ Some (0 + i)
  leads i h e = lead_told i h ∙ ap Some (e ∙ zero_more i)

  lead_leads : (i : ℕ) → i < length written → item_at same (lead i) ≡ Some (0 + lead i)
  lead_leads i h = leads (lead i) (lead_below i h) (first_twice targets (length targets) i)

  leader : (i : ℕ) → i < length written → item_at same i ≡ Some (0 + i) → lead i ≡ i
  leader i h e = some_is (sym (lead_told i h) ∙ e) ∙ sym (zero_more i)

  -- ---- new numbers

  abbrev number : ℕ → ℕ
  number i = kinds_before (lead i) 0 same

  new_is : (t : TypeId) → t.0 < length written → (new t).0 ≡ number t.0
  new_is t h = ap (λ o. kinds_before (number_or t.0 o) 0 same) (lead_told t.0 h)

  -- the form at a new number
  record NewForm (i : ℕ) : Type 0 where
    from : Written
    at : item_at written (lead i) ≡ Some from
    is : item_at result (number i) ≡ Some (form_with new (form_of names from))

  new_form : (i : ℕ) → i < length written → NewForm i
  new_form i h =
      let r = item_there written (lead i) (lead_below i h) in
      record { from = r.item; at = r.is; is = form_at_new names new (lead i) 0 same written r.item (lead_leads i h) r.is }

  number_below : (i : ℕ) → i < length written → number i < length result
  number_below i h = let r = new_form i h in item_within result (number i) (form_with new (form_of names r.from)) r.is

  pub new_below : (t : TypeId) → t.0 < length written → (new t).0 < length result
  new_below t h = subst (λ n. n < length result) (sym (new_is t h)) (number_below t.0 h)

  number_less : (u i : ℕ) → u < i → i < length written → lead i ≡ i → number u < number i
  number_less u i h g e =
      subst (λ n. number u < kinds_before n 0 same) (sym e)
      (kinds_less (lead u) i 0 same (lower (lead u) u i (lead_early u) h) (lead_leads u (both u i (length written) h g)))
    where
      both : (a b c : ℕ) → a < b → b < c → a < c
      both a b c h g = omega arith

  number_same : (i j : ℕ) → i < length written → j < length written → number i ≡ number j → lead i ≡ lead j
  number_same i j h g e = by_place (less_or (lead i) (lead j)) (less_or (lead j) (lead i))
    where
      not_less : (a b : ℕ) → a < b → a ≡ b → ⊥
      not_less a b h e = omega arith

      equal : (a b : ℕ) → b ≤ a → a ≤ b → a ≡ b
      equal a b h g = omega arith

      by_place : (lead i < lead j) ⊎ (lead j ≤ lead i) → (lead j < lead i) ⊎ (lead i ≤ lead j) → lead i ≡ lead j
      by_place (inl k) r = absurd (not_less (number i) (number j) (kinds_less (lead i) (lead j) 0 same k (lead_leads i h)) e)
      by_place (inr k) (inl l) = absurd (not_less (number j) (number i) (kinds_less (lead j) (lead i) 0 same l (lead_leads j g)) (sym e))
      by_place (inr k) (inr l) = equal (lead i) (lead j) k l

  -- ---- the new forms

  range_told : (o : Option Written) → is_range o ≡ true → IsRange o
  range_told None h = absurd (false≢true h)
  range_told (Some (PointerTo x)) h = absurd (false≢true h)
  range_told (Some (Built (Range low high))) h = record { low = low; high = high; is = refl }
  range_told (Some (Built Integer)) h = absurd (false≢true h)
  range_told (Some (Built Boolean)) h = absurd (false≢true h)
  range_told (Some (Built (Pointer t))) h = absurd (false≢true h)
  range_told (Some (Built (Array index element))) h = absurd (false≢true h)
  range_told (Some (Built (Record fields))) h = absurd (false≢true h)

  pub range_kept : (t : TypeId) → t.0 < length written → ranges_in written t.0 ≡ true → ranges_of result (new t).0 ≡ true
  range_kept t h e =
      let r = range_told (item_at written t.0) e in
      let plain = item_map (target_number names) written t.0 (Built (Range r.low r.high)) r.is in
      let alone : lead t.0 ≡ t.0 = plain_first targets (length targets) t.0 (Some None) plain (λ u k. nothing_there (some_is k)) in
      let f = new_form t.0 h in
      let same_from : Built (Range r.low r.high) ≡ f.from = some_is (sym r.is ∙ (ap (item_at written) (sym alone) ∙ f.at)) in
      ap (λ n. program.is_range (form_at result n)) (new_is t h)
      ∙ (ap program.is_range (form_of_item result (number t.0) (form_with new (form_of names f.from)) f.is)
      ∙ ap (λ w. program.is_range (form_with new (form_of names w))) (sym same_from))

  renamed : (fields : List TypeField)
      → map (λ (f : TypeField). f.name) (map (λ (f : TypeField). moved_field new f) fields) ≡ map (λ (f : TypeField). f.name) fields
  renamed [] = refl
  renamed (f ∷ fields) = ap (λ l. f.name ∷ l) (renamed fields)

  deeper : (a b c : ℕ) → a < b → b < c → a < c
  deeper a b c h g = omega arith

  form_fits : (i : ℕ) (f : TypeForm) → i < length written → lead i ≡ i → Fits (length written) (ranges_in written) i f
      → Fits (length result) (ranges_of result) (number i) (form_with new f)
  form_fits i f h e integer_fits = integer_fits
  form_fits i f h e boolean_fits = boolean_fits
  form_fits i f h e (range_fits low high k) = range_fits low high k
  form_fits i f h e (pointer_fits t k) = pointer_fits (new t) (new_below t k)
  form_fits i f h e (array_fits index element j k r) =
      let one = deeper index.0 i (length written) j h in
      let two = deeper element.0 i (length written) k h in
      array_fits (new index) (new element) (subst (λ n. n < number i) (sym (new_is index one)) (number_less index.0 i j h e))
      (subst (λ n. n < number i) (sym (new_is element two)) (number_less element.0 i k h e)) (range_kept index one r)
  form_fits i f h e (record_fits fields b d) =
      record_fits (map (λ (g : TypeField). moved_field new g) fields)
      (record {
        each = λ k g is.
            let r = item_mapped (λ (q : TypeField). moved_field new q) fields k g is in
            let low = b.each k r.item r.at in
            subst (λ (q : TypeField). q.of.0 < number i) r.is
            (subst (λ n. n < number i) (sym (new_is r.item.of (deeper r.item.of.0 i (length written) low h)))
            (number_less r.item.of.0 i low h e));
      })
      (ap names_differ (renamed fields) ∙ d)

  written_fits : (i : ℕ) (w : Written) → i < length written → lead i ≡ i → FitsWritten names (length written) (ranges_in written) i w
      → Fits (length result) (ranges_of result) (number i) (form_with new (form_of names w))
  written_fits i w h e (built_fits f k) = form_fits i f h e k
  written_fits i w h e (named_fits x t k l) =
      subst (λ o. Fits (length result) (ranges_of result) (number i) (Pointer (new (target_or_first o)))) (sym k)
      (pointer_fits (new t) (new_below t l))

  -- a type whose form is a pointer in the end was one
  record WasPointer (w : Written) (a : TypeId) : Type 0 where
    target : TypeId
    is : target_number names w ≡ Some target.0
    new_target : new target ≡ a

  was_pointer : (i : ℕ) (w : Written) (a : TypeId) → FitsWritten names (length written) (ranges_in written) i w
      → form_with new (form_of names w) ≡ Pointer a → WasPointer w a
  was_pointer i w a (built_fits f integer_fits) e = absurd (false≢true (ap is_pointer e))
  was_pointer i w a (built_fits f boolean_fits) e = absurd (false≢true (ap is_pointer e))
  was_pointer i w a (built_fits f (range_fits low high k)) e = absurd (false≢true (ap is_pointer e))
  was_pointer i w a (built_fits f (pointer_fits t k)) e = record { target = t; is = refl; new_target = ap (target_in a) e }
  was_pointer i w a (built_fits f (array_fits index element j k r)) e = absurd (false≢true (ap is_pointer e))
  was_pointer i w a (built_fits f (record_fits fields b d)) e = absurd (false≢true (ap is_pointer e))
  was_pointer i w a (named_fits x t k h) e = record {
    target = t;
    is = ap (option_map (λ (v : TypeId). v.0)) k;
    new_target = ap (λ o. new (target_or_first o)) (sym k) ∙ ap (target_in a) e;
  }

  pub merged_good : GoodForms result
  merged_good = record {
    fits = λ j g e.
        let r = source_of names new 0 same written j g e in
        let within = item_within written r.old r.written r.at in
        let alone = leader r.old within r.leads in
        let is : number r.old ≡ j = ap (λ n. kinds_before n 0 same) alone ∙ r.number in
        subst (λ n. Fits (length result) (ranges_of result) n g) is
        (subst (Fits (length result) (ranges_of result) (number r.old)) r.form
        (written_fits r.old r.written within alone (good.fits r.old r.written r.at)));
    settled = λ j k a e f.
        let r = source_of names new 0 same written j (Pointer a) e in
        let s = source_of names new 0 same written k (Pointer a) f in
        let one = was_pointer r.old r.written a (good.fits r.old r.written r.at) r.form in
        let two = was_pointer s.old s.written a (good.fits s.old s.written s.at) s.form in
        let there_one = target_below r.old one.target.0 r.written (good.fits r.old r.written r.at) one.is in
        let there_two = target_below s.old two.target.0 s.written (good.fits s.old s.written s.at) two.is in
        let numbers : number one.target.0 ≡ number two.target.0 =
        sym (new_is one.target there_one)
        ∙ (ap (λ (t : TypeId). t.0) (one.new_target ∙ sym two.new_target) ∙ new_is two.target there_two) in
        let kinds = number_same one.target.0 two.target.0 there_one there_two numbers in
        let firsts_same = targets_decide targets r.old s.old one.target.0 two.target.0
        (item_map (target_number names) written r.old r.written r.at ∙ ap Some one.is)
        (item_map (target_number names) written s.old s.written s.at ∙ ap Some two.is) kinds in
        let old_same : r.old ≡ s.old =
        sym (leader r.old (item_within written r.old r.written r.at) r.leads)
        ∙ (firsts_same ∙ leader s.old (item_within written s.old s.written s.at) s.leads) in
        sym r.number ∙ (ap (λ n. kinds_before n 0 same) old_same ∙ s.number);
  }

  -- ---- types that were there before

  module _ (before : List TypeForm) (right : GoodForms before)
      (front : (i : ℕ) (f : TypeForm) → item_at before i ≡ Some f → item_at written i ≡ Some (Built f)) where
    target_there : (i : ℕ) (f : TypeForm) → item_at before i ≡ Some f → item_at targets i ≡ Some (target_number names (Built f))
    target_there i f e = item_map (target_number names) written i (Built f) (front i f e)

    -- the target of a pointer that was there before
    record OldPointer (i t : ℕ) : Type 0 where
      target : TypeId
      is : item_at before i ≡ Some (Pointer target)
      same_target : target.0 ≡ t
      below : t < length before

    old_pointer : (i t : ℕ) (f : TypeForm) → item_at before i ≡ Some f → Fits (length before) (ranges_of before) i f
        → target_number names (Built f) ≡ Some t → OldPointer i t
    old_pointer i t f e integer_fits k = absurd (nothing_there k)
    old_pointer i t f e boolean_fits k = absurd (nothing_there k)
    old_pointer i t f e (range_fits low high q) k = absurd (nothing_there k)
    old_pointer i t f e (pointer_fits u q) k =
        record { target = u; is = e; same_target = some_is k; below = subst (λ n. n < length before) (some_is k) q }
    old_pointer i t f e (array_fits index element j q r) k = absurd (nothing_there k)
    old_pointer i t f e (record_fits fields b d) k = absurd (nothing_there k)

    pointer_before : (i t : ℕ) → i < length before → item_at targets i ≡ Some (Some t) → OldPointer i t
    pointer_before i t h e =
        let r = item_there before i h in
        old_pointer i t r.item r.is (right.fits i r.item r.is) (some_is (sym (target_there i r.item r.is) ∙ e))

    first_before : (k i : ℕ) → i < length before → first_at targets k i ≡ i
    first_before zero i h = refl
    first_before (suc k) i h = by_target (item_at targets i) refl (λ j g. first_before k j g)
      where
        by_target : (o : Option (Option ℕ)) → item_at targets i ≡ o → ((j : ℕ) → j < length before → first_at targets k j ≡ j)
            → first_at targets (suc k) i ≡ i
        by_target None e known = plain_first targets (suc k) i None e (λ t q. nothing_there q)
        by_target (Some None) e known = plain_first targets (suc k) i (Some None) e (λ t q. nothing_there (some_is q))
        by_target (Some (Some t)) e known =
            let r = pointer_first targets k i t e in
            let m = first_at targets (suc k) i in
            let here = pointer_before i t h e in
            let other = pointer_before m r.target (lower m i (length before) (first_early targets (suc k) i) h) r.is in
            let one : t ≡ r.target = sym (known t here.below) ∙ (r.alike ∙ known r.target other.below) in
            let ids : here.target ≡ other.target = same_id here.target other.target (here.same_target ∙ (one ∙ sym other.same_target)) in
            sym (right.settled i m other.target (here.is ∙ ap (λ u. Some (Pointer u)) ids) other.is)

    as_before : (i : ℕ) → i < length before → i < length written
    as_before i h = let r = item_there before i h in item_within written i (Built r.item) (front i r.item r.is)

    leads_before : (i : ℕ) → i < length before → item_at same i ≡ Some (0 + i)
    leads_before i h = leads i (as_before i h) (first_before (length targets) i h)

    number_before : (i : ℕ) → i < length before → kinds_before i 0 same ≡ i
    number_before i h = kinds_same i 0 same (λ k g. leads_before k (deeper k i (length before) g h))

    -- a type that was there before keeps its number
    pub new_before : (t : TypeId) → t.0 < length before → new t ≡ t
    new_before t h =
        same_id (new t) t (new_is t (as_before t.0 h)
        ∙ (ap (λ n. kinds_before n 0 same) (first_before (length targets) t.0 h) ∙ number_before t.0 h))

    fields_before : (i : ℕ) (fields : List TypeField) → i < length before → FieldsBelow i fields
        → map (λ (f : TypeField). moved_field new f) fields ≡ fields
    fields_before i [] h b = refl
    fields_before i (f ∷ fields) h b =
        ap (λ t. record_field f.name t ∷ map (λ (g : TypeField). moved_field new g) fields)
        (new_before f.of (deeper f.of.0 i (length before) (b.each 0 f refl) h))
        ∙ ap (λ l. f ∷ l) (fields_before i fields h (record { each = λ k g e. b.each (suc k) g e }))

    form_before : (i : ℕ) (f : TypeForm) → i < length before → Fits (length before) (ranges_of before) i f → form_with new f ≡ f
    form_before i f h integer_fits = refl
    form_before i f h boolean_fits = refl
    form_before i f h (range_fits low high k) = refl
    form_before i f h (pointer_fits t k) = ap Pointer (new_before t k)
    form_before i f h (array_fits index element j k r) =
        ap (λ t. Array t (new element)) (new_before index (deeper index.0 i (length before) j h))
        ∙ ap (Array index) (new_before element (deeper element.0 i (length before) k h))
    form_before i f h (record_fits fields b d) = ap Record (fields_before i fields h b)

    -- and the forms begin with theirs
    pub forms_before : Begins before result
    forms_before =
        begins before result (λ i f e.
        let h = item_within before i f e in
        ap (item_at result) (sym (number_before i h))
        ∙ (form_at_new names new i 0 same written (Built f) (leads_before i h) (front i f e)
        ∙ ap Some (form_before i f h (right.fits i f e))))
