-- The forms of types that were put together: each type keeps its form, with the new numbers of its parts; types that were there
-- before keep their numbers; and no two pointer types have one target.
use Rattle.std.proofs.Common.{◌≡◌, ℕ, zero, suc, ◌+◌, ◌≤◌, Bool, true, false, cond, nat_eq, List, [], ◌∷◌, ◌++◌, map, length, Option, Some, None, refl, sym, ap, ◌∙◌, subst, arith}
use Rattle.std.specs.Prelude.{option_map, ℤ}
use Rattle.std.proofs.lemmas.Bool.{false≢true, eqb-true, eq-eqb}
use Rattle.spv_logic.specs.declared.names.names.Symbol.{Symbol}
use Rattle.spv_logic.specs.declared.types.TypeId.{TypeId}
use Rattle.spv_program.specs.declared.types.TypeField.{TypeField}
use Rattle.spv_program.specs.declared.types.TypeForm.{TypeForm}
use Rattle.spv_program.specs.declared.types.TypeForm.TheVariants.{Integer, Boolean, Range, Pointer, Array, Record}
use Rattle.spv_program.specs.Lists.{found, item_at}
use Rattle.spv_program.proofs.SortFacts.{nothing_there, some_is}
use Rattle.spv_typing.specs.Merging.{Written, Built, PointerTo, target_number, points_alike, firsts_after, firsts, kinds_before, number_or, form_with, target_or_first, form_of, forms_from, merged}
use Rattle.spv_type_soundness.proofs.faithfulness.Firsts.{There, first_same, points_same, stands_for, stands_there, same_items, items_same, pointer_stands, stands, stands_first, stands_plain, stands_pointer, stands_is, firsts_settle}

-- ---- items

pub item_map : {X Y : Type 0} (f : X → Y) (xs : List X) (i : ℕ) (x : X) → item_at xs i ≡ Some x → item_at (map f xs) i ≡ Some (f x)
item_map f [] i x e = absurd (nothing_there e)
item_map f (y ∷ xs) zero x e = ap (λ z. Some (f z)) (some_is e)
item_map f (y ∷ xs) (suc i) x e = item_map f xs i x e

pub record MapItem {X Y : Type 0} (f : X → Y) (xs : List X) (i : ℕ) (y : Y) : Type 0 where
  pub item : X
  pub is : item_at xs i ≡ Some item
  pub same : f item ≡ y

pub map_item : {X Y : Type 0} (f : X → Y) (xs : List X) (i : ℕ) (y : Y) → item_at (map f xs) i ≡ Some y → MapItem f xs i y
map_item f [] i y e = absurd (nothing_there e)
map_item f (x ∷ xs) zero y e = record { item = x; is = refl; same = some_is e }
map_item f (x ∷ xs) (suc i) y e = let r = map_item f xs i y e in record { item = r.item; is = r.is; same = r.same }

pub item_before : {X : Type 0} (xs ys : List X) (i : ℕ) (x : X) → item_at xs i ≡ Some x → item_at (xs ++ ys) i ≡ Some x
item_before [] ys i x e = absurd (nothing_there e)
item_before (y ∷ xs) ys zero x e = e
item_before (y ∷ xs) ys (suc i) x e = item_before xs ys i x e

pub item_behind : {X : Type 0} (xs : List X) (x : X) → item_at (xs ++ x ∷ []) (length xs) ≡ Some x
item_behind [] x = refl
item_behind (y ∷ xs) x = item_behind xs x

pub there_below : {X : Type 0} (xs : List X) (i j : ℕ) → There xs i → j ≤ i → There xs j
there_below [] i j h l = absurd (nothing_there h.is)
there_below (x ∷ xs) i zero h l = record { item = x; is = refl }
there_below (x ∷ xs) zero (suc j) h l = absurd (omega arith)
there_below (x ∷ xs) (suc i) (suc j) h l =
    let k : j ≤ i = omega arith in
    let r = there_below xs i j (record { item = h.item; is = h.is }) k in record { item = r.item; is = r.is }

-- ---- types that are built of types that are there

pub data FieldsIn {X : Type 0} (xs : List X) : List TypeField → Type 0 where
  no_fields_in : FieldsIn xs []
  one_field_in : (f : TypeField) (fs : List TypeField) → There xs f.of.0 → FieldsIn xs fs → FieldsIn xs (f ∷ fs)

pub data FormIn {X : Type 0} (xs : List X) : TypeForm → Type 0 where
  integer_in : FormIn xs Integer
  boolean_in : FormIn xs Boolean
  range_in : (low high : ℤ) → FormIn xs (Range low high)
  pointer_in : (t : TypeId) → There xs t.0 → FormIn xs (Pointer t)
  array_in : (index element : TypeId) → There xs index.0 → There xs element.0 → FormIn xs (Array index element)
  record_in : (fs : List TypeField) → FieldsIn xs fs → FormIn xs (Record fs)

pub data WrittenIn {X : Type 0} (names : List (Symbol × TypeId)) (xs : List X) : Written → Type 0 where
  built_in : (f : TypeForm) → FormIn xs f → WrittenIn names xs (Built f)
  target_in : (x : Symbol) (t : TypeId) → found names x ≡ Some t → There xs t.0 → WrittenIn names xs (PointerTo x)

-- no two pointer types have one target, and all types are built of types that are there
pub record FormsRight (forms : List TypeForm) : Type 0 where
  pub settled : (a b : ℕ) (u : TypeId) → item_at forms a ≡ Some (Pointer u) → item_at forms b ≡ Some (Pointer u) → a ≡ b
  pub inside : (i : ℕ) (f : TypeForm) → item_at forms i ≡ Some f → FormIn forms f

-- ---- new numbers

forms_item : (names : List (Symbol × TypeId)) (new : TypeId → TypeId) (place : ℕ) (fs : List ℕ) (ws : List Written) (r : ℕ) (w : Written)
    → item_at fs r ≡ Some (place + r) → item_at ws r ≡ Some w
    → item_at (forms_from names new place fs ws) (kinds_before r place fs) ≡ Some (form_with new (form_of names w))
forms_item names new place [] ws r w e h = absurd (nothing_there e)
forms_item names new place (f ∷ fs) [] r w e h = absurd (nothing_there h)
forms_item names new place (f ∷ fs) (v ∷ ws) zero w e h =
    let z : place + 0 ≡ place = omega arith in
    ap (λ b. item_at (cond b (form_with new (form_of names v) ∷ forms_from names new (suc place) fs ws)
    (forms_from names new (suc place) fs ws)) 0) (eq-eqb f place (some_is e ∙ z))
    ∙ ap (λ q. Some (form_with new (form_of names q))) (some_is h)
forms_item names new place (f ∷ fs) (v ∷ ws) (suc r) w e h =
    let z : place + suc r ≡ suc place + r = omega arith in
    by_case (nat_eq f place) (forms_item names new (suc place) fs ws r w (e ∙ ap Some z) h)
  where
    by_case : (b : Bool) → item_at (forms_from names new (suc place) fs ws) (kinds_before r (suc place) fs) ≡ Some
        (form_with new (form_of names w))
        → item_at (cond b (form_with new (form_of names v) ∷ forms_from names new (suc place) fs ws)
        (forms_from names new (suc place) fs ws)) (cond b (suc (kinds_before r (suc place) fs)) (kinds_before r (suc place) fs)) ≡ Some
        (form_with new (form_of names w))
    by_case true k = k
    by_case false k = k

record Back (names : List (Symbol × TypeId)) (new : TypeId → TypeId) (place : ℕ) (fs : List ℕ) (ws : List Written) (a : ℕ)
    (g : TypeForm) : Type 0 where
  pub place_of : ℕ
  pub written : Written
  pub first : item_at fs place_of ≡ Some (place + place_of)
  pub is : item_at ws place_of ≡ Some written
  pub number : kinds_before place_of place fs ≡ a
  pub form : form_with new (form_of names written) ≡ g

forms_back : (names : List (Symbol × TypeId)) (new : TypeId → TypeId) (place : ℕ) (fs : List ℕ) (ws : List Written) (a : ℕ) (g : TypeForm)
    → item_at (forms_from names new place fs ws) a ≡ Some g → Back names new place fs ws a g
forms_back names new place [] ws a g e = absurd (nothing_there e)
forms_back names new place (f ∷ fs) [] a g e = absurd (nothing_there e)
forms_back names new place (f ∷ fs) (v ∷ ws) a g e = by_case (nat_eq f place) refl a e (λ b k. forms_back names new (suc place) fs ws b g k)
  where
    further : (c : Bool) → nat_eq f place ≡ c → (a b : ℕ) → cond c (suc b) b ≡ a → Back names new (suc place) fs ws b g
        → Back names new place (f ∷ fs) (v ∷ ws) a g
    further c k a b same r =
        let z : suc place + r.place_of ≡ place + suc r.place_of = omega arith in
        record {
          place_of = suc r.place_of;
          written = r.written;
          first = r.first ∙ ap Some z;
          is = r.is;
          number = ap (λ c. cond c (suc (kinds_before r.place_of (suc place) fs)) (kinds_before r.place_of (suc place) fs)) k
              ∙ (ap (λ n. cond c (suc n) n) r.number ∙ same);
          form = r.form;
        }

    by_case : (c : Bool) → nat_eq f place ≡ c → (a : ℕ)
        → item_at (cond c (form_with new (form_of names v) ∷ forms_from names new (suc place) fs ws)
        (forms_from names new (suc place) fs ws)) a ≡ Some g
        → ((b : ℕ) → item_at (forms_from names new (suc place) fs ws) b ≡ Some g → Back names new (suc place) fs ws b g)
        → Back names new place (f ∷ fs) (v ∷ ws) a g
    by_case true k zero e go =
        let z : place ≡ place + 0 = omega arith in
        record { place_of = 0; written = v; first = ap Some (eqb-true f place k ∙ z); is = refl; number = refl; form = some_is e }
    by_case true k (suc b) e go = further true k (suc b) b refl (go b e)
    by_case false k a e go = further false k a a refl (go a e)

kinds_apart : (place : ℕ) (fs : List ℕ) (r q : ℕ) → item_at fs r ≡ Some (place + r) → item_at fs q ≡ Some (place + q)
    → kinds_before r place fs ≡ kinds_before q place fs → r ≡ q
kinds_apart place [] r q e h k = absurd (nothing_there e)
kinds_apart place (f ∷ fs) zero zero e h k = refl
kinds_apart place (f ∷ fs) zero (suc q) e h k =
    let z : place + 0 ≡ place = omega arith in
    let g : 0 ≡ suc (kinds_before q (suc place) fs) = k ∙ ap
    (λ b. cond b (suc (kinds_before q (suc place) fs)) (kinds_before q (suc place) fs)) (eq-eqb f place (some_is e ∙ z)) in
    absurd (omega arith)
kinds_apart place (f ∷ fs) (suc r) zero e h k =
    let z : place + 0 ≡ place = omega arith in
    let g : 0 ≡ suc (kinds_before r (suc place) fs) = sym k ∙ ap
    (λ b. cond b (suc (kinds_before r (suc place) fs)) (kinds_before r (suc place) fs)) (eq-eqb f place (some_is h ∙ z)) in
    absurd (omega arith)
kinds_apart place (f ∷ fs) (suc r) (suc q) e h k =
    let y : place + suc r ≡ suc place + r = omega arith in
    let z : place + suc q ≡ suc place + q = omega arith in
    by_case (nat_eq f place) k (λ g. kinds_apart (suc place) fs r q (e ∙ ap Some y) (h ∙ ap Some z) g)
  where
    by_case : (b : Bool) → cond b (suc (kinds_before r (suc place) fs)) (kinds_before r (suc place) fs) ≡ cond b
        (suc (kinds_before q (suc place) fs)) (kinds_before q (suc place) fs)
        → (kinds_before r (suc place) fs ≡ kinds_before q (suc place) fs → r ≡ q) → suc r ≡ suc q
    by_case true g go = let l : kinds_before r (suc place) fs ≡ kinds_before q (suc place) fs = cc (g) in ap suc (go l)
    by_case false g go = ap suc (go g)

-- where all before it stand for themselves, a number stays
kinds_all : (place : ℕ) (fs : List ℕ) (i : ℕ) → ((j : ℕ) → suc j ≤ i → item_at fs j ≡ Some (place + j)) → kinds_before i place fs ≡ i
kinds_all place fs zero h = refl
kinds_all place [] (suc i) h = let l : 1 ≤ suc i = omega arith in absurd (nothing_there (h 0 l))
kinds_all place (f ∷ fs) (suc i) h =
    let l : 1 ≤ suc i = omega arith in
    let z : place + 0 ≡ place = omega arith in
    ap (λ b. cond b (suc (kinds_before i (suc place) fs)) (kinds_before i (suc place) fs)) (eq-eqb f place (some_is (h 0 l) ∙ z))
    ∙ ap suc (kinds_all (suc place) fs i (λ j k. let m : suc (suc j) ≤ suc i = omega arith in let y : place + suc j ≡ suc place +
    j = omega arith in h (suc j) m ∙ ap Some y))

-- ---- pointer types

pub record IsPointer (names : List (Symbol × TypeId)) (w : Written) (u : TypeId) (new : TypeId → TypeId) : Type 0 where
  pub target : ℕ
  pub is : target_number names w ≡ Some target
  pub same : new (record { 0 = target }) ≡ u

abbrev is_pointer_form : TypeForm → Bool
is_pointer_form (Pointer t) = true
is_pointer_form f = false

abbrev target_in_form : TypeId → TypeForm → TypeId
target_in_form t (Pointer u) = u
target_in_form t f = t

pointer_written : {X : Type 0} (names : List (Symbol × TypeId)) (xs : List X) (w : Written) (u : TypeId) (new : TypeId → TypeId)
    → WrittenIn names xs w → form_with new (form_of names w) ≡ Pointer u → IsPointer names w u new
pointer_written names xs (Built Integer) u new h e = absurd (false≢true (ap is_pointer_form e))
pointer_written names xs (Built Boolean) u new h e = absurd (false≢true (ap is_pointer_form e))
pointer_written names xs (Built (Range low high)) u new h e = absurd (false≢true (ap is_pointer_form e))
pointer_written names xs (Built (Array i t)) u new h e = absurd (false≢true (ap is_pointer_form e))
pointer_written names xs (Built (Record fs)) u new h e = absurd (false≢true (ap is_pointer_form e))
pointer_written names xs (Built (Pointer t)) u new h e = record { target = t.0; is = refl; same = ap (target_in_form u) e }
pointer_written names xs (PointerTo x) u new (target_in y t k there) e = record {
  target = t.0;
  is = ap (option_map (λ (q : TypeId). q.0)) k;
  same = ap (λ o. new (target_or_first o)) (sym k) ∙ ap (target_in_form u) e;
}

pointer_form : (names : List (Symbol × TypeId)) (w : Written) (t : ℕ) → target_number names w ≡ Some t
    → form_of names w ≡ Pointer (record { 0 = t })
pointer_form names (Built (Pointer u)) t e = ap (λ n. Pointer (record { 0 = n })) (some_is e)
pointer_form names (Built Integer) t e = absurd (nothing_there e)
pointer_form names (Built Boolean) t e = absurd (nothing_there e)
pointer_form names (Built (Range low high)) t e = absurd (nothing_there e)
pointer_form names (Built (Array i u)) t e = absurd (nothing_there e)
pointer_form names (Built (Record fs)) t e = absurd (nothing_there e)
pointer_form names (PointerTo x) t e = by_found (found names x) e
  where
    by_found : (o : Option TypeId) → option_map (λ (q : TypeId). q.0) o ≡ Some t → Pointer (target_or_first o) ≡ Pointer (record { 0 = t })
    by_found None k = absurd (nothing_there k)
    by_found (Some u) k = ap (λ n. Pointer (record { 0 = n })) (some_is k)

there_map : {X Y : Type 0} (f : X → Y) (xs : List X) (i : ℕ) → There xs i → There (map f xs) i
there_map f xs i h = record { item = f h.item; is = item_map f xs i h.item h.is }

module _ (names : List (Symbol × TypeId)) (written : List Written)
    (right : (i : ℕ) (w : Written) → item_at written i ≡ Some w → WrittenIn names written w) where
  abbrev targets : List (Option ℕ)
  targets = map (target_number names) written

  target_there : (w : Written) (t : ℕ) → WrittenIn names written w → target_number names w ≡ Some t → There targets t
  target_there (Built (Pointer u)) t (built_in f (pointer_in v h)) e = there_map (target_number names) written t
      (subst (There written) (some_is e) h)
  target_there (Built Integer) t h e = absurd (nothing_there e)
  target_there (Built Boolean) t h e = absurd (nothing_there e)
  target_there (Built (Range low high)) t h e = absurd (nothing_there e)
  target_there (Built (Array i u)) t h e = absurd (nothing_there e)
  target_there (Built (Record fs)) t h e = absurd (nothing_there e)
  target_there (PointerTo x) t (target_in y u k h) e =
      there_map (target_number names) written t (subst (There written) (some_is (sym (ap (option_map (λ (q : TypeId). q.0)) k) ∙ e)) h)

  inside : (i t : ℕ) → item_at targets i ≡ Some (Some t) → There targets t
  inside i t e = let m = map_item (target_number names) written i (Some t) e in target_there m.item t (right i m.item m.is) m.same

  abbrev rounds : ℕ
  rounds = length targets

  abbrev same : List ℕ
  same = firsts targets

  abbrev new : TypeId → TypeId
  new = (merged names written).new

  abbrev stand : ℕ → ℕ
  stand i = stands_for targets inside rounds i

  settled_rounds : firsts_after (suc rounds) targets ≡ same
  settled_rounds = firsts_settle targets inside

  one_more_round : (i : ℕ) → stands_for targets inside (suc rounds) i ≡ stand i
  one_more_round i = ap (λ fs. number_or i (item_at fs i)) settled_rounds

  there_too : (i : ℕ) → There written i → There targets i
  there_too i h = there_map (target_number names) written i h

  -- what stands for a type has the same form
  alike : (i : ℕ) (w v : Written) → item_at written i ≡ Some w → item_at written (stand i) ≡ Some v
      → form_with new (form_of names w) ≡ form_with new (form_of names v)
  alike i w v e h = by_target (target_number names w) refl
    where
      by_target : (o : Option ℕ) → target_number names w ≡ o → form_with new (form_of names w) ≡ form_with new (form_of names v)
      by_target None k =
          let own : stand i ≡ i = sym (one_more_round i) ∙ stands_plain targets inside rounds i
          (item_map (target_number names) written i w e ∙ ap Some k) in
          ap (λ q. form_with new (form_of names q)) (some_is (sym e ∙ (ap (item_at written) (sym own) ∙ h)))
      by_target (Some t) k =
          let at : item_at targets i ≡ Some (Some t) = item_map (target_number names) written i w e ∙ ap Some k in
          let p = pointer_stands targets inside rounds i t at in
          let other : target_number names v ≡ Some p.target = some_is
          (sym (item_map (target_number names) written (stand i) v h) ∙ (ap (item_at targets) (sym (one_more_round i)) ∙ p.is)) in
          let there = inside (stands_for targets inside (suc rounds) i) p.target p.is in
          let one : stand t ≡ stand p.target = items_same targets inside rounds t p.target (inside i t at) there p.same in
          ap (form_with new) (pointer_form names w t k) ∙ (ap (λ n. Pointer (record { 0 = kinds_before n 0 same })) one ∙ ap
          (form_with new) (sym (pointer_form names v p.target other)))

  stand_first : (i : ℕ) → There written i → item_at same (stand i) ≡ Some (0 + stand i)
  stand_first i h =
      let s = stands targets inside rounds i (there_too i h) in
      let z : stand i ≡ 0 + stand i = omega arith in
      stands_there targets inside rounds (stand i) s.there ∙ ap Some (s.again ∙ z)

  -- each type has its form, with the new numbers of its parts
  pub forms_kept : (i : ℕ) (w : Written) → item_at written i ≡ Some w
      → item_at (merged names written).forms (new (record { 0 = i })).0 ≡ Some (form_with new (form_of names w))
  forms_kept i w e =
      let h : There written i = record { item = w; is = e } in
      let s = stands targets inside rounds i (there_too i h) in
      let m = map_item (target_number names) written (stand i) s.there.item s.there.is in
      forms_item names new 0 same written (stand i) m.item (stand_first i h) m.is ∙ ap Some (sym (alike i w m.item e m.is))

  pub new_there : (t : TypeId) → There written t.0 → There (merged names written).forms (new t).0
  new_there t h = record { item = form_with new (form_of names h.item); is = forms_kept t.0 h.item h.is }

  fields_there : (fs : List TypeField) → FieldsIn written fs
      → FieldsIn (merged names written).forms (map (λ f. record { name = f.name; of = new f.of }) fs)
  fields_there [] no_fields_in = no_fields_in
  fields_there (f ∷ fs) (one_field_in g gs h rest) = one_field_in (record { name = f.name; of = new f.of })
      (map (λ f. record { name = f.name; of = new f.of }) fs) (new_there f.of h) (fields_there fs rest)

  form_there : (f : TypeForm) → FormIn written f → FormIn (merged names written).forms (form_with new f)
  form_there Integer integer_in = integer_in
  form_there Boolean boolean_in = boolean_in
  form_there (Range low high) (range_in a b) = range_in low high
  form_there (Pointer t) (pointer_in u h) = pointer_in (new t) (new_there t h)
  form_there (Array i e) (array_in j u g h) = array_in (new i) (new e) (new_there i g) (new_there e h)
  form_there (Record fs) (record_in gs h) = record_in (map (λ f. record { name = f.name; of = new f.of }) fs) (fields_there fs h)

  written_there : (w : Written) → WrittenIn names written w → FormIn (merged names written).forms (form_with new (form_of names w))
  written_there (Built f) (built_in g h) = form_there f h
  written_there (PointerTo x) (target_in y t k h) = subst (λ o. FormIn (merged names written).forms (Pointer (new (target_or_first o))))
      (sym k) (pointer_in (new t) (new_there t h))

  abbrev BackHere : ℕ → TypeForm → Type 0
  BackHere a g = Back names new 0 same written a g

  pointers_apart : (a b : ℕ) (u : TypeId) → BackHere a (Pointer u) → BackHere b (Pointer u) → a ≡ b
  pointers_apart a b u p q =
      let r = p.place_of in
      let s = q.place_of in
      let one = pointer_written names written p.written u new (right r p.written p.is) p.form in
      let two = pointer_written names written q.written u new (right s q.written q.is) q.form in
      let at : item_at targets r ≡ Some (Some one.target) = item_map (target_number names) written r p.written p.is ∙ ap Some one.is in
      let on : item_at targets s ≡ Some (Some two.target) = item_map (target_number names) written s q.written q.is ∙ ap Some two.is in
      let t = inside r one.target at in
      let v = inside s two.target on in
      let numbers : kinds_before (stand one.target) 0 same ≡ kinds_before (stand two.target) 0 same = ap (λ (x : TypeId). x.0)
      (one.same ∙ sym two.same) in
      let first = stands targets inside rounds one.target t in
      let second = stands targets inside rounds two.target v in
      let y : stand one.target ≡ 0 + stand one.target = omega arith in
      let z : stand two.target ≡ 0 + stand two.target = omega arith in
      let equal : stand one.target ≡ stand two.target = kinds_apart 0 same (stand one.target) (stand two.target)
      (stands_there targets inside rounds (stand one.target) first.there ∙ ap Some (first.again ∙ y))
      (stands_there targets inside rounds (stand two.target) second.there ∙ ap Some (second.again ∙ z)) numbers in
      let items = same_items targets inside rounds one.target two.target t v equal in
      let more : stands_for targets inside (suc rounds) r ≡ stands_for targets inside (suc rounds) s =
      stands_pointer targets inside rounds r one.target at
      ∙ (first_same (points_alike same one.target) (points_alike same two.target) targets (points_same same one.target two.target items)
      ∙ sym (stands_pointer targets inside rounds s two.target on)) in
      let zr : 0 + r ≡ r = omega arith in
      let zs : 0 + s ≡ s = omega arith in
      let own_r : stand r ≡ r = stands_is targets inside rounds r (0 + r) p.first ∙ zr in
      let own_s : stand s ≡ s = stands_is targets inside rounds s (0 + s) q.first ∙ zs in
      let rs : r ≡ s = sym own_r ∙ (sym (one_more_round r) ∙ (more ∙ (one_more_round s ∙ own_s))) in
      sym p.number ∙ (ap (λ n. kinds_before n 0 same) rs ∙ q.number)

  pub forms_right : FormsRight (merged names written).forms
  forms_right = record {
    settled = λ a b u e h. pointers_apart a b u (forms_back names new 0 same written a (Pointer u) e)
        (forms_back names new 0 same written b (Pointer u) h);
    inside = λ i f e. let p = forms_back names new 0 same written i f e in subst (FormIn (merged names written).forms) p.form
        (written_there p.written (right p.place_of p.written p.is));
  }

-- ---- types that were there before

abbrev field_with : (TypeId → TypeId) → TypeField → TypeField
field_with new f = record { name = f.name; of = new f.of }

new_fields_same : (forms : List TypeForm) (new : TypeId → TypeId) → ((t : TypeId) → There forms t.0 → new t ≡ t) → (fs : List TypeField)
    → FieldsIn forms fs → map (λ (f : TypeField). field_with new f) fs ≡ fs
new_fields_same forms new h [] no_fields_in = refl
new_fields_same forms new h (f ∷ fs) (one_field_in g gs k rest) =
    ap (λ t. record { name = f.name; of = t } ∷ map (λ (f : TypeField). field_with new f) fs) (h f.of k) ∙ ap (λ gs. f ∷ gs)
    (new_fields_same forms new h fs rest)

new_form_same : (forms : List TypeForm) (new : TypeId → TypeId) → ((t : TypeId) → There forms t.0 → new t ≡ t) → (f : TypeForm)
    → FormIn forms f → form_with new f ≡ f
new_form_same forms new h Integer integer_in = refl
new_form_same forms new h Boolean boolean_in = refl
new_form_same forms new h (Range low high) (range_in a b) = refl
new_form_same forms new h (Pointer t) (pointer_in u k) = ap Pointer (h t k)
new_form_same forms new h (Array i e) (array_in j u k l) = ap (λ q. Array q (new e)) (h i k) ∙ ap (Array i) (h e l)
new_form_same forms new h (Record fs) (record_in gs k) = ap Record (new_fields_same forms new h fs k)

module _ (names : List (Symbol × TypeId)) (old : List TypeForm) (more : List Written) (old_right : FormsRight old)
    (right : (i : ℕ) (w : Written) → item_at (map Built old ++ more) i ≡ Some w → WrittenIn names (map Built old ++ more) w) where
  abbrev all : List Written
  all = map Built old ++ more

  old_item : (i : ℕ) (f : TypeForm) → item_at old i ≡ Some f → item_at all i ≡ Some (Built f)
  old_item i f e = item_before (map Built old) more i (Built f) (item_map Built old i f e)

  abbrev old_targets : List (Option ℕ)
  old_targets = map (target_number names) all

  old_inside : (i t : ℕ) → item_at old_targets i ≡ Some (Some t) → There old_targets t
  old_inside = inside names all right

  old_there : (i : ℕ) → There old i → There old_targets i
  old_there i h = there_map (target_number names) all i (record { item = Built h.item; is = old_item i h.item h.is })

  old_pointer : (i t : ℕ) (f : TypeForm) → item_at old i ≡ Some f → item_at old_targets i ≡ Some (Some t) → f ≡ Pointer (record { 0 = t })
  old_pointer i t f e h = pointer_form names (Built f) t
      (some_is (sym (item_map (target_number names) all i (Built f) (old_item i f e)) ∙ h))

  target_old : (i t : ℕ) (f : TypeForm) → item_at old i ≡ Some f → f ≡ Pointer (record { 0 = t }) → There old t
  target_old i t f e h = by_form (old_right.inside i (Pointer (record { 0 = t })) (e ∙ ap Some h))
    where
      by_form : FormIn old (Pointer (record { 0 = t })) → There old t
      by_form (pointer_in u k) = k

  stays : (k i : ℕ) → There old i → stands_for old_targets old_inside k i ≡ i
  stays zero i h = stands_first old_targets old_inside i (old_there i h)
  stays (suc k) i h = by_target (target_number names (Built h.item)) refl (λ j g. stays k j g)
    where
      by_target : (o : Option ℕ) → target_number names (Built h.item) ≡ o
          → ((j : ℕ) → There old j → stands_for old_targets old_inside k j ≡ j) → stands_for old_targets old_inside (suc k) i ≡ i
      by_target None e go = stands_plain old_targets old_inside k i
          (item_map (target_number names) all i (Built h.item) (old_item i h.item h.is) ∙ ap Some e)
      by_target (Some t) e go =
          let at : item_at old_targets i ≡ Some (Some t) = item_map (target_number names) all i (Built h.item) (old_item i h.item h.is)
          ∙ ap Some e in
          let p = pointer_stands old_targets old_inside k i t at in
          let r = stands_for old_targets old_inside (suc k) i in
          let g = there_below old i r h p.below in
          let mine : h.item ≡ Pointer (record { 0 = t }) = old_pointer i t h.item h.is at in
          let other : g.item ≡ Pointer (record { 0 = p.target }) = old_pointer r p.target g.item g.is p.is in
          let tt' = target_old i t h.item h.is mine in
          let uu = target_old r p.target g.item g.is other in
          let eq : t ≡ p.target = sym (go t tt') ∙ (items_same old_targets old_inside k t p.target (old_inside i t at)
          (old_inside r p.target p.is) p.same ∙ go p.target uu) in
          old_right.settled r i (record { 0 = t }) (g.is ∙ ap Some (other ∙ ap (λ n. Pointer (record { 0 = n })) (sym eq)))
          (h.is ∙ ap Some mine)

  pub old_number : (t : TypeId) → There old t.0 → (merged names all).new t ≡ t
  old_number t h =
      let fs = firsts old_targets in
      let own : stands_for old_targets old_inside (length old_targets) t.0 ≡ t.0 = stays (length old_targets) t.0 h in
      ap (λ n. record { 0 = kinds_before n 0 fs }) own
      ∙ ap (λ n. record { 0 = n }) (kinds_all 0 fs t.0 (λ j l.
      let k : j ≤ t.0 = omega arith in
      let g = there_below old t.0 j h k in
      let z : j ≡ 0 + j = omega arith in
      stands_there old_targets old_inside (length old_targets) j (old_there j g) ∙ ap Some (stays (length old_targets) j g ∙ z)))

  pub old_form : (i : ℕ) (f : TypeForm) → item_at old i ≡ Some f → item_at (merged names all).forms i ≡ Some f
  old_form i f e =
      let h : There old i = record { item = f; is = e } in
      let same : (merged names all).new (record { 0 = i }) ≡ record { 0 = i } = old_number (record { 0 = i }) h in
      ap (λ (t : TypeId). item_at (merged names all).forms t.0) (sym same)
      ∙ (forms_kept names all right i (Built f) (old_item i f e) ∙ ap Some
      (new_form_same old (merged names all).new old_number f (old_right.inside i f e)))
