-- Types of the program that are told apart keep their forms and numbers when others stand behind them.
use Rattle.std.proofs.Common.{◌≡◌, ℕ, zero, suc, ◌+◌, ◌<◌, ◌≤◌, true, cond, nat_lt, List, [], ◌∷◌, ◌++◌, map, length, Option, Some, refl, sym, ap, ◌∙◌, subst, arith}
use Rattle.std.specs.List.{list_all}
use Rattle.std.proofs.lemmas.Bool.{ltb-true, eq-eqb}
use Rattle.std.proofs.lemmas.List.{length-map, map-append}
use Rattle.spv_logic.proofs.list.Tests.{left_true, right_true}
use Rattle.spv_logic.specs.declared.names.names.Symbol.{Symbol}
use Rattle.spv_logic.specs.declared.types.TypeId.{TypeId}
use Rattle.spv_program.specs.declared.types.TypeField.{TypeField}
use Rattle.spv_program.specs.declared.types.TypeForm.{TypeForm}
use Rattle.spv_program.specs.declared.types.TypeForm.TheVariants.{Integer, Boolean, Range, Pointer, Array, Record}
use Rattle.spv_program.specs.Lists.{item_at}
use Rattle.spv_typing.specs.Merging.{Written as WrittenText, Built, target_number, numbers_from, firsts, kinds_before, number_or, renumbered, form_with, forms_from, merged}
use Rattle.spv_typing.specs.Known.{Known}
use Rattle.spv_declaration_typing.specs.declared.pointer_types.written.Written.{Written}
use Rattle.spv_declaration_typing.specs.declared.pointer_types.merging.Merged.{Merged}
use Rattle.spv_declaration_typing.specs.pointer_types.Counting.{counting, Numbering, all_firsts}
use Rattle.spv_declaration_typing.specs.pointer_types.Views.{written_of, all_written}
use Rattle.spv_declaration_typing.proofs.pointer_types.Counts.{item_kept, kinds_kept}
use Rattle.spv_environments.specs.Indexed.{built_below, IsIndexed}
use Rattle.spv_declaration_typing.specs.canonical_types.Behind.{placed, first_behind, firsts_behind, is_low}
use Rattle.spv_declaration_typing.specs.canonical_types.Types.{types_with, IsFurther}
use Rattle.spv_declaration_typing.proofs.canonical_types.Apart.{IsApart, firsts_are}

-- ---- the types of the program as targets

module _ (names : List (Symbol × TypeId)) where
  abbrev so_far : List TypeForm → List (Option ℕ)
  so_far forms = map (target_number names) (map Built forms)

  many_so_far : (forms : List TypeForm) → length (so_far forms) ≡ length forms
  many_so_far forms = length-map (map Built forms) (target_number names) ∙ length-map forms Built

  is_pointer : (f : TypeForm) (t : ℕ) → target_number names (Built f) ≡ Some t → f ≡ Pointer (record { 0 = t })
  is_pointer (Pointer u) t e = let same : u.0 ≡ t = cc in ap (λ (n : ℕ). Pointer (record { 0 = n })) same
  is_pointer Integer t e = absurd cc
  is_pointer Boolean t e = absurd cc
  is_pointer (Range low high) t e = absurd cc
  is_pointer (Array index element) t e = absurd cc
  is_pointer (Record fields) t e = absurd cc

  pointer_at : (forms : List TypeForm) (i t : ℕ) → item_at (so_far forms) i ≡ Some (Some t) → item_at forms i ≡ Some (Pointer (record { 0 = t }))
  pointer_at [] i t e = absurd cc
  pointer_at (f ∷ forms) zero t e = let same : target_number names (Built f) ≡ Some t = cc in ap Some (is_pointer f t same)
  pointer_at (f ∷ forms) (suc i) t e = pointer_at forms i t e

  target_at : (forms : List TypeForm) (i t : ℕ) → item_at forms i ≡ Some (Pointer (record { 0 = t })) → item_at (so_far forms) i ≡ Some (Some t)
  target_at [] i t e = absurd cc
  target_at (f ∷ forms) zero t e = let same : f ≡ Pointer (record { 0 = t }) = cc in ap (λ (g : TypeForm). Some (target_number names (Built g))) same
  target_at (f ∷ forms) (suc i) t e = target_at forms i t e

  low_at : (n : ℕ) (ts : List (Option ℕ)) → list_all (is_low n) ts ≡ true → (j t : ℕ) → item_at ts j ≡ Some (Some t) → t < n
  low_at n [] h j t e = absurd cc
  low_at n (x ∷ ts) h zero t e =
      let same : x ≡ Some t = cc in
      ltb-true t n (ap (is_low n) (sym same) ∙ left_true (is_low n x) (list_all (is_low n) ts) h)
  low_at n (x ∷ ts) h (suc j) t e = low_at n ts (right_true (is_low n x) (list_all (is_low n) ts) h) j t e

  apart : (forms : List TypeForm) (pointers behind : List (Option ℕ)) → IsIndexed forms pointers → list_all (is_low (length pointers)) behind ≡ true → IsApart (so_far forms) behind pointers
  apart forms pointers behind index low = record {
    many = index.many ∙ sym (many_so_far forms);
    listed = λ i t e. let at : item_at forms i ≡ Some (Pointer (record { 0 = t })) = pointer_at forms i t e in index.listed i (record { 0 = t }) (within forms i (Pointer (record { 0 = t })) at) at;
    known = λ t p e. target_at forms p t (index.known t p e);
    low = λ j t e. subst (λ n. t < n) (index.many ∙ sym (many_so_far forms)) (low_at (length pointers) behind low j t e);
  }
    where
      within : (forms : List TypeForm) (i : ℕ) (f : TypeForm) → item_at forms i ≡ Some f → i < length forms
      within [] i f e = absurd cc
      within (g ∷ forms) zero f e = omega arith
      within (g ∷ forms) (suc i) f e = let h : i < length forms = within forms i f e in omega (arith, h)

numbers_counted : (place : ℕ) (ts : List (Option ℕ)) → numbers_from place ts ≡ counting place (length ts)
numbers_counted place [] = refl
numbers_counted place (t ∷ ts) = ap (λ (l : List ℕ). place ∷ l) (numbers_counted (suc place) ts)

-- ---- forms of types that keep their numbers

module _ (n : ℕ) (new : TypeId → TypeId) (keeps : (t : TypeId) → t.0 < n → new t ≡ t) where
  fields_kept : (fields : List TypeField) → list_all (λ f. nat_lt f.of.0 n) fields ≡ true → map (λ f. record { name = f.name; of = new f.of }) fields ≡ fields
  fields_kept [] h = refl
  fields_kept (f ∷ fields) h =
      let same : new f.of ≡ f.of = keeps f.of (ltb-true f.of.0 n (left_true _ _ h)) in
      ap (λ (t : TypeId). let g : TypeField = record { name = f.name; of = t } in g ∷ map (λ f. record { name = f.name; of = new f.of }) fields) same
      ∙ ap (λ (l : List TypeField). f ∷ l) (fields_kept fields (right_true (nat_lt f.of.0 n) _ h))

  form_kept : (f : TypeForm) → built_below n f ≡ true → form_with new f ≡ f
  form_kept Integer h = refl
  form_kept Boolean h = refl
  form_kept (Range low high) h = refl
  form_kept (Pointer t) h = ap Pointer (keeps t (ltb-true t.0 n h))
  form_kept (Array index element) h =
      ap (λ (t : TypeId). Array t (new element)) (keeps index (ltb-true index.0 n (left_true _ _ h))) ∙ ap (λ (t : TypeId). Array index t) (keeps element (ltb-true element.0 n (right_true (nat_lt index.0 n) _ h)))
  form_kept (Record fields) h = ap Record (fields_kept fields h)

  forms_kept : (names : List (Symbol × TypeId)) (place : ℕ) (forms : List TypeForm) (behind : List ℕ) (written : List WrittenText)
      → ((i : ℕ) (f : TypeForm) → item_at forms i ≡ Some f → built_below n f ≡ true)
      → forms_from names new place (counting place (length forms) ++ behind) (map Built forms ++ written) ≡ forms ++ forms_from names new (length forms + place) behind written
  forms_kept names place [] behind written closed = ap (λ m. forms_from names new m behind written) (zero_more place)
    where
      zero_more : (n : ℕ) → n ≡ 0 + n
      zero_more n = omega arith
  forms_kept names place (f ∷ forms) behind written closed =
      ap (λ b. cond b (form_with new f ∷ forms_from names new (suc place) (counting (suc place) (length forms) ++ behind) (map Built forms ++ written))
      (forms_from names new (suc place) (counting (suc place) (length forms) ++ behind) (map Built forms ++ written))) (eq-eqb place place refl)
      ∙ (ap (λ (g : TypeForm). g ∷ forms_from names new (suc place) (counting (suc place) (length forms) ++ behind) (map Built forms ++ written)) (form_kept f (closed 0 f refl))
      ∙ ap (λ (l : List TypeForm). f ∷ l) (forms_kept names (suc place) forms behind written (λ i g e. closed (suc i) g e) ∙ ap (λ m. forms ++ forms_from names new m behind written) (moved (length forms) place)))
    where
      moved : (n m : ℕ) → n + suc m ≡ suc n + m
      moved n m = omega arith

number_kept : (base : ℕ) (behind : List ℕ) (t : TypeId) → t.0 < base → renumbered (counting 0 base ++ behind) t ≡ t
number_kept base behind t h =
    ap (λ (n : ℕ). let u : TypeId = record { 0 = n } in u)
    (ap (λ o. kinds_before (number_or t.0 o) 0 (counting 0 base ++ behind)) (item_kept base t.0 behind h) ∙ kinds_kept t.0 base behind (below t.0 base h))
  where
    below : (n m : ℕ) → n < m → n ≤ m
    below n m h = omega (arith, h)

-- ---- all of it

module _ (k : Known) (new : List Written) (pointers : List (Option ℕ)) (index : IsIndexed k.program.forms pointers)
    (low : list_all (is_low (length pointers)) (map (target_number k.program.types) (all_written new)) ≡ true) where
  abbrev behind : List (Option ℕ)
  behind = map (target_number k.program.types) (all_written new)

  abbrev led : List ℕ
  led = firsts_behind pointers (length pointers) behind

  same_firsts : firsts (map (target_number k.program.types) (types_with k new)) ≡ counting 0 (length pointers) ++ led
  same_firsts =
      ap firsts (map-append (target_number k.program.types) (map Built k.program.forms) (all_written new))
      ∙ (firsts_are (so_far k.program.types k.program.forms) behind pointers (apart k.program.types k.program.forms pointers behind index low)
      ∙ (ap (λ (l : List ℕ). l ++ firsts_behind pointers (length (so_far k.program.types k.program.forms)) behind) (numbers_counted 0 (so_far k.program.types k.program.forms))
      ∙ ap (λ n. counting 0 n ++ firsts_behind pointers n behind) (many_so_far k.program.types k.program.forms ∙ sym index.many)))

  abbrev numbered : TypeId → TypeId
  numbered = renumbered (counting 0 (length pointers) ++ led)

  same_forms : (merged k.program.types (types_with k new)).forms ≡ k.program.forms ++ forms_from k.program.types numbered (length pointers) led (all_written new)
  same_forms =
      ap (λ (l : List ℕ). forms_from k.program.types (renumbered l) 0 l (types_with k new)) (same_firsts ∙ ap (λ n. counting 0 n ++ led) index.many)
      ∙ (forms_kept (length k.program.forms) (renumbered (counting 0 (length k.program.forms) ++ led)) (λ t h. number_kept (length k.program.forms) led t h)
      k.program.types 0 k.program.forms led (all_written new) (λ i f e. index.closed i f (within k.program.forms i f e) e)
      ∙ (ap (λ n. k.program.forms ++ forms_from k.program.types (renumbered (counting 0 (length k.program.forms) ++ led)) n led (all_written new)) (none (length k.program.forms))
      ∙ ap (λ n. k.program.forms ++ forms_from k.program.types (renumbered (counting 0 n ++ led)) n led (all_written new)) (sym index.many)))
    where
      none : (n : ℕ) → n + 0 ≡ n
      none n = omega arith

      within : (forms : List TypeForm) (i : ℕ) (f : TypeForm) → item_at forms i ≡ Some f → i < length forms
      within [] i f e = absurd cc
      within (g ∷ forms) zero f e = omega arith
      within (g ∷ forms) (suc i) f e = let h : i < length forms = within forms i f e in omega (arith, h)

  pub is_further : (m : Merged) (base : ℕ) (told : List ℕ) → base ≡ length pointers → told ≡ led → m.numbers ≡ record { base = base; firsts = told }
      → m.forms ≡ forms_from k.program.types (renumbered (counting 0 base ++ told)) base told (all_written new) → IsFurther k new m
  is_further m base told begins is numbers forms = record {
    forms = same_forms ∙ ap (λ (l : List TypeForm). k.program.forms ++ l) (sym (forms ∙ (ap (λ (l : List ℕ). forms_from k.program.types (renumbered (counting 0 base ++ l)) base l (all_written new)) is
        ∙ ap (λ n. forms_from k.program.types (renumbered (counting 0 n ++ led)) n led (all_written new)) begins)));
    numbers = λ t.
        ap (λ (r : Numbering). renumbered (all_firsts r) t) numbers
        ∙ (ap (λ (l : List ℕ). renumbered (counting 0 base ++ l) t) is ∙ (ap (λ n. renumbered (counting 0 n ++ led) t) begins ∙ ap (λ (l : List ℕ). renumbered l t) (sym same_firsts)));
  }

many_placed : (f : ℕ → Option ℕ → ℕ) (place : ℕ) (xs : List (Option ℕ)) → length (placed f place xs) ≡ length xs
many_placed f place [] = refl
many_placed f place (x ∷ xs) = ap suc (many_placed f (suc place) xs)

pub many_led : (names : List (Symbol × TypeId)) (new : List Written) (pointers targets : List (Option ℕ)) (n : ℕ) (told : List ℕ) → targets ≡ map (target_number names) (all_written new)
    → told ≡ firsts_behind pointers n targets → length told ≡ length new
many_led names new pointers targets n told are is =
    ap length is
    ∙ (many_placed (first_behind pointers n targets) n targets ∙ (ap length are ∙ (length-map (all_written new) (target_number names) ∙ length-map new written_of)))

-- as the code has it
pub told_further : (k : Known) (new : List Written) (pointers targets : List (Option ℕ)) (table names : List (Symbol × TypeId)) (told : List ℕ) (m : Merged) → IsIndexed k.program.forms pointers
    → table ≡ k.program.types → names ≡ k.program.types → targets ≡ map (target_number table) (all_written new) → list_all (is_low (length pointers)) targets ≡ true
    → told ≡ firsts_behind pointers (length pointers) targets → m.numbers ≡ record { base = length pointers; firsts = told }
    → m.forms ≡ forms_from names (renumbered (counting 0 (length pointers) ++ told)) (length pointers) told (all_written new) → IsFurther k new m
told_further k new pointers targets table names told m index at_hand at_hand_too are low is numbers forms =
    let same : targets ≡ map (target_number k.program.types) (all_written new) = are ∙ ap (λ (l : List (Symbol × TypeId)). map (target_number l) (all_written new)) at_hand in
    is_further k new pointers index (sym (ap (list_all (is_low (length pointers))) same) ∙ low) m (length pointers) told refl (is ∙ ap (firsts_behind pointers (length pointers)) same) numbers
    (forms ∙ ap (λ (l : List (Symbol × TypeId)). forms_from l (renumbered (counting 0 (length pointers) ++ told)) (length pointers) told (all_written new)) at_hand_too)
