-- Tables of fields have the fields.
use Rattle.std.proofs.Common.{◌≡◌, ℕ, zero, suc, ◌+◌, ◌<◌, ◌≤◌, Bool, true, false, cond, List, [], ◌∷◌, ◌++◌, length, drop, get_or, Option, Some, None, is_some, ◌⊎◌, inl, inr, refl, sym, ap, ◌∙◌, subst, arith}
use Rattle.std.proofs.Math.Seq.{drop-cons}
use Rattle.std.proofs.lemmas.Bool.{cases_lt, eqb-true}
use Rattle.std.proofs.lemmas.List.{length_push, drop_all}
use Rattle.spv_logic.specs.declared.names.names.Symbol.{Symbol}
use Rattle.spv_logic.specs.declared.types.TypeId.{TypeId}
use Rattle.spv_program.specs.declared.types.TypeField.{TypeField}
use Rattle.spv_program.specs.declared.types.TypeForm.{TypeForm}
use Rattle.spv_program.specs.declared.types.TypeForm.TheVariants.{Record}
use Rattle.spv_program.specs.Lists.{found, first_of, same_name}
use Rattle.spv_program.specs.Types.{form_at, field_of, field_type}
use Rattle.spv_environments.specs.Fields.{HasFields, WithField, FieldsSoFar, FieldsTo, AreFields}

-- ---- one field

found_behind : (table others : List (Symbol × TypeId)) (x : Symbol) → found (table ++ others) x ≡ first_of (found table x) (found others x)
found_behind [] others x = refl
found_behind (e ∷ table) others x = by_case (same_name e.0 x) (found_behind table others x)
  where
    by_case : (b : Bool) → found (table ++ others) x ≡ first_of (found table x) (found others x)
        → cond b (Some e.1) (found (table ++ others) x) ≡ first_of (cond b (Some e.1) (found table x)) (found others x)
    by_case true later = refl
    by_case false later = later

pub field_new : (old new : List (Symbol × TypeId)) (field : TypeField) → new ≡ old ++ (field.name, field.of) ∷ [] → WithField old new field
field_new old new field is = record { each = λ x. ap (λ (t : List (Symbol × TypeId)). found t x) is ∙ found_behind old ((field.name, field.of) ∷ []) x }

pub field_known : (table : List (Symbol × TypeId)) (field : TypeField) → is_some (found table field.name) ≡ true → WithField table table field
field_known table field there = record { each = λ x. by_name x (same_name field.name x) refl }
  where
    stays : (o : Option TypeId) (other : Option TypeId) → is_some o ≡ true → o ≡ first_of o other
    stays (Some t) other h = refl
    stays None other h = absurd cc

    none_more : (o : Option TypeId) → o ≡ first_of o None
    none_more (Some t) = refl
    none_more None = refl

    same_found : (x : Symbol) → same_name field.name x ≡ true → found table x ≡ found table field.name
    same_found x e = ap (λ (n : ℕ). found table (record { 0 = n })) (sym (eqb-true field.name.0 x.0 e))

    by_name : (x : Symbol) (b : Bool) → same_name field.name x ≡ b → found table x ≡ first_of (found table x) (cond b (Some field.of) None)
    by_name x true e = stays (found table x) (Some field.of) (ap is_some (same_found x e) ∙ there)
    by_name x false e = none_more (found table x)

-- ---- the fields of a form

pub fields_begin : (fields : List TypeField) → FieldsSoFar fields (drop 0 fields) []
fields_begin fields = record { each = λ x. refl }

or_later : (a b c : Option TypeId) → first_of (first_of a b) c ≡ first_of a (first_of b c)
or_later (Some t) b c = refl
or_later None b c = refl

none_last : (o : Option TypeId) → first_of o None ≡ o
none_last (Some t) = refl
none_last None = refl

one_then : (f : TypeField) (fields : List TypeField) (x : Symbol) → first_of (field_type (f ∷ []) x) (field_type fields x) ≡ field_type (f ∷ fields) x
one_then f fields x = by_case (same_name f.name x)
  where
    by_case : (b : Bool) → first_of (cond b (Some f.of) None) (field_type fields x) ≡ cond b (Some f.of) (field_type fields x)
    by_case true = refl
    by_case false = refl

pub field_noted : (fields : List TypeField) (n : ℕ) (f : TypeField) (old new : List (Symbol × TypeId)) → n < length fields → f ≡ get_or fields n f
    → FieldsSoFar fields (drop n fields) old → WithField old new f → FieldsSoFar fields (drop (suc n) fields) new
field_noted fields n f old new within is so_far with_f = record {
  each = λ x.
      ap (λ o. first_of o (field_type (drop (suc n) fields) x)) (with_f.each x)
      ∙ or_later (found old x) (field_type (f ∷ []) x) (field_type (drop (suc n) fields) x)
      ∙ ap (first_of (found old x)) (one_then f (drop (suc n) fields) x ∙ ap (λ (fs : List TypeField). field_type fs x) (sym opened))
      ∙ so_far.each x;
}
  where
    opened : drop n fields ≡ f ∷ drop (suc n) fields
    opened = drop-cons fields n f within ∙ ap (λ (g : TypeField). g ∷ drop (suc n) fields) (sym is)

pub fields_noted : (fields : List TypeField) (n : ℕ) (table : List (Symbol × TypeId)) → length fields ≤ n → FieldsSoFar fields (drop n fields) table
    → HasFields (Record fields) table
fields_noted fields n table past so_far = record {
  each = λ x.
      sym (none_last (found table x)) ∙ ap (λ (fs : List TypeField). first_of (found table x) (field_type fs x)) (sym (drop_all n fields past)) ∙ so_far.each x;
}

pub no_fields : (form : TypeForm) → ((x : Symbol) → field_of form x ≡ None) → HasFields form []
no_fields form none = record { each = λ x. sym (none x) }

-- ---- a table for each form

got_front : (tables : List (List (Symbol × TypeId))) (t d : List (Symbol × TypeId)) (i : ℕ) → i < length tables → get_or (tables ++ t ∷ []) i d ≡ get_or tables i d
got_front [] t d i h = absurd (omega (arith, h))
got_front (u ∷ tables) t d zero h = refl
got_front (u ∷ tables) t d (suc i) h = got_front tables t d i (omega (arith, h))

got_last : (tables : List (List (Symbol × TypeId))) (t d : List (Symbol × TypeId)) → get_or (tables ++ t ∷ []) (length tables) d ≡ t
got_last [] t d = refl
got_last (u ∷ tables) t d = got_last tables t d

form_front : (forms : List TypeForm) (f : TypeForm) (i : ℕ) → i < length forms → form_at (forms ++ f ∷ []) i ≡ form_at forms i
form_front [] f i h = absurd (omega (arith, h))
form_front (g ∷ forms) f zero h = refl
form_front (g ∷ forms) f (suc i) h = form_front forms f i (omega (arith, h))

form_last : (forms : List TypeForm) (f : TypeForm) → form_at (forms ++ f ∷ []) (length forms) ≡ f
form_last [] f = refl
form_last (g ∷ forms) f = form_last forms f

form_got : (forms : List TypeForm) (i : ℕ) (d : TypeForm) → i < length forms → form_at forms i ≡ get_or forms i d
form_got [] i d h = absurd (omega (arith, h))
form_got (g ∷ forms) zero d h = refl
form_got (g ∷ forms) (suc i) d h = form_got forms i d (omega (arith, h))

before_or_at : (i place : ℕ) → i < suc place → (i < place) ⊎ (i ≡ place)
before_or_at i place h = by_case (cases_lt i place)
  where
    by_case : (i < place) ⊎ (place ≤ i) → (i < place) ⊎ (i ≡ place)
    by_case (inl g) = inl g
    by_case (inr g) = inr (omega (arith, g, h))

-- a table more, for the form at the place behind
one_more : (place : ℕ) (forms : List TypeForm) (tables : List (List (Symbol × TypeId))) (table : List (Symbol × TypeId))
    → place < length forms → FieldsTo place forms tables → HasFields (form_at forms place) table → FieldsTo (suc place) forms (tables ++ table ∷ [])
one_more place forms tables table inside so_far has = record {
  within = omega (arith, inside);
  many = length_push tables table ∙ (ap (λ n. n + 1) so_far.many ∙ next_is place);
  each = λ i x h. by_place i x (before_or_at i place h);
}
  where
    next_is : (n : ℕ) → n + 1 ≡ suc n
    next_is n = omega arith

    within : (i : ℕ) → i < place → i < length tables
    within i h = subst (λ n. i < n) (sym so_far.many) h

    by_place : (i : ℕ) (x : Symbol) → (i < place) ⊎ (i ≡ place) → found (get_or (tables ++ table ∷ []) i []) x ≡ field_of (form_at forms i) x
    by_place i x (inl h) = ap (λ (t : List (Symbol × TypeId)). found t x) (got_front tables table [] i (within i h)) ∙ so_far.each i x h
    by_place i x (inr h) =
        ap (λ (n : ℕ). found (get_or (tables ++ table ∷ []) n []) x) (h ∙ sym so_far.many)
        ∙ (ap (λ (t : List (Symbol × TypeId)). found t x) (got_last tables table [])
        ∙ (has.each x ∙ ap (λ (n : ℕ). field_of (form_at forms n) x) (sym h)))

pub none_yet : (forms : List TypeForm) → FieldsTo 0 forms []
none_yet forms = record { within = omega arith; many = refl; each = λ i x h. absurd (nothing_below i h) }
  where
    nothing_below : (i : ℕ) → i < 0 → ⊥
    nothing_below i h = omega (arith, h)

-- as the code has it
pub table_more : (place : ℕ) (forms : List TypeForm) (tables new : List (List (Symbol × TypeId))) (table : List (Symbol × TypeId)) (f : TypeForm)
    → place < length forms → f ≡ get_or forms place f → FieldsTo place forms tables → HasFields f table → new ≡ tables ++ table ∷ []
    → FieldsTo (place + 1) forms new
table_more place forms tables new table f within is so_far has put =
    subst (λ n. FieldsTo n forms new) (next_is place)
    (subst (FieldsTo (suc place) forms) (sym put)
    (one_more place forms tables table within so_far (subst (λ (g : TypeForm). HasFields g table) (is ∙ sym (form_got forms place f within)) has)))
  where
    next_is : (n : ℕ) → suc n ≡ n + 1
    next_is n = omega arith

pub all_tables : (place : ℕ) (forms : List TypeForm) (tables : List (List (Symbol × TypeId))) → length forms ≤ place → FieldsTo place forms tables → AreFields forms tables
all_tables place forms tables past so_far = record {
  within = omega arith;
  many = so_far.many ∙ same_place;
  each = λ i x h. so_far.each i x (omega (arith, h, past));
}
  where
    same_place : place ≡ length forms
    same_place = omega (arith, past, so_far.within)

pub form_noted : (forms : List TypeForm) (tables new : List (List (Symbol × TypeId))) (table : List (Symbol × TypeId)) (f : TypeForm)
    → AreFields forms tables → HasFields f table → new ≡ tables ++ table ∷ [] → AreFields (forms ++ f ∷ []) new
form_noted forms tables new table f all has put =
    subst (λ n. FieldsTo n (forms ++ f ∷ []) new) (sym (length_push forms f ∙ next_is (length forms)))
    (subst (FieldsTo (suc (length forms)) (forms ++ f ∷ [])) (sym put)
    (one_more (length forms) (forms ++ f ∷ []) tables table inside grown (subst (λ (g : TypeForm). HasFields g table) (sym (form_last forms f)) has)))
  where
    next_is : (n : ℕ) → n + 1 ≡ suc n
    next_is n = omega arith

    inside : length forms < length (forms ++ f ∷ [])
    inside = let longer : length (forms ++ f ∷ []) ≡ length forms + 1 = length_push forms f in omega (arith, longer)

    grown : FieldsTo (length forms) (forms ++ f ∷ []) tables
    grown = record {
      within = omega (arith, inside);
      many = all.many;
      each = λ i x h. all.each i x h ∙ ap (λ (g : TypeForm). field_of g x) (sym (form_front forms f i h));
    }

pub field_there : (forms : List TypeForm) (tables : List (List (Symbol × TypeId))) (place : ℕ) (x : Symbol) (table : List (Symbol × TypeId))
    → place < length forms → AreFields forms tables → table ≡ get_or tables place table → found table x ≡ field_of (form_at forms place) x
field_there forms tables place x table within all is =
    ap (λ (t : List (Symbol × TypeId)). found t x) (is ∙ got_any tables place table [] (subst (λ n. place < n) (sym all.many) within)) ∙ all.each place x within
  where
    got_any : (tables : List (List (Symbol × TypeId))) (i : ℕ) (d e : List (Symbol × TypeId)) → i < length tables → get_or tables i d ≡ get_or tables i e
    got_any [] i d e h = absurd (omega (arith, h))
    got_any (u ∷ tables) zero d e h = refl
    got_any (u ∷ tables) (suc i) d e h = got_any tables i d e (omega (arith, h))
