-- A type outside the TYPE part comes from its tree, and the types that were there stay as they were.
use Rattle.std.proofs.Common.{◌≡◌, ℕ, Bool, true, false, cond, List, [], ◌∷◌, ◌++◌, map, Some, refl, sym, ap, ◌∙◌, subst}
use Rattle.std.specs.Prelude.{◌||◌, ℤ, Ok}
use Rattle.std.specs.List.{list_any}
use Rattle.std.proofs.lemmas.Bool.{false≢true}
use Rattle.spv_logic.specs.declared.names.names.Symbol.{Symbol}
use Rattle.spv_logic.specs.declared.types.TypeId.{TypeId}
use Rattle.spv_tree.specs.syntax.Types.{TypeDenoter}
use Rattle.spv_program.specs.declared.types.TypeField.{TypeField}
use Rattle.spv_program.specs.declared.types.TypeForm.{TypeForm}
use Rattle.spv_program.specs.declared.types.TypeForm.TheVariants.{Integer, Boolean, Range, Pointer, Array, Record}
use Rattle.spv_program.specs.Lists.{same_name, found, item_at}
use Rattle.spv_typing.specs.Known.{OfType, OfConstant, Scope, meaning}
use Rattle.spv_typing.specs.Merging.{Written, Built, form_with, form_of, target_or_first, merged}
use Rattle.spv_typing.specs.TypeWalk.{Reading, denoted}
use Rattle.spv_typing.specs.DeclarationWalk.{NewType, is_type_name, type_walk}
use Rattle.spv_type_soundness.proofs.well_typed.Outcomes.{fine, same_value, went}
use Rattle.spv_type_soundness.specs.faithfulness.Names.{View, constant_named, type_named}
use Rattle.spv_type_soundness.specs.faithfulness.Types.{TypeFrom}
use Rattle.spv_type_soundness.proofs.faithfulness.Firsts.{There}
use Rattle.spv_type_soundness.proofs.faithfulness.Merged.{item_map, item_before, MapItem, map_item, FieldsIn, no_fields_in, one_field_in, FormIn, integer_in, boolean_in, range_in, pointer_in, array_in, record_in, WrittenIn, built_in, FormsRight, forms_kept, forms_right, new_there, old_number, old_form}
use Rattle.spv_type_soundness.proofs.faithfulness.Denoted.{Longer, longer_same, denoted_longer, denoted_from}

-- what stands at a place stays there
pub record Keeps {X : Type 0} (xs ys : List X) : Type 0 where
  pub kept : (i : ℕ) (x : X) → item_at xs i ≡ Some x → item_at ys i ≡ Some x

pub keeps_same : {X : Type 0} (xs : List X) → Keeps xs xs
keeps_same xs = record { kept = λ i x e. e }

pub keeps_on : {X : Type 0} (xs ys zs : List X) → Keeps xs ys → Keeps ys zs → Keeps xs zs
keeps_on xs ys zs g h = record { kept = λ i x e. h.kept i x (g.kept i x e) }

pub keeps_there : {X : Type 0} (xs ys : List X) (i : ℕ) → Keeps xs ys → There xs i → There ys i
keeps_there xs ys i g h = record { item = h.item; is = g.kept i h.item h.is }

-- ---- the same numbers

abbrev record_with : Symbol → TypeId → TypeField
record_with x t = record { name = x; of = t }

fields_alike : (fs : List TypeField) → map (λ (f : TypeField). record_with f.name f.of) fs ≡ fs
fields_alike [] = refl
fields_alike (f ∷ fs) = ap (λ gs. f ∷ gs) (fields_alike fs)

form_alike : (f : TypeForm) → form_with (λ t. t) f ≡ f
form_alike Integer = refl
form_alike Boolean = refl
form_alike (Range low high) = refl
form_alike (Pointer t) = refl
form_alike (Array i e) = refl
form_alike (Record fs) = ap Record (fields_alike fs)

fields_later : {X Y : Type 0} (xs : List X) (ys : List Y) → ((i : ℕ) → There xs i → There ys i) → (fs : List TypeField) → FieldsIn xs fs
    → FieldsIn ys fs
fields_later xs ys go [] no_fields_in = no_fields_in
fields_later xs ys go (f ∷ fs) (one_field_in g gs h rest) = one_field_in f fs (go f.of.0 h) (fields_later xs ys go fs rest)

pub form_later : {X Y : Type 0} (xs : List X) (ys : List Y) → ((i : ℕ) → There xs i → There ys i) → (f : TypeForm) → FormIn xs f
    → FormIn ys f
form_later xs ys go Integer integer_in = integer_in
form_later xs ys go Boolean boolean_in = boolean_in
form_later xs ys go (Range low high) (range_in a b) = range_in low high
form_later xs ys go (Pointer t) (pointer_in u h) = pointer_in t (go t.0 h)
form_later xs ys go (Array i e) (array_in j u g h) = array_in i e (go i.0 g) (go e.0 h)
form_later xs ys go (Record fs) (record_in gs h) = record_in fs (fields_later xs ys go fs h)

pub any_found : (types : List (Symbol × TypeId)) (x : Symbol) → list_any (λ (n : Symbol × TypeId). same_name n.0 x) types ≡ true
    → found types x ≡ Some (target_or_first (found types x))
any_found [] x h = absurd (false≢true h)
any_found (n ∷ types) x h = by_case (same_name n.0 x) h (any_found types x)
  where
    by_case : (b : Bool) → (b || list_any (λ (n : Symbol × TypeId). same_name n.0 x) types) ≡ true
        → (list_any (λ (n : Symbol × TypeId). same_name n.0 x) types ≡ true → found types x ≡ Some (target_or_first (found types x)))
        → cond b (Some n.1) (found types x) ≡ Some (target_or_first (cond b (Some n.1) (found types x)))
    by_case true k go = refl
    by_case false k go = go k

pub plain_forms : (names : List (Symbol × TypeId)) (whole : List Written) (i : ℕ) (w : Written) → item_at whole i ≡ Some w
    → item_at (map (form_of names) whole) i ≡ Some (form_with (λ t. t) (form_of names w))
plain_forms names whole i w e = item_map (form_of names) whole i w e ∙ ap Some (sym (form_alike (form_of names w)))

-- ---- what is written is built of types that are there, whatever their final numbers

abbrev with_forms : View → List TypeForm → View
with_forms v forms = record { start = v.start; program = record v.program { forms = forms }; own = v.own; here = v.here }

pub record WrittenAll (names : List (Symbol × TypeId)) (whole written : List Written) : Type 0 where
  pub each_in : (i : ℕ) (w : Written) → item_at written i ≡ Some w → WrittenIn names whole w

pub record AllThere (names : List (Symbol × TypeId)) (whole : List Written) (r : Reading) : Type 0 where
  pub there : There r.written r.type.0
  pub all : WrittenAll names whole r.written

module _ (s : Scope) (is_target : Symbol → Bool) (v : View) (names : List (Symbol × TypeId)) (base whole : List Written)
    (types_there : (x : Symbol) (t : TypeId) → meaning s x ≡ Some (OfType t) → There base t.0)
    (types_named : (x : Symbol) (t : TypeId) → meaning s x ≡ Some (OfType t) → type_named v x ≡ Some t)
    (constants : (x : Symbol) (z : ℤ) → meaning s x ≡ Some (OfConstant z) → constant_named v x ≡ Some z)
    (targets_there : (x : Symbol) → is_target x ≡ true → There whole (target_or_first (found names x)).0)
    (targets_found : (x : Symbol) → is_target x ≡ true → found names x ≡ Some (target_or_first (found names x))) where
  pub all_there : (types : List Written) (t : TypeDenoter) (r : Reading) → Longer base types → WrittenAll names whole types
      → denoted s is_target types t ≡ Ok r → Longer r.written whole → AllThere names whole r
  all_there types t r l all e later =
      let h = denoted_from s is_target (with_forms v (map (form_of names) whole)) names names base whole (λ t. t)
      (λ i w h. plain_forms names whole i w h) types_there types_named constants targets_there targets_found targets_found
      types t r l (record { each_in = all.each_in }) e later in
      record { there = h.there; all = record { each_in = h.all_in.each_in } }

-- ---- a type outside the TYPE part

pub record NewFrom (v : View) (types : List (Symbol × TypeId)) (forms : List TypeForm) (t : TypeDenoter) (n : NewType) : Type 0 where
  pub right : FormsRight n.forms
  pub keeps : Keeps forms n.forms
  pub there : There n.forms n.type.0
  pub from : Keeps n.forms v.program.forms → TypeFrom v types n.type t

module _ (s : Scope) (v : View) (before_right : FormsRight s.known.program.forms)
    (types_there : (x : Symbol) (t : TypeId) → meaning s x ≡ Some (OfType t) → There s.known.program.forms t.0)
    (names_there : (x : Symbol) (t : TypeId) → found s.known.program.types x ≡ Some t → There s.known.program.forms t.0)
    (types_named : (x : Symbol) (t : TypeId) → meaning s x ≡ Some (OfType t) → type_named v x ≡ Some t)
    (constants : (x : Symbol) (z : ℤ) → meaning s x ≡ Some (OfConstant z) → constant_named v x ≡ Some z) where
  abbrev forms : List TypeForm
  forms = s.known.program.forms

  abbrev types : List (Symbol × TypeId)
  types = s.known.program.types

  abbrev base : List Written
  base = map Built forms

  base_there : (i : ℕ) → There forms i → There base i
  base_there i h = record { item = Built h.item; is = item_map Built forms i h.item h.is }

  whole_there : (more : List Written) (i : ℕ) → There forms i → There (base ++ more) i
  whole_there more i h = record { item = Built h.item; is = item_before base more i (Built h.item) (item_map Built forms i h.item h.is) }

  base_in : (more : List Written) → WrittenAll types (base ++ more) base
  base_in more = record { each_in = λ i w e. by_item i w (map_item Built forms i w e) }
    where
      by_item : (i : ℕ) (w : Written) → MapItem Built forms i w → WrittenIn types (base ++ more) w
      by_item i w m = subst (WrittenIn types (base ++ more)) m.same
          (built_in m.item (form_later forms (base ++ more) (λ j h. whole_there more j h) m.item (before_right.inside i m.item m.is)))

  abbrev target : Symbol → Bool
  target = is_type_name s.known.program

  new_at : (t : TypeDenoter) (u : TypeId) (more : List Written) → denoted s target base t ≡ Ok (record { written = base ++ more; type = u })
      → NewFrom v types forms t (record { forms = (merged types (base ++ more)).forms; type = (merged types (base ++ more)).new u })
  new_at t u more e =
      let whole = base ++ more in
      let m = merged types whole in
      let r : Reading = record { written = whole; type = u } in
      let found_there = λ (x : Symbol) (h : target x ≡ true). any_found types x h in
      let target_there = λ (x : Symbol) (h : target x ≡ true). whole_there more (target_or_first (found types x)).0
      (names_there x (target_or_first (found types x)) (any_found types x h)) in
      let old_there = λ (x : Symbol) (w : TypeId) (h : meaning s x ≡ Some (OfType w)). base_there w.0 (types_there x w h) in
      let l = denoted_longer s target base t r e in
      let a = all_there s target v types base whole old_there types_named constants target_there found_there base t r (longer_same base)
      (base_in more) e (longer_same whole) in
      let all = λ (i : ℕ) (w : Written) (h : item_at whole i ≡ Some w). a.all.each_in i w h in
      let number = λ (w : TypeId) (h : There forms w.0). old_number types forms more before_right all w h in
      let kept : Keeps forms m.forms = record { kept = λ i f h. old_form types forms more before_right all i f h } in
      record {
        right = forms_right types whole all;
        keeps = kept;
        there = new_there types whole all u a.there;
        from = λ later.
            (denoted_from s target v types types base whole m.new
            (λ i w h. later.kept (m.new (record { 0 = i })).0 (form_with m.new (form_of types w)) (forms_kept types whole all i w h))
            old_there
            (λ x w h. types_named x w h ∙ ap Some (sym (number w (types_there x w h)))) constants target_there found_there
            (λ x h. any_found types x h ∙ ap Some (sym (number (target_or_first (found types x))
            (names_there x (target_or_first (found types x)) (any_found types x h)))))
            base t r (longer_same base) (record { each_in = (base_in more).each_in }) e (longer_same whole)).from;
      }

  abbrev reading_of : List Written → TypeId → Reading
  reading_of ws u = record { written = ws; type = u }

  abbrev merged_at : Reading → NewType
  merged_at r = record { forms = (merged types r.written).forms; type = (merged types r.written).new r.type }

  pub new_from : (t : TypeDenoter) (n : NewType) → type_walk s t ≡ Ok n → NewFrom v types forms t n
  new_from t n e =
      let one = went (denoted s target base t) (λ r. fine (merged_at r)) n e in
      let l = denoted_longer s target base t one.value one.first in
      subst (NewFrom v types forms t) (ap (λ ws. merged_at (reading_of ws one.value.type)) (sym l.is) ∙ same_value one.rest)
      (new_at t one.value.type l.more (one.first ∙ ap (λ ws. fine (reading_of ws one.value.type)) l.is))
