-- Types come from their trees: the walk numbers them as they are written, and a merging gives them their final numbers.
use Rattle.std.proofs.Common.{◌≡◌, ℕ, zero, suc, Bool, true, false, cond, List, [], ◌∷◌, ◌++◌, map, length, Option, Some, None, refl, sym, ap, ◌∙◌, subst}
use Rattle.std.specs.Prelude.{ℤ, Ok, Err, not, ◌&&◌}
use Rattle.std.specs.List.{list_any}
use Rattle.std.specs.Int.RustNames.{int_lt}
use Rattle.std.proofs.lemmas.List.{append_assoc, append-nil}
use Rattle.spv_logic.specs.declared.names.names.Symbol.{Symbol}
use Rattle.spv_logic.specs.declared.types.TypeId.{TypeId}
use Rattle.spv_tree.specs.declared.syntax.lists.Several.{Several}
use Rattle.spv_tree.specs.declared.syntax.names.Name.{Name}
use Rattle.spv_tree.specs.declared.syntax.names.Constant.{Constant}
use Rattle.spv_tree.specs.syntax.Types.{TypeDenoter, MoreTypes, Field, MoreFields, range, pointer, array, fields, no_more_types, more_types, no_field, field, no_more_fields, more_fields}
use Rattle.spv_tree.specs.syntax.Types as tree
use Rattle.spv_program.specs.declared.types.TypeField.{TypeField}
use Rattle.spv_program.specs.declared.types.TypeForm.TheVariants as form
use Rattle.spv_program.specs.Lists.{same_name, found, item_at}
use Rattle.spv_program.proofs.SortFacts.{nothing_there, some_is}
use Rattle.spv_typing.specs.Outcomes.{Outcome, after, where_so, each, undeclared, twice, wrong}
use Rattle.spv_typing.specs.Known.{Meaning, OfType, OfList, OfConstant, OfPlace, OfStart, OfSymbol, OfRoutine, Scope, meaning}
use Rattle.spv_typing.specs.Merging.{Written, Built, PointerTo, form_with, form_of, target_or_first}
use Rattle.spv_typing.specs.TypeWalk.{all_names, constant, Reading, adding, type_named, pointer_named, type_line, is_range, Index, Indices, check_index, nested, nested_if_ranges, Fields, new_field, with_fields, denoted, all_denoted, field_denoted, fields_denoted}
use Rattle.spv_type_soundness.proofs.well_typed.Outcomes.{fine, no_fault, same_value, went, behind_test}
use Rattle.spv_type_soundness.specs.faithfulness.Names.{View, constant_named}
use Rattle.spv_type_soundness.specs.faithfulness.Names as seen_names
use Rattle.spv_type_soundness.specs.faithfulness.Types.{fields_of, TypeFrom, FieldsFrom}
use Rattle.spv_type_soundness.specs.faithfulness.Types as origin
use Rattle.spv_type_soundness.proofs.faithfulness.Firsts.{There}
use Rattle.spv_type_soundness.proofs.faithfulness.Merged.{item_before, item_behind, FieldsIn, no_fields_in, one_field_in, range_in, array_in, record_in, WrittenIn, built_in, target_in}
use Rattle.spv_type_soundness.proofs.faithfulness.Constants.{constant_from}

-- ---- lists that grow

pub record Longer {X : Type 0} (xs ys : List X) : Type 0 where
  pub more : List X
  pub is : ys ≡ xs ++ more

pub longer_same : {X : Type 0} (xs : List X) → Longer xs xs
longer_same xs = record { more = []; is = sym (append-nil xs) }

pub longer_on : {X : Type 0} (xs ys zs : List X) → Longer xs ys → Longer ys zs → Longer xs zs
longer_on xs ys zs g h = record { more = g.more ++ h.more; is = h.is ∙ (ap (λ q. q ++ h.more) g.is ∙ append_assoc xs g.more h.more) }

pub longer_one : {X : Type 0} (xs : List X) (x : X) → Longer xs (xs ++ x ∷ [])
longer_one xs x = record { more = x ∷ []; is = refl }

pub longer_item : {X : Type 0} (xs ys : List X) (i : ℕ) (x : X) → Longer xs ys → item_at xs i ≡ Some x → item_at ys i ≡ Some x
longer_item xs ys i x h e = ap (λ q. item_at q i) h.is ∙ item_before xs h.more i x e

pub longer_there : {X : Type 0} (xs ys : List X) (i : ℕ) → Longer xs ys → There xs i → There ys i
longer_there xs ys i h t = record { item = t.item; is = longer_item xs ys i t.item h t.is }

-- ---- names of fields

field_names : (done : List TypeField) (before : List Symbol) (xs : List Name) (all : List Symbol)
    → each (new_field done) before xs ≡ Ok all → before ++ map (λ (x : Name). x.symbol) xs ≡ all
field_names done before [] all e = append-nil before ∙ same_value e
field_names done before (x ∷ xs) all e =
    let one = went (new_field done before x) (λ next. each (new_field done) next xs) all e in
    let next = same_value (behind_test (not (list_any (λ f. same_name f.name x.symbol) done) && not
    (list_any (same_name x.symbol) before)) (twice x) (fine (before ++ x.symbol ∷ [])) one.value one.first) in
    sym (append_assoc before (x.symbol ∷ []) (map (λ (y : Name). y.symbol) xs))
    ∙ (ap (λ q. q ++ map (λ (y : Name). y.symbol) xs) next ∙ field_names done one.value xs all one.rest)

-- indices that were checked
checked_same : (types : List Written) (before all indices : List Index) → each (check_index types) before indices ≡ Ok all
    → before ++ indices ≡ all
checked_same types before all [] e = append-nil before ∙ same_value e
checked_same types before all (i ∷ indices) e =
    let one = went (check_index types before i) (λ next. each (check_index types) next indices) all e in
    let next = same_value (behind_test (is_range (item_at types i.type.0)) (wrong i.line) (fine (before ++ i ∷ [])) one.value one.first) in
    sym (append_assoc before (i ∷ []) indices) ∙ (ap (λ q. q ++ indices) next ∙ checked_same types one.value all indices one.rest)

-- ---- the list of types grows

nested_longer : (types : List Written) (indices : List Index) (e : TypeId) → Longer types (nested types indices e).written
nested_longer types [] e = longer_same types
nested_longer types (i ∷ indices) e =
    let inner = nested types indices e in
    longer_on types inner.written (inner.written ++ Built (form.Array i.type inner.type) ∷ []) (nested_longer types indices e)
    (longer_one inner.written (Built (form.Array i.type inner.type)))

abbrev kept : List Written → TypeId → Reading
kept types t = record { written = types; type = t }

abbrev indices_of : TypeDenoter → Reading → Indices
indices_of first one = record { written = one.written; indices = record { type = one.type; line = type_line first } ∷ [] }

abbrev index_more : Indices → TypeDenoter → Reading → Indices
index_more i t r = record { written = r.written; indices = i.indices ++ record { type = r.type; line = type_line t } ∷ [] }

abbrev no_fields_yet : List Written → Fields
no_fields_yet types = record { written = types; fields = [] }

abbrev no_target : ℕ → Name → Option Meaning → Outcome Reading
no_target line x None = Err (undeclared x)
no_target line x (Some m) = Err (wrong line)

module _ (s : Scope) (is_target : Symbol → Bool) where
  pointer_longer : (types : List Written) (line : ℕ) (x : Name) (m : Option Meaning) (r : Reading)
      → pointer_named is_target types line x m ≡ Ok r → Longer types r.written
  pointer_longer types line x m r e = by_case (is_target x.symbol) m e
    where
      by_case : (b : Bool) (m : Option Meaning) → cond b (fine (adding types (PointerTo x.symbol))) (no_target line x m) ≡ Ok r
          → Longer types r.written
      by_case true m f = subst (λ (q : Reading). Longer types q.written) (same_value f) (longer_one types (PointerTo x.symbol))
      by_case false None f = absurd (no_fault f)
      by_case false (Some m) f = absurd (no_fault f)

  mutual
    pub denoted_longer : (types : List Written) (t : TypeDenoter) (r : Reading) → denoted s is_target types t ≡ Ok r
        → Longer types r.written
    denoted_longer types (tree.named line x) r e =
        let one = went (type_named line x (meaning s x.symbol)) (λ t. fine (kept types t)) r e in
        subst (λ (q : Reading). Longer types q.written) (same_value one.rest) (longer_same types)
    denoted_longer types (range line low high) r e =
        let one = went (constant s low) (λ a. after (constant s high) (λ b. where_so (not (int_lt b a)) (wrong line)
        (fine (adding types (Built (form.Range a b)))))) r e in
        let two = went (constant s high) (λ b. where_so (not (int_lt b one.value)) (wrong line)
        (fine (adding types (Built (form.Range one.value b))))) r one.rest in
        let is = same_value (behind_test (not (int_lt two.value one.value)) (wrong line)
        (fine (adding types (Built (form.Range one.value two.value)))) r two.rest) in
        subst (λ (q : Reading). Longer types q.written) is (longer_one types (Built (form.Range one.value two.value)))
    denoted_longer types (pointer line x) r e = pointer_longer types line x (meaning s x.symbol) r e
    denoted_longer types (array line first more elements) r e =
        let one = went (denoted s is_target types first) (λ one. after (all_denoted s is_target (indices_of first one) more)
        (λ i. after (denoted s is_target i.written elements) (λ e. nested_if_ranges e.written i.indices e.type))) r e in
        let two = went (all_denoted s is_target (indices_of first one.value) more)
        (λ i. after (denoted s is_target i.written elements) (λ e. nested_if_ranges e.written i.indices e.type)) r one.rest in
        let three = went (denoted s is_target two.value.written elements) (λ e. nested_if_ranges e.written two.value.indices e.type) r
        two.rest in
        let four = went (each (check_index three.value.written) [] two.value.indices)
        (λ all. fine (nested three.value.written all three.value.type)) r three.rest in
        let first_longer = denoted_longer types first one.value one.first in
        let all_longer = all_longer_of (indices_of first one.value) more two.value two.first in
        let elements_longer = denoted_longer two.value.written elements three.value three.first in
        let last = subst (λ (q : Reading). Longer three.value.written q.written) (same_value four.rest)
        (nested_longer three.value.written four.value three.value.type) in
        longer_on types one.value.written r.written first_longer
        (longer_on one.value.written two.value.written r.written all_longer
        (longer_on two.value.written three.value.written r.written elements_longer last))
    denoted_longer types (fields line first more) r e =
        let one = went (field_denoted s is_target (no_fields_yet types) first)
        (λ one. after (fields_denoted s is_target one more) (λ all. fine (adding all.written (Built (form.Record all.fields))))) r e in
        let two = went (fields_denoted s is_target one.value more) (λ all. fine (adding all.written (Built (form.Record all.fields)))) r
        one.rest in
        let last = subst (λ (q : Reading). Longer two.value.written q.written) (same_value two.rest)
        (longer_one two.value.written (Built (form.Record two.value.fields))) in
        longer_on types one.value.written r.written (field_longer (no_fields_yet types) first one.value one.first)
        (longer_on one.value.written two.value.written r.written (fields_longer one.value more two.value two.first) last)

    all_longer_of : (i : Indices) (more : MoreTypes) (all : Indices) → all_denoted s is_target i more ≡ Ok all
        → Longer i.written all.written
    all_longer_of i no_more_types all e = subst (λ (q : Indices). Longer i.written q.written) (same_value e) (longer_same i.written)
    all_longer_of i (more_types t more) all e =
        let one = went (denoted s is_target i.written t) (λ r. all_denoted s is_target (index_more i t r) more) all e in
        longer_on i.written one.value.written all.written (denoted_longer i.written t one.value one.first)
        (all_longer_of (index_more i t one.value) more all one.rest)

    field_longer : (fs : Fields) (f : Field) (all : Fields) → field_denoted s is_target fs f ≡ Ok all → Longer fs.written all.written
    field_longer fs (no_field line) all e = subst (λ (q : Fields). Longer fs.written q.written) (same_value e) (longer_same fs.written)
    field_longer fs (field line names of) all e =
        let one = went (each (new_field fs.fields) [] (all_names names))
        (λ new. after (denoted s is_target fs.written of) (λ r. fine (with_fields fs new r.type r.written))) all e in
        let two = went (denoted s is_target fs.written of) (λ r. fine (with_fields fs one.value r.type r.written)) all one.rest in
        subst (λ (q : Fields). Longer fs.written q.written) (same_value two.rest) (denoted_longer fs.written of two.value two.first)

    fields_longer : (fs : Fields) (more : MoreFields) (all : Fields) → fields_denoted s is_target fs more ≡ Ok all
        → Longer fs.written all.written
    fields_longer fs no_more_fields all e = subst (λ (q : Fields). Longer fs.written q.written) (same_value e) (longer_same fs.written)
    fields_longer fs (more_fields f more) all e =
        let one = went (field_denoted s is_target fs f) (λ next. fields_denoted s is_target next more) all e in
        longer_on fs.written one.value.written all.written (field_longer fs f one.value one.first)
        (fields_longer one.value more all one.rest)

-- ---- the type that was read is there

nested_there : (types : List Written) (indices : List Index) (e : TypeId) → There types e.0
    → There (nested types indices e).written (nested types indices e).type.0
nested_there types [] e h = h
nested_there types (i ∷ indices) e h =
    let inner = nested types indices e in
    record { item = Built (form.Array i.type inner.type); is = item_behind inner.written (Built (form.Array i.type inner.type)) }

last_there : (types : List Written) (w : Written) (r : Reading) → adding types w ≡ r → There r.written r.type.0
last_there types w r e = subst (λ (q : Reading). There q.written q.type.0) e (record { item = w; is = item_behind types w })

module _ (s : Scope) (is_target : Symbol → Bool) (base : List Written)
    (types_there : (x : Symbol) (t : TypeId) → meaning s x ≡ Some (OfType t) → There base t.0) where
  name_there : (line : ℕ) (x : Name) (m : Option Meaning) (t : TypeId) → meaning s x.symbol ≡ m → type_named line x m ≡ Ok t
      → There base t.0
  name_there line x None t h e = absurd (no_fault e)
  name_there line x (Some (OfType u)) t h e = subst (λ (q : TypeId). There base q.0) (same_value e) (types_there x.symbol u h)
  name_there line x (Some OfList) t h e = absurd (no_fault e)
  name_there line x (Some (OfConstant z)) t h e = absurd (no_fault e)
  name_there line x (Some (OfPlace u)) t h e = absurd (no_fault e)
  name_there line x (Some (OfStart r)) t h e = absurd (no_fault e)
  name_there line x (Some (OfSymbol d)) t h e = absurd (no_fault e)
  name_there line x (Some (OfRoutine q)) t h e = absurd (no_fault e)

  pointer_there : (types : List Written) (line : ℕ) (x : Name) (b : Bool) (m : Option Meaning) (r : Reading)
      → cond b (fine (adding types (PointerTo x.symbol))) (no_target line x m) ≡ Ok r → There r.written r.type.0
  pointer_there types line x true m r f = last_there types (PointerTo x.symbol) r (same_value f)
  pointer_there types line x false None r f = absurd (no_fault f)
  pointer_there types line x false (Some m) r f = absurd (no_fault f)

  pub denoted_there : (types : List Written) (t : TypeDenoter) (r : Reading) → Longer base types → denoted s is_target types t ≡ Ok r
      → There r.written r.type.0
  denoted_there types (tree.named line x) r l e =
      let one = went (type_named line x (meaning s x.symbol)) (λ t. fine (kept types t)) r e in
      let h = longer_there base types one.value.0 l (name_there line x (meaning s x.symbol) one.value refl one.first) in
      subst (λ (q : Reading). There q.written q.type.0) (same_value one.rest) h
  denoted_there types (range line low high) r l e =
      let one = went (constant s low) (λ a. after (constant s high) (λ b. where_so (not (int_lt b a)) (wrong line)
      (fine (adding types (Built (form.Range a b)))))) r e in
      let two = went (constant s high) (λ b. where_so (not (int_lt b one.value)) (wrong line)
      (fine (adding types (Built (form.Range one.value b))))) r one.rest in
      last_there types (Built (form.Range one.value two.value)) r
      (same_value (behind_test (not (int_lt two.value one.value)) (wrong line)
      (fine (adding types (Built (form.Range one.value two.value)))) r two.rest))
  denoted_there types (pointer line x) r l e = pointer_there types line x (is_target x.symbol) (meaning s x.symbol) r e
  denoted_there types (array line first more elements) r l e =
      let one = went (denoted s is_target types first) (λ one. after (all_denoted s is_target (indices_of first one) more)
      (λ i. after (denoted s is_target i.written elements) (λ e. nested_if_ranges e.written i.indices e.type))) r e in
      let two = went (all_denoted s is_target (indices_of first one.value) more)
      (λ i. after (denoted s is_target i.written elements) (λ e. nested_if_ranges e.written i.indices e.type)) r one.rest in
      let three = went (denoted s is_target two.value.written elements) (λ e. nested_if_ranges e.written two.value.indices e.type) r
      two.rest in
      let four = went (each (check_index three.value.written) [] two.value.indices)
      (λ all. fine (nested three.value.written all three.value.type)) r three.rest in
      let b1 = longer_on base types one.value.written l (denoted_longer s is_target types first one.value one.first) in
      let b2 = longer_on base one.value.written two.value.written b1
      (all_longer_of s is_target (indices_of first one.value) more two.value two.first) in
      let h = denoted_there two.value.written elements three.value b2 three.first in
      subst (λ (q : Reading). There q.written q.type.0) (same_value four.rest)
      (nested_there three.value.written four.value three.value.type h)
  denoted_there types (fields line first more) r l e =
      let one = went (field_denoted s is_target (no_fields_yet types) first)
      (λ one. after (fields_denoted s is_target one more) (λ all. fine (adding all.written (Built (form.Record all.fields))))) r e in
      let two = went (fields_denoted s is_target one.value more) (λ all. fine (adding all.written (Built (form.Record all.fields)))) r
      one.rest in
      last_there two.value.written (Built (form.Record two.value.fields)) r (same_value two.rest)

-- ---- with the final numbers

module _ (s : Scope) (is_target : Symbol → Bool) (v : View) (targets names : List (Symbol × TypeId)) (base whole : List Written)
    (new : TypeId → TypeId)
    (forms : (i : ℕ) (w : Written) → item_at whole i ≡ Some w
    → item_at v.program.forms (new (record { 0 = i })).0 ≡ Some (form_with new (form_of names w)))
    (types_there : (x : Symbol) (t : TypeId) → meaning s x ≡ Some (OfType t) → There base t.0)
    (types_named : (x : Symbol) (t : TypeId) → meaning s x ≡ Some (OfType t) → seen_names.type_named v x ≡ Some (new t))
    (constants : (x : Symbol) (z : ℤ) → meaning s x ≡ Some (OfConstant z) → constant_named v x ≡ Some z)
    (targets_there : (x : Symbol) → is_target x ≡ true → There whole (target_or_first (found names x)).0)
    (targets_found : (x : Symbol) → is_target x ≡ true → found names x ≡ Some (target_or_first (found names x)))
    (targets_named : (x : Symbol) → is_target x ≡ true → found targets x ≡ Some (new (target_or_first (found names x)))) where
  abbrev From : TypeId → TypeDenoter → Type 0
  From t d = TypeFrom v targets (new t) d

  -- what is written is built of types that are there
  pub record AllIn (written : List Written) : Type 0 where
    pub each_in : (i : ℕ) (w : Written) → item_at written i ≡ Some w → WrittenIn names whole w

  data LastOr {X : Type 0} (xs : List X) (y : X) (i : ℕ) (x : X) : Type 0 where
    earlier : item_at xs i ≡ Some x → LastOr xs y i x
    last : y ≡ x → LastOr xs y i x

  last_or : {X : Type 0} (xs : List X) (y : X) (i : ℕ) (x : X) → item_at (xs ++ y ∷ []) i ≡ Some x → LastOr xs y i x
  last_or [] y zero x e = last (some_is e)
  last_or [] y (suc i) x e = absurd (nothing_there e)
  last_or (a ∷ xs) y zero x e = earlier e
  last_or (a ∷ xs) y (suc i) x e = by_rest (last_or xs y i x e)
    where
      by_rest : LastOr xs y i x → LastOr (a ∷ xs) y (suc i) x
      by_rest (earlier h) = earlier h
      by_rest (last h) = last h

  one_in : (written : List Written) (w : Written) → AllIn written → WrittenIn names whole w → AllIn (written ++ w ∷ [])
  one_in written w all h = record { each_in = λ i u e. by_place i u (last_or written w i u e) }
    where
      by_place : (i : ℕ) (u : Written) → LastOr written w i u → WrittenIn names whole u
      by_place i u (earlier k) = all.each_in i u k
      by_place i u (last k) = subst (WrittenIn names whole) k h

  -- a type that was read
  pub record ReadFrom (types : List Written) (t : TypeDenoter) (r : Reading) : Type 0 where
    pub there : There r.written r.type.0
    pub all_in : AllIn r.written
    pub from : From r.type t

  -- a type that was added is there, with its form
  added_form : (types : List Written) (w : Written) → Longer (types ++ w ∷ []) whole
      → item_at v.program.forms (new (record { 0 = length types })).0 ≡ Some (form_with new (form_of names w))
  added_form types w later = forms (length types) w (longer_item (types ++ w ∷ []) whole (length types) w later (item_behind types w))

  added_there : (types : List Written) (w : Written) → There (adding types w).written (adding types w).type.0
  added_there types w = record { item = w; is = item_behind types w }

  -- ---- names, subranges, pointers

  named_from : (types : List Written) (line on : ℕ) (x : Name) (m : Option Meaning) (t : TypeId) → Longer base types
      → meaning s x.symbol ≡ m → type_named on x m ≡ Ok t → There types t.0 × TypeFrom v targets (new t) (tree.named line x)
  named_from types line on x None t l h e = absurd (no_fault e)
  named_from types line on x (Some (OfType u)) t l h e =
      let same : u ≡ t = same_value e in (
        subst (λ (q : TypeId). There types q.0) same (longer_there base types u.0 l (types_there x.symbol u h)),
        origin.by_name
            (types_named x.symbol u h ∙ ap (λ q. Some (new q)) same),
      )
  named_from types line on x (Some OfList) t l h e = absurd (no_fault e)
  named_from types line on x (Some (OfConstant z)) t l h e = absurd (no_fault e)
  named_from types line on x (Some (OfPlace u)) t l h e = absurd (no_fault e)
  named_from types line on x (Some (OfStart r)) t l h e = absurd (no_fault e)
  named_from types line on x (Some (OfSymbol d)) t l h e = absurd (no_fault e)
  named_from types line on x (Some (OfRoutine q)) t l h e = absurd (no_fault e)

  range_from : (types : List Written) (line : ℕ) (low high : Constant) (r : Reading) → AllIn types
      → denoted s is_target types (range line low high) ≡ Ok r → Longer r.written whole → ReadFrom types (range line low high) r
  range_from types line low high r all e later =
      let one = went (constant s low) (λ a. after (constant s high) (λ b. where_so (not (int_lt b a)) (wrong line)
      (fine (adding types (Built (form.Range a b)))))) r e in
      let two = went (constant s high) (λ b. where_so (not (int_lt b one.value)) (wrong line)
      (fine (adding types (Built (form.Range one.value b))))) r one.rest in
      let w = Built (form.Range one.value two.value) in
      let is : adding types w ≡ r = same_value (behind_test (not (int_lt two.value one.value)) (wrong line) (fine (adding types w)) r
      two.rest) in
      let end : Longer (types ++ w ∷ []) whole = subst (λ (q : Reading). Longer q.written whole) (sym is) later in
      subst (ReadFrom types (range line low high)) is
      (record {
        there = added_there types w;
        all_in = one_in types w all (built_in (form.Range one.value two.value) (range_in one.value two.value));
        from = origin.subrange (added_form types w end) (constant_from s v constants low one.value one.first)
            (constant_from s v constants high two.value two.first);
      })

  pointer_from : (types : List Written) (line : ℕ) (x : Name) (m : Option Meaning) (r : Reading) → AllIn types
      → pointer_named is_target types line x m ≡ Ok r → Longer r.written whole → ReadFrom types (pointer line x) r
  pointer_from types line x m r all e later = by_case (is_target x.symbol) refl m e
    where
      by_case : (b : Bool) → is_target x.symbol ≡ b → (m : Option Meaning)
          → cond b (fine (adding types (PointerTo x.symbol))) (no_target line x m) ≡ Ok r → ReadFrom types (pointer line x) r
      by_case true h m f =
          let w = PointerTo x.symbol in
          let is : adding types w ≡ r = same_value f in
          let end : Longer (types ++ w ∷ []) whole = subst (λ (q : Reading). Longer q.written whole) (sym is) later in
          subst (ReadFrom types (pointer line x)) is
          (record {
            there = added_there types w;
            all_in = one_in types w all (target_in x.symbol (target_or_first (found names x.symbol)) (targets_found x.symbol h)
                (targets_there x.symbol h));
            from = origin.to_cells (added_form types w end) (targets_named x.symbol h);
          })
      by_case false h None f = absurd (no_fault f)
      by_case false h (Some m) f = absurd (no_fault f)

  -- ---- arrays

  data IndicesFrom : List Index → MoreTypes → Type 0 where
    no_indices : IndicesFrom [] no_more_types
    one_index : (i : Index) (is : List Index) (t : TypeDenoter) (more : MoreTypes) → From i.type t → IndicesFrom is more
        → IndicesFrom (i ∷ is) (more_types t more)

  data IndicesThere (types : List Written) : List Index → Type 0 where
    none_there : IndicesThere types []
    one_there : (i : Index) (is : List Index) → There types i.type.0 → IndicesThere types is → IndicesThere types (i ∷ is)

  indices_later : (types more : List Written) (is : List Index) → Longer types more → IndicesThere types is → IndicesThere more is
  indices_later types more [] l none_there = none_there
  indices_later types more (i ∷ is) l (one_there j js h rest) = one_there i is (longer_there types more i.type.0 l h)
      (indices_later types more is l rest)

  indices_append : (types : List Written) (is js : List Index) → IndicesThere types is → IndicesThere types js
      → IndicesThere types (is ++ js)
  indices_append types [] js none_there h = h
  indices_append types (i ∷ is) js (one_there a us g rest) h = one_there i (is ++ js) g (indices_append types is js rest h)

  record NestedIn (types : List Written) (is : List Index) (e : TypeId) : Type 0 where
    pub there : There (nested types is e).written (nested types is e).type.0
    pub all_in : AllIn (nested types is e).written

  nested_in : (types : List Written) (is : List Index) (e : TypeId) → AllIn types → There types e.0 → IndicesThere types is
      → Longer (nested types is e).written whole → NestedIn types is e
  nested_in types [] e all h none_there later = record { there = h; all_in = all }
  nested_in types (i ∷ is) e all h (one_there j js g rest) later =
      let inner = nested types is e in
      let w = Built (form.Array i.type inner.type) in
      let before = longer_on inner.written (inner.written ++ w ∷ []) whole (longer_one inner.written w) later in
      let r = nested_in types is e all h rest before in
      let in_inner = longer_there types inner.written i.type.0 (nested_longer types is e) g in
      record {
        there = added_there inner.written w;
        all_in = one_in inner.written w r.all_in (built_in (form.Array i.type inner.type)
            (array_in i.type inner.type (longer_there inner.written whole i.type.0 before in_inner)
            (longer_there inner.written whole inner.type.0 before r.there)));
      }

  nested_from : (types : List Written) (line : ℕ) (i : Index) (is : List Index) (e : TypeId) (first : TypeDenoter) (more : MoreTypes)
      (elements : TypeDenoter) → From i.type first → IndicesFrom is more → From e elements
      → Longer (nested types (i ∷ is) e).written whole → From (nested types (i ∷ is) e).type (array line first more elements)
  nested_from types line i [] e first no_more_types elements g no_indices h later = origin.array_of
      (added_form types (Built (form.Array i.type e)) later) g h
  nested_from types line i [] e first (more_types t more) elements g k h later = elim k [ ]
  nested_from types line i (j ∷ is) e first no_more_types elements g k h later = elim k [ ]
  nested_from types line i (j ∷ is) e first (more_types second more) elements g (one_index a us t ts k rest) h later =
      let inner = nested types (j ∷ is) e in
      let w = Built (form.Array i.type inner.type) in
      let before = longer_on inner.written (inner.written ++ w ∷ []) whole (longer_one inner.written w) later in
      origin.arrays_of (added_form inner.written w later) g (nested_from types line j is e second more elements k rest h before)

  -- ---- records

  abbrev renamed : TypeField → TypeField
  renamed f = record { name = f.name; of = new f.of }

  map_append' : (fs gs : List TypeField) → map (λ (f : TypeField). renamed f) (fs ++ gs) ≡ map (λ (f : TypeField). renamed f) fs ++ map
      (λ (f : TypeField). renamed f) gs
  map_append' [] gs = refl
  map_append' (f ∷ fs) gs = ap (λ q. renamed f ∷ q) (map_append' fs gs)

  fields_renamed : (xs : List Name) (t : TypeId) → map (λ (f : TypeField). renamed f) (map (λ x. record { name = x; of = t })
      (map (λ (x : Name). x.symbol) xs)) ≡ fields_of xs (new t)
  fields_renamed [] t = refl
  fields_renamed (x ∷ xs) t = ap (λ q. record { name = x.symbol; of = new t } ∷ q) (fields_renamed xs t)

  fields_in_append : (fs gs : List TypeField) → FieldsIn whole fs → FieldsIn whole gs → FieldsIn whole (fs ++ gs)
  fields_in_append [] gs no_fields_in h = h
  fields_in_append (f ∷ fs) gs (one_field_in g us k rest) h = one_field_in f (fs ++ gs) k (fields_in_append fs gs rest h)

  group_in : (xs : List Symbol) (t : TypeId) → There whole t.0 → FieldsIn whole (map (λ x. record { name = x; of = t }) xs)
  group_in [] t h = no_fields_in
  group_in (x ∷ xs) t h = one_field_in (record { name = x; of = t }) (map (λ x. record { name = x; of = t }) xs) h (group_in xs t h)

  -- the fields that are left
  record FieldsRest (so_far : Fields) (more : MoreFields) (all : Fields) : Type 0 where
    pub rest : List TypeField
    pub is : so_far.fields ++ rest ≡ all.fields
    pub rest_in : FieldsIn whole rest
    pub all_in : AllIn all.written
    pub from : FieldsFrom v targets (map (λ (f : TypeField). renamed f) rest) more

  group_rest : (so_far next all : Fields) (line : ℕ) (names : Several Name) (of : TypeDenoter) (more : MoreFields)
      (new_names : List Symbol) (r : Reading) → map (λ (x : Name). x.symbol) (names.first ∷ names.more) ≡ new_names → There whole r.type.0
      → From r.type of → with_fields so_far new_names r.type r.written ≡ next → FieldsRest next more all
      → FieldsRest so_far (more_fields (field line names of) more) all
  group_rest so_far next all line names of more new_names r named there from is h =
      let own = map (λ x. record { name = x; of = r.type }) new_names in
      let same : so_far.fields ++ own ≡ next.fields = ap (λ (q : Fields). q.fields) is in
      let renaming : map (λ (f : TypeField). renamed f) own ≡ fields_of (names.first ∷ names.more) (new r.type) =
      ap (λ q. map (λ (f : TypeField). renamed f) (map (λ x. record { name = x; of = r.type }) q)) (sym named) ∙ fields_renamed
      (names.first ∷ names.more) r.type in
      record {
        rest = own ++ h.rest;
        is = sym (append_assoc so_far.fields own h.rest) ∙ (ap (λ q. q ++ h.rest) same ∙ h.is);
        rest_in = fields_in_append own h.rest (group_in new_names r.type there) h.rest_in;
        all_in = h.all_in;
        from = subst (λ q. FieldsFrom v targets q (more_fields (field line names of) more))
            (sym (map_append' own h.rest ∙ ap (λ q. q ++ map (λ (f : TypeField). renamed f) h.rest) renaming))
            (origin.with_names from h.from);
      }

  no_group_rest : (so_far next all : Fields) (line : ℕ) (more : MoreFields) → so_far ≡ next → FieldsRest next more all
      → FieldsRest so_far (more_fields (no_field line) more) all
  no_group_rest so_far next all line more is h = record {
    rest = h.rest;
    is = ap (λ (q : Fields). q.fields ++ h.rest) is ∙ h.is;
    rest_in = h.rest_in;
    all_in = h.all_in;
    from = origin.without_names h.from;
  }

  record_read : (line : ℕ) (types : List Written) (first : Field) (more : MoreFields) (all : Fields) (r : Reading)
      → FieldsRest (no_fields_yet types) (more_fields first more) all → adding all.written (Built (form.Record all.fields)) ≡ r
      → Longer r.written whole → ReadFrom types (fields line first more) r
  record_read line types first more all r h is later =
      let w = Built (form.Record all.fields) in
      let end : Longer (all.written ++ w ∷ []) whole = subst (λ (q : Reading). Longer q.written whole) (sym is) later in
      subst (ReadFrom types (fields line first more)) is
      (record {
        there = added_there all.written w;
        all_in = one_in all.written w h.all_in (built_in (form.Record all.fields) (record_in all.fields
            (subst (FieldsIn whole) h.is h.rest_in)));
        from = origin.record_of (added_form all.written w end)
            (subst (λ q. FieldsFrom v targets (map (λ (f : TypeField). renamed f) q) (more_fields first more)) h.is h.from);
      })

  -- ---- the walk

  record AllRead (i : Indices) (more : MoreTypes) (all : Indices) : Type 0 where
    pub rest : List Index
    pub is : i.indices ++ rest ≡ all.indices
    pub rest_there : IndicesThere all.written rest
    pub all_in : AllIn all.written
    pub from : IndicesFrom rest more

  index_read : (i all : Indices) (t : TypeDenoter) (more : MoreTypes) (r : Reading) → ReadFrom i.written t r
      → Longer r.written all.written → AllRead (index_more i t r) more all → AllRead i (more_types t more) all
  index_read i all t more r one l h =
      let index : Index = record { type = r.type; line = type_line t } in
      record {
        rest = index ∷ h.rest;
        is = sym (append_assoc i.indices (index ∷ []) h.rest) ∙ h.is;
        rest_there = one_there index h.rest (longer_there r.written all.written r.type.0 l one.there) h.rest_there;
        all_in = h.all_in;
        from = one_index index h.rest t more one.from h.from;
      }

  array_read : (line : ℕ) (types : List Written) (first : TypeDenoter) (more : MoreTypes) (elements : TypeDenoter) (one : Reading)
      (two : Indices) (three r : Reading) → ReadFrom types first one → Longer one.written two.written
      → AllRead (indices_of first one) more two → Longer two.written three.written → ReadFrom two.written elements three
      → nested three.written two.indices three.type ≡ r
      → Longer (nested three.written two.indices three.type).written whole → ReadFrom types (array line first more elements) r
  array_read line types first more elements one two three r f l2 i l3 g is end =
      let index : Index = record { type = one.type; line = type_line first } in
      let list : index ∷ i.rest ≡ two.indices = i.is in
      let at_end : Longer (nested three.written (index ∷ i.rest) three.type).written whole = subst
      (λ q. Longer (nested three.written q three.type).written whole) (sym list) end in
      let l13 = longer_on one.written two.written three.written l2 l3 in
      let there = one_there index i.rest (longer_there one.written three.written one.type.0 l13 f.there)
      (indices_later two.written three.written i.rest l3 i.rest_there) in
      let n = nested_in three.written (index ∷ i.rest) three.type g.all_in g.there there at_end in
      let from = nested_from three.written line index i.rest three.type first more elements f.from i.from g.from at_end in
      subst (ReadFrom types (array line first more elements)) (ap (λ q. nested three.written q three.type) list ∙ is)
      (record { there = n.there; all_in = n.all_in; from = from })

  mutual
    pub denoted_from : (types : List Written) (t : TypeDenoter) (r : Reading) → Longer base types → AllIn types
        → denoted s is_target types t ≡ Ok r → Longer r.written whole → ReadFrom types t r
    denoted_from types (tree.named line x) r l all e later =
        let one = went (type_named line x (meaning s x.symbol)) (λ t. fine (kept types t)) r e in
        let h = named_from types line line x (meaning s x.symbol) one.value l refl one.first in
        subst (ReadFrom types (tree.named line x)) (same_value one.rest) (record { there = h.0; all_in = all; from = h.1 })
    denoted_from types (range line low high) r l all e later = range_from types line low high r all e later
    denoted_from types (pointer line x) r l all e later = pointer_from types line x (meaning s x.symbol) r all e later
    denoted_from types (array line first more elements) r l all e later =
        let one = went (denoted s is_target types first) (λ one. after (all_denoted s is_target (indices_of first one) more)
        (λ i. after (denoted s is_target i.written elements) (λ e. nested_if_ranges e.written i.indices e.type))) r e in
        let two = went (all_denoted s is_target (indices_of first one.value) more)
        (λ i. after (denoted s is_target i.written elements) (λ e. nested_if_ranges e.written i.indices e.type)) r one.rest in
        let three = went (denoted s is_target two.value.written elements) (λ e. nested_if_ranges e.written two.value.indices e.type) r
        two.rest in
        let four = went (each (check_index three.value.written) [] two.value.indices)
        (λ all. fine (nested three.value.written all three.value.type)) r three.rest in
        let is : nested three.value.written two.value.indices three.value.type ≡ r =
        ap (λ q. nested three.value.written q three.value.type)
        (checked_same three.value.written [] four.value two.value.indices four.first) ∙ same_value four.rest in
        let end = subst (λ (q : Reading). Longer q.written whole) (sym is) later in
        let l1 = denoted_longer s is_target types first one.value one.first in
        let l2 = all_longer_of s is_target (indices_of first one.value) more two.value two.first in
        let l3 = denoted_longer s is_target two.value.written elements three.value three.first in
        let l4 = nested_longer three.value.written two.value.indices three.value.type in
        let w3 = longer_on three.value.written (nested three.value.written two.value.indices three.value.type).written whole l4 end in
        let w2 = longer_on two.value.written three.value.written whole l3 w3 in
        let w1 = longer_on one.value.written two.value.written whole l2 w2 in
        let f = denoted_from types first one.value l all one.first w1 in
        let b1 = longer_on base types one.value.written l l1 in
        let i = all_read (indices_of first one.value) more two.value b1 f.all_in two.first w2 in
        let b2 = longer_on base one.value.written two.value.written b1 l2 in
        let g = denoted_from two.value.written elements three.value b2 i.all_in three.first w3 in
        array_read line types first more elements one.value two.value three.value r f l2 i l3 g is end
    denoted_from types (fields line first more) r l all e later =
        let one = went (field_denoted s is_target (no_fields_yet types) first)
        (λ one. after (fields_denoted s is_target one more) (λ all. fine (adding all.written (Built (form.Record all.fields))))) r e in
        let two = went (fields_denoted s is_target one.value more) (λ all. fine (adding all.written (Built (form.Record all.fields)))) r
        one.rest in
        let l1 = field_longer s is_target (no_fields_yet types) first one.value one.first in
        let end = subst (λ (q : Reading). Longer q.written whole) (sym (same_value two.rest)) later in
        let w2 = longer_on two.value.written (two.value.written ++ Built (form.Record two.value.fields) ∷ []) whole
        (longer_one two.value.written (Built (form.Record two.value.fields))) end in
        let w1 = longer_on one.value.written two.value.written whole (fields_longer s is_target one.value more two.value two.first) w2 in
        let h = field_read (no_fields_yet types) first more one.value two.value l all one.first w1
        (λ a b. fields_read one.value more two.value a b two.first w2) in
        record_read line types first more two.value r h (same_value two.rest) later

    all_read : (i : Indices) (more : MoreTypes) (all : Indices) → Longer base i.written → AllIn i.written
        → all_denoted s is_target i more ≡ Ok all → Longer all.written whole → AllRead i more all
    all_read i no_more_types all l h e later =
        subst (AllRead i no_more_types) (same_value e) (record {
          rest = [];
          is = append-nil i.indices;
          rest_there = none_there;
          all_in = h;
          from = no_indices;
        })
    all_read i (more_types t more) all l h e later =
        let one = went (denoted s is_target i.written t) (λ r. all_denoted s is_target (index_more i t r) more) all e in
        let l1 = denoted_longer s is_target i.written t one.value one.first in
        let l2 = all_longer_of s is_target (index_more i t one.value) more all one.rest in
        let w1 = longer_on one.value.written all.written whole l2 later in
        let f = denoted_from i.written t one.value l h one.first w1 in
        index_read i all t more one.value f l2 (all_read (index_more i t one.value) more all
        (longer_on base i.written one.value.written l l1) f.all_in one.rest later)

    field_read : (fs : Fields) (f : Field) (more : MoreFields) (next all : Fields) → Longer base fs.written → AllIn fs.written
        → field_denoted s is_target fs f ≡ Ok next → Longer next.written whole
        → (Longer base next.written → AllIn next.written → FieldsRest next more all) → FieldsRest fs (more_fields f more) all
    field_read fs (no_field line) more next all l h e later go =
        let is : fs ≡ next = same_value e in
        no_group_rest fs next all line more is (go (subst (λ (q : Fields). Longer base q.written) is l)
        (subst (λ (q : Fields). AllIn q.written) is h))
    field_read fs (field line names of) more next all l h e later go =
        let one = went (each (new_field fs.fields) [] (all_names names))
        (λ new. after (denoted s is_target fs.written of) (λ r. fine (with_fields fs new r.type r.written))) next e in
        let two = went (denoted s is_target fs.written of) (λ r. fine (with_fields fs one.value r.type r.written)) next one.rest in
        let is : with_fields fs one.value two.value.type two.value.written ≡ next = same_value two.rest in
        let l1 = denoted_longer s is_target fs.written of two.value two.first in
        let w1 = subst (λ (q : Fields). Longer q.written whole) (sym is) later in
        let f = denoted_from fs.written of two.value l h two.first w1 in
        let rest = go (subst (λ (q : Fields). Longer base q.written) is (longer_on base fs.written two.value.written l l1))
        (subst (λ (q : Fields). AllIn q.written) is f.all_in) in
        group_rest fs next all line names of more one.value two.value
        (field_names fs.fields [] (names.first ∷ names.more) one.value one.first)
        (longer_there two.value.written whole two.value.type.0 w1 f.there) f.from is rest

    fields_read : (fs : Fields) (more : MoreFields) (all : Fields) → Longer base fs.written → AllIn fs.written
        → fields_denoted s is_target fs more ≡ Ok all → Longer all.written whole → FieldsRest fs more all
    fields_read fs no_more_fields all l h e later =
        subst (FieldsRest fs no_more_fields) (same_value e)
        (record { rest = []; is = append-nil fs.fields; rest_in = no_fields_in; all_in = h; from = origin.no_fields })
    fields_read fs (more_fields f more) all l h e later =
        let one = went (field_denoted s is_target fs f) (λ next. fields_denoted s is_target next more) all e in
        let w1 = longer_on one.value.written all.written whole (fields_longer s is_target one.value more all one.rest) later in
        field_read fs f more one.value all l h one.first w1 (λ a b. fields_read one.value more all a b one.rest later)
