-- Types that the walk reads are built of types with smaller numbers.
use Rattle.std.proofs.Common.{arith, ◌≡◌, ℕ, zero, suc, ◌+◌, ◌<◌, ◌≤◌, Bool, true, false, cond, not, ◌&&◌, ◌||◌, List, [], ◌∷◌, ◌++◌, map, length, Option, Some, None, ℤ, refl, sym, ap, ◌∙◌, subst}
use Rattle.std.specs.Prelude.{Ok, Err}
use Rattle.std.specs.List.{list_any, list_all}
use Rattle.std.specs.Int.RustNames.{int_lt}
use Rattle.std.specs.Cmp.Derive.{both_true}
use Rattle.std.proofs.lemmas.Bool.{false≢true}
use Rattle.std.proofs.lemmas.List.{length-append, append-nil, append_assoc, map-append, length-map}
use Rattle.spv_logic.specs.declared.names.names.Symbol.{Symbol}
use Rattle.spv_logic.proofs.list.Tests.{left_true, right_true}
use Rattle.spv_logic.specs.declared.types.TypeId.{TypeId}
use Rattle.spv_tree.specs.declared.syntax.names.Name.{Name}
use Rattle.spv_tree.specs.syntax.Types.{TypeDenoter, MoreTypes, Field, MoreFields, named, range, pointer, array, fields, no_more_types, more_types, no_field, field, no_more_fields, more_fields}
use Rattle.spv_program.specs.declared.types.TypeField.{TypeField}
use Rattle.spv_program.specs.declared.types.TypeForm.{TypeForm}
use Rattle.spv_program.specs.declared.types.TypeForm.TheVariants as form
use Rattle.spv_program.specs.Lists.{item_at, same_name, names_differ}
use Rattle.spv_program.specs.Types.{form_at}
use Rattle.spv_program.specs.Types as program
use Rattle.spv_program.proofs.SortFacts.{nothing_there}
use Rattle.spv_typing.specs.Outcomes.{after, where_so, each, undeclared, twice, wrong}
use Rattle.spv_typing.specs.Known.{Meaning, OfType, OfList, OfConstant, OfPlace, OfStart, OfSymbol, OfRoutine, Scope, meaning}
use Rattle.spv_typing.specs.Merging.{Written, Built, PointerTo}
use Rattle.spv_typing.specs.TypeWalk.{all_names, constant, Reading, adding, type_named, pointer_named, type_line, is_range, Index, Indices, check_index, nested, nested_if_ranges, Fields, new_field, with_fields, denoted, all_denoted, field_denoted, fields_denoted}
use Rattle.spv_type_soundness.proofs.well_typed.Outcomes.{fine, no_fault, same_value, went, held, behind_test}
use Rattle.spv_type_soundness.proofs.well_typed_programs.Differ.{not_true, name-refl, same_names, Apart, differ_append, differ_one, apart_one, apart_both, apart_turned}
use Rattle.spv_type_soundness.proofs.well_typed_programs.Finding.{any_turned}
use Rattle.spv_type_soundness.proofs.well_typed_programs.Labels.{each_keeps}
use Rattle.spv_type_soundness.proofs.well_typed_programs.Items.{item_within, item_mapped, item_front, item_grown, Begins}
use Rattle.spv_type_soundness.proofs.well_typed_programs.RightForms.{FieldsBelow, Fits, integer_fits, boolean_fits, range_fits, pointer_fits, array_fits, record_fits, ranges_of, GoodForms}
use Rattle.spv_type_soundness.proofs.well_typed_programs.Merged.{ranges_in}

-- ---- lists that begin with others

pub begins_same : {X : Type 0} (xs : List X) → Begins xs xs
begins_same xs = record { more = []; is = sym (append-nil xs) }

pub begins_one : {X : Type 0} (xs : List X) (y : X) → Begins xs (xs ++ y ∷ [])
begins_one xs y = record { more = y ∷ []; is = refl }

pub begins_then : {X : Type 0} (xs ys zs : List X) → Begins xs ys → Begins ys zs → Begins xs zs
begins_then xs ys zs b c = record { more = b.more ++ c.more; is = c.is ∙ (ap (λ l. l ++ c.more) b.is ∙ append_assoc xs b.more c.more) }

pub begins_longer : {X : Type 0} (xs ys : List X) → Begins xs ys → length xs ≤ length ys
begins_longer xs ys b = subst (λ l. length xs ≤ length l) (sym b.is)
    (subst (λ n. length xs ≤ n) (sym (length-append xs b.more)) (more (length xs) (length b.more)))
  where
    more : (n m : ℕ) → n ≤ n + m
    more n m = omega arith

pub begins_item : {X : Type 0} (xs ys : List X) (i : ℕ) (x : X) → Begins xs ys → item_at xs i ≡ Some x → item_at ys i ≡ Some x
begins_item xs ys i x b e = ap (λ l. item_at l i) b.is ∙ item_front xs b.more i x e

pub wider : (a b c : ℕ) → a < b → b ≤ c → a < c
wider a b c h g = omega arith

-- what fits fits among more types
pub fits_more : (n m : ℕ) (r q : ℕ → Bool) (i : ℕ) (f : TypeForm) → n ≤ m → ((k : ℕ) → r k ≡ true → q k ≡ true) → Fits n r i f
    → Fits m q i f
fits_more n m r q i f h g integer_fits = integer_fits
fits_more n m r q i f h g boolean_fits = boolean_fits
fits_more n m r q i f h g (range_fits low high k) = range_fits low high k
fits_more n m r q i f h g (pointer_fits t k) = pointer_fits t (wider t.0 n m k h)
fits_more n m r q i f h g (array_fits index element j k s) = array_fits index element j k (g index.0 s)
fits_more n m r q i f h g (record_fits fs b d) = record_fits fs b d

-- ---- types in the order of the text

-- a type as it is written; pointers may lead to names that pass a test
pub data FitsText (is_target : Symbol → Bool) (n : ℕ) (ranges : ℕ → Bool) (i : ℕ) : Written → Type 0 where
  text_built : (f : TypeForm) → Fits n ranges i f → FitsText is_target n ranges i (Built f)
  text_target : (x : Symbol) → is_target x ≡ true → FitsText is_target n ranges i (PointerTo x)

pub record GoodText (is_target : Symbol → Bool) (written : List Written) : Type 0 where
  pub fits : (i : ℕ) (w : Written) → item_at written i ≡ Some w → FitsText is_target (length written) (ranges_in written) i w

abbrev typed_reading : List Written → TypeId → Reading
typed_reading types t = record { written = types; type = t }

abbrev indices_from : Reading → ℕ → Indices
indices_from one line = record { written = one.written; indices = record { type = one.type; line = line } ∷ [] }

abbrev more_indices : Indices → Reading → ℕ → Indices
more_indices i r line = record { written = r.written; indices = i.indices ++ record { type = r.type; line = line } ∷ [] }

all_one : {X : Type 0} (test : X → Bool) (xs : List X) (y : X) → list_all test xs ≡ true → test y ≡ true
    → list_all test (xs ++ y ∷ []) ≡ true
all_one test [] y h k = ap (λ b. b && true) k
all_one test (x ∷ xs) y h k = both_true (left_true _ _ h) (all_one test xs y (right_true (test x) _ h) k)

module _ (is_target : Symbol → Bool) where
  text_more : (n m : ℕ) (r q : ℕ → Bool) (i : ℕ) (w : Written) → n ≤ m → ((k : ℕ) → r k ≡ true → q k ≡ true) → FitsText is_target n r i w
      → FitsText is_target m q i w
  text_more n m r q i w h g (text_built f k) = text_built f (fits_more n m r q i f h g k)
  text_more n m r q i w h g (text_target x k) = text_target x k

  range_item : (o : Option Written) → is_range o ≡ true → (P : Type 0) → ((w : Written) → o ≡ Some w → P) → P
  range_item None h P go = absurd (false≢true h)
  range_item (Some w) h P go = go w refl

  pub ranges_more : (xs ys : List Written) → Begins xs ys → (k : ℕ) → ranges_in xs k ≡ true → ranges_in ys k ≡ true
  ranges_more xs ys b k h = range_item (item_at xs k) h (ranges_in ys k ≡ true) (λ w e. ap is_range (begins_item xs ys k w b e ∙ sym e) ∙ h)

  -- what was read so far, and what was read then
  pub record Reads (before next : List Written) : Type 0 where
    pub begins : Begins before next
    pub good : GoodText is_target next

  pub reads_none : (types : List Written) → GoodText is_target types → Reads types types
  reads_none types g = record { begins = begins_same types; good = g }

  pub reads_then : (one two three : List Written) → Reads one two → Reads two three → Reads one three
  reads_then one two three a b = record { begins = begins_then one two three a.begins b.begins; good = b.good }

  longer_by_one : (types : List Written) (w : Written) → length (types ++ w ∷ []) ≡ suc (length types)
  longer_by_one types w = length-append types (w ∷ []) ∙ one (length types)
    where
      one : (n : ℕ) → n + 1 ≡ suc n
      one n = omega arith

  add_one : (types : List Written) (w : Written) → GoodText is_target types
      → FitsText is_target (length (types ++ w ∷ [])) (ranges_in (types ++ w ∷ [])) (length types) w → Reads types (types ++ w ∷ [])
  add_one types w g h = record {
    begins = begins_one types w;
    good = record {
      fits = λ i v e.
          item_grown types w i v (FitsText is_target (length (types ++ w ∷ [])) (ranges_in (types ++ w ∷ [])) i v) e
          (λ k. text_more (length types) (length (types ++ w ∷ [])) (ranges_in types) (ranges_in (types ++ w ∷ [])) i v
          (begins_longer types (types ++ w ∷ []) (begins_one types w)) (ranges_more types (types ++ w ∷ []) (begins_one types w))
          (g.fits i v k))
          (λ k same. subst (λ u. FitsText is_target (length (types ++ w ∷ [])) (ranges_in (types ++ w ∷ [])) i u) same
          (subst (λ n. FitsText is_target (length (types ++ w ∷ [])) (ranges_in (types ++ w ∷ [])) n w) (sym k) h));
    };
  }

  -- what was read, and the number of the type
  pub record ReadsType (before : List Written) (r : Reading) : Type 0 where
    pub reads : Reads before r.written
    pub there : r.type.0 < length r.written

  pub added : (types : List Written) (w : Written) → GoodText is_target types
      → FitsText is_target (length (types ++ w ∷ [])) (ranges_in (types ++ w ∷ [])) (length types) w → ReadsType types (adding types w)
  added types w g h = record {
    reads = add_one types w g h;
    there =
        subst (λ n. length types < n) (sym (longer_by_one types w)) (one (length types));
  }
    where
      one : (n : ℕ) → n < suc n
      one n = omega arith

  type_after : (one two : List Written) (r : Reading) → Reads one two → ReadsType two r → ReadsType one r
  type_after one two r a b = record { reads = reads_then one two r.written a b.reads; there = b.there }

  -- ---- arrays

  record AllRanges (types : List Written) (indices : List Index) : Type 0 where
    each : list_all (λ (i : Index). ranges_in types i.type.0) indices ≡ true

  all_checked : (types : List Written) (done all : List Index) (i : Index) → AllRanges types done → check_index types done i ≡ Ok all
      → AllRanges types all
  all_checked types done all i h e =
      let b = is_range (item_at types i.type.0) in
      subst (AllRanges types) (same_value (behind_test b (wrong i.line) (fine (done ++ i ∷ [])) all e))
      (record {
        each = all_one (λ (k : Index). ranges_in types k.type.0) done i h.each
            (held b (wrong i.line) (fine (done ++ i ∷ [])) all e);
      })

  nested_reads : (types : List Written) (indices : List Index) (element : TypeId) → GoodText is_target types → element.0 < length types
      → list_all (λ (i : Index). ranges_in types i.type.0) indices ≡ true → ReadsType types (nested types indices element)
  nested_reads types [] element g h all = record { reads = reads_none types g; there = h }
  nested_reads types (i ∷ indices) element g h all =
      let inner = nested_reads types indices element g h (right_true (ranges_in types i.type.0) _ all) in
      let r = nested types indices element in
      let w = Built (form.Array i.type r.type) in
      let range = ranges_more types r.written inner.reads.begins i.type.0 (left_true _ _ all) in
      let below = range_item (item_at r.written i.type.0) range (i.type.0 < length r.written) (λ v e. item_within r.written i.type.0 v e) in
      type_after types r.written (adding r.written w) inner.reads
      (added r.written w inner.reads.good (text_built (form.Array i.type r.type)
      (array_fits i.type r.type below inner.there (ranges_more r.written (r.written ++ w ∷ []) (begins_one r.written w) i.type.0 range))))

  nested_ok : (types : List Written) (indices : List Index) (element : TypeId) (r : Reading) → GoodText is_target types
      → element.0 < length types → nested_if_ranges types indices element ≡ Ok r → ReadsType types r
  nested_ok types indices element r g h e =
      let one = went (each (check_index types) [] indices) (λ all. fine (nested types all element)) r e in
      let checked = each_keeps (AllRanges types) (check_index types) (λ d a i k f. all_checked types d a i k f) indices [] one.value
      (record { each = refl }) one.first in
      subst (ReadsType types) (same_value one.rest) (nested_reads types one.value element g h checked.each)

  -- ---- the fields of a record

  abbrev field_names : List TypeField → List Symbol
  field_names fs = map (λ f. f.name) fs

  -- the fields so far: their types are there, and no two have one name
  record GoodFields (before : List Written) (fs : Fields) : Type 0 where
    reads : Reads before fs.written
    below : FieldsBelow (length fs.written) fs.fields
    differ : names_differ (field_names fs.fields) ≡ true

  record NewNames (done : List TypeField) (names : List Symbol) : Type 0 where
    differ : names_differ names ≡ true
    apart : Apart same_name name-refl same_names names (field_names done)

  named_field : (x : Symbol) (done : List TypeField)
      → list_any (λ (f : TypeField). same_name f.name x) done ≡ list_any (same_name x) (field_names done)
  named_field x [] = refl
  named_field x (f ∷ done) = ap (λ b. b || list_any (λ (g : TypeField). same_name g.name x) done) (any_turned x f.name)
      ∙ ap (λ b. same_name x f.name || b) (named_field x done)

  field_named_once : (done : List TypeField) (names next : List Symbol) (x : Name) → NewNames done names
      → new_field done names x ≡ Ok next → NewNames done next
  field_named_once done names next x h e =
      let a = not (list_any (λ (f : TypeField). same_name f.name x.symbol) done) in
      let b = not (list_any (same_name x.symbol) names) in
      let both = held (a && b) (twice x) (fine (names ++ x.symbol ∷ [])) next e in
      let free = not_true (list_any (same_name x.symbol) names) (right_true a _ both) in
      let fresh = sym (named_field x.symbol done)
      ∙ not_true (list_any (λ (f : TypeField). same_name f.name x.symbol) done) (left_true _ _ both) in
      subst (NewNames done) (same_value (behind_test (a && b) (twice x) (fine (names ++ x.symbol ∷ [])) next e)) (record {
        differ = differ_one same_name name-refl same_names names x.symbol h.differ free;
        apart = apart_turned same_name name-refl same_names (field_names done) (names ++ x.symbol ∷ [])
            (apart_both same_name name-refl same_names (field_names done) names (x.symbol ∷ [])
            (apart_turned same_name name-refl same_names names (field_names done) h.apart)
            (apart_one same_name name-refl same_names (field_names done) x.symbol fresh));
      })

  abbrev typed_field : TypeId → Symbol → TypeField
  typed_field t x = record { name = x; of = t }

  names_of_typed : (t : TypeId) (names : List Symbol) → field_names (map (λ x. typed_field t x) names) ≡ names
  names_of_typed t [] = refl
  names_of_typed t (x ∷ names) = ap (λ l. x ∷ l) (names_of_typed t names)

  fields_wider : (n m : ℕ) (fs : List TypeField) → n ≤ m → FieldsBelow n fs → FieldsBelow m fs
  fields_wider n m fs h b = record { each = λ k f e. wider f.of.0 n m (b.each k f e) h }

  fields_append : (n : ℕ) (fs gs : List TypeField) → FieldsBelow n fs → FieldsBelow n gs → FieldsBelow n (fs ++ gs)
  fields_append n [] gs b c = c
  fields_append n (f ∷ fs) gs b c =
      let rest = fields_append n fs gs (record { each = λ k g e. b.each (suc k) g e }) c in record { each = λ k g e. by_place k g e rest }
    where
      by_place : (k : ℕ) (g : TypeField) → item_at (f ∷ (fs ++ gs)) k ≡ Some g → FieldsBelow n (fs ++ gs) → g.of.0 < n
      by_place zero g e rest = b.each 0 g e
      by_place (suc k) g e rest = rest.each k g e

  typed_below : (n : ℕ) (t : TypeId) (names : List Symbol) → t.0 < n → FieldsBelow n (map (λ x. typed_field t x) names)
  typed_below n t names h = record {
    each = λ k f e. let r = item_mapped (λ x. typed_field t x) names k f e in subst (λ (g : TypeField). g.of.0 < n) r.is h;
  }

  more_good : (before : List Written) (fs : Fields) (names : List Symbol) (r : Reading) → GoodFields before fs → NewNames fs.fields names
      → ReadsType fs.written r → GoodFields before (with_fields fs names r.type r.written)
  more_good before fs names r g n h = record {
    reads = reads_then before fs.written r.written g.reads h.reads;
    below = fields_append (length r.written) fs.fields (map (λ x. typed_field r.type x) names)
        (fields_wider (length fs.written) (length r.written) fs.fields (begins_longer fs.written r.written h.reads.begins) g.below)
        (typed_below (length r.written) r.type names h.there);
    differ = ap names_differ (map-append (λ (f : TypeField). f.name) fs.fields (map (λ x. typed_field r.type x) names)
        ∙ ap (λ l. field_names fs.fields ++ l) (names_of_typed r.type names))
        ∙ differ_append same_name name-refl same_names (field_names fs.fields) names g.differ n.differ
        (apart_turned same_name name-refl same_names names (field_names fs.fields) n.apart);
  }

  -- ---- the walk

  module _ (s : Scope) where
    -- the types that the scope names are there
    pub record TypesBelow (types : List Written) : Type 0 where
      pub each : (x : Symbol) (t : TypeId) → meaning s x ≡ Some (OfType t) → t.0 < length types

    below_more : (xs ys : List Written) → Begins xs ys → TypesBelow xs → TypesBelow ys
    below_more xs ys b h = record { each = λ x t e. wider t.0 (length xs) (length ys) (h.each x t e) (begins_longer xs ys b) }

    pub named_type : (P : TypeId → Type 0) (line : ℕ) (x : Name) (m : Option Meaning) (t : TypeId) → meaning s x.symbol ≡ m
        → ((u : TypeId) → meaning s x.symbol ≡ Some (OfType u) → P u) → type_named line x m ≡ Ok t → P t
    named_type P line x None t h go e = absurd (no_fault e)
    named_type P line x (Some (OfType u)) t h go e = subst P (same_value e) (go u h)
    named_type P line x (Some OfList) t h go e = absurd (no_fault e)
    named_type P line x (Some (OfConstant n)) t h go e = absurd (no_fault e)
    named_type P line x (Some (OfPlace u)) t h go e = absurd (no_fault e)
    named_type P line x (Some (OfStart r)) t h go e = absurd (no_fault e)
    named_type P line x (Some (OfSymbol d)) t h go e = absurd (no_fault e)
    named_type P line x (Some (OfRoutine r)) t h go e = absurd (no_fault e)

    pointer_reads : (types : List Written) (line : ℕ) (x : Name) (m : Option Meaning) (r : Reading) → GoodText is_target types
        → pointer_named is_target types line x m ≡ Ok r → ReadsType types r
    pointer_reads types line x None r g e = by_target (is_target x.symbol) refl e
      where
        by_target : (b : Bool) → is_target x.symbol ≡ b → cond b (fine (adding types (PointerTo x.symbol))) (Err (undeclared x)) ≡ Ok r
            → ReadsType types r
        by_target true k f = subst (ReadsType types) (same_value f) (added types (PointerTo x.symbol) g (text_target x.symbol k))
        by_target false k f = absurd (no_fault f)
    pointer_reads types line x (Some m) r g e = by_target (is_target x.symbol) refl e
      where
        by_target : (b : Bool) → is_target x.symbol ≡ b → cond b (fine (adding types (PointerTo x.symbol))) (Err (wrong line)) ≡ Ok r
            → ReadsType types r
        by_target true k f = subst (ReadsType types) (same_value f) (added types (PointerTo x.symbol) g (text_target x.symbol k))
        by_target false k f = absurd (no_fault f)

    mutual
      pub denoted_reads : (d : TypeDenoter) (types : List Written) (r : Reading) → GoodText is_target types → TypesBelow types
          → denoted s is_target types d ≡ Ok r → ReadsType types r
      denoted_reads (named line x) types r g h e =
          let one = went (type_named line x (meaning s x.symbol)) (λ t. fine (typed_reading types t)) r e in
          subst (ReadsType types) (same_value one.rest)
          (record {
            reads = reads_none types g;
            there =
                named_type (λ t. t.0 < length types) line x (meaning s x.symbol) one.value refl (λ u k. h.each x.symbol u k) one.first;
          })
      denoted_reads (range line low high) types r g h e =
          let last = λ (a b : ℤ). where_so (not (int_lt b a)) (wrong line) (fine (adding types (Built (form.Range a b)))) in
          let one = went (constant s low) (λ a. after (constant s high) (last a)) r e in
          let two = went (constant s high) (last one.value) r one.rest in
          let next = fine (adding types (Built (form.Range one.value two.value))) in
          let test = not (int_lt two.value one.value) in
          subst (ReadsType types) (same_value (behind_test test (wrong line) next r two.rest))
          (added types (Built (form.Range one.value two.value)) g
          (text_built (form.Range one.value two.value) (range_fits one.value two.value (held test (wrong line) next r two.rest))))
      denoted_reads (pointer line x) types r g h e = pointer_reads types line x (meaning s x.symbol) r g e
      denoted_reads (array line first more elements) types r g h e =
          let start = λ (one : Reading). indices_from one (type_line first) in
          let last = λ (i : Indices). after (denoted s is_target i.written elements) (λ q. nested_if_ranges q.written i.indices q.type) in
          let one = went (denoted s is_target types first) (λ q. after (all_denoted s is_target (start q) more) last) r e in
          let two = went (all_denoted s is_target (start one.value) more) last r one.rest in
          let three = went (denoted s is_target two.value.written elements) (λ q. nested_if_ranges q.written two.value.indices q.type) r
          two.rest in
          let a = denoted_reads first types one.value g h one.first in
          let b = all_reads more (start one.value) two.value a.reads.good (below_more types one.value.written a.reads.begins h) two.first in
          let ab = reads_then types one.value.written two.value.written a.reads b in
          let c = denoted_reads elements two.value.written three.value b.good (below_more types two.value.written ab.begins h)
          three.first in
          let d = nested_ok three.value.written two.value.indices three.value.type r c.reads.good c.there three.rest in
          type_after types three.value.written r (reads_then types two.value.written three.value.written ab c.reads) d
      denoted_reads (fields line first more) types r g h e =
          let start : Fields = record { written = types; fields = [] } in
          let last = λ (all : Fields). fine (adding all.written (Built (form.Record all.fields))) in
          let one = went (field_denoted s is_target start first) (λ q. after (fields_denoted s is_target q more) last) r e in
          let two = went (fields_denoted s is_target one.value more) last r one.rest in
          let none : GoodFields types start =
          record { reads = reads_none types g; below = record { each = λ k f q. absurd (nothing_there q) }; differ = refl } in
          let a = field_reads first types start one.value none h one.first in
          let b = fields_reads more types one.value two.value a h two.first in
          let w = Built (form.Record two.value.fields) in
          subst (ReadsType types) (same_value two.rest)
          (type_after types two.value.written (adding two.value.written w) b.reads
          (added two.value.written w b.reads.good
          (text_built (form.Record two.value.fields) (record_fits two.value.fields b.below b.differ))))

      all_reads : (more : MoreTypes) (i j : Indices) → GoodText is_target i.written → TypesBelow i.written
          → all_denoted s is_target i more ≡ Ok j → Reads i.written j.written
      all_reads no_more_types i j g h e = subst (λ (k : Indices). Reads i.written k.written) (same_value e) (reads_none i.written g)
      all_reads (more_types t more) i j g h e =
          let next = λ (r : Reading). more_indices i r (type_line t) in
          let one = went (denoted s is_target i.written t) (λ r. all_denoted s is_target (next r) more) j e in
          let a = denoted_reads t i.written one.value g h one.first in
          let b = all_reads more (next one.value) j a.reads.good (below_more i.written one.value.written a.reads.begins h) one.rest in
          reads_then i.written one.value.written j.written a.reads b

      field_reads : (f : Field) (before : List Written) (fs gs : Fields) → GoodFields before fs → TypesBelow before
          → field_denoted s is_target fs f ≡ Ok gs → GoodFields before gs
      field_reads (no_field line) before fs gs g h e = subst (GoodFields before) (same_value e) g
      field_reads (field line names of) before fs gs g h e =
          let one = went (each (new_field fs.fields) [] (all_names names))
          (λ new. after (denoted s is_target fs.written of) (λ r. fine (with_fields fs new r.type r.written))) gs e in
          let two = went (denoted s is_target fs.written of) (λ r. fine (with_fields fs one.value r.type r.written)) gs one.rest in
          let none : NewNames fs.fields [] = record { differ = refl; apart = record { apart = λ x k. absurd (false≢true k) } } in
          let new = each_keeps (NewNames fs.fields) (new_field fs.fields) (λ a b x k q. field_named_once fs.fields a b x k q)
          (all_names names) [] one.value none one.first in
          subst (GoodFields before) (same_value two.rest)
          (more_good before fs one.value two.value g new
          (denoted_reads of fs.written two.value g.reads.good (below_more before fs.written g.reads.begins h) two.first))

      fields_reads : (more : MoreFields) (before : List Written) (fs gs : Fields) → GoodFields before fs → TypesBelow before
          → fields_denoted s is_target fs more ≡ Ok gs → GoodFields before gs
      fields_reads no_more_fields before fs gs g h e = subst (GoodFields before) (same_value e) g
      fields_reads (more_fields f more) before fs gs g h e =
          let one = went (field_denoted s is_target fs f) (λ next. fields_denoted s is_target next more) gs e in
          fields_reads more before one.value gs (field_reads f before fs one.value g h one.first) h one.rest

-- ---- types that have forms, as they are written

pub built_good : (is_target : Symbol → Bool) (forms : List TypeForm) → GoodForms forms → GoodText is_target (map Built forms)
built_good is_target forms good = record {
  fits = λ i w e.
      let r = item_mapped Built forms i w e in
      subst (FitsText is_target (length (map Built forms)) (ranges_in (map Built forms)) i) r.is
      (text_built r.item (fits_more (length forms) (length (map Built forms)) (ranges_of forms) (ranges_in (map Built forms)) i r.item
      (same (length forms) (length (map Built forms)) (length-map forms Built)) (λ k h. built_ranges forms k h) (good.fits i r.item r.at)));
}
  where
    same : (n m : ℕ) → m ≡ n → n ≤ m
    same n m e = omega arith

    range_there : (f : TypeForm) → program.is_range f ≡ true → is_range (Some (Built f)) ≡ true
    range_there (form.Range low high) h = refl
    range_there form.Integer h = absurd (false≢true h)
    range_there form.Boolean h = absurd (false≢true h)
    range_there (form.Pointer t) h = absurd (false≢true h)
    range_there (form.Array index element) h = absurd (false≢true h)
    range_there (form.Record fs) h = absurd (false≢true h)

    built_ranges : (forms : List TypeForm) (k : ℕ) → program.is_range (form_at forms k) ≡ true
        → is_range (item_at (map Built forms) k) ≡ true
    built_ranges [] k h = absurd (false≢true h)
    built_ranges (f ∷ forms) zero h = range_there f h
    built_ranges (f ∷ forms) (suc k) h = built_ranges forms k h
