-- What a name with selectors has come to, and that it is well typed.
use Rattle.std.proofs.Common.{◌≡◌, ℕ, zero, suc, Bool, true, false, cond, ◌||◌, not, refl, sym, ap, ◌∙◌, subst}
use Rattle.std.specs.Prelude.{List, [], ◌∷◌, ◌++◌, ℤ, Option, Some, None, nat_lt}
use Rattle.std.specs.List.{list_all}
use Rattle.std.specs.Option.{option_and_then}
use Rattle.std.specs.Cmp.Derive.{both_true}
use Rattle.std.proofs.lemmas.Bool.{false≢true}
use Rattle.std.proofs.lemmas.List.{length-map}
use Rattle.spv_logic.specs.declared.names.names.Symbol.{Symbol}
use Rattle.spv_logic.proofs.list.Tests.{left_true, right_true}
use Rattle.spv_logic.specs.declared.types.TypeId.{TypeId}
use Rattle.spv_logic.specs.declared.types.Sort.TheVariants as sort
use Rattle.spv_logic.specs.Shapes.{shape_ok}
use Rattle.spv_logic.specs.Sorts.{sort_in_range}
use Rattle.spv_logic.proofs.Equality.{sort_eq-refl}
use Rattle.spv_logic.proofs.Ranges.{content_in_range}
use Rattle.spv_program.specs.declared.types.TypeField.{TypeField}
use Rattle.spv_program.specs.declared.types.TypeForm.{TypeForm}
use Rattle.spv_program.specs.declared.types.TypeForm.TheVariants as form
use Rattle.spv_program.specs.Lists.{same_name}
use Rattle.spv_program.specs.Types.{form_at, form_ok, forms_ok, sort_of, sort_of_form, shape_of_form, element_of, field_of, field_type, target_of, type_exists, may_be_result}
use Rattle.spv_program.specs.Expressions.{Designator, Call, Numeral, Read, Result as ResultOf, Through}
use Rattle.spv_program.specs.ExpressionTypes.{expression_sort, designator_type, selected_type, callee, result_type, sort_of_type, is_nil, may_read, may_write}
use Rattle.spv_program.specs.FormulaTypes.{is_sort}
use Rattle.spv_program.specs.Programs.{Routine, Program, shapes}
use Rattle.spv_program.specs.Scopes.{name_type, is_result, is_initial}
use Rattle.spv_program.proofs.SortFacts.{nothing_there, some_is, sort_is}
use Rattle.spv_typing.specs.Known.{integer_type}
use Rattle.spv_typing.specs.ExpressionWalk.{Base, AtName, AtResult, OfNumber, OfCall, Link, ByIndex, ByField, ByCell, Reached, chained, place_at, expression_at, designator_at, further}
use Rattle.spv_type_soundness.proofs.well_typed.ExpressionParts.{FineExpression, fine_is}
use Rattle.spv_type_soundness.proofs.well_typed.Places.{Leads, by_index, by_field, by_cell, Way, at_once, way_selects, way_further}

-- ---- what right forms say of their parts

form_ok-at : (forms all : List TypeForm) (i : ℕ) → list_all (form_ok all) forms ≡ true → form_ok all (form_at forms i) ≡ true
form_ok-at [] all i h = refl
form_ok-at (f ∷ forms) all zero h = left_true _ _ h
form_ok-at (f ∷ forms) all (suc i) h = form_ok-at forms all i (right_true (form_ok all f) _ h)

field_exists : (forms : List TypeForm) (fields : List TypeField) (x : Symbol) (u : TypeId)
    → list_all (λ f. type_exists forms f.of) fields ≡ true → field_type fields x ≡ Some u → type_exists forms u ≡ true
field_exists forms [] x u h e = absurd (nothing_there e)
field_exists forms (f ∷ fields) x u h e =
    by_name (same_name f.name x) e (field_exists forms fields x u (right_true (type_exists forms f.of) _ h))
  where
    by_name : (b : Bool) → cond b (Some f.of) (field_type fields x) ≡ Some u → (field_type fields x ≡ Some u → type_exists forms u ≡ true)
        → type_exists forms u ≡ true
    by_name true k rest = subst (λ v. type_exists forms v ≡ true) (some_is k) (left_true _ _ h)
    by_name false k rest = rest k

module _ (p : Program) (here : Option Routine) (forms_right : forms_ok p.forms ≡ true) (first : form_at p.forms 0 ≡ form.Integer) where
  forms_pass : list_all (form_ok p.forms) p.forms ≡ true
  forms_pass = left_true _ _ forms_right

  shapes_pass : list_all (shape_ok (shapes p)) (shapes p) ≡ true
  shapes_pass = left_true _ _ (right_true (list_all (form_ok p.forms) p.forms) _ forms_right)

  pub type_range : (t : TypeId) → type_exists p.forms t ≡ true → sort_in_range (shapes p) (sort_of p.forms t) ≡ true
  type_range t e =
      subst (λ q. sort_in_range (shapes p) q ≡ true) (sort_is p.forms t)
      (content_in_range (shapes p) shapes_pass (sort.Class t) _ (ap (nat_lt t.0) (length-map p.forms (shape_of_form p.forms)) ∙ e) refl)

  pub element_exists : (t u : TypeId) → element_of (form_at p.forms t.0) ≡ Some u → type_exists p.forms u ≡ true
  element_exists t u e = by_form (form_at p.forms t.0) e (form_ok-at p.forms p.forms t.0 forms_pass)
    where
      by_form : (f : TypeForm) → element_of f ≡ Some u → form_ok p.forms f ≡ true → type_exists p.forms u ≡ true
      by_form (form.Array index element) k h = subst (λ v. type_exists p.forms v ≡ true) (some_is k) (right_true _ _ h)
      by_form form.Integer k h = absurd (nothing_there k)
      by_form form.Boolean k h = absurd (nothing_there k)
      by_form (form.Range low high) k h = absurd (nothing_there k)
      by_form (form.Pointer v) k h = absurd (nothing_there k)
      by_form (form.Record fields) k h = absurd (nothing_there k)

  pub field_is_there : (t u : TypeId) (x : Symbol) → field_of (form_at p.forms t.0) x ≡ Some u → type_exists p.forms u ≡ true
  field_is_there t u x e = by_form (form_at p.forms t.0) e (form_ok-at p.forms p.forms t.0 forms_pass)
    where
      by_form : (f : TypeForm) → field_of f x ≡ Some u → form_ok p.forms f ≡ true → type_exists p.forms u ≡ true
      by_form (form.Record fields) k h = field_exists p.forms fields x u (left_true _ _ h) k
      by_form (form.Array index element) k h = absurd (nothing_there k)
      by_form form.Integer k h = absurd (nothing_there k)
      by_form form.Boolean k h = absurd (nothing_there k)
      by_form (form.Range low high) k h = absurd (nothing_there k)
      by_form (form.Pointer v) k h = absurd (nothing_there k)

  pub target_exists : (t u : TypeId) → target_of (form_at p.forms t.0) ≡ Some u → type_exists p.forms u ≡ true
  target_exists t u e = by_form (form_at p.forms t.0) e (form_ok-at p.forms p.forms t.0 forms_pass)
    where
      by_form : (f : TypeForm) → target_of f ≡ Some u → form_ok p.forms f ≡ true → type_exists p.forms u ≡ true
      by_form (form.Pointer v) k h = subst (λ w. type_exists p.forms w ≡ true) (some_is k) h
      by_form (form.Array index element) k h = absurd (nothing_there k)
      by_form form.Integer k h = absurd (nothing_there k)
      by_form form.Boolean k h = absurd (nothing_there k)
      by_form (form.Range low high) k h = absurd (nothing_there k)
      by_form (form.Record fields) k h = absurd (nothing_there k)

  -- a type with a target is a pointer to it
  pub pointer_sort : (t u : TypeId) → target_of (form_at p.forms t.0) ≡ Some u → sort_of p.forms t ≡ sort.Ptr u
  pointer_sort t u e = by_form (form_at p.forms t.0) e
    where
      by_form : (f : TypeForm) → target_of f ≡ Some u → sort_of_form f t ≡ sort.Ptr u
      by_form (form.Pointer v) k = ap sort.Ptr (some_is k)
      by_form (form.Array index element) k = absurd (nothing_there k)
      by_form form.Integer k = absurd (nothing_there k)
      by_form form.Boolean k = absurd (nothing_there k)
      by_form (form.Range low high) k = absurd (nothing_there k)
      by_form (form.Record fields) k = absurd (nothing_there k)

  leads_there : (l : Link) (t u : TypeId) → Leads p here l t u → type_exists p.forms u ≡ true
  leads_there (ByIndex a e) t u (by_index b v x h k) = element_exists t u k
  leads_there (ByField a f) t u (by_field b v g k) = field_is_there t u f k
  leads_there (ByCell line c) t u (by_cell at b v k) = target_exists t u k

  -- ---- what is read

  pub data Reads : Base → List Link → TypeId → Type 0 where
    reads_name : (line : ℕ) (x : Symbol) (links : List Link) (u t : TypeId) → name_type p here x ≡ Some u → is_initial here x ≡ false → is_result here x ≡ false
        → Way p here u links t → Reads (AtName line x) links t
    reads_number : (z : ℤ) → Reads (OfNumber z) [] integer_type
    reads_result : (c : Call) (t : TypeId) → option_and_then result_type (callee p here c) ≡ Some t
        → may_be_result (form_at p.forms t.0) ≡ true → Reads (OfCall c) [] t
    reads_through : (c : Call) (line : ℕ) (q u t : TypeId) (links : List Link) → option_and_then result_type (callee p here c) ≡ Some q
        → target_of (form_at p.forms q.0) ≡ Some u → Way p here u links t → Reads (OfCall c) (ByCell line u ∷ links) t

  pub record ReadOk (r : Reached) : Type 0 where
    pub reads : Reads r.base r.links r.type
    pub exists : type_exists p.forms r.type ≡ true

  -- no selector stands behind a number
  no_number : (l : Link) (u : TypeId) → Leads p here l integer_type u → ⊥
  no_number (ByIndex a e) u (by_index b v x h k) = nothing_there (sym (ap element_of first) ∙ k)
  no_number (ByField a f) u (by_field b v g k) = nothing_there (sym (ap (λ q. field_of q f) first) ∙ k)
  no_number (ByCell line c) u (by_cell at b v k) = nothing_there (sym (ap target_of first) ∙ k)

  no_array : (f : TypeForm) (u : TypeId) → may_be_result f ≡ true → element_of f ≡ Some u → ⊥
  no_array (form.Array index element) u m k = false≢true m
  no_array form.Integer u m k = nothing_there k
  no_array form.Boolean u m k = nothing_there k
  no_array (form.Range low high) u m k = nothing_there k
  no_array (form.Pointer v) u m k = nothing_there k
  no_array (form.Record fields) u m k = nothing_there k

  no_record : (q : TypeForm) (f : Symbol) (u : TypeId) → may_be_result q ≡ true → field_of q f ≡ Some u → ⊥
  no_record (form.Record fields) f u m k = false≢true m
  no_record form.Integer f u m k = nothing_there k
  no_record form.Boolean f u m k = nothing_there k
  no_record (form.Range low high) f u m k = nothing_there k
  no_record (form.Pointer v) f u m k = nothing_there k
  no_record (form.Array index element) f u m k = nothing_there k

  -- behind a function's result only `^` stands
  result_further : (c : Call) (t u : TypeId) (l : Link) → option_and_then result_type (callee p here c) ≡ Some t
      → may_be_result (form_at p.forms t.0) ≡ true → Leads p here l t u → Reads (OfCall c) (l ∷ []) u
  result_further c t u (ByIndex a x) e m (by_index b v y g k) = absurd (no_array (form_at p.forms t.0) u m k)
  result_further c t u (ByField a f) e m (by_field b v g k) = absurd (no_record (form_at p.forms t.0) f u m k)
  result_further c t u (ByCell line v) e m (by_cell at b w k) = reads_through c line t u u [] e k (at_once u)

  read_further : (b : Base) (links : List Link) (t u : TypeId) (l : Link) → Reads b links t → Leads p here l t u
      → Reads b (links ++ l ∷ []) u
  read_further b links t u l (reads_name line x ls a v e m n way) h =
      reads_name line x (ls ++ l ∷ []) a u e m n (way_further p here a ls t u l way h)
  read_further b links t u l (reads_number z) h = absurd (no_number l u h)
  read_further b links t u l (reads_result c q e m) h = result_further c t u l e m h
  read_further b links t u l (reads_through c line q w x ls e k way) h =
      reads_through c line q w u (ls ++ l ∷ []) e k (way_further p here w ls t u l way h)

  pub read_on : (r : Reached) (l : Link) (u : TypeId) → ReadOk r → Leads p here l r.type u → ReadOk (further r l u)
  read_on r l u h g = record { reads = read_further r.base r.links r.type u l h.reads g; exists = leads_there l r.type u g }

  read_of_designator : (line : ℕ) (x : Symbol) (links : List Link) (u t : TypeId) → name_type p here x ≡ Some u → Way p here u links t
      → designator_type p here (place_at line x links) ≡ Some t
  read_of_designator line x links u t e way =
      ap (λ o. option_and_then (λ v. selected_type p here v (chained links)) o) e ∙ way_selects p here u links t way

  read_fine : (b : Base) (links : List Link) (t : TypeId) → Reads b links t → type_exists p.forms t ≡ true
      → FineExpression p here (expression_at (record { base = b; links = links; type = t })) (sort_of p.forms t)
  read_fine b links t (reads_name line x ls u v e m n way) there =
      fine_is p here (Read (place_at line x ls)) (sort_of p.forms v)
      (ap (λ c. cond c (sort_of_type p (designator_type p here (place_at line x ls))) None) (both_true (ap not m) (ap not n))
      ∙ ap (sort_of_type p) (read_of_designator line x ls u v e way))
      (type_range v there) refl
  read_fine b links t (reads_number z) there =
      fine_is p here (Numeral z) (sort_of p.forms integer_type) (ap Some (sym (ap (λ f. sort_of_form f integer_type) first)))
      (type_range integer_type there) refl
  read_fine b links t (reads_result c u e m) there =
      fine_is p here (ResultOf c) (sort_of p.forms u) (ap (sort_of_type p) e) (type_range u there) refl
  read_fine b links t (reads_through c line q u v ls e k way) there =
      fine_is p here (Through c line u (chained ls)) (sort_of p.forms v)
      (ap (λ o. cond (is_sort (sort.Ptr u) (sort_of_type p o)) (sort_of_type p (selected_type p here u (chained ls))) None) e
      ∙ (ap (λ r. cond (is_sort (sort.Ptr u) (Some r)) (sort_of_type p (selected_type p here u (chained ls))) None) (pointer_sort q u k)
      ∙ (ap (λ c. cond c (sort_of_type p (selected_type p here u (chained ls))) None) (sort_eq-refl (sort.Ptr u))
      ∙ ap (sort_of_type p) (way_selects p here u ls v way))))
      (type_range v there) refl

  pub finish_fine : (r : Reached) → ReadOk r → FineExpression p here (expression_at r) (sort_of p.forms r.type)
  finish_fine r h = read_fine r.base r.links r.type h.reads h.exists

  -- ---- what is written

  pub data Writes : Base → List Link → TypeId → Type 0 where
    writes_name : (line : ℕ) (x : Symbol) (links : List Link) (u t : TypeId) → name_type p here x ≡ Some u → is_initial here x ≡ false → is_result here x ≡ false
        → Way p here u links t → Writes (AtName line x) links t
    writes_result : (line : ℕ) (x : Symbol) (t : TypeId) → name_type p here x ≡ Some t → is_initial here x ≡ false → Writes (AtResult line x) [] t

  pub record WrittenOk (r : Reached) : Type 0 where
    pub writes : Writes r.base r.links r.type
    pub exists : type_exists p.forms r.type ≡ true

  pub data IsSelected : Base → Type 0 where
    selected : (line : ℕ) (x : Symbol) → IsSelected (AtName line x)

  write_further : (b : Base) (links : List Link) (t u : TypeId) (l : Link) → IsSelected b → Writes b links t → Leads p here l t u
      → Writes b (links ++ l ∷ []) u
  write_further b links t u l (selected at y) (writes_name line x ls a v e m n way) h =
      writes_name line x (ls ++ l ∷ []) a u e m n (way_further p here a ls t u l way h)

  pub write_on : (r : Reached) (l : Link) (u : TypeId) → IsSelected r.base → WrittenOk r → Leads p here l r.type u
      → WrittenOk (further r l u)
  write_on r l u k h g = record { writes = write_further r.base r.links r.type u l k h.writes g; exists = leads_there l r.type u g }

  -- a place that may be written, of this type
  pub record IsPlaceOf (d : Designator) (t : TypeId) : Type 0 where
    pub type : designator_type p here d ≡ Some t
    pub may : may_write here d ≡ true

  written_place : (b : Base) (links : List Link) (t : TypeId) → Writes b links t → (d : Designator)
      → designator_at (record { base = b; links = links; type = t }) ≡ Some d → IsPlaceOf d t
  written_place b links t (writes_name line x ls u v e m n way) d k =
      subst (λ q. IsPlaceOf q v) (some_is k)
      (record {
        type = read_of_designator line x ls u v e way;
        may = both_true (ap not m) (ap (λ c. not c || Rattle.spv_program.specs.ExpressionTypes.has_none (chained ls)) n);
      })
  written_place b links t (writes_result line x v e m) d k =
      subst (λ q. IsPlaceOf q v) (some_is k)
      (record { type = read_of_designator line x [] v v e (at_once v); may = both_true (ap not m) (or_true (not (is_result here x))) })
    where
      or_true : (c : Bool) → (c || true) ≡ true
      or_true true = refl
      or_true false = refl

  pub place_fine : (r : Reached) (d : Designator) → WrittenOk r → designator_at r ≡ Some d → IsPlaceOf d r.type
  place_fine r d h e = written_place r.base r.links r.type h.writes d e
