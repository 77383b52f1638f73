-- The classes of a heap have values of their sorts.
use Rattle.std.proofs.Common.{◌≡◌, Bool, true, false, cond, List, [], ◌∷◌, refl, sym, ap, ◌∙◌, nat_eq}
use Rattle.std.specs.List.{list_all}
use Rattle.std.specs.Cmp.Derive.{both_true}
use Rattle.std.proofs.lemmas.Bool.{eqb-true}
use Rattle.spv_logic.specs.declared.types.TypeId.{TypeId}
use Rattle.spv_logic.specs.declared.types.Sort.TheVariants as sort
use Rattle.spv_logic.specs.Values.{Value, with_cell}
use Rattle.spv_logic.specs.Shapes.{shapes_ok, sort_of_type}
use Rattle.spv_logic.specs.Fits.{fits}
use Rattle.spv_logic.proofs.list.Tests.{left_true, right_true}
use Rattle.spv_logic.proofs.Defaults.{default_fits}
use Rattle.spv_logic.proofs.Sorting.{class_put, with_cell-after}
use Rattle.spv_program.specs.Types.{sort_of}
use Rattle.spv_program.specs.Programs.{Program, shapes}
use Rattle.spv_program.proofs.SortFacts.{sort_is}
use Rattle.spv_meaning.specs.Places.{HeapRow}
use Rattle.spv_meaning.specs.Views.{with_heap_row, class_of}
use Rattle.spv_meaning.specs.Starts.{row_ok, heap_ok}

one_cell_more : (p : Program) (r : HeapRow) (t : TypeId) (c : Value) → row_ok p r ≡ true → r.type ≡ t → fits (shapes p) c (sort.Class t) ≡ true → fits (shapes p) (with_heap_row r c) (sort.Class t) ≡ true
one_cell_more p r t c ok is fit =
    let content = right_true _ _ ok in
    class_put (shapes p) c (sort.Class t) (sort_of_type (shapes p) t) r.cell r.content (λ cells. with_cell cells r.cell) (λ cells k. with_cell-after 0 r.cell cells (left_true _ _ ok) k) refl fit
    (ap (fits (shapes p) r.content) (sort_is p.forms t ∙ ap (sort_of p.forms) (sym is)) ∙ content)

rows_fit : (p : Program) → shapes_ok (shapes p) ≡ true → (heap : List HeapRow) → list_all (row_ok p) heap ≡ true → (t : TypeId) → fits (shapes p) (class_of (shapes p) heap t) (sort.Class t) ≡ true
rows_fit p ok [] h t = both_true (default_fits (shapes p) ok (sort_of_type (shapes p) t)) refl
rows_fit p ok (r ∷ heap) h t = by_case (nat_eq r.type.0 t.0) refl (rows_fit p ok heap (right_true (row_ok p r) _ h) t)
  where
    by_case : (b : Bool) → nat_eq r.type.0 t.0 ≡ b → fits (shapes p) (class_of (shapes p) heap t) (sort.Class t) ≡ true → fits (shapes p) (cond b (with_heap_row r (class_of (shapes p) heap t)) (class_of (shapes p) heap t)) (sort.Class t) ≡ true
    by_case true e fit =
        let number = eqb-true r.type.0 t.0 e in
        let type : r.type ≡ t = λ i. record { 0 = number i } in
        one_cell_more p r t (class_of (shapes p) heap t) (left_true (row_ok p r) _ h) type fit
    by_case false e fit = fit

-- in a heap that is right each class has a value of its sort
pub class_fits : (p : Program) → shapes_ok (shapes p) ≡ true → (heap : List HeapRow) → heap_ok p heap ≡ true → (t : TypeId) → fits (shapes p) (class_of (shapes p) heap t) (sort.Class t) ≡ true
class_fits p ok heap h t = rows_fit p ok heap (left_true (list_all (row_ok p) heap) _ h) t
