-- Names, selectors and applications in annotations keep their sorts.
use Rattle.std.proofs.Common.{◌≡◌, ℕ, suc, true, cond, ◌&&◌, refl, ap, ◌∙◌, subst}
use Rattle.std.specs.Prelude.{List, [], ◌∷◌, length, Option, Some, None, Ok, Err, nat_eq, nat_lt, is_some}
use Rattle.std.specs.List.{list_all}
use Rattle.std.specs.Option.{option_and_then}
use Rattle.std.specs.Cmp.Derive.{both_true}
use Rattle.std.proofs.lemmas.Bool.{eqb-true}
use Rattle.std.proofs.lemmas.List.{length-map}
use Rattle.spv_logic.proofs.list.Tests.{left_true, right_true}
use Rattle.spv_logic.specs.declared.types.TypeId.{TypeId}
use Rattle.spv_logic.specs.declared.types.Sort.{Sort}
use Rattle.spv_logic.specs.declared.types.Sort.TheVariants as sort
use Rattle.spv_logic.specs.declared.types.Field.{Field as SortedField}
use Rattle.spv_logic.specs.declared.types.Shape.{Shape}
use Rattle.spv_logic.specs.Shapes.{element_sort, fields_of, field_sort, field_sort_of, shape_ok}
use Rattle.spv_logic.specs.Sorts.{sort_in_range, sorts_eq, takes, takes_declared}
use Rattle.spv_logic.specs.Terms.{sort_eq}
use Rattle.spv_logic.proofs.Equality.{sort_eq-refl}
use Rattle.spv_logic.proofs.Ranges.{element_in_range, record_field_in_range, content_in_range}
use Rattle.spv_tree.specs.declared.syntax.names.Name.{Name}
use Rattle.spv_program.specs.Types.{sort_of, shape_of_form, type_exists}
use Rattle.spv_program.specs.Programs.{shapes}
use Rattle.spv_program.specs.Scopes as program
use Rattle.spv_program.specs.Formulas.{Formula, Formulas, Numeral, NilOf, Named, ClassOf, Element, FieldOf, Content, Applied, no_formulas, formulas}
use Rattle.spv_program.specs.FormulaTypes.{formula_sort, formula_sorts, is_sort, sort_if, two_sorts, sorts_from}
use Rattle.spv_program.proofs.SortFacts.{sort_is}
use Rattle.spv_typing.specs.declared.faults.TypeFault.{TypeFault}
use Rattle.spv_typing.specs.declared.faults.TypeFault.TheVariants.{Count}
use Rattle.spv_typing.specs.Outcomes.{after, where_so, wrong}
use Rattle.spv_typing.specs.Known.{Meaning, OfType, OfList, OfConstant, OfPlace, OfStart, OfSymbol, OfRoutine, Scope, meaning}
use Rattle.spv_typing.specs.DeclarationWalk.{class_named}
use Rattle.spv_typing.specs.OperatorWalk.{Operand, Of, Argument, settled, operands}
use Rattle.spv_typing.specs.FormulaWalk.{Sorted as SortedFormula, with_sort, name_alone, class_at, settled_all, on_element, takes_indices, elements, indexed_at, field_named, field_in, content_at}
use Rattle.spv_type_soundness.specs.well_typed.Laws.{SeesAlike}
use Rattle.spv_type_soundness.proofs.well_typed.Outcomes.{fine, no_fault, same_value, went, held, behind_test}
use Rattle.spv_type_soundness.proofs.well_typed.Operators.{GoodOperand, of, GoodArguments, no_more, one_more, settled_at}
use Rattle.spv_type_soundness.proofs.well_typed.Formulas.{Sorted, Bare, FineFormula, fine_is, pointed_there}

pub sorts_eq-refl : (ss : List Sort) → sorts_eq ss ss ≡ true
sorts_eq-refl [] = refl
sorts_eq-refl (s ∷ ss) = both_true (sort_eq-refl s) (sorts_eq-refl ss)

pub taken_alike : (ss : List Sort) (r : Sort) → takes ss ss r ≡ Some r
taken_alike ss r = ap (λ b. cond b (Some r) None) (sorts_eq-refl ss)

no_sorts_at_all : (ss : List Sort) → nat_eq (length ss) 0 ≡ true → sorts_eq ss [] ≡ true
no_sorts_at_all [] h = refl
no_sorts_at_all (s ∷ ss) h = let e : suc (length ss) ≡ 0 = eqb-true (suc (length ss)) 0 h in absurd (cc (e))

module _ (s : Scope) (names : program.Scope) (sees : SeesAlike s names) where
  abbrev FineHere : Formula → Sort → Type 0
  FineHere g r = FineFormula s.known.program names g r

  abbrev SortedHere : Formula → Sort → Type 0
  SortedHere g r = Sorted s.known.program names g r

  -- what a name with selectors has come to
  pub record FineResult (r : SortedFormula) : Type 0 where
    pub is : FineHere r.formula r.sort

  abbrev here : List Shape
  here = shapes s.known.program

  pub shapes_pass : list_all (shape_ok here) here ≡ true
  shapes_pass = left_true _ _ sees.shapes_right

  there_as_shape : (t : TypeId) → type_exists s.known.program.forms t ≡ true → nat_lt t.0 (length here) ≡ true
  there_as_shape t e = ap (nat_lt t.0) (length-map s.known.program.forms (shape_of_form s.known.program.forms)) ∙ e

  -- the sort of a type that is there names types that are there
  pub type_range : (t : TypeId) → type_exists s.known.program.forms t ≡ true → sort_in_range here (sort_of s.known.program.forms t) ≡ true
  type_range t e =
      subst (λ q. sort_in_range here q ≡ true) (sort_is s.known.program.forms t)
      (content_in_range here shapes_pass (sort.Class t) _ (there_as_shape t e) refl)

  pub result_is : (g : Formula) (r : Sort) (z : SortedFormula) → fine (with_sort g r) ≡ Ok z → FineHere g r → FineResult z
  result_is g r z e h = subst FineResult (same_value e) (record { is = h })

  -- ---- names

  pub name_fine : (line : ℕ) (x : Name) (m : Option Meaning) (z : SortedFormula) → meaning s x.symbol ≡ m → name_alone s line x m ≡ Ok z
      → FineResult z
  name_fine line x None z h e = absurd (no_fault e)
  name_fine line x (Some (OfType t)) z h e = absurd (no_fault e)
  name_fine line x (Some OfList) z h e = absurd (no_fault e)
  name_fine line x (Some (OfRoutine r)) z h e = absurd (no_fault e)
  name_fine line x (Some (OfConstant n)) z h e =
      result_is (Numeral n) sort.Int z e (fine_is s.known.program names (Numeral n) sort.Int refl refl refl)
  name_fine line x (Some (OfPlace t)) z h e =
      let r = sort_of s.known.program.forms t in
      result_is (Named x.line x.symbol) r z e
      (fine_is s.known.program names (Named x.line x.symbol) r (sees.places x.symbol t h) (type_range t (sees.place_types x.symbol t h))
      refl)
  name_fine line x (Some (OfStart r)) z h e =
      result_is (Named x.line x.symbol) r z e
      (fine_is s.known.program names (Named x.line x.symbol) r (sees.starts x.symbol r h) (sees.start_sorts x.symbol r h) refl)
  name_fine line x (Some (OfSymbol d)) z h e =
      let next = fine (with_sort (Applied d.name no_formulas) d.result) in
      let none = held (nat_eq (length d.args) 0) (Count line) next z e in
      result_is (Applied d.name no_formulas) d.result z (behind_test (nat_eq (length d.args) 0) (Count line) next z e)
      (fine_is s.known.program names (Applied d.name no_formulas) d.result
      (ap (λ o. takes_declared o []) (sees.symbols x.symbol d h) ∙ ap (λ b. cond b (Some d.result) None) (no_sorts_at_all d.args none))
      (sees.symbol_sorts x.symbol d h) refl)

  class_sorted : (line : ℕ) (x : Name) (m : Option Meaning) (t : TypeId) → meaning s x.symbol ≡ m → class_named line x m ≡ Ok t
      → type_exists s.known.program.forms t ≡ true
  class_sorted line x None t h e = absurd (no_fault e)
  class_sorted line x (Some (OfType u)) t h e =
      subst (λ v. type_exists s.known.program.forms v ≡ true) (same_value e) (sees.types x.symbol u h)
  class_sorted line x (Some OfList) t h e = absurd (no_fault e)
  class_sorted line x (Some (OfConstant n)) t h e = absurd (no_fault e)
  class_sorted line x (Some (OfPlace u)) t h e = absurd (no_fault e)
  class_sorted line x (Some (OfStart r)) t h e = absurd (no_fault e)
  class_sorted line x (Some (OfSymbol d)) t h e = absurd (no_fault e)
  class_sorted line x (Some (OfRoutine r)) t h e = absurd (no_fault e)

  pub class_good : (line : ℕ) (x : Name) (o : Operand Formula) → class_at s line x ≡ Ok o
      → GoodOperand SortedHere (Bare s.known.program names) o
  class_good line x o e =
      let one = went (class_named line x (meaning s x.symbol)) (λ t. fine (Of (ClassOf line t) (sort.Class t))) o e in
      let t = one.value in
      let exists = class_sorted line x (meaning s x.symbol) t refl one.first in
      subst (GoodOperand SortedHere (Bare s.known.program names)) (same_value one.rest)
      (of (ClassOf line t) (sort.Class t)
      (fine_is s.known.program names (ClassOf line t) (sort.Class t) (ap (λ b. sort_if b (sort.Class t)) exists) (there_as_shape t exists)
      refl))

  -- ---- selectors

  pub element_fine : (a i : Formula) (r e : Sort) → SortedHere a r → SortedHere i sort.Int → element_sort here r ≡ Some e
      → FineHere (Element a i) e
  element_fine a i r e g h k =
      fine_is s.known.program names (Element a i) e
      (ap (λ o. two_sorts o (formula_sort s.known.program names i) (λ u t. if_int u t)) g.is
      ∙ (ap (λ o. two_sorts (Some r) o (λ u t. if_int u t)) h.is ∙ k))
      (element_in_range here shapes_pass r e k) refl
    where
      if_int : Sort → Sort → Option Sort
      if_int u t = cond (sort_eq t sort.Int) (element_sort here u) None

  pub field_fine : (r : SortedFormula) (x : Name) (t : Sort) → SortedHere r.formula r.sort
      → field_sort_of (fields_of here r.sort) x.symbol.0 ≡ Some t → FineHere (FieldOf r.formula x.symbol) t
  field_fine r x t g k =
      fine_is s.known.program names (FieldOf r.formula x.symbol) t
      (ap (λ o. option_and_then (λ u. field_sort_of (fields_of here u) x.symbol.0) o) g.is ∙ k)
      (record_field_in_range here shapes_pass r.sort t x.symbol.0 k) refl

  pub content_fine : (line : ℕ) (t : TypeId) (q : Formula) → SortedHere q (sort.Ptr t)
      → FineHere (Content line t q) (sort_of s.known.program.forms t)
  content_fine line t q g =
      let exists = pointed_there s.known.program names t g.there in
      fine_is s.known.program names (Content line t q) (sort_of s.known.program.forms t)
      (ap (λ o. sort_if (type_exists s.known.program.forms t && is_sort (sort.Ptr t) o) (sort_of s.known.program.forms t)) g.is
      ∙ ap (λ b. sort_if b (sort_of s.known.program.forms t)) (both_true exists (sort_eq-refl (sort.Ptr t))))
      (type_range t exists) refl

  -- ---- operands, in a list

  pub data GoodOperands : List (ℕ × Operand Formula) → Type 0 where
    no_operands : GoodOperands []
    one_operand : (a : ℕ × Operand Formula) (others : List (ℕ × Operand Formula))
        → GoodOperand SortedHere (Bare s.known.program names) a.1 → GoodOperands others → GoodOperands (a ∷ others)

  abbrev listed : ℕ → Operand Formula → List (ℕ × Operand Formula) → List (ℕ × Operand Formula)
  listed line o rest = (line, o) ∷ rest

  pub operands_good : (given : List (Argument Formula SortedFormula)) (os : List (ℕ × Operand Formula))
      → GoodArguments SortedHere (Bare s.known.program names) FineResult given → operands given ≡ Ok os → GoodOperands os
  operands_good [] os no_more e = subst GoodOperands (same_value e) no_operands
  operands_good (a ∷ given) os (one_more b others g h) e =
      let one = went a.operand (λ o. after (operands given) (λ rest. fine (listed a.line o rest))) os e in
      let two = went (operands given) (λ rest. fine (listed a.line one.value rest)) os one.rest in
      subst GoodOperands (same_value two.rest)
      (one_operand (a.line, one.value) two.value (g.operand one.value one.first) (operands_good given two.value h two.first))

  -- an operand that was settled to a sort whose types are there
  pub settled_here : (fault : TypeFault) (r : Sort) → sort_in_range here r ≡ true → (o : Operand Formula) (g : Formula)
      → GoodOperand SortedHere (Bare s.known.program names) o → settled NilOf fault r o ≡ Ok g → SortedHere g r
  settled_here fault r there o g h e = settled_at SortedHere (Bare s.known.program names) NilOf fault r nil_is o g h e
    where
      nil_is : (t : TypeId) → r ≡ sort.Ptr t → SortedHere (NilOf t) (sort.Ptr t)
      nil_is t q =
          let exists : sort_in_range here (sort.Ptr t) ≡ true = subst (λ u. sort_in_range here u ≡ true) q there in
          record { is = ap (λ b. sort_if b (sort.Ptr t)) (pointed_there s.known.program names t exists); there = exists }

  pub settled_all_here : (wanted : List Sort) (given : List (ℕ × Operand Formula)) (fs : Formulas)
      → list_all (sort_in_range here) wanted ≡ true → length given ≡ length wanted → GoodOperands given → settled_all wanted given ≡ Ok fs
      → formula_sorts s.known.program names fs ≡ Some wanted
  settled_all_here [] [] fs there same h e = subst (λ gs. formula_sorts s.known.program names gs ≡ Some []) (same_value e) refl
  settled_all_here [] (a ∷ given) fs there same h e = absurd (cc (same))
  settled_all_here (r ∷ wanted) [] fs there same h e = absurd (cc (same))
  settled_all_here (r ∷ wanted) (a ∷ given) fs there same (one_operand b others g h) e =
      let one = went (settled NilOf (wrong a.0) r a.1) (λ f. after (settled_all wanted given) (λ gs. fine (formulas f gs))) fs e in
      let two = went (settled_all wanted given) (λ gs. fine (formulas one.value gs)) fs one.rest in
      let first = settled_here (wrong a.0) r (left_true _ _ there) a.1 one.value g one.first in
      let fewer : length given ≡ length wanted = cc (same) in
      let rest = settled_all_here wanted given two.value (right_true (sort_in_range here r) _ there) fewer h two.first in
      subst (λ gs. formula_sorts s.known.program names gs ≡ Some (r ∷ wanted)) (same_value two.rest)
      (ap (λ o. sorts_from o (formula_sorts s.known.program names two.value)) first.is ∙ ap (λ o. sorts_from (Some r) o) rest)

  -- ---- selectors of the walk

  pub elements_fine : (a z : SortedFormula) (indices : List (ℕ × Operand Formula)) → FineResult a → GoodOperands indices
      → elements here a indices ≡ Ok z → FineResult z
  elements_fine a z [] h g e = subst FineResult (same_value e) h
  elements_fine a z (i ∷ indices) h (one_operand b others g more) e =
      let go = λ (f : Formula). on_element (Err (wrong i.0)) (λ r. elements here (with_sort (Element a.formula f) r) indices)
      (element_sort here a.sort) in
      let one = went (settled NilOf (wrong i.0) sort.Int i.1) go z e in
      let index = settled_here (wrong i.0) sort.Int refl i.1 one.value g one.first in
      by_element (element_sort here a.sort) refl one.value index one.rest
      (λ r n k f. elements_fine (with_sort (Element a.formula n) r) z indices k more f)
    where
      by_element : (o : Option Sort) → element_sort here a.sort ≡ o → (n : Formula) → SortedHere n sort.Int
          → on_element (Err (wrong i.0)) (λ r. elements here (with_sort (Element a.formula n) r) indices) o ≡ Ok z
          → ((r : Sort) (n : Formula) → FineResult (with_sort (Element a.formula n) r)
          → elements here (with_sort (Element a.formula n) r) indices ≡ Ok z → FineResult z) → FineResult z
      by_element None k n q f go = absurd (no_fault f)
      by_element (Some r) k n q f go = go r n (record { is = element_fine a.formula n a.sort r h.is.good q k }) f

  pub indexed_fine : (line : ℕ) (a z : SortedFormula) (given : List (Argument Formula SortedFormula)) → FineResult a
      → GoodArguments SortedHere (Bare s.known.program names) FineResult given → after (operands given) (indexed_at s line a) ≡ Ok z
      → FineResult z
  indexed_fine line a z given h g e =
      let one = went (operands given) (indexed_at s line a) z e in
      let inner = where_so (takes_indices here a.sort one.value) (Count line) (elements here a one.value) in
      let two = behind_test (is_some (element_sort here a.sort)) (wrong line) inner z one.rest in
      elements_fine a z one.value h (operands_good given one.value g one.first)
      (behind_test (takes_indices here a.sort one.value) (Count line) (elements here a one.value) z two)

  pub field_in_fine : (line : ℕ) (r z : SortedFormula) (x : Name) → FineResult r → (o : Option (List SortedField))
      → fields_of here r.sort ≡ o → field_in line r x o ≡ Ok z → FineResult z
  field_in_fine line r z x h None k e = absurd (no_fault e)
  field_in_fine line r z x h (Some fields) k e =
      let one = went (field_named x (field_sort fields x.symbol.0)) (λ t. fine (with_sort (FieldOf r.formula x.symbol) t)) z e in
      by_field (field_sort fields x.symbol.0) refl one.first one.rest
    where
      by_field : (o : Option Sort) → field_sort fields x.symbol.0 ≡ o → {t : Sort} → field_named x o ≡ Ok t
          → fine (with_sort (FieldOf r.formula x.symbol) t) ≡ Ok z → FineResult z
      by_field None q f g = absurd (no_fault f)
      by_field (Some u) q {t} f g =
          let there : field_sort_of (fields_of here r.sort) x.symbol.0 ≡ Some t =
          ap (λ o. field_sort_of o x.symbol.0) k ∙ (q ∙ ap Some (same_value f)) in
          result_is (FieldOf r.formula x.symbol) t z g (field_fine r x t h.is.good there)

  pub content_at_fine : (line at : ℕ) (q z : SortedFormula) → FineResult q → content_at s line at q ≡ Ok z → FineResult z
  content_at_fine line at q z h e = by_sort q.sort refl e
    where
      by_sort : (r : Sort) → q.sort ≡ r → content_at s line at (with_sort q.formula r) ≡ Ok z → FineResult z
      by_sort (sort.Ptr t) k f =
          result_is (Content at t q.formula) (sort_of s.known.program.forms t) z f
          (content_fine at t q.formula (subst (λ r. SortedHere q.formula r) k h.is.good))
      by_sort sort.Int k f = absurd (no_fault f)
      by_sort sort.Bool k f = absurd (no_fault f)
      by_sort sort.List k f = absurd (no_fault f)
      by_sort (sort.Whole t) k f = absurd (no_fault f)
      by_sort (sort.Class t) k f = absurd (no_fault f)
