-- Applications in annotations keep their sorts.
use Rattle.std.proofs.Common.{◌≡◌, ℕ, Bool, true, false, refl, sym, ap, ◌∙◌, subst}
use Rattle.std.specs.Prelude.{List, [], ◌∷◌, length, Option, Some, None, Ok, Err, nat_eq}
use Rattle.std.specs.List.{list_all}
use Rattle.std.specs.Option.{option_and_then}
use Rattle.std.specs.Cmp.Derive.{both_true}
use Rattle.std.proofs.lemmas.Bool.{false≢true, eqb-true}
use Rattle.spv_logic.specs.declared.types.TypeId.{TypeId}
use Rattle.spv_logic.specs.declared.types.Sort.{Sort}
use Rattle.spv_logic.specs.declared.types.Sort.TheVariants as sort
use Rattle.spv_logic.specs.declared.types.Field.{Field as SortedField}
use Rattle.spv_logic.specs.declared.types.Shape.{Shape}
use Rattle.spv_logic.specs.declared.operators.Head.TheVariants as head
use Rattle.spv_logic.specs.Shapes.{element_sort, content_sort, fields_of, field_sort, field_sort_of}
use Rattle.spv_logic.specs.Sorts.{sort_in_range, takes, takes_declared, declared, with_sort as with_sorted, result_sort}
use Rattle.spv_logic.proofs.Ranges.{element_in_range, record_field_in_range}
use Rattle.spv_tree.specs.declared.syntax.names.Name.{Name}
use Rattle.spv_program.specs.declared.operators.BuiltIn.TheVariants as known
use Rattle.spv_program.specs.Types.{sort_of}
use Rattle.spv_program.specs.Programs.{Program, shapes}
use Rattle.spv_program.specs.Scopes as program
use Rattle.spv_program.specs.Formulas.{Formula, NilOf, Applied, Known, no_formulas, formulas}
use Rattle.spv_program.specs.FormulaTypes.{formula_sort, sorts_from, head_of_known}
use Rattle.spv_program.proofs.SortFacts.{sort_is}
use Rattle.spv_typing.specs.declared.faults.TypeFault.TheVariants.{Count}
use Rattle.spv_typing.specs.Outcomes.{Outcome, after, where_so, wrong}
use Rattle.spv_typing.specs.Known.{Function, Select, Store, Put, Cell, SetCell, Extend, PointerTo, Car, Cdr, Cons, Atom, Meaning, OfType, OfList, OfConstant, OfPlace, OfStart, OfSymbol, OfRoutine, Scope, meaning, function}
use Rattle.spv_typing.specs.OperatorWalk.{Operand, Of, NilAt, Argument, settled, operands}
use Rattle.spv_typing.specs.FormulaWalk.{Sorted as SortedFormula, Signature, with_sort, arity, signature_on, on_array, on_class, on_pointer, signature_of, operator_of, settled_all, field_named, put_at, put_with, put_applied, known_applied, named_applied, applied_of, applied}
use Rattle.spv_type_soundness.specs.well_typed.Laws.{SeesAlike}
use Rattle.spv_type_soundness.proofs.well_typed.Outcomes.{fine, no_fault, same_value, Went, went, held, behind_test}
use Rattle.spv_type_soundness.proofs.well_typed.Operators.{GoodOperand, of, GoodArguments, one_more}
use Rattle.spv_type_soundness.proofs.well_typed.Formulas.{Sorted, Bare, fine_is, pointed_there}
use Rattle.spv_type_soundness.proofs.well_typed.Names.{taken_alike, FineResult, GoodOperands, one_operand, shapes_pass, type_range, result_is, operands_good, settled_here, settled_all_here}

module _ (s : Scope) (names : program.Scope) (sees : SeesAlike s names) where
  abbrev p : Program
  p = s.known.program

  abbrev here : List Shape
  here = shapes s.known.program

  -- what arguments of wanted sorts make
  pub record Signs (b : Function) (sign : Signature) : Type 0 where
    pub gives : result_sort here p.symbols (head_of_known (operator_of b)) sign.wanted ≡ Some sign.result
    pub wanted_there : list_all (sort_in_range here) sign.wanted ≡ true
    pub result_there : sort_in_range here sign.result ≡ true
    pub many : length sign.wanted ≡ arity b

  signs : (b : Function) (made sign : Signature) → fine made ≡ Ok sign → Signs b made → Signs b sign
  signs b made sign e h = subst (Signs b) (same_value e) h

  there_of : (f : Formula) (r : Sort) → GoodOperand (Sorted p names) (Bare p names) (Of f r) → sort_in_range here r ≡ true
  there_of f r (of x q h) = h.good.there

  array_signs : (b : Function) (given : List (ℕ × Operand Formula)) (make : Sort → Sort → Signature) (sign : Signature)
      → GoodOperands s names sees given → ((a e : Sort) → sort_in_range here a ≡ true → element_sort here a ≡ Some e → Signs b (make a e))
      → on_array here given make ≡ Ok sign → Signs b sign
  array_signs b [] make sign g h e = absurd (no_fault e)
  array_signs b ((line, NilAt at) ∷ others) make sign g h e = absurd (no_fault e)
  array_signs b ((line, Of f a) ∷ others) make sign (one_operand c more q rest) h e = by_element (element_sort here a) refl e
    where
      by_element : (o : Option Sort) → element_sort here a ≡ o → signature_on line a make o ≡ Ok sign → Signs b sign
      by_element None k z = absurd (no_fault z)
      by_element (Some r) k z = signs b (make a r) sign z (h a r (there_of f a q) k)

  class_signs : (b : Function) (given : List (ℕ × Operand Formula)) (make : TypeId → Signature) (sign : Signature)
      → GoodOperands s names sees given → ((t : TypeId) → sort_in_range here (sort.Class t) ≡ true → Signs b (make t))
      → on_class given make ≡ Ok sign → Signs b sign
  class_signs b [] make sign g h e = absurd (no_fault e)
  class_signs b ((line, NilAt at) ∷ others) make sign g h e = absurd (no_fault e)
  class_signs b ((line, Of f (sort.Class t)) ∷ others) make sign (one_operand c more q rest) h e =
      signs b (make t) sign e (h t (there_of f (sort.Class t) q))
  class_signs b ((line, Of f sort.Int) ∷ others) make sign g h e = absurd (no_fault e)
  class_signs b ((line, Of f sort.Bool) ∷ others) make sign g h e = absurd (no_fault e)
  class_signs b ((line, Of f sort.List) ∷ others) make sign g h e = absurd (no_fault e)
  class_signs b ((line, Of f (sort.Ptr t)) ∷ others) make sign g h e = absurd (no_fault e)
  class_signs b ((line, Of f (sort.Whole t)) ∷ others) make sign g h e = absurd (no_fault e)

  pointer_signs : (b : Function) (given : List (ℕ × Operand Formula)) (make : TypeId → Signature) (sign : Signature)
      → GoodOperands s names sees given → ((t : TypeId) → sort_in_range here (sort.Class t) ≡ true → Signs b (make t))
      → on_pointer given make ≡ Ok sign → Signs b sign
  pointer_signs b [] make sign g h e = absurd (no_fault e)
  pointer_signs b ((line, NilAt at) ∷ others) make sign (one_operand c more q rest) h e = class_signs b others make sign rest h e
  pointer_signs b ((line, Of f (sort.Ptr t)) ∷ others) make sign (one_operand c more q rest) h e = class_signs b others make sign rest h e
  pointer_signs b ((line, Of f sort.Int) ∷ others) make sign g h e = absurd (no_fault e)
  pointer_signs b ((line, Of f sort.Bool) ∷ others) make sign g h e = absurd (no_fault e)
  pointer_signs b ((line, Of f sort.List) ∷ others) make sign g h e = absurd (no_fault e)
  pointer_signs b ((line, Of f (sort.Class t)) ∷ others) make sign g h e = absurd (no_fault e)
  pointer_signs b ((line, Of f (sort.Whole t)) ∷ others) make sign g h e = absurd (no_fault e)

  sort_there : (t : TypeId) → sort_in_range here (sort.Class t) ≡ true → sort_in_range here (sort_of p.forms t) ≡ true
  sort_there t e = type_range s names sees t (pointed_there p names t e)

  -- the content of a class of this type
  content_is : (t : TypeId) → content_sort here (sort.Class t) ≡ Some (sort_of p.forms t)
  content_is t = ap Some (sort_is p.forms t)

  cell_signs : (t : TypeId) → sort_in_range here (sort.Class t) ≡ true
      → Signs Cell (record { wanted = sort.Class t ∷ sort.Ptr t ∷ []; result = sort_of p.forms t })
  cell_signs t there = record {
    gives = taken_alike (sort.Class t ∷ sort.Ptr t ∷ []) _ ∙ content_is t;
    wanted_there = both_true there (both_true there refl);
    result_there = sort_there t there;
    many = refl;
  }

  -- a class that is changed at a pointer
  changed_gives : (t : TypeId) → with_sorted (content_sort here (sort.Class t))
      (λ e. takes (sort.Class t ∷ sort.Ptr t ∷ e ∷ []) (sort.Class t ∷ sort.Ptr t ∷ sort_of p.forms t ∷ []) (sort.Class t))
      ≡ Some (sort.Class t)
  changed_gives t =
      ap (λ o. with_sorted o (λ e. takes (sort.Class t ∷ sort.Ptr t ∷ e ∷ []) (sort.Class t ∷ sort.Ptr t ∷ sort_of p.forms t ∷ [])
      (sort.Class t))) (content_is t)
      ∙ taken_alike (sort.Class t ∷ sort.Ptr t ∷ sort_of p.forms t ∷ []) (sort.Class t)

  set_signs : (t : TypeId) → sort_in_range here (sort.Class t) ≡ true
      → Signs SetCell (record { wanted = sort.Class t ∷ sort.Ptr t ∷ sort_of p.forms t ∷ []; result = sort.Class t })
  set_signs t there = record {
    gives = changed_gives t;
    wanted_there =
        both_true there (both_true there (both_true (sort_there t there) refl));
    result_there = there;
    many = refl;
  }

  extend_signs : (t : TypeId) → sort_in_range here (sort.Class t) ≡ true
      → Signs Extend (record { wanted = sort.Class t ∷ sort.Ptr t ∷ sort_of p.forms t ∷ []; result = sort.Class t })
  extend_signs t there = record {
    gives = changed_gives t;
    wanted_there =
        both_true there (both_true there (both_true (sort_there t there) refl));
    result_there = there;
    many = refl;
  }

  member_signs : (t : TypeId) → sort_in_range here (sort.Class t) ≡ true
      → Signs PointerTo (record { wanted = sort.Ptr t ∷ sort.Class t ∷ []; result = sort.Bool })
  member_signs t there = record {
    gives = taken_alike (sort.Ptr t ∷ sort.Class t ∷ []) sort.Bool;
    wanted_there =
        both_true there (both_true there refl);
    result_there = refl;
    many = refl;
  }

  select_signs : (a e : Sort) → sort_in_range here a ≡ true → element_sort here a ≡ Some e
      → Signs Select (record { wanted = a ∷ sort.Int ∷ []; result = e })
  select_signs a e there k = record {
    gives = ap (λ o. with_sorted o (λ r. takes (a ∷ sort.Int ∷ []) (a ∷ sort.Int ∷ []) r)) k ∙ taken_alike (a ∷ sort.Int ∷ []) e;
    wanted_there = both_true there refl;
    result_there = element_in_range here (shapes_pass s names sees) a e k;
    many = refl;
  }

  store_signs : (a e : Sort) → sort_in_range here a ≡ true → element_sort here a ≡ Some e
      → Signs Store (record { wanted = a ∷ sort.Int ∷ e ∷ []; result = a })
  store_signs a e there k = record {
    gives = ap (λ o. with_sorted o (λ r. takes (a ∷ sort.Int ∷ r ∷ []) (a ∷ sort.Int ∷ e ∷ []) a)) k
        ∙ taken_alike (a ∷ sort.Int ∷ e ∷ []) a;
    wanted_there = both_true there (both_true (element_in_range here (shapes_pass s names sees) a e k) refl);
    result_there = there;
    many = refl;
  }

  list_signs : (b : Function) → Signs b (record { wanted = sort.List ∷ []; result = sort.List }) → (sign : Signature)
      → fine (record { wanted = sort.List ∷ []; result = sort.List }) ≡ Ok sign → Signs b sign
  list_signs b h sign e = signs b (record { wanted = sort.List ∷ []; result = sort.List }) sign e h

  abbrev is_put : Function → Bool
  is_put Put = true
  is_put _ = false

  signature_signs : (b : Function) (given : List (ℕ × Operand Formula)) (sign : Signature) → is_put b ≡ false
      → GoodOperands s names sees given → signature_of s b given ≡ Ok sign → Signs b sign
  signature_signs Select given sign n g e =
      array_signs Select given (λ a r. record { wanted = a ∷ sort.Int ∷ []; result = r }) sign g select_signs e
  signature_signs Store given sign n g e =
      array_signs Store given (λ a r. record { wanted = a ∷ sort.Int ∷ r ∷ []; result = a }) sign g store_signs e
  signature_signs Put given sign n g e = absurd (false≢true (sym n))
  signature_signs Cell given sign n g e =
      class_signs Cell given (λ t. record { wanted = sort.Class t ∷ sort.Ptr t ∷ []; result = sort_of p.forms t }) sign g cell_signs e
  signature_signs SetCell given sign n g e =
      class_signs SetCell given (λ t. record { wanted = sort.Class t ∷ sort.Ptr t ∷ sort_of p.forms t ∷ []; result = sort.Class t }) sign
      g set_signs e
  signature_signs Extend given sign n g e =
      class_signs Extend given (λ t. record { wanted = sort.Class t ∷ sort.Ptr t ∷ sort_of p.forms t ∷ []; result = sort.Class t }) sign g
      extend_signs e
  signature_signs PointerTo given sign n g e =
      pointer_signs PointerTo given (λ t. record { wanted = sort.Ptr t ∷ sort.Class t ∷ []; result = sort.Bool }) sign g member_signs e
  signature_signs Car given sign n g e =
      list_signs Car (record { gives = refl; wanted_there = refl; result_there = refl; many = refl }) sign e
  signature_signs Cdr given sign n g e =
      list_signs Cdr (record { gives = refl; wanted_there = refl; result_there = refl; many = refl }) sign e
  signature_signs Cons given sign n g e =
      signs Cons (record { wanted = sort.List ∷ sort.List ∷ []; result = sort.List }) sign e
      (record { gives = refl; wanted_there = refl; result_there = refl; many = refl })
  signature_signs Atom given sign n g e =
      signs Atom (record { wanted = sort.List ∷ []; result = sort.Bool }) sign e
      (record { gives = refl; wanted_there = refl; result_there = refl; many = refl })

  -- ---- PUT

  put_fine : (x : Name) (r z : SortedFormula) (line : ℕ) (v : ℕ × Operand Formula) (o : Option (List SortedField))
      → fields_of here r.sort ≡ o → Sorted p names r.formula r.sort → GoodOperand (Sorted p names) (Bare p names) v.1
      → put_at x line r o v ≡ Ok z → FineResult s names sees z
  put_fine x r z line v None k h g e = absurd (no_fault e)
  put_fine x r z line v (Some fields) k h g e = by_field (field_sort fields x.symbol.0) refl one.value one.first one.rest
    where
      made : Formula → SortedFormula
      made f = with_sort (Known (known.Put x.symbol) (formulas r.formula (formulas f no_formulas))) r.sort

      one : Went (field_named x (field_sort fields x.symbol.0)) (λ t. after (settled NilOf (wrong v.0) t v.1) (λ f. fine (made f))) z
      one = went (field_named x (field_sort fields x.symbol.0)) (λ t. after (settled NilOf (wrong v.0) t v.1) (λ f. fine (made f))) z e

      by_field : (q : Option Sort) → field_sort fields x.symbol.0 ≡ q → (t : Sort) → field_named x q ≡ Ok t
          → after (settled NilOf (wrong v.0) t v.1) (λ f. fine (made f)) ≡ Ok z → FineResult s names sees z
      by_field None q t f rest = absurd (no_fault f)
      by_field (Some u) q t f rest =
          let two = went (settled NilOf (wrong v.0) t v.1) (λ f. fine (made f)) z rest in
          let there : field_sort_of (fields_of here r.sort) x.symbol.0 ≡ Some t =
          ap (λ o. field_sort_of o x.symbol.0) k ∙ (q ∙ ap Some (same_value f)) in
          let value = settled_here s names sees (wrong v.0) t
          (record_field_in_range here (shapes_pass s names sees) r.sort t x.symbol.0 there) v.1 two.value g two.first in
          result_is s names sees (Known (known.Put x.symbol) (formulas r.formula (formulas two.value no_formulas))) r.sort z two.rest
          (fine_is p names (Known (known.Put x.symbol) (formulas r.formula (formulas two.value no_formulas))) r.sort
          (ap (λ o. option_and_then (result_sort here p.symbols (head.Put x.symbol))
          (sorts_from o (sorts_from (formula_sort p names two.value) (Some [])))) h.is
          ∙ (ap (λ o. option_and_then (result_sort here p.symbols (head.Put x.symbol))
          (sorts_from (Some r.sort) (sorts_from o (Some [])))) value.is
          ∙ (ap (λ o. with_sorted o (λ u. takes (r.sort ∷ u ∷ []) (r.sort ∷ t ∷ []) r.sort)) there ∙ taken_alike (r.sort ∷ t ∷ []) r.sort)))
          h.there refl)

  put_with_fine : (line : ℕ) (x : Option Name) (r v : ℕ × Operand Formula) (z : SortedFormula)
      → GoodOperand (Sorted p names) (Bare p names) r.1 → GoodOperand (Sorted p names) (Bare p names) v.1 → put_with s line x r v ≡ Ok z
      → FineResult s names sees z
  put_with_fine line None r v z g h e = absurd (no_fault e)
  put_with_fine line (Some x) (at, NilAt on) v z g h e = absurd (no_fault e)
  put_with_fine line (Some x) (at, Of f t) v z (of y u q) h e = put_fine x (with_sort f t) z at v (fields_of here t) refl q.good h e

  put_applied_fine : (line : ℕ) (given : List (Argument Formula SortedFormula)) (z : SortedFormula)
      → GoodArguments (Sorted p names) (Bare p names) (FineResult s names sees) given → put_applied s line given ≡ Ok z
      → FineResult s names sees z
  put_applied_fine line [] z g e = absurd (no_fault (went (operands {S = SortedFormula} []) (λ os. counted os) z e).rest)
    where
      counted : List (ℕ × Operand Formula) → Outcome SortedFormula
      counted os = Err (Count line)
  put_applied_fine line (r ∷ []) z g e = absurd (no_fault (went (operands (r ∷ [])) (λ os. counted os) z e).rest)
    where
      counted : List (ℕ × Operand Formula) → Outcome SortedFormula
      counted os = Err (Count line)
  put_applied_fine line (r ∷ x ∷ []) z g e =
      absurd (no_fault (went (operands {S = SortedFormula} []) (λ os. counted os) z
      (went r.operand (λ a. after (operands {S = SortedFormula} []) (λ os. counted os)) z e).rest).rest)
    where
      counted : List (ℕ × Operand Formula) → Outcome SortedFormula
      counted os = Err (Count line)
  put_applied_fine line (r ∷ x ∷ v ∷ w ∷ others) z g e =
      absurd (no_fault (went (operands (v ∷ w ∷ others)) (λ os. counted os) z
      (went r.operand (λ a. after (operands (v ∷ w ∷ others)) (λ os. counted os)) z e).rest).rest)
    where
      counted : List (ℕ × Operand Formula) → Outcome SortedFormula
      counted os = Err (Count line)
  put_applied_fine line (r ∷ x ∷ v ∷ []) z (one_more a b q (one_more c d t (one_more f h u w))) e =
      let one = went r.operand (λ a. after v.operand (λ b. put_with s x.line x.name (r.line, a) (v.line, b))) z e in
      let two = went v.operand (λ b. put_with s x.line x.name (r.line, one.value) (v.line, b)) z one.rest in
      put_with_fine x.line x.name (r.line, one.value) (v.line, two.value) z (q.operand one.value one.first)
      (u.operand two.value two.first) two.rest

  -- ---- applications

  known_fine : (line : ℕ) (b : Function) (given : List (Argument Formula SortedFormula)) (z : SortedFormula) → is_put b ≡ false
      → GoodArguments (Sorted p names) (Bare p names) (FineResult s names sees) given
      → after (operands given) (λ os.
      where_so (nat_eq (length os) (arity b)) (Count line)
      (after (signature_of s b os) (λ sign.
      after (settled_all sign.wanted os) (λ fs. fine (with_sort (Known (operator_of b) fs) sign.result))))) ≡ Ok z
      → FineResult s names sees z
  known_fine line b given z n g e =
      let one = went (operands given)
      (λ os. where_so (nat_eq (length os) (arity b)) (Count line)
      (after (signature_of s b os) (λ sign.
      after (settled_all sign.wanted os) (λ fs. fine (with_sort (Known (operator_of b) fs) sign.result))))) z e in
      let os = one.value in
      let go = after (signature_of s b os)
      (λ sign. after (settled_all sign.wanted os) (λ fs. fine (with_sort (Known (operator_of b) fs) sign.result))) in
      let many : length os ≡ arity b = eqb-true (length os) (arity b) (held (nat_eq (length os) (arity b)) (Count line) go z one.rest) in
      let two = went (signature_of s b os)
      (λ sign. after (settled_all sign.wanted os) (λ fs. fine (with_sort (Known (operator_of b) fs) sign.result))) z
      (behind_test (nat_eq (length os) (arity b)) (Count line) go z one.rest) in
      let sign = two.value in
      let three = went (settled_all sign.wanted os) (λ fs. fine (with_sort (Known (operator_of b) fs) sign.result)) z two.rest in
      let good = operands_good s names sees given os g one.first in
      let h = signature_signs b os sign n good two.first in
      let same : length os ≡ length sign.wanted = many ∙ sym h.many in
      result_is s names sees (Known (operator_of b) three.value) sign.result z three.rest
      (fine_is p names (Known (operator_of b) three.value) sign.result
      (ap (λ o. option_and_then (result_sort here p.symbols (head_of_known (operator_of b))) o)
      (settled_all_here s names sees sign.wanted os three.value h.wanted_there same good three.first) ∙ h.gives)
      h.result_there refl)

  known_applied_fine : (line : ℕ) (b : Function) (given : List (Argument Formula SortedFormula)) (z : SortedFormula)
      → GoodArguments (Sorted p names) (Bare p names) (FineResult s names sees) given → known_applied s line b given ≡ Ok z
      → FineResult s names sees z
  known_applied_fine line Put given z g e = put_applied_fine line given z g e
  known_applied_fine line Select given z g e = known_fine line Select given z refl g e
  known_applied_fine line Store given z g e = known_fine line Store given z refl g e
  known_applied_fine line Cell given z g e = known_fine line Cell given z refl g e
  known_applied_fine line SetCell given z g e = known_fine line SetCell given z refl g e
  known_applied_fine line Extend given z g e = known_fine line Extend given z refl g e
  known_applied_fine line PointerTo given z g e = known_fine line PointerTo given z refl g e
  known_applied_fine line Car given z g e = known_fine line Car given z refl g e
  known_applied_fine line Cdr given z g e = known_fine line Cdr given z refl g e
  known_applied_fine line Cons given z g e = known_fine line Cons given z refl g e
  known_applied_fine line Atom given z g e = known_fine line Atom given z refl g e

  named_applied_fine : (line : ℕ) (x : Name) (m : Option Meaning) (given : List (Argument Formula SortedFormula)) (z : SortedFormula)
      → meaning s x.symbol ≡ m → GoodArguments (Sorted p names) (Bare p names) (FineResult s names sees) given
      → named_applied s line x m given ≡ Ok z → FineResult s names sees z
  named_applied_fine line x None given z h g e = absurd (no_fault e)
  named_applied_fine line x (Some (OfSymbol d)) given z h g e =
      let one = went (operands given)
      (λ os. where_so (nat_eq (length os) (length d.args)) (Count line)
      (after (settled_all d.args os) (λ fs. fine (with_sort (Applied d.name fs) d.result)))) z e in
      let os = one.value in
      let go = after (settled_all d.args os) (λ fs. fine (with_sort (Applied d.name fs) d.result)) in
      let same : length os ≡ length d.args =
      eqb-true (length os) (length d.args) (held (nat_eq (length os) (length d.args)) (Count line) go z one.rest) in
      let two = went (settled_all d.args os) (λ fs. fine (with_sort (Applied d.name fs) d.result)) z
      (behind_test (nat_eq (length os) (length d.args)) (Count line) go z one.rest) in
      let good = operands_good s names sees given os g one.first in
      let all = settled_all_here s names sees d.args os two.value (sees.symbol_arguments x.symbol d h) same good two.first in
      result_is s names sees (Applied d.name two.value) d.result z two.rest
      (fine_is p names (Applied d.name two.value) d.result
      (ap (λ o. option_and_then (takes_declared (declared p.symbols d.name.0)) o) all
      ∙ (ap (λ o. takes_declared o d.args) (sees.symbols x.symbol d h) ∙ taken_alike d.args d.result))
      (sees.symbol_sorts x.symbol d h) refl)
  named_applied_fine line x (Some (OfRoutine r)) given z h g e =
      let one = went (operands given) (λ os. where_so (nat_eq (length os) (length r.formals)) (Count line) (Err (wrong line))) z e in
      absurd (no_fault (behind_test (nat_eq (length one.value) (length r.formals)) (Count line) (Err (wrong line)) z one.rest))
  named_applied_fine line x (Some (OfType t)) given z h g e = absurd (no_fault (went (operands given) (λ os. nothing line) z e).rest)
    where
      nothing : ℕ → Outcome SortedFormula
      nothing line = Err (wrong line)
  named_applied_fine line x (Some OfList) given z h g e = absurd (no_fault (went (operands given) (λ os. nothing line) z e).rest)
    where
      nothing : ℕ → Outcome SortedFormula
      nothing line = Err (wrong line)
  named_applied_fine line x (Some (OfConstant n)) given z h g e = absurd (no_fault (went (operands given) (λ os. nothing line) z e).rest)
    where
      nothing : ℕ → Outcome SortedFormula
      nothing line = Err (wrong line)
  named_applied_fine line x (Some (OfPlace t)) given z h g e = absurd (no_fault (went (operands given) (λ os. nothing line) z e).rest)
    where
      nothing : ℕ → Outcome SortedFormula
      nothing line = Err (wrong line)
  named_applied_fine line x (Some (OfStart r)) given z h g e = absurd (no_fault (went (operands given) (λ os. nothing line) z e).rest)
    where
      nothing : ℕ → Outcome SortedFormula
      nothing line = Err (wrong line)

  applied_by : (line : ℕ) (x : Name) (o : Option Function) (given : List (Argument Formula SortedFormula)) (z : SortedFormula)
      → GoodArguments (Sorted p names) (Bare p names) (FineResult s names sees) given → applied_of s line x o given ≡ Ok z
      → FineResult s names sees z
  applied_by line x None given z g e = named_applied_fine line x (meaning s x.symbol) given z refl g e
  applied_by line x (Some b) given z g e = known_applied_fine line b given z g e

  pub applied_fine : (line : ℕ) (x : Name) (given : List (Argument Formula SortedFormula)) (z : SortedFormula)
      → GoodArguments (Sorted p names) (Bare p names) (FineResult s names sees) given → applied s line x given ≡ Ok z
      → FineResult s names sees z
  applied_fine line x given z g e = applied_by line x (function s x.symbol) given z g e
