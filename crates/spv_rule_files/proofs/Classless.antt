-- No formula that is read has `#` or `^`.
use Rattle.std.proofs.Common.{◌≡◌, ℕ, true, refl, subst}
use Rattle.std.specs.Prelude.{⊤, List, [], ◌∷◌, length, Option, Some, None, Ok, Err, nat_eq, is_some}
use Rattle.std.specs.Cmp.Derive.{both_true}
use Rattle.spv_logic.specs.declared.types.Sort.{Sort}
use Rattle.spv_logic.specs.declared.types.Sort.TheVariants as sort
use Rattle.spv_logic.specs.declared.types.Field.{Field as SortedField}
use Rattle.spv_logic.specs.Shapes.{element_sort, fields_of, field_sort}
use Rattle.spv_tree.specs.declared.syntax.names.Name.{Name}
use Rattle.spv_tree.specs.syntax.Formulas as tree
use Rattle.spv_program.specs.declared.operators.BuiltIn.TheVariants as known
use Rattle.spv_program.specs.Types.{sort_of}
use Rattle.spv_program.specs.Programs.{shapes}
use Rattle.spv_program.specs.Formulas.{Formula, Formulas, Numeral, NilOf, Named, Element, FieldOf, Applied, Known, no_formulas, formulas}
use Rattle.spv_typing.specs.declared.faults.TypeFault.{TypeFault}
use Rattle.spv_typing.specs.declared.faults.TypeFault.TheVariants.{Count}
use Rattle.spv_typing.specs.Outcomes.{Outcome, after, where_so, wrong}
use Rattle.spv_typing.specs.Known.{Function, Select, Store, Put, Cell, SetCell, Extend, PointerTo, Car, Cdr, Cons, Atom, Meaning, OfType, OfList, OfConstant, OfPlace, OfStart, OfSymbol, OfRoutine, Scope, meaning, function}
use Rattle.spv_typing.specs.OperatorWalk.{Operand, Of, NilAt, Argument, settled, operands, formula_walk}
use Rattle.spv_typing.specs.FormulaWalk.{Sorted, with_sort, name_alone, settled_all, arity, signature_of, operator_of, field_named, put_at, put_with, put_applied, known_applied, named_applied, applied_of, on_element, takes_indices, elements, indexed_at, field_in}
use Rattle.spv_type_soundness.proofs.well_typed.Outcomes.{fine, no_fault, same_value, went, behind_test}
use Rattle.spv_type_soundness.proofs.well_typed.Operators.{Fine, GoodOperand, of, GoodArguments, no_more, one_more, Selects, Keeps, settled_at, formula_good}
use Rattle.spv_rule_files.specs.Forms.{no_class, rule_forms}
use Rattle.spv_rule_files.specs.Right.{has_no_class, have_no_class}

abbrev pub Clean : Formula → Sort → Type 0
Clean f s = has_no_class f ≡ true

abbrev pub Any : Formula → Type 0
Any f = ⊤

pub record CleanResult (r : Sorted) : Type 0 where
  pub is : has_no_class r.formula ≡ true

clean : (f : Formula) (s : Sort) → has_no_class f ≡ true → Fine Clean Any f s
clean f s h = record { good = h; bare = tt }

result : (f : Formula) (s : Sort) (z : Sorted) → fine (with_sort f s) ≡ Ok z → has_no_class f ≡ true → CleanResult z
result f s z e h = subst CleanResult (same_value e) (record { is = h })

pub settled_clean : (fault : TypeFault) (s : Sort) (o : Operand Formula) (g : Formula) → GoodOperand Clean Any o → settled NilOf fault s o ≡ Ok g
    → has_no_class g ≡ true
settled_clean fault s o g h e = settled_at Clean Any NilOf fault s (λ t same. refl) o g h e

data CleanOperands : List (ℕ × Operand Formula) → Type 0 where
  none : CleanOperands []
  one : (a : ℕ × Operand Formula) (others : List (ℕ × Operand Formula)) → GoodOperand Clean Any a.1 → CleanOperands others
      → CleanOperands (a ∷ others)

abbrev listed : ℕ → Operand Formula → List (ℕ × Operand Formula) → List (ℕ × Operand Formula)
listed line o rest = (line, o) ∷ rest

operands_clean : (given : List (Argument Formula Sorted)) (os : List (ℕ × Operand Formula)) → GoodArguments Clean Any CleanResult given
    → operands given ≡ Ok os → CleanOperands os
operands_clean [] os no_more e = subst CleanOperands (same_value e) none
operands_clean (a ∷ given) os (one_more b others g h) e =
    let first = went a.operand (λ o. after (operands given) (λ rest. fine (listed a.line o rest))) os e in
    let rest = went (operands given) (λ rest. fine (listed a.line first.value rest)) os first.rest in
    subst CleanOperands (same_value rest.rest)
    (one (a.line, first.value) rest.value (g.operand first.value first.first) (operands_clean given rest.value h rest.first))

settled_all_clean : (wanted : List Sort) (given : List (ℕ × Operand Formula)) (fs : Formulas) → CleanOperands given
    → settled_all wanted given ≡ Ok fs → have_no_class fs ≡ true
settled_all_clean [] [] fs h e = subst (λ gs. have_no_class gs ≡ true) (same_value e) refl
settled_all_clean [] (a ∷ given) fs h e = subst (λ gs. have_no_class gs ≡ true) (same_value e) refl
settled_all_clean (s ∷ wanted) [] fs h e = subst (λ gs. have_no_class gs ≡ true) (same_value e) refl
settled_all_clean (s ∷ wanted) (a ∷ given) fs (one b others g h) e =
    let first = went (settled NilOf (wrong a.0) s a.1) (λ f. after (settled_all wanted given) (λ gs. fine (formulas f gs))) fs e in
    let rest = went (settled_all wanted given) (λ gs. fine (formulas first.value gs)) fs first.rest in
    subst (λ gs. have_no_class gs ≡ true) (same_value rest.rest)
    (both_true (settled_clean (wrong a.0) s a.1 first.value g first.first) (settled_all_clean wanted given rest.value h rest.first))

abbrev wrong_count : ℕ → Outcome Sorted
wrong_count line = Err (Count line)

abbrev none_of : Argument Formula Sorted → List (Argument Formula Sorted)
none_of a = []

abbrev wrong_here : ℕ → Outcome Sorted
wrong_here line = Err (wrong line)

module _ (s : Scope) where
  name_clean : (line : ℕ) (x : Name) (m : Option Meaning) (z : Sorted) → name_alone s line x m ≡ Ok z → CleanResult z
  name_clean line x None z e = absurd (no_fault e)
  name_clean line x (Some (OfType t)) z e = absurd (no_fault e)
  name_clean line x (Some OfList) z e = absurd (no_fault e)
  name_clean line x (Some (OfRoutine r)) z e = absurd (no_fault e)
  name_clean line x (Some (OfConstant n)) z e = result (Numeral n) sort.Int z e refl
  name_clean line x (Some (OfPlace t)) z e = result (Named x.line x.symbol) (sort_of s.known.program.forms t) z e refl
  name_clean line x (Some (OfStart r)) z e = result (Named x.line x.symbol) r z e refl
  name_clean line x (Some (OfSymbol d)) z e =
      let next = fine (with_sort (Applied d.name no_formulas) d.result) in
      result (Applied d.name no_formulas) d.result z (behind_test (nat_eq (length d.args) 0) (Count line) next z e) refl

  -- ---- selectors

  elements_clean : (a z : Sorted) (indices : List (ℕ × Operand Formula)) → CleanResult a → CleanOperands indices
      → elements (shapes s.known.program) a indices ≡ Ok z → CleanResult z
  elements_clean a z [] h g e = subst CleanResult (same_value e) h
  elements_clean a z (i ∷ indices) h (one b others g more) e =
      let go = λ (f : Formula). on_element (Err (wrong i.0)) (λ r. elements (shapes s.known.program) (with_sort (Element a.formula f) r) indices)
      (element_sort (shapes s.known.program) a.sort) in
      let first = went (settled NilOf (wrong i.0) sort.Int i.1) go z e in
      let index = settled_clean (wrong i.0) sort.Int i.1 first.value g first.first in
      by_element (element_sort (shapes s.known.program) a.sort) first.value index first.rest
      (λ r n k f. elements_clean (with_sort (Element a.formula n) r) z indices k more f)
    where
      by_element : (o : Option Sort) (n : Formula) → has_no_class n ≡ true
          → on_element (Err (wrong i.0)) (λ r. elements (shapes s.known.program) (with_sort (Element a.formula n) r) indices) o ≡ Ok z
          → ((r : Sort) (n : Formula) → CleanResult (with_sort (Element a.formula n) r)
          → elements (shapes s.known.program) (with_sort (Element a.formula n) r) indices ≡ Ok z → CleanResult z) → CleanResult z
      by_element None n q f go = absurd (no_fault f)
      by_element (Some r) n q f go = go r n (record { is = both_true h.is q }) f

  indexed_clean : (line : ℕ) (a z : Sorted) (given : List (Argument Formula Sorted)) → CleanResult a → GoodArguments Clean Any CleanResult given
      → after (operands given) (indexed_at s line a) ≡ Ok z → CleanResult z
  indexed_clean line a z given h g e =
      let here = shapes s.known.program in
      let first = went (operands given) (indexed_at s line a) z e in
      let inner = where_so (takes_indices here a.sort first.value) (Count line) (elements here a first.value) in
      let rest = behind_test (is_some (element_sort here a.sort)) (wrong line) inner z first.rest in
      elements_clean a z first.value h (operands_clean given first.value g first.first)
      (behind_test (takes_indices here a.sort first.value) (Count line) (elements here a first.value) z rest)

  field_clean : (line : ℕ) (r z : Sorted) (x : Name) → CleanResult r → (o : Option (List SortedField)) → field_in line r x o ≡ Ok z → CleanResult z
  field_clean line r z x h None e = absurd (no_fault e)
  field_clean line r z x h (Some fields) e =
      let first = went (field_named x (field_sort fields x.symbol.0)) (λ t. fine (with_sort (FieldOf r.formula x.symbol) t)) z e in
      result (FieldOf r.formula x.symbol) first.value z first.rest h.is

  -- ---- applications

  put_at_clean : (x : Name) (line : ℕ) (r : Sorted) (o : Option (List SortedField)) (v : ℕ × Operand Formula) (z : Sorted) → has_no_class r.formula ≡ true
      → GoodOperand Clean Any v.1 → put_at x line r o v ≡ Ok z → CleanResult z
  put_at_clean x line r None v z h g e = absurd (no_fault e)
  put_at_clean x line r (Some fields) v z h g e =
      let put = λ (f : Formula). with_sort (Known (known.Put x.symbol) (formulas r.formula (formulas f no_formulas))) r.sort in
      let first = went (field_named x (field_sort fields x.symbol.0)) (λ t. after (settled NilOf (wrong v.0) t v.1) (λ f. fine (put f))) z e in
      let rest = went (settled NilOf (wrong v.0) first.value v.1) (λ f. fine (put f)) z first.rest in
      result (Known (known.Put x.symbol) (formulas r.formula (formulas rest.value no_formulas))) r.sort z rest.rest
      (both_true h (both_true (settled_clean (wrong v.0) first.value v.1 rest.value g rest.first) refl))

  put_with_clean : (line : ℕ) (x : Option Name) (at : ℕ) (o : Operand Formula) (v : ℕ × Operand Formula) (z : Sorted) → GoodOperand Clean Any o
      → GoodOperand Clean Any v.1 → put_with s line x (at, o) v ≡ Ok z → CleanResult z
  put_with_clean line None at o v z h g e = absurd (no_fault e)
  put_with_clean line (Some x) at (NilAt on) v z h g e = absurd (no_fault e)
  put_with_clean line (Some x) at (Of f r) v z (of y u h) g e =
      put_at_clean x at (with_sort f r) (fields_of (shapes s.known.program) r) v z h.good g e

  put_clean : (line : ℕ) (given : List (Argument Formula Sorted)) (z : Sorted) → GoodArguments Clean Any CleanResult given
      → put_applied s line given ≡ Ok z → CleanResult z
  put_clean line [] z g e = absurd (no_fault e)
  put_clean line (r ∷ []) z g e =
      let first = went (operands (r ∷ [])) (λ os. wrong_count line) z e in absurd (no_fault first.rest)
  put_clean line (r ∷ x ∷ []) z g e =
      let first = went r.operand (λ a. after (operands (none_of r)) (λ bs. wrong_count line)) z e in
      let rest = went (operands (none_of r)) (λ bs. wrong_count line) z first.rest in absurd (no_fault rest.rest)
  put_clean line (r ∷ x ∷ v ∷ []) z (one_more a1 o1 g (one_more a2 o2 h (one_more a3 o3 k more))) e =
      let first = went r.operand (λ a. after v.operand (λ b. put_with s x.line x.name (r.line, a) (v.line, b))) z e in
      let rest = went v.operand (λ b. put_with s x.line x.name (r.line, first.value) (v.line, b)) z first.rest in
      put_with_clean x.line x.name r.line first.value (v.line, rest.value) z (g.operand first.value first.first) (k.operand rest.value rest.first) rest.rest
  put_clean line (r ∷ x ∷ v ∷ w ∷ others) z g e =
      let first = went r.operand (λ a. after (operands (v ∷ w ∷ others)) (λ bs. wrong_count line)) z e in
      let rest = went (operands (v ∷ w ∷ others)) (λ bs. wrong_count line) z first.rest in absurd (no_fault rest.rest)

  known_clean : (line : ℕ) (b : Function) (given : List (Argument Formula Sorted)) (z : Sorted) → GoodArguments Clean Any CleanResult given
      → after (operands given) (λ os.
      where_so (nat_eq (length os) (arity b)) (Count line)
      (after (signature_of s b os) (λ sign. after (settled_all sign.wanted os) (λ fs. fine (with_sort (Known (operator_of b) fs) sign.result))))) ≡ Ok z
      → CleanResult z
  known_clean line b given z g e =
      let ending = λ (os : List (ℕ × Operand Formula)).
      after (signature_of s b os) (λ sign. after (settled_all sign.wanted os) (λ fs. fine (with_sort (Known (operator_of b) fs) sign.result))) in
      let first = went (operands given) (λ os. where_so (nat_eq (length os) (arity b)) (Count line) (ending os)) z e in
      let os = first.value in
      let counted = behind_test (nat_eq (length os) (arity b)) (Count line) (ending os) z first.rest in
      let signed = went (signature_of s b os) (λ sign. after (settled_all sign.wanted os) (λ fs. fine (with_sort (Known (operator_of b) fs) sign.result))) z counted in
      let last = went (settled_all signed.value.wanted os) (λ fs. fine (with_sort (Known (operator_of b) fs) signed.value.result)) z signed.rest in
      result (Known (operator_of b) last.value) signed.value.result z last.rest
      (settled_all_clean signed.value.wanted os last.value (operands_clean given os g first.first) last.first)

  function_clean : (line : ℕ) (b : Function) (given : List (Argument Formula Sorted)) (z : Sorted) → GoodArguments Clean Any CleanResult given
      → known_applied s line b given ≡ Ok z → CleanResult z
  function_clean line Put given z g e = put_clean line given z g e
  function_clean line Select given z g e = known_clean line Select given z g e
  function_clean line Store given z g e = known_clean line Store given z g e
  function_clean line Cell given z g e = known_clean line Cell given z g e
  function_clean line SetCell given z g e = known_clean line SetCell given z g e
  function_clean line Extend given z g e = known_clean line Extend given z g e
  function_clean line PointerTo given z g e = known_clean line PointerTo given z g e
  function_clean line Car given z g e = known_clean line Car given z g e
  function_clean line Cdr given z g e = known_clean line Cdr given z g e
  function_clean line Cons given z g e = known_clean line Cons given z g e
  function_clean line Atom given z g e = known_clean line Atom given z g e

  no_place : (line : ℕ) (given : List (Argument Formula Sorted)) (z : Sorted) → after (operands given) (λ os. wrong_here line) ≡ Ok z → ⊥
  no_place line given z e = let first = went (operands given) (λ os. wrong_here line) z e in no_fault first.rest

  symbol_clean : (line : ℕ) (x : Name) (m : Option Meaning) (given : List (Argument Formula Sorted)) (z : Sorted) → GoodArguments Clean Any CleanResult given
      → named_applied s line x m given ≡ Ok z → CleanResult z
  symbol_clean line x None given z g e = absurd (no_fault e)
  symbol_clean line x (Some (OfSymbol d)) given z g e =
      let ending = λ (os : List (ℕ × Operand Formula)). after (settled_all d.args os) (λ fs. fine (with_sort (Applied d.name fs) d.result)) in
      let first = went (operands given) (λ os. where_so (nat_eq (length os) (length d.args)) (Count line) (ending os)) z e in
      let counted = behind_test (nat_eq (length first.value) (length d.args)) (Count line) (ending first.value) z first.rest in
      let last = went (settled_all d.args first.value) (λ fs. fine (with_sort (Applied d.name fs) d.result)) z counted in
      result (Applied d.name last.value) d.result z last.rest
      (settled_all_clean d.args first.value last.value (operands_clean given first.value g first.first) last.first)
  symbol_clean line x (Some (OfRoutine h)) given z g e =
      let first = went (operands given) (λ os. where_so (nat_eq (length os) (length h.formals)) (Count line) (wrong_here line)) z e in
      absurd (no_fault (behind_test (nat_eq (length first.value) (length h.formals)) (Count line) (wrong_here line) z first.rest))
  symbol_clean line x (Some (OfType t)) given z g e = absurd (no_place line given z e)
  symbol_clean line x (Some OfList) given z g e = absurd (no_place line given z e)
  symbol_clean line x (Some (OfConstant n)) given z g e = absurd (no_place line given z e)
  symbol_clean line x (Some (OfPlace t)) given z g e = absurd (no_place line given z e)
  symbol_clean line x (Some (OfStart r)) given z g e = absurd (no_place line given z e)

  applied_by : (line : ℕ) (x : Name) (o : Option Function) (given : List (Argument Formula Sorted)) (z : Sorted) → GoodArguments Clean Any CleanResult given
      → applied_of s line x o given ≡ Ok z → CleanResult z
  applied_by line x None given z g e = symbol_clean line x (meaning s x.symbol) given z g e
  applied_by line x (Some b) given z g e = function_clean line b given z g e

  -- ---- all forms

  selects : Selects (rule_forms s) Clean Any CleanResult CleanResult
  selects = record {
    indexed = λ line a z given h g e. indexed_clean line a z given h g e;
    field_of = λ line r z x h e. field_clean line r z x h (fields_of (shapes s.known.program) r.sort) e;
    content_of = λ line at q z h e. absurd (no_fault e);
  }

  class_clean : (line : ℕ) (x : Name) (m : Option Meaning) (o : Operand Formula) → no_class line x m ≡ Ok o → GoodOperand Clean Any o
  class_clean line x None o e = absurd (no_fault e)
  class_clean line x (Some m) o e = absurd (no_fault e)

  keeps : Keeps (rule_forms s) Clean Any CleanResult CleanResult
  keeps = record {
    numeral = λ z. clean _ sort.Int refl;
    boolean = λ b. clean _ sort.Bool refl;
    nil_of = λ t y h. refl;
    negative_of = λ x h. clean _ sort.Int h;
    calculated = λ o x y g h. clean _ sort.Int (both_true g h);
    equal_left = λ x y r may g h. clean _ sort.Bool (both_true g.good h);
    equal_right = λ x y r may g h. clean _ sort.Bool (both_true g h.good);
    unequal_left = λ x y r may g h. clean _ sort.Bool (both_true g.good h);
    unequal_right = λ x y r may g h. clean _ sort.Bool (both_true g h.good);
    less = λ x y g h. clean _ sort.Bool (both_true g h);
    at_most = λ x y g h. clean _ sort.Bool (both_true g h);
    greater = λ x y g h. clean _ sort.Bool (both_true g h);
    at_least = λ x y g h. clean _ sort.Bool (both_true g h);
    negated = λ x h. clean _ sort.Bool h;
    joined = λ o x y g h. clean _ sort.Bool (both_true g h);
    implied = λ x y may g h. clean _ sort.Bool (both_true g h);
    class_of = λ line x o e. class_clean line x (meaning s x.symbol) o e;
    begin = λ line x z e. name_clean line x (meaning s x.symbol) z e;
    begin_written = λ line x z e. name_clean line x (meaning s x.symbol) z e;
    apply = λ line x z given g e. applied_by line x (function s x.symbol) given z g e;
    reads = selects;
    writes = selects;
    finish = λ z h. of z.formula z.sort (clean z.formula z.sort h.is);
  }

  pub formula_clean : (f : tree.Formula) (o : Operand Formula) → formula_walk (rule_forms s) f ≡ Ok o → GoodOperand Clean Any o
  formula_clean f o e = formula_good (rule_forms s) Clean Any CleanResult CleanResult keeps f o e
