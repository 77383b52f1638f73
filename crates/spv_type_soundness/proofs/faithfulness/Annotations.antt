-- Annotations come from their trees.
use Rattle.std.proofs.Common.{◌≡◌, ℕ, refl, sym, ap, ◌∙◌, subst}
use Rattle.std.proofs.lemmas.Bool.{eqb-true}
use Rattle.std.specs.Prelude.{List, [], ◌∷◌, length, Option, Some, None, Ok, Err, nat_eq, is_some}
use Rattle.spv_logic.specs.declared.types.TypeId.{TypeId}
use Rattle.spv_logic.specs.declared.types.Sort.{Sort}
use Rattle.spv_logic.specs.declared.types.Sort.TheVariants as sort
use Rattle.spv_logic.specs.declared.types.Field.{Field as SortedField}
use Rattle.spv_logic.specs.declared.types.Shape.{Shape}
use Rattle.spv_logic.specs.declared.types.Decl.{Decl}
use Rattle.spv_logic.specs.Shapes.{element_sort, fields_of, field_sort}
use Rattle.spv_tree.specs.declared.syntax.names.Name.{Name}
use Rattle.spv_tree.specs.syntax.Formulas as tree
use Rattle.spv_program.specs.declared.operators.BuiltIn.TheVariants as known
use Rattle.spv_program.specs.Types.{sort_of}
use Rattle.spv_program.specs.Programs.{shapes}
use Rattle.spv_program.specs.Formulas.{Formula, Formulas, Annotation, Numeral, NilOf, Named, ClassOf, Element, FieldOf, Applied, Known, no_formulas, formulas}
use Rattle.spv_typing.specs.declared.faults.TypeFault.TheVariants.{Count}
use Rattle.spv_typing.specs.Outcomes.{Outcome, after, where_so, wrong}
use Rattle.spv_typing.specs.Known.{Function, Select, Store, Put, Cell, SetCell, Extend, PointerTo, Car, Cdr, Cons, Atom, Meaning, OfType, OfList, OfConstant, OfPlace, OfStart, OfSymbol, OfRoutine, Scope, meaning, function}
use Rattle.spv_typing.specs.DeclarationWalk.{class_named}
use Rattle.spv_typing.specs.OperatorWalk.{Operand, Of, NilAt, Argument, settled, operands, formula_walk}
use Rattle.spv_typing.specs.FormulaWalk as walk
use Rattle.spv_typing.specs.FormulaWalk.{Sorted, with_sort, name_alone, class_at, settled_all, arity, Signature, signature_on, on_array, on_class, on_pointer, signature_of, on_element, takes_indices, elements, indexed_at, field_named, field_in, content_at, put_at, put_with, put_applied, known_applied, named_applied, applied_of, applied, formula_forms, annotation}
use Rattle.spv_type_soundness.proofs.well_typed.Outcomes.{fine, no_fault, same_value, went, held, behind_test}
use Rattle.spv_type_soundness.specs.faithfulness.Names.{View, function_named, type_named}
use Rattle.spv_type_soundness.specs.faithfulness.Operators.{Given, Value, FieldName}
use Rattle.spv_type_soundness.specs.faithfulness.Operators as origin
use Rattle.spv_type_soundness.specs.faithfulness.Formulas.{operator_of, formula_operators, values, and_more, Noted, noted_constant, noted_variable, noted_start, noted_symbol, NotedWith, with_symbol, with_built_in, with_put, FormulaFrom, AnnotationFrom}
use Rattle.spv_type_soundness.specs.faithfulness.Formulas as notes
use Rattle.spv_type_soundness.specs.faithfulness.Laws.{Sees, AnnotationsComeFromTheirTrees}
use Rattle.spv_type_soundness.proofs.faithfulness.Operators.{IsFrom, settled_from, ArgumentsFrom, no_more, one_more, Extends, Begun, AppliedFrom, ClassFrom, Comes, from_of, formula_from}

module _ (s : Scope) (v : View) (sees : Sees s v) where
  -- where a name with selectors has come to nothing is claimed but that it comes from its tree
  record Anything (z : Sorted) : Type 0 where

  abbrev formula_of : Sorted → Formula
  formula_of z = z.formula

  abbrev sort_for : Sorted → Sort
  sort_for z = z.sort

  abbrev Arguments : List (Argument Formula Sorted) → tree.MoreFormulas → Type 0
  Arguments = ArgumentsFrom (formula_forms s) (formula_operators v) (Noted v) (Noted v) (NotedWith v) formula_of sort_for Anything

  abbrev GivenFrom : List (Given Formula) → tree.MoreFormulas → Type 0
  GivenFrom = origin.FromArguments (formula_operators v) (Noted v) (Noted v) (NotedWith v)

  abbrev SelectorsFrom : Formula → tree.Selectors → Formula → Type 0
  SelectorsFrom = origin.FromSelectors (formula_operators v) (Noted v) (Noted v) (NotedWith v)

  abbrev BegunHere : Name → Sorted → Type 0
  BegunHere = Begun (formula_forms s) (formula_operators v) (Noted v) (Noted v) (NotedWith v) formula_of sort_for Anything (Noted v)

  abbrev ExtendsHere : Sorted → tree.Selector → Sorted → Type 0
  ExtendsHere = Extends (formula_forms s) (formula_operators v) (Noted v) (Noted v) (NotedWith v) formula_of sort_for Anything

  abbrev AppliedHere : Name → tree.MoreFormulas → Sorted → Type 0
  AppliedHere = AppliedFrom (formula_forms s) (formula_operators v) (Noted v) (Noted v) (NotedWith v) formula_of sort_for Anything

  abbrev ClassHere : ℕ → Name → Operand Formula → Type 0
  ClassHere = ClassFrom (formula_forms s) (formula_operators v) (Noted v) (Noted v) (NotedWith v) formula_of sort_for Anything

  -- ---- names

  begun_as : (x : Name) (g : Formula) (r : Sort) (z : Sorted) → fine (with_sort g r) ≡ Ok z → Noted v x g → BegunHere x z
  begun_as x g r z e h = subst (BegunHere x) (same_value e) (record { good = record {}; is = h })

  name_begun : (line : ℕ) (x : Name) (m : Option Meaning) (z : Sorted) → meaning s x.symbol ≡ m → name_alone s line x m ≡ Ok z
      → BegunHere x z
  name_begun line x None z h e = absurd (no_fault e)
  name_begun line x (Some (OfType t)) z h e = absurd (no_fault e)
  name_begun line x (Some OfList) z h e = absurd (no_fault e)
  name_begun line x (Some (OfRoutine r)) z h e = absurd (no_fault e)
  name_begun line x (Some (OfConstant n)) z h e = begun_as x (Numeral n) sort.Int z e (noted_constant (sees.constants x.symbol n h))
  name_begun line x (Some (OfPlace t)) z h e = begun_as x (Named x.line x.symbol) (sort_of s.known.program.forms t) z e
      (noted_variable (sees.places x.symbol t h))
  name_begun line x (Some (OfStart r)) z h e = begun_as x (Named x.line x.symbol) r z e (noted_start (sees.starts x.symbol r h))
  name_begun line x (Some (OfSymbol d)) z h e =
      let next = fine (with_sort (Applied d.name no_formulas) d.result) in
      let is = sees.symbols x.symbol d h in
      begun_as x (Applied d.name no_formulas) d.result z (behind_test (nat_eq (length d.args) 0) (Count line) next z e)
      (subst (λ y. Noted v x (Applied y no_formulas)) (sym is.0) (noted_symbol is.1))

  class_is : (line : ℕ) (x : Name) (m : Option Meaning) (t : TypeId) → meaning s x.symbol ≡ m → class_named line x m ≡ Ok t
      → type_named v x.symbol ≡ Some t
  class_is line x None t h e = absurd (no_fault e)
  class_is line x (Some (OfType u)) t h e = sees.types x.symbol u h ∙ ap Some (same_value e)
  class_is line x (Some OfList) t h e = absurd (no_fault e)
  class_is line x (Some (OfConstant n)) t h e = absurd (no_fault e)
  class_is line x (Some (OfPlace u)) t h e = absurd (no_fault e)
  class_is line x (Some (OfStart r)) t h e = absurd (no_fault e)
  class_is line x (Some (OfSymbol d)) t h e = absurd (no_fault e)
  class_is line x (Some (OfRoutine r)) t h e = absurd (no_fault e)

  class_comes : (line : ℕ) (x : Name) (o : Operand Formula) → class_at s line x ≡ Ok o → ClassHere line x o
  class_comes line x o e =
      let one = went (class_named line x (meaning s x.symbol)) (λ t. fine (Of (ClassOf line t) (sort.Class t))) o e in
      record {
        value = ClassOf line one.value;
        sort = sort.Class one.value;
        is = sym (same_value one.rest);
        from = ap (Rattle.std.specs.Prelude.option_map (λ t. ClassOf line t))
            (class_is line x (meaning s x.symbol) one.value refl one.first);
      }

  -- ---- selectors

  field_comes_at : (line at : ℕ) (r z : Sorted) (x : Name) (t : Sort) → fine (with_sort (FieldOf r.formula x.symbol) t) ≡ Ok z
      → ExtendsHere r (tree.field at x) z
  field_comes_at line at r z x t e =
      subst (ExtendsHere r (tree.field at x)) (same_value e)
      (record { good = record {}; on = λ more y h. origin.by_field {t = record { 0 = 0 }} refl h })

  field_comes : (line at : ℕ) (r z : Sorted) (x : Name) (o : Option (List SortedField)) → field_in line r x o ≡ Ok z
      → ExtendsHere r (tree.field at x) z
  field_comes line at r z x None e = absurd (no_fault e)
  field_comes line at r z x (Some fields) e =
      let one = went (field_named x (field_sort fields x.symbol.0)) (λ u. fine (with_sort (FieldOf r.formula x.symbol) u)) z e in
      field_comes_at line at r z x one.value one.rest

  content_comes : (line at : ℕ) (f : Formula) (r : Sort) (z : Sorted) → content_at s line at (with_sort f r) ≡ Ok z
      → ExtendsHere (with_sort f r) (tree.content at) z
  content_comes line at f (sort.Ptr t) z e =
      subst (ExtendsHere (with_sort f (sort.Ptr t)) (tree.content at)) (same_value e)
      (record { good = record {}; on = λ more y h. origin.by_content {t = t} refl h })
  content_comes line at f sort.Int z e = absurd (no_fault e)
  content_comes line at f sort.Bool z e = absurd (no_fault e)
  content_comes line at f sort.List z e = absurd (no_fault e)
  content_comes line at f (sort.Whole t) z e = absurd (no_fault e)
  content_comes line at f (sort.Class t) z e = absurd (no_fault e)

  -- ---- operands in a list

  data OperandsFrom : List (ℕ × Operand Formula) → tree.MoreFormulas → Type 0 where
    no_operands : OperandsFrom [] tree.no_more_formulas
    one_operand : (a : ℕ × Operand Formula) (others : List (ℕ × Operand Formula)) (f : tree.Formula) (more : tree.MoreFormulas)
        → IsFrom NilOf (λ x. FormulaFrom v x f) a.1 → OperandsFrom others more → OperandsFrom (a ∷ others) (tree.more_formulas f more)

  abbrev listed : ℕ → Operand Formula → List (ℕ × Operand Formula) → List (ℕ × Operand Formula)
  listed line o rest = (line, o) ∷ rest

  operands_come : (given : List (Argument Formula Sorted)) (fs : tree.MoreFormulas) (os : List (ℕ × Operand Formula)) → Arguments given fs
      → operands given ≡ Ok os → OperandsFrom os fs
  operands_come [] tree.no_more_formulas os no_more e = subst (λ q. OperandsFrom q tree.no_more_formulas) (same_value e) no_operands
  operands_come [] (tree.more_formulas f more) os h e = elim h [ ]
  operands_come (a ∷ given) tree.no_more_formulas os h e = elim h [ ]
  operands_come (a ∷ given) (tree.more_formulas f more) os (one_more b others g fs h rest) e =
      let one = went a.operand (λ o. after (operands given) (λ others. fine (listed a.line o others))) os e in
      let two = went (operands given) (λ others. fine (listed a.line one.value others)) os one.rest in
      subst (λ q. OperandsFrom q (tree.more_formulas f more)) (same_value two.rest)
      (one_operand (a.line, one.value) two.value f more (h.operand one.value one.first) (operands_come given more two.value rest two.first))

  -- operands that were settled to sorts are arguments
  record SettledFrom (fs : tree.MoreFormulas) (gs : Formulas) : Type 0 where
    pub given : List (Given Formula)
    pub from : GivenFrom given fs
    pub values_are : values given ≡ Some gs

  settled_come : (wanted : List Sort) (os : List (ℕ × Operand Formula)) (fs : tree.MoreFormulas) (gs : Formulas)
      → length os ≡ length wanted → OperandsFrom os fs → settled_all wanted os ≡ Ok gs → SettledFrom fs gs
  settled_come [] [] tree.no_more_formulas gs same no_operands e =
      subst (SettledFrom tree.no_more_formulas) (same_value e) (record { given = []; from = origin.no_arguments; values_are = refl })
  settled_come [] [] (tree.more_formulas f more) gs same h e = elim h [ ]
  settled_come (r ∷ wanted) (a ∷ os) tree.no_more_formulas gs same h e = elim h [ ]
  settled_come [] (a ∷ os) fs gs same h e = absurd (cc (same))
  settled_come (r ∷ wanted) [] fs gs same h e = absurd (cc (same))
  settled_come (r ∷ wanted) (a ∷ os) (tree.more_formulas f more) gs same (one_operand b others g fs h rest) e =
      let one = went (settled NilOf (wrong a.0) r a.1) (λ x. after (settled_all wanted os) (λ xs. fine (formulas x xs))) gs e in
      let two = went (settled_all wanted os) (λ xs. fine (formulas one.value xs)) gs one.rest in
      let fewer : length os ≡ length wanted = cc (same) in
      let first = settled_from NilOf (λ x. FormulaFrom v x f) (wrong a.0) r a.1 one.value h one.first in
      let others = settled_come wanted os more two.value fewer rest two.first in
      subst (SettledFrom (tree.more_formulas f more)) (same_value two.rest)
      (record {
        given = Value one.value ∷ others.given;
        from = origin.one_argument (origin.value first) others.from;
        values_are = ap (and_more one.value) others.values_are;
      })

  -- ---- indices

  abbrev elements_behind : ℕ × Operand Formula → Sorted → List (ℕ × Operand Formula) → Formula → Option Sort → Outcome Sorted
  elements_behind i a os x o = on_element (Err (wrong i.0))
      (λ r. elements (shapes s.known.program) (with_sort (Element a.formula x) r) os) o

  -- one index, and the others
  last_index : (at : ℕ) (a z : Sorted) (f : tree.Formula) (x : Formula) (r : Sort) → FormulaFrom v x f
      → fine (with_sort (Element a.formula x) r) ≡ Ok z → ExtendsHere a (tree.index at f tree.no_more_formulas) z
  last_index at a z f x r from e =
      subst (ExtendsHere a (tree.index at f tree.no_more_formulas)) (same_value e)
      (record { good = record {}; on = λ more y h. origin.by_index {t = record { 0 = 0 }} from refl h })

  further_index : (at : ℕ) (a z : Sorted) (f g : tree.Formula) (fs : tree.MoreFormulas) (x : Formula) (r : Sort) → FormulaFrom v x f
      → ExtendsHere (with_sort (Element a.formula x) r) (tree.index at g fs) z → ExtendsHere a (tree.index at f (tree.more_formulas g fs)) z
  further_index at a z f g fs x r from h = record {
    good = record {};
    on = λ more y k. origin.by_indices {t = record { 0 = 0 }} from refl
        (h.on more y k);
  }

  elements_come : (at : ℕ) (a z : Sorted) (os : List (ℕ × Operand Formula)) (f : tree.Formula) (more : tree.MoreFormulas)
      → OperandsFrom os (tree.more_formulas f more) → elements (shapes s.known.program) a os ≡ Ok z → ExtendsHere a (tree.index at f more) z
  elements_come at a z [] f more h e = elim h [ ]
  elements_come at a z (i ∷ []) f tree.no_more_formulas (one_operand b others g fs from rest) e =
      let one = went (settled NilOf (wrong i.0) sort.Int i.1)
      (λ x. elements_behind i a [] x (element_sort (shapes s.known.program) a.sort)) z e in
      let x = settled_from NilOf (λ y. FormulaFrom v y f) (wrong i.0) sort.Int i.1 one.value from one.first in
      by_element (element_sort (shapes s.known.program) a.sort) one.value x one.rest
    where
      by_element : (o : Option Sort) (n : Formula) → FormulaFrom v n f → elements_behind i a [] n o ≡ Ok z
          → ExtendsHere a (tree.index at f tree.no_more_formulas) z
      by_element None n x k = absurd (no_fault k)
      by_element (Some r) n x k = last_index at a z f n r x k
  elements_come at a z (i ∷ []) f (tree.more_formulas g fs) (one_operand b others h gs from rest) e = elim rest [ ]
  elements_come at a z (i ∷ j ∷ os) f tree.no_more_formulas (one_operand b others h gs from rest) e = elim rest [ ]
  elements_come at a z (i ∷ j ∷ os) f (tree.more_formulas g fs) (one_operand b others h gs from rest) e =
      let one = went (settled NilOf (wrong i.0) sort.Int i.1)
      (λ x. elements_behind i a (j ∷ os) x (element_sort (shapes s.known.program) a.sort)) z e in
      let x = settled_from NilOf (λ y. FormulaFrom v y f) (wrong i.0) sort.Int i.1 one.value from one.first in
      by_element (element_sort (shapes s.known.program) a.sort) one.value x one.rest
      (λ n r k. elements_come at (with_sort (Element a.formula n) r) z (j ∷ os) g fs rest k)
    where
      by_element : (o : Option Sort) (n : Formula) → FormulaFrom v n f → elements_behind i a (j ∷ os) n o ≡ Ok z
          → ((n : Formula) (r : Sort) → elements (shapes s.known.program) (with_sort (Element a.formula n) r) (j ∷ os) ≡ Ok z
          → ExtendsHere (with_sort (Element a.formula n) r) (tree.index at g fs) z)
          → ExtendsHere a (tree.index at f (tree.more_formulas g fs)) z
      by_element None n x k go = absurd (no_fault k)
      by_element (Some r) n x k go = further_index at a z f g fs n r x (go n r k)

  indexed_comes : (line at : ℕ) (a z : Sorted) (given : List (Argument Formula Sorted)) (f : tree.Formula) (more : tree.MoreFormulas)
      → Arguments given (tree.more_formulas f more) → after (operands given) (indexed_at s line a) ≡ Ok z
      → ExtendsHere a (tree.index at f more) z
  indexed_comes line at a z given f more h e =
      let here = shapes s.known.program in
      let one = went (operands given) (indexed_at s line a) z e in
      let inner = where_so (takes_indices here a.sort one.value) (Count line) (elements here a one.value) in
      let two = behind_test (is_some (element_sort here a.sort)) (wrong line) inner z one.rest in
      elements_come at a z one.value f more (operands_come given (tree.more_formulas f more) one.value h one.first)
      (behind_test (takes_indices here a.sort one.value) (Count line) (elements here a one.value) z two)

  -- ---- applications

  applied_as : (x : Name) (more : tree.MoreFormulas) (g : Formula) (r : Sort) (given : List (Given Formula)) (z : Sorted)
      → fine (with_sort g r) ≡ Ok z → GivenFrom given more → NotedWith v x given g → AppliedHere x more z
  applied_as x more g r given z e from is = subst (AppliedHere x more) (same_value e)
      (record { given = given; from = from; is = is; good = record {} })

  symbol_comes : (line : ℕ) (x : Name) (d : Decl) (z : Sorted) (given : List (Argument Formula Sorted)) (more : tree.MoreFormulas)
      → function_named v x.symbol ≡ None → meaning s x.symbol ≡ Some (OfSymbol d) → Arguments given more
      → named_applied s line x (Some (OfSymbol d)) given ≡ Ok z → AppliedHere x more z
  symbol_comes line x d z given more none m h e =
      let one = went (operands given) (λ os. where_so (nat_eq (length os) (length d.args)) (Count line)
      (after (settled_all d.args os) (λ fs. fine (with_sort (Applied d.name fs) d.result)))) z e in
      let next = after (settled_all d.args one.value) (λ fs. fine (with_sort (Applied d.name fs) d.result)) in
      let same = eqb-true (length one.value) (length d.args)
      (held (nat_eq (length one.value) (length d.args)) (Count line) next z one.rest) in
      let two = went (settled_all d.args one.value) (λ fs. fine (with_sort (Applied d.name fs) d.result)) z
      (behind_test (nat_eq (length one.value) (length d.args)) (Count line) next z one.rest) in
      let all = settled_come d.args one.value more two.value same (operands_come given more one.value h one.first) two.first in
      let is = sees.symbols x.symbol d m in
      applied_as x more (Applied d.name two.value) d.result all.given z two.rest all.from
      (subst (λ y. NotedWith v x all.given (Applied y two.value)) (sym is.0) (with_symbol none is.1 all.values_are))

  named_comes : (line : ℕ) (x : Name) (m : Option Meaning) (z : Sorted) (given : List (Argument Formula Sorted))
      (more : tree.MoreFormulas) → function_named v x.symbol ≡ None → meaning s x.symbol ≡ m → Arguments given more
      → named_applied s line x m given ≡ Ok z → AppliedHere x more z
  named_comes line x None z given more none m h e = absurd (no_fault e)
  named_comes line x (Some (OfSymbol d)) z given more none m h e = symbol_comes line x d z given more none m h e
  named_comes line x (Some (OfRoutine r)) z given more none m h e =
      let one = went (operands given) (λ os. where_so (nat_eq (length os) (length r.formals)) (Count line) (Err (wrong line))) z e in
      absurd (no_fault (behind_test (nat_eq (length one.value) (length r.formals)) (Count line) (Err (wrong line)) z one.rest))
  named_comes line x (Some (OfType t)) z given more none m h e = absurd (no_fault (went (operands given) (λ os. Err (wrong line)) z e).rest)
  named_comes line x (Some OfList) z given more none m h e = absurd (no_fault (went (operands given) (λ os. Err (wrong line)) z e).rest)
  named_comes line x (Some (OfConstant n)) z given more none m h e = absurd
      (no_fault (went (operands given) (λ os. Err (wrong line)) z e).rest)
  named_comes line x (Some (OfPlace t)) z given more none m h e = absurd
      (no_fault (went (operands given) (λ os. Err (wrong line)) z e).rest)
  named_comes line x (Some (OfStart r)) z given more none m h e = absurd
      (no_fault (went (operands given) (λ os. Err (wrong line)) z e).rest)

  -- ---- functions that are known from the start

  on_array_takes : (n : ℕ) (here : List Shape) (os : List (ℕ × Operand Formula)) (signature : Sort → Sort → Signature)
      → ((a e : Sort) → length (signature a e).wanted ≡ n) → (sign : Signature) → on_array here os signature ≡ Ok sign
      → length sign.wanted ≡ n
  on_array_takes n here [] signature h sign e = absurd (no_fault e)
  on_array_takes n here ((line, NilAt at) ∷ others) signature h sign e = absurd (no_fault e)
  on_array_takes n here ((line, Of f r) ∷ others) signature h sign e = by_element (element_sort here r) e
    where
      by_element : (o : Option Sort) → signature_on line r signature o ≡ Ok sign → length sign.wanted ≡ n
      by_element None k = absurd (no_fault k)
      by_element (Some u) k = subst (λ (q : Signature). length q.wanted ≡ n) (same_value k) (h r u)

  on_class_takes : (n : ℕ) (os : List (ℕ × Operand Formula)) (signature : TypeId → Signature)
      → ((t : TypeId) → length (signature t).wanted ≡ n) → (sign : Signature) → on_class os signature ≡ Ok sign → length sign.wanted ≡ n
  on_class_takes n [] signature h sign e = absurd (no_fault e)
  on_class_takes n ((line, NilAt at) ∷ others) signature h sign e = absurd (no_fault e)
  on_class_takes n ((line, Of f (sort.Class t)) ∷ others) signature h sign e = subst (λ (q : Signature). length q.wanted ≡ n)
      (same_value e) (h t)
  on_class_takes n ((line, Of f sort.Int) ∷ others) signature h sign e = absurd (no_fault e)
  on_class_takes n ((line, Of f sort.Bool) ∷ others) signature h sign e = absurd (no_fault e)
  on_class_takes n ((line, Of f sort.List) ∷ others) signature h sign e = absurd (no_fault e)
  on_class_takes n ((line, Of f (sort.Ptr t)) ∷ others) signature h sign e = absurd (no_fault e)
  on_class_takes n ((line, Of f (sort.Whole t)) ∷ others) signature h sign e = absurd (no_fault e)

  on_pointer_takes : (n : ℕ) (os : List (ℕ × Operand Formula)) (signature : TypeId → Signature)
      → ((t : TypeId) → length (signature t).wanted ≡ n) → (sign : Signature) → on_pointer os signature ≡ Ok sign → length sign.wanted ≡ n
  on_pointer_takes n [] signature h sign e = absurd (no_fault e)
  on_pointer_takes n ((line, NilAt at) ∷ others) signature h sign e = on_class_takes n others signature h sign e
  on_pointer_takes n ((line, Of f (sort.Ptr t)) ∷ others) signature h sign e = on_class_takes n others signature h sign e
  on_pointer_takes n ((line, Of f sort.Int) ∷ others) signature h sign e = absurd (no_fault e)
  on_pointer_takes n ((line, Of f sort.Bool) ∷ others) signature h sign e = absurd (no_fault e)
  on_pointer_takes n ((line, Of f sort.List) ∷ others) signature h sign e = absurd (no_fault e)
  on_pointer_takes n ((line, Of f (sort.Class t)) ∷ others) signature h sign e = absurd (no_fault e)
  on_pointer_takes n ((line, Of f (sort.Whole t)) ∷ others) signature h sign e = absurd (no_fault e)

  told : (n : ℕ) (q sign : Signature) → length q.wanted ≡ n → fine q ≡ Ok sign → length sign.wanted ≡ n
  told n q sign h e = subst (λ (q : Signature). length q.wanted ≡ n) (same_value e) h

  abbrev known_walk : ℕ → Function → List (Argument Formula Sorted) → Outcome Sorted
  known_walk line b given =
      after (operands given) (λ os.
      where_so (nat_eq (length os) (arity b)) (Count line)
      (after (signature_of s b os) (λ sign.
      after (settled_all sign.wanted os) (λ fs. Ok (with_sort (Known (walk.operator_of b) fs) sign.result)))))

  plain_comes : (b : Function) (line : ℕ) (x : Name) (z : Sorted) (given : List (Argument Formula Sorted)) (more : tree.MoreFormulas)
      → function_named v x.symbol ≡ Some b → operator_of b ≡ Some (walk.operator_of b)
      → ((os : List (ℕ × Operand Formula)) (sign : Signature) → signature_of s b os ≡ Ok sign → length sign.wanted ≡ arity b)
      → Arguments given more → known_walk line b given ≡ Ok z → AppliedHere x more z
  plain_comes b line x z given more is op takes h e =
      let result = λ (sign : Signature) (fs : Formulas). fine (with_sort (Known (walk.operator_of b) fs) sign.result) in
      let next = λ (os : List (ℕ × Operand Formula)). after (signature_of s b os)
      (λ sign. after (settled_all sign.wanted os) (result sign)) in
      let one = went (operands given) (λ os. where_so (nat_eq (length os) (arity b)) (Count line) (next os)) z e in
      let same = eqb-true (length one.value) (arity b) (held (nat_eq (length one.value) (arity b)) (Count line) (next one.value) z
      one.rest) in
      let two = went (signature_of s b one.value) (λ sign. after (settled_all sign.wanted one.value) (result sign)) z
      (behind_test (nat_eq (length one.value) (arity b)) (Count line) (next one.value) z one.rest) in
      let three = went (settled_all two.value.wanted one.value) (result two.value) z two.rest in
      let all = settled_come two.value.wanted one.value more three.value (same ∙ sym (takes one.value two.value two.first))
      (operands_come given more one.value h one.first) three.first in
      applied_as x more (Known (walk.operator_of b) three.value) two.value.result all.given z three.rest all.from
      (with_built_in is op all.values_are)

  -- PUT
  put_value : (x at : Name) (line : ℕ) (f : Formula) (r : Sort) (o : Option (List SortedField)) (w : ℕ × Operand Formula) (z : Sorted)
      (fr ff fv : tree.Formula) → function_named v x.symbol ≡ Some Put
      → FormulaFrom v f fr → origin.FromArgument (formula_operators v) (Noted v) (Noted v) (NotedWith v) (FieldName at.symbol) ff
      → IsFrom NilOf (λ y. FormulaFrom v y fv) w.1
      → put_at at line (with_sort f r) o w ≡ Ok z → AppliedHere x (tree.more_formulas fr (tree.more_formulas ff
      (tree.more_formulas fv tree.no_more_formulas))) z
  put_value x at line f r None w z fr ff fv is g h k e = absurd (no_fault e)
  put_value x at line f r (Some fields) w z fr ff fv is g h k e =
      let result = λ (y : Formula). fine (with_sort (Known (known.Put at.symbol) (formulas f (formulas y no_formulas))) r) in
      let one = went (field_named at (field_sort fields at.symbol.0)) (λ u. after (settled NilOf (wrong w.0) u w.1) result) z e in
      let two = went (settled NilOf (wrong w.0) one.value w.1) result z one.rest in
      let y = settled_from NilOf (λ y. FormulaFrom v y fv) (wrong w.0) one.value w.1 two.value k two.first in
      applied_as x (tree.more_formulas fr (tree.more_formulas ff (tree.more_formulas fv tree.no_more_formulas)))
      (Known (known.Put at.symbol) (formulas f (formulas two.value no_formulas))) r (Value f ∷ FieldName at.symbol ∷ Value two.value ∷ [])
      z two.rest
      (origin.one_argument (origin.value g) (origin.one_argument h (origin.one_argument (origin.value y) origin.no_arguments)))
      (with_put is)

  put_named : (x : Name) (line : ℕ) (name : Option Name) (r w : ℕ × Operand Formula) (z : Sorted) (fr ff fv : tree.Formula)
      → function_named v x.symbol ≡ Some Put
      → IsFrom NilOf (λ y. FormulaFrom v y fr) r.1 → ((at : Name) → name ≡ Some at → origin.FromArgument (formula_operators v) (Noted v)
      (Noted v) (NotedWith v) (FieldName at.symbol) ff) → IsFrom NilOf (λ y. FormulaFrom v y fv) w.1
      → put_with s line name r w ≡ Ok z → AppliedHere x (tree.more_formulas fr (tree.more_formulas ff
      (tree.more_formulas fv tree.no_more_formulas))) z
  put_named x line None r w z fr ff fv is g h k e = absurd (no_fault e)
  put_named x line (Some at) (on, NilAt l) w z fr ff fv is g h k e = absurd (no_fault e)
  put_named x line (Some at) (on, Of f u) w z fr ff fv is g h k e = put_value x at on f u (fields_of (shapes s.known.program) u) w z fr ff
      fv is (from_of g) (h at refl) k e

  put_comes : (line : ℕ) (x : Name) (z : Sorted) (given : List (Argument Formula Sorted)) (more : tree.MoreFormulas)
      → function_named v x.symbol ≡ Some Put → Arguments given more → put_applied s line given ≡ Ok z → AppliedHere x more z
  put_comes line x z [] more is h e = absurd (no_fault (went (operands {X = Formula} {S = Sorted} []) (λ os. Err (Count line)) z e).rest)
  put_comes line x z (r ∷ []) more is h e = absurd (no_fault (went (operands (r ∷ [])) (λ os. Err (Count line)) z e).rest)
  put_comes line x z (r ∷ field ∷ []) more is h e =
      let one = went r.operand (λ a. after (operands {X = Formula} {S = Sorted} []) (λ bs. Err (Count line))) z e in
      absurd (no_fault (went (operands {X = Formula} {S = Sorted} []) (λ bs. Err (Count line)) z one.rest).rest)
  put_comes line x z (r ∷ field ∷ w ∷ u ∷ others) more is h e =
      let one = went r.operand (λ a. after (operands (w ∷ u ∷ others)) (λ bs. Err (Count line))) z e in
      absurd (no_fault (went (operands (w ∷ u ∷ others)) (λ bs. Err (Count line)) z one.rest).rest)
  put_comes line x z (r ∷ field ∷ w ∷ []) more is (one_more b bs fr fs h (one_more c cs ff gs g (one_more d ds fv hs k no_more))) e =
      let one = went r.operand (λ a. after w.operand (λ b. put_with s field.line field.name (r.line, a) (w.line, b))) z e in
      let two = went w.operand (λ b. put_with s field.line field.name (r.line, one.value) (w.line, b)) z one.rest in
      put_named x field.line field.name (r.line, one.value) (w.line, two.value) z fr ff fv is (h.operand one.value one.first) g.name
      (k.operand two.value two.first) two.rest

  known_comes : (b : Function) (line : ℕ) (x : Name) (z : Sorted) (given : List (Argument Formula Sorted)) (more : tree.MoreFormulas)
      → function_named v x.symbol ≡ Some b → Arguments given more → known_applied s line b given ≡ Ok z → AppliedHere x more z
  known_comes Put line x z given more is h e = put_comes line x z given more is h e
  known_comes Select line x z given more is h e = plain_comes Select line x z given more is refl
      (λ os sign k. on_array_takes 2 (shapes s.known.program) os _ (λ a u. refl) sign k) h e
  known_comes Store line x z given more is h e = plain_comes Store line x z given more is refl
      (λ os sign k. on_array_takes 3 (shapes s.known.program) os _ (λ a u. refl) sign k) h e
  known_comes Cell line x z given more is h e = plain_comes Cell line x z given more is refl
      (λ os sign k. on_class_takes 2 os _ (λ t. refl) sign k) h e
  known_comes SetCell line x z given more is h e = plain_comes SetCell line x z given more is refl
      (λ os sign k. on_class_takes 3 os _ (λ t. refl) sign k) h e
  known_comes Extend line x z given more is h e = plain_comes Extend line x z given more is refl
      (λ os sign k. on_class_takes 3 os _ (λ t. refl) sign k) h e
  known_comes PointerTo line x z given more is h e = plain_comes PointerTo line x z given more is refl
      (λ os sign k. on_pointer_takes 2 os _ (λ t. refl) sign k) h e
  known_comes Car line x z given more is h e = plain_comes Car line x z given more is refl (λ os sign k. told 1 _ sign refl k) h e
  known_comes Cdr line x z given more is h e = plain_comes Cdr line x z given more is refl (λ os sign k. told 1 _ sign refl k) h e
  known_comes Cons line x z given more is h e = plain_comes Cons line x z given more is refl (λ os sign k. told 2 _ sign refl k) h e
  known_comes Atom line x z given more is h e = plain_comes Atom line x z given more is refl (λ os sign k. told 1 _ sign refl k) h e

  applied_comes : (line : ℕ) (x : Name) (z : Sorted) (given : List (Argument Formula Sorted)) (more : tree.MoreFormulas)
      → Arguments given more → applied s line x given ≡ Ok z → AppliedHere x more z
  applied_comes line x z given more h e = by_function (function s x.symbol) (sym (sees.functions x.symbol)) e
    where
      by_function : (o : Option Function) → function_named v x.symbol ≡ o → applied_of s line x o given ≡ Ok z → AppliedHere x more z
      by_function None is k = named_comes line x (meaning s x.symbol) z given more is refl h k
      by_function (Some b) is k = known_comes b line x z given more is h k

  -- ---- the walk

  all_come : Comes (formula_forms s) (formula_operators v) (Noted v) (Noted v) (NotedWith v) formula_of sort_for Anything
  all_come = record {
    implied = λ x y may. refl;
    class_of = class_comes;
    begin = λ line x z e. name_begun line x (meaning s x.symbol) z refl e;
    begin_written = λ line x z e. name_begun line x (meaning s x.symbol) z refl e;
    apply = λ line x z given f more h e. applied_comes line x z given (tree.more_formulas f more) h e;
    indexed = λ line at a z given f more g h e. indexed_comes line at a z given f more h e;
    field_of = λ line at r z x g e. field_comes line at r z x (fields_of (shapes s.known.program) r.sort) e;
    content_of = λ line at q z g e. content_comes line at q.formula q.sort z e;
    finish = λ z. refl;
  }

  annotation_comes : (f : tree.Formula) (a : Annotation) → annotation s f ≡ Ok a → AnnotationFrom v a f
  annotation_comes (tree.formula line r c) a e =
      let f = tree.formula line r c in
      let one = went (formula_walk (formula_forms s) f) (λ o. after (settled NilOf (wrong line) sort.Bool o) (λ g. fine (noted g))) a e in
      let two = went (settled NilOf (wrong line) sort.Bool one.value) (λ g. fine (noted g)) a one.rest in
      let from = formula_from (formula_forms s) (formula_operators v) (Noted v) (Noted v) (NotedWith v) formula_of sort_for Anything
      all_come f one.value one.first in
      subst (λ (b : Annotation). AnnotationFrom v b f) (same_value two.rest)
      (notes.annotation (settled_from NilOf (λ g. FormulaFrom v g f) (wrong line) sort.Bool one.value two.value from two.first))
    where
      noted : Formula → Annotation
      noted g = record { formula = g; line = line }

pub annotations_come : AnnotationsComeFromTheirTrees
annotations_come s v sees f a e = annotation_comes s v sees f a e
