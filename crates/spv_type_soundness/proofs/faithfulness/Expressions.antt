-- Expressions, places and calls come from their trees.
use Rattle.std.proofs.Common.{◌≡◌, ℕ, Bool, true, false, cond, refl, sym, ap, ◌∙◌, subst}
use Rattle.std.proofs.lemmas.Bool.{false≢true, eqb-true}
use Rattle.std.specs.Prelude.{List, [], ◌∷◌, ◌++◌, map, length, ◌&&◌, ℤ, Option, Some, None, Ok, Err, nat_eq, is_some}
use Rattle.spv_logic.specs.declared.names.names.Symbol.{Symbol}
use Rattle.spv_logic.specs.declared.types.TypeId.{TypeId}
use Rattle.spv_logic.specs.declared.types.Sort.{Sort}
use Rattle.spv_logic.specs.declared.types.Sort.TheVariants as sort
use Rattle.spv_tree.specs.declared.syntax.names.Name.{Name}
use Rattle.spv_tree.specs.declared.syntax.lists.Several.{Several}
use Rattle.spv_tree.specs.syntax.Formulas as tree
use Rattle.spv_program.specs.declared.types.TypeForm.{TypeForm}
use Rattle.spv_program.specs.declared.types.TypeForm.TheVariants as form
use Rattle.spv_program.specs.Types.{form_at, sort_of, element_of, field_of, field_type, target_of, may_be_result, same_places}
use Rattle.spv_program.specs.Expressions.{Expression, Designator, Call, Arguments, NilOf, Read, Result, Through, designator, no_selectors, at_index, at_field, at_cell, call, no_arguments, by_value, by_place}
use Rattle.spv_program.specs.Programs.{Formal}
use Rattle.spv_program.proofs.SortFacts.{nothing_there, some_is}
use Rattle.spv_typing.specs.declared.faults.TypeFault.TheVariants.{Count}
use Rattle.spv_typing.specs.Outcomes.{Outcome, after, where_so, wrong, undeclared}
use Rattle.spv_typing.specs.Known.{Function, Meaning, OfType, OfList, OfConstant, OfPlace, OfStart, OfSymbol, OfRoutine, Heading, Scope, integer_type, meaning, function}
use Rattle.spv_typing.specs.OperatorWalk.{Operand, Argument, settled, operands, formula_line, formula_walk, written_place, argument}
use Rattle.spv_typing.specs.ExpressionWalk.{Base, AtName, AtResult, OfNumber, OfCall, Link, ByIndex, ByField, ByCell, Reached, reached, chained, place_at, expression_at, designator_at, function_result, name_read, own_result, name_written, is_this, may_be_selected, further, on_type, element_type, takes_indices, elements, indexed_at, field_in, field_at, content_at, AsValue, AsPlace, NoPlace, as_place, given_to, fitted, call_of, no_call, named_applied, applied_of, class_at, expression_forms, operand, expression_of, written}
use Rattle.spv_typing.specs.ExpressionWalk as walk
use Rattle.spv_typing.specs.StatementWalk.{arguments_of}
use Rattle.spv_type_soundness.proofs.well_typed.Outcomes.{fine, no_fault, same_value, went, held, behind_test}
use Rattle.spv_type_soundness.specs.faithfulness.Names.{View, function_named}
use Rattle.spv_type_soundness.specs.faithfulness.Operators.{Given, Value, AtPlace}
use Rattle.spv_type_soundness.specs.faithfulness.Operators as origin
use Rattle.spv_type_soundness.specs.faithfulness.Expressions.{joined_with, selected, expression_operators, with_value, with_place, IsRead, read_constant, read_variable, read_result, IsWritten, written_variable, written_result, IsCalled, called, CallFrom, ExpressionFrom, PlaceFrom}
use Rattle.spv_type_soundness.specs.faithfulness.Expressions as expressions
use Rattle.spv_type_soundness.specs.faithfulness.Statements.{more_of, all_of}
use Rattle.spv_type_soundness.specs.faithfulness.Laws.{SeesPlaces, ExpressionsComeFromTheirTrees, PlacesComeFromTheirTrees, CallsComeFromTheirTrees}
use Rattle.spv_type_soundness.proofs.faithfulness.Operators.{IsFrom, settled_from, PlacedFrom, ArgumentsFrom, no_more, one_more, Extends, Begun, AppliedFrom, ClassFrom, Comes, formula_from, written_from, one_argument_from}

-- ---- selectors, one behind the other

chained_further : (links : List Link) (l : Link) → joined_with (chained links) (chained (l ∷ [])) ≡ chained (links ++ l ∷ [])
chained_further [] (ByIndex t e) = refl
chained_further [] (ByField t f) = refl
chained_further [] (ByCell line t) = refl
chained_further (ByIndex t e ∷ links) l = ap (at_index t e) (chained_further links l)
chained_further (ByField t f ∷ links) l = ap (at_field t f) (chained_further links l)
chained_further (ByCell line t ∷ links) l = ap (at_cell line t) (chained_further links l)

-- whether a selector may stand behind something of a type of this form
abbrev may_follow : Link → TypeForm → Bool
may_follow (ByIndex t e) f = is_some (element_of f)
may_follow (ByField t x) f = is_some (field_of f x)
may_follow (ByCell line t) f = is_some (target_of f)

nothing_follows : (l : Link) → may_follow l form.Integer ≡ false
nothing_follows (ByIndex t e) = refl
nothing_follows (ByField t x) = refl
nothing_follows (ByCell line t) = refl

no_array : (f : TypeForm) → may_be_result f ≡ true → is_some (element_of f) ≡ false
no_array form.Integer m = refl
no_array form.Boolean m = refl
no_array (form.Range low high) m = refl
no_array (form.Pointer t) m = refl
no_array (form.Array i e) m = absurd (false≢true m)
no_array (form.Record fields) m = refl

no_record : (f : TypeForm) (x : Symbol) → may_be_result f ≡ true → is_some (field_of f x) ≡ false
no_record form.Integer x m = refl
no_record form.Boolean x m = refl
no_record (form.Range low high) x m = refl
no_record (form.Pointer t) x m = refl
no_record (form.Array i e) x m = refl
no_record (form.Record fields) x m = absurd (false≢true m)

designator_read : (b : Base) (links : List Link) (t : TypeId) (d : Designator)
    → designator_at (record { base = b; links = links; type = t }) ≡ Some d
    → expression_at (record { base = b; links = links; type = t }) ≡ Read d
designator_read (AtName line x) links t d e = ap Read (some_is e)
designator_read (AtResult line x) links t d e = ap Read (some_is e)
designator_read (OfNumber z) links t d e = absurd (nothing_there e)
designator_read (OfCall c) links t d e = absurd (nothing_there e)

module _ (s : Scope) (v : View) (sees : SeesPlaces s v) where
  abbrev forms : List TypeForm
  forms = s.known.program.forms

  -- what selectors may stand behind
  data Selectable : Base → List Link → TypeId → Type 0 where
    a_name : (line : ℕ) (x : Symbol) (links : List Link) (t : TypeId) → Selectable (AtName line x) links t
    a_result : (line : ℕ) (x : Symbol) (links : List Link) (t : TypeId) → Selectable (AtResult line x) links t
    a_number : (z : ℤ) → Selectable (OfNumber z) [] integer_type
    a_call : (c : Call) (t : TypeId) → may_be_result (form_at forms t.0) ≡ true → Selectable (OfCall c) [] t
    a_cell : (c : Call) (line : ℕ) (u t : TypeId) (links : List Link) → Selectable (OfCall c) (ByCell line u ∷ links) t

  record GoodReached (r : Reached) : Type 0 where
    pub may : Selectable r.base r.links r.type

  record Further (r : Reached) (l : Link) (u : TypeId) : Type 0 where
    pub good : GoodReached (further r l u)
    pub is : selected (expression_at r) (chained (l ∷ [])) ≡ Some (expression_at (further r l u))

  abbrev Behind : Base → List Link → TypeId → Link → TypeId → Type 0
  Behind b links t l u = Further (record { base = b; links = links; type = t }) l u

  behind_call : (c : Call) (t u : TypeId) (l : Link) → may_be_result (form_at forms t.0) ≡ true → may_follow l (form_at forms t.0) ≡ true
      → Behind (OfCall c) [] t l u
  behind_call c t u (ByIndex a e) plain m = absurd (false≢true (sym (no_array (form_at forms t.0) plain) ∙ m))
  behind_call c t u (ByField a x) plain m = absurd (false≢true (sym (no_record (form_at forms t.0) x plain) ∙ m))
  behind_call c t u (ByCell line a) plain m = record { good = record { may = a_cell c line a u [] }; is = refl }

  behind : (b : Base) (links : List Link) (t u : TypeId) (l : Link) → Selectable b links t → may_follow l (form_at forms t.0) ≡ true
      → Behind b links t l u
  behind b links t u l (a_name line x ls a) m = record {
    good = record { may = a_name line x (links ++ l ∷ []) u };
    is = ap (λ ss. Some (Read (designator line x ss)))
        (chained_further links l);
  }
  behind b links t u l (a_result line x ls a) m = record {
    good = record { may = a_result line x (links ++ l ∷ []) u };
    is = ap (λ ss. Some (Read (designator line x ss)))
        (chained_further links l);
  }
  behind b links t u l (a_number z) m = absurd (false≢true (sym (ap (may_follow l) sees.first ∙ nothing_follows l) ∙ m))
  behind b links t u l (a_call c a plain) m = behind_call c t u l plain m
  behind b links t u l (a_cell c line w a ls) m = record
      { good = record { may = a_cell c line w u (ls ++ l ∷ []) }; is = ap (λ ss. Some (Through c line w ss)) (chained_further ls l) }

  further_good : (r : Reached) (l : Link) (u : TypeId) → GoodReached r → may_follow l (form_at forms r.type.0) ≡ true → Further r l u
  further_good r l u g m = behind r.base r.links r.type u l g.may m

  abbrev sort_for : Reached → Sort
  sort_for r = sort_of s.known.program.forms r.type

  abbrev GivenArguments : List (Argument Expression Reached) → tree.MoreFormulas → Type 0
  GivenArguments = ArgumentsFrom (expression_forms s) expression_operators (IsRead v) (IsWritten v) (IsCalled v) expression_at sort_for
      GoodReached

  abbrev PlacedHere : tree.Formula → Reached → Type 0
  PlacedHere = PlacedFrom (expression_forms s) expression_operators (IsRead v) (IsWritten v) (IsCalled v) expression_at sort_for GoodReached

  abbrev GivenFrom : List (Given Expression) → tree.MoreFormulas → Type 0
  GivenFrom = origin.FromArguments expression_operators (IsRead v) (IsWritten v) (IsCalled v)

  abbrev BegunHere : (Name → Expression → Type 0) → Name → Reached → Type 0
  BegunHere = Begun (expression_forms s) expression_operators (IsRead v) (IsWritten v) (IsCalled v) expression_at sort_for GoodReached

  abbrev ExtendsHere : Reached → tree.Selector → Reached → Type 0
  ExtendsHere = Extends (expression_forms s) expression_operators (IsRead v) (IsWritten v) (IsCalled v) expression_at sort_for GoodReached

  abbrev AppliedHere : Name → tree.MoreFormulas → Reached → Type 0
  AppliedHere = AppliedFrom (expression_forms s) expression_operators (IsRead v) (IsWritten v) (IsCalled v) expression_at sort_for
      GoodReached

  abbrev ClassHere : ℕ → Name → Operand Expression → Type 0
  ClassHere = ClassFrom (expression_forms s) expression_operators (IsRead v) (IsWritten v) (IsCalled v) expression_at sort_for GoodReached

  -- ---- names

  begun_as : (P : Name → Expression → Type 0) (x : Name) (b : Base) (t : TypeId) (r : Reached) → fine (reached b t) ≡ Ok r
      → Selectable b [] t → P x (expression_at (reached b t)) → BegunHere P x r
  begun_as P x b t r e g h = subst (BegunHere P x) (same_value e) (record { good = record { may = g }; is = h })

  record ResultAt (c : Call) (r : Reached) : Type 0 where
    pub good : GoodReached r
    pub is : expression_at r ≡ Result c

  function_begun : (line : ℕ) (x : Name) (h : Heading) (c : Call) (r : Reached) → meaning s x.symbol ≡ Some (OfRoutine h)
      → function_result line h c ≡ Ok r → ResultAt c r
  function_begun line x h c r m e = by_result h.result refl e
    where
      by_result : (o : Option TypeId) → h.result ≡ o → walk.function_result line (record h { result = o }) c ≡ Ok r → ResultAt c r
      by_result None k q = absurd (no_fault q)
      by_result (Some t) k q = subst (ResultAt c) (same_value q)
          (record { good = record { may = a_call c t (sees.plain_results x.symbol h t m k) }; is = refl })

  name_read_begun : (line : ℕ) (x : Name) (m : Option Meaning) (r : Reached) → meaning s x.symbol ≡ m → name_read s line x m ≡ Ok r
      → BegunHere (IsRead v) x r
  name_read_begun line x None r h e = absurd (no_fault e)
  name_read_begun line x (Some (OfType t)) r h e = absurd (no_fault e)
  name_read_begun line x (Some OfList) r h e = absurd (no_fault e)
  name_read_begun line x (Some (OfStart q)) r h e = absurd (no_fault e)
  name_read_begun line x (Some (OfSymbol d)) r h e = absurd
      (no_fault (behind_test (nat_eq (length d.args) 0) (Count line) (Err (wrong line)) r e))
  name_read_begun line x (Some (OfConstant z)) r h e = begun_as (IsRead v) x (OfNumber z) integer_type r e (a_number z)
      (read_constant (sees.constants x.symbol z h))
  name_read_begun line x (Some (OfPlace t)) r h e = begun_as (IsRead v) x (AtName x.line x.symbol) t r e (a_name x.line x.symbol [] t)
      (read_variable (sees.places x.symbol t h))
  name_read_begun line x (Some (OfRoutine q)) r h e =
      let c = call q.number x.line no_arguments in
      let res = function_begun line x q c r h (behind_test (nat_eq (length q.formals) 0) (Count line) (function_result line q c) r e) in
      record { good = res.good; is = subst (IsRead v x) (sym res.is) (read_result (sees.routines x.symbol q h)) }

  own_begun : (line : ℕ) (x : Name) (is_own : Bool) (o : Option TypeId) (r : Reached)
      → (is_own ≡ true → (t : TypeId) → o ≡ Some t → IsWritten v x (Read (designator x.line x.symbol no_selectors)))
      → own_result line x is_own o ≡ Ok r → BegunHere (IsWritten v) x r
  own_begun line x true (Some t) r h e = begun_as (IsWritten v) x (AtResult x.line x.symbol) t r e (a_result x.line x.symbol [] t)
      (h refl t refl)
  own_begun line x true None r h e = absurd (no_fault e)
  own_begun line x false o r h e = absurd (no_fault e)

  name_written_begun : (line : ℕ) (x : Name) (m : Option Meaning) (r : Reached) → meaning s x.symbol ≡ m → name_written s line x m ≡ Ok r
      → BegunHere (IsWritten v) x r
  name_written_begun line x None r h e = absurd (no_fault e)
  name_written_begun line x (Some (OfType t)) r h e = absurd (no_fault e)
  name_written_begun line x (Some OfList) r h e = absurd (no_fault e)
  name_written_begun line x (Some (OfStart q)) r h e = absurd (no_fault e)
  name_written_begun line x (Some (OfSymbol d)) r h e = absurd (no_fault e)
  name_written_begun line x (Some (OfConstant z)) r h e = absurd (no_fault e)
  name_written_begun line x (Some (OfPlace t)) r h e = begun_as (IsWritten v) x (AtName x.line x.symbol) t r e
      (a_name x.line x.symbol [] t) (written_variable (sees.places x.symbol t h))
  name_written_begun line x (Some (OfRoutine q)) r h e = own_begun line x (is_this s.routine q) q.result r
      (λ own t k. written_result (sees.own_result x.symbol q t h own k)) e

  class_comes : (line : ℕ) (x : Name) (m : Option Meaning) (o : Operand Expression) → class_at s x line m ≡ Ok o → ClassHere line x o
  class_comes line x None o e = absurd (no_fault e)
  class_comes line x (Some m) o e = absurd (no_fault e)

  -- ---- selectors

  field_link : (r : Reached) (x : Name) (f : TypeForm) (t : TypeId) → form_at forms r.type.0 ≡ f → is_some (field_of f x.symbol) ≡ true
      → may_follow (ByField r.type x.symbol) (form_at forms r.type.0) ≡ true
  field_link r x f t e h = ap (λ q. is_some (field_of q x.symbol)) e ∙ h

  field_extends : (at : ℕ) (r z : Reached) (x : Name) (t : TypeId) → GoodReached r
      → may_follow (ByField r.type x.symbol) (form_at forms r.type.0) ≡ true → fine (further r (ByField r.type x.symbol) t) ≡ Ok z
      → ExtendsHere r (tree.field at x) z
  field_extends at r z x t g m e =
      let one = further_good r (ByField r.type x.symbol) t g m in
      subst (ExtendsHere r (tree.field at x)) (same_value e)
      (record { good = one.good; on = λ more y h. origin.by_field {t = r.type} one.is h })

  field_in_comes : (line at : ℕ) (r z : Reached) (x : Name) (f : TypeForm) → form_at forms r.type.0 ≡ f → GoodReached r
      → field_in line r x f ≡ Ok z → ExtendsHere r (tree.field at x) z
  field_in_comes line at r z x form.Integer h g e = absurd (no_fault e)
  field_in_comes line at r z x form.Boolean h g e = absurd (no_fault e)
  field_in_comes line at r z x (form.Range low high) h g e = absurd (no_fault e)
  field_in_comes line at r z x (form.Pointer t) h g e = absurd (no_fault e)
  field_in_comes line at r z x (form.Array i t) h g e = absurd (no_fault e)
  field_in_comes line at r z x (form.Record fields) h g e = by_type (field_type fields x.symbol) refl e
    where
      by_type : (o : Option TypeId) → field_type fields x.symbol ≡ o
          → on_type (Err (undeclared x)) (λ t. fine (further r (ByField r.type x.symbol) t)) o ≡ Ok z → ExtendsHere r (tree.field at x) z
      by_type None k q = absurd (no_fault q)
      by_type (Some t) k q = field_extends at r z x t g (field_link r x (form.Record fields) t h (ap is_some k)) q

  field_comes : (line at : ℕ) (r z : Reached) (x : Name) → GoodReached r → field_at s line r x ≡ Ok z → ExtendsHere r (tree.field at x) z
  field_comes line at r z x g e =
      let next = field_in line r x (form_at forms r.type.0) in
      field_in_comes line at r z x (form_at forms r.type.0) refl g (behind_test (may_be_selected r.base) (wrong line) next z e)

  content_comes : (line at : ℕ) (r z : Reached) → GoodReached r → content_at s line at r ≡ Ok z → ExtendsHere r (tree.content at) z
  content_comes line at r z g e =
      let go = λ (t : TypeId). fine (further r (ByCell at t) t) in
      by_target (target_of (form_at forms r.type.0)) refl
      (behind_test (may_be_selected r.base) (wrong line) (on_type (Err (wrong line)) go (target_of (form_at forms r.type.0))) z e)
    where
      by_target : (o : Option TypeId) → target_of (form_at forms r.type.0) ≡ o
          → on_type (Err (wrong line)) (λ t. fine (further r (ByCell at t) t)) o ≡ Ok z → ExtendsHere r (tree.content at) z
      by_target None k q = absurd (no_fault q)
      by_target (Some t) k q =
          let one = further_good r (ByCell at t) t g (ap is_some k) in
          subst (ExtendsHere r (tree.content at)) (same_value q)
          (record { good = one.good; on = λ more y h. origin.by_content {t = t} one.is h })

  -- ---- operands in a list

  data OperandsFrom : List (ℕ × Operand Expression) → tree.MoreFormulas → Type 0 where
    no_operands : OperandsFrom [] tree.no_more_formulas
    one_operand : (a : ℕ × Operand Expression) (others : List (ℕ × Operand Expression)) (f : tree.Formula) (more : tree.MoreFormulas)
        → IsFrom NilOf (λ x. ExpressionFrom v x f) a.1 → OperandsFrom others more → OperandsFrom (a ∷ others) (tree.more_formulas f more)

  abbrev listed : ℕ → Operand Expression → List (ℕ × Operand Expression) → List (ℕ × Operand Expression)
  listed line o rest = (line, o) ∷ rest

  operands_come : (given : List (Argument Expression Reached)) (fs : tree.MoreFormulas) (os : List (ℕ × Operand Expression))
      → GivenArguments given fs → operands given ≡ Ok os → OperandsFrom os fs
  operands_come [] tree.no_more_formulas os no_more e = subst (λ q. OperandsFrom q tree.no_more_formulas) (same_value e) no_operands
  operands_come [] (tree.more_formulas f more) os h e = elim h [ ]
  operands_come (a ∷ given) tree.no_more_formulas os h e = elim h [ ]
  operands_come (a ∷ given) (tree.more_formulas f more) os (one_more b others g fs h rest) e =
      let one = went a.operand (λ o. after (operands given) (λ others. fine (listed a.line o others))) os e in
      let two = went (operands given) (λ others. fine (listed a.line one.value others)) os one.rest in
      subst (λ q. OperandsFrom q (tree.more_formulas f more)) (same_value two.rest)
      (one_operand (a.line, one.value) two.value f more (h.operand one.value one.first) (operands_come given more two.value rest two.first))

  -- ---- indices

  abbrev elements_behind : ℕ × Operand Expression → Reached → List (ℕ × Operand Expression) → Expression → Option TypeId → Outcome Reached
  elements_behind i r os x o = on_type (Err (wrong i.0)) (λ u. elements forms (further r (ByIndex r.type x) u) os) o

  last_index : (at : ℕ) (r z : Reached) (f : tree.Formula) (x : Expression) (u : TypeId) → GoodReached r
      → element_type forms r.type ≡ Some u → ExpressionFrom v x f → fine (further r (ByIndex r.type x) u) ≡ Ok z
      → ExtendsHere r (tree.index at f tree.no_more_formulas) z
  last_index at r z f x u g k from e =
      let one = further_good r (ByIndex r.type x) u g (ap is_some k) in
      subst (ExtendsHere r (tree.index at f tree.no_more_formulas)) (same_value e)
      (record { good = one.good; on = λ more y h. origin.by_index {t = r.type} from one.is h })

  further_index : (at : ℕ) (r z : Reached) (f g : tree.Formula) (fs : tree.MoreFormulas) (x : Expression) (u : TypeId)
      → Further r (ByIndex r.type x) u → ExpressionFrom v x f
      → ExtendsHere (further r (ByIndex r.type x) u) (tree.index at g fs) z → ExtendsHere r (tree.index at f (tree.more_formulas g fs)) z
  further_index at r z f g fs x u one from h = record
      { good = h.good; on = λ more y k. origin.by_indices {t = r.type} from one.is (h.on more y k) }

  elements_come : (at : ℕ) (r z : Reached) (os : List (ℕ × Operand Expression)) (f : tree.Formula) (more : tree.MoreFormulas)
      → GoodReached r → OperandsFrom os (tree.more_formulas f more) → elements forms r os ≡ Ok z → ExtendsHere r (tree.index at f more) z
  elements_come at r z [] f more good h e = elim h [ ]
  elements_come at r z (i ∷ []) f tree.no_more_formulas good (one_operand b others g fs from rest) e =
      let one = went (settled NilOf (wrong i.0) sort.Int i.1) (λ x. elements_behind i r [] x (element_type forms r.type)) z e in
      let x = settled_from NilOf (λ y. ExpressionFrom v y f) (wrong i.0) sort.Int i.1 one.value from one.first in
      by_element (element_type forms r.type) refl one.value x one.rest
    where
      by_element : (o : Option TypeId) → element_type forms r.type ≡ o → (n : Expression) → ExpressionFrom v n f
          → elements_behind i r [] n o ≡ Ok z → ExtendsHere r (tree.index at f tree.no_more_formulas) z
      by_element None q n x k = absurd (no_fault k)
      by_element (Some u) q n x k = last_index at r z f n u good q x k
  elements_come at r z (i ∷ []) f (tree.more_formulas g fs) good (one_operand b others h gs from rest) e = elim rest [ ]
  elements_come at r z (i ∷ j ∷ os) f tree.no_more_formulas good (one_operand b others h gs from rest) e = elim rest [ ]
  elements_come at r z (i ∷ j ∷ os) f (tree.more_formulas g fs) good (one_operand b others h gs from rest) e =
      let one = went (settled NilOf (wrong i.0) sort.Int i.1) (λ x. elements_behind i r (j ∷ os) x (element_type forms r.type)) z e in
      let x = settled_from NilOf (λ y. ExpressionFrom v y f) (wrong i.0) sort.Int i.1 one.value from one.first in
      by_element (element_type forms r.type) refl one.value x one.rest
      (λ n u q k. elements_come at (further r (ByIndex r.type n) u) z (j ∷ os) g fs q rest k)
    where
      by_element : (o : Option TypeId) → element_type forms r.type ≡ o → (n : Expression) → ExpressionFrom v n f
          → elements_behind i r (j ∷ os) n o ≡ Ok z
          → ((n : Expression) (u : TypeId) → GoodReached (further r (ByIndex r.type n) u)
          → elements forms (further r (ByIndex r.type n) u) (j ∷ os) ≡ Ok z
          → ExtendsHere (further r (ByIndex r.type n) u) (tree.index at g fs) z)
          → ExtendsHere r (tree.index at f (tree.more_formulas g fs)) z
      by_element None q n x k go = absurd (no_fault k)
      by_element (Some u) q n x k go =
          let one = further_good r (ByIndex r.type n) u good (ap is_some q) in
          further_index at r z f g fs n u one x (go n u one.good k)

  indexed_comes : (line at : ℕ) (r z : Reached) (given : List (Argument Expression Reached)) (f : tree.Formula) (more : tree.MoreFormulas)
      → GoodReached r → GivenArguments given (tree.more_formulas f more) → after (operands given) (indexed_at s line r) ≡ Ok z
      → ExtendsHere r (tree.index at f more) z
  indexed_comes line at r z given f more g h e =
      let one = went (operands given) (indexed_at s line r) z e in
      let inner = where_so (takes_indices forms r.type one.value) (Count line) (elements forms r one.value) in
      let two = behind_test (may_be_selected r.base && is_some (element_type forms r.type)) (wrong line) inner z one.rest in
      elements_come at r z one.value f more g (operands_come given (tree.more_formulas f more) one.value h one.first)
      (behind_test (takes_indices forms r.type one.value) (Count line) (elements forms r one.value) z two)

  -- ---- calls

  data ItemFrom : walk.Given → tree.Formula → Type 0 where
    a_value : (o : Operand Expression) (f : tree.Formula) → IsFrom NilOf (λ x. ExpressionFrom v x f) o → ItemFrom (AsValue o) f
    a_place : (r : Reached) (f : tree.Formula) → PlacedHere f r → ItemFrom (AsPlace r) f
    no_place : (f : tree.Formula) → ItemFrom NoPlace f

  data ItemsFrom : List (ℕ × walk.Given) → tree.MoreFormulas → Type 0 where
    no_items : ItemsFrom [] tree.no_more_formulas
    one_item : (g : ℕ × walk.Given) (others : List (ℕ × walk.Given)) (f : tree.Formula) (more : tree.MoreFormulas) → ItemFrom g.1 f
        → ItemsFrom others more → ItemsFrom (g ∷ others) (tree.more_formulas f more)

  as_place_comes : (a : Argument Expression Reached) (f : tree.Formula) (g : walk.Given) (o : Option (Outcome Reached))
      → ((r : Reached) → o ≡ Some (Ok r) → PlacedHere f r) → as_place a o ≡ Ok g → ItemFrom g f
  as_place_comes a f g None h e = subst (λ q. ItemFrom q f) (same_value (went a.operand (λ o. fine NoPlace) g e).rest) (no_place f)
  as_place_comes a f g (Some (Ok r)) h e = subst (λ q. ItemFrom q f) (same_value e) (a_place r f (h r refl))
  as_place_comes a f g (Some (Err fault)) h e = absurd (no_fault e)

  abbrev item_walk : Bool → Argument Expression Reached → Outcome walk.Given
  item_walk by a = cond by (as_place a a.place) (after a.operand (λ o. Ok (AsValue o)))

  item_comes : (by : Bool) (a : Argument Expression Reached) (f : tree.Formula) (g : walk.Given)
      → ((o : Operand Expression) → a.operand ≡ Ok o → IsFrom NilOf (λ x. ExpressionFrom v x f) o)
      → ((r : Reached) → a.place ≡ Some (Ok r) → PlacedHere f r) → item_walk by a ≡ Ok g → ItemFrom g f
  item_comes true a f g operand place e = as_place_comes a f g a.place place e
  item_comes false a f g operand place e =
      let one = went a.operand (λ o. fine (AsValue o)) g e in
      subst (λ q. ItemFrom q f) (same_value one.rest) (a_value one.value f (operand one.value one.first))

  abbrev itemed : ℕ → walk.Given → List (ℕ × walk.Given) → List (ℕ × walk.Given)
  itemed line g rest = (line, g) ∷ rest

  items_come : (formals : List Formal) (given : List (Argument Expression Reached)) (fs : tree.MoreFormulas) (gs : List (ℕ × walk.Given))
      → GivenArguments given fs → given_to formals given ≡ Ok gs → ItemsFrom gs fs
  items_come formals [] tree.no_more_formulas gs no_more e = subst (λ q. ItemsFrom q tree.no_more_formulas) (same_value e) no_items
  items_come formals [] (tree.more_formulas f more) gs h e = elim h [ ]
  items_come formals (a ∷ given) tree.no_more_formulas gs h e = elim h [ ]
  items_come [] (a ∷ given) (tree.more_formulas f more) gs (one_more b others g fs h rest) e =
      let one = went a.operand (λ o. after (given_to [] given) (λ others. fine (itemed a.line (AsValue o) others))) gs e in
      let two = went (given_to [] given) (λ others. fine (itemed a.line (AsValue one.value) others)) gs one.rest in
      subst (λ q. ItemsFrom q (tree.more_formulas f more)) (same_value two.rest)
      (one_item (a.line, AsValue one.value) two.value f more (a_value one.value f (h.operand one.value one.first))
      (items_come [] given more two.value rest two.first))
  items_come (formal ∷ formals) (a ∷ given) (tree.more_formulas f more) gs (one_more b others g fs h rest) e =
      let one = went (item_walk formal.by_place a) (λ o. after (given_to formals given) (λ others. fine (itemed a.line o others))) gs e in
      let two = went (given_to formals given) (λ others. fine (itemed a.line one.value others)) gs one.rest in
      subst (λ q. ItemsFrom q (tree.more_formulas f more)) (same_value two.rest)
      (one_item (a.line, one.value) two.value f more (item_comes formal.by_place a f one.value h.operand h.place one.first)
      (items_come formals given more two.value rest two.first))

  record FittedFrom (fs : tree.MoreFormulas) (arguments : Arguments) : Type 0 where
    pub given : List (Given Expression)
    pub from : GivenFrom given fs
    pub is : expressions.arguments_of given ≡ Some arguments

  value_fitted : (f : tree.Formula) (more : tree.MoreFormulas) (e : Expression) (rest all : Arguments) → ExpressionFrom v e f
      → FittedFrom more rest → by_value e rest ≡ all → FittedFrom (tree.more_formulas f more) all
  value_fitted f more e rest all h others same =
      subst (FittedFrom (tree.more_formulas f more)) same
      (record { given = Value e ∷ others.given; from = origin.one_argument (origin.value h) others.from; is = ap (with_value e) others.is })

  place_fitted : (f : tree.Formula) (more : tree.MoreFormulas) (r : Reached) (d : Designator) (rest all : Arguments) → PlacedHere f r
      → designator_at r ≡ Some d → FittedFrom more rest → by_place d rest ≡ all → FittedFrom (tree.more_formulas f more) all
  place_fitted f more r d rest all h k others same =
      let read : expression_at r ≡ Read d = designator_read r.base r.links r.type d k in
      let from = subst (λ x. origin.FromWritten expression_operators (IsRead v) (IsWritten v) (IsCalled v) x h.designator) read h.from in
      subst (FittedFrom (tree.more_formulas f more)) same
      (record {
        given = AtPlace (Read d) ∷ others.given;
        from = origin.one_argument (origin.at_place h.is from) others.from;
        is = ap
            (with_place d) others.is;
      })

  fitted_come : (formals : List Formal) (gs : List (ℕ × walk.Given)) (fs : tree.MoreFormulas) (all : Arguments)
      → length gs ≡ length formals → ItemsFrom gs fs → fitted forms formals gs ≡ Ok all → FittedFrom fs all
  fitted_come [] [] tree.no_more_formulas all same no_items e = subst (FittedFrom tree.no_more_formulas) (same_value e)
      (record { given = []; from = origin.no_arguments; is = refl })
  fitted_come [] [] (tree.more_formulas f more) all same h e = elim h [ ]
  fitted_come [] (g ∷ gs) fs all same h e = absurd (cc (same))
  fitted_come (formal ∷ formals) [] fs all same h e = absurd (cc (same))
  fitted_come (formal ∷ formals) (g ∷ gs) tree.no_more_formulas all same h e = elim h [ ]
  fitted_come (formal ∷ formals) ((line, AsValue o) ∷ gs) (tree.more_formulas f more) all same
      (one_item b others g fs (a_value p q h) rest) e =
      let wanted = sort_of forms formal.of in
      let one = went (settled NilOf (wrong line) wanted o) (λ x. after (fitted forms formals gs) (λ others. fine (by_value x others))) all
      e in
      let two = went (fitted forms formals gs) (λ others. fine (by_value one.value others)) all one.rest in
      let fewer : length gs ≡ length formals = cc (same) in
      value_fitted f more one.value two.value all (settled_from NilOf (λ x. ExpressionFrom v x f) (wrong line) wanted o one.value h
      one.first) (fitted_come formals gs more two.value fewer rest two.first) (same_value two.rest)
  fitted_come (formal ∷ formals) ((line, NoPlace) ∷ gs) (tree.more_formulas f more) all same h e = absurd (no_fault e)
  fitted_come (formal ∷ formals) ((line, AsPlace r) ∷ gs) (tree.more_formulas f more) all same
      (one_item b others g fs (a_place p q h) rest) e =
      let go = λ (d : Designator). after (fitted forms formals gs) (λ others. fine (by_place d others)) in
      let next = walk.with_place (wrong line) (designator_at r) go in
      let fewer : length gs ≡ length formals = cc (same) in
      by_place_of (designator_at r) refl (behind_test (same_places forms formal.of r.type) (wrong line) next all e)
      (λ others k. fitted_come formals gs more others fewer rest k)
    where
      by_place_of : (o : Option Designator) → designator_at r ≡ o
          → walk.with_place (wrong line) o (λ d. after (fitted forms formals gs) (λ others. fine (by_place d others))) ≡ Ok all
          → ((others : Arguments) → fitted forms formals gs ≡ Ok others → FittedFrom more others)
          → FittedFrom (tree.more_formulas f more) all
      by_place_of None k q go = absurd (no_fault q)
      by_place_of (Some d) k q go =
          let two = went (fitted forms formals gs) (λ others. fine (by_place d others)) all q in
          place_fitted f more r d two.value all h k (go two.value two.first) (same_value two.rest)

  record CalledFrom (at : ℕ) (h : Heading) (fs : tree.MoreFormulas) (c : Call) : Type 0 where
    pub arguments : Arguments
    pub fitted : FittedFrom fs arguments
    pub is : call h.number at arguments ≡ c

  call_comes : (line at : ℕ) (h : Heading) (given : List (Argument Expression Reached)) (fs : tree.MoreFormulas) (c : Call)
      → GivenArguments given fs → call_of s line at h given ≡ Ok c → CalledFrom at h fs c
  call_comes line at h given fs c g e =
      let result = λ (arguments : Arguments). fine (call h.number at arguments) in
      let next = λ (gs : List (ℕ × walk.Given)). after (fitted forms h.formals gs) result in
      let one = went (given_to h.formals given) (λ gs. where_so (nat_eq (length gs) (length h.formals)) (Count line) (next gs)) c e in
      let same = eqb-true (length one.value) (length h.formals)
      (held (nat_eq (length one.value) (length h.formals)) (Count line) (next one.value) c one.rest) in
      let two = went (fitted forms h.formals one.value) result c
      (behind_test (nat_eq (length one.value) (length h.formals)) (Count line) (next one.value) c one.rest) in
      record {
        arguments = two.value;
        fitted = fitted_come h.formals one.value fs two.value same (items_come h.formals given fs one.value g one.first) two.first;
        is = same_value two.rest;
      }

  no_call_comes : (line : ℕ) (n : Option ℕ) (given : List (Argument Expression Reached)) (r : Reached) → no_call line n given ≡ Ok r → ⊥
  no_call_comes line None given r e = no_fault (went (operands given) (λ os. Err (wrong line)) r e).rest
  no_call_comes line (Some n) given r e =
      let one = went (operands given) (λ os. where_so (nat_eq (length os) n) (Count line) (Err (wrong line))) r e in
      no_fault (behind_test (nat_eq (length one.value) n) (Count line) (Err (wrong line)) r one.rest)

  routine_applied : (line : ℕ) (x : Name) (h : Heading) (r : Reached) (given : List (Argument Expression Reached))
      (more : tree.MoreFormulas) → function_named v x.symbol ≡ None → meaning s x.symbol ≡ Some (OfRoutine h) → GivenArguments given more
      → named_applied s line x (Some (OfRoutine h)) given ≡ Ok r → AppliedHere x more r
  routine_applied line x h r given more none m g e =
      let one = went (call_of s line x.line h given) (λ c. function_result line h c) r e in
      let c = call_comes line x.line h given more one.value g one.first in
      let res = function_begun line x h one.value r m one.rest in
      let is : IsCalled v x c.fitted.given (Result (call h.number x.line c.arguments)) = called none (sees.routines x.symbol h m)
      c.fitted.is in
      record {
        given = c.fitted.given;
        from = c.fitted.from;
        is = subst (IsCalled v x c.fitted.given) (ap Result c.is ∙ sym res.is) is;
        good = res.good;
      }

  named_comes : (line : ℕ) (x : Name) (m : Option Meaning) (r : Reached) (given : List (Argument Expression Reached))
      (more : tree.MoreFormulas) → function_named v x.symbol ≡ None → meaning s x.symbol ≡ m → GivenArguments given more
      → named_applied s line x m given ≡ Ok r → AppliedHere x more r
  named_comes line x None r given more none m h e = absurd (no_fault e)
  named_comes line x (Some (OfSymbol d)) r given more none m h e = absurd (no_call_comes line (Some (length d.args)) given r e)
  named_comes line x (Some (OfRoutine q)) r given more none m h e = routine_applied line x q r given more none m h e
  named_comes line x (Some (OfType t)) r given more none m h e = absurd (no_call_comes line None given r e)
  named_comes line x (Some OfList) r given more none m h e = absurd (no_call_comes line None given r e)
  named_comes line x (Some (OfConstant n)) r given more none m h e = absurd (no_call_comes line None given r e)
  named_comes line x (Some (OfPlace t)) r given more none m h e = absurd (no_call_comes line None given r e)
  named_comes line x (Some (OfStart q)) r given more none m h e = absurd (no_call_comes line None given r e)

  applied_comes : (line : ℕ) (x : Name) (r : Reached) (given : List (Argument Expression Reached)) (more : tree.MoreFormulas)
      → GivenArguments given more → applied_of s line x (function s x.symbol) given ≡ Ok r → AppliedHere x more r
  applied_comes line x r given more h e = by_function (function s x.symbol) (sym (sees.functions x.symbol)) e
    where
      by_function : (o : Option Function) → function_named v x.symbol ≡ o → applied_of s line x o given ≡ Ok r → AppliedHere x more r
      by_function None is k = named_comes line x (meaning s x.symbol) r given more is refl h k
      by_function (Some b) is k = absurd (no_call_comes line (Some (Rattle.spv_typing.specs.FormulaWalk.arity b)) given r k)

  -- ---- the walk

  all_come : Comes (expression_forms s) expression_operators (IsRead v) (IsWritten v) (IsCalled v) expression_at sort_for GoodReached
  all_come = record {
    implied = λ x y may. absurd (false≢true may);
    class_of = λ line x o e. class_comes line x (meaning s x.symbol) o e;
    begin = λ line x r e. name_read_begun line x (meaning s x.symbol) r refl e;
    begin_written = λ line x r e. name_written_begun line x (meaning s x.symbol) r refl e;
    apply = λ line x r given f more h e. applied_comes line x r given (tree.more_formulas f more) h e;
    indexed = λ line at r z given f more g h e. indexed_comes line at r z given f more g h e;
    field_of = λ line at r z x g e. field_comes line at r z x g e;
    content_of = λ line at r z g e. content_comes line at r z g e;
    finish = λ r. refl;
  }

  pub operand_comes : (f : tree.Formula) (o : Operand Expression) → operand s f ≡ Ok o → IsFrom NilOf (λ e. ExpressionFrom v e f) o
  operand_comes f o e = formula_from (expression_forms s) expression_operators (IsRead v) (IsWritten v) (IsCalled v) expression_at
      sort_for GoodReached all_come f o e

  pub expression_comes : (wanted : Sort) (f : tree.Formula) (e : Expression) → expression_of s wanted f ≡ Ok e → ExpressionFrom v e f
  expression_comes wanted f e k =
      let one = went (operand s f) (settled NilOf (wrong (formula_line f)) wanted) e k in
      settled_from NilOf (λ x. ExpressionFrom v x f) (wrong (formula_line f)) wanted one.value e (operand_comes f one.value one.first)
      one.rest

  pub place_comes : (d : tree.Designator) (r : Reached) → written s d ≡ Ok r → (place : Designator) → designator_at r ≡ Some place
      → PlaceFrom v place d
  place_comes d r k place e =
      let w = written_from (expression_forms s) expression_operators (IsRead v) (IsWritten v) (IsCalled v) expression_at sort_for
      GoodReached all_come d r k in
      subst (λ x. origin.FromWritten expression_operators (IsRead v) (IsWritten v) (IsCalled v) x d)
      (designator_read r.base r.links r.type place e) w.from

  -- ---- the arguments of a procedure

  abbrev argument_at : tree.Formula → Argument Expression Reached
  argument_at f = argument f (formula_walk (expression_forms s) f) (written_place (expression_forms s) f)

  listed_come : (fs : List tree.Formula) → GivenArguments (map argument_at fs) (more_of fs)
  listed_come [] = no_more
  listed_come (f ∷ fs) = one_more (argument_at f) (map argument_at fs) f (more_of fs)
      (one_argument_from (expression_forms s) expression_operators (IsRead v) (IsWritten v) (IsCalled v) expression_at sort_for
      GoodReached all_come f) (listed_come fs)

  arguments_come : (given : Option (Several tree.Formula)) → GivenArguments (arguments_of s given) (all_of given)
  arguments_come None = no_more
  arguments_come (Some fs) = listed_come (fs.first ∷ fs.more)

  pub procedure_comes : (line : ℕ) (x : Name) (h : Heading) → meaning s x.symbol ≡ Some (OfRoutine h)
      → (given : Option (Several tree.Formula)) (c : Call) → call_of s line x.line h (arguments_of s given) ≡ Ok c
      → CallFrom v c x (all_of given)
  procedure_comes line x h m given c e =
      let one = call_comes line x.line h (arguments_of s given) (all_of given) c (arguments_come given) e in
      subst (λ q. CallFrom v q x (all_of given)) one.is (expressions.call_of (sees.routines x.symbol h m) one.fitted.from one.fitted.is)

pub expressions_come : ExpressionsComeFromTheirTrees
expressions_come s v sees wanted f e k = expression_comes s v sees wanted f e k

pub places_come : PlacesComeFromTheirTrees
places_come s v sees d r k place e = place_comes s v sees d r k place e

pub calls_come : CallsComeFromTheirTrees
calls_come s v sees line x h m given c e = procedure_comes s v sees line x h m given c e
