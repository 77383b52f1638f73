-- Names, selectors and calls of expressions are well typed.
use Rattle.std.proofs.Common.{◌≡◌, ℕ, suc, Bool, true, false, cond, ◌&&◌, not, refl, sym, ap, ◌∙◌, subst}
use Rattle.std.specs.Prelude.{List, [], ◌∷◌, length, Option, Some, None, Ok, Err, nat_eq, is_some}
use Rattle.std.specs.List.{list_all}
use Rattle.std.specs.Option.{option_and_then}
use Rattle.std.specs.Cmp.Derive.{both_true}
use Rattle.std.proofs.lemmas.Bool.{false≢true, eqb-true}
use Rattle.spv_logic.specs.declared.names.names.Symbol.{Symbol}
use Rattle.spv_logic.proofs.list.Tests.{left_true, right_true}
use Rattle.spv_logic.specs.declared.types.TypeId.{TypeId}
use Rattle.spv_logic.specs.declared.types.Sort.{Sort}
use Rattle.spv_logic.specs.declared.types.Sort.TheVariants as sort
use Rattle.spv_logic.specs.Sorts.{sort_in_range}
use Rattle.spv_logic.proofs.Equality.{sort_eq-refl}
use Rattle.spv_tree.specs.declared.syntax.names.Name.{Name}
use Rattle.spv_program.specs.declared.types.TypeForm.{TypeForm}
use Rattle.spv_program.specs.declared.types.TypeForm.TheVariants as form
use Rattle.spv_program.specs.Types.{form_at, sort_of, field_of, field_type, target_of, type_exists, same_places}
use Rattle.spv_program.specs.Expressions.{Expression, Designator, Call, Arguments, NilOf, call, no_arguments, by_value, by_place}
use Rattle.spv_program.specs.ExpressionTypes.{callee, arguments_fit, result_type, stands_for}
use Rattle.spv_program.specs.FormulaTypes.{is_sort, sort_if}
use Rattle.spv_program.specs.Programs.{Formal, Routine, Program, shapes}
use Rattle.spv_typing.specs.declared.faults.TypeFault.{TypeFault}
use Rattle.spv_typing.specs.declared.faults.TypeFault.TheVariants.{Count}
use Rattle.spv_typing.specs.Outcomes.{Outcome, after, where_so, undeclared, wrong}
use Rattle.spv_typing.specs.Known.{Function, Meaning, OfType, OfList, OfConstant, OfPlace, OfStart, OfSymbol, OfRoutine, Heading, Scope, meaning}
use Rattle.spv_typing.specs.FormulaWalk.{arity}
use Rattle.spv_typing.specs.OperatorWalk.{Operand, Argument, settled, operands}
use Rattle.spv_typing.specs.ExpressionWalk.{Base, Link, ByIndex, ByField, ByCell, Reached, function_result, name_read, is_this, own_result, name_written, may_be_selected, further, on_type, element_type, takes_indices, elements, indexed_at, field_in, field_at, content_at, Given, AsValue, AsPlace, NoPlace, as_place, given_to, with_place, fitted, call_of, no_call, named_applied, applied_of, designator_at}
use Rattle.spv_type_soundness.specs.well_typed.Expressions.{Belongs}
use Rattle.spv_type_soundness.proofs.well_typed.Outcomes.{fine, no_fault, same_value, went, held, behind_test}
use Rattle.spv_type_soundness.proofs.well_typed.Operators.{GoodOperand, GoodArguments, no_more, one_more, settled_at}
use Rattle.spv_type_soundness.proofs.well_typed.ExpressionParts.{Typed, Bare, pointed_there}
use Rattle.spv_type_soundness.proofs.well_typed.Places.{Leads, by_index, by_cell, at_once}
use Rattle.spv_type_soundness.proofs.well_typed.Reached.{type_range, reads_name, reads_number, reads_result, ReadOk, read_on, Writes, writes_name, writes_result, WrittenOk, IsSelected, selected, write_on, place_fine}

module _ (s : Scope) (p : Program) (here : Option Routine) (b : Belongs s p here) where
  abbrev Read : Reached → Type 0
  Read r = ReadOk p here b.forms_right b.first r

  abbrev Written : Reached → Type 0
  Written r = WrittenOk p here b.forms_right b.first r

  -- what names with selectors have come to, of those that are written or of those that are read
  abbrev pub reached_ok : Bool → Reached → Type 0
  reached_ok true = Written
  reached_ok false = Read

  selected_base : (c : Base) (links : List Link) (t : TypeId) → Writes p here b.forms_right b.first c links t → may_be_selected c ≡ true
      → IsSelected p here b.forms_right b.first c
  selected_base c links t (writes_name line x ls u v e k n way) m = selected line x
  selected_base c links t (writes_result line x v e k) m = absurd (false≢true m)

  reached_on : (written : Bool) (r : Reached) (l : Link) (u : TypeId) → may_be_selected r.base ≡ true → reached_ok written r
      → Leads p here l r.type u → reached_ok written (further r l u)
  reached_on true r l u m h g = write_on p here b.forms_right b.first r l u (selected_base r.base r.links r.type h.writes m) h g
  reached_on false r l u m h g = read_on p here b.forms_right b.first r l u h g

  -- ---- operands

  pub data GoodOperands : List (ℕ × Operand Expression) → Type 0 where
    no_operands : GoodOperands []
    one_operand : (a : ℕ × Operand Expression) (others : List (ℕ × Operand Expression)) → GoodOperand (Typed p here) (Bare p here) a.1
        → GoodOperands others → GoodOperands (a ∷ others)

  abbrev listed : ℕ → Operand Expression → List (ℕ × Operand Expression) → List (ℕ × Operand Expression)
  listed line o rest = (line, o) ∷ rest

  operands_good : (given : List (Argument Expression Reached)) (os : List (ℕ × Operand Expression))
      → GoodArguments (Typed p here) (Bare p here) Written given → operands given ≡ Ok os → GoodOperands os
  operands_good [] os no_more e = subst GoodOperands (same_value e) no_operands
  operands_good (a ∷ given) os (one_more c others g h) e =
      let one = went a.operand (λ o. after (operands given) (λ rest. fine (listed a.line o rest))) os e in
      let two = went (operands given) (λ rest. fine (listed a.line one.value rest)) os one.rest in
      subst GoodOperands (same_value two.rest)
      (one_operand (a.line, one.value) two.value (g.operand one.value one.first) (operands_good given two.value h two.first))

  pub settled_here : (fault : TypeFault) (r : Sort) → sort_in_range (shapes p) r ≡ true → (o : Operand Expression) (e : Expression)
      → GoodOperand (Typed p here) (Bare p here) o → settled NilOf fault r o ≡ Ok e → Typed p here e r
  settled_here fault r there o e h k = settled_at (Typed p here) (Bare p here) NilOf fault r nil_is o e h k
    where
      nil_is : (t : TypeId) → r ≡ sort.Ptr t → Typed p here (NilOf t) (sort.Ptr t)
      nil_is t q =
          let exists : sort_in_range (shapes p) (sort.Ptr t) ≡ true = subst (λ u. sort_in_range (shapes p) u ≡ true) q there in
          record { is = ap (λ c. sort_if c (sort.Ptr t)) (pointed_there p here t exists); there = exists }

  -- ---- selectors

  elements_ok : (written : Bool) (r z : Reached) (indices : List (ℕ × Operand Expression)) → may_be_selected r.base ≡ true
      → reached_ok written r → GoodOperands indices → elements p.forms r indices ≡ Ok z → reached_ok written z
  elements_ok written r z [] m h g e = subst (reached_ok written) (same_value e) h
  elements_ok written r z (i ∷ indices) m h (one_operand c others g more) e =
      let one = went (settled NilOf (wrong i.0) sort.Int i.1)
      (λ x. on_type (Err (wrong i.0)) (λ u. elements p.forms (further r (ByIndex r.type x) u) indices) (element_type p.forms r.type))
      z e in
      let index = settled_here (wrong i.0) sort.Int refl i.1 one.value g one.first in
      by_element (element_type p.forms r.type) refl one.value index one.rest
      (λ u x k f. elements_ok written (further r (ByIndex r.type x) u) z indices m k more f)
    where
      by_element : (o : Option TypeId) → element_type p.forms r.type ≡ o → (x : Expression) → Typed p here x sort.Int
          → on_type (Err (wrong i.0)) (λ u. elements p.forms (further r (ByIndex r.type x) u) indices) o ≡ Ok z
          → ((u : TypeId) (x : Expression) → reached_ok written (further r (ByIndex r.type x) u)
          → elements p.forms (further r (ByIndex r.type x) u) indices ≡ Ok z → reached_ok written z) → reached_ok written z
      by_element None k x q f go = absurd (no_fault f)
      by_element (Some u) k x q f go = go u x (reached_on written r (ByIndex r.type x) u m h (by_index r.type u x q k)) f

  pub indexed_ok : (written : Bool) (line : ℕ) (r z : Reached) (given : List (Argument Expression Reached)) → reached_ok written r
      → GoodArguments (Typed p here) (Bare p here) Written given → after (operands given) (indexed_at s line r) ≡ Ok z
      → reached_ok written z
  indexed_ok written line r z given h g e =
      let one = went (operands given) (indexed_at s line r) z e in
      let forms = s.known.program.forms in
      let inner = where_so (takes_indices forms r.type one.value) (Count line) (elements forms r one.value) in
      let test = may_be_selected r.base && is_some (element_type forms r.type) in
      let two = behind_test test (wrong line) inner z one.rest in
      let three = behind_test (takes_indices forms r.type one.value) (Count line) (elements forms r one.value) z two in
      elements_ok written r z one.value (left_true _ _ (held test (wrong line) inner z one.rest)) h
      (operands_good given one.value g one.first)
      (subst (λ f. elements f r one.value ≡ Ok z) (sym b.forms) three)

  field_in_ok : (written : Bool) (line : ℕ) (r z : Reached) (x : Name) (f : TypeForm) → form_at p.forms r.type.0 ≡ f
      → may_be_selected r.base ≡ true → reached_ok written r → field_in line r x f ≡ Ok z → reached_ok written z
  field_in_ok written line r z x (form.Record fields) k m h e = by_case (field_type fields x.symbol) refl e
    where
      field_leads : (t : TypeId) → field_of (form_at p.forms r.type.0) x.symbol ≡ Some t → Leads p here (ByField r.type x.symbol) r.type t
      field_leads t k = Leads.by_field r.type t x.symbol k

      by_case : (o : Option TypeId) → field_type fields x.symbol ≡ o
          → on_type (Err (undeclared x)) (λ t. fine (further r (ByField r.type x.symbol) t)) o ≡ Ok z → reached_ok written z
      by_case None q f = absurd (no_fault f)
      by_case (Some t) q f =
          subst (reached_ok written) (same_value f)
          (reached_on written r (ByField r.type x.symbol) t m h (field_leads t (ap (λ g. field_of g x.symbol) k ∙ q)))
  field_in_ok written line r z x form.Integer k m h e = absurd (no_fault e)
  field_in_ok written line r z x form.Boolean k m h e = absurd (no_fault e)
  field_in_ok written line r z x (form.Range low high) k m h e = absurd (no_fault e)
  field_in_ok written line r z x (form.Pointer t) k m h e = absurd (no_fault e)
  field_in_ok written line r z x (form.Array index element) k m h e = absurd (no_fault e)

  pub field_ok : (written : Bool) (line : ℕ) (r z : Reached) (x : Name) → reached_ok written r → field_at s line r x ≡ Ok z
      → reached_ok written z
  field_ok written line r z x h e =
      let forms = s.known.program.forms in
      let inner = field_in line r x (form_at forms r.type.0) in
      let m = held (may_be_selected r.base) (wrong line) inner z e in
      field_in_ok written line r z x (form_at forms r.type.0) (ap (λ f. form_at f r.type.0) b.forms) m h
      (behind_test (may_be_selected r.base) (wrong line) inner z e)

  pub content_ok : (written : Bool) (line at : ℕ) (r z : Reached) → reached_ok written r → content_at s line at r ≡ Ok z
      → reached_ok written z
  content_ok written line at r z h e =
      let forms = s.known.program.forms in
      let inner = on_type (Err (wrong line)) (λ t. fine (further r (ByCell at t) t)) (target_of (form_at forms r.type.0)) in
      let m = held (may_be_selected r.base) (wrong line) inner z e in
      by_target (target_of (form_at forms r.type.0)) (ap (λ f. target_of (form_at f r.type.0)) b.forms) m
      (behind_test (may_be_selected r.base) (wrong line) inner z e)
    where
      by_target : (o : Option TypeId) → target_of (form_at p.forms r.type.0) ≡ o → may_be_selected r.base ≡ true
          → on_type (Err (wrong line)) (λ t. fine (further r (ByCell at t) t)) o ≡ Ok z → reached_ok written z
      by_target None k m f = absurd (no_fault f)
      by_target (Some t) k m f = subst (reached_ok written) (same_value f)
          (reached_on written r (ByCell at t) t m h (by_cell at r.type t k))

  -- ---- names

  exists_at : (x : Symbol) (t : TypeId) → meaning s x ≡ Some (OfPlace t) → type_exists p.forms t ≡ true
  exists_at x t e = b.place_types x t e

  result_read : (line : ℕ) (h : Heading) (c : Call) (x : Symbol) (z : Reached) → meaning s x ≡ Some (OfRoutine h) → (r : Routine)
      → callee p here c ≡ Some r → r.result ≡ h.result → function_result line h c ≡ Ok z → Read z
  result_read line h c x z m r k same e = by_result h.result refl e
    where
      by_result : (o : Option TypeId) → h.result ≡ o → function_result line (record h { result = o }) c ≡ Ok z → Read z
      by_result None q f = absurd (no_fault f)
      by_result (Some t) q f =
          subst Read (same_value f)
          (record {
            reads = reads_result c t (ap (λ o. option_and_then result_type o) k ∙ (same ∙ q)) (b.plain_results x h t m q);
            exists = b.results x h t m q;
          })

  -- a call whose arguments fit is one of its routine
  callee_is : (h : Heading) (x : Symbol) (m : meaning s x ≡ Some (OfRoutine h)) (line : ℕ) (given : Arguments)
      → arguments_fit p here h.formals given ≡ true → callee p here (call h.number line given) ≡ Some (b.routines x h m).routine
  callee_is h x m line given fits =
      let r = b.routines x h m in
      ap (λ o. option_and_then (λ (c : Routine). cond (arguments_fit p here c.formals given) (Some c) None) o) r.at
      ∙ ap (λ c. cond c (Some r.routine) None) (ap (λ fs. arguments_fit p here fs given) r.formals ∙ fits)

  none_fit : (formals : List Formal) → nat_eq (length formals) 0 ≡ true → arguments_fit p here formals no_arguments ≡ true
  none_fit [] e = refl
  none_fit (f ∷ formals) e = let q : suc (length formals) ≡ 0 = eqb-true (suc (length formals)) 0 e in absurd (cc (q))

  pub name_read_ok : (line : ℕ) (x : Name) (m : Option Meaning) (z : Reached) → meaning s x.symbol ≡ m → name_read s line x m ≡ Ok z
      → Read z
  name_read_ok line x None z m e = absurd (no_fault e)
  name_read_ok line x (Some (OfType t)) z m e = absurd (no_fault e)
  name_read_ok line x (Some OfList) z m e = absurd (no_fault e)
  name_read_ok line x (Some (OfStart r)) z m e = absurd (no_fault e)
  name_read_ok line x (Some (OfSymbol d)) z m e =
      absurd (no_fault (behind_test (nat_eq (length d.args) 0) (Count line) (Err (wrong line)) z e))
  name_read_ok line x (Some (OfConstant n)) z m e = subst Read (same_value e) (record { reads = reads_number n; exists = b.first_there })
  name_read_ok line x (Some (OfPlace t)) z m e =
      subst Read (same_value e)
      (record {
        reads = reads_name x.line x.symbol [] t t (b.places x.symbol t m) (b.no_starts x.symbol t m) (b.no_results x.symbol t m) (at_once t);
        exists =
            exists_at x.symbol t m;
      })
  name_read_ok line x (Some (OfRoutine h)) z m e =
      let c = call h.number x.line no_arguments in
      let none = held (nat_eq (length h.formals) 0) (Count line) (function_result line h c) z e in
      result_read line h c x.symbol z m (b.routines x.symbol h m).routine
      (callee_is h x.symbol m x.line no_arguments (none_fit h.formals none)) (b.routines x.symbol h m).result
      (behind_test (nat_eq (length h.formals) 0) (Count line) (function_result line h c) z e)

  own_ok : (line : ℕ) (x : Name) (h : Heading) (own : Bool) (o : Option TypeId) (z : Reached) → meaning s x.symbol ≡ Some (OfRoutine h)
      → is_this s.routine h ≡ own → h.result ≡ o → own_result line x own o ≡ Ok z → Written z
  own_ok line x h true (Some t) z m q k e =
      subst Written (same_value e) (record
      { writes = writes_result x.line x.symbol t (b.own_result x.symbol h t m q k) (b.own_result_no_start x.symbol h m q); exists = b.results x.symbol h t m k })
  own_ok line x h true None z m q k e = absurd (no_fault e)
  own_ok line x h false (Some t) z m q k e = absurd (no_fault e)
  own_ok line x h false None z m q k e = absurd (no_fault e)

  pub name_written_ok : (line : ℕ) (x : Name) (m : Option Meaning) (z : Reached) → meaning s x.symbol ≡ m → name_written s line x m ≡ Ok z
      → Written z
  name_written_ok line x None z m e = absurd (no_fault e)
  name_written_ok line x (Some (OfType t)) z m e = absurd (no_fault e)
  name_written_ok line x (Some OfList) z m e = absurd (no_fault e)
  name_written_ok line x (Some (OfStart r)) z m e = absurd (no_fault e)
  name_written_ok line x (Some (OfSymbol d)) z m e = absurd (no_fault e)
  name_written_ok line x (Some (OfConstant n)) z m e = absurd (no_fault e)
  name_written_ok line x (Some (OfPlace t)) z m e =
      subst Written (same_value e)
      (record {
        writes = writes_name x.line x.symbol [] t t (b.places x.symbol t m) (b.no_starts x.symbol t m) (b.no_results x.symbol t m) (at_once t);
        exists =
            exists_at x.symbol t m;
      })
  name_written_ok line x (Some (OfRoutine h)) z m e = own_ok line x h (is_this s.routine h) h.result z m refl refl e

  -- ---- arguments

  -- what is given for parameters, as these want it; there may be too few or too many
  data GivenFor : List Formal → List (ℕ × Given) → Type 0 where
    all_given : GivenFor [] []
    too_few : (f : Formal) (formals : List Formal) → GivenFor (f ∷ formals) []
    too_many : (g : ℕ × Given) (gs : List (ℕ × Given)) → GivenFor [] (g ∷ gs)
    value_given : (f : Formal) (formals : List Formal) (line : ℕ) (o : Operand Expression) (gs : List (ℕ × Given)) → f.by_place ≡ false
        → GoodOperand (Typed p here) (Bare p here) o → GivenFor formals gs → GivenFor (f ∷ formals) ((line, AsValue o) ∷ gs)
    place_given : (f : Formal) (formals : List Formal) (line : ℕ) (r : Reached) (gs : List (ℕ × Given)) → f.by_place ≡ true → Written r
        → GivenFor formals gs → GivenFor (f ∷ formals) ((line, AsPlace r) ∷ gs)
    nothing_given : (f : Formal) (formals : List Formal) (line : ℕ) (gs : List (ℕ × Given)) → GivenFor (f ∷ formals) ((line, NoPlace) ∷ gs)

  abbrev pairs : ℕ → Given → List (ℕ × Given) → List (ℕ × Given)
  pairs line g rest = (line, g) ∷ rest

  by_place_ok : (f : Formal) (formals : List Formal) (a : Argument Expression Reached) (g : Given) (gs : List (ℕ × Given))
      → f.by_place ≡ true → (place : Option (Outcome Reached)) → ((r : Reached) → place ≡ Some (Ok r) → Written r) → GivenFor formals gs
      → as_place a place ≡ Ok g → GivenFor (f ∷ formals) (pairs a.line g gs)
  by_place_ok f formals a g gs k None good rest e =
      let one = went a.operand (λ o. fine NoPlace) g e in
      subst (λ h. GivenFor (f ∷ formals) (pairs a.line h gs)) (same_value one.rest) (nothing_given f formals a.line gs)
  by_place_ok f formals a g gs k (Some place) good rest e =
      let one = went place (λ r. fine (AsPlace r)) g e in
      subst (λ h. GivenFor (f ∷ formals) (pairs a.line h gs)) (same_value one.rest)
      (place_given f formals a.line one.value gs k (good one.value (ap Some one.first)) rest)

  given_ok : (formals : List Formal) (given : List (Argument Expression Reached)) (gs : List (ℕ × Given))
      → GoodArguments (Typed p here) (Bare p here) Written given → given_to formals given ≡ Ok gs → GivenFor formals gs
  given_ok [] [] gs g e = subst (GivenFor []) (same_value e) all_given
  given_ok (f ∷ formals) [] gs g e = subst (GivenFor (f ∷ formals)) (same_value e) (too_few f formals)
  given_ok [] (a ∷ given) gs g e =
      let one = went a.operand (λ o. after (given_to [] given) (λ rest. fine (pairs a.line (AsValue o) rest))) gs e in
      let two = went (given_to [] given) (λ rest. fine (pairs a.line (AsValue one.value) rest)) gs one.rest in
      subst (GivenFor []) (same_value two.rest) (too_many (a.line, AsValue one.value) two.value)
  given_ok (f ∷ formals) (a ∷ given) gs (one_more c others g h) e =
      let first = cond f.by_place (as_place a a.place) (after a.operand (λ o. fine (AsValue o))) in
      let one = went first (λ q. after (given_to formals given) (λ rest. fine (pairs a.line q rest))) gs e in
      let two = went (given_to formals given) (λ rest. fine (pairs a.line one.value rest)) gs one.rest in
      subst (GivenFor (f ∷ formals)) (same_value two.rest)
      (by_kind f.by_place refl one.value two.value one.first (given_ok formals given two.value h two.first))
    where
      by_kind : (k : Bool) → f.by_place ≡ k → (q : Given) (rest : List (ℕ × Given))
          → cond k (as_place a a.place) (after a.operand (λ o. fine (AsValue o))) ≡ Ok q → GivenFor formals rest
          → GivenFor (f ∷ formals) (pairs a.line q rest)
      by_kind true k q rest x y = by_place_ok f formals a q rest k a.place g.place y x
      by_kind false k q rest x y =
          let two = went a.operand (λ o. fine (AsValue o)) q x in
          subst (λ z. GivenFor (f ∷ formals) (pairs a.line z rest)) (same_value two.rest)
          (value_given f formals a.line two.value rest k (g.operand two.value two.first) y)

  fitted_ok : (formals : List Formal) (gs : List (ℕ × Given)) (arguments : Arguments) → length gs ≡ length formals
      → list_all (λ (f : Formal). type_exists p.forms f.of) formals ≡ true → GivenFor formals gs
      → fitted p.forms formals gs ≡ Ok arguments → arguments_fit p here formals arguments ≡ true
  fitted_ok formals gs arguments many there all_given e = subst (λ a. arguments_fit p here [] a ≡ true) (same_value e) refl
  fitted_ok formals gs arguments many there (too_few f fs) e = absurd (cc (many))
  fitted_ok formals gs arguments many there (too_many g rest) e = absurd (cc (many))
  fitted_ok formals gs arguments many there (value_given f fs line o rest k g h) e =
      let one = went (settled NilOf (wrong line) (sort_of p.forms f.of) o)
      (λ x. after (fitted p.forms fs rest) (λ others. fine (by_value x others))) arguments e in
      let two = went (fitted p.forms fs rest) (λ others. fine (by_value one.value others)) arguments one.rest in
      let typed = settled_here (wrong line) (sort_of p.forms f.of) (type_range p here b.forms_right b.first f.of (left_true _ _ there)) o
      one.value g one.first in
      let fewer : length rest ≡ length fs = cc (many) in
      subst (λ a. arguments_fit p here (f ∷ fs) a ≡ true) (same_value two.rest)
      (both_true (ap not k) (both_true (ap (is_sort (sort_of p.forms f.of)) typed.is ∙ sort_eq-refl (sort_of p.forms f.of))
      (fitted_ok fs rest two.value fewer (right_true (type_exists p.forms f.of) _ there) h two.first)))
  fitted_ok formals gs arguments many there (place_given f fs line r rest k g h) e =
      let go = λ (d : Designator). after (fitted p.forms fs rest) (λ others. fine (by_place d others)) in
      let inner = with_place (wrong line) (designator_at r) go in
      let fewer : length rest ≡ length fs = cc (many) in
      by_designator (designator_at r) refl (held (same_places p.forms f.of r.type) (wrong line) inner arguments e)
      (behind_test (same_places p.forms f.of r.type) (wrong line) inner arguments e)
      (λ others x. fitted_ok fs rest others fewer (right_true (type_exists p.forms f.of) _ there) h x)
    where
      by_designator : (o : Option Designator) → designator_at r ≡ o → same_places p.forms f.of r.type ≡ true
          → with_place (wrong line) o (λ d. after (fitted p.forms fs rest) (λ others. fine (by_place d others))) ≡ Ok arguments
          → ((others : Arguments) → fitted p.forms fs rest ≡ Ok others → arguments_fit p here fs others ≡ true)
          → arguments_fit p here (f ∷ fs) arguments ≡ true
      by_designator None q same x later = absurd (no_fault x)
      by_designator (Some d) q same x later =
          let two = went (fitted p.forms fs rest) (λ others. fine (by_place d others)) arguments x in
          let place = place_fine p here b.forms_right b.first r d g q in
          subst (λ a. arguments_fit p here (f ∷ fs) a ≡ true) (same_value two.rest)
          (both_true k (both_true place.may (both_true (ap (stands_for p f.of) place.type ∙ same) (later two.value two.first))))
  fitted_ok formals gs arguments many there (nothing_given f fs line rest) e = absurd (no_fault e)

  -- ---- calls

  pub call_ok : (line at : ℕ) (h : Heading) (x : Symbol) (m : meaning s x ≡ Some (OfRoutine h))
      (given : List (Argument Expression Reached)) (c : Call) → GoodArguments (Typed p here) (Bare p here) Written given
      → call_of s line at h given ≡ Ok c → callee p here c ≡ Some (b.routines x h m).routine
  call_ok line at h x m given c g e =
      let forms = s.known.program.forms in
      let one = went (given_to h.formals given)
      (λ gs. where_so (nat_eq (length gs) (length h.formals)) (Count line)
      (after (fitted forms h.formals gs) (λ arguments. fine (call h.number at arguments)))) c e in
      let gs = one.value in
      let inner = after (fitted forms h.formals gs) (λ arguments. fine (call h.number at arguments)) in
      let many : length gs ≡ length h.formals =
      eqb-true (length gs) (length h.formals) (held (nat_eq (length gs) (length h.formals)) (Count line) inner c one.rest) in
      let two = went (fitted forms h.formals gs) (λ arguments. fine (call h.number at arguments)) c
      (behind_test (nat_eq (length gs) (length h.formals)) (Count line) inner c one.rest) in
      let fits = fitted_ok h.formals gs two.value many (b.parameters x h m) (given_ok h.formals given gs g one.first)
      (subst (λ f. fitted f h.formals gs ≡ Ok two.value) (sym b.forms) two.first) in
      subst (λ d. callee p here d ≡ Some (b.routines x h m).routine) (same_value two.rest) (callee_is h x m at two.value fits)

  no_call_ok : (line : ℕ) (o : Option ℕ) (given : List (Argument Expression Reached)) (z : Reached) → no_call line o given ≡ Ok z → Read z
  no_call_ok line None given z e = absurd (no_fault (went (operands given) (λ os. nothing) z e).rest)
    where
      nothing : Outcome Reached
      nothing = Err (wrong line)
  no_call_ok line (Some n) given z e =
      let one = went (operands given) (λ os. where_so (nat_eq (length os) n) (Count line) (Err (wrong line))) z e in
      absurd (no_fault (behind_test (nat_eq (length one.value) n) (Count line) (Err (wrong line)) z one.rest))

  applied_ok : (line : ℕ) (x : Name) (m : Option Meaning) (given : List (Argument Expression Reached)) (z : Reached)
      → meaning s x.symbol ≡ m → GoodArguments (Typed p here) (Bare p here) Written given → named_applied s line x m given ≡ Ok z → Read z
  applied_ok line x None given z m g e = absurd (no_fault e)
  applied_ok line x (Some (OfSymbol d)) given z m g e = no_call_ok line (Some (length d.args)) given z e
  applied_ok line x (Some (OfRoutine h)) given z m g e =
      let one = went (call_of s line x.line h given) (λ c. function_result line h c) z e in
      result_read line h one.value x.symbol z m (b.routines x.symbol h m).routine
      (call_ok line x.line h x.symbol m given one.value g one.first) (b.routines x.symbol h m).result one.rest
  applied_ok line x (Some (OfType t)) given z m g e = no_call_ok line None given z e
  applied_ok line x (Some OfList) given z m g e = no_call_ok line None given z e
  applied_ok line x (Some (OfConstant n)) given z m g e = no_call_ok line None given z e
  applied_ok line x (Some (OfPlace t)) given z m g e = no_call_ok line None given z e
  applied_ok line x (Some (OfStart r)) given z m g e = no_call_ok line None given z e

  pub applied_by : (line : ℕ) (x : Name) (o : Option Function) (given : List (Argument Expression Reached)) (z : Reached)
      → GoodArguments (Typed p here) (Bare p here) Written given → applied_of s line x o given ≡ Ok z → Read z
  applied_by line x None given z g e = applied_ok line x (meaning s x.symbol) given z refl g e
  applied_by line x (Some k) given z g e = no_call_ok line (Some (arity k)) given z e
