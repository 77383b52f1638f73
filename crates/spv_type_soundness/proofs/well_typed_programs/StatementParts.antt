-- The parts of statements that the walk answers: tests, assignments, calls and the heads of FOR.
use Rattle.std.proofs.Common.{◌≡◌, ℕ, Bool, true, false, cond, ◌&&◌, not, List, [], ◌∷◌, ◌++◌, map, filter, length, Option, Some, None, nat_eq, is_some, refl, sym, ap, ◌∙◌, subst}
use Rattle.std.specs.Prelude.{Ok, Err}
use Rattle.std.specs.List.{list_any, list_all, flat_map}
use Rattle.std.specs.Cmp.Derive.{both_true}
use Rattle.std.proofs.lemmas.List.Folds.{list_any-append}
use Rattle.spv_logic.specs.declared.names.names.Symbol.{Symbol}
use Rattle.spv_logic.proofs.list.Tests.{left_true, right_true, left_false, right_false, both_false}
use Rattle.spv_logic.specs.declared.types.TypeId.{TypeId}
use Rattle.spv_logic.specs.declared.types.Sort.{Sort}
use Rattle.spv_logic.specs.declared.types.Sort.TheVariants as sort
use Rattle.spv_logic.specs.Sorts.{sort_in_range}
use Rattle.spv_logic.specs.Terms.{sort_eq}
use Rattle.spv_tree.specs.declared.syntax.names.Name.{Name}
use Rattle.spv_tree.specs.declared.syntax.lists.Several.{Several}
use Rattle.spv_tree.specs.declared.syntax.operators.Direction.{Direction as DirectionSign}
use Rattle.spv_tree.specs.syntax.Formulas as tree
use Rattle.spv_program.specs.declared.types.Item.TheVariants.{Variable, Class}
use Rattle.spv_program.specs.Types.{form_at, sort_of, target_of, type_exists}
use Rattle.spv_program.specs.Lists.{same_name}
use Rattle.spv_program.specs.Expressions.{Expression, Designator, Call, Arguments, NilOf, call}
use Rattle.spv_program.specs.Formulas.{Annotation}
use Rattle.spv_program.specs.FormulaTypes.{is_sort, same_sort, annotation_ok}
use Rattle.spv_program.specs.ExpressionTypes.{sort_of_type, expression_sort, callee, may_write}
use Rattle.spv_program.specs.Statements.{Counting, Statement, Empty, Assign, Perform, New, If, For}
use Rattle.spv_program.specs.Programs.{Routine, Program, shapes}
use Rattle.spv_program.specs.Scopes.{name_type, is_own, body_scope}
use Rattle.spv_program.specs.Uses.{Root, Own, Shared, Use, same_root, name_root, expression_uses, designator_uses, statement_uses, expression_calls, designator_calls, statement_calls}
use Rattle.spv_program.specs.Changes.{changed_by_call}
use Rattle.spv_program.specs.Typing.{may_count, is_procedure, leads_to, is_type, statement_ok}
use Rattle.spv_typing.specs.declared.faults.TypeFault.{TypeFault}
use Rattle.spv_typing.specs.declared.faults.TypeFault.TheVariants.{Count}
use Rattle.spv_typing.specs.Outcomes.{Outcome, after, where_so, if_there, wrong}
use Rattle.spv_typing.specs.Known.{Meaning, OfType, OfList, OfConstant, OfPlace, OfStart, OfSymbol, OfRoutine, Function, Heading, Scope, meaning, function}
use Rattle.spv_typing.specs.FormulaWalk.{annotation, arity}
use Rattle.spv_typing.specs.OperatorWalk.{Operand, Of, NilAt, Argument, settled, operands, argument, formula_line, formula_walk, written_place}
use Rattle.spv_typing.specs.ExpressionWalk.{Reached, Given, given_to, fitted, designator_at, call_of, no_call, expression_forms, operand, expression_of, written}
use Rattle.spv_typing.specs.StatementWalk.{Setting, own_in, items_of, changes, counted_as, first_counted, unless_counted, counting_kept, with_place, assigned, on_target, designator_line, created, arguments_of, performed, no_procedure, called_function, called, test_of, direction_of, counter_of, is_declared, counting}
use Rattle.spv_typing.specs.StatementWalk as walk
use Rattle.spv_typing.specs.TypeWalk.{all_names}
use Rattle.spv_type_soundness.proofs.well_typed.Outcomes.{fine, no_fault, same_value, went, held, behind_test}
use Rattle.spv_type_soundness.proofs.well_typed.Annotations.{annotations_are_well_typed}
use Rattle.spv_type_soundness.proofs.well_typed.Expressions.{expressions_are_well_typed, places_are_well_typed, call_typed}
use Rattle.spv_type_soundness.proofs.well_typed.Places.{same_type-refl}
use Rattle.spv_type_soundness.proofs.well_typed.Reached.{type_range}
use Rattle.spv_type_soundness.specs.well_typed_programs.Statements.{Stands}
use Rattle.spv_type_soundness.proofs.well_typed_programs.Growing.{form_more, sort_more, is_sort-more, SameCalls, no_calls, same_append, same_changes, Kept, kept, KeptPlace, kept_place, KeptCall, kept_call_at, name_same}
use Rattle.spv_type_soundness.proofs.well_typed_programs.FormulaGrowing.{kept_annotation}
use Rattle.spv_type_soundness.proofs.well_typed_programs.Keeping.{touched, Alike, none_alike, more_alike, alike_append, root_alike, class_alike, expression_alike, designator_alike, call_alike, alike_touched, Leaves, leaves_first, leaves_rest, leaves_behind, none_counted, none_of_counted}

-- ---- what a walk that was not stopped tells

pub record Passed {A : Type 0} (o : Option Symbol) (x z : A) : Type 0 where
  pub none : o ≡ None
  pub same : x ≡ z

pub unless : {A : Type 0} (line : ℕ) (o : Option Symbol) (x z : A) → unless_counted line o x ≡ Ok z → Passed o x z
unless line None x z e = record { none = refl; same = same_value e }
unless line (Some v) x z e = absurd (no_fault e)

-- with another fault the same comes out
settled_anyhow : (fault other : TypeFault) (wanted : Sort) (o : Operand Expression) (x : Expression) → settled NilOf fault wanted o ≡ Ok x
    → settled NilOf other wanted o ≡ Ok x
settled_anyhow fault other wanted (Of y u) x e = by_sort (sort_eq u wanted) e
  where
    by_sort : (b : Bool) → cond b (fine y) (Err fault) ≡ Ok x → cond b (fine y) (Err other) ≡ Ok x
    by_sort true f = f
    by_sort false f = absurd (no_fault f)
settled_anyhow fault other (sort.Ptr t) (NilAt line) x e = e
settled_anyhow fault other sort.Int (NilAt line) x e = absurd (no_fault e)
settled_anyhow fault other sort.Bool (NilAt line) x e = absurd (no_fault e)
settled_anyhow fault other sort.List (NilAt line) x e = absurd (no_fault e)
settled_anyhow fault other (sort.Whole t) (NilAt line) x e = absurd (no_fault e)
settled_anyhow fault other (sort.Class t) (NilAt line) x e = absurd (no_fault e)

pub settled_expression : (s : Scope) (fault : TypeFault) (wanted : Sort) (f : tree.Formula) (o : Operand Expression) (x : Expression)
    → operand s f ≡ Ok o → settled NilOf fault wanted o ≡ Ok x → expression_of s wanted f ≡ Ok x
settled_expression s fault wanted f o x e k =
    ap (λ r. after r (settled NilOf (wrong (formula_line f)) wanted)) e ∙ settled_anyhow fault (wrong (formula_line f)) wanted o x k

abbrev heads : Name → Expression → Expression → DirectionSign → Counting
heads w first last way = record { variable = w.symbol; direction = direction_of way; first = first; last = last }

abbrev use_of : ℕ → Root → Use
use_of line root = record { root = root; changes = true; line = line }

subst_back : {A : Type 0} (P : A → Type 0) (x y : A) → x ≡ y → P y → P x
subst_back P x y e h = subst P (sym e) h

-- the call that the walk answers is one of the heading's routine
record IsCallOf (h : Heading) (at : ℕ) (c : Call) : Type 0 where
  given : Arguments
  is : call h.number at given ≡ c

call_shape : (s : Scope) (line at : ℕ) (h : Heading) (given : List (Argument Expression Reached)) (c : Call)
    → call_of s line at h given ≡ Ok c → IsCallOf h at c
call_shape s line at h given c e =
    let forms = s.known.program.forms in
    let inner = λ (gs : List (ℕ × Given)). after (fitted forms h.formals gs) (λ arguments. fine (call h.number at arguments)) in
    let test = λ (gs : List (ℕ × Given)). nat_eq (length gs) (length h.formals) in
    let one = went (given_to h.formals given) (λ gs. where_so (test gs) (Count line) (inner gs)) c e in
    let two = went (fitted forms h.formals one.value) (λ arguments. fine (call h.number at arguments)) c
    (behind_test (test one.value) (Count line) (inner one.value) c one.rest) in
    record { given = two.value; is = same_value two.rest }

no_result : (line : ℕ) (o : Option ℕ) (given : List (Argument Expression Reached)) (z : Reached) → no_call line o given ≡ Ok z → ⊥
no_result line None given z e = no_fault (went (operands given) (λ os. nothing) z e).rest
  where
    nothing : Outcome Reached
    nothing = Err (wrong line)
no_result line (Some n) given z e =
    let one = went (operands given) (λ os. where_so (nat_eq (length os) n) (Count line) (Err (wrong line))) z e in
    no_fault (behind_test (nat_eq (length one.value) n) (Count line) (Err (wrong line)) z one.rest)

no_procedure_here : (line : ℕ) (o : Option ℕ) (given : List (Argument Expression Reached)) (z : Statement)
    → no_procedure line o given ≡ Ok z → ⊥
no_procedure_here line o given z e =
    let one = went (no_call line o given) (λ r. nothing) z e in no_result line o given one.value one.first
  where
    nothing : Outcome Statement
    nothing = Err (wrong line)

no_function_here : (line : ℕ) (x : Name) (o : Option Function) (given : List (Argument Expression Reached)) (z : Statement)
    → called_function line x o given ≡ Ok z → ⊥
no_function_here line x None given z e = no_fault e
no_function_here line x (Some b) given z e = no_procedure_here line (Some (arity b)) given z e

module _ (inside noted : Scope) (q p : Program) (here : Option Routine) (stands : Stands inside noted q p here) where
  abbrev pub at : List Symbol → Setting
  at counted = record { inside = inside; noted = noted; counted = counted }

  abbrev pub walk_own : Symbol → Bool
  walk_own = own_in inside

  abbrev pub own : Symbol → Bool
  own = is_own here

  -- the walk and typing agree on the variables that count
  pub record Agrees (counted : List Symbol) : Type 0 where
    pub each : (v : Symbol) → list_any (same_name v) counted ≡ true → walk_own v ≡ own v

  abbrev pub test : Symbol → Root → Bool
  test v = same_root (name_root own v)

  -- what uses and calls leave alone the variables that count
  pub record AllLeft (counted : List Symbol) (us : List Use) (cs : List Call) : Type 0 where
    pub each : (v : Symbol) → list_any (same_name v) counted ≡ true → Leaves p (test v) us cs

  pub record Fine (counted : List Symbol) (s : Statement) : Type 0 where
    pub ok : statement_ok p here s ≡ true
    pub left : AllLeft counted (statement_uses own s) (statement_calls s)

  -- ---- annotations and expressions

  pub annotation_fine : (f : tree.Formula) (a : Annotation) → annotation noted f ≡ Ok a
      → annotation_ok p (body_scope p here) (Some a) ≡ true
  annotation_fine f a e =
      kept_annotation noted.known.program p stands.noted_grows (body_scope p here) stands.noted_sorts stands.noted_symbols (Some a)
      (annotations_are_well_typed noted (body_scope p here) stands.noted_names f a e)

  pub annotations_fine : (f : Option tree.Formula) (a : Option Annotation) → if_there (annotation noted) f ≡ Ok a
      → annotation_ok p (body_scope p here) a ≡ true
  annotations_fine None a e = subst (λ (b : Option Annotation). annotation_ok p (body_scope p here) b ≡ true) (same_value e) refl
  annotations_fine (Some f) a e =
      let one = went (annotation noted f) (λ b. fine (Some b)) a e in
      subst (λ (b : Option Annotation). annotation_ok p (body_scope p here) b ≡ true) (same_value one.rest)
      (annotation_fine f one.value one.first)

  expression_fine : (wanted : Sort) (f : tree.Formula) (e : Expression) → sort_in_range (shapes q) wanted ≡ true
      → expression_of inside wanted f ≡ Ok e → Kept q p here stands.grows e wanted
  expression_fine wanted f e there k =
      kept q p here stands.grows e wanted (expressions_are_well_typed inside q here stands.names wanted there f e k)

  -- ---- own parts

  flat_kept : (t : Root → Bool) (cs : List Call) → list_any t (flat_map (items_of inside.known.headings) cs) ≡ false
      → list_any t (flat_map (changed_by_call q) cs) ≡ false
  flat_kept t [] h = refl
  flat_kept t (c ∷ cs) h =
      let both = sym (list_any-append t (items_of inside.known.headings c) (flat_map (items_of inside.known.headings) cs)) ∙ h in
      list_any-append t (changed_by_call q c) (flat_map (changed_by_call q) cs)
      ∙ both_false (list_any t (changed_by_call q c)) (list_any t (flat_map (changed_by_call q) cs))
      (stands.items c t (left_false (list_any t (items_of inside.known.headings c)) _ both))
      (flat_kept t cs (right_false (list_any t (items_of inside.known.headings c)) _ both))

  pub own_parts : (counted : List Symbol) → Agrees counted → (s : Statement)
      → ((v : Symbol) (agree : walk_own v ≡ own v) → Alike walk_own own v agree (statement_uses walk_own s) (statement_uses own s))
      → SameCalls q p (statement_calls s) → first_counted walk_own counted (changes inside s) ≡ None
      → AllLeft counted (statement_uses own s) (statement_calls s)
  own_parts counted a s alike same e = record {
    each = λ v k.
        let agree = a.each v k in
        let before = statement_uses walk_own s in
        let calls = statement_calls s in
        let here_calls = flat_map (items_of inside.known.headings) calls in
        let old = same_root (name_root walk_own v) in
        let none = sym (list_any-append old (map (λ u. u.root) (filter (λ u. u.changes) before)) here_calls)
        ∙ none_counted walk_own counted (changes inside s) e v k in
        let turned : list_any (test v) here_calls ≡ false =
        subst (λ b. list_any (same_root (cond b (Own v) (Shared (Variable v)))) here_calls ≡ false) agree
        (right_false (touched old before) (list_any old here_calls) none) in
        record {
          uses = sym (alike_touched walk_own own v agree before (statement_uses own s) (alike v agree))
              ∙ left_false (touched old before) (list_any old here_calls) none;
          calls = sym (ap (list_any (test v)) (same_changes q p calls same)) ∙ flat_kept (test v) calls turned;
        };
  }

  -- ---- tests

  pub record Tested (counted : List Symbol) (e : Expression) (wanted : Sort) : Type 0 where
    pub is : expression_sort p here e ≡ Some wanted
    pub left : AllLeft counted (expression_uses own e) (expression_calls e)

  if_alike : (line : ℕ) (e : Expression) (v : Symbol) (agree : walk_own v ≡ own v)
      → Alike walk_own own v agree (statement_uses walk_own (If line e Empty Empty)) (statement_uses own (If line e Empty Empty))
  if_alike line e v agree = alike_append walk_own own v agree (expression_uses walk_own e) (expression_uses own e) [] []
      (expression_alike walk_own own v agree e) (none_alike)

  if_left : (counted : List Symbol) → Agrees counted → (line : ℕ) (e : Expression) (s : Sort) → Kept q p here stands.grows e s
      → first_counted walk_own counted (changes inside (If line e Empty Empty)) ≡ None → Tested counted e s
  if_left counted a line e s k none =
      let all = own_parts counted a (If line e Empty Empty) (if_alike line e) (same_append q p (expression_calls e) [] k.calls no_calls)
      none in
      record {
        is = k.is;
        left = record
            { each = λ v h. leaves_first p (test v) (expression_uses own e) [] (expression_calls e) [] (all.each v h) };
      }

  pub test_fine : (counted : List Symbol) → Agrees counted → (line : ℕ) (f : tree.Formula) (e : Expression)
      → test_of (at counted) line f ≡ Ok e → Tested counted e sort.Bool
  test_fine counted a line f e k =
      let one = went (expression_of inside sort.Bool f) (λ x. counting_kept (at counted) line (If line x Empty Empty) x) e k in
      let two = unless line (first_counted walk_own counted (changes inside (If line one.value Empty Empty))) one.value e one.rest in
      subst (λ x. Tested counted x sort.Bool) two.same
      (if_left counted a line one.value sort.Bool (expression_fine sort.Bool f one.value refl one.first) two.none)

  pub choice_fine : (counted : List Symbol) → Agrees counted → (line : ℕ) (f : tree.Formula) (n e : Expression)
      → expression_of inside sort.Int f ≡ Ok n → counting_kept (at counted) line (If line n Empty Empty) n ≡ Ok e
      → Tested counted e sort.Int
  choice_fine counted a line f n e k h =
      let two = unless line (first_counted walk_own counted (changes inside (If line n Empty Empty))) n e h in
      subst (λ x. Tested counted x sort.Int) two.same (if_left counted a line n sort.Int (expression_fine sort.Int f n refl k) two.none)

  -- ---- assignments

  record IsPlace (d : Designator) (t : TypeId) : Type 0 where
    place : KeptPlace q p here stands.grows d t
    may : may_write here d ≡ true

  place_fine : (d : tree.Designator) (r : Reached) (place : Designator) → written inside d ≡ Ok r → designator_at r ≡ Some place
      → IsPlace place r.type
  place_fine d r place e k =
      let h = places_are_well_typed inside q here stands.names d r e place k in
      record { place = kept_place q p here stands.grows place r.type h.0; may = h.1 }

  range_of : (t : TypeId) → type_exists q.forms t ≡ true → sort_in_range (shapes q) (sort_of q.forms t) ≡ true
  range_of t e = type_range q here stands.grows.types.forms_right stands.grows.types.first t e

  assigned_at : (counted : List Symbol) → Agrees counted
      → (line : ℕ) (d : tree.Designator) (f : tree.Formula) (r : Reached) (o : Operand Expression) (e : Expression) (z : Statement)
      → written inside d ≡ Ok r → operand inside f ≡ Ok o → settled NilOf (wrong line) (sort_of inside.known.program.forms r.type) o ≡ Ok e
      → (place : Option Designator) → designator_at r ≡ place
      → with_place line place (λ x. counting_kept (at counted) line (Assign x e) (Assign x e)) ≡ Ok z → Fine counted z
  assigned_at counted a line d f r o e z w k s None n h = absurd (no_fault h)
  assigned_at counted a line d f r o e z w k s (Some place) n h =
      let two = unless line (first_counted walk_own counted (changes inside (Assign place e))) (Assign place e) z h in
      let target = place_fine d r place w n in
      let settled_here = subst (λ forms. settled NilOf (wrong line) (sort_of forms r.type) o ≡ Ok e) (sym stands.names.forms) s in
      let x = expression_fine (sort_of q.forms r.type) f e (range_of r.type target.place.there)
      (settled_expression inside (wrong line) (sort_of q.forms r.type) f o e k settled_here) in
      subst (Fine counted) two.same (record {
        ok = both_true target.may (ap (λ t. same_sort (sort_of_type p t) (expression_sort p here e)) target.place.is
            ∙ (ap (is_sort (sort_of p.forms r.type)) x.is ∙ is_sort-more q p stands.grows.types r.type target.place.there));
        left = own_parts counted a (Assign place e)
            (λ v agree. alike_append walk_own own v agree (designator_uses walk_own true place) (designator_uses own true place)
            (expression_uses walk_own e) (expression_uses own e)
            (designator_alike walk_own own v agree true place) (expression_alike walk_own own v agree e))
            (same_append q p (designator_calls place) (expression_calls e) target.place.calls x.calls) two.none;
      })

  pub assigned_fine : (counted : List Symbol) → Agrees counted → (line : ℕ) (d : tree.Designator) (f : tree.Formula) (z : Statement)
      → assigned (at counted) line d f ≡ Ok z → Fine counted z
  assigned_fine counted a line d f z k =
      let forms = inside.known.program.forms in
      let last = λ (r : Reached) (e : Expression).
      with_place line (designator_at r) (λ x. counting_kept (at counted) line (Assign x e) (Assign x e)) in
      let one = went (written inside d)
      (λ r. after (operand inside f) (λ o. after (settled NilOf (wrong line) (sort_of forms r.type) o) (last r))) z k in
      let two = went (operand inside f) (λ o. after (settled NilOf (wrong line) (sort_of forms one.value.type) o) (last one.value)) z
      one.rest in
      let three = went (settled NilOf (wrong line) (sort_of forms one.value.type) two.value) (last one.value) z two.rest in
      assigned_at counted a line d f one.value two.value three.value z one.first two.first three.first (designator_at one.value) refl
      three.rest

  -- ---- NEW

  created_at : (counted : List Symbol) → Agrees counted → (line : ℕ) (d : tree.Designator) (r : Reached) (z : Statement)
      → written inside d ≡ Ok r
      → (t : TypeId) → target_of (form_at q.forms r.type.0) ≡ Some t
      → (place : Option Designator) → designator_at r ≡ place
      → with_place line place (λ x. counting_kept (at counted) line (New line x t) (New line x t)) ≡ Ok z → Fine counted z
  created_at counted a line d r z w t k None n h = absurd (no_fault h)
  created_at counted a line d r z w t k (Some place) n h =
      let two = unless line (first_counted walk_own counted (changes inside (New line place t))) (New line place t) z h in
      let target = place_fine d r place w n in
      let cell : Use = record { root = Shared (Class t); changes = true; line = line } in
      subst (Fine counted) two.same (record {
        ok = both_true target.may (ap (leads_to p t) target.place.is
            ∙ (ap (λ f. is_type t (target_of f)) (form_more q p stands.grows.types r.type target.place.there)
            ∙ (ap (is_type t) k ∙ same_type-refl t)));
        left = own_parts counted a (New line place t)
            (λ v agree. alike_append walk_own own v agree (designator_uses walk_own true place) (designator_uses own true place)
            (cell ∷ []) (cell ∷ [])
            (designator_alike walk_own own v agree true place)
            (more_alike cell cell [] [] refl (class_alike walk_own own v agree t) none_alike))
            target.place.calls two.none;
      })

  pub created_fine : (counted : List Symbol) → Agrees counted → (line : ℕ) (d : tree.Designator) (z : Statement)
      → created (at counted) line d ≡ Ok z → Fine counted z
  created_fine counted a line d z k =
      let forms = inside.known.program.forms in
      let last = λ (r : Reached) (t : TypeId).
      with_place line (designator_at r) (λ x. counting_kept (at counted) line (New line x t) (New line x t)) in
      let one = went (written inside d) (λ r. on_target (designator_line d) (target_of (form_at forms r.type.0)) (last r)) z k in
      by_target one.value one.first (target_of (form_at forms one.value.type.0))
      (ap (λ f. target_of (form_at f one.value.type.0)) stands.names.forms) one.rest
    where
      by_target : (r : Reached) → written inside d ≡ Ok r → (o : Option TypeId) → target_of (form_at q.forms r.type.0) ≡ o
          → on_target (designator_line d) o
          (λ t. with_place line (designator_at r) (λ x. counting_kept (at counted) line (New line x t) (New line x t))) ≡ Ok z
          → Fine counted z
      by_target r w None n h = absurd (no_fault h)
      by_target r w (Some t) n h = created_at counted a line d r z w t n (designator_at r) refl h

  -- ---- calls

  abbrev as_argument : tree.Formula → Argument Expression Reached
  as_argument f = argument f (formula_walk (expression_forms inside) f) (written_place (expression_forms inside) f)

  performed_fine : (counted : List Symbol) → Agrees counted → (line : ℕ) (x : Name) (h : Heading)
      → meaning inside x.symbol ≡ Some (OfRoutine h) → (fs : List tree.Formula) (z : Statement)
      → after (call_of inside line x.line h (map as_argument fs)) (performed (at counted) line h) ≡ Ok z → Fine counted z
  performed_fine counted a line x h m fs z e =
      let one = went (call_of inside line x.line h (map as_argument fs)) (performed (at counted) line h) z e in
      let c = one.value in
      let shape = call_shape inside line x.line h (map as_argument fs) c one.first in
      let next = counting_kept (at counted) line (Perform c) (Perform c) in
      let plain = held (not (is_some h.result)) (wrong line) next z one.rest in
      let two = unless line (first_counted walk_own counted (changes inside (Perform c))) (Perform c) z
      (behind_test (not (is_some h.result)) (wrong line) next z one.rest) in
      let is = stands.names.routines x.symbol h m in
      let typed = call_typed inside q here stands.names line x.line h x.symbol m fs c one.first in
      let there = subst (λ formals. list_all (λ f. type_exists q.forms f.of) formals ≡ true) (sym is.formals)
      (stands.names.parameters x.symbol h m) in
      let k : KeptCall q p here stands.grows c is.routine = subst (λ d. KeptCall q p here stands.grows d is.routine) shape.is
      (kept_call_at q p here stands.grows h.number x.line shape.given is.routine (stands.routines x.symbol h m) there
      (subst (λ d. callee q here d ≡ Some is.routine) (sym shape.is) typed)) in
      subst (Fine counted) two.same (record {
        ok = ap is_procedure k.is ∙ (ap (λ o. not (is_some o)) is.result ∙ plain);
        left = own_parts counted a (Perform c) (λ v agree. call_alike walk_own own v agree c) k.calls two.none;
      })

  pub called_fine : (counted : List Symbol) → Agrees counted
      → (line : ℕ) (x : Name) (m : Option Meaning) (fs : List tree.Formula) (z : Statement) → meaning inside x.symbol ≡ m
      → called (at counted) line x m (map as_argument fs) ≡ Ok z → Fine counted z
  called_fine counted a line x None fs z m e = absurd (no_function_here line x (function inside x.symbol) (map as_argument fs) z e)
  called_fine counted a line x (Some (OfRoutine h)) fs z m e = performed_fine counted a line x h m fs z e
  called_fine counted a line x (Some (OfSymbol d)) fs z m e =
      absurd (no_procedure_here line (Some (length d.args)) (map as_argument fs) z e)
  called_fine counted a line x (Some (OfType t)) fs z m e = absurd (no_procedure_here line None (map as_argument fs) z e)
  called_fine counted a line x (Some OfList) fs z m e = absurd (no_procedure_here line None (map as_argument fs) z e)
  called_fine counted a line x (Some (OfConstant n)) fs z m e = absurd (no_procedure_here line None (map as_argument fs) z e)
  called_fine counted a line x (Some (OfPlace t)) fs z m e = absurd (no_procedure_here line None (map as_argument fs) z e)
  called_fine counted a line x (Some (OfStart r)) fs z m e = absurd (no_procedure_here line None (map as_argument fs) z e)

  pub call_fine : (counted : List Symbol) → Agrees counted → (line : ℕ) (x : Name) (given : Option (Several tree.Formula)) (z : Statement)
      → called (at counted) line x (meaning inside x.symbol) (arguments_of inside given) ≡ Ok z → Fine counted z
  call_fine counted a line x None z e = called_fine counted a line x (meaning inside x.symbol) [] z refl e
  call_fine counted a line x (Some fs) z e = called_fine counted a line x (meaning inside x.symbol) (all_names fs) z refl e

  -- ---- the head of a FOR

  pub record Heads (counted : List Symbol) (count : Counting) : Type 0 where
    pub may : may_count here count.variable ≡ true
    pub variable : is_sort sort.Int (sort_of_type p (name_type p here count.variable)) ≡ true
    pub first : Tested counted count.first sort.Int
    pub last : Tested counted count.last sort.Int
    pub agree : walk_own count.variable ≡ own count.variable
    pub other : (v : Symbol) → list_any (same_name v) counted ≡ true → test v (name_root own count.variable) ≡ false

  record Counter (v w : Name) : Type 0 where
    same : v ≡ w
    type : TypeId
    place : meaning inside v.symbol ≡ Some (OfPlace type)
    may : walk.may_count inside v.symbol ≡ true
    number : sort_eq (sort_of inside.known.program.forms type) sort.Int ≡ true

  counter_told : (v w : Name) (m : Option Meaning) → meaning inside v.symbol ≡ m → counter_of inside v m ≡ Ok w → Counter v w
  counter_told v w None k e = absurd (no_fault e)
  counter_told v w (Some (OfPlace t)) k e =
      let b = walk.may_count inside v.symbol && sort_eq (sort_of inside.known.program.forms t) sort.Int in
      let both = held b (wrong v.line) (fine v) w e in
      record {
        same = same_value (behind_test b (wrong v.line) (fine v) w e);
        type = t;
        place = k;
        may = left_true _ _ both;
        number = right_true (walk.may_count inside v.symbol) _ both;
      }
  counter_told v w (Some (OfType t)) k e = absurd (no_fault e)
  counter_told v w (Some OfList) k e = absurd (no_fault e)
  counter_told v w (Some (OfConstant n)) k e = absurd (no_fault e)
  counter_told v w (Some (OfStart r)) k e = absurd (no_fault e)
  counter_told v w (Some (OfSymbol d)) k e = absurd (no_fault e)
  counter_told v w (Some (OfRoutine h)) k e = absurd (no_fault e)

  counting_at : (counted : List Symbol) → Agrees counted
      → (line : ℕ) (v w : Name) (from to : tree.Formula) (one two : Operand Expression) (first last : Expression) (way : DirectionSign)
      (count : Counting)
      → operand inside from ≡ Ok one → operand inside to ≡ Ok two → Counter v w
      → settled NilOf (wrong (formula_line from)) sort.Int one ≡ Ok first → settled NilOf (wrong (formula_line to)) sort.Int two ≡ Ok last
      → counted_as walk_own counted (name_root walk_own w.symbol) ≡ None
      → first_counted walk_own counted (changes inside (For line None (heads w first last way) Empty)) ≡ None
      → heads w first last way ≡ count → Heads counted count
  counting_at counted a line v w from to one two first last way count f t c s u other none is =
      let start = expression_fine sort.Int from first refl
      (settled_expression inside (wrong (formula_line from)) sort.Int from one first f s) in
      let end = expression_fine sort.Int to last refl (settled_expression inside (wrong (formula_line to)) sort.Int to two last t u) in
      let place : meaning inside w.symbol ≡ Some (OfPlace c.type) =
      subst (λ (x : Name). meaning inside x.symbol ≡ Some (OfPlace c.type)) c.same c.place in
      let may : walk.may_count inside w.symbol ≡ true = subst (λ (x : Name). walk.may_count inside x.symbol ≡ true) c.same c.may in
      let there = stands.names.place_types w.symbol c.type place in
      let agree = stands.own w.symbol c.type place in
      let st = For line None (heads w first last way) Empty in
      let counter = λ (own : Symbol → Bool). use_of line (name_root own w.symbol) in
      let all = own_parts counted a st
      (λ x h. more_alike (counter walk_own) (counter own) (expression_uses walk_own first ++ (expression_uses walk_own last ++ []))
      (expression_uses own first ++ (expression_uses own last ++ [])) refl (root_alike walk_own own x h w.symbol)
      (alike_append walk_own own x h (expression_uses walk_own first) (expression_uses own first) (expression_uses walk_own last ++ [])
      (expression_uses own last ++ []) (expression_alike walk_own own x h first)
      (alike_append walk_own own x h (expression_uses walk_own last) (expression_uses own last) [] []
      (expression_alike walk_own own x h last) none_alike)))
      (same_append q p (expression_calls first) (expression_calls last ++ []) start.calls
      (same_append q p (expression_calls last) [] end.calls no_calls)) none in
      let ends = λ (x : Symbol) (h : list_any (same_name x) counted ≡ true).
      leaves_behind p (test x) (counter own) (expression_uses own first ++ (expression_uses own last ++ []))
      (expression_calls first ++ (expression_calls last ++ [])) (all.each x h) in
      subst (Heads counted) is (record {
        may = stands.counts w.symbol c.type place may;
        variable = ap (λ o. is_sort sort.Int (sort_of_type p o))
            (name_same q p here stands.grows w.symbol ∙ stands.names.places w.symbol c.type place)
            ∙ (ap (λ r. is_sort sort.Int (Some r)) (sort_more q p stands.grows.types c.type there)
            ∙ (ap (λ forms. is_sort sort.Int (Some (sort_of forms c.type))) stands.names.forms ∙ c.number));
        first = record {
          is = start.is;
          left =
              record {
                each = λ x h. leaves_first p (test x) (expression_uses own first) (expression_uses own last ++ [])
                    (expression_calls first) (expression_calls last ++ []) (ends x h);
              };
        };
        last = record {
          is = end.is;
          left = record {
            each = λ x h. leaves_first p (test x) (expression_uses own last) [] (expression_calls last) []
                (leaves_rest p (test x) (expression_uses own first) (expression_uses own last ++ []) (expression_calls first)
                (expression_calls last ++ []) (ends x h));
          };
        };
        agree = agree;
        other = λ x h. sym (root_alike walk_own own x (a.each x h) w.symbol)
            ∙ none_of_counted walk_own counted (name_root walk_own w.symbol) other x h;
      })

  pub counting_fine : (counted : List Symbol) → Agrees counted
      → (line : ℕ) (x : Name) (from : tree.Formula) (way : DirectionSign) (to : tree.Formula) (count : Counting)
      → counting (at counted) line x from way to ≡ Ok count → Heads counted count
  counting_fine counted a line x from way to count e =
      let kept_as = λ (first last : Expression) (u : Name).
      counting_kept (at counted) line (For line None (heads u first last way) Empty) (heads u first last way) in
      let last_step = λ (first last : Expression) (w : Name).
      after (unless_counted line (counted_as walk_own counted (name_root walk_own w.symbol)) w) (kept_as first last) in
      let settle_to = λ (b : Operand Expression) (w : Name) (first : Expression).
      after (settled NilOf (wrong (formula_line to)) sort.Int b) (λ last. last_step first last w) in
      let settle_from = λ (o b : Operand Expression) (w : Name).
      after (settled NilOf (wrong (formula_line from)) sort.Int o) (settle_to b w) in
      let count_with = λ (v : Name) (o b : Operand Expression). after (counter_of inside v (meaning inside v.symbol)) (settle_from o b) in
      let one = went (is_declared x (meaning inside x.symbol))
      (λ v. after (operand inside from) (λ o. after (operand inside to) (count_with v o))) count e in
      let two = went (operand inside from) (λ o. after (operand inside to) (count_with one.value o)) count one.rest in
      let three = went (operand inside to) (count_with one.value two.value) count two.rest in
      let four = went (counter_of inside one.value (meaning inside one.value.symbol)) (settle_from two.value three.value) count
      three.rest in
      let five = went (settled NilOf (wrong (formula_line from)) sort.Int two.value) (settle_to three.value four.value) count four.rest in
      let six = went (settled NilOf (wrong (formula_line to)) sort.Int three.value) (λ last. last_step five.value last four.value) count
      five.rest in
      let seven = went (unless_counted line (counted_as walk_own counted (name_root walk_own four.value.symbol)) four.value)
      (kept_as five.value six.value) count six.rest in
      let apart = unless line (counted_as walk_own counted (name_root walk_own four.value.symbol)) four.value seven.value seven.first in
      let rest : kept_as five.value six.value four.value ≡ Ok count =
      subst_back (λ u. kept_as five.value six.value u ≡ Ok count) four.value seven.value apart.same seven.rest in
      let eight = unless line (first_counted walk_own counted
      (changes inside (For line None (heads four.value five.value six.value way) Empty))) (heads four.value five.value six.value way)
      count rest in
      counting_at counted a line one.value four.value from to two.value three.value five.value six.value way count two.first three.first
      (counter_told one.value four.value (meaning inside one.value.symbol) refl four.first) five.first six.first apart.none eight.none
      eight.same
