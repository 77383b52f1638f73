-- What statements may change are variables and classes whose types are there.
use Rattle.std.proofs.Common.{◌≡◌, ◌+◌, ℕ, suc, arith, nat_lt, Bool, true, false, cond, ◌&&◌, nat_eq, length, List, [], ◌∷◌, ◌++◌, map, filter, refl, sym, subst, Option, Some, None, if◌then◌else◌}
use Rattle.std.specs.List.{list_all, list_any}
use Rattle.std.specs.Cmp.Derive.{both_true}
use Rattle.std.proofs.lemmas.Bool.Decides.{nat_tests}
use Rattle.spv_logic.proofs.list.Tests.{left_true, right_true}
use Rattle.spv_logic.specs.declared.names.names.Symbol.{Symbol}
use Rattle.spv_logic.specs.declared.types.TypeId.{TypeId}
use Rattle.spv_logic.specs.declared.types.Shape.{Shape}
use Rattle.spv_logic.specs.declared.operators.Head.{Head}
use Rattle.spv_logic.specs.declared.operators.Head.TheVariants as head
use Rattle.spv_logic.specs.Sorts.{head_in_range}
use Rattle.spv_logic.specs.Substitution.{is_variable}
use Rattle.spv_term.specs.Arena.{Arena}
use Rattle.spv_program.specs.declared.types.Item.TheVariants.{Variable, Class}
use Rattle.spv_program.specs.declared.types.TypeForm.{TypeForm}
use Rattle.spv_program.specs.Types.{same_type, sort_of, type_exists, forms_ok}
use Rattle.spv_program.specs.Statements.{Statement}
use Rattle.spv_program.specs.Programs.{Formal, Routine, Program, shapes, routine_in}
use Rattle.spv_program.specs.Scopes.{result_name, own_names_in}
use Rattle.spv_program.specs.Uses.{Root, Own, Shared, same_root}
use Rattle.spv_program.specs.Changes.{changed_roots, changed_heads, types_once, types_from, types_of_names, all_types, all_roots}
use Rattle.spv_program.specs.Typing.{types_exist, result_ok, declarations_ok}
use Rattle.spv_expression_terms.specs.makeable_terms.Laws.{heading_ok_in}
use Rattle.spv_expression_terms.proofs.makeable_terms.Ranges.{shape_there, sort_there}
use Rattle.spv_flow_parts.specs.declared.bodies.Body.{Body}
use Rattle.spv_flow_parts.specs.Standing.{Stands, AllRenamed}

-- ---- lists

all_joined : {X : Type 0} (test : X → Bool) (xs ys : List X) → list_all test xs ≡ true → list_all test ys ≡ true → list_all test (xs ++ ys) ≡ true
all_joined test [] ys h g = g
all_joined test (x ∷ xs) ys h g = both_true (left_true (test x) (list_all test xs) h) (all_joined test xs ys (right_true (test x) (list_all test xs) h) g)

module _ (p : Program) (d : declarations_ok p ≡ true) where
  forms : forms_ok p.forms ≡ true
  forms = left_true (forms_ok p.forms) _ d

  types : types_exist p p.types ≡ true
  types =
      let titles = right_true (forms_ok p.forms) _ d in
      left_true (types_exist p p.types) _ (right_true (nat_eq (length p.titles) (length p.forms)) _ titles)

  variables : types_exist p p.variables ≡ true
  variables =
      let titles = right_true (forms_ok p.forms) _ d in
      let names = right_true (nat_eq (length p.titles) (length p.forms)) _ titles in
      left_true (types_exist p p.variables) _ (right_true (types_exist p p.types) _ names)

  -- ---- own names

  formals_there : (formals : List Formal) → list_all (λ f. type_exists p.forms f.of) formals ≡ true → types_exist p (map (λ f. (f.name, f.of)) formals) ≡ true
  formals_there [] h = refl
  formals_there (f ∷ formals) h =
      both_true (left_true (type_exists p.forms f.of) (list_all (λ f. type_exists p.forms f.of) formals) h)
      (formals_there formals (right_true (type_exists p.forms f.of) (list_all (λ f. type_exists p.forms f.of) formals) h))

  result_there : (name : Symbol) (result : Option TypeId) → result_ok p result ≡ true → types_exist p (result_name name result) ≡ true
  result_there name None h = refl
  result_there name (Some t) h = both_true (left_true (type_exists p.forms t) _ h) refl

  own_there : (here : Option Routine) → heading_ok_in p here ≡ true → types_exist p (own_names_in here) ≡ true
  own_there None h = refl
  own_there (Some r) h =
      let h1 = right_true (list_all (λ f. type_exists p.forms f.of) r.formals) _ h in
      let h2 = right_true (result_ok p r.result) _ h1 in
      all_joined (λ n. type_exists p.forms n.1) (map (λ f. (f.name, f.of)) r.formals) (result_name r.name r.result ++ r.locals)
      (formals_there r.formals (left_true (list_all (λ f. type_exists p.forms f.of) r.formals) _ h))
      (all_joined (λ n. type_exists p.forms n.1) (result_name r.name r.result) r.locals (result_there r.name r.result (left_true (result_ok p r.result) _ h1)) (left_true (types_exist p r.locals) _ h2))

  -- ---- rows

  abbrev is_there : Head → Bool
  is_there h = is_variable h && head_in_range (shapes p) h

  abbrev row_there : Root × Head → Bool
  row_there r = is_there r.1

  names_there : (root : Symbol → Root) (names : List (Symbol × TypeId)) → types_exist p names ≡ true → list_all row_there (map (λ n. (root n.0, head.Var n.0 (sort_of p.forms n.1) 0)) names) ≡ true
  names_there root [] h = refl
  names_there root (n ∷ names) h =
      both_true (sort_there p.forms n.1 forms (left_true (type_exists p.forms n.1) (types_exist p names) h)) (names_there root names (right_true (type_exists p.forms n.1) (types_exist p names) h))

  once_there : (seen ts : List TypeId) → list_all (type_exists p.forms) ts ≡ true → list_all (type_exists p.forms) (types_once seen ts) ≡ true
  once_there seen [] h = refl
  once_there seen (t ∷ ts) h = by (list_any (same_type t) seen) (once_there seen ts others) (once_there (t ∷ seen) ts others)
    where
      others : list_all (type_exists p.forms) ts ≡ true
      others = right_true (type_exists p.forms t) (list_all (type_exists p.forms) ts) h

      by : (b : Bool) → list_all (type_exists p.forms) (types_once seen ts) ≡ true → list_all (type_exists p.forms) (types_once (t ∷ seen) ts) ≡ true
          → list_all (type_exists p.forms) (if b then types_once seen ts else t ∷ types_once (t ∷ seen) ts) ≡ true
      by true x y = x
      by false x y = both_true (left_true (type_exists p.forms t) (list_all (type_exists p.forms) ts) h) y

  named_there : (names : List (Symbol × TypeId)) → types_exist p names ≡ true → list_all (type_exists p.forms) (types_of_names names) ≡ true
  named_there [] h = refl
  named_there (n ∷ names) h =
      both_true (left_true (type_exists p.forms n.1) (types_exist p names) h) (named_there names (right_true (type_exists p.forms n.1) (types_exist p names) h))

  -- the types with the last forms, of which the first has this number
  numbered_there : (n : ℕ) (fs : List TypeForm) → n + length fs ≡ length p.forms → list_all (type_exists p.forms) (types_from n fs) ≡ true
  numbered_there n [] e = refl
  numbered_there n (f ∷ fs) e =
      let below : nat_lt n (length p.forms) ≡ true = grind (arith, nat_tests) in
      both_true below (numbered_there (suc n) fs (omega (arith, e)))

  all_there : list_all (type_exists p.forms) (all_types p) ≡ true
  all_there =
      let whole : 0 + length p.forms ≡ length p.forms = grind (arith) in
      once_there [] (types_of_names p.types ++ types_from 0 p.forms)
      (all_joined (type_exists p.forms) (types_of_names p.types) (types_from 0 p.forms) (named_there p.types types) (numbered_there 0 p.forms whole))

  classes_there : (ts : List TypeId) → list_all (type_exists p.forms) ts ≡ true → list_all row_there (map (λ t. (Shared (Class t), head.ClassVar t 0)) ts) ≡ true
  classes_there [] h = refl
  classes_there (t ∷ ts) h =
      both_true (shape_there p.forms t (left_true (type_exists p.forms t) (list_all (type_exists p.forms) ts) h)) (classes_there ts (right_true (type_exists p.forms t) (list_all (type_exists p.forms) ts) h))

  rows_there : (here : Option Routine) → heading_ok_in p here ≡ true → list_all row_there (all_roots p here) ≡ true
  rows_there here h =
      all_joined row_there (map (λ n. (Own n.0, head.Var n.0 (sort_of p.forms n.1) 0)) (own_names_in here)) _ (names_there Own (own_names_in here) (own_there here h))
      (all_joined row_there (map (λ n. (Shared (Variable n.0), head.Var n.0 (sort_of p.forms n.1) 0)) p.variables) _ (names_there (λ x. Shared (Variable x)) p.variables variables)
      (classes_there (all_types p) all_there))

  -- ---- those that are changed

  kept_there : (test : Root → Bool) (rows : List (Root × Head)) → list_all row_there rows ≡ true → AllRenamed (shapes p) (map (λ r. r.1) (filter (λ r. test r.0) rows))
  kept_there test [] h = tt
  kept_there test (r ∷ rows) h = by (test r.0) (kept_there test rows (right_true (row_there r) (list_all row_there rows) h))
    where
      there : row_there r ≡ true
      there = left_true (row_there r) (list_all row_there rows) h

      by : (b : Bool) → AllRenamed (shapes p) (map (λ r. r.1) (filter (λ r. test r.0) rows)) → AllRenamed (shapes p) (map (λ r. r.1) (cond b (r ∷ filter (λ r. test r.0) rows) (filter (λ r. test r.0) rows)))
      by true others = ((left_true (is_variable r.1) (head_in_range (shapes p) r.1) there, right_true (is_variable r.1) (head_in_range (shapes p) r.1) there), others)
      by false others = others

pub changed_there : (p : Program) (body : Body) (a : Arena) (s : Statement) → Stands p body a → AllRenamed a.shapes (changed_heads p (routine_in p body.here) s)
changed_there p body a s h =
    subst (λ (l : List Shape). AllRenamed l (changed_heads p (routine_in p body.here) s)) (sym h.shapes)
    (kept_there p h.declarations (λ q. list_any (same_root q) (changed_roots p (routine_in p body.here) s)) (all_roots p (routine_in p body.here)) (rows_there p h.declarations (routine_in p body.here) h.heading))
