-- The sorts of the names that annotations and expressions see are there.
use Rattle.std.proofs.Common.{◌≡◌, Bool, true, false, ◌&&◌, ◌||◌, not, nat_eq, length, List, [], ◌∷◌, ◌++◌, map, refl, sym, ap, ◌∙◌, Option, Some, None, option_map}
use Rattle.std.specs.List.{list_all, list_any}
use Rattle.std.specs.Cmp.Derive.{both_true}
use Rattle.std.proofs.lemmas.Bool.{false≢true}
use Rattle.spv_logic.proofs.list.Tests.{left_true, right_true}
use Rattle.spv_logic.specs.declared.names.names.Symbol.{Symbol}
use Rattle.spv_logic.specs.declared.types.TypeId.{TypeId}
use Rattle.spv_logic.specs.declared.types.Sort.{Sort}
use Rattle.spv_logic.specs.Sorts.{sort_in_range}
use Rattle.spv_program.specs.declared.types.Item.{Item}
use Rattle.spv_program.specs.declared.types.Item.TheVariants.{Variable, Class}
use Rattle.spv_program.specs.Lists.{found, first_of, all_differ}
use Rattle.spv_program.specs.Types.{sort_of, type_exists, forms_ok, same_item}
use Rattle.spv_program.specs.Programs.{Formal, GlobalItem, Routine, Program, shapes, lists}
use Rattle.spv_program.specs.Scopes.{Scope, result_name, own_names, own_names_in, name_type, with_sorts_of, sort_or_int, item_sort, initial_names, body_scope, parameters_of, entry_scope, exit_scope}
use Rattle.spv_program.specs.Typing.{item_exists, may_be_initial, types_exist, result_ok, heading_ok, declarations_ok}
use Rattle.spv_program.proofs.ExpressionSorting.{same_types}
use Rattle.spv_expression_terms.specs.makeable_terms.Laws.{SortsAreThere, heading_ok_in}
use Rattle.spv_expression_terms.proofs.makeable_terms.Ranges.{shape_there, sort_there, found_all}

-- ---- lists

all_joined : {X : Type 0} (test : X → Bool) (xs ys : List X) → list_all test xs ≡ true → list_all test ys ≡ true → list_all test (xs ++ ys) ≡ true
all_joined test [] ys h g = g
all_joined test (x ∷ xs) ys h g = both_true (left_true (test x) (list_all test xs) h) (all_joined test xs ys (right_true (test x) (list_all test xs) h) g)

-- what an item of a list that passes has
any_of_all : {X : Type 0} (test other : X → Bool) (b : Bool) (xs : List X) → list_all test xs ≡ true → list_any other xs ≡ true → ((x : X) → test x ≡ true → other x ≡ true → b ≡ true) → b ≡ true
any_of_all test other b [] h g go = absurd (false≢true g)
any_of_all test other b (x ∷ xs) h g go = by_case (other x) refl g (λ g. any_of_all test other b xs (right_true (test x) (list_all test xs) h) g go)
  where
    by_case : (o : Bool) → other x ≡ o → (o || list_any other xs) ≡ true → (list_any other xs ≡ true → b ≡ true) → b ≡ true
    by_case true e g later = go x (left_true (test x) (list_all test xs) h) e
    by_case false e g later = later g

-- ---- the parts of right programs and headings

module _ (p : Program) where
  abbrev there : Sort → Bool
  there s = sort_in_range (shapes p) s

  abbrev all_there : Scope → Type 0
  all_there names = list_all (λ n. there n.1) names ≡ true

  scope_there : (names : Scope) → all_there names → SortsAreThere p names
  scope_there names h = record { each = λ x s e. found_all there names x s h e }

  sorted_there : (names : List (Symbol × TypeId)) → forms_ok p.forms ≡ true → types_exist p names ≡ true → all_there (with_sorts_of p names)
  sorted_there [] forms h = refl
  sorted_there (n ∷ names) forms h =
      both_true (sort_there p.forms n.1 forms (left_true (type_exists p.forms n.1) (types_exist p names) h))
      (sorted_there names forms (right_true (type_exists p.forms n.1) (types_exist p names) h))

  -- the types of the variables that something sees
  record TypesAreThere (here : Option Routine) : Type 0 where
    forms : forms_ok p.forms ≡ true
    variables : types_exist p p.variables ≡ true
    own : types_exist p (own_names_in here) ≡ true

  variable_type : (here : Option Routine) (x : Symbol) (t : TypeId) → TypesAreThere here → name_type p here x ≡ Some t → type_exists p.forms t ≡ true
  variable_type here x t h e = by_own (found (own_names_in here) x) refl e
    where
      by_own : (o : Option TypeId) → found (own_names_in here) x ≡ o → first_of o (found p.variables x) ≡ Some t → type_exists p.forms t ≡ true
      by_own None is e = found_all (type_exists p.forms) p.variables x t h.variables e
      by_own (Some u) is e = found_all (type_exists p.forms) (own_names_in here) x t h.own (is ∙ e)

  -- the sort of what an INITIAL name stands for
  item_there : (here : Option Routine) (x : Symbol) → TypesAreThere here → there (item_sort p here (Variable x)) ≡ true
  item_there here x h = by_type (name_type p here x) refl
    where
      by_type : (o : Option TypeId) → name_type p here x ≡ o → there (sort_or_int (option_map (sort_of p.forms) o)) ≡ true
      by_type None e = refl
      by_type (Some t) e = sort_there p.forms t h.forms (variable_type here x t h e)

  listed_there : (globals : List GlobalItem) (t : TypeId) → list_all (λ g. item_exists p g.item) globals ≡ true → lists globals (Class t) true ≡ true → type_exists p.forms t ≡ true
  listed_there globals t h g =
      any_of_all (λ g. item_exists p g.item) (λ g. same_item g.item (Class t) && (g.is_var || not true)) (type_exists p.forms t) globals h g
      (λ g exists same. by_item g.item exists (left_true (same_item g.item (Class t)) (g.is_var || not true) same))
    where
      by_item : (i : Item) → item_exists p i ≡ true → same_item i (Class t) ≡ true → type_exists p.forms t ≡ true
      by_item (Variable x) exists same = absurd (false≢true same)
      by_item (Class u) exists same = ap (type_exists p.forms) (sym (same_types u t same)) ∙ exists

  initial_there : (r : Routine) (items : List (Symbol × Item)) → TypesAreThere (Some r) → list_all (λ g. item_exists p g.item) r.globals ≡ true → list_all (λ i. may_be_initial r i.1) items ≡ true
      → all_there (map (λ i. (i.0, item_sort p (Some r) i.1)) items)
  initial_there r [] h globals g = refl
  initial_there r (i ∷ items) h globals g =
      both_true (by_item i.1 (left_true (may_be_initial r i.1) (list_all (λ i. may_be_initial r i.1) items) g))
      (initial_there r items h globals (right_true (may_be_initial r i.1) (list_all (λ i. may_be_initial r i.1) items) g))
    where
      by_item : (i : Item) → may_be_initial r i ≡ true → there (item_sort p (Some r) i) ≡ true
      by_item (Variable x) m = item_there (Some r) x h
      by_item (Class t) m = shape_there p.forms t (listed_there r.globals t globals m)

  -- ---- headings

  formals_there : (formals : List Formal) → list_all (λ f. type_exists p.forms f.of) formals ≡ true → types_exist p (map (λ f. (f.name, f.of)) formals) ≡ true
  formals_there [] h = refl
  formals_there (f ∷ formals) h =
      both_true (left_true (type_exists p.forms f.of) (list_all (λ f. type_exists p.forms f.of) formals) h)
      (formals_there formals (right_true (type_exists p.forms f.of) (list_all (λ f. type_exists p.forms f.of) formals) h))

  result_there : (name : Symbol) (result : Option TypeId) → result_ok p result ≡ true → types_exist p (result_name name result) ≡ true
  result_there name None h = refl
  result_there name (Some t) h = both_true (left_true (type_exists p.forms t) _ h) refl

  record RightHeading (r : Routine) : Type 0 where
    formals : types_exist p (map (λ f. (f.name, f.of)) r.formals) ≡ true
    result : types_exist p (result_name r.name r.result) ≡ true
    locals : types_exist p r.locals ≡ true
    globals : list_all (λ g. item_exists p g.item) r.globals ≡ true
    initial : list_all (λ i. may_be_initial r i.1) r.initial ≡ true

  heading_is_right : (r : Routine) → heading_ok p r ≡ true → RightHeading r
  heading_is_right r h =
      let h1 = right_true (list_all (λ f. type_exists p.forms f.of) r.formals) _ h in
      let h2 = right_true (result_ok p r.result) _ h1 in
      let h3 = right_true (types_exist p r.locals) _ h2 in
      let h4 = right_true (list_all (λ g. item_exists p g.item) r.globals) _ h3 in
      let h5 = right_true (all_differ same_item (map (λ g. g.item) r.globals)) _ h4 in
      record {
        formals = formals_there r.formals (left_true (list_all (λ f. type_exists p.forms f.of) r.formals) _ h);
        result = result_there r.name r.result (left_true (result_ok p r.result) _ h1);
        locals = left_true (types_exist p r.locals) _ h2;
        globals = left_true (list_all (λ g. item_exists p g.item) r.globals) _ h3;
        initial = left_true (list_all (λ i. may_be_initial r i.1) r.initial) _ h5;
      }

  own_there : (r : Routine) → RightHeading r → types_exist p (own_names r) ≡ true
  own_there r h =
      all_joined (λ n. type_exists p.forms n.1) (map (λ f. (f.name, f.of)) r.formals) (result_name r.name r.result ++ r.locals) h.formals
      (all_joined (λ n. type_exists p.forms n.1) (result_name r.name r.result) r.locals h.result h.locals)

  pub forms_right : declarations_ok p ≡ true → forms_ok p.forms ≡ true
  forms_right h = left_true (forms_ok p.forms) _ h

  variables_right : declarations_ok p ≡ true → types_exist p p.variables ≡ true
  variables_right h =
      let h1 = right_true (forms_ok p.forms) _ h in
      let h2 = right_true (nat_eq (length p.titles) (length p.forms)) _ h1 in
      let h3 = right_true (types_exist p p.types) _ h2 in
      left_true (types_exist p p.variables) _ h3

  types_are_there : (here : Option Routine) → declarations_ok p ≡ true → heading_ok_in p here ≡ true → TypesAreThere here
  types_are_there None d h = record { forms = forms_right d; variables = variables_right d; own = refl }
  types_are_there (Some r) d h = record { forms = forms_right d; variables = variables_right d; own = own_there r (heading_is_right r h) }

  -- ---- scopes

  shared_there : declarations_ok p ≡ true → all_there (with_sorts_of p p.variables)
  shared_there d = sorted_there p.variables (forms_right d) (variables_right d)

  initials_there : (here : Option Routine) → declarations_ok p ≡ true → heading_ok_in p here ≡ true → all_there (initial_names p here)
  initials_there None d h = refl
  initials_there (Some r) d h = let right = heading_is_right r h in initial_there r r.initial (types_are_there (Some r) d h) right.globals right.initial

  pub body_there : (here : Option Routine) → declarations_ok p ≡ true → heading_ok_in p here ≡ true → SortsAreThere p (body_scope p here)
  body_there here d h =
      let t = types_are_there here d h in
      scope_there (body_scope p here)
      (all_joined (λ n. there n.1) (with_sorts_of p (own_names_in here)) (initial_names p here ++ with_sorts_of p p.variables) (sorted_there (own_names_in here) t.forms t.own)
      (all_joined (λ n. there n.1) (initial_names p here) (with_sorts_of p p.variables) (initials_there here d h) (shared_there d)))

  parameters_there : (r : Routine) → declarations_ok p ≡ true → heading_ok p r ≡ true → all_there (parameters_of p r)
  parameters_there r d h = let right = heading_is_right r h in sorted_there (map (λ f. (f.name, f.of)) r.formals) (forms_right d) right.formals

  pub entry_there : (r : Routine) → declarations_ok p ≡ true → heading_ok p r ≡ true → SortsAreThere p (entry_scope p r)
  entry_there r d h =
      scope_there (entry_scope p r) (all_joined (λ n. there n.1) (parameters_of p r) (with_sorts_of p p.variables) (parameters_there r d h) (shared_there d))

  pub exit_there : (r : Routine) → declarations_ok p ≡ true → heading_ok p r ≡ true → SortsAreThere p (exit_scope p r)
  exit_there r d h =
      let right = heading_is_right r h in
      let result = with_sorts_of p (result_name r.name r.result) in
      let others = initial_names p (Some r) ++ with_sorts_of p p.variables in
      scope_there (exit_scope p r)
      (all_joined (λ n. there n.1) (parameters_of p r) (result ++ others) (parameters_there r d h)
      (all_joined (λ n. there n.1) result others (sorted_there (result_name r.name r.result) (forms_right d) right.result)
      (all_joined (λ n. there n.1) (initial_names p (Some r)) (with_sorts_of p p.variables) (initials_there (Some r) d h) (shared_there d))))

  -- the head of a variable's name
  pub variable_there : (here : Option Routine) (x : Symbol) → declarations_ok p ≡ true → heading_ok_in p here ≡ true → there (item_sort p here (Variable x)) ≡ true
  variable_there here x d h = item_there here x (types_are_there here d h)

pub body_sorts : (p : Program) (here : Option Routine) → declarations_ok p ≡ true → heading_ok_in p here ≡ true → SortsAreThere p (body_scope p here)
body_sorts = body_there

pub entry_sorts : (p : Program) (r : Routine) → declarations_ok p ≡ true → heading_ok p r ≡ true → SortsAreThere p (entry_scope p r)
entry_sorts = entry_there

pub exit_sorts : (p : Program) (r : Routine) → declarations_ok p ≡ true → heading_ok p r ≡ true → SortsAreThere p (exit_scope p r)
exit_sorts = exit_there
