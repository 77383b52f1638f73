-- Which programs are well typed.
use Rattle.std.specs.Prelude.{Bool, true, false, ◌&&◌, ◌||◌, not, List, [], ◌∷◌, ◌++◌, map, length, ℤ, Option, Some, None, is_some, nat_eq}
use Rattle.std.specs.Ordering.{int_eq}
use Rattle.std.specs.List.{list_all, list_any}
use Rattle.spv_logic.specs.declared.names.names.Symbol.{Symbol}
use Rattle.spv_logic.specs.declared.types.TypeId.{TypeId}
use Rattle.spv_logic.specs.declared.types.Sort.TheVariants as sort
use Rattle.spv_logic.specs.declared.types.Decl.{Decl}
use Rattle.spv_logic.specs.Sorts.{sort_in_range}
use Rattle.spv_program.specs.declared.types.Item.{Item}
use Rattle.spv_program.specs.declared.types.Item.TheVariants.{Variable, Class}
use Rattle.spv_program.specs.Lists.{same_name, found, all_differ, names_differ}
use Rattle.spv_program.specs.Types.{same_type, form_at, target_of, forms_ok, type_exists, may_be_result, same_item}
use Rattle.spv_program.specs.Statements.{Counting, Statement, Arms, Empty, Assign, Perform, New, Sequence, If, Case, While, Repeat, For, Assert, no_arms, arm}
use Rattle.spv_program.specs.Programs.{Routine, Main, Program, shapes, lists}
use Rattle.spv_program.specs.Scopes.{name_type, is_value_parameter, body_scope, entry_scope, exit_scope}
use Rattle.spv_program.specs.Uses.{same_root, name_root}
use Rattle.spv_program.specs.Changes.{changed_roots}
use Rattle.spv_program.specs.Scopes.{is_own}
use Rattle.spv_program.specs.FormulaTypes.{is_sort, same_sort, annotation_ok}
use Rattle.spv_program.specs.ExpressionTypes.{expression_sort, designator_type, sort_of_type, callee, may_write}

-- ---- statements

-- the labels of all arms
abbrev pub labels_in : Arms → List ℤ
labels_in no_arms = []
labels_in (arm labels s others) = labels ++ labels_in others

abbrev pub is_type : TypeId → Option TypeId → Bool
is_type t None = false
is_type t (Some u) = same_type t u

-- whether a type is that of pointers to cells of another
abbrev pub leads_to : Program → TypeId → Option TypeId → Bool
leads_to p t None = false
leads_to p t (Some q) = is_type t (target_of (form_at p.forms q.0))

-- the main block may count with any variable of the program, a routine with its locals and value parameters
abbrev pub may_count : Option Routine → Symbol → Bool
may_count None x = true
may_count (Some r) x = is_some (found r.locals x) || is_value_parameter r x

-- whether a FOR's head is well typed, and its body leaves the variable alone
abbrev pub counting_ok : Program → Option Routine → Counting → Statement → Bool
counting_ok p here count s =
    may_count here count.variable
    && (is_sort sort.Int (sort_of_type p (name_type p here count.variable))
    && (is_sort sort.Int (expression_sort p here count.first)
    && (is_sort sort.Int (expression_sort p here count.last)
    && not (list_any (same_root (name_root (is_own here) count.variable)) (changed_roots p here s)))))

-- a procedure has no result
abbrev pub is_procedure : Option Routine → Bool
is_procedure None = false
is_procedure (Some r) = not (is_some r.result)

abbrev mutual
  pub statement_ok : Program → Option Routine → Statement → Bool
  statement_ok p here Empty = true
  statement_ok p here (Assign d e) =
      may_write here d && same_sort (sort_of_type p (designator_type p here d)) (expression_sort p here e)
  statement_ok p here (Perform c) = is_procedure (callee p here c)
  statement_ok p here (New line d t) = may_write here d && leads_to p t (designator_type p here d)
  statement_ok p here (Sequence a b) = statement_ok p here a && statement_ok p here b
  statement_ok p here (If line e a b) =
      is_sort sort.Bool (expression_sort p here e) && (statement_ok p here a && statement_ok p here b)
  statement_ok p here (Case line e arms) =
      is_sort sort.Int (expression_sort p here e) && (all_differ int_eq (labels_in arms) && arms_ok p here arms)
  statement_ok p here (While line f e s) =
      annotation_ok p (body_scope p here) f && (is_sort sort.Bool (expression_sort p here e) && statement_ok p here s)
  statement_ok p here (Repeat line f s e) =
      annotation_ok p (body_scope p here) f && (is_sort sort.Bool (expression_sort p here e) && statement_ok p here s)
  statement_ok p here (For line f count s) =
      annotation_ok p (body_scope p here) f && (counting_ok p here count s && statement_ok p here s)
  statement_ok p here (Assert a) = annotation_ok p (body_scope p here) (Some a)

  pub arms_ok : Program → Option Routine → Arms → Bool
  arms_ok p here no_arms = true
  arms_ok p here (arm labels s others) = statement_ok p here s && arms_ok p here others

-- the body of a routine, or of the main block
abbrev pub body_ok : Program → Option Routine → Statement → Bool
body_ok p here body = statement_ok p here body

-- ---- routines

abbrev pub item_exists : Program → Item → Bool
item_exists p (Variable x) = is_some (found p.variables x)
item_exists p (Class t) = type_exists p.forms t

-- an INITIAL part names VAR parameters and items of VAR groups
abbrev pub may_be_initial : Routine → Item → Bool
may_be_initial r (Variable x) = list_any (λ f. same_name f.name x && f.by_place) r.formals || lists r.globals (Variable x) true
may_be_initial r (Class t) = lists r.globals (Class t) true

abbrev pub variables_among : List Item → List Symbol
variables_among [] = []
variables_among (Variable x ∷ items) = x ∷ variables_among items
variables_among (Class t ∷ items) = variables_among items

-- the names of a routine's scope, its own name, and the variables of its GLOBAL list: no two are the same
abbrev pub scope_names : Routine → List Symbol
scope_names r =
    r.name ∷ map (λ f. f.name) r.formals
    ++ (map (λ i. i.0) r.initial ++ (map (λ n. n.0) r.locals ++ variables_among (map (λ g. g.item) r.globals)))

abbrev pub types_exist : Program → List (Symbol × TypeId) → Bool
types_exist p names = list_all (λ n. type_exists p.forms n.1) names

abbrev pub result_ok : Program → Option TypeId → Bool
result_ok p None = true
result_ok p (Some t) = type_exists p.forms t && may_be_result (form_at p.forms t.0)

abbrev pub heading_ok : Program → Routine → Bool
heading_ok p r =
    list_all (λ f. type_exists p.forms f.of) r.formals
    && (result_ok p r.result
    && (types_exist p r.locals
    && (list_all (λ g. item_exists p g.item) r.globals
    && (all_differ same_item (map (λ g. g.item) r.globals)
    && (list_all (λ i. may_be_initial r i.1) r.initial && names_differ (scope_names r))))))

abbrev pub routine_ok : Program → Routine → Bool
routine_ok p r =
    heading_ok p r
    && (annotation_ok p (entry_scope p r) r.entry && (annotation_ok p (exit_scope p r) r.exit && body_ok p (Some r) r.body))

-- ---- programs

-- the names of the program's scope: no two are the same
abbrev pub program_names : Program → List Symbol
program_names p =
    map (λ n. n.0) p.constants
    ++ (map (λ n. n.0) p.types ++ (map (λ n. n.0) p.variables ++ (map (λ d. d.name) p.symbols ++ map (λ r. r.name) p.routines)))

abbrev pub symbol_ok : Program → Decl → Bool
symbol_ok p d = list_all (sort_in_range (shapes p)) d.args && sort_in_range (shapes p) d.result

abbrev pub declarations_ok : Program → Bool
declarations_ok p =
    forms_ok p.forms
    && (nat_eq (length p.titles) (length p.forms)
    && (types_exist p p.types && (types_exist p p.variables && (list_all (symbol_ok p) p.symbols && names_differ (program_names p)))))

abbrev pub main_ok : Program → Main → Bool
main_ok p m =
    annotation_ok p (body_scope p None) m.entry && (annotation_ok p (body_scope p None) m.exit && body_ok p None m.body)

abbrev pub well_typed : Program → Bool
well_typed p = declarations_ok p && (list_all (routine_ok p) p.routines && main_ok p p.main)
