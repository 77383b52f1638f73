-- The walk over routines: headings, clauses, local declarations and bodies.
use Rattle.std.specs.Prelude.{ℕ, Bool, true, false, ◌&&◌, ◌||◌, not, List, [], ◌∷◌, ◌++◌, map, Option, Some, None, Ok, Err}
use Rattle.std.specs.List.{list_any}
use Rattle.spv_logic.specs.declared.names.names.Symbol.{Symbol}
use Rattle.spv_logic.specs.declared.types.TypeId.{TypeId}
use Rattle.spv_logic.specs.declared.types.Sort.{Sort}
use Rattle.spv_logic.specs.declared.types.Sort.TheVariants as sort
use Rattle.spv_logic.specs.declared.conditions.RoutineId.{RoutineId}
use Rattle.spv_tree.specs.declared.syntax.lists.Several.{Several}
use Rattle.spv_tree.specs.declared.syntax.names.Name.{Name}
use Rattle.spv_tree.specs.declared.syntax.declarations.Const.{Const}
use Rattle.spv_tree.specs.declared.syntax.declarations.Vars.{Vars}
use Rattle.spv_tree.specs.declared.syntax.declarations.NameOrClass.{NameOrClass}
use Rattle.spv_tree.specs.declared.syntax.declarations.NameOrClass.TheVariants as written
use Rattle.spv_tree.specs.declared.syntax.routines.GroupForm.{GroupForm}
use Rattle.spv_tree.specs.declared.syntax.routines.GroupForm.TheVariants.{Variables, Procedures, Functions}
use Rattle.spv_tree.specs.declared.syntax.routines.Group.{Group}
use Rattle.spv_tree.specs.declared.syntax.routines.Params.{Params}
use Rattle.spv_tree.specs.declared.syntax.routines.HeadingForm.{HeadingForm}
use Rattle.spv_tree.specs.declared.syntax.routines.HeadingForm.TheVariants.{Procedure, Function}
use Rattle.spv_tree.specs.declared.syntax.routines.Item.{Item as ItemText}
use Rattle.spv_tree.specs.declared.syntax.routines.GlobalGroup.{GlobalGroup}
use Rattle.spv_tree.specs.declared.syntax.routines.Start.{Start}
use Rattle.spv_tree.specs.declared.syntax.routines.Clauses.{Clauses}
use Rattle.spv_tree.specs.declared.syntax.routines.Locals.{Locals}
use Rattle.spv_program.specs.declared.types.Item.{Item}
use Rattle.spv_program.specs.declared.types.Item.TheVariants.{Variable, Class}
use Rattle.spv_program.specs.Lists.{same_name, found}
use Rattle.spv_program.specs.Types.{form_at, sort_of, may_be_result, same_item}
use Rattle.spv_program.specs.Statements.{Statement}
use Rattle.spv_program.specs.Programs.{Formal, GlobalItem, Routine, lists}
use Rattle.spv_typing.specs.declared.faults.TypeFault.TheVariants.{ProcParameter}
use Rattle.spv_typing.specs.Outcomes.{Outcome, after, where_so, each, if_there, undeclared, twice, wrong}
use Rattle.spv_typing.specs.Known.{KnownNames, is_fixed, Heading, Specified, Meaning, OfConstant, OfPlace, OfStart, Names, Known, Scope, meaning, is_named, program_names}
use Rattle.spv_typing.specs.TypeWalk.{all_names, type_named, constant}
use Rattle.spv_typing.specs.DeclarationWalk.{with_program, with_types, new_name, type_walk, class_named}
use Rattle.spv_typing.specs.FormulaWalk.{annotation}
use Rattle.spv_typing.specs.StatementWalk.{Setting}

-- ---- the names of a routine

-- variables among the items of a GLOBAL list
abbrev pub is_listed : List GlobalItem → Symbol → Bool
is_listed globals x = list_any (λ g. same_item g.item (Variable x)) globals

-- whether a further name of the routine may be this: no name that is known from the start, not the routine's own, none that it
-- has, and no variable of its GLOBAL list
abbrev pub is_free_in : KnownNames → Symbol → List GlobalItem → Names → Symbol → Bool
is_free_in k routine globals own x =
    not (is_fixed k x) && (not (same_name routine x) && (not (is_named own x) && not (is_listed globals x)))

abbrev pub in_routine : Known → Names → Option Heading → Scope
in_routine k own routine = record { known = k; own = own; routine = routine }

-- ---- parameters

pub record Parameters : Type 0 where
  pub formals : List Formal
  pub own : Names

abbrev pub with_group : Parameters → List Symbol → TypeId → Bool → ℕ → Parameters
with_group ps names t by_place line = record {
  formals = ps.formals ++ map (λ x. record { name = x; of = t; by_place = by_place; line = line }) names;
  own = ps.own ++ map (λ x. (x, OfPlace t)) names;
}

abbrev pub group_walk : Known → Symbol → Parameters → Group → Outcome Parameters
group_walk k routine ps g = of_form g.form
  where
    of_form : GroupForm → Outcome Parameters
    of_form (Variables by_place names of) =
        after (each (new_name (is_free_in k.start routine [] ps.own)) [] (all_names names)) (λ new.
        after (type_named of.line of (meaning (in_routine k ps.own None) of.symbol)) (λ t. Ok (with_group ps new t by_place g.line)))
    of_form (Procedures names) = Err (ProcParameter g.line names.first.symbol)
    of_form (Functions names of) = Err (ProcParameter g.line names.first.symbol)

abbrev pub no_parameters : Parameters
no_parameters = record { formals = []; own = [] }

abbrev pub params_walk : Known → Symbol → Option Params → Outcome Parameters
params_walk k routine None = Ok no_parameters
params_walk k routine (Some params) = each (group_walk k routine) no_parameters (all_names params.groups)

-- ---- the result

abbrev pub result_walk : Known → ℕ → Names → Option Name → Outcome TypeId
result_walk k line own None = Err (wrong line)
result_walk k line own (Some of) =
    after (type_named of.line of (meaning (in_routine k own None) of.symbol)) (λ t.
    where_so (may_be_result (form_at k.program.forms t.0)) (wrong of.line) (Ok t))

-- ---- GLOBAL

-- an item speaks of the program; a parameter hides a variable
abbrev pub variable_named : ℕ → Name → Option Meaning → Outcome Item
variable_named line x None = Err (undeclared x)
variable_named line x (Some (OfPlace t)) = Ok (Variable x.symbol)
variable_named line x (Some other) = Err (wrong line)

abbrev pub item_name : NameOrClass → Name
item_name (written.Name x) = x
item_name (written.Class x) = x

abbrev pub hides : Names → NameOrClass → Bool
hides own (written.Name x) = is_named own x.symbol
hides own (written.Class x) = false

abbrev pub shared_item : Known → ℕ → NameOrClass → Outcome Item
shared_item k line (written.Name x) = variable_named line x (found (program_names k) x.symbol)
shared_item k line (written.Class x) = after (class_named line x (found (program_names k) x.symbol)) (λ t. Ok (Class t))

abbrev pub item_walk : Known → Names → Bool → ℕ → List GlobalItem → ItemText → Outcome (List GlobalItem)
item_walk k own is_var line globals i =
    where_so (not (hides own i.form)) (twice (item_name i.form))
    (after (shared_item k i.line i.form) (λ item.
    where_so (not (list_any (λ g. same_item g.item item) globals)) (twice (item_name i.form))
    (Ok (globals ++ record { item = item; is_var = is_var; line = line } ∷ []))))

abbrev pub global_group_walk : Known → Names → List GlobalItem → GlobalGroup → Outcome (List GlobalItem)
global_group_walk k own globals g = each (item_walk k own g.by_place g.line) globals (all_names g.items)

abbrev pub globals_walk : Known → Names → Option (Several GlobalGroup) → Outcome (List GlobalItem)
globals_walk k own None = Ok []
globals_walk k own (Some groups) = each (global_group_walk k own) [] (all_names groups)

-- ---- INITIAL

abbrev pub may_be_initial : List Formal → List GlobalItem → Item → Bool
may_be_initial formals globals (Variable x) =
    list_any (λ f. same_name f.name x && f.by_place) formals || lists globals (Variable x) true
may_be_initial formals globals (Class t) = lists globals (Class t) true

-- an item of INITIAL is a parameter or speaks of the program
abbrev pub initial_item : Scope → ℕ → NameOrClass → Outcome Item
initial_item s line (written.Name x) = variable_named line x (meaning s x.symbol)
initial_item s line (written.Class x) = after (class_named line x (found (program_names s.known) x.symbol)) (λ t. Ok (Class t))

abbrev pub sort_or_int : Option Sort → Sort
sort_or_int None = sort.Int
sort_or_int (Some s) = s

abbrev pub place_sort : Scope → Option Meaning → Sort
place_sort s (Some (OfPlace t)) = sort_of s.known.program.forms t
place_sort s other = sort.Int

abbrev pub item_sort : Scope → Item → Sort
item_sort s (Variable x) = place_sort s (meaning s x)
item_sort s (Class t) = sort.Class t

-- the INITIAL names so far
pub record Starts : Type 0 where
  pub initial : List (Symbol × Item)
  pub own : Names

abbrev pub start_walk : Known → Symbol → List Formal → List GlobalItem → Names → Starts → Start → Outcome Starts
start_walk k routine formals globals parameters so_far x =
    let s = in_routine k parameters None in
    after (initial_item s x.item.line x.item.form) (λ item.
    where_so (is_free_in k.start routine globals (parameters ++ so_far.own) x.name.symbol) (twice x.name)
    (where_so (may_be_initial formals globals item) (wrong x.item.line)
    (Ok (record { initial = so_far.initial ++ (x.name.symbol, item) ∷ []; own = so_far.own ++ (x.name.symbol, OfStart (item_sort s item)) ∷ [] }))))

abbrev pub initial_walk : Known → Symbol → List Formal → List GlobalItem → Names → Option (Several Start) → Outcome Starts
initial_walk k routine formals globals parameters None = Ok (record { initial = []; own = [] })
initial_walk k routine formals globals parameters (Some starts) =
    each (start_walk k routine formals globals parameters) (record { initial = []; own = [] }) (all_names starts)

-- ---- a heading with its clauses

-- the heading with its clauses, and the parameters and INITIAL names of the routine
pub record Headed : Type 0 where
  pub specified : Specified
  pub own : Names

abbrev pub result_names : Symbol → Option TypeId → Names
result_names name None = []
result_names name (Some t) = (name, OfPlace t) ∷ []

-- ENTRY sees the parameters; EXIT also a function's name, for its result, and the INITIAL names
abbrev pub clauses_walk : Known → Symbol → ℕ → Bool → RoutineId → Parameters → Option TypeId → Clauses → Outcome Headed
clauses_walk k name line is_function number ps result c =
    after (globals_walk k ps.own c.globals) (λ globals.
    after (initial_walk k name ps.formals globals ps.own c.initial) (λ starts.
    after (if_there (annotation (in_routine k ps.own None)) c.entry) (λ entry.
    after (if_there (annotation (in_routine k (ps.own ++ (result_names name result ++ starts.own)) None)) c.exit) (λ exit.
    let heading : Heading = record {
      name = name;
      line = line;
      is_function = is_function;
      number = number;
      formals = ps.formals;
      result = result;
      globals = globals;
    } in
    Ok (record {
      specified = record { heading = heading; initial = starts.initial; entry = entry; exit = exit };
      own = ps.own ++ starts.own;
    })))))

abbrev pub heading_name : HeadingForm → Name
heading_name (Procedure name params) = name
heading_name (Function name params result) = name

abbrev pub is_function_form : HeadingForm → Bool
is_function_form (Procedure name params) = false
is_function_form (Function name params result) = true

-- the routine's name is known in its own heading, as one of a routine with what is known of it
abbrev pub announced : Symbol → ℕ → Bool → RoutineId → List Formal → Option TypeId → Heading
announced name line is_function number formals result = record {
  name = name;
  line = line;
  is_function = is_function;
  number = number;
  formals = formals;
  result = result;
  globals = [];
}

abbrev pub with_heading : Known → Heading → Known
with_heading k h = record { start = k.start; program = k.program; headings = k.headings ++ h ∷ []; awaited = k.awaited }

abbrev pub form_walk : Known → RoutineId → ℕ → Clauses → HeadingForm → Outcome Headed
form_walk k number line c (Procedure name params) =
    after (params_walk (with_heading k (announced name.symbol line false number [] None)) name.symbol params) (λ ps.
    clauses_walk (with_heading k (announced name.symbol line false number ps.formals None)) name.symbol line false number ps None c)
form_walk k number line c (Function name params result) =
    let inner = with_heading k (announced name.symbol line true number [] None) in
    after (params_walk inner name.symbol params) (λ ps.
    after (result_walk inner line ps.own result) (λ t.
    clauses_walk (with_heading k (announced name.symbol line true number ps.formals (Some t))) name.symbol line true number ps (Some t) c))

-- the names that a heading gives its routine
abbrev pub heading_names : Known → Specified → Names
heading_names k h =
    let parameters = map (λ f. (f.name, OfPlace f.of)) h.heading.formals in
    parameters ++ map (λ i. (i.0, OfStart (item_sort (in_routine k parameters None) i.1))) h.initial

-- ---- local declarations

pub record Local : Type 0 where
  pub known : Known
  pub own : Names
  pub variables : List (Symbol × TypeId)

abbrev pub local_const : Heading → Local → Const → Outcome Local
local_const h l c =
    where_so (is_free_in l.known.start h.name h.globals l.own c.name.symbol) (twice c.name)
    (after (constant (in_routine l.known l.own None) c.value) (λ z.
    Ok (record { known = l.known; own = l.own ++ (c.name.symbol, OfConstant z) ∷ []; variables = l.variables })))

abbrev pub local_vars : Heading → Local → Vars → Outcome Local
local_vars h l v =
    after (each (new_name (is_free_in l.known.start h.name h.globals l.own)) [] (all_names v.names)) (λ names.
    after (type_walk (in_routine l.known l.own None) v.of) (λ t.
    Ok (record {
      known = with_program l.known (with_types l.known.program t.forms l.known.program.types);
      own = l.own ++ map (λ x. (x, OfPlace t.type)) names;
      variables = l.variables ++ map (λ x. (x, t.type)) names;
    })))

abbrev pub locals_walk : Known → Headed → Locals → Outcome Local
locals_walk k h l =
    after (each (local_const h.specified.heading) (record { known = k; own = h.own; variables = [] }) l.constants) (λ a.
    each (local_vars h.specified.heading) a l.variables)

-- ---- bodies

-- in the annotations of a body a function's name is its result
abbrev pub body_setting : Heading → Local → Setting
body_setting h l = record {
  inside = in_routine l.known l.own (Some h);
  noted = in_routine l.known (result_names h.name h.result ++ l.own) (Some h);
  counted = [];
}

abbrev pub with_body : Specified → List (Symbol × TypeId) → Statement → Routine
with_body h locals body = record {
  name = h.heading.name;
  line = h.heading.line;
  formals = h.heading.formals;
  result = h.heading.result;
  globals = h.heading.globals;
  initial = h.initial;
  entry = h.entry;
  exit = h.exit;
  locals = locals;
  body = body;
}
