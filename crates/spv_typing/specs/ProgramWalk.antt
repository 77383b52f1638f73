-- The walk over the routines of a text in a row, and over whole programs and formula texts.
use Rattle.std.specs.Prelude.{ℕ, suc, Bool, true, false, ◌&&◌, not, List, [], ◌∷◌, ◌++◌, filter, Option, Some, None, Ok, Err, is_some, if◌then◌else◌}
use Rattle.spv_logic.specs.declared.names.names.Symbol.{Symbol}
use Rattle.spv_logic.specs.declared.types.TypeId.{TypeId}
use Rattle.spv_logic.specs.declared.conditions.RoutineId.{RoutineId}
use Rattle.spv_tree.specs.declared.syntax.routines.Heading.{Heading as HeadingText}
use Rattle.spv_tree.specs.declared.syntax.routines.HeadingForm.{HeadingForm}
use Rattle.spv_tree.specs.declared.syntax.routines.HeadingForm.TheVariants.{Procedure, Function}
use Rattle.spv_tree.specs.declared.syntax.routines.Clauses.{Clauses}
use Rattle.spv_tree.specs.declared.syntax.routines.Locals.{Locals}
use Rattle.spv_tree.specs.declared.syntax.routines.RoutineMark.{RoutineMark}
use Rattle.spv_tree.specs.declared.syntax.routines.RoutineMark.TheVariants.{Announced, Begins, Ends}
use Rattle.spv_tree.specs.declared.syntax.programs.Program.{Program as ProgramText}
use Rattle.spv_tree.specs.declared.syntax.formula_texts.FormulaText.{FormulaText}
use Rattle.spv_tree.specs.syntax.Statements as tree
use Rattle.spv_program.specs.declared.types.TypeForm.{TypeForm}
use Rattle.spv_program.specs.declared.types.TypeForm.TheVariants.{Integer, Boolean}
use Rattle.spv_program.specs.Lists.{same_name}
use Rattle.spv_program.specs.Types.{same_type}
use Rattle.spv_program.specs.Statements.{Empty, Assert}
use Rattle.spv_program.specs.Programs.{Routine, Main, Program}
use Rattle.spv_typing.specs.declared.faults.TypeFault.{TypeFault}
use Rattle.spv_typing.specs.declared.faults.TypeFault.TheVariants.{Undeclared, DeclaredTwice, Nested}
use Rattle.spv_typing.specs.Outcomes.{Outcome, after, where_so, each, if_there, twice}
use Rattle.spv_typing.specs.Known.{KnownNames, Specified, Known, at_top, is_free_for_call, integer_type, boolean_type}
use Rattle.spv_typing.specs.Merging.{first_where}
use Rattle.spv_typing.specs.DeclarationWalk.{with_program, declarations_walk}
use Rattle.spv_typing.specs.FormulaWalk.{annotation}
use Rattle.spv_typing.specs.StatementWalk.{Setting, block_walk}
use Rattle.spv_typing.specs.RoutineWalk.{Headed, Local, heading_name, heading_names, form_walk, with_heading, locals_walk, body_setting, with_body}

-- ---- routines in a row

-- a routine whose body has begun
pub record Begun : Type 0 where
  pub specified : Specified
  pub local : Local

pub record Progress : Type 0 where
  pub known : Known
  pub begun : Option Begun

-- the names of the routines with bodies, in the order of these
abbrev pub names_of_bodies : List RoutineMark → List Symbol
names_of_bodies [] = []
names_of_bodies (Begins h c l ∷ marks) = (heading_name h.form).symbol ∷ names_of_bodies marks
names_of_bodies (m ∷ marks) = names_of_bodies marks

-- the number of a routine among those with bodies
abbrev pub number_of : List Symbol → Symbol → RoutineId
number_of bodies x = record { 0 = first_where (same_name x) bodies }

abbrev pub awaited_of : List Specified → Symbol → Option Specified
awaited_of [] x = None
awaited_of (h ∷ others) x = if same_name h.heading.name x then Some h else awaited_of others x

abbrev pub twice_at : HeadingText → TypeFault
twice_at h = DeclaredTwice h.line (heading_name h.form).symbol

-- a heading that is the first of its routine
abbrev pub first_heading : List Symbol → Known → HeadingText → Clauses → Outcome Headed
first_heading bodies k h c =
    let name = heading_name h.form in
    where_so (is_free_for_call k name.symbol) (twice name) (form_walk k (number_of bodies name.symbol) h.line c h.form)

-- a second heading repeats the name alone, and is of the same kind
abbrev pub is_bare_form : Bool → HeadingForm → Bool
is_bare_form false (Procedure name None) = true
is_bare_form true (Function name None None) = true
is_bare_form is_function form = false

abbrev pub is_bare : Clauses → Bool
is_bare c = not (is_some c.globals) && (not (is_some c.initial) && (not (is_some c.entry) && not (is_some c.exit)))

abbrev pub without : List Specified → Symbol → List Specified
without awaited x = filter (λ h. not (same_name h.heading.name x)) awaited

abbrev pub with_awaited : Known → List Specified → Known
with_awaited k awaited = record { start = k.start; program = k.program; headings = k.headings; awaited = awaited }

abbrev pub begun_of : Known → Headed → Locals → Outcome Progress
begun_of k h l =
    after (locals_walk k h l) (λ local. Ok (record { known = local.known; begun = Some (record { specified = h.specified; local = local }) }))

abbrev pub begin_again : Known → Specified → HeadingText → Clauses → Locals → Outcome Progress
begin_again k first h c l =
    where_so (is_bare_form first.heading.is_function h.form && is_bare c) (twice_at h)
    (let rest = with_awaited k (without k.awaited first.heading.name) in
    begun_of rest (record { specified = first; own = heading_names rest first }) l)

abbrev pub begin_first : List Symbol → Known → HeadingText → Clauses → Locals → Outcome Progress
begin_first bodies k h c l =
    after (first_heading bodies k h c) (λ headed. begun_of (with_heading k headed.specified.heading) headed l)

abbrev pub begin : List Symbol → Known → HeadingText → Clauses → Locals → Option Specified → Outcome Progress
begin bodies k h c l None = begin_first bodies k h c l
begin bodies k h c l (Some first) = begin_again k first h c l

abbrev pub announce : List Symbol → Known → HeadingText → Clauses → Option Specified → Outcome Progress
announce bodies k h c (Some first) = Err (twice_at h)
announce bodies k h c None =
    after (first_heading bodies k h c) (λ headed.
    let next = with_heading k headed.specified.heading in
    Ok (record { known = with_awaited next (next.awaited ++ headed.specified ∷ []); begun = None }))

-- no routine stands inside another
abbrev pub unless_begun : Option Begun → HeadingText → Outcome Progress → Outcome Progress
unless_begun None h next = next
unless_begun (Some b) h next = Err (Nested h.line (heading_name h.form).symbol)

abbrev pub with_routine : Program → Routine → Program
with_routine p r = record {
  forms = p.forms;
  titles = p.titles;
  types = p.types;
  constants = p.constants;
  variables = p.variables;
  symbols = p.symbols;
  routines = p.routines ++ r ∷ [];
  main = p.main;
}

abbrev pub end_body : Known → Option Begun → tree.Block → Outcome Progress
end_body k None b = Ok (record { known = k; begun = None })
end_body k (Some r) b =
    after (block_walk (body_setting r.specified.heading r.local) b) (λ body.
    Ok (record { known = with_program k (with_routine k.program (with_body r.specified r.local.variables body)); begun = None }))

abbrev pub mark_walk : List Symbol → Progress → RoutineMark → Outcome Progress
mark_walk bodies at (Announced h c) =
    unless_begun at.begun h (announce bodies at.known h c (awaited_of at.known.awaited (heading_name h.form).symbol))
mark_walk bodies at (Begins h c l) =
    unless_begun at.begun h (begin bodies at.known h c l (awaited_of at.known.awaited (heading_name h.form).symbol))
mark_walk bodies at (Ends b) = end_body at.known at.begun b

abbrev pub routines_walk : Known → List RoutineMark → Outcome Known
routines_walk k marks =
    after (each (mark_walk (names_of_bodies marks)) (record { known = k; begun = None }) marks) (λ at. Ok at.known)

-- ---- titles: the first name of each type

abbrev pub title_of : List (Symbol × TypeId) → ℕ → Option Symbol
title_of [] t = None
title_of (n ∷ names) t = if same_type n.1 (record { 0 = t }) then Some n.0 else title_of names t

abbrev pub titles_from : List (Symbol × TypeId) → ℕ → List TypeForm → List (Option Symbol)
titles_from names t [] = []
titles_from names t (f ∷ forms) = title_of names t ∷ titles_from names (suc t) forms

abbrev pub titles_of : KnownNames → Program → List (Option Symbol)
titles_of k p = titles_from ((k.integer, integer_type) ∷ (k.boolean, boolean_type) ∷ p.types) 0 p.forms

-- ---- whole texts

abbrev pub no_main : Main
no_main = record { entry = None; exit = None; body = Empty }

-- a program before its first declaration
abbrev pub empty_program : Program
empty_program = record {
  forms = Integer ∷ Boolean ∷ [];
  titles = [];
  types = [];
  constants = [];
  variables = [];
  symbols = [];
  routines = [];
  main = no_main;
}

abbrev pub known_at_first : KnownNames → Known
known_at_first k = record { start = k; program = empty_program; headings = []; awaited = [] }

-- each announced routine has a body
abbrev pub none_awaited : List Specified → Outcome Bool
none_awaited [] = Ok true
none_awaited (h ∷ others) = Err (Undeclared h.heading.line h.heading.name)

abbrev pub with_main : KnownNames → Program → Main → Program
with_main k p main = record {
  forms = p.forms;
  titles = titles_of k p;
  types = p.types;
  constants = p.constants;
  variables = p.variables;
  symbols = p.symbols;
  routines = p.routines;
  main = main;
}

abbrev pub main_setting : Known → Setting
main_setting k = record { inside = at_top k; noted = at_top k; counted = [] }

-- the typed program of a text's tree, or the first fault in the order of the text
abbrev pub program_walk : KnownNames → ProgramText → Outcome Program
program_walk start p =
    after (declarations_walk (known_at_first start) p.declarations) (λ k.
    after (routines_walk k p.routines) (λ all.
    after (if_there (annotation (at_top all)) p.entry) (λ entry.
    after (if_there (annotation (at_top all)) p.exit) (λ exit.
    after (none_awaited all.awaited) (λ none.
    after (block_walk (main_setting all) p.block) (λ body.
    Ok (with_main start all.program (record { entry = entry; exit = exit; body = body }))))))))

-- the program whose main block is the one ASSERT of a formula text
abbrev pub formula_text_walk : KnownNames → FormulaText → Outcome Program
formula_text_walk start t =
    after (declarations_walk (known_at_first start) t.declarations) (λ k.
    after (annotation (at_top k) t.formula) (λ a.
    Ok (with_main start k.program (record { entry = None; exit = None; body = Assert a }))))
