-- From which trees routines may come.
use Rattle.std.specs.Prelude.{◌≡◌, ℕ, Bool, true, false, ◌&&◌, not, List, [], ◌∷◌, ◌++◌, map, filter, Option, Some, None, is_some, ℤ, if◌then◌else◌}
use Rattle.spv_logic.specs.declared.names.names.Symbol.{Symbol}
use Rattle.spv_logic.specs.declared.types.TypeId.{TypeId}
use Rattle.spv_tree.specs.declared.syntax.lists.Several.{Several}
use Rattle.spv_tree.specs.declared.syntax.names.Name.{Name}
use Rattle.spv_tree.specs.declared.syntax.declarations.NameOrClass.{NameOrClass}
use Rattle.spv_tree.specs.declared.syntax.declarations.NameOrClass.TheVariants as written
use Rattle.spv_tree.specs.declared.syntax.routines.GroupForm.TheVariants.{Variables}
use Rattle.spv_tree.specs.declared.syntax.routines.Group.{Group}
use Rattle.spv_tree.specs.declared.syntax.routines.Params.{Params}
use Rattle.spv_tree.specs.declared.syntax.routines.HeadingForm.{HeadingForm}
use Rattle.spv_tree.specs.declared.syntax.routines.HeadingForm.TheVariants.{Procedure, Function}
use Rattle.spv_tree.specs.declared.syntax.routines.Heading.{Heading}
use Rattle.spv_tree.specs.declared.syntax.routines.Item.{Item as ItemText}
use Rattle.spv_tree.specs.declared.syntax.routines.GlobalGroup.{GlobalGroup}
use Rattle.spv_tree.specs.declared.syntax.routines.Start.{Start as StartText}
use Rattle.spv_tree.specs.declared.syntax.routines.Clauses.{Clauses}
use Rattle.spv_tree.specs.declared.syntax.routines.Locals.{Locals}
use Rattle.spv_tree.specs.declared.syntax.routines.RoutineMark.{RoutineMark}
use Rattle.spv_tree.specs.declared.syntax.routines.RoutineMark.TheVariants.{Announced, Begins, Ends}
use Rattle.spv_tree.specs.syntax.Statements as tree
use Rattle.spv_program.specs.declared.types.Item.{Item}
use Rattle.spv_program.specs.declared.types.Item.TheVariants.{Variable, Class}
use Rattle.spv_program.specs.Lists.{same_name}
use Rattle.spv_program.specs.Programs.{Formal, GlobalItem, Routine, Program}
use Rattle.spv_typing.specs.Known.{KnownNames}
use Rattle.spv_type_soundness.specs.faithfulness.Names.{Own, Place, Start, View, names_place, type_named, at_top, seen, own_constants, own_places}
use Rattle.spv_type_soundness.specs.faithfulness.Formulas.{IfThere}
use Rattle.spv_type_soundness.specs.faithfulness.Statements.{BlockFrom}
use Rattle.spv_type_soundness.specs.faithfulness.Declarations.{ConstsFrom, VarsFrom}

-- ---- the names of a routine

abbrev pub parameter_names : List Formal → List (Symbol × Own)
parameter_names fs = map (λ f. (f.name, Place)) fs

abbrev pub start_names : List (Symbol × Item) → List (Symbol × Own)
start_names is = map (λ i. (i.0, Start)) is

-- a function's name, for its result
abbrev pub result_names : Symbol → Option TypeId → List (Symbol × Own)
result_names x None = []
result_names x (Some t) = (x, Place) ∷ []

abbrev pub heading_names : Routine → List (Symbol × Own)
heading_names r = parameter_names r.formals ++ start_names r.initial

abbrev pub exit_names : Routine → List (Symbol × Own)
exit_names r = parameter_names r.formals ++ (result_names r.name r.result ++ start_names r.initial)

-- with these constants and these local variables
abbrev pub body_names : Routine → List (Symbol × ℤ) → List (Symbol × TypeId) → List (Symbol × Own)
body_names r constants locals = (heading_names r ++ own_constants constants) ++ own_places locals

-- ---- headings

abbrev pub formals_of : List Name → TypeId → Bool → ℕ → List Formal
formals_of names t by_place line = map (λ x. record { name = x.symbol; of = t; by_place = by_place; line = line }) names

abbrev pub groups_of : Option Params → List Group
groups_of None = []
groups_of (Some params) = params.groups.first ∷ params.groups.more

module _ (start : KnownNames) (p : Program) where
  -- parameters, each group by those before it
  pub data FormalsFrom : List Formal → List Group → List Formal → Type 0 where
    no_formals : {before : List Formal} → FormalsFrom before [] before
    one_group : {before all : List Formal} {line : ℕ} {by_place : Bool} {names : Several Name} {of : Name} {t : TypeId} {gs : List Group}
        → type_named (seen start p None (parameter_names before)) of.symbol ≡ Some t
        → FormalsFrom (before ++ formals_of (names.first ∷ names.more) t by_place line) gs all
        → FormalsFrom before (record { line = line; form = Variables by_place names of } ∷ gs) all

  -- the name, the parameters and the result
  pub data FormFrom (r : Routine) : HeadingForm → Type 0 where
    procedure : {x : Name} {params : Option Params}
        → r.name ≡ x.symbol → FormalsFrom [] (groups_of params) r.formals → r.result ≡ None → FormFrom r (Procedure x params)
    function : {x of : Name} {params : Option Params} {t : TypeId}
        → r.name ≡ x.symbol → FormalsFrom [] (groups_of params) r.formals → r.result ≡ Some t
        → type_named (seen start p None (parameter_names r.formals)) of.symbol ≡ Some t → FormFrom r (Function x params (Some of))

  -- a variable that is seen, or a class, whose name is one of the program
  pub data ItemFrom (v : View) : Item → NameOrClass → Type 0 where
    variable : {x : Name} → names_place v x.symbol ≡ true → ItemFrom v (Variable x.symbol) (written.Name x)
    class : {t : TypeId} {x : Name} → type_named (at_top start p) x.symbol ≡ Some t → ItemFrom v (Class t) (written.Class x)

  pub data ItemsFrom (is_var : Bool) (line : ℕ) : List GlobalItem → List ItemText → Type 0 where
    no_items : ItemsFrom is_var line [] []
    one_item : {i : Item} {is : List GlobalItem} {t : ItemText} {ts : List ItemText}
        → ItemFrom (at_top start p) i t.form → ItemsFrom is_var line is ts
        → ItemsFrom is_var line (record { item = i; is_var = is_var; line = line } ∷ is) (t ∷ ts)

  pub data GlobalsFrom : List GlobalItem → List GlobalGroup → Type 0 where
    no_globals : GlobalsFrom [] []
    one_list : {is all : List GlobalItem} {g : GlobalGroup} {gs : List GlobalGroup}
        → ItemsFrom g.by_place g.line is (g.items.first ∷ g.items.more) → GlobalsFrom all gs → GlobalsFrom (is ++ all) (g ∷ gs)

  pub data InitialFrom (v : View) : List (Symbol × Item) → List StartText → Type 0 where
    no_starts : InitialFrom v [] []
    one_start : {i : Item} {is : List (Symbol × Item)} {t : StartText} {ts : List StartText}
        → ItemFrom v i t.item.form → InitialFrom v is ts → InitialFrom v ((t.name.symbol, i) ∷ is) (t ∷ ts)

abbrev pub listed : {X : Type 0} → Option (Several X) → List X
listed None = []
listed (Some xs) = xs.first ∷ xs.more

-- a heading with its clauses
pub record HeadingFrom (start : KnownNames) (p : Program) (r : Routine) (h : Heading) (c : Clauses) : Type 0 where
  pub line : r.line ≡ h.line
  pub form : FormFrom start p r h.form
  pub globals : GlobalsFrom start p r.globals (listed c.globals)
  pub initial : InitialFrom start p (seen start p None (parameter_names r.formals)) r.initial (listed c.initial)
  pub entry : IfThere (seen start p None (parameter_names r.formals)) r.entry c.entry
  pub exit : IfThere (seen start p None (exit_names r)) r.exit c.exit

-- ---- bodies

pub record BodyFrom (start : KnownNames) (p : Program) (r : Routine) (l : Locals) (b : tree.Block) : Type 0 where
  pub constants : List (Symbol × ℤ)
  pub constants_from : ConstsFrom (λ before. seen start p None (heading_names r ++ own_constants before)) [] l.constants constants
  pub variables_from : VarsFrom (λ before. seen start p None (body_names r constants before)) p.types [] l.variables r.locals
  -- in annotations of the body a function's name is its result
  pub body : BlockFrom (seen start p (Some r) (body_names r constants r.locals))
      (seen start p (Some r) (result_names r.name r.result ++ body_names r constants r.locals)) r.body b

-- ---- the routines of a text in a row

abbrev pub name_of : HeadingForm → Symbol
name_of (Procedure x params) = x.symbol
name_of (Function x params result) = x.symbol

-- the heading with which a routine of this name was announced
abbrev pub announced_as : List (Heading × Clauses) → Symbol → Option (Heading × Clauses)
announced_as [] x = None
announced_as (a ∷ others) x = if same_name (name_of a.0.form) x then Some a else announced_as others x

abbrev pub without : List (Heading × Clauses) → Symbol → List (Heading × Clauses)
without waiting x = filter (λ a. not (same_name (name_of a.0.form) x)) waiting

abbrev pub no_clauses : Clauses → Bool
no_clauses c = not (is_some c.globals) && (not (is_some c.initial) && (not (is_some c.entry) && not (is_some c.exit)))

-- a second heading repeats the kind and the name alone
abbrev pub repeats : HeadingForm → HeadingForm → Clauses → Bool
repeats (Procedure x params) (Procedure y None) c = no_clauses c
repeats (Function x params result) (Function y None None) c = no_clauses c
repeats _ _ c = false

-- by the headings that wait for their bodies; none waits at the end
pub data RoutinesFrom (start : KnownNames) (p : Program) : List (Heading × Clauses) → List RoutineMark → List Routine → Type 0 where
  no_routines : RoutinesFrom start p [] [] []
  announced : {waiting : List (Heading × Clauses)} {h : Heading} {c : Clauses} {marks : List RoutineMark} {rs : List Routine}
      → announced_as waiting (name_of h.form) ≡ None → RoutinesFrom start p (waiting ++ (h, c) ∷ []) marks rs
      → RoutinesFrom start p waiting (Announced h c ∷ marks) rs
  whole : {waiting : List (Heading × Clauses)} {r : Routine} {h : Heading} {c : Clauses} {l : Locals} {b : tree.Block}
      {marks : List RoutineMark} {rs : List Routine}
      → announced_as waiting (name_of h.form) ≡ None → HeadingFrom start p r h c → BodyFrom start p r l b
      → RoutinesFrom start p waiting marks rs → RoutinesFrom start p waiting (Begins h c l ∷ Ends b ∷ marks) (r ∷ rs)
  -- of a routine that was announced the first heading counts
  with_body : {waiting : List (Heading × Clauses)} {first : Heading × Clauses} {r : Routine} {h : Heading} {c : Clauses} {l : Locals}
      {b : tree.Block} {marks : List RoutineMark} {rs : List Routine}
      → announced_as waiting (name_of h.form) ≡ Some first → repeats first.0.form h.form c ≡ true → HeadingFrom start p r first.0 first.1
      → BodyFrom start p r l b
      → RoutinesFrom start p (without waiting (name_of h.form)) marks rs
      → RoutinesFrom start p waiting (Begins h c l ∷ Ends b ∷ marks) (r ∷ rs)
