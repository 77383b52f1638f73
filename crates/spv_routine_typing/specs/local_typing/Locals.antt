-- Local declarations, over the names that a routine has.
use Rattle.std.specs.Prelude.{◌≡◌, ℤ, Bool, ◌&&◌, ◌||◌, not, List, [], ◌∷◌, ◌++◌, map, None, Ok}
use Rattle.spv_logic.specs.declared.names.names.Symbol.{Symbol}
use Rattle.spv_logic.specs.declared.types.TypeId.{TypeId}
use Rattle.spv_tree.specs.declared.syntax.declarations.Const.{Const}
use Rattle.spv_tree.specs.declared.syntax.declarations.Vars.{Vars}
use Rattle.spv_tree.specs.declared.syntax.routines.Locals.{Locals}
use Rattle.spv_program.specs.Lists.{same_name}
use Rattle.spv_typing.specs.Known.{KnownNames, is_fixed, Names, OfConstant, OfPlace, Known, is_named, named}
use Rattle.spv_typing.specs.Outcomes.{Outcome, after, where_so, each, twice}
use Rattle.spv_typing.specs.TypeWalk.{all_names, constant}
use Rattle.spv_typing.specs.DeclarationWalk.{with_program, with_types, new_name, type_walk}
use Rattle.spv_typing.specs.RoutineWalk.{in_routine, is_listed, Headed}
use Rattle.spv_typing.specs.RoutineWalk as spec
use Rattle.spv_environments.specs.declared.scopes.Own.{Own}
use Rattle.spv_environments.specs.Scopes.{own_of}
use Rattle.spv_heading_typing.specs.Names.{has}
use Rattle.spv_routine_typing.specs.declared.local_typing.places.Local.{Local}

abbrev pub names_of : {X : Type 0} → List (Symbol × X) → List Symbol
names_of entries = map (λ e. e.0) entries

-- whether a routine with these names and these listed variables may take a further name
abbrev pub free_among : KnownNames → Symbol → List (Symbol × Bool) → Names → Symbol → Bool
free_among start routine listed own x =
    not (is_fixed start x || same_name routine x) && not (is_named own x || has listed x)

abbrev pub local_of : Known → Local → spec.Local
local_of k l = record { known = k; own = named own_of l.own; variables = l.variables }

abbrev pub no_locals : Known → List (Symbol × Own) → spec.Local
no_locals k own = record { known = k; own = named own_of own; variables = [] }

abbrev pub with_constant : spec.Local → Symbol → ℤ → spec.Local
with_constant l x z = record { known = l.known; own = l.own ++ (x, OfConstant z) ∷ []; variables = l.variables }

abbrev pub with_variables : spec.Local → List Symbol → TypeId → spec.Local
with_variables l names t = record {
  known = l.known;
  own = l.own ++ map (λ x. (x, OfPlace t)) names;
  variables = l.variables ++ map (λ x. (x, t)) names;
}

module _ (routine : Symbol) (listed : List (Symbol × Bool)) where
  abbrev pub const_by : spec.Local → Const → Outcome spec.Local
  const_by l c =
      where_so (free_among l.known.start routine listed l.own c.name.symbol) (twice c.name)
      (after (constant (in_routine l.known l.own None) c.value) (λ z. Ok (with_constant l c.name.symbol z)))

  abbrev pub vars_by : spec.Local → Vars → Outcome spec.Local
  vars_by l v =
      after (each (new_name (free_among l.known.start routine listed l.own)) [] (all_names v.names)) (λ names.
      after (type_walk (in_routine l.known l.own None) v.of) (λ t.
      Ok (with_variables (record { known = with_program l.known (with_types l.known.program t.forms l.known.program.types); own = l.own; variables = l.variables }) names t.type)))

  abbrev pub locals_by : Known → List (Symbol × Own) → Locals → Outcome spec.Local
  locals_by k own l =
      after (each const_by (no_locals k own) l.constants) (λ a. each vars_by a l.variables)

-- a heading of this name, with these names of its own and these listed variables
pub record IsHeaded (h : Headed) (name : Symbol) (own : List (Symbol × Own)) (listed : List (Symbol × Bool)) : Type 0 where
  pub name_is : h.specified.heading.name ≡ name
  pub own_is : h.own ≡ named own_of own
  pub listed_is : (x : Symbol) → has listed x ≡ is_listed h.specified.heading.globals x
