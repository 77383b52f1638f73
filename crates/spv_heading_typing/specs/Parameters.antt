-- What the code's parameters are in the definition of the walk.
use Rattle.std.specs.Prelude.{◌≡◌, ℕ, Bool, true, false, ◌&&◌, List, [], map, None, Ok}
use Rattle.std.specs.List.{list_any}
use Rattle.spv_logic.specs.declared.names.names.Symbol.{Symbol}
use Rattle.spv_logic.specs.declared.types.TypeId.{TypeId}
use Rattle.spv_tree.specs.declared.syntax.names.Name.{Name}
use Rattle.spv_tree.specs.declared.syntax.lists.Several.{Several}
use Rattle.spv_program.specs.Lists.{same_name}
use Rattle.spv_program.specs.declared.typed.programs.Formal.{Formal}
use Rattle.spv_program.specs.typed.ProgramViews.{formal_of}
use Rattle.spv_typing.specs.Known as known
use Rattle.spv_typing.specs.Outcomes.{Outcome, after, each}
use Rattle.spv_typing.specs.TypeWalk.{all_names, type_named}
use Rattle.spv_typing.specs.DeclarationWalk.{new_name}
use Rattle.spv_typing.specs.RoutineWalk as spec
use Rattle.spv_environments.specs.declared.scopes.Own.{Own}
use Rattle.spv_environments.specs.Scopes.{own_of}
use Rattle.spv_heading_typing.specs.declared.parameters.Parameters.{Parameters}
use Rattle.spv_heading_typing.specs.Names.{has}

abbrev pub parameters_of : Parameters → spec.Parameters
parameters_of p = record { formals = map formal_of p.formals; own = known.named own_of p.own }

-- the parameters of a group
abbrev pub formals_named : {X : Type 0} → List (Symbol × X) → TypeId → Bool → ℕ → List Formal
formals_named names of by_place line = map (λ e. record { name = e.0; of = of; by_place = by_place; line = line }) names

-- those of its names that have VAR
abbrev pub group_of : {X : Type 0} → Bool → List (Symbol × X) → List (Symbol × X)
group_of true names = names
group_of false names = []

-- the table of names with VAR is that of the parameters
pub record IsPlaces (p : Parameters) : Type 0 where
  pub places : (x : Symbol) → has p.places x ≡ list_any (λ f. same_name f.name x && f.by_place) (map formal_of p.formals)
  pub within : (x : Symbol) → has p.own x ≡ false → has p.places x ≡ false

-- the names of a group of variables, in a routine that has some names
abbrev pub names_walk : known.Known → Symbol → List (Symbol × Own) → Several Name → Outcome (List Symbol)
names_walk k routine own names = each (new_name (spec.is_free_in k.start routine [] (known.named own_of own))) [] (all_names names)

-- the type of a name in a routine that has some names
abbrev pub type_walk : known.Known → List (Symbol × Own) → Name → Outcome TypeId
type_walk k own of = type_named of.line of (known.meaning (spec.in_routine k (known.named own_of own) None) of.symbol)

-- a group of variables
abbrev pub variables_walk : known.Known → Symbol → spec.Parameters → ℕ → Bool → Several Name → Name → Outcome spec.Parameters
variables_walk k routine ps line by_place names of =
    after (each (new_name (spec.is_free_in k.start routine [] ps.own)) [] (all_names names)) (λ new.
    after (type_named of.line of (known.meaning (spec.in_routine k ps.own None) of.symbol)) (λ t. Ok (spec.with_group ps new t by_place line)))
