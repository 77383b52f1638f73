-- What the code's INITIAL names are in the definition of the walk.
use Rattle.std.specs.List.{list_any}
use Rattle.std.specs.Prelude.{◌≡◌, ℕ, false, List, [], ◌∷◌, ◌++◌, Option, None, Ok}
use Rattle.spv_logic.specs.declared.names.names.Symbol.{Symbol}
use Rattle.spv_logic.specs.declared.types.Sort.{Sort}
use Rattle.spv_tree.specs.declared.syntax.declarations.NameOrClass.{NameOrClass}
use Rattle.spv_tree.specs.declared.syntax.lists.Several.{Several}
use Rattle.spv_tree.specs.declared.syntax.routines.Start.{Start}
use Rattle.spv_program.specs.declared.types.Item.{Item}
use Rattle.spv_program.specs.Programs.{GlobalItem}
use Rattle.spv_typing.specs.Known as known
use Rattle.spv_typing.specs.Outcomes.{Outcome, after}
use Rattle.spv_typing.specs.RoutineWalk as spec
use Rattle.spv_environments.specs.declared.scopes.Own.{Own}
use Rattle.spv_environments.specs.Scopes.{own_of}
use Rattle.spv_heading_typing.specs.declared.parameters.Parameters.{Parameters}
use Rattle.spv_heading_typing.specs.declared.starts.Starts.{Starts}
use Rattle.spv_heading_typing.specs.Names.{has}
use Rattle.spv_heading_typing.specs.Parameters.{parameters_of}

abbrev pub starts_of : Starts → spec.Starts
starts_of s = record { initial = s.initial; own = known.named own_of s.own }

-- no INITIAL name is one of a parameter
abbrev pub AreApart : Parameters → Starts → Type 0
AreApart p s = list_any (λ e. has p.own e.0) s.own ≡ false

-- the item of an INITIAL name with its sort, in a routine that has some names
abbrev pub initial_in : known.Known → List (Symbol × Own) → ℕ → NameOrClass → Outcome (Item × Sort)
initial_in k own line form =
    let s = spec.in_routine k (known.named own_of own) None in
    after (spec.initial_item s line form) (λ item. Ok (item, spec.item_sort s item))

abbrev pub one_start : spec.Starts → Symbol → Item → Sort → spec.Starts
one_start so_far name item of = record {
  initial = so_far.initial ++ (name, item) ∷ [];
  own = so_far.own ++ (name, known.OfStart of) ∷ [];
}

-- the INITIAL names with one more, in a routine with these parameters
abbrev pub start_in : known.Known → Symbol → Parameters → List GlobalItem → spec.Starts → Start → Outcome spec.Starts
start_in k routine ps globals so_far x = spec.start_walk k routine (parameters_of ps).formals globals (parameters_of ps).own so_far x

-- all INITIAL names of a routine with these parameters
abbrev pub initial_walk : known.Known → Symbol → Parameters → List GlobalItem → Option (Several Start) → Outcome spec.Starts
initial_walk k routine ps globals starts = spec.initial_walk k routine (parameters_of ps).formals globals (parameters_of ps).own starts
