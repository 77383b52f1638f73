-- The conditions of a whole program.
use Rattle.std.specs.Prelude.{ℕ, suc, List, [], ◌∷◌, ◌++◌, map, filter, not, Option, Some, None, option_map}
use Rattle.spv_logic.specs.declared.types.Shape.{Shape}
use Rattle.spv_logic.specs.declared.types.Decl.{Decl}
use Rattle.spv_logic.specs.declared.conditions.Kind.TheVariants as kind
use Rattle.spv_logic.specs.declared.conditions.RoutineId.{RoutineId}
use Rattle.spv_logic.specs.declared.operators.Head.{Head}
use Rattle.spv_logic.specs.declared.operators.Head.TheVariants as head
use Rattle.spv_logic.specs.Terms.{Term}
use Rattle.spv_logic.specs.Conditions.{Meaning, Condition, TrueIn}
use Rattle.spv_program.specs.Types.{sort_of}
use Rattle.spv_program.specs.Formulas.{Annotation}
use Rattle.spv_program.specs.Programs.{Routine, Program, shapes}
use Rattle.spv_program.specs.Scopes.{item_sort}
use Rattle.spv_program.specs.Terms.{alone, item_head, entry_term, exit_term}
use Rattle.spv_program.specs.Supplies.{Supply, full_supply}
use Rattle.spv_program.specs.Calls.{formal_head}
use Rattle.spv_meaning.specs.Before.{Made, wanted, assuming_if_there, replaced, annotation_term, wanted_if_there, before_body}

-- ---- routines

-- an INITIAL name is what its item is at the beginning
abbrev pub initial_pairs : Program → Routine → List (Head × Term)
initial_pairs p r = map (λ i. (head.Var i.0 (item_sort p (Some r) i.1) 0, alone (item_head p (Some r) i.1))) r.initial

-- the start of a value parameter is what the parameter is at the beginning
abbrev pub start_pairs : Program → Routine → List (Head × Term)
start_pairs p r = map (λ f. (head.Start f.name (sort_of p.forms f.of), alone (formal_head p f))) (filter (λ f. not f.by_place) r.formals)

abbrev pub wanted_exit : Program → RoutineId → Routine → Option Annotation → List Condition
wanted_exit p id r None = []
wanted_exit p id r (Some a) = wanted (Some id) kind.Exit a.line (exit_term p r a) ∷ []

-- EXIT brought in front of the body, under ENTRY, with all names as they are at the beginning
abbrev pub routine_conditions : Program → RoutineId → Routine → Supply → Made
routine_conditions p id r n =
    let made = before_body p (Some id) r.body (record { conditions = wanted_exit p id r r.exit; supply = n }) in
    record {
      conditions = replaced (initial_pairs p r ++ start_pairs p r) (assuming_if_there (option_map (entry_term p r) r.entry) made.conditions);
      supply = made.supply;
    }

-- ---- the program

abbrev pub main_conditions : Program → Supply → List Condition
main_conditions p n =
    let made = before_body p None p.main.body (record { conditions = wanted_if_there p None kind.Exit p.main.exit; supply = n }) in
    assuming_if_there (annotation_term p None p.main.entry) made.conditions

-- the routines in their order, counted from a number, and then the main block
abbrev pub conditions_from : Program → ℕ → List Routine → Supply → List Condition
conditions_from p number [] n = main_conditions p n
conditions_from p number (r ∷ routines) n =
    let made = routine_conditions p (record { 0 = number }) r n in made.conditions ++ conditions_from p (suc number) routines made.supply

abbrev pub conditions_of : Program → List Condition
conditions_of p = conditions_from p 0 p.routines full_supply

-- ---- the truth of all conditions

abbrev pub AllTrueIn : List Shape → List Decl → Meaning → List Condition → Type 0
AllTrueIn shapes decls world [] = Unit {0}
AllTrueIn shapes decls world (c ∷ cs) = TrueIn shapes decls world c.claim × AllTrueIn shapes decls world cs
