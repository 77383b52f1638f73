-- What a statement may change, calls and all.
use Rattle.std.specs.Prelude.{ℕ, suc, List, [], ◌∷◌, ◌++◌, map, filter, Option, Some, None, if◌then◌else◌}
use Rattle.std.specs.List.{list_any, flat_map}
use Rattle.spv_logic.specs.declared.names.names.Symbol.{Symbol}
use Rattle.spv_logic.specs.declared.types.TypeId.{TypeId}
use Rattle.spv_logic.specs.declared.operators.Head.{Head}
use Rattle.spv_logic.specs.declared.operators.Head.TheVariants as head
use Rattle.spv_program.specs.declared.types.Item.{Item}
use Rattle.spv_program.specs.declared.types.TypeForm.{TypeForm}
use Rattle.spv_program.specs.declared.types.Item.TheVariants.{Variable, Class}
use Rattle.spv_program.specs.Types.{same_type, sort_of}
use Rattle.spv_program.specs.Expressions.{Call, call}
use Rattle.spv_program.specs.Statements.{Statement}
use Rattle.spv_program.specs.Programs.{GlobalItem, Routine, Program, routine_at}
use Rattle.spv_program.specs.Scopes.{own_names_in, is_own}
use Rattle.spv_program.specs.Uses.{Root, Own, Shared, same_root, statement_uses, statement_calls}

-- the items that a routine may change
abbrev pub var_items : List GlobalItem → List Item
var_items globals = map (λ g. g.item) (filter (λ g. g.is_var) globals)

abbrev pub items_of_callee : Option Routine → List Item
items_of_callee None = []
items_of_callee (Some r) = var_items r.globals

-- what a call changes beside its VAR arguments: the items of the callee's VAR groups
abbrev pub changed_by_call : Program → Call → List Root
changed_by_call p (call r line given) = map Shared (items_of_callee (routine_at p r))

-- what a statement writes, and what the routines that it calls may change
abbrev pub changed_roots : Program → Option Routine → Statement → List Root
changed_roots p here s =
    map (λ u. u.root) (filter (λ u. u.changes) (statement_uses (is_own here) s)) ++ flat_map (changed_by_call p) (statement_calls s)

-- ---- in the order of declaration

-- each type of a list once, where it stands first
abbrev pub types_once : List TypeId → List TypeId → List TypeId
types_once seen [] = []
types_once seen (t ∷ types) = if list_any (same_type t) seen then types_once seen types else t ∷ types_once (t ∷ seen) types

-- the types with these forms, where the first of them has this number
abbrev pub types_from : ℕ → List TypeForm → List TypeId
types_from n [] = []
types_from n (f ∷ forms) = record { 0 = n } ∷ types_from (suc n) forms

abbrev pub types_of_names : List (Symbol × TypeId) → List TypeId
types_of_names names = map (λ n. n.1) names

-- the types of a program: those that have names, in the order of the names, and then all others
abbrev pub all_types : Program → List TypeId
all_types p = types_once [] (types_of_names p.types ++ types_from 0 p.forms)

-- the variables and classes of a program as a routine sees them: own names, program variables, classes
abbrev pub all_roots : Program → Option Routine → List (Root × Head)
all_roots p here =
    map (λ n. (Own n.0, head.Var n.0 (sort_of p.forms n.1) 0)) (own_names_in here)
    ++ (map (λ n. (Shared (Variable n.0), head.Var n.0 (sort_of p.forms n.1) 0)) p.variables ++ map
    (λ t. (Shared (Class t), head.ClassVar t 0)) (all_types p))

-- the variables and classes that a statement may change, in the order of declaration
abbrev pub changed_heads : Program → Option Routine → Statement → List Head
changed_heads p here s =
    let roots = changed_roots p here s in map (λ r. r.1) (filter (λ r. list_any (same_root r.0) roots) (all_roots p here))
