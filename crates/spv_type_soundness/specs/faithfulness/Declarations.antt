-- From which trees declarations may come.
use Rattle.std.specs.Prelude.{◌≡◌, ℕ, List, [], ◌∷◌, ◌++◌, map, Option, Some, None, ℤ}
use Rattle.spv_logic.specs.declared.names.names.Symbol.{Symbol}
use Rattle.spv_logic.specs.declared.types.TypeId.{TypeId}
use Rattle.spv_logic.specs.declared.types.Sort.{Sort}
use Rattle.spv_logic.specs.declared.types.Sort.TheVariants as sort
use Rattle.spv_logic.specs.declared.types.Decl.{Decl}
use Rattle.spv_tree.specs.declared.syntax.lists.Several.{Several}
use Rattle.spv_tree.specs.declared.syntax.names.Name.{Name}
use Rattle.spv_tree.specs.declared.syntax.declarations.Const.{Const}
use Rattle.spv_tree.specs.declared.syntax.declarations.Typedef.{Typedef}
use Rattle.spv_tree.specs.declared.syntax.declarations.Vars.{Vars}
use Rattle.spv_tree.specs.declared.syntax.declarations.NameOrClass.TheVariants as written
use Rattle.spv_tree.specs.declared.syntax.declarations.SortName.{SortName}
use Rattle.spv_tree.specs.declared.syntax.declarations.SymbolText.{SymbolText}
use Rattle.spv_tree.specs.declared.syntax.declarations.Declarations.{Declarations}
use Rattle.spv_program.specs.Types.{sort_of}
use Rattle.spv_program.specs.Programs.{Program}
use Rattle.spv_typing.specs.Known.{KnownNames}
use Rattle.spv_type_soundness.specs.faithfulness.Names.{View, type_named, at_top}
use Rattle.spv_type_soundness.specs.faithfulness.Statements.{ConstantFrom}
use Rattle.spv_type_soundness.specs.faithfulness.Types.{TypeFrom}

-- constants, each by those before it
pub data ConstsFrom (see : List (Symbol × ℤ) → View) : List (Symbol × ℤ) → List Const → List (Symbol × ℤ) → Type 0 where
  no_consts : {before : List (Symbol × ℤ)} → ConstsFrom see before [] before
  one_const : {before all : List (Symbol × ℤ)} {z : ℤ} {c : Const} {cs : List Const}
      → ConstantFrom (see before) z c.value → ConstsFrom see (before ++ (c.name.symbol, z) ∷ []) cs all → ConstsFrom see before (c ∷ cs) all

-- types, each by those before it, but that pointers may lead to later ones
pub data TypedefsFrom (see : List (Symbol × TypeId) → View) (targets : List (Symbol × TypeId)) : List (Symbol × TypeId) → List Typedef
    → List (Symbol × TypeId) → Type 0 where
  no_typedefs : {before : List (Symbol × TypeId)} → TypedefsFrom see targets before [] before
  one_typedef : {before all : List (Symbol × TypeId)} {t : TypeId} {d : Typedef} {ds : List Typedef}
      → TypeFrom (see before) targets t d.of → TypedefsFrom see targets (before ++ (d.name.symbol, t) ∷ []) ds all
      → TypedefsFrom see targets before (d ∷ ds) all

-- variables, group by group
abbrev pub group_of : List Name → TypeId → List (Symbol × TypeId)
group_of names t = map (λ x. (x.symbol, t)) names

pub data VarsFrom (see : List (Symbol × TypeId) → View) (targets : List (Symbol × TypeId)) : List (Symbol × TypeId) → List Vars
    → List (Symbol × TypeId) → Type 0 where
  no_vars : {before : List (Symbol × TypeId)} → VarsFrom see targets before [] before
  one_group : {before all : List (Symbol × TypeId)} {t : TypeId} {g : Vars} {gs : List Vars}
      → TypeFrom (see before) targets t g.of → VarsFrom see targets (before ++ group_of (g.names.first ∷ g.names.more) t) gs all
      → VarsFrom see targets before (g ∷ gs) all

-- ---- declared symbols

module _ (v : View) where
  pub data SortFrom : Sort → SortName → Type 0 where
    of_type : {t : TypeId} {line : ℕ} {x : Name} → type_named v x.symbol ≡ Some t
        → SortFrom (sort_of v.program.forms t) (record { line = line; form = written.Name x })
    of_list : {line : ℕ} {x : Name} → v.start.list ≡ x.symbol → SortFrom sort.List (record { line = line; form = written.Name x })
    of_class : {t : TypeId} {line : ℕ} {x : Name} → type_named v x.symbol ≡ Some t
        → SortFrom (sort.Class t) (record { line = line; form = written.Class x })

  pub data SortsFrom : List Sort → List SortName → Type 0 where
    no_sorts : SortsFrom [] []
    one_sort : {s : Sort} {ss : List Sort} {n : SortName} {ns : List SortName} → SortFrom s n → SortsFrom ss ns
        → SortsFrom (s ∷ ss) (n ∷ ns)

  abbrev pub sorts_written : Option (Several SortName) → List SortName
  sorts_written None = []
  sorts_written (Some sorts) = sorts.first ∷ sorts.more

  pub data SymbolsFrom : List Decl → List SymbolText → Type 0 where
    no_symbols : SymbolsFrom [] []
    one_symbol : {d : Decl} {ds : List Decl} {t : SymbolText} {ts : List SymbolText}
        → d.name ≡ t.name.symbol → SortsFrom d.args (sorts_written t.arguments) → SortFrom d.result t.result → SymbolsFrom ds ts
        → SymbolsFrom (d ∷ ds) (t ∷ ts)

-- ---- all of them

-- what is seen where only these constants, or only these types, are declared yet
abbrev pub with_constants : KnownNames → Program → List (Symbol × ℤ) → View
with_constants start p before = at_top start (record p { constants = before })

abbrev pub with_types : KnownNames → Program → List (Symbol × TypeId) → View
with_types start p before = at_top start (record p { types = before })

pub record DeclarationsFrom (start : KnownNames) (p : Program) (d : Declarations) : Type 0 where
  pub constants : ConstsFrom (with_constants start p) [] d.constants p.constants
  pub types : TypedefsFrom (with_types start p) p.types [] d.types p.types
  pub variables : VarsFrom (λ before. at_top start p) p.types [] d.variables p.variables
  pub symbols : SymbolsFrom (at_top start p) p.symbols d.symbols
