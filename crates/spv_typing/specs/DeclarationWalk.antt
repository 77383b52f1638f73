-- The walk over declarations.
use Rattle.std.specs.Prelude.{ℕ, Bool, ◌&&◌, not, List, [], ◌∷◌, ◌++◌, map, Option, Some, None, Ok, Err, ℤ}
use Rattle.std.specs.List.{list_any}
use Rattle.spv_logic.specs.declared.names.names.Symbol.{Symbol}
use Rattle.spv_logic.specs.declared.types.TypeId.{TypeId}
use Rattle.spv_logic.specs.declared.types.Sort.{Sort}
use Rattle.spv_logic.specs.declared.types.Sort.TheVariants as sort
use Rattle.spv_logic.specs.declared.types.Decl.{Decl}
use Rattle.spv_tree.specs.declared.syntax.names.Name.{Name}
use Rattle.spv_tree.specs.declared.syntax.lists.Several.{Several}
use Rattle.spv_tree.specs.declared.syntax.declarations.Const.{Const}
use Rattle.spv_tree.specs.declared.syntax.declarations.Typedef.{Typedef}
use Rattle.spv_tree.specs.declared.syntax.declarations.Vars.{Vars}
use Rattle.spv_tree.specs.declared.syntax.declarations.NameOrClass.{NameOrClass}
use Rattle.spv_tree.specs.declared.syntax.declarations.NameOrClass.TheVariants as written
use Rattle.spv_tree.specs.declared.syntax.declarations.SortName.{SortName}
use Rattle.spv_tree.specs.declared.syntax.declarations.SymbolText.{SymbolText}
use Rattle.spv_tree.specs.declared.syntax.declarations.Declarations.{Declarations}
use Rattle.spv_tree.specs.syntax.Types.{TypeDenoter}
use Rattle.spv_program.specs.declared.types.TypeForm.{TypeForm}
use Rattle.spv_program.specs.Lists.{same_name}
use Rattle.spv_program.specs.Types.{sort_of}
use Rattle.spv_program.specs.Programs.{Program}
use Rattle.spv_typing.specs.Outcomes.{Outcome, after, where_so, each, all_of, undeclared, twice, wrong}
use Rattle.spv_typing.specs.Known.{Meaning, OfType, OfList, Scope, Known, at_top, meaning, is_free, is_free_for_call}
use Rattle.spv_typing.specs.Merging.{Written, Built, merged}
use Rattle.spv_typing.specs.TypeWalk.{all_names, constant, denoted}

-- ---- the program so far, with something more

abbrev pub with_program : Known → Program → Known
with_program k p = record { start = k.start; program = p; headings = k.headings; awaited = k.awaited }

abbrev pub with_constant : Program → Symbol → ℤ → Program
with_constant p x z = record {
  forms = p.forms;
  titles = p.titles;
  types = p.types;
  constants = p.constants ++ (x, z) ∷ [];
  variables = p.variables;
  symbols = p.symbols;
  routines = p.routines;
  main = p.main;
}

abbrev pub with_types : Program → List TypeForm → List (Symbol × TypeId) → Program
with_types p forms types = record {
  forms = forms;
  titles = p.titles;
  types = types;
  constants = p.constants;
  variables = p.variables;
  symbols = p.symbols;
  routines = p.routines;
  main = p.main;
}

abbrev pub with_variables : Program → List TypeForm → List (Symbol × TypeId) → Program
with_variables p forms more = record {
  forms = forms;
  titles = p.titles;
  types = p.types;
  constants = p.constants;
  variables = p.variables ++ more;
  symbols = p.symbols;
  routines = p.routines;
  main = p.main;
}

abbrev pub with_symbol : Program → Decl → Program
with_symbol p d = record {
  forms = p.forms;
  titles = p.titles;
  types = p.types;
  constants = p.constants;
  variables = p.variables;
  symbols = p.symbols ++ d ∷ [];
  routines = p.routines;
  main = p.main;
}

-- ---- constants

abbrev pub const_walk : Known → Const → Outcome Known
const_walk k c =
    where_so (is_free k c.name.symbol) (twice c.name)
    (after (constant (at_top k) c.value) (λ z. Ok (with_program k (with_constant k.program c.name.symbol z))))

-- ---- the TYPE part: types have numbers in the order of the text first, and equal pointer types are put together at its end

pub record TypePart : Type 0 where
  pub known : Known
  pub written : List Written

abbrev pub typedef_walk : (Symbol → Bool) → TypePart → Typedef → Outcome TypePart
typedef_walk is_target part d =
    where_so (is_free part.known d.name.symbol) (twice d.name)
    (after (denoted (at_top part.known) is_target part.written d.of) (λ r.
    let p = part.known.program in
    Ok (record { known = with_program part.known (with_types p p.forms (p.types ++ (d.name.symbol, r.type) ∷ [])); written = r.written })))

abbrev pub with_merged : TypePart → Known
with_merged part =
    let p = part.known.program in
    let m = merged p.types part.written in
    with_program part.known (with_types p m.forms (map (λ n. (n.0, m.new n.1)) p.types))

abbrev pub type_part_walk : Known → List Typedef → Outcome Known
type_part_walk k types =
    after (each (typedef_walk (λ x. list_any (λ d. same_name d.name.symbol x) types)) (record { known = k; written = map Built k.program.forms }) types)
    (λ part. Ok (with_merged part))

-- ---- types outside the TYPE part: a pointer type that is there already is that one

pub record NewType : Type 0 where
  pub forms : List TypeForm
  pub type : TypeId

abbrev pub is_type_name : Program → Symbol → Bool
is_type_name p x = list_any (λ n. same_name n.0 x) p.types

abbrev pub type_walk : Scope → TypeDenoter → Outcome NewType
type_walk s t =
    let p = s.known.program in
    after (denoted s (is_type_name p) (map Built p.forms) t) (λ r.
    let m = merged p.types r.written in
    Ok (record { forms = m.forms; type = m.new r.type }))

-- ---- variables

-- the names of variables of one type, each free and none twice
abbrev pub new_name : (Symbol → Bool) → List Symbol → Name → Outcome (List Symbol)
new_name free done x =
    where_so (free x.symbol && not (list_any (same_name x.symbol) done)) (twice x) (Ok (done ++ x.symbol ∷ []))

abbrev pub vars_walk : Known → Vars → Outcome Known
vars_walk k v =
    after (each (new_name (is_free k)) [] (all_names v.names)) (λ names.
    after (type_walk (at_top k) v.of) (λ t.
    Ok (with_program k (with_variables k.program t.forms (map (λ x. (x, t.type)) names)))))

-- ---- declared symbols

abbrev pub sort_named : List TypeForm → ℕ → Name → Option Meaning → Outcome Sort
sort_named forms line x None = Err (undeclared x)
sort_named forms line x (Some (OfType t)) = Ok (sort_of forms t)
sort_named forms line x (Some OfList) = Ok sort.List
sort_named forms line x (Some other) = Err (wrong line)

abbrev pub class_named : ℕ → Name → Option Meaning → Outcome TypeId
class_named line x None = Err (undeclared x)
class_named line x (Some (OfType t)) = Ok t
class_named line x (Some other) = Err (wrong line)

abbrev pub sort_walk : Known → SortName → Outcome Sort
sort_walk k n = of_form n.form
  where
    of_form : NameOrClass → Outcome Sort
    of_form (written.Name x) = sort_named k.program.forms n.line x (meaning (at_top k) x.symbol)
    of_form (written.Class x) = after (class_named n.line x (meaning (at_top k) x.symbol)) (λ t. Ok (sort.Class t))

abbrev pub sorts_in_brackets : Option (Several SortName) → List SortName
sorts_in_brackets None = []
sorts_in_brackets (Some sorts) = all_names sorts

abbrev pub symbol_walk : Known → SymbolText → Outcome Known
symbol_walk k d =
    where_so (is_free_for_call k d.name.symbol) (twice d.name)
    (after (all_of (sort_walk k) (sorts_in_brackets d.arguments)) (λ args.
    after (sort_walk k d.result) (λ result.
    Ok (with_program k (with_symbol k.program (record { name = d.name.symbol; args = args; result = result }))))))

-- ---- all of them

abbrev pub declarations_walk : Known → Declarations → Outcome Known
declarations_walk k d =
    after (each const_walk k d.constants) (λ a.
    after (type_part_walk a d.types) (λ b.
    after (each vars_walk b d.variables) (λ c. each symbol_walk c d.symbols)))
