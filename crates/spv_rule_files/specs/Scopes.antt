-- What the names in a rule file stand for: its variables, and the constants, types and symbols of the program.
use Rattle.std.specs.Prelude.{Bool, ◌&&◌, not, [], ◌∷◌, ◌++◌, None, ℤ, is_some, if◌then◌else◌}
use Rattle.spv_logic.specs.declared.names.names.Symbol.{Symbol}
use Rattle.spv_logic.specs.declared.types.TypeId.{TypeId}
use Rattle.spv_logic.specs.declared.types.Decl.{Decl}
use Rattle.spv_program.specs.Lists.{found}
use Rattle.spv_program.specs.Programs.{Program}
use Rattle.spv_program.specs.Scopes as program
use Rattle.spv_typing.specs.Known.{KnownNames, Known, OfStart, Scope, is_free, named}
use Rattle.spv_typing.specs.DeclarationWalk.{with_program, with_constant, with_types, with_symbol}
use Rattle.spv_typing.specs.ProgramWalk.{known_at_first}
use Rattle.spv_rule_files.specs.Outcomes.{fold}

-- ---- what is known of the program: its types, and each constant, name of a type and symbol whose name nothing else has

abbrev pub known_types : KnownNames → Program → Known
known_types start p = let first = known_at_first start in with_program first (with_types first.program p.forms [])

abbrev pub constant_if_free : Known → Symbol × ℤ → Known
constant_if_free k c = if is_free k c.0 then with_program k (with_constant k.program c.0 c.1) else k

abbrev pub type_if_free : Known → Symbol × TypeId → Known
type_if_free k n =
    if is_free k n.0 then with_program k (with_types k.program k.program.forms (k.program.types ++ (n.0, n.1) ∷ [])) else k

abbrev pub symbol_if_free : Known → Decl → Known
symbol_if_free k d = if is_free k d.name then with_program k (with_symbol k.program d) else k

-- neither the program's variables nor its routines are known
abbrev pub rule_known : KnownNames → Program → Known
rule_known start p =
    fold symbol_if_free (fold type_if_free (fold constant_if_free (known_types start p) p.constants) p.types) p.symbols

-- ---- the variables of the rule file so far, with their sorts

-- what a rule sees of them and of the program
abbrev pub rule_scope : Known → program.Scope → Scope
rule_scope k vars = record { known = k; own = named OfStart vars; routine = None }

-- whether a further variable may have a name
abbrev pub is_free_variable : Known → program.Scope → Symbol → Bool
is_free_variable k vars x = is_free k x && not (is_some (found vars x))
