-- What is known of a program, and what rules see.
use Rattle.std.proofs.Common.{◌≡◌, ℕ, ◌+◌, ℤ, List, [], ◌∷◌, ◌++◌, take, slice_get, Some, None, refl, ap, ◌∙◌, option_map}
use Rattle.spv_logic.specs.declared.names.names.Symbol.{Symbol}
use Rattle.spv_logic.specs.declared.types.TypeId.{TypeId}
use Rattle.spv_logic.specs.declared.types.Sort.{Sort}
use Rattle.spv_logic.specs.declared.types.Decl.{Decl}
use Rattle.spv_program.specs.Lists.{found}
use Rattle.spv_program.specs.Programs.{Program}
use Rattle.spv_program.specs.Scopes as program
use Rattle.spv_program.proofs.ordered_map.Putting.{one_more}
use Rattle.spv_typing.specs.Known.{KnownNames, Known, Names, Scope, OfStart, named}
use Rattle.spv_environments.specs.declared.scopes.Own.{Own}
use Rattle.spv_environments.specs.declared.scopes.Own.TheVariants as own
use Rattle.spv_environments.specs.Scopes.{own_of, result_of}
use Rattle.spv_rule_files.specs.Outcomes.{fold}
use Rattle.spv_rule_files.specs.Scopes.{known_types, constant_if_free, type_if_free, symbol_if_free, rule_known, rule_scope}
use Rattle.spv_rule_files.specs.Starts.{starts_of}
use Rattle.spv_rule_files.proofs.Meanings.{looked_up}

-- the parts of a program, one behind the other
pub rule_known_is : (start : KnownNames) (p : Program) (none constants types symbols : Known) (cs : List (Symbol × ℤ)) (ts : List (Symbol × TypeId)) (ds : List Decl)
    → none ≡ known_types start p → constants ≡ fold constant_if_free none cs → types ≡ fold type_if_free constants ts → symbols ≡ fold symbol_if_free types ds
    → cs ≡ p.constants → ts ≡ p.types → ds ≡ p.symbols → symbols ≡ rule_known start p
rule_known_is start p none constants types symbols cs ts ds first second third fourth cs_are ts_are ds_are =
    fourth ∙ (ap (λ l. fold symbol_if_free types l) ds_are
    ∙ ap (λ k. fold symbol_if_free k p.symbols)
    (third ∙ (ap (λ l. fold type_if_free constants l) ts_are
    ∙ ap (λ k. fold type_if_free k p.types)
    (second ∙ (ap (λ l. fold constant_if_free none l) cs_are ∙ ap (λ k. fold constant_if_free k p.constants) first)))))

-- ---- the table of the variables

pub starts_missing : (table : List (Symbol × Own)) (vars : program.Scope) (x : Symbol) → table ≡ starts_of vars → found vars x ≡ None → found table x ≡ None
starts_missing table vars x is missing =
    ap (λ t. found t x) is ∙ (looked_up own.Start vars x ∙ ap (option_map own.Start) missing)

pub starts_next : (old new : List (Symbol × Own)) (vars : program.Scope) (place : ℕ) (x : Symbol) (s : Sort) → old ≡ starts_of (take place vars)
    → slice_get vars place ≡ Some (x, s) → new ≡ old ++ (x, own.Start s) ∷ [] → new ≡ starts_of (take (place + 1) vars)
starts_next old new vars place x s so_far at put =
    put ∙ (ap (λ t. t ++ (x, own.Start s) ∷ []) so_far ∙ one_more (λ v. (v.0, own.Start v.1)) [] vars place (x, s) at)

-- ---- scopes

abbrev pub scope_with : Known → List (Symbol × Own) → List (Symbol × Own) → Scope
scope_with k none table = record { known = k; own = named own_of none ++ (result_of None ++ named own_of table); routine = None }

started : (vars : program.Scope) → named own_of (starts_of vars) ≡ named OfStart vars
started [] = refl
started (v ∷ vars) = ap (λ (l : Names). (v.0, OfStart v.1) ∷ l) (started vars)

pub scope_is : (k : Known) (none table : List (Symbol × Own)) (vars : program.Scope) → none ≡ [] → table ≡ starts_of vars
    → scope_with k none table ≡ rule_scope k vars
scope_is k none table vars empty is =
    ap (λ (l : List (Symbol × Own)). scope_with k l table) empty
    ∙ ap (λ (l : Names). record { known = k; own = l; routine = None }) (ap (named own_of) is ∙ started vars)
