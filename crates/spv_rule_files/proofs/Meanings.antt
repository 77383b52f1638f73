-- What names stand for among the variables of a rule file.
use Rattle.std.proofs.Common.{◌≡◌, Bool, true, false, cond, List, [], ◌∷◌, Option, Some, None, refl, ap, ◌∙◌, option_map, map}
use Rattle.spv_logic.specs.declared.names.names.Symbol.{Symbol}
use Rattle.spv_logic.specs.declared.types.Sort.{Sort}
use Rattle.spv_program.specs.Lists.{found, same_name, first_of}
use Rattle.spv_program.specs.Scopes as program
use Rattle.spv_typing.specs.Known.{Known, OfStart, meaning, program_names}
use Rattle.spv_rule_files.specs.Scopes.{rule_scope}

pub looked_up : {X Y : Type 0} (f : X → Y) (xs : List (Symbol × X)) (x : Symbol) → found (map (λ e. (e.0, f e.1)) xs) x ≡ option_map f (found xs x)
looked_up f [] x = refl
looked_up f (e ∷ xs) x = by_case (same_name e.0 x) (looked_up f xs x)
  where
    by_case : (b : Bool) → found (map (λ e. (e.0, f e.1)) xs) x ≡ option_map f (found xs x)
        → cond b (Some (f e.1)) (found (map (λ e. (e.0, f e.1)) xs) x) ≡ option_map f (cond b (Some e.1) (found xs x))
    by_case true later = refl
    by_case false later = later

module _ (k : Known) (vars : program.Scope) (x : Symbol) where
  by_variable : (o : Option Sort) → found vars x ≡ o → meaning (rule_scope k vars) x ≡ first_of (option_map OfStart o) (found (program_names k) x)
  by_variable o h = ap (λ p. first_of p (found (program_names k) x)) (looked_up OfStart vars x ∙ ap (option_map OfStart) h)

  pub variable_found : (s : Sort) → found vars x ≡ Some s → meaning (rule_scope k vars) x ≡ Some (OfStart s)
  variable_found s h = by_variable (Some s) h

  pub variable_missing : found vars x ≡ None → meaning (rule_scope k vars) x ≡ found (program_names k) x
  variable_missing h = by_variable None h
