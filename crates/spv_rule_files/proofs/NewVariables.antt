-- Variables that are new.
use Rattle.std.proofs.Common.{◌≡◌, ℕ, Bool, true, false, ◌&&◌, ◌||◌, not, List, [], ◌∷◌, ◌++◌, map, Result, Ok, Err, IfOk, is_some, refl, sym, ap, ◌∙◌, subst}
use Rattle.std.proofs.lemmas.Bool.{true≢false, false≢true}
use Rattle.std.specs.List.{list_any}
use Rattle.spv_logic.specs.declared.names.names.Symbol.{Symbol}
use Rattle.spv_logic.specs.declared.types.Sort.{Sort}
use Rattle.spv_logic.proofs.list.Tests.{left_true, right_true}
use Rattle.spv_tree.specs.declared.syntax.names.Name.{Name}
use Rattle.spv_tree.specs.declared.syntax.rules.RuleVars.{RuleVars}
use Rattle.spv_program.specs.Lists.{found, same_name}
use Rattle.spv_program.specs.Scopes as program
use Rattle.spv_program.specs.ordered_map.Entries.{under}
use Rattle.spv_typing.specs.declared.faults.TypeFault.{TypeFault}
use Rattle.spv_typing.specs.Outcomes.{Outcome, after, where_so, each, twice}
use Rattle.spv_typing.specs.TypeWalk.{all_names}
use Rattle.spv_typing.specs.Known.{Known, is_free}
use Rattle.spv_typing.specs.DeclarationWalk.{new_name}
use Rattle.spv_declaration_typing.specs.type_typing.Names.{only_names}
use Rattle.spv_rule_files.specs.Scopes.{rule_scope, is_free_variable}
use Rattle.spv_rule_files.specs.Variables.{sort_in, of_sort, variables_walk}
use Rattle.spv_rule_files.specs.VariableNames.{AllNew}

-- ---- names that were read are new

abbrev is_fault : {A : Type 0} → Outcome A → Bool
is_fault (Ok x) = false
is_fault (Err e) = true

no_fault : {A : Type 0} {e : TypeFault} {x : A} → Err e ≡ Ok x → ⊥
no_fault h = true≢false (ap is_fault h)

abbrev names_or : List Symbol → Outcome (List Symbol) → List Symbol
names_or other (Ok names) = names
names_or other (Err e) = other

any_behind : (test : Symbol → Bool) (xs : List Symbol) (x : Symbol) → list_any test xs ≡ false → test x ≡ false → list_any test (xs ++ x ∷ []) ≡ false
any_behind test [] x none h = ap (λ b. b || false) h
any_behind test (y ∷ xs) x none h = by_case (test y) none (λ later. any_behind test xs x later h)
  where
    by_case : (b : Bool) → (b || list_any test xs) ≡ false → (list_any test xs ≡ false → list_any test (xs ++ x ∷ []) ≡ false)
        → (b || list_any test (xs ++ x ∷ [])) ≡ false
    by_case true e more = absurd (true≢false e)
    by_case false e more = more e

pub all_free : (free : Symbol → Bool) (taken : Symbol → Bool) (done out : List Symbol) (names : List Name) → ((x : Symbol) → free x ≡ true → taken x ≡ false)
    → list_any taken done ≡ false → each (new_name free) done names ≡ Ok out → list_any taken out ≡ false
all_free free taken done out [] h none e = subst (λ (o : Outcome (List Symbol)). list_any taken (names_or done o) ≡ false) e none
all_free free taken done out (x ∷ names) h none e =
    by_case (free x.symbol && not (list_any (same_name x.symbol) done)) refl e (λ d. all_free free taken d out names h)
  where
    by_case : (b : Bool) → (free x.symbol && not (list_any (same_name x.symbol) done)) ≡ b
        → after (where_so b (twice x) (Ok (done ++ x.symbol ∷ []))) (λ next. each (new_name free) next names) ≡ Ok out
        → ((d : List Symbol) → list_any taken d ≡ false → each (new_name free) d names ≡ Ok out → list_any taken out ≡ false) → list_any taken out ≡ false
    by_case true is f more =
        more (done ++ x.symbol ∷ []) (any_behind taken done x.symbol none (h x.symbol (left_true (free x.symbol) (not (list_any (same_name x.symbol) done)) is))) f
    by_case false is f more = absurd (no_fault f)

not_true : (b : Bool) → not b ≡ true → b ≡ false
not_true false h = refl
not_true true h = absurd (false≢true h)

any_named : (test : Symbol → Bool) (names : List (Symbol × ℕ)) → list_any test (only_names names) ≡ list_any (λ e. test e.0) names
any_named test [] = refl
any_named test (e ∷ names) = ap (λ b. test e.0 || b) (any_named test names)

pub names_are_new : (k : Known) (vars : program.Scope) (names : List Name) (new : List (Symbol × ℕ))
    → each (new_name (is_free_variable k vars)) [] names ≡ Ok (only_names new) → AllNew vars new
names_are_new k vars names new h =
    sym (any_named has new) ∙ all_free (is_free_variable k vars) has [] (only_names new) names not_there refl h
  where
    has : Symbol → Bool
    has x = is_some (found vars x)

    not_there : (x : Symbol) → is_free_variable k vars x ≡ true → has x ≡ false
    not_there x free = not_true (has x) (right_true (is_free k x) (not (has x)) free)

-- ---- variables of one line

all_under : (s : Sort) (names : List (Symbol × ℕ)) → of_sort s (only_names names) ≡ map (under s) names
all_under s [] = refl
all_under s (e ∷ names) = ap (λ (l : program.Scope). (e.0, s) ∷ l) (all_under s names)

pub variables_read : (k : Known) (vars new : program.Scope) (v : RuleVars) (names : List (Symbol × ℕ)) (s : Sort)
    → each (new_name (is_free_variable k vars)) [] (all_names v.names) ≡ Ok (only_names names) → sort_in (rule_scope k vars) v.sort ≡ Ok s
    → new ≡ vars ++ map (under s) names → variables_walk k vars v ≡ Ok new
variables_read k vars new v names s read sorted put =
    ap (λ o. after o (λ names. after (sort_in (rule_scope k vars) v.sort) (λ s. Ok (vars ++ of_sort s names)))) read
    ∙ (ap (λ o. after o (λ s. Ok (vars ++ of_sort s (only_names names)))) sorted
    ∙ ap Ok (ap (λ l. vars ++ l) (all_under s names) ∙ sym put))

pub new_if_ok : (k : Known) (vars : program.Scope) (names : List Name) (r : Result (List (Symbol × ℕ)) TypeFault)
    → IfOk r (λ n. each (new_name (is_free_variable k vars)) [] names ≡ Ok (only_names n)) → IfOk r (λ n. AllNew vars n)
new_if_ok k vars names (Ok n) h = names_are_new k vars names n h
new_if_ok k vars names (Err e) h = tt
