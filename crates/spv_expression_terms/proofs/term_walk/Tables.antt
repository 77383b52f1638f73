-- Tables of names and the heads that they give.
use Rattle.std.proofs.Common.{◌≡◌, Bool, true, false, cond, List, [], ◌∷◌, ◌++◌, refl, ap, ◌∙◌, Option, Some, option_map}
use Rattle.spv_logic.specs.declared.names.names.Symbol.{Symbol}
use Rattle.spv_logic.specs.declared.types.TypeId.{TypeId}
use Rattle.spv_logic.specs.declared.operators.Head.TheVariants as head
use Rattle.spv_program.specs.Lists.{same_name, found, first_of}
use Rattle.spv_program.specs.Types.{sort_of}
use Rattle.spv_program.specs.Formulas.{Formula}
use Rattle.spv_program.specs.Programs.{Routine, Program}
use Rattle.spv_program.specs.Scopes.{Scope, own_names_in, with_sorts_of, is_value_parameter, sort_or_int}
use Rattle.spv_program.specs.Terms.{formula_term, name_in, name_at_exit, start_or_name}
use Rattle.spv_expression_terms.specs.term_walk.Names.{head_in}
use Rattle.spv_expression_terms.specs.term_walk.ExpressionTerms.{expression_term, place_term}
use Rattle.spv_program.specs.Expressions.{Expression, Designator}
use Rattle.spv_expression_terms.specs.term_walk.Laws.{variable_head, HasNamesOf, variable_scope, AreOfExit}

-- a look-up in two tables with sorts, one behind the other
found_sorted : (p : Program) (own others : List (Symbol × TypeId)) (x : Symbol) → found (with_sorts_of p own ++ with_sorts_of p others) x ≡ option_map (sort_of p.forms) (first_of (found own x) (found others x))
found_sorted p [] [] x = refl
found_sorted p [] (n ∷ others) x = by_case (same_name n.0 x) (found_sorted p [] others x)
  where
    by_case : (b : Bool) → found (with_sorts_of p others) x ≡ option_map (sort_of p.forms) (found others x) → cond b (Some (sort_of p.forms n.1)) (found (with_sorts_of p others) x) ≡ option_map (sort_of p.forms) (cond b (Some n.1) (found others x))
    by_case true e = refl
    by_case false e = e
found_sorted p (n ∷ own) others x = by_case (same_name n.0 x) (found_sorted p own others x)
  where
    by_case : (b : Bool) → found (with_sorts_of p own ++ with_sorts_of p others) x ≡ option_map (sort_of p.forms) (first_of (found own x) (found others x))
        → cond b (Some (sort_of p.forms n.1)) (found (with_sorts_of p own ++ with_sorts_of p others) x) ≡ option_map (sort_of p.forms) (first_of (cond b (Some n.1) (found own x)) (found others x))
    by_case true e = refl
    by_case false e = e

module _ (names scope : Scope) (has : HasNamesOf names scope) where
  same_heads : name_in names ≡ name_in scope
  same_heads = λ i x. head.Var x (sort_or_int (has.each x i)) 0

pub tables_give_formulas : (names scope : Scope) (f : Formula) → HasNamesOf names scope → formula_term (name_in names) f ≡ formula_term (name_in scope) f
tables_give_formulas names scope f has = ap (λ heads. formula_term heads f) (same_heads names scope has)

-- ---- variables

variables_are : (p : Program) (here : Option Routine) (x : Symbol) → name_in (variable_scope p here) x ≡ variable_head p here x
variables_are p here x = ap (λ o. head.Var x (sort_or_int o) 0) (found_sorted p (own_names_in here) p.variables x)

variable_heads : (p : Program) (here : Option Routine) (names : Scope) → HasNamesOf names (variable_scope p here) → name_in names ≡ variable_head p here
variable_heads p here names has = same_heads names (variable_scope p here) has ∙ (λ i x. variables_are p here x i)

pub tables_give_expressions : (p : Program) (here : Option Routine) (names : Scope) (e : Expression) → HasNamesOf names (variable_scope p here) → expression_term (name_in names) e ≡ expression_term (variable_head p here) e
tables_give_expressions p here names e has = ap (λ heads. expression_term heads e) (variable_heads p here names has)

pub tables_give_places : (p : Program) (here : Option Routine) (names : Scope) (d : Designator) → HasNamesOf names (variable_scope p here) → place_term (name_in names) d ≡ place_term (variable_head p here) d
tables_give_places p here names d has = ap (λ heads. place_term heads d) (variable_heads p here names has)

-- ---- EXIT

pub tables_give_exits : (p : Program) (r : Routine) (names : Scope) (starts : List (Symbol × Unit {0})) (f : Formula) → AreOfExit p r names starts → formula_term (head_in names starts) f ≡ formula_term (name_at_exit p r) f
tables_give_exits p r names starts f t = ap (λ heads. formula_term heads f) (λ i x. same x i)
  where
    same : (x : Symbol) → head_in names starts x ≡ name_at_exit p r x
    same x =
        ap (λ b. start_or_name b x (sort_or_int (found names x))) (t.starts_are x)
        ∙ ap (λ o. start_or_name (is_value_parameter r x) x (sort_or_int o)) (t.names_are.each x)
