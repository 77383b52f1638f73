-- What the tables of a body find.
use Rattle.std.proofs.Common.{◌≡◌, Bool, true, false, cond, List, [], ◌∷◌, ◌++◌, map, Option, Some, None, option_map, refl, sym, ap, subst, ◌∙◌}
use Rattle.std.proofs.lemmas.List.{append_assoc, map-append}
use Rattle.spv_logic.specs.declared.names.names.Symbol.{Symbol}
use Rattle.spv_logic.specs.declared.types.TypeId.{TypeId}
use Rattle.spv_logic.specs.declared.types.Sort.{Sort}
use Rattle.spv_program.specs.declared.types.Item.{Item}
use Rattle.spv_program.specs.declared.types.Item.TheVariants.{Variable, Class}
use Rattle.spv_program.specs.declared.types.TypeForm.{TypeForm}
use Rattle.spv_program.specs.Lists.{same_name, found, first_of}
use Rattle.spv_program.specs.Types.{sort_of}
use Rattle.spv_program.specs.Programs.{Routine, Program}
use Rattle.spv_program.specs.Scopes.{Scope, own_names_in, name_type, with_sorts_of, sort_or_int, item_sort, initial_names, body_scope, entry_scope, exit_scope, result_name, own_names}
use Rattle.spv_program.specs.declared.typed.programs.Formal.{Formal as FormalText}
use Rattle.spv_program.specs.declared.typed.programs.Routine.{Routine as RoutineText}
use Rattle.spv_program.specs.typed.ProgramViews.{formal_of, routine_of}
use Rattle.spv_expression_terms.specs.term_walk.Laws.{HasNamesOf, variable_scope}
use Rattle.spv_flow_parts.specs.body_tables.Tables.{Puts, formal_name, sorts_of, item_sort_in, initial_sorts, initial_in}
use Rattle.spv_expression_terms.proofs.sort_table.Levels.{found_append}
use Rattle.spv_flow_parts.proofs.body_tables.Putting.{first_none, first_again, more_put}

-- ---- a loop over what is put

-- what is there, with those that are left, finds what was asked
pub record PutSoFar (start now all rest : Scope) : Type 0 where
  pub each : (x : Symbol) → first_of (found now x) (found rest x) ≡ first_of (found start x) (found all x)

pub put_next : (start now new all rest : Scope) (e : Symbol × Sort) → PutSoFar start now all (e ∷ rest) → Puts now new (e ∷ []) → PutSoFar start new all rest
put_next start now new all rest e h k = record {
  each = λ x.
      ap (λ o. first_of o (found rest x)) (k.each x)
      ∙ first_again (found now x) (found (e ∷ []) x) (found rest x)
      ∙ ap (first_of (found now x)) (sym (found_append (e ∷ []) rest x))
      ∙ h.each x;
}

pub put_all : (start now all rest : Scope) → rest ≡ [] → PutSoFar start now all rest → Puts start now all
put_all start now all rest none h = record {
  each = λ x. sym (first_none (found now x)) ∙ ap (λ (l : Scope). first_of (found now x) (found l x)) (sym none) ∙ h.each x;
}

-- ---- a routine's names

pub routine_put : (forms : List TypeForm) (formals locals : List (Symbol × TypeId)) (name : Symbol) (of : Option TypeId) (a b c d : Scope) → Puts a b (sorts_of forms formals) → Puts b c (sorts_of forms (result_name name of)) → Puts c d (sorts_of forms locals)
    → Puts a d (sorts_of forms (formals ++ (result_name name of ++ locals)))
routine_put forms formals locals name of a b c d h k l =
    let each : Symbol × TypeId → Symbol × Sort = λ n. (n.0, sort_of forms n.1) in
    subst (λ (more : Scope). Puts a d more)
    (ap (λ (more : Scope). sorts_of forms formals ++ more) (sym (map-append each (result_name name of) locals)) ∙ sym (map-append each formals (result_name name of ++ locals)))
    (more_put a b d (sorts_of forms formals) (sorts_of forms (result_name name of) ++ sorts_of forms locals) h (more_put b c d (sorts_of forms (result_name name of)) (sorts_of forms locals) k l))

-- the same by what was handed on
pub routine_put_of : (forms : List TypeForm) (r : RoutineText) (given : List FormalText) (locals : List (Symbol × TypeId)) (a b c d : Scope) → given ≡ r.formals → locals ≡ r.locals → Puts a b (sorts_of forms (map formal_name (map formal_of given)))
    → Puts b c (sorts_of forms (result_name r.name r.result)) → Puts c d (sorts_of forms locals) → Puts a d (sorts_of forms (own_names (routine_of r)))
routine_put_of forms r given locals a b c d formals_are locals_are h k l =
    routine_put forms (map formal_name (map formal_of r.formals)) r.locals r.name r.result a b c d (subst (λ (fs : List FormalText). Puts a b (sorts_of forms (map formal_name (map formal_of fs)))) formals_are h) k
    (subst (λ (ls : List (Symbol × TypeId)). Puts c d (sorts_of forms ls)) locals_are l)

pub variables_put : (p : Program) (forms : List TypeForm) (names : List (Symbol × TypeId)) (a b : Scope) → forms ≡ p.forms → names ≡ p.variables → Puts a b (sorts_of forms names) → Puts a b (with_sorts_of p p.variables)
variables_put p forms names a b forms_are names_are h =
    subst (λ (ns : List (Symbol × TypeId)). Puts a b (sorts_of p.forms ns)) names_are (subst (λ (fs : List TypeForm). Puts a b (sorts_of fs names)) forms_are h)

-- ---- INITIAL names

sorts_found : (forms : List TypeForm) (names : List (Symbol × TypeId)) (x : Symbol) → found (sorts_of forms names) x ≡ option_map (sort_of forms) (found names x)
sorts_found forms [] x = refl
sorts_found forms (n ∷ names) x = by (same_name n.0 x) (sorts_found forms names x)
  where
    by : (b : Bool) → found (sorts_of forms names) x ≡ option_map (sort_of forms) (found names x) → cond b (Some (sort_of forms n.1)) (found (sorts_of forms names) x) ≡ option_map (sort_of forms) (cond b (Some n.1) (found names x))
    by true e = refl
    by false e = e

first_mapped : (forms : List TypeForm) (o u : Option TypeId) → first_of (option_map (sort_of forms) o) (option_map (sort_of forms) u) ≡ option_map (sort_of forms) (first_of o u)
first_mapped forms None u = refl
first_mapped forms (Some t) u = refl

variable_found : (p : Program) (here : Option Routine) (x : Symbol) → found (variable_scope p here) x ≡ option_map (sort_of p.forms) (name_type p here x)
variable_found p here x =
    let own = sorts_found p.forms (own_names_in here) x in
    let others = sorts_found p.forms p.variables x in
    found_append (with_sorts_of p (own_names_in here)) (with_sorts_of p p.variables) x
    ∙ (λ i. first_of (own i) (others i))
    ∙ first_mapped p.forms (found (own_names_in here) x) (found p.variables x)

module _ (p : Program) (r : Routine) (variables : Scope) (h : HasNamesOf variables (variable_scope p (Some r))) where
  pub item_is : (item : Item) → item_sort_in variables item ≡ item_sort p (Some r) item
  item_is (Variable x) = ap sort_or_int (h.each x ∙ variable_found p (Some r) x)
  item_is (Class t) = refl

  pub initial_is : (items : List (Symbol × Item)) → initial_sorts variables items ≡ map (λ i. (i.0, item_sort p (Some r) i.1)) items
  initial_is [] = refl
  initial_is (i ∷ items) = let first = item_is i.1 in let others = initial_is items in λ j. (i.0, first j) ∷ others j

pub initial_put : (p : Program) (here : Option Routine) (variables a b : Scope) → HasNamesOf variables (variable_scope p here) → Puts a b (initial_in variables here) → Puts a b (initial_names p here)
initial_put p None variables a b h k = k
initial_put p (Some r) variables a b h k = subst (λ (more : Scope). Puts a b more) (initial_is p r variables h r.initial) k

-- ---- whole tables

-- a table of its own, in front of one that all share
pub in_front : (start own shared whole more last : Scope) → start ≡ [] → Puts start own more → HasNamesOf shared last → whole ≡ own ++ shared → HasNamesOf whole (more ++ last)
in_front start own shared whole more last none h k is = record {
  each = λ x.
      ap (λ (l : Scope). found l x) is
      ∙ found_append own shared x
      ∙ ap (λ (o : Option Sort). first_of o (found shared x)) (h.each x ∙ ap (λ (l : Scope). first_of (found l x) (found more x)) none)
      ∙ ap (first_of (found more x)) (k.each x)
      ∙ sym (found_append more last x);
}

module _ (p : Program) (start shared whole : Scope) (none : start ≡ []) (k : HasNamesOf shared (with_sorts_of p p.variables)) where
  pub variables_found : (here : Option Routine) (own : Scope) → Puts start own (with_sorts_of p (own_names_in here)) → whole ≡ own ++ shared → HasNamesOf whole (variable_scope p here)
  variables_found here own h is = in_front start own shared whole (with_sorts_of p (own_names_in here)) (with_sorts_of p p.variables) none h k is

  pub names_found : (here : Option Routine) (own all : Scope) → Puts start own (with_sorts_of p (own_names_in here)) → Puts own all (initial_names p here) → whole ≡ all ++ shared → HasNamesOf whole (body_scope p here)
  names_found here own all h l is =
      let names = with_sorts_of p (own_names_in here) in
      subst (HasNamesOf whole) (append_assoc names (initial_names p here) (with_sorts_of p p.variables))
      (in_front start all shared whole (names ++ initial_names p here) (with_sorts_of p p.variables) none (more_put start own all names (initial_names p here) h l) k is)

  -- ---- what ENTRY and EXIT see

  pub entry_found : (r : Routine) (own : Scope) → Puts start own (sorts_of p.forms (map formal_name r.formals)) → whole ≡ own ++ shared → HasNamesOf whole (entry_scope p r)
  entry_found r own h is = in_front start own shared whole (sorts_of p.forms (map formal_name r.formals)) (with_sorts_of p p.variables) none h k is

  pub exit_found : (r : Routine) (variables b c own : Scope) → HasNamesOf variables (variable_scope p (Some r)) → Puts start b (sorts_of p.forms (map formal_name r.formals))
      → Puts b c (sorts_of p.forms (result_name r.name r.result)) → Puts c own (initial_sorts variables r.initial) → whole ≡ own ++ shared → HasNamesOf whole (exit_scope p r)
  exit_found r variables b c own names h l m is =
      let formals = sorts_of p.forms (map formal_name r.formals) in
      let result = sorts_of p.forms (result_name r.name r.result) in
      let initial = initial_names p (Some r) in
      let last = with_sorts_of p p.variables in
      subst (HasNamesOf whole) (append_assoc formals (result ++ initial) last ∙ ap (λ (s : Scope). formals ++ s) (append_assoc result initial last))
      (in_front start own shared whole (formals ++ (result ++ initial)) last none
      (more_put start b own formals (result ++ initial) h (more_put b c own result initial l (initial_put p (Some r) variables c own names m))) k is)

-- the parameters of a routine, by what was handed on
pub formals_put : (p : Program) (forms : List TypeForm) (r : RoutineText) (given : List FormalText) (a b : Scope) → forms ≡ p.forms → given ≡ r.formals
    → Puts a b (sorts_of forms (map formal_name (map formal_of given))) → Puts a b (sorts_of p.forms (map formal_name (routine_of r).formals))
formals_put p forms r given a b forms_are formals_are h =
    subst (λ (fs : List FormalText). Puts a b (sorts_of p.forms (map formal_name (map formal_of fs)))) formals_are
    (subst (λ (fs : List TypeForm). Puts a b (sorts_of fs (map formal_name (map formal_of given)))) forms_are h)

pub result_put : (p : Program) (forms : List TypeForm) (r : Routine) (a b : Scope) → forms ≡ p.forms → Puts a b (sorts_of forms (result_name r.name r.result)) → Puts a b (sorts_of p.forms (result_name r.name r.result))
result_put p forms r a b forms_are h = subst (λ (fs : List TypeForm). Puts a b (sorts_of fs (result_name r.name r.result))) forms_are h
