-- The variables of a rule, as heads.
use Rattle.std.proofs.Common.{◌≡◌, Bool, true, false, cond, ◌&&◌, ◌||◌, not, [], ◌∷◌, map, Some, None, refl, sym, ap, ◌∙◌, subst}
use Rattle.std.specs.Prelude.{⊤}
use Rattle.std.specs.List.{list_all, list_any}
use Rattle.std.specs.Cmp.Derive.{both_true}
use Rattle.std.proofs.lemmas.Bool.{false≢true}
use Rattle.spv_logic.proofs.Equality.{sort_eq-refl}
use Rattle.spv_logic.specs.declared.names.names.Symbol.{Symbol}
use Rattle.spv_logic.specs.declared.types.Sort.{Sort}
use Rattle.spv_logic.specs.declared.operators.Head.{Head}
use Rattle.spv_logic.specs.declared.operators.Head.TheVariants as head
use Rattle.spv_logic.specs.Terms.{head_eq, sort_eq}
use Rattle.spv_program.specs.Lists.{same_name, found}
use Rattle.spv_program.specs.Scopes.{Scope}
use Rattle.spv_program.specs.ordered_map.Entries.{AreApart}
use Rattle.spv_program.proofs.SortFacts.{nothing_there, some_is}
use Rattle.spv_type_soundness.proofs.well_typed_programs.Differ.{name-refl, same_names}
use Rattle.spv_rules.specs.RuleSets.{is_rule_variable, heads_differ}
use Rattle.spv_rule_files.specs.rule_terms.RuleTerms.{variable_head}

abbrev pub variable : Symbol → Sort → Head
variable x s = head.Var x s 0

pub same_variable : (x : Symbol) (s : Sort) → head_eq (variable x s) (variable x s) ≡ true
same_variable x s = both_true (name-refl x) (both_true (sort_eq-refl s) refl)

pub all_variables : (vars : Scope) → list_all is_rule_variable (map variable_head vars) ≡ true
all_variables [] = refl
all_variables (v ∷ vars) = all_variables vars

-- a name that is not there has no variable
not_there : (vars : Scope) (x : Symbol) (s : Sort) → found vars x ≡ None → list_any (head_eq (variable x s)) (map variable_head vars) ≡ false
not_there [] x s e = refl
not_there (v ∷ vars) x s e = by_name (same_name v.0 x) refl e (not_there vars x s)
  where
    other : (b : Bool) → same_name x v.0 ≡ b → same_name v.0 x ≡ false
        → (b && (sort_eq s v.1 && true)) ≡ false
    other false f d = refl
    other true f d = absurd (false≢true (sym d ∙ subst (λ y. same_name y x ≡ true) (same_names x v.0 f) (name-refl x)))

    by_name : (b : Bool) → same_name v.0 x ≡ b → cond b (Some v.1) (found vars x) ≡ None
        → (found vars x ≡ None → list_any (head_eq (variable x s)) (map variable_head vars) ≡ false)
        → ((same_name x v.0 && (sort_eq s v.1 && true)) || list_any (head_eq (variable x s)) (map variable_head vars)) ≡ false
    by_name true f g later = absurd (nothing_there (sym g))
    by_name false f g later = ap (λ b. b || list_any (head_eq (variable x s)) (map variable_head vars)) (other (same_name x v.0) refl f) ∙ later g

pub variables_differ : (vars : Scope) → AreApart vars → heads_differ (map variable_head vars) ≡ true
variables_differ [] h = refl
variables_differ (v ∷ vars) h = both_true (ap not (not_there vars v.0 v.1 h.0)) (variables_differ vars h.1)

-- a name that is there has its variable
pub variable_there : (vars : Scope) (x : Symbol) (s : Sort) → found vars x ≡ Some s → list_any (head_eq (variable x s)) (map variable_head vars) ≡ true
variable_there [] x s e = absurd (nothing_there e)
variable_there (v ∷ vars) x s e = by_name (same_name v.0 x) refl e (variable_there vars x s)
  where
    by_name : (b : Bool) → same_name v.0 x ≡ b → cond b (Some v.1) (found vars x) ≡ Some s
        → (found vars x ≡ Some s → list_any (head_eq (variable x s)) (map variable_head vars) ≡ true)
        → (head_eq (variable x s) (variable_head v) || list_any (head_eq (variable x s)) (map variable_head vars)) ≡ true
    by_name true f g later =
        ap (λ b. b || list_any (head_eq (variable x s)) (map variable_head vars))
        (subst (λ y. head_eq (variable x s) (variable y v.1) ≡ true) (sym (same_names v.0 x f))
        (subst (λ r. head_eq (variable x s) (variable x r) ≡ true) (sym (some_is g)) (same_variable x s)))
    by_name false f g later = or_right (head_eq (variable x s) (variable_head v)) _ (later g)
      where
        or_right : (a b : Bool) → b ≡ true → (a || b) ≡ true
        or_right true b k = refl
        or_right false b k = k

-- ---- each variable stands under its name

abbrev pub Under : Scope → Scope → Type 0
Under all [] = ⊤
Under all (v ∷ vars) = (found all v.0 ≡ Some v.1) × Under all vars

one_before : (v : Symbol × Sort) (all vars : Scope) → found vars v.0 ≡ None → Under all vars → Under (v ∷ all) vars
one_before v all [] e h = tt
one_before v all (w ∷ vars) e h = by_name (same_name w.0 v.0) refl e (one_before v all vars)
  where
    other : (b : Bool) → same_name v.0 w.0 ≡ b → same_name w.0 v.0 ≡ false → cond b (Some v.1) (found all w.0) ≡ Some w.1
    other false f d = h.0
    other true f d = absurd (false≢true (sym d ∙ subst (λ y. same_name y v.0 ≡ true) (same_names v.0 w.0 f) (name-refl v.0)))

    by_name : (b : Bool) → same_name w.0 v.0 ≡ b → cond b (Some w.1) (found vars v.0) ≡ None
        → (found vars v.0 ≡ None → Under all vars → Under (v ∷ all) vars) → Under (v ∷ all) (w ∷ vars)
    by_name true f g later = absurd (nothing_there (sym g))
    by_name false f g later = (other (same_name v.0 w.0) refl f, later g h.1)

pub each_under : (vars : Scope) → AreApart vars → Under vars vars
each_under [] h = tt
each_under (v ∷ vars) h = (
  ap (λ b. cond b (Some v.1) (found vars v.0)) (name-refl v.0),
  one_before v vars vars h.0 (each_under vars h.1),
)
