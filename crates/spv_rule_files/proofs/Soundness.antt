-- Each rule that is read says what is true or false of the variables of its trigger.
use Rattle.std.proofs.Common.{◌≡◌, ℕ, suc, zero, Bool, true, false, List, [], ◌∷◌, ◌++◌, Option, Some, None, is_some, refl, sym, ap, ◌∙◌, subst}
use Rattle.std.specs.Prelude.{⊤, Ok, Err, slice_get}
use Rattle.std.specs.List.{list_all}
use Rattle.std.specs.Cmp.Derive.{both_true}
use Rattle.std.proofs.lemmas.Bool.{false≢true}
use Rattle.spv_logic.specs.declared.names.names.Symbol.{Symbol}
use Rattle.spv_logic.specs.declared.types.Sort.{Sort}
use Rattle.spv_logic.specs.declared.types.Sort.TheVariants as sort
use Rattle.spv_logic.specs.Shapes.{fields_of}
use Rattle.spv_logic.specs.Sorts.{sort_in_range}
use Rattle.spv_tree.specs.declared.syntax.names.Name.{Name}
use Rattle.spv_tree.specs.declared.syntax.rules.Rule.{Rule as RuleText}
use Rattle.spv_tree.specs.declared.syntax.rules.RuleForm.{RuleForm as RuleFormText}
use Rattle.spv_tree.specs.declared.syntax.rules.RuleForm.TheVariants as text
use Rattle.spv_tree.specs.declared.syntax.rules.RuleTree.{RuleTree}
use Rattle.spv_tree.specs.syntax.Formulas as tree
use Rattle.spv_program.specs.declared.types.TypeForm.{TypeForm}
use Rattle.spv_program.specs.Types.{shapes_of}
use Rattle.spv_program.specs.Lists.{found}
use Rattle.spv_program.specs.Formulas.{Formula, NilOf}
use Rattle.spv_program.specs.FormulaTypes.{formula_sort, truth_values}
use Rattle.spv_program.specs.Programs.{Program, shapes}
use Rattle.spv_program.specs.Scopes as program
use Rattle.spv_program.specs.Scopes.{sort_or_int}
use Rattle.spv_program.proofs.SortFacts.{nothing_there, some_is}
use Rattle.spv_typing.specs.Outcomes.{Outcome, after, each, if_there, wrong}
use Rattle.spv_typing.specs.Known.{KnownNames, Known, Meaning, Scope, meaning}
use Rattle.spv_typing.specs.OperatorWalk.{Operand, Of, NilAt, settled, formula_line}
use Rattle.spv_type_soundness.specs.well_typed.Laws.{SeesAlike}
use Rattle.spv_type_soundness.proofs.well_typed.Outcomes.{fine, no_fault, same_value, went}
use Rattle.spv_type_soundness.proofs.well_typed.Operators.{GoodOperand, of, Selects, Keeps, formula_good}
use Rattle.spv_type_soundness.proofs.well_typed.Formulas.{Sorted, Bare, fine_is, nil_sorted, negative_fine, calculated_fine, negated_fine, joined_fine, implied_fine, equal_left, equal_right, unequal_left, unequal_right, less_fine, at_most_fine, greater_fine, at_least_fine}
use Rattle.spv_type_soundness.proofs.well_typed.Names.{FineResult, name_fine, settled_here, indexed_fine, field_in_fine}
use Rattle.spv_type_soundness.proofs.well_typed.Applications.{applied_fine}
use Rattle.spv_type_soundness.proofs.well_typed_programs.Declaring.{RightProgram}
use Rattle.spv_type_soundness.proofs.well_typed_programs.Finding.{found_all}
use Rattle.spv_rule_files.specs.declared.rules.RuleForm.{RuleForm}
use Rattle.spv_rule_files.specs.declared.rules.RuleForm.TheVariants.{Replace, Infer}
use Rattle.spv_rule_files.specs.declared.rules.Said.{Said}
use Rattle.spv_rule_files.specs.declared.rules.TypedRule.{TypedRule}
use Rattle.spv_rule_files.specs.declared.faults.RuleFault.{RuleFault}
use Rattle.spv_rule_files.specs.Outcomes.{RuleOutcome, behind, and_then, each_rule}
use Rattle.spv_rule_files.specs.Scopes.{rule_known, rule_scope}
use Rattle.spv_rule_files.specs.Variables.{variables_walk}
use Rattle.spv_rule_files.specs.Forms.{no_class, rule_forms}
use Rattle.spv_rule_files.specs.Triggers.{trigger_in, names_behind, variables_of, first_unbound}
use Rattle.spv_rule_files.specs.Rules.{side, truth, sides, says_walk, guard_of, form_walk, leading, trigger_variables, form_names, guard_names, rule_names, unless_unbound, bound_rule, typed_rule, rule_walk, one_more, rules_walk}
use Rattle.spv_rule_files.specs.Stated.{unguarded, guarded, stated}
use Rattle.spv_rule_files.specs.Right.{has_no_class, IsRight, AreRight}
use Rattle.spv_rule_files.proofs.Carried.{names_pass, Carries, carried}
use Rattle.spv_rule_files.proofs.Parts.{trigger_is}
use Rattle.spv_rule_files.proofs.Naming.{formula_passes, others_pass, none_unbound, variables_have, variables_sorted, variables_apart, each_among}
use Rattle.spv_rule_files.proofs.Classless.{Clean, Any, settled_clean, formula_clean}
use Rattle.spv_rule_files.proofs.Programs.{Declared}
use Rattle.spv_rule_files.proofs.Knowns.{KnowsOf, knows, InRange, sees, variables_range}

-- ---- formulas of rules are well typed

module _ (s : Scope) (names : program.Scope) (alike : SeesAlike s names) where
  abbrev q : Program
  q = s.known.program

  selects : Selects (rule_forms s) (Sorted q names) (Bare q names) (FineResult s names alike) (FineResult s names alike)
  selects = record {
    indexed = λ line a z given h g e. indexed_fine s names alike line a z given h g e;
    field_of = λ line r z x h e. field_in_fine s names alike line r z x h (fields_of (shapes q) r.sort) refl e;
    content_of = λ line at q z h e. absurd (no_fault e);
  }

  class_fine : (line : ℕ) (x : Name) (m : Option Meaning) (o : Operand Formula) → no_class line x m ≡ Ok o → GoodOperand (Sorted q names) (Bare q names) o
  class_fine line x None o e = absurd (no_fault e)
  class_fine line x (Some m) o e = absurd (no_fault e)

  keeps : Keeps (rule_forms s) (Sorted q names) (Bare q names) (FineResult s names alike) (FineResult s names alike)
  keeps = record {
    numeral = λ z. fine_is q names _ sort.Int refl refl refl;
    boolean = λ b. fine_is q names _ sort.Bool refl refl refl;
    nil_of = nil_sorted q names;
    negative_of = negative_fine q names;
    calculated = calculated_fine q names;
    equal_left = equal_left q names;
    equal_right = equal_right q names;
    unequal_left = unequal_left q names;
    unequal_right = unequal_right q names;
    less = less_fine q names;
    at_most = at_most_fine q names;
    greater = greater_fine q names;
    at_least = at_least_fine q names;
    negated = negated_fine q names;
    joined = joined_fine q names;
    implied = λ x y may g h. implied_fine q names x y g h;
    class_of = λ line x o e. class_fine line x (meaning s x.symbol) o e;
    begin = λ line x z e. name_fine s names alike line x (meaning s x.symbol) z refl e;
    begin_written = λ line x z e. name_fine s names alike line x (meaning s x.symbol) z refl e;
    apply = λ line x z given g e. applied_fine s names alike line x given z g e;
    reads = selects;
    writes = selects;
    finish = λ z h. of z.formula z.sort h.is;
  }

  -- a formula of this sort, without `#` and `^`
  record Good (f : Formula) (r : Sort) : Type 0 where
    is : formula_sort q names f ≡ Some r
    no_class : has_no_class f ≡ true

  side_sorted : (f : tree.Formula) (o : Operand Formula) → side s f ≡ Ok o → GoodOperand (Sorted q names) (Bare q names) o
  side_sorted f o e = formula_good (rule_forms s) (Sorted q names) (Bare q names) (FineResult s names alike) (FineResult s names alike) keeps f o e

  side_clean : (f : tree.Formula) (o : Operand Formula) → side s f ≡ Ok o → GoodOperand Clean Any o
  side_clean f o e = formula_clean s f o e

  truth_good : (f : tree.Formula) (g : Formula) → truth s f ≡ Ok g → Good g sort.Bool
  truth_good f g e =
      let one = went (side s f) (settled NilOf (wrong (formula_line f)) sort.Bool) g e in
      record {
        is = (settled_here s names alike (wrong (formula_line f)) sort.Bool refl one.value g (side_sorted f one.value one.first) one.rest).is;
        no_class = settled_clean (wrong (formula_line f)) sort.Bool one.value g (side_clean f one.value one.first) one.rest;
      }

  -- ---- what a rule says

  record Says (f : RuleForm) : Type 0 where
    whole : Good (unguarded f) sort.Bool
    sort : Sort
    leads : Good (leading f) sort

  abbrev replaces : Formula → Formula → RuleForm
  replaces x y = Replace x y

  sides_good : (line : ℕ) (a b : Operand Formula) (f : RuleForm) → GoodOperand (Sorted q names) (Bare q names) a → GoodOperand Clean Any a
      → GoodOperand (Sorted q names) (Bare q names) b → GoodOperand Clean Any b → sides line a b ≡ Ok f → Says f
  sides_good line (Of x r) b f (of y u h) (of z v k) g c e =
      let one = went (settled NilOf (wrong line) r b) (λ y. fine (replaces x y)) f e in
      let right = settled_here s names alike (wrong line) r h.good.there b one.value g one.first in
      let bare = settled_clean (wrong line) r b one.value c one.first in
      subst Says (same_value one.rest)
      (record {
        whole = record { is = (equal_left q names x one.value r refl h right).good.is; no_class = both_true k.good bare };
        sort = r;
        leads = record { is = h.good.is; no_class = k.good };
      })
  sides_good line (NilAt at) (Of y r) f g c (of w u h) (of z v k) e =
      let one = went (settled NilOf (wrong line) r (NilAt at)) (λ x. fine (replaces x y)) f e in
      let left = settled_here s names alike (wrong line) r h.good.there (NilAt at) one.value g one.first in
      let bare = settled_clean (wrong line) r (NilAt at) one.value c one.first in
      subst Says (same_value one.rest)
      (record {
        whole = record { is = (equal_right q names one.value y r refl left h).good.is; no_class = both_true bare k.good };
        sort = r;
        leads = record { is = left.is; no_class = bare };
      })
  sides_good line (NilAt at) (NilAt on) f g c h k e = absurd (no_fault e)

  says_good : (line : ℕ) (r : RuleFormText) (f : RuleForm) → says_walk s line r ≡ Ok f → Says f
  says_good line (text.Replace l r guard) f e =
      let one = went (side s l) (λ a. after (side s r) (λ b. sides line a b)) f e in
      let two = went (side s r) (λ b. sides line one.value b) f one.rest in
      sides_good line one.value two.value f (side_sorted l one.value one.first) (side_clean l one.value one.first)
      (side_sorted r two.value two.first) (side_clean r two.value two.first) two.rest
  says_good line (text.Infer g guard) f e =
      let one = went (truth s g) (λ h. fine (infers h)) f e in
      let good = truth_good g one.value one.first in
      subst Says (same_value one.rest) (record { whole = good; sort = sort.Bool; leads = good })
    where
      infers : Formula → RuleForm
      infers h = Infer h

  abbrev IsGuard : Option Formula → Type 0
  IsGuard None = ⊤
  IsGuard (Some g) = Good g sort.Bool

  guard_good : (t : Option tree.Formula) (g : Option Formula) → if_there (truth s) t ≡ Ok g → IsGuard g
  guard_good None g e = subst IsGuard (same_value e) tt
  guard_good (Some t) g e =
      let one = went (truth s t) (λ a. fine (some_formula a)) g e in
      subst IsGuard (same_value one.rest) (truth_good t one.value one.first)
    where
      some_formula : Formula → Option Formula
      some_formula a = Some a

  guarded_good : (g : Option Formula) (f : Formula) → IsGuard g → Good f sort.Bool → Good (guarded g f) sort.Bool
  guarded_good None f h k = k
  guarded_good (Some g) f h k = record {
    is = ap (λ a. truth_values a (formula_sort q names f)) h.is ∙ ap (λ b. truth_values (Some sort.Bool) b) k.is;
    no_class = both_true h.no_class k.no_class;
  }

-- ---- names in rules

module _ (test : Name → Bool) where
  form_passes : (f : RuleForm) → list_all test (form_names [] f) ≡ true → names_pass test (unguarded f) ≡ true
  form_passes (Replace l r) h =
      both_true (formula_passes test [] l (others_pass test (names_behind [] l) r h)) (formula_passes test (names_behind [] l) r h)
  form_passes (Infer f) h = formula_passes test [] f h

  rule_passes : (g : Option Formula) (f : RuleForm) → list_all test (guard_names (form_names [] f) g) ≡ true → names_pass test (guarded g (unguarded f)) ≡ true
  rule_passes None f h = form_passes f h
  rule_passes (Some g) f h =
      both_true (formula_passes test (form_names [] f) g h) (form_passes f (others_pass test (form_names [] f) g h))

-- ---- rules in a row

abbrev right_value : {A : Type 0} → A → RuleOutcome A
right_value x = Ok x

abbrev rule_is : {A : Type 0} → A → RuleOutcome A → A
rule_is other (Ok x) = x
rule_is other (Err fault) = other

abbrev is_read : {A : Type 0} → RuleOutcome A → Bool
is_read (Ok x) = true
is_read (Err fault) = false

no_rule : {A : Type 0} {fault : RuleFault} {x : A} → Err fault ≡ Ok x → ⊥
no_rule e = false≢true (ap is_read e)

same_rule : {A : Type 0} {x y : A} → right_value x ≡ Ok y → x ≡ y
same_rule {A} {x} {y} e = ap (rule_is x) e

at_end : {X : Type 0} (xs : List X) (x y : X) (k : ℕ) (P : Type 0) → slice_get (xs ++ x ∷ []) k ≡ Some y → (slice_get xs k ≡ Some y → P) → (x ≡ y → P) → P
at_end [] x y zero P e before last = last (some_is e)
at_end [] x y (suc k) P e before last = absurd (nothing_there e)
at_end (z ∷ xs) x y zero P e before last = before e
at_end (z ∷ xs) x y (suc k) P e before last = at_end xs x y k P e before last

one_right : (p : Program) (done : List TypedRule) (r : TypedRule) → AreRight p done → IsRight p r → AreRight p (done ++ r ∷ [])
one_right p done r all one = record {
  each = λ k u e. at_end done r u k (IsRight p u) e (λ f. all.each k u f) (λ same. subst (IsRight p) same one);
}

-- ---- one rule

module _ (p : Program) (right : RightProgram p) (k : Known) (h : KnowsOf p k) (vars : program.Scope) (all : InRange p k h right vars) where
  abbrev here : Scope
  here = rule_scope k vars

  alike : SeesAlike here vars
  alike = sees p k h right vars all

  abbrev has : program.Scope → Name → Bool
  has own n = is_some (found own n.symbol)

  -- the variables of a formula have the sorts that the file gives them
  carries : (t : Formula) → Carries k.program p vars (variables_of vars t) (has (variables_of vars t))
  carries t = record { forms = h.forms; symbols = h.symbols; names = λ n s there e. of_own n s (found (variables_of vars t) n.symbol) refl there e }
    where
      of_own : (n : Name) (s : Sort) (o : Option Sort) → found (variables_of vars t) n.symbol ≡ o → is_some o ≡ true → found vars n.symbol ≡ Some s
          → o ≡ Some s
      of_own n s None f there e = absurd (false≢true there)
      of_own n s (Some r) f there e = ap Some (variables_sorted vars t n.symbol r f ∙ ap sort_or_int e)

  sorts_there : (t : Formula) (x : Symbol) (s : Sort) → found (variables_of vars t) x ≡ Some s → sort_in_range (shapes p) s ≡ true
  sorts_there t x s e =
      subst (λ (forms : List TypeForm). sort_in_range (shapes_of forms) s ≡ true) h.forms
      (subst (λ r. sort_in_range (shapes k.program) r ≡ true) (sym (variables_sorted vars t x s e)) (in_file (found vars x) refl))
    where
      in_file : (o : Option Sort) → found vars x ≡ o → sort_in_range (shapes k.program) (sort_or_int o) ≡ true
      in_file None f = refl
      in_file (Some r) f = found_all (sort_in_range (shapes k.program)) vars x r all f

  abbrev rule_of : RuleForm → Option Formula → Formula → TypedRule
  rule_of f g t = record { form = f; guard = g; variables = variables_of vars t }

  made_right : (f : RuleForm) (g : Option Formula) (t : Formula) → Says here vars alike f → IsGuard here vars alike g → trigger_in (leading f) ≡ Some t
      → first_unbound (variables_of vars t) (rule_names (rule_of f g t)) ≡ None → IsRight p (rule_of f g t)
  made_right f g t says guard leads unbound =
      let own = variables_of vars t in
      let bound = none_unbound own (rule_names (rule_of f g t)) unbound in
      let whole = guarded_good here vars alike g (unguarded f) guard says.whole in
      let trigger = trigger_is k.program vars (leading f) t leads in
      let sorted = trigger.sorted says.sort says.leads.is in
      let mine : list_all (has own) (names_behind [] t) ≡ true =
      each_among (names_behind [] t) (λ x. is_some (found own x)) (λ x e. variables_have vars t x ∙ e) in
      record {
        trigger = t;
        leads = leads;
        applied = trigger.applied;
        truth = carried k.program p vars own (has own) (carries t) (stated (rule_of f g t)) sort.Bool (rule_passes (has own) g f bound) whole.is;
        sort = sorted.sort;
        sorted = carried k.program p vars own (has own) (carries t) t sorted.sort (formula_passes (has own) [] t mine) sorted.is;
        no_class = whole.no_class;
        no_class_in_trigger = trigger.no_class says.leads.no_class;
        of_trigger = variables_have vars t;
        bound = bound;
        apart = variables_apart vars t;
        sorts = sorts_there t;
      }

  with_variables : (line : ℕ) (f : RuleForm) (g : Option Formula) (o : Option Formula) (own : program.Scope) (r : TypedRule)
      → Says here vars alike f → IsGuard here vars alike g → trigger_in (leading f) ≡ o → trigger_variables line vars o ≡ Ok own
      → (record { form = f; guard = g; variables = own }) ≡ r → first_unbound r.variables (rule_names r) ≡ None → IsRight p r
  with_variables line f g None own r says guard leads e made unbound = absurd (no_fault e)
  with_variables line f g (Some t) own r says guard leads e made unbound =
      let same : rule_of f g t ≡ r = ap (λ (v : program.Scope). record { form = f; guard = g; variables = v }) (same_value e) ∙ made in
      subst (IsRight p) same
      (made_right f g t says guard leads (subst (λ (u : TypedRule). first_unbound u.variables (rule_names u) ≡ None) (sym same) unbound))

  typed_right : (t : RuleText) (r : TypedRule) → typed_rule here vars t ≡ Ok r → first_unbound r.variables (rule_names r) ≡ None → IsRight p r
  typed_right t r e unbound =
      let rest = λ (says : Said). after (trigger_variables t.line vars (trigger_in (leading says.form)))
      (λ own. fine (made says own)) in
      let one = went (form_walk here t.line t.form) rest r e in
      let two = went (trigger_variables t.line vars (trigger_in (leading one.value.form))) (λ own. fine (made one.value own)) r one.rest in
      let said = λ (f : RuleForm). after (if_there (truth here) (guard_of t.form)) (λ g. fine (say f g)) in
      let three = went (says_walk here t.line t.form) said one.value one.first in
      let four = went (if_there (truth here) (guard_of t.form)) (λ g. fine (say three.value g)) one.value three.rest in
      let is : say three.value four.value ≡ one.value = same_value four.rest in
      with_variables t.line one.value.form one.value.guard (trigger_in (leading one.value.form)) two.value r
      (subst (λ (w : Said). Says here vars alike w.form) is (says_good here vars alike t.line t.form three.value three.first))
      (subst (λ (w : Said). IsGuard here vars alike w.guard) is (guard_good here vars alike (guard_of t.form) four.value four.first))
      refl two.first (same_value two.rest) unbound
    where
      say : RuleForm → Option Formula → Said
      say f g = record { form = f; guard = g }

      made : Said → program.Scope → TypedRule
      made says own = record { form = says.form; guard = says.guard; variables = own }

  unbound_told : (t r : TypedRule) (o : Option Name) → unless_unbound t o ≡ Ok r → first_unbound t.variables (rule_names t) ≡ o
      → (t ≡ r) × (o ≡ None)
  unbound_told t r None e f = (same_rule e, refl)
  unbound_told t r (Some x) e f = absurd (no_rule e)

  walked_right : (t : RuleText) (r : TypedRule) (o : Outcome TypedRule) → typed_rule here vars t ≡ o → behind o bound_rule ≡ Ok r → IsRight p r
  walked_right t r (Ok u) f e =
      let told = unbound_told u r (first_unbound u.variables (rule_names u)) e refl in
      subst (IsRight p) told.0 (typed_right t u f told.1)
  walked_right t r (Err fault) f e = absurd (no_rule e)

  rules_right : (done : List TypedRule) (ts : List RuleText) (rules : List TypedRule) → AreRight p done
      → each_rule (one_more here vars) done ts ≡ Ok rules → AreRight p rules
  rules_right done [] rules right e = subst (AreRight p) (same_rule e) right
  rules_right done (t ∷ ts) rules right e =
      by_rule (rule_walk here vars t) refl e (λ r one rest. rules_right (done ++ r ∷ []) ts rules (one_right p done r right one) rest)
    where
      by_rule : (o : RuleOutcome TypedRule) → rule_walk here vars t ≡ o
          → and_then (and_then o (λ r. right_value (done ++ r ∷ []))) (λ next. each_rule (one_more here vars) next ts) ≡ Ok rules
          → ((r : TypedRule) → IsRight p r → each_rule (one_more here vars) (done ++ r ∷ []) ts ≡ Ok rules → AreRight p rules) → AreRight p rules
      by_rule (Ok r) f g go = go r (walked_right t r (typed_rule here vars t) refl f) g
      by_rule (Err fault) f g go = absurd (no_rule g)

none_right : (p : Program) → AreRight p []
none_right p = record { each = λ k u e. absurd (nothing_there e) }

-- ---- a whole file

pub file_right : (p : Program) → RightProgram p → Declared p.symbols p.symbols → (start : KnownNames) (t : RuleTree) (rules : List TypedRule)
    → rules_walk start p t ≡ Ok rules → AreRight p rules
file_right p right declared start t rules e =
    by_variables (each (variables_walk k) [] t.variables) refl e
  where
    k : Known
    k = rule_known start p

    known : KnowsOf p k
    known = knows p start right declared

    by_variables : (o : Outcome program.Scope) → each (variables_walk k) [] t.variables ≡ o
        → behind o (λ vars. each_rule (one_more (rule_scope k vars) vars) [] t.rules) ≡ Ok rules → AreRight p rules
    by_variables (Ok vars) f g =
        rules_right p right k known vars (variables_range p k known right [] t.variables vars refl f) [] t.rules rules (none_right p) g
    by_variables (Err fault) f g = absurd (no_rule g)
