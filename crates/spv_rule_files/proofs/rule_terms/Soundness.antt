-- Rules that are right in a program are rules over its terms.
use Rattle.std.proofs.Common.{◌≡◌, Bool, true, false, ◌||◌, not, List, [], ◌∷◌, map, Option, Some, None, refl, sym, ap, ◌∙◌, subst}
use Rattle.std.specs.Prelude.{is_some}
use Rattle.std.specs.List.{list_all, list_any}
use Rattle.std.specs.Cmp.Derive.{both_true}
use Rattle.std.proofs.lemmas.Bool.{false≢true}
use Rattle.spv_logic.proofs.list.Tests.{left_true, right_true}
use Rattle.spv_logic.specs.declared.names.names.Symbol.{Symbol}
use Rattle.spv_logic.specs.declared.types.Sort.{Sort}
use Rattle.spv_logic.specs.declared.operators.Head.{Head}
use Rattle.spv_logic.specs.declared.operators.Head.TheVariants as head
use Rattle.spv_logic.specs.Terms.{head_eq, heads_pass}
use Rattle.spv_logic.specs.Sorts.{sort_in_range}
use Rattle.spv_tree.specs.declared.syntax.names.Name.{Name}
use Rattle.spv_program.specs.Lists.{same_name, found}
use Rattle.spv_program.specs.Formulas.{Formula, Numeral, Boolean, NilOf, Named, ClassOf, Element, FieldOf, Content, Applied, Known, Negative, Calculated, Compared, Negated, Joined, Implied}
use Rattle.spv_program.specs.Programs.{Program, shapes}
use Rattle.spv_program.specs.Scopes.{Scope, sort_or_int}
use Rattle.spv_program.specs.Terms.{formula_term, name_in}
use Rattle.spv_program.proofs.FormulaSorting.{scope_sorted}
use Rattle.spv_term.specs.substitution.Images.{head_of}
use Rattle.spv_type_soundness.proofs.well_typed_programs.Differ.{same_names}
use Rattle.spv_expression_terms.specs.makeable_terms.Laws.{SortsAreThere, IsSorted}
use Rattle.spv_expression_terms.proofs.term_walk.Passing.{is_operator}
use Rattle.spv_expression_terms.proofs.makeable_terms.Sorting.{formula_sorted}
use Rattle.spv_rules.specs.RuleSets.{is_application, has_head, is_known}
use Rattle.spv_rule_files.specs.declared.rules.RuleForm.{RuleForm}
use Rattle.spv_rule_files.specs.declared.rules.RuleForm.TheVariants.{Replace, Infer}
use Rattle.spv_rule_files.specs.declared.rules.TypedRule.{TypedRule}
use Rattle.spv_rule_files.specs.Triggers.{names_behind}
use Rattle.spv_rule_files.specs.Rules.{form_names, guard_names}
use Rattle.spv_rule_files.specs.Stated.{unguarded, guarded, stated}
use Rattle.spv_rule_files.specs.Right as right
use Rattle.spv_rule_files.specs.Right.{has_no_class, IsRight, AreRight}
use Rattle.spv_rule_files.proofs.Carried.{names_pass}
use Rattle.spv_rule_files.proofs.Naming.{passing, formula_passes, others_pass, each_among}
use Rattle.spv_rule_files.specs.rule_terms.RuleTerms.{variable_head, trigger_term, rule_of}
use Rattle.spv_rule_files.specs.rule_terms.Sound.{IsSound, RightRulesAreSound}
use Rattle.spv_rule_files.proofs.rule_terms.Heads.{names_of_heads, heads_of_names}
use Rattle.spv_rule_files.proofs.rule_terms.Variables.{variable, same_variable, all_variables, variables_differ, variable_there, Under, each_under}

-- ---- names

some_passes : (names : List Name) (test : Name → Bool) (x : Symbol) (P : Type 0) → list_all test names ≡ true → list_any (λ n. same_name n.symbol x) names ≡ true
    → ((n : Name) → n.symbol ≡ x → test n ≡ true → P) → P
some_passes [] test x P all any go = absurd (false≢true any)
some_passes (n ∷ names) test x P all any go =
    by_name (same_name n.symbol x) refl any (λ e. some_passes names test x P (right_true (test n) _ all) e go)
  where
    by_name : (b : Bool) → same_name n.symbol x ≡ b → (b || list_any (λ n. same_name n.symbol x) names) ≡ true
        → (list_any (λ n. same_name n.symbol x) names ≡ true → P) → P
    by_name true f e later = go n (same_names n.symbol x f) (left_true (test n) _ all)
    by_name false f e later = later e

module _ (test : Name → Bool) where
  form_passes : (f : RuleForm) → list_all test (form_names [] f) ≡ true → names_pass test (unguarded f) ≡ true
  form_passes (Replace l r) h =
      both_true (formula_passes test [] l (others_pass test (names_behind [] l) r h)) (formula_passes test (names_behind [] l) r h)
  form_passes (Infer f) h = formula_passes test [] f h

  rule_passes : (g : Option Formula) (f : RuleForm) → list_all test (guard_names (form_names [] f) g) ≡ true → names_pass test (guarded g (unguarded f)) ≡ true
  rule_passes None f h = form_passes f h
  rule_passes (Some g) f h =
      both_true (formula_passes test (form_names [] f) g h) (form_passes f (others_pass test (form_names [] f) g h))

-- ---- triggers

applied_head : (vars : Scope) (t : Formula) → right.is_application t ≡ true → is_application (head_of (formula_term (name_in vars) t)) ≡ true
applied_head vars (Applied f fs) e = refl
applied_head vars (Numeral z) e = absurd (false≢true e)
applied_head vars (Boolean b) e = absurd (false≢true e)
applied_head vars (NilOf t) e = absurd (false≢true e)
applied_head vars (Named line x) e = absurd (false≢true e)
applied_head vars (ClassOf line t) e = absurd (false≢true e)
applied_head vars (Element a i) e = absurd (false≢true e)
applied_head vars (FieldOf r f) e = absurd (false≢true e)
applied_head vars (Content line t q) e = absurd (false≢true e)
applied_head vars (Known b fs) e = absurd (false≢true e)
applied_head vars (Negative f) e = absurd (false≢true e)
applied_head vars (Calculated o f g) e = absurd (false≢true e)
applied_head vars (Compared o f g) e = absurd (false≢true e)
applied_head vars (Negated f) e = absurd (false≢true e)
applied_head vars (Joined o f g) e = absurd (false≢true e)
applied_head vars (Implied f g) e = absurd (false≢true e)

-- ---- one rule

module _ (vars : Scope) where
  abbrev heads : List Head
  heads = map variable_head vars

  -- what stands for no name is known
  operator_known : (h : Head) → is_operator h ≡ true → is_known heads h ≡ true
  operator_known (head.Var x s n) e = absurd (false≢true e)
  operator_known (head.ClassVar t n) e = absurd (false≢true e)
  operator_known (head.Start x s) e = absurd (false≢true e)
  operator_known _ e = refl

  -- a name that is there is known
  name_known : (x : Symbol) (o : Option Sort) → found vars x ≡ o → is_some o ≡ true → is_known heads (variable x (sort_or_int o)) ≡ true
  name_known x None f e = absurd (false≢true e)
  name_known x (Some s) f e = variable_there vars x s f

  names_known : (f : Formula) → names_pass (λ n. is_some (found vars n.symbol)) f ≡ true → names_pass (λ n. is_known heads (name_in vars n.symbol)) f ≡ true
  names_known f e =
      sym (passing (λ n. is_known heads (name_in vars n.symbol)) [] f)
      ∙ all_known (names_behind [] f) (passing (λ n. is_some (found vars n.symbol)) [] f ∙ e)
    where
      all_known : (names : List Name) → list_all (λ n. is_some (found vars n.symbol)) names ≡ true
          → list_all (λ n. is_known heads (name_in vars n.symbol)) names ≡ true
      all_known [] h = refl
      all_known (n ∷ names) h =
          both_true (name_known n.symbol (found vars n.symbol) refl (left_true _ _ h)) (all_known names (right_true (is_some (found vars n.symbol)) _ h))

  formula_known : (f : Formula) → has_no_class f ≡ true → names_pass (λ n. is_some (found vars n.symbol)) f ≡ true
      → heads_pass (is_known heads) (formula_term (name_in vars) f) ≡ true
  formula_known f c e =
      heads_of_names (name_in vars) (is_known heads) operator_known (λ z. refl) (λ t. refl) f c (names_known f e)

  module _ (t : Formula) (of_trigger : (x : Symbol) → is_some (found vars x) ≡ list_any (λ n. same_name n.symbol x) (names_behind [] t)) where
    trigger_names : names_pass (λ n. is_some (found vars n.symbol)) t ≡ true
    trigger_names =
        formula_passes (λ n. is_some (found vars n.symbol)) [] t
        (each_among (names_behind [] t) (λ x. is_some (found vars x)) (λ x e. of_trigger x ∙ e))

    -- each variable stands in the trigger
    stands : (x : Symbol) (s : Sort) → found vars x ≡ Some s → has_head (variable x s) (formula_term (name_in vars) t) ≡ true
    stands x s e = by_pass (heads_pass (λ k. not (head_eq (variable x s) k)) (formula_term (name_in vars) t)) refl
      where
        there : list_any (λ n. same_name n.symbol x) (names_behind [] t) ≡ true
        there = sym (of_trigger x) ∙ ap is_some e

        contradiction : heads_pass (λ k. not (head_eq (variable x s) k)) (formula_term (name_in vars) t) ≡ true → ⊥
        contradiction h =
            some_passes (names_behind [] t) (λ n. not (head_eq (variable x s) (name_in vars n.symbol))) x ⊥
            (passing (λ n. not (head_eq (variable x s) (name_in vars n.symbol))) [] t
            ∙ names_of_heads (name_in vars) (λ k. not (head_eq (variable x s) k)) t h)
            there
            (λ n same k.
            let here : not (head_eq (variable x s) (variable x (sort_or_int (found vars x)))) ≡ true =
            subst (λ y. not (head_eq (variable x s) (name_in vars y)) ≡ true) same k in
            let mine : not (head_eq (variable x s) (variable x s)) ≡ true =
            subst (λ o. not (head_eq (variable x s) (variable x (sort_or_int o))) ≡ true) e here in
            false≢true (sym (ap not (same_variable x s)) ∙ mine))

        by_pass : (b : Bool) → heads_pass (λ k. not (head_eq (variable x s) k)) (formula_term (name_in vars) t) ≡ b → not b ≡ true
        by_pass false h = refl
        by_pass true h = absurd (contradiction h)

    all_stand : (some : Scope) → Under vars some → list_all (λ h. has_head h (formula_term (name_in vars) t)) (map variable_head some) ≡ true
    all_stand [] h = refl
    all_stand (v ∷ some) h = both_true (stands v.0 v.1 h.0) (all_stand some h.1)

sorts_in_range : (p : Program) (all vars : Scope) → Under all vars → ((x : Symbol) (s : Sort) → found all x ≡ Some s → sort_in_range (shapes p) s ≡ true)
    → list_all (λ (v : Symbol × Sort). sort_in_range (shapes p) v.1) vars ≡ true
sorts_in_range p all [] h there = refl
sorts_in_range p all (v ∷ vars) h there = both_true (there v.0 v.1 h.0) (sorts_in_range p all vars h.1 there)

rule_sound : (p : Program) (r : TypedRule) → IsRight p r → IsSound (shapes p) p.symbols r
rule_sound p r h =
    let vars = r.variables in
    let t = h.trigger in
    let is : (rule_of r).trigger ≡ formula_term (name_in vars) t = ap (trigger_term vars) h.leads in
    let there : SortsAreThere p vars = record { each = h.sorts } in
    let under = each_under vars h.apart in
    let bound : names_pass (λ n. is_some (found vars n.symbol)) (stated r) ≡ true = rule_passes (λ n. is_some (found vars n.symbol)) r.guard r.form h.bound in
    record {
      proper = record {
        variables = all_variables vars;
        differ = variables_differ vars h.apart;
        applied = ap (λ u. is_application (head_of u)) is ∙ applied_head vars t h.applied;
        bound = ap (λ u. list_all (λ k. has_head k u) (map variable_head vars)) is ∙ all_stand vars t h.of_trigger vars under;
        of_trigger = ap (heads_pass (is_known (map variable_head vars))) is
            ∙ formula_known vars t h.no_class_in_trigger (trigger_names vars t h.of_trigger);
        of_formula = formula_known vars (stated r) h.no_class bound;
        truth = scope_sorted p vars (stated r) _ h.truth;
      };
      triggered = ap is_some h.leads;
      trigger = subst (IsSorted p) (sym is) (formula_sorted p vars t h.sort there h.sorted);
      formula = formula_sorted p vars (stated r) _ there h.truth;
      variables = sorts_in_range p vars vars under h.sorts;
    }

pub rules_are_sound : RightRulesAreSound
rules_are_sound p rules h = record { each = λ k r e. rule_sound p r (h.each k r e) }
