-- Terms and lists with calls ignore what is left of the supply.
use Rattle.std.proofs.Common.{◌≡◌, Bool, true, false, cond, List, [], ◌∷◌, ◌++◌, map, ℕ, refl, sym, ap, subst, ◌∙◌, Option, Some, None, option_map}
use Rattle.spv_logic.specs.declared.names.names.Symbol.{Symbol}
use Rattle.spv_logic.specs.declared.types.TypeId.{TypeId}
use Rattle.spv_logic.specs.declared.types.Sort.{Sort}
use Rattle.spv_logic.specs.declared.conditions.Kind.TheVariants as kind
use Rattle.spv_logic.specs.declared.operators.Head.{Head}
use Rattle.spv_logic.specs.declared.operators.Head.TheVariants as head
use Rattle.spv_logic.specs.Terms.{Term, worth, eval, head_eq}
use Rattle.spv_logic.specs.Substitution.{is_variable, substitute}
use Rattle.spv_logic.specs.Conditions.{Meaning}
use Rattle.spv_logic.proofs.Substitution.{worth-same}
use Rattle.spv_program.specs.declared.operators.Arithmetic.{Arithmetic}
use Rattle.spv_program.specs.declared.operators.Arithmetic.TheVariants as arithmetic
use Rattle.spv_program.specs.declared.operators.Comparison.{Comparison}
use Rattle.spv_program.specs.declared.operators.Comparison.TheVariants as comparison
use Rattle.spv_program.specs.declared.operators.Connective.{Connective}
use Rattle.spv_program.specs.declared.operators.Connective.TheVariants as connective
use Rattle.spv_program.specs.declared.types.Item.{Item}
use Rattle.spv_program.specs.declared.types.Item.TheVariants.{Variable, Class}
use Rattle.spv_program.specs.Formulas.{Annotation}
use Rattle.spv_program.specs.Expressions.{Expression, Designator, Selectors, Call, Arguments, Numeral, Boolean, NilOf, Read, Result, Through, Negative, Calculated, Compared, Negated, Joined, designator, no_selectors, at_index, at_field, at_cell, call, no_arguments, by_value, by_place}
use Rattle.spv_program.specs.Programs.{Formal, Routine, Program, routine_at, routine_in}
use Rattle.spv_program.specs.Scopes.{item_sort, entry_scope}
use Rattle.spv_program.specs.Supplies.{Supply, full_supply, fresh_variable}
use Rattle.spv_program.specs.Places.{Step, ToElement, ToField, Target, part, part_behind, changed_part, base, present, in_root, cell_behind}
use Rattle.spv_program.specs.Terms.{alone, unary, binary, ternary, truth, head_of_arithmetic, comparing, head_of_connective, name_in, start_or_name, name_at_exit, item_head, entry_term, exit_term}
use Rattle.spv_program.specs.Calls.{Argument, Given, AtPlace, replacing, present_argument, at_call, starts_at_call, initial_at_call, entry_at_call, exit_at_call}
use Rattle.spv_program.specs.ExpressionTerms.{Called, Valued, Placed, Argued, sort_of_result, result_head, called_in, valued, placed, selected, called, argued, read_at, at_start, to_element, to_field, to_cell}
use Rattle.spv_program.proofs.SortFacts.{nothing_there, some_is}
use Rattle.spv_meaning.specs.Levels.{Here}
use Rattle.spv_meaning.specs.Before.{wanted_entry, before_calls}
use Rattle.spv_rule_soundness.specs.statements.Truth.{is_new, IsLater, meaning_in, Ignores, TermIgnores}
use Rattle.spv_rule_soundness.proofs.statements.Lists.{not_new, later_after, ignores_none, ignores_both}
use Rattle.spv_rule_soundness.proofs.statements.States.{full_first}
use Rattle.spv_rule_soundness.proofs.statements.Renaming.{fresh_later, fresh_taken}
use Rattle.spv_rule_soundness.proofs.statements.Annotations.{PairsAre, is_old, formula_old, old_ignores, two_ignore, later_term, wanted_ignores, substituted_ignores}
use Rattle.spv_rule_soundness.proofs.statements.Supplied.{variable_ignores, assuming_there_ignores, calls-append}
use Rattle.spv_rule_soundness.specs.statements.Runs.{IsSuppliedTest}
use Rattle.spv_call_evaluation.specs.Supplied.{AreSupplied, TargetIgnores, ArgumentIgnores, ArgumentsIgnore, IsSuppliedPlace, AreSuppliedArguments}

start_old : (b : Bool) (x : Symbol) (s : Sort) → is_old (start_or_name b x s) ≡ true
start_old true x s = refl
start_old false x s = refl

module _ (p : Program) (world : Meaning) where
  -- ---- terms of terms

  one_ignores : (n : Supply) (h : Head) (s : Term) → is_variable h ≡ false → TermIgnores p world n s → TermIgnores p world n (unary h s)
  one_ignores n h s op a = record {
    alike = λ v w same. worth-same (meaning_in p world) v w h _ op ∙ ap (λ x. worth (meaning_in p world) w h (x ∷ [])) (a.alike v w same);
  }

  pub three_ignore : (n : Supply) (h : Head) (s t u : Term) → is_variable h ≡ false → TermIgnores p world n s → TermIgnores p world n t → TermIgnores p world n u → TermIgnores p world n (ternary h s t u)
  three_ignore n h s t u op a b c = record {
    alike = λ v w same.
        let m = meaning_in p world in
        worth-same m v w h _ op
        ∙ (ap (λ x. worth m w h (x ∷ eval m v t ∷ eval m v u ∷ [])) (a.alike v w same)
        ∙ (ap (λ y. worth m w h (eval m w s ∷ y ∷ eval m v u ∷ [])) (b.alike v w same) ∙ ap (λ z. worth m w h (eval m w s ∷ eval m w t ∷ z ∷ [])) (c.alike v w same)));
  }

  arithmetic_ignores : (n : Supply) (o : Arithmetic) (s t : Term) → TermIgnores p world n s → TermIgnores p world n t → TermIgnores p world n (binary (head_of_arithmetic o) s t)
  arithmetic_ignores n arithmetic.Plus s t a b = two_ignore p world n head.Add s t refl a b
  arithmetic_ignores n arithmetic.Minus s t a b = two_ignore p world n head.Sub s t refl a b
  arithmetic_ignores n arithmetic.Times s t a b = two_ignore p world n head.Mul s t refl a b
  arithmetic_ignores n arithmetic.Div s t a b = two_ignore p world n head.Div s t refl a b
  arithmetic_ignores n arithmetic.Mod s t a b = two_ignore p world n head.Mod s t refl a b

  connective_ignores : (n : Supply) (o : Connective) (s t : Term) → TermIgnores p world n s → TermIgnores p world n t → TermIgnores p world n (binary (head_of_connective o) s t)
  connective_ignores n connective.And s t a b = two_ignore p world n head.And s t refl a b
  connective_ignores n connective.Or s t a b = two_ignore p world n head.Or s t refl a b

  comparison_ignores : (n : Supply) (o : Comparison) (s t : Term) → TermIgnores p world n s → TermIgnores p world n t → TermIgnores p world n (comparing o s t)
  comparison_ignores n comparison.Equal s t a b = two_ignore p world n head.Eq s t refl a b
  comparison_ignores n comparison.NotEqual s t a b = one_ignores n head.Not _ refl (two_ignore p world n head.Eq s t refl a b)
  comparison_ignores n comparison.Less s t a b = two_ignore p world n head.Lt s t refl a b
  comparison_ignores n comparison.AtMost s t a b = two_ignore p world n head.Le s t refl a b
  comparison_ignores n comparison.Greater s t a b = two_ignore p world n head.Lt t s refl b a
  comparison_ignores n comparison.AtLeast s t a b = two_ignore p world n head.Le t s refl b a

  truth_ignores : (n : Supply) (b : Bool) → TermIgnores p world n (truth b)
  truth_ignores n true = record { alike = λ v w same. refl }
  truth_ignores n false = record { alike = λ v w same. refl }

  -- a variable or class that is not fresh
  pub old_variable : (n : Supply) (h : Head) → is_variable h ≡ true → is_new full_supply h ≡ false → TermIgnores p world n (alone h)
  old_variable n h variable old = variable_ignores p world n h variable (not_new full_supply n h (full_first n) old)

  -- ---- places

  abbrev StepsIgnore : Supply → List Step → Type 0
  StepsIgnore n [] = Unit {0}
  StepsIgnore n (ToElement i ∷ path) = TermIgnores p world n i × StepsIgnore n path
  StepsIgnore n (ToField f ∷ path) = StepsIgnore n path

  -- the parts of a place ignore what is left
  record PartsIgnore (n : Supply) (d : Target) : Type 0 where
    variable : is_variable d.root ≡ true
    old : is_new full_supply d.root ≡ false
    pointer : (q : Term) → d.pointer ≡ Some q → TermIgnores p world n q
    steps : StepsIgnore n d.path

  steps_further : (n : Supply) (path : List Step) (i : Term) → StepsIgnore n path → TermIgnores p world n i → StepsIgnore n (path ++ ToElement i ∷ [])
  steps_further n [] i steps a = (a, tt)
  steps_further n (ToElement j ∷ path) i steps a = (steps.0, steps_further n path i steps.1 a)
  steps_further n (ToField f ∷ path) i steps a = steps_further n path i steps a

  steps_to_field : (n : Supply) (path : List Step) (f : Symbol) → StepsIgnore n path → StepsIgnore n (path ++ ToField f ∷ [])
  steps_to_field n [] f steps = tt
  steps_to_field n (ToElement j ∷ path) f steps = (steps.0, steps_to_field n path f steps.1)
  steps_to_field n (ToField g ∷ path) f steps = steps_to_field n path f steps

  later_steps : (n m : Supply) → IsLater n m → (path : List Step) → StepsIgnore n path → StepsIgnore m path
  later_steps n m later [] steps = tt
  later_steps n m later (ToElement i ∷ path) steps = (later_term p world n m i later steps.0, later_steps n m later path steps.1)
  later_steps n m later (ToField f ∷ path) steps = later_steps n m later path steps

  later_parts : (n m : Supply) (d : Target) → IsLater n m → PartsIgnore n d → PartsIgnore m d
  later_parts n m d later parts =
      record { variable = parts.variable; old = parts.old; pointer = λ q e. later_term p world n m q later (parts.pointer q e); steps = later_steps n m later d.path parts.steps }

  behind_ignores : (n : Supply) (path : List Step) (t : Term) → StepsIgnore n path → TermIgnores p world n t → TermIgnores p world n (part_behind t path)
  behind_ignores n [] t steps a = a
  behind_ignores n (ToElement i ∷ path) t steps a = behind_ignores n path (part t (ToElement i)) steps.1 (two_ignore p world n head.Select t i refl a steps.0)
  behind_ignores n (ToField f ∷ path) t steps a = behind_ignores n path (part t (ToField f)) steps (one_ignores n (head.Field f) t refl a)

  changed_ignores : (n : Supply) (path : List Step) (s t : Term) → StepsIgnore n path → TermIgnores p world n s → TermIgnores p world n t → TermIgnores p world n (changed_part s path t)
  changed_ignores n [] s t steps a b = b
  changed_ignores n (ToElement i ∷ path) s t steps a b =
      three_ignore n head.Store s i (changed_part (part s (ToElement i)) path t) refl a steps.0 (changed_ignores n path (part s (ToElement i)) t steps.1 (two_ignore p world n head.Select s i refl a steps.0) b)
  changed_ignores n (ToField f ∷ path) s t steps a b =
      two_ignore p world n (head.Put f) s (changed_part (part s (ToField f)) path t) refl a (changed_ignores n path (part s (ToField f)) t steps (one_ignores n (head.Field f) s refl a) b)

  base_ignores : (n : Supply) (root : Head) (pointer : Option Term) → is_variable root ≡ true → is_new full_supply root ≡ false → ((q : Term) → pointer ≡ Some q → TermIgnores p world n q) → TermIgnores p world n (base root pointer)
  base_ignores n root None variable old a = old_variable n root variable old
  base_ignores n root (Some q) variable old a = two_ignore p world n head.Cell (alone root) q refl (old_variable n root variable old) (a q refl)

  root_ignores : (n : Supply) (root : Head) (pointer : Option Term) (t : Term) → is_variable root ≡ true → is_new full_supply root ≡ false → ((q : Term) → pointer ≡ Some q → TermIgnores p world n q) → TermIgnores p world n t → TermIgnores p world n (in_root root pointer t)
  root_ignores n root None t variable old a b = b
  root_ignores n root (Some q) t variable old a b = three_ignore n head.SetCell (alone root) q t refl (old_variable n root variable old) (a q refl) b

  present_ignores : (n : Supply) (d : Target) → PartsIgnore n d → TermIgnores p world n (present d)
  present_ignores n d parts = behind_ignores n d.path (base d.root d.pointer) parts.steps (base_ignores n d.root d.pointer parts.variable parts.old parts.pointer)

  target_ignores : (n : Supply) (d : Target) → PartsIgnore n d → TargetIgnores p world n d
  target_ignores n d parts = record {
    variable = parts.variable;
    old = not_new full_supply n d.root (full_first n) parts.old;
    present = present_ignores n d parts;
    whole = λ m later t a.
        let there = later_parts n m d later parts in
        root_ignores m d.root d.pointer _ there.variable there.old there.pointer
        (changed_ignores m d.path (base d.root d.pointer) t there.steps (base_ignores m d.root d.pointer there.variable there.old there.pointer) a);
  }

  pub later_target : (n m : Supply) (d : Target) → IsLater n m → TargetIgnores p world n d → TargetIgnores p world m d
  later_target n m d later a = record {
    variable = a.variable;
    old = not_new n m d.root later a.old;
    present = later_term p world n m (present d) later a.present;
    whole = λ k more t b. a.whole k (later_after n m k later more) t b;
  }

  pub later_arguments : (n m : Supply) → IsLater n m → (arguments : List Argument) → ArgumentsIgnore p world n arguments → ArgumentsIgnore p world m arguments
  later_arguments n m later [] all = tt
  later_arguments n m later (Given t ∷ arguments) all = (later_term p world n m t later all.0, later_arguments n m later arguments all.1)
  later_arguments n m later (AtPlace d ∷ arguments) all = (later_target n m d later all.0, later_arguments n m later arguments all.1)

  -- ---- ENTRY and EXIT at a call

  -- each term of a list of pairs ignores what is left
  abbrev pub PairsIgnore : Supply → List (Head × Term) → Type 0
  PairsIgnore n [] = Unit {0}
  PairsIgnore n (pair ∷ pairs) = TermIgnores p world n pair.1 × PairsIgnore n pairs

  pub pairs_both : (n : Supply) (xs ys : List (Head × Term)) → PairsIgnore n xs → PairsIgnore n ys → PairsIgnore n (xs ++ ys)
  pairs_both n [] ys a b = b
  pairs_both n (x ∷ xs) ys a b = (a.0, pairs_both n xs ys a.1 b)

  pub as_pairs : (n : Supply) (pairs : List (Head × Term)) → PairsIgnore n pairs → PairsAre p world n pairs
  as_pairs n [] all = record { each = λ h t e. absurd (nothing_there e) }
  as_pairs n (pair ∷ pairs) all = record { each = λ h t e. by_test (head_eq h pair.0) t e (λ e. (as_pairs n pairs all.1).each h t e) }
    where
      by_test : {o : Option Term} (b : Bool) (t : Term) → cond b (Some pair.1) o ≡ Some t → (o ≡ Some t → TermIgnores p world n t) → TermIgnores p world n t
      by_test true t e later = subst (TermIgnores p world n) (some_is e) all.0
      by_test false t e later = later e

  argument_ignores : (n : Supply) (a : Argument) → ArgumentIgnores p world n a → TermIgnores p world n (present_argument a)
  argument_ignores n (Given t) a = a
  argument_ignores n (AtPlace d) a = a.present

  at_call_ignore : (n : Supply) (formals : List Formal) (arguments : List Argument) → ArgumentsIgnore p world n arguments → PairsIgnore n (at_call p formals arguments)
  at_call_ignore n [] arguments all = tt
  at_call_ignore n (f ∷ formals) [] all = tt
  at_call_ignore n (f ∷ formals) (a ∷ arguments) all = (argument_ignores n a all.0, at_call_ignore n formals arguments all.1)

  starts_ignore : (n : Supply) (formals : List Formal) (arguments : List Argument) → ArgumentsIgnore p world n arguments → PairsIgnore n (starts_at_call p formals arguments)
  starts_ignore n [] arguments all = tt
  starts_ignore n (f ∷ formals) [] all = tt
  starts_ignore n (f ∷ formals) (Given t ∷ arguments) all = (all.0, starts_ignore n formals arguments all.1)
  starts_ignore n (f ∷ formals) (AtPlace d ∷ arguments) all = starts_ignore n formals arguments all.1

  item_ignores : (n : Supply) (r : Option Routine) (i : Item) → TermIgnores p world n (alone (item_head p r i))
  item_ignores n r (Variable x) = old_variable n (item_head p r (Variable x)) refl refl
  item_ignores n r (Class t) = old_variable n (head.ClassVar t 0) refl refl

  initial_ignore : (n : Supply) (q : Routine) (arguments : List Argument) → ArgumentsIgnore p world n arguments → (names : List (Symbol × Item)) → PairsIgnore n (map (λ i. (head.Var i.0 (item_sort p (Some q) i.1) 0, substitute (replacing (at_call p q.formals arguments)) (alone (item_head p (Some q) i.1)))) names)
  initial_ignore n q arguments all [] = tt
  initial_ignore n q arguments all (i ∷ names) = (
    substituted_ignores p world n (at_call p q.formals arguments) (as_pairs n (at_call p q.formals arguments) (at_call_ignore n q.formals arguments all)) (alone (item_head p (Some q) i.1)) (item_ignores n (Some q) i.1),
    initial_ignore n q arguments all names,
  )

  pub entry_ignores : (n : Supply) (q : Routine) (arguments : List Argument) → ArgumentsIgnore p world n arguments → (t : Term) → entry_at_call p q arguments ≡ Some t → TermIgnores p world n t
  entry_ignores n q arguments all t e = by_entry q.entry e
    where
      by_entry : (o : Option Annotation) → option_map (λ a. substitute (replacing (at_call p q.formals arguments)) (entry_term p q a)) o ≡ Some t → TermIgnores p world n t
      by_entry None e = absurd (nothing_there e)
      by_entry (Some a) e = subst (TermIgnores p world n) (some_is e)
          (substituted_ignores p world n (at_call p q.formals arguments) (as_pairs n (at_call p q.formals arguments) (at_call_ignore n q.formals arguments all)) (entry_term p q a) (old_ignores p world n (entry_term p q a) (formula_old (name_in (entry_scope p q)) (λ x. refl) a.formula)))

  pub exit_ignores : (n : Supply) (q : Routine) (arguments : List Argument) (after : List (Head × Term)) → ArgumentsIgnore p world n arguments → PairsIgnore n after → (t : Term) → exit_at_call p q arguments after ≡ Some t → TermIgnores p world n t
  exit_ignores n q arguments after all behind t e = by_exit q.exit e
    where
      by_exit : (o : Option Annotation) → option_map (λ a. substitute (replacing (starts_at_call p q.formals arguments ++ (initial_at_call p q arguments ++ after))) (exit_term p q a)) o ≡ Some t → TermIgnores p world n t
      by_exit None e = absurd (nothing_there e)
      by_exit (Some a) e =
          let pairs = starts_at_call p q.formals arguments ++ (initial_at_call p q arguments ++ after) in
          let ignore = pairs_both n (starts_at_call p q.formals arguments) _ (starts_ignore n q.formals arguments all) (pairs_both n (initial_at_call p q arguments) after (initial_ignore n q arguments all q.initial) behind) in
          subst (TermIgnores p world n) (some_is e)
          (substituted_ignores p world n pairs (as_pairs n pairs ignore) (exit_term p q a) (old_ignores p world n (exit_term p q a) (formula_old (name_at_exit p q) (λ x. start_old _ x _) a.formula)))

  pub wanted_entry_ignores : (n : Supply) (here : Here) (line : ℕ) (o : Option Term) → ((t : Term) → o ≡ Some t → TermIgnores p world n t) → Ignores p world n (wanted_entry here.routine line o)
  wanted_entry_ignores n here line None a = ignores_none p world n
  wanted_entry_ignores n here line (Some t) a = wanted_ignores p world n here.routine kind.Entry line t (a t refl)

  module _ (here : Here) where
    abbrev r : Option Routine
    r = routine_in p here.routine

    none_supplied : (n : Supply) → AreSupplied p world here n n []
    none_supplied n = record { later = λ h new. new; in_front = λ k later wanted ignores. ignores }

    pub supplied_then : (n m k : Supply) (xs ys : List Called) → AreSupplied p world here n m xs → AreSupplied p world here m k ys → AreSupplied p world here n k (xs ++ ys)
    supplied_then n m k xs ys a b = record {
      later = later_after n m k a.later b.later;
      in_front = λ l later wanted ignores. subst (Ignores p world l) (sym (calls-append here.routine xs ys wanted))
          (a.in_front l (later_after m k l b.later later) (before_calls here.routine ys wanted) (b.in_front l later wanted ignores));
    }

    -- a call of a function
    call_supplied : (q : Routine) (line : ℕ) (n : Supply) (arguments : List Argument) → ArgumentsIgnore p world n arguments
        → AreSupplied p world here n (fresh_variable q.name (sort_of_result p q) n).supply (record {
          args = map present_argument arguments;
          needs = entry_at_call p q arguments;
          gives = exit_at_call p q arguments ((result_head p q, alone (fresh_variable q.name (sort_of_result p q) n).head) ∷ []);
          line = line;
        } ∷ [])
    call_supplied q line n arguments all =
        let kind = result_head p q in
        let y = (fresh_variable q.name (sort_of_result p q) n).head in
        let m = (fresh_variable q.name (sort_of_result p q) n).supply in
        record {
          later = fresh_later kind n;
          in_front = λ k later wanted ignores.
              let at = later_arguments n k (later_after n m k (fresh_later kind n) later) arguments all in
              ignores_both p world k (wanted_entry here.routine line (entry_at_call p q arguments)) _
              (wanted_entry_ignores k here line (entry_at_call p q arguments) (entry_ignores k q arguments at))
              (assuming_there_ignores p world k (exit_at_call p q arguments ((kind, alone y) ∷ [])) (exit_ignores k q arguments ((kind, alone y) ∷ []) at (variable_ignores p world k y refl (not_new m k y later (fresh_taken kind n refl)), tt)) wanted ignores);
        }

    record Valuing (n : Supply) (v : Valued) : Type 0 where
      supplied : AreSupplied p world here n v.supply v.calls
      term : TermIgnores p world v.supply v.term

    record Placing (n : Supply) (d : Placed) : Type 0 where
      supplied : AreSupplied p world here n d.supply d.calls
      parts : PartsIgnore d.supply d.target

    record Arguing (n : Supply) (a : Argued) : Type 0 where
      supplied : AreSupplied p world here n a.supply a.calls
      arguments : ArgumentsIgnore p world a.supply a.arguments

    two_valued : (n : Supply) (a b : Expression) (f : Term → Term → Term) → ((m : Supply) (s t : Term) → TermIgnores p world m s → TermIgnores p world m t → TermIgnores p world m (f s t)) → Valuing n (valued p r n a) → Valuing (valued p r n a).supply (valued p r (valued p r n a).supply b)
        → Valuing n (record { term = f (valued p r n a).term (valued p r (valued p r n a).supply b).term; calls = (valued p r n a).calls ++ (valued p r (valued p r n a).supply b).calls; supply = (valued p r (valued p r n a).supply b).supply })
    two_valued n a b f made one two =
        let v = valued p r n a in
        let w = valued p r v.supply b in
        record {
          supplied = supplied_then n v.supply w.supply v.calls w.calls one.supplied two.supplied;
          term = made w.supply v.term w.term (later_term p world v.supply w.supply v.term two.supplied.later one.term) two.term;
        }

    cell_parts : (n : Supply) (t : TypeId) (q : Term) → TermIgnores p world n q → PartsIgnore n (cell_behind t q)
    cell_parts n t q a = record { variable = refl; old = refl; pointer = λ u e. subst (TermIgnores p world n) (some_is e) a; steps = tt }

    mutual
      values_supplied : (e : Expression) (n : Supply) → Valuing n (valued p r n e)
      values_supplied (Numeral z) n = record { supplied = none_supplied n; term = record { alike = λ v w same. refl } }
      values_supplied (Boolean b) n = record { supplied = none_supplied n; term = truth_ignores n b }
      values_supplied (NilOf t) n = record { supplied = none_supplied n; term = record { alike = λ v w same. refl } }
      values_supplied (Read d) n =
          let at = places_supplied d n in
          record { supplied = at.supplied; term = present_ignores (placed p r n d).supply (placed p r n d).target at.parts }
      values_supplied (Result c) n = calls_supplied c n
      values_supplied (Through c line t others) n =
          let v = called p r n c in
          let one = calls_supplied c n in
          let d = selected p r (to_cell t v) others in
          let at = selectors_supplied others n (to_cell t v) (record { supplied = one.supplied; parts = cell_parts v.supply t v.term one.term }) in
          record { supplied = at.supplied; term = present_ignores d.supply d.target at.parts }
      values_supplied (Negative e) n =
          let one = values_supplied e n in
          let v = valued p r n e in
          record { supplied = one.supplied; term = two_ignore p world v.supply head.Sub _ v.term refl (record { alike = λ v w same. refl }) one.term }
      values_supplied (Calculated o a b) n = two_valued n a b (binary (head_of_arithmetic o)) (λ m. arithmetic_ignores m o) (values_supplied a n) (values_supplied b (valued p r n a).supply)
      values_supplied (Compared o a b) n = two_valued n a b (comparing o) (λ m. comparison_ignores m o) (values_supplied a n) (values_supplied b (valued p r n a).supply)
      values_supplied (Negated e) n =
          let one = values_supplied e n in
          let v = valued p r n e in
          record { supplied = one.supplied; term = one_ignores v.supply head.Not v.term refl one.term }
      values_supplied (Joined o a b) n = two_valued n a b (binary (head_of_connective o)) (λ m. connective_ignores m o) (values_supplied a n) (values_supplied b (valued p r n a).supply)

      places_supplied : (d : Designator) (n : Supply) → Placing n (placed p r n d)
      places_supplied (designator line x others) n =
          selectors_supplied others n (at_start n (item_head p r (Variable x)))
          (record { supplied = none_supplied n; parts = record { variable = refl; old = refl; pointer = λ q e. absurd (nothing_there e); steps = tt } })

      selectors_supplied : (others : Selectors) (n : Supply) (d : Placed) → Placing n d → Placing n (selected p r d others)
      selectors_supplied no_selectors n d at = at
      selectors_supplied (at_index t e others) n d at =
          let one = values_supplied e d.supply in
          let v = valued p r d.supply e in
          let there = later_parts d.supply v.supply d.target one.supplied.later at.parts in
          selectors_supplied others n (to_element d (λ m. valued p r m e))
          (record {
            supplied = supplied_then n d.supply v.supply d.calls v.calls at.supplied one.supplied;
            parts = record { variable = there.variable; old = there.old; pointer = there.pointer; steps = steps_further v.supply d.target.path v.term there.steps one.term };
          })
      selectors_supplied (at_field t f others) n d at =
          selectors_supplied others n (to_field f d)
          (record {
            supplied = at.supplied;
            parts = record { variable = at.parts.variable; old = at.parts.old; pointer = at.parts.pointer; steps = steps_to_field d.supply d.target.path f at.parts.steps };
          })
      selectors_supplied (at_cell line t others) n d at =
          selectors_supplied others n (to_cell t (read_at d)) (record { supplied = at.supplied; parts = cell_parts d.supply t (present d.target) (present_ignores d.supply d.target at.parts) })

      calls_supplied : (c : Call) (n : Supply) → Valuing n (called p r n c)
      calls_supplied (call id line given) n = by_routine (routine_at p id) (arguments_supplied given n)
        where
          by_routine : (o : Option Routine) → Arguing n (argued p r n given) → Valuing n (called_in p o line (argued p r n given))
          by_routine None all = record {
            supplied = record { later = all.supplied.later; in_front = λ k later wanted ignores. ignores };
            term = record { alike = λ v w same. refl };
          }
          by_routine (Some q) all =
              let a = argued p r n given in
              let fresh = fresh_variable q.name (sort_of_result p q) a.supply in
              record {
                supplied = supplied_then n a.supply fresh.supply a.calls _ all.supplied (call_supplied q line a.supply a.arguments all.arguments);
                term = variable_ignores p world fresh.supply fresh.head refl (fresh_taken (result_head p q) a.supply refl);
              }

      arguments_supplied : (given : Arguments) (n : Supply) → Arguing n (argued p r n given)
      arguments_supplied no_arguments n = record { supplied = none_supplied n; arguments = tt }
      arguments_supplied (by_value e others) n =
          let one = values_supplied e n in
          let v = valued p r n e in
          let two = arguments_supplied others v.supply in
          let a = argued p r v.supply others in
          record {
            supplied = supplied_then n v.supply a.supply v.calls a.calls one.supplied two.supplied;
            arguments = (later_term p world v.supply a.supply v.term two.supplied.later one.term, two.arguments);
          }
      arguments_supplied (by_place d others) n =
          let one = places_supplied d n in
          let v = placed p r n d in
          let two = arguments_supplied others v.supply in
          let a = argued p r v.supply others in
          record {
            supplied = supplied_then n v.supply a.supply v.calls a.calls one.supplied two.supplied;
            arguments = (later_target v.supply a.supply v.target two.supplied.later (target_ignores v.supply v.target one.parts), two.arguments);
          }

    pub place_supplied : (d : Designator) (n : Supply) → IsSuppliedPlace p world here d n
    place_supplied d n = let at = places_supplied d n in record { supplied = at.supplied; target = target_ignores (placed p r n d).supply (placed p r n d).target at.parts }

    pub test_supplied : (e : Expression) (n : Supply) → IsSuppliedTest p world here e n
    test_supplied e n = let at = values_supplied e n in record { later = at.supplied.later; term = at.term; calls = at.supplied.in_front }

    pub argued_supplied : (given : Arguments) (n : Supply) → AreSuppliedArguments p world here given n
    argued_supplied given n = let all = arguments_supplied given n in record { supplied = all.supplied; arguments = all.arguments }
