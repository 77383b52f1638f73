-- The terms of annotations have no fresh variable, and so their worth ignores what a supply has still to give.
use Rattle.std.proofs.Common.{◌≡◌, ℕ, Bool, true, false, cond, not, subst, ◌&&◌, ◌||◌, List, [], ◌∷◌, refl, sym, ap, ◌∙◌, Option, Some, None}
use Rattle.std.specs.Cmp.Derive.{both_true}
use Rattle.std.proofs.lemmas.Bool.{false≢true}
use Rattle.spv_logic.specs.declared.names.names.Symbol.{Symbol}
use Rattle.spv_logic.specs.declared.conditions.Kind.{Kind}
use Rattle.spv_logic.specs.declared.conditions.RoutineId.{RoutineId}
use Rattle.spv_logic.specs.declared.operators.Head.{Head}
use Rattle.spv_logic.specs.declared.operators.Head.TheVariants as head
use Rattle.spv_logic.specs.Values.{truth_of}
use Rattle.spv_logic.specs.Terms.{Term, head_eq, eval, worth, heads_pass, all_heads_pass}
use Rattle.spv_logic.specs.Substitution.{is_variable, substitute, value_under, under}
use Rattle.spv_logic.specs.Conditions.{Meaning, Valuation, Condition}
use Rattle.spv_logic.proofs.Substitution.{worth-same, eval-agree, eval-substitute}
use Rattle.spv_program.specs.declared.operators.Arithmetic.{Arithmetic}
use Rattle.spv_program.specs.declared.operators.Arithmetic.TheVariants as arithmetic
use Rattle.spv_program.specs.declared.operators.Comparison.{Comparison}
use Rattle.spv_program.specs.declared.operators.Comparison.TheVariants as comparison
use Rattle.spv_program.specs.declared.operators.Connective.{Connective}
use Rattle.spv_program.specs.declared.operators.Connective.TheVariants as connective
use Rattle.spv_program.specs.declared.operators.BuiltIn.{BuiltIn}
use Rattle.spv_program.specs.declared.operators.BuiltIn.TheVariants as known
use Rattle.spv_program.specs.Formulas.{Formula, Formulas, Annotation, Numeral, Boolean, NilOf, Named, ClassOf, Element, FieldOf, Content, Applied, Known, Negative, Calculated, Compared, Negated, Joined, Implied, no_formulas, formulas}
use Rattle.spv_program.specs.FormulaTypes.{head_of_known}
use Rattle.spv_program.specs.Programs.{Routine, Program, routine_in}
use Rattle.spv_program.specs.Scopes.{body_scope}
use Rattle.spv_program.specs.Supplies.{Supply, full_supply}
use Rattle.spv_program.specs.Terms.{binary, truth, head_of_arithmetic, comparing, head_of_connective, name_in, formula_term, formula_terms, body_term}
use Rattle.spv_program.specs.Calls.{replacing}
use Rattle.spv_program.proofs.SortFacts.{nothing_there, some_is}
use Rattle.spv_meaning.specs.Before.{wanted, negated, wanted_if_there, wanted_with, replaced}
use Rattle.spv_rule_soundness.specs.statements.Truth.{is_new, meaning_in, Ignores, TermIgnores}
use Rattle.spv_rule_soundness.proofs.statements.Lists.{not_new, follow-replaced}
use Rattle.spv_rule_soundness.proofs.statements.States.{full_first}

-- ---- no fresh variable

abbrev pub is_old : Head → Bool
is_old h = not (is_new full_supply h)

pub truth_old : (b : Bool) → heads_pass is_old (truth b) ≡ true
truth_old true = refl
truth_old false = refl

pub arithmetic_old : (o : Arithmetic) → is_old (head_of_arithmetic o) ≡ true
arithmetic_old arithmetic.Plus = refl
arithmetic_old arithmetic.Minus = refl
arithmetic_old arithmetic.Times = refl
arithmetic_old arithmetic.Div = refl
arithmetic_old arithmetic.Mod = refl

pub connective_old : (o : Connective) → is_old (head_of_connective o) ≡ true
connective_old connective.And = refl
connective_old connective.Or = refl

known_old : (b : BuiltIn) → is_old (head_of_known b) ≡ true
known_old known.Select = refl
known_old known.Store = refl
known_old (known.Put f) = refl
known_old known.Cell = refl
known_old known.SetCell = refl
known_old known.Extend = refl
known_old known.PointerTo = refl
known_old known.Car = refl
known_old known.Cdr = refl
known_old known.Cons = refl
known_old known.Atom = refl

two_old : (h : Head) (s t : Term) → is_old h ≡ true → heads_pass is_old s ≡ true → heads_pass is_old t ≡ true → heads_pass is_old (binary h s t) ≡ true
two_old h s t a b c = both_true a (both_true b (both_true c refl))

pub comparison_old : (o : Comparison) (s t : Term) → heads_pass is_old s ≡ true → heads_pass is_old t ≡ true → heads_pass is_old (comparing o s t) ≡ true
comparison_old comparison.Equal s t a b = two_old head.Eq s t refl a b
comparison_old comparison.NotEqual s t a b = both_true (two_old head.Eq s t refl a b) refl
comparison_old comparison.Less s t a b = two_old head.Lt s t refl a b
comparison_old comparison.AtMost s t a b = two_old head.Le s t refl a b
comparison_old comparison.Greater s t a b = two_old head.Lt t s refl b a
comparison_old comparison.AtLeast s t a b = two_old head.Le t s refl b a

module _ (names : Symbol → Head) (old : (x : Symbol) → is_old (names x) ≡ true) where
  mutual
    pub formula_old : (f : Formula) → heads_pass is_old (formula_term names f) ≡ true
    formula_old (Numeral z) = refl
    formula_old (Boolean b) = truth_old b
    formula_old (NilOf t) = refl
    formula_old (Named line x) = both_true (old x) refl
    formula_old (ClassOf line t) = refl
    formula_old (Element a i) = both_true (formula_old a) (both_true (formula_old i) refl)
    formula_old (FieldOf r f) = both_true (formula_old r) refl
    formula_old (Content line t q) = both_true (formula_old q) refl
    formula_old (Applied f fs) = formulas_old fs
    formula_old (Known b fs) = both_true (known_old b) (formulas_old fs)
    formula_old (Negative f) = both_true (formula_old f) refl
    formula_old (Calculated o f g) = both_true (arithmetic_old o) (both_true (formula_old f) (both_true (formula_old g) refl))
    formula_old (Compared o f g) = comparison_old o _ _ (formula_old f) (formula_old g)
    formula_old (Negated f) = both_true (formula_old f) refl
    formula_old (Joined o f g) = both_true (connective_old o) (both_true (formula_old f) (both_true (formula_old g) refl))
    formula_old (Implied f g) = both_true (formula_old f) (both_true (formula_old g) refl)

    formulas_old : (fs : Formulas) → all_heads_pass is_old (formula_terms names fs) ≡ true
    formulas_old no_formulas = refl
    formulas_old (formulas f fs) = both_true (formula_old f) (formulas_old fs)

module _ (p : Program) (world : Meaning) where
  -- a term without fresh variables
  pub old_ignores : (n : Supply) (t : Term) → heads_pass is_old t ≡ true → TermIgnores p world n t
  old_ignores n t pass = record { alike = λ v w same. eval-agree (meaning_in p world) v w is_old t pass (λ k old variable. same k variable (not_new full_supply n k (full_first n) (not_true (is_new full_supply k) old))) }
    where
      not_true : (b : Bool) → not b ≡ true → b ≡ false
      not_true true e = absurd (false≢true e)
      not_true false e = refl

  pub annotation_ignores : (n : Supply) (r : Option Routine) (a : Annotation) → TermIgnores p world n (body_term p r a)
  annotation_ignores n r a = old_ignores n (body_term p r a) (formula_old (name_in (body_scope p r)) (λ x. refl) a.formula)

  -- ---- terms of terms that ignore

  pub two_ignore : (n : Supply) (h : Head) (s t : Term) → is_variable h ≡ false → TermIgnores p world n s → TermIgnores p world n t → TermIgnores p world n (binary h s t)
  two_ignore n h s t op a b = record {
    alike = λ v w same. worth-same (meaning_in p world) v w h _ op
        ∙ (ap (λ x. worth (meaning_in p world) w h (x ∷ eval (meaning_in p world) v t ∷ [])) (a.alike v w same) ∙ ap (λ y. worth (meaning_in p world) w h (eval (meaning_in p world) w s ∷ y ∷ [])) (b.alike v w same));
  }

  pub negated_ignores : (n : Supply) (t : Term) → TermIgnores p world n t → TermIgnores p world n (negated t)
  negated_ignores n t a = record { alike = λ v w same. ap (λ x. worth (meaning_in p world) w head.Not (x ∷ [])) (a.alike v w same) }

  pub later_term : (n m : Supply) (t : Term) → ((h : Head) → is_new m h ≡ true → is_new n h ≡ true) → TermIgnores p world n t → TermIgnores p world m t
  later_term n m t later a = record { alike = λ v w same. a.alike v w (λ h variable old. same h variable (not_new n m h later old)) }

  -- ---- conditions of terms that ignore

  pub wanted_ignores : (n : Supply) (here : Option RoutineId) (k : Kind) (line : ℕ) (t : Term) → TermIgnores p world n t → Ignores p world n (wanted here k line t ∷ [])
  wanted_ignores n here k line t a = record { alike = λ v w same. ap (λ x. (not true || truth_of x) && true) (a.alike v w same) }

  pub wanted_there_ignores : (n : Supply) (here : Option RoutineId) (k : Kind) (a : Option Annotation) → Ignores p world n (wanted_if_there p here k a)
  wanted_there_ignores n here k None = record { alike = λ v w same. refl }
  wanted_there_ignores n here k (Some a) = wanted_ignores n here k a.line (body_term p (routine_in p here) a) (annotation_ignores n (routine_in p here) a)

  -- ---- replacing

  -- each term that is put in the place of a variable ignores what is left
  pub record PairsAre (n : Supply) (pairs : List (Head × Term)) : Type 0 where
    pub each : (h : Head) (t : Term) → replacing pairs h ≡ Some t → TermIgnores p world n t

  under_ignores : (n : Supply) (pairs : List (Head × Term)) → PairsAre n pairs → (v w : Valuation) → ((h : Head) → is_variable h ≡ true → is_new n h ≡ false → v h ≡ w h) → (h : Head) → is_variable h ≡ true → is_new n h ≡ false → under (meaning_in p world) (replacing pairs) v h ≡ under (meaning_in p world) (replacing pairs) w h
  under_ignores n pairs are v w same h variable old = by_term (replacing pairs h) refl
    where
      by_term : (o : Option Term) → replacing pairs h ≡ o → value_under (meaning_in p world) v o (v h) ≡ value_under (meaning_in p world) w o (w h)
      by_term None e = same h variable old
      by_term (Some t) e = (are.each h t e).alike v w same

  pub replaced_ignores : (n : Supply) (pairs : List (Head × Term)) → PairsAre n pairs → (conditions : List Condition) → Ignores p world n conditions → Ignores p world n (replaced pairs conditions)
  replaced_ignores n pairs are conditions ignores = record {
    alike = λ v w same. follow-replaced (meaning_in p world) v pairs conditions
        ∙ (ignores.alike _ _ (under_ignores n pairs are v w same) ∙ sym (follow-replaced (meaning_in p world) w pairs conditions));
  }

  pub substituted_ignores : (n : Supply) (pairs : List (Head × Term)) → PairsAre n pairs → (t : Term) → TermIgnores p world n t → TermIgnores p world n (substitute (replacing pairs) t)
  substituted_ignores n pairs are t a = record {
    alike = λ v w same. eval-substitute (meaning_in p world) (replacing pairs) v t
        ∙ (a.alike _ _ (under_ignores n pairs are v w same) ∙ sym (eval-substitute (meaning_in p world) (replacing pairs) w t));
  }

  pub one_pair : (n : Supply) (k : Head) (t : Term) → TermIgnores p world n t → PairsAre n ((k, t) ∷ [])
  one_pair n k t a = record { each = λ h u e. by_test (head_eq h k) u e }
    where
      by_test : (b : Bool) (u : Term) → cond b (Some t) None ≡ Some u → TermIgnores p world n u
      by_test true u e = subst (TermIgnores p world n) (some_is e) a
      by_test false u e = absurd (nothing_there e)

  pub wanted_with_ignores : (n : Supply) (here : Option RoutineId) (k : Kind) (x : Head) (t : Term) → TermIgnores p world n t → (a : Option Annotation) → Ignores p world n (wanted_with p here k x t a)
  wanted_with_ignores n here k x t ignores None = record { alike = λ v w same. refl }
  wanted_with_ignores n here k x t ignores (Some a) =
      wanted_ignores n here k a.line (substitute (replacing ((x, t) ∷ [])) (body_term p (routine_in p here) a)) (substituted_ignores n ((x, t) ∷ []) (one_pair n x t ignores) (body_term p (routine_in p here) a) (annotation_ignores n (routine_in p here) a))
