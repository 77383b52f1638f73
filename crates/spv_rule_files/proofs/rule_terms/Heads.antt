-- Tests on the heads of a formula's term, and on its names.
use Rattle.std.proofs.Common.{◌≡◌, ℤ, pos, Bool, true, refl}
use Rattle.spv_logic.specs.declared.types.TypeId.{TypeId}
use Rattle.std.specs.Cmp.Derive.{both_true}
use Rattle.std.proofs.lemmas.Bool.{false≢true}
use Rattle.spv_logic.proofs.list.Tests.{left_true, right_true}
use Rattle.spv_logic.specs.declared.names.names.Symbol.{Symbol}
use Rattle.spv_logic.specs.declared.operators.Head.{Head}
use Rattle.spv_logic.specs.declared.operators.Head.TheVariants as head
use Rattle.spv_logic.specs.Terms.{Term, heads_pass, all_heads_pass}
use Rattle.spv_tree.specs.declared.syntax.names.Name.{Name}
use Rattle.spv_program.specs.declared.operators.Comparison.{Comparison}
use Rattle.spv_program.specs.declared.operators.Comparison.TheVariants as comparison
use Rattle.spv_program.specs.Formulas.{Formula, Formulas, Numeral, Boolean, NilOf, Named, ClassOf, Element, FieldOf, Content, Applied, Known, Negative, Calculated, Compared, Negated, Joined, Implied, no_formulas, formulas}
use Rattle.spv_program.specs.FormulaTypes.{head_of_known}
use Rattle.spv_program.specs.Terms.{unary, binary, formula_term, formula_terms, comparing, head_of_arithmetic, head_of_connective}
use Rattle.spv_expression_terms.proofs.term_walk.Passing.{is_operator, pass_one, pass_two, pass_known, pass_applied, pass_truth, pass_calculated, pass_joined, pass_compared}
use Rattle.spv_rule_files.specs.Right.{has_no_class, have_no_class}
use Rattle.spv_rule_files.proofs.Carried.{names_pass, all_names_pass}

module _ (heads : Symbol → Head) (test : Head → Bool) where
  abbrev on_name : Name → Bool
  on_name n = test (heads n.symbol)

  -- ---- where each head passes, that of each name does

  passed_one : (h : Head) (s : Term) → heads_pass test (unary h s) ≡ true → heads_pass test s ≡ true
  passed_one h s e = left_true (heads_pass test s) true (right_true (test h) _ e)

  passed_left : (h : Head) (s t : Term) → heads_pass test (binary h s t) ≡ true → heads_pass test s ≡ true
  passed_left h s t e = left_true (heads_pass test s) _ (right_true (test h) _ e)

  passed_right : (h : Head) (s t : Term) → heads_pass test (binary h s t) ≡ true → heads_pass test t ≡ true
  passed_right h s t e = left_true (heads_pass test t) true (right_true (heads_pass test s) _ (right_true (test h) _ e))

  compared_left : (o : Comparison) (s t : Term) → heads_pass test (comparing o s t) ≡ true → heads_pass test s ≡ true
  compared_left comparison.Equal s t e = passed_left head.Eq s t e
  compared_left comparison.NotEqual s t e = passed_left head.Eq s t (passed_one head.Not (binary head.Eq s t) e)
  compared_left comparison.Less s t e = passed_left head.Lt s t e
  compared_left comparison.AtMost s t e = passed_left head.Le s t e
  compared_left comparison.Greater s t e = passed_right head.Lt t s e
  compared_left comparison.AtLeast s t e = passed_right head.Le t s e

  compared_right : (o : Comparison) (s t : Term) → heads_pass test (comparing o s t) ≡ true → heads_pass test t ≡ true
  compared_right comparison.Equal s t e = passed_right head.Eq s t e
  compared_right comparison.NotEqual s t e = passed_right head.Eq s t (passed_one head.Not (binary head.Eq s t) e)
  compared_right comparison.Less s t e = passed_right head.Lt s t e
  compared_right comparison.AtMost s t e = passed_right head.Le s t e
  compared_right comparison.Greater s t e = passed_left head.Lt t s e
  compared_right comparison.AtLeast s t e = passed_left head.Le t s e

  abbrev of : Formula → Term
  of f = formula_term heads f

  mutual
    pub names_of_heads : (f : Formula) → heads_pass test (formula_term heads f) ≡ true → names_pass on_name f ≡ true
    names_of_heads (Numeral z) e = refl
    names_of_heads (Boolean b) e = refl
    names_of_heads (NilOf t) e = refl
    names_of_heads (Named line x) e = left_true (test (heads x)) true e
    names_of_heads (ClassOf line t) e = refl
    names_of_heads (Element a i) e =
        both_true (names_of_heads a (passed_left head.Select (of a) (of i) e)) (names_of_heads i (passed_right head.Select (of a) (of i) e))
    names_of_heads (FieldOf r f) e = names_of_heads r (passed_one (head.Field f) (of r) e)
    names_of_heads (Content line t q) e = names_of_heads q (passed_right head.Cell (formula_term heads (ClassOf line t)) (of q) e)
    names_of_heads (Applied f fs) e = all_names_of_heads fs (right_true (test (head.App f)) _ e)
    names_of_heads (Known b fs) e = all_names_of_heads fs (right_true (test (head_of_known b)) _ e)
    names_of_heads (Negative f) e = names_of_heads f (passed_right head.Sub (formula_term heads (Numeral (pos 0))) (of f) e)
    names_of_heads (Calculated o f g) e =
        both_true (names_of_heads f (passed_left (head_of_arithmetic o) (of f) (of g) e)) (names_of_heads g (passed_right (head_of_arithmetic o) (of f) (of g) e))
    names_of_heads (Compared o f g) e =
        both_true (names_of_heads f (compared_left o (of f) (of g) e)) (names_of_heads g (compared_right o (of f) (of g) e))
    names_of_heads (Negated f) e = names_of_heads f (passed_one head.Not (of f) e)
    names_of_heads (Joined o f g) e =
        both_true (names_of_heads f (passed_left (head_of_connective o) (of f) (of g) e)) (names_of_heads g (passed_right (head_of_connective o) (of f) (of g) e))
    names_of_heads (Implied f g) e =
        both_true (names_of_heads f (passed_left head.Implies (of f) (of g) e)) (names_of_heads g (passed_right head.Implies (of f) (of g) e))

    all_names_of_heads : (fs : Formulas) → all_heads_pass test (formula_terms heads fs) ≡ true → all_names_pass on_name fs ≡ true
    all_names_of_heads no_formulas e = refl
    all_names_of_heads (formulas f fs) e =
        both_true (names_of_heads f (left_true (heads_pass test (of f)) _ e)) (all_names_of_heads fs (right_true (heads_pass test (of f)) _ e))

  -- ---- where that of each name passes, each head does, if what stands for no name passes

  module _ (others : (h : Head) → is_operator h ≡ true → test h ≡ true) (numerals : (z : ℤ) → test (head.Num z) ≡ true) (nils : (t : TypeId) → test (head.Nil t) ≡ true) where
    mutual
      pub heads_of_names : (f : Formula) → has_no_class f ≡ true → names_pass on_name f ≡ true → heads_pass test (formula_term heads f) ≡ true
      heads_of_names (Numeral z) c e = both_true (numerals z) refl
      heads_of_names (Boolean b) c e = pass_truth test others b
      heads_of_names (NilOf t) c e = both_true (nils t) refl
      heads_of_names (Named line x) c e = both_true e refl
      heads_of_names (ClassOf line t) c e = absurd (false≢true c)
      heads_of_names (Element a i) c e =
          pass_two test others head.Select (of a) (of i) refl (heads_of_names a (left_true _ _ c) (left_true _ _ e))
          (heads_of_names i (right_true (has_no_class a) _ c) (right_true (names_pass on_name a) _ e))
      heads_of_names (FieldOf r f) c e = pass_one test others (head.Field f) (of r) refl (heads_of_names r c e)
      heads_of_names (Content line t q) c e = absurd (false≢true c)
      heads_of_names (Applied f fs) c e = pass_applied test others f (formula_terms heads fs) (all_heads_of_names fs c e)
      heads_of_names (Known b fs) c e = pass_known test others b (formula_terms heads fs) (all_heads_of_names fs c e)
      heads_of_names (Negative f) c e =
          pass_two test others head.Sub (formula_term heads (Numeral (pos 0))) (of f) refl (both_true (numerals (pos 0)) refl) (heads_of_names f c e)
      heads_of_names (Calculated o f g) c e =
          pass_calculated test others o (of f) (of g) (heads_of_names f (left_true _ _ c) (left_true _ _ e))
          (heads_of_names g (right_true (has_no_class f) _ c) (right_true (names_pass on_name f) _ e))
      heads_of_names (Compared o f g) c e =
          pass_compared test others o (of f) (of g) (heads_of_names f (left_true _ _ c) (left_true _ _ e))
          (heads_of_names g (right_true (has_no_class f) _ c) (right_true (names_pass on_name f) _ e))
      heads_of_names (Negated f) c e = pass_one test others head.Not (of f) refl (heads_of_names f c e)
      heads_of_names (Joined o f g) c e =
          pass_joined test others o (of f) (of g) (heads_of_names f (left_true _ _ c) (left_true _ _ e))
          (heads_of_names g (right_true (has_no_class f) _ c) (right_true (names_pass on_name f) _ e))
      heads_of_names (Implied f g) c e =
          pass_two test others head.Implies (of f) (of g) refl (heads_of_names f (left_true _ _ c) (left_true _ _ e))
          (heads_of_names g (right_true (has_no_class f) _ c) (right_true (names_pass on_name f) _ e))

      all_heads_of_names : (fs : Formulas) → have_no_class fs ≡ true → all_names_pass on_name fs ≡ true → all_heads_pass test (formula_terms heads fs) ≡ true
      all_heads_of_names no_formulas c e = refl
      all_heads_of_names (formulas f fs) c e =
          both_true (heads_of_names f (left_true _ _ c) (left_true _ _ e))
          (all_heads_of_names fs (right_true (has_no_class f) _ c) (right_true (names_pass on_name f) _ e))
