-- What a formula is worth depends on what its names and classes are alone.
use Rattle.std.proofs.Common.{◌≡◌, Bool, true, false, cond, ◌&&◌, List, [], ◌∷◌, pos, refl, ap, ◌∙◌, Option, Some, None}
use Rattle.spv_logic.specs.declared.names.names.Symbol.{Symbol}
use Rattle.spv_logic.specs.declared.types.TypeId.{TypeId}
use Rattle.spv_logic.specs.declared.types.Sort.{Sort}
use Rattle.spv_logic.specs.declared.types.Sort.TheVariants as sort
use Rattle.spv_logic.specs.declared.operators.Head.{Head}
use Rattle.spv_logic.specs.declared.operators.Head.TheVariants as head
use Rattle.spv_logic.specs.Terms.{Term, sort_eq, worth, eval, eval_all}
use Rattle.spv_logic.specs.Shapes.{element_sort, fields_of, field_sort_of}
use Rattle.spv_logic.specs.Sorts.{takes_declared, declared, result_sort}
use Rattle.spv_logic.specs.Conditions.{Meaning, Valuation}
use Rattle.spv_logic.specs.Substitution.{is_variable}
use Rattle.spv_logic.proofs.list.Tests.{left_true, right_true}
use Rattle.spv_logic.proofs.Substitution.{worth-same}
use Rattle.spv_program.specs.declared.operators.Arithmetic.{Arithmetic}
use Rattle.spv_program.specs.declared.operators.Arithmetic.TheVariants as arithmetic
use Rattle.spv_program.specs.declared.operators.BuiltIn.{BuiltIn}
use Rattle.spv_program.specs.declared.operators.BuiltIn.TheVariants as known
use Rattle.spv_program.specs.declared.operators.Comparison.{Comparison}
use Rattle.spv_program.specs.declared.operators.Comparison.TheVariants as comparison
use Rattle.spv_program.specs.declared.operators.Connective.{Connective}
use Rattle.spv_program.specs.declared.operators.Connective.TheVariants as connective
use Rattle.spv_program.specs.Lists.{found}
use Rattle.spv_program.specs.Types.{sort_of, type_exists}
use Rattle.spv_program.specs.Formulas.{Formula, Formulas, Numeral, Boolean, NilOf, Named, ClassOf, Element, FieldOf, Content, Applied, Known, Negative, Calculated, Compared, Negated, Joined, Implied, no_formulas, formulas}
use Rattle.spv_program.specs.Programs.{Program, shapes}
use Rattle.spv_program.specs.Scopes.{Scope}
use Rattle.spv_program.specs.FormulaTypes.{is_sort, sort_if, compared_sort, head_of_known, any_sort, is_nil, formula_sort, formula_sorts}
use Rattle.spv_program.specs.Terms.{alone, unary, binary, truth, head_of_arithmetic, comparing, head_of_connective, formula_term, formula_terms}
use Rattle.spv_program.proofs.SortFacts.{is_sort-true, test_passes, two_there, behind, failed}
use Rattle.spv_program.proofs.FormulaSorting.{two_truths, two_numbers, one_of, some_sorts}

module _ (symbols : Meaning) (v w : Valuation) where
  one : (h : Head) (s : Term) → is_variable h ≡ false → eval symbols v s ≡ eval symbols w s → eval symbols v (unary h s) ≡ eval symbols w (unary h s)
  one h s not e = worth-same symbols v w h (eval symbols v s ∷ []) not ∙ ap (λ a. worth symbols w h (a ∷ [])) e

  two : (h : Head) (s t : Term) → is_variable h ≡ false → eval symbols v s ≡ eval symbols w s → eval symbols v t ≡ eval symbols w t → eval symbols v (binary h s t) ≡ eval symbols w (binary h s t)
  two h s t not e f =
      worth-same symbols v w h (eval symbols v s ∷ eval symbols v t ∷ []) not
      ∙ (ap (λ a. worth symbols w h (a ∷ eval symbols v t ∷ [])) e ∙ ap (λ b. worth symbols w h (eval symbols w s ∷ b ∷ [])) f)

  calculation : (o : Arithmetic) → is_variable (head_of_arithmetic o) ≡ false
  calculation arithmetic.Plus = refl
  calculation arithmetic.Minus = refl
  calculation arithmetic.Times = refl
  calculation arithmetic.Div = refl
  calculation arithmetic.Mod = refl

  connection : (o : Connective) → is_variable (head_of_connective o) ≡ false
  connection connective.And = refl
  connection connective.Or = refl

  function : (k : BuiltIn) → is_variable (head_of_known k) ≡ false
  function known.Select = refl
  function known.Store = refl
  function (known.Put f) = refl
  function known.Cell = refl
  function known.SetCell = refl
  function known.Extend = refl
  function known.PointerTo = refl
  function known.Car = refl
  function known.Cdr = refl
  function known.Cons = refl
  function known.Atom = refl

  comparison_agrees : (o : Comparison) (s t : Term) → eval symbols v s ≡ eval symbols w s → eval symbols v t ≡ eval symbols w t → eval symbols v (comparing o s t) ≡ eval symbols w (comparing o s t)
  comparison_agrees comparison.Equal s t e f = two head.Eq s t refl e f
  comparison_agrees comparison.NotEqual s t e f = one head.Not (binary head.Eq s t) refl (two head.Eq s t refl e f)
  comparison_agrees comparison.Less s t e f = two head.Lt s t refl e f
  comparison_agrees comparison.AtMost s t e f = two head.Le s t refl e f
  comparison_agrees comparison.Greater s t e f = two head.Lt t s refl f e
  comparison_agrees comparison.AtLeast s t e f = two head.Le t s refl f e

  truth_agrees : (b : Bool) → eval symbols v (truth b) ≡ eval symbols w (truth b)
  truth_agrees true = refl
  truth_agrees false = refl

  module _ (p : Program) (names : Scope) (heads : Symbol → Head) (on_names : (x : Symbol) (s : Sort) → found names x ≡ Some s → eval symbols v (alone (heads x)) ≡ eval symbols w (alone (heads x))) (on_classes : (t : TypeId) → v (head.ClassVar t 0) ≡ w (head.ClassVar t 0)) where
    compared_there : (comparable : Sort → Bool) (o : Comparison) (a b : Option Sort) (r : Sort) (P : Type 0) → ((s t : Sort) → a ≡ Some s → b ≡ Some t → P) → compared_sort comparable o a b ≡ Some r → P
    compared_there comparable comparison.Equal a b r P go e = let t = two_there a b (λ s t. sort_if (sort_eq t s && comparable s) sort.Bool) r e in go t.left t.right t.left_is t.right_is
    compared_there comparable comparison.NotEqual a b r P go e = let t = two_there a b (λ s t. sort_if (sort_eq t s && comparable s) sort.Bool) r e in go t.left t.right t.left_is t.right_is
    compared_there comparable _ a b r P go e =
        let both = test_passes (is_sort sort.Int a && is_sort sort.Int b) sort.Bool r e in
        go sort.Int sort.Int (is_sort-true sort.Int a (left_true _ _ both)) (is_sort-true sort.Int b (right_true (is_sort sort.Int a) _ both))

    mutual
      -- a well typed formula is worth the same under valuations that agree on its names and on all classes
      pub agrees : (f : Formula) (s : Sort) → formula_sort p names f ≡ Some s → eval symbols v (formula_term heads f) ≡ eval symbols w (formula_term heads f)
      agrees (Numeral z) s e = refl
      agrees (Boolean b) s e = truth_agrees b
      agrees (NilOf t) s e = refl
      agrees (Named line x) s e = on_names x s e
      agrees (ClassOf line t) s e = on_classes t
      agrees (Element a i) s e =
          let t = two_there (formula_sort p names a) (formula_sort p names i) (λ s t. cond (sort_eq t sort.Int) (element_sort (shapes p) s) None) s e in
          two head.Select (formula_term heads a) (formula_term heads i) refl (agrees a t.left t.left_is) (agrees i t.right t.right_is)
      agrees (FieldOf r f) s e =
          let b = behind (λ s. field_sort_of (fields_of (shapes p) s) f.0) (formula_sort p names r) s e in
          one (head.Field f) (formula_term heads r) refl (agrees r b.item b.is)
      agrees (Content line t q) s e =
          let both = test_passes (type_exists p.forms t && is_sort (sort.Ptr t) (formula_sort p names q)) (sort_of p.forms t) s e in
          two head.Cell (alone (head.ClassVar t 0)) (formula_term heads q) refl (on_classes t) (agrees q (sort.Ptr t) (is_sort-true (sort.Ptr t) (formula_sort p names q) (right_true (type_exists p.forms t) _ both)))
      agrees (Applied f fs) s e =
          let b = behind (takes_declared (declared p.symbols f.0)) (formula_sorts p names fs) s e in
          ap (λ vs. worth symbols w (head.App f) vs) (all_agree fs b.item b.is)
      agrees (Known k fs) s e =
          let b = behind (result_sort (shapes p) p.symbols (head_of_known k)) (formula_sorts p names fs) s e in
          worth-same symbols v w (head_of_known k) (eval_all symbols v (formula_terms heads fs)) (function k) ∙ ap (worth symbols w (head_of_known k)) (all_agree fs b.item b.is)
      agrees (Negative f) s e =
          one_of sort.Int sort.Int (formula_sort p names f) s (eval symbols v (formula_term heads (Negative f)) ≡ eval symbols w (formula_term heads (Negative f)))
          (λ is told. two head.Sub (alone (head.Num (pos 0))) (formula_term heads f) refl refl (agrees f sort.Int is)) e
      agrees (Calculated o f g) s e =
          two_numbers (formula_sort p names f) (formula_sort p names g) s (eval symbols v (formula_term heads (Calculated o f g)) ≡ eval symbols w (formula_term heads (Calculated o f g)))
          (λ a b told. two (head_of_arithmetic o) (formula_term heads f) (formula_term heads g) (calculation o) (agrees f sort.Int a) (agrees g sort.Int b)) e
      agrees (Compared o f g) s e =
          compared_there any_sort o (formula_sort p names f) (formula_sort p names g) s (eval symbols v (formula_term heads (Compared o f g)) ≡ eval symbols w (formula_term heads (Compared o f g)))
          (λ r t a b. comparison_agrees o (formula_term heads f) (formula_term heads g) (agrees f r a) (agrees g t b)) (failed (is_nil f && is_nil g) _ s e)
      agrees (Negated f) s e =
          one_of sort.Bool sort.Bool (formula_sort p names f) s (eval symbols v (formula_term heads (Negated f)) ≡ eval symbols w (formula_term heads (Negated f)))
          (λ is told. one head.Not (formula_term heads f) refl (agrees f sort.Bool is)) e
      agrees (Joined o f g) s e =
          two_truths (formula_sort p names f) (formula_sort p names g) s (eval symbols v (formula_term heads (Joined o f g)) ≡ eval symbols w (formula_term heads (Joined o f g)))
          (λ a b told. two (head_of_connective o) (formula_term heads f) (formula_term heads g) (connection o) (agrees f sort.Bool a) (agrees g sort.Bool b)) e
      agrees (Implied f g) s e =
          two_truths (formula_sort p names f) (formula_sort p names g) s (eval symbols v (formula_term heads (Implied f g)) ≡ eval symbols w (formula_term heads (Implied f g)))
          (λ a b told. two head.Implies (formula_term heads f) (formula_term heads g) refl (agrees f sort.Bool a) (agrees g sort.Bool b)) e

      all_agree : (fs : Formulas) (ss : List Sort) → formula_sorts p names fs ≡ Some ss → eval_all symbols v (formula_terms heads fs) ≡ eval_all symbols w (formula_terms heads fs)
      all_agree no_formulas ss e = refl
      all_agree (formulas f fs) ss e =
          some_sorts (formula_sort p names f) (formula_sorts p names fs) ss (eval_all symbols v (formula_terms heads (formulas f fs)) ≡ eval_all symbols w (formula_terms heads (formulas f fs)))
          (λ s rest a b told. ap (λ x. x ∷ eval_all symbols v (formula_terms heads fs)) (agrees f s a) ∙ ap (λ xs. eval symbols w (formula_term heads f) ∷ xs) (all_agree fs rest b)) e
