-- The term of a well typed formula is well sorted.
use Rattle.std.proofs.Common.{◌≡◌, Bool, true, false, cond, ◌&&◌, List, [], ◌∷◌, pos, refl, ap, ◌∙◌, Option, Some, None}
use Rattle.spv_logic.specs.declared.names.names.Symbol.{Symbol}
use Rattle.spv_logic.specs.declared.types.TypeId.{TypeId}
use Rattle.spv_logic.specs.declared.types.Sort.{Sort}
use Rattle.spv_logic.specs.declared.types.Sort.TheVariants as sort
use Rattle.spv_logic.specs.declared.types.Shape.{Shape}
use Rattle.spv_logic.specs.declared.operators.Head.{Head}
use Rattle.spv_logic.specs.declared.operators.Head.TheVariants as head
use Rattle.spv_logic.specs.Terms.{Term, sort_eq}
use Rattle.spv_logic.specs.Shapes.{element_sort, fields_of, field_sort_of, sort_of_type}
use Rattle.spv_logic.specs.Sorts.{with_sort, with_sorts, sort_before, takes, takes_declared, declared, result_sort, term_sort, term_sorts}
use Rattle.spv_logic.proofs.Equality.{sort_eq-true, sort_eq-refl}
use Rattle.std.specs.Cmp.Derive.{both_true}
use Rattle.spv_logic.proofs.list.Tests.{left_true, right_true}
use Rattle.spv_program.specs.Types.{sort_of, type_exists}
use Rattle.spv_program.specs.Formulas.{Formula, Formulas, Numeral, Boolean, NilOf, Named, ClassOf, Element, FieldOf, Content, Applied, Known, Negative, Calculated, Compared, Negated, Joined, Implied, no_formulas, formulas}
use Rattle.spv_program.specs.Lists.{found}
use Rattle.spv_program.specs.Programs.{Routine, Program, shapes}
use Rattle.spv_program.specs.Scopes.{Scope, exit_scope, sort_or_int, is_value_parameter}
use Rattle.spv_program.specs.FormulaTypes.{is_sort, sort_if, sorts_from, numbers, truth_values, head_of_known, any_sort, is_nil, formula_sort, formula_sorts}
use Rattle.spv_program.specs.Terms.{alone, binary, truth, formula_term, formula_terms, name_in, start_or_name, name_at_exit}
use Rattle.spv_program.specs.Laws.{HasSort}
use Rattle.spv_program.proofs.SortFacts.{sort_one, sort_two, arithmetic_sort, connective_sort, nothing_there, some_is, is_sort-true, test_passes, sort_told, two_there, behind, passed, chosen, failed, comparison_sort, sort_is}

-- the first element's sort does not hide that of the whole
pub selected_sort : (shapes : List Shape) (s e : Sort) → element_sort shapes s ≡ Some e → with_sort (element_sort shapes s) (λ e. takes (s ∷ sort.Int ∷ []) (s ∷ sort.Int ∷ []) e) ≡ Some e
selected_sort shapes s e h =
    ap (λ o. with_sort o (λ e. takes (s ∷ sort.Int ∷ []) (s ∷ sort.Int ∷ []) e)) h
    ∙ ap (λ b. cond b (Some e) None) (both_true (sort_eq-refl s) refl)

pub field_sort_told : (shapes : List Shape) (s e : Sort) (o : Option Sort) → o ≡ Some e → with_sort o (λ e. takes (s ∷ []) (s ∷ []) e) ≡ Some e
field_sort_told shapes s e o h =
    ap (λ o. with_sort o (λ e. takes (s ∷ []) (s ∷ []) e)) h ∙ ap (λ b. cond b (Some e) None) (both_true (sort_eq-refl s) refl)

-- the content of a class of a program's type, at a pointer
pub content_told : (p : Program) (t : TypeId) (x : Term) → term_sort (shapes p) p.symbols x ≡ Some (sort.Ptr t) → HasSort p (binary head.Cell (alone (head.ClassVar t 0)) x) (sort_of p.forms t)
content_told p t x e =
    sort_two (shapes p) p.symbols head.Cell (alone (head.ClassVar t 0)) x (sort.Class t) (sort.Ptr t) (sort_of p.forms t) refl e
    (ap (λ b. cond b (Some (sort_of_type (shapes p) t)) None) (both_true (sort_eq-refl (sort.Class t)) (both_true (sort_eq-refl (sort.Ptr t)) refl))
    ∙ ap Some (sort_is p.forms t))

pub two_truths : (a b : Option Sort) (s : Sort) (P : Type 0) → (a ≡ Some sort.Bool → b ≡ Some sort.Bool → sort.Bool ≡ s → P) → truth_values a b ≡ Some s → P
two_truths a b s P go e =
    let both = test_passes (is_sort sort.Bool a && is_sort sort.Bool b) sort.Bool s e in
    go (is_sort-true sort.Bool a (left_true _ _ both)) (is_sort-true sort.Bool b (right_true (is_sort sort.Bool a) _ both)) (sort_told _ _ _ e)

pub two_numbers : (a b : Option Sort) (s : Sort) (P : Type 0) → (a ≡ Some sort.Int → b ≡ Some sort.Int → sort.Int ≡ s → P) → numbers a b sort.Int ≡ Some s → P
two_numbers a b s P go e =
    let both = test_passes (is_sort sort.Int a && is_sort sort.Int b) sort.Int s e in
    go (is_sort-true sort.Int a (left_true _ _ both)) (is_sort-true sort.Int b (right_true (is_sort sort.Int a) _ both)) (sort_told _ _ _ e)

pub one_of : (wanted result : Sort) (a : Option Sort) (s : Sort) (P : Type 0) → (a ≡ Some wanted → result ≡ s → P) → sort_if (is_sort wanted a) result ≡ Some s → P
one_of wanted result a s P go e = go (is_sort-true wanted a (test_passes _ _ _ e)) (sort_told _ _ _ e)

pub truth_sort : (p : Program) (b : Bool) → HasSort p (truth b) sort.Bool
truth_sort p true = refl
truth_sort p false = refl

pub some_sorts : (o : Option Sort) (ss : Option (List Sort)) (sorts : List Sort) (P : Type 0) → ((s : Sort) (rest : List Sort) → o ≡ Some s → ss ≡ Some rest → s ∷ rest ≡ sorts → P) → sorts_from o ss ≡ Some sorts → P
some_sorts None None sorts P go e = absurd (nothing_there e)
some_sorts None (Some rest) sorts P go e = absurd (nothing_there e)
some_sorts (Some s) None sorts P go e = absurd (nothing_there e)
some_sorts (Some s) (Some rest) sorts P go e = go s rest refl refl (some_is e)

module _ (p : Program) (names : Scope) (heads : Symbol → Head) (right : (x : Symbol) (s : Sort) → found names x ≡ Some s → HasSort p (alone (heads x)) s) where
  mutual
    pub sorted : (f : Formula) (s : Sort) → formula_sort p names f ≡ Some s → HasSort p (formula_term heads f) s
    sorted (Numeral z) s e = e
    sorted (Boolean b) s e = truth_sort p b ∙ e
    sorted (NilOf t) s e = ap Some (sort_told (type_exists p.forms t) (sort.Ptr t) s e)
    sorted (Named line x) s e = right x s e
    sorted (ClassOf line t) s e = ap Some (sort_told (type_exists p.forms t) (sort.Class t) s e)
    sorted (Element a i) s e =
        let two = two_there (formula_sort p names a) (formula_sort p names i) (λ s t. cond (sort_eq t sort.Int) (element_sort (shapes p) s) None) s e in
        let int = sort_eq-true two.right sort.Int (passed (sort_eq two.right sort.Int) _ s two.gives) in
        sort_two (shapes p) p.symbols head.Select (formula_term heads a) (formula_term heads i) two.left sort.Int s (sorted a two.left two.left_is) (sorted i sort.Int (two.right_is ∙ ap Some int))
        (selected_sort (shapes p) two.left s (chosen (sort_eq two.right sort.Int) _ s two.gives))
    sorted (FieldOf r f) s e =
        let b = behind (λ s. field_sort_of (fields_of (shapes p) s) f.0) (formula_sort p names r) s e in
        sort_one (shapes p) p.symbols (head.Field f) (formula_term heads r) b.item s (sorted r b.item b.is) (field_sort_told (shapes p) b.item s _ b.gives)
    sorted (Content line t q) s e =
        let both = test_passes (type_exists p.forms t && is_sort (sort.Ptr t) (formula_sort p names q)) (sort_of p.forms t) s e in
        let pointer = is_sort-true (sort.Ptr t) (formula_sort p names q) (right_true (type_exists p.forms t) _ both) in
        content_told p t (formula_term heads q) (sorted q (sort.Ptr t) pointer) ∙ ap Some (sort_told _ _ _ e)
    sorted (Applied f fs) s e =
        let b = behind (takes_declared (declared p.symbols f.0)) (formula_sorts p names fs) s e in
        ap (λ o. with_sorts o (result_sort (shapes p) p.symbols (head.App f))) (all_sorted fs b.item b.is) ∙ b.gives
    sorted (Known k fs) s e =
        let b = behind (result_sort (shapes p) p.symbols (head_of_known k)) (formula_sorts p names fs) s e in
        ap (λ o. with_sorts o (result_sort (shapes p) p.symbols (head_of_known k))) (all_sorted fs b.item b.is) ∙ b.gives
    sorted (Negative f) s e =
        one_of sort.Int sort.Int (formula_sort p names f) s (HasSort p (formula_term heads (Negative f)) s)
        (λ is told. sort_two (shapes p) p.symbols head.Sub (alone (head.Num (pos 0))) (formula_term heads f) sort.Int sort.Int s refl (sorted f sort.Int is) (ap Some told)) e
    sorted (Calculated o f g) s e =
        two_numbers (formula_sort p names f) (formula_sort p names g) s (HasSort p (formula_term heads (Calculated o f g)) s)
        (λ a b told. arithmetic_sort (shapes p) p.symbols o (formula_term heads f) (formula_term heads g) (sorted f sort.Int a) (sorted g sort.Int b) ∙ ap Some told) e
    sorted (Compared o f g) s e =
        comparison_sort (shapes p) p.symbols any_sort o (formula_term heads f) (formula_term heads g) (formula_sort p names f) (formula_sort p names g) s (sorted f) (sorted g)
        (failed (is_nil f && is_nil g) _ s e)
    sorted (Negated f) s e =
        one_of sort.Bool sort.Bool (formula_sort p names f) s (HasSort p (formula_term heads (Negated f)) s)
        (λ is told. sort_one (shapes p) p.symbols head.Not (formula_term heads f) sort.Bool s (sorted f sort.Bool is) (ap Some told)) e
    sorted (Joined o f g) s e =
        two_truths (formula_sort p names f) (formula_sort p names g) s (HasSort p (formula_term heads (Joined o f g)) s)
        (λ a b told. connective_sort (shapes p) p.symbols o (formula_term heads f) (formula_term heads g) (sorted f sort.Bool a) (sorted g sort.Bool b) ∙ ap Some told) e
    sorted (Implied f g) s e =
        two_truths (formula_sort p names f) (formula_sort p names g) s (HasSort p (formula_term heads (Implied f g)) s)
        (λ a b told. sort_two (shapes p) p.symbols head.Implies (formula_term heads f) (formula_term heads g) sort.Bool sort.Bool s (sorted f sort.Bool a) (sorted g sort.Bool b) (ap Some told)) e

    all_sorted : (fs : Formulas) (ss : List Sort) → formula_sorts p names fs ≡ Some ss → term_sorts (shapes p) p.symbols (formula_terms heads fs) ≡ Some ss
    all_sorted no_formulas ss e = e
    all_sorted (formulas f fs) ss e =
        some_sorts (formula_sort p names f) (formula_sorts p names fs) ss (term_sorts (shapes p) p.symbols (formula_terms heads (formulas f fs)) ≡ Some ss)
        (λ s rest a b told. ap (λ o. sort_before o (term_sorts (shapes p) p.symbols (formula_terms heads fs))) (sorted f s a) ∙ (ap (sort_before (Some s)) (all_sorted fs rest b) ∙ ap Some told)) e

sort_there : (o : Option Sort) (s : Sort) → o ≡ Some s → sort_or_int o ≡ s
sort_there o s e = ap sort_or_int e

pub scope_sorted : (p : Program) (names : Scope) (f : Formula) (s : Sort) → formula_sort p names f ≡ Some s → HasSort p (formula_term (name_in names) f) s
scope_sorted p names f s e = sorted p names (name_in names) (λ x s is. ap Some (sort_there (found names x) s is)) f s e

start_sorted : (p : Program) (b : Bool) (x : Symbol) (s : Sort) → HasSort p (alone (start_or_name b x s)) s
start_sorted p true x s = refl
start_sorted p false x s = refl

pub exit_sorted : (p : Program) (r : Routine) (f : Formula) (s : Sort) → formula_sort p (exit_scope p r) f ≡ Some s → HasSort p (formula_term (name_at_exit p r) f) s
exit_sorted p r f s e =
    sorted p (exit_scope p r) (name_at_exit p r) (λ x s is. start_sorted p (is_value_parameter r x) x _ ∙ ap Some (sort_there (found (exit_scope p r) x) s is)) f s e
