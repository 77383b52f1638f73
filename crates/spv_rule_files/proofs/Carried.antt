-- What has a sort by the variables of the file has it by those of the rule, where these have its names.
use Rattle.std.proofs.Common.{◌≡◌, ℕ, Bool, true, cond, ◌&&◌, List, Option, Some, None, refl, sym, ap, ◌∙◌}
use Rattle.std.specs.Option.{option_and_then}
use Rattle.spv_logic.proofs.list.Tests.{left_true, right_true}
use Rattle.spv_logic.specs.declared.types.Sort.{Sort}
use Rattle.spv_logic.specs.declared.types.Sort.TheVariants as sort
use Rattle.spv_logic.specs.declared.types.Decl.{Decl}
use Rattle.spv_logic.specs.declared.types.Shape.{Shape}
use Rattle.spv_logic.specs.Shapes.{element_sort, fields_of, field_sort_of}
use Rattle.spv_logic.specs.Sorts.{takes_declared, declared, result_sort}
use Rattle.spv_logic.specs.Terms.{sort_eq}
use Rattle.spv_tree.specs.declared.syntax.names.Name.{Name}
use Rattle.spv_program.specs.declared.operators.BuiltIn.{BuiltIn}
use Rattle.spv_program.specs.declared.operators.BuiltIn.TheVariants as known
use Rattle.spv_program.specs.Types.{sort_of, shapes_of, type_exists}
use Rattle.spv_program.specs.Lists.{found}
use Rattle.spv_program.specs.Formulas.{Formula, Formulas, Numeral, Boolean, NilOf, Named, ClassOf, Element, FieldOf, Content, Applied, Known, Negative, Calculated, Compared, Negated, Joined, Implied, no_formulas, formulas}
use Rattle.spv_program.specs.FormulaTypes.{is_sort, sort_if, two_sorts, sorts_from, compared_sort, any_sort, is_nil, head_of_known, formula_sort, formula_sorts}
use Rattle.spv_program.specs.Programs.{Program, shapes}
use Rattle.spv_program.specs.Scopes.{Scope}
use Rattle.spv_program.proofs.SortFacts.{nothing_there, is_sort-true, test_passes, two_there, behind, failed}
use Rattle.spv_program.proofs.FormulaSorting.{some_sorts}
use Rattle.spv_type_soundness.proofs.well_typed_programs.Growing.{Below, numbers_below, truths_below, one_below, compared_below, not_nil}

-- ---- a test on each name of a formula

abbrev mutual
  pub names_pass : (Name → Bool) → Formula → Bool
  names_pass test (Numeral z) = true
  names_pass test (Boolean b) = true
  names_pass test (NilOf t) = true
  names_pass test (Named line x) = test (record { line = line; symbol = x })
  names_pass test (ClassOf line t) = true
  names_pass test (Element a i) = names_pass test a && names_pass test i
  names_pass test (FieldOf r f) = names_pass test r
  names_pass test (Content line t q) = names_pass test q
  names_pass test (Applied f fs) = all_names_pass test fs
  names_pass test (Known b fs) = all_names_pass test fs
  names_pass test (Negative f) = names_pass test f
  names_pass test (Calculated o f g) = names_pass test f && names_pass test g
  names_pass test (Compared o f g) = names_pass test f && names_pass test g
  names_pass test (Negated f) = names_pass test f
  names_pass test (Joined o f g) = names_pass test f && names_pass test g
  names_pass test (Implied f g) = names_pass test f && names_pass test g

  pub all_names_pass : (Name → Bool) → Formulas → Bool
  all_names_pass test no_formulas = true
  all_names_pass test (formulas f fs) = names_pass test f && all_names_pass test fs

-- ---- sorts

-- a program that knows what another knows, and names that have what others have, where they pass a test
pub record Carries (q p : Program) (vars own : Scope) (test : Name → Bool) : Type 0 where
  pub forms : q.forms ≡ p.forms
  pub symbols : (x : ℕ) (d : Decl) → declared q.symbols x ≡ Some d → declared p.symbols x ≡ Some d
  pub names : (n : Name) (s : Sort) → test n ≡ true → found vars n.symbol ≡ Some s → found own n.symbol ≡ Some s

-- the declared symbols do not matter to functions that are known from the start
no_symbols : (shapes : List Shape) (ds es : List Decl) (b : BuiltIn) (given : List Sort)
    → result_sort shapes ds (head_of_known b) given ≡ result_sort shapes es (head_of_known b) given
no_symbols shapes ds es known.Select given = refl
no_symbols shapes ds es known.Store given = refl
no_symbols shapes ds es (known.Put f) given = refl
no_symbols shapes ds es known.Cell given = refl
no_symbols shapes ds es known.SetCell given = refl
no_symbols shapes ds es known.Extend given = refl
no_symbols shapes ds es known.PointerTo given = refl
no_symbols shapes ds es known.Car given = refl
no_symbols shapes ds es known.Cdr given = refl
no_symbols shapes ds es known.Cons given = refl
no_symbols shapes ds es known.Atom given = refl

taken_too : (o e : Option Decl) (given : List Sort) (s : Sort) → ((d : Decl) → o ≡ Some d → e ≡ Some d) → takes_declared o given ≡ Some s
    → takes_declared e given ≡ Some s
taken_too None e given s h k = absurd (nothing_there k)
taken_too (Some d) e given s h k = ap (λ o. takes_declared o given) (h d refl) ∙ k

module _ (q p : Program) (vars own : Scope) (test : Name → Bool) (c : Carries q p vars own test) where
  abbrev old : Formula → Option Sort
  old f = formula_sort q vars f

  abbrev new : Formula → Option Sort
  new f = formula_sort p own f

  below : (f : Formula) → names_pass test f ≡ true → ((s : Sort) → old f ≡ Some s → new f ≡ Some s) → Below (old f) (new f)
  below f t h = record { keeps = h }

  mutual
    pub carried : (f : Formula) (s : Sort) → names_pass test f ≡ true → formula_sort q vars f ≡ Some s → formula_sort p own f ≡ Some s
    carried (Numeral z) s t e = e
    carried (Boolean b) s t e = e
    carried (NilOf u) s t e = sym (ap (λ forms. sort_if (type_exists forms u) (sort.Ptr u)) c.forms) ∙ e
    carried (Named line x) s t e = c.names (record { line = line; symbol = x }) s t e
    carried (ClassOf line u) s t e = sym (ap (λ forms. sort_if (type_exists forms u) (sort.Class u)) c.forms) ∙ e
    carried (Element a i) s t e =
        let go = λ (r u : Sort). cond (sort_eq u sort.Int) (element_sort (shapes q) r) None in
        let two = two_there (old a) (old i) go s e in
        let one = carried a two.left (left_true _ _ t) two.left_is in
        let index = carried i two.right (right_true (names_pass test a) _ t) two.right_is in
        ap (λ o. two_sorts o (new i) (λ r u. cond (sort_eq u sort.Int) (element_sort (shapes p) r) None)) one
        ∙ (ap (λ o. two_sorts (Some two.left) o (λ r u. cond (sort_eq u sort.Int) (element_sort (shapes p) r) None)) index
        ∙ (sym (ap (λ forms. cond (sort_eq two.right sort.Int) (element_sort (shapes_of forms) two.left) None) c.forms) ∙ two.gives))
    carried (FieldOf r f) s t e =
        let two = behind (λ u. field_sort_of (fields_of (shapes q) u) f.0) (old r) s e in
        let one = carried r two.item t two.is in
        ap (option_and_then (λ u. field_sort_of (fields_of (shapes p) u) f.0)) one
        ∙ (sym (ap (λ forms. field_sort_of (fields_of (shapes_of forms) two.item) f.0) c.forms) ∙ two.gives)
    carried (Content line u x) s t e =
        let both = test_passes (type_exists q.forms u && is_sort (sort.Ptr u) (old x)) (sort_of q.forms u) s e in
        let one = carried x (sort.Ptr u) t (is_sort-true (sort.Ptr u) (old x) (right_true (type_exists q.forms u) _ both)) in
        let same : is_sort (sort.Ptr u) (new x) ≡ is_sort (sort.Ptr u) (old x) =
        ap (is_sort (sort.Ptr u)) (one ∙ sym (is_sort-true (sort.Ptr u) (old x) (right_true (type_exists q.forms u) _ both))) in
        ap (λ b. sort_if (type_exists p.forms u && b) (sort_of p.forms u)) same
        ∙ (sym (ap (λ forms. sort_if (type_exists forms u && is_sort (sort.Ptr u) (old x)) (sort_of forms u)) c.forms) ∙ e)
    carried (Applied f fs) s t e =
        let two = behind (takes_declared (declared q.symbols f.0)) (formula_sorts q vars fs) s e in
        let all = all_carried fs two.item t two.is in
        ap (option_and_then (takes_declared (declared p.symbols f.0))) all
        ∙ taken_too (declared q.symbols f.0) (declared p.symbols f.0) two.item s (c.symbols f.0) two.gives
    carried (Known b fs) s t e =
        let two = behind (result_sort (shapes q) q.symbols (head_of_known b)) (formula_sorts q vars fs) s e in
        let all = all_carried fs two.item t two.is in
        ap (option_and_then (result_sort (shapes p) p.symbols (head_of_known b))) all
        ∙ (no_symbols (shapes p) p.symbols q.symbols b two.item
        ∙ (sym (ap (λ forms. result_sort (shapes_of forms) q.symbols (head_of_known b) two.item) c.forms) ∙ two.gives))
    carried (Negative x) s t e = one_below sort.Int sort.Int (old x) (new x) s (below x t (λ r. carried x r t)) e
    carried (Calculated o x y) s t e =
        numbers_below (old x) (old y) (new x) (new y) sort.Int s (below x (left_true _ _ t) (λ r. carried x r (left_true _ _ t)))
        (below y (right_true (names_pass test x) _ t) (λ r. carried y r (right_true (names_pass test x) _ t))) e
    carried (Compared o x y) s t e =
        not_nil (is_nil x && is_nil y) (compared_sort any_sort o (old x) (old y)) (compared_sort any_sort o (new x) (new y)) s e
        (compared_below any_sort o (old x) (old y) (new x) (new y) s (below x (left_true _ _ t) (λ r. carried x r (left_true _ _ t)))
        (below y (right_true (names_pass test x) _ t) (λ r. carried y r (right_true (names_pass test x) _ t)))
        (failed (is_nil x && is_nil y) (compared_sort any_sort o (old x) (old y)) s e))
    carried (Negated x) s t e = one_below sort.Bool sort.Bool (old x) (new x) s (below x t (λ r. carried x r t)) e
    carried (Joined o x y) s t e =
        truths_below (old x) (old y) (new x) (new y) s (below x (left_true _ _ t) (λ r. carried x r (left_true _ _ t)))
        (below y (right_true (names_pass test x) _ t) (λ r. carried y r (right_true (names_pass test x) _ t))) e
    carried (Implied x y) s t e =
        truths_below (old x) (old y) (new x) (new y) s (below x (left_true _ _ t) (λ r. carried x r (left_true _ _ t)))
        (below y (right_true (names_pass test x) _ t) (λ r. carried y r (right_true (names_pass test x) _ t))) e

    all_carried : (fs : Formulas) (ss : List Sort) → all_names_pass test fs ≡ true → formula_sorts q vars fs ≡ Some ss
        → formula_sorts p own fs ≡ Some ss
    all_carried no_formulas ss t e = e
    all_carried (formulas f fs) ss t e =
        some_sorts (old f) (formula_sorts q vars fs) ss (formula_sorts p own (formulas f fs) ≡ Some ss)
        (λ s rest a b told.
        ap (λ o. sorts_from o (formula_sorts p own fs)) (carried f s (left_true _ _ t) a)
        ∙ (ap (sorts_from (Some s)) (all_carried fs rest (right_true (names_pass test f) _ t) b) ∙ ap Some told))
        e
