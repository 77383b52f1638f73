-- A trigger is a part of its formula: what has a sort has parts with sorts, and so on.
use Rattle.std.proofs.Common.{◌≡◌, true, cond, ◌&&◌, List, Option, Some, None, refl, subst}
use Rattle.std.proofs.lemmas.Bool.{false≢true}
use Rattle.spv_logic.proofs.list.Tests.{left_true, right_true}
use Rattle.spv_logic.specs.declared.types.Sort.{Sort}
use Rattle.spv_logic.specs.declared.types.Sort.TheVariants as sort
use Rattle.spv_logic.specs.Shapes.{element_sort, fields_of, field_sort_of}
use Rattle.spv_logic.specs.Sorts.{result_sort}
use Rattle.spv_logic.specs.Terms.{sort_eq}
use Rattle.spv_program.specs.Types.{sort_of, type_exists}
use Rattle.spv_program.specs.Lists.{first_of}
use Rattle.spv_program.specs.Formulas.{Formula, Formulas, Numeral, Boolean, NilOf, Named, ClassOf, Element, FieldOf, Content, Applied, Known, Negative, Calculated, Compared, Negated, Joined, Implied, no_formulas, formulas}
use Rattle.spv_program.specs.FormulaTypes.{is_sort, any_sort, is_nil, compared_sort, head_of_known, formula_sort, formula_sorts}
use Rattle.spv_program.specs.Programs.{Program, shapes}
use Rattle.spv_program.specs.Scopes.{Scope}
use Rattle.spv_program.proofs.SortFacts.{nothing_there, some_is, is_sort-true, test_passes, two_there, behind, failed}
use Rattle.spv_program.proofs.FormulaSorting.{two_truths, two_numbers, one_of, some_sorts}
use Rattle.spv_type_soundness.proofs.well_typed_programs.Growing.{compared_there}
use Rattle.spv_rule_files.specs.Triggers.{trigger_in, trigger_among}
use Rattle.spv_rule_files.specs.Right.{has_no_class, have_no_class, is_application}

-- the first of two that are there
pub first_told : {X : Type 0} (o p : Option X) (x : X) (P : Type 0) → first_of o p ≡ Some x → (o ≡ Some x → P) → (p ≡ Some x → P) → P
first_told (Some y) p x P e one two = one e
first_told None p x P e one two = two e

module _ (p : Program) (names : Scope) where
  -- a formula has some sort
  pub record HasSort (f : Formula) : Type 0 where
    pub sort : Sort
    pub is : formula_sort p names f ≡ Some sort

  sort_is : (f : Formula) (s : Sort) → formula_sort p names f ≡ Some s → HasSort f
  sort_is f s e = record { sort = s; is = e }

  pub record IsTrigger (t : Formula) (f : Formula) : Type 0 where
    pub sorted : (s : Sort) → formula_sort p names f ≡ Some s → HasSort t
    pub no_class : has_no_class f ≡ true → has_no_class t ≡ true
    pub applied : is_application t ≡ true

  pub record IsTriggerAmong (t : Formula) (fs : Formulas) : Type 0 where
    pub sorted : (ss : List Sort) → formula_sorts p names fs ≡ Some ss → HasSort t
    pub no_class : have_no_class fs ≡ true → has_no_class t ≡ true
    pub applied : is_application t ≡ true

  -- a trigger of a part is one of the whole
  of_part : (t a f : Formula) → ((s : Sort) → formula_sort p names f ≡ Some s → HasSort a)
      → (has_no_class f ≡ true → has_no_class a ≡ true) → IsTrigger t a → IsTrigger t f
  of_part t a f sorted no_class h = record {
    sorted = λ s e. let part = sorted s e in h.sorted part.sort part.is;
    no_class = λ e. h.no_class (no_class e);
    applied = h.applied;
  }

  abbrev of : Formula → Option Sort
  of f = formula_sort p names f

  mutual
    pub trigger_is : (f t : Formula) → trigger_in f ≡ Some t → IsTrigger t f
    trigger_is (Numeral z) t e = absurd (nothing_there e)
    trigger_is (Boolean b) t e = absurd (nothing_there e)
    trigger_is (NilOf u) t e = absurd (nothing_there e)
    trigger_is (Named line x) t e = absurd (nothing_there e)
    trigger_is (ClassOf line u) t e = absurd (nothing_there e)
    trigger_is (Element a i) t e =
        first_told (trigger_in a) (trigger_in i) t (IsTrigger t (Element a i)) e
        (λ h. of_part t a (Element a i)
        (λ s k. let two = two_there (of a) (of i) (λ (r u : Sort). cond (sort_eq u sort.Int) (element_sort (shapes p) r) None) s k in
        sort_is a two.left two.left_is)
        (λ k. left_true (has_no_class a) (has_no_class i) k) (trigger_is a t h))
        (λ h. of_part t i (Element a i)
        (λ s k. let two = two_there (of a) (of i) (λ (r u : Sort). cond (sort_eq u sort.Int) (element_sort (shapes p) r) None) s k in
        sort_is i two.right two.right_is)
        (λ k. right_true (has_no_class a) (has_no_class i) k) (trigger_is i t h))
    trigger_is (FieldOf r f) t e =
        of_part t r (FieldOf r f)
        (λ s k. let two = behind (λ u. field_sort_of (fields_of (shapes p) u) f.0) (of r) s k in sort_is r two.item two.is) (λ k. k) (trigger_is r t e)
    trigger_is (Content line u q) t e =
        of_part t q (Content line u q)
        (λ s k.
        let both = test_passes (type_exists p.forms u && is_sort (sort.Ptr u) (of q)) (sort_of p.forms u) s k in
        sort_is q (sort.Ptr u) (is_sort-true (sort.Ptr u) (of q) (right_true (type_exists p.forms u) _ both)))
        (λ k. absurd (false≢true k)) (trigger_is q t e)
    trigger_is (Applied f fs) t e =
        subst (λ (u : Formula). IsTrigger u (Applied f fs)) (some_is e)
        (record { sorted = λ s k. sort_is (Applied f fs) s k; no_class = λ k. k; applied = refl })
    trigger_is (Known b fs) t e =
        let h = trigger_among_is fs t e in
        record {
          sorted = λ s k. let two = behind (result_sort (shapes p) p.symbols (head_of_known b)) (formula_sorts p names fs) s k in h.sorted two.item two.is;
          no_class = h.no_class;
          applied = h.applied;
        }
    trigger_is (Negative f) t e =
        of_part t f (Negative f) (λ s k. one_of sort.Int sort.Int (of f) s (HasSort f) (λ is told. sort_is f sort.Int is) k) (λ k. k) (trigger_is f t e)
    trigger_is (Calculated o f g) t e =
        first_told (trigger_in f) (trigger_in g) t (IsTrigger t (Calculated o f g)) e
        (λ h. of_part t f (Calculated o f g) (λ s k. two_numbers (of f) (of g) s (HasSort f) (λ a b told. sort_is f sort.Int a) k)
        (λ k. left_true (has_no_class f) (has_no_class g) k) (trigger_is f t h))
        (λ h. of_part t g (Calculated o f g) (λ s k. two_numbers (of f) (of g) s (HasSort g) (λ a b told. sort_is g sort.Int b) k)
        (λ k. right_true (has_no_class f) (has_no_class g) k) (trigger_is g t h))
    trigger_is (Compared o f g) t e =
        first_told (trigger_in f) (trigger_in g) t (IsTrigger t (Compared o f g)) e
        (λ h. of_part t f (Compared o f g)
        (λ s k. let both = compared_there any_sort o (of f) (of g) s (failed (is_nil f && is_nil g) (compared_sort any_sort o (of f) (of g)) s k) in
        sort_is f both.left both.left_is)
        (λ k. left_true (has_no_class f) (has_no_class g) k) (trigger_is f t h))
        (λ h. of_part t g (Compared o f g)
        (λ s k. let both = compared_there any_sort o (of f) (of g) s (failed (is_nil f && is_nil g) (compared_sort any_sort o (of f) (of g)) s k) in
        sort_is g both.right both.right_is)
        (λ k. right_true (has_no_class f) (has_no_class g) k) (trigger_is g t h))
    trigger_is (Negated f) t e =
        of_part t f (Negated f) (λ s k. one_of sort.Bool sort.Bool (of f) s (HasSort f) (λ is told. sort_is f sort.Bool is) k) (λ k. k) (trigger_is f t e)
    trigger_is (Joined o f g) t e =
        first_told (trigger_in f) (trigger_in g) t (IsTrigger t (Joined o f g)) e
        (λ h. of_part t f (Joined o f g) (λ s k. two_truths (of f) (of g) s (HasSort f) (λ a b told. sort_is f sort.Bool a) k)
        (λ k. left_true (has_no_class f) (has_no_class g) k) (trigger_is f t h))
        (λ h. of_part t g (Joined o f g) (λ s k. two_truths (of f) (of g) s (HasSort g) (λ a b told. sort_is g sort.Bool b) k)
        (λ k. right_true (has_no_class f) (has_no_class g) k) (trigger_is g t h))
    trigger_is (Implied f g) t e =
        first_told (trigger_in f) (trigger_in g) t (IsTrigger t (Implied f g)) e
        (λ h. of_part t f (Implied f g) (λ s k. two_truths (of f) (of g) s (HasSort f) (λ a b told. sort_is f sort.Bool a) k)
        (λ k. left_true (has_no_class f) (has_no_class g) k) (trigger_is f t h))
        (λ h. of_part t g (Implied f g) (λ s k. two_truths (of f) (of g) s (HasSort g) (λ a b told. sort_is g sort.Bool b) k)
        (λ k. right_true (has_no_class f) (has_no_class g) k) (trigger_is g t h))

    trigger_among_is : (fs : Formulas) (t : Formula) → trigger_among fs ≡ Some t → IsTriggerAmong t fs
    trigger_among_is no_formulas t e = absurd (nothing_there e)
    trigger_among_is (formulas f fs) t e =
        first_told (trigger_in f) (trigger_among fs) t (IsTriggerAmong t (formulas f fs)) e
        (λ h. let k = trigger_is f t h in
        record {
          sorted = λ ss g. some_sorts (of f) (formula_sorts p names fs) ss (HasSort t) (λ s rest a b told. k.sorted s a) g;
          no_class = λ g. k.no_class (left_true (has_no_class f) (have_no_class fs) g);
          applied = k.applied;
        })
        (λ h. let k = trigger_among_is fs t h in
        record {
          sorted = λ ss g. some_sorts (of f) (formula_sorts p names fs) ss (HasSort t) (λ s rest a b told. k.sorted rest b) g;
          no_class = λ g. k.no_class (right_true (has_no_class f) (have_no_class fs) g);
          applied = k.applied;
        })
