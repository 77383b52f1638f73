-- A formula that has a sort in a program has it in one with more types.
use Rattle.std.proofs.Common.{◌≡◌, ℕ, zero, suc, true, cond, ◌&&◌, List, [], ◌∷◌, map, Option, Some, None, nat_lt, refl, sym, ap, ◌∙◌, subst}
use Rattle.std.specs.List.{list_all}
use Rattle.std.specs.Option.{option_and_then}
use Rattle.std.specs.Cmp.Derive.{both_true}
use Rattle.std.proofs.lemmas.List.{length-map}
use Rattle.spv_logic.specs.declared.names.names.Symbol.{Symbol}
use Rattle.spv_logic.proofs.list.Tests.{left_true, right_true}
use Rattle.spv_logic.specs.declared.types.TypeId.{TypeId}
use Rattle.spv_logic.specs.declared.types.Sort.{Sort}
use Rattle.spv_logic.specs.declared.types.Sort.TheVariants as sort
use Rattle.spv_logic.specs.declared.types.Decl.{Decl}
use Rattle.spv_logic.specs.declared.types.Field.{Field}
use Rattle.spv_logic.specs.declared.types.Shape.TheVariants as shape
use Rattle.spv_logic.specs.Shapes.{shape_at, shape_ok, sort_of_shape, element_of_shape, fields_of_shape, element_sort, fields_of, content_sort, pointer_sort, field_sort_of}
use Rattle.spv_logic.specs.Sorts.{sort_in_range, sorts_eq, takes, takes_declared, declared, with_sort, first_sort, class_change, membership, result_sort}
use Rattle.spv_logic.specs.Terms.{sort_eq}
use Rattle.spv_logic.proofs.Equality.{sort_eq-refl}
use Rattle.spv_logic.proofs.Ranges.{element_in_range, record_field_in_range, content_in_range}
use Rattle.spv_program.specs.declared.types.TypeField.{TypeField}
use Rattle.spv_program.specs.declared.types.TypeForm.{TypeForm}
use Rattle.spv_program.specs.declared.types.TypeForm.TheVariants as form
use Rattle.spv_program.specs.declared.operators.BuiltIn.{BuiltIn}
use Rattle.spv_program.specs.declared.operators.BuiltIn.TheVariants as known
use Rattle.spv_program.specs.declared.operators.Comparison.{Comparison}
use Rattle.spv_program.specs.declared.operators.Comparison.TheVariants as comparison
use Rattle.spv_program.specs.Types.{form_at, form_ok, sort_of, shape_of_form, type_exists}
use Rattle.spv_program.specs.Lists.{found}
use Rattle.spv_program.specs.Formulas.{Formula, Formulas, Annotation, Numeral, Boolean, NilOf, Named, ClassOf, Element, FieldOf, Content, Applied, Known, Negative, Calculated, Compared, Negated, Joined, Implied, no_formulas, formulas}
use Rattle.spv_program.specs.FormulaTypes.{is_sort, sort_if, two_sorts, sorts_from, numbers, compared_sort, any_sort, is_nil, head_of_known, formula_sort, formula_sorts, annotation_ok}
use Rattle.spv_program.specs.Programs.{Program, shapes}
use Rattle.spv_program.specs.Scopes.{Scope}
use Rattle.spv_program.proofs.SortFacts.{nothing_there, some_is, is_sort-true, test_passes, sort_told, two_there, behind, passed, chosen, failed, shape_is, sort_is}
use Rattle.spv_type_soundness.specs.well_typed_programs.Grown.{GrowsTypes}
use Rattle.spv_type_soundness.proofs.well_typed_programs.Growing.{form_more, exists_more, sort_more, Below, numbers_below, truths_below, one_below, compared_below, not_nil}

form_ok-at : (forms all : List TypeForm) (i : ℕ) → list_all (form_ok all) forms ≡ true → form_ok all (form_at forms i) ≡ true
form_ok-at [] all i h = refl
form_ok-at (f ∷ forms) all zero h = left_true _ _ h
form_ok-at (f ∷ forms) all (suc i) h = form_ok-at forms all i (right_true (form_ok all f) _ h)

taken : (wanted given : List Sort) (r s : Sort) → takes wanted given r ≡ Some s → r ≡ s
taken wanted given r s e = some_is (chosen (sorts_eq wanted given) (Some r) s e)

-- a sort that is there, and what it decides
record Decided (o : Option Sort) (go : Sort → Option Sort) (s : Sort) : Type 0 where
  item : Sort
  is : o ≡ Some item
  gives : go item ≡ Some s

decided : (o : Option Sort) (go : Sort → Option Sort) (s : Sort) → with_sort o go ≡ Some s → Decided o go s
decided None go s e = absurd (nothing_there e)
decided (Some r) go s e = record { item = r; is = refl; gives = e }

module _ (q p : Program) (g : GrowsTypes q p) where
  in_range_exists : (t : TypeId) → sort_in_range (shapes q) (sort.Ptr t) ≡ true → type_exists q.forms t ≡ true
  in_range_exists t e = sym (ap (nat_lt t.0) (length-map q.forms (shape_of_form q.forms))) ∙ e

  exists_in_range : (t : TypeId) → type_exists q.forms t ≡ true → sort_in_range (shapes q) (sort.Ptr t) ≡ true
  exists_in_range t e = ap (nat_lt t.0) (length-map q.forms (shape_of_form q.forms)) ∙ e

  forms_pass : list_all (form_ok q.forms) q.forms ≡ true
  forms_pass = left_true _ _ g.forms_right

  pub shapes_pass : list_all (shape_ok (shapes q)) (shapes q) ≡ true
  shapes_pass = left_true _ _ (right_true (list_all (form_ok q.forms) q.forms) _ g.forms_right)

  abbrev named : TypeField → Sort → Field
  named f s = record { name = f.name; sort = s }

  abbrev field_in : Program → TypeField → Field
  field_in r f = named f (sort_of r.forms f.of)

  fields_more : (fields : List TypeField) → list_all (λ f. type_exists q.forms f.of) fields ≡ true
      → map (λ (f : TypeField). field_in p f) fields ≡ map (λ (f : TypeField). field_in q f) fields
  fields_more [] h = refl
  fields_more (f ∷ fields) h =
      ap (λ s. named f s ∷ map (λ (k : TypeField). field_in p k) fields) (sort_more q p g f.of (left_true _ _ h))
      ∙ ap (λ rest. field_in q f ∷ rest) (fields_more fields (right_true (type_exists q.forms f.of) _ h))

  shape_of_more : (f : TypeForm) → form_ok q.forms f ≡ true → shape_of_form p.forms f ≡ shape_of_form q.forms f
  shape_of_more form.Integer h = refl
  shape_of_more form.Boolean h = refl
  shape_of_more (form.Range low high) h = refl
  shape_of_more (form.Pointer t) h = refl
  shape_of_more (form.Array index element) h = ap shape.Array (sort_more q p g element (right_true _ _ h))
  shape_of_more (form.Record fields) h = ap shape.Record (fields_more fields (left_true _ _ h))

  pub shape_more : (t : TypeId) → type_exists q.forms t ≡ true → shape_at (shapes p) t.0 ≡ shape_at (shapes q) t.0
  shape_more t h =
      shape_is p.forms t.0
      ∙ (ap (shape_of_form p.forms) (form_more q p g t h)
      ∙ (shape_of_more (form_at q.forms t.0) (form_ok-at q.forms q.forms t.0 forms_pass) ∙ sym (shape_is q.forms t.0)))

  element_more : (s : Sort) → sort_in_range (shapes q) s ≡ true → element_sort (shapes p) s ≡ element_sort (shapes q) s
  element_more (sort.Whole t) h = ap element_of_shape (shape_more t (in_range_exists t h))
  element_more sort.Int h = refl
  element_more sort.Bool h = refl
  element_more sort.List h = refl
  element_more (sort.Ptr t) h = refl
  element_more (sort.Class t) h = refl

  fields_of_more : (s : Sort) → sort_in_range (shapes q) s ≡ true → fields_of (shapes p) s ≡ fields_of (shapes q) s
  fields_of_more (sort.Whole t) h = ap fields_of_shape (shape_more t (in_range_exists t h))
  fields_of_more sort.Int h = refl
  fields_of_more sort.Bool h = refl
  fields_of_more sort.List h = refl
  fields_of_more (sort.Ptr t) h = refl
  fields_of_more (sort.Class t) h = refl

  content_more : (s : Sort) → sort_in_range (shapes q) s ≡ true → content_sort (shapes p) s ≡ content_sort (shapes q) s
  content_more (sort.Class t) h = ap (λ w. Some (sort_of_shape w t)) (shape_more t (in_range_exists t h))
  content_more sort.Int h = refl
  content_more sort.Bool h = refl
  content_more sort.List h = refl
  content_more (sort.Ptr t) h = refl
  content_more (sort.Whole t) h = refl

  first_there : (given : List Sort) → list_all (sort_in_range (shapes q)) given ≡ true → sort_in_range (shapes q) (first_sort given) ≡ true
  first_there [] h = refl
  first_there (s ∷ given) h = left_true _ _ h

  change_more : (given : List Sort) → list_all (sort_in_range (shapes q)) given ≡ true
      → class_change (shapes p) (first_sort given) given ≡ class_change (shapes q) (first_sort given) given
  change_more given h =
      let c = first_sort given in ap (λ o. with_sort o (λ s. takes (c ∷ pointer_sort c ∷ s ∷ []) given c))
      (content_more c (first_there given h))

  result_more : (b : BuiltIn) (given : List Sort) → list_all (sort_in_range (shapes q)) given ≡ true
      → result_sort (shapes p) p.symbols (head_of_known b) given ≡ result_sort (shapes q) q.symbols (head_of_known b) given
  result_more known.Select given h =
      let a = first_sort given in ap (λ o. with_sort o (λ e. takes (a ∷ sort.Int ∷ []) given e)) (element_more a (first_there given h))
  result_more known.Store given h =
      let a = first_sort given in ap (λ o. with_sort o (λ e. takes (a ∷ sort.Int ∷ e ∷ []) given a)) (element_more a (first_there given h))
  result_more (known.Put f) given h =
      let r = first_sort given in ap (λ o. with_sort (field_sort_of o f.0) (λ s. takes (r ∷ s ∷ []) given r))
      (fields_of_more r (first_there given h))
  result_more known.Cell given h =
      let c = first_sort given in ap (λ o. with_sort o (λ s. takes (c ∷ pointer_sort c ∷ []) given s))
      (content_more c (first_there given h))
  result_more known.SetCell given h = change_more given h
  result_more known.Extend given h = change_more given h
  result_more known.PointerTo given h = refl
  result_more known.Car given h = refl
  result_more known.Cdr given h = refl
  result_more known.Cons given h = refl
  result_more known.Atom given h = refl

  abbrev Range : Sort → Type 0
  Range s = sort_in_range (shapes q) s ≡ true

  change_there : (given : List Sort) (s : Sort) → list_all (sort_in_range (shapes q)) given ≡ true
      → class_change (shapes q) (first_sort given) given ≡ Some s → Range s
  change_there given s h e =
      let c = first_sort given in
      let d = decided (content_sort (shapes q) c) (λ r. takes (c ∷ pointer_sort c ∷ r ∷ []) given c) s e in
      subst Range (taken (c ∷ pointer_sort c ∷ d.item ∷ []) given c s d.gives) (first_there given h)

  member_there : (r : Sort) (given : List Sort) (s : Sort) → membership r given ≡ Some s → Range s
  member_there (sort.Ptr t) given s e = subst Range (taken (sort.Ptr t ∷ sort.Class t ∷ []) given sort.Bool s e) refl
  member_there sort.Int given s e = absurd (nothing_there e)
  member_there sort.Bool given s e = absurd (nothing_there e)
  member_there sort.List given s e = absurd (nothing_there e)
  member_there (sort.Whole t) given s e = absurd (nothing_there e)
  member_there (sort.Class t) given s e = absurd (nothing_there e)

  result_there : (b : BuiltIn) (given : List Sort) (s : Sort) → list_all (sort_in_range (shapes q)) given ≡ true
      → result_sort (shapes q) q.symbols (head_of_known b) given ≡ Some s → Range s
  result_there known.Select given s h e =
      let a = first_sort given in
      let d = decided (element_sort (shapes q) a) (λ r. takes (a ∷ sort.Int ∷ []) given r) s e in
      subst Range (taken (a ∷ sort.Int ∷ []) given d.item s d.gives) (element_in_range (shapes q) shapes_pass a d.item d.is)
  result_there known.Store given s h e =
      let a = first_sort given in
      let d = decided (element_sort (shapes q) a) (λ r. takes (a ∷ sort.Int ∷ r ∷ []) given a) s e in
      subst Range (taken (a ∷ sort.Int ∷ d.item ∷ []) given a s d.gives) (first_there given h)
  result_there (known.Put f) given s h e =
      let r = first_sort given in
      let d = decided (field_sort_of (fields_of (shapes q) r) f.0) (λ t. takes (r ∷ t ∷ []) given r) s e in
      subst Range (taken (r ∷ d.item ∷ []) given r s d.gives) (first_there given h)
  result_there known.Cell given s h e =
      let c = first_sort given in
      let d = decided (content_sort (shapes q) c) (λ r. takes (c ∷ pointer_sort c ∷ []) given r) s e in
      subst Range (taken (c ∷ pointer_sort c ∷ []) given d.item s d.gives)
      (content_in_range (shapes q) shapes_pass c d.item (first_there given h) d.is)
  result_there known.SetCell given s h e = change_there given s h e
  result_there known.Extend given s h e = change_there given s h e
  result_there known.PointerTo given s h e = member_there (first_sort given) given s e
  result_there known.Car given s h e = subst Range (taken (sort.List ∷ []) given sort.List s e) refl
  result_there known.Cdr given s h e = subst Range (taken (sort.List ∷ []) given sort.List s e) refl
  result_there known.Cons given s h e = subst Range (taken (sort.List ∷ sort.List ∷ []) given sort.List s e) refl
  result_there known.Atom given s h e = subst Range (taken (sort.List ∷ []) given sort.Bool s e) refl

  module _ (names : Scope) (names_there : (x : Symbol) (r : Sort) → found names x ≡ Some r → sort_in_range (shapes q) r ≡ true)
      (symbols_there : (x : ℕ) (d : Decl) → declared q.symbols x ≡ Some d → sort_in_range (shapes q) d.result ≡ true) where
    pub record KeptFormula (f : Formula) (s : Sort) : Type 0 where
      pub is : formula_sort p names f ≡ Some s
      pub there : sort_in_range (shapes q) s ≡ true

    pub record KeptFormulas (fs : Formulas) (sorts : List Sort) : Type 0 where
      pub is : formula_sorts p names fs ≡ Some sorts
      pub there : list_all (sort_in_range (shapes q)) sorts ≡ true

    abbrev old : Formula → Option Sort
    old f = formula_sort q names f

    abbrev new : Formula → Option Sort
    new f = formula_sort p names f

    below_kept : (f : Formula) (a : Option Sort) → ((s : Sort) → a ≡ Some s → KeptFormula f s) → Below a (formula_sort p names f)
    below_kept f a h = record { keeps = λ s k. (h s k).is }

    type_there : (t : TypeId) → type_exists q.forms t ≡ true → sort_in_range (shapes q) (sort_of q.forms t) ≡ true
    type_there t e = subst Range (sort_is q.forms t) (content_in_range (shapes q) shapes_pass (sort.Class t) _ (exists_in_range t e) refl)

    equal_range : (a b : Option Sort) (s : Sort) → two_sorts a b (λ r t. sort_if (sort_eq t r && true) sort.Bool) ≡ Some s → Range s
    equal_range a b s e =
        let two = two_there a b (λ r t. sort_if (sort_eq t r && true) sort.Bool) s e in
        subst Range (sort_told (sort_eq two.right two.left && true) sort.Bool s two.gives) refl

    number_range : (a b : Option Sort) (s : Sort) → numbers a b sort.Bool ≡ Some s → Range s
    number_range a b s e = subst Range (sort_told (is_sort sort.Int a && is_sort sort.Int b) sort.Bool s e) refl

    compared_range : (o : Comparison) (a b : Option Sort) (s : Sort) → compared_sort any_sort o a b ≡ Some s → Range s
    compared_range comparison.Equal a b s e = equal_range a b s e
    compared_range comparison.NotEqual a b s e = equal_range a b s e
    compared_range comparison.Less a b s e = number_range a b s e
    compared_range comparison.AtMost a b s e = number_range a b s e
    compared_range comparison.Greater a b s e = number_range a b s e
    compared_range comparison.AtLeast a b s e = number_range a b s e

    sorts_told : (o : Option Sort) (os : Option (List Sort)) (sorts : List Sort) (P : Type 0)
        → ((s : Sort) (rest : List Sort) → o ≡ Some s → os ≡ Some rest → s ∷ rest ≡ sorts → P) → sorts_from o os ≡ Some sorts → P
    sorts_told None os sorts P go e = absurd (nothing_there e)
    sorts_told (Some s) None sorts P go e = absurd (nothing_there e)
    sorts_told (Some s) (Some rest) sorts P go e = go s rest refl refl (some_is e)

    applied_there : (o : Option Decl) (given : List Sort) (s : Sort)
        → ((d : Decl) → o ≡ Some d → sort_in_range (shapes q) d.result ≡ true) → takes_declared o given ≡ Some s → Range s
    applied_there None given s h e = absurd (nothing_there e)
    applied_there (Some d) given s h e = subst Range (taken d.args given d.result s e) (h d refl)

    mutual
      pub kept_formula : (f : Formula) (s : Sort) → formula_sort q names f ≡ Some s → KeptFormula f s
      kept_formula (Numeral z) s e = record { is = e; there = subst Range (some_is e) refl }
      kept_formula (Boolean b) s e = record { is = e; there = subst Range (some_is e) refl }
      kept_formula (NilOf t) s e =
          let there = test_passes (type_exists q.forms t) (sort.Ptr t) s e in
          let same = sort_told (type_exists q.forms t) (sort.Ptr t) s e in
          record {
            is = ap (λ b. sort_if b (sort.Ptr t)) (exists_more q p g t there) ∙ ap Some same;
            there =
                subst Range same (exists_in_range t there);
          }
      kept_formula (Named line x) s e = record { is = e; there = names_there x s e }
      kept_formula (ClassOf line t) s e =
          let there = test_passes (type_exists q.forms t) (sort.Class t) s e in
          let same = sort_told (type_exists q.forms t) (sort.Class t) s e in
          record {
            is = ap (λ b. sort_if b (sort.Class t)) (exists_more q p g t there) ∙ ap Some same;
            there =
                subst Range same (exists_in_range t there);
          }
      kept_formula (Element a i) s e =
          let go = λ (r t : Sort). cond (sort_eq t sort.Int) (element_sort (shapes q) r) None in
          let two = two_there (old a) (old i) go s e in
          let one = kept_formula a two.left two.left_is in
          let index = kept_formula i two.right two.right_is in
          let is = chosen (sort_eq two.right sort.Int) (element_sort (shapes q) two.left) s two.gives in
          record {
            is = ap (λ o. two_sorts o (new i) (λ r t. cond (sort_eq t sort.Int) (element_sort (shapes p) r) None)) one.is
                ∙ (ap (λ o. two_sorts (Some two.left) o (λ r t. cond (sort_eq t sort.Int) (element_sort (shapes p) r) None)) index.is
                ∙ (ap (λ b. cond b (element_sort (shapes p) two.left) None)
                (passed (sort_eq two.right sort.Int) (element_sort (shapes q) two.left) s two.gives)
                ∙ (element_more two.left one.there ∙ is)));
            there = element_in_range (shapes q) shapes_pass two.left s is;
          }
      kept_formula (FieldOf r f) s e =
          let two = behind (λ t. field_sort_of (fields_of (shapes q) t) f.0) (old r) s e in
          let one = kept_formula r two.item two.is in
          record {
            is = ap (option_and_then (λ t. field_sort_of (fields_of (shapes p) t) f.0)) one.is
                ∙ (ap (λ o. field_sort_of o f.0) (fields_of_more two.item one.there) ∙ two.gives);
            there = record_field_in_range (shapes q) shapes_pass two.item s f.0 two.gives;
          }
      kept_formula (Content line t x) s e =
          let both = test_passes (type_exists q.forms t && is_sort (sort.Ptr t) (old x)) (sort_of q.forms t) s e in
          let same = sort_told (type_exists q.forms t && is_sort (sort.Ptr t) (old x)) (sort_of q.forms t) s e in
          let there = left_true _ _ both in
          let one = kept_formula x (sort.Ptr t) (is_sort-true (sort.Ptr t) (old x) (right_true (type_exists q.forms t) _ both)) in
          record {
            is = ap (λ b. sort_if (type_exists p.forms t && is_sort (sort.Ptr t) b) (sort_of p.forms t)) one.is
                ∙ (ap (λ b. sort_if b (sort_of p.forms t)) (both_true (exists_more q p g t there) (sort_eq-refl (sort.Ptr t)))
                ∙ ap Some (sort_more q p g t there ∙ same));
            there = subst Range same (type_there t there);
          }
      kept_formula (Applied f fs) s e =
          let two = behind (takes_declared (declared q.symbols f.0)) (formula_sorts q names fs) s e in
          let all = kept_formulas fs two.item two.is in
          record {
            is = ap (option_and_then (takes_declared (declared p.symbols f.0))) all.is
                ∙ (ap (λ ds. takes_declared (declared ds f.0) two.item) g.symbols ∙ two.gives);
            there = applied_there (declared q.symbols f.0) two.item s (λ d k. symbols_there f.0 d k) two.gives;
          }
      kept_formula (Known b fs) s e =
          let two = behind (result_sort (shapes q) q.symbols (head_of_known b)) (formula_sorts q names fs) s e in
          let all = kept_formulas fs two.item two.is in
          record {
            is = ap (option_and_then (result_sort (shapes p) p.symbols (head_of_known b))) all.is
                ∙ (result_more b two.item all.there ∙ two.gives);
            there = result_there b two.item s all.there two.gives;
          }
      kept_formula (Negative x) s e = record {
        is = one_below sort.Int sort.Int (old x) (new x) s (below_kept x (old x) (λ t h. kept_formula x t h)) e;
        there = subst Range (sort_told (is_sort sort.Int (old x)) sort.Int s e) refl;
      }
      kept_formula (Calculated o x y) s e = record {
        is = numbers_below (old x) (old y) (new x) (new y) sort.Int s (below_kept x (old x) (λ t h. kept_formula x t h))
            (below_kept y (old y) (λ t h. kept_formula y t h)) e;
        there = subst Range (sort_told (is_sort sort.Int (old x) && is_sort sort.Int (old y)) sort.Int s e) refl;
      }
      kept_formula (Compared o x y) s e =
          let rest = failed (is_nil x && is_nil y) (compared_sort any_sort o (old x) (old y)) s e in
          record {
            is = not_nil (is_nil x && is_nil y) (compared_sort any_sort o (old x) (old y)) (compared_sort any_sort o (new x) (new y)) s e
                (compared_below any_sort o (old x) (old y) (new x) (new y) s (below_kept x (old x) (λ t h. kept_formula x t h))
                (below_kept y (old y) (λ t h. kept_formula y t h)) rest);
            there = compared_range o (old x) (old y) s rest;
          }
      kept_formula (Negated x) s e = record {
        is = one_below sort.Bool sort.Bool (old x) (new x) s (below_kept x (old x) (λ t h. kept_formula x t h)) e;
        there = subst Range (sort_told (is_sort sort.Bool (old x)) sort.Bool s e) refl;
      }
      kept_formula (Joined o x y) s e = record {
        is = truths_below (old x) (old y) (new x) (new y) s (below_kept x (old x) (λ t h. kept_formula x t h))
            (below_kept y (old y) (λ t h. kept_formula y t h)) e;
        there = subst Range (sort_told (is_sort sort.Bool (old x) && is_sort sort.Bool (old y)) sort.Bool s e) refl;
      }
      kept_formula (Implied x y) s e = record {
        is = truths_below (old x) (old y) (new x) (new y) s (below_kept x (old x) (λ t h. kept_formula x t h))
            (below_kept y (old y) (λ t h. kept_formula y t h)) e;
        there = subst Range (sort_told (is_sort sort.Bool (old x) && is_sort sort.Bool (old y)) sort.Bool s e) refl;
      }

      kept_formulas : (fs : Formulas) (sorts : List Sort) → formula_sorts q names fs ≡ Some sorts → KeptFormulas fs sorts
      kept_formulas no_formulas sorts e =
          record { is = e; there = subst (λ ss. list_all (sort_in_range (shapes q)) ss ≡ true) (some_is e) refl }
      kept_formulas (formulas f fs) sorts e =
          sorts_told (old f) (formula_sorts q names fs) sorts (KeptFormulas (formulas f fs) sorts)
          (λ s rest h k same.
          let one = kept_formula f s h in
          let others = kept_formulas fs rest k in
          record {
            is = ap (λ o. sorts_from o (formula_sorts p names fs)) one.is ∙ (ap (sorts_from (Some s)) others.is ∙ ap Some same);
            there = subst (λ ss. list_all (sort_in_range (shapes q)) ss ≡ true) same (both_true one.there others.there);
          })
          e

    -- an annotation that is well typed still is
    pub kept_annotation : (a : Option Annotation) → annotation_ok q names a ≡ true → annotation_ok p names a ≡ true
    kept_annotation None h = refl
    kept_annotation (Some a) h = ap (is_sort sort.Bool) (kept_formula a.formula sort.Bool (is_sort-true sort.Bool (old a.formula) h)).is
