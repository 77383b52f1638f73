-- Annotations that the walk answers are well typed.
use Rattle.std.proofs.Common.{◌≡◌, true, refl, ap, subst}
use Rattle.std.specs.Prelude.{Some, Ok}
use Rattle.spv_logic.specs.declared.types.Sort.TheVariants as sort
use Rattle.spv_tree.specs.syntax.Formulas as tree
use Rattle.spv_logic.specs.Shapes.{fields_of}
use Rattle.spv_program.specs.Programs.{Program, shapes}
use Rattle.spv_program.specs.Scopes as program
use Rattle.spv_program.specs.Formulas.{Formula, Annotation, NilOf}
use Rattle.spv_program.specs.FormulaTypes.{is_sort, annotation_ok}
use Rattle.spv_typing.specs.Outcomes.{after, wrong}
use Rattle.spv_typing.specs.Known.{Scope, meaning}
use Rattle.spv_typing.specs.OperatorWalk.{settled, formula_line, formula_walk}
use Rattle.spv_typing.specs.FormulaWalk.{formula_forms, annotation}
use Rattle.spv_type_soundness.specs.well_typed.Laws.{SeesAlike, AnnotationsAreWellTyped}
use Rattle.spv_type_soundness.proofs.well_typed.Outcomes.{fine, same_value, went}
use Rattle.spv_type_soundness.proofs.well_typed.Operators.{of, Selects, Keeps, formula_good}
use Rattle.spv_type_soundness.proofs.well_typed.Formulas.{Sorted, Bare, fine_is, nil_sorted, negative_fine, calculated_fine, negated_fine, joined_fine, implied_fine, equal_left, equal_right, unequal_left, unequal_right, less_fine, at_most_fine, greater_fine, at_least_fine}
use Rattle.spv_type_soundness.proofs.well_typed.Names.{FineResult, name_fine, class_good, settled_here, indexed_fine, field_in_fine, content_at_fine}
use Rattle.spv_type_soundness.proofs.well_typed.Applications.{applied_fine}

module _ (s : Scope) (names : program.Scope) (sees : SeesAlike s names) where
  abbrev p : Program
  p = s.known.program

  selects : Selects (formula_forms s) (Sorted p names) (Bare p names) (FineResult s names sees) (FineResult s names sees)
  selects = record {
    indexed = λ line a z given h g e. indexed_fine s names sees line a z given h g e;
    field_of = λ line r z x h e. field_in_fine s names sees line r z x h (fields_of (shapes p) r.sort) refl e;
    content_of = λ line at q z h e. content_at_fine s names sees line at q z h e;
  }

  keeps : Keeps (formula_forms s) (Sorted p names) (Bare p names) (FineResult s names sees) (FineResult s names sees)
  keeps = record {
    numeral = λ z. fine_is p names _ sort.Int refl refl refl;
    boolean = λ b. fine_is p names _ sort.Bool refl refl refl;
    nil_of = nil_sorted p names;
    negative_of = negative_fine p names;
    calculated = calculated_fine p names;
    equal_left = equal_left p names;
    equal_right = equal_right p names;
    unequal_left = unequal_left p names;
    unequal_right = unequal_right p names;
    less = less_fine p names;
    at_most = at_most_fine p names;
    greater = greater_fine p names;
    at_least = at_least_fine p names;
    negated = negated_fine p names;
    joined = joined_fine p names;
    implied = λ x y may g h. implied_fine p names x y g h;
    class_of = class_good s names sees;
    begin = λ line x z e. name_fine s names sees line x (meaning s x.symbol) z refl e;
    begin_written = λ line x z e. name_fine s names sees line x (meaning s x.symbol) z refl e;
    apply = λ line x z given g e. applied_fine s names sees line x given z g e;
    reads = selects;
    writes = selects;
    finish = λ z h. of z.formula z.sort h.is;
  }

  annotation_fine : (f : tree.Formula) (a : Annotation) → annotation s f ≡ Ok a → annotation_ok p names (Some a) ≡ true
  annotation_fine f a e =
      let one = went (formula_walk (formula_forms s) f)
      (λ o. after (settled NilOf (wrong (formula_line f)) sort.Bool o) (λ g. fine (noted g))) a e in
      let two = went (settled NilOf (wrong (formula_line f)) sort.Bool one.value) (λ g. fine (noted g)) a one.rest in
      let good = formula_good (formula_forms s) (Sorted p names) (Bare p names) (FineResult s names sees) (FineResult s names sees) keeps
      f one.value one.first in
      let truth = settled_here s names sees (wrong (formula_line f)) sort.Bool refl one.value two.value good two.first in
      subst (λ (b : Annotation). annotation_ok p names (Some b) ≡ true) (same_value two.rest) (ap (is_sort sort.Bool) truth.is)
    where
      noted : Formula → Annotation
      noted g = record { formula = g; line = formula_line f }

pub annotations_are_well_typed : AnnotationsAreWellTyped
annotations_are_well_typed s names sees f a e = annotation_fine s names sees f a e
