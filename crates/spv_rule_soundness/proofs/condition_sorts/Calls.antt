-- Expressions without calls: their terms come with none.
use Rattle.std.proofs.Common.{◌≡◌, List, [], ◌∷◌, ◌++◌, Option, refl, ap, ◌∙◌}
use Rattle.std.proofs.lemmas.Bool.{false≢true}
use Rattle.spv_program.specs.declared.types.Item.TheVariants.{Variable}
use Rattle.spv_program.specs.Expressions.{Expression, Designator, Selectors, Call, Numeral, Boolean, NilOf, Read, Result, Through, Negative, Calculated, Compared, Negated, Joined, designator, no_selectors, at_index, at_field, at_cell}
use Rattle.spv_program.specs.Programs.{Routine, Program}
use Rattle.spv_program.specs.Uses.{expression_calls, designator_calls, selector_calls, calls_with}
use Rattle.spv_program.specs.Supplies.{Supply}
use Rattle.spv_program.specs.Terms.{item_head}
use Rattle.spv_program.specs.ExpressionTerms.{Called, Placed, valued, placed, selected, read_at, at_start, to_element, to_field, to_cell}
use Rattle.spv_rule_soundness.proofs.evaluation.Values.{left_empty, right_empty, no_call}
use Rattle.std.specs.Prelude.{true}
use Rattle.spv_rule_soundness.specs.control.Blocks.{none}

pub nothing_called : (calls : List Call) → none calls ≡ true → calls ≡ []
nothing_called [] h = refl
nothing_called (c ∷ calls) h = absurd (false≢true h)

both_empty : (xs ys : List Called) → xs ≡ [] → ys ≡ [] → xs ++ ys ≡ []
both_empty xs ys a b = ap (λ (c : List Called). c ++ ys) a ∙ b

module _ (p : Program) (r : Option Routine) where
  mutual
    pub uncalled : (e : Expression) → expression_calls e ≡ [] → (n : Supply) → (valued p r n e).calls ≡ []
    uncalled (Numeral z) h n = refl
    uncalled (Boolean b) h n = refl
    uncalled (NilOf t) h n = refl
    uncalled (Read d) h n = uncalled_place d h n
    uncalled (Result c) h n = absurd (no_call c h)
    uncalled (Through c line t others) h n = absurd (no_call c (left_empty (calls_with c) (selector_calls others) h))
    uncalled (Negative e) h n = uncalled e h n
    uncalled (Calculated o a b) h n =
        both_empty (valued p r n a).calls (valued p r (valued p r n a).supply b).calls (uncalled a (left_empty (expression_calls a) (expression_calls b) h) n)
        (uncalled b (right_empty (expression_calls a) (expression_calls b) h) (valued p r n a).supply)
    uncalled (Compared o a b) h n =
        both_empty (valued p r n a).calls (valued p r (valued p r n a).supply b).calls (uncalled a (left_empty (expression_calls a) (expression_calls b) h) n)
        (uncalled b (right_empty (expression_calls a) (expression_calls b) h) (valued p r n a).supply)
    uncalled (Negated e) h n = uncalled e h n
    uncalled (Joined o a b) h n =
        both_empty (valued p r n a).calls (valued p r (valued p r n a).supply b).calls (uncalled a (left_empty (expression_calls a) (expression_calls b) h) n)
        (uncalled b (right_empty (expression_calls a) (expression_calls b) h) (valued p r n a).supply)

    uncalled_place : (d : Designator) → designator_calls d ≡ [] → (n : Supply) → (placed p r n d).calls ≡ []
    uncalled_place (designator line x others) h n = uncalled_selected others (at_start n (item_head p r (Variable x))) refl h

    uncalled_selected : (others : Selectors) (d : Placed) → d.calls ≡ [] → selector_calls others ≡ [] → (selected p r d others).calls ≡ []
    uncalled_selected no_selectors d k h = k
    uncalled_selected (at_index t e others) d k h =
        uncalled_selected others (to_element d (λ m. valued p r m e))
        (both_empty d.calls (valued p r d.supply e).calls k (uncalled e (left_empty (expression_calls e) (selector_calls others) h) d.supply))
        (right_empty (expression_calls e) (selector_calls others) h)
    uncalled_selected (at_field t f others) d k h = uncalled_selected others (to_field f d) k h
    uncalled_selected (at_cell line t others) d k h = uncalled_selected others (to_cell t (read_at d)) k h
