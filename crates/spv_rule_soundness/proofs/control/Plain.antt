-- The terms of expressions without calls: they take no fresh variable.
use Rattle.std.proofs.Common.{◌≡◌, true, List, [], ◌∷◌, ◌++◌, refl, ap, ◌∙◌, Option}
use Rattle.std.specs.Cmp.Derive.{both_true}
use Rattle.std.proofs.lemmas.Bool.{false≢true}
use Rattle.spv_logic.specs.declared.names.names.Symbol.{Symbol}
use Rattle.spv_logic.specs.Terms.{heads_pass}
use Rattle.spv_program.specs.declared.types.Item.TheVariants.{Variable}
use Rattle.spv_program.specs.Expressions.{Expression, Designator, Selectors, Call, Numeral, Boolean, NilOf, Read, Result, Through, Negative, Calculated, Compared, Negated, Joined, designator, no_selectors, at_index, at_field, at_cell}
use Rattle.spv_program.specs.Programs.{Routine, Program}
use Rattle.spv_program.specs.Uses.{expression_calls, designator_calls, selector_calls, calls_with}
use Rattle.spv_program.specs.Supplies.{Supply}
use Rattle.spv_program.specs.Places.{ToElement, ToField, present}
use Rattle.spv_program.specs.Terms.{item_head}
use Rattle.spv_program.specs.ExpressionTerms.{Called, Valued, Placed, valued, placed, selected, read_at, at_start, to_element, to_field, to_cell}
use Rattle.spv_program.proofs.ExpressionSorting.{present-further}
use Rattle.spv_rule_soundness.proofs.evaluation.Values.{left_empty, right_empty, no_call}
use Rattle.spv_rule_soundness.proofs.statements.Annotations.{is_old, truth_old, arithmetic_old, connective_old, comparison_old}
use Rattle.spv_rule_soundness.specs.control.Blocks.{none}

pub nothing_called : (calls : List Call) → none calls ≡ true → calls ≡ []
nothing_called [] h = refl
nothing_called (c ∷ calls) h = absurd (false≢true h)

-- an expression's term: no variable was taken, no call was made, and no fresh variable is in it
pub record IsPlain (n : Supply) (v : Valued) : Type 0 where
  pub supply : v.supply ≡ n
  pub calls : v.calls ≡ []
  pub old : heads_pass is_old v.term ≡ true

-- the same of a place
pub record IsPlainPlace (n : Supply) (d : Placed) : Type 0 where
  pub supply : d.supply ≡ n
  pub calls : d.calls ≡ []
  pub old : heads_pass is_old (present d.target) ≡ true

two_plain : (xs ys : List Called) → xs ≡ [] → ys ≡ [] → xs ++ ys ≡ []
two_plain xs ys a b = ap (λ c. c ++ ys) a ∙ b

module _ (p : Program) (r : Option Routine) where
  begins_plain : (n : Supply) (x : Symbol) → IsPlainPlace n (at_start n (item_head p r (Variable x)))
  begins_plain n x = record { supply = refl; calls = refl; old = refl }

  mutual
    pub plain : (e : Expression) → expression_calls e ≡ [] → (n : Supply) → IsPlain n (valued p r n e)
    plain (Numeral z) h n = record { supply = refl; calls = refl; old = refl }
    plain (Boolean b) h n = record { supply = refl; calls = refl; old = truth_old b }
    plain (NilOf t) h n = record { supply = refl; calls = refl; old = refl }
    plain (Read d) h n = let k = plain_place d h n in record { supply = k.supply; calls = k.calls; old = k.old }
    plain (Result c) h n = absurd (no_call c h)
    plain (Through c line t others) h n = absurd (no_call c (left_empty (calls_with c) (selector_calls others) h))
    plain (Negative e) h n = let v = plain e h n in record { supply = v.supply; calls = v.calls; old = both_true v.old refl }
    plain (Calculated o a b) h n =
        let v = plain a (left_empty (expression_calls a) (expression_calls b) h) n in
        let w = plain b (right_empty (expression_calls a) (expression_calls b) h) (valued p r n a).supply in
        record {
          supply = w.supply ∙ v.supply;
          calls = two_plain (valued p r n a).calls (valued p r (valued p r n a).supply b).calls v.calls w.calls;
          old = both_true (arithmetic_old o) (both_true v.old (both_true w.old refl));
        }
    plain (Compared o a b) h n =
        let v = plain a (left_empty (expression_calls a) (expression_calls b) h) n in
        let w = plain b (right_empty (expression_calls a) (expression_calls b) h) (valued p r n a).supply in
        record {
          supply = w.supply ∙ v.supply;
          calls = two_plain (valued p r n a).calls (valued p r (valued p r n a).supply b).calls v.calls w.calls;
          old = comparison_old o (valued p r n a).term (valued p r (valued p r n a).supply b).term v.old w.old;
        }
    plain (Negated e) h n = let v = plain e h n in record { supply = v.supply; calls = v.calls; old = both_true v.old refl }
    plain (Joined o a b) h n =
        let v = plain a (left_empty (expression_calls a) (expression_calls b) h) n in
        let w = plain b (right_empty (expression_calls a) (expression_calls b) h) (valued p r n a).supply in
        record {
          supply = w.supply ∙ v.supply;
          calls = two_plain (valued p r n a).calls (valued p r (valued p r n a).supply b).calls v.calls w.calls;
          old = both_true (connective_old o) (both_true v.old (both_true w.old refl));
        }

    plain_place : (d : Designator) → designator_calls d ≡ [] → (n : Supply) → IsPlainPlace n (placed p r n d)
    plain_place (designator line x others) h n = plain_selected others n (at_start n (item_head p r (Variable x))) (begins_plain n x) h

    plain_selected : (others : Selectors) (n : Supply) (d : Placed) → IsPlainPlace n d → selector_calls others ≡ [] → IsPlainPlace n (selected p r d others)
    plain_selected no_selectors n d k h = k
    plain_selected (at_index t e others) n d k h =
        let i = plain e (left_empty (expression_calls e) (selector_calls others) h) d.supply in
        let term = (valued p r d.supply e).term in
        plain_selected others n (to_element d (λ m. valued p r m e))
        (record {
          supply = i.supply ∙ k.supply;
          calls = two_plain d.calls (valued p r d.supply e).calls k.calls i.calls;
          old = ap (heads_pass is_old) (present-further d (ToElement term)) ∙ both_true k.old (both_true i.old refl);
        })
        (right_empty (expression_calls e) (selector_calls others) h)
    plain_selected (at_field t f others) n d k h =
        plain_selected others n (to_field f d)
        (record { supply = k.supply; calls = k.calls; old = ap (heads_pass is_old) (present-further d (ToField f)) ∙ both_true k.old refl })
        h
    plain_selected (at_cell line t others) n d k h =
        plain_selected others n (to_cell t (read_at d)) (record { supply = k.supply; calls = k.calls; old = both_true k.old refl }) h
