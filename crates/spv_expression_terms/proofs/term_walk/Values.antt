-- Expressions and places without calls have their terms and places.
use Rattle.std.proofs.Common.{◌≡◌, List, [], ◌∷◌, ◌++◌, refl, ap, ◌∙◌, Option}
use Rattle.std.specs.Prelude.{IsTrue}
use Rattle.std.proofs.lemmas.Bool.{false≢true}
use Rattle.spv_logic.proofs.list.Tests.{left_true, right_true}
use Rattle.spv_logic.specs.declared.names.names.Symbol.{Symbol}
use Rattle.spv_logic.specs.declared.operators.Head.{Head}
use Rattle.spv_logic.specs.declared.operators.Head.TheVariants as head
use Rattle.spv_logic.specs.Terms.{Term}
use Rattle.spv_program.specs.Expressions.{Expression, Designator, Selectors, Numeral, Boolean, NilOf, Read, Result, Through, Negative, Calculated, Compared, Negated, Joined, designator, no_selectors, at_index, at_field, at_cell}
use Rattle.spv_program.specs.Programs.{Routine, Program}
use Rattle.spv_program.specs.Supplies.{Supply}
use Rattle.spv_program.specs.Places.{Target, Step, ToElement, ToField, part, part_behind, base, present, further, cell_behind}
use Rattle.spv_program.specs.Terms.{unary, binary, negative, head_of_arithmetic, comparing, head_of_connective}
use Rattle.spv_program.specs.ExpressionTerms.{Valued, without_calls, with_term, with_terms, valued, placed, selected, read_at, to_element}
use Rattle.spv_expression_terms.specs.term_walk.ExpressionTerms.{has_no_calls, place_has_no_calls, selectors_have_no_calls, expression_term, place_term, term_behind, target_behind, place_target, variable_at}
use Rattle.spv_expression_terms.specs.term_walk.Laws.{variable_head, reached_without_calls}

-- ---- what stands at a place

pub present_further : (d : Target) (s : Step) → present (further s d) ≡ part (present d) s
present_further d s = fold_on (base d.root d.pointer) d.path
  where
    fold_on : (t : Term) (path : List Step) → part_behind t (path ++ s ∷ []) ≡ part (part_behind t path) s
    fold_on t [] = refl
    fold_on t (u ∷ path) = fold_on (part t u) path

present_behind : (heads : Symbol → Head) (d : Target) (others : Selectors) → present (target_behind heads d others) ≡ term_behind heads (present d) others
present_behind heads d no_selectors = refl
present_behind heads d (at_index t e others) =
    present_behind heads (further (ToElement (expression_term heads e)) d) others
    ∙ ap (λ s. term_behind heads s others) (present_further d (ToElement (expression_term heads e)))
present_behind heads d (at_field t f others) =
    present_behind heads (further (ToField f) d) others ∙ ap (λ s. term_behind heads s others) (present_further d (ToField f))
present_behind heads d (at_cell line t others) = present_behind heads (cell_behind t (present d)) others

pub terms_are_present : (heads : Symbol → Head) (d : Designator) → present (place_target heads d) ≡ place_term heads d
terms_are_present heads (designator line x others) = present_behind heads (variable_at (heads x)) others

-- ---- expressions

two_terms : (f : Term → Term → Term) (n : Supply) (v : Valued) (next : Supply → Valued) (s t : Term) → v ≡ without_calls n s → next n ≡ without_calls n t → with_terms f v next ≡ without_calls n (f s t)
two_terms f n v next s t e g = ap (λ v. with_terms f v next) e ∙ ap (λ w. with_terms f (without_calls n s) (λ m. w)) g

module _ (p : Program) (here : Option Routine) where
  abbrev heads : Symbol → Head
  heads = variable_head p here

  mutual
    pub value_is : (n : Supply) (e : Expression) → IsTrue (has_no_calls e) → valued p here n e ≡ without_calls n (expression_term heads e)
    value_is n (Numeral z) h = refl
    value_is n (Boolean b) h = refl
    value_is n (NilOf t) h = refl
    value_is n (Read d) h = ap read_at (place_is n d h) ∙ ap (without_calls n) (terms_are_present heads d)
    value_is n (Result c) h = absurd (false≢true h)
    value_is n (Through c line t others) h = absurd (false≢true h)
    value_is n (Negative e) h = ap (with_term negative) (value_is n e h)
    value_is n (Calculated o a b) h =
        two_terms (binary (head_of_arithmetic o)) n (valued p here n a) (λ m. valued p here m b) (expression_term heads a) (expression_term heads b)
        (value_is n a (left_true (has_no_calls a) (has_no_calls b) h)) (value_is n b (right_true (has_no_calls a) (has_no_calls b) h))
    value_is n (Compared o a b) h =
        two_terms (comparing o) n (valued p here n a) (λ m. valued p here m b) (expression_term heads a) (expression_term heads b)
        (value_is n a (left_true (has_no_calls a) (has_no_calls b) h)) (value_is n b (right_true (has_no_calls a) (has_no_calls b) h))
    value_is n (Negated e) h = ap (with_term (unary head.Not)) (value_is n e h)
    value_is n (Joined o a b) h =
        two_terms (binary (head_of_connective o)) n (valued p here n a) (λ m. valued p here m b) (expression_term heads a) (expression_term heads b)
        (value_is n a (left_true (has_no_calls a) (has_no_calls b) h)) (value_is n b (right_true (has_no_calls a) (has_no_calls b) h))

    pub place_is : (n : Supply) (d : Designator) → IsTrue (place_has_no_calls d) → placed p here n d ≡ reached_without_calls n (place_target heads d)
    place_is n (designator line x others) h = selected_is n (variable_at (heads x)) others h

    selected_is : (n : Supply) (d : Target) (others : Selectors) → IsTrue (selectors_have_no_calls others) → selected p here (reached_without_calls n d) others ≡ reached_without_calls n (target_behind heads d others)
    selected_is n d no_selectors h = refl
    selected_is n d (at_index t e others) h =
        ap (λ i. selected p here (to_element (reached_without_calls n d) (λ m. i)) others) (value_is n e (left_true (has_no_calls e) (selectors_have_no_calls others) h))
        ∙ selected_is n (further (ToElement (expression_term heads e)) d) others (right_true (has_no_calls e) (selectors_have_no_calls others) h)
    selected_is n d (at_field t f others) h = selected_is n (further (ToField f) d) others h
    selected_is n d (at_cell line t others) h = selected_is n (cell_behind t (present d)) others h
