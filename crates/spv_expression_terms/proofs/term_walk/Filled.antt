-- Terms with variables in the place of calls.
use Rattle.std.proofs.Common.{◌≡◌, Bool, true, ℕ, zero, suc, ◌+◌, ◌-◌, List, [], ◌∷◌, ◌++◌, take, drop, length, refl, sym, ap, ◌∙◌, arith}
use Rattle.std.proofs.lemmas.List.{length-append, length-drop}
use Rattle.std.specs.List.{list_all}
use Rattle.std.specs.Cmp.Derive.{both_true}
use Rattle.spv_logic.proofs.list.Tests.{left_true, right_true}
use Rattle.spv_logic.specs.declared.names.names.Symbol.{Symbol}
use Rattle.spv_logic.specs.declared.operators.Head.{Head}
use Rattle.spv_logic.specs.declared.operators.Head.TheVariants as head
use Rattle.spv_logic.specs.Terms.{Term}
use Rattle.spv_program.specs.Expressions.{Expression, Designator, Selectors, Numeral, Boolean, NilOf, Read, Result, Through, Negative, Calculated, Compared, Negated, Joined, designator, no_selectors, at_index, at_field, at_cell}
use Rattle.spv_program.specs.Places.{Target, ToElement, ToField, further, cell_behind, present}
use Rattle.spv_program.specs.Terms.{alone, unary, binary, negative, head_of_arithmetic, comparing, head_of_connective}
use Rattle.spv_expression_terms.specs.term_walk.ExpressionTerms.{expression_term, place_term, term_behind}
use Rattle.spv_expression_terms.specs.term_walk.OuterCalls.{outer_calls, selectors_outer_calls, first_variable, for_first, for_others, filled, filled_place, filled_behind, filled_target}
use Rattle.spv_expression_terms.proofs.term_walk.Values.{present_further}

-- ---- lists

abbrev none_of : (X : Type 0) → List X
none_of X = []

take_none : {X : Type 0} (n : ℕ) → take n (none_of X) ≡ []
take_none zero = refl
take_none (suc n) = refl

pub drop_none : {X : Type 0} (n : ℕ) → drop n (none_of X) ≡ []
drop_none zero = refl
drop_none (suc n) = refl

zero_plus : (n : ℕ) → n ≡ 0 + n
zero_plus n = omega arith

one_more : (m n : ℕ) → suc (m + n) ≡ suc m + n
one_more m n = omega arith

pub drop_both : {X : Type 0} (m n : ℕ) (xs : List X) → drop n (drop m xs) ≡ drop (m + n) xs
drop_both zero n xs = ap (λ k. drop k xs) (zero_plus n)
drop_both (suc m) n [] = drop_none n ∙ sym (drop_none (suc m + n))
drop_both (suc m) n (x ∷ xs) = drop_both m n xs ∙ ap (λ k. drop k (x ∷ xs)) (one_more m n)

-- variables behind those for two texts
pub others_both : (vs first rest : List Head) (a b : Expression) → first ≡ for_others a vs → rest ≡ for_others b first → rest ≡ drop (length (outer_calls a ++ outer_calls b)) vs
others_both vs first rest a b e f =
    f ∙ (ap (for_others b) e ∙ (drop_both (length (outer_calls a)) (length (outer_calls b)) vs ∙ ap (λ n. drop n vs) (sym (length-append (outer_calls a) (outer_calls b)))))

pub others_through : (vs first rest : List Head) (others : Selectors) → first ≡ drop 1 vs → rest ≡ drop (length (selectors_outer_calls others)) first
    → rest ≡ drop (suc (length (selectors_outer_calls others))) vs
others_through vs first rest others e f = f ∙ (ap (drop (length (selectors_outer_calls others))) e ∙ behind vs)
  where
    behind : (vs : List Head) → drop (length (selectors_outer_calls others)) (drop 1 vs) ≡ drop (suc (length (selectors_outer_calls others))) vs
    behind [] = drop_none (length (selectors_outer_calls others))
    behind (v ∷ vs) = refl

pub others_empty : (vs : List Head) (n : ℕ) → length vs ≡ 0 → vs ≡ drop n vs
others_empty [] n e = sym (drop_none n)
others_empty (v ∷ vs) n e = absurd (omega (arith, e))

-- those that are not behind
cut_lemma : (vs : List Head) (n : ℕ) → take (length vs - length (drop n vs)) vs ≡ take n vs
cut_lemma vs zero = let none : length vs - length vs ≡ 0 = omega arith in ap (λ k. take k vs) none
cut_lemma [] (suc n) = take_none (length (none_of Head) - length (drop (suc n) (none_of Head)))
cut_lemma (v ∷ vs) (suc n) =
    let more : suc (length vs) - length (drop n vs) ≡ suc (length vs - length (drop n vs)) = omega (arith, length-drop n vs) in
    ap (λ k. take k (v ∷ vs)) more ∙ ap (λ xs. v ∷ xs) (cut_lemma vs n)

pub first_cut : (vs others : List Head) (n : ℕ) → others ≡ drop n vs → take (length vs - length others) vs ≡ take n vs
first_cut vs others n e = ap (λ xs. take (length vs - length xs) vs) e ∙ cut_lemma vs n

-- what each of some variables passes, those of a part of them do
pub all_taken : {X : Type 0} (test : X → Bool) (n : ℕ) (xs : List X) → list_all test xs ≡ true → list_all test (take n xs) ≡ true
all_taken test zero xs h = refl
all_taken test (suc n) [] h = refl
all_taken test (suc n) (x ∷ xs) h = both_true (left_true (test x) (list_all test xs) h) (all_taken test n xs (right_true (test x) (list_all test xs) h))

pub all_dropped : {X : Type 0} (test : X → Bool) (n : ℕ) (xs : List X) → list_all test xs ≡ true → list_all test (drop n xs) ≡ true
all_dropped test zero xs h = h
all_dropped test (suc n) [] h = refl
all_dropped test (suc n) (x ∷ xs) h = all_dropped test n xs (right_true (test x) (list_all test xs) h)

pub first_passes : (test : Head → Bool) → test head.False ≡ true → (vs : List Head) → list_all test vs ≡ true → test (first_variable vs) ≡ true
first_passes test none [] h = none
first_passes test none (v ∷ vs) h = left_true (test v) (list_all test vs) h

-- ---- no variables

for_none : (e : Expression) → for_first e [] ≡ []
for_none e = take_none (length (outer_calls e))

others_none : (e : Expression) → for_others e [] ≡ []
others_none e = drop_none (length (outer_calls e))

module _ (heads : Symbol → Head) where
  mutual
    -- a term without variables for its calls has FALSE in their places
    pub filled_nothing : (e : Expression) → filled heads [] e ≡ expression_term heads e
    filled_nothing (Numeral z) = refl
    filled_nothing (Boolean b) = refl
    filled_nothing (NilOf t) = refl
    filled_nothing (Read d) = filled_place_nothing d
    filled_nothing (Result c) = refl
    filled_nothing (Through c line t others) = filled_behind_nothing (binary head.Cell (alone (head.ClassVar t 0)) (alone head.False)) others
    filled_nothing (Negative e) = ap negative (filled_nothing e)
    filled_nothing (Calculated o a b) =
        let first = ap (λ vs. filled heads vs a) (for_none a) ∙ filled_nothing a in
        let second = ap (λ vs. filled heads vs b) (others_none a) ∙ filled_nothing b in
        λ i. binary (head_of_arithmetic o) (first i) (second i)
    filled_nothing (Compared o a b) =
        let first = ap (λ vs. filled heads vs a) (for_none a) ∙ filled_nothing a in
        let second = ap (λ vs. filled heads vs b) (others_none a) ∙ filled_nothing b in
        λ i. comparing o (first i) (second i)
    filled_nothing (Negated e) = ap (unary head.Not) (filled_nothing e)
    filled_nothing (Joined o a b) =
        let first = ap (λ vs. filled heads vs a) (for_none a) ∙ filled_nothing a in
        let second = ap (λ vs. filled heads vs b) (others_none a) ∙ filled_nothing b in
        λ i. binary (head_of_connective o) (first i) (second i)

    pub filled_place_nothing : (d : Designator) → filled_place heads [] d ≡ place_term heads d
    filled_place_nothing (designator line x others) = filled_behind_nothing (alone (heads x)) others

    filled_behind_nothing : (s : Term) (others : Selectors) → filled_behind heads [] s others ≡ term_behind heads s others
    filled_behind_nothing s no_selectors = refl
    filled_behind_nothing s (at_index t e others) =
        let index = ap (λ vs. filled heads vs e) (for_none e) ∙ filled_nothing e in
        ap (λ vs. filled_behind heads vs (binary head.Select s (filled heads (for_first e []) e)) others) (others_none e)
        ∙ (ap (λ i. filled_behind heads [] (binary head.Select s i) others) index ∙ filled_behind_nothing (binary head.Select s (expression_term heads e)) others)
    filled_behind_nothing s (at_field t f others) = filled_behind_nothing (unary (head.Field f) s) others
    filled_behind_nothing s (at_cell line t others) = filled_behind_nothing (binary head.Cell (alone (head.ClassVar t 0)) s) others

  -- what stands at the place that selectors lead to
  pub present_filled : (vs : List Head) (d : Target) (others : Selectors) → present (filled_target heads vs d others) ≡ filled_behind heads vs (present d) others
  present_filled vs d no_selectors = refl
  present_filled vs d (at_index t e others) =
      present_filled (for_others e vs) (further (ToElement (filled heads (for_first e vs) e)) d) others
      ∙ ap (λ s. filled_behind heads (for_others e vs) s others) (present_further d (ToElement (filled heads (for_first e vs) e)))
  present_filled vs d (at_field t f others) =
      present_filled vs (further (ToField f) d) others ∙ ap (λ s. filled_behind heads vs s others) (present_further d (ToField f))
  present_filled vs d (at_cell line t others) = present_filled vs (cell_behind t (present d)) others
