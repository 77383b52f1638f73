-- The line on which a part of a formula begins, a formula that is a factor alone, and the items of a list that stands in a box where it
-- is not empty.
use Rattle.std.specs.Prelude.{ℕ, List, [], Option, Some, None}
use Rattle.std.specs.declared.boxed.Box.{Box}
use Rattle.std.specs.declared.vec.Vec.{Vec}
use Rattle.std.specs.Global.{Global}
use Rattle.spv_tree.specs.syntax.Formulas.{Formula, formula, no_conclusion, Relation, relation, no_right_side, Simple, simple, no_more_terms, Term, term, no_more_factors, Factor, number, truth, nil, class, place, application, bracketed, negation, Designator, designator}

abbrev pub items_in : {T : Type 0} → Option (Box (Vec T Global) Global) → List T
items_in None = []
items_in (Some items) = items.value.items

abbrev pub designator_line : Designator → ℕ
designator_line (designator l _ _) = l

abbrev pub factor_line : Factor → ℕ
factor_line (number l _) = l
factor_line (truth l _) = l
factor_line (nil l) = l
factor_line (class l _) = l
factor_line (place l _) = l
factor_line (application l _ _ _ _) = l
factor_line (bracketed l _) = l
factor_line (negation l _) = l

abbrev pub term_line : Term → ℕ
term_line (term l _ _) = l

abbrev pub simple_line : Simple → ℕ
simple_line (simple l _ _ _) = l

abbrev pub relation_line : Relation → ℕ
relation_line (relation l _ _) = l

abbrev pub formula_line : Formula → ℕ
formula_line (formula l _ _) = l

-- a factor with no sign in front of it and no operator behind it
abbrev pub lone_factor : Factor → Formula
lone_factor f =
    formula (factor_line f) (relation (factor_line f) (simple (factor_line f) None (term (factor_line f) f no_more_factors) no_more_terms) no_right_side) no_conclusion
