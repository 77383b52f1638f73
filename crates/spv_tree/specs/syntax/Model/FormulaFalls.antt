-- A formula is larger than each of its parts.
use Rattle.std.specs.Prelude.{ℕ, suc, ◌+◌, ◌≤◌, max, List, [], ◌∷◌, Option, Some, None}
use Rattle.std.specs.declared.boxed.Box.{Box}
use Rattle.std.specs.Global.{Global}
use Rattle.std.proofs.Common.{arith}
use denote.Param.Weighed.{most}
use Rattle.std.specs.declared.vec.Vec.{Vec}
use Rattle.spv_tree.specs.declared.syntax.operators.PlusOrMinus.{PlusOrMinus}
use Rattle.spv_tree.specs.declared.syntax.operators.Comparison.{Comparison}
use Rattle.spv_tree.specs.declared.syntax.operators.Adding.{Adding}
use Rattle.spv_tree.specs.declared.syntax.operators.Multiplying.{Multiplying}
use Rattle.spv_tree.specs.declared.syntax.formulas.Formula.TheInside as formula
use Rattle.spv_tree.specs.declared.syntax.formulas.Relation.TheInside as relation
use Rattle.spv_tree.specs.declared.syntax.formulas.Simple.TheInside as simple
use Rattle.spv_tree.specs.declared.syntax.formulas.Term.TheInside as term
use Rattle.spv_tree.specs.declared.syntax.formulas.Factor.TheInside as factor
use Rattle.spv_tree.specs.declared.syntax.formulas.Designator.TheInside as designator
use Rattle.spv_tree.specs.declared.syntax.formulas.Selector.TheInside as selector
use Rattle.spv_tree.specs.declared.syntax.formulas.FormulaForm.{FormulaForm}
use Rattle.spv_tree.specs.declared.syntax.formulas.FormulaForm.TheVariants as form
use Rattle.spv_tree.specs.declared.syntax.formulas.FactorForm.{FactorForm}
use Rattle.spv_tree.specs.declared.syntax.formulas.FactorForm.TheVariants.{Number, Truth, Nil, Class, Place, Application, Bracketed, Negation}
use Rattle.spv_tree.specs.declared.syntax.formulas.SelectorForm.{SelectorForm}
use Rattle.spv_tree.specs.declared.syntax.formulas.SelectorForm.TheVariants.{Index, Field, Content}
use Rattle.spv_tree.specs.declared.syntax.formulas.Designator.TheShapes.{weighed-Simple-more-at-2, weighed-Term-more-at-2}
use Rattle.spv_tree.specs.declared.syntax.formulas.Designator.TheDeep.{deep-FormulaForm, deep-Implication, deep-FactorForm, deep-SelectorForm, deep-Formula, deep-Relation, deep-Simple, deep-Term, deep-Factor, deep-Designator, deep-Selector}
use Rattle.spv_tree.specs.syntax.Formulas.{Formula, Relation, Simple, Term, Factor, Selector}
use Rattle.spv_tree.specs.syntax.Lines.{items_in}
use Rattle.spv_tree.specs.syntax.Model.FormulaSizes.{more_terms_of, more_factors_of, more_formulas_of, selectors_of, formula_size, conclusion_size, relation_size, right_side_size, simple_size, more_terms_size, term_size, more_factors_size, factor_size, more_formulas_size, selectors_size, selector_size}
use Rattle.spv_tree.specs.syntax.FormulaViews.{formula_of, conclusion_of, right_side_of, factor_of, selector_of}

most_terms : (ts : List (Adding × Term)) → most (λ t. weighed-Simple-more-at-2.weight Term (λ u. term_size u + 1) t) ts ≤ more_terms_size (more_terms_of ts) + 1
most_terms [] = omega arith
most_terms (t ∷ ts) = omega (arith, most_terms ts)

most_factors : (fs : List (Multiplying × Factor)) → most (λ f. weighed-Term-more-at-2.weight Factor (λ g. factor_size g + 1) f) fs ≤ more_factors_size (more_factors_of fs) + 1
most_factors [] = omega arith
most_factors (f ∷ fs) = omega (arith, most_factors fs)

most_formulas : (fs : List Formula) → most (λ f. formula_size f + 1) fs ≤ more_formulas_size (more_formulas_of fs) + 1
most_formulas [] = omega arith
most_formulas (f ∷ fs) = omega (arith, most_formulas fs)

most_selectors : (ss : List Selector) → most (λ s. selector_size s + 1) ss ≤ selectors_size (selectors_of ss) + 1
most_selectors [] = omega arith
most_selectors (s ∷ ss) = omega (arith, most_selectors ss)

conclusion_falls : (left : Relation) (right : Option Formula) →
    deep-Implication (record { left = left; right = right }) ≤ suc (relation_size left + conclusion_size (conclusion_of right))
conclusion_falls left None = omega arith
conclusion_falls left (Some f) = omega arith

formula_form_falls : (f : FormulaForm) → max (deep-FormulaForm f) 0 ≤ formula_size (formula_of f)
formula_form_falls (form.Factor f) = omega arith
formula_form_falls (form.Implication a) = omega (arith, conclusion_falls a.value.left a.value.right)

pub formula_falls : (a : formula.Inside) → deep-Formula a ≤ formula_size (formula_of a.form)
formula_falls a = formula_form_falls a.form

right_side_falls : (left : Simple) (right : Option (Box (Comparison × Simple) Global)) →
    deep-Relation (record { left = left; right = right }) ≤ suc (simple_size left + right_side_size (right_side_of right))
right_side_falls left None = omega arith
right_side_falls left (Some r) = omega arith

pub relation_falls : (a : relation.Inside) → deep-Relation a ≤ suc (simple_size a.left + right_side_size (right_side_of a.right))
relation_falls a = right_side_falls a.left a.right

pub simple_falls : (a : simple.Inside) → deep-Simple a ≤ suc (term_size a.first + more_terms_size (more_terms_of a.more.items))
simple_falls a = omega (arith, most_terms a.more.items)

pub term_falls : (a : term.Inside) → deep-Term a ≤ suc (factor_size a.first + more_factors_size (more_factors_of a.more.items))
term_falls a = omega (arith, most_factors a.more.items)

form_falls : (f : FactorForm) → max (deep-FactorForm f) 0 ≤ factor_size (factor_of f)
form_falls (Number line n) = omega arith
form_falls (Truth line b) = omega arith
form_falls (Nil line) = omega arith
form_falls (Class line x) = omega arith
form_falls (Place d) = omega arith
form_falls (Application f a) = omega (arith, most_formulas a.value.more.items, most_selectors a.value.behind.items)
form_falls (Bracketed line f) = omega arith
form_falls (Negation line f) = omega arith

pub factor_falls : (a : factor.Inside) → deep-Factor a ≤ factor_size (factor_of a.form)
factor_falls a = form_falls a.form

pub designator_falls : (a : designator.Inside) → deep-Designator a ≤ suc (selectors_size (selectors_of a.behind.items))
designator_falls a = omega (arith, most_selectors a.behind.items)

selector_form_falls : (line : ℕ) (s : SelectorForm) → max (deep-SelectorForm s) 0 ≤ selector_size (selector_of line s)
selector_form_falls line (Index first None) = omega arith
selector_form_falls line (Index first (Some more)) = omega (arith, most_formulas more.value.items)
selector_form_falls line (Field x) = omega arith
selector_form_falls line Content = omega arith

pub selector_falls : (a : selector.Inside) → deep-Selector a ≤ selector_size (selector_of a.line a.form)
selector_falls a = selector_form_falls a.line a.form
