-- How deep formulas, statements and types stand inside one another: formulas in brackets, behind NOT and behind arrows,
-- statements and types in others.
use Rattle.std.specs.Prelude.{ℕ, suc, max, List, [], ◌∷◌, Option, Some, None}
use Rattle.spv_tree.specs.declared.syntax.lists.Several.{Several}
use Rattle.spv_tree.specs.declared.syntax.declarations.Typedef.{Typedef}
use Rattle.spv_tree.specs.declared.syntax.declarations.Vars.{Vars}
use Rattle.spv_tree.specs.declared.syntax.declarations.Declarations.{Declarations}
use Rattle.spv_tree.specs.declared.syntax.routines.Clauses.{Clauses}
use Rattle.spv_tree.specs.declared.syntax.routines.RoutineMark.{RoutineMark}
use Rattle.spv_tree.specs.declared.syntax.routines.RoutineMark.TheVariants.{Announced, Begins, Ends}
use Rattle.spv_tree.specs.declared.syntax.programs.Program.{Program}
use Rattle.spv_tree.specs.declared.syntax.rules.RuleForm.{RuleForm}
use Rattle.spv_tree.specs.declared.syntax.rules.RuleForm.TheVariants.{Replace, Infer}
use Rattle.spv_tree.specs.declared.syntax.rules.Rule.{Rule}
use Rattle.spv_tree.specs.declared.syntax.rules.RuleTree.{RuleTree}
use Rattle.spv_tree.specs.declared.syntax.formula_texts.FormulaText.{FormulaText}
use Rattle.spv_tree.specs.syntax.Statements.{Statement, empty, assignment, call, creation, compound, conditional, selection, repetition, assertion, Otherwise, nothing_otherwise, otherwise, Block, block, MoreStatements, no_more_statements, more_statements, Arm, no_arm, arm, MoreArms, no_more_arms, more_arms, Loop, while_loop, repeat_loop, for_loop}
use Rattle.spv_tree.specs.syntax.Types.{TypeDenoter, named, range, pointer, array, fields, MoreTypes, no_more_types, more_types, Field, no_field, field as field_of_type, MoreFields, no_more_fields, more_fields}
use Rattle.spv_tree.specs.syntax.Formulas.{Formula, formula, Conclusion, no_conclusion, implies, Relation, relation, RightSide, no_right_side, compared, Simple, simple, MoreTerms, no_more_terms, more_terms, Term, term, MoreFactors, no_more_factors, more_factors, Factor, number, truth, nil, class, place, application, bracketed, negation, MoreFormulas, no_more_formulas, more_formulas, Designator, designator, Selectors, no_selectors, selectors, Selector, index, field, content}

abbrev mutual
  pub formula_depth : Formula → ℕ
  formula_depth (formula line left right) = max (relation_depth left) (conclusion_depth right)

  pub conclusion_depth : Conclusion → ℕ
  conclusion_depth no_conclusion = 0
  conclusion_depth (implies f) = suc (formula_depth f)

  pub relation_depth : Relation → ℕ
  relation_depth (relation line left right) = max (simple_depth left) (right_side_depth right)

  pub right_side_depth : RightSide → ℕ
  right_side_depth no_right_side = 0
  right_side_depth (compared operator s) = simple_depth s

  pub simple_depth : Simple → ℕ
  simple_depth (simple line prefix first more) = max (term_depth first) (more_terms_depth more)

  pub more_terms_depth : MoreTerms → ℕ
  more_terms_depth no_more_terms = 0
  more_terms_depth (more_terms operator t more) = max (term_depth t) (more_terms_depth more)

  pub term_depth : Term → ℕ
  term_depth (term line first more) = max (factor_depth first) (more_factors_depth more)

  pub more_factors_depth : MoreFactors → ℕ
  more_factors_depth no_more_factors = 0
  more_factors_depth (more_factors operator f more) = max (factor_depth f) (more_factors_depth more)

  pub factor_depth : Factor → ℕ
  factor_depth (number line n) = 0
  factor_depth (truth line b) = 0
  factor_depth (nil line) = 0
  factor_depth (class line x) = 0
  factor_depth (place line d) = designator_depth d
  factor_depth (application line f first more behind) = max (suc (formula_depth first)) (max (more_formulas_depth more) (selectors_depth behind))
  factor_depth (bracketed line f) = suc (formula_depth f)
  factor_depth (negation line f) = suc (factor_depth f)

  -- of formulas that stand in brackets
  pub more_formulas_depth : MoreFormulas → ℕ
  more_formulas_depth no_more_formulas = 0
  more_formulas_depth (more_formulas f more) = max (suc (formula_depth f)) (more_formulas_depth more)

  pub designator_depth : Designator → ℕ
  designator_depth (designator line x behind) = selectors_depth behind

  pub selectors_depth : Selectors → ℕ
  selectors_depth no_selectors = 0
  selectors_depth (selectors s more) = max (selector_depth s) (selectors_depth more)

  pub selector_depth : Selector → ℕ
  selector_depth (index line first more) = max (suc (formula_depth first)) (more_formulas_depth more)
  selector_depth (field line x) = 0
  selector_depth (content line) = 0

-- of formulas that stand in brackets
abbrev pub formulas_depth : List Formula → ℕ
formulas_depth [] = 0
formulas_depth (f ∷ fs) = max (suc (formula_depth f)) (formulas_depth fs)

abbrev pub arguments_depth : Option (Several Formula) → ℕ
arguments_depth None = 0
arguments_depth (Some fs) = max (suc (formula_depth fs.first)) (formulas_depth fs.more)

abbrev pub invariant_depth : Option Formula → ℕ
invariant_depth None = 0
invariant_depth (Some f) = formula_depth f

abbrev mutual
  pub statement_depth : Statement → ℕ
  statement_depth (empty line) = 0
  statement_depth (assignment line d f) = max (designator_depth d) (formula_depth f)
  statement_depth (call line x arguments) = arguments_depth arguments
  statement_depth (creation line d) = designator_depth d
  statement_depth (compound line b) = block_depth b
  statement_depth (conditional line f s other) = max (formula_depth f) (max (suc (statement_depth s)) (otherwise_depth other))
  statement_depth (selection line f first more) = max (formula_depth f) (max (arm_depth first) (more_arms_depth more))
  statement_depth (repetition line invariant l) = max (invariant_depth invariant) (loop_depth l)
  statement_depth (assertion line f) = formula_depth f

  pub otherwise_depth : Otherwise → ℕ
  otherwise_depth nothing_otherwise = 0
  otherwise_depth (otherwise s) = suc (statement_depth s)

  pub block_depth : Block → ℕ
  block_depth (block line first more) = max (suc (statement_depth first)) (more_statements_depth more)

  pub more_statements_depth : MoreStatements → ℕ
  more_statements_depth no_more_statements = 0
  more_statements_depth (more_statements s more) = max (suc (statement_depth s)) (more_statements_depth more)

  pub arm_depth : Arm → ℕ
  arm_depth (no_arm line) = 0
  arm_depth (arm line constants s) = suc (statement_depth s)

  pub more_arms_depth : MoreArms → ℕ
  more_arms_depth no_more_arms = 0
  more_arms_depth (more_arms a more) = max (arm_depth a) (more_arms_depth more)

  pub loop_depth : Loop → ℕ
  loop_depth (while_loop line f s) = max (formula_depth f) (suc (statement_depth s))
  loop_depth (repeat_loop line first more f) = max (suc (statement_depth first)) (max (more_statements_depth more) (formula_depth f))
  loop_depth (for_loop line x from towards to s) = max (formula_depth from) (max (formula_depth to) (suc (statement_depth s)))

abbrev mutual
  pub type_depth : TypeDenoter → ℕ
  type_depth (named line x) = 0
  type_depth (range line low high) = 0
  type_depth (pointer line x) = 0
  type_depth (array line first more elements) = max (suc (type_depth first)) (max (more_types_depth more) (suc (type_depth elements)))
  type_depth (fields line first more) = max (field_depth first) (more_fields_depth more)

  pub more_types_depth : MoreTypes → ℕ
  more_types_depth no_more_types = 0
  more_types_depth (more_types t more) = max (suc (type_depth t)) (more_types_depth more)

  pub field_depth : Field → ℕ
  field_depth (no_field line) = 0
  field_depth (field_of_type line names t) = suc (type_depth t)

  pub more_fields_depth : MoreFields → ℕ
  more_fields_depth no_more_fields = 0
  more_fields_depth (more_fields f more) = max (field_depth f) (more_fields_depth more)

abbrev pub typedefs_depth : List Typedef → ℕ
typedefs_depth [] = 0
typedefs_depth (t ∷ ts) = max (type_depth t.of) (typedefs_depth ts)

abbrev pub variables_depth : List Vars → ℕ
variables_depth [] = 0
variables_depth (v ∷ vs) = max (type_depth v.of) (variables_depth vs)

abbrev pub declarations_depth : Declarations → ℕ
declarations_depth d = max (typedefs_depth d.types) (variables_depth d.variables)

-- of ENTRY, EXIT, WHERE or FROM, where it is there
abbrev pub condition_depth : Option Formula → ℕ
condition_depth f = invariant_depth f

abbrev pub clauses_depth : Clauses → ℕ
clauses_depth c = max (condition_depth c.entry) (condition_depth c.exit)

-- that routines stand inside one another does not count
abbrev pub routine_mark_depth : RoutineMark → ℕ
routine_mark_depth (Announced h c) = clauses_depth c
routine_mark_depth (Begins h c l) = max (clauses_depth c) (variables_depth l.variables)
routine_mark_depth (Ends b) = block_depth b

abbrev pub routines_depth : List RoutineMark → ℕ
routines_depth [] = 0
routines_depth (m ∷ ms) = max (routine_mark_depth m) (routines_depth ms)

abbrev pub program_depth : Program → ℕ
program_depth p =
    max (declarations_depth p.declarations) (max (routines_depth p.routines) (max (condition_depth p.entry) (max (condition_depth p.exit) (block_depth p.block))))

-- ---- rule files and formula texts

abbrev pub rule_form_depth : RuleForm → ℕ
rule_form_depth (Replace f g h) = max (formula_depth f) (max (formula_depth g) (condition_depth h))
rule_form_depth (Infer f h) = max (formula_depth f) (condition_depth h)

abbrev pub rules_depth : List Rule → ℕ
rules_depth [] = 0
rules_depth (r ∷ rs) = max (rule_form_depth r.form) (rules_depth rs)

abbrev pub rule_tree_depth : RuleTree → ℕ
rule_tree_depth t = rules_depth t.rules

abbrev pub formula_text_depth : FormulaText → ℕ
formula_text_depth t = max (declarations_depth t.declarations) (formula_depth t.formula)
