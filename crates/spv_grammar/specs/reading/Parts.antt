-- What a part of a tree spells, and which part tokens begin with.
use Rattle.std.specs.Prelude.{◌≡◌, true, List, ◌∷◌, Option}
use Rattle.spv_tree.specs.declared.tokens.token.Token.{Token}
use Rattle.spv_tree.specs.declared.tokens.token.TokenKind.{TokenKind}
use Rattle.spv_tree.specs.declared.syntax.names.Name.{Name}
use Rattle.spv_tree.specs.declared.syntax.operators.Adding.{Adding}
use Rattle.spv_tree.specs.declared.syntax.operators.Multiplying.{Multiplying}
use Rattle.spv_tree.specs.syntax.Formulas.{Formula, Conclusion, Relation, RightSide, Simple, MoreTerms, Term, MoreFactors, Factor, MoreFormulas, Designator, Selectors, Selector}
use Rattle.spv_tree.specs.syntax.Steps.{Step, passes, lines_agree}
use Rattle.spv_tree.specs.syntax.Reads.{kinds}
use Rattle.spv_tree.specs.declared.syntax.lists.Several.{Several}
use Rattle.spv_tree.specs.declared.syntax.names.Constant.{Constant}
use Rattle.spv_tree.specs.declared.syntax.declarations.Const.{Const}
use Rattle.spv_tree.specs.declared.syntax.declarations.Typedef.{Typedef}
use Rattle.spv_tree.specs.declared.syntax.declarations.Vars.{Vars}
use Rattle.spv_tree.specs.declared.syntax.declarations.SortName.{SortName}
use Rattle.spv_tree.specs.declared.syntax.declarations.SymbolText.{SymbolText}
use Rattle.spv_tree.specs.declared.syntax.declarations.Declarations.{Declarations}
use Rattle.spv_tree.specs.declared.syntax.routines.Group.{Group}
use Rattle.spv_tree.specs.declared.syntax.routines.Params.{Params}
use Rattle.spv_tree.specs.declared.syntax.routines.Heading.{Heading}
use Rattle.spv_tree.specs.declared.syntax.routines.Item.{Item}
use Rattle.spv_tree.specs.declared.syntax.routines.GlobalGroup.{GlobalGroup}
use Rattle.spv_tree.specs.declared.syntax.routines.Start.{Start}
use Rattle.spv_tree.specs.declared.syntax.routines.Clauses.{Clauses}
use Rattle.spv_tree.specs.declared.syntax.routines.Locals.{Locals}
use Rattle.spv_tree.specs.declared.syntax.routines.RoutineMark.{RoutineMark}
use Rattle.spv_tree.specs.declared.syntax.programs.Program.{Program}
use Rattle.spv_tree.specs.declared.syntax.rules.RuleVars.{RuleVars}
use Rattle.spv_tree.specs.declared.syntax.rules.RuleForm.{RuleForm}
use Rattle.spv_tree.specs.declared.syntax.rules.Rule.{Rule}
use Rattle.spv_tree.specs.declared.syntax.rules.RuleTree.{RuleTree}
use Rattle.spv_tree.specs.declared.syntax.formula_texts.FormulaText.{FormulaText}
use Rattle.spv_tree.specs.syntax.Lists.{each, several, headed}
use Rattle.spv_tree.specs.syntax.Types.{TypeDenoter, MoreTypes, Field, MoreFields}
use Rattle.spv_tree.specs.syntax.Statements.{Statement, Otherwise, Block, MoreStatements, Arm, MoreArms, Loop}
use Rattle.spv_tree.specs.syntax.Members.{in_kinds, in_lines}
use Rattle.spv_tree.specs.syntax.FormulaSpelling.{conclusion_spelling, designator_spelling, factor_spelling, formula_spelling, more_factors_spelling, more_formulas_spelling, more_terms_spelling, name_spelling, relation_spelling, right_side_spelling, selector_spelling, selectors_spelling, simple_spelling, term_spelling, adding_kind, multiplying_kind}
use Rattle.spv_tree.specs.syntax.ProgramSpelling.{clauses_spelling, const_spelling, declarations_spelling, entry_spelling, exit_spelling, files_spelling, global_group_spelling, globals_spelling, group_spelling, heading_spelling, initial_spelling, item_spelling, locals_spelling, params_spelling, program_spelling, routine_mark_spelling, routines_spelling, sort_spelling, start_spelling, symbol_spelling, typedef_spelling, vars_spelling}
use Rattle.spv_tree.specs.syntax.RuleSpelling.{formula_text_spelling, premise_spelling, rule_form_spelling, rule_spelling, rule_tree_spelling, rule_vars_spelling}
use Rattle.spv_tree.specs.syntax.StatementSpelling.{arm_spelling, block_spelling, constants_spelling, loop_spelling, more_arms_spelling, more_statements_spelling, otherwise_spelling, statement_spelling}
use Rattle.spv_tree.specs.syntax.TypeSpelling.{constant_spelling, field_spelling, more_fields_spelling, more_types_spelling, names_spelling, type_spelling}

-- the tokens of a part and the lines on which it and its parts begin, in front of what follows
pub record Part (A : Type 0) : Type 0 where
  pub spelled : A → List TokenKind → List TokenKind
  pub lined : A → List Step → List Step

-- the tokens begin with some, which f puts in front of kinds and g in front of lines, and this is the rest
pub record InFront (f : List TokenKind → List TokenKind) (g : List Step → List Step) (tokens rest : List Token) : Type 0 where
  pub spelled : kinds tokens ≡ f (kinds rest)
  pub lined : (steps : List Step) → lines_agree (g steps) tokens ≡ lines_agree steps rest

-- the tokens begin with those of this part, on its lines, and this is the rest
abbrev pub BeginsWith : {A : Type 0} → Part A → List Token → A → List Token → Type 0
BeginsWith part tokens x rest = InFront (part.spelled x) (part.lined x) tokens rest

-- the tokens are of these kinds, and the parts that begin among them have their lines
pub record Stands (tokens : List Token) (spelling : List TokenKind) (steps : List Step) : Type 0 where
  pub spelled : kinds tokens ≡ spelling
  pub lined : lines_agree steps tokens ≡ true

-- ---- the parts of formulas

abbrev pub name_part : Part Name
name_part = record { spelled = name_spelling in_kinds; lined = name_spelling in_lines }

abbrev pub formula_part : Part Formula
formula_part = record { spelled = formula_spelling in_kinds; lined = formula_spelling in_lines }

abbrev pub conclusion_part : Part Conclusion
conclusion_part = record { spelled = conclusion_spelling in_kinds; lined = conclusion_spelling in_lines }

abbrev pub relation_part : Part Relation
relation_part = record { spelled = relation_spelling in_kinds; lined = relation_spelling in_lines }

abbrev pub right_side_part : Part RightSide
right_side_part = record { spelled = right_side_spelling in_kinds; lined = right_side_spelling in_lines }

abbrev pub simple_part : Part Simple
simple_part = record { spelled = simple_spelling in_kinds; lined = simple_spelling in_lines }

abbrev pub added_term_part : Part (Adding × Term)
added_term_part = record {
  spelled = λ p rest. adding_kind p.0 ∷ term_spelling in_kinds p.1 rest;
  lined = λ p steps. passes ∷ (term_spelling in_lines) p.1 steps;
}

abbrev pub more_terms_part : Part MoreTerms
more_terms_part = record { spelled = more_terms_spelling in_kinds; lined = more_terms_spelling in_lines }

abbrev pub term_part : Part Term
term_part = record { spelled = term_spelling in_kinds; lined = term_spelling in_lines }

abbrev pub multiplied_factor_part : Part (Multiplying × Factor)
multiplied_factor_part = record {
  spelled = λ p rest. multiplying_kind p.0 ∷ factor_spelling in_kinds p.1 rest;
  lined = λ p steps. passes ∷ (factor_spelling in_lines) p.1 steps;
}

abbrev pub more_factors_part : Part MoreFactors
more_factors_part = record { spelled = more_factors_spelling in_kinds; lined = more_factors_spelling in_lines }

abbrev pub factor_part : Part Factor
factor_part = record { spelled = factor_spelling in_kinds; lined = factor_spelling in_lines }

abbrev pub more_formulas_part : Part MoreFormulas
more_formulas_part = record { spelled = more_formulas_spelling in_kinds; lined = more_formulas_spelling in_lines }

abbrev pub designator_part : Part Designator
designator_part = record { spelled = designator_spelling in_kinds; lined = designator_spelling in_lines }

abbrev pub selectors_part : Part Selectors
selectors_part = record { spelled = selectors_spelling in_kinds; lined = selectors_spelling in_lines }

abbrev pub selector_part : Part Selector
selector_part = record { spelled = selector_spelling in_kinds; lined = selector_spelling in_lines }

-- a part behind a word or sign
abbrev pub led : {A : Type 0} → TokenKind → Part A → Part A
led k part = record { spelled = λ x rest. k ∷ part.spelled x rest; lined = λ x steps. passes ∷ part.lined x steps }

-- ---- the parts of statements

-- at least one part, and a word or sign between two of them
abbrev pub several_part : {A : Type 0} → TokenKind → Part A → Part (Several A)
several_part k part = record { spelled = several k part.spelled; lined = several passes part.lined }

abbrev pub constant_part : Part Constant
constant_part = record { spelled = constant_spelling in_kinds; lined = constant_spelling in_lines }

abbrev pub constants_part : Part (Several Constant)
constants_part = record { spelled = constants_spelling in_kinds; lined = constants_spelling in_lines }

abbrev pub statement_part : Part Statement
statement_part = record { spelled = statement_spelling in_kinds; lined = statement_spelling in_lines }

abbrev pub otherwise_part : Part Otherwise
otherwise_part = record { spelled = otherwise_spelling in_kinds; lined = otherwise_spelling in_lines }

abbrev pub block_part : Part Block
block_part = record { spelled = block_spelling in_kinds; lined = block_spelling in_lines }

abbrev pub more_statements_part : Part MoreStatements
more_statements_part = record { spelled = more_statements_spelling in_kinds; lined = more_statements_spelling in_lines }

abbrev pub arm_part : Part Arm
arm_part = record { spelled = arm_spelling in_kinds; lined = arm_spelling in_lines }

abbrev pub more_arms_part : Part MoreArms
more_arms_part = record { spelled = more_arms_spelling in_kinds; lined = more_arms_spelling in_lines }

abbrev pub loop_part : Part Loop
loop_part = record { spelled = loop_spelling in_kinds; lined = loop_spelling in_lines }

-- ---- the parts of types

abbrev pub names_part : Part (Several Name)
names_part = record { spelled = names_spelling in_kinds; lined = names_spelling in_lines }

abbrev pub type_part : Part TypeDenoter
type_part = record { spelled = type_spelling in_kinds; lined = type_spelling in_lines }

abbrev pub more_types_part : Part MoreTypes
more_types_part = record { spelled = more_types_spelling in_kinds; lined = more_types_spelling in_lines }

abbrev pub field_part : Part Field
field_part = record { spelled = field_spelling in_kinds; lined = field_spelling in_lines }

abbrev pub more_fields_part : Part MoreFields
more_fields_part = record { spelled = more_fields_spelling in_kinds; lined = more_fields_spelling in_lines }

-- ---- the parts of declarations

-- a word and the parts behind it; where there are none, no word
abbrev pub headed_part : {A : Type 0} → TokenKind → Part A → Part (List A)
headed_part k part = record { spelled = headed k part.spelled; lined = headed passes part.lined }

-- parts one after the other
abbrev pub each_part : {A : Type 0} → Part A → Part (List A)
each_part part = record { spelled = each part.spelled; lined = each part.lined }

-- a part and the word or sign that ends it
abbrev pub ended_part : {A : Type 0} → TokenKind → Part A → Part A
ended_part k part = record { spelled = λ x rest. part.spelled x (k ∷ rest); lined = λ x steps. part.lined x (passes ∷ steps) }

abbrev pub const_part : Part Const
const_part = record { spelled = const_spelling in_kinds; lined = const_spelling in_lines }

abbrev pub typedef_part : Part Typedef
typedef_part = record { spelled = typedef_spelling in_kinds; lined = typedef_spelling in_lines }

abbrev pub vars_part : Part Vars
vars_part = record { spelled = vars_spelling in_kinds; lined = vars_spelling in_lines }

abbrev pub sort_part : Part SortName
sort_part = record { spelled = sort_spelling in_kinds; lined = sort_spelling in_lines }

abbrev pub symbol_part : Part SymbolText
symbol_part = record { spelled = symbol_spelling in_kinds; lined = symbol_spelling in_lines }

abbrev pub declarations_part : Part Declarations
declarations_part = record { spelled = declarations_spelling in_kinds; lined = declarations_spelling in_lines }

-- ---- the parts of routines and programs

abbrev pub group_part : Part Group
group_part = record { spelled = group_spelling in_kinds; lined = group_spelling in_lines }

abbrev pub params_part : Part (Option Params)
params_part = record { spelled = params_spelling in_kinds; lined = params_spelling in_lines }

abbrev pub heading_part : Part Heading
heading_part = record { spelled = heading_spelling in_kinds; lined = heading_spelling in_lines }

abbrev pub item_part : Part Item
item_part = record { spelled = item_spelling in_kinds; lined = item_spelling in_lines }

abbrev pub global_group_part : Part GlobalGroup
global_group_part = record { spelled = global_group_spelling in_kinds; lined = global_group_spelling in_lines }

abbrev pub globals_part : Part (Option (Several GlobalGroup))
globals_part = record { spelled = globals_spelling in_kinds; lined = globals_spelling in_lines }

abbrev pub start_part : Part Start
start_part = record { spelled = start_spelling in_kinds; lined = start_spelling in_lines }

abbrev pub initial_part : Part (Option (Several Start))
initial_part = record { spelled = initial_spelling in_kinds; lined = initial_spelling in_lines }

abbrev pub entry_part : Part (Option Formula)
entry_part = record { spelled = entry_spelling in_kinds; lined = entry_spelling in_lines }

abbrev pub exit_part : Part (Option Formula)
exit_part = record { spelled = exit_spelling in_kinds; lined = exit_spelling in_lines }

abbrev pub clauses_part : Part Clauses
clauses_part = record { spelled = clauses_spelling in_kinds; lined = clauses_spelling in_lines }

abbrev pub locals_part : Part Locals
locals_part = record { spelled = locals_spelling in_kinds; lined = locals_spelling in_lines }

abbrev pub routine_mark_part : Part RoutineMark
routine_mark_part = record { spelled = routine_mark_spelling in_kinds; lined = routine_mark_spelling in_lines }

abbrev pub routines_part : Part (List RoutineMark)
routines_part = record { spelled = routines_spelling in_kinds; lined = routines_spelling in_lines }

abbrev pub files_part : Part (Option (Several Name))
files_part = record { spelled = files_spelling in_kinds; lined = files_spelling in_lines }

abbrev pub program_part : Part Program
program_part = record { spelled = program_spelling in_kinds; lined = program_spelling in_lines }

-- ---- the parts of rule files and formula texts

abbrev pub rule_vars_part : Part RuleVars
rule_vars_part = record { spelled = rule_vars_spelling in_kinds; lined = rule_vars_spelling in_lines }

-- behind this word
abbrev pub premise_part : TokenKind → Part (Option Formula)
premise_part k = record { spelled = premise_spelling in_kinds k; lined = premise_spelling in_lines k }

abbrev pub rule_form_part : Part RuleForm
rule_form_part = record { spelled = rule_form_spelling in_kinds; lined = rule_form_spelling in_lines }

abbrev pub rule_part : Part Rule
rule_part = record { spelled = rule_spelling in_kinds; lined = rule_spelling in_lines }

abbrev pub rule_tree_part : Part RuleTree
rule_tree_part = record { spelled = rule_tree_spelling in_kinds; lined = rule_tree_spelling in_lines }

abbrev pub formula_text_part : Part FormulaText
formula_text_part = record { spelled = formula_text_spelling in_kinds; lined = formula_text_spelling in_lines }
