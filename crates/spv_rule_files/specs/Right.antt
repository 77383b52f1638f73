-- What is true of each rule that is read.
use Rattle.std.specs.Prelude.{◌≡◌, ℕ, Bool, true, false, ◌&&◌, List, [], Some, Ok, IsTrue, is_some, slice_get}
use Rattle.std.specs.List.{list_all, list_any}
use Rattle.spv_logic.specs.declared.names.names.Symbol.{Symbol}
use Rattle.spv_logic.specs.declared.types.Sort.{Sort}
use Rattle.spv_logic.specs.declared.types.Sort.TheVariants as sort
use Rattle.spv_logic.specs.Sorts.{sort_in_range}
use Rattle.spv_tree.specs.declared.syntax.programs.Program.{Program as ProgramText}
use Rattle.spv_tree.specs.declared.syntax.formula_texts.FormulaText.{FormulaText}
use Rattle.spv_tree.specs.declared.syntax.rules.RuleTree.{RuleTree}
use Rattle.spv_tree.specs.syntax.Reads.{routines_ok}
use Rattle.spv_program.specs.Lists.{same_name, found}
use Rattle.spv_program.specs.Formulas.{Formula, Formulas, Numeral, Boolean, NilOf, Named, ClassOf, Element, FieldOf, Content, Applied, Known, Negative, Calculated, Compared, Negated, Joined, Implied, no_formulas, formulas}
use Rattle.spv_program.specs.FormulaTypes.{formula_sort}
use Rattle.spv_program.specs.Programs.{Program, shapes}
use Rattle.spv_program.specs.ordered_map.Entries.{AreApart}
use Rattle.spv_typing.specs.Known.{KnownNames}
use Rattle.spv_typing.specs.ProgramWalk.{program_walk, formula_text_walk}
use Rattle.spv_rule_files.specs.declared.rules.TypedRule.{TypedRule}
use Rattle.spv_rule_files.specs.Triggers.{trigger_in, names_behind}
use Rattle.spv_rule_files.specs.Rules.{leading, rule_names, rules_walk}
use Rattle.spv_rule_files.specs.Stated.{stated}

abbrev mutual
  -- whether a formula has neither `#` nor `^`
  pub has_no_class : Formula → Bool
  has_no_class (Numeral z) = true
  has_no_class (Boolean b) = true
  has_no_class (NilOf t) = true
  has_no_class (Named line x) = true
  has_no_class (ClassOf line t) = false
  has_no_class (Element a i) = has_no_class a && has_no_class i
  has_no_class (FieldOf r f) = has_no_class r
  has_no_class (Content line t q) = false
  has_no_class (Applied f fs) = have_no_class fs
  has_no_class (Known b fs) = have_no_class fs
  has_no_class (Negative f) = has_no_class f
  has_no_class (Calculated o f g) = has_no_class f && has_no_class g
  has_no_class (Compared o f g) = has_no_class f && has_no_class g
  has_no_class (Negated f) = has_no_class f
  has_no_class (Joined o f g) = has_no_class f && has_no_class g
  has_no_class (Implied f g) = has_no_class f && has_no_class g

  pub have_no_class : Formulas → Bool
  have_no_class no_formulas = true
  have_no_class (formulas f fs) = has_no_class f && have_no_class fs

-- whether a formula is the application of a declared symbol
abbrev pub is_application : Formula → Bool
is_application (Applied f fs) = true
is_application _ = false

-- in its program a rule says what is true or false of its variables, which are those of its trigger, the application of a declared symbol;
-- no name stands twice among them, and their sorts are there
pub record IsRight (p : Program) (r : TypedRule) : Type 0 where
  pub trigger : Formula
  pub leads : trigger_in (leading r.form) ≡ Some trigger
  pub applied : is_application trigger ≡ true
  pub truth : formula_sort p r.variables (stated r) ≡ Some sort.Bool
  pub sort : Sort
  pub sorted : formula_sort p r.variables trigger ≡ Some sort
  pub no_class : has_no_class (stated r) ≡ true
  pub no_class_in_trigger : has_no_class trigger ≡ true
  pub of_trigger : (x : Symbol) → is_some (found r.variables x) ≡ list_any (λ n. same_name n.symbol x) (names_behind [] trigger)
  pub bound : list_all (λ n. is_some (found r.variables n.symbol)) (rule_names r) ≡ true
  pub apart : AreApart r.variables
  pub sorts : (x : Symbol) (s : Sort) → found r.variables x ≡ Some s → IsTrue (sort_in_range (shapes p) s)

pub record AreRight (p : Program) (rules : List TypedRule) : Type 0 where
  pub each : (k : ℕ) (r : TypedRule) → slice_get rules k ≡ Some r → IsRight p r

-- the rules that are read for the program of a text, whatever names are known from the start then
abbrev pub RulesAreRight : Type 0
RulesAreRight =
    (first start : KnownNames) (text : ProgramText) (p : Program) (t : RuleTree) (rules : List TypedRule) → routines_ok 0 text.routines ≡ true
    → program_walk first text ≡ Ok p → rules_walk start p t ≡ Ok rules → AreRight p rules

-- those that are read for a formula text
abbrev pub FormulaRulesAreRight : Type 0
FormulaRulesAreRight =
    (first start : KnownNames) (text : FormulaText) (p : Program) (t : RuleTree) (rules : List TypedRule) → formula_text_walk first text ≡ Ok p
    → rules_walk start p t ≡ Ok rules → AreRight p rules
