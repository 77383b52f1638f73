-- What the forms of a text become in a rule: what they are in annotations, but that `#` and `^` have no place there.
use Rattle.std.specs.Prelude.{ℕ, Option, Some, None, Err}
use Rattle.spv_tree.specs.declared.syntax.names.Name.{Name}
use Rattle.spv_program.specs.Formulas.{Formula}
use Rattle.spv_typing.specs.Outcomes.{Outcome, undeclared, wrong}
use Rattle.spv_typing.specs.Known.{Meaning, Scope, meaning}
use Rattle.spv_typing.specs.OperatorWalk.{Operand, Forms}
use Rattle.spv_typing.specs.FormulaWalk.{Sorted, formula_forms}

-- a class; its name is looked at first
abbrev pub no_class : ℕ → Name → Option Meaning → Outcome (Operand Formula)
no_class line x None = Err (undeclared x)
no_class line x (Some other) = Err (wrong line)

abbrev pub rule_forms : Scope → Forms Formula Sorted
rule_forms s =
    let k = formula_forms s in
    record {
      numeral = k.numeral;
      boolean = k.boolean;
      nil_of = k.nil_of;
      negative_of = k.negative_of;
      calculated = k.calculated;
      compares = k.compares;
      negated = k.negated;
      joined = k.joined;
      may_imply = k.may_imply;
      implied = k.implied;
      comparable = k.comparable;
      class_of = λ line x. no_class line x (meaning s x.symbol);
      begin = k.begin;
      begin_written = k.begin_written;
      apply = k.apply;
      indexed = k.indexed;
      field_of = k.field_of;
      content_of = λ line at q. Err (wrong line);
      finish = k.finish;
    }
