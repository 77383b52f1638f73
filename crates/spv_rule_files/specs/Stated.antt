-- What a rule says as one formula.
use Rattle.std.specs.Prelude.{Option, Some, None}
use Rattle.spv_program.specs.declared.operators.Comparison.TheVariants.{Equal}
use Rattle.spv_program.specs.Formulas.{Formula, Compared, Implied}
use Rattle.spv_rule_files.specs.declared.rules.RuleForm.{RuleForm}
use Rattle.spv_rule_files.specs.declared.rules.RuleForm.TheVariants.{Replace, Infer}
use Rattle.spv_rule_files.specs.declared.rules.TypedRule.{TypedRule}

-- REPLACE says that its sides are equal
abbrev pub unguarded : RuleForm → Formula
unguarded (Replace l r) = Compared Equal l r
unguarded (Infer f) = f

-- WHERE and FROM are premises
abbrev pub guarded : Option Formula → Formula → Formula
guarded None f = f
guarded (Some g) f = Implied g f

abbrev pub stated : TypedRule → Formula
stated r = guarded r.guard (unguarded r.form)
