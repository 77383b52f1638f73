-- A variable that counts already.
use Rattle.std.proofs.Common.{◌≡◌, ℕ, Bool, true, false, cond, Option, Some, None, Ok, Err, sym, ap, ◌∙◌}
use Rattle.spv_logic.specs.declared.names.names.Symbol.{Symbol}
use Rattle.spv_tree.specs.declared.syntax.names.Name.{Name}
use Rattle.spv_typing.specs.declared.faults.TypeFault.TheVariants.{ControlChanged}
use Rattle.spv_tree.specs.declared.syntax.operators.Direction.{Direction as DirectionSign}
use Rattle.spv_tree.specs.syntax.Formulas.{Formula}
use Rattle.spv_program.specs.declared.operators.Direction.{Direction}
use Rattle.spv_program.specs.Expressions.{Expression}
use Rattle.spv_typing.specs.Known.{meaning}
use Rattle.spv_typing.specs.Outcomes.{after}
use Rattle.spv_typing.specs.OperatorWalk.{Operand, formula_line}
use Rattle.spv_typing.specs.ExpressionWalk.{operand}
use Rattle.spv_typing.specs.StatementWalk.{Setting, own_in, unless_counted, is_declared, direction_of, counting}
use Rattle.spv_expression_typing.specs.counter_changes.Counted.{is_counted}
use Rattle.spv_expression_typing.proofs.counter_changes.Same.{name_counted}
use Rattle.spv_statement_typing.specs.Parts.{uncounted, head_settled}

module _ (at : Setting) (line : ℕ) (w : Name) where
  by_counted : (b : Bool) → is_counted at.counted w.symbol ≡ b → uncounted at line w ≡ unless_counted line (cond b (Some w.symbol) None) w
  by_counted b h =
      ap (λ (o : Option Symbol). unless_counted line o w) (name_counted (own_in at.inside) at.counted w.symbol ∙ ap (λ c. cond c (Some w.symbol) None) h)

  pub counts_already : is_counted at.counted w.symbol ≡ true → uncounted at line w ≡ Err (ControlChanged line w.symbol)
  counts_already h = by_counted true h

  pub counts_not_yet : is_counted at.counted w.symbol ≡ false → uncounted at line w ≡ Ok w
  counts_not_yet h = by_counted false h

  pub counting_is : (from to : Formula) (towards : DirectionSign) (a b : Operand Expression) (on under : ℕ) (d : Direction) → is_declared w (meaning at.inside w.symbol) ≡ Ok w
      → operand at.inside from ≡ Ok a → operand at.inside to ≡ Ok b → on ≡ formula_line from → under ≡ formula_line to → d ≡ direction_of towards
      → counting at line w from towards to ≡ head_settled at line w d on a under b
  counting_is from to towards a b on under d h p q r s t =
      ap (λ o. after o (λ v. after (operand at.inside from) (λ a. after (operand at.inside to) (λ b. head_settled at line v (direction_of towards) (formula_line from) a (formula_line to) b)))) h
      ∙ ap (λ o. after o (λ a. after (operand at.inside to) (λ b. head_settled at line w (direction_of towards) (formula_line from) a (formula_line to) b))) p
      ∙ ap (λ o. after o (λ b. head_settled at line w (direction_of towards) (formula_line from) a (formula_line to) b)) q
      ∙ ap (λ (e : Direction). head_settled at line w e (formula_line from) a (formula_line to) b) (sym t)
      ∙ ap (λ (n : ℕ). head_settled at line w d n a (formula_line to) b) (sym r)
      ∙ ap (λ (n : ℕ). head_settled at line w d on a n b) (sym s)
