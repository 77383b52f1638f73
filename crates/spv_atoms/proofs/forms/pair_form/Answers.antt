use Rattle.std.proofs.Common.{sym, ◌∙◌, subst}
use Rattle.spv_atoms.specs.Linear.{IdForm}
use Rattle.std.specs.Prelude.{Option}
use Rattle.spv_atoms.specs.Found.{IsCombined}
use Rattle.spv_atoms.proofs.Finding.{pair_wide_left, pair_wide_right, pair_narrow, pair_wide}
use Rattle.spv_atoms.proofs.forms.pair_form.Goals as goal

pub returns-in-Wide : goal.returns-in-Wide
returns-in-Wide c =
    pair_wide_left c.args.head c.args.t c.args.left.now c.args.right.now c.requires (sym c.is_linear.ensures ∙ c.if-not-is_linear.false) c.in-Wide.u c.in-Wide.is

pub returns-in-Wide-form : goal.returns-in-Wide-form
returns-in-Wide-form c =
    pair_wide_right c.args.head c.args.t c.args.left.now c.args.right.now c.requires (sym c.is_linear.ensures ∙ c.if-not-is_linear.false) c.in-Wide-form.u c.in-Wide-form.is

pub returns-in-Some : goal.returns-in-Some
returns-in-Some c =
    pair_narrow c.args.head c.args.t c.args.left.now c.args.right.now c.requires (sym c.is_linear.ensures ∙ c.if-not-is_linear.false) c.in-Narrow.form c.in-Narrow-form.form c.in-Narrow.is c.in-Narrow-form.is
    c.in-Some.form c.law_linear.ensures (subst (λ (o : Option IdForm). IsCombined c.args.head c.args.left.now.is_constant c.in-Narrow.form c.in-Narrow-form.form o) c.in-Some.is c.in_ok-form.ensures)

pub returns-in-None : goal.returns-in-None
returns-in-None c =
    pair_wide c.args.head c.args.t c.args.left.now c.args.right.now c.requires (sym c.is_linear.ensures ∙ c.if-not-is_linear.false) c.in-Narrow.form c.in-Narrow-form.form c.in-Narrow.is c.in-Narrow-form.is
    (subst (λ (o : Option IdForm). IsCombined c.args.head c.args.left.now.is_constant c.in-Narrow.form c.in-Narrow-form.form o) c.in-None.is c.in_ok-form.ensures)
