use Rattle.std.proofs.Common.{refl, ◌∙◌}
use Rattle.spv_term.specs.Arena.{tree}
use Rattle.spv_arithmetic_side.proofs.slack_rows.Fitting.{wide_difference, fitting_row, without_room, room_is}
use Rattle.spv_arithmetic_side.proofs.slack_rows.row.row_of.Goals as goal

pub returns-in_default-clause-wide : goal.returns-in_default-clause-wide
returns-in_default-clause-wide c = (
  refl,
  wide_difference c.args.terms.now c.law_arena.ensures (tree c.args.terms.now c.args.left) (tree c.args.terms.now c.args.right) c.in_ok-left_form.left_form c.in_ok-right_form.right_form
      c.in_ok-left_form.ensures.form c.in_ok-right_form.ensures.form c.in_ok-row.field-0 c.in_ok-row.ensures c.in_default.is,
)

pub returns-then-has_room-clause-row : goal.returns-then-has_room-clause-row
returns-then-has_room-clause-row c =
    fitting_row c.args.terms.now c.law_arena.ensures (tree c.args.terms.now c.args.left) (tree c.args.terms.now c.args.right) c.in_ok-left_form.left_form c.in_ok-right_form.right_form
    c.in_ok-left_form.ensures.form c.in_ok-right_form.ensures.form c.in_ok-row.field-0 c.in-Some.row c.in_ok-row.ensures c.in-Some.is c.law_linear.ensures (room_is c.in-Some.row.constant c.constant.result c.has_room.result c.constant.ensures c.law_linear.ensures.constant c.has_room.ensures ∙ c.if-has_room.true)

pub returns-clause-wide : goal.returns-clause-wide
returns-clause-wide c = (
  refl,
  without_room c.args.terms.now c.law_arena.ensures (tree c.args.terms.now c.args.left) (tree c.args.terms.now c.args.right) c.in_ok-left_form.left_form c.in_ok-right_form.right_form
      c.in_ok-left_form.ensures.form c.in_ok-right_form.ensures.form c.in_ok-row.field-0 c.in-Some.row c.in_ok-row.ensures c.in-Some.is c.law_linear.ensures (room_is c.in-Some.row.constant c.constant.result c.has_room.result c.constant.ensures c.law_linear.ensures.constant c.has_room.ensures ∙ c.if-has_room.false),
)
