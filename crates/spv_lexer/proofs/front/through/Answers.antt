use Rattle.std.proofs.Common.{◌∙◌, sym}
use Rattle.std.proofs.lemmas.List.{take_rest}
use Rattle.spv_lexer.proofs.Fronts.{through-next}
use Rattle.spv_lexer.proofs.front.through.Goals as goal

pub loop-at-preserved : goal.loop-at-preserved
loop-at-preserved c =
    c.loop-at.invariant ∙ through-next c.args.closing.now c.args.text.now c.loop-at.at c.loop-at-test.true (sym (rw take_rest at c.if-starts_with.ensures.value))
