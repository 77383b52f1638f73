use Rattle.std.proofs.Common.{ℕ, List, ap, refl, arith, rules, subst}
use Rattle.std.specs.Vec.Iter.{into_iter_items, into_iter_len}
use Rattle.spv_program.specs.Formulas.{Formula}
use Rattle.spv_typing.specs.OperatorWalk.{Operand}
use Rattle.spv_formula_typing.specs.Operands.{operand_of, operands_of}
use Rattle.spv_annotation_typing.proofs.SettledLoops.{SettledSoFar, settled_more, settled_full, settled_end, none_left}
use Rattle.spv_annotation_typing.proofs.applying.settled_all.Goals as goal

pub loop-line-preserved : goal.loop-line-preserved
loop-line-preserved c = (
  settled_more c.args.wanted.now (operands_of c.args.given.items) c.loop-line.place (c.in-Some.line, operand_of c.in-Some.operand) (operands_of (into_iter_items c.next.new.self))
      c.loop-line.made.items c.push.new.items.items _ _ c.in_ok-formula.formula
      (omega (arith, c.if-place-wanted.false, c.loop-line.invariant.0.within)) refl c.in_ok-formula.ensures.ok c.in_ok-push.ensures
      (subst (λ (w : List (ℕ × Operand Formula)). SettledSoFar c.args.wanted.now (operands_of c.args.given.items) c.loop-line.place w c.loop-line.made.items) (ap operands_of c.in-Some.ensures.steps.0) c.loop-line.invariant.0),
  (let steps = c.in-Some.ensures.steps in let before = c.loop-line.invariant.1 in search rules),
)

pub returns-clause-ok : goal.returns-clause-ok
returns-clause-ok c =
    settled_end c.args.wanted.now (operands_of c.args.given.items) c.loop-line.place c.loop-line.made.items
    (subst (λ (w : List (ℕ × Operand Formula)). SettledSoFar c.args.wanted.now (operands_of c.args.given.items) c.loop-line.place w c.loop-line.made.items) (ap operands_of (none_left (into_iter_items c.loop-line.line-iterator) (into_iter_len c.loop-line.line-iterator) c.loop-line.invariant.1 c.in-None.ensures.steps.0)) c.loop-line.invariant.0)

pub returns-then-place-wanted-clause-ok : goal.returns-then-place-wanted-clause-ok
returns-then-place-wanted-clause-ok c =
    settled_full c.args.wanted.now (operands_of c.args.given.items) c.loop-line.place _ c.loop-line.made.items c.if-place-wanted.true c.loop-line.invariant.0
