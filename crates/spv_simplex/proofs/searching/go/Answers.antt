use Rattle.std.proofs.Common.{ℕ, ◌<◌, ◌^◌, List, length, refl, sym, ap, ◌∙◌, subst}
use Rattle.std.specs.Prelude.{vec_capacity}
use Rattle.spv_tableau_rules.specs.tableaux.Walks.{Exchange}
use Rattle.spv_dictionary.specs.pivoting.Choosing.{limits_of}
use Rattle.spv_simplex.specs.pivot_runs.Derivation.{Goes, begins}
use Rattle.spv_simplex.specs.Searching.{IsTurn}
use Rattle.spv_simplex.proofs.Searches.{goes_on, stays_fit, smaller, enough, le_refl, le_trans}
use Rattle.spv_simplex.proofs.searching.go.Goals as goal

pub loop-answer-init : goal.loop-answer-init
loop-answer-init c = record {
  goes = subst (λ (made : List Exchange). Goes (limits_of (length c.args.dictionary.now.outside) c.args.trail.now.bounds) c.args.dictionary.now c.args.values.now made c.args.dictionary.now c.args.values.now) (sym c.requires.begins) begins;
  width = refl;
  start = refl;
  room = refl;
  operation = c.requires.operation;
  count = c.requires.count;
  rows = c.requires.rows;
  few = c.requires.few;
  combination = c.requires.room;
  capacity = le_refl (vec_capacity c.args.combination.now);
}

pub loop-answer-smaller : goal.loop-answer-smaller
loop-answer-smaller c =
    let fit = stays_fit _ c.loop-answer.dictionary c.loop-answer.values c.loop-answer.evidence c.turn.new.dictionary c.turn.new.values c.turn.new.evidence c.in-None.ensures.on in
    smaller c.loop-answer.evidence.room.steps c.turn.new.evidence.room.steps (length c.loop-answer.evidence.steps) (length c.turn.new.evidence.steps)
    (ap (λ r. r.steps) fit.room) fit.steps c.in-None.ensures.on.room

pub loop-answer-preserved : goal.loop-answer-preserved
loop-answer-preserved c =
    let turn = subst (λ (n : ℕ). IsTurn (limits_of n c.args.trail.now.bounds) c.loop-answer.dictionary c.loop-answer.values c.loop-answer.evidence c.turn.new.dictionary c.turn.new.values c.turn.new.evidence)
    c.loop-answer.invariant.width c.in-None.ensures.on in
    let fit = stays_fit _ c.loop-answer.dictionary c.loop-answer.values c.loop-answer.evidence c.turn.new.dictionary c.turn.new.values c.turn.new.evidence c.in-None.ensures.on in
    record {
      goes = goes_on (limits_of (length c.args.dictionary.now.outside) c.args.trail.now.bounds) c.args.dictionary.now c.args.values.now c.loop-answer.evidence c.loop-answer.dictionary c.loop-answer.values
          c.turn.new.dictionary c.turn.new.values c.turn.new.evidence c.loop-answer.invariant.goes turn;
      width = fit.width ∙ c.loop-answer.invariant.width;
      start = fit.start ∙ c.loop-answer.invariant.start;
      room = fit.room ∙ c.loop-answer.invariant.room;
      operation = fit.operation ∙ c.loop-answer.invariant.operation;
      count = fit.count ∙ c.loop-answer.invariant.count ∙ sym fit.spots;
      rows = c.loop-answer.invariant.rows ∙ sym fit.basis;
      few = subst (λ (n : ℕ). n < 2 ^ 32) (sym fit.spots) c.loop-answer.invariant.few;
      combination = enough (length c.turn.new.dictionary.basic) (length c.loop-answer.dictionary.basic) (vec_capacity c.loop-answer.combination) (vec_capacity c.turn.new.combination) fit.basis
          c.loop-answer.invariant.combination c.in-None.ensures.capacity;
      capacity = le_trans _ _ _ c.loop-answer.invariant.capacity c.in-None.ensures.capacity;
    }
