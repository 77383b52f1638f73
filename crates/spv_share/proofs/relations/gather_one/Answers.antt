use Rattle.spv_derivations.proofs.derivation.Bridges.{on_ok}
use Rattle.spv_term.specs.Arena.{tree}
use Rattle.spv_proof.specs.sums.Readings.{number_in}
use Rattle.spv_tableau_rules.specs.constraints.Relations.{number_sides}
use Rattle.spv_arithmetic_side.proofs.slack_rows.Pushing.{none_of}
use Rattle.spv_share.proofs.Gathering.{gathered_other, gathered_relation, pair_here}
use Rattle.spv_share.proofs.relations.gather_one.Goals as goal

pub returns-in_default : goal.returns-in_default
returns-in_default c = record {
  gathers = λ ts h.
      gathered_other c.args.terms.now c.args.trail.now c.add.new.self ts c.args.atom c.args.relations.now.items h c.add.ensures.holds c.add.ensures.adds c.in_ok-add.ensures.node
      (none_of c.args.terms.now (number_sides (number_in c.args.terms.now) (tree c.args.terms.now c.args.atom)) c.number_sides.result c.number_sides.ensures c.in_default.is);
}

pub returns : goal.returns
returns c =
    let pair = pair_here c.args.terms.now (number_sides (number_in c.args.terms.now) (tree c.args.terms.now c.args.atom)) c.number_sides.result (c.in-Some.left, c.in-Some.right) c.number_sides.ensures c.in-Some.is in
    record {
      gathers =
          on_ok c.push_relation.result c.push_relation.ensures
          (λ pushed ts h.
          gathered_relation c.args.terms.now c.law_arena.ensures c.args.trail.now c.add.new.self c.add-2.new.self c.add-3.new.self ts c.args.atom c.in-Some.left c.in-Some.right c.args.relations.now.items
          c.push_relation.new.relations.items c.requires.within h c.add.ensures.adds c.add-2.ensures.adds c.add-3.ensures.adds c.add-3.ensures.holds
          c.in_ok-add.ensures.node c.in_ok-add-2.ensures.node c.in_ok-add-3.ensures.node pair.left pair.right pair.are pushed);
    }
