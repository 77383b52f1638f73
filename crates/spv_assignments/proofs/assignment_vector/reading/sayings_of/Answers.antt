use Rattle.spv_assignments.proofs.assignment_vector.AllFacts.{said_next, there_at, within}
use Rattle.spv_assignments.proofs.assignment_vector.reading.sayings_of.Goals as goal

pub saying_of-saying-requires : goal.saying_of-saying-requires
saying_of-saying-requires c = there_at c.args.terms.now c.args.known.now c.loop-k.k-index _ c.requires c.loop-k-test.true

pub put-requires : goal.put-requires
put-requires c = record { there = within c.args.terms.now c.loop-k.sayings c.saying_of-saying.result c.loop-k.invariant.count c.saying_of-saying.ensures.fits }

pub loop-k-preserved : goal.loop-k-preserved
loop-k-preserved c = record {
  so_far = said_next c.args.terms.now c.law_arena.ensures c.args.known.now c.loop-k.sayings c.put.new.self c.loop-k.k-index _ c.saying_of-saying.result c.loop-k-test.true c.loop-k.invariant.so_far c.saying_of-saying.ensures c.in_ok-put.ensures.adds;
  count = c.in_ok-put.ensures.count _ c.loop-k.invariant.count;
}
