use Rattle.spv_fact_search.proofs.stages.searched.Goals as goal

pub with_shorter_proof-requires : goal.with_shorter_proof-requires
with_shorter_proof-requires c = record {
  decided = record {
    arena = c.args.terms.now;
    condition = c.args.condition.now;
    limits = c.args.limits.now;
    decided = c.in_ok-found.ensures.decided;
  };
}
