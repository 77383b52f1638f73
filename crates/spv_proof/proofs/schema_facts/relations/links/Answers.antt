use Rattle.std.proofs.Common.{length, take, get_or, ◌+◌, sym, ◌∙◌, subst}
use Rattle.std.proofs.lemmas.Option.{slice_get-get_or}
use Rattle.spv_term.proofs.TreeLemmas.{AllBelow-at}
use Rattle.spv_proof.specs.schema_facts.Groups.{OnceEach}
use Rattle.spv_proof.specs.schema_facts.Relations.{TellsAll}
use Rattle.spv_proof.proofs.schema_facts.Linking.{linked_more, linked_same, still_once}
use Rattle.spv_proof.proofs.schema_facts.relations.links.Goals as goal
use Rattle.spv_proof.proofs.schema_facts.relations.links.Goals.{in-Some+in_ok-put, in_default}

pub link-requires : goal.link-requires
link-requires c =
    AllBelow-at (length c.args.terms.now.nodes) c.args.used.now c.loop-u.u-index (get_or c.args.used.now c.loop-u.u-index (record { 0 = 0 })) c.requires
    (slice_get-get_or c.args.used.now c.loop-u.u-index (record { 0 = 0 }) c.loop-u-test.true)

pub loop-u-preserved : goal.loop-u-preserved
loop-u-preserved c =
    let a = c.args.terms.now in
    elim c.match-link.branch [
      | in-Some+in_ok-put w ↦
          let e = w.links-is ∙ w.in_ok-put.ensures in
          record {
            once = subst OnceEach (sym e) (still_once c.loop-u.links w.in-Some.link c.loop-u.invariant.once);
            all = subst (TellsAll a c.args.relation (take (c.loop-u.u-index + 1) c.args.used.now)) (sym e)
                (linked_more a c.args.relation c.args.used.now c.loop-u.u-index c.loop-u-test.true c.loop-u.links c.loop-u.invariant.all (record { 0 = 0 }) w.in-Some.link w.in-Some.ensures);
          }
      | in_default w ↦
          record {
            once = subst OnceEach (sym w.links-is) c.loop-u.invariant.once;
            all = subst (TellsAll a c.args.relation (take (c.loop-u.u-index + 1) c.args.used.now)) (sym w.links-is)
                (linked_same a c.args.relation c.args.used.now c.loop-u.u-index c.loop-u-test.true c.loop-u.links c.loop-u.invariant.all (record { 0 = 0 }) w.in_default.ensures);
          }
    ]
