use Rattle.std.proofs.Common.{sym, subst}
use Rattle.spv_term.specs.Arena.{node}
use Rattle.spv_congruence.specs.Graph.{IsGraph}
use Rattle.spv_congruence.specs.Keep.{graph, Fits, Puts}
use Rattle.spv_congruence.proofs.PutLemmas.{room_fits, room_graph, ready_fits, ready_graph, ready_room, done_graph, done_adds}
use Rattle.spv_congruence.proofs.kept.Kept.add_one.Goals as goal

pub returns-in_err-prepare-clause-fits : goal.returns-in_err-prepare-clause-fits
returns-in_err-prepare-clause-fits c = room_fits _ _ c.in_err-prepare.ensures.room c.requires.fits

pub returns-in_err-prepare-clause-graph : goal.returns-in_err-prepare-clause-graph
returns-in_err-prepare-clause-graph c = subst IsGraph (sym (room_graph c.args.self.now c.prepare.new.self c.in_err-prepare.ensures.room)) c.requires.graph

pub returns-in_err-put-clause-fits : goal.returns-in_err-put-clause-fits
returns-in_err-put-clause-fits c = subst Fits (sym c.in_err-put.ensures.err) (room_fits c.args.self.now c.prepare.new.self c.in_ok-prepare.ensures.room c.requires.fits)

pub returns-in_err-put-clause-graph : goal.returns-in_err-put-clause-graph
returns-in_err-put-clause-graph c = subst (λ k. IsGraph (graph k)) (sym c.in_err-put.ensures.err) (subst IsGraph (sym (room_graph c.args.self.now c.prepare.new.self c.in_ok-prepare.ensures.room)) c.requires.graph)

pub enter_next-requires-clause-fits : goal.enter_next-requires-clause-fits
enter_next-requires-clause-fits c = ready_fits c.args.self.now c.prepare.new.self c.put.new.self c.args.t (node c.args.head c.args.args.now) c.requires.fits c.requires.graph c.requires.missing c.requires.below c.requires.args c.in_ok-prepare.ensures.room c.in_ok-prepare.ensures.ok (subst (λ n. Puts c.prepare.new.self c.args.t n c.put.new.self) c.in_ok-copy.ensures c.in_ok-put.ensures.ok)

pub enter_next-requires-clause-graph : goal.enter_next-requires-clause-graph
enter_next-requires-clause-graph c = ready_graph c.args.self.now c.prepare.new.self c.put.new.self c.args.t (node c.args.head c.args.args.now) c.requires.fits c.requires.graph c.requires.missing c.requires.below c.requires.args c.in_ok-prepare.ensures.room c.in_ok-prepare.ensures.ok (subst (λ n. Puts c.prepare.new.self c.args.t n c.put.new.self) c.in_ok-copy.ensures c.in_ok-put.ensures.ok) c.terms-place.result c.terms-place.ensures

pub enter_next-requires-clause-room : goal.enter_next-requires-clause-room
enter_next-requires-clause-room c = ready_room c.args.self.now c.prepare.new.self c.put.new.self c.args.t (node c.args.head c.args.args.now) c.requires.fits c.requires.graph c.requires.missing c.requires.below c.requires.args c.in_ok-prepare.ensures.room c.in_ok-prepare.ensures.ok (subst (λ n. Puts c.prepare.new.self c.args.t n c.put.new.self) c.in_ok-copy.ensures c.in_ok-put.ensures.ok) c.terms-place.result c.terms-place.ensures

pub returns-clause-ok : goal.returns-clause-ok
returns-clause-ok c = done_adds c.args.self.now c.prepare.new.self c.put.new.self c.args.t (node c.args.head c.args.args.now) c.requires.fits c.requires.graph c.requires.missing c.requires.below c.requires.args c.in_ok-prepare.ensures.room c.in_ok-prepare.ensures.ok (subst (λ n. Puts c.prepare.new.self c.args.t n c.put.new.self) c.in_ok-copy.ensures c.in_ok-put.ensures.ok) c.terms-place.result c.terms-place.ensures c.enter_next.new.self c.enter_next.ensures.next

pub returns-clause-graph : goal.returns-clause-graph
returns-clause-graph c = done_graph c.args.self.now c.prepare.new.self c.put.new.self c.args.t (node c.args.head c.args.args.now) c.requires.fits c.requires.graph c.requires.missing c.requires.below c.requires.args c.in_ok-prepare.ensures.room c.in_ok-prepare.ensures.ok (subst (λ n. Puts c.prepare.new.self c.args.t n c.put.new.self) c.in_ok-copy.ensures c.in_ok-put.ensures.ok) c.terms-place.result c.terms-place.ensures c.enter_next.new.self c.enter_next.ensures.next
