use Rattle.spv_derivations.specs.derivation.Derivation.{literal}
use Rattle.spv_term.specs.Arena.{tree}
use Rattle.spv_tests.proofs.reasons_tests.Readiness.{if_ok, on_if, ready-gains}
use Rattle.spv_tests.proofs.reasons_tests.closing.tell.Goals as goal

pub returns-clause-ready : goal.returns-clause-ready
returns-clause-ready c =
    on_if c.told.result c.told.ensures.gains
    (λ n g.
    ready-gains c.law_backed.ensures c.args.terms.now c.args.graph.now c.args.derivation.now c.told.new.self n (literal (tree c.args.terms.now c.args.p) c.args.part)
    (g c.args.terms.now c.requires.ready.derivation c.requires.within c.requires.part) c.requires.ready)

pub returns-clause-gains : goal.returns-clause-gains
returns-clause-gains c = if_ok c.told.result c.told.ensures.gains (λ n g. g c.args.terms.now c.requires.ready.derivation c.requires.within c.requires.part)
