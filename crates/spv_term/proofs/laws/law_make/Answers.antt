use Rattle.spv_logic.specs.Conditions.{answers}
use Rattle.spv_term.proofs.ArenaLemmas.{IsWorthOfHeads-arena}
use Rattle.spv_term.proofs.laws.law_make.Goals as goal

pub returns : goal.returns
returns g c a ok = IsWorthOfHeads-arena a ok (answers a.shapes a.decls (g.W.World.apply c.args.world.now))
