use Rattle.std.proofs.Common.{arith}
use Rattle.spv_term.proofs.TreeLemmas.{AllBelow-le}
use Rattle.spv_congruence.proofs.PutLemmas.{room_trans}
use Rattle.spv_congruence.proofs.kept.Kept.prepare.Goals as goal

pub use_args-requires : goal.use_args-requires
use_args-requires c = AllBelow-le _ _ _ (let u = c.in_ok-grow_lists.ensures.uses in omega (arith, u)) c.requires

pub returns-clause-room : goal.returns-clause-room
returns-clause-room c = room_trans _ _ _ (room_trans _ _ _ c.in_ok-grow_classes.ensures.room c.in_ok-grow_lists.ensures.room) c.use_args.ensures.room
