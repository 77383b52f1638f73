use Rattle.std.proofs.Common.{◌≡◌, drop, map}
use Rattle.spv_frame_check.specs.Allowed.{allows}
use Rattle.spv_frame_check.specs.Tables.{listed_in}
use Rattle.spv_frame_check.specs.Roots.{plain_roots}
use Rattle.spv_frame_check.proofs.aliases.listed.Given as goal

abbrev pub invariant-loop-root : goal.invariant-loop-root
invariant-loop-root l =
    listed_in (map allows l.tables) l.number (plain_roots (drop l.root-index l.roots)) ≡ listed_in (map allows l.tables) l.number (plain_roots l.roots)
