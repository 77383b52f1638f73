-- Terms of one arena that stand in another one.
use Rattle.std.specs.Prelude.{◌≡◌, ◌<◌, List, map, length, Option, Some, None, slice_get}
use Rattle.spv_whole.specs.Fraction.{Fraction}
use Rattle.spv_logic.specs.declared.conditions.TermId.{TermId}
use Rattle.spv_term.specs.Arena.{Arena, AllBelow, tree}
use Rattle.spv_table.specs.Kept.{PairsIn}
use Rattle.spv_verdicts.specs.declared.answers.verdicts.Instance.{Instance}
use Rattle.spv_verdicts.specs.declared.answers.verdicts.Round.{Round}
use Rattle.spv_verdicts.specs.answers.Views.{InstancesIn, RoundsIn, instance_in, instances_in, pairs_in, round_in, rounds_in}

abbrev pub known_id : Option (Option TermId) → Option TermId
known_id None = None
known_id (Some o) = o

-- the id that a list of places has for an id
abbrev pub moved_id : List (Option TermId) → TermId → Option TermId
moved_id places t = known_id (slice_get places t.0)

-- an id stands for the same term in another arena
pub record IsMove (a b : Arena) (t u : TermId) : Type 0 where
  pub there : u.0 < length b.nodes
  pub same : tree b u ≡ tree a t

-- each id that is had does
pub record AreMoves (a b : Arena) (places : List (Option TermId)) : Type 0 where
  pub each : (t u : TermId) → moved_id places t ≡ Some u → IsMove a b t u

-- a place is the one that was put, or was there
pub data Was (u t v w : TermId) (before : Type 0) : Type 0 where
  put : v ≡ u → w ≡ t → Was u t v w before
  stayed : before → Was u t v w before

-- ---- lists

pub record AllMoved (a b : Arena) (ts us : List TermId) : Type 0 where
  pub there : AllBelow (length b.nodes) us
  pub same : map (tree b) us ≡ map (tree a) ts

pub record PairsMoved (a b : Arena) (ps qs : List (TermId × Fraction)) : Type 0 where
  pub there : PairsIn b qs
  pub same : pairs_in b qs ≡ pairs_in a ps

pub record InstanceMoved (a b : Arena) (i j : Instance) : Type 0 where
  pub there : AllBelow (length b.nodes) j.values
  pub same : instance_in b j ≡ instance_in a i

pub record InstancesMoved (a b : Arena) (is js : List Instance) : Type 0 where
  pub there : InstancesIn b js
  pub same : instances_in b js ≡ instances_in a is

pub record RoundMoved (a b : Arena) (r s : Round) : Type 0 where
  pub table : PairsIn b s.table.values
  pub members : InstancesIn b s.members
  pub same : round_in b s ≡ round_in a r

pub record RoundsMoved (a b : Arena) (rs ss : List Round) : Type 0 where
  pub there : RoundsIn b ss
  pub same : rounds_in b ss ≡ rounds_in a rs
