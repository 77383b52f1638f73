-- Which limit a walk meets.
use Rattle.std.specs.Prelude.{◌≡◌, List, []}
use Rattle.spv_term.specs.Arena.{Arena, IsArena}
use Rattle.spv_assign.specs.creation_trace.Events.{Event, Walked, MeetsLongList, MeetsFullArena}

-- a walk, from an arena without terms, that met a limit: a list was too long, or there was no room for a term
pub record MeetsList (events : List Event) (a : Arena) : Type 0 where
  pub arena : Arena
  pub sound : IsArena arena
  pub meets : MeetsLongList events a arena

pub record MeetsRoom (events : List Event) (a : Arena) : Type 0 where
  pub arena : Arena
  pub sound : IsArena arena
  pub meets : MeetsFullArena events a arena

-- or met none: all of it was made
pub record IsMadeWhole (events : List Event) (a : Arena) : Type 0 where
  pub arena : Arena
  pub sound : IsArena arena
  pub walked : Walked events a arena

-- where all was made, no limit is met
pub record MeetsNone (events : List Event) (a : Arena) : Type 0 where
  pub list : MeetsList events a → ⊥
  pub room : MeetsRoom events a → ⊥

abbrev pub MadeMeetsNone : Type 0
MadeMeetsNone = (events : List Event) (a : Arena) → a.nodes ≡ [] → IsMadeWhole events a → MeetsNone events a

-- a walk that meets one limit first does not meet the other one first
abbrev pub OneIsMet : Type 0
OneIsMet = (events : List Event) (a : Arena) → a.nodes ≡ [] → MeetsList events a → MeetsRoom events a → ⊥
