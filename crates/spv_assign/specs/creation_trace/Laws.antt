-- What is true of walks and of the limits that they meet.
use Rattle.std.specs.Prelude.{◌≡◌, ◌<◌, List, [], ◌++◌, length, IsTrue, ◌↔◌}
use Rattle.spv_logic.specs.declared.conditions.TermId.{TermId}
use Rattle.spv_logic.specs.Terms.{Term}
use Rattle.spv_term.specs.Arena.{Arena, IsArena, tree}
use Rattle.spv_term.specs.substitution.Parts.{is_part_of}
use Rattle.spv_assign.specs.declared.creation_trace.faults.GenFault.{GenFault}
use Rattle.spv_assign.specs.creation_trace.Events.{Event, terms_of, HasTerm, Walked, MeetsFullArena, Stops}

-- a walk behind a walk is the walk of both
abbrev pub WalksJoin : Type 0
WalksJoin = (xs ys : List Event) (a b c : Arena) → Walked xs a b → Walked ys b c → Walked (xs ++ ys) a c

-- what stops a part stops the whole
abbrev pub StopsFirst : Type 0
StopsFirst = (e : GenFault) (xs ys : List Event) (a b : Arena) → Stops e xs a b → Stops e (xs ++ ys) a b

abbrev pub StopsBehind : Type 0
StopsBehind = (e : GenFault) (xs ys : List Event) (a b c : Arena) → Walked xs a b → Stops e ys b c → Stops e (xs ++ ys) a c

-- from an arena without terms, the terms behind a walk are the different parts of all that it made
abbrev pub HasTheParts : Type 0
HasTheParts =
    (events : List Event) (a b : Arena) → a.nodes ≡ [] → IsArena b → Walked events a b
    → (x : Term) → IsTrue (is_part_of (terms_of events) x) ↔ HasTerm b x

-- the terms of an arena are as many as it may have, all of them are parts of these, and so is another one
pub record AreMoreParts (a : Arena) (ts : List Term) : Type 0 where
  pub full : length a.nodes ≡ a.most
  pub parts : (u : TermId) → u.0 < length a.nodes → IsTrue (is_part_of ts (tree a u))
  pub other : Term
  pub part : IsTrue (is_part_of ts other)
  pub absent : HasTerm a other → ⊥

-- from an arena without terms, where the arena runs full, what is made has more different parts than it may have
abbrev pub FullMeansMore : Type 0
FullMeansMore = (events : List Event) (a b : Arena) → a.nodes ≡ [] → MeetsFullArena events a b → AreMoreParts b (terms_of events)
