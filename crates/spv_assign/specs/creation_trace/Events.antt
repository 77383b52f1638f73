-- What a walk over statements makes, in order, and what an arena is behind it.
use Rattle.std.specs.Prelude.{◌≡◌, ℕ, ◌<◌, ◌≤◌, List, [], ◌∷◌, ◌++◌, length, Result, Ok, Err}
use Rattle.spv_logic.specs.declared.conditions.TermId.{TermId}
use Rattle.spv_logic.specs.Terms.{Term}
use Rattle.spv_term.specs.Arena.{Arena, tree, Extends}
use Rattle.spv_term.specs.substitution.Parts.{AddsParts, LacksPart}
use Rattle.spv_assign.specs.declared.creation_trace.faults.GenFault.{GenFault}
use Rattle.spv_assign.specs.declared.creation_trace.faults.GenFault.TheVariants as fault

-- what is made: terms with their parts, or a list of so many conditions
pub data Event : Type 0 where
  Terms : List Term → Event
  Conditions : ℕ → Event

-- how long a list of conditions may be
abbrev pub longest_list : ℕ
longest_list = 20000

-- ---- arenas

pub record HasTerm (a : Arena) (t : Term) : Type 0 where
  pub id : TermId
  pub there : id.0 < length a.nodes
  pub is_tree : tree a id ≡ t

abbrev pub HasTerms : Arena → List Term → Type 0
HasTerms a [] = Unit {0}
HasTerms a (t ∷ ts) = HasTerm a t × HasTerms a ts

-- ---- walks

-- the terms that are made, in order
abbrev pub terms_of : List Event → List Term
terms_of [] = []
terms_of (Terms ts ∷ events) = ts ++ terms_of events
terms_of (Conditions n ∷ events) = terms_of events

-- no list is too long
abbrev pub ListsFit : List Event → Type 0
ListsFit [] = Unit {0}
ListsFit (Terms ts ∷ events) = ListsFit events
ListsFit (Conditions n ∷ events) = (n ≤ longest_list) × ListsFit events

-- all of it was made: each term is there, nothing but parts of them was added, and no list is too long
pub record Walked (events : List Event) (old new : Arena) : Type 0 where
  pub grows : Extends old new
  pub there : HasTerms new (terms_of events)
  pub only : AddsParts old new (terms_of events)
  pub lists : ListsFit events

-- a list is too long, and all before it was made
pub record MeetsLongList (events : List Event) (old new : Arena) : Type 0 where
  pub before : List Event
  pub length : ℕ
  pub after : List Event
  pub parts : events ≡ before ++ Conditions length ∷ after
  pub walked : Walked before old new
  pub too_long : longest_list < length

-- the arena is full, and a part of the terms of the first events is not there; no list among these is too long
pub record MeetsFullArena (events : List Event) (old new : Arena) : Type 0 where
  pub first : List Event
  pub after : List Event
  pub parts : events ≡ first ++ after
  pub lists : ListsFit first
  pub grows : Extends old new
  pub only : AddsParts old new (terms_of first)
  pub lacks : LacksPart new (terms_of first)

-- which limit was met first; of want of memory nothing is said
abbrev pub Stops : GenFault → List Event → Arena → Arena → Type 0
Stops (fault.Conditions n) events old new = (n ≡ longest_list) × MeetsLongList events old new
Stops (fault.Terms n) events old new = (n ≡ old.most) × MeetsFullArena events old new
Stops fault.Memory events old new = Unit {0}

-- what an answer says of the walk: all was made, or a limit was met
abbrev pub Answers : {X : Type 0} → Result X GenFault → List Event → Arena → Arena → Type 0
Answers (Ok x) events old new = Walked events old new
Answers (Err e) events old new = Stops e events old new
