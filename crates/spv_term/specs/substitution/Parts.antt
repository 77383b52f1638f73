-- Parts of terms, and what an arena gains and lacks.
use Rattle.std.specs.Prelude.{◌≡◌, ◌<◌, ◌≤◌, Bool, false, ◌||◌, List, length, IsTrue}
use Rattle.std.specs.List.{list_any}
use Rattle.spv_logic.specs.declared.conditions.TermId.{TermId}
use Rattle.spv_logic.specs.Terms.{Term, Terms, term, no_terms, terms, term_eq}
use Rattle.spv_term.specs.Arena.{Arena, tree}

abbrev mutual
  -- whether a term is another one or stands somewhere in it
  pub is_part : Term → Term → Bool
  is_part x (term h ts) = term_eq x (term h ts) || is_part_of_some x ts

  pub is_part_of_some : Term → Terms → Bool
  is_part_of_some x no_terms = false
  is_part_of_some x (terms t ts) = is_part x t || is_part_of_some x ts

-- whether a term is one of these or stands somewhere in them
abbrev pub is_part_of : List Term → Term → Bool
is_part_of goals x = list_any (is_part x) goals

-- each term that was added is a part of these
pub record AddsParts (old new : Arena) (goals : List Term) : Type 0 where
  pub part : (u : TermId) → length old.nodes ≤ u.0 → u.0 < length new.nodes → IsTrue (is_part_of goals (tree new u))

-- no term was added but this one
pub record AddsOnly (old new : Arena) (x : Term) : Type 0 where
  pub each : (u : TermId) → length old.nodes ≤ u.0 → u.0 < length new.nodes → tree new u ≡ x

-- there may be no more terms, and this one is not there
pub record Lacks (a : Arena) (x : Term) : Type 0 where
  pub full : length a.nodes ≡ a.most
  pub absent : (u : TermId) → u.0 < length a.nodes → tree a u ≡ x → ⊥

-- there may be no more terms, and a part of these is not there
pub record LacksPart (a : Arena) (goals : List Term) : Type 0 where
  pub missing : Term
  pub part : IsTrue (is_part_of goals missing)
  pub lacks : Lacks a missing
