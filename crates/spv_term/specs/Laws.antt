-- What is true of every arena.
use Rattle.std.specs.Prelude.{◌≡◌, ◌<◌, List, map, length, Some, slice_get, IsTrue}
use Rattle.spv_logic.specs.declared.conditions.TermId.{TermId}
use Rattle.spv_logic.specs.Terms.{eval, worth}
use Rattle.spv_logic.specs.Sorts.{term_sort, sort_in_range}
use Rattle.spv_logic.specs.Conditions.{Meaning, Valuation}
use Rattle.spv_term.specs.declared.nodes.Node.{Node}
use Rattle.spv_term.specs.declared.nodes.Condition.{Condition}
use Rattle.spv_term.specs.Arena.{Arena, tree, sequent, sort_at, AllBelow}

-- a term is worth what its head makes of what its arguments are worth
abbrev pub IsWorthOfHeads : Arena → Meaning → Type 0
IsWorthOfHeads a symbols =
    (v : Valuation) (t : TermId) (n : Node) → slice_get a.nodes t.0 ≡ Some n
    → eval symbols v (tree a t) ≡ worth symbols v n.head (map (λ u. eval symbols v (tree a u)) n.args)

-- equal terms have one id
abbrev pub HasOneId : Arena → Type 0
HasOneId a = (t u : TermId) → t.0 < length a.nodes → u.0 < length a.nodes → tree a t ≡ tree a u → t ≡ u

-- each term is well sorted, and its sort is that of its id
abbrev pub IsWellSorted : Arena → Type 0
IsWellSorted a = (t : TermId) → t.0 < length a.nodes → term_sort a.shapes a.decls (tree a t) ≡ Some (sort_at a t)

-- the types that the terms' sorts name are there
abbrev pub NamesTypes : Arena → Type 0
NamesTypes a = (t : TermId) → t.0 < length a.nodes → IsTrue (sort_in_range a.shapes (sort_at a t))

-- the old ids keep their nodes, trees and sorts, and the conditions over them what they claim
pub record KeepsOld (old new : Arena) : Type 0 where
  pub nodes : (t : TermId) → t.0 < length old.nodes → slice_get new.nodes t.0 ≡ slice_get old.nodes t.0
  pub trees : (t : TermId) → t.0 < length old.nodes → tree new t ≡ tree old t
  pub sorts : (t : TermId) → t.0 < length old.nodes → sort_at new t ≡ sort_at old t
  pub ids : (ts : List TermId) → AllBelow (length old.nodes) ts → AllBelow (length new.nodes) ts
  pub conditions : (c : Condition) → AllBelow (length old.nodes) c.given → c.goal.0 < length old.nodes → sequent new c ≡ sequent old c
