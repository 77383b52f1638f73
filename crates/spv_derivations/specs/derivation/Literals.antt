-- What was told among the entries of a derivation.
use Rattle.std.specs.Prelude.{◌≡◌, ℕ, List, [], ◌∷◌, Some, slice_get}
use Rattle.spv_logic.specs.declared.conditions.TermId.{TermId}
use Rattle.spv_logic.specs.Terms.{Term}
use Rattle.spv_term.specs.Arena.{Arena, tree}
use Rattle.spv_proof_rules.specs.Effects.{numbered}
use Rattle.spv_derivations.specs.declared.derivation.entries.Part.{Part}
use Rattle.spv_derivations.specs.declared.derivation.entries.Entry.{Entry}
use Rattle.spv_derivations.specs.declared.derivation.entries.Entry.TheVariants.{Told, Derived}
use Rattle.spv_derivations.specs.derivation.Derivation.{literal}

-- a literal that was told: the atom, what of it, and the number that the fact has outside
pub record Literal : Type 0 where
  pub atom : TermId
  pub part : Part
  pub why : ℕ

-- the literals that were told, in order
abbrev pub literals : List Entry → List Literal
literals [] = []
literals (Told t part why ∷ es) = record { atom = t; part = part; why = why } ∷ literals es
literals (Derived s ∷ es) = literals es

-- each of them is the path's fact of its number
pub record AreKnown (a : Arena) (known : List Term) (ls : List Literal) : Type 0 where
  pub each : (i : ℕ) (l : Literal) → slice_get ls i ≡ Some l → numbered known l.why ≡ Some (literal (tree a l.atom) l.part)
