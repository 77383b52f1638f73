-- A derivation as the steps of a path whose first facts are numbered otherwise.
use Rattle.std.specs.Prelude.{◌≡◌, ℕ, zero, suc, ◌+◌, List, [], ◌∷◌, ◌++◌, Option, Some, fold, slice_get, slice_index_or}
use Rattle.std.specs.Option.{option_map}
use Rattle.spv_logic.specs.declared.conditions.TermId.{TermId}
use Rattle.spv_logic.specs.Terms.{Term}
use Rattle.spv_term.specs.Arena.{Arena, tree}
use Rattle.spv_atoms.specs.declared.proofs.Step.{Step}
use Rattle.spv_atoms.specs.declared.proofs.Step.TheVariants.{Contra}
use Rattle.spv_proof_rules.specs.Effects.{Ends, numbered, end_of}
use Rattle.spv_derivations.specs.declared.derivation.entries.Part.{Part}
use Rattle.spv_derivations.specs.declared.derivation.entries.Entry.{Entry}
use Rattle.spv_derivations.specs.declared.derivation.entries.Entry.TheVariants.{Told, Derived}
use Rattle.spv_derivations.specs.derivation.Derivation.{fact_of, facts, fact_at, literal}
use Rattle.spv_atoms.specs.Steps.{renumbered}

-- a derivation whose first entries were copied: the number outside of the next derived fact, the numbers outside of the facts so far, and the steps
pub record Copied : Type 0 where
  pub next : ℕ
  pub numbers : List ℕ
  pub steps : List Step

-- the number outside of a fact, where these are those of the first facts; of one that is not among them, `next`; 0 stays
abbrev pub outside : ℕ → List ℕ → ℕ → ℕ
outside next numbers zero = zero
outside next numbers (suc k) = slice_index_or numbers k next

abbrev pub outside_of : Copied → ℕ → ℕ
outside_of c k = outside c.next c.numbers k

-- one entry more: what was told has its own number, and what is derived takes the next one
abbrev pub with_entry : Copied → Entry → Copied
with_entry c (Told t part why) = record { next = c.next; numbers = c.numbers ++ why ∷ []; steps = c.steps }
with_entry c (Derived s) = record { next = c.next + 1; numbers = c.numbers ++ c.next ∷ []; steps = c.steps ++ renumbered (outside_of c) s ∷ [] }

-- nothing was copied, and so many facts are there
abbrev pub uncopied : ℕ → Copied
uncopied count = record { next = count + 1; numbers = []; steps = [] }

abbrev pub copy_of : ℕ → List Entry → Copied
copy_of count es = fold with_entry (uncopied count) es

-- the derived entries in order, as steps of a path with so many facts
abbrev pub steps_of : ℕ → List Entry → List Step
steps_of count es = (copy_of count es).steps

-- what was copied, with the end of the path by one or two facts of the derivation
abbrev pub closed : Copied → ℕ → Option ℕ → List Step
closed c first second = c.steps ++ Contra (outside_of c first) (option_map (outside_of c) second) ∷ []

abbrev pub closing_steps_of : ℕ → List Entry → ℕ → Option ℕ → List Step
closing_steps_of count es first second = closed (copy_of count es) first second

-- ---- what the steps add

-- the facts of derived entries, in order, behind these facts
abbrev pub derived_from : Arena → List Term → List Entry → List Term
derived_from a before [] = []
derived_from a before (Told t part why ∷ es) = derived_from a (before ++ fact_of a before (Told t part why) ∷ []) es
derived_from a before (Derived s ∷ es) = fact_of a before (Derived s) ∷ derived_from a (before ++ fact_of a before (Derived s) ∷ []) es

abbrev pub derived : Arena → List Entry → List Term
derived a es = derived_from a [] es

-- each literal that was told is the path's fact of its number
pub record AreTold (a : Arena) (known : List Term) (es : List Entry) : Type 0 where
  pub each : (i : ℕ) (t : TermId) (part : Part) (why : ℕ) → slice_get es i ≡ Some (Told t part why) → numbered known why ≡ Some (literal (tree a t) part)

-- one or two facts of the derivation end the path: a fact and its negation, or one that is never true
abbrev pub IsEnd : Arena → List Entry → ℕ → Option ℕ → Type 0
IsEnd a es first second = end_of (facts a es) (fact_at a es first) second ≡ Ends
