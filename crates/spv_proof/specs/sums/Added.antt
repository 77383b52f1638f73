-- What comes of adding multiples of facts, over the ids of an arena.
use Rattle.std.specs.Prelude.{◌≡◌, ◌<◌, ℕ, Bool, true, false, List, map, length, Option, Some, None, IfSome, ℤ}
use Rattle.spv_whole.specs.Fraction.{Fraction}
use Rattle.spv_frac.specs.rational.Rational.{number}
use Rattle.spv_logic.specs.declared.conditions.TermId.{TermId}
use Rattle.spv_logic.specs.Terms.{Term}
use Rattle.spv_term.specs.Arena.{Arena, IsArena, tree, trees_of}
use Rattle.spv_atoms.specs.Forms.{Form}
use Rattle.spv_atoms.specs.Linear.{IdForm, PartsIn, over_trees, form_over}
use Rattle.spv_proof_rules.specs.Sums.{Combination, nothing, add_reading, sum_of, refutes}
use Rattle.spv_proof_rules.specs.Stops.{WideSum, Halt, Partial, empty, Tally, Stands, Ended, Halted, then_tally, add_number, with_constant, add_parts, add_source, add_all, halt_in as halt_in_sum}
use Rattle.spv_proof.specs.declared.sums.fault.SumFault.{SumFault}
use Rattle.spv_proof.specs.declared.sums.fault.SumFault.TheVariants as fault
use Rattle.spv_proof.specs.declared.sums.reading.Claim.{Claim}
use Rattle.spv_proof.specs.sums.Readings.{halt_in, source_of, reading_of, number_in, denial}
use Rattle.spv_proof.specs.sums.Partials.{IdSum, sum_over, FactorsIn, IsExact}

-- ---- faults

-- how a check ends with a fault; for want of memory nothing is said
abbrev pub fault_halt : Arena → ℕ → Term → SumFault → Option Halt
fault_halt a most shown (fault.Wide op x y) = Some (record { known = trees_of a.nodes; stop = WideSum op x y })
fault_halt a most shown (fault.Form t) = Some (halt_in a most shown (Some t))
fault_halt a most shown fault.Shown = Some (halt_in a most shown None)
fault_halt a most shown fault.Memory = None

-- a relation that is named is in the arena
abbrev pub FaultIn : Arena → SumFault → Type 0
FaultIn a (fault.Form t) = t.0 < length a.nodes
FaultIn a _ = Unit {0}

-- a fault is what halts a sum, whatever it is to show and however many terms there may be
pub record HaltsAs {T : Type 0} (a : Arena) (e : SumFault) (t : ℕ → Term → Tally T) : Type 0 where
  pub told : (most : ℕ) (shown : Term) → IfSome (fault_halt a most shown e) (λ h. t most shown ≡ Halted h)
  pub in_range : FaultIn a e

-- ---- sums

-- a sum over ids, or none where the step does not follow
abbrev pub tally_of : Arena → Option IdSum → Tally Partial
tally_of a (Some s) = Stands (sum_over a s)
tally_of a None = Ended

abbrev pub SumsTo : Arena → Option Combination → Option IdSum → Type 0
SumsTo a o (Some s) = (d : Combination) × (o ≡ Some d) × IsExact (sum_over a s) d
SumsTo a o None = o ≡ None

-- a multiple of a form is added, its parts as they stand in it and then its constant
abbrev pub add_ordered : List Term → Fraction → Form → Partial → Tally Partial
add_ordered known m f s =
    then_tally (add_parts known m f.parts s) (λ r. then_tally (add_number known m r.constant f.constant) (λ c. Stands (with_constant r c)))

abbrev pub only_if : Bool → IdSum → Option IdSum
only_if true s = Some s
only_if false s = None

-- a multiple of what a number stands for is added, or the step does not follow
pub record IsAdded (a : Arena) (facts : List TermId) (c : Claim) (m : Fraction) (k : ℕ) (old new : IdSum) (b : Bool) : Type 0 where
  pub tally : (most : ℕ) (shown : Term) → add_source (trees_of a.nodes) m (source_of a facts c most shown k) (sum_over a old) ≡ tally_of a (only_if b new)
  pub exact : (d : Combination) → IsExact (sum_over a old) d → SumsTo a (add_reading (number m) (reading_of a facts c k) d) (only_if b new)
  pub in_range : FactorsIn a new.parts

-- the cited multiples are added, or the step does not follow
pub record IsSummed (a : Arena) (facts : List TermId) (c : Claim) (multiples : List (Fraction × ℕ)) (s : Option IdSum) : Type 0 where
  pub tally : (most : ℕ) (shown : Term) → add_all (trees_of a.nodes) (source_of a facts c most shown) multiples empty ≡ tally_of a s
  pub exact : SumsTo a (sum_of (number_in a) (map (tree a) facts) (denial a c) multiples nothing) s

-- ---- what code adds

-- parts are added to a sum, over every arena that has all their terms
pub record AddsParts (m : Fraction) (parts : List (TermId × ℤ)) (old new : IdSum) : Type 0 where
  pub in_range : (a : Arena) → PartsIn a parts → FactorsIn a old.parts → FactorsIn a new.parts
  pub tally : (a : Arena) → IsArena a → PartsIn a parts → FactorsIn a old.parts → add_parts (trees_of a.nodes) m (over_trees a parts) (sum_over a old) ≡ Stands (sum_over a new)

pub record StopsParts (m : Fraction) (parts : List (TermId × ℤ)) (old : IdSum) (e : SumFault) : Type 0 where
  pub halt : (a : Arena) → IsArena a → PartsIn a parts → FactorsIn a old.parts → HaltsAs a e (λ most shown. add_parts (trees_of a.nodes) m (over_trees a parts) (sum_over a old))

pub record AddsForm (m : Fraction) (f : IdForm) (old new : IdSum) : Type 0 where
  pub in_range : (a : Arena) → PartsIn a f.parts → FactorsIn a old.parts → FactorsIn a new.parts
  pub tally : (a : Arena) → IsArena a → PartsIn a f.parts → FactorsIn a old.parts → add_ordered (trees_of a.nodes) m (form_over a f) (sum_over a old) ≡ Stands (sum_over a new)

pub record StopsForm (m : Fraction) (f : IdForm) (old : IdSum) (e : SumFault) : Type 0 where
  pub halt : (a : Arena) → IsArena a → PartsIn a f.parts → FactorsIn a old.parts → HaltsAs a e (λ most shown. add_ordered (trees_of a.nodes) m (form_over a f) (sum_over a old))

abbrev pub StopsAt : Arena → List TermId → Claim → Fraction → ℕ → IdSum → SumFault → Type 0
StopsAt a facts c m k old e = HaltsAs a e (λ most shown. add_source (trees_of a.nodes) m (source_of a facts c most shown k) (sum_over a old))

abbrev pub StopsSum : Arena → List TermId → Claim → List (Fraction × ℕ) → SumFault → Type 0
StopsSum a facts c multiples e = HaltsAs a e (λ most shown. add_all (trees_of a.nodes) (source_of a facts c most shown) multiples empty)

-- ---- what is shown

-- what stops the sum that is to show a claim, in a step that adds `shown`
abbrev pub halt_of_claim : Arena → List TermId → Claim → List (Fraction × ℕ) → ℕ → Term → Option Halt
halt_of_claim a facts c multiples most shown = halt_in_sum (number_in a) most (trees_of a.nodes) (map (tree a) facts) shown (tree a c.left) (tree a c.right) multiples

-- whether the multiples contradict that a claim is false
abbrev pub is_shown : Arena → List TermId → Claim → List (Fraction × ℕ) → Bool
is_shown a facts c multiples = refutes (number_in a) (map (tree a) facts) (tree a c.left) (tree a c.right) multiples
