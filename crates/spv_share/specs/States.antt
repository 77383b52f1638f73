-- What a graph and a tableau come to together.
use Rattle.std.specs.Prelude.{◌≡◌, ◌⊎◌, ℕ, suc, ◌<◌, Bool, true, false, not, ◌&&◌, List, [], ◌∷◌, length, Some, slice_get, if◌then◌else◌}
use Rattle.spv_logic.specs.declared.operators.Head.{Head}
use Rattle.spv_logic.specs.declared.operators.Head.TheVariants.{Eq}
use Rattle.spv_logic.specs.Conditions.{Sequent}
use Rattle.spv_logic.specs.Terms.{Term}
use Rattle.spv_term.specs.Arena.{Arena}
use Rattle.spv_atoms.specs.declared.proofs.Step.{Step}
use Rattle.spv_proof_rules.specs.Accepted as accepted
use Rattle.spv_proof_rules.specs.Accepted.{walk}
use Rattle.spv_proof_rules.specs.Stand.{StepsIn}
use Rattle.spv_congruence.specs.Graph.{are_same, Graph}
use Rattle.spv_derivations.specs.derivation.Derivation.{asked}
use Rattle.spv_derivations.specs.derivation.Literals.{AreKnown}
use Rattle.spv_derivations.specs.derivation.Steps.{IsEnd}
use Rattle.spv_tableau_rules.specs.declared.constraints.saying.RowConstraint.TheVariants.{Equal, Below, Above}
use Rattle.spv_simplex.specs.declared.checked.Checked.TheVariants.{Feasible}
use Rattle.spv_simplex.specs.Checks.{IsFeasible}
use Rattle.spv_explanations.specs.congruence_side.Holding.{HasNoClash, Grows}
use Rattle.spv_explanations.specs.congruence_side.Telling.{ties}
use Rattle.spv_arithmetic_side.specs.declared.constraint_rows.standing.Standing.{Standing}
use Rattle.spv_arithmetic_side.specs.constraint_rows.Standing.{AddsSome, IsBack, Stands}
use Rattle.spv_arithmetic_side.specs.constraint_rows.Forcing.{HasEvidence, HasPoint, IsStopped}
use Rattle.spv_share.specs.Relations.{sayable}
use Rattle.spv_share.specs.declared.relations.Related.{Related}
use Rattle.spv_share.specs.declared.relations.Claim.{Claim}
use Rattle.spv_share.specs.declared.relations.Noted.{Noted}
use Rattle.spv_share.specs.declared.both.Both.{Both}
use Rattle.spv_share.specs.declared.stating.Shared.{Shared}
use Rattle.spv_share.specs.declared.stating.Shared.TheVariants as shared
use Rattle.spv_share.specs.declared.searching.Sought.{Sought}
use Rattle.spv_share.specs.declared.searching.Sought.TheVariants.{Apart, Joined, Stopped}
use Rattle.spv_share.specs.declared.ending.Outcome.{Outcome}
use Rattle.spv_share.specs.declared.ending.Outcome.TheVariants as outcome
use Rattle.spv_share.specs.Both.{AreReasoned, told, IsSound}

-- ---- equalities

abbrev pub is_equality : Head → Bool
is_equality Eq = true
is_equality _ = false

-- whether an equality of whole numbers has sides that the graph joins
abbrev pub is_joined : Both → Related → Bool
is_joined b r = is_equality r.head && are_same b.trail.graph r.left r.right

-- or sides that it does not join
abbrev pub is_open : Both → Related → Bool
is_open b r = is_equality r.head && not (are_same b.trail.graph r.left r.right)

-- how many of these equalities a graph does not join
abbrev pub count_open : Graph → List Related → ℕ
count_open g [] = 0
count_open g (r ∷ rels) = if is_equality r.head && not (are_same g r.left r.right) then suc (count_open g rels) else count_open g rels

-- an equality that the graph did not join is joined
pub record HasClosed (old new : Both) : Type 0 where
  pub row : ℕ
  pub relation : Related
  pub there : slice_get old.relations.items row ≡ Some relation
  pub was_open : is_open old relation ≡ true
  pub is_closed : is_open new relation ≡ false

-- all that is claimed of rows stands there
pub record ClaimsStand (b : Both) : Type 0 where
  pub each : (place : ℕ) (n : Noted) (c : Claim) → slice_get b.claims.items place ≡ Some n → n.claim ≡ Some c → Stands b.standing c.row c.saying

-- each equality that the graph joins stands on its row
pub record JoinedStand (b : Both) : Type 0 where
  pub each : (row : ℕ) (r : Related) → slice_get b.relations.items row ≡ Some r → is_joined b r ≡ true → Stands b.standing row Equal

-- all stands that has to
pub record AllStands (b : Both) : Type 0 where
  pub claims : ClaimsStand b
  pub joined : JoinedStand b

-- a point meets the bounds that stand and those of a strict order of the sides of a row
abbrev pub HasOrder : Standing → ℕ → Type 0
HasOrder b row = HasPoint b row Above ⊎ HasPoint b row Below

-- such a point is found, or such an order stands
pub data IsApart (b : Standing) (row : ℕ) : Type 0 where
  by_point : HasOrder b row → IsApart b row
  by_bounds : Stands b row Above ⊎ Stands b row Below → IsApart b row

-- so it is for each of the first equalities that the graph does not join
pub record AreApart (b : Both) (count : ℕ) : Type 0 where
  pub each : (row : ℕ) (r : Related) → row < count → slice_get b.relations.items row ≡ Some r → is_open b r ≡ true → IsApart b.standing row

-- of these relations, each equality that the graph does not join waits, as its flag says, or has such a point or order
pub record AreSifted (b : Both) (waits : List Bool) : Type 0 where
  pub many : length waits ≡ length b.relations.items
  pub each : (row : ℕ) (r : Related) → slice_get b.relations.items row ≡ Some r → slice_get waits row ≡ Some false → is_open b r ≡ true → IsApart b.standing row

-- ---- answers

-- the two sides agree, and there is a point
pub record IsOpen (b : Both) : Type 0 where
  -- no two terms of the graph are the same that may not be
  pub clash : HasNoClash b.trail.graph
  -- the kept point meets all bounds that stand, and may be read
  pub point : IsFeasible b.standing.tableau
  pub answered : b.standing.tableau.answer ≡ Some Feasible
  -- all that the literals say of rows stands
  pub claims : ClaimsStand b
  -- each equality that the graph joins stands on its row
  pub joined : JoinedStand b
  -- each other equality has a point for one of its strict orders
  pub apart : (row : ℕ) (r : Related) → slice_get b.relations.items row ≡ Some r → is_open b r ≡ true → HasOrder b.standing row

-- on each path whose facts of these numbers are the literals that were told, the steps end in a contradiction; the terms that they name are in the
-- arena
pub record Closes (a : Arena) (b : Both) (count : ℕ) (steps : List Step) : Type 0 where
  pub ends : (c : Sequent) (known : List Term) → length known ≡ count → AreKnown a known (told b) → walk (asked a c) known steps ≡ accepted.Closed
  pub within : StepsIn a steps

-- a check of the tableau was stopped; its evidence is over the rows, and over bounds that literals of their relations are
pub record IsLimit (b : Both) : Type 0 where
  pub stopped : IsStopped b.standing
  pub evidence : HasEvidence (sayable b.relations.items b.standing.tableau.forms) b.standing.tableau

abbrev pub IsAnswer : Arena → Both → ℕ → Shared → Type 0
IsAnswer a b count shared.Open = IsOpen b
IsAnswer a b count (shared.Closed steps) = Closes a b count steps.items
IsAnswer a b count shared.Limit = IsLimit b

-- ---- on the way

-- entries, facts and bounds come behind the others, no literal is told, and no equality that is joined becomes open
pub record GoesOn (a : Arena) (old new : Both) : Type 0 where
  pub sound : IsSound a new
  pub trail : Grows old.trail new.trail
  pub standing : AddsSome old.standing new.standing
  pub told_same : told new ≡ told old
  pub relations : new.relations.items ≡ old.relations.items
  pub claims : new.claims.items ≡ old.claims.items
  pub reasons : AreReasoned a old.relations.items (told old) (ties old.trail.graph.told) → AreReasoned a new.relations.items (told new) (ties new.trail.graph.told)
  pub closes : (row : ℕ) (r : Related) → slice_get old.relations.items row ≡ Some r → is_open new r ≡ true → is_open old r ≡ true

-- as it was in the graph and in the bounds
pub record IsStill (old new : Both) : Type 0 where
  pub graph : new.trail.graph ≡ old.trail.graph
  pub back : IsBack old.standing new.standing
  pub relations : new.relations.items ≡ old.relations.items
  pub claims : new.claims.items ≡ old.claims.items

-- what came of a round
abbrev pub IsOutcome : Arena → Both → Outcome → Type 0
IsOutcome a b (outcome.Ended first second) = IsEnd a b.trail.derivation first second
IsOutcome a b outcome.Open = IsOpen b
IsOutcome a b outcome.Stopped = IsLimit b

-- what came of looking at one relation
abbrev pub IsFound : Both → Both → Related → Sought → Type 0
IsFound old new r Apart = IsStill old new × (is_open new r ≡ true → IsApart new.standing r.row)
IsFound old new r Joined = (is_open old r ≡ true) × (is_open new r ≡ false)
IsFound old new r Stopped = IsLimit new

abbrev pub after_joined : Sought → Sought
after_joined Stopped = Stopped
after_joined _ = Joined

-- what came of looking at the first equalities
abbrev pub IsSought : Both → Both → ℕ → Sought → Type 0
IsSought old new count Apart = IsStill old new × AreApart new count
IsSought old new count Joined = HasClosed old new
IsSought old new count Stopped = IsLimit new

-- the last check found that the kept point meets all bounds that stand
pub record IsAtPoint (b : Standing) : Type 0 where
  pub met : IsFeasible b.tableau
  pub answered : b.tableau.answer ≡ Some Feasible
