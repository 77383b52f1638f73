-- A congruence graph and a tableau side by side.
use Rattle.std.specs.Prelude.{◌≡◌, true, ℕ, ◌<◌, ◌≤◌, List, take, length, Some, slice_get}
use Rattle.spv_logic.specs.declared.conditions.TermId.{TermId}
use Rattle.spv_logic.specs.declared.operators.Head.TheVariants.{Eq}
use Rattle.spv_term.specs.Arena.{Arena, tree}
use Rattle.spv_simplex.specs.Checks.{HoldsAsserted}
use Rattle.spv_derivations.specs.derivation.Literals.{Literal, literals}
use Rattle.spv_derivations.specs.declared.derivation.entries.Part.TheVariants.{True}
use Rattle.spv_derivations.specs.declared.derivation.entries.Entry.{Entry}
use Rattle.spv_derivations.specs.derivation.Derivation.{fact_at, literal}
use Rattle.spv_derivations.specs.derivation.Derived.{is_truth, IsTrueTerm, IsFalseTerm}
use Rattle.spv_derivations.specs.derivation.Sides.{Pair}
use Rattle.spv_tableau_rules.specs.constraints.Relations.{AreIn}
use Rattle.spv_arithmetic_side.specs.farkas.Refuted.{AreOneAndZero}
use Rattle.spv_explanations.specs.congruence_side.Holding.{Holds, WasSoFar}
use Rattle.spv_explanations.specs.congruence_side.Telling.{equation_sides, literal_ties, Tie, ties}
use Rattle.spv_arithmetic_side.specs.constraint_rows.Standing.{HasSaid, IsStanding, readings, SaidBy, Sourced}
use Rattle.spv_share.specs.declared.relations.Claim.{Claim}
use Rattle.spv_share.specs.declared.relations.Noted.{Noted}
use Rattle.spv_share.specs.declared.relations.Related.{Related}
use Rattle.spv_share.specs.declared.both.Both.{Both}
use Rattle.spv_share.specs.declared.both.Level.{Level}
use Rattle.spv_share.specs.declared.both.Ends.{Ends}
use Rattle.spv_share.specs.Relations.{AreRelated, AreSaid, claim_of, may_say, sayable}

-- the terms TRUE, FALSE, 1 and 0
pub record AreEnds (a : Arena) (e : Ends) : Type 0 where
  pub truth : IsTrueTerm a e.truth
  pub falsity : IsFalseTerm a e.falsity
  pub numbers : AreOneAndZero a e.one e.zero

-- the literals that were told, in order
abbrev pub told : Both → List Literal
told b = literals b.trail.derivation

-- ---- equalities that the graph was told

-- why it was told that two terms are equal
pub data IsReason (a : Arena) (rels : List Related) (told : List Literal) (tie : Tie) : Type 0 where
  -- both are of sort Bool
  of_truths : is_truth a (tree a tie.left) ≡ true → is_truth a (tree a tie.right) ≡ true → IsReason a rels told tie
  -- they are the sides of an equation that was told
  of_literal : (place : ℕ) (l : Literal) (st : Pair) → slice_get told place ≡ Some l → l.part ≡ True → equation_sides a l.atom ≡ Some st → st.0 ≡ tie.left → st.1 ≡ tie.right → IsReason a rels told tie
  -- they are the sides of an equality among the relations
  of_relation : (row : ℕ) (r : Related) → slice_get rels row ≡ Some r → r.head ≡ Eq → r.left ≡ tie.left → r.right ≡ tie.right → IsReason a rels told tie

pub record AreReasoned (a : Arena) (rels : List Related) (told : List Literal) (ts : List Tie) : Type 0 where
  pub each : (place : ℕ) (tie : Tie) → slice_get ts place ≡ Some tie → tie.equal ≡ true → IsReason a rels told tie

-- one of these ties
pub record IsTie (ts : List Tie) (x : Tie) : Type 0 where
  pub place : ℕ
  pub there : slice_get ts place ≡ Some x

-- each tie of a literal that was told is among these
pub record AreTied (a : Arena) (truth falsity : TermId) (told : List Literal) (ts : List Tie) : Type 0 where
  pub each : (place : ℕ) (l : Literal) (i : ℕ) (x : Tie) → slice_get told place ≡ Some l → slice_get (literal_ties a truth falsity l.atom l.part) i ≡ Some x → IsTie ts x

-- ---- literals beside the derivation

-- what a literal says of a row, and the number of its fact
pub record IsNoted (a : Arena) (rels : List Related) (es : List Entry) (l : Literal) (n : Noted) : Type 0 where
  pub within : l.atom.0 < length a.nodes
  pub claim : n.claim ≡ claim_of rels l
  pub fact : fact_at a es n.fact ≡ Some (literal (tree a l.atom) l.part)

-- that of each literal that was told
pub record AreNoted (a : Arena) (rels : List Related) (es : List Entry) (ns : List Noted) : Type 0 where
  pub many : length ns ≡ length (literals es)
  pub each : (place : ℕ) (l : Literal) (n : Noted) → slice_get (literals es) place ≡ Some l → slice_get ns place ≡ Some n → IsNoted a rels es l n

-- ---- both sides

-- both sides stand on the facts of one derivation; all bounds that were ever asserted are those of literals of the relations
pub record IsSound (a : Arena) (b : Both) : Type 0 where
  pub trail : Holds a b.trail
  pub standing : IsStanding b.standing
  pub related : AreRelated a b.trail.graph.nodes b.relations.items b.standing.tableau.forms
  pub sourced : Sourced a (readings a b.trail.derivation) b.standing b.standing.tableau.bounds
  pub inside : AreIn a b.standing.tableau.forms
  pub numbers : AreOneAndZero a b.one b.zero
  pub asserted : HoldsAsserted (sayable b.relations.items b.standing.tableau.forms) b.standing.tableau
  -- and each row says one thing
  pub said : AreSaid b.relations.items b.standing.tableau.forms b.standing.tableau.bounds

-- and it is noted what each literal says of its row; the graph was told all that literals tell it, and no other equality than by literals, or of relations
pub record IsBoth (a : Arena) (b : Both) : Type 0 where
  pub sound : IsSound a b
  pub claims : AreNoted a b.relations.items b.trail.derivation b.claims.items
  pub tied : AreTied a b.trail.truth b.trail.falsity (told b) (ties b.trail.graph.told)
  pub reasons : AreReasoned a b.relations.items (told b) (ties b.trail.graph.told)

-- the terms, the relations and the rows are the same
pub record Stays (old new : Both) : Type 0 where
  pub nodes : new.trail.graph.nodes ≡ old.trail.graph.nodes
  pub terms : new.trail.graph.added ≡ old.trail.graph.added
  pub truth : new.trail.truth ≡ old.trail.truth
  pub falsity : new.trail.falsity ≡ old.trail.falsity
  pub relations : new.relations.items ≡ old.relations.items
  pub forms : new.standing.tableau.forms ≡ old.standing.tableau.forms
  pub pivots : new.standing.tableau.pivots ≡ old.standing.tableau.pivots

-- ---- going back

-- the first so many entries, facts, bounds and claims go together
pub record IsLevel (a : Arena) (b : Both) (l : Level) : Type 0 where
  pub trail : WasSoFar a b.trail l.trail.entries l.trail.facts
  pub mark : l.trail.mark ≡ l.trail.facts
  pub bounds_in : l.bounds ≤ length b.standing.tableau.bounds
  pub sourced : Sourced a (readings a (take l.trail.entries b.trail.derivation)) b.standing (take l.bounds b.standing.tableau.bounds)
  pub said : AreSaid b.relations.items b.standing.tableau.forms (take l.bounds b.standing.tableau.bounds)
  pub claims_in : l.claims ≤ length b.claims.items
  pub claims : AreNoted a b.relations.items (take l.trail.entries b.trail.derivation) (take l.claims b.claims.items)
  pub tied : AreTied a b.trail.truth b.trail.falsity (literals (take l.trail.entries b.trail.derivation)) (ties (take l.trail.facts b.trail.graph.told))
  pub reasons : AreReasoned a b.relations.items (literals (take l.trail.entries b.trail.derivation)) (ties (take l.trail.facts b.trail.graph.told))

-- a level that is no later than another one
pub record IsNoLater (l m : Level) : Type 0 where
  pub entries : l.trail.entries ≤ m.trail.entries
  pub facts : l.trail.facts ≤ m.trail.facts
  pub bounds : l.bounds ≤ m.bounds
  pub claims : l.claims ≤ m.claims

-- levels stay levels
abbrev pub KeepsLevels : Arena → Both → Both → Type 0
KeepsLevels a old new = (l : Level) → IsLevel a old l → IsLevel a new l

-- ---- claims

-- what a fact says of a row that is there
pub record IsClaimed (a : Arena) (b : Both) (c : Claim) (fact : ℕ) : Type 0 where
  pub row_in : c.row < length b.standing.tableau.forms
  pub said : SaidBy a (readings a b.trail.derivation) b.standing c.row c.saying fact
  pub among : HasSaid (sayable b.relations.items b.standing.tableau.forms) b.standing c.row c.saying
  pub may : (r : Related) → slice_get b.relations.items c.row ≡ Some r → may_say c.saying r.head ≡ true
