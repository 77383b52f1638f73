-- The sayings of all facts, one after the other.
use Rattle.std.proofs.Common.{◌≡◌, ◌<◌, ℕ, ◌+◌, Bool, true, false, ◌||◌, List, [], length, drop, get_or, refl, sym, ap, ◌∙◌, arith}
use Rattle.std.proofs.lemmas.List.{at_drop_more}
use Rattle.std.proofs.lemmas.Option.{slice_get-get_or}
use Rattle.spv_logic.specs.Terms.{Term, term_eq}
use Rattle.spv_term.specs.Arena.{Arena, IsArena}
use Rattle.spv_proof_rules.specs.Evaluation.{cites}
use Rattle.spv_assignments.specs.declared.partial_assignment.facts.Known.{Known}
use Rattle.spv_assignments.specs.partial_assignment.Facts.{fact_of, facts_of}
use Rattle.spv_assignments.specs.declared.assignment_vector.sayings.RowConstraint.{RowConstraint}
use Rattle.spv_assignments.specs.declared.assignment_vector.sayings.Sayings.{Sayings}
use Rattle.spv_assignments.specs.assignment_vector.Sayings.{meaning, Fits, IsRowConstraint, same_saying, says, IsEmpty, IsOfTerms, IsWithin, Adds, AreSaid, AreThere}
use Rattle.spv_assignments.specs.declared.assignment_vector.sayings.RowConstraint.TheVariants.{Affirms, Denies, Orders}
use Rattle.spv_assignments.proofs.assignment_vector.Meanings.{same_meaning}

or_false : (b : Bool) → b ≡ (b || false)
or_false true = refl
or_false false = refl

-- ---- all facts

-- what is said so far, and what the rest of the facts says
pub record SaidSoFar (a : Arena) (facts rest : List Term) (given : Sayings) : Type 0 where
  pub each : (s : RowConstraint) → Fits a s → (says given s || cites rest (meaning a s)) ≡ cites facts (meaning a s)

-- and it is of the terms of an arena that something may be said
pub record SaidOf (a : Arena) (facts rest : List Term) (given : Sayings) : Type 0 where
  pub so_far : SaidSoFar a facts rest given
  pub count : IsOfTerms (length a.nodes) given

-- what is said of terms of the arena may be said
pub within : (a : Arena) (given : Sayings) (s : RowConstraint) → IsOfTerms (length a.nodes) given → Fits a s → IsWithin given s
within a given (Affirms t) count h = let inside : t.0 < length a.nodes = h.0 in omega (arith, inside, count.affirmed)
within a given (Denies t) count h = let inside : t.0 < length a.nodes = h in omega (arith, inside, count.denied)
within a given (Orders s t) count h = tt

or_more : (x y z : Bool) → ((x || y) || z) ≡ (x || (y || z))
or_more true y z = refl
or_more false y z = refl

pub said_none : (a : Arena) (facts : List Term) (given : Sayings) → IsEmpty given → SaidSoFar a facts facts given
said_none a facts given empty = record { each = λ s h. ap (λ b. b || cites facts (meaning a s)) (empty.none s) }

pub said_next : (a : Arena) → IsArena a → (known : List Known) (old new : Sayings) (i : ℕ) (d : Known) (s : RowConstraint) → i < length known → SaidSoFar a (facts_of a known) (facts_of a (drop i known)) old
    → IsRowConstraint a (fact_of a (get_or known i d)) s → Adds s old new → SaidSoFar a (facts_of a known) (facts_of a (drop (i + 1) known)) new
said_next a ok known old new i d s below so is added = record { each = each }
  where
    each : (u : RowConstraint) → Fits a u → (says new u || cites (facts_of a (drop (i + 1) known)) (meaning a u)) ≡ cites (facts_of a known) (meaning a u)
    each u h =
        ap (λ b. b || cites (facts_of a (drop (i + 1) known)) (meaning a u)) (added.each u)
        ∙ (or_more (says old u) (same_saying u s) (cites (facts_of a (drop (i + 1) known)) (meaning a u))
        ∙ (ap (λ b. says old u || (b || cites (facts_of a (drop (i + 1) known)) (meaning a u))) (same_meaning a ok u s h is.fits ∙ ap (term_eq (meaning a u)) is.is)
        ∙ (ap (λ b. says old u || b) (sym (at_drop_more (λ (ks : List Known). cites (facts_of a ks) (meaning a u)) known i d below)) ∙ so.each u h)))

pub said_all : (a : Arena) (known : List Known) (given : Sayings) (left : List Known) → left ≡ [] → SaidSoFar a (facts_of a known) (facts_of a left) given → AreSaid a (facts_of a known) given
said_all a known given left e so = record {
  each = λ s h. or_false (says given s) ∙ (ap (λ (ks : List Known). says given s || cites (facts_of a ks) (meaning a s)) (sym e) ∙ so.each s h);
}

-- the term of a fact is there
pub there_at : (a : Arena) (known : List Known) (i : ℕ) (d : Known) → AreThere a known → i < length known → (get_or known i d).term.0 < length a.nodes
there_at a known i d there below = there.each i (get_or known i d) (slice_get-get_or known i d below)
