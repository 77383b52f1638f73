-- A graph that is told what a derivation has stays one.
use Rattle.std.proofs.Common.{◌≡◌, ℕ, true, List, [], Some, Result, Ok, Err, IfOk, OnOk, slice_get, subst}
use Rattle.spv_logic.specs.declared.conditions.TermId.{TermId}
use Rattle.spv_logic.specs.Terms.{Term}
use Rattle.spv_term.specs.Arena.{Arena}
use Rattle.spv_congruence.specs.declared.facts.Fact.{Fact}
use Rattle.spv_congruence.specs.Graph.{Graph, AreTerms}
use Rattle.spv_congruence.specs.Told.{AddsParts, IsOf, Joins, empty}
use Rattle.spv_derivations.specs.declared.derivation.entries.Entry.{Entry}
use Rattle.spv_derivations.specs.derivation.Derivation.{Gains}
use Rattle.spv_derivations.specs.derivation.Sides.{sides_at}
use Rattle.spv_explanations.specs.equalities.Laws.{StaysBacked}
use Rattle.spv_explanations.specs.equalities.Reasons.{MayReason}
use Rattle.spv_tests.specs.reasons_tests.Ready.{IsReady}

module _ (laws : StaysBacked) (a : Arena) where
  pub ready-none : IsReady a empty []
  ready-none = record { of = record { node = λ t n h. absurd (cc) }; derivation = record { follow = tt }; backed = laws.nothing a [] }

  pub ready-add : (es : List Entry) (t : TermId) (g h : Graph) → AddsParts a t g h → IsOf a h → IsReady a g es → IsReady a h es
  ready-add es t g h adds of r = record { of = of; derivation = r.derivation; backed = laws.added a es t g h adds r.backed }

  pub ready-join : (es : List Entry) (g h : Graph) (x : Fact) → Joins g x h → (x.equal ≡ true → sides_at a es x.why ≡ Some (x.left, x.right)) → IsReady a g es → IsReady a h es
  ready-join es g h x j sides r = record {
    of = record { node = λ t n is. r.of.node t n (subst (λ ns. slice_get ns t.0 ≡ Some (Some n)) j.nodes is) };
    derivation = r.derivation;
    backed = laws.told a es g h x j sides r.backed;
  }

  pub ready-gains : (g : Graph) (old new : List Entry) (n : ℕ) (t : Term) → Gains a old new n t → IsReady a g old → IsReady a g new
  ready-gains g old new n t gains r = record {
    of = r.of;
    derivation = gains.derivation;
    backed = laws.goes_on a g old new (record { more = gains.more; is = gains.goes_on }) r.backed;
  }

pub ready-reasons : (a : Arena) (g : Graph) (es : List Entry) → AreTerms g.nodes g.added → IsReady a g es → MayReason a g es
ready-reasons a g es terms r = record { of = r.of; terms = terms; derivation = r.derivation; backed = r.backed }

-- the answer of a callee, in one's own words
pub if_ok : {T E : Type 0} {P R : T → Type 0} (r : Result T E) → IfOk r P → ((t : T) → P t → R t) → IfOk r R
if_ok (Ok t) p go = go t p
if_ok (Err e) p go = tt

pub on_if : {T E : Type 0} {P : T → Type 0} {Q : Type 0} (r : Result T E) → IfOk r P → ((t : T) → P t → Q) → OnOk r Q
on_if (Ok t) p go = go t p
on_if (Err e) p go = tt
