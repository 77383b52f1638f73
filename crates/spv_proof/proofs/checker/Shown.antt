-- Steps that add a relation by sums.
use Rattle.std.proofs.Common.{◌≡◌, ℕ, Bool, true, false, ◌&&◌, List, refl, sym, ap, ◌∙◌, subst, Option, Some, None, IfSome}
use Rattle.spv_whole.specs.Fraction.{Fraction}
use Rattle.spv_logic.specs.declared.conditions.TermId.{TermId}
use Rattle.spv_logic.specs.Terms.{Term}
use Rattle.spv_logic.specs.Formulas.{equation}
use Rattle.spv_logic.specs.Conditions.{Sequent}
use Rattle.spv_term.specs.Arena.{Arena, tree}
use Rattle.spv_atoms.specs.declared.proofs.Relation.TheVariants.{Equal}
use Rattle.spv_proof_rules.specs.Effects.{adds_if}
use Rattle.spv_proof_rules.specs.Stops.{Halt}
use Rattle.spv_proof_rules.specs.Outcomes.{Trial, Does, Halts, does_unless, first_halt, only_where}
use Rattle.spv_proof.specs.declared.sums.reading.Claim.{Claim}
use Rattle.spv_proof.specs.sums.Readings.{number_in}
use Rattle.spv_proof.specs.sums.Added.{halt_of_claim, is_shown}
use Rattle.spv_proof.specs.declared.checker.stops.CheckStop.{CheckStop}
use Rattle.spv_proof.specs.declared.checker.stops.CheckStop.TheVariants.{Wide, Form, Size, Memory}
use Rattle.spv_proof.specs.checker.Ends.{halt_at, IsTrialStop}
use Rattle.spv_proof.specs.checker.Shown.{linear_trial, IsSumStop}

-- ---- two sums

-- what two sums come to, by whether the sides are numbers, what stops each sum and what it shows
abbrev two_sums : Bool → Bool → Option Halt → Option Halt → Bool → Bool → Term → Trial
two_sums n m h k r s t = does_unless (only_where (n && m) (first_halt h (only_where r k))) (adds_if (n && (m && (r && s))) t)

both_made : (n m : Bool) (h k : Option Halt) (r s : Bool) (t : Term) → (n && m) ≡ true → h ≡ None → r ≡ true → k ≡ None → two_sums n m h k r s t ≡ Does (adds_if s t)
both_made true true None None true s t numbers first shown second = refl
both_made true true None (Some x) true s t numbers first shown second = absurd (cc)
both_made true true None k false s t numbers first shown second = absurd (cc)
both_made true true (Some x) k r s t numbers first shown second = absurd (cc)
both_made true false h k r s t numbers first shown second = absurd (cc)
both_made false m h k r s t numbers first shown second = absurd (cc)

second_halts : (n m : Bool) (h k : Option Halt) (r s : Bool) (t : Term) (x : Halt) → (n && m) ≡ true → h ≡ None → r ≡ true → k ≡ Some x → two_sums n m h k r s t ≡ Halts x
second_halts true true None None true s t x numbers first shown second = absurd (cc)
second_halts true true None (Some y) true s t x numbers first shown second = let same : y ≡ x = cc in ap Halts same
second_halts true true None k false s t x numbers first shown second = absurd (cc)
second_halts true true (Some y) k r s t x numbers first shown second = absurd (cc)
second_halts true false h k r s t x numbers first shown second = absurd (cc)
second_halts false m h k r s t x numbers first shown second = absurd (cc)

-- ---- an equation

module _ (a : Arena) (c : Sequent) (facts : List TermId) (l r : TermId) (first second : List (Fraction × ℕ)) where
  abbrev claim : Claim
  claim = record { left = l; right = r }

  abbrev back : Claim
  back = record { left = r; right = l }

  abbrev shown : Arena → Term
  shown b = equation (tree b l) (tree b r)

  abbrev trial : Trial
  trial = linear_trial a c facts (Equal l r) first second

  -- the first sum shows its direction
  pub record FirstShows (n b : Bool) : Type 0 where
    pub are_numbers : n ≡ (number_in a (tree a l) && number_in a (tree a r))
    pub numbers : n ≡ true
    pub value : b ≡ is_shown a facts claim first
    pub is_shown : b ≡ true
    pub unstopped : halt_of_claim a facts claim first a.most (shown a) ≡ None

  module _ (n b : Bool) (one : FirstShows n b) where
    numbered : (number_in a (tree a l) && number_in a (tree a r)) ≡ true
    numbered = sym one.are_numbers ∙ one.numbers

    shows_first : is_shown a facts claim first ≡ true
    shows_first = sym one.value ∙ one.is_shown

    here-comes : (s : Bool) → s ≡ is_shown a facts back second → halt_of_claim a facts back second a.most (shown a) ≡ None → trial ≡ Does (adds_if s (shown a))
    here-comes s is none =
        both_made (number_in a (tree a l)) (number_in a (tree a r)) (halt_of_claim a facts claim first a.most (shown a)) (halt_of_claim a facts back second a.most (shown a)) (is_shown a facts claim first) (is_shown a facts back second) (shown a)
        numbered one.unstopped shows_first none
        ∙ ap (λ s. Does (adds_if s (shown a))) (sym is)

    pub equal_comes : (now : Arena) → now ≡ a → (s : Bool) → s ≡ is_shown now facts back second → halt_of_claim now facts back second now.most (shown now) ≡ None → trial ≡ Does (adds_if s (shown a))
    equal_comes now same s is none =
        here-comes s (is ∙ ap (λ w. is_shown w facts back second) same) (ap (λ w. halt_of_claim w facts back second w.most (shown w)) (sym same) ∙ none)

    here-stops : (new : Arena) (e : CheckStop) → IsSumStop a new e (halt_of_claim a facts back second a.most (shown a)) → IsTrialStop a new e trial
    here-stops new e stop = record { told = by_stop e stop; form = stop.form; unchanged = stop.unchanged }
      where
        halted : (x : Halt) → halt_of_claim a facts back second a.most (shown a) ≡ Some x → trial ≡ Halts x
        halted x is =
            second_halts (number_in a (tree a l)) (number_in a (tree a r)) (halt_of_claim a facts claim first a.most (shown a)) (halt_of_claim a facts back second a.most (shown a)) (is_shown a facts claim first) (is_shown a facts back second) (shown a) x
            numbered one.unstopped shows_first is

        by_stop : (e : CheckStop) → IsSumStop a new e (halt_of_claim a facts back second a.most (shown a)) → IfSome (halt_at new e) (λ h. trial ≡ Halts h)
        by_stop (Wide op x y) s = halted _ s.told
        by_stop (Form t) s = halted _ s.told
        by_stop Size s = halted _ s.told
        by_stop Memory s = tt

    pub equal_stops : (now new : Arena) (e : CheckStop) → now ≡ a → IsSumStop now new e (halt_of_claim now facts back second now.most (shown now)) → IsTrialStop a new e trial
    equal_stops now new e same stop = here-stops new e (subst (λ (w : Arena). IsSumStop w new e (halt_of_claim w facts back second w.most (shown w))) same stop)
