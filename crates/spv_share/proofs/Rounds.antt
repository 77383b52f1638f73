-- What came of looking at all equalities, and of a round.
use Rattle.std.proofs.Common.{◌≡◌, ℕ, List, length, sym, ap, subst, ◌<◌, ◌∙◌, Option, Some, None, IfNone, IfOk, Result, Ok, Err}
use Rattle.spv_logic.specs.Conditions.{Sequent}
use Rattle.spv_logic.specs.Terms.{Term}
use Rattle.spv_term.specs.Arena.{Arena}
use Rattle.spv_atoms.specs.declared.proofs.Step.{Step}
use Rattle.spv_proof_rules.specs.Accepted as accepted
use Rattle.spv_proof_rules.specs.Accepted.{walk}
use Rattle.spv_proof_rules.specs.Stand.{StepsIn}
use Rattle.spv_derivations.specs.derivation.Derivation.{asked, IsDerivation}
use Rattle.spv_derivations.specs.derivation.Steps.{AreTold, closing_steps_of, IsEnd}
use Rattle.spv_derivations.proofs.derivation.Literals.{are_told}
use Rattle.spv_derivations.proofs.branches.Within.{course_closes_in}
use Rattle.spv_explanations.specs.congruence_side.Holding.{HasNoClash}
use Rattle.spv_arithmetic_side.specs.declared.constraint_rows.standing.Standing.{Standing}
use Rattle.spv_share.specs.declared.both.Both.{Both}
use Rattle.spv_share.specs.declared.ending.Outcome.{Outcome}
use Rattle.spv_share.specs.declared.ending.Outcome.TheVariants as outcome
use Rattle.spv_share.specs.declared.searching.Sought.{Sought}
use Rattle.spv_share.specs.declared.searching.Sought.TheVariants.{Apart, Joined, Stopped}
use Rattle.spv_share.specs.Both.{IsBoth}
use Rattle.std.specs.Prelude.{slice_get}
use Rattle.spv_share.specs.declared.relations.Related.{Related}
use Rattle.spv_share.specs.States.{AreApart, Closes, count_open, GoesOn, HasClosed, IsAtPoint, IsLimit, IsOutcome, IsSought, IsStill}
use Rattle.spv_share.proofs.Closing.{one_less}
use Rattle.spv_share.proofs.Goings.{open_as}

-- none was forced
pub record IsAllApart (old new : Both) : Type 0 where
  pub still : IsStill old new
  pub apart : AreApart new (length new.relations.items)

pub sought_all : (old new : Both) (s : Sought) → s ≡ Apart → IsSought old new (length old.relations.items) s → IsAllApart old new
sought_all old new s e h =
    let P : Sought → Type 0 = λ k. IsSought old new (length old.relations.items) k in
    let both = subst P e h in
    record { still = both.0; apart = subst (λ (n : ℕ). AreApart new n) (ap length (sym both.0.relations)) both.1 }

pub sought_stopped : (old new : Both) (n : ℕ) (s : Sought) → s ≡ Stopped → IsSought old new n s → IsLimit new
sought_stopped old new n s e h = let P : Sought → Type 0 = λ k. IsSought old new n k in subst P e h

pub no_clash_as : (old new : Both) → new.trail.graph ≡ old.trail.graph → HasNoClash old.trail.graph → HasNoClash new.trail.graph
no_clash_as old new e h = subst HasNoClash (sym e) h

pub if_none : (b : Standing) (o : Option Outcome) → IfNone o (IsAtPoint b) → o ≡ None → IsAtPoint b
if_none b None h e = h
if_none b (Some x) h e = absurd (cc)

-- steps that close the path
pub closed_by : (a : Arena) (b : Both) (count : ℕ) (steps : List Step) (o : Outcome) (first : ℕ) (second : Option ℕ) → IsBoth a b → IsOutcome a b o → o ≡ outcome.Ended first second
    → ((a : Arena) (c : Sequent) (known : List Term) → length known ≡ count → IsDerivation a b.trail.derivation → AreTold a known b.trail.derivation → IsEnd a b.trail.derivation first second → walk (asked a c) known steps ≡ accepted.Closed)
    → steps ≡ closing_steps_of count b.trail.derivation first second → Closes a b count steps
closed_by a b count steps o first second h k e closes exact = record {
  ends = λ c known many are.
      let P : Outcome → Type 0 = λ x. IsOutcome a b x in
      closes a c known many h.sound.trail.derivation (are_told a known b.trail.derivation are) (subst P e k);
  within = subst (StepsIn a) (sym exact) (course_closes_in a b.trail.derivation count first second h.sound.trail.derivation);
}

-- ---- a round without an outcome

pub sought_closed : (old new : Both) (n : ℕ) (s : Sought) → s ≡ Joined → IsSought old new n s → HasClosed old new
sought_closed old new n s e h = let P : Sought → Type 0 = λ k. IsSought old new n k in subst P e h

closed_as : (old mid new : Both) → mid.trail.graph ≡ old.trail.graph → mid.relations.items ≡ old.relations.items → HasClosed mid new → HasClosed old new
closed_as old mid new graph relations h = record {
  row = h.row;
  relation = h.relation;
  there = ap (λ rs. slice_get rs h.row) (sym relations) ∙ h.there;
  was_open = open_as old mid h.relation graph h.was_open;
  is_closed = h.is_closed;
}

pub closed_none : {E : Type 0} (old mid new : Both) (r : Result (Option Outcome) E) → mid.trail.graph ≡ old.trail.graph → mid.relations.items ≡ old.relations.items → IfOk r (λ o. IfNone o (HasClosed mid new)) → IfOk r (λ o. IfNone o (HasClosed old new))
closed_none old mid new (Err e) graph relations h = tt
closed_none old mid new (Ok None) graph relations h = closed_as old mid new graph relations h
closed_none old mid new (Ok (Some o)) graph relations h = tt

-- fewer equalities are open
pub fewer_open : (a : Arena) (old new : Both) → GoesOn a old new → HasClosed old new → count_open new.trail.graph new.relations.items < count_open old.trail.graph old.relations.items
fewer_open a old new goes h =
    let less = one_less old.trail.graph new.trail.graph old.relations.items (λ row r at e. goes.closes row r at e) h.row h.relation h.there h.was_open h.is_closed in
    subst (λ (rs : List Related). count_open new.trail.graph rs < count_open old.trail.graph old.relations.items) (sym goes.relations) less

-- where there was no outcome
pub none_closed : (old new : Both) (o : Option Outcome) → IfNone o (HasClosed old new) → o ≡ None → HasClosed old new
none_closed old new None h e = h
none_closed old new (Some x) h e = absurd (cc)
