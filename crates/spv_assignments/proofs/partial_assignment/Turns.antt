-- The questions one by one.
use native.Mathlib.Numerals.{unary_clauses}
use Rattle.std.proofs.Common.{◌≡◌, ◌≢◌, ℕ, zero, suc, ◌<◌, ◌≤◌, ◌+◌, ◌-◌, Bool, true, false, nat_eq, List, [], ◌∷◌, take, drop, length, get_or, slice_get, refl, sym, ap, subst, ◌∙◌, Option, Some, None, inl, inr, ◌⊎◌, arith}
use Rattle.std.proofs.lemmas.Bool.Decides.{eqb_tells}
use Rattle.std.proofs.lemmas.Option.{slice_get-get_or, slice_get_within, same_Some}
use Rattle.spv_logic.specs.declared.conditions.TermId.{TermId}
use Rattle.spv_logic.specs.Terms.{Term}
use Rattle.std.specs.Prelude.{Ok, Err, Result, IfOk, IfNone, IfSome}
use Rattle.std.specs.declared.alloc.AllocError.{AllocError}
use Rattle.spv_term.specs.Arena.{Arena, IsArena, AllBelow}
use Rattle.spv_term.proofs.ListLemmas.{slice_get-take}
use Rattle.spv_assignments.specs.kleene.Passes.{at, AreQuiet, IsLoud, ClashesListed, NoneClashesListed}
use Rattle.spv_assignments.specs.declared.partial_assignment.following.Following.{Following}
use Rattle.spv_assignments.specs.declared.partial_assignment.following.Following.TheVariants.{Nothing, Question, Clash}
use Rattle.spv_assignments.specs.partial_assignment.Following.{AreListed, IsKnowledge, MayBeEither, Contradicts}
use Rattle.spv_assignments.specs.partial_assignment.Says.{IsClash, FollowsAmong, Says}
use Rattle.spv_assignments.proofs.partial_assignment.Places.{loud_contradicts, listed_contradicts, listed_has, cores_quiet, values_agree}

-- the first questions may have either truth, whatever the facts are whose values are listed
pub record AreEither (a : Arena) (direct cores all : List (Option Bool)) (questions : List TermId) (k : ℕ) : Type 0 where
  pub each : (facts : List Term) → IsKnowledge a facts → AreListed a facts direct cores all → AreQuiet a direct → (i : ℕ) (t : TermId) → i < k → slice_get questions i ≡ Some t → MayBeEither a facts t

pub none_either : (a : Arena) (direct cores all : List (Option Bool)) (questions : List TermId) → AreEither a direct cores all questions 0
none_either a direct cores all questions = record { each = λ facts is lists quiet i t h e. absurd (omega (arith, h)) }

pub more_either : (a : Arena) (direct cores all : List (Option Bool)) (questions : List TermId) (k : ℕ) (d : TermId) → AreEither a direct cores all questions k → k < length questions
    → ((facts : List Term) → IsKnowledge a facts → AreListed a facts direct cores all → AreQuiet a direct → MayBeEither a facts (get_or questions k d)) → AreEither a direct cores all questions (k + 1)
more_either a direct cores all questions k d so_far inside now = record { each = λ facts is lists quiet i t h e. by_case facts is lists quiet i t h e (eqb_tells i k) }
  where
    by_case : (facts : List Term) → IsKnowledge a facts → AreListed a facts direct cores all → AreQuiet a direct → (i : ℕ) (t : TermId) → i < k + 1 → slice_get questions i ≡ Some t
        → ((nat_eq i k ≡ true) × (i ≡ k)) ⊎ ((nat_eq i k ≡ false) × (i ≢ k)) → MayBeEither a facts t
    by_case facts is lists quiet i t h e (inl same) =
        let this : get_or questions k d ≡ t = same_Some (get_or questions k d) t (sym (slice_get-get_or questions k d inside) ∙ (sym (ap (slice_get questions) same.1) ∙ e)) in
        subst (λ (x : TermId). MayBeEither a facts x) this (now facts is lists quiet)
    by_case facts is lists quiet i t h e (inr other) =
        let apart : i ≢ k = other.1 in
        so_far.each facts is lists quiet i t (omega (arith, h, apart)) e

pub all_either : (a : Arena) (direct cores all : List (Option Bool)) (questions : List TermId) (k : ℕ) → AreEither a direct cores all questions k → length questions ≤ k
    → (facts : List Term) → IsKnowledge a facts → AreListed a facts direct cores all → AreQuiet a direct → (i : ℕ) (t : TermId) → slice_get questions i ≡ Some t → MayBeEither a facts t
all_either a direct cores all questions k either end facts is lists quiet i t e =
    let inside : i < length questions = slice_get_within questions i t e in
    either.each facts is lists quiet i t (omega (arith, inside, end)) e

-- ---- from a place on, and then before it

dropped : {X : Type 0} (k i : ℕ) (xs : List X) (x : X) → slice_get (drop k xs) i ≡ Some x → slice_get xs (k + i) ≡ Some x
dropped zero i xs x e = let same : i ≡ 0 + i = omega arith in subst (λ n. slice_get xs n ≡ Some x) same e
dropped (suc k) i [] x e = absurd cc
dropped (suc k) i (y ∷ xs) x e = let same : suc (k + i) ≡ suc k + i = omega arith in subst (λ n. slice_get (y ∷ xs) n ≡ Some x) same (dropped k i xs x e)

there_behind : {X : Type 0} (k i : ℕ) (xs : List X) (x : X) → k ≤ i → slice_get xs i ≡ Some x → slice_get (drop k xs) (i - k) ≡ Some x
there_behind zero i xs x h e = let same : i ≡ i - 0 = omega arith in subst (λ n. slice_get xs n ≡ Some x) same e
there_behind (suc k) zero xs x h e = absurd (omega (arith, h))
there_behind (suc k) (suc i) [] x h e = absurd cc
there_behind (suc k) (suc i) (y ∷ xs) x h e = let same : i - k ≡ suc i - suc k = omega arith in subst (λ n. slice_get (drop k xs) n ≡ Some x) same (there_behind k i xs x (omega (arith, h)) e)

taken : {X : Type 0} (k i : ℕ) (xs : List X) (x : X) → slice_get (take k xs) i ≡ Some x → slice_get xs i ≡ Some x
taken zero i xs x e = absurd cc
taken (suc k) i [] x e = e
taken (suc k) zero (y ∷ xs) x e = e
taken (suc k) (suc i) (y ∷ xs) x e = taken k i xs x e

before_or_behind : (i k : ℕ) → (i < k) ⊎ (k ≤ i)
before_or_behind i zero = inr (omega arith)
before_or_behind zero (suc k) = inl (omega arith)
before_or_behind (suc i) (suc k) = step (before_or_behind i k)
  where
    step : (i < k) ⊎ (k ≤ i) → (suc i < suc k) ⊎ (suc k ≤ suc i)
    step (inl h) = inl (omega (arith, h))
    step (inr h) = inr (omega (arith, h))

below_drop : (n k : ℕ) (ts : List TermId) → AllBelow n ts → AllBelow n (drop k ts)
below_drop n zero ts h = h
below_drop n (suc k) [] h = tt
below_drop n (suc k) (t ∷ ts) h = below_drop n k ts h.1

pub below_take : (n k : ℕ) (ts : List TermId) → AllBelow n ts → AllBelow n (take k ts)
below_take n zero ts h = tt
below_take n (suc k) [] h = tt
below_take n (suc k) (t ∷ ts) h = (h.0, below_take n k ts h.1)

pub below_behind : (n k m : ℕ) (ts : List TermId) → AllBelow n ts → AllBelow n (take m (drop k ts))
below_behind n k m ts h = below_take n m (drop k ts) (below_drop n k ts h)

module _ (a : Arena) (facts : List Term) (questions : List TermId) (k : ℕ) where
  abbrev behind : List TermId
  behind = take (length questions - k) (drop k questions)

  -- what follows behind a place follows
  pub behind_follows : (f : Following) → (f ≡ Nothing → ⊥) → FollowsAmong a facts behind f → FollowsAmong a facts questions f
  behind_follows Nothing other h = absurd (other refl)
  behind_follows (Question t b) other h = (record { place = k + h.0.place; is = dropped k h.0.place questions t (taken (length questions - k) h.0.place (drop k questions) t h.0.is) }, h.1)
  behind_follows (Clash t b) other h = absurd h

  -- where nothing does, what follows before it follows
  pub before_follows : FollowsAmong a facts behind Nothing → (f : Following) → FollowsAmong a facts (take k questions) f → FollowsAmong a facts questions f
  before_follows none Nothing h = λ i t e. by_case i t e (before_or_behind i k)
    where
      by_case : (i : ℕ) (t : TermId) → slice_get questions i ≡ Some t → (i < k) ⊎ (k ≤ i) → MayBeEither a facts t
      by_case i t e (inl below) = h i t (slice_get-take questions i k below ∙ e)
      by_case i t e (inr above) =
          let inside : i < length questions = slice_get_within questions i t e in
          none (i - k) t (slice_get-take (drop k questions) (i - k) (length questions - k) (omega (arith, inside, above)) ∙ there_behind k i questions t above e)
  before_follows none (Question t b) h = (record { place = h.0.place; is = taken k h.0.place questions t h.0.is }, h.1)
  before_follows none (Clash t b) h = absurd h

-- the same of an answer, whatever the facts are
pub before_answers : {E : Type 0} (a : Arena) (direct cores all : List (Option Bool)) (questions : List TermId) (k : ℕ)
    → ((facts : List Term) → IsKnowledge a facts → AreListed a facts direct cores all → AreQuiet a direct → FollowsAmong a facts (take (length questions - k) (drop k questions)) Nothing)
    → (r : Result Following E) → IfOk r (λ f. (facts : List Term) → IsKnowledge a facts → AreListed a facts direct cores all → AreQuiet a direct → FollowsAmong a facts (take k questions) f)
    → IfOk r (λ f. (facts : List Term) → IsKnowledge a facts → AreListed a facts direct cores all → AreQuiet a direct → FollowsAmong a facts questions f)
before_answers a direct cores all questions k none (Ok f) h = λ facts is lists quiet. before_follows a facts questions k (none facts is lists quiet) f (h facts is lists quiet)
before_answers a direct cores all questions k none (Err e) h = h

-- ---- what the whole says

module _ (a : Arena) (ok : IsArena a) (facts : List Term) (is : IsKnowledge a facts) (direct cores all : List (Option Bool)) (lists : AreListed a facts direct cores all) (questions : List TermId) where
  -- a term that clashes by itself, or without a supposition
  pub says_loud : (listed : List (Option Bool)) → listed ≡ direct → (t : TermId) → IsLoud a listed t → (f : Following) → IsClash listed t f → Says a facts questions f
  says_loud listed e t loud Nothing h = absurd h
  says_loud listed e t loud (Question u b) h = absurd h
  says_loud listed e t loud (Clash u b) h =
      subst (λ (x : TermId). Contradicts a facts x b) (sym h.0)
      (loud_contradicts a ok facts is.literals is.over direct cores all lists t (subst (λ (xs : List (Option Bool)). IsLoud a xs t) e loud) b (sym (ap (λ (x : TermId). at direct x.0) h.0) ∙ (sym (ap (λ xs. at xs u.0) e) ∙ h.1)))

  pub says_listed : (direct_slice cores_slice : List (Option Bool)) → direct_slice ≡ direct → cores_slice ≡ cores → AreQuiet a direct_slice → (t : TermId) → ClashesListed a cores_slice t → (f : Following) → IsClash direct_slice t f → Says a facts questions f
  says_listed direct_slice cores_slice e g quiet t clash Nothing h = absurd h
  says_listed direct_slice cores_slice e g quiet t clash (Question u b) h = absurd h
  says_listed direct_slice cores_slice e g quiet t clash (Clash u b) h =
      subst (λ (x : TermId). Contradicts a facts x b) (sym h.0)
      (listed_contradicts a ok facts is.literals is.over direct cores all lists (subst (λ (xs : List (Option Bool)). AreQuiet a xs) e quiet) t (subst (λ (xs : List (Option Bool)). ClashesListed a xs t) g clash) b
      (sym (ap (λ (x : TermId). at direct x.0) h.0) ∙ (sym (ap (λ xs. at xs u.0) e) ∙ h.1)))

  pub has_truth : (direct_slice cores_slice : List (Option Bool)) → direct_slice ≡ direct → cores_slice ≡ cores → AreQuiet a direct_slice → (t : TermId) → ClashesListed a cores_slice t → at direct_slice t.0 ≡ None → ⊥
  has_truth direct_slice cores_slice e g quiet t clash h =
      listed_has a ok facts is.literals is.over direct cores all lists (subst (λ (xs : List (Option Bool)). AreQuiet a xs) e quiet) t (subst (λ (xs : List (Option Bool)). ClashesListed a xs t) g clash) (sym (ap (λ xs. at xs t.0) e) ∙ h)

  pub quiet_cores : (direct_slice cores_slice : List (Option Bool)) → direct_slice ≡ direct → cores_slice ≡ cores → AreQuiet a direct_slice → AreQuiet a cores_slice
  quiet_cores direct_slice cores_slice e g quiet =
      subst (λ (xs : List (Option Bool)). AreQuiet a xs) (sym g) (cores_quiet a ok facts is.literals is.over direct cores all lists (subst (λ (xs : List (Option Bool)). AreQuiet a xs) e quiet))

  says_among : AreQuiet a direct → NoneClashesListed a cores → (f : Following) → FollowsAmong a facts questions f → Says a facts questions f
  says_among quiet none Nothing h = record {
    agree = values_agree a ok facts is.literals is.over direct cores all lists quiet none;
    still = h;
  }
  says_among quiet none (Question t b) h = h
  says_among quiet none (Clash t b) h = absurd h

  pub says_end : (direct_slice cores_slice : List (Option Bool)) → direct_slice ≡ direct → cores_slice ≡ cores → AreQuiet a direct_slice → NoneClashesListed a cores_slice → (r : Result Following AllocError)
      → IfOk r (λ f. (facts : List Term) → IsKnowledge a facts → AreListed a facts direct cores all → AreQuiet a direct → FollowsAmong a facts questions f) → IfOk r (Says a facts questions)
  says_end direct_slice cores_slice e g quiet none (Ok f) h =
      let q : AreQuiet a direct = subst (λ (xs : List (Option Bool)). AreQuiet a xs) e quiet in
      says_among q (subst (λ (xs : List (Option Bool)). NoneClashesListed a xs) g none) f (h facts is lists q)
  says_end direct_slice cores_slice e g quiet none (Err x) h = h

-- what a look-up that found nothing tells
pub of_none : {Q : Type 0} (o : Option TermId) → o ≡ None → IfNone o Q → Q
of_none None e h = h
of_none (Some t) e h = absurd cc

pub of_some : (P : TermId → Type 0) (o : Option TermId) (t : TermId) → o ≡ Some t → IfSome o P → P t
of_some P (Some u) t e h = subst P (same_Some u t e) h
of_some P None t e h = absurd cc
