-- Steps in the other order, and entries that come behind others.
use Rattle.std.proofs.Common.{◌≡◌, ℕ, List, [], ◌∷◌, ◌++◌, take, length, refl, sym, ap, ◌∙◌, Option}
use Rattle.std.proofs.lemmas.List.{append-nil, append_assoc}
use Rattle.std.proofs.Math.Seq.{take-append_seam}
use Rattle.spv_atoms.specs.declared.proofs.Step.{Step}
use Rattle.spv_derivations.specs.declared.derivation.entries.Entry.{Entry}
use Rattle.spv_derivations.specs.declared.derivation.entries.Entry.TheVariants.{Derived}
use Rattle.spv_atoms.specs.declared.proofs.Step.TheVariants.{Contra}
use Rattle.spv_derivations.specs.derivation.Steps.{closing_steps_of}
use Rattle.spv_derivations.specs.branches.Paths.{as_entries, turned, IsClosing, IsGrown}

pub turned-push : (steps : List Step) (s : Step) → turned (steps ++ s ∷ []) ≡ s ∷ turned steps
turned-push [] s = refl
turned-push (x ∷ steps) s = ap (λ xs. xs ++ x ∷ []) (turned-push steps s)

pub turned-turned : (steps : List Step) → turned (turned steps) ≡ steps
turned-turned [] = refl
turned-turned (s ∷ steps) = turned-push (turned steps) s ∙ ap (λ xs. s ∷ xs) (turned-turned steps)

-- ---- turning

-- what was put, and what is left in the other order
pub record Turning (done left all : List Step) : Type 0 where
  pub same : done ++ turned left ≡ turned all

pub turning_starts : (all left done : List Step) → left ≡ all → done ≡ [] → Turning done left all
turning_starts all left done e f = record { same = ap (λ xs. xs ++ turned left) f ∙ ap turned e }

pub turning_on : (done more left popped all : List Step) (s : Step) → Turning done left all → left ≡ popped ++ s ∷ [] → more ≡ done ++ s ∷ [] → Turning more popped all
turning_on done more left popped all s h e f = record {
  same = ap (λ xs. xs ++ turned popped) f ∙ (append_assoc done (s ∷ []) (turned popped) ∙ (ap (λ xs. done ++ xs) (sym (turned-push popped s) ∙ ap turned (sym e)) ∙ h.same));
}

pub turning_ends : (done left all : List Step) → Turning done left all → left ≡ [] → done ≡ turned all
turning_ends done left all h e = sym (append-nil done) ∙ (ap (λ xs. done ++ turned xs) (sym e) ∙ h.same)

-- ---- putting behind

pub record Putting (start now : List Entry) (left all : List Step) : Type 0 where
  pub grown : IsGrown start now
  pub same : now ++ as_entries (turned left) ≡ start ++ as_entries (turned all)

pub putting_starts : (start : List Entry) (all left : List Step) → left ≡ all → Putting start start left all
putting_starts start all left e = record { grown = record { more = []; is = sym (append-nil start) }; same = ap (λ xs. start ++ as_entries (turned xs)) e }

pub grown_on : (start now next : List Entry) (e : Entry) → IsGrown start now → next ≡ now ++ e ∷ [] → IsGrown start next
grown_on start now next e h f = record { more = h.more ++ e ∷ []; is = f ∙ (ap (λ xs. xs ++ e ∷ []) h.is ∙ append_assoc start h.more (e ∷ [])) }

pub putting_on : (start now next : List Entry) (left popped all : List Step) (s : Step) → Putting start now left all → left ≡ popped ++ s ∷ [] → next ≡ now ++ Derived s ∷ [] → Putting start next popped all
putting_on start now next left popped all s h e f = record {
  grown = grown_on start now next (Derived s) h.grown f;
  same =
      ap (λ xs. xs ++ as_entries (turned popped)) f
      ∙ (append_assoc now (Derived s ∷ []) (as_entries (turned popped)) ∙ (ap (λ xs. now ++ as_entries xs) (sym (turned-push popped s) ∙ ap turned (sym e)) ∙ h.same));
}

pub putting_ends : (start now : List Entry) (left all : List Step) → Putting start now left all → left ≡ [] → now ≡ start ++ as_entries (turned all)
putting_ends start now left all h e = sym (append-nil now) ∙ (ap (λ xs. now ++ as_entries (turned xs)) (sym e) ∙ h.same)

-- ---- back

pub back : (old new after : List Entry) (count : ℕ) → IsGrown old new → count ≡ length old → after ≡ take count new → after ≡ old
back old new after count h e f = f ∙ (ap (λ n. take n new) e ∙ (ap (take (length old)) h.is ∙ take-append_seam old h.more))

-- ---- the end

-- the steps before the end, turned twice, come behind the facts
pub closing_is : (es now : List Entry) (steps front other : List Step) (first : ℕ) (second : Option ℕ) (count : ℕ) (closing : List Step) → steps ≡ front ++ Contra first second ∷ [] → other ≡ turned front → now ≡ es ++ as_entries (turned other)
    → closing ≡ closing_steps_of count now first second → IsClosing es steps count closing
closing_is es now steps front other first second count closing e f g h = record {
  ends = record { front = front; first = first; second = second; is = e };
  is = h ∙ ap (λ xs. closing_steps_of count xs first second) (g ∙ ap (λ xs. es ++ as_entries xs) (ap turned f ∙ turned-turned front));
}
