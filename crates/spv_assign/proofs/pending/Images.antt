-- Steps with pairs put in: their conditions are those of the definition, and nothing but parts of their terms is made.
use Rattle.std.proofs.Common.{◌≡◌, ℕ, zero, suc, ◌<◌, ◌≤◌, Bool, true, false, ◌||◌, List, [], ◌∷◌, ◌++◌, map, length, refl, sym, ap, ◌∙◌, subst, arith}
use Rattle.std.specs.List.{list_any}
use Rattle.std.proofs.lemmas.Bool.{or_left, or_right}
use Rattle.std.proofs.lemmas.List.{map-append, length-map}
use Rattle.std.proofs.lemmas.List.Folds.{list_any-append}
use Rattle.spv_logic.specs.declared.conditions.TermId.{TermId}
use Rattle.spv_logic.specs.declared.types.Sort.{Sort}
use Rattle.spv_logic.specs.Terms.{Term}
use Rattle.spv_logic.specs.Substitution.{Replacement, substitute}
use Rattle.spv_logic.specs.Conditions as logic
use Rattle.spv_term.specs.declared.nodes.Condition.{Condition}
use Rattle.spv_term.specs.Arena.{Arena, AllBelow, tree, sort_at, sorts_at}
use Rattle.spv_term.specs.substitution.Images.{pairs_at, substituted}
use Rattle.spv_term.specs.substitution.Parts.{AddsParts, LacksPart, is_part, is_part_of}
use Rattle.spv_meaning.specs.Before as before
use Rattle.spv_assign.specs.declared.pending.steps.Step.{Step}
use Rattle.spv_assign.specs.declared.pending.steps.Step.TheVariants.{Goal, Given}
use Rattle.spv_assign.specs.Conditions.{condition_of, conditions_of, AreIn, sorts_of, terms_in, all_terms_in, pairs_of, ids_in, all_ids_in, with_given}
use Rattle.spv_assign.specs.pending.Steps.{at_first, conditions_in, AreSteps, id_of, all_with_id}
use Rattle.spv_assign.proofs.Replacing.{map_twice, replacing-is}
use Rattle.spv_assign.proofs.pending.InFront.{length-at_first, map-at_first}

-- ---- as many as before

pub as_many : (steps : List Step) (ids : List TermId) → length ids ≡ length steps → length (conditions_in (all_with_id steps ids)) ≡ length (conditions_in steps)
as_many [] ids e = refl
as_many (step ∷ steps) [] e = absurd (cc)
as_many (Goal t o ∷ steps) (u ∷ ids) e = ap suc (as_many steps ids (cc))
as_many (Given h ∷ steps) (u ∷ ids) e =
    length-at_first (with_given u) h.count (conditions_in (all_with_id steps ids)) ∙ (as_many steps ids (cc) ∙ sym (length-at_first (with_given h.term) h.count (conditions_in steps)))

pub AreSteps-with_id : (steps : List Step) (ids : List TermId) → length ids ≡ length steps → AreSteps steps → AreSteps (all_with_id steps ids)
AreSteps-with_id [] ids e h = tt
AreSteps-with_id (step ∷ steps) [] e h = absurd (cc)
AreSteps-with_id (Goal t o ∷ steps) (u ∷ ids) e h = AreSteps-with_id steps ids (cc) h
AreSteps-with_id (Given g ∷ steps) (u ∷ ids) e h =
    let same : length ids ≡ length steps = cc in
    (h.0, subst (λ n. g.count ≤ n) (sym (as_many steps ids same)) h.1, AreSteps-with_id steps ids same h.2)

-- ---- what is shown of the terms

module _ (old new : Arena) where
  -- sorts that stay
  abbrev sort_first : Sort → List Sort → List Sort
  sort_first s all = s ∷ all

  pub steps_sorts : (steps : List Step) (ids : List TermId) → sorts_at new ids ≡ sorts_at old (map id_of steps) → map (sorts_of new) (conditions_in (all_with_id steps ids)) ≡ map (sorts_of old) (conditions_in steps)
  steps_sorts [] ids e = refl
  steps_sorts (step ∷ steps) [] e = absurd (cc)
  steps_sorts (Goal t o ∷ steps) (u ∷ ids) e =
      let first : sort_at new u ≡ sort_at old t = cc in
      let others : sorts_at new ids ≡ sorts_at old (map id_of steps) = cc in
      let behind = steps_sorts steps ids others in
      λ i. (first i ∷ []) ∷ behind i
  steps_sorts (Given h ∷ steps) (u ∷ ids) e =
      let first : sort_at new u ≡ sort_at old h.term = cc in
      let others : sorts_at new ids ≡ sorts_at old (map id_of steps) = cc in
      let behind = steps_sorts steps ids others in
      map-at_first (with_given u) (sorts_of new) (sort_first (sort_at new u)) (λ c. refl) h.count (conditions_in (all_with_id steps ids))
      ∙ ((λ i. at_first (sort_first (first i)) h.count (behind i))
      ∙ sym (map-at_first (with_given h.term) (sorts_of old) (sort_first (sort_at old h.term)) (λ c. refl) h.count (conditions_in steps)))

  module _ (by : Replacement) where
    abbrev claim : logic.Condition → logic.Condition
    claim c = before.with_claim (before.substitute_in by c.claim) c

    abbrev image : TermId → Term
    image t = substitute by (tree old t)

    pub steps_claim : (steps : List Step) (ids : List TermId) → map (tree new) ids ≡ map image (map id_of steps)
        → conditions_of new (conditions_in (all_with_id steps ids)) ≡ map claim (conditions_of old (conditions_in steps))
    steps_claim [] ids e = refl
    steps_claim (step ∷ steps) [] e = absurd (cc)
    steps_claim (Goal t o ∷ steps) (u ∷ ids) e =
        let first : tree new u ≡ image t = cc in
        let others : map (tree new) ids ≡ map image (map id_of steps) = cc in
        let behind = steps_claim steps ids others in
        λ i. record { claim = record { given = []; goal = first i }; origin = o } ∷ behind i
    steps_claim (Given h ∷ steps) (u ∷ ids) e =
        let first : tree new u ≡ image h.term = cc in
        let others : map (tree new) ids ≡ map image (map id_of steps) = cc in
        let behind = steps_claim steps ids others in
        map-at_first (with_given u) (condition_of new) (before.assuming (tree new u)) (λ c. refl) h.count (conditions_in (all_with_id steps ids))
        ∙ ((λ i. at_first (before.assuming (first i)) h.count (behind i))
        ∙ (sym (map-at_first (before.assuming (tree old h.term)) claim (before.assuming (image h.term)) (λ c. refl) h.count (conditions_of old (conditions_in steps)))
        ∙ ap (map claim) (sym (map-at_first (with_given h.term) (condition_of old) (before.assuming (tree old h.term)) (λ c. refl) h.count (conditions_in steps)))))

    -- ---- the terms of the claims are those of the ids

    terms_one : (c : Condition) → terms_in (claim (condition_of old c)) ≡ map image (ids_in c)
    terms_one c =
        (λ i. map_twice (substitute by) (tree old) c.given i ++ image c.goal ∷ [])
        ∙ sym (map-append image c.given (c.goal ∷ []))

    pub claim_terms : (cs : List Condition) → all_terms_in (map claim (conditions_of old cs)) ≡ map image (all_ids_in cs)
    claim_terms [] = refl
    claim_terms (c ∷ cs) =
        (λ i. terms_one c i ++ claim_terms cs i)
        ∙ sym (map-append image (ids_in c) (all_ids_in cs))

-- ---- terms that are there

in_first : (a : Arena) (t : TermId) (n : ℕ) (cs : List Condition) → t.0 < length a.nodes → AreIn a cs → AreIn a (at_first (with_given t) n cs)
in_first a t zero cs there h = h
in_first a t (suc n) [] there h = tt
in_first a t (suc n) (c ∷ cs) there h = (record { given = (there, h.0.given); goal = h.0.goal }, in_first a t n cs there h.1)

pub steps_in : (a : Arena) (steps : List Step) (ids : List TermId) → AllBelow (length a.nodes) ids → AreIn a (conditions_in (all_with_id steps ids))
steps_in a [] ids h = tt
steps_in a (step ∷ steps) [] h = tt
steps_in a (Goal t o ∷ steps) (u ∷ ids) h = (record { given = tt; goal = h.0 }, steps_in a steps ids h.1)
steps_in a (Given g ∷ steps) (u ∷ ids) h = in_first a u g.count (conditions_in (all_with_id steps ids)) h.0 (steps_in a steps ids h.1)

behind_first : (a : Arena) (t : TermId) (n : ℕ) (cs : List Condition) → AreIn a (at_first (with_given t) n cs) → AreIn a cs
behind_first a t zero cs h = h
behind_first a t (suc n) [] h = tt
behind_first a t (suc n) (c ∷ cs) h = (record { given = h.0.given.1; goal = h.0.goal }, behind_first a t n cs h.1)

first_there : (a : Arena) (t : TermId) (n : ℕ) (cs : List Condition) → 0 < n → n ≤ length cs → AreIn a (at_first (with_given t) n cs) → t.0 < length a.nodes
first_there a t zero cs some within h = absurd (omega (arith, some))
first_there a t (suc n) [] some within h = absurd (omega (arith, within))
first_there a t (suc n) (c ∷ cs) some within h = h.0.given.0

pub steps_below : (a : Arena) (steps : List Step) → AreSteps steps → AreIn a (conditions_in steps) → AllBelow (length a.nodes) (map id_of steps)
steps_below a [] h k = tt
steps_below a (Goal t o ∷ steps) h k = (k.0.goal, steps_below a steps h k.1)
steps_below a (Given g ∷ steps) h k = (
  first_there a g.term g.count (conditions_in steps) h.0 h.1 k,
  steps_below a steps h.2 (behind_first a g.term g.count (conditions_in steps) k),
)

-- ---- each term of the steps is one of a condition

module _ (test : TermId → Bool) where
  any_behind : (t : TermId) (n : ℕ) (cs : List Condition) → list_any test (all_ids_in cs) ≡ true → list_any test (all_ids_in (at_first (with_given t) n cs)) ≡ true
  any_behind t zero cs h = h
  any_behind t (suc n) [] h = h
  any_behind t (suc n) (c ∷ cs) h =
      or_right (test t) _ (both (list_any-append test (ids_in c) (all_ids_in cs)) (list_any-append test (ids_in c) (all_ids_in (at_first (with_given t) n cs))) (any_behind t n cs))
    where
      either : (b x y : Bool) → (b || x) ≡ true → (x ≡ true → y ≡ true) → (b || y) ≡ true
      either true x y h go = refl
      either false x y h go = go h

      both : list_any test (ids_in c ++ all_ids_in cs) ≡ (list_any test (ids_in c) || list_any test (all_ids_in cs))
          → list_any test (ids_in c ++ all_ids_in (at_first (with_given t) n cs)) ≡ (list_any test (ids_in c) || list_any test (all_ids_in (at_first (with_given t) n cs)))
          → (list_any test (all_ids_in cs) ≡ true → list_any test (all_ids_in (at_first (with_given t) n cs)) ≡ true)
          → list_any test (ids_in c ++ all_ids_in (at_first (with_given t) n cs)) ≡ true
      both e f go = f ∙ either (list_any test (ids_in c)) (list_any test (all_ids_in cs)) (list_any test (all_ids_in (at_first (with_given t) n cs))) (sym e ∙ h) go

  any_here : (t : TermId) (n : ℕ) (cs : List Condition) → 0 < n → n ≤ length cs → test t ≡ true → list_any test (all_ids_in (at_first (with_given t) n cs)) ≡ true
  any_here t zero cs some within h = absurd (omega (arith, some))
  any_here t (suc n) [] some within h = absurd (omega (arith, within))
  any_here t (suc n) (c ∷ cs) some within h = or_left (test t) _ h

  cases : (b x y : Bool) → (b || x) ≡ true → (b ≡ true → y ≡ true) → (x ≡ true → y ≡ true) → y ≡ true
  cases true x y h first second = first refl
  cases false x y h first second = second h

  pub any_step : (steps : List Step) → AreSteps steps → list_any test (map id_of steps) ≡ true → list_any test (all_ids_in (conditions_in steps)) ≡ true
  any_step [] h k = k
  any_step (Goal t o ∷ steps) h k =
      cases (test t) (list_any test (map id_of steps)) (test t || list_any test (all_ids_in (conditions_in steps))) k (λ e. or_left (test t) _ e)
      (λ e. or_right (test t) _ (any_step steps h e))
  any_step (Given g ∷ steps) h k =
      cases (test g.term) (list_any test (map id_of steps)) (list_any test (all_ids_in (at_first (with_given g.term) g.count (conditions_in steps)))) k
      (λ e. any_here g.term g.count (conditions_in steps) h.0 h.1 e)
      (λ e. any_behind g.term g.count (conditions_in steps) (any_step steps h.2 e))

any_map : {A B : Type 0} (test : B → Bool) (f : A → B) (xs : List A) → list_any test (map f xs) ≡ list_any (λ x. test (f x)) xs
any_map test f [] = refl
any_map test f (x ∷ xs) = ap (λ b. test (f x) || b) (any_map test f xs)

-- ---- the answers of the substitution

module _ (old new : Arena) (pairs : List (TermId × TermId)) (steps : List Step) (list : List TermId) (is : list ≡ map id_of steps) (ok : AreSteps steps) where
  abbrev wanted : List logic.Condition
  wanted = before.replaced (pairs_of old pairs) (conditions_of old (conditions_in steps))

  same_wanted : map (claim old new (pairs_at old pairs)) (conditions_of old (conditions_in steps)) ≡ wanted
  same_wanted = ap (λ by. map (claim old new by) (conditions_of old (conditions_in steps))) (replacing-is old pairs)

  ids_shown : substituted old pairs list ≡ map (image old new (pairs_at old pairs)) (map id_of steps)
  ids_shown = map_twice (substitute (pairs_at old pairs)) (tree old) list ∙ ap (map (image old new (pairs_at old pairs))) is

  pub list_below : AreIn old (conditions_in steps) → AllBelow (length old.nodes) list
  list_below h = subst (AllBelow (length old.nodes)) (sym is) (steps_below old steps ok h)

  -- a part of the terms of the steps is a part of the terms of the conditions
  part_wanted : (x : Term) → is_part_of (substituted old pairs list) x ≡ true → is_part_of (all_terms_in wanted) x ≡ true
  part_wanted x h =
      let by = pairs_at old pairs in
      let shown : list_any (λ t. is_part x (image old new by t)) (map id_of steps) ≡ true = sym (any_map (is_part x) (image old new by) (map id_of steps)) ∙ (ap (list_any (is_part x)) (sym ids_shown) ∙ h) in
      ap (list_any (is_part x)) (ap all_terms_in (sym same_wanted) ∙ claim_terms old new by (conditions_in steps))
      ∙ (any_map (is_part x) (image old new by) (all_ids_in (conditions_in steps)) ∙ any_step (λ t. is_part x (image old new by t)) steps ok shown)

  pub list_adds : AddsParts old new (substituted old pairs list) → AddsParts old new (all_terms_in wanted)
  list_adds h = record { part = λ u low high. part_wanted (tree new u) (h.part u low high) }

  pub list_lacks : LacksPart new (substituted old pairs list) → LacksPart new (all_terms_in wanted)
  list_lacks h = record { missing = h.missing; part = part_wanted h.missing h.part; lacks = h.lacks }

  module _ (images slice : List TermId) (made : List Step) (same : slice ≡ images) (are : made ≡ all_with_id steps slice) where
    made_are : made ≡ all_with_id steps images
    made_are = are ∙ ap (all_with_id steps) same

    pub made_conditions : map (tree new) images ≡ substituted old pairs list → conditions_of new (conditions_in made) ≡ wanted
    made_conditions e = ap (λ (ss : List Step). conditions_of new (conditions_in ss)) made_are ∙ (steps_claim old new (pairs_at old pairs) steps images (e ∙ ids_shown) ∙ same_wanted)

    pub made_sorts : sorts_at new images ≡ sorts_at old list → map (sorts_of new) (conditions_in made) ≡ map (sorts_of old) (conditions_in steps)
    made_sorts e = ap (λ (ss : List Step). map (sorts_of new) (conditions_in ss)) made_are ∙ steps_sorts old new steps images (e ∙ ap (sorts_at old) is)

    pub made_in : AllBelow (length new.nodes) images → AreIn new (conditions_in made)
    made_in h = subst (λ (ss : List Step). AreIn new (conditions_in ss)) (sym made_are) (steps_in new steps images h)

    as_long : sorts_at new images ≡ sorts_at old list → length images ≡ length steps
    as_long e = sym (length-map images (sort_at new)) ∙ (ap length e ∙ (length-map list (sort_at old) ∙ (ap length is ∙ length-map steps id_of)))

    pub made_steps : sorts_at new images ≡ sorts_at old list → AreSteps made
    made_steps e = subst AreSteps (sym made_are) (AreSteps-with_id steps images (as_long e) ok)

    pub made_as_many : sorts_at new images ≡ sorts_at old list → length (conditions_in made) ≡ length (conditions_in steps)
    made_as_many e = ap (λ (ss : List Step). length (conditions_in ss)) made_are ∙ as_many steps images (as_long e)

    pub images_as_long : sorts_at new images ≡ sorts_at old list → length steps ≡ length slice
    images_as_long e = sym (as_long e) ∙ ap length (sym same)
