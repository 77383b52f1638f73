-- Instances that are new are so over ids and over terms.
use Rattle.std.proofs.Common.{◌≡◌, ℕ, suc, ◌+◌, ◌<◌, Bool, true, false, cond, ◌&&◌, ◌||◌, not, List, [], ◌∷◌, ◌++◌, map, filter, take, drop, length, get_or, refl, sym, ap, ◌∙◌, nat_eq}
use mathlib.Core.Path.{ap₂}
use Rattle.std.specs.List.{list_any}
use Rattle.std.proofs.lemmas.List.{take_more, drop_more, append-nil}
use Rattle.spv_logic.specs.declared.conditions.TermId.{TermId}
use Rattle.spv_term.specs.Arena.{Arena, IsArena, AllBelow, ids_eq, tree}
use Rattle.spv_atoms.proofs.Walks.{term_eq-ids}
use Rattle.spv_rules.specs.declared.matching.instances.Instance as matched
use Rattle.spv_rules.specs.matching.Matches as plain
use Rattle.spv_rules.specs.matching.Views as views
use Rattle.spv_verdicts.specs.declared.answers.verdicts.Instance.{Instance}
use Rattle.spv_verdicts.specs.declared.answers.verdicts.Round.{Round}
use Rattle.spv_verdicts.specs.answers.Views.{InstancesIn, RoundsIn, instances_in}
use Rattle.spv_rounds.specs.Rounds.{as_found, of_found, is_new}
use Rattle.spv_rounds.specs.knowing.Known.{members_in}
use Rattle.spv_rounds.specs.telling.Told.{all_members}
use Rattle.spv_rounds.specs.calling.Calling.{is_same, kept, fresh}
use Rattle.spv_rounds.proofs.telling.ToldLemmas.{members-are, members-there}

pub other_lengths : (ts us : List TermId) → (length ts ≡ length us → ⊥) → false ≡ ids_eq ts us
other_lengths [] [] h = absurd (h refl)
other_lengths [] (u ∷ us) h = refl
other_lengths (t ∷ ts) [] h = refl
other_lengths (t ∷ ts) (u ∷ us) h = by_case (nat_eq t.0 u.0) (other_lengths ts us (λ e. h (ap suc e)))
  where
    by_case : (b : Bool) → false ≡ ids_eq ts us → false ≡ (b && ids_eq ts us)
    by_case true e = e
    by_case false e = refl

-- ---- lists

any-append : {X : Type 0} (p : X → Bool) (xs ys : List X) → list_any p (xs ++ ys) ≡ (list_any p xs || list_any p ys)
any-append p [] ys = refl
any-append p (x ∷ xs) ys = by_case (p x) (any-append p xs ys)
  where
    by_case : (b : Bool) → list_any p (xs ++ ys) ≡ (list_any p xs || list_any p ys) → (b || list_any p (xs ++ ys)) ≡ ((b || list_any p xs) || list_any p ys)
    by_case true e = refl
    by_case false e = e

-- ---- sameness

module _ (a : Arena) (ok : IsArena a) where
  all-ids : (ts us : List TermId) → AllBelow (length a.nodes) ts → AllBelow (length a.nodes) us → plain.all_eq (map (tree a) ts) (map (tree a) us) ≡ ids_eq ts us
  all-ids [] [] h k = refl
  all-ids [] (u ∷ us) h k = refl
  all-ids (t ∷ ts) [] h k = refl
  all-ids (t ∷ ts) (u ∷ us) h k = ap₂ ◌&&◌ (sym (term_eq-ids a ok t u h.0 k.0)) (all-ids ts us h.1 k.1)

  there-ids : (i : matched.Instance) (known : List Instance) → AllBelow (length a.nodes) i.values → InstancesIn a known → list_any (plain.instance_eq (views.instance_in a i)) (map as_found (instances_in a known)) ≡ list_any (is_same i) known
  there-ids i [] h k = refl
  there-ids i (j ∷ known) h k = ap₂ ◌||◌ (ap (λ b. nat_eq i.rule j.rule && b) (all-ids i.values j.values h k.0)) (there-ids i known h k.1)

  new-ids : (rounds : List Round) → RoundsIn a rounds → (i : matched.Instance) → AllBelow (length a.nodes) i.values → is_new (members_in a rounds) (views.instance_in a i) ≡ not (list_any (is_same i) (all_members rounds))
  new-ids rounds there i h =
      ap (λ ms. not (list_any (plain.instance_eq (views.instance_in a i)) (map as_found ms))) (sym (members-are a rounds))
      ∙ ap not (there-ids i (all_members rounds) h (members-there a rounds there))

  -- what is fresh is what is called for
  pub fresh-called : (rounds : List Round) → RoundsIn a rounds → (found : List matched.Instance) → views.AllIn (length a.nodes) found
      → map of_found (filter (is_new (members_in a rounds)) (map (views.instance_in a) found)) ≡ instances_in a (fresh rounds found)
  fresh-called rounds there [] h = refl
  fresh-called rounds there (i ∷ found) h =
      ap (λ b. map of_found (cond b (views.instance_in a i ∷ filter (is_new (members_in a rounds)) (map (views.instance_in a) found)) (filter (is_new (members_in a rounds)) (map (views.instance_in a) found)))) (new-ids rounds there i h.0)
      ∙ by_case (not (list_any (is_same i) (all_members rounds))) (fresh-called rounds there found h.1)
    where
      by_case : (b : Bool) → map of_found (filter (is_new (members_in a rounds)) (map (views.instance_in a) found)) ≡ instances_in a (fresh rounds found)
          → map of_found (cond b (views.instance_in a i ∷ filter (is_new (members_in a rounds)) (map (views.instance_in a) found)) (filter (is_new (members_in a rounds)) (map (views.instance_in a) found)))
          ≡ instances_in a (map kept (cond b (i ∷ filter (λ j. not (list_any (is_same j) (all_members rounds))) found) (filter (λ j. not (list_any (is_same j) (all_members rounds))) found)))
      by_case true e = ap (λ is. of_found (views.instance_in a i) ∷ is) e
      by_case false e = e

pub fresh-there : (a : Arena) (rounds : List Round) (found : List matched.Instance) → views.AllIn (length a.nodes) found → InstancesIn a (fresh rounds found)
fresh-there a rounds [] h = tt
fresh-there a rounds (i ∷ found) h = by_case (not (list_any (is_same i) (all_members rounds))) (fresh-there a rounds found h.1)
  where
    by_case : (b : Bool) → InstancesIn a (fresh rounds found) → InstancesIn a (map kept (cond b (i ∷ filter (λ j. not (list_any (is_same j) (all_members rounds))) found) (filter (λ j. not (list_any (is_same j) (all_members rounds))) found)))
    by_case true e = (h.0, e)
    by_case false e = e

-- ---- loops

pub known-front : (i : matched.Instance) (rounds : List Round) (k : ℕ) (r : Round) → k < length rounds → r ≡ get_or rounds k r → (b : Bool) → list_any (is_same i) r.members ≡ b
    → list_any (is_same i) (all_members (drop k rounds)) ≡ (b || list_any (is_same i) (all_members (drop (k + 1) rounds)))
known-front i rounds k r less is b h =
    ap (λ rs. list_any (is_same i) (all_members rs)) (drop_more rounds k r less)
    ∙ (any-append (is_same i) (get_or rounds k r).members (all_members (drop (k + 1) rounds))
    ∙ ap (λ c. c || list_any (is_same i) (all_members (drop (k + 1) rounds))) (ap (λ (s : Round). list_any (is_same i) s.members) (sym is) ∙ h))

fresh-append : (rounds : List Round) (found : List matched.Instance) (i : matched.Instance) → fresh rounds (found ++ i ∷ []) ≡ fresh rounds found ++ fresh rounds (i ∷ [])
fresh-append rounds [] i = refl
fresh-append rounds (j ∷ found) i = by_case (not (list_any (is_same j) (all_members rounds))) (fresh-append rounds found i)
  where
    by_case : (b : Bool) → fresh rounds (found ++ i ∷ []) ≡ fresh rounds found ++ fresh rounds (i ∷ [])
        → map kept (cond b (j ∷ filter (λ k. not (list_any (is_same k) (all_members rounds))) (found ++ i ∷ [])) (filter (λ k. not (list_any (is_same k) (all_members rounds))) (found ++ i ∷ [])))
        ≡ map kept (cond b (j ∷ filter (λ k. not (list_any (is_same k) (all_members rounds))) found) (filter (λ k. not (list_any (is_same k) (all_members rounds))) found)) ++ fresh rounds (i ∷ [])
    by_case true e = ap (λ is. kept j ∷ is) e
    by_case false e = e

pub fresh-more : (rounds : List Round) (found : List matched.Instance) (k : ℕ) (i : matched.Instance) (list new : List Instance) → k < length found → i ≡ get_or found k i → list ≡ fresh rounds (take k found) → new ≡ list ++ fresh rounds (i ∷ [])
    → new ≡ fresh rounds (take (k + 1) found)
fresh-more rounds found k i list new less is so_far e =
    e ∙ ((λ j. so_far j ++ fresh rounds (is j ∷ [])) ∙ (sym (fresh-append rounds (take k found) (get_or found k i)) ∙ ap (fresh rounds) (sym (take_more found k i less))))

pub add-none : (rounds : List Round) (i : matched.Instance) (list : List Instance) → list_any (is_same i) (all_members rounds) ≡ true → list ≡ list ++ fresh rounds (i ∷ [])
add-none rounds i list known = sym (ap (λ b. list ++ map kept (cond (not b) (i ∷ []) [])) known ∙ append-nil list)

pub add-one : (rounds : List Round) (i : matched.Instance) (j : Instance) (list new : List Instance) → list_any (is_same i) (all_members rounds) ≡ false → j ≡ kept i → new ≡ list ++ j ∷ [] → new ≡ list ++ fresh rounds (i ∷ [])
add-one rounds i j list new known is e = e ∙ (ap (λ k. list ++ k ∷ []) is ∙ sym (ap (λ b. list ++ map kept (cond (not b) (i ∷ []) [])) known))
