-- What is still to be done, and that all of it will have images.
use Rattle.std.proofs.Common.{◌≡◌, ℕ, ◌+◌, ◌*◌, ◌<◌, Bool, true, false, cond, ◌||◌, List, [], ◌∷◌, ◌++◌, drop, length, get_or, Option, Some, is_some, refl, sym, ap, ◌∙◌, arith}
use Rattle.std.specs.List.{list_any}
use Rattle.std.proofs.lemmas.Bool.{false≢true, or_left, or_right}
use Rattle.std.proofs.lemmas.List.{append_assoc, drop_more}
use Rattle.spv_logic.specs.declared.conditions.TermId.{TermId}
use Rattle.spv_logic.specs.Terms.{Term, term}
use Rattle.spv_term.specs.Arena.{Arena, tree, trees}
use Rattle.spv_term.specs.declared.substitution.walk.Work.{Work}
use Rattle.spv_term.specs.declared.substitution.walk.Work.TheVariants.{Visit, Finish}
use Rattle.spv_term.specs.substitution.Images.{same_id, image_of, Puts}
use Rattle.spv_term.specs.substitution.Walk.{id_of, visits, size, sizes, weights, args_at}
use Rattle.spv_term.proofs.substitution.PartLemmas.{or_split}
use Rattle.spv_term.proofs.substitution.ImageLemmas.{same_id-true, same_id-refl}

-- ---- visits

pub visits-drop : (ts : List TermId) (i : ℕ) (d : TermId) → i < length ts → visits (drop i ts) ≡ visits (drop (i + 1) ts) ++ Visit (get_or ts i d) ∷ []
visits-drop ts i d h = ap visits (drop_more ts i d h)

-- one visit more
pub visits-more : (start before after : List Work) (ts : List TermId) (k i : ℕ) (d : TermId) → before ≡ start ++ visits (drop k ts) → k ≡ i + 1 → i < length ts
    → after ≡ before ++ Visit (get_or ts i d) ∷ [] → after ≡ start ++ visits (drop i ts)
visits-more start before after ts k i d e f h g =
    g ∙ (ap (λ ws. ws ++ Visit (get_or ts i d) ∷ []) (e ∙ ap (λ j. start ++ visits (drop j ts)) f)
    ∙ (append_assoc start (visits (drop (i + 1) ts)) (Visit (get_or ts i d) ∷ []) ∙ ap (λ ws. start ++ ws) (sym (visits-drop ts i d h))))

-- ---- what has an image, or comes to have one

-- whether an id is among those of works
abbrev pub awaits : List Work → TermId → Bool
awaits works x = list_any (λ w. same_id x (id_of w)) works

abbrev pub comes : List (TermId × TermId) → List Work → TermId → Bool
comes images works x = is_some (image_of images x) || awaits works x

abbrev pub AllCome : List (TermId × TermId) → List Work → List TermId → Type 0
AllCome images works [] = Unit {0}
AllCome images works (x ∷ xs) = (comes images works x ≡ true) × AllCome images works xs

-- before a term is finished, each of its arguments has an image
abbrev pub Ready : Arena → List (TermId × TermId) → List Work → Type 0
Ready a images [] = Unit {0}
Ready a images (Visit t ∷ works) = Ready a images works
Ready a images (Finish t ∷ works) = AllCome images works (args_at a t) × Ready a images works

pub AllCome-more : (images more : List (TermId × TermId)) (works left : List Work) (xs : List TermId)
    → ((x : TermId) → comes images works x ≡ true → comes more left x ≡ true) → AllCome images works xs → AllCome more left xs
AllCome-more images more works left [] sub h = tt
AllCome-more images more works left (x ∷ xs) sub h = (sub x h.0, AllCome-more images more works left xs sub h.1)

-- whatever came by the last works comes by those in their place
module _ (images more : List (TermId × TermId)) (top left : List Work) (sub : (x : TermId) → comes images top x ≡ true → comes more left x ≡ true) where
  pub comes-behind : (rest : List Work) (x : TermId) → comes images (rest ++ top) x ≡ true → comes more (rest ++ left) x ≡ true
  comes-behind [] x e = sub x e
  comes-behind (w ∷ rest) x e =
      by (same_id x (id_of w)) (is_some (image_of images x)) (awaits (rest ++ top) x) (is_some (image_of more x)) (awaits (rest ++ left) x) (comes-behind rest x) e
    where
      by : (s m r n l : Bool) → ((m || r) ≡ true → (n || l) ≡ true) → (m || (s || r)) ≡ true → (n || (s || l)) ≡ true
      by true m r n l go e = or_right n true refl
      by false m r n l go e = go e

  pub AllCome-behind : (rest : List Work) (xs : List TermId) → AllCome images (rest ++ top) xs → AllCome more (rest ++ left) xs
  AllCome-behind rest xs h = AllCome-more images more (rest ++ top) (rest ++ left) xs (comes-behind rest) h

  pub Ready-behind : (a : Arena) (rest : List Work) → Ready a images (rest ++ top) → Ready a more left → Ready a more (rest ++ left)
  Ready-behind a [] h k = k
  Ready-behind a (Visit t ∷ rest) h k = Ready-behind a rest h k
  Ready-behind a (Finish t ∷ rest) h k = (AllCome-behind rest (args_at a t) h.0, Ready-behind a rest h.1 k)

-- the last works are as ready as all of them
pub Ready-last : (a : Arena) (images : List (TermId × TermId)) (rest top : List Work) → Ready a images (rest ++ top) → Ready a images top
Ready-last a images [] top h = h
Ready-last a images (Visit t ∷ rest) top h = Ready-last a images rest top h
Ready-last a images (Finish t ∷ rest) top h = Ready-last a images rest top h.1

-- ---- visits come

awaits-append : (xs ys : List Work) (x : TermId) → awaits (xs ++ ys) x ≡ (awaits xs x || awaits ys x)
awaits-append [] ys x = refl
awaits-append (w ∷ xs) ys x = by (same_id x (id_of w)) (awaits-append xs ys x)
  where
    by : (s : Bool) → awaits (xs ++ ys) x ≡ (awaits xs x || awaits ys x) → (s || awaits (xs ++ ys) x) ≡ ((s || awaits xs x) || awaits ys x)
    by true e = refl
    by false e = e

visits-first : (t : TermId) (ts : List TermId) → awaits (visits (t ∷ ts)) t ≡ true
visits-first t ts =
    awaits-append (visits ts) (Visit t ∷ []) t ∙ or_right (awaits (visits ts) t) (same_id t t || false) (or_left (same_id t t) false (same_id-refl t))

visits-others : (t : TermId) (ts : List TermId) (x : TermId) → awaits (visits ts) x ≡ true → awaits (visits (t ∷ ts)) x ≡ true
visits-others t ts x e = awaits-append (visits ts) (Visit t ∷ []) x ∙ or_left (awaits (visits ts) x) (same_id x t || false) e

pub visits-come : (images : List (TermId × TermId)) (ts : List TermId) → AllCome images (visits ts) ts
visits-come images [] = tt
visits-come images (t ∷ ts) = (
  or_right (is_some (image_of images t)) (awaits (visits (t ∷ ts)) t) (visits-first t ts),
  AllCome-more images images (visits ts) (visits (t ∷ ts)) ts more (visits-come images ts),
)
  where
    more : (x : TermId) → comes images (visits ts) x ≡ true → comes images (visits (t ∷ ts)) x ≡ true
    more x e =
        or_split (is_some (image_of images x)) (awaits (visits ts) x) e
        (λ f. or_left (is_some (image_of images x)) (awaits (visits (t ∷ ts)) x) f)
        (λ f. or_right (is_some (image_of images x)) (awaits (visits (t ∷ ts)) x) (visits-others t ts x f))

pub Ready-visits : (a : Arena) (images : List (TermId × TermId)) (ts : List TermId) → Ready a images (visits ts)
Ready-visits a images [] = tt
Ready-visits a images (t ∷ ts) = pushed (visits ts) (Ready-visits a images ts)
  where
    longer : (ws : List Work) (x : TermId) → comes images ws x ≡ true → comes images (ws ++ Visit t ∷ []) x ≡ true
    longer ws x e =
        or_split (is_some (image_of images x)) (awaits ws x) e
        (λ f. or_left (is_some (image_of images x)) (awaits (ws ++ Visit t ∷ []) x) f)
        (λ f. or_right (is_some (image_of images x)) (awaits (ws ++ Visit t ∷ []) x) (awaits-append ws (Visit t ∷ []) x ∙ or_left (awaits ws x) (awaits (Visit t ∷ []) x) f))

    pushed : (ws : List Work) → Ready a images ws → Ready a images (ws ++ Visit t ∷ [])
    pushed [] h = tt
    pushed (Visit s ∷ ws) h = pushed ws h
    pushed (Finish s ∷ ws) h = (AllCome-more images images ws (ws ++ Visit t ∷ []) (args_at a s) (longer ws) h.0, pushed ws h.1)

-- ---- one work is done

pub some_is : (o : Option TermId) (v : TermId) → o ≡ Some v → is_some o ≡ true
some_is o v e = ap is_some e

-- a work whose id has an image is taken away
pub done_comes : (images more : List (TermId × TermId)) (w : Work) → is_some (image_of more (id_of w)) ≡ true
    → ((x : TermId) → is_some (image_of images x) ≡ true → is_some (image_of more x) ≡ true) → (x : TermId) → comes images (w ∷ []) x ≡ true → comes more [] x ≡ true
done_comes images more w done keeps x e =
    or_split (is_some (image_of images x)) (awaits (w ∷ []) x) e
    (λ f. or_left (is_some (image_of more x)) false (keeps x f))
    (λ f. or_split (same_id x (id_of w)) false f
    (λ g. or_left (is_some (image_of more x)) false (ap (λ y. is_some (image_of more y)) (same_id-true x (id_of w) g) ∙ done))
    (λ g. absurd (false≢true g)))

-- a visit gives way to other works of its id
pub opened_comes : (images : List (TermId × TermId)) (t : TermId) (others : List Work) (x : TermId) → comes images (Visit t ∷ []) x ≡ true → comes images (Finish t ∷ others) x ≡ true
opened_comes images t others x e = by (is_some (image_of images x)) (same_id x t) (awaits others x) e
  where
    by : (m s o : Bool) → (m || (s || false)) ≡ true → (m || (s || o)) ≡ true
    by true s o e = refl
    by false true o e = refl
    by false false o e = absurd (false≢true e)

-- an image that was put in is there, and so are the older ones
pub put_there : (t u : TermId) (images more : List (TermId × TermId)) → Puts t u images more → is_some (image_of more t) ≡ true
put_there t u images more puts = ap is_some (puts.image t ∙ ap (λ b. cond b (Some u) (image_of images t)) (same_id-refl t))

pub put_keeps : (t u : TermId) (images more : List (TermId × TermId)) → Puts t u images more → (x : TermId) → is_some (image_of images x) ≡ true → is_some (image_of more x) ≡ true
put_keeps t u images more puts x e = ap is_some (puts.image x) ∙ by (same_id t x)
  where
    by : (b : Bool) → is_some (cond b (Some u) (image_of images x)) ≡ true
    by true = refl
    by false = e

-- ---- measures

pub size_positive : (x : Term) → 0 < size x
size_positive (term h ts) = omega arith

module _ (a : Arena) where
  pub weights-append : (xs ys : List Work) → weights a (xs ++ ys) ≡ weights a xs + weights a ys
  weights-append [] ys = omega arith
  weights-append (x ∷ xs) ys = let e = weights-append xs ys in omega (arith, e)

  pub weights-visits : (ts : List TermId) → weights a (visits ts) ≡ 2 * sizes (trees a ts)
  weights-visits [] = refl
  weights-visits (t ∷ ts) =
      let e = weights-append (visits ts) (Visit t ∷ []) in
      let f = weights-visits ts in
      e ∙ total (weights a (visits ts)) (sizes (trees a ts)) (size (tree a t)) f
    where
      total : (w n m : ℕ) → w ≡ 2 * n → w + (2 * m + 0) ≡ 2 * (m + n)
      total w n m e = omega (arith, e)
