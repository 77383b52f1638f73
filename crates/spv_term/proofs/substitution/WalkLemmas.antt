-- The image of each term that is gone through is the term with the pairs put in.
use Rattle.std.proofs.Common.{◌≡◌, ℕ, suc, ◌+◌, ◌-◌, ◌*◌, ◌<◌, ◌≤◌, Bool, true, false, cond, List, [], ◌∷◌, ◌++◌, map, take, length, Option, Some, None, is_some, refl, sym, ap, ◌∙◌, subst, inl, inr, arith}
use Rattle.std.specs.Option.{unwrap_or, option_map}
use Rattle.std.proofs.lemmas.Bool.{false≢true, or_left, or_right, cases_lt}
use Rattle.std.proofs.lemmas.List.{append_assoc, append-nil}
use Rattle.spv_logic.specs.declared.conditions.TermId.{TermId}
use Rattle.spv_logic.specs.declared.operators.Head.{Head}
use Rattle.spv_logic.specs.Terms.{Term, Terms, term, terms}
use Rattle.spv_logic.specs.Substitution.{Replacement, is_variable, replacement_at, replaced, substitute, substitute_all}
use Rattle.spv_term.specs.Arena.{Arena, IsArena, AllBelow, tree, trees, sort_at, sorts_at, Extends}
use Rattle.spv_term.proofs.ArenaLemmas.{node_of, args_in_range, tree-node, Extends-refl, Extends-trans, length-Extends, slice_get-Extends, tree-Extends, sort_at-Extends}
use Rattle.spv_term.specs.declared.substitution.walk.Work.{Work}
use Rattle.spv_term.specs.declared.substitution.walk.Work.TheVariants.{Visit, Finish}
use Rattle.spv_term.specs.substitution.Images.{same_id, image_of, image_or, head_of, head_at, pairs_at, ArePairs, substituted, Puts, SameImages, ImagesFit}
use Rattle.spv_term.specs.substitution.Parts.{is_part, is_part_of_some, is_part_of, AddsParts, AddsOnly, LacksPart}
use Rattle.spv_term.specs.substitution.Walk.{id_of, visits, size, sizes, weight, weights, args_of, args_at, over_images, AddsFor, LacksFor, Visits, Finishes, Steps, known, opened, visited, finished}
use Rattle.spv_term.proofs.substitution.PartLemmas.{is_part-refl, part_down_of, or_split}
use Rattle.spv_term.proofs.substitution.ImageLemmas.{same_id-true, pairs-image, image-pair}
use Rattle.spv_term.proofs.substitution.WorkLemmas.{comes, AllCome, Ready, AllCome-behind, Ready-behind, Ready-last, visits-come, Ready-visits, done_comes, opened_comes, put_there, put_keeps, some_is, size_positive, weights-append, weights-visits}

-- ---- terms by their parts

-- the tree of a term is its head over its arguments' trees, by total functions
pub tree-args : (a : Arena) → IsArena a → (t : TermId) → t.0 < length a.nodes → tree a t ≡ term (head_at a t) (trees a (args_at a t))
tree-args a ok t there =
    let n = node_of a ok t there in
    let at = tree-node a ok t n.0 n.1 in
    at ∙ (λ i. term (ap head_of (sym at) i) (trees a (args_of (sym n.1 i))))

pub args-in_range : (a : Arena) → IsArena a → (t : TermId) → t.0 < length a.nodes → AllBelow (length a.nodes) (args_at a t)
args-in_range a ok t there =
    let n = node_of a ok t there in
    subst (λ o. AllBelow (length a.nodes) (args_of o)) (sym n.1) (args_in_range a ok t n.0 n.1)

pub args-Extends : (old new : Arena) → Extends old new → (t : TermId) → t.0 < length old.nodes → args_at new t ≡ args_at old t
args-Extends old new more t there = ap args_of (slice_get-Extends more t there)

-- ---- what is kept

-- an image is the term with the replacement put in
pub record IsImage (old a : Arena) (by : Replacement) (k v : TermId) : Type 0 where
  pub key : k.0 < length old.nodes
  pub there : v.0 < length a.nodes
  pub is_tree : tree a v ≡ substitute by (tree old k)
  pub is_sort : sort_at a v ≡ sort_at old k

pub record AreImages (old a : Arena) (by : Replacement) (images : List (TermId × TermId)) : Type 0 where
  pub each : (k v : TermId) → image_of images k ≡ Some v → IsImage old a by k v

-- of what has no image the head is not replaced
pub record Covers (old : Arena) (by : Replacement) (images : List (TermId × TermId)) : Type 0 where
  pub free : (k : TermId) → k.0 < length old.nodes → image_of images k ≡ None → by (head_at old k) ≡ None

-- a term whose image is a part of the goals
pub record IsWanted (old : Arena) (by : Replacement) (goals : List Term) (t : TermId) : Type 0 where
  pub there : t.0 < length old.nodes
  pub part : is_part_of goals (substitute by (tree old t)) ≡ true

-- the same, and its head is not replaced
pub record IsOpened (old : Arena) (by : Replacement) (goals : List Term) (t : TermId) : Type 0 where
  pub wanted : IsWanted old by goals t
  pub free : by (head_at old t) ≡ None

abbrev pub WorkIn : Arena → Replacement → List Term → Work → Type 0
WorkIn old by goals (Visit t) = IsWanted old by goals t
WorkIn old by goals (Finish t) = IsOpened old by goals t

abbrev pub WorksIn : Arena → Replacement → List Term → List Work → Type 0
WorksIn old by goals [] = Unit {0}
WorksIn old by goals (w ∷ works) = WorkIn old by goals w × WorksIn old by goals works

-- what is true before and after each step
pub record Walks (old a : Arena) (by : Replacement) (goals : List Term) (roots : List TermId) (works : List Work) (images : List (TermId × TermId)) : Type 0 where
  pub grows : Extends old a
  pub only : AddsParts old a goals
  pub images_are : AreImages old a by images
  pub covers : Covers old by images
  pub works_in : WorksIn old by goals works
  pub ready : Ready old images works
  pub come : AllCome images works roots

-- ---- lists of works

pub WorksIn-append : (old : Arena) (by : Replacement) (goals : List Term) (xs ys : List Work) → WorksIn old by goals xs → WorksIn old by goals ys → WorksIn old by goals (xs ++ ys)
WorksIn-append old by goals [] ys h k = k
WorksIn-append old by goals (x ∷ xs) ys h k = (h.0, WorksIn-append old by goals xs ys h.1 k)

pub WorksIn-parts : (old : Arena) (by : Replacement) (goals : List Term) (rest : List Work) (w : Work) → WorksIn old by goals (rest ++ w ∷ []) → WorksIn old by goals rest × WorkIn old by goals w
WorksIn-parts old by goals [] w h = (tt, h.0)
WorksIn-parts old by goals (x ∷ rest) w h = let others = WorksIn-parts old by goals rest w h.1 in ((h.0, others.0), others.1)

pub id-there : (old : Arena) (by : Replacement) (goals : List Term) (w : Work) → WorkIn old by goals w → (id_of w).0 < length old.nodes
id-there old by goals (Visit t) h = h.there
id-there old by goals (Finish t) h = h.wanted.there

-- ---- substitution over the parts of a term

free_head : (b : Bool) (o : Option Term) → o ≡ None → replacement_at b o ≡ None
free_head true o e = e
free_head false o e = refl

-- a term whose head is not replaced is its head over its arguments with the replacement put in
pub substitute-free : (by : Replacement) (h : Head) (ts : Terms) → by h ≡ None → substitute by (term h ts) ≡ term h (substitute_all by ts)
substitute-free by h ts e = ap (λ o. replaced o (term h (substitute_all by ts))) (free_head (is_variable h) (by h) e)

-- a variable that is replaced is what is put in its place
substitute-variable : (by : Replacement) (h : Head) (ts : Terms) (u : Term) → is_variable h ≡ true → by h ≡ Some u → substitute by (term h ts) ≡ u
substitute-variable by h ts u v e =
    ap (λ b. replaced (replacement_at b (by h)) (term h (substitute_all by ts))) v ∙ ap (λ o. replaced o (term h (substitute_all by ts))) e

module _ (old : Arena) (ok : IsArena old) (by : Replacement) (goals : List Term) where
  substitute-args : (t : TermId) → t.0 < length old.nodes → by (head_at old t) ≡ None → substitute by (tree old t) ≡ term (head_at old t) (substitute_all by (trees old (args_at old t)))
  substitute-args t there e = ap (substitute by) (tree-args old ok t there) ∙ substitute-free by (head_at old t) (trees old (args_at old t)) e

  -- ---- the arguments of what is wanted are wanted

  wanted_visits : (h : Head) (us : Terms) (ts : List TermId) → AllBelow (length old.nodes) ts → is_part_of goals (term h us) ≡ true
      → ((x : Term) → is_part_of_some x (substitute_all by (trees old ts)) ≡ true → is_part_of_some x us ≡ true) → WorksIn old by goals (visits ts)
  wanted_visits h us [] below part inside = tt
  wanted_visits h us (t ∷ ts) below part inside =
      let x = substitute by (tree old t) in
      let others = substitute_all by (trees old ts) in
      WorksIn-append old by goals (visits ts) (Visit t ∷ [])
      (wanted_visits h us ts below.1 part (λ y e. inside y (or_right (is_part y x) (is_part_of_some y others) e))) (
        record {
          there = below.0;
          part = part_down_of x h us (inside x (or_left (is_part x x) (is_part_of_some x others) (is_part-refl x))) goals part;
        },
        tt,
      )

  wanted_args : (t : TermId) → IsOpened old by goals t → WorksIn old by goals (visits (args_at old t))
  wanted_args t h =
      let us = substitute_all by (trees old (args_at old t)) in
      wanted_visits (head_at old t) us (args_at old t) (args-in_range old ok t h.wanted.there)
      (ap (is_part_of goals) (sym (substitute-args t h.wanted.there h.free)) ∙ h.wanted.part) (λ x e. e)

  -- ---- images that are there

  module _ (a : Arena) (images : List (TermId × TermId)) (are : AreImages old a by images) where
    image_there : (x : TermId) → is_some (image_of images x) ≡ true → IsImage old a by x (image_or images x)
    image_there x e = found (image_of images x) refl e
      where
        found : (o : Option TermId) → image_of images x ≡ o → is_some o ≡ true → IsImage old a by x (unwrap_or (image_of images x) x)
        found (Some v) f e = subst (IsImage old a by x) (sym (ap (λ o. unwrap_or o x) f)) (are.each x v f)
        found None f e = absurd (false≢true e)

    made : (x : TermId) → comes images [] x ≡ true → IsImage old a by x (image_or images x)
    made x e = image_there x (or_split (is_some (image_of images x)) false e (λ f. f) (λ f. absurd (false≢true f)))

    -- the images of terms that have them
    pub images_trees : (ts : List TermId) → AllCome images [] ts → trees a (map (image_or images) ts) ≡ substitute_all by (trees old ts)
    images_trees [] h = refl
    images_trees (t ∷ ts) h =
        let first = (made t h.0).is_tree in
        let others = images_trees ts h.1 in
        λ i. terms (first i) (others i)

    pub images_map : (ts : List TermId) → AllCome images [] ts → map (tree a) (map (image_or images) ts) ≡ map (substitute by) (map (tree old) ts)
    images_map [] h = refl
    images_map (t ∷ ts) h =
        let first = (made t h.0).is_tree in
        let others = images_map ts h.1 in
        λ i. first i ∷ others i

    pub images_sorts : (ts : List TermId) → AllCome images [] ts → sorts_at a (map (image_or images) ts) ≡ sorts_at old ts
    images_sorts [] h = refl
    images_sorts (t ∷ ts) h =
        let first = (made t h.0).is_sort in
        let others = images_sorts ts h.1 in
        λ i. first i ∷ others i

    pub images_in_range : (ts : List TermId) → AllCome images [] ts → AllBelow (length a.nodes) (map (image_or images) ts)
    images_in_range [] h = tt
    images_in_range (t ∷ ts) h = ((made t h.0).there, images_in_range ts h.1)

  -- images stay where an arena grows
  pub AreImages-Extends : (a b : Arena) (images : List (TermId × TermId)) → Extends a b → AreImages old a by images → AreImages old b by images
  AreImages-Extends a b images more are = record {
    each = λ k v e.
        (let i = are.each k v e in
        record {
          key = i.key;
          there = let longer = length-Extends more in omega (arith, i.there, longer);
          is_tree = tree-Extends more v i.there ∙ i.is_tree;
          is_sort = sort_at-Extends more v i.there ∙ i.is_sort;
        });
  }

  pub images_fit : (a : Arena) (images : List (TermId × TermId)) → Extends old a → AreImages old a by images → ImagesFit a images
  images_fit a images grows are = record {
    each = λ k v there e.
        (let i = are.each k v e in
        record { there = i.there; same_sort = i.is_sort ∙ sym (sort_at-Extends grows k i.key) });
  }

  -- ---- one image more

  over_images-is : (a : Arena) (images : List (TermId × TermId)) (t : TermId) → Extends old a → AreImages old a by images → IsOpened old by goals t → AllCome images [] (args_at old t)
      → over_images a images t ≡ substitute by (tree old t)
  over_images-is a images t grows are opens come =
      let same_head : head_at a t ≡ head_at old t = ap head_of (tree-Extends grows t opens.wanted.there) in
      let same_args : args_at a t ≡ args_at old t = args-Extends old a grows t opens.wanted.there in
      (λ i. term (same_head i) (trees a (map (image_or images) (same_args i))))
      ∙ (ap (term (head_at old t)) (images_trees a images are (args_at old t) come) ∙ sym (substitute-args t opens.wanted.there opens.free))

  put_image : (b : Arena) (images more : List (TermId × TermId)) (t u : TermId) → AreImages old b by images → Puts t u images more → IsImage old b by t u → AreImages old b by more
  put_image b images more t u are puts is = record { each = λ k v e. by_case k v (same_id t k) refl (sym (puts.image k) ∙ e) }
    where
      by_case : (k v : TermId) (s : Bool) → same_id t k ≡ s → cond s (Some u) (image_of images k) ≡ Some v → IsImage old b by k v
      by_case k v true e f =
          let to : u ≡ v = cc in
          subst (λ (x : TermId). IsImage old b by k x) to (subst (λ (x : TermId). IsImage old b by x u) (same_id-true t k e) is)
      by_case k v false e f = are.each k v f

  put_covers : (images more : List (TermId × TermId)) (t u : TermId) → Covers old by images → Puts t u images more → Covers old by more
  put_covers images more t u covers puts = record { free = λ k there e. by_case k there (same_id t k) (sym (puts.image k) ∙ e) }
    where
      by_case : (k : TermId) → k.0 < length old.nodes → (s : Bool) → cond s (Some u) (image_of images k) ≡ None → by (head_at old k) ≡ None
      by_case k there true f = absurd (cc)
      by_case k there false f = covers.free k there f

  -- ---- what was added

  pub more_parts : (a b : Arena) (x : Term) → Extends old a → Extends a b → AddsParts old a goals → AddsOnly a b x → is_part_of goals x ≡ true → AddsParts old b goals
  more_parts a b x first second parts only is = record { part = part }
    where
      part : (u : TermId) → length old.nodes ≤ u.0 → u.0 < length b.nodes → is_part_of goals (tree b u) ≡ true
      part u low high = elim (cases_lt u.0 (length a.nodes)) [
        | inl below ↦ ap (is_part_of goals) (tree-Extends second u below) ∙ parts.part u low below
        | inr above ↦ ap (is_part_of goals) (only.each u above high) ∙ is
      ]

  -- ---- one step

  module _ (a b : Arena) (roots : List TermId) (works rest left : List Work) (w : Work) (images more : List (TermId × TermId))
      (popped : works ≡ rest ++ w ∷ []) (walks : Walks old a by goals roots works images) where
    all_in : WorksIn old by goals rest × WorkIn old by goals w
    all_in = WorksIn-parts old by goals rest w (subst (WorksIn old by goals) popped walks.works_in)

    pub turn_there : (id_of w).0 < length a.nodes
    turn_there = let longer = length-Extends walks.grows in let there = id-there old by goals w all_in.1 in omega (arith, there, longer)

    pub turn_fits : ImagesFit a images
    turn_fits = images_fit a images walks.grows walks.images_are

    ready : Ready old images (rest ++ w ∷ [])
    ready = subst (Ready old images) popped walks.ready

    come : AllCome images (rest ++ w ∷ []) roots
    come = subst (λ ws. AllCome images ws roots) popped walks.come

    -- all arguments of a term that is finished have their images
    finish_ready : (t : TermId) → w ≡ Finish t → AllCome images [] (args_at old t)
    finish_ready t e = (subst (λ v. Ready old images (v ∷ [])) e (Ready-last old images rest (w ∷ []) ready)).0

    finish_in : (t : TermId) → w ≡ Finish t → IsOpened old by goals t
    finish_in t e = subst (WorkIn old by goals) e all_in.1

    made_is : (t : TermId) → w ≡ Finish t → over_images a images t ≡ substitute by (tree old t)
    made_is t e = over_images-is a images t walks.grows walks.images_are (finish_in t e) (finish_ready t e)

    made_part : (t : TermId) → w ≡ Finish t → is_part_of goals (over_images a images t) ≡ true
    made_part t e = ap (is_part_of goals) (made_is t e) ∙ (finish_in t e).wanted.part

    adds : (v : Work) → w ≡ v → Extends a b → AddsFor a images b v → AddsParts old b goals
    adds (Visit t) e grows same = subst (λ c. AddsParts old c goals) (sym same) walks.only
    adds (Finish t) e grows only = more_parts a b (over_images a images t) walks.grows grows walks.only only (made_part t e)

    pub turn_adds : Extends a b → AddsFor a images b w → AddsParts old b goals
    turn_adds grows only = adds w refl grows only

    lacks : (v : Work) → w ≡ v → LacksFor a images b v → LacksPart b goals
    lacks (Visit t) e none = absurd none
    lacks (Finish t) e lack = record { missing = over_images a images t; part = made_part t e; lacks = lack }

    pub turn_lacks : LacksFor a images b w → LacksPart b goals
    turn_lacks lack = lacks w refl lack

    -- a visit of what has an image
    known_turn : (t v : TermId) → w ≡ Visit t → image_of images t ≡ Some v → left ≡ rest → b ≡ a → more ≡ images → Walks old b by goals roots left more
    known_turn t v e there same_works same_arena same_images =
        let sub = done_comes images images w (ap (λ x. is_some (image_of images (id_of x))) e ∙ some_is (image_of images t) v there) (λ x f. f) in
        subst (λ c. Walks old c by goals roots left more) (sym same_arena)
        (subst (λ ws. Walks old a by goals roots ws more) (sym same_works)
        (subst (λ ms. Walks old a by goals roots rest ms) (sym same_images)
        (record {
          grows = walks.grows;
          only = walks.only;
          images_are = walks.images_are;
          covers = walks.covers;
          works_in = all_in.0;
          ready = subst (Ready old images) (append-nil rest) (Ready-behind images images (w ∷ []) [] sub old rest ready tt);
          come = subst (λ ws. AllCome images ws roots) (append-nil rest) (AllCome-behind images images (w ∷ []) [] sub rest roots come);
        })))

    -- a visit of what has none
    opened_turn : (t : TermId) → w ≡ Visit t → image_of images t ≡ None → left ≡ (rest ++ Finish t ∷ []) ++ visits (args_at a t) → b ≡ a → more ≡ images → Walks old b by goals roots left more
    opened_turn t e none is same_arena same_images =
        let wanted : IsWanted old by goals t = subst (WorkIn old by goals) e all_in.1 in
        let args = args_at old t in
        let same_args : args_at a t ≡ args = args-Extends old a walks.grows t wanted.there in
        let same_works : left ≡ rest ++ Finish t ∷ visits args =
        is ∙ (ap (λ ts. (rest ++ Finish t ∷ []) ++ visits ts) same_args ∙ append_assoc rest (Finish t ∷ []) (visits args)) in
        let opens : IsOpened old by goals t = record { wanted = wanted; free = walks.covers.free t wanted.there none } in
        let sub : (x : TermId) → comes images (w ∷ []) x ≡ true → comes images (Finish t ∷ visits args) x ≡ true = λ x f. opened_comes images t (visits args) x (subst (λ v. comes images (v ∷ []) x ≡ true) e f) in
        subst (λ c. Walks old c by goals roots left more) (sym same_arena)
        (subst (λ ws. Walks old a by goals roots ws more) (sym same_works)
        (subst (λ ms. Walks old a by goals roots (rest ++ Finish t ∷ visits args) ms) (sym same_images)
        (record {
          grows = walks.grows;
          only = walks.only;
          images_are = walks.images_are;
          covers = walks.covers;
          works_in = WorksIn-append old by goals rest (Finish t ∷ visits args) all_in.0 (opens, wanted_args t opens);
          ready = Ready-behind images images (w ∷ []) (Finish t ∷ visits args) sub old rest ready (visits-come images args, Ready-visits old images args);
          come = AllCome-behind images images (w ∷ []) (Finish t ∷ visits args) sub rest roots come;
        })))

    -- a term that is finished
    finished_turn : (t : TermId) → w ≡ Finish t → Finishes a t images b more → left ≡ rest → Extends a b → AddsParts old b goals → Walks old b by goals roots left more
    finished_turn t e f same_works grows parts =
        let opens = finish_in t e in
        let is : IsImage old b by t f.image = record {
          key = opens.wanted.there;
          there = f.there;
          is_tree = f.is_tree ∙ made_is t e;
          is_sort = f.is_sort ∙ sort_at-Extends walks.grows t opens.wanted.there;
        } in
        let sub = done_comes images more w (ap (λ x. is_some (image_of more (id_of x))) e ∙ put_there t f.image images more f.puts) (put_keeps t f.image images more f.puts) in
        subst (λ ws. Walks old b by goals roots ws more) (sym same_works)
        (record {
          grows = Extends-trans walks.grows grows;
          only = parts;
          images_are = put_image b images more t f.image (AreImages-Extends a b images grows walks.images_are) f.puts is;
          covers = put_covers images more t f.image walks.covers f.puts;
          works_in = all_in.0;
          ready = subst (Ready old more) (append-nil rest) (Ready-behind images more (w ∷ []) [] sub old rest ready tt);
          come = subst (λ ws. AllCome more ws roots) (append-nil rest) (AllCome-behind images more (w ∷ []) [] sub rest roots come);
        })

    visited_turn : (t : TermId) → w ≡ Visit t → Visits a t images rest left → b ≡ a → more ≡ images → Walks old b by goals roots left more
    visited_turn t e (known v there is) same_arena same_images = known_turn t v e there is same_arena same_images
    visited_turn t e (opened none is) same_arena same_images = opened_turn t e none is same_arena same_images

    step_turn : Steps a w rest images b left more → Extends a b → AddsParts old b goals → Walks old b by goals roots left more
    step_turn (visited t e v same_arena same_images) grows parts = visited_turn t e v same_arena same_images
    step_turn (finished t e f same_works) grows parts = finished_turn t e f same_works grows parts

    -- what is true before a step is true after it
    pub turn : Steps a w rest images b left more → Extends a b → AddsFor a images b w → Walks old b by goals roots left more
    turn step grows only = step_turn step grows (turn_adds grows only)

    -- ---- measures

    rest_less : (v : Work) → w ≡ v → 0 < weight old v → left ≡ rest → weights old left < weights old works
    rest_less v e positive same =
        let total : weights old works ≡ weights old rest + (weight old v + 0) = ap (weights old) popped ∙ (weights-append old rest (w ∷ []) ∙ ap (λ u. weights old rest + (weight old u + 0)) e) in
        let fewer : weights old left ≡ weights old rest = ap (weights old) same in
        omega (arith, total, fewer, positive)

    opened_less : (t : TermId) → w ≡ Visit t → left ≡ (rest ++ Finish t ∷ []) ++ visits (args_at a t) → weights old left < weights old works
    opened_less t e is =
        let wanted : IsWanted old by goals t = subst (WorkIn old by goals) e all_in.1 in
        let args = args_at old t in
        let same_args : args_at a t ≡ args = args-Extends old a walks.grows t wanted.there in
        let total : weights old works ≡ weights old rest + (weight old (Visit t) + 0) = ap (weights old) popped ∙ (weights-append old rest (w ∷ []) ∙ ap (λ u. weights old rest + (weight old u + 0)) e) in
        let after : weights old left ≡ weights old rest + (1 + weights old (visits args)) =
        ap (weights old) (is ∙ (ap (λ ts. (rest ++ Finish t ∷ []) ++ visits ts) same_args ∙ append_assoc rest (Finish t ∷ []) (visits args)))
        ∙ weights-append old rest (Finish t ∷ visits args) in
        let is_size : size (tree old t) ≡ suc (sizes (trees old args)) = ap size (tree-args old ok t wanted.there) in
        smaller (weights old left) (weights old works) (weights old rest) (weights old (visits args)) (sizes (trees old args)) (size (tree old t)) after total (weights-visits old args) is_size
      where
        smaller : (l ws r v n s : ℕ) → l ≡ r + (1 + v) → ws ≡ r + (2 * s + 0) → v ≡ 2 * n → s ≡ suc n → l < ws
        smaller l ws r v n s e f g h = omega (arith, e, f, g, h)

    visited_less : (t : TermId) → w ≡ Visit t → Visits a t images rest left → weights old left < weights old works
    visited_less t e (known v there is) = rest_less (Visit t) e (let p = size_positive (tree old t) in omega (arith, p)) is
    visited_less t e (opened none is) = opened_less t e is

    -- each step leaves less to be done
    pub turn_less : Steps a w rest images b left more → weights old left < weights old works
    turn_less (visited t e v same_arena same_images) = visited_less t e v
    turn_less (finished t e f same_works) = rest_less (Finish t) e (omega arith) same_works

-- ---- the end

-- what `pop` says where there is nothing
pub nothing_popped : (works rest : List Work) (count : ℕ) → works ≡ rest ++ [] → rest ≡ take (count - 1) works → count ≡ 0 → works ≡ []
nothing_popped works rest count e f g =
    let none : count - 1 ≡ 0 = omega (arith, g) in
    e ∙ (append-nil rest ∙ (f ∙ ap (λ n. take n works) none))

module _ (old : Arena) (ok : IsArena old) (by : Replacement) (goals : List Term) (a : Arena) (roots : List TermId) (works : List Work)
    (images : List (TermId × TermId)) (answers : List TermId) (nothing_left : works ≡ []) (are : answers ≡ map (image_or images) roots) (walks : Walks old a by goals roots works images) where
  all_come : AllCome images [] roots
  all_come = subst (λ ws. AllCome images ws roots) nothing_left walks.come

  pub ends_trees : map (tree a) answers ≡ map (substitute by) (map (tree old) roots)
  ends_trees = ap (map (tree a)) are ∙ images_map old ok by goals a images walks.images_are roots all_come

  pub ends_sorts : sorts_at a answers ≡ sorts_at old roots
  ends_sorts = ap (sorts_at a) are ∙ images_sorts old ok by goals a images walks.images_are roots all_come

  pub ends_in_range : AllBelow (length a.nodes) answers
  ends_in_range = subst (AllBelow (length a.nodes)) (sym are) (images_in_range old ok by goals a images walks.images_are roots all_come)

-- ---- the beginning

module _ (old : Arena) (ok : IsArena old) (pairs : List (TermId × TermId)) (fit : ArePairs old pairs) where
  abbrev by_pairs : Replacement
  by_pairs = pairs_at old pairs

  pair_is : (k v : TermId) → image_of pairs k ≡ Some v → IsImage old old by_pairs k v
  pair_is k v e =
      let p = image-pair old ok pairs k v fit e in
      let put : by_pairs (head_at old k) ≡ Some (tree old v) = pairs-image old ok pairs k fit p.variable_there ∙ ap (option_map (tree old)) e in
      record {
        key = p.variable_there;
        there = p.term_there;
        is_tree = sym (ap (substitute by_pairs) (tree-args old ok k p.variable_there) ∙ substitute-variable by_pairs (head_at old k) (trees old (args_at old k)) (tree old v) p.variable put);
        is_sort = p.same_sort;
      }

  roots_wanted : (goals : List Term) (roots : List TermId) → AllBelow (length old.nodes) roots
      → ((x : Term) → is_part_of (map (substitute by_pairs) (map (tree old) roots)) x ≡ true → is_part_of goals x ≡ true) → WorksIn old by_pairs goals (visits roots)
  roots_wanted goals [] below inside = tt
  roots_wanted goals (t ∷ ts) below inside =
      let x = substitute by_pairs (tree old t) in
      let others = map (substitute by_pairs) (map (tree old) ts) in
      WorksIn-append old by_pairs goals (visits ts) (Visit t ∷ [])
      (roots_wanted goals ts below.1 (λ y e. inside y (or_right (is_part y x) (is_part_of others y) e)))
      (record { there = below.0; part = inside x (or_left (is_part x x) (is_part_of others x) (is_part-refl x)) }, tt)

  -- before the first step
  pub begins : (roots : List TermId) (works start : List Work) (images : List (TermId × TermId)) → AllBelow (length old.nodes) roots → works ≡ start ++ visits roots → start ≡ [] → SameImages images pairs
      → Walks old old by_pairs (substituted old pairs roots) roots works images
  begins roots works start images below is empty same =
      subst (λ ws. Walks old old by_pairs (substituted old pairs roots) roots ws images) (sym (is ∙ ap (λ ws. ws ++ visits roots) empty)) (record {
        grows = Extends-refl old;
        only = record { part = λ u low high. absurd (omega arith) };
        images_are = record { each = λ k v e. pair_is k v (sym (same.image k) ∙ e) };
        covers = record { free = λ k there e. pairs-image old ok pairs k fit there ∙ ap (option_map (tree old)) (sym (same.image k) ∙ e) };
        works_in = roots_wanted (substituted old pairs roots) roots below (λ x e. e);
        ready = Ready-visits old images roots;
        come = visits-come images roots;
      })
