-- Going through terms by their ids, over plain variables.
use Rattle.std.proofs.Common.{◌≡◌, ℕ, suc, ◌+◌, ◌*◌, ◌<◌, Bool, true, false, cond, ◌||◌, List, [], ◌∷◌, ◌++◌, map, length, drop, slice_get, refl, sym, ap, ◌∙◌, subst, Some, nat_eq, get_or, Result, Ok, Err, OnOk, arith}
use Rattle.std.specs.List.{list_any}
use Rattle.std.specs.Prelude.{pos, slice_index_or}
use Rattle.std.proofs.lemmas.Bool.{false≢true, eq-eqb, eqb-true}
use Rattle.std.proofs.lemmas.List.{map-append, append_assoc, drop_more}
use Rattle.std.proofs.lemmas.Option.{slice_get-get_or}
use Rattle.spv_logic.specs.declared.conditions.TermId.{TermId}
use Rattle.spv_logic.specs.declared.types.Sort.{Sort}
use Rattle.spv_logic.specs.declared.types.Sort.TheVariants as sort
use Rattle.spv_logic.specs.Terms.{Term, Terms, term, no_terms, term_eq, sort_eq}
use Rattle.spv_logic.proofs.Equality.{term_eq-true, term_eq-refl}
use Rattle.spv_term.specs.declared.nodes.Node.{Node}
use Rattle.spv_logic.specs.declared.operators.Head.TheVariants.{Num}
use Rattle.spv_term.specs.Arena.{Arena, trees_of, IsArena, AllBelow, tree, trees, sort_at}
use Rattle.spv_term.proofs.ArenaLemmas.{tree-node, args_in_range, HasOneId-arena, IsWellSorted-arena}
use Rattle.spv_term.proofs.TreeLemmas.{AllBelow-append}
use Rattle.spv_atoms.specs.declared.walk.Through.{Through}
use Rattle.spv_atoms.specs.declared.walk.Work.{Work}
use Rattle.spv_atoms.specs.declared.walk.Work.TheVariants.{Visit, Finish}
use Rattle.spv_atoms.specs.Atoms.{has_sort, is_truth, connects, is_connective, with_term}
use Rattle.spv_atoms.specs.Tables.{all_truths}
use Rattle.spv_atoms.specs.Order.{is_sum_head, is_sum, has_meaning_head, has_meaning, order, order_all, size, sizes, enters_in, same_id, with_id, visits, done_by, after, weight, weights, WorkIn, WorksIn, IsStep, Inside}

-- ---- sorts

pub sort_eq-other : (s : Sort) → (s ≡ sort.Bool → ⊥) → false ≡ sort_eq s sort.Bool
sort_eq-other sort.Bool e = absurd (e refl)
sort_eq-other _ e = refl

pub truth-at : (a : Arena) → IsArena a → (t : TermId) → t.0 < length a.nodes → is_truth a.shapes a.decls (tree a t) ≡ sort_eq (sort_at a t) sort.Bool
truth-at a ok t h = ap (has_sort sort.Bool) (IsWellSorted-arena a ok t h)

abbrev pub are_truths : Arena → List TermId → Bool
are_truths a ts = all_truths (is_truth a.shapes a.decls) (trees a ts)

-- ---- heads

module _ (a : Arena) (ok : IsArena a) (t : TermId) (n : Node) (at : slice_get a.nodes t.0 ≡ Some n) where
  pub connective_at : (args : List TermId) (b : Bool) → args ≡ n.args → b ≡ connects (are_truths a args) n.head → b ≡ is_connective (is_truth a.shapes a.decls) (tree a t)
  connective_at args b e f =
      f ∙ (ap (λ ts. connects (are_truths a ts) n.head) e ∙ ap (is_connective (is_truth a.shapes a.decls)) (sym (tree-node a ok t n at)))

  pub sum_at : (b : Bool) → b ≡ is_sum_head n.head → b ≡ is_sum (tree a t)
  sum_at b f = f ∙ ap is_sum (sym (tree-node a ok t n at))

  pub meaning_at : (b : Bool) → b ≡ has_meaning_head n.head → b ≡ has_meaning (tree a t)
  meaning_at b f = f ∙ ap has_meaning (sym (tree-node a ok t n at))

  pub args_at : (args : List TermId) → args ≡ n.args → AllBelow (length a.nodes) args
  args_at args e = subst (AllBelow (length a.nodes)) (sym e) (args_in_range a ok t n at)

-- ---- answers

pub on_ok : {T E : Type 0} (r : Result T E) (P Q : Type 0) → OnOk r P → (P → Q) → OnOk r Q
on_ok (Ok x) P Q p go = go p
on_ok (Err e) P Q p go = tt

-- ---- visits

pub visits-drop : (ts : List TermId) (i : ℕ) (d : TermId) → i < length ts → visits (drop i ts) ≡ visits (drop (i + 1) ts) ++ Visit (get_or ts i d) ∷ []
visits-drop ts i d h = ap visits (drop_more ts i d h)

-- one visit more
pub visits-more : (start before after : List Work) (ts : List TermId) (k i : ℕ) (d : TermId) → before ≡ start ++ visits (drop k ts) → k ≡ i + 1 → i < length ts
    → after ≡ before ++ Visit (get_or ts i d) ∷ [] → after ≡ start ++ visits (drop i ts)
visits-more start before after ts k i d e f h g =
    g ∙ (ap (λ ws. ws ++ Visit (get_or ts i d) ∷ []) (e ∙ ap (λ j. start ++ visits (drop j ts)) f)
    ∙ (append_assoc start (visits (drop (i + 1) ts)) (Visit (get_or ts i d) ∷ []) ∙ ap (λ ws. start ++ ws) (sym (visits-drop ts i d h))))

-- ---- ids and trees

-- the tree of the id of this number
abbrev tree_at : Arena → ℕ → Term
tree_at a n = slice_index_or (trees_of a.nodes) n (term (Num (pos 0)) no_terms)

module _ (a : Arena) (ok : IsArena a) where
  pub term_eq-ids : (t u : TermId) → t.0 < length a.nodes → u.0 < length a.nodes → same_id t u ≡ term_eq (tree a t) (tree a u)
  term_eq-ids t u h k = by_case (term_eq (tree a t) (tree a u)) refl (nat_eq t.0 u.0) refl
    where
      same_number : (x y : TermId) → nat_eq x.0 y.0 ≡ true → tree a x ≡ tree a y
      same_number x y e = ap (tree_at a) (eqb-true x.0 y.0 e)

      by_case : (b : Bool) → term_eq (tree a t) (tree a u) ≡ b → (d : Bool) → nat_eq t.0 u.0 ≡ d → d ≡ b
      by_case true e true f = refl
      by_case true e false f = absurd (false≢true (sym f ∙ eq-eqb t.0 u.0 (ap (λ (x : TermId). x.0) (HasOneId-arena a ok t u h k (term_eq-true (tree a t) (tree a u) e)))))
      by_case false e true f = absurd (false≢true (sym e ∙ (ap (λ x. term_eq x (tree a u)) (same_number t u f) ∙ term_eq-refl (tree a u))))
      by_case false e false f = refl

  pub has-trees : (t : TermId) (ids : List TermId) → t.0 < length a.nodes → AllBelow (length a.nodes) ids → list_any (same_id t) ids ≡ list_any (term_eq (tree a t)) (map (tree a) ids)
  has-trees t [] h k = refl
  has-trees t (u ∷ ids) h k =
      ap (λ b. b || list_any (same_id t) ids) (term_eq-ids t u h k.0) ∙ ap (λ b. term_eq (tree a t) (tree a u) || b) (has-trees t ids h k.1)

  pub with_id-trees : (ids : List TermId) (t : TermId) → t.0 < length a.nodes → AllBelow (length a.nodes) ids → map (tree a) (with_id ids t) ≡ with_term (map (tree a) ids) (tree a t)
  with_id-trees ids t h k =
      by_case (list_any (same_id t) ids) ∙ ap (λ b. cond b (map (tree a) ids) (map (tree a) ids ++ tree a t ∷ [])) (has-trees t ids h k)
    where
      by_case : (b : Bool) → map (tree a) (cond b ids (ids ++ t ∷ [])) ≡ cond b (map (tree a) ids) (map (tree a) ids ++ tree a t ∷ [])
      by_case true = refl
      by_case false = map-append (tree a) ids (t ∷ [])

  pub with_id-in : (ids : List TermId) (t : TermId) → t.0 < length a.nodes → AllBelow (length a.nodes) ids → AllBelow (length a.nodes) (with_id ids t)
  with_id-in ids t h k = by_case (list_any (same_id t) ids)
    where
      by_case : (b : Bool) → AllBelow (length a.nodes) (cond b ids (ids ++ t ∷ []))
      by_case true = k
      by_case false = AllBelow-append (length a.nodes) ids (t ∷ []) k (h, tt)

  -- ---- works

  module _ (through : Through) where
    after-append : (xs ys : List Work) (done : List Term) → after a through (xs ++ ys) done ≡ after a through xs (after a through ys done)
    after-append [] ys done = refl
    after-append (x ∷ xs) ys done = ap (done_by a through x) (after-append xs ys done)

    pub after-visits : (ts : List TermId) (done : List Term) → after a through (visits ts) done ≡ order_all (enters_in a through) (trees a ts) done
    after-visits [] done = refl
    after-visits (t ∷ ts) done = after-append (visits ts) (Visit t ∷ []) done ∙ after-visits ts (order (enters_in a through) (tree a t) done)

    weights-append : (xs ys : List Work) → weights a (xs ++ ys) ≡ weights a xs + weights a ys
    weights-append [] ys = omega arith
    weights-append (x ∷ xs) ys = let e = weights-append xs ys in omega (arith, e)

    weights-visits : (ts : List TermId) → weights a (visits ts) ≡ 2 * sizes (trees a ts)
    weights-visits [] = refl
    weights-visits (t ∷ ts) =
        let e = weights-append (visits ts) (Visit t ∷ []) in
        let f = weights-visits ts in
        let g : weights a (Visit t ∷ []) ≡ 2 * size (tree a t) + 0 = refl in
        let k : sizes (trees a (t ∷ ts)) ≡ size (tree a t) + sizes (trees a ts) = refl in
        e ∙ total (weights a (visits ts)) (sizes (trees a ts)) (size (tree a t)) f
      where
        total : (w n m : ℕ) → w ≡ 2 * n → w + (2 * m + 0) ≡ 2 * (m + n)
        total w n m e = omega (arith, e)

    WorksIn-append : (xs ys : List Work) → WorksIn a xs → WorksIn a ys → WorksIn a (xs ++ ys)
    WorksIn-append [] ys h k = k
    WorksIn-append (x ∷ xs) ys h k = (h.0, WorksIn-append xs ys h.1 k)

    pub WorksIn-visits : (ts : List TermId) → AllBelow (length a.nodes) ts → WorksIn a (visits ts)
    WorksIn-visits [] h = tt
    WorksIn-visits (t ∷ ts) h = WorksIn-append (visits ts) (Visit t ∷ []) (WorksIn-visits ts h.1) (h.0, tt)

    -- ---- steps

    module _ (works : List Work) (done : List TermId) (works_in : WorksIn a works) (done_in : AllBelow (length a.nodes) done) (t : TermId) (t_in : t.0 < length a.nodes) where
      pub step_finish : (more : List TermId) → more ≡ with_id done t → IsStep a through (Finish t) works done works more
      step_finish more e = record {
        same = ap (λ ids. after a through works (map (tree a) ids)) e ∙ ap (after a through works) (with_id-trees done t t_in done_in);
        less = omega arith;
        works_in = works_in;
        done_in = subst (AllBelow (length a.nodes)) (sym e) (with_id-in done t t_in done_in);
      }

      size_positive : (x : Term) → 0 < size x
      size_positive (term h ts) = omega arith

      -- the order of a term by whether it is known and is gone through
      abbrev ordered_by : Bool → Bool → Term → List Term → List Term
      ordered_by known inside x before = cond known before (with_term (cond inside before before) x)

      known_is : (x : Term) (before : List Term) → list_any (term_eq x) before ≡ true → order (enters_in a through) x before ≡ before
      known_is (term h ts) before e =
          ap (λ b. cond b before (with_term (cond (enters_in a through (term h ts)) (order_all (enters_in a through) ts before) before) (term h ts))) e

      leaf_is : (x : Term) (before : List Term) → list_any (term_eq x) before ≡ false → enters_in a through x ≡ false → order (enters_in a through) x before ≡ with_term before x
      leaf_is (term h ts) before e f =
          ap (λ b. cond b before (with_term (cond (enters_in a through (term h ts)) (order_all (enters_in a through) ts before) before) (term h ts))) e
          ∙ ap (λ b. with_term (cond b (order_all (enters_in a through) ts before) before) (term h ts)) f

      inside_is : (h : _) (ts : Terms) (before : List Term) → list_any (term_eq (term h ts)) before ≡ false → enters_in a through (term h ts) ≡ true
          → order (enters_in a through) (term h ts) before ≡ with_term (order_all (enters_in a through) ts before) (term h ts)
      inside_is h ts before e f =
          ap (λ b. cond b before (with_term (cond (enters_in a through (term h ts)) (order_all (enters_in a through) ts before) before) (term h ts))) e
          ∙ ap (λ b. with_term (cond b (order_all (enters_in a through) ts before) before) (term h ts)) f

      pub step_known : list_any (same_id t) done ≡ true → IsStep a through (Visit t) works done works done
      step_known e = record {
        same = ap (after a through works) (sym (known_is (tree a t) (map (tree a) done) (sym (has-trees t done t_in done_in) ∙ e)));
        less = let p = size_positive (tree a t) in omega (arith, p);
        works_in = works_in;
        done_in = done_in;
      }

      pub step_leaf : (more : List TermId) → list_any (same_id t) done ≡ false → enters_in a through (tree a t) ≡ false → IsStep a through (Finish t) works done works more → IsStep a through (Visit t) works done works more
      step_leaf more e f s = record {
        same = s.same ∙ ap (after a through works) (sym (leaf_is (tree a t) (map (tree a) done) (sym (has-trees t done t_in done_in) ∙ e) f));
        less = let p = size_positive (tree a t) in omega (arith, p);
        works_in = works_in;
        done_in = s.done_in;
      }

      pub step_inside : (left : List Work) → list_any (same_id t) done ≡ false → enters_in a through (tree a t) ≡ true
          → Inside a t works left → IsStep a through (Visit t) works done left done
      step_inside left e f inside = record {
        same =
            ap (λ ws. after a through ws before) all
            ∙ (after-append works (Finish t ∷ visits n.args) before
            ∙ ap (after a through works) (ap (λ d. with_term d (tree a t)) (after-visits n.args before) ∙ sym whole));
        less = less;
        works_in = subst (WorksIn a) (sym all) (WorksIn-append works (Finish t ∷ visits n.args) works_in (t_in, WorksIn-visits n.args (args_in_range a ok t n at)));
        done_in = done_in;
      }
        where
          n : Node
          n = get_or a.nodes t.0 (record { head = Num (pos 0); args = [] })

          at : slice_get a.nodes t.0 ≡ Some n
          at = slice_get-get_or a.nodes t.0 (record { head = Num (pos 0); args = [] }) t_in

          before : List Term
          before = map (tree a) done

          shape : tree a t ≡ term n.head (trees a n.args)
          shape = tree-node a ok t n at

          all : left ≡ works ++ Finish t ∷ visits n.args
          all = inside n at ∙ append_assoc works (Finish t ∷ []) (visits n.args)

          whole : order (enters_in a through) (tree a t) before ≡ with_term (order_all (enters_in a through) (trees a n.args) before) (tree a t)
          whole =
              ap (λ x. order (enters_in a through) x before) shape
              ∙ (inside_is n.head (trees a n.args) before
              (ap (λ x. list_any (term_eq x) before) (sym shape) ∙ (sym (has-trees t done t_in done_in) ∙ e))
              (ap (enters_in a through) (sym shape) ∙ f)
              ∙ ap (with_term (order_all (enters_in a through) (trees a n.args) before)) (sym shape))

          weight_is : size (tree a t) ≡ suc (sizes (trees a n.args))
          weight_is = ap size shape

          less : weights a left < weights a works + weight a (Visit t)
          less =
              let total = ap (weights a) all ∙ weights-append works (Finish t ∷ visits n.args) in
              let more = weights-visits n.args in
              smaller (weights a left) (weights a works) (weights a (visits n.args)) (sizes (trees a n.args)) (size (tree a t)) total more weight_is
            where
              smaller : (l w v n s : ℕ) → l ≡ w + (1 + v) → v ≡ 2 * n → s ≡ suc n → l < w + 2 * s
              smaller l w v n s e f g = omega (arith, e, f, g)

    -- ---- turns of the loop

    -- all of it is still to be done
    pub record Starts (roots : List TermId) (works : List Work) (done : List TermId) : Type 0 where
      pub same : after a through works (map (tree a) done) ≡ order_all (enters_in a through) (trees a roots) []
      pub works_in : WorksIn a works
      pub done_in : AllBelow (length a.nodes) done

    pub starts_with : (roots : List TermId) (works before : List Work) (done : List TermId) → works ≡ before ++ visits roots → before ≡ [] → done ≡ [] → AllBelow (length a.nodes) roots → Starts roots works done
    starts_with roots works before done e f g h =
        let all : works ≡ visits roots = e ∙ ap (λ ws. ws ++ visits roots) f in
        record {
          same = (λ i. after a through (all i) (map (tree a) (g i))) ∙ after-visits roots [];
          works_in = subst (WorksIn a) (sym all) (WorksIn-visits roots h);
          done_in = subst (AllBelow (length a.nodes)) (sym g) tt;
        }

    pub popped_in : (works rest : List Work) (w : Work) → works ≡ rest ++ w ∷ [] → WorksIn a works → WorksIn a rest × WorkIn a w
    popped_in works rest w e h = parts rest (subst (WorksIn a) e h)
      where
        parts : (ws : List Work) → WorksIn a (ws ++ w ∷ []) → WorksIn a ws × WorkIn a w
        parts [] h = (tt, h.0)
        parts (x ∷ ws) h = let others = parts ws h.1 in ((h.0, others.0), others.1)

    module _ (works rest left : List Work) (w : Work) (done more : List TermId) (popped : works ≡ rest ++ w ∷ []) (s : IsStep a through w rest done left more) where
      pub turn_less : weights a left < weights a works
      turn_less =
          let total = ap (weights a) popped ∙ weights-append rest (w ∷ []) in
          smaller (weights a left) (weights a works) (weights a rest) (weight a w) s.less total
        where
          smaller : (l ws r x : ℕ) → l < r + x → ws ≡ r + (x + 0) → l < ws
          smaller l ws r x h e = omega (arith, h, e)

      pub turn_same : (goal : List Term) → after a through works (map (tree a) done) ≡ goal → after a through left (map (tree a) more) ≡ goal
      turn_same goal e = s.same ∙ (sym (after-append rest (w ∷ []) (map (tree a) done)) ∙ (ap (λ ws. after a through ws (map (tree a) done)) (sym popped) ∙ e))
