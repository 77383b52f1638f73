-- Going through terms by their ids, over plain variables.
use Rattle.std.proofs.Common.{◌≡◌, ℕ, zero, suc, ◌+◌, ◌*◌, ◌<◌, true, false, cond, List, [], ◌∷◌, ◌++◌, map, take, length, slice_get, get_or, refl, sym, ap, ◌∙◌, subst, Some, pos, Result, Ok, Err, IfOk, OnOk, arith}
use Rattle.std.specs.List.{list_any}
use Rattle.std.specs.Option.{option_map}
use Rattle.std.proofs.lemmas.List.{append_assoc, take-map, take_all}
use Rattle.std.proofs.lemmas.Option.{slice_get-get_or, slice_get-map}
use Rattle.spv_logic.specs.declared.conditions.TermId.{TermId}
use Rattle.spv_logic.specs.declared.operators.Head.TheVariants.{Num}
use Rattle.spv_logic.specs.Terms.{Term, Terms, term, term_eq}
use Rattle.spv_term.specs.declared.nodes.Node.{Node}
use Rattle.spv_term.specs.Arena.{Arena, IsArena, AllBelow, tree, trees}
use Rattle.spv_term.proofs.ArenaLemmas.{tree-node, args_in_range}
use Rattle.spv_atoms.specs.Atoms.{with_term}
use Rattle.spv_atoms.specs.Found.{AreReady}
use Rattle.spv_atoms.specs.Order.{order, order_all, size, sizes, same_id, with_id}
use Rattle.spv_atoms.proofs.Layers.{listed, arguments, Layered, order_all_layered, order_all_has}
use Rattle.spv_atoms.proofs.Members.{AllIn}
use Rattle.spv_atoms.proofs.Walks.{has-trees, with_id-trees, with_id-in}
use Rattle.spv_models.specs.leaf_models.Subterms.{enters_each, with_subterms, subterms}
use Rattle.spv_search_terms.specs.declared.subterms.walk.Work.{Work}
use Rattle.spv_search_terms.specs.declared.subterms.walk.Work.TheVariants.{Visit, Finish}
use Rattle.spv_search_terms.specs.subterms.Walk.{AreBehind, visits, done_by, after, weight, weights, WorkIn, WorksIn, IsStep, Inside}

-- ---- answers

pub on_ok : {T E : Type 0} (r : Result T E) (P Q : Type 0) → OnOk r P → (P → Q) → OnOk r Q
on_ok (Ok x) P Q p go = go p
on_ok (Err e) P Q p go = tt

pub if_ok : {T E : Type 0} (r : Result T E) (P Q : T → Type 0) → IfOk r P → ((x : T) → P x → Q x) → IfOk r Q
if_ok (Ok x) P Q p go = go x p
if_ok (Err e) P Q p go = tt

pub if_two : {T E : Type 0} (r : Result T E) (P Q R : T → Type 0) → IfOk r P → IfOk r Q → ((x : T) → P x → Q x → R x) → IfOk r R
if_two (Ok x) P Q R p q go = go x p q
if_two (Err e) P Q R p q go = tt

module _ (a : Arena) (ok : IsArena a) where
  -- ---- works

  after-append : (xs ys : List Work) (done : List Term) → after a (xs ++ ys) done ≡ after a xs (after a ys done)
  after-append [] ys done = refl
  after-append (x ∷ xs) ys done = ap (done_by a x) (after-append xs ys done)

  after-visits : (ts : List TermId) (done : List Term) → after a (visits ts) done ≡ order_all enters_each (trees a ts) done
  after-visits [] done = refl
  after-visits (t ∷ ts) done = after-append (visits ts) (Visit t ∷ []) done ∙ after-visits ts (order enters_each (tree a t) done)

  weights-append : (xs ys : List Work) → weights a (xs ++ ys) ≡ weights a xs + weights a ys
  weights-append [] ys = omega arith
  weights-append (x ∷ xs) ys = let e = weights-append xs ys in omega (arith, e)

  weights-visits : (ts : List TermId) → weights a (visits ts) ≡ 2 * sizes (trees a ts)
  weights-visits [] = refl
  weights-visits (t ∷ ts) = weights-append (visits ts) (Visit t ∷ []) ∙ total (weights a (visits ts)) (sizes (trees a ts)) (size (tree a t)) (weights-visits ts)
    where
      total : (w n m : ℕ) → w ≡ 2 * n → w + (2 * m + 0) ≡ 2 * (m + n)
      total w n m e = omega (arith, e)

  WorksIn-append : (xs ys : List Work) → WorksIn a xs → WorksIn a ys → WorksIn a (xs ++ ys)
  WorksIn-append [] ys h k = k
  WorksIn-append (x ∷ xs) ys h k = (h.0, WorksIn-append xs ys h.1 k)

  WorksIn-visits : (ts : List TermId) → AllBelow (length a.nodes) ts → WorksIn a (visits ts)
  WorksIn-visits [] h = tt
  WorksIn-visits (t ∷ ts) h = WorksIn-append (visits ts) (Visit t ∷ []) (WorksIn-visits ts h.1) (h.0, tt)

  -- ---- steps

  module _ (works : List Work) (done : List TermId) (works_in : WorksIn a works) (done_in : AllBelow (length a.nodes) done) (t : TermId) (t_in : t.0 < length a.nodes) where
    pub step_finish : (more : List TermId) → more ≡ with_id done t → IsStep a (Finish t) works done works more
    step_finish more e = record {
      same = ap (λ ids. after a works (map (tree a) ids)) e ∙ ap (after a works) (with_id-trees a ok done t t_in done_in);
      less = omega arith;
      works_in = works_in;
      done_in = subst (AllBelow (length a.nodes)) (sym e) (with_id-in a ok done t t_in done_in);
    }

    size_positive : (x : Term) → 0 < size x
    size_positive (term h ts) = omega arith

    known_is : (x : Term) (before : List Term) → list_any (term_eq x) before ≡ true → order enters_each x before ≡ before
    known_is (term h ts) before e = ap (λ b. cond b before (with_term (order_all enters_each ts before) (term h ts))) e

    inside_is : (h : _) (ts : Terms) (before : List Term) → list_any (term_eq (term h ts)) before ≡ false → order enters_each (term h ts) before ≡ with_term (order_all enters_each ts before) (term h ts)
    inside_is h ts before e = ap (λ b. cond b before (with_term (order_all enters_each ts before) (term h ts))) e

    pub step_known : list_any (same_id t) done ≡ true → IsStep a (Visit t) works done works done
    step_known e = record {
      same = ap (after a works) (sym (known_is (tree a t) (map (tree a) done) (sym (has-trees a ok t done t_in done_in) ∙ e)));
      less = let p = size_positive (tree a t) in omega (arith, p);
      works_in = works_in;
      done_in = done_in;
    }

    pub step_inside : (left : List Work) → list_any (same_id t) done ≡ false → Inside a t works left → IsStep a (Visit t) works done left done
    step_inside left e inside = record {
      same =
          ap (λ ws. after a ws before) all
          ∙ (after-append works (Finish t ∷ visits n.args) before
          ∙ ap (after a works) (ap (λ d. with_term d (tree a t)) (after-visits n.args before) ∙ sym whole));
      less = less;
      works_in = subst (WorksIn a) (sym all) (WorksIn-append works (Finish t ∷ visits n.args) works_in (t_in, WorksIn-visits n.args (args_in_range a ok t n at)));
      done_in = done_in;
    }
      where
        n : Node
        n = get_or a.nodes t.0 (record { head = Num (pos 0); args = [] })

        at : slice_get a.nodes t.0 ≡ Some n
        at = slice_get-get_or a.nodes t.0 (record { head = Num (pos 0); args = [] }) t_in

        before : List Term
        before = map (tree a) done

        shape : tree a t ≡ term n.head (trees a n.args)
        shape = tree-node a ok t n at

        all : left ≡ works ++ Finish t ∷ visits n.args
        all = inside n at ∙ append_assoc works (Finish t ∷ []) (visits n.args)

        whole : order enters_each (tree a t) before ≡ with_term (order_all enters_each (trees a n.args) before) (tree a t)
        whole =
            ap (λ x. order enters_each x before) shape
            ∙ (inside_is n.head (trees a n.args) before (ap (λ x. list_any (term_eq x) before) (sym shape) ∙ (sym (has-trees a ok t done t_in done_in) ∙ e))
            ∙ ap (with_term (order_all enters_each (trees a n.args) before)) (sym shape))

        weight_is : size (tree a t) ≡ suc (sizes (trees a n.args))
        weight_is = ap size shape

        less : weights a left < weights a works + weight a (Visit t)
        less =
            let total = ap (weights a) all ∙ weights-append works (Finish t ∷ visits n.args) in
            let more = weights-visits n.args in
            smaller (weights a left) (weights a works) (weights a (visits n.args)) (sizes (trees a n.args)) (size (tree a t)) total more weight_is
          where
            smaller : (l w v n s : ℕ) → l ≡ w + (1 + v) → v ≡ 2 * n → s ≡ suc n → l < w + 2 * s
            smaller l w v n s e f g = omega (arith, e, f, g)

  -- ---- turns of the loop

  -- all of it is still to be done
  pub record Starts (roots : List TermId) (works : List Work) (done : List TermId) : Type 0 where
    pub same : after a works (map (tree a) done) ≡ order_all enters_each (trees a roots) []
    pub works_in : WorksIn a works
    pub done_in : AllBelow (length a.nodes) done

  pub starts_with : (roots : List TermId) (works before : List Work) (done : List TermId) → works ≡ before ++ visits roots → before ≡ [] → done ≡ [] → AllBelow (length a.nodes) roots → Starts roots works done
  starts_with roots works before done e f g h =
      let all : works ≡ visits roots = e ∙ ap (λ ws. ws ++ visits roots) f in
      record {
        same = (λ i. after a (all i) (map (tree a) (g i))) ∙ after-visits roots [];
        works_in = subst (WorksIn a) (sym all) (WorksIn-visits roots h);
        done_in = subst (AllBelow (length a.nodes)) (sym g) tt;
      }

  pub popped_in : (works rest : List Work) (w : Work) → works ≡ rest ++ w ∷ [] → WorksIn a works → WorksIn a rest × WorkIn a w
  popped_in works rest w e h = parts rest (subst (WorksIn a) e h)
    where
      parts : (ws : List Work) → WorksIn a (ws ++ w ∷ []) → WorksIn a ws × WorkIn a w
      parts [] h = (tt, h.0)
      parts (x ∷ ws) h = let others = parts ws h.1 in ((h.0, others.0), others.1)

  module _ (works rest left : List Work) (w : Work) (done more : List TermId) (popped : works ≡ rest ++ w ∷ []) (s : IsStep a w rest done left more) where
    pub turn_less : weights a left < weights a works
    turn_less = smaller (weights a left) (weights a works) (weights a rest) (weight a w) s.less (ap (weights a) popped ∙ weights-append rest (w ∷ []))
      where
        smaller : (l ws r x : ℕ) → l < r + x → ws ≡ r + (x + 0) → l < ws
        smaller l ws r x h e = omega (arith, h, e)

    pub turn_same : (goal : List Term) → after a works (map (tree a) done) ≡ goal → after a left (map (tree a) more) ≡ goal
    turn_same goal e = s.same ∙ (sym (after-append rest (w ∷ []) (map (tree a) done)) ∙ (ap (λ ws. after a ws (map (tree a) done)) (sym popped) ∙ e))

  -- ---- what is reached

  subterms-order : (roots : List TermId) (done : List Term) → order_all enters_each (trees a roots) done ≡ with_subterms done (map (tree a) roots)
  subterms-order [] done = refl
  subterms-order (t ∷ ts) done = subterms-order ts (order enters_each (tree a t) done)

  pub are_subterms : (roots : List TermId) (ids : List TermId) → map (tree a) ids ≡ order_all enters_each (trees a roots) [] → map (tree a) ids ≡ subterms (map (tree a) roots)
  are_subterms roots ids e = e ∙ subterms-order roots []

  AllBelow-take : (n k : ℕ) (ts : List TermId) → AllBelow n ts → AllBelow n (take k ts)
  AllBelow-take n zero ts h = tt
  AllBelow-take n (suc k) [] h = tt
  AllBelow-take n (suc k) (t ∷ ts) h = (h.0, AllBelow-take n k ts h.1)

  all_ready : (ids : List TermId) → AllBelow (length a.nodes) ids → (i : ℕ) (ts : List TermId) → AllBelow (length a.nodes) ts → AllIn (take i (map (tree a) ids)) (listed (trees a ts)) → AreReady ids i ts
  all_ready ids h i [] k g = tt
  all_ready ids h i (u ∷ us) k g =
      (has-trees a ok u (take i ids) k.0 (AllBelow-take (length a.nodes) i ids h) ∙ (ap (λ xs. list_any (term_eq (tree a u)) xs) (sym (take-map (tree a) i ids)) ∙ g.0), all_ready ids h i us k.1 g.1)

  pub are_behind : (roots : List TermId) (ids : List TermId) → map (tree a) ids ≡ order_all enters_each (trees a roots) [] → AllBelow (length a.nodes) ids → AreBehind a ids
  are_behind roots ids e h =
      let layered : Layered enters_each (map (tree a) ids) = subst (Layered enters_each) (sym e) (order_all_layered enters_each (trees a roots)) in
      record {
        before = λ i t n at node.
            all_ready ids h i n.args (args_in_range a ok t n node)
            (subst (AllIn (take i (map (tree a) ids))) (ap arguments (tree-node a ok t n node)) (layered.before i (tree a t) (slice_get-map (tree a) ids i ∙ ap (option_map (tree a)) at) refl));
      }

  pub are_roots : (roots : List TermId) (ids : List TermId) → AllBelow (length a.nodes) roots → map (tree a) ids ≡ order_all enters_each (trees a roots) [] → AllBelow (length a.nodes) ids → AreReady ids (length ids) roots
  are_roots roots ids k e h =
      let all : take (length ids) (map (tree a) ids) ≡ map (tree a) ids = take-map (tree a) (length ids) ids ∙ ap (map (tree a)) (take_all (length ids) ids (omega arith)) in
      all_ready ids h (length ids) roots k (subst (λ xs. AllIn xs (listed (trees a roots))) (sym (all ∙ e)) (order_all_has enters_each (trees a roots)))
