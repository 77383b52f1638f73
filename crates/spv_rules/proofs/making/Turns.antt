-- What is true while a term is built of its pieces.
use Rattle.std.proofs.Common.{◌≡◌, ℕ, zero, suc, ◌-◌, ◌<◌, ◌≤◌, Bool, true, ◌&&◌, List, [], ◌∷◌, ◌++◌, map, length, take, drop, Option, Some, None, is_some, IsSome, IsTrue, nat_le, refl, sym, ap, ◌∙◌, subst, arith, Result, Ok, Err}
use Rattle.std.proofs.lemmas.Bool.{false≢true}
use Rattle.std.proofs.lemmas.Bool.Decides.{nat_tests}
use Rattle.std.proofs.lemmas.List.{append_assoc, append-nil, length-map, length-append, length-take}
use Rattle.std.specs.List.{flat_map, list_all}
use Rattle.std.specs.Cmp.Derive.{both_true}
use Rattle.spv_logic.proofs.list.Tests.{left_true, right_true}
use Rattle.spv_logic.specs.declared.conditions.TermId.{TermId}
use Rattle.spv_logic.specs.declared.types.Sort.{Sort}
use Rattle.spv_logic.specs.declared.types.Shape.{Shape}
use Rattle.spv_logic.specs.declared.types.Decl.{Decl}
use Rattle.spv_logic.specs.Terms.{Term, term}
use Rattle.spv_logic.specs.Sorts.{head_in_range, result_sort, with_sorts, sort_before, term_sort, term_sorts}
use Rattle.spv_term.specs.declared.nodes.TermFault.{TermFault}
use Rattle.spv_term.specs.declared.nodes.TermFault.TheVariants as fault
use Rattle.spv_term.specs.Arena.{Arena, IsArena, AllBelow, Extends, tree, trees, trees_of}
use Rattle.spv_term.proofs.TreeLemmas.{AllBelow-le}
use Rattle.spv_term.proofs.ArenaLemmas.{node_of, tree-node, args_before, Extends-refl, Extends-trans, length-Extends, tree-Extends}
use Rattle.spv_proof_rules.specs.Stops.{kept, on_room, all_kept, terms_of, layers, layers_each}
use Rattle.spv_proof_rules.proofs.Growing.{first-then, all-kept-first}
use Rattle.spv_rules.specs.declared.making.pieces.Piece.{Piece}
use Rattle.spv_rules.specs.declared.making.pieces.Piece.TheVariants.{Known, Over}
use Rattle.spv_rules.specs.making.Pieces.{arguments, below, over, put, put_all, enough, AllStand, ArePieces, HaveTerm, MayPut, with_piece, IsMadeFault}
use Rattle.spv_rules.proofs.making.Kept.{kept_known}

-- ---- terms that are kept, one list after the other

abbrev pub then_kept : ℕ → Result (List Term) (List Term) → List Term → Result (List Term) (List Term)
then_kept most (Ok known) ts = all_kept most known ts
then_kept most (Err known) ts = Err known

pub kept-append : (most : ℕ) (xs ys known : List Term) → all_kept most known (xs ++ ys) ≡ then_kept most (all_kept most known xs) ys
kept-append most [] ys known = refl
kept-append most (x ∷ xs) ys known = by (kept most known x) (λ more. kept-append most xs ys more)
  where
    by : (o : Option (List Term)) → ((more : List Term) → all_kept most more (xs ++ ys) ≡ then_kept most (all_kept most more xs) ys)
        → on_room known o (λ more. all_kept most more (xs ++ ys)) ≡ then_kept most (on_room known o (λ more. all_kept most more xs)) ys
    by None later = refl
    by (Some more) later = later more

pub kept-after : (most : ℕ) (xs ys known more : List Term) → all_kept most known xs ≡ Ok more → all_kept most known (xs ++ ys) ≡ all_kept most more ys
kept-after most xs ys known more e = kept-append most xs ys known ∙ ap (λ r. then_kept most r ys) e

-- ---- all subterms of a term of the arena are there

module _ (a : Arena) (ok : IsArena a) where
  abbrev pub AreKept : List Term → Type 0
  AreKept ts = all_kept a.most (trees_of a.nodes) ts ≡ Ok (trees_of a.nodes)

  both-kept : (xs ys : List Term) → AreKept xs → AreKept ys → AreKept (xs ++ ys)
  both-kept xs ys h k = kept-after a.most xs ys (trees_of a.nodes) (trees_of a.nodes) h ∙ k

  kept-args : (n : ℕ) → ((t : TermId) → t.0 < n → t.0 < length a.nodes → AreKept (layers (tree a t))) → (ts : List TermId) → AllBelow n ts → AllBelow (length a.nodes) ts
      → AreKept (layers_each (trees a ts))
  kept-args n earlier [] low h = refl
  kept-args n earlier (t ∷ ts) low h = both-kept (layers (tree a t)) (layers_each (trees a ts)) (earlier t low.0 h.0) (kept-args n earlier ts low.1 h.1)

  kept-below : (n : ℕ) (t : TermId) → t.0 < n → t.0 < length a.nodes → AreKept (layers (tree a t))
  kept-below zero t low h = absurd (omega arith)
  kept-below (suc n) t low h =
      let m = node_of a ok t h in
      let is = tree-node a ok t m.0 m.1 in
      let before = args_before a ok t m.0 m.1 in
      let args = kept-args n (λ u l k. kept-below n u l k) m.0.args (AllBelow-le t.0 n m.0.args (omega arith) before) (AllBelow-le t.0 (length a.nodes) m.0.args (omega arith) before) in
      let here : AreKept (term m.0.head (trees a m.0.args) ∷ []) =
      subst (λ x. AreKept (x ∷ [])) is (ap (λ o. on_room (trees_of a.nodes) o (λ more. all_kept a.most more [])) (kept_known a ok t h)) in
      subst (λ x. AreKept (layers x)) (sym is) (both-kept (layers_each (trees a m.0.args)) (term m.0.head (trees a m.0.args) ∷ []) args here)

  pub layers-kept : (t : TermId) → t.0 < length a.nodes → AreKept (layers (tree a t))
  layers-kept t h = kept-below (suc t.0) t (omega arith) h

-- ---- the subterms of a stack

abbrev pub flat : List Term → List Term
flat ts = flat_map layers ts

flat-append : (xs ys : List Term) → flat (xs ++ ys) ≡ flat xs ++ flat ys
flat-append [] ys = refl
flat-append (x ∷ xs) ys = ap (λ zs. layers x ++ zs) (flat-append xs ys) ∙ sym (append_assoc (layers x) (flat xs) (flat ys))

flat-one : (t : Term) → flat (t ∷ []) ≡ layers t
flat-one t = append-nil (layers t)

layers-arguments : (ts : List Term) → layers_each (arguments ts) ≡ flat ts
layers-arguments [] = refl
layers-arguments (t ∷ ts) = ap (λ zs. layers t ++ zs) (layers-arguments ts)

take_drop : {X : Type 0} (n : ℕ) (xs : List X) → take n xs ++ drop n xs ≡ xs
take_drop zero xs = refl
take_drop (suc n) [] = refl
take_drop (suc n) (x ∷ xs) = ap (λ ys. x ∷ ys) (take_drop n xs)

module _ (at : TermId → Term) where
  flat-put : (stack : List Term) (p : Piece) → flat (put at stack p) ≡ flat stack ++ with_piece at stack p
  flat-put stack (Known t) = flat-append stack (at t ∷ []) ∙ ap (λ zs. flat stack ++ zs) (flat-one (at t))
  flat-put stack (Over h n) =
      let k = below n stack in
      let x = over h n stack in
      flat-append (take k stack) (x ∷ [])
      ∙ (ap (λ zs. flat (take k stack) ++ zs) (flat-one x ∙ ap (λ zs. zs ++ x ∷ []) (layers-arguments (drop k stack)))
      ∙ (sym (append_assoc (flat (take k stack)) (flat (drop k stack)) (x ∷ []))
      ∙ ap (λ zs. zs ++ x ∷ []) (sym (flat-append (take k stack) (drop k stack)) ∙ ap flat (take_drop k stack))))

  -- whatever is put onto it comes behind
  flat-put_all : (pieces : List Piece) (stack : List Term) → (more : List Term) × (flat (put_all at stack pieces) ≡ flat stack ++ more)
  flat-put_all [] stack = ([], sym (append-nil (flat stack)))
  flat-put_all (p ∷ pieces) stack =
      let rest = flat-put_all pieces (put at stack p) in
      (with_piece at stack p ++ rest.0, rest.1 ∙ (ap (λ zs. zs ++ rest.0) (flat-put stack p) ∙ append_assoc (flat stack) (with_piece at stack p) rest.0))

-- ---- sorts

module _ (shapes : List Shape) (decls : List Decl) where
  abbrev pub is_sorted : Term → Bool
  is_sorted t = is_some (term_sort shapes decls t)

  all-append : (xs ys : List Term) → list_all is_sorted (xs ++ ys) ≡ true → (list_all is_sorted xs ≡ true) × (list_all is_sorted ys ≡ true)
  all-append [] ys h = (refl, h)
  all-append (x ∷ xs) ys h =
      let rest = all-append xs ys (right_true (is_sorted x) (list_all is_sorted (xs ++ ys)) h) in
      (both_true (left_true (is_sorted x) (list_all is_sorted (xs ++ ys)) h) rest.0, rest.1)

  append-all : (xs ys : List Term) → list_all is_sorted xs ≡ true → list_all is_sorted ys ≡ true → list_all is_sorted (xs ++ ys) ≡ true
  append-all [] ys h k = k
  append-all (x ∷ xs) ys h k = both_true (left_true (is_sorted x) (list_all is_sorted xs) h) (append-all xs ys (right_true (is_sorted x) (list_all is_sorted xs) h) k)

  some_sorts : (o : Option (List Sort)) (go : List Sort → Option Sort) → is_some (with_sorts o go) ≡ true → is_some o ≡ true
  some_sorts (Some sorts) go h = refl
  some_sorts None go h = h

  some_both : (o : Option Sort) (others : Option (List Sort)) → is_some (sort_before o others) ≡ true → (is_some o ≡ true) × (is_some others ≡ true)
  some_both (Some s) (Some sorts) h = (refl, refl)
  some_both (Some s) None h = absurd (false≢true h)
  some_both None others h = absurd (false≢true h)

  args_sorted : (ts : List Term) → is_some (term_sorts shapes decls (arguments ts)) ≡ true → list_all is_sorted ts ≡ true
  args_sorted [] h = refl
  args_sorted (t ∷ ts) h =
      let b = some_both (term_sort shapes decls t) (term_sorts shapes decls (arguments ts)) h in
      both_true b.0 (args_sorted ts b.1)

  -- the terms below a well-sorted one are
  sorted-put : (at : TermId → Term) (stack : List Term) (p : Piece) → list_all is_sorted (put at stack p) ≡ true → list_all is_sorted stack ≡ true
  sorted-put at stack (Known t) h = (all-append stack (at t ∷ []) h).0
  sorted-put at stack (Over h n) all =
      let k = below n stack in
      let both = all-append (take k stack) (over h n stack ∷ []) all in
      let one = left_true (is_sorted (over h n stack)) true both.1 in
      subst (λ xs. list_all is_sorted xs ≡ true) (take_drop k stack)
      (append-all (take k stack) (drop k stack) both.0 (args_sorted (drop k stack) (some_sorts (term_sorts shapes decls (arguments (drop k stack))) (result_sort shapes decls h) one)))

  sorted-put_all : (at : TermId → Term) (pieces : List Piece) (stack : List Term) → list_all is_sorted (put_all at stack pieces) ≡ true → list_all is_sorted stack ≡ true
  sorted-put_all at [] stack h = h
  sorted-put_all at (p ∷ pieces) stack h = sorted-put at stack p (sorted-put_all at pieces (put at stack p) h)

-- ---- what the loop keeps

pub record Builds (old a : Arena) (goal : Term) (stack : List TermId) (left : List Piece) : Type 0 where
  pub grows : Extends old a
  pub in_range : AllBelow (length a.nodes) stack
  pub goes_on : put_all (tree old) (map (tree a) stack) left ≡ goal ∷ []
  pub enough : IsTrue (enough (length stack) left)
  pub stand : AllStand old left
  pub sorted : IsSome (term_sort old.shapes old.decls goal)
  pub kept : all_kept old.most (trees_of old.nodes) (flat (map (tree a) stack)) ≡ Ok (trees_of a.nodes)

pub record Building (old : Arena) (pieces : List Piece) (a : Arena) (stack : List TermId) (left : List Piece) : Type 0 where
  pub each : (goal : Term) → ArePieces old pieces goal → Builds old a goal stack left

pub begins : (old : Arena) (pieces : List Piece) (stack : List TermId) → stack ≡ [] → Building old pieces old stack pieces
begins old pieces stack empty = subst (λ s. Building old pieces old s pieces) (sym empty) (record {
  each = λ goal p. record { grows = Extends-refl old; in_range = tt; goes_on = p.sketch.one; enough = p.sketch.enough; stand = p.sketch.stand; sorted = p.sorted; kept = refl };
})

stands-more : (old a : Arena) → Extends old a → (t : TermId) → t.0 < length old.nodes → t.0 < length a.nodes
stands-more old a grows t h = omega (arith, length-Extends grows)

goes_on-length : (old b : Arena) (new : List TermId) (xs : List Term) → map (tree b) new ≡ xs → length new ≡ length xs
goes_on-length old b new xs e = sym (length-map new (tree b)) ∙ ap length e

-- a test that holds of enough terms
enough-over : (n k m : ℕ) (ps : List Piece) → m ≡ suc (n - k) → (nat_le k n && enough (suc (n - k)) ps) ≡ true → enough m ps ≡ true
enough-over n k m ps e h = ap (λ x. enough x ps) e ∙ right_true (nat_le k n) (enough (suc (n - k)) ps) h

le-told : (k n : ℕ) → nat_le k n ≡ true → k ≤ n
le-told k n h = grind (arith, nat_tests)

module _ (old a : Arena) (goal : Term) (ps : List Piece) (stack : List TermId) where
  abbrev now : List Term
  now = map (tree a) stack

  -- the piece may be put onto the stack
  pub may-put : (p : Piece) → Builds old a goal stack (p ∷ ps) → MayPut a now p
  may-put (Known t) b = stands-more old a b.grows t b.stand.0
  may-put (Over h n) b =
      let many : n ≤ length stack = le-told n (length stack) (left_true (nat_le n (length stack)) _ b.enough) in
      let all : list_all (is_sorted old.shapes old.decls) (put (tree old) now (Over h n)) ≡ true =
      sorted-put_all old.shapes old.decls (tree old) ps (put (tree old) now (Over h n)) (ap (list_all (is_sorted old.shapes old.decls)) b.goes_on ∙ both_true b.sorted refl) in
      let one = left_true (is_sorted old.shapes old.decls (over h n now)) true (all-append old.shapes old.decls (take (below n now) now) (over h n now ∷ []) all).1 in (
        omega (arith, many, length-map stack (tree a)),
        ap (λ shapes. head_in_range shapes h) b.grows.shapes ∙ b.stand.0.0,
        b.stand.0.1,
        (λ i. is_some (term_sort (b.grows.shapes i) (b.grows.decls i) (over h n now))) ∙ one,
      )

  -- it makes the same there
  put-same : (p : Piece) → Builds old a goal stack (p ∷ ps) → put (tree a) now p ≡ put (tree old) now p
  put-same (Known t) b = ap (λ x. now ++ x ∷ []) (tree-Extends b.grows t b.stand.0)
  put-same (Over h n) b = refl

  enough-next : (p : Piece) (m : ℕ) → m ≡ length (put (tree a) now p) → enough (length stack) (p ∷ ps) ≡ true → enough m ps ≡ true
  enough-next (Known t) m e h = ap (λ x. enough x ps) (let many = length-append now (tree a t ∷ []) in let same = length-map stack (tree a) in omega (arith, e, many, same)) ∙ h
  enough-next (Over h n) m e k =
      enough-over (length stack) n m ps (
      let many = length-append (take (below n now) now) (over h n now ∷ []) in
      let cut = length-take (below n now) now in
      let same = length-map stack (tree a) in
      omega (arith, e, many, cut, same)
      ) k

  stand-next : (p : Piece) → Builds old a goal stack (p ∷ ps) → AllStand old ps
  stand-next p b = b.stand.1

  flat-now : (p : Piece) → Builds old a goal stack (p ∷ ps) → flat (put (tree old) now p) ≡ flat now ++ with_piece (tree a) now p
  flat-now p b = ap flat (sym (put-same p b)) ∙ flat-put (tree a) now p

  -- it is put, and its terms are there
  pub next : (p : Piece) → Builds old a goal stack (p ∷ ps) → (c : Arena) → Extends a c → (new : List TermId) → map (tree c) new ≡ put (tree a) now p → AllBelow (length c.nodes) new
      → all_kept a.most (trees_of a.nodes) (with_piece (tree a) now p) ≡ Ok (trees_of c.nodes) → Builds old c goal new ps
  next p b c grows new trees_are in_range k = record {
    grows = Extends-trans b.grows grows;
    in_range = in_range;
    goes_on = ap (λ xs. put_all (tree old) xs ps) (trees_are ∙ put-same p b) ∙ b.goes_on;
    enough = enough-next p (length new) (goes_on-length old c new (put (tree a) now p) trees_are) b.enough;
    stand = b.stand.1;
    sorted = b.sorted;
    kept = ap (λ xs. all_kept old.most (trees_of old.nodes) (flat xs)) trees_are
        ∙ (ap (all_kept old.most (trees_of old.nodes)) (flat-put (tree a) now p)
        ∙ (kept-after old.most (flat now) (with_piece (tree a) now p) (trees_of old.nodes) (trees_of a.nodes) b.kept
        ∙ (ap (λ m. all_kept m (trees_of a.nodes) (with_piece (tree a) now p)) (sym b.grows.most) ∙ k)));
  }

  -- it is not put: there is no room for one of its terms, or no memory
  fault-more : (c : Arena) (f : TermFault) (most : ℕ) (r : Result (List Term) (List Term)) (more : List Term) → IsMadeFault c f r → IsMadeFault c f (then_kept most r more)
  fault-more c fault.Size most r more h = ap (λ x. then_kept most x more) h
  fault-more c fault.Memory most (Ok known) more h = first-then (trees_of c.nodes) known (terms_of (all_kept most known more)) h (all-kept-first most more known)
  fault-more c fault.Memory most (Err known) more h = h

  pub unput : (p : Piece) → Builds old a goal stack (p ∷ ps) → (c : Arena) (f : TermFault) → IsMadeFault c f (all_kept a.most (trees_of a.nodes) (with_piece (tree a) now p))
      → IsMadeFault c f (all_kept old.most (trees_of old.nodes) (layers goal))
  unput p b c f h =
      let w = with_piece (tree a) now p in
      let rest = flat-put_all (tree old) ps (put (tree old) now p) in
      let goal_is : layers goal ≡ flat now ++ (w ++ rest.0) =
      sym (flat-one goal) ∙ (ap flat (sym b.goes_on) ∙ (rest.1 ∙ (ap (λ zs. zs ++ rest.0) (flat-now p b) ∙ append_assoc (flat now) w rest.0))) in
      let all : all_kept old.most (trees_of old.nodes) (layers goal) ≡ then_kept old.most (all_kept a.most (trees_of a.nodes) w) rest.0 =
      ap (all_kept old.most (trees_of old.nodes)) goal_is
      ∙ (kept-after old.most (flat now) (w ++ rest.0) (trees_of old.nodes) (trees_of a.nodes) b.kept
      ∙ (kept-append old.most w rest.0 (trees_of a.nodes) ∙ ap (λ m. then_kept old.most (all_kept m (trees_of a.nodes) w) rest.0) (sym b.grows.most))) in
      subst (IsMadeFault c f) (sym all) (fault-more c f old.most (all_kept a.most (trees_of a.nodes) w) rest.0 h)

-- ---- the end

module _ (old a : Arena) (goal : Term) (stack : List TermId) (b : Builds old a goal stack []) where
  pub end-one : length stack ≡ 1
  end-one = sym (length-map stack (tree a)) ∙ ap length b.goes_on

  pub end-kept : all_kept old.most (trees_of old.nodes) (layers goal) ≡ Ok (trees_of a.nodes)
  end-kept = ap (all_kept old.most (trees_of old.nodes)) (sym (flat-one goal) ∙ ap flat (sym b.goes_on)) ∙ b.kept

  pub end-tree : (u : TermId) (others : List TermId) → stack ≡ u ∷ others → tree a u ≡ goal
  end-tree u others e =
      let same : tree a u ∷ map (tree a) others ≡ goal ∷ [] = ap (map (tree a)) (sym e) ∙ b.goes_on in
      cc

  pub end-in_range : (u : TermId) (others : List TermId) → stack ≡ u ∷ others → u.0 < length a.nodes
  end-in_range u others e = (subst (AllBelow (length a.nodes)) e b.in_range).0

-- ---- the same, whatever the term

module _ (old a : Arena) (pieces : List Piece) (stack : List TermId) (left ps : List Piece) (p : Piece) (is : left ≡ p ∷ ps) (so_far : Building old pieces a stack left) where
  here : (goal : Term) → ArePieces old pieces goal → Builds old a goal stack (p ∷ ps)
  here goal are = subst (Builds old a goal stack) is (so_far.each goal are)

  pub next-may : HaveTerm old pieces → MayPut a (map (tree a) stack) p
  next-may known = may-put old a known.term ps stack p (here known.term known.are)

  pub next-built : (c : Arena) → Extends a c → (new : List TermId) → map (tree c) new ≡ put (tree a) (map (tree a) stack) p → AllBelow (length c.nodes) new
      → all_kept a.most (trees_of a.nodes) (with_piece (tree a) (map (tree a) stack) p) ≡ Ok (trees_of c.nodes) → Building old pieces c new ps
  next-built c grows new trees_are in_range k = record { each = λ goal are. next old a goal ps stack p (here goal are) c grows new trees_are in_range k }

  pub next-fault : (c : Arena) (f : TermFault) → IsMadeFault c f (all_kept a.most (trees_of a.nodes) (with_piece (tree a) (map (tree a) stack) p))
      → (goal : Term) → ArePieces old pieces goal → IsMadeFault c f (all_kept old.most (trees_of old.nodes) (layers goal))
  next-fault c f h goal are = unput old a goal ps stack p (here goal are) c f h
