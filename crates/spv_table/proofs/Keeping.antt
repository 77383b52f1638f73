-- What is kept of terms one after the other, over plain variables.
use Rattle.std.proofs.Common.{◌≡◌, ℕ, zero, suc, ◌+◌, ◌<◌, ◌^◌, Bool, true, false, cond, ◌&&◌, List, [], ◌∷◌, ◌++◌, map, length, take, drop, get_or, slice_get, ℤ, nat_lt, refl, sym, ap, ◌∙◌, subst, Option, Some, Ok, inl, inr, arith}
use Rattle.std.specs.Prelude.{unsigned_abs}
use Rattle.std.specs.List.{list_any, position}
use Rattle.std.specs.Option.{option_map}
use Rattle.std.proofs.lemmas.Bool.{cases_lt, eqb-true}
use Rattle.std.proofs.lemmas.Bool.Decides.{nat_tests}
use Rattle.std.proofs.lemmas.List.{length_push, take-map, take_all, drop_more}
use Rattle.std.proofs.lemmas.List.Quantifiers.{position-Some}
use Rattle.std.proofs.lemmas.Option.{slice_get-get_or, slice_get_within, same_Some, slice_get-map}
use Rattle.spv_whole.specs.Fraction.{Fraction}
use Rattle.spv_whole.proofs.Units.{whole-IsLowest}
use Rattle.spv_frac.specs.Range.{fits, IsFrac}
use Rattle.spv_logic.specs.declared.conditions.TermId.{TermId}
use Rattle.spv_logic.specs.Terms.{Term, Terms, term, no_terms, terms, term_eq}
use Rattle.spv_term.specs.declared.nodes.Node.{Node}
use Rattle.spv_term.specs.Arena.{Arena, IsArena, AllBelow, tree, trees}
use Rattle.spv_term.proofs.ArenaLemmas.{tree-node, args_in_range}
use Rattle.spv_term.proofs.TreeLemmas.{AllBelow-at}
use Rattle.spv_term.proofs.ListLemmas.{slice_get_push, slice_get-append_left}
use Rattle.spv_atoms.specs.Order.{order, order_all, enters_in, same_id, has_meaning, has_meaning_head, is_sum_head}
use Rattle.spv_atoms.specs.declared.walk.Through.TheVariants.{Meanings}
use Rattle.spv_atoms.specs.Found.{IsReady, AreReady}
use Rattle.spv_atoms.proofs.Members.{AllIn}
use Rattle.spv_atoms.proofs.Layers.{listed, arguments, Layered, order_layered, order_all_layered, order_has}
use Rattle.spv_atoms.proofs.Walks.{has-trees, term_eq-ids}
use Rattle.spv_atoms.proofs.Places.{place_of}
use Rattle.spv_table.specs.declared.kept.Kept.{Kept}
use Rattle.spv_table.specs.Kept.{pair_over, single_over, alone_constant, alone_value, listed_over, PairsIn, IsKept, AreKept, IsBeside, HasReadyArguments, AreBehindArguments}
use Rattle.spv_table.proofs.Meanings.{alone_kept, single_kept, pair_kept, none_kept, many_kept}

-- ---- numerals

pub frac_of : (z y : ℤ) → y ≡ z → fits z ≡ true → IsFrac (record { num = y; den = 1 })
frac_of z y e h = subst (λ (x : ℤ). IsFrac (record { num = x; den = 1 })) (sym e) (record {
  is_lowest = whole-IsLowest z;
  num_fits = below (unsigned_abs z) (2 ^ 127) h;
  den_fits = omega arith;
})
  where
    below : (n m : ℕ) → nat_lt n m ≡ true → n < m
    below n m h = grind (arith, nat_tests)

-- ---- what is listed

module _ (a : Arena) (ok : IsArena a) (t : TermId) (pairs : List (TermId × Fraction)) (i : ℕ) (d : TermId × Fraction) (t_in : t.0 < length a.nodes) (h : i < length pairs) (inside : PairsIn a (drop i pairs)) where
  here : (b : Bool) → same_id (get_or pairs i d).0 t ≡ b → listed_over a (drop i pairs) (tree a t) ≡ cond b (get_or pairs i d).1 (listed_over a (drop (i + 1) pairs) (tree a t))
  here b e =
      let k_in : (get_or pairs i d).0.0 < length a.nodes = (subst (PairsIn a) (drop_more pairs i d h) inside).0 in
      ap (λ (ps : List (TermId × Fraction)). listed_over a ps (tree a t)) (drop_more pairs i d h)
      ∙ ap (λ c. cond c (get_or pairs i d).1 (listed_over a (drop (i + 1) pairs) (tree a t))) (sym (term_eq-ids a ok (get_or pairs i d).0 t k_in t_in) ∙ e)

  pub listed_here : (v : Fraction) → same_id (get_or pairs i d).0 t ≡ true → listed_over a (drop i pairs) (tree a t) ≡ v → (get_or pairs i d).1 ≡ v
  listed_here v e same = sym (here true e) ∙ same

  pub listed_later : (v : Fraction) → same_id (get_or pairs i d).0 t ≡ false → listed_over a (drop i pairs) (tree a t) ≡ v → listed_over a (drop (i + 1) pairs) (tree a t) ≡ v
  listed_later v e same = sym (here false e) ∙ same

  pub pairs_later : PairsIn a (drop (i + 1) pairs)
  pairs_later = (subst (PairsIn a) (drop_more pairs i d h) inside).1

-- ---- places

pub looked_up : (all : List Kept) (k : ℕ) (kept : Kept) → k < length all → kept ≡ get_or all k kept → slice_get all k ≡ Some kept
looked_up all k kept h e = slice_get-get_or all k kept h ∙ ap (λ (f : Kept). Some f) (sym e)

-- the place of a term that was found
pub placed : (t : TermId) (ids : List TermId) (o : Option ℕ) (k : ℕ) → o ≡ position (same_id t) ids → o ≡ Some k → slice_get ids k ≡ Some t
placed t ids o k at e =
    let facts = position-Some (same_id t) ids k t (sym at ∙ e) in
    slice_get-get_or ids k t facts.0 ∙ ap (λ (u : TermId). Some u) (sym (ap (λ n. record { 0 = n }) (eqb-true t.0 (get_or ids k t).0 facts.1)))

pub beside : (t : TermId) (ids : List TermId) (count : ℕ) (o : Option ℕ) → IsReady ids count t → o ≡ position (same_id t) ids → (all : List Kept) (k : ℕ) (kept : Kept) → o ≡ Some k → slice_get all k ≡ Some kept → IsBeside ids all t kept
beside t ids count o ready at all k kept e f = record { place = k; id_there = place_of t ids count o ready at k e; kept_there = f }

pub beside_kept : (a : Arena) (listed : Term → Fraction) (ids : List TermId) (all : List Kept) (t : TermId) (kept : Kept) → AreKept a listed ids all → IsBeside ids all t kept → IsKept listed (tree a t) kept
beside_kept a listed ids all t kept known b = known.each b.place t kept b.id_there b.kept_there

-- ---- one more

pub nothing_kept : (a : Arena) (listed : Term → Fraction) (ids : List TermId) → AreKept a listed ids []
nothing_kept a listed ids = record { each = λ i t kept e f. absurd (cc) }

one_more_kept : (a : Arena) (listed : Term → Fraction) (ids : List TermId) (all more : List Kept) (t : TermId) (kept : Kept) → AreKept a listed ids all → slice_get ids (length all) ≡ Some t → IsKept listed (tree a t) kept
    → more ≡ all ++ kept ∷ [] → AreKept a listed ids more
one_more_kept a listed ids all more t kept known at is e = subst (λ (ks : List Kept). AreKept a listed ids ks) (sym e) (record { each = each })
  where
    each : (i : ℕ) (u : TermId) (k : Kept) → slice_get ids i ≡ Some u → slice_get (all ++ kept ∷ []) i ≡ Some k → IsKept listed (tree a u) k
    each i u k f g = elim (cases_lt i (length all)) [
      | inl below ↦ known.each i u k f (sym (slice_get-append_left all (kept ∷ []) i below) ∙ g)
      | inr above ↦ last (omega (arith, above, slice_get_within (all ++ kept ∷ []) i k g, length_push all kept))
    ]
      where
        last : length all ≡ i → IsKept listed (tree a u) k
        last e =
            let same : kept ≡ k = same_Some kept k (sym (slice_get_push all kept) ∙ ap (slice_get (all ++ kept ∷ [])) e ∙ g) in
            let id : t ≡ u = same_Some t u (sym at ∙ (ap (slice_get ids) e ∙ f)) in
            subst (λ (k : Kept). IsKept listed (tree a u) k) same (subst (λ (u : TermId). IsKept listed (tree a u) kept) id is)

-- ---- arguments stand before their term

AllBelow-take : (n k : ℕ) (ts : List TermId) → AllBelow n ts → AllBelow n (take k ts)
AllBelow-take n zero ts h = tt
AllBelow-take n (suc k) [] h = tt
AllBelow-take n (suc k) (t ∷ ts) h = (h.0, AllBelow-take n k ts h.1)

module _ (a : Arena) (ok : IsArena a) where
  layered_behind : (ids : List TermId) → AllBelow (length a.nodes) ids → Layered (enters_in a Meanings) (map (tree a) ids) → AreBehindArguments a ids
  layered_behind ids h layered = record {
    before = λ i t at. record {
      ready = λ n node inside.
          all i n.args (args_in_range a ok t n node)
          (subst (AllIn (take i (map (tree a) ids))) (ap arguments (tree-node a ok t n node)) (layered.before i (tree a t) (slice_get-map (tree a) ids i ∙ ap (option_map (tree a)) at) inside));
    };
  }
    where
      all : (i : ℕ) (ts : List TermId) → AllBelow (length a.nodes) ts → AllIn (take i (map (tree a) ids)) (listed (trees a ts)) → AreReady ids i ts
      all i [] k g = tt
      all i (u ∷ us) k g =
          (has-trees a ok u (take i ids) k.0 (AllBelow-take (length a.nodes) i ids h) ∙ (ap (λ xs. list_any (term_eq (tree a u)) xs) (sym (take-map (tree a) i ids)) ∙ g.0), all i us k.1 g.1)

  module _ (ids : List TermId) (t : TermId) (ids_in : AllBelow (length a.nodes) ids) (ordered : map (tree a) ids ≡ order (enters_in a Meanings) (tree a t) []) where
    pub order_behind : AreBehindArguments a ids
    order_behind = layered_behind ids ids_in (subst (Layered (enters_in a Meanings)) (sym ordered) (order_layered (enters_in a Meanings) (tree a t)))

    pub order_ready : t.0 < length a.nodes → (count : ℕ) → count ≡ length ids → IsReady ids count t
    order_ready t_in count e =
        ap (λ xs. list_any (same_id t) xs) (take_all count ids (omega (arith, e)))
        ∙ (has-trees a ok t ids t_in ids_in ∙ (ap (λ xs. list_any (term_eq (tree a t)) xs) ordered ∙ order_has (enters_in a Meanings) (tree a t)))

  -- the same for several terms, one after the other
  pub order_all_behind : (ids roots : List TermId) → AllBelow (length a.nodes) ids → map (tree a) ids ≡ order_all (enters_in a Meanings) (trees a roots) [] → AreBehindArguments a ids
  order_all_behind ids roots ids_in ordered = layered_behind ids ids_in (subst (Layered (enters_in a Meanings)) (sym ordered) (order_all_layered (enters_in a Meanings) (trees a roots)))

  -- ---- one term

  module _ (listed : Term → Fraction) (t : TermId) (n : Node) (at : slice_get a.nodes t.0 ≡ Some n) (own : Fraction) (own_is : own ≡ listed (tree a t)) (kept : Kept) where
    shape : tree a t ≡ term n.head (trees a n.args)
    shape = tree-node a ok t n at

    own_at : (ts : Terms) → trees a n.args ≡ ts → own ≡ listed (term n.head ts)
    own_at ts e = own_is ∙ ap listed (shape ∙ ap (term n.head) e)

    moved : (ts : Terms) → trees a n.args ≡ ts → IsKept listed (term n.head ts) kept → IsKept listed (tree a t) kept
    moved ts e k = subst (λ (x : Term). IsKept listed x kept) (sym (shape ∙ ap (term n.head) e)) k

    pub at_alone : has_meaning_head n.head ≡ false → kept.is_constant ≡ alone_constant n.head → kept.value ≡ alone_value n.head own → IsKept listed (tree a t) kept
    at_alone e f g = moved (trees a n.args) refl (alone_kept listed n.head kept (trees a n.args) e f (g ∙ ap (alone_value n.head) (own_at (trees a n.args) refl)))

    module _ (meaning : has_meaning_head n.head ≡ true) (args : List TermId) (args_are : args ≡ n.args) (ids : List TermId) (all : List Kept) (known : AreKept a listed ids all) (d : TermId) where
      args_tree : trees a n.args ≡ trees a args
      args_tree = ap (trees a) (sym args_are)

      one_tree : (ts : List TermId) → length ts ≡ 1 → trees a ts ≡ terms (tree a (get_or ts 0 d)) no_terms
      one_tree [] h = absurd (omega (arith, h))
      one_tree (u ∷ []) h = refl
      one_tree (u ∷ v ∷ ts) h = absurd (omega (arith, h))

      two_trees : (ts : List TermId) → length ts ≡ 2 → trees a ts ≡ terms (tree a (get_or ts 0 d)) (terms (tree a (get_or ts 1 d)) no_terms)
      two_trees [] h = absurd (omega (arith, h))
      two_trees (u ∷ []) h = absurd (omega (arith, h))
      two_trees (u ∷ v ∷ []) h = refl
      two_trees (u ∷ v ∷ w ∷ ts) h = absurd (omega (arith, h))

      pub at_single : length args ≡ 1 → (child : Kept) → IsBeside ids all (get_or args 0 d) child → kept.is_constant ≡ false → kept.value ≡ single_over n.head child own → IsKept listed (tree a t) kept
      at_single h child b f g =
          let e = args_tree ∙ one_tree args h in
          moved (terms (tree a (get_or args 0 d)) no_terms) e
          (single_kept listed n.head kept meaning (tree a (get_or args 0 d)) child (beside_kept a listed ids all (get_or args 0 d) child known b) f
          (g ∙ ap (single_over n.head child) (own_at (terms (tree a (get_or args 0 d)) no_terms) e)))

      pub at_pair : length args ≡ 2 → (left right : Kept) → IsBeside ids all (get_or args 0 d) left → IsBeside ids all (get_or args 1 d) right
          → kept.is_constant ≡ (is_sum_head n.head && (left.is_constant && right.is_constant)) → kept.value ≡ pair_over n.head left right own → IsKept listed (tree a t) kept
      at_pair h left right bl br f g =
          let e = args_tree ∙ two_trees args h in
          moved (terms (tree a (get_or args 0 d)) (terms (tree a (get_or args 1 d)) no_terms)) e
          (pair_kept listed n.head kept meaning (tree a (get_or args 0 d)) (tree a (get_or args 1 d)) left right (beside_kept a listed ids all (get_or args 0 d) left known bl)
          (beside_kept a listed ids all (get_or args 1 d) right known br) f
          (g ∙ ap (pair_over n.head left right) (own_at (terms (tree a (get_or args 0 d)) (terms (tree a (get_or args 1 d)) no_terms)) e)))

      other_lengths : (ts : List TermId) → trees a n.args ≡ trees a ts → (length ts ≡ 1 → ⊥) → (length ts ≡ 2 → ⊥) → kept.is_constant ≡ false → kept.value ≡ Ok own → IsKept listed (tree a t) kept
      other_lengths [] e h k f g = moved no_terms e (none_kept listed n.head kept meaning f (g ∙ ap (λ (v : Fraction). Ok v) (own_at no_terms e)))
      other_lengths (u ∷ []) e h k f g = absurd (h refl)
      other_lengths (u ∷ v ∷ []) e h k f g = absurd (k refl)
      other_lengths (u ∷ v ∷ w ∷ ts) e h k f g =
          moved (trees a (u ∷ v ∷ w ∷ ts)) e
          (many_kept listed n.head kept meaning (tree a u) (tree a v) (tree a w) (trees a ts) f (g ∙ ap (λ (v : Fraction). Ok v) (own_at (trees a (u ∷ v ∷ w ∷ ts)) e)))

      pub at_other : (length args ≡ 1 → ⊥) → (length args ≡ 2 → ⊥) → kept.is_constant ≡ false → kept.value ≡ Ok own → IsKept listed (tree a t) kept
      at_other = other_lengths args args_tree

  module _ (t : TermId) (n : Node) (at : slice_get a.nodes t.0 ≡ Some n) (meaning : has_meaning_head n.head ≡ true) (args : List TermId) (args_are : args ≡ n.args) (ids : List TermId) (count : ℕ)
      (ready : HasReadyArguments a ids count t) (d : TermId) where
    args_ready : AreReady ids count args
    args_ready = subst (AreReady ids count) (sym args_are) (ready.ready n at (ap has_meaning (tree-node a ok t n at) ∙ meaning))

    first_of : (ts : List TermId) → AreReady ids count ts → 0 < length ts → IsReady ids count (get_or ts 0 d)
    first_of [] k h = absurd (omega (arith, h))
    first_of (u ∷ ts) k h = k.0

    second_of : (ts : List TermId) → AreReady ids count ts → 1 < length ts → IsReady ids count (get_or ts 1 d)
    second_of [] k h = absurd (omega (arith, h))
    second_of (u ∷ []) k h = absurd (omega (arith, h))
    second_of (u ∷ v ∷ ts) k h = k.1.0

    pub first_ready : 0 < length args → IsReady ids count (get_or args 0 d)
    first_ready = first_of args args_ready

    pub second_ready : 1 < length args → IsReady ids count (get_or args 1 d)
    second_ready = second_of args args_ready

-- ---- turns of the loop

module _ (a : Arena) (listed : Term → Fraction) (ids items : List TermId) (i : ℕ) (d : TermId) (same : items ≡ ids) where
  pub item_in : AllBelow (length a.nodes) ids → i < length items → (get_or items i d).0 < length a.nodes
  item_in ids_in below =
      AllBelow-at (length a.nodes) items i (get_or items i d) (subst (AllBelow (length a.nodes)) (sym same) ids_in) (slice_get-get_or items i d below)

  module _ (below : i < length items) where
    item_at : (all : List Kept) → length all ≡ i → slice_get ids (length all) ≡ Some (get_or items i d)
    item_at all e = ap (slice_get ids) e ∙ (ap (λ (xs : List TermId). slice_get xs i) (sym same) ∙ slice_get-get_or items i d below)

    pub item_behind : AreBehindArguments a ids → (all slice : List Kept) → slice ≡ all → length all ≡ i → HasReadyArguments a ids (length slice) (get_or items i d)
    item_behind behind all slice e f =
        subst (λ (ks : List Kept). HasReadyArguments a ids (length ks) (get_or items i d)) (sym e) (behind.before (length all) (get_or items i d) (item_at all f))

    pub one_more_item : (all more : List Kept) (kept : Kept) → length all ≡ i → AreKept a listed ids all → IsKept listed (tree a (get_or items i d)) kept → more ≡ all ++ kept ∷ [] → AreKept a listed ids more
    one_more_item all more kept e known is f = one_more_kept a listed ids all more (get_or items i d) kept known (item_at all e) is f

pub one_more_length : (all more : List Kept) (i : ℕ) (kept : Kept) → length all ≡ i → more ≡ all ++ kept ∷ [] → length more ≡ i + 1
one_more_length all more i kept len e = omega (arith, len, ap length e, length_push all kept)
