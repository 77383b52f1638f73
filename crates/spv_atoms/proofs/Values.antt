-- Values of terms of an arena, over plain variables.
use Rattle.std.proofs.Common.{◌≡◌, ℕ, zero, suc, ◌<◌, ◌≤◌, ◌+◌, Bool, true, false, cond, ◌||◌, List, [], ◌∷◌, ◌++◌, map, length, drop, get_or, slice_get, refl, sym, ap, ◌∙◌, subst, inl, inr, Option, Some, None, ℤ, pos, negsuc, nat_lt, ◌^◌, arith}
use Rattle.std.proofs.lemmas.Bool.{cases_lt}
use Rattle.std.proofs.lemmas.List.{length_push, length-take-le, length-map}
use Rattle.std.specs.List.{list_any}
use Rattle.std.proofs.Math.Facts.{sfits_lit}
use Rattle.std.proofs.lemmas.Int.{to_z-of_z}
use mir.Val.{SFits, to_z, of_z}
use mir.Syntax.{w128}
use lib.Dec.{T}
use Rattle.std.proofs.lemmas.Bool.Decides.{nat_tests}
use Rattle.std.specs.Prelude.{IsTrue}
use Rattle.spv_logic.specs.Sorts.{numeral_fits}
use Rattle.spv_logic.specs.declared.conditions.TermId.{TermId}
use Rattle.spv_logic.specs.declared.operators.Head.{Head}
use Rattle.spv_logic.specs.declared.operators.Head.TheVariants as head
use Rattle.spv_logic.specs.Terms.{Term, Terms, term, term_eq}
use Rattle.spv_term.specs.declared.nodes.Node.{Node}
use Rattle.spv_term.specs.Arena.{Arena, IsArena, AllBelow, tree, trees}
use Rattle.spv_term.proofs.ArenaLemmas.{tree-node, args_in_range}
use Rattle.spv_term.proofs.TreeLemmas.{AllBelow-at}
use Rattle.std.specs.Prelude.{take, unwrap_or}
use Rattle.std.specs.List.{position, position_from}
use Rattle.std.proofs.lemmas.Iterator.Adapters.{position_from-zero}
use Rattle.std.proofs.lemmas.Option.{unwrap_or-slice_get, slice_get_past, slice_get-get_or, same_Some, slice_get-map}
use Rattle.std.specs.Option.{option_map}
use Rattle.std.proofs.lemmas.Bool.{false≢true, eqb-true}
use Rattle.std.proofs.lemmas.List.{drop_more, drop_all, take-map, take_all}
use Rattle.std.proofs.lemmas.List.Folds.{list_any_more}
use Rattle.spv_atoms.specs.Tables as spec
use Rattle.spv_atoms.specs.Atoms.{is_truth, connects, is_connective}
use Rattle.spv_atoms.specs.Order.{order_all, same_id}
use Rattle.spv_atoms.specs.Valued.{pairs, KnownIn, truth_in, valued_in, value_at, AreGiven, AreValued, AllAmong, AllValued, AreInside, IsInside, IsLayered, first_at, second_at}
use Rattle.spv_atoms.proofs.Members.{AllIn}
use Rattle.spv_atoms.proofs.Layers.{listed, arguments, Layered, order_all_layered, order_all_has}
use Rattle.spv_atoms.proofs.Walks.{term_eq-ids, has-trees, are_truths, connective_at}

-- ---- numerals

pub numeral-at : (a : Arena) → IsArena a → (t : TermId) (n : Node) → slice_get a.nodes t.0 ≡ Some n → spec.numeral (tree a t) ≡ spec.numeral (term n.head (trees a n.args))
numeral-at a ok t n at = ap spec.numeral (tree-node a ok t n at)

pub numeral-num : (a : Arena) → IsArena a → (t : TermId) (n : Node) (z : ℤ) → slice_get a.nodes t.0 ≡ Some n → n.head ≡ head.Num z → Some z ≡ spec.numeral (tree a t)
numeral-num a ok t n z at e = sym (numeral-at a ok t n at ∙ ap (λ h. spec.numeral (term h (trees a n.args))) e)

numeral-other_head : (h : Head) (ts : Terms) → ((z : ℤ) → h ≡ head.Num z → ⊥) → None ≡ spec.numeral (term h ts)
numeral-other_head (head.Num z) ts e = absurd (e z refl)
numeral-other_head _ ts e = refl

pub numeral-other : (a : Arena) → IsArena a → (t : TermId) (n : Node) → slice_get a.nodes t.0 ≡ Some n → ((z : ℤ) → n.head ≡ head.Num z → ⊥) → None ≡ spec.numeral (tree a t)
numeral-other a ok t n at e = numeral-other_head n.head (trees a n.args) e ∙ sym (numeral-at a ok t n at)

pub compare-few : (test : ℤ → ℤ → Bool) (a : Arena) (ts : List TermId) → length ts < 2 → None ≡ spec.compare_numerals test (trees a ts)
compare-few test a [] h = refl
compare-few test a (t ∷ []) h = refl
compare-few test a (t ∷ u ∷ ts) h = absurd (omega arith)

pub compare-many : (test : ℤ → ℤ → Bool) (a : Arena) (ts : List TermId) → 3 ≤ length ts → None ≡ spec.compare_numerals test (trees a ts)
compare-many test a [] h = absurd (omega arith)
compare-many test a (t ∷ []) h = absurd (omega arith)
compare-many test a (t ∷ u ∷ []) h = absurd (omega arith)
compare-many test a (t ∷ u ∷ v ∷ ts) h = refl

one_less : (n m : ℕ) → nat_lt (suc n) m ≡ true → nat_lt n m ≡ true
one_less n m h = grind (arith, nat_tests)

-- a numeral's number fits an `i128`
pub number-fits : (z : ℤ) → IsTrue (numeral_fits (head.Num z)) → SFits w128 z
number-fits (pos n) h = sfits_lit {w = w128} (subst T (sym h) tt)
number-fits (negsuc n) h = sfits_lit {w = w128} (subst T (sym (one_less n (2 ^ 127) h)) tt)

pub number-in-arena : (a : Arena) → IsArena a → (t : TermId) (n : Node) (z : ℤ) → slice_get a.nodes t.0 ≡ Some n → n.head ≡ head.Num z → to_z w128 (of_z w128 z) ≡ z
number-in-arena a ok t n z at e = to_z-of_z w128 z (number-fits z (subst (λ h. IsTrue (numeral_fits h)) e (ok.nodes t.0 n at).numeral))

-- ---- heads

pub combined-other : (truths : Bool) (h : Head) (x y : Option Bool) (ts : Terms)
    → (h ≡ head.Not → ⊥) → (h ≡ head.And → ⊥) → (h ≡ head.Or → ⊥) → (h ≡ head.Implies → ⊥) → (h ≡ head.Eq → ⊥) → (h ≡ head.Lt → ⊥) → (h ≡ head.Le → ⊥) → (h ≡ head.True → ⊥) → (h ≡ head.False → ⊥)
    → None ≡ spec.combined truths h x y ts
combined-other truths head.Not x y ts e1 e2 e3 e4 e5 e6 e7 e8 e9 = absurd (e1 refl)
combined-other truths head.And x y ts e1 e2 e3 e4 e5 e6 e7 e8 e9 = absurd (e2 refl)
combined-other truths head.Or x y ts e1 e2 e3 e4 e5 e6 e7 e8 e9 = absurd (e3 refl)
combined-other truths head.Implies x y ts e1 e2 e3 e4 e5 e6 e7 e8 e9 = absurd (e4 refl)
combined-other truths head.Eq x y ts e1 e2 e3 e4 e5 e6 e7 e8 e9 = absurd (e5 refl)
combined-other truths head.Lt x y ts e1 e2 e3 e4 e5 e6 e7 e8 e9 = absurd (e6 refl)
combined-other truths head.Le x y ts e1 e2 e3 e4 e5 e6 e7 e8 e9 = absurd (e7 refl)
combined-other truths head.True x y ts e1 e2 e3 e4 e5 e6 e7 e8 e9 = absurd (e8 refl)
combined-other truths head.False x y ts e1 e2 e3 e4 e5 e6 e7 e8 e9 = absurd (e9 refl)
combined-other truths _ x y ts e1 e2 e3 e4 e5 e6 e7 e8 e9 = refl

-- ---- values beside ids

-- what is found at a place
abbrev pub found_at : List (Option Bool) → Option ℕ → Option Bool
found_at found None = None
found_at found (Some k) = unwrap_or (slice_get found k) None

value_at-nothing : (ids : List TermId) (t : TermId) → value_at ids [] t ≡ None
value_at-nothing [] t = refl
value_at-nothing (u ∷ ids) t = refl

lookup_from : (t : TermId) (ids : List TermId) (found : List (Option Bool)) (i : ℕ) → found_at found (position_from (same_id t) i ids) ≡ value_at ids (drop i found) t
lookup_from t [] found i = refl
lookup_from t (u ∷ ids) found i = elim (cases_lt i (length found)) [ inl below ↦ here below (same_id t u) refl (lookup_from t ids found (i + 1)) | inr above ↦ past (omega (arith, above)) (same_id t u) (lookup_from t ids found (i + 1)) ]
  where
    here : i < length found → (b : Bool) → same_id t u ≡ b → found_at found (position_from (same_id t) (i + 1) ids) ≡ value_at ids (drop (i + 1) found) t
        → found_at found (cond b (Some i) (position_from (same_id t) (i + 1) ids)) ≡ value_at (u ∷ ids) (drop i found) t
    here below true e later =
        unwrap_or-slice_get found i None
        ∙ sym (ap (λ (vs : List (Option Bool)). value_at (u ∷ ids) vs t) (drop_more found i None below) ∙ ap (λ b. cond b (get_or found i None) (value_at ids (drop (i + 1) found) t)) e)
    here below false e later =
        later
        ∙ sym (ap (λ (vs : List (Option Bool)). value_at (u ∷ ids) vs t) (drop_more found i None below) ∙ ap (λ b. cond b (get_or found i None) (value_at ids (drop (i + 1) found) t)) e)

    nothing_left : (j : ℕ) → length found ≤ j → drop j found ≡ []
    nothing_left j h = drop_all j found h

    past : length found ≤ i → (b : Bool) → found_at found (position_from (same_id t) (i + 1) ids) ≡ value_at ids (drop (i + 1) found) t
        → found_at found (cond b (Some i) (position_from (same_id t) (i + 1) ids)) ≡ value_at (u ∷ ids) (drop i found) t
    past h true later =
        ap (λ (o : Option (Option Bool)). unwrap_or o None) (slice_get_past found i h) ∙ sym (ap (λ (vs : List (Option Bool)). value_at (u ∷ ids) vs t) (nothing_left i h))
    past h false later =
        later
        ∙ (ap (λ (vs : List (Option Bool)). value_at ids vs t) (nothing_left (i + 1) (omega (arith, h)))
        ∙ (value_at-nothing ids t ∙ sym (ap (λ (vs : List (Option Bool)). value_at (u ∷ ids) vs t) (nothing_left i h))))

pub lookup_is : (t : TermId) (ids : List TermId) (found : List (Option Bool)) → found_at found (position (same_id t) ids) ≡ value_at ids found t
lookup_is t ids found = ap (found_at found) (position_from-zero (same_id t) ids) ∙ lookup_from t ids found 0

-- a value more leaves those that are there
value_at-push : (t : TermId) (ids : List TermId) (found : List (Option Bool)) (v : Option Bool) → list_any (same_id t) (take (length found) ids) ≡ true → value_at ids (found ++ v ∷ []) t ≡ value_at ids found t
value_at-push t [] found v h = refl
value_at-push t (u ∷ ids) [] v h = absurd (false≢true h)
value_at-push t (u ∷ ids) (w ∷ found) v h = by_case (same_id t u) h (value_at-push t ids found v)
  where
    by_case : (b : Bool) → (b || list_any (same_id t) (take (length found) ids)) ≡ true
        → (list_any (same_id t) (take (length found) ids) ≡ true → value_at ids (found ++ v ∷ []) t ≡ value_at ids found t)
        → cond b w (value_at ids (found ++ v ∷ []) t) ≡ cond b w (value_at ids found t)
    by_case true h later = refl
    by_case false h later = later h

-- it is that of its id
value_at-new : (t : TermId) (ids : List TermId) (found : List (Option Bool)) (v : Option Bool) (d : TermId) → length found < length ids → list_any (same_id t) (take (length found) ids) ≡ false
    → same_id t (get_or ids (length found) d) ≡ true → value_at ids (found ++ v ∷ []) t ≡ v
value_at-new t [] found v d l h e = absurd (omega (arith, l))
value_at-new t (u ∷ ids) [] v d l h e = ap (λ b. cond b v (value_at ids [] t)) e
value_at-new t (u ∷ ids) (w ∷ found) v d l h e = by_case (same_id t u) h (λ g. value_at-new t ids found v d (omega (arith, l)) g e)
  where
    by_case : (b : Bool) → (b || list_any (same_id t) (take (length found) ids)) ≡ false → (list_any (same_id t) (take (length found) ids) ≡ false → value_at ids (found ++ v ∷ []) t ≡ v)
        → cond b w (value_at ids (found ++ v ∷ []) t) ≡ v
    by_case true h later = absurd (false≢true (sym h))
    by_case false h later = later h

module _ (a : Arena) (given : Term → Option Bool) where
  pub nothing_valued : (ids : List TermId) → AreValued a given ids []
  nothing_valued ids t h = absurd (false≢true h)

  pub more_valued : (ids : List TermId) (found more : List (Option Bool)) (n : ℕ) (d : TermId) (v : Option Bool) → AreValued a given ids found → length found ≡ n → n < length ids
      → more ≡ found ++ v ∷ [] → v ≡ valued_in a given (get_or ids n d) → AreValued a given ids more
  more_valued ids found more n d v valued len below e is t h =
      ap (λ vs. value_at ids vs t) e ∙ by_case (list_any (same_id t) (take (length found) ids)) refl
    where
      within : length found < length ids
      within = omega (arith, len, below)

      among : (list_any (same_id t) (take (length found) ids) || same_id t (get_or ids (length found) d)) ≡ true
      among =
          sym (list_any_more (same_id t) ids (length found) d within)
          ∙ (ap (λ k. list_any (same_id t) (take k ids)) (omega (arith, ap length e, length_push found v)) ∙ h)

      by_case : (b : Bool) → list_any (same_id t) (take (length found) ids) ≡ b → value_at ids (found ++ v ∷ []) t ≡ valued_in a given t
      by_case true f = value_at-push t ids found v f ∙ valued t f
      by_case false f =
          let last : same_id t (get_or ids (length found) d) ≡ true = sym (ap (λ b. b || same_id t (get_or ids (length found) d)) f) ∙ among in
          let same : t ≡ get_or ids (length found) d = ap (λ k. record { 0 = k }) (eqb-true t.0 (get_or ids (length found) d).0 last) in
          value_at-new t ids found v d within f last ∙ (is ∙ (ap (λ k. valued_in a given (get_or ids k d)) (sym len) ∙ sym (ap (valued_in a given) same)))

  pub first_is : (ids : List TermId) (found : List (Option Bool)) (ts : List TermId) → AreValued a given ids found → AllValued ids found ts
      → first_at ids found ts ≡ spec.first_of (spec.values (is_truth a.shapes a.decls) given (trees a ts))
  first_is ids found [] valued h = refl
  first_is ids found (t ∷ ts) valued h = valued t h.0

  pub second_is : (ids : List TermId) (found : List (Option Bool)) (ts : List TermId) → AreValued a given ids found → AllValued ids found ts
      → second_at ids found ts ≡ spec.second_of (spec.values (is_truth a.shapes a.decls) given (trees a ts))
  second_is ids found [] valued h = refl
  second_is ids found (t ∷ ts) valued h = first_is ids found ts valued h.1

-- ---- what is computed

-- where a head is no connective, the values of its arguments do not matter
combined-plain : (truths : Bool) (h : Head) (x y : Option Bool) (ts : Terms) → connects truths h ≡ false → spec.combined truths h None None ts ≡ spec.combined truths h x y ts
combined-plain truths head.Not x y ts e = absurd (false≢true (sym e))
combined-plain truths head.And x y ts e = absurd (false≢true (sym e))
combined-plain truths head.Or x y ts e = absurd (false≢true (sym e))
combined-plain truths head.Implies x y ts e = absurd (false≢true (sym e))
combined-plain truths head.Eq x y ts e =
    ap (λ b. spec.equation_value b None None ts) e ∙ sym (ap (λ b. spec.equation_value b x y ts) e)
combined-plain truths _ x y ts e = refl

-- ---- lookups in the code

pub found_there : (t : TermId) (ids : List TermId) (found : List (Option Bool)) (k : ℕ) (d : Option Bool) → Some k ≡ position (same_id t) ids → k < length found → get_or found k d ≡ value_at ids found t
found_there t ids found k d e h =
    get_or-default found k d None h
    ∙ (sym (unwrap_or-slice_get found k None) ∙ (ap (found_at found) e ∙ lookup_is t ids found))
  where
    get_or-default : (xs : List (Option Bool)) (k : ℕ) (d e : Option Bool) → k < length xs → get_or xs k d ≡ get_or xs k e
    get_or-default xs k d e h = same_Some (get_or xs k d) (get_or xs k e) (sym (slice_get-get_or xs k d h) ∙ slice_get-get_or xs k e h)

pub not_found : (t : TermId) (ids : List TermId) (found : List (Option Bool)) (k : ℕ) → Some k ≡ position (same_id t) ids → length found ≤ k → None ≡ value_at ids found t
not_found t ids found k e h =
    sym (ap (λ (o : Option (Option Bool)). unwrap_or o None) (slice_get_past found k h)) ∙ (ap (found_at found) e ∙ lookup_is t ids found)

pub no_place : (t : TermId) (ids : List TermId) (found : List (Option Bool)) → None ≡ position (same_id t) ids → None ≡ value_at ids found t
no_place t ids found e = ap (found_at found) e ∙ lookup_is t ids found

-- ---- known values

abbrev pub known_at : Arena → TermId → List (TermId × Bool) → Option Bool
known_at a t known = spec.assigned (pairs a known) (tree a t)

AllBelow-take : (n k : ℕ) (ts : List TermId) → AllBelow n ts → AllBelow n (take k ts)
AllBelow-take n zero ts h = tt
AllBelow-take n (suc k) [] h = tt
AllBelow-take n (suc k) (t ∷ ts) h = (h.0, AllBelow-take n k ts h.1)

module _ (a : Arena) (h : Head) (args : List TermId) (given : Term → Option Bool) (v : Option Bool) where
  pub computed_plain : false ≡ connects (are_truths a args) h → v ≡ spec.combined (are_truths a args) h None None (trees a args) → v ≡ spec.computed (is_truth a.shapes a.decls) given (term h (trees a args))
  computed_plain f g =
      g
      ∙ combined-plain (are_truths a args) h (spec.first_of (spec.values (is_truth a.shapes a.decls) given (trees a args))) (spec.second_of (spec.values (is_truth a.shapes a.decls) given (trees a args))) (trees a args) (sym f)

  pub computed_inside : (ids : List TermId) (found : List (Option Bool)) (x y : Option Bool) → AreValued a given ids found → AllValued ids found args → x ≡ first_at ids found args → y ≡ second_at ids found args
      → v ≡ spec.combined (are_truths a args) h x y (trees a args) → v ≡ spec.computed (is_truth a.shapes a.decls) given (term h (trees a args))
  computed_inside ids found x y valued inside f g k =
      let first = f ∙ first_is a given ids found args valued inside in
      let second = g ∙ second_is a given ids found args valued inside in
      k ∙ (λ i. spec.combined (are_truths a args) h (first i) (second i) (trees a args))

module _ (a : Arena) (ok : IsArena a) where
  pub computed_at : (t : TermId) (n : Node) (args : List TermId) (given : Term → Option Bool) (v : Option Bool) → slice_get a.nodes t.0 ≡ Some n → args ≡ n.args
      → v ≡ spec.computed (is_truth a.shapes a.decls) given (term n.head (trees a args)) → v ≡ spec.computed (is_truth a.shapes a.decls) given (tree a t)
  computed_at t n args given v at e g =
      g
      ∙ (ap (λ ts. spec.computed (is_truth a.shapes a.decls) given (term n.head (trees a ts))) e ∙ ap (spec.computed (is_truth a.shapes a.decls) given) (sym (tree-node a ok t n at)))

  pub inside_at : (ids : List TermId) (found : List (Option Bool)) (t : TermId) (n : Node) (args : List TermId) → slice_get a.nodes t.0 ≡ Some n → args ≡ n.args → IsInside a ids found t → AreInside a ids found n.head args
  inside_at ids found t n args at e inside f =
      subst (AllValued ids found) (sym e) (inside n at (sym (connective_at a ok t n at args true e (sym f))))

  pub relation_at : (t : TermId) (n : Node) (args : List TermId) → slice_get a.nodes t.0 ≡ Some n → args ≡ n.args → spec.numeral_relation (term n.head (trees a args)) ≡ spec.numeral_relation (tree a t)
  relation_at t n args at e = ap (λ ts. spec.numeral_relation (term n.head (trees a ts))) e ∙ ap spec.numeral_relation (sym (tree-node a ok t n at))

  -- layers of terms are layers of ids
  pub layered_ids : (ids : List TermId) → AllBelow (length a.nodes) ids → Layered (is_connective (is_truth a.shapes a.decls)) (map (tree a) ids) → IsLayered a ids
  layered_ids ids h layered found t at n node inside =
      valued n.args (args_in_range a ok t n node)
      (subst (AllIn (take (length found) (map (tree a) ids))) (ap arguments (tree-node a ok t n node)) (layered.before (length found) (tree a t) (slice_get-map (tree a) ids (length found) ∙ ap (option_map (tree a)) at) inside))
    where
      below : AllBelow (length a.nodes) (take (length found) ids)
      below = AllBelow-take (length a.nodes) (length found) ids h

      valued : (ts : List TermId) → AllBelow (length a.nodes) ts → AllIn (take (length found) (map (tree a) ids)) (listed (trees a ts)) → AllValued ids found ts
      valued [] k g = tt
      valued (u ∷ us) k g =
          (has-trees a ok u (take (length found) ids) k.0 below ∙ (ap (λ xs. list_any (term_eq (tree a u)) xs) (sym (take-map (tree a) (length found) ids)) ∙ g.0), valued us k.1 g.1)

  -- ---- loops

  pub given_here : (t : TermId) (known : List (TermId × Bool)) (i : ℕ) (d : TermId × Bool) (whole : Option Bool) → t.0 < length a.nodes → i < length known → KnownIn a (drop i known)
      → same_id (get_or known i d).0 t ≡ true → known_at a t (drop i known) ≡ whole → Some (get_or known i d).1 ≡ whole
  given_here t known i d whole t_in h inside e same =
      let k_in : (get_or known i d).0.0 < length a.nodes = (subst (KnownIn a) (drop_more known i d h) inside).0 in
      let is : term_eq (tree a (get_or known i d).0) (tree a t) ≡ true = sym (term_eq-ids a ok (get_or known i d).0 t k_in t_in) ∙ e in
      sym (ap (known_at a t) (drop_more known i d h) ∙ ap (λ b. cond b (Some (get_or known i d).1) (known_at a t (drop (i + 1) known))) is) ∙ same

  pub given_later : (t : TermId) (known : List (TermId × Bool)) (i : ℕ) (d : TermId × Bool) (whole : Option Bool) → t.0 < length a.nodes → i < length known → KnownIn a (drop i known)
      → same_id (get_or known i d).0 t ≡ false → known_at a t (drop i known) ≡ whole → known_at a t (drop (i + 1) known) ≡ whole
  given_later t known i d whole t_in h inside e same =
      let k_in : (get_or known i d).0.0 < length a.nodes = (subst (KnownIn a) (drop_more known i d h) inside).0 in
      let is : term_eq (tree a (get_or known i d).0) (tree a t) ≡ false = sym (term_eq-ids a ok (get_or known i d).0 t k_in t_in) ∙ e in
      sym (ap (known_at a t) (drop_more known i d h) ∙ ap (λ b. cond b (Some (get_or known i d).1) (known_at a t (drop (i + 1) known))) is) ∙ same

  pub known_more : (known : List (TermId × Bool)) (i : ℕ) (d : TermId × Bool) → i < length known → KnownIn a (drop i known) → KnownIn a (drop (i + 1) known)
  known_more known i d h inside = (subst (KnownIn a) (drop_more known i d h) inside).1

  pub item_in : (ids items : List TermId) (i : ℕ) (d : TermId) → items ≡ ids → AllBelow (length a.nodes) ids → i < length items → (get_or items i d).0 < length a.nodes
  item_in ids items i d e inside h =
      AllBelow-at (length a.nodes) items i (get_or items i d) (subst (AllBelow (length a.nodes)) (sym e) inside) (slice_get-get_or items i d h)

  pub item_inside : (ids items : List TermId) (found slice : List (Option Bool)) (i : ℕ) (d : TermId) → items ≡ ids → slice ≡ found → length found ≡ i → i < length items → IsLayered a ids
      → IsInside a ids slice (get_or items i d)
  item_inside ids items found slice i d e f len h layered =
      let at : slice_get ids (length slice) ≡ Some (get_or items i d) =
      ap (λ k. slice_get ids k) (ap length f ∙ len) ∙ (ap (λ xs. slice_get xs i) (sym e) ∙ slice_get-get_or items i d h) in
      layered slice (get_or items i d) at

  pub item_valued : (given : Term → Option Bool) (ids items : List TermId) (found more : List (Option Bool)) (i : ℕ) (d : TermId) (v : Option Bool) → AreValued a given ids found → length found ≡ i
      → items ≡ ids → i < length items → more ≡ found ++ v ∷ [] → v ≡ valued_in a given (get_or items i d) → AreValued a given ids more
  item_valued given ids items found more i d v valued len e h f is =
      more_valued a given ids found more i d v valued len (subst (λ (xs : List TermId). i < length xs) e h) f (is ∙ ap (λ xs. valued_in a given (get_or xs i d)) e)

  pub one_more_value : (found more : List (Option Bool)) (i : ℕ) (v : Option Bool) → length found ≡ i → more ≡ found ++ v ∷ [] → length more ≡ i + 1
  one_more_value found more i v len e = omega (arith, len, ap length e, length_push found v)

  module _ (ids roots : List TermId) (inside : AllBelow (length a.nodes) ids) (roots_in : AllBelow (length a.nodes) roots)
      (e : map (tree a) ids ≡ order_all (is_connective (is_truth a.shapes a.decls)) (trees a roots) []) where
    pub order_is_layered : IsLayered a ids
    order_is_layered =
        layered_ids ids inside (subst (Layered (is_connective (is_truth a.shapes a.decls))) (sym e) (order_all_layered (is_connective (is_truth a.shapes a.decls)) (trees a roots)))

    pub order_has_roots : AllAmong ids roots
    order_has_roots = among roots roots_in (subst (λ (xs : List Term). AllIn xs (listed (trees a roots))) (sym e) (order_all_has (is_connective (is_truth a.shapes a.decls)) (trees a roots)))
      where
        among : (ts : List TermId) → AllBelow (length a.nodes) ts → AllIn (map (tree a) ids) (listed (trees a ts)) → AllAmong ids ts
        among [] k g = tt
        among (t ∷ ts) k g = (has-trees a ok t ids k.0 inside ∙ g.0, among ts k.1 g.1)

-- ---- where each of the ids has its value

all_there : (ids : List TermId) (found : List (Option Bool)) (t : TermId) → length found ≡ length ids → list_any (same_id t) ids ≡ true → list_any (same_id t) (take (length found) ids) ≡ true
all_there ids found t len h = ap (λ xs. list_any (same_id t) xs) (take_all (length found) ids (omega (arith, len))) ∙ h

pub whole_valued : (a : Arena) (given : Term → Option Bool) (ids : List TermId) (found : List (Option Bool)) (t : TermId) (v : Option Bool) → AreValued a given ids found → length found ≡ length ids
    → list_any (same_id t) ids ≡ true → v ≡ value_at ids found t → v ≡ valued_in a given t
whole_valued a given ids found t v valued len there g = g ∙ valued t (all_there ids found t len there)

pub among_valued : (ids : List TermId) (found : List (Option Bool)) (ts : List TermId) → length found ≡ length ids → AllAmong ids ts → AllValued ids found ts
among_valued ids found [] len h = tt
among_valued ids found (t ∷ ts) len h = (all_there ids found t len h.0, among_valued ids found ts len h.1)

-- what is among the first ids is among more of them
among_longer : (ids : List TermId) (k m : ℕ) (t : TermId) → k ≤ m → list_any (same_id t) (take k ids) ≡ true → list_any (same_id t) (take m ids) ≡ true
among_longer [] zero m t le h = absurd (false≢true h)
among_longer [] (suc k) m t le h = absurd (false≢true h)
among_longer (u ∷ ids) zero m t le h = absurd (false≢true h)
among_longer (u ∷ ids) (suc k) zero t le h = absurd (omega (arith, le))
among_longer (u ∷ ids) (suc k) (suc m) t le h = by_case (same_id t u) h (among_longer ids k m t (omega (arith, le)))
  where
    by_case : (b : Bool) → (b || list_any (same_id t) (take k ids)) ≡ true → (list_any (same_id t) (take k ids) ≡ true → list_any (same_id t) (take m ids) ≡ true)
        → (b || list_any (same_id t) (take m ids)) ≡ true
    by_case true g later = refl
    by_case false g later = later g

valued_longer : (ids : List TermId) (few found : List (Option Bool)) (ts : List TermId) → length few ≤ length found → AllValued ids few ts → AllValued ids found ts
valued_longer ids few found [] le h = tt
valued_longer ids few found (t ∷ ts) le h = (among_longer ids (length few) (length found) t le h.0, valued_longer ids few found ts le h.1)

-- an id that is there has a place
pub record HasPlace (ids : List TermId) (t : TermId) : Type 0 where
  pub place : ℕ
  pub at : slice_get ids place ≡ Some t
  pub below : place < length ids

pub has_place : (ids : List TermId) (t : TermId) → list_any (same_id t) ids ≡ true → HasPlace ids t
has_place [] t h = absurd (false≢true h)
has_place (u ∷ ids) t h = by_case (same_id t u) refl h (has_place ids t)
  where
    by_case : (b : Bool) → same_id t u ≡ b → (b || list_any (same_id t) ids) ≡ true → (list_any (same_id t) ids ≡ true → HasPlace ids t) → HasPlace (u ∷ ids) t
    by_case true e g later = record { place = 0; at = ap (λ (k : ℕ). Some (record { 0 = k })) (sym (eqb-true t.0 u.0 e)); below = omega arith }
    by_case false e g later =
        let p = later g in
        let within = p.below in
        record { place = suc p.place; at = p.at; below = omega (arith, within) }

-- of a term among the ids the arguments are valued, where each id has its value
pub inside_of : (a : Arena) (ids : List TermId) (found : List (Option Bool)) (t : TermId) → IsLayered a ids → length found ≡ length ids → list_any (same_id t) ids ≡ true → IsInside a ids found t
inside_of a ids found t layered len there n node connective =
    let p = has_place ids t there in
    let within = p.below in
    let few : List (Option Bool) = take p.place found in
    let count : length few ≡ p.place = length-take-le p.place found (omega (arith, within, len)) in
    valued_longer ids few found n.args (omega (arith, count, within, len)) (layered few t (ap (slice_get ids) count ∙ p.at) n node connective)

-- the given value at a place
pub own_is : (a : Arena) (given : Term → Option Bool) (ids items : List TermId) (own : List (Option Bool)) (i : ℕ) (d : TermId) (e : Option Bool) → items ≡ ids → AreGiven a given ids own → i < length ids
    → get_or own i e ≡ given (tree a (get_or items i d))
own_is a given ids items own i d e same is h =
    same_Some (get_or own i e) (given (tree a (get_or items i d)))
    (sym (slice_get-get_or own i e (subst (λ (n : ℕ). i < n) (sym (ap length is ∙ length-map ids (λ t. given (tree a t)))) h))
    ∙ (ap (λ xs. slice_get xs i) is
    ∙ (slice_get-map (λ t. given (tree a t)) ids i
    ∙ (ap (option_map (λ t. given (tree a t))) (slice_get-get_or ids i d h) ∙ ap (λ xs. Some (given (tree a (get_or xs i d)))) (sym same)))))

pub truth_is : (a : Arena) (known : List (TermId × Bool)) (ids : List TermId) (own own_slice found slice : List (Option Bool)) (t : TermId) (v : Option Bool) → AreGiven a (spec.assigned (pairs a known)) ids own → own_slice ≡ own
    → ((given : Term → Option Bool) → AreGiven a given ids own_slice → AreValued a given ids found) → length found ≡ length ids → list_any (same_id t) ids ≡ true → slice ≡ found → v ≡ value_at ids slice t → v ≡ truth_in a known t
truth_is a known ids own own_slice found slice t v is e valued len there f g =
    whole_valued a (spec.assigned (pairs a known)) ids found t v (valued (spec.assigned (pairs a known)) (e ∙ is)) len there (g ∙ ap (λ vs. value_at ids vs t) f)

pub own_at : (a : Arena) (given : Term → Option Bool) (ids items : List TermId) (own : List (Option Bool)) (i : ℕ) (d : TermId) (e : Option Bool) (k : ℕ) → k ≡ i → items ≡ ids → AreGiven a given ids own → i < length items
    → get_or own k e ≡ given (tree a (get_or items i d))
own_at a given ids items own i d e k at same is h =
    ap (λ n. get_or own n e) at ∙ own_is a given ids items own i d e same is (subst (λ (xs : List TermId). i < length xs) same h)
