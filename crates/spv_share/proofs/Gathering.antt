-- Relations among atoms, one more at a time.
use Rattle.std.proofs.Common.{◌≡◌, ℕ, zero, suc, ◌<◌, Bool, true, false, cond, ◌&&◌, List, [], ◌∷◌, ◌++◌, map, length, refl, sym, ap, ◌∙◌, subst, Option, Some, None, MatchOption, arith, inl, inr, take, ◌⊎◌}
use Rattle.std.specs.Prelude.{slice_get, is_some}
use Rattle.std.proofs.lemmas.Bool.{cases_lt}
use Rattle.std.proofs.lemmas.List.{append-nil, length_push, map-append}
use Rattle.std.proofs.lemmas.Option.{slice_get_within, same_Some}
use Rattle.spv_logic.specs.declared.conditions.TermId.{TermId}
use Rattle.spv_logic.specs.declared.operators.Head.{Head}
use Rattle.spv_logic.specs.declared.operators.Head.TheVariants.{Eq, Lt, Le}
use Rattle.spv_logic.specs.Terms.{Term, Terms, term, no_terms, terms}
use Rattle.spv_term.specs.declared.nodes.Node.{Node}
use Rattle.spv_term.specs.Arena.{AllBelow, Arena, IsArena, tree, trees}
use Rattle.spv_term.proofs.ArenaLemmas.{args_in_range, HasOneId-arena, node_of, tree-node}
use Rattle.spv_term.proofs.ListLemmas.{slice_get-append_left, slice_get_push}
use Rattle.spv_congruence.specs.Keep.{IsNode}
use Rattle.spv_congruence.specs.Told.{argument, IsPart, whole}
use Rattle.spv_atoms.specs.Atoms.{only_if}
use Rattle.spv_atoms.specs.Order.{passing}
use Rattle.spv_atoms.proofs.Members.{passing-append}
use Rattle.spv_proof_rules.specs.Sums.{pair}
use Rattle.spv_arithmetic_side.specs.bounds.Pairs.{IsPair}
use Rattle.spv_proof.specs.sums.Readings.{number_in}
use Rattle.spv_tableau_rules.specs.constraints.Relations.{if_numbers, in_front, number_sides, relations}
use Rattle.spv_explanations.specs.declared.congruence_side.trail.Trail.{Trail}
use Rattle.spv_explanations.specs.congruence_side.Holding.{AddsTerm, Holds}
use Rattle.spv_share.specs.declared.relations.Related.{Related}
use Rattle.spv_share.specs.Relations.{AreNodes, AreParts, AreRelations, head_under, AreListed, IsGathered, IsListed, IsPartOf, IsRelation, is_relation, related, sides_in}
use Rattle.spv_share.proofs.Sound.{relations_more}

-- ---- one item more

pub nodes_push : (nodes : List (Option Node)) (ts : List TermId) (t : TermId) → AreNodes nodes ts → IsNode nodes t → AreNodes nodes (ts ++ t ∷ [])
nodes_push nodes ts t h k = record { each = each }
  where
    each : (i : ℕ) (u : TermId) → slice_get (ts ++ t ∷ []) i ≡ Some u → IsNode nodes u
    each i u at = elim (cases_lt i (length ts)) [
      | inl below ↦ h.each i u (sym (slice_get-append_left ts (t ∷ []) i below) ∙ at)
      | inr above ↦
          let inside = slice_get_within (ts ++ t ∷ []) i u at in
          let last : i ≡ length ts = omega (arith, length_push ts t) in
          let same : t ≡ u = same_Some t u (sym (slice_get_push ts t) ∙ ap (slice_get (ts ++ t ∷ [])) (sym last) ∙ at) in
          subst (IsNode nodes) same k
    ]

relations_push : (a : Arena) (nodes : List (Option Node)) (rels : List Related) (r : Related) → AreRelations a nodes rels → IsRelation a nodes r → r.row ≡ length rels → AreRelations a nodes (rels ++ r ∷ [])
relations_push a nodes rels r h k row = record { each = λ i q at. (both i q at).0; placed = λ i q at. (both i q at).1 }
  where
    both : (i : ℕ) (q : Related) → slice_get (rels ++ r ∷ []) i ≡ Some q → IsRelation a nodes q × (q.row ≡ i)
    both i q at = elim (cases_lt i (length rels)) [
      | inl below ↦ let there : slice_get rels i ≡ Some q = sym (slice_get-append_left rels (r ∷ []) i below) ∙ at in (h.each i q there, h.placed i q there)
      | inr above ↦
          let inside = slice_get_within (rels ++ r ∷ []) i q at in
          let last : i ≡ length rels = omega (arith, length_push rels r) in
          let same : r ≡ q = same_Some r q (sym (slice_get_push rels r) ∙ ap (slice_get (rels ++ r ∷ [])) (sym last) ∙ at) in
          subst (λ (x : Related). IsRelation a nodes x × (x.row ≡ i)) same (k, row ∙ sym last)
    ]

among_push : (test : Term → Bool) (ts : List Term) (t : Term) → relations test (ts ++ t ∷ []) ≡ relations test ts ++ in_front (number_sides test t) []
among_push test [] t = refl
among_push test (u ∷ ts) t = ap (in_front (number_sides test u)) (among_push test ts t) ∙ sym (front_append (number_sides test u) (relations test ts) (in_front (number_sides test t) []))
  where
    front_append : (o : Option (Term × Term)) (xs ys : List (Term × Term)) → in_front o xs ++ ys ≡ in_front o (xs ++ ys)
    front_append None xs ys = refl
    front_append (Some st) xs ys = refl

-- ---- relations that are listed

listed_on : (old more new : List Related) (t : TermId) → new ≡ old ++ more → IsListed old t → IsListed new t
listed_on old more new t e h = record {
  row = h.row;
  relation = h.relation;
  there = ap (λ rs. slice_get rs h.row) e ∙ (slice_get-append_left old more h.row (slice_get_within old h.row h.relation h.there) ∙ h.there);
  is = h.is;
}

listed_push : (a : Arena) (ts : List TermId) (t : TermId) (old more new : List Related) → new ≡ old ++ more → AreListed a ts old → ((st : Term × Term) → number_sides (number_in a) (tree a t) ≡ Some st → IsListed new t) → AreListed a (ts ++ t ∷ []) new
listed_push a ts t old more new e h k = record { each = each }
  where
    each : (i : ℕ) (u : TermId) (st : Term × Term) → slice_get (ts ++ t ∷ []) i ≡ Some u → number_sides (number_in a) (tree a u) ≡ Some st → IsListed new u
    each i u st at sides = elim (cases_lt i (length ts)) [
      | inl below ↦ listed_on old more new u e (h.each i u st (sym (slice_get-append_left ts (t ∷ []) i below) ∙ at) sides)
      | inr above ↦
          let inside = slice_get_within (ts ++ t ∷ []) i u at in
          let last : i ≡ length ts = omega (arith, length_push ts t) in
          let same : t ≡ u = same_Some t u (sym (slice_get_push ts t) ∙ ap (slice_get (ts ++ t ∷ [])) (sym last) ∙ at) in
          subst (IsListed new) same (k st (ap (λ (x : TermId). number_sides (number_in a) (tree a x)) same ∙ sides))
    ]

-- ---- parts

part_through : (a : Arena) (t x : TermId) → IsPart a t x → (u : TermId) → IsPart a x u → IsPart a t u
part_through a t x h _ whole = h
part_through a t x h _ (argument y n i u p at arg) = argument y n i u (part_through a t x h y p) at arg

part_stays : (a : Arena) (ts : List TermId) (t u : TermId) → IsPartOf a ts u → IsPartOf a (ts ++ t ∷ []) u
part_stays a ts t u h = record {
  place = h.place;
  whole = h.whole;
  there = slice_get-append_left ts (t ∷ []) h.place (slice_get_within ts h.place h.whole h.there) ∙ h.there;
  part = h.part;
}

parts_longer : (a : Arena) (nodes : List (Option Node)) (ts : List TermId) (t : TermId) → AreParts a nodes ts → AreParts a nodes (ts ++ t ∷ [])
parts_longer a nodes ts t h = record { each = λ u n. part_stays a ts t u (h.each u n) }

-- a part of one of them was added
parts_within : (a : Arena) (old new : Trail) (ts : List TermId) (place : ℕ) (t x : TermId) → AreParts a old.graph.nodes ts → AddsTerm a x old new → slice_get ts place ≡ Some t → IsPart a t x → AreParts a new.graph.nodes ts
parts_within a old new ts place t x h adds at part = record {
  each = λ u n. elim (adds.parts u n) [
    | inl k ↦ h.each u k
    | inr p ↦ record { place = place; whole = t; there = at; part = part_through a t x part u p }
  ];
}

last_is : (ts : List TermId) (t : TermId) → slice_get (ts ++ t ∷ []) (length ts) ≡ Some t
last_is ts t = slice_get_push ts t

ends_kept : (a : Arena) (old new : Trail) (ts : List TermId) → new.truth ≡ old.truth → new.falsity ≡ old.falsity → AreParts a new.graph.nodes (old.truth ∷ old.falsity ∷ ts) → AreParts a new.graph.nodes (new.truth ∷ new.falsity ∷ ts)
ends_kept a old new ts truth falsity h =
    subst (λ (x : TermId). AreParts a new.graph.nodes (x ∷ new.falsity ∷ ts)) (sym truth) (subst (λ (y : TermId). AreParts a new.graph.nodes (old.truth ∷ y ∷ ts)) (sym falsity) h)

-- an atom was added
parts_atom : (a : Arena) (old new : Trail) (ts : List TermId) (t : TermId) → AreParts a old.graph.nodes (old.truth ∷ old.falsity ∷ ts) → AddsTerm a t old new → AreParts a new.graph.nodes (new.truth ∷ new.falsity ∷ (ts ++ t ∷ []))
parts_atom a old new ts t h adds =
    ends_kept a old new (ts ++ t ∷ []) adds.truth adds.falsity
    (parts_within a old new (old.truth ∷ old.falsity ∷ (ts ++ t ∷ [])) (suc (suc (length ts))) t t (parts_longer a old.graph.nodes (old.truth ∷ old.falsity ∷ ts) t h) adds (last_is ts t) whole)

parts_side : (a : Arena) (old new : Trail) (ts : List TermId) (t x : TermId) → AreParts a old.graph.nodes (old.truth ∷ old.falsity ∷ (ts ++ t ∷ [])) → AddsTerm a x old new → IsPart a t x → AreParts a new.graph.nodes (new.truth ∷ new.falsity ∷ (ts ++ t ∷ []))
parts_side a old new ts t x h adds part =
    ends_kept a old new (ts ++ t ∷ []) adds.truth adds.falsity (parts_within a old new (old.truth ∷ old.falsity ∷ (ts ++ t ∷ [])) (suc (suc (length ts))) t x h adds (last_is ts t) part)

-- the sides of a relation are its parts
record AreTwo (xs : List TermId) (l r : TermId) : Type 0 where
  first : slice_get xs 0 ≡ Some l
  second : slice_get xs 1 ≡ Some r

two_args : (a : Arena) → IsArena a → (l r : TermId) → l.0 < length a.nodes → r.0 < length a.nodes → (xs : List TermId) → AllBelow (length a.nodes) xs → trees a xs ≡ terms (tree a l) (terms (tree a r) no_terms) → AreTwo xs l r
two_args a ok l r hl hr [] below e = absurd (cc)
two_args a ok l r hl hr (x ∷ []) below e = absurd (short (tree a x) (tree a l) (tree a r) e)
  where
    short : (p q s : Term) → terms p no_terms ≡ terms q (terms s no_terms) → ⊥
    short p q s e = cc
two_args a ok l r hl hr (x ∷ y ∷ xs) below e =
    let first : tree a x ≡ tree a l = one (tree a x) (tree a y) (tree a l) (tree a r) (trees a xs) e in
    let second : tree a y ≡ tree a r = other (tree a x) (tree a y) (tree a l) (tree a r) (trees a xs) e in
    record { first = ap Some (HasOneId-arena a ok x l below.0 hl first); second = ap Some (HasOneId-arena a ok y r below.1.0 hr second) }
  where
    one : (p q s t : Term) (ts : Terms) → terms p (terms q ts) ≡ terms s (terms t no_terms) → p ≡ s
    one p q s t ts e = cc

    other : (p q s t : Term) (ts : Terms) → terms p (terms q ts) ≡ terms s (terms t no_terms) → q ≡ t
    other p q s t ts e = cc

record AreSides (a : Arena) (t l r : TermId) : Type 0 where
  left : IsPart a t l
  right : IsPart a t r

sides_parts : (a : Arena) → IsArena a → (t l r : TermId) (h : Head) → t.0 < length a.nodes → l.0 < length a.nodes → r.0 < length a.nodes → tree a t ≡ term h (terms (tree a l) (terms (tree a r) no_terms)) → AreSides a t l r
sides_parts a ok t l r h inside hl hr is =
    let n = node_of a ok t inside in
    let args : trees a n.0.args ≡ terms (tree a l) (terms (tree a r) no_terms) = under n.0.head h (trees a n.0.args) (terms (tree a l) (terms (tree a r) no_terms)) (sym (tree-node a ok t n.0 n.1) ∙ is) in
    let two = two_args a ok l r hl hr n.0.args (args_in_range a ok t n.0 n.1) args in
    record { left = argument t n.0 0 l whole n.1 two.first; right = argument t n.0 1 r whole n.1 two.second }
  where
    under : (p q : Head) (ss ts : Terms) → term p ss ≡ term q ts → ss ≡ ts
    under p q ss ts e = cc

-- ---- an atom that is no relation

pub gathered_other : (a : Arena) (old new : Trail) (ts : List TermId) (t : TermId) (rels : List Related) → IsGathered a old ts rels → Holds a new → AddsTerm a t old new → IsNode new.graph.nodes t
    → number_sides (number_in a) (tree a t) ≡ None → IsGathered a new (ts ++ t ∷ []) rels
gathered_other a old new ts t rels h holds adds node none = record {
  holds = holds;
  derivation = adds.derivation ∙ h.derivation;
  untold = adds.told ∙ h.untold;
  parts = parts_atom a old new ts t h.parts adds;
  nodes = nodes_push new.graph.nodes ts t (record { each = λ i u at. adds.nodes u (h.nodes.each i u at) }) node;
  are = relations_more a old.graph.nodes new.graph.nodes rels adds.nodes h.are;
  among =
      h.among
      ∙ (sym (append-nil (relations (number_in a) (map (tree a) ts)))
      ∙ (ap (λ o. relations (number_in a) (map (tree a) ts) ++ in_front o []) (sym none)
      ∙ (sym (among_push (number_in a) (map (tree a) ts) (tree a t)) ∙ ap (relations (number_in a)) (sym (map-append (tree a) ts (t ∷ []))))));
  listed = listed_push a ts t rels [] rels (sym (append-nil rels)) h.listed (λ st sides. absurd (no_sides st (sym none ∙ sides)));
  atoms =
      h.atoms
      ∙ (sym (append-nil (passing (is_relation a) (map (tree a) ts)))
      ∙ (ap (λ o. passing (is_relation a) (map (tree a) ts) ++ (only_if (is_some o) (tree a t) ++ [])) (sym none)
      ∙ (sym (passing-append (is_relation a) (map (tree a) ts) (tree a t ∷ [])) ∙ ap (passing (is_relation a)) (sym (map-append (tree a) ts (t ∷ []))))));
}
  where
    no_sides : (st : Term × Term) → None ≡ Some st → ⊥
    no_sides st e = cc

-- ---- a relation

abbrev head_of : Term → Head
head_of (term q ts) = q

abbrev two : Term → Term → Term × Term
two x y = (x, y)

pair_is : (test : Term → Bool) (ts : Terms) (x y : Term) → if_numbers test (pair ts) ≡ Some (two x y) → ts ≡ terms x (terms y no_terms)
pair_is test (terms u (terms v no_terms)) x y e = by_case (test u && test v) e
  where
    by_case : (b : Bool) → cond b (Some (two u v)) None ≡ Some (two x y) → terms u (terms v no_terms) ≡ terms x (terms y no_terms)
    by_case false f = absurd (cc)
    by_case true f =
        let same : two u v ≡ two x y = same_Some (two u v) (two x y) f in
        ap (λ (q : Term × Term). terms q.0 (terms q.1 no_terms)) same
pair_is test ts x y e = absurd (cc)

sides_are : (test : Term → Bool) (t x y : Term) → number_sides test t ≡ Some (two x y) → t ≡ term (head_of t) (terms x (terms y no_terms))
sides_are test (term Eq ts) x y e = ap (term Eq) (pair_is test ts x y e)
sides_are test (term Lt ts) x y e = ap (term Lt) (pair_is test ts x y e)
sides_are test (term Le ts) x y e = ap (term Le) (pair_is test ts x y e)
sides_are test (term q ts) x y e = absurd (cc)

-- the head of a tree is that of its node
head_is : (a : Arena) → IsArena a → (t : TermId) → t.0 < length a.nodes → head_of (tree a t) ≡ head_under (slice_get a.nodes t.0)
head_is a ok t inside = by_node (slice_get a.nodes t.0) refl
  where
    by_node : (o : Option Node) → slice_get a.nodes t.0 ≡ o → head_of (tree a t) ≡ head_under o
    by_node None e = absurd (past a.nodes t.0 inside e)
      where
        past : (ns : List Node) (i : ℕ) → i < length ns → slice_get ns i ≡ None → ⊥
        past [] i h e = omega arith
        past (n ∷ ns) zero h e = cc
        past (n ∷ ns) (suc i) h e = past ns i (omega arith) e
    by_node (Some n) e = ap head_of (tree-node a ok t n e)

pub gathered_relation : (a : Arena) → IsArena a → (old first second new : Trail) (ts : List TermId) (t l r : TermId) (old_rels new_rels : List Related) → t.0 < length a.nodes → IsGathered a old ts old_rels
    → AddsTerm a t old first → AddsTerm a l first second → AddsTerm a r second new → Holds a new → IsNode first.graph.nodes t → IsNode second.graph.nodes l → IsNode new.graph.nodes r
    → l.0 < length a.nodes → r.0 < length a.nodes → number_sides (number_in a) (tree a t) ≡ Some (tree a l, tree a r) → new_rels ≡ old_rels ++ related a t l r (length old_rels) ∷ []
    → IsGathered a new (ts ++ t ∷ []) new_rels
gathered_relation a ok old first second new ts t l r old_rels new_rels inside h grows_one grows_two grows_three holds node left right left_in right_in sides pushed = record {
  holds = holds;
  derivation = grows_three.derivation ∙ (grows_two.derivation ∙ (grows_one.derivation ∙ h.derivation));
  untold = grows_three.told ∙ (grows_two.told ∙ (grows_one.told ∙ h.untold));
  parts =
      let are = sides_parts a ok t l r (head_of (tree a t)) inside left_in right_in (sides_are (number_in a) (tree a t) (tree a l) (tree a r) sides) in
      parts_side a second new ts t r (parts_side a first second ts t l (parts_atom a old first ts t h.parts grows_one) grows_two are.left) grows_three are.right;
  nodes = nodes_push new.graph.nodes ts t (record { each = λ i u at. up u (h.nodes.each i u at) }) (grows_three.nodes t (grows_two.nodes t node));
  are = subst (λ (rs : List Related). AreRelations a new.graph.nodes rs) (sym pushed) (relations_push a new.graph.nodes old_rels (related a t l r (length old_rels)) (relations_more a old.graph.nodes new.graph.nodes old_rels up h.are) relation refl);
  among =
      ap (map (sides_in a)) pushed
      ∙ (map-append (sides_in a) old_rels (related a t l r (length old_rels) ∷ [])
      ∙ (ap (λ xs. xs ++ two (tree a l) (tree a r) ∷ []) h.among
      ∙ (ap (λ o. relations (number_in a) (map (tree a) ts) ++ in_front o []) (sym sides)
      ∙ (sym (among_push (number_in a) (map (tree a) ts) (tree a t)) ∙ ap (relations (number_in a)) (sym (map-append (tree a) ts (t ∷ [])))))));
  listed =
      listed_push a ts t old_rels (related a t l r (length old_rels) ∷ []) new_rels pushed h.listed
      (λ st e. record {
        row = length old_rels;
        relation = related a t l r (length old_rels);
        there = ap (λ rs. slice_get rs (length old_rels)) pushed ∙ slice_get_push old_rels (related a t l r (length old_rels));
        is = refl;
      });
  atoms =
      ap (map (λ r. tree a r.atom)) pushed
      ∙ (map-append (λ r. tree a r.atom) old_rels (related a t l r (length old_rels) ∷ [])
      ∙ (ap (λ xs. xs ++ tree a t ∷ []) h.atoms
      ∙ (ap (λ o. passing (is_relation a) (map (tree a) ts) ++ (only_if (is_some o) (tree a t) ++ [])) (sym sides)
      ∙ (sym (passing-append (is_relation a) (map (tree a) ts) (tree a t ∷ [])) ∙ ap (passing (is_relation a)) (sym (map-append (tree a) ts (t ∷ [])))))));
}
  where
    up : (u : TermId) → IsNode old.graph.nodes u → IsNode new.graph.nodes u
    up u k = grows_three.nodes u (grows_two.nodes u (grows_one.nodes u k))

    relation : IsRelation a new.graph.nodes (related a t l r (length old_rels))
    relation = record {
      within = inside;
      left_in = left_in;
      right_in = right_in;
      left = grows_three.nodes l left;
      right = right;
      is = sides_are (number_in a) (tree a t) (tree a l) (tree a r) sides ∙ ap (λ q. term q (terms (tree a l) (terms (tree a r) no_terms))) (head_is a ok t inside);
      sides = sides;
    }

abbrev ids : List TermId → List TermId
ids ts = ts

abbrev rels_of : List Related → List Related
rels_of rs = rs

pub gathered_none : (a : Arena) (tr : Trail) → Holds a tr → tr.derivation ≡ [] → tr.graph.told ≡ [] → AreParts a tr.graph.nodes (tr.truth ∷ tr.falsity ∷ []) → IsGathered a tr [] []
gathered_none a tr h derivation untold parts = record {
  holds = h;
  derivation = derivation;
  untold = untold;
  parts = parts;
  nodes = record { each = λ i t at. absurd (nothing i t at) };
  are = record { each = λ i r at. absurd (no_relation i r at); placed = λ i r at. absurd (no_relation i r at) };
  among = refl;
  listed = record { each = λ i t st at e. absurd (nothing i t at) };
  atoms = refl;
}
  where
    nothing : (i : ℕ) (t : TermId) → slice_get (ids []) i ≡ Some t → ⊥
    nothing i t at = cc

    no_relation : (i : ℕ) (r : Related) → slice_get (rels_of []) i ≡ Some r → ⊥
    no_relation i r at = cc

pub pair_here : (a : Arena) (sides : Option (Term × Term)) (o : Option (TermId × TermId)) (p : TermId × TermId) → MatchOption o (sides ≡ None) (λ q. IsPair a sides q) → o ≡ Some p → IsPair a sides p
pair_here a sides None p h e = absurd (cc)
pair_here a sides (Some q) p h e = subst (IsPair a sides) (same_Some q p e) h

-- the first of no atoms
pub gathered_start : (a : Arena) (tr : Trail) (atoms : List TermId) (rels : List Related) → rels ≡ [] → Holds a tr → tr.derivation ≡ [] → tr.graph.told ≡ [] → AreParts a tr.graph.nodes (tr.truth ∷ tr.falsity ∷ []) → IsGathered a tr (take 0 atoms) rels
gathered_start a tr atoms rels none h derivation untold parts =
    subst (λ (ts : List TermId). IsGathered a tr ts rels) (sym (take_none atoms)) (subst (λ (rs : List Related). IsGathered a tr [] rs) (sym none) (gathered_none a tr h derivation untold parts))
  where
    take_none : (xs : List TermId) → take 0 xs ≡ []
    take_none [] = refl
    take_none (x ∷ xs) = refl

-- the terms of a trail as it begins
pub ends_parts : (a : Arena) (tr : Trail) (truth falsity : TermId) → tr.truth ≡ truth → tr.falsity ≡ falsity → ((u : TermId) → IsNode tr.graph.nodes u → IsPart a truth u ⊎ IsPart a falsity u) → AreParts a tr.graph.nodes (tr.truth ∷ tr.falsity ∷ [])
ends_parts a tr truth falsity t f h = record {
  each = λ u n. elim (h u n) [
    | inl p ↦ record { place = 0; whole = truth; there = ap Some t; part = p }
    | inr p ↦ record { place = 1; whole = falsity; there = ap Some f; part = p }
  ];
}
