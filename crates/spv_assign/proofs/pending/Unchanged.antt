-- Terms that stay as they are where pairs are put in, and lists in which the others alone are replaced.
use Rattle.std.proofs.Common.{◌≡◌, ℕ, zero, suc, ◌+◌, ◌<◌, ◌≤◌, Bool, true, false, ◌||◌, List, [], ◌∷◌, ◌++◌, map, length, drop, get_or, slice_get, Option, Some, None, is_some, option_map, refl, sym, ap, ◌∙◌, subst, arith}
use Rattle.std.proofs.lemmas.Bool.{false≢true, or_right}
use Rattle.std.proofs.lemmas.List.{append-nil, append_assoc, drop_more, drop_all}
use Rattle.std.proofs.lemmas.Option.{slice_get_within}
use Rattle.spv_logic.specs.declared.conditions.TermId.{TermId}
use Rattle.spv_logic.specs.Terms.{Term, term, terms}
use Rattle.spv_logic.specs.Substitution.{Replacement, is_variable, replacement_at, replaced, substitute, substitute_all}
use Rattle.spv_term.specs.declared.nodes.Node.{Node}
use Rattle.spv_term.specs.Arena.{Arena, IsArena, AllBelow, Extends, tree, trees, sort_at, sorts_at}
use Rattle.spv_term.specs.substitution.Images.{image_of, head_of, head_at, pairs_at, substituted, ArePairs}
use Rattle.spv_term.specs.substitution.Parts.{AddsParts, LacksPart, is_part, is_part_of}
use Rattle.spv_term.proofs.ArenaLemmas.{tree-node, args_in_range, tree-Extends, sort_at-Extends, length-Extends}
use Rattle.spv_term.proofs.substitution.ImageLemmas.{pairs-image}
use Rattle.spv_assign.specs.pending.Staying.{Stays, AllStay, AreMarked, if_marked, marked, one_if, one_put_back, put_back}

-- ---- one term

none_there : (b : Bool) → replacement_at b None ≡ None
none_there true = refl
none_there false = refl

no_image : (o : Option TermId) (f : TermId → Term) → is_some o ≡ false → option_map f o ≡ None
no_image None f e = refl
no_image (Some t) f e = absurd (false≢true (sym e))

module _ (a : Arena) (pairs : List (TermId × TermId)) where
  abbrev by : Replacement
  by = pairs_at a pairs

  args_stay : (ts : List TermId) → AllStay a pairs ts → substitute_all by (trees a ts) ≡ trees a ts
  args_stay [] h = refl
  args_stay (t ∷ ts) h =
      let first = h.0.same in
      let others = args_stay ts h.1 in
      λ i. terms (first i) (others i)

  -- a term that is no pair's first one stays where its arguments do
  pub stays_over : (ok : IsArena a) (t : TermId) (n : Node) → ArePairs a pairs → slice_get a.nodes t.0 ≡ Some n → is_some (image_of pairs t) ≡ false → AllStay a pairs n.args → Stays a pairs t
  stays_over ok t n fit at none args =
      let whole = tree-node a ok t n at in
      let head : head_at a t ≡ n.head = ap head_of whole in
      let nothing : by n.head ≡ None = ap by (sym head) ∙ (pairs-image a ok pairs t fit (slice_get_within a.nodes t.0 n at) ∙ no_image (image_of pairs t) (tree a) none) in
      let kept : substitute by (term n.head (trees a n.args)) ≡ term n.head (trees a n.args) =
      ap (λ (o : Option Term). replaced (replacement_at (is_variable n.head) o) (term n.head (substitute_all by (trees a n.args)))) nothing
      ∙ (ap (λ (o : Option Term). replaced o (term n.head (substitute_all by (trees a n.args)))) (none_there (is_variable n.head))
      ∙ ap (term n.head) (args_stay n.args args)) in
      record { same = ap (substitute by) whole ∙ (kept ∙ sym whole) }

-- an argument of a node is there
below_at : (k : ℕ) (ts : List TermId) (i : ℕ) (d : TermId) → i < length ts → AllBelow k ts → (get_or ts i d).0 < k
below_at k [] i d within h = absurd (omega (arith, within))
below_at k (t ∷ ts) zero d within h = h.0
below_at k (t ∷ ts) (suc i) d within h = below_at k ts i d (omega (arith, within)) h.1

pub arg_there : (a : Arena) (ok : IsArena a) (t : TermId) (n : Node) (ts : List TermId) (i : ℕ) (d u : TermId) → slice_get a.nodes t.0 ≡ Some n → ts ≡ n.args → i < length ts → u ≡ get_or ts i d → u.0 < length a.nodes
arg_there a ok t n ts i d u at is within same =
    subst (λ (x : TermId). x.0 < length a.nodes) (sym same) (below_at (length a.nodes) ts i d within (subst (AllBelow (length a.nodes)) (sym is) (args_in_range a ok t n at)))

pub item_there : (a : Arena) (ts : List TermId) (i : ℕ) (d u : TermId) → AllBelow (length a.nodes) ts → i < length ts → u ≡ get_or ts i d → u.0 < length a.nodes
item_there a ts i d u all within same = subst (λ (x : TermId). x.0 < length a.nodes) (sym same) (below_at (length a.nodes) ts i d within all)

-- the terms from a place on stay, if the one there does and those behind it
pub stay_on : (a : Arena) (pairs : List (TermId × TermId)) (ts : List TermId) (i : ℕ) (d u : TermId) → i < length ts → u ≡ get_or ts i d → Stays a pairs u → AllStay a pairs (drop (i + 1) ts) → AllStay a pairs (drop i ts)
stay_on a pairs ts i d u within same first others =
    subst (AllStay a pairs) (sym (drop_more ts i d within)) (subst (Stays a pairs) same first, others)

-- the terms from a place on are marked, if the one there is and those behind it
pub mark_on : (a : Arena) (pairs : List (TermId × TermId)) (ts : List TermId) (i : ℕ) (d u : TermId) (m : Bool) (more : List Bool) → i < length ts → u ≡ get_or ts i d → (m ≡ false → Stays a pairs u)
    → AreMarked a pairs more (drop (i + 1) ts) → AreMarked a pairs (m ∷ more) (drop i ts)
mark_on a pairs ts i d u m more within same first others =
    subst (AreMarked a pairs (m ∷ more)) (sym (drop_more ts i d within)) ((λ e. subst (Stays a pairs) same (first e)), others)

pub marks_all : (a : Arena) (pairs : List (TermId × TermId)) (ts : List TermId) (i : ℕ) (marks : List Bool) → length ts ≤ i → ((more : List Bool) → AreMarked a pairs more (drop i ts) → AreMarked a pairs (marks ++ more) ts) → AreMarked a pairs marks ts
marks_all a pairs ts i marks past h =
    subst (λ (l : List Bool). AreMarked a pairs l ts) (append-nil marks) (h [] (subst (AreMarked a pairs []) (sym (drop_all i ts past)) tt))

pub args_all : (a : Arena) (pairs : List (TermId × TermId)) (ts us : List TermId) (i : ℕ) → ts ≡ us → length ts ≤ i → (AllStay a pairs (drop i ts) → AllStay a pairs ts) → AllStay a pairs us
args_all a pairs ts us i is past h = subst (AllStay a pairs) is (h (subst (AllStay a pairs) (sym (drop_all i ts past)) tt))

pub marks_long : (a : Arena) (pairs : List (TermId × TermId)) (marks : List Bool) (ts : List TermId) → AreMarked a pairs marks ts → length marks ≡ length ts
marks_long a pairs [] [] h = refl
marks_long a pairs [] (t ∷ ts) h = absurd h
marks_long a pairs (m ∷ marks) [] h = absurd h
marks_long a pairs (m ∷ marks) (t ∷ ts) h = ap suc (marks_long a pairs marks ts h.1)

-- ---- lists

-- one more mark
pub marked_next : (marks : List Bool) (ts : List TermId) (i : ℕ) (dm m : Bool) (d t : TermId) (old new : List TermId) → length marks ≡ length ts → i < length ts → m ≡ get_or marks i dm → t ≡ get_or ts i d
    → new ≡ old ++ if_marked m t → old ++ marked (drop i marks) (drop i ts) ≡ marked marks ts → new ++ marked (drop (i + 1) marks) (drop (i + 1) ts) ≡ marked marks ts
marked_next marks ts i dm m d t old new long within is same put h =
    let first : drop i marks ≡ m ∷ drop (i + 1) marks = drop_more marks i dm (omega (arith, long, within)) ∙ ap (λ (x : Bool). x ∷ drop (i + 1) marks) (sym is) in
    let second : drop i ts ≡ t ∷ drop (i + 1) ts = drop_more ts i d within ∙ ap (λ (x : TermId). x ∷ drop (i + 1) ts) (sym same) in
    let opened : marked (drop i marks) (drop i ts) ≡ if_marked m t ++ marked (drop (i + 1) marks) (drop (i + 1) ts) = λ k. marked (first k) (second k) in
    ap (λ (l : List TermId). l ++ marked (drop (i + 1) marks) (drop (i + 1) ts)) put
    ∙ (append_assoc old (if_marked m t) (marked (drop (i + 1) marks) (drop (i + 1) ts))
    ∙ (ap (λ (l : List TermId). old ++ l) (sym opened) ∙ h))

drop_none : (n : ℕ) → drop {A = TermId} n [] ≡ []
drop_none zero = refl
drop_none (suc n) = refl

drop_again : (n k : ℕ) (us : List TermId) → drop k (drop n us) ≡ drop (n + k) us
drop_again zero k us = let e : k ≡ 0 + k = omega arith in ap (λ (j : ℕ). drop j us) e
drop_again (suc n) k [] = drop_none k ∙ sym (drop_none (suc n + k))
drop_again (suc n) k (u ∷ us) = let e : suc (n + k) ≡ suc n + k = omega arith in drop_again n k us ∙ ap (λ (j : ℕ). drop j (u ∷ us)) e

-- where the next of the others is, and how many are left
pub record Back (marks : List Bool) (ts us all : List TermId) (i next : ℕ) : Type 0 where
  pub put : all ++ put_back (drop i marks) (drop i ts) (drop next us) ≡ put_back marks ts us
  pub left : next + length (marked (drop i marks) (drop i ts)) ≡ length us

length_if : (m : Bool) (t : TermId) (ts : List TermId) → length (if_marked m t ++ ts) ≡ one_if m + length ts
length_if true t ts = let e : suc (length ts) ≡ 1 + length ts = omega arith in e
length_if false t ts = let e : length ts ≡ 0 + length ts = omega arith in e

pub back_begins : (marks : List Bool) (ts us all : List TermId) → all ≡ [] → length us ≡ length (marked marks ts) → Back marks ts us all 0 0
back_begins marks ts us all none long =
    let left : 0 + length (marked marks ts) ≡ length us = omega (arith, long) in
    record { put = ap (λ (l : List TermId). l ++ put_back marks ts us) none; left = left }

pub back_all : (marks : List Bool) (ts us all : List TermId) (i next : ℕ) → length marks ≡ length ts → length ts ≤ i → Back marks ts us all i next → all ≡ put_back marks ts us
back_all marks ts us all i next long past h =
    let none : drop i marks ≡ [] = drop_all i marks (omega (arith, long, past)) in
    sym (ap (λ (l : List Bool). all ++ put_back l (drop i ts) (drop next us)) none ∙ append-nil all) ∙ h.put

module _ (marks : List Bool) (ts us all : List TermId) (i next : ℕ) (dm m : Bool) (d t : TermId) (long : length marks ≡ length ts) (within : i < length ts) (is : m ≡ get_or marks i dm) (same : t ≡ get_or ts i d) (h : Back marks ts us all i next) where
  first : drop i marks ≡ m ∷ drop (i + 1) marks
  first = drop_more marks i dm (omega (arith, long, within)) ∙ ap (λ (x : Bool). x ∷ drop (i + 1) marks) (sym is)

  second : drop i ts ≡ t ∷ drop (i + 1) ts
  second = drop_more ts i d within ∙ ap (λ (x : TermId). x ∷ drop (i + 1) ts) (sym same)

  left_next : next + (one_if m + length (marked (drop (i + 1) marks) (drop (i + 1) ts))) ≡ length us
  left_next = ap (λ (n : ℕ). next + n) (sym (length_if m t (marked (drop (i + 1) marks) (drop (i + 1) ts)))) ∙ ((λ k. next + length (marked (sym first k) (sym second k))) ∙ h.left)

  pub next_there : m ≡ true → next < length us
  next_there e =
      let one : one_if m ≡ 1 = ap one_if e in
      let all_left = left_next in
      omega (arith, one, all_left)

  pub back_next : (new : List TermId) (after : ℕ) → after ≡ next + one_if m → new ≡ all ++ one_put_back m t (drop next us) → Back marks ts us new (i + 1) after
  back_next new after moved put = record {
    put =
        (λ k. put k ++ put_back (drop (i + 1) marks) (drop (i + 1) ts) (drop (moved k) us))
        ∙ (append_assoc all (one_put_back m t (drop next us)) (put_back (drop (i + 1) marks) (drop (i + 1) ts) (drop (next + one_if m) us))
        ∙ (ap (λ (l : List TermId). all ++ (one_put_back m t (drop next us) ++ put_back (drop (i + 1) marks) (drop (i + 1) ts) l)) (sym (drop_again next (one_if m) us))
        ∙ ((λ k. all ++ put_back (sym first k) (sym second k) (drop next us)) ∙ h.put)));
    left =
        let all_left = left_next in
        omega (arith, moved, all_left);
  }

pub marked_below : (k : ℕ) (marks : List Bool) (ts : List TermId) → AllBelow k ts → AllBelow k (marked marks ts)
marked_below k [] ts h = tt
marked_below k (true ∷ marks) [] h = tt
marked_below k (false ∷ marks) [] h = tt
marked_below k (true ∷ marks) (t ∷ ts) h = (h.0, marked_below k marks ts h.1)
marked_below k (false ∷ marks) (t ∷ ts) h = marked_below k marks ts h.1

module _ (old new : Arena) (pairs : List (TermId × TermId)) (more : Extends old new) where
  pub back_trees : (marks : List Bool) (ts us : List TermId) → AllBelow (length old.nodes) ts → AreMarked old pairs marks ts → map (tree new) us ≡ substituted old pairs (marked marks ts)
      → map (tree new) (put_back marks ts us) ≡ substituted old pairs ts
  back_trees [] [] us below h e = refl
  back_trees [] (t ∷ ts) us below h e = absurd h
  back_trees (m ∷ marks) [] us below h e = absurd h
  back_trees (true ∷ marks) (t ∷ ts) [] below h e = absurd (cc)
  back_trees (true ∷ marks) (t ∷ ts) (u ∷ us) below h e =
      let first : tree new u ≡ substitute (pairs_at old pairs) (tree old t) = cc in
      let rest : map (tree new) us ≡ substituted old pairs (marked marks ts) = cc in
      let others = back_trees marks ts us below.1 h.1 rest in
      λ i. first i ∷ others i
  back_trees (false ∷ marks) (t ∷ ts) us below h e =
      let first : tree new t ≡ substitute (pairs_at old pairs) (tree old t) = tree-Extends more t below.0 ∙ sym (h.0 refl).same in
      let others = back_trees marks ts us below.1 h.1 e in
      λ i. first i ∷ others i

  pub back_sorts : (marks : List Bool) (ts us : List TermId) → AllBelow (length old.nodes) ts → AreMarked old pairs marks ts → sorts_at new us ≡ sorts_at old (marked marks ts)
      → sorts_at new (put_back marks ts us) ≡ sorts_at old ts
  back_sorts [] [] us below h e = refl
  back_sorts [] (t ∷ ts) us below h e = absurd h
  back_sorts (m ∷ marks) [] us below h e = absurd h
  back_sorts (true ∷ marks) (t ∷ ts) [] below h e = absurd (cc)
  back_sorts (true ∷ marks) (t ∷ ts) (u ∷ us) below h e =
      let first : sort_at new u ≡ sort_at old t = cc in
      let rest : sorts_at new us ≡ sorts_at old (marked marks ts) = cc in
      let others = back_sorts marks ts us below.1 h.1 rest in
      λ i. first i ∷ others i
  back_sorts (false ∷ marks) (t ∷ ts) us below h e =
      let first = sort_at-Extends more t below.0 in
      let others = back_sorts marks ts us below.1 h.1 e in
      λ i. first i ∷ others i

  pub back_below : (marks : List Bool) (ts us : List TermId) → AllBelow (length old.nodes) ts → AllBelow (length new.nodes) us → AllBelow (length new.nodes) (put_back marks ts us)
  back_below [] ts us below h = tt
  back_below (m ∷ marks) [] us below h = tt
  back_below (true ∷ marks) (t ∷ ts) [] below h = back_below marks ts [] below.1 tt
  back_below (true ∷ marks) (t ∷ ts) (u ∷ us) below h = (h.0, back_below marks ts us below.1 h.1)
  back_below (false ∷ marks) (t ∷ ts) us below h =
      let longer = length-Extends more in
      let there = below.0 in
      (omega (arith, longer, there), back_below marks ts us below.1 h)

  either : (b x y : Bool) → (b || x) ≡ true → (x ≡ true → y ≡ true) → (b || y) ≡ true
  either true x y h go = refl
  either false x y h go = go h

  -- a part of the answers for some terms is a part of those for all
  part_more : (marks : List Bool) (ts : List TermId) (x : Term) → is_part_of (substituted old pairs (marked marks ts)) x ≡ true → is_part_of (substituted old pairs ts) x ≡ true
  part_more [] ts x h = absurd (false≢true h)
  part_more (m ∷ marks) [] x h = h
  part_more (true ∷ marks) (t ∷ ts) x h =
      either (is_part x (substitute (pairs_at old pairs) (tree old t))) (is_part_of (substituted old pairs (marked marks ts)) x) (is_part_of (substituted old pairs ts) x) h (part_more marks ts x)
  part_more (false ∷ marks) (t ∷ ts) x h = or_right (is_part x (substitute (pairs_at old pairs) (tree old t))) (is_part_of (substituted old pairs ts) x) (part_more marks ts x h)

  pub more_adds : (marks : List Bool) (ts : List TermId) → AddsParts old new (substituted old pairs (marked marks ts)) → AddsParts old new (substituted old pairs ts)
  more_adds marks ts h = record { part = λ u low high. part_more marks ts (tree new u) (h.part u low high) }

  pub more_lacks : (marks : List Bool) (ts : List TermId) → LacksPart new (substituted old pairs (marked marks ts)) → LacksPart new (substituted old pairs ts)
  more_lacks marks ts h = record { missing = h.missing; part = part_more marks ts h.missing h.part; lacks = h.lacks }
