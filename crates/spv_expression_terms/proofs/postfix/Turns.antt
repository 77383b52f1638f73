-- What is true while a term is built of its pieces.
use Rattle.std.proofs.Common.{◌≡◌, ℕ, zero, suc, true, ◌-◌, ◌<◌, ◌≤◌, List, [], ◌∷◌, ◌++◌, map, take, drop, get_or, length, Some, IsSome, is_some, IsTrue, refl, sym, ap, ◌∙◌, subst, inl, inr, arith}
use Rattle.std.proofs.lemmas.Bool.{or_left, or_right, cases_lt}
use Rattle.std.proofs.lemmas.List.{append_assoc, append-nil, length-map, take-map, drop-map, take_rest, map_push}
use Rattle.spv_logic.specs.declared.conditions.TermId.{TermId}
use Rattle.spv_logic.specs.declared.types.Shape.{Shape}
use Rattle.spv_logic.specs.declared.types.Decl.{Decl}
use Rattle.spv_logic.specs.declared.operators.Head.{Head}
use Rattle.spv_logic.specs.Terms.{Term, Terms, term, no_terms, terms}
use Rattle.spv_logic.specs.Sorts.{result_sort, head_in_range, numeral_fits, with_sorts, term_sort}
use Rattle.spv_term.specs.Arena.{Arena, IsArena, AllBelow, node, with_node, place_of, lacks_room, tree, trees, sort_at, sorts_at, Extends}
use Rattle.spv_term.proofs.TreeLemmas.{AllBelow-append}
use Rattle.spv_term.proofs.ArenaLemmas.{term_sort-tree, term_sorts-trees, Extends-refl, Extends-trans, tree-Extends, map_tree-Extends, AllBelow-Extends}
use Rattle.spv_term.specs.substitution.Parts.{is_part, is_part_of_some, is_part_of, AddsParts, AddsOnly, Lacks}
use Rattle.spv_term.proofs.substitution.PartLemmas.{is_part-refl, part_down_of}
use Rattle.spv_term.proofs.substitution.MakeLemmas.{adds_node, lacks_tree}
use Rattle.spv_expression_terms.specs.declared.postfix.pieces.Piece.{Piece}
use Rattle.spv_expression_terms.specs.postfix.Postfix.{piece, count_of, postfix, postfix_all, IsMakeable, IsPostfix}
use Rattle.spv_expression_terms.specs.postfix.Stack.{arguments, kept, over_last, applied, Applies}
use Rattle.spv_expression_terms.proofs.postfix.Makeable.{AreMakeable, makeable_arguments, makeable_first, makeable_others, makeable_types, makeable_numeral}
use Rattle.spv_expression_terms.proofs.postfix.Stacks.{list_of, enough, over_last_is, applied_is, postfix-unique}

-- ---- lists of ids

AllBelow-take : (n k : ℕ) (ts : List TermId) → AllBelow n ts → AllBelow n (take k ts)
AllBelow-take n zero ts h = tt
AllBelow-take n (suc k) [] h = tt
AllBelow-take n (suc k) (t ∷ ts) h = (h.0, AllBelow-take n k ts h.1)

AllBelow-drop : (n k : ℕ) (ts : List TermId) → AllBelow n ts → AllBelow n (drop k ts)
AllBelow-drop n zero ts h = h
AllBelow-drop n (suc k) [] h = tt
AllBelow-drop n (suc k) (t ∷ ts) h = AllBelow-drop n k ts h.1

arguments-tree : (a : Arena) (ts : List TermId) → arguments (map (tree a) ts) ≡ trees a ts
arguments-tree a [] = refl
arguments-tree a (t ∷ ts) = ap (terms (tree a t)) (arguments-tree a ts)

kept-map : (a : Arena) (p : Piece) (stack : List TermId) → kept p (map (tree a) stack) ≡ kept p stack
kept-map a p stack = ap (λ n. n - p.count) (length-map stack (tree a))

-- the term of the head over the trees of the last ids
over_ids : (a : Arena) (p : Piece) (stack : List TermId) → over_last p (map (tree a) stack) ≡ term p.head (trees a (drop (kept p stack) stack))
over_ids a p stack =
    ap (λ n. term p.head (arguments (drop n (map (tree a) stack)))) (kept-map a p stack)
    ∙ (ap (λ us. term p.head (arguments us)) (drop-map (tree a) (kept p stack) stack)
    ∙ ap (term p.head) (arguments-tree a (drop (kept p stack) stack)))

-- ---- one piece

-- the last ids, and those that stay, by the slice that hands them on
pub last_are : (items stack : List TermId) (p : Piece) → items ≡ stack
    → take (length items - (length items - p.count)) (drop (length items - p.count) items) ≡ drop (kept p stack) stack
last_are items stack p e = take_rest items (length items - p.count) ∙ ap (λ s. drop (kept p s) s) e

pub rest_are : (items stack : List TermId) (p : Piece) → items ≡ stack → take (length items - p.count) stack ≡ take (kept p stack) stack
rest_are items stack p e = ap (λ s. take (kept p s) stack) e

module _ (a : Arena) (ok : IsArena a) (p : Piece) (stack : List TermId) (below : AllBelow (length a.nodes) stack)
    (makeable : IsMakeable a.shapes a.decls (over_last p (map (tree a) stack))) (args : List TermId) (is : args ≡ drop (kept p stack) stack) where
  over_is : term p.head (trees a args) ≡ over_last p (map (tree a) stack)
  over_is = ap (λ ts. term p.head (trees a ts)) is ∙ sym (over_ids a p stack)

  -- what `make` asks

  pub apply_args : AllBelow (length a.nodes) args
  apply_args = subst (AllBelow (length a.nodes)) (sym is) (AllBelow-drop (length a.nodes) (kept p stack) stack below)

  pub apply_sorts : IsSome (result_sort a.shapes a.decls p.head (sorts_at a args))
  apply_sorts =
      ap (λ o. is_some (with_sorts o (result_sort a.shapes a.decls p.head))) (sym (term_sorts-trees a ok (trees a args) args apply_args refl))
      ∙ (ap (λ x. is_some (term_sort a.shapes a.decls x)) over_is ∙ makeable.sorts)

  pub apply_types : IsTrue (head_in_range a.shapes p.head)
  apply_types = makeable_types a.shapes a.decls p.head (arguments (drop (kept p (map (tree a) stack)) (map (tree a) stack))) makeable

  pub apply_numeral : IsTrue (numeral_fits p.head)
  apply_numeral = makeable_numeral a.shapes a.decls p.head (arguments (drop (kept p (map (tree a) stack)) (map (tree a) stack))) makeable

  -- what it gives

  pub apply_made : (b : Arena) (u : TermId) (rest new : List TermId) → u.0 < length b.nodes → tree b u ≡ term p.head (trees a args)
      → rest ≡ take (kept p stack) stack → new ≡ rest ++ u ∷ [] → Applies p a stack b new
  apply_made b u rest new there is_tree cut e = record {
    made = u;
    there = there;
    is_tree = is_tree ∙ over_is;
    stack = e ∙ ap (λ us. us ++ u ∷ []) cut;
  }

  pub apply_only : (b : Arena) (u : TermId) → b ≡ record a { nodes = with_node a.nodes (node p.head args) } → u.0 ≡ place_of a.nodes (node p.head args)
      → tree b u ≡ term p.head (trees a args) → AddsOnly a b (over_last p (map (tree a) stack))
  apply_only b u e at_place is_tree = adds_node a b (node p.head args) e u (over_last p (map (tree a) stack)) at_place (is_tree ∙ over_is)

  pub apply_size : (b : Arena) → b ≡ a → IsTrue (lacks_room a (node p.head args)) → Lacks b (over_last p (map (tree a) stack))
  apply_size b same h =
      subst (λ c. Lacks c (over_last p (map (tree a) stack))) (sym same) (subst (Lacks a) over_is (lacks_tree a ok p.head args apply_args h))

-- ---- what is left to be done

-- a part of a term that is to be built, which may be made
pub record IsDue (shapes : List Shape) (decls : List Decl) (goal x : Term) : Type 0 where
  pub part : is_part_of (goal ∷ []) x ≡ true
  pub makeable : IsMakeable shapes decls x

-- the pieces that are left make the term out of a stack, and all on the way is due
abbrev Leads : List Shape → List Decl → Term → List Term → List Piece → Type 0
Leads shapes decls goal stack [] = stack ≡ goal ∷ []
Leads shapes decls goal stack (p ∷ ps) = (p.count ≤ length stack) × IsDue shapes decls goal (over_last p stack) × Leads shapes decls goal (applied p stack) ps

module _ (shapes : List Shape) (decls : List Decl) (goal : Term) where
  abbrev AreDue : Terms → Type 0
  AreDue no_terms = Unit {0}
  AreDue (terms t ts) = IsDue shapes decls goal t × AreDue ts

  all_due : (ts : Terms) → ((x : Term) → is_part_of_some x ts ≡ true → is_part_of (goal ∷ []) x ≡ true) → AreMakeable shapes decls ts → AreDue ts
  all_due no_terms inside ms = tt
  all_due (terms t ts) inside ms = (
    record {
      part = inside t (or_left (is_part t t) (is_part_of_some t ts) (is_part-refl t));
      makeable = makeable_first shapes decls t ts ms;
    },
    all_due ts (λ x e. inside x (or_right (is_part x t) (is_part_of_some x ts) e)) (makeable_others shapes decls t ts ms),
  )

  arguments_due : (h : Head) (ts : Terms) → IsDue shapes decls goal (term h ts) → AreDue ts
  arguments_due h ts due = all_due ts (λ x e. part_down_of x h ts e (goal ∷ []) due.part) (makeable_arguments shapes decls h ts due.makeable)

  mutual
    leads_term : (t : Term) → IsDue shapes decls goal t → (stack : List Term) (ps : List Piece) → Leads shapes decls goal (stack ++ t ∷ []) ps
        → Leads shapes decls goal stack (postfix t ++ ps)
    leads_term (term h ts) due stack ps rest =
        subst (Leads shapes decls goal stack) (sym (append_assoc (postfix_all ts) (piece h (count_of ts) ∷ []) ps))
        (leads_terms ts (arguments_due h ts due) stack (piece h (count_of ts) ∷ ps) (
          enough stack h ts,
          subst (IsDue shapes decls goal) (sym (over_last_is stack h ts)) due,
          subst (λ s. Leads shapes decls goal s ps) (sym (applied_is stack h ts)) rest,
        ))

    leads_terms : (ts : Terms) → AreDue ts → (stack : List Term) (ps : List Piece) → Leads shapes decls goal (stack ++ list_of ts) ps
        → Leads shapes decls goal stack (postfix_all ts ++ ps)
    leads_terms no_terms due stack ps rest = subst (λ s. Leads shapes decls goal s ps) (append-nil stack) rest
    leads_terms (terms t ts) due stack ps rest =
        subst (Leads shapes decls goal stack) (sym (append_assoc (postfix t) (postfix_all ts) ps))
        (leads_term t due.0 stack (postfix_all ts ++ ps)
        (leads_terms ts due.1 (stack ++ t ∷ []) ps (subst (λ s. Leads shapes decls goal s ps) (sym (append_assoc stack (t ∷ []) (list_of ts))) rest)))

  leads : IsMakeable shapes decls goal → Leads shapes decls goal [] (postfix goal)
  leads makeable =
      let due : IsDue shapes decls goal goal = record { part = or_left (is_part goal goal) (is_part_of [] goal) (is_part-refl goal); makeable = makeable } in
      subst (Leads shapes decls goal []) (append-nil (postfix goal)) (leads_term goal due [] [] refl)

-- ---- what the loop keeps

-- the arena has grown by parts of the term, and the pieces that are left make it out of the stack
pub record Builds (old a : Arena) (goal : Term) (stack : List TermId) (left : List Piece) : Type 0 where
  pub grows : Extends old a
  pub only : AddsParts old a (goal ∷ [])
  pub in_range : AllBelow (length a.nodes) stack
  pub leads : Leads old.shapes old.decls goal (map (tree a) stack) left

-- whatever term the pieces are those of
pub record Building (old a : Arena) (pieces : List Piece) (stack : List TermId) (left : List Piece) : Type 0 where
  pub each : (goal : Term) → pieces ≡ postfix goal → Builds old a goal stack left

-- what is known of one term whose pieces these are is known of each
pub makeable_of : (shapes : List Shape) (decls : List Decl) (pieces : List Piece) → IsPostfix shapes decls pieces → (goal : Term) → pieces ≡ postfix goal → IsMakeable shapes decls goal
makeable_of shapes decls pieces known goal e = subst (IsMakeable shapes decls) (postfix-unique known.t goal (sym known.is ∙ e)) known.makeable

pub begins : (old : Arena) (pieces : List Piece) (stack : List TermId) → IsPostfix old.shapes old.decls pieces → stack ≡ [] → Building old old pieces stack pieces
begins old pieces stack known empty = record { each = each }
  where
    each : (goal : Term) → pieces ≡ postfix goal → Builds old old goal stack pieces
    each goal e =
        subst (λ s. Builds old old goal s pieces) (sym empty) (record {
          grows = Extends-refl old;
          only = record { part = λ u low high. absurd (omega arith) };
          in_range = tt;
          leads = subst (Leads old.shapes old.decls goal []) (sym e) (leads old.shapes old.decls goal (makeable_of old.shapes old.decls pieces known goal e));
        })

-- what was added by one step more
more_parts : (old a b : Arena) (goals : List Term) (x : Term) → Extends a b → AddsParts old a goals → AddsOnly a b x → is_part_of goals x ≡ true → AddsParts old b goals
more_parts old a b goals x grows parts only is = record { part = part }
  where
    part : (u : TermId) → length old.nodes ≤ u.0 → u.0 < length b.nodes → is_part_of goals (tree b u) ≡ true
    part u low high = elim (cases_lt u.0 (length a.nodes)) [
      | inl below ↦ ap (is_part_of goals) (tree-Extends grows u below) ∙ parts.part u low below
      | inr above ↦ ap (is_part_of goals) (only.each u above high) ∙ is
    ]

module _ (old a b : Arena) (goal : Term) (p : Piece) (ps : List Piece) (stack new : List TermId) (known : Builds old a goal stack (p ∷ ps)) where
  turn_adds : Extends a b → AddsOnly a b (over_last p (map (tree a) stack)) → AddsParts old b (goal ∷ [])
  turn_adds grows only = more_parts old a b (goal ∷ []) (over_last p (map (tree a) stack)) grows known.only only known.leads.1.part

  turn : Extends a b → AddsOnly a b (over_last p (map (tree a) stack)) → Applies p a stack b new → Builds old b goal new ps
  turn grows only done =
      let rest = take (kept p stack) stack in
      let below : AllBelow (length a.nodes) rest = AllBelow-take (length a.nodes) (kept p stack) stack known.in_range in
      let stay : map (tree b) rest ≡ take (kept p (map (tree a) stack)) (map (tree a) stack) =
      map_tree-Extends grows rest below ∙ (sym (take-map (tree a) (kept p stack) stack) ∙ ap (λ n. take n (map (tree a) stack)) (sym (kept-map a p stack))) in
      let last = done.is_tree in
      let trees_are : map (tree b) new ≡ applied p (map (tree a) stack) =
      ap (map (tree b)) done.stack ∙ (map_push (tree b) rest done.made ∙ (λ i. stay i ++ last i ∷ [])) in
      record {
        grows = Extends-trans known.grows grows;
        only = turn_adds grows only;
        in_range = subst (AllBelow (length b.nodes)) (sym done.stack) (AllBelow-append (length b.nodes) rest (done.made ∷ []) (AllBelow-Extends grows rest below) (done.there, tt));
        leads = subst (λ s. Leads old.shapes old.decls goal s ps) (sym trees_are) known.leads.2;
      }

-- the term that a stack of one begins with
pub first_is : (stack : List TermId) (d u : TermId) → length stack ≡ 1 → u ≡ get_or stack 0 d → stack ≡ u ∷ drop 1 stack
first_is [] d u e f = absurd (omega (arith, e))
first_is (t ∷ ts) d u e f = ap (λ v. v ∷ ts) (sym f)

-- ---- the same, whatever the term

module _ (old a : Arena) (pieces : List Piece) (stack : List TermId) (known : IsPostfix old.shapes old.decls pieces) where
  module _ (p : Piece) (ps left : List Piece) (is : left ≡ p ∷ ps) (so_far : Building old a pieces stack left) where
    at : (goal : Term) → pieces ≡ postfix goal → Builds old a goal stack (p ∷ ps)
    at goal e = subst (Builds old a goal stack) is (so_far.each goal e)

    pub next_adds : (b : Arena) → Extends a b → AddsOnly a b (over_last p (map (tree a) stack)) → (goal : Term) → pieces ≡ postfix goal → AddsParts old b (goal ∷ [])
    next_adds b grows only goal e = turn_adds old a b goal p ps stack stack (at goal e) grows only

    pub next : (b : Arena) (new : List TermId) → Extends a b → AddsOnly a b (over_last p (map (tree a) stack)) → Applies p a stack b new → Building old b pieces new ps
    next b new grows only done = record { each = λ goal e. turn old a b goal p ps stack new (at goal e) grows only done }

  -- ---- the end

  module _ (ok : IsArena a) (left : List Piece) (is : left ≡ []) (so_far : Building old a pieces stack left) where
    ended : (goal : Term) → pieces ≡ postfix goal → map (tree a) stack ≡ goal ∷ []
    ended goal e = (subst (Builds old a goal stack) is (so_far.each goal e)).leads

    pub end_one : length stack ≡ 1
    end_one = sym (length-map stack (tree a)) ∙ ap length (ended known.t known.is)

    module _ (u : TermId) (others : List TermId) (one : stack ≡ u ∷ others) where
      end_in_range : u.0 < length a.nodes
      end_in_range = (subst (AllBelow (length a.nodes)) one (so_far.each known.t known.is).in_range).0

      pub end_tree : (goal : Term) → pieces ≡ postfix goal → tree a u ≡ goal
      end_tree goal e =
          let same : tree a u ∷ map (tree a) others ≡ goal ∷ [] = sym (ap (map (tree a)) one) ∙ ended goal e in
          cc

      pub end_sort : (goal : Term) → pieces ≡ postfix goal → term_sort old.shapes old.decls goal ≡ Some (sort_at a u)
      end_sort goal e =
          let grows = (so_far.each goal e).grows in
          (λ i. term_sort (sym grows.shapes i) (sym grows.decls i) goal) ∙ term_sort-tree a ok goal u end_in_range (end_tree goal e)
