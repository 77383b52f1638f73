-- Equations of two applications, made and added where they are new, over plain variables.
use Rattle.std.proofs.Common.{◌≡◌, ℕ, zero, suc, ◌+◌, ◌<◌, ◌≤◌, Bool, true, false, cond, ◌&&◌, ◌||◌, not, List, [], ◌∷◌, ◌++◌, map, drop, length, slice_get, get_or, is_some, IsSome, refl, sym, ap, ◌∙◌, subst, Some, None, Result, Ok, Err, OnOk, arith}
use mathlib.Core.Path.{ap₂}
use Rattle.std.specs.Prelude.{IsErrAnd}
use Rattle.std.specs.Cmp.Derive.{both_true}
use Rattle.std.specs.Option.{option_map}
use Rattle.std.proofs.lemmas.Bool.{false≢true}
use Rattle.std.proofs.lemmas.List.{drop_more}
use Rattle.std.proofs.lemmas.Option.{slice_get-get_or, slice_get-map, slice_get_within, same_Some}
use Rattle.spv_logic.proofs.list.Tests.{left_true, right_true}
use Rattle.spv_logic.specs.declared.conditions.TermId.{TermId}
use Rattle.spv_logic.specs.declared.types.Sort.{Sort}
use Rattle.spv_logic.specs.declared.types.Sort.TheVariants as sort
use Rattle.spv_logic.specs.declared.types.Shape.{Shape}
use Rattle.spv_logic.specs.declared.types.Decl.{Decl}
use Rattle.spv_logic.specs.declared.operators.Head.TheVariants.{Eq}
use Rattle.spv_logic.specs.Terms.{Term, term, term_eq, head_eq}
use Rattle.spv_logic.specs.Formulas.{equation}
use Rattle.spv_logic.specs.Sorts.{result_sort, sorts_eq, term_sorts}
use Rattle.spv_logic.proofs.Equality.{sort_eq-true, sort_eq-refl, head_eq-true}
use Rattle.spv_term.specs.declared.nodes.Node.{Node}
use Rattle.spv_term.specs.declared.nodes.TermFault.{TermFault}
use Rattle.spv_term.specs.Arena.{Arena, IsArena, AllBelow, tree, trees, sort_at, sorts_at, Extends}
use Rattle.spv_term.proofs.ArenaLemmas.{node_of, tree-node, sort-node, args_in_range, term_sorts-trees, length-Extends, slice_get-Extends, tree-Extends, sort_at-Extends, map_tree-Extends, AllBelow-Extends}
use Rattle.spv_term.proofs.TreeLemmas.{AllBelow-at}
use Rattle.spv_atoms.specs.Atoms.{is_truth, is_number, only_if, with_term, with_terms}
use Rattle.spv_atoms.specs.Order.{with_id}
use Rattle.spv_atoms.proofs.Members.{with_terms-append}
use Rattle.spv_atoms.proofs.Walks.{with_id-trees, with_id-in}
use Rattle.spv_models.specs.leaf_models.Subterms.{is_listed}
use Rattle.spv_models.specs.leaf_models.Atoms.{same_sorts, argument_equations, are_comparable, equations_of, pair_equations}
use Rattle.spv_search_terms.specs.subterms.Gaining.{Gains, Stops}
use Rattle.spv_search_terms.proofs.subterms.GainLemmas.{Gains-nothing, Gains-trans, Remains-all, remains-behind, remains-stops, remains-gained}
use Rattle.spv_search_terms.specs.split_candidates.Equating.{args_of, args_at, GainsAtoms, RemainsAtoms}

-- ---- answers

pub on_ok : {T E : Type 0} (r : Result T E) (P Q : Type 0) → OnOk r P → (P → Q) → OnOk r Q
on_ok (Ok x) P Q p go = go p
on_ok (Err e) P Q p go = tt

pub same_fault : {T : Type 0} (e : TermFault) (r : Result T TermFault) → IsErrAnd r (λ f. f ≡ e) → (s : TermFault) → r ≡ Err s → e ≡ s
same_fault {T} e (Ok x) h s is = absurd h
same_fault {T} e (Err f) h s is = let same : f ≡ s = cc in sym h ∙ same

-- ---- what is gained

pub nothing_gained : (a : Arena) (out : List TermId) → AllBelow (length a.nodes) out → GainsAtoms a out a out []
nothing_gained a out h = record { gains = Gains-nothing a; atoms = refl; in_range = h }

pub gains_as : (a b : Arena) (out more : List TermId) (es fs : List Term) → es ≡ fs → GainsAtoms a out b more es → GainsAtoms a out b more fs
gains_as a b out more es fs e g = subst (GainsAtoms a out b more) e g

pub stops_as : (a : Arena) (es fs : List Term) → es ≡ fs → Stops a es → Stops a fs
stops_as a es fs e s = subst (Stops a) e s

pub both_gained : (a b c : Arena) (out more most : List TermId) (es fs : List Term) → GainsAtoms a out b more es → GainsAtoms b more c most fs → GainsAtoms a out c most (es ++ fs)
both_gained a b c out more most es fs f g = record {
  gains = Gains-trans a b c es fs f.gains g.gains;
  atoms = g.atoms ∙ (ap (λ xs. with_terms xs fs) f.atoms ∙ sym (with_terms-append (map (tree a) out) es fs));
  in_range = g.in_range;
}

pub remains_all : (a : Arena) (out : List TermId) (all : List Term) → AllBelow (length a.nodes) out → RemainsAtoms a out a out all all
remains_all a out all h = record { remains = Remains-all a all; atoms = refl; in_range = h }

module _ (a : Arena) (out : List TermId) (b : Arena) (found : List TermId) (all rest : List Term) (r : RemainsAtoms a out b found all rest) where
  pub remains_as : (other : List Term) → rest ≡ other → RemainsAtoms a out b found all other
  remains_as other e = subst (RemainsAtoms a out b found all) e r

  pub remains_end : rest ≡ [] → GainsAtoms a out b found all
  remains_end e = record { gains = remains-gained a b all rest r.remains e; atoms = ap (with_terms (map (tree b) found)) (sym e) ∙ r.atoms; in_range = r.in_range }

  module _ (es later : List Term) (e : rest ≡ es ++ later) where
    pub remains_next : (c : Arena) (more : List TermId) → GainsAtoms b found c more es → RemainsAtoms a out c more all later
    remains_next c more g = record {
      remains = remains-behind a b all rest es later r.remains e c g.gains;
      atoms = ap (λ xs. with_terms xs later) g.atoms ∙ (sym (with_terms-append (map (tree b) found) es later) ∙ (ap (with_terms (map (tree b) found)) (sym e) ∙ r.atoms));
      in_range = g.in_range;
    }

    pub remains_stop : Stops b es → Stops a all
    remains_stop s = remains-stops a b all rest es later r.remains e s

-- ---- one equation

pub equal_sorts : (shapes : List Shape) (decls : List Decl) (x y : Sort) → x ≡ y → IsSome (result_sort shapes decls Eq (x ∷ y ∷ []))
equal_sorts shapes decls x y e =
    let test : sorts_eq (x ∷ x ∷ []) (x ∷ x ∷ []) ≡ true = both_true (sort_eq-refl x) (both_true (sort_eq-refl x) refl) in
    subst (λ (z : Sort). IsSome (result_sort shapes decls Eq (x ∷ z ∷ []))) e (ap (λ b. is_some (cond b (Some sort.Bool) None)) test)

pub equated : (a b : Arena) → IsArena b → (out more : List TermId) (e : TermId) (x : Term) → Gains a b (x ∷ []) → Extends a b → tree b e ≡ x → e.0 < length b.nodes → AllBelow (length a.nodes) out → more ≡ with_id out e → GainsAtoms a out b more (x ∷ [])
equated a b okb out more e x g grows is inside below add = record {
  gains = g;
  atoms = ap (map (tree b)) add ∙ (with_id-trees b okb out e inside (AllBelow-Extends grows out below) ∙ (λ i. with_term (map_tree-Extends grows out below i) (is i)));
  in_range = subst (AllBelow (length b.nodes)) (sym add) (with_id-in b okb out e inside (AllBelow-Extends grows out below));
}

-- ---- two comparable applications

sorts_same : (ss ts : List Sort) → sorts_eq ss ts ≡ true → ss ≡ ts
sorts_same [] [] h = refl
sorts_same [] (t ∷ ts) h = absurd (false≢true h)
sorts_same (s ∷ ss) [] h = absurd (false≢true h)
sorts_same (s ∷ ss) (t ∷ ts) h =
    let first = sort_eq-true s t (left_true _ _ h) in
    let others = sorts_same ss ts (right_true _ _ h) in
    λ i. first i ∷ others i

drop_at : {A : Type 0} (xs : List A) (i : ℕ) (x : A) → slice_get xs i ≡ Some x → drop i xs ≡ x ∷ drop (i + 1) xs
drop_at xs i x at =
    let within = slice_get_within xs i x at in
    drop_more xs i x within ∙ ap (λ y. y ∷ drop (i + 1) xs) (same_Some (get_or xs i x) x (sym (slice_get-get_or xs i x within) ∙ at))

drop_end : {A : Type 0} (xs : List A) (i : ℕ) → length xs ≤ i → drop i xs ≡ []
drop_end [] zero h = refl
drop_end [] (suc i) h = refl
drop_end (x ∷ xs) zero h = absurd (omega (arith, h))
drop_end (x ∷ xs) (suc i) h = drop_end xs i (omega (arith, h))

length_sorts : (a : Arena) (ts : List TermId) → length (sorts_at a ts) ≡ length ts
length_sorts a [] = refl
length_sorts a (t ∷ ts) = ap suc (length_sorts a ts)

module _ (a : Arena) (ok : IsArena a) where
  pub args-are : (t : TermId) (n : Node) → slice_get a.nodes t.0 ≡ Some n → args_at a t ≡ n.args
  args-are t n at = ap args_of at

  tree-args : (t : TermId) (n : Node) → slice_get a.nodes t.0 ≡ Some n → tree a t ≡ term n.head (trees a (args_at a t))
  tree-args t n at = tree-node a ok t n at ∙ ap (λ ts. term n.head (trees a ts)) (sym (args-are t n at))

  module _ (s t : TermId) (s_in : s.0 < length a.nodes) (t_in : t.0 < length a.nodes) where
    abbrev m : Node
    m = (node_of a ok s s_in).0

    abbrev n : Node
    n = (node_of a ok t t_in).0

    at_s : slice_get a.nodes s.0 ≡ Some m
    at_s = (node_of a ok s s_in).1

    at_t : slice_get a.nodes t.0 ≡ Some n
    at_t = (node_of a ok t t_in).1

    abbrev ss : List TermId
    ss = args_at a s

    abbrev ts : List TermId
    ts = args_at a t

    abbrev truth : Term → Bool
    truth = is_truth a.shapes a.decls

    pub ss_in : AllBelow (length a.nodes) ss
    ss_in = subst (AllBelow (length a.nodes)) (sym (args-are s m at_s)) (args_in_range a ok s m at_s)

    pub ts_in : AllBelow (length a.nodes) ts
    ts_in = subst (AllBelow (length a.nodes)) (sym (args-are t n at_t)) (args_in_range a ok t n at_t)

    module _ (pair : are_comparable a.shapes a.decls (tree a s) (tree a t) ≡ true) where
      tested : (head_eq m.head n.head && (same_sorts (term_sorts a.shapes a.decls (trees a ss)) (term_sorts a.shapes a.decls (trees a ts)) && (is_listed (term m.head (trees a ss)) || is_listed (term n.head (trees a ts))))) ≡ true
      tested = ap₂ (are_comparable a.shapes a.decls) (sym (tree-args s m at_s)) (sym (tree-args t n at_t)) ∙ pair

      heads_same : m.head ≡ n.head
      heads_same = head_eq-true m.head n.head (left_true (head_eq m.head n.head) _ tested)

      pub sorts_are : sorts_at a ss ≡ sorts_at a ts
      sorts_are =
          sorts_same (sorts_at a ss) (sorts_at a ts)
          (sym (ap₂ same_sorts (term_sorts-trees a ok (trees a ss) ss ss_in refl) (term_sorts-trees a ok (trees a ts) ts ts_in refl))
          ∙ left_true (same_sorts (term_sorts a.shapes a.decls (trees a ss)) (term_sorts a.shapes a.decls (trees a ts))) _ (right_true (head_eq m.head n.head) _ tested))

      pub as_many : length ss ≡ length ts
      as_many = sym (length_sorts a ss) ∙ (ap length sorts_are ∙ length_sorts a ts)

      pub one_sort : sort_at a s ≡ sort_at a t
      one_sort =
          same_Some (sort_at a s) (sort_at a t)
          (sym (sort-node a ok s m at_s)
          ∙ ((λ i. result_sort a.shapes a.decls (heads_same i) ((ap (sorts_at a) (sym (args-are s m at_s)) ∙ (sorts_are ∙ ap (sorts_at a) (args-are t n at_t))) i)) ∙ sort-node a ok t n at_t))

      pub equations-are : equations_of a.shapes a.decls (tree a s) (tree a t) ≡ argument_equations truth (trees a ss) (trees a ts) ++ only_if (is_number a.shapes a.decls (tree a s)) (equation (tree a s) (tree a t))
      equations-are =
          ap₂ (equations_of a.shapes a.decls) (tree-args s m at_s) (tree-args t n at_t)
          ∙ ap₂ (λ x y. argument_equations truth (trees a ss) (trees a ts) ++ only_if (is_number a.shapes a.decls x) (equation x y)) (sym (tree-args s m at_s)) (sym (tree-args t n at_t))

      pub pair-is : pair_equations a.shapes a.decls (tree a s) (tree a t) ≡ equations_of a.shapes a.decls (tree a s) (tree a t)
      pair-is = ap (λ b. cond b (equations_of a.shapes a.decls (tree a s) (tree a t)) []) pair

      -- ---- the arguments at one place

      abbrev pub arguments_left : ℕ → List Term
      arguments_left i = argument_equations truth (trees a (drop i ss)) (trees a (drop i ts))

      abbrev pub argument_of : Term → Term → List Term
      argument_of x y = only_if (not (term_eq x y || truth x)) (equation x y)

      pub none_left : (i : ℕ) → length ss ≤ i → arguments_left i ≡ []
      none_left i h = ap (λ xs. argument_equations truth (trees a xs) (trees a (drop i ts))) (drop_end ss i h)

      module _ (now : Arena) (more : Extends a now) (i : ℕ) (k l : Node) (here_s : slice_get now.nodes s.0 ≡ Some k) (here_t : slice_get now.nodes t.0 ≡ Some l) where
        k_args : k.args ≡ ss
        k_args = let e : m ≡ k = same_Some m k (sym at_s ∙ (sym (slice_get-Extends more s s_in) ∙ here_s)) in sym (args-are s m at_s ∙ ap (λ (x : Node). x.args) e)

        l_args : l.args ≡ ts
        l_args = let e : n ≡ l = same_Some n l (sym at_t ∙ (sym (slice_get-Extends more t t_in) ∙ here_t)) in sym (args-are t n at_t ∙ ap (λ (x : Node). x.args) e)

        pub left_within : i < length ss → i < length k.args
        left_within h = let e : length k.args ≡ length ss = ap length k_args in omega (arith, h, e)

        pub right_within : i < length ss → i < length l.args
        right_within h = let e : length l.args ≡ length ts = ap length l_args in let f = as_many in omega (arith, h, e, f)

        module _ (x y : TermId) (x_at : slice_get k.args i ≡ Some x) (y_at : slice_get l.args i ≡ Some y) where
          in_ss : slice_get ss i ≡ Some x
          in_ss = ap (λ (xs : List TermId). slice_get xs i) (sym k_args) ∙ x_at

          in_ts : slice_get ts i ≡ Some y
          in_ts = ap (λ (xs : List TermId). slice_get xs i) (sym l_args) ∙ y_at

          x_in : x.0 < length a.nodes
          x_in = AllBelow-at (length a.nodes) ss i x ss_in in_ss

          y_in : y.0 < length a.nodes
          y_in = AllBelow-at (length a.nodes) ts i y ts_in in_ts

          pub left_in : x.0 < length now.nodes
          left_in = let h = x_in in let e = length-Extends more in omega (arith, h, e)

          pub right_in : y.0 < length now.nodes
          right_in = let h = y_in in let e = length-Extends more in omega (arith, h, e)

          pub argument_sorts : sort_at now x ≡ sort_at now y
          argument_sorts =
              sort_at-Extends more x x_in
              ∙ (same_Some (sort_at a x) (sort_at a y)
              (sym (slice_get-map (sort_at a) ss i ∙ ap (option_map (sort_at a)) in_ss) ∙ (ap (λ (rs : List Sort). slice_get rs i) sorts_are ∙ (slice_get-map (sort_at a) ts i ∙ ap (option_map (sort_at a)) in_ts)))
              ∙ sym (sort_at-Extends more y y_in))

          pub argument_now : only_if (not (term_eq (tree now x) (tree now y) || is_truth now.shapes now.decls (tree now x))) (equation (tree now x) (tree now y)) ≡ argument_of (tree a x) (tree a y)
          argument_now =
              λ j. only_if (not (term_eq (tree-Extends more x x_in j) (tree-Extends more y y_in j) || is_truth (more.shapes j) (more.decls j) (tree-Extends more x x_in j))) (equation (tree-Extends more x x_in j) (tree-Extends more y y_in j))

          pub arguments_next : arguments_left i ≡ only_if (not (term_eq (tree now x) (tree now y) || is_truth now.shapes now.decls (tree now x))) (equation (tree now x) (tree now y)) ++ arguments_left (i + 1)
          arguments_next =
              ap₂ (λ xs ys. argument_equations truth (trees a xs) (trees a ys)) (drop_at ss i x in_ss) (drop_at ts i y in_ts) ∙ ap (λ es. es ++ arguments_left (i + 1)) (sym argument_now)

      -- ---- behind the arguments

      module _ (now : Arena) (more : Extends a now) where
        pub own_sorts : sort_at now s ≡ sort_at now t
        own_sorts = sort_at-Extends more s s_in ∙ (one_sort ∙ sym (sort_at-Extends more t t_in))

        pub own_now : (wanted : Bool) → wanted ≡ is_number now.shapes now.decls (tree now s) → argument_equations truth (trees a ss) (trees a ts) ++ only_if wanted (equation (tree now s) (tree now t)) ≡ equations_of a.shapes a.decls (tree a s) (tree a t)
        own_now wanted e =
            ap (λ es. argument_equations truth (trees a ss) (trees a ts) ++ es)
            ((λ j. only_if ((e ∙ (λ i. is_number (more.shapes i) (more.decls i) (tree-Extends more s s_in i))) j) (equation (tree-Extends more s s_in j) (tree-Extends more t t_in j)))) ∙ sym equations-are

-- two others have none
pub no_pair : (a : Arena) (x y : Term) → are_comparable a.shapes a.decls x y ≡ false → [] ≡ pair_equations a.shapes a.decls x y
no_pair a x y e = sym (ap (λ b. cond b (equations_of a.shapes a.decls x y) []) e)
