-- How the nodes of an arena look as trees.
use Rattle.std.proofs.Common.{◌≡◌, ◌<◌, Bool, true, false, List, [], ◌∷◌, map, length, slice_get, refl, sym, ap, ◌∙◌, subst, Some, None, nat_eq, arith}
use Rattle.std.proofs.lemmas.Bool.{false≢true, eq-eqb, eqb-true}
use Rattle.spv_logic.specs.declared.conditions.TermId.{TermId}
use Rattle.spv_logic.specs.declared.types.Sort.{Sort}
use Rattle.spv_logic.specs.declared.types.Sort.TheVariants as sort
use Rattle.spv_logic.specs.declared.operators.Head.{Head}
use Rattle.spv_logic.specs.declared.operators.Head.TheVariants as head
use Rattle.spv_logic.specs.Terms.{Terms, term, term_eq}
use Rattle.spv_logic.specs.Sorts.{result_sort, first_sort, connective}
use Rattle.spv_logic.proofs.Sorting.{Taken, taken}
use Rattle.spv_logic.proofs.Equality.{term_eq-true, term_eq-refl}
use Rattle.spv_term.specs.declared.nodes.Node.{Node}
use Rattle.spv_term.specs.Arena.{Arena, IsArena, AllBelow, tree, trees, sort_at, sorts_at}
use Rattle.spv_term.proofs.ArenaLemmas.{tree-node, sort-node, args_in_range, same_id}
use Rattle.spv_proof_rules.specs.Sums.{negated}
use Rattle.spv_proof_rules.specs.Evaluation.{sides}
use Rattle.spv_proof_steps.specs.Candidates.{lower}

one_sorted : (f : TermId → Sort) (ts : List TermId) (s : Sort) → s ∷ [] ≡ map f ts → (u : TermId) × (ts ≡ u ∷ [])
one_sorted f [] s e = absurd (cc)
one_sorted f (u ∷ []) s e = (u, refl)
one_sorted f (u ∷ v ∷ ts) s e = absurd (cc)

two_sorted : (f : TermId → Sort) (ts : List TermId) (r s : Sort) → r ∷ s ∷ [] ≡ map f ts → (u : TermId) × (v : TermId) × (ts ≡ u ∷ v ∷ []) × (f u ≡ r) × (f v ≡ s)
two_sorted f [] r s e = absurd (cc)
two_sorted f (u ∷ []) r s e = absurd (cc)
two_sorted f (u ∷ v ∷ []) r s e = (u, v, refl, cc, cc)
two_sorted f (u ∷ v ∷ w ∷ ts) r s e = absurd (cc)

module _ (a : Arena) (ok : IsArena a) (t : TermId) (n : Node) (at : slice_get a.nodes t.0 ≡ Some n) where
  -- a node of this head has one argument, of sort Bool
  pub record OneArgument : Type 0 where
    pub argument : TermId
    pub args_are : n.args ≡ argument ∷ []
    pub argument_in : argument.0 < length a.nodes

  pub record TwoArguments : Type 0 where
    pub left : TermId
    pub right : TermId
    pub args_are : n.args ≡ left ∷ right ∷ []
    pub left_in : left.0 < length a.nodes
    pub right_in : right.0 < length a.nodes
    pub same_sort : sort_at a left ≡ sort_at a right

  sorted_as : (h : Head) → n.head ≡ h → result_sort a.shapes a.decls h (sorts_at a n.args) ≡ Some (sort_at a t)
  sorted_as h e = ap (λ k. result_sort a.shapes a.decls k (sorts_at a n.args)) (sym e) ∙ sort-node a ok t n at

  pub not_node : n.head ≡ head.Not → OneArgument
  not_node e =
      let k = taken (sort.Bool ∷ []) (sorts_at a n.args) sort.Bool (sort_at a t) (sorted_as head.Not e) in
      let one = one_sorted (sort_at a) n.args sort.Bool k.wanted_is in
      let below = subst (AllBelow (length a.nodes)) one.1 (args_in_range a ok t n at) in
      record { argument = one.0; args_are = one.1; argument_in = below.0 }

  two_of : (r s q : Sort) → Taken (r ∷ r ∷ []) (sorts_at a n.args) q s → TwoArguments
  two_of r s q k =
      let two = two_sorted (sort_at a) n.args r r k.wanted_is in
      let below = subst (AllBelow (length a.nodes)) two.2 (args_in_range a ok t n at) in
      record { left = two.0; right = two.1; args_are = two.2; left_in = below.0; right_in = below.1.0; same_sort = two.3 ∙ sym two.4 }

  pub equation_node : n.head ≡ head.Eq → TwoArguments
  equation_node e =
      let r = first_sort (sorts_at a n.args) in
      two_of r (sort_at a t) sort.Bool (taken (r ∷ r ∷ []) (sorts_at a n.args) sort.Bool (sort_at a t) (sorted_as head.Eq e))

  pub below_node : n.head ≡ head.Lt → TwoArguments
  below_node e = two_of sort.Int (sort_at a t) sort.Bool (taken (sort.Int ∷ sort.Int ∷ []) (sorts_at a n.args) sort.Bool (sort_at a t) (sorted_as head.Lt e))

  pub at_most_node : n.head ≡ head.Le → TwoArguments
  at_most_node e = two_of sort.Int (sort_at a t) sort.Bool (taken (sort.Int ∷ sort.Int ∷ []) (sorts_at a n.args) sort.Bool (sort_at a t) (sorted_as head.Le e))

  pub connective_node : (h : Head) → n.head ≡ h → result_sort a.shapes a.decls h ≡ connective → TwoArguments
  connective_node h e c =
      two_of sort.Bool (sort_at a t) sort.Bool (taken (sort.Bool ∷ sort.Bool ∷ []) (sorts_at a n.args) sort.Bool (sort_at a t) (sym (ap (λ f. f (sorts_at a n.args)) c) ∙ sorted_as h e))

  -- ---- what the tree shows

  pub tree_is : (h : Head) (us : List TermId) → n.head ≡ h → n.args ≡ us → tree a t ≡ term h (trees a us)
  tree_is h us e f =
      let k = tree-node a ok t n at in
      k ∙ (ap (λ g. term g (trees a n.args)) e ∙ ap (λ vs. term h (trees a vs)) f)

  pub negated-not : (u : TermId) → n.head ≡ head.Not → n.args ≡ u ∷ [] → negated (tree a t) ≡ Some (tree a u)
  negated-not u e f = ap negated (tree_is head.Not (u ∷ []) e f)

  pub sides-equation : (u v : TermId) → n.head ≡ head.Eq → n.args ≡ u ∷ v ∷ [] → sides (tree a t) ≡ Some (tree a u, tree a v)
  sides-equation u v e f = ap sides (tree_is head.Eq (u ∷ v ∷ []) e f)

  pub lower-below : (u v : TermId) → n.head ≡ head.Lt → n.args ≡ u ∷ v ∷ [] → lower (tree a t) ≡ Some (tree a u, tree a v)
  lower-below u v e f = ap lower (tree_is head.Lt (u ∷ v ∷ []) e f)

-- a term of another head negates nothing
pub negated-other : (h : Head) (ts : Terms) → (h ≡ head.Not → ⊥) → negated (term h ts) ≡ None
negated-other head.Not ts e = absurd (e refl)
negated-other _ ts e = refl

pub sides-other : (h : Head) (ts : Terms) → (h ≡ head.Eq → ⊥) → sides (term h ts) ≡ None
sides-other head.Eq ts e = absurd (e refl)
sides-other _ ts e = refl

pub lower-other : (h : Head) (ts : Terms) → (h ≡ head.Lt → ⊥) → lower (term h ts) ≡ None
lower-other head.Lt ts e = absurd (e refl)
lower-other _ ts e = refl

-- terms of an arena are the same where their ids are
pub term_eq-ids : (a : Arena) → IsArena a → (t u : TermId) → t.0 < length a.nodes → u.0 < length a.nodes → term_eq (tree a t) (tree a u) ≡ nat_eq t.0 u.0
term_eq-ids a ok t u ht hu = by_case (nat_eq t.0 u.0) refl (term_eq (tree a t) (tree a u)) refl
  where
    by_case : (b : Bool) → nat_eq t.0 u.0 ≡ b → (c : Bool) → term_eq (tree a t) (tree a u) ≡ c → c ≡ b
    by_case true e true f = refl
    by_case true e false f =
        let same : t ≡ u = ap (λ n. record { 0 = n }) (eqb-true t.0 u.0 e) in
        sym f ∙ (ap (λ v. term_eq (tree a v) (tree a u)) same ∙ term_eq-refl (tree a u))
    by_case false e true f =
        let same = same_id a ok (tree a u) t u ht hu (term_eq-true (tree a t) (tree a u) f) refl in
        absurd (false≢true (sym e ∙ eq-eqb t.0 u.0 (ap (λ v. v.0) same)))
    by_case false e false f = refl

-- ---- the arguments as they are read

at_first : (args : List TermId) (u x : TermId) (us : List TermId) → args ≡ u ∷ us → slice_get args 0 ≡ Some x → x ≡ u
at_first args u x us e f = let g : slice_get (u ∷ us) 0 ≡ Some x = ap (λ l. slice_get l 0) (sym e) ∙ f in cc

at_second : (args : List TermId) (u v x : TermId) (us : List TermId) → args ≡ u ∷ v ∷ us → slice_get args 1 ≡ Some x → x ≡ v
at_second args u v x us e f = let g : slice_get (u ∷ v ∷ us) 1 ≡ Some x = ap (λ l. slice_get l 1) (sym e) ∙ f in cc

module _ (a : Arena) (ok : IsArena a) (t : TermId) (n : Node) (at : slice_get a.nodes t.0 ≡ Some n) where
  pub not_len : n.head ≡ head.Not → 0 < length n.args
  not_len e = rw ((not_node a ok t n at e).args_are) (omega arith)

  pub not_in : (x : TermId) → n.head ≡ head.Not → slice_get n.args 0 ≡ Some x → x.0 < length a.nodes
  not_in x e f =
      let o = not_node a ok t n at e in
      let P : TermId → Type 0 = λ u. u.0 < length a.nodes in
      subst P (sym (at_first n.args o.argument x [] o.args_are f)) o.argument_in

  pub not_value : (x : TermId) → n.head ≡ head.Not → slice_get n.args 0 ≡ Some x → Some (tree a x) ≡ negated (tree a t)
  not_value x e f =
      let o = not_node a ok t n at e in
      ap (λ u. Some (tree a u)) (at_first n.args o.argument x [] o.args_are f) ∙ sym (negated-not a ok t n at o.argument e o.args_are)

  pub no_not : (n.head ≡ head.Not → ⊥) → None ≡ negated (tree a t)
  no_not h = sym (ap negated (tree-node a ok t n at) ∙ negated-other n.head (trees a n.args) h)

  -- the same of a node with two arguments
  pub two_len : TwoArguments a ok t n at → 1 < length n.args
  two_len o = rw (o.args_are) (omega arith)

  pub two_len_first : TwoArguments a ok t n at → 0 < length n.args
  two_len_first o = rw (o.args_are) (omega arith)

  pub two_in : (o : TwoArguments a ok t n at) (x y : TermId) → slice_get n.args 0 ≡ Some x → slice_get n.args 1 ≡ Some y → (x.0 < length a.nodes) × (y.0 < length a.nodes)
  two_in o x y f g =
      let P : TermId → Type 0 = λ u. u.0 < length a.nodes in
      (subst P (sym (at_first n.args o.left x (o.right ∷ []) o.args_are f)) o.left_in, subst P (sym (at_second n.args o.left o.right y [] o.args_are g)) o.right_in)

  pub two_sorts : (o : TwoArguments a ok t n at) (x y : TermId) → slice_get n.args 0 ≡ Some x → slice_get n.args 1 ≡ Some y → sort_at a x ≡ sort_at a y
  two_sorts o x y f g =
      ap (sort_at a) (at_first n.args o.left x (o.right ∷ []) o.args_are f) ∙ (o.same_sort ∙ sym (ap (sort_at a) (at_second n.args o.left o.right y [] o.args_are g)))

  pub two_are : (o : TwoArguments a ok t n at) (x y : TermId) → slice_get n.args 0 ≡ Some x → slice_get n.args 1 ≡ Some y → n.args ≡ x ∷ y ∷ []
  two_are o x y f g =
      let p = at_first n.args o.left x (o.right ∷ []) o.args_are f in
      let q = at_second n.args o.left o.right y [] o.args_are g in
      o.args_are ∙ (ap (λ u. u ∷ o.right ∷ []) (sym p) ∙ ap (λ u. x ∷ u ∷ []) (sym q))

  pub no_sides : (n.head ≡ head.Eq → ⊥) → None ≡ sides (tree a t)
  no_sides h = sym (ap sides (tree-node a ok t n at) ∙ sides-other n.head (trees a n.args) h)

  pub no_lower : (n.head ≡ head.Lt → ⊥) → None ≡ lower (tree a t)
  no_lower h = sym (ap lower (tree-node a ok t n at) ∙ lower-other n.head (trees a n.args) h)
