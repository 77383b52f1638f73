-- Images of ids, and the replacement that pairs are.
use Rattle.std.proofs.Common.{◌≡◌, ◌<◌, Bool, true, false, cond, List, [], ◌∷◌, length, Some, refl, sym, ap, ◌∙◌, subst}
use Rattle.std.specs.Option.{option_map}
use Rattle.std.proofs.lemmas.Bool.{false≢true, eq-eqb, eqb-true}
use Rattle.spv_logic.specs.declared.conditions.TermId.{TermId}
use Rattle.spv_logic.specs.declared.types.Sort.{Sort}
use Rattle.spv_logic.specs.declared.types.Shape.{Shape}
use Rattle.spv_logic.specs.declared.types.Decl.{Decl}
use Rattle.spv_logic.specs.declared.operators.Head.{Head}
use Rattle.spv_logic.specs.declared.operators.Head.TheVariants.{Var, ClassVar, Start}
use Rattle.spv_logic.specs.Terms.{term, no_terms, head_eq}
use Rattle.spv_logic.specs.Sorts.{takes, result_sort}
use Rattle.spv_logic.specs.Substitution.{is_variable}
use Rattle.spv_logic.proofs.Equality.{head_eq-true, head_eq-refl}
use Rattle.spv_term.specs.Arena.{Arena, IsArena, tree, trees, sorts_at, sort_at}
use Rattle.spv_term.proofs.NodeLemmas.{id_from}
use Rattle.spv_term.proofs.ArenaLemmas.{node_of, tree-node, sort-node, HasOneId-arena}
use Rattle.spv_term.specs.substitution.Images.{same_id, image_of, head_of, head_at, pairs_at, IsPair, ArePairs, Puts, SameImages}

-- ---- look-ups

pub same_id-true : (t u : TermId) → same_id t u ≡ true → t ≡ u
same_id-true t u e = id_from t u (eqb-true t.0 u.0 e)

pub same_id-refl : (t : TermId) → same_id t t ≡ true
same_id-refl t = eq-eqb t.0 t.0 refl

pub same_id-sym : (t u : TermId) → same_id t u ≡ true → same_id u t ≡ true
same_id-sym t u e = eq-eqb u.0 t.0 (sym (eqb-true t.0 u.0 e))

pub swapped : (t u : TermId) → same_id t u ≡ same_id u t
swapped t u = by (same_id t u) refl (same_id u t) refl
  where
    by : (a : Bool) → same_id t u ≡ a → (b : Bool) → same_id u t ≡ b → a ≡ b
    by true e true f = refl
    by false e false f = refl
    by true e false f = sym (same_id-sym t u e) ∙ f
    by false e true f = sym e ∙ same_id-sym u t f

pub no_images : SameImages [] []
no_images = record { image = λ k. refl }

-- one more pair in front of those that are in already
pub put_in_front : (pairs rest : List (TermId × TermId)) (old new : List (TermId × TermId)) (from to : TermId) → rest ≡ (from, to) ∷ pairs → SameImages old pairs → Puts from to old new → SameImages new rest
put_in_front pairs rest old new from to e same puts =
    subst (SameImages new) (sym e) (record {
      image = λ k. puts.image k ∙ (λ i. cond (swapped from k i) (Some to) (same.image k i));
    })

-- ---- variables of an arena

no_args : (given : List Sort) (s r : Sort) → takes [] given s ≡ Some r → given ≡ []
no_args [] s r e = refl
no_args (g ∷ given) s r e = absurd (cc)

pub variable_args : (shapes : List Shape) (decls : List Decl) (h : Head) (given : List Sort) (r : Sort) → is_variable h ≡ true → result_sort shapes decls h given ≡ Some r → given ≡ []
variable_args shapes decls (Var x s n) given r v e = no_args given s r e
variable_args shapes decls (ClassVar t n) given r v e = no_args given _ r e
variable_args shapes decls (Start x s) given r v e = no_args given s r e
variable_args shapes decls _ given r v e = absurd (false≢true v)

no_sorts : (a : Arena) (ts : List TermId) → sorts_at a ts ≡ [] → ts ≡ []
no_sorts a [] e = refl
no_sorts a (t ∷ ts) e = absurd (cc)

module _ (a : Arena) (ok : IsArena a) where
  -- a variable is its head alone
  pub variable_alone : (t : TermId) → t.0 < length a.nodes → is_variable (head_at a t) ≡ true → tree a t ≡ term (head_at a t) no_terms
  variable_alone t there v =
      let n = node_of a ok t there in
      let at = tree-node a ok t n.0 n.1 in
      let h : head_at a t ≡ n.0.head = ap head_of at in
      let args : n.0.args ≡ [] = no_sorts a n.0.args (variable_args a.shapes a.decls n.0.head (sorts_at a n.0.args) (sort_at a t) (sym (ap is_variable h) ∙ v) (sort-node a ok t n.0 n.1)) in
      at ∙ (λ i. term (sym h i) (trees a (args i)))

  -- variables of one head have one id
  pub one_variable : (t u : TermId) → t.0 < length a.nodes → u.0 < length a.nodes → is_variable (head_at a u) ≡ true → head_at a t ≡ head_at a u → t ≡ u
  one_variable t u t_there u_there v e =
      HasOneId-arena a ok t u t_there u_there
      (variable_alone t t_there (ap is_variable e ∙ v) ∙ (ap (λ h. term h no_terms) e ∙ sym (variable_alone u u_there v)))

  same_heads : (t u : TermId) → t.0 < length a.nodes → u.0 < length a.nodes → is_variable (head_at a u) ≡ true → head_eq (head_at a t) (head_at a u) ≡ same_id t u
  same_heads t u t_there u_there v = by (head_eq (head_at a t) (head_at a u)) refl (same_id t u) refl
    where
      by : (b : Bool) → head_eq (head_at a t) (head_at a u) ≡ b → (c : Bool) → same_id t u ≡ c → b ≡ c
      by true e true f = refl
      by false e false f = refl
      by true e false f =
          let same = one_variable t u t_there u_there v (head_eq-true (head_at a t) (head_at a u) e) in
          absurd (false≢true (sym f ∙ (ap (same_id t) (sym same) ∙ same_id-refl t)))
      by false e true f =
          let same = same_id-true t u f in
          absurd (false≢true (sym e ∙ (ap (λ w. head_eq (head_at a t) (head_at a w)) (sym same) ∙ head_eq-refl (head_at a t))))

  -- what pairs put in the place of a term is what the replacement puts in the place of its head
  pub pairs-image : (pairs : List (TermId × TermId)) (k : TermId) → ArePairs a pairs → k.0 < length a.nodes
      → pairs_at a pairs (head_at a k) ≡ option_map (tree a) (image_of pairs k)
  pairs-image [] k h there = refl
  pairs-image (p ∷ pairs) k h there =
      ap (λ b. cond b (Some (tree a p.1)) (pairs_at a pairs (head_at a k))) (same_heads k p.0 there h.0.variable_there h.0.variable)
      ∙ by (same_id k p.0) (pairs-image pairs k h.1 there)
    where
      by : (b : Bool) → pairs_at a pairs (head_at a k) ≡ option_map (tree a) (image_of pairs k) → cond b (Some (tree a p.1)) (pairs_at a pairs (head_at a k)) ≡ option_map (tree a) (cond b (Some p.1) (image_of pairs k))
      by true rest = refl
      by false rest = rest

  -- an id that has an image in the pairs is a variable of theirs
  pub image-pair : (pairs : List (TermId × TermId)) (k v : TermId) → ArePairs a pairs → image_of pairs k ≡ Some v → IsPair a (k, v)
  image-pair [] k v h e = absurd (cc)
  image-pair (p ∷ pairs) k v h e = by (same_id k p.0) refl e (image-pair pairs k v h.1)
    where
      by : (b : Bool) → same_id k p.0 ≡ b → cond b (Some p.1) (image_of pairs k) ≡ Some v → (image_of pairs k ≡ Some v → IsPair a (k, v)) → IsPair a (k, v)
      by true f g rest =
          let to : p.1 ≡ v = cc in
          let from : p.0 ≡ k = sym (same_id-true k p.0 f) in
          subst (λ (x : TermId). IsPair a (k, x)) to (subst (λ (x : TermId). IsPair a (x, p.1)) from h.0)
      by false f g rest = rest g
