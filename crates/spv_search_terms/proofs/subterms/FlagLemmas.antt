-- Constant terms, and heads with a meaning of their own, by flags.
use Rattle.std.proofs.Common.{◌≡◌, ℕ, ◌≤◌, Bool, true, false, ◌&&◌, ◌||◌, not, List, [], ◌∷◌, map, take, length, slice_get, get_or, refl, sym, ap, ◌∙◌, subst, Option, Some, None, ℤ, negsuc, ◌+ℤ◌, ◌*ℤ◌, is_some, arith}
use Rattle.std.proofs.lemmas.Option.{slice_get_within}
use Rattle.spv_logic.specs.declared.conditions.TermId.{TermId}
use Rattle.spv_logic.specs.declared.operators.Head.{Head}
use Rattle.spv_logic.specs.declared.operators.Head.TheVariants.{Num, Add, Sub, Mul, True, False}
use Rattle.spv_term.specs.declared.nodes.Node.{Node}
use Rattle.spv_term.specs.Arena.{Arena, IsArena, tree, trees}
use Rattle.spv_term.proofs.ArenaLemmas.{tree-node}
use Rattle.spv_atoms.specs.Forms.{both_known, constant_over, constant_values}
use Rattle.spv_atoms.specs.Found.{AreReady}
use Rattle.spv_models.specs.leaf_models.Subterms as listing
use Rattle.spv_models.specs.leaf_models.Subterms.{is_listed}
use Rattle.spv_search_terms.specs.subterms.Walk.{AreBehind}
use Rattle.spv_search_terms.specs.subterms.Flags.{beside, is_constant, both, one, constant, means}
use Rattle.spv_search_terms.proofs.subterms.PlaceLemmas.{beside-values, counted, first_so_many, all-ready-more}

both_some : (op : ℤ → ℤ → ℤ) (c d : Option ℤ) → is_some (both_known op c d) ≡ (is_some c && is_some d)
both_some op None d = refl
both_some op (Some x) None = refl
both_some op (Some x) (Some y) = refl

abbrev knowns : List (Option ℤ) → List Bool
knowns vs = map is_some vs

added : (vs : List (Option ℤ)) → is_some (constant_over Add vs) ≡ both (knowns vs)
added [] = refl
added (a ∷ []) = refl
added (a ∷ b ∷ []) = both_some ◌+ℤ◌ a b
added (a ∷ b ∷ c ∷ vs) = refl

subtracted : (vs : List (Option ℤ)) → is_some (constant_over Sub vs) ≡ both (knowns vs)
subtracted [] = refl
subtracted (a ∷ []) = refl
subtracted (a ∷ b ∷ []) = both_some (λ x y. x +ℤ negsuc 0 *ℤ y) a b
subtracted (a ∷ b ∷ c ∷ vs) = refl

multiplied : (vs : List (Option ℤ)) → is_some (constant_over Mul vs) ≡ both (knowns vs)
multiplied [] = refl
multiplied (a ∷ []) = refl
multiplied (a ∷ b ∷ []) = both_some ◌*ℤ◌ a b
multiplied (a ∷ b ∷ c ∷ vs) = refl

constant-is : (h : Head) (vs : List (Option ℤ)) → is_some (constant_over h vs) ≡ constant h (knowns vs)
constant-is (Num z) vs = refl
constant-is Add vs = added vs
constant-is Sub vs = subtracted vs
constant-is Mul vs = multiplied vs
constant-is h vs = refl

one_known : (vs : List (Option ℤ)) → listing.is_one_constant vs ≡ one (knowns vs)
one_known [] = refl
one_known (a ∷ []) = refl
one_known (a ∷ b ∷ []) = refl
one_known (a ∷ b ∷ c ∷ vs) = refl

means-is : (h : Head) (vs : List (Option ℤ)) → listing.means h vs ≡ means h (knowns vs)
means-is (Num z) vs = refl
means-is True vs = refl
means-is False vs = refl
means-is Mul vs = one_known vs
means-is h vs = refl

module _ (a : Arena) (ok : IsArena a) where
  -- whether the term of an id is constant
  abbrev pub constant_id : TermId → Bool
  constant_id t = is_constant (tree a t)

  known_args : (ts : List TermId) → knowns (constant_values (trees a ts)) ≡ map constant_id ts
  known_args [] = refl
  known_args (t ∷ ts) = ap (λ bs. is_constant (tree a t) ∷ bs) (known_args ts)

  module _ (ids : List TermId) (behind : AreBehind a ids) (flags : List Bool) (i : ℕ) (filled : flags ≡ map constant_id (take i ids)) (t : TermId) (n : Node) (node_at : slice_get a.nodes t.0 ≡ Some n) (args : List TermId) (args_are : args ≡ n.args) where
    flagged : i ≤ length ids → AreReady ids i n.args → map (beside false ids flags) args ≡ knowns (constant_values (trees a n.args))
    flagged h ready =
        ap (map (beside false ids flags)) args_are
        ∙ (beside-values constant_id false ids flags n.args (subst (λ k. AreReady ids k n.args) (sym (counted constant_id ids flags i filled h)) ready) (first_so_many constant_id ids flags i filled h)
        ∙ sym (known_args n.args))

    -- whether a term is constant, where those before it have their flags
    pub constant-at : (b : Bool) → slice_get ids i ≡ Some t → i ≤ length ids → b ≡ constant n.head (map (beside false ids flags) args) → b ≡ constant_id t
    constant-at b at h e =
        e ∙ (ap (constant n.head) (flagged h (behind.before i t n at node_at))
        ∙ (sym (constant-is n.head (constant_values (trees a n.args))) ∙ ap is_constant (sym (tree-node a ok t n node_at))))

  -- whether a table lists a term, where all have their flags
  pub listed-at : (ids : List TermId) (behind : AreBehind a ids) (flags : List Bool) (filled : flags ≡ map constant_id ids) (t : TermId) (n : Node) (node_at : slice_get a.nodes t.0 ≡ Some n) (args : List TermId) (args_are : args ≡ n.args)
      → (i : ℕ) → slice_get ids i ≡ Some t → (b : Bool) → b ≡ means n.head (map (beside false ids flags) args) → not b ≡ is_listed (tree a t)
  listed-at ids behind flags filled t n node_at args args_are i at b e =
      let within = slice_get_within ids i t at in
      let ready = all-ready-more ids i (length ids) n.args (omega (arith, within)) (behind.before i t n at node_at) in
      let whole : flags ≡ map constant_id (take (length ids) ids) = filled ∙ ap (map constant_id) (sym (take_whole ids)) in
      ap not (e ∙ (ap (means n.head) (flagged ids behind flags (length ids) whole t n node_at args args_are (omega arith) ready) ∙ sym (means-is n.head (constant_values (trees a n.args)))))
      ∙ ap is_listed (sym (tree-node a ok t n node_at))
    where
      take_whole : (xs : List TermId) → take (length xs) xs ≡ xs
      take_whole [] = refl
      take_whole (x ∷ xs) = ap (λ ys. x ∷ ys) (take_whole xs)

-- ---- two terms

module _ (f : TermId → Bool) (args : List TermId) (d e : TermId) (two : length args ≡ 2) (a b : Bool) (first : a ≡ f (get_or args 0 d)) where
  pair : (ts : List TermId) → length ts ≡ 2 → map f ts ≡ f (get_or ts 0 d) ∷ f (get_or ts 1 e) ∷ []
  pair [] h = absurd (omega (arith, h))
  pair (t ∷ []) h = absurd (omega (arith, h))
  pair (t ∷ u ∷ []) h = refl
  pair (t ∷ u ∷ v ∷ ts) h = absurd (omega (arith, h))

  is_both : both (map f args) ≡ (a && f (get_or args 1 e))
  is_both = ap both (pair args two) ∙ ap (λ c. c && f (get_or args 1 e)) (sym first)

  is_one : one (map f args) ≡ (a || f (get_or args 1 e))
  is_one = ap one (pair args two) ∙ ap (λ c. c || f (get_or args 1 e)) (sym first)

  pub both_then : a ≡ true → b ≡ f (get_or args 1 e) → b ≡ both (map f args)
  both_then h second = second ∙ sym (is_both ∙ ap (λ c. c && f (get_or args 1 e)) h)

  pub both_else : a ≡ false → a ≡ both (map f args)
  both_else h = h ∙ sym (is_both ∙ ap (λ c. c && f (get_or args 1 e)) h)

  pub one_then : a ≡ true → a ≡ one (map f args)
  one_then h = h ∙ sym (is_one ∙ ap (λ c. c || f (get_or args 1 e)) h)

  pub one_else : a ≡ false → b ≡ f (get_or args 1 e) → b ≡ one (map f args)
  one_else h second = second ∙ sym (is_one ∙ ap (λ c. c || f (get_or args 1 e)) h)
