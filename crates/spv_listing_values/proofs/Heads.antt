-- What the head of a kept term says of its tree.
use Rattle.std.proofs.Common.{◌≡◌, ℕ, ◌<◌, Bool, false, Option, List, [], ◌∷◌, length, sym, ap, ◌∙◌, codes}
use Rattle.std.specs.List.{list_any}
use Rattle.std.specs.Str.{bytes_eq}
use Rattle.spv_listing_values.specs.declared.texts.Text.{Text}
use Rattle.spv_listing_values.specs.Written.{Head, Alone, Applied, written}
use Rattle.spv_listing_values.specs.Lines.{is_equation}
use Rattle.spv_listing_values.specs.Forms.{is_relation}
use Rattle.spv_listing_values.specs.Places.{Flat, flat_in, IsTable, args_at, trees, tree}
use Rattle.spv_listing_values.proofs.Trees.{tree-node}

module _ (fs : List Flat) (ok : IsTable fs) (t : Text) (at : t.0 < length fs) where
  -- the term at a place over the head that stands there
  pub tree-head : (h : Head) → h ≡ (flat_in fs t).head → tree fs t ≡ written h (args_at (trees fs) (flat_in fs t).args)
  tree-head h e = tree-node fs ok t at ∙ ap (λ (g : Head). written g (args_at (trees fs) (flat_in fs t).args)) (sym e)

  pub alone_equation : (text : List ℕ) → Alone text ≡ (flat_in fs t).head → false ≡ is_equation (tree fs t)
  alone_equation text e = sym (ap is_equation (tree-head (Alone text) e))

  pub applied_equation : (text : List ℕ) (name : Option (List ℕ)) (r : Bool) → Applied text name ≡ (flat_in fs t).head → r ≡ bytes_eq text (codes "=") → r ≡ is_equation (tree fs t)
  applied_equation text name r e is = is ∙ sym (ap is_equation (tree-head (Applied text name) e))

  pub alone_relation : (text : List ℕ) → Alone text ≡ (flat_in fs t).head → false ≡ is_relation (tree fs t)
  alone_relation text e = sym (ap is_relation (tree-head (Alone text) e))

  pub applied_relation : (text : List ℕ) (name : Option (List ℕ)) (r : Bool) → Applied text name ≡ (flat_in fs t).head → r ≡ list_any (bytes_eq text) (codes "=" ∷ codes "<=" ∷ [])
      → r ≡ is_relation (tree fs t)
  applied_relation text name r e is = is ∙ sym (ap is_relation (tree-head (Applied text name) e))
