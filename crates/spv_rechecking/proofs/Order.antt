-- The terms of a table in order are those of the texts that are named, each behind its subterms where it is new.
use Rattle.std.proofs.Common.{◌≡◌, ℕ, zero, suc, ◌<◌, Bool, true, false, if◌then◌else◌, Some, List, [], ◌∷◌, ◌++◌, map, length, get_or, refl, sym, ap, ◌∙◌, arith}
use Rattle.std.specs.List.{list_all, list_any, flat_map, position_or_len}
use Rattle.std.proofs.lemmas.List.{map-append}
use Rattle.spv_logic.specs.Terms.{Term, Terms, term, no_terms, term_eq}
use Rattle.spv_logic.proofs.Equality.{term_eq-refl}
use Rattle.spv_logic.proofs.list.Tests.{left_true, right_true}
use Rattle.spv_atoms.specs.Atoms.{with_term, with_terms}
use Rattle.spv_atoms.proofs.Members.{has, or_left, or_right, with_term-known, with_terms-append, with_terms-has}
use Rattle.spv_proof_rules.specs.Stops.{layers, layers_each}
use Rattle.spv_listing_values.specs.declared.texts.Text.{Text}
use Rattle.spv_listing_values.specs.Written.{Written, Writtens, written, no_written, writtens, word}
use Rattle.spv_listing_values.specs.Places.{Flat, IsTable, args_at, tree_of, trees, tree, flat_eq, with_flat, entered, all_entered, list_entered, flats_of}
use Rattle.spv_listing_values.proofs.Entering.{entering}
use Rattle.spv_listing_values.proofs.Grown.{is_entered, known_at, length_trees}
use Rattle.spv_listing_values.proofs.Trees.{tree-node}
use Rattle.spv_rechecking.specs.written_terms.Standing.{Vocabulary, stands}
use Rattle.spv_rechecking.specs.Rechecked.{term_of}
use Rattle.spv_rechecking.proofs.Standing.{Reads, AllReads, reads_of, reads_over, reads_first, term_is, over_arguments, trees_push}

module _ (v : Vocabulary) where
  abbrev pub images : List Flat → List Term
  images fs = map (term_of v) (trees fs)

  has_image : (ws : List Written) (k : ℕ) (d : Written) → k < length ws → has (map (term_of v) ws) (term_of v (get_or ws k d)) ≡ true
  has_image [] k d lt = absurd (omega (arith, lt))
  has_image (w ∷ ws) zero d lt = or_left (term_eq (term_of v w) (term_of v w)) (has (map (term_of v) ws) (term_of v w)) (term_eq-refl (term_of v w))
  has_image (w ∷ ws) (suc k) d lt = or_right (term_eq (term_of v (get_or ws k d)) (term_of v w)) (has (map (term_of v) ws) (term_of v (get_or ws k d))) (has_image ws k d (omega (arith, lt)))

  -- a term is entered over its arguments
  placed_order : (known : List Term) (fs : List Flat) (f : Flat) (t : Term) → IsTable fs → term_of v (tree_of (trees fs) f) ≡ t
      → with_terms known (images (with_flat fs f)) ≡ with_term (with_terms known (images fs)) t
  placed_order known fs f t ok is = by (list_any (flat_eq f) fs) refl
    where
      by : (b : Bool) → list_any (flat_eq f) fs ≡ b → with_terms known (images (if b then fs else fs ++ f ∷ [])) ≡ with_term (with_terms known (images fs)) t
      by true e =
          let at = known_at fs f e in
          let place : Text = record { 0 = position_or_len (flat_eq f) fs } in
          let size = length_trees fs [] in
          let there : tree fs place ≡ tree_of (trees fs) f = tree-node fs ok place at.in_range ∙ ap (λ (g : Flat). written g.head (args_at (trees fs) g.args)) at.is in
          let has_it : has (images fs) t ≡ true = ap (has (images fs)) (sym (ap (term_of v) there ∙ is)) ∙ has_image (trees fs) place.0 (word []) (omega (arith, at.in_range, size)) in
          sym (with_term-known (with_terms known (images fs)) t (with_terms-has known (images fs) t has_it))
      by false e =
          ap (λ ws. with_terms known (map (term_of v) ws)) (trees_push v fs f)
          ∙ (ap (with_terms known) (map-append (term_of v) (trees fs) (tree_of (trees fs) f ∷ []))
          ∙ (with_terms-append known (images fs) (term_of v (tree_of (trees fs) f) ∷ []) ∙ ap (with_term (with_terms known (images fs))) is))

  mutual
    entered_order : (known : List Term) (w : Written) (t : Term) (r : Reads v w t) (fs : List Flat) (ps : List Text) → IsTable fs
        → with_terms known (images (entered (entering fs ps) w).flats) ≡ with_terms (with_terms known (images fs)) (layers t)
    entered_order known (written h ts) t r fs ps ok =
        let o = reads_over v h ts t r in
        let args = over_arguments fs h ts ok in
        let a = all_entered (entering fs []) ts in
        placed_order known a.flats (record { head = h; args = a.places }) (term o.k o.us) args.grown.table (ap (term_of v) args.is ∙ (term_is v (written h ts) t r ∙ sym o.is))
        ∙ (ap (λ xs. with_term xs (term o.k o.us)) (all_entered_order known ts o.us o.args fs [] ok)
        ∙ (sym (with_terms-append (with_terms known (images fs)) (layers_each o.us) (term o.k o.us ∷ [])) ∙ ap (λ u. with_terms (with_terms known (images fs)) (layers u)) o.is))

    all_entered_order : (known : List Term) (ws : Writtens) (us : Terms) (r : AllReads v ws us) (fs : List Flat) (ps : List Text) → IsTable fs
        → with_terms known (images (all_entered (entering fs ps) ws).flats) ≡ with_terms (with_terms known (images fs)) (layers_each us)
    all_entered_order known no_written us r fs ps ok = ap (λ u. with_terms (with_terms known (images fs)) (layers_each u)) (none us r.heads)
      where
        none : (us : Terms) → Some no_terms ≡ Some us → no_terms ≡ us
        none us e = cc
    all_entered_order known (writtens w ws) us r fs ps ok =
        let e = entered (entering fs ps) w in
        let o = reads_first v w ws us r in
        all_entered_order known ws o.others o.rest e.flats e.places (is_entered w fs ps ok).grown.table
        ∙ (ap (λ xs. with_terms xs (layers_each o.others)) (entered_order known w o.first o.one fs ps ok)
        ∙ (sym (with_terms-append (with_terms known (images fs)) (layers o.first) (layers_each o.others)) ∙ ap (λ u. with_terms (with_terms known (images fs)) (layers_each u)) o.is))

  list_order : (known : List Term) (ts : List Written) (fs : List Flat) (ps : List Text) → IsTable fs → list_all (stands v) ts ≡ true
      → with_terms known (images (list_entered (entering fs ps) ts).flats) ≡ with_terms (with_terms known (images fs)) (flat_map layers (map (term_of v) ts))
  list_order known [] fs ps ok h = refl
  list_order known (t ∷ ts) fs ps ok h =
      let e = entered (entering fs ps) t in
      list_order known ts e.flats e.places (is_entered t fs ps ok).grown.table (right_true (stands v t) (list_all (stands v) ts) h)
      ∙ (ap (λ xs. with_terms xs (flat_map layers (map (term_of v) ts)))
      (entered_order known t (term_of v t) (reads_of v t (left_true (stands v t) (list_all (stands v) ts) h)) fs ps ok)
      ∙ sym (with_terms-append (with_terms known (images fs)) (layers (term_of v t)) (flat_map layers (map (term_of v) ts))))

  pub table_order : (known : List Term) (fs : List Flat) (ts : List Written) → fs ≡ flats_of ts → list_all (stands v) ts ≡ true
      → with_terms known (images fs) ≡ with_terms known (flat_map layers (map (term_of v) ts))
  table_order known fs ts e h = ap (λ gs. with_terms known (images gs)) e ∙ list_order known ts [] [] (record { ordered = tt }) h
