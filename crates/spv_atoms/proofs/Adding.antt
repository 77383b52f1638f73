-- Atoms that are added by their ids, over plain variables.
use Rattle.std.proofs.Common.{◌≡◌, ℕ, ◌+◌, ◌<◌, Bool, true, false, cond, ◌||◌, List, [], ◌∷◌, ◌++◌, map, length, drop, get_or, refl, sym, ap, ◌∙◌, subst, nat_eq}
use Rattle.std.specs.List.{list_any}
use Rattle.std.proofs.lemmas.Bool.{eqb-true}
use Rattle.std.proofs.lemmas.List.{map-append, drop_more}
use Rattle.spv_logic.specs.declared.conditions.TermId.{TermId}
use Rattle.spv_logic.specs.Terms.{Term}
use Rattle.spv_term.specs.Arena.{Arena, IsArena, AllBelow, tree}
use Rattle.spv_term.proofs.TreeLemmas.{AllBelow-append}
use Rattle.spv_atoms.specs.Atoms.{is_truth, is_connective, with_atoms, is_atom, only_if, with_terms}
use Rattle.spv_atoms.specs.Order.{order, passing, same_id, with_id, SameMembers, IsAdded, added}
use Rattle.spv_atoms.proofs.Members.{with_term-new, with_term-known, with_terms-append}
use Rattle.spv_atoms.proofs.Walks.{has-trees}
use Rattle.spv_atoms.proofs.Leaves.{atoms_found}

any-append : (t : TermId) (xs ys : List TermId) → list_any (same_id t) (xs ++ ys) ≡ (list_any (same_id t) xs || list_any (same_id t) ys)
any-append t [] ys = refl
any-append t (x ∷ xs) ys = by_case (same_id t x) (any-append t xs ys)
  where
    by_case : (b : Bool) → list_any (same_id t) (xs ++ ys) ≡ (list_any (same_id t) xs || list_any (same_id t) ys) → (b || list_any (same_id t) (xs ++ ys)) ≡ ((b || list_any (same_id t) xs) || list_any (same_id t) ys)
    by_case true e = refl
    by_case false e = e

-- a term that is added is among both
pub members-more : (known ids : List TermId) (t : TermId) → SameMembers known ids → SameMembers (with_id known t) (ids ++ t ∷ [])
members-more known ids t same u =
    by_case (list_any (same_id t) known) refl ∙ sym (any-append u ids (t ∷ []))
  where
    among : (b : Bool) → same_id u t ≡ b → list_any (same_id t) known ≡ true → list_any (same_id u) ids ≡ (list_any (same_id u) ids || (b || false))
    among true e h =
        let number = eqb-true u.0 t.0 e in
        let here : list_any (same_id u) ids ≡ true = ap (λ n. list_any (λ (x : TermId). nat_eq n x.0) ids) number ∙ (sym (same t) ∙ h) in
        here ∙ sym (ap (λ c. c || true) here)
    among false e h = sym (or_false (list_any (same_id u) ids))
      where
        or_false : (b : Bool) → (b || false) ≡ b
        or_false true = refl
        or_false false = refl

    by_case : (b : Bool) → list_any (same_id t) known ≡ b → list_any (same_id u) (cond b known (known ++ t ∷ [])) ≡ (list_any (same_id u) ids || list_any (same_id u) (t ∷ []))
    by_case true e = same u ∙ among (same_id u t) refl e
    by_case false e = any-append u known (t ∷ []) ∙ ap (λ b. b || list_any (same_id u) (t ∷ [])) (same u)

pub below-drop : (n : ℕ) (ts : List TermId) (i : ℕ) (d : TermId) → i < length ts → AllBelow n (drop i ts) → AllBelow n (drop (i + 1) ts)
below-drop n ts i d h g = (subst (AllBelow n) (drop_more ts i d h) g).1

module _ (a : Arena) (ok : IsArena a) where
  abbrev pub atom_at : TermId → Bool
  atom_at t = is_atom (is_truth a.shapes a.decls) (tree a t)

  pub no_atom_added : (t : TermId) (known out : List TermId) → atom_at t ≡ false → SameMembers known out → AllBelow (length a.nodes) out → IsAdded a t out known out
  no_atom_added t known out e same h = record {
    atoms = sym (ap (λ b. with_terms (map (tree a) out) (only_if b (tree a t))) e);
    same = same;
    in_range = h;
  }

  pub known_added : (t : TermId) (known out : List TermId) → t.0 < length a.nodes → atom_at t ≡ true → list_any (same_id t) known ≡ true → SameMembers known out → AllBelow (length a.nodes) out
      → IsAdded a t out known out
  known_added t known out t_in e k same h = record {
    atoms = sym (ap (λ b. with_terms (map (tree a) out) (only_if b (tree a t))) e ∙ with_term-known (map (tree a) out) (tree a t) (sym (has-trees a ok t out t_in h) ∙ (sym (same t) ∙ k)));
    same = same;
    in_range = h;
  }

  pub new_added : (t : TermId) (known out known' out' : List TermId) → t.0 < length a.nodes → atom_at t ≡ true → list_any (same_id t) known ≡ false → SameMembers known out → AllBelow (length a.nodes) out
      → known' ≡ with_id known t → out' ≡ out ++ t ∷ [] → IsAdded a t out known' out'
  new_added t known out known' out' t_in e k same h f g = record {
    atoms =
        ap (map (tree a)) g
        ∙ (map-append (tree a) out (t ∷ [])
        ∙ sym (ap (λ b. with_terms (map (tree a) out) (only_if b (tree a t))) e ∙ with_term-new (map (tree a) out) (tree a t) (sym (has-trees a ok t out t_in h) ∙ (sym (same t) ∙ k))));
    same = λ u. ap (list_any (same_id u)) f ∙ (members-more known out t same u ∙ sym (ap (list_any (same_id u)) g));
    in_range = subst (AllBelow (length a.nodes)) (sym g) (AllBelow-append (length a.nodes) out (t ∷ []) h (t_in, tt));
  }

  pub added-more : (ts : List TermId) (i : ℕ) (d : TermId) (out known' out' : List TermId) (goal : List Term) → i < length ts
      → IsAdded a (get_or ts i d) out known' out' → added a out (drop i ts) ≡ goal → added a out' (drop (i + 1) ts) ≡ goal
  added-more ts i d out known' out' goal h s e =
      ap (λ xs. with_terms xs (passing (is_atom (is_truth a.shapes a.decls)) (map (tree a) (drop (i + 1) ts)))) s.atoms
      ∙ (sym (with_terms-append (map (tree a) out) (only_if (atom_at (get_or ts i d)) (tree a (get_or ts i d))) (passing (is_atom (is_truth a.shapes a.decls)) (map (tree a) (drop (i + 1) ts))))
      ∙ (ap (added a out) (sym (drop_more ts i d h)) ∙ e))

  -- what is added by the subterms in order are the atoms of the formula
  pub all_added : (out found items more : List TermId) (t : Term) → items ≡ found → map (tree a) found ≡ order (is_connective (is_truth a.shapes a.decls)) t [] → map (tree a) more ≡ added a out items
      → map (tree a) more ≡ with_atoms (is_truth a.shapes a.decls) (map (tree a) out) t
  all_added out found items more t g e f =
      f ∙ (ap (added a out) g ∙ ap (λ xs. with_terms (map (tree a) out) (passing (is_atom (is_truth a.shapes a.decls)) xs)) e ∙ atoms_found (is_truth a.shapes a.decls) (map (tree a) out) t)
