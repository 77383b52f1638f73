-- The atoms of a formula are those among its subterms in order.
use Rattle.std.proofs.Common.{◌≡◌, Bool, true, false, cond, ◌&&◌, not, List, [], ◌∷◌, ◌++◌, refl, sym, ap, ◌∙◌, subst}
use Rattle.std.proofs.lemmas.Bool.{false≢true}
use Rattle.std.proofs.lemmas.List.{append-nil}
use Rattle.spv_logic.specs.declared.operators.Head.{Head}
use Rattle.spv_logic.specs.Terms.{Term, Terms, term, no_terms, terms}
use Rattle.spv_atoms.specs.Atoms.{is_connective, is_truth_value, is_atom, only_if, atoms_in, atoms_in_all, with_term, with_terms, with_atoms}
use Rattle.spv_atoms.specs.Order.{order, order_all, passing}
use Rattle.spv_atoms.proofs.Members.{has, AllIn, has-left, has-last, has-parts, has_one, with_term-known, with_term-new, with_terms-append, with_terms-known, with_terms-has, AllIn-more, AllIn-append, passing-append}

module _ (is_truth : Term → Bool) where
  abbrev enters : Term → Bool
  enters t = is_connective is_truth t

  abbrev atom : Term → Bool
  atom t = is_atom is_truth t

  abbrev pub found : List Term → List Term
  found done = passing atom done

  -- the atoms of each term in the list are in it
  record Complete (done : List Term) : Type 0 where
    atoms : (d : Term) → has done d ≡ true → AllIn (found done) (atoms_in is_truth d)

  complete_nothing : Complete []
  complete_nothing = record { atoms = λ d h. absurd (false≢true h) }

  found-more : (done : List Term) (t u : Term) → has (found done) u ≡ true → has (found (with_term done t)) u ≡ true
  found-more done t u h = by_case (has done t)
    where
      by_case : (b : Bool) → has (found (cond b done (done ++ t ∷ []))) u ≡ true
      by_case true = h
      by_case false = subst (λ (xs : List Term). has xs u ≡ true) (sym (passing-append atom done (t ∷ []))) (has-left (found done) (found (t ∷ [])) u h)

  -- a term whose atoms are found is put last
  complete_with : (done : List Term) (t : Term) → Complete done → AllIn (found (with_term done t)) (atoms_in is_truth t) → Complete (with_term done t)
  complete_with done t h k = by_case (has done t) refl k (λ u. found-more done t u)
    where
      by_case : (b : Bool) → has done t ≡ b → AllIn (found (with_term done t)) (atoms_in is_truth t) → ((u : Term) → has (found done) u ≡ true → has (found (with_term done t)) u ≡ true) → Complete (with_term done t)
      by_case true e k more = subst Complete (sym (with_term-known done t e)) h
      by_case false e k more = record {
        atoms = λ d g. has-parts done (t ∷ []) d (subst (λ (xs : List Term). has xs d ≡ true) (with_term-new done t e) g)
            (λ in_done. AllIn-more (found done) (found (with_term done t)) (atoms_in is_truth d) more (h.atoms d in_done))
            (λ last. subst (λ x. AllIn (found (with_term done t)) (atoms_in is_truth x)) (sym (has_one d t last)) k);
      }

  leaf_atoms : (h : Head) (ts : Terms) → enters (term h ts) ≡ false → atoms_in is_truth (term h ts) ≡ only_if (atom (term h ts)) (term h ts)
  leaf_atoms h ts e = ap (λ b. cond b (atoms_in_all is_truth ts) (only_if (atom (term h ts)) (term h ts))) e

  inner_atoms : (h : Head) (ts : Terms) → enters (term h ts) ≡ true → atoms_in is_truth (term h ts) ≡ atoms_in_all is_truth ts
  inner_atoms h ts e = ap (λ b. cond b (atoms_in_all is_truth ts) (only_if (atom (term h ts)) (term h ts))) e

  -- a connective is no atom
  no_atom : (t : Term) → enters t ≡ true → atom t ≡ false
  no_atom t e = ap (λ b. is_truth t && (not b && not (is_truth_value t))) e ∙ never (is_truth t)
    where
      never : (b : Bool) → (b && false) ≡ false
      never true = refl
      never false = refl

  found_one : (done : List Term) (t : Term) → found (done ++ t ∷ []) ≡ found done ++ only_if (atom t) t
  found_one done t = passing-append atom done (t ∷ []) ∙ ap (λ xs. found done ++ xs) (alone (atom t))
    where
      alone : (b : Bool) → only_if b t ++ [] ≡ only_if b t
      alone true = refl
      alone false = refl

  found_same : (done : List Term) (t : Term) → atom t ≡ false → found (with_term done t) ≡ found done
  found_same done t e = by_case (has done t)
    where
      by_case : (b : Bool) → found (cond b done (done ++ t ∷ [])) ≡ found done
      by_case true = refl
      by_case false = found_one done t ∙ (ap (λ b. found done ++ only_if b t) e ∙ append-nil (found done))

  module _ (known : List Term) where
    -- what going to a term finds
    record Finds (done after atoms : List Term) : Type 0 where
      complete : Complete after
      same : with_terms known (found after) ≡ with_terms (with_terms known (found done)) atoms
      all : AllIn (found after) atoms
      more : (u : Term) → has (found done) u ≡ true → has (found after) u ≡ true

    in_both : (done ts : List Term) → AllIn (found done) ts → AllIn (with_terms known (found done)) ts
    in_both done ts h = AllIn-more (found done) (with_terms known (found done)) ts (λ t. with_terms-has known (found done) t) h

    finds_known : (done : List Term) (t : Term) → Complete done → has done t ≡ true → Finds done done (atoms_in is_truth t)
    finds_known done t h e = record {
      complete = h;
      same = sym (with_terms-known (with_terms known (found done)) (atoms_in is_truth t) (in_both done (atoms_in is_truth t) (h.atoms t e)));
      all = h.atoms t e;
      more = λ u g. g;
    }

    all_of_one : (b : Bool) (xs : List Term) (t : Term) → AllIn (xs ++ only_if b t) (only_if b t)
    all_of_one true xs t = (has-last xs t, tt)
    all_of_one false xs t = tt

    finds_leaf : (done : List Term) (h : Head) (ts : Terms) → Complete done → has done (term h ts) ≡ false → enters (term h ts) ≡ false → Finds done (with_term done (term h ts)) (atoms_in is_truth (term h ts))
    finds_leaf done h ts c e f =
        let t = term h ts in
        let after : found (with_term done t) ≡ found done ++ only_if (atom t) t = ap found (with_term-new done t e) ∙ found_one done t in
        let atoms = leaf_atoms h ts f in
        let all : AllIn (found (with_term done t)) (atoms_in is_truth t) =
        subst (λ (xs : List Term). AllIn xs (atoms_in is_truth t)) (sym after) (subst (λ (xs : List Term). AllIn (found done ++ only_if (atom t) t) xs) (sym atoms) (all_of_one (atom t) (found done) t)) in
        record {
          complete = complete_with done t c all;
          same = ap (with_terms known) after ∙ (with_terms-append known (found done) (only_if (atom t) t) ∙ ap (with_terms (with_terms known (found done))) (sym atoms));
          all = all;
          more = λ u. found-more done t u;
        }

    finds_inner : (done middle : List Term) (h : Head) (ts : Terms) → enters (term h ts) ≡ true → Finds done middle (atoms_in_all is_truth ts) → Finds done (with_term middle (term h ts)) (atoms_in is_truth (term h ts))
    finds_inner done middle h ts e f =
        let t = term h ts in
        let after = found_same middle t (no_atom t e) in
        let atoms = inner_atoms h ts e in
        let all : AllIn (found (with_term middle t)) (atoms_in is_truth t) =
        subst (λ (xs : List Term). AllIn xs (atoms_in is_truth t)) (sym after) (subst (λ (xs : List Term). AllIn (found middle) xs) (sym atoms) f.all) in
        record {
          complete = complete_with middle t f.complete all;
          same = ap (with_terms known) after ∙ (f.same ∙ ap (with_terms (with_terms known (found done))) (sym atoms));
          all = all;
          more = λ u g. found-more middle t u (f.more u g);
        }

    finds_both : (done middle after xs ys : List Term) → Finds done middle xs → Finds middle after ys → Finds done after (xs ++ ys)
    finds_both done middle after xs ys f g = record {
      complete = g.complete;
      same = g.same ∙ (ap (λ zs. with_terms zs ys) f.same ∙ sym (with_terms-append (with_terms known (found done)) xs ys));
      all = AllIn-append (found after) xs ys (AllIn-more (found middle) (found after) xs g.more f.all) g.all;
      more = λ u h. g.more u (f.more u h);
    }

    by_tests : (h : Head) (ts : Terms) (done middle : List Term) (a b : Bool) → has done (term h ts) ≡ a → enters (term h ts) ≡ b → Complete done
        → Finds done middle (atoms_in_all is_truth ts) → Finds done (cond a done (with_term (cond b middle done) (term h ts))) (atoms_in is_truth (term h ts))
    by_tests h ts done middle true b e f c all = finds_known done (term h ts) c e
    by_tests h ts done middle false true e f c all = finds_inner done middle h ts f all
    by_tests h ts done middle false false e f c all = finds_leaf done h ts c e f

    mutual
      finds : (t : Term) (done : List Term) → Complete done → Finds done (order enters t done) (atoms_in is_truth t)
      finds (term h ts) done c = by_tests h ts done (order_all enters ts done) (has done (term h ts)) (enters (term h ts)) refl refl c (finds_all ts done c)

      finds_all : (ts : Terms) (done : List Term) → Complete done → Finds done (order_all enters ts done) (atoms_in_all is_truth ts)
      finds_all no_terms done c = record { complete = c; same = refl; all = tt; more = λ u h. h }
      finds_all (terms t ts) done c =
          let f = finds t done c in
          finds_both done (order enters t done) (order_all enters ts (order enters t done)) (atoms_in is_truth t) (atoms_in_all is_truth ts) f (finds_all ts (order enters t done) f.complete)

    -- the atoms among the subterms in order are those of the formula
    pub atoms_found : (t : Term) → with_terms known (found (order enters t [])) ≡ with_atoms is_truth known t
    atoms_found t = (finds t [] complete_nothing).same
