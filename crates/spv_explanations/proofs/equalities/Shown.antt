-- Pairs of terms with the numbers of their equations.
use Rattle.std.proofs.Common.{◌≡◌, ℕ, ◌+◌, ◌<◌, Bool, true, false, cond, ◌&&◌, List, [], ◌∷◌, ◌++◌, length, Option, Some, slice_get, get_or, take, refl, sym, ap, ◌∙◌, subst}
use Rattle.std.proofs.lemmas.List.{take_more}
use Rattle.std.proofs.lemmas.Bool.{false≢true, eqb-true}
use Rattle.indexmap.specs.IndexMap.{insert_entry}
use Rattle.spv_logic.specs.declared.conditions.TermId.{TermId}
use Rattle.spv_logic.specs.Terms.{Term}
use Rattle.spv_logic.specs.Formulas.{equation}
use Rattle.spv_logic.proofs.Equality.{term_eq-refl}
use Rattle.spv_term.specs.Arena.{Arena, tree, trees}
use Rattle.spv_atoms.specs.Order.{same_id}
use Rattle.spv_proof_rules.specs.Effects.{all_equal, is_fact}
use Rattle.spv_derivations.specs.declared.derivation.entries.Entry.{Entry}
use Rattle.spv_derivations.specs.derivation.Derivation.{fact_at, facts}
use Rattle.spv_derivations.proofs.derivation.Growth.{fact_at-more}
use Rattle.spv_explanations.specs.declared.equalities.known.Pair.{Pair}
use Rattle.spv_explanations.specs.equalities.Reasons.{Equates, GoesOn}
use Rattle.spv_explanations.specs.equalities.Known.{pair, same_pair, number_of, AreBeside, AreShown, NumbersOf}

same_ids : (t u : TermId) → same_id t u ≡ true → t ≡ u
same_ids t u e = ap (λ (k : ℕ). record { 0 = k }) (eqb-true t.0 u.0 e)

same_pairs : (p q : Pair) → same_pair p q ≡ true → p ≡ q
same_pairs p q h = both (same_id p.left q.left) (same_id p.right q.right) refl refl h
  where
    both : (b d : Bool) → same_id p.left q.left ≡ b → same_id p.right q.right ≡ d → (b && d) ≡ true → p ≡ q
    both true true e f g = λ i. record { left = same_ids p.left q.left e i; right = same_ids p.right q.right f i }
    both true false e f g = absurd (false≢true g)
    both false d e f g = absurd (false≢true g)

-- ---- look-ups

module _ (a : Arena) where
  pub equates-more : (old new : List Entry) (n : ℕ) (s t : TermId) → GoesOn old new → Equates a old n s t → Equates a new n s t
  equates-more old new n s t g h = ap (λ es. fact_at a es n) g.is ∙ fact_at-more a old g.more n (equation (tree a s) (tree a t)) h

  pub shown-more : (old new : List Entry) (known : List (Pair × ℕ)) → GoesOn old new → AreShown a old known → AreShown a new known
  shown-more old new [] g h = tt
  shown-more old new (p ∷ known) g h = (equates-more old new p.1 p.0.left p.0.right g h.0, shown-more old new known g h.1)

  module _ (es : List Entry) where
    equates-pair : (n : ℕ) (p q : Pair) → p ≡ q → Equates a es n q.left q.right → Equates a es n p.left p.right
    equates-pair n p q e h = h ∙ ap Some (λ i. equation (tree a (sym e i).left) (tree a (sym e i).right))

    pub shown-at : (known : List (Pair × ℕ)) (s t : TermId) (n : ℕ) → AreShown a es known → number_of known s t ≡ Some n → Equates a es n s t
    shown-at [] s t n h e = absurd (cc)
    shown-at (p ∷ known) s t n h e = by_case (same_pair (pair s t) p.0) refl e (λ f. shown-at known s t n h.1 f)
      where
        by_case : (b : Bool) → same_pair (pair s t) p.0 ≡ b → cond b (Some p.1) (number_of known s t) ≡ Some n
            → (number_of known s t ≡ Some n → Equates a es n s t) → Equates a es n s t
        by_case true f g rest =
            let same : p.1 ≡ n = cc in
            ap (fact_at a es) (sym same) ∙ equates-pair p.1 (pair s t) p.0 (same_pairs (pair s t) p.0 f) h.0
        by_case false f g rest = rest g

    pub shown-insert : (known : List (Pair × ℕ)) (s t : TermId) (n : ℕ) → AreShown a es known → Equates a es n s t → AreShown a es (insert_entry same_pair known (pair s t) n)
    shown-insert [] s t n h e = (e, tt)
    shown-insert (p ∷ known) s t n h e = by_case (same_pair (pair s t) p.0) refl (shown-insert known s t n h.1 e)
      where
        by_case : (b : Bool) → same_pair (pair s t) p.0 ≡ b → AreShown a es (insert_entry same_pair known (pair s t) n)
            → AreShown a es (cond b ((p.0, n) ∷ known) (p ∷ insert_entry same_pair known (pair s t) n))
        by_case true f rest = (equates-pair n p.0 (pair s t) (sym (same_pairs (pair s t) p.0 f)) e, h.1)
        by_case false f rest = (h.0, rest)

    -- ---- arguments

    fact-is : (o : Option Term) (x : Term) → o ≡ Some x → is_fact o x ≡ true
    fact-is o x e = ap (λ r. is_fact r x) e ∙ term_eq-refl x

    pub arguments-equal : (known : List (Pair × ℕ)) (ss ts : List TermId) (ns : List ℕ) → AreShown a es known → NumbersOf known ss ts ns → all_equal (facts a es) (trees a ss) (trees a ts) ns ≡ true
    arguments-equal known [] [] [] h k = refl
    arguments-equal known [] [] (n ∷ ns) h k = absurd k
    arguments-equal known [] (t ∷ ts) [] h k = absurd k
    arguments-equal known [] (t ∷ ts) (n ∷ ns) h k = absurd k
    arguments-equal known (s ∷ ss) [] [] h k = absurd k
    arguments-equal known (s ∷ ss) [] (n ∷ ns) h k = absurd k
    arguments-equal known (s ∷ ss) (t ∷ ts) [] h k = absurd k
    arguments-equal known (s ∷ ss) (t ∷ ts) (n ∷ ns) h k =
        let one = fact-is (fact_at a es n) (equation (tree a s) (tree a t)) (shown-at known s t n h k.0) in
        let rest = arguments-equal known ss ts ns h k.1 in
        λ i. one i && rest i

pub numbers-push : (known : List (Pair × ℕ)) (ss ts : List TermId) (ns : List ℕ) (s t : TermId) (n : ℕ) → NumbersOf known ss ts ns → number_of known s t ≡ Some n
    → NumbersOf known (ss ++ s ∷ []) (ts ++ t ∷ []) (ns ++ n ∷ [])
numbers-push known [] [] [] s t n h e = (e, tt)
numbers-push known [] [] (m ∷ ns) s t n h e = absurd h
numbers-push known [] (u ∷ ts) [] s t n h e = absurd h
numbers-push known [] (u ∷ ts) (m ∷ ns) s t n h e = absurd h
numbers-push known (r ∷ ss) [] [] s t n h e = absurd h
numbers-push known (r ∷ ss) [] (m ∷ ns) s t n h e = absurd h
numbers-push known (r ∷ ss) (u ∷ ts) [] s t n h e = absurd h
numbers-push known (r ∷ ss) (u ∷ ts) (m ∷ ns) s t n h e = (h.0, numbers-push known ss ts ns s t n h.1 e)

-- one place more
pub numbers-more : (known : List (Pair × ℕ)) (ss ts : List TermId) (ns ms : List ℕ) (i n : ℕ) (d : TermId) → i < length ss → i < length ts → NumbersOf known (take i ss) (take i ts) ns
    → number_of known (get_or ss i d) (get_or ts i d) ≡ Some n → ms ≡ ns ++ n ∷ [] → NumbersOf known (take (i + 1) ss) (take (i + 1) ts) ms
numbers-more known ss ts ns ms i n d h k numbers e is =
    subst (λ xs. NumbersOf known xs (take (i + 1) ts) ms) (sym (take_more ss i d h))
    (subst (λ ys. NumbersOf known (take i ss ++ get_or ss i d ∷ []) ys ms) (sym (take_more ts i d k))
    (subst (λ ks. NumbersOf known (take i ss ++ get_or ss i d ∷ []) (take i ts ++ get_or ts i d ∷ []) ks) (sym is)
    (numbers-push known (take i ss) (take i ts) ns (get_or ss i d) (get_or ts i d) n numbers e)))

pub numbers-is : (known : List (Pair × ℕ)) (ss ts xs ys : List TermId) (ns : List ℕ) → ss ≡ xs → ts ≡ ys → NumbersOf known ss ts ns → NumbersOf known xs ys ns
numbers-is known ss ts xs ys ns e f h = subst (λ zs. NumbersOf known zs ys ns) e (subst (λ zs. NumbersOf known ss zs ns) f h)

pub beside-is : (ss ts xs ys : List TermId) (s t : TermId) → ss ≡ xs → ts ≡ ys → AreBeside ss ts s t → AreBeside xs ys s t
beside-is ss ts xs ys s t e f h = record { place = h.place; left = ap (λ zs. slice_get zs h.place) (sym e) ∙ h.left; right = ap (λ zs. slice_get zs h.place) (sym f) ∙ h.right }
