-- A node takes more room than it leaves.
use Rattle.std.proofs.Common.{◌≡◌, ℕ, zero, suc, ◌+◌, ◌*◌, ◌<◌, ◌≤◌, Bool, true, false, cond, ◌&&◌, List, [], ◌∷◌, ◌++◌, map, length, refl, sym, ap, ◌∙◌, subst, Option, Some, None, arith}
use Rattle.std.proofs.lemmas.Bool.{false≢true}
use Rattle.spv_logic.specs.Terms.{Term, term_eq}
use Rattle.spv_logic.proofs.Equality.{term_eq-true, term_eq-refl}
use Rattle.spv_atoms.proofs.Members.{or_cases, or_left, or_right}
use Rattle.spv_proof_rules.specs.Evaluation.{sides}
use Rattle.spv_proof_rules.specs.Effects.{Question, is_number}
use Rattle.spv_proof_rules.specs.Accepted.{cases_of, cases_by_sides, two_cases, three_cases}
use Rattle.spv_models.specs.leaf_models.Subterms.{is_among}
use Rattle.spv_models.specs.split_trees.Paths.{atoms}
use Rattle.spv_verdicts.specs.declared.answers.growing.Grown.{Grown}
use Rattle.spv_verdicts.specs.declared.answers.growing.Grown.TheVariants as grown
use Rattle.spv_search.specs.branches.Branches.{Branch, part_of, left_by, MayTake}
use Rattle.spv_search.specs.branches.Counts.{one_unless, unsplit, most_nodes, room}

-- ---- atoms that are left

one_unless-up : (n : ℕ) (b : Bool) → n ≤ one_unless b n
one_unless-up n true = omega arith
one_unless-up n false = omega arith

one_unless-both : (m n : ℕ) (b c : Bool) → (b ≡ true → c ≡ true) → m ≤ n → one_unless c m ≤ one_unless b n
one_unless-both m n true true f h = h
one_unless-both m n true false f h = absurd (false≢true (f refl))
one_unless-both m n false true f h = omega (arith, h)
one_unless-both m n false false f h = omega (arith, h)

unsplit-more : (above : List Term) (t : Term) (us : List Term) → unsplit (t ∷ above) us ≤ unsplit above us
unsplit-more above t [] = omega arith
unsplit-more above t (u ∷ us) =
    one_unless-both (unsplit (t ∷ above) us) (unsplit above us) (is_among above u) (is_among (t ∷ above) u) (λ k. or_right (term_eq u t) (is_among above u) k) (unsplit-more above t us)

-- at the atom itself
here : (m n : ℕ) (b c : Bool) → b ≡ false → c ≡ true → m ≤ n → one_unless c m < one_unless b n
here m n b c e f h =
    subst (λ (x : Bool). one_unless c m < one_unless x n) (sym e) (subst (λ (x : Bool). one_unless x m < one_unless false n) (sym f) (next h))
  where
    next : m ≤ n → m < suc n
    next k = omega (arith, k)

-- behind it
there : (m n : ℕ) (b c : Bool) → (b ≡ true → c ≡ true) → m < n → one_unless c m < one_unless b n
there m n true true f h = h
there m n true false f h = absurd (false≢true (f refl))
there m n false true f h = omega (arith, h)
there m n false false f h = omega (arith, h)

pub unsplit-less : (above : List Term) (t : Term) (us : List Term) → is_among us t ≡ true → is_among above t ≡ false → unsplit (t ∷ above) us < unsplit above us
unsplit-less above t [] h n = absurd (false≢true h)
unsplit-less above t (u ∷ us) h n = or_cases (term_eq t u) (is_among us t) h by_first (λ k. by_rest (unsplit-less above t us k n))
  where
    by_first : term_eq t u ≡ true → unsplit (t ∷ above) (u ∷ us) < unsplit above (u ∷ us)
    by_first k =
        let same : t ≡ u = term_eq-true t u k in
        here (unsplit (t ∷ above) us) (unsplit above us) (is_among above u) (is_among (t ∷ above) u) (ap (is_among above) (sym same) ∙ n)
        (or_left (term_eq u t) (is_among above u) (ap (term_eq u) same ∙ term_eq-refl u)) (unsplit-more above t us)

    by_rest : unsplit (t ∷ above) us < unsplit above us → unsplit (t ∷ above) (u ∷ us) < unsplit above (u ∷ us)
    by_rest k = there (unsplit (t ∷ above) us) (unsplit above us) (is_among above u) (is_among (t ∷ above) u) (λ l. or_right (term_eq u t) (is_among above u) l) k

-- ---- nodes

some_nodes : (n : ℕ) → 0 < most_nodes n
some_nodes zero = omega arith
some_nodes (suc n) = omega arith

most-more : (m n : ℕ) → m ≤ n → most_nodes m ≤ most_nodes n
most-more zero n h = some_nodes n
most-more (suc m) zero h = absurd (omega (arith, h))
most-more (suc m) (suc n) h = tripled (most_nodes m) (most_nodes n) (most-more m n (shorter h))
  where
    shorter : suc m ≤ suc n → m ≤ n
    shorter k = omega (arith, k)

    tripled : (a b : ℕ) → a ≤ b → suc (3 * a) ≤ suc (3 * b)
    tripled a b k = omega (arith, k)

most-tripled : (m n : ℕ) → m < n → 3 * most_nodes m < most_nodes n
most-tripled m zero h = absurd (omega (arith, h))
most-tripled m (suc n) h = above (most_nodes m) (most_nodes n) (most-more m n (at_most h))
  where
    at_most : m < suc n → m ≤ n
    at_most k = omega (arith, k)

    above : (a b : ℕ) → a ≤ b → 3 * a < suc (3 * b)
    above a b k = omega (arith, k)

-- ---- branches

few_cases : (q : Question) (t : Term) → length (cases_of q t) ≤ 3
few_cases q t = by_sides (sides t)
  where
    by_number : (st : Term × Term) (b : Bool) → length (cond b (three_cases st) (two_cases t)) ≤ 3
    by_number st true = omega arith
    by_number st false = omega arith

    by_sides : (o : Option (Term × Term)) → length (cases_by_sides (is_number q) o t) ≤ 3
    by_sides None = omega arith
    by_sides (Some st) = by_number st (is_number q st.0 && is_number q st.1)

-- parts of one atom take as much room each
parts_room : (q : Question) (b : Branch) (t : Term) (fs : List Term) (rest : List Branch)
    → room q (map (part_of b t) fs ++ rest) ≡ length fs * most_nodes (unsplit (t ∷ b.above) (atoms q)) + room q rest
parts_room q b t [] rest = no_parts (most_nodes (unsplit (t ∷ b.above) (atoms q))) (room q rest)
  where
    no_parts : (m r : ℕ) → r ≡ zero * m + r
    no_parts m r = omega arith
parts_room q b t (f ∷ fs) rest =
    one_part (length fs) (most_nodes (unsplit (t ∷ b.above) (atoms q))) (room q rest) (room q (map (part_of b t) fs ++ rest)) (parts_room q b t fs rest)
  where
    one_part : (k m r s : ℕ) → s ≡ k * m + r → m + s ≡ suc k * m + r
    one_part k m r s e = omega (arith, e)

fewer : (k m n r : ℕ) → k ≤ 3 → 3 * m < n → k * m + r < n + r
fewer zero m n r h l = omega (arith, l)
fewer (suc zero) m n r h l = omega (arith, l)
fewer (suc (suc zero)) m n r h l = omega (arith, l)
fewer (suc (suc (suc zero))) m n r h l = omega (arith, l)
fewer (suc (suc (suc (suc k)))) m n r h l = absurd (omega (arith, h))

one_less : (m r : ℕ) → 0 < m → r < m + r
one_less m r h = omega (arith, h)

pub less-room : (q : Question) (b : Branch) (rest : List Branch) (n : Grown) → MayTake q b n → room q (left_by q b n ++ rest) < room q (b ∷ rest)
less-room q b rest grown.Open h = one_less (most_nodes (unsplit b.above (atoms q))) (room q rest) (some_nodes (unsplit b.above (atoms q)))
less-room q b rest (grown.Closed steps) h = one_less (most_nodes (unsplit b.above (atoms q))) (room q rest) (some_nodes (unsplit b.above (atoms q)))
less-room q b rest (grown.Split t count) h =
    let parts : ℕ = most_nodes (unsplit (q.at t ∷ b.above) (atoms q)) in
    let whole : ℕ = most_nodes (unsplit b.above (atoms q)) in
    let tripled : 3 * parts < whole = most-tripled (unsplit (q.at t ∷ b.above) (atoms q)) (unsplit b.above (atoms q)) (unsplit-less b.above (q.at t) (atoms q) h.may.is_atom h.may.is_new) in
    subst (λ k. k < whole + room q rest) (sym (parts_room q b (q.at t) (cases_of q (q.at t)) rest))
    (fewer (length (cases_of q (q.at t))) parts whole (room q rest) (few_cases q (q.at t)) tripled)
