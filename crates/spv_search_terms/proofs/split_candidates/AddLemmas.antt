-- Terms that are added where they pass a test, over plain variables.
use Rattle.std.proofs.Common.{◌≡◌, ℕ, zero, suc, ◌+◌, ◌<◌, ◌≤◌, Bool, true, false, cond, ◌&&◌, List, [], ◌∷◌, ◌++◌, map, drop, length, slice_get, get_or, refl, sym, ap, ◌∙◌, subst, Some, arith}
use mathlib.Core.Path.{ap₂}
use Rattle.std.specs.List.{flat_map}
use Rattle.std.proofs.lemmas.Bool.{false≢true}
use Rattle.std.proofs.lemmas.List.{append-nil, append_assoc, drop_more}
use Rattle.std.proofs.lemmas.Option.{slice_get-get_or}
use Rattle.spv_logic.specs.declared.conditions.TermId.{TermId}
use Rattle.spv_logic.specs.Terms.{Term, term_eq}
use Rattle.spv_logic.proofs.Equality.{term_eq-true, term_eq-refl}
use Rattle.spv_term.specs.declared.nodes.Node.{Node}
use Rattle.spv_term.specs.Arena.{Arena, IsArena, AllBelow, tree, trees}
use Rattle.spv_term.proofs.ArenaLemmas.{tree-node}
use Rattle.spv_term.proofs.TreeLemmas.{AllBelow-at}
use Rattle.spv_atoms.specs.Atoms.{only_if, with_terms}
use Rattle.spv_atoms.specs.Order.{passing, with_id}
use Rattle.spv_atoms.proofs.Members.{has, or_left, or_right, or_cases, has-parts, has_one, with_term-new, with_terms-append, passing-append}
use Rattle.spv_atoms.proofs.Walks.{with_id-trees, with_id-in}
use Rattle.spv_tableau_rules.proofs.pivots.Algebra.{false_of}
use Rattle.spv_models.specs.leaf_models.Atoms.{is_open}
use Rattle.spv_models.specs.leaf_models.Subterms.{subterms, list_of, arguments, is_plain, truth_arguments}
use Rattle.spv_models.proofs.leaf_models.Once.{subterms-once}
use Rattle.spv_search_terms.specs.split_candidates.Adding.{is_asked, asked_of}

-- ---- one term

module _ (a : Arena) (ok : IsArena a) (t : TermId) (t_in : t.0 < length a.nodes) (out more : List TermId) (below : AllBelow (length a.nodes) out) (wanted : Bool) (add : more ≡ cond wanted (with_id out t) out) where
  pub added_one : (rest : List Term) → with_terms (map (tree a) more) rest ≡ with_terms (map (tree a) out) (only_if wanted (tree a t) ++ rest)
  added_one rest = ap (λ us. with_terms (map (tree a) us) rest) add ∙ by_case wanted
    where
      by_case : (b : Bool) → with_terms (map (tree a) (cond b (with_id out t) out)) rest ≡ with_terms (map (tree a) out) (only_if b (tree a t) ++ rest)
      by_case true = ap (λ xs. with_terms xs rest) (with_id-trees a ok out t t_in below)
      by_case false = refl

  pub added_in : AllBelow (length a.nodes) more
  added_in = subst (AllBelow (length a.nodes)) (sym add) (by_case wanted)
    where
      by_case : (b : Bool) → AllBelow (length a.nodes) (cond b (with_id out t) out)
      by_case true = with_id-in a ok out t t_in below
      by_case false = below

-- ---- loops

pub item_in : (n : ℕ) (ids : List TermId) (i : ℕ) (d : TermId) → AllBelow n ids → i < length ids → (get_or ids i d).0 < n
item_in n ids i d h below = AllBelow-at n ids i (get_or ids i d) h (slice_get-get_or ids i d below)

-- what the rest adds is what all of them do
pub record Adding (a : Arena) (out : List TermId) (rest goal : List Term) : Type 0 where
  pub same : with_terms (map (tree a) out) rest ≡ goal
  pub in_range : AllBelow (length a.nodes) out

pub adding_starts : (a : Arena) (out : List TermId) (all : List Term) → AllBelow (length a.nodes) out → Adding a out all (with_terms (map (tree a) out) all)
adding_starts a out all h = record { same = refl; in_range = h }

module _ (a : Arena) (ok : IsArena a) (found : List TermId) (inside : AllBelow (length a.nodes) found) (i : ℕ) (d : TermId) (low : i < length found) (out more : List TermId) (goal : List Term) where
  abbrev item : TermId
  item = get_or found i d

  abbrev behind : List Term
  behind = map (tree a) (drop (i + 1) found)

  here : map (tree a) (drop i found) ≡ tree a item ∷ behind
  here = ap (map (tree a)) (drop_more found i d low)

  pub passing_next : (test : Term → Bool) → Adding a out (passing test (map (tree a) (drop i found))) goal → (wanted : Bool) → wanted ≡ test (tree a item) → more ≡ cond wanted (with_id out item) out → Adding a more (passing test behind) goal
  passing_next test before wanted is add =
      let t_in = item_in (length a.nodes) found i d inside low in
      record {
        same =
            added_one a ok item t_in out more before.in_range wanted add (passing test behind)
            ∙ (ap (λ b. with_terms (map (tree a) out) (only_if b (tree a item) ++ passing test behind)) is ∙ (ap (λ xs. with_terms (map (tree a) out) (passing test xs)) (sym here) ∙ before.same));
        in_range = added_in a ok item t_in out more before.in_range wanted add;
      }

  pub each_next : (f : Term → List Term) → Adding a out (flat_map f (map (tree a) (drop i found))) goal → map (tree a) more ≡ with_terms (map (tree a) out) (f (tree a item)) → AllBelow (length a.nodes) more → Adding a more (flat_map f behind) goal
  each_next f before is inside_more = record {
    same =
        ap (λ xs. with_terms xs (flat_map f behind)) is
        ∙ (sym (with_terms-append (map (tree a) out) (f (tree a item)) (flat_map f behind)) ∙ (ap (λ xs. with_terms (map (tree a) out) (flat_map f xs)) (sym here) ∙ before.same));
    in_range = inside_more;
  }

drop_end : {A : Type 0} (xs : List A) (i : ℕ) → length xs ≤ i → drop i xs ≡ []
drop_end [] zero h = refl
drop_end [] (suc i) h = refl
drop_end (x ∷ xs) zero h = absurd (omega (arith, h))
drop_end (x ∷ xs) (suc i) h = drop_end xs i (omega (arith, h))

pub passing_ends : (a : Arena) (test : Term → Bool) (found out : List TermId) (i : ℕ) (goal : List Term) → length found ≤ i → Adding a out (passing test (map (tree a) (drop i found))) goal → map (tree a) out ≡ goal
passing_ends a test found out i goal over d = ap (λ xs. with_terms (map (tree a) out) (passing test (map (tree a) xs))) (sym (drop_end found i over)) ∙ d.same

pub each_ends : (a : Arena) (f : Term → List Term) (found out : List TermId) (i : ℕ) (goal : List Term) → length found ≤ i → Adding a out (flat_map f (map (tree a) (drop i found))) goal → map (tree a) out ≡ goal
each_ends a f found out i goal over d = ap (λ xs. with_terms (map (tree a) out) (flat_map f (map (tree a) xs))) (sym (drop_end found i over)) ∙ d.same

-- ---- arguments of sort Bool

list_of-trees : (a : Arena) (ts : List TermId) → list_of (trees a ts) ≡ map (tree a) ts
list_of-trees a [] = refl
list_of-trees a (t ∷ ts) = ap (λ us. tree a t ∷ us) (list_of-trees a ts)

module _ (a : Arena) (ok : IsArena a) (t : TermId) (n : Node) (at : slice_get a.nodes t.0 ≡ Some n) where
  pub arguments-are : (args : List TermId) → args ≡ n.args → map (tree a) args ≡ arguments (tree a t)
  arguments-are args e = ap (map (tree a)) e ∙ (sym (list_of-trees a n.args) ∙ ap arguments (sym (tree-node a ok t n at)))

pub asked_plain : (truth : Term → Bool) (x : Term) → is_plain truth x ≡ true → asked_of truth x ≡ passing (is_asked truth) (arguments x)
asked_plain truth x e = ap (λ b. cond b (passing (is_asked truth) (arguments x)) []) e

pub asked_none : (truth : Term → Bool) (x : Term) → is_plain truth x ≡ false → asked_of truth x ≡ []
asked_none truth x e = ap (λ b. cond b (passing (is_asked truth) (arguments x)) []) e

twice : (p q : Term → Bool) (xs : List Term) → passing q (passing p xs) ≡ passing (λ t. p t && q t) xs
twice p q [] = refl
twice p q (x ∷ xs) = by_case (p x) (twice p q xs)
  where
    by_case : (b : Bool) → passing q (passing p xs) ≡ passing (λ t. p t && q t) xs → passing q (only_if b x ++ passing p xs) ≡ only_if (b && q x) x ++ passing (λ t. p t && q t) xs
    by_case true e = ap (λ ys. only_if (q x) x ++ ys) e
    by_case false e = e

module _ (truth : Term → Bool) where
  abbrev wanted_of : List Term → List Term
  wanted_of xs = passing is_open (passing truth xs)

  abbrev later_of : List Term → List Term
  later_of ts = flat_map arguments (passing (is_plain truth) ts)

  pub asked-is : (ts : List Term) → flat_map (asked_of truth) ts ≡ passing is_open (truth_arguments truth ts)
  asked-is [] = refl
  asked-is (t ∷ ts) = by_case (is_plain truth t) (asked-is ts)
    where
      by_case : (b : Bool) → flat_map (asked_of truth) ts ≡ wanted_of (later_of ts)
          → (cond b (passing (is_asked truth) (arguments t)) [] ++ flat_map (asked_of truth) ts) ≡ wanted_of (flat_map arguments (only_if b t ++ passing (is_plain truth) ts))
      by_case true e =
          ap₂ ◌++◌ (sym (twice truth is_open (arguments t))) e
          ∙ (sym (passing-append is_open (passing truth (arguments t)) (passing truth (later_of ts))) ∙ ap (passing is_open) (sym (passing-append truth (arguments t) (later_of ts))))
      by_case false e = e

-- ---- no subterm comes twice

abbrev AreDistinct : List Term → Type 0
AreDistinct [] = Unit {0}
AreDistinct (t ∷ ts) = (has ts t ≡ false) × AreDistinct ts

record IsAt (xs : List Term) (x : Term) : Type 0 where
  place : ℕ
  at : slice_get xs place ≡ Some x

at_place : (xs : List Term) (x : Term) → has xs x ≡ true → IsAt xs x
at_place [] x h = absurd (false≢true h)
at_place (y ∷ ys) x h =
    or_cases (term_eq x y) (has ys x) h (λ e. record { place = zero; at = ap Some (sym (term_eq-true x y e)) }) (λ e. let p = at_place ys x e in record { place = suc p.place; at = p.at })

zero_not_suc : (n : ℕ) → zero ≡ suc n → ⊥
zero_not_suc n e = omega (arith)

suc_same : (m n : ℕ) → suc m ≡ suc n → m ≡ n
suc_same m n e = omega (arith)

from_once : (ts : List Term) → ((i j : ℕ) (t : Term) → slice_get ts i ≡ Some t → slice_get ts j ≡ Some t → i ≡ j) → AreDistinct ts
from_once [] once = tt
from_once (t ∷ ts) once = (
  false_of (has ts t) (λ h. let p = at_place ts t h in zero_not_suc p.place (once zero (suc p.place) t refl p.at)),
  from_once ts (λ i j u e f. suc_same i j (once (suc i) (suc j) u e f)),
)

fill : (test : Term → Bool) (ts xs : List Term) → AreDistinct ts → ((u : Term) → has ts u ≡ true → has xs u ≡ false) → with_terms xs (passing test ts) ≡ xs ++ passing test ts
fill test [] xs d fresh = sym (append-nil xs)
fill test (t ∷ ts) xs d fresh =
    by_case (test t) (fill test ts (xs ++ t ∷ []) d.1 still) (fill test ts xs d.1 (λ u h. fresh u (or_right (term_eq u t) (has ts u) h)))
  where
    new_one : has xs t ≡ false
    new_one = fresh t (or_left (term_eq t t) (has ts t) (term_eq-refl t))

    still : (u : Term) → has ts u ≡ true → has (xs ++ t ∷ []) u ≡ false
    still u h =
        false_of (has (xs ++ t ∷ []) u)
        (λ k. has-parts xs (t ∷ []) u k (λ l. false≢true (sym (fresh u (or_right (term_eq u t) (has ts u) h)) ∙ l)) (λ l. false≢true (sym d.0 ∙ (ap (has ts) (sym (has_one u t l)) ∙ h))))

    by_case : (b : Bool) → with_terms (xs ++ t ∷ []) (passing test ts) ≡ (xs ++ t ∷ []) ++ passing test ts → with_terms xs (passing test ts) ≡ xs ++ passing test ts
        → with_terms xs (only_if b t ++ passing test ts) ≡ xs ++ (only_if b t ++ passing test ts)
    by_case true e f = ap (λ ys. with_terms ys (passing test ts)) (with_term-new xs t new_one) ∙ (e ∙ append_assoc xs (t ∷ []) (passing test ts))
    by_case false e f = f

pub passing-alone : (test : Term → Bool) (fs : List Term) → with_terms [] (passing test (subterms fs)) ≡ passing test (subterms fs)
passing-alone test fs = fill test (subterms fs) [] (from_once (subterms fs) (subterms-once fs)) (λ u h. refl)
