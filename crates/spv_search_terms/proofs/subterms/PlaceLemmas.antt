-- What stands beside ids in order.
use Rattle.std.proofs.Common.{◌≡◌, ℕ, zero, suc, ◌+◌, ◌<◌, ◌≤◌, Bool, true, false, ◌||◌, List, [], ◌∷◌, ◌++◌, map, take, length, slice_get, get_or, unwrap_or, refl, sym, ap, ◌∙◌, subst, Option, Some, arith}
use Rattle.std.specs.List.{list_any, position}
use Rattle.std.specs.Option.{option_map}
use Rattle.std.proofs.lemmas.Bool.{false≢true}
use Rattle.std.proofs.lemmas.List.{length-take-le, length-map}
use Rattle.std.proofs.lemmas.Option.{slice_get-get_or, slice_get-map, same_Some}
use Rattle.spv_logic.specs.declared.conditions.TermId.{TermId}
use Rattle.spv_term.specs.Arena.{AllBelow}
use Rattle.spv_term.proofs.ListLemmas.{slice_get-take}
use Rattle.spv_term.proofs.TreeLemmas.{AllBelow-at}
use Rattle.spv_atoms.specs.Found.{IsReady, AreReady}
use Rattle.spv_atoms.specs.Order.{same_id}
use Rattle.spv_atoms.proofs.Places.{place_there, place_below, place_of}
use Rattle.spv_models.proofs.leaf_models.Values.{some-is}
use Rattle.spv_search_terms.specs.subterms.Flags.{found_at, beside}

-- an item stands beside an id
pub record IsThere {A : Type 0} (d : A) (ids : List TermId) (xs : List A) (t : TermId) : Type 0 where
  pub place : ℕ
  pub item : A
  pub below : place < length xs
  pub id_there : slice_get ids place ≡ Some t
  pub item_there : slice_get xs place ≡ Some item
  pub is : beside d ids xs t ≡ item

pub there : {A : Type 0} (d : A) (ids : List TermId) (xs : List A) (t : TermId) → IsReady ids (length xs) t → IsThere d ids xs t
there d ids xs t ready =
    let o : Option ℕ = position (same_id t) ids in
    let s = some-is (position (same_id t) ids) (place_there t ids (length xs) (position (same_id t) ids) ready refl) in
    let low = place_below t ids (length xs) (position (same_id t) ids) ready refl s.item s.is in
    let at = slice_get-get_or xs s.item d low in
    record {
      place = s.item;
      item = get_or xs s.item d;
      below = low;
      id_there = place_of t ids (length xs) (position (same_id t) ids) ready refl s.item s.is;
      item_there = at;
      is = ap (found_at d xs) s.is ∙ ap (λ p. unwrap_or p d) at;
    }

-- beside the first ids stand the values of a function
pub beside-value : {A : Type 0} (f : TermId → A) (d : A) (ids : List TermId) (xs : List A) (t : TermId) → IsReady ids (length xs) t → xs ≡ map f (take (length xs) ids) → beside d ids xs t ≡ f t
beside-value {A} f d ids xs t ready e =
    let p = there d ids xs t ready in
    let at : slice_get xs p.place ≡ Some (f t) =
    ap (λ (ys : List A). slice_get ys p.place) e
    ∙ (slice_get-map f (take (length xs) ids) p.place ∙ ap (option_map f) (slice_get-take ids p.place (length xs) p.below ∙ p.id_there)) in
    p.is ∙ same_Some p.item (f t) (sym p.item_there ∙ at)

pub beside-values : {A : Type 0} (f : TermId → A) (d : A) (ids : List TermId) (xs : List A) (ts : List TermId) → AreReady ids (length xs) ts → xs ≡ map f (take (length xs) ids) → map (beside d ids xs) ts ≡ map f ts
beside-values f d ids xs [] ready e = refl
beside-values f d ids xs (t ∷ ts) ready e =
    let first = beside-value f d ids xs t ready.0 e in
    let others = beside-values f d ids xs ts ready.1 e in
    λ i. first i ∷ others i

-- what stands among the first ids stands among more of them
pub ready-more : (ids : List TermId) (i k : ℕ) (t : TermId) → i ≤ k → IsReady ids i t → IsReady ids k t
ready-more [] zero k t h r = absurd (false≢true r)
ready-more [] (suc i) k t h r = absurd (false≢true r)
ready-more (u ∷ ids) zero k t h r = absurd (false≢true r)
ready-more (u ∷ ids) (suc i) zero t h r = absurd (omega (arith, h))
ready-more (u ∷ ids) (suc i) (suc k) t h r = by_case (same_id t u) r (λ s. ready-more ids i k t (omega (arith, h)) s)
  where
    by_case : (b : Bool) → (b || list_any (same_id t) (take i ids)) ≡ true → (IsReady ids i t → IsReady ids k t) → (b || list_any (same_id t) (take k ids)) ≡ true
    by_case true s later = refl
    by_case false s later = later s

pub all-ready-more : (ids : List TermId) (i k : ℕ) (ts : List TermId) → i ≤ k → AreReady ids i ts → AreReady ids k ts
all-ready-more ids i k [] h r = tt
all-ready-more ids i k (t ∷ ts) h r = (ready-more ids i k t h r.0, all-ready-more ids i k ts h r.1)

-- one item more
take_suc : {A : Type 0} (xs : List A) (i : ℕ) (d : A) → i < length xs → take (suc i) xs ≡ take i xs ++ get_or xs i d ∷ []
take_suc [] i d h = absurd (omega (arith, h))
take_suc (x ∷ xs) zero d h = refl
take_suc (x ∷ xs) (suc i) d h = ap (λ ys. x ∷ ys) (take_suc xs i d (omega (arith, h)))

pub take_next : {A : Type 0} (xs : List A) (i : ℕ) (d : A) → i < length xs → take (i + 1) xs ≡ take i xs ++ get_or xs i d ∷ []
take_next xs i d h = let next : i + 1 ≡ suc i = omega (arith) in ap (λ n. take n xs) next ∙ take_suc xs i d h

pub map_next : {A B : Type 0} (f : A → B) (xs : List A) (i : ℕ) (d : A) → i < length xs → map f (take (i + 1) xs) ≡ map f (take i xs) ++ f (get_or xs i d) ∷ []
map_next f xs i d h = ap (map f) (take_next xs i d h) ∙ map_last f (take i xs) (get_or xs i d)
  where
    map_last : {A B : Type 0} (f : A → B) (ys : List A) (y : A) → map f (ys ++ y ∷ []) ≡ map f ys ++ f y ∷ []
    map_last f [] y = refl
    map_last f (z ∷ ys) y = ap (λ zs. f z ∷ zs) (map_last f ys y)

pub counted : {A : Type 0} (f : TermId → A) (ids : List TermId) (xs : List A) (i : ℕ) → xs ≡ map f (take i ids) → i ≤ length ids → length xs ≡ i
counted f ids xs i e h = ap length e ∙ (length-map (take i ids) f ∙ length-take-le i ids h)

pub first_so_many : {A : Type 0} (f : TermId → A) (ids : List TermId) (xs : List A) (i : ℕ) → xs ≡ map f (take i ids) → i ≤ length ids → xs ≡ map f (take (length xs) ids)
first_so_many f ids xs i e h = e ∙ ap (λ n. map f (take n ids)) (sym (counted f ids xs i e h))

-- ---- items of a loop

pub item_in : (n : ℕ) (ids items : List TermId) (i : ℕ) (d : TermId) → items ≡ ids → AllBelow n ids → i < length items → (get_or items i d).0 < n
item_in n ids items i d same h below = AllBelow-at n items i (get_or items i d) (subst (AllBelow n) (sym same) h) (slice_get-get_or items i d below)

pub item_at : (ids items : List TermId) (i : ℕ) (d : TermId) → items ≡ ids → i < length items → slice_get ids i ≡ Some (get_or items i d)
item_at ids items i d same below = ap (λ (xs : List TermId). slice_get xs i) (sym same) ∙ slice_get-get_or items i d below

pub item_next : {A : Type 0} (f : TermId → A) (ids items : List TermId) (i : ℕ) (d : TermId) (xs more : List A) (x : A) → items ≡ ids → i < length items → xs ≡ map f (take i ids) → x ≡ f (get_or items i d) → more ≡ xs ++ x ∷ [] → more ≡ map f (take (i + 1) ids)
item_next f ids items i d xs more x same below e is add =
    add ∙ (λ j. e j ++ is j ∷ [])
    ∙ (ap (λ (ys : List TermId). map f (take i ys) ++ f (get_or items i d) ∷ []) (sym same) ∙ (sym (map_next f items i d below) ∙ ap (λ (ys : List TermId). map f (take (i + 1) ys)) same))

pub low : (ids items : List TermId) (i : ℕ) → items ≡ ids → i < length items → i ≤ length ids
low ids items i same below = let e : length items ≡ length ids = ap length same in omega (arith, e, below)
