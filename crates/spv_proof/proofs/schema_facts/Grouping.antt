-- Links that are grouped by their terms and then by their numbers.
use Rattle.std.proofs.Common.{◌≡◌, ℕ, ◌+◌, ◌<◌, length, take, get_or, Bool, true, false, ◌&&◌, cond, List, [], ◌∷◌, ◌++◌, map, filter, refl, sym, ap, ◌∙◌, if◌then◌else◌}
use Rattle.std.specs.List.{list_any, flat_map}
use Rattle.std.proofs.lemmas.List.Elements.{filter-append}
use Rattle.std.proofs.lemmas.List.{map-append, flat_map_more, take_more}
use Rattle.spv_logic.specs.declared.conditions.TermId.{TermId}
use Rattle.spv_proof.specs.declared.schema_facts.groups.Link.{Link}
use Rattle.spv_proof.specs.schema_facts.Groups.{has_key, has_member, is_linked, OnceEach}

abbrev members : List Link → List TermId
members links = map (λ l. l.member) links

passing : {X : Type 0} (x : X) (both : List X) (p q : Bool) (rest : List X) → rest ≡ both → cond q (cond p (x ∷ rest) rest) rest ≡ cond (p && q) (x ∷ both) both
passing x both true true rest e = ap (λ ys. x ∷ ys) e
passing x both false true rest e = e
passing x both true false rest e = e
passing x both false false rest e = e

under : {X : Type 0} (p : X → Bool) (x : X) (xs : List X) (b : Bool) → filter p (cond b (x ∷ xs) xs) ≡ cond b (cond (p x) (x ∷ filter p xs) (filter p xs)) (filter p xs)
under p x xs true = refl
under p x xs false = refl

-- a filter of a filter passes what passes both
twice : {X : Type 0} (p q : X → Bool) (xs : List X) → filter p (filter q xs) ≡ filter (λ x. p x && q x) xs
twice p q [] = refl
twice p q (x ∷ xs) = under p x (filter q xs) (q x) ∙ passing x (filter (λ y. p y && q y) xs) (p x) (q x) (filter p (filter q xs)) (twice p q xs)

-- a number has a term once, where a link says so
one_link : (links : List Link) → OnceEach links → (q : ℕ) (t : TermId) → members (filter (has_key q) (filter (has_member t.0) links)) ≡ cond (list_any (is_linked q t) links) (t ∷ []) []
one_link links once q t =
    let l : Link = record { key = q; member = t } in
    ap members (twice (has_key q) (has_member t.0) links ∙ once l) ∙ by_case (list_any (is_linked q t) links)
  where
    by_case : (b : Bool) → members (if b then record { key = q; member = t } ∷ [] else []) ≡ cond b (t ∷ []) []
    by_case true = refl
    by_case false = refl

pub joined : {X A : Type 0} (f : X → List A) (xs : List X) (i : ℕ) (d : X) → i < length xs → (ys zs : List A) → ys ≡ flat_map f (take i xs) → zs ≡ ys ++ f (get_or xs i d) → zs ≡ flat_map f (take (i + 1) xs)
joined f xs i d h ys zs before after =
    after ∙ (ap (λ us. us ++ f (get_or xs i d)) before ∙ (flat_map_more f [] (take i xs) (get_or xs i d) ∙ ap (flat_map f) (sym (take_more xs i d h))))

pub grouped : (links : List Link) → OnceEach links → (q : ℕ) (ts : List TermId)
    → members (filter (has_key q) (flat_map (λ t. filter (has_member t.0) links) ts)) ≡ filter (λ t. list_any (is_linked q t) links) ts
grouped links once q [] = refl
grouped links once q (t ∷ ts) =
    ap members (filter-append (has_key q) (filter (has_member t.0) links) (flat_map (λ u. filter (has_member u.0) links) ts))
    ∙ map-append (λ l. l.member) (filter (has_key q) (filter (has_member t.0) links)) (filter (has_key q) (flat_map (λ u. filter (has_member u.0) links) ts))
    ∙ (λ i. one_link links once q t i ++ grouped links once q ts i)
    ∙ by_case (list_any (is_linked q t) links) (filter (λ u. list_any (is_linked q u) links) ts)
  where
    by_case : (b : Bool) (rest : List TermId) → cond b (t ∷ []) [] ++ rest ≡ cond b (t ∷ rest) rest
    by_case true rest = refl
    by_case false rest = refl
