-- One link after the other.
use Rattle.std.proofs.Common.{◌≡◌, ℕ, ◌+◌, ◌<◌, Bool, true, false, ◌&&◌, ◌||◌, cond, List, [], ◌∷◌, ◌++◌, map, filter, length, take, get_or, refl, sym, ap, ◌∙◌, nat_eq, Some, None, if◌then◌else◌}
use Rattle.std.proofs.lemmas.Bool.{false≢true, eqb-true}
use Rattle.std.proofs.lemmas.List.{map-append, take_more}
use Rattle.std.proofs.lemmas.List.Elements.{filter-append}
use Rattle.std.proofs.lemmas.List.Folds.{list_any-append}
use Rattle.std.specs.List.{list_any}
use Rattle.indexmap.specs.IndexSet.{insert_key}
use Rattle.spv_logic.specs.declared.conditions.TermId.{TermId}
use Rattle.spv_logic.proofs.list.Tests.{left_true, right_true}
use Rattle.spv_logic.specs.Terms.{Term}
use Rattle.spv_term.specs.Arena.{Arena, AllBelow, tree}
use Rattle.spv_proof.specs.declared.schema_facts.groups.Link.{Link}
use Rattle.spv_proof.specs.declared.schema_facts.relations.Relation.{Relation}
use Rattle.spv_proof.specs.schema_facts.Groups.{OnceEach, is_linked, same_link}
use Rattle.spv_proof.specs.schema_facts.Relations.{Tells, TellsAll, IsKey, says, calls_for}
use Rattle.spv_proof.proofs.schema_facts.Relating.{nat_flip}

same : (l m : Link) → same_link l m ≡ true → l ≡ m
same l m e = (λ i. record { key = eqb-true l.key m.key (left_true (nat_eq l.key m.key) (nat_eq l.member.0 m.member.0) e) i; member = record { 0 = eqb-true l.member.0 m.member.0 (right_true (nat_eq l.key m.key) (nat_eq l.member.0 m.member.0) e) i } })

or_true : (b : Bool) → (b || true) ≡ true
or_true true = refl
or_true false = refl

or_false : (b : Bool) → (b || false) ≡ b
or_false true = refl
or_false false = refl

module _ (links : List Link) (m : Link) where
  -- a link more is found
  pub one_more : (l : Link) → list_any (same_link l) (insert_key same_link links m) ≡ (list_any (same_link l) links || same_link l m)
  one_more l = by_case (list_any (same_link m) links) refl
    where
      there : (b : Bool) → same_link l m ≡ b → list_any (same_link m) links ≡ true → list_any (same_link l) links ≡ (list_any (same_link l) links || b)
      there true k e = (ap (λ x. list_any (same_link x) links) (same l m k) ∙ e) ∙ sym (or_true (list_any (same_link l) links))
      there false k e = sym (or_false (list_any (same_link l) links))

      by_case : (b : Bool) → list_any (same_link m) links ≡ b → list_any (same_link l) (if b then links else links ++ m ∷ []) ≡ (list_any (same_link l) links || same_link l m)
      by_case true e = there (same_link l m) refl e
      by_case false e = list_any-append (same_link l) links (m ∷ []) ∙ ap (λ b. list_any (same_link l) links || b) (or_false (same_link l m))

  -- and stands once
  pub still_once : OnceEach links → OnceEach (insert_key same_link links m)
  still_once once l = by_case (list_any (same_link m) links) refl
    where
      other : (b : Bool) → same_link l m ≡ b → (c : Bool) → list_any (same_link l) links ≡ c → list_any (same_link m) links ≡ false
          → (if c then l ∷ [] else []) ++ cond b (m ∷ []) [] ≡ (if c || (b || false) then l ∷ [] else [])
      other true k true f e = absurd (false≢true (sym e ∙ (sym (ap (λ x. list_any (same_link x) links) (same l m k)) ∙ f)))
      other true k false f e = ap (λ x. x ∷ []) (sym (same l m k))
      other false k true f e = refl
      other false k false f e = refl

      by_case : (b : Bool) → list_any (same_link m) links ≡ b
          → filter (same_link l) (if b then links else links ++ m ∷ []) ≡ (if list_any (same_link l) (if b then links else links ++ m ∷ []) then l ∷ [] else [])
      by_case true e = once l
      by_case false e =
          filter-append (same_link l) links (m ∷ [])
          ∙ ((λ i. once l i ++ cond (same_link l m) (m ∷ []) []) ∙ (other (same_link l m) refl (list_any (same_link l) links) refl e ∙ ap (λ b. if b then l ∷ [] else []) (sym (list_any-append (same_link l) links (m ∷ [])))))

-- a link by its number and its term, either way
pub flipped : (l : Link) (q : ℕ) (t : TermId) → is_linked q t l ≡ says (Some l) q t
flipped l q t = (λ i. nat_flip q l.key i && nat_flip t.0 l.member.0 i)

module _ (a : Arena) (relation : Relation) (used : List TermId) (i : ℕ) (h : i < length used) (links : List Link) (before : TellsAll a relation (take i used) links) (d : TermId) where
  abbrev calls : ℕ → TermId → Term → Bool
  calls q t = calls_for a relation q (tree a t)

  taken : (q : ℕ) (t : TermId) → list_any (calls q t) (map (tree a) (take (i + 1) used)) ≡ (list_any (calls q t) (map (tree a) (take i used)) || calls q t (tree a (get_or used i d)))
  taken q t =
      ap (λ ts. list_any (calls q t) (map (tree a) ts)) (take_more used i d h)
      ∙ (ap (list_any (calls q t)) (map-append (tree a) (take i used) (get_or used i d ∷ [])) ∙ (list_any-append (calls q t) (map (tree a) (take i used)) (tree a (get_or used i d) ∷ [])
      ∙ ap (λ b. list_any (calls q t) (map (tree a) (take i used)) || b) (or_false (calls q t (tree a (get_or used i d))))))

  pub linked_more : (m : Link) → Tells a relation (get_or used i d) (Some m) → TellsAll a relation (take (i + 1) used) (insert_key same_link links m)
  linked_more m tells q t k l =
      one_more links m (record { key = q; member = t })
      ∙ ((λ j. before q t k l j || (flipped m q t ∙ tells q t k l) j) ∙ sym (taken q t))

  pub linked_same : Tells a relation (get_or used i d) None → TellsAll a relation (take (i + 1) used) links
  linked_same tells q t k l =
      before q t k l ∙ (sym (or_false (list_any (calls q t) (map (tree a) (take i used)))) ∙ (ap (λ b. list_any (calls q t) (map (tree a) (take i used)) || b) (tells q t k l) ∙ sym (taken q t)))

-- terms that pass the one test are those that pass the other
agree : (a : Arena) (p q : TermId → Bool) → ((t : TermId) → t.0 < length a.nodes → p t ≡ q t) → (ts : List TermId) → AllBelow (length a.nodes) ts → filter p ts ≡ filter q ts
agree a p q e [] h = refl
agree a p q e (t ∷ ts) h = (λ i. cond (e t h.0 i) (t ∷ agree a p q e ts h.1 i) (agree a p q e ts h.1 i))

pub in_table : (a : Arena) (relation : Relation) (used : List TermId) (links : List Link) → AllBelow (length a.nodes) used → TellsAll a relation used links → (q : ℕ) → IsKey a relation q
    → filter (λ t. list_any (is_linked q t) links) used ≡ filter (λ t. list_any (calls_for a relation q (tree a t)) (map (tree a) used)) used
in_table a relation used links h all q k = agree a (λ t. list_any (is_linked q t) links) (λ t. list_any (calls_for a relation q (tree a t)) (map (tree a) used)) (λ t l. all q t k l) used h
