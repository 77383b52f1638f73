-- Terms that are entered one behind the other.
use Rattle.std.proofs.Common.{◌≡◌, ℕ, ◌+◌, ◌<◌, Option, Some, None, List, [], ◌∷◌, ◌++◌, map, length, take, get_or, option_map, flat_map, refl, sym, ap, subst, ◌∙◌, append_assoc, append-nil}
use Rattle.std.proofs.lemmas.List.{map-append, take_more}
use Rattle.spv_whole.specs.Fraction.{Fraction}
use Rattle.spv_listing_values.specs.declared.data.Step.{Step}
use Rattle.spv_listing_values.specs.declared.data.Step.TheVariants as step
use Rattle.spv_listing_values.specs.declared.data.Split.{Split}
use Rattle.spv_listing_values.specs.declared.data.ProofNode.{ProofNode}
use Rattle.spv_listing_values.specs.declared.data.Instance.{Instance}
use Rattle.spv_listing_values.specs.declared.data.Limit.{Limit}
use Rattle.spv_listing_values.specs.declared.data.Limit.TheVariants as limit
use Rattle.spv_listing_values.specs.declared.data.Verdict.{Verdict}
use Rattle.spv_listing_values.specs.declared.data.Verdict.TheVariants.{Proved, Unproved, GaveUp}
use Rattle.spv_listing_values.specs.declared.data.Claim.{Claim}
use Rattle.spv_listing_values.specs.declared.texts.Text.{Text}
use Rattle.spv_listing_values.specs.Written.{Written}
use Rattle.spv_listing_values.specs.Mapped.{step_at, split_at, node_at, instance_at, limit_at, row_at, verdict_at, claim_at, step_terms, split_terms, node_terms, instance_terms, row_term, limit_terms, verdict_terms, claim_terms}
use Rattle.spv_listing_values.specs.Places.{Flat, IsTable, tree, Entered, entered, list_entered, flats_of}
use Rattle.spv_listing_values.specs.Waiting.{AreIn}
use Rattle.spv_listing_values.specs.Told.{Enters}
use Rattle.spv_listing_values.proofs.Entering.{entering, entered_front}
use Rattle.spv_listing_values.proofs.Grown.{Grown, tree_stays, are_in_more, is_entered}

-- ---- the terms of what is mapped are mapped

module _ {T U : Type 0} (f : T → U) where
  flat_mapped : {A B : Type 0} (g : A → B) (p : A → List T) (q : B → List U) → ((a : A) → q (g a) ≡ map f (p a)) → (xs : List A) → flat_map q (map g xs) ≡ map f (flat_map p xs)
  flat_mapped g p q each [] = refl
  flat_mapped g p q each (a ∷ xs) = (λ i. each a i ++ flat_mapped g p q each xs i) ∙ sym (map-append f (p a) (flat_map p xs))

  step_terms_at : (s : Step T) → step_terms (step_at f s) ≡ map f (step_terms s)
  step_terms_at (step.Given k) = refl
  step_terms_at (step.Refl t) = refl
  step_terms_at (step.Symm i) = refl
  step_terms_at (step.Trans i j) = refl
  step_terms_at (step.Cong t u facts) = refl
  step_terms_at (step.Linear r first second) = refl
  step_terms_at (step.Schema k ts name) = refl
  step_terms_at (step.Rule r ts) = refl
  step_terms_at (step.Eval t facts) = refl
  step_terms_at (step.Contra i j) = refl

  split_terms_at : (s : Option (Split T)) → split_terms (option_map (split_at f) s) ≡ map f (split_terms s)
  split_terms_at None = refl
  split_terms_at (Some s) = refl

  node_terms_at : (n : ProofNode T) → node_terms (node_at f n) ≡ map f (node_terms n)
  node_terms_at n =
      (λ i. flat_mapped (step_at f) step_terms step_terms step_terms_at n.steps i ++ split_terms_at n.split i) ∙ sym (map-append f (flat_map step_terms n.steps) (split_terms n.split))

  rows_at : (rows : List (T × Fraction)) → map row_term (map (row_at f) rows) ≡ map f (map row_term rows)
  rows_at [] = refl
  rows_at (r ∷ rows) = ap (λ (us : List U). f r.0 ∷ us) (rows_at rows)

  limit_terms_at : (l : Limit T) → limit_terms (limit_at f l) ≡ map f (limit_terms l)
  limit_terms_at (limit.Splits n) = refl
  limit_terms_at (limit.Instances n) = refl
  limit_terms_at (limit.Pivots n) = refl
  limit_terms_at limit.Terms = refl
  limit_terms_at (limit.Form t) = refl
  limit_terms_at (limit.Wide o left right) = refl

  instance_terms_at : (i : Instance T) → instance_terms (instance_at f i) ≡ map f (instance_terms i)
  instance_terms_at i = refl

  verdict_terms_at : (v : Verdict T) → verdict_terms (verdict_at f v) ≡ map f (verdict_terms v)
  verdict_terms_at (Proved nodes) = flat_mapped (node_at f) node_terms node_terms node_terms_at nodes
  verdict_terms_at (Unproved branch is rows) =
      (λ i. map f branch ++ (flat_mapped (instance_at f) instance_terms instance_terms instance_terms_at is i ++ rows_at rows i))
      ∙ (ap (λ (us : List U). map f branch ++ us) (sym (map-append f (flat_map instance_terms is) (map row_term rows))) ∙ sym (map-append f branch (flat_map instance_terms is ++ map row_term rows)))
  verdict_terms_at (GaveUp l) = limit_terms_at l

  pub claim_terms_at : (c : Claim T) → claim_terms (claim_at f c) ≡ map f (claim_terms c)
  claim_terms_at c = ap (λ (us : List U). map f c.given ++ f c.goal ∷ us) (verdict_terms_at c.verdict) ∙ sym (map-append f c.given (c.goal ∷ verdict_terms c.verdict))

-- ---- terms that are entered behind others

list_append : (ts us : List Written) (e : Entered) → list_entered e (ts ++ us) ≡ list_entered (list_entered e ts) us
list_append [] us e = refl
list_append (t ∷ ts) us e = list_append ts us (entered e t)

-- the places so far do not matter to the terms
flats_alone : (ts : List Written) (fs : List Flat) (ps : List Text) → (list_entered (entering fs ps) ts).flats ≡ (list_entered (entering fs []) ts).flats
flats_alone [] fs ps = refl
flats_alone (t ∷ ts) fs ps =
    let e = entered (entering fs []) t in
    ap (λ (d : Entered). (list_entered d ts).flats) (ap (λ (l : List Text). entered (entering fs l) t) (sym (append-nil ps)) ∙ entered_front fs ps [] t)
    ∙ (flats_alone ts e.flats (ps ++ e.places) ∙ sym (flats_alone ts e.flats e.places))

pub flats_more : (ts us : List Written) (fs gs : List Flat) → fs ≡ flats_of ts → gs ≡ (list_entered (entering fs []) us).flats → gs ≡ flats_of (ts ++ us)
flats_more ts us fs gs e f =
    let d = list_entered (entering [] []) ts in
    f
    ∙ (ap (λ (l : List Flat). (list_entered (entering l []) us).flats) e
    ∙ (sym (flats_alone us d.flats d.places) ∙ ap (λ (x : Entered). x.flats) (sym (list_append ts us (entering [] [])))))

pub enters_none : (fs : List Flat) → Enters fs fs [] []
enters_none fs = record { more = []; goes_on = sym (append-nil fs); flats = refl; in_range = tt; trees = refl }

-- one term is entered
pub enters_one : (fs gs : List Flat) (t : Written) (p : Text) → IsTable fs → entering gs (p ∷ []) ≡ entered (entering fs []) t → Enters fs gs (t ∷ []) (p ∷ [])
enters_one fs gs t p ok e =
    let d = entered (entering fs []) t in
    let is = is_entered t fs [] ok in
    let flats : gs ≡ d.flats = ap (λ (x : Entered). x.flats) e in
    let places : p ∷ [] ≡ is.place ∷ [] = ap (λ (x : Entered). x.places) e ∙ is.last in
    let place : p ≡ is.place = cc in
    subst (λ (l : List Flat). Enters fs l (t ∷ []) (p ∷ [])) (sym flats) (subst (λ (q : Text). Enters fs d.flats (t ∷ []) (q ∷ [])) (sym place) (record {
      more = is.grown.more;
      goes_on = is.grown.goes_on;
      flats = refl;
      in_range = (is.in_range, tt);
      trees = ap (λ (u : Written). u ∷ []) is.tree_is;
    }))

pub places_in : (fs : List Flat) (ps qs : List Text) → AreIn fs ps → AreIn fs qs → AreIn fs (ps ++ qs)
places_in fs [] qs h k = k
places_in fs (p ∷ ps) qs h k = (h.0, places_in fs ps qs h.1 k)

pub trees_stay : (fs gs : List Flat) → Grown fs gs → (ps : List Text) → AreIn fs ps → map (tree gs) ps ≡ map (tree fs) ps
trees_stay fs gs grown [] h = refl
trees_stay fs gs grown (p ∷ ps) h = λ i. tree_stays fs gs grown p h.0 i ∷ trees_stay fs gs grown ps h.1 i

-- terms are entered behind others
pub enters_both : (fs gs hs : List Flat) (ts us : List Written) (ps qs : List Text) → IsTable hs → Enters fs gs ts ps → Enters gs hs us qs → Enters fs hs (ts ++ us) (ps ++ qs)
enters_both fs gs hs ts us ps qs ok a b =
    let grown : Grown gs hs = record { table = ok; more = b.more; goes_on = b.goes_on } in
    let d = list_entered (entering fs []) ts in
    record {
      more = a.more ++ b.more;
      goes_on = b.goes_on ∙ (ap (λ (l : List Flat). l ++ b.more) a.goes_on ∙ append_assoc fs a.more b.more);
      flats =
          b.flats
          ∙ (ap (λ (l : List Flat). (list_entered (entering l []) us).flats) a.flats
          ∙ (sym (flats_alone us d.flats d.places) ∙ ap (λ (x : Entered). x.flats) (sym (list_append ts us (entering fs [])))));
      in_range = places_in hs ps qs (are_in_more gs hs grown ps a.in_range) b.in_range;
      trees = map-append (tree hs) ps qs ∙ (λ i. (trees_stay gs hs grown ps a.in_range ∙ a.trees) i ++ b.trees i);
    }

-- the term of the next item is entered behind those of the items before it
pub enters_more : {X : Type 0} (w : X → Written) (xs : List X) (i : ℕ) (d : X) (fs gs hs : List Flat) (ps qs : List Text) (t : Text) → IsTable hs → i < length xs
    → Enters fs gs (map w (take i xs)) ps → Enters gs hs (w (get_or xs i d) ∷ []) (t ∷ []) → qs ≡ ps ++ t ∷ [] → Enters fs hs (map w (take (i + 1) xs)) qs
enters_more w xs i d fs gs hs ps qs t ok h so_far one e =
    subst (λ (ws : List Written). Enters fs hs ws qs) (sym (ap (map w) (take_more xs i d h) ∙ map-append w (take i xs) (get_or xs i d ∷ [])))
    (subst (Enters fs hs (map w (take i xs) ++ w (get_or xs i d) ∷ [])) (sym e) (enters_both fs gs hs (map w (take i xs)) (w (get_or xs i d) ∷ []) ps (t ∷ []) ok so_far one))

-- two terms are entered one behind the other
pub enters_two : (fs gs hs : List Flat) (w v : Written) (t u : Text) → IsTable hs → Enters fs gs (w ∷ []) (t ∷ []) → Enters gs hs (v ∷ []) (u ∷ []) → Enters fs hs (w ∷ v ∷ []) (t ∷ u ∷ [])
enters_two fs gs hs w v t u ok a b = enters_both fs gs hs (w ∷ []) (v ∷ []) (t ∷ []) (u ∷ []) ok a b

-- what was entered, named by its places
pub enters_again : (fs gs : List Flat) (ws : List Written) (ts : List Text) → Enters fs gs ws ts → Enters fs gs (map (tree gs) ts) ts
enters_again fs gs ws ts e = subst (λ (us : List Written). Enters fs gs us ts) (sym e.trees) e

-- the term at the place where it was entered
pub entered_at_place : (fs gs : List Flat) (w : Written) (t : Text) → Enters fs gs (w ∷ []) (t ∷ []) → w ≡ tree gs t
entered_at_place fs gs w t e = first e.trees
  where
    first : tree gs t ∷ [] ≡ w ∷ [] → w ≡ tree gs t
    first e = cc

-- one term is entered, and then another
pub record TwoEntered (fs hs : List Flat) (w v : Written) (t u : Text) : Type 0 where
  pub first : w ≡ tree hs t
  pub second : v ≡ tree hs u
  pub both : Enters fs hs (tree hs t ∷ tree hs u ∷ []) (t ∷ u ∷ [])

pub two_entered : (fs gs hs : List Flat) (w v : Written) (t u : Text) → IsTable hs → Enters fs gs (w ∷ []) (t ∷ []) → Enters gs hs (v ∷ []) (u ∷ []) → TwoEntered fs hs w v t u
two_entered fs gs hs w v t u ok a b =
    let both = enters_two fs gs hs w v t u ok a b in
    record { first = first both.trees; second = second both.trees; both = enters_again fs hs (w ∷ v ∷ []) (t ∷ u ∷ []) both }
  where
    first : tree hs t ∷ tree hs u ∷ [] ≡ w ∷ v ∷ [] → w ≡ tree hs t
    first e = cc

    second : tree hs t ∷ tree hs u ∷ [] ≡ w ∷ v ∷ [] → v ≡ tree hs u
    second e = cc
