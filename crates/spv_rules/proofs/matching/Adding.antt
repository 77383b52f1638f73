-- Instances that are put together, each once.
use Rattle.std.proofs.Common.{◌≡◌, ℕ, suc, ◌<◌, ◌+◌, Bool, true, false, ◌&&◌, ◌||◌, List, [], ◌∷◌, ◌++◌, length, map, fold, drop, get_or, Option, Some, None, Result, Ok, Err, refl, sym, ap, ◌∙◌, subst, nat_eq, cond, slice_get}
use mathlib.Core.Path.{ap₂}
use Rattle.std.specs.List.{list_any, cons_option, filter_map}
use Rattle.std.specs.Option.{option_map}
use Rattle.std.proofs.lemmas.List.{append_assoc, map-append, drop_more}
use Rattle.spv_logic.specs.declared.conditions.TermId.{TermId}
use Rattle.spv_logic.specs.declared.operators.Head.{Head}
use Rattle.spv_term.specs.declared.nodes.Node.{Node}
use Rattle.spv_term.specs.Arena.{Arena, IsArena, AllBelow, ids_eq, tree}
use Rattle.spv_term.specs.substitution.Images.{head_at, head_of}
use Rattle.spv_term.proofs.ArenaLemmas.{tree-node}
use Rattle.spv_atoms.proofs.Walks.{term_eq-ids}
use Rattle.spv_rules.specs.declared.matching.faults.MatchFault.{MatchFault}
use Rattle.spv_rules.specs.declared.matching.bindings.Bound.{Bound}
use Rattle.spv_rules.specs.declared.matching.instances.Instance.{Instance}
use Rattle.spv_rules.specs.matching.Matches as plain
use Rattle.spv_rules.specs.matching.Matches.{Wide, after, behind, each, before, bound}
use Rattle.spv_rules.specs.matching.Views.{bindings_in, all_in, bound_id, ids_of, id_before, instance_in, instance_eq, with_instance, with_ids, with_match, adding, AreBound, AllBound, AllIn, Adds, IsMatchFault}
use Rattle.spv_rules.proofs.matching.Sequences.{stops_too}
use Rattle.spv_rules.proofs.matching.Meetings.{bound-in, bound_below}

pub other_lengths : (ts us : List TermId) → (length ts ≡ length us → ⊥) → false ≡ ids_eq ts us
other_lengths [] [] h = absurd (h refl)
other_lengths [] (u ∷ us) h = refl
other_lengths (t ∷ ts) [] h = refl
other_lengths (t ∷ ts) (u ∷ us) h = by_case (nat_eq t.0 u.0) (other_lengths ts us (λ e. h (ap suc e)))
  where
    by_case : (b : Bool) → false ≡ ids_eq ts us → false ≡ (b && ids_eq ts us)
    by_case true e = e
    by_case false e = refl

-- ids with these in front, where they are there
abbrev pub in_front : List TermId → Option (List TermId) → Option (List TermId)
in_front ts None = None
in_front ts (Some us) = Some (ts ++ us)

pub heads_next : (a : Arena) → IsArena a → (ts : List TermId) (i : ℕ) (d : TermId) → i < length ts → (n : Node) → slice_get a.nodes (get_or ts i d).0 ≡ Some n → (heads more : List Head) → more ≡ heads ++ n.head ∷ []
    → heads ++ map (head_at a) (drop i ts) ≡ map (head_at a) ts → more ++ map (head_at a) (drop (i + 1) ts) ≡ map (head_at a) ts
heads_next a ok ts i d below n at heads more e h =
    ap (λ (hs : List Head). hs ++ map (head_at a) (drop (i + 1) ts)) e
    ∙ (append_assoc heads (n.head ∷ []) (map (head_at a) (drop (i + 1) ts))
    ∙ (ap (λ (k : Head). heads ++ k ∷ map (head_at a) (drop (i + 1) ts)) (sym (ap head_of (tree-node a ok (get_or ts i d) n at)))
    ∙ (ap (λ (us : List TermId). heads ++ map (head_at a) us) (sym (drop_more ts i d below)) ∙ h)))

-- ---- terms of variables

both_before : (a : Arena) (o : Option TermId) (ts : Option (List TermId)) → before (option_map (tree a) o) (option_map (map (tree a)) ts) ≡ option_map (map (tree a)) (id_before o ts)
both_before a None None = refl
both_before a None (Some ts) = refl
both_before a (Some t) None = refl
both_before a (Some t) (Some ts) = refl

pub values-in : (a : Arena) (b : List Bound) (xs : List Head) → plain.values_of (bindings_in a b) xs ≡ option_map (map (tree a)) (ids_of b xs)
values-in a b [] = refl
values-in a b (x ∷ xs) = ap₂ before (sym (bound-in a b x)) (values-in a b xs) ∙ both_before a (bound_id b x) (ids_of b xs)

pub ids_below : (n : ℕ) (b : List Bound) → AreBound n b → (xs : List Head) (ts : List TermId) → ids_of b xs ≡ Some ts → AllBelow n ts
ids_below n b h [] [] e = tt
ids_below n b h [] (t ∷ ts) e = cc
ids_below n b h (x ∷ xs) ts e = by_case (bound_id b x) refl (ids_of b xs) refl ts e (ids_below n b h xs)
  where
    by_case : (o : Option TermId) → bound_id b x ≡ o → (p : Option (List TermId)) → ids_of b xs ≡ p → (ts : List TermId) → id_before o p ≡ Some ts → ((us : List TermId) → ids_of b xs ≡ Some us → AllBelow n us) → AllBelow n ts
    by_case None f p g ts e later = cc
    by_case (Some t) f None g ts e later = cc
    by_case (Some t) f (Some us) g ts e later =
        let same : t ∷ us ≡ ts = cc in
        subst (AllBelow n) same (bound_below n b x t h (sym f), later us g)

-- ---- sameness

module _ (a : Arena) (ok : IsArena a) where
  all-ids : (ts us : List TermId) → AllBelow (length a.nodes) ts → AllBelow (length a.nodes) us → plain.all_eq (map (tree a) ts) (map (tree a) us) ≡ ids_eq ts us
  all-ids [] [] h k = refl
  all-ids [] (u ∷ us) h k = refl
  all-ids (t ∷ ts) [] h k = refl
  all-ids (t ∷ ts) (u ∷ us) h k = ap₂ ◌&&◌ (sym (term_eq-ids a ok t u h.0 k.0)) (all-ids ts us h.1 k.1)

  same_instance : (i j : Instance) → AllBelow (length a.nodes) i.values → AllBelow (length a.nodes) j.values → plain.instance_eq (instance_in a i) (instance_in a j) ≡ instance_eq i j
  same_instance i j h k = ap (λ b. nat_eq i.rule j.rule && b) (all-ids i.values j.values h k)

  there-ids : (i : Instance) (found : List Instance) → AllBelow (length a.nodes) i.values → AllIn (length a.nodes) found → list_any (plain.instance_eq (instance_in a i)) (map (instance_in a) found) ≡ list_any (instance_eq i) found
  there-ids i [] h k = refl
  there-ids i (j ∷ found) h k = ap₂ ◌||◌ (same_instance i j h k.0) (there-ids i found h k.1)

AllIn-append : (n : ℕ) (xs ys : List Instance) → AllIn n xs → AllIn n ys → AllIn n (xs ++ ys)
AllIn-append n [] ys h k = k
AllIn-append n (x ∷ xs) ys h k = (h.0, AllIn-append n xs ys h.1 k)

-- ---- one more

one_more_in : (n : ℕ) (done : List Instance) (i : Instance) → AllIn n done → AllBelow n i.values → AllIn n (with_instance done i)
one_more_in n done i h k = by_case (list_any (instance_eq i) done)
  where
    by_case : (c : Bool) → AllIn n (cond c done (done ++ i ∷ []))
    by_case true = h
    by_case false = AllIn-append n done (i ∷ []) h (k, tt)

-- instances with one more, and then others
abbrev next : List plain.Instance → plain.Instance → List plain.Instance
next done i = cond (list_any (plain.instance_eq i) done) done (done ++ i ∷ [])

module _ (a : Arena) (ok : IsArena a) where
  one_more-in : (done : List Instance) (i : Instance) → AllIn (length a.nodes) done → AllBelow (length a.nodes) i.values → map (instance_in a) (with_instance done i) ≡ next (map (instance_in a) done) (instance_in a i)
  one_more-in done i h k = by_case (list_any (instance_eq i) done) ∙ ap (λ c. cond c (map (instance_in a) done) (map (instance_in a) done ++ instance_in a i ∷ [])) (sym (there-ids a ok i done k h))
    where
      by_case : (c : Bool) → map (instance_in a) (cond c done (done ++ i ∷ [])) ≡ cond c (map (instance_in a) done) (map (instance_in a) done ++ instance_in a i ∷ [])
      by_case true = refl
      by_case false = map-append (instance_in a) done (i ∷ [])

  -- ---- the instances of matches

  module _ (number : ℕ) (xs : List Head) where
    one_match_in : (done : List Instance) (b : List Bound) → AllIn (length a.nodes) done → AreBound (length a.nodes) b → AllIn (length a.nodes) (with_match number xs done b)
    one_match_in done b h k = by_case (ids_of b xs) refl
      where
        by_case : (o : Option (List TermId)) → ids_of b xs ≡ o → AllIn (length a.nodes) (with_ids number done o)
        by_case None e = h
        by_case (Some ts) e = one_more_in (length a.nodes) done _ h (ids_below (length a.nodes) b k xs ts e)

    one_match-in : (done : List Instance) (b : List Bound) (others : List plain.Instance) → AllIn (length a.nodes) done → AreBound (length a.nodes) b
        → plain.with_instances (map (instance_in a) done) (cons_option (plain.instance_with number xs (bindings_in a b)) others) ≡ plain.with_instances (map (instance_in a) (with_match number xs done b)) others
    one_match-in done b others h k = ap (λ o. plain.with_instances (map (instance_in a) done) (cons_option (option_map (λ ts. record { rule = number; values = ts }) o) others)) (values-in a b xs) ∙ by_case (ids_of b xs) refl
      where
        by_case : (o : Option (List TermId)) → ids_of b xs ≡ o
            → plain.with_instances (map (instance_in a) done) (cons_option (option_map (λ ts. record { rule = number; values = ts }) (option_map (map (tree a)) o)) others) ≡ plain.with_instances (map (instance_in a) (with_ids number done o)) others
        by_case None e = refl
        by_case (Some ts) e = ap (λ done. plain.with_instances done others) (sym (one_more-in done (record { rule = number; values = ts }) h (ids_below (length a.nodes) b k xs ts e)))

    pub matches_in : (found : List (List Bound)) (done : List Instance) → AllIn (length a.nodes) done → AllBound (length a.nodes) found → AllIn (length a.nodes) (fold (with_match number xs) done found)
    matches_in [] done h k = h
    matches_in (b ∷ found) done h k = matches_in found (with_match number xs done b) (one_match_in done b h k.0) k.1

    pub matches-in : (found : List (List Bound)) (done : List Instance) → AllIn (length a.nodes) done → AllBound (length a.nodes) found
        → plain.with_instances (map (instance_in a) done) (filter_map (plain.instance_with number xs) (all_in a found)) ≡ map (instance_in a) (fold (with_match number xs) done found)
    matches-in [] done h k = refl
    matches-in (b ∷ found) done h k =
        one_match-in done b (filter_map (plain.instance_with number xs) (all_in a found)) h k.0 ∙ matches-in found (with_match number xs done b) (one_match_in done b h k.0) k.1

-- ---- one after another

with_instances-append : (done xs ys : List plain.Instance) → plain.with_instances done (xs ++ ys) ≡ plain.with_instances (plain.with_instances done xs) ys
with_instances-append done [] ys = refl
with_instances-append done (x ∷ xs) ys = with_instances-append (next done x) xs ys

adding-behind : (done : List plain.Instance) (r s : Result (List plain.Instance) Wide) → adding done (behind r s) ≡ after (adding done r) (λ now. adding now s)
adding-behind done (Err w) s = refl
adding-behind done (Ok xs) (Err w) = refl
adding-behind done (Ok xs) (Ok ys) = ap (λ (is : List plain.Instance). Ok is) (with_instances-append done xs ys)

-- with what is left, the instances so far come to the whole
pub record Gathers {X : Type 0} (a : Arena) (f : X → Result (List plain.Instance) Wide) (whole : Result (List plain.Instance) Wide) (found : List Instance) (left : List X) : Type 0 where
  pub same : adding (map (instance_in a) found) (each f left) ≡ whole
  pub in_range : AllIn (length a.nodes) found

-- what one outcome brings, and what comes behind it
pub added : (a : Arena) (old new : List Instance) (r s : Result (List plain.Instance) Wide) → Adds a r old new → adding (map (instance_in a) old) (behind r s) ≡ adding (map (instance_in a) new) s
added a old new r s h = adding-behind (map (instance_in a) old) r s ∙ ap (λ o. after o (λ now. adding now s)) h.same

pub added_stops : (a : Arena) (old : List Instance) (r s whole : Result (List plain.Instance) Wide) → adding (map (instance_in a) old) (behind r s) ≡ whole → (e : MatchFault) → IsMatchFault a r e → IsMatchFault a whole e
added_stops a old r s whole same = stops_too a r whole (λ w h. sym same ∙ ap (λ o. adding (map (instance_in a) old) (behind o s)) h)

module _ {X : Type 0} (a : Arena) (f : X → Result (List plain.Instance) Wide) where
  pub gathers_from : (old : List Instance) → AllIn (length a.nodes) old → (xs : List X) → Gathers a f (adding (map (instance_in a) old) (each f xs)) old xs
  gathers_from old h xs = record { same = refl; in_range = h }

  module _ (whole : Result (List plain.Instance) Wide) (found : List Instance) (left rest : List X) (x : X) (is : left ≡ x ∷ rest) (g : Gathers a f whole found left) where
    here : Gathers a f whole found (x ∷ rest)
    here = subst (Gathers a f whole found) is g

    pub gathers_next : (new : List Instance) → Adds a (f x) found new → Gathers a f whole new rest
    gathers_next new h = record { same = sym (added a found new (f x) (each f rest) h) ∙ here.same; in_range = h.in_range }

    pub gathers_stops : (e : MatchFault) → IsMatchFault a (f x) e → IsMatchFault a whole e
    gathers_stops = added_stops a found (f x) (each f rest) whole here.same

  pub gathers_end : (old found : List Instance) (xs left : List X) → left ≡ [] → Gathers a f (adding (map (instance_in a) old) (each f xs)) found left → Adds a (each f xs) old found
  gathers_end old found xs left is g = let h = subst (Gathers a f (adding (map (instance_in a) old) (each f xs)) found) is g in record { same = sym h.same; in_range = h.in_range }

  pub gathers_whole_stops : (old : List Instance) (xs : List X) (e : MatchFault) → IsMatchFault a (adding (map (instance_in a) old) (each f xs)) e → IsMatchFault a (each f xs) e
  gathers_whole_stops old xs = stops_too a (adding (map (instance_in a) old) (each f xs)) (each f xs) (λ w h. added_err (map (instance_in a) old) (each f xs) w h)
    where
      added_err : (done : List plain.Instance) (r : Result (List plain.Instance) Wide) (w : Wide) → adding done r ≡ Err w → r ≡ Err w
      added_err done (Ok ys) w e = cc
      added_err done (Err v) w e = e
