-- Terms whose parts are parts of others.
use Rattle.std.proofs.Common.{◌≡◌, ℕ, suc, ◌+◌, true, List, [], ◌∷◌, ◌++◌, Result, Ok, Err, refl, sym, ap, subst, ◌∙◌, arith}
use Rattle.std.proofs.lemmas.Bool.{false≢true, or_left, or_right}
use Rattle.spv_logic.specs.Terms.{Term, term, term_eq}
use Rattle.spv_logic.proofs.Equality.{term_eq-true}
use Rattle.spv_term.specs.Arena.{Arena, Extends, tree}
use Rattle.spv_term.proofs.ArenaLemmas.{Extends-trans}
use Rattle.spv_term.specs.substitution.Parts.{is_part, is_part_of_some, is_part_of, AddsParts}
use Rattle.spv_term.proofs.substitution.PartLemmas.{or_split, part_down}
use Rattle.spv_assign.specs.declared.creation_trace.faults.GenFault.{GenFault}
use Rattle.spv_assign.specs.declared.creation_trace.faults.GenFault.TheVariants as fault
use Rattle.spv_assign.specs.creation_trace.Events.{Event, Terms as Made, Conditions, HasTerms, terms_of, ListsFit, Walked, Stops, Answers}
use Rattle.spv_assign.specs.creation_trace.StatementEvents.{several}
use Rattle.spv_assign.proofs.creation_trace.Walks.{part_first, terms_of_both, adds_in_turn}

-- a part of a part is a part
pub part_of_part : (x s r : Term) → is_part x s ≡ true → is_part s r ≡ true → is_part x r ≡ true
part_of_part x (term h us) r e f =
    or_split (term_eq x (term h us)) (is_part_of_some x us) e
    (λ same. subst (λ (y : Term). is_part y r ≡ true) (sym (term_eq-true x (term h us) same)) f)
    (λ inside. part_down x h us inside r f)

-- each part of the first terms is a part of the others
pub record AreCovered (ts us : List Term) : Type 0 where
  pub each : (x : Term) → is_part_of ts x ≡ true → is_part_of us x ≡ true

pub covered_nothing : (us : List Term) → AreCovered [] us
covered_nothing us = record { each = λ x h. absurd (false≢true h) }

pub covered_more : (t : Term) (ts us : List Term) → is_part_of us t ≡ true → AreCovered ts us → AreCovered (t ∷ ts) us
covered_more t ts us there others = record { each = λ x h. or_split (is_part x t) (is_part_of ts x) h (down us there x) (others.each x) }
  where
    down_one : (u x : Term) → is_part t u ≡ true → is_part x t ≡ true → is_part x u ≡ true
    down_one u x e f = part_of_part x t u f e

    down : (us : List Term) → is_part_of us t ≡ true → (x : Term) → is_part x t ≡ true → is_part_of us x ≡ true
    down [] e x f = absurd (false≢true e)
    down (u ∷ us) e x f =
        or_split (is_part t u) (is_part_of us t) e
        (λ here. or_left (is_part x u) (is_part_of us x) (down_one u x here f))
        (λ behind. or_right (is_part x u) (is_part_of us x) (down us behind x f))

pub covered_one : (s r : Term) → is_part s r ≡ true → AreCovered (s ∷ []) (r ∷ [])
covered_one s r e = covered_more s [] (r ∷ []) (or_left (is_part s r) (is_part_of [] s) e) (covered_nothing (r ∷ []))

append_nil : {X : Type 0} (xs : List X) → xs ++ [] ≡ xs
append_nil [] = refl
append_nil (x ∷ xs) = ap (λ l. x ∷ l) (append_nil xs)

-- how many lists there are
abbrev pub lists_in : List Event → ℕ
lists_in [] = 0
lists_in (Made ts ∷ events) = lists_in events
lists_in (Conditions n ∷ events) = suc (lists_in events)

lists_in_both : (xs ys : List Event) → lists_in (xs ++ ys) ≡ lists_in xs + lists_in ys
lists_in_both [] ys = let e : lists_in ys ≡ 0 + lists_in ys = omega arith in e
lists_in_both (Made ts ∷ xs) ys = lists_in_both xs ys
lists_in_both (Conditions n ∷ xs) ys =
    let others : lists_in (xs ++ ys) ≡ lists_in xs + lists_in ys = lists_in_both xs ys in
    let e : suc (lists_in (xs ++ ys)) ≡ suc (lists_in xs) + lists_in ys = omega (arith, others) in
    e

pub no_list_there : (xs before after : List Event) (n : ℕ) → lists_in xs ≡ 0 → xs ≡ before ++ Conditions n ∷ after → ⊥
no_list_there xs before after n none parts =
    let count : lists_in xs ≡ lists_in before + suc (lists_in after) = ap lists_in parts ∙ lists_in_both before (Conditions n ∷ after) in
    let zero : lists_in xs ≡ 0 = none in
    omega (arith, count, zero)

-- walks without lists, whose terms are parts of others
module _ (xs : List Event) (none : lists_in xs ≡ 0) (us : List Term) (covered : AreCovered (terms_of xs) us) where
  wide : AreCovered (terms_of xs) (us ++ [])
  wide = record { each = λ x e. ap (λ (l : List Term). is_part_of l x) (append_nil us) ∙ covered.each x e }

  -- a prefix of such a walk has no other terms
  pub parts_are : (first after : List Event) → xs ≡ first ++ after → (x : Term) → is_part_of (terms_of first) x ≡ true → is_part_of (us ++ []) x ≡ true
  parts_are first after parts x e =
      wide.each x
      (ap (λ (l : List Term). is_part_of l x) (ap terms_of parts ∙ terms_of_both first after) ∙ part_first (terms_of first) (terms_of after) x e)

  pub covered_stops : (e : GenFault) (a b : Arena) → Stops e xs a b → Stops e (several us) a b
  covered_stops (fault.Conditions n) a b h = absurd (no_list_there xs h.1.before h.1.after h.1.length none h.1.parts)
  covered_stops (fault.Terms n) a b h = (
    h.0,
    record {
      first = several us;
      after = [];
      parts = refl;
      lists = tt;
      grows = h.1.grows;
      only = record { part = λ u low high. parts_are h.1.first h.1.after h.1.parts (tree b u) (h.1.only.part u low high) };
      lacks = record {
        missing = h.1.lacks.missing;
        part = parts_are h.1.first h.1.after h.1.parts h.1.lacks.missing h.1.lacks.part;
        lacks = h.1.lacks.lacks;
      };
    },
  )
  covered_stops fault.Memory a b h = tt

  covered_adds : (a b c : Arena) → Walked xs a b → Extends b c → AddsParts b c (us ++ []) → AddsParts a c (us ++ [])
  covered_adds a b c first more rest = record {
    part = λ u low high. join (tree c u) ((adds_in_turn more (terms_of xs) (us ++ []) first.only rest).part u low high);
  }
    where
      join_lists : (vs : List Term) (x : Term) → ((y : Term) → is_part_of vs y ≡ true → is_part_of (us ++ []) y ≡ true) → is_part_of (vs ++ (us ++ [])) x ≡ true → is_part_of (us ++ []) x ≡ true
      join_lists [] x within e = e
      join_lists (v ∷ vs) x within e =
          or_split (is_part x v) (is_part_of (vs ++ (us ++ [])) x) e
          (λ here. within x (or_left (is_part x v) (is_part_of vs x) here))
          (λ behind. join_lists vs x (λ y f. within y (or_right (is_part y v) (is_part_of vs y) f)) behind)

      join : (x : Term) → is_part_of (terms_of xs ++ (us ++ [])) x ≡ true → is_part_of (us ++ []) x ≡ true
      join x e = join_lists (terms_of xs) x wide.each e

  -- where parts were made, the whole may be made
  pub covered_walked : (a b c : Arena) → Walked xs a b → Walked (several us) b c → Walked (several us) a c
  covered_walked a b c first rest = record {
    grows = Extends-trans first.grows rest.grows;
    there = rest.there;
    only = covered_adds a b c first rest.grows rest.only;
    lists = tt;
  }

  pub covered_behind : (e : GenFault) (a b c : Arena) → Walked xs a b → Stops e (several us) b c → Stops e (several us) a c
  covered_behind (fault.Conditions n) a b c first h = absurd (no_list_there (several us) h.1.before h.1.after h.1.length refl h.1.parts)
  covered_behind (fault.Terms n) a b c first h = (
    h.0 ∙ first.grows.most,
    record {
      first = several us;
      after = [];
      parts = refl;
      lists = tt;
      grows = Extends-trans first.grows h.1.grows;
      only = covered_adds a b c first h.1.grows (record { part = λ u low high. whole (tree c u) (h.1.only.part u low high) });
      lacks = record { missing = h.1.lacks.missing; part = whole h.1.lacks.missing h.1.lacks.part; lacks = h.1.lacks.lacks };
    },
  )
    where
      whole : (x : Term) → is_part_of (terms_of h.1.first) x ≡ true → is_part_of (us ++ []) x ≡ true
      whole x e =
          ap (λ (l : List Term). is_part_of l x) (ap terms_of h.1.parts ∙ terms_of_both h.1.first h.1.after) ∙ part_first (terms_of h.1.first) (terms_of h.1.after) x e
  covered_behind fault.Memory a b c first h = tt

  pub covered_answers : {X : Type 0} (r : Result X GenFault) (a b c : Arena) → Walked xs a b → Answers r (several us) b c → Answers r (several us) a c
  covered_answers (Ok x) a b c first h = covered_walked a b c first h
  covered_answers (Err e) a b c first h = covered_behind e a b c first h

-- the same terms in the same order
pub same_walk : (xs ys : List Event) (a b : Arena) → terms_of xs ≡ terms_of ys → ListsFit ys → Walked xs a b → Walked ys a b
same_walk xs ys a b same lists h = record {
  grows = h.grows;
  there = subst (HasTerms b) same h.there;
  only = subst (AddsParts a b) same h.only;
  lists = lists;
}
