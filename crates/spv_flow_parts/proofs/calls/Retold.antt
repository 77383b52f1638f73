-- Walks without lists, told by other events with the same terms.
use Rattle.std.proofs.Common.{◌≡◌, ℕ, true, List, [], ◌∷◌, ◌++◌, sym, ap, subst, ◌∙◌}
use Rattle.std.proofs.lemmas.List.{append-nil}
use Rattle.std.proofs.lemmas.Bool.{or_left, or_right}
use Rattle.spv_logic.specs.Terms.{Term}
use Rattle.spv_term.specs.Arena.{Arena, tree}
use Rattle.spv_term.specs.substitution.Parts.{is_part, is_part_of}
use Rattle.spv_term.proofs.substitution.PartLemmas.{or_split}
use Rattle.spv_assign.specs.declared.creation_trace.faults.GenFault.{GenFault}
use Rattle.spv_assign.specs.declared.creation_trace.faults.GenFault.TheVariants as fault
use Rattle.spv_assign.specs.creation_trace.Events.{Event, Terms, Conditions, HasTerms, terms_of, ListsFit, Walked, Stops}
use Rattle.spv_assign.proofs.creation_trace.Walks.{part_first, part_behind, terms_of_both}
use Rattle.spv_assign.proofs.creation_trace.Covering.{AreCovered}

-- ---- events without lists

abbrev pub HaveNoLists : List Event → Type 0
HaveNoLists [] = Unit {0}
HaveNoLists (Terms ts ∷ events) = HaveNoLists events
HaveNoLists (Conditions n ∷ events) = ⊥

pub no_lists_both : (xs ys : List Event) → HaveNoLists xs → HaveNoLists ys → HaveNoLists (xs ++ ys)
no_lists_both [] ys h k = k
no_lists_both (Terms ts ∷ xs) ys h k = no_lists_both xs ys h k
no_lists_both (Conditions n ∷ xs) ys h k = absurd h

lists_fit : (xs : List Event) → HaveNoLists xs → ListsFit xs
lists_fit [] h = tt
lists_fit (Terms ts ∷ xs) h = lists_fit xs h
lists_fit (Conditions n ∷ xs) h = absurd h

no_list : (before after : List Event) (n : ℕ) → HaveNoLists (before ++ Conditions n ∷ after) → ⊥
no_list [] after n h = h
no_list (Terms ts ∷ before) after n h = no_list before after n h
no_list (Conditions m ∷ before) after n h = h

-- ---- terms that are covered

pub covered_self : (ts : List Term) → AreCovered ts ts
covered_self ts = record { each = λ x h. h }

pub covered_in_turn : (ts us vs : List Term) → AreCovered ts us → AreCovered us vs → AreCovered ts vs
covered_in_turn ts us vs h k = record { each = λ x e. k.each x (h.each x e) }

pub covered_first : (ts us : List Term) → AreCovered ts (ts ++ us)
covered_first ts us = record { each = λ x e. part_first ts us x e }

pub covered_behind : (ts us : List Term) → AreCovered us (ts ++ us)
covered_behind ts us = record { each = λ x e. part_behind ts us x e }

pub covered_both : (ts us vs : List Term) → AreCovered ts vs → AreCovered us vs → AreCovered (ts ++ us) vs
covered_both [] us vs h k = k
covered_both (t ∷ ts) us vs h k = record { each = λ x e. or_split (is_part x t) (is_part_of (ts ++ us) x) e (λ here. h.each x (or_left (is_part x t) (is_part_of ts x) here)) (λ behind. (covered_both ts us vs others k).each x behind) }
  where
    others : AreCovered ts vs
    others = record { each = λ x e. h.each x (or_right (is_part x t) (is_part_of ts x) e) }

-- ---- the same walk by other events

module _ (xs ys : List Event) (none : HaveNoLists xs) (none_too : HaveNoLists ys) (covered : AreCovered (terms_of xs) (terms_of ys)) where
  pub retold_stops : (e : GenFault) (a b : Arena) → Stops e xs a b → Stops e ys a b
  retold_stops (fault.Conditions n) a b h = absurd (no_list h.1.before h.1.after h.1.length (subst HaveNoLists h.1.parts none))
  retold_stops (fault.Terms n) a b h = (
    h.0,
    record {
      first = ys;
      after = [];
      parts = sym (append-nil ys);
      lists = lists_fit ys none_too;
      grows = h.1.grows;
      only = record { part = λ u low high. within (tree b u) (h.1.only.part u low high) };
      lacks = record { missing = h.1.lacks.missing; part = within h.1.lacks.missing h.1.lacks.part; lacks = h.1.lacks.lacks };
    },
  )
    where
      within : (x : Term) → is_part_of (terms_of h.1.first) x ≡ true → is_part_of (terms_of ys) x ≡ true
      within x e =
          covered.each x
          (ap (λ (l : List Term). is_part_of l x) (ap terms_of h.1.parts ∙ terms_of_both h.1.first h.1.after) ∙ part_first (terms_of h.1.first) (terms_of h.1.after) x e)
  retold_stops fault.Memory a b h = tt

  pub retold_walk : (a b : Arena) → HasTerms b (terms_of ys) → Walked xs a b → Walked ys a b
  retold_walk a b there h = record {
    grows = h.grows;
    there = there;
    only = record { part = λ u low high. covered.each (tree b u) (h.only.part u low high) };
    lists = lists_fit ys none_too;
  }

-- ---- terms that are there

pub has_first : (a : Arena) (ts us : List Term) → HasTerms a (ts ++ us) → HasTerms a ts
has_first a [] us h = tt
has_first a (t ∷ ts) us h = (h.0, has_first a ts us h.1)

pub has_behind : (a : Arena) (ts us : List Term) → HasTerms a (ts ++ us) → HasTerms a us
has_behind a [] us h = h
has_behind a (t ∷ ts) us h = has_behind a ts us h.1
