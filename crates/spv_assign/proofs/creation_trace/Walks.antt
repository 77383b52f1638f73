-- Walks one after the other, and what answers say of them.
use Rattle.std.proofs.Common.{◌≡◌, ◌<◌, ◌≤◌, inl, inr, Bool, true, false, ◌||◌, List, [], ◌∷◌, ◌++◌, length, Result, Ok, Err, refl, sym, ap, subst, ◌∙◌, arith}
use Rattle.std.proofs.lemmas.List.{append_assoc}
use Rattle.std.proofs.lemmas.Bool.{false≢true, or_left, or_right, cases_lt}
use Rattle.spv_logic.specs.declared.conditions.TermId.{TermId}
use Rattle.spv_logic.specs.Terms.{Term}
use Rattle.spv_term.specs.Arena.{Arena, Extends, tree}
use Rattle.spv_term.proofs.ArenaLemmas.{Extends-refl, Extends-trans, tree-Extends, length-Extends}
use Rattle.spv_term.specs.substitution.Parts.{is_part, is_part_of, AddsParts, LacksPart}
use Rattle.spv_assign.specs.declared.creation_trace.faults.GenFault.{GenFault}
use Rattle.spv_assign.specs.declared.creation_trace.faults.GenFault.TheVariants as fault
use Rattle.spv_assign.specs.creation_trace.Events.{Event, Terms, Conditions, HasTerms, terms_of, ListsFit, Walked, MeetsLongList, MeetsFullArena, Stops, Answers}

-- ---- terms and their parts

pub has_extends : {a b : Arena} → Extends a b → (ts : List Term) → HasTerms a ts → HasTerms b ts
has_extends more [] h = tt
has_extends more (t ∷ ts) h = (
  record {
    id = h.0.id;
    there = let longer = length-Extends more in let there = h.0.there in omega (arith, there, longer);
    is_tree = tree-Extends more h.0.id h.0.there ∙ h.0.is_tree;
  },
  has_extends more ts h.1,
)

pub has_both : (a : Arena) (ts us : List Term) → HasTerms a ts → HasTerms a us → HasTerms a (ts ++ us)
has_both a [] us h k = k
has_both a (t ∷ ts) us h k = (h.0, has_both a ts us h.1 k)

pub part_first : (ts us : List Term) (x : Term) → is_part_of ts x ≡ true → is_part_of (ts ++ us) x ≡ true
part_first [] us x h = absurd (false≢true h)
part_first (t ∷ ts) us x h = by_case (is_part x t) refl (part_first ts us x)
  where
    by_case : (b : Bool) → is_part x t ≡ b → (is_part_of ts x ≡ true → is_part_of (ts ++ us) x ≡ true) → is_part_of ((t ∷ ts) ++ us) x ≡ true
    by_case true e later = or_left (is_part x t) (is_part_of (ts ++ us) x) e
    by_case false e later =
        or_right (is_part x t) (is_part_of (ts ++ us) x) (later (ap (λ c. c || is_part_of ts x) (sym e) ∙ h))

pub part_behind : (ts us : List Term) (x : Term) → is_part_of us x ≡ true → is_part_of (ts ++ us) x ≡ true
part_behind [] us x h = h
part_behind (t ∷ ts) us x h = or_right (is_part x t) (is_part_of (ts ++ us) x) (part_behind ts us x h)

-- what was added in turn is a part of one or the other
pub adds_in_turn : {a b c : Arena} → Extends b c → (ts us : List Term) → AddsParts a b ts → AddsParts b c us → AddsParts a c (ts ++ us)
adds_in_turn {a} {b} {c} more ts us first rest = record { part = part }
  where
    part : (u : TermId) → length a.nodes ≤ u.0 → u.0 < length c.nodes → is_part_of (ts ++ us) (tree c u) ≡ true
    part u low high = elim (cases_lt u.0 (length b.nodes)) [
      | inl below ↦ part_first ts us (tree c u) (ap (is_part_of ts) (tree-Extends more u below) ∙ first.part u low below)
      | inr above ↦ part_behind ts us (tree c u) (rest.part u above high)
    ]

pub adds_nothing : (a : Arena) (ts : List Term) → AddsParts a a ts
adds_nothing a ts = record { part = λ u low high. absurd (omega arith) }

pub lacks_first : (a : Arena) (ts us : List Term) → LacksPart a ts → LacksPart a (ts ++ us)
lacks_first a ts us h = record { missing = h.missing; part = part_first ts us h.missing h.part; lacks = h.lacks }

pub lacks_behind : (a : Arena) (ts us : List Term) → LacksPart a us → LacksPart a (ts ++ us)
lacks_behind a ts us h = record { missing = h.missing; part = part_behind ts us h.missing h.part; lacks = h.lacks }

-- ---- walks one after the other

pub terms_of_both : (xs ys : List Event) → terms_of (xs ++ ys) ≡ terms_of xs ++ terms_of ys
terms_of_both [] ys = refl
terms_of_both (Terms ts ∷ xs) ys = ap (λ (l : List Term). ts ++ l) (terms_of_both xs ys) ∙ sym (append_assoc ts (terms_of xs) (terms_of ys))
terms_of_both (Conditions n ∷ xs) ys = terms_of_both xs ys

pub lists_both : (xs ys : List Event) → ListsFit xs → ListsFit ys → ListsFit (xs ++ ys)
lists_both [] ys h k = k
lists_both (Terms ts ∷ xs) ys h k = lists_both xs ys h k
lists_both (Conditions n ∷ xs) ys h k = (h.0, lists_both xs ys h.1 k)

pub nothing_walked : (a : Arena) → Walked [] a a
nothing_walked a = record { grows = Extends-refl a; there = tt; only = adds_nothing a []; lists = tt }

pub walked_behind : (xs ys : List Event) {a b c : Arena} → Walked xs a b → Walked ys b c → Walked (xs ++ ys) a c
walked_behind xs ys {a} {b} {c} first rest = record {
  grows = Extends-trans first.grows rest.grows;
  there = subst (HasTerms c) (sym (terms_of_both xs ys)) (has_both c (terms_of xs) (terms_of ys) (has_extends rest.grows (terms_of xs) first.there) rest.there);
  only = subst (AddsParts a c) (sym (terms_of_both xs ys)) (adds_in_turn rest.grows (terms_of xs) (terms_of ys) first.only rest.only);
  lists = lists_both xs ys first.lists rest.lists;
}

-- ---- limits

pub long_list_first : (xs ys : List Event) {a b : Arena} → MeetsLongList xs a b → MeetsLongList (xs ++ ys) a b
long_list_first xs ys h = record {
  before = h.before;
  length = h.length;
  after = h.after ++ ys;
  parts = ap (λ (l : List Event). l ++ ys) h.parts ∙ append_assoc h.before (Conditions h.length ∷ h.after) ys;
  walked = h.walked;
  too_long = h.too_long;
}

pub long_list_behind : (xs ys : List Event) {a b c : Arena} → Walked xs a b → MeetsLongList ys b c → MeetsLongList (xs ++ ys) a c
long_list_behind xs ys first h = record {
  before = xs ++ h.before;
  length = h.length;
  after = h.after;
  parts = ap (λ (l : List Event). xs ++ l) h.parts ∙ sym (append_assoc xs h.before (Conditions h.length ∷ h.after));
  walked = walked_behind xs h.before first h.walked;
  too_long = h.too_long;
}

pub full_arena_first : (xs ys : List Event) {a b : Arena} → MeetsFullArena xs a b → MeetsFullArena (xs ++ ys) a b
full_arena_first xs ys h = record {
  first = h.first;
  after = h.after ++ ys;
  parts = ap (λ (l : List Event). l ++ ys) h.parts ∙ append_assoc h.first h.after ys;
  lists = h.lists;
  grows = h.grows;
  only = h.only;
  lacks = h.lacks;
}

pub full_arena_behind : (xs ys : List Event) {a b c : Arena} → Walked xs a b → MeetsFullArena ys b c → MeetsFullArena (xs ++ ys) a c
full_arena_behind xs ys {a} {b} {c} first h = record {
  first = xs ++ h.first;
  after = h.after;
  parts = ap (λ (l : List Event). xs ++ l) h.parts ∙ sym (append_assoc xs h.first h.after);
  lists = lists_both xs h.first first.lists h.lists;
  grows = Extends-trans first.grows h.grows;
  only = subst (AddsParts a c) (sym (terms_of_both xs h.first)) (adds_in_turn h.grows (terms_of xs) (terms_of h.first) first.only h.only);
  lacks = subst (LacksPart c) (sym (terms_of_both xs h.first)) (lacks_behind c (terms_of xs) (terms_of h.first) h.lacks);
}

-- ---- answers

-- what stopped the first part stops the whole
pub stopped_first : (e : GenFault) (xs ys : List Event) (a b : Arena) → Stops e xs a b → Stops e (xs ++ ys) a b
stopped_first (fault.Conditions n) xs ys a b h = (h.0, long_list_first xs ys h.1)
stopped_first (fault.Terms n) xs ys a b h = (h.0, full_arena_first xs ys h.1)
stopped_first fault.Memory xs ys a b h = tt

-- and so does what stops behind what was made
pub stopped_behind : (e : GenFault) (xs ys : List Event) (a b c : Arena) → Walked xs a b → Stops e ys b c → Stops e (xs ++ ys) a c
stopped_behind (fault.Conditions n) xs ys a b c first h = (h.0, long_list_behind xs ys first h.1)
stopped_behind (fault.Terms n) xs ys a b c first h = (h.0 ∙ first.grows.most, full_arena_behind xs ys first h.1)
stopped_behind fault.Memory xs ys a b c first h = tt

-- behind what was made comes what the rest answers
pub answered_behind : {X : Type 0} (r : Result X GenFault) (xs ys : List Event) (a b c : Arena) → Walked xs a b → Answers r ys b c → Answers r (xs ++ ys) a c
answered_behind (Ok x) xs ys a b c first h = walked_behind xs ys first h
answered_behind (Err e) xs ys a b c first h = stopped_behind e xs ys a b c first h
