-- From one branch to the next.
use Rattle.std.proofs.Common.{◌≡◌, ℕ, ◌+◌, ◌-◌, true, List, [], ◌∷◌, ◌++◌, map, take, length, get_or, refl, sym, ap, ◌∙◌, subst, Option, Some, arith}
use Rattle.std.specs.Prelude.{reverse, slice_get}
use Rattle.std.proofs.lemmas.List.{length-map, length_push, map-append, reverse-append, take-append-le}
use Rattle.std.proofs.lemmas.Option.{same_Some, slice_get-get_or}
use Rattle.spv_logic.specs.declared.conditions.TermId.{TermId}
use Rattle.spv_logic.specs.Terms.{Term, term_eq}
use Rattle.spv_logic.proofs.Equality.{term_eq-refl}
use Rattle.spv_term.specs.declared.nodes.Condition.{Condition}
use Rattle.spv_term.specs.Arena.{Arena, IsArena, tree}
use Rattle.spv_term.proofs.TreeLemmas.{AllBelow-at}
use Rattle.spv_term.proofs.ArenaLemmas.{HasOneId-arena}
use Rattle.spv_atoms.proofs.Members.{or_left}
use Rattle.spv_congruence.specs.Keep.{IsNode}
use Rattle.spv_proof_rules.specs.Stand.{question}
use Rattle.spv_verdicts.specs.Verdicts.{Limits}
use Rattle.spv_derivations.specs.derivation.Derivation.{literal, PartFits}
use Rattle.spv_models.specs.leaf_models.Subterms.{is_among}
use Rattle.spv_models.specs.split_trees.Paths.{atoms}
use Rattle.spv_share.specs.Both.{Stays}
use Rattle.spv_search.specs.declared.branches.cases.Case.{Case}
use Rattle.spv_search.specs.branches.Growth.{Growth, atom_in, case_in, CaseIn, CasesIn, branch_of, next}
use Rattle.spv_search.proofs.branches.Telling.{last-in}
use Rattle.spv_trail.proofs.trail_states.RowConstraint.{from_found}
use Rattle.spv_trail.specs.declared.propagation.ending.End.{End}
use Rattle.spv_trail.specs.declared.backtracking.path.Ground.{Ground}
use Rattle.spv_trail.specs.declared.backtracking.path.BranchTrail.{BranchTrail}
use Rattle.spv_trail.specs.declared.backtracking.marks.TrailMark.{TrailMark}
use Rattle.spv_trail.specs.backtracking.Paths.{GoesOn, HasMark, IsEarlier, IsMark, IsSplitAtom, IsToldOrEnded, IsBranchTrail, WasToldWith}
use Rattle.spv_search.specs.Searching.{formulas_in, HasLast, IsArrived, IsRunning}
use Rattle.spv_search.proofs.Branching.{next_was_split, split_case}
use Rattle.spv_search.proofs.Lists.{take_all}
use Rattle.spv_search.proofs.Staying.{set_stays, marks_on}
use Rattle.spv_search.specs.Walking.{IsBefore}

-- ---- the last case

pub last_there : {A : Type 0} (xs : List A) (x : A) → slice_get (xs ++ x ∷ []) (length xs) ≡ Some x
last_there [] x = refl
last_there (y ∷ xs) x = last_there xs x

pub last_many : (cs : List Case) (l : HasLast cs) → length cs ≡ length l.front + 1
last_many cs l = ap length l.is ∙ length_push l.front l.last

front_is : (cs : List Case) (l : HasLast cs) (place : ℕ) → place + 1 ≡ length cs → take place cs ≡ l.front
front_is cs l place e =
    let many = last_many cs l in
    let same : place ≡ length l.front = omega (arith, e, many) in
    ap (take place) l.is ∙ (take-append-le place l.front (l.last ∷ []) (omega (arith, same)) ∙ (ap (λ (n : ℕ). take n l.front) same ∙ take_all l.front))

-- what stands at the last place is the last case
pub last_is : (cs : List Case) (l : HasLast cs) (place : ℕ) (x : Case) → place + 1 ≡ length cs → slice_get cs place ≡ Some x → x ≡ l.last
last_is cs l place x e at =
    let many = last_many cs l in
    let same : place ≡ length l.front = omega (arith, e, many) in
    same_Some x l.last (sym at ∙ (ap (slice_get cs) same ∙ (ap (λ (ds : List Case). slice_get ds (length l.front)) l.is ∙ last_there l.front l.last)))

-- also in a list that is the same
pub last_at : (cs : List Case) (l : HasLast cs) (seen : List Case) (d : Case) → seen ≡ cs → get_or seen (length seen - 1) d ≡ l.last
last_at cs l seen d e =
    ap (λ (ds : List Case). get_or ds (length ds - 1) d) e
    ∙ last_is cs l (length cs - 1) (get_or cs (length cs - 1) d) (let many = last_many cs l in omega (arith, many)) (slice_get-get_or cs (length cs - 1) d (let many = last_many cs l in omega (arith, many)))

-- ---- going back

module _ (a : Arena) (c : Condition) (ids : List TermId) (g : Ground) (limits : Limits) (p now : BranchTrail) (s : Growth) (ms : List TrailMark) (h : IsRunning a c ids g limits p s ms) (comes : s.is_left ≡ true)
    (place : ℕ) (m : TrailMark) (last : place + 1 ≡ length s.cases) (at : slice_get ms place ≡ Some m) where
  the_mark : IsMark a c (formulas_in a (take place s.cases)) p m
  the_mark = (h.marks comes).each place m (omega (arith, last)) at

  pub has_mark : HasMark a c p m
  has_mark = record { cases = formulas_in a (take place s.cases); mark = the_mark }

  pub before : ((cases : List Term) → IsMark a c cases p m → IsBranchTrail a c cases now) → Stays p.both now.both → ((cases : List Term) (n : TrailMark) → IsMark a c cases p n → IsEarlier n m → IsMark a c cases now n)
      → IsBefore a c ids g limits now s ms
  before told stays marks = record {
    set_up = set_stays a c ids g limits p.both now.both stays h.set_up;
    within = h.within;
    comes = comes;
    cases_are = h.comes comes;
    path = subst (λ (cs : List Case). IsBranchTrail a c (formulas_in a cs) now) (front_is s.cases (h.comes comes) place last) (told (formulas_in a (take place s.cases)) the_mark);
    marks = record {
      many = (h.marks comes).many;
      each = λ i n below there. marks (formulas_in a (take i s.cases)) n ((h.marks comes).each i n below there) ((h.marks comes).rising i place n m (omega (arith, last, below)) (omega (arith, last)) there at);
      rising = (h.marks comes).rising;
    };
  }

-- ---- telling the last case

-- the atom of the last case was split on
last_above : (at : TermId → Term) (cs : List Case) (l : HasLast cs) → is_among (branch_of at cs).above (at l.last.atom) ≡ true
last_above at cs l =
    ap (λ (ts : List Term). is_among (reverse ts) (at l.last.atom)) (ap (map (atom_in at)) l.is ∙ map-append (atom_in at) l.front (l.last ∷ []))
    ∙ (ap (λ (ts : List Term). is_among ts (at l.last.atom)) (reverse-append (map (atom_in at) l.front) (at l.last.atom ∷ []))
    ∙ or_left (term_eq (at l.last.atom) (at l.last.atom)) (is_among (reverse (map (atom_in at) l.front)) (at l.last.atom)) (term_eq-refl (at l.last.atom)))

module _ (a : Arena) (ok : IsArena a) (c : Condition) (ids : List TermId) (g : Ground) (limits : Limits) (p : BranchTrail) (s : Growth) (ms : List TrailMark) (h : IsBefore a c ids g limits p s ms) where
  abbrev pub last_case : Case
  last_case = h.cases_are.last

  pub last_fits : CaseIn a last_case
  last_fits = last-in a h.cases_are.front last_case (subst (CasesIn a) h.cases_are.is h.within.terms_in.cases)

  last_among : is_among (atoms (question a c)) (tree a last_case.atom) ≡ true
  last_among =
      (split_case (question a c) (next (tree a) s).cases (next (tree a) s).above (next_was_split (question a c) s h.within.grows h.comes) (tree a last_case.atom) (last_above (tree a) s.cases h.cases_are)).atom

  last_node : IsNode p.both.trail.graph.nodes last_case.atom
  last_node =
      let k = from_found (tree a) ids (tree a last_case.atom) (ap (λ (ts : List Term). is_among ts (tree a last_case.atom)) h.set_up.opened.atoms_are ∙ last_among) in
      let same : k.item ≡ last_case.atom = HasOneId-arena a ok k.item last_case.atom (AllBelow-at (length a.nodes) ids k.place k.item h.set_up.opened.within k.there) last_fits.within k.is in
      subst (IsNode p.both.trail.graph.nodes) same (h.set_up.opened.nodes.each k.place k.item k.there)

  pub last_may : IsSplitAtom a c p.both last_case.atom
  last_may = record { within = last_fits.within; among = last_among; node = last_node }

  told_count : (why : ℕ) → why ≡ length s.cases → why ≡ length (formulas_in a h.cases_are.front) + 1
  told_count why e =
      let many = last_many s.cases h.cases_are in
      let long = length-map h.cases_are.front (case_in (tree a)) in
      omega (arith, e, many, long)

  pub told_with : (why : ℕ) → why ≡ length s.cases → WasToldWith a c why p
  told_with why e = record { cases = formulas_in a h.cases_are.front; path_told = h.path; count = told_count why e }

  all_cases : formulas_in a h.cases_are.front ++ literal (tree a last_case.atom) last_case.part ∷ [] ≡ formulas_in a s.cases
  all_cases = sym (ap (map (case_in (tree a))) h.cases_are.is ∙ map-append (case_in (tree a)) h.cases_are.front (last_case ∷ []))

  -- what stands at the last place is the last case
  module _ (x : Case) (same : x ≡ last_case) where
    pub may_at : IsSplitAtom a c p.both x.atom
    may_at = subst (λ (y : Case). IsSplitAtom a c p.both y.atom) (sym same) last_may

    pub fits_at : PartFits a x.atom x.part
    fits_at = subst (λ (y : Case). PartFits a y.atom y.part) (sym same) last_fits.fits

    pub arrived : (now : BranchTrail) (why : ℕ) (o : Option End) → why ≡ length s.cases → GoesOn a p now
        → ((cases : List Term) → IsBranchTrail a c cases p → why ≡ length cases + 1 → IsToldOrEnded a c (cases ++ literal (tree a x.atom) x.part ∷ []) now o) → IsArrived a c ids g limits now s ms o
    arrived now why o e goes told = record {
      set_up = set_stays a c ids g limits p.both now.both goes.both.stays h.set_up;
      within = h.within;
      comes = h.comes;
      path =
          subst (λ (fs : List Term). IsToldOrEnded a c fs now o) all_cases
          (subst (λ (y : Case). IsToldOrEnded a c (formulas_in a h.cases_are.front ++ literal (tree a y.atom) y.part ∷ []) now o) same
          (told (formulas_in a h.cases_are.front) h.path (told_count why e)));
      marks = marks_on a c p now ms s.cases (length s.cases) goes h.path.both h.marks;
    }
