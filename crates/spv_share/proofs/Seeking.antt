-- Equalities that the bounds force, and those that they do not.
use Rattle.std.proofs.Common.{◌≡◌, ℕ, zero, suc, ◌+◌, ◌<◌, Bool, true, false, cond, ◌&&◌, List, [], ◌∷◌, length, refl, sym, ap, ◌∙◌, subst, Some, None, arith, inl, inr, replicate, nat_eq, get_or}
use Rattle.std.specs.Prelude.{slice_get, slice_set, ◌⊎◌}
use Rattle.std.proofs.lemmas.List.{length-replicate, length-set}
use Rattle.spv_union_find.proofs.classes.Lists.{nat_same}
use Rattle.spv_congruence.proofs.AddLemmas.{set_other}
use Rattle.spv_tableau_rules.proofs.pivots.Sums.{eq_is}
use Rattle.std.proofs.lemmas.Bool.{false≢true, cases_lt}
use Rattle.std.proofs.lemmas.Option.{same_Some}
use Rattle.spv_whole.specs.Fraction.{Fraction}
use Rattle.spv_logic.specs.declared.operators.Head.{Head}
use Rattle.spv_logic.specs.declared.operators.Head.TheVariants.{Eq, Lt, Le}
use Rattle.spv_logic.specs.Terms.{Term, term, no_terms, terms}
use Rattle.spv_term.specs.Arena.{Arena, IsArena, tree}
use Rattle.spv_atoms.specs.declared.proofs.Relation.TheVariants as relation
use Rattle.spv_tableau_rules.proofs.pivots.Tests.{and_left, and_right}
use Rattle.spv_proof_rules.specs.Sums.{refutes}
use Rattle.spv_derivations.specs.derivation.Derivation.{facts}
use Rattle.spv_derivations.specs.derivation.Derived.{is_number, IsSum}
use Rattle.spv_tableau_rules.specs.declared.constraints.saying.RowConstraint.{RowConstraint}
use Rattle.spv_tableau_rules.specs.declared.constraints.saying.RowConstraint.TheVariants.{Above, Below}
use Rattle.spv_tableau_rules.specs.constraints.Relations.{number_sides}
use Rattle.spv_arithmetic_side.proofs.farkas.Readings.{above_is_sourced, below_is_sourced}
use Rattle.spv_arithmetic_side.specs.declared.constraint_rows.standing.Standing.{Standing}
use Rattle.spv_arithmetic_side.specs.constraint_rows.Standing.{HasSaid, IsBack}
use Rattle.spv_arithmetic_side.specs.declared.constraint_rows.forcing.Tried.{Tried}
use Rattle.spv_arithmetic_side.specs.declared.constraint_rows.forcing.Tried.TheVariants.{Met, Refuted}
use Rattle.spv_arithmetic_side.specs.declared.constraint_rows.forcing.Tried.TheVariants as tried
use Rattle.spv_arithmetic_side.specs.constraint_rows.Forcing.{HasPoint, IsTried, Refutes}
use Rattle.spv_share.specs.declared.relations.Related.{Related}
use Rattle.spv_share.specs.declared.both.Both.{Both}
use Rattle.spv_share.specs.declared.searching.Sought.{Sought}
use Rattle.spv_share.specs.declared.searching.Sought.TheVariants.{Apart, Joined, Stopped}
use Rattle.spv_share.specs.Relations.{IsRelation}
use Rattle.spv_share.specs.Both.{IsSound}
use Rattle.spv_share.specs.States.{after_joined, AreApart, AreSifted, by_point, GoesOn, HasClosed, IsApart, IsFound, IsLimit, IsSought, IsStill, is_open}
use Rattle.spv_share.specs.Relations.{sayable}
use Rattle.spv_arithmetic_side.specs.constraint_rows.Forcing.{HasEvidence, IsStopped}
use Rattle.spv_simplex.specs.declared.checked.Checked.{Checked}
use Rattle.spv_atoms.specs.Linear.{IdForm}
use Rattle.spv_share.proofs.Giving.{at_place}
use Rattle.spv_share.proofs.Rowed.{row_at}
use Rattle.spv_share.proofs.Goings.{open_as, still_itself, still_then}
use Rattle.spv_share.proofs.Points.{apart_back, point_back}
use Rattle.spv_share.proofs.Closing.{open_head}
use Rattle.spv_share.proofs.Sayable.{order_among}
use Rattle.spv_derivations.specs.declared.derivation.entries.Part.{Part}
use Rattle.spv_arithmetic_side.specs.farkas.Told.{told}

-- ---- what is refuted

module _ (a : Arena) (ok : IsArena a) (b : Both) (h : IsSound a b) (r : Related) (at : slice_get b.relations.items r.row ≡ Some r) where
  pub refuted_above : (ms : List (Fraction × ℕ)) → Refutes b.standing r.row Above ms → refutes (is_number a) (facts a b.trail.derivation) (tree a r.left) (tree a r.right) ms ≡ true
  refuted_above ms k =
      k.shown a b.trail.derivation (tree a r.left) (tree a r.right) ok h.inside h.sourced
      (λ f form side value bound.
      above_is_sourced (is_number a) a (facts a b.trail.derivation) (tree a r.left) (tree a r.right) r.row f (row_at a b.relations.items b.standing.tableau.forms h.related.rows r.row r f at form) side value bound)

  pub refuted_below : (ms : List (Fraction × ℕ)) → Refutes b.standing r.row Below ms → refutes (is_number a) (facts a b.trail.derivation) (tree a r.right) (tree a r.left) ms ≡ true
  refuted_below ms k =
      k.shown a b.trail.derivation (tree a r.right) (tree a r.left) ok h.inside h.sourced
      (λ f form side value bound.
      below_is_sourced (is_number a) a (facts a b.trail.derivation) (tree a r.left) (tree a r.right) r.row f (row_at a b.relations.items b.standing.tableau.forms h.related.rows r.row r f at form) side value bound)

abbrev two : Term → Term → Term × Term
two x y = (x, y)

-- the sides of a relation are numbers
pub numbers_are : (test : Term → Bool) (q : Head) (x y : Term) (st : Term × Term) → number_sides test (term q (terms x (terms y no_terms))) ≡ Some st → (test x && test y) ≡ true
numbers_are test q x y st e = by_head q e
  where
    by_case : (b : Bool) → (test x && test y) ≡ b → cond b (Some (two x y)) None ≡ Some st → (test x && test y) ≡ true
    by_case true f g = f
    by_case false f g = absurd (cc)

    by_head : (q : Head) → number_sides test (term q (terms x (terms y no_terms))) ≡ Some st → (test x && test y) ≡ true
    by_head Eq g = by_case (test x && test y) refl g
    by_head Lt g = by_case (test x && test y) refl g
    by_head Le g = by_case (test x && test y) refl g
    by_head q g = absurd (cc)

pub is_sum : (a : Arena) (b : Both) → IsSound a b → (r : Related) → slice_get b.relations.items r.row ≡ Some r → (first second : List (Fraction × ℕ))
    → refutes (is_number a) (facts a b.trail.derivation) (tree a r.left) (tree a r.right) first ≡ true → refutes (is_number a) (facts a b.trail.derivation) (tree a r.right) (tree a r.left) second ≡ true
    → IsSum a b.trail.derivation (relation.Equal r.left r.right) first second
is_sum a b h r at first second f g =
    let rel : IsRelation a b.trail.graph.nodes r = h.related.are.each r.row r at in
    let both : (is_number a (tree a r.left) && is_number a (tree a r.right)) ≡ true =
    numbers_are (is_number a) r.head (tree a r.left) (tree a r.right) _ (ap (number_sides (is_number a)) (sym rel.is) ∙ rel.sides) in
    record {
      terms = (rel.left_in, rel.right_in);
      numbers = (and_left (is_number a (tree a r.left)) (is_number a (tree a r.right)) both, and_right (is_number a (tree a r.left)) (is_number a (tree a r.right)) both);
      shown = (f, g);
    }

-- ---- one relation

pub found_then : (old mid new : Both) (r : Related) (s : Sought) → IsStill old mid → IsFound mid new r s → IsFound old new r s
found_then old mid new r Apart still h = (still_then old mid new still h.0, h.1)
found_then old mid new r Joined still h = (open_as old mid r still.graph h.0, h.1)
found_then old mid new r Stopped still h = h

-- a point was found
pub found_point : (old : Both) (st : Standing) (r : Related) → IsBack old.standing st → HasPoint old.standing r.row Above ⊎ HasPoint old.standing r.row Below
    → IsFound old (record old { standing = st }) r Apart
found_point old st r back h = (
  record { graph = refl; back = back; relations = refl; claims = refl },
  λ e. by_point (elim h [ inl p ↦ inl (point_back old.standing st r.row Above back p) | inr p ↦ inr (point_back old.standing st r.row Below back p) ]),
)

-- nothing was to be looked for
pub found_closed : (b : Both) (r : Related) → is_open b r ≡ false → IsFound b b r Apart
found_closed b r e = (still_itself b, λ k. absurd (false≢true (sym e ∙ k)))

pub found_ordered : (b : Both) (r : Related) → IsApart b.standing r.row → IsFound b b r Apart
found_ordered b r h = (still_itself b, λ k. h)

pub found_same : (old new : Both) (q r : Related) (s : Sought) (i : ℕ) → slice_get old.relations.items i ≡ Some q → slice_get old.relations.items i ≡ Some r → IsFound old new q s → IsFound old new r s
found_same old new q r s i at there h = subst (λ (x : Related). IsFound old new x s) (same_Some q r (sym at ∙ there)) h

-- ---- one relation more

pub apart_still : (old new : Both) (n : ℕ) → IsStill old new → AreApart old n → AreApart new n
apart_still old new n still h = record {
  each = λ row r below at e.
      apart_back old.standing new.standing row still.back (h.each row r below (ap (λ rs. slice_get rs row) (sym still.relations) ∙ at) (open_as old new r still.graph e));
}

apart_one : (new : Both) (n : ℕ) → AreApart new n → ((r : Related) → slice_get new.relations.items n ≡ Some r → is_open new r ≡ true → IsApart new.standing n) → AreApart new (n + 1)
apart_one new n h k = record { each = each }
  where
    each : (row : ℕ) (r : Related) → row < n + 1 → slice_get new.relations.items row ≡ Some r → is_open new r ≡ true → IsApart new.standing row
    each row r below at e = elim (cases_lt row n) [
      | inl less ↦ h.each row r less at e
      | inr more ↦ let same : row ≡ n = omega arith in
          subst (λ (i : ℕ). IsApart new.standing i) (sym same) (k r (ap (λ i. slice_get new.relations.items i) (sym same) ∙ at) e)
    ]

related_at : (rels : List Related) (n : ℕ) → n < length rels → (r : Related) × (slice_get rels n ≡ Some r)
related_at [] n h = absurd (omega arith)
related_at (r ∷ rels) zero h = (r, refl)
related_at (r ∷ rels) (suc n) h = related_at rels n (omega arith)

-- one that is closed stays so
closed_on : (start old new : Both) → old.relations.items ≡ start.relations.items → ((row : ℕ) (r : Related) → slice_get old.relations.items row ≡ Some r → is_open new r ≡ true → is_open old r ≡ true) → HasClosed start old → HasClosed start new
closed_on start old new same closes h = record {
  row = h.row;
  relation = h.relation;
  there = h.there;
  was_open = h.was_open;
  is_closed = by_open (is_open new h.relation) refl;
}
  where
    by_open : (b : Bool) → is_open new h.relation ≡ b → is_open new h.relation ≡ false
    by_open false e = e
    by_open true e = absurd (false≢true (sym h.is_closed ∙ closes h.row h.relation (ap (λ rs. slice_get rs h.row) same ∙ h.there) e))

-- what came of looking at one more
pub sought_on : (a : Arena) (start old new : Both) (n : ℕ) (found : Sought) → IsSound a old → ((r : Related) → slice_get old.relations.items n ≡ Some r → IsFound old new r found) → n < length old.relations.items
    → IsSought start old n Apart → IsSought start new (n + 1) found
sought_on a start old new n Joined sound h inside k =
    let r = related_at old.relations.items n inside in
    let found : (is_open old r.0 ≡ true) × (is_open new r.0 ≡ false) = h r.0 r.1 in
    let still : IsStill start old = k.0 in
    record {
      row = n;
      relation = r.0;
      there = ap (λ rs. slice_get rs n) (sym still.relations) ∙ r.1;
      was_open = open_as start old r.0 still.graph found.0;
      is_closed = found.1;
    }
sought_on a start old new n Stopped sound h inside k = let r = related_at old.relations.items n inside in h r.0 r.1
sought_on a start old new n Apart sound h inside k =
    let r = related_at old.relations.items n inside in
    let still : IsStill old new = (h r.0 r.1).0 in (
      still_then start old new k.0 still,
      apart_one new n (apart_still old new n still k.1)
          (λ q at e.
          let there : slice_get old.relations.items n ≡ Some q = ap (λ rs. slice_get rs n) (sym still.relations) ∙ at in
          subst (λ (i : ℕ). IsApart new.standing i) (sound.related.are.placed n q there) ((h q there).1 e)),
    )

pub sought_joined : (a : Arena) (start old new : Both) (n m : ℕ) (found : Sought) → old.relations.items ≡ start.relations.items → GoesOn a old new → HasClosed start old → ((r : Related) → slice_get old.relations.items n ≡ Some r → IsFound old new r found)
    → n < length old.relations.items → IsSought start new m (after_joined found)
sought_joined a start old new n m Apart same goes closed h inside = closed_on start old new same goes.closes closed
sought_joined a start old new n m Joined same goes closed h inside = closed_on start old new same goes.closes closed
sought_joined a start old new n m Stopped same goes closed h inside = let r = related_at old.relations.items n inside in h r.0 r.1

pub sought_none : (b : Both) → IsSought b b 0 Apart
sought_none b = (still_itself b, record { each = λ row r below at e. absurd (nothing row below) })
  where
    nothing : (row : ℕ) → row < 0 → ⊥
    nothing row h = omega arith

-- ---- one place

pub tried_point : (b : Standing) (row : ℕ) (x : RowConstraint) (t : Tried) → IsTried b row x t → t ≡ Met → HasPoint b row x
tried_point b row x Met h e = h
tried_point b row x (Refuted ms) h e = absurd (cc)
tried_point b row x tried.Stopped h e = absurd (cc)

pub tried_refuted : (b : Standing) (row : ℕ) (x : RowConstraint) (t : Tried) (ms : List (Fraction × ℕ)) → IsTried b row x t → t ≡ Refuted ms → Refutes b row x ms
tried_refuted b row x t ms h e = let P : Tried → Type 0 = λ k. IsTried b row x k in subst P e h

pub found_not_open : (b : Both) (place : ℕ) (q : Related) (res : Bool) → slice_get b.relations.items place ≡ Some q → res ≡ is_open b q → res ≡ false → (r : Related) → slice_get b.relations.items place ≡ Some r → IsFound b b r Apart
found_not_open b place q res at is none r there = found_closed b r (ap (is_open b) (sym (same_Some q r (sym at ∙ there))) ∙ (sym is ∙ none))

pub found_ordered_at : (b : Both) (place : ℕ) (q : Related) → slice_get b.relations.items place ≡ Some q → IsApart b.standing q.row → (r : Related) → slice_get b.relations.items place ≡ Some r → IsFound b b r Apart
found_ordered_at b place q at h r there = found_ordered b r (subst (λ (x : Related). IsApart b.standing x.row) (same_Some q r (sym at ∙ there)) h)

pub sought_apart : (a : Arena) (start old new : Both) (n : ℕ) (so_far found : Sought) → so_far ≡ Apart → IsSound a old → ((r : Related) → slice_get old.relations.items n ≡ Some r → IsFound old new r found) → n < length old.relations.items
    → IsSought start old n so_far → IsSought start new (n + 1) found
sought_apart a start old new n so_far found e sound h inside k = sought_on a start old new n found sound h inside (let P : Sought → Type 0 = λ s. IsSought start old n s in subst P e k)

pub sought_after : (a : Arena) (start old new : Both) (n m : ℕ) (so_far found s : Sought) → so_far ≡ Joined → old.relations.items ≡ start.relations.items → GoesOn a old new → s ≡ after_joined found
    → ((r : Related) → slice_get old.relations.items n ≡ Some r → IsFound old new r found) → n < length old.relations.items → IsSought start old n so_far → IsSought start new m s
sought_after a start old new n m so_far found s before same goes e h inside k =
    let P : Sought → Type 0 = λ x. IsSought start new m x in
    let Q : Sought → Type 0 = λ x. IsSought start old n x in
    subst P (sym e) (sought_joined a start old new n m found same goes (subst Q before k) h inside)

-- ---- which ones wait

-- where nothing becomes open and the bounds are as they were, those that do not wait need not
pub sifted_on : (a : Arena) (old new : Both) (waits : List Bool) → GoesOn a old new → IsBack old.standing new.standing → AreSifted old waits → AreSifted new waits
sifted_on a old new waits goes back h = record {
  many = h.many ∙ ap length (sym goes.relations);
  each = λ row r at flag e.
      let there : slice_get old.relations.items row ≡ Some r = ap (λ rs. slice_get rs row) (sym goes.relations) ∙ at in
      apart_back old.standing new.standing row back (h.each row r there flag (goes.closes row r there e));
}

pub sifted_all : (b : Both) (waits : List Bool) (n : ℕ) → n ≡ length b.relations.items → waits ≡ replicate n true → AreSifted b waits
sifted_all b waits n count is = record {
  many = ap length is ∙ (length-replicate n true ∙ count);
  each = λ row r at flag e. absurd (none_false n row (ap (λ xs. slice_get xs row) (sym is) ∙ flag));
}
  where
    none_false : (n row : ℕ) → slice_get (replicate n true) row ≡ Some false → ⊥
    none_false zero row e = cc
    none_false (suc n) zero e = false≢true (sym (same_Some true false e))
    none_false (suc n) (suc row) e = none_false n row e

pub sifted_without : (b : Both) (waits now : List Bool) (place : ℕ) → AreSifted b waits → now ≡ slice_set waits place false → ((r : Related) → slice_get b.relations.items place ≡ Some r → is_open b r ≡ true → IsApart b.standing place) → AreSifted b now
sifted_without b waits now place h is apart = record {
  many = ap length is ∙ (length-set waits place false ∙ h.many);
  each = λ row r at flag e. by_place row r at e (ap (λ xs. slice_get xs row) (sym is) ∙ flag) (nat_eq row place) refl;
}
  where
    by_place : (row : ℕ) (r : Related) → slice_get b.relations.items row ≡ Some r → is_open b r ≡ true → slice_get (slice_set waits place false) row ≡ Some false → (c : Bool) → nat_eq row place ≡ c → IsApart b.standing row
    by_place row r at e flag true same =
        let here : row ≡ place = eq_is row place same in
        subst (λ (i : ℕ). IsApart b.standing i) (sym here) (apart r (ap (λ i. slice_get b.relations.items i) (sym here) ∙ at) e)
    by_place row r at e flag false other = h.each row r at (sym (set_other waits place row false (λ k. false≢true (sym other ∙ (ap (λ n. nat_eq n place) k ∙ nat_same place)))) ∙ flag) e

-- an equality that is not open, and one that is kept apart
pub not_open_apart : (b : Both) (place : ℕ) (q : Related) (res : Bool) → slice_get b.relations.items place ≡ Some q → res ≡ is_open b q → res ≡ false → (r : Related) → slice_get b.relations.items place ≡ Some r → is_open b r ≡ true
    → IsApart b.standing place
not_open_apart b place q res at is none r there e = absurd (false≢true (sym none ∙ (is ∙ (ap (is_open b) (same_Some q r (sym at ∙ there)) ∙ e))))

pub kept_at : (a : Arena) (b : Both) → IsSound a b → (place : ℕ) (q : Related) → slice_get b.relations.items place ≡ Some q → IsApart b.standing q.row → IsApart b.standing place
kept_at a b h place q at k = subst (λ (i : ℕ). IsApart b.standing i) (h.related.are.placed place q at) k

pub open_at : (b : Both) (place : ℕ) (q : Related) (res : Bool) → res ≡ is_open b q → res ≡ true → is_open b q ≡ true
open_at b place q res is e = sym is ∙ e

-- the flag at a place
pub flag_at : (b : Both) (waits : List Bool) (place : ℕ) (x : Bool) → AreSifted b waits → place < length b.relations.items → x ≡ get_or waits place x → x ≡ false → slice_get waits place ≡ Some false
flag_at b waits place x h inside is none = at_place waits place x (subst (λ (n : ℕ). place < n) (sym h.many) inside) is ∙ ap Some none

-- one that does not wait
pub found_sifted : (a : Arena) (b : Both) (waits : List Bool) (place : ℕ) → IsSound a b → AreSifted b waits → slice_get waits place ≡ Some false → (r : Related) → slice_get b.relations.items place ≡ Some r → IsFound b b r Apart
found_sifted a b waits place sound h flag r at = (
  still_itself b,
  λ e. subst (λ (i : ℕ). IsApart b.standing i) (sym (sound.related.are.placed place r at)) (h.each place r at flag e),
)

-- a check was stopped
pub limit_now : (old : Both) (st : Standing) → IsBack old.standing st → IsStopped st → HasEvidence (sayable old.relations.items old.standing.tableau.forms) st.tableau → IsLimit (record old { standing = st })
limit_now old st back stopped h = record {
  stopped = stopped;
  evidence = subst (λ (fs : List IdForm). HasEvidence (sayable old.relations.items fs) st.tableau) (sym back.forms) h;
}

pub answered_as : (st : Standing) (checked other : Checked) → st.tableau.answer ≡ Some checked → checked ≡ other → st.tableau.answer ≡ Some other
answered_as st checked other e f = e ∙ ap Some f

-- an order of an open equality is among what may be said
pub order_said : (a : Arena) (b : Both) → IsSound a b → (r : Related) → slice_get b.relations.items r.row ≡ Some r → is_open b r ≡ true → (p : Part) (x : RowConstraint) → told Eq p ≡ Some x
    → HasSaid (sayable b.relations.items b.standing.tableau.forms) b.standing r.row x
order_said a b h r at unjoined p x e = order_among b.relations.items b.standing r.row r p x at (open_head b.trail.graph r unjoined) e
