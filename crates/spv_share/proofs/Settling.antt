-- Both sides agree.
use Rattle.std.proofs.Common.{◌≡◌, ℕ, zero, suc, ◌+◌, ◌<◌, Bool, true, false, ◌&&◌, List, [], ◌∷◌, length, refl, sym, ap, ◌∙◌, subst, Option, Some, None, Result, Ok, Err, IfOk, IfNone, inl, inr, arith}
use Rattle.std.specs.Prelude.{slice_get}
use Rattle.std.proofs.lemmas.Bool.{cases_lt, false≢true}
use Rattle.std.proofs.lemmas.Option.{slice_get_within, same_Some}
use Rattle.spv_term.specs.Arena.{Arena}
use Rattle.spv_tableau_rules.specs.tableaux.Bounds.{bound_on}
use Rattle.spv_congruence.specs.Graph.{are_same, Graph}
use Rattle.spv_derivations.specs.derivation.Literals.{Literal}
use Rattle.spv_tableau_rules.specs.declared.constraints.saying.RowConstraint.{RowConstraint}
use Rattle.spv_tableau_rules.specs.declared.constraints.saying.RowConstraint.TheVariants.{Equal}
use Rattle.spv_tableau_rules.proofs.constraints.Sourcing.{bound_stays}
use Rattle.spv_simplex.specs.State.{IsTableau}
use Rattle.spv_explanations.specs.congruence_side.Holding.{HasNoClash}
use Rattle.spv_arithmetic_side.specs.declared.constraint_rows.standing.Standing.{Standing}
use Rattle.spv_arithmetic_side.specs.constraint_rows.Standing.{AddsSome, Stands}
use Rattle.spv_share.specs.declared.relations.Related.{Related}
use Rattle.spv_share.specs.declared.relations.Claim.{Claim}
use Rattle.spv_share.specs.declared.relations.Noted.{Noted}
use Rattle.spv_share.specs.declared.both.Both.{Both}
use Rattle.spv_share.specs.declared.ending.Outcome.{Outcome}
use Rattle.spv_share.specs.Both.{IsBoth, IsClaimed, IsSound, told}
use Rattle.spv_share.specs.States.{AllStands, AreApart, ClaimsStand, IsAtPoint, IsOpen, IsStill, is_equality, is_joined, JoinedStand}
use Rattle.spv_share.proofs.Points.{has_order, stands_back}
use Rattle.spv_share.proofs.Rowed.{literal_claimed}
use Rattle.spv_share.proofs.Seeking.{apart_still}

literal_at : (ls : List Literal) (i : ℕ) → i < length ls → (l : Literal) × (slice_get ls i ≡ Some l)
literal_at [] i h = absurd (omega arith)
literal_at (l ∷ ls) zero h = (l, refl)
literal_at (l ∷ ls) (suc i) h = literal_at ls i (omega arith)

-- ---- what stands goes on to stand

stands_on : (old new : Standing) (row : ℕ) (x : RowConstraint) → AddsSome old new → Stands old row x → Stands new row x
stands_on old new row x adds h = record {
  each = λ f at j bound there.
      ap (λ bs. bound_on bs row bound.side) adds.adds.bounds
      ∙ bound_stays old.tableau.bounds adds.more row bound.side bound.value (h.each f (ap (λ fs. slice_get fs row) (sym adds.adds.forms) ∙ at) j bound there);
}

joined_as : (old new : Both) (r : Related) → new.trail.graph ≡ old.trail.graph → is_joined new r ≡ true → is_joined old r ≡ true
joined_as old new r graph e = ap (λ (g : Graph). is_equality r.head && are_same g r.left r.right) (sym graph) ∙ e

-- where bounds are added
pub claims_on : (old new : Both) → AddsSome old.standing new.standing → new.claims.items ≡ old.claims.items → ClaimsStand old → ClaimsStand new
claims_on old new adds claims h = record { each = λ place n c at e. stands_on old.standing new.standing c.row c.saying adds (h.each place n c (ap (λ ns. slice_get ns place) (sym claims) ∙ at) e) }

-- where all is still
pub all_still : (old new : Both) → IsStill old new → AllStands old → AllStands new
all_still old new still h = record {
  claims = record { each = λ place n c at e. stands_back old.standing new.standing c.row c.saying still.back (h.claims.each place n c (ap (λ ns. slice_get ns place) (sym still.claims) ∙ at) e) };
  joined = record {
    each = λ row r at e. stands_back old.standing new.standing row Equal still.back (h.joined.each row r (ap (λ rs. slice_get rs row) (sym still.relations) ∙ at) (joined_as old new r still.graph e));
  };
}

pub opened : (a : Arena) (old new : Both) → IsSound a new → HasNoClash old.trail.graph → AreApart old (length old.relations.items) → IsStill old new → IsAtPoint new.standing → IsTableau new.standing.tableau → AllStands old → IsOpen new
opened a old new sound clash apart still point kept stand =
    let now = all_still old new still stand in
    record {
      clash = subst HasNoClash (sym still.graph) clash;
      point = point.met;
      answered = point.answered;
      claims = now.claims;
      joined = now.joined;
      apart = λ row r at e.
          let here = apart_still old new (length old.relations.items) still apart in
          let count : length new.relations.items ≡ length old.relations.items = ap length still.relations in
          has_order new.standing row kept point.met
          (here.each row r (subst (λ (n : ℕ). row < n) count (slice_get_within new.relations.items row r at)) at e);
    }

-- ---- no outcome

pub no_outcome : (P : Type 0) (o : Option Outcome) → IfNone o P → o ≡ None → P
no_outcome P None h e = h
no_outcome P (Some x) h e = absurd (cc)

pub then_all : {E : Type 0} (mid new : Both) (r : Result (Option Outcome) E) → AddsSome mid.standing new.standing → new.claims.items ≡ mid.claims.items → ClaimsStand mid → IfOk r (λ o. IfNone o (JoinedStand new)) → IfOk r (λ o. IfNone o (AllStands new))
then_all mid new (Err e) adds claims h k = tt
then_all mid new (Ok None) adds claims h k = record { claims = claims_on mid new adds claims h; joined = k }
then_all mid new (Ok (Some o)) adds claims h k = tt

pub all_then : {E : Type 0} (mid new : Both) (r : Result (Option Outcome) E) → IsStill mid new → AllStands mid → IfOk r (λ o. IfNone o (AllStands new))
all_then mid new (Err e) still h = tt
all_then mid new (Ok None) still h = all_still mid new still h
all_then mid new (Ok (Some o)) still h = tt

-- ---- one place more

abbrev pub FirstClaims : Both → ℕ → Type 0
FirstClaims b n = (place : ℕ) (m : Noted) (c : Claim) → place < n → slice_get b.claims.items place ≡ Some m → m.claim ≡ Some c → Stands b.standing c.row c.saying

pub claims_first : (b : Both) → FirstClaims b 0
claims_first b place m c below at e = absurd (none place below)
  where
    none : (n : ℕ) → n < 0 → ⊥
    none n h = omega arith

pub claims_more : (old new : Both) (n : ℕ) → AddsSome old.standing new.standing → new.claims.items ≡ old.claims.items → FirstClaims old n
    → ((m : Noted) (c : Claim) → slice_get old.claims.items n ≡ Some m → m.claim ≡ Some c → Stands new.standing c.row c.saying) → FirstClaims new (n + 1)
claims_more old new n adds claims h k place m c below at e = elim (cases_lt place n) [
  | inl less ↦ stands_on old.standing new.standing c.row c.saying adds (h place m c less (ap (λ ns. slice_get ns place) (sym claims) ∙ at) e)
  | inr more ↦ let same : place ≡ n = omega arith in k m c (ap (slice_get old.claims.items) (sym same) ∙ (ap (λ ns. slice_get ns place) (sym claims) ∙ at)) e
]

abbrev pub FirstJoined : Both → ℕ → Type 0
FirstJoined b n = (row : ℕ) (r : Related) → row < n → slice_get b.relations.items row ≡ Some r → is_joined b r ≡ true → Stands b.standing row Equal

pub joined_first : (b : Both) → FirstJoined b 0
joined_first b row r below at e = absurd (none row below)
  where
    none : (n : ℕ) → n < 0 → ⊥
    none n h = omega arith

pub joined_more : (old new : Both) (n : ℕ) → AddsSome old.standing new.standing → new.relations.items ≡ old.relations.items → new.trail.graph ≡ old.trail.graph → FirstJoined old n
    → ((r : Related) → slice_get old.relations.items n ≡ Some r → is_joined old r ≡ true → Stands new.standing n Equal) → FirstJoined new (n + 1)
joined_more old new n adds relations graph h k row r below at e =
    let there : slice_get old.relations.items row ≡ Some r = ap (λ rs. slice_get rs row) (sym relations) ∙ at in
    let was : is_joined old r ≡ true = joined_as old new r graph e in
    elim (cases_lt row n) [
      | inl less ↦ stands_on old.standing new.standing row Equal adds (h row r less there was)
      | inr more ↦ let same : row ≡ n = omega arith in
          subst (λ (i : ℕ). Stands new.standing i Equal) (sym same) (k r (ap (slice_get old.relations.items) (sym same) ∙ there) was)
    ]

-- ---- one place

-- a relation that the graph does not join
pub not_joined : (b : Both) (place : ℕ) (q : Related) (joined : Bool) → slice_get b.relations.items place ≡ Some q → joined ≡ is_joined b q → joined ≡ false → (r : Related) → slice_get b.relations.items place ≡ Some r → is_joined b r ≡ true
    → Stands b.standing place Equal
not_joined b place q joined at is none r there e =
    let same : q ≡ r = same_Some q r (sym at ∙ there) in
    let yes : joined ≡ true = is ∙ (ap (is_joined b) same ∙ e) in
    absurd (false≢true (sym none ∙ yes))

pub stands_at : (a : Arena) (b : Both) → IsSound a b → (st : Standing) (place : ℕ) (q : Related) → slice_get b.relations.items place ≡ Some q → Stands st q.row Equal → Stands st place Equal
stands_at a b h st place q at k = subst (λ (i : ℕ). Stands st i Equal) (h.related.are.placed place q at) k

pub if_stands_at : {E : Type 0} (a : Arena) (b new : Both) → IsSound a b → (place : ℕ) (q : Related) (r : Result (Option Outcome) E) → slice_get b.relations.items place ≡ Some q → IfOk r (λ o. IfNone o (Stands new.standing q.row Equal))
    → IfOk r (λ o. IfNone o ((p : Related) → slice_get b.relations.items place ≡ Some p → is_joined b p ≡ true → Stands new.standing place Equal))
if_stands_at a b new h place q (Err e) at k = tt
if_stands_at a b new h place q (Ok None) at k = λ p there e. stands_at a b h new.standing place q at k
if_stands_at a b new h place q (Ok (Some o)) at k = tt

-- what is noted at a place
pub noted_claimed : (a : Arena) (b : Both) → IsBoth a b → (place : ℕ) (n : Noted) (c : Claim) → slice_get b.claims.items place ≡ Some n → n.claim ≡ Some c → IsClaimed a b c n.fact
noted_claimed a b h place n c at e = by_literal (slice_get (told b) place) refl
  where
    by_literal : (o : Option Literal) → slice_get (told b) place ≡ o → IsClaimed a b c n.fact
    by_literal None f =
        let within : place < length (told b) = subst (λ (k : ℕ). place < k) h.claims.many (slice_get_within b.claims.items place n at) in
        absurd (missing (told b) place within f)
      where
        missing : (ls : List Literal) (i : ℕ) → i < length ls → slice_get ls i ≡ None → ⊥
        missing ls i w f = let there = literal_at ls i w in nothing there.0 (sym f ∙ there.1)
          where
            nothing : (l : Literal) → None ≡ Some l → ⊥
            nothing l h = cc
    by_literal (Some l) f =
        let k = h.claims.each place l n f at in
        literal_claimed a b h.sound l.atom l.part c n.fact (sym k.claim ∙ e) k.fact

pub if_noted : {E : Type 0} (b new : Both) (place : ℕ) (n : Noted) (c : Claim) (r : Result (Option Outcome) E) → slice_get b.claims.items place ≡ Some n → n.claim ≡ Some c → IfOk r (λ o. IfNone o (Stands new.standing c.row c.saying))
    → IfOk r (λ o. IfNone o ((m : Noted) (d : Claim) → slice_get b.claims.items place ≡ Some m → m.claim ≡ Some d → Stands new.standing d.row d.saying))
if_noted b new place n c (Err x) at e k = tt
if_noted b new place n c (Ok (Some o)) at e k = tt
if_noted b new place n c (Ok None) at e k = λ m d there f.
    let same_n : n ≡ m = same_Some n m (sym at ∙ there) in
    let same_c : c ≡ d = same_Some c d (sym e ∙ (ap (λ (x : Noted). x.claim) same_n ∙ f)) in
    subst (λ (x : Claim). Stands new.standing x.row x.saying) same_c k

pub none_noted : (b : Both) (place : ℕ) (n : Noted) → slice_get b.claims.items place ≡ Some n → n.claim ≡ None → (m : Noted) (d : Claim) → slice_get b.claims.items place ≡ Some m → m.claim ≡ Some d → Stands b.standing d.row d.saying
none_noted b place n at e m d there f = absurd (nothing d (sym e ∙ (ap (λ (x : Noted). x.claim) (same_Some n m (sym at ∙ there)) ∙ f)))
  where
    nothing : (d : Claim) → None ≡ Some d → ⊥
    nothing d h = cc
