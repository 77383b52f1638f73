-- What may be said of the row of a relation now.
use Rattle.std.proofs.Common.{◌≡◌, ℕ, zero, suc, ◌<◌, true, List, [], ◌∷◌, length, refl, sym, ap, ◌∙◌, subst, Some, arith}
use Rattle.std.specs.Prelude.{slice_get}
use Rattle.std.proofs.lemmas.Option.{same_Some}
use Rattle.spv_term.specs.Arena.{Arena}
use Rattle.spv_atoms.specs.Linear.{IdForm}
use Rattle.spv_logic.specs.declared.operators.Head.{Head}
use Rattle.spv_logic.specs.declared.operators.Head.TheVariants.{Eq}
use Rattle.spv_derivations.specs.declared.derivation.entries.Part.{Part}
use Rattle.spv_tableau_rules.specs.declared.constraints.saying.RowConstraint.{RowConstraint}
use Rattle.spv_arithmetic_side.specs.farkas.Told as told
use Rattle.spv_arithmetic_side.specs.constraint_rows.Said.{MaySay, Says}
use Rattle.spv_arithmetic_side.proofs.constraint_rows.Forms.{form_at}
use Rattle.spv_share.specs.declared.relations.Related.{Related}
use Rattle.spv_share.specs.declared.relations.Claim.{Claim}
use Rattle.spv_share.specs.declared.both.Both.{Both}
use Rattle.spv_share.specs.Relations.{may_say}
use Rattle.spv_share.specs.Both.{IsClaimed, IsSound}
use Rattle.spv_share.specs.States.{is_open}
use Rattle.spv_share.proofs.Closing.{open_head}
use Rattle.spv_share.proofs.Rowed.{count_is, row_inside}
use Rattle.spv_share.proofs.RowConstraint.{goes_with, told_may}

pub may_say_at : (a : Arena) (b : Both) → IsSound a b → (row : ℕ) (r : Related) (x : RowConstraint) → slice_get b.relations.items row ≡ Some r → row < length b.standing.tableau.forms → may_say x r.head ≡ true → MaySay b.standing row x
may_say_at a b h row r x at inside may =
    let form = form_at b.standing.tableau.forms row inside in
    let said = h.said.each row r form.0 at form.1 in
    record {
      other = said.saying;
      says = λ f there. subst (λ (g : IdForm). Says b.standing.tableau.bounds row g.constant said.saying) (same_Some form.0 f (sym form.1 ∙ there)) said.says;
      fits = goes_with r.head said.saying x said.may may;
    }

related_at : (rels : List Related) (n : ℕ) → n < length rels → (r : Related) × (slice_get rels n ≡ Some r)
related_at [] n h = absurd (omega arith)
related_at (r ∷ rels) zero h = (r, refl)
related_at (r ∷ rels) (suc n) h = related_at rels n (omega arith)

pub may_claim : (a : Arena) (b : Both) → IsSound a b → (c : Claim) (fact : ℕ) → IsClaimed a b c fact → MaySay b.standing c.row c.saying
may_claim a b h c fact k =
    let count = count_is a b.trail.graph.nodes b.relations.items b.standing.tableau.forms h.related in
    let r = related_at b.relations.items c.row (subst (λ (n : ℕ). c.row < n) (sym count) k.row_in) in
    may_say_at a b h c.row r.0 c.saying r.1 k.row_in (k.may r.0 r.1)

-- an order of the sides of an open equality
pub may_order : (a : Arena) (b : Both) → IsSound a b → (r : Related) → slice_get b.relations.items r.row ≡ Some r → is_open b r ≡ true → (p : Part) (x : RowConstraint) → told.told Eq p ≡ Some x → MaySay b.standing r.row x
may_order a b h r at unjoined p x e =
    may_say_at a b h r.row r x at (row_inside a b.trail.graph.nodes b.relations.items b.standing.tableau.forms h.related r.row r at)
    (told_may r.head p x (ap (λ (q : Head). told.told q p) (open_head b.trail.graph r unjoined) ∙ e))
