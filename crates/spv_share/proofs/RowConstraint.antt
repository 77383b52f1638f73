-- What the rows of relations say.
use Rattle.std.proofs.Common.{◌≡◌, ℕ, true, false, List, [], refl, sym, ap, ◌∙◌, subst, Some, None}
use Rattle.std.specs.Prelude.{slice_get}
use Rattle.std.proofs.lemmas.Bool.{false≢true}
use Rattle.std.proofs.lemmas.Option.{same_Some}
use Rattle.spv_logic.specs.declared.operators.Head.{Head}
use Rattle.spv_logic.specs.declared.operators.Head.TheVariants.{Eq, Lt, Le}
use Rattle.spv_atoms.specs.Linear.{IdForm}
use Rattle.spv_tableau_rules.specs.declared.tableaux.side.Side.{Side}
use Rattle.spv_tableau_rules.specs.declared.tableaux.side.Side.TheVariants.{Lower, Upper}
use Rattle.spv_tableau_rules.specs.tableaux.Bounds.{Bound}
use Rattle.spv_derivations.specs.declared.derivation.entries.Part.{Part}
use Rattle.spv_derivations.specs.declared.derivation.entries.Part.TheVariants as part
use Rattle.spv_tableau_rules.specs.declared.constraints.saying.RowConstraint.{RowConstraint}
use Rattle.spv_tableau_rules.specs.declared.constraints.saying.RowConstraint.TheVariants.{Equal, Below, AtMost, Above, AtLeast, Differs}
use Rattle.spv_arithmetic_side.specs.farkas.Told as told
use Rattle.spv_arithmetic_side.specs.declared.constraint_rows.standing.Standing.{Standing}
use Rattle.spv_arithmetic_side.specs.constraint_rows.Said.{bound_in, contrary, GoesWith, none_said, same_said, Says, says_none, SaysStill, as_before, just_said}
use Rattle.spv_share.specs.declared.relations.Related.{Related}
use Rattle.spv_share.specs.Relations.{AreSaid, IsSaid, may_say}

-- ---- what is told of a relation may be said of its row

module _ (h : Head) where
  as_said : (x y : RowConstraint) → may_say x h ≡ true → Some x ≡ Some y → may_say y h ≡ true
  as_said x y m e = subst (λ (z : RowConstraint). may_say z h ≡ true) (same_Some x y e) m

nothing_told : (x : RowConstraint) → None ≡ Some x → ⊥
nothing_told x e = cc

pub told_may : (h : Head) (p : Part) (x : RowConstraint) → told.told h p ≡ Some x → may_say x h ≡ true
told_may Eq part.True x e = as_said Eq Equal x refl e
told_may Eq part.False x e = as_said Eq Differs x refl e
told_may Eq part.Below x e = as_said Eq Below x refl e
told_may Eq part.Above x e = as_said Eq Above x refl e
told_may Lt part.True x e = as_said Lt Below x refl e
told_may Lt part.False x e = as_said Lt AtLeast x refl e
told_may Lt part.Below x e = absurd (nothing_told x e)
told_may Lt part.Above x e = absurd (nothing_told x e)
told_may Le part.True x e = as_said Le AtMost x refl e
told_may Le part.False x e = as_said Le Above x refl e
told_may Le part.Below x e = absurd (nothing_told x e)
told_may Le part.Above x e = absurd (nothing_told x e)
told_may h part.True x e = absurd (cc)
told_may h part.False x e = absurd (cc)
told_may h part.Below x e = absurd (cc)
told_may h part.Above x e = absurd (cc)

-- ---- any two of them go together, or exclude each other

equal_head : (h : Head) → may_say Equal h ≡ true → h ≡ Eq
equal_head Eq e = refl
equal_head h e = absurd (cc)

most_head : (h : Head) → may_say AtMost h ≡ true → h ≡ Le
most_head Le e = refl
most_head h e = absurd (cc)

least_head : (h : Head) → may_say AtLeast h ≡ true → h ≡ Lt
least_head Lt e = refl
least_head h e = absurd (cc)

not_of : (x : RowConstraint) (h k : Head) → may_say x h ≡ true → h ≡ k → may_say x k ≡ false → ⊥
not_of x h k m e f = false≢true (sym f ∙ subst (λ (g : Head). may_say x g ≡ true) e m)

pub goes_with : (h : Head) (x y : RowConstraint) → may_say x h ≡ true → may_say y h ≡ true → GoesWith x y
goes_with h Differs y m n = none_said refl
goes_with h Equal Differs m n = says_none refl
goes_with h Equal Equal m n = same_said refl
goes_with h Equal Below m n = contrary refl
goes_with h Equal Above m n = contrary refl
goes_with h Equal AtMost m n = absurd (not_of AtMost h Eq n (equal_head h m) refl)
goes_with h Equal AtLeast m n = absurd (not_of AtLeast h Eq n (equal_head h m) refl)
goes_with h Below Differs m n = says_none refl
goes_with h Below Equal m n = contrary refl
goes_with h Below Below m n = same_said refl
goes_with h Below Above m n = contrary refl
goes_with h Below AtMost m n = absurd (not_of Below h Le m (most_head h n) refl)
goes_with h Below AtLeast m n = contrary refl
goes_with h Above Differs m n = says_none refl
goes_with h Above Equal m n = contrary refl
goes_with h Above Below m n = contrary refl
goes_with h Above Above m n = same_said refl
goes_with h Above AtMost m n = contrary refl
goes_with h Above AtLeast m n = absurd (not_of Above h Lt m (least_head h n) refl)
goes_with h AtMost Differs m n = says_none refl
goes_with h AtMost Equal m n = absurd (not_of Equal h Le n (most_head h m) refl)
goes_with h AtMost Below m n = absurd (not_of Below h Le n (most_head h m) refl)
goes_with h AtMost Above m n = contrary refl
goes_with h AtMost AtMost m n = same_said refl
goes_with h AtMost AtLeast m n = absurd (not_of AtLeast h Le n (most_head h m) refl)
goes_with h AtLeast Differs m n = says_none refl
goes_with h AtLeast Equal m n = absurd (not_of Equal h Lt n (least_head h m) refl)
goes_with h AtLeast Below m n = contrary refl
goes_with h AtLeast Above m n = absurd (not_of Above h Lt n (least_head h m) refl)
goes_with h AtLeast AtMost m n = absurd (not_of AtMost h Lt n (least_head h m) refl)
goes_with h AtLeast AtLeast m n = same_said refl

-- ---- rows

-- without bounds, each says nothing
pub said_none : (rels : List Related) (forms : List IdForm) (bounds : List Bound) → bounds ≡ [] → AreSaid rels forms bounds
said_none rels forms bounds e = subst (λ (bs : List Bound). AreSaid rels forms bs) (sym e) (record { each = λ row r f at form. record { saying = Differs; may = refl; says = record { on = nothing_on f } } })
  where
    nothing_on : (f : IdForm) (side : Side) → None ≡ bound_in f.constant Differs side
    nothing_on f Lower = refl
    nothing_on f Upper = refl

pub said_as : (rels now : List Related) (forms fs : List IdForm) (bounds bs : List Bound) → now ≡ rels → fs ≡ forms → bs ≡ bounds → AreSaid rels forms bounds → AreSaid now fs bs
said_as rels now forms fs bounds bs e f g h =
    subst (λ (rs : List Related). AreSaid rs fs bs) (sym e) (subst (λ (gs : List IdForm). AreSaid rels gs bs) (sym f) (subst (λ (xs : List Bound). AreSaid rels forms xs) (sym g) h))

-- after something was said of one
pub said_on : (rels : List Related) (old new : Standing) (row : ℕ) (x : RowConstraint) → new.tableau.forms ≡ old.tableau.forms → ((r : Related) → slice_get rels row ≡ Some r → may_say x r.head ≡ true)
    → ((i : ℕ) (f : IdForm) (y : RowConstraint) → slice_get old.tableau.forms i ≡ Some f → Says old.tableau.bounds i f.constant y → SaysStill row x new.tableau.bounds i f.constant y) → AreSaid rels old.tableau.forms old.tableau.bounds
    → AreSaid rels new.tableau.forms new.tableau.bounds
said_on rels old new row x forms may still h = record { each = each }
  where
    each : (i : ℕ) (r : Related) (f : IdForm) → slice_get rels i ≡ Some r → slice_get new.tableau.forms i ≡ Some f → IsSaid new.tableau.bounds i r.head f.constant
    each i r f at form = by_way (still i f k.saying there k.says)
      where
        there : slice_get old.tableau.forms i ≡ Some f
        there = ap (λ fs. slice_get fs i) (sym forms) ∙ form

        k : IsSaid old.tableau.bounds i r.head f.constant
        k = h.each i r f at there

        by_way : SaysStill row x new.tableau.bounds i f.constant k.saying → IsSaid new.tableau.bounds i r.head f.constant
        by_way (as_before s) = record { saying = k.saying; may = k.may; says = s }
        by_way (just_said same s) = record { saying = x; may = may r (ap (slice_get rels) (sym same) ∙ at); says = s }
