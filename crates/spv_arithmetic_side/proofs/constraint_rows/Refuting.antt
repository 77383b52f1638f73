-- What a row excludes, as what refutes it, and as the end of a path.
use Rattle.std.proofs.Common.{◌≡◌, ℕ, ◌<◌, List, [], ◌∷◌, map, length, pos, refl, sym, ap, ◌∙◌, subst, Result, Ok, Err, IfOk}
use Rattle.spv_whole.specs.Fraction.{Fraction}
use Rattle.spv_term.specs.Arena.{Arena}
use Rattle.spv_atoms.specs.Linear.{IdForm, PartsIn}
use Rattle.spv_proof_rules.specs.Sums.{difference, is_at_most_zero, cited_reading, refutes}
use Rattle.spv_tableau_rules.specs.declared.tableaux.side.Side.{Side}
use Rattle.spv_derivations.specs.declared.derivation.entries.Entry.{Entry}
use Rattle.spv_derivations.specs.derivation.Derivation.{facts}
use Rattle.spv_derivations.specs.derivation.Derived.{is_number}
use Rattle.spv_tableau_rules.specs.declared.constraints.saying.RowConstraint.{RowConstraint}
use Rattle.spv_tableau_rules.specs.constraints.Sources.{fact_multiples}
use Rattle.spv_tableau_rules.proofs.constraints.Sourcing.{kept_in_step}
use Rattle.spv_arithmetic_side.specs.bounds.Multiples.{multiple_in}
use Rattle.spv_arithmetic_side.specs.declared.bounds.sources.RowSources.{RowSources}
use Rattle.spv_arithmetic_side.specs.bounds.Sources.{sources_in}
use Rattle.spv_arithmetic_side.specs.farkas.Laws.{RefutedAbove}
use Rattle.spv_arithmetic_side.specs.farkas.Refuted.{IsRefuted}
use Rattle.spv_arithmetic_side.specs.declared.constraint_rows.standing.Standing.{Standing}
use Rattle.spv_arithmetic_side.specs.declared.constraint_rows.forcing.Tried.{Tried}
use Rattle.spv_arithmetic_side.specs.declared.constraint_rows.forcing.Tried.TheVariants.{Refuted, Met, Stopped}
use Rattle.spv_arithmetic_side.specs.constraint_rows.Standing.{IsBack, readings, Sourced}
use Rattle.spv_arithmetic_side.specs.constraint_rows.Forcing.{IsRefutedBy, IsTried, Refutes}
use Rattle.spv_arithmetic_side.specs.constraint_rows.Said.{AreOpposed, IsContrary, two_sides}
use Rattle.spv_arithmetic_side.proofs.constraint_rows.Forms.{form_at}
use Rattle.spv_arithmetic_side.proofs.constraint_rows.Opposing.{one_in, two_bounds, two_contradict, two_sourced}

abbrev pub SideList : Type 0
SideList = List (ℕ × Side × Fraction)

pub opposed_refutes : (law : RefutedAbove) (b : Standing) (row : ℕ) (x : RowConstraint) (from : RowSources) (sides : SideList) (sources : List RowSources) (list : List (Fraction × ℕ)) → row < length b.tableau.forms → AreOpposed b row x 0 from → sides ≡ two_sides
    → sources ≡ from ∷ [] → list ≡ fact_multiples (sources_in sources) (map multiple_in sides) → Refutes b row x list
opposed_refutes law b row x from sides sources list inside opposed sides_are sources_are is = record {
  shown = λ a es p q ok all stands by.
      let cited = cited_reading (is_number a) (facts a es) (is_at_most_zero (difference q p (pos 1))) in
      let step : Sourced a cited b b.tableau.bounds =
      kept_in_step (is_number a) a (facts a es) (is_at_most_zero (difference q p (pos 1))) b.tableau.forms b.tableau.bounds (sources_in b.sources.items) stands in
      let form = form_at b.tableau.forms row inside in
      let c : IsContrary a cited row form.0 from = opposed.shown a cited form.0 form.1 step by in
      ap (refutes (is_number a) (facts a es) p q) (is ∙ (ap (λ xs. fact_multiples (sources_in xs) (map multiple_in sides)) sources_are ∙ ap (λ (ms : SideList). fact_multiples (sources_in (from ∷ [])) (map multiple_in ms)) sides_are))
      ∙ law a ok es p q (sources_in (from ∷ [])) (map multiple_in two_sides) (record {
        forms = form.0 ∷ [];
        bounds = two_bounds form.0 c.low c.high c.less;
        inside = one_in a form.0 (all.each row form.0 form.1);
        sourced = two_sourced a cited row form.0 from c;
        contradiction = two_contradict form.0 c.low c.high c.less;
      });
}

pub contrary_refuted : (a : Arena) (es : List Entry) (row : ℕ) (f : IdForm) (from : RowSources) (sides : SideList) (sources : List RowSources) → PartsIn a f.parts → IsContrary a (readings a es) row f from → sides ≡ two_sides → sources ≡ from ∷ []
    → IsRefuted a es (sources_in sources) (map multiple_in sides)
contrary_refuted a es row f from sides sources parts c sides_are sources_are =
    subst (λ (xs : List RowSources). IsRefuted a es (sources_in xs) (map multiple_in sides)) (sym sources_are)
    (subst (λ (ms : SideList). IsRefuted a es (sources_in (from ∷ [])) (map multiple_in ms)) (sym sides_are)
    (record {
      forms = f ∷ [];
      bounds = two_bounds f c.low c.high c.less;
      inside = one_in a f parts;
      sourced = two_sourced a (readings a es) row f from c;
      contradiction = two_contradict f c.low c.high c.less;
    }))

-- ---- what is refuted at once

pub back_same : (old new : Standing) → new ≡ old → IsBack old new
back_same old new e = subst (λ (b : Standing). IsBack old b) (sym e) (record { forms = refl; pivots = refl; bounds = refl; first = λ a read n within h. h })

pub refuted_tried : {E : Type 0} (b : Standing) (row : ℕ) (x : RowConstraint) (r : Result Tried E) → IfOk r (λ t. IsRefutedBy b row x t) → IfOk r (λ t. IsTried b row x t)
refuted_tried b row x (Err e) h = tt
refuted_tried b row x (Ok (Refuted ms)) h = h
refuted_tried b row x (Ok Met) h = absurd h
refuted_tried b row x (Ok Stopped) h = absurd h

not_met : (b : Standing) (row : ℕ) (x : RowConstraint) (t : Tried) → IsRefutedBy b row x t → t ≡ Met → ⊥
not_met b row x (Refuted ms) h e = cc
not_met b row x Met h e = h
not_met b row x Stopped h e = h

not_stopped : (b : Standing) (row : ℕ) (x : RowConstraint) (t : Tried) → IsRefutedBy b row x t → t ≡ Stopped → ⊥
not_stopped b row x (Refuted ms) h e = cc
not_stopped b row x Met h e = h
not_stopped b row x Stopped h e = h

pub refuted_met : {E : Type 0} (b : Standing) (row : ℕ) (x : RowConstraint) (r : Result Tried E) (P : Type 0) → IfOk r (λ t. IsRefutedBy b row x t) → IfOk r (λ t. t ≡ Met → P)
refuted_met b row x (Err e) P h = tt
refuted_met b row x (Ok t) P h = λ e. absurd (not_met b row x t h e)

pub refuted_stopped : {E : Type 0} (b : Standing) (row : ℕ) (x : RowConstraint) (r : Result Tried E) (P : Type 0) → IfOk r (λ t. IsRefutedBy b row x t) → IfOk r (λ t. t ≡ Stopped → P)
refuted_stopped b row x (Err e) P h = tt
refuted_stopped b row x (Ok t) P h = λ e. absurd (not_stopped b row x t h e)
