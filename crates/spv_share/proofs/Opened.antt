-- Both sides as they are opened.
use Rattle.std.proofs.Common.{ap, ◌≡◌, List, [], map, sym, subst}
use Rattle.spv_derivations.specs.derivation.Literals.{literals}
use Rattle.spv_logic.specs.declared.conditions.TermId.{TermId}
use Rattle.spv_logic.specs.Terms.{Term}
use Rattle.spv_term.specs.Arena.{Arena, tree}
use Rattle.spv_atoms.specs.Linear.{IdForm}
use Rattle.spv_tableau_rules.specs.tableaux.Bounds.{Bound}
use Rattle.spv_proof.specs.sums.Readings.{number_in}
use Rattle.spv_tableau_rules.specs.constraints.Relations.{AreIn, AreRowsOf, relations}
use Rattle.spv_tableau_rules.proofs.constraints.Placing.{rows_in}
use Rattle.spv_tableau_rules.proofs.constraints.Sourcing.{none_sourced}
use Rattle.spv_arithmetic_side.specs.farkas.Refuted.{AreOneAndZero}
use Rattle.spv_arithmetic_side.specs.bounds.Sources.{sources_in}
use Rattle.spv_arithmetic_side.specs.constraint_rows.Standing.{IsStanding, readings, Sourced}
use Rattle.spv_share.specs.declared.both.Both.{Both}
use Rattle.spv_share.specs.declared.both.Ends.{Ends}
use Rattle.spv_share.specs.Relations.{IsGathered, sayable}
use Rattle.spv_share.proofs.Noted.{noted_none}
use Rattle.spv_share.proofs.RowConstraint.{said_none}
use Rattle.spv_simplex.specs.Checks.{HoldsAsserted}
use Rattle.spv_congruence.specs.declared.facts.Fact.{Fact}
use Rattle.spv_explanations.specs.congruence_side.Telling.{ties}
use Rattle.spv_share.proofs.Reasons.{reasons_none}
use Rattle.spv_share.proofs.Ties.{tied_none}
use Rattle.spv_share.specs.Both.{AreEnds, AreReasoned, IsBoth, told}

pub both_opens : (a : Arena) (atoms : List TermId) (ends : Ends) (forms : List IdForm) (b : Both) → AreEnds a ends → AreRowsOf a (relations (number_in a) (map (tree a) atoms)) forms → IsGathered a b.trail atoms b.relations.items → IsStanding b.standing
    → b.standing.tableau.forms ≡ forms → b.standing.tableau.bounds ≡ [] → b.claims.items ≡ [] → b.one ≡ ends.one → b.zero ≡ ends.zero → ((known : List Bound) → HoldsAsserted known b.standing.tableau) → IsBoth a b
both_opens a atoms ends forms b known rows g stands forms_are none claims one zero_is asserted = record {
  sound = record {
    trail = g.holds;
    standing = stands;
    related = record {
      are = g.are;
      rows =
          let P : List (Term × Term) → Type 0 = λ sides. AreRowsOf a sides b.standing.tableau.forms in
          let Q : List IdForm → Type 0 = λ fs. AreRowsOf a (relations (number_in a) (map (tree a) atoms)) fs in
          subst P (sym g.among) (subst Q (sym forms_are) rows);
    };
    sourced = let P : List Bound → Type 0 = λ bs. Sourced a (readings a b.trail.derivation) b.standing bs in subst P (sym none) (none_sourced a (readings a b.trail.derivation) b.standing.tableau.forms (sources_in b.standing.sources.items));
    inside = let P : List IdForm → Type 0 = λ fs. AreIn a fs in subst P (sym forms_are) (rows_in a (relations (number_in a) (map (tree a) atoms)) forms rows);
    numbers =
        let P : TermId → Type 0 = λ t. AreOneAndZero a t b.zero in
        let Q : TermId → Type 0 = λ t. AreOneAndZero a ends.one t in
        subst P (sym one) (subst Q (sym zero_is) known.numbers);
    asserted = asserted (sayable b.relations.items b.standing.tableau.forms);
    said = said_none b.relations.items b.standing.tableau.forms b.standing.tableau.bounds none;
  };
  claims = noted_none a b.relations.items b.trail.derivation b.claims.items g.derivation claims;
  tied = tied_none a b.trail.truth b.trail.falsity (told b) (ties b.trail.graph.told) (ap literals g.derivation);
  reasons = subst (λ (xs : List Fact). AreReasoned a b.relations.items (told b) (ties xs)) (sym g.untold) (reasons_none a b.relations.items (told b));
}
