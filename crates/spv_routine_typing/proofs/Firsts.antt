-- First headings, and what comes behind them.
use Rattle.std.proofs.Common.{◌≡◌, true, false, List, [], ◌∷◌, ◌++◌, None, Ok, Err, sym, ap, subst, ◌∙◌}
use Rattle.spv_logic.proofs.list.Tests.{left_true}
use Rattle.spv_logic.specs.declared.names.names.Symbol.{Symbol}
use Rattle.spv_tree.specs.declared.syntax.routines.Heading.{Heading as HeadingText}
use Rattle.spv_tree.specs.declared.syntax.routines.Clauses.{Clauses}
use Rattle.spv_tree.specs.declared.syntax.routines.Locals.{Locals}
use Rattle.spv_typing.specs.declared.faults.TypeFault.{TypeFault}
use Rattle.spv_typing.specs.Outcomes.{Outcome, after, where_so, twice}
use Rattle.spv_typing.specs.Known as known
use Rattle.spv_typing.specs.RoutineWalk.{Headed, heading_name, form_walk, with_heading}
use Rattle.spv_typing.specs.ProgramWalk.{Progress, announce, begin_first, begun_of, first_heading, number_of, with_awaited}
use Rattle.spv_environments.specs.declared.routines.Heading.{Heading}
use Rattle.spv_environments.specs.Answers.{Stops}
use Rattle.spv_environments.specs.Views.{heading_of}

pub free_alone : (k : known.Known) (x : Symbol) → known.is_free_for_call k x ≡ true → known.is_free k x ≡ true
free_alone k x h = left_true (known.is_free k x) _ h

module _ (bodies : List Symbol) (k : known.Known) (h : HeadingText) (c : Clauses) where
  pub first_taken : known.is_free_for_call k (heading_name h.form).symbol ≡ false → first_heading bodies k h c ≡ Err (twice (heading_name h.form))
  first_taken taken = ap (λ b. where_so b (twice (heading_name h.form)) (form_walk k (number_of bodies (heading_name h.form).symbol) h.line c h.form)) taken

  pub first_walked : known.is_free_for_call k (heading_name h.form).symbol ≡ true
      → first_heading bodies k h c ≡ form_walk k (number_of bodies (heading_name h.form).symbol) h.line c h.form
  first_walked free = ap (λ b. where_so b (twice (heading_name h.form)) (form_walk k (number_of bodies (heading_name h.form).symbol) h.line c h.form)) free

  module _ (headed : Headed) (is : first_heading bodies k h c ≡ Ok headed) where
    pub begun_first : (l : Locals) (next : known.Known) (p : Progress) → next ≡ with_heading k headed.specified.heading → begun_of next headed l ≡ Ok p → begin_first bodies k h c l ≡ Ok p
    begun_first l next p same begun =
        ap (λ (o : Outcome Headed). after o (λ headed. begun_of (with_heading k headed.specified.heading) headed l)) is
        ∙ (ap (λ (next : known.Known). begun_of next headed l) (sym same) ∙ begun)

    pub first_stops : (l : Locals) (next : known.Known) (e : TypeFault) → next ≡ with_heading k headed.specified.heading → Stops e (begun_of next headed l) → Stops e (begin_first bodies k h c l)
    first_stops l next e same stops =
        subst (λ (o : Outcome Progress). Stops e o)
        (sym (ap (λ (o : Outcome Headed). after o (λ headed. begun_of (with_heading k headed.specified.heading) headed l)) is
        ∙ ap (λ (next : known.Known). begun_of next headed l) (sym same))) stops

    pub first_announced : (next last : known.Known) → next ≡ with_heading k headed.specified.heading → last ≡ with_awaited next (next.awaited ++ headed.specified ∷ [])
        → announce bodies k h c None ≡ Ok (record { known = last; begun = None })
    first_announced next last same put =
        ap (λ (o : Outcome Headed). after o (λ headed.
        Ok (record { known = with_awaited (with_heading k headed.specified.heading) ((with_heading k headed.specified.heading).awaited ++ headed.specified ∷ []); begun = None }))) is
        ∙ ap (λ (k : known.Known). Ok (record { known = k; begun = None }))
        (ap (λ (next : known.Known). with_awaited next (next.awaited ++ headed.specified ∷ [])) (sym same) ∙ sym put)

-- a copy of a heading is known
pub copy_known : (k middle next : known.Known) (name : Symbol) (h copy : Heading) → next ≡ with_heading middle (heading_of name copy) → middle ≡ k → copy ≡ h
    → next ≡ with_heading k (heading_of name h)
copy_known k middle next name h copy put same copied = put ∙ (λ i. with_heading (same i) (heading_of name (copied i)))
