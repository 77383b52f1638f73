-- Steps along a row of routines.
use Rattle.std.proofs.Common.{◌≡◌, true, false, List, Option, Some, None, Ok, Err, is_some, refl, sym, ap, subst, ◌∙◌}
use Rattle.std.proofs.lemmas.Bool.{false≢true, true≢false}
use Rattle.spv_logic.specs.declared.names.names.Symbol.{Symbol}
use Rattle.spv_tree.specs.declared.syntax.routines.Heading.{Heading}
use Rattle.spv_tree.specs.declared.syntax.routines.Clauses.{Clauses}
use Rattle.spv_tree.specs.declared.syntax.routines.Locals.{Locals}
use Rattle.spv_typing.specs.declared.faults.TypeFault.{TypeFault}
use Rattle.spv_typing.specs.declared.faults.TypeFault.TheVariants.{Memory}
use Rattle.spv_typing.specs.Outcomes.{Outcome, after}
use Rattle.spv_typing.specs.Known.{Known, Specified}
use Rattle.spv_typing.specs.RoutineWalk.{Headed, Local, locals_walk}
use Rattle.spv_tree.specs.declared.syntax.routines.RoutineMark.TheVariants.{Announced, Begins}
use Rattle.spv_typing.specs.RoutineWalk.{heading_name}
use Rattle.spv_typing.specs.ProgramWalk.{Progress, announce, awaited_of, begin, begun_of, mark_walk, twice_at}
use Rattle.spv_environments.specs.Answers.{Stops}
use Rattle.spv_routine_typing.specs.declared.begun.Begun.{Begun}
use Rattle.spv_routine_typing.specs.Row.{progress_at}

-- want of memory says nothing
pub memory_stops : {A : Type 0} (e : TypeFault) (o : Outcome A) → e ≡ Memory → Stops e o
memory_stops e o is = subst (λ (e : TypeFault). Stops e o) (sym is) tt

-- one of this name waits
pub announced_twice : (bodies : List Symbol) (k : Known) (h : Heading) (c : Clauses) (o : Option Specified) → is_some o ≡ true → announce bodies k h c o ≡ Err (twice_at h)
announced_twice bodies k h c None there = absurd (false≢true there)
announced_twice bodies k h c (Some s) there = refl

pub not_announced : (o : Option Specified) → is_some o ≡ false → o ≡ None
not_announced None h = refl
not_announced (Some s) h = absurd (true≢false h)

-- a body begins behind its local declarations
pub begun_with : (k : Known) (h : Headed) (l : Locals) (local : Local) → locals_walk k h l ≡ Ok local
    → begun_of k h l ≡ Ok (record { known = local.known; begun = Some (record { specified = h.specified; local = local }) })
begun_with k h l local is = ap (λ (o : Outcome Local). after o (λ local. Ok (record { known = local.known; begun = Some (record { specified = h.specified; local = local }) }))) is

-- a routine that is in no other
module _ (bodies : List Symbol) (k : Known) (b : Option Begun) (outside : b ≡ None) (h : Heading) (c : Clauses) where
  pub announced_outside : (p : Progress) → announce bodies k h c (awaited_of k.awaited (heading_name h.form).symbol) ≡ Ok p → mark_walk bodies (progress_at k b) (Announced h c) ≡ Ok p
  announced_outside p is = ap (λ (b : Option Begun). mark_walk bodies (progress_at k b) (Announced h c)) outside ∙ is

  pub announced_stops : (e : TypeFault) → Stops e (announce bodies k h c (awaited_of k.awaited (heading_name h.form).symbol)) → Stops e (mark_walk bodies (progress_at k b) (Announced h c))
  announced_stops e stops = subst (λ (b : Option Begun). Stops e (mark_walk bodies (progress_at k b) (Announced h c))) (sym outside) stops

  module _ (l : Locals) where
    pub begins_outside : (p : Progress) → begin bodies k h c l (awaited_of k.awaited (heading_name h.form).symbol) ≡ Ok p → mark_walk bodies (progress_at k b) (Begins h c l) ≡ Ok p
    begins_outside p is = ap (λ (b : Option Begun). mark_walk bodies (progress_at k b) (Begins h c l)) outside ∙ is

    pub begins_stops : (e : TypeFault) → Stops e (begin bodies k h c l (awaited_of k.awaited (heading_name h.form).symbol)) → Stops e (mark_walk bodies (progress_at k b) (Begins h c l))
    begins_stops e stops = subst (λ (b : Option Begun). Stops e (mark_walk bodies (progress_at k b) (Begins h c l))) (sym outside) stops
