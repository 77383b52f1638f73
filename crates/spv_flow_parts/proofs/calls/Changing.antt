-- What a call changes: its VAR parameters and the items of its VAR groups, one after the other.
use Rattle.std.proofs.Common.{◌≡◌, true, false, List, [], ◌∷◌, ◌++◌, Bool, Result, Ok, Err, IsErrAnd, refl, sym, ap, subst, ◌∙◌}
use Rattle.std.specs.Prelude.{⊤}
use Rattle.std.proofs.lemmas.List.{append_assoc}
use Rattle.spv_logic.specs.declared.operators.Head.{Head}
use Rattle.spv_logic.specs.Terms.{Term}
use Rattle.spv_term.specs.Arena.{Arena, Extends}
use Rattle.spv_term.proofs.ArenaLemmas.{Extends-refl, Extends-trans}
use Rattle.spv_program.specs.Programs.{Formal, GlobalItem, Routine, Program}
use Rattle.spv_program.specs.Changes.{var_items}
use Rattle.spv_program.specs.Supplies.{Supply}
use Rattle.spv_program.specs.Calls as argument
use Rattle.spv_meaning.specs.Before.{Changed, and_changed, changed_items, changed_places}
use Rattle.spv_assign.specs.supply.Numbers.{AreThere}
use Rattle.spv_assign.specs.Conditions.{pairs_of}
use Rattle.spv_assign.specs.declared.creation_trace.faults.GenFault.{GenFault}
use Rattle.spv_assign.specs.creation_trace.Events.{Walked, Stops}
use Rattle.spv_assign.specs.creation_trace.StatementEvents.{several, pair_terms}
use Rattle.spv_assign.proofs.creation_trace.Walks.{adds_nothing, stopped_behind}
use Rattle.spv_assign.proofs.creation_trace.Covering.{AreCovered, covered_stops}
use Rattle.spv_assign.proofs.limited_steps.Limits.{same_stop}
use Rattle.spv_flow_parts.specs.declared.calls.entering.Changed as code_changed
use Rattle.spv_flow_parts.specs.calls.Arguments.{AreAfter, AddsChanged, changed_by_places}
use Rattle.spv_flow_parts.proofs.Steps.{append_nil}
use Rattle.spv_flow_parts.proofs.Pairs.{terms_both, two_walks, begun_covered}

-- ---- one after the other

abbrev pub changed_then : Changed → Changed → Changed
changed_then w v = record { in_exit = w.in_exit ++ v.in_exit; after = w.after ++ v.after; supply = v.supply }

abbrev pub none_changed : Supply → Changed
none_changed n = record { in_exit = []; after = []; supply = n }

pub then_none : (w : Changed) → changed_then w (none_changed w.supply) ≡ w
then_none w = let exit = append_nil w.in_exit in let after = append_nil w.after in λ i. record { in_exit = exit i; after = after i; supply = w.supply }

pub then_then : (u v w : Changed) → changed_then (changed_then u v) w ≡ changed_then u (changed_then v w)
then_then u v w =
    let exit = append_assoc u.in_exit v.in_exit w.in_exit in
    let after = append_assoc u.after v.after w.after in
    λ i. record { in_exit = exit i; after = after i; supply = w.supply }

-- the places, and then the items
pub places_then_items : (p : Program) (r : Routine) (formals : List Formal) (xs : List argument.Argument) (n : Supply)
    → changed_then (changed_by_places p formals xs n) (changed_items p r (var_items r.globals) (changed_by_places p formals xs n).supply) ≡ changed_places p r formals xs n
places_then_items p r [] xs n = refl
places_then_items p r (f ∷ formals) [] n = refl
places_then_items p r (f ∷ formals) (argument.Given t ∷ xs) n = places_then_items p r formals xs n
places_then_items p r (f ∷ formals) (argument.AtPlace d ∷ xs) n = ap (and_changed _ _) (places_then_items p r formals xs _)

-- the first place, and then the others
pub first_place : (p : Program) (f : Formal) (formals : List Formal) (x : argument.Argument) (xs : List argument.Argument) (n : Supply)
    → changed_by_places p (f ∷ formals) (x ∷ xs) n ≡ changed_then (changed_by_places p (f ∷ []) (x ∷ []) n) (changed_by_places p formals xs (changed_by_places p (f ∷ []) (x ∷ []) n).supply)
first_place p f formals (argument.Given t) xs n = refl
first_place p f formals (argument.AtPlace d) xs n = refl

-- the first item, and then the others
pub first_item : (p : Program) (r : Routine) (g : GlobalItem) (globals : List GlobalItem) (n : Supply)
    → changed_items p r (var_items (g ∷ globals)) n ≡ changed_then (changed_items p r (var_items (g ∷ [])) n) (changed_items p r (var_items globals) (changed_items p r (var_items (g ∷ [])) n).supply)
first_item p r g globals n = by g.is_var refl
  where
    by : (b : Bool) → g.is_var ≡ b → changed_items p r (var_items (g ∷ globals)) n ≡ changed_then (changed_items p r (var_items (g ∷ [])) n) (changed_items p r (var_items globals) (changed_items p r (var_items (g ∷ [])) n).supply)
    by true e = subst (λ (h : GlobalItem). changed_items p r (var_items (h ∷ globals)) n ≡ changed_then (changed_items p r (var_items (h ∷ [])) n) (changed_items p r (var_items globals) (changed_items p r (var_items (h ∷ [])) n).supply)) (λ i. record { item = g.item; is_var = sym e i; line = g.line }) refl
    by false e = subst (λ (h : GlobalItem). changed_items p r (var_items (h ∷ globals)) n ≡ changed_then (changed_items p r (var_items (h ∷ [])) n) (changed_items p r (var_items globals) (changed_items p r (var_items (h ∷ [])) n).supply)) (λ i. record { item = g.item; is_var = sym e i; line = g.line }) refl

-- ---- what was added

pub adds_none : (a : Arena) (n : Supply) (c : code_changed.Changed) → AreThere a n → AddsChanged (Ok tt) (none_changed n) a a c c n
adds_none a n c there = record {
  grows = Extends-refl a;
  walk = record { grows = Extends-refl a; there = tt; only = adds_nothing a []; lists = tt };
  in_exit = λ before h. subst (AreAfter a c.in_exit.items) (sym (append_nil before)) h;
  after = λ fit. sym (append_nil (pairs_of a c.after.items));
  fit = λ fit. fit;
  supply = refl;
  there = there;
}

-- what begins a list of pairs, and then stops, stops the list
pub pairs_stop : (w v whole rest : Changed) (e : GenFault) (a b c : Arena) → changed_then (changed_then w v) rest ≡ whole → Walked (several (pair_terms w.after)) a b → Stops e (several (pair_terms v.after)) b c
    → Stops e (several (pair_terms whole.after)) a c
pairs_stop w v whole rest e a b c is first stops =
    covered_stops (several (pair_terms w.after) ++ several (pair_terms v.after)) refl (pair_terms whole.after) covered e a c
    (stopped_behind e (several (pair_terms w.after)) (several (pair_terms v.after)) a b c first stops)
  where
    begins : pair_terms w.after ++ (pair_terms v.after ++ []) ≡ pair_terms (w.after ++ v.after)
    begins = ap (λ (l : List Term). pair_terms w.after ++ l) (append_nil (pair_terms v.after)) ∙ sym (terms_both w.after v.after)

    ends : pair_terms (w.after ++ v.after) ++ pair_terms rest.after ≡ pair_terms whole.after
    ends = sym (terms_both (w.after ++ v.after) rest.after) ∙ ap (λ (x : Changed). pair_terms x.after) is

    covered : AreCovered (pair_terms w.after ++ (pair_terms v.after ++ [])) (pair_terms whole.after)
    covered =
        subst (λ (l : List Term). AreCovered l (pair_terms whole.after)) (sym begins)
        (subst (λ (l : List Term). AreCovered (pair_terms (w.after ++ v.after)) l) ends (begun_covered (pair_terms (w.after ++ v.after)) (pair_terms rest.after)))

pub adds_stopped : (r : Result ⊤ GenFault) (e : GenFault) (w : Changed) (a b : Arena) (old new : code_changed.Changed) (n : Supply) → IsErrAnd r (λ f. f ≡ e) → Extends a b → Stops e (several (pair_terms w.after)) a b
    → AddsChanged r w a b old new n
adds_stopped (Ok x) e w a b old new n is grows stops = absurd is
adds_stopped (Err f) e w a b old new n is grows stops = record {
  grows = grows;
  walk = same_stop {X = ⊤} (Err f) e (several (pair_terms w.after)) a b is stops;
  in_exit = λ before h. tt;
  after = λ fit. tt;
  fit = λ fit. tt;
  supply = tt;
  there = tt;
}

-- what was added so far, and what is left of it
pub record AddedSoFar (a b : Arena) (n : Supply) (old new : code_changed.Changed) (rest whole : Changed) : Type 0 where
  pub done : Changed
  pub adds : AddsChanged (Ok tt) done a b old new n
  pub is : changed_then done rest ≡ whole

pub added_first : (a : Arena) (n : Supply) (c : code_changed.Changed) (whole : Changed) → AreThere a n → AddedSoFar a a n c c whole whole
added_first a n c whole there = record { done = none_changed n; adds = adds_none a n c there; is = refl }

module _ (a b c : Arena) (n m : Supply) (old mid new : code_changed.Changed) (v rest whole : Changed) (h : AddedSoFar a b n old mid (changed_then v rest) whole) where
  pub added_stops : (r : Result ⊤ GenFault) (e : GenFault) → IsErrAnd r (λ f. f ≡ e) → AddsChanged (Err e) v b c mid new m → AddsChanged r whole a c old new m
  added_stops r e is k =
      adds_stopped r e whole a c old new m is (Extends-trans h.adds.grows k.grows) (pairs_stop h.done v whole rest e a b c (then_then h.done v rest ∙ h.is) h.adds.walk k.walk)

  pub added_next : AddsChanged (Ok tt) v b c mid new m → AddedSoFar a c m old new rest whole
  added_next k = record {
    done = changed_then h.done v;
    adds = record {
      grows = Extends-trans h.adds.grows k.grows;
      walk = subst (λ (l : List Term). Walked (several l) a c) (sym (terms_both h.done.after v.after)) (two_walks (pair_terms h.done.after) (pair_terms v.after) h.adds.walk k.walk);
      in_exit = λ before g. subst (AreAfter c new.in_exit.items) (append_assoc before h.done.in_exit v.in_exit) (k.in_exit (before ++ h.done.in_exit) (h.adds.in_exit before g));
      after = λ fit. k.after (h.adds.fit fit) ∙ ap (λ (l : List (Head × Term)). l ++ v.after) (h.adds.after fit) ∙ append_assoc (pairs_of a old.after.items) h.done.after v.after;
      fit = λ fit. k.fit (h.adds.fit fit);
      supply = k.supply;
      there = k.there;
    };
    is = then_then h.done v rest ∙ h.is;
  }

pub added_all : (a b : Arena) (n : Supply) (old new : code_changed.Changed) (whole : Changed) → AddedSoFar a b n old new (none_changed n) whole → AddsChanged (Ok tt) whole a b old new n
added_all a b n old new whole h = subst (λ (w : Changed). AddsChanged (Ok tt) w a b old new n) (same h.adds.supply) h.adds
  where
    same : n ≡ h.done.supply → h.done ≡ whole
    same e = sym (then_none h.done) ∙ ap (λ (m : Supply). changed_then h.done (none_changed m)) (sym e) ∙ h.is
