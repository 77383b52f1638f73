-- Routines that wait for their bodies.
use Rattle.std.proofs.Common.{◌≡◌, ◌≤◌, ◌+◌, ℕ, zero, suc, Bool, true, false, cond, not, List, [], ◌∷◌, ◌++◌, length, drop, map, Option, Some, None, Ok, Err, refl, sym, ap, ◌∙◌, slice_get, arith}
use Rattle.std.proofs.lemmas.Bool.{eqb-true}
use Rattle.std.proofs.lemmas.Option.{none-some}
use Rattle.std.proofs.lemmas.List.{map-append, drop_all}
use Rattle.spv_logic.specs.declared.names.names.Symbol.{Symbol}
use Rattle.spv_program.specs.Lists.{found, changed, same_name}
use Rattle.spv_program.specs.ordered_map.Entries.{without_name, AreApart}
use Rattle.spv_program.specs.declared.typed.programs.Routine.{Routine as RoutineText}
use Rattle.spv_program.specs.typed.ProgramViews.{routine_of}
use Rattle.spv_typing.specs.declared.faults.TypeFault.TheVariants.{Undeclared}
use Rattle.spv_typing.specs.Known as spec
use Rattle.spv_typing.specs.ProgramWalk.{awaited_of, without, none_awaited}
use Rattle.spv_environments.specs.declared.routines.Specified.{Specified}
use Rattle.spv_environments.specs.Views.{specified_of, waiting}

abbrev Table : Type 0
Table = List (Symbol × Option Specified)

-- what waits in front of others
abbrev waits_before : Symbol → Option Specified → List spec.Specified → List spec.Specified
waits_before name (Some s) others = specified_of name s ∷ others
waits_before name None others = others

opened : (name : Symbol) (o : Option Specified) (table : Table) → waiting ((name, o) ∷ table) ≡ waits_before name o (waiting table)
opened name (Some s) table = refl
opened name None table = refl

-- ---- looking a name up

missing_in : (table : Table) (name : Symbol) → found table name ≡ None → awaited_of (waiting table) name ≡ None
missing_in [] name h = refl
missing_in ((x, o) ∷ table) name h = by_case (same_name x name) o refl h (missing_in table name)
  where
    by_case : (b : Bool) (o : Option Specified) → same_name x name ≡ b → cond b (Some o) (found table name) ≡ None → (found table name ≡ None → awaited_of (waiting table) name ≡ None)
        → awaited_of (waiting ((x, o) ∷ table)) name ≡ None
    by_case true o same h later = absurd (none-some _ (sym h))
    by_case false (Some s) same h later = ap (λ b. cond b (Some (specified_of x s)) (awaited_of (waiting table) name)) same ∙ later h
    by_case false None same h later = later h

waits_in : (table : Table) (name : Symbol) (s : Specified) → found table name ≡ Some (Some s) → awaited_of (waiting table) name ≡ Some (specified_of name s)
waits_in [] name s h = absurd (none-some _ h)
waits_in ((x, o) ∷ table) name s h = by_case (same_name x name) o refl h (waits_in table name s)
  where
    by_case : (b : Bool) (o : Option Specified) → same_name x name ≡ b → cond b (Some o) (found table name) ≡ Some (Some s)
        → (found table name ≡ Some (Some s) → awaited_of (waiting table) name ≡ Some (specified_of name s)) → awaited_of (waiting ((x, o) ∷ table)) name ≡ Some (specified_of name s)
    by_case true (Some t) same h later =
        ap (λ b. cond b (Some (specified_of x t)) (awaited_of (waiting table) name)) same
        ∙ (ap (λ (n : ℕ). Some (specified_of (record { 0 = n }) t)) (eqb-true x.0 name.0 same) ∙ of_same t s cc)
      where
        of_same : (t s : Specified) → t ≡ s → Some (specified_of name t) ≡ Some (specified_of name s)
        of_same t s e = ap (λ (u : Specified). Some (specified_of name u)) e
    by_case true None same h later = absurd cc
    by_case false (Some t) same h later = ap (λ b. cond b (Some (specified_of x t)) (awaited_of (waiting table) name)) same ∙ later h
    by_case false None same h later = later h

begun_in : (table : Table) (name : Symbol) → AreApart table → found table name ≡ Some None → awaited_of (waiting table) name ≡ None
begun_in [] name apart h = refl
begun_in ((x, o) ∷ table) name apart h = by_case (same_name x name) o refl h (begun_in table name apart.1)
  where
    by_case : (b : Bool) (o : Option Specified) → same_name x name ≡ b → cond b (Some o) (found table name) ≡ Some None
        → (found table name ≡ Some None → awaited_of (waiting table) name ≡ None) → awaited_of (waiting ((x, o) ∷ table)) name ≡ None
    by_case true (Some t) same h later = absurd cc
    by_case true None same h later = missing_in table name (ap (λ (n : ℕ). found table (record { 0 = n })) (sym (eqb-true x.0 name.0 same)) ∙ apart.0)
    by_case false (Some t) same h later = ap (λ b. cond b (Some (specified_of x t)) (awaited_of (waiting table) name)) same ∙ later h
    by_case false None same h later = later h

module _ (awaited : List spec.Specified) (table : Table) (is : awaited ≡ waiting table) (name : Symbol) where
  pub name_waits : (s : Specified) → found table name ≡ Some (Some s) → awaited_of awaited name ≡ Some (specified_of name s)
  name_waits s h = ap (λ (l : List spec.Specified). awaited_of l name) is ∙ waits_in table name s h

  pub name_has_begun : AreApart table → found table name ≡ Some None → awaited_of awaited name ≡ None
  name_has_begun apart h = ap (λ (l : List spec.Specified). awaited_of l name) is ∙ begun_in table name apart h

  pub name_missing : found table name ≡ None → awaited_of awaited name ≡ None
  name_missing h = ap (λ (l : List spec.Specified). awaited_of l name) is ∙ missing_in table name h

-- ---- one more

removed_waits : (table : Table) (name : Symbol) → awaited_of (waiting table) name ≡ None → waiting (without_name table name) ≡ waiting table
removed_waits [] name h = refl
removed_waits ((x, o) ∷ table) name h = by_case (same_name x name) o refl h (removed_waits table name)
  where
    by_case : (b : Bool) (o : Option Specified) → same_name x name ≡ b → awaited_of (waiting ((x, o) ∷ table)) name ≡ None
        → (awaited_of (waiting table) name ≡ None → waiting (without_name table name) ≡ waiting table)
        → waiting (cond b table ((x, o) ∷ without_name table name)) ≡ waiting ((x, o) ∷ table)
    by_case true (Some s) same h later = absurd (none-some _ (sym (ap (λ b. cond b (Some (specified_of x s)) (awaited_of (waiting table) name)) (sym same) ∙ h)))
    by_case true None same h later = refl
    by_case false (Some s) same h later =
        ap (λ l. specified_of x s ∷ l) (later (ap (λ b. cond b (Some (specified_of x s)) (awaited_of (waiting table) name)) (sym same) ∙ h))
    by_case false None same h later = later h

put_last : (table : Table) (name : Symbol) (s : Specified) → waiting (table ++ (name, Some s) ∷ []) ≡ waiting table ++ specified_of name s ∷ []
put_last [] name s = refl
put_last ((x, Some t) ∷ table) name s = ap (λ l. specified_of x t ∷ l) (put_last table name s)
put_last ((x, None) ∷ table) name s = put_last table name s

pub waits_last : (awaited : List spec.Specified) (table middle new : Table) (name : Symbol) (s : Specified) → awaited ≡ waiting table → awaited_of awaited name ≡ None
    → middle ≡ without_name table name → new ≡ middle ++ (name, Some s) ∷ [] → waiting new ≡ awaited ++ specified_of name s ∷ []
waits_last awaited table middle new name s is none one two =
    ap waiting (two ∙ ap (λ (l : Table). l ++ (name, Some s) ∷ []) one)
    ∙ (put_last (without_name table name) name s
    ∙ ap (λ (l : List spec.Specified). l ++ specified_of name s ∷ [])
    (removed_waits table name (ap (λ (l : List spec.Specified). awaited_of l name) (sym is) ∙ none) ∙ sym is))

-- ---- one is taken

unnamed : (table : Table) (name : Symbol) → found table name ≡ None → waiting table ≡ without (waiting table) name
unnamed [] name h = refl
unnamed ((x, o) ∷ table) name h = by_case (same_name x name) o refl h (unnamed table name)
  where
    by_case : (b : Bool) (o : Option Specified) → same_name x name ≡ b → cond b (Some o) (found table name) ≡ None → (found table name ≡ None → waiting table ≡ without (waiting table) name)
        → waiting ((x, o) ∷ table) ≡ without (waiting ((x, o) ∷ table)) name
    by_case true o same h later = absurd (none-some _ (sym h))
    by_case false (Some s) same h later =
        ap (λ l. specified_of x s ∷ l) (later h) ∙ ap (λ b. cond (not b) (specified_of x s ∷ without (waiting table) name) (without (waiting table) name)) (sym same)
    by_case false None same h later = later h

taken : (table : Table) (name : Symbol) → AreApart table → waiting (changed table name None) ≡ without (waiting table) name
taken [] name apart = refl
taken ((x, o) ∷ table) name apart = by_case (same_name x name) o refl (taken table name apart.1)
  where
    gone : same_name x name ≡ true → found table name ≡ None
    gone same = ap (λ (n : ℕ). found table (record { 0 = n })) (sym (eqb-true x.0 name.0 same)) ∙ apart.0

    by_case : (b : Bool) (o : Option Specified) → same_name x name ≡ b → waiting (changed table name None) ≡ without (waiting table) name
        → waiting (cond b ((x, None) ∷ table) ((x, o) ∷ changed table name None)) ≡ without (waiting ((x, o) ∷ table)) name
    by_case true (Some s) same later =
        unnamed table name (gone same) ∙ ap (λ b. cond (not b) (specified_of x s ∷ without (waiting table) name) (without (waiting table) name)) (sym same)
    by_case true None same later = unnamed table name (gone same)
    by_case false (Some s) same later =
        ap (λ l. specified_of x s ∷ l) later ∙ ap (λ b. cond (not b) (specified_of x s ∷ without (waiting table) name) (without (waiting table) name)) (sym same)
    by_case false None same later = later

same_there : (table : Table) (name : Symbol) → found table name ≡ Some None → changed table name None ≡ table
same_there [] name h = refl
same_there ((x, o) ∷ table) name h = by_case (same_name x name) o h (same_there table name)
  where
    by_case : (b : Bool) (o : Option Specified) → cond b (Some o) (found table name) ≡ Some None → (found table name ≡ Some None → changed table name None ≡ table)
        → cond b ((x, None) ∷ table) ((x, o) ∷ changed table name None) ≡ (x, o) ∷ table
    by_case true (Some s) h later = absurd cc
    by_case true None h later = refl
    by_case false o h later = ap (λ l. (x, o) ∷ l) (later h)

same_missing : (table : Table) (name : Symbol) → found table name ≡ None → changed table name None ≡ table
same_missing [] name h = refl
same_missing ((x, o) ∷ table) name h = by_case (same_name x name) h (same_missing table name)
  where
    by_case : (b : Bool) → cond b (Some o) (found table name) ≡ None → (found table name ≡ None → changed table name None ≡ table)
        → cond b ((x, None) ∷ table) ((x, o) ∷ changed table name None) ≡ (x, o) ∷ table
    by_case true h later = absurd (none-some _ (sym h))
    by_case false h later = ap (λ l. (x, o) ∷ l) (later h)

module _ (awaited : List spec.Specified) (table new : Table) (is : awaited ≡ waiting table) (name : Symbol) (put : new ≡ changed table name None) where
  pub others_wait : AreApart table → waiting new ≡ without awaited name
  others_wait apart = ap waiting put ∙ (taken table name apart ∙ ap (λ (l : List spec.Specified). without l name) (sym is))

  pub none_taken : found table name ≡ Some None → waiting new ≡ awaited
  none_taken h = ap waiting (put ∙ same_there table name h) ∙ sym is

  pub none_there : found table name ≡ None → waiting new ≡ awaited
  none_there h = ap waiting (put ∙ same_missing table name h) ∙ sym is

-- ---- the first that waits

entry_there : (table : Table) (n : ℕ) (name : Symbol) (o : Option Specified) → slice_get table n ≡ Some (name, o) → drop n table ≡ (name, o) ∷ drop (suc n) table
entry_there [] n name o h = absurd cc
entry_there (e ∷ table) zero name o h = cc
entry_there (e ∷ table) (suc n) name o h = entry_there table n name o h

next_is : (n : ℕ) → suc n ≡ n + 1
next_is n = omega arith

pub first_waits : (table : Table) (n : ℕ) (name : Symbol) (o : Option Specified) (s : Specified) → slice_get table n ≡ Some (name, o) → o ≡ Some s
    → none_awaited (waiting (drop n table)) ≡ Err (Undeclared s.heading.line name)
first_waits table n name o s h is =
    ap (λ (l : Table). none_awaited (waiting l)) (entry_there table n name o h)
    ∙ ap (λ (o : Option Specified). none_awaited (waiting ((name, o) ∷ drop (suc n) table))) is

pub first_has_begun : (table : Table) (n : ℕ) (name : Symbol) (o : Option Specified) → slice_get table n ≡ Some (name, o) → o ≡ None
    → none_awaited (waiting (drop n table)) ≡ none_awaited (waiting (drop (n + 1) table))
first_has_begun table n name o h is =
    ap (λ (l : Table). none_awaited (waiting l)) (entry_there table n name o h)
    ∙ (ap (λ (o : Option Specified). none_awaited (waiting ((name, o) ∷ drop (suc n) table))) is
    ∙ ap (λ (m : ℕ). none_awaited (waiting (drop m table))) (next_is n))

pub all_have_begun : (table : Table) (n : ℕ) → length table ≤ n → none_awaited (waiting (drop n table)) ≡ Ok true
all_have_begun table n h = ap (λ (l : Table). none_awaited (waiting l)) (drop_all n table h)

-- ---- routines with their bodies

pub routine_last : (routines new : List RoutineText) (r : RoutineText) → new ≡ routines ++ r ∷ [] → map routine_of new ≡ map routine_of routines ++ routine_of r ∷ []
routine_last routines new r e = ap (map routine_of) e ∙ map-append routine_of routines (r ∷ [])
