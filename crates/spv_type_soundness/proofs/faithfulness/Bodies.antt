-- Bodies of routines come from their trees.
use Rattle.std.proofs.Common.{◌≡◌, ℕ, zero, suc, Bool, true, false, cond, List, [], ◌∷◌, ◌++◌, map, Some, refl, sym, ap, ◌∙◌, subst}
use Rattle.std.specs.Prelude.{◌||◌, option_map, ℤ, Ok}
use Rattle.std.specs.List.{list_any}
use Rattle.std.proofs.lemmas.Bool.{false≢true}
use Rattle.spv_logic.specs.declared.names.names.Symbol.{Symbol}
use Rattle.spv_logic.specs.declared.types.TypeId.{TypeId}
use Rattle.spv_tree.specs.declared.syntax.routines.Locals.{Locals}
use Rattle.spv_tree.specs.syntax.Statements as tree
use Rattle.spv_program.specs.declared.types.TypeForm.{TypeForm}
use Rattle.spv_program.specs.declared.types.TypeForm.TheVariants.{Integer, Boolean}
use Rattle.spv_program.specs.Lists.{same_name, found}
use Rattle.spv_program.specs.Types.{form_at, may_be_result}
use Rattle.spv_program.specs.Statements.{Statement}
use Rattle.spv_program.specs.Programs.{Routine, Program}
use Rattle.spv_typing.specs.Known.{KnownNames, Heading, Names, Known}
use Rattle.spv_typing.specs.Merging.{first_where}
use Rattle.spv_typing.specs.DeclarationWalk.{with_program}
use Rattle.spv_typing.specs.StatementWalk.{block_walk}
use Rattle.spv_typing.specs.RoutineWalk.{in_routine, Headed, Local, locals_walk, body_setting, with_body}
use Rattle.spv_typing.specs.RoutineWalk as walk
use Rattle.spv_typing.specs.ProgramWalk.{number_of, with_routine}
use Rattle.spv_type_soundness.specs.faithfulness.Names.{place_among, routine_at, seen, own_constants, own_places}
use Rattle.spv_type_soundness.specs.faithfulness.Routines.{parameter_names, start_names, result_names, body_names, BodyFrom}
use Rattle.spv_type_soundness.proofs.faithfulness.Firsts.{There}
use Rattle.spv_type_soundness.proofs.faithfulness.Merged.{FormsRight}
use Rattle.spv_type_soundness.proofs.faithfulness.Scopes.{In, OwnAs, own_append}
use Rattle.spv_type_soundness.proofs.faithfulness.Seeing.{KnowsNames, Knows, sees, sees_places}
use Rattle.spv_type_soundness.proofs.faithfulness.NewTypes.{Keeps, keeps_same, keeps_on, keeps_there}
use Rattle.spv_type_soundness.proofs.faithfulness.Declared.{FirstTwo, form_at-item}
use Rattle.spv_type_soundness.proofs.faithfulness.Headings.{result_own}
use Rattle.spv_type_soundness.proofs.faithfulness.Locals.{with_forms, locals_done}
use Rattle.spv_type_soundness.proofs.faithfulness.Statements.{blocks_come}

-- whether a routine of this name has a body
abbrev pub is_among : List Symbol → Symbol → Bool
is_among names x = list_any (same_name x) names

place_same : (names : List Symbol) (x : Symbol) → is_among names x ≡ true → place_among names x ≡ Some (first_where (same_name x) names)
place_same [] x h = absurd (false≢true h)
place_same (y ∷ names) x h = by_case (same_name x y) h (place_same names x)
  where
    by_case : (b : Bool) → (b || is_among names x) ≡ true
        → (is_among names x ≡ true → place_among names x ≡ Some (first_where (same_name x) names))
        → cond b (Some 0) (option_map (λ n. suc n) (place_among names x)) ≡ Some (cond b 0 (suc (first_where (same_name x) names)))
    by_case true k go = refl
    by_case false k go = ap (option_map (λ n. suc n)) (go k)

-- each heading is that of a routine with a body
pub record AllAmong (bodies : List Symbol) (k : Known) : Type 0 where
  pub among : (h : Heading) → In k.headings h → is_among bodies h.name ≡ true

-- a type that may be a result is there
plain_there : (forms : List TypeForm) (t : ℕ) → may_be_result (form_at forms t) ≡ true → There forms t
plain_there [] t e = absurd (false≢true e)
plain_there (f ∷ forms) zero e = record { item = f; is = refl }
plain_there (f ∷ forms) (suc t) e = let r = plain_there forms t e in record { item = r.item; is = r.is }

pub plain_later : (forms later : List TypeForm) (t : ℕ) → Keeps forms later → may_be_result (form_at forms t) ≡ true
    → may_be_result (form_at later t) ≡ true
plain_later forms later t keeps e =
    let h = plain_there forms t e in
    ap may_be_result (form_at-item later t h.item (keeps.kept t h.item h.is) ∙ sym (form_at-item forms t h.item h.is)) ∙ e

-- what is right of everything that is known, where routines with bodies have these names
pub record Ready (start : KnownNames) (bodies : List Symbol) (k : Known) : Type 0 where
  pub starts : k.start ≡ start
  pub right : FormsRight k.program.forms
  pub first : FirstTwo k.program.forms
  pub there : (x : Symbol) (t : TypeId) → found k.program.types x ≡ Some t → There k.program.forms t.0
  pub numbers : (h : Heading) → In k.headings h → number_of bodies h.name ≡ h.number
  pub plain : (h : Heading) (t : TypeId) → In k.headings h → h.result ≡ Some t → may_be_result (form_at k.program.forms t.0) ≡ true

-- what comes later has the same declarations, and keeps the types
pub record Later (k next : Known) : Type 0 where
  pub keeps : Keeps k.program.forms next.program.forms
  pub constants_are : next.program.constants ≡ k.program.constants
  pub types_are : next.program.types ≡ k.program.types
  pub variables_are : next.program.variables ≡ k.program.variables
  pub symbols_are : next.program.symbols ≡ k.program.symbols
  pub start_is : next.start ≡ k.start
  pub headings_stay : (h : Heading) → In k.headings h → In next.headings h

pub later_same : (k : Known) → Later k k
later_same k = record {
  keeps = keeps_same k.program.forms;
  constants_are = refl;
  types_are = refl;
  variables_are = refl;
  symbols_are = refl;
  start_is = refl;
  headings_stay = λ h i. i;
}

pub later_on : (k mid next : Known) → Later k mid → Later mid next → Later k next
later_on k mid next g h = record {
  keeps = keeps_on k.program.forms mid.program.forms next.program.forms g.keeps h.keeps;
  constants_are = h.constants_are ∙ g.constants_are;
  types_are = h.types_are ∙ g.types_are;
  variables_are = h.variables_are ∙ g.variables_are;
  symbols_are = h.symbols_are ∙ g.symbols_are;
  start_is = h.start_is ∙ g.start_is;
  headings_stay = λ q i. h.headings_stay q (g.headings_stay q i);
}

pub among_before : (bodies : List Symbol) (k next : Known) → Later k next → AllAmong bodies next → AllAmong bodies k
among_before bodies k next later h = record { among = λ q i. h.among q (later.headings_stay q i) }

pub knows_later : (start : KnownNames) (p : Program) (k next : Known) → Later k next → KnowsNames k start p → KnowsNames next start p
knows_later start p k next h knows = record {
  start_is = h.start_is ∙ knows.start_is;
  constants_are = h.constants_are ∙ knows.constants_are;
  types_are = h.types_are ∙ knows.types_are;
  variables_are = h.variables_are ∙ knows.variables_are;
  symbols_are = h.symbols_are ∙ knows.symbols_are;
}

pub ready_forms : (start : KnownNames) (bodies : List Symbol) (k : Known) (forms : List TypeForm) → Ready start bodies k
    → FormsRight forms → Keeps k.program.forms forms → Ready start bodies (with_forms k forms)
ready_forms start bodies k forms ready right keeps = record {
  starts = ready.starts;
  right = right;
  first = record { zero = keeps.kept 0 Integer (ready.first).zero; one = keeps.kept 1 Boolean (ready.first).one };
  there = λ x t e. keeps_there k.program.forms forms t.0 keeps (ready.there x t e);
  numbers = ready.numbers;
  plain = λ h t i e. plain_later k.program.forms forms t.0 keeps (ready.plain h t i e);
}

abbrev local_of : Known → Names → List (Symbol × TypeId) → Local
local_of k own variables = record { known = k; own = own; variables = variables }

module _ (start : KnownNames) (bodies : List Symbol) where
  pub knows_all : (k : Known) (p : Program) → Ready start bodies k → KnowsNames k start p
      → map (λ (r : Routine). r.name) p.routines ≡ bodies → AllAmong bodies k → Knows k start p
  knows_all k p ready knows names_are all = record {
    names = knows;
    numbers = λ h i. ap (λ ns. option_map routine_at (place_among ns h.name)) names_are
        ∙ (ap (option_map routine_at) (place_same bodies h.name (all.among h i)) ∙ ap Some (ready.numbers h i));
    first = form_at-item k.program.forms 0 Integer (ready.first).zero;
    plain = ready.plain;
  }

  -- ---- bodies

  pub record BodyDone (k : Known) (headed : Headed) (ls : Locals) (b : tree.Block) (next : Known) (r : Routine) : Type 0 where
    pub ready : Ready start bodies next
    pub later : Later k next
    pub awaited_are : next.awaited ≡ k.awaited
    pub headings_are : next.headings ≡ k.headings
    pub routines_are : k.program.routines ++ r ∷ [] ≡ next.program.routines
    pub from : (p : Program) → KnowsNames k start p → Keeps next.program.forms p.forms → map (λ (r : Routine). r.name) p.routines ≡ bodies
        → AllAmong bodies k → BodyFrom start p r ls b

  abbrev pub routine_of : Headed → Local → Statement → Routine
  routine_of headed l body = with_body headed.specified l.variables body

  abbrev pub known_behind : Headed → Local → Statement → Known
  known_behind headed l body = with_program l.known (with_routine l.known.program (routine_of headed l body))

  at_body : (k : Known) (headed : Headed) (ls : Locals) (b : tree.Block) (forms : List TypeForm) (own : Names)
      (variables : List (Symbol × TypeId)) (constants : List (Symbol × ℤ)) (body : Statement) (p : Program)
      → Ready start bodies (with_forms k forms) → KnowsNames k start p
      → map (λ (r : Routine). r.name) p.routines ≡ bodies → AllAmong bodies k
      → OwnAs own (((parameter_names headed.specified.heading.formals ++ start_names headed.specified.initial)
      ++ own_constants constants) ++ own_places variables)
      → block_walk (body_setting headed.specified.heading (record { known = with_forms k forms; own = own; variables = variables })) b
      ≡ Ok body
      → Rattle.spv_type_soundness.specs.faithfulness.Statements.BlockFrom (seen start p (Some (with_body headed.specified variables body))
      (body_names (with_body headed.specified variables body) constants variables))
      (seen start p (Some (with_body headed.specified variables body))
      (result_names headed.specified.heading.name headed.specified.heading.result
      ++ body_names (with_body headed.specified variables body) constants variables)) body b
  at_body k headed ls b forms own variables constants body p ready knows names_are all alike e =
      let now = with_forms k forms in
      let h = headed.specified.heading in
      let r = with_body headed.specified variables body in
      let os = body_names r constants variables in
      let known : KnowsNames now start p = record {
        start_is = knows.start_is;
        constants_are = knows.constants_are;
        types_are = knows.types_are;
        variables_are = knows.variables_are;
        symbols_are = knows.symbols_are;
      } in
      let noted_own = own_append (walk.result_names h.name h.result) own (result_names h.name h.result) os
      (result_own start p now known h.name h.result) alike in
      let inside = sees_places now own os alike (Some h) start p (Some r)
      (knows_all now p ready known names_are (record { among = all.among })) (λ q f. f) in
      let noted = sees now (walk.result_names h.name h.result ++ own) (result_names h.name h.result ++ os) noted_own (Some h) start p
      (Some r) known in
      blocks_come (body_setting h (record { known = now; own = own; variables = variables })) (seen start p (Some r) os)
      (seen start p (Some r) (result_names h.name h.result ++ os)) inside noted b body e

  pub body_done : (k : Known) (headed : Headed) (ls : Locals) (b : tree.Block) (l : Local) (body : Statement) → Ready start bodies k
      → OwnAs headed.own (parameter_names headed.specified.heading.formals ++ start_names headed.specified.initial)
      → locals_walk k headed ls ≡ Ok l
      → block_walk (body_setting headed.specified.heading l) b ≡ Ok body
      → BodyDone k headed ls b (known_behind headed l body) (routine_of headed l body)
  body_done k headed ls b l body ready own e f =
      let os = parameter_names headed.specified.heading.formals ++ start_names headed.specified.initial in
      let f0 : There k.program.forms 0 = record { item = Integer; is = (ready.first).zero } in
      let f1 : There k.program.forms 1 = record { item = Boolean; is = (ready.first).one } in
      let d = locals_done start k headed.specified.heading os headed ls l refl ready.starts own ready.right f0 f1 ready.there e in
      let now = with_forms k d.now in
      let ready_now = ready_forms start bodies k d.now ready d.right d.keeps in
      let same : local_of now l.own l.variables ≡ l = ap (λ q. local_of q l.own l.variables) d.known_is in
      let behind = λ (q : Known). with_program q (with_routine q.program (routine_of headed l body)) in
      let ready_next : Ready start bodies (behind now) = record {
        starts = ready_now.starts;
        right = ready_now.right;
        first = ready_now.first;
        there = ready_now.there;
        numbers = ready_now.numbers;
        plain = ready_now.plain;
      } in
      let later_next : Later k (behind now) = record {
        keeps = d.keeps;
        constants_are = refl;
        types_are = refl;
        variables_are = refl;
        symbols_are = refl;
        start_is = refl;
        headings_stay = λ q i. i;
      } in
      record {
        ready = subst (λ q. Ready start bodies (behind q)) d.known_is ready_next;
        later = subst (λ q. Later k (behind q)) d.known_is later_next;
        awaited_are = ap (λ (q : Known). q.awaited) (sym d.known_is);
        headings_are = ap (λ (q : Known). q.headings) (sym d.known_is);
        routines_are = ap (λ (q : Known). (behind q).program.routines) d.known_is;
        from = λ p knows keeps names_are all. record {
          constants = d.constants;
          constants_from = d.constants_from p knows;
          variables_from = d.variables_from p knows (subst (λ (q : Known). Keeps q.program.forms p.forms) (sym d.known_is) keeps);
          body = at_body k headed ls b d.now l.own l.variables d.constants body p ready_now knows names_are all d.alike
              (ap (λ q. block_walk (body_setting headed.specified.heading q) b) same ∙ f);
        };
      }
