-- Local declarations come from their trees.
use Rattle.std.proofs.Common.{◌≡◌, List, [], ◌∷◌, ◌++◌, map, Some, None, refl, sym, ap, ◌∙◌, subst}
use Rattle.std.specs.Prelude.{ℤ, Ok}
use Rattle.std.proofs.lemmas.List.{append_assoc, append-nil}
use Rattle.spv_logic.specs.declared.names.names.Symbol.{Symbol}
use Rattle.spv_logic.specs.declared.types.TypeId.{TypeId}
use Rattle.spv_tree.specs.declared.syntax.declarations.Const.{Const}
use Rattle.spv_tree.specs.declared.syntax.declarations.Vars.{Vars}
use Rattle.spv_tree.specs.declared.syntax.routines.Locals.{Locals}
use Rattle.spv_program.specs.declared.types.TypeForm.{TypeForm}
use Rattle.spv_program.specs.Lists.{found}
use Rattle.spv_program.specs.Programs.{Program}
use Rattle.spv_typing.specs.Outcomes.{after, each, twice}
use Rattle.spv_typing.specs.Known.{KnownNames, OfType, OfConstant, OfPlace, Heading, Names, Known, meaning}
use Rattle.spv_typing.specs.TypeWalk.{all_names, constant}
use Rattle.spv_typing.specs.DeclarationWalk.{with_program, with_types, new_name, NewType, type_walk}
use Rattle.spv_typing.specs.RoutineWalk.{is_free_in, in_routine, Headed, Local, local_const, local_vars, locals_walk}
use Rattle.spv_type_soundness.proofs.well_typed.Outcomes.{fine, same_value, went, behind_test}
use Rattle.spv_type_soundness.specs.faithfulness.Names.{Own, Constant, Place, seen, own_constants, own_places}
use Rattle.spv_type_soundness.specs.faithfulness.Types.{TypeFrom}
use Rattle.spv_type_soundness.specs.faithfulness.Declarations.{ConstsFrom, no_consts, one_const, group_of, VarsFrom, no_vars, one_group}
use Rattle.spv_type_soundness.proofs.faithfulness.Firsts.{There}
use Rattle.spv_type_soundness.proofs.faithfulness.Merged.{FormsRight}
use Rattle.spv_type_soundness.proofs.faithfulness.Scopes.{told_type, Means, by_own, by_program, means, OwnAs, no_own, one_own, own_append, as_constant, as_place}
use Rattle.spv_type_soundness.proofs.faithfulness.Seeing.{KnowsNames, constants_seen, types_seen}
use Rattle.spv_type_soundness.proofs.faithfulness.Constants.{constant_from}
use Rattle.spv_type_soundness.proofs.faithfulness.NewTypes.{Keeps, keeps_same, keeps_on, keeps_there, new_from}
use Rattle.spv_type_soundness.proofs.faithfulness.Declared.{names_come, group_map, type_there}

-- what is known, with these types
abbrev pub with_forms : Known → List TypeForm → Known
with_forms k forms = with_program k (with_types k.program forms k.program.types)

constants_append : (xs ys : List (Symbol × ℤ)) → own_constants (xs ++ ys) ≡ own_constants xs ++ own_constants ys
constants_append [] ys = refl
constants_append (x ∷ xs) ys = ap (λ q. (x.0, Constant x.1) ∷ q) (constants_append xs ys)

places_append : (xs ys : List (Symbol × TypeId)) → own_places (xs ++ ys) ≡ own_places xs ++ own_places ys
places_append [] ys = refl
places_append (x ∷ xs) ys = ap (λ q. (x.0, Place) ∷ q) (places_append xs ys)

places_as : (xs : List Symbol) (t : TypeId) → OwnAs (map (λ x. (x, OfPlace t)) xs) (own_places (map (λ x. (x, t)) xs))
places_as [] t = no_own
places_as (x ∷ xs) t = one_own x (OfPlace t) Place (map (λ x. (x, OfPlace t)) xs) (own_places (map (λ x. (x, t)) xs)) (as_place t)
    (places_as xs t)

module _ (start : KnownNames) (k : Known) (h : Heading) where
  abbrev local_at : Known → Names → List (Symbol × TypeId) → Local
  local_at now own variables = record { known = now; own = own; variables = variables }

  -- the type of a name that a routine sees is there
  named_there : (os : List (Symbol × Own)) (own : Names) → OwnAs own os → (forms : List TypeForm) → There forms 0 → There forms 1
      → ((x : Symbol) (t : TypeId) → found k.program.types x ≡ Some t → There forms t.0) → k.start ≡ start
      → (x : Symbol) (t : TypeId) → meaning (in_routine (with_forms k forms) own None) x ≡ Some (OfType t) → There forms t.0
  named_there os own alike forms first second there starts x t e = by_means (means (with_forms k forms) own os x (OfType t) alike e)
    where
      by_means : Means (with_forms k forms) os x (OfType t) → There forms t.0
      by_means (by_own m o h f) = elim h [ ]
      by_means (by_program m none (told_type w f)) = type_there k.start forms k.program.types x t first second there f

  -- ---- constants

  record ConstsDone (os : List (Symbol × Own)) (before : List (Symbol × ℤ)) (variables : List (Symbol × TypeId)) (cs : List Const)
      (l : Local) : Type 0 where
    pub all : List (Symbol × ℤ)
    pub own : Names
    pub is : local_at k own variables ≡ l
    pub alike : OwnAs own (os ++ own_constants all)
    pub from : (p : Program) → KnowsNames k start p → ConstsFrom (λ q. seen start p None (os ++ own_constants q)) before cs all

  consts_done : (os : List (Symbol × Own)) (before : List (Symbol × ℤ)) (own : Names) (variables : List (Symbol × TypeId))
      (cs : List Const) (l : Local) → OwnAs own (os ++ own_constants before)
      → each (local_const h) (local_at k own variables) cs ≡ Ok l → ConstsDone os before variables cs l
  consts_done os before own variables [] l alike e = record
      { all = before; own = own; is = same_value e; alike = alike; from = λ p knows. no_consts }
  consts_done os before own variables (c ∷ cs) l alike e =
      let one = went (local_const h (local_at k own variables) c) (λ next. each (local_const h) next cs) l e in
      let result = λ (z : ℤ). fine (local_at k (own ++ (c.name.symbol, OfConstant z) ∷ []) variables) in
      let two = went (constant (in_routine k own None) c.value) result one.value
      (behind_test (is_free_in k.start h.name h.globals own c.name.symbol) (twice c.name)
      (after (constant (in_routine k own None) c.value) result) one.value one.first) in
      let z = two.value in
      let entry = (c.name.symbol, z) ∷ [] in
      let shape : (os ++ own_constants before) ++ own_constants entry ≡ os ++ own_constants (before ++ entry) =
      append_assoc os (own_constants before) (own_constants entry) ∙ ap (λ q. os ++ q) (sym (constants_append before entry)) in
      let next_alike = subst (OwnAs (own ++ (c.name.symbol, OfConstant z) ∷ [])) shape
      (own_append own ((c.name.symbol, OfConstant z) ∷ []) (os ++ own_constants before) (own_constants entry) alike
      (one_own c.name.symbol (OfConstant z) (Constant z) [] [] (as_constant z) no_own)) in
      let rest = consts_done os (before ++ entry) (own ++ (c.name.symbol, OfConstant z) ∷ []) variables cs l next_alike
      (ap (λ q. each (local_const h) q cs) (same_value two.rest) ∙ one.rest) in
      record {
        all = rest.all;
        own = rest.own;
        is = rest.is;
        alike = rest.alike;
        from = λ p knows.
            one_const (constant_from (in_routine k own None) (seen start p None (os ++ own_constants before))
            (constants_seen k own (os ++ own_constants before) alike None start p None knows.constants_are) c.value z two.first)
            (rest.from p knows);
      }

  -- ---- variables

  record VarsDone (os : List (Symbol × Own)) (forms : List TypeForm) (before : List (Symbol × TypeId)) (gs : List Vars) (l : Local) : Type
      0 where
    pub now : List TypeForm
    pub all : List (Symbol × TypeId)
    pub own : Names
    pub is : local_at (with_forms k now) own all ≡ l
    pub alike : OwnAs own (os ++ own_places all)
    pub right : FormsRight now
    pub keeps : Keeps forms now
    pub from : (p : Program) → KnowsNames k start p → Keeps now p.forms
        → VarsFrom (λ q. seen start p None (os ++ own_places q)) p.types before gs all

  vars_done : (os : List (Symbol × Own)) (forms : List TypeForm) (before : List (Symbol × TypeId)) (own : Names) (gs : List Vars)
      (l : Local) → k.start ≡ start → OwnAs own (os ++ own_places before) → FormsRight forms → There forms 0 → There forms 1
      → ((x : Symbol) (t : TypeId) → found k.program.types x ≡ Some t → There forms t.0)
      → each (local_vars h) (local_at (with_forms k forms) own before) gs ≡ Ok l → VarsDone os forms before gs l
  vars_done os forms before own [] l starts alike right first second there e =
      record {
        now = forms;
        all = before;
        own = own;
        is = same_value e;
        alike = alike;
        right = right;
        keeps = keeps_same forms;
        from = λ p
            knows later. no_vars;
      }
  vars_done os forms before own (g ∷ gs) l starts alike right first second there e =
      let now = with_forms k forms in
      let s = in_routine now own None in
      let free = is_free_in k.start h.name h.globals own in
      let one = went (local_vars h (local_at now own before) g) (λ next. each (local_vars h) next gs) l e in
      let result = λ (xs : List Symbol) (n : NewType). fine
      (local_at (with_forms k n.forms) (own ++ map (λ x. (x, OfPlace n.type)) xs) (before ++ map (λ x. (x, n.type)) xs)) in
      let two = went (each (new_name free) [] (all_names g.names)) (λ xs. after (type_walk s g.of) (result xs)) one.value one.first in
      let three = went (type_walk s g.of) (result two.value) one.value two.rest in
      let n = three.value in
      let os' = os ++ own_places before in
      let type_at = λ (x : Symbol) (t : TypeId) (q : meaning s x ≡ Some (OfType t)). named_there os' own alike forms first second there
      starts x t q in
      let made = λ (p : Program) (knows : KnowsNames k start p).
      new_from s (seen start p None os') right type_at there
      (λ x t q. types_seen now own os' alike None start p None starts knows.types_are x t q)
      (λ x z q. constants_seen now own os' alike None start p None knows.constants_are x z q) g.of n three.first in
      let plain = made k.program (record {
        start_is = starts;
        constants_are = refl;
        types_are = refl;
        variables_are = refl;
        symbols_are = refl;
      }) in
      let group_is : map (λ x. (x, n.type)) two.value ≡ group_of (g.names.first ∷ g.names.more) n.type =
      ap (λ xs. map (λ x. (x, n.type)) xs) (sym (names_come free (g.names.first ∷ g.names.more) two.value two.first)) ∙ group_map
      (g.names.first ∷ g.names.more) n.type in
      let group = group_of (g.names.first ∷ g.names.more) n.type in
      let own' = own ++ map (λ x. (x, OfPlace n.type)) two.value in
      let shape : os' ++ own_places (map (λ x. (x, n.type)) two.value) ≡ os ++ own_places (before ++ group) =
      append_assoc os (own_places before) (own_places (map (λ x. (x, n.type)) two.value))
      ∙ (ap (λ q. os ++ (own_places before ++ own_places q)) group_is ∙ ap (λ q. os ++ q) (sym (places_append before group))) in
      let next_alike = subst (OwnAs own') shape (own_append own (map (λ x. (x, OfPlace n.type)) two.value) os'
      (own_places (map (λ x. (x, n.type)) two.value)) alike (places_as two.value n.type)) in
      let next : local_at (with_forms k n.forms) own' (before ++ group) ≡ one.value = ap
      (λ q. local_at (with_forms k n.forms) own' (before ++ q)) (sym group_is) ∙ same_value three.rest in
      let rest = vars_done os n.forms (before ++ group) own' gs l starts next_alike plain.right
      (keeps_there forms n.forms 0 plain.keeps first) (keeps_there forms n.forms 1 plain.keeps second)
      (λ x t q. keeps_there forms n.forms t.0 plain.keeps (there x t q)) (ap (λ q. each (local_vars h) q gs) next ∙ one.rest) in
      record {
        now = rest.now;
        all = rest.all;
        own = rest.own;
        is = rest.is;
        alike = rest.alike;
        right = rest.right;
        keeps = keeps_on forms n.forms rest.now plain.keeps rest.keeps;
        from = λ p knows later.
            one_group (subst (λ ts. TypeFrom (seen start p None os') ts n.type g.of) knows.types_are
            ((made p knows).from (keeps_on n.forms rest.now p.forms rest.keeps later))) (rest.from p knows later);
      }

  -- ---- both

  pub record LocalsDone (os : List (Symbol × Own)) (ls : Locals) (l : Local) : Type 0 where
    pub constants : List (Symbol × ℤ)
    pub now : List TypeForm
    pub known_is : with_forms k now ≡ l.known
    pub alike : OwnAs l.own ((os ++ own_constants constants) ++ own_places l.variables)
    pub right : FormsRight now
    pub keeps : Keeps k.program.forms now
    pub constants_from : (p : Program) → KnowsNames k start p
        → ConstsFrom (λ q. seen start p None (os ++ own_constants q)) [] ls.constants constants
    pub variables_from : (p : Program) → KnowsNames k start p → Keeps now p.forms
        → VarsFrom (λ q. seen start p None ((os ++ own_constants constants) ++ own_places q)) p.types [] ls.variables l.variables

  pub locals_done : (os : List (Symbol × Own)) (headed : Headed) (ls : Locals) (l : Local) → headed.specified.heading ≡ h → k.start ≡ start
      → OwnAs headed.own os → FormsRight k.program.forms → There k.program.forms 0 → There k.program.forms 1
      → ((x : Symbol) (t : TypeId) → found k.program.types x ≡ Some t → There k.program.forms t.0) → locals_walk k headed ls ≡ Ok l
      → LocalsDone os ls l
  locals_done os headed ls l same starts alike right first second there e =
      let walk = ap (λ q. after (each (local_const q) (local_at k headed.own []) ls.constants) (λ a. each (local_vars q) a ls.variables))
      (sym same) ∙ e in
      let one = went (each (local_const h) (local_at k headed.own []) ls.constants) (λ a. each (local_vars h) a ls.variables) l walk in
      let c = consts_done os [] headed.own [] ls.constants one.value (subst (OwnAs headed.own) (sym (append-nil os)) alike) one.first in
      let os' = os ++ own_constants c.all in
      let v = vars_done os' k.program.forms [] c.own ls.variables l starts (subst (OwnAs c.own) (sym (append-nil os')) c.alike) right
      first second there (ap (λ q. each (local_vars h) q ls.variables) c.is ∙ one.rest) in
      record {
        constants = c.all;
        now = v.now;
        known_is = ap (λ (q : Local). q.known) v.is;
        alike = subst (λ (q : Local). OwnAs q.own (os' ++ own_places q.variables)) v.is v.alike;
        right = v.right;
        keeps = v.keeps;
        constants_from = c.from;
        variables_from = λ p knows later. subst (λ q. VarsFrom (λ b. seen start p None (os' ++ own_places b)) p.types [] ls.variables q)
            (ap (λ (q : Local). q.variables) v.is) (v.from p knows later);
      }
