-- What a state shows the main block, before and after an assignment to a whole variable.
use Rattle.std.proofs.Common.{◌≡◌, zero, suc, Bool, true, false, cond, ◌&&◌, refl, sym, ap, ◌∙◌, subst, Option, Some, None, option_map}
use Rattle.std.specs.Prelude.{is_some}
use Rattle.std.specs.Option.{option_and_then}
use Rattle.std.proofs.lemmas.Bool.{false≢true}
use Rattle.spv_logic.specs.declared.names.names.Symbol.{Symbol}
use Rattle.spv_logic.specs.declared.types.TypeId.{TypeId}
use Rattle.spv_logic.specs.declared.types.Sort.{Sort}
use Rattle.spv_logic.specs.declared.operators.Head.{Head}
use Rattle.spv_logic.specs.declared.operators.Head.TheVariants as head
use Rattle.spv_logic.specs.Values.{Value}
use Rattle.spv_logic.specs.Terms.{sort_eq, head_eq}
use Rattle.spv_logic.specs.Fits.{fits}
use Rattle.spv_logic.specs.Conditions.{View, both, shown_or}
use Rattle.spv_logic.proofs.Equality.{sort_eq-true, sort_eq-refl}
use Rattle.spv_program.specs.declared.types.Item.TheVariants.{Variable}
use Rattle.spv_program.specs.Lists.{same_name, found, changed}
use Rattle.spv_program.specs.Types.{sort_of}
use Rattle.spv_program.specs.Programs.{Program, shapes}
use Rattle.spv_program.specs.Scopes.{sort_or_int}
use Rattle.spv_program.specs.Terms.{item_head}
use Rattle.spv_meaning.specs.Places.{State, Place, ProgramVariable, whole, look, put, value_or_zero}
use Rattle.spv_meaning.specs.Views.{of_sort, shown_type, now_view, entry_view}
use Rattle.spv_meaning.specs.Starts.{IsStart, is_of_type}
use Rattle.spv_program.proofs.SortFacts.{some_is}
use Rattle.spv_meaning.proofs.Maps.{other_way, same_names, found-changed-same, found-changed-other, filter-all}

abbrev pub variable : Symbol → Place
variable x = whole (ProgramVariable x)

pub some_of : {X : Type 0} (o : Option X) → option_and_then (λ v. Some v) o ≡ o
some_of None = refl
some_of (Some v) = refl

-- what a variable of the program holds
pub look-variable : (state : State) (x : Symbol) → look state (variable x) ≡ found state.variables x
look-variable state x = some_of (found state.variables x)

-- ---- names

-- the main block sees all variables
pub shown-main : (p : Program) (x : Symbol) → shown_type p None x ≡ found p.variables x
shown-main p x = ap (λ names. found names x) (filter-all p.variables)

-- a variable that is declared, and its type's sort
pub record IsDeclared (p : Program) (x : Symbol) (t : TypeId) : Type 0 where
  pub is : found p.variables x ≡ Some t

-- the head of a variable of the main block
pub head_is : (p : Program) (x : Symbol) (t : TypeId) → IsDeclared p x t → item_head p None (Variable x) ≡ head.Var x (sort_of p.forms t) 0
head_is p x t d = ap (λ o. head.Var x (sort_or_int (option_map (sort_of p.forms) o)) 0) d.is

-- what shows under a name, by its declaration
pub view_is : (p : Program) (state : State) (x : Symbol) (s : Sort) → now_view p None state (head.Var x s zero) ≡ of_sort (option_map (sort_of p.forms) (found p.variables x)) s (found state.variables x)
view_is p state x s =
    ap (λ o. of_sort (option_map (sort_of p.forms) o) s (look state (variable x))) (shown-main p x)
    ∙ ap (of_sort (option_map (sort_of p.forms) (found p.variables x)) s) (look-variable state x)

-- a declared variable shows its value
pub view-declared : (p : Program) (state : State) (x : Symbol) (t : TypeId) → IsDeclared p x t → now_view p None state (head.Var x (sort_of p.forms t) zero) ≡ found state.variables x
view-declared p state x t d =
    view_is p state x (sort_of p.forms t)
    ∙ (ap (λ o. of_sort (option_map (sort_of p.forms) o) (sort_of p.forms t) (found state.variables x)) d.is
    ∙ ap (λ b. cond b (found state.variables x) None) (sort_eq-refl (sort_of p.forms t)))

there_is : (p : Program) (t : TypeId) (o : Option Value) → is_of_type p t o ≡ true → is_some o ≡ true
there_is p t None h = absurd (false≢true h)
there_is p t (Some v) h = refl

of_type : (p : Program) (t : TypeId) (o : Option Value) → is_of_type p t o ≡ true → fits (shapes p) (value_or_zero o) (sort_of p.forms t) ≡ true
of_type p t None h = absurd (false≢true h)
of_type p t (Some v) h = h

-- at a start a declared variable has a value of its type's sort
pub declared_holds : (p : Program) (state : State) → IsStart p None state → (x : Symbol) (t : TypeId) → IsDeclared p x t → is_of_type p t (found state.variables x) ≡ true
declared_holds p state start x t d = ap (is_of_type p t) (sym (look-variable state x)) ∙ start.names x t (shown-main p x ∙ d.is)

pub declared_there : (p : Program) (state : State) → IsStart p None state → (x : Symbol) (t : TypeId) → IsDeclared p x t → is_some (found state.variables x) ≡ true
declared_there p state start x t d = there_is p t (found state.variables x) (declared_holds p state start x t d)

pub value_fits : (p : Program) (state : State) → IsStart p None state → (x : Symbol) (t : TypeId) → IsDeclared p x t → fits (shapes p) (value_or_zero (found state.variables x)) (sort_of p.forms t) ≡ true
value_fits p state start x t d = of_type p t (found state.variables x) (declared_holds p state start x t d)

-- ---- an assignment

-- a name of another sort than its declaration shows nothing
unshown : (declared s : Sort) (v w : Option Value) → sort_eq s declared ≡ false → of_sort (Some declared) s v ≡ of_sort (Some declared) s w
unshown declared s v w h = by_case (sort_eq declared s) refl
  where
    by_case : (b : Bool) → sort_eq declared s ≡ b → cond b v None ≡ cond b w None
    by_case false e = refl
    by_case true e = absurd (false≢true (sym h ∙ (ap (λ r. sort_eq s r) (sort_eq-true declared s e) ∙ sort_eq-refl s)))

other_variable : (p : Program) (state : State) (x : Symbol) (w : Value) (t : TypeId) → IsDeclared p x t → (y : Symbol) (s : Sort) (b : Bool) → same_name y x ≡ b → (b && (sort_eq s (sort_of p.forms t) && true)) ≡ false
    → of_sort (option_map (sort_of p.forms) (found p.variables y)) s (found (changed state.variables x w) y) ≡ of_sort (option_map (sort_of p.forms) (found p.variables y)) s (found state.variables y)
other_variable p state x w t d y s true h differ =
    let is : found p.variables y ≡ Some t = ap (found p.variables) (same_names y x h) ∙ d.is in
    let other : sort_eq s (sort_of p.forms t) ≡ false = by_and (sort_eq s (sort_of p.forms t)) differ in
    ap (λ o. of_sort (option_map (sort_of p.forms) o) s (found (changed state.variables x w) y)) is
    ∙ (unshown (sort_of p.forms t) s _ _ other ∙ sym (ap (λ o. of_sort (option_map (sort_of p.forms) o) s (found state.variables y)) is))
  where
    by_and : (b : Bool) → (b && true) ≡ false → b ≡ false
    by_and true e = e
    by_and false e = e
other_variable p state x w t d y s false h differ =
    ap (of_sort (option_map (sort_of p.forms) (found p.variables y)) s) (found-changed-other state.variables x y w (other_way y x h))

-- after an assignment every other name shows what it showed
pub view-other : (p : Program) (state : State) (x : Symbol) (w : Value) (t : TypeId) → IsDeclared p x t → (h : Head) → head_eq h (head.Var x (sort_of p.forms t) 0) ≡ false → now_view p None (put state (variable x) w) h ≡ now_view p None state h
view-other p state x w t d (head.Var y s zero) differ =
    view_is p (put state (variable x) w) y s ∙ (other_variable p state x w t d y s (same_name y x) refl differ ∙ sym (view_is p state y s))
view-other p state x w t d (head.Var y s (suc n)) differ = refl
view-other p state x w t d (head.ClassVar u zero) differ = refl
view-other p state x w t d (head.ClassVar u (suc n)) differ = refl
view-other p state x w t d _ differ = refl

-- the assigned name shows the value
pub view-same : (p : Program) (state : State) → IsStart p None state → (x : Symbol) (w : Value) (t : TypeId) → IsDeclared p x t → now_view p None (put state (variable x) w) (head.Var x (sort_of p.forms t) 0) ≡ Some w
view-same p state start x w t d =
    view-declared p (put state (variable x) w) x t d ∙ found-changed-same state.variables x w (declared_there p state start x t d)

after_assignment : (p : Program) (state : State) → IsStart p None state → (x : Symbol) (w : Value) (t : TypeId) → IsDeclared p x t → fits (shapes p) w (sort_of p.forms t) ≡ true → (y : Symbol) (u : TypeId) → IsDeclared p y u → (b : Bool) → same_name x y ≡ b → is_of_type p u (found (changed state.variables x w) y) ≡ true
after_assignment p state start x w t d fit y u e true same =
    let name : x ≡ y = same_names x y same in
    let declared : Some t ≡ Some u = sym d.is ∙ (ap (found p.variables) name ∙ e.is) in
    let type : t ≡ u = some_is declared in
    ap (is_of_type p u) (ap (found (changed state.variables x w)) (sym name) ∙ found-changed-same state.variables x w (declared_there p state start x t d))
    ∙ (ap (λ v. fits (shapes p) w (sort_of p.forms v)) (sym type) ∙ fit)
after_assignment p state start x w t d fit y u e false same =
    ap (is_of_type p u) (found-changed-other state.variables x y w same) ∙ declared_holds p state start y u e

-- an assignment of a value of the variable's sort leaves a start
pub start_after : (p : Program) (state : State) → IsStart p None state → (x : Symbol) (w : Value) (t : TypeId) → IsDeclared p x t → fits (shapes p) w (sort_of p.forms t) ≡ true → IsStart p None (put state (variable x) w)
start_after p state start x w t d fit = record {
  right = record {
    types = start.right.types;
    inside = start.right.inside;
    right = record {
      variables = λ y u e. after_assignment p state start x w t d fit y u (record { is = e }) (same_name x y) refl;
      frames = start.right.right.frames;
      heap = start.right.right.heap;
    };
  };
  frame = refl;
  names = λ y u e. ap (is_of_type p u) (look-variable (put state (variable x) w) y)
      ∙ after_assignment p state start x w t d fit y u (record { is = sym (shown-main p y) ∙ e }) (same_name x y) refl;
  heap = start.heap;
  areas = refl;
}

-- ---- the entry shows nothing

nothing_of : (s : Sort) (v : Option Value) → of_sort None s v ≡ None
nothing_of s v = refl

pub entry-main : (p : Program) (state : State) (h : Head) → entry_view p None state h ≡ None
entry-main p state (head.Start x s) = refl
entry-main p state (head.Var x s zero) = refl
entry-main p state (head.Var x s (suc n)) = refl
entry-main p state _ = refl

shown_alone : (now entry : Option Value) → entry ≡ None → shown_or now entry ≡ now
shown_alone None entry e = e
shown_alone (Some v) entry e = refl

-- of the main block only shows what shows now
pub both-main : (p : Program) (state : State) (now : View) (h : Head) → both (entry_view p None state) now h ≡ now h
both-main p state now h = shown_alone (now h) (entry_view p None state h) (entry-main p state h)

-- ---- sorts of what shows

pub fits_if_shown : (p : Program) (declared : Option Sort) (s : Sort) (value : Option Value) (v : Value) → ((d : Sort) → declared ≡ Some d → fits (shapes p) v d ≡ true) → of_sort declared s value ≡ Some v → fits (shapes p) v s ≡ true
fits_if_shown p None s value v h e = absurd (false≢true (ap is_some e))
fits_if_shown p (Some d) s value v h e = by_case (sort_eq d s) refl
  where
    by_case : (b : Bool) → sort_eq d s ≡ b → fits (shapes p) v s ≡ true
    by_case true same = subst (λ r. fits (shapes p) v r ≡ true) (sort_eq-true d s same) (h d refl)
    by_case false same = absurd (false≢true (ap is_some (sym (ap (λ b. cond b value None) same) ∙ e)))
