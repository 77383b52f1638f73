-- Where what is found of a term stands, and that its arguments stand before it.
use Rattle.std.proofs.Common.{◌≡◌, ℕ, zero, suc, ◌+◌, ◌<◌, Bool, true, false, cond, ◌&&◌, ◌||◌, List, [], ◌∷◌, ◌++◌, map, length, take, get_or, slice_get, refl, sym, ap, ◌∙◌, subst, Option, Some, None, Result, Ok, Err, inl, inr, arith}
use Rattle.std.specs.Prelude.{IsSome, IsTrue, IfOk, IfSome, ℤ, is_some}
use Rattle.std.specs.List.{list_any, position, position_from}
use Rattle.std.specs.Option.{option_map}
use Rattle.std.proofs.lemmas.Bool.{false≢true, cases_lt, eqb-true}
use Rattle.std.proofs.lemmas.List.{length_push, take-map, take_all}
use Rattle.std.proofs.lemmas.List.Quantifiers.{position-Some}
use Rattle.std.proofs.lemmas.Option.{slice_get-get_or, slice_get_within, same_Some, slice_get-map}
use Rattle.std.proofs.lemmas.Iterator.Adapters.{position_from-zero}
use Rattle.spv_logic.specs.declared.conditions.TermId.{TermId}
use Rattle.spv_logic.specs.declared.operators.Head.{Head}
use Rattle.spv_logic.specs.declared.operators.Head.TheVariants.{Num, Add, Sub, Mul}
use Rattle.spv_logic.specs.Terms.{Term, Terms, term, no_terms, terms, term_eq}
use Rattle.spv_logic.specs.declared.types.Sort.{Sort}
use Rattle.spv_logic.specs.declared.types.Shape.{Shape}
use Rattle.spv_logic.specs.declared.types.Decl.{Decl}
use Rattle.spv_logic.specs.Sorts.{numeral_fits, result_sort}
use Rattle.spv_term.specs.declared.nodes.Node.{Node}
use Rattle.spv_term.specs.Arena.{Arena, IsArena, AllBelow, tree, trees, sorts_in}
use Rattle.spv_term.proofs.ArenaLemmas.{tree-node, args_in_range}
use Rattle.spv_term.proofs.TreeLemmas.{AllBelow-at}
use Rattle.spv_term.proofs.ListLemmas.{slice_get_push, slice_get-append_left}
use Rattle.spv_frac.specs.Range.{fits}
use Rattle.spv_atoms.specs.Forms.{Form, constant_over, constant_values, linear_form, form, forms, form_fits, is_linear, is_narrow, all_narrow}
use Rattle.spv_atoms.specs.Order.{order, enters_in, same_id, is_sum, is_sum_head}
use Rattle.spv_atoms.specs.declared.walk.Through.TheVariants.{Sums}
use Rattle.spv_atoms.specs.Linear.{IdForm, IsFormOf, IsWideIn, coefficient, coefficient_at, stands_in, stands_in_any}
use Rattle.spv_atoms.specs.declared.forms.Formed.{Formed}
use Rattle.spv_atoms.specs.declared.forms.Formed.TheVariants.{Narrow}
use Rattle.spv_atoms.specs.declared.forms.Found.{Found}
use Rattle.spv_atoms.specs.Found.{IsAlone, IsFormed, IsFound, IsPairFound, AreFound, IsReady, AreReady, IsBeside, HasReadyArguments, AreBehindArguments}
use Rattle.spv_atoms.proofs.Members.{AllIn}
use Rattle.spv_atoms.proofs.Layers.{listed, arguments, Layered, order_layered, order_has}
use Rattle.spv_atoms.proofs.Walks.{has-trees}
use Rattle.spv_logic.proofs.Equality.{term_eq-true}
use Rattle.spv_atoms.proofs.Forming.{pair, over-at}
use Rattle.spv_atoms.proofs.Finding.{own_form}

-- ---- places of ids

record IsPlace (t : TermId) (ids : List TermId) (count from : ℕ) : Type 0 where
  place : ℕ
  is : position_from (same_id t) from ids ≡ Some place
  below : place < from + count

place_from : (t : TermId) (ids : List TermId) (count from : ℕ) → IsReady ids count t → IsPlace t ids count from
place_from t ids zero from h = absurd (false≢true h)
place_from t [] (suc count) from h = absurd (false≢true h)
place_from t (u ∷ ids) (suc count) from h = by_case (same_id t u) refl h (place_from t ids count (from + 1))
  where
    by_case : (b : Bool) → same_id t u ≡ b → (b || list_any (same_id t) (take count ids)) ≡ true → (IsReady ids count t → IsPlace t ids count (from + 1)) → IsPlace t (u ∷ ids) (suc count) from
    by_case true e h later = record { place = from; is = ap (λ b. cond b (Some from) (position_from (same_id t) (from + 1) ids)) e; below = omega arith }
    by_case false e h later =
        let p = later h in
        let q = p.below in
        record { place = p.place; is = ap (λ b. cond b (Some from) (position_from (same_id t) (from + 1) ids)) e ∙ p.is; below = omega (arith, q) }

module _ (t : TermId) (ids : List TermId) (count : ℕ) (o : Option ℕ) (ready : IsReady ids count t) (at : o ≡ position (same_id t) ids) where
  there : IsPlace t ids count 0
  there = place_from t ids count 0 ready

  o_is : o ≡ Some there.place
  o_is = at ∙ (position_from-zero (same_id t) ids ∙ there.is)

  pub place_there : IsSome o
  place_there = subst IsSome (sym o_is) refl

  pub place_below : (k : ℕ) → o ≡ Some k → k < count
  place_below k e =
      let same : there.place ≡ k = same_Some there.place k (sym o_is ∙ e) in
      let below = there.below in
      omega (arith, same, below)

  pub place_of : (k : ℕ) → o ≡ Some k → slice_get ids k ≡ Some t
  place_of k e =
      let facts = position-Some (same_id t) ids k t (sym at ∙ e) in
      slice_get-get_or ids k t facts.0 ∙ ap (λ (u : TermId). Some u) (sym (ap (λ n. record { 0 = n }) (eqb-true t.0 (get_or ids k t).0 facts.1)))

  pub beside : (known : List Found) (k : ℕ) (found : Found) → o ≡ Some k → slice_get known k ≡ Some found → IsBeside ids known t found
  beside known k found e f = record { place = k; id_there = place_of k e; found_there = f }

pub beside_found : (a : Arena) (ids : List TermId) (known : List Found) (t : TermId) (found : Found) → AreFound a ids known → IsBeside ids known t found → IsFound a (tree a t) found
beside_found a ids known t found all b = all.each b.place t found b.id_there b.found_there

pub looked_up : (known : List Found) (k : ℕ) (found : Found) → k < length known → found ≡ get_or known k found → slice_get known k ≡ Some found
looked_up known k found h e = slice_get-get_or known k found h ∙ ap (λ (f : Found). Some f) (sym e)

-- ---- one more is found

pub nothing_found : (a : Arena) (ids : List TermId) → AreFound a ids []
nothing_found a ids = record { each = λ i t found e f. absurd (cc) }

pub one_more_found : (a : Arena) (ids : List TermId) (known more : List Found) (t : TermId) (found : Found) → AreFound a ids known → slice_get ids (length known) ≡ Some t → IsFound a (tree a t) found
    → more ≡ known ++ found ∷ [] → AreFound a ids more
one_more_found a ids known more t found all at is e = subst (λ (ks : List Found). AreFound a ids ks) (sym e) (record { each = each })
  where
    each : (i : ℕ) (u : TermId) (k : Found) → slice_get ids i ≡ Some u → slice_get (known ++ found ∷ []) i ≡ Some k → IsFound a (tree a u) k
    each i u k f g = elim (cases_lt i (length known)) [
      | inl below ↦ all.each i u k f (sym (slice_get-append_left known (found ∷ []) i below) ∙ g)
      | inr above ↦ last (omega (arith, above, slice_get_within (known ++ found ∷ []) i k g, length_push known found))
    ]
      where
        last : length known ≡ i → IsFound a (tree a u) k
        last e =
            let same : found ≡ k = same_Some found k (sym (slice_get_push known found) ∙ ap (slice_get (known ++ found ∷ [])) e ∙ g) in
            let id : t ≡ u = same_Some t u (sym at ∙ (ap (slice_get ids) e ∙ f)) in
            subst (λ (k : Found). IsFound a (tree a u) k) same (subst (λ (u : TermId). IsFound a (tree a u) found) id is)

-- ---- arguments stand before their term

AllBelow-take : (n k : ℕ) (ts : List TermId) → AllBelow n ts → AllBelow n (take k ts)
AllBelow-take n zero ts h = tt
AllBelow-take n (suc k) [] h = tt
AllBelow-take n (suc k) (t ∷ ts) h = (h.0, AllBelow-take n k ts h.1)

module _ (a : Arena) (ok : IsArena a) where
  layered_behind : (ids : List TermId) → AllBelow (length a.nodes) ids → Layered (enters_in a Sums) (map (tree a) ids) → AreBehindArguments a ids
  layered_behind ids h layered = record {
    before = λ i t at. record {
      ready = λ n node inside.
          all i n.args (args_in_range a ok t n node)
          (subst (AllIn (take i (map (tree a) ids))) (ap arguments (tree-node a ok t n node)) (layered.before i (tree a t) (slice_get-map (tree a) ids i ∙ ap (option_map (tree a)) at) inside));
    };
  }
    where
      all : (i : ℕ) (ts : List TermId) → AllBelow (length a.nodes) ts → AllIn (take i (map (tree a) ids)) (listed (trees a ts)) → AreReady ids i ts
      all i [] k g = tt
      all i (u ∷ us) k g =
          (has-trees a ok u (take i ids) k.0 (AllBelow-take (length a.nodes) i ids h) ∙ (ap (λ xs. list_any (term_eq (tree a u)) xs) (sym (take-map (tree a) i ids)) ∙ g.0), all i us k.1 g.1)

  module _ (ids : List TermId) (t : TermId) (ids_in : AllBelow (length a.nodes) ids) (ordered : map (tree a) ids ≡ order (enters_in a Sums) (tree a t) []) where
    pub order_behind : AreBehindArguments a ids
    order_behind = layered_behind ids ids_in (subst (Layered (enters_in a Sums)) (sym ordered) (order_layered (enters_in a Sums) (tree a t)))

    pub order_ready : t.0 < length a.nodes → (count : ℕ) → count ≡ length ids → IsReady ids count t
    order_ready t_in count e =
        ap (λ xs. list_any (same_id t) xs) (take_all count ids (omega (arith, e)))
        ∙ (has-trees a ok t ids t_in ids_in ∙ (ap (λ xs. list_any (term_eq (tree a t)) xs) ordered ∙ order_has (enters_in a Sums) (tree a t)))

  -- ---- terms that are no sums

  other_head : (h : Head) (vs : List (Option ℤ)) (fs : List Form) → ((z : ℤ) → h ≡ Num z → ⊥) → is_sum_head h ≡ false → linear_form h vs fs ≡ None
  other_head (Num z) vs fs e f = absurd (e z refl)
  other_head Add vs fs e f = absurd (false≢true (sym f))
  other_head Sub vs fs e f = absurd (false≢true (sym f))
  other_head Mul vs fs e f = absurd (false≢true (sym f))
  other_head h vs fs e f = refl

  other_constant : (h : Head) (vs : List (Option ℤ)) → ((z : ℤ) → h ≡ Num z → ⊥) → is_sum_head h ≡ false → constant_over h vs ≡ None
  other_constant (Num z) vs e f = absurd (e z refl)
  other_constant Add vs e f = absurd (false≢true (sym f))
  other_constant Sub vs e f = absurd (false≢true (sym f))
  other_constant Mul vs e f = absurd (false≢true (sym f))
  other_constant h vs e f = refl

  module _ (t : TermId) (n : Node) (t_in : t.0 < length a.nodes) (at : slice_get a.nodes t.0 ≡ Some n) (found : Found) (is_alone : IsAlone t found) where
    alone : linear_form n.head (constant_values (trees a n.args)) (forms (trees a n.args)) ≡ None → constant_over n.head (constant_values (trees a n.args)) ≡ None → IsFound a (tree a t) found
    alone e f = subst (λ (x : Term). IsFound a x found) (sym (tree-node a ok t n at)) (record {
      constant = is_alone.constant ∙ sym (ap (λ (o : Option ℤ). is_some o) f);
      form = subst (λ (k : Formed). IsFormed a (term n.head (trees a n.args)) k) (sym is_alone.form) (own_form a ok n.head (trees a n.args) t e t_in (tree-node a ok t n at));
    })

    pub alone_other : ((z : ℤ) → n.head ≡ Num z → ⊥) → is_sum_head n.head ≡ false → IsFound a (tree a t) found
    alone_other e f = alone (other_head n.head _ _ e f) (other_constant n.head _ e f)

    few : (h : Head) (ts : List TermId) → is_sum_head h ≡ true → (length ts ≡ 2 → ⊥) → (linear_form h (constant_values (trees a ts)) (forms (trees a ts)) ≡ None) × (constant_over h (constant_values (trees a ts)) ≡ None)
    few Add [] e f = (refl, refl)
    few Add (u ∷ []) e f = (refl, refl)
    few Add (u ∷ v ∷ []) e f = absurd (f refl)
    few Add (u ∷ v ∷ w ∷ ts) e f = (refl, refl)
    few Sub [] e f = (refl, refl)
    few Sub (u ∷ []) e f = (refl, refl)
    few Sub (u ∷ v ∷ []) e f = absurd (f refl)
    few Sub (u ∷ v ∷ w ∷ ts) e f = (refl, refl)
    few Mul [] e f = (refl, refl)
    few Mul (u ∷ []) e f = (refl, refl)
    few Mul (u ∷ v ∷ []) e f = absurd (f refl)
    few Mul (u ∷ v ∷ w ∷ ts) e f = (refl, refl)
    few h ts e f = absurd (false≢true e)

    pub alone_few : is_sum_head n.head ≡ true → (args : List TermId) → args ≡ n.args → (length args ≡ 2 → ⊥) → IsFound a (tree a t) found
    alone_few e args same f =
        let parts = few n.head n.args e (λ l. f (ap (λ (ts : List TermId). length ts) same ∙ l)) in
        alone parts.0 parts.1

  -- ---- numerals

  no_arguments : (shapes : List Shape) (decls : List Decl) (sorts : List Sort) (h : Head) (z : ℤ) (ts : List TermId) → h ≡ Num z → IsSome (result_sort shapes decls h (sorts_in sorts ts)) → ts ≡ []
  no_arguments shapes decls sorts h z ts e k = empty ts (subst (λ (h : Head). IsSome (result_sort shapes decls h (sorts_in sorts ts))) e k)
    where
      empty : (ts : List TermId) → IsSome (result_sort shapes decls (Num z) (sorts_in sorts ts)) → ts ≡ []
      empty [] k = refl
      empty (t ∷ ts) k = absurd (false≢true k)

  module _ (t : TermId) (n : Node) (z : ℤ) (at : slice_get a.nodes t.0 ≡ Some n) (head_is : n.head ≡ Num z) where
    number_tree : tree a t ≡ term (Num z) no_terms
    number_tree =
        tree-node a ok t n at ∙ (ap (λ h. term h (trees a n.args)) head_is
        ∙ ap (λ (ts : List TermId). term (Num z) (trees a ts)) (no_arguments a.shapes a.decls _ n.head z n.args head_is (ok.nodes t.0 n at).sorts))

    pub number-fits-here : fits z ≡ true
    number-fits-here = subst (λ h. IsTrue (numeral_fits h)) head_is (ok.nodes t.0 n at).numeral

    pub number_found : (found : Found) → found.is_constant ≡ true → found.form ≡ Narrow (record { parts = []; constant = z }) → IsFound a (tree a t) found
    number_found found e f = subst (λ (x : Term). IsFound a x found) (sym number_tree) (record {
      constant = e;
      form = subst (λ (k : Formed). IsFormed a (term (Num z) no_terms) k) (sym f) (record {
        in_range = tt;
        same = record { parts = λ x. refl; constant = refl };
        narrow = ap (λ b. b && true) number-fits-here;
      });
    })

  -- ---- sums

  module _ (t : TermId) (n : Node) (t_in : t.0 < length a.nodes) (at : slice_get a.nodes t.0 ≡ Some n) (ids : List TermId) (known : List Found)
      (args : List TermId) (args_are : args ≡ n.args) (two : length args ≡ 2) (d e : TermId) where
    pair_tree : tree a t ≡ term n.head (pair (tree a (get_or args 0 d)) (tree a (get_or args 1 e)))
    pair_tree = tree-node a ok t n at ∙ (ap (λ (ts : List TermId). term n.head (trees a ts)) (sym args_are) ∙ ap (term n.head) (two_trees args two))
      where
        two_trees : (ts : List TermId) → length ts ≡ 2 → trees a ts ≡ pair (tree a (get_or ts 0 d)) (tree a (get_or ts 1 e))
        two_trees [] h = absurd (omega (arith, h))
        two_trees (u ∷ []) h = absurd (omega (arith, h))
        two_trees (u ∷ v ∷ []) h = refl
        two_trees (u ∷ v ∷ w ∷ ts) h = absurd (omega (arith, h))

    module _ (sum : is_sum_head n.head ≡ true) (ready : HasReadyArguments a ids (length known) t) where
      both_ready : AreReady ids (length known) args
      both_ready = subst (AreReady ids (length known)) (sym args_are) (ready.ready n at (ap is_sum (tree-node a ok t n at) ∙ sum))

      ready_parts : (ts : List TermId) → length ts ≡ 2 → AreReady ids (length known) ts → IsReady ids (length known) (get_or ts 0 d) × IsReady ids (length known) (get_or ts 1 e)
      ready_parts [] h k = absurd (omega (arith, h))
      ready_parts (u ∷ []) h k = absurd (omega (arith, h))
      ready_parts (u ∷ v ∷ ts) h k = (k.0, k.1.0)

      pub left_ready : IsReady ids (length known) (get_or args 0 d)
      left_ready = (ready_parts args two both_ready).0

      pub right_ready : IsReady ids (length known) (get_or args 1 e)
      right_ready = (ready_parts args two both_ready).1

    pub sum_found : (left right found : Found) → AreFound a ids known → IsBeside ids known (get_or args 0 d) left → IsBeside ids known (get_or args 1 e) right → IsPairFound n.head t left right found
        → IsFound a (tree a t) found
    sum_found left right found all l r made =
        made.in_arena a ok t_in _ _ pair_tree (beside_found a ids known _ left all l) (beside_found a ids known _ right all r)

-- ---- answers

pub if_some : {T : Type 0} (o : Option T) (P : T → Type 0) (x : T) → o ≡ Some x → IfSome o P → P x
if_some None P x e p = absurd (cc)
if_some (Some y) P x e p = subst P (same_Some y x e) p

pub if_ok : {T E : Type 0} (r : Result T E) (P Q : T → Type 0) → IfOk r P → ((x : T) → P x → Q x) → IfOk r Q
if_ok (Ok x) P Q p go = go x p
if_ok (Err e) P Q p go = tt

pub coefficients_of : (a : Arena) → IsArena a → (x : Term) (l : IdForm) → IsFormOf a x l → (u : TermId) → u.0 < length a.nodes → coefficient_at l.parts u ≡ coefficient (form x).parts (tree a u)
coefficients_of a ok x l is u u_in = sym (over-at a ok l.parts u is.in_range u_in) ∙ is.same.parts (tree a u)

false_right : (a b : Bool) → b ≡ false → (a && b) ≡ false
false_right true b h = h
false_right false b h = refl

false_left : (a b : Bool) → a ≡ false → (a && b) ≡ false
false_left true b h = absurd (false≢true (sym h))
false_left false b h = refl

mutual
  -- where a form in a linear position does not fit, not all of them do
  pub wide_position : (x w : Term) → stands_in w x ≡ true → form_fits (form w) ≡ false → is_narrow x ≡ false
  wide_position (term h ts) w inside wide =
      by_case (term_eq w (term h ts)) refl (is_linear (linear_form h (constant_values ts) (forms ts))) refl inside (λ k. wide_positions ts w k wide)
    where
      by_case : (b : Bool) → term_eq w (term h ts) ≡ b → (c : Bool) → is_linear (linear_form h (constant_values ts) (forms ts)) ≡ c → (b || cond c (stands_in_any w ts) false) ≡ true
          → (stands_in_any w ts ≡ true → all_narrow ts ≡ false) → is_narrow (term h ts) ≡ false
      by_case true e c f k later =
          false_left (form_fits (form (term h ts))) (cond (is_linear (linear_form h (constant_values ts) (forms ts))) (all_narrow ts) true)
          (ap (λ y. form_fits (form y)) (sym (term_eq-true w (term h ts) e)) ∙ wide)
      by_case false e true f k later =
          false_right (form_fits (form (term h ts))) (cond (is_linear (linear_form h (constant_values ts) (forms ts))) (all_narrow ts) true)
          (ap (λ b. cond b (all_narrow ts) true) f ∙ later k)
      by_case false e false f k later = absurd (false≢true k)

  wide_positions : (ts : Terms) (w : Term) → stands_in_any w ts ≡ true → form_fits (form w) ≡ false → all_narrow ts ≡ false
  wide_positions no_terms w inside wide = absurd (false≢true inside)
  wide_positions (terms t ts) w inside wide = by_case (stands_in w t) refl inside (λ k. wide_position t w k wide) (λ k. wide_positions ts w k wide)
    where
      by_case : (b : Bool) → stands_in w t ≡ b → (b || stands_in_any w ts) ≡ true → (stands_in w t ≡ true → is_narrow t ≡ false) → (stands_in_any w ts ≡ true → all_narrow ts ≡ false) → (is_narrow t && all_narrow ts) ≡ false
      by_case true e k here later = false_left (is_narrow t) (all_narrow ts) (here e)
      by_case false e k here later = false_right (is_narrow t) (all_narrow ts) (later k)

pub wide_exact : (a : Arena) (x : Term) (u : TermId) → IsWideIn a x u → is_narrow x ≡ false
wide_exact a x u w = wide_position x (tree a u) w.inside w.wide

-- ---- turns of the loop

module _ (a : Arena) (ids items : List TermId) (i : ℕ) (d : TermId) (same : items ≡ ids) where
  pub listed_in : AllBelow (length a.nodes) ids → i < length items → (get_or items i d).0 < length a.nodes
  listed_in ids_in below =
      AllBelow-at (length a.nodes) items i (get_or items i d) (subst (AllBelow (length a.nodes)) (sym same) ids_in) (slice_get-get_or items i d below)

  module _ (below : i < length items) where
    listed_at : (known : List Found) → length known ≡ i → slice_get ids (length known) ≡ Some (get_or items i d)
    listed_at known e = ap (slice_get ids) e ∙ (ap (λ (xs : List TermId). slice_get xs i) (sym same) ∙ slice_get-get_or items i d below)

    pub listed_behind : AreBehindArguments a ids → (known slice : List Found) → slice ≡ known → length known ≡ i → HasReadyArguments a ids (length slice) (get_or items i d)
    listed_behind behind known slice e f =
        subst (λ (ks : List Found). HasReadyArguments a ids (length ks) (get_or items i d)) (sym e) (behind.before (length known) (get_or items i d) (listed_at known f))

    pub one_more_listed : (known more : List Found) (found : Found) → length known ≡ i → AreFound a ids known → IsFound a (tree a (get_or items i d)) found → more ≡ known ++ found ∷ [] → AreFound a ids more
    one_more_listed known more found e all is f = one_more_found a ids known more (get_or items i d) found all (listed_at known e) is f

pub one_more_length : (known more : List Found) (i : ℕ) (found : Found) → length known ≡ i → more ≡ known ++ found ∷ [] → length more ≡ i + 1
one_more_length known more i found len e = omega (arith, len, ap length e, length_push known found)

-- ---- the whole

pub found_form : (a : Arena) (ids : List TermId) (known : List Found) (t : TermId) (found : Found) → AreFound a ids known → IsBeside ids known t found → IsFormed a (tree a t) found.form
found_form a ids known t found all b = (beside_found a ids known t found all b).form
