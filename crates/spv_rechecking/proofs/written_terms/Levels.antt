-- Terms that are read one behind the other, each over those in front of it.
use Rattle.std.proofs.Common.{◌≡◌, ℕ, zero, suc, ◌+◌, ◌<◌, ◌≤◌, Bool, true, false, ◌&&◌, if◌then◌else◌, Option, Some, None, is_some, List, [], ◌∷◌, ◌++◌, map, length, take, get_or, refl, sym, ap, subst, ◌∙◌, arith}
use Rattle.std.specs.List.{list_all}
use Rattle.std.specs.Option.{option_map, option_and_then}
use Rattle.std.proofs.lemmas.List.{get_or-take, length-take-le, length-map, take_all}
use Rattle.spv_logic.specs.declared.types.Sort.{Sort}
use Rattle.spv_logic.specs.declared.types.Sort.TheVariants as sort
use Rattle.spv_logic.specs.declared.operators.Head.{Head}
use Rattle.spv_logic.specs.Terms.{Term, Terms, term, no_terms, terms, heads_pass, all_heads_pass}
use Rattle.spv_logic.specs.Sorts.{term_sort, term_sorts, with_sorts, sort_before, result_sort}
use Rattle.spv_logic.proofs.list.Tests.{right_true}
use Rattle.spv_listing_values.specs.declared.texts.Text.{Text}
use Rattle.spv_listing_values.specs.Written as text
use Rattle.spv_listing_values.specs.Written.{Written, Writtens, written, no_written, writtens, word}
use Rattle.spv_listing_values.specs.Places.{Flat, no_flat, flat_in, AreBefore, AreOrdered, IsTable, args_at, trees, at}
use Rattle.spv_listing_values.proofs.Grown.{length_trees}
use Rattle.spv_listing_values.proofs.Numerals.{both_true}
use Rattle.spv_listing_values.proofs.Trees.{tree-node, before_more}
use Rattle.spv_rechecking.specs.written_terms.Standing.{Vocabulary, top, head_for, over, in_front, heads_over, all_heads_over, may_stand, sort_over, is_term, if_term, term_for, stands}
use Rattle.spv_rechecking.specs.declared.written_terms.reading.One.{One}
use Rattle.spv_rechecking.specs.written_terms.Read.{head_read, sort_read, sorts_of, AreRead, IsOne, IsOneOver}
use Rattle.spv_rechecking.proofs.written_terms.Lists.{mapped-at, mapped-more, all-fails}

-- ---- one text

-- a text stands for a term of this sort
pub record IsRead (v : Vocabulary) (w : Written) (s : Sort) : Type 0 where
  pub t : Term
  pub heads : heads_over v.words w ≡ Some t
  pub sort : term_sort v.shapes v.decls t ≡ Some s
  pub pass : heads_pass (may_stand v.shapes) t ≡ true

pub is_read : (v : Vocabulary) (w : Written) (s : Sort) → sort_read v w ≡ Some s → IsRead v w s
is_read v w s h = by (heads_over v.words w) refl h
  where
    by_term : (t : Term) → heads_over v.words w ≡ Some t → (b : Bool) → is_term v t ≡ b → option_and_then (term_sort v.shapes v.decls) (if b then Some t else None) ≡ Some s → IsRead v w s
    by_term t e true f k = record { t = t; heads = e; sort = k; pass = right_true (is_some (term_sort v.shapes v.decls t)) (heads_pass (may_stand v.shapes) t) f }
    by_term t e false f k = absurd cc

    by : (o : Option Term) → heads_over v.words w ≡ o → option_and_then (term_sort v.shapes v.decls) (if_term v o) ≡ Some s → IsRead v w s
    by None e k = absurd cc
    by (Some t) e k = by_term t e (is_term v t) refl k

-- the term that a text stands for
pub stands_for : (v : Vocabulary) (w : Written) (s : Sort) (r : IsRead v w s) → term_for v w ≡ Some r.t
stands_for v w s r =
    ap (if_term v) r.heads
    ∙ ap (λ b. if b then Some r.t else None) (both_true (is_some (term_sort v.shapes v.decls r.t)) (heads_pass (may_stand v.shapes) r.t) (ap is_some r.sort) r.pass)

-- what is no term where its heads are there
no_heads : (v : Vocabulary) (w : Written) → heads_over v.words w ≡ None → stands v w ≡ false
no_heads v w e = ap (λ o. is_some (if_term v o)) e

no_term : (v : Vocabulary) (w : Written) (t : Term) → heads_over v.words w ≡ Some t → is_term v t ≡ false → stands v w ≡ false
no_term v w t e f = ap (λ o. is_some (if_term v o)) e ∙ ap (λ b. is_some (if b then Some t else None)) f

-- ---- a text over those that were read

module _ (v : Vocabulary) (ws : List Written) (sorts : List Sort) (i : ℕ) (known : (k : ℕ) → k < i → sort_read v (get_or ws k (word [])) ≡ Some (get_or sorts k sort.Int)) where
  pub record ArgsRead (args : List Text) : Type 0 where
    pub us : Terms
    pub heads : all_heads_over v.words (args_at ws args) ≡ Some us
    pub are : term_sorts v.shapes v.decls us ≡ Some (sorts_of sorts args)
    pub pass : all_heads_pass (may_stand v.shapes) us ≡ true

  pub args_read : (args : List Text) → AreBefore i args → ArgsRead args
  args_read [] h = record { us = no_terms; heads = refl; are = refl; pass = refl }
  args_read (a ∷ args) h =
      let one = is_read v (at ws a) (get_or sorts a.0 sort.Int) (known a.0 h.0) in
      let others = args_read args h.1 in
      record {
        us = terms one.t others.us;
        heads = λ j. in_front (one.heads j) (others.heads j);
        are = λ j. sort_before (one.sort j) (others.are j);
        pass = both_true (heads_pass (may_stand v.shapes) one.t) (all_heads_pass (may_stand v.shapes) others.us) one.pass others.pass;
      }

  module _ (h : text.Head) (args : List Text) (before : AreBefore i args) where
    abbrev own : Written
    own = written h (args_at ws args)

    given_heads : (k : Head) → head_for v.words h ≡ Some k → heads_over v.words own ≡ Some (term k (args_read args before).us)
    given_heads k e = λ j. over (e j) ((args_read args before).heads j)

    module _ (k : Head) (e : head_for v.words h ≡ Some k) where
      abbrev mine : Term
      mine = term k (args_read args before).us

      sort_is : term_sort v.shapes v.decls mine ≡ result_sort v.shapes v.decls k (sorts_of sorts args)
      sort_is = ap (λ o. with_sorts o (result_sort v.shapes v.decls k)) (args_read args before).are

      pub one_read : (s : Sort) → sort_over v.shapes v.decls k (sorts_of sorts args) ≡ Some s → IsRead v own s
      one_read s f = by (may_stand v.shapes k) refl f
        where
          by : (b : Bool) → may_stand v.shapes k ≡ b → (if b then result_sort v.shapes v.decls k (sorts_of sorts args) else None) ≡ Some s → IsRead v own s
          by true g m = record {
            t = mine;
            heads = given_heads k e;
            sort = sort_is ∙ m;
            pass = both_true (may_stand v.shapes k) (all_heads_pass (may_stand v.shapes) (args_read args before).us) g (args_read args before).pass;
          }
          by false g m = absurd cc

      pub one_head : (s : Sort) (f : sort_over v.shapes v.decls k (sorts_of sorts args) ≡ Some s) → head_read v own ≡ Some k
      one_head s f = by (may_stand v.shapes k) refl f
        where
          by : (b : Bool) → may_stand v.shapes k ≡ b → (if b then result_sort v.shapes v.decls k (sorts_of sorts args) else None) ≡ Some s → head_read v own ≡ Some k
          by true g m = ap (option_map top) (stands_for v own s (record {
            t = mine;
            heads = given_heads k e;
            sort = sort_is ∙ m;
            pass = both_true (may_stand v.shapes k) (all_heads_pass (may_stand v.shapes) (args_read args before).us) g (args_read args before).pass;
          }))
          by false g m = absurd cc

      pub one_fails : sort_over v.shapes v.decls k (sorts_of sorts args) ≡ None → stands v own ≡ false
      one_fails f = no_term v own mine (given_heads k e) (by (may_stand v.shapes k) refl f)
        where
          other : (b c : Bool) → b ≡ false → (b && c) ≡ false
          other b c g = ap (λ d. d && c) g

          last : (b c : Bool) → c ≡ false → (b && c) ≡ false
          last true c g = g
          last false c g = refl

          by : (b : Bool) → may_stand v.shapes k ≡ b → (if b then result_sort v.shapes v.decls k (sorts_of sorts args) else None) ≡ None → is_term v mine ≡ false
          by true g m = other (is_some (term_sort v.shapes v.decls mine)) (heads_pass (may_stand v.shapes) mine) (ap is_some (sort_is ∙ m))
          by false g m =
              last (is_some (term_sort v.shapes v.decls mine)) (heads_pass (may_stand v.shapes) mine) (other (may_stand v.shapes k) (all_heads_pass (may_stand v.shapes) (args_read args before).us) g)

    pub head_fails : head_for v.words h ≡ None → stands v own ≡ false
    head_fails e = no_heads v own (ap (λ o. over o (all_heads_over v.words (args_at ws args))) e)

-- ---- the texts of a table

args_before : (fs : List Flat) (n k : ℕ) → AreOrdered n fs → k < length fs → AreBefore (n + k) (get_or fs k no_flat).args
args_before [] n k ordered h = absurd (omega (arith, h))
args_before (f ∷ fs) n zero ordered h = before_more n (n + 0) f.args (omega arith) ordered.0
args_before (f ∷ fs) n (suc k) ordered h =
    before_more (suc n + k) (n + suc k) (get_or fs k no_flat).args (omega arith) (args_before fs (suc n) k ordered.1 (omega (arith, h)))

pub table_before : (fs : List Flat) → IsTable fs → (t : Text) → t.0 < length fs → AreBefore t.0 (flat_in fs t).args
table_before fs ok t h = before_more (0 + t.0) t.0 (flat_in fs t).args (omega arith) (args_before fs 0 t.0 ok.ordered h)

pub so_many_trees : (fs : List Flat) → length (trees fs) ≡ length fs
so_many_trees fs = let e = length_trees fs [] in omega (arith, e)

module _ (v : Vocabulary) (fs : List Flat) (ok : IsTable fs) (heads : List Head) (sorts : List Sort) (i : ℕ) (read : AreRead v (take i (trees fs)) heads sorts) where
  pub so_many_sorts : i ≤ length fs → length sorts ≡ i
  so_many_sorts le =
      let size = so_many_trees fs in
      sym (length-map sorts Some) ∙ (ap length (sym read.sorts_are) ∙ (length-map (take i (trees fs)) (sort_read v) ∙ length-take-le i (trees fs) (omega (arith, size, le))))

  pub below_sorts : (t : Text) → t.0 ≡ i → t.0 < length fs → (slice : List Sort) → slice ≡ sorts → (args : List Text) → args ≡ (flat_in fs t).args → AreBefore (length slice) args
  below_sorts t is here slice slice_is args args_is =
      let size : length slice ≡ t.0 = ap length slice_is ∙ (so_many_sorts (omega (arith, is, here)) ∙ sym is) in
      subst (λ n. AreBefore n args) (sym size) (subst (AreBefore t.0) (sym args_is) (table_before fs ok t here))

  known_below : i ≤ length fs → (k : ℕ) → k < i → sort_read v (get_or (trees fs) k (word [])) ≡ Some (get_or sorts k sort.Int)
  known_below le k lt =
      let size = so_many_trees fs in
      let first : length (take i (trees fs)) ≡ i = length-take-le i (trees fs) (omega (arith, size, le)) in
      ap (sort_read v) (sym (get_or-take i (trees fs) k (word []) lt))
      ∙ mapped-at (sort_read v) Some (take i (trees fs)) sorts read.sorts_are k (omega (arith, first, lt)) (word []) sort.Int

  module _ (t : Text) (is : t.0 ≡ i) (here : t.0 < length fs) (given : List Sort) (given_are : given ≡ sorts_of sorts (flat_in fs t).args) (one : Option One)
      (one_is : IsOne v.shapes v.decls (head_for v.words (flat_in fs t).head) given one) where
    low : i ≤ length fs
    low = omega (arith, is, here)

    in_trees : i < length (trees fs)
    in_trees = let size = so_many_trees fs in omega (arith, is, here, size)

    args_are : AreBefore i (flat_in fs t).args
    args_are = subst (λ n. AreBefore n (flat_in fs t).args) is (table_before fs ok t here)

    abbrev mine_own : Written
    mine_own = written (flat_in fs t).head (args_at (trees fs) (flat_in fs t).args)

    own_is : get_or (trees fs) i (word []) ≡ mine_own
    own_is = ap (λ n. get_or (trees fs) n (word [])) (sym is) ∙ tree-node fs ok t here

    fails : stands v mine_own ≡ false → list_all (stands v) (trees fs) ≡ false
    fails h = all-fails (stands v) (trees fs) i (word []) in_trees (ap (stands v) own_is ∙ h)

    by_sort : (h : Head) → head_for v.words (flat_in fs t).head ≡ Some h → (o : Option Sort) → sort_over v.shapes v.decls h given ≡ o → IsOneOver o h one → one ≡ None → stands v mine_own ≡ false
    by_sort h e None f k none = one_fails v (trees fs) sorts i (known_below low) (flat_in fs t).head (flat_in fs t).args args_are h e (ap (sort_over v.shapes v.decls h) (sym given_are) ∙ f)
    by_sort h e (Some s) f k none = absurd cc

    by_head : (o : Option Head) → head_for v.words (flat_in fs t).head ≡ o → IsOne v.shapes v.decls o given one → one ≡ None → stands v mine_own ≡ false
    by_head None e k none = head_fails v (trees fs) sorts i (known_below low) (flat_in fs t).head (flat_in fs t).args args_are e
    by_head (Some h) e k none = by_sort h e (sort_over v.shapes v.decls h given) refl k none

    pub none_stands : one ≡ None → list_all (stands v) (trees fs) ≡ false
    none_stands none = fails (by_head (head_for v.words (flat_in fs t).head) refl one_is none)

    record IsNext (h : Head) (s : Sort) : Type 0 where
      head : head_read v mine_own ≡ Some h
      sort : sort_read v mine_own ≡ Some s

    next_sort : (h : Head) → head_for v.words (flat_in fs t).head ≡ Some h → (o : Option Sort) → sort_over v.shapes v.decls h given ≡ o → IsOneOver o h one → (x : One) → one ≡ Some x → IsNext x.head x.sort
    next_sort h e None f k x some = absurd cc
    next_sort h e (Some s) f k x some =
        let over_own : sort_over v.shapes v.decls h (sorts_of sorts (flat_in fs t).args) ≡ Some s = ap (sort_over v.shapes v.decls h) (sym given_are) ∙ f in
        let read_own = one_read v (trees fs) sorts i (known_below low) (flat_in fs t).head (flat_in fs t).args args_are h e s over_own in
        let same : record { head = h; sort = s } ≡ x = cc in
        subst (λ (y : One). IsNext y.head y.sort) same (record {
          head = one_head v (trees fs) sorts i (known_below low) (flat_in fs t).head (flat_in fs t).args args_are h e s over_own;
          sort = ap (option_and_then (term_sort v.shapes v.decls)) (stands_for v mine_own s read_own) ∙ read_own.sort;
        })

    next_head : (o : Option Head) → head_for v.words (flat_in fs t).head ≡ o → IsOne v.shapes v.decls o given one → (x : One) → one ≡ Some x → IsNext x.head x.sort
    next_head None e k x some = absurd cc
    next_head (Some h) e k x some = next_sort h e (sort_over v.shapes v.decls h given) refl k x some

    pub one_more : (x : One) → one ≡ Some x → (more_heads : List Head) (more_sorts : List Sort) → more_heads ≡ heads ++ x.head ∷ [] → more_sorts ≡ sorts ++ x.sort ∷ []
        → AreRead v (take (i + 1) (trees fs)) more_heads more_sorts
    one_more x some more_heads more_sorts add_head add_sort =
        let next = next_head (head_for v.words (flat_in fs t).head) refl one_is x some in
        record {
          heads_are = mapped-more (head_read v) Some (trees fs) i heads more_heads (word []) x.head in_trees read.heads_are (ap (head_read v) own_is ∙ next.head) add_head;
          sorts_are = mapped-more (sort_read v) Some (trees fs) i sorts more_sorts (word []) x.sort in_trees read.sorts_are (ap (sort_read v) own_is ∙ next.sort) add_sort;
        }

  pub all_read : length fs ≤ i → map (head_read v) (trees fs) ≡ map Some heads
  all_read le = let size = so_many_trees fs in ap (map (head_read v)) (sym (take_all i (trees fs) (omega (arith, size, le)))) ∙ read.heads_are

pub none_read : (v : Vocabulary) (fs : List Flat) → AreRead v (take 0 (trees fs)) [] []
none_read v fs = record { heads_are = refl; sorts_are = refl }
