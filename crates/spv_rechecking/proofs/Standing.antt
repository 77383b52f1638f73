-- Texts that stand for terms: so do their parts, and so do all terms of the table exactly where those that are named do.
use Rattle.std.proofs.Common.{◌≡◌, ℕ, zero, suc, ◌<◌, Bool, true, false, ◌&&◌, if◌then◌else◌, Option, Some, None, is_some, List, [], ◌∷◌, ◌++◌, map, length, get_or, refl, sym, ap, subst, ◌∙◌, append_assoc, append-nil, true≢false, arith}
use Rattle.std.specs.List.{list_all, list_any}
use Rattle.std.specs.Option.{option_map, unwrap_or}
use Rattle.std.proofs.lemmas.Bool.{false≢true}
use Rattle.std.proofs.lemmas.List.Folds.{list_all-append}
use Rattle.spv_logic.specs.declared.types.Sort.{Sort}
use Rattle.spv_logic.specs.declared.operators.Head.{Head}
use Rattle.spv_logic.specs.declared.operators.Head.TheVariants.{True}
use Rattle.spv_logic.specs.Terms.{Term, Terms, term, no_terms, terms, heads_pass, all_heads_pass}
use Rattle.spv_logic.specs.Sorts.{term_sort, term_sorts, with_sorts, sort_before, result_sort}
use Rattle.spv_logic.proofs.list.Tests.{left_true, right_true}
use Rattle.spv_listing_values.specs.declared.texts.Text.{Text}
use Rattle.spv_listing_values.specs.Written as text
use Rattle.spv_listing_values.specs.Written.{Written, Writtens, written, no_written, writtens, word}
use Rattle.spv_listing_values.specs.Places.{Flat, IsTable, args_at, tree_of, trees_behind, trees, tree, flat_eq, with_flat, entered, all_entered, list_entered, flats_of}
use Rattle.spv_listing_values.specs.Waiting.{AreIn}
use Rattle.spv_listing_values.proofs.Entering.{entering}
use Rattle.spv_listing_values.proofs.Grown.{Grown, AreEntered, is_entered, grown_none, grown_twice, in_more, tree_stays, length_trees}
use Rattle.spv_listing_values.proofs.Numerals.{both_true}
use Rattle.spv_rechecking.specs.written_terms.Standing.{Vocabulary, top, head_for, over, in_front, heads_over, all_heads_over, may_stand, is_term, if_term, term_for, stands}
use Rattle.spv_rechecking.specs.written_terms.Read.{head_read}
use Rattle.spv_rechecking.specs.Rechecked.{term_of}

-- terms that are entered one behind the other
pub are_entered : (ts : Writtens) (fs : List Flat) (ps : List Text) → IsTable fs → AreEntered fs (all_entered (entering fs ps) ts).flats ps (all_entered (entering fs ps) ts).places ts
are_entered no_written fs ps ok = record { grown = grown_none fs ok; places = []; last = sym (append-nil ps); in_range = tt; trees_are = refl }
are_entered (writtens t ts) fs ps ok =
    let e = entered (entering fs ps) t in
    let one = is_entered t fs ps ok in
    let others = are_entered ts e.flats e.places one.grown.table in
    let a = all_entered (entering e.flats e.places) ts in
    record {
      grown = grown_twice fs e.flats a.flats one.grown others.grown;
      places = one.place ∷ others.places;
      last = others.last ∙ (ap (λ (l : List Text). l ++ others.places) one.last ∙ append_assoc ps (one.place ∷ []) others.places);
      in_range = (in_more e.flats a.flats others.grown one.place.0 one.in_range, others.in_range);
      trees_are =
          ap (λ (u : Written). writtens u (args_at (trees a.flats) others.places)) (tree_stays e.flats a.flats others.grown one.place one.in_range ∙ one.tree_is)
          ∙ ap (λ (us : Writtens). writtens t us) others.trees_are;
    }

-- arguments over which a term is entered
pub record OverArguments (fs : List Flat) (h : text.Head) (ts : Writtens) : Type 0 where
  pub grown : Grown fs (all_entered (entering fs []) ts).flats
  pub are_in : AreIn (all_entered (entering fs []) ts).flats (all_entered (entering fs []) ts).places
  pub is : tree_of (trees (all_entered (entering fs []) ts).flats) (record { head = h; args = (all_entered (entering fs []) ts).places }) ≡ written h ts

pub over_arguments : (fs : List Flat) (h : text.Head) (ts : Writtens) → IsTable fs → OverArguments fs h ts
over_arguments fs h ts ok =
    let a = all_entered (entering fs []) ts in
    let args = are_entered ts fs [] ok in
    record {
      grown = args.grown;
      are_in = subst (AreIn a.flats) (sym args.last) args.in_range;
      is = ap (λ (us : Writtens). written h us) (ap (args_at (trees a.flats)) args.last ∙ args.trees_are);
    }

module _ (v : Vocabulary) where
  -- ---- a text and its parts

  pub record Reads (w : Written) (t : Term) : Type 0 where
    pub heads : heads_over v.words w ≡ Some t
    pub sorted : is_some (term_sort v.shapes v.decls t) ≡ true
    pub pass : heads_pass (may_stand v.shapes) t ≡ true

  pub record AllReads (ws : Writtens) (us : Terms) : Type 0 where
    pub heads : all_heads_over v.words ws ≡ Some us
    pub sorted : is_some (term_sorts v.shapes v.decls us) ≡ true
    pub pass : all_heads_pass (may_stand v.shapes) us ≡ true

  pub stands_as : (w : Written) (t : Term) → Reads w t → term_for v w ≡ Some t
  stands_as w t r = ap (if_term v) r.heads ∙ ap (λ b. if b then Some t else None) (both_true (is_some (term_sort v.shapes v.decls t)) (heads_pass (may_stand v.shapes) t) r.sorted r.pass)

  pub term_is : (w : Written) (t : Term) → Reads w t → term_of v w ≡ t
  term_is w t r = ap (λ o. unwrap_or o (term True no_terms)) (stands_as w t r)

  pub does_stand : (w : Written) (t : Term) → Reads w t → stands v w ≡ true
  does_stand w t r = ap is_some (stands_as w t r)

  record ReadSome (w : Written) : Type 0 where
    t : Term
    reads : Reads w t

  read_some : (w : Written) → stands v w ≡ true → ReadSome w
  read_some w h = by (heads_over v.words w) refl h
    where
      by_term : (t : Term) → heads_over v.words w ≡ Some t → (b : Bool) → is_term v t ≡ b → is_some (if b then Some t else None) ≡ true → ReadSome w
      by_term t e true f k = record {
        t = t;
        reads = record {
          heads = e;
          sorted = left_true (is_some (term_sort v.shapes v.decls t)) (heads_pass (may_stand v.shapes) t) f;
          pass = right_true (is_some (term_sort v.shapes v.decls t)) (heads_pass (may_stand v.shapes) t) f;
        };
      }
      by_term t e false f k = absurd (false≢true k)

      by : (o : Option Term) → heads_over v.words w ≡ o → is_some (if_term v o) ≡ true → ReadSome w
      by None e k = absurd (false≢true k)
      by (Some t) e k = by_term t e (is_term v t) refl k

  pub reads_of : (w : Written) → stands v w ≡ true → Reads w (term_of v w)
  reads_of w h = let r = read_some w h in subst (Reads w) (sym (term_is w r.t r.reads)) r.reads

  -- the head and the arguments of a text that stands for a term
  pub record ReadsOver (h : text.Head) (ts : Writtens) (t : Term) : Type 0 where
    pub k : Head
    pub us : Terms
    pub is : term k us ≡ t
    pub args : AllReads ts us

  some_sorts : (o : Option (List Sort)) (go : List Sort → Option Sort) → is_some (with_sorts o go) ≡ true → is_some o ≡ true
  some_sorts None go h = absurd (false≢true h)
  some_sorts (Some ss) go h = refl

  pub reads_over : (h : text.Head) (ts : Writtens) (t : Term) → Reads (written h ts) t → ReadsOver h ts t
  reads_over h ts t r = by (head_for v.words h) refl (all_heads_over v.words ts) refl r.heads
    where
      over_term : (k : Head) (us : Terms) → all_heads_over v.words ts ≡ Some us → term k us ≡ t → ReadsOver h ts t
      over_term k us e is = record {
        k = k;
        us = us;
        is = is;
        args = record {
          heads = e;
          sorted = some_sorts (term_sorts v.shapes v.decls us) (result_sort v.shapes v.decls k) (subst (λ u. is_some (term_sort v.shapes v.decls u) ≡ true) (sym is) r.sorted);
          pass = right_true (may_stand v.shapes k) (all_heads_pass (may_stand v.shapes) us) (subst (λ u. heads_pass (may_stand v.shapes) u ≡ true) (sym is) r.pass);
        };
      }

      by : (a : Option Head) → head_for v.words h ≡ a → (b : Option Terms) → all_heads_over v.words ts ≡ b → over a b ≡ Some t → ReadsOver h ts t
      by None e b f m = absurd cc
      by (Some k) e None f m = absurd cc
      by (Some k) e (Some us) f m = over_term k us f cc

  -- the first of texts, and the others
  pub record ReadsFirst (w : Written) (ws : Writtens) (us : Terms) : Type 0 where
    pub first : Term
    pub others : Terms
    pub is : terms first others ≡ us
    pub one : Reads w first
    pub rest : AllReads ws others

  first_sorted : (a : Option Sort) (b : Option (List Sort)) → is_some (sort_before a b) ≡ true → is_some a ≡ true
  first_sorted None b h = absurd (false≢true h)
  first_sorted (Some s) b h = refl

  rest_sorted : (a : Option Sort) (b : Option (List Sort)) → is_some (sort_before a b) ≡ true → is_some b ≡ true
  rest_sorted None b h = absurd (false≢true h)
  rest_sorted (Some s) None h = absurd (false≢true h)
  rest_sorted (Some s) (Some ss) h = refl

  pub reads_first : (w : Written) (ws : Writtens) (us : Terms) → AllReads (writtens w ws) us → ReadsFirst w ws us
  reads_first w ws us r = by (heads_over v.words w) refl (all_heads_over v.words ws) refl r.heads
    where
      in_front_of : (t : Term) (ts : Terms) → heads_over v.words w ≡ Some t → all_heads_over v.words ws ≡ Some ts → terms t ts ≡ us → ReadsFirst w ws us
      in_front_of t ts e f is =
          let sorted : is_some (sort_before (term_sort v.shapes v.decls t) (term_sorts v.shapes v.decls ts)) ≡ true = subst (λ u. is_some (term_sorts v.shapes v.decls u) ≡ true) (sym is) r.sorted in
          let pass : (heads_pass (may_stand v.shapes) t && all_heads_pass (may_stand v.shapes) ts) ≡ true = subst (λ u. all_heads_pass (may_stand v.shapes) u ≡ true) (sym is) r.pass in
          record {
            first = t;
            others = ts;
            is = is;
            one = record {
              heads = e;
              sorted = first_sorted (term_sort v.shapes v.decls t) (term_sorts v.shapes v.decls ts) sorted;
              pass = left_true (heads_pass (may_stand v.shapes) t) (all_heads_pass (may_stand v.shapes) ts) pass;
            };
            rest = record {
              heads = f;
              sorted = rest_sorted (term_sort v.shapes v.decls t) (term_sorts v.shapes v.decls ts) sorted;
              pass = right_true (heads_pass (may_stand v.shapes) t) (all_heads_pass (may_stand v.shapes) ts) pass;
            };
          }

      by : (a : Option Term) → heads_over v.words w ≡ a → (b : Option Terms) → all_heads_over v.words ws ≡ b → in_front a b ≡ Some us → ReadsFirst w ws us
      by None e b f m = absurd cc
      by (Some t) e None f m = absurd cc
      by (Some t) e (Some ts) f m = in_front_of t ts e f cc

  -- ---- where those that are named stand for terms, so do all of the table

  abbrev pub AllStand : List Flat → Type 0
  AllStand fs = list_all (stands v) (trees fs) ≡ true

  trees_append : (fs gs : List Flat) (before : List Written) → trees_behind before (fs ++ gs) ≡ trees_behind (trees_behind before fs) gs
  trees_append [] gs before = refl
  trees_append (f ∷ fs) gs before = trees_append fs gs (before ++ tree_of before f ∷ [])

  pub trees_push : (fs : List Flat) (f : Flat) → trees (fs ++ f ∷ []) ≡ trees fs ++ tree_of (trees fs) f ∷ []
  trees_push fs f = trees_append fs (f ∷ []) []

  one_more : (fs : List Flat) (f : Flat) → AllStand fs → stands v (tree_of (trees fs) f) ≡ true → AllStand (with_flat fs f)
  one_more fs f all one = by (list_any (flat_eq f) fs)
    where
      by : (b : Bool) → AllStand (if b then fs else fs ++ f ∷ [])
      by true = all
      by false =
          ap (list_all (stands v)) (trees_push fs f)
          ∙ (list_all-append (stands v) (trees fs) (tree_of (trees fs) f ∷ [])
          ∙ both_true (list_all (stands v) (trees fs)) (stands v (tree_of (trees fs) f) && true) all (both_true (stands v (tree_of (trees fs) f)) true one refl))

  mutual
    entered_stand : (w : Written) (t : Term) (r : Reads w t) (fs : List Flat) (ps : List Text) → IsTable fs → AllStand fs → AllStand (entered (entering fs ps) w).flats
    entered_stand (written h ts) t r fs ps ok all =
        let o = reads_over h ts t r in
        let args = over_arguments fs h ts ok in
        let a = all_entered (entering fs []) ts in
        one_more a.flats (record { head = h; args = a.places }) (all_entered_stand ts o.us o.args fs [] ok all) (ap (stands v) args.is ∙ does_stand (written h ts) t r)

    all_entered_stand : (ws : Writtens) (us : Terms) (r : AllReads ws us) (fs : List Flat) (ps : List Text) → IsTable fs → AllStand fs → AllStand (all_entered (entering fs ps) ws).flats
    all_entered_stand no_written us r fs ps ok all = all
    all_entered_stand (writtens w ws) us r fs ps ok all =
        let e = entered (entering fs ps) w in
        let o = reads_first w ws us r in
        all_entered_stand ws o.others o.rest e.flats e.places (is_entered w fs ps ok).grown.table (entered_stand w o.first o.one fs ps ok all)

  list_stand : (ts : List Written) (fs : List Flat) (ps : List Text) → IsTable fs → AllStand fs → list_all (stands v) ts ≡ true → AllStand (list_entered (entering fs ps) ts).flats
  list_stand [] fs ps ok all h = all
  list_stand (t ∷ ts) fs ps ok all h =
      let e = entered (entering fs ps) t in
      list_stand ts e.flats e.places (is_entered t fs ps ok).grown.table
      (entered_stand t (term_of v t) (reads_of t (left_true (stands v t) (list_all (stands v) ts) h)) fs ps ok all) (right_true (stands v t) (list_all (stands v) ts) h)

  no_table : IsTable []
  no_table = record { ordered = tt }

  pub table_stands : (fs : List Flat) (ts : List Written) → fs ≡ flats_of ts → list_all (stands v) ts ≡ true → AllStand fs
  table_stands fs ts e h = subst AllStand (sym e) (list_stand ts [] [] no_table refl h)

  -- ---- and the other way round

  all-at : (ws : List Written) (k : ℕ) (d : Written) → k < length ws → list_all (stands v) ws ≡ true → stands v (get_or ws k d) ≡ true
  all-at [] k d lt h = absurd (omega (arith, lt))
  all-at (w ∷ ws) zero d lt h = left_true (stands v w) (list_all (stands v) ws) h
  all-at (w ∷ ws) (suc k) d lt h = all-at ws k d (omega (arith, lt)) (right_true (stands v w) (list_all (stands v) ws) h)

  place_stands : (fs : List Flat) (t : Text) → t.0 < length fs → AllStand fs → stands v (tree fs t) ≡ true
  place_stands fs t lt all = let size = length_trees fs [] in all-at (trees fs) t.0 (word []) (omega (arith, lt, size)) all

  list_grown : (ts : List Written) (fs : List Flat) (ps : List Text) → IsTable fs → Grown fs (list_entered (entering fs ps) ts).flats
  list_grown [] fs ps ok = grown_none fs ok
  list_grown (t ∷ ts) fs ps ok =
      let e = entered (entering fs ps) t in
      let one = is_entered t fs ps ok in
      grown_twice fs e.flats (list_entered (entering e.flats e.places) ts).flats one.grown (list_grown ts e.flats e.places one.grown.table)

  named_stand : (ts : List Written) (fs : List Flat) (ps : List Text) → IsTable fs → AllStand (list_entered (entering fs ps) ts).flats → list_all (stands v) ts ≡ true
  named_stand [] fs ps ok all = refl
  named_stand (t ∷ ts) fs ps ok all =
      let e = entered (entering fs ps) t in
      let one = is_entered t fs ps ok in
      let last = (list_entered (entering e.flats e.places) ts).flats in
      let grown = list_grown ts e.flats e.places one.grown.table in
      let here : stands v t ≡ true = ap (stands v) (sym (tree_stays e.flats last grown one.place one.in_range ∙ one.tree_is)) ∙ place_stands last one.place (in_more e.flats last grown one.place.0 one.in_range) all in
      both_true (stands v t) (list_all (stands v) ts) here (named_stand ts e.flats e.places one.grown.table all)

  pub all_named_stand : (fs : List Flat) (ts : List Written) → fs ≡ flats_of ts → AllStand fs → list_all (stands v) ts ≡ true
  all_named_stand fs ts e all = named_stand ts [] [] no_table (subst AllStand e all)

  -- texts that have heads stand for terms
  pub heads_stand : (ws : List Written) (heads : List Head) → map (head_read v) ws ≡ map Some heads → list_all (stands v) ws ≡ true
  heads_stand [] heads h = refl
  heads_stand (w ∷ ws) [] h = absurd cc
  heads_stand (w ∷ ws) (k ∷ heads) h =
      let first : head_read v w ≡ Some k = cc in
      let rest : map (head_read v) ws ≡ map Some heads = cc in
      both_true (stands v w) (list_all (stands v) ws) (some_term (term_for v w) k first) (heads_stand ws heads rest)
    where
      some_term : (o : Option Term) (k : Head) → option_map top o ≡ Some k → is_some o ≡ true
      some_term None k e = absurd cc
      some_term (Some t) k e = refl

  -- a text of a table none of which fails
  pub none_named : (fs : List Flat) (ts : List Written) → fs ≡ flats_of ts → list_all (stands v) (trees fs) ≡ false → list_all (stands v) ts ≡ false
  none_named fs ts e h = by (list_all (stands v) ts) refl
    where
      by : (b : Bool) → list_all (stands v) ts ≡ b → list_all (stands v) ts ≡ false
      by true f = absurd (true≢false (sym (table_stands fs ts e f) ∙ h))
      by false f = f
