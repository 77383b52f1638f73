-- Terms that are entered: each stands at its place, and what stood there before stays.
use Rattle.std.proofs.Common.{◌≡◌, ℕ, suc, ◌+◌, ◌<◌, Bool, true, false, ◌||◌, cond, not, if◌then◌else◌, Option, Some, None, List, [], ◌∷◌, ◌++◌, length, get_or, refl, sym, ap, subst, ◌∙◌, append_assoc, append-nil, zero-add, add-zero, one-add, nat_eq, arith}
use Rattle.std.specs.List.{list_any, position_or_len}
use Rattle.std.specs.Str.{bytes_eq}
use Rattle.std.proofs.lemmas.Bool.{false≢true, eqb-true, eq-eqb}
use Rattle.std.proofs.lemmas.List.{length-append}
use Rattle.std.proofs.lemmas.Slice.Eq.{bytes_eq-Decides}
use Rattle.std.proofs.Math.Seq.{get_or-append_seam}
use Rattle.spv_logic.proofs.list.Tests.{left_true, right_true}
use Rattle.spv_listing_values.specs.declared.texts.Text.{Text}
use Rattle.spv_listing_values.specs.Written.{Head, Alone, Applied, Written, Writtens, written, no_written, writtens, word}
use Rattle.spv_listing_values.specs.Places.{Flat, no_flat, flat_in, AreBefore, AreOrdered, IsTable, args_at, tree_of, trees_behind, trees, tree, texts_eq, name_eq, head_eq, flat_eq, with_flat, place_of, entered, all_entered}
use Rattle.spv_listing_values.specs.Waiting.{AreIn}
use Rattle.spv_listing_values.proofs.Trees.{stays, tree-node}
use Rattle.spv_listing_values.proofs.Entering.{entering}
use Rattle.spv_listing_values.proofs.Numerals.{both_true}

-- ---- equal terms

pub texts_eq-true : (a b : List Text) → texts_eq a b ≡ true → a ≡ b
texts_eq-true [] [] h = refl
texts_eq-true [] (u ∷ us) h = absurd (false≢true h)
texts_eq-true (t ∷ ts) [] h = absurd (false≢true h)
texts_eq-true (t ∷ ts) (u ∷ us) h =
    let first : t.0 ≡ u.0 = eqb-true t.0 u.0 (left_true (nat_eq t.0 u.0) (texts_eq ts us) h) in
    let rest : ts ≡ us = texts_eq-true ts us (right_true (nat_eq t.0 u.0) (texts_eq ts us) h) in
    λ i. record { 0 = first i } ∷ rest i

pub texts_eq-same : (a : List Text) → texts_eq a a ≡ true
texts_eq-same [] = refl
texts_eq-same (t ∷ ts) = both_true (nat_eq t.0 t.0) (texts_eq ts ts) (eq-eqb t.0 t.0 refl) (texts_eq-same ts)

name_eq-true : (a b : Option (List ℕ)) → name_eq a b ≡ true → a ≡ b
name_eq-true None None h = refl
name_eq-true None (Some b) h = absurd (false≢true h)
name_eq-true (Some a) None h = absurd (false≢true h)
name_eq-true (Some a) (Some b) h = ap (λ (x : List ℕ). Some x) ((bytes_eq-Decides a b).0 h)

name_eq-same : (a : Option (List ℕ)) → name_eq a a ≡ true
name_eq-same None = refl
name_eq-same (Some a) = (bytes_eq-Decides a a).1 refl

pub head_eq-true : (a b : Head) → head_eq a b ≡ true → a ≡ b
head_eq-true (Alone a) (Alone b) h = ap (λ (x : List ℕ). Alone x) ((bytes_eq-Decides a b).0 h)
head_eq-true (Alone a) (Applied b n) h = absurd (false≢true h)
head_eq-true (Applied a m) (Alone b) h = absurd (false≢true h)
head_eq-true (Applied a m) (Applied b n) h =
    let first : a ≡ b = (bytes_eq-Decides a b).0 (left_true (bytes_eq a b) (name_eq m n) h) in
    let name : m ≡ n = name_eq-true m n (right_true (bytes_eq a b) (name_eq m n) h) in
    λ i. Applied (first i) (name i)

pub head_eq-same : (a : Head) → head_eq a a ≡ true
head_eq-same (Alone a) = (bytes_eq-Decides a a).1 refl
head_eq-same (Applied a m) = both_true (bytes_eq a a) (name_eq m m) ((bytes_eq-Decides a a).1 refl) (name_eq-same m)

pub flat_eq-true : (f g : Flat) → flat_eq f g ≡ true → f ≡ g
flat_eq-true f g h =
    let head : f.head ≡ g.head = head_eq-true f.head g.head (left_true (head_eq f.head g.head) (texts_eq f.args g.args) h) in
    let args : f.args ≡ g.args = texts_eq-true f.args g.args (right_true (head_eq f.head g.head) (texts_eq f.args g.args) h) in
    λ i. record { head = head i; args = args i }

pub flat_eq-same : (f : Flat) → flat_eq f f ≡ true
flat_eq-same f = both_true (head_eq f.head f.head) (texts_eq f.args f.args) (head_eq-same f.head) (texts_eq-same f.args)

-- ---- where a term stands

pub record StandsAt (fs : List Flat) (f : Flat) (k : ℕ) : Type 0 where
  pub in_range : k < length fs
  pub is : get_or fs k no_flat ≡ f

or_false : (b c : Bool) → b ≡ false → (b || c) ≡ true → c ≡ true
or_false b c e h = ap (λ (d : Bool). d || c) (sym e) ∙ h

pub known_at : (fs : List Flat) (f : Flat) → list_any (flat_eq f) fs ≡ true → StandsAt fs f (position_or_len (flat_eq f) fs)
known_at [] f h = absurd (false≢true h)
known_at (g ∷ fs) f h = by (flat_eq f g) refl (known_at fs f)
  where
    by : (b : Bool) → flat_eq f g ≡ b → (list_any (flat_eq f) fs ≡ true → StandsAt fs f (position_or_len (flat_eq f) fs))
        → StandsAt (g ∷ fs) f (position_or_len (flat_eq f) (g ∷ fs))
    by true e rest = subst (StandsAt (g ∷ fs) f) (ap (λ (b : Bool). cond (not b) (1 + position_or_len (flat_eq f) fs) 0) (sym e)) (record { in_range = first (length fs); is = sym (flat_eq-true f g e) })
      where
        first : (n : ℕ) → 0 < suc n
        first n = omega arith
    by false e rest =
        let others = rest (or_false (flat_eq f g) (list_any (flat_eq f) fs) e h) in
        subst (StandsAt (g ∷ fs) f) (sym (one-add (position_or_len (flat_eq f) fs)) ∙ ap (λ (b : Bool). cond (not b) (1 + position_or_len (flat_eq f) fs) 0) (sym e))
        (record { in_range = more (position_or_len (flat_eq f) fs) (length fs) others.in_range; is = others.is })
      where
        more : (k n : ℕ) → k < n → suc k < suc n
        more k n h = omega arith

pub new_place : (fs : List Flat) (f : Flat) → list_any (flat_eq f) fs ≡ false → position_or_len (flat_eq f) fs ≡ length fs
new_place [] f h = refl
new_place (g ∷ fs) f h = by (flat_eq f g) refl (new_place fs f)
  where
    by : (b : Bool) → flat_eq f g ≡ b → (list_any (flat_eq f) fs ≡ false → position_or_len (flat_eq f) fs ≡ length fs) → position_or_len (flat_eq f) (g ∷ fs) ≡ length (g ∷ fs)
    by true e rest = absurd (false≢true (sym h ∙ ap (λ (b : Bool). b || list_any (flat_eq f) fs) e))
    by false e rest =
        ap (λ (b : Bool). cond (not b) (1 + position_or_len (flat_eq f) fs) 0) e
        ∙ (one-add (position_or_len (flat_eq f) fs) ∙ ap suc (rest (sym (ap (λ (b : Bool). b || list_any (flat_eq f) fs) e) ∙ h)))

-- ---- terms at the end

ordered_more : (fs : List Flat) (n : ℕ) (f : Flat) → AreOrdered n fs → AreBefore (n + length fs) f.args → AreOrdered n (fs ++ f ∷ [])
ordered_more [] n f h k = (subst (λ (m : ℕ). AreBefore m f.args) (add-zero n) k, tt)
ordered_more (g ∷ fs) n f h k = (h.0, ordered_more fs (suc n) f h.1 (subst (λ (m : ℕ). AreBefore m f.args) (moved n (length fs)) k))
  where
    moved : (n m : ℕ) → n + suc m ≡ suc n + m
    moved n m = omega arith

pub table_more : (fs : List Flat) (f : Flat) → IsTable fs → AreIn fs f.args → IsTable (fs ++ f ∷ [])
table_more fs f ok h = record { ordered = ordered_more fs 0 f ok.ordered (subst (λ (m : ℕ). AreBefore m f.args) (sym (zero-add (length fs))) h) }

trees_append : (fs gs : List Flat) (terms : List Written) → trees_behind terms (fs ++ gs) ≡ trees_behind (trees_behind terms fs) gs
trees_append [] gs terms = refl
trees_append (f ∷ fs) gs terms = trees_append fs gs (terms ++ tree_of terms f ∷ [])

pub length_trees : (fs : List Flat) (terms : List Written) → length (trees_behind terms fs) ≡ length terms + length fs
length_trees [] terms = sym (add-zero (length terms))
length_trees (f ∷ fs) terms =
    let more = length_trees fs (terms ++ tree_of terms f ∷ []) in
    let one = length-append terms (tree_of terms f ∷ []) in
    omega (arith, more, one)

-- a list that goes on as another one
pub record Grown (fs gs : List Flat) : Type 0 where
  pub table : IsTable gs
  pub more : List Flat
  pub goes_on : gs ≡ fs ++ more

pub tree_stays : (fs gs : List Flat) → Grown fs gs → (t : Text) → t.0 < length fs → tree gs t ≡ tree fs t
tree_stays fs gs grown t h =
    let size : length (trees fs) ≡ length fs = length_trees fs [] ∙ zero-add (length fs) in
    ap (λ (l : List Flat). tree l t) grown.goes_on
    ∙ (ap (λ (ts : List Written). get_or ts t.0 (word [])) (trees_append fs grown.more []) ∙ stays grown.more (trees fs) t.0 (word []) (omega (arith, h, size)))

pub args_stay : (fs gs : List Flat) → Grown fs gs → (args : List Text) → AreIn fs args → args_at (trees gs) args ≡ args_at (trees fs) args
args_stay fs gs grown [] h = refl
args_stay fs gs grown (a ∷ args) h =
    ap (λ (t : Written). writtens t (args_at (trees gs) args)) (tree_stays fs gs grown a h.0)
    ∙ ap (λ (ts : Writtens). writtens (tree fs a) ts) (args_stay fs gs grown args h.1)

pub in_more : (fs gs : List Flat) → Grown fs gs → (k : ℕ) → k < length fs → k < length gs
in_more fs gs grown k h =
    let size : length gs ≡ length fs + length grown.more = ap length grown.goes_on ∙ length-append fs grown.more in
    omega (arith, h, size)

pub are_in_more : (fs gs : List Flat) → Grown fs gs → (args : List Text) → AreIn fs args → AreIn gs args
are_in_more fs gs grown [] h = tt
are_in_more fs gs grown (a ∷ args) h = (in_more fs gs grown a.0 h.0, are_in_more fs gs grown args h.1)

pub grown_none : (fs : List Flat) → IsTable fs → Grown fs fs
grown_none fs ok = record { table = ok; more = []; goes_on = sym (append-nil fs) }

pub grown_twice : (fs gs hs : List Flat) → Grown fs gs → Grown gs hs → Grown fs hs
grown_twice fs gs hs a b = record { table = b.table; more = a.more ++ b.more; goes_on = b.goes_on ∙ (ap (λ (l : List Flat). l ++ b.more) a.goes_on ∙ append_assoc fs a.more b.more) }

-- ---- a term is entered over its arguments

pub record IsPlaced (fs : List Flat) (f : Flat) : Type 0 where
  pub grown : Grown fs (with_flat fs f)
  pub stands : StandsAt (with_flat fs f) f (place_of fs f).0

pub placed : (fs : List Flat) (f : Flat) → IsTable fs → AreIn fs f.args → IsPlaced fs f
placed fs f ok h = by (list_any (flat_eq f) fs) refl
  where
    last : (n : ℕ) → n < n + 1
    last n = omega arith

    by : (b : Bool) → list_any (flat_eq f) fs ≡ b → IsPlaced fs f
    by true e =
        let same : with_flat fs f ≡ fs = ap (λ (b : Bool). if b then fs else fs ++ f ∷ []) e in
        record { grown = subst (Grown fs) (sym same) (grown_none fs ok); stands = subst (λ (l : List Flat). StandsAt l f (place_of fs f).0) (sym same) (known_at fs f e) }
    by false e =
        let more : with_flat fs f ≡ fs ++ f ∷ [] = ap (λ (b : Bool). if b then fs else fs ++ f ∷ []) e in
        let size : length (fs ++ f ∷ []) ≡ length fs + 1 = length-append fs (f ∷ []) in
        record {
          grown = subst (Grown fs) (sym more) (record { table = table_more fs f ok h; more = f ∷ []; goes_on = refl });
          stands = subst (λ (l : List Flat). StandsAt l f (place_of fs f).0) (sym more) (subst (StandsAt (fs ++ f ∷ []) f) (sym (new_place fs f e))
              (record { in_range = subst (λ (n : ℕ). length fs < n) (sym size) (last (length fs)); is = get_or-append_seam fs f [] no_flat }));
        }

-- a term that was entered behind others
pub record IsEntered (fs gs : List Flat) (before after : List Text) (t : Written) : Type 0 where
  pub grown : Grown fs gs
  pub place : Text
  pub last : after ≡ before ++ place ∷ []
  pub in_range : place.0 < length gs
  pub tree_is : tree gs place ≡ t

pub record AreEntered (fs gs : List Flat) (before after : List Text) (ts : Writtens) : Type 0 where
  pub grown : Grown fs gs
  pub places : List Text
  pub last : after ≡ before ++ places
  pub in_range : AreIn gs places
  pub trees_are : args_at (trees gs) places ≡ ts

mutual
  pub is_entered : (t : Written) (fs : List Flat) (ps : List Text) → IsTable fs → IsEntered fs (entered (entering fs ps) t).flats ps (entered (entering fs ps) t).places t
  is_entered (written h ts) fs ps ok =
      let a = all_entered (entering fs []) ts in
      let f : Flat = record { head = h; args = a.places } in
      let args = are_entered ts fs [] ok in
      let are_in : AreIn a.flats a.places = subst (AreIn a.flats) (sym args.last) args.in_range in
      let trees_are : args_at (trees a.flats) a.places ≡ ts = ap (args_at (trees a.flats)) args.last ∙ args.trees_are in
      let mine = placed a.flats f args.grown.table are_in in
      let node : tree (with_flat a.flats f) (place_of a.flats f) ≡ written (flat_in (with_flat a.flats f) (place_of a.flats f)).head (args_at (trees (with_flat a.flats f)) (flat_in (with_flat a.flats f) (place_of a.flats f)).args) =
      tree-node (with_flat a.flats f) mine.grown.table (place_of a.flats f) mine.stands.in_range in
      record {
        grown = grown_twice fs a.flats (with_flat a.flats f) args.grown mine.grown;
        place = place_of a.flats f;
        last = refl;
        in_range = mine.stands.in_range;
        tree_is =
            node
            ∙ (ap (λ (g : Flat). written g.head (args_at (trees (with_flat a.flats f)) g.args)) mine.stands.is
            ∙ ap (λ (us : Writtens). written h us) (args_stay a.flats (with_flat a.flats f) mine.grown a.places are_in ∙ trees_are));
      }

  are_entered : (ts : Writtens) (fs : List Flat) (ps : List Text) → IsTable fs → AreEntered fs (all_entered (entering fs ps) ts).flats ps (all_entered (entering fs ps) ts).places ts
  are_entered no_written fs ps ok = record { grown = grown_none fs ok; places = []; last = sym (append-nil ps); in_range = tt; trees_are = refl }
  are_entered (writtens t ts) fs ps ok =
      let e = entered (entering fs ps) t in
      let one = is_entered t fs ps ok in
      let others = are_entered ts e.flats e.places one.grown.table in
      let a = all_entered (entering e.flats e.places) ts in
      record {
        grown = grown_twice fs e.flats a.flats one.grown others.grown;
        places = one.place ∷ others.places;
        last = others.last ∙ (ap (λ (l : List Text). l ++ others.places) one.last ∙ append_assoc ps (one.place ∷ []) others.places);
        in_range = (in_more e.flats a.flats others.grown one.place.0 one.in_range, others.in_range);
        trees_are =
            ap (λ (u : Written). writtens u (args_at (trees a.flats) others.places)) (tree_stays e.flats a.flats others.grown one.place one.in_range ∙ one.tree_is)
            ∙ ap (λ (us : Writtens). writtens t us) others.trees_are;
      }
