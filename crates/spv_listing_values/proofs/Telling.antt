-- What the items of a line say, item by item.
use Rattle.std.proofs.Common.{◌≡◌, ℕ, suc, ◌+◌, ◌-◌, ◌<◌, ◌≤◌, Bool, true, false, if◌then◌else◌, Option, Some, None, List, [], ◌∷◌, ◌++◌, map, length, take, drop, get_or, option_map, option_and_then, IfSome, nat_eq, refl, sym, ap, subst, ◌∙◌, append_assoc, append-nil, arith}
use Rattle.std.proofs.lemmas.Bool.{eqb-true, eq-eqb}
use Rattle.std.proofs.lemmas.List.{drop_more, take_more, map-append, take-map, drop-map, length-drop, take_rest}
use Rattle.spv_whole.specs.Fraction.{Fraction}
use Rattle.spv_listing_values.specs.declared.data.Step.TheVariants as step
use Rattle.spv_listing_values.specs.declared.keywords.LimitWord.TheVariants as limit_word
use Rattle.spv_listing_values.specs.declared.keywords.LineWord.TheVariants as line_word
use Rattle.spv_listing_values.specs.declared.texts.Text.{Text}
use Rattle.spv_listing_values.specs.declared.scanning.Item.{Item}
use Rattle.spv_listing_values.specs.Written.{Written}
use Rattle.spv_listing_values.specs.Reading.{Reading, line_by, with_some, judged, with_instance, schema_of, text_of, fact_in, facts_in, fraction_in, multiples_in, is_stroke, in_front, behind, limit_by, but_last, last_text}
use Rattle.spv_listing_values.specs.Places.{Flat, tree}
use Rattle.spv_listing_values.specs.Told.{Enters, Says, StandInFront, operation_in, sides_in, two_items}
use Rattle.spv_listing_values.proofs.Enters.{enters_none}

module _ (w : Item → Written) where
  -- ---- facts

  abbrev pub FactsSoFar : List Item → ℕ → List ℕ → Type 0
  FactsSoFar items i facts = facts_in (map w items) ≡ option_map (λ more. facts ++ more) (facts_in (map w (drop i items)))

  all_left : {X : Type 0} (o : Option (List X)) → o ≡ option_map (λ more. [] ++ more) o
  all_left None = refl
  all_left (Some xs) = refl

  -- ---- multiples

  pub record MultiplesSoFar (items : List Item) (i : ℕ) (ms : List (Fraction × ℕ)) : Type 0 where
    pub within : i ≤ length items
    pub is : multiples_in (map w items) ≡ option_map (λ more. ms ++ more) (multiples_in (map w (drop i items)))

  abbrev pair_of : Option Fraction → Option ℕ → Option (Fraction × ℕ)
  pair_of a b = option_and_then (λ m. option_and_then (λ n. Some (m, n)) b) a

  abbrev many_of : Option Fraction → Option ℕ → Option (List (Fraction × ℕ)) → Option (List (Fraction × ℕ))
  many_of a b r = option_and_then (λ m. option_and_then (λ n. option_and_then (λ ms. Some ((m, n) ∷ ms)) r) b) a

  many_some : (a : Option Fraction) (b : Option ℕ) (r : Option (List (Fraction × ℕ))) (p : Fraction × ℕ) → Some p ≡ pair_of a b → many_of a b r ≡ option_map (λ ms. p ∷ ms) r
  many_some None b r p e = absurd (none p e)
    where
      none : (p : Fraction × ℕ) → Some p ≡ None → ⊥
      none p e = cc
  many_some (Some m) None r p e = absurd (none p e)
    where
      none : (p : Fraction × ℕ) → Some p ≡ None → ⊥
      none p e = cc
  many_some (Some m) (Some n) r p e = by r (same e)
    where
      same : Some p ≡ Some (m, n) → (m, n) ≡ p
      same e = cc

      by : (r : Option (List (Fraction × ℕ))) → (m, n) ≡ p → many_of (Some m) (Some n) r ≡ option_map (λ ms. p ∷ ms) r
      by None f = refl
      by (Some ms) f = λ i. Some (f i ∷ ms)

  none_some : {X : Type 0} (x : X) → None ≡ Some x → ⊥
  none_some x e = cc

  many_none : (a : Option Fraction) (b : Option ℕ) (r : Option (List (Fraction × ℕ))) → None ≡ pair_of a b → many_of a b r ≡ None
  many_none None b r e = refl
  many_none (Some m) None r e = refl
  many_none (Some m) (Some n) r e = absurd (none e)
    where
      none : None ≡ pair_of (Some m) (Some n) → ⊥
      none e = none_some (m, n) e

  one_multiple : (o : Option (List (Fraction × ℕ))) (ms : List (Fraction × ℕ)) (p : Fraction × ℕ) → option_map (λ more. ms ++ more) (option_map (λ ns. p ∷ ns) o) ≡ option_map (λ more. (ms ++ p ∷ []) ++ more) o
  one_multiple None ms p = refl
  one_multiple (Some ns) ms p = ap (λ (xs : List (Fraction × ℕ)). Some xs) (sym (append_assoc ms (p ∷ []) ns))

  two_left : (items : List Item) (i : ℕ) (d e : Item) → i + 1 < length items → drop i items ≡ get_or items i d ∷ get_or items (i + 1) e ∷ drop (i + 2) items
  two_left items i d e h =
      drop_more items i d (omega (arith, h))
      ∙ (ap (λ (l : List Item). get_or items i d ∷ l) (drop_more items (i + 1) e h) ∙ ap (λ (k : ℕ). get_or items i d ∷ get_or items (i + 1) e ∷ drop k items) two)
    where
      two : i + 1 + 1 ≡ i + 2
      two = omega arith

  pub multiples_more : (items : List Item) (i : ℕ) (ms : List (Fraction × ℕ)) (a b : Item) (p : Fraction × ℕ) → MultiplesSoFar items i ms → 1 < length items - i
      → Some p ≡ pair_of (fraction_in (w (get_or items i a))) (fact_in (w (get_or items (i + 1) b))) → MultiplesSoFar items (i + 2) (ms ++ p ∷ [])
  multiples_more items i ms a b p so_far h e = record {
    within = omega (arith, h);
    is =
        so_far.is
        ∙ (ap (λ (l : List Item). option_map (λ more. ms ++ more) (multiples_in (map w l))) (two_left items i a b (omega (arith, h)))
        ∙ (ap (option_map (λ more. ms ++ more)) (many_some (fraction_in (w (get_or items i a))) (fact_in (w (get_or items (i + 1) b))) (multiples_in (map w (drop (i + 2) items))) p e)
        ∙ one_multiple (multiples_in (map w (drop (i + 2) items))) ms p));
  }

  pub multiples_none : (items : List Item) (i : ℕ) (ms : List (Fraction × ℕ)) (a b : Item) → MultiplesSoFar items i ms → 1 < length items - i
      → None ≡ pair_of (fraction_in (w (get_or items i a))) (fact_in (w (get_or items (i + 1) b))) → None ≡ multiples_in (map w items)
  multiples_none items i ms a b so_far h e =
      sym
      (so_far.is
      ∙ (ap (λ (l : List Item). option_map (λ more. ms ++ more) (multiples_in (map w l))) (two_left items i a b (omega (arith, h)))
      ∙ ap (option_map (λ more. ms ++ more)) (many_none (fraction_in (w (get_or items i a))) (fact_in (w (get_or items (i + 1) b))) (multiples_in (map w (drop (i + 2) items))) e)))

  pub multiples_odd : (items : List Item) (i : ℕ) (ms : List (Fraction × ℕ)) → MultiplesSoFar items i ms → length items - i ≤ 1 → (i ≡ length items → ⊥) → None ≡ multiples_in (map w items)
  multiples_odd items i ms so_far h k = sym (so_far.is ∙ ap (option_map (λ more. ms ++ more)) (one (drop i items) (size items i so_far.within h k)))
    where
      size : (items : List Item) (i : ℕ) → i ≤ length items → length items - i ≤ 1 → (i ≡ length items → ⊥) → length (drop i items) ≡ 1
      size items i le h k = by (length-drop i items)
        where
          by : length (drop i items) ≡ length items - i → length (drop i items) ≡ 1
          by e = omega (arith, e, le, h, k)

      one : (xs : List Item) → length xs ≡ 1 → multiples_in (map w xs) ≡ None
      one [] e = absurd (none 0 refl e)
        where
          none : (n : ℕ) → n ≡ 0 → n ≡ 1 → ⊥
          none n z e = omega (arith, z, e)
      one (x ∷ []) e = refl
      one (x ∷ y ∷ xs) e = absurd (many (length xs) e)
        where
          many : (n : ℕ) → suc (suc n) ≡ 1 → ⊥
          many n e = omega (arith, e)

  -- ---- the first stroke

  pub record NoneSoFar (items : List Item) (i : ℕ) : Type 0 where
    pub front : in_front (map w items) ≡ take i (map w items) ++ in_front (map w (drop i items))
    pub back : behind (map w items) ≡ behind (map w (drop i items))

  front_other : (t : Written) (ts : List Written) → is_stroke t ≡ false → in_front (t ∷ ts) ≡ t ∷ in_front ts
  front_other t ts e = ap (λ (b : Bool). if b then [] else t ∷ in_front ts) e

  back_other : (t : Written) (ts : List Written) → is_stroke t ≡ false → behind (t ∷ ts) ≡ behind ts
  back_other t ts e = ap (λ (b : Bool). if b then ts else behind ts) e

  map_more : (items : List Item) (i : ℕ) (d : Item) → i < length items → take (i + 1) (map w items) ≡ take i (map w items) ++ w (get_or items i d) ∷ []
  map_more items i d h =
      take-map w (i + 1) items
      ∙ (ap (map w) (take_more items i d h)
      ∙ (map-append w (take i items) (get_or items i d ∷ []) ∙ ap (λ (l : List Written). l ++ w (get_or items i d) ∷ []) (sym (take-map w i items))))

  pub none_more : (items : List Item) (i : ℕ) (d : Item) → NoneSoFar items i → i < length items → is_stroke (w (get_or items i d)) ≡ false → NoneSoFar items (i + 1)
  none_more items i d so_far h e = record {
    front =
        so_far.front
        ∙ (ap (λ (l : List Item). take i (map w items) ++ in_front (map w l)) (drop_more items i d h)
        ∙ (ap (λ (l : List Written). take i (map w items) ++ l) (front_other (w (get_or items i d)) (map w (drop (i + 1) items)) e)
        ∙ (sym (append_assoc (take i (map w items)) (w (get_or items i d) ∷ []) (in_front (map w (drop (i + 1) items))))
        ∙ ap (λ (l : List Written). l ++ in_front (map w (drop (i + 1) items))) (sym (map_more items i d h)))));
    back = so_far.back ∙ (ap (λ (l : List Item). behind (map w l)) (drop_more items i d h) ∙ back_other (w (get_or items i d)) (map w (drop (i + 1) items)) e);
  }

  pub stroke_there : (items : List Item) (i : ℕ) (d : Item) → NoneSoFar items i → i < length items → is_stroke (w (get_or items i d)) ≡ true → StandInFront (map w items) i
  stroke_there items i d so_far h e = record {
    front =
        so_far.front
        ∙ (ap (λ (l : List Item). take i (map w items) ++ in_front (map w l)) (drop_more items i d h)
        ∙ (ap (λ (b : Bool). take i (map w items) ++ (if b then [] else w (get_or items i d) ∷ in_front (map w (drop (i + 1) items)))) e ∙ append-nil (take i (map w items))));
    back =
        so_far.back
        ∙ (ap (λ (l : List Item). behind (map w l)) (drop_more items i d h)
        ∙ (ap (λ (b : Bool). if b then map w (drop (i + 1) items) else behind (map w (drop (i + 1) items))) e ∙ sym (drop-map w (i + 1) items)));
  }

-- ---- things over terms

-- a thing without terms
pub says_plain : {A B : Type 0} (at : (Text → Written) → A → B) (terms : A → List Text) (fs : List Flat) (wanted : Option B) (o : Option A) → ((f : Text → Written) → option_map (at f) o ≡ wanted) → IfSome o (λ x. terms x ≡ [])
    → Says at terms fs fs wanted o
says_plain at terms fs wanted None e none = (sym (e (tree fs)), refl)
says_plain at terms fs wanted (Some x) e none =
    (sym (e (tree fs)), subst (λ (ts : List Text). Enters fs fs (map (tree fs) ts) ts) (sym none) (enters_none fs))

-- ---- the last item

pub but_last_is : (w : Item → Written) (xs : List Item) (d : Item) → 1 ≤ length xs → but_last (map w xs) ≡ map w (take (length xs - 1) xs)
but_last_is w [] d h = refl
but_last_is w (x ∷ []) d h = refl
but_last_is w (x ∷ y ∷ xs) d h =
    ap (λ (l : List Written). w x ∷ l) (but_last_is w (y ∷ xs) d (low (length xs)))
    ∙ ap (λ (n : ℕ). map w (take n (x ∷ y ∷ xs))) (one (length xs))
  where
    low : (n : ℕ) → 1 ≤ suc n
    low n = omega arith

    one : (n : ℕ) → suc (suc n - 1) ≡ suc (suc n) - 1
    one n = omega arith

pub last_text_is : (w : Item → Written) (xs : List Item) (d : Item) → 1 ≤ length xs → last_text (map w xs) ≡ text_of (w (get_or xs (length xs - 1) d))
last_text_is w [] d h = absurd (none 0 refl h)
  where
    none : (n : ℕ) → n ≡ 0 → 1 ≤ n → ⊥
    none n z h = omega (arith, z, h)
last_text_is w (x ∷ []) d h = refl
last_text_is w (x ∷ y ∷ xs) d h =
    last_text_is w (y ∷ xs) d (low (length xs))
    ∙ ap (λ (n : ℕ). text_of (w (get_or (x ∷ y ∷ xs) n d))) (one (length xs))
  where
    low : (n : ℕ) → 1 ≤ suc n
    low n = omega arith

    one : (n : ℕ) → suc (suc n - 1) ≡ suc (suc n) - 1
    one n = omega arith

-- ---- items by how many there are

never_some : {X : Type 0} (x : X) → None ≡ Some x → ⊥
never_some x e = cc

some_never : {X : Type 0} (x : X) → Some x ≡ None → ⊥
some_never x e = cc

some_same : {X : Type 0} (x y : X) → Some x ≡ Some y → x ≡ y
some_same x y e = cc

none_two : (i j : Item) → None ≡ two_items (i ∷ j ∷ []) → ⊥
none_two i j e = never_some {X = Item × Item} (i, j) e

pub two_there : (items : List Item) (i j : Item) → Some (i, j) ≡ two_items items → i ∷ j ∷ [] ≡ items
two_there [] i j e = absurd (some_never {X = Item × Item} (i, j) e)
two_there (x ∷ []) i j e = absurd (some_never {X = Item × Item} (i, j) e)
two_there (x ∷ y ∷ []) i j e = λ k. (some_same {X = Item × Item} (i, j) (x, y) e k).0 ∷ (some_same {X = Item × Item} (i, j) (x, y) e k).1 ∷ []
two_there (x ∷ y ∷ z ∷ xs) i j e = absurd (some_never {X = Item × Item} (i, j) e)

pub form_or_operation : (w : Item → Written) (items : List Item) → None ≡ two_items items → limit_by limit_word.Number (map w items) ≡ operation_in (map w items)
form_or_operation w [] h = refl
form_or_operation w (x ∷ []) h = refl
form_or_operation w (x ∷ y ∷ []) h = absurd (none_two x y h)
form_or_operation w (x ∷ y ∷ z ∷ []) h = refl
form_or_operation w (x ∷ y ∷ z ∷ u ∷ xs) h = refl

pub no_sides : (w : Item → Written) (o : Written) (items : List Item) → None ≡ two_items items → None ≡ sides_in o (map w items)
no_sides w o [] h = refl
no_sides w o (x ∷ []) h = refl
no_sides w o (x ∷ y ∷ []) h = absurd (none_two x y h)
no_sides w o (x ∷ y ∷ z ∷ xs) h = refl

pub no_row : (w : Item → Written) (items : List Item) (s : Reading) → None ≡ two_items items → line_by line_word.Value (map w items) s ≡ s
no_row w [] s h = refl
no_row w (x ∷ []) s h = refl
no_row w (x ∷ y ∷ []) s h = absurd (none_two x y h)
no_row w (x ∷ y ∷ z ∷ xs) s h = refl

pub no_split : (w : Item → Written) (items : List Item) (s : Reading) → None ≡ two_items items → line_by line_word.Split (map w items) s ≡ s
no_split w [] s h = refl
no_split w (x ∷ []) s h = refl
no_split w (x ∷ y ∷ []) s h = absurd (none_two x y h)
no_split w (x ∷ y ∷ z ∷ xs) s h = refl

pub one_item : (items : List Item) (d : Item) → length items ≡ 1 → get_or items 0 d ∷ [] ≡ items
one_item [] d e = absurd (none 0 refl e)
  where
    none : (n : ℕ) → n ≡ 0 → n ≡ 1 → ⊥
    none n z e = omega (arith, z, e)
one_item (x ∷ []) d e = refl
one_item (x ∷ y ∷ xs) d e = absurd (many (length xs) e)
  where
    many : (n : ℕ) → suc (suc n) ≡ 1 → ⊥
    many n e = omega (arith, e)

pub first_item : (items : List Item) (d : Item) → 1 ≤ length items → get_or items 0 d ∷ take (length items - 1) (drop 1 items) ≡ items
first_item [] d h = absurd (none 0 refl h)
  where
    none : (n : ℕ) → n ≡ 0 → 1 ≤ n → ⊥
    none n z h = omega (arith, z, h)
first_item (x ∷ xs) d h = ap (λ (l : List Item). x ∷ l) (take_rest (x ∷ xs) 1)

pub first_two : (items : List Item) (d e : Item) → 2 ≤ length items → get_or items 0 d ∷ get_or items 1 e ∷ take (length items - 2) (drop 2 items) ≡ items
first_two [] d e h = absurd (none 0 refl h)
  where
    none : (n : ℕ) → n ≡ 0 → 2 ≤ n → ⊥
    none n z h = omega (arith, z, h)
first_two (x ∷ []) d e h = absurd (none 1 refl h)
  where
    none : (n : ℕ) → n ≡ 1 → 2 ≤ n → ⊥
    none n z h = omega (arith, z, h)
first_two (x ∷ y ∷ xs) d e h = ap (λ (l : List Item). x ∷ y ∷ l) (take_rest (x ∷ y ∷ xs) 2)

pub no_items : (items : List Item) → nat_eq (length items) 0 ≡ true → [] ≡ items
no_items [] h = refl
no_items (x ∷ xs) h = absurd (none (length xs) (eqb-true (suc (length xs)) 0 h))
  where
    none : (n : ℕ) → suc n ≡ 0 → ⊥
    none n e = omega (arith, e)

pub instance_line : (w : Item → Written) (items : List Item) (d : Item) (rule : ℕ) (s : Reading) → 1 ≤ length items → Some rule ≡ fact_in (w (get_or items 0 d))
    → judged (with_instance (record { rule = rule; values = map w (take (length items - 1) (drop 1 items)) })) s ≡ line_by line_word.Instance (map w items) s
instance_line w items d rule s h e =
    ap (λ (o : Option ℕ). with_some (λ i. judged (with_instance i)) (option_map (λ r. record { rule = r; values = map w (take (length items - 1) (drop 1 items)) }) o) s) e
    ∙ ap (λ (l : List Item). line_by line_word.Instance (map w l) s) (first_item items d h)

pub schema_four : (w : Item → Written) (kind : ℕ) (items : List Item) (d : Item) → kind ≡ 4 → 1 ≤ length items
    → step.Schema kind (map w (take (length items - 1) items)) (Some (text_of (w (get_or items (length items - 1) d)))) ≡ schema_of kind (map w items)
schema_four w kind items d e h =
    (λ i. step.Schema kind (sym (but_last_is w items d h) i) (Some (sym (last_text_is w items d h) i)))
    ∙ ap (λ (b : Bool). if b then step.Schema kind (but_last (map w items)) (Some (last_text (map w items))) else step.Schema kind (map w items) None) (sym (eq-eqb kind 4 e))

-- the items from a place on
pub behind_place : (w : Item → Written) (items : List Item) (at : ℕ) → map w (take (length items - at) (drop at items)) ≡ drop at (map w items)
behind_place w items at = ap (map w) (take_rest items at) ∙ sym (drop-map w at items)
