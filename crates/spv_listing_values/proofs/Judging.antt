-- Tests of lists, item by item.
use Rattle.std.proofs.Common.{◌≡◌, ℕ, zero, suc, ◌+◌, ◌-◌, ◌<◌, ◌≤◌, Bool, true, false, ◌&&◌, not, Option, Some, None, List, [], ◌∷◌, ◌++◌, All, map, length, take, get_or, option_map, nat_eq, refl, sym, ap, subst, ◌∙◌, take_all, arith}
use Rattle.std.specs.List.{list_all}
use Rattle.std.proofs.lemmas.Bool.{false≢true}
use Rattle.std.proofs.lemmas.Bool.Decides.{nat_tests}
use Rattle.std.proofs.lemmas.List.Elements.{All-head, All-tail}
use Rattle.std.proofs.lemmas.List.{take_more, map-append, length-append}
use Rattle.std.proofs.lemmas.List.Folds.{list_all-append}
use Rattle.spv_listing_values.specs.declared.data.Step.{Step}
use Rattle.spv_listing_values.specs.declared.data.Split.{Split}
use Rattle.spv_listing_values.specs.declared.data.ProofNode.{ProofNode}
use Rattle.spv_listing_values.specs.declared.data.Claim.{Claim}
use Rattle.spv_listing_values.specs.declared.texts.Text.{Text}
use Rattle.spv_listing_values.specs.Written.{Written}
use Rattle.spv_listing_values.specs.Page.{numbers_to, case_numbers}
use Rattle.spv_listing_values.specs.Forms.{is_term, is_tree, is_end, ends_path, is_verdict, is_header, is_claim}
use Rattle.spv_listing_values.specs.Blanks.{case_count}
use Rattle.spv_listing_values.specs.Mapped.{split_at, node_at, verdict_at, claim_terms}
use Rattle.spv_listing_values.specs.Places.{Flat, tree, flats_of}
use Rattle.spv_listing_values.specs.Waiting.{ClaimIn}
use Rattle.spv_listing_values.specs.Entries.{has_form, HaveForms, written_claim}
use Rattle.spv_listing_values.proofs.Numerals.{both_true}
use Rattle.spv_listing_values.proofs.TermForms.{kept_forms, tree_forms}

module _ {X Y : Type 0} (p : Y → Bool) (f : X → Y) where
  pub one_more : (xs : List X) (i : ℕ) (x : X) → i < length xs → x ≡ get_or xs i x → list_all p (map f (take i xs)) ≡ true → p (f x) ≡ true → list_all p (map f (take (i + 1) xs)) ≡ true
  one_more xs i x h is all one =
      ap (λ (l : List X). list_all p (map f l)) (take_more xs i x h ∙ ap (λ (y : X). take i xs ++ y ∷ []) (sym is))
      ∙ (ap (list_all p) (map-append f (take i xs) (x ∷ [])) ∙ (list_all-append p (map f (take i xs)) (f x ∷ []) ∙ both_true (list_all p (map f (take i xs))) (p (f x) && true) all (both_true (p (f x)) true one refl)))

  pub one_fails : (xs : List X) (i : ℕ) (x : X) → i < length xs → x ≡ get_or xs i x → p (f x) ≡ false → list_all p (map f xs) ≡ false
  one_fails [] i x h is fails = absurd (nothing_below i h)
    where
      nothing_below : (n : ℕ) → n < 0 → ⊥
      nothing_below n h = omega (arith, h)
  one_fails (y ∷ xs) zero x h is fails = ap (λ (b : Bool). b && list_all p (map f xs)) (ap (λ (z : X). p (f z)) (sym is) ∙ fails)
  one_fails (y ∷ xs) (suc i) x h is fails = ap (λ (b : Bool). p (f y) && b) (one_fails xs i x (fewer i (length xs) h) is fails) ∙ never (p (f y))
    where
      fewer : (k n : ℕ) → suc k < suc n → k < n
      fewer k n h = omega (arith, h)

      never : (b : Bool) → (b && false) ≡ false
      never true = refl
      never false = refl

  pub all_done : (xs : List X) (i : ℕ) → length xs ≤ i → list_all p (map f (take i xs)) ≡ true → list_all p (map f xs) ≡ true
  all_done xs i h all = ap (λ (l : List X). list_all p (map f l)) (sym (take_all i xs h)) ∙ all

-- terms in range have their forms
pub terms_fit : (fs : List Flat) → HaveForms fs → (ts : List Text) → All (λ t. t.0 < length fs) ts → list_all is_term (map (tree fs) ts) ≡ true
terms_fit fs have [] h = refl
terms_fit fs have (t ∷ ts) h =
    both_true (is_term (tree fs t)) (list_all is_term (map (tree fs) ts)) (tree_forms fs have.table have.heads t (All-head (λ (u : Text). u.0 < length fs) t ts h))
    (terms_fit fs have ts (All-tail (λ (u : Text). u.0 < length fs) t ts h))

-- ---- trees of cases

length_numbers : (n : ℕ) → length (numbers_to n) ≡ n
length_numbers zero = refl
length_numbers (suc n) =
    let more = length-append (numbers_to n) (suc n ∷ []) in
    let rest = length_numbers n in
    omega (arith, more, rest)

length_cases : (f : Text → Written) (s : Option (Split Text)) → length (case_numbers (option_map (split_at f) s)) ≡ case_count s
length_cases f None = refl
length_cases f (Some s) = length_numbers s.cases

-- so many cases are still to come, and what is left is a tree of them exactly where the whole is a tree
pub record IsWaiting (f : Text → Written) (nodes : List (ProofNode Text)) (whole : Bool) (count : ℕ) : Type 0 where
  pub waits : List ℕ
  pub size : length waits ≡ count
  pub same : is_tree waits (map (node_at f) nodes) ≡ whole

pub waiting_first : (f : Text → Written) (nodes : List (ProofNode Text)) → IsWaiting f nodes (is_tree (0 ∷ []) (map (node_at f) nodes)) 1
waiting_first f nodes = record { waits = 0 ∷ []; size = refl; same = refl }

module _ (f : Text → Written) (nodes rest : List (ProofNode Text)) (whole : Bool) (count : ℕ) (n : ProofNode Text) (left : nodes ≡ n ∷ rest) where
  one_node : (waits : List ℕ) → length waits ≡ count → (count ≡ 0 → ⊥) → is_tree waits (map (node_at f) (n ∷ rest)) ≡ whole → IsWaiting f rest whole (count - 1 + case_count n.split)
  one_node [] size some same = absurd (some (sym size))
  one_node (i ∷ waits) size some same = record {
    waits = case_numbers (option_map (split_at f) n.split) ++ waits;
    size = more (length-append (case_numbers (option_map (split_at f) n.split)) waits) (length_cases f n.split);
    same = same;
  }
    where
      more : length (case_numbers (option_map (split_at f) n.split) ++ waits) ≡ length (case_numbers (option_map (split_at f) n.split)) + length waits
          → length (case_numbers (option_map (split_at f) n.split)) ≡ case_count n.split → length (case_numbers (option_map (split_at f) n.split) ++ waits) ≡ count - 1 + case_count n.split
      more a b = omega (arith, a, b, size)

  pub waiting_more : IsWaiting f nodes whole count → (count ≡ 0 → ⊥) → IsWaiting f rest whole (count - 1 + case_count n.split)
  waiting_more w some = one_node w.waits w.size some (ap (λ (l : List (ProofNode Text)). is_tree w.waits (map (node_at f) l)) (sym left) ∙ w.same)

  none_waits : (waits : List ℕ) → length waits ≡ 0 → is_tree waits (map (node_at f) (n ∷ rest)) ≡ false
  none_waits [] size = refl
  none_waits (i ∷ waits) size = absurd (some (length waits) size)
    where
      some : (k : ℕ) → suc k ≡ 0 → ⊥
      some k e = omega (arith, e)

  pub waiting_none : IsWaiting f nodes whole count → count ≡ 0 → false ≡ whole
  waiting_none w none = sym (none_waits w.waits (w.size ∙ none)) ∙ (ap (λ (l : List (ProofNode Text)). is_tree w.waits (map (node_at f) l)) (sym left) ∙ w.same)

no_nodes : (waits : List ℕ) → is_tree waits [] ≡ nat_eq (length waits) 0
no_nodes [] = refl
no_nodes (i ∷ waits) = sym (some (length waits))
  where
    some : (k : ℕ) → nat_eq (suc k) 0 ≡ false
    some k = grind (arith, nat_tests)

pub waiting_done : (f : Text → Written) (nodes : List (ProofNode Text)) (whole : Bool) (count : ℕ) → IsWaiting f nodes whole count → nodes ≡ [] → nat_eq count 0 ≡ whole
waiting_done f nodes whole count w none =
    ap (λ (n : ℕ). nat_eq n 0) (sym w.size) ∙ (sym (no_nodes w.waits) ∙ (ap (λ (l : List (ProofNode Text)). is_tree w.waits (map (node_at f) l)) (sym none) ∙ w.same))

-- ---- the end of a path

pub ends_last : (front : List (Step Written)) (last : Step Written) → ends_path (front ++ last ∷ []) ≡ (list_all (λ p. not (is_end p)) front && is_end last)
ends_last [] last = refl
ends_last (s ∷ []) last = regroup (is_end s) (is_end last)
  where
    regroup : (a b : Bool) → (not a && b) ≡ ((not a && true) && b)
    regroup true b = refl
    regroup false b = refl
ends_last (s ∷ t ∷ front) last = ap (λ (b : Bool). not (is_end s) && b) (ends_last (t ∷ front) last) ∙ regroup (not (is_end s)) (list_all (λ p. not (is_end p)) (t ∷ front)) (is_end last)
  where
    regroup : (a b c : Bool) → (a && (b && c)) ≡ ((a && b) && c)
    regroup true b c = refl
    regroup false b c = refl

last_of : {X : Type 0} (xs : List X) (x : X) → 1 ≤ length xs → x ≡ get_or xs (length xs - 1) x → xs ≡ take (length xs - 1) xs ++ x ∷ []
last_of {X} xs x some is =
    sym (take_all (length xs - 1 + 1) xs whole) ∙ (take_more xs (length xs - 1) x within ∙ ap (λ (y : X). take (length xs - 1) xs ++ y ∷ []) (sym is))
  where
    whole : length xs ≤ length xs - 1 + 1
    whole = omega (arith, some)

    within : length xs - 1 < length xs
    within = omega (arith, some)

module _ {X : Type 0} (f : X → Step Written) (xs : List X) (x : X) (some : 1 ≤ length xs) (is : x ≡ get_or xs (length xs - 1) x) where
  path_is : ends_path (map f xs) ≡ (list_all (λ p. not (is_end p)) (map f (take (length xs - 1) xs)) && is_end (f x))
  path_is =
      ap (λ (l : List X). ends_path (map f l)) (last_of xs x some is)
      ∙ (ap ends_path (map-append f (take (length xs - 1) xs) (x ∷ [])) ∙ ends_last (map f (take (length xs - 1) xs)) (f x))

  pub path_ends : list_all (λ p. not (is_end p)) (map f (take (length xs - 1) xs)) ≡ true → ends_path (map f xs) ≡ is_end (f x)
  path_ends e = path_is ∙ ap (λ (b : Bool). b && is_end (f x)) e

  pub path_broken : list_all (λ p. not (is_end p)) (map f (take (length xs - 1) xs)) ≡ false → ends_path (map f xs) ≡ false
  path_broken e = path_is ∙ ap (λ (b : Bool). b && is_end (f x)) e

-- an item of a list of which all hold
pub item_of : {X : Type 0} (P : X → Type 0) (xs : List X) (i : ℕ) (x : X) → All P xs → i < length xs → x ≡ get_or xs i x → P x
item_of P xs i x all within is = subst P (sym is) (all i x within)

pub four : (a b c d : Bool) → a ≡ true → b ≡ true → c ≡ true → d ≡ ((a && b) && (c && d))
four a b c d e f g = λ i. (sym e i && sym f i) && (sym g i && d)

pub chain_two : (a b c : Bool) → a ≡ true → b ≡ true → c ≡ (a && (b && c))
chain_two a b c e f = λ i. sym e i && (sym f i && c)

pub chain_three : (a b c d : Bool) → a ≡ true → b ≡ true → c ≡ true → d ≡ (a && (b && (c && d)))
chain_three a b c d e f g = λ i. sym e i && (sym f i && (sym g i && d))

-- ---- conditions

not_true : (b : Bool) → (b ≡ true → ⊥) → b ≡ false
not_true true h = absurd (h refl)
not_true false h = refl

-- a condition with a term that lacks its form lacks its form
pub claim_unfit : (fs : List Flat) (c : Claim Text) → fs ≡ flats_of (claim_terms (written_claim fs c)) → list_all has_form fs ≡ false → is_claim (written_claim fs c) ≡ false
claim_unfit fs c terms none =
    not_true (is_claim (written_claim fs c)) (λ e. false≢true (sym none ∙ (ap (list_all has_form) terms ∙ kept_forms (written_claim fs c) e)))

pub claim_headless : (fs : List Flat) (c : Claim Text) → is_header c.header ≡ false → is_claim (written_claim fs c) ≡ false
claim_headless fs c e =
    ap (λ (b : Bool). b && (list_all is_term (map (tree fs) c.given) && (is_term (tree fs c.goal) && is_verdict (verdict_at (tree fs) c.verdict)))) e

pub claim_fit : (fs : List Flat) (c : Claim Text) → HaveForms fs → ClaimIn fs c → is_header c.header ≡ true → is_claim (written_claim fs c) ≡ is_verdict (verdict_at (tree fs) c.verdict)
claim_fit fs c have within header =
    sym (chain_three (is_header c.header) (list_all is_term (map (tree fs) c.given)) (is_term (tree fs c.goal)) (is_verdict (verdict_at (tree fs) c.verdict)) header
    (terms_fit fs have c.given within.0) (tree_forms fs have.table have.heads c.goal within.1))
