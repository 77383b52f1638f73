-- What sets have.
use Rattle.std.proofs.Common.{◌≡◌, ℕ, Bool, true, false, ◌&&◌, ◌||◌, cond, nat_eq, List, [], ◌∷◌, ◌++◌, refl, sym, ap, ◌∙◌, eqb-true}
use Rattle.std.specs.List.{list_any}
use Rattle.spv_logic.specs.declared.names.names.Symbol.{Symbol}
use Rattle.spv_logic.specs.declared.types.TypeId.{TypeId}
use Rattle.spv_program.specs.declared.types.Item.{Item}
use Rattle.spv_program.specs.declared.types.Item.TheVariants.{Variable, Class}
use Rattle.spv_program.specs.Lists.{same_name}
use Rattle.spv_program.specs.Programs.{GlobalItem, lists}
use Rattle.spv_program.specs.Types.{same_item}
use Rattle.spv_program.specs.Uses.{Root, Own, Shared, same_root}
use Rattle.spv_effects.specs.frame_events.Names.{named, with_name}
use Rattle.spv_frame_check.specs.declared.aliases.RootSet.{RootSet}
use Rattle.spv_frame_check.specs.declared.allowed.Allowed.TheVariants.{Listed}
use Rattle.spv_frame_check.specs.Sets.{ItemSets, no_items, holds, with_item, with_names, with_globals, with_var_groups}
use Rattle.spv_frame_check.specs.Allowed.{allows}
use Rattle.spv_frame_check.specs.Roots.{has_root, with_root}
use Rattle.spv_frame_check.proofs.Logic.{or_false, or_grouped, nat_eq-sym, any_both}

module _ {X : Type 0} (key : X → ℕ) where
  abbrev same : X → X → Bool
  same x y = nat_eq (key x) (key y)

  any_last : (y x : X) (xs : List X) → list_any (same y) (xs ++ x ∷ []) ≡ list_any (same y) xs || same y x
  any_last y x xs = any_both (same y) xs (x ∷ []) ∙ ap (λ b. list_any (same y) xs || b) (or_false (same y x))

  -- one more, if it is new
  pub one_more : (xs : List X) (x y : X) → list_any (same y) (cond (list_any (same x) xs) xs (xs ++ x ∷ [])) ≡ list_any (same y) xs || same x y
  one_more xs x y = by_case (list_any (same x) xs) refl
    where
      when_same : (b : Bool) → same x y ≡ b → list_any (same x) xs ≡ true → list_any (same y) xs ≡ list_any (same y) xs || b
      when_same false e h = sym (or_false (list_any (same y) xs))
      when_same true e h =
          let found : list_any (same y) xs ≡ true = ap (λ (n : ℕ). list_any (λ z. nat_eq n (key z)) xs) (sym (eqb-true (key x) (key y) e)) ∙ h in
          found ∙ sym (ap (λ b. b || true) found)

      by_case : (b : Bool) → list_any (same x) xs ≡ b → list_any (same y) (cond b xs (xs ++ x ∷ [])) ≡ list_any (same y) xs || same x y
      by_case true h = when_same (same x y) refl h
      by_case false h = any_last y x xs ∙ ap (λ b. list_any (same y) xs || b) (nat_eq-sym (key y) (key x))

pub named_more : (names : List Symbol) (x y : Symbol) → named (with_name names x) y ≡ named names y || same_name x y
named_more names x y = one_more (λ (s : Symbol). s.0) names x y

pub named_with : (names xs : List Symbol) (y : Symbol) → named (with_names names xs) y ≡ named names y || list_any (λ x. same_name x y) xs
named_with names [] y = sym (or_false (named names y))
named_with names (x ∷ xs) y =
    named_with (with_name names x) xs y ∙ ap (λ b. b || list_any (λ x. same_name x y) xs) (named_more names x y)
    ∙ or_grouped (named names y) (same_name x y) (list_any (λ x. same_name x y) xs)

pub holds_more : (s : ItemSets) (i j : Item) → holds (with_item s i) j ≡ holds s j || same_item i j
holds_more s (Variable x) (Variable y) = named_more s.names x y
holds_more s (Variable x) (Class t) = sym (or_false (holds s (Class t)))
holds_more s (Class t) (Variable x) = sym (or_false (holds s (Variable x)))
holds_more s (Class t) (Class u) = one_more (λ (t : TypeId). t.0) s.classes t u

pub has_more : (s : RootSet) (r q : Root) → has_root (with_root s r) q ≡ has_root s q || same_root r q
has_more s (Own x) (Own y) = named_more s.own x y
has_more s (Own x) (Shared i) = sym (or_false (has_root s (Shared i)))
has_more s (Shared i) (Own x) = sym (or_false (has_root s (Own x)))
has_more s (Shared i) (Shared j) = holds_more s.shared i j

-- ---- GLOBAL lists

listed_step : (a b v l : Bool) → (a || b) || l ≡ a || ((b && (v || true)) || l)
listed_step true b v l = refl
listed_step false true true l = refl
listed_step false true false l = refl
listed_step false false v l = refl

var_step : (a b l : Bool) → (a || b) || l ≡ a || ((b && true) || l)
var_step true b l = refl
var_step false true l = refl
var_step false false l = refl

no_var_step : (a b l : Bool) → a || l ≡ a || ((b && false) || l)
no_var_step true b l = refl
no_var_step false true l = refl
no_var_step false false l = refl

globals_held : (s : ItemSets) (globals : List GlobalItem) (i : Item) → holds (with_globals s globals) i ≡ holds s i || lists globals i false
globals_held s [] i = sym (or_false (holds s i))
globals_held s (g ∷ globals) i =
    globals_held (with_item s g.item) globals i ∙ ap (λ b. b || lists globals i false) (holds_more s g.item i)
    ∙ listed_step (holds s i) (same_item g.item i) g.is_var (lists globals i false)

var_groups_held : (s : ItemSets) (globals : List GlobalItem) (i : Item) → holds (with_var_groups s globals) i ≡ holds s i || lists globals i true
var_groups_held s [] i = sym (or_false (holds s i))
var_groups_held s (g ∷ globals) i = by_case g.is_var (λ (q : ItemSets). var_groups_held q globals i)
  where
    by_case : (b : Bool) → ((q : ItemSets) → holds (with_var_groups q globals) i ≡ holds q i || lists globals i true)
        → holds (with_var_groups (cond b (with_item s g.item) s) globals) i ≡ holds s i || ((same_item g.item i && (b || false)) || lists globals i true)
    by_case true later =
        later (with_item s g.item) ∙ ap (λ b. b || lists globals i true) (holds_more s g.item i) ∙ var_step (holds s i) (same_item g.item i) (lists globals i true)
    by_case false later = later s ∙ no_var_step (holds s i) (same_item g.item i) (lists globals i true)

none_held : (i : Item) → holds no_items i ≡ false
none_held (Variable x) = refl
none_held (Class t) = refl

allows_as : (globals : List GlobalItem) (i : Item) (changes : Bool)
    → allows (Listed (with_globals no_items globals) (with_var_groups no_items globals)) i changes ≡ lists globals i changes
allows_as globals i true = var_groups_held no_items globals i ∙ ap (λ b. b || lists globals i true) (none_held i)
allows_as globals i false = globals_held no_items globals i ∙ ap (λ b. b || lists globals i false) (none_held i)

pub allowed_is : (globals : List GlobalItem) (a b all var : ItemSets) → a ≡ no_items → b ≡ no_items → all ≡ with_globals a globals → var ≡ with_var_groups b globals
    → allows (Listed all var) ≡ lists globals
allowed_is globals a b all var e f h k =
    ap (λ (s : ItemSets). allows (Listed s var)) (h ∙ ap (λ (s : ItemSets). with_globals s globals) e)
    ∙ ap (λ (s : ItemSets). allows (Listed (with_globals no_items globals) s)) (k ∙ ap (λ (s : ItemSets). with_var_groups s globals) f)
    ∙ (λ at i changes. allows_as globals i changes at)
