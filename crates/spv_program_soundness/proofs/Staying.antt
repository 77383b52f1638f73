-- Names and classes that show what they did where something else is written.
use Rattle.std.proofs.Common.{◌≡◌, zero, suc, Bool, true, false, cond, ◌&&◌, ◌||◌, List, [], ◌∷◌, ◌++◌, refl, sym, ap, subst, ◌∙◌, Option, None, option_map}
use Rattle.std.specs.List.{list_all, list_any}
use Rattle.std.specs.Cmp.Derive.{both_true}
use Rattle.std.proofs.lemmas.Bool.{false≢true}
use Rattle.spv_logic.proofs.list.Tests.{left_false, right_false, both_false}
use Rattle.spv_logic.specs.declared.names.names.Symbol.{Symbol}
use Rattle.spv_logic.specs.declared.types.TypeId.{TypeId}
use Rattle.spv_logic.specs.declared.types.Sort.{Sort}
use Rattle.spv_logic.specs.declared.operators.Head.{Head}
use Rattle.spv_logic.specs.declared.operators.Head.TheVariants as head
use Rattle.spv_logic.specs.Terms.{sort_eq, head_eq}
use Rattle.spv_logic.proofs.Equality.{sort_eq-true, sort_eq-refl}
use Rattle.spv_program.specs.declared.types.Item.TheVariants.{Variable, Class}
use Rattle.spv_program.specs.Lists.{same_name}
use Rattle.spv_program.specs.Types.{same_type, sort_of}
use Rattle.spv_program.specs.Programs.{Routine, Program, routine_in}
use Rattle.spv_program.specs.Scopes.{is_own}
use Rattle.spv_program.specs.Uses.{Root, Own, Shared, same_root, name_root}
use Rattle.spv_meaning.specs.Places.{State, look}
use Rattle.spv_meaning.specs.Views.{place_of, of_sort, now_view}
use Rattle.spv_meaning.specs.Levels.{Here}
use Rattle.spv_meaning.specs.Starts.{IsStart}
use Rattle.spv_meaning.proofs.Maps.{same_names}
use Rattle.spv_writes.specs.Writes.{Writes}
use Rattle.spv_rule_soundness.specs.evaluation.Laws.{root_seen}
use Rattle.spv_rule_soundness.proofs.evaluation.Settings as settings
use Rattle.spv_frame_law.specs.Frames.{areas_of, root_shown, is_of_one}
use Rattle.spv_frame_law.proofs.Views.{view_stays}
use Rattle.spv_program_soundness.proofs.Roots.{IsRootOf, OfName, OfClass}

-- roots of two names that differ, and of a name and a class
names_apart : (own : Symbol → Bool) (x y : Symbol) → same_name y x ≡ false → (same_root (name_root own y) (name_root own x) || false) ≡ false
names_apart own x y other = by_own (own y) (own x)
  where
    by_own : (b c : Bool) → (same_root (cond b (Own y) (Shared (Variable y))) (cond c (Own x) (Shared (Variable x))) || false) ≡ false
    by_own true true = ap (λ b. b || false) other
    by_own true false = refl
    by_own false true = refl
    by_own false false = ap (λ b. b || false) other

class_and_name : (own : Symbol → Bool) (x : Symbol) (c : TypeId) → (same_root (Shared (Class c)) (name_root own x) || false) ≡ false
class_and_name own x c = by_own (own x)
  where
    by_own : (b : Bool) → (same_root (Shared (Class c)) (cond b (Own x) (Shared (Variable x))) || false) ≡ false
    by_own true = refl
    by_own false = refl

pub name_and_class : (own : Symbol → Bool) (x : Symbol) (c : TypeId) → (same_root (name_root own x) (Shared (Class c)) || false) ≡ false
name_and_class own x c = by_own (own x)
  where
    by_own : (b : Bool) → (same_root (cond b (Own x) (Shared (Variable x))) (Shared (Class c)) || false) ≡ false
    by_own true = refl
    by_own false = refl

-- a root that is one of a head shows
pub root_shows : (p : Program) (r : Option Routine) (root : Root) (h : Head) → IsRootOf p r root h → root_shown r root ≡ true
root_shows p r _ _ (OfName x t told seen) = by_own (is_own r x) refl seen
  where
    by_own : (b : Bool) → is_own r x ≡ b → root_seen r (cond b (Own x) (Shared (Variable x))) ≡ true → root_shown r (cond b (Own x) (Shared (Variable x))) ≡ true
    by_own true own seen = own
    by_own false own seen = seen
root_shows p r _ _ (OfClass c there seen) = seen

module _ (p : Program) (here : Here) where
  -- a variable or class that is not of these roots, or that never shows
  pub data Stays (roots : List Root) (k : Head) : Type 0 where
    Apart : is_of_one (routine_in p here.routine) roots k ≡ false → Stays roots k
    Hidden : ((state : State) → now_view p here.routine state k ≡ None) → Stays roots k

  -- what is not the head of a root is not of that root, but for a name at another sort than its own, which never shows
  stays_at : (root : Root) (h : Head) → IsRootOf p (routine_in p here.routine) root h → (k : Head) → head_eq k h ≡ false → Stays (root ∷ []) k
  stays_at _ _ (OfName x t told seen) (head.Var y q zero) other = by_name (same_name y x) refl
    where
      Goal : Symbol → Type 0
      Goal z = Stays (name_root (is_own (routine_in p here.routine)) x ∷ []) (head.Var z q 0)

      only : (b : Bool) → (true && (b && true)) ≡ false → b ≡ false
      only true h = h
      only false h = refl

      differs : sort_eq q (sort_of p.forms t) ≡ false → sort_eq (sort_of p.forms t) q ≡ false
      differs other = by_case (sort_eq (sort_of p.forms t) q) refl
        where
          by_case : (b : Bool) → sort_eq (sort_of p.forms t) q ≡ b → b ≡ false
          by_case true e = absurd (false≢true (sym other ∙ (ap (λ (k : Sort). sort_eq k (sort_of p.forms t)) (sym (sort_eq-true (sort_of p.forms t) q e)) ∙ sort_eq-refl (sort_of p.forms t))))
          by_case false e = refl

      hidden : sort_eq q (sort_of p.forms t) ≡ false → Goal x
      hidden other =
          let type = settings.shown p (routine_in p here.routine) x t told seen in
          Hidden (λ state.
          ap (λ o. of_sort (option_map (sort_of p.forms) o) q (look state (place_of here.routine state x))) type
          ∙ ap (λ b. cond b (look state (place_of here.routine state x)) None) (differs other))

      by_name : (b : Bool) → same_name y x ≡ b → Goal y
      by_name true e = subst Goal (sym (same_names y x e)) (hidden (only (sort_eq q (sort_of p.forms t)) (ap (λ b. b && (sort_eq q (sort_of p.forms t) && true)) (sym e) ∙ other)))
      by_name false e = Apart (names_apart (is_own (routine_in p here.routine)) x y e)
  stays_at _ _ (OfName x t told seen) (head.Var y q (suc n)) other = Hidden (λ state. refl)
  stays_at _ _ (OfName x t told seen) (head.ClassVar c n) other = Apart (class_and_name (is_own (routine_in p here.routine)) x c)
  stays_at _ _ (OfName x t told seen) _ other = Apart refl
  stays_at _ _ (OfClass c there seen) (head.Var y q n) other = Apart (name_and_class (is_own (routine_in p here.routine)) y c)
  stays_at _ _ (OfClass c there seen) (head.ClassVar k zero) other = Apart (as_types (same_type k c) other)
    where
      as_types : (b : Bool) → (b && true) ≡ false → (b || false) ≡ false
      as_types true h = absurd (false≢true (sym h))
      as_types false h = refl
  stays_at _ _ (OfClass c there seen) (head.ClassVar k (suc m)) other = Hidden (λ state. refl)
  stays_at _ _ (OfClass c there seen) _ other = Apart refl

  -- ---- several roots

  -- roots with their heads, in the same order
  pub data AreRoots : List Root → List Head → Type 0 where
    NoRoots : AreRoots [] []
    OneRoot : (root : Root) (h : Head) → IsRootOf p (routine_in p here.routine) root h → (roots : List Root) (heads : List Head) → AreRoots roots heads → AreRoots (root ∷ roots) (h ∷ heads)

  pub roots_joined : (xs : List Root) (hs : List Head) → AreRoots xs hs → (ys : List Root) (ks : List Head) → AreRoots ys ks → AreRoots (xs ++ ys) (hs ++ ks)
  roots_joined _ _ NoRoots ys ks later = later
  roots_joined _ _ (OneRoot root h is xs hs others) ys ks later = OneRoot root h is (xs ++ ys) (hs ++ ks) (roots_joined xs hs others ys ks later)

  pub all_show : (roots : List Root) (heads : List Head) → AreRoots roots heads → list_all (root_shown (routine_in p here.routine)) roots ≡ true
  all_show _ _ NoRoots = refl
  all_show _ _ (OneRoot root h is roots heads others) = both_true (root_shows p (routine_in p here.routine) root h is) (all_show roots heads others)

  one_more : (r : Option Routine) (root : Root) (roots : List Root) (k : Head) → is_of_one r (root ∷ []) k ≡ false → is_of_one r roots k ≡ false → is_of_one r (root ∷ roots) k ≡ false
  one_more r root roots (head.Var x s n) one rest = both_false (same_root (name_root (is_own r) x) root) _ (left_false (same_root (name_root (is_own r) x) root) false one) rest
  one_more r root roots (head.ClassVar t n) one rest = both_false (same_root (Shared (Class t)) root) _ (left_false (same_root (Shared (Class t)) root) false one) rest
  one_more r root roots _ one rest = refl

  pub stays : (roots : List Root) (heads : List Head) → AreRoots roots heads → (k : Head) → list_any (head_eq k) heads ≡ false → Stays roots k
  stays _ _ NoRoots k none = Apart (nothing k)
    where
      nothing : (k : Head) → is_of_one (routine_in p here.routine) [] k ≡ false
      nothing (head.Var x s n) = refl
      nothing (head.ClassVar t n) = refl
      nothing _ = refl
  stays _ _ (OneRoot root h is roots heads others) k none =
      both (stays_at root h is k (left_false (head_eq k h) (list_any (head_eq k) heads) none)) (stays roots heads others k (right_false (head_eq k h) (list_any (head_eq k) heads) none))
    where
      both : Stays (root ∷ []) k → Stays roots k → Stays (root ∷ roots) k
      both (Hidden never) later = Hidden never
      both (Apart one) (Hidden never) = Hidden never
      both (Apart one) (Apart rest) = Apart (one_more (routine_in p here.routine) root roots k one rest)

  -- after writing in the areas of roots all else shows what it did
  pub else_stays : (state : State) → IsStart p here.routine state → (roots : List Root) (heads : List Head) → AreRoots roots heads → (after : State) → Writes p (areas_of state.frames roots) state after
      → (k : Head) → list_any (head_eq k) heads ≡ false → now_view p here.routine after k ≡ now_view p here.routine state k
  else_stays state start roots heads are after wrote k none = by_case (stays roots heads are k none)
    where
      by_case : Stays roots k → now_view p here.routine after k ≡ now_view p here.routine state k
      by_case (Hidden never) = never after ∙ sym (never state)
      by_case (Apart other) = view_stays p here.routine state start roots (all_show roots heads are) after wrote k other
