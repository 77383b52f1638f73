-- Roots that meet.
use Rattle.std.proofs.Common.{◌≡◌, false, ◌||◌, cond, List, [], ◌∷◌, ◌++◌, Option, Some, None, refl, sym, ap, ◌∙◌}
use Rattle.std.specs.List.{list_any}
use Rattle.std.proofs.lemmas.List.{map-append}
use Rattle.spv_program.specs.declared.types.Item.TheVariants.{Variable, Class}
use Rattle.spv_program.specs.Uses as plain
use Rattle.spv_program.specs.Uses.{Own, Shared, same_root}
use Rattle.spv_effects.specs.frame_walk.FrameWalk.{twice}
use Rattle.spv_frame_check.specs.declared.aliases.Root.{Root}
use Rattle.spv_frame_check.specs.declared.aliases.RootSet.{RootSet}
use Rattle.spv_frame_check.specs.Sets.{no_items}
use Rattle.spv_frame_check.specs.Roots.{plain_root, plain_roots, has_root, with_root, twice_by}
use Rattle.spv_frame_check.proofs.Logic.{or_false, or_grouped, or_swapped, same_root-sym, any_both}
use Rattle.spv_frame_check.proofs.Members.{has_more}

-- ---- the roots of arguments

pub pushed_root : (old : List Root) (r : Root) (new : List Root) → new ≡ old ++ r ∷ [] → plain_roots new ≡ plain_roots old ++ plain_root r ∷ []
pushed_root old r new h = ap plain_roots h ∙ map-append plain_root old (r ∷ [])

-- ---- the first root that a later one is

pub twice_by-none : (roots : List plain.Root) → twice_by (has_root (record { own = []; shared = no_items })) None roots ≡ twice roots
twice_by-none [] = refl
twice_by-none (r ∷ roots) = ap (λ b. cond b (Some r) (twice_by (has_root (record { own = []; shared = no_items })) None roots)) (none r) ∙ ap (λ (o : Option plain.Root). cond (list_any (same_root r) roots) (Some r) o) (twice_by-none roots)
  where
    empty : (q : plain.Root) → has_root (record { own = []; shared = no_items }) q ≡ false
    empty (Own x) = refl
    empty (Shared (Variable x)) = refl
    empty (Shared (Class t)) = refl

    none : (q : plain.Root) → list_any (same_root q) roots || has_root (record { own = []; shared = no_items }) q ≡ list_any (same_root q) roots
    none q = ap (λ b. list_any (same_root q) roots || b) (empty q) ∙ or_false (list_any (same_root q) roots)

-- the last of the roots goes over to those that come behind
twice_last : (s : RootSet) (found : Option plain.Root) (roots : List plain.Root) (x : plain.Root)
    → twice_by (has_root s) found (roots ++ x ∷ []) ≡ twice_by (has_root (with_root s x)) (cond (has_root s x) (Some x) found) roots
twice_last s found [] x = refl
twice_last s found (r ∷ roots) x =
    ap (λ b. cond b (Some r) (twice_by (has_root s) found (roots ++ x ∷ []))) test
    ∙ ap (λ (o : Option plain.Root). cond (list_any (same_root r) roots || has_root (with_root s x) r) (Some r) o) (twice_last s found roots x)
  where
    test : list_any (same_root r) (roots ++ x ∷ []) || has_root s r ≡ list_any (same_root r) roots || has_root (with_root s x) r
    test =
        ap (λ b. b || has_root s r) (any_both (same_root r) roots (x ∷ []) ∙ ap (λ b. list_any (same_root r) roots || b) (or_false (same_root r x)))
        ∙ or_grouped (list_any (same_root r) roots) (same_root r x) (has_root s r)
        ∙ ap (λ b. list_any (same_root r) roots || b)
        (or_swapped (same_root r x) (has_root s r) ∙ ap (λ b. has_root s r || b) (same_root-sym r x) ∙ sym (has_more s x r))

pub turn : (s next : RootSet) (found next_found : Option plain.Root) (roots popped : List Root) (x : Root)
    → roots ≡ popped ++ x ∷ [] → next ≡ with_root s (plain_root x) → next_found ≡ cond (has_root s (plain_root x)) (Some (plain_root x)) found
    → twice_by (has_root next) next_found (plain_roots popped) ≡ twice_by (has_root s) found (plain_roots roots)
turn s next found next_found roots popped x h k l =
    ap (λ (t : RootSet). twice_by (has_root t) next_found (plain_roots popped)) k
    ∙ ap (λ (o : Option plain.Root). twice_by (has_root (with_root s (plain_root x))) o (plain_roots popped)) l
    ∙ sym (ap (λ (rs : List plain.Root). twice_by (has_root s) found rs) (pushed_root popped x roots h) ∙ twice_last s found (plain_roots popped) (plain_root x))
