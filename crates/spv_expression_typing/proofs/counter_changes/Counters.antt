-- Loops over variables that count, over GLOBAL lists and over headings.
use Rattle.std.proofs.Common.{◌≡◌, ◌<◌, ◌||◌, ℕ, suc, Bool, true, false, List, [], ◌∷◌, length, drop, map, get_or, Option, Some, None, refl, sym, ap, ◌∙◌, nat_eq, arith}
use Rattle.std.proofs.Math.Seq.{drop-cons}
use Rattle.spv_logic.specs.declared.names.names.Symbol.{Symbol}
use Rattle.spv_program.specs.Lists.{first_of}
use Rattle.spv_program.specs.Uses.{Root}
use Rattle.spv_program.specs.declared.typed.programs.GlobalItem.{GlobalItem as GlobalText}
use Rattle.spv_program.specs.typed.ProgramViews.{global_of}
use Rattle.spv_typing.specs.Known.{Heading}
use Rattle.spv_typing.specs.StatementWalk.{first_counted}
use Rattle.spv_expression_typing.specs.counter_changes.Counted.{is_counted, global_counted, globals_counted, headings_counted}

module _ (counted : List Symbol) (x : Symbol) (n : ℕ) (v : Symbol) (within : n < length counted) (is : v ≡ get_or counted n v) where
  counted_opened : is_counted (drop n counted) x ≡ is_counted (v ∷ drop (suc n) counted) x
  counted_opened = ap (λ (vs : List Symbol). is_counted vs x) (drop-cons counted n v within ∙ ap (λ (w : Symbol). w ∷ drop (suc n) counted) (sym is))

  pub counted_first : nat_eq v.0 x.0 ≡ true → is_counted (drop n counted) x ≡ true
  counted_first same = counted_opened ∙ ap (λ b. b || is_counted (drop (suc n) counted) x) same

  pub counted_behind : nat_eq v.0 x.0 ≡ false → is_counted (drop n counted) x ≡ is_counted (drop (suc n) counted) x
  counted_behind same = counted_opened ∙ ap (λ b. b || is_counted (drop (suc n) counted) x) same

-- where nothing counts, nothing that counts is changed
nothing_counts : (own : Symbol → Bool) (roots : List Root) → first_counted own [] roots ≡ None
nothing_counts own [] = refl
nothing_counts own (r ∷ roots) = nothing_counts own roots

pub none_counted : (own : Symbol → Bool) (counted : List Symbol) (roots : List Root) → length counted ≡ 0 → first_counted own counted roots ≡ None
none_counted own [] roots h = nothing_counts own roots
none_counted own (v ∷ counted) roots h = absurd (omega (arith, h))

module _ (own : Symbol → Bool) (counted : List Symbol) where
  module _ (globals : List GlobalText) (n : ℕ) (g : GlobalText) (within : n < length globals) (is : g ≡ get_or globals n g) where
    global_opened : (o : Option Symbol) → global_counted own counted (global_of g) ≡ o
        → globals_counted own counted (map global_of (drop n globals)) ≡ first_of o (globals_counted own counted (map global_of (drop (suc n) globals)))
    global_opened o h =
        ap (λ (gs : List GlobalText). globals_counted own counted (map global_of gs)) (drop-cons globals n g within ∙ ap (λ (f : GlobalText). f ∷ drop (suc n) globals) (sym is))
        ∙ ap (λ (o : Option Symbol). first_of o (globals_counted own counted (map global_of (drop (suc n) globals)))) h

    pub global_first : (x : Symbol) → global_counted own counted (global_of g) ≡ Some x → globals_counted own counted (map global_of (drop n globals)) ≡ Some x
    global_first x h = global_opened (Some x) h

    pub global_behind : global_counted own counted (global_of g) ≡ None
        → globals_counted own counted (map global_of (drop n globals)) ≡ globals_counted own counted (map global_of (drop (suc n) globals))
    global_behind h = global_opened None h

  heading_opened : (all : List Heading) (h : Heading) (others : List Heading) (o : Option Symbol) → all ≡ h ∷ others → globals_counted own counted h.globals ≡ o
      → headings_counted own counted all ≡ first_of o (headings_counted own counted others)
  heading_opened all h others o is e = ap (headings_counted own counted) is ∙ ap (λ (o : Option Symbol). first_of o (headings_counted own counted others)) e

  pub heading_first : (all : List Heading) (h : Heading) (others : List Heading) (x : Symbol) → all ≡ h ∷ others → globals_counted own counted h.globals ≡ Some x
      → headings_counted own counted all ≡ Some x
  heading_first all h others x is e = heading_opened all h others (Some x) is e

  pub heading_behind : (all : List Heading) (h : Heading) (others : List Heading) → all ≡ h ∷ others → globals_counted own counted h.globals ≡ None
      → headings_counted own counted all ≡ headings_counted own counted others
  heading_behind all h others is e = heading_opened all h others None is e

  pub no_heading : (all : List Heading) → all ≡ [] → headings_counted own counted all ≡ None
  no_heading all is = ap (headings_counted own counted) is
