-- Exactly the bytes of listings are read.
use Rattle.std.proofs.Common.{◌≡◌, ℕ, Bool, true, false, ◌&&◌, if◌then◌else◌, List, Some, None, refl, sym, ap, ◌∙◌}
use Rattle.std.specs.Str.{bytes_eq}
use Rattle.std.proofs.lemmas.Slice.Eq.{bytes_eq-Decides}
use Rattle.spv_logic.proofs.list.Tests.{left_true, right_true}
use Rattle.spv_listing_values.specs.declared.data.Claim.{Claim}
use Rattle.spv_listing_values.specs.Written.{Written}
use Rattle.spv_listing_values.specs.Page.{page}
use Rattle.spv_listing_values.specs.Reading.{claims_in}
use Rattle.spv_listing_values.specs.Forms.{is_listing}
use Rattle.spv_listing_values.specs.Exact.{printed_so, listing_in}
use Rattle.spv_listing_values.proofs.Numerals.{both_true}
use Rattle.spv_listing_values.proofs.Inverse.{page_again}

chosen : {X : Type 0} (b : Bool) (x y : X) → (if b then Some x else None) ≡ Some y → (b ≡ true) × (x ≡ y)
chosen true x y e = (refl, cc)
chosen false x y e = absurd cc

pub listing_again : (cs : List (Claim Written)) → is_listing cs ≡ true → listing_in (page cs) ≡ Some cs
listing_again cs h =
    ap (printed_so (page cs)) (page_again cs h)
    ∙ ap (λ (b : Bool). if b then Some cs else None) (both_true (is_listing cs) (bytes_eq (page cs) (page cs)) h ((bytes_eq-Decides (page cs) (page cs)).1 refl))

pub listing_only : (bytes : List ℕ) (cs : List (Claim Written)) → listing_in bytes ≡ Some cs → (is_listing cs ≡ true) × (page cs ≡ bytes)
listing_only bytes cs e =
    let read = claims_in bytes in
    let both = chosen (is_listing read && bytes_eq (page read) bytes) read cs e in
    let form : is_listing read ≡ true = left_true (is_listing read) (bytes_eq (page read) bytes) both.0 in
    let same : page read ≡ bytes = (bytes_eq-Decides (page read) bytes).0 (right_true (is_listing read) (bytes_eq (page read) bytes) both.0) in
    (ap is_listing (sym both.1) ∙ form, ap page (sym both.1) ∙ same)

pub listing_one : (a b : List (Claim Written)) → is_listing a ≡ true → is_listing b ≡ true → page a ≡ page b → a ≡ b
listing_one a b h k e = sym (page_again a h) ∙ (ap claims_in e ∙ page_again b k)

pub listing_none : (bytes : List ℕ) → listing_in bytes ≡ None → (cs : List (Claim Written)) → is_listing cs ≡ true → page cs ≡ bytes → ⊥
listing_none bytes none cs h e =
    let some : listing_in bytes ≡ Some cs = ap listing_in (sym e) ∙ listing_again cs h in
    let both : Some cs ≡ None = sym some ∙ none in
    cc
