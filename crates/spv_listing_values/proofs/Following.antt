-- A line more is followed: what stood there stays, and the new terms are entered behind those of the last condition so far.
use Rattle.std.proofs.Common.{◌≡◌, List, [], ◌∷◌, ◌++◌, All, map, sym, ap, subst, ◌∙◌}
use Rattle.std.proofs.lemmas.List.{map-append}
use Rattle.spv_listing_values.specs.declared.data.Claim.{Claim}
use Rattle.spv_listing_values.specs.declared.texts.Text.{Text}
use Rattle.spv_listing_values.specs.declared.reading.Read.{Read}
use Rattle.spv_listing_values.specs.declared.reading.Reader.{Reader}
use Rattle.spv_listing_values.specs.Written.{Written}
use Rattle.spv_listing_values.specs.Reading.{Reading}
use Rattle.spv_listing_values.specs.Places.{Flat, tree, flats_of}
use Rattle.spv_listing_values.specs.Waiting.{AreIn}
use Rattle.spv_listing_values.specs.Entries.{written_claim}
use Rattle.spv_listing_values.specs.Interned.{flats_at}
use Rattle.spv_listing_values.specs.Told.{IsReady, Enters}
use Rattle.spv_listing_values.specs.Kept.{state, terms_of, HasBegun}
use Rattle.spv_listing_values.specs.Followed.{IsRead, done_of, reading_of, IsReading, Reads}
use Rattle.spv_listing_values.proofs.Grown.{Grown, tree_stays, are_in_more}
use Rattle.spv_listing_values.proofs.Enters.{flats_more, places_in, trees_stay}
use Rattle.spv_listing_values.proofs.Keeps.{Agree, agree_state}

agree_grown : (fs gs : List Flat) → Grown fs gs → (ts : List Text) → AreIn fs ts → Agree (tree gs) (tree fs) ts
agree_grown fs gs grown [] h = tt
agree_grown fs gs grown (t ∷ ts) h = (tree_stays fs gs grown t h.0, agree_grown fs gs grown ts h.1)

-- terms of a line are entered, and the last condition gains them
pub follows : (r n : Reader) (ws : List Written) (ts : List Text) (op : (Text → Written) → Reading → Reading) → IsReading r → IsReady n.table
    → Enters (flats_at r.table) (flats_at n.table) ws ts → n.read.items ≡ r.read.items → terms_of n.current ≡ terms_of r.current ++ ts → HasBegun n.current (done_of r)
    → ((f : Text → Written) → state f (done_of r) n.current ≡ op f (state f (done_of r) r.current)) → Reads n (op (tree (flats_at n.table)) (reading_of r))
follows r n ws ts op reading ready enters same gained begun moved = record {
  reading = record {
    ready = ready;
    in_range = subst (AreIn gs) (sym gained) (places_in gs (terms_of r.current) ts (are_in_more fs gs grown (terms_of r.current) reading.in_range) enters.in_range);
    terms = flats_more (map (tree fs) (terms_of r.current)) ws fs gs reading.terms enters.flats ∙ ap flats_of (sym trees_are);
    begun = subst (HasBegun n.current) (sym done_same) begun;
    read = subst (λ (es : List Read). All (λ e. IsRead e.texts e.claim) es) (sym same) reading.read;
  };
  is =
      ap (λ (cs : List (Claim Written)). state (tree gs) cs n.current) done_same
      ∙ (moved (tree gs) ∙ ap (op (tree gs)) (agree_state (tree gs) (tree fs) r.current (done_of r) (agree_grown fs gs grown (terms_of r.current) reading.in_range)));
}
  where
    fs : List Flat
    fs = flats_at r.table

    gs : List Flat
    gs = flats_at n.table

    grown : Grown fs gs
    grown = record { table = ready.sound.texts.table; more = enters.more; goes_on = enters.goes_on }

    done_same : done_of n ≡ done_of r
    done_same = ap (λ (es : List Read). map (λ e. written_claim e.texts e.claim) es) same

    trees_are : map (tree gs) (terms_of n.current) ≡ map (tree fs) (terms_of r.current) ++ ws
    trees_are =
        ap (map (tree gs)) gained
        ∙ (map-append (tree gs) (terms_of r.current) ts ∙ (λ i. trees_stay fs gs grown (terms_of r.current) reading.in_range i ++ enters.trees i))

-- nothing is added
pub passed : (r : Reader) (s : Reading) → IsReading r → s ≡ reading_of r → Reads r s
passed r s reading e = record { reading = reading; is = sym e }
