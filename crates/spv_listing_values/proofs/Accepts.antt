-- What was read is accepted where it has the forms of a listing and prints as the same bytes.
use Rattle.std.proofs.Common.{◌≡◌, ℕ, ◌-◌, Bool, true, false, ◌&&◌, if◌then◌else◌, Option, Some, None, List, [], ◌∷◌, ◌++◌, map, take, reverse, not, Result, Ok, Err, IfOk, MatchResult, IsTrue, refl, sym, ap, subst, ◌∙◌, append_assoc, append-nil, arith}
use Rattle.std.specs.List.{list_all}
use Rattle.std.specs.Char.{is_ascii_lowercase}
use Rattle.std.specs.Str.{bytes_eq}
use Rattle.std.proofs.lemmas.Bool.{false≢true}
use Rattle.std.proofs.lemmas.List.{map-append, reverse-append}
use Rattle.std.proofs.lemmas.List.Folds.{list_all-append}
use Rattle.spv_logic.specs.names.Names.{IsFolded}
use Rattle.spv_listing_values.specs.declared.data.Claim.{Claim}
use Rattle.spv_listing_values.specs.declared.reading.Read.{Read}
use Rattle.spv_listing_values.specs.declared.fault.ListFault.{ListFault}
use Rattle.spv_listing_values.specs.declared.fault.ListFault.TheVariants as fault
use Rattle.spv_listing_values.specs.Written.{Written}
use Rattle.spv_listing_values.specs.Page.{page}
use Rattle.spv_listing_values.specs.Reading.{claims_in}
use Rattle.spv_listing_values.specs.Forms.{is_claim, is_listing}
use Rattle.spv_listing_values.specs.Entries.{written_claim}
use Rattle.spv_listing_values.specs.Exact.{printed_so, listing_in}
use Rattle.spv_listing_values.proofs.Numerals.{both_true}
use Rattle.spv_listing_values.proofs.Exact.{listing_again, listing_only}
use Rattle.spv_listing_values.proofs.Folded.{page_folded}

-- ---- conditions one by one, the last one first

-- conditions that wait, and those that were found to have their forms, the last one first
pub record AreFormed (all waiting : List (Claim Written)) (done : List (Claim Written)) : Type 0 where
  pub is : waiting ++ reverse done ≡ all
  pub formed : list_all is_claim done ≡ true

pub formed_more : (all waiting done : List (Claim Written)) (c : Claim Written) → AreFormed all (waiting ++ c ∷ []) done → is_claim c ≡ true → AreFormed all waiting (done ++ c ∷ [])
formed_more all waiting done c so_far h = record {
  is =
      ap (λ (l : List (Claim Written)). waiting ++ l) (reverse-append done (c ∷ []))
      ∙ (sym (append_assoc waiting (c ∷ []) (reverse done)) ∙ so_far.is);
  formed = list_all-append is_claim done (c ∷ []) ∙ both_true (list_all is_claim done) (is_claim c && true) so_far.formed (both_true (is_claim c) true h refl);
}

-- the last one is taken away
pub formed_popped : (all : List (Claim Written)) (reads rest : List Read) (one : Read) (done : List (Claim Written)) → AreFormed all (map (λ e. written_claim e.texts e.claim) reads) done → reads ≡ rest ++ one ∷ []
    → AreFormed all (map (λ e. written_claim e.texts e.claim) rest ++ written_claim one.texts one.claim ∷ []) done
formed_popped all reads rest one done so_far e =
    subst (λ (cs : List (Claim Written)). AreFormed all cs done) (ap (map (λ (x : Read). written_claim x.texts x.claim)) e ∙ map-append (λ (x : Read). written_claim x.texts x.claim) rest (one ∷ [])) so_far

and_false : (b : Bool) → (b && false) ≡ false
and_false true = refl
and_false false = refl

pub formed_not : (all waiting done : List (Claim Written)) (c : Claim Written) → AreFormed all (waiting ++ c ∷ []) done → is_claim c ≡ false → list_all is_claim all ≡ false
formed_not all waiting done c so_far h =
    ap (list_all is_claim) (sym so_far.is ∙ append_assoc waiting (c ∷ []) (reverse done))
    ∙ (list_all-append is_claim waiting (c ∷ reverse done)
    ∙ (ap (λ (b : Bool). list_all is_claim waiting && (b && list_all is_claim (reverse done))) h ∙ and_false (list_all is_claim waiting)))

reverse_formed : (cs : List (Claim Written)) → list_all is_claim cs ≡ true → list_all is_claim (reverse cs) ≡ true
reverse_formed [] h = refl
reverse_formed (c ∷ cs) h = by (reverse-append (c ∷ []) cs) (is_claim c) (list_all is_claim cs) refl refl h (reverse_formed cs)
  where
    by : reverse (c ∷ cs) ≡ reverse cs ++ c ∷ [] → (a b : Bool) → is_claim c ≡ a → list_all is_claim cs ≡ b → (a && b) ≡ true → (list_all is_claim cs ≡ true → list_all is_claim (reverse cs) ≡ true)
        → list_all is_claim (reverse (c ∷ cs)) ≡ true
    by e true true f g k rest =
        ap (list_all is_claim) e
        ∙ (list_all-append is_claim (reverse cs) (c ∷ []) ∙ both_true (list_all is_claim (reverse cs)) (is_claim c && true) (rest g) (both_true (is_claim c) true f refl))
    by e true false f g k rest = absurd (false≢true k)
    by e false b f g k rest = absurd (false≢true k)

pub formed_end : (all waiting done : List (Claim Written)) → AreFormed all waiting done → waiting ≡ [] → (reverse done ≡ all) × (list_all is_claim (reverse done) ≡ true)
formed_end all waiting done so_far e = (ap (λ (l : List (Claim Written)). l ++ reverse done) (sym e) ∙ so_far.is, reverse_formed done so_far.formed)

-- the one that was taken away goes behind those that were found
pub formed_pushed : (all waiting done new : List (Claim Written)) (c e : Claim Written) → AreFormed all (waiting ++ c ∷ []) done → (e ≡ c) × (is_claim c ≡ true) → new ≡ done ++ e ∷ [] → AreFormed all waiting new
formed_pushed all waiting done new c e so_far is pushed =
    subst (AreFormed all waiting) (ap (λ (x : Claim Written). done ++ x ∷ []) (sym is.0) ∙ sym pushed) (formed_more all waiting done c so_far is.1)

-- nothing is left
pub nothing_popped : (reads rest : List Read) (count : ℕ) → reads ≡ rest ++ [] → rest ≡ take (count - 1) reads → count ≡ 0 → reads ≡ []
nothing_popped reads rest count e f g =
    let none : count - 1 ≡ 0 = omega (arith, g) in
    e ∙ (append-nil rest ∙ (f ∙ ap (λ (n : ℕ). take n reads) none))

-- ---- how many conditions there are

-- ---- the bytes

pub read_none : (bytes : List ℕ) (cs : List (Claim Written)) → cs ≡ claims_in bytes → is_listing cs ≡ false → listing_in bytes ≡ None
read_none bytes cs e h =
    ap (printed_so bytes) (sym e) ∙ ap (λ (b : Bool). if b && bytes_eq (page cs) bytes then Some cs else None) h

pub read_other : (bytes : List ℕ) (cs : List (Claim Written)) → cs ≡ claims_in bytes → bytes_eq (page cs) bytes ≡ false → listing_in bytes ≡ None
read_other bytes cs e h =
    ap (printed_so bytes) (sym e) ∙ ap (λ (b : Bool). if b then Some cs else None) (ap (λ (b : Bool). is_listing cs && b) h ∙ and_false (is_listing cs))

pub read_same : (bytes : List ℕ) (cs : List (Claim Written)) → cs ≡ claims_in bytes → is_listing cs ≡ true → bytes_eq (page cs) bytes ≡ true → listing_in bytes ≡ Some cs
read_same bytes cs e h k =
    ap (printed_so bytes) (sym e) ∙ ap (λ (b : Bool). if b then Some cs else None) (both_true (is_listing cs) (bytes_eq (page cs) bytes) h k)

-- a listing's bytes are found, and they are folded
pub listing_found : (bytes : List ℕ) (cs : List (Claim Written)) → is_listing cs ≡ true → page cs ≡ bytes → listing_in bytes ≡ Some cs
listing_found bytes cs h e = ap listing_in (sym e) ∙ listing_again cs h

pub listing_is_folded : (bytes : List ℕ) (cs : List (Claim Written)) → is_listing cs ≡ true → page cs ≡ bytes → IsFolded bytes
listing_is_folded bytes cs h e = subst IsFolded e (page_folded cs h)

pub not_both : (bytes : List ℕ) (cs : List (Claim Written)) → listing_in bytes ≡ None → listing_in bytes ≡ Some cs → ⊥
not_both bytes cs none some = none_some (sym none ∙ some)
  where
    none_some : None ≡ Some cs → ⊥
    none_some e = cc

pub unfolded_none : (bytes : List ℕ) → list_all (λ b. not (is_ascii_lowercase b)) bytes ≡ false → listing_in bytes ≡ None
unfolded_none bytes h = by (listing_in bytes) refl
  where
    by : (o : Option (List (Claim Written))) → listing_in bytes ≡ o → listing_in bytes ≡ None
    by None e = e
    by (Some cs) e =
        let only = listing_only bytes cs e in
        absurd (false≢true (sym h ∙ listing_is_folded bytes cs only.0 only.1))

-- ---- what is answered

-- the conditions are those of the bytes, and their page is compared
pub printed_same : (bytes printed : List ℕ) (cs : List (Claim Written)) (test : Bool) → cs ≡ claims_in bytes → is_listing cs ≡ true → printed ≡ page cs → test ≡ bytes_eq printed bytes → test ≡ true → listing_in bytes ≡ Some cs
printed_same bytes printed cs test e h p t is = read_same bytes cs e h (ap (λ (x : List ℕ). bytes_eq x bytes) (sym p) ∙ (sym t ∙ is))

pub printed_other : (bytes printed : List ℕ) (cs : List (Claim Written)) (test : Bool) → cs ≡ claims_in bytes → printed ≡ page cs → test ≡ bytes_eq printed bytes → test ≡ false → listing_in bytes ≡ None
printed_other bytes printed cs test e p t is = read_other bytes cs e (ap (λ (x : List ℕ). bytes_eq x bytes) (sym p) ∙ (sym t ∙ is))

pub accepted_exact : (bytes : List ℕ) (r : Result (List (Claim Written)) ListFault) → IfOk r (λ l. listing_in bytes ≡ Some l) → IfOk r (λ l. IsTrue (is_listing l) × (page l ≡ bytes))
accepted_exact bytes (Ok l) h = listing_only bytes l h
accepted_exact bytes (Err e) h = tt

pub accepted_again : (bytes : List ℕ) (r : Result (List (Claim Written)) ListFault) → IfOk r (λ l. listing_in bytes ≡ Some l) → ((n : ℕ) → r ≡ Err (fault.Form n) → listing_in bytes ≡ None) → (r ≡ Err fault.TooLong → ⊥)
    → (l : List (Claim Written)) → is_listing l ≡ true → page l ≡ bytes → MatchResult r (λ x. x ≡ l) (λ f. f ≡ fault.Memory)
accepted_again bytes (Ok x) ok form few l h e = same (sym ok ∙ listing_found bytes l h e)
  where
    same : Some x ≡ Some l → x ≡ l
    same e = cc
accepted_again bytes (Err fault.TooLong) ok form few l h e = absurd (few refl)
accepted_again bytes (Err (fault.Form n)) ok form few l h e = absurd (not_both bytes l (form n refl) (listing_found bytes l h e))
accepted_again bytes (Err fault.Memory) ok form few l h e = refl
