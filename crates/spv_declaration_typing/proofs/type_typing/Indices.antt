-- Index types, one after the other.
use Rattle.std.proofs.Common.{◌≡◌, ℕ, suc, ◌<◌, ◌≤◌, ◌+◌, true, false, List, [], ◌∷◌, ◌++◌, take, drop, length, get_or, Ok, Err, refl, sym, ap, ◌∙◌, arith}
use Rattle.std.proofs.lemmas.List.{take_more, take_all, drop_all, map-append}
use Rattle.std.proofs.Math.Seq.{drop-cons}
use Rattle.spv_logic.specs.declared.types.TypeId.{TypeId}
use Rattle.spv_program.specs.declared.types.TypeForm.TheVariants.{Array}
use Rattle.spv_program.specs.Lists.{item_at}
use Rattle.spv_typing.specs.Outcomes.{after, where_so, each, wrong}
use Rattle.spv_typing.specs.Merging as merging
use Rattle.spv_typing.specs.TypeWalk.{Reading, is_range, check_index, adding, nested}
use Rattle.spv_declaration_typing.specs.declared.type_typing.nested.Index.{Index}
use Rattle.spv_declaration_typing.specs.type_typing.Reading.{index_of, indices_of}

module _ (types : List merging.Written) (indices : List Index) where
  pub record Checked (n : ℕ) : Type 0 where
    pub rest : each (check_index types) (indices_of (take n indices)) (indices_of (drop n indices)) ≡ each (check_index types) [] (indices_of indices)

  pub checked_none : Checked 0
  checked_none = record { rest = refl }

  behind : (n : ℕ) (d : Index) → n < length indices → drop n indices ≡ get_or indices n d ∷ drop (suc n) indices
  behind n d within = drop-cons indices n d within

  pub checked_more : (n : ℕ) (d : Index) → n < length indices → is_range (item_at types (get_or indices n d).of.0) ≡ true → Checked n → Checked (n + 1)
  checked_more n d within is so_far = record {
    rest =
        ap (λ m. each (check_index types) (indices_of (take (n + 1) indices)) (indices_of (drop m indices))) (next n)
        ∙ (ap (λ (done : List Index). each (check_index types) (indices_of done) (indices_of (drop (suc n) indices))) (take_more indices n d within)
        ∙ (ap (λ done. each (check_index types) done (indices_of (drop (suc n) indices))) (map-append index_of (take n indices) (get_or indices n d ∷ []))
        ∙ (sym
        (ap (λ b. after (where_so b (wrong (get_or indices n d).line) (Ok (indices_of (take n indices) ++ index_of (get_or indices n d) ∷ []))) (λ done. each (check_index types) done (indices_of (drop (suc n) indices)))) is)
        ∙ (ap (λ (left : List Index). each (check_index types) (indices_of (take n indices)) (indices_of left)) (sym (behind n d within)) ∙ so_far.rest))));
  }
    where
      next : (n : ℕ) → n + 1 ≡ suc n
      next n = omega arith

  pub checked_not : (n : ℕ) (d : Index) → n < length indices → is_range (item_at types (get_or indices n d).of.0) ≡ false → Checked n
      → each (check_index types) [] (indices_of indices) ≡ Err (wrong (get_or indices n d).line)
  checked_not n d within is so_far =
      sym so_far.rest
      ∙ (ap (λ (left : List Index). each (check_index types) (indices_of (take n indices)) (indices_of left)) (behind n d within)
      ∙ ap (λ b. after (where_so b (wrong (get_or indices n d).line) (Ok (indices_of (take n indices) ++ index_of (get_or indices n d) ∷ []))) (λ done. each (check_index types) done (indices_of (drop (suc n) indices)))) is)

  pub checked_all : (n : ℕ) → length indices ≤ n → Checked n → each (check_index types) [] (indices_of indices) ≡ Ok (indices_of indices)
  checked_all n past so_far =
      sym so_far.rest
      ∙ (ap (λ (left : List Index). each (check_index types) (indices_of (take n indices)) (indices_of left)) (drop_all n indices past)
      ∙ ap (λ (done : List Index). Ok (indices_of done)) (take_all n indices past))

  -- the last index is innermost
  pub nested_more : (n : ℕ) (d : Index) (element : TypeId) (inner outer : Reading) → n < length indices
      → nested types (indices_of (drop (suc n) indices)) element ≡ inner
      → adding inner.written (merging.Built (Array (get_or indices n d).of inner.type)) ≡ outer
      → nested types (indices_of (drop n indices)) element ≡ outer
  nested_more n d element inner outer within is further =
      ap (λ (left : List Index). nested types (indices_of left) element) (behind n d within)
      ∙ (ap (λ (r : Reading). adding r.written (merging.Built (Array (get_or indices n d).of r.type))) is ∙ further)
