-- Tokens that begin a text, and where tokens go wrong.
use Rattle.std.proofs.Common.{◌≡◌, ℕ, List, [], ◌∷◌, ◌++◌, refl, sym, ap, ◌∙◌, subst, append_assoc}
use Rattle.spv_tree.specs.declared.tokens.token.Token.{Token}
use Rattle.spv_grammar.specs.first_sets.Lines.{last_line}
use Rattle.spv_grammar.specs.first_sets.Begins.{Begins, GoesWrongWith, GoesWrongAt, with_token, at_end, PrefixesBegin, GoWrongAtOneLine}

-- how two places in one list lie to one another: they are one, or the first is before the second, or behind it
pub data Places (xs : List Token) (x : Token) (ys : List Token) (y : Token) : Type 0 where
  one : x ≡ y → Places xs x ys y
  earlier : (others : List Token) → ys ≡ (xs ++ x ∷ []) ++ others → Places xs x ys y
  later : (others : List Token) → xs ≡ (ys ++ y ∷ []) ++ others → Places xs x ys y

further : (t u : Token) (xs : List Token) (x : Token) (ys : List Token) (y : Token) → t ≡ u → Places xs x ys y → Places (t ∷ xs) x (u ∷ ys) y
further t u xs x ys y e (one s) = one s
further t u xs x ys y e (earlier others s) = earlier others (cc (e, s))
further t u xs x ys y e (later others s) = later others (cc (e, s))

head_is : (t u : Token) (ts us : List Token) → t ∷ ts ≡ u ∷ us → (t ≡ u) × (ts ≡ us)
head_is t u ts us e = (cc, cc)

pub places : (xs : List Token) (x : Token) (us ys : List Token) (y : Token) (vs : List Token) → xs ++ x ∷ us ≡ ys ++ y ∷ vs → Places xs x ys y
places [] x us [] y vs e = one (head_is x y us vs e).0
places [] x us (u ∷ ys) y vs e = earlier ys (ap (λ t. t ∷ ys) (sym (head_is x u us (ys ++ y ∷ vs) e).0))
places (t ∷ xs) x us [] y vs e = later xs (ap (λ u. u ∷ xs) (head_is t y (xs ++ x ∷ us) vs e).0)
places (t ∷ xs) x us (u ∷ ys) y vs e =
    let h = head_is t u (xs ++ x ∷ us) (ys ++ y ∷ vs) e in
    further t u xs x ys y h.0 (places xs x us ys y vs h.1)

module _ {A : Type 0} (reads : List Token → A → Type 0) where
  pub prefixes_begin : PrefixesBegin reads
  prefixes_begin before behind b = record { more = behind ++ b.more; tree = b.tree; read = subst (λ tokens. reads tokens b.tree) (append_assoc before behind b.more) b.read }

  -- what goes wrong with a token begins no text with more tokens behind it
  goes_on_wrong : (before : List Token) (t : Token) (behind : List Token) → GoesWrongWith reads before t → Begins reads ((before ++ t ∷ []) ++ behind) → ⊥
  goes_on_wrong before t behind w b = w.wrong (prefixes_begin (before ++ t ∷ []) behind b)

  of_places : (xs : List Token) (x : Token) (ys : List Token) (y : Token) → GoesWrongWith reads xs x → GoesWrongWith reads ys y → Places xs x ys y → x.line ≡ y.line
  of_places xs x ys y v w (one e) = ap (λ t. t.line) e
  of_places xs x ys y v w (earlier others e) = absurd (goes_on_wrong xs x others v (subst (Begins reads) e w.right))
  of_places xs x ys y v w (later others e) = absurd (goes_on_wrong ys y others w (subst (Begins reads) e v.right))

  at_end_alone : (before : List Token) (t : Token) (behind tokens : List Token) → GoesWrongWith reads before t → Begins reads tokens → tokens ≡ before ++ t ∷ behind → ⊥
  at_end_alone before t behind tokens w b e = goes_on_wrong before t behind w (subst (Begins reads) (e ∙ sym (append_assoc before (t ∷ []) behind)) b)

  of_both : (tokens others : List Token) (line other : ℕ) → tokens ≡ others → GoesWrongAt reads tokens line → GoesWrongAt reads others other → line ≡ other
  of_both _ _ _ _ e (with_token xs x us v) (with_token ys y vs w) = of_places xs x ys y v w (places xs x us ys y vs e)
  of_both _ _ _ _ e (with_token xs x us v) (at_end tokens b) = absurd (at_end_alone xs x us tokens v b (sym e))
  of_both _ _ _ _ e (at_end tokens b) (with_token ys y vs w) = absurd (at_end_alone ys y vs tokens w b e)
  of_both _ _ _ _ e (at_end tokens b) (at_end others c) = ap last_line e

  pub one_line : GoWrongAtOneLine reads
  one_line tokens line other v w = of_both tokens tokens line other refl v w
