use Rattle.std.specs.Prelude.{ℕ, List, [], ◌∷◌, ◌++◌, Option, Some, None}

-- the names so far with one more, where they are told
abbrev pub named : Option (List (List ℕ)) → List ℕ → Option (List (List ℕ))
named None name = None
named (Some names) name = Some (names ++ name ∷ [])
