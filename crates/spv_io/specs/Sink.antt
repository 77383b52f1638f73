use Rattle.std.specs.Prelude.{◌≡◌, ◌≤◌, ℕ, List, ◌++◌, length, take, Option, Some, None}

-- what is written so far with more bytes, where it is told
abbrev pub added : Option (List ℕ) → List ℕ → Option (List ℕ)
added None bytes = None
added (Some written) bytes = Some (written ++ bytes)

-- some of the first bytes were added, maybe none and maybe all
pub record AddsPrefix (old new : Option (List ℕ)) (bytes : List ℕ) : Type 0 where
  pub count : ℕ
  pub within : count ≤ length bytes
  pub is_added : new ≡ added old (take count bytes)
