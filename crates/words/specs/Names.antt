-- What a word of a script names.
use Rattle.std.specs.Prelude.{◌≡◌, ℕ, List, Result, MatchResult, ◌≢◌}

-- r is the thing that the word w names, where name gives each its word, and an error where w names nothing
abbrev pub Named : {X E : Type 0} → (X → List ℕ) → List ℕ → Result X E → Type 0
Named {X} name w r = MatchResult r (λ x. w ≡ name x) (λ _. (x : X) → w ≢ name x)
