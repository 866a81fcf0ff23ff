-- A set of codes as the list of its codes.
use Rattle.std.specs.Prelude.{◌≡◌, ℕ, zero, suc, ◌+◌, ◌*◌, ◌/◌, ◌%◌, ◌<◌, cond, List, [], ◌∷◌, ◌==◌}
use mathlib.Core.List.{Memᴰ}
use Rattle.shapes.specs.Codes.{code_number}
use Rattle.shapes.specs.Source.{Shape}
use Rattle.bounding.specs.Record.{codes_of}

-- the code whose bit stands at this place
abbrev pub number_at : ℕ → ℕ
number_at p = 1000 * (p / 7) + p % 7 + 1

-- the codes of n places from place p on, whose bits b begins with
unfoldable pub listed : ℕ → ℕ → ℕ → List ℕ
listed zero p b = []
listed (suc n) p b = cond (b % 2 == 1) (number_at p ∷ listed n (suc p) (b / 2)) (listed n (suc p) (b / 2))

-- in rising order, each once
abbrev pub numbers : ℕ → List ℕ
numbers b = listed 28 0 b

-- ---- what the list is

-- each number below those that follow it
abbrev pub Rising : List ℕ → Type 0
Rising [] = Unit {0}
Rising (n ∷ ns) = ((k : ℕ) → Memᴰ k ns → n < k) × Rising ns

-- the codes told of shapes rise, and are the codes of these shapes and no others
pub record Listed (ss : List Shape) : Type 0 where
  pub rising : Rising (numbers (codes_of ss))
  pub holds : (s : Shape) → Memᴰ s ss → Memᴰ (code_number s.code) (numbers (codes_of ss))
  pub only : (n : ℕ) → Memᴰ n (numbers (codes_of ss)) → (s : Shape) × Memᴰ s ss × (code_number s.code ≡ n)

abbrev pub NumbersExact : Type 0
NumbersExact = (ss : List Shape) → Listed ss
