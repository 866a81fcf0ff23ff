-- The words of the kinds of bounds.
use Rattle.std.specs.Prelude.{ℕ, List, codes}
use Rattle.words.specs.declared.kind.Kind.{Kind}
use Rattle.words.specs.declared.kind.Kind.TheVariants.{Ordinary, Wraparound}

abbrev pub kind_word : Kind → List ℕ
kind_word Ordinary = codes "ordinary"
kind_word Wraparound = codes "wraparound"
