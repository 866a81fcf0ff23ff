-- The words of the functions that both kinds of bounds have.
use Rattle.std.specs.Prelude.{ℕ, List, codes}
use Rattle.words.specs.declared.function.OnePair.{OnePair}
use Rattle.words.specs.declared.function.OnePair.TheVariants.{New, Lo, Hi, IsWraparound, Width, Mid, IsEmpty}
use Rattle.words.specs.declared.function.PairAndValue.{PairAndValue}
use Rattle.words.specs.declared.function.PairAndValue.TheVariants.{IntersectsValue, MergeValue, ExpandBy}
use Rattle.words.specs.declared.function.TwoPairs.{TwoPairs}
use Rattle.words.specs.declared.function.TwoPairs.TheVariants.{IntersectsInterval, ContainsInterval, MergeInterval, Same}
use Rattle.words.specs.declared.function.Function.{Function}
use Rattle.words.specs.declared.function.Function.TheVariants.{Empty, Full, Take, OfPair, OfPairAndValue, OfTwoPairs}

abbrev pub one_pair_word : OnePair → List ℕ
one_pair_word New = codes "new"
one_pair_word Lo = codes "lo"
one_pair_word Hi = codes "hi"
one_pair_word IsWraparound = codes "is_wraparound"
one_pair_word Width = codes "width"
one_pair_word Mid = codes "mid"
one_pair_word IsEmpty = codes "is_empty"

abbrev pub pair_and_value_word : PairAndValue → List ℕ
pair_and_value_word IntersectsValue = codes "intersects_value"
pair_and_value_word MergeValue = codes "merge_value"
pair_and_value_word ExpandBy = codes "expand_by"

abbrev pub two_pairs_word : TwoPairs → List ℕ
two_pairs_word IntersectsInterval = codes "intersects_interval"
two_pairs_word ContainsInterval = codes "contains_interval"
two_pairs_word MergeInterval = codes "merge_interval"
two_pairs_word Same = codes "same"

abbrev pub function_word : Function → List ℕ
function_word Empty = codes "empty"
function_word Full = codes "full"
function_word Take = codes "take"
function_word (OfPair f) = one_pair_word f
function_word (OfPairAndValue f) = pair_and_value_word f
function_word (OfTwoPairs f) = two_pairs_word f
