use Rattle.std.proofs.Common.{◌≡◌, List, [], ◌∷◌, ◌++◌, map, sym, refl, ap, ◌∙◌, subst, rules}
use Rattle.std.proofs.lemmas.Fn.{fold_over, slice_gives, fronts}
use Rattle.std.proofs.lemmas.List.{map_push}
use Rattle.bounding.specs.Record.{Kept, merge}
use Rattle.bounding.specs.Laws.{merged_from}
use Rattle.bounding.specs.Walk.{empty_record, kept}
use Rattle.bounding.specs.declared.records.PageRecord.{PageRecord}
use Rattle.book.proofs.book.merged.Goals as goal

-- one record more, merged last
merged-push : (k : Kept) (ls : List Kept) (l : Kept) → merged_from k (ls ++ l ∷ []) ≡ merge (merged_from k ls) l
unfolding merged_from
merged-push k [] l = refl
merged-push k (x ∷ ls) l = merged-push (merge k x) ls l

merged-none : (k : Kept) → merged_from k [] ≡ k
unfolding merged_from
merged-none k = refl

merged-more : (ys : List PageRecord) (a y b : PageRecord) → kept a ≡ merged_from empty_record (map kept ys) → kept b ≡ merge (kept a) (kept y) → kept b ≡ merged_from empty_record (map kept (ys ++ y ∷ []))
merged-more ys a y b all more = more ∙ ap (λ (k : Kept). merge k (kept y)) all ∙ sym (merged-push empty_record (map kept ys) (kept y)) ∙ ap (merged_from empty_record) (sym (map_push kept ys y))

pub returns : goal.returns
returns c =
    subst (λ (l : List PageRecord). kept c.fold.result ≡ merged_from empty_record (map kept l)) c.iter.ensures.rest
    (fold_over fronts (λ y. y.now) _ (λ (ys : List PageRecord) (r : PageRecord). kept r ≡ merged_from empty_record (map kept ys)) _
    (λ ys a x b f' j k. let more : kept b ≡ merge (kept a) (kept x.now) = search rules in (merged-more ys a x.now b j more, search rules))
    _ _ _ _ (slice_gives c.iter.result) (c.empty.ensures ∙ sym (merged-none empty_record)) c.fold.ensures.ran)
