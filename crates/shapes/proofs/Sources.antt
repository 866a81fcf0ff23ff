-- Laws of a table's coordinates and of the exchange of x and y.
use Rattle.std.proofs.Common.{◌≡◌, ◌-◌, ◌<◌, List, [], ◌∷◌, map, length, get_or, take, drop, sym, refl, ap, ◌∙◌, arith}
use Rattle.std.proofs.lemmas.List.{take_rest}
use Rattle.std.specs.List.{AllByRecursion}
use Rattle.shapes.specs.declared.code.Dimension.{Dimension}
use Rattle.shapes.specs.declared.code.Dimension.TheVariants.{Xy, Xyz, Xym, Xyzm}
use Rattle.shapes.specs.declared.coord.Coord.{Coord}
use Rattle.shapes.specs.Source.{Lacks, exchange, on_axes}

-- ---- the first of a list

pub map-none : {A B : Type 0} (f : A → B) (xs : List A) → length xs < 1 → map f xs ≡ []
map-none f [] h = refl
map-none f (x ∷ xs) h = absurd (omega arith)

pub map_first : {A B : Type 0} (f : A → B) (xs : List A) (d : A) (y : B) → 0 < length xs → y ≡ f (get_or xs 0 d) → map f xs ≡ y ∷ map f (take (length xs - 1) (drop 1 xs))
map_first f [] d y h e = absurd (omega arith)
map_first f (x ∷ xs) d y h e = ap (λ z. z ∷ map f xs) (sym e) ∙ ap (λ zs. y ∷ map f zs) (sym (take_rest (x ∷ xs) 1))

-- ---- lacking axes

exchange-lacks : (d : Dimension) (c : Coord) → Lacks d c → Lacks d (exchange c)
exchange-lacks Xy c p = p
exchange-lacks Xyz c p = p
exchange-lacks Xym c p = p
exchange-lacks Xyzm c p = p

pub exchanged-lack : (d : Dimension) (cs : List Coord) → AllByRecursion (Lacks d) cs → AllByRecursion (Lacks d) (map exchange cs)
exchanged-lack d [] h = tt
exchanged-lack d (c ∷ cs) h = (exchange-lacks d c h.0, exchanged-lack d cs h.1)

on-axes_lacks : (d : Dimension) (c : Coord) → Lacks d (on_axes d c)
on-axes_lacks Xy c = (refl, refl)
on-axes_lacks Xyz c = refl
on-axes_lacks Xym c = refl
on-axes_lacks Xyzm c = tt

pub table_lacks : (d : Dimension) (cs : List Coord) → AllByRecursion (Lacks d) (map (on_axes d) cs)
table_lacks d [] = tt
table_lacks d (c ∷ cs) = (on-axes_lacks d c, table_lacks d cs)

pub ruleset lacking = (exchanged-lack, table_lacks)
