-- What is sound and what fits stays so as the tables grow.
use Rattle.std.proofs.Common.{◌≡◌, ℕ, ◌+◌, ◌<◌, ◌≤◌, ◌⊎◌, List, [], ◌∷◌, ◌++◌, length, take, drop, Some, None, Option, sym, refl, ap, ◌∙◌, subst, inl, inr, arith}
use Rattle.contour.specs.Chain.{last_of}
use Rattle.plane.specs.Plane.{At}
use Rattle.recordlaws.proofs.Fits.{AllEarlier, AllOwned, ApertureFit, Fit, OwnerFit}
use Rattle.recordlaws.specs.Laws.{AperturesSound, ContourSound, Earlier, FigureSound, IsBlock, ObjectsSound, OutlineSound, OwnerSound, PiecesSound, Within}
use Rattle.records.specs.Records as seen
use Rattle.records.specs.Records.{ApertureSeen, FigureSeen, ObjectSeen, OutlineSeen}
use Rattle.records.specs.Weights.{figure_at}
use Rattle.records.specs.declared.kinds.Owner.TheVariants.{Block, Layer, Repeat}
use Rattle.records.specs.declared.kinds.Owner.{Owner}
use Rattle.rules.specs.States as state
use Rattle.rules.specs.States.{RegionSeen}
use Rattle.std.proofs.lemmas.List.{drop-append-le, get_or_append_left, get_or_past, get_or_push, length-drop, length_push, take-append-le}
use Rattle.std.proofs.lemmas.Bool.{cases_lt, cases_order}

-- One more aperture

pub figure_before : (aps : List ApertureSeen) (a : ApertureSeen) (n : ℕ) → n < length aps → figure_at (aps ++ (a ∷ [])) n ≡ figure_at aps n
figure_before aps a n h = ap (λ (x : ApertureSeen). x.figure) (get_or_append_left aps (a ∷ []) (record { code = 0; figure = seen.circle 0 }) n h)

pub figure_last : (aps : List ApertureSeen) (a : ApertureSeen) → figure_at (aps ++ (a ∷ [])) (length aps) ≡ a.figure
figure_last aps a = ap (λ (x : ApertureSeen). x.figure) (get_or_push aps a (record { code = 0; figure = seen.circle 0 }) (length aps) refl)

pub figure_past : (aps : List ApertureSeen) (n : ℕ) → length aps ≤ n → figure_at aps n ≡ seen.circle 0
figure_past aps n h = ap (λ (x : ApertureSeen). x.figure) (get_or_past aps n (record { code = 0; figure = seen.circle 0 }) h)

outline_aperture : (aps : List ApertureSeen) (a : ApertureSeen) (pcs : List At) (o : OutlineSeen) → OutlineSound aps pcs o → OutlineSound (aps ++ (a ∷ [])) pcs o
outline_aperture aps a pcs (seen.circle p h) s = s
outline_aperture aps a pcs (seen.rectangle p x y) s = s
outline_aperture aps a pcs (seen.obround p x y) s = s
outline_aperture aps a pcs (seen.stroke b e h) s = s
outline_aperture aps a pcs (seen.arc b e c clockwise h) s = s
outline_aperture aps a pcs (seen.contour b first count) s = s
outline_aperture aps a pcs (seen.block n p m) (w, l, b) =
    (w, simp length_push (omega arith), subst IsBlock (sym (figure_before aps a n l)) b)

owner_aperture : (aps : List ApertureSeen) (a : ApertureSeen) (o : OutlineSeen) (w : Owner) → OwnerSound aps o w → OwnerSound (aps ++ (a ∷ [])) o w
owner_aperture aps a o Layer s = s
owner_aperture aps a o (Block k) (l, b, e) = (simp length_push (omega arith), subst IsBlock (sym (figure_before aps a k l)) b, e)
owner_aperture aps a o (Repeat r) s = s

pub objects_aperture : (aps : List ApertureSeen) (a : ApertureSeen) (pcs : List At) (os : List ObjectSeen) → ObjectsSound aps pcs os → ObjectsSound (aps ++ (a ∷ [])) pcs os
objects_aperture aps a pcs [] s = s
objects_aperture aps a pcs (o ∷ os) (x, y, z) =
    (outline_aperture aps a pcs o.outline x, owner_aperture aps a o.outline o.owner y, objects_aperture aps a pcs os z)

pub apertures_more : (n : ℕ) (aps : List ApertureSeen) (a : ApertureSeen) → AperturesSound n aps → FigureSound n a.figure → AperturesSound n (aps ++ (a ∷ []))
apertures_more n [] a s f = (f, tt)
apertures_more n (b ∷ aps) a (x, y) f = (x, apertures_more n aps a y f)

-- One more object

figure_object : (n : ℕ) (f : FigureSeen) → FigureSound n f → FigureSound (n + 1) f
figure_object n (seen.circle h) s = s
figure_object n (seen.rectangle a b) s = s
figure_object n (seen.obround a b) s = s
figure_object n (seen.block first) s = omega arith

pub apertures_object : (n : ℕ) (aps : List ApertureSeen) → AperturesSound n aps → AperturesSound (n + 1) aps
apertures_object n [] s = s
apertures_object n (a ∷ aps) (x, y) = (figure_object n a.figure x, apertures_object n aps y)

pub objects_more : (aps : List ApertureSeen) (pcs : List At) (os : List ObjectSeen) (o : ObjectSeen)
    → ObjectsSound aps pcs os → OutlineSound aps pcs o.outline → OwnerSound aps o.outline o.owner → ObjectsSound aps pcs (os ++ (o ∷ []))
objects_more aps pcs [] o s x y = (x, y, tt)
objects_more aps pcs (b ∷ os) o (p, q, r) x y = (p, q, objects_more aps pcs os o r x y)

earlier_more : (k : ℕ) (os : List ObjectSeen) (o : ObjectSeen) → AllEarlier k os → Earlier k o.outline → AllEarlier k (os ++ (o ∷ []))
earlier_more k [] o s e = (e, tt)
earlier_more k (b ∷ os) o (x, y) e = (x, earlier_more k os o y e)

owned_more : (w : Owner) (os : List ObjectSeen) (o : ObjectSeen) → AllOwned w os → o.owner ≡ w → AllOwned w (os ++ (o ∷ []))
owned_more w [] o s e = (e, tt)
owned_more w (b ∷ os) o (x, y) e = (x, owned_more w os o y e)

-- One more piece

contour_piece : (pcs : List At) (p a : At) (first count : ℕ) → ContourSound pcs a first count → ContourSound (pcs ++ (p ∷ [])) a first count
contour_piece pcs p a first count s =
    let h = s.there in
    let d = drop-append-le first pcs (p ∷ []) (omega arith) in
    let l : count ≤ length (drop first pcs) = simp length-drop (omega arith) in
    let t : take count (drop first (pcs ++ (p ∷ []))) ≡ take count (drop first pcs) = ap (take count) d ∙ take-append-le count (drop first pcs) (p ∷ []) l in
    record { some = s.some; there = simp length_push (omega arith); closed = ap (last_of a) t ∙ s.closed }

outline_piece : (aps : List ApertureSeen) (pcs : List At) (p : At) (o : OutlineSeen) → OutlineSound aps pcs o → OutlineSound aps (pcs ++ (p ∷ [])) o
outline_piece aps pcs p (seen.circle a h) s = s
outline_piece aps pcs p (seen.rectangle a x y) s = s
outline_piece aps pcs p (seen.obround a x y) s = s
outline_piece aps pcs p (seen.stroke b e h) s = s
outline_piece aps pcs p (seen.arc b e c clockwise h) s = s
outline_piece aps pcs p (seen.contour a first count) (w, c) = (w, contour_piece pcs p a first count c)
outline_piece aps pcs p (seen.block n a m) s = s

pub objects_piece : (aps : List ApertureSeen) (pcs : List At) (p : At) (os : List ObjectSeen) → ObjectsSound aps pcs os → ObjectsSound aps (pcs ++ (p ∷ [])) os
objects_piece aps pcs p [] s = s
objects_piece aps pcs p (o ∷ os) (x, y, z) = (outline_piece aps pcs p o.outline x, y, objects_piece aps pcs p os z)

pub pieces_more : (pcs : List At) (p : At) → PiecesSound pcs → Within 30000 p → PiecesSound (pcs ++ (p ∷ []))
pieces_more [] p s w = (w, tt)
pieces_more (b ∷ pcs) p (x, y) w = (x, pieces_more pcs p y w)

-- The state

open_aperture : (aps : List ApertureSeen) (a : ApertureSeen) (w : Owner) (n : Option ℕ) → ApertureFit aps w n → ApertureFit (aps ++ (a ∷ [])) w n
open_aperture aps a w None s = s
open_aperture aps a w (Some n) (l, e) = (simp length_push (omega arith), e)

-- a block is one of the apertures
pub block_there : (aps : List ApertureSeen) (n : ℕ) → IsBlock (figure_at aps n) → n < length aps
block_there aps n b = by_order (cases_lt n (length aps))
  where
    by_order : (n < length aps) ⊎ (length aps ≤ n) → n < length aps
    by_order (inl l) = l
    by_order (inr l) = absurd (subst IsBlock (figure_past aps n l) b)

-- an aperture that is no block leaves the last block the last
last_aperture : (aps : List ApertureSeen) (a : ApertureSeen) (k : ℕ) → (IsBlock a.figure → ⊥) → ((n : ℕ) → IsBlock (figure_at aps n) → n ≤ k)
    → (n : ℕ) → IsBlock (figure_at (aps ++ (a ∷ [])) n) → n ≤ k
last_aperture aps a k plain last n b = by_order (cases_order n (length aps))
  where
    by_order : (n ≡ length aps) ⊎ ((n < length aps) ⊎ (length aps < n)) → n ≤ k
    by_order (inl e) = absurd (plain (subst IsBlock (ap (figure_at (aps ++ (a ∷ []))) e ∙ figure_last aps a) b))
    by_order (inr (inl l)) = last n (subst IsBlock (figure_before aps a n l) b)
    by_order (inr (inr l)) = let t = block_there (aps ++ (a ∷ [])) n b in absurd (omega (arith, length_push aps a))

owner_fits_aperture : (aps : List ApertureSeen) (a : ApertureSeen) (os : List ObjectSeen) (w : Owner) → (IsBlock a.figure → ⊥)
    → OwnerFit aps os w → OwnerFit (aps ++ (a ∷ [])) os w
owner_fits_aperture aps a os Layer plain s = s
owner_fits_aperture aps a os (Block k) plain s =
    let h = s.there in
    record { there = simp length_push (omega arith); block = subst IsBlock (sym (figure_before aps a k h)) s.block; last = last_aperture aps a k plain s.last; earlier = s.earlier }
owner_fits_aperture aps a os (Repeat r) plain s = s

pub fits_aperture : {aps : List ApertureSeen} {os : List ObjectSeen} {pcs : List At} {p : Option At} {n : Option ℕ} {w : Owner} {g : RegionSeen} (a : ApertureSeen)
    → (IsBlock a.figure → ⊥) → Fit aps os pcs p n w g → Fit (aps ++ (a ∷ [])) os pcs p n w g
fits_aperture {aps} {os} {pcs} {p} {n} {w} {g} a plain f =
    record { point = f.point; aperture = open_aperture aps a w n f.aperture; owner = owner_fits_aperture aps a os w plain f.owner; region = f.region }

-- an object of what is open
owner_fits_object : (aps : List ApertureSeen) (os : List ObjectSeen) (o : ObjectSeen) (w : Owner) → o.owner ≡ w → OwnerSound aps o.outline w
    → OwnerFit aps os w → OwnerFit aps (os ++ (o ∷ [])) w
owner_fits_object aps os o Layer e s f = f
owner_fits_object aps os o (Block k) e s f = record { there = f.there; block = f.block; last = f.last; earlier = earlier_more k os o f.earlier s.2 }
owner_fits_object aps os o (Repeat r) e s f =
    let h = f.there in
    let d = drop-append-le r.first os (o ∷ []) h in
    record {
      columns = f.columns;
      rows = f.rows;
      there = simp length_push (omega arith);
      owned = subst (AllOwned (Repeat r)) (sym d) (owned_more (Repeat r) (drop r.first os) o f.owned e);
    }

pub fits_object : {aps : List ApertureSeen} {os : List ObjectSeen} {pcs : List At} {p : Option At} {n : Option ℕ} {w : Owner} {g : RegionSeen} (o : ObjectSeen)
    → o.owner ≡ w → OwnerSound aps o.outline w → Fit aps os pcs p n w g → Fit aps (os ++ (o ∷ [])) pcs p n w g
fits_object {aps} {os} {pcs} {p} {n} {w} {g} o e s f =
    record { point = f.point; aperture = f.aperture; owner = owner_fits_object aps os o w e s f.owner; region = f.region }

-- a piece of the contour begun
pub last_of_more : (a : At) (es : List At) (p : At) → last_of a (es ++ (p ∷ [])) ≡ p
last_of_more a [] p = refl
last_of_more a (e ∷ es) p = last_of_more e es p

pub fits_piece : {aps : List ApertureSeen} {os : List ObjectSeen} {pcs : List At} {p : Option At} {n : Option ℕ} {w : Owner} {a : At} {first : ℕ} (q : At)
    → Within 30000 q → Fit aps os pcs p n w (state.begun a first) → Fit aps os (pcs ++ (q ∷ [])) (Some q) n w (state.begun a first)
fits_piece {aps} {os} {pcs} {p} {n} {w} {a} {first} q h f =
    let t = f.region.there in
    let d = drop-append-le first pcs (q ∷ []) t in
    record {
      point = h;
      aperture = f.aperture;
      owner = f.owner;
      region = record { begins = f.region.begins; there = simp length_push (omega arith); leads = ap Some (sym (ap (last_of a) d ∙ last_of_more a (drop first pcs) q)) };
    }
