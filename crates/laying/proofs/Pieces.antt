-- the pieces of a contour
use Rattle.std.proofs.Common.{◌≡◌, ℕ, Bool, true, false, cond, List, [], ◌∷◌, map, take, drop, ℤ, Some, None, Option, sym, refl, ap, ◌∙◌, arith}
use Rattle.contour.specs.Chain.{contour_at, in_contour, last_of}
use Rattle.contour.specs.Closed.{closed_from, ends_at}
use Rattle.contour.specs.declared.pieces.Piece.{Piece}
use Rattle.contour.specs.Made.{Parts, made_contour, seen_contour}
use Rattle.contour.specs.Placed.{contour_of, piece_at}
use Rattle.contour.specs.declared.contour.Contour.{Contour}
use Rattle.laid.specs.Covered.{covers_point}
use Rattle.laid.specs.Laid.{closed_only, contour}
use Rattle.laid.specs.Puts.{put_at, seen_placing}
use Rattle.plane.specs.Plane.{At, same}
use Rattle.plane.specs.declared.points.Placing.{Placing}
use Rattle.plane.specs.Points.{FilePoint, file_point_at}
use Rattle.records.specs.Records.{seen_piece}
use Rattle.std.proofs.lemmas.List.{drop-map, take-map}

-- the same of the pieces as plain points
pub seen_part : (ps : List Piece) (first n : ℕ) (part : List Piece) → part ≡ take n (drop first ps) → map seen_piece part ≡ take n (drop first (map seen_piece ps))
seen_part ps first n part e = ap (map seen_piece) e ∙ sym (take-map seen_piece n (drop first ps)) ∙ ap (take n) (sym (drop-map seen_piece first ps))

-- the test that the program makes is the one that the laid contour is defined by
pub ends_same : (a s : At) (ps : List Piece) → ends_at a s ps ≡ same (last_of s (map seen_piece ps)) a
ends_same a s [] = refl
ends_same a s (p ∷ ps) = ends_same a (file_point_at p.end) ps

-- a contour with no pieces covers nothing
pub covers_none : (a : At) (x y : ℤ) → contour_at a [] x y ≡ false
unfolding in_contour
covers_none a x y = refl

placed_all : (pl : Placing) (ps : List Piece) → map (piece_at pl) ps ≡ map (put_at (seen_placing pl)) (map seen_piece ps)
placed_all pl [] = refl
placed_all pl (p ∷ ps) = ap (λ (es : List At). piece_at pl p ∷ es) (placed_all pl ps)

module _ (s : FilePoint) (ps : List Piece) (pl : Placing) where
  closed_only_lem : (t : Bool) → closed_from (file_point_at s) ps ≡ t → closed_only (file_point_at s) (map seen_piece ps) ≡ cond t (map seen_piece ps) []
  closed_only_lem t e = ap (λ (b : Bool). cond b (map seen_piece ps) []) (sym (ends_same (file_point_at s) (file_point_at s) ps) ∙ e)

  -- what the contour that is made covers
  pub made_covers : (k : Contour) → seen_contour (Some k) ≡ made_contour s ps pl
      → (x y : ℤ) → contour_of k.start k.pieces.now k.placing x y ≡ covers_point (contour (put_at (seen_placing pl) (file_point_at s)) (map (put_at (seen_placing pl)) (closed_only (file_point_at s) (map seen_piece ps)))) x y
  unfolding contour_of
  made_covers k e x y = go (closed_from (file_point_at s) ps) refl e
    where
      go : (t : Bool) → closed_from (file_point_at s) ps ≡ t → ◌≡◌ {A = Option Parts} (Some (record { start = k.start; pieces = k.pieces.now; placing = k.placing })) (cond t (Some (record { start = s; pieces = ps; placing = pl })) None)
          → contour_of k.start k.pieces.now k.placing x y ≡ contour_at (put_at (seen_placing pl) (file_point_at s)) (map (put_at (seen_placing pl)) (closed_only (file_point_at s) (map seen_piece ps))) x y
      go true t q =
          let K : Parts = record { start = k.start; pieces = k.pieces.now; placing = k.placing } in
          let W : Parts = record { start = s; pieces = ps; placing = pl } in
          let z : K ≡ W = cc in
          ap (λ (w : Parts). contour_of w.start w.pieces w.placing x y) z
          ∙ ap (λ (es : List At). contour_at (put_at (seen_placing pl) (file_point_at s)) es x y) (placed_all pl ps)
          ∙ ap (λ (es : List At). contour_at (put_at (seen_placing pl) (file_point_at s)) (map (put_at (seen_placing pl)) es) x y) (sym (closed_only_lem true t))
      go false t q = let z : ◌≡◌ {A = ℕ} 0 1 = cc in absurd (omega arith)

  -- no contour is made of pieces that do not lead back
  pub unmade_covers : None ≡ made_contour s ps pl
      → (x y : ℤ) → covers_point (contour (put_at (seen_placing pl) (file_point_at s)) (map (put_at (seen_placing pl)) (closed_only (file_point_at s) (map seen_piece ps)))) x y ≡ false
  unmade_covers e x y = go (closed_from (file_point_at s) ps) refl e
    where
      go : (t : Bool) → closed_from (file_point_at s) ps ≡ t → ◌≡◌ {A = Option Parts} None (cond t (Some (record { start = s; pieces = ps; placing = pl })) None)
          → contour_at (put_at (seen_placing pl) (file_point_at s)) (map (put_at (seen_placing pl)) (closed_only (file_point_at s) (map seen_piece ps))) x y ≡ false
      go true t q = let z : ◌≡◌ {A = ℕ} 0 1 = cc in absurd (omega arith)
      go false t q =
          ap (λ (es : List At). contour_at (put_at (seen_placing pl) (file_point_at s)) (map (put_at (seen_placing pl)) es) x y) (closed_only_lem false t)
          ∙ covers_none (put_at (seen_placing pl) (file_point_at s)) x y
