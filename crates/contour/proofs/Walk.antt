-- a loop over the pieces of a chain: what is left gives the rest
use Rattle.std.proofs.Common.{◌≡◌, ℕ, suc, ◌+◌, ◌-◌, ◌<◌, ◌≤◌, Bool, List, [], ◌∷◌, ◌++◌, map, length, get_or, drop, Some, None, Option, Bor, sym, refl, ap, ◌∙◌, add-one, drop-cons, rules, arith}
use Rattle.std.specs.Bool.{IsTrue}
use Rattle.std.specs.Option.{MatchOption}
use Rattle.std.specs.Slice.{IsGetResult}
use Rattle.plane.specs.declared.points.Bounds.{Bounds}
use Rattle.plane.specs.Plane.{At, same}
use Rattle.plane.specs.Points.{file_point_at}
use Rattle.plane.proofs.Equal.{same_refl}
use Rattle.contour.specs.declared.pieces.Piece.{Piece}
use Rattle.contour.specs.Chain.{differ, counts, grow, box_from}
use Rattle.contour.specs.Closed.{ends_at, closed_from}
use Rattle.contour.proofs.Parity.{parity, differ_assoc}

-- what is left at i: the piece at i, and then what is left at i + 1
left_more : (f : Piece → At) (ps : List Piece) (i : ℕ) (e : Piece) → i < length ps → e ≡ get_or ps i e → map f (drop i ps) ≡ f e ∷ map f (drop (i + 1) ps)
left_more f ps i e h q = ap (map f) (drop-cons ps i e h) ∙ simp (← q, add-one)

-- one piece further on: the loop stands at t, and its flag has turned if the piece counts
pub parity_more : (f : Piece → At) (ps : List Piece) (i : ℕ) (e : Piece) (s t p : At) (b b' r : Bool) → i < length ps → e ≡ get_or ps i e → t ≡ f e → b' ≡ differ b (counts s t p) → r ≡ differ b (parity s (map f (drop i ps)) p) → r ≡ differ b' (parity t (map f (drop (i + 1) ps)) p)
parity_more f ps i e s t p b b' r h q k m n =
    let rest = map f (drop (i + 1) ps) in
    n ∙ (ap (λ (es : List At). differ b (parity s es p)) (left_more f ps i e h q ∙ ap (λ (a : At). a ∷ rest) (sym k))
    ∙ (differ_assoc b (counts s t p) (parity t rest p) ∙ ap (λ (a : Bool). differ a (parity t rest p)) (sym m)))

-- one piece more in front
pub box_push : (f : Piece → At) (b : Bounds) (ps : List Piece) (e : Piece) → box_from b (map f (ps ++ e ∷ [])) ≡ grow (box_from b (map f ps)) (f e)
box_push f b [] e = refl
box_push f b (p ∷ ps) e = box_push f (grow b (f p)) ps e

-- a chain ends where its last piece does
ends_last : (a s : At) (ps : List Piece) (d : Piece) → 0 < length ps → ends_at a s ps ≡ same (file_point_at (get_or ps (length ps - 1) d).end) a
ends_last a s [] d h = absurd (omega arith)
ends_last a s (p ∷ []) d h = refl
ends_last a s (p ∷ (q ∷ ps)) d h =
    let e : length (p ∷ (q ∷ ps)) - 1 ≡ suc (length (q ∷ ps) - 1) = omega arith in
    ends_last a (file_point_at p.end) (q ∷ ps) d (omega arith) ∙ ap (λ i. same (file_point_at (get_or (p ∷ (q ∷ ps)) i d).end) a) (sym e)

no_pieces : (a s : At) (ps : List Piece) → length ps ≤ 0 → ends_at a s ps ≡ same s a
no_pieces a s [] h = refl
no_pieces a s (p ∷ ps) h = absurd (omega arith)

pub closed_is : {P : Bor Piece → Type 0} (a : At) (ps : List Piece) (last : Option (Bor Piece)) (r : Bool) → IsGetResult ps 0 (length ps - 1) last → ((x : Bor Piece) → P x → r ≡ same (file_point_at x.now.end) a) → MatchOption last (IsTrue r) P → r ≡ closed_from a ps
closed_is a ps None r g f e = let h : length ps ≤ 0 = search rules in e ∙ sym (no_pieces a a ps h ∙ same_refl a)
closed_is a ps (Some x) r g f e =
    let h : 0 < length ps = search rules in
    let q : x.now ≡ get_or ps (length ps - 1) x.now = search rules in
    f x e ∙ ap (λ (p : Piece). same (file_point_at p.end) a) q ∙ sym (ends_last a a ps x.now h)
