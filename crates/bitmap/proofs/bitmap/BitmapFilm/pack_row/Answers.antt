use Rattle.std.proofs.Common.{ℕ, ◌<◌, ◌≤◌, ◌++◌, length, get_or, drop, vec_items, refl, ap, ◌∙◌, rules}
use Rattle.film.specs.Made.{frame_of}
use Rattle.film.specs.Packed.{bytes_for}
use Rattle.film.proofs.Packing.{packs_row, pack_ends}
use Rattle.bitmap.specs.Pixels.{own_bytes, bitmap_meaning}
use Rattle.bitmap.proofs.Places.{row_packed, row_part}
use Rattle.bitmap.proofs.bitmap.BitmapFilm.pack_row.Goals as goal

pub returns-clause-bytes : goal.returns-clause-bytes
returns-clause-bytes c =
    let s = c.args.self.now in
    let xs = vec_items s.bytes in
    let out = c.args.out.now in
    let ys = c.copy_from_slice.new.self in
    let b = c.in_ok-bytes.bytes in
    let n = bytes_for s.numbers.width in
    let p = packs_row (frame_of s.numbers) c.args.row (length out) b c.in_ok-bytes.ensures in
    let l : own_bytes s.numbers ≤ length xs = search rules in
    let e = c.copy_from_slice.ensures.after ∙ row_part xs c.deref.result.now c.args.row b n p.is c.deref.ensures.value in
    let fit : (k : ℕ) → get_or (ys ++ drop b out) k 0 < 256 = λ k. let h = c.type_inv.out k in search rules in
    let z = row_packed s.numbers xs ys (drop b out) c.args.row s.padded p.on l fit e in
    pack_ends (bitmap_meaning xs s.numbers) c.args.row out (ys ++ drop b out) n p.on p.fits refl
    (ap (λ k. ys ++ drop k out) p.is ∙ ap (λ zs. zs ++ drop n out) z)
