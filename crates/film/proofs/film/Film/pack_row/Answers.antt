use Rattle.std.proofs.Common.{◌≡◌, ◌*◌, length, take, ap, ◌∙◌, arith}
use Rattle.std.proofs.lemmas.List.{length-take-le}
use Rattle.film.specs.Packed.{inked, byte_of, packed_length}
use Rattle.film.proofs.Packing.{room, byte_more, packs_row, pack_front}
use Rattle.film.proofs.film.Film.pack_row.Goals as goal

pub with_bit-byte-requires : goal.with_bit-byte-requires
with_bit-byte-requires g c =
    room (inked (g.Self.Film.meaning c.args.self.now) c.args.row) (8 * c.loop-k.k) c.loop-j.j c.loop-j.byte c.loop-j.invariant (omega arith)

pub loop-k-preserved : goal.loop-k-preserved
unfolding byte_of
loop-k-preserved g c =
    let m = g.Self.Film.meaning c.args.self.now in
    byte_more (byte_of (inked m c.args.row)) c.loop-k.packed-items (take c.in_ok-bytes.bytes c.args.out.now) c.loop-k.k c.loop-j.byte (omega arith) c.loop-k.invariant (let j : c.loop-j.j ≡ 8 = omega arith in rw j at c.loop-j.invariant)

pub returns-clause-bytes : goal.returns-clause-bytes
returns-clause-bytes g c =
    let m = g.Self.Film.meaning c.args.self.now in
    let p = packs_row m.frame c.args.row (length c.args.out.now) c.in_ok-bytes.bytes (c.in_ok-bytes.ensures ∙ ap (λ f. packed_length f c.args.row (length c.args.out.now)) c.numbers.ensures) in
    let f = p.fits in
    let i = p.is in
    let t : length (take c.in_ok-bytes.bytes c.args.out.now) ≡ c.in_ok-bytes.bytes = length-take-le c.in_ok-bytes.bytes c.args.out.now (omega arith) in
    pack_front m c.args.row c.args.out.now c.loop-k.packed-items c.loop-k.k c.in_ok-bytes.bytes p.on p.fits p.is (omega arith) c.loop-k.invariant
