use Rattle.std.proofs.Common.{◌≡◌, ◌≤◌, length, vec_items, sym, rules}
use Rattle.bitmap.specs.Pixels.{own_bytes}
use Rattle.std.specs.Vec.{with_items}
use Rattle.std.proofs.lemmas.List.{with_items_is}
use Rattle.film.specs.Made.{frame_of}
use Rattle.film.proofs.Spans.{span_parts}
use Rattle.bitmap.proofs.Places.{Filled, filled_at, still_padded, span_written, beside_kept}
use Rattle.bitmap.proofs.bitmap.BitmapFilm.write_span.Goals as goal

pub invariant_of-self : goal.invariant_of-self
invariant_of-self c =
    let s = c.args.self.now in
    let p = c.args.span in
    let on = span_parts (frame_of s.numbers) p.row p.first p.end (sym c.if-not-has_span.ensures) in
    let ws = c.fill_bits.new.bytes in
    let e : vec_items (with_items s.bytes ws) ≡ ws = with_items_is s.bytes ws (search rules) in
    let o = c.deref_mut.ensures.value in
    let l : own_bytes s.numbers ≤ length (vec_items s.bytes) = search rules in
    let f : Filled s.numbers.width p.row p.first p.end c.args.dark (vec_items s.bytes) (vec_items (with_items s.bytes ws))
    = rw e (rw (sym o) (filled_at s.numbers.width p.row p.first p.end _ c.args.dark _ _ c.first_bit-start.ensures.is c.fill_bits.ensures.filled c.fill_bits.ensures.after)) in
    record { long = s.long; padded = still_padded s.numbers p.row p.first p.end c.args.dark _ _ f l on.across s.padded }

pub returns : goal.returns
returns c =
    let s = c.args.self.now in
    let p = c.args.span in
    let on = span_parts (frame_of s.numbers) p.row p.first p.end (sym c.if-not-has_span.ensures) in
    let ws = c.fill_bits.new.bytes in
    let e : vec_items (with_items s.bytes ws) ≡ ws = with_items_is s.bytes ws (search rules) in
    let o = c.deref_mut.ensures.value in
    let l : own_bytes s.numbers ≤ length (vec_items s.bytes) = search rules in
    let f : Filled s.numbers.width p.row p.first p.end c.args.dark (vec_items s.bytes) (vec_items (with_items s.bytes ws))
    = rw e (rw (sym o) (filled_at s.numbers.width p.row p.first p.end _ c.args.dark _ _ c.first_bit-start.ensures.is c.fill_bits.ensures.filled c.fill_bits.ensures.after)) in
    record {
      written = span_written s.numbers p.row p.first p.end c.args.dark _ _ on.down on.order on.across l f;
      beside = beside_kept s.numbers p.row p.first p.end c.args.dark _ _ on.down on.across f;
    }
