use Rattle.std.proofs.Common.{◌≡◌, vec_items, sym, arith, rules}
use Rattle.std.specs.Vec.{with_items}
use Rattle.std.proofs.lemmas.List.{with_items_is}
use Rattle.film.specs.Made.{frame_of}
use Rattle.film.proofs.Limiting.{limits_of, narrow}
use Rattle.film.proofs.Spans.{span_parts}
use Rattle.runs.specs.Slots.{row_slots}
use Rattle.runs.proofs.Places.{row_room, moved_sound, moved_changed}
use Rattle.runs.proofs.Films.{still_sound, span_written, beside_kept}
use Rattle.runs.proofs.runfilm.RunFilmFilm.write_span.Goals as goal

pub write_row-requires : goal.write_row-requires
write_row-requires c =
    let f = c.args.self.now in
    let p = c.args.span in
    let on = span_parts (frame_of f.numbers) p.row p.first p.end (sym c.if-not-has_span.ensures) in
    let m = row_room p.row f.numbers.height (row_slots f.numbers.width) on.down in
    let n = narrow (frame_of f.numbers) (limits_of (frame_of f.numbers) f.numbers.ok) in
    record {
      ready = (moved_sound f.numbers.width p.row _ _ _ _ c.deref_mut.ensures.value c.deref_mut-2.ensures.value (f.sound p.row on.down), (omega arith, omega arith));
      span = (on.order, (on.across, omega arith));
    }

pub invariant_of-self : goal.invariant_of-self
invariant_of-self c =
    let f = c.args.self.now in
    let p = c.args.span in
    let cs = c.write_row.new.counts in
    let ss = c.write_row.new.slots in
    let ce : vec_items (with_items f.memory.counts cs) ≡ cs = with_items_is f.memory.counts cs (search rules) in
    let se : vec_items (with_items f.memory.slots ss) ≡ ss = with_items_is f.memory.slots ss (search rules) in
    let q = moved_changed f.numbers.width p.row p.first p.end c.args.dark _ _ _ _ _ _ _ _ c.deref_mut.ensures.value c.deref_mut-2.ensures.value (sym ce) (sym se) c.write_row.ensures in
    record { counted = f.counted; roomy = f.roomy; sound = still_sound f.numbers.width f.numbers.height p.row p.first p.end c.args.dark _ _ _ _ f.sound q }

pub returns : goal.returns
returns c =
    let f = c.args.self.now in
    let p = c.args.span in
    let on = span_parts (frame_of f.numbers) p.row p.first p.end (sym c.if-not-has_span.ensures) in
    let cs = c.write_row.new.counts in
    let ss = c.write_row.new.slots in
    let ce : vec_items (with_items f.memory.counts cs) ≡ cs = with_items_is f.memory.counts cs (search rules) in
    let se : vec_items (with_items f.memory.slots ss) ≡ ss = with_items_is f.memory.slots ss (search rules) in
    let q = moved_changed f.numbers.width p.row p.first p.end c.args.dark _ _ _ _ _ _ _ _ c.deref_mut.ensures.value c.deref_mut-2.ensures.value (sym ce) (sym se) c.write_row.ensures in
    record {
      written = span_written f.numbers p.row p.first p.end c.args.dark _ _ _ _ on.down on.order on.across f.sound q;
      beside = beside_kept f.numbers p.row p.first p.end c.args.dark _ _ _ _ on.down q;
    }
