-- what the frame of a block lays
use Rattle.std.proofs.Common.{◌≡◌, ℕ, suc, ◌+◌, Bool, cond, not, List, [], Some, sym, ap, ◌∙◌}
use Rattle.laid.specs.Laid.{is_dark, lay_all, lay_block, lay_outline, objects_in}
use Rattle.laid.specs.Puts.{Put, composed, flashed_at, seen_placing}
use Rattle.laid.specs.Stacks.{EnteredAt, FlashOf, FrameOf, turns_all, turns_block, turns_outline}
use Rattle.laid.specs.declared.kinds.Flash.{Flash}
use Rattle.laid.specs.declared.kinds.Frame.{Frame}
use Rattle.laid.specs.declared.kinds.PlacedObject.{PlacedObject}
use Rattle.plane.specs.Points.{file_point_at}
use Rattle.records.specs.Records.{ApertureSeen, FigureSeen, ObjectSeen, seen_outline}
use Rattle.records.specs.Weights.{owned_from}
use Rattle.std.proofs.lemmas.Bool.{lt-ltb}

module _ (aps : List ApertureSeen) (os : List ObjectSeen) (k : ℕ) (p : PlacedObject) (f : Flash) (is : FlashOf (seen_outline p.object.outline) (Some f)) where
  pub opens_frame : (x : Frame) → EnteredAt aps os k f.number (Some x.next) → x.block ≡ f.number
      → seen_placing x.placing ≡ composed (seen_placing p.placing) (flashed_at (file_point_at f.at) f.mirror)
      → x.placing.level ≡ p.placing.level + 1
      → x.turn ≡ cond (is_dark p.object.polarity) p.turn (not p.turn)
      → FrameOf aps os k p x
  opens_frame x h b e l t =
      record {
        level = l;
        lays = λ pcs deep.
            let q : Put = composed (seen_placing p.placing) (flashed_at (file_point_at f.at) f.mirror) in
            let turn : Bool = cond (is_dark p.object.polarity) p.turn (not p.turn) in
            ap (lay_outline pcs (lay_block aps os pcs (suc deep)) k (seen_placing p.placing) p.turn p.object.polarity) is
            ∙ ap (λ (v : Bool). cond v (lay_block aps os pcs (suc deep) q turn f.number) []) (lt-ltb f.number k h.0)
            ∙ ap (λ (g : FigureSeen). lay_all pcs (lay_block aps os pcs deep) f.number q turn (objects_in f.number os g)) h.1
            ∙ ap (λ n. lay_all pcs (lay_block aps os pcs deep) n q turn (owned_from n x.next os)) (sym b)
            ∙ ap (λ (v : Bool). lay_all pcs (lay_block aps os pcs deep) x.block q v (owned_from x.block x.next os)) (sym t)
            ∙ ap (λ (v : Put). lay_all pcs (lay_block aps os pcs deep) x.block v x.turn (owned_from x.block x.next os)) (sym e);
        turns = λ deep.
            ap (turns_outline (turns_block aps os (suc deep))) is
            ∙ ap (λ (g : FigureSeen). 2 + turns_all (turns_block aps os deep) (objects_in f.number os g)) h.1
            ∙ ap (λ n. 2 + turns_all (turns_block aps os deep) (owned_from n x.next os)) (sym b);
      }
