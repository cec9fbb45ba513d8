-- which blocks are entered
use Rattle.std.proofs.Common.{◌≡◌, ℕ, zero, suc, ◌<◌, Bool, true, false, cond, ltb, List, [], length, None, Option, sym, refl, ap, ◌∙◌, subst, arith}
use Rattle.laid.proofs.Nothing.{weighs_nothing}
use Rattle.laid.specs.Laid.{LaidObject, lay_all, lay_block, objects_in}
use Rattle.laid.specs.Stacks.{EnteredAt, first_in}
use Rattle.records.specs.Records as seen
use Rattle.records.specs.Records.{ApertureSeen, FigureSeen, ObjectSeen, seen_aperture}
use Rattle.records.specs.Weights.{figure_at, or_nothing, weight_told}
use Rattle.records.specs.declared.weights.Weight.{Weight}
use Rattle.std.proofs.lemmas.Bool.{ltb-false}

nil : (b : Bool) (v : List LaidObject) → v ≡ [] → cond b v [] ≡ []
nil true v e = e
nil false v e = refl

module _ (aps : List ApertureSeen) (os : List ObjectSeen) (k n : ℕ) where
  no_block : (f : FigureSeen) → figure_at aps n ≡ f → objects_in n os f ≡ [] → EnteredAt aps os k n None
  no_block f e z pcs deep q turn = nil (ltb n k) (lay_block aps os pcs deep q turn n) (go deep)
    where
      go : (deep : ℕ) → lay_block aps os pcs deep q turn n ≡ []
      go zero = refl
      go (suc deep) = ap (λ (g : FigureSeen). lay_all pcs (lay_block aps os pcs deep) n q turn (objects_in n os g)) e ∙ ap (λ (v : List ObjectSeen). lay_all pcs (lay_block aps os pcs deep) n q turn v) z

  enters_by : (f : FigureSeen) → figure_at aps n ≡ f → n < k → EnteredAt aps os k n (first_in f)
  enters_by (seen.circle h) e l = no_block (seen.circle h) e refl
  enters_by (seen.rectangle a b) e l = no_block (seen.rectangle a b) e refl
  enters_by (seen.obround a b) e l = no_block (seen.obround a b) e refl
  enters_by (seen.block first) e l = (l, e)

  pub enters : (r : Option ℕ) → n < k → r ≡ first_in (figure_at aps n) → EnteredAt aps os k n r
  enters r l e = subst (EnteredAt aps os k n) (sym e) (enters_by (figure_at aps n) refl l)

  pub passes : (m : ℕ) (w : Weight) → length aps ≡ m → n < 128 → w ≡ or_nothing (weight_told m aps os n) → false ≡ ltb 0 w.laid → EnteredAt aps os k n None
  passes m w e h is t pcs deep q turn =
      nil (ltb n k) (lay_block aps os pcs deep q turn n) (weighs_nothing aps os m n w e h is (omega (arith, ltb-false 0 w.laid (sym t))) pcs deep q turn)
