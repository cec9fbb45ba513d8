-- the search for an aperture's code
use Rattle.std.proofs.Common.{◌≡◌, ℕ, ◌+◌, cond, eqb, List, [], ◌∷◌, map, Some, refl, ap, ◌∙◌}
use Rattle.records.specs.Records.{seen_aperture}
use Rattle.records.specs.declared.kinds.Aperture.{Aperture}
use Rattle.rules.specs.Rules.{number_from, number_of}
use Rattle.std.proofs.lemmas.Iterator.Adapters.{position_from-zero}
use Rattle.std.specs.List.{position, position_from}

number_from_is : (k n : ℕ) (aps : List Aperture) → position_from (λ (a : Aperture). eqb a.code k) n aps ≡ number_from n k (map seen_aperture aps)
number_from_is k n [] = refl
number_from_is k n (a ∷ aps) = ap (cond (eqb a.code k) (Some n)) (number_from_is k (n + 1) aps)

pub number_is : (k : ℕ) (aps : List Aperture) → position (λ (a : Aperture). eqb a.code k) aps ≡ number_of k (map seen_aperture aps)
number_is k aps = position_from-zero (λ (a : Aperture). eqb a.code k) aps ∙ number_from_is k 0 aps
