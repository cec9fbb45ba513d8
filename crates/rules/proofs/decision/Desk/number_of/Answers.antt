use Rattle.records.specs.declared.kinds.Aperture.{Aperture}
use Rattle.rules.proofs.Codes.{number_is}
use Rattle.rules.proofs.decision.Desk.number_of.Goals as goal
use Rattle.std.proofs.Common.{eqb, ◌∙◌, rules, tests}
use Rattle.std.proofs.lemmas.Iterator.{YieldsList-from_slice}
use Rattle.std.proofs.lemmas.Iterator.Search.{position_from_yields_List}

pub returns : goal.returns
returns c =
    position_from_yields_List (λ (a : Aperture). eqb a.code c.args.code) _ _ _ c.position.ensures.ran
    (YieldsList-from_slice c.args.self.now.apertures.now cc) (λ x b q k. search (rules, tests))
    ∙ number_is c.args.code c.args.self.now.apertures.now
