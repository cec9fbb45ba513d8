use Rattle.wording.specs.declared.refusals.Refusal.{Refusal}
use Rattle.words.specs.Words.{Told}

-- What a refusal that is printed tells.
abbrev pub told : Refusal → Told
told r = record { number = r.number; place = r.place; taken = r.taken }
