-- Answers: what a good one came from, and what a command comes to.
use Rattle.std.proofs.Common.{◌≡◌, ℕ, Ok, Err, Result, refl}
use Rattle.drawing.specs.Books.{Books, Rooms, Standing, taken}
use Rattle.rules.specs.States.{EffectSeen, StateSeen}
use Rattle.words.specs.Words.{onward}

pub onward_ok : {A B E : Type 0} (r : Result A E) (f : A → Result B E) (y : B) → onward r f ≡ Ok y → (x : A) × (r ≡ Ok x) × (f x ≡ Ok y)
onward_ok (Ok x) f y h = (x, refl, h)
onward_ok (Err e) f y h = absurd (cc)

-- where reading stands once the tables have taken what was decided
abbrev pub entered : Rooms → Books → StateSeen × EffectSeen → Result Standing ℕ
entered room b d = onward (taken room b d.1) (λ b. Ok (record { state = d.0; books = b }))
