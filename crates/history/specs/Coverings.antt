-- What covers the pixels of a film, and which covering was the last.
use Rattle.std.specs.Prelude.{◌≡◌, ℕ, Bool, true, false, ◌&&◌, ◌⊎◌, List, [], ◌∷◌, ◌++◌, nat_lt}
use Rattle.film.specs.Film.{Meaning}
use Rattle.film.specs.Frame.{Frame}
use Rattle.film.specs.declared.window.Window.{Window}
use Rattle.laid.specs.Covered.{covers_pixel}
use Rattle.laid.specs.Laid.{LaidObject}

-- The pixel of column c, row r is on the film.
abbrev pub on : Frame → ℕ → ℕ → Bool
on f c r = nat_lt c f.width && nat_lt r f.height

-- A thing that may cover pixels: an object laid by an accepted plot, within that plot's window; or a blanking.
pub data Covering : Type 0 where
  laid : Window → LaidObject → Covering
  blanking : Covering

-- It covers the pixel: a laid object if the window holds the pixel and the object covers its centre, a blanking always.
abbrev pub covers : Frame → Covering → ℕ → ℕ → Bool
covers f (laid v o) c r = covers_pixel f v o c r
covers f blanking c r = true

-- It is dark or clear; a blanking is clear.
abbrev pub is_dark : Covering → Bool
is_dark (laid v o) = o.dark
is_dark blanking = false

-- None of the coverings covers the pixel.
abbrev pub Never : Frame → ℕ → ℕ → List Covering → Type 0
Never f c r [] = Unit {0}
Never f c r (x ∷ xs) = (covers f x c r ≡ false) × Never f c r xs

-- x is the last of the coverings cs that covers the pixel: it covers it, and none after it does.
pub record Last (f : Frame) (c r : ℕ) (cs : List Covering) (x : Covering) : Type 0 where
  pub earlier : List Covering
  pub later : List Covering
  pub stands : cs ≡ earlier ++ (x ∷ later)
  pub covered : covers f x c r ≡ true
  pub uncovered : Never f c r later

-- The pixel, which was `before`, is `after` once the coverings cs were laid in their order: ever covered, it is dark
-- exactly when the last that covered it is dark; never covered, it is as it was.
abbrev pub Left : Frame → ℕ → ℕ → Bool → List Covering → Bool → Type 0
Left f c r before cs after =
    ((x : Covering) × (Last f c r cs x × (after ≡ is_dark x))) ⊎ (Never f c r cs × (after ≡ before))

-- Every pixel on the film shows the last thing that covered it; the film's numbers are as they were.
pub record Shows (before : Meaning) (cs : List Covering) (after : Meaning) : Type 0 where
  pub framed : after.frame ≡ before.frame
  pub pixels : (c r : ℕ) → on before.frame c r ≡ true → Left before.frame c r (before.pixel c r) cs (after.pixel c r)
