use Rattle.std.proofs.Common.{ℕ, ◌-◌, ◌<◌, ◌≤◌, ⊎_elim, arith, w32, SFits, rules}
use Rattle.paint.proofs.clipping.clip.Goals as goal
use Rattle.std.proofs.lemmas.Int.{ints}
use Rattle.std.proofs.lemmas.Bool.{cases_lt}

pub returns : goal.returns
returns c =
    let n = c.args.n in
    let f_left : SFits w32 c.args.b.left = search rules in
    let f_right : SFits w32 c.args.b.right = search rules in
    let f_bottom : SFits w32 c.args.b.bottom = search rules in
    let f_top : SFits w32 c.args.b.top = search rules in
    let n_ox : SFits w32 n.ox = search rules in
    let n_oy : SFits w32 n.oy = search rules in
    record {
      across = omega arith;
      wide = omega arith;
      down = omega arith;
      tall = omega arith;
      left = omega arith;
      right = λ h. omega arith;
      upper = omega arith;
      lower = λ h. omega arith;
      holds = λ k q kx xk qy yq i.
          let before_left = simp (c.columns-columns.ensures.origin, c.columns-columns.ensures.pitch) at (c.before-left.ensures.before k) in
          let past_right = simp (c.columns-columns.ensures.origin, c.columns-columns.ensures.pitch) at (c.upto-right.ensures.past k) in
          let j : ℕ = n.height - 1 - q in
          let past_high = simp (c.rows-rows.ensures.origin, c.rows-rows.ensures.pitch) at (c.upto-high.ensures.past j) in
          let before_low = simp (c.rows-rows.ensures.origin, c.rows-rows.ensures.pitch) at (c.before-low.ensures.before j) in
          let a : c.before-left.result ≤ k =
          ⊎_elim (λ (h : k < c.before-left.result). absurd (omega (arith, ints, before_left h, i.left))) (λ (h : c.before-left.result ≤ k). h) (cases_lt k c.before-left.result) in
          let b : k < c.upto-right.result =
          ⊎_elim (λ (h : k < c.upto-right.result). h) (λ (h : c.upto-right.result ≤ k). absurd (omega (arith, ints, past_right h (omega arith), i.right))) (cases_lt k c.upto-right.result) in
          let u : j < c.upto-high.result =
          ⊎_elim (λ (h : j < c.upto-high.result). h) (λ (h : c.upto-high.result ≤ j). absurd (omega (arith, ints, past_high h (omega arith), i.top))) (cases_lt j c.upto-high.result) in
          let d : c.before-low.result ≤ j =
          ⊎_elim (λ (h : j < c.before-low.result). absurd (omega (arith, ints, before_low h, i.bottom))) (λ (h : c.before-low.result ≤ j). h) (cases_lt j c.before-low.result) in
          (omega arith, omega arith, omega arith, omega arith);
    }
